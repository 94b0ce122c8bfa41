mod Folders
mod Runs
