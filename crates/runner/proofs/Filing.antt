-- The credit law over runs.
use Rattle.rules.proofs.Promises.{credit_law}
use Rattle.runner.specs.Files.{LawAfterFiles, LawAfterRuns, history_after, history_after_pages}

pub law_after_runs : LawAfterRuns
law_after_runs input place page m r page' m' h s p who = credit_law m' (history_after h s) p who

pub law_after_files : LawAfterFiles
law_after_files input m m' place h s p who = credit_law m' (history_after_pages h s) p who
