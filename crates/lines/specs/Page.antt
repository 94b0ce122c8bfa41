-- Texts in the page.
use Rattle.std.specs.Prelude.{ℕ, ◌+◌, List, ◌++◌, length, take, drop, codes, decimal, flat_map}

-- the page with the text in it from `at`, and all its other bytes as they were
unfoldable pub laid : ℕ → List ℕ → List ℕ → List ℕ
laid at text page = take at page ++ (text ++ drop (at + length text) page)

-- a number in decimal, without leading zeros, after one space
abbrev pub spaced_one : ℕ → List ℕ
spaced_one n = codes " " ++ decimal n

-- each number after one space
abbrev pub spaced : List ℕ → List ℕ
spaced ns = flat_map spaced_one ns
