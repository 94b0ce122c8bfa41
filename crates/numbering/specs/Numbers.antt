-- Which numbers name one of so many participants or auctions, which are numbered from 1.
use Rattle.std.specs.Prelude.{◌≡◌, ℕ, ◌<◌, ◌⊎◌, Result, MatchResult}
use Rattle.numbering.specs.declared.numbers.NoSuchNumber.{NoSuchNumber}
use Rattle.numbering.specs.declared.numbers.Number.{Number}

-- a number is that of one of them, or it is outside 1 to `most`
abbrev pub Names : (most : ℕ) → ℕ → Result (Number most) (NoSuchNumber most) → Type 0
Names most n r = MatchResult r (λ p. p.number ≡ n) (λ _. (n < 1) ⊎ (most < n))
