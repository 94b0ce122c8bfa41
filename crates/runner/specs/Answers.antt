-- The numbers that a line shows of an answer, and that they have room in it.
use Rattle.std.specs.Prelude.{ℕ, ◌≤◌, List, length, Ok, Err, Result}
use Rattle.lines.specs.Lines.{numbers_in}
use Rattle.lines.specs.Page.{spaced}
use Rattle.lines.specs.declared.writer.Numbers.{Numbers}
use Rattle.rules.specs.declared.refusals.Refusal.{Refusal}
use Rattle.runner.specs.declared.outcomes.Refused.{Refused}
use Rattle.runner.specs.declared.outcomes.Refused.TheVariants.{Book}

-- what is shown of a reply, as a list
abbrev pub shown_of : Result Numbers Refused → Result (List ℕ) Refused
shown_of (Ok n) = Ok (numbers_in n)
shown_of (Err e) = Err e

abbrev pub reply_shown : {A : Type 0} → (A → List ℕ) → Result A Refusal → Result (List ℕ) Refused
reply_shown shows (Ok v) = Ok (shows v)
reply_shown shows (Err e) = Err (Book e)

-- the numbers with their spaces: a line of 64 bytes has a letter, a word of three bytes and a line feed besides
abbrev pub FitInLine : Result Numbers Refused → Type 0
FitInLine (Ok n) = length (spaced (numbers_in n)) ≤ 59
FitInLine (Err e) = Unit {0}

-- a fact about a granted reply
abbrev pub Fitting : {A : Type 0} → (A → Type 0) → Result A Refusal → Type 0
Fitting fits (Ok v) = fits v
Fitting fits (Err e) = Unit {0}
