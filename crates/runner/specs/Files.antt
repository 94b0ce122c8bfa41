-- Running the commands of an input one after another, and the credit law over such runs.
use Rattle.std.specs.Prelude.{◌≡◌, ℕ, true, List, Some, Ok}
use Rattle.std.proofs.Common.{sym, subst}
use Rattle.rules.specs.Law.{CreditLawOf, History, Participant, called}
use Rattle.rules.specs.Moments.{Moment}
use Rattle.runner.specs.Calls.{call_of}
use Rattle.runner.specs.Outcomes.{goes_on}
use Rattle.runner.specs.Running.{Runs, Task, finish, perform, refuse, task}
use Rattle.runner.specs.declared.outcomes.Ran.{Ran}

-- before the first command of a page
abbrev pub begins_at : ℕ → Ran
begins_at place = record { outcome = Some (Ok tt); place = place; at = 0 }

-- what commands have come to that were run from a place in the input and the start of a page on, each where the one
-- before it went on: the last outcome with the next places, the page, and what the book shows
pub data RanOn (input : List ℕ) (place : ℕ) (page : List ℕ) (m : Moment) : Ran → List ℕ → Moment → Type 0 where
  no_command : RanOn input place page m (begins_at place) page m
  one_more : (r : Ran) (page₁ : List ℕ) (m₁ : Moment) (r' : Ran) (page₂ : List ℕ) (m₂ : Moment) → RanOn input place page m r page₁ m₁ →
      goes_on r.outcome ≡ true → Runs (task input r.place page₁ r.at) r.place page₁ r.at m₁ r' page₂ m₂ → RanOn input place page m r' page₂ m₂

-- a call is one more step of a book's history; a refusal of the reader and the end are none
abbrev pub history_with : (t : Task) (place : ℕ) (page : List ℕ) (at : ℕ) (m : Moment) (r : Ran) (page' : List ℕ) (m' : Moment) → History m → Runs t place page at m r page' m' → History m'
history_with (refuse e) place page at m r page' m' h s = subst History (sym s.1) h
history_with finish place page at m r page' m' h s = subst History (sym s.1) h
history_with (perform u) place page at m r page' m' h s = called (call_of u.meaning) m m' s.reply h s.step

-- the history of a book after the commands of an input
abbrev pub history_after : {input : List ℕ} {place : ℕ} {page : List ℕ} {m : Moment} {r : Ran} {page' : List ℕ} {m' : Moment} → History m → RanOn input place page m r page' m' → History m'
history_after h no_command = h
history_after h (one_more r page₁ m₁ r' page₂ m₂ s goes u) = history_with _ _ _ _ m₁ r' page₂ m₂ (history_after h s) u

-- after the commands of any input the credit law holds of every participant, over the calls that the book had before and those of the input
abbrev pub LawAfterRuns : Type 0
LawAfterRuns =
    (input : List ℕ) (place : ℕ) (page : List ℕ) (m : Moment) (r : Ran) (page' : List ℕ) (m' : Moment) (h : History m) (s : RanOn input place page m r page' m') →
    (p : ℕ) → Participant p → CreditLawOf m' (history_after h s) p

-- what the book shows after the commands of an input that were run on page after page, each from where the one before stopped
pub data RanTo (input : List ℕ) (m : Moment) : ℕ → Moment → Type 0 where
  no_page : RanTo input m 0 m
  one_page : (place : ℕ) (m₁ : Moment) (page : List ℕ) (r : Ran) (page' : List ℕ) (m₂ : Moment) → RanTo input m place m₁ → RanOn input place page m₁ r page' m₂ →
      RanTo input m r.place m₂

abbrev pub RanPages : List ℕ → Moment → Moment → Type 0
RanPages input m m' = (place : ℕ) × RanTo input m place m'

abbrev pub history_after_pages : {input : List ℕ} {m : Moment} {place : ℕ} {m' : Moment} → History m → RanTo input m place m' → History m'
history_after_pages h no_page = h
history_after_pages h (one_page place m₁ page r page' m₂ s t) = history_after (history_after_pages h s) t

-- the same after a whole input
abbrev pub LawAfterFiles : Type 0
LawAfterFiles =
    (input : List ℕ) (m m' : Moment) (place : ℕ) (h : History m) (s : RanTo input m place m') → (p : ℕ) → Participant p → CreditLawOf m' (history_after_pages h s) p
