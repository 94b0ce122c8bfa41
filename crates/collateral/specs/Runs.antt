-- Guarantees over whole runs: whatever takes and adds came before, each guarantee counts up to its last day.
use Rattle.std.specs.Prelude.{◌≡◌, ℕ, true, cond}
use Rattle.roll.specs.Rolls.{Ordered}
use Rattle.roll.specs.Sums.{sum_of}
use Rattle.collateral.specs.declared.guarantees.Guarantees.{Guarantees}
use Rattle.collateral.specs.Cover.{in_range}
use Rattle.collateral.specs.Guarantees.{earlier, folder_of, guarantees_added, guarantees_cover, guarantees_taken, held_in, no_guarantees, past_on}

-- what has come of no guarantees by takes and adds, granted or refused, one after another
pub data Run : Guarantees → Type 0 where
  begun : Run no_guarantees
  took : (x : Guarantees) (p day sum : ℕ) → Run x → Run (guarantees_taken x p day sum)
  added : (x : Guarantees) (p kind sum last today : ℕ) → Run x → Run (guarantees_added x p kind sum last today)

-- a participant's guarantees stand by earlier last day, so that the one that runs out first is used first
abbrev pub InOrder : Guarantees → Type 0
InOrder x = (p : ℕ) → Ordered earlier (held_in (folder_of x p))

-- the cover of a day is the sum of all that the participant holds but the past ones
abbrev pub EachCounts : Guarantees → Type 0
EachCounts x = (p day : ℕ) → in_range p day ≡ true → guarantees_cover x p day ≡ sum_of (λ g. cond (past_on day g) 0 g.sum) (held_in (folder_of x p))

abbrev pub RunsCount : Type 0
RunsCount = (x : Guarantees) → Run x → InOrder x × EachCounts x
