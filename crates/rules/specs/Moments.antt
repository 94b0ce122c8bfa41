-- What a book and its collateral show at one moment.
use Rattle.std.specs.Prelude.{ℕ, Result}
use Rattle.collateral.specs.declared.kind.Cause.{Cause}
use Rattle.ledger.specs.Limits.{Cover, credit_limit}
use Rattle.ledger.specs.declared.ledgers.Ledger.{Ledger}

-- how the collateral would answer an add: participant, kind, sum, last day, today
abbrev pub Verdict : Type 0
Verdict = ℕ → ℕ → ℕ → ℕ → ℕ → Result (Unit {0}) Cause

pub record Moment : Type 0 where
  pub ledger : Ledger
  pub cover : Cover
  pub verdict : Verdict

-- what a book with this ledger shows over collateral with this cover and these verdicts
abbrev pub seen : Ledger → Cover → Verdict → Moment
seen l c v = record { ledger = l; cover = c; verdict = v }

-- a participant's cover and credit limit today
abbrev pub cover_today : Moment → ℕ → ℕ
cover_today m p = m.cover p m.ledger.day

abbrev pub limit : Moment → ℕ → ℕ
limit m p = credit_limit m.ledger m.cover p
