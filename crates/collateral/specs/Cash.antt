-- Cash: the cover of a participant is its balance, on every day.
use Rattle.std.specs.Prelude.{ℕ, ◌+◌, ◌-◌, cond, not, ◌&&◌, ◌||◌, ltb, [], ◌∷◌, replicate, Result, ◌==◌, nat_le, nat_lt, slice_index, slice_set}
use Rattle.collateral.specs.declared.kind.Cause.{Cause}
use Rattle.collateral.specs.declared.kind.Cause.TheVariants.{Stranger, UnknownKind, LastDay, BadSum}
use Rattle.collateral.specs.declared.cash.Cash.{Cash}
use Rattle.collateral.specs.Causes.{◌⇒◌, granted, judged}
use Rattle.collateral.specs.Cover.{in_range, participant}

abbrev pub no_cash : Cash
no_cash = record { balances = replicate 12 0 }

abbrev pub balance_of : Cash → ℕ → ℕ
balance_of c p = slice_index c.balances (p - 1)

abbrev pub with_balance : Cash → ℕ → ℕ → Cash
with_balance c p b = record { balances = slice_set c.balances (p - 1) b }

abbrev pub cash_cover : Cash → ℕ → ℕ → ℕ
cash_cover c p day = cond (in_range p day) (balance_of c p) 0

abbrev pub cash_taken : Cash → ℕ → ℕ → ℕ → Cash
cash_taken c p day sum = cond (in_range p day && nat_le sum (balance_of c p)) (with_balance c p (balance_of c p - sum)) c

-- a sum from 1 to 10^12, a balance of at most 10^12 after it, and the last day 9,999
abbrev pub cash_verdict : Cash → ℕ → ℕ → ℕ → ℕ → ℕ → Result (Unit {0}) Cause
cash_verdict c p kind sum last today =
    judged (
    (not (participant p) ⇒ Stranger)
    ∷ (not (kind == 1) ⇒ UnknownKind)
    ∷ ((sum == 0 || nat_lt 1000000000000 sum) ⇒ BadSum)
    ∷ (ltb 1000000000000 (balance_of c p + sum) ⇒ BadSum)
    ∷ (not (last == 9999) ⇒ LastDay)
    ∷ [])

abbrev pub cash_added : Cash → ℕ → ℕ → ℕ → ℕ → ℕ → Cash
cash_added c p kind sum last today =
    cond (granted (cash_verdict c p kind sum last today)) (with_balance c p (balance_of c p + sum)) c
