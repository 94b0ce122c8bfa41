-- What a participant owes and has held, and its credit limit.
use Rattle.std.specs.Prelude.{ℕ, ◌+◌, ◌-◌, min, List, [], ◌∷◌, map}
use Rattle.roll.specs.Sums.{sum_of}
use Rattle.account.specs.Invoices.{owed, overdue}
use Rattle.ledger.specs.declared.ledgers.Ledger.{Ledger}
use Rattle.ledger.specs.Auctions.{held_in}
use Rattle.ledger.specs.Ledgers.{account_at}

-- cover by participant and day
abbrev pub Cover : Type 0
Cover = ℕ → ℕ → ℕ

-- a participant owes its dues not yet invoiced and its open invoices
abbrev pub owes : Ledger → ℕ → ℕ
owes l p = owed (account_at l p)

-- all its held sums
abbrev pub held_sums : Ledger → ℕ → ℕ
held_sums l p = sum_of (held_in p) l.auctions

-- what is overdue today
abbrev pub overdue_by : Ledger → ℕ → ℕ
overdue_by l p = overdue l.day (account_at l p)

-- the cover of a day, counted up to 10^15, less what the participant owes and has held; 0 where that is negative
abbrev pub limit_on : ℕ → Ledger → Cover → ℕ → ℕ
limit_on day l cover p = min 1000000000000000 (cover p day) - (owes l p + held_sums l p)

-- the credit limit is that of today
abbrev pub credit_limit : Ledger → Cover → ℕ → ℕ
credit_limit l cover p = limit_on l.day l cover p

-- of each participant, from participant 1 on
abbrev pub all_limits : Ledger → Cover → List ℕ
all_limits l cover = map (credit_limit l cover) (1 ∷ 2 ∷ 3 ∷ 4 ∷ 5 ∷ 6 ∷ 7 ∷ 8 ∷ 9 ∷ 10 ∷ 11 ∷ 12 ∷ [])
