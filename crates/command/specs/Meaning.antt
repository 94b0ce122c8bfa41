-- What a command says: which call it asks for, and its operands as numbers.
use Rattle.std.specs.Prelude.{ℕ, ◌+◌, ◌*◌, cond, List, Some, None, Option, nat_lt, slice_index}
use Rattle.command.specs.declared.commands.Command.{Command}
use Rattle.command.specs.declared.commands.Command.TheVariants.{Add, Withdraw, Open, Bid, Seal, Award, Cancel, Transfer, Return, Curtail, Invoice, Payment, Draw, Payout, Day}

-- The limits of a curtailment are their bytes.
pub data Meaning : Type 0 where
  adds : (participant kind sum last-day : ℕ) → Meaning
  withdraws : (participant sum : ℕ) → Meaning
  opens : (from to first-hour hours capacity : ℕ) → Meaning
  bids : (participant auction price mw : ℕ) → Meaning
  seals : (auction : ℕ) → Meaning
  awards : (auction : ℕ) → Meaning
  cancels : (auction : ℕ) → Meaning
  transfers : (giver taker auction first-hour hours mw : ℕ) → Meaning
  gives_back : (participant out_of into mw : ℕ) → Meaning
  curtails : (from to first-hour : ℕ) (limits : List ℕ) → Meaning
  invoices : (participant : ℕ) → Meaning
  pays : (participant sum : ℕ) → Meaning
  draws : (participant : ℕ) → Meaning
  pays_out : (participant : ℕ) → Meaning
  moves_day : (day : ℕ) → Meaning

abbrev pub meaning_of : Command → Meaning
meaning_of (Add p kind sum last) = adds p kind sum last
meaning_of (Withdraw p sum) = withdraws p sum
meaning_of (Open from to first hours capacity) = opens from to first hours capacity
meaning_of (Bid p a price mw) = bids p a price mw
meaning_of (Seal a) = seals a
meaning_of (Award a) = awards a
meaning_of (Cancel a) = cancels a
meaning_of (Transfer giver taker a first hours mw) = transfers giver taker a first hours mw
meaning_of (Return p out into mw) = gives_back p out into mw
meaning_of (Curtail from to first limits) = curtails from to first limits.now
meaning_of (Invoice p) = invoices p
meaning_of (Payment p sum) = pays p sum
meaning_of (Draw p) = draws p
meaning_of (Payout p) = pays_out p
meaning_of (Day day) = moves_day day

-- limit k of a curtailment's bytes: two bytes, the more significant first
abbrev pub limit_at : ℕ → List ℕ → ℕ
limit_at k limits = slice_index limits (2 * k) * 256 + slice_index limits (2 * k + 1)

-- there are 24 of them
abbrev pub limit_named : ℕ → List ℕ → Option ℕ
limit_named k limits = cond (nat_lt k 24) (Some (limit_at k limits)) None
