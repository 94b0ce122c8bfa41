-- A command and the call that it asks for.
use Rattle.std.proofs.Common.{◌≡◌, ℕ, ◌≤◌, Bool, true, false, cond, List, [], ◌∷◌, Ok, Err, Result, sym, subst, arith}
use Rattle.command.specs.Meaning.{meaning_of}
use Rattle.command.specs.declared.commands.Command.{Command}
use Rattle.lines.specs.declared.writer.Numbers.{Numbers}
use Rattle.rules.specs.Calls.{place_bid}
use Rattle.rules.specs.Moments.{Moment, limit}
use Rattle.rules.specs.Steps.{Step, bid_table}
use Rattle.rules.specs.Tables.{Row, answers}
use Rattle.rules.specs.declared.answers.Receipt.{Receipt}
use Rattle.rules.specs.declared.refusals.Refusal.{Refusal}
use Rattle.runner.specs.Answers.{Fitting}
use Rattle.runner.specs.Calls.{Performed, call_of}
use Rattle.runner.specs.declared.outcomes.Refused.{Refused}

pub performed_as : (x y : Command) (m : Moment) (r : Result Numbers Refused) (m' : Moment) → x ≡ y →
    Performed (call_of (meaning_of y)) m r m' → Performed (call_of (meaning_of x)) m r m'
performed_as x y m r m' e h = let P : Command → Type 0 = λ z. Performed (call_of (meaning_of z)) m r m' in subst P (sym e) h

-- an answer that fits whatever it is
pub fits_always : {A : Type 0} (r : Result A Refusal) → Fitting (λ (v : A). Unit {0}) r
fits_always (Ok v) = tt
fits_always (Err e) = tt

-- what fits as the value of a table fits as the answer that the table gives
pub fits_granted : {A : Type 0} (fits : A → Type 0) (rows : List Row) (v : A) (r : Result A Refusal) → r ≡ answers rows v → fits v → Fitting fits r
fits_granted fits rows v r e h = subst (Fitting fits) (sym e) (go rows)
  where
    either : (b : Bool) (why : Refusal) (s : Result _ Refusal) → Fitting fits s → Fitting fits (cond b (Err why) s)
    either true why s k = tt
    either false why s k = k

    go : (rows : List Row) → Fitting fits (answers rows v)
    go [] = h
    go (row ∷ rows) = either row.test row.names (answers rows v) (go rows)

-- cover is counted up to 10^15, so the credit limit of a receipt has at most 16 digits
pub receipt_fits : (p a price mw : ℕ) (m : Moment) (r : Result Receipt Refusal) (m' : Moment) → Step (place_bid p a price mw) m r m' →
    Fitting (λ (v : Receipt). v.limit ≤ 1000000000000000) r
receipt_fits p a price mw m r m' s = fits_granted (λ (v : Receipt). v.limit ≤ 1000000000000000) (bid_table p a price mw m.ledger) _ r s.answer (short m p)
  where
    short : (m : Moment) (p : ℕ) → limit m p ≤ 1000000000000000
    short m p = omega arith
