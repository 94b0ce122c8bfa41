-- The four questions, which change nothing.
use Rattle.std.specs.Prelude.{ℕ, ◌-◌, [], ◌∷◌, Result, slice_index_or}
use Rattle.ledger.specs.Auctions.{outside}
use Rattle.ledger.specs.Ledgers.{auction_at, sheet_at}
use Rattle.ledger.specs.Limits.{owes}
use Rattle.rights.specs.Holdings.{holding, no_hour}
use Rattle.rules.specs.declared.refusals.Refusal.{Refusal}
use Rattle.rules.specs.declared.refusals.Refusal.TheVariants.{Participant, Unopened, Hours}
use Rattle.rules.specs.Moments.{Moment, limit}
use Rattle.rules.specs.Steps.{not_opened, stranger}
use Rattle.rules.specs.Tables.{◌⇒◌, answers}

abbrev pub limit_asked : ℕ → Moment → Result ℕ Refusal
limit_asked p m = answers ((stranger p ⇒ Participant) ∷ []) (limit m p)

abbrev pub debt_asked : ℕ → Moment → Result ℕ Refusal
debt_asked p m = answers ((stranger p ⇒ Participant) ∷ []) (owes m.ledger p)

abbrev pub held_asked : ℕ → ℕ → Moment → Result ℕ Refusal
held_asked p a m = answers ((stranger p ⇒ Participant) ∷ (not_opened a m.ledger ⇒ Unopened) ∷ []) (sheet_at m.ledger a p).held

abbrev pub holding_asked : ℕ → ℕ → ℕ → Moment → Result ℕ Refusal
holding_asked p a hour m =
    let x = auction_at m.ledger a in
    answers ((stranger p ⇒ Participant) ∷ (not_opened a m.ledger ⇒ Unopened) ∷ (outside hour 1 x.first x.product.hours ⇒ Hours) ∷ [])
    (holding (a - 1) (p - 1) (slice_index_or m.ledger.rights hour no_hour))
