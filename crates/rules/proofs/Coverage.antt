-- A covered participant stays covered, but for a move of the day.
use Rattle.std.proofs.Common.{◌≡◌, ℕ, ◌+◌, ◌-◌, ◌≤◌, Bool, true, false, cond, ◌⊎◌, List, get_or, Result, sym, refl, ap, ◌∙◌, subst, inl, inr, arith}
use Rattle.std.proofs.lemmas.Bool.{cases_eq, cases_lt}
use Rattle.std.proofs.lemmas.Bool.Decides.{nat_tests}
use Rattle.collateral.specs.Cover.{Added, Took}
use Rattle.ledger.specs.Ledgers.{auction_at, on_day}
use Rattle.ledger.specs.Limits.{Cover, all_limits, credit_limit, held_sums, owes}
use Rattle.ledger.specs.Moves.{account_paid}
use Rattle.ledger.specs.Sound.{Sound}
use Rattle.ledger.specs.Stages.{sealed_at}
use Rattle.ledger.specs.declared.auctions.Auction.{Auction}
use Rattle.ledger.specs.declared.ledgers.Ledger.{Ledger}
use Rattle.ledger.proofs.Kept.{at_number}
use Rattle.ledger.proofs.Loads.{due_held, held_award, held_bid, held_cancel, held_new, held_open, held_put, held_return, held_seal, limit_found, owes_award, owes_curtail, owes_draw, owes_invoice, owes_new, owes_payment, owes_payout}
use Rattle.rules.specs.declared.refusals.Refusal.{Refusal}
use Rattle.rules.specs.Calls.{Call, Reply, add_collateral, withdraw, open_auction, place_bid, seal_auction, award_auction, cancel_auction, transfer_rights, return_rights, curtail_rights, send_invoice, pay_invoices, draw_overdue, pay_balance, move_day}
use Rattle.rules.specs.Law.{Covered, CoveredDays, CoveredIfMoved, History, Participant, begun, called}
use Rattle.rules.specs.Moments.{Moment, cover_today, limit}
use Rattle.rules.specs.Steps.{Adds, Draws, Leaves, Step, Withdraws, bid_of, day_table, direction_of, draw_table, drawn, withdraw_table}
use Rattle.rules.specs.Tables.{Row, is_granted, passes}
use Rattle.rules.proofs.Granted.{Passed, a_participant, an_auction, granted_passes, granted_value, leaves_keeps, passed, stage_sealed}
use Rattle.rules.proofs.Soundness.{sound}

-- covered by this ledger and this cover
abbrev Reached : Ledger → Cover → ℕ → Type 0
Reached l c p = owes l p + held_sums l p ≤ c p l.day

leaves_covered : {A : Type 0} (table : List Row) (value : A) (after : Ledger) (m : Moment) (r : Result A Refusal) (m' : Moment) (p : ℕ) → Leaves table value after m r m' → Covered m p → (Passed table → Reached after m.cover p) → Covered m' p
leaves_covered table value after m r m' p s old new =
    subst (λ c. Reached m'.ledger c p) (sym s.cover) (leaves_keeps (λ l. Reached l m.cover p) table value after m r m' s old new)

-- where ledger and cover stay, a participant stays covered
same_covered : (m m' : Moment) (p : ℕ) → m'.ledger ≡ m.ledger → m'.cover ≡ m.cover → Covered m p → Covered m' p
same_covered m m' p e f old = subst (λ l. Reached l m'.cover p) (sym e) (subst (λ c. Reached m.ledger c p) (sym f) old)

-- ADD: today's cover does not fall
added_today : (before after : Cover) (q sum last today p : ℕ) → Added before after q sum last today → before p today ≤ after p today
added_today before after q sum last today p h = elim (cases_eq p q) [
  | inl same ↦ rw same (elim (cases_lt last today) [ inl past ↦ omega (arith, h.later today past) | inr counts ↦ omega (arith, h.raised today (omega arith) counts) ])
  | inr other ↦ omega (arith, h.others p today other)
]

covered_add : (q kind sum last : ℕ) (m : Moment) (r : Result ℕ Refusal) (m' : Moment) (p : ℕ) → Adds q kind sum last m r m' → Covered m p → Covered m' p
covered_add q kind sum last m r m' p s old = go (is_granted r) refl
  where
    go : (b : Bool) → is_granted r ≡ b → Covered m' p
    go true e = subst (λ l. Reached l m'.cover p) (sym s.ledger) (omega (arith, added_today m.cover m'.cover q sum last m.ledger.day p (s.granted e)))
    go false e = same_covered m m' p s.ledger (s.refused e).0 old

-- WITHDRAW: the sum is at most the limit
covered_withdraw : (q sum : ℕ) (m : Moment) (r : Result ℕ Refusal) (m' : Moment) (p : ℕ) → Withdraws q sum m r m' → Covered m p → Covered m' p
covered_withdraw q sum m r m' p s old = go (is_granted r) refl
  where
    taken : passes (withdraw_table q sum m) ≡ true → Took m.cover m'.cover q m.ledger.day sum → (p ≡ q) ⊎ (p ≡ q → ⊥) → Reached m.ledger m'.cover p
    taken ok h (inl same) =
        let t = passed (withdraw_table q sum m) ok in
        let low = t.1.1.0 in
        let within : sum ≤ limit m q = grind (arith, nat_tests) in
        let there = h.there in
        let had : owes m.ledger q + held_sums m.ledger q ≤ m.cover q m.ledger.day = subst (λ x. Covered m x) same old in
        subst (λ x. Reached m.ledger m'.cover x) (sym same) (omega arith)
    taken ok h (inr other) = omega (arith, h.others p m.ledger.day other)

    go : (b : Bool) → is_granted r ≡ b → Covered m' p
    go true e =
        subst (λ l. Reached l m'.cover p) (sym s.ledger)
        (taken (sym (granted_passes (withdraw_table q sum m) (limit m' q)) ∙ (ap is_granted (sym s.answer) ∙ e)) (s.granted e) (cases_eq p q))
    go false e = same_covered m m' p s.ledger (s.refused e).0 old

-- DRAW: cover and debts fall alike
covered_draw : (q : ℕ) (m : Moment) (r : Result ℕ Refusal) (m' : Moment) (p : ℕ) → Sound m.ledger → Draws q m r m' → Covered m p → Covered m' p
covered_draw q m r m' p sound s old = go (is_granted r) refl
  where
    passing : is_granted r ≡ passes (draw_table q m)
    passing = ap is_granted s.answer ∙ granted_passes (draw_table q m) (drawn m q)

    taken : passes (draw_table q m) ≡ true → Took m.cover m'.cover q m.ledger.day (drawn m q) → (p ≡ q) ⊎ (p ≡ q → ⊥) → Reached (account_paid q (drawn m q) m.ledger) m'.cover p
    taken ok h (inl same) =
        let t = passed (draw_table q m) ok in
        let who = a_participant q t.0 in
        let there = h.there in
        let had : owes m.ledger q + held_sums m.ledger q ≤ m.cover q m.ledger.day = subst (λ x. Covered m x) same old in
        let less = owes_draw q (drawn m q) m.ledger sound.accounts.rows who.0 who.1 (omega arith) in
        subst (λ x. Reached (account_paid q (drawn m q) m.ledger) m'.cover x) (sym same) (omega arith)
    taken ok h (inr other) = omega (arith, h.others p m.ledger.day other, owes_payment q (drawn m q) m.ledger p)

    go : (b : Bool) → is_granted r ≡ b → Covered m' p
    go true e =
        let ok : passes (draw_table q m) ≡ true = sym passing ∙ e in
        subst (λ l. Reached l m'.cover p) (sym (s.ledger ∙ ap (λ b. cond b (account_paid q (drawn m q) m.ledger) m.ledger) ok)) (taken ok (s.granted e) (cases_eq p q))
    go false e =
        same_covered m m' p (s.ledger ∙ ap (λ b. cond b (account_paid q (drawn m q) m.ledger) m.ledger) (sym passing ∙ e)) (s.refused e).0 old

-- SEAL: at most the limit is held more
covered_seal : (a : ℕ) (m : Moment) (p : ℕ) → Participant p → Covered m p → owes m.ledger p + held_sums m.ledger p + credit_limit m.ledger m.cover p ≤ cover_today m p
covered_seal a m p who old = omega arith

-- DAY: covered after a granted move, by what is given
covered_day : (day : ℕ) (m : Moment) (r : Result ℕ Refusal) (m' : Moment) (p : ℕ) → Step (move_day day) m r m' → Covered m p → CoveredIfMoved (move_day day) r m' p → Covered m' p
covered_day day m r m' p s old moved = go (passes (day_table day m.ledger)) refl
  where
    go : (b : Bool) → passes (day_table day m.ledger) ≡ b → Covered m' p
    go true e = subst (λ q. CoveredIfMoved (move_day day) q m' p) (s.answer ∙ granted_value (day_table day m.ledger) day e) moved
    go false e = same_covered m m' p (s.ledger ∙ ap (λ b. cond b (on_day day m.ledger) m.ledger) e) s.cover old

pub covered_step : (k : Call) (m : Moment) (r : Result (Reply k) Refusal) (m' : Moment) (p : ℕ) → Participant p → Sound m.ledger → Covered m p → CoveredIfMoved k r m' p → Step k m r m' → Covered m' p
covered_step (add_collateral q kind sum last) m r m' p who h old moved s = covered_add q kind sum last m r m' p s old
covered_step (withdraw q sum) m r m' p who h old moved s = covered_withdraw q sum m r m' p s old
covered_step (open_auction from to first hours capacity) m r m' p who h old moved s =
    leaves_covered _ _ _ m r m' p s old (λ t. omega (arith, held_open (direction_of from to) first (record { hours = hours }) capacity m.ledger p))
covered_step (place_bid q a price mw) m r m' p who h old moved s = leaves_covered _ _ _ m r m' p s old (λ t. omega (arith, held_bid m.ledger q a (bid_of price mw) p))
covered_step (seal_auction a) m r m' p who h old moved s =
    leaves_covered _ _ _ m r m' p s old (λ t.
    let limits : List ℕ = all_limits m.ledger m.cover in
    let found = limit_found m.ledger m.cover p who.0 who.1 in
    let more = held_put m.ledger a p (get_or limits (p - 1) 0) (sealed_at limits (auction_at m.ledger a)) (held_seal limits (auction_at m.ledger a) p) in
    omega (arith, covered_seal a m p who old))
covered_step (award_auction a) m r m' p who h old moved s =
    leaves_covered _ _ _ m r m' p s old (λ t.
    let x : Auction = auction_at m.ledger a in
    let there = an_auction a m.ledger t.0 in
    omega (
      arith,
      held_award a m.ledger p h.auctions there.0 there.1,
      owes_award a m.ledger p,
      due_held x p (at_number m.ledger a h.auctions there.0 there.1) (stage_sealed _ t.1.0) who.0 who.1,
    ))
covered_step (cancel_auction a) m r m' p who h old moved s = leaves_covered _ _ _ m r m' p s old (λ t. omega (arith, held_cancel a m.ledger p))
covered_step (transfer_rights giver taker a first hours mw) m r m' p who h old moved s = leaves_covered _ _ _ m r m' p s old (λ t. old)
covered_step (return_rights q out into mw) m r m' p who h old moved s = leaves_covered _ _ _ m r m' p s old (λ t. omega (arith, held_return q out into mw m.ledger p))
covered_step (curtail_rights from to first limits) m r m' p who h old moved s = leaves_covered _ _ _ m r m' p s old (λ t. omega (arith, owes_curtail (direction_of from to) first limits m.ledger p))
covered_step (send_invoice q) m r m' p who h old moved s = leaves_covered _ _ _ m r m' p s old (λ t. omega (arith, owes_invoice q m.ledger p))
covered_step (pay_invoices q sum) m r m' p who h old moved s = leaves_covered _ _ _ m r m' p s old (λ t. omega (arith, owes_payment q sum m.ledger p))
covered_step (draw_overdue q) m r m' p who h old moved s = covered_draw q m r m' p h s old
covered_step (pay_balance q) m r m' p who h old moved s = leaves_covered _ _ _ m r m' p s old (λ t. omega (arith, owes_payout q m.ledger p))
covered_step (move_day day) m r m' p who h old moved s = covered_day day m r m' p s old moved

pub covered : {m : Moment} (h : History m) (p : ℕ) → Participant p → CoveredDays h p → Covered m p
covered (begun c v) p who days = omega (arith, owes_new p, held_new p)
covered (called k m m' r h s) p who days = covered_step k m r m' p who (sound h) (covered h p who days.0) days.1 s
