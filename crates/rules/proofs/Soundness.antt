-- Every history keeps the ledger sound.
use Rattle.std.proofs.Common.{◌≤◌, Bool, true, false, cond, ltb, Result, sym, refl, subst, arith}
use Rattle.std.proofs.lemmas.Bool.Decides.{nat_tests}
use Rattle.ledger.specs.Auctions.{is_awarded, is_open}
use Rattle.ledger.specs.Ledgers.{auction_at}
use Rattle.ledger.specs.Limits.{all_limits}
use Rattle.ledger.specs.Moves.{account_paid}
use Rattle.ledger.specs.Sound.{Sound}
use Rattle.ledger.specs.declared.ledgers.Ledger.{Ledger}
use Rattle.ledger.proofs.Sounds.{sound_award, sound_bid, sound_cancel, sound_curtail, sound_day, sound_invoice, sound_new, sound_open, sound_payment, sound_payout, sound_return, sound_seal, sound_transfer}
use Rattle.rules.specs.declared.refusals.Refusal.{Refusal}
use Rattle.rules.specs.Calls.{Call, Reply, add_collateral, withdraw, open_auction, place_bid, seal_auction, award_auction, cancel_auction, transfer_rights, return_rights, curtail_rights, send_invoice, pay_invoices, draw_overdue, pay_balance, move_day}
use Rattle.rules.specs.Law.{History, begun, called}
use Rattle.rules.specs.Moments.{Moment}
use Rattle.rules.specs.Steps.{Step, bad_mw, bid_of, direction_of, draw_table, drawn, not_opened}
use Rattle.rules.specs.Tables.{passes}
use Rattle.rules.proofs.Granted.{a_participant, an_auction, both_pass, good_mw, good_span, both_hold, holds_if, leaves_keeps, open_if, stage_open, stage_sealed}

either : (P : Ledger → Type 0) (b : Bool) (x y : Ledger) → P x → P y → P (cond b x y)
either P true x y h k = h
either P false x y h k = k

pub sound_step : (k : Call) (m : Moment) (r : Result (Reply k) Refusal) (m' : Moment) → Sound m.ledger → Step k m r m' → Sound m'.ledger
sound_step (add_collateral p kind sum last) m r m' h s = subst Sound (sym s.ledger) h
sound_step (withdraw p sum) m r m' h s = subst Sound (sym s.ledger) h
sound_step (open_auction from to first hours capacity) m r m' h s =
    leaves_keeps Sound _ _ _ m r m' s h (λ t.
    let span = good_span first hours t.1.0 in
    let size = good_mw capacity t.1.1.0 in
    let full = t.1.1.1.0 in
    sound_open (direction_of from to) first (record { hours = hours }) capacity m.ledger h (grind (arith, nat_tests)) size.0 size.1 span.1)
sound_step (place_bid p a price mw) m r m' h s =
    leaves_keeps Sound _ _ _ m r m' s h (λ t.
    let who = a_participant p t.0 in
    let there = an_auction a m.ledger t.1.0 in
    let amount = both_pass (bad_mw mw) (ltb 1000000 price) t.1.1.1.0 in
    let size = good_mw mw amount.0 in
    let low : price ≤ 1000000 = (let e = amount.1 in grind (arith, nat_tests)) in
    let full = t.1.1.1.1.0 in
    let room = t.1.1.1.1.1.0 in
    sound_bid p a (bid_of price mw) m.ledger h who.0 who.1 there.0 there.1 (stage_open _ t.1.1.0) (size.0, size.1, low) (grind (arith, nat_tests)) (grind (arith, nat_tests)))
sound_step (seal_auction a) m r m' h s =
    leaves_keeps Sound _ _ _ m r m' s h (λ t.
    let there = an_auction a m.ledger t.0 in
    sound_seal a (all_limits m.ledger m.cover) m.ledger h there.0 there.1 (stage_open _ t.1.0) refl)
sound_step (award_auction a) m r m' h s =
    leaves_keeps Sound _ _ _ m r m' s h (λ t.
    let there = an_auction a m.ledger t.0 in
    sound_award a m.ledger h there.0 there.1 (stage_sealed _ t.1.0))
sound_step (cancel_auction a) m r m' h s =
    leaves_keeps Sound _ _ _ m r m' s h (λ t.
    let there = an_auction a m.ledger t.0 in
    sound_cancel a m.ledger h there.0 there.1 (holds_if _ t.1.0))
sound_step (transfer_rights giver taker a first hours mw) m r m' h s =
    leaves_keeps Sound _ _ _ m r m' s h (λ t. sound_transfer giver taker a first hours mw m.ledger h (holds_if _ t.1.1.1.1.1.1.0))
sound_step (return_rights p out into mw) m r m' h s =
    leaves_keeps Sound _ _ _ m r m' s h (λ t.
    let opened = both_pass (not_opened out m.ledger) (not_opened into m.ledger) t.1.0 in
    let there = an_auction into m.ledger opened.1 in
    let stages = both_hold (is_awarded (auction_at m.ledger out).stage) (is_open (auction_at m.ledger into).stage) (holds_if _ t.1.1.0) in
    let room = t.1.1.1.1.1.1.1.0 in
    sound_return p out into mw m.ledger h there.0 there.1 stages.0 (open_if _ stages.1) (holds_if _ t.1.1.1.0) (holds_if _ t.1.1.1.1.1.1.0) (grind (arith, nat_tests)))
sound_step (curtail_rights from to first limits) m r m' h s = leaves_keeps Sound _ _ _ m r m' s h (λ t. sound_curtail (direction_of from to) first limits m.ledger h)
sound_step (send_invoice p) m r m' h s = leaves_keeps Sound _ _ _ m r m' s h (λ t. sound_invoice p m.ledger h (λ pos. let full = t.1.1.0 in grind (arith, nat_tests)))
sound_step (pay_invoices p sum) m r m' h s = leaves_keeps Sound _ _ _ m r m' s h (λ t. sound_payment p sum m.ledger h)
sound_step (draw_overdue p) m r m' h s =
    subst Sound (sym s.ledger) (either Sound (passes (draw_table p m)) (account_paid p (drawn m p) m.ledger) m.ledger (sound_payment p (drawn m p) m.ledger h) h)
sound_step (pay_balance p) m r m' h s = leaves_keeps Sound _ _ _ m r m' s h (λ t. sound_payout p m.ledger h)
sound_step (move_day day) m r m' h s = leaves_keeps Sound _ _ _ m r m' s h (λ t. let late = t.0 in sound_day day m.ledger h (grind (arith, nat_tests)))

pub sound : {m : Moment} → History m → Sound m.ledger
sound (begun c v) = sound_new
sound (called k m m' r h s) = sound_step k m r m' (sound h) s
