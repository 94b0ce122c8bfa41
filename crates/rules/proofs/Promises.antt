-- The credit law, of every history.
use Rattle.std.proofs.Common.{◌≡◌, ℕ, suc, ◌-◌, ◌<◌, ◌≤◌, true, false, cond, List, [], ◌∷◌, ◌++◌, take, drop, Ok, Result, sym, ap, ◌∙◌, subst, arith}
use Rattle.std.proofs.lemmas.Bool.Decides.{nat_tests}
use Rattle.auction.specs.Award.{pays}
use Rattle.auction.specs.Bids.{Within, bids_of, kept_of}
use Rattle.auction.specs.Rivals.{Bidder, Stands}
use Rattle.auction.specs.Seal.{left_out}
use Rattle.auction.specs.declared.bids.Bid.{Bid}
use Rattle.auction.specs.declared.sheets.Sheet.{Sheet}
use Rattle.auction.proofs.Fronts.{next_out, rightly_left_out}
use Rattle.auction.proofs.Rivals.{worst_exact}
use Rattle.auction.proofs.Settled.{worst_enough}
use Rattle.ledger.specs.Ledgers.{auction_at, sheet_at}
use Rattle.ledger.specs.Limits.{overdue_by}
use Rattle.ledger.specs.Moves.{account_paid}
use Rattle.ledger.specs.Sound.{Sound, SoundAuction, Staged}
use Rattle.ledger.specs.declared.auctions.Auction.{Auction}
use Rattle.ledger.specs.declared.auctions.Stage.TheVariants.{Sealed}
use Rattle.ledger.specs.declared.ledgers.Ledger.{Ledger}
use Rattle.ledger.proofs.Kept.{at_number}
use Rattle.ledger.proofs.Loads.{overdue_owed}
use Rattle.ledger.proofs.Sheets.{within_take}
use Rattle.rules.specs.declared.refusals.Refusal.{Refusal}
use Rattle.rules.specs.Calls.{add_collateral, withdraw, open_auction, place_bid, seal_auction, award_auction, cancel_auction, transfer_rights, return_rights, curtail_rights, send_invoice, pay_invoices, draw_overdue, pay_balance, move_day}
use Rattle.rules.specs.Law.{AlwaysSound, Covered, CreditLaw, HeldExactly, IsSealed, LeftOutRightly, Participant, RefusalsChangeNothing}
use Rattle.rules.specs.Moments.{Moment}
use Rattle.rules.specs.Steps.{Leaves, Step, draw_table, drawn}
use Rattle.rules.specs.Tables.{Row, is_granted, passes}
use Rattle.rules.proofs.Coverage.{covered}
use Rattle.rules.proofs.Granted.{granted_passes, granted_value}
use Rattle.rules.proofs.Soundness.{sound}

-- (a)
drawn_whole : (m : Moment) (p : ℕ) (r : Result ℕ Refusal) (m' : Moment) → Participant p → Covered m p → Step (draw_overdue p) m r m' → 0 < overdue_by m.ledger p → r ≡ Ok (overdue_by m.ledger p)
drawn_whole m p r m' who c s late =
    let less = overdue_owed m.ledger p in
    let ok : passes (draw_table p m) ≡ true = grind (arith, nat_tests) in
    s.answer ∙ (granted_value (draw_table p m) (drawn m p) ok ∙ ap Ok (let e : drawn m p ≡ overdue_by m.ledger p = omega arith in e))

-- the participant's sheet in a sealed auction
module _ (m : Moment) (a p : ℕ) (h : Sound m.ledger) (there : IsSealed m a) (who : Participant p) where
  abbrev x : Auction
  x = auction_at m.ledger a

  abbrev s : Sheet
  s = sheet_at m.ledger a p

  sound_x : SoundAuction x
  sound_x = at_number m.ledger a h.auctions there.from there.to

  staged : Staged Sealed x.product s
  staged = subst (λ st. Staged st x.product s) there.stage (sound_x.staged (p - 1) (omega arith))

  within : Within x.capacity (bids_of s)
  within = (sound_x.sheets (p - 1) (omega arith)).bids

  bidder : (own : List Bid) → Within x.capacity own → Bidder x.capacity (p - 1) own
  bidder own w = record { among = omega arith; some = h.auctions.some (a - 1) (omega arith); most = sound_x.capacity; lawful = w }

  -- (b)
  pub held_exactly : HeldExactly m a p
  held_exactly = record {
    at_most = λ kept stands. subst (λ n. pays x.product x.capacity kept (p - 1) ≤ n) (sym staged.1) (worst_enough x.product (kept_of s) x.capacity (p - 1) kept stands);
    exactly = (let e = worst_exact x.product (kept_of s) x.capacity (p - 1) (bidder (kept_of s) (within_take x.capacity s.kept (bids_of s) within)) in (e.0, e.1, e.2 ∙ sym staged.1));
  }

  -- (c)
  pub left_out_rightly : LeftOutRightly m a p
  left_out_rightly best rest e =
      let n = next_out s.kept (bids_of s) best rest e in
      let w : Within x.capacity (kept_of s ++ best ∷ []) = subst (Within x.capacity) n.1 (within_take x.capacity (suc s.kept) (bids_of s) within) in
      let out : left_out s.limit x.product (bids_of s) ≡ best ∷ rest = subst (λ k. drop k (bids_of s) ≡ best ∷ rest) staged.0 e in
      let g = rightly_left_out s.limit x.product (bids_of s) best rest out x.capacity (p - 1) in
      subst (λ k. (kept : List (List Bid)) × Stands x.capacity (p - 1) (take k (bids_of s) ++ best ∷ []) kept × (s.limit < pays x.product x.capacity kept (p - 1))) (sym staged.0)
      (g (bidder _ (subst (λ k. Within x.capacity (take k (bids_of s) ++ best ∷ [])) staged.0 w)))

pub credit_law : CreditLaw
credit_law m h p who = record {
  a = λ days. let c = covered h p who days in record { covered = c; drawn = λ r m' s late. drawn_whole m p r m' who c s late };
  b = λ a there. held_exactly m a p (sound h) there who;
  c = λ a there. left_out_rightly m a p (sound h) there who;
}

pub always_sound : AlwaysSound
always_sound m h = sound h

-- a refusal of a call that leaves the collateral alone
leaves_refused : {A : Type 0} (table : List Row) (value : A) (after : Ledger) (m : Moment) (r : Result A Refusal) (m' : Moment) → Leaves table value after m r m' → is_granted r ≡ false → (m'.ledger ≡ m.ledger) × (m'.cover ≡ m.cover) × (m'.verdict ≡ m.verdict)
leaves_refused table value after m r m' s e =
    let f : passes table ≡ false = sym (granted_passes table value) ∙ (ap is_granted (sym s.answer) ∙ e) in
    (s.ledger ∙ ap (λ b. cond b after m.ledger) f, s.cover, s.verdict)

pub refusals_change_nothing : RefusalsChangeNothing
refusals_change_nothing (add_collateral p kind sum last) m r m' s e = (s.ledger, (s.refused e).0, (s.refused e).1)
refusals_change_nothing (withdraw p sum) m r m' s e = (s.ledger, (s.refused e).0, (s.refused e).1)
refusals_change_nothing (open_auction from to first hours capacity) m r m' s e = leaves_refused _ _ _ m r m' s e
refusals_change_nothing (place_bid p a price mw) m r m' s e = leaves_refused _ _ _ m r m' s e
refusals_change_nothing (seal_auction a) m r m' s e = leaves_refused _ _ _ m r m' s e
refusals_change_nothing (award_auction a) m r m' s e = leaves_refused _ _ _ m r m' s e
refusals_change_nothing (cancel_auction a) m r m' s e = leaves_refused _ _ _ m r m' s e
refusals_change_nothing (transfer_rights giver taker a first hours mw) m r m' s e = leaves_refused _ _ _ m r m' s e
refusals_change_nothing (return_rights p out into mw) m r m' s e = leaves_refused _ _ _ m r m' s e
refusals_change_nothing (curtail_rights from to first limits) m r m' s e = leaves_refused _ _ _ m r m' s e
refusals_change_nothing (send_invoice p) m r m' s e = leaves_refused _ _ _ m r m' s e
refusals_change_nothing (pay_invoices p sum) m r m' s e = leaves_refused _ _ _ m r m' s e
refusals_change_nothing (draw_overdue p) m r m' s e =
    let f : passes (draw_table p m) ≡ false = sym (granted_passes (draw_table p m) (drawn m p)) ∙ (ap is_granted (sym s.answer) ∙ e) in
    (s.ledger ∙ ap (λ b. cond b (account_paid p (drawn m p) m.ledger) m.ledger) f, (s.refused e).0, (s.refused e).1)
refusals_change_nothing (pay_balance p) m r m' s e = leaves_refused _ _ _ m r m' s e
refusals_change_nothing (move_day day) m r m' s e = leaves_refused _ _ _ m r m' s e
