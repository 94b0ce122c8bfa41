-- What each call answers and leaves.
use Rattle.std.specs.Prelude.{◌≡◌, ℕ, ◌+◌, ◌-◌, min, Bool, true, false, cond, not, ◌&&◌, ◌||◌, ltb, leb, List, [], ◌∷◌, Ok, Err, Result, ◌==◌, nat_eq, nat_le, nat_lt}
use Rattle.roll.specs.Sums.{sum_of}
use Rattle.account.specs.Invoices.{still_open}
use Rattle.account.specs.Settling.{credited, paid, to_pay}
use Rattle.auction.specs.Bids.{bids_of, mw_all, with_bid}
use Rattle.auction.specs.Charge.{worst_charge}
use Rattle.auction.specs.declared.bids.Bid.{Bid}
use Rattle.collateral.specs.Cover.{Added, Took}
use Rattle.collateral.specs.declared.kind.Cause.{Cause}
use Rattle.ledger.specs.Auctions.{is_awarded, is_open, is_sealed, new_auction, outside, same_way}
use Rattle.ledger.specs.Ledgers.{account_at, auction_at, on_day, sheet_at}
use Rattle.ledger.specs.Limits.{all_limits, overdue_by}
use Rattle.ledger.specs.Moves.{account_invoiced, account_paid, account_paid_out, mw_lost, rights_curtailed, rights_returned, rights_transferred}
use Rattle.ledger.specs.Stages.{auction_awarded, auction_cancelled, auction_sealed, bid_placed, bids_kept, bids_left_out, opened_with, outcome, sealed_at}
use Rattle.ledger.specs.declared.auctions.Direction.{Direction}
use Rattle.ledger.specs.declared.ledgers.Ledger.{Ledger}
use Rattle.rights.specs.Holdings.{holds_through}
use Rattle.rules.specs.declared.refusals.Refusal.{Refusal}
use Rattle.rules.specs.declared.refusals.Refusal.TheVariants as refusal
use Rattle.rules.specs.declared.refusals.Refusal.TheVariants.{Participant, Zone, Unopened, Hours, Amount, Full, Capacity, Holding, AboveLimit, Day, Nothing, TooMuch, Parties, NoCover}
use Rattle.rules.specs.Calls.{Call, Reply, add_collateral, withdraw, open_auction, place_bid, seal_auction, award_auction, cancel_auction, transfer_rights, return_rights, curtail_rights, send_invoice, pay_invoices, draw_overdue, pay_balance, move_day}
use Rattle.rules.specs.Moments.{Moment, cover_today, limit}
use Rattle.rules.specs.Tables.{Row, ◌⇒◌, answers, is_granted, passes}

-- TESTS

abbrev pub stranger : ℕ → Bool
stranger p = nat_lt p 1 || nat_lt 12 p

abbrev pub bad_zones : ℕ → ℕ → Bool
bad_zones from to = nat_lt from 1 || (nat_lt 3 from || (nat_lt to 1 || (nat_lt 3 to || from == to)))

abbrev pub not_opened : ℕ → Ledger → Bool
not_opened a l = nat_lt a 1 || nat_lt l.opened a

abbrev pub bad_sum : ℕ → Bool
bad_sum sum = nat_lt sum 1 || nat_lt 1000000000000 sum

abbrev pub bad_mw : ℕ → Bool
bad_mw mw = nat_lt mw 1 || nat_lt 5000 mw

-- no hours, or hours past 191
abbrev pub bad_hours : ℕ → ℕ → Bool
bad_hours first hours = nat_lt hours 1 || nat_lt 192 (first + hours)

-- CALLS THAT LEAVE THE COLLATERAL ALONE: the table of refusals, the answer, the ledger after

pub record Leaves {A : Type 0} (table : List Row) (value : A) (after : Ledger) (m : Moment) (r : Result A Refusal) (m' : Moment) : Type 0 where
  pub answer : r ≡ answers table value
  pub ledger : m'.ledger ≡ cond (passes table) after m.ledger
  pub cover : m'.cover ≡ m.cover
  pub verdict : m'.verdict ≡ m.verdict

abbrev pub open_table : ℕ → ℕ → ℕ → ℕ → ℕ → Ledger → List Row
open_table from to first hours capacity l =
    (bad_zones from to ⇒ Zone)
    ∷ (bad_hours first hours ⇒ Hours)
    ∷ (bad_mw capacity ⇒ Amount)
    ∷ (leb 8 l.opened ⇒ Full)
    ∷ []

abbrev pub direction_of : ℕ → ℕ → Direction
direction_of from to = record { from = from; to = to }

abbrev pub bid_of : ℕ → ℕ → Bid
bid_of price mw = record { price = price; mw = mw }

abbrev pub bid_table : ℕ → ℕ → ℕ → ℕ → Ledger → List Row
bid_table p a price mw l =
    (stranger p ⇒ Participant)
    ∷ (not_opened a l ⇒ Unopened)
    ∷ (not (is_open (auction_at l a).stage) ⇒ refusal.Stage)
    ∷ ((bad_mw mw || nat_lt 1000000 price) ⇒ Amount)
    ∷ (leb 4 (sheet_at l a p).count ⇒ Full)
    ∷ (ltb (auction_at l a).capacity (mw_all (bids_of (sheet_at l a p)) + mw) ⇒ Capacity)
    ∷ []

abbrev pub seal_table : ℕ → Ledger → List Row
seal_table a l = (not_opened a l ⇒ Unopened) ∷ (not (is_open (auction_at l a).stage) ⇒ refusal.Stage) ∷ []

abbrev pub award_table : ℕ → Ledger → List Row
award_table a l = (not_opened a l ⇒ Unopened) ∷ (not (is_sealed (auction_at l a).stage) ⇒ refusal.Stage) ∷ []

abbrev pub cancel_table : ℕ → Ledger → List Row
cancel_table a l =
    (not_opened a l ⇒ Unopened)
    ∷ (not (is_open (auction_at l a).stage || is_sealed (auction_at l a).stage) ⇒ refusal.Stage)
    ∷ []

abbrev pub transfer_table : ℕ → ℕ → ℕ → ℕ → ℕ → ℕ → Ledger → List Row
transfer_table giver taker a first hours mw l =
    let x = auction_at l a in
    ((stranger giver || stranger taker) ⇒ Participant)
    ∷ (nat_eq giver taker ⇒ Parties)
    ∷ (not_opened a l ⇒ Unopened)
    ∷ (not (is_awarded x.stage) ⇒ refusal.Stage)
    ∷ ((bad_hours first hours || outside first hours x.first x.product.hours) ⇒ Hours)
    ∷ (bad_mw mw ⇒ Amount)
    ∷ (not (holds_through (a - 1) (giver - 1) mw first hours l.rights) ⇒ Holding)
    ∷ []

abbrev pub return_table : ℕ → ℕ → ℕ → ℕ → Ledger → List Row
return_table p out into mw l =
    let x = auction_at l out in
    let y = auction_at l into in
    (stranger p ⇒ Participant)
    ∷ ((not_opened out l || not_opened into l) ⇒ Unopened)
    ∷ (not (is_awarded x.stage && is_open y.stage) ⇒ refusal.Stage)
    ∷ (not (same_way x.direction y.direction) ⇒ Parties)
    ∷ (outside y.first y.product.hours x.first x.product.hours ⇒ Hours)
    ∷ (bad_mw mw ⇒ Amount)
    ∷ (not (holds_through (out - 1) (p - 1) mw y.first y.product.hours l.rights) ⇒ Holding)
    ∷ (ltb 5000 (y.capacity + mw) ⇒ Capacity)
    ∷ []

abbrev pub curtail_table : ℕ → ℕ → ℕ → List Row
curtail_table from to first = (bad_zones from to ⇒ Zone) ∷ (bad_hours first 24 ⇒ Hours) ∷ []

abbrev pub invoice_table : ℕ → Ledger → List Row
invoice_table p l =
    let x = account_at l p in
    (stranger p ⇒ Participant)
    ∷ ((x.dues == 0 && x.claims == 0) ⇒ Nothing)
    ∷ ((nat_lt 0 (to_pay x) && nat_le 4 x.unpaid) ⇒ Full)
    ∷ []

abbrev pub payment_table : ℕ → ℕ → Ledger → List Row
payment_table p sum l = (stranger p ⇒ Participant) ∷ (bad_sum sum ⇒ Amount) ∷ (ltb (still_open (account_at l p)) sum ⇒ TooMuch) ∷ []

abbrev pub payout_table : ℕ → Ledger → List Row
payout_table p l = (stranger p ⇒ Participant) ∷ (nat_eq (account_at l p).payout 0 ⇒ Nothing) ∷ []

abbrev pub day_table : ℕ → Ledger → List Row
day_table day l = ((nat_lt day l.day || nat_lt 9900 day) ⇒ Day) ∷ []

-- CALLS ON THE COLLATERAL

-- an add: the collateral's own refusal is number 12; cover rises as the collateral says
abbrev pub add_answer : Bool → Result (Unit {0}) Cause → ℕ → Result ℕ Refusal
add_answer true verdict v = Err Participant
add_answer false (Err cause) v = Err (refusal.Collateral cause)
add_answer false (Ok u) v = Ok v

pub record Adds (p kind sum last : ℕ) (m : Moment) (r : Result ℕ Refusal) (m' : Moment) : Type 0 where
  pub answer : r ≡ add_answer (stranger p) (m.verdict p kind sum last m.ledger.day) (limit m' p)
  pub ledger : m'.ledger ≡ m.ledger
  pub granted : is_granted r ≡ true → Added m.cover m'.cover p sum last m.ledger.day
  pub refused : is_granted r ≡ false → (m'.cover ≡ m.cover) × (m'.verdict ≡ m.verdict)

-- a withdrawal of at most the credit limit is taken out of today's cover
abbrev pub withdraw_table : ℕ → ℕ → Moment → List Row
withdraw_table p sum m = (stranger p ⇒ Participant) ∷ (bad_sum sum ⇒ Amount) ∷ (ltb (limit m p) sum ⇒ AboveLimit) ∷ []

pub record Withdraws (p sum : ℕ) (m : Moment) (r : Result ℕ Refusal) (m' : Moment) : Type 0 where
  pub answer : r ≡ answers (withdraw_table p sum m) (limit m' p)
  pub ledger : m'.ledger ≡ m.ledger
  pub granted : is_granted r ≡ true → Took m.cover m'.cover p m.ledger.day sum
  pub refused : is_granted r ≡ false → (m'.cover ≡ m.cover) × (m'.verdict ≡ m.verdict)

-- a draw takes the lesser of the overdue sum and today's cover, and spends it along the open invoices
abbrev pub draw_table : ℕ → Moment → List Row
draw_table p m = (stranger p ⇒ Participant) ∷ (nat_eq (overdue_by m.ledger p) 0 ⇒ Nothing) ∷ (nat_eq (cover_today m p) 0 ⇒ NoCover) ∷ []

abbrev pub drawn : Moment → ℕ → ℕ
drawn m p = min (overdue_by m.ledger p) (cover_today m p)

pub record Draws (p : ℕ) (m : Moment) (r : Result ℕ Refusal) (m' : Moment) : Type 0 where
  pub answer : r ≡ answers (draw_table p m) (drawn m p)
  pub ledger : m'.ledger ≡ cond (passes (draw_table p m)) (account_paid p (drawn m p) m.ledger) m.ledger
  pub granted : is_granted r ≡ true → Took m.cover m'.cover p m.ledger.day (drawn m p)
  pub refused : is_granted r ≡ false → (m'.cover ≡ m.cover) × (m'.verdict ≡ m.verdict)

-- ALL CALLS

abbrev pub Step : (k : Call) → Moment → Result (Reply k) Refusal → Moment → Type 0
Step (add_collateral p kind sum last) m r m' = Adds p kind sum last m r m'
Step (withdraw p sum) m r m' = Withdraws p sum m r m'
Step (open_auction from to first hours capacity) m r m' =
    Leaves (open_table from to first hours capacity m.ledger) (m.ledger.opened + 1)
    (opened_with (new_auction (direction_of from to) first (record { hours = hours }) capacity) m.ledger) m r m'
Step (place_bid p a price mw) m r m' =
    Leaves (bid_table p a price mw m.ledger)
    (record {
      number = m.ledger.receipts + 1;
      worst = worst_charge (auction_at m.ledger a).product (bids_of (with_bid (bid_of price mw) (sheet_at m.ledger a p)));
      limit = limit m p;
    })
    (bid_placed p a (bid_of price mw) m.ledger) m r m'
Step (seal_auction a) m r m' =
    let x = sealed_at (all_limits m.ledger m.cover) (auction_at m.ledger a) in
    Leaves (seal_table a m.ledger) (record { kept = bids_kept x; left = bids_left_out x }) (auction_sealed a (all_limits m.ledger m.cover) m.ledger) m r m'
Step (award_auction a) m r m' =
    let o = outcome (auction_at m.ledger a) in
    Leaves (award_table a m.ledger) (record { price = o.price; mw = sum_of (λ n. n) o.mw }) (auction_awarded a m.ledger) m r m'
Step (cancel_auction a) m r m' = Leaves (cancel_table a m.ledger) tt (auction_cancelled a m.ledger) m r m'
Step (transfer_rights giver taker a first hours mw) m r m' =
    Leaves (transfer_table giver taker a first hours mw m.ledger) tt (rights_transferred giver taker a first hours mw m.ledger) m r m'
Step (return_rights p out into mw) m r m' =
    Leaves (return_table p out into mw m.ledger) ((auction_at m.ledger into).capacity + mw) (rights_returned p out into mw m.ledger) m r m'
Step (curtail_rights from to first limits) m r m' =
    Leaves (curtail_table from to first) (mw_lost (direction_of from to) first limits m.ledger) (rights_curtailed (direction_of from to) first limits m.ledger) m r m'
Step (send_invoice p) m r m' =
    Leaves (invoice_table p m.ledger) (record { pay = to_pay (account_at m.ledger p); credit = credited (account_at m.ledger p) }) (account_invoiced p m.ledger) m r m'
Step (pay_invoices p sum) m r m' =
    Leaves (payment_table p sum m.ledger) (still_open (paid sum (account_at m.ledger p))) (account_paid p sum m.ledger) m r m'
Step (draw_overdue p) m r m' = Draws p m r m'
Step (pay_balance p) m r m' = Leaves (payout_table p m.ledger) (account_at m.ledger p).payout (account_paid_out p m.ledger) m r m'
Step (move_day day) m r m' = Leaves (day_table day m.ledger) day (on_day day m.ledger) m r m'
