-- The credit law: what no arrangement of calls can make false.
use Rattle.std.specs.Prelude.{◌≡◌, ℕ, ◌+◌, ◌-◌, ◌<◌, ◌≤◌, false, List, [], ◌∷◌, ◌++◌, drop, Some, None, Ok, Err, Option, Result, slice_index_or}
use Rattle.auction.specs.Award.{pays}
use Rattle.auction.specs.Bids.{bids_of, kept_of}
use Rattle.auction.specs.Rivals.{Stands}
use Rattle.auction.specs.declared.bids.Bid.{Bid}
use Rattle.ledger.specs.Auctions.{same_way}
use Rattle.ledger.specs.Ledgers.{auction_at, new_ledger, sheet_at}
use Rattle.ledger.specs.Limits.{Cover, held_sums, overdue_by, owes}
use Rattle.ledger.specs.Sound.{Sound}
use Rattle.ledger.specs.declared.auctions.Direction.{Direction}
use Rattle.ledger.specs.declared.auctions.Stage.TheVariants.{Sealed}
use Rattle.ledger.specs.declared.ledgers.Ledger.{Ledger}
use Rattle.rights.specs.Holdings.{no_hour, row_at}
use Rattle.rules.specs.declared.refusals.Refusal.{Refusal}
use Rattle.rules.specs.Calls.{Call, Reply, add_collateral, withdraw, open_auction, place_bid, seal_auction, award_auction, cancel_auction, transfer_rights, return_rights, curtail_rights, send_invoice, pay_invoices, draw_overdue, pay_balance, move_day}
use Rattle.rules.specs.Moments.{Moment, Verdict, cover_today}
use Rattle.rules.specs.Steps.{Step, direction_of}
use Rattle.rules.specs.Tables.{is_granted}

-- what has come of a new book by calls, one after another, over collateral with any cover to begin with
pub data History : Moment → Type 0 where
  begun : (c : Cover) (v : Verdict) → History (record { ledger = new_ledger; cover = c; verdict = v })
  called : (k : Call) (m m' : Moment) (r : Result (Reply k) Refusal) → History m → Step k m r m' → History m'

-- participants are numbered from 1 to 12
abbrev pub Participant : ℕ → Type 0
Participant p = (1 ≤ p) × (p ≤ 12)

-- today's cover is at least what the participant owes plus all its held sums
abbrev pub Covered : Moment → ℕ → Type 0
Covered m p = owes m.ledger p + held_sums m.ledger p ≤ cover_today m p

-- a granted move of the day finds the participant covered after it
abbrev pub CoveredIfMoved : (k : Call) → Result (Reply k) Refusal → Moment → ℕ → Type 0
CoveredIfMoved (move_day day) (Ok today) m p = Covered m p
CoveredIfMoved (move_day day) (Err e) m p = Unit {0}
CoveredIfMoved (add_collateral q kind sum last) r m p = Unit {0}
CoveredIfMoved (withdraw q sum) r m p = Unit {0}
CoveredIfMoved (open_auction from to first hours capacity) r m p = Unit {0}
CoveredIfMoved (place_bid q a price mw) r m p = Unit {0}
CoveredIfMoved (seal_auction a) r m p = Unit {0}
CoveredIfMoved (award_auction a) r m p = Unit {0}
CoveredIfMoved (cancel_auction a) r m p = Unit {0}
CoveredIfMoved (transfer_rights giver taker a first hours mw) r m p = Unit {0}
CoveredIfMoved (return_rights q out into mw) r m p = Unit {0}
CoveredIfMoved (curtail_rights from to first limits) r m p = Unit {0}
CoveredIfMoved (send_invoice q) r m p = Unit {0}
CoveredIfMoved (pay_invoices q sum) r m p = Unit {0}
CoveredIfMoved (draw_overdue q) r m p = Unit {0}
CoveredIfMoved (pay_balance q) r m p = Unit {0}

-- the participant was covered after each granted move of the day so far
abbrev pub CoveredDays : {m : Moment} → History m → ℕ → Type 0
CoveredDays (begun c v) p = Unit {0}
CoveredDays (called k m m' r h s) p = CoveredDays h p × CoveredIfMoved k r m' p

-- (a) a participant that was covered after each granted move of the day is covered now, and a draw then takes exactly its overdue sum
pub record StaysCovered (m : Moment) (p : ℕ) : Type 0 where
  pub covered : Covered m p
  pub drawn : (r : Result ℕ Refusal) (m' : Moment) → Step (draw_overdue p) m r m' → 0 < overdue_by m.ledger p → r ≡ Ok (overdue_by m.ledger p)

-- the kept bids of a participant's sheet in an auction, and those left out
abbrev pub own_bids : Moment → ℕ → ℕ → List Bid
own_bids m a p = kept_of (sheet_at m.ledger a p)

abbrev pub bids_out : Moment → ℕ → ℕ → List Bid
bids_out m a p = drop (sheet_at m.ledger a p).kept (bids_of (sheet_at m.ledger a p))

-- twelve kept lists, in which the participant has these bids and each other one some bids within the limits of a bid
abbrev pub BidsOfTheOthers : Moment → ℕ → ℕ → List Bid → List (List Bid) → Type 0
BidsOfTheOthers m a p own kept = Stands (auction_at m.ledger a).capacity (p - 1) own kept

-- what the participant pays at the award by these
abbrev pub pays_at : Moment → ℕ → ℕ → List (List Bid) → ℕ
pays_at m a p kept = pays (auction_at m.ledger a).product (auction_at m.ledger a).capacity kept (p - 1)

-- (b) the award of a sealed auction costs a participant at most its held sum, whatever the others bid, and some bids of the others cost it exactly that
pub record HeldExactly (m : Moment) (a p : ℕ) : Type 0 where
  pub at_most : (kept : List (List Bid)) → BidsOfTheOthers m a p (own_bids m a p) kept → pays_at m a p kept ≤ (sheet_at m.ledger a p).held
  pub exactly : (kept : List (List Bid)) × BidsOfTheOthers m a p (own_bids m a p) kept × (pays_at m a p kept ≡ (sheet_at m.ledger a p).held)

-- (c) where the seal left out bids, with the best of them put back some bids of the others cost more than the limit found at the seal
abbrev pub LeftOutRightly : Moment → ℕ → ℕ → Type 0
LeftOutRightly m a p =
    (best : Bid) (rest : List Bid) → bids_out m a p ≡ best ∷ rest →
    (kept : List (List Bid)) × BidsOfTheOthers m a p (own_bids m a p ++ best ∷ []) kept × ((sheet_at m.ledger a p).limit < pays_at m a p kept)

-- auction a is there and sealed
pub record IsSealed (m : Moment) (a : ℕ) : Type 0 where
  pub from : 1 ≤ a
  pub to : a ≤ m.ledger.opened
  pub stage : (auction_at m.ledger a).stage ≡ Sealed

pub record CreditLawOf (m : Moment) (h : History m) (p : ℕ) : Type 0 where
  pub a : CoveredDays h p → StaysCovered m p
  pub b : (a : ℕ) → IsSealed m a → HeldExactly m a p
  pub c : (a : ℕ) → IsSealed m a → LeftOutRightly m a p

-- for every history and every participant
abbrev pub CreditLaw : Type 0
CreditLaw = (m : Moment) (h : History m) (p : ℕ) → Participant p → CreditLawOf m h p

-- every history leaves a sound ledger
abbrev pub AlwaysSound : Type 0
AlwaysSound = (m : Moment) → History m → Sound m.ledger

-- a refused call changes nothing: neither the ledger nor what the collateral shows
abbrev pub RefusalsChangeNothing : Type 0
RefusalsChangeNothing =
    (k : Call) (m : Moment) (r : Result (Reply k) Refusal) (m' : Moment) → Step k m r m' → is_granted r ≡ false →
    (m'.ledger ≡ m.ledger) × (m'.cover ≡ m.cover) × (m'.verdict ≡ m.verdict)

-- the direction in which a call acts, if it acts in one: that of its auction, or the one that it names
abbrev pub acts_in : Call → Ledger → Option Direction
acts_in (open_auction from to first hours capacity) l = Some (direction_of from to)
acts_in (place_bid p a price mw) l = Some (auction_at l a).direction
acts_in (seal_auction a) l = Some (auction_at l a).direction
acts_in (award_auction a) l = Some (auction_at l a).direction
acts_in (cancel_auction a) l = Some (auction_at l a).direction
acts_in (transfer_rights giver taker a first hours mw) l = Some (auction_at l a).direction
acts_in (return_rights p out into mw) l = Some (auction_at l into).direction
acts_in (curtail_rights from to first limits) l = Some (direction_of from to)
acts_in (add_collateral p kind sum last) l = None
acts_in (withdraw p sum) l = None
acts_in (send_invoice p) l = None
acts_in (pay_invoices p sum) l = None
acts_in (draw_overdue p) l = None
acts_in (pay_balance p) l = None
acts_in (move_day day) l = None

-- another direction, or none at all
abbrev pub Elsewhere : Option Direction → Direction → Type 0
Elsewhere None e = Unit {0}
Elsewhere (Some d) e = same_way d e ≡ false

-- an auction's direction, price, capacity and bids, and its holdings in every hour, are those of another moment
pub record Untouched (l m : Ledger) (b : ℕ) : Type 0 where
  pub auction : auction_at m b ≡ auction_at l b
  pub holdings : (h : ℕ) → row_at (b - 1) (slice_index_or m.rights h no_hour) ≡ row_at (b - 1) (slice_index_or l.rights h no_hour)

-- nothing done in one direction touches an auction of another, in any history
abbrev pub DirectionsApart : Type 0
DirectionsApart =
    (m : Moment) → History m → (k : Call) (r : Result (Reply k) Refusal) (m' : Moment) → Step k m r m' →
    (b : ℕ) → 1 ≤ b → b ≤ m.ledger.opened → Elsewhere (acts_in k m.ledger) (auction_at m.ledger b).direction → Untouched m.ledger m'.ledger b
