-- The auctions of a ledger stay sound under every call on them.
use Rattle.std.proofs.Common.{◌≡◌, ℕ, ◌+◌, ◌-◌, ◌<◌, ◌≤◌, List, [], map, length, get_or, set, sym, refl, ap, ◌∙◌, subst, inl, inr, arith, length-set}
use lib.ListN.{get_or-replicate}
use Rattle.std.proofs.lemmas.List.{get_or-map, length-map, get_or-set_same, get_or-set_other}
use Rattle.std.proofs.lemmas.Bool.{cases_eq}
use Rattle.roll.specs.Sums.{sum_of}
use Rattle.roll.proofs.Rows.{set_under, with_at, with_length, with_sum}
use Rattle.roll.proofs.Sums.{sum_map, sum_set_ge, sum_under}
use Rattle.std.specs.List.{AllByRecursion}
use Rattle.std.proofs.ByRecursion.{All-take}
use Rattle.auction.specs.Award.{kept_lists}
use Rattle.auction.specs.Bids.{Lawful, bids_of, kept_of, mw_all, no_bids, with_bid}
use Rattle.auction.specs.Seal.{sealed, all_sealed}
use Rattle.auction.specs.declared.bids.Bid.{Bid}
use Rattle.auction.specs.declared.products.Product.{Product}
use Rattle.auction.specs.declared.sheets.Sheet.{Sheet}
use Rattle.auction.proofs.Marginal.{price_lawful}
use Rattle.rights.specs.declared.hours.Hour.{Hour}
use Rattle.ledger.specs.declared.auctions.Auction.{Auction}
use Rattle.ledger.specs.declared.auctions.Direction.{Direction}
use Rattle.ledger.specs.declared.auctions.Stage.TheVariants.{Open, Sealed}
use Rattle.ledger.specs.declared.ledgers.Ledger.{Ledger}
use Rattle.ledger.specs.Auctions.{new_auction, no_auction, no_sheet, placed_in, sheet_of, unopened_auction, with_returned}
use Rattle.ledger.specs.Ledgers.{auction_at, new_ledger, sheet_at}
use Rattle.ledger.specs.Sound.{SoundAuction, SoundAuctions, SoundSheet, Staged}
use Rattle.ledger.specs.Stages.{awarded_as, bid_placed, cancelled, freed, opened_with, sealed_at, with_sheet}
use Rattle.ledger.proofs.Sheets.{sheet_with, within_more}

-- a new auction
sheet_new : (c : ℕ) → SoundSheet c no_bids
sheet_new c = record { places = refl; count = omega arith; bids = (omega arith, omega arith, tt); order = tt }

pub auction_new : (d : Direction) (first : ℕ) (product : Product) (capacity : ℕ) → capacity ≤ 5000 → first + product.hours ≤ 192 → SoundAuction (new_auction d first product capacity)
auction_new d first product capacity h span = record {
  rows = refl;
  capacity = h;
  span = span;
  price = tt;
  sheets = λ i lt. rw (get_or-replicate 12 i no_bids no_sheet lt) (sheet_new capacity);
  staged = λ i lt. rw (get_or-replicate 12 i no_bids no_sheet lt) (refl, refl);
}

pub auctions_new : SoundAuctions new_ledger
auctions_new = record {
  opened = omega arith;
  rows = refl;
  some = λ a lt. absurd (omega arith);
  each = λ a lt. rw (get_or-replicate 8 a unopened_auction no_auction lt) (auction_new (record { from = 0; to = 0 }) 0 (record { hours = 0 }) 0 (omega arith) (omega arith));
  unopened = λ a le lt. get_or-replicate 8 a unopened_auction no_auction lt;
  receipts = omega arith;
}

-- another auction in the place of one, with the same number of auctions or one more
put : (l m : Ledger) (i : ℕ) (x : Auction) → SoundAuctions l → m.auctions ≡ set l.auctions i x → l.opened ≤ m.opened → m.opened ≤ 8 → i < m.opened → (i < 8 → SoundAuction x) → ((a : ℕ) → a < m.opened → (a ≡ i → ⊥) → a < l.opened) → 1 ≤ x.capacity → m.receipts ≤ sum_of placed_in (set l.auctions i x) → SoundAuctions m
put l m i x h e up eight inside new old some bids = record {
  opened = eight;
  rows = ap length e ∙ (length-set l.auctions i x ∙ h.rows);
  some = λ a lt. elim (cases_eq a i) [
    | inl same ↦ rw (e, same) (rw (get_or-set_same l.auctions i x no_auction (omega (arith, h.rows, ap (λ (n : ℕ). n) same))) some)
    | inr other ↦ rw e (rw (get_or-set_other l.auctions i a x no_auction other) (h.some a (old a lt other)))
  ];
  each = λ a lt. rw e (set_under SoundAuction 8 l.auctions i x no_auction h.each new a lt);
  unopened = λ a le lt. let other : a ≡ i → ⊥ = (λ same. omega arith) in ap (λ xs. get_or xs a no_auction) e ∙ (get_or-set_other l.auctions i a x no_auction other ∙ h.unopened a (omega arith) lt);
  receipts = rw e bids;
}

pub keep_open : (l : Ledger) (x : Auction) → SoundAuctions l → l.opened < 8 → 1 ≤ x.capacity → SoundAuction x → SoundAuctions (opened_with x l)
keep_open l x h room some new =
    let none : placed_in (get_or l.auctions l.opened no_auction) ≡ 0 = ap placed_in (h.unopened l.opened (omega arith) room) in
    put l (opened_with x l) l.opened x h refl (omega arith) (omega arith) (omega arith) (λ _. new) (λ a lt other. omega arith) some
    (omega (arith, h.receipts, sum_set_ge placed_in l.auctions l.opened x no_auction 0 (omega (arith, h.rows)) (omega arith)))

-- a call on an auction that is there
same_count : (l m : Ledger) (a b : ℕ) (x : Auction) → SoundAuctions l → 1 ≤ a → a ≤ l.opened → m.opened ≡ l.opened → m.auctions ≡ set l.auctions (a - 1) x → SoundAuction x → (auction_at l a).capacity ≤ x.capacity → m.receipts ≡ l.receipts + b → placed_in (auction_at l a) + b ≤ placed_in x → SoundAuctions m
same_count l m a b x h from to n e new more r bids =
    put l m (a - 1) x h e (omega arith) (omega (arith, h.opened)) (omega arith) (λ _. new) (λ c lt other. omega arith) (omega (arith, h.some (a - 1) (omega arith)))
    (omega (arith, h.receipts, sum_set_ge placed_in l.auctions (a - 1) x no_auction b (omega (arith, h.rows, h.opened)) bids))

pub at_number : (l : Ledger) (a : ℕ) → SoundAuctions l → 1 ≤ a → a ≤ l.opened → SoundAuction (auction_at l a)
at_number l a h from to = h.each (a - 1) (omega (arith, h.opened))

-- a bid is placed on a sheet of an open auction
auction_bid : (p : ℕ) (b : Bid) (x : Auction) → SoundAuction x → x.stage ≡ Open → 1 ≤ p → p ≤ 12 → Lawful b → (sheet_of p x).count < 4 → mw_all (bids_of (sheet_of p x)) + b.mw ≤ x.capacity → SoundAuction (with_sheet p (with_bid b (sheet_of p x)) x)
auction_bid p b x h stage from to ok free fits =
    let i : p - 1 < 12 = omega arith in
    record {
      rows = length-set x.sheets (p - 1) (with_bid b (sheet_of p x)) ∙ h.rows;
      capacity = h.capacity;
      span = h.span;
      price = h.price;
      sheets = set_under (SoundSheet x.capacity) 12 x.sheets (p - 1) (with_bid b (sheet_of p x)) no_sheet h.sheets (λ _. sheet_with x.capacity b (sheet_of p x) (h.sheets (p - 1) i) ok free fits);
      staged = set_under (Staged x.stage x.product) 12 x.sheets (p - 1) (with_bid b (sheet_of p x)) no_sheet h.staged
          (λ _. subst (λ st. Staged st x.product (with_bid b (sheet_of p x))) (sym stage) (subst (λ st. Staged st x.product (sheet_of p x)) stage (h.staged (p - 1) i)));
    }

pub keep_bid : (l : Ledger) (p a : ℕ) (b : Bid) → SoundAuctions l → 1 ≤ p → p ≤ 12 → 1 ≤ a → a ≤ l.opened → (auction_at l a).stage ≡ Open → Lawful b → (sheet_at l a p).count < 4 → mw_all (bids_of (sheet_at l a p)) + b.mw ≤ (auction_at l a).capacity → SoundAuctions (bid_placed p a b l)
keep_bid l p a b h p1 p2 a1 a2 stage ok free fits =
    same_count l (bid_placed p a b l) a 1 (with_sheet p (with_bid b (sheet_at l a p)) (auction_at l a)) h a1 a2 refl refl
    (auction_bid p b (auction_at l a) (at_number l a h a1 a2) stage p1 p2 ok free fits) (omega arith) refl
    (sum_set_ge (λ (s : Sheet). s.count) (auction_at l a).sheets (p - 1) (with_bid b (sheet_at l a p)) no_sheet 1 (omega (arith, (at_number l a h a1 a2).rows)) (omega arith))

-- the seal: every sheet is cut at its limit
pub auction_seal : (limits : List ℕ) (x : Auction) → SoundAuction x → length limits ≡ 12 → SoundAuction (sealed_at limits x)
auction_seal limits x h twelve = record {
  rows = with_length (λ limit. sealed limit x.product) limits x.sheets ∙ h.rows;
  capacity = h.capacity;
  span = h.span;
  price = tt;
  sheets = λ i lt. rw (at i lt) (let s = h.sheets i lt in record { places = s.places; count = s.count; bids = s.bids; order = s.order });
  staged = λ i lt. rw (at i lt) (refl, refl);
}
  where
    at : (i : ℕ) → i < 12 → get_or (all_sealed x.product limits x.sheets) i no_sheet ≡ sealed (get_or limits i 0) x.product (get_or x.sheets i no_sheet)
    at i lt = with_at (λ limit. sealed limit x.product) limits x.sheets 0 no_sheet i (omega arith) (omega (arith, h.rows))

pub keep_seal : (l m : Ledger) (a : ℕ) (limits : List ℕ) → SoundAuctions l → 1 ≤ a → a ≤ l.opened → length limits ≡ 12 → m.opened ≡ l.opened → m.receipts ≡ l.receipts → m.auctions ≡ set l.auctions (a - 1) (sealed_at limits (auction_at l a)) → SoundAuctions m
keep_seal l m a limits h a1 a2 twelve n r e =
    let x : Auction = auction_at l a in
    same_count l m a 0 (sealed_at limits x) h a1 a2 n e (auction_seal limits x (at_number l a h a1 a2) twelve) (omega arith) (omega arith)
    (omega (arith, with_sum (λ limit. sealed limit x.product) (λ (s : Sheet). s.count) (λ limit s. refl) limits x.sheets))

-- the award and a cancel free all sheets
freed_at : (x : Auction) → SoundAuction x → (i : ℕ) → i < 12 → get_or (map freed x.sheets) i no_sheet ≡ freed (get_or x.sheets i no_sheet)
freed_at x h i lt = get_or-map freed x.sheets i no_sheet no_sheet (omega (arith, h.rows))

pub auction_award : (x : Auction) → SoundAuction x → x.stage ≡ Sealed → SoundAuction (awarded_as x)
auction_award x h stage = record {
  rows = length-map x.sheets freed ∙ h.rows;
  capacity = h.capacity;
  span = h.span;
  price = price_lawful x.capacity (kept_lists x.sheets) (λ i lt. kept_lawful i (omega (arith, length-map x.sheets kept_of, h.rows)));
  sheets = λ i lt. rw (freed_at x h i lt) (let s = h.sheets i lt in record { places = s.places; count = s.count; bids = s.bids; order = s.order });
  staged = λ i lt. rw (freed_at x h i lt) ((subst (λ st. Staged st x.product (get_or x.sheets i no_sheet)) stage (h.staged i lt)).0, refl);
}
  where
    kept_lawful : (i : ℕ) → i < 12 → AllByRecursion Lawful (get_or (kept_lists x.sheets) i [])
    kept_lawful i lt =
        let s : Sheet = get_or x.sheets i no_sheet in
        subst (AllByRecursion Lawful) (sym (get_or-map kept_of x.sheets i no_sheet [] (omega (arith, h.rows)))) (All-take Lawful s.kept (bids_of s) (h.sheets i lt).bids.2)

pub keep_award : (l m : Ledger) (a : ℕ) → SoundAuctions l → 1 ≤ a → a ≤ l.opened → (auction_at l a).stage ≡ Sealed → m.opened ≡ l.opened → m.receipts ≡ l.receipts → m.auctions ≡ set l.auctions (a - 1) (awarded_as (auction_at l a)) → SoundAuctions m
keep_award l m a h a1 a2 stage n r e =
    same_count l m a 0 (awarded_as (auction_at l a)) h a1 a2 n e (auction_award (auction_at l a) (at_number l a h a1 a2) stage) (omega arith) (omega arith)
    (omega (arith, sum_map (λ (s : Sheet). s.count) freed (auction_at l a).sheets))

pub auction_cancel : (x : Auction) → SoundAuction x → SoundAuction (cancelled x)
auction_cancel x h = record {
  rows = length-map x.sheets freed ∙ h.rows;
  capacity = h.capacity;
  span = h.span;
  price = tt;
  sheets = λ i lt. rw (freed_at x h i lt) (let s = h.sheets i lt in record { places = s.places; count = s.count; bids = s.bids; order = s.order });
  staged = λ i lt. rw (freed_at x h i lt) (tt, refl);
}

pub keep_cancel : (l m : Ledger) (a : ℕ) → SoundAuctions l → 1 ≤ a → a ≤ l.opened → m.opened ≡ l.opened → m.receipts ≡ l.receipts → m.auctions ≡ set l.auctions (a - 1) (cancelled (auction_at l a)) → SoundAuctions m
keep_cancel l m a h a1 a2 n r e =
    same_count l m a 0 (cancelled (auction_at l a)) h a1 a2 n e (auction_cancel (auction_at l a) (at_number l a h a1 a2)) (omega arith) (omega arith)
    (omega (arith, sum_map (λ (s : Sheet). s.count) freed (auction_at l a).sheets))

-- a return raises the capacity of the auction entered
pub auction_return : (waiting : Hour) (capacity : ℕ) (x : Auction) → SoundAuction x → x.capacity ≤ capacity → capacity ≤ 5000 → SoundAuction (with_returned waiting capacity x)
auction_return waiting capacity x h up most = record {
  rows = h.rows;
  capacity = most;
  span = h.span;
  price = h.price;
  sheets = λ i lt. let s = h.sheets i lt in record { places = s.places; count = s.count; bids = within_more x.capacity capacity _ up s.bids; order = s.order };
  staged = h.staged;
}

pub keep_return : (l m : Ledger) (a : ℕ) (waiting : Hour) (capacity : ℕ) → SoundAuctions l → 1 ≤ a → a ≤ l.opened → (auction_at l a).capacity ≤ capacity → capacity ≤ 5000 → m.opened ≡ l.opened → m.receipts ≡ l.receipts → m.auctions ≡ set l.auctions (a - 1) (with_returned waiting capacity (auction_at l a)) → SoundAuctions m
keep_return l m a waiting capacity h a1 a2 up most n r e =
    same_count l m a 0 (with_returned waiting capacity (auction_at l a)) h a1 a2 n e (auction_return waiting capacity (auction_at l a) (at_number l a h a1 a2) up most) up (omega arith) (omega arith)

-- a call that touches no auction
pub keep_auctions : (l m : Ledger) → SoundAuctions l → m.opened ≡ l.opened → m.receipts ≡ l.receipts → m.auctions ≡ l.auctions → SoundAuctions m
keep_auctions l m h n r e = record {
  opened = rw n h.opened;
  rows = ap length e ∙ h.rows;
  some = λ a lt. rw e (h.some a (rw n at lt));
  each = λ a lt. rw e (h.each a lt);
  unopened = λ a le lt. ap (λ xs. get_or xs a no_auction) e ∙ h.unopened a (rw n at le) lt;
  receipts = rw (e, r) h.receipts;
}

-- WHAT A BID SHOWS

-- the sheet after a bid, and its auction's product
pub bid_shows : (p a : ℕ) (b : Bid) (l : Ledger) → SoundAuctions l → 1 ≤ p → p ≤ 12 → 1 ≤ a → a ≤ l.opened → ((auction_at (bid_placed p a b l) a).product ≡ (auction_at l a).product) × (sheet_at (bid_placed p a b l) a p ≡ with_bid b (sheet_at l a p))
bid_shows p a b l h p1 p2 a1 a2 =
    let x : Auction = auction_at l a in
    let e : auction_at (bid_placed p a b l) a ≡ with_sheet p (with_bid b (sheet_of p x)) x = get_or-set_same l.auctions (a - 1) (with_sheet p (with_bid b (sheet_of p x)) x) no_auction (omega (arith, h.rows, h.opened)) in (
      ap (λ (y : Auction). y.product) e,
      ap (sheet_of p) e ∙ get_or-set_same x.sheets (p - 1) (with_bid b (sheet_of p x)) no_sheet (omega (arith, (at_number l a h a1 a2).rows)),
    )

-- there are at most 8 × 12 × 4 receipts
pub receipts_few : (l : Ledger) → SoundAuctions l → l.receipts ≤ 384
receipts_few l h =
    omega (arith, h.receipts, h.rows, sum_under placed_in 48 l.auctions no_auction (λ a lt. in_auction (get_or l.auctions a no_auction) (h.each a (omega (arith, h.rows)))))
  where
    in_auction : (x : Auction) → SoundAuction x → placed_in x ≤ 48
    in_auction x s = omega (arith, s.rows, sum_under (λ (t : Sheet). t.count) 4 x.sheets no_sheet (λ i lt. (s.sheets i (omega (arith, s.rows))).count))
