-- Sheets stay sound as bids are placed, cut and freed.
use Rattle.std.proofs.Common.{◌≡◌, ℕ, ◌+◌, ◌-◌, ◌<◌, ◌≤◌, true, false, List, length, get_or, take, refl, ◌∙◌, subst, arith}
use Rattle.std.proofs.ByRecursion.{All-take}
use Rattle.std.proofs.lemmas.List.{length-take}
use Rattle.std.proofs.lemmas.Bool.Decides.{nat_tests}
use Rattle.roll.specs.Rolls.{inserted}
use Rattle.roll.proofs.Insertions.{sum_inserted, all_inserted, length_laid}
use Rattle.roll.proofs.Moves.{length_inserted, put_front}
use Rattle.roll.proofs.Orders.{ordered_inserted}
use Rattle.roll.proofs.Sums.{sum_take, sum_under}
use Rattle.roll.specs.Sums.{sum_of}
use Rattle.auction.specs.Bids.{Lawful, Within, bids_of, dearer, mw_all, with_bid}
use Rattle.auction.specs.declared.bids.Bid.{Bid}
use Rattle.auction.specs.declared.sheets.Sheet.{Sheet}
use Rattle.auction.proofs.Fronts.{kept_within}
use Rattle.ledger.specs.declared.auctions.Auction.{Auction}
use Rattle.ledger.specs.declared.auctions.Stage.TheVariants.{Sealed}
use Rattle.ledger.specs.Auctions.{no_sheet}
use Rattle.ledger.specs.Sound.{SoundAuction, SoundSheet, Staged}

pub within_more : (c k : ℕ) (bs : List Bid) → c ≤ k → Within c bs → Within k bs
within_more c k bs h w = (w.0, omega arith, w.2)

pub within_take : (c n : ℕ) (bs : List Bid) → Within c bs → Within c (take n bs)
within_take c n bs w = (omega (arith, length-take n bs), omega (arith, sum_take (λ (b : Bid). b.mw) n bs), All-take Lawful n bs w.2)

-- of two bids one is dearer or they are level, and this carries through a third
dearer_either : (x y : Bid) → dearer x y ≡ false → dearer y x ≡ true
dearer_either x y h = grind (arith, nat_tests)

dearer_carries : (x y z : Bid) → dearer x y ≡ true → dearer y z ≡ true → dearer x z ≡ true
dearer_carries x y z h k = grind (arith, nat_tests)

-- a bid placed where a place is free
pub bids_with : (b : Bid) (s : Sheet) → length s.bids ≡ 4 → s.count < 4 → bids_of (with_bid b s) ≡ inserted dearer b (bids_of s)
bids_with b s four free = put_front dearer b s.bids (with_bid b s).bids s.count (omega arith) refl

pub sheet_with : (c : ℕ) (b : Bid) (s : Sheet) → SoundSheet c s → Lawful b → s.count < 4 → mw_all (bids_of s) + b.mw ≤ c → SoundSheet c (with_bid b s)
sheet_with c b s h ok free fits =
    let e = bids_with b s h.places free in
    let n : length (bids_of s) ≤ s.count = omega (arith, length-take s.count s.bids) in
    record {
      places = laid_places;
      count = omega arith;
      bids = rw e (omega (arith, length_inserted dearer b (bids_of s)), omega (arith, sum_inserted dearer b (λ (x : Bid). x.mw) (bids_of s)), all_inserted dearer b Lawful (bids_of s) ok h.bids.2);
      order = rw e (ordered_inserted dearer dearer_either dearer_carries b (bids_of s) h.order);
    }
  where
    laid_places : length (with_bid b s).bids ≡ 4
    laid_places =
        length_laid (inserted dearer b (bids_of s)) s.bids (omega (arith, h.places, length_inserted dearer b (bids_of s), length-take s.count s.bids))
        ∙ h.places

-- the seal keeps at most four bids
pub kept_few : (x : Auction) → SoundAuction x → x.stage ≡ Sealed → (i : ℕ) → i < 12 → (get_or x.sheets i no_sheet).kept ≤ 4
kept_few x h stage i lt =
    let s : Sheet = get_or x.sheets i no_sheet in
    let g = subst (λ st. Staged st x.product s) stage (h.staged i lt) in
    omega (arith, g.0, kept_within s.limit x.product (bids_of s), (h.sheets i lt).bids.0)

-- so it keeps, and leaves out, at most 48 of all bids
pub kept_in_all : (x : Auction) → SoundAuction x → x.stage ≡ Sealed → sum_of (λ (s : Sheet). s.kept) x.sheets ≤ 48
kept_in_all x h stage = omega (arith, h.rows, sum_under (λ (s : Sheet). s.kept) 4 x.sheets no_sheet (λ i lt. kept_few x h stage i (omega (arith, h.rows))))

pub left_in_all : (x : Auction) → SoundAuction x → sum_of (λ (s : Sheet). s.count - s.kept) x.sheets ≤ 48
left_in_all x h = omega (arith, h.rows, sum_under (λ (s : Sheet). s.count - s.kept) 4 x.sheets no_sheet (λ i lt. omega (arith, (h.sheets i (omega (arith, h.rows))).count)))
