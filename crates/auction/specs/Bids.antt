-- Bids, their limits, and a participant's sheet of bids in one auction.
-- A bid asks for MW at a price, in cents per MW and hour. A sheet has the bids in their order: higher price first, level ones by arrival.
use Rattle.std.specs.Prelude.{ℕ, ◌+◌, ◌≤◌, Bool, List, length, take, replicate, nat_le, nat_lt}
use Rattle.std.specs.List.{AllByRecursion}
use Rattle.roll.specs.Rolls.{inserted, laid}
use Rattle.roll.specs.Sums.{sum_of}
use Rattle.auction.specs.declared.bids.Bid.{Bid}
use Rattle.auction.specs.declared.sheets.Sheet.{Sheet}

-- the limits of a bid: 1 to 5,000 MW, a price of at most 1,000,000
abbrev pub Lawful : Bid → Type 0
Lawful b = (1 ≤ b.mw) × (b.mw ≤ 5000) × (b.price ≤ 1000000)

-- the MW of all bids of a list
abbrev pub mw_all : List Bid → ℕ
mw_all bs = sum_of (λ b. b.mw) bs

-- a participant has at most four bids in an auction, their MW together at most the capacity
abbrev pub Within : ℕ → List Bid → Type 0
Within capacity bs = (length bs ≤ 4) × (mw_all bs ≤ capacity) × AllByRecursion Lawful bs

-- bids stand by higher price
abbrev pub dearer : Bid → Bid → Bool
dearer x y = nat_le y.price x.price

-- the bids that a sheet holds, and the front of them that the seal kept
abbrev pub bids_of : Sheet → List Bid
bids_of s = take s.count s.bids

abbrev pub kept_of : Sheet → List Bid
kept_of s = take s.kept (bids_of s)

abbrev pub no_bids : Sheet
no_bids = record { bids = replicate 4 (record { price = 0; mw = 0 }); count = 0; kept = 0; held = 0; limit = 0 }

-- a fifth bid finds no place
abbrev pub has_place : Sheet → Bool
has_place s = nat_lt s.count 4

-- the sheet with one more bid, which stands behind those level with it
abbrev pub with_bid : Bid → Sheet → Sheet
with_bid b s = record {
  bids = laid (inserted dearer b (bids_of s)) s.bids;
  count = s.count + 1;
  kept = s.kept;
  held = s.held;
  limit = s.limit;
}
