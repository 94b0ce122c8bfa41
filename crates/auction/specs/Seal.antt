-- The cut at the seal: which bids a credit limit keeps, and the sum that is held for them.
use Rattle.std.specs.Prelude.{ℕ, ◌<◌, ◌≤◌, List, length, take, drop, nat_le}
use Rattle.roll.specs.Rows.{each_with}
use Rattle.roll.specs.Sums.{largest_to}
use Rattle.auction.specs.declared.bids.Bid.{Bid}
use Rattle.auction.specs.declared.products.Product.{Product}
use Rattle.auction.specs.declared.sheets.Sheet.{Sheet}
use Rattle.auction.specs.Bids.{bids_of}
use Rattle.auction.specs.Charge.{worst_charge}

-- how many bids are kept: the longest front part whose worst charge is at most the limit
abbrev pub kept_count : ℕ → Product → List Bid → ℕ
kept_count limit d bs = largest_to (λ n. nat_le (worst_charge d (take n bs)) limit) (length bs)

abbrev pub kept_front : ℕ → Product → List Bid → List Bid
kept_front limit d bs = take (kept_count limit d bs) bs

-- the others are left out
abbrev pub left_out : ℕ → Product → List Bid → List Bid
left_out limit d bs = drop (kept_count limit d bs) bs

-- the sheet after the seal: the held sum is the worst charge of the kept bids, and the limit is recorded with it
abbrev pub sealed : ℕ → Product → Sheet → Sheet
sealed limit d s = record {
  bids = s.bids;
  count = s.count;
  kept = kept_count limit d (bids_of s);
  held = worst_charge d (kept_front limit d (bids_of s));
  limit = limit;
}

-- the sheets of all participants after the seal, each at its own limit
abbrev pub all_sealed : Product → List ℕ → List Sheet → List Sheet
all_sealed d limits sheets = each_with (λ limit. sealed limit d) limits sheets

-- a front of n bids is within the limit, and every longer one is not
pub record LongestFront (limit : ℕ) (d : Product) (bs : List Bid) (n : ℕ) : Type 0 where
  pub fits : worst_charge d (take n bs) ≤ limit
  pub longer : (m : ℕ) → n < m → m ≤ length bs → limit < worst_charge d (take m bs)
