-- What the bids of the others can make a participant pay.
use Rattle.std.specs.Prelude.{◌≡◌, ℕ, ◌<◌, ◌≤◌, List, [], ◌∷◌, ◌++◌, length, get_or, ◌≢◌, slice_index_or}
use Rattle.auction.specs.declared.bids.Bid.{Bid}
use Rattle.auction.specs.declared.products.Product.{Product}
use Rattle.auction.specs.Bids.{Within}
use Rattle.auction.specs.Seal.{kept_front, left_out}
use Rattle.auction.specs.Award.{pays}

-- twelve kept lists: the participant at place i has its own bids, each of the other eleven some bids within the limits of a bid
pub record Stands (capacity i : ℕ) (own : List Bid) (kept : List (List Bid)) : Type 0 where
  pub twelve : length kept ≡ 12
  pub mine : get_or kept i [] ≡ own
  pub others : (j : ℕ) → j < 12 → (j ≢ i) → Within capacity (slice_index_or kept j [])

-- a participant among the twelve with bids within the limits, in an auction of 1 to 5,000 MW
pub record Bidder (capacity i : ℕ) (own : List Bid) : Type 0 where
  pub among : i < 12
  pub some : 1 ≤ capacity
  pub most : capacity ≤ 5000
  pub lawful : Within capacity own

-- whatever the others bid, the participant pays at most the sum
abbrev pub PaysAtMost : Product → List Bid → ℕ → Type 0
PaysAtMost d own sum = (capacity i : ℕ) (kept : List (List Bid)) → Stands capacity i own kept → pays d capacity kept i ≤ sum

-- some bids of the others make it pay exactly the sum
abbrev pub MadeToPay : Product → List Bid → ℕ → Type 0
MadeToPay d own sum =
    (capacity i : ℕ) → Bidder capacity i own → (kept : List (List Bid)) × Stands capacity i own kept × (pays d capacity kept i ≡ sum)

-- some bids of the others make it pay more than the limit
abbrev pub MadeToPass : Product → List Bid → ℕ → Type 0
MadeToPass d own limit =
    (capacity i : ℕ) → Bidder capacity i own → (kept : List (List Bid)) × Stands capacity i own kept × (limit < pays d capacity kept i)

-- where the limit leaves out bids, the kept ones with the best of those put back could cost more than the limit
abbrev pub RightlyLeftOut : ℕ → Product → List Bid → Type 0
RightlyLeftOut limit d bs = (b : Bid) (others : List Bid) → left_out limit d bs ≡ b ∷ others → MadeToPass d (kept_front limit d bs ++ b ∷ []) limit
