-- Auctions, their stages, and what stands in them. Participants are numbered from 1.
use Rattle.std.specs.Prelude.{ℕ, ◌+◌, ◌-◌, Bool, true, false, ◌&&◌, ◌||◌, List, [], replicate, Some, None, Option, ◌==◌, nat_lt, slice_index_or}
use Rattle.roll.specs.Sums.{sum_of}
use Rattle.auction.specs.Bids.{no_bids}
use Rattle.auction.specs.declared.products.Product.{Product}
use Rattle.auction.specs.declared.sheets.Sheet.{Sheet}
use Rattle.rights.specs.Holdings.{nothing}
use Rattle.rights.specs.declared.hours.Hour.{Hour}
use Rattle.ledger.specs.declared.auctions.Auction.{Auction}
use Rattle.ledger.specs.declared.auctions.Direction.{Direction}
use Rattle.ledger.specs.declared.auctions.Stage.{Stage}
use Rattle.ledger.specs.declared.auctions.Stage.TheVariants.{Open, Sealed, Awarded, Cancelled}

abbrev pub is_open : Stage → Bool
is_open Open = true
is_open Sealed = false
is_open (Awarded price) = false
is_open Cancelled = false

abbrev pub is_sealed : Stage → Bool
is_sealed Open = false
is_sealed Sealed = true
is_sealed (Awarded price) = false
is_sealed Cancelled = false

abbrev pub is_awarded : Stage → Bool
is_awarded Open = false
is_awarded Sealed = false
is_awarded (Awarded price) = true
is_awarded Cancelled = false

-- a direction is an ordered pair
abbrev pub same_way : Direction → Direction → Bool
same_way d e = d.from == e.from && d.to == e.to

-- the price of an awarded auction, and none before
abbrev pub price_at : Stage → Option ℕ
price_at Open = None
price_at Sealed = None
price_at (Awarded price) = Some price
price_at Cancelled = None

-- a span of hours that does not lie in another
abbrev pub outside : ℕ → ℕ → ℕ → ℕ → Bool
outside first hours from for = nat_lt first from || nat_lt (from + for) (first + hours)

-- what stands for a record that is not there
abbrev pub no_sheet : Sheet
no_sheet = record { bids = []; count = 0; kept = 0; held = 0; limit = 0 }

abbrev pub no_auction : Auction
no_auction = record {
  direction = record { from = 0; to = 0 };
  first = 0;
  product = record { hours = 0 };
  capacity = 0;
  stage = Open;
  sheets = [];
  returned = record { rows = [] };
}

-- a new auction has no bids and nothing returned
abbrev pub new_auction : Direction → ℕ → Product → ℕ → Auction
new_auction d first product capacity = record {
  direction = d;
  first = first;
  product = product;
  capacity = capacity;
  stage = Open;
  sheets = replicate 12 no_bids;
  returned = nothing;
}

-- an auction before its opening
abbrev pub unopened_auction : Auction
unopened_auction = new_auction (record { from = 0; to = 0 }) 0 (record { hours = 0 }) 0

-- how many bids stand in an auction
abbrev pub placed_in : Auction → ℕ
placed_in x = sum_of (λ s. s.count) x.sheets

-- a participant's sheet in an auction, and its held sum there
abbrev pub sheet_of : ℕ → Auction → Sheet
sheet_of p x = slice_index_or x.sheets (p - 1) no_sheet

abbrev pub held_in : ℕ → Auction → ℕ
held_in p x = (sheet_of p x).held

-- the auction in another stage, with other sheets, with other returned rights
abbrev pub at_stage : Stage → List Sheet → Auction → Auction
at_stage stage sheets x = record {
  direction = x.direction;
  first = x.first;
  product = x.product;
  capacity = x.capacity;
  stage = stage;
  sheets = sheets;
  returned = x.returned;
}

abbrev pub with_returned : Hour → ℕ → Auction → Auction
with_returned waiting capacity x = record {
  direction = x.direction;
  first = x.first;
  product = x.product;
  capacity = capacity;
  stage = x.stage;
  sheets = x.sheets;
  returned = waiting;
}
