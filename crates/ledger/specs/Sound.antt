-- What holds of the ledger at every moment.
use Rattle.std.specs.Prelude.{◌≡◌, ℕ, ◌+◌, ◌*◌, ◌<◌, ◌≤◌, length, get_or, slice_index_or}
use Rattle.roll.specs.Rolls.{Ordered}
use Rattle.roll.specs.Sums.{sum_of}
use Rattle.account.specs.Invoices.{invoices_of, owed, sooner}
use Rattle.account.specs.declared.accounts.Account.{Account}
use Rattle.auction.specs.Bids.{Within, bids_of, dearer, kept_of}
use Rattle.auction.specs.Charge.{worst_charge}
use Rattle.auction.specs.Seal.{kept_count}
use Rattle.auction.specs.declared.products.Product.{Product}
use Rattle.auction.specs.declared.sheets.Sheet.{Sheet}
use Rattle.ledger.specs.declared.auctions.Auction.{Auction}
use Rattle.ledger.specs.declared.auctions.Stage.{Stage}
use Rattle.ledger.specs.declared.auctions.Stage.TheVariants.{Open, Sealed, Awarded, Cancelled}
use Rattle.ledger.specs.declared.ledgers.Ledger.{Ledger}
use Rattle.ledger.specs.Auctions.{no_auction, no_sheet, placed_in, unopened_auction}
use Rattle.ledger.specs.Bounds.{SoundMoney, SoundRights, awards}
use Rattle.ledger.specs.Ledgers.{no_account}

-- a sheet: at most four bids, within the limits of a bid, in their order
pub record SoundSheet (capacity : ℕ) (s : Sheet) : Type 0 where
  pub places : length s.bids ≡ 4
  pub count : s.count ≤ 4
  pub bids : Within capacity (bids_of s)
  pub order : Ordered dearer (bids_of s)

-- what the stage of its auction says of a sheet: nothing is held before the seal and after the award or a cancel;
-- from the seal on the kept front is that of the limit found, and while it is sealed the held sum is its worst charge
abbrev pub Staged : Stage → Product → Sheet → Type 0
Staged Open d s = (s.kept ≡ 0) × (s.held ≡ 0)
Staged Sealed d s = (s.kept ≡ kept_count s.limit d (bids_of s)) × (s.held ≡ worst_charge d (kept_of s))
Staged (Awarded price) d s = (s.kept ≡ kept_count s.limit d (bids_of s)) × (s.held ≡ 0)
Staged Cancelled d s = Unit {0} × (s.held ≡ 0)

-- a price is at most the highest of a bid
abbrev pub Priced : Stage → Type 0
Priced Open = Unit {0}
Priced Sealed = Unit {0}
Priced (Awarded price) = price ≤ 1000000
Priced Cancelled = Unit {0}

-- at most 5,000 MW in hours up to 191, and twelve sheets
pub record SoundAuction (x : Auction) : Type 0 where
  pub rows : length x.sheets ≡ 12
  pub capacity : x.capacity ≤ 5000
  pub span : x.first + x.product.hours ≤ 192
  pub price : Priced x.stage
  pub sheets : (i : ℕ) → i < 12 → SoundSheet x.capacity (slice_index_or x.sheets i no_sheet)
  pub staged : (i : ℕ) → i < 12 → Staged x.stage x.product (slice_index_or x.sheets i no_sheet)

-- eight auctions, of which those not opened are as in a new ledger; no more receipts than bids
pub record SoundAuctions (l : Ledger) : Type 0 where
  pub opened : l.opened ≤ 8
  pub rows : length l.auctions ≡ 8
  pub some : (a : ℕ) → a < l.opened → 1 ≤ (get_or l.auctions a no_auction).capacity
  pub each : (a : ℕ) → a < 8 → SoundAuction (slice_index_or l.auctions a no_auction)
  pub unopened : (a : ℕ) → l.opened ≤ a → a < 8 → slice_index_or l.auctions a no_auction ≡ unopened_auction
  pub receipts : l.receipts ≤ sum_of placed_in l.auctions

-- the most that a participant can owe for one award: 1,000,000 cents × 5,000 MW × 192 hours
abbrev pub most_due : ℕ
most_due = 960000000000

-- an account that owes at most so much, with at most four invoices in the order of their due days
pub record SoundAccount (debt : ℕ) (x : Account) : Type 0 where
  pub owes : owed x ≤ debt
  pub places : length x.invoices ≡ 4
  pub unpaid : x.unpaid ≤ 4
  pub order : Ordered sooner (invoices_of x)

-- twelve accounts, each owing at most that much for each award
pub record SoundAccounts (l : Ledger) : Type 0 where
  pub rows : length l.accounts ≡ 12
  pub each : (i : ℕ) → i < 12 → SoundAccount (most_due * awards l) (slice_index_or l.accounts i no_account)

pub record Sound (l : Ledger) : Type 0 where
  pub day : l.day ≤ 9900
  pub auctions : SoundAuctions l
  pub accounts : SoundAccounts l
  pub rights : SoundRights l
  pub money : SoundMoney l
