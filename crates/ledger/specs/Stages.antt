-- What the granted calls on an auction do to the ledger: open, bid, seal, award, cancel.
use Rattle.std.specs.Prelude.{ℕ, ◌+◌, ◌-◌, List, map, replicate, slice_set}
use Rattle.roll.specs.Rows.{each_with}
use Rattle.roll.specs.Sums.{sum_of}
use Rattle.account.specs.Settling.{charged, claiming}
use Rattle.account.specs.declared.accounts.Account.{Account}
use Rattle.auction.specs.Award.{kept_lists, outcome_of, dues_of}
use Rattle.auction.specs.Bids.{with_bid}
use Rattle.auction.specs.Seal.{all_sealed}
use Rattle.auction.specs.Volume.{cost}
use Rattle.auction.specs.declared.awards.Outcome.{Outcome}
use Rattle.auction.specs.declared.bids.Bid.{Bid}
use Rattle.auction.specs.declared.sheets.Sheet.{Sheet}
use Rattle.rights.specs.Holdings.{awarded, nothing}
use Rattle.rights.specs.Returns.{given_back, waits_of}
use Rattle.ledger.specs.declared.auctions.Auction.{Auction}
use Rattle.ledger.specs.declared.auctions.Stage.TheVariants.{Sealed, Awarded, Cancelled}
use Rattle.ledger.specs.declared.ledgers.Ledger.{Ledger}
use Rattle.ledger.specs.Auctions.{at_stage, sheet_of, with_returned}
use Rattle.ledger.specs.Ledgers.{auction_at, with_auction, with_rights}

-- opening takes the next number
abbrev pub opened_with : Auction → Ledger → Ledger
opened_with x l = record { day = l.day; receipts = l.receipts; opened = l.opened + 1; auctions = slice_set l.auctions l.opened x; rights = l.rights; accounts = l.accounts }

-- a bid goes onto the participant's sheet, and is one receipt more
abbrev pub with_sheet : ℕ → Sheet → Auction → Auction
with_sheet p s x = at_stage x.stage (slice_set x.sheets (p - 1) s) x

abbrev pub with_receipt : Ledger → Ledger
with_receipt l = record { day = l.day; receipts = l.receipts + 1; opened = l.opened; auctions = l.auctions; rights = l.rights; accounts = l.accounts }

abbrev pub bid_placed : ℕ → ℕ → Bid → Ledger → Ledger
bid_placed p a b l =
    let x = auction_at l a in
    with_receipt (with_auction a (with_sheet p (with_bid b (sheet_of p x)) x) l)

-- the seal cuts every participant's bids at its own limit
abbrev pub sealed_at : List ℕ → Auction → Auction
sealed_at limits x = at_stage Sealed (all_sealed x.product limits x.sheets) x

abbrev pub auction_sealed : ℕ → List ℕ → Ledger → Ledger
auction_sealed a limits l = with_auction a (sealed_at limits (auction_at l a)) l

-- how many bids are kept, and how many left out
abbrev pub bids_kept : Auction → ℕ
bids_kept x = sum_of (λ s. s.kept) x.sheets

abbrev pub bids_left_out : Auction → ℕ
bids_left_out x = sum_of (λ s. s.count - s.kept) x.sheets

-- after the award or a cancel nothing is held
abbrev pub freed : Sheet → Sheet
freed s = record { bids = s.bids; count = s.count; kept = s.kept; held = 0; limit = s.limit }

-- the award: price and MW by the kept bids
abbrev pub outcome : Auction → Outcome
outcome x = outcome_of x.capacity (kept_lists x.sheets)

-- the claim of each returner: what the MW returned cost at the price
abbrev pub return_claims : Auction → List ℕ
return_claims x = map (cost x.product (outcome x).price) (waits_of x.returned.rows (replicate 12 0))

-- dues become debt, returners get their claims
abbrev pub after_award : Auction → List Account → List Account
after_award x accounts = each_with claiming (return_claims x) (each_with charged (dues_of x.product (outcome x)) accounts)

abbrev pub awarded_with : ℕ → Auction → Auction
awarded_with price x = with_returned nothing x.capacity (at_stage (Awarded price) (map freed x.sheets) x)

abbrev pub awarded_as : Auction → Auction
awarded_as x = awarded_with (outcome x).price x

-- and the MW are held in each hour
abbrev pub auction_awarded : ℕ → Ledger → Ledger
auction_awarded a l =
    let x = auction_at l a in
    with_auction a (awarded_as x) (with_rights (awarded (a - 1) (outcome x).mw x.first x.product.hours l.rights) (after_award x l.accounts) l)

-- a cancel frees held sums and gives returned rights back to the holdings that they left
abbrev pub cancelled : Auction → Auction
cancelled x = with_returned nothing x.capacity (at_stage Cancelled (map freed x.sheets) x)

abbrev pub auction_cancelled : ℕ → Ledger → Ledger
auction_cancelled a l =
    let x = auction_at l a in
    with_auction a (cancelled x) (with_rights (given_back x.returned x.first x.product.hours l.rights) l.accounts l)
