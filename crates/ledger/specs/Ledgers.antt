-- The ledger, and its parts by the numbers of auctions and participants.
use Rattle.std.specs.Prelude.{ℕ, ◌-◌, List, [], replicate, slice_index_or, slice_set}
use Rattle.account.specs.Invoices.{new_account}
use Rattle.account.specs.declared.accounts.Account.{Account}
use Rattle.auction.specs.declared.sheets.Sheet.{Sheet}
use Rattle.rights.specs.Holdings.{nothing}
use Rattle.rights.specs.declared.hours.Hour.{Hour}
use Rattle.ledger.specs.declared.auctions.Auction.{Auction}
use Rattle.ledger.specs.declared.ledgers.Ledger.{Ledger}
use Rattle.ledger.specs.Auctions.{no_auction, sheet_of, unopened_auction}

abbrev pub no_account : Account
no_account = record { dues = 0; claims = 0; payout = 0; invoices = []; unpaid = 0 }

-- a new ledger: day 0, no auction, no debt
abbrev pub new_ledger : Ledger
new_ledger = record {
  day = 0;
  receipts = 0;
  opened = 0;
  auctions = replicate 8 unopened_auction;
  rights = replicate 192 nothing;
  accounts = replicate 12 new_account;
}

-- auction a, a participant's sheet there, and its account
abbrev pub auction_at : Ledger → ℕ → Auction
auction_at l a = slice_index_or l.auctions (a - 1) no_auction

abbrev pub sheet_at : Ledger → ℕ → ℕ → Sheet
sheet_at l a p = sheet_of p (auction_at l a)

abbrev pub account_at : Ledger → ℕ → Account
account_at l p = slice_index_or l.accounts (p - 1) no_account

-- the ledger with another day, auction, account, or with other rights and accounts
abbrev pub on_day : ℕ → Ledger → Ledger
on_day d l = record { day = d; receipts = l.receipts; opened = l.opened; auctions = l.auctions; rights = l.rights; accounts = l.accounts }

abbrev pub with_auction : ℕ → Auction → Ledger → Ledger
with_auction a x l = record { day = l.day; receipts = l.receipts; opened = l.opened; auctions = slice_set l.auctions (a - 1) x; rights = l.rights; accounts = l.accounts }

abbrev pub with_account : ℕ → Account → Ledger → Ledger
with_account p x l = record { day = l.day; receipts = l.receipts; opened = l.opened; auctions = l.auctions; rights = l.rights; accounts = slice_set l.accounts (p - 1) x }

abbrev pub with_rights : List Hour → List Account → Ledger → Ledger
with_rights rights accounts l = record { day = l.day; receipts = l.receipts; opened = l.opened; auctions = l.auctions; rights = rights; accounts = accounts }
