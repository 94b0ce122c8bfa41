-- Rights and money within bounds: no MW is made, and no claim can come of nothing.
-- Auctions go by place here: 0 for number 1.
use Rattle.std.specs.Prelude.{◌≡◌, ℕ, ◌+◌, ◌*◌, ◌≤◌, Bool, false, cond, ◌&&◌, length, nat_le, nat_lt, slice_index_or}
use Rattle.roll.specs.Sums.{sum_of}
use Rattle.account.specs.declared.accounts.Account.{Account}
use Rattle.rights.specs.Holdings.{mw_of, row_at}
use Rattle.rights.specs.Totals.{all_mw, hour_mw, mw_at}
use Rattle.rights.specs.declared.hours.Hour.{Hour}
use Rattle.ledger.specs.declared.auctions.Auction.{Auction}
use Rattle.ledger.specs.declared.ledgers.Ledger.{Ledger}
use Rattle.ledger.specs.Auctions.{is_awarded, no_auction, same_way}

-- the MW of an auction in an hour, or of those that wait in an auction
abbrev pub held_mw : ℕ → Hour → ℕ
held_mw a hour = mw_of (row_at a hour)

abbrev pub place : ℕ → Ledger → Auction
place a l = slice_index_or l.auctions a no_auction

-- whether an auction delivers in an hour
abbrev pub delivers : ℕ → Auction → Bool
delivers h x = nat_le x.first h && nat_lt h (x.first + x.product.hours)

-- the MW of an auction that wait returned in auctions that deliver in the hour
abbrev pub waits_in : ℕ → ℕ → Auction → ℕ
waits_in h a x = cond (delivers h x) (held_mw a x.returned) 0

abbrev pub waiting : ℕ → ℕ → Ledger → ℕ
waiting h a l = sum_of (waits_in h a) l.auctions

-- the MW of an auction in an hour, held and waiting
abbrev pub in_hour : ℕ → ℕ → Ledger → ℕ
in_hour h a l = mw_at a h l.rights + waiting h a l

-- rights may wait in an auction if they are of an awarded one of the same direction
abbrev pub may_enter : Auction → Auction → Bool
may_enter x y = is_awarded x.stage && same_way x.direction y.direction

-- there are 192 hours; of each auction and hour, what is held and what waits is at most 5,000 MW; of an auction that is not awarded
-- nothing is; what waits in an auction is part of its capacity, and left auctions that it may come from
pub record SoundRights (l : Ledger) : Type 0 where
  pub hours : length l.rights ≡ 192
  pub most : (h a : ℕ) → in_hour h a l ≤ 5000
  pub unsold : (h a : ℕ) → is_awarded (place a l).stage ≡ false → in_hour h a l ≡ 0
  pub returned : (a : ℕ) → hour_mw (place a l).returned ≤ (place a l).capacity
  pub ways : (a b : ℕ) → may_enter (place a l) (place b l) ≡ false → held_mw a (place b l).returned ≡ 0

-- how many auctions are awarded
abbrev pub awarded_one : Auction → ℕ
awarded_one x = cond (is_awarded x.stage) 1 0

abbrev pub awards : Ledger → ℕ
awards l = sum_of awarded_one l.auctions

-- what a participant has claimed, and has coming
abbrev pub earned : Account → ℕ
earned x = x.claims + x.payout

-- the MW hours that are held, and those that wait
abbrev pub waiting_hours : Auction → ℕ
waiting_hours x = x.product.hours * hour_mw x.returned

abbrev pub mw_hours : Ledger → ℕ
mw_hours l = all_mw l.rights + sum_of waiting_hours l.auctions

-- what is claimed, and what could be at the highest price, is at most 960,000,000,000 cents for each award
pub record SoundMoney (l : Ledger) : Type 0 where
  pub within : sum_of earned l.accounts + 1000000 * mw_hours l ≤ 960000000000 * awards l
