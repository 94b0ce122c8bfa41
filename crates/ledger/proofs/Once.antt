-- `Sound` has one proof at most, so that a ghost field may hold it.
use std.HLevel.{Π_prop}
use denote.Struct.Props.{≡_prop}
use denote.Struct.Record.{Also-prop, Done-prop}
use base.Stored.{coded_bool, coded_ℕ}
use native.Mathlib.Bridge.{le_prop}
use Rattle.std.proofs.Common.{ℕ, Bool, List, [], ◌∷◌}
use mathlib.Core.Logic.{∥∥₁_elim}
use Rattle.std.specs.List.{AllByRecursion-prop}
use Rattle.roll.specs.Rolls.{Heads, Ordered}
use Rattle.account.specs.declared.accounts.Account.{Account}
use Rattle.auction.specs.Bids.{Lawful, Within}
use Rattle.auction.specs.declared.bids.Bid.{Bid}
use Rattle.auction.specs.declared.products.Product.{Product}
use Rattle.auction.specs.declared.sheets.Sheet.{Sheet}
use Rattle.ledger.specs.contracts.auctions.Auction.{the_row}
use Rattle.ledger.specs.declared.auctions.Auction.{Auction}
use Rattle.ledger.specs.declared.auctions.Stage.{Stage}
use Rattle.ledger.specs.declared.auctions.Stage.TheVariants.{Open, Sealed, Awarded, Cancelled}
use Rattle.ledger.specs.declared.ledgers.Ledger.{Ledger}
use Rattle.ledger.specs.Bounds.{SoundMoney, SoundRights}
use Rattle.ledger.specs.Sound.{Priced, Sound, SoundAccount, SoundAccounts, SoundAuction, SoundAuctions, SoundSheet, Staged}

heads_once : {X : Type 0} (first : X → X → Bool) (x : X) (ys : List X) → IsProp (Heads first x ys)
heads_once first x [] = Done-prop
heads_once first x (y ∷ ys) = Also-prop (≡_prop coded_bool _ _) (λ _. heads_once first x ys)

ordered_once : {X : Type 0} (first : X → X → Bool) (xs : List X) → IsProp (Ordered first xs)
ordered_once first [] = Done-prop
ordered_once first (x ∷ xs) = Also-prop (heads_once first x xs) (λ _. ordered_once first xs)

within_once : (c : ℕ) (bs : List Bid) → IsProp (Within c bs)
within_once c bs = hlevel (le_prop, AllByRecursion-prop Lawful (λ b. hlevel le_prop) bs)

sheet_once : {c : ℕ} {s : Sheet} → IsProp (SoundSheet c s)
sheet_once x y i = record {
  places = ≡_prop coded_ℕ _ _ x.places y.places i;
  count = le_prop x.count y.count i;
  bids = within_once _ _ x.bids y.bids i;
  order = ordered_once _ _ x.order y.order i;
}

staged_once : (stage : Stage) (d : Product) (s : Sheet) → IsProp (Staged stage d s)
staged_once Open d s = Also-prop (≡_prop coded_ℕ _ _) (λ _. ≡_prop coded_ℕ _ _)
staged_once Sealed d s = Also-prop (≡_prop coded_ℕ _ _) (λ _. ≡_prop coded_ℕ _ _)
staged_once (Awarded price) d s = Also-prop (≡_prop coded_ℕ _ _) (λ _. ≡_prop coded_ℕ _ _)
staged_once Cancelled d s = Also-prop Done-prop (λ _. ≡_prop coded_ℕ _ _)

priced_once : (stage : Stage) → IsProp (Priced stage)
priced_once Open = Done-prop
priced_once Sealed = Done-prop
priced_once (Awarded price) = le_prop
priced_once Cancelled = Done-prop

auction_once : {a : Auction} → IsProp (SoundAuction a)
auction_once {a} x y i = record {
  rows = ≡_prop coded_ℕ _ _ x.rows y.rows i;
  capacity = le_prop x.capacity y.capacity i;
  span = le_prop x.span y.span i;
  price = priced_once a.stage x.price y.price i;
  sheets = Π_prop (λ k. Π_prop (λ lt. sheet_once)) x.sheets y.sheets i;
  staged = Π_prop (λ k. Π_prop (λ lt. staged_once a.stage a.product _)) x.staged y.staged i;
}

auctions_once : {l : Ledger} → IsProp (SoundAuctions l)
auctions_once x y i = record {
  opened = le_prop x.opened y.opened i;
  rows = ≡_prop coded_ℕ _ _ x.rows y.rows i;
  some = Π_prop (λ a. Π_prop (λ lt. le_prop)) x.some y.some i;
  each = Π_prop (λ a. Π_prop (λ lt. auction_once)) x.each y.each i;
  unopened = Π_prop (λ a. Π_prop (λ le. Π_prop (λ lt. ≡_prop the_row.coded _ _))) x.unopened y.unopened i;
  receipts = le_prop x.receipts y.receipts i;
}

account_once : {debt : ℕ} {a : Account} → IsProp (SoundAccount debt a)
account_once x y i = record {
  owes = le_prop x.owes y.owes i;
  places = ≡_prop coded_ℕ _ _ x.places y.places i;
  unpaid = le_prop x.unpaid y.unpaid i;
  order = ordered_once _ _ x.order y.order i;
}

accounts_once : {l : Ledger} → IsProp (SoundAccounts l)
accounts_once x y i = record {
  rows = ≡_prop coded_ℕ _ _ x.rows y.rows i;
  each = Π_prop (λ k. Π_prop (λ lt. account_once)) x.each y.each i;
}

rights_once : {l : Ledger} → IsProp (SoundRights l)
rights_once x y i = record {
  hours = ≡_prop coded_ℕ _ _ x.hours y.hours i;
  most = Π_prop (λ h. Π_prop (λ a. le_prop)) x.most y.most i;
  unsold = Π_prop (λ h. Π_prop (λ a. Π_prop (λ e. ≡_prop coded_ℕ _ _))) x.unsold y.unsold i;
  returned = Π_prop (λ a. le_prop) x.returned y.returned i;
  ways = Π_prop (λ a. Π_prop (λ b. Π_prop (λ e. ≡_prop coded_ℕ _ _))) x.ways y.ways i;
}

money_once : {l : Ledger} → IsProp (SoundMoney l)
money_once x y i = record { within = le_prop x.within y.within i }

pub sound_once : {l : Ledger} → IsProp (Sound l)
sound_once x y i = record {
  day = le_prop x.day y.day i;
  auctions = auctions_once x.auctions y.auctions i;
  accounts = accounts_once x.accounts y.accounts i;
  rights = rights_once x.rights y.rights i;
  money = money_once x.money y.money i;
}

-- what the ghost field holds
pub sound_held : {l : Ledger} → ∥ Sound l ∥₁ → Sound l
sound_held h = ∥∥₁_elim h sound_once (λ s. s)
