-- Every granted call keeps the ledger sound.
use Rattle.std.proofs.Common.{◌≡◌, ℕ, ◌+◌, ◌-◌, ◌<◌, ◌≤◌, true, cond, ◌||◌, List, length, set, replicate, refl, ap, arith}
use Rattle.account.specs.Settling.{to_pay}
use Rattle.auction.specs.Bids.{Lawful, bids_of, mw_all, with_bid}
use Rattle.auction.specs.declared.bids.Bid.{Bid}
use Rattle.auction.specs.declared.products.Product.{Product}
use Rattle.rights.specs.Cuts.{all_earned}
use Rattle.rights.specs.Holdings.{holds_through}
use Rattle.rights.specs.Returns.{waiting_more}
use Rattle.ledger.specs.declared.auctions.Auction.{Auction}
use Rattle.ledger.specs.declared.auctions.Direction.{Direction}
use Rattle.ledger.specs.declared.auctions.Stage.TheVariants.{Open, Sealed}
use Rattle.ledger.specs.declared.ledgers.Ledger.{Ledger}
use Rattle.ledger.specs.Auctions.{is_awarded, is_open, is_sealed, new_auction, same_way, sheet_of, with_returned}
use Rattle.ledger.specs.Ledgers.{account_at, auction_at, new_ledger, on_day, sheet_at}
use Rattle.ledger.specs.Moves.{account_invoiced, account_paid, account_paid_out, prices_towards, rights_curtailed, rights_returned, rights_transferred}
use Rattle.ledger.specs.Bounds.{awarded_one}
use Rattle.ledger.specs.Sound.{Sound, SoundAccounts}
use Rattle.ledger.specs.Stages.{auction_awarded, auction_cancelled, auction_sealed, awarded_as, bid_placed, cancelled, opened_with, sealed_at, with_sheet}
use Rattle.ledger.proofs.Owing.{accounts_award, accounts_claims, accounts_invoice, accounts_kept, accounts_new, accounts_payment, accounts_payout, awards_open, awards_put, awards_same}
use Rattle.ledger.proofs.RightsKept.{before_award, rights_award, rights_bid, rights_cancel, rights_curtail, rights_kept, rights_new, rights_open, rights_return, rights_seal, rights_transfer}
use Rattle.ledger.proofs.MoneyKept.{money_award, money_bid, money_cancel, money_curtail, money_day, money_invoice, money_new, money_open, money_payment, money_payout, money_return, money_seal, money_transfer}
use Rattle.ledger.proofs.Kept.{at_number, auction_new, auctions_new, keep_auctions, keep_award, keep_bid, keep_cancel, keep_open, keep_return, keep_seal}

pub sound_new : Sound new_ledger
sound_new = record { day = omega arith; auctions = auctions_new; accounts = accounts_new; rights = rights_new; money = money_new }

pub sound_open : (d : Direction) (first : ℕ) (product : Product) (capacity : ℕ) (l : Ledger) → Sound l → l.opened < 8 → 1 ≤ capacity → capacity ≤ 5000 → first + product.hours ≤ 192 → Sound (opened_with (new_auction d first product capacity) l)
sound_open d first product capacity l h room some most span =
    let x : Auction = new_auction d first product capacity in
    record {
      day = h.day;
      auctions = keep_open l x h.auctions room some (auction_new d first product capacity most span);
      accounts = accounts_kept l (opened_with x l) h.accounts refl (awards_open l (opened_with x l) x h.auctions room refl);
      rights = rights_open d first product capacity l h.auctions h.rights room;
      money = money_open d first product capacity l h.auctions h.money room;
    }

-- a call on an auction that is there, which leaves the accounts alone and undoes no award
kept : (l m : Ledger) (a : ℕ) (x : Auction) → Sound l → 1 ≤ a → a ≤ l.opened → m.auctions ≡ set l.auctions (a - 1) x → m.accounts ≡ l.accounts → awarded_one (auction_at l a) ≤ awarded_one x → SoundAccounts m
kept l m a x h a1 a2 e same up = let n = awards_put l m a 0 x h.auctions a1 a2 e (omega arith) in accounts_kept l m h.accounts same (omega arith)

pub sound_bid : (p a : ℕ) (b : Bid) (l : Ledger) → Sound l → 1 ≤ p → p ≤ 12 → 1 ≤ a → a ≤ l.opened → (auction_at l a).stage ≡ Open → Lawful b → (sheet_at l a p).count < 4 → mw_all (bids_of (sheet_at l a p)) + b.mw ≤ (auction_at l a).capacity → Sound (bid_placed p a b l)
sound_bid p a b l h p1 p2 a1 a2 stage ok free fits =
    let x : Auction = auction_at l a in
    record {
      day = h.day;
      auctions = keep_bid l p a b h.auctions p1 p2 a1 a2 stage ok free fits;
      accounts = kept l (bid_placed p a b l) a (with_sheet p (with_bid b (sheet_of p x)) x) h a1 a2 refl refl (omega arith);
      rights = rights_bid p a b l h.auctions h.rights a1 a2 stage;
      money = money_bid p a b l h.auctions h.money a1 a2;
    }

pub sound_seal : (a : ℕ) (limits : List ℕ) (l : Ledger) → Sound l → 1 ≤ a → a ≤ l.opened → (auction_at l a).stage ≡ Open → length limits ≡ 12 → Sound (auction_sealed a limits l)
sound_seal a limits l h a1 a2 stage twelve =
    let none : awarded_one (auction_at l a) ≡ 0 = rw stage refl in
    record {
      day = h.day;
      auctions = keep_seal l (auction_sealed a limits l) a limits h.auctions a1 a2 twelve refl refl refl;
      accounts = kept l (auction_sealed a limits l) a (sealed_at limits (auction_at l a)) h a1 a2 refl refl (omega arith);
      rights = rights_seal a limits l h.auctions h.rights a1 a2 stage;
      money = money_seal a limits l h.auctions h.money a1 a2 stage;
    }

pub sound_award : (a : ℕ) (l : Ledger) → Sound l → 1 ≤ a → a ≤ l.opened → (auction_at l a).stage ≡ Sealed → Sound (auction_awarded a l)
sound_award a l h a1 a2 stage =
    let x : Auction = auction_at l a in
    let none : awarded_one x ≡ 0 = rw stage refl in
    record {
      day = h.day;
      auctions = keep_award l (auction_awarded a l) a h.auctions a1 a2 stage refl refl refl;
      accounts = accounts_award l (auction_awarded a l) x h.accounts (at_number l a h.auctions a1 a2) stage refl (awards_put l (auction_awarded a l) a 1 (awarded_as x) h.auctions a1 a2 refl (omega arith));
      rights = rights_award a l h.auctions h.rights a1 a2 stage;
      money = money_award a l h.auctions h.money a1 a2 stage;
    }

pub sound_cancel : (a : ℕ) (l : Ledger) → Sound l → 1 ≤ a → a ≤ l.opened → (is_open (auction_at l a).stage || is_sealed (auction_at l a).stage) ≡ true → Sound (auction_cancelled a l)
sound_cancel a l h a1 a2 stage =
    let none : awarded_one (auction_at l a) ≡ 0 = ap (λ b. cond {A = ℕ} b 1 0) (before_award (auction_at l a).stage stage) in
    record {
      day = h.day;
      auctions = keep_cancel l (auction_cancelled a l) a h.auctions a1 a2 refl refl refl;
      accounts = kept l (auction_cancelled a l) a (cancelled (auction_at l a)) h a1 a2 refl refl (omega arith);
      rights = rights_cancel a l h.auctions h.rights a1 a2 stage;
      money = money_cancel a l h.auctions h.money a1 a2 stage;
    }

pub sound_transfer : (giver taker a first hours mw : ℕ) (l : Ledger) → Sound l → holds_through (a - 1) (giver - 1) mw first hours l.rights ≡ true → Sound (rights_transferred giver taker a first hours mw l)
sound_transfer giver taker a first hours mw l h has =
    let m : Ledger = rights_transferred giver taker a first hours mw l in
    record {
      day = h.day;
      auctions = keep_auctions l m h.auctions refl refl refl;
      accounts = accounts_kept l m h.accounts refl (awards_same l m refl);
      rights = rights_transfer giver taker a first hours mw l h.rights has;
      money = money_transfer giver taker a first hours mw l h.money has;
    }

pub sound_return : (p out into mw : ℕ) (l : Ledger) → Sound l → 1 ≤ into → into ≤ l.opened → is_awarded (auction_at l out).stage ≡ true → (auction_at l into).stage ≡ Open → same_way (auction_at l out).direction (auction_at l into).direction ≡ true → holds_through (out - 1) (p - 1) mw (auction_at l into).first (auction_at l into).product.hours l.rights ≡ true → (auction_at l into).capacity + mw ≤ 5000 → Sound (rights_returned p out into mw l)
sound_return p out into mw l h a1 a2 sold entered way has room =
    let x : Auction = auction_at l into in
    let waits = waiting_more (out - 1) (p - 1) mw x.returned in
    record {
      day = h.day;
      auctions = keep_return l (rights_returned p out into mw l) into waits (x.capacity + mw) h.auctions a1 a2 (omega arith) room refl refl refl;
      accounts = kept l (rights_returned p out into mw l) into (with_returned waits (x.capacity + mw) x) h a1 a2 refl refl (omega arith);
      rights = rights_return p out into mw l h.auctions h.rights a1 a2 sold entered way has;
      money = money_return p out into mw l h.auctions h.rights h.money a1 a2 has;
    }

pub sound_curtail : (d : Direction) (first : ℕ) (limits : List ℕ) (l : Ledger) → Sound l → Sound (rights_curtailed d first limits l)
sound_curtail d first limits l h =
    let m : Ledger = rights_curtailed d first limits l in
    record {
      day = h.day;
      auctions = keep_auctions l m h.auctions refl refl refl;
      accounts = accounts_claims l m (all_earned (prices_towards d l) first limits 24 l.rights (replicate 12 0)) h.accounts refl (awards_same l m refl);
      rights = rights_curtail d first limits l h.rights;
      money = money_curtail d first limits l h.auctions h.money;
    }

pub sound_invoice : (p : ℕ) (l : Ledger) → Sound l → (0 < to_pay (account_at l p) → (account_at l p).unpaid < 4) → Sound (account_invoiced p l)
sound_invoice p l h free =
    let m : Ledger = account_invoiced p l in
    record { day = h.day; auctions = keep_auctions l m h.auctions refl refl refl; accounts = accounts_invoice l m p h.accounts refl (awards_same l m refl) free; rights = rights_kept l m h.rights refl refl; money = money_invoice p l h.money }

pub sound_payment : (p sum : ℕ) (l : Ledger) → Sound l → Sound (account_paid p sum l)
sound_payment p sum l h =
    let m : Ledger = account_paid p sum l in
    record { day = h.day; auctions = keep_auctions l m h.auctions refl refl refl; accounts = accounts_payment l m p sum h.accounts refl (awards_same l m refl); rights = rights_kept l m h.rights refl refl; money = money_payment p sum l h.money }

pub sound_payout : (p : ℕ) (l : Ledger) → Sound l → Sound (account_paid_out p l)
sound_payout p l h =
    let m : Ledger = account_paid_out p l in
    record { day = h.day; auctions = keep_auctions l m h.auctions refl refl refl; accounts = accounts_payout l m p h.accounts refl (awards_same l m refl); rights = rights_kept l m h.rights refl refl; money = money_payout p l h.money }

pub sound_day : (d : ℕ) (l : Ledger) → Sound l → d ≤ 9900 → Sound (on_day d l)
sound_day d l h late =
    let m : Ledger = on_day d l in
    record { day = late; auctions = keep_auctions l m h.auctions refl refl refl; accounts = accounts_kept l m h.accounts refl (awards_same l m refl); rights = rights_kept l m h.rights refl refl; money = money_day d l h.money }
