-- What each call does to what a participant owes and has held.
use Rattle.std.proofs.Common.{◌≡◌, ℕ, zero, suc, ◌+◌, ◌-◌, ◌<◌, ◌≤◌, List, [], ◌∷◌, map, length, get_or, set, replicate, refl, ap, ◌∙◌, subst, arith}
use Rattle.std.proofs.lemmas.List.{get_or-map, length-map, get_or-set_same}
use Rattle.roll.specs.Rows.{each_with}
use Rattle.roll.specs.Sums.{sum_of}
use Rattle.roll.proofs.Rows.{set_le, with_le}
use Rattle.roll.proofs.Changes.{sum_down}
use Rattle.roll.proofs.Sums.{sum_none, sum_set_le}
use Rattle.std.proofs.lemmas.List.FromFn.{get_or-map-range_with_len}
use Rattle.ledger.proofs.Copies.{at_copy}
use Rattle.account.specs.Invoices.{new_account, owed}
use Rattle.account.specs.Settling.{charged, claiming, invoiced, paid, paid_out}
use Rattle.account.specs.declared.accounts.Account.{Account}
use Rattle.account.proofs.Debts.{overdue_within, owed_invoiced, owed_paid}
use Rattle.auction.specs.Award.{dues_of, kept_lists}
use Rattle.auction.specs.Bids.{bids_of, kept_of, no_bids, with_bid}
use Rattle.auction.specs.Charge.{worst_charge}
use Rattle.auction.specs.Seal.{sealed}
use Rattle.auction.specs.declared.bids.Bid.{Bid}
use Rattle.auction.specs.declared.products.Product.{Product}
use Rattle.auction.specs.declared.sheets.Sheet.{Sheet}
use Rattle.auction.proofs.Fronts.{longest_front}
use Rattle.auction.proofs.Settled.{dues_pay, pays_worst}
use Rattle.rights.specs.Cuts.{all_earned}
use Rattle.rights.specs.Returns.{waiting_more}
use Rattle.ledger.specs.declared.auctions.Auction.{Auction}
use Rattle.ledger.specs.declared.auctions.Direction.{Direction}
use Rattle.ledger.specs.declared.auctions.Stage.TheVariants.{Sealed}
use Rattle.ledger.specs.declared.ledgers.Ledger.{Ledger}
use Rattle.ledger.specs.Auctions.{held_in, new_auction, no_auction, no_sheet, sheet_of, unopened_auction, with_returned}
use Rattle.ledger.specs.Ledgers.{account_at, auction_at, new_ledger, no_account}
use Rattle.ledger.specs.Limits.{Cover, all_limits, credit_limit, held_sums, overdue_by, owes}
use Rattle.ledger.specs.Moves.{account_invoiced, account_paid, account_paid_out, prices_towards, rights_curtailed, rights_returned}
use Rattle.ledger.specs.Sound.{SoundAuction, SoundAuctions, Staged}
use Rattle.ledger.specs.Stages.{auction_awarded, auction_cancelled, awarded_as, bid_placed, cancelled, freed, opened_with, outcome, return_claims, sealed_at, with_sheet}

-- a sheet's held sum
abbrev held_by : Sheet → ℕ
held_by s = s.held

-- OPEN: nothing is held in a new auction
none_held : (n k : ℕ) → held_by (get_or (replicate n no_bids) k no_sheet) ≡ 0
none_held n k = at_copy (λ (s : Sheet). held_by s ≡ 0) no_bids no_sheet refl refl n k

pub held_open : (d : Direction) (first : ℕ) (product : Product) (capacity : ℕ) (l : Ledger) (p : ℕ) → held_sums (opened_with (new_auction d first product capacity) l) p ≤ held_sums l p
held_open d first product capacity l p =
    omega (arith, sum_set_le (held_in p) l.auctions l.opened (new_auction d first product capacity) no_auction 0 (omega (arith, none_held 12 (p - 1))))

-- an auction in the place of another, in which the participant has at most b more held
pub held_put : (l : Ledger) (a p b : ℕ) (x : Auction) → held_in p x ≤ held_in p (auction_at l a) + b → sum_of (held_in p) (set l.auctions (a - 1) x) ≤ held_sums l p + b
held_put l a p b x h = sum_set_le (held_in p) l.auctions (a - 1) x no_auction b h

-- BID: the held sums stay
pub held_bid : (l : Ledger) (q a : ℕ) (b : Bid) (p : ℕ) → held_sums (bid_placed q a b l) p ≤ held_sums l p
held_bid l q a b p =
    let x : Auction = auction_at l a in
    omega (arith, held_put l a p 0 (with_sheet q (with_bid b (sheet_of q x)) x) (set_le held_by x.sheets (q - 1) (with_bid b (sheet_of q x)) no_sheet 0 (omega arith) (p - 1)))

-- SEAL: at most the limit found more is held
pub held_seal : (limits : List ℕ) (x : Auction) (p : ℕ) → held_in p (sealed_at limits x) ≤ held_in p x + get_or limits (p - 1) 0
held_seal limits x p =
    with_le (λ limit. sealed limit x.product) held_by (λ n. n) (λ limit s. omega (arith, (longest_front limit x.product (bids_of s)).fits)) limits x.sheets 0 no_sheet (p - 1)

limit_place : (f : ℕ → ℕ) (i : ℕ) → i < 12 → get_or (map f (1 ∷ 2 ∷ 3 ∷ 4 ∷ 5 ∷ 6 ∷ 7 ∷ 8 ∷ 9 ∷ 10 ∷ 11 ∷ 12 ∷ [])) i 0 ≡ f (i + 1)
limit_place f i h = get_or-map-range_with_len f 1 12 i (i + 1) 0 h (omega arith)

-- the limit found for a participant is its credit limit
pub limit_found : (l : Ledger) (cover : Cover) (p : ℕ) → 1 ≤ p → p ≤ 12 → get_or (all_limits l cover) (p - 1) 0 ≡ credit_limit l cover p
limit_found l cover p from to = let e : p - 1 + 1 ≡ p = omega arith in limit_place (credit_limit l cover) (p - 1) (omega arith) ∙ ap (credit_limit l cover) e

-- AWARD and CANCEL: nothing stays held
freed_none : (ss : List Sheet) (k : ℕ) → held_by (get_or (map freed ss) k no_sheet) ≡ 0
freed_none [] k = refl
freed_none (s ∷ ss) zero = refl
freed_none (s ∷ ss) (suc k) = freed_none ss k

pub held_cancel : (a : ℕ) (l : Ledger) (p : ℕ) → held_sums (auction_cancelled a l) p ≤ held_sums l p
held_cancel a l p = omega (arith, held_put l a p 0 (cancelled (auction_at l a)) (omega (arith, freed_none (auction_at l a).sheets (p - 1))))

pub held_award : (a : ℕ) (l : Ledger) (p : ℕ) → SoundAuctions l → 1 ≤ a → a ≤ l.opened → held_sums (auction_awarded a l) p + held_in p (auction_at l a) ≤ held_sums l p
held_award a l p h a1 a2 =
    sum_down (held_in p) no_auction refl l.auctions (a - 1) (awarded_as (auction_at l a)) (held_in p (auction_at l a)) (omega (arith, freed_none (auction_at l a).sheets (p - 1)))

-- the due is at most the held sum
pub due_held : (x : Auction) (p : ℕ) → SoundAuction x → x.stage ≡ Sealed → 1 ≤ p → p ≤ 12 → get_or (dues_of x.product (outcome x)) (p - 1) 0 ≤ held_in p x
due_held x p h stage from to =
    let i : p - 1 < 12 = omega arith in
    let n : p - 1 < length x.sheets = omega (arith, h.rows) in
    let kept : List (List Bid) = kept_lists x.sheets in
    let s = subst (λ st. Staged st x.product (sheet_of p x)) stage (h.staged (p - 1) i) in
    let e = dues_pay x.product x.capacity kept (p - 1) (omega (arith, length-map x.sheets kept_of)) in
    let m = ap (worst_charge x.product) (get_or-map kept_of x.sheets (p - 1) no_sheet [] n) in
    omega (arith, pays_worst x.product x.capacity kept (p - 1))

pub owes_award : (a : ℕ) (l : Ledger) (p : ℕ) → owes (auction_awarded a l) p ≤ owes l p + get_or (dues_of (auction_at l a).product (outcome (auction_at l a))) (p - 1) 0
owes_award a l p =
    let x : Auction = auction_at l a in
    let dues : List ℕ = dues_of x.product (outcome x) in
    omega (
      arith,
      with_le claiming owed (λ n. 0) (λ n y. omega arith) (return_claims x) (each_with charged dues l.accounts) 0 no_account (p - 1),
      with_le charged owed (λ n. n) (λ n y. omega arith) dues l.accounts 0 no_account (p - 1),
    )

-- CURTAILMENT: claims owe nothing
pub owes_curtail : (d : Direction) (first : ℕ) (limits : List ℕ) (l : Ledger) (p : ℕ) → owes (rights_curtailed d first limits l) p ≤ owes l p
owes_curtail d first limits l p =
    let earned : List ℕ = all_earned (prices_towards d l) first limits 24 l.rights (replicate 12 0) in
    omega (arith, with_le claiming owed (λ n. 0) (λ n y. omega arith) earned l.accounts 0 no_account (p - 1))

-- RETURN: the held sums stay
pub held_return : (q out into mw : ℕ) (l : Ledger) (p : ℕ) → held_sums (rights_returned q out into mw l) p ≤ held_sums l p
held_return q out into mw l p =
    let x : Auction = auction_at l into in
    omega (arith, held_put l into p 0 (with_returned (waiting_more (out - 1) (q - 1) mw x.returned) (x.capacity + mw) x) (omega arith))

-- INVOICE, PAYMENT, PAYOUT: nobody owes more
owes_put : (l : Ledger) (q : ℕ) (y : Account) → owed y ≤ owed (account_at l q) → (p : ℕ) → owed (get_or (set l.accounts (q - 1) y) (p - 1) no_account) ≤ owes l p
owes_put l q y h p = omega (arith, set_le owed l.accounts (q - 1) y no_account 0 (omega arith) (p - 1))

pub owes_invoice : (q : ℕ) (l : Ledger) (p : ℕ) → owes (account_invoiced q l) p ≤ owes l p
owes_invoice q l p = owes_put l q (invoiced l.day (account_at l q)) (owed_invoiced l.day (account_at l q)) p

pub owes_payment : (q sum : ℕ) (l : Ledger) (p : ℕ) → owes (account_paid q sum l) p ≤ owes l p
owes_payment q sum l p = owes_put l q (paid sum (account_at l q)) (omega (arith, owed_paid sum (account_at l q))) p

pub owes_payout : (q : ℕ) (l : Ledger) (p : ℕ) → owes (account_paid_out q l) p ≤ owes l p
owes_payout q l p = owes_put l q (paid_out (account_at l q)) (omega arith) p

-- DRAW: the participant owes less by what is drawn
pub owes_draw : (q sum : ℕ) (l : Ledger) → length l.accounts ≡ 12 → 1 ≤ q → q ≤ 12 → sum ≤ overdue_by l q → owes (account_paid q sum l) q + sum ≤ owes l q
owes_draw q sum l twelve from to h =
    let e = ap owed (get_or-set_same l.accounts (q - 1) (paid sum (account_at l q)) no_account (omega arith)) in
    omega (arith, owed_paid sum (account_at l q), overdue_within l.day (account_at l q))

pub overdue_owed : (l : Ledger) (p : ℕ) → overdue_by l p ≤ owes l p
overdue_owed l p = omega (arith, overdue_within l.day (account_at l p))

-- A NEW LEDGER: nobody owes anything, and nothing is held
none_owed : (n k : ℕ) → owed (get_or (replicate n new_account) k no_account) ≡ 0
none_owed n k = at_copy (λ (x : Account). owed x ≡ 0) new_account no_account refl refl n k

pub owes_new : (p : ℕ) → owes new_ledger p ≡ 0
owes_new p = none_owed 12 (p - 1)

pub held_new : (p : ℕ) → held_sums new_ledger p ≡ 0
held_new p = sum_none (held_in p) unopened_auction (none_held 12 (p - 1)) 8
