-- Every granted call keeps the rights within their bounds.
use Rattle.std.proofs.Common.{◌≡◌, ℕ, ◌+◌, ◌-◌, ◌<◌, ◌≤◌, Bool, true, false, cond, ◌||◌, ltb, leb, ◌≢◌, ◌⊎◌, List, length, get_or, set, replicate, sym, refl, ap, ◌∙◌, subst, inl, inr, arith}
use Rattle.std.proofs.lemmas.List.{get_or-set_same, get_or-set_other}
use Rattle.std.proofs.lemmas.Bool.{and_cases, and_from, and_left, and_parts, both_ways, cases_eq, leb-false, leb-true, ltb-false, ltb-true, true≢false}
use Rattle.roll.specs.Sums.{sum_of}
use Rattle.roll.proofs.Changes.{sum_down, sum_up}
use Rattle.roll.proofs.Sums.{sum_map, sum_none}
use Rattle.auction.specs.Award.{award_at, kept_lists, price_of}
use Rattle.auction.specs.Bids.{with_bid}
use Rattle.auction.specs.declared.bids.Bid.{Bid}
use Rattle.auction.specs.declared.products.Product.{Product}
use Rattle.auction.proofs.Settled.{awards_fit}
use Rattle.rights.specs.Holdings.{handed, holds_through, mw_of, with_row}
use Rattle.rights.specs.Returns.{restored, taken, waiting_more}
use Rattle.rights.specs.Totals.{hour_mw, mw_at}
use Rattle.rights.proofs.Amounts.{nothing_at, nothing_in, over_length}
use Rattle.rights.proofs.Curtailments.{size_stays}
use Rattle.rights.proofs.Earned.{curtailed_at}
use Rattle.rights.proofs.Totals.{awarded_at, awarded_others, given_back_at, given_back_out, returned_at, returned_in, transferred_at, waiting_all, waiting_at, waiting_others}
use Rattle.ledger.proofs.Copies.{at_copy}
use Rattle.ledger.specs.declared.auctions.Auction.{Auction}
use Rattle.ledger.specs.declared.auctions.Direction.{Direction}
use Rattle.ledger.specs.declared.auctions.Stage.{Stage}
use Rattle.ledger.specs.declared.auctions.Stage.TheVariants.{Open, Sealed, Awarded, Cancelled}
use Rattle.ledger.specs.declared.ledgers.Ledger.{Ledger}
use Rattle.ledger.specs.Auctions.{is_awarded, is_open, is_sealed, new_auction, no_auction, same_way, sheet_of, unopened_auction, with_returned}
use Rattle.ledger.specs.Bounds.{SoundRights, delivers, held_mw, in_hour, may_enter, place, waiting, waits_in}
use Rattle.ledger.specs.Ledgers.{auction_at, new_ledger}
use Rattle.ledger.specs.Moves.{prices_towards, rights_curtailed, rights_returned, rights_transferred}
use Rattle.ledger.specs.Sound.{SoundAuctions}
use Rattle.ledger.specs.Stages.{auction_awarded, auction_cancelled, auction_sealed, awarded_as, bid_placed, cancelled, opened_with, outcome, sealed_at, with_sheet}

-- nothing waits of an auction of which nothing was returned
pub none_waits : (h a : ℕ) (x : Auction) → held_mw a x.returned ≡ 0 → waits_in h a x ≡ 0
none_waits h a x none = go (delivers h x)
  where
    go : (b : Bool) → cond b (held_mw a x.returned) 0 ≡ 0
    go true = none
    go false = refl

-- A NEW LEDGER
new_place : (n a : ℕ) → (hour_mw (get_or (replicate n unopened_auction) a no_auction).returned ≡ 0) × ((b : ℕ) → held_mw b (get_or (replicate n unopened_auction) a no_auction).returned ≡ 0)
new_place n a = at_copy (λ (x : Auction). (hour_mw x.returned ≡ 0) × ((b : ℕ) → held_mw b x.returned ≡ 0)) unopened_auction no_auction (refl, nothing_at) (refl, λ b. refl) n a

pub rights_new : SoundRights new_ledger
rights_new = record {
  hours = refl;
  most = λ h a. omega (arith, none h a);
  unsold = λ h a _. none h a;
  returned = λ a. omega (arith, (new_place 8 a).0);
  ways = λ a b _. (new_place 8 b).1 a;
}
  where
    none : (h a : ℕ) → in_hour h a new_ledger ≡ 0
    none h a = omega (arith, nothing_in 192 h a, sum_none (waits_in h a) unopened_auction (none_waits h a unopened_auction (nothing_at a)) 8)

-- CALLS THAT TOUCH NO AUCTION: no auction has more MW in any hour
fewer_rights : (l m : Ledger) → SoundRights l → m.auctions ≡ l.auctions → length m.rights ≡ 192 → ((a h : ℕ) → mw_at a h m.rights ≤ mw_at a h l.rights) → SoundRights m
fewer_rights l m s e n less = record {
  hours = n;
  most = λ h a. omega (arith, fewer h a, s.most h a);
  unsold = λ h a sold. omega (arith, fewer h a, s.unsold h a (rw e at sold));
  returned = λ a. rw e (s.returned a);
  ways = λ a b shut. rw e (s.ways a b (rw e at shut));
}
  where
    fewer : (h a : ℕ) → in_hour h a m ≤ in_hour h a l
    fewer h a = omega (arith, less a h, ap (sum_of (waits_in h a)) e)

-- an invoice, a payment, a payout, another day
pub rights_kept : (l m : Ledger) → SoundRights l → m.rights ≡ l.rights → m.auctions ≡ l.auctions → SoundRights m
rights_kept l m s r e = fewer_rights l m s e (ap length r ∙ s.hours) (λ a h. omega (arith, ap (mw_at a h) r))

pub rights_transfer : (giver taker a first hours mw : ℕ) (l : Ledger) → SoundRights l → holds_through (a - 1) (giver - 1) mw first hours l.rights ≡ true → SoundRights (rights_transferred giver taker a first hours mw l)
rights_transfer giver taker a first hours mw l s held =
    fewer_rights l (rights_transferred giver taker a first hours mw l) s refl (over_length (handed (a - 1) (giver - 1) (taker - 1) mw) first hours l.rights ∙ s.hours)
    (transferred_at (a - 1) (giver - 1) (taker - 1) mw first hours l.rights held)

pub rights_curtail : (d : Direction) (first : ℕ) (limits : List ℕ) (l : Ledger) → SoundRights l → SoundRights (rights_curtailed d first limits l)
rights_curtail d first limits l s =
    fewer_rights l (rights_curtailed d first limits l) s refl (size_stays (prices_towards d l) first limits l.rights 24 ∙ s.hours) (curtailed_at (prices_towards d l) first limits l.rights 24)

-- CALLS ON AN AUCTION, which was not awarded before
module _ (l m : Ledger) (i : ℕ) (x : Auction) (e : m.auctions ≡ set l.auctions i x) (inside : i < length l.auctions) where
  -- what holds of the new auction, and of each other as before, holds of all
  at_each : (P : ℕ → Auction → Type 0) → P i x → ((a : ℕ) → a ≢ i → P a (place a l)) → (a : ℕ) → P a (place a m)
  at_each P new old a = elim (cases_eq a i) [
    | inl same ↦ rw (e, same, get_or-set_same l.auctions i x no_auction inside) new
    | inr other ↦ rw (e, get_or-set_other l.auctions i a x no_auction other) (old a other)
  ]

  module _ (s : SoundRights l) (before : is_awarded (place i l).stage ≡ false) where
    put : length m.rights ≡ 192 → ((h a : ℕ) → a ≢ i → in_hour h a m ≤ in_hour h a l) →
        ((h : ℕ) → (in_hour h i m ≤ 5000) × (is_awarded x.stage ≡ false → in_hour h i m ≡ 0)) →
        hour_mw x.returned ≤ x.capacity → ((a : ℕ) → may_enter (place a l) x ≡ false → held_mw a x.returned ≡ 0) → SoundRights m
    put n others here within enters = record {
      hours = n;
      most = λ h. at_each (λ a _. in_hour h a m ≤ 5000) (here h).0 (λ a ne. omega (arith, others h a ne, s.most h a));
      unsold = λ h. at_each (λ a y. is_awarded y.stage ≡ false → in_hour h a m ≡ 0) (here h).1 (λ a ne out. omega (arith, others h a ne, s.unsold h a out));
      returned = at_each (λ a y. hour_mw y.returned ≤ y.capacity) within (λ a ne. s.returned a);
      ways = λ a b. at_each (λ b z. may_enter (place a m) z ≡ false → held_mw a z.returned ≡ 0) (comes a) (leaves a) b;
    }
      where
        shut_before : (y : Auction) → may_enter (place i l) y ≡ false
        shut_before y = and_left _ _ before

        comes : (a : ℕ) → may_enter (place a m) x ≡ false → held_mw a x.returned ≡ 0
        comes = at_each (λ a y. may_enter y x ≡ false → held_mw a x.returned ≡ 0) (λ _. enters i (shut_before x)) (λ a ne. enters a)

        leaves : (a b : ℕ) → b ≢ i → may_enter (place a m) (place b l) ≡ false → held_mw a (place b l).returned ≡ 0
        leaves a b ne = at_each (λ a y. may_enter y (place b l) ≡ false → held_mw a (place b l).returned ≡ 0) (λ _. s.ways i b (shut_before (place b l))) (λ a other. s.ways a b) a

    -- no auction has more MW in any hour
    put_fewer : length m.rights ≡ 192 → ((h a : ℕ) → in_hour h a m ≤ in_hour h a l) → hour_mw x.returned ≤ x.capacity → ((a : ℕ) → may_enter (place a l) x ≡ false → held_mw a x.returned ≡ 0) → SoundRights m
    put_fewer n fewer = put n (λ h a _. fewer h a) (λ h. let none = s.unsold h i before in (omega (arith, fewer h i), λ _. omega (arith, fewer h i)))

    -- the rights stay, and no more waits
    put_same : m.rights ≡ l.rights → ((h a : ℕ) → waits_in h a x ≤ waits_in h a (place i l)) → hour_mw x.returned ≤ x.capacity → ((a : ℕ) → may_enter (place a l) x ≡ false → held_mw a x.returned ≡ 0) → SoundRights m
    put_same r waits =
        put_fewer (ap length r ∙ s.hours)
        (λ h a. omega (arith, ap (mw_at a h) r, ap (sum_of (waits_in h a)) e, sum_up (waits_in h a) no_auction (none_waits h a no_auction refl) l.auctions i x 0 (omega (arith, waits h a))))

-- an auction that is there has its place
pub placed : (l : Ledger) (a : ℕ) → SoundAuctions l → 1 ≤ a → a ≤ l.opened → a - 1 < length l.auctions
placed l a h from to = omega (arith, h.rows, h.opened)

-- before its opening an auction had nothing
pub rights_open : (d : Direction) (first : ℕ) (product : Product) (capacity : ℕ) (l : Ledger) → SoundAuctions l → SoundRights l → l.opened < 8 → SoundRights (opened_with (new_auction d first product capacity) l)
rights_open d first product capacity l h s room =
    let x : Auction = new_auction d first product capacity in
    put_same l (opened_with x l) l.opened x refl (omega (arith, h.rows)) s (ap (λ y. is_awarded y.stage) (h.unopened l.opened (omega arith) room)) refl
    (λ hour a. omega (arith, none_waits hour a x (nothing_at a))) (omega arith) (λ a _. nothing_at a)

-- other sheets, another stage
pub rights_bid : (p a : ℕ) (b : Bid) (l : Ledger) → SoundAuctions l → SoundRights l → 1 ≤ a → a ≤ l.opened → (auction_at l a).stage ≡ Open → SoundRights (bid_placed p a b l)
rights_bid p a b l h s a1 a2 stage =
    put_same l (bid_placed p a b l) (a - 1) (with_sheet p (with_bid b (sheet_of p (auction_at l a))) (auction_at l a)) refl (placed l a h a1 a2) s (ap is_awarded stage) refl
    (λ hour c. omega arith) (s.returned (a - 1)) (λ c. s.ways c (a - 1))

pub rights_seal : (a : ℕ) (limits : List ℕ) (l : Ledger) → SoundAuctions l → SoundRights l → 1 ≤ a → a ≤ l.opened → (auction_at l a).stage ≡ Open → SoundRights (auction_sealed a limits l)
rights_seal a limits l h s a1 a2 stage =
    put_same l (auction_sealed a limits l) (a - 1) (sealed_at limits (auction_at l a)) refl (placed l a h a1 a2) s (ap is_awarded stage) refl
    (λ hour c. omega arith) (s.returned (a - 1)) (λ c. s.ways c (a - 1))

-- of an auction of which nothing was held, at most its capacity comes into each hour
pub award_within : (x : Auction) → mw_of (outcome x).mw ≤ x.capacity
award_within x =
    let kept : List (List Bid) = kept_lists x.sheets in
    omega (arith, awards_fit x.capacity kept, sum_map (λ mw. mw) (award_at (price_of x.capacity kept) x.capacity kept) kept)

pub rights_award : (a : ℕ) (l : Ledger) → SoundAuctions l → SoundRights l → 1 ≤ a → a ≤ l.opened → (auction_at l a).stage ≡ Sealed → SoundRights (auction_awarded a l)
rights_award a l h s a1 a2 stage =
    put l after (a - 1) (awarded_as x) refl (placed l a h a1 a2) s sealed (over_length (with_row (a - 1) (outcome x).mw) x.first x.product.hours l.rights ∙ s.hours)
    (λ hour b ne. omega (arith, waits hour b, awarded_others (a - 1) (outcome x).mw x.first x.product.hours l.rights b hour ne))
    (λ hour. (
      omega (
        arith,
        waits hour (a - 1),
        awarded_at (a - 1) (outcome x).mw x.first x.product.hours l.rights (a - 1) hour,
        s.unsold hour (a - 1) sealed,
        award_within x,
        (h.each (a - 1) (omega (arith, h.opened))).capacity,
      ),
      λ t. absurd (true≢false t),
    ))
    (omega arith) (λ b _. nothing_at b)
  where
    x : Auction
    x = auction_at l a

    after : Ledger
    after = auction_awarded a l

    sealed : is_awarded x.stage ≡ false
    sealed = ap is_awarded stage

    waits : (hour b : ℕ) → waiting hour b after ≤ waiting hour b l
    waits hour b =
        omega (arith, sum_up (waits_in hour b) no_auction (none_waits hour b no_auction refl) l.auctions (a - 1) (awarded_as x) 0 (omega (arith, none_waits hour b (awarded_as x) (nothing_at b))))

-- the span of an auction's hours
in_span : (h : ℕ) (x : Auction) → delivers h x ≡ true → (x.first ≤ h) × (h < x.first + x.product.hours)
in_span h x e = let both = and_parts (leb x.first h) (ltb h (x.first + x.product.hours)) e in (leb-true _ _ both.0, ltb-true _ _ both.1)

out_of_span : (h : ℕ) (x : Auction) → delivers h x ≡ false → (h < x.first) ⊎ (x.first + x.product.hours ≤ h)
out_of_span h x e = elim (and_cases (leb x.first h) (ltb h (x.first + x.product.hours)) e) [ inl low ↦ inl (leb-false _ _ low) | inr high ↦ inr (ltb-false _ _ high) ]

-- what waited is held again
pub before_award : (stage : Stage) → (is_open stage || is_sealed stage) ≡ true → is_awarded stage ≡ false
before_award Open h = refl
before_award Sealed h = refl
before_award (Awarded price) h = sym h
before_award Cancelled h = refl

pub rights_cancel : (a : ℕ) (l : Ledger) → SoundAuctions l → SoundRights l → 1 ≤ a → a ≤ l.opened → (is_open (auction_at l a).stage || is_sealed (auction_at l a).stage) ≡ true → SoundRights (auction_cancelled a l)
rights_cancel a l h s a1 a2 stage =
    put_fewer l (auction_cancelled a l) (a - 1) (cancelled x) refl (placed l a h a1 a2) s (before_award x.stage stage)
    (over_length (restored x.returned) x.first x.product.hours l.rights ∙ s.hours) (λ hour b. omega (arith, held hour b, waits hour b)) (omega arith) (λ b _. nothing_at b)
  where
    x : Auction
    x = auction_at l a

    waits : (hour b : ℕ) → waiting hour b (auction_cancelled a l) + waits_in hour b x ≤ waiting hour b l
    waits hour b =
        sum_down (waits_in hour b) no_auction (none_waits hour b no_auction refl) l.auctions (a - 1) (cancelled x) (waits_in hour b x) (omega (arith, none_waits hour b (cancelled x) (nothing_at b)))

    held : (hour b : ℕ) → mw_at b hour (auction_cancelled a l).rights ≤ mw_at b hour l.rights + waits_in hour b x
    held hour b = go (delivers hour x) refl
      where
        go : (t : Bool) → delivers hour x ≡ t → mw_at b hour (auction_cancelled a l).rights ≤ mw_at b hour l.rights + cond t (held_mw b x.returned) 0
        go true e = given_back_at x.returned x.first x.product.hours l.rights b hour
        go false e = omega (arith, given_back_out x.returned x.first x.product.hours l.rights b hour (out_of_span hour x e))

-- what leaves the holdings of an hour waits over that hour
module _ (p out into mw : ℕ) (l : Ledger) where
  abbrev entered : Auction
  entered = auction_at l into

  abbrev entered_with : Auction
  entered_with = with_returned (waiting_more (out - 1) (p - 1) mw entered.returned) (entered.capacity + mw) entered

  abbrev then : Ledger
  then = rights_returned p out into mw l

  module _ (s : SoundRights l) (held : holds_through (out - 1) (p - 1) mw entered.first entered.product.hours l.rights ≡ true) where
    -- at most c more wait in the auction entered
    wait_more : (hour a c : ℕ) → waits_in hour a entered_with ≤ waits_in hour a entered + c → waiting hour a then ≤ waiting hour a l + c
    wait_more hour a c le = sum_up (waits_in hour a) no_auction (none_waits hour a no_auction refl) l.auctions (into - 1) entered_with c le

    others : (hour a : ℕ) → a ≢ out - 1 → in_hour hour a then ≤ in_hour hour a l
    others hour a ne =
        omega (arith, returned_at (out - 1) (p - 1) mw entered.first entered.product.hours l.rights held a hour, wait_more hour a 0 (same (delivers hour entered)))
      where
        same : (t : Bool) → cond t (held_mw a entered_with.returned) 0 ≤ cond t (held_mw a entered.returned) 0 + 0
        same true = omega (arith, waiting_others (out - 1) (p - 1) mw entered.returned a ne)
        same false = omega arith

    left : entered.first + entered.product.hours ≤ 192 → (hour : ℕ) → in_hour hour (out - 1) then ≤ in_hour hour (out - 1) l
    left span hour = go (delivers hour entered) refl
      where
        go : (t : Bool) → delivers hour entered ≡ t → in_hour hour (out - 1) then ≤ in_hour hour (out - 1) l
        go false e =
            omega (arith, returned_at (out - 1) (p - 1) mw entered.first entered.product.hours l.rights held (out - 1) hour, wait_more hour (out - 1) 0 (rw e (omega arith)))
        go true e =
            let within = in_span hour entered e in
            omega (
              arith,
              returned_in (out - 1) (p - 1) mw entered.first entered.product.hours l.rights held hour within.0 within.1 (omega (arith, s.hours)),
              wait_more hour (out - 1) mw (rw e (waiting_at (out - 1) (p - 1) mw entered.returned (out - 1))),
            )

pub rights_return : (p out into mw : ℕ) (l : Ledger) → SoundAuctions l → SoundRights l → 1 ≤ into → into ≤ l.opened → is_awarded (auction_at l out).stage ≡ true → (auction_at l into).stage ≡ Open → same_way (auction_at l out).direction (auction_at l into).direction ≡ true → holds_through (out - 1) (p - 1) mw (auction_at l into).first (auction_at l into).product.hours l.rights ≡ true → SoundRights (rights_returned p out into mw l)
rights_return p out into mw l h s b1 b2 sold stage way held =
    let y : Auction = auction_at l into in
    let m : Ledger = rights_returned p out into mw l in
    put_fewer l m (into - 1) (entered_with p out into mw l) refl (placed l into h b1 b2) s (ap is_awarded stage)
    (over_length (taken (out - 1) (p - 1) mw) y.first y.product.hours l.rights ∙ s.hours)
    (λ hour a. elim (cases_eq a (out - 1)) as (λ _. in_hour hour a m ≤ in_hour hour a l) [
      | inl same ↦ subst (λ b. in_hour hour b m ≤ in_hour hour b l) (sym same) (left p out into mw l s held (h.each (into - 1) (omega (arith, h.opened))).span hour)
      | inr other ↦ others p out into mw l s held hour a other
    ])
    (omega (arith, s.returned (into - 1), waiting_all (out - 1) (p - 1) mw y.returned))
    (λ a shut. elim (cases_eq a (out - 1)) [
      | inl same ↦ absurd (both_ways (may_enter (place (out - 1) l) y) (subst (λ b. may_enter (place b l) y ≡ false) same shut) (and_from _ _ sold way))
      | inr other ↦ waiting_others (out - 1) (p - 1) mw y.returned a other ∙ s.ways a (into - 1) shut
    ])
