-- Some bids of the others make a participant pay exactly its worst charge: one rival takes up the rest of the capacity.
use Rattle.std.proofs.Common.{◌≡◌, ℕ, zero, suc, ◌+◌, ◌-◌, ◌<◌, ◌≤◌, max, cond, leb, ◌⊎◌, List, [], ◌∷◌, map, length, get_or, set, replicate, sym, refl, ap, ◌∙◌, inl, inr, le_of_suc-le-suc, arith, length-set}
use Rattle.std.specs.List.{AllByRecursion}
use Rattle.std.proofs.lemmas.Bool.Decides.{nat_tests}
use Rattle.std.proofs.lemmas.Bool.{cases_lt, cases_eq}
use Rattle.roll.specs.Sums.{sum_of, most_of}
use Rattle.roll.proofs.Sums.{sum_none, sum_alone, sum_map}
use Rattle.roll.proofs.Maxima.{most_none, most_alone, most_le}
use Rattle.auction.specs.declared.bids.Bid.{Bid}
use Rattle.auction.specs.declared.products.Product.{Product}
use Rattle.auction.specs.Bids.{Lawful, Within, mw_all}
use Rattle.auction.specs.Volume.{cost}
use Rattle.auction.specs.Charge.{mw_from, charge_at, worst_charge}
use Rattle.auction.specs.Award.{total_mw, total_from, reaching_price, price_of, mw_above, mw_at, remaining, award_at, pays}
use Rattle.auction.specs.Rivals.{Stands, MadeToPay}
use Rattle.auction.proofs.Volumes.{cost_free}
use Rattle.auction.proofs.Worst.{Priced, Attained, from_splits, from_all, from_drops, priced_lawful, priced_most, most_attained}
use Rattle.auction.proofs.Marginal.{price_enough}

-- one bidder at its place, one rival, and no bids of the others
abbrev against : ℕ → List Bid → List Bid → List (List Bid)
against zero bs rival = bs ∷ rival ∷ replicate 10 []
against (suc k) bs rival = rival ∷ set (replicate 11 []) k bs

sum_against : (f : List Bid → ℕ) → f [] ≡ 0 → (i : ℕ) (bs rival : List Bid) → i < 12 → sum_of f (against i bs rival) ≡ f bs + f rival
sum_against f none zero bs rival h = omega (arith, sum_none f [] none 10)
sum_against f none (suc k) bs rival h = omega (arith, sum_alone f [] none 11 k bs (le_of_suc-le-suc h))

most_against : (f : List Bid → ℕ) → f [] ≡ 0 → (i : ℕ) (bs rival : List Bid) → i < 12 → most_of f (against i bs rival) ≡ max (f bs) (f rival)
most_against f none zero bs rival h = omega (arith, most_none f [] none 10)
most_against f none (suc k) bs rival h = omega (arith, most_alone f [] none 11 k bs (le_of_suc-le-suc h))

none_at : (n j : ℕ) → get_or {A = List Bid} (replicate n []) j [] ≡ []
none_at zero j = refl
none_at (suc n) zero = refl
none_at (suc n) (suc j) = none_at n j

own_at : (n k : ℕ) (bs : List Bid) → k < n → get_or (set (replicate n []) k bs) k [] ≡ bs
own_at zero k bs h = absurd (omega arith)
own_at (suc n) zero bs h = refl
own_at (suc n) (suc k) bs h = own_at n k bs (le_of_suc-le-suc h)

other_at : (n k j : ℕ) (bs : List Bid) → (j ≡ k → ⊥) → get_or (set (replicate n []) k bs) j [] ≡ []
other_at zero k j bs ne = refl
other_at (suc n) zero zero bs ne = absurd (ne refl)
other_at (suc n) zero (suc j) bs ne = none_at n j
other_at (suc n) (suc k) zero bs ne = refl
other_at (suc n) (suc k) (suc j) bs ne = other_at n k j bs (λ e. ne (ap suc e))

-- every list but those of the two is empty
against_other : (i : ℕ) (bs rival : List Bid) (j : ℕ) → (j ≡ i → ⊥) → (get_or (against i bs rival) j [] ≡ rival) ⊎ (get_or (against i bs rival) j [] ≡ [])
against_other zero bs rival zero ne = absurd (ne refl)
against_other zero bs rival (suc zero) ne = inl refl
against_other zero bs rival (suc (suc j)) ne = inr (none_at 10 j)
against_other (suc k) bs rival zero ne = inl refl
against_other (suc k) bs rival (suc j) ne = inr (other_at 11 k j bs (λ e. ne (ap suc e)))

against_own : (i : ℕ) (bs rival : List Bid) → i < 12 → get_or (against i bs rival) i [] ≡ bs
against_own zero bs rival h = refl
against_own (suc k) bs rival h = own_at 11 k bs (le_of_suc-le-suc h)

against_length : (i : ℕ) (bs rival : List Bid) → length (against i bs rival) ≡ 12
against_length zero bs rival = refl
against_length (suc k) bs rival = ap suc (length-set (replicate 11 []) k bs)

within_none : (capacity : ℕ) → Within capacity []
within_none capacity = (omega arith, omega arith, tt)

against_stands : (capacity i : ℕ) (bs rival : List Bid) → i < 12 → Within capacity rival → Stands capacity i bs (against i bs rival)
against_stands capacity i bs rival h w = record { twelve = against_length i bs rival; mine = against_own i bs rival h; others = others }
  where
    others : (j : ℕ) → j < 12 → (j ≡ i → ⊥) → Within capacity (get_or (against i bs rival) j [])
    others j lt ne = elim (against_other i bs rival j ne) [ inl e ↦ rw e w | inr e ↦ rw e (within_none capacity) ]

-- the rival bids for what is left at the price p, and one MW at price 0
abbrev last : Bid
last = record { price = 0; mw = 1 }

abbrev rival : ℕ → ℕ → List Bid
rival p zero = last ∷ []
rival p (suc g) = record { price = p; mw = suc g } ∷ last ∷ []

rival_all : (p g : ℕ) → mw_all (rival p g) ≡ g + 1
rival_all p zero = refl
rival_all p (suc g) = omega arith

rival_from : (p g q : ℕ) → 0 < q → mw_from q (rival p g) ≡ cond (leb q p) g 0
rival_from p zero q h = grind (arith, nat_tests)
rival_from p (suc g) q h = grind (arith, nat_tests)

rival_at : (p g : ℕ) → 0 < p → mw_at p (rival p g) ≡ g
rival_at p zero h = grind (arith, nat_tests)
rival_at p (suc g) h = grind (arith, nat_tests)

rival_within : (capacity p g : ℕ) → g < capacity → capacity ≤ 5000 → p ≤ 1000000 → Within capacity (rival p g)
rival_within capacity p zero h c q = omega arith
rival_within capacity p (suc g) h c q = omega arith

-- against such a rival the price is p, and the bidder gets all its MW from p on
module _ (capacity p i : ℕ) (bs : List Bid) (own : i < 12) (fits : mw_all bs ≤ capacity) (ok : AllByRecursion Lawful bs) (pr : Priced p bs) (pos : 0 < p) where
  abbrev gap : ℕ
  gap = capacity - mw_from p bs

  abbrev both : List (List Bid)
  both = against i bs (rival p gap)

  sums : (q : ℕ) → 0 < q → total_from q both ≡ mw_from q bs + cond (leb q p) gap 0
  sums q h = sum_against (mw_from q) refl i bs (rival p gap) own ∙ ap (λ n. mw_from q bs + n) (rival_from p gap q h)

  over : capacity < total_mw both
  over = omega (arith, sum_against mw_all refl i bs (rival p gap) own, rival_all p gap, from_all p bs)

  reaching_le : (b : Bid) → reaching_price capacity both b ≤ p
  reaching_le b =
      elim (cases_lt p b.price) [
        | inl lt ↦ (let e = sums b.price (omega arith) in let d = from_drops p b.price bs lt ok pr in let f = from_all p bs in grind (arith, nat_tests))
        | inr le ↦ grind (arith, nat_tests)
      ]

  at_p : total_from p both ≡ capacity
  at_p = let e = sums p pos in let f = from_all p bs in grind (arith, nat_tests)

  most_is : most_of (λ own. most_of (reaching_price capacity both) own) both ≡ p
  most_is =
      let e = most_against (λ own. most_of (reaching_price capacity both) own) refl i bs (rival p gap) own in
      let u = most_le (reaching_price capacity both) p bs reaching_le in
      let v = most_le (reaching_price capacity both) p (rival p gap) reaching_le in
      let l = priced_most (λ q. cond (leb capacity (total_from q both)) q 0) p bs pr in
      let a = at_p in
      grind (arith, nat_tests)

  price_is : price_of capacity both ≡ p
  price_is = let m = most_is in let o = over in grind (arith, nat_tests)

  -- what is asked for at the price is what remains
  whole : sum_of (λ d. d) (map (mw_at p) both) ≤ remaining capacity both p
  whole =
      let a = sum_against (mw_above p) refl i bs (rival p gap) own in
      let b = rival_from p gap (suc p) (omega arith) in
      let c = sum_against (mw_at p) refl i bs (rival p gap) own in
      let d = rival_at p gap pos in
      let e = sum_map (λ (d : ℕ). d) (mw_at p) both in
      let s = from_splits p bs in
      let f = from_all p bs in
      grind (arith, nat_tests)

  award_is : award_at p capacity both bs ≡ mw_from p bs
  award_is = let w = whole in let s = from_splits p bs in grind (arith, nat_tests)

  pub pays_is : (d : Product) → pays d capacity both i ≡ charge_at d bs p
  pays_is d =
      ap (λ q. cost d q (award_at q capacity both (get_or both i []))) price_is
      ∙ (ap (λ mine. cost d p (award_at p capacity both mine)) (against_own i bs (rival p gap) own) ∙ ap (cost d p) award_is)

alone_pays : (d : Product) (capacity i : ℕ) (bs : List Bid) → i < 12 → mw_all bs ≤ capacity → pays d capacity (against i bs []) i ≡ 0
alone_pays d capacity i bs own fits =
    let e = sum_against mw_all refl i bs [] own in
    let z : price_of capacity (against i bs []) ≡ 0 = price_enough capacity (against i bs []) (omega arith) in
    rw z (cost_free d (award_at 0 capacity (against i bs []) (get_or (against i bs []) i [])))

pub worst_exact : (d : Product) (own : List Bid) → MadeToPay d own (worst_charge d own)
worst_exact d own capacity i bidder = go (cases_eq (worst_charge d own) 0) (most_attained (charge_at d own) own)
  where
    go : (worst_charge d own ≡ 0) ⊎ (worst_charge d own ≡ 0 → ⊥) → Attained (charge_at d own) own →
        (kept : List (List Bid)) × Stands capacity i own kept × (pays d capacity kept i ≡ worst_charge d own)
    go (inl z) h = (against i own [], against_stands capacity i own [] bidder.among (within_none capacity), alone_pays d capacity i own bidder.among bidder.lawful.1 ∙ sym z)
    go (inr n) (inl z) = absurd (n z)
    go (inr n) (inr a) = elim (cases_lt 0 a.0) [
      | inl pos ↦ (
        against i own (rival a.0 (capacity - mw_from a.0 own)),
        against_stands capacity i own _ bidder.among (rival_within capacity a.0 _ (omega (arith, bidder.some, from_drops a.0 (suc a.0) own (omega arith) bidder.lawful.2 a.1)) bidder.most (priced_lawful a.0 own bidder.lawful.2 a.1)),
        pays_is capacity a.0 i own bidder.among bidder.lawful.1 bidder.lawful.2 a.1 pos d ∙ sym a.2,
      )
      | inr none ↦ absurd (n (let z : a.0 ≡ 0 = omega arith in a.2 ∙ (ap (charge_at d own) z ∙ cost_free d (mw_from 0 own))))
    ]
