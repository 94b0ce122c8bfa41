-- The marginal price: the kept bids reach the capacity at it, and not above it.
use Rattle.std.proofs.Common.{◌≡◌, ℕ, suc, max, ◌<◌, ◌≤◌, Option, Bool, true, false, cond, leb, ◌⊎◌, List, [], ◌∷◌, map, filter, ◌++◌, length, get_or, sym, refl, ◌∙◌, inl, inr, arith}
use Rattle.std.specs.List.{AllByRecursion}
use Rattle.std.proofs.lemmas.Bool.Decides.{nat_tests}
use Rattle.std.proofs.lemmas.Bool.{cases_lt, leb-true}
use Rattle.std.specs.List.{flat_map, reduce}
use Rattle.std.specs.Option.{option_map, unwrap_or}
use Rattle.roll.specs.Sums.{sum_of, most_of}
use Rattle.roll.proofs.Sums.{sum_append, sum_mono}
use Rattle.roll.proofs.Maxima.{most_all, most_append, most_map, most_under}
use Rattle.auction.specs.declared.bids.Bid.{Bid}
use Rattle.auction.specs.declared.sheets.Sheet.{Sheet}
use Rattle.auction.specs.Bids.{Lawful, mw_all, kept_of}
use Rattle.auction.specs.Charge.{mw_from}
use Rattle.auction.specs.Award.{kept_lists, total_mw, total_from, reaching_price, price_of, mw_above, Clears}
use Rattle.auction.proofs.Chains.{most_flat, most_passing, largest_or_0}
use Rattle.auction.proofs.Worst.{Priced, Next, next_price, priced_most, most_attained, Attained, from_all, from_zero}

-- all kept bids in one list
abbrev flat : List (List Bid) → List Bid
flat [] = []
flat (bs ∷ kept) = bs ++ flat kept

flat_from : (p : ℕ) (kept : List (List Bid)) → mw_from p (flat kept) ≡ total_from p kept
flat_from p [] = refl
flat_from p (bs ∷ kept) = omega (arith, sum_append (λ (b : Bid). cond (leb p b.price) b.mw 0) bs (flat kept), flat_from p kept)

flat_most : (f : Bid → ℕ) (kept : List (List Bid)) → most_of f (flat kept) ≡ most_of (λ bs. most_of f bs) kept
flat_most f [] = refl
flat_most f (bs ∷ kept) = omega (arith, most_append f bs (flat kept), flat_most f kept)

-- the highest price of a kept bid at which the capacity is reached
abbrev pub top : ℕ → List (List Bid) → ℕ
top capacity kept = most_of (λ bs. most_of (reaching_price capacity kept) bs) kept

abbrev if_reached : ℕ → List (List Bid) → ℕ → ℕ
if_reached capacity kept q = cond (leb capacity (total_from q kept)) q 0

top_flat : (capacity : ℕ) (kept : List (List Bid)) → most_of (λ b. if_reached capacity kept b.price) (flat kept) ≡ top capacity kept
top_flat capacity kept = flat_most (reaching_price capacity kept) kept

at_most_top : (capacity : ℕ) (kept : List (List Bid)) (q : ℕ) → Priced q (flat kept) → capacity ≤ total_from q kept → q ≤ top capacity kept
at_most_top capacity kept q pr h = let a = priced_most (if_reached capacity kept) q (flat kept) pr in let b = top_flat capacity kept in grind (arith, nat_tests)

-- above the highest such price the capacity is not reached
above_top : (capacity : ℕ) (kept : List (List Bid)) (q : ℕ) → top capacity kept < q → (total_from q kept ≡ 0) ⊎ (total_from q kept < capacity)
above_top capacity kept q lt = go (next_price q (flat kept)) (cases_lt (total_from q kept) capacity)
  where
    go : Next q (flat kept) → (total_from q kept < capacity) ⊎ (capacity ≤ total_from q kept) → (total_from q kept ≡ 0) ⊎ (total_from q kept < capacity)
    go n (inl below) = inr below
    go (inl z) (inr le) = inl (sym (flat_from q kept) ∙ z)
    go (inr n) (inr le) =
        let f = flat_from n.0 kept in
        let g = flat_from q kept in
        absurd (omega (arith, at_most_top capacity kept n.0 n.2 (omega arith)))

pub total_zero : (kept : List (List Bid)) → total_from 0 kept ≡ total_mw kept
total_zero [] = refl
total_zero (bs ∷ kept) = omega (arith, from_zero bs, total_zero kept)

reached_at_top : (capacity : ℕ) (kept : List (List Bid)) → capacity < total_mw kept → capacity ≤ total_from (top capacity kept) kept
reached_at_top capacity kept over = go (most_attained (if_reached capacity kept) (flat kept))
  where
    at_zero : top capacity kept ≡ 0 → capacity ≤ total_from (top capacity kept) kept
    at_zero z = rw z (omega (arith, total_zero kept))

    at_price : (b : Bool) (q : ℕ) → leb capacity (total_from q kept) ≡ b → top capacity kept ≡ cond b q 0 → capacity ≤ total_from (top capacity kept) kept
    at_price true q h e = rw e (leb-true _ _ h)
    at_price false q h e = at_zero e

    go : Attained (if_reached capacity kept) (flat kept) → capacity ≤ total_from (top capacity kept) kept
    go (inl z) = at_zero (sym (top_flat capacity kept) ∙ z)
    go (inr n) = at_price (leb capacity (total_from n.0 kept)) n.0 refl (sym (top_flat capacity kept) ∙ n.2)

pub price_enough : (capacity : ℕ) (kept : List (List Bid)) → total_mw kept ≤ capacity → price_of capacity kept ≡ 0
price_enough capacity kept le = grind (arith, nat_tests)

pub price_top : (capacity : ℕ) (kept : List (List Bid)) → capacity < total_mw kept → price_of capacity kept ≡ top capacity kept
price_top capacity kept over = grind (arith, nat_tests)

pub price_clears : (capacity : ℕ) (kept : List (List Bid)) → Clears capacity kept (price_of capacity kept)
price_clears capacity kept = record {
  enough = price_enough capacity kept;
  reached = λ over. rw (price_top capacity kept over) (reached_at_top capacity kept over);
  highest = λ q some over lt.
      let e = price_top capacity kept over in
      elim (above_top capacity kept q (omega arith)) [ inl z ↦ omega arith | inr below ↦ below ];
}

-- the bids above the price fit the capacity
pub above_price : (capacity : ℕ) (kept : List (List Bid)) → sum_of (mw_above (price_of capacity kept)) kept ≤ capacity
above_price capacity kept = elim (cases_lt capacity (total_mw kept)) [
  | inl over ↦ (let e = price_top capacity kept over in elim (above_top capacity kept (suc (price_of capacity kept)) (omega arith)) [ inl z ↦ omega arith | inr below ↦ omega arith ])
  | inr le ↦ omega (arith, sum_mono (mw_above (price_of capacity kept)) mw_all kept (from_all (suc (price_of capacity kept))))
]

-- the largest price of all sheets that reaches the capacity is the price of the auction
pub price_found : (capacity : ℕ) (sheets : List Sheet) (found : Option ℕ) → capacity < total_from 0 (kept_lists sheets) →
    option_map (λ q. q) found ≡ reduce max (filter (λ q. leb capacity (total_from q (kept_lists sheets))) (map (λ (b : Bid). b.price) (flat_map kept_of sheets))) → unwrap_or found 0 ≡ price_of capacity (kept_lists sheets)
price_found capacity sheets found over e =
    largest_or_0 found _ e
    ∙ (most_passing (λ q. leb capacity (total_from q (kept_lists sheets))) (λ q. q) (map (λ (b : Bid). b.price) (flat_map kept_of sheets))
    ∙ (most_map (if_reached capacity (kept_lists sheets)) (λ (b : Bid). b.price) (flat_map kept_of sheets)
    ∙ (most_flat (reaching_price capacity (kept_lists sheets)) kept_of sheets
    ∙ (sym (most_map (λ bs. most_of (reaching_price capacity (kept_lists sheets)) bs) kept_of sheets)
    ∙ sym (price_top capacity (kept_lists sheets) (omega (arith, total_zero (kept_lists sheets))))))))

-- the price is at most the highest of a lawful bid
pub price_lawful : (capacity : ℕ) (kept : List (List Bid)) → ((i : ℕ) → i < length kept → AllByRecursion Lawful (get_or kept i [])) → price_of capacity kept ≤ 1000000
price_lawful capacity kept ok =
    let t : top capacity kept ≤ 1000000 = most_under (λ bs. most_of (reaching_price capacity kept) bs) 1000000 kept [] (λ i lt. most_all Lawful (reaching_price capacity kept) 1000000 (get_or kept i []) (λ b h. grind (arith, nat_tests)) (ok i lt)) in
    grind (arith, nat_tests)
