-- The kept front: within the limit, the longest such, and no bid is left out without need.
use Rattle.std.proofs.Common.{◌≡◌, ℕ, zero, suc, ◌+◌, ◌<◌, ◌≤◌, Bool, true, false, not, cond, leb, ltb, Option, Some, None, get_or, subst, add-one, ◌∙◌, ◌⊎◌, List, [], ◌∷◌, ◌++◌, length, take, drop, ap, inl, inr, le_trans, arith, take-append-drop, take-take}
use Rattle.std.specs.List.{position_or_len, range_with_len}
use Rattle.std.specs.Option.{unwrap_or}
use Rattle.std.proofs.lemmas.List.FromFn.{length-range_with_len, get_or-range_with_len}
use Rattle.std.proofs.lemmas.List.Sums.{prefix_len-le-length, fails_before_first, passes_at_first}
use Rattle.std.proofs.lemmas.Bool.Decides.{nat_tests}
use Rattle.std.proofs.lemmas.Bool.{cases_order, leb-true, leb-false}
use Rattle.roll.proofs.Sums.{sum_append}
use Rattle.roll.proofs.Maxima.{most_le, largest_le, largest_passes, beyond_fails}
use Rattle.auction.specs.declared.bids.Bid.{Bid}
use Rattle.auction.specs.declared.products.Product.{Product}
use Rattle.auction.specs.Charge.{mw_from, charge_at, worst_charge}
use Rattle.auction.specs.Seal.{kept_count, kept_front, LongestFront}
use Rattle.auction.specs.Rivals.{RightlyLeftOut}
use Rattle.auction.proofs.Volumes.{cost_grows}
use Rattle.auction.proofs.Worst.{charge_worst}
use Rattle.auction.proofs.Rivals.{worst_exact}

-- the worst charge of a front part is at most that of the whole
grows : (d : Product) (xs ys : List Bid) → worst_charge d xs ≤ worst_charge d (xs ++ ys)
grows d xs ys = most_le (λ b. charge_at d xs b.price) (worst_charge d (xs ++ ys)) xs
    (λ b. le_trans
    (cost_grows d b.price b.price (mw_from b.price xs) (mw_from b.price (xs ++ ys)) (omega arith) (omega (arith, sum_append (λ (c : Bid). cond (leb b.price c.price) c.mw 0) xs ys)))
    (charge_worst d b.price (xs ++ ys)))

pub worst_grows : (d : Product) (n : ℕ) (bs : List Bid) → worst_charge d (take n bs) ≤ worst_charge d bs
worst_grows d n bs = rw (take-append-drop n bs) at (grows d (take n bs) (drop n bs))

abbrev keeps : ℕ → Product → List Bid → ℕ → Bool
keeps limit d bs n = leb (worst_charge d (take n bs)) limit

pub kept_within : (limit : ℕ) (d : Product) (bs : List Bid) → kept_count limit d bs ≤ length bs
kept_within limit d bs = largest_le (keeps limit d bs) (length bs)

pub longest_front : (limit : ℕ) (d : Product) (bs : List Bid) → LongestFront limit d bs (kept_count limit d bs)
longest_front limit d bs = record {
  fits = leb-true _ _ (largest_passes (keeps limit d bs) (length bs) (grind (arith, nat_tests)));
  longer = λ m lt le. leb-false _ _ (beyond_fails (keeps limit d bs) (length bs) m lt le);
}

-- a count found from the front: the first n bids keep within the limit, and one more passes it
pub count_is : (limit : ℕ) (d : Product) (bs : List Bid) (n : ℕ) → n ≤ length bs → worst_charge d (take n bs) ≤ limit → (n < length bs → limit < worst_charge d (take (n + 1) bs)) → n ≡ kept_count limit d bs
count_is limit d bs n le fits passes = go (cases_order n (kept_count limit d bs))
  where
    go : (n ≡ kept_count limit d bs) ⊎ ((n < kept_count limit d bs) ⊎ (kept_count limit d bs < n)) → n ≡ kept_count limit d bs
    go (inl e) = e
    go (inr (inr lt)) = absurd (omega (arith, (longest_front limit d bs).longer n lt le))
    go (inr (inl lt)) =
        let k = kept_within limit d bs in
        let g = rw (take-take (n + 1) (kept_count limit d bs) bs (omega arith)) at (worst_grows d (n + 1) (take (kept_count limit d bs) bs)) in
        absurd (omega (arith, (longest_front limit d bs).fits))

-- a count found from the front: the bids before the first whose front passes the limit
module _ (limit : ℕ) (d : Product) (bs : List Bid) where
  abbrev passes : ℕ → Bool
  passes n = ltb limit (worst_charge d (take (n + 1) bs))

  abbrev first_out : ℕ
  first_out = position_or_len passes (range_with_len 0 (length bs))

  within_before : (n : ℕ) → n ≤ first_out → n ≤ length bs → worst_charge d (take n bs) ≤ limit
  within_before zero e h = omega arith
  within_before (suc k) e h =
      let fails = fails_before_first passes (range_with_len 0 (length bs)) k 0 (omega arith) in
      let at : get_or (range_with_len 0 (length bs)) k 0 ≡ k = omega (arith, get_or-range_with_len 0 (length bs) k 0 (omega arith)) in
      let no : passes k ≡ false = subst (λ n. passes n ≡ false) at fails in
      rw (← add-one) (grind (arith, nat_tests))

  passes_then : first_out < length bs → limit < worst_charge d (take (first_out + 1) bs)
  passes_then h =
      let holds = passes_at_first passes (range_with_len 0 (length bs)) 0 (omega (arith, length-range_with_len 0 (length bs))) in
      let at : get_or (range_with_len 0 (length bs)) first_out 0 ≡ first_out = omega (arith, get_or-range_with_len 0 (length bs) first_out 0 h) in
      let yes : passes first_out ≡ true = subst (λ n. passes n ≡ true) at holds in
      grind (arith, nat_tests)

  pub count_found : (found : Option ℕ) → found ≡ cond (ltb first_out (length (range_with_len 0 (length bs)))) (Some first_out) None → unwrap_or found (length bs) ≡ kept_count limit d bs
  count_found found e =
      let long = length-range_with_len 0 (length bs) in
      let le : first_out ≤ length bs = omega (arith, prefix_len-le-length (λ n. not (passes n)) (range_with_len 0 (length bs))) in
      let n : unwrap_or found (length bs) ≡ first_out = rw e (grind (arith, nat_tests)) in
      n ∙ count_is limit d bs first_out le (within_before first_out (omega arith) le) passes_then

-- the first bid left out is the next one of the roll
pub next_out : (n : ℕ) (bs : List Bid) (b : Bid) (others : List Bid) → drop n bs ≡ b ∷ others → (n < length bs) × (take (suc n) bs ≡ take n bs ++ b ∷ [])
next_out zero [] b others e = absurd (let z : ◌≡◌ {A = ℕ} 0 1 = cc in omega arith)
next_out zero (x ∷ xs) b others e = (omega arith, (let h : x ≡ b = cc in cc))
next_out (suc n) [] b others e = absurd (let z : ◌≡◌ {A = ℕ} 0 1 = cc in omega arith)
next_out (suc n) (x ∷ xs) b others e = let r = next_out n xs b others e in (omega arith, ap {B = List Bid} (λ l. x ∷ l) r.1)

pub rightly_left_out : (limit : ℕ) (d : Product) (bs : List Bid) → RightlyLeftOut limit d bs
rightly_left_out limit d bs b others e capacity i bidder =
    let n : ℕ = kept_count limit d bs in
    let r = next_out n bs b others e in
    let over : limit < worst_charge d (take (suc n) bs) = (longest_front limit d bs).longer (suc n) (omega arith) r.0 in
    let k = worst_exact d (kept_front limit d bs ++ b ∷ []) capacity i bidder in
    (k.0, k.1, (let more : limit < worst_charge d (kept_front limit d bs ++ b ∷ []) = rw r.1 at over in omega arith))
