-- Changes and tests in a span, for any records: the steps of a loop over a part of a list, and what changes count for.
use Rattle.std.proofs.Common.{◌≡◌, ℕ, zero, suc, ◌+◌, ◌-◌, ◌*◌, ◌<◌, ◌≤◌, Bool, true, ◌⊎◌, List, [], ◌∷◌, ◌++◌, map, length, get_or, take, drop, set, refl, ap, ◌∙◌, inl, inr, add-mul, add-one, arith, length-take}
use Rattle.std.specs.List.{list_all}
use Rattle.std.proofs.lemmas.List.{get_or-take, get_or-drop, get_or_append_left, get_or-append_right, set-append_left, set-append_right, length-take-le, take-append-drop}
use borrow.Rule.Slice.PartMut.{put_mid}
use Rattle.std.proofs.lemmas.Bool.{and_parts}
use Rattle.roll.specs.Sums.{sum_of}
use Rattle.roll.proofs.InPlace.{place_rest}
use Rattle.rights.specs.Spans.{part, over}

-- a loop over the part of a list from place k on, which changes one record after another: the next one is as it was
pub part_rest : {X : Type 0} (f : X → X) (k n i : ℕ) (xs ys : List X) (d : X) → i < length (part k n xs) → ys ≡ map f (take i (part k n xs)) ++ drop i (part k n xs) → get_or ys i d ≡ get_or xs (k + i) d
part_rest f k n i xs ys d l e =
    let short = length-take n (drop k xs) in
    place_rest f (part k n xs) ys i d l e ∙ (get_or-take n (drop k xs) i d (omega arith) ∙ get_or-drop k xs i d)

-- a list whose n records from place k on became ys
module _ {X : Type 0} (k n : ℕ) (xs : List X) where
  pub part_same : (m : ℕ) → m ≡ n → put_mid k n xs (part k m xs) ≡ xs
  part_same m e = rw e (ap (λ zs. take k xs ++ zs) (take-append-drop n (drop k xs)) ∙ take-append-drop k xs)

  module _ (i : ℕ) (ys : List X) (low : k ≤ length xs) (within : i < length ys) where
    pub part_get : (d : X) → get_or (put_mid k n xs ys) (k + i) d ≡ get_or ys i d
    part_get d =
        let e : k + i - k ≡ i = omega arith in
        get_or-append_right (take k xs) (ys ++ drop n (drop k xs)) k (k + i) d (length-take-le k xs low) (omega arith) ∙ rw e (get_or_append_left ys (drop n (drop k xs)) d i within)

    pub part_set : (v : X) → set (put_mid k n xs ys) (k + i) v ≡ put_mid k n xs (set ys i v)
    part_set v =
        let e : k + i - k ≡ i = omega arith in
        set-append_right (take k xs) (ys ++ drop n (drop k xs)) k (k + i) v (length-take-le k xs low) (omega arith) ∙ rw (e, set-append_left ys (drop n (drop k xs)) i v within) refl

-- where all records of a span pass, each does
pub part_at : {X : Type 0} (ok : X → Bool) (k n h : ℕ) (xs : List X) (d : X) → k ≤ h → h < k + n → h < length xs → list_all ok (part k n xs) ≡ true → ok (get_or xs h d) ≡ true
part_at ok k zero h xs d lo hi l e = absurd (omega arith)
part_at ok k (suc n) h [] d lo hi l e = absurd (omega arith)
part_at ok zero (suc n) zero (x ∷ xs) d lo hi l e = (and_parts _ _ e).0
part_at ok zero (suc n) (suc h) (x ∷ xs) d lo hi l e = part_at ok zero n h xs d (omega arith) (omega arith) (omega arith) (and_parts _ _ e).1
part_at ok (suc k) (suc n) zero (x ∷ xs) d lo hi l e = absurd (omega arith)
part_at ok (suc k) (suc n) (suc h) (x ∷ xs) d lo hi l e = part_at ok k (suc n) h xs d (omega arith) (omega arith) (omega arith) e

-- numbers of records where each of a span that passes is changed: by at most c more
module _ {X : Type 0} (f : X → ℕ) (g : X → X) (ok : X → Bool) (c : ℕ) (rises : (x : X) → ok x ≡ true → f (g x) ≤ f x + c) where
  pub over_up : (k n : ℕ) (xs : List X) (d : X) (j : ℕ) → list_all ok (part k n xs) ≡ true → f (get_or (over k n g xs) j d) ≤ f (get_or xs j d) + c
  over_up zero zero xs d j h = omega arith
  over_up zero (suc n) [] d j h = omega arith
  over_up zero (suc n) (x ∷ xs) d zero h = rises x (and_parts _ _ h).0
  over_up zero (suc n) (x ∷ xs) d (suc j) h = over_up zero n xs d j (and_parts _ _ h).1
  over_up (suc k) zero [] d j h = omega arith
  over_up (suc k) (suc n) [] d j h = omega arith
  over_up (suc k) n (x ∷ xs) d zero h = omega arith
  over_up (suc k) n (x ∷ xs) d (suc j) h = over_up k n xs d j h

  pub over_sum_up : (k n : ℕ) (xs : List X) → list_all ok (part k n xs) ≡ true → sum_of f (over k n g xs) ≤ sum_of f xs + n * c
  over_sum_up zero zero xs h = omega arith
  over_sum_up zero (suc n) [] h = omega arith
  over_sum_up zero (suc n) (x ∷ xs) h =
      omega (arith, rises x (and_parts (ok x) (list_all ok (take n xs)) h).0, over_sum_up zero n xs (and_parts (ok x) (list_all ok (take n xs)) h).1, add-mul n 1 c, ap (λ m. m * c) (add-one n))
  over_sum_up (suc k) zero [] h = omega arith
  over_sum_up (suc k) (suc n) [] h = omega arith
  over_sum_up (suc k) n (x ∷ xs) h = omega (arith, over_sum_up k n xs h)

-- by at least c less
module _ {X : Type 0} (f : X → ℕ) (g : X → X) (ok : X → Bool) (c : ℕ) (falls : (x : X) → ok x ≡ true → f (g x) + c ≤ f x) where
  pub over_down : (k n : ℕ) (xs : List X) (d : X) (j : ℕ) → k ≤ j → j < k + n → j < length xs → list_all ok (part k n xs) ≡ true → f (get_or (over k n g xs) j d) + c ≤ f (get_or xs j d)
  over_down zero zero xs d j lo hi l h = absurd (omega arith)
  over_down zero (suc n) [] d j lo hi l h = absurd (omega arith)
  over_down zero (suc n) (x ∷ xs) d zero lo hi l h = falls x (and_parts _ _ h).0
  over_down zero (suc n) (x ∷ xs) d (suc j) lo hi l h = over_down zero n xs d j (omega arith) (omega arith) (omega arith) (and_parts _ _ h).1
  over_down (suc k) n [] d j lo hi l h = absurd (omega arith)
  over_down (suc k) n (x ∷ xs) d zero lo hi l h = absurd (omega arith)
  over_down (suc k) n (x ∷ xs) d (suc j) lo hi l h = over_down k n xs d j (omega arith) (omega arith) (omega arith) h

  pub over_sum_down : (k n : ℕ) (xs : List X) → k + n ≤ length xs → list_all ok (part k n xs) ≡ true → sum_of f (over k n g xs) + n * c ≤ sum_of f xs
  over_sum_down zero zero xs l h = omega arith
  over_sum_down zero (suc n) [] l h = absurd (omega arith)
  over_sum_down zero (suc n) (x ∷ xs) l h =
      omega (arith, falls x (and_parts (ok x) (list_all ok (take n xs)) h).0, over_sum_down zero n xs (omega arith) (and_parts (ok x) (list_all ok (take n xs)) h).1, add-mul n 1 c, ap (λ m. m * c) (add-one n))
  over_sum_down (suc k) n [] l h = absurd (omega arith)
  over_sum_down (suc k) n (x ∷ xs) l h = omega (arith, over_sum_down k n xs (omega arith) h)

-- where nothing is asked of them all pass
pub all_any : {X : Type 0} (xs : List X) → list_all (λ _. true) xs ≡ true
all_any [] = refl
all_any (x ∷ xs) = all_any xs

-- records outside the span stay
pub over_out : {X : Type 0} (g : X → X) (k n : ℕ) (xs : List X) (d : X) (j : ℕ) → (j < k) ⊎ (k + n ≤ j) → get_or (over k n g xs) j d ≡ get_or xs j d
over_out g zero zero xs d j o = refl
over_out g zero (suc n) [] d j o = refl
over_out g zero (suc n) (x ∷ xs) d zero o = absurd (elim o [ inl a ↦ omega arith | inr b ↦ omega arith ])
over_out g zero (suc n) (x ∷ xs) d (suc j) o = over_out g zero n xs d j (inr (elim o [ inl a ↦ omega arith | inr b ↦ omega arith ]))
over_out g (suc k) zero [] d j o = refl
over_out g (suc k) (suc n) [] d j o = refl
over_out g (suc k) n (x ∷ xs) d zero o = refl
over_out g (suc k) n (x ∷ xs) d (suc j) o = over_out g k n xs d j (elim o [ inl a ↦ inl (omega arith) | inr b ↦ inr (omega arith) ])
