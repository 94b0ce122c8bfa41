-- What chains of iterators give, in the words of the rules.
use Rattle.std.proofs.Common.{◌≡◌, ℕ, zero, suc, ◌+◌, ◌-◌, ◌<◌, ◌≤◌, List, [], ◌∷◌, length, map, max, refl, sym, ap, ◌∙◌, arith, get_or, subst, inl, inr}
use Rattle.std.specs.List.{sum_by, fold, range_with_len}
use Rattle.std.specs.Array.{IsFromFnResult, IsFromFnResultFrom, IsMapOf, MapsFrom}
use Rattle.std.specs.Fn.{Called}
use denote.Param.Members.{Mut}
use Rattle.std.proofs.lemmas.List.Recursion.{is_sum_by}
use Rattle.std.proofs.lemmas.Bool.{cases_eq}
use Rattle.std.proofs.lemmas.List.{ext_get_or, length-map}
use Rattle.std.proofs.Math.ListN.{get_or-map}
use Rattle.std.proofs.lemmas.List.FromFn.{get_or-map-range_with_len, length-range_with_len}
use Rattle.roll.specs.Sums.{sum_of, most_of}

-- `map(..).sum()`
pub sum_of_is : {X : Type 0} (f : X → ℕ) (xs : List X) → sum_of f xs ≡ sum_by f xs
sum_of_is f xs = is_sum_by (sum_of f) f refl (λ _ _. refl) xs

most_from : {X : Type 0} (f : X → ℕ) (xs : List X) (a : ℕ) → fold (λ a x. max (f x) a) a xs ≡ max a (most_of f xs)
most_from f [] a = omega arith
most_from f (x ∷ xs) a = omega (arith, most_from f xs (max (f x) a))

-- `fold` of a maximum from 0
pub most_of_is : {X : Type 0} (f : X → ℕ) (xs : List X) → most_of f xs ≡ fold (λ a x. max (f x) a) 0 xs
most_of_is f xs = omega (arith, most_from f xs 0)

-- an array's `map`, by a closure that computes h and stays as it is
module _ {F A B : Type 0} (g : Mut F (A × Unit {0}) B) (h : A → B) (f : F) (computes : (x : A) (r : B) (q : F) → Called g f (x, tt) r q → (q ≡ f) × (r ≡ h x)) (xs : List A) (ys : List B) where
  mapped_from : (n i : ℕ) (p : F) → p ≡ f → MapsFrom g p xs ys i n → (j : ℕ) (d : A) (e : B) → i ≤ j → j < i + n → get_or ys j e ≡ h (get_or xs j d)
  mapped_from zero i p same m j d e low high = absurd (omega arith)
  mapped_from (suc n) i p same (q, x, y, ex, ey, called, rest) j d e low high =
      let c : (q ≡ f) × (y ≡ h x) = computes x y q (subst (λ z. Called g z (x, tt) y q) same called) in
      elim (cases_eq j i) [
        | inl k ↦ rw k (ey.1 e ∙ (c.1 ∙ ap h (sym (ex.1 d))))
        | inr k ↦ mapped_from n (i + 1) q c.0 rest j d e (omega arith) (omega arith)
      ]

  pub mapped : (n : ℕ) (d : A) → length xs ≡ n → IsMapOf g f xs ys n → ys ≡ map h xs
  mapped n d long m =
      let size = length-map xs h in
      let long' = m.long in
      ext_get_or (h d) ys (map h xs) (omega arith) (λ i l. mapped_from n 0 f refl m.each i d (h d) (omega arith) (omega arith) ∙ sym (get_or-map h xs i d))

-- an array made by a closure that computes h of each place and stays as it is
module _ {F B : Type 0} (g : Mut F (ℕ × Unit {0}) B) (h : ℕ → B) (f : F) (computes : (i : ℕ) (r : B) (q : F) → Called g f (i, tt) r q → (q ≡ f) × (r ≡ h i)) (ys : List B) where
  made_from : (n i : ℕ) (p : F) → p ≡ f → IsFromFnResultFrom g p ys i n → (j : ℕ) (e : B) → i ≤ j → j < i + n → get_or ys j e ≡ h j
  made_from zero i p same m j e low high = absurd (omega arith)
  made_from (suc n) i p same (q, y, ey, called, rest) j e low high =
      let c : (q ≡ f) × (y ≡ h i) = computes i y q (subst (λ z. Called g z (i, tt) y q) same called) in
      elim (cases_eq j i) [
        | inl k ↦ rw k (ey.1 e ∙ c.1)
        | inr k ↦ made_from n (i + 1) q c.0 rest j e (omega arith) (omega arith)
      ]

  pub made : (n : ℕ) (e : B) → IsFromFnResult g f ys n → ys ≡ map h (range_with_len 0 n)
  made n e m =
      let size = length-map (range_with_len 0 n) h in
      let span = length-range_with_len 0 n in
      let long = m.long in
      ext_get_or e ys (map h (range_with_len 0 n)) (omega arith) (λ j l. made_from n 0 f refl m.each j e (omega arith) (omega arith) ∙ sym (get_or-map-range_with_len h 0 n j j e (omega arith) (omega arith)))

-- a list by its places
pub by_places : {X B : Type 0} (f : X → B) (xs : List X) (n : ℕ) (d : X) → length xs ≡ n → map (λ i. f (get_or xs i d)) (range_with_len 0 n) ≡ map f xs
by_places f xs n d long =
    let size = length-map (range_with_len 0 n) (λ i. f (get_or xs i d)) in
    let span = length-range_with_len 0 n in
    let all = length-map xs f in
    ext_get_or (f d) (map (λ i. f (get_or xs i d)) (range_with_len 0 n)) (map f xs) (omega arith) (λ i l. get_or-map-range_with_len (λ i. f (get_or xs i d)) 0 n i i (f d) (omega arith) (omega arith) ∙ sym (get_or-map f xs i d))

-- `fold` that takes each off, down to 0
pub less_each : {X : Type 0} (f : X → ℕ) (xs : List X) (n : ℕ) → fold (λ a x. a - f x) n xs ≡ n - sum_of f xs
less_each f [] n = omega arith
less_each f (x ∷ xs) n = omega (arith, less_each f xs (n - f x))
