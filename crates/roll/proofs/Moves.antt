-- What the moves of a roll do to its row of places: over any records.
use Rattle.std.proofs.Common.{◌≡◌, ℕ, ◌+◌, ◌-◌, ◌<◌, ◌≤◌, Bool, List, [], ◌∷◌, ◌++◌, length, take, drop, set, sym, refl, ap, ◌∙◌, arith, length-append, length-drop}
use borrow.Rule.Slice.PartMut.{put_mid}
use Rattle.std.proofs.lemmas.List.{append_assoc, append-nil, drop_all, drop-append-le, drop_at, drop-drop, drop-set-lt, drop-take, length_push, length-take, take_at, take_more_set, take_rest, take-set-le, take-take}
use Rattle.std.proofs.lemmas.Slice.{between_is, drop-append-drop}
use Rattle.std.specs.List.{copy_within}
use Rattle.roll.specs.Rolls.{behind, inserted, laid}
use Rattle.roll.proofs.Behind.{behind_within}

-- what stands in the front of a row that a list is laid over
pub laid_front : {X : Type 0} (xs p q : List X) (n : ℕ) → length xs ≡ n → q ≡ laid xs p → take n q ≡ xs
laid_front xs p q n l e = ap (take n) e ∙ take_at xs (drop (length xs) p) n l

pub laid_room : {X : Type 0} (xs p q : List X) → q ≡ laid xs p → length xs ≤ length q
laid_room xs p q e = omega (arith, ap length e, length-append xs (drop (length xs) p))

-- after the first are taken out, the front is the rest
pub rest_front : {X : Type 0} (p q : List X) (n gone : ℕ) → n ≤ length p → q ≡ laid (drop gone (take n p)) p → take (n - gone) q ≡ drop gone (take n p)
rest_front p q n gone l e = laid_front (drop gone (take n p)) p q (n - gone) (omega (arith, length-drop gone (take n p), length-take n p)) e

-- the records behind the first `gone` of n, copied to the front
pub close_front : {X : Type 0} (p : List X) (gone n : ℕ) → gone ≤ n → n ≤ length p → copy_within p gone n 0 ≡ laid (drop gone (take n p)) p
close_front p gone n low high =
    let m = n - gone in
    let k : gone + m ≡ n = omega arith in
    let moved : take m (drop gone p) ≡ drop gone (take n p) = sym (drop-take gone m p) ∙ ap (λ z. drop gone (take z p)) k in
    let size : 0 + m ≡ length (drop gone (take n p)) = omega (arith, length-drop gone (take n p), length-take n p) in
    ap (λ z. z ++ drop (0 + m) p) moved ∙ ap (λ z. drop gone (take n p) ++ drop z p) size

module _ {X : Type 0} (first : X → X → Bool) (x : X) where
  pub length_inserted : (ys : List X) → length (inserted first x ys) ≡ length ys + 1
  length_inserted ys =
      let k = behind (λ y. first y x) ys in
      omega (arith, behind_within (λ y. first y x) ys, length-append (take k ys) (x ∷ drop k ys), length-take k ys, length-drop k ys)

  -- after an insertion, the front is the list with the record put in
  pub put_front : (p q : List X) (n : ℕ) → n < length p → q ≡ laid (inserted first x (take n p)) p → take (n + 1) q ≡ inserted first x (take n p)
  put_front p q n l e = laid_front (inserted first x (take n p)) p q (n + 1) (omega (arith, length_inserted (take n p), length-take n p)) e

-- a record set at the place n, then turned back to the place `at`
module _ {X : Type 0} (p : List X) (n at : ℕ) (x : X) (low : at ≤ n) (free : n < length p) where
  part_is : take (n + 1 - at) (drop at (set p n x)) ≡ drop at (take n p) ++ x ∷ []
  part_is =
      let k : at ≤ length (take n p) = omega (arith, length-take n p) in
      between_is (set p n x) at (n + 1) ∙ ap (drop at) (take_more_set p n x free) ∙ drop-append-le at (take n p) (x ∷ []) k

  turned : (part : List X) → part ≡ drop at (take n p) ++ x ∷ [] → drop (length part - 1) part ++ take (length part - 1) part ≡ x ∷ drop at (take n p)
  turned part e =
      let zs = drop at (take n p) in
      let m : length zs ≡ length part - 1 = let a = ap length e in let b = length_push zs x in omega arith in
      ap (λ q. drop (length part - 1) q ++ take (length part - 1) q) e ∙ ap (λ q. q ++ take (length part - 1) (zs ++ x ∷ [])) (drop_at zs (x ∷ []) _ m) ∙ ap (λ q. x ∷ q) (take_at zs (x ∷ []) _ m)

  put_in : (ys : List X) → let part = take (n + 1 - at) (drop at (set p n x)) in ys ≡ drop (length part - 1) part ++ take (length part - 1) part → put_mid at (n + 1 - at) (set p n x) ys ≡ take at p ++ x ∷ drop at (take n p) ++ drop (n + 1) p
  put_in ys e =
      let y : ys ≡ x ∷ drop at (take n p) = e ∙ turned _ part_is in
      let m : at + (n + 1 - at) ≡ n + 1 = omega arith in
      let l : n < n + 1 = omega arith in
      let d : drop (n + 1 - at) (drop at (set p n x)) ≡ drop (n + 1) p = drop-drop (n + 1 - at) at (set p n x) ∙ ap (λ k. drop k (set p n x)) m ∙ drop-set-lt (n + 1) p n x l in
      ap (λ q. q ++ (ys ++ drop (n + 1 - at) (drop at (set p n x)))) (take-set-le at p n x low) ∙ ap (λ q. take at p ++ (q ++ drop (n + 1 - at) (drop at (set p n x)))) y ∙ ap (λ q. take at p ++ (x ∷ drop at (take n p) ++ q)) d ∙ sym (append_assoc (take at p) (x ∷ drop at (take n p)) (drop (n + 1) p))

  -- the whole row after a record is put in
  pub put_ordered : (first : X → X → Bool) (ys : List X) → at ≡ behind (λ y. first y x) (take n p) → let part = take (n + 1 - at) (drop at (set p n x)) in ys ≡ drop (length part - 1) part ++ take (length part - 1) part → put_mid at (n + 1 - at) (set p n x) ys ≡ laid (inserted first x (take n p)) p
  put_ordered first ys f e =
      let xs = take n p in
      let i : inserted first x xs ≡ take at p ++ x ∷ drop at xs = ap (λ k. take k xs ++ x ∷ drop k xs) (sym f) ∙ ap (λ q. q ++ x ∷ drop at xs) (take-take at n p low) in
      let l : length (inserted first x xs) ≡ n + 1 = omega (arith, length_inserted first x xs, length-take n p) in
      put_in ys e ∙ ap (λ q. q ++ drop (n + 1) p) (sym i) ∙ ap (λ k. inserted first x xs ++ drop k p) (sym l)

-- a list laid over another that is no longer
pub laid_again : {X : Type 0} (xs ys p : List X) → length xs ≤ length ys → laid ys (laid xs p) ≡ laid ys p
laid_again xs ys p l = ap (λ zs. ys ++ zs) (drop-append-drop (length xs) p xs (length ys) l refl)

-- a list laid behind the first g of n places
pub laid_behind : {X : Type 0} (p zs : List X) (g n : ℕ) → g ≤ n → n ≤ length p → take g p ++ laid zs (drop g p) ≡ laid (take g (take n p) ++ zs) p
laid_behind p zs g n low l =
    let e : take g (take n p) ≡ take g p = take-take g n p low in
    let m : length (take g (take n p) ++ zs) ≡ g + length zs = omega (arith, length-append (take g (take n p)) zs, length-take g (take n p), length-take n p) in
    ap (λ q. take g p ++ (zs ++ q)) (drop-drop (length zs) g p) ∙ sym (append_assoc (take g p) zs (drop (g + length zs) p)) ∙ ap (λ q. (q ++ zs) ++ drop (g + length zs) p) (sym e) ∙ ap (λ k. (take g (take n p) ++ zs) ++ drop k p) (sym m)

-- a list laid over what was lent from the place g on
pub put_behind : {X : Type 0} (p ys zs : List X) (g n : ℕ) → g ≤ n → n ≤ length p → ys ≡ laid zs (take (length p - g) (drop g p)) → put_mid g (length p - g) p ys ≡ laid (take g (take n p) ++ zs) p
put_behind p ys zs g n low l e =
    let m : length p ≤ g + (length p - g) = omega arith in
    let rest : drop (length p - g) (drop g p) ≡ [] = drop-drop (length p - g) g p ∙ drop_all (g + (length p - g)) p m in
    ap (λ q. take g p ++ (ys ++ q)) rest ∙ ap (λ q. take g p ++ q) (append-nil ys ∙ e ∙ ap (λ q. laid zs q) (take_rest p g)) ∙ laid_behind p zs g n low l
