-- What a folder lends to its rolls: the guarantees that it holds, and those of them that are valid.
use Rattle.std.proofs.Common.{◌≡◌, ℕ, ◌+◌, ◌-◌, ◌<◌, ◌≤◌, min, Bool, true, cond, ltb, List, length, take, drop, sym, ap, ◌∙◌, inl, inr, arith, length-append, length-drop, length-take}
use native.Mathlib.Nat.{sub-zero}
use Rattle.std.proofs.lemmas.List.{take_all}
use Rattle.std.proofs.lemmas.Slice.{between_is}
use Rattle.std.proofs.lemmas.Bool.{cases_lt, lt-ltb}
use Rattle.roll.specs.Rolls.{behind, inserted, laid}
use Rattle.roll.proofs.Moves.{laid_again, length_inserted}
use Rattle.collateral.specs.Guarantees.{earlier, has_free, held_in, past_on, stored, used, used_from, valid, with_held}
use Rattle.collateral.specs.declared.folder.Folder.{Folder}
use Rattle.collateral.specs.declared.folder.Guarantee.{Guarantee}

-- a folder is its places and its count
pub folder_is : (p q : List Guarantee) (k m : ℕ) → p ≡ q → k ≡ m → ◌≡◌ {A = Folder} (record { places = p; count = k }) (record { places = q; count = m })
folder_is p q k m a b = cc

module _ (f : Folder) (n : ℕ) (size : length f.places ≡ 4) (held : n ≡ min f.count 4) where
  pub held_is : take n f.places ≡ held_in f
  held_is = elim (cases_lt f.count 4) [
    | inl l ↦ let e : n ≡ f.count = omega arith in ap (λ k. take k f.places) e
    | inr l ↦
        let a : length f.places ≤ n = omega arith in
        let b : length f.places ≤ f.count = omega arith in
        take_all n f.places a ∙ sym (take_all f.count f.places b)
  ]

  module _ (day gone : ℕ) (at : gone ≡ behind (past_on day) (take (n - 0) f.places)) where
    pub gone_is : gone ≡ behind (past_on day) (held_in f)
    gone_is = (rw sub-zero at at) ∙ ap (behind (past_on day)) held_is

    pub rest_is : drop gone (take n f.places) ≡ valid day (held_in f)
    rest_is = ap (drop gone) held_is ∙ ap (λ k. drop k (held_in f)) gone_is

    pub lent_is : take (n - gone) (drop gone f.places) ≡ valid day (held_in f)
    lent_is = between_is f.places gone n ∙ rest_is

    pub used_is : (sum : ℕ) → used_from gone sum (take n f.places) ≡ used day sum (held_in f)
    used_is sum = ap (used_from gone sum) held_is ∙ ap (λ k. used_from k sum (held_in f)) gone_is

    pub rest_length : length (valid day (held_in f)) ≡ n - gone
    rest_length = omega (arith, ap length (sym rest_is), length-drop gone (take n f.places), length-take n f.places)

    -- the past ones are taken out of the roll, then g is put in
    module _ (g : Guarantee) (free : n - gone < 4) (row row' : List Guarantee) (k k' : ℕ) (r : Bool) (cleared : row ≡ laid (drop gone (take n f.places)) f.places) (left : k ≡ n - gone) (front : take k row ≡ drop gone (take n f.places)) where
      pub put_value : r ≡ ltb k (length row) → r ≡ has_free day f
      put_value e =
          let V = valid day (held_in f) in
          let a : length row ≡ 4 = omega (arith, ap length (cleared ∙ ap (λ z. laid z f.places) rest_is), length-append V (drop (length V) f.places), length-drop (length V) f.places, rest_length) in
          let b : k < length row = omega arith in
          let d : length V < 4 = omega (arith, rest_length) in
          e ∙ lt-ltb k (length row) b ∙ sym (lt-ltb (length V) 4 d)

      pub put_after : r ≡ true → row' ≡ cond r (laid (inserted earlier g (take k row)) row) row → k' ≡ cond r (k + 1) k → ◌≡◌ {A = Folder} (record { places = row'; count = k' }) (cond r (with_held (stored day g (held_in f)) f) f)
      put_after t a b =
          let V = valid day (held_in f) in
          let all = inserted earlier g V in
          let list : take k row ≡ V = front ∙ rest_is in
          let size : length all ≡ length V + 1 = length_inserted earlier g V in
          let less : length V ≤ length all = omega arith in
          let places : row' ≡ laid all f.places = a ∙ ap (λ z. cond z (laid (inserted earlier g (take k row)) row) row) t ∙ ap (λ z. laid (inserted earlier g z) row) list ∙ ap (λ z. laid all z) (cleared ∙ ap (λ z. laid z f.places) rest_is) ∙ laid_again V all f.places less in
          let count : k' ≡ length all = b ∙ ap (λ z. cond z (k + 1) k) t ∙ omega (arith, rest_length) in
          folder_is row' (laid all f.places) k' (length all) places count ∙ sym (ap (λ z. cond z (with_held (stored day g (held_in f)) f) f) t)
