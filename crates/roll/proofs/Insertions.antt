-- A record put into its place of a list: sums, and what holds of each.
use Rattle.std.proofs.Common.{◌≡◌, ℕ, ◌+◌, ◌≤◌, Bool, List, ◌∷◌, length, take, drop, arith, length-append, length-drop, take-append-drop}
use Rattle.std.specs.List.{AllByRecursion}
use Rattle.std.proofs.ByRecursion.{All-append, All-take, All-drop}
use Rattle.roll.specs.Rolls.{behind, inserted, laid}
use Rattle.roll.specs.Sums.{sum_of}
use Rattle.roll.proofs.Sums.{sum_append}

module _ {X : Type 0} (first : X → X → Bool) (x : X) where
  pub sum_inserted : (f : X → ℕ) (ys : List X) → sum_of f (inserted first x ys) ≡ f x + sum_of f ys
  sum_inserted f ys =
      let n : ℕ = behind (λ y. first y x) ys in
      let a = sum_append f (take n ys) (x ∷ drop n ys) in
      let b : sum_of f ys ≡ sum_of f (take n ys) + sum_of f (drop n ys) = rw (take-append-drop n ys) at (sum_append f (take n ys) (drop n ys)) in
      omega arith

  pub all_inserted : (P : X → Type 0) (ys : List X) → P x → AllByRecursion P ys → AllByRecursion P (inserted first x ys)
  all_inserted P ys new all =
      let n : ℕ = behind (λ y. first y x) ys in
      All-append P (take n ys) (x ∷ drop n ys) (All-take P n ys all) (new, All-drop P n ys all)

-- a list laid over the front of a row leaves as many places
pub length_laid : {X : Type 0} (xs places : List X) → length xs ≤ length places → length (laid xs places) ≡ length places
length_laid xs places h = omega (arith, length-append xs (drop (length xs) places), length-drop (length xs) places)
