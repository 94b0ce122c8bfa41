-- Sums, and the numbers of single records, where a record or each record is changed. Only inequalities, which ask for
-- no lengths: past the end nothing changes.
use Rattle.std.proofs.Common.{◌≡◌, ℕ, zero, suc, ◌+◌, ◌≤◌, List, [], ◌∷◌, get_or, set, arith}
use Rattle.roll.specs.Rows.{each_with}
use Rattle.roll.specs.Sums.{sum_of}

module _ {X : Type 0} (f : X → ℕ) (d : X) where
  -- one record replaced
  pub sum_set : f d ≡ 0 → (xs : List X) (i : ℕ) (y : X) → sum_of f (set xs i y) + f (get_or xs i d) ≤ sum_of f xs + f y
  sum_set z [] i y = omega arith
  sum_set z (x ∷ xs) zero y = omega arith
  sum_set z (x ∷ xs) (suc i) y = omega (arith, sum_set z xs i y)

  -- one record replaced by one that counts at most c more, or at least c less
  pub set_up : (xs : List X) (i : ℕ) (y : X) (j c : ℕ) → f y ≤ f (get_or xs i d) + c → f (get_or (set xs i y) j d) ≤ f (get_or xs j d) + c
  set_up [] i y j c h = omega arith
  set_up (x ∷ xs) zero y zero c h = h
  set_up (x ∷ xs) zero y (suc j) c h = omega arith
  set_up (x ∷ xs) (suc i) y zero c h = omega arith
  set_up (x ∷ xs) (suc i) y (suc j) c h = set_up xs i y j c h

  pub set_down : f d ≡ 0 → (xs : List X) (i : ℕ) (y : X) (c : ℕ) → f y + c ≤ f (get_or xs i d) → f (get_or (set xs i y) i d) + c ≤ f (get_or xs i d)
  set_down z [] i y c h = omega arith
  set_down z (x ∷ xs) zero y c h = h
  set_down z (x ∷ xs) (suc i) y c h = set_down z xs i y c h

  pub sum_up : f d ≡ 0 → (xs : List X) (i : ℕ) (y : X) (c : ℕ) → f y ≤ f (get_or xs i d) + c → sum_of f (set xs i y) ≤ sum_of f xs + c
  sum_up z xs i y c h = omega (arith, sum_set z xs i y)

  pub sum_down : f d ≡ 0 → (xs : List X) (i : ℕ) (y : X) (c : ℕ) → f y + c ≤ f (get_or xs i d) → sum_of f (set xs i y) + c ≤ sum_of f xs
  sum_down z xs i y c h = omega (arith, sum_set z xs i y)

  pub at_in_sum : f d ≡ 0 → (xs : List X) (i : ℕ) → f (get_or xs i d) ≤ sum_of f xs
  at_in_sum z [] i = omega arith
  at_in_sum z (x ∷ xs) zero = omega arith
  at_in_sum z (x ∷ xs) (suc i) = omega (arith, at_in_sum z xs i)

-- each record changed by the value at its place, which adds at most a number of its own
module _ {V X : Type 0} (f : X → ℕ) (g : V → X → X) (w : V → ℕ) (rises : (v : V) (x : X) → f (g v x) ≤ f x + w v) where
  pub sum_each : (vs : List V) (xs : List X) → sum_of f (each_with g vs xs) ≤ sum_of f xs + sum_of w vs
  sum_each [] xs = omega arith
  sum_each (v ∷ vs) [] = omega arith
  sum_each (v ∷ vs) (x ∷ xs) = omega (arith, rises v x, sum_each vs xs)

  pub each_up : (e : V) (d : X) (vs : List V) (xs : List X) (j : ℕ) → f (get_or (each_with g vs xs) j d) ≤ f (get_or xs j d) + w (get_or vs j e)
  each_up e d [] xs j = omega arith
  each_up e d (v ∷ vs) [] j = omega arith
  each_up e d (v ∷ vs) (x ∷ xs) zero = rises v x
  each_up e d (v ∷ vs) (x ∷ xs) (suc j) = each_up e d vs xs j
