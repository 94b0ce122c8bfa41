-- Sums and maxima of a number taken from each record of a list, and the largest number that passes a test.
use Rattle.std.specs.Prelude.{ℕ, zero, suc, ◌+◌, max, Bool, cond, List, [], ◌∷◌}

-- the sum of a number of each record
abbrev pub sum_of : {X : Type 0} → (X → ℕ) → List X → ℕ
sum_of f [] = 0
sum_of f (x ∷ xs) = f x + sum_of f xs

-- the largest number of any record; 0 where there is none
abbrev pub most_of : {X : Type 0} → (X → ℕ) → List X → ℕ
most_of f [] = 0
most_of f (x ∷ xs) = max (f x) (most_of f xs)

-- the largest number up to a bound that passes a test; 0 where none does
abbrev pub largest_to : (ℕ → Bool) → ℕ → ℕ
largest_to ok zero = 0
largest_to ok (suc n) = cond (ok (suc n)) (suc n) (largest_to ok n)
