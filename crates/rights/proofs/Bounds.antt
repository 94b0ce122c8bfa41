-- Numbers of a row within bounds.
use Rattle.std.proofs.Common.{ℕ, zero, suc, ◌+◌, ◌<◌, ◌≤◌, List, [], ◌∷◌, length, get_or, set, replicate, refl, arith}
use Rattle.roll.specs.Rows.{each_with}
use Rattle.roll.proofs.Changes.{at_in_sum, each_up}
use Rattle.roll.proofs.Sums.{one_in_sum}
use Rattle.rights.specs.Bounds.{AtMost}
use Rattle.rights.specs.Holdings.{mw_of}

pub at_le_sum : (row : List ℕ) (p : ℕ) → get_or row p 0 ≤ mw_of row
at_le_sum row p = at_in_sum (λ mw. mw) 0 refl row p

-- the same whatever stands past the end
pub one_le_sum : (row : List ℕ) (p d : ℕ) → p < length row → get_or row p d ≤ mw_of row
one_le_sum row p d l = one_in_sum (λ mw. mw) row p d l

-- each number of a row grows by at most what stands at its place in another
pub added_at_most : (m n : ℕ) (more xs : List ℕ) → AtMost n more → AtMost m xs → AtMost (m + n) (each_with (λ v x. x + v) more xs)
added_at_most m n more xs k h p = omega (arith, each_up (λ x. x) (λ v x. x + v) (λ v. v) (λ v x. omega arith) 0 0 more xs p, k p, h p)

-- one number replaced by a small one
pub set_at_most : (m : ℕ) (xs : List ℕ) (i x : ℕ) → x ≤ m → AtMost m xs → AtMost m (set xs i x)
set_at_most m [] i x s h p = h p
set_at_most m (y ∷ xs) zero x s h zero = s
set_at_most m (y ∷ xs) zero x s h (suc p) = h (suc p)
set_at_most m (y ∷ xs) (suc i) x s h zero = h zero
set_at_most m (y ∷ xs) (suc i) x s h (suc p) = set_at_most m xs i x s (λ q. h (suc q)) p

pub none_at_most : (m n : ℕ) → AtMost m (replicate n 0)
none_at_most m zero p = omega arith
none_at_most m (suc n) zero = omega arith
none_at_most m (suc n) (suc p) = none_at_most m n p
