-- Nothing and all: what counts for nothing, what all participants have waiting, and how many hours there are.
use Rattle.std.proofs.Common.{◌≡◌, ℕ, zero, suc, ◌+◌, ◌≤◌, List, [], ◌∷◌, length, get_or, replicate, refl, arith}
use Rattle.roll.specs.Rows.{each_with}
use Rattle.roll.specs.Sums.{sum_of}
use Rattle.roll.proofs.Changes.{sum_each}
use Rattle.rights.specs.Holdings.{mw_of, nothing, row_at}
use Rattle.rights.specs.Returns.{waits_of}
use Rattle.rights.specs.Spans.{over}
use Rattle.rights.specs.Totals.{mw_at}

-- of no auction anything is held
pub nothing_at : (a : ℕ) → mw_of (row_at a nothing) ≡ 0
nothing_at a = none 8 a
  where
    none : (n b : ℕ) → mw_of (get_or (replicate n (replicate 12 0)) b []) ≡ 0
    none zero b = refl
    none (suc n) zero = refl
    none (suc n) (suc b) = none n b

pub nothing_in : (n h a : ℕ) → mw_at a h (replicate n nothing) ≡ 0
nothing_in zero h a = refl
nothing_in (suc n) zero a = nothing_at a
nothing_in (suc n) (suc h) a = nothing_in n h a

-- what all participants have waiting is all that waits
pub waits_sum : (rows : List (List ℕ)) (sums : List ℕ) → mw_of (waits_of rows sums) ≤ mw_of sums + sum_of mw_of rows
waits_sum [] sums = omega arith
waits_sum (row ∷ rows) sums =
    omega (arith, waits_sum rows (each_with (λ mw sum. sum + mw) row sums), sum_each (λ mw. mw) (λ mw sum. sum + mw) (λ mw. mw) (λ mw sum. omega arith) row sums)

-- a change in a span leaves as many records
pub over_length : {X : Type 0} (g : X → X) (k n : ℕ) (xs : List X) → length (over k n g xs) ≡ length xs
over_length g zero zero xs = refl
over_length g zero (suc n) [] = refl
over_length g zero (suc n) (x ∷ xs) = omega (arith, over_length g zero n xs)
over_length g (suc k) zero [] = refl
over_length g (suc k) (suc n) [] = refl
over_length g (suc k) n (x ∷ xs) = omega (arith, over_length g k n xs)
