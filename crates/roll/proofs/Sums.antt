-- Sums over a list: steps of a loop, parts, bounds.
use Rattle.std.proofs.Common.{◌≡◌, ℕ, zero, suc, ◌+◌, ◌*◌, ◌<◌, ◌≤◌, List, [], ◌∷◌, ◌++◌, map, length, get_or, take, set, replicate, refl, le_of_suc-le-suc, mul-suc, add-one, arith}
use Rattle.roll.specs.Sums.{sum_of}

sum_suc : {X : Type 0} (f : X → ℕ) (xs : List X) (i : ℕ) (d : X) → i < length xs → sum_of f (take (suc i) xs) ≡ sum_of f (take i xs) + f (get_or xs i d)
sum_suc f [] i d h = absurd (omega arith)
sum_suc f (x ∷ xs) zero d h = omega arith
sum_suc f (x ∷ xs) (suc i) d h = omega (arith, sum_suc f xs i d (le_of_suc-le-suc h))

-- the step of a loop that adds up
pub sum_more : {X : Type 0} (f : X → ℕ) (xs : List X) (i : ℕ) (d : X) → i < length xs → sum_of f (take (i + 1) xs) ≡ sum_of f (take i xs) + f (get_or xs i d)
sum_more f xs i d h = rw add-one (sum_suc f xs i d h)

pub sum_map : {X Y : Type 0} (f : Y → ℕ) (g : X → Y) (xs : List X) → sum_of f (map g xs) ≡ sum_of (λ x. f (g x)) xs
sum_map f g [] = refl
sum_map f g (x ∷ xs) = omega (arith, sum_map f g xs)

pub sum_append : {X : Type 0} (f : X → ℕ) (xs ys : List X) → sum_of f (xs ++ ys) ≡ sum_of f xs + sum_of f ys
sum_append f [] ys = omega arith
sum_append f (x ∷ xs) ys = omega (arith, sum_append f xs ys)

pub sum_plus : {X : Type 0} (f g : X → ℕ) (xs : List X) → sum_of (λ x. f x + g x) xs ≡ sum_of f xs + sum_of g xs
sum_plus f g [] = refl
sum_plus f g (x ∷ xs) = omega (arith, sum_plus f g xs)

pub sum_mono : {X : Type 0} (f g : X → ℕ) (xs : List X) → ((x : X) → f x ≤ g x) → sum_of f xs ≤ sum_of g xs
sum_mono f g [] h = omega arith
sum_mono f g (x ∷ xs) h = omega (arith, h x, sum_mono f g xs h)

pub sum_take : {X : Type 0} (f : X → ℕ) (n : ℕ) (xs : List X) → sum_of f (take n xs) ≤ sum_of f xs
sum_take f zero xs = omega arith
sum_take f (suc n) [] = omega arith
sum_take f (suc n) (x ∷ xs) = omega (arith, sum_take f n xs)

-- one record's number is at most the sum
pub one_in_sum : {X : Type 0} (f : X → ℕ) (xs : List X) (i : ℕ) (d : X) → i < length xs → f (get_or xs i d) ≤ sum_of f xs
one_in_sum f [] i d h = absurd (omega arith)
one_in_sum f (x ∷ xs) zero d h = omega arith
one_in_sum f (x ∷ xs) (suc i) d h = omega (arith, one_in_sum f xs i d (le_of_suc-le-suc h))

-- among records that count for nothing, one record counts alone
pub sum_none : {X : Type 0} (f : X → ℕ) (o : X) → f o ≡ 0 → (n : ℕ) → sum_of f (replicate n o) ≡ 0
sum_none f o z zero = refl
sum_none f o z (suc n) = omega (arith, z, sum_none f o z n)

pub sum_alone : {X : Type 0} (f : X → ℕ) (o : X) → f o ≡ 0 → (n k : ℕ) (x : X) → k < n → sum_of f (set (replicate n o) k x) ≡ f x
sum_alone f o z zero k x h = absurd (omega arith)
sum_alone f o z (suc n) zero x h = omega (arith, sum_none f o z n)
sum_alone f o z (suc n) (suc k) x h = omega (arith, z, sum_alone f o z n k x (le_of_suc-le-suc h))

-- a record put in the place of another: the sum grows by at most what the number grows there
pub sum_set_le : {X : Type 0} (f : X → ℕ) (xs : List X) (i : ℕ) (y d : X) (b : ℕ) → f y ≤ f (get_or xs i d) + b → sum_of f (set xs i y) ≤ sum_of f xs + b
sum_set_le f [] i y d b h = omega arith
sum_set_le f (x ∷ xs) zero y d b h = omega arith
sum_set_le f (x ∷ xs) (suc i) y d b h = omega (arith, sum_set_le f xs i y d b h)

pub sum_set_ge : {X : Type 0} (f : X → ℕ) (xs : List X) (i : ℕ) (y d : X) (b : ℕ) → i < length xs → f (get_or xs i d) + b ≤ f y → sum_of f xs + b ≤ sum_of f (set xs i y)
sum_set_ge f [] i y d b h le = absurd (omega arith)
sum_set_ge f (x ∷ xs) zero y d b h le = omega arith
sum_set_ge f (x ∷ xs) (suc i) y d b h le = omega (arith, sum_set_ge f xs i y d b (le_of_suc-le-suc h) le)

-- one record more, and the sum so far is still at most the whole
pub sum_step : {X : Type 0} (f : X → ℕ) (xs : List X) (i sum : ℕ) (d : X) → i < length xs → sum ≡ sum_of f (take i xs) → (sum + f (get_or xs i d) ≡ sum_of f (take (i + 1) xs)) × (sum + f (get_or xs i d) ≤ sum_of f xs)
sum_step f xs i sum d h e = let m = sum_more f xs i d h in let t = sum_take f (i + 1) xs in (omega arith, omega arith)

-- a sum is at most the number of records times the most of one
pub sum_each : {X : Type 0} (f : X → ℕ) (m : ℕ) (xs : List X) → ((x : X) → f x ≤ m) → sum_of f xs ≤ m * length xs
sum_each f m [] h = omega arith
sum_each f m (x ∷ xs) h = omega (arith, h x, sum_each f m xs h, mul-suc m (length xs))

-- the same where the bound holds at each place
pub sum_under : {X : Type 0} (f : X → ℕ) (m : ℕ) (xs : List X) (d : X) → ((k : ℕ) → k < length xs → f (get_or xs k d) ≤ m) → sum_of f xs ≤ m * length xs
sum_under f m [] d h = omega arith
sum_under f m (x ∷ xs) d h = omega (arith, h 0 (omega arith), sum_under f m xs d (λ k lt. h (suc k) (omega arith)), mul-suc m (length xs))
