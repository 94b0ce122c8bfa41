-- Maxima over a list, and the largest number that passes a test.
use Rattle.std.proofs.Common.{◌≡◌, ℕ, zero, suc, ◌+◌, ◌<◌, ◌≤◌, max, Bool, true, false, cond, ◌⊎◌, List, [], ◌∷◌, ◌++◌, map, length, get_or, take, set, replicate, refl, inl, inr, le_of_suc-le-suc, add-one, arith}
use Rattle.std.specs.List.{AllByRecursion}
use Rattle.std.proofs.lemmas.Bool.{cases_eq}
use Rattle.roll.specs.Sums.{most_of, largest_to}

most_suc : {X : Type 0} (f : X → ℕ) (xs : List X) (i : ℕ) (d : X) → i < length xs → most_of f (take (suc i) xs) ≡ max (most_of f (take i xs)) (f (get_or xs i d))
most_suc f [] i d h = absurd (omega arith)
most_suc f (x ∷ xs) zero d h = omega arith
most_suc f (x ∷ xs) (suc i) d h = omega (arith, most_suc f xs i d (le_of_suc-le-suc h))

-- the step of a loop that keeps the largest
pub most_more : {X : Type 0} (f : X → ℕ) (xs : List X) (i : ℕ) (d : X) → i < length xs → most_of f (take (i + 1) xs) ≡ max (most_of f (take i xs)) (f (get_or xs i d))
most_more f xs i d h = rw add-one (most_suc f xs i d h)

pub most_step : {X : Type 0} (f : X → ℕ) (xs : List X) (i : ℕ) (d : X) (m r n : ℕ) → i < length xs → m ≡ most_of f (take i xs) → r ≡ f (get_or xs i d) → n ≡ max m r → n ≡ most_of f (take (i + 1) xs)
most_step f xs i d m r n h p q e = let s = most_more f xs i d h in omega arith

pub most_map : {X Y : Type 0} (f : Y → ℕ) (g : X → Y) (xs : List X) → most_of f (map g xs) ≡ most_of (λ x. f (g x)) xs
most_map f g [] = refl
most_map f g (x ∷ xs) = omega (arith, most_map f g xs)

pub most_append : {X : Type 0} (f : X → ℕ) (xs ys : List X) → most_of f (xs ++ ys) ≡ max (most_of f xs) (most_of f ys)
most_append f [] ys = omega arith
most_append f (x ∷ xs) ys = omega (arith, most_append f xs ys)

pub most_le : {X : Type 0} (f : X → ℕ) (m : ℕ) (xs : List X) → ((x : X) → f x ≤ m) → most_of f xs ≤ m
most_le f m [] h = omega arith
most_le f m (x ∷ xs) h = let ih = most_le f m xs h in omega (arith, h x)

-- among records that count for nothing, one record counts alone
pub most_none : {X : Type 0} (f : X → ℕ) (o : X) → f o ≡ 0 → (n : ℕ) → most_of f (replicate n o) ≡ 0
most_none f o z zero = refl
most_none f o z (suc n) = omega (arith, z, most_none f o z n)

pub most_alone : {X : Type 0} (f : X → ℕ) (o : X) → f o ≡ 0 → (n k : ℕ) (x : X) → k < n → most_of f (set (replicate n o) k x) ≡ f x
most_alone f o z zero k x h = absurd (omega arith)
most_alone f o z (suc n) zero x h = omega (arith, most_none f o z n)
most_alone f o z (suc n) (suc k) x h = omega (arith, z, most_alone f o z n k x (le_of_suc-le-suc h))

-- the largest number that passes is within the bound
pub largest_le : (ok : ℕ → Bool) (n : ℕ) → largest_to ok n ≤ n
largest_le ok zero = omega arith
largest_le ok (suc n) = go (ok (suc n)) (largest_le ok n)
  where
    go : (b : Bool) → largest_to ok n ≤ n → cond b (suc n) (largest_to ok n) ≤ suc n
    go true h = omega arith
    go false h = omega arith

-- what passes at 0 passes at the largest number
pub largest_passes : (ok : ℕ → Bool) (n : ℕ) → ok 0 ≡ true → ok (largest_to ok n) ≡ true
largest_passes ok zero z = z
largest_passes ok (suc n) z = go (ok (suc n)) refl (largest_passes ok n z)
  where
    go : (b : Bool) → ok (suc n) ≡ b → ok (largest_to ok n) ≡ true → ok (cond b (suc n) (largest_to ok n)) ≡ true
    go true e ih = e
    go false e ih = ih

-- nothing beyond it passes
pub beyond_fails : (ok : ℕ → Bool) (n m : ℕ) → largest_to ok n < m → m ≤ n → ok m ≡ false
beyond_fails ok zero m lt le = absurd (omega arith)
beyond_fails ok (suc n) m lt le = go (ok (suc n)) refl lt (cases_eq m (suc n)) (beyond_fails ok n m)
  where
    go : (b : Bool) → ok (suc n) ≡ b → cond b (suc n) (largest_to ok n) < m → (m ≡ suc n) ⊎ (m ≡ suc n → ⊥) → (largest_to ok n < m → m ≤ n → ok m ≡ false) → ok m ≡ false
    go true e lt h ih = absurd (omega arith)
    go false e lt (inl same) ih = rw same e
    go false e lt (inr ne) ih = ih lt (omega arith)

-- a maximum of what is at most m at each place
pub most_under : {X : Type 0} (f : X → ℕ) (m : ℕ) (xs : List X) (d : X) → ((k : ℕ) → k < length xs → f (get_or xs k d) ≤ m) → most_of f xs ≤ m
most_under f m [] d h = omega arith
most_under f m (x ∷ xs) d h = let ih = most_under f m xs d (λ k lt. h (suc k) (omega arith)) in omega (arith, h 0 (omega arith))

pub most_all : {X : Type 0} (P : X → Type 0) (f : X → ℕ) (m : ℕ) (xs : List X) → ((x : X) → P x → f x ≤ m) → AllByRecursion P xs → most_of f xs ≤ m
most_all P f m [] h all = omega arith
most_all P f m (x ∷ xs) h all = let ih = most_all P f m xs h all.1 in omega (arith, h x all.0)
