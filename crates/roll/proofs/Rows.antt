-- Rows of records changed one after another, each by the value at its place: the steps of a loop.
use Rattle.std.proofs.Common.{◌≡◌, ℕ, zero, suc, pred, ◌+◌, ◌<◌, ◌≤◌, List, [], ◌∷◌, length, get_or, take, set, refl, ap, ◌∙◌, le_of_suc-le-suc, add-one, arith}
use Rattle.roll.specs.Rows.{each_with}
use Rattle.roll.specs.Sums.{sum_of}

module _ {V X : Type 0} (f : V → X → X) where
  pub with_length : (vs : List V) (xs : List X) → length (each_with f vs xs) ≡ length xs
  with_length [] xs = refl
  with_length (v ∷ vs) [] = refl
  with_length (v ∷ vs) (x ∷ xs) = omega (arith, with_length vs xs)

  -- what the loop has not reached is vs it was
  pub with_rest : (vs : List V) (xs : List X) (d : X) (i : ℕ) → get_or (each_with f (take i vs) xs) i d ≡ get_or xs i d
  with_rest vs xs d zero = refl
  with_rest [] xs d (suc i) = refl
  with_rest (v ∷ vs) [] d (suc i) = refl
  with_rest (v ∷ vs) (x ∷ xs) d (suc i) = with_rest vs xs d i

  with_suc : (vs : List V) (xs : List X) (e : V) (d : X) (i : ℕ) → i < length vs → each_with f (take (suc i) vs) xs ≡ set (each_with f (take i vs) xs) i (f (get_or vs i e) (get_or xs i d))
  with_suc [] xs e d i h = absurd (omega arith)
  with_suc (v ∷ vs) [] e d zero h = refl
  with_suc (v ∷ vs) [] e d (suc i) h = refl
  with_suc (v ∷ vs) (x ∷ xs) e d zero h = refl
  with_suc (v ∷ vs) (x ∷ xs) e d (suc i) h = ap {B = List X} (λ l. f v x ∷ l) (with_suc vs xs e d i (le_of_suc-le-suc h))

  -- the step of the loop
  pub with_step : (vs : List V) (xs ys : List X) (e : V) (d : X) (i : ℕ) (y : X) → i < length vs → ys ≡ each_with f (take i vs) xs → y ≡ f (get_or vs i e) (get_or ys i d) → set ys i y ≡ each_with f (take (i + 1) vs) xs
  with_step vs xs ys e d i y h same new =
      let r : get_or ys i d ≡ get_or xs i d = ap (λ zs. get_or zs i d) same ∙ with_rest vs xs d i in
      let v : y ≡ f (get_or vs i e) (get_or xs i d) = new ∙ ap (f (get_or vs i e)) r in
      rw (add-one, with_suc vs xs e d i h) (cc)

  -- its end
  pub with_end : (vs : List V) (xs : List X) (i : ℕ) → length xs ≤ i → each_with f (take i vs) xs ≡ each_with f vs xs
  with_end [] xs zero h = refl
  with_end [] xs (suc i) h = refl
  with_end (v ∷ vs) [] zero h = refl
  with_end (v ∷ vs) [] (suc i) h = refl
  with_end (v ∷ vs) (x ∷ xs) zero h = absurd (omega arith)
  with_end (v ∷ vs) (x ∷ xs) (suc i) h = ap {B = List X} (λ l. f v x ∷ l) (with_end vs xs i (le_of_suc-le-suc h))

  -- the record at a place, and a number of it: at most what it was and what the value adds
  pub with_at : (vs : List V) (xs : List X) (e : V) (d : X) (k : ℕ) → k < length vs → k < length xs → get_or (each_with f vs xs) k d ≡ f (get_or vs k e) (get_or xs k d)
  with_at [] xs e d k h l = absurd (omega arith)
  with_at (v ∷ vs) [] e d k h l = absurd (omega arith)
  with_at (v ∷ vs) (x ∷ xs) e d zero h l = refl
  with_at (v ∷ vs) (x ∷ xs) e d (suc k) h l = with_at vs xs e d k (le_of_suc-le-suc h) (le_of_suc-le-suc l)

  pub with_le : (g : X → ℕ) (b : V → ℕ) → ((v : V) (x : X) → g (f v x) ≤ g x + b v) → (vs : List V) (xs : List X) (e : V) (d : X) (k : ℕ) → g (get_or (each_with f vs xs) k d) ≤ g (get_or xs k d) + b (get_or vs k e)
  with_le g b step [] xs e d k = omega arith
  with_le g b step (v ∷ vs) [] e d k = omega arith
  with_le g b step (v ∷ vs) (x ∷ xs) e d zero = step v x
  with_le g b step (v ∷ vs) (x ∷ xs) e d (suc k) = with_le g b step vs xs e d k

  -- a sum of what no value changes
  pub with_sum : (g : X → ℕ) → ((v : V) (x : X) → g (f v x) ≡ g x) → (vs : List V) (xs : List X) → sum_of g (each_with f vs xs) ≡ sum_of g xs
  with_sum g same [] xs = refl
  with_sum g same (v ∷ vs) [] = refl
  with_sum g same (v ∷ vs) (x ∷ xs) = omega (arith, same v x, with_sum g same vs xs)

  -- what holds of each record below n becomes what holds of it once it is changed
  pub with_under : (P Q : X → Type 0) (n : ℕ) (vs : List V) (xs : List X) (e : V) (d : X) → ((k : ℕ) → k < n → P (get_or xs k d)) → ((x : X) → P x → Q x) → ((k : ℕ) → k < n → (x : X) → P x → Q (f (get_or vs k e) x)) → (k : ℕ) → k < n → Q (get_or (each_with f vs xs) k d)
  with_under P Q n [] xs e d h weak step k lt = weak (get_or xs k d) (h k lt)
  with_under P Q n (v ∷ vs) [] e d h weak step k lt = weak d (h k lt)
  with_under P Q n (v ∷ vs) (x ∷ xs) e d h weak step zero lt = step 0 lt x (h 0 lt)
  with_under P Q n (v ∷ vs) (x ∷ xs) e d h weak step (suc k) lt =
      with_under P Q (pred n) vs xs e d (λ j m. h (suc j) (omega arith)) weak (λ j m. step (suc j) (omega arith)) k (omega arith)

-- what holds of the record at each place below n, and of the one put in, holds then too
pub set_under : {X : Type 0} (P : X → Type 0) (n : ℕ) (xs : List X) (i : ℕ) (y d : X) → ((k : ℕ) → k < n → P (get_or xs k d)) → (i < n → P y) → (k : ℕ) → k < n → P (get_or (set xs i y) k d)
set_under P n [] i y d h new k l = h k l
set_under P n (x ∷ xs) zero y d h new zero l = new l
set_under P n (x ∷ xs) zero y d h new (suc k) l = h (suc k) l
set_under P n (x ∷ xs) (suc i) y d h new zero l = h zero l
set_under P n (x ∷ xs) (suc i) y d h new (suc k) l = set_under P (pred n) xs i y d (λ j m. h (suc j) (omega arith)) (λ m. new (omega arith)) k (omega arith)

-- the record at a place, after one was put in at another place or at this one
pub set_le : {X : Type 0} (g : X → ℕ) (xs : List X) (i : ℕ) (y d : X) (b : ℕ) → g y ≤ g (get_or xs i d) + b → (k : ℕ) → g (get_or (set xs i y) k d) ≤ g (get_or xs k d) + b
set_le g [] i y d b h k = omega arith
set_le g (x ∷ xs) zero y d b h zero = h
set_le g (x ∷ xs) zero y d b h (suc k) = omega arith
set_le g (x ∷ xs) (suc i) y d b h zero = omega arith
set_le g (x ∷ xs) (suc i) y d b h (suc k) = set_le g xs i y d b h k
