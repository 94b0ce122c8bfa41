-- What spending along a list leaves: once for all records.
use Rattle.std.proofs.Common.{◌≡◌, ℕ, ◌+◌, ◌-◌, ◌<◌, ◌≤◌, min, Bool, true, false, cond, leb, List, [], ◌∷◌, length, get_or, take, drop, set, sym, refl, ap, ◌∙◌, subst, arith, length-drop, length-take}
use Rattle.std.proofs.lemmas.List.{drop_all, drop_more}
use Rattle.std.proofs.lemmas.Bool.{leb-true, leb-false, le-leb, lt-leb}
use Rattle.roll.specs.Rolls.{Heads, Ordered, laid}
use Rattle.roll.specs.Spending.{Emptied, spent}
use Rattle.roll.specs.Sums.{sum_of}
use Rattle.roll.proofs.Behind.{drop_read}

-- one record on
pub total_more : {X : Type 0} (amount : X → ℕ) (xs : List X) (i : ℕ) (x : X) → i < length xs → x ≡ get_or xs i x → sum_of amount (drop i xs) ≡ amount x + sum_of amount (drop (i + 1) xs)
total_more amount xs i x l e = ap (sum_of amount) (drop_read xs i x l e)

module _ {X : Type 0} (amount : X → ℕ) (lowered : ℕ → X → X) where
  pub spent_whole : (n : ℕ) (x : X) (xs : List X) → amount x ≤ n → spent amount lowered n (x ∷ xs) ≡ spent amount lowered (n - amount x) xs
  spent_whole n x xs h = ap (λ b. cond b (spent amount lowered (n - amount x) xs) (lowered (amount x - n) x ∷ xs)) (le-leb (amount x) n h)

  pub spent_part : (n : ℕ) (x : X) (xs : List X) → n < amount x → spent amount lowered n (x ∷ xs) ≡ lowered (amount x - n) x ∷ xs
  spent_part n x xs h = ap (λ b. cond b (spent amount lowered (n - amount x) xs) (lowered (amount x - n) x ∷ xs)) (lt-leb (amount x) n h)

  pub spent_more : (xs : List X) (i n : ℕ) (x : X) → i < length xs → x ≡ get_or xs i x → amount x ≤ n → spent amount lowered n (drop i xs) ≡ spent amount lowered (n - amount x) (drop (i + 1) xs)
  spent_more xs i n x l e h = ap (spent amount lowered n) (drop_read xs i x l e) ∙ spent_whole n x (drop (i + 1) xs) h

  -- a proof over the two ways of each record: it is emptied, or spent in part
  pub spent_cases : (P : List X → Type 0) (n : ℕ) (x : X) (xs : List X) → (amount x ≤ n → P (spent amount lowered (n - amount x) xs)) → (n < amount x → P (lowered (amount x - n) x ∷ xs)) → P (spent amount lowered n (x ∷ xs))
  spent_cases P n x xs whole part =
      let go : (b : Bool) → leb (amount x) n ≡ b → P (cond b (spent amount lowered (n - amount x) xs) (lowered (amount x - n) x ∷ xs)) =
      λ b. elim b as (λ v. leb (amount x) n ≡ v → P (cond v (spent amount lowered (n - amount x) xs) (lowered (amount x - n) x ∷ xs))) [
        | true ↦ λ e. whole (leb-true (amount x) n e)
        | false ↦ λ e. part (leb-false (amount x) n e)
      ] in
      go (leb (amount x) n) refl

  pub spent_within : (n : ℕ) (xs : List X) → length (spent amount lowered n xs) ≤ length xs
  spent_within n [] = omega arith
  spent_within n (x ∷ xs) = let h = spent_within (n - amount x) xs in spent_cases (λ zs. length zs ≤ length (x ∷ xs)) n x xs (λ l. omega arith) (λ l. omega arith)

  -- nothing is lost
  pub spent_total : ((x : X) (n : ℕ) → amount (lowered n x) ≡ n) → (n : ℕ) (xs : List X) → sum_of amount xs ≡ sum_of amount (spent amount lowered n xs) + min n (sum_of amount xs)
  spent_total lowers n [] = omega arith
  spent_total lowers n (x ∷ xs) =
      let h = spent_total lowers (n - amount x) xs in
      let w = lowers x (amount x - n) in
      spent_cases (λ zs. sum_of amount (x ∷ xs) ≡ sum_of amount zs + min n (sum_of amount (x ∷ xs))) n x xs (λ l. omega arith) (λ l. omega arith)

  -- ordered in, ordered out
  module _ (first : X → X → Bool) (stands : (x y : X) (n : ℕ) → first (lowered n x) y ≡ first x y) where
    heads_lowered : (x : X) (n : ℕ) (ys : List X) → Heads first x ys → Heads first (lowered n x) ys
    heads_lowered x n [] h = tt
    heads_lowered x n (y ∷ ys) h = (stands x y n ∙ h.0, heads_lowered x n ys h.1)

    pub ordered_spent : (n : ℕ) (xs : List X) → Ordered first xs → Ordered first (spent amount lowered n xs)
    ordered_spent n [] h = tt
    ordered_spent n (x ∷ xs) h =
        spent_cases (Ordered first) n x xs (λ _. ordered_spent (n - amount x) xs h.1) (λ _. (heads_lowered x (amount x - n) xs h.0, h.1))

  -- the row after the emptied records are gone: q, whose first record may be spent in part
  module _ (sum n : ℕ) (p q : List X) (gone left : ℕ) (room : n ≤ length p) (h : Emptied amount lowered sum (take n p) gone left) (e : q ≡ laid (drop gone (take n p)) p) where
    pub first_short : (x : X) → gone < n → x ≡ get_or q 0 x → (gone < length (take n p)) × (x ≡ get_or (take n p) gone x) × (left < amount x)
    first_short x l read =
        let xs = take n p in
        let m : gone < length xs = omega (arith, length-take n p) in
        let at : x ≡ get_or xs gone x = read ∙ ap (λ z. get_or z 0 x) (e ∙ ap (λ z. laid z p) (drop_more xs gone x m)) in
        (m, at, subst (λ z. left < amount z) (sym at) (h.short x m))

    pub part_spent : (x v : X) → gone < n → x ≡ get_or q 0 x → v ≡ lowered (amount x - left) x → (set q 0 v ≡ laid (spent amount lowered sum (take n p)) p) × (n - gone ≡ length (spent amount lowered sum (take n p))) × (0 ≡ sum - sum_of amount (take n p))
    part_spent x v l read w =
        let xs = take n p in
        let rest = drop (gone + 1) xs in
        let f = first_short x l read in
        let d : drop gone xs ≡ x ∷ rest = drop_read xs gone x f.0 f.1 in
        let s : spent amount lowered sum xs ≡ v ∷ rest = h.goes_on ∙ ap (spent amount lowered left) d ∙ spent_part left x rest f.2 ∙ ap (λ z. z ∷ rest) (sym w) in
        let k : length (spent amount lowered sum xs) ≡ length (v ∷ rest) = ap length s in
        let m = total_more amount xs gone x f.0 f.1 in
        (ap (λ z. set z 0 v) (e ∙ ap (λ z. laid z p) d) ∙ ap (λ z. laid z p) (sym s), omega (arith, length-drop (gone + 1) xs, length-take n p), omega arith)

    pub all_spent : n ≤ gone → (q ≡ laid (spent amount lowered sum (take n p)) p) × (0 ≡ length (spent amount lowered sum (take n p))) × (left ≡ sum - sum_of amount (take n p))
    all_spent l =
        let xs = take n p in
        let m : length xs ≤ gone = omega (arith, length-take n p) in
        let d : drop gone xs ≡ [] = drop_all gone xs m in
        let s : spent amount lowered sum xs ≡ [] = h.goes_on ∙ ap (spent amount lowered left) d in
        let t : sum_of amount (drop gone xs) ≡ 0 = ap (sum_of amount) d in
        (e ∙ ap (λ z. laid z p) (d ∙ sym s), ap length (sym s), omega arith)
