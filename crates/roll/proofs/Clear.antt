-- What the records amount to that stand behind the last one that meets a test, as sums are spent along them and records are put in: over any records.
use Rattle.std.proofs.Common.{◌≡◌, ℕ, ◌+◌, ◌-◌, ◌<◌, ◌≤◌, Bool, true, false, cond, ◌||◌, ltb, ◌⊎◌, List, [], ◌∷◌, ◌++◌, take, drop, sym, refl, ap, ◌∙◌, subst, inl, inr, one-add, arith}
use Rattle.std.proofs.lemmas.Bool.{both_ways, cases_Bool, cond-false, cond-true, ltb-false, or_cases, or_from, or_left, or_parts, or_right}
use Rattle.std.proofs.lemmas.Bool.Decides.{nat_tests}
use Rattle.roll.specs.Rolls.{Heads, Ordered, behind, clear_of, inserted}
use Rattle.roll.specs.Spending.{spent, spent_clear}
use Rattle.roll.specs.Sums.{sum_of}
use Rattle.roll.proofs.Orders.{inserted_more}
use Rattle.roll.proofs.Spending.{ordered_spent, spent_cases, spent_total}

-- whether some record meets the test
abbrev pub some : {X : Type 0} → (X → Bool) → List X → Bool
some test xs = ltb 0 (behind test xs)

or_follows : (b v b' v' : Bool) → (b ≡ true → b' ≡ true) → (v ≡ true → v' ≡ true) → (b || v) ≡ true → (b' || v') ≡ true
or_follows b v b' v' i j h = elim (or_cases b v h) [ inl e ↦ or_left b' v' (i e) | inr e ↦ or_right b' v' (j e) ]

-- from a test's false answer to that of one it follows from
not_follows : (b b' : Bool) → (b ≡ true → b' ≡ true) → b' ≡ false → b ≡ false
not_follows b b' i h = elim (cases_Bool b) [ inl e ↦ absurd (both_ways b' h (i e)) | inr e ↦ e ]

-- sums with a record in front, which counts unless b: m and m' are the sums without it
whole_at_most : (b : Bool) (a n m l r : ℕ) → a ≤ n → l ≡ cond b m (a + m) → m ≤ r + (n - a) → l ≤ r + n
whole_at_most true a n m l r h e i = omega arith
whole_at_most false a n m l r h e i = omega arith

whole_no_rise : (b : Bool) (a m l r : ℕ) → l ≡ cond b m (a + m) → r ≤ m → r ≤ l
whole_no_rise true a m l r e i = omega arith
whole_no_rise false a m l r e i = omega arith

part_at_most : (b : Bool) (a n m l r : ℕ) → n < a → l ≡ cond b m (a + m) → r ≡ cond b m (a - n + m) → l ≤ r + n
part_at_most true a n m l r h e f = omega arith
part_at_most false a n m l r h e f = omega arith

part_no_rise : (b : Bool) (a n m l r : ℕ) → l ≡ cond b m (a + m) → r ≡ cond b m (a - n + m) → r ≤ l
part_no_rise true a n m l r e f = omega arith
part_no_rise false a n m l r e f = omega arith

front_at_most : (b : Bool) (a n m m' l r : ℕ) → l ≡ cond b m (a + m) → r ≡ cond b m' (a + m') → m ≤ m' + n → l ≤ r + n
front_at_most true a n m m' l r e f i = omega arith
front_at_most false a n m m' l r e f i = omega arith

front_adds : (b : Bool) (a n m m' l r : ℕ) → l ≡ cond b m (a + m) → r ≡ cond b m' (a + m') → m' ≡ m + n → r ≡ l + n
front_adds true a n m m' l r e f i = omega arith
front_adds false a n m m' l r e f i = omega arith

front_falls : (b b' : Bool) (a m m' l r : ℕ) → (b ≡ true → b' ≡ true) → l ≡ cond b m (a + m) → r ≡ cond b' m' (a + m') → m' ≤ m → r ≤ l
front_falls true true a m m' l r c e f i = omega arith
front_falls true false a m m' l r c e f i = absurd (both_ways false refl (c refl))
front_falls false true a m m' l r c e f i = omega arith
front_falls false false a m m' l r c e f i = omega arith

module _ {X : Type 0} where
  pub some_more : (test : X → Bool) (x : X) (xs : List X) → some test (x ∷ xs) ≡ (some test xs || test x)
  some_more test x xs = elim (some test xs || test x) as (λ b. ltb 0 (cond b (1 + behind test xs) 0) ≡ b) [ true ↦ grind (arith, nat_tests) | false ↦ refl ]

  -- a test that the other follows from
  pub some_follows : (t u : X → Bool) → ((x : X) → t x ≡ true → u x ≡ true) → (xs : List X) → some t xs ≡ true → some u xs ≡ true
  some_follows t u f [] h = h
  some_follows t u f (x ∷ xs) h = some_more u x xs ∙ or_follows (some t xs) (t x) (some u xs) (u x) (some_follows t u f xs) (f x) (sym (some_more t x xs) ∙ h)

  none_behind : (test : X → Bool) (xs : List X) → some test xs ≡ false → behind test xs ≡ 0
  none_behind test xs h = omega (arith, ltb-false 0 (behind test xs) h)

  pub clear_none : (test : X → Bool) (xs : List X) → some test xs ≡ false → clear_of test xs ≡ xs
  clear_none test xs h = ap (λ k. drop k xs) (none_behind test xs h)

  pub clear_some : (test : X → Bool) (x : X) (xs : List X) → (some test xs || test x) ≡ true → clear_of test (x ∷ xs) ≡ clear_of test xs
  clear_some test x xs h = ap (λ b. drop (cond b (1 + behind test xs) 0) (x ∷ xs)) h ∙ rw one-add refl

  module _ (amount : X → ℕ) where
    -- what is clear of a test amounts to, with one more record in front
    pub clear_more : (test : X → Bool) (x : X) (xs : List X) → sum_of amount (clear_of test (x ∷ xs)) ≡ cond (some test xs || test x) (sum_of amount (clear_of test xs)) (amount x + sum_of amount (clear_of test xs))
    clear_more test x xs =
        let T = sum_of amount (clear_of test xs) in
        elim (cases_Bool (some test xs || test x)) [
          | inl e ↦ ap (sum_of amount) (clear_some test x xs e) ∙ sym (cond-true (some test xs || test x) T (amount x + T) e)
          | inr e ↦ ap (sum_of amount) (clear_none test (x ∷ xs) (some_more test x xs ∙ e)) ∙ ap (λ zs. amount x + sum_of amount zs) (sym (clear_none test xs (or_parts (some test xs) (test x) e).0)) ∙ sym (cond-false (some test xs || test x) T (amount x + T) e)
        ]

    -- what follows from more records leaves fewer
    pub clear_falls : (t u : X → Bool) → ((x : X) → t x ≡ true → u x ≡ true) → (xs : List X) → sum_of amount (clear_of u xs) ≤ sum_of amount (clear_of t xs)
    clear_falls t u f [] = omega arith
    clear_falls t u f (x ∷ xs) =
        front_falls (some t xs || t x) (some u xs || u x) (amount x) _ _ _ _ (or_follows (some t xs) (t x) (some u xs) (u x) (some_follows t u f xs) (f x)) (clear_more t x xs) (clear_more u x xs) (clear_falls t u f xs)

    -- records that meet the narrower test can be left out before
    pub clear_clear : (t u : X → Bool) → ((x : X) → t x ≡ true → u x ≡ true) → (xs : List X) → sum_of amount (clear_of u (clear_of t xs)) ≡ sum_of amount (clear_of u xs)
    clear_clear t u f [] = refl
    clear_clear t u f (x ∷ xs) =
        elim (cases_Bool (some t xs || t x)) [
          | inl e ↦
              let b = or_follows (some t xs) (t x) (some u xs) (u x) (some_follows t u f xs) (f x) e in
              ap (λ zs. sum_of amount (clear_of u zs)) (clear_some t x xs e) ∙ clear_clear t u f xs ∙ ap (sum_of amount) (sym (clear_some u x xs b))
          | inr e ↦ ap (λ zs. sum_of amount (clear_of u zs)) (clear_none t (x ∷ xs) (some_more t x xs ∙ e))
        ]

    -- in an ordered list just the records that do not meet the test are clear of it, if all before one that meets it do
    module _ (first : X → X → Bool) (t : X → Bool) (down : (x y : X) → first x y ≡ true → t y ≡ true → t x ≡ true) where
      heads_some : (x : X) (ys : List X) → Heads first x ys → some t ys ≡ true → t x ≡ true
      heads_some x [] h e = absurd (both_ways false refl e)
      heads_some x (y ∷ ys) h e = elim (or_cases (some t ys) (t y) (sym (some_more t y ys) ∙ e)) [ inl c ↦ heads_some x ys h.1 c | inr c ↦ down x y h.0 c ]

      pub clear_ordered : (xs : List X) → Ordered first xs → sum_of amount (clear_of t xs) ≡ sum_of (λ x. cond (t x) 0 (amount x)) xs
      clear_ordered [] h = refl
      clear_ordered (x ∷ xs) h =
          let T = sum_of amount (clear_of t xs) in
          let i = clear_ordered xs h.1 in
          elim (cases_Bool (t x)) [
            | inl e ↦ let z = cond-true (t x) 0 (amount x) e in let b = cond-true (some t xs || t x) T (amount x + T) (or_right (some t xs) (t x) e) in omega (arith, clear_more t x xs)
            | inr e ↦
                let none = not_follows (some t xs) (t x) (heads_some x xs h.0) e in
                let z = cond-false (t x) 0 (amount x) e in
                let b = cond-false (some t xs || t x) T (amount x + T) (or_from (some t xs) (t x) none e) in
                omega (arith, clear_more t x xs)
          ]

    -- a record x is put in
    module _ (first : X → X → Bool) (x : X) (u : X → Bool) where
      -- one that does not meet the test
      module _ (clear : u x ≡ false) (before : (y : X) → u y ≡ true → first y x ≡ true) where
        some_put : (ys : List X) → some u (inserted first x ys) ≡ some u ys
        some_put [] = some_more u x [] ∙ or_from (some u []) (u x) refl clear
        some_put (y ∷ ys) =
            let B = some (λ z. first z x) ys || first y x in
            elim (cases_Bool B) [
              | inl e ↦ ap (some u) (inserted_more first x y ys ∙ cond-true B (y ∷ inserted first x ys) (x ∷ y ∷ ys) e) ∙ some_more u y (inserted first x ys) ∙ ap (λ b. b || u y) (some_put ys) ∙ sym (some_more u y ys)
              | inr e ↦
                  let none = not_follows (some u (y ∷ ys)) (some (λ z. first z x) (y ∷ ys)) (some_follows u (λ z. first z x) before (y ∷ ys)) (some_more (λ z. first z x) y ys ∙ e) in
                  ap (some u) (inserted_more first x y ys ∙ cond-false B (y ∷ inserted first x ys) (x ∷ y ∷ ys) e) ∙ some_more u x (y ∷ ys) ∙ or_from (some u (y ∷ ys)) (u x) none clear ∙ sym none
            ]

        pub put_clear : (ys : List X) → sum_of amount (clear_of u (inserted first x ys)) ≡ sum_of amount (clear_of u ys) + amount x
        put_clear [] = clear_more u x [] ∙ cond-false (some u [] || u x) 0 (amount x + 0) (or_from (some u []) (u x) refl clear) ∙ omega arith
        put_clear (y ∷ ys) =
            let B = some (λ z. first z x) ys || first y x in
            elim (cases_Bool B) [
              | inl e ↦
                  let more = ap (λ zs. sum_of amount (clear_of u zs)) (inserted_more first x y ys ∙ cond-true B (y ∷ inserted first x ys) (x ∷ y ∷ ys) e) in
                  let r = more ∙ clear_more u y (inserted first x ys) ∙ ap (λ b. cond (b || u y) (sum_of amount (clear_of u (inserted first x ys))) (amount y + sum_of amount (clear_of u (inserted first x ys)))) (some_put ys) in
                  front_adds (some u ys || u y) (amount y) (amount x) _ _ _ _ (clear_more u y ys) r (put_clear ys)
              | inr e ↦
                  let T = sum_of amount (clear_of u (y ∷ ys)) in
                  let none = not_follows (some u (y ∷ ys)) (some (λ z. first z x) (y ∷ ys)) (some_follows u (λ z. first z x) before (y ∷ ys)) (some_more (λ z. first z x) y ys ∙ e) in
                  let here : cond (some u (y ∷ ys) || u x) T (amount x + T) ≡ amount x + T = cond-false (some u (y ∷ ys) || u x) T (amount x + T) (or_from (some u (y ∷ ys)) (u x) none clear) in
                  ap (λ zs. sum_of amount (clear_of u zs)) (inserted_more first x y ys ∙ cond-false B (y ∷ inserted first x ys) (x ∷ y ∷ ys) e) ∙ clear_more u x (y ∷ ys) ∙ here ∙ omega arith
            ]

      -- one that meets it
      module _ (past : u x ≡ true) (after : (y : X) → first y x ≡ true → u y ≡ true) where
        some_put_past : (ys : List X) → some u (inserted first x ys) ≡ true
        some_put_past [] = some_more u x [] ∙ or_right (some u []) (u x) past
        some_put_past (y ∷ ys) =
            let B = some (λ z. first z x) ys || first y x in
            elim (cases_Bool B) [
              | inl e ↦ ap (some u) (inserted_more first x y ys ∙ cond-true B (y ∷ inserted first x ys) (x ∷ y ∷ ys) e) ∙ some_more u y (inserted first x ys) ∙ or_left (some u (inserted first x ys)) (u y) (some_put_past ys)
              | inr e ↦ ap (some u) (inserted_more first x y ys ∙ cond-false B (y ∷ inserted first x ys) (x ∷ y ∷ ys) e) ∙ some_more u x (y ∷ ys) ∙ or_right (some u (y ∷ ys)) (u x) past
            ]

        pub put_past : (ys : List X) → sum_of amount (clear_of u (inserted first x ys)) ≡ sum_of amount (clear_of u ys)
        put_past [] = ap (sum_of amount) (clear_some u x [] (or_right (some u []) (u x) past))
        put_past (y ∷ ys) =
            let B = some (λ z. first z x) ys || first y x in
            elim (cases_Bool B) [
              | inl e ↦
                  let b = or_follows (some (λ z. first z x) ys) (first y x) (some u ys) (u y) (some_follows (λ z. first z x) u after ys) (after y) e in
                  ap (λ zs. sum_of amount (clear_of u zs)) (inserted_more first x y ys ∙ cond-true B (y ∷ inserted first x ys) (x ∷ y ∷ ys) e) ∙ ap (sum_of amount) (clear_some u y (inserted first x ys) (or_left (some u (inserted first x ys)) (u y) (some_put_past ys))) ∙ put_past ys ∙ ap (sum_of amount) (sym (clear_some u y ys b))
              | inr e ↦ ap (λ zs. sum_of amount (clear_of u zs)) (inserted_more first x y ys ∙ cond-false B (y ∷ inserted first x ys) (x ∷ y ∷ ys) e) ∙ ap (sum_of amount) (clear_some u x (y ∷ ys) (or_right (some u (y ∷ ys)) (u x) past))
            ]

    -- a sum is spent: a record keeps its test as its amount falls
    module _ (lowered : ℕ → X → X) (lowers : (x : X) (n : ℕ) → amount (lowered n x) ≡ n) where
      part_more : (u : X → Bool) → ((x : X) (n : ℕ) → u (lowered n x) ≡ u x) → (x : X) (k : ℕ) (xs : List X) → sum_of amount (clear_of u (lowered k x ∷ xs)) ≡ cond (some u xs || u x) (sum_of amount (clear_of u xs)) (k + sum_of amount (clear_of u xs))
      part_more u keeps x k xs =
          let T = sum_of amount (clear_of u xs) in
          clear_more u (lowered k x) xs ∙ ap (λ b. cond (some u xs || b) T (amount (lowered k x) + T)) (keeps x k) ∙ ap (λ a. cond (some u xs || u x) T (a + T)) (lowers x k)

      module _ (u : X → Bool) (keeps : (x : X) (n : ℕ) → u (lowered n x) ≡ u x) where
        pub spent_at_most : (n : ℕ) (xs : List X) → sum_of amount (clear_of u xs) ≤ sum_of amount (clear_of u (spent amount lowered n xs)) + n
        spent_at_most n [] = omega arith
        spent_at_most n (x ∷ xs) =
            spent_cases amount lowered (λ zs. sum_of amount (clear_of u (x ∷ xs)) ≤ sum_of amount (clear_of u zs) + n) n x xs
            (λ l. whole_at_most (some u xs || u x) (amount x) n _ _ _ l (clear_more u x xs) (spent_at_most (n - amount x) xs))
            (λ l. part_at_most (some u xs || u x) (amount x) n _ _ _ l (clear_more u x xs) (part_more u keeps x (amount x - n) xs))

        pub spent_no_rise : (n : ℕ) (xs : List X) → sum_of amount (clear_of u (spent amount lowered n xs)) ≤ sum_of amount (clear_of u xs)
        spent_no_rise n [] = omega arith
        spent_no_rise n (x ∷ xs) =
            spent_cases amount lowered (λ zs. sum_of amount (clear_of u zs) ≤ sum_of amount (clear_of u (x ∷ xs))) n x xs
            (λ l. whole_no_rise (some u xs || u x) (amount x) _ _ _ (clear_more u x xs) (spent_no_rise (n - amount x) xs))
            (λ l. part_no_rise (some u xs || u x) (amount x) n _ _ _ (clear_more u x xs) (part_more u keeps x (amount x - n) xs))

        some_spent : (n : ℕ) (xs : List X) → some u xs ≡ false → some u (spent amount lowered n xs) ≡ false
        some_spent n [] h = h
        some_spent n (x ∷ xs) h =
            let parts = or_parts (some u xs) (u x) (sym (some_more u x xs) ∙ h) in
            spent_cases amount lowered (λ zs. some u zs ≡ false) n x xs (λ l. some_spent (n - amount x) xs parts.0) (λ l. some_more u (lowered (amount x - n) x) xs ∙ or_from (some u xs) (u (lowered (amount x - n) x)) parts.0 (keeps x (amount x - n) ∙ parts.1))

      -- along the records that are clear of t
      module _ (t : X → Bool) (n : ℕ) where
        spent_clear_none : (xs : List X) → some t xs ≡ false → spent_clear amount lowered t n xs ≡ spent amount lowered n xs
        spent_clear_none xs h = ap (λ k. take k xs ++ spent amount lowered n (drop k xs)) (none_behind t xs h)

        spent_clear_some : (x : X) (xs : List X) → (some t xs || t x) ≡ true → spent_clear amount lowered t n (x ∷ xs) ≡ x ∷ spent_clear amount lowered t n xs
        spent_clear_some x xs h = ap (λ b. let k = cond b (1 + behind t xs) 0 in take k (x ∷ xs) ++ spent amount lowered n (drop k (x ∷ xs))) h ∙ rw one-add refl

        -- ordered in, ordered out
        module _ (first : X → X → Bool) (stands : (x y : X) (k : ℕ) → first (lowered k x) y ≡ first x y) (stood : (x y : X) (k : ℕ) → first y (lowered k x) ≡ first y x) where
          heads_spent : (m : ℕ) (x : X) (ys : List X) → Heads first x ys → Heads first x (spent amount lowered m ys)
          heads_spent m x [] h = tt
          heads_spent m x (y ∷ ys) h = spent_cases amount lowered (Heads first x) m y ys (λ _. heads_spent (m - amount y) x ys h.1) (λ _. (stood y x (amount y - m) ∙ h.0, h.1))

          heads_spent_clear : (x : X) (ys : List X) → Heads first x ys → Heads first x (spent_clear amount lowered t n ys)
          heads_spent_clear x [] h = tt
          heads_spent_clear x (y ∷ ys) h =
              elim (cases_Bool (some t ys || t y)) [
                | inl e ↦ subst (Heads first x) (sym (spent_clear_some y ys e)) (h.0, heads_spent_clear x ys h.1)
                | inr e ↦ subst (Heads first x) (sym (spent_clear_none (y ∷ ys) (some_more t y ys ∙ e))) (heads_spent n x (y ∷ ys) h)
              ]

          pub ordered_spent_clear : (xs : List X) → Ordered first xs → Ordered first (spent_clear amount lowered t n xs)
          ordered_spent_clear [] h = tt
          ordered_spent_clear (x ∷ xs) h =
              elim (cases_Bool (some t xs || t x)) [
                | inl e ↦ subst (Ordered first) (sym (spent_clear_some x xs e)) (heads_spent_clear x xs h.0, ordered_spent_clear xs h.1)
                | inr e ↦ subst (Ordered first) (sym (spent_clear_none (x ∷ xs) (some_more t x xs ∙ e))) (ordered_spent amount lowered first stands n (x ∷ xs) h)
              ]

        -- u follows from t, or t from u
        module _ (u : X → Bool) (keeps : (x : X) (n : ℕ) → u (lowered n x) ≡ u x) (nested : ((x : X) → t x ≡ true → u x ≡ true) ⊎ ((x : X) → u x ≡ true → t x ≡ true)) where
          same_front : (x : X) (xs : List X) → (some t xs || t x) ≡ true → (some t xs ≡ true → some u (spent_clear amount lowered t n xs) ≡ some u xs) → (some u (spent_clear amount lowered t n xs) || u x) ≡ (some u xs || u x)
          same_front x xs h i =
              let S = spent_clear amount lowered t n xs in
              let here : some t xs ≡ false → (some u S || u x) ≡ (some u xs || u x) =
              λ e. elim nested [
                | inl f ↦ let v = f x (elim (or_cases (some t xs) (t x) h) [ inl c ↦ absurd (both_ways (some t xs) e c) | inr c ↦ c ]) in or_right (some u S) (u x) v ∙ sym (or_right (some u xs) (u x) v)
                | inr f ↦ let none = not_follows (some u xs) (some t xs) (some_follows u t f xs) e in ap (λ b. b || u x) (ap (some u) (spent_clear_none xs e) ∙ some_spent u keeps n xs none ∙ sym none)
              ] in
              elim (cases_Bool (some t xs)) [ inl e ↦ ap (λ b. b || u x) (i e) | inr e ↦ here e ]

          pub some_spent_clear : (xs : List X) → some t xs ≡ true → some u (spent_clear amount lowered t n xs) ≡ some u xs
          some_spent_clear [] h = refl
          some_spent_clear (x ∷ xs) h =
              let b = sym (some_more t x xs) ∙ h in
              ap (some u) (spent_clear_some x xs b) ∙ some_more u x (spent_clear amount lowered t n xs) ∙ same_front x xs b (some_spent_clear xs) ∙ sym (some_more u x xs)

          front_more : (x : X) (xs : List X) → (some t xs || t x) ≡ true → let S = spent_clear amount lowered t n xs in sum_of amount (clear_of u (spent_clear amount lowered t n (x ∷ xs))) ≡ cond (some u xs || u x) (sum_of amount (clear_of u S)) (amount x + sum_of amount (clear_of u S))
          front_more x xs h =
              let S = spent_clear amount lowered t n xs in
              ap (λ zs. sum_of amount (clear_of u zs)) (spent_clear_some x xs h) ∙ clear_more u x S ∙ ap (λ b. cond b (sum_of amount (clear_of u S)) (amount x + sum_of amount (clear_of u S))) (same_front x xs h (some_spent_clear xs))

          pub spent_clear_at_most : (xs : List X) → sum_of amount (clear_of u xs) ≤ sum_of amount (clear_of u (spent_clear amount lowered t n xs)) + n
          spent_clear_at_most [] = omega arith
          spent_clear_at_most (x ∷ xs) =
              elim (cases_Bool (some t xs || t x)) [
                | inl e ↦ front_at_most (some u xs || u x) (amount x) n _ _ _ _ (clear_more u x xs) (front_more x xs e) (spent_clear_at_most xs)
                | inr e ↦ subst (λ zs. sum_of amount (clear_of u (x ∷ xs)) ≤ sum_of amount (clear_of u zs) + n) (sym (spent_clear_none (x ∷ xs) (some_more t x xs ∙ e))) (spent_at_most u keeps n (x ∷ xs))
              ]

          pub spent_clear_no_rise : (xs : List X) → sum_of amount (clear_of u (spent_clear amount lowered t n xs)) ≤ sum_of amount (clear_of u xs)
          spent_clear_no_rise [] = omega arith
          spent_clear_no_rise (x ∷ xs) =
              elim (cases_Bool (some t xs || t x)) [
                | inl e ↦ front_falls (some u xs || u x) (some u xs || u x) (amount x) _ _ _ _ (λ h. h) (clear_more u x xs) (front_more x xs e) (spent_clear_no_rise xs)
                | inr e ↦ subst (λ zs. sum_of amount (clear_of u zs) ≤ sum_of amount (clear_of u (x ∷ xs))) (sym (spent_clear_none (x ∷ xs) (some_more t x xs ∙ e))) (spent_no_rise u keeps n (x ∷ xs))
              ]

        -- what is clear of t itself falls by just the sum
        module _ (keeps : (x : X) (n : ℕ) → t (lowered n x) ≡ t x) where
          pub spent_clear_there : (xs : List X) → n ≤ sum_of amount (clear_of t xs) → sum_of amount (clear_of t (spent_clear amount lowered t n xs)) + n ≡ sum_of amount (clear_of t xs)
          spent_clear_there [] l = omega arith
          spent_clear_there (x ∷ xs) l =
              elim (cases_Bool (some t xs || t x)) [
                | inl e ↦
                    let S = spent_clear amount lowered t n xs in
                    let T = sum_of amount (clear_of t xs) in
                    let a : sum_of amount (clear_of t (x ∷ xs)) ≡ T = ap (sum_of amount) (clear_some t x xs e) in
                    let b : sum_of amount (clear_of t (spent_clear amount lowered t n (x ∷ xs))) ≡ sum_of amount (clear_of t S) = front_more t keeps (inl (λ y h. h)) x xs e ∙ cond-true (some t xs || t x) (sum_of amount (clear_of t S)) (amount x + sum_of amount (clear_of t S)) e in
                    let i = spent_clear_there xs (omega arith) in
                    omega arith
                | inr e ↦
                    let none = some_more t x xs ∙ e in
                    let a : sum_of amount (clear_of t (x ∷ xs)) ≡ sum_of amount (x ∷ xs) = ap (sum_of amount) (clear_none t (x ∷ xs) none) in
                    let left = spent amount lowered n (x ∷ xs) in
                    let b : sum_of amount (clear_of t (spent_clear amount lowered t n (x ∷ xs))) ≡ sum_of amount left = ap (λ zs. sum_of amount (clear_of t zs)) (spent_clear_none (x ∷ xs) none) ∙ ap (sum_of amount) (clear_none t left (some_spent t keeps n (x ∷ xs) none)) in
                    let c = spent_total amount lowered lowers n (x ∷ xs) in
                    omega arith
              ]
