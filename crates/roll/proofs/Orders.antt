-- Ordered in, ordered out, and level records in the order of their arrival: once for all records.
use Rattle.std.proofs.Common.{◌≡◌, ℕ, zero, suc, ◌+◌, ◌<◌, Bool, true, false, cond, ◌&&◌, ◌||◌, ltb, List, [], ◌∷◌, ◌++◌, take, drop, sym, refl, ap, ◌∙◌, inl, inr, one-add, arith}
use Rattle.std.proofs.lemmas.List.{append-nil}
use Rattle.std.proofs.lemmas.Bool.{and_parts, and_right, both_ways, cases_Bool, cond-false, ltb-false, ltb-true, or_cases, or_parts}
use Rattle.roll.specs.Rolls.{Arrived, Heads, Ordered, behind, inserted, level_with}

module _ {X : Type 0} (first : X → X → Bool) (x : X) where
  -- one record further on in the list that x is put into
  pub inserted_more : (y : X) (ys : List X) → inserted first x (y ∷ ys) ≡ cond (ltb 0 (behind (λ z. first z x) ys) || first y x) (y ∷ inserted first x ys) (x ∷ y ∷ ys)
  inserted_more y ys =
      let k = behind (λ z. first z x) ys in
      elim (ltb 0 k || first y x) as (λ b. take (cond b (1 + k) 0) (y ∷ ys) ++ x ∷ drop (cond b (1 + k) 0) (y ∷ ys) ≡ cond b (y ∷ inserted first x ys) (x ∷ y ∷ ys)) [ true ↦ rw one-add refl | false ↦ refl ]

module _ {X : Type 0} (first : X → X → Bool) (either : (x y : X) → first x y ≡ false → first y x ≡ true) (carries : (x y z : X) → first x y ≡ true → first y z ≡ true → first x z ≡ true) where
  pub heads_carried : (x y : X) (zs : List X) → first x y ≡ true → Heads first y zs → Heads first x zs
  heads_carried x y [] e h = tt
  heads_carried x y (z ∷ zs) e h = (carries x y z e h.0, heads_carried x y zs e h.1)

  -- one that stands before a list comes before x, if any of the list does
  pub heads_before : (x y : X) (zs : List X) → Heads first y zs → 0 < behind (λ z. first z x) zs → first y x ≡ true
  heads_before x y [] h l = absurd (omega arith)
  heads_before x y (z ∷ zs) h l =
      let k = behind (λ w. first w x) zs in
      let go : (b : Bool) → (ltb 0 k || first z x) ≡ b → 0 < cond b (1 + k) 0 → first y x ≡ true =
      λ b. elim b as (λ v. (ltb 0 k || first z x) ≡ v → 0 < cond v (1 + k) 0 → first y x ≡ true) [
        | true ↦ λ e _. elim (or_cases (ltb 0 k) (first z x) e) [ inl t ↦ heads_before x y zs h.1 (ltb-true 0 k t) | inr t ↦ carries y z x h.0 t ]
        | false ↦ λ e n. absurd (omega arith)
      ] in
      go (ltb 0 k || first z x) refl l

  heads_inserted : (x y : X) (zs : List X) → first y x ≡ true → Heads first y zs → Heads first y (inserted first x zs)
  heads_inserted x y [] e h = (e, tt)
  heads_inserted x y (z ∷ zs) e h =
      rw (inserted_more first x z zs) (
      elim (ltb 0 (behind (λ w. first w x) zs) || first z x) as (λ b. Heads first y (cond b (z ∷ inserted first x zs) (x ∷ z ∷ zs))) [ true ↦ (h.0, heads_inserted x y zs e h.1) | false ↦ (e, h) ])

  pub ordered_inserted : (x : X) (ys : List X) → Ordered first ys → Ordered first (inserted first x ys)
  ordered_inserted x [] h = (tt, tt)
  ordered_inserted x (y ∷ ys) h =
      let k = behind (λ w. first w x) ys in
      let go : (b : Bool) → (ltb 0 k || first y x) ≡ b → Ordered first (cond b (y ∷ inserted first x ys) (x ∷ y ∷ ys)) =
      λ b. elim b as (λ v. (ltb 0 k || first y x) ≡ v → Ordered first (cond v (y ∷ inserted first x ys) (x ∷ y ∷ ys))) [
        | true ↦ λ e. let f : first y x ≡ true = elim (or_cases (ltb 0 k) (first y x) e) [ inl t ↦ heads_before x y ys h.0 (ltb-true 0 k t) | inr t ↦ t ] in (heads_inserted x y ys f h.0, ordered_inserted x ys h.1)
        | false ↦ λ e. let f = either y x (or_parts (ltb 0 k) (first y x) e).1 in ((f, heads_carried x y ys f h.0), h)
      ] in
      rw (inserted_more first x y ys) (go (ltb 0 k || first y x) refl)

  -- where no record comes before x, none is level with a record that does
  none_level : (x z : X) (ws : List X) → first z x ≡ true → behind (λ w. first w x) ws ≡ 0 → level_with first z ws ≡ []
  none_level x z [] t h = refl
  none_level x z (w ∷ ws) t h =
      let k = behind (λ v. first v x) ws in
      let go : (b : Bool) → (ltb 0 k || first w x) ≡ b → cond b (1 + k) 0 ≡ 0 → level_with first z (w ∷ ws) ≡ [] =
      λ b. elim b as (λ v. (ltb 0 k || first w x) ≡ v → cond v (1 + k) 0 ≡ 0 → level_with first z (w ∷ ws) ≡ []) [
        | true ↦ λ e n. absurd (omega arith)
        | false ↦ λ e n.
            let parts = or_parts (ltb 0 k) (first w x) e in
            let rest = none_level x z ws t (omega (arith, ltb-false 0 k parts.0)) in
            let apart : first w z ≡ false = elim (cases_Bool (first w z)) [ inl c ↦ absurd (both_ways (first w x) parts.1 (carries w z x c t)) | inr c ↦ c ] in
            cond-false (first z w && first w z) (w ∷ level_with first z ws) (level_with first z ws) (and_right (first z w) (first w z) apart) ∙ rest
      ] in
      go (ltb 0 k || first w x) refl h

  pub arrived_inserted : (x : X) (ys : List X) → Arrived first x ys (inserted first x ys)
  arrived_inserted x [] z = refl
  arrived_inserted x (y ∷ ys) z =
      let k = behind (λ v. first v x) ys in
      let new = level_with first z (x ∷ []) in
      let more : (b : Bool) → cond b (y ∷ level_with first z (inserted first x ys)) (level_with first z (inserted first x ys)) ≡ cond b (y ∷ level_with first z ys) (level_with first z ys) ++ new =
      λ b. elim b as (λ v. cond v (y ∷ level_with first z (inserted first x ys)) (level_with first z (inserted first x ys)) ≡ cond v (y ∷ level_with first z ys) (level_with first z ys) ++ new) [ true ↦ ap (λ zs. y ∷ zs) (arrived_inserted x ys z) | false ↦ arrived_inserted x ys z ] in
      let stop : behind (λ v. first v x) (y ∷ ys) ≡ 0 → (c : Bool) → (first z x && first x z) ≡ c → cond c (x ∷ level_with first z (y ∷ ys)) (level_with first z (y ∷ ys)) ≡ level_with first z (y ∷ ys) ++ cond c (x ∷ []) [] =
      λ n c. elim c as (λ v. (first z x && first x z) ≡ v → cond v (x ∷ level_with first z (y ∷ ys)) (level_with first z (y ∷ ys)) ≡ level_with first z (y ∷ ys) ++ cond v (x ∷ []) []) [
        | true ↦ λ e. let none = none_level x z (y ∷ ys) (and_parts (first z x) (first x z) e).0 n in ap (λ zs. x ∷ zs) none ∙ ap (λ zs. zs ++ x ∷ []) (sym none)
        | false ↦ λ e. sym (append-nil (level_with first z (y ∷ ys)))
      ] in
      let go : (b : Bool) → (ltb 0 k || first y x) ≡ b → level_with first z (cond b (y ∷ inserted first x ys) (x ∷ y ∷ ys)) ≡ level_with first z (y ∷ ys) ++ new =
      λ b. elim b as (λ v. (ltb 0 k || first y x) ≡ v → level_with first z (cond v (y ∷ inserted first x ys) (x ∷ y ∷ ys)) ≡ level_with first z (y ∷ ys) ++ new) [
        | true ↦ λ e. more (first z y && first y z)
        | false ↦ λ e. stop (cond-false (ltb 0 k || first y x) (1 + k) 0 e) (first z x && first x z) refl
      ] in
      rw (inserted_more first x y ys) (go (ltb 0 k || first y x) refl)

-- what is left of an ordered list
pub ordered_drop : {X : Type 0} (first : X → X → Bool) (k : ℕ) (xs : List X) → Ordered first xs → Ordered first (drop k xs)
ordered_drop first zero xs h = h
ordered_drop first (suc k) [] h = tt
ordered_drop first (suc k) (x ∷ xs) h = ordered_drop first k xs h.1
