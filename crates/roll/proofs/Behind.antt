-- The place behind the last record that meets a test: over any records and any test.
use Rattle.std.proofs.Common.{◌≡◌, ℕ, ◌+◌, ◌<◌, ◌≤◌, Bool, true, false, cond, ◌||◌, ltb, List, [], ◌∷◌, length, get_or, drop, sym, ap, ◌∙◌, arith}
use Rattle.std.proofs.lemmas.List.{drop_more}
use Rattle.roll.specs.Rolls.{behind}

-- what is left of a list, from a record that was read
pub drop_read : {X : Type 0} (xs : List X) (i : ℕ) (x : X) → i < length xs → x ≡ get_or xs i x → drop i xs ≡ x ∷ drop (i + 1) xs
drop_read xs i x l e = drop_more xs i x l ∙ ap (λ z. z ∷ drop (i + 1) xs) (sym e)

module _ {X : Type 0} (test : X → Bool) where
  pub behind_within : (xs : List X) → behind test xs ≤ length xs
  behind_within [] = omega arith
  behind_within (x ∷ xs) = let h = behind_within xs in elim (ltb 0 (behind test xs) || test x) as (λ b. cond b (1 + behind test xs) 0 ≤ length (x ∷ xs)) [ true ↦ omega arith | false ↦ omega arith ]
