-- A number with more digits is no less.
use Rattle.std.proofs.Common.{◌≡◌, ℕ, ◌+◌, ◌-◌, ◌*◌, ◌<◌, ◌≤◌, true, ◌&&◌, leb, List, [], ◌∷◌, length, get_or, ap, ◌∙◌, le-leb, arith}
use Rattle.std.proofs.lemmas.Bool.{cond_both}
use Rattle.command_text.specs.Words.{digit, value_on}

pub grows : (s : List ℕ) (n : ℕ) → n ≤ value_on n s
grows [] n = omega arith
grows (b ∷ bs) n = let k = grows bs (n * 10 + (b - 48)) in cond_both (digit b) _ _ (λ x. n ≤ x) (λ _. omega arith) (λ _. omega arith)

digit_true : (b : ℕ) → 48 ≤ b → b ≤ 57 → digit b ≡ true
digit_true b h k = ap (λ c. c && leb b 57) (le-leb 48 b h) ∙ le-leb b 57 k

-- so it is past 64 bits if its first digits are
pub grows_past : (s : List ℕ) (n : ℕ) → 0 < length s → 48 ≤ get_or s 0 0 → get_or s 0 0 ≤ 57 → n * 10 + (get_or s 0 0 - 48) ≤ value_on n s
grows_past [] n h d e = let none : ⊥ = omega arith in absurd none
grows_past (b ∷ bs) n h d e = let k = grows bs (n * 10 + (b - 48)) in rw (digit_true b d e) k
