-- Blanks and numbers at the front of a text.
use Rattle.std.specs.Prelude.{◌≡◌, ℕ, ◌+◌, ◌-◌, ◌*◌, ◌^◌, ◌≤◌, Bool, true, false, cond, ◌&&◌, ◌||◌, List, [], ◌∷◌, Some, None, Option, ◌==◌, nat_le}
use Rattle.std.specs.Borrow.{Bor}

-- a space, a tab or a carriage return
abbrev pub blank : ℕ → Bool
blank b = b == 32 || (b == 9 || b == 13)

abbrev pub past_blanks : List ℕ → List ℕ
past_blanks [] = []
past_blanks (b ∷ bs) = cond (blank b) (past_blanks bs) (b ∷ bs)

abbrev pub digit : ℕ → Bool
digit b = nat_le 48 b && nat_le b 57

-- the number that the digits at the front make behind those that make n, and what stands behind them
abbrev pub value_on : ℕ → List ℕ → ℕ
value_on n [] = n
value_on n (b ∷ bs) = cond (digit b) (value_on (n * 10 + (b - 48)) bs) n

abbrev pub past_digits : List ℕ → List ℕ
past_digits [] = []
past_digits (b ∷ bs) = cond (digit b) (past_digits bs) (b ∷ bs)

abbrev pub starts_digit : List ℕ → Bool
starts_digit [] = false
starts_digit (b ∷ bs) = digit b

-- a number is read if it has a digit and is below 2^64
pub record Numeral (s : List ℕ) (n : ℕ) (rest : List ℕ) : Type 0 where
  pub some : starts_digit s ≡ true
  pub value : n ≡ value_on 0 s
  pub behind : rest ≡ past_digits s

abbrev pub Number : List ℕ → Option (ℕ × Bor (List ℕ)) → Type 0
Number s None = starts_digit s ≡ true → 2 ^ 64 ≤ value_on 0 s
Number s (Some x) = Numeral s x.0 x.1.now
