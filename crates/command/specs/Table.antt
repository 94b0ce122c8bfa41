-- The table of the commands: each letter, the widths of its operands in bytes, and what they say.
use Rattle.std.specs.Prelude.{ℕ, zero, suc, ◌+◌, ◌*◌, ◌^◌, cond, List, [], ◌∷◌, take, drop, codes, ◌==◌, slice_index}
use Prim.Native.String.{String}
use Rattle.command.specs.Meaning.{Meaning, adds, withdraws, opens, bids, seals, awards, cancels, transfers, gives_back, curtails, invoices, pays, draws, pays_out, moves_day}

-- `says n b`, where `n k` is operand k as a number, and `b k` its bytes
pub record Row : Type 0 where
  pub letter : ℕ
  pub widths : List ℕ
  pub says : (ℕ → ℕ) → (ℕ → List ℕ) → Meaning

-- the byte of a letter
abbrev pub byte : String → ℕ
byte l = slice_index (codes l) 0

abbrev row : String → List ℕ → ((ℕ → ℕ) → (ℕ → List ℕ) → Meaning) → Row
row l ws f = record { letter = byte l; widths = ws; says = f }

abbrev pub table : List Row
table =
    row "D" (1 ∷ 1 ∷ 8 ∷ 2 ∷ []) (λ n b. adds (n 0) (n 1) (n 2) (n 3))
    ∷ row "W" (1 ∷ 8 ∷ []) (λ n b. withdraws (n 0) (n 1))
    ∷ row "O" (1 ∷ 1 ∷ 1 ∷ 1 ∷ 2 ∷ []) (λ n b. opens (n 0) (n 1) (n 2) (n 3) (n 4))
    ∷ row "B" (1 ∷ 1 ∷ 4 ∷ 2 ∷ []) (λ n b. bids (n 0) (n 1) (n 2) (n 3))
    ∷ row "S" (1 ∷ []) (λ n b. seals (n 0))
    ∷ row "A" (1 ∷ []) (λ n b. awards (n 0))
    ∷ row "X" (1 ∷ []) (λ n b. cancels (n 0))
    ∷ row "T" (1 ∷ 1 ∷ 1 ∷ 1 ∷ 1 ∷ 2 ∷ []) (λ n b. transfers (n 0) (n 1) (n 2) (n 3) (n 4) (n 5))
    ∷ row "R" (1 ∷ 1 ∷ 1 ∷ 2 ∷ []) (λ n b. gives_back (n 0) (n 1) (n 2) (n 3))
    ∷ row "C" (1 ∷ 1 ∷ 1 ∷ 48 ∷ []) (λ n b. curtails (n 0) (n 1) (n 2) (b 3))
    ∷ row "I" (1 ∷ []) (λ n b. invoices (n 0))
    ∷ row "M" (1 ∷ 8 ∷ []) (λ n b. pays (n 0) (n 1))
    ∷ row "K" (1 ∷ []) (λ n b. draws (n 0))
    ∷ row "Q" (1 ∷ []) (λ n b. pays_out (n 0))
    ∷ row "N" (2 ∷ []) (λ n b. moves_day (n 0))
    ∷ []

-- the letter of a command
abbrev pub letter_of : Meaning → ℕ
letter_of (adds p kind sum last) = byte "D"
letter_of (withdraws p sum) = byte "W"
letter_of (opens from to first hours capacity) = byte "O"
letter_of (bids p a price mw) = byte "B"
letter_of (seals a) = byte "S"
letter_of (awards a) = byte "A"
letter_of (cancels a) = byte "X"
letter_of (transfers giver taker a first hours mw) = byte "T"
letter_of (gives_back p out into mw) = byte "R"
letter_of (curtails from to first limits) = byte "C"
letter_of (invoices p) = byte "I"
letter_of (pays p sum) = byte "M"
letter_of (draws p) = byte "K"
letter_of (pays_out p) = byte "Q"
letter_of (moves_day day) = byte "N"

abbrev row_in : List Row → ℕ → Row
row_in [] l = row "" [] (λ n b. moves_day 0)
row_in (r ∷ rs) l = cond (l == r.letter) r (row_in rs l)

-- the row of a letter of the table
abbrev pub row_of : ℕ → Row
row_of l = row_in table l

-- the number in the w bytes from `at`, most significant byte first
abbrev pub number_at : List ℕ → ℕ → ℕ → ℕ
number_at s at zero = 0
number_at s at (suc w) = slice_index s at * 256 ^ w + number_at s (suc at) w

-- the w bytes from `at`
unfoldable pub part : ℕ → ℕ → List ℕ → List ℕ
part at w s = take w (drop at s)

-- where operand k begins, if the operands of these widths begin at `at`; and its width
abbrev pub begins : List ℕ → ℕ → ℕ → ℕ
begins [] at k = at
begins (w ∷ ws) at zero = at
begins (w ∷ ws) at (suc k) = begins ws (at + w) k

abbrev pub total : List ℕ → ℕ
total [] = 0
total (w ∷ ws) = w + total ws
