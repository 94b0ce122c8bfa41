-- A command as bytes: its letter, and each operand in the bytes of its width.
use Rattle.std.specs.Prelude.{◌≡◌, ℕ, zero, suc, ◌+◌, ◌/◌, ◌%◌, ◌^◌, ◌<◌, ◌≤◌, List, [], ◌∷◌, ◌++◌, length, Some, Ok}
use Rattle.command.specs.Meaning.{Meaning, adds, withdraws, opens, bids, seals, awards, cancels, transfers, gives_back, curtails, invoices, pays, draws, pays_out, moves_day}
use Rattle.command.specs.Table.{letter_of, row_of, total}
use Rattle.command.specs.Reading.{reading}

-- the operands that are numbers, in the table's order
abbrev pub operands_of : Meaning → List ℕ
operands_of (adds p kind sum last) = p ∷ kind ∷ sum ∷ last ∷ []
operands_of (withdraws p sum) = p ∷ sum ∷ []
operands_of (opens from to first hours capacity) = from ∷ to ∷ first ∷ hours ∷ capacity ∷ []
operands_of (bids p a price mw) = p ∷ a ∷ price ∷ mw ∷ []
operands_of (seals a) = a ∷ []
operands_of (awards a) = a ∷ []
operands_of (cancels a) = a ∷ []
operands_of (transfers giver taker a first hours mw) = giver ∷ taker ∷ a ∷ first ∷ hours ∷ mw ∷ []
operands_of (gives_back p out into mw) = p ∷ out ∷ into ∷ mw ∷ []
operands_of (curtails from to first limits) = from ∷ to ∷ first ∷ []
operands_of (invoices p) = p ∷ []
operands_of (pays p sum) = p ∷ sum ∷ []
operands_of (draws p) = p ∷ []
operands_of (pays_out p) = p ∷ []
operands_of (moves_day day) = day ∷ []

-- the limits of a curtailment stand behind its numbers as they are
abbrev pub limits_of : Meaning → List ℕ
limits_of (adds p kind sum last) = []
limits_of (withdraws p sum) = []
limits_of (opens from to first hours capacity) = []
limits_of (bids p a price mw) = []
limits_of (seals a) = []
limits_of (awards a) = []
limits_of (cancels a) = []
limits_of (transfers giver taker a first hours mw) = []
limits_of (gives_back p out into mw) = []
limits_of (curtails from to first limits) = limits
limits_of (invoices p) = []
limits_of (pays p sum) = []
limits_of (draws p) = []
limits_of (pays_out p) = []
limits_of (moves_day day) = []

-- a number in w bytes, most significant byte first
abbrev pub big_endian : ℕ → ℕ → List ℕ
big_endian zero n = []
big_endian (suc zero) n = n % 256 ∷ []
big_endian (suc (suc w)) n = n / 256 ^ suc w % 256 ∷ big_endian (suc w) n

abbrev pub one_byte_each : List ℕ → List ℕ
one_byte_each [] = []
one_byte_each (n ∷ ns) = big_endian 1 n ++ one_byte_each ns

-- each number in its width
abbrev pub packed : List ℕ → List ℕ → List ℕ
packed [] ns = []
packed (w ∷ ws) [] = []
packed (w ∷ ws) (n ∷ ns) = big_endian w n ++ packed ws ns

-- the widths that the table gives to a letter
abbrev pub widths_of : ℕ → List ℕ
widths_of l = (row_of l).widths

abbrev pub operand_bytes : Meaning → List ℕ
operand_bytes m = packed (widths_of (letter_of m)) (operands_of m) ++ limits_of m

unfoldable pub encoding : Meaning → List ℕ
encoding m = letter_of m ∷ operand_bytes m

-- each number fits its width
abbrev pub Fit : List ℕ → List ℕ → Type 0
Fit ws [] = Unit {0}
Fit [] (n ∷ ns) = ⊥
Fit (w ∷ ws) (n ∷ ns) = (n < 256 ^ w) × Fit ws ns

-- each operand fits its width, the limits of a curtailment too
abbrev pub Fitting : Meaning → Type 0
Fitting m = Fit (widths_of (letter_of m)) (operands_of m) × (length (operand_bytes m) ≡ total (widths_of (letter_of m)))

-- wherever these bytes stand, and whatever follows them, they are read as this command
abbrev pub ReadsBack : Meaning → List ℕ → Type 0
ReadsBack m bytes =
    (before rest : List ℕ) →
    reading (before ++ (bytes ++ rest)) (length before) ≡ Some (Ok (record { meaning = m; next = length before + length bytes }))

-- these are the bytes of a command; they have room, and are read as it
pub record Encoded (m : Meaning) (bytes : List ℕ) : Type 0 where
  pub value : bytes ≡ encoding m
  pub within : length bytes ≤ 52
  pub back : ReadsBack m bytes
