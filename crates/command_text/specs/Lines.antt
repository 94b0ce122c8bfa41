-- A line of text: a letter of the table, and a number for each of its operands.
use Rattle.std.specs.Prelude.{◌≡◌, ℕ, ◌^◌, ◌<◌, Bool, true, cond, ◌&&◌, List, [], ◌∷◌, ◌++◌, take, replicate, Some, None, Ok, Err, Option, Result, ◌==◌, nat_lt}
use Rattle.command.specs.Meaning.{Meaning}
use Rattle.command.specs.Table.{Row, byte, table}
use Rattle.encoder.specs.Encoding.{ReadsBack, big_endian}
use Rattle.command_text.specs.Words.{past_blanks, past_digits, starts_digit, value_on}
use Rattle.command_text.specs.declared.line.Expected.{Expected}
use Rattle.command_text.specs.declared.line.Expected.TheVariants.{Letter, Operands}
use Rattle.command_text.specs.declared.packet.Packet.{Packet}
use Rattle.command_text.specs.declared.widths.Unsaid.{Unsaid}
use Rattle.command_text.specs.declared.widths.Width.{Width}
use Rattle.command_text.specs.declared.widths.Width.TheVariants.{Byte, Pair, Quad, Sum}

abbrev pub bytes_in : Width → ℕ
bytes_in Byte = 1
bytes_in Pair = 2
bytes_in Quad = 4
bytes_in Sum = 8

-- the 48 bytes of the limits are said as 24 numbers of two bytes
abbrev pub in_text : List ℕ → List ℕ
in_text [] = []
in_text (w ∷ ws) = cond (w == 48) (replicate 24 2) (w ∷ []) ++ in_text ws

abbrev pub said_in : List Row → ℕ → Option (List ℕ)
said_in [] l = None
said_in (r ∷ rs) l = cond (l == r.letter) (Some (in_text r.widths)) (said_in rs l)

-- the widths of the numbers that a line says behind a letter, if the table has it
abbrev pub said : ℕ → Option (List ℕ)
said l = said_in table l

-- nothing is said from here on: the line ends, or a comment begins
abbrev pub ends : List ℕ → Bool
ends [] = true
ends (b ∷ bs) = b == (byte "#")

abbrev pub behind : List ℕ → Option (List ℕ) → Option (List ℕ)
behind t None = None
behind t (Some u) = Some (t ++ u)

-- a number that fits the width w, and what `more` makes of the text behind it
abbrev pub one_operand : ℕ → List ℕ → (List ℕ → Option (List ℕ)) → Option (List ℕ)
one_operand w s more =
    cond (starts_digit s && nat_lt (value_on 0 s) (256 ^ w)) (behind (big_endian w (value_on 0 s)) (more (past_digits s))) None

-- the bytes of operands of these widths, each said in decimal behind blanks, with nothing said behind the last
abbrev pub operand_bytes : List ℕ → List ℕ → Option (List ℕ)
operand_bytes [] text = cond (ends (past_blanks text)) (Some []) None
operand_bytes (w ∷ ws) text = one_operand w (past_blanks text) (λ s. operand_bytes ws s)

-- the letter, and its operands if they could be read
abbrev pub by_operands : ℕ → Option (List ℕ) → Result (List ℕ) Expected
by_operands l None = Err (Operands l)
by_operands l (Some t) = Ok (l ∷ t)

-- the operands in the widths of the letter, if it has any
abbrev pub by_widths : ℕ → List ℕ → Option (List ℕ) → Result (List ℕ) Expected
by_widths l text None = Err Letter
by_widths l text (Some ws) = by_operands l (operand_bytes ws text)

-- the first word is a letter, unless the line ends or a comment begins
abbrev pub from_word : List ℕ → Result (List ℕ) Expected
from_word [] = Ok []
from_word (l ∷ text) = cond (l == (byte "#")) (Ok []) (by_widths l text (said l))

-- the bytes of the command that a line says; a blank line or a comment has none
abbrev pub line_bytes : List ℕ → Result (List ℕ) Expected
line_bytes text = from_word (past_blanks text)

-- what the answer stands for
abbrev pub packet_of : Result Packet Expected → Result (List ℕ) Expected
packet_of (Ok p) = Ok (take p.size p.bytes)
packet_of (Err e) = Err e

-- how many bytes the answer has
abbrev pub size_of : Result Packet Expected → ℕ
size_of (Ok p) = p.size
size_of (Err e) = 0

-- a number that fits w bytes stands behind those before it
abbrev pub Packed : ℕ → ℕ → List ℕ → Result (Unit {0}) Unsaid → List ℕ → Type 0
Packed w n out (Err e) out' = n < 256 ^ w → ⊥
Packed w n out (Ok done) out' = (n < 256 ^ w) × (out' ≡ out ++ big_endian w n)

-- the bytes, if there are any, stand behind those before them
abbrev pub Scanned : Option (List ℕ) → List ℕ → Result (Unit {0}) Unsaid → List ℕ → Type 0
Scanned None out (Err e) out' = Unit {0}
Scanned None out (Ok done) out' = ⊥
Scanned (Some t) out (Err e) out' = ⊥
Scanned (Some t) out (Ok done) out' = out' ≡ out ++ t

-- these bytes are those of a command: wherever they stand, and whatever follows them, they are read as it, up to their end
abbrev pub OneCommand : Result (List ℕ) Expected → Type 0
OneCommand (Err e) = Unit {0}
OneCommand (Ok []) = Unit {0}
OneCommand (Ok (l ∷ t)) = (m : Meaning) × ReadsBack m (l ∷ t)
