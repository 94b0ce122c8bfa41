-- How a command is read off the bytes of the input.
use Rattle.std.specs.Prelude.{◌≡◌, ℕ, ◌+◌, ◌-◌, ◌<◌, ◌≤◌, cond, List, [], ◌∷◌, length, drop, Some, None, Ok, Err, Option, Result, ◌==◌, nat_le, slice_index}
use Rattle.command.specs.declared.commands.Command.{Command}
use Rattle.command.specs.declared.reader.Found.{Found}
use Rattle.command.specs.declared.reader.Taken.{Taken}
use Rattle.command.specs.declared.unreadable.Unreadable.{Unreadable}
use Rattle.command.specs.declared.unreadable.Unreadable.TheVariants.{UnknownLetter, CutShort}
use Rattle.command.specs.Meaning.{Meaning, meaning_of}
use Rattle.command.specs.Table.{Row, table, number_at, part, begins, total}

-- what was read, and how many bytes it took
pub record Read : Type 0 where
  pub meaning : Meaning
  pub bytes : ℕ

-- what was taken off the front of these bytes
abbrev pub taken_as : List ℕ → Result Taken Unreadable → Result Read Unreadable
taken_as s (Ok t) = Ok (record { meaning = meaning_of t.command; bytes = length s - length t.rest.now })
taken_as s (Err e) = Err e

-- a letter and its operands, if the input has them whole
abbrev pub whole : Row → List ℕ → Result Read Unreadable
whole r s =
    cond (nat_le (1 + total r.widths) (length s))
    (Ok (record { meaning = r.says (λ k. number_at s (begins r.widths 1 k) (slice_index r.widths k)) (λ k. part (begins r.widths 1 k) (slice_index r.widths k) s); bytes = 1 + total r.widths }))
    (Err CutShort)

-- a command made of operands of these widths, if the input has them whole; `made n` is said of it, where `n k` is operand k
abbrev pub TakenBy : List ℕ → ((ℕ → ℕ) → Command → Type 0) → List ℕ → Result Taken Unreadable → Type 0
TakenBy ws made s (Ok t) =
    (1 + total ws ≤ length s) × made (λ k. number_at s (begins ws 1 k) (slice_index ws k)) t.command × (length t.rest.now + (1 + total ws) ≡ length s)
TakenBy ws made s (Err e) = (length s < 1 + total ws) × (e ≡ CutShort)

abbrev pub by_rows : List Row → ℕ → List ℕ → Result Read Unreadable
by_rows [] l s = Err UnknownLetter
by_rows (r ∷ rs) l s = cond (l == r.letter) (whole r s) (by_rows rs l s)

-- a letter that no row has is unknown
abbrev pub by_letter : ℕ → List ℕ → Result Read Unreadable
by_letter l s = by_rows table l s

-- a command, and the place behind it
pub record Understood : Type 0 where
  pub meaning : Meaning
  pub next : ℕ

abbrev pub from_place : ℕ → Result Read Unreadable → Result Understood Unreadable
from_place place (Ok r) = Ok (record { meaning = r.meaning; next = place + r.bytes })
from_place place (Err e) = Err e

-- at the end of the input, and past it, there is no command
abbrev pub reading : List ℕ → ℕ → Option (Result Understood Unreadable)
reading input place =
    cond (nat_le (length input) place) None
    (Some (from_place place (by_letter (slice_index input place) (drop place input))))

-- what the reader's answer stands for
abbrev pub understood : Option (Result Found Unreadable) → Option (Result Understood Unreadable)
understood None = None
understood (Some (Ok f)) = Some (Ok (record { meaning = meaning_of f.command; next = f.next }))
understood (Some (Err e)) = Some (Err e)

-- a command takes at least one byte, and ends within the input
abbrev pub Onward : ℕ → ℕ → Option (Result Understood Unreadable) → Type 0
Onward place end None = Unit {0}
Onward place end (Some (Ok u)) = (place < u.next) × (u.next ≤ end)
Onward place end (Some (Err e)) = Unit {0}
