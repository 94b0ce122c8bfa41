-- How long a line can be.
use Rattle.std.proofs.Common.{ℕ, ◌*◌, ◌^◌, ◌<◌, ◌≤◌, List, [], ◌∷◌, length, Some, None, codes, arith, length-append}
use Rattle.std.proofs.lemmas.Fmt.{length-decimal-le}
use Rattle.lines.specs.declared.writer.Line.{Line}
use Rattle.lines.specs.declared.writer.Numbers.{Numbers}
use Rattle.lines.specs.declared.writer.Numbers.TheVariants.{Empty, One, Two, Three}
use Rattle.lines.specs.declared.writer.Line.TheVariants.{Granted, Refused, Unread}
use Rattle.command.specs.declared.unreadable.Unreadable.{Unreadable}
use Rattle.command.specs.declared.unreadable.Unreadable.TheVariants.{UnknownLetter, CutShort, LongFile, PageEnd}
use Rattle.lines.specs.Lines.{Modest, all_below, numbers_in, text_of}
use Rattle.lines.specs.Page.{spaced}
use Rattle.command.specs.Unreadable.{number_of}
use Rattle.lines.proofs.Lay.{length_line}

numbers_room : (ns : List ℕ) → all_below (10 ^ 18) ns → length (spaced ns) ≤ 19 * length ns
numbers_room [] h = omega arith
numbers_room (n ∷ ns) h =
    let d = length-decimal-le 18 n (omega arith) h.0 (omega (arith, h.0)) in
    let r = numbers_room ns h.1 in
    simp length-append (omega arith)

at_most_three : (a : Numbers) → length (numbers_in a) ≤ 3
at_most_three Empty = omega arith
at_most_three (One a) = omega arith
at_most_three (Two a b) = omega arith
at_most_three (Three a b c) = omega arith

number_small : (r : Unreadable) → number_of r < 2 ^ 8
number_small UnknownLetter = omega arith
number_small CutShort = omega arith
number_small LongFile = omega arith
number_small PageEnd = omega arith

-- a line of a refusal is short; one of an answer has at most three numbers of 18 digits, each after a space
pub line_room : (l : Line) → Modest l → length (text_of l) ≤ 62
line_room (Granted letter answer) h =
    let r = numbers_room (numbers_in answer) h in
    let few = at_most_three answer in
    rw (length_line letter (codes " ok") (numbers_in answer)) (omega arith)
line_room (Refused letter n None) h =
    let d = length-decimal-le 3 n (omega arith) (omega (arith, h.0)) (omega (arith, h.0)) in
    rw (length_line letter (codes " no") (n ∷ [])) (simp length-append (omega arith))
line_room (Refused letter n (Some cause)) h =
    let d = length-decimal-le 3 n (omega arith) (omega (arith, h.0)) (omega (arith, h.0)) in
    let e = length-decimal-le 3 cause (omega arith) (omega (arith, h.1.0)) (omega (arith, h.1.0)) in
    rw (length_line letter (codes " no") (n ∷ cause ∷ [])) (simp length-append (omega arith))
line_room (Unread refusal place) h =
    let s = number_small refusal in
    let d = length-decimal-le 3 (number_of refusal) (omega arith) (omega arith) (omega arith) in
    let e = length-decimal-le 20 place (omega arith) (omega arith) h in
    rw (length_line 63 [] (number_of refusal ∷ place ∷ [])) (simp length-append (omega arith))
