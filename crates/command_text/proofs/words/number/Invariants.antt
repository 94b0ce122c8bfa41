use Rattle.std.proofs.Common.{◌≡◌, true, length}
use Rattle.command_text.specs.Words.{past_digits, starts_digit, value_on}
use Rattle.command_text.proofs.words.number.Given as goal

abbrev pub invariant-loop-rest : goal.invariant-loop-rest
invariant-loop-rest l =
    (starts_digit l.fn.text ≡ true)
    × (value_on l.value l.rest ≡ value_on 0 l.fn.text)
    × (past_digits l.rest ≡ past_digits l.fn.text)

abbrev pub decreases-loop-rest : goal.decreases-loop-rest
decreases-loop-rest l = length l.rest
