use Rattle.std.proofs.Common.{◌^◌, ◌≤◌, arith}
use Rattle.command_text.specs.Words.{value_on}
use Rattle.command_text.proofs.Fronts.{grows_past}
use Rattle.command_text.proofs.words.number.Goals as goal

-- a number that passes 64 bits does not come below again
pub returns-in_err-value : goal.returns-in_err-value
returns-in_err-value c =
    let more = grows_past c.loop-rest.rest.now c.loop-rest.value (omega arith) (omega arith) (omega arith) in
    let all = c.loop-rest.invariant.1 in
    let past : 2 ^ 64 ≤ value_on 0 c.args.text.now = omega (arith, c.in_err-value.ensures) in
    rw c.from_residual.ensures (λ _. past)
