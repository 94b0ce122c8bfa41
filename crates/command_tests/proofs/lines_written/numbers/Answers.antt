-- The texts are as long as the rules say.
use Rattle.std.proofs.Common.{arith, length-append}
use Rattle.std.proofs.lemmas.Fmt.{length-decimal-le}
use Rattle.lines.specs.Lines.{line}
use Rattle.command_tests.proofs.lines_written.numbers.Goals as goal

pub says-requires : goal.says-requires
unfolding line
says-requires g c =
    let d0 = length-decimal-le 1 0 (omega arith) (omega arith) (omega arith) in
    (simp length-append (omega arith), omega arith)

pub says-requires-2 : goal.says-requires-2
unfolding line
says-requires-2 g c =
    let d0 = length-decimal-le 1 9 (omega arith) (omega arith) (omega arith) in
    let d1 = length-decimal-le 2 10 (omega arith) (omega arith) (omega arith) in
    (simp length-append (omega arith), omega arith)

pub says-requires-3 : goal.says-requires-3
unfolding line
says-requires-3 g c =
    let d0 = length-decimal-le 1 1 (omega arith) (omega arith) (omega arith) in
    let d1 = length-decimal-le 13 1000000000000 (omega arith) (omega arith) (omega arith) in
    let d2 = length-decimal-le 18 999999999999999999 (omega arith) (omega arith) (omega arith) in
    (simp length-append (omega arith), omega arith)

pub says-requires-4 : goal.says-requires-4
unfolding line
says-requires-4 g c = (omega arith, omega arith)
