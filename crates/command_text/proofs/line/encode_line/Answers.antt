-- A letter and its operands behind one another are the bytes of the line, and these are read as one command.
use Rattle.std.proofs.Common.{Ok, length, map, sym, ap, ◌∙◌, subst, arith, rules}
use Rattle.command.specs.Letters.{byte_of}
use Rattle.command.specs.Table.{total}
use Rattle.command_text.specs.Lines.{OneCommand, bytes_in}
use Rattle.command_text.proofs.Scan.{line_none, line_said, line_some, line_unsaid}
use Rattle.command_text.proofs.Whole.{length_operands, one_command}
use Rattle.command_text.proofs.line.encode_line.Goals as goal

pub returns-in_default-try_from-clause-value : goal.returns-in_default-try_from-clause-value
returns-in_default-try_from-clause-value c = line_unsaid c.args.text.now c.skip_blanks.result.now (omega arith) c.skip_blanks.ensures c.if-first-eq35.false c.in_default-try_from.ensures.1

pub returns-in-Ok-operands : goal.returns-in-Ok-operands
returns-in-Ok-operands c =
    let said = line_said c.args.text.now c.skip_blanks.result.now _ _ (omega arith) c.skip_blanks.ensures c.if-first-eq35.false c.in-Ok.ensures c.widths.ensures.value in
    let some = line_some (byte_of c.in-Ok.letter) c.append.new.bytes.items c.operands.new.out.items _ (total (map bytes_in c.widths.result.now)) (search rules) (length_operands _ _) c.in-Ok-operands.ensures in
    let list = c.deref-in-Ok-operands.ensures.0 in
    let same = ap Ok (c.of-in-Ok-operands.ensures.value ∙ list) ∙ (some.0 ∙ sym said) in
    record { value = same; within = omega (arith, ap length list, some.1, c.widths.ensures.room, c.of-in-Ok-operands.ensures.size); back = subst OneCommand (sym same) (one_command c.args.text.now) }

pub returns-in-Err-clause-value : goal.returns-in-Err-clause-value
returns-in-Err-clause-value c =
    let said = line_said c.args.text.now c.skip_blanks.result.now _ _ (omega arith) c.skip_blanks.ensures c.if-first-eq35.false c.in-Ok.ensures c.widths.ensures.value in
    let none = line_none (byte_of c.in-Ok.letter) _ c.operands.new.out.items _ _ c.in-Err.ensures ∙ sym said in
    let first = c.in-Ok.ensures in
    cc
