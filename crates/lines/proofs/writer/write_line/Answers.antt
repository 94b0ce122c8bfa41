use Rattle.std.proofs.Common.{[], ◌∷◌, ◌++◌, arith, length-append, rules}
use Rattle.lines.specs.Lines.{line}
use Rattle.lines.specs.Page.{spaced}
use Rattle.lines.proofs.Lay.{laid_next, length_line}
use Rattle.lines.proofs.writer.write_line.Goals as goal

pub put_text-at-requires : goal.put_text-at-requires
put_text-at-requires c = search (rules, length_line)

pub put_text-at-requires-2 : goal.put_text-at-requires-2
put_text-at-requires-2 c = search (rules, length_line)

pub put_numbers-at-requires : goal.put_numbers-at-requires
put_numbers-at-requires c = search (rules, length_line)

pub put_text-requires : goal.put_text-requires
put_text-requires c = search (rules, length_line)

pub returns : goal.returns
unfolding line
returns c =
    let p = c.args.part.now in
    let w = c.args.word.now in
    let ns = spaced c.args.numbers.now in
    let all = length_line c.args.letter w c.args.numbers.now in
    let some = length-append w ns in
    let e1 = laid_next 0 (c.args.letter ∷ []) w p _ _ _ c.put_text-at.ensures.after c.put_text-at-2.ensures.after (omega arith) (omega arith) in
    let e2 = laid_next 0 (c.args.letter ∷ w) ns p _ _ _ e1 c.put_numbers-at.ensures.after (omega arith) (omega arith) in
    record { after = laid_next 0 (c.args.letter ∷ w ++ ns) (10 ∷ []) p _ _ _ e2 c.put_text.ensures.after (omega arith) (omega arith); value = omega arith }
