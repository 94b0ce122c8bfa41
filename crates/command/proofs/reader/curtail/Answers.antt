-- The limits are the 48 bytes behind the letter and three operands.
use Rattle.std.proofs.Common.{◌≡◌, length, take, ap, ◌∙◌, arith, length-drop, length-take, rules}
use Rattle.std.proofs.lemmas.Slice.{between_to_end}
use Rattle.command.specs.Table.{part}
use Rattle.command.proofs.reader.curtail.Goals as goal

pub returns : goal.returns
unfolding part
returns c =
    let s = c.args.input.now in
    let h = c.in-Some.ensures.cases in
    let same : c.in-Some.limits.now ≡ part 4 48 s = h.0 ∙ ap (take 48) (between_to_end s 4 (length s) (omega arith)) in
    let size = simp (length-take, length-drop) at h.2 in
    search rules
