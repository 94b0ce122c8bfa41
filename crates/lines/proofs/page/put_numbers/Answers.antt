use Rattle.std.proofs.Common.{◌<◌, length, arith, length-append, rules}
use Rattle.std.proofs.lemmas.List.{take_all}
use Rattle.lines.proofs.Lay.{laid_none, laid_next, spaced_more, spaced_room}
use Rattle.lines.proofs.page.put_numbers.Goals as goal

pub loop-n-init : goal.loop-n-init
loop-n-init c = search (rules, laid_none)

pub put_spaced-end-requires : goal.put_spaced-end-requires
put_spaced-end-requires c = search (rules, spaced_room)

pub loop-n-preserved : goal.loop-n-preserved
loop-n-preserved c =
    let h : c.loop-n.n-index < length c.args.numbers.now = omega arith in
    let room = spaced_room c.args.numbers.now c.loop-n.n-index h in
    rw (spaced_more c.args.numbers.now c.loop-n.n-index h) (
      laid_next _ _ _ _ _ _ _ c.loop-n.invariant.0 c.put_spaced-end.ensures.after c.loop-n.invariant.1 (omega arith),
      simp length-append (omega arith),
    )

pub returns : goal.returns
returns c = search (rules, take_all)
