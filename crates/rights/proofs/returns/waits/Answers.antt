use Rattle.std.proofs.Common.{◌+◌, ◌*◌, [], get_or, replicate, sym, ap, ◌∙◌, arith}
use Rattle.roll.specs.Rows.{each_with}
use Rattle.rights.proofs.Pairs.{waits_more}
use Rattle.rights.proofs.returns.waits.Goals as goal

pub loop-row-preserved : goal.loop-row-preserved
loop-row-preserved c = (
  omega arith,
  c.add_row.ensures.value ∙ ap (each_with (λ mw sum. sum + mw) (get_or c.args.waiting.now.rows c.loop-row.row-index [])) c.loop-row.invariant.1 ∙ sym (waits_more c.args.waiting.now.rows (replicate 12 0) c.loop-row.row-index (omega arith)),
  λ p. omega (arith, c.add_row.ensures.within (65535 * c.loop-row.row-index) c.loop-row.invariant.2 p),
)
