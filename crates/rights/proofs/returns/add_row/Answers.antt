use Rattle.std.proofs.Common.{◌≡◌, ◌+◌, subst, sym, arith, rules}
use Rattle.roll.specs.Rows.{each_with}
use Rattle.rights.specs.Bounds.{AtMost}
use Rattle.rights.proofs.Bounds.{added_at_most}
use Rattle.rights.proofs.returns.add_row.Goals as goal

pub returns-clause-within : goal.returns-clause-within
returns-clause-within c m h =
    let value : c.change_each.new.xs ≡ each_with (λ mw sum. sum + mw) c.args.row.now c.args.sums.now = search rules in
    subst (AtMost (m + 65535)) (sym value) (added_at_most m 65535 c.args.row.now c.args.sums.now (λ p. omega (arith, c.fits-row p)) h)
