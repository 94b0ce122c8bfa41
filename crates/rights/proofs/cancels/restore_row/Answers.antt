use Rattle.std.proofs.Common.{◌+◌, ◌≤◌, get_or, arith, rules}
use Rattle.rights.proofs.Bounds.{one_le_sum}
use Rattle.rights.proofs.cancels.restore_row.Goals as goal

pub change_each-requires-clause-may : goal.change_each-requires-clause-may
change_each-requires-clause-may c i d e l =
    let sum : get_or c.args.row.now i d + get_or c.args.back.now i e ≤ 5000 = omega (arith, c.requires, one_le_sum c.args.row.now i d l, one_le_sum c.args.back.now i e (omega arith)) in
    search (rules, sum)
