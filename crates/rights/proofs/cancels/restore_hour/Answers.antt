use Rattle.std.proofs.Common.{◌+◌, ap}
use Rattle.roll.specs.Rows.{each_with}
use Rattle.rights.specs.declared.hours.Hour.{Hour}
use Rattle.rights.proofs.cancels.restore_hour.Goals as goal

pub returns : goal.returns
returns c = ap {B = Hour} (λ rows. record { rows = rows }) (c.change_each.ensures (each_with (λ more mw. mw + more)) (λ row back after is. is))
