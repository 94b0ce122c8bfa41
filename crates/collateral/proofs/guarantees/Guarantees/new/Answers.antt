use Rattle.std.proofs.Common.{rules}
use Rattle.collateral.proofs.Runs.{runs_count}
use Rattle.collateral.proofs.guarantees.Guarantees.new.Goals as goal

pub returns : goal.returns
returns c = record { value = search rules; runs = runs_count }
