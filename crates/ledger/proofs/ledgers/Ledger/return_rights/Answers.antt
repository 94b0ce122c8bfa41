use Rattle.std.proofs.Common.{◌-◌, arith}
use Rattle.ledger.proofs.Within.{waits_within}
use Rattle.ledger.proofs.ledgers.Ledger.return_rights.Goals as goal

pub take_in-requires-clause-waiting : goal.take_in-requires-clause-waiting
take_in-requires-clause-waiting c =
    let s = c.requires.sound in
    let waits = waits_within c.args.self.now s.auctions s.rights (c.args.into.number - 1) (c.args.out.number - 1) (c.args.p.number - 1) (omega arith) in
    rw c.index.ensures.value (omega arith)
