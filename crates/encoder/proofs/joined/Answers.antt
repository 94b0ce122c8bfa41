use Rattle.std.proofs.Common.{arith, rules}
use Rattle.encoder.proofs.Written.{bytes_stay}
use Rattle.encoder.proofs.joined.Goals as goal

pub returns : goal.returns
returns c =
    let same = bytes_stay c.args.front.now (λ k. omega (arith, c.type_inv.front k)) in
    search rules
