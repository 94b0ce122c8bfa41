use Rattle.std.proofs.Common.{◌+◌, rules}
use Rattle.ledger.specs.Limits.{credit_limit}
use Rattle.roll.proofs.Chains.{made}
use Rattle.book.proofs.books.Book.limits.Goals as goal

pub returns : goal.returns
returns g c = made _ (λ i. credit_limit c.args.self.now.ledger (g.C.Collateral.cover c.args.self.now.collateral) (i + 1)) _ (λ i r q k. search rules) c.from_fn.result 12 0 c.from_fn.ensures.items
