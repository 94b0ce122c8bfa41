use Rattle.std.proofs.Common.{◌≡◌, sym, subst}
use Rattle.auction.specs.Bids.{bids_of}
use Rattle.auction.specs.Charge.{worst_charge}
use Rattle.auction.specs.Rivals.{PaysAtMost, MadeToPay}
use Rattle.auction.proofs.Settled.{worst_enough}
use Rattle.auction.proofs.Rivals.{worst_exact}
use Rattle.auction.proofs.sheets.Sheet.worst_charge.Goals as goal

pub returns : goal.returns
returns c =
    let e : c.worst_charge.result ≡ worst_charge c.args.product (bids_of c.args.self.now) = cc in
    record {
      value = e;
      enough = subst (PaysAtMost c.args.product (bids_of c.args.self.now)) (sym e) (worst_enough c.args.product (bids_of c.args.self.now));
      exact = subst (MadeToPay c.args.product (bids_of c.args.self.now)) (sym e) (worst_exact c.args.product (bids_of c.args.self.now));
    }
