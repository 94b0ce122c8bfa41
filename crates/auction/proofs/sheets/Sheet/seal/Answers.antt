use Rattle.std.proofs.Common.{◌≡◌, List, sym, subst}
use Rattle.auction.specs.declared.bids.Bid.{Bid}
use Rattle.auction.specs.declared.products.Product.{Product}
use Rattle.auction.specs.declared.sheets.Sheet.{Sheet}
use Rattle.auction.specs.Bids.{bids_of}
use Rattle.auction.specs.Charge.{worst_charge}
use Rattle.auction.specs.Seal.{kept_count, kept_front, LongestFront}
use Rattle.auction.proofs.Settled.{worst_enough}
use Rattle.auction.proofs.Rivals.{worst_exact}
use Rattle.auction.proofs.Fronts.{longest_front, rightly_left_out}
use Rattle.auction.proofs.sheets.Sheet.seal.Goals as goal

pub returns : goal.returns
returns c =
    let s : Sheet = c.args.self.now in
    let d : Product = c.args.product in
    let front : List Bid = kept_front c.args.limit d (bids_of s) in
    let k : c.kept_count-self.result ≡ kept_count c.args.limit d (bids_of s) = cc in
    let w : c.worst_charge-self.result ≡ worst_charge d front = cc in
    record {
      after = cc;
      longest = subst (LongestFront c.args.limit d (bids_of s)) (sym k) (longest_front c.args.limit d (bids_of s));
      enough = rw (k, w) (worst_enough d front);
      exact = rw (k, w) (worst_exact d front);
      rightly = rightly_left_out c.args.limit d (bids_of s);
    }
