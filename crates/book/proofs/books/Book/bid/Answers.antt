use Rattle.std.proofs.Common.{◌≡◌, ◌+◌, true, cond, Ok, sym, refl, ap, ◌∙◌, arith}
use Rattle.std.proofs.lemmas.Bool.Decides.{nat_tests}
use Rattle.auction.specs.Bids.{bids_of, with_bid}
use Rattle.auction.specs.Charge.{worst_charge}
use Rattle.auction.specs.declared.bids.Bid.{Bid}
use Rattle.ledger.specs.Auctions.{is_open}
use Rattle.ledger.specs.Ledgers.{auction_at, sheet_at}
use Rattle.ledger.specs.Stages.{bid_placed}
use Rattle.ledger.specs.declared.auctions.Auction.{Auction}
use Rattle.ledger.specs.declared.ledgers.Ledger.{Ledger}
use Rattle.ledger.proofs.Kept.{bid_shows, receipts_few}
use Rattle.ledger.proofs.Once.{sound_held}
use Rattle.ledger.proofs.Sounds.{sound_bid}
use Rattle.rules.specs.declared.answers.Receipt.{Receipt}
use Rattle.rules.specs.Steps.{bid_of, bid_table}
use Rattle.rules.specs.Tables.{passes}
use Rattle.book.proofs.Again.{again, opened_of}
use Rattle.rules.proofs.Granted.{an_auction, granted_value, open_if}
use Rattle.book.proofs.books.Book.bid.Goals as goal

pub bid-requires-clause-receipts : goal.bid-requires-clause-receipts
bid-requires-clause-receipts g c = omega (arith, receipts_few c.args.self.now.ledger (sound_held c.args.self.now.sound).auctions)

pub invariant_of-self : goal.invariant_of-self
invariant_of-self g c =
    let e = c.auction.ensures in
    let f = c.sheet.ensures in
    let entered : is_open (auction_at c.args.self.now.ledger c.in_ok-a.a.number).stage ≡ true = sym c.is_open.ensures ∙ c.if-not-is_open.false in record {
      sound = again c.bid.new.self c.bid.ensures
          (sound_bid c.in_ok-p.p.number c.in_ok-a.a.number (bid_of c.args.price c.args.mw) c.args.self.now.ledger (sound_held c.args.self.now.sound) (omega arith) (omega arith) (omega arith) (opened_of c.in_ok-a.a.number c.args.a c.args.self.now.ledger c.in_ok-a.ensures.ok.0 c.in_ok-a.ensures.ok.1) (open_if _ entered) (omega arith, omega arith, omega arith) (rw (← f) (omega arith)) (omega (arith, ap (λ (x : Auction). x.capacity) e, c.mw_bid.ensures.value)));
    }

pub returns : goal.returns
returns g c =
    let s = sound_held c.args.self.now.sound in
    let l : Ledger = c.args.self.now.ledger in
    let a = c.in_ok-a.ensures.ok.0 in
    let p : c.in_ok-p.p.number ≡ c.args.p = c.in_ok-p.ensures in
    let in_book = an_auction c.args.a l c.in_ok-a.ensures.ok.1 in
    let b : Bid = bid_of c.args.price c.args.mw in
    let entered : is_open (auction_at l c.args.a).stage ≡ true = rw a at (sym c.is_open.ensures ∙ c.if-not-is_open.false) in
    let shows = bid_shows c.args.p c.args.a b l s.auctions (omega arith) (omega arith) (omega arith) (omega arith) in
    let ok : passes (bid_table c.args.p c.args.a c.args.price c.args.mw l) ≡ true = grind (arith, nat_tests, c.in_ok-a.ensures.ok.1, rw (p, a) at c.sheet.ensures, rw a at c.auction.ensures, rw (p, a) at c.mw_bid.ensures.value) in
    let after : c.bid.new.self ≡ bid_placed c.args.p c.args.a b l = rw (p, a) at c.bid.ensures in
    let m : Ledger = bid_placed c.args.p c.args.a b l in
    let n : c.bid.new.self.receipts ≡ l.receipts + 1 = ap (λ (k : Ledger). k.receipts) after in
    let w : c.worst_charge.result ≡ worst_charge (auction_at l c.args.a).product (bids_of (with_bid b (sheet_at l c.args.a c.args.p))) =
    rw (p, a) at c.worst_charge.ensures
    ∙ (ap (λ (k : Ledger). worst_charge (auction_at k c.args.a).product (bids_of (sheet_at k c.args.a c.args.p))) after
    ∙ (ap (λ d. worst_charge d (bids_of (sheet_at m c.args.a c.args.p))) shows.0 ∙ ap (λ t. worst_charge (auction_at l c.args.a).product (bids_of t)) shows.1)) in
    let q = rw p at c.limit_of-limit.ensures.value in
    let v : Receipt = record { number = l.receipts + 1; worst = worst_charge (auction_at l c.args.a).product (bids_of (with_bid b (sheet_at l c.args.a c.args.p))); limit = c.limit_of-limit.result } in
    let same : ◌≡◌ {A = Receipt} (record { number = c.bid.new.self.receipts; worst = c.worst_charge.result; limit = c.limit_of-limit.result }) v = cc in
    record {
      answer = ap Ok (same ∙ cc) ∙ sym (granted_value (bid_table c.args.p c.args.a c.args.price c.args.mw l) _ ok);
      ledger = after ∙ ap (λ q. cond q (bid_placed c.args.p c.args.a b l) l) (sym ok);
      cover = refl;
      verdict = refl;
    }
