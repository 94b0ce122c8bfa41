use Rattle.std.proofs.Common.{◌≡◌, ℕ, ◌-◌, ◌≤◌, true, cond, List, length, Ok, sym, refl, ap, ◌∙◌, subst, arith}
use Rattle.std.proofs.lemmas.List.{get_or-set_same}
use Rattle.std.proofs.lemmas.Bool.Decides.{nat_tests}
use Rattle.ledger.specs.Auctions.{is_open, no_auction}
use Rattle.ledger.specs.Ledgers.{auction_at}
use Rattle.ledger.specs.Limits.{all_limits}
use Rattle.ledger.specs.Sound.{Sound, SoundAuction}
use Rattle.ledger.specs.Stages.{auction_sealed, bids_kept, bids_left_out, sealed_at}
use Rattle.ledger.specs.declared.auctions.Auction.{Auction}
use Rattle.ledger.specs.declared.auctions.Stage.TheVariants.{Sealed}
use Rattle.ledger.specs.declared.ledgers.Ledger.{Ledger}
use Rattle.ledger.proofs.Kept.{at_number, auction_seal}
use Rattle.ledger.proofs.Once.{sound_held}
use Rattle.ledger.proofs.Sounds.{sound_seal}
use Rattle.rules.specs.declared.answers.Cut.{Cut}
use Rattle.rules.specs.Steps.{seal_table}
use Rattle.rules.specs.Tables.{passes}
use Rattle.book.proofs.Again.{again, opened_of}
use Rattle.rules.proofs.Granted.{an_auction, granted_value, open_if}
use Rattle.book.proofs.books.Book.seal.Goals as goal

-- the sealed auction, where it stands
sealed_there : (a : ℕ) (limits : List ℕ) (l : Ledger) → Sound l → 1 ≤ a → a ≤ l.opened → auction_at (auction_sealed a limits l) a ≡ sealed_at limits (auction_at l a)
sealed_there a limits l s a1 a2 = get_or-set_same l.auctions (a - 1) (sealed_at limits (auction_at l a)) no_auction (omega (arith, s.auctions.rows, s.auctions.opened))

-- it is sound, and sealed
sealed_shown : (a : ℕ) (limits : List ℕ) (l m : Ledger) → Sound l → 1 ≤ a → a ≤ l.opened → length limits ≡ 12 → m ≡ auction_sealed a limits l → SoundAuction (auction_at m a) × ((auction_at m a).stage ≡ Sealed)
sealed_shown a limits l m s a1 a2 twelve e =
    let there = ap (λ k. auction_at k a) e ∙ sealed_there a limits l s a1 a2 in (
      subst SoundAuction (sym there) (auction_seal limits (auction_at l a) (at_number l a s.auctions a1 a2) twelve),
      ap (λ (x : Auction). x.stage) there,
    )

pub invariant_of-self : goal.invariant_of-self
invariant_of-self g c =
    let entered : is_open (auction_at c.args.self.now.ledger c.in_ok-a.a.number).stage ≡ true = sym c.is_open.ensures ∙ c.if-not-is_open.false in
    record {
      sound = again c.seal.new.self c.seal.ensures
          (sound_seal c.in_ok-a.a.number c.limits-limits.result c.args.self.now.ledger (sound_held c.args.self.now.sound) c.in_ok-a.a.low (opened_of c.in_ok-a.a.number c.args.a c.args.self.now.ledger c.in_ok-a.ensures.ok.0 c.in_ok-a.ensures.ok.1) (open_if _ entered) (ap length c.limits-limits.ensures));
    }

pub bids_kept-requires : goal.bids_kept-requires
bids_kept-requires g c =
    let shown = sealed_shown c.in_ok-a.a.number c.limits-limits.result c.args.self.now.ledger c.seal.new.self (sound_held c.args.self.now.sound) c.in_ok-a.a.low (opened_of c.in_ok-a.a.number c.args.a c.args.self.now.ledger c.in_ok-a.ensures.ok.0 c.in_ok-a.ensures.ok.1) (ap length c.limits-limits.ensures) c.seal.ensures in
    record { sound = shown.0; stage = shown.1 }

pub bids_left_out-requires : goal.bids_left_out-requires
bids_left_out-requires g c =
    (sealed_shown c.in_ok-a.a.number c.limits-limits.result c.args.self.now.ledger c.seal.new.self (sound_held c.args.self.now.sound) c.in_ok-a.a.low (opened_of c.in_ok-a.a.number c.args.a c.args.self.now.ledger c.in_ok-a.ensures.ok.0 c.in_ok-a.ensures.ok.1) (ap length c.limits-limits.ensures) c.seal.ensures).0

pub returns : goal.returns
returns g c =
    let s = sound_held c.args.self.now.sound in
    let l : Ledger = c.args.self.now.ledger in
    let a = c.in_ok-a.ensures.ok.0 in
    let in_book = an_auction c.args.a l c.in_ok-a.ensures.ok.1 in
    let limits : List ℕ = all_limits l (g.C.Collateral.cover c.args.self.now.collateral) in
    let entered : is_open (auction_at l c.args.a).stage ≡ true = rw a at (sym c.is_open.ensures ∙ c.if-not-is_open.false) in
    let found : c.limits-limits.result ≡ limits = c.limits-limits.ensures in
    let after : c.seal.new.self ≡ auction_sealed c.args.a limits l = rw (a, found) at c.seal.ensures in
    let there : auction_at c.seal.new.self c.args.a ≡ sealed_at limits (auction_at l c.args.a) = ap (λ k. auction_at k c.args.a) after ∙ sealed_there c.args.a limits l s (omega arith) (omega arith) in
    let ok : passes (seal_table c.args.a l) ≡ true = grind (arith, nat_tests, c.in_ok-a.ensures.ok.1) in
    let kept = rw a at c.bids_kept.ensures ∙ ap bids_kept there in
    let left = rw a at c.bids_left_out.ensures ∙ ap bids_left_out there in
    let same : ◌≡◌ {A = Cut} (record { kept = c.bids_kept.result; left = c.bids_left_out.result }) (record { kept = bids_kept (sealed_at limits (auction_at l c.args.a)); left = bids_left_out (sealed_at limits (auction_at l c.args.a)) }) = cc in
    record {
      answer = ap Ok same ∙ sym (granted_value (seal_table c.args.a l) _ ok);
      ledger = after ∙ ap (λ q. cond q (auction_sealed c.args.a limits l) l) (sym ok);
      cover = refl;
      verdict = refl;
    }
