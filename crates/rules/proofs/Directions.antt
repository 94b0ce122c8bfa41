-- Nothing done in one direction touches an auction of another.
use Rattle.std.proofs.Common.{◌≡◌, ℕ, ◌-◌, ◌<◌, Bool, true, false, cond, ◌&&◌, length, get_or, set, None, sym, refl, ap, ◌∙◌, subst, arith}
use Rattle.std.proofs.lemmas.List.{get_or-map, get_or-set_other}
use Rattle.std.proofs.lemmas.Bool.Decides.{nat_tests}
use Rattle.ledger.specs.Auctions.{is_awarded, no_auction, price_at, same_way}
use Rattle.ledger.specs.Bounds.{may_enter}
use Rattle.ledger.specs.Ledgers.{auction_at}
use Rattle.ledger.specs.Moves.{account_paid, price_towards, prices_towards}
use Rattle.ledger.specs.Stages.{outcome}
use Rattle.ledger.specs.declared.auctions.Auction.{Auction}
use Rattle.ledger.specs.declared.auctions.Direction.{Direction}
use Rattle.ledger.specs.declared.ledgers.Ledger.{Ledger}
use Rattle.rights.specs.Holdings.{fewer, handed, more, no_hour, row_at, with_row}
use Rattle.rights.specs.Returns.{restored, taken}
use Rattle.rights.proofs.Apart.{curtailed_other, over_same, restored_other, row_other}
use Rattle.rules.specs.Calls.{add_collateral, withdraw, open_auction, place_bid, seal_auction, award_auction, cancel_auction, transfer_rights, return_rights, curtail_rights, send_invoice, pay_invoices, draw_overdue, pay_balance, move_day}
use Rattle.rules.specs.Law.{DirectionsApart, Untouched}
use Rattle.rules.specs.Steps.{direction_of, draw_table, drawn}
use Rattle.rules.specs.Tables.{passes}
use Rattle.rules.proofs.Granted.{holds_if, leaves_keeps}
use Rattle.rules.proofs.Soundness.{sound}

-- a direction is the same as itself, and one after the other
way_itself : (d : Direction) → same_way d d ≡ true
way_itself d = grind (arith, nat_tests)

way_apart : (d e : Direction) → same_way d e ≡ false → same_way e d ≡ false
way_apart d e h = grind (arith, nat_tests)

way_other : (d e f : Direction) → same_way d e ≡ true → same_way e f ≡ false → same_way d f ≡ false
way_other d e f h k = grind (arith, nat_tests)

-- rights of an auction of another direction never wait
never : (x y : Auction) → same_way x.direction y.direction ≡ false → may_enter x y ≡ false
never x y e = go (is_awarded x.stage) (same_way x.direction y.direction) e
  where
    go : (b c : Bool) → c ≡ false → (b && c) ≡ false
    go true c k = k
    go false c k = refl

-- so an auction of another direction is another auction
another : (a b : ℕ) (l : Ledger) → same_way (auction_at l a).direction (auction_at l b).direction ≡ false → (b - 1 ≡ a - 1 → ⊥)
another a b l apart same =
    let e : (auction_at l a).direction ≡ (auction_at l b).direction = ap (λ i. (get_or l.auctions i no_auction).direction) (sym same) in
    let w = way_itself (auction_at l b).direction in
    let z : ◌≡◌ {A = ℕ} 0 1 = cc in
    omega arith

untouched : (l : Ledger) (b : ℕ) → Untouched l l b
untouched l b = record { auction = refl; holdings = λ h. refl }

-- another auction is put in the place of one, and no holding of this one changes
put_apart : (l m : Ledger) (i b : ℕ) (x : Auction) → m.auctions ≡ set l.auctions i x → (b - 1 ≡ i → ⊥) → ((h : ℕ) → row_at (b - 1) (get_or m.rights h no_hour) ≡ row_at (b - 1) (get_or l.rights h no_hour)) → Untouched l m b
put_apart l m i b x e other rights = record { auction = ap (λ xs. get_or xs (b - 1) no_auction) e ∙ get_or-set_other l.auctions i (b - 1) x no_auction other; holdings = rights }

pub directions_apart : DirectionsApart
directions_apart m history (add_collateral p kind sum last) r m' s b b1 b2 apart = subst (λ l. Untouched m.ledger l b) (sym s.ledger) (untouched m.ledger b)
directions_apart m history (withdraw p sum) r m' s b b1 b2 apart = subst (λ l. Untouched m.ledger l b) (sym s.ledger) (untouched m.ledger b)
directions_apart m history (open_auction from to first hours capacity) r m' s b b1 b2 apart =
    leaves_keeps (λ l. Untouched m.ledger l b) _ _ _ m r m' s (untouched m.ledger b) (λ t. put_apart m.ledger _ m.ledger.opened b _ refl (λ e. omega arith) (λ h. refl))
directions_apart m history (place_bid p a price mw) r m' s b b1 b2 apart =
    leaves_keeps (λ l. Untouched m.ledger l b) _ _ _ m r m' s (untouched m.ledger b) (λ t. put_apart m.ledger _ (a - 1) b _ refl (another a b m.ledger apart) (λ h. refl))
directions_apart m history (seal_auction a) r m' s b b1 b2 apart =
    leaves_keeps (λ l. Untouched m.ledger l b) _ _ _ m r m' s (untouched m.ledger b) (λ t. put_apart m.ledger _ (a - 1) b _ refl (another a b m.ledger apart) (λ h. refl))
directions_apart m history (award_auction a) r m' s b b1 b2 apart =
    let x : Auction = auction_at m.ledger a in
    let other = another a b m.ledger apart in
    leaves_keeps (λ l. Untouched m.ledger l b) _ _ _ m r m' s (untouched m.ledger b) (λ t.
    put_apart m.ledger _ (a - 1) b _ refl other
    (λ h. over_same (row_at (b - 1)) (with_row (a - 1) (outcome x).mw) (λ hour. row_other (a - 1) (b - 1) (outcome x).mw hour other) x.first x.product.hours m.ledger.rights h no_hour))
directions_apart m history (cancel_auction a) r m' s b b1 b2 apart =
    let x : Auction = auction_at m.ledger a in
    let none = (sound history).rights.ways (b - 1) (a - 1) (never (auction_at m.ledger b) x (way_apart x.direction (auction_at m.ledger b).direction apart)) in
    leaves_keeps (λ l. Untouched m.ledger l b) _ _ _ m r m' s (untouched m.ledger b) (λ t.
    put_apart m.ledger _ (a - 1) b _ refl (another a b m.ledger apart)
    (λ h. over_same (row_at (b - 1)) (restored x.returned) (λ hour. restored_other x.returned hour (b - 1) none) x.first x.product.hours m.ledger.rights h no_hour))
directions_apart m history (transfer_rights giver taker a first hours mw) r m' s b b1 b2 apart =
    let other = another a b m.ledger apart in
    leaves_keeps (λ l. Untouched m.ledger l b) _ _ _ m r m' s (untouched m.ledger b) (λ t. record {
      auction = refl;
      holdings = λ h. over_same (row_at (b - 1)) (handed (a - 1) (giver - 1) (taker - 1) mw)
          (λ hour. row_other (a - 1) (b - 1) (more (taker - 1) mw (fewer (giver - 1) mw (row_at (a - 1) hour))) hour other) first hours m.ledger.rights h no_hour;
    })
directions_apart m history (return_rights p out into mw) r m' s b b1 b2 apart =
    let y : Auction = auction_at m.ledger into in
    leaves_keeps (λ l. Untouched m.ledger l b) _ _ _ m r m' s (untouched m.ledger b) (λ t.
    let way = holds_if (same_way (auction_at m.ledger out).direction y.direction) t.1.1.1.0 in
    let left = another out b m.ledger (way_other (auction_at m.ledger out).direction y.direction (auction_at m.ledger b).direction way apart) in
    put_apart m.ledger _ (into - 1) b _ refl (another into b m.ledger apart)
    (λ h. over_same (row_at (b - 1)) (taken (out - 1) (p - 1) mw) (λ hour. row_other (out - 1) (b - 1) (fewer (p - 1) mw (row_at (out - 1) hour)) hour left) y.first y.product.hours m.ledger.rights h no_hour))
directions_apart m history (curtail_rights from to first limits) r m' s b b1 b2 apart =
    let there : b - 1 < length m.ledger.auctions = omega (arith, (sound history).auctions.rows, (sound history).auctions.opened) in
    let free : get_or (prices_towards (direction_of from to) m.ledger) (b - 1) None ≡ None =
    get_or-map (price_towards (direction_of from to)) m.ledger.auctions (b - 1) no_auction None there ∙ ap (λ ok. cond ok (price_at (auction_at m.ledger b).stage) None) apart in
    leaves_keeps (λ l. Untouched m.ledger l b) _ _ _ m r m' s (untouched m.ledger b) (λ t. record {
      auction = refl;
      holdings = curtailed_other (prices_towards (direction_of from to) m.ledger) first limits 24 m.ledger.rights (b - 1) free;
    })
directions_apart m history (send_invoice p) r m' s b b1 b2 apart =
    leaves_keeps (λ l. Untouched m.ledger l b) _ _ _ m r m' s (untouched m.ledger b) (λ t. record { auction = refl; holdings = λ h. refl })
directions_apart m history (pay_invoices p sum) r m' s b b1 b2 apart =
    leaves_keeps (λ l. Untouched m.ledger l b) _ _ _ m r m' s (untouched m.ledger b) (λ t. record { auction = refl; holdings = λ h. refl })
directions_apart m history (draw_overdue p) r m' s b b1 b2 apart =
    subst (λ l. Untouched m.ledger l b) (sym s.ledger) (go (passes (draw_table p m)))
  where
    go : (ok : Bool) → Untouched m.ledger (cond ok (account_paid p (drawn m p) m.ledger) m.ledger) b
    go true = record { auction = refl; holdings = λ h. refl }
    go false = record { auction = refl; holdings = λ h. refl }
directions_apart m history (pay_balance p) r m' s b b1 b2 apart =
    leaves_keeps (λ l. Untouched m.ledger l b) _ _ _ m r m' s (untouched m.ledger b) (λ t. record { auction = refl; holdings = λ h. refl })
directions_apart m history (move_day day) r m' s b b1 b2 apart =
    leaves_keeps (λ l. Untouched m.ledger l b) _ _ _ m r m' s (untouched m.ledger b) (λ t. record { auction = refl; holdings = λ h. refl })
