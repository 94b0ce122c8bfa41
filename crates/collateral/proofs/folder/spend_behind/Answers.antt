use Rattle.std.proofs.Common.{◌≡◌, ◌-◌, length, take, drop, ap, ◌∙◌, arith, length-append, length-take}
use Rattle.std.proofs.lemmas.List.{take_rest}
use Rattle.std.proofs.lemmas.Slice.{between_is}
use Rattle.roll.specs.Rolls.{laid}
use Rattle.roll.specs.Spending.{spent}
use Rattle.roll.proofs.Moves.{put_behind}
use Rattle.collateral.specs.Guarantees.{at_sum, sum_in}
use Rattle.collateral.proofs.folder.spend_behind.Goals as goal

pub returns : goal.returns
returns c =
    let p = c.args.places.now in
    let g = c.args.gone in
    let n = c.args.n in
    let left = spent sum_in at_sum c.args.sum (drop g (take n p)) in
    let part : take (n - g) (take (length p - g) (drop g p)) ≡ drop g (take n p) = ap (take (n - g)) (take_rest p g) ∙ between_is p g n in
    let e : spent sum_in at_sum c.args.sum (take (n - g) (take (length p - g) (drop g p))) ≡ left = ap (spent sum_in at_sum c.args.sum) part in
    let size = ap length e in
    record {
      value = omega (arith, c.spend_along.ensures.value, length-append (take g (take n p)) left, length-take g (take n p), length-take n p);
      after = put_behind p _ left g n c.requires.0 c.requires.1 (c.spend_along.ensures.after ∙ ap (λ z. laid z (take (length p - g) (drop g p))) e);
    }
