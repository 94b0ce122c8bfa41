use Rattle.std.proofs.Common.{◌≡◌, length, sym, ap, ◌∙◌, arith, rules}
use Rattle.std.proofs.lemmas.Bool.{le-leb, lt-leb}
use Rattle.roll.specs.Rolls.{laid}
use Rattle.roll.specs.Sums.{sum_of}
use Rattle.collateral.specs.Guarantees.{folder_cover, sum_in}
use Rattle.collateral.proofs.Folders.{folder_is, lent_is, used_is}
use Rattle.collateral.proofs.folder.Folder.take.Goals as goal

pub returns-then-left_over-gt0 : goal.returns-then-left_over-gt0
returns-then-left_over-gt0 c =
    let f = c.args.self.now in
    let size : length f.places ≡ 4 = search rules in
    let lent = ap (sum_of sum_in) (lent_is f _ size c.held-n.ensures c.args.day _ c.past_of-gone.ensures.value) in
    record { value = sym (lt-leb c.args.sum (folder_cover f c.args.day) (omega arith)); after = search rules }

pub returns : goal.returns
returns c =
    let f = c.args.self.now in
    let size : length f.places ≡ 4 = search rules in
    let at = c.past_of-gone.ensures.value in
    let lent = ap (sum_of sum_in) (lent_is f _ size c.held-n.ensures c.args.day _ at) in
    let left = used_is f _ size c.held-n.ensures c.args.day _ at c.args.sum in
    record {
      value = sym (le-leb c.args.sum (folder_cover f c.args.day) (omega arith));
      after = folder_is _ _ _ _ (c.spend_behind-self.ensures.after ∙ ap (λ z. laid z f.places) left) (c.spend_behind-self.ensures.value ∙ ap length left);
    }
