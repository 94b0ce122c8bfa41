use Rattle.std.proofs.Common.{◌≡◌, ◌-◌, true, cond, is_ok, leb, length, sym, ap, ◌∙◌, subst, rules}
use Rattle.std.proofs.lemmas.Bool.{and_parts, cond-false, cond-true, leb-true}
use Rattle.collateral.specs.Cover.{Took, in_range, participant}
use Rattle.collateral.specs.Guarantees.{folder_cover, folder_of, guarantees_cover, held_in, used, with_folder, with_held}
use Rattle.collateral.specs.Covers.{put_back, taken_is, took}
use Rattle.collateral.proofs.guarantees.GuaranteesCollateral.take.Goals as goal

pub returns : goal.returns
returns c =
    let x = c.args.self.now in
    let p = c.args.p in
    let day = c.args.day in
    let sum = c.args.sum in
    let f = folder_of x p in
    let f' = with_held (used day sum (held_in f)) f in
    let at : c.index.result ≡ p - 1 = search rules in
    let r = is_ok c.take.result in
    let size : length x.folders ≡ 12 = search rules in
    let inside : in_range p day ≡ true = search rules in
    let who = (and_parts (participant p) (leb day 9999) inside).0 in
    let value : r ≡ leb sum (folder_cover f day) = rw at at c.take.ensures.value in
    let end : c.take.new.self ≡ cond r f' f = rw at at c.take.ensures.after in
    record {
      value = value ∙ ap (leb sum) (sym (cond-true (in_range p day) (folder_cover f day) 0 inside));
      after = rw at (ap (with_folder x p) end ∙ taken_is x p day sum r inside value);
      cover = λ t. rw at (subst (λ h. Took (guarantees_cover x) (guarantees_cover (with_folder x p h)) p day sum) (sym (end ∙ cond-true r f' f t)) (took x p who size day sum inside (leb-true sum (folder_cover f day) (sym value ∙ t))));
      refused = λ t. rw at (ap (with_folder x p) (end ∙ cond-false r f' f t) ∙ put_back x p);
    }
