use Rattle.std.proofs.Common.{◌≡◌, ◌-◌, ◌≤◌, true, cond, inl, inr, length, Ok, Err, sym, ap, ◌∙◌, subst, arith, rules}
use Rattle.std.proofs.lemmas.Bool.{both_ways, cases_Bool, cond-false, cond-true}
use Rattle.collateral.specs.declared.folder.Guarantee.{Guarantee}
use Rattle.collateral.specs.declared.kind.Cause.TheVariants.{NoPlace}
use Rattle.collateral.specs.Causes.{granted}
use Rattle.collateral.specs.Cover.{Added, participant}
use Rattle.collateral.specs.Guarantees.{folder_of, has_free, guarantees_cover, guarantees_verdict, held_in, stored, with_folder, with_held}
use Rattle.collateral.specs.Covers.{added, put_back}
use Rattle.collateral.proofs.guarantees.GuaranteesCollateral.add.Goals as goal

pub returns : goal.returns
returns c =
    let x = c.args.self.now in
    let p = c.args.p in
    let g : Guarantee = record { last = c.args.last; sum = c.args.sum } in
    let f = folder_of x p in
    let f' = with_held (stored c.args.today g (held_in f)) f in
    let verdict = guarantees_verdict x p c.args.kind c.args.sum c.args.last c.args.today in
    let at : c.index.result ≡ p - 1 = search rules in
    let size : length x.folders ≡ 12 = search rules in
    let who : participant p ≡ true = search rules in
    let low : c.args.today ≤ c.args.last = omega arith in
    let high : c.args.last ≤ 9998 = omega arith in
    elim (cases_Bool (has_free c.args.today f)) [
      | inl free ↦
          let value : verdict ≡ Ok tt = search rules in
          let put : c.put.result ≡ Ok tt = (rw at at c.put.ensures.value) ∙ ap (λ b. cond b (Ok tt) (Err NoPlace)) free in
          let end : c.put.new.self ≡ f' = (rw at at c.put.ensures.after) ∙ ap (λ b. cond b f' f) free in
          record {
            value = put ∙ sym value;
            after = rw at (ap (with_folder x p) end ∙ sym (cond-true (granted verdict) (with_folder x p f') x (ap granted value)));
            cover = λ _. rw at (subst (λ h. Added (guarantees_cover x) (guarantees_cover (with_folder x p h)) p c.args.sum c.args.last c.args.today) (sym end) (added x p who size c.args.sum c.args.last c.args.today low high));
            refused = λ t. absurd (both_ways (granted c.put.result) t (ap granted put));
          }
      | inr full ↦
          let value : verdict ≡ Err NoPlace = search rules in
          let put : c.put.result ≡ Err NoPlace = (rw at at c.put.ensures.value) ∙ ap (λ b. cond b (Ok tt) (Err NoPlace)) full in
          let same = ap (with_folder x p) ((rw at at c.put.ensures.after) ∙ ap (λ b. cond b f' f) full) ∙ put_back x p in
          record {
            value = put ∙ sym value;
            after = rw at (same ∙ sym (cond-false (granted verdict) (with_folder x p f') x (ap granted value)));
            cover = λ t. absurd (both_ways (granted c.put.result) (ap granted put) t);
            refused = λ _. rw at same;
          }
    ]
