use Rattle.std.proofs.Common.{◌≡◌, ◌-◌, ◌<◌, ◌≤◌, true, false, cond, Ok, Err, is_ok, length, take, drop, refl, sym, ap, ◌∙◌, arith, rules}
use Rattle.std.proofs.lemmas.Bool.{le-ltb, lt-ltb}
use Rattle.roll.specs.Rolls.{laid}
use Rattle.collateral.specs.Guarantees.{filed, has_free, held_in, valid}
use Rattle.collateral.specs.declared.kind.Cause.TheVariants.{NoPlace}
use Rattle.collateral.proofs.Folders.{put_after, put_value, rest_length}
use Rattle.collateral.proofs.folder.Folder.put.Goals as goal

pub returns-then-n-gone-ge-PLACES : goal.returns-then-n-gone-ge-PLACES
returns-then-n-gone-ge-PLACES c =
    let f = c.args.self.now in
    let size : length f.places ≡ 4 = search rules in
    let many : 4 ≤ length (valid c.args.today (held_in f)) = omega (arith, rest_length f _ size c.held-n.ensures c.args.today _ c.past_of-gone.ensures.value) in
    let full : has_free c.args.today f ≡ false = le-ltb (length (valid c.args.today (held_in f))) 4 many in
    record { value = sym (ap (λ b. cond b (Ok tt) (Err NoPlace)) full); after = sym (ap (λ b. cond b (filed c.args.today c.args.g f) f) full) }

pub returns : goal.returns
returns c =
    let f = c.args.self.now in
    let n = c.held-n.result in
    let gone = c.past_of-gone.result in
    let size : length f.places ≡ 4 = search rules in
    let at = c.past_of-gone.ensures.value in
    let free : n - gone < 4 = omega arith in
    let row = c.remove_front.new.self.places.now in
    let k = c.remove_front.new.self.len in
    let cleared : row ≡ laid (drop gone (take n f.places)) f.places = cc in
    let left : k ≡ n - gone = cc in
    let some : has_free c.args.today f ≡ true = lt-ltb (length (valid c.args.today (held_in f))) 4 (omega (arith, rest_length f n size c.held-n.ensures c.args.today gone at)) in
    let front : take k row ≡ drop gone (take n f.places) = cc in
    let t : is_ok c.insert.result ≡ true = c.insert.ensures.value ∙ put_value f n size c.held-n.ensures c.args.today gone at c.args.g free row row k k _ cleared left front refl ∙ some in
    let len : c.len-self.result ≡ c.insert.new.self.len = c.len-self.ensures in
    record {
      value = sym (ap (λ b. cond b (Ok tt) (Err NoPlace)) some);
      after = put_after f n size c.held-n.ensures c.args.today gone at c.args.g free row _ k _ _ cleared left front t c.insert.ensures.row (len ∙ c.insert.ensures.len) ∙ ap (λ b. cond b (filed c.args.today c.args.g f) f) (t ∙ sym some);
    }
