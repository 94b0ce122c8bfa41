-- Guarantees stay in their order over whole runs, so that just the valid ones count.
use Rattle.std.proofs.Common.{◌≡◌, ℕ, ◌-◌, Bool, true, false, cond, ◌&&◌, leb, [], length, get_or, set, sym, refl, ap, ◌∙◌, subst, inl, inr, arith}
use Rattle.std.proofs.lemmas.List.{get_or-replicate, get_or-set_other, get_or-set_same, get_or_past, set_past}
use Rattle.std.proofs.lemmas.Bool.{cases_eq, cases_lt, cond-true, le-leb, leb-false, leb-true, lt-ltb, ltb-true}
use Rattle.roll.specs.Rolls.{Ordered, behind}
use Rattle.roll.proofs.Clear.{clear_ordered, ordered_spent_clear}
use Rattle.roll.proofs.Orders.{ordered_drop, ordered_inserted}
use Rattle.collateral.specs.Causes.{granted}
use Rattle.collateral.specs.Cover.{in_range}
use Rattle.collateral.specs.Guarantees.{at_sum, earlier, folder_cover, folder_of, guarantees_verdict, held_in, no_folder, no_guarantees, past_on, stored, sum_in, used, valid, with_folder, with_held}
use Rattle.collateral.specs.Runs.{EachCounts, InOrder, Run, RunsCount, added, begun, took}
use Rattle.collateral.specs.declared.folder.Folder.{Folder}
use Rattle.collateral.specs.declared.folder.Guarantee.{Guarantee}
use Rattle.collateral.specs.declared.guarantees.Guarantees.{Guarantees}
use Rattle.collateral.specs.Covers.{held_with}

abbrev none : Folder
none = record { places = []; count = 0 }

-- another folder in order in one place
order_put : (x : Guarantees) (p : ℕ) (f : Folder) → Ordered earlier (held_in f) → InOrder x → InOrder (with_folder x p f)
order_put x p f h o q =
    let P : Folder → Type 0 = λ k. Ordered earlier (held_in k) in
    let there : q - 1 ≡ p - 1 → P (folder_of (with_folder x p f) q) =
    λ e. elim (cases_lt (p - 1) (length x.folders)) [
      | inl l ↦ subst P (sym (ap (λ k. get_or (set x.folders (p - 1) f) k none) e ∙ get_or-set_same x.folders (p - 1) f none l)) h
      | inr l ↦ subst P (sym (ap (λ fs. get_or fs (q - 1) none) (set_past x.folders (p - 1) f l))) (o q)
    ] in
    elim (cases_eq (q - 1) (p - 1)) [
      | inl e ↦ there e
      | inr n ↦ subst P (sym (get_or-set_other x.folders (p - 1) (q - 1) f none n)) (o q)
    ]

order_if : (b : Bool) (x y : Guarantees) → InOrder y → InOrder x → InOrder (cond b y x)
order_if true x y a o = a
order_if false x y a o = o

earlier_either : (g h : Guarantee) → earlier g h ≡ false → earlier h g ≡ true
earlier_either g h e = le-leb h.last g.last (omega (arith, leb-false g.last h.last e))

earlier_carries : (g h k : Guarantee) → earlier g h ≡ true → earlier h k ≡ true → earlier g k ≡ true
earlier_carries g h k a b = le-leb g.last k.last (omega (arith, leb-true g.last h.last a, leb-true h.last k.last b))

order_used : (f : Folder) (day sum : ℕ) → Ordered earlier (held_in f) → Ordered earlier (held_in (with_held (used day sum (held_in f)) f))
order_used f day sum h = subst (Ordered earlier) (sym (held_with f (used day sum (held_in f)))) (ordered_spent_clear sum_in at_sum (λ g n. refl) (past_on day) sum earlier (λ g k n. refl) (λ g k n. refl) (held_in f) h)

order_stored : (f : Folder) (today : ℕ) (g : Guarantee) → Ordered earlier (held_in f) → Ordered earlier (held_in (with_held (stored today g (held_in f)) f))
order_stored f today g h =
    subst (Ordered earlier) (sym (held_with f (stored today g (held_in f)))) (ordered_inserted earlier earlier_either earlier_carries g (valid today (held_in f)) (ordered_drop earlier (behind (past_on today) (held_in f)) (held_in f) h))

order_none : InOrder no_guarantees
order_none p =
    let P : Folder → Type 0 = λ k. Ordered earlier (held_in k) in
    elim (cases_lt (p - 1) 12) [
      | inl l ↦ subst P (sym (get_or-replicate 12 (p - 1) no_folder none l)) tt
      | inr l ↦ subst P (sym (get_or_past no_guarantees.folders (p - 1) none l)) tt
    ]

order_kept : (x : Guarantees) → Run x → InOrder x
order_kept _ begun = order_none
order_kept _ (took x p day sum r) =
    let f = folder_of x p in
    let o = order_kept x r in
    order_if (in_range p day && leb sum (folder_cover f day)) x (with_folder x p (with_held (used day sum (held_in f)) f)) (order_put x p _ (order_used f day sum (o p)) o) o
order_kept _ (added x p kind sum last today r) =
    let f = folder_of x p in
    let g : Guarantee = record { last = last; sum = sum } in
    let o = order_kept x r in
    order_if (granted (guarantees_verdict x p kind sum last today)) x (with_folder x p (with_held (stored today g (held_in f)) f)) (order_put x p _ (order_stored f today g (o p)) o) o

each_counts : (x : Guarantees) → InOrder x → EachCounts x
each_counts x o p day inside =
    let down : (g h : Guarantee) → earlier g h ≡ true → past_on day h ≡ true → past_on day g ≡ true = λ g h a b. lt-ltb g.last day (omega (arith, leb-true g.last h.last a, ltb-true h.last day b)) in
    cond-true (in_range p day) (folder_cover (folder_of x p) day) 0 inside ∙ clear_ordered sum_in earlier (past_on day) down (held_in (folder_of x p)) (o p)

pub runs_count : RunsCount
runs_count x r = let o = order_kept x r in (o, each_counts x o)
