-- The cover of guarantees, when a sum is taken and when one is put in.
use Rattle.std.specs.Prelude.{◌≡◌, ℕ, ◌+◌, ◌-◌, ◌<◌, ◌≤◌, Bool, true, false, cond, ◌&&◌, leb, ◌⊎◌, List, [], length, drop, ◌≢◌, nat_le, refl}
use Rattle.std.proofs.Common.{sym, ap, ◌∙◌, inl, inr, arith}
use Rattle.std.proofs.lemmas.List.{get_or-set_other, get_or-set_same, set-get_or, take_at}
use Rattle.std.proofs.lemmas.Bool.{and_from, and_parts, and_right, cases_Bool, cases_lt, cond-false, cond-true, le-leb, le-ltb, leb-true, lt-ltb, ltb-true}
use Rattle.roll.specs.Sums.{sum_of}
use Rattle.roll.proofs.Clear.{clear_clear, clear_falls, put_clear, put_past, spent_clear_at_most, spent_clear_no_rise, spent_clear_there}
use Rattle.collateral.specs.Cover.{Added, Took, in_range, participant}
use Rattle.collateral.specs.Guarantees.{at_sum, earlier, folder_cover, folder_of, guarantees_cover, guarantees_taken, held_in, past_on, stored, sum_in, used, valid, with_folder, with_held}
use Rattle.collateral.specs.declared.folder.Folder.{Folder}
use Rattle.collateral.specs.declared.folder.Guarantee.{Guarantee}
use Rattle.collateral.specs.declared.guarantees.Guarantees.{Guarantees}

-- what is past on a day is past on each later one
past_later : (d e : ℕ) → d ≤ e → (g : Guarantee) → past_on d g ≡ true → past_on e g ≡ true
past_later d e l g h = lt-ltb g.last e (omega (arith, ltb-true g.last d h))

past_nested : (d e : ℕ) → ((g : Guarantee) → past_on d g ≡ true → past_on e g ≡ true) ⊎ ((g : Guarantee) → past_on e g ≡ true → past_on d g ≡ true)
past_nested d e = elim (cases_lt e d) [ inl l ↦ inr (past_later e d (omega arith)) | inr l ↦ inl (past_later d e l) ]

-- one folder
module _ (f : Folder) where
  pub held_with : (gs : List Guarantee) → held_in (with_held gs f) ≡ gs
  held_with gs = take_at gs (drop (length gs) f.places) (length gs) refl

  cover_held : (gs : List Guarantee) (d : ℕ) → folder_cover (with_held gs f) d ≡ sum_of sum_in (valid d gs)
  cover_held gs d = ap (λ hs. sum_of sum_in (valid d hs)) (held_with gs)

  pub cover_falls : (d e : ℕ) → d ≤ e → folder_cover f e ≤ folder_cover f d
  cover_falls d e l = clear_falls sum_in (past_on d) (past_on e) (past_later d e l) (held_in f)

  module _ (day sum : ℕ) where
    used_at_most : (d : ℕ) → folder_cover f d ≤ folder_cover (with_held (used day sum (held_in f)) f) d + sum
    used_at_most d = omega (arith, cover_held (used day sum (held_in f)) d, spent_clear_at_most sum_in at_sum (λ g n. refl) (past_on day) sum (past_on d) (λ g n. refl) (past_nested day d) (held_in f))

    used_no_rise : (d : ℕ) → folder_cover (with_held (used day sum (held_in f)) f) d ≤ folder_cover f d
    used_no_rise d = omega (arith, cover_held (used day sum (held_in f)) d, spent_clear_no_rise sum_in at_sum (λ g n. refl) (past_on day) sum (past_on d) (λ g n. refl) (past_nested day d) (held_in f))

    used_there : sum ≤ folder_cover f day → folder_cover (with_held (used day sum (held_in f)) f) day + sum ≡ folder_cover f day
    used_there l = omega (arith, cover_held (used day sum (held_in f)) day, spent_clear_there sum_in at_sum (λ g n. refl) (past_on day) sum (λ g n. refl) (held_in f) l)

  module _ (today : ℕ) (g : Guarantee) where
    stored_raised : (d : ℕ) → today ≤ d → d ≤ g.last → folder_cover (with_held (stored today g (held_in f)) f) d ≡ folder_cover f d + g.sum
    stored_raised d l h =
        let before : (y : Guarantee) → past_on d y ≡ true → earlier y g ≡ true = λ y e. le-leb y.last g.last (omega (arith, ltb-true y.last d e)) in
        omega (arith, cover_held (stored today g (held_in f)) d, put_clear sum_in earlier g (past_on d) (le-ltb g.last d h) before (valid today (held_in f)), clear_clear sum_in (past_on today) (past_on d) (past_later today d l) (held_in f))

    stored_later : (d : ℕ) → today ≤ d → g.last < d → folder_cover (with_held (stored today g (held_in f)) f) d ≡ folder_cover f d
    stored_later d l h =
        let after : (y : Guarantee) → earlier y g ≡ true → past_on d y ≡ true = λ y e. lt-ltb y.last d (omega (arith, leb-true y.last g.last e)) in
        omega (arith, cover_held (stored today g (held_in f)) d, put_past sum_in earlier g (past_on d) (lt-ltb g.last d h) after (valid today (held_in f)), clear_clear sum_in (past_on today) (past_on d) (past_later today d l) (held_in f))

cond_at_most : (b : Bool) (m n s : ℕ) → m ≤ n + s → cond b m 0 ≤ cond b n 0 + s
cond_at_most true m n s l = l
cond_at_most false m n s l = omega arith

cond_le : (b : Bool) (m n : ℕ) → m ≤ n → cond b m 0 ≤ cond b n 0
cond_le true m n l = l
cond_le false m n l = omega arith

-- the folder of one participant is put in the place of another
module _ (x : Guarantees) (p : ℕ) (who : participant p ≡ true) (size : length x.folders ≡ 12) (f : Folder) where
  cover_there : (d : ℕ) → guarantees_cover (with_folder x p f) p d ≡ cond (in_range p d) (folder_cover f d) 0
  cover_there d =
      let parts = and_parts (nat_le 1 p) (nat_le p 12) who in
      let l : p - 1 < length x.folders = omega (arith, leb-true 1 p parts.0, leb-true p 12 parts.1) in
      ap (λ h. cond (in_range p d) (folder_cover h d) 0) (get_or-set_same x.folders (p - 1) f (record { places = []; count = 0 }) l)

  cover_others : (q d : ℕ) → (q ≢ p) → guarantees_cover (with_folder x p f) q d ≡ guarantees_cover x q d
  cover_others q d n =
      elim (cases_Bool (in_range q d)) [
        | inl e ↦
            let parts = and_parts (nat_le 1 p) (nat_le p 12) who in
            let q_parts = and_parts (nat_le 1 q) (nat_le q 12) (and_parts (participant q) (nat_le d 9999) e).0 in
            let apart : q - 1 ≡ p - 1 → ⊥ = λ h. n (omega (arith, leb-true 1 p parts.0, leb-true 1 q q_parts.0)) in
            ap (λ h. cond (in_range q d) (folder_cover h d) 0) (get_or-set_other x.folders (p - 1) (q - 1) f (record { places = []; count = 0 }) apart)
        | inr e ↦ cond-false (in_range q d) (folder_cover (folder_of (with_folder x p f) q) d) 0 e ∙ sym (cond-false (in_range q d) (folder_cover (folder_of x q) d) 0 e)
      ]

module _ (x : Guarantees) (p : ℕ) (who : participant p ≡ true) (size : length x.folders ≡ 12) where
  pub took : (day sum : ℕ) → in_range p day ≡ true → sum ≤ folder_cover (folder_of x p) day → Took (guarantees_cover x) (guarantees_cover (with_folder x p (with_held (used day sum (held_in (folder_of x p))) (folder_of x p)))) p day sum
  took day sum inside l =
      let f = folder_of x p in
      let f' = with_held (used day sum (held_in f)) f in
      let same = cover_there x p who size f' in
      record {
        there = omega (arith, same day, cond-true (in_range p day) (folder_cover f' day) 0 inside, cond-true (in_range p day) (folder_cover f day) 0 inside, used_there f day sum l);
        at_most = λ d. omega (arith, same d, cond_at_most (in_range p d) (folder_cover f d) (folder_cover f' d) sum (used_at_most f day sum d));
        no_rise = λ d. omega (arith, same d, cond_le (in_range p d) (folder_cover f' d) (folder_cover f d) (used_no_rise f day sum d));
        others = cover_others x p who size f';
      }

  pub added : (sum last today : ℕ) → today ≤ last → last ≤ 9998 → let g : Guarantee = record { last = last; sum = sum } in Added (guarantees_cover x) (guarantees_cover (with_folder x p (with_held (stored today g (held_in (folder_of x p))) (folder_of x p)))) p sum last today
  added sum last today low high =
      let g : Guarantee = record { last = last; sum = sum } in
      let f = folder_of x p in
      let f' = with_held (stored today g (held_in f)) f in
      let same = cover_there x p who size f' in
      record {
        raised = λ d a b.
            let inside : in_range p d ≡ true = and_from (participant p) (nat_le d 9999) who (le-leb d 9999 (omega arith)) in
            omega (arith, same d, cond-true (in_range p d) (folder_cover f' d) 0 inside, cond-true (in_range p d) (folder_cover f d) 0 inside, stored_raised f today g d a b);
        later = λ d a. same d ∙ ap (λ n. cond (in_range p d) n 0) (stored_later f today g d (omega arith) a);
        others = cover_others x p who size f';
      }

-- a folder put in its own place
pub put_back : (x : Guarantees) (p : ℕ) → with_folder x p (folder_of x p) ≡ x
put_back x p = let made : List Folder → Guarantees = λ fs. record { folders = fs } in ap made (set-get_or x.folders (p - 1) (record { places = []; count = 0 }))

pub taken_is : (x : Guarantees) (p day sum : ℕ) (r : Bool) → in_range p day ≡ true → r ≡ nat_le sum (folder_cover (folder_of x p) day) → let f = folder_of x p in with_folder x p (cond r (with_held (used day sum (held_in f)) f) f) ≡ guarantees_taken x p day sum
taken_is x p day sum r inside value =
    let f = folder_of x p in
    let f' = with_held (used day sum (held_in f)) f in
    let b = leb sum (folder_cover f day) in
    elim (cases_Bool r) [
      | inl t ↦ ap (with_folder x p) (cond-true r f' f t) ∙ sym (cond-true (in_range p day && b) (with_folder x p f') x (and_from (in_range p day) b inside (sym value ∙ t)))
      | inr t ↦ ap (with_folder x p) (cond-false r f' f t) ∙ put_back x p ∙ sym (cond-false (in_range p day && b) (with_folder x p f') x (and_right (in_range p day) b (sym value ∙ t)))
    ]
