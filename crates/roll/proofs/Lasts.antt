-- The place behind the last record that meets a test, as `rposition` finds it.
use Rattle.std.proofs.Common.{◌≡◌, ℕ, zero, suc, ◌+◌, ◌-◌, ◌<◌, Bool, true, false, List, [], ◌∷◌, length, get_or, Option, Some, None, refl, sym, ap, ◌∙◌, arith}
use denote.Ref.{Bor}
use denote.Param.Members.{Mut, Called}
use Rattle.std.specs.Iterator.Runs.{Run, AllItemsGive, CallKeepsClosure, IsFirstToGive, ItemsMapToReversed}
use Rattle.std.specs.Option.{IfSome, IsSomeAnd, MatchOption, option_map, option_map_or}
use Rattle.std.proofs.lemmas.Bool.Decides.{nat_tests}
use Rattle.roll.specs.Rolls.{behind}

module _ {X : Type 0} (test : X → Bool) where
  none_behind : (xs : List X) → ((k : ℕ) (d : X) → k < length xs → test (get_or xs k d) ≡ false) → behind test xs ≡ 0
  none_behind [] h = refl
  none_behind (x ∷ xs) h =
      let r = none_behind xs (λ k d l. h (suc k) d (omega arith)) in
      let own : test x ≡ false = h 0 x (omega arith) in
      rw (r, own) refl

  last_behind : (xs : List X) (i : ℕ) → i < length xs → ((d : X) → test (get_or xs i d) ≡ true) → ((k : ℕ) (d : X) → i < k → k < length xs → test (get_or xs k d) ≡ false) → behind test xs ≡ i + 1
  last_behind [] i l t h = absurd (omega arith)
  last_behind (x ∷ xs) zero l t h =
      let r = none_behind xs (λ k d m. h (suc k) d (omega arith) (omega arith)) in
      let own : test x ≡ true = t x in
      rw (r, own) refl
  last_behind (x ∷ xs) (suc i) l t h =
      let r : behind test xs ≡ suc i = omega (arith, last_behind xs i (omega arith) t (λ k d m n. h (suc k) d (omega arith) (omega arith))) in
      rw r (grind (arith, nat_tests))

-- what a run read at a place
seen : {A B : Type 0} (v : A → B) (P : A → Type 0) (o : Option A) (z : B) → option_map v o ≡ Some z → IfSome o P → (y : A) × (v y ≡ z) × P y
seen v P None z e h = absurd (grind (arith, e))
seen v P (Some y) z e h = (y, grind (arith, e), h)

some_and : {A : Type 0} (P : A → Type 0) (o : Option A) → IsSomeAnd o P → IfSome o P
some_and P None h = tt
some_and P (Some y) h = h

module _ {S F X : Type 0} {steps : S → Option (Bor X) → S → Type 0} (p : Run steps) (xs : List X) (g : Mut F (Bor X × Unit {0}) Bool) (f : F) (test : X → Bool) (read : ItemsMapToReversed p (λ y. y.now) xs) (computes : (x : Bor X) (r : Bool) → Called g f (x, tt) r f → r ≡ test x.now) where
  answered : (k : ℕ) (d : X) (r : Bool) → k < length xs → length xs - 1 - k < p.len → IfSome (p.at (length xs - 1 - k)) (λ x. Called g f (x, tt) r f) → test (get_or xs k d) ≡ r
  answered k d r l m h =
      let y = seen (λ y. y.now) (λ x. Called g f (x, tt) r f) (p.at (length xs - 1 - k)) (get_or xs k d) (read.2 k d l m) h in
      sym (computes y.0 r y.2 ∙ ap test y.1)

  pub last_found : CallKeepsClosure g f → (r : Option ℕ) → IfSome r (λ i. i < length xs) → MatchOption r ((p.whole ≡ true) × AllItemsGive p g f false) (λ i. (i + p.len ≡ length xs) × IsFirstToGive p g f true false (length xs - 1 - i)) → option_map_or (λ i. i + 1) r 0 ≡ behind test xs
  last_found keeps None within h =
      let all = h.1 keeps in
      let long = read.1 h.0 in
      sym (none_behind test xs (λ k d l. answered k d false l (omega arith) (all (length xs - 1 - k))))
  last_found keeps (Some i) within h =
      let first = h.1 keeps in
      let says = λ (r : Bool) (x : Bor X). Called g f (x, tt) r f in
      sym (last_behind test xs i within
      (λ d. answered i d true within (omega (arith, h.0)) (some_and (says true) (p.at (length xs - 1 - i)) first.0))
      (λ k d m l. answered k d false l (omega (arith, h.0)) (some_and (says false) (p.at (length xs - 1 - k)) (first.1 (length xs - 1 - k) (omega arith)))))
