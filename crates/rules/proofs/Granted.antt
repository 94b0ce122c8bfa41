-- What is known where a call is granted: every test of its table failed.
use Rattle.std.proofs.Common.{◌≡◌, ℕ, ◌+◌, ◌≤◌, Bool, true, false, cond, not, ◌&&◌, ◌||◌, List, [], ◌∷◌, Ok, Err, Result, sym, refl, ap, subst, arith}
use Rattle.std.proofs.lemmas.Bool.Decides.{nat_tests}
use Rattle.ledger.specs.Auctions.{is_open, is_sealed}
use Rattle.ledger.specs.declared.auctions.Stage.{Stage}
use Rattle.ledger.specs.declared.auctions.Stage.TheVariants.{Open, Sealed, Awarded, Cancelled}
use Rattle.ledger.specs.declared.ledgers.Ledger.{Ledger}
use Rattle.rules.specs.declared.refusals.Refusal.{Refusal}
use Rattle.rules.specs.Moments.{Moment}
use Rattle.rules.specs.Steps.{Leaves, bad_hours, bad_mw, not_opened, stranger}
use Rattle.rules.specs.Tables.{Row, answers, is_granted, passes}

-- every test failed
abbrev pub Passed : List Row → Type 0
Passed [] = Unit {0}
Passed (row ∷ rows) = (row.test ≡ false) × Passed rows

pub passed : (rows : List Row) → passes rows ≡ true → Passed rows
passed [] h = tt
passed (row ∷ rows) h = go (passed rows) row.test refl h
  where
    go : (passes rows ≡ true → Passed rows) → (b : Bool) → row.test ≡ b → cond b false (passes rows) ≡ true → Passed (row ∷ rows)
    go ih true e k = absurd (let z : ◌≡◌ {A = ℕ} 0 1 = cc in omega arith)
    go ih false e k = (e, ih k)

pub granted_passes : {A : Type 0} (rows : List Row) (v : A) → is_granted (answers rows v) ≡ passes rows
granted_passes [] v = refl
granted_passes (row ∷ rows) v = go (granted_passes rows v) row.test
  where
    go : is_granted (answers rows v) ≡ passes rows → (b : Bool) → is_granted (cond b (Err row.names) (answers rows v)) ≡ cond b false (passes rows)
    go ih true = refl
    go ih false = ih

-- a refusal is nothing but its number, and a granted call answers its value
pub granted_value : {A : Type 0} (rows : List Row) (v : A) → passes rows ≡ true → answers rows v ≡ Ok v
granted_value [] v h = refl
granted_value (row ∷ rows) v h = go (granted_value rows v) row.test h
  where
    go : (passes rows ≡ true → answers rows v ≡ Ok v) → (b : Bool) → cond b false (passes rows) ≡ true → cond b (Err row.names) (answers rows v) ≡ Ok v
    go ih true k = absurd (let z : ◌≡◌ {A = ℕ} 0 1 = cc in omega arith)
    go ih false k = ih k

-- what held before a call that leaves the collateral alone holds after it, if it holds after a grant
pub leaves_keeps : {A : Type 0} (P : Ledger → Type 0) (table : List Row) (value : A) (after : Ledger) (m : Moment) (r : Result A Refusal) (m' : Moment) →
    Leaves table value after m r m' → P m.ledger → (Passed table → P after) → P m'.ledger
leaves_keeps P table value after m r m' s old new = subst P (sym s.ledger) (go (passes table) refl)
  where
    go : (b : Bool) → passes table ≡ b → P (cond b after m.ledger)
    go true e = new (passed table e)
    go false e = old

-- the single tests
pub a_participant : (p : ℕ) → stranger p ≡ false → (1 ≤ p) × (p ≤ 12)
a_participant p h = (grind (arith, nat_tests), grind (arith, nat_tests))

pub an_auction : (a : ℕ) (l : Ledger) → not_opened a l ≡ false → (1 ≤ a) × (a ≤ l.opened)
an_auction a l h = (grind (arith, nat_tests), grind (arith, nat_tests))

pub good_mw : (mw : ℕ) → bad_mw mw ≡ false → (1 ≤ mw) × (mw ≤ 5000)
good_mw mw h = (grind (arith, nat_tests), grind (arith, nat_tests))

pub good_span : (first hours : ℕ) → bad_hours first hours ≡ false → (1 ≤ hours) × (first + hours ≤ 192)
good_span first hours h = (grind (arith, nat_tests), grind (arith, nat_tests))

pub both_pass : (b c : Bool) → (b || c) ≡ false → (b ≡ false) × (c ≡ false)
both_pass true c h = absurd (let z : ◌≡◌ {A = ℕ} 0 1 = cc in omega arith)
both_pass false c h = (refl, h)

pub stage_open : (s : Stage) → not (is_open s) ≡ false → s ≡ Open
stage_open Open h = refl
stage_open Sealed h = absurd (let z : ◌≡◌ {A = ℕ} 0 1 = cc in omega arith)
stage_open (Awarded price) h = absurd (let z : ◌≡◌ {A = ℕ} 0 1 = cc in omega arith)
stage_open Cancelled h = absurd (let z : ◌≡◌ {A = ℕ} 0 1 = cc in omega arith)

pub stage_sealed : (s : Stage) → not (is_sealed s) ≡ false → s ≡ Sealed
stage_sealed Open h = absurd (let z : ◌≡◌ {A = ℕ} 0 1 = cc in omega arith)
stage_sealed Sealed h = refl
stage_sealed (Awarded price) h = absurd (let z : ◌≡◌ {A = ℕ} 0 1 = cc in omega arith)
stage_sealed Cancelled h = absurd (let z : ◌≡◌ {A = ℕ} 0 1 = cc in omega arith)

pub holds_if : (b : Bool) → not b ≡ false → b ≡ true
holds_if true h = refl
holds_if false h = absurd (let z : ◌≡◌ {A = ℕ} 0 1 = cc in omega arith)

pub both_hold : (b c : Bool) → (b && c) ≡ true → (b ≡ true) × (c ≡ true)
both_hold true c h = (refl, h)
both_hold false c h = absurd (let z : ◌≡◌ {A = ℕ} 0 1 = cc in omega arith)

pub open_if : (s : Stage) → is_open s ≡ true → s ≡ Open
open_if s h = stage_open s (ap not h)
