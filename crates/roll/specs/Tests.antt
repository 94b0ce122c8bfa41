-- Closures that test a record.
use Rattle.std.specs.Prelude.{◌≡◌, Bool}
use Rattle.std.specs.Fn.{FnReturnsAt}
use denote.Param.Members.{Shared}
use denote.Ref.{Bor}

-- each call of the closure answers what the test says of the record
abbrev pub Computes : {F X : Type 0} → Shared F (Bor X × Unit {0}) Bool → F → (X → Bool) → Type 0
Computes {F} {X} g f test = (x : X) (r : Bool) → FnReturnsAt g f x r → r ≡ test x
