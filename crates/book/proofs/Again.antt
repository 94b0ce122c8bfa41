-- What the ghost field holds after a call, and what a call knows of an auction that is opened.
use Rattle.std.proofs.Common.{◌≡◌, ℕ, ◌≤◌, false, sym, subst, arith}
use Rattle.ledger.specs.Sound.{Sound}
use Rattle.ledger.specs.declared.ledgers.Ledger.{Ledger}
use Rattle.rules.specs.Steps.{not_opened}
use Rattle.rules.proofs.Granted.{an_auction}

pub again : {m : Ledger} (l : Ledger) → l ≡ m → Sound m → ∥ Sound l ∥₁
again l e s = ∣ subst Sound (sym e) s ∣₁

pub opened_of : (n a : ℕ) (l : Ledger) → n ≡ a → not_opened a l ≡ false → n ≤ l.opened
opened_of n a l e h = let there = an_auction a l h in omega arith
