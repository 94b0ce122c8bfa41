use Rattle.std.proofs.Common.{rules}
use Rattle.rules.proofs.Directions.{directions_apart}
use Rattle.rules.proofs.Promises.{always_sound, credit_law, refusals_change_nothing}
use Rattle.book.proofs.books.Book.new.Goals as goal

pub invariant_of-result : goal.invariant_of-result
invariant_of-result g c = record { sound = ∣ c.new.ensures.sound ∣₁ }

pub returns : goal.returns
returns g c = record { ledger = search rules; collateral = search rules; law = credit_law; sound = always_sound; refusals = refusals_change_nothing; directions = directions_apart }
