-- What a book shows.
use Rattle.book.specs.declared.books.Book.{Book}
use Rattle.ledger.specs.Limits.{Cover}
use Rattle.rules.specs.Moments.{Moment, Verdict, seen}

-- a book at a moment: its ledger, and the cover and verdicts of its collateral, whose kind says what these are
abbrev pub moment : {C : Type 0} → (C → Cover) → (C → Verdict) → Book C → Moment
moment cover verdict b = seen b.ledger (cover b.collateral) (verdict b.collateral)
