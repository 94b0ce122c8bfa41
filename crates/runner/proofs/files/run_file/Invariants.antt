use Rattle.std.proofs.Common.{◌≡◌, length}
use Rattle.book.specs.Books.{moment}
use Rattle.runner.specs.Files.{RanTo}
use Rattle.runner.proofs.files.run_file.Given as goal

-- the page keeps its size
abbrev pub invariant-loop : goal.invariant-loop
invariant-loop g l =
    (length l.page ≡ 4096)
    × RanTo l.initial.input (moment g.C.Collateral.cover g.C.Collateral.verdict l.initial.book) l.place (moment g.C.Collateral.cover g.C.Collateral.verdict l.book)
