use Rattle.std.proofs.Common.{◌+◌, ◌-◌, ◌≤◌, cond, length}
use Rattle.book.specs.Books.{moment}
use Rattle.runner.specs.Files.{RanOn}
use Rattle.runner.specs.Outcomes.{goes_on}
use Rattle.runner.proofs.files.run.Given as goal

abbrev pub invariant-loop-book : goal.invariant-loop-book
invariant-loop-book g l =
    RanOn l.initial.input l.initial.place l.initial.page (moment g.C.Collateral.cover g.C.Collateral.verdict l.initial.book) l.ran l.page (moment g.C.Collateral.cover g.C.Collateral.verdict l.book)
    × (l.ran.at ≤ length l.page)

abbrev pub decreases-loop-book : goal.decreases-loop-book
decreases-loop-book g l = cond (goes_on l.ran.outcome) (1 + (length l.initial.input - l.ran.place)) 0
