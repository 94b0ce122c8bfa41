use Rattle.std.proofs.Common.{◌≡◌, ◌+◌, length, take}
use Rattle.lines.specs.Page.{laid, spaced}
use Rattle.lines.proofs.page.put_numbers.Given as goal

abbrev pub invariant-loop-n : goal.invariant-loop-n
invariant-loop-n l =
    (l.page ≡ laid l.initial.end (spaced (take l.n-index l.numbers)) l.initial.page)
    × (l.end ≡ l.initial.end + length (spaced (take l.n-index l.numbers)))
