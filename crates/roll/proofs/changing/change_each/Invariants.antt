use Rattle.std.proofs.Common.{◌≡◌, ℕ, ◌≤◌, get_or, take}
use Rattle.roll.specs.Rows.{Changes, each_with}
use Rattle.roll.proofs.changing.change_each.Given as goal

-- what is ahead is as it was, and what is behind is changed as the closure does, whatever change it computes
abbrev pub invariant-loop-i : goal.invariant-loop-i
invariant-loop-i g l =
    ((k : ℕ) (d : _) → l.i ≤ k → get_or l.xs k d ≡ get_or l.initial.xs k d)
    × ((changed : _ → _ → _) → Changes (goal.F-post g l.change) changed → l.xs ≡ each_with changed (take l.i l.vs) l.initial.xs)
