-- Two kinds joined: their covers add up.
--   joined_verdict  an add is judged by the first kind that knows the number
--   joined_taken    a take empties the first kind before the second
--   joined_added    an add goes to the first kind that knows the number
use Rattle.std.specs.Prelude.{ℕ, ◌+◌, ◌-◌, min, Bool, cond, Err, Result, nat_le}
use Rattle.collateral.specs.declared.joined.Joined.{Joined}
use Rattle.collateral.specs.declared.kind.Cause.{Cause}
use Rattle.collateral.specs.declared.kind.Cause.TheVariants.{Stranger, UnknownKind}
use Rattle.collateral.specs.Cover.{participant}

-- what a kind says of itself: its cover, the numbers it knows, how it judges an add, and what a take and an add leave
abbrev Covers : Type 0 → Type 0
Covers K = K → ℕ → ℕ → ℕ

abbrev Judges : Type 0 → Type 0
Judges K = K → ℕ → ℕ → ℕ → ℕ → ℕ → Result (Unit {0}) Cause

abbrev Takes : Type 0 → Type 0
Takes K = K → ℕ → ℕ → ℕ → K

abbrev Adds : Type 0 → Type 0
Adds K = K → ℕ → ℕ → ℕ → ℕ → ℕ → K

abbrev pub joined_verdict : {F S : Type 0} → (ℕ → Bool) → (ℕ → Bool) → Judges F → Judges S → Judges (Joined F S)
joined_verdict known-1 known-2 judge-1 judge-2 j p kind sum last today =
    cond (known-1 kind) (judge-1 j.first p kind sum last today)
    (cond (known-2 kind) (judge-2 j.second p kind sum last today)
    (cond (participant p) (Err UnknownKind) (Err Stranger)))

abbrev pub joined_taken : {F S : Type 0} → Covers F → Covers S → Takes F → Takes S → Takes (Joined F S)
joined_taken cover-1 cover-2 take-1 take-2 j p day sum =
    let part = min sum (cover-1 j.first p day) in
    cond (nat_le sum (cover-1 j.first p day + cover-2 j.second p day))
    (record { first = take-1 j.first p day part; second = take-2 j.second p day (sum - part) }) j

abbrev pub joined_added : {F S : Type 0} → (ℕ → Bool) → (ℕ → Bool) → Adds F → Adds S → Adds (Joined F S)
joined_added known-1 known-2 add-1 add-2 j p kind sum last today =
    cond (known-1 kind) (record { first = add-1 j.first p kind sum last today; second = j.second })
    (cond (known-2 kind) (record { first = j.first; second = add-2 j.second p kind sum last today }) j)
