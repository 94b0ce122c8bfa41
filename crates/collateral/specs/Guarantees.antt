-- Guarantees: each counts up to its last day; the one that runs out first pays first.
--   held_in      the guarantees of a folder, in their order
--   past_on      a guarantee is past on the days after its last
--   valid        those that count on a day, which stand behind the past ones
--   used         what is held after a sum is taken on a day: those that are past stay as they are
--   stored       what is held after a new one is put in: the past ones leave their places
use Rattle.std.specs.Prelude.{ℕ, ◌-◌, Bool, cond, not, ◌&&◌, ◌||◌, List, [], ◌∷◌, ◌++◌, length, take, drop, replicate, Result, ◌==◌, nat_le, nat_lt, slice_index_or, slice_set}
use Rattle.roll.specs.Rolls.{clear_of, inserted, laid}
use Rattle.roll.specs.Spending.{spent, spent_clear}
use Rattle.roll.specs.Sums.{sum_of}
use Rattle.collateral.specs.declared.folder.Guarantee.{Guarantee}
use Rattle.collateral.specs.declared.folder.Folder.{Folder}
use Rattle.collateral.specs.declared.guarantees.Guarantees.{Guarantees}
use Rattle.collateral.specs.declared.kind.Cause.{Cause}
use Rattle.collateral.specs.declared.kind.Cause.TheVariants.{Stranger, UnknownKind, LastDay, NoPlace, BadSum}
use Rattle.collateral.specs.Causes.{◌⇒◌, granted, judged}
use Rattle.collateral.specs.Cover.{in_range, participant}

abbrev pub sum_in : Guarantee → ℕ
sum_in g = g.sum

abbrev pub at_sum : ℕ → Guarantee → Guarantee
at_sum n g = record { last = g.last; sum = n }

-- guarantees stand by earlier last day
abbrev pub earlier : Guarantee → Guarantee → Bool
earlier g h = nat_le g.last h.last

abbrev pub past_on : ℕ → Guarantee → Bool
past_on day g = nat_lt g.last day

abbrev pub no_folder : Folder
no_folder = record { places = replicate 4 (record { last = 0; sum = 0 }); count = 0 }

abbrev pub held_in : Folder → List Guarantee
held_in f = take f.count f.places

abbrev pub valid : ℕ → List Guarantee → List Guarantee
valid day gs = clear_of (past_on day) gs

abbrev pub folder_cover : Folder → ℕ → ℕ
folder_cover f day = sum_of sum_in (valid day (held_in f))

-- a sum spent along what stands behind the first `gone`
abbrev pub used_from : ℕ → ℕ → List Guarantee → List Guarantee
used_from gone sum gs = take gone gs ++ spent sum_in at_sum sum (drop gone gs)

abbrev pub used : ℕ → ℕ → List Guarantee → List Guarantee
used day sum gs = spent_clear sum_in at_sum (past_on day) sum gs

abbrev pub stored : ℕ → Guarantee → List Guarantee → List Guarantee
stored today g gs = inserted earlier g (valid today gs)

-- a place is free if it is empty or its guarantee is past
abbrev pub has_free : ℕ → Folder → Bool
has_free today f = nat_lt (length (valid today (held_in f))) 4

abbrev pub with_held : List Guarantee → Folder → Folder
with_held gs f = record { places = laid gs f.places; count = length gs }

-- a folder after a take, and after a new one is put in
abbrev pub paid_from : ℕ → ℕ → Folder → Folder
paid_from day sum f = with_held (used day sum (held_in f)) f

abbrev pub filed : ℕ → Guarantee → Folder → Folder
filed today g f = with_held (stored today g (held_in f)) f

-- of each participant its folder
abbrev pub no_guarantees : Guarantees
no_guarantees = record { folders = replicate 12 no_folder }

abbrev pub folder_of : Guarantees → ℕ → Folder
folder_of x p = slice_index_or x.folders (p - 1) (record { places = []; count = 0 })

abbrev pub with_folder : Guarantees → ℕ → Folder → Guarantees
with_folder x p f = record { folders = slice_set x.folders (p - 1) f }

abbrev pub guarantees_cover : Guarantees → ℕ → ℕ → ℕ
guarantees_cover x p day = cond (in_range p day) (folder_cover (folder_of x p) day) 0

abbrev pub guarantees_taken : Guarantees → ℕ → ℕ → ℕ → Guarantees
guarantees_taken x p day sum =
    let f = folder_of x p in
    cond (in_range p day && nat_le sum (folder_cover f day)) (with_folder x p (paid_from day sum f)) x

-- a sum from 1 to 10^12, a last day from today to 9,998, and a free place
abbrev pub guarantees_verdict : Guarantees → ℕ → ℕ → ℕ → ℕ → ℕ → Result (Unit {0}) Cause
guarantees_verdict x p kind sum last today =
    judged (
    (not (participant p) ⇒ Stranger)
    ∷ (not (kind == 2) ⇒ UnknownKind)
    ∷ ((sum == 0 || nat_lt 1000000000000 sum) ⇒ BadSum)
    ∷ ((nat_lt last today || nat_lt 9998 last) ⇒ LastDay)
    ∷ (not (has_free today (folder_of x p)) ⇒ NoPlace)
    ∷ [])

abbrev pub guarantees_added : Guarantees → ℕ → ℕ → ℕ → ℕ → ℕ → Guarantees
guarantees_added x p kind sum last today =
    let f = folder_of x p in
    let g : Guarantee = record { last = last; sum = sum } in
    cond (granted (guarantees_verdict x p kind sum last today)) (with_folder x p (filed today g f)) x
