-- The numbers of the reader's refusals.
use Rattle.std.specs.Prelude.{ℕ}
use Rattle.command.specs.declared.unreadable.Unreadable.{Unreadable}
use Rattle.command.specs.declared.unreadable.Unreadable.TheVariants.{UnknownLetter, CutShort, LongFile, PageEnd}

-- 41 unknown letter, 42 cut short, 43 long file, 44 page end
abbrev pub number_of : Unreadable → ℕ
number_of UnknownLetter = 41
number_of CutShort = 42
number_of LongFile = 43
number_of PageEnd = 44
