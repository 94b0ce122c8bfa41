-- What a roll shows: its row of places, the records in the front of it, and whether a place is free.
use Rattle.std.specs.Prelude.{Bool, List, length, take, nat_lt}
use Rattle.roll.specs.declared.rolls.Roll.{Roll}

abbrev pub row_of : {X : Type 0} → Roll X → List X
row_of r = r.places.now

abbrev pub list_of : {X : Type 0} → Roll X → List X
list_of r = take r.len (row_of r)

abbrev pub has_room : {X : Type 0} → Roll X → Bool
has_room r = nat_lt r.len (length (row_of r))
