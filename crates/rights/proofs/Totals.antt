-- MW in all under transfers, returns, cancels and awards.
use Rattle.std.proofs.Common.{◌≡◌, ℕ, ◌+◌, ◌-◌, ◌*◌, ◌<◌, ◌≤◌, true, ◌≢◌, ◌⊎◌, List, [], length, get_or, refl, ap, arith, get_or-set_other}
use Rattle.std.proofs.lemmas.Bool.{leb-true}
use Rattle.roll.specs.Rows.{each_with}
use Rattle.roll.proofs.Changes.{set_up, set_down, sum_up, sum_down, sum_each, each_up}
use Rattle.rights.specs.declared.hours.Hour.{Hour}
use Rattle.rights.specs.Spans.{part}
use Rattle.rights.specs.Totals.{mw_at, hour_mw, all_mw}
use Rattle.rights.specs.Holdings.{no_hour, mw_of, row_at, with_row, holds, holds_through, fewer, more, handed, transferred, awarded}
use Rattle.rights.specs.Returns.{taken, returned, waiting_more, restored, given_back}
use Rattle.rights.proofs.Spans.{over_up, over_sum_up, over_down, over_sum_down, over_out, all_any}

-- a row with a participant's MW fewer, or more
row_fewer : (p mw : ℕ) (row : List ℕ) → mw ≤ get_or row p 0 → mw_of (fewer p mw row) + mw ≤ mw_of row
row_fewer p mw row h = sum_down (λ x. x) 0 refl row p (get_or row p 0 - mw) mw (omega arith)

row_more : (p mw : ℕ) (row : List ℕ) → mw_of (more p mw row) ≤ mw_of row + mw
row_more p mw row = sum_up (λ x. x) 0 refl row p (get_or row p 0 + mw) mw (omega arith)

-- an hour with another row of an auction, of at most c MW more, or at least c fewer
module _ (a : ℕ) (row : List ℕ) (hour : Hour) (c : ℕ) where
  pub row_up : mw_of row ≤ mw_of (row_at a hour) + c → (b : ℕ) → mw_of (row_at b (with_row a row hour)) ≤ mw_of (row_at b hour) + c
  row_up h b = set_up mw_of [] hour.rows a row b c h

  pub row_down : mw_of row + c ≤ mw_of (row_at a hour) → mw_of (row_at a (with_row a row hour)) + c ≤ mw_of (row_at a hour)
  row_down h = set_down mw_of [] refl hour.rows a row c h

  pub hour_up : mw_of row ≤ mw_of (row_at a hour) + c → hour_mw (with_row a row hour) ≤ hour_mw hour + c
  hour_up h = sum_up mw_of [] refl hour.rows a row c h

  pub hour_down : mw_of row + c ≤ mw_of (row_at a hour) → hour_mw (with_row a row hour) + c ≤ hour_mw hour
  hour_down h = sum_down mw_of [] refl hour.rows a row c h

-- a transfer leaves the MW of each auction in each hour as they are, or fewer
module _ (a giver taker mw first hours : ℕ) (rights : List Hour) (held : holds_through a giver mw first hours rights ≡ true) where
  row_handed : (hour : Hour) → holds a giver mw hour ≡ true → mw_of (more taker mw (fewer giver mw (row_at a hour))) ≤ mw_of (row_at a hour) + 0
  row_handed hour h = omega (arith, row_more taker mw (fewer giver mw (row_at a hour)), row_fewer giver mw (row_at a hour) (leb-true _ _ h))

  pub transferred_at : (b h : ℕ) → mw_at b h (transferred a giver taker mw first hours rights) ≤ mw_at b h rights
  transferred_at b h =
      omega (arith, over_up (λ hour. mw_of (row_at b hour)) (handed a giver taker mw) (holds a giver mw) 0 (λ hour k. row_up a _ hour 0 (row_handed hour k) b) first hours rights no_hour h held)

  pub transferred_all : all_mw (transferred a giver taker mw first hours rights) ≤ all_mw rights
  transferred_all = omega (arith, over_sum_up hour_mw (handed a giver taker mw) (holds a giver mw) 0 (λ hour k. hour_up a _ hour 0 (row_handed hour k)) first hours rights held)

-- a return takes its MW out in each hour of the span
module _ (a p mw first hours : ℕ) (rights : List Hour) (held : holds_through a p mw first hours rights ≡ true) where
  row_taken : (hour : Hour) → holds a p mw hour ≡ true → mw_of (fewer p mw (row_at a hour)) + mw ≤ mw_of (row_at a hour)
  row_taken hour h = row_fewer p mw (row_at a hour) (leb-true _ _ h)

  pub returned_at : (b h : ℕ) → mw_at b h (returned a p mw first hours rights) ≤ mw_at b h rights
  returned_at b h =
      omega (arith, over_up (λ hour. mw_of (row_at b hour)) (taken a p mw) (holds a p mw) 0 (λ hour k. row_up a _ hour 0 (omega (arith, row_taken hour k)) b) first hours rights no_hour h held)

  pub returned_in : (h : ℕ) → first ≤ h → h < first + hours → h < length rights → mw_at a h (returned a p mw first hours rights) + mw ≤ mw_at a h rights
  returned_in h lo hi l = over_down (λ hour. mw_of (row_at a hour)) (taken a p mw) (holds a p mw) mw (λ hour k. row_down a _ hour mw (row_taken hour k)) first hours rights no_hour h lo hi l held

  pub returned_all : first + hours ≤ length rights → all_mw (returned a p mw first hours rights) + hours * mw ≤ all_mw rights
  returned_all l = over_sum_down hour_mw (taken a p mw) (holds a p mw) mw (λ hour k. hour_down a _ hour mw (row_taken hour k)) first hours rights l held

-- and lets them wait
pub waiting_at : (a p mw : ℕ) (waiting : Hour) (b : ℕ) → mw_of (row_at b (waiting_more a p mw waiting)) ≤ mw_of (row_at b waiting) + mw
waiting_at a p mw waiting b = row_up a _ waiting mw (row_more p mw (row_at a waiting)) b

pub waiting_others : (a p mw : ℕ) (waiting : Hour) (b : ℕ) → b ≢ a → mw_of (row_at b (waiting_more a p mw waiting)) ≡ mw_of (row_at b waiting)
waiting_others a p mw waiting b ne = ap mw_of (get_or-set_other waiting.rows a b _ [] ne)

pub waiting_all : (a p mw : ℕ) (waiting : Hour) → hour_mw (waiting_more a p mw waiting) ≤ hour_mw waiting + mw
waiting_all a p mw waiting = hour_up a _ waiting mw (row_more p mw (row_at a waiting))

-- a cancel gives back what waits, in the hours of the span and no others
module _ (waiting : Hour) (first hours : ℕ) (rights : List Hour) where
  row_back : (back row : List ℕ) → mw_of (each_with (λ x mw. mw + x) back row) ≤ mw_of row + mw_of back
  row_back back row = sum_each (λ x. x) (λ x mw. mw + x) (λ x. x) (λ x mw. omega arith) back row

  pub given_back_at : (b h : ℕ) → mw_at b h (given_back waiting first hours rights) ≤ mw_at b h rights + mw_of (row_at b waiting)
  given_back_at b h =
      over_up (λ hour. mw_of (row_at b hour)) (restored waiting) (λ _. true) (mw_of (row_at b waiting)) (λ hour k. each_up mw_of (each_with (λ x mw. mw + x)) mw_of row_back [] [] waiting.rows hour.rows b) first hours rights no_hour h (all_any (part first hours rights))

  pub given_back_out : (b h : ℕ) → (h < first) ⊎ (first + hours ≤ h) → mw_at b h (given_back waiting first hours rights) ≡ mw_at b h rights
  given_back_out b h o = ap (λ hour. mw_of (row_at b hour)) (over_out (restored waiting) first hours rights no_hour h o)

  pub given_back_all : all_mw (given_back waiting first hours rights) ≤ all_mw rights + hours * hour_mw waiting
  given_back_all = over_sum_up hour_mw (restored waiting) (λ _. true) (hour_mw waiting) (λ hour k. sum_each mw_of (each_with (λ x mw. mw + x)) mw_of row_back waiting.rows hour.rows) first hours rights (all_any (part first hours rights))

-- an award holds its MW in each hour of the span
module _ (a : ℕ) (mw : List ℕ) (first hours : ℕ) (rights : List Hour) where
  pub awarded_at : (b h : ℕ) → mw_at b h (awarded a mw first hours rights) ≤ mw_at b h rights + mw_of mw
  awarded_at b h = over_up (λ hour. mw_of (row_at b hour)) (with_row a mw) (λ _. true) (mw_of mw) (λ hour k. row_up a mw hour (mw_of mw) (omega arith) b) first hours rights no_hour h (all_any (part first hours rights))

  pub awarded_out : (b h : ℕ) → (h < first) ⊎ (first + hours ≤ h) → mw_at b h (awarded a mw first hours rights) ≡ mw_at b h rights
  awarded_out b h o = ap (λ hour. mw_of (row_at b hour)) (over_out (with_row a mw) first hours rights no_hour h o)

  pub awarded_others : (b h : ℕ) → b ≢ a → mw_at b h (awarded a mw first hours rights) ≤ mw_at b h rights
  awarded_others b h ne =
      let same : (hour : Hour) → mw_of (row_at b (with_row a mw hour)) ≡ mw_of (row_at b hour) = λ hour. ap mw_of (get_or-set_other hour.rows a b mw [] ne) in
      omega (arith, over_up (λ hour. mw_of (row_at b hour)) (with_row a mw) (λ _. true) 0 (λ hour k. omega (arith, same hour)) first hours rights no_hour h (all_any (part first hours rights)))

  pub awarded_all : all_mw (awarded a mw first hours rights) ≤ all_mw rights + hours * mw_of mw
  awarded_all = over_sum_up hour_mw (with_row a mw) (λ _. true) (mw_of mw) (λ hour k. hour_up a mw hour (mw_of mw) (omega arith)) first hours rights (all_any (part first hours rights))
