-- Cover, a sum for each participant and day, and what the calls of a collateral do to it.
--   participant  numbered from 1 to 12
--   in_range     where there can be cover: a participant, and a day from 0 to 9,999
--   Took         what a granted take does to the cover
--   Added        what a granted add does to it
use Rattle.std.specs.Prelude.{◌≡◌, ℕ, ◌+◌, ◌<◌, ◌≤◌, Bool, ◌&&◌, ◌≢◌, nat_le}

abbrev pub participant : ℕ → Bool
participant p = nat_le 1 p && nat_le p 12

abbrev pub in_range : ℕ → ℕ → Bool
in_range p d = participant p && nat_le d 9999

-- a sum is taken from p: that day's cover falls by it, another day's by at most it, and none rises
pub record Took (before after : ℕ → ℕ → ℕ) (p day sum : ℕ) : Type 0 where
  pub there : after p day + sum ≡ before p day
  pub at_most : (d : ℕ) → before p d ≤ after p d + sum
  pub no_rise : (d : ℕ) → after p d ≤ before p d
  pub others : (q d : ℕ) → (q ≢ p) → after q d ≡ before q d

-- a sum is added for p: each day's cover rises by it from today to the last day, and no later day's changes
pub record Added (before after : ℕ → ℕ → ℕ) (p sum last today : ℕ) : Type 0 where
  pub raised : (d : ℕ) → today ≤ d → d ≤ last → after p d ≡ before p d + sum
  pub later : (d : ℕ) → last < d → after p d ≡ before p d
  pub others : (q d : ℕ) → (q ≢ p) → after q d ≡ before q d
