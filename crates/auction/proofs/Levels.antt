-- The level at which the MW at the price are shared.
use Rattle.std.proofs.Common.{◌≡◌, ℕ, ◌<◌, ◌≤◌, min, Bool, true, false, cond, leb, ◌⊎◌, List, [], ◌∷◌, Option, Some, None, refl, inl, inr, arith}
use Rattle.std.proofs.lemmas.Bool.{cases_lt, leb-true, leb-false, le-leb}
use Rattle.roll.specs.Sums.{sum_of}
use Rattle.roll.proofs.Sums.{sum_mono}
use Rattle.roll.proofs.Maxima.{largest_passes, beyond_fails, largest_le}
use Rattle.auction.specs.Award.{total_shares, share_level, sharing_of, share, LargestLevel}

abbrev fits : ℕ → List ℕ → ℕ → Bool
fits r ds s = leb (total_shares ds s) r

shares_none : (ds : List ℕ) → total_shares ds 0 ≡ 0
shares_none [] = refl
shares_none (d ∷ ds) = omega (arith, shares_none ds)

pub level_fits : (r : ℕ) (ds : List ℕ) → total_shares ds (share_level r ds) ≤ r
level_fits r ds = leb-true _ _ (largest_passes (fits r ds) r (le-leb _ _ (omega (arith, shares_none ds))))

shares_grow : (ds : List ℕ) (s t : ℕ) → s ≤ t → total_shares ds s ≤ total_shares ds t
shares_grow ds s t h = sum_mono (λ d. min d s) (λ d. min d t) ds (λ d. omega arith)

-- what fits, up to r, is at most the level; what does not fit is above it
pub level_reached : (r : ℕ) (ds : List ℕ) (s : ℕ) → s ≤ r → total_shares ds s ≤ r → s ≤ share_level r ds
level_reached r ds s h k = elim (cases_lt (share_level r ds) s) [ inl lt ↦ absurd (omega (arith, leb-false _ _ (beyond_fails (fits r ds) r s lt h))) | inr le ↦ le ]

pub level_passed : (r : ℕ) (ds : List ℕ) (s : ℕ) → r < total_shares ds s → share_level r ds < s
level_passed r ds s h = elim (cases_lt (share_level r ds) s) [ inl lt ↦ lt | inr le ↦ absurd (omega (arith, shares_grow ds s (share_level r ds) le, level_fits r ds)) ]

pub level_within : (r : ℕ) (ds : List ℕ) → share_level r ds ≤ r
level_within r ds = largest_le (fits r ds) r

-- where some share is cut they total at least the cut; else all get what they ask for
cut_or_whole : (ds : List ℕ) (s : ℕ) → (s ≤ total_shares ds s) ⊎ (total_shares ds s ≡ sum_of (λ d. d) ds)
cut_or_whole [] s = inr refl
cut_or_whole (d ∷ ds) s = elim (cut_or_whole ds s) [
  | inl h ↦ inl (omega arith)
  | inr e ↦ elim (cases_lt d s) [ inl lt ↦ inr (omega arith) | inr le ↦ inl (omega arith) ]
]

pub largest_level : (r : ℕ) (ds : List ℕ) → LargestLevel r ds (share_level r ds)
largest_level r ds = record {
  fits = level_fits r ds;
  largest = λ t short h. elim (cut_or_whole ds t) [ inl le ↦ level_reached r ds t (omega arith) h | inr e ↦ absurd (omega arith) ];
}

-- nobody gets more than it asks for, and all together at most what remains
pub share_le : (σ : Option ℕ) (d : ℕ) → share σ d ≤ d
share_le None d = omega arith
share_le (Some s) d = omega arith

pub shares_fit : (r : ℕ) (ds : List ℕ) → sum_of (share (sharing_of r ds)) ds ≤ r
shares_fit r ds = go (leb (sum_of (λ d. d) ds) r) refl
  where
    go : (b : Bool) → leb (sum_of (λ d. d) ds) r ≡ b → sum_of (share (cond b None (Some (share_level r ds)))) ds ≤ r
    go true e = leb-true _ _ e
    go false e = level_fits r ds
