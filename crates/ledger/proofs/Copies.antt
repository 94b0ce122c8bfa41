-- Lists of one record many times.
use Rattle.std.proofs.Common.{ℕ, zero, suc, get_or, replicate}

-- what holds of the record, and of what stands for one that is not there, holds at each place
pub at_copy : {X : Type 0} (P : X → Type 0) (x d : X) → P x → P d → (n k : ℕ) → P (get_or (replicate n x) k d)
at_copy P x d here past zero k = past
at_copy P x d here past (suc n) zero = here
at_copy P x d here past (suc n) (suc k) = at_copy P x d here past n k
