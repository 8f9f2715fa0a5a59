-- Sums of naturals: `total X k` is X 0 + .. + X (k - 1). Assumes nothing.
use Rattle.std.proofs.Common.{ℕ, zero, suc, ◌*◌, ◌<◌, ◌≤◌, suc-mul, arith}
use Rattle.float32.specs.Value.{total}

pub total-bound : (X : ℕ → ℕ) (H k : ℕ) → ((i : ℕ) → i < k → X i ≤ H) → total X k ≤ k * H
unfolding total
total-bound X H zero h = omega arith
total-bound X H (suc k) h =
    let a = total-bound X H k (λ i l. h i (omega arith)) in
    let b : X k ≤ H = h k (omega arith) in
    omega (arith, suc-mul k H)
