-- What `zakdomp_response_limits` promises, by the promise of `response_limits`.
use Rattle.std.specs.Prelude.{ℕ, List, ℤ}
use Rattle.lists.specs.Refusals.{verdict}
use Rattle.response_limits.specs.Promise.{LimitsWritten}

-- r is the number of the answer, and the buffers are the answer's too
pub record LimitsTold (low high : List ℕ) (w h ring : ℕ) (lows highs : List ℤ) (r : ℕ)
    (lows' highs' : List ℤ) : Type 0 where
  pub answer : LimitsWritten low high w h ring lows highs (verdict r) lows' highs'
