-- Request 3: "take SR, DR and the ring sum in one pass over the eight opposite pairs". The code's own function,
-- `ring_sums` of response, takes the number of pairs; the statement is about its answers, by its promise.
use Rattle.std.specs.Prelude.{ℕ, ◌+◌, ◌≤◌, ◌<◌, ◌≡◌, List, length, get_or}
use Rattle.float32.specs.Value.{dist, total}
use Rattle.response.specs.Response.{sr_of, dr_of, ring_sum_of}
use Rattle.response.specs.declared.Held.{Held}
use Rattle.response.specs.OnePass.{with_pair, RingPassed}

-- a call of `ring_sums` on samples s, with its promise word for word
pub record RingCall (s : List ℕ) : Type 0 where
  pub pairs : ℕ
  pub answer : Held
  pub promise : RingPassed s pairs answer

pub record OnePass (s : List ℕ) (c : RingCall s) : Type 0 where
  -- "after each pair the DR and sum held are those of the pairs passed": of the pairs k < n
  pub dr_passed : c.pairs ≤ 8 → c.answer.dr ≡ total (λ k. dist (get_or s k 0) (get_or s (k + 8) 0)) c.pairs
  pub sum_passed : c.pairs ≤ 8 → c.answer.sum ≡ total (λ k. get_or s k 0 + get_or s (k + 8) 0) c.pairs
  -- "in one pass": what is held after one more pair depends only on what was held before it and on that pair's two
  -- samples
  pub pair_more : c.pairs < 8 → (d : RingCall s) → d.pairs ≡ c.pairs + 1
      → d.answer ≡ with_pair c.pairs (get_or s c.pairs 0) (get_or s (c.pairs + 8) 0) c.answer
  -- "at the end all three are the paper's"
  pub sr_whole : 8 ≤ c.pairs → c.answer.sr ≡ sr_of s
  pub dr_whole : 8 ≤ c.pairs → c.answer.dr ≡ dr_of s
  pub sum_whole : 8 ≤ c.pairs → c.answer.sum ≡ ring_sum_of s

-- "For any sixteen samples"
abbrev pub RingOnePass : Type 0
RingOnePass = (s : List ℕ) → length s ≡ 16 → (c : RingCall s) → OnePass s c
