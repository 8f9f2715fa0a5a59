-- SR, DR and the ring sum in one pass over the eight pairs of opposite samples, s(k) and s(k + 8) (RULES 22).
use Rattle.std.specs.Prelude.{ℕ, zero, suc, ◌+◌, ◌-◌, min, ◌≡◌, cond, List, ltb, get_or, set, replicate}
use Rattle.float32.specs.Value.{dist}
use Rattle.response.specs.declared.Held.{Held}

-- what is held before the first pair: all sums are 0, and no pair's sum is kept
abbrev pub no_pairs : Held
no_pairs = record { sr = 0; dr = 0; sum = 0; first = replicate 4 0 }

-- what is held with one more pair k, whose samples are a and b. The sums of pairs 0 to 3 are kept; each later one is
-- compared with the kept sum of the pair four before, a quarter turn back
unfoldable pub with_pair : ℕ → ℕ → ℕ → Held → Held
with_pair k a b h = record {
  sr = h.sr + cond (ltb k 4) 0 (dist (get_or h.first (k - 4) 0) (a + b));
  dr = h.dr + dist a b;
  sum = h.sum + (a + b);
  first = cond (ltb k 4) (set h.first k (a + b)) h.first;
}

-- what is held after the first n pairs of sixteen samples
unfoldable pub passed_after : List ℕ → ℕ → Held
unfolding with_pair
passed_after s zero = no_pairs
passed_after s (suc n) = with_pair n (get_or s n 0) (get_or s (n + 8) 0) (passed_after s n)

-- the promise of `ring_sums` for sixteen samples and a number n of pairs: what is held after n pairs, or after all
-- eight if n is above 8
abbrev pub RingPassed : List ℕ → ℕ → Held → Type 0
RingPassed s n r = r ≡ passed_after s (min n 8)
