-- From the laws of response. Assumes nothing.
use Prim.Native.Nat.{ℕ, ◌+◌, min}
use native.Mathlib.Omega.{arith}
use mathlib.Core.Path.{◌≡◌, refl, sym, ap, ◌∙◌}
use mathlib.Core.List.{List}
use Rattle.response.specs.declared.Held.{Held}
use Rattle.response.specs.OnePass.{passed_after}
use Rattle.response.proofs.OnePass.{passed-dr, passed-sum, passed-all, passed-next}
use Rattle.demands.specs.RingPass.{RingCall, RingOnePass}

module _ (s : List ℕ) (c : RingCall s) where
  held : (n : ℕ) → min c.pairs 8 ≡ n → c.answer ≡ passed_after s n
  held n e = c.promise ∙ ap (passed_after s) e

pub ring_one_pass : RingOnePass
ring_one_pass s sixteen c =
    let whole = passed-all s in
    record {
      dr_passed = λ l. ap (λ (h : Held). h.dr) (held s c c.pairs (omega arith)) ∙ passed-dr s c.pairs;
      sum_passed = λ l. ap (λ (h : Held). h.sum) (held s c c.pairs (omega arith)) ∙ passed-sum s c.pairs;
      pair_more = λ l d e.
          held s d (c.pairs + 1) (omega arith)
          ∙ sym (passed-next s c.pairs c.answer _ (held s c c.pairs (omega arith)) refl);
      sr_whole = λ l. ap (λ (h : Held). h.sr) (held s c 8 (omega arith)) ∙ whole.sr_is;
      dr_whole = λ l. ap (λ (h : Held). h.dr) (held s c 8 (omega arith)) ∙ whole.dr_is;
      sum_whole = λ l. ap (λ (h : Held). h.sum) (held s c 8 (omega arith)) ∙ whole.sum_is;
    }
