-- From `response_accurate`: accurate floats stand in the order of their exact values, whatever maps they stand in. Assumes nothing.
use Rattle.accuracy.proofs.Judged.{ordered}
use Rattle.demands.specs.ResponseCall.{computed_at, exact_at}
use Rattle.demands.specs.AnyRing.{computed_in, exact_in}
use Rattle.demands.specs.ResponsesOrdered.{ResponsesOrdered}
use Rattle.demands.proofs.ResponseAccurate.{response_accurate}

pub responses_ordered : ResponsesOrdered
responses_ordered = record {
  calls = λ c d p q in_c in-d less.
      ordered (computed_at c p) (computed_at d q) (exact_at c p) (exact_at d q) (response_accurate.call c p in_c)
      (response_accurate.call d q in-d) less;
  any_ring = λ a b p q in-a in_b less.
      ordered (computed_in a p) (computed_in b q) (exact_in a p) (exact_in b q) (response_accurate.any_ring a p in-a)
      (response_accurate.any_ring b q in_b) less;
}
