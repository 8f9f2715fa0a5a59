-- Request 12: the two merges, by the laws of `merge_alike` and of `merge_naive`. Assumes nothing.
use Rattle.merge_naive.proofs.Naive.{off-returns}
use Rattle.merge_naive.proofs.Case.{by-distance, by-cells}
use Rattle.merge_alike.proofs.Alike.{numbers-alike, merges-alike}
use Rattle.demands.specs.MergeNaive.{MergesAlike, RefusesAlike, OffReturnsList, CaseToldApart}

pub naive_alike : MergesAlike
naive_alike m power on = merges-alike m.radius m.count m.before _ _ _ _ m.naive_call m.in_use_call power on

pub naive_refuses_alike : RefusesAlike
naive_refuses_alike m = numbers-alike m.radius m.count m.before _ _ _ _ m.naive_call m.in_use_call

pub naive_off : OffReturnsList
naive_off m off fits = off-returns m.radius m.before m.count off fits _ _ m.naive_call

pub naive_case : CaseToldApart
naive_case m r c fits is = (
  by-distance m.before fits is m.naive m.naive_after (rw (← r, ← c) m.naive_call),
  by-cells m.before fits is m.in_use m.in_use_after (rw (← r, ← c) m.in_use_call),
)
