-- Against each wrong statement its smallest example, by computation. Assumes nothing.
use Prim.Native.Nat.{ℕ}
use mathlib.Core.Path.{refl, ap}
use mathlib.Core.Bool.{true, false≢true}
use mathlib.Core.List.{List, [], ◌∷◌, ◌++◌}
use lib.ListN.{length, get_or, set, replicate}
use lib.Ieee.{Float, nan, binary32, lt, le, add, sub, mul, div, of_int, of_bits, to_bits}
use borrow.Author.Tests.{eqb-false, le-leb}
use Rattle.lists.specs.Places.{Place, counted, range, row, rows_from, block, count}
use Rattle.lists.specs.Tab.{tab, grid}
use Rattle.float32.specs.Float32.{abs, lift, nearest_whole, round_half_away, float_of}
use Rattle.float32.specs.Value.{total}
use Rattle.ring.specs.Ring.{ring5}
use Rattle.response.specs.Response.{samples, response_of, response, response_at}
use Rattle.response.specs.Exact.{fifths_at}
use Rattle.response.specs.Patch.{whole, cells}
use Rattle.center_of_mass.specs.declared.Outcome.{Outcome}
use Rattle.center_of_mass.specs.CenterOfMass.{with_cells, seed_fits, refusal_of, centre_on, outcome_of, refined, values_of}
use Rattle.merge_radius.specs.MergeRadius.{is_off}
use Rattle.retouch.specs.Retouch.{touched_count}
use Rattle.stream.specs.declared.Header.{Header}
use Rattle.stream.specs.Stream.{header, read_frame}
use Rattle.stream.specs.RoundTrip.{pixel_bytes, frame_bytes}
use Rattle.demands.specs.WrongStatements.{
  EqualFifthsEqualFloats,
  ResponseExact,
  AtMost20,
  Ring14,
  Cross15,
  RewrittenWhole,
  CentreExact,
  WrongStatements,
}

-- the case of 24 fifths (RULES 14)
equal_fifths : EqualFifthsEqualFloats → ⊥
unfolding response_of abs add sub mul div of_int to_bits
equal_fifths alike =
    eqb-false (to_bits binary32 (response_of 8 0 1600 501)) (to_bits binary32 (response_of 8 0 32 11)) refl
    (ap (λ (x : Float). to_bits binary32 x) (alike 8 0 1600 501 8 0 32 11 refl))

-- 24 fifths are no float
response_exact : ResponseExact → ⊥
unfolding response_of abs add sub mul div of_int
response_exact exact = eqb-false _ _ refl (exact 8 0 32 11).equal

-- ---- retouched pixels

-- the centre of an image of 21 by 21 touches the cells whose ring or cross it lies in: sixteen and five
at_most_20 : AtMost20 → ⊥
unfolding touched_count counted range row rows_from block count ring5
at_most_20 few = false≢true (le-leb _ _ (few 21 21 (record { x = 10; y = 10 })))

-- 11 by 11 pixels that are 0, the centre, and the places 0 and 8 of the ring about it
abbrev dark : List ℕ
dark = replicate 121 0

abbrev centre : Place
centre = record { x = 5; y = 5 }

-- with 1 in the centre and at place 8, a 1 at place 0 adds 1 to SR, takes 1 from DR and brings the sums 5 nearer
ring_14 : Ring14 → ⊥
unfolding fifths_at samples total tab ring5
ring_14 few = false≢true (le-leb _ _ (few (set (set dark 115 1) 60 1) 11 11 (record { x = 5; y = 0 }) 1 centre refl))

cross_15 : Cross15 → ⊥
unfolding fifths_at samples total tab ring5
cross_15 few = false≢true (le-leb _ _ (few dark 11 11 centre 1 centre refl))

-- ---- a stream of no pixels, with a byte behind its end
abbrev empty : Header
empty = header 0 0 5 0 0 0 0 0 0 0 0

rewritten_whole : RewrittenWhole → ⊥
unfolding read_frame frame_bytes pixel_bytes is_off of_bits le
rewritten_whole same =
    eqb-false 23 24 refl (ap (λ (s : List ℕ). length s) (same (frame_bytes empty [] ++ (0 ∷ [])) empty [] refl))

-- ---- 12 by 11 pixels that are 0 but for seven: the cells (5, 5) and (6, 5) have 4 and 16 fifths, and 29/5 is no float
abbrev seven : List ℕ
seven = set (set (set (set (set (set (set (replicate 132 0) 32 1) 37 1) 61 1) 66 1) 71 1) 95 1) 98 1

abbrev outcome : Outcome
outcome = refined 1 (float_of 5) (float_of 5) true (cells (whole seven 12 11 ring5)) 12 11

abbrev value : ℕ → Float
value i = get_or (values_of outcome) i nan

centre_exact : CentreExact → ⊥
unfolding refined refusal_of seed_fits outcome_of with_cells centre_on cells response_at response response_of samples fifths_at total tab
    grid ring5 abs lift
    nearest_whole round_half_away counted range row rows_from block lt le add sub mul div of_int
centre_exact exact = eqb-false _ _ refl (exact seven 12 11 1 (float_of 5) (float_of 5) (value 0) (value 1) (value 2) refl).equal

pub wrong_statements : WrongStatements
wrong_statements = record {
  equal_fifths = equal_fifths;
  response_exact = response_exact;
  at_most_20 = at_most_20;
  ring_14 = ring_14;
  cross_15 = cross_15;
  rewritten_whole = rewritten_whole;
  centre_exact = centre_exact;
}
