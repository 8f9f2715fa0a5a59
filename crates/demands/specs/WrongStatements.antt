-- Wrong statements (RULES 15.3): what could be said instead of a statement of `Demands`, and is false by its smallest
-- example. Wrong definitions are in WrongValues.antt and WrongRefusals.antt.
use Rattle.std.specs.Prelude.{ℕ, ◌+◌, ◌*◌, ◌≤◌, ◌≡◌, true, List, get_or, ℤ, nat_abs, ◌-ℤ◌, Float}
use Rattle.lists.specs.Places.{Place}
use Rattle.float32.specs.Value.{IsValue, dist, plus_part, minus_part}
use Rattle.ring.specs.Ring.{ring5}
use Rattle.response.specs.Response.{response_of}
use Rattle.response.specs.Exact.{fifths, fifths_at}
use Rattle.response.specs.Patch.{whole, cells}
use Rattle.center_of_mass.specs.declared.Outcome.TheVariants.{Accepted}
use Rattle.center_of_mass.specs.CenterOfMass.{refined}
use Rattle.retouch.specs.Retouch.{on_ring, in_cross, touched_count, changed}
use Rattle.stream.specs.declared.Header.{Header}
use Rattle.stream.specs.Stream.{accepted, read_frame}
use Rattle.stream.specs.RoundTrip.{frame_bytes}
use Rattle.tolerance.specs.Tolerance.{summed_cells, exact_mass, exact_x}

-- 01, "taking equal fifths for equal floats" (RULES 10.5)
abbrev pub EqualFifthsEqualFloats : Type 0
EqualFifthsEqualFloats =
    (sr dr sum cross sr' dr' sum' cross' : ℕ) → fifths sr dr sum cross ≡ fifths sr' dr' sum' cross'
    → response_of sr dr sum cross ≡ response_of sr' dr' sum' cross'

-- demand 3, "within 1/1024 of the paper's exact value": that value itself (RULES 10.5)
abbrev pub ResponseExact : Type 0
ResponseExact =
    (sr dr sum cross : ℕ) → IsValue (response_of sr dr sum cross) (plus_part (fifths sr dr sum cross))
    (minus_part (fifths sr dr sum cross)) 5

-- request 8, "at most 21": at most 20 (RULES 27.2)
abbrev pub AtMost20 : Type 0
AtMost20 = (w h : ℕ) (q : Place) → touched_count w h ring5 q ≤ 20

-- "at most 15d fifths through a ring place and 16d through the cross": 14d, and 15d (RULES 27.5)
abbrev moved : List ℕ → ℕ → ℕ → Place → ℕ → Place → ℕ
moved img w h q value p =
    nat_abs (fifths_at (changed img w q value) w h ring5 p.x p.y -ℤ fifths_at img w h ring5 p.x p.y)

abbrev levels : List ℕ → ℕ → Place → ℕ → ℕ
levels img w q value = dist (get_or img (q.y * w + q.x) 0) value

abbrev pub Ring14 : Type 0
Ring14 =
    (img : List ℕ) (w h : ℕ) (q : Place) (value : ℕ) (p : Place) → on_ring ring5 q p ≡ true
    → moved img w h q value p ≤ 14 * levels img w q value

abbrev pub Cross15 : Type 0
Cross15 =
    (img : List ℕ) (w h : ℕ) (q : Place) (value : ℕ) (p : Place) → in_cross ring5 q p ≡ true
    → moved img w h q value p ≤ 15 * levels img w q value

-- request 11, "the same up to its kind 4 byte": the same, with what follows (RULES 30.5)
abbrev pub RewrittenWhole : Type 0
RewrittenWhole =
    (s : List ℕ) (h : Header) (pixels : List ℕ) → read_frame s ≡ accepted h pixels → frame_bytes h pixels ≡ s

-- request 14, "within 1/32 pixel of the exact centroid": the exact centroid itself (RULES 33.2)
abbrev exact_in : List ℕ → ℕ → ℕ → Place → ℤ
exact_in img w h p = fifths_at img w h ring5 p.x p.y

abbrev pub CentreExact : Type 0
CentreExact =
    (img : List ℕ) (w h r : ℕ) (x y cx cy mass : Float)
    → refined r x y true (cells (whole img w h ring5)) w h ≡ Accepted cx cy mass
    → IsValue cx (exact_x (exact_in img w h) (summed_cells r x y)) 0
    (exact_mass (exact_in img w h) (summed_cells r x y))

-- each is false
pub record WrongStatements : Type 0 where
  pub equal_fifths : EqualFifthsEqualFloats → ⊥
  pub response_exact : ResponseExact → ⊥
  pub at_most_20 : AtMost20 → ⊥
  pub ring_14 : Ring14 → ⊥
  pub cross_15 : Cross15 → ⊥
  pub rewritten_whole : RewrittenWhole → ⊥
  pub centre_exact : CentreExact → ⊥
