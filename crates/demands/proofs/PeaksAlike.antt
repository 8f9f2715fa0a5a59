-- From `peaks_alike` of agreement: the map's cells are accurate, and the corners that were added name the computed peaks. Assumes nothing.
use Prim.Native.Nat.{ℕ, ◌+◌, ◌*◌}
use native.Mathlib.Nat.{mul_comm}
use native.Mathlib.Omega.{arith}
use mathlib.Core.List.{List}
use lib.IntN.{ℤ}
use lib.Ieee.{Float, nan}
use lib.Seq.{get_or-take}
use Rattle.lists.specs.Places.{Place}
use Rattle.lists.proofs.Places.{in_map}
use Rattle.float32.specs.Float32.{lift}
use Rattle.float32.specs.Value.{IsWhole}
use Rattle.response.specs.Patch.{map_width, map_height}
use Rattle.detect.specs.Exact.{exact}
use Rattle.agreement.proofs.Place.{CellsAccurate}
use Rattle.agreement.proofs.Lists as agreement
use Rattle.demands.specs.ResponseCall.{ResponseCall, map_of, exact_at}
use Rattle.demands.specs.AnyRing.{map_in, exact_in}
use Rattle.demands.specs.PeakCall.{PeakCall, search_in}
use Rattle.demands.specs.PeaksAlike.{AlikeUnlessTied, PeaksAlike}
use Rattle.demands.proofs.ResponseAccurate.{response_accurate}
use Rattle.demands.proofs.Added.{named}

map-accurate : (c : ResponseCall) → CellsAccurate (map_of c) (exact_at c) c.pw c.ph
map-accurate c p x y =
    rw (get_or-take (c.ph * c.pw) c.after (p.y * c.pw + p.x) nan
    (omega (arith, in_map c.pw c.ph p.x p.y x y, mul_comm c.pw c.ph)))
    (response_accurate.call c p (x, y))

-- in any map of accurate cells
alike : (m : List Float) (fifths : Place → ℤ) (w h : ℕ) → CellsAccurate m fifths w h → (p : PeakCall m w h) (k : ℕ)
    → IsWhole (lift p.threshold) k
    → AlikeUnlessTied fifths p
alike m fifths w h cells p k whole =
    let n = named m w h p (exact fifths (lift p.threshold)) in
    let a = agreement.peaks_alike m fifths (lift p.threshold) k w h (search_in p).border p.window
    p.least_neighbours whole cells in
    (λ e. a.0 (n.0 e), λ e. n.1 (a.1 e))

pub peaks_alike : PeaksAlike
peaks_alike = record {
  call = λ c. alike (map_of c) (exact_at c) c.pw c.ph (map-accurate c);
  any_ring = λ a. alike (map_in a) (exact_in a) (map_width a.view) (map_height a.view) (λ p x y. response_accurate.any_ring a p (x, y));
}
