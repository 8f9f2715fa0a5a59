-- Places of a map are known by their names, the column and the row as floats. Assumes nothing.
use Prim.Native.Nat.{ℕ, ◌<◌}
use native.Mathlib.Omega.{arith}
use mathlib.Core.Path.{◌≡◌, ap}
use mathlib.Core.Bool.{false}
use mathlib.Core.List.{List, map}
use lib.Ieee.{Float, binary32}
use Rattle.lists.specs.Limits.{largest_side}
use Rattle.lists.specs.Places.{Place, All}
use Rattle.lists.proofs.Members.{map-only}
use Rattle.float32.specs.Float32.{float_of}
use Rattle.float32.proofs.Values.{of_int-value, value-unique}
use Rattle.demands.specs.PeaksAlike.{name_of}

-- a place of a map of at most the largest sides
abbrev pub PlaceInRange : Place → Type 0
PlaceInRange p = (p.x < largest_side) × (p.y < largest_side)

float-only : (a b : ℕ) → a < largest_side → b < largest_side → float_of a ≡ float_of b → a ≡ b
float-only a b p q e =
    let v = value-unique (float_of a) false a 1 b 1 (of_int-value binary32 a (omega arith))
    (rw e (of_int-value binary32 b (omega arith))) in
    omega arith

name-only : (p q : Place) → PlaceInRange p → PlaceInRange q → name_of p ≡ name_of q → p ≡ q
name-only p q a b e =
    let x = float-only p.x q.x a.0 b.0 (ap (λ (z : Float × Float). z.0) e) in
    let y = float-only p.y q.y a.1 b.1 (ap (λ (z : Float × Float). z.1) e) in
    rw (x, y)

pub names-only : (s t : List Place) → All PlaceInRange s → All PlaceInRange t → map name_of s ≡ map name_of t → s ≡ t
names-only = map-only name_of PlaceInRange name-only
