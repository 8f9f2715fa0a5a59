-- One coordinate of the centre of mass of at most 25 cells: 1 / 80 is for the roundings of the two sums, 1 / 100 for the errors of the
-- cells, and 1 / 4096 for the rounding of their quotient. Assumes nothing.
use Prim.Native.Nat.{ℕ, ◌+◌, ◌*◌, ◌^◌, ◌≤◌, ◌<◌}
use native.Mathlib.Nat.{zero-mul, mul-le-mul_right, mul-le-mul_left, le_of_mul-le-mul_right}
use native.Mathlib.Omega.{arith}
use mathlib.Core.Path.{◌≡◌}
use mathlib.Core.Bool.{false}
use mathlib.Core.List.{List}
use lib.Dec.{T}
use lib.ListN.{length}
use lib.Pow.{pow_pos}
use lib.Ieee.{Float, binary32, low, round, lt, div}
use Rattle.lists.specs.Places.{Place, All, sum_of}
use Rattle.lists.proofs.Members.{all_map, sum-weighted}
use Rattle.float32.specs.Float32.{zero as zero32}
use Rattle.float32.proofs.Poly.{poly}
use Rattle.float32.proofs.Running.{Near, Nearly, summed}
use Rattle.float32.proofs.Approx.{FracWithin, Binade, round-within, restate}
use Rattle.float32.proofs.Bounds.{above_zero, div-round, nearly-positive-only}
use Rattle.center_of_mass.specs.CenterOfMass.{no_sums, weight_at, with_cells}
use Rattle.center_of_mass.proofs.Weights.{Weighs, units_at, term, mass-nearly, moment-nearly}
use Rattle.tolerance.specs.Tolerance.{Within32nd}
use Rattle.tolerance.proofs.Means.{Apart, Alike, InRow, some-mass, means-close}

-- ---- the computed sums A and W against the exact sums X and Y of the weights: |A / W - X / Y| ≤ 1 / 80
sums-close : (A W X Y c d : ℕ) → c ≤ 26 → d ≤ 25 → X ≤ 4095 * Y → Near A X c → Near W Y d → Apart (80 * (A * Y)) (80 * (X * W)) (W * Y)
sums-close A W X Y c d C D h n m =
    let n' = looser A X c 26 C n in
    let m' = looser W Y d 25 D m in
    let a = simp poly at (mul-le-mul_right Y n'.0) in
    let b = simp poly at (mul-le-mul_right Y n'.1) in
    let e = simp poly at (mul-le-mul_right X m'.0) in
    let f = simp poly at (mul-le-mul_right X m'.1) in
    let g = simp poly at (mul-le-mul_right Y m'.1) in
    let k = simp poly at (mul-le-mul_right Y h) in
    (simp poly (omega arith), simp poly (omega arith))
  where
    looser : (A X c k : ℕ) → c ≤ k → Near A X c → Near A X k
    looser A X c k h n = let p : X * c ≤ X * k = mul-le-mul_left X h in (omega arith, omega arith)

-- and against the exact centroid P / Q: |A / W - P / Q| ≤ 93 / 4096
both-close : (A W X Y P Q : ℕ) → 0 < Y → Apart (80 * (A * Y)) (80 * (X * W)) (W * Y) → Apart (100 * (X * Q)) (100 * (P * Y)) (Y * Q)
    → FracWithin A 0 W (4096 * P) 0 (4096 * Q) (93 * Q)
both-close A W X Y P Q K s t =
    let a = simp poly at (mul-le-mul_right Q s.0) in
    let b = simp poly at (mul-le-mul_right Q s.1) in
    let c = simp poly at (mul-le-mul_right W t.0) in
    let d = simp poly at (mul-le-mul_right W t.1) in
    (le_of_mul-le-mul_right (simp (zero-mul, poly) (omega arith)) K, le_of_mul-le-mul_right (simp (zero-mul, poly) (omega arith)) K)

-- the quotient is below 2 ^ 13, where half a unit in the last place is 1 / 4096
quotient-binade : (P Q : ℕ) → 0 < Q → P ≤ 4095 * Q → Binade binary32 (4096 * P) 0 (4096 * Q) (93 * Q) 13 Q
quotient-binade P Q K h =
    record { under = omega arith; over = omega arith; half = omega arith; in-range = omega arith; normal = omega arith }

quotient-close : (A W P Q : ℕ) (x y : Float) → 0 < W → 0 < Q → P ≤ 4095 * Q → div binary32 x y ≡ round binary32 false A W
    → FracWithin A 0 W (4096 * P) 0 (4096 * Q) (93 * Q) → Within32nd (div binary32 x y) P Q
quotient-close A W P Q x y k q h e f =
    rw e
    (restate (round binary32 false A W) (4096 * P) 0 (4096 * Q) (93 * Q + Q) _ _ _ _ (omega arith)
    (simp (zero-mul, poly) (omega arith)) (simp (zero-mul, poly) (omega arith))
    (round-within binary32 false A W (4096 * P) 0 (4096 * Q) (93 * Q) 13 Q k f (quotient-binade P Q q h)))

-- ---- some cells of a map, with exact weights e, and a mass above 0
module _ (m : List Float) (w : ℕ) (ps : List Place) (few : length ps ≤ 25) (each : All (λ p. Weighs (weight_at m w p)) ps) (e : Place → ℕ)
    (alike : All (λ p. Alike (2 ^ low binary32) (units_at m w p) (e p)) ps) (above : T (lt zero32 (with_cells m w no_sums ps).sw)) where
  abbrev mass : Float
  mass = (with_cells m w no_sums ps).sw

  abbrev units : ℕ
  units = sum_of (units_at m w) ps

  mass-near : Nearly mass units (0 + length ps)
  mass-near = mass-nearly m w ps (omega arith) each

  units-above : 0 < units
  units-above = nearly-positive-only mass units (0 + length ps) above mass-near

  pub exact_above : 0 < sum_of e ps
  exact_above = some-mass (2 ^ low binary32) (units_at m w) e ps alike units-above

  -- one coordinate of each, five in a row and below 4,096
  module _ (co : Place → ℕ) (s : ℕ) (row : All (InRow co s) ps) (wide : All (λ p. co p ≤ 4095) ps) where
    moment-le : (X : Place → ℕ) → sum_of (λ p. co p * X p) ps ≤ 4095 * sum_of X ps
    moment-le X = sum-weighted (λ p. co p * X p) X 4095 ps (all_map (λ p. co p ≤ 4095) _ (λ p h. mul-le-mul_right (X p) h) ps wide)

    pub mean-close : Within32nd (div binary32 (summed (term m w co) zero32 ps) mass) (sum_of (λ p. co p * e p) ps) (sum_of e ps)
    mean-close =
        let L = 2 ^ low binary32 in
        let N = length ps in
        let b : Place → ℕ = units_at m w in
        let X = sum_of (λ p. co p * units_at m w p) ps in
        let P = sum_of (λ p. co p * e p) ps in
        let Q = sum_of e ps in
        let moment = summed (term m w co) zero32 ps in
        let t = moment-nearly m w ps (omega arith) each co 4095 (omega arith) wide in
        let v = mass-near in
        let W = above_zero v.size units (0 + N) units-above (omega arith) v.near in
        let c = sums-close t.size v.size X units (1 + N) (0 + N) (omega arith) (omega arith) (moment-le b) t.near v.near in
        let f = both-close t.size v.size X units P Q units-above c (means-close co s L b e ps alike row) in
        quotient-close t.size v.size P Q moment mass W exact_above (moment-le e)
        (div-round binary32 moment mass t.size v.size L (pow_pos (low binary32)) W t.units v.units) f
