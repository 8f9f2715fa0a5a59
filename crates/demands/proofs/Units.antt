-- A coordinate times 256 is rounded like a seed's times 2 ^ 8 (`centre-is` of multiscale), and the quotient says where it lies. Assumes
-- nothing.
use Prim.Native.Nat.{ℕ, ◌+◌, ◌*◌, ◌/◌, ◌≤◌, ◌<◌}
use native.Mathlib.Nat.{le_refl, le-div_iff_mul-le, div-lt_iff_lt-mul}
use native.Mathlib.Omega.{arith}
use mathlib.Core.Path.{◌≡◌, refl, sym, ap, subst}
use mathlib.Core.Bool.{true, false}
use mathlib.Core.List.{List}
use lib.IntN.{pos}
use lib.Ieee.{Float, fin, binary32, fits, mul}
use lib.Ieee.Positive.{num, den, den_pos}
use Rattle.lists.specs.Places.{All}
use Rattle.lists.proofs.Members.{all_map, all_both}
use Rattle.float32.specs.Float32.{zero, between}
use Rattle.float32.proofs.Poly.{poly}
use Rattle.float32.proofs.Scale.{power-float}
use Rattle.corner_list.specs.CornerList.{largest_coordinate, is_inside}
use Rattle.corner_list.specs.declared.Corner.{Corner}
use Rattle.corner_list.proofs.Inside.{inside-parts}
use Rattle.frame_params.specs.declared.FrameParams.{FrameParams}
use Rattle.patch_corners.specs.OneMap.{Choice, computed_choice}
use Rattle.frame_pass.specs.Pass.{frame_pass}
use Rattle.frame_pass.specs.Theorems.{SoundFrame}
use Rattle.frame.proofs.Callers.{finished-tells}
use Rattle.finder.specs.Finder.{params_of, program_buffers}
use Rattle.multiscale.specs.Multiscale.{centre_of}
use Rattle.multiscale.proofs.Centre.{centre-is}
use Rattle.listing.specs.Text.{units_by, units_of}
use Rattle.demands.specs.Units.{Nearest, ColumnsNearest, UnitsNearest}
use Rattle.demands.proofs.FrameExact.{sound, sound-frame}
use Rattle.demands.proofs.Coordinates.{Fits, pass_fits, pass-inside}

units-are : (x : Float) → fits binary32 x ≡ true → between zero largest_coordinate x ≡ true
    → units_of x ≡ (2 * (num x * 256) + den x) / (2 * den x)
unfolding units_of centre_of
units-are x f h =
    let a = mul binary32 x (fin false 1 (pos 8)) in
    ap (units_by a) (rw (power-float 8 (omega arith)) at (centre-is x 8 f h (omega arith)))

-- u is (512 n + d) / (2 d), cut off
halves : (n d u : ℕ) → u * (2 * d) ≤ 2 * (n * 256) + d → 2 * (n * 256) + d < (u + 1) * (2 * d)
    → (2 * u * d ≤ 512 * n + d) × (512 * n < (2 * u + 1) * d)
halves n d u h l =
    let h' = simp poly at h in
    let l' = simp poly at l in
    (simp poly (omega arith), simp poly (omega arith))

between-halves : (n d : ℕ) → 0 < d → let u = (2 * (n * 256) + d) / (2 * d) in (2 * u * d ≤ 512 * n + d) × (512 * n < (2 * u + 1) * d)
between-halves n d p =
    let a = 2 * (n * 256) + d in
    let u = a / (2 * d) in
    let some : 0 < 2 * d = omega arith in
    halves n d u ((le-div_iff_mul-le {k = 2 * d} {x = u} {y = a} some).0 (le_refl u))
    ((div-lt_iff_lt-mul {k = 2 * d} {x = a} {y = u + 1} some).0 (omega arith))

near : (x : Float) → fits binary32 x ≡ true → between zero largest_coordinate x ≡ true → Nearest x (units_of x)
near x f h =
    let b = between-halves (num x) (den x) (den_pos x) in
    subst (Nearest x) (sym (units-are x f h)) (record { at_least = b.0; below = b.1 })

columns-near : (c : Corner) → is_inside c ≡ true → Fits c → ColumnsNearest c
columns-near c i f = let p = inside-parts c i in record {
  across = units_of c.x;
  down = units_of c.y;
  columns = refl;
  x_near = near c.x f.0 p.0;
  y_near = near c.y f.1 p.1;
}

pass-near : (choose : Choice) (p : FrameParams) (img : List ℕ) (w h : ℕ) → SoundFrame p img w h
    → All ColumnsNearest (frame_pass p img w h choose).corners
pass-near choose p img w h s =
    let corners = (frame_pass p img w h choose).corners in
    all_map (λ c. (is_inside c ≡ true) × Fits c) ColumnsNearest (λ c h. columns-near c h.0 h.1) corners
    (all_both (λ c. is_inside c ≡ true) Fits corners (pass-inside p choose img w h s) (pass_fits p choose img w h))

pub units_nearest : UnitsNearest
units_nearest = record {
  coordinate = near;
  frame = λ choose c.
      let p = c.parameters in
      rw (finished-tells (choose p) p c.img c.w c.h c.before (record { corners = c.count; ties = c.ties }) c.after c.promise).corners
      (pass-near (choose p) p c.img c.w c.h (sound c));
  printed = λ input l bytes.
      let h = l.header in
      pass-near (computed_choice (params_of h)) (params_of h) l.pixels h.width h.height
      (sound-frame (computed_choice (params_of h)) (params_of h) l.pixels h.width h.height program_buffers l.finished bytes);
}
