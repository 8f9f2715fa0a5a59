-- From `finished-tells` of frame and `pass_same` of frame_pass; the maps alike from `maps_alike`: without an equal there is no tie. Assumes
-- nothing.
use Prim.Native.Nat.{ℕ}
use mathlib.Core.Path.{◌≡◌, refl, ap, ◌∙◌}
use mathlib.Core.Bool.{false, cond}
use mathlib.Core.Logic.{◌↔◌}
use mathlib.Core.List.{List, [], ◌∷◌}
use lib.IntN.{ℤ}
use lib.Ieee.{Float, nan, lt, eq}
use Rattle.std.specs.Prelude.{Option, None, Some}
use Rattle.lists.specs.Places.{Place, any, count, All}
use Rattle.lists.proofs.Members.{all_map}
use Rattle.response.specs.Patch.{View, map_width, map_height, cells}
use Rattle.response.specs.Exact.{fifths_in}
use Rattle.agreement.specs.Agreement.{Tied}
use Rattle.detect.specs.Peaks.{window, beaten, equals, window_test, value_at, larger_in, equal_in}
use Rattle.frame_params.specs.declared.FrameParams.{FrameParams}
use Rattle.patch_corners.specs.OneMap.{exact_choice}
use Rattle.frame_pass.specs.Pass.{Pass}
use Rattle.frame_pass.proofs.Same.{pass_same}
use Rattle.frame.proofs.Callers.{finished-tells}
use Rattle.demands.specs.FrameExact.{Alike, WithoutTie, maps_in}
use Rattle.demands.specs.Ties.{NanTop, PeakTies, FrameTies, WithoutEquals, MapsAlikeWithoutEquals}
use Rattle.demands.proofs.Added.{ties_are}
use Rattle.demands.proofs.FrameExact.{maps_alike}

-- ---- a NaN centre
module _ (m : List Float) (w h r : ℕ) (p : Place) where
  none : (l : List Place) → (any (λ q. lt nan (value_at m w q)) l ≡ false) × (count (λ q. eq nan (value_at m w q)) l ≡ 0)
  unfolding lt eq count
  none [] = (refl, refl)
  none (q ∷ l) = none l

  abbrev tested : Float → Option ℕ
  tested u = cond (any (λ q. lt u (value_at m w q)) (window w h r p)) None (Some (count (λ q. eq u (value_at m w q)) (window w h r p)))

  nan-tested : value_at m w p ≡ nan → window_test (larger_in m w) (equal_in m w) w h r p ≡ Some 0
  unfolding window_test beaten equals
  nan-tested e = let n = none (window w h r p) in ap tested e ∙ rw (n.0, n.1)

pub nan_top : NanTop
nan_top m s p t is e = is ∙ nan-tested m s.w s.h s.window p e

-- ---- peak finding and frames
pub peak_ties : PeakTies
peak_ties m w h p = ties_are m w h p

pub frame_ties : FrameTies
frame_ties c =
    let f = finished-tells _ c.parameters c.img c.w c.h c.before (record { corners = c.count; ties = c.ties }) c.after c.promise in
    record {
      computed = f.tied;
      exact = λ alike. f.tied ∙ ap (λ (q : Pass). q.ties) (pass_same c.parameters c.img c.w c.h alike);
    }

-- no cell of a window has an equal exact value, so none has one with a larger computed value
module _ (p : FrameParams) (v : View) where
  abbrev fifths : Place → ℤ
  fifths q = fifths_in v q.x q.y

  abbrev about : Place → List Place
  about = window (map_width v) (map_height v) p.window

  untied : WithoutEquals p v → WithoutTie p v
  untied =
      all_map (λ a. All (λ q. fifths q ≡ fifths a → ⊥) (about a)) (λ a. All (λ q. Tied (cells v) fifths (map_width v) a q → ⊥) (about a))
      (λ a. all_map (λ q. fifths q ≡ fifths a → ⊥) (λ q. Tied (cells v) fifths (map_width v) a q → ⊥) (λ q no t. no t.equal) (about a))
      (exact_choice p v)

pub maps_alike_without_equals : MapsAlikeWithoutEquals
maps_alike_without_equals c k whole =
    let p = c.parameters in
    all_map (λ v. Alike p v ↔ WithoutTie p v) (λ v. WithoutEquals p v → Alike p v) (λ v both alone. both.1 (untied p v alone)) (maps_in c)
    (maps_alike c k whole)
