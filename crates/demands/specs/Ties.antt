-- Request 4, how many ties (RULES 23): "Peak finding returns its sum over the peaks it adds, and a finished frame pass
-- returns the total, a u64, over all peaks found before merging, seeds not counted. The total is defined from the
-- computed maps."
use Rattle.std.specs.Prelude.{ℕ, ◌≡◌, List, Float, Option, Some}
use Rattle.std.specs.Float.{nan}
use Rattle.lists.specs.Places.{Place, All}
use Rattle.float32.specs.Float32.{lift}
use Rattle.float32.specs.Value.{IsWhole}
use Rattle.response.specs.Patch.{View, map_width, map_height}
use Rattle.response.specs.Exact.{fifths_in}
use Rattle.detect.specs.declared.Search.{Search}
use Rattle.detect.specs.Peaks.{window, value_at}
use Rattle.detect.specs.Detect.{ties_in, WindowTested}
use Rattle.frame_params.specs.declared.FrameParams.{FrameParams}
use Rattle.patch_corners.specs.OneMap.{exact_choice}
use Rattle.frame_pass.specs.Pass.{frame_pass}
use Rattle.demands.specs.PeakCall.{PeakCall, search_in}
use Rattle.demands.specs.FrameExact.{FrameCall, maps_in, Alike}
use Rattle.frame.specs.Frame.{pass_of}

-- "A NaN centre is top with 0 ties": what the code's window test, `window_test` of detect, answers for one, by its
-- promise
abbrev pub NanTop : Type 0
NanTop =
    (m : List Float) (s : Search) (p : Place) (t : Option ℕ) → WindowTested m s p t
    → value_at m s.w p ≡ nan → t ≡ Some 0

-- the sum over the peaks of the map
abbrev pub PeakTies : Type 0
PeakTies = (m : List Float) (w h : ℕ) (p : PeakCall m w h) → p.ties ≡ ties_in m (search_in p)

-- the total is the pass's; and if the two lists are alike for each map, it is also that of the exact pass, which counts
-- in the computed maps
pub record TiesAre (c : FrameCall) : Type 0 where
  pub computed : c.ties ≡ (pass_of c.parameters c.img c.w c.h).ties
  pub exact : All (Alike c.parameters) (maps_in c)
      → c.ties ≡ (frame_pass c.parameters c.img c.w c.h (exact_choice c.parameters)).ties

abbrev pub FrameTies : Type 0
FrameTies = (c : FrameCall) → TiesAre c

-- "no peak of the exact lists has an exact equal in its window", for one map
abbrev pub WithoutEquals : FrameParams → View → Type 0
WithoutEquals p v =
    All (λ (a : Place). All (λ (q : Place). fifths_in v q.x q.y ≡ fifths_in v a.x a.y → ⊥)
    (window (map_width v) (map_height v) p.window a))
    (exact_choice p v)

-- "With the threshold whole as in demand 3, both peak lists are alike for each map a finished frame looks at if" so;
-- stated for each map by itself, which is stronger
abbrev pub MapsAlikeWithoutEquals : Type 0
MapsAlikeWithoutEquals =
    (c : FrameCall) (k : ℕ) → IsWhole (lift c.parameters.threshold) k
    → All (λ v. WithoutEquals c.parameters v → Alike c.parameters v) (maps_in c)
