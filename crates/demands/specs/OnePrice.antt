-- The exact pass as a program (RULES 34): "A corner tipped over by rounding puts two prices on one photograph." A call
-- of `find_corners` by exact values has the exact list, so comparing it with one by computed values on the same frame
-- tells whether rounding tipped a corner.
use Rattle.std.specs.Prelude.{ℕ, ◌≡◌, ◌↔◌, length}
use Rattle.lists.specs.Places.{All}
use Rattle.float32.specs.Float32.{lift}
use Rattle.float32.specs.Value.{IsWhole}
use Rattle.patch_corners.specs.OneMap.{exact_choice}
use Rattle.frame_pass.specs.Pass.{Pass, frame_pass}
use Rattle.demands.specs.FrameExact.{CallBy, FrameCall, frame_list, exact_corners, maps_in, Alike, WithoutTie}

-- a call of `find_corners` by exact values that finished
abbrev pub ExactCall : Type 0
ExactCall = CallBy exact_choice

abbrev pub exact_pass : ExactCall → Pass
exact_pass d = frame_pass d.parameters d.img d.w d.h (exact_choice d.parameters)

-- its list, the list's length, and its ties are those of the exact pass, whatever the threshold and the ties
pub record HasExactList (d : ExactCall) : Type 0 where
  pub corners : frame_list d ≡ (exact_pass d).corners
  pub count : d.count ≡ length (exact_pass d).corners
  pub ties : d.ties ≡ (exact_pass d).ties

abbrev pub ExactFrame : Type 0
ExactFrame = (d : ExactCall) → HasExactList d

-- two calls on one frame: the same image, sides and parameters
pub record OnOneFrame (c : FrameCall) (d : ExactCall) : Type 0 where
  pub parameters : c.parameters ≡ d.parameters
  pub img : c.img ≡ d.img
  pub w : c.w ≡ d.w
  pub h : c.h ≡ d.h

-- the computed list is the exact one exactly if the two calls left the same list, and its count is the exact one
-- exactly if their counts are equal
pub record OnePriceOf (c : FrameCall) (d : ExactCall) : Type 0 where
  pub corners : (frame_list c ≡ frame_list d) ↔ (frame_list c ≡ exact_corners c)
  pub count : (c.count ≡ d.count) ↔ (c.count ≡ length (exact_corners c))

abbrev pub OnePrice : Type 0
OnePrice = (c : FrameCall) (d : ExactCall) → OnOneFrame c d → OnePriceOf c d

-- and so the two are equal, ties included, if both lists of each map are alike; at a whole threshold they are if the
-- tie of demand 3 does not occur
pub record SamePrice (c : FrameCall) (d : ExactCall) : Type 0 where
  pub corners : frame_list c ≡ frame_list d
  pub count : c.count ≡ d.count
  pub ties : c.ties ≡ d.ties

pub record NothingTipped : Type 0 where
  pub alike : (c : FrameCall) (d : ExactCall) → OnOneFrame c d → All (Alike c.parameters) (maps_in c) → SamePrice c d
  pub untied : (c : FrameCall) (d : ExactCall) → OnOneFrame c d → (k : ℕ) → IsWhole (lift c.parameters.threshold) k
      → All (WithoutTie c.parameters) (maps_in c) → SamePrice c d
