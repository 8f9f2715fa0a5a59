-- The number of a frame: by the conditions before the pass, and by the lists that it finds. Assumes nothing.
use Prim.Native.Nat.{ℕ}
use mathlib.Core.Path.{◌≡◌, ap, ◌∙◌}
use mathlib.Core.Bool.{Bool, true, false}
use mathlib.Core.List.{List, [], ◌∷◌}
use lib.ListN.{length}
use Rattle.lists.specs.Refusals.{lowest}
use Rattle.lists.proofs.Refusals.{lowest-some, lowest-past}
use Rattle.frame_params.specs.declared.FrameParams.{FrameParams}
use Rattle.patch_corners.specs.OneMap.{Choice}
use Rattle.frame_pass.specs.Refusals.{conditions}
use Rattle.frame_pass.specs.Pass.{frame_pass}
use Rattle.frame_pass.proofs.Refusals.{numbered}
use Rattle.frame.specs.Frame.{Buffers, too_many, refusal_of}

module _ (choose : Choice) (p : FrameParams) (img : List ℕ) (w h : ℕ) (b : Buffers) where
  pub number-before : (lowest (conditions p (length img) w h (length b.map) (length b.levels)) ≡ 0 → ⊥)
      → refusal_of choose p img w h b ≡ lowest (conditions p (length img) w h (length b.map) (length b.levels))
  unfolding refusal_of
  number-before n =
      lowest-some (conditions p (length img) w h (length b.map) (length b.levels))
      ((too_many (frame_pass p img w h choose) b, 10) ∷ []) n

  module _ (none : lowest (conditions p (length img) w h (length b.map) (length b.levels)) ≡ 0) where
    pub number-in-pass : refusal_of choose p img w h b ≡ lowest ((too_many (frame_pass p img w h choose) b, 10) ∷ [])
    unfolding refusal_of
    number-in-pass =
        lowest-past (conditions p (length img) w h (length b.map) (length b.levels))
        ((too_many (frame_pass p img w h choose) b, 10) ∷ []) (numbered p (length img) w h (length b.map) (length b.levels)) none

    pub number-ten : too_many (frame_pass p img w h choose) b ≡ true → refusal_of choose p img w h b ≡ 10
    number-ten e = number-in-pass ∙ ap (λ (t : Bool). lowest ((t, 10) ∷ [])) e

    pub number-none : too_many (frame_pass p img w h choose) b ≡ false → refusal_of choose p img w h b ≡ 0
    number-none e = number-in-pass ∙ ap (λ (t : Bool). lowest ((t, 10) ∷ [])) e
