-- A frame: the refusals, the answer, and every buffer after it, as equations with the pass.
use Rattle.std.specs.Prelude.{ℕ, zero, suc, ◌-◌, ◌≡◌, Bool, ◌||◌, cond, List, [], ◌∷◌, ◌++◌, map, length, replicate}
use Rattle.std.specs.Prelude.{ltb, eqb, Float, Result}
use Rattle.lists.specs.Buffer.{front, wiped_from}
use Rattle.lists.specs.declared.refusal.Refusal.{Refusal}
use Rattle.lists.specs.Refusals.{lowest, number_of, values_by, values_unless, judged, result_or}
use Rattle.float32.specs.Float32 as float32
use Rattle.pyramid.specs.Pyramid.{above}
use Rattle.corner_list.specs.CornerList.{Slices, slices, x_of, y_of, strength_of, neighbours_of, places_of}
use Rattle.corner_list.specs.declared.Corner.{Corner}
use Rattle.frame_params.specs.declared.FrameParams.{FrameParams}
use Rattle.patch_corners.specs.OneMap.{Choice, computed_choice}
use Rattle.clearing.specs.Clearing.{cleared_from}
use Rattle.frame_pass.specs.Refusals.{conditions}
use Rattle.frame_pass.specs.Pass.{Pass, frame_pass, levels_in}
use Rattle.frame.specs.declared.Found.{Found}

-- the buffers that a frame borrows
pub record Buffers : Type 0 where
  pub map : List Float
  pub levels : List ℕ
  pub seeds : Slices
  pub corners : Slices

abbrev pub buffers : List Float → List ℕ → Slices → Slices → Buffers
buffers m levels seeds corners = record { map = m; levels = levels; seeds = seeds; corners = corners }

-- ---- refusals

-- 10: the seeds, or the corners before merging, do not fit their buffer; there are as many as their peaks
-- (`NoneDropped` of frame_pass)
abbrev pub too_many : Pass → Buffers → Bool
too_many q b = ltb (places_of b.seeds) (length q.seeds) || ltb (places_of b.corners) (length q.found)

-- the pass by computed values
abbrev pub pass_of : FrameParams → List ℕ → ℕ → ℕ → Pass
pass_of p img w h = frame_pass p img w h (computed_choice p)

-- the lowest number, 0 for none
unfoldable pub refusal_of : Choice → FrameParams → List ℕ → ℕ → ℕ → Buffers → ℕ
unfolding conditions frame_pass
refusal_of choose p img w h b =
    lowest (conditions p (length img) w h (length b.map) (length b.levels)
    ++ ((too_many (frame_pass p img w h choose) b, 10) ∷ []))

-- ---- the buffers after

-- a list at the start, and zero after it
abbrev pub padded : {A : Type 0} → A → List A → List A → List A
padded z vs d = vs ++ replicate (length d - length vs) z

abbrev pub padded_corners : List Corner → Slices → Slices
padded_corners cs b =
    slices (padded float32.zero (map x_of cs) b.xs) (padded float32.zero (map y_of cs) b.ys)
    (padded float32.zero (map strength_of cs) b.strengths) (padded 0 (map neighbours_of cs) b.neighbours)

-- finished: the map buffer is zero; the level buffer has the levels above the base at its start, the rest unchanged;
-- the lists are at the start of theirs, with zero after them
abbrev pub finished : List ℕ → Pass → Buffers → Buffers
finished levels q b =
    buffers (wiped_from 0 float32.zero b.map) (front levels b.levels) (padded_corners q.seeds b.seeds)
    (padded_corners q.corners b.corners)

-- 10: every buffer is zero in its whole length
abbrev pub wiped : Buffers → Buffers
wiped b =
    buffers (wiped_from 0 float32.zero b.map) (replicate (length b.levels) 0) (cleared_from 0 b.seeds)
    (cleared_from 0 b.corners)

-- a buffer by the call's number (RULES 9.6): as the call leaves it if there is none; cleared by 10, a list that does
-- not fit; unchanged by any other refusal
abbrev pub left_by_number : {A : Type 0} → ℕ → A → A → A → A
left_by_number zero done cleared before = done
left_by_number (suc k) done cleared before = cond (eqb (suc k) 10) cleared before

-- the same for all buffers
abbrev pub buffers_after : Choice → FrameParams → List ℕ → ℕ → ℕ → Buffers → Buffers
buffers_after choose p img w h b =
    left_by_number (refusal_of choose p img w h b)
    (finished (above img w h (levels_in p img w h)) (frame_pass p img w h choose) b) (wiped b) b

-- ---- the promise

-- the values of an answer (RULES 15.1)
abbrev pub values_of : Result Found Refusal → List ℕ
values_of = values_by (λ f. f.corners ∷ f.ties ∷ [])

-- what a pass finds: how many corners, and how many ties
abbrev pub found_in : Pass → Found
found_in q = record { corners = length q.corners; ties = q.ties }

-- What is promised about a frame with a choice of peaks: the answer (how many corners and how many ties there are,
-- RULES 23.3), its number and values, and the buffers after. `find_corners` promises it for the choice of its flag:
-- by computed or by exact values (RULES 34.1)
pub record FrameFound (choose : Choice) (p : FrameParams) (img : List ℕ) (w h : ℕ) (b : Buffers)
    (r : Result Found Refusal) (b' : Buffers) : Type 0 where
  pub answer : r ≡ judged (refusal_of choose p img w h b) (found_in (frame_pass p img w h choose))
  pub number : number_of r ≡ refusal_of choose p img w h b
  pub values : values_of r
      ≡ values_unless (refusal_of choose p img w h b)
      (length (frame_pass p img w h choose).corners ∷ (frame_pass p img w h choose).ties ∷ [])
  pub left : b' ≡ buffers_after choose p img w h b

-- What a function for C promises that takes an answer apart: what is promised about the answer holds for that of the
-- number r; corners and ties are counted as the pass has them, or as before if r is a refusal
pub record TakenApart (Promised : Result Found Refusal → Type 0) (q : Pass) (count ties r count' ties' : ℕ)
    : Type 0 where
  pub answer : Promised (judged r (found_in q))
  pub count_is : count' ≡ result_or r (length q.corners) count
  pub ties_are : ties' ≡ result_or r q.ties ties
