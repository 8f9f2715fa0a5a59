-- What `build_pyramid` answers, and what it leaves in the level buffer.
use Rattle.std.specs.Prelude.{ℕ, ◌≡◌, List, [], ◌∷◌, length, Result}
use Rattle.lists.specs.Buffer.{front}
use Rattle.lists.specs.declared.refusal.Refusal.{Refusal}
use Rattle.lists.specs.Refusals.{number_of, values_by, values_unless, judged, result_or}
use Rattle.pyramid_levels.specs.Levels.{level_count}
use Rattle.pyramid_levels.specs.Refusals.{ask, build_refusal_of}
use Rattle.pyramid.specs.Pyramid.{above}

-- the value of an answer (RULES 6.4): how many levels there are
abbrev pub values_of : Result ℕ Refusal → List ℕ
values_of = values_by (λ n. n ∷ [])

-- the promise of `build_pyramid`: r is the answer, and the level buffer d becomes e: the levels above the base at the
-- start and the rest unchanged, or all of it unchanged if refused
pub record Built (base : List ℕ) (w h count minimum_side : ℕ) (d : List ℕ) (r : Result ℕ Refusal) (e : List ℕ)
    : Type 0 where
  pub answer : r ≡ judged (build_refusal_of (ask (length base) (length d) w h count minimum_side))
      (level_count w h count minimum_side)
  pub number : number_of r ≡ build_refusal_of (ask (length base) (length d) w h count minimum_side)
  pub values : values_of r ≡ values_unless (build_refusal_of (ask (length base) (length d) w h count minimum_side))
      (level_count w h count minimum_side ∷ [])
  pub buffer : e
      ≡ result_or (build_refusal_of (ask (length base) (length d) w h count minimum_side))
      (front (above base w h (level_count w h count minimum_side)) d) d
