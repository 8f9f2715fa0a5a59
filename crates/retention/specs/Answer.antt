-- The promise of `holding`.
use Rattle.std.specs.Prelude.{ℕ, ◌≡◌, [], ◌∷◌, Result}
use Rattle.lists.specs.declared.refusal.Refusal.{Refusal}
use Rattle.lists.specs.Refusals.{number_of, judged, values_unless}
use Rattle.retention.specs.declared.Holding.{Holding}
use Rattle.retention.specs.Retention.{state_of, refusal_of, letter_of, values_of}

-- the state of an item of a kind, received or issued at `start`, at `time`; or its refusal
pub record StateTold (kind start time : ℕ) (r : Result Holding Refusal) : Type 0 where
  pub answer : r ≡ judged (refusal_of kind start time) (state_of kind start time)
  pub number : number_of r ≡ refusal_of kind start time
  pub values : values_of r ≡ values_unless (refusal_of kind start time) (letter_of (state_of kind start time) ∷ [])
