-- What `zakdomp_holding` promises, by the promise of `holding`.
use Rattle.std.specs.Prelude.{ℕ, ◌≡◌}
use Rattle.retention.specs.Retention.{state_of, letter_of, refusal_of}
use Rattle.retention.specs.Answer.{StateTold}
use Rattle.lists.specs.Refusals.{judged, result_or}

-- r is the number that refuses the call, 0 if none does; the letter is the answer's
pub record HoldingTold (kind start time letter r letter' : ℕ) : Type 0 where
  pub number : r ≡ refusal_of kind start time
  pub answer : StateTold kind start time (judged r (state_of kind start time))
  pub letter_is : letter' ≡ result_or r (letter_of (state_of kind start time)) letter
