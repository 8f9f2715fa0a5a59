-- The contracts of private functions: no public promise depends on them.
use Rattle.std.specs.Prelude.{ℕ, ◌≡◌, List, Result, Ok, Err}
use Rattle.lists.specs.declared.refusal.Refusal.{Refusal}
use Rattle.lists.specs.Buffer.{Written}
use Rattle.lists.specs.Refusals.{refusal_number}
use Rattle.listing.specs.Text.{refused_text}

-- a text is at the start of a buffer, and the answer is its length; or the text is that of the refusal, and nothing is
-- written yet
pub record Lists (text before : List ℕ) (r : Result ℕ Refusal) (after : List ℕ) : Type 0 where
  pub written : (end : ℕ) → r ≡ Ok end → Written text before end after
  pub refused : (e : Refusal) → r ≡ Err e → (text ≡ refused_text (refusal_number e)) × (after ≡ before)
