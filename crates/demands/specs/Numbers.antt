-- The numbers that an answer can refuse with.
use Rattle.std.specs.Prelude.{ℕ, ◌≡◌, ◌⊎◌, List, [], ◌∷◌, Result, Err}
use Rattle.lists.specs.declared.refusal.Refusal.{Refusal}
use Rattle.lists.specs.Refusals.{refusal_number}

-- n is one of a list
abbrev pub OneOf : ℕ → List ℕ → Type 0
OneOf n [] = ⊥
OneOf n (k ∷ ks) = (n ≡ k) ⊎ OneOf n ks

-- an answer that is not a refusal, or one with a number from the list
abbrev pub RefusesBy : {A : Type 0} → (Refusal → A) → List ℕ → A → Type 0
RefusesBy refused numbers answer = (e : Refusal) → answer ≡ refused e → OneOf (refusal_number e) numbers

abbrev pub Refuses : {A : Type 0} → List ℕ → Result A Refusal → Type 0
Refuses = RefusesBy Err
