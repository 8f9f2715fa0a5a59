-- A table of wrong roads: what a test tells apart differs. Assumes nothing.
use mathlib.Core.Path.{◌≡◌}
use mathlib.Core.Bool.{true, false}
use mathlib.Core.List.{List, [], ◌∷◌}
use lib.Dec.{eqb}
use borrow.Author.Tests.{eq-eqb}
use Rattle.lists.specs.Places.{any, All}
use Rattle.lists.proofs.Members.{any_none}
use Rattle.demands.specs.Roads.{Road}

apart : (rs : List Road) → All (λ (r : Road). eqb r.ours r.wrong ≡ true → ⊥) rs → All (λ (r : Road). r.ours ≡ r.wrong → ⊥) rs
apart [] told = tt
apart (r ∷ rs) told = (λ same. told.0 (eq-eqb _ _ same), apart rs told.1)

pub differ : (rs : List Road) → any (λ (r : Road). eqb r.ours r.wrong) rs ≡ false → All (λ (r : Road). r.ours ≡ r.wrong → ⊥) rs
differ rs none = apart rs (any_none (λ (r : Road). eqb r.ours r.wrong) rs none)
