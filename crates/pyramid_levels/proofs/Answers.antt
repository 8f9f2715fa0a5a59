-- What `level_at` promises, by its answer. Assumes nothing.
use Prim.Native.Nat.{ℕ}
use native.Mathlib.Omega.{arith}
use mathlib.Core.Path.{◌≡◌}
use Rattle.std.specs.Prelude.{Result}
use Rattle.lists.specs.declared.refusal.Refusal.{Refusal}
use Rattle.lists.proofs.Judged.{number-judged, values-judged}
use Rattle.pyramid_levels.specs.Refusals.{Ask, level_refusal_of}
use Rattle.pyramid_levels.specs.Level.{level_answer, LevelFound}
use Rattle.pyramid_levels.specs.declared.Level.{Level}

pub level-found : (a : Ask) (k : ℕ) (r : Result Level Refusal) → r ≡ level_answer a k → LevelFound a k r
unfolding level_answer level_refusal_of
level-found a k r e =
    record {
      answer = e;
      number = number-judged _ _ e (grind arith);
      values = values-judged _ _ _ e;
    }
