-- Wrong roads (RULES 15.3): what words of the rules could be mistaken for. A road is an input, as small as possible, on
-- which the definition from the rules and a wrong one give different numbers. WrongValues.antt has those that lead to a
-- wrong value, WrongRefusals.antt those that lead to a wrong refusal. The comment on a road quotes the words that it
-- gets wrong, then says how it reads them.
use Rattle.std.specs.Prelude.{ℕ, ◌≡◌, Bool, true, cond, List, [], map, pos}
use Rattle.std.specs.Float.{fin}
use Rattle.lists.specs.Places.{Place, All}
use Rattle.float32.specs.Float32.{float_of}
use Rattle.corner_list.specs.declared.Corner.{Corner}
use Rattle.corner_list.specs.CornerList.{Slices, slices, front_corners}

-- what the rules give, what a wrong definition gives, and the numbers stated for both
pub record Road : Type 0 where
  pub ours : ℕ
  pub said : ℕ
  pub wrong : ℕ
  pub instead : ℕ

abbrev pub road : ℕ → ℕ → ℕ → ℕ → Road
road ours said wrong instead = record { ours = ours; said = said; wrong = wrong; instead = instead }

-- for a table of them: each gives the number stated, and the wrong number is never the right one
pub record Wrong (roads : List Road) : Type 0 where
  pub ours : map (λ (r : Road). r.ours) roads ≡ map (λ (r : Road). r.said) roads
  pub wrong : map (λ (r : Road). r.wrong) roads ≡ map (λ (r : Road). r.instead) roads
  pub differ : All (λ (r : Road). r.ours ≡ r.wrong → ⊥) roads

-- ---- inputs

-- 1 for yes, 0 for no
abbrev pub told : Bool → ℕ
told b = cond b 1 0

abbrev pub place : ℕ → ℕ → Place
place x y = record { x = x; y = y }

abbrev pub corner : ℕ → ℕ → ℕ → ℕ → Corner
corner x y strength neighbours =
    record { x = float_of x; y = float_of y; strength = float_of strength; neighbours = neighbours }

-- a corner to the left of the image
abbrev pub outside : Corner
outside = record { x = fin true 1 (pos 0); y = float_of 1; strength = float_of 1; neighbours = 0 }

-- a buffer with a place for each of some corners, and no more
abbrev pub holding : List Corner → Slices
holding cs = front_corners cs (slices [] [] [] [])
