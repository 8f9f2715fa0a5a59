-- Building the levels one behind the other, and what `build_pyramid` answers and leaves. Assumes nothing.
use Prim.Native.Nat.{ℕ, suc, ◌+◌, ◌*◌, ◌/◌, ◌<◌, ◌≤◌, ◌-◌}
use native.Mathlib.Numerals.{add-one}
use native.Mathlib.Omega.{arith}
use mathlib.Core.Path.{◌≡◌, refl, sym, ap, ap₂, ◌∙◌}
use mathlib.Core.List.{List}
use lib.ListN.{length, drop}
use Rattle.std.specs.Prelude.{Result, Ok, Err}
use Rattle.lists.specs.declared.refusal.Refusal.{Refusal}
use Rattle.lists.specs.Refusals.{verdict, judged, result_or}
use Rattle.lists.specs.Buffer.{front, placed}
use Rattle.lists.proofs.Judged.{number-judged, values-judged, judged-err, refused-stays}
use Rattle.lists.proofs.Buffer.{front-more}
use Rattle.pyramid_levels.specs.Levels.{level_side, level_count, cells_above}
use Rattle.pyramid_levels.specs.Refusals.{ask, build_refusal_of}
use Rattle.pyramid_levels.proofs.Sides.{side-base, side-next}
use Rattle.pyramid_levels.proofs.Cells.{cells-next, cells-step, cells-mono}
use Rattle.pyramid.specs.Pyramid.{halved, level_pixels, above}
use Rattle.pyramid.specs.Build.{Built}
use Rattle.pyramid.specs.Internal.{holder_of, Halving, LevelHalved, LevelsFilled}
use Rattle.pyramid.proofs.Lengths.{above-last, length_above}
use Rattle.pyramid.proofs.Above.{level-inside, part-is, level-built}
use Rattle.pyramid.proofs.Halving.{halved-take}

-- ---- level by level: level k, of a by b, is the last one built

pub record Reached (base d : List ℕ) (w h n k a b from to : ℕ) (s : List ℕ) : Type 0 where
  pub long : length s ≡ length d
  pub last : k ≤ n - 1
  pub cols : a ≡ level_side w k
  pub rows : b ≡ level_side h k
  pub begins : from ≡ cells_above w h k
  pub ends : to ≡ cells_above w h (suc k)
  pub holds : s ≡ front (above base w h (suc k)) d

pub reach-base : (base d : List ℕ) (w h n : ℕ) → Reached base d w h n 0 w h 0 0 d
unfolding cells_above above
reach-base base d w h n =
    record { long = refl; last = omega arith; cols = side-base w; rows = side-base h; begins = refl; ends = refl; holds = refl }

pub reach-all : (base d : List ℕ) (w h n k a b from to : ℕ) (s : List ℕ) → Reached base d w h n k a b from to s → n ≤ k + 1
    → LevelsFilled base w h n d s
reach-all base d w h n k a b from to s r l = record { is = r.holds ∙ ap (λ (v : List ℕ). front v d) (above-last base w h n k l r.last) }

module _ (base d : List ℕ) (w h n k a b from to : ℕ) (s : List ℕ) (sized : length base ≡ w * h) (fits : cells_above w h n ≤ length d)
    (r : Reached base d w h n k a b from to s) (l : k + 1 < n) where
  -- the next level ends within the buffer
  next-ends : to + a / 2 * (b / 2) ≡ cells_above w h (suc (suc k))
  next-ends = rw r.ends (cells-next w h k (a / 2) (b / 2) (side-next w k a r.cols) (side-next h k b r.rows))

  pub next_fits : to + a / 2 * (b / 2) ≤ length d
  next_fits = omega (arith, next-ends, cells-mono w h (suc (suc k)) n (omega arith))

  pub level-ok : Halving base s k from a b to
  level-ok =
      record {
        inside = rw (r.cols, r.rows, r.begins) (level-inside base s w h n k sized (omega (arith, r.long)) (omega arith));
        behind = λ z. omega (arith, cells-step w h k z, r.begins, r.ends, ap₂ (λ (x y : ℕ). x * y) r.cols r.rows);
        fits = omega (arith, next_fits, r.long);
      }

  -- level k at half size is the next level
  next-pixels : halved (drop from (holder_of base s k)) a b ≡ level_pixels base w h (suc k)
  unfolding level_pixels
  next-pixels =
      sym (halved-take (drop from (holder_of base s k)) a b)
      ∙ rw (r.cols, r.rows, r.begins, r.holds)
      (ap (λ (v : List ℕ). halved v (level_side w k) (level_side h k))
      (part-is base (front (above base w h (suc k)) d) w h k sized ∙ level-built base d w h (suc k) k (omega arith)))

  pub reach-next : (s' : List ℕ) → length s' ≡ length s → LevelHalved base s k from a to (b / 2) s'
      → Reached base d w h n (k + 1) (a / 2) (b / 2) to (to + a / 2 * (b / 2)) s'
  unfolding above halved
  reach-next s' e t =
      record {
        long = e ∙ r.long;
        last = omega arith;
        cols = rw add-one (side-next w k a r.cols);
        rows = rw add-one (side-next h k b r.rows);
        begins = rw add-one r.ends;
        ends = rw add-one next-ends;
        holds =
            t.is
            ∙ ap₂ (placed to) next-pixels r.holds
            ∙ front-more (above base w h (suc k)) (level_pixels base w h (suc k)) d to (r.ends ∙ sym (length_above base w h (suc k)))
            ∙ rw add-one;
      }

-- ---- the answer

module _ (base : List ℕ) (w h count minimum_side : ℕ) (d : List ℕ) where
  abbrev pub number : ℕ
  number = build_refusal_of (ask (length base) (length d) w h count minimum_side)

  answered : (r : Result ℕ Refusal) (s : List ℕ) → r ≡ judged number (level_count w h count minimum_side)
      → s ≡ result_or number (front (above base w h (level_count w h count minimum_side)) d) d → Built base w h count minimum_side d r s
  unfolding build_refusal_of
  answered r s e b =
      record { answer = e; number = number-judged _ _ e (grind arith); values = values-judged _ _ _ e; buffer = b }

  pub built-refused : (e : Refusal) → Err e ≡ verdict number → Built base w h count minimum_side d (Err e) d
  built-refused e p = answered _ _ (judged-err _ _ _ e p) (sym (refused-stays _ _ e _ _ p))

  pub built-filled : (n : ℕ) (s : List ℕ) → number ≡ 0 → n ≡ level_count w h count minimum_side → LevelsFilled base w h n d s
      → Built base w h count minimum_side d (Ok n) s
  built-filled n s e q f = answered _ _ (rw (e, q)) (f.is ∙ rw (e, q))
