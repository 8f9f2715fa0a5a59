-- What a caller of the pyramid can use: an answer taken apart, a level looked up in the buffer that was built, and its bytes. The laws of
-- lengths stand in Lengths. Assumes nothing.
use Prim.Native.Nat.{ℕ, zero, suc, ◌*◌, ◌/◌, ◌<◌, ◌≤◌}
use native.Mathlib.Omega.{arith}
use mathlib.Core.Path.{◌≡◌, sym, ap, ◌∙◌}
use mathlib.Core.List.{List}
use lib.ListN.{length, get_or}
use Rattle.lists.specs.Limits.{largest_side, most_levels}
use Rattle.lists.specs.Buffer.{front}
use Rattle.std.specs.Prelude.{Result, Ok, Err}
use Rattle.lists.specs.declared.refusal.Refusal.{Refusal}
use Rattle.lists.specs.Refusals.{refusal_number, number_of, judged}
use Rattle.lists.proofs.Judged.{judged-ok, refused-stays}
use Rattle.lists.proofs.Tab.{get_d-grid-any}
use Rattle.lists.proofs.Buffer.{front_length}
use Rattle.pyramid_levels.specs.Levels.{level_side, level_count, cells_above}
use Rattle.pyramid_levels.specs.Refusals.{ask, build_refusal_of, level_refusal_of}
use Rattle.pyramid_levels.specs.Level.{level_answer}
use Rattle.pyramid_levels.proofs.Sides.{side-le, count-few}
use Rattle.pyramid_levels.specs.Internal.{LevelsAccepted}
use Rattle.pyramid_levels.proofs.Refusals.{accepts, accepted, level-accepts}
use Rattle.pyramid.specs.Pyramid.{box_of, half_pixel, halved, level_pixels, above}
use Rattle.pyramid.specs.Build.{Built}
use Rattle.pyramid.specs.Level.{level_in}
use Rattle.pyramid.specs.Internal.{LevelsComplete}
use Rattle.pyramid.proofs.Lengths.{length_above, length-level}
use Rattle.pyramid.proofs.Above.{level-built}

-- ---- the answer

module _ (base : List ℕ) (w h count minimum_side : ℕ) (d : List ℕ) (r : Result ℕ Refusal) (e : List ℕ)
    (b : Built base w h count minimum_side d r e) where
  -- a pyramid was built
  pub built : (n : ℕ) → r ≡ Ok n → LevelsComplete base w h count minimum_side d e n
  built n c =
      let q = judged-ok _ _ _ (sym c ∙ b.answer) in
      let a = accepted _ q.0 in
      let f : e ≡ front (above base w h n) d = b.buffer ∙ rw (q.0, q.1) in
      record {
        allowed = a;
        counted = q.1;
        long = ap length f ∙ front_length (above base w h n) d (rw (length_above base w h n, q.1) a.fits);
        fills = f;
      }

  -- or refused, and the level buffer is as it was
  pub refused : (f : Refusal) → r ≡ Err f
      → (build_refusal_of (ask (length base) (length d) w h count minimum_side) ≡ refusal_number f) × (e ≡ d)
  refused f c = (sym b.number ∙ ap number_of c, b.buffer ∙ refused-stays _ _ f _ _ (sym c ∙ b.answer))

  -- where nothing refuses, all levels are built
  pub builds : LevelsAccepted (ask (length base) (length d) w h count minimum_side) → r ≡ Ok (level_count w h count minimum_side)
  builds a = b.answer ∙ ap (λ (k : ℕ). judged k (level_count w h count minimum_side)) (accepts _ a)

-- ---- how many levels
pub levels-few : (base : List ℕ) (w h count minimum_side : ℕ) (d e : List ℕ) (n : ℕ)
    → LevelsComplete base w h count minimum_side d e n → n ≤ most_levels
levels-few base w h count minimum_side d e n c = rw c.counted (count-few w h count minimum_side c.allowed.image.narrow)

-- ---- the lookup of what was built

module _ (base : List ℕ) (w h count minimum_side : ℕ) (d e : List ℕ) (n : ℕ) (c : LevelsComplete base w h count minimum_side d e n)
    (k : ℕ) (l : k < n) where
  still : LevelsAccepted (ask (length base) (length e) w h count minimum_side)
  still = rw c.long c.allowed

  free : level_refusal_of (ask (length base) (length e) w h count minimum_side) k ≡ 0
  free = level-accepts _ k still (rw c.counted at l)

  -- `level_at` says where level k lies
  pub level-place : level_answer (ask (length base) (length e) w h count minimum_side) k
      ≡ Ok (record { from = cells_above w h k; width = level_side w k; height = level_side h k })
  unfolding level_answer
  level-place = rw free

  -- `level` hands out the base, halved k times
  pub level-found : level_in base e w h count minimum_side k ≡ level_pixels base w h k
  unfolding level_in
  level-found = rw (level-place, c.fills) (level-built base d w h n k l)

  -- width × height pixels, and sides up to the largest: what number 2 and number 1 ask
  pub level-long : length (level_in base e w h count minimum_side k) ≡ level_side w k * level_side h k
  level-long = ap length level-found ∙ length-level base w h k c.allowed.image.sized

  pub level-small : (level_side w k ≤ largest_side) × (level_side h k ≤ largest_side)
  level-small = (omega (arith, side-le w k, c.allowed.image.narrow), omega (arith, side-le h k, c.allowed.image.low))

-- ---- bytes

box-byte : (p q r s : ℕ) → p < 256 → q < 256 → r < 256 → s < 256 → box_of p q r s < 256
box-byte p q r s a b c d = omega arith

halved-bytes : (img : List ℕ) (w h : ℕ) → ((i : ℕ) → get_or img i 0 < 256) → (i : ℕ) → get_or (halved img w h) i 0 < 256
unfolding halved half_pixel
halved-bytes img w h b i =
    get_d-grid-any (λ (v : ℕ). v < 256) 0 (omega arith) _ (λ x y. box-byte _ _ _ _ (b _) (b _) (b _) (b _)) (w / 2) (h / 2) i

-- every pixel of a level is below 256 if the base's are
pub level-bytes : (base : List ℕ) (w h : ℕ) → ((i : ℕ) → get_or base i 0 < 256) → (k i : ℕ) → get_or (level_pixels base w h k) i 0 < 256
unfolding level_pixels
level-bytes base w h b zero i = b i
level-bytes base w h b (suc k) i = halved-bytes (level_pixels base w h k) (level_side w k) (level_side h k) (level-bytes base w h b k) i
