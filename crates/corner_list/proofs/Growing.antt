-- A buffer that a list of corners is written to, one corner or one part of the list after the other. Assumes nothing.
use Prim.Native.Nat.{ℕ, ◌+◌, ◌<◌, ◌≤◌}
use native.Mathlib.Omega.{arith}
use mathlib.Core.Path.{◌≡◌, refl, sym, ap, ◌∙◌}
use mathlib.Core.List.{List, [], ◌∷◌, ◌++◌, map, map-append, append_assoc, append-nil}
use lib.ListN.{length, set, length-append, length-map}
use Rattle.lists.specs.Buffer.{front, placed}
use Rattle.lists.proofs.Buffer.{placed-none, placed-set, placed-length, front-more}
use Rattle.corner_list.specs.declared.Corner.{Corner}
use Rattle.corner_list.specs.CornerList.{Slices, x_of, y_of, strength_of, neighbours_of, places_of, set_corner, with_corner, front_corners}
use Rattle.corner_list.specs.CornerList.{placed_corners}
use Rattle.corner_list.proofs.Corners.{slices-alike, same-places, with-corner-inside}

-- ---- one slice
module _ {A : Type 0} (g : Corner → A) (done : List Corner) (held k : ℕ) (d : List A) (e : k ≡ length done) where
  slice-put : (c : Corner) → held + k < length d
      → set (placed held (map g done) d) (held + k) (g c) ≡ placed held (map g (done ++ (c ∷ []))) d
  slice-put c h =
      let n : held + k ≡ held + length (map g done) = omega (arith, length-map done g) in
      ap (λ (i : ℕ). set (placed held (map g done) d) i (g c)) n
      ∙ placed-set held (map g done) d (g c) (omega (arith, length-map done g))
      ∙ ap (λ (l : List A). placed held l d) (sym (map-append g done (c ∷ [])))

  slice-length : held + k ≤ length d → length (placed held (map g done) d) ≡ length d
  slice-length h = placed-length held (map g done) d (omega (arith, length-map done g))

-- ---- Of the corners `all`, the first k stand in the buffer b, which was b₀, behind its first `held`, and `rest` are left.
pub record Growing (all rest : List Corner) (held k : ℕ) (b₀ b : Slices) : Type 0 where
  pub done : List Corner
  pub count : k ≡ length done
  pub split : all ≡ done ++ rest
  pub fits : held + length all ≤ places_of b₀
  pub is : b ≡ placed_corners held done b₀

pub growing-none : (all : List Corner) (held : ℕ) (b : Slices) → held + length all ≤ places_of b → Growing all all held 0 b b
growing-none all held b h = record {
  done = [];
  count = refl;
  split = refl;
  fits = h;
  is = slices-alike (placed-none held b.xs) (placed-none held b.ys) (placed-none held b.strengths)
      (placed-none held b.neighbours);
}

module _ (all rest : List Corner) (held k : ℕ) (b₀ b : Slices) (at : Growing all rest held k b₀ b) where
  upto : k + length rest ≡ length all
  upto = omega (arith, at.count, ap length at.split ∙ length-append at.done rest)

  -- the same corners left, by another name
  pub growing-to : (rest' : List Corner) → rest ≡ rest' → Growing all rest' held k b₀ b
  growing-to rest' e =
      record {
        done = at.done;
        count = at.count;
        split = at.split ∙ ap (λ (l : List Corner). at.done ++ l) e;
        fits = at.fits;
        is = at.is;
      }

  pub growing-xs : length b.xs ≡ length b₀.xs
  growing-xs =
      ap (λ (s : Slices). length s.xs) at.is ∙ slice-length x_of at.done held k b₀.xs at.count (omega (arith, upto, at.fits))

  pub growing-ys : length b.ys ≡ length b₀.ys
  growing-ys =
      ap (λ (s : Slices). length s.ys) at.is ∙ slice-length y_of at.done held k b₀.ys at.count (omega (arith, upto, at.fits))

  pub growing-strengths : length b.strengths ≡ length b₀.strengths
  growing-strengths =
      ap (λ (s : Slices). length s.strengths) at.is
      ∙ slice-length strength_of at.done held k b₀.strengths at.count (omega (arith, upto, at.fits))

  pub growing-neighbours : length b.neighbours ≡ length b₀.neighbours
  growing-neighbours =
      ap (λ (s : Slices). length s.neighbours) at.is
      ∙ slice-length neighbours_of at.done held k b₀.neighbours at.count (omega (arith, upto, at.fits))

  -- there is a place for the next corner, and it is put there
  module _ (c : Corner) (rest' : List Corner) (e : rest ≡ c ∷ rest') where
    pub growing-fits : held + k < places_of b
    growing-fits = omega (arith, upto, ap length e, at.fits, same-places b b₀ growing-xs growing-ys growing-strengths growing-neighbours)

    pub growing-put : (b' : Slices) → b' ≡ with_corner (held + k) c b → Growing all rest' held (k + 1) b₀ b'
    growing-put b' put =
        let h : held + k < places_of b₀ = omega (arith, upto, ap length e, at.fits) in
        record {
          done = at.done ++ (c ∷ []);
          count = omega (arith, at.count, length-append at.done (c ∷ []));
          split = at.split ∙ ap (λ (l : List Corner). at.done ++ l) e ∙ simp append_assoc;
          fits = at.fits;
          is =
              put
              ∙ with-corner-inside (held + k) c b growing-fits
              ∙ ap (set_corner (held + k) c) at.is
              ∙ slices-alike
              (one x_of b₀.xs (omega arith))
              (one y_of b₀.ys (omega arith))
              (one strength_of b₀.strengths (omega arith))
              (one neighbours_of b₀.neighbours (omega arith));
        }
      where
        one : {A : Type 0} (g : Corner → A) (d : List A) → held + k < length d
            → set (placed held (map g at.done) d) (held + k) (g c) ≡ placed held (map g (at.done ++ (c ∷ []))) d
        one g d l = slice-put g at.done held k d at.count c l

  -- none is left
  pub growing-all : rest ≡ [] → (k ≡ length all) × (b ≡ placed_corners held all b₀)
  growing-all e =
      let a : all ≡ at.done = at.split ∙ ap (λ (l : List Corner). at.done ++ l) e ∙ append-nil at.done in
      (omega (arith, upto, ap length e), at.is ∙ ap (λ (l : List Corner). placed_corners held l b₀) (sym a))

-- ---- a list behind another, with which the buffer begins
module _ (cs more : List Corner) (held : ℕ) (b : Slices) (e : held ≡ length cs) where
  slice-more : {A : Type 0} (g : Corner → A) (d : List A) → placed held (map g more) (front (map g cs) d) ≡ front (map g (cs ++ more)) d
  slice-more {A} g d =
      front-more (map g cs) (map g more) d held (e ∙ sym (length-map cs g)) ∙ ap (λ (l : List A). front l d) (sym (map-append g cs more))

  pub corners-more : placed_corners held more (front_corners cs b) ≡ front_corners (cs ++ more) b
  corners-more =
      slices-alike (slice-more x_of b.xs) (slice-more y_of b.ys) (slice-more strength_of b.strengths)
      (slice-more neighbours_of b.neighbours)
