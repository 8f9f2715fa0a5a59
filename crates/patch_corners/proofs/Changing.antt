-- The corners behind the first `held` of a buffer, each replaced by a function of it, one a turn. Assumes nothing.
use Prim.Native.Nat.{ℕ, ◌+◌, ◌-◌, ◌<◌, ◌≤◌}
use native.Mathlib.Omega.{arith}
use native.Mathlib.Numerals.{add-one}
use mathlib.Core.Path.{◌≡◌, refl, sym, ap, ap₂, ◌∙◌}
use mathlib.Core.List.{List, [], ◌∷◌, ◌++◌, map, append_assoc, append-nil}
use lib.ListN.{length, take, drop, get_or, length-append, length-map}
use lib.Seq.{length-take-le, take_at, drop_at, get_or-append-add, get_or-drop}
use lib.Ieee.{nan}
use Rattle.lists.specs.Tab.{tab}
use Rattle.lists.specs.Buffer.{placed}
use Rattle.lists.proofs.Tab.{length-tab, map-tab}
use Rattle.lists.proofs.Buffer.{placed-none}
use Rattle.corner_list.specs.declared.Corner.{Corner}
use Rattle.corner_list.specs.CornerList.{Slices, x_of, y_of, strength_of, neighbours_of, places_of, corner_at, with_corner, placed_corners}
use Rattle.corner_list.proofs.Corners.{slices-alike, same-places}
use Rattle.corner_list.proofs.Growing.{Growing, growing-put, growing-all, growing-xs, growing-ys, growing-strengths, growing-neighbours}
use Rattle.corner_list.proofs.Placed.{corners-placed}
use Rattle.patch_corners.specs.Internal.{Changed}

-- ---- what stands behind elements that were placed, and others placed over them
module _ {A : Type 0} (held : ℕ) (vs d : List A) (h : held ≤ length d) where
  begin-length : length (take held d ++ vs) ≡ held + length vs
  begin-length = length-append (take held d) vs ∙ ap (λ (k : ℕ). k + length vs) (length-take-le held d h)

  pub placed-behind : (i : ℕ) (z : A) → held + length vs ≤ i → get_or (placed held vs d) i z ≡ get_or d i z
  placed-behind i z l =
      let k = i - (held + length vs) in
      let e : i ≡ length (take held d ++ vs) + k = omega (arith, begin-length) in
      let m : held + length vs + k ≡ i = omega arith in
      ap (λ (j : ℕ). get_or (placed held vs d) j z) e
      ∙ get_or-append-add (take held d ++ vs) (drop (held + length vs) d) k z
      ∙ get_or-drop (held + length vs) d k z
      ∙ ap (λ (j : ℕ). get_or d j z) m

  pub placed-again : (us : List A) → length us ≡ length vs → placed held us (placed held vs d) ≡ placed held us d
  placed-again us e =
      let rest = drop (held + length vs) d in
      ap₂ (λ (a b : List A). a ++ us ++ b)
      (ap (take held) (append_assoc (take held d) vs rest) ∙ take_at (take held d) (vs ++ rest) held (length-take-le held d h))
      (drop_at (take held d ++ vs) rest (held + length us) (begin-length ∙ ap (λ (k : ℕ). held + k) (sym e))
      ∙ ap (λ (k : ℕ). drop (held + k) d) (sym e))

module _ (held : ℕ) (cs : List Corner) (b : Slices) (h : held ≤ places_of b) where
  corner-behind : (i : ℕ) → held + length cs ≤ i → corner_at (placed_corners held cs b) i ≡ corner_at b i
  corner-behind i l =
      rw (
        behind nan x_of b.xs (omega arith),
        behind nan y_of b.ys (omega arith),
        behind nan strength_of b.strengths (omega arith),
        behind 0 neighbours_of b.neighbours (omega arith),
      )
    where
      behind : {A : Type 0} (z : A) (g : Corner → A) (d : List A) → held ≤ length d → get_or (placed held (map g cs) d) i z ≡ get_or d i z
      behind z g d q = placed-behind held (map g cs) d q i z (omega (arith, length-map cs g))

  pub corners-over : (ds : List Corner) → length ds ≡ length cs
      → placed_corners held ds (placed_corners held cs b) ≡ placed_corners held ds b
  corners-over ds e =
      slices-alike
      (over x_of b.xs (omega arith))
      (over y_of b.ys (omega arith))
      (over strength_of b.strengths (omega arith))
      (over neighbours_of b.neighbours (omega arith))
    where
      over : {A : Type 0} (g : Corner → A) (d : List A) → held ≤ length d
          → placed held (map g ds) (placed held (map g cs) d) ≡ placed held (map g ds) d
      over g d q = placed-again held (map g cs) d q (map g ds) (length-map ds g ∙ e ∙ sym (length-map cs g))

-- ---- i of the n corners of a buffer b, which was b₀, are replaced
pub record Changing (f : Corner → Corner) (held n i : ℕ) (b₀ b : Slices) : Type 0 where
  pub upto : i ≤ n
  pub is : b ≡ placed_corners held (tab i (λ j. f (corner_at b₀ (held + j)))) b₀

module _ (f : Corner → Corner) (held n : ℕ) (b₀ : Slices) where
  pub changing-none : Changing f held n 0 b₀ b₀
  unfolding tab
  changing-none = record {
    upto = omega arith;
    is = slices-alike (placed-none held b₀.xs) (placed-none held b₀.ys) (placed-none held b₀.strengths)
        (placed-none held b₀.neighbours);
  }

  module _ (fits : held + n ≤ places_of b₀) (i : ℕ) (b : Slices) (at : Changing f held n i b₀ b) where
    abbrev read : ℕ → Corner
    read j = f (corner_at b₀ (held + j))

    -- as a list that is written
    grown : Growing (tab i read) [] held i b₀ b
    grown = record {
      done = tab i read;
      count = sym (length-tab i read);
      split = sym (append-nil (tab i read));
      fits = omega (arith, length-tab i read, at.upto);
      is = at.is;
    }

    pub changing-xs : length b.xs ≡ length b₀.xs
    changing-xs = growing-xs (tab i read) [] held i b₀ b grown

    pub changing-ys : length b.ys ≡ length b₀.ys
    changing-ys = growing-ys (tab i read) [] held i b₀ b grown

    pub changing-strengths : length b.strengths ≡ length b₀.strengths
    changing-strengths = growing-strengths (tab i read) [] held i b₀ b grown

    pub changing-neighbours : length b.neighbours ≡ length b₀.neighbours
    changing-neighbours = growing-neighbours (tab i read) [] held i b₀ b grown

    -- one more
    same-corner : corner_at b (held + i) ≡ corner_at b₀ (held + i)
    same-corner =
        ap (λ (s : Slices). corner_at s (held + i)) at.is
        ∙ corner-behind held (tab i read) b₀ (omega arith) (held + i) (omega (arith, length-tab i read))

    growing : i < n → Growing (tab (i + 1) read) (read i ∷ []) held i b₀ b
    unfolding tab
    growing l = record {
      done = tab i read;
      count = sym (length-tab i read);
      split = ap (λ (k : ℕ). tab k read) (add-one i);
      fits = omega (arith, length-tab (i + 1) read);
      is = at.is;
    }

    pub changing-put : i < n → (c d : Corner) (b' : Slices) → c ≡ corner_at b (held + i) → d ≡ f c → b' ≡ with_corner (held + i) d b
        → Changing f held n (i + 1) b₀ b'
    changing-put l c d b' p q put =
        let e : d ≡ read i = q ∙ ap f (p ∙ same-corner) in
        let same = put ∙ ap (λ (a : Corner). with_corner (held + i) a b) e in
        let next = growing-put (tab (i + 1) read) (read i ∷ []) held i b₀ b (growing l) (read i) [] refl b' same in
        record { upto = omega arith; is = (growing-all (tab (i + 1) read) [] held (i + 1) b₀ b' next refl).1 }

    -- all
    pub changing-all : n ≤ i → Changed f held n b₀ b
    changing-all l = let e : i ≡ n = omega (arith, at.upto) in
        record { is = at.is ∙ ap (λ (k : ℕ). placed_corners held (tab k read) b₀) e }

-- ---- corners that were placed, each then replaced by a function of it
-- the buffer has as many places as before
module _ (cs : List Corner) (held : ℕ) (b : Slices) (h : held + length cs ≤ places_of b) where
  placed-grown : Growing cs [] held (length cs) b (placed_corners held cs b)
  placed-grown = record { done = cs; count = refl; split = sym (append-nil cs); fits = h; is = refl }

  pub placed-places : places_of (placed_corners held cs b) ≡ places_of b
  placed-places =
      same-places (placed_corners held cs b) b
      (growing-xs cs [] held (length cs) b (placed_corners held cs b) placed-grown)
      (growing-ys cs [] held (length cs) b (placed_corners held cs b) placed-grown)
      (growing-strengths cs [] held (length cs) b (placed_corners held cs b) placed-grown)
      (growing-neighbours cs [] held (length cs) b (placed_corners held cs b) placed-grown)

module _ (f : Corner → Corner) (cs : List Corner) (held : ℕ) (b b' : Slices) (n : ℕ) (e : n ≡ length cs) (fits : held + n ≤ places_of b)
    (is : b' ≡ placed_corners held cs b) where
  -- they have their places in the buffer as it is now
  pub changed-fits : held + n ≤ places_of b'
  changed-fits = let h : held + length cs ≤ places_of b = omega (arith, e, fits) in
      omega (arith, fits, ap places_of is, placed-places cs held b h)

  pub changed-placed : (b'' : Slices) → Changed f held n b' b'' → b'' ≡ placed_corners held (map f cs) b
  changed-placed b'' c =
      let h : held ≤ places_of b = omega (arith, fits) in
      let read : Slices → ℕ → Corner = λ s i. corner_at s (held + i) in
      let list : tab n (λ i. f (read b' i)) ≡ map f cs =
      sym (map-tab f (read b') n) ∙ ap (λ (s : Slices). map f (tab n (read s))) is ∙ ap (map f) (corners-placed held cs b h n e) in
      c.is ∙ ap₂ (λ (l : List Corner) (s : Slices). placed_corners held l s) list is ∙ corners-over held cs b h (map f cs) (length-map cs f)
