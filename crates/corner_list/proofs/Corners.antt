-- Laws of a buffer of corners: its slices' lengths, its corners read back, and the corners that stand first. Assumes nothing.
use Prim.Native.Nat.{ℕ, zero, suc, ◌<◌, ◌≤◌}
use native.Mathlib.Decide.{dec_lt}
use native.Mathlib.Omega.{arith}
use mathlib.Core.Path.{◌≡◌, refl, sym, ap, ◌∙◌}
use mathlib.Core.List.{List, [], ◌∷◌, ◌++◌, map, map-append}
use lib.ListN.{length, take, drop, get_or, set, length-append, length-map, get_or-append, get_or-map}
use lib.Seq.{ext_get_or, length-take-le, get_or-take, get_or-set_same, get_or-set_other}
use lib.Ieee.{Float, nan}
use borrow.Author.Tests.{lt-ltb, le-ltb}
use Rattle.lists.specs.Buffer.{front}
use Rattle.lists.proofs.Tab.{get_d_any, length-tab, get_d-tab}
use Rattle.lists.proofs.Buffer.{front_length, front_same, front-again, front-behind, front-set, front-next}
use Rattle.corner_list.specs.declared.Corner.{Corner}
use Rattle.corner_list.specs.CornerList.{Slices, slices, x_of, y_of, strength_of, neighbours_of, places_of, corner_at, corners_of}
use Rattle.corner_list.specs.CornerList.{set_corner, with_corner, front_corners}

-- a field of each corner, one of them replaced
map-set : {A : Type 0} (g : Corner → A) (cs : List Corner) (i : ℕ) (c : Corner) → map g (set cs i c) ≡ set (map g cs) i (g c)
map-set g [] i c = refl
map-set g (a ∷ cs) zero c = refl
map-set {A} g (a ∷ cs) (suc i) c = ap (λ (l : List A). g a ∷ l) (map-set g cs i c)

-- ---- a place of the buffer is one of each slice
module _ (b : Slices) (n : ℕ) (h : n ≤ places_of b) where
  pub in-xs : n ≤ length b.xs
  in-xs = omega arith

  pub in_ys : n ≤ length b.ys
  in_ys = omega arith

  pub in-strengths : n ≤ length b.strengths
  in-strengths = omega arith

  pub in-neighbours : n ≤ length b.neighbours
  in-neighbours = omega arith

-- ---- buffers alike in each slice
pub slices-alike : {xs ys ss xs' ys' ss' : List Float} {ns ns' : List ℕ} → xs ≡ xs' → ys ≡ ys' → ss ≡ ss' → ns ≡ ns'
    → slices xs ys ss ns ≡ slices xs' ys' ss' ns'
slices-alike p q r t = rw (p, q, r, t)

pub same-places : (b b' : Slices) → length b.xs ≡ length b'.xs → length b.ys ≡ length b'.ys
    → length b.strengths ≡ length b'.strengths → length b.neighbours ≡ length b'.neighbours → places_of b ≡ places_of b'
same-places b b' p q r t = rw (p, q, r, t)

-- ---- the first n corners
module _ (b : Slices) (n : ℕ) where
  pub corners-length : length (corners_of b n) ≡ n
  corners-length = length-tab n (corner_at b)

  pub corners-at : (i : ℕ) (d : Corner) → i < n → get_or (corners_of b n) i d ≡ corner_at b i
  corners-at i d h = get_d-tab n (corner_at b) i d h

  -- one slice of them
  fields : {A : Type 0} (z : A) (g : Corner → A) (s : List A) → ((i : ℕ) → g (corner_at b i) ≡ get_or s i z) → n ≤ length s
      → map g (corners_of b n) ≡ take n s
  fields z g s e h =
      let long : length (map g (corners_of b n)) ≡ n = length-map (corners_of b n) g ∙ corners-length in
      ext_get_or (g (corner_at b 0)) (map g (corners_of b n)) (take n s) (long ∙ sym (length-take-le n s h))
      (λ i l.
      let k : i < n = rw long at l in
      get_or-map g (corners_of b n) i (corner_at b 0) ∙ ap g (corners-at i (corner_at b 0) k) ∙ e i
      ∙ get_d_any s i z (g (corner_at b 0)) (omega arith) ∙ sym (get_or-take n s i (g (corner_at b 0)) k))

  pub corners-xs : n ≤ length b.xs → map x_of (corners_of b n) ≡ take n b.xs
  corners-xs h = fields nan x_of b.xs (λ i. refl) h

  pub corners-ys : n ≤ length b.ys → map y_of (corners_of b n) ≡ take n b.ys
  corners-ys h = fields nan y_of b.ys (λ i. refl) h

  pub corners-strengths : n ≤ length b.strengths → map strength_of (corners_of b n) ≡ take n b.strengths
  corners-strengths h = fields nan strength_of b.strengths (λ i. refl) h

  pub corners-neighbours : n ≤ length b.neighbours → map neighbours_of (corners_of b n) ≡ take n b.neighbours
  corners-neighbours h = fields 0 neighbours_of b.neighbours (λ i. refl) h

-- ---- corners that were written are read back
module _ (cs : List Corner) (b : Slices) (n : ℕ) (e : n ≡ length cs) where
  field-front : {A : Type 0} (z : A) (g : Corner → A) (s : List A) (i : ℕ) (d : Corner) → i < n
      → get_or (front (map g cs) s) i z ≡ g (get_or cs i d)
  field-front z g s i d h =
      let l : i < length (map g cs) = rw (length-map cs g) (omega arith) in
      get_or-append (map g cs) (drop (length (map g cs)) s) z i l ∙ get_d_any (map g cs) i z (g d) l ∙ get_or-map g cs i d

  pub corners-front : corners_of (front_corners cs b) n ≡ cs
  corners-front =
      let z = corner_at b 0 in
      ext_get_or z (corners_of (front_corners cs b) n) cs (corners-length (front_corners cs b) n ∙ e)
      (λ i l.
      let h : i < n = rw (corners-length (front_corners cs b) n) at l in
      corners-at (front_corners cs b) n i z h
      ∙ corner-alike
      (field-front nan x_of b.xs i z h)
      (field-front nan y_of b.ys i z h)
      (field-front nan strength_of b.strengths i z h)
      (field-front 0 neighbours_of b.neighbours i z h))
    where
      corner-alike : {x y s : Float} {n : ℕ} {c : Corner} → x ≡ c.x → y ≡ c.y → s ≡ c.strength → n ≡ c.neighbours
          → record { x = x; y = y; strength = s; neighbours = n } ≡ c
      corner-alike p q r t = rw (p, q, r, t)

  -- and each slice is as long as it was
  pub front-xs : n ≤ places_of b → length (front_corners cs b).xs ≡ length b.xs
  front-xs h = front_length (map x_of cs) b.xs (omega (arith, length-map cs x_of))

  pub front-ys : n ≤ places_of b → length (front_corners cs b).ys ≡ length b.ys
  front-ys h = front_length (map y_of cs) b.ys (omega (arith, length-map cs y_of))

  pub front-strengths : n ≤ places_of b → length (front_corners cs b).strengths ≡ length b.strengths
  front-strengths h = front_length (map strength_of cs) b.strengths (omega (arith, length-map cs strength_of))

  pub front-neighbours : n ≤ places_of b → length (front_corners cs b).neighbours ≡ length b.neighbours
  front-neighbours h = front_length (map neighbours_of cs) b.neighbours (omega (arith, length-map cs neighbours_of))

-- ---- a corner put at a place: stored in each slice where the buffer has the place, and in none where it has not
module _ (i : ℕ) (c : Corner) (b : Slices) where
  pub with-corner-inside : i < places_of b → with_corner i c b ≡ set_corner i c b
  unfolding with_corner
  with-corner-inside h = rw (lt-ltb i (places_of b) h)

  pub with-corner-outside : places_of b ≤ i → with_corner i c b ≡ b
  unfolding with_corner
  with-corner-outside h = rw (le-ltb i (places_of b) h)

-- it is read back, and every other is as it was
module _ (b : Slices) (at : ℕ) (c : Corner) where
  pub with-here : at < places_of b → corner_at (with_corner at c b) at ≡ c
  with-here h =
      rw (
        with-corner-inside at c b h,
        get_or-set_same b.xs at c.x nan (omega arith),
        get_or-set_same b.ys at c.y nan (omega arith),
        get_or-set_same b.strengths at c.strength nan (omega arith),
        get_or-set_same b.neighbours at c.neighbours 0 (omega arith),
      )

  pub with-there : (i : ℕ) → (i ≡ at → ⊥) → corner_at (with_corner at c b) i ≡ corner_at b i
  with-there i h =
      elim (dec_lt at (places_of b)) [
        | yes l ↦
            rw (
              with-corner-inside at c b l,
              get_or-set_other b.xs at i c.x nan h,
              get_or-set_other b.ys at i c.y nan h,
              get_or-set_other b.strengths at i c.strength nan h,
              get_or-set_other b.neighbours at i c.neighbours 0 h,
            )
        | no l ↦ rw (with-corner-outside at c b (omega arith))
      ]

-- ---- the corners that stand first, changed

-- the buffer's own first n
pub corners-same : (b : Slices) (n : ℕ) → n ≤ places_of b → b ≡ front_corners (corners_of b n) b
corners-same b n h =
    slices-alike
    (same x_of b.xs (omega arith) (corners-xs b n (omega arith)))
    (same y_of b.ys (omega arith) (corners-ys b n (omega arith)))
    (same strength_of b.strengths (omega arith) (corners-strengths b n (omega arith)))
    (same neighbours_of b.neighbours (omega arith) (corners-neighbours b n (omega arith)))
  where
    same : {A : Type 0} (g : Corner → A) (s : List A) → n ≤ length s → map g (corners_of b n) ≡ take n s
        → s ≡ front (map g (corners_of b n)) s
    same {A} g s h e = front_same n s h ∙ ap (λ (l : List A). front l s) (sym e)

module _ (cs : List Corner) (b : Slices) where
  -- other corners over them, at least as many
  pub corners-again : (ds : List Corner) → length cs ≤ length ds → front_corners ds (front_corners cs b) ≡ front_corners ds b
  corners-again ds h =
      slices-alike (again x_of b.xs) (again y_of b.ys) (again strength_of b.strengths) (again neighbours_of b.neighbours)
    where
      again : {A : Type 0} (g : Corner → A) (s : List A) → front (map g ds) (front (map g cs) s) ≡ front (map g ds) s
      again g s = front-again (map g cs) (map g ds) s (omega (arith, length-map cs g, length-map ds g))

  -- a corner behind them
  pub corners-behind : (i : ℕ) → length cs ≤ i → corner_at (front_corners cs b) i ≡ corner_at b i
  corners-behind i h =
      rw (behind nan x_of b.xs, behind nan y_of b.ys, behind nan strength_of b.strengths, behind 0 neighbours_of b.neighbours)
    where
      behind : {A : Type 0} (z : A) (g : Corner → A) (s : List A) → get_or (front (map g cs) s) i z ≡ get_or s i z
      behind z g s = front-behind (map g cs) s i z (omega (arith, length-map cs g))

  -- one of them replaced
  pub corners-set : (i : ℕ) (c : Corner) → i < length cs → with_corner i c (front_corners cs b) ≡ front_corners (set cs i c) b
  corners-set i c h =
      with-corner-inside i c (front_corners cs b)
      (omega (arith, long x_of b.xs, long y_of b.ys, long strength_of b.strengths, long neighbours_of b.neighbours))
      ∙ slices-alike (put x_of b.xs) (put y_of b.ys) (put strength_of b.strengths) (put neighbours_of b.neighbours)
    where
      long : {A : Type 0} (g : Corner → A) (s : List A) → length cs ≤ length (front (map g cs) s)
      long g s = omega (arith, length-append (map g cs) (drop (length (map g cs)) s), length-map cs g)

      put : {A : Type 0} (g : Corner → A) (s : List A) → set (front (map g cs) s) i (g c) ≡ front (map g (set cs i c)) s
      put {A} g s =
          front-set (map g cs) s i (g c) (omega (arith, length-map cs g)) ∙ ap (λ (l : List A). front l s) (sym (map-set g cs i c))

  -- one corner more
  pub corners-next : (n : ℕ) (c : Corner) → n ≡ length cs → n < places_of b
      → with_corner n c (front_corners cs b) ≡ front_corners (cs ++ (c ∷ [])) b
  corners-next n c e h =
      let l : n ≤ places_of b = omega arith in
      with-corner-inside n c (front_corners cs b)
      (omega (arith, front-xs cs b n e l, front-ys cs b n e l, front-strengths cs b n e l, front-neighbours cs b n e l))
      ∙ slices-alike
      (put x_of b.xs (omega arith))
      (put y_of b.ys (omega arith))
      (put strength_of b.strengths (omega arith))
      (put neighbours_of b.neighbours (omega arith))
    where
      put : {A : Type 0} (g : Corner → A) (s : List A) → n < length s → set (front (map g cs) s) n (g c) ≡ front (map g (cs ++ (c ∷ []))) s
      put {A} g s l =
          front-next (map g cs) s n (g c) (e ∙ sym (length-map cs g)) l ∙ ap (λ (l : List A). front l s) (sym (map-append g cs (c ∷ [])))
