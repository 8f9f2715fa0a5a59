-- Corners moved up one after the other, and a list without one of its corners. Assumes nothing.
use Prim.Native.Nat.{ℕ, suc, ◌+◌, ◌-◌, ◌<◌, ◌≤◌}
use native.Mathlib.Omega.{arith}
use native.Mathlib.Numerals.{add-one}
use mathlib.Core.Path.{◌≡◌, sym, ap, ◌∙◌}
use mathlib.Core.List.{List, [], ◌∷◌, ◌++◌}
use lib.ListN.{length, get_or, take, drop, length-append, length-drop, take-append-drop, get_or-append}
use lib.Seq.{length-take-le, take-suc, take_at, take_all, drop-cons, get_or-append-add, get_or-append_seam, get_or-take, get_or-drop}
use Rattle.lists.specs.Tab.{tab}
use Rattle.lists.proofs.Tab.{tab-add, length-tab}
use Rattle.corner_list.specs.declared.Corner.{Corner}
use Rattle.corner_list.specs.CornerList.{Slices, places_of, corner_at, corners_of, with_corner, front_corners, without, no_corner}
use Rattle.corner_list.specs.CornerList.{without_corner}
use Rattle.corner_list.proofs.Corners.{corners-length, corners-at, corners-same, corners-behind, corners-next, corners-front}

-- ---- a list without the member at a place
module _ {A : Type 0} (place : ℕ) (l : List A) (h : place < length l) where
  first-length : length (take place l) ≡ place
  first-length = length-take-le place l (omega arith)

  pub without-length : suc (length (without place l)) ≡ length l
  without-length = omega (arith, length-append (take place l) (drop (suc place) l), first-length, length-drop (suc place) l)

  without-first : take place (without place l) ≡ take place l
  without-first = take_at (take place l) (drop (suc place) l) place first-length

  without-before : (i : ℕ) (d : A) → i < place → get_or (without place l) i d ≡ get_or l i d
  without-before i d q = get_or-append (take place l) (drop (suc place) l) d i (omega (arith, first-length)) ∙ get_or-take place l i d q

  -- those behind the place moved up
  without-behind : (i : ℕ) (d : A) → place ≤ i → get_or (without place l) i d ≡ get_or l (suc i) d
  without-behind i d q =
      let k = i - place in
      let e : i ≡ length (take place l) + k = omega (arith, first-length) in
      let m : suc place + k ≡ suc i = omega arith in
      ap (λ (j : ℕ). get_or (without place l) j d) e
      ∙ get_or-append-add (take place l) (drop (suc place) l) k d
      ∙ get_or-drop (suc place) l k d
      ∙ ap (λ (j : ℕ). get_or l j d) m

  -- the list is its first members, the one at the place, and those behind it
  pub without-split : (d : A) → l ≡ take place l ++ (get_or l place d ∷ drop (suc place) l)
  without-split d = sym (take-append-drop place l) ∙ ap (λ (r : List A). take place l ++ r) (drop-cons l place d h)

-- ---- the first of a buffer's corners
first-corners : (b : Slices) (n m : ℕ) → m ≤ n → take m (corners_of b n) ≡ corners_of b m
first-corners b n m h =
    let e : n ≡ m + (n - m) = omega arith in
    ap (λ (k : ℕ). take m (corners_of b k)) e
    ∙ ap (take m) (tab-add m (n - m) (corner_at b))
    ∙ take_at (corners_of b m) (tab (n - m) (λ i. corner_at b (m + i))) m (length-tab m (corner_at b))

-- ---- the loop: the first `at` places of b hold the corners that stay, and behind them it is as it was, b₀
abbrev left : Slices → ℕ → ℕ → List Corner
left b₀ n place = without place (corners_of b₀ n)

pub record Moving (b₀ : Slices) (n place at : ℕ) (b : Slices) : Type 0 where
  pub past : place ≤ at
  pub upto : at < n
  pub is : b ≡ front_corners (take at (left b₀ n place)) b₀

module _ (b₀ : Slices) (n place : ℕ) (p : place < n) (h : n ≤ places_of b₀) where
  in_list : place < length (corners_of b₀ n)
  in_list = omega (arith, corners-length b₀ n)

  left-length : suc (length (left b₀ n place)) ≡ n
  left-length = without-length place (corners_of b₀ n) in_list ∙ corners-length b₀ n

  pub moving-none : Moving b₀ n place place b₀
  moving-none = record {
    past = omega arith;
    upto = p;
    is = corners-same b₀ place (omega arith)
        ∙ ap (λ (cs : List Corner). front_corners cs b₀)
        (sym (without-first place (corners_of b₀ n) in_list ∙ first-corners b₀ n place (omega arith)));
  }

  -- the corners of the buffer that is left: those that stay, and behind them the one that is 0
  abbrev freed : List Corner
  freed = left b₀ n place ++ (no_corner ∷ [])

  freed-length : n ≡ length freed
  freed-length = omega (arith, left-length, length-append (left b₀ n place) (no_corner ∷ []))

  freed-corners : corners_of (without_corner place n b₀) n ≡ freed
  unfolding without_corner
  freed-corners = corners-front freed b₀ n freed-length

  pub removed-corners : corners_of (without_corner place n b₀) (n - 1) ≡ left b₀ n place
  removed-corners =
      let last : length (left b₀ n place) ≡ n - 1 = omega (arith, left-length) in
      sym (first-corners (without_corner place n b₀) n (n - 1) (omega arith))
      ∙ ap (take (n - 1)) freed-corners
      ∙ take_at (left b₀ n place) (no_corner ∷ []) (n - 1) last

  -- and place by place
  removed-at : (i : ℕ) → i < n → corner_at (without_corner place n b₀) i ≡ get_or freed i (corner_at b₀ 0)
  removed-at i l =
      sym (corners-at (without_corner place n b₀) n i (corner_at b₀ 0) l)
      ∙ ap (λ (cs : List Corner). get_or cs i (corner_at b₀ 0)) freed-corners

  removed-stays : (i : ℕ) → i < n - 1 → corner_at (without_corner place n b₀) i ≡ get_or (left b₀ n place) i (corner_at b₀ 0)
  removed-stays i l =
      removed-at i (omega arith) ∙ get_or-append (left b₀ n place) (no_corner ∷ []) (corner_at b₀ 0) i (omega (arith, left-length))

  pub removed-before : (i : ℕ) → i < place → corner_at (without_corner place n b₀) i ≡ corner_at b₀ i
  removed-before i q =
      removed-stays i (omega arith)
      ∙ without-before place (corners_of b₀ n) in_list i (corner_at b₀ 0) q
      ∙ corners-at b₀ n i (corner_at b₀ 0) (omega arith)

  pub removed-later : (i : ℕ) → place ≤ i → i + 1 < n → corner_at (without_corner place n b₀) i ≡ corner_at b₀ (i + 1)
  removed-later i q l =
      removed-stays i (omega arith)
      ∙ without-behind place (corners_of b₀ n) in_list i (corner_at b₀ 0) q
      ∙ ap (λ (k : ℕ). get_or (corners_of b₀ n) k (corner_at b₀ 0)) (sym (add-one i))
      ∙ corners-at b₀ n (i + 1) (corner_at b₀ 0) l

  pub removed-last : (i : ℕ) → i + 1 ≡ n → corner_at (without_corner place n b₀) i ≡ no_corner
  removed-last i q =
      let last : i ≡ length (left b₀ n place) = omega (arith, left-length) in
      removed-at i (omega arith)
      ∙ ap (λ (k : ℕ). get_or freed k (corner_at b₀ 0)) last
      ∙ get_or-append_seam (left b₀ n place) no_corner [] (corner_at b₀ 0)

  pub removed-behind : (i : ℕ) → n ≤ i → corner_at (without_corner place n b₀) i ≡ corner_at b₀ i
  unfolding without_corner
  removed-behind i q = corners-behind freed b₀ i (omega (arith, freed-length))

  module _ (at : ℕ) (b : Slices) (m : Moving b₀ n place at b) where
    taken : at ≡ length (take at (left b₀ n place))
    taken = sym (length-take-le at (left b₀ n place) (omega (arith, left-length, m.upto)))

    -- one more behind those that are moved
    put : (c : Corner) (b' : Slices) → b' ≡ with_corner at c b → b' ≡ front_corners (take at (left b₀ n place) ++ (c ∷ [])) b₀
    put c b' e =
        e
        ∙ ap (with_corner at c) m.is
        ∙ corners-next (take at (left b₀ n place)) b₀ at c taken (omega (arith, m.upto))

    -- the next corner is still where it was
    next-corner : at + 1 < n → corner_at b (at + 1) ≡ get_or (left b₀ n place) at (corner_at b₀ 0)
    next-corner l =
        ap (λ (s : Slices). corner_at s (at + 1)) m.is
        ∙ corners-behind (take at (left b₀ n place)) b₀ (at + 1) (omega (arith, taken))
        ∙ sym (corners-at b₀ n (at + 1) (corner_at b₀ 0) l)
        ∙ ap (λ (k : ℕ). get_or (corners_of b₀ n) k (corner_at b₀ 0)) (add-one at)
        ∙ sym (without-behind place (corners_of b₀ n) in_list at (corner_at b₀ 0) m.past)

    pub moving-next : (c : Corner) (b' : Slices) → at < n - 1 → c ≡ corner_at b (at + 1) → b' ≡ with_corner at c b
        → Moving b₀ n place (at + 1) b'
    moving-next c b' l r e = record {
      past = omega (arith, m.past);
      upto = omega arith;
      is = put c b' e
          ∙ ap (λ (k : Corner). front_corners (take at (left b₀ n place) ++ (k ∷ [])) b₀) (r ∙ next-corner (omega arith))
          ∙ ap (λ (cs : List Corner). front_corners cs b₀)
          (sym (take-suc (left b₀ n place) at (corner_at b₀ 0) (omega (arith, left-length))))
          ∙ ap (λ (k : ℕ). front_corners (take k (left b₀ n place)) b₀) (sym (add-one at));
    }

    -- the last place is freed
    pub moving-all : (b' : Slices) → n - 1 ≤ at → b' ≡ with_corner (n - 1) no_corner b → b' ≡ without_corner place n b₀
    unfolding without_corner
    moving-all b' l e =
        let last : n - 1 ≡ at = omega (arith, m.upto) in
        put no_corner b' (e ∙ ap (λ (k : ℕ). with_corner k no_corner b) last)
        ∙ ap (λ (cs : List Corner). front_corners (cs ++ (no_corner ∷ [])) b₀) (take_all at (left b₀ n place) (omega (arith, left-length)))
