-- A row whose edges are 0 and whose middle is filled. Assumes nothing.
use mathlib.Core.Path.{◌≡◌, sym, ap, ◌∙◌, subst}
use mathlib.Core.Bool.{false}
use mathlib.Core.List.{List, [], ◌++◌, append-nil}
use Prim.Native.Nat.{ℕ, ◌+◌, ◌-◌, ◌<◌, ◌≤◌}
use native.Mathlib.Nat.{le_refl, add_assoc, zero-add}
use native.Mathlib.Omega.{arith}
use lib.ListN.{length, take, drop, replicate, length-append, length-drop, drop_of_length-le}
use Rattle.std.proofs.lemmas.List.{get_or-replicate, length-replicate}
use lib.Seq.{ext_get_or, length-take-le, take-append-le, take-take, take_at, drop_at, drop-drop}
use lib.IntN.{ℤ, pos}
use borrow.Rule.Slice.PartMut.{put_mid, post_of, Post-is}
use Rattle.lists.specs.Tab.{tab}
use Rattle.lists.proofs.Tab.{length-tab, get_d-tab, tab-ext, tab-add, part-length-to}
use Rattle.ring.specs.Ring.{Ring}
use Rattle.response.specs.Response.{inside}
use Rattle.response.specs.Internal.{Inner, InnerSpan}
use Rattle.response_limits.specs.Limits.{low_at, high_at}
use Rattle.response_limits.specs.Internal.{EdgesCleared}

abbrev pub zeros : ℕ → List ℤ
zeros n = tab n (λ _. pos 0)

-- std's way to say it
pub zeros-are : (n : ℕ) → replicate n (pos 0) ≡ zeros n
zeros-are n =
    ext_get_or (pos 0) (replicate n (pos 0)) (zeros n) (length-replicate n (pos 0) ∙ sym (length-tab n _))
    (λ i l.
    let k : i < n = omega (arith, length-replicate n (pos 0)) in
    get_or-replicate n i (pos 0) (pos 0) k ∙ sym (get_d-tab n _ i (pos 0) k))

-- the two parts that were cleared, of a list s
module _ (from to : ℕ) (s ys : List ℤ) (l : from ≤ to) (r : to ≤ length s) (a : ys ≡ zeros from) where
  abbrev pub first : List ℤ
  first = ys ++ drop from s

  ys-long : length ys ≡ from
  ys-long = ap length a ∙ length-tab from _

  first-long : length first ≡ length s
  first-long = omega (arith, length-append ys (drop from s), ys-long, length-drop from s)

  pub edges-cleared : (zs : List ℤ) → zs ≡ zeros (length (take (length first - to) (drop to first)))
      → EdgesCleared from to (length s) (put_mid to (length first - to) first zs)
  edges-cleared zs b =
      let behind-long = part-length-to to (length first) first (le_refl _) in
      let rest : drop (length first - to) (drop to first) ≡ [] =
      drop-drop (length first - to) to first
      ∙ drop_of_length-le first (let l : length first ≤ to + (length first - to) = omega arith in l) in
      let front : length (take to first) ≡ to = length-take-le to first (omega (arith, first-long)) in
      record {
        long = rw (
          rest,
          append-nil,
        ) (omega (arith, length-append (take to first) zs, front, first-long, ap length b ∙ length-tab _ _ ∙ behind-long));
        before =
            take-append-le from (take to first) (zs ++ post_of to (length first - to) first) (omega (arith, front))
            ∙ take-take from to first l
            ∙ take_at ys (drop from s) from ys-long
            ∙ a;
        behind =
            drop_at (take to first) (zs ++ post_of to (length first - to) first) to front
            ∙ rw (rest, append-nil) (b ∙ ap zeros (behind-long ∙ ap (λ (n : ℕ). n - to) first-long));
      }

-- the middle of a row of w places, put between edges that are 0 where f is 0 there
module _ (from to w : ℕ) (s : List ℤ) (c : EdgesCleared from to w s) (l : from ≤ to) (r : to ≤ w) (f : ℕ → ℤ)
    (left : (i : ℕ) → i < from → f i ≡ pos 0) (right : (i : ℕ) → to ≤ i → i < w → f i ≡ pos 0) where
  pub middle-put : (ys : List ℤ) (m : ℕ) → ys ≡ tab m (λ i. f (from + i)) → m ≡ to - from → put_mid from (to - from) s ys ≡ tab w f
  middle-put ys m e k =
      let first : take from s ≡ tab from f = c.before ∙ tab-ext from _ f (λ i p. sym (left i p)) in
      let last : post_of from (to - from) s ≡ tab (w - to) (λ i. f (from + ((to - from) + i))) =
      Post-is from to s l ∙ c.behind
      ∙ tab-ext (w - to) _ _ (λ i p. let q : from + ((to - from) + i) ≡ to + i = omega arith in sym
      (rw q (right (to + i) (omega arith) (omega arith)))) in
      let long : from + ((to - from) + (w - to)) ≡ w = omega arith in
      rw (first, last, e, k)
      (ap (λ (t : List ℤ). tab from f ++ t) (sym (tab-add (to - from) (w - to) (λ i. f (from + i))))
      ∙ sym (tab-add from ((to - from) + (w - to)) f)
      ∙ ap (λ (n : ℕ). tab n f) long)

-- ---- the limits of a row
module _ (low high : List ℕ) (w h : ℕ) (t : Ring) (y : ℕ) where
  -- a run of cells from column x + i on is one from place i of those that begin at column x
  module _ (x i m : ℕ) (ys : List ℤ) where
    shifted : (f : ℕ → ℤ) → ys ≡ tab m (λ k. f (x + i + k)) → ys ≡ tab m (λ k. f (x + (i + k)))
    shifted f e = e ∙ tab-ext m _ _ (λ k l. ap f (add_assoc x i k))

    pub lows-shifted : ys ≡ tab m (λ k. low_at low high w h t (x + i + k) y) → ys ≡ tab m (λ k. low_at low high w h t (x + (i + k)) y)
    lows-shifted = shifted (λ k. low_at low high w h t k y)

    pub highs-shifted : ys ≡ tab m (λ k. high_at low high w h t (x + i + k) y) → ys ≡ tab m (λ k. high_at low high w h t (x + (i + k)) y)
    highs-shifted = shifted (λ k. high_at low high w h t k y)

  -- the inner cells between edges that are 0
  module _ (radius from to : ℕ) (b : InnerSpan w h t radius 0 y w from to) (s : List ℤ) (c : EdgesCleared from to w s) (ys : List ℤ) (m : ℕ)
      (k : m ≡ to - from) where
    outside : (i : ℕ) → inside w h t (0 + i) y ≡ false → inside w h t i y ≡ false
    outside i e = ap (λ (x : ℕ). inside w h t x y) (sym (zero-add i)) ∙ e

    row_put : (f : ℕ → ℤ) → ((i : ℕ) → inside w h t i y ≡ false → f i ≡ pos 0) → ys ≡ tab m (λ i. f (from + i))
        → put_mid from (to - from) s ys ≡ tab w f
    row_put f z e =
        middle-put from to w s c b.ordered b.ends f
        (λ i l. z i (outside i (b.outer_left i l)))
        (λ i l r. z i (outside i (b.outer_right i l r)))
        ys m e k

    pub lows-put : ys ≡ tab m (λ i. low_at low high w h t (from + i) y)
        → put_mid from (to - from) s ys ≡ tab w (λ i. low_at low high w h t i y)
    lows-put = row_put (λ i. low_at low high w h t i y) (λ i e. unfold low_at in (rw e))

    pub highs-put : ys ≡ tab m (λ i. high_at low high w h t (from + i) y)
        → put_mid from (to - from) s ys ≡ tab w (λ i. high_at low high w h t i y)
    highs-put = row_put (λ i. high_at low high w h t i y) (λ i e. unfold high_at in (rw e))

-- a cell between the edges
pub span-inner : (w h : ℕ) (t : Ring) (radius y from to : ℕ) → InnerSpan w h t radius 0 y w from to → (i : ℕ) → i < to - from
    → Inner w h radius (from + i) y
span-inner w h t radius y from to b i l =
    subst (λ (x : ℕ). Inner w h radius x y) (zero-add (from + i)) (b.inner (from + i) (omega arith) (omega arith))
