-- A corner settled among the kept ones: as a list by the first that it joins, its length, and in the buffer. Assumes nothing.
use Prim.Native.Nat.{ℕ, zero, suc, ◌+◌, ◌-◌, ◌^◌, ◌<◌, ◌≤◌}
use native.Mathlib.Nat.{not-suc-le-zero}
use native.Mathlib.Omega.{arith}
use mathlib.Core.Path.{◌≡◌, refl, sym, ap, ◌∙◌}
use mathlib.Core.Bool.{Bool, true, false, cond}
use mathlib.Core.List.{List, [], ◌∷◌, ◌++◌}
use lib.ListN.{length, get_or, set, length-set, length-append}
use lib.Seq.{set-get_or}
use borrow.Author.Tests.{eq-eqb, ne_eqb}
use lib.Ieee.{lt}
use Rattle.std.specs.Prelude.{Option, None, Some, IfSome, min, eqb}
use Rattle.std.proofs.Math.Nat.{min-eq_left}
use Rattle.lists.proofs.Tests.{is_false}
use Rattle.corner_list.specs.declared.Corner.{Corner}
use Rattle.corner_list.specs.CornerList.{Slices, places_of, corner_at, corners_of, with_corner, front_corners}
use Rattle.corner_list.proofs.Corners.{corners-length, corners-at, corners-same, corners-set, corners-next}
use Rattle.merge_settle.specs.Settle.{stronger, settle, place_of, count_with, put_at}
use Rattle.merge_settle.specs.Internal.{FirstAt, FirstPasses, Settled}

-- ---- lists

module _ (j : Corner → Corner → Bool) (c d : Corner) where
  by-test : (o : Corner) (kept : List Corner) (t : Bool) → j c o ≡ t
      → settle j (o ∷ kept) c ≡ cond t (stronger c o ∷ kept) (o ∷ settle j kept c)
  by-test o kept t e = ap (λ (b : Bool). cond b (stronger c o ∷ kept) (o ∷ settle j kept c)) e

  -- a corner that joins none comes last
  pub settle-none : (kept : List Corner) → ((i : ℕ) → i < length kept → j c (get_or kept i d) ≡ true → ⊥)
      → settle j kept c ≡ kept ++ (c ∷ [])
  settle-none [] h = refl
  settle-none (o ∷ kept) h =
      by-test o kept false (is_false (j c o) (h 0 (omega arith)))
      ∙ ap (λ (l : List Corner). o ∷ l) (settle-none kept (λ i l. h (suc i) (omega arith)))

  -- one that joins takes the place of the first that it joins, if it is stronger
  pub settle-some : (kept : List Corner) (i : ℕ) → i < length kept → ((m : ℕ) → m < i → j c (get_or kept m d) ≡ true → ⊥)
      → j c (get_or kept i d) ≡ true
      → settle j kept c ≡ set kept i (stronger c (get_or kept i d))
  settle-some [] i l h t = absurd (not-suc-le-zero l)
  settle-some (o ∷ kept) zero l h t = by-test o kept true t
  settle-some (o ∷ kept) (suc i) l h t =
      by-test o kept false (is_false (j c o) (h 0 (omega arith)))
      ∙ ap (λ (l : List Corner). o ∷ l) (settle-some kept i (omega arith) (λ m n. h (suc m) (omega arith)) t)

module _ (j : Corner → Corner → Bool) (c : Corner) where
  -- settling keeps the count or adds one
  pub settle-longer : (kept : List Corner) → length kept ≤ length (settle j kept c)
  settle-longer [] = omega arith
  settle-longer (o ∷ kept) = pick (j c o) (settle-longer kept)
    where
      pick : (b : Bool) → length kept ≤ length (settle j kept c)
          → suc (length kept) ≤ length (cond b (stronger c o ∷ kept) (o ∷ settle j kept c))
      pick true h = omega arith
      pick false h = omega arith

  pub settle-one : (kept : List Corner) → length (settle j kept c) ≤ suc (length kept)
  settle-one [] = omega arith
  settle-one (o ∷ kept) = pick (j c o) (settle-one kept)
    where
      pick : (b : Bool) → length (settle j kept c) ≤ suc (length kept)
          → length (cond b (stronger c o ∷ kept) (o ∷ settle j kept c)) ≤ suc (suc (length kept))
      pick true h = omega arith
      pick false h = omega arith

-- ---- the buffer b, whose first k corners are the kept ones

module _ (j : Corner → Corner → Bool) (k : ℕ) (c : Corner) (b : Slices) (fit : k < places_of b) where
  abbrev Kept : List Corner
  Kept = corners_of b k

  abbrev joins_at : ℕ → Bool
  joins_at m = j c (corner_at b m)

  many : length Kept ≡ k
  many = corners-length b k

  starts : b ≡ front_corners Kept b
  starts = corners-same b k (omega arith)

  -- c joins none of those before i
  none : (i : ℕ) → i ≤ k → ((m : ℕ) → m < i → joins_at m ≡ true → ⊥) → (m : ℕ) → m < i → j c (get_or Kept m c) ≡ true → ⊥
  none i h before m l t = before m l (ap (j c) (sym (corners-at b k m c (omega arith))) ∙ t)

  settles-new : FirstPasses joins_at k None → Settled j k c b (count_with k (Some k)) (put_at (Some k) c b)
  settles-new first =
      let e : settle j Kept c ≡ Kept ++ (c ∷ []) = settle-none j c c Kept (λ m l. none k (omega arith) first m (omega (arith, many))) in
      record {
        count = ap (λ (t : Bool). cond t (k + 1) k) (eq-eqb k k refl)
            ∙ sym (ap length e ∙ length-append Kept (c ∷ []) ∙ ap (λ (n : ℕ). n + 1) many);
        buffer = ap (with_corner k c) starts ∙ corners-next Kept b k c (sym many) fit
            ∙ ap (λ (l : List Corner). front_corners l b) (sym e);
      }

  -- i is the first place that c joins
  module _ (i : ℕ) (first : FirstAt joins_at k i) where
    here : get_or Kept i c ≡ corner_at b i
    here = corners-at b k i c first.below

    there : (t : Bool) → lt (corner_at b i).strength c.strength ≡ t → settle j Kept c ≡ set Kept i (cond t c (corner_at b i))
    there t e =
        settle-some j c c Kept i (omega (arith, many, first.below)) (none i (omega (arith, first.below)) first.before)
        (ap (j c) here ∙ first.passes)
        ∙ ap (λ (p : Corner). set Kept i (stronger c p)) here
        ∙ ap (λ (u : Bool). set Kept i (cond u c (corner_at b i))) e

    settles-first : (t : Bool) → lt (corner_at b i).strength c.strength ≡ t
        → Settled j k c b (count_with k (cond t (Some i) None)) (put_at (cond t (Some i) None) c b)
    settles-first true t =
        let e : settle j Kept c ≡ set Kept i c = there true t in
        record {
          count = ap (λ (u : Bool). cond u (k + 1) k) (ne_eqb i k (λ (q : i ≡ k). let no : ⊥ = omega (arith, first.below) in no))
              ∙ sym (ap length e ∙ length-set Kept i c ∙ many);
          buffer = ap (with_corner i c) starts ∙ corners-set Kept b i c (omega (arith, many, first.below))
              ∙ ap (λ (l : List Corner). front_corners l b) (sym e);
        }
    settles-first false t =
        let e : settle j Kept c ≡ Kept = there false t ∙ ap (set Kept i) (sym here) ∙ set-get_or Kept i c in
        record { count = sym (ap length e ∙ many); buffer = starts ∙ ap (λ (l : List Corner). front_corners l b) (sym e) }

  -- c in the place that it takes is settled, and that place is one of the buffer
  settles : (joined : Option ℕ) → FirstPasses joins_at k joined
      → Settled j k c b (count_with k (place_of b k c joined)) (put_at (place_of b k c joined) c b)
  settles None first = settles-new first
  settles (Some i) first = settles-first i first (lt (corner_at b i).strength c.strength) refl

  place-in : (joined : Option ℕ) → FirstPasses joins_at k joined → IfSome (place_of b k c joined) (λ r. r < places_of b)
  place-in None first = fit
  place-in (Some i) first = pick (lt (corner_at b i).strength c.strength)
    where
      pick : (t : Bool) → IfSome (cond t (Some i) None) (λ r. r < places_of b)
      pick true = omega (arith, first.below)
      pick false = tt

  -- by the answers of the code
  pub place-by : (joined : Option ℕ) → FirstPasses joins_at k joined → (place : Option ℕ) → place ≡ place_of b k c joined
      → IfSome place (λ r. r < places_of b)
  place-by joined first place is = rw is (place-in joined first)

  pub settles-by : (joined : Option ℕ) → FirstPasses joins_at k joined → (place : Option ℕ) → place ≡ place_of b k c joined
      → (n : ℕ) → n ≡ count_with k place → (b' : Slices) → b' ≡ put_at place c b → Settled j k c b n b'
  settles-by joined first place is n e b' put = rw (e, put, is) (settles joined first)

-- ---- how many are then kept, if a usize holds one more
pub counted-all : (k : ℕ) (at : Option ℕ) (n : ℕ) → n ≡ min (count_with k at) (2 ^ 64 - 1) → k + 1 < 2 ^ 64
    → n ≡ count_with k at
counted-all k at n e h = e ∙ min-eq_left (at-most at)
  where
    pick : (b : Bool) → cond b (k + 1) k ≤ 2 ^ 64 - 1
    pick true = omega arith
    pick false = omega arith

    at-most : (at : Option ℕ) → count_with k at ≤ 2 ^ 64 - 1
    at-most None = omega arith
    at-most (Some r) = pick (eqb r k)
