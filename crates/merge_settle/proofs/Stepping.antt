-- Merging, in place and apart, one corner after the other and one part of the list after the other. Assumes nothing.
use Prim.Native.Nat.{ℕ, ◌+◌, ◌-◌, ◌<◌, ◌≤◌}
use native.Mathlib.Numerals.{add-one}
use native.Mathlib.Omega.{arith}
use mathlib.Core.Path.{◌≡◌, refl, sym, ap, ◌∙◌, subst}
use mathlib.Core.Logic.{inl, inr, ⊎_elim}
use mathlib.Core.Bool.{Bool}
use mathlib.Core.List.{List, [], ◌∷◌}
use lib.ListN.{length, drop, drop_of_length-le}
use lib.Seq.{drop-cons, drop_at}
use Rattle.lists.specs.Tab.{tab}
use Rattle.lists.proofs.Tab.{length-tab, tab-ext, tab-add}
use Rattle.std.specs.Prelude.{Option, None, Some}
use Rattle.corner_list.specs.declared.Corner.{Corner}
use Rattle.corner_list.specs.declared.buffer.CornerView.{CornerView}
use Rattle.corner_list.specs.CornerList.{Slices, places_of, corner_at, corners_of, front_corners}
use Rattle.corner_list.proofs.Corners.{corners-length, corners-at, corners-front, corners-same, corners-again, corners-behind, front-xs}
use Rattle.corner_list.proofs.Corners.{front-ys, front-strengths, front-neighbours, same-places}
use Rattle.merge_settle.specs.declared.settling.Step.{Step}
use Rattle.merge_settle.specs.Settle.{settle, merged, given, Left}
use Rattle.merge_settle.specs.Internal.{Settled, step, start, IsStep, unsettled, LeavesSame, StepAfter, StopAfter}
use Rattle.merge_settle.proofs.Settle.{settle-longer, settle-one}

-- ---- a corner of the list, where that is
pub given-by : (list : Option CornerView) (v b : Slices) (at : ℕ) (c : Corner) → v ≡ b → c ≡ corner_at (given list v) at
    → c ≡ corner_at (given list b) at
given-by list v b at c e is = rw e at is

-- ---- the corners of the list that are not settled
module _ (n : ℕ) where
  -- one by one
  by-places : (b : Slices) (i : ℕ) → i ≤ n → unsettled b n i ≡ tab (n - i) (λ m. corner_at b (i + m))
  by-places b i h =
      let all : n ≡ i + (n - i) = omega arith in
      ap (λ (m : ℕ). unsettled b m i) all ∙ ap (drop i) (tab-add i (n - i) (corner_at b))
      ∙ drop_at (corners_of b i) _ i (length-tab i (corner_at b))

  -- they are as they were where others took at most the first i places
  unsettled-same : (b : Slices) (l : List Corner) (i : ℕ) → i ≤ n → length l ≤ i → unsettled (front_corners l b) n i ≡ unsettled b n i
  unsettled-same b l i h g =
      by-places (front_corners l b) i h ∙ tab-ext (n - i) _ _ (λ m _. corners-behind l b (i + m) (omega arith)) ∙ sym (by-places b i h)

  -- the first of them
  unsettled-first : (b : Slices) (i : ℕ) → i < n → unsettled b n i ≡ corner_at b i ∷ unsettled b n (i + 1)
  unsettled-first b i h =
      rw (add-one, drop-cons (corners_of b n) i (corner_at b i) (omega (arith, corners-length b n)), corners-at b n i (corner_at b i) h)

  -- and the others, once it is settled: those of a list in a buffer of its own stand as they did, and those of one that is merged in place
  -- too
  unsettled-next : (list : Option CornerView) (b b' : Slices) (l : List Corner) (i : ℕ) (c : Corner) → b' ≡ front_corners l b
      → length l ≤ i + 1 → i < n
      → c ≡ corner_at (given list b) i → unsettled (given list b) n i ≡ c ∷ unsettled (given list b') n (i + 1)
  unsettled-next list b b' l i c put short h is =
      unsettled-first (given list b) i h ∙ ap (λ (o : Corner). o ∷ unsettled (given list b) n (i + 1)) (sym is)
      ∙ ap (λ (r : List Corner). c ∷ r) (sym (same list))
    where
      same : (from : Option CornerView) → unsettled (given from b') n (i + 1) ≡ unsettled (given from b) n (i + 1)
      same (Some own) = refl
      same None = ap (λ (d : Slices). unsettled d n (i + 1)) put ∙ unsettled-same b l (i + 1) (omega arith) short

module _ (j : Corner → Corner → Bool) where
  -- ---- one thing after another, and a corner settled
  leaves-same-then : (b : Slices) (k : ℕ) (r : List Corner) (b₁ : Slices) (k₁ : ℕ) (r₁ : List Corner) (b₂ : Slices) (k₂ : ℕ)
      (r₂ : List Corner)
      → LeavesSame j b k r b₁ k₁ r₁ → LeavesSame j b₁ k₁ r₁ b₂ k₂ r₂ → LeavesSame j b k r b₂ k₂ r₂
  leaves-same-then b k r b₁ k₁ r₁ b₂ k₂ r₂ p q = record {
    more = omega (arith, p.more, q.more);
    leaves = q.leaves ∙ p.leaves;
    buffer =
        q.buffer ∙ ap (front_corners (corners_of b₂ k₂)) p.buffer
        ∙ corners-again (corners_of b₁ k₁) b (corners_of b₂ k₂) (omega (arith, corners-length b₁ k₁, corners-length b₂ k₂, q.more));
  }

  module _ (b : Slices) (k : ℕ) (c : Corner) (b' : Slices) (k' : ℕ) (s : Settled j k c b k' b') where
    kept_is : corners_of b' k' ≡ settle j (corners_of b k) c
    kept_is = ap (λ (d : Slices). corners_of d k') s.buffer ∙ corners-front (settle j (corners_of b k) c) b k' s.count

    leaves-same-settled : (rest : List Corner) → LeavesSame j b k (c ∷ rest) b' k' rest
    leaves-same-settled rest = record {
      more = omega (arith, s.count, settle-longer j c (corners_of b k), corners-length b k);
      leaves = ap (λ (l : List Corner). merged j l rest) kept_is;
      buffer = s.buffer ∙ ap (λ (l : List Corner). front_corners l b) (sym kept_is);
    }

  -- ---- steps of merging a list of n, which is in a buffer of its own or in the one where the kept corners are
  module _ (list : Option CornerView) (n : ℕ) (b₀ : Slices) (s₀ : Step) where
    pub stepped-none : n ≤ places_of b₀ → IsStep n s₀ → StepAfter j list n b₀ s₀ b₀ s₀
    stepped-none h i = record {
      is_step = i;
      leaves_same = record { more = omega arith; leaves = refl; buffer = corners-same b₀ s₀.kept (omega (arith, i.few, i.upto)) };
    }

    module _ (b : Slices) (s : Step) (at : StepAfter j list n b₀ s₀ b s) where
      abbrev Kept : List Corner
      Kept = corners_of b s.kept

      many : length Kept ≡ s.kept
      many = corners-length b s.kept

      -- the buffer has the places that it had
      module _ (fit : n ≤ places_of b₀) where
        kept-fit : s.kept ≤ places_of b₀
        kept-fit = omega (arith, at.is_step.few, at.is_step.upto)

        pub stepped-xs : length b.xs ≡ length b₀.xs
        stepped-xs = ap (λ (d : Slices). length d.xs) at.leaves_same.buffer ∙ front-xs Kept b₀ s.kept (sym many) kept-fit

        pub stepped-ys : length b.ys ≡ length b₀.ys
        stepped-ys = ap (λ (d : Slices). length d.ys) at.leaves_same.buffer ∙ front-ys Kept b₀ s.kept (sym many) kept-fit

        pub stepped-strengths : length b.strengths ≡ length b₀.strengths
        stepped-strengths =
            ap (λ (d : Slices). length d.strengths) at.leaves_same.buffer ∙ front-strengths Kept b₀ s.kept (sym many) kept-fit

        pub stepped-neighbours : length b.neighbours ≡ length b₀.neighbours
        stepped-neighbours =
            ap (λ (d : Slices). length d.neighbours) at.leaves_same.buffer ∙ front-neighbours Kept b₀ s.kept (sym many) kept-fit

        pub stepped-places : n ≤ places_of b
        stepped-places = omega (arith, same-places b b₀ stepped-xs stepped-ys stepped-strengths stepped-neighbours)

        -- so there is one for the next corner
        pub stepped-fits : s.done < n → s.kept < places_of b
        stepped-fits h = omega (arith, at.is_step.few, stepped-places)

      -- the next corner of the list is settled
      pub stepped-turn : s.done < n → (c : Corner) → c ≡ corner_at (given list b) s.done → (k : ℕ) (b' : Slices)
          → Settled j s.kept c b k b'
          → StepAfter j list n b₀ s₀ b' (step (s.done + 1) k)
      stepped-turn h c is k b' t =
          let i : ℕ = s.done + 1 in
          let few : k ≤ i = omega (arith, at.is_step.few, t.count, settle-one j c Kept, many) in
          let short : length (settle j Kept c) ≤ i = omega (arith, t.count) in
          let rest : List Corner = unsettled (given list b') n i in
          let first : unsettled (given list b) n s.done ≡ c ∷ rest
          = unsettled-next n list b b' (settle j Kept c) s.done c t.buffer short h is in
          record {
            is_step = record { few = few; upto = omega arith };
            leaves_same =
                leaves-same-then _ _ _ b s.kept (unsettled (given list b) n s.done) _ _ _ at.leaves_same
                (subst (λ (r : List Corner). LeavesSame j b s.kept r b' k rest) (sym first)
                (leaves-same-settled b s.kept c b' k t rest));
          }

    -- ---- parts of the list: at its end, for fewer kept corners, and one after another
    pub stops_end : (b : Slices) (i k most : ℕ) → StepAfter j list n b₀ s₀ b (step i k) → n ≤ i
        → StopAfter j list most n b₀ s₀ b (step n k)
    stops_end b i k most at h =
        let end : i ≡ n = omega (arith, at.is_step.upto) in
        record { stepped = subst (λ (m : ℕ). StepAfter j list n b₀ s₀ b (step m k)) end at; far = inl refl }

    module _ (b : Slices) (s : Step) (m : ℕ) (p : StopAfter j list m n b₀ s₀ b s) where
      -- another can follow
      pub stops-ready : n ≤ places_of b₀ → (n ≤ places_of b) × IsStep n s
      stops-ready h = (stepped-places b s p.stepped h, p.stepped.is_step)

      pub stops-done : (most : ℕ) → n ≤ s.done → StopAfter j list most n b₀ s₀ b s
      stops-done most h = record { stepped = p.stepped; far = inl (omega (arith, p.stepped.is_step.upto)) }

      pub stops-less : (most : ℕ) → most ≤ m → StopAfter j list most n b₀ s₀ b s
      stops-less most h = record { stepped = p.stepped; far = ⊎_elim inl (λ f. inr (omega arith)) p.far }

      pub stops-on : (most m' : ℕ) (b' : Slices) (s' : Step) → StopAfter j list m' n b s b' s' → most ≤ m'
          → StopAfter j list most n b₀ s₀ b' s'
      stops-on most m' b' s' q h = record {
        stepped = record {
          is_step = q.stepped.is_step;
          leaves_same = leaves-same-then _ _ _ _ _ _ _ _ _ p.stepped.leaves_same q.stepped.leaves_same;
        };
        far = ⊎_elim inl (λ f. inr (omega arith)) q.far;
      }

  -- the whole list
  pub stops-all : (list : Option CornerView) (n : ℕ) (b b' : Slices) (s : Step) → StopAfter j list n n b start b' s
      → Left (merged j [] (corners_of (given list b) n)) b s.kept b'
  unfolding tab
  stops-all list n b b' s p =
      let done : n ≤ s.done = ⊎_elim (λ (e : s.done ≡ n). omega arith) (λ f. omega (arith, p.stepped.is_step.few)) p.far in
      let last : Slices = given list b' in
      let none : unsettled last n s.done ≡ [] = drop_of_length-le (corners_of last n) {i = s.done}
      (omega (arith, corners-length last n)) in
      let all : corners_of b' s.kept ≡ merged j [] (corners_of (given list b) n)
      = ap (merged j (corners_of b' s.kept)) (sym none) ∙ p.stepped.leaves_same.leaves in
      record {
        count = sym (corners-length b' s.kept) ∙ ap length all;
        buffer = p.stepped.leaves_same.buffer ∙ ap (λ (l : List Corner). front_corners l b) all;
      }

  -- as many as there are places for, by another name
  pub stops-held : (list : Option CornerView) (n m : ℕ) (b b' : Slices) (s : Step) → n ≡ m → StopAfter j list n n b start b' s
      → Left (merged j [] (corners_of (given list b) m)) b s.kept b'
  stops-held list n m b b' s e p =
      subst (λ (i : ℕ). Left (merged j [] (corners_of (given list b) i)) b s.kept b') e (stops-all list n b b' s p)
