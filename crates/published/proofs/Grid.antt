-- The lists of a grid: each kept corner's index at the number of its cell and nowhere else, while corners are kept and replaced. Assumes
-- nothing.
use mathlib.Core.Path.{◌≡◌, refl, sym, ap, ◌∙◌}
use mathlib.Core.Logic.{◌⊎◌, inl, inr, ⊎_elim}
use mathlib.Core.Bool.{true, not}
use mathlib.Core.List.{List, [], ◌∷◌, ◌++◌}
use Prim.Native.Nat.{ℕ, ◌+◌, ◌<◌}
use native.Mathlib.Nat.{add-zero}
use native.Mathlib.Decide.{dec_lt, ℕ_discrete}
use native.Mathlib.Omega.{arith}
use lib.Dec.{eqb}
use lib.ListN.{length, set, length-append, length-set, get_or-append}
use lib.Seq.{get_or-append-add, get_or-set_same, get_or-set_other}
use borrow.Author.Tests.{eq-eqb, ne_eqb, eqb-false, not-true}
use Rattle.lists.specs.Places.{keep}
use Rattle.corner_list.specs.declared.Corner.{Corner}
use Rattle.published.specs.MergeRs.{out_at, put, moved_rs}
use Rattle.published.proofs.Indices.{In, in_left, in_right, in_either, in_kept, kept_in}

in_one : (i a : ℕ) → In i (a ∷ []) → i ≡ a
in_one i a (inl e) = e
in_one i a (inr x') = elim x' [ ]

-- ---- one list replaced
put-here : (j : ℕ) (l : List ℕ) (grid : ℕ → List ℕ) → put j l grid j ≡ l
put-here j l grid = rw (eq-eqb j j refl)

put-there : (j : ℕ) (l : List ℕ) (grid : ℕ → List ℕ) (k : ℕ) → (k ≡ j → ⊥) → put j l grid k ≡ grid k
put-there j l grid k n = rw (ne_eqb k j n)

module _ (ix : Corner → ℕ) (P : Corner → Type 0) where
  pub record Holds (out : List Corner) (grid : ℕ → List ℕ) : Type 0 where
    pub good : (i : ℕ) → i < length out → P (out_at out i)
    pub listed : (i : ℕ) → i < length out → In i (grid (ix (out_at out i)))
    pub only : (i j : ℕ) → In i (grid j) → (i < length out) × (ix (out_at out i) ≡ j)

  module _ (out : List Corner) (grid : ℕ → List ℕ) (h : Holds out grid) (c : Corner) (p : P c) where
    -- ---- one corner more
    abbrev longer : List Corner
    longer = out ++ (c ∷ [])

    abbrev pushed : ℕ → List ℕ
    pushed = put (ix c) (grid (ix c) ++ (length out ∷ [])) grid

    early : (i : ℕ) → i < length out → out_at longer i ≡ out_at out i
    early i l = get_or-append out (c ∷ []) _ i l

    last : out_at longer (length out) ≡ c
    last = ap (out_at longer) (sym (add-zero (length out))) ∙ get_or-append-add out (c ∷ []) 0 _

    one_more : length longer ≡ length out + 1
    one_more = length-append out (c ∷ [])

    -- an index is one of those before, or the new one
    at_last : (i : ℕ) → i < length longer → (i < length out) ⊎ (i ≡ length out)
    at_last i l = elim (dec_lt i (length out)) [ yes m ↦ inl m | no g ↦ inr (omega (arith, one_more)) ]

    still : (i j : ℕ) → In i (grid j) → In i (pushed j)
    still i j k = elim (ℕ_discrete j (ix c)) [
      | yes e ↦ rw (e, put-here (ix c) (grid (ix c) ++ (length out ∷ [])) grid) (in_left i (grid (ix c)) (length out ∷ []) (rw e at k))
      | no n ↦ rw (put-there (ix c) (grid (ix c) ++ (length out ∷ [])) grid j n) k
    ]

    old : (i j : ℕ) → In i (grid j) → (i < length longer) × (ix (out_at longer i) ≡ j)
    old i j k = let o = h.only i j k in (omega (arith, o.0, one_more), rw (early i o.0) o.1)

    only-pushed : (i j : ℕ) → In i (pushed j) → (i < length longer) × (ix (out_at longer i) ≡ j)
    only-pushed i j k = elim (ℕ_discrete j (ix c)) [
      | yes e ↦ ⊎_elim (old i j) (λ q. new (in_one i (length out) q) e)
          (in_either i (grid j) (length out ∷ []) (rw (e, put-here (ix c) (grid (ix c) ++ (length out ∷ [])) grid, ← e) at k))
      | no n ↦ old i j (rw (put-there (ix c) (grid (ix c) ++ (length out ∷ [])) grid j n) at k)
    ]
      where
        new : i ≡ length out → j ≡ ix c → (i < length longer) × (ix (out_at longer i) ≡ j)
        new q e = (omega (arith, one_more), rw (q, last) (sym e))

    pub push-holds : Holds longer pushed
    push-holds = record {
      good = λ i l. ⊎_elim (λ m. rw (early i m) (h.good i m)) (λ (e : i ≡ length out). rw (e, last) p) (at_last i l);
      listed = λ i l. ⊎_elim (λ m. rw (early i m) (still i (ix (out_at out i)) (h.listed i m)))
          (λ (e : i ≡ length out). rw (e, last) new) (at_last i l);
      only = only-pushed;
    }
      where
        new : In (length out) (pushed (ix c))
        new =
            rw (put-here (ix c) (grid (ix c) ++ (length out ∷ [])) grid) (in_right (length out) (grid (ix c)) (length out ∷ []) (inl refl))

    -- ---- the corner at place r replaced
    module _ (r : ℕ) (l : r < length out) where
      abbrev changed : List Corner
      changed = set out r c

      as_long : length changed ≡ length out
      as_long = length-set out r c

      here : out_at changed r ≡ c
      here = get_or-set_same out r c _ l

      there : (i : ℕ) → (i ≡ r → ⊥) → out_at changed i ≡ out_at out i
      there i n = get_or-set_other out r i c _ n

      all-good : (i : ℕ) → i < length changed → P (out_at changed i)
      all-good i m = elim (ℕ_discrete i r) [ yes e ↦ rw (e, here) p | no n ↦ rw (there i n) (h.good i (omega (arith, as_long))) ]

      -- in the same cell
      pub same-holds : ix (out_at out r) ≡ ix c → Holds changed grid
      same-holds e = record {
        good = all-good;
        listed = λ i m. elim (ℕ_discrete i r) [
          | yes q ↦ rw (q, here, ← e) (h.listed r l)
          | no n ↦ rw (there i n) (h.listed i (omega (arith, as_long)))
        ];
        only = λ i j k. let o = h.only i j k in (
          omega (arith, o.0, as_long),
          elim (ℕ_discrete i r) [
            | yes q ↦ rw (q, here, ← e) (sym (ap (λ (n : ℕ). ix (out_at out n)) q) ∙ o.1)
            | no n ↦ rw (there i n) o.1
          ],
        );
      }

      -- in another
      abbrev was : ℕ
      was = ix (out_at out r)

      abbrev others : List ℕ
      others = keep (λ j. not (eqb j r)) (grid was)

      abbrev without : ℕ → List ℕ
      without = put was others grid

      in_without : (i j : ℕ) → (i ≡ r → ⊥) → In i (grid j) → In i (without j)
      in_without i j n k = elim (ℕ_discrete j was) [
        | yes e ↦ rw (e, put-here was others grid) (in_kept i (λ j. not (eqb j r)) (grid was) (rw (ne_eqb i r n)) (rw e at k))
        | no m ↦ rw (put-there was others grid j m) k
      ]

      without_in : (i j : ℕ) → In i (without j) → In i (grid j) × (i ≡ r → ⊥)
      without_in i j k = elim (ℕ_discrete j was) [
        | yes e ↦ first e (kept_in i (λ j. not (eqb j r)) (grid was) (rw (e, put-here was others grid) at k))
        | no m ↦
            let l : In i (grid j) = rw (put-there was others grid j m) at k in
            (l, λ q. m (sym (h.only i j l).1 ∙ ap (λ (n : ℕ). ix (out_at out n)) q))
      ]
        where
          first : j ≡ was → In i (grid was) × (not (eqb i r) ≡ true) → In i (grid j) × (i ≡ r → ⊥)
          first e q = (rw e q.0, eqb-false i r (not-true (eqb i r) q.1))

      abbrev moved : ℕ → List ℕ
      moved = moved_rs r was (ix c) grid

      in_moved : (i j : ℕ) → In i (without j) → In i (moved j)
      in_moved i j k = elim (ℕ_discrete j (ix c)) [
        | yes e ↦ rw (e, put-here (ix c) (without (ix c) ++ (r ∷ [])) without) (in_left i (without (ix c)) (r ∷ []) (rw e at k))
        | no n ↦ rw (put-there (ix c) (without (ix c) ++ (r ∷ [])) without j n) k
      ]

      pub moved_holds : Holds changed moved
      moved_holds = record {
        good = all-good;
        listed = λ i m. elim (ℕ_discrete i r) [
          | yes q ↦ rw (
            q,
            here,
          ) (rw (put-here (ix c) (without (ix c) ++ (r ∷ [])) without) (in_right r (without (ix c)) (r ∷ []) (inl refl)))
          | no n ↦ rw (there i n) (in_moved i (ix (out_at out i))
              (in_without i (ix (out_at out i)) n (h.listed i (omega (arith, as_long)))))
        ];
        only = only-moved;
      }
        where
          before : (i j : ℕ) → In i (without j) → (i < length changed) × (ix (out_at changed i) ≡ j)
          before i j k = let w = without_in i j k in
              let o = h.only i j w.0 in
              (omega (arith, o.0, as_long), rw (there i w.1) o.1)

          only-moved : (i j : ℕ) → In i (moved j) → (i < length changed) × (ix (out_at changed i) ≡ j)
          only-moved i j k = elim (ℕ_discrete j (ix c)) [
            | yes e ↦ ⊎_elim (before i j) (λ q. new (in_one i r q) e)
                (in_either i (without j) (r ∷ []) (rw (e, put-here (ix c) (without (ix c) ++ (r ∷ [])) without, ← e) at k))
            | no n ↦ before i j (rw (put-there (ix c) (without (ix c) ++ (r ∷ [])) without j n) at k)
          ]
            where
              new : i ≡ r → j ≡ ix c → (i < length changed) × (ix (out_at changed i) ≡ j)
              new q e = (omega (arith, as_long), rw (q, here) (sym e))
