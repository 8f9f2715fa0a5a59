-- Searches of the kept corners: the first number that passes a test, and the lowest of those looked at, one slot or one search after
-- another. Assumes nothing.
use Prim.Native.Nat.{ℕ, ◌+◌, ◌<◌, ◌≤◌}
use native.Mathlib.Nat.{eq-or-lt_of_le}
use native.Mathlib.Decide.{dec_lt}
use native.Mathlib.Omega.{arith}
use mathlib.Core.Path.{◌≡◌, refl, sym, ap, ◌∙◌, subst}
use mathlib.Core.Logic.{◌⊎◌, inl, inr, ⊎_elim}
use mathlib.Core.Bool.{Bool, true, false, cond, ◌&&◌, false≢true}
use mathlib.Core.List.{List}
use lib.ListN.{length, get_or}
use lib.Dec.{ltb}
use borrow.Author.Count.{below_more}
use borrow.Author.Tests.{ltb-true, ltb-false}
use Rattle.std.specs.Prelude.{Option, None, Some, MatchOption, unwrap_or}
use Rattle.merge_settle.specs.Internal.{FirstPasses, IsFirstAmong, empty, PlaceListed}

module _ (f : ℕ → Bool) where
  -- ---- what a search of the numbers below n finds
  pub first-found : (n : ℕ) (r : Option ℕ)
      → MatchOption r ((i : ℕ) → 0 ≤ i → i < n → f i ≡ true → ⊥)
      (λ i. (0 ≤ i) × (i < n) × (f i ≡ true) × ((m : ℕ) → 0 ≤ m → m < i → f m ≡ true → ⊥))
      → FirstPasses f n r
  first-found n None none = λ i. none i (omega arith)
  first-found n (Some i) found = record { below = found.1; passes = found.2; before = λ m. found.3 m (omega arith) }

  -- ---- one search after another
  pub among_then : (L M : ℕ → Type 0) (n r s : ℕ) → IsFirstAmong f L n r → IsFirstAmong f M r s → IsFirstAmong f (λ i. L i ⊎ M i) n s
  among_then L M n r s p q = record {
    at_most = omega (arith, p.at_most, q.at_most);
    passes = ⊎_elim (λ (e : s ≡ r). ⊎_elim (λ (d : r ≡ n). inl (e ∙ d)) (λ t. inr (ap f e ∙ t)) p.passes) (λ t. inr t) q.passes;
    before = λ i l w. ⊎_elim (λ a. p.before i (omega (arith, q.at_most)) a) (λ b. q.before i l b) w;
  }

  -- two homes, by other names
  pub among_two : (table : List ℕ) (g h g' h' n r s : ℕ) → g ≡ g' → h ≡ h' → IsFirstAmong f (PlaceListed table g) n r
      → IsFirstAmong f (PlaceListed table h) r s
      → IsFirstAmong f (λ i. PlaceListed table g' i ⊎ PlaceListed table h' i) n s
  among_two table g h g' h' n r s d e p q =
      among_then (PlaceListed table g') (PlaceListed table h') n r s (subst (λ (m : ℕ). IsFirstAmong f (PlaceListed table m) n r) d p)
      (subst (λ (m : ℕ). IsFirstAmong f (PlaceListed table m) r s) e q)

  -- all that pass are looked at
  module _ (L : ℕ → Type 0) (n r : ℕ) (p : IsFirstAmong f L n r) (all : (i : ℕ) → i < n → f i ≡ true → L i) where
    pub among_some : r < n → FirstPasses f n (Some r)
    among_some h = record {
      below = h;
      passes = ⊎_elim (λ (e : r ≡ n). absurd (let no : ⊥ = omega arith in no)) (λ t. t) p.passes;
      before = λ i l t. p.before i l (all i (omega (arith, p.at_most)) t) t;
    }

    pub among_none : n ≤ r → FirstPasses f n None
    among_none h i l t = p.before i (omega arith) (all i l t) t

  -- ---- the slots from `home` on: `low` is the lowest of those before slot p
  module _ (table : List ℕ) (home most : ℕ) where
    pub record Looking (low p : ℕ) : Type 0 where
      pub from : home ≤ p
      pub at_most : low ≤ most
      pub passes : (low ≡ most) ⊎ (f low ≡ true)
      pub before : (q : ℕ) → q < p → home ≤ q → get_or table q 0 < low → f (get_or table q 0) ≡ true → ⊥

    pub looking-none : Looking most home
    looking-none =
        record { from = omega arith; at_most = omega arith; passes = inl refl; before = λ q l h. absurd (let no : ⊥ = omega arith in no) }

    module _ (low p : ℕ) (at : Looking low p) where
      looking-turn : (low' : ℕ) → low' ≡ cond (ltb (get_or table p 0) low && f (get_or table p 0)) (get_or table p 0) low
          → Looking low' (p + 1)
      looking-turn low' e = go (ltb (get_or table p 0) low) (f (get_or table p 0)) refl refl e
        where
          i : ℕ
          i = get_or table p 0

          kept : (i < low → f i ≡ true → ⊥) → low' ≡ low → Looking low' (p + 1)
          kept h e = record {
            from = omega (arith, at.from);
            at_most = omega (arith, at.at_most);
            passes = subst (λ (m : ℕ). (m ≡ most) ⊎ (f m ≡ true)) (sym e) at.passes;
            before = below_more _ p (λ q l m n. at.before q l m (omega arith)) (λ m n. h (omega arith));
          }

          go : (a b : Bool) → ltb i low ≡ a → f i ≡ b → low' ≡ cond (a && b) i low → Looking low' (p + 1)
          go true true x y e = record {
            from = omega (arith, at.from);
            at_most = omega (arith, at.at_most, ltb-true i low x);
            passes = inr (ap f e ∙ y);
            before = below_more _ p (λ q l m n. at.before q l m (omega (arith, ltb-true i low x)))
                (λ m n. absurd (let no : ⊥ = omega arith in no));
          }
          go true false x y e = kept (λ l t. false≢true (sym y ∙ t)) e
          go false b x y e = kept (λ l. absurd (let no : ⊥ = omega (arith, ltb-false i low x) in no)) e

      -- by what was read at slot p
      pub looking-read : (i : ℕ) → get_or table p 0 ≡ i → (low' : ℕ) → low' ≡ cond (ltb i low && f i) i low → Looking low' (p + 1)
      looking-read i is low' e = looking-turn low' (e ∙ ap (λ (n : ℕ). cond (ltb n low && f n) n low) (sym is))

      -- slot p is empty
      pub looking-empty : get_or table p 0 ≡ empty → p < length table → most ≤ empty → IsFirstAmong f (PlaceListed table home) most low
      looking-empty e h small = record { at_most = at.at_most; passes = at.passes; before = none }
        where
          none : (i : ℕ) → i < low → PlaceListed table home i → f i ≡ true → ⊥
          none i l d t =
              elim (dec_lt p d.slot) [
                | yes m ↦ d.full p at.from m e
                | no m ↦
                    ⊎_elim
                    (λ (o : length table ≤ d.slot). let no : ⊥ = omega arith in no)
                    (λ (g : get_or table d.slot 0 ≡ i).
                    ⊎_elim
                    (λ (o : d.slot ≡ p). let z : i ≡ empty = sym g ∙ ap (λ (q : ℕ). get_or table q 0) o ∙ e in
                    let no : ⊥ = omega (arith, at.at_most) in
                    no)
                    (λ (o : d.slot < p). at.before d.slot o d.from (omega arith) (ap f g ∙ t))
                    (eq-or-lt_of_le (omega arith)))
                    d.here
              ]

      -- the table's end: every place is looked at
      pub looking-end : (r : Option ℕ) → FirstPasses f low r → IsFirstAmong f (PlaceListed table home) most (unwrap_or r low)
      looking-end None none = record { at_most = at.at_most; passes = at.passes; before = λ i l d t. none i l t }
      looking-end (Some r) first = record {
        at_most = omega (arith, at.at_most, first.below);
        passes = inr first.passes;
        before = λ i l d t. first.before i l t;
      }
