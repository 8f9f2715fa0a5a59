-- Lists of indices: what stands in them, and the least that passes a test. Assumes nothing.
use mathlib.Core.Path.{◌≡◌, refl, sym, ap, ◌∙◌}
use mathlib.Core.Logic.{◌⊎◌, inl, inr, ⊎_elim}
use mathlib.Core.Bool.{Bool, true, false, cond, true≢false}
use mathlib.Core.List.{List, [], ◌∷◌, ◌++◌}
use Prim.Native.Nat.{ℕ, zero, suc, ◌+◌, ◌-◌, ◌≤◌, ◌<◌}
use native.Mathlib.Nat.{eq-or-lt_of_le}
use native.Mathlib.Omega.{arith}
use lib.Dec.{leb}
use borrow.Author.Tests.{leb-true, leb-false}
use Rattle.lists.specs.Places.{counted, range, keep, flat_map}
use Rattle.published.specs.MergeRs.{best_rs}

-- i stands in a list
abbrev pub In : ℕ → List ℕ → Type 0
In i [] = ⊥
In i (a ∷ l) = (i ≡ a) ⊎ In i l

module _ (i : ℕ) where
  pub in_left : (s t : List ℕ) → In i s → In i (s ++ t)
  in_left [] t x' = elim x' [ ]
  in_left (a ∷ s) t (inl e) = inl e
  in_left (a ∷ s) t (inr h) = inr (in_left s t h)

  pub in_right : (s t : List ℕ) → In i t → In i (s ++ t)
  in_right [] t h = h
  in_right (a ∷ s) t h = inr (in_right s t h)

  pub in_either : (s t : List ℕ) → In i (s ++ t) → In i s ⊎ In i t
  in_either [] t h = inr h
  in_either (a ∷ s) t (inl e) = inl (inl e)
  in_either (a ∷ s) t (inr h) = ⊎_elim (λ k. inl (inr k)) inr (in_either s t h)

  -- of those that pass a test
  pub in_kept : (f : ℕ → Bool) (l : List ℕ) → f i ≡ true → In i l → In i (keep f l)
  in_kept f [] e x' = elim x' [ ]
  in_kept f (a ∷ l) e (inl h) = rw (← h, e) (inl refl)
  in_kept f (a ∷ l) e (inr h) = go (f a) (in_kept f l e h)
    where
      go : (b : Bool) → In i (keep f l) → In i (cond b (a ∷ keep f l) (keep f l))
      go true k = inr k
      go false k = k

  pub kept_in : (f : ℕ → Bool) (l : List ℕ) → In i (keep f l) → In i l × (f i ≡ true)
  kept_in f [] h = elim h [ ]
  kept_in f (a ∷ l) h = go (f a) refl h (kept_in f l)
    where
      go : (b : Bool) → f a ≡ b → In i (cond b (a ∷ keep f l) (keep f l)) → (In i (keep f l) → In i l × (f i ≡ true))
          → In i (a ∷ l) × (f i ≡ true)
      go true e (inl q) r = (inl q, ap f q ∙ e)
      go true e (inr k) r = (inr (r k).0, (r k).1)
      go false e k r = (inr (r k).0, (r k).1)

-- ---- in what a loop gathers

-- it came in turn k
pub record Came (i : ℕ) (f : ℕ → List ℕ) (a b : ℕ) : Type 0 where
  pub k : ℕ
  pub from : a ≤ k
  pub below : k < b
  pub here : In i (f k)

module _ (i : ℕ) (f : ℕ → List ℕ) where
  counted-in : (n a k : ℕ) → a ≤ k → k < a + n → In i (f k) → In i (flat_map f (counted a n))
  unfolding counted
  counted-in zero a k p q h = absurd (let no : ⊥ = omega arith in no)
  counted-in (suc n) a k p q h =
      ⊎_elim (λ e. in_left i (f a) (flat_map f (counted (suc a) n)) (rw e h))
      (λ l. in_right i (f a) (flat_map f (counted (suc a) n)) (counted-in n (suc a) k l (omega arith) h))
      (eq-or-lt_of_le p)

  in-counted : (n a : ℕ) → In i (flat_map f (counted a n)) → Came i f a (a + n)
  unfolding counted
  in-counted zero a h = absurd h
  in-counted (suc n) a h = ⊎_elim here (λ k. later (in-counted n (suc a) k)) (in_either i (f a) (flat_map f (counted (suc a) n)) h)
    where
      here : In i (f a) → Came i f a (a + suc n)
      here k = record { k = a; from = omega arith; below = omega arith; here = k }

      later : Came i f (suc a) (suc a + n) → Came i f a (a + suc n)
      later c = record { k = c.k; from = omega (arith, c.from); below = omega (arith, c.below); here = c.here }

  pub range-in : (a b k : ℕ) → a ≤ k → k < b → In i (f k) → In i (flat_map f (range a b))
  unfolding range
  range-in a b k p q h = counted-in (b - a) a k p (omega arith) h

  pub in-range : (a b : ℕ) → In i (flat_map f (range a b)) → Came i f a b
  unfolding range
  in-range a b h = let c = in-counted (b - a) a h in
      record { k = c.k; from = c.from; below = omega (arith, c.from, c.below); here = c.here }

-- ---- the least that passes a test
pub record Best (close : ℕ → Bool) (best : ℕ) (l : List ℕ) (r : ℕ) : Type 0 where
  pub at_most : r ≤ best
  pub found : (r ≡ best) ⊎ (In r l × (close r ≡ true))
  pub before : (i : ℕ) → In i l → close i ≡ true → r ≤ i

pub best-is : (close : ℕ → Bool) (best : ℕ) (l : List ℕ) → Best close best l (best_rs close best l)
unfolding best_rs
best-is close best [] = record { at_most = omega arith; found = inl refl; before = λ i h e. absurd h }
best-is close best (a ∷ l) = go (leb best a) (close a) refl refl (λ b. best-is close b l)
  where
    go : (p q : Bool) → leb best a ≡ p → close a ≡ q → ((b : ℕ) → Best close b l (best_rs close b l))
        → Best close best (a ∷ l) (best_rs close (cond p best (cond q a best)) l)
    go true q s t next = let r = next best in record {
      at_most = r.at_most;
      found = ⊎_elim inl (λ h. inr (inr h.0, h.1)) r.found;
      before = λ i h e. ⊎_elim (λ (z : i ≡ a). omega (arith, r.at_most, leb-true best a s)) (λ k. r.before i k e) h;
    }
    go false true s t next = let r = next a in record {
      at_most = omega (arith, r.at_most, leb-false best a s);
      found = inr (⊎_elim (λ z. (inl z, ap close z ∙ t)) (λ h. (inr h.0, h.1)) r.found);
      before = λ i h e. ⊎_elim (λ (z : i ≡ a). omega (arith, r.at_most)) (λ k. r.before i k e) h;
    }
    go false false s t next = let r = next best in record {
      at_most = r.at_most;
      found = ⊎_elim inl (λ h. inr (inr h.0, h.1)) r.found;
      before = λ i h e. ⊎_elim (λ (z : i ≡ a). absurd (true≢false (sym e ∙ ap close z ∙ t))) (λ k. r.before i k e) h;
    }
