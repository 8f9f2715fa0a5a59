-- The slots of the index: what a table of floats holds, homes are among the slots, and a place is listed with no other lost. Assumes
-- nothing.
use Prim.Native.Nat.{ℕ, zero, suc, ◌+◌, ◌-◌, ◌*◌, ◌/◌, ◌%◌, ◌<◌, ◌≤◌}
use native.Mathlib.Nat.{mod-lt, le_of_suc-le-suc}
use native.Mathlib.Omega.{arith}
use mathlib.Core.Path.{◌≡◌, refl, sym, ap, ◌∙◌, subst}
use mathlib.Core.Logic.{◌⊎◌, inl, inr, ⊎_elim}
use mathlib.Core.Bool.{Bool, not}
use mathlib.Core.List.{List, [], ◌∷◌}
use lib.Dec.{T}
use lib.ListN.{length, take, drop, get_or, set, length-set, length-map, length-take, length-drop}
use lib.Seq.{get_or-take, get_or-drop, get_or-set_same, get_or-set_other, set-get_or}
use lib.Ieee.{Float, nan, binary32, of_bits, to_bits}
use lib.Ieee.Bits.{nan_bits_is, to_bits-of_bits}
use Rattle.std.specs.Prelude.{Option, None, Some, MatchOption, IfSome, unwrap_or}
use Rattle.float32.proofs.Classes.{no-nan-pattern}
use Rattle.merge_grid.specs.declared.Grid.{Grid}
use Rattle.merge_grid.specs.declared.Position.{Position}
use Rattle.merge_settle.specs.Internal.{slots_of, empty, mix_of, home_of, home_at, PlaceListed, SlotFor, ListsPlace, ListsAt}

-- ---- what a table of floats holds
pub slots-long : (t : List Float) → length (slots_of t) ≡ length t
slots-long t = length-map t (to_bits binary32)

pub some-slots : (t : List Float) → 0 < length t → 0 < length (slots_of t)
some-slots t h = omega (arith, slots-long t)

pub some-floats : (t : List Float) → 0 < length (slots_of t) → 0 < length t
some-floats t h = omega (arith, slots-long t)

pub slot_is : (t : List Float) (p i : ℕ) → p < length t → i ≡ to_bits binary32 (get_or t p nan) → get_or (slots_of t) p 0 ≡ i
slot_is [] p i h e = absurd (let no : ⊥ = omega arith in no)
slot_is (x ∷ t) zero i h e = sym e
slot_is (x ∷ t) (suc p) i h e = slot_is t p i (le_of_suc-le-suc h) e

-- the number that is read at a place from `home` on
pub slot-read : (t : List Float) (home i v : ℕ) → i < length (take (length t - home) (drop home t))
    → v ≡ to_bits binary32 (get_or (take (length t - home) (drop home t)) i nan) → get_or (slots_of t) (home + i) 0 ≡ v
slot-read t home i v h e =
    let l : i < length t - home = omega (arith, length-take (length t - home) (drop home t), length-drop home t) in
    slot_is t (home + i) v (omega arith)
    (e ∙ ap (to_bits binary32) (get_or-take (length t - home) (drop home t) i nan l ∙ get_or-drop home t i nan))

slots_set : (t : List Float) (p : ℕ) (v : Float) → slots_of (set t p v) ≡ set (slots_of t) p (to_bits binary32 v)
slots_set [] p v = refl
slots_set (x ∷ t) zero v = refl
slots_set (x ∷ t) (suc p) v = ap (λ (l : List ℕ). to_bits binary32 x ∷ l) (slots_set t p v)

-- a place is read as it was stored
place-back : (place : ℕ) → place < empty → to_bits binary32 (of_bits binary32 place) ≡ place
place-back place h =
    to_bits-of_bits binary32 place (omega arith)
    (subst (λ (b : Bool). T (not b)) (nan_bits_is binary32 place) (no-nan-pattern place (omega arith)))

-- ---- homes

home_below : (slots x y : ℕ) → 0 < slots → home_of slots x y < slots
unfolding home_of
home_below slots x y h = mod-lt (mix_of x y % 4294967296 * (mix_of x y % 4294967296) / 262144) h

pub home-in : (slots x y home : ℕ) → 0 < slots → home ≡ home_of slots x y → home ≤ slots
home-in slots x y home h e = omega (arith, home_below slots x y h)

-- so many slots as the table has floats
pub home-slots : (t : List Float) (x y home : ℕ) → home ≡ home_of (length t) x y → home ≡ home_of (length (slots_of t)) x y
home-slots t x y home e = e ∙ ap (λ (n : ℕ). home_of n x y) (sym (slots-long t))

-- ---- a place listed

module _ (table : List ℕ) (p place : ℕ) (free : get_or table p 0 ≡ empty) where
  -- an empty slot is no slot that a listed place needs
  still_full : (q : ℕ) → (get_or table q 0 ≡ empty → ⊥) → get_or (set table p place) q 0 ≡ get_or table q 0
  still_full q h = get_or-set_other table p q place 0 (λ e. h (ap (λ (n : ℕ). get_or table n 0) e ∙ free))

  still-listed : (h i : ℕ) → i < empty → PlaceListed table h i → PlaceListed (set table p place) h i
  still-listed h i small d = record {
    slot = d.slot;
    from = d.from;
    full = λ q l m e. d.full q l m (sym (still_full q (d.full q l m)) ∙ e);
    here =
        ⊎_elim
        (λ (o : length table ≤ d.slot). inl (rw length-set o))
        (λ (g : get_or table d.slot 0 ≡ i). inr (still_full d.slot (λ e. let no : ⊥ = omega arith in no) ∙ g))
        d.here;
  }

module _ (table : List ℕ) (home place : ℕ) where
  pub lists-none : empty ≤ place → ListsPlace table home place table
  lists-none h = record { long = refl; listed = λ l. absurd (let no : ⊥ = omega arith in no); still = λ h i l d. d }

  module _ (p : ℕ) (s : SlotFor table home place p) where
    pub lists-end : length table ≤ p → ListsPlace table home place table
    lists-end h = record {
      long = refl;
      listed = λ l. record { slot = p; from = s.from; full = s.full; here = inl h };
      still = λ h i l d. d;
    }

    pub lists_at : p < length table → ListsPlace table home place (set table p place)
    lists_at h = record {
      long = length-set table p place;
      listed = λ l. record {
        slot = p;
        from = s.from;
        full = λ q l m e. s.full q l m (sym (get_or-set_other table p q place 0 (λ (o : q ≡ p). let no : ⊥ = omega arith in no)) ∙ e);
        here = inr (get_or-set_same table p place 0 h);
      };
      still =
          λ h' i l d.
          ⊎_elim
          (λ (o : length table ≤ p). absurd (let no : ⊥ = omega arith in no))
          (λ w.
          ⊎_elim
          (λ (free : get_or table p 0 ≡ empty). still-listed table p place free h' i l d)
          (λ (same : get_or table p 0 ≡ place). subst (λ (t : List ℕ). PlaceListed t h' i)
          (sym (ap (set table p) (sym same) ∙ set-get_or table p 0)) d)
          w)
          s.here;
    }

-- what a search of a table of floats from `home` on finds
pub slot-found : (t : List Float) (home place : ℕ) (r : Option ℕ) → home ≤ length t
    → MatchOption r ((p : ℕ) → home ≤ p → p < length t → to_bits binary32 (get_or t p nan) ≡ empty → ⊥)
    (λ p. (home ≤ p) × (p < length t)
    × ((to_bits binary32 (get_or t p nan) ≡ empty) ⊎ (to_bits binary32 (get_or t p nan) ≡ place))
    × ((q : ℕ) → home ≤ q → q < p → to_bits binary32 (get_or t q nan) ≡ empty → ⊥))
    → SlotFor (slots_of t) home place (unwrap_or r (length t)) × IfSome r (λ p. p < length t)
slot-found t home place None h none = (
  record {
    from = h;
    full = λ q l m e. none q l m (sym (slot_is t q _ m refl) ∙ e);
    here = inl (omega (arith, slots-long t));
  },
  tt,
)
slot-found t home place (Some p) h found = (
  record {
    from = found.0;
    full = λ q l m e. found.3 q l m (sym (slot_is t q _ (omega (arith, found.1)) refl) ∙ e);
    here = inr (⊎_elim (λ e. inl (slot_is t p _ found.1 refl ∙ e)) (λ e. inr (slot_is t p _ found.1 refl ∙ e)) found.2);
  },
  found.1,
)

-- in a table of floats, for a corner at p whose home is found
module _ (g : Grid) (p : Position) (t : List Float) (home place : ℕ) (is : home ≡ home_at g (length t) p) where
  listed-home : (table' : List ℕ) → ListsPlace (slots_of t) home place table' → ListsAt g p place (slots_of t) table'
  listed-home table' l = subst (λ (n : ℕ). ListsPlace (slots_of t) n place table') (home-slots t _ _ home is) l

  module _ (slot : ℕ) (s : SlotFor (slots_of t) home place slot) where
    pub lists-past : length t ≤ slot → ListsAt g p place (slots_of t) (slots_of t)
    lists-past h = listed-home (slots_of t) (lists-end (slots_of t) home place slot s (omega (arith, slots-long t)))

    pub lists-stored : slot < length t → place < empty → (v : Float) → v ≡ of_bits binary32 place
        → ListsAt g p place (slots_of t) (slots_of (set t slot v))
    lists-stored h small v e =
        let stored : to_bits binary32 v ≡ place = ap (to_bits binary32) e ∙ place-back place small in
        let after : set (slots_of t) slot place ≡ slots_of (set t slot v) = ap (set (slots_of t) slot) (sym stored)
        ∙ sym (slots_set t slot v) in
        listed-home (slots_of (set t slot v))
        (subst (ListsPlace (slots_of t) home place) after (lists_at (slots_of t) home place slot s (omega (arith, slots-long t))))
