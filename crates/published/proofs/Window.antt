-- The window is the published one: the cells that the loops look at about a cell, clipped by their tests. Assumes nothing.
use mathlib.Core.Path.{◌≡◌, refl, sym, ◌∙◌}
use mathlib.Core.Bool.{Bool, true, false, cond, not, ◌&&◌, ◌||◌}
use mathlib.Core.List.{List, [], ◌∷◌, map-id}
use Prim.Native.Nat.{ℕ, ◌+◌, ◌-◌, ◌*◌, ◌≤◌, ◌<◌, min}
use native.Mathlib.Decide.{dec_lt}
use native.Mathlib.Omega.{arith}
use lib.Dec.{ltb, leb, eqb}
use lib.IntN.{sub_ℕ}
use borrow.Author.Tests.{lt-ltb, le-ltb, le-leb, lt-leb, eq-eqb, ne_eqb}
use Rattle.lists.specs.Places.{Place, range, flat_map}
use Rattle.lists.proofs.Tests.{or_right}
use Rattle.detect.specs.Peaks.{same, square, window}
use Rattle.published.specs.Rust.{as_usize, around}
use Rattle.published.specs.NeighborsRs.{turn_rs, looked_rs, WindowAsPublished}
use Rattle.published.proofs.Integers.{plus-is, below-zero, from_on, is_zero}
use Rattle.published.proofs.Loops.{flat-map, counted_none, clipped, rows-block, flat_keep}

module _ (w h r : ℕ) (p : Place) where
  abbrev turn : ℕ → ℕ → List Place
  turn j i = turn_rs w h p (sub_ℕ j r) (sub_ℕ i r)

  abbrev x : ℕ
  x = p.x

  abbrev y : ℕ
  y = p.y

  abbrev off : ℕ → ℕ → Bool
  off j i = ltb (x + i) r || ltb (y + j) r || leb (w + r) (x + i) || leb (h + r) (y + j)

  abbrev found : Bool → Bool → Place → List Place
  found centre outside q = cond centre [] (cond outside [] (q ∷ []))

  abbrev cell : ℕ → ℕ → Place
  cell j i = record { x = as_usize (sub_ℕ (x + i) r); y = as_usize (sub_ℕ (y + j) r) }

  turn_is : (j i : ℕ) → turn j i ≡ found (eqb i r && eqb j r) (off j i) (cell j i)
  turn_is j i =
      rw (is_zero i r, is_zero j r, plus-is x i r, plus-is y j r)
      (rw (below-zero (x + i) r, below-zero (y + j) r, from_on w (x + i) r, from_on h (y + j) r))

  outside : (j i : ℕ) → off j i ≡ true → turn j i ≡ []
  outside j i e = turn_is j i ∙ rw e (none (eqb i r && eqb j r))
    where
      none : (b : Bool) → found b true (cell j i) ≡ []
      none true = refl
      none false = refl

  -- the cell itself is the centre exactly where both offsets are 0
  centre : (c i : ℕ) → r ≤ c + i → eqb i r ≡ eqb (c + i - r) c
  centre c i l = elim (dec_lt r i) [
    | yes m ↦ rw (ne_eqb i r (λ e. let no : ⊥ = omega arith in no)) (sym (ne_eqb (c + i - r) c (λ e. let no : ⊥ = omega arith in no)))
    | no g ↦ elim (dec_lt i r) [
      | yes m ↦ rw (ne_eqb i r (λ e. let no : ⊥ = omega arith in no)) (sym (ne_eqb (c + i - r) c (λ e. let no : ⊥ = omega arith in no)))
      | no k ↦ rw (eq-eqb i r (omega arith)) (sym (eq-eqb (c + i - r) c (omega arith)))
    ]
  ]

  abbrev kept : Place → List Place
  kept q = cond (not (same q p)) (q ∷ []) []

  inner : (j i : ℕ) → r ≤ x + i → x + i < w + r → r ≤ y + j → y + j < h + r → turn j i ≡ kept (record { x = x + i - r; y = y + j - r })
  inner j i a b c d =
      turn_is j i
      ∙ rw (le-ltb (x + i) r a, le-ltb (y + j) r c, lt-leb (w + r) (x + i) b, lt-leb (h + r) (y + j) d)
      (rw (centre x i a, centre y j c) (turned (same (record { x = x + i - r; y = y + j - r }) p)))
    where
      turned : (b : Bool) → found b false (record { x = x + i - r; y = y + j - r })
          ≡ cond (not b) (record { x = x + i - r; y = y + j - r } ∷ []) []
      turned true = refl
      turned false = refl

  -- one row
  line : (j : ℕ) → r ≤ y + j → y + j < h + r
      → flat_map (turn_rs w h p (sub_ℕ j r)) (around r)
      ≡ flat_map (λ u. kept (record { x = u; y = y + j - r })) (range (x - r) (min (x + r + 1) w))
  unfolding around
  line j c d =
      flat-map (turn_rs w h p (sub_ℕ j r)) (λ (i : ℕ). sub_ℕ i r) (range 0 (2 * r + 1))
      ∙ clipped r x w (turn j) (λ u. kept (record { x = u; y = y + j - r }))
      (λ i l. outside j i (rw (lt-ltb (x + i) r l)))
      (λ i _ l. outside j i (rw (le-leb (w + r) (x + i) l, or_right (ltb (x + i) r || ltb (y + j) r))))
      (λ i a b. inner j i a b c d)

  no_line : (j : ℕ) → ((i : ℕ) → off j i ≡ true) → flat_map (turn_rs w h p (sub_ℕ j r)) (around r) ≡ []
  unfolding around range
  no_line j e =
      flat-map (turn_rs w h p (sub_ℕ j r)) (λ (i : ℕ). sub_ℕ i r) (range 0 (2 * r + 1))
      ∙ counted_none (turn j) (2 * r + 1 - 0) 0 (λ i _. outside j (0 + i) (e (0 + i)))

pub window-as-published : WindowAsPublished
unfolding looked_rs around window square
window-as-published w h r p =
    flat-map (λ dy. flat_map (turn_rs w h p dy) (around r)) (λ (j : ℕ). sub_ℕ j r) (range 0 (2 * r + 1))
    ∙ clipped r p.y h (λ j. flat_map (turn_rs w h p (sub_ℕ j r)) (around r))
    (λ v. flat_map (λ u. kept w h r p (record { x = u; y = v })) (range (p.x - r) (min (p.x + r + 1) w)))
    (λ j l. no_line w h r p j (λ i. above j i l))
    (λ j _ l. no_line w h r p j (λ i. below j i l))
    (λ j a b. line w h r p j a b)
    ∙ rows-block (kept w h r p) (p.x - r) (min (p.x + r + 1) w) (p.y - r) (min (p.y + r + 1) h)
    ∙ flat_keep (λ q. not (same q p)) (λ q. q) (square w h r p)
    ∙ map-id (window w h r p)
  where
    above : (j i : ℕ) → p.y + j < r → off w h r p j i ≡ true
    above j i l = rw (lt-ltb (p.y + j) r l, or_right (ltb (p.x + i) r))

    below : (j i : ℕ) → h + r ≤ p.y + j → off w h r p j i ≡ true
    below j i l = rw (le-leb (h + r) (p.y + j) l) (or_right (ltb (p.x + i) r || ltb (p.y + j) r || leb (w + r) (p.x + i)))
