-- Lists of corners added to a buffer, one behind the other. Assumes nothing.
use Prim.Native.Nat.{ℕ, ◌+◌, ◌-◌, ◌*◌, ◌<◌, ◌≤◌}
use native.Mathlib.Omega.{arith}
use native.Mathlib.Numerals.{add-one}
use mathlib.Core.Path.{◌≡◌, refl, sym, ap, ◌∙◌}
use mathlib.Core.Bool.{Bool}
use mathlib.Core.List.{List, [], ◌∷◌, ◌++◌, map, map-append, append-nil}
use lib.ListN.{length, length-append, length-map}
use Rattle.std.specs.Prelude.{Result, Ok, Err}
use Rattle.lists.specs.declared.refusal.Refusal.{Refusal}
use Rattle.lists.specs.declared.refusal.Refusal.TheVariants.{ListTooLong}
use Rattle.lists.specs.Limits.{largest_map}
use Rattle.lists.specs.Tab.{tab}
use Rattle.lists.specs.Places.{flat_map, sum_of}
use Rattle.lists.specs.Buffer.{placed}
use Rattle.lists.proofs.Tab.{tab-add}
use Rattle.lists.proofs.Buffer.{placed-none, placed-more}
use Rattle.lists.proofs.Members.{flat_map-append}
use Rattle.corner_list.specs.declared.Corner.{Corner}
use Rattle.corner_list.specs.CornerList.{Slices, x_of, y_of, strength_of, neighbours_of, places_of, corners_of, placed_corners}
use Rattle.corner_list.proofs.Corners.{slices-alike}
use Rattle.detect.specs.declared.Peaks.{Peaks}
use Rattle.detect.specs.Detect.{PeaksAdded}
use Rattle.detect.proofs.Answers.{Clear, added-tells, refused-tells}
use Rattle.patch_corners.proofs.Changing.{placed-places}
use Rattle.patch_corners.proofs.RowsAlike.{sum-append}
use Rattle.corner_list.proofs.Growing.{Growing, growing-xs, growing-ys, growing-strengths, growing-neighbours}
use Rattle.frame.specs.Internal.{SameLengths, AddsCorners}

-- ---- lengths that stay
pub same-lengths : (b : Slices) → SameLengths b b
same-lengths b = record { xs = refl; ys = refl; strengths = refl; neighbours = refl }

pub lengths-on : {a b c : Slices} → SameLengths a b → SameLengths b c → SameLengths a c
lengths-on p q = record {
  xs = q.xs ∙ p.xs;
  ys = q.ys ∙ p.ys;
  strengths = q.strengths ∙ p.strengths;
  neighbours = q.neighbours ∙ p.neighbours;
}

placed-lengths : (cs : List Corner) (held : ℕ) (b : Slices) → held + length cs ≤ places_of b → SameLengths b (placed_corners held cs b)
placed-lengths cs held b h = record {
  xs = growing-xs cs [] held (length cs) b _ grown;
  ys = growing-ys cs [] held (length cs) b _ grown;
  strengths = growing-strengths cs [] held (length cs) b _ grown;
  neighbours = growing-neighbours cs [] held (length cs) b _ grown;
}
  where
    grown : Growing cs [] held (length cs) b (placed_corners held cs b)
    grown = record { done = cs; count = refl; split = sym (append-nil cs); fits = h; is = refl }

module _ (cs : List Corner) (ties held : ℕ) (b : Slices) where
  -- corners that fit
  pub adds : (q : Peaks) (b' : Slices) → q.count ≡ length cs → held + q.count ≤ places_of b → b' ≡ placed_corners held cs b
      → q.ties ≡ ties → AddsCorners cs ties held b (Ok q) b'
  adds q b' e fits is tied = record {
    added = λ r z.
        let same : q ≡ r = grind arith in
        let it : (q.count ≡ length cs) × (held + q.count ≤ places_of b) × (b' ≡ placed_corners held cs b) × (q.ties ≡ ties) =
        (e, fits, is, tied) in
        rw same at it;
    refused = λ r z. absurd (let no : ⊥ = grind arith in no);
    lengths = rw is (placed-lengths cs held b (omega (arith, e, fits)));
  }

  -- and corners that do not
  pub adds-not : (answer : Result Peaks Refusal) (e : Refusal) (b' : Slices) → answer ≡ Err e → e ≡ ListTooLong
      → places_of b < held + length cs
      → SameLengths b b' → AddsCorners cs ties held b answer b'
  adds-not answer e b' is long short same = record {
    added = λ q z. absurd (let no : ⊥ = grind arith in no);
    refused = λ r z. let other : e ≡ r = grind arith in (sym other ∙ long, short);
    lengths = same;
  }

  -- no corners
  pub adds_none : cs ≡ [] → ties ≡ 0 → held ≤ places_of b → AddsCorners cs ties held b (Ok (record { count = 0; ties = 0 })) b
  adds_none e t h =
      adds _ b (ap length (sym e)) (omega arith)
      (slices-alike (placed-none held b.xs) (placed-none held b.ys) (placed-none held b.strengths)
      (placed-none held b.neighbours)
      ∙ ap (λ (l : List Corner). placed_corners held l b) (sym e))
      (sym t)

  -- the same corners and ties by another name
  pub adds-to : (ds : List Corner) (u : ℕ) (answer : Result Peaks Refusal) (b' : Slices) → cs ≡ ds → ties ≡ u
      → AddsCorners cs ties held b answer b'
      → AddsCorners ds u held b answer b'
  adds-to ds u answer b' e t a = rw (← e, ← t) a

-- what peak finding added leaves the lengths of the buffer
pub found-lengths : (conds : List (Bool × ℕ)) (clear : Clear conds) (cs : List Corner) (ties held : ℕ) (b : Slices)
    (answer : Result Peaks Refusal) (b' : Slices) → PeaksAdded conds cs ties held b answer b' → SameLengths b b'
found-lengths conds clear cs ties held b (Ok q) b' f =
    let t = added-tells conds clear cs ties held b (Ok q) b' f q refl in
    rw t.buffer (placed-lengths cs held b (omega (arith, t.count, t.fits)))
found-lengths conds clear cs ties held b (Err e) b' f =
    rw (refused-tells conds clear cs ties held b (Err e) b' f e refl).buffer (same-lengths b)

-- ---- one list behind another: cs stand first in b, which was b₀
module _ (cs : List Corner) (ties held t : ℕ) (b₀ b : Slices)
    (a : AddsCorners cs ties 0 b₀ (Ok (record { count = held; ties = t })) b) where
  abbrev fitted : (held ≡ length cs) × (0 + held ≤ places_of b₀) × (b ≡ placed_corners 0 cs b₀) × (t ≡ ties)
  fitted = a.added _ refl

  pub adds-places : places_of b ≡ places_of b₀
  adds-places = ap places_of fitted.2 ∙ placed-places cs 0 b₀ (omega (arith, fitted.0, fitted.1))

  pub adds-held : held ≤ places_of b
  adds-held = omega (arith, fitted.1, adds-places)

  module _ (ds : List Corner) (more-ties : ℕ) (answer : Result Peaks Refusal) (b' : Slices)
      (d : AddsCorners ds more-ties held b answer b') where
    pub adds-more : (q : Peaks) → answer ≡ Ok q
        → AddsCorners (cs ++ ds) (ties + more-ties) 0 b₀ (Ok (record { count = held + q.count; ties = t + q.ties })) b'
    adds-more q e =
        let k = d.added q e in
        adds (cs ++ ds) (ties + more-ties) 0 b₀ (record { count = held + q.count; ties = t + q.ties }) b'
        (omega (arith, fitted.0, k.0, length-append cs ds))
        (omega (arith, k.1, adds-places))
        (k.2
        ∙ ap (placed_corners held ds) fitted.2
        ∙ slices-alike (more x_of b₀.xs) (more y_of b₀.ys) (more strength_of b₀.strengths) (more neighbours_of b₀.neighbours))
        (omega (arith, fitted.3, k.3))
      where
        more : {A : Type 0} (g : Corner → A) (s : List A) → placed held (map g ds) (placed 0 (map g cs) s) ≡ placed 0 (map g (cs ++ ds)) s
        more {A} g s =
            placed-more 0 held (map g cs) (map g ds) s (omega arith) (omega (arith, fitted.0, length-map cs g))
            ∙ ap (λ (l : List A). placed 0 l s) (sym (map-append g cs ds))

    -- the first that does not fit, of a list that goes on
    pub adds-full : (e : Refusal) → answer ≡ Err e → (all : List Corner) (all-ties : ℕ) → length cs + length ds ≤ length all
        → AddsCorners all all-ties 0 b₀ answer b'
    adds-full e z all all-ties l =
        let k = d.refused e z in
        adds-not all all-ties 0 b₀ answer e b' z k.0 (omega (arith, k.1, fitted.0, adds-places)) (lengths-on a.lengths d.lengths)

-- ---- the lists of the first members, and the sums of a number of each
sum-next : {A : Type 0} (X : A → ℕ) (g : ℕ → A) (i : ℕ) → sum_of X (tab i g) + X (g i) ≡ sum_of X (tab (i + 1) g)
unfolding tab
sum-next X g i = omega (arith, sum-append X (tab i g) (g i ∷ []), ap (λ (k : ℕ). sum_of X (tab k g)) (add-one i))

module _ {A B : Type 0} (f : A → List B) (g : ℕ → A) where
  flat-next : (i : ℕ) → flat_map f (tab i g) ++ f (g i) ≡ flat_map f (tab (i + 1) g)
  unfolding tab
  flat-next i =
      ap (λ (l : List B). flat_map f (tab i g) ++ l) (sym (append-nil (f (g i))))
      ∙ sym (flat_map-append f (tab i g) (g i ∷ []))
      ∙ ap (λ (k : ℕ). flat_map f (tab k g)) (sym (add-one i))

  flat-within : (i n : ℕ) → i < n → length (flat_map f (tab i g)) + length (f (g i)) ≤ length (flat_map f (tab n g))
  flat-within i n h =
      let k = n - (i + 1) in
      let e : n ≡ i + 1 + k = omega arith in
      let rest = tab k (λ j. g (i + 1 + j)) in
      let split : flat_map f (tab n g) ≡ flat_map f (tab (i + 1) g) ++ flat_map f rest =
      ap (λ (m : ℕ). flat_map f (tab m g)) e ∙ ap (flat_map f) (tab-add (i + 1) k g) ∙ flat_map-append f (tab (i + 1) g) rest in
      omega (
        arith,
        ap length split,
        length-append (flat_map f (tab (i + 1) g)) (flat_map f rest),
        ap length (flat-next i),
        length-append (flat_map f (tab i g)) (f (g i)),
      )

pub turn-none : {A : Type 0} (f : A → List Corner) (X : A → ℕ) (g : ℕ → A) (b : Slices)
    → AddsCorners (flat_map f (tab 0 g)) (sum_of X (tab 0 g)) 0 b (Ok (record { count = 0; ties = 0 })) b
unfolding tab
turn-none f X g b = adds_none [] 0 0 b refl refl (omega arith)

-- the list of one member more, s
module _ {A : Type 0} (f : A → List Corner) (X : A → ℕ) (g : ℕ → A) (i held t : ℕ) (b₀ b : Slices)
    (a : AddsCorners (flat_map f (tab i g)) (sum_of X (tab i g)) 0 b₀ (Ok (record { count = held; ties = t })) b)
    (s : A) (e : s ≡ g i) (answer : Result Peaks Refusal) (b' : Slices) (d : AddsCorners (f s) (X s) held b answer b') where
  pub turn_more : (q : Peaks) → answer ≡ Ok q
      → AddsCorners (flat_map f (tab (i + 1) g)) (sum_of X (tab (i + 1) g)) 0 b₀
      (Ok (record { count = held + q.count; ties = t + q.ties })) b'
  turn_more q z =
      adds-to (flat_map f (tab i g) ++ f s) (sum_of X (tab i g) + X s) 0 b₀ _ _
      (Ok (record { count = held + q.count; ties = t + q.ties })) b'
      (ap (λ (r : A). flat_map f (tab i g) ++ f r) e ∙ flat-next f g i) (ap (λ (r : A). sum_of X (tab i g) + X r) e ∙ sum-next X g i)
      (adds-more (flat_map f (tab i g)) (sum_of X (tab i g)) held t b₀ b a (f s) (X s) answer b' d q z)

  pub turn-full : (k : Refusal) → answer ≡ Err k → (n : ℕ) → i < n → AddsCorners (flat_map f (tab n g)) (sum_of X (tab n g)) 0 b₀ answer b'
  turn-full k z n l =
      adds-full (flat_map f (tab i g)) (sum_of X (tab i g)) held t b₀ b a (f s) (X s) answer b' d k z (flat_map f (tab n g))
      (sum_of X (tab n g))
      (omega (arith, flat-within f g i n l, ap (λ (r : A). length (f r)) e))

-- the lists of all seeds that stand in a buffer
pub turns-all : (seeds : Slices) (f : Corner → List Corner) (X : Corner → ℕ) (b : Slices) (answer : Result Peaks Refusal)
    (b' : Slices) (i n : ℕ) → i ≡ n
    → AddsCorners (flat_map f (corners_of seeds i)) (sum_of X (corners_of seeds i)) 0 b answer b'
    → AddsCorners (flat_map f (corners_of seeds n)) (sum_of X (corners_of seeds n)) 0 b answer b'
turns-all seeds f X b answer b' i n e a = rw e at a

-- ties of at most 2^24 lists, each with few, as a u64
pub sum_fits : (t s l n : ℕ) → t ≡ s → s ≤ 18270388224 * l → (i : ℕ) → l ≡ i + 1 → i < n → n ≤ largest_map → t ≤ 18446744073709551615
sum_fits t s l n e few i is below most = omega arith
