-- The twenty-one places that a response samples are different, for any ring. Assumes nothing.
use mathlib.Core.Path.{◌≡◌, sym, ◌∙◌}
use mathlib.Core.List.{List, [], ◌∷◌, ◌++◌}
use Prim.Native.Nat.{ℕ, zero, suc, ◌+◌, ◌-◌, ◌<◌, ◌≤◌}
use native.Mathlib.Omega.{arith}
use lib.ListN.{length, get_or, length-append, get_or-append, get_or-map}
use lib.Seq.{get_or-append-add}
use Rattle.lists.specs.Places.{All}
use Rattle.lists.proofs.Members.{all_append}
use Rattle.ring.specs.Ring.{Ring, dx, dy, IsRing}
use Rattle.ring.proofs.Places.{radius-pos}
use Rattle.retouch.specs.Retouch.{cross_places, sample_places}

-- ---- places that are not the same
abbrev pub Differ : ℕ × ℕ → ℕ × ℕ → Type 0
Differ p q = p.0 ≡ q.0 → p.1 ≡ q.1 → ⊥

-- each differs from those behind it
abbrev pub Apart : List (ℕ × ℕ) → Type 0
Apart [] = Unit
Apart (p ∷ ps) = All (Differ p) ps × Apart ps

-- a place by its index
abbrev pub nth : List (ℕ × ℕ) → ℕ → ℕ × ℕ
nth ps k = get_or ps k (0, 0)

pub all-nth : (P : ℕ × ℕ → Type 0) (l : List (ℕ × ℕ)) → ((k : ℕ) → k < length l → P (nth l k)) → All P l
all-nth P [] f = tt
all-nth P (p ∷ l) f = (f 0 (omega arith), all-nth P l (λ k h. f (suc k) (omega arith)))

apart-nth : (l : List (ℕ × ℕ)) → ((j k : ℕ) → j < length l → k < length l → (nth l j).0 ≡ (nth l k).0 → (nth l j).1 ≡ (nth l k).1
    → j ≡ k) → Apart l
apart-nth [] f = tt
apart-nth (p ∷ l) f = (
  all-nth (Differ p) l (λ k h x y. let e : zero ≡ suc k = f 0 (suc k) (omega arith) (omega arith) x y in let no : ⊥ = omega arith in no),
  apart-nth l (λ j k hj hk x y. let e : suc j ≡ suc k = f (suc j) (suc k) (omega arith) (omega arith) x y in omega arith),
)

apart-append : (s u : List (ℕ × ℕ)) → Apart s → Apart u → All (λ p. All (Differ p) u) s → Apart (s ++ u)
apart-append [] u a b c = b
apart-append (p ∷ s) u a b c = (all_append (Differ p) s u a.0 c.0, apart-append s u a.1 b c.1)

-- ---- those of any ring
module _ (t : Ring) where
  pub dx-nth : (k : ℕ) → dx t k ≡ (nth t.places k).0
  dx-nth k = get_or-map (λ (p : ℕ × ℕ). p.0) t.places k (0, 0)

  pub dy-nth : (k : ℕ) → dy t k ≡ (nth t.places k).1
  dy-nth k = get_or-map (λ (p : ℕ × ℕ). p.1) t.places k (0, 0)

differs : (a b c d : ℕ) → 0 < (a - c) + (c - a) + ((b - d) + (d - b)) → Differ (a, b) (c, d)
differs a b c d l x y = let no : ⊥ = omega arith in no

module _ (t : Ring) (is : IsRing t) where
  one : 1 ≤ t.radius
  one = radius-pos t is

  pub cross-apart : Apart (cross_places t)
  cross-apart =
      let r = t.radius in
      let l : 1 ≤ r = one in (
        (
          differs r r r (r - 1) (omega arith),
          (differs r r r (r + 1) (omega arith), (differs r r (r + 1) r (omega arith), (differs r r (r - 1) r (omega arith), tt))),
        ),
        (
          (
            differs r (r - 1) r (r + 1) (omega arith),
            (differs r (r - 1) (r + 1) r (omega arith), (differs r (r - 1) (r - 1) r (omega arith), tt)),
          ),
          (
            (differs r (r + 1) (r + 1) r (omega arith), (differs r (r + 1) (r - 1) r (omega arith), tt)),
            ((differs (r + 1) r (r - 1) r (omega arith), tt), (tt, tt)),
          ),
        ),
      )

  -- further than one step from the centre there is none of the cross
  off : (a b : ℕ) → 1 < (a - t.radius) + (t.radius - a) + ((b - t.radius) + (t.radius - b)) → All (Differ (a, b)) (cross_places t)
  off a b l =
      let m : 1 ≤ t.radius = one in (
        λ x y. let no : ⊥ = omega arith in no,
        (
          λ x y. let no : ⊥ = omega arith in no,
          (λ x y. let no : ⊥ = omega arith in no, (λ x y. let no : ⊥ = omega arith in no, (λ x y. let no : ⊥ = omega arith in no, tt))),
        ),
      )

  pub places-apart : Apart t.places
  places-apart =
      apart-nth t.places
      (λ j k hj hk x y.
      is.different j k (omega (arith, is.sixteen)) (omega (arith, is.sixteen)) (dx-nth t j ∙ x ∙ sym (dx-nth t k))
      (dy-nth t j ∙ y ∙ sym (dy-nth t k)))

  pub ring-off-cross : All (λ p. All (Differ p) (cross_places t)) t.places
  ring-off-cross =
      all-nth (λ p. All (Differ p) (cross_places t)) t.places
      (λ k h. off (nth t.places k).0 (nth t.places k).1
      (rw (← dx-nth t k, ← dy-nth t k) (is.off_cross k (omega (arith, is.sixteen)))))

  pub samples-apart : Apart (sample_places t)
  samples-apart = apart-append t.places (cross_places t) places-apart cross-apart ring-off-cross

  pub samples-many : length (sample_places t) ≡ 21
  samples-many = length-append t.places (cross_places t) ∙ (rw is.sixteen)

  -- each by its index
  pub ring-place : (k : ℕ) → k < 16 → (dx t k, dy t k) ≡ nth (sample_places t) k
  ring-place k h = rw (dx-nth t k, dy-nth t k) (sym (get_or-append t.places (cross_places t) (0, 0) k (rw is.sixteen h)))

  pub cross-place : (k i : ℕ) → k ≡ 16 + i → nth (cross_places t) i ≡ nth (sample_places t) k
  cross-place k i e = rw (e, ← is.sixteen) (sym (get_or-append-add t.places (cross_places t) i (0, 0)))
