-- The loop over the twenty-one places: what is redone by those passed, and at the end all that is touched. Assumes nothing.
use mathlib.Core.Path.{◌≡◌, refl, sym, ap, ◌∙◌}
use mathlib.Core.List.{List, [], ◌∷◌, ◌++◌}
use Prim.Native.Nat.{ℕ, ◌+◌, ◌*◌, ◌<◌, ◌≤◌}
use native.Mathlib.Nat.{mul_comm}
use native.Mathlib.Numerals.{add-one}
use native.Mathlib.Omega.{arith}
use lib.ListN.{length, take}
use lib.Seq.{take-suc, take_all}
use lib.Ieee.{Float}
use Rattle.lists.specs.Places.{Place, sum_of}
use Rattle.ring.specs.Ring.{Ring, IsRing}
use Rattle.retouch.specs.Retouch.{sample_places, touched_count, redone}
use Rattle.retouch.specs.Internal.{PixelChecked, count_by, redone_by}
use Rattle.retouch.proofs.Counting.{sum-append}
use Rattle.retouch.proofs.Sampling.{nth, samples-apart, samples-many}
use Rattle.retouch.proofs.Touching.{touched_none, touched-by-all, count-apart}
use Rattle.retouch.proofs.Redoing.{redone-length, redone-none, redone-more, redone-by-all}

-- how many cells the first k places touch
abbrev passed_count : ℕ → ℕ → Ring → Place → ℕ → ℕ
passed_count w h t q k = sum_of (λ p. count_by (p ∷ []) w h t q) (take k (sample_places t))

-- the map m after the first k places, from m₀, and the count
pub record Passed (img : List ℕ) (w h : ℕ) (t : Ring) (q : Place) (m₀ : List Float) (k : ℕ) (m : List Float) (n : ℕ) : Type 0 where
  pub few : n ≤ k
  pub count_is : n ≡ passed_count w h t q k
  pub map_is : m ≡ redone_by (take k (sample_places t)) img w h t q m₀

module _ (img : List ℕ) (w h : ℕ) (t : Ring) (is : IsRing t) (q : Place) (m₀ : List Float) where
  pub passed_none : length m₀ ≡ w * h → Passed img w h t q m₀ 0 m₀ 0
  passed_none l =
      record { few = omega arith; count_is = refl; map_is = sym (redone-none img w h t q m₀ (l ∙ mul_comm w h) [] (touched_none w h t q)) }

  module _ (k : ℕ) (m : List Float) (n : ℕ) (d : Passed img w h t q m₀ k m n) where
    pub passed_length : length m ≡ w * h
    passed_length = ap length d.map_is ∙ redone-length img w h t q m₀ (take k (sample_places t)) ∙ mul_comm h w

    pub passed-next : k < 21 → (p : ℕ × ℕ) (m' : List Float) (c : ℕ) → p ≡ nth (sample_places t) k → m' ≡ redone_by (p ∷ []) img w h t q m
        → c ≡ count_by (p ∷ []) w h t q → c ≤ 1 → Passed img w h t q m₀ (k + 1) m' (n + c)
    passed-next l p m' c at e f s =
        let more : take (k + 1) (sample_places t) ≡ take k (sample_places t) ++ (p ∷ []) =
        ap (λ (i : ℕ). take i (sample_places t)) (add-one k) ∙ take-suc (sample_places t) k (0, 0) (rw (samples-many t is) l)
        ∙ ap (λ (o : ℕ × ℕ). take k (sample_places t) ++ (o ∷ [])) (sym at) in
        record {
          few = omega (arith, d.few);
          count_is =
              (omega (arith, d.count_is, sum-append (λ o. count_by (o ∷ []) w h t q) (take k (sample_places t)) (p ∷ [])))
              ∙ ap (sum_of (λ (o : ℕ × ℕ). count_by (o ∷ []) w h t q)) (sym more);
          map_is =
              e ∙ ap (redone_by (p ∷ []) img w h t q) d.map_is ∙ redone-more img w h t q m₀ (take k (sample_places t)) (p ∷ [])
              ∙ ap (λ (s : List (ℕ × ℕ)). redone_by s img w h t q m₀) (sym more);
        }

    pub passed-all : 21 ≤ k → (m ≡ redone img w h t q m₀) × (n ≡ touched_count w h t q)
    passed-all l =
        let all : take k (sample_places t) ≡ sample_places t = take_all k (sample_places t) (rw (samples-many t is) l) in (
          d.map_is ∙ ap (λ (s : List (ℕ × ℕ)). redone_by s img w h t q m₀) all ∙ redone-by-all img w h t q m₀,
          d.count_is
              ∙ ap (sum_of (λ (o : ℕ × ℕ). count_by (o ∷ []) w h t q)) all
              ∙ sym (count-apart w h t q (sample_places t) (samples-apart t is))
              ∙ sym (touched-by-all w h t q),
        )

pub ready-map : (img : List ℕ) (w h ring : ℕ) (q : Place) (m m' : List Float) → PixelChecked img w h ring q m → length m' ≡ w * h
    → PixelChecked img w h ring q m'
ready-map img w h ring q m m' r e = record { image = r.image; cells = e; known = r.known; column = r.column; row = r.row }
