-- A table of the first peaks: numbers of peaks, a peak listed, and the peaks taken from it one after the other. Assumes nothing.
use Rattle.std.proofs.Common.{◌≡◌, ℕ, zero, suc, ◌+◌, ◌*◌, ◌/◌, ◌%◌, ◌<◌, ◌≤◌, Bool, true, false, cond, ltb, leb, List, Option, Some, None}
use Rattle.std.proofs.Common.{IfSome, length, get_or, set, sym, refl}
use Rattle.std.proofs.Common.{ap, subst, ◌∙◌, add-zero, mod-eq_of_lt, add-one, arith, length-set, get_or-set_other, get_or-set_same, le-ltb}
use Rattle.std.proofs.Common.{lt-ltb}
use native.Mathlib.Nat.{div-eq_of_lt, mul-add-mod_self_right, mul-add-div_right}
use borrow.Author.Tests.{lt-leb}
use lib.Ieee.{Float}
use borrow.Author.Count as passed
use Rattle.lists.specs.Limits.{largest_side, largest_map}
use Rattle.lists.specs.Places.{Place}
use Rattle.detect.specs.declared.Search.{Search}
use Rattle.detect.specs.declared.searching.Spot.{Spot}
use Rattle.detect.specs.Detect.{read_in, peaks_in}
use Rattle.detect.specs.Internal.{place, place_behind, place_of, counts, spot_of, found_of, start_of, peaks_from, Searchable}
use Rattle.detect.specs.Internal.{FirstFrom, NextFound, SpotInRange, PeaksListed, IsSearchStart, NextListed}
use Rattle.detect.proofs.Cells.{inside-few}
use Rattle.detect.proofs.Choice.{peaks-at-most}
use Rattle.detect.proofs.Scanning.{peaks-start}
use Rattle.detect.proofs.Ties.{few-at, neighbours-few}

-- ---- numbers

-- the two parts of a number of which n is the part below d
low : (d k n : ℕ) → n < d → (k * d + n) % d ≡ n
low d k n l = mul-add-mod_self_right k d n ∙ mod-eq_of_lt l

high : (d k n : ℕ) → n < d → (k * d + n) / d ≡ k
high d k n l = mul-add-div_right (omega arith) k n ∙ ap (λ (j : ℕ). k + j) (div-eq_of_lt l) ∙ add-zero k

-- a place, a place with one count, and a peak, as numbers
abbrev at_number : Spot → ℕ
at_number f = f.y * 4096 + f.x

abbrev counted_number : Spot → ℕ
counted_number f = at_number f * counts + f.neighbours

spot-number : (f : Spot) → SpotInRange f → spot_of (counted_number f * counts + f.ties) ≡ f
spot-number f k =
    rw (
      high counts (counted_number f) f.ties k.ties,
      low counts (counted_number f) f.ties k.ties,
      high counts (at_number f) f.neighbours k.neighbours,
      low counts (at_number f) f.neighbours k.neighbours,
      low 4096 f.y f.x k.x,
      high 4096 f.y f.x k.x,
    )

pub numbered : (f : Spot) → SpotInRange f → found_of (counted_number f * counts + f.ties) ≡ Some f
numbered f k =
    let below : counted_number f * counts + f.ties < largest_side * largest_side * counts * counts
    = omega (arith, k.x, k.y, k.neighbours, k.ties)
    in
    rw (lt-leb (largest_side * largest_side * counts * counts) (counted_number f * counts + f.ties) below, spot-number f k)

-- the peak that a number stands for is the one that it encodes
spot-found : (a : ℕ) (f : Spot) → found_of a ≡ Some f → spot_of a ≡ f
spot-found a f = pick (leb (largest_side * largest_side * counts * counts) a)
  where
    pick : (b : Bool) → cond b None (Some (spot_of a)) ≡ Some f → spot_of a ≡ f
    pick true e = cc
    pick false e = cc

-- a peak has a number of its own
pub found-small : (m : List Float) (s : Search) → Searchable m s → (p : Place) (o : Option Spot) → NextFound m s p o
    → IfSome o SpotInRange
found-small m s k p None a = tt
found-small m s k p (Some f) a = record {
  x = omega (arith, a.inside.right, k.wide);
  y = omega (arith, a.inside.bottom, k.high);
  neighbours = omega (arith, a.counted.neighbours, neighbours-few m s k (place_of f));
  ties = omega (arith, a.counted.ties, few-at m s k (place_of f));
}

-- ---- the table that is filled

-- p is where the search for peak n begins, and the n before it are listed
pub record Listing (m : List Float) (s : Search) (t : List ℕ) (n : ℕ) (p : Place) : Type 0 where
  pub listed : PeaksListed m s t n
  pub left : s.border ≤ p.x
  pub top : s.border ≤ p.y
  pub start : p ≡ start_of s t n

pub listing-first : (m : List Float) (s : Search) (t : List ℕ) → Listing m s t 0 (place s.border s.border)
listing-first m s t = record {
  listed = record { within = omega arith; each = passed.below_none (λ i. NextFound m s (start_of s t i) (found_of (get_or t i 0))) };
  left = omega arith;
  top = omega arith;
  start = refl;
}

-- a start is that of the place before
start-next : (s : Search) (t : List ℕ) (i : ℕ) → start_of s t (i + 1) ≡ place_behind (place_of (spot_of (get_or t i 0)))
start-next s t i = ap (start_of s t) (add-one i)

-- a number put at place n changes none before it
start-set : (s : Search) (t : List ℕ) (n a i : ℕ) → i ≤ n → start_of s (set t n a) i ≡ start_of s t i
start-set s t n a zero l = refl
start-set s t n a (suc i) l =
    ap (λ (k : ℕ). place_behind (place_of (spot_of k))) (get_or-set_other t n i a 0 (λ e. let no : ⊥ = omega arith in no))

module _ (m : List Float) (s : Search) (t : List ℕ) (n : ℕ) (p : Place) (o : Option Spot) (a : ℕ) (g : Listing m s t n p)
    (k : n < length t) (f : NextFound m s p o) (b : found_of a ≡ o) where
  pub listing-put : PeaksListed m s (set t n a) (n + 1)
  listing-put = record { within = rw length-set (omega arith); each = passed.below_more Each n old new }
    where
      Each : ℕ → Type 0
      Each i = NextFound m s (start_of s (set t n a) i) (found_of (get_or (set t n a) i 0))

      old : (i : ℕ) → i < n → NextFound m s (start_of s (set t n a) i) (found_of (get_or (set t n a) i 0))
      old i l =
          let other : i ≡ n → ⊥ = λ e. let no : ⊥ = omega arith in no in
          rw (start-set s t n a i (omega arith), get_or-set_other t n i a 0 other) (g.listed.each i l)

      new : NextFound m s (start_of s (set t n a) n) (found_of (get_or (set t n a) n 0))
      new = rw (start-set s t n a n (omega arith), get_or-set_same t n a 0 k, ← g.start, b) f

  pub listing-next : (q : Spot) → o ≡ Some q → Listing m s (set t n a) (n + 1) (place_behind (place_of q))
  listing-next q e =
      let first : FirstFrom m s p q = subst (NextFound m s p) e f in record {
        listed = listing-put;
        left = omega (arith, first.inside.left);
        top = first.inside.top;
        start = ap (λ (j : Spot). place_behind (place_of j))
            (sym (spot-found a q (b ∙ e)) ∙ ap spot_of (sym (get_or-set_same t n a 0 k)))
            ∙ sym (start-next s (set t n a) n);
      }

-- ---- the peaks by the table

pub search-start-first : (s : Search) (t : List ℕ) (n : ℕ) → IsSearchStart s t n 0 (place s.border s.border)
search-start-first s t n = record { left = omega arith; top = omega arith; listed = λ _. refl }

module _ (m : List Float) (s : Search) (t : List ℕ) (n i : ℕ) (p : Place) where
  -- from the table
  pub next-taken : PeaksListed m s t n → IsSearchStart s t n i p → i < n → (o : Option Spot) → o ≡ found_of (get_or t i 0)
      → NextListed m s t n i p o
  next-taken g a l o e = record { next = rw (a.listed l, e) (g.each i l); listed = λ _. e }

  -- by the search
  pub next-searched : n ≤ i → (o : Option Spot) → NextFound m s p o → NextListed m s t n i p o
  next-searched l o f = record { next = f; listed = λ w. absurd (let no : ⊥ = omega arith in no) }

  pub search-start-next : (q : Spot) → NextListed m s t n i p (Some q) → IsSearchStart s t n (i + 1) (place_behind (place_of q))
  search-start-next q f = record {
    left = omega (arith, f.next.inside.left);
    top = f.next.inside.top;
    listed = λ o. ap (λ (j : Spot). place_behind (place_of j)) (sym (spot-found (get_or t i 0) q (sym (f.listed (omega arith)))))
        ∙ sym (start-next s t i);
  }

-- ---- the peaks counted: i come before p, where the search goes on
pub record Counting (m : List Float) (s : Search) (t : List ℕ) (n i : ℕ) (p : Place) : Type 0 where
  pub sum : i + length (peaks_from m s p) ≡ length (peaks_in m s)
  pub search-start : IsSearchStart s t n i p

pub counting-first : (m : List Float) (s : Search) (t : List ℕ) (n : ℕ) → Counting m s t n 0 (place s.border s.border)
counting-first m s t n = record { sum = omega (arith, ap length (peaks-start m s)); search-start = search-start-first s t n }

module _ (m : List Float) (s : Search) (t : List ℕ) (n i : ℕ) (p : Place) (a : Counting m s t n i p) where
  pub counting-next : (q : Spot) → NextListed m s t n i p (Some q) → Counting m s t n (i + 1) (place_behind (place_of q))
  counting-next q f = record {
    sum = omega (arith, a.sum, ap length f.next.ahead);
    search-start = search-start-next m s t n i p q f;
  }

  pub counting-fit : NextListed m s t n i p None → (places held : ℕ) → held + i ≤ places
      → false ≡ ltb places (held + length (peaks_in m s))
  counting-fit f places held o =
      let all : held + length (peaks_in m s) ≤ places = omega (arith, a.sum, ap length f.next) in
      sym (le-ltb places (held + length (peaks_in m s)) all)

-- there are no more than cells
pub counting-few : (m : List Float) (s : Search) (t : List ℕ) (n i : ℕ) (p : Place) → Searchable m s → Counting m s t n i p
    → i ≤ largest_map
counting-few m s t n i p k a =
    let most = peaks-at-most (read_in m s) s.w s.h s.border s.window s.least_neighbours in
    omega (arith, a.sum, most, inside-few s k.wide k.high)

pub counting-many : (m : List Float) (s : Search) (t : List ℕ) (n i : ℕ) (p : Place) → Counting m s t n i p
    → (places held : ℕ) → places < held + i → true ≡ ltb places (held + length (peaks_in m s))
counting-many m s t n i p a places held o =
    let all : places < held + length (peaks_in m s) = omega (arith, a.sum) in
    sym (lt-ltb places (held + length (peaks_in m s)) all)
