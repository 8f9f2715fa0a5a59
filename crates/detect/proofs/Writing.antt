-- The corners that the peaks start as, put into the buffer one after the other, and the sum of their ties. Assumes nothing.
use Rattle.std.proofs.Common.{◌≡◌, ℕ, ◌+◌, ◌<◌, ◌≤◌, List, [], ◌∷◌, Some, None, Ok, map, length, ap, ◌∙◌, arith}
use lib.Ieee.{Float}
use Rattle.lists.specs.Places.{Place, sum_of}
use Rattle.corner_list.specs.declared.Corner.{Corner}
use Rattle.corner_list.specs.CornerList.{Slices, places_of, with_corner}
use Rattle.corner_list.proofs.Corners.{same-places}
use Rattle.corner_list.proofs.Growing.{Growing, growing-none, growing-to, growing-fits, growing-put, growing-all}
use Rattle.corner_list.proofs.Growing.{growing-xs, growing-ys, growing-strengths, growing-neighbours}
use Rattle.detect.specs.declared.Search.{Search}
use Rattle.detect.specs.declared.searching.Spot.{Spot}
use Rattle.detect.specs.Detect.{start_at, starts_in, ties_at, ties_in, PeaksAdded}
use Rattle.detect.specs.Internal.{place, place_behind, place_of, peaks_from, Searchable, IsSearchStart, NextListed}
use Rattle.detect.proofs.Scanning.{peaks-start}
use Rattle.detect.proofs.FirstPeaks.{search-start-first, search-start-next}
use Rattle.detect.proofs.Answers.{found-added}
use Rattle.detect.proofs.Ties.{ties-few}

-- the corners of i peaks, which have so many ties, were written to b, which was b₀, and p is where the search goes on
pub record Writing (m : List Float) (s : Search) (t : List ℕ) (n held i ties : ℕ) (b₀ b : Slices) (p : Place) : Type 0 where
  pub growing : Growing (starts_in m s) (map (start_at m s) (peaks_from m s p)) held i b₀ b
  pub search-start : IsSearchStart s t n i p
  pub tied : ties + sum_of (ties_at m s) (peaks_from m s p) ≡ ties_in m s

pub writing-first : (m : List Float) (s : Search) (t : List ℕ) (n held : ℕ) (b : Slices) → held + length (starts_in m s) ≤ places_of b
    → Writing m s t n held 0 0 b b (place s.border s.border)
writing-first m s t n held b h = record {
  growing = growing-to _ _ _ _ _ _ (growing-none (starts_in m s) held b h) _ (ap (map (start_at m s)) (peaks-start m s));
  search-start = search-start-first s t n;
  tied = omega (arith, ap (sum_of (ties_at m s)) (peaks-start m s));
}

module _ (m : List Float) (s : Search) (t : List ℕ) (n held i ties : ℕ) (b₀ b : Slices) (p : Place)
    (a : Writing m s t n held i ties b₀ b p) where
  pub writing-all : NextListed m s t n i p None
      → PeaksAdded [] (starts_in m s) (ties_in m s) held b₀ (Ok (record { count = i; ties = ties })) b
  writing-all f =
      let k = growing-all _ _ _ _ _ _ a.growing (ap (map (start_at m s)) f.next) in
      found-added (starts_in m s) (ties_in m s) held b₀ a.growing.fits i ties b k.0
      (omega (arith, a.tied, ap (sum_of (ties_at m s)) f.next)) k.1

  module _ (q : Spot) (f : NextListed m s t n i p (Some q)) where
    abbrev here : Place
    here = place_of q

    first : map (start_at m s) (peaks_from m s p) ≡ start_at m s here ∷ map (start_at m s) (peaks_from m s (place_behind here))
    first = ap (map (start_at m s)) f.next.ahead

    -- there was a place for its corner in the buffer at the start
    pub writing-place : held + i < places_of b₀
    writing-place =
        let g = a.growing in
        rw (← same-places b b₀ (growing-xs _ _ _ _ _ _ g) (growing-ys _ _ _ _ _ _ g) (growing-strengths _ _ _ _ _ _ g)
        (growing-neighbours _ _ _ _ _ _ g))
        (growing-fits _ _ _ _ _ _ g _ _ first)

    pub writing-less : length (peaks_from m s (place_behind here)) < length (peaks_from m s p)
    writing-less = omega (arith, ap length f.next.ahead)

    -- the peak at hand and the sum so far
    more-tied : ties + q.ties + sum_of (ties_at m s) (peaks_from m s (place_behind here)) ≡ ties_in m s
    more-tied = omega (arith, f.next.counted.ties, a.tied, ap (sum_of (ties_at m s)) f.next.ahead)

    pub writing-few : Searchable m s → ties + q.ties ≤ 18270388224
    writing-few k = omega (arith, more-tied, ties-few m s k)

    pub writing-next : (c : Corner) → c ≡ start_at m s here → (b' : Slices) → b' ≡ with_corner (held + i) c b
        → Writing m s t n held (i + 1) (ties + q.ties) b₀ b' (place_behind here)
    writing-next c e b' put = record {
      growing =
          growing-put _ _ _ _ _ _ a.growing (start_at m s here) _ first b'
          (put ∙ ap (λ (d : Corner). with_corner (held + i) d b) e);
      search-start = search-start-next m s t n i p q f;
      tied = more-tied;
    }
