-- What `zakdomp_retouch` promises, by the promise of `retouch`.
use Rattle.std.specs.Prelude.{ℕ, ◌≡◌, List, Float}
use Rattle.lists.specs.Places.{Place}
use Rattle.ring.specs.Ring.{ring_of}
use Rattle.retouch.specs.Retouch.{touched_count}
use Rattle.retouch.specs.Promise.{Retouches}
use Rattle.lists.specs.Refusals.{judged, result_or}

-- r is the number of the answer, and image, map and count are the answer's too
pub record PixelRetouched (w h ring : ℕ) (q : Place) (value : ℕ) (img : List ℕ) (map : List Float) (redone : ℕ)
    (r : ℕ) (img' : List ℕ) (map' : List Float) (redone' : ℕ) : Type 0 where
  pub answer : Retouches w h ring q value img map
      (judged r (touched_count w h (ring_of ring) q)) img' map'
  pub redone_is : redone' ≡ result_or r (touched_count w h (ring_of ring) q) redone
