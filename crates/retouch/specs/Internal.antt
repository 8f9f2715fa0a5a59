-- What the private functions require of their arguments and return.
use Rattle.std.specs.Prelude.{ℕ, ◌+◌, ◌*◌, ◌-◌, ◌<◌, ◌≡◌, ◌⊎◌, Bool, cond, ◌&&◌, List, leb, ltb, length, get_or, Float}
use Rattle.float32.specs.Float32.{zero}
use Rattle.lists.specs.Tab.{grid}
use Rattle.lists.specs.Places.{Place, any, count, block}
use Rattle.lists.specs.Internal.{Sized}
use Rattle.ring.specs.Ring.{Ring}
use Rattle.response.specs.Response.{inside, response_at}
use Rattle.retouch.specs.Retouch.{is_at}

-- an image of w by h, a map of as many cells, one of the two rings, and a pixel of the image
pub record PixelChecked (img : List ℕ) (w h ring : ℕ) (q : Place) (m : List Float) : Type 0 where
  pub image : Sized (length img) w h
  pub cells : length m ≡ w * h
  pub known : (ring ≡ 5) ⊎ (ring ≡ 10)
  pub column : q.x < w
  pub row : q.y < h

-- along one side: the pixel at `at` is at a place of a square of this radius that lies in the image
abbrev pub fits : ℕ → ℕ → ℕ → ℕ → Bool
fits side radius at place = leb place at && ltb (at - place + 2 * radius) side

-- `touched`, `touched_count` and `redone` for some of the places only
abbrev pub touched_by : List (ℕ × ℕ) → ℕ → ℕ → Ring → Place → Place → Bool
touched_by ps w h t q c = inside w h t c.x c.y && any (is_at t q c) ps

unfoldable pub count_by : List (ℕ × ℕ) → ℕ → ℕ → Ring → Place → ℕ
count_by ps w h t q = count (touched_by ps w h t q) (block 0 w 0 h)

unfoldable pub redone_by : List (ℕ × ℕ) → List ℕ → ℕ → ℕ → Ring → Place → List Float → List Float
redone_by ps img w h t q m =
    grid w h (λ i j. cond (touched_by ps w h t q (record { x = i; y = j })) (response_at img w h t i j)
    (get_or m (j * w + i) zero))
