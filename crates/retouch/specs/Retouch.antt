-- RULES 27: a pixel of an image changes, and the cells of its map whose samples contain that pixel are recomputed.
use Rattle.std.specs.Prelude.{ℕ, ◌+◌, ◌*◌, ◌-◌, Bool, cond, ◌&&◌, List, [], ◌∷◌, ◌++◌, eqb, get_or, set, Float}
use Rattle.float32.specs.Float32.{zero}
use Rattle.lists.specs.Tab.{grid}
use Rattle.lists.specs.Places.{Place, any, count, block}
use Rattle.ring.specs.Ring.{Ring}
use Rattle.response.specs.Response.{inside, response_at}

-- RULES 27.1: the five places of the cross, counted like a ring's from the corner of its square; together with the
-- ring's sixteen they are all that the response of a cell samples
abbrev pub cross_places : Ring → List (ℕ × ℕ)
cross_places t =
    let r = t.radius in
    (r, r) ∷ (r, r - 1) ∷ (r, r + 1) ∷ (r + 1, r) ∷ (r - 1, r) ∷ []

abbrev pub sample_places : Ring → List (ℕ × ℕ)
sample_places t = t.places ++ cross_places t

-- the pixel q is at a place of the square around the cell c; at one of the ring; at one of the cross
abbrev pub is_at : Ring → Place → Place → ℕ × ℕ → Bool
is_at t q c p = eqb (c.x - t.radius + p.0) q.x && eqb (c.y - t.radius + p.1) q.y

abbrev pub on_ring : Ring → Place → Place → Bool
on_ring t q c = any (is_at t q c) t.places

abbrev pub in_cross : Ring → Place → Place → Bool
in_cross t q c = any (is_at t q c) (cross_places t)

-- RULES 27.2: the pixel q touches the cell c: c is not within a ring radius of the edge, and its samples contain q
abbrev pub touched : ℕ → ℕ → Ring → Place → Place → Bool
touched w h t q c = inside w h t c.x c.y && any (is_at t q c) (sample_places t)

-- how many cells of an image of w by h are touched
unfoldable pub touched_count : ℕ → ℕ → Ring → Place → ℕ
touched_count w h t q = count (touched w h t q) (block 0 w 0 h)

-- RULES 27.3: the image w wide with the pixel q changed
abbrev pub changed : List ℕ → ℕ → Place → ℕ → List ℕ
changed img w q value = set img (q.y * w + q.x) value

-- the map m with the image's response in each touched cell, and unchanged in every other
unfoldable pub redone : List ℕ → ℕ → ℕ → Ring → Place → List Float → List Float
redone img w h t q m =
    grid w h (λ i j. cond (touched w h t q (record { x = i; y = j })) (response_at img w h t i j)
    (get_or m (j * w + i) zero))
