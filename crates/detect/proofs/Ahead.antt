-- The places inside the border from a place on: by the first of them, at a row's end, and past cells that fail a test. Assumes nothing.
use Rattle.std.proofs.Common.{◌≡◌, ℕ, zero, suc, ◌+◌, ◌-◌, ◌<◌, ◌≤◌, Bool, true, false, cond, ltb, [], ◌∷◌, ◌++◌, refl, ap, ◌∙◌, add-zero}
use Rattle.std.proofs.Common.{arith, ltb-false, ltb-true, le-ltb, lt-ltb}
use Rattle.lists.specs.Places.{Place, row, block, keep}
use Rattle.lists.proofs.Places.{row_step, row-end, block-step, block-end}
use Rattle.detect.specs.declared.Search.{Search}
use Rattle.detect.specs.Internal.{place, ahead_in}

module _ (s : Search) where
  -- the column and the row past the last inside the border
  abbrev right : ℕ
  right = s.w - s.border

  abbrev bottom : ℕ
  bottom = s.h - s.border

  pub ahead-start : (y : ℕ) → block s.border right y bottom ≡ ahead_in s (place s.border y)
  unfolding ahead_in
  ahead-start y = go (ltb y bottom) refl
    where
      go : (t : Bool) → ltb y bottom ≡ t
          → block s.border right y bottom ≡ cond t (row y s.border right ++ block s.border right (y + 1) bottom) []
      go true e = block-step s.border right y bottom (ltb-true y bottom e)
      go false e = block-end s.border right y bottom (ltb-false y bottom e)

  module _ (x y : ℕ) where
    pub ahead-end : bottom ≤ y → ahead_in s (place x y) ≡ []
    unfolding ahead_in
    ahead-end q = rw (le-ltb y bottom q)

    pub ahead-row : right ≤ x → y < bottom → ahead_in s (place x y) ≡ ahead_in s (place s.border (y + 1))
    ahead-row p q = unfold ahead_in in (rw (lt-ltb y bottom q, row-end y x right p) (ahead-start (y + 1)))

    -- by whether the first cell ahead passes a test
    module _ (p : x < right) (q : y < bottom) where
      ahead-cell : ahead_in s (place x y) ≡ place x y ∷ ahead_in s (place (x + 1) y)
      unfolding ahead_in
      ahead-cell = rw (lt-ltb y bottom q, row_step y x right p)

      pub keep-hit : (f : Place → Bool) → f (place x y) ≡ true
          → keep f (ahead_in s (place x y)) ≡ place x y ∷ keep f (ahead_in s (place (x + 1) y))
      keep-hit f e = rw (ahead-cell, e)

      pub keep-miss : (f : Place → Bool) → f (place x y) ≡ false
          → keep f (ahead_in s (place x y)) ≡ keep f (ahead_in s (place (x + 1) y))
      keep-miss f e = rw (ahead-cell, e)

  -- n cells of a row that do not pass it
  pub keep-skip : (x y n : ℕ) → x + n ≤ right → y < bottom
      → (f : Place → Bool) → ((k : ℕ) → k < n → f (place (x + k) y) ≡ false)
      → keep f (ahead_in s (place x y)) ≡ keep f (ahead_in s (place (x + n) y))
  keep-skip x y zero h q f g = rw add-zero
  keep-skip x y (suc n) h q f g =
      keep-skip x y n (omega arith) q f (λ k l. g k (omega arith))
      ∙ keep-miss (x + n) y (omega arith) q f (g n (omega arith))
      ∙ ap (λ (k : ℕ). keep f (ahead_in s (place k y))) (omega arith)
