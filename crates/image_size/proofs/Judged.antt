-- What the number of conditions 1 and 2 says of the image, and of a table that begins with them. Assumes nothing.
use Prim.Native.Nat.{ℕ, ◌*◌}
use mathlib.Core.Path.{◌≡◌, sym, ◌∙◌}
use mathlib.Core.Bool.{Bool, true, false, cond}
use mathlib.Core.List.{[], ◌∷◌}
use Rattle.std.specs.Prelude.{Ok, Err}
use borrow.Author.Tests.{le-ltb, eq-eqb}
use Rattle.lists.specs.Limits.{largest_side}
use Rattle.lists.specs.declared.refusal.Refusal.{Refusal}
use Rattle.lists.specs.Refusals.{is_large, is_misfit, judged, verdict}
use Rattle.lists.specs.Internal.{Sized}
use Rattle.lists.proofs.Refusals.{sized-none}
use Rattle.lists.proofs.Judged.{judged-ok, judged-first}
use Rattle.image_size.specs.ImageSize.{conditions, refusal_of}

module _ (size w h : ℕ) where
  -- the number of a table that begins with the two, as `lowest` computes it from that of its rest
  abbrev pub before : ℕ → ℕ
  before rest = cond (is_large w h) 1 (cond (is_misfit size w h) 2 rest)

  -- a refusal is the whole table's
  pub refused : {A : Type 0} (due : A) (e : Refusal) (rest : ℕ) → Err e ≡ verdict (refusal_of size w h)
      → Err e ≡ judged (before rest) due
  unfolding refusal_of
  refused due e rest p = judged-first (conditions size w h) ((true, rest) ∷ []) tt due e p

  -- no refusal: an image or a map of w by h
  pub sized : (v : Unit {0}) → Ok v ≡ verdict (refusal_of size w h) → Sized size w h
  unfolding refusal_of
  sized v p = (sized-none size w h [] (judged-ok (refusal_of size w h) tt v p).0).0

  -- of which the rest of the table decides
  pub passed : (rest : ℕ) → Sized size w h → before rest ≡ rest
  passed rest s = simp (le-ltb largest_side w s.narrow, le-ltb largest_side h s.low, eq-eqb size (w * h) s.sized)
