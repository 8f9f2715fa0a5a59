-- What a caller of `find_corners` learns from its answer. Assumes nothing.
use Prim.Native.Nat.{ℕ, ◌≤◌}
use native.Mathlib.Nat.{eq-zero-or-pos}
use native.Mathlib.Omega.{arith}
use mathlib.Core.Path.{◌≡◌, refl, sym, ap, ◌∙◌}
use mathlib.Core.Logic.{⊎_elim}
use mathlib.Core.Bool.{false}
use mathlib.Core.List.{List, [], ◌++◌, map}
use lib.ListN.{length, length-append, length-map}
use lib.Dec.{ltb}
use lib.Seq.{drop_at}
use borrow.Author.Tests.{ltb-false}
use Rattle.std.proofs.Math.Nat.{le-min}
use Rattle.lists.specs.Buffer.{front}
use Rattle.lists.specs.Refusals.{lowest}
use Rattle.lists.proofs.Tests.{or-neither}
use Rattle.lists.proofs.Refusals.{lowest-none}
use Rattle.pyramid.specs.Pyramid.{above}
use Rattle.corner_list.specs.declared.Corner.{Corner}
use Rattle.corner_list.specs.CornerList.{Slices, x_of, y_of, strength_of, neighbours_of, places_of, corners_of}
use Rattle.corner_list.proofs.Corners.{slices-alike, corners-front}
use Rattle.merge.proofs.Result.{result-length}
use Rattle.frame_params.specs.declared.FrameParams.{FrameParams}
use Rattle.patch_corners.specs.OneMap.{Choice}
use Rattle.frame_pass.specs.Pass.{frame_pass, levels_in, found_of}
use Rattle.frame_pass.specs.Refusals.{conditions}
use Rattle.std.specs.Prelude.{Ok, Err}
use Rattle.lists.specs.declared.refusal.Refusal.{Refusal}
use Rattle.lists.specs.Refusals.{refusal_number}
use Rattle.lists.proofs.Judged.{judged-ok}
use Rattle.frame.specs.declared.Found.{Found}
use Rattle.frame.specs.Frame.{Buffers, too_many, refusal_of, padded_corners, finished, found_in, FrameFound, wiped, left_by_number}
use Rattle.frame.proofs.Numbers.{number-before, number-in-pass}

-- corners that stand first in a buffer are read back
own-front : {A : Type 0} (vs r : List A) → vs ++ r ≡ front vs (vs ++ r)
own-front {A} vs r = ap (λ (l : List A). vs ++ l) (sym (drop_at vs r (length vs) refl))

pub corners-padded : (cs : List Corner) (b : Slices) (n : ℕ) → n ≡ length cs → corners_of (padded_corners cs b) n ≡ cs
corners-padded cs b n e =
    ap (λ (s : Slices). corners_of s n)
    (slices-alike (own-front (map x_of cs) _) (own-front (map y_of cs) _) (own-front (map strength_of cs) _)
    (own-front (map neighbours_of cs) _))
    ∙ corners-front cs (padded_corners cs b) n e

-- and the buffer has as many places
padded-places : (cs : List Corner) (b : Slices) (n : ℕ) → n ≡ length cs → n ≤ places_of (padded_corners cs b)
padded-places cs b n e = le-min (each x_of _) (le-min (each y_of _) (le-min (each strength_of _) (each neighbours_of _)))
  where
    each : {A : Type 0} (g : Corner → A) (r : List A) → n ≤ length (map g cs ++ r)
    each g r = omega (arith, e, length-map cs g, length-append (map g cs) r)

-- a finished frame: its corners and ties, by the pass, and the buffers
pub record Finished (choose : Choice) (p : FrameParams) (img : List ℕ) (w h : ℕ) (b : Buffers) (n t : ℕ) (b' : Buffers) : Type 0 where
  pub number : refusal_of choose p img w h b ≡ 0
  pub count : n ≡ length (frame_pass p img w h choose).corners
  pub tied : t ≡ (frame_pass p img w h choose).ties
  pub fits : n ≤ places_of b.corners
  pub held : n ≤ places_of b'.corners
  pub corners : corners_of b'.corners n ≡ (frame_pass p img w h choose).corners
  pub left : b' ≡ finished (above img w h (levels_in p img w h)) (frame_pass p img w h choose) b

module _ (choose : Choice) (p : FrameParams) (img : List ℕ) (w h : ℕ) (b : Buffers) where
  -- no refusal, so no list is too long
  not-many : refusal_of choose p img w h b ≡ 0 → too_many (frame_pass p img w h choose) b ≡ false
  not-many e =
      let before = lowest (conditions p (length img) w h (length b.map) (length b.levels)) in
      let none : before ≡ 0 =
      ⊎_elim (λ z. z) (λ l. sym (number-before choose p img w h b (λ (z : before ≡ 0). let no : ⊥ = omega arith in no)) ∙ e)
      (eq-zero-or-pos before) in
      (lowest-none (too_many (frame_pass p img w h choose) b) 10 [] (omega arith) (sym (number-in-pass choose p img w h b none) ∙ e)).0

  few : refusal_of choose p img w h b ≡ 0 → length (frame_pass p img w h choose).corners ≤ places_of b.corners
  unfolding frame_pass
  few e =
      let q = frame_pass p img w h choose in
      let l = ltb-false (places_of b.corners) (length q.found)
      (or-neither (ltb (places_of b.seeds) (length q.seeds)) _ (not-many e)).1 in
      omega (arith, l, result-length p.merge_radius (found_of p img w h choose (levels_in p img w h)))

  pub finished-tells : (f : Found) (b' : Buffers) → FrameFound choose p img w h b (Ok f) b'
      → Finished choose p img w h b f.corners f.ties b'
  finished-tells f b' t =
      let q = frame_pass p img w h choose in
      let k = judged-ok (refusal_of choose p img w h b) (found_in q) f t.answer in
      let left = t.left ∙ ap (λ (k : ℕ). left_by_number k (finished (above img w h (levels_in p img w h)) q b) (wiped b) b) k.0 in
      let count : f.corners ≡ length q.corners = ap (λ (f : Found). f.corners) k.1 in
      record {
        number = k.0;
        count = count;
        tied = ap (λ (f : Found). f.ties) k.1;
        fits = omega (arith, count, few k.0);
        held = rw left (padded-places q.corners b.corners f.corners count);
        corners = ap (λ (z : Buffers). corners_of z.corners f.corners) left ∙ corners-padded q.corners b.corners f.corners count;
        left = left;
      }

  -- a refused one: its number
  pub refused-tells : (e : Refusal) (b' : Buffers) → FrameFound choose p img w h b (Err e) b'
      → refusal_of choose p img w h b ≡ refusal_number e
  refused-tells e b' t = sym t.number
