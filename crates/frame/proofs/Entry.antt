-- The answers of a frame, each with its buffers, from what led to it. Assumes nothing.
use Prim.Native.Nat.{ℕ, zero, suc, ◌-◌, ◌<◌, ◌≤◌}
use native.Mathlib.Omega.{arith}
use mathlib.Core.Path.{◌≡◌, refl, sym, ap, ◌∙◌}
use mathlib.Core.Logic.{⊎_elim}
use mathlib.Core.Bool.{true, false}
use mathlib.Core.List.{List}
use lib.ListN.{length}
use lib.Ieee.{Float}
use borrow.Author.Tests.{le-ltb, ne_eqb}
use Rattle.std.specs.Prelude.{Result, Ok, Err}
use Rattle.lists.specs.Places.{All}
use Rattle.lists.specs.Buffer.{front, wiped_from}
use Rattle.lists.specs.declared.refusal.Refusal.{Refusal}
use Rattle.lists.specs.declared.refusal.Refusal.TheVariants.{ListTooLong}
use Rattle.lists.specs.Refusals.{lowest, judged, verdict, result_or}
use Rattle.lists.proofs.Judged.{number-judged, values-judged, judged-err, refused-some}
use Rattle.float32.specs.Float32 as float32
use Rattle.pyramid.specs.Pyramid.{above}
use Rattle.corner_list.specs.CornerList.{Slices, places_of, is_inside, corners_of}
use Rattle.corner_list.proofs.Corners.{corners-front, same-places}
use Rattle.merge.specs.Merge as merge
use Rattle.merge.specs.Table.{MergesByTable}
use Rattle.merge_refusal.proofs.Judged.{judged-none-off, judged-none-on}
use Rattle.merge.proofs.Result.{result-length, merges-done}
use Rattle.frame_params.specs.declared.FrameParams.{FrameParams}
use Rattle.patch_corners.specs.OneMap.{Choice}
use Rattle.clearing.specs.Clearing.{cleared_from}
use Rattle.frame_pass.specs.Pass.{Pass, frame_pass, levels_in, seeds_of, found_of, ties_found}
use Rattle.frame_pass.specs.Refusals.{conditions}
use Rattle.frame_pass.proofs.Refusals.{Admitted, not-ten}
use Rattle.frame.specs.declared.Found.{Found}
use Rattle.frame.specs.declared.search.Lists.{Lists}
use Rattle.frame.specs.Frame.{Buffers, buffers, too_many, refusal_of, padded_corners, finished, wiped, left_by_number, buffers_after}
use Rattle.frame.specs.Frame.{found_in, FrameFound}
use Rattle.frame.specs.Internal.{Searched}
use Rattle.frame.proofs.Adding.{same-lengths}
use Rattle.frame.proofs.Numbers.{number-before, number-ten, number-none}
use Rattle.frame.proofs.Padded.{padded-none, cleared-front, cleared-none}

-- a refusal before the pass leaves a buffer as it was
left-before : {A : Type 0} (k : ℕ) → (k ≡ 0 → ⊥) → k < 10 → (done cleared before : A) → before ≡ left_by_number k done cleared before
left-before zero z l done cleared before = absurd (z refl)
left-before (suc k) z l done cleared before = sym (rw (ne_eqb (suc k) 10 (λ (z : suc k ≡ 10). let no : ⊥ = omega arith in no)))

module _ (choose : Choice) (p : FrameParams) (img : List ℕ) (w h : ℕ) (b : Buffers) where
  abbrev pub pass : Pass
  pass = frame_pass p img w h choose

  promised : (answer : Result Found Refusal) (b' : Buffers) → answer ≡ judged (refusal_of choose p img w h b) (found_in pass)
      → b' ≡ buffers_after choose p img w h b → FrameFound choose p img w h b answer b'
  unfolding refusal_of conditions
  promised answer b' e left =
      record { answer = e; number = number-judged _ _ e (grind arith); values = values-judged _ _ _ e; left = left }

  -- refused before the pass
  pub found-refused : (e : Refusal) → Err e ≡ verdict (lowest (conditions p (length img) w h (length b.map) (length b.levels)))
      → FrameFound choose p img w h b (Err e) b
  found-refused e r =
      let k = lowest (conditions p (length img) w h (length b.map) (length b.levels)) in
      let done = finished (above img w h (levels_in p img w h)) pass b in
      let number = number-before choose p img w h b (refused-some k tt e r) in
      promised (Err e) b (judged-err k tt (found_in pass) e r ∙ ap (λ (n : ℕ). judged n (found_in pass)) (sym number))
      (left-before k (refused-some k tt e r) (not-ten p (length img) w h (length b.map) (length b.levels)) done (wiped b) b
      ∙ ap (λ (n : ℕ). left_by_number n done (wiped b) b) (sym number))

  module _ (none : lowest (conditions p (length img) w h (length b.map) (length b.levels)) ≡ 0) where
    -- a list does not fit
    pub found-short : too_many pass b ≡ true → (e : Refusal) → e ≡ ListTooLong → (b' : Buffers) → b' ≡ wiped b
        → FrameFound choose p img w h b (Err e) b'
    found-short t e long b' left =
        let number = number-ten choose p img w h b none t in
        promised (Err e) b' (ap Err long ∙ ap (λ (n : ℕ). judged n (found_in pass)) (sym number))
        (left ∙ ap (λ (n : ℕ). left_by_number n (finished (above img w h (levels_in p img w h)) pass b) (wiped b) b) (sym number))

    -- finished
    pub found-done : too_many pass b ≡ false → (q : Found) (b' : Buffers) → q ≡ found_in pass
        → b' ≡ finished (above img w h (levels_in p img w h)) pass b → FrameFound choose p img w h b (Ok q) b'
    found-done t q b' e left =
        let number = number-none choose p img w h b none t in
        promised (Ok q) b' (ap Ok e ∙ ap (λ (n : ℕ). judged n (found_in pass)) (sym number))
        (left ∙ ap (λ (n : ℕ). left_by_number n (finished (above img w h (levels_in p img w h)) pass b) (wiped b) b) (sym number))

-- ---- after the search of n levels, which answered `answer` and left s' and c'
module _ (choose : Choice) (p : FrameParams) (img : List ℕ) (w h : ℕ) (m : List Float) (levels : List ℕ) (s c : Slices) (n : ℕ)
    (counted : n ≡ levels_in p img w h) (answer : Result Lists Refusal) (s' c' : Slices)
    (found : Searched (seeds_of p img w h choose n) (found_of p img w h choose n) (ties_found p img w h choose n) s c
    answer s' c') (none : lowest (conditions p (length img) w h (length m) (length levels)) ≡ 0) (m₁ : List Float)
    (same-map : length m₁ ≡ length m) where
  seeds-are : (frame_pass p img w h choose).seeds ≡ seeds_of p img w h choose n
  unfolding frame_pass
  seeds-are = ap (seeds_of p img w h choose) (sym counted)

  found-are : (frame_pass p img w h choose).found ≡ found_of p img w h choose n
  unfolding frame_pass
  found-are = ap (found_of p img w h choose) (sym counted)

  corners-are : (frame_pass p img w h choose).corners ≡ merge.result_of p.merge_radius (found_of p img w h choose n)
  unfolding frame_pass
  corners-are = ap (λ (k : ℕ). merge.result_of p.merge_radius (found_of p img w h choose k)) (sym counted)

  ties_are : (frame_pass p img w h choose).ties ≡ ties_found p img w h choose n
  unfolding frame_pass
  ties_are = ap (ties_found p img w h choose) (sym counted)

  -- a list does not fit: every buffer is cleared
  pub entry-short : (e : Refusal) → answer ≡ Err e → (levels₁ : List ℕ) → length levels₁ ≡ length levels
      → FrameFound choose p img w h (buffers m levels s c) (Err e)
      (buffers (wiped_from 0 float32.zero m₁) (wiped_from 0 0 levels₁) (cleared_from 0 s') (cleared_from 0 c'))
  entry-short e z levels₁ same-levels =
      let q = found.short e z in
      let all : length levels - 0 ≡ length levels = omega arith in
      found-short choose p img w h (buffers m levels s c) none (rw (seeds-are, found-are) q.1) e q.0 _
      (rw (
        padded-none float32.zero m m₁ same-map,
        padded-none 0 levels levels₁ same-levels,
        cleared-none s s' found.seeds_lengths,
        cleared-none c c' found.corners_lengths,
        all,
      ))

  -- both fit
  module _ (l : Lists) (z : answer ≡ Ok l) where
    read : corners_of c' l.corners ≡ found_of p img w h choose n
    read = let q = found.both l z in rw q.5 (corners-front (found_of p img w h choose n) c l.corners q.3)

    -- merging is not refused
    pub merge-free : Admitted p (length img) w h (length m) (length levels)
        → All (λ z. is_inside z ≡ true) (frame_pass p img w h choose).found
        → merge.refusal_of p.merge_radius (places_of c') l.corners c' ≡ 0
    merge-free admitted inside =
        let same = found.corners_lengths in
        let fits : l.corners ≤ places_of c' =
        omega (arith, (found.both l z).4, same-places c' c same.xs same.ys same.strengths same.neighbours) in
        ⊎_elim (λ off. judged-none-off p.merge_radius (places_of c') l.corners c' fits off)
        (λ on. judged-none-on p.merge_radius (places_of c') l.corners c' fits on.0 on.1 (rw (read, ← found-are) inside)) admitted.radius

    module _ (free : merge.refusal_of p.merge_radius (places_of c') l.corners c' ≡ 0) (kept : Result ℕ Refusal) (c₁ : Slices)
        (m' : List Float) (done : MergesByTable p.merge_radius l.corners c' m₁ kept c₁ m') where
      pub merge-never : (e : Refusal) → kept ≡ Err e → ⊥
      merge-never e q = refused-some _ _ e (sym q ∙ done.merges.answer) free

      -- the buffers are cleared behind what they hold, and the corners merged
      pub entry-merged : (left : ℕ) → kept ≡ Ok left → (levels' : List ℕ) → levels' ≡ front (above img w h n) levels
          → FrameFound choose p img w h (buffers m levels s c) (Ok (record { corners = left; ties = l.ties }))
          (buffers m' levels' (cleared_from l.seeds s') (cleared_from left c₁))
      entry-merged left k levels' built =
          let q = found.both l z in
          let seeds = seeds_of p img w h choose n in
          let all = found_of p img w h choose n in
          let merged = merge.result_of p.merge_radius all in
          let r = merges-done p.merge_radius (places_of c') l.corners c' c₁ kept all read free done.merges in
          let count : left ≡ length merged = grind arith in
          let wiped-map : m' ≡ wiped_from 0 float32.zero m =
          done.cleared ∙ ap (λ (k : ℕ). result_or k (wiped_from 0 float32.zero m₁) m₁) free ∙ padded-none float32.zero m m₁ same-map in
          let es : cleared_from l.seeds s' ≡ padded_corners seeds s =
          ap (cleared_from l.seeds) q.2 ∙ cleared-front s s (same-lengths s) seeds l.seeds q.0 q.1 in
          let ec : cleared_from left c₁ ≡ padded_corners merged c =
          ap (cleared_from left) r.1
          ∙ cleared-front c c' found.corners_lengths merged left count (omega (arith, count, result-length p.merge_radius all, q.3, q.4)) in
          found-done choose p img w h (buffers m levels s c)
          none
          (rw (
            seeds-are,
            found-are,
            le-ltb (places_of s) (length seeds) (omega (arith, q.0, q.1)),
            le-ltb (places_of c) (length all) (omega (arith, q.3, q.4)),
          ))
          _ _
          (rw (count, q.6, corners-are, ties_are))
          (rw (wiped-map, built, es, ec, seeds-are, corners-are, ← counted))
