-- What peak finding added, each corner then replaced by a function of it: the same answer, and the list of those. Assumes nothing.
use Prim.Native.Nat.{ℕ, ◌+◌, ◌≤◌}
use mathlib.Core.Path.{◌≡◌, sym, ap, subst, ◌∙◌}
use mathlib.Core.Bool.{Bool}
use mathlib.Core.List.{List, map}
use lib.ListN.{length, length-map}
use Rattle.std.specs.Prelude.{Result, Ok, Err}
use Rattle.lists.specs.declared.refusal.Refusal.{Refusal}
use Rattle.lists.specs.Refusals.{lowest, result_or}
use Rattle.lists.proofs.Judged.{judged-ok, refused-stays}
use Rattle.corner_list.specs.declared.Corner.{Corner}
use Rattle.corner_list.specs.CornerList.{Slices, places_of, placed_corners}
use Rattle.detect.specs.declared.Peaks.{Peaks}
use Rattle.detect.specs.Detect.{refusal_of, PeaksAdded}
use Rattle.detect.proofs.Answers.{Clear, Fitted, found-by, unrefused, added-tells}
use Rattle.patch_corners.specs.Internal.{Changed}
use Rattle.patch_corners.proofs.Changing.{changed-fits, changed-placed}

module _ (f : Corner → Corner) (conds : List (Bool × ℕ)) (cs : List Corner) (ties held : ℕ) (b : Slices)
    (answer : Result Peaks Refusal) (b' : Slices) (found : PeaksAdded conds cs ties held b answer b') where
  found_map : (b'' : Slices) → b'' ≡ result_or (refusal_of conds (places_of b) held (length cs)) (placed_corners held (map f cs) b) b
      → PeaksAdded conds (map f cs) ties held b answer b''
  found_map b'' e =
      let n = length-map cs f in
      found-by conds (map f cs) ties held b (refusal_of conds (places_of b) held (length cs)) (ap (refusal_of conds (places_of b) held) n)
      answer b'' (rw n found.answer) found.number e

  -- refused: the buffer is as it was, whatever the list
  pub found-not : (e : Refusal) → answer ≡ Err e → PeaksAdded conds (map f cs) ties held b answer b'
  found-not e p =
      let r = refusal_of conds (places_of b) held (length cs) in
      let same = sym p ∙ found.answer in
      found_map b' (found.buffer ∙ refused-stays r _ e _ b same ∙ sym (refused-stays r _ e _ b same))

  -- added, and replaced in their places
  module _ (clear : lowest conds ≡ 0 → Clear conds) (peaks : Peaks) (p : answer ≡ Ok peaks) where
    fitted : Fitted cs ties held b peaks.count peaks.ties b'
    fitted =
        added-tells conds (clear (unrefused conds cs ties held b peaks b'
        (subst (λ (r : Result Peaks Refusal). PeaksAdded conds cs ties held b r b') p found))) cs ties
        held b answer b' found peaks p

    pub found-fits : held + peaks.count ≤ places_of b'
    found-fits = changed-fits f cs held b b' peaks.count fitted.count fitted.fits fitted.buffer

    pub found-changed : (b'' : Slices) → Changed f held peaks.count b' b'' → PeaksAdded conds (map f cs) ties held b (Ok peaks) b''
    found-changed b'' c =
        subst (λ (r : Result Peaks Refusal). PeaksAdded conds (map f cs) ties held b r b'') p
        (found_map b''
        (changed-placed f cs held b b' peaks.count fitted.count fitted.fits fitted.buffer b'' c
        ∙ ap (λ (r : ℕ). result_or r (placed_corners held (map f cs) b) b)
        (sym (judged-ok (refusal_of conds (places_of b) held (length cs)) _ peaks (sym p ∙ found.answer)).0)))
