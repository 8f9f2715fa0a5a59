-- Merging by distance alone is the published one: each turn of the outer loop settles a corner among the kept ones. Assumes nothing.
use mathlib.Core.Path.{◌≡◌, refl, ap, ◌∙◌}
use mathlib.Core.Bool.{Bool, true, false, cond}
use mathlib.Core.List.{List, [], ◌∷◌, ◌++◌}
use lib.Ieee.{Float}
use Rattle.corner_list.specs.declared.Corner.{Corner}
use Rattle.merge_grid.specs.Grid.{squared, near}
use Rattle.merge_settle.specs.Settle.{stronger, settle, merged}
use Rattle.merge_naive.specs.MergeNaive.{near_by}
use Rattle.merge_naive.proofs.Naive.{naive-on}
use Rattle.published.specs.MergeRs.{close_rs, ScannedRs, scan_rs, naive_loop_rs, NaiveAsPublished}

-- `out` behind a turn
abbrev turned : Corner → ScannedRs → List Corner
turned c s = cond s.continued s.out (s.out ++ (c ∷ []))

module _ (r2 : Float) (c : Corner) where
  close-is : (o : Corner) → close_rs r2 c o ≡ near_by r2 c o
  unfolding near
  close-is o = refl

  scan-is : (out : List Corner) → turned c (scan_rs r2 c out) ≡ settle (near_by r2) out c
  unfolding scan_rs
  scan-is [] = refl
  scan-is (o ∷ behind) = rw (close-is o) (pick (near_by r2 c o) (scan_rs r2 c behind) (scan-is behind))
    where
      later : (b : Bool) (l : List Corner) → cond b (o ∷ l) (o ∷ (l ++ (c ∷ []))) ≡ o ∷ cond b l (l ++ (c ∷ []))
      later true l = refl
      later false l = refl

      pick : (b : Bool) (s : ScannedRs) → turned c s ≡ settle (near_by r2) behind c
          → turned c (cond b (record { out = stronger c o ∷ behind; continued = true })
          (record { out = o ∷ s.out; continued = s.continued }))
          ≡ cond b (stronger c o ∷ behind) (o ∷ settle (near_by r2) behind c)
      pick true s e = refl
      pick false s e = later s.continued s.out ∙ ap (λ (l : List Corner). o ∷ l) e

loop-is : (r2 : Float) (out cs : List Corner) → naive_loop_rs r2 out cs ≡ merged (near_by r2) out cs
unfolding naive_loop_rs
loop-is r2 out [] = refl
loop-is r2 out (c ∷ cs) =
    ap (λ (l : List Corner). naive_loop_rs r2 l cs) (scan-is r2 c out) ∙ loop-is r2 (settle (near_by r2) out c) cs

pub naive-as-published : NaiveAsPublished
naive-as-published radius cs on = loop-is (squared radius) [] cs ∙ naive-on radius cs on
