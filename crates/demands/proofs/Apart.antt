-- From the laws of merge: what merging apart leaves is what the original's own merge leaves. Assumes nothing.
use Prim.Native.Nat.{ℕ}
use mathlib.Core.Path.{◌≡◌, sym, ◌∙◌}
use mathlib.Core.List.{List}
use Rattle.std.specs.Prelude.{Result, Err}
use Rattle.lists.specs.declared.refusal.Refusal.{Refusal}
use Rattle.lists.proofs.Judged.{refused-stays}
use Rattle.corner_list.specs.declared.Corner.{Corner}
use Rattle.corner_list.specs.CornerList.{Slices}
use Rattle.merge.specs.Merge.{Leaves}
use Rattle.merge.proofs.Separate.{same_answer, same_list, crowded-number, same-behind}
use Rattle.demands.specs.Apart.{ApartIsMerge}

-- if it is refused, the buffer is what it was
refused-as-it-was : (number : ℕ) (left : List Corner) (d : Slices) (r : Result ℕ Refusal) (d' : Slices) → Leaves number left d r d'
    → (e : Refusal) → r ≡ Err e → d' ≡ d
refused-as-it-was number left d r d' l e q = l.buffer ∙ refused-stays _ _ e _ _ (sym q ∙ l.answer)

pub apart_is_merge : ApartIsMerge
apart_is_merge = record {
  same_answer = λ t. same_answer t.radius t.count t.original t.separate t.answer t.separate' t.apart t.own_answer
      t.original' t.own;
  same_list = λ t. same_list t.radius t.count t.original t.separate t.answer t.separate' t.apart
      t.own_answer t.original' t.own;
  crowded = λ t. crowded-number t.radius t.count t.original t.separate t.answer t.separate' t.apart t.own_answer
      t.original' t.own;
  refused = λ t. refused-as-it-was _ _ t.separate t.answer t.separate' t.apart;
  behind = λ t. same-behind t.radius t.count t.original t.separate t.answer t.separate' t.apart;
}
