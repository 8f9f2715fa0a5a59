-- What a call has told, by its answer. Assumes nothing.
use Prim.Native.Nat.{ℕ}
use mathlib.Core.Path.{◌≡◌, sym, ap, ◌∙◌}
use Rattle.std.specs.Prelude.{Result, Ok, Err}
use Rattle.lists.specs.declared.refusal.Refusal.{Refusal}
use Rattle.lists.specs.Refusals.{number_of}
use Rattle.lists.proofs.Judged.{judged-ok, refused-stays}
use Rattle.corner_list.specs.declared.Corner.{Corner}
use Rattle.corner_list.specs.CornerList.{Slices, places_of, corner_at, without_corner}
use Rattle.corner_strike.specs.declared.showing.Shown.{Shown}
use Rattle.corner_strike.specs.declared.striking.Strike.{Strike}
use Rattle.corner_strike.specs.Editions.{Edition, raised}
use Rattle.corner_strike.specs.Showing as showing
use Rattle.corner_strike.specs.Striking as striking
use Rattle.corner_strike.proofs.Judging.{Showable, showable, Strikable, strikable}

-- ---- a corner c that was shown, with a change number
pub record ShownAs (b : Slices) (e : Edition) (place : ℕ) (c : Corner) (change : ℕ) : Type 0 where
  pub can : Showable (places_of b) e place
  pub corner_is : c ≡ corner_at b place
  pub change-is : change ≡ e.change

pub was-shown : (b : Slices) (e : Edition) (place : ℕ) (s : Shown) → showing.Shows b e place (Ok s)
    → ShownAs b e place s.corner s.change
was-shown b e place s p =
    let q = judged-ok _ _ s p.answer in
    record {
      can = showable (places_of b) e place q.0;
      corner_is = ap (λ (t : Shown). t.corner) q.1;
      change-is = ap (λ (t : Shown). t.change) q.1;
    }

-- ---- a call that struck
pub record StruckAs (b : Slices) (e : Edition) (place change : ℕ) (r : Result Strike Refusal) (b' : Slices) (e' : Edition) : Type 0 where
  pub can : Strikable (places_of b) e place change
  pub answer-is : r ≡ Ok (striking.struck_by e)
  pub buffer-is : b' ≡ without_corner place e.count b
  pub edition-is : e' ≡ raised e

pub was-struck : (b : Slices) (e : Edition) (place change : ℕ) (r : Result Strike Refusal) (b' : Slices) (e' : Edition)
    → striking.Strikes b e place change r b' e' → number_of r ≡ 0 → StruckAs b e place change r b' e'
was-struck b e place change r b' e' p z =
    let n : striking.refusal_of (places_of b) e place change ≡ 0 = sym p.number ∙ z in
    record {
      can = strikable (places_of b) e place change n;
      answer-is = rw n at p.answer;
      buffer-is = rw n at p.buffer;
      edition-is = rw n at p.edition;
    }

-- ---- a call that was refused left the list as it was
pub was-refused : (b : Slices) (e : Edition) (place change : ℕ) (f : Refusal) (b' : Slices) (e' : Edition)
    → striking.Strikes b e place change (Err f) b' e' → (b' ≡ b) × (e' ≡ e)
was-refused b e place change f b' e' p =
    (p.buffer ∙ refused-stays _ _ f _ _ p.answer, p.edition ∙ refused-stays _ _ f _ _ p.answer)
