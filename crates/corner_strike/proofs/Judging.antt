-- What a list is of which a corner is shown or struck, and what a call answers and leaves. Assumes nothing.
use Prim.Native.Nat.{ℕ, ◌<◌, ◌≤◌}
use native.Mathlib.Omega.{arith}
use mathlib.Core.Path.{◌≡◌, sym}
use lib.Dec.{eqb}
use borrow.Author.Tests.{ltb-false, leb-false, eqb-true, eqb-false, not-false}
use Rattle.std.specs.Prelude.{Result, Ok, Err}
use Rattle.lists.specs.declared.refusal.Refusal.{Refusal}
use Rattle.lists.specs.Refusals.{judged, verdict, result_or}
use Rattle.lists.proofs.Judged.{number-judged, values-judged, judged-ok, judged-err, refused-stays}
use Rattle.lists.proofs.Refusals.{all-clear}
use Rattle.corner_list.specs.declared.Corner.{Corner}
use Rattle.corner_list.specs.CornerList.{Slices, places_of, corner_at, without_corner}
use Rattle.corner_strike.specs.declared.showing.Shown.{Shown}
use Rattle.corner_strike.specs.declared.striking.Strike.{Strike}
use Rattle.corner_strike.specs.Editions.{largest_change, Edition, raised}
use Rattle.corner_strike.specs.Showing as showing
use Rattle.corner_strike.specs.Striking as striking

-- ---- a corner that can be shown
pub record Showable (places : ℕ) (e : Edition) (place : ℕ) : Type 0 where
  pub fits : e.count ≤ places
  pub inside : place < e.count

pub showable : (places : ℕ) (e : Edition) (place : ℕ) → showing.refusal_of places e.count place ≡ 0 → Showable places e place
unfolding showing.refusal_of
showable places e place n =
    let c = all-clear (showing.conditions places e.count place) (omega arith, (omega arith, tt)) n in
    record { fits = ltb-false places e.count c.0; inside = leb-false e.count place c.1.0 }

-- ---- a corner that can be struck
pub record Strikable (places : ℕ) (e : Edition) (place change : ℕ) : Type 0 where
  pub fits : e.count ≤ places
  pub same : change ≡ e.change
  pub inside : place < e.count
  pub not-largest : e.change ≡ largest_change → ⊥

pub strikable : (places : ℕ) (e : Edition) (place change : ℕ) → striking.refusal_of places e place change ≡ 0
    → Strikable places e place change
unfolding striking.refusal_of
strikable places e place change n =
    let c = all-clear (striking.conditions places e place change) (omega arith, (omega arith, (omega arith, (omega arith, tt)))) n in
    record {
      fits = ltb-false places e.count c.0;
      same = eqb-true change e.change (not-false (eqb change e.change) c.1.0);
      inside = leb-false e.count place c.1.1.0;
      not-largest = eqb-false e.change largest_change c.1.1.1.0;
    }

-- ---- what a call answers and leaves, whose buffer has so many places
module _ (b : Slices) (e : Edition) (place places : ℕ) (l : places ≡ places_of b) where
  shows-by : (r : Result Shown Refusal) → r ≡ judged (showing.refusal_of places e.count place) (showing.shown_of b e place)
      → showing.Shows b e place r
  unfolding showing.refusal_of
  shows-by r p =
      let a = rw l at p in
      record { answer = a; number = number-judged _ _ a (grind arith); values = values-judged _ _ _ a }

  pub show-refused : (f : Refusal) → Err f ≡ verdict (showing.refusal_of places e.count place) → showing.Shows b e place (Err f)
  show-refused f p = shows-by _ (judged-err _ _ _ f p)

  pub show-found : (c : Corner) → Ok tt ≡ verdict (showing.refusal_of places e.count place) → c ≡ corner_at b place
      → showing.Shows b e place (Ok (record { corner = c; change = e.change }))
  show-found c p is = shows-by _ (rw ((judged-ok _ _ _ p).0, is))

  module _ (change : ℕ) where
    abbrev number : ℕ
    number = striking.refusal_of places e place change

    strikes-by : (r : Result Strike Refusal) (b' : Slices) (e' : Edition) → r ≡ judged number (striking.struck_by e)
        → b' ≡ result_or number (without_corner place e.count b) b → e' ≡ result_or number (raised e) e
        → striking.Strikes b e place change r b' e'
    unfolding striking.refusal_of
    strikes-by r b' e' p q t =
        let a = rw l at p in
        record {
          answer = a;
          number = number-judged _ _ a (grind arith);
          values = values-judged _ _ _ a;
          buffer = rw l at q;
          edition = rw l at t;
        }

    pub strike-granted : Ok tt ≡ verdict number → Strikable (places_of b) e place change
    strike-granted p = strikable (places_of b) e place change (rw l at (judged-ok _ _ _ p).0)

    pub strike-refused : (f : Refusal) → Err f ≡ verdict number → striking.Strikes b e place change (Err f) b e
    strike-refused f p =
        strikes-by _ _ _ (judged-err _ _ _ f p) (sym (refused-stays _ _ f _ _ p)) (sym (refused-stays _ _ f _ _ p))

    pub strike-struck : (b' : Slices) → Ok tt ≡ verdict number → b' ≡ without_corner place e.count b
        → striking.Strikes b e place change (Ok (striking.struck_by e)) b' (raised e)
    strike-struck b' p is = let z = (judged-ok _ _ _ p).0 in strikes-by _ _ _ (rw z) (rw z is) (rw z)
