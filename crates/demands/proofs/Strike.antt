-- The change number counts the strikes, so between two equal ones there was none, and the list is the one that was shown. Assumes nothing.
use Prim.Native.Nat.{ℕ, suc, ◌+◌, ◌<◌, ◌≤◌}
use native.Mathlib.Omega.{arith}
use mathlib.Core.Path.{◌≡◌, refl, sym, ap, ap₂, ◌∙◌, subst}
use mathlib.Core.List.{◌∷◌, ◌++◌}
use lib.ListN.{length, take, drop}
use lib.Seq.{length-take-le}
use Rattle.corner_list.specs.declared.Corner.{Corner}
use Rattle.corner_list.specs.CornerList.{Slices, places_of, corner_at, corners_of, without_corner}
use Rattle.corner_list.proofs.Corners.{corners-length, corners-at}
use Rattle.corner_strike.specs.declared.showing.Shown.{Shown}
use Rattle.corner_strike.specs.declared.striking.Strike.{Strike}
use Rattle.std.specs.Prelude.{Result, Ok, Err}
use Rattle.lists.specs.declared.refusal.Refusal.{Refusal}
use Rattle.lists.specs.Refusals.{number_of}
use Rattle.corner_strike.specs.Editions.{Edition}
use Rattle.corner_strike.specs.Showing.{Shows}
use Rattle.corner_strike.specs.Striking.{Strikes}
use Rattle.corner_strike.proofs.Removing.{without-split, removed-corners, removed-before, removed-later, removed-last, removed-behind}
use Rattle.corner_strike.proofs.Calls.{was-shown, StruckAs, was-struck, was-refused}
use Rattle.demands.specs.Strike.{Edited, edited_corners, StrikeCall, StrikeCalls, none, more, strikes_of, struck_in}
use Rattle.demands.specs.Strike.{RaisedByStrikesOnly, LaterMoveUp, Removed, ShownIsStruck}

-- ---- one call
module _ (s : Edited) (c : StrikeCall s) where
  told : number_of c.answer ≡ 0
      → StruckAs s.buffer s.edition c.place c.change c.answer c.after.buffer c.after.edition
  told = was-struck s.buffer s.edition c.place c.change c.answer c.after.buffer c.after.edition c.promise

  struck : number_of c.answer ≡ 0
      → (c.after.edition.change ≡ s.edition.change + 1) × (c.after.edition.count + 1 ≡ s.edition.count)
  struck z =
      let counts = ap (λ (e : Edition). e.count) (told z).edition-is in
      (ap (λ (e : Edition). e.change) (told z).edition-is, omega (arith, counts, (told z).can.inside))

  refused : (f : Refusal) → c.answer ≡ Err f → c.after ≡ s
  refused f e =
      let p = subst (λ (r : Result Strike Refusal). Strikes s.buffer s.edition c.place c.change r c.after.buffer
      c.after.edition) e c.promise in
      let same = was-refused s.buffer s.edition c.place c.change f c.after.buffer c.after.edition p in
      ap₂ (λ (b : Slices) (d : Edition). record { buffer = b; edition = d }) same.0 same.1

  -- by its answer: one strike more, or the list as it was
  counts-one : c.after.edition.change ≡ s.edition.change + strikes_of c.answer
  counts-one = go c.answer refl
    where
      go : (r : Result Strike Refusal) → c.answer ≡ r → c.after.edition.change ≡ s.edition.change + strikes_of c.answer
      go (Ok t) q = (struck (ap number_of q)).0 ∙ ap (λ (r : Result Strike Refusal). s.edition.change + strikes_of r) (sym q)
      go (Err f) q = ap (λ (t : Edited). t.edition.change) (refused f q) ∙ omega (arith, ap strikes_of q)

  unless-struck : strikes_of c.answer ≡ 0 → c.after ≡ s
  unless-struck z = go c.answer refl
    where
      go : (r : Result Strike Refusal) → c.answer ≡ r → c.after ≡ s
      go (Ok t) q = absurd (let no : ⊥ = omega (arith, z, ap strikes_of q) in no)
      go (Err f) q = refused f q

-- ---- any sequence of calls
counted : (s s' : Edited) (calls : StrikeCalls s s') → s'.edition.change ≡ s.edition.change + struck_in s s' calls
unfolding struck_in
counted s s' (none _) = omega arith
counted s s' (more _ t calls c) = omega (arith, counts-one t c, counted s t calls)

-- without a strike the list is the same
same_list : (s s' : Edited) (calls : StrikeCalls s s') → struck_in s s' calls ≡ 0 → s' ≡ s
unfolding struck_in
same_list s s' (none _) z = refl
same_list s s' (more _ t calls c) z = unless-struck t c (omega (arith, z)) ∙ same_list s t calls (omega (arith, z))

pub raised_by_strikes_only : RaisedByStrikesOnly
raised_by_strikes_only = record {
  struck = struck;
  refused = refused;
  counted = counted;
  from_0 = λ s s' calls z. omega (arith, counted s s' calls, z);
  once = λ s s' calls some c old z. omega (arith, counted s s' calls, some, old, (told s' c z).can.same);
}

-- ---- the corner that is removed
module _ (s : Edited) (c : StrikeCall s) (z : number_of c.answer ≡ 0) where
  removed : Removed (corner_at s.buffer c.place) c.place (edited_corners s) (edited_corners c.after)
  removed =
      let n = s.edition.count in
      let t = told s c z in
      let all = edited_corners s in
      let inside : c.place < length all = omega (arith, corners-length s.buffer n, t.can.inside) in
      let here = corners-at s.buffer n c.place (corner_at s.buffer 0) t.can.inside in
      record {
        first = take c.place all;
        later = drop (suc c.place) all;
        place_is = length-take-le c.place all (omega (arith, inside));
        before_is =
            without-split c.place all inside (corner_at s.buffer 0)
            ∙ ap (λ (k : Corner). take c.place all ++ (k ∷ drop (suc c.place) all)) here;
        after_is =
            ap₂ (λ (b : Slices) (e : Edition). corners_of b e.count) t.buffer-is t.edition-is
            ∙ removed-corners s.buffer n c.place t.can.inside t.can.fits;
      }

pub later_move_up : LaterMoveUp
later_move_up s c z = record {
  before = λ i h. left i ∙ removed-before s.buffer n c.place inside fits i h;
  later = λ i h l. left i ∙ removed-later s.buffer n c.place inside fits i h l;
  freed = λ i h. left i ∙ removed-last s.buffer n c.place inside fits i h;
  behind = λ i h. left i ∙ removed-behind s.buffer n c.place inside fits i h;
}
  where
    n : ℕ
    n = s.edition.count

    inside : c.place < n
    inside = (told s c z).can.inside

    fits : n ≤ places_of s.buffer
    fits = (told s c z).can.fits

    left : (i : ℕ) → corner_at c.after.buffer i ≡ corner_at (without_corner c.place n s.buffer) i
    left i = ap (λ (b : Slices). corner_at b i) (told s c z).buffer-is

pub shown_is_struck : ShownIsStruck
shown_is_struck s s' showing shown number answer calls c place change z =
    let p = subst (λ (r : Result Shown Refusal). Shows s.buffer s.edition showing.place r) answer showing.promise in
    let seen = was-shown s.buffer s.edition showing.place (record { corner = shown; change = number }) p in
    let quiet : struck_in s s' calls ≡ 0 = omega (arith, counted s s' calls, (told s' c z).can.same, change, seen.change-is) in
    let same : s' ≡ s = same_list s s' calls quiet in
    let corner : corner_at s'.buffer c.place ≡ shown =
    ap₂ (λ (t : Edited) (i : ℕ). corner_at t.buffer i) same place ∙ sym seen.corner_is in
    subst (λ (k : Corner). Removed k c.place (edited_corners s') (edited_corners c.after)) corner (removed s' c z)
