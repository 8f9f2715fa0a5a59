-- What `refine` promises, by the way that it goes: refused, weighed, or without a map. Assumes nothing.
use mathlib.Core.Path.{◌≡◌, refl, ap, ◌∙◌}
use mathlib.Core.Bool.{Bool, true, false, cond}
use mathlib.Core.List.{List}
use Prim.Native.Nat.{ℕ, zero, suc}
use native.Mathlib.Omega.{arith}
use lib.ListN.{length}
use lib.Ieee.{Float, binary32, div, lt}
use Rattle.lists.specs.declared.refusal.Refusal.{Refusal}
use Rattle.lists.specs.Refusals.{verdict, values_unless}
use Rattle.lists.proofs.Judged.{Known}
use Rattle.float32.specs.Float32.{zero as zero32}
use Rattle.center_of_mass.specs.declared.Sums.{Sums}
use Rattle.std.specs.Prelude.{Option, None, Some, Err}
use Rattle.center_of_mass.specs.declared.Outcome.{Outcome}
use Rattle.center_of_mass.specs.declared.Outcome.TheVariants.{Accepted, Rejected, OutOfBounds, IllConditioned, Refused}
use Rattle.center_of_mass.specs.CenterOfMass.{window_sums, refusal_of, centre_on, mean_of, weighed, outcome_of, refined, unless_refused}
use Rattle.center_of_mass.specs.CenterOfMass.{number_of}
use Rattle.center_of_mass.specs.CenterOfMass.{values_of}
use Rattle.center_of_mass.specs.Promise.{Refined}

-- ---- an outcome that is no refusal, whose number is 0
abbrev Unrefused : Outcome → Type 0
Unrefused o = (e : Refusal) → o ≡ Refused e → ⊥

number-none : (o : Outcome) → Unrefused o → number_of o ≡ 0
number-none (Accepted x y mass) u = refl
number-none (Rejected x y) u = refl
number-none (OutOfBounds x y) u = refl
number-none (IllConditioned x y) u = refl
number-none (Refused n) u = absurd (u n refl)

mean-unrefused : (x y : Float) (s : Sums) → Unrefused (mean_of x y s)
mean-unrefused x y s = go (lt zero32 s.sw)
  where
    go : (b : Bool) → Unrefused (cond b (Accepted (div binary32 s.sx s.sw) (div binary32 s.sy s.sw) s.sw)
        (IllConditioned x y))
    go true k e = let z : ◌≡◌ {A = ℕ} 0 1 = cc in omega arith
    go false k e = let z : ◌≡◌ {A = ℕ} 0 1 = cc in omega arith

weighed-unrefused : (r : ℕ) (x y : Float) (m : List Float) (w : ℕ) (a b : Option ℕ) → Unrefused (weighed r x y m w a b)
weighed-unrefused r x y m w (Some cx) (Some cy) k e = mean-unrefused x y (window_sums r m w cx cy) k e
weighed-unrefused r x y m w (Some cx) None k e = let z : ◌≡◌ {A = ℕ} 0 1 = cc in omega arith
weighed-unrefused r x y m w None b k e = let z : ◌≡◌ {A = ℕ} 0 1 = cc in omega arith

-- with a map it is none
pub outcome-unrefused : (r : ℕ) (x y : Float) (m : List Float) (w h : ℕ) → Unrefused (outcome_of r x y m w h)
unfolding outcome_of
outcome-unrefused r x y m w h k e = weighed-unrefused r x y m w (centre_on r w x) (centre_on r h y) k e

-- ---- its values
values-by : (k : ℕ) (o : Outcome) → values_of (unless_refused k o) ≡ values_unless k (values_of o)
values-by zero o = refl
values-by (suc k) o = refl

module _ (r : ℕ) (x y : Float) (has_map : Bool) (m : List Float) (w h : ℕ) where
  due-unrefused : (b : Bool) → Unrefused (cond b (outcome_of r x y m w h) (Rejected x y))
  due-unrefused true k e = outcome-unrefused r x y m w h k e
  due-unrefused false k e = let z : ◌≡◌ {A = ℕ} 0 1 = cc in omega arith

  number_is : number_of (refined r x y has_map m w h) ≡ refusal_of r x y has_map (length m) w h
  unfolding refined refusal_of
  number_is = numbered (refusal_of r x y has_map (length m) w h) _ (due-unrefused has_map) (grind arith)
    where
      numbered : (k : ℕ) (o : Outcome) → Unrefused o → Known k → number_of (unless_refused k o) ≡ k
      numbered zero o u t = number-none o u
      numbered (suc k) o u t = t

  values-are : values_of (refined r x y has_map m w h)
      ≡ values_unless (refusal_of r x y has_map (length m) w h) (values_of (cond has_map (outcome_of r x y m w h) (Rejected x y)))
  unfolding refined
  values-are = values-by (refusal_of r x y has_map (length m) w h) _

  promised : (o : Outcome) → o ≡ refined r x y has_map m w h → Refined r x y has_map m w h o
  promised o e = record { answer = e; number = ap number_of e ∙ number_is; values = ap values_of e ∙ values-are }

  -- ---- refused
  pub refused : (e : Refusal) → Err e ≡ verdict (refusal_of r x y has_map (length m) w h) → Refined r x y has_map m w h (Refused e)
  unfolding refined
  refused e p = promised (Refused e) (go (refusal_of r x y has_map (length m) w h) p)
    where
      go : (k : ℕ) → Err e ≡ verdict k → Refused e ≡ unless_refused k (cond has_map (outcome_of r x y m w h) (Rejected x y))
      go zero p = absurd (let no : ⊥ = grind arith in no)
      go (suc k) p = grind arith

  -- ---- or not
  module _ (n : refusal_of r x y has_map (length m) w h ≡ 0) where
    pub weighed-map : (o : Outcome) → has_map ≡ true → o ≡ outcome_of r x y m w h → Refined r x y has_map m w h o
    unfolding refined
    weighed-map o b q = promised o (rw (n, b) q)

    pub no-map : has_map ≡ false → Refined r x y has_map m w h (Rejected x y)
    unfolding refined
    no-map b = promised (Rejected x y) (rw (n, b))
