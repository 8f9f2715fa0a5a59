-- The characters from a place on, and what is past them. Assumes nothing.
use Prim.Native.Nat.{ℕ, ◌+◌, ◌<◌, ◌≤◌}
use native.Mathlib.Decide.{dec_lt}
use native.Mathlib.Numerals.{add-one}
use native.Mathlib.Omega.{arith}
use mathlib.Core.Path.{◌≡◌, refl, sym, ap, ◌∙◌}
use mathlib.Core.Bool.{Bool, true, false, ◌||◌}
use mathlib.Core.List.{List, [], ◌∷◌}
use lib.Dec.{eqb}
use lib.ListN.{length, get_or, drop, drop_of_length-le}
use lib.Seq.{drop-cons}
use borrow.Author.Tests.{ne_eqb}
use Rattle.pgm.specs.Header.{Character, in_comment, bare, begins, leading, trailing, behind_first}
use Rattle.pgm.specs.Internal.{bare_from, Plain, Reaches, CommentsSkipped}

module _ (upload : List ℕ) where
  abbrev code_at : ℕ → ℕ
  code_at at = get_or upload at 0

  -- ---- from a place on, inside a comment or not
  pub bare-end : (inside : Bool) (at : ℕ) → length upload ≤ at → bare inside at (drop at upload) ≡ []
  unfolding bare
  bare-end inside at l = ap (bare inside at) (drop_of_length-le upload l)

  module _ (at : ℕ) (some : at < length upload) where
    bare-ignored : (inside : Bool) → (inside || eqb (code_at at) 35) ≡ true
        → bare inside at (drop at upload) ≡ bare (in_comment inside (code_at at)) (at + 1) (drop (at + 1) upload)
    unfolding bare
    bare-ignored inside e = rw (add-one, drop-cons upload at 0 some, e)

    bare-first : Plain upload at → bare_from upload at ≡ record { code = code_at at; place = at } ∷ bare_from upload (at + 1)
    unfolding bare
    bare-first plain = rw (add-one, drop-cons upload at 0 some, ne_eqb (code_at at) 35 (plain some))

  -- ---- comments: what is left from `at` on, inside a comment or not, is what is left from `from` on
  pub record Skipping (from at : ℕ) (inside : Bool) : Type 0 where
    pub further : from ≤ at
    pub same : bare inside at (drop at upload) ≡ bare_from upload from

  module _ (from at : ℕ) (inside : Bool) (s : Skipping from at inside) where
    pub skipping-next : at < length upload → (inside || eqb (code_at at) 35) ≡ true → (inside' : Bool)
        → inside' ≡ in_comment inside (code_at at) → Skipping from (at + 1) inside'
    skipping-next some e inside' goes =
        record { further = omega (arith, s.further); same = rw goes (sym (bare-ignored at some inside e) ∙ s.same) }

    -- at the end, and past it
    pub skipping-ends : length upload ≤ at → (end : ℕ) → from ≤ end → length upload ≤ end → CommentsSkipped upload from end
    skipping-ends l end further m =
        record {
          further = further;
          reaches = record {
            same = bare-end false end m ∙ sym (bare-end inside at l) ∙ s.same;
            plain = λ k. absurd (let no : ⊥ = omega arith in no);
          };
        }

  -- ---- a test of the characters
  module _ (f : ℕ → Bool) where
    module _ (at : ℕ) where
      pub begins-end : length upload ≤ at → begins f (bare_from upload at) ≡ false
      begins-end l = ap (begins f) (bare-end false at l)

      pub begins-here : at < length upload → Plain upload at → begins f (bare_from upload at) ≡ f (code_at at)
      begins-here some plain = ap (begins f) (bare-first at some plain)

      -- a first one that passes is in the upload
      pub begins-inside : begins f (bare_from upload at) ≡ true → at < length upload
      begins-inside e =
          elim (dec_lt at (length upload)) [
            | yes l ↦ l
            | no g ↦ let none = begins-end (omega arith) in absurd (let z : ◌≡◌ {A = ℕ} 0 1 = cc in let no : ⊥ = omega arith in no)
          ]

      module _ (plain : Plain upload at) (e : begins f (bare_from upload at) ≡ true) where
        first-is : bare_from upload at ≡ record { code = code_at at; place = at } ∷ bare_from upload (at + 1)
        first-is = bare-first at (begins-inside e) plain

        passes : f (code_at at) ≡ true
        passes = sym (begins-here (begins-inside e) plain) ∙ e

        pub trailing-past : trailing f (bare_from upload at) ≡ trailing f (bare_from upload (at + 1))
        trailing-past = rw (first-is, passes)

        pub leading-past : leading f (bare_from upload at)
            ≡ record { code = code_at at; place = at } ∷ leading f (bare_from upload (at + 1))
        leading-past = rw (first-is, passes)

    -- what passes from `from` on is past
    pub record Passing (from at : ℕ) : Type 0 where
      pub same : trailing f (bare_from upload at) ≡ trailing f (bare_from upload from)
      pub plain : Plain upload at

    pub passing-none : (from : ℕ) → Plain upload from → Passing from from
    passing-none from plain = record { same = refl; plain = plain }

    module _ (from at : ℕ) (p : Passing from at) where
      pub passing-next : begins f (bare_from upload at) ≡ true → (next : ℕ) → CommentsSkipped upload (at + 1) next → Passing from next
      passing-next e next r =
          record {
            same = ap (trailing f) r.reaches.same ∙ sym (trailing-past at p.plain e) ∙ p.same;
            plain = r.reaches.plain;
          }

    -- the first of some characters stands where they begin
    pub first-at : (cs : List Character) (at : ℕ) → Reaches upload cs at → begins f cs ≡ true
        → (behind_first cs ≡ at + 1) × (at < length upload)
    first-at cs at r e =
        let here : begins f (bare_from upload at) ≡ true = ap (begins f) r.same ∙ e in
        (ap behind_first (sym r.same ∙ first-is at r.plain here) ∙ sym (add-one at), begins-inside at here)
