-- The pixels of a stream by their places: each is in the stream, and those of one record more stand behind those before. Assumes nothing.
use Prim.Native.Nat.{ℕ, suc, ◌+◌, ◌-◌, ◌*◌, ◌/◌, ◌<◌, ◌≤◌, min}
use native.Mathlib.Omega.{arith}
use mathlib.Core.Path.{◌≡◌, sym, ap, ap₂, ◌∙◌}
use mathlib.Core.List.{List, ◌++◌}
use lib.ListN.{length, get_or, take, drop, length-take, length-drop}
use lib.Seq.{ext_get_or, get_or-take, get_or-drop}
use Rattle.lists.specs.Tab.{tab}
use Rattle.lists.proofs.Tab.{length-tab, get_d-tab, tab-add}
use Rattle.stream.specs.Stream.{records_for}
use Rattle.stream.specs.Internal.{pixel_byte}

-- a pixel's place is in the stream
pub pixel-in : (n i long : ℕ) → i < n → 22 + 33 * records_for n ≤ long → 23 + i + i / 32 < long
pixel-in n i long h l = omega arith

-- one record fewer for what is left behind one
pub one_fewer : (left : ℕ) → 0 < left → records_for left ≡ suc (records_for (left - 32))
one_fewer left h = omega arith

-- ---- the record of kind 3 behind i others, of which `left` pixels or all 32 count
module _ (s : List ℕ) (i left : ℕ) (h : 22 + 33 * i + 33 ≤ length s) where
  pixels-in : take left (take 32 (drop 1 (drop (22 + 33 * i) s))) ≡ tab (min left 32) (λ j. pixel_byte s (32 * i + j))
  pixels-in =
      let body = drop 1 (drop (22 + 33 * i) s) in
      let new : ℕ → ℕ = λ j. pixel_byte s (32 * i + j) in
      let long : length (take left (take 32 body)) ≡ min left 32 =
      length-take left (take 32 body)
      ∙ omega (arith, length-take 32 body, length-drop 1 (drop (22 + 33 * i) s), length-drop (22 + 33 * i) s) in
      ext_get_or 0 (take left (take 32 body)) (tab (min left 32) new) (long ∙ sym (length-tab (min left 32) new))
      (λ j l.
      let k : j < min left 32 = rw long at l in
      let at : 22 + 33 * i + (1 + j) ≡ 23 + (32 * i + j) + (32 * i + j) / 32 = omega arith in
      get_or-take left (take 32 body) j 0 (omega arith)
      ∙ get_or-take 32 body j 0 (omega arith)
      ∙ get_or-drop 1 (drop (22 + 33 * i) s) j 0
      ∙ get_or-drop (22 + 33 * i) s (1 + j) 0
      ∙ ap (λ (k : ℕ). get_or s k 0) at
      ∙ sym (get_d-tab (min left 32) new j 0 k))

  pub pixels-more : (n : ℕ) → n ≡ 32 * i + left
      → tab (n - left) (pixel_byte s) ++ take left (take 32 (drop 1 (drop (22 + 33 * i) s))) ≡ tab (n - (left - 32)) (pixel_byte s)
  pixels-more n e =
      let done : n - left ≡ 32 * i = omega arith in
      let more : n - (left - 32) ≡ 32 * i + min left 32 = omega arith in
      ap₂ (λ (k : ℕ) (l : List ℕ). tab k (pixel_byte s) ++ l) done pixels-in
      ∙ sym (ap (λ (k : ℕ). tab k (pixel_byte s)) more ∙ tab-add (32 * i) (min left 32) (pixel_byte s))
