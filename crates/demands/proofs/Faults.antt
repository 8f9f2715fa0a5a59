-- The numbers of a refused stream. Assumes nothing.
use Prim.Native.Nat.{ℕ}
use mathlib.Core.Path.{◌≡◌, refl}
use mathlib.Core.Bool.{true}
use mathlib.Core.List.{List, [], ◌∷◌}
use lib.Dec.{eqb}
use Rattle.lists.specs.Places.{any}
use Rattle.stream.specs.Stream.{refused, read_frame}
use Rattle.stream.proofs.Faults.{frame-is}
use Rattle.demands.specs.Numbers.{OneOf}
use Rattle.demands.proofs.Tables.{listed, above_zero}

abbrev numbers : List ℕ
numbers = 1 ∷ 3 ∷ 5 ∷ 6 ∷ 7 ∷ 11 ∷ []

known : (n : ℕ) → any (eqb n) (0 ∷ numbers) ≡ true → OneOf n (0 ∷ numbers)
known n = listed n (0 ∷ numbers)

pub frame-few : (s : List ℕ) (n : ℕ) → read_frame s ≡ refused n → OneOf n numbers
frame-few s n e =
    let few =
    frame-is (λ k. OneOf k (0 ∷ numbers)) (known 0 refl) (known 1 refl) (known 3 refl) (known 5 refl) (known 6 refl)
    (known 7 refl) (known 11 refl) s n e in
    above_zero n numbers few.0 few.1
