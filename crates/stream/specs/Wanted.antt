-- How many bytes of a stream must still arrive before the output can be decided (RULES 12.4).
use Rattle.std.specs.Prelude.{ℕ, zero, suc, ◌-◌, ◌*◌, min, cond, List, [], ◌∷◌, length, eqb}
use Rattle.stream.specs.Stream.{u16, body_length, body_of, behind, padding_fault, record_fault, records_for}

-- ---- a number of bytes: fewer do not decide it, and 0 means that it is decided

-- of a body of kind 3 of which `came` has come. Padding that is not 0 gives 7, and so does a body cut short: each byte
-- may decide
unfoldable pub wanted_pixel_body : ℕ → List ℕ → ℕ
unfolding padding_fault
wanted_pixel_body left came =
    cond (eqb (padding_fault left came) 0) (min (32 - length came) (suc (left - length came))) 0

-- of any body: the rest of it
unfoldable pub wanted_body : ℕ → ℕ → List ℕ → ℕ
unfolding body_length wanted_pixel_body
wanted_body due left came = cond (eqb due 3) (wanted_pixel_body left came) (body_length due - length came)

-- of the record at the start of s, where kind `due` is expected and `left` pixels have not come yet: its kind, or more
-- of its body. A kind that is unknown or out of order decides
unfoldable pub wanted_here : ℕ → ℕ → List ℕ → ℕ
unfolding wanted_body
wanted_here due left [] = 1
wanted_here due left (kind ∷ came) = cond (eqb kind due) (wanted_body due left came) 0

-- of the records from this one on: it is faulty or cut short, or `next` of its body and of the bytes after it counts
unfoldable pub wanted_record : ℕ → ℕ → List ℕ → (List ℕ → List ℕ → ℕ) → ℕ
unfolding wanted_here record_fault
wanted_record due left s next =
    cond (eqb (record_fault due left s) 0) (next (body_of due s) (behind due s)) (wanted_here due left s)

-- in the order of `read_pixels`, `read_parameters` and `read_frame`
unfoldable pub wanted_pixels : ℕ → ℕ → List ℕ → ℕ
unfolding wanted_record
wanted_pixels zero left s = wanted_record 4 left s (λ body rest. 0)
wanted_pixels (suc n) left s = wanted_record 3 left s (λ body rest. wanted_pixels n (left - 32) rest)

unfoldable pub wanted_parameters : List ℕ → List ℕ → ℕ
unfolding wanted_pixels
wanted_parameters sides s =
    let n = u16 sides 0 * u16 sides 2 in
    wanted_record 2 0 s (λ parameters rest. wanted_pixels (records_for n) n rest)

unfoldable pub wanted : List ℕ → ℕ
unfolding wanted_parameters
wanted s = wanted_record 1 0 s wanted_parameters
