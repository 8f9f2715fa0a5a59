-- What a program has read when it stops, and what it may print then (RULES 12.5). Given the bytes that came, `wanted`
-- says how many more a program needs, and `output_of` what it prints.
use Rattle.std.specs.Prelude.{ℕ, zero, suc, ◌<◌, ◌≤◌, ◌≡◌, false, List, length, take, ℤ, pos, negsuc}
use Rattle.input.specs.declared.Input.{Input}
use Rattle.input.specs.Input.{is_below0}

-- by what the last read answered: the input ended though w more bytes are needed; or none are needed; or a read failed
-- though w are needed
abbrev pub Ends : ℤ → ℕ → Type 0
Ends (pos zero) w = 0 < w
Ends (pos (suc k)) w = w ≡ 0
Ends (negsuc k) w = 0 < w

-- reading ended so, and the bytes that came are the first of the buffer s
pub record Read (wanted : List ℕ → ℕ) (i : Input) (s : List ℕ) : Type 0 where
  pub fits : i.count ≤ length s
  pub ends : Ends i.answer (wanted (take i.count s))

-- no read failed, and the text is that of all the bytes that came
pub record Prints (wanted : List ℕ → ℕ) (output_of : List ℕ → List ℕ) (i : Input) (s text : List ℕ) : Type 0 where
  pub read : Read wanted i s
  pub sound : is_below0 i.answer ≡ false
  pub whole : text ≡ output_of (take i.count s)
