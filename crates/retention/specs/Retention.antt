-- What may be deleted (RULES 32): whether an item is held at a time. Times are seconds.
use Rattle.std.specs.Prelude.{ℕ, ◌+◌, ◌/◌, ◌^◌, Bool, true, cond, not, ◌&&◌, ◌||◌, List, [], ◌∷◌, eqb, ltb, leb, Result}
use Rattle.lists.specs.declared.refusal.Refusal.{Refusal}
use Rattle.lists.specs.Refusals.{lowest, values_by}
use Rattle.retention.specs.declared.Holding.{Holding}
use Rattle.retention.specs.declared.Holding.TheVariants.{NotYet, Held, Gone}

-- 1 file, 2 photograph, 3 token (RULES 32.1)
abbrev pub known : ℕ → Bool
known kind = leb 1 kind && leb kind 3

-- a day is seconds div 86,400 (RULES 32.1)
abbrev pub day_of : ℕ → ℕ
day_of second = second / 86400

-- whether an item that was received or issued is still held (RULES 32.2): a file always; a photograph received on day d
-- on days d to d + 89; a token issued at second t from t up to, not including, t + 604,800
unfoldable pub stays : ℕ → ℕ → ℕ → Bool
stays kind start time =
    cond (eqb kind 1) true (cond (eqb kind 2) (leb (day_of time) (day_of start + 89)) (ltb time (start + 604800)))

-- before its second an item is not held yet, even a photograph on its own day (RULES 32.2)
unfoldable pub state_of : ℕ → ℕ → ℕ → Holding
state_of kind start time = cond (ltb time start) NotYet (cond (stays kind start time) Held Gone)

-- ---- refusals

-- 20: start or time is above 2^40 (RULES 32.3)
abbrev pub is_late : ℕ → Bool
is_late second = ltb (2 ^ 40) second

-- 6: the kind is unknown; then 20 (RULES 32.3)
unfoldable pub refusal_of : ℕ → ℕ → ℕ → ℕ
refusal_of kind start time = lowest ((not (known kind), 6) ∷ (is_late start || is_late time, 20) ∷ [])

-- ---- an answer's values

-- N, H or G for not yet, held, gone (RULES 32.5)
abbrev pub letter_of : Holding → ℕ
letter_of NotYet = 78
letter_of Held = 72
letter_of Gone = 71

-- the letter alone; a refusal has none
abbrev pub values_of : Result Holding Refusal → List ℕ
values_of = values_by (λ h. letter_of h ∷ [])
