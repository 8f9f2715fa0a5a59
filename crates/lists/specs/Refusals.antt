-- Numbered conditions of refusal, the lowest first (RULES 2.3), an answer's values by its number, and the two
-- conditions on every image and every map.
use Rattle.std.specs.Prelude.{ℕ, zero, suc, ◌*◌, Bool, cond, not, ◌||◌, List, [], ◌∷◌, ltb, eqb, pred, get_or}
use Rattle.std.specs.Prelude.{Result, Ok, Err}
use Rattle.lists.specs.Limits.{largest_side}
use Rattle.lists.specs.declared.refusal.Refusal.{Refusal}
use Rattle.lists.specs.declared.refusal.Refusal.TheVariants.{SideTooLarge, WrongLength, OutOfRange, PositionOutside}
use Rattle.lists.specs.declared.refusal.Refusal.TheVariants.{RadiusOutside, UnknownKind, CutShort, MapTooShort}
use Rattle.lists.specs.declared.refusal.Refusal.TheVariants.{LevelsTooShort, ListTooLong, OutOfOrder, HeaderUnread}
use Rattle.lists.specs.declared.refusal.Refusal.TheVariants.{WrongMaxval, PlaceOutside, LowAboveHigh, ListChanged}
use Rattle.lists.specs.declared.refusal.Refusal.TheVariants.{BeyondList, LastChange, StreamTooLong, TooLate}

-- ---- RULES 2.2: the number of a refusal, and the refusal with a number; only these numbers occur
abbrev pub refusal_number : Refusal → ℕ
refusal_number SideTooLarge = 1
refusal_number WrongLength = 2
refusal_number OutOfRange = 3
refusal_number PositionOutside = 4
refusal_number RadiusOutside = 5
refusal_number UnknownKind = 6
refusal_number CutShort = 7
refusal_number MapTooShort = 8
refusal_number LevelsTooShort = 9
refusal_number ListTooLong = 10
refusal_number OutOfOrder = 11
refusal_number HeaderUnread = 12
refusal_number WrongMaxval = 13
refusal_number PlaceOutside = 14
refusal_number LowAboveHigh = 15
refusal_number ListChanged = 16
refusal_number BeyondList = 17
refusal_number LastChange = 18
refusal_number StreamTooLong = 19
refusal_number TooLate = 20

-- the refusals by rising number
abbrev pub refusals : List Refusal
refusals =
    SideTooLarge
    ∷ WrongLength
    ∷ OutOfRange
    ∷ PositionOutside
    ∷ RadiusOutside
    ∷ UnknownKind
    ∷ CutShort
    ∷ MapTooShort
    ∷ LevelsTooShort
    ∷ ListTooLong
    ∷ OutOfOrder
    ∷ HeaderUnread
    ∷ WrongMaxval
    ∷ PlaceOutside
    ∷ LowAboveHigh
    ∷ ListChanged
    ∷ BeyondList
    ∷ LastChange
    ∷ StreamTooLong
    ∷ TooLate
    ∷ []

abbrev pub refusal_with : ℕ → Refusal
refusal_with number = get_or refusals (pred number) TooLate

-- the number of an answer, 0 if it is not refused
abbrev pub number_of : {A : Type 0} → Result A Refusal → ℕ
number_of (Ok due) = 0
number_of (Err e) = refusal_number e

-- the values of an answer: none if it is refused
abbrev pub values_by : {A B : Type 0} → (A → List B) → Result A Refusal → List B
values_by values (Ok due) = values due
values_by values (Err e) = []

-- the answer with a number: what is due if it is 0, otherwise the refusal
abbrev pub judged : {A : Type 0} → ℕ → A → Result A Refusal
judged zero due = Ok due
judged (suc number) due = Err (refusal_with (suc number))

-- the answer of a check with a number
abbrev pub verdict : ℕ → Result (Unit {0}) Refusal
verdict number = judged number tt

-- the number of the first condition that holds, or 0 if none does: conditions are listed by rising number
abbrev pub lowest : List (Bool × ℕ) → ℕ
lowest [] = 0
lowest (c ∷ cs) = cond c.0 c.1 (lowest cs)

-- the values of an answer with this number: none if it is a refusal
abbrev pub values_unless : {A : Type 0} → ℕ → List A → List A
values_unless zero values = values
values_unless (suc number) values = []

-- the result if the number is 0, otherwise the refusal
abbrev pub unless : {A : Type 0} → (ℕ → A) → ℕ → A → A
unless refused zero due = due
unless refused (suc number) due = refused (suc number)

-- a buffer or a result variable after a call with this number: the result if it is 0; what was there before if it is a
-- refusal
abbrev pub result_or : {A : Type 0} → ℕ → A → A → A
result_or zero result before = result
result_or (suc number) result before = before

-- 1: a side is above the largest (RULES 2.2)
abbrev pub is_large : ℕ → ℕ → Bool
is_large w h = ltb largest_side w || ltb largest_side h

-- 2: the length of an image or a map is not width × height (RULES 2.2)
abbrev pub is_misfit : ℕ → ℕ → ℕ → Bool
is_misfit size w h = not (eqb size (w * h))
