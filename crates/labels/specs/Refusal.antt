-- The number of each refusal, its place for the one that has a place, and what is printed of it.
use Rattle.std.specs.Prelude.{ℕ, Some, None, Option, List, ◌++◌, codes, decimal}
use Rattle.labels.specs.declared.refusal.Refusal.{Refusal}
use Rattle.labels.specs.declared.refusal.Refusal.TheVariants.{ImageTooShort, UnknownVersion, WrongOrder, CountOutsideLimits, WrongImageLength, NotALabel, WrongLength, WrongState, NoEndMark, OutOfRange, WrongTableSize, WrongSlotLength}

abbrev pub refusal_number : Refusal → ℕ
refusal_number ImageTooShort = 1
refusal_number UnknownVersion = 2
refusal_number WrongOrder = 3
refusal_number CountOutsideLimits = 4
refusal_number WrongImageLength = 5
refusal_number (NotALabel place) = 6
refusal_number WrongLength = 7
refusal_number WrongState = 8
refusal_number NoEndMark = 9
refusal_number OutOfRange = 10
refusal_number WrongTableSize = 11
refusal_number WrongSlotLength = 12

abbrev pub refusal_place : Refusal → Option ℕ
refusal_place ImageTooShort = None
refusal_place UnknownVersion = None
refusal_place WrongOrder = None
refusal_place CountOutsideLimits = None
refusal_place WrongImageLength = None
refusal_place (NotALabel place) = Some place
refusal_place WrongLength = None
refusal_place WrongState = None
refusal_place NoEndMark = None
refusal_place OutOfRange = None
refusal_place WrongTableSize = None
refusal_place WrongSlotLength = None

-- a number, and behind a space the place if there is one
abbrev pub numbered : ℕ → Option ℕ → List ℕ
numbered number None = decimal number
numbered number (Some place) = decimal number ++ (codes " " ++ decimal place)

abbrev pub refusal_text : Refusal → List ℕ
refusal_text r = numbered (refusal_number r) (refusal_place r)
