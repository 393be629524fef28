-- The number of each class.
use Rattle.std.specs.Prelude.{◌≡◌, ℕ, ◌<◌, map, Result, MatchResult}
use Rattle.std.specs.List.{range_with_len}
use Rattle.rules.specs.declared.class.Class.{Class}
use Rattle.rules.specs.declared.class.Class.TheVariants.{Nop, Const, Mov, Bin, Load, Store, Jump, Bnz, Goto, Call, Ret, Out, Raise, Halt}
use Rattle.rules.specs.declared.class.TheConstants.Class.{ALL}
use Rattle.rules.specs.declared.class.UnknownClass.{UnknownClass}

abbrev pub class_number : Class → ℕ
class_number Nop = 0
class_number Const = 1
class_number Mov = 2
class_number Bin = 3
class_number Load = 4
class_number Store = 5
class_number Jump = 6
class_number Bnz = 7
class_number Goto = 8
class_number Call = 9
class_number Ret = 10
class_number Out = 11
class_number Raise = 12
class_number Halt = 13

-- the class that has a number, or an error where none has
abbrev pub HasNumber : ℕ → Result Class UnknownClass → Type 0
HasNumber number r = MatchResult r (λ class. class_number class ≡ number) (λ e. (e.0 ≡ number) × (13 < number))

-- The list of all classes has each of them, in the place of its number.
abbrev pub AllInTurn : Type 0
AllInTurn = map class_number ALL ≡ range_with_len 0 14
