-- What operators and functions take of a sequence that is handed to them.
use Rattle.std.specs.Prelude.{◌≡◌, ℕ, ℤ, List, [], ◌∷◌, Option, Some, None, Result, Ok, Err, IsOk}
use Rattle.item_tree.specs.declared.code.Code.{Code}
use Rattle.item_tree.specs.declared.code.Code.TheVariants.{XPTY0004, JNTY0004}
use Rattle.item_tree.specs.declared.fault.OpFault.{OpFault}
use Rattle.item_tree.specs.declared.fault.OpFault.TheVariants.{Raised, NoMemory}
use Rattle.item_tree.specs.Datum.{Datum, integer, decimal, text, array, object}
use Rattle.num_fixed.specs.declared.number.Number.{Number}
use Rattle.num_fixed.specs.declared.number.Number.TheVariants.{Int, Dec}

-- what becomes of a value; an error stays
abbrev pub and_then : {A B : Type 0} → Result A Code → (A → Result B Code) → Result B Code
and_then (Ok x) f = f x
and_then (Err e) f = Err e

abbrev pub atomic : Datum → Result Datum Code
atomic (array vs) = Err JNTY0004
atomic (object ms) = Err JNTY0004
atomic v = Ok v

-- a sequence of one atomic
abbrev pub one_atomic : List Datum → Result Datum Code
one_atomic [] = Err XPTY0004
one_atomic (v ∷ []) = atomic v
one_atomic (v ∷ w ∷ vs) = Err XPTY0004

-- an empty sequence, or one atomic
abbrev pub optional_atomic : List Datum → Result (Option Datum) Code
optional_atomic [] = Ok None
optional_atomic (v ∷ vs) = and_then (one_atomic (v ∷ vs)) (λ x. Ok (Some x))

abbrev pub number : Datum → Result Number Code
number (integer n) = Ok (Int n)
number (decimal m) = Ok (Dec m)
number (array vs) = Err JNTY0004
number (object ms) = Err JNTY0004
number _ = Err XPTY0004

-- a sequence of one number
abbrev pub one_number : List Datum → Result Number Code
one_number [] = Err XPTY0004
one_number (v ∷ []) = number v
one_number (v ∷ w ∷ vs) = Err XPTY0004

-- an empty sequence, or one number
abbrev pub optional_number : List Datum → Result (Option Number) Code
optional_number [] = Ok None
optional_number (v ∷ vs) = and_then (one_number (v ∷ vs)) (λ x. Ok (Some x))

abbrev pub integer_of : Datum → Result ℤ Code
integer_of (integer n) = Ok n
integer_of (array vs) = Err JNTY0004
integer_of (object ms) = Err JNTY0004
integer_of _ = Err XPTY0004

-- a sequence of one integer
abbrev pub one_integer : List Datum → Result ℤ Code
one_integer [] = Err XPTY0004
one_integer (v ∷ []) = integer_of v
one_integer (v ∷ w ∷ vs) = Err XPTY0004

abbrev pub string_of : Datum → Result (List ℕ) Code
string_of (text t) = Ok t
string_of (array vs) = Err JNTY0004
string_of (object ms) = Err JNTY0004
string_of _ = Err XPTY0004

-- a sequence of one string; an empty one is taken as the empty string
abbrev pub optional_string : List Datum → Result (List ℕ) Code
optional_string [] = Ok []
optional_string (v ∷ []) = string_of v
optional_string (v ∷ w ∷ vs) = Err XPTY0004

-- a call that takes memory fails with the error that there is; where there is none, memory ran out
abbrev pub FailsWith : {A : Type 0} → Result A Code → OpFault → Type 0
FailsWith r (Raised e) = r ≡ Err e
FailsWith r NoMemory = IsOk r
