-- What a query that is accepted cannot miss. Where an expression is bound, all that it uses is
-- there: what the meaning says of a slot that nothing has bound, of `$$` where it stands for
-- nothing, of a declared variable or function that is not there, and of a cast to another type, is
-- never met.
use Rattle.std.specs.Prelude.{◌≡◌, ℕ, nat_lt, true, false, List, [], ◌++◌, length, slice_get, Some}
use Rattle.item_tree.specs.Datum.{Datum}
use Rattle.seq_types.specs.declared.types.SeqType.{SeqType}
use Rattle.seq_types.specs.declared.types.SeqType.TheVariants.{Of}
use Rattle.seq_types.specs.declared.types.ItemType.{ItemType}
use Rattle.seq_types.specs.declared.types.Times.{Times}
use Rattle.atom_ops.specs.Casts.{is_cast_to, cast_value}
use Rattle.query_tree.specs.declared.bound.Slot.{Slot}
use Rattle.query_tree.specs.declared.bound.Target.{Target}
use Rattle.query_tree.specs.Bound.{BoundTree, is_bound}
use Rattle.query_tree.specs.Compiled.{BoundTrees, after_params, is_compiled}
use Rattle.query_tree.specs.Modules.{PlainVariable, PlainFunction}
use Rattle.query_tree.specs.Scopes.{these, Scope, has_local, is_cast_type}
use Rattle.query_meaning.specs.Environment.{Environment, value_in}
use Rattle.query_meaning.specs.Calls.{Program}
use Rattle.query_meaning.specs.Library.{Library}
use Rattle.query_meaning.specs.Meaning.{eval}
use Rattle.query_meaning.specs.Operators.{cast_as, is_optional}
use Rattle.query_meaning.specs.Queries.{program_of, query_value}

-- ---- what a scope lets an expression use

-- All that may be used in a scope is the same: the slots that are bound, the declared variables
-- that may be read, and `$$` where it stands for an item. All else may be anything.
pub record SameInScope (s : Scope) (env other : Environment) : Type 0 where
  pub width : length env.frame ≡ length other.frame
  pub locals : (n : ℕ) → has_local s.locals n ≡ true
      → value_in env.frame n ≡ value_in other.frame n
  pub globals : (n : ℕ) → nat_lt n s.globals ≡ true
      → value_in env.globals n ≡ value_in other.globals n
  pub item : s.item ≡ true → env.item ≡ other.item

-- the scope of the body of a function that may be called in a scope
abbrev pub called_from : Scope → Scope
called_from s =
    record { locals = these []; globals = s.globals; functions = s.functions; item = false }

-- A declared function that may be called in a scope is in both programs, and its body is bound.
pub record IsCallable (s : Scope) (program other : Program) (n : ℕ) : Type 0 where
  pub function : PlainFunction Slot Target SeqType
  pub here : slice_get program.functions n ≡ Some function
  pub there : slice_get other.functions n ≡ Some function
  pub body : is_bound (after_params (called_from s) function.params) function.body ≡ true

-- All functions that may be called in a scope are the same. Others may be anything.
pub record SameCallable (s : Scope) (program other : Program) : Type 0 where
  pub width : program.width ≡ other.width
  pub library : program.library ≡ other.library
  pub functions : (n count : ℕ) → slice_get s.functions n ≡ Some count
      → IsCallable s program other n

-- ---- the laws

-- An expression that is bound in a scope comes to the same wherever all that may be used there is
-- the same.
abbrev pub BoundNeedsItsScope : Type 0
BoundNeedsItsScope = (program other : Program) (depth : ℕ) (s : Scope) (t : BoundTree)
    (env beside : Environment)
    → is_bound s t ≡ true → SameCallable s program other → SameInScope s env beside
    → eval program depth t env ≡ eval other depth t beside

-- the same query with more functions behind its own
abbrev pub with_functions : List (PlainFunction Slot Target SeqType) → BoundTrees → BoundTrees
with_functions more m = record m { functions = m.functions ++ more }

-- Of a query that is accepted, over frames of any width.
pub record AcceptedNeedsNothingElse (m : BoundTrees) : Type 0 where
  -- its body needs its declared variables and functions, and nothing in its frame, no item and no
  -- other variables or functions
  pub body : (width depth : ℕ) (library : Library)
      (more : List (PlainFunction Slot Target SeqType)) (env other : Environment)
      → length env.frame ≡ length other.frame
      → ((n : ℕ) → nat_lt n (length m.variables) ≡ true
      → value_in env.globals n ≡ value_in other.globals n)
      → eval (program_of width m library) depth m.body env
      ≡ eval (program_of width (with_functions more m) library) depth m.body other
  -- the value of a declared variable needs the variables before it, and no function
  pub variable : (program beside : Program) (depth i : ℕ)
      (x : PlainVariable Slot Target SeqType) (env other : Environment)
      → slice_get m.variables i ≡ Some x
      → program.width ≡ beside.width → program.library ≡ beside.library
      → length env.frame ≡ length other.frame
      → ((n : ℕ) → nat_lt n i ≡ true → value_in env.globals n ≡ value_in other.globals n)
      → eval program depth x.value env ≡ eval beside depth x.value other
  -- and so the query needs no other functions
  pub query : (width : ℕ) (library : Library) (more : List (PlainFunction Slot Target SeqType))
      → query_value width m library ≡ query_value width (with_functions more m) library

-- A cast that is accepted is one to a type that a cast may have.
abbrev pub CastsAreCasts : Type 0
CastsAreCasts = (t : SeqType) → is_cast_type t ≡ true
    → (item : ItemType) × (times : Times) × (t ≡ Of item times) × (is_cast_to item ≡ true)
    × ((value : List Datum) → cast_as t value ≡ cast_value item (is_optional times) value)

pub record AcceptedMeetsNoFiller : Type 0 where
  pub expressions : BoundNeedsItsScope
  pub queries : (width : ℕ) (m : BoundTrees) → is_compiled width m ≡ true
      → AcceptedNeedsNothingElse m
  pub casts : CastsAreCasts
