-- Laws of what an expression looks for: the meaning of an expression, of clauses and of a query is
-- the same wherever all that they look for is the same.
use Rattle.std.specs.Prelude.{◌≡◌, ℕ, true, false, List, None}
use Rattle.std.specs.List.{All, AllZip}
use Rattle.outside.specs.World.{World}
use Rattle.seq_types.specs.declared.types.SeqType.{SeqType}
use Rattle.query_tree.specs.declared.bound.Slot.{Slot}
use Rattle.query_tree.specs.declared.bound.Target.{Target}
use Rattle.query_tree.specs.Bound.{BoundTree}
use Rattle.query_tree.specs.Compiled.{BoundTrees}
use Rattle.query_tree.specs.Inputs.{input_names}
use Rattle.query_tree.specs.Plain.{PlainClauses, tree_node, flwor_form}
use Rattle.query_meaning.specs.Library.{Library, held}
use Rattle.query_meaning.specs.Environment.{Tuple, Environment, in_tuple}
use Rattle.query_meaning.specs.Calls.{Program}
use Rattle.query_meaning.specs.Flwors.{flwor_from}
use Rattle.query_meaning.specs.Meaning.{eval}
use Rattle.query_meaning.specs.Sources.{FindsTheSame}
use Rattle.query_meaning.specs.Queries.{program_of, globals_value, query_value}
use Rattle.query_meaning.specs.Pieces.{taken_in}
use Rattle.query_meaning.specs.inside.Computed.{read_of, inputs_of}
use Rattle.mode_planner.specs.Laws.{is_among}
use Rattle.meaning_laws.specs.Agreement.{ReadsTheSame, names_called, names_in_bodies, AgreeOn, SameFunctions, CallsTheSame, calls_declared, only}

-- ---- expressions

-- What an expression comes to depends on what it reads in its environment and on what its calls
-- find in the program, and on nothing else there: on the inputs that calls of `json-lines` name,
-- and where it calls a declared function, on all functions and on the inputs that their bodies
-- name.
abbrev pub EvalFindsCalls : Type 0
EvalFindsCalls = (program beside : Program) (depth : ℕ) (t : BoundTree) (env other : Environment)
    → CallsTheSame t program beside → ReadsTheSame t env other
    → eval program depth t env ≡ eval beside depth t other

-- So it is the same over two libraries that agree on all names that stand in a call of the tree, or
-- of the body of a function.
abbrev pub EvalReadsNames : Type 0
EvalReadsNames = (program beside : Program) (depth : ℕ) (t : BoundTree) (env other : Environment)
    → SameFunctions program beside
    → AgreeOn (names_called t) program.library beside.library → ReadsTheSame t env other
    → eval program depth t env ≡ eval beside depth t other

-- An expression that calls no declared function needs no functions, and of a library only the names
-- in its own calls.
pub record LeavesReadNames : Type 0 where
  pub agreed : (program beside : Program) (depth : ℕ) (t : BoundTree) (env other : Environment)
      → calls_declared t ≡ false
      → AgreeOn (names_called t) program.library beside.library → ReadsTheSame t env other
      → eval program depth t env ≡ eval beside depth t other
  -- all other names may be missing
  pub alone : (program : Program) (depth : ℕ) (t : BoundTree) (env : Environment)
      → calls_declared t ≡ false
      → eval program depth t env
      ≡ eval (record program { library = only (names_called t) program.library }) depth t env

-- ---- clauses

-- What the clauses of a FLWOR come to, from any one on, and the tuples that each of them takes in,
-- are the same in two programs in which the calls in these clauses and in `return` find the same.
pub record FlworsFindCalls : Type 0 where
  pub items : (program beside : Program) (depth number place at : ℕ) (stream : List Slot)
      (clauses : PlainClauses Slot Target SeqType) (result : BoundTree) (env : Environment)
      (tuples : List Tuple)
      → CallsTheSame (tree_node place (flwor_form clauses at result)) program beside
      → flwor_from (eval program depth) number stream clauses result env tuples
      ≡ flwor_from (eval beside depth) number stream clauses result env tuples
  -- and so where environments and tuples differ, but not in what these clauses and `return` read
  pub reads : (program beside : Program) (depth number place at : ℕ) (stream : List Slot)
      (clauses : PlainClauses Slot Target SeqType) (result : BoundTree) (env other : Environment)
      (tuples others : List Tuple)
      → CallsTheSame (tree_node place (flwor_form clauses at result)) program beside
      → ReadsTheSame (tree_node place (flwor_form clauses at result)) env other
      → AllZip (λ t u. ReadsTheSame (tree_node place (flwor_form clauses at result))
      (in_tuple env t) (in_tuple other u)) tuples others
      → flwor_from (eval program depth) number stream clauses result env tuples
      ≡ flwor_from (eval beside depth) number stream clauses result other others
  pub taken : (program beside : Program) (depth number place at : ℕ) (stream : List Slot)
      (clauses : PlainClauses Slot Target SeqType) (result : BoundTree) (env : Environment)
      (clause : ℕ) (tuples : List Tuple)
      → CallsTheSame (tree_node place (flwor_form clauses at result)) program beside
      → taken_in (eval program depth) number stream clauses env clause tuples
      ≡ taken_in (eval beside depth) number stream clauses env clause tuples

-- ---- queries

-- A query comes to the same over libraries that agree on the names of its inputs.
pub record QueriesReadNames : Type 0 where
  -- its declared variables have the same values if the calls in them alone find the same
  pub variables : (width : ℕ) (m : BoundTrees) (library other : Library)
      → All (λ x. CallsTheSame x.value (program_of width m library) (program_of width m other))
      m.variables
      → globals_value width m library ≡ globals_value width m other
  pub agreed : (width : ℕ) (m : BoundTrees) (library other : Library)
      → AgreeOn (input_names m) library other
      → query_value width m library ≡ query_value width m other
  -- all other names may be missing
  pub alone : (width : ℕ) (m : BoundTrees) (library : Library)
      → query_value width m library ≡ query_value width m (only (input_names m) library)

-- ---- when all that is looked for is the same

pub record LibrariesAgree : Type 0 where
  pub calls : (program beside : Program) (t : BoundTree)
      → (calls_declared t ≡ true → SameFunctions program beside)
      → AgreeOn (names_called t) program.library beside.library → CallsTheSame t program beside
  pub functions : (program beside : Program) → program.functions ≡ beside.functions
      → program.width ≡ beside.width
      → AgreeOn (names_in_bodies program.functions) program.library beside.library
      → SameFunctions program beside
  pub reads : (t : BoundTree) (env other : Environment) → FindsTheSame t env other
      → ReadsTheSame t env other
  pub itself : (t : BoundTree) (env : Environment) → ReadsTheSame t env env
  -- of a library from which names are missing
  pub kept : (names : List (List ℕ)) (library : Library)
      → AgreeOn names library (only names library)
  pub missing : (names : List (List ℕ)) (library : Library) (name : List ℕ)
      → is_among names name ≡ false → held (only names library) name ≡ None
  -- of what is read of a world for some names
  pub read : (world : World) (names : List (List ℕ)) (name : List ℕ)
      → is_among names name ≡ true → held (inputs_of world names) name ≡ read_of world name
  pub unread : (world : World) (names : List (List ℕ)) (name : List ℕ)
      → is_among names name ≡ false → held (inputs_of world names) name ≡ None
