-- Modules as plain values.
use Rattle.std.specs.Prelude.{List, Option, map}
use Rattle.query_tree.specs.declared.module.Module.{Module}
use Rattle.query_tree.specs.declared.module.Variable.{Variable}
use Rattle.query_tree.specs.declared.module.Function.{Function}
use Rattle.query_tree.specs.declared.module.Param.{Param}
use Rattle.query_tree.specs.declared.names.Placed.{Placed}
use Rattle.query_tree.specs.Plain.{Tree, tree_of}

pub record PlainVariable (V F T : Type 0) : Type 0 where
  pub variable : Placed V
  pub type : Option (Placed T)
  pub value : Tree V F T

pub record PlainFunction (V F T : Type 0) : Type 0 where
  pub function : Placed F
  pub params : List (Param V T)
  pub type : Option (Placed T)
  pub body : Tree V F T

pub record PlainModule (V F T : Type 0) : Type 0 where
  pub variables : List (PlainVariable V F T)
  pub functions : List (PlainFunction V F T)
  pub body : Tree V F T

module _ (V F T : Type 0) where
  abbrev pub variable_of : Variable V F T → PlainVariable V F T
  variable_of x = record { variable = x.variable; type = x.of; value = tree_of V F T x.value }

  abbrev pub function_of : Function V F T → PlainFunction V F T
  function_of x = record {
    function = x.function;
    params = x.params.items;
    type = x.of;
    body = tree_of V F T x.body;
  }

  abbrev pub module_of : Module V F T → PlainModule V F T
  module_of x = record {
    variables = map variable_of x.variables.items;
    functions = map function_of x.functions.items;
    body = tree_of V F T x.body;
  }
