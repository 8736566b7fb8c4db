-- The classes of tokens, by their names in the code.
use Rattle.std.specs.Prelude.{Bool}
use Rattle.query_grammar.specs.Classes
use Rattle.query_grammar.specs.declared.word.Kind.{Kind}
use Rattle.query_grammar.specs.declared.class.Class.{Class}
use Rattle.query_grammar.specs.declared.class.Class.TheVariants as c

abbrev pub class_of : Class → Kind → Bool
class_of (c.Is k) = Classes.is k
class_of c.Name = Classes.is_name
class_of c.CallName = Classes.is_call_name
class_of c.TypeName = Classes.is_type_name
class_of c.LookupKey = Classes.is_lookup_key
class_of (c.Literal wide) = Classes.is_literal wide
class_of c.SumOp = Classes.is_sum_op
class_of c.ProductOp = Classes.is_product_op
class_of c.CompareOp = Classes.is_compare_op
class_of c.Times = Classes.is_times
class_of c.Direction = Classes.is_direction
class_of c.Extreme = Classes.is_extreme
class_of c.Quantifier = Classes.is_quantifier
class_of c.Window = Classes.is_window
class_of (c.Single wide room) = Classes.single_first wide room
class_of (c.Pair wide room) = Classes.pair_first wide room
class_of (c.Argument wide room) = Classes.argument_first wide room
class_of (c.Step wide) = Classes.step_first wide
class_of c.FirstClause = Classes.first_clause_first
class_of c.Clause = Classes.clause_first
class_of c.OrderClause = Classes.order_clause_first
class_of (c.Flwor room) = Classes.flwor_first room
