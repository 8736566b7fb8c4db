use Rattle.std.proofs.Common.{ℕ, ◌+◌, ◌*◌, ◌≤◌, length, max, drop, List}
use Rattle.query_tree.specs.declared.expr.Expr.{size-Expr}
use Rattle.query_tree.specs.declared.names.TypeName.{TypeName}
use Rattle.static_rules.proofs.Parts.{OperandsLeft, TermsLeft, FactorsLeft, TreesLeft, CasesLeft, PairsLeft, StepsLeft, CatchesLeft, TypeCasesLeft, OrderKeysLeft}
use Rattle.static_rules.proofs.Binds.{BindsLeft}
use Rattle.static_rules.proofs.ClauseLoops.{ClausesLeft}
use Rattle.static_rules.proofs.KeyLoops.{KeysLeft}
use Rattle.static_rules.proofs.+walk.Given as goal

abbrev pub decreases-exprs::expr : goal.decreases-exprs::expr
decreases-exprs::expr l = 8 * goal.size-exprs::expr l

abbrev pub decreases-exprs::kind : goal.decreases-exprs::kind
decreases-exprs::kind l = 8 * goal.size-exprs::kind l + 7

abbrev pub decreases-operators::comma : goal.decreases-operators::comma
decreases-operators::comma l = 8 * (max (goal.size-operators::comma l) (size-Expr (List ℕ) (List ℕ) TypeName l.first.now)) + 5

abbrev pub decreases-operators::or : goal.decreases-operators::or
decreases-operators::or l = 8 * (max (goal.size-operators::or l) (size-Expr (List ℕ) (List ℕ) TypeName l.first.now)) + 5

abbrev pub decreases-operators::and : goal.decreases-operators::and
decreases-operators::and l = 8 * (max (goal.size-operators::and l) (size-Expr (List ℕ) (List ℕ) TypeName l.first.now)) + 5

abbrev pub decreases-operators::concat : goal.decreases-operators::concat
decreases-operators::concat l = 8 * (max (goal.size-operators::concat l) (size-Expr (List ℕ) (List ℕ) TypeName l.first.now)) + 5

abbrev pub decreases-operators::map : goal.decreases-operators::map
decreases-operators::map l = 8 * (max (goal.size-operators::map l) (size-Expr (List ℕ) (List ℕ) TypeName l.first.now)) + 5

abbrev pub decreases-operators::sum : goal.decreases-operators::sum
decreases-operators::sum l = 8 * (max (goal.size-operators::sum l) (size-Expr (List ℕ) (List ℕ) TypeName l.first.now)) + 5

abbrev pub decreases-operators::product : goal.decreases-operators::product
decreases-operators::product l = 8 * (max (goal.size-operators::product l) (size-Expr (List ℕ) (List ℕ) TypeName l.first.now)) + 5

abbrev pub decreases-operators::compare : goal.decreases-operators::compare
decreases-operators::compare l = 8 * (max (size-Expr (List ℕ) (List ℕ) TypeName l.left.now) (size-Expr (List ℕ) (List ℕ) TypeName l.right.now)) + 5

abbrev pub decreases-operators::range : goal.decreases-operators::range
decreases-operators::range l = 8 * (max (size-Expr (List ℕ) (List ℕ) TypeName l.left.now) (size-Expr (List ℕ) (List ℕ) TypeName l.right.now)) + 5

abbrev pub decreases-operators::not : goal.decreases-operators::not
decreases-operators::not l = 8 * (size-Expr (List ℕ) (List ℕ) TypeName l.operand.now) + 5

abbrev pub decreases-operators::sign : goal.decreases-operators::sign
decreases-operators::sign l = 8 * (size-Expr (List ℕ) (List ℕ) TypeName l.operand.now) + 5

abbrev pub decreases-operators::instance : goal.decreases-operators::instance
decreases-operators::instance l = 8 * (size-Expr (List ℕ) (List ℕ) TypeName l.operand.now) + 5

abbrev pub decreases-operators::treat : goal.decreases-operators::treat
decreases-operators::treat l = 8 * (size-Expr (List ℕ) (List ℕ) TypeName l.operand.now) + 5

abbrev pub decreases-operators::castable : goal.decreases-operators::castable
decreases-operators::castable l = 8 * (size-Expr (List ℕ) (List ℕ) TypeName l.operand.now) + 5

abbrev pub decreases-operators::cast : goal.decreases-operators::cast
decreases-operators::cast l = 8 * (size-Expr (List ℕ) (List ℕ) TypeName l.operand.now) + 5

abbrev pub decreases-operators::operands : goal.decreases-operators::operands
decreases-operators::operands l = 8 * goal.size-operators::operands l + 4

abbrev pub decreases-operators::terms : goal.decreases-operators::terms
decreases-operators::terms l = 8 * goal.size-operators::terms l + 4

abbrev pub decreases-operators::factors : goal.decreases-operators::factors
decreases-operators::factors l = 8 * goal.size-operators::factors l + 4

abbrev pub decreases-operators::operand : goal.decreases-operators::operand
decreases-operators::operand l = 8 * goal.size-operators::operand l + 3

abbrev pub decreases-operators::term : goal.decreases-operators::term
decreases-operators::term l = 8 * goal.size-operators::term l + 3

abbrev pub decreases-operators::factor : goal.decreases-operators::factor
decreases-operators::factor l = 8 * goal.size-operators::factor l + 3

abbrev pub decreases-primaries::paren : goal.decreases-primaries::paren
decreases-primaries::paren l = 8 * goal.size-primaries::paren l + 5

abbrev pub decreases-primaries::merge : goal.decreases-primaries::merge
decreases-primaries::merge l = 8 * goal.size-primaries::merge l + 5

abbrev pub decreases-primaries::array : goal.decreases-primaries::array
decreases-primaries::array l = 8 * goal.size-primaries::array l + 5

abbrev pub decreases-primaries::object : goal.decreases-primaries::object
decreases-primaries::object l = 8 * goal.size-primaries::object l + 5

abbrev pub decreases-primaries::call : goal.decreases-primaries::call
decreases-primaries::call l = 8 * goal.size-primaries::call l + 5

abbrev pub decreases-primaries::content : goal.decreases-primaries::content
decreases-primaries::content l = 8 * goal.size-primaries::content l + 4

abbrev pub decreases-primaries::one : goal.decreases-primaries::one
decreases-primaries::one l = 8 * goal.size-primaries::one l + 1

abbrev pub decreases-primaries::trees : goal.decreases-primaries::trees
decreases-primaries::trees l = 8 * goal.size-primaries::trees l + 4

abbrev pub decreases-primaries::pairs : goal.decreases-primaries::pairs
decreases-primaries::pairs l = 8 * goal.size-primaries::pairs l + 4

abbrev pub decreases-primaries::pair : goal.decreases-primaries::pair
decreases-primaries::pair l = 8 * goal.size-primaries::pair l + 3

abbrev pub decreases-primaries::plain_pair : goal.decreases-primaries::plain_pair
decreases-primaries::plain_pair l = 8 * (size-Expr (List ℕ) (List ℕ) TypeName l.value.now) + 2

abbrev pub decreases-primaries::computed_pair : goal.decreases-primaries::computed_pair
decreases-primaries::computed_pair l = 8 * (max (size-Expr (List ℕ) (List ℕ) TypeName l.key.now) (size-Expr (List ℕ) (List ℕ) TypeName l.value.now)) + 2

abbrev pub decreases-steps::postfix : goal.decreases-steps::postfix
decreases-steps::postfix l = 8 * (max (goal.size-steps::postfix l) (size-Expr (List ℕ) (List ℕ) TypeName l.primary.now)) + 6

abbrev pub decreases-steps::steps : goal.decreases-steps::steps
decreases-steps::steps l = 8 * goal.size-steps::steps l + 5

abbrev pub decreases-steps::step : goal.decreases-steps::step
decreases-steps::step l = 8 * goal.size-steps::step l + 4

abbrev pub decreases-steps::member : goal.decreases-steps::member
decreases-steps::member l = 8 * (size-Expr (List ℕ) (List ℕ) TypeName l.position.now) + 2

abbrev pub decreases-steps::filter : goal.decreases-steps::filter
decreases-steps::filter l = 8 * (size-Expr (List ℕ) (List ℕ) TypeName l.test.now) + 2

abbrev pub decreases-steps::field : goal.decreases-steps::field
decreases-steps::field l = 8 * goal.size-steps::field l + 3

abbrev pub decreases-steps::lookup : goal.decreases-steps::lookup
decreases-steps::lookup l = 8 * goal.size-steps::lookup l + 2

abbrev pub decreases-steps::computed_key : goal.decreases-steps::computed_key
decreases-steps::computed_key l = 8 * (size-Expr (List ℕ) (List ℕ) TypeName l.value.now) + 1

abbrev pub decreases-choices::if_else : goal.decreases-choices::if_else
decreases-choices::if_else l = 8 * (max (max (size-Expr (List ℕ) (List ℕ) TypeName l.condition.now) (size-Expr (List ℕ) (List ℕ) TypeName l.when_true.now)) (size-Expr (List ℕ) (List ℕ) TypeName l.when_false.now)) + 5

abbrev pub decreases-choices::switch : goal.decreases-choices::switch
decreases-choices::switch l = 8 * (max (max (goal.size-choices::switch l) (size-Expr (List ℕ) (List ℕ) TypeName l.operand.now)) (size-Expr (List ℕ) (List ℕ) TypeName l.default.now)) + 7

abbrev pub decreases-choices::cases : goal.decreases-choices::cases
decreases-choices::cases l = 8 * goal.size-choices::cases l + 6

abbrev pub decreases-choices::case : goal.decreases-choices::case
decreases-choices::case l = 8 * goal.size-choices::case l + 5

abbrev pub decreases-choices::typeswitch : goal.decreases-choices::typeswitch
decreases-choices::typeswitch l = 8 * (max (max (goal.size-choices::typeswitch l) (size-Expr (List ℕ) (List ℕ) TypeName l.operand.now)) (size-Expr (List ℕ) (List ℕ) TypeName l.default.now)) + 7

abbrev pub decreases-choices::otherwise : goal.decreases-choices::otherwise
decreases-choices::otherwise l = 8 * (size-Expr (List ℕ) (List ℕ) TypeName l.default.now) + 6

abbrev pub decreases-choices::type_cases : goal.decreases-choices::type_cases
decreases-choices::type_cases l = 8 * goal.size-choices::type_cases l + 4

abbrev pub decreases-choices::type_case : goal.decreases-choices::type_case
decreases-choices::type_case l = 8 * goal.size-choices::type_case l + 3

abbrev pub decreases-choices::arm : goal.decreases-choices::arm
decreases-choices::arm l = 8 * (size-Expr (List ℕ) (List ℕ) TypeName l.value.now) + 2

abbrev pub decreases-choices::try_catch : goal.decreases-choices::try_catch
decreases-choices::try_catch l = 8 * (max (goal.size-choices::try_catch l) (size-Expr (List ℕ) (List ℕ) TypeName l.body.now)) + 7

abbrev pub decreases-choices::catches : goal.decreases-choices::catches
decreases-choices::catches l = 8 * goal.size-choices::catches l + 4

abbrev pub decreases-choices::catch : goal.decreases-choices::catch
decreases-choices::catch l = 8 * goal.size-choices::catch l + 3

abbrev pub decreases-quantifiers::quantified : goal.decreases-quantifiers::quantified
decreases-quantifiers::quantified l = 8 * (max (goal.size-quantifiers::quantified l) (size-Expr (List ℕ) (List ℕ) TypeName l.test.now)) + 7

abbrev pub decreases-quantifiers::binds : goal.decreases-quantifiers::binds
decreases-quantifiers::binds l = 8 * goal.size-quantifiers::binds l + 4

abbrev pub decreases-quantifiers::bind : goal.decreases-quantifiers::bind
decreases-quantifiers::bind l = 8 * goal.size-quantifiers::bind l + 3

abbrev pub decreases-flwor::flwor : goal.decreases-flwor::flwor
decreases-flwor::flwor l = 8 * (max (goal.size-flwor::flwor l) (size-Expr (List ℕ) (List ℕ) TypeName l.returned.now)) + 10

abbrev pub decreases-flwor::clauses : goal.decreases-flwor::clauses
decreases-flwor::clauses l = 8 * goal.size-flwor::clauses l + 9

abbrev pub decreases-flwor::clauses_from : goal.decreases-flwor::clauses_from
decreases-flwor::clauses_from l = 8 * goal.size-flwor::clauses_from l + 8

abbrev pub decreases-flwor::clause : goal.decreases-flwor::clause
decreases-flwor::clause l = 8 * goal.size-flwor::clause l + 7

abbrev pub decreases-flwor::for_each : goal.decreases-flwor::for_each
decreases-flwor::for_each l = 8 * (size-Expr (List ℕ) (List ℕ) TypeName l.source.now) + 4

abbrev pub decreases-flwor::let_be : goal.decreases-flwor::let_be
decreases-flwor::let_be l = 8 * (size-Expr (List ℕ) (List ℕ) TypeName l.value.now) + 4

abbrev pub decreases-flwor::bound : goal.decreases-flwor::bound
decreases-flwor::bound l = 8 * (size-Expr (List ℕ) (List ℕ) TypeName l.value.now) + 1

abbrev pub decreases-flwor::keep : goal.decreases-flwor::keep
decreases-flwor::keep l = 8 * (size-Expr (List ℕ) (List ℕ) TypeName l.test.now) + 4

abbrev pub decreases-flwor::group : goal.decreases-flwor::group
decreases-flwor::group l = 8 * goal.size-flwor::group l + 6

abbrev pub decreases-flwor::keys : goal.decreases-flwor::keys
decreases-flwor::keys l = 8 * goal.size-flwor::keys l + 5

abbrev pub decreases-flwor::keys_from : goal.decreases-flwor::keys_from
decreases-flwor::keys_from l = 8 * goal.size-flwor::keys_from l + 4

abbrev pub decreases-flwor::key : goal.decreases-flwor::key
decreases-flwor::key l = 8 * goal.size-flwor::key l + 3

abbrev pub decreases-flwor::valued_key : goal.decreases-flwor::valued_key
decreases-flwor::valued_key l = 8 * (size-Expr (List ℕ) (List ℕ) TypeName l.value.now) + 2

abbrev pub decreases-flwor::order : goal.decreases-flwor::order
decreases-flwor::order l = 8 * goal.size-flwor::order l + 5

abbrev pub decreases-flwor::order_keys : goal.decreases-flwor::order_keys
decreases-flwor::order_keys l = 8 * goal.size-flwor::order_keys l + 4

abbrev pub decreases-flwor::order_key : goal.decreases-flwor::order_key
decreases-flwor::order_key l = 8 * goal.size-flwor::order_key l + 3

abbrev pub invariant-operators::operands-loop-part : goal.invariant-operators::operands-loop-part
invariant-operators::operands-loop-part l = OperandsLeft l.item l.initial.walk l.parts l.walk l.out.items (drop l.part-index l.parts)

abbrev pub invariant-operators::terms-loop-part : goal.invariant-operators::terms-loop-part
invariant-operators::terms-loop-part l = TermsLeft l.item l.initial.walk l.parts l.walk l.out.items (drop l.part-index l.parts)

abbrev pub invariant-operators::factors-loop-part : goal.invariant-operators::factors-loop-part
invariant-operators::factors-loop-part l = FactorsLeft l.item l.initial.walk l.parts l.walk l.out.items (drop l.part-index l.parts)

abbrev pub invariant-primaries::trees-loop-part : goal.invariant-primaries::trees-loop-part
invariant-primaries::trees-loop-part l = TreesLeft l.item l.initial.walk l.parts l.walk l.out.items (drop l.part-index l.parts)

abbrev pub invariant-choices::cases-loop-part : goal.invariant-choices::cases-loop-part
invariant-choices::cases-loop-part l = CasesLeft l.item l.initial.walk l.parts l.walk l.out.items (drop l.part-index l.parts)

abbrev pub invariant-primaries::pairs-loop-part : goal.invariant-primaries::pairs-loop-part
invariant-primaries::pairs-loop-part l = PairsLeft l.item l.initial.walk l.parts l.walk l.out.items (drop l.part-index l.parts)

abbrev pub invariant-steps::steps-loop-part : goal.invariant-steps::steps-loop-part
invariant-steps::steps-loop-part l = StepsLeft l.item l.initial.walk l.parts l.walk l.out.items (drop l.part-index l.parts)

abbrev pub invariant-choices::catches-loop-part : goal.invariant-choices::catches-loop-part
invariant-choices::catches-loop-part l = CatchesLeft l.item l.initial.walk l.parts l.walk l.out.items (drop l.part-index l.parts)

abbrev pub invariant-choices::type_cases-loop-part : goal.invariant-choices::type_cases-loop-part
invariant-choices::type_cases-loop-part l = TypeCasesLeft l.item l.initial.walk l.parts l.walk l.out.items (drop l.part-index l.parts)

abbrev pub invariant-flwor::order_keys-loop-part : goal.invariant-flwor::order_keys-loop-part
invariant-flwor::order_keys-loop-part l = OrderKeysLeft l.item l.initial.walk l.parts l.walk l.out.items (drop l.part-index l.parts)

abbrev pub invariant-quantifiers::binds-loop-part : goal.invariant-quantifiers::binds-loop-part
invariant-quantifiers::binds-loop-part l = BindsLeft l.item l.initial.walk l.parts l.walk l.out.items (drop l.part-index l.parts)

abbrev pub invariant-flwor::clauses_from-loop-part : goal.invariant-flwor::clauses_from-loop-part
invariant-flwor::clauses_from-loop-part l = l.base ≤ length l.initial.walk.names.variables → ClausesLeft l.item l.base l.initial.walk l.parts l.walk l.out.items (drop l.part-index l.parts)

abbrev pub invariant-flwor::keys_from-loop-part : goal.invariant-flwor::keys_from-loop-part
invariant-flwor::keys_from-loop-part l = l.mark ≤ length l.initial.walk.names.variables → KeysLeft l.item l.base l.mark l.initial.walk l.parts l.walk l.out.items (drop l.part-index l.parts)
