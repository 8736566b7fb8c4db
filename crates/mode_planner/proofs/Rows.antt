-- The plans of some queries, by computation. Places count from 0.
use Rattle.std.proofs.Common.{◌≡◌, ℕ, pos, Bool, true, false, Option, None, Some, List, [], ◌∷◌, map, codes, refl}
use Rattle.std.specs.List.{flat_map}
use Rattle.item_tree.specs.declared.functions.FnId.{FnId}
use Rattle.item_tree.specs.declared.functions.FnId.TheVariants.{Count, Sum, Head}
use Rattle.seq_types.specs.declared.types.SeqType.{SeqType}
use Rattle.query_tree.specs.declared.bound.Slot.{Slot}
use Rattle.query_tree.specs.declared.bound.Slot.TheVariants as slot
use Rattle.query_tree.specs.declared.bound.Target.{Target}
use Rattle.query_tree.specs.declared.bound.Target.TheVariants as target
use Rattle.query_tree.specs.declared.names.Placed.{Placed}
use Rattle.query_tree.specs.Plain as p
use Rattle.query_tree.specs.Plain.{PlainClause, PlainClauses}
use Rattle.query_tree.specs.Bound.{BoundTree}
use Rattle.mode_planner.specs.declared.plan.End.TheVariants as end
use Rattle.mode_planner.specs.declared.plan.Label.TheVariants as label
use Rattle.mode_planner.specs.declared.plan.Line.{Line}
use Rattle.mode_planner.specs.declared.plan.Mode.TheVariants.{Local, Partitioned, Gathered}
use Rattle.mode_planner.specs.declared.plan.Stage.{Stage}
use Rattle.mode_planner.specs.Clauses.{line, stage}
use Rattle.mode_planner.specs.Drivers.{DriverPlan}
use Rattle.mode_planner.specs.Plans.{LeafPlan, plan}

-- ---- trees; where a place has no part in a plan, it is 0

abbrev variable : ℕ → Placed Slot
variable place = record { place = place; name = slot.Local 0 }

abbrev one : ℕ → BoundTree
one place = p.tree_node place (p.int_form (pos 1))

abbrev names : List ℕ → List (List ℕ)
names name = name ∷ []

abbrev lines_of : ℕ → List (List ℕ) → BoundTree
lines_of place ns = p.tree_node place (p.call_form (target.Lines ns) p.no_trees)

abbrev lines : ℕ → BoundTree
lines place = lines_of place (names (codes "a"))

abbrev call : ℕ → FnId → BoundTree → BoundTree
call place id e = p.tree_node place (p.call_form (target.Built id) (p.more_trees e p.no_trees))

abbrev own : ℕ → BoundTree → BoundTree
own place e = p.tree_node place (p.call_form (target.Own 0) (p.more_trees e p.no_trees))

abbrev round : BoundTree → BoundTree
round e = p.tree_node 0 (p.paren_form (p.one_tree e))

abbrev flwor : ℕ → List (PlainClause Slot Target SeqType) → ℕ → BoundTree
flwor place cs at = p.tree_node place (p.flwor_form (p.clauses_of Slot Target SeqType cs) at (one 0))

abbrev for_in : ℕ → BoundTree → PlainClause Slot Target SeqType
for_in place e = p.for_clause (variable place) None false None e

abbrev let_one : ℕ → PlainClause Slot Target SeqType
let_one place = p.let_clause (variable place) None (one 0)

abbrev where_one : ℕ → PlainClause Slot Target SeqType
where_one place = p.where_clause place (one 0)

abbrev group : ℕ → PlainClause Slot Target SeqType
group place = p.group_clause place p.no_group_vars

abbrev order : ℕ → PlainClause Slot Target SeqType
order place = p.order_clause place false p.no_order_keys

abbrev count : ℕ → PlainClause Slot Target SeqType
count place = p.count_clause place (variable 0)

abbrev comma : BoundTree → BoundTree → BoundTree
comma a b = p.tree_node 0 (p.comma_form a (p.more_operands (p.operand_node 0 b) p.no_operands))

abbrev tried : BoundTree → BoundTree → BoundTree
tried a b = p.tree_node 0 (p.try_form a (p.more_catches (p.catch_node (variable 0) None b) p.no_catches))

-- ---- what is told of a plan

abbrev all_lines : List LeafPlan → List Line
all_lines ls = flat_map (λ l. l.lines) ls

abbrev all_stages : List LeafPlan → List Stage
all_stages ls = flat_map (λ l. l.stages) ls

abbrev drivers : List LeafPlan → List (Option DriverPlan)
drivers ls = map (λ l. l.driver) ls

abbrev over_names : ℕ → List (List ℕ) → ℕ → Bool → Option DriverPlan
over_names place ns lets position = Some (record { place = place; names = ns; lets = lets; position = position })

-- ---- 1, json-lines("a"), for $x in (1, 2) return $x

abbrev three : BoundTree
three = p.tree_node 0 (p.comma_form (one 0) (p.more_operands (p.operand_node 0 (lines 3)) (p.more_operands (p.operand_node 0 (flwor 20 (for_in 24 (round (comma (one 0) (one 0))) ∷ []) 37)) p.no_operands)))

three_lines : all_lines (plan false three) ≡ line 0 label.Expression Local ∷ line 3 label.JsonLines Partitioned ∷ line 20 label.Flwor Local ∷ []
three_lines = refl

three_stages : all_stages (plan false three) ≡ stage 0 0 end.Items ∷ []
three_stages = refl

three_local : all_lines (plan true three) ≡ line 0 label.Expression Local ∷ line 3 label.JsonLines Local ∷ line 20 label.Flwor Local ∷ []
three_local = refl

-- ---- for $o in json-lines("sales") for $i in $o.items[] let $v := .. group by $s := $o.store order by sum($v) descending return .., on six lines

abbrev sales : BoundTree
sales = flwor 0 (for_in 4 (lines 10) ∷ for_in 34 (one 40) ∷ let_one 55 ∷ group 79 ∷ order 103 ∷ []) 131

sales_lines : all_lines (plan false sales) ≡ line 4 label.For Partitioned ∷ line 34 label.For Partitioned ∷ line 55 label.Let Partitioned ∷ line 79 label.Group Gathered ∷ line 103 label.Order Gathered ∷ line 131 label.Return Partitioned ∷ []
sales_lines = refl

sales_stages : all_stages (plan false sales) ≡ stage 0 4 end.Groups ∷ stage 5 5 end.Orders ∷ stage 6 6 end.Items ∷ []
sales_stages = refl

sales_local : all_lines (plan true sales) ≡ line 4 label.For Local ∷ line 34 label.For Local ∷ line 55 label.Let Local ∷ line 79 label.Group Local ∷ line 103 label.Order Local ∷ line 131 label.Return Local ∷ []
sales_local = refl

-- ---- count(json-lines("a"))

counted_lines : all_lines (plan false (call 0 Count (lines 6))) ≡ line 0 (label.Call Count) Gathered ∷ line 6 label.JsonLines Partitioned ∷ []
counted_lines = refl

counted_stages : all_stages (plan false (call 0 Count (lines 6))) ≡ stage 0 0 (end.Part Count) ∷ []
counted_stages = refl

-- ---- for $x in json-lines("a") for $y in json-lines("b") where $x.k eq $y.k return [$x.v, $y.v]

abbrev pairs : BoundTree
pairs = flwor 0 (for_in 4 (lines 10) ∷ for_in 30 (lines_of 36 (names (codes "b"))) ∷ where_one 52 ∷ []) 71

pairs_lines : all_lines (plan false pairs) ≡ line 4 label.For Partitioned ∷ line 30 label.For Partitioned ∷ line 52 label.Where Partitioned ∷ line 71 label.Return Partitioned ∷ []
pairs_lines = refl

pairs_driver : drivers (plan false pairs) ≡ over_names 10 (names (codes "a")) 0 false ∷ []
pairs_driver = refl

-- ---- for $x allowing empty in json-lines("a") return $x

empty_allowed : all_lines (plan false (flwor 0 (p.for_clause (variable 4) None true None (lines 25) ∷ []) 41)) ≡ line 0 label.Flwor Local ∷ []
empty_allowed = refl

-- ---- let $a := 1 let $b := 2 for $x at $i in json-lines("a", "b") count $c return $x

abbrev two_names : List (List ℕ)
two_names = codes "a" ∷ codes "b" ∷ []

abbrev leading : BoundTree
leading = flwor 0 (let_one 4 ∷ let_one 16 ∷ p.for_clause (variable 28) None false (Some (variable 34)) (lines_of 40 two_names) ∷ count 61 ∷ []) 70

leading_lines : all_lines (plan false leading) ≡ line 4 label.Let Local ∷ line 16 label.Let Local ∷ line 28 label.For Partitioned ∷ line 61 label.Count Gathered ∷ line 70 label.Return Partitioned ∷ []
leading_lines = refl

leading_driver : drivers (plan false leading) ≡ over_names 40 two_names 2 true ∷ []
leading_driver = refl

leading_stages : all_stages (plan false leading) ≡ stage 2 4 end.Numbers ∷ stage 5 5 end.Items ∷ []
leading_stages = refl

-- ---- declare function f() { for $x in json-lines("a") return $x }; f(): the body alone is planned

called : all_lines (plan false (own 62 (lines 64))) ≡ line 62 label.Expression Local ∷ []
called = refl

-- ---- try { json-lines("a") } catch * { json-lines("b") }, (json-lines("c")): no handler is a leaf

abbrev caught : BoundTree
caught = comma (tried (lines 6) (lines_of 34 (names (codes "b")))) (round (lines_of 54 (names (codes "c"))))

caught_lines : all_lines (plan false caught) ≡ line 6 label.JsonLines Partitioned ∷ line 54 label.JsonLines Partitioned ∷ []
caught_lines = refl

caught_drivers : drivers (plan false caught) ≡ over_names 6 (names (codes "a")) 0 false ∷ over_names 54 (names (codes "c")) 0 false ∷ []
caught_drivers = refl

-- ---- count(for $x in json-lines("a") where $x return $x)

abbrev some_counted : BoundTree
some_counted = call 0 Count (flwor 6 (for_in 10 (lines 16) ∷ where_one 32 ∷ []) 41)

some_counted_lines : all_lines (plan false some_counted) ≡ line 0 (label.Call Count) Gathered ∷ line 10 label.For Partitioned ∷ line 32 label.Where Partitioned ∷ line 41 label.Return Partitioned ∷ []
some_counted_lines = refl

some_counted_stages : all_stages (plan false some_counted) ≡ stage 0 3 (end.Part Count) ∷ []
some_counted_stages = refl

-- ---- sum(sum(json-lines("a"))), sum((json-lines("a"))) and head(json-lines("a"))

sum_of_sum : all_lines (plan false (call 0 Sum (call 4 Sum (lines 8)))) ≡ line 0 label.Expression Local ∷ []
sum_of_sum = refl

in_parentheses : all_lines (plan false (call 0 Sum (round (lines 5)))) ≡ line 0 label.Expression Local ∷ []
in_parentheses = refl

head_of : all_lines (plan false (call 0 Head (lines 5))) ≡ line 0 label.Expression Local ∷ []
head_of = refl

-- ---- let $a := 1 where $a for $x in json-lines("a") return $x

where_before : all_lines (plan false (flwor 0 (let_one 4 ∷ where_one 12 ∷ for_in 25 (lines 31) ∷ []) 47)) ≡ line 0 label.Flwor Local ∷ []
where_before = refl

-- ---- for $x in (json-lines("a")) return $x

source_in_parentheses : all_lines (plan false (flwor 0 (for_in 4 (round (lines 11)) ∷ []) 28)) ≡ line 0 label.Flwor Local ∷ []
source_in_parentheses = refl

-- ---- for $x in json-lines("a") group by $g := $x count $n order by $n return $x

three_ends : all_stages (plan false (flwor 0 (for_in 4 (lines 10) ∷ group 26 ∷ count 44 ∷ order 53 ∷ []) 65)) ≡ stage 0 2 end.Groups ∷ stage 3 3 end.Numbers ∷ stage 4 4 end.Orders ∷ stage 5 5 end.Items ∷ []
three_ends = refl

-- ---- [json-lines("a")], ()

no_leaf_inside : all_lines (plan false (comma (p.tree_node 0 (p.array_form (p.one_tree (lines 1)))) (p.tree_node 20 (p.paren_form p.no_tree)))) ≡ line 0 label.Expression Local ∷ []
no_leaf_inside = refl
