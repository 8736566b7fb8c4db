-- What a query comes to that is one input and nothing else.
use Rattle.std.proofs.Common.{◌≡◌, ◌<◌, ◌∙◌, arith, get_or, ℕ, List, [], ◌∷◌, Option, None, Some, Result, Ok, Err, Bool, cond, length, map, refl, sym, ap, subst}
use Rattle.std.specs.Prelude.{IfSome, Vec}
use Rattle.std.specs.declared.alloc.Global.{Global}
use Rattle.std.proofs.lemmas.List.{append-nil}
use Rattle.std.proofs.lemmas.Slice.Eq.{bytes_eq-Decides}
use Rattle.item_reader.specs.Reading.{Read}
use Rattle.outside.specs.Opens.{InputCounts}
use Rattle.outside.specs.World.{World}
use Rattle.query_tree.specs.Compiled.{BoundTrees, bound_trees}
use Rattle.query_tree.specs.Modules.{variable_of}
use Rattle.query_tree.specs.declared.module.Module.{Module}
use Rattle.query_tree.specs.Inputs.{input_names}
use Rattle.query_tree.specs.BoundViews.{bound_form}
use Rattle.query_tree.specs.Plain.{Trees, tree_of, trees_of, tree_node, call_form}
use Rattle.query_tree.specs.declared.bound.Slot.{Slot}
use Rattle.query_tree.specs.declared.bound.Target.{Target}
use Rattle.query_tree.specs.declared.bound.Target.TheVariants.{Lines}
use Rattle.query_tree.specs.declared.expr.Expr.{Expr}
use Rattle.query_tree.specs.declared.expr.Kind.{Kind}
use Rattle.query_tree.specs.declared.expr.Kind.TheVariants.{Call}
use Rattle.query_tree.proofs.Layers.{form_of-Call, tree_of-out}
use Rattle.seq_types.specs.declared.types.SeqType.{SeqType}
use Rattle.query_meaning.specs.Meaning.{meaning, eval}
use Rattle.query_meaning.specs.Calls.{Program, call_value}
use Rattle.query_meaning.specs.Environment.{Environment}
use Rattle.query_meaning.specs.Library.{Library, and_all, given, held, lines_value}
use Rattle.query_meaning.specs.Outcome.{at_place, ◌>>=◌}
use Rattle.query_meaning.specs.Queries.{whole_depth, outermost, program_of, globals_from, query_value}
use Rattle.query_meaning.specs.inside.Computed.{read_of, inputs_of}
use Rattle.rumble_run.specs.Answer.{Answer, of_outcome}
use Rattle.rumble_run.specs.Front.{Executable}
use Rattle.rumble_run.specs.Opens.{search_among}
use Rattle.rumble_run.specs.declared.status.Stop.{Stop}
use Rattle.rumble_run.specs.inside.Computed.{of_run}
use Rattle.rumble_run.specs.inside.Reads.{Searched, search_of_name}
use Rattle.rumble_run.specs.inside.LoneInput.{IsCallOf, IsLoneInput, found, lone_value}

pub call_of_one : {A : Type 0} (to : A → List ℕ) (kind : Kind Slot Target SeqType) (function : Target) (arguments : Vec (Expr Slot Target SeqType) Global) (name : Option A)
    → kind ≡ Call function arguments → IfSome name (λ n. function ≡ Lines (to n ∷ [])) → IfSome name (λ n. IsCallOf (to n) (bound_form kind))
call_of_one to kind function arguments None k f = tt
call_of_one to kind function arguments (Some name) k f =
    let trees = trees_of Slot Target SeqType (map (tree_of Slot Target SeqType) arguments.items) in
    (trees, ap bound_form k ∙ form_of-Call Slot Target SeqType function arguments ∙ ap (λ g. call_form g trees) f)

pub one_is : {A : Type 0} (xs : List A) (x : A) → 0 < length xs → length xs < 2 → x ≡ get_or xs 0 x → xs ≡ x ∷ []
one_is [] x some few is = absurd (omega arith)
one_is (y ∷ []) x some few is = ap (λ z. z ∷ []) (sym is)
one_is (y ∷ z ∷ ys) x some few is = absurd (omega arith)

pub lone_of_call : (query : Module Slot Target SeqType) (name only : List ℕ) → query.variables.items ≡ [] → name ≡ only → IsCallOf name (bound_form query.body.kind)
    → IsLoneInput only query.body.place (bound_trees query)
lone_of_call query name only v e call = record {
  variables = ap (map (variable_of Slot Target SeqType)) v;
  form = bound_form query.body.kind;
  body = tree_of-out Slot Target SeqType query.body;
  call = subst (λ n. IsCallOf n (bound_form query.body.kind)) e call;
}

given_one : (read : Option Read) → given (and_all read (Some [])) ≡ found read
given_one None = refl
given_one (Some (Ok items)) = ap (λ xs. Ok xs) (append-nil items)
given_one (Some (Err code)) = refl

call_alone : (program : Program) (place : ℕ) (names : List (List ℕ)) (arguments : Trees Slot Target SeqType) (env : Environment)
    → eval program whole_depth (tree_node place (call_form (Lines names) arguments)) env ≡ lines_value program.library names place
unfolding meaning call_value
call_alone program place names arguments env = refl

bodied : (width : ℕ) (query : BoundTrees) (library : Library) → query.variables ≡ []
    → query_value width query library ≡ eval (program_of width query library) whole_depth query.body (outermost (program_of width query library) [])
unfolding query_value
bodied width query library e =
    let program = program_of width query library in
    ap (λ xs. globals_from program xs [] >>= (λ globals. eval program whole_depth query.body (outermost program globals))) e

found_alone : (name : List ℕ) (read : Option Read) → held ((name, read) ∷ []) name ≡ read
found_alone name read = ap (λ b. cond b read None) ((bytes_eq-Decides name name).1 refl)

pub lone_outcome : (width : ℕ) (query : BoundTrees) (w : World) (name : List ℕ) (place : ℕ) → IsLoneInput name place query
    → query_value width query (inputs_of w (name ∷ [])) ≡ lone_value (read_of w name) place
lone_outcome width query w name place h =
    let library = inputs_of w (name ∷ []) in
    let program = program_of width query library in
    bodied width query library h.variables
    ∙ ap (λ t. eval program whole_depth t (outermost program [])) (h.body ∙ ap (tree_node place) h.call.1)
    ∙ call_alone program place (name ∷ []) h.call.0 (outermost program [])
    ∙ ap (λ r. at_place place (given (and_all r (Some [])))) (found_alone name (read_of w name))
    ∙ ap (at_place place) (given_one (read_of w name))

pub lone_ended : (stats : Bool) (a : Answer) (text : List ℕ) (query : Executable) (names : List (List ℕ)) (name : List ℕ) (place : ℕ) (world : Option World) → names ≡ input_names query.trees
    → names ≡ name ∷ [] → IsLoneInput name place query.trees → IfSome world (λ w. a ≡ of_outcome stats text (lone_value (read_of w name) place)) → IfSome world (λ w. a ≡ of_run stats text w query)
unfolding of_run
lone_ended stats a text query names name place None all one lone e = tt
lone_ended stats a text query names name place (Some w) all one lone e =
    e ∙ ap (of_outcome stats text) (sym (lone_outcome query.width query.trees w name place lone))
    ∙ ap (λ ns. of_outcome stats text (query_value query.width query.trees (inputs_of w ns))) (sym one ∙ all)

pub lone_searched : {T : Type 0} (result : Result T Stop) (names : List (List ℕ)) (all : List (List ℕ)) (name : List ℕ) (world : Option World) (before after : InputCounts) → names ≡ all → names ≡ name ∷ []
    → IfSome world (λ w. Searched result (search_of_name w name) before after) → IfSome world (λ w. Searched result (search_among w all) before after)
lone_searched result names all name None before after is one o = tt
lone_searched result names all name (Some w) before after is one o =
    subst (λ (ns : List (List ℕ)). Searched result (search_among w ns) before after) (sym one ∙ is) o
