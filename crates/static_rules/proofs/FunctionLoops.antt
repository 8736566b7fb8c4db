-- How the loop over the declared functions goes on. All of them are seen from the first on.
use Rattle.std.proofs.Common.{◌≡◌, ℕ, ◌+◌, ◌<◌, ◌≤◌, false, List, [], ◌∷◌, ◌++◌, Result, Ok, Err, OnOk, IfOk, length, take, drop, map, get_or, refl, sym, ap, subst, ◌∙◌, arith, append_assoc, append-nil}
use Rattle.std.specs.Prelude.{max, reverse}
use Rattle.std.proofs.Math.Seq.{take-add}
use Rattle.std.proofs.lemmas.List.{drop_more, drop_all, drop-map, map-append, reverse-append, length-map}
use Rattle.query_tree.specs.declared.bound.Slot.{Slot}
use Rattle.query_tree.specs.declared.bound.Target.{Target}
use Rattle.query_tree.specs.declared.module.Function.{Function}
use Rattle.query_tree.specs.declared.names.TypeName.{TypeName}
use Rattle.seq_types.specs.declared.types.SeqType.{SeqType}
use Rattle.static_rules.specs.Views.{Callee}
use Rattle.static_rules.specs.Mentions.{functions_mentions, callee_of}
use Rattle.static_rules.specs.Compiling.{compiled_functions, function_width, greatest}
use Rattle.static_rules.specs.Gathering.{Pushed}
use Rattle.static_rules.specs.Walks.{State, view_of}
use Rattle.query_tree.specs.NamedViews.{named_function}
use Rattle.query_tree.specs.BoundViews.{bound_function}
use Rattle.static_rules.specs.Declarations.{function_mentions, compiled_function, with_functions, seeing_functions, earlier_functions, begun, declared, behind_function, behind_functions}
use Rattle.static_rules.proofs.Declaring.{declared-names, declared-number, declared-declared, declared-none, declared-seeing, seeing-names, greatest-more, greatest-none}

earlier-more : (cs tail : List Callee) (i : ℕ) (c : Callee) → drop i cs ≡ c ∷ tail → reverse (take (i + 1) cs) ≡ c ∷ reverse (take i cs)
earlier-more cs tail i c h = ap reverse (take-add i 1 cs ∙ ap (λ t. take i cs ++ take 1 t) h) ∙ reverse-append (take i cs) (c ∷ [])

pub record FunctionsLeft (old : State) (all : List (Function (List ℕ) (List ℕ) TypeName)) (now : State) (out : List (Function Slot Target SeqType)) (width number : ℕ) (rest : List (Function (List ℕ) (List ℕ) TypeName)) : Type 0 where
  names : now.names ≡ old.names
  walk : declared now (functions_mentions (view_of false old.names) (earlier_functions old.names number) (map named_function rest)) 0 old.names ≡ declared old (functions_mentions (view_of false old.names) [] (map named_function all)) 0 old.names
  tree : map bound_function out ++ compiled_functions old.names number (map named_function rest) ≡ compiled_functions old.names 0 (map named_function all)
  widest : max width (greatest (map function_width (map named_function rest))) ≡ greatest (map function_width (map named_function all))

functions-step : (old : State) (all : List (Function (List ℕ) (List ℕ) TypeName)) (now next : State) (out : List (Function Slot Target SeqType)) (width number : ℕ) (x : Function (List ℕ) (List ℕ) TypeName) (rest : List (Function (List ℕ) (List ℕ) TypeName)) (y : Function Slot Target SeqType)
    → earlier_functions old.names (number + 1) ≡ callee_of (named_function x) ∷ earlier_functions old.names number
    → FunctionsLeft old all now out width number (x ∷ rest) → bound_function y ≡ compiled_function now.names number (named_function x) → next ≡ behind_function now number (named_function x)
    → FunctionsLeft old all next (out ++ y ∷ []) (max width next.number) (number + 1) rest
functions-step old all now next out width number x rest y nearer h made walked =
    let b = named_function x in
    let fs = map named_function rest in
    let view = view_of false old.names in
    let earlier = earlier_functions old.names number in
    let ms = function_mentions view earlier b in
    let here : next ≡ declared now ms (function_width b) old.names = walked ∙ ap (λ n. declared now (function_mentions (view_of false n) (earlier_functions n number) b) (function_width b) n) h.names in
    record {
      names = ap (λ t. t.names) here ∙ declared-names now ms (function_width b) old.names;
      walk =
          ap (λ t. declared t (functions_mentions view (earlier_functions old.names (number + 1)) fs) 0 old.names) here
          ∙ ap (λ cs. declared (declared now ms (function_width b) old.names) (functions_mentions view cs fs) 0 old.names) nearer
          ∙ declared-declared now ms (functions_mentions view (callee_of b ∷ earlier) fs) (function_width b) 0 old.names old.names
          ∙ h.walk;
      tree =
          ap (λ z. z ++ compiled_functions old.names (number + 1) fs) (map-append bound_function out (y ∷ []))
          ∙ append_assoc (map bound_function out) (bound_function y ∷ []) (compiled_functions old.names (number + 1) fs)
          ∙ ap (λ z. map bound_function out ++ z ∷ compiled_functions old.names (number + 1) fs) (made ∙ ap (λ n. compiled_function n number b) h.names)
          ∙ h.tree;
      widest =
          ap (λ t. max (max width t.number) (greatest (map function_width fs))) here
          ∙ ap (λ k. max (max width k) (greatest (map function_width fs))) (declared-number now ms (function_width b) old.names)
          ∙ greatest-more width (function_width b) (greatest (map function_width fs))
          ∙ h.widest;
    }

pub functions-begun : (old : State) (all : List (Function (List ℕ) (List ℕ) TypeName)) → FunctionsLeft old all old [] 0 0 all
functions-begun old all = record { names = refl; walk = refl; tree = refl; widest = omega arith }

pub functions-more : {E : Type 0} (old : State) (all : List (Function (List ℕ) (List ℕ) TypeName)) (now next : State) (out longer : List (Function Slot Target SeqType)) (width wider i : ℕ) (x : Function (List ℕ) (List ℕ) TypeName) (part : Result (Function Slot Target SeqType) E)
    → old.names.functions ≡ map callee_of (map named_function all)
    → FunctionsLeft old all now out width i (drop i all) → i < length all → x ≡ get_or all i x
    → IfOk part (λ y. bound_function y ≡ compiled_function now.names i (named_function x)) → OnOk part (next ≡ behind_function now i (named_function x)) → Pushed out part longer → wider ≡ max width next.number
    → FunctionsLeft old all next longer wider (i + 1) (drop (i + 1) all)
functions-more old all now next out longer width wider i x (Ok y) known h l here made walked pushed widened =
    let at : drop i all ≡ x ∷ drop (i + 1) all = drop_more all i x l ∙ ap (λ z. z ∷ drop (i + 1) all) (sym here) in
    let left : drop i old.names.functions ≡ callee_of (named_function x) ∷ map callee_of (map named_function (drop (i + 1) all)) =
    ap (drop i) known ∙ drop-map callee_of i (map named_function all) ∙ ap (map callee_of) (drop-map named_function i all ∙ ap (map named_function) at) in
    subst (λ w. FunctionsLeft old all next longer w (i + 1) (drop (i + 1) all)) (sym widened)
    (subst (λ ys. FunctionsLeft old all next ys (max width next.number) (i + 1) (drop (i + 1) all)) (sym pushed)
    (functions-step old all now next out width i x (drop (i + 1) all) y
    (earlier-more old.names.functions (map callee_of (map named_function (drop (i + 1) all))) i (callee_of (named_function x)) left)
    (subst (λ rest. FunctionsLeft old all now out width i rest) at h) made walked))
functions-more old all now next out longer width wider i x (Err e) known h l here made walked pushed widened = absurd pushed

-- the declared functions are seen, so those before one can be told
pub functions-known : (before old : State) (all : List (Function (List ℕ) (List ℕ) TypeName)) → old ≡ seeing_functions before (map callee_of (map named_function all)) → old.names.functions ≡ map callee_of (map named_function all)
functions-known before old all seen = ap (λ t. t.names.functions) seen ∙ ap (λ n. n.functions) (seeing-names before (map callee_of (map named_function all)))

pub functions-before : (old : State) (all : List (Function (List ℕ) (List ℕ) TypeName)) (now : State) (out : List (Function Slot Target SeqType)) (width i : ℕ) (rest : List (Function (List ℕ) (List ℕ) TypeName))
    → old.names.functions ≡ map callee_of (map named_function all) → FunctionsLeft old all now out width i rest → i < length all → i ≤ length now.names.functions
functions-before old all now out width i rest known h l =
    let e : length now.names.functions ≡ length all =
    ap (λ n. length n.functions) h.names ∙ ap length known ∙ length-map (map named_function all) callee_of ∙ length-map all named_function in
    omega arith

module _ (before : State) (all : List (Function (List ℕ) (List ℕ) TypeName)) (old now : State) (out : List (Function Slot Target SeqType)) (width i : ℕ) (seen : old ≡ seeing_functions before (map callee_of (map named_function all))) (h : FunctionsLeft old all now out width i (drop i all)) (l : length all ≤ i) where
  at-end : FunctionsLeft old all now out width i []
  at-end = subst (λ rest. FunctionsLeft old all now out width i rest) (drop_all i all l) h

  seen-names : old.names ≡ with_functions before.names (map callee_of (map named_function all))
  seen-names = ap (λ t. t.names) seen ∙ seeing-names before (map callee_of (map named_function all))

  pub functions-tree : map bound_function out ≡ compiled_functions (with_functions before.names (map callee_of (map named_function all))) 0 (map named_function all)
  functions-tree = sym (append-nil (map bound_function out)) ∙ at-end.tree ∙ ap (λ n. compiled_functions n 0 (map named_function all)) seen-names

  pub functions-width : width ≡ greatest (map function_width (map named_function all))
  functions-width = sym (greatest-none width) ∙ at-end.widest

  pub functions-walk : begun now ≡ behind_functions before (map named_function all)
  functions-walk =
      let names = with_functions before.names (map callee_of (map named_function all)) in
      sym (declared-none now)
      ∙ ap (λ n. declared now [] 0 n) at-end.names
      ∙ at-end.walk
      ∙ ap (λ n. declared old (functions_mentions (view_of false n) [] (map named_function all)) 0 n) seen-names
      ∙ ap (λ t. declared t (functions_mentions (view_of false names) [] (map named_function all)) 0 names) seen
      ∙ declared-seeing before (map callee_of (map named_function all)) (functions_mentions (view_of false names) [] (map named_function all)) 0 names
