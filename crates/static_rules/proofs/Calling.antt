-- Which rule a call breaks, and what it calls.
use Rattle.std.proofs.Common.{◌≡◌, ℕ, Bool, true, false, cond, not, ◌&&◌, ◌||◌, Option, Some, None, Result, Ok, Err, OnOk, is_some, List, [], ◌∷◌, ◌++◌, length, map, drop, position, nat_lt, get_or, ◌+◌, ◌<◌, refl, sym, ap, ◌∙◌, arith}
use Rattle.std.specs.Prelude.{option_map, unwrap_or, ◌==◌}
use Rattle.std.specs.List.{list_any, position_or_len}
use Rattle.std.proofs.lemmas.List.{length-map, append_assoc, drop_more}
use Rattle.std.proofs.lemmas.Grind.{common_steps}
use Rattle.std.proofs.lemmas.Bool.Decides.{nat_tests}
use Rattle.std.specs.Str.{bytes_eq}
use Rattle.item_tree.specs.Functions.{function_named}
use Rattle.item_tree.specs.declared.functions.FnId.{FnId}
use Rattle.query_tree.specs.declared.bound.Target.TheVariants.{Own, Lines}
use Rattle.query_tree.specs.declared.expr.Expr.{Expr}
use Rattle.query_tree.specs.declared.names.TypeName.{TypeName}
use Rattle.query_tree.specs.Plain as p
use Rattle.query_tree.proofs.Layers.{tree_of-out}
use Rattle.static_rules.specs.declared.rules.Rule.TheVariants.{UnknownFunction, UnnamedInput}
use Rattle.static_rules.specs.Views.{NamedTrees, Callee, has_callee, argument_count}
use Rattle.static_rules.specs.Mentions.{mention_at, calls}
use Rattle.static_rules.specs.Rules.{is_lines, is_built_in, are_texts, name_inputs}
use Rattle.static_rules.specs.Compiling.{Names, own_number, function_or_own, target_of}
use Rattle.static_rules.specs.Stacks.{callee_of}
use Rattle.static_rules.specs.Calls.{text_in, text_of, and_text, texts_of}
use Rattle.query_tree.specs.NamedViews.{named_tree, named_tree_list, named_form}
use Rattle.static_rules.specs.Walks.{State, passed, tested}
use Rattle.static_rules.proofs.Passing.{passed-test}

pub lines-tested : (s : State) (name : List ℕ) (arguments : NamedTrees) (place : ℕ) → is_lines name ≡ true
    → tested s (not (name_inputs arguments)) UnnamedInput place ≡ passed s (mention_at place (calls name arguments s.names.functions) ∷ []) []
lines-tested s name arguments place e =
    sym (passed-test s (mention_at place (calls name arguments s.names.functions)) (not (name_inputs arguments)) UnnamedInput (by (is_lines name) (is_built_in name (argument_count arguments)) (has_callee s.names.functions name (argument_count arguments)) (name_inputs arguments) e))
  where
    by : (l b c o : Bool) → l ≡ true → cond (not (l || b || c)) (UnknownFunction ∷ cond (l && not o) (UnnamedInput ∷ []) []) (cond (l && not o) (UnnamedInput ∷ []) []) ≡ cond (not o) (UnnamedInput ∷ []) []
    by true b c o h = refl
    by false b c o h = absurd (cc)

pub other-tested : (s : State) (name : List ℕ) (arguments : NamedTrees) (place : ℕ) → is_lines name ≡ false
    → tested s (not (is_built_in name (argument_count arguments) || has_callee s.names.functions name (argument_count arguments))) UnknownFunction place ≡ passed s (mention_at place (calls name arguments s.names.functions) ∷ []) []
other-tested s name arguments place e =
    sym (passed-test s (mention_at place (calls name arguments s.names.functions)) (not (is_built_in name (argument_count arguments) || has_callee s.names.functions name (argument_count arguments))) UnknownFunction (by (is_lines name) (is_built_in name (argument_count arguments)) (has_callee s.names.functions name (argument_count arguments)) (name_inputs arguments) e))
  where
    by : (l b c o : Bool) → l ≡ false → cond (not (l || b || c)) (UnknownFunction ∷ cond (l && not o) (UnnamedInput ∷ []) []) (cond (l && not o) (UnnamedInput ∷ []) []) ≡ cond (not (b || c)) (UnknownFunction ∷ []) []
    by true b c o h = absurd (cc)
    by false b c o h = refl

pub argument_length : (es : List (Expr (List ℕ) (List ℕ) TypeName)) → argument_count (named_tree_list es) ≡ length es
argument_length [] = refl
argument_length (e ∷ es) = let h = argument_length es in omega arith

-- the declared function that is called
same-position : (name : List ℕ) (arity : ℕ) (ks : List (List ℕ × ℕ)) → position_or_len (λ c. bytes_eq c.name name && c.arity == arity) (map callee_of ks) ≡ position_or_len (λ k. bytes_eq (callee_of k).name name && (callee_of k).arity == arity) ks
same-position name arity [] = refl
same-position name arity (k ∷ ks) = let h = same-position name arity ks in grind (arith, common_steps)

pub known-number : (ks : List (List ℕ × ℕ)) (name : List ℕ) (arity : ℕ) → position (λ c. bytes_eq c.name name && c.arity == arity) (map callee_of ks) ≡ position (λ k. bytes_eq (callee_of k).name name && (callee_of k).arity == arity) ks
known-number ks name arity =
    ap (λ n. cond (nat_lt n (length (map callee_of ks))) (Some n) None) (same-position name arity ks)
    ∙ ap (λ m. let n = position_or_len (λ k. bytes_eq (callee_of k).name name && (callee_of k).arity == arity) ks in cond (nat_lt n m) (Some n) None) (length-map ks callee_of)

any-below : {X : Type 0} (p : X → Bool) (xs : List X) → list_any p xs ≡ nat_lt (position_or_len p xs) (length xs)
any-below p [] = refl
any-below p (x ∷ xs) = let h = any-below p xs in grind (arith, common_steps, nat_tests)

pub has-position : {X : Type 0} (p : X → Bool) (xs : List X) → list_any p xs ≡ is_some (position p xs)
has-position p xs = any-below p xs ∙ by (nat_lt (position_or_len p xs) (length xs))
  where
    by : (b : Bool) → b ≡ is_some (cond b (Some (position_or_len p xs)) None)
    by true = refl
    by false = refl

-- the string arguments from one on
node-text : (e : Expr (List ℕ) (List ℕ) TypeName) → text_of (named_tree e) ≡ text_in (named_form e.kind)
node-text e = ap text_of (tree_of-out (List ℕ) (List ℕ) TypeName e)

arguments-at : (es : List (Expr (List ℕ) (List ℕ) TypeName)) (i : ℕ) (x : Expr (List ℕ) (List ℕ) TypeName) → i < length es → x ≡ get_or es i x → named_tree_list (drop i es) ≡ p.more_trees (named_tree x) (named_tree_list (drop (i + 1) es))
arguments-at es i x l e = ap named_tree_list (drop_more es i x l) ∙ ap (λ y. named_tree_list (y ∷ drop (i + 1) es)) (sym e)

pub texts-at : (es : List (Expr (List ℕ) (List ℕ) TypeName)) (i : ℕ) (x : Expr (List ℕ) (List ℕ) TypeName) → i < length es → x ≡ get_or es i x → texts_of (named_tree_list (drop i es)) ≡ and_text (text_in (named_form x.kind)) (texts_of (named_tree_list (drop (i + 1) es)))
texts-at es i x l e = ap texts_of (arguments-at es i x l e) ∙ ap (λ t. and_text t (texts_of (named_tree_list (drop (i + 1) es)))) (node-text x)

pub are-texts-at : (es : List (Expr (List ℕ) (List ℕ) TypeName)) (i : ℕ) (x : Expr (List ℕ) (List ℕ) TypeName) → i < length es → x ≡ get_or es i x → are_texts (named_tree_list (drop i es)) ≡ (is_some (text_in (named_form x.kind)) && are_texts (named_tree_list (drop (i + 1) es)))
are-texts-at es i x l e = ap are_texts (arguments-at es i x l e) ∙ ap (λ t. is_some t && are_texts (named_tree_list (drop (i + 1) es))) (node-text x)

-- a loop over the arguments goes on behind one that is a string, and behind one that is none
pub texts-more : (es : List (Expr (List ℕ) (List ℕ) TypeName)) (i : ℕ) (x : Expr (List ℕ) (List ℕ) TypeName) (out next : List (List ℕ)) (text : List ℕ) → texts_of (named_tree_list es) ≡ out ++ texts_of (named_tree_list (drop i es)) → i < length es → x ≡ get_or es i x → text_in (named_form x.kind) ≡ Some text → next ≡ out ++ text ∷ [] → texts_of (named_tree_list es) ≡ next ++ texts_of (named_tree_list (drop (i + 1) es))
texts-more es i x out next text h l e t n =
    let rest = texts_of (named_tree_list (drop (i + 1) es)) in
    h ∙ ap (λ ts. out ++ ts) (texts-at es i x l e) ∙ ap (λ o. out ++ and_text o rest) t
    ∙ sym (append_assoc out (text ∷ []) rest) ∙ ap (λ ts. ts ++ rest) (sym n)

pub texts-same : (es : List (Expr (List ℕ) (List ℕ) TypeName)) (i : ℕ) (x : Expr (List ℕ) (List ℕ) TypeName) (out : List (List ℕ)) → texts_of (named_tree_list es) ≡ out ++ texts_of (named_tree_list (drop i es)) → i < length es → x ≡ get_or es i x → text_in (named_form x.kind) ≡ None → texts_of (named_tree_list es) ≡ out ++ texts_of (named_tree_list (drop (i + 1) es))
texts-same es i x out h l e t =
    h ∙ ap (λ ts. out ++ ts) (texts-at es i x l e) ∙ ap (λ o. out ++ and_text o (texts_of (named_tree_list (drop (i + 1) es)))) t

pub are-texts-more : (es : List (Expr (List ℕ) (List ℕ) TypeName)) (i : ℕ) (x : Expr (List ℕ) (List ℕ) TypeName) (b : Bool) → are_texts (named_tree_list es) ≡ are_texts (named_tree_list (drop i es)) → i < length es → x ≡ get_or es i x → is_some (text_in (named_form x.kind)) ≡ b → are_texts (named_tree_list es) ≡ (b && are_texts (named_tree_list (drop (i + 1) es)))
are-texts-more es i x b h l e t =
    h ∙ are-texts-at es i x l e ∙ ap (λ o. o && are_texts (named_tree_list (drop (i + 1) es))) t

pub some-mapped : {X Y : Type 0} (f : X → Y) (o : Option X) → is_some o ≡ is_some (option_map f o)
some-mapped f None = refl
some-mapped f (Some x) = refl

pub target-other : (s : Names) (name : List ℕ) (es : List (Expr (List ℕ) (List ℕ) TypeName)) → is_lines name ≡ false → function_or_own (function_named name (length es)) (own_number s.functions name (length es)) ≡ target_of s name (named_tree_list es)
target-other s name es e =
    ap (λ n. function_or_own (function_named name n) (own_number s.functions name n)) (sym (argument_length es))
    ∙ ap (λ b. cond b (Lines (texts_of (named_tree_list es))) (function_or_own (function_named name (argument_count (named_tree_list es))) (own_number s.functions name (argument_count (named_tree_list es))))) (sym e)

pub other-known : (s : State) (name : List ℕ) (es : List (Expr (List ℕ) (List ℕ) TypeName)) (place : ℕ) → is_lines name ≡ false
    → tested s (not (is_built_in name (length es) || has_callee s.names.functions name (length es))) UnknownFunction place ≡ passed s (mention_at place (calls name (named_tree_list es) s.names.functions) ∷ []) []
other-known s name es place e =
    ap (λ n. tested s (not (is_built_in name n || has_callee s.names.functions name n)) UnknownFunction place) (sym (argument_length es))
    ∙ other-tested s name (named_tree_list es) place e

pub own-found : (ks : List (List ℕ × ℕ)) (cs : List Callee) (name : List ℕ) (arity : ℕ) (own : Option ℕ) → cs ≡ map callee_of ks → own ≡ position (λ k. bytes_eq (callee_of k).name name && (callee_of k).arity == arity) ks → own ≡ position (λ c. bytes_eq c.name name && c.arity == arity) cs
own-found ks cs name arity own h e = e ∙ sym (known-number ks name arity) ∙ ap (position (λ c. bytes_eq c.name name && c.arity == arity)) (sym h)

pub own-target : (cs : List Callee) (name : List ℕ) (arity : ℕ) (own : Option ℕ) → own ≡ position (λ c. bytes_eq c.name name && c.arity == arity) cs → function_named name arity ≡ None → Own (unwrap_or own 0) ≡ function_or_own (function_named name arity) (own_number cs name arity)
own-target cs name arity own e none = ap (λ o. Own (unwrap_or o 0)) e ∙ ap (λ o. function_or_own o (own_number cs name arity)) (sym none)

pub known-here : (cs : List Callee) (name : List ℕ) (arity : ℕ) (own : Option ℕ) (built : Option FnId) → own ≡ position (λ c. bytes_eq c.name name && c.arity == arity) cs → built ≡ function_named name arity
    → (is_some built || is_some own) ≡ (is_built_in name arity || has_callee cs name arity)
known-here cs name arity own built e g =
    ap (λ o. is_some o || is_some own) g
    ∙ ap (λ b. is_built_in name arity || b) (ap is_some e ∙ sym (has-position (λ c. bytes_eq c.name name && c.arity == arity) cs))

pub on-ok : {A E : Type 0} (P : Type 0) (r : Result A E) → P → OnOk r P
on-ok P (Ok x) h = h
on-ok P (Err e) h = tt
