-- Whether a name is taken by what stands before a declaration.
use Rattle.std.proofs.Common.{◌≡◌, ℕ, ◌-◌, Bool, true, false, ◌&&◌, ◌||◌, is_some, List, [], ◌∷◌, length, map, take, drop, position, refl, sym, ap, ◌∙◌}
use Rattle.std.specs.Prelude.{reverse, ◌==◌}
use Rattle.std.specs.List.{list_any}
use Rattle.std.specs.Str.{bytes_eq}
use Rattle.std.proofs.lemmas.List.{reverse-append, take-map}
use Rattle.std.proofs.lemmas.List.Folds.{list_any-append}
use Rattle.static_rules.specs.Views.{has_callee}
use Rattle.static_rules.specs.Compiling.{Names}
use Rattle.static_rules.specs.Stacks.{callee_of}
use Rattle.static_rules.specs.Declarations.{earlier_functions}
use Rattle.static_rules.proofs.Calling.{known-number, has-position}

or-swapped : (a b : Bool) → (a || (b || false)) ≡ (b || a)
or-swapped true true = refl
or-swapped true false = refl
or-swapped false true = refl
or-swapped false false = refl

any-reversed : {X : Type 0} (p : X → Bool) (xs : List X) → list_any p (reverse xs) ≡ list_any p xs
any-reversed p [] = refl
any-reversed p (x ∷ xs) =
    ap (list_any p) (reverse-append (x ∷ []) xs)
    ∙ list_any-append p (reverse xs) (x ∷ [])
    ∙ or-swapped (list_any p (reverse xs)) (p x)
    ∙ ap (λ b. p x || b) (any-reversed p xs)

pub declared-before : (ks : List (List ℕ × ℕ)) (names : Names) (number : ℕ) (name : List ℕ) (arity : ℕ) → map callee_of ks ≡ names.functions
    → is_some (position (λ k. bytes_eq (callee_of k).name name && (callee_of k).arity == arity) (take number ks)) ≡ has_callee (earlier_functions names number) name arity
declared-before ks names number name arity h =
    ap is_some (sym (known-number (take number ks) name arity))
    ∙ sym (has-position (λ c. bytes_eq c.name name && c.arity == arity) (map callee_of (take number ks)))
    ∙ ap (list_any (λ c. bytes_eq c.name name && c.arity == arity)) (sym (take-map callee_of number ks) ∙ ap (take number) h)
    ∙ sym (any-reversed (λ c. bytes_eq c.name name && c.arity == arity) (take number names.functions))
