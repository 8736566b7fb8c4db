-- Names that are told one by one, and what trees tell.
use Rattle.std.proofs.Common.{◌≡◌, ℕ, List, [], ◌∷◌, ◌++◌, Bool, true, false, cond, not, ◌||◌, refl, sym, ap, subst, ◌∙◌}
use Rattle.std.specs.Prelude.{filter, fold}
use Rattle.std.specs.List.{list_any}
use Rattle.std.specs.Str.{bytes_eq}
use Rattle.std.proofs.lemmas.Grind.{fold-append}
use Rattle.std.proofs.lemmas.Bool.{false≢true}
use Rattle.std.proofs.lemmas.List.{append_assoc, append-nil}
use Rattle.std.proofs.lemmas.List.Elements.{filter-append}
use Rattle.std.proofs.lemmas.Slice.Eq.{bytes_eq-Decides}
use Rattle.seq_types.specs.declared.types.SeqType.{SeqType}
use Rattle.query_tree.specs.declared.bound.Slot.{Slot}
use Rattle.query_tree.specs.declared.bound.Target.{Target}
use Rattle.query_tree.specs.Plain as p
use Rattle.query_tree.specs.Plain.{Form}
use Rattle.query_tree.specs.Bound.{BoundTree}
use Rattle.query_tree.specs.Inputs.{first_appearances}
use Rattle.query_tree.specs.inside.Told.{with_name, with_names, form_names, trees_names}

among-kept-more : (n m k : List ℕ) → bytes_eq n m ≡ false → (b : Bool) → bytes_eq n k ≡ b → (c : Bool) → bytes_eq k m ≡ c → (ns : List (List ℕ))
    → list_any (λ j. bytes_eq j m) (filter (λ j. not (bytes_eq n j)) ns) ≡ list_any (λ j. bytes_eq j m) ns
    → list_any (λ j. bytes_eq j m) (cond (not b) (k ∷ filter (λ j. not (bytes_eq n j)) ns) (filter (λ j. not (bytes_eq n j)) ns)) ≡ (c || list_any (λ j. bytes_eq j m) ns)
among-kept-more n m k apart true e true f ns h = absurd (false≢true (sym apart ∙ subst (λ x. bytes_eq n x ≡ true) ((bytes_eq-Decides k m).0 f) e))
among-kept-more n m k apart true e false f ns h = h
among-kept-more n m k apart false e c f ns h = ap (λ b. b || list_any (λ j. bytes_eq j m) (filter (λ j. not (bytes_eq n j)) ns)) f ∙ ap (λ b. c || b) h

-- a name that is not left out stays among the others
among-kept : (n m : List ℕ) → bytes_eq n m ≡ false → (ns : List (List ℕ)) → list_any (λ k. bytes_eq k m) (filter (λ k. not (bytes_eq n k)) ns) ≡ list_any (λ k. bytes_eq k m) ns
among-kept n m apart [] = refl
among-kept n m apart (k ∷ ns) = among-kept-more n m k apart (bytes_eq n k) refl (bytes_eq k m) refl ns (among-kept n m apart ns)

pub appear-last : (ns : List (List ℕ)) (m : List ℕ) → first_appearances (ns ++ m ∷ []) ≡ with_name (first_appearances ns) m
appear-last [] m = refl
appear-last (n ∷ ns) m =
    ap (λ ks. n ∷ filter (λ k. not (bytes_eq n k)) ks) (appear-last ns m)
    ∙ by (bytes_eq n m) refl (list_any (λ k. bytes_eq k m) (first_appearances ns)) refl
  where
    one : (b : Bool) → bytes_eq n m ≡ b → cond (not (bytes_eq n m)) (m ∷ []) [] ≡ cond (not b) (m ∷ []) []
    one b e = ap (λ x. cond (not x) (m ∷ []) []) e

    left : (b : Bool) → bytes_eq n m ≡ b → filter (λ k. not (bytes_eq n k)) (first_appearances ns ++ m ∷ []) ≡ filter (λ k. not (bytes_eq n k)) (first_appearances ns) ++ cond (not b) (m ∷ []) []
    left b e = filter-append (λ k. not (bytes_eq n k)) (first_appearances ns) (m ∷ []) ∙ ap (λ ks. filter (λ k. not (bytes_eq n k)) (first_appearances ns) ++ ks) (one b e)

    by : (b : Bool) → bytes_eq n m ≡ b → (c : Bool) → list_any (λ k. bytes_eq k m) (first_appearances ns) ≡ c
        → n ∷ filter (λ k. not (bytes_eq n k)) (cond c (first_appearances ns) (first_appearances ns ++ m ∷ []))
        ≡ cond (b || list_any (λ k. bytes_eq k m) (filter (λ k. not (bytes_eq n k)) (first_appearances ns)))
        (n ∷ filter (λ k. not (bytes_eq n k)) (first_appearances ns)) (n ∷ filter (λ k. not (bytes_eq n k)) (first_appearances ns) ++ m ∷ [])
    by true e true f = refl
    by true e false f = ap (λ ks. n ∷ ks) (left true e ∙ append-nil (filter (λ k. not (bytes_eq n k)) (first_appearances ns)))
    by false e true f = ap (λ b. cond b (n ∷ filter (λ k. not (bytes_eq n k)) (first_appearances ns)) (n ∷ filter (λ k. not (bytes_eq n k)) (first_appearances ns) ++ m ∷ [])) (sym (among-kept n m e (first_appearances ns) ∙ f))
    by false e false f =
        ap (λ ks. n ∷ ks) (left false e)
        ∙ ap (λ b. cond b (n ∷ filter (λ k. not (bytes_eq n k)) (first_appearances ns)) (n ∷ filter (λ k. not (bytes_eq n k)) (first_appearances ns) ++ m ∷ [])) (sym (among-kept n m e (first_appearances ns) ∙ f))

told-from : (ms ns : List (List ℕ)) → fold with_name (first_appearances ms) ns ≡ first_appearances (ms ++ ns)
told-from ms [] = ap first_appearances (sym (append-nil ms))
told-from ms (n ∷ ns) =
    ap (λ found. fold with_name found ns) (sym (appear-last ms n))
    ∙ told-from (ms ++ n ∷ []) ns
    ∙ ap first_appearances (append_assoc ms (n ∷ []) ns)

-- names that are told from the first one on are those that appear, in order
pub told-appear : (ns : List (List ℕ)) → with_names [] ns ≡ first_appearances ns
unfolding with_names
told-appear ns = told-from [] ns

pub with_names-none : (found : List (List ℕ)) → with_names found [] ≡ found
unfolding with_names
with_names-none found = refl

pub with_names-append : (found ms ns : List (List ℕ)) → with_names found (ms ++ ns) ≡ with_names (with_names found ms) ns
unfolding with_names
with_names-append found ms ns = fold-append with_name found ms ns

pub with_names-last : (found ms : List (List ℕ)) (n : List ℕ) → with_names found (ms ++ n ∷ []) ≡ with_name (with_names found ms) n
unfolding with_names
with_names-last found ms n = fold-append with_name found ms (n ∷ [])

pub trees_names-none : trees_names [] ≡ []
unfolding trees_names
trees_names-none = refl

pub trees_names-more : (place : ℕ) (k : Form Slot Target SeqType) (ts : List BoundTree) → trees_names (p.tree_node place k ∷ ts) ≡ form_names k ++ trees_names ts
unfolding trees_names
trees_names-more place (p.call_form function arguments) ts = refl
trees_names-more place _ ts = refl
