-- Functions and their names. For other crates too.
use Rattle.std.proofs.Common.{◌≡◌, ℕ, Bool, true, false, cond, ◌&&◌, nat_le, Option, Some, List, [], ◌∷◌, refl, sym, ap, ◌∙◌, arith}
use Rattle.std.specs.List.{find}
use Rattle.std.specs.Str.{chars, bytes_eq, IsUtf8}
use Rattle.std.proofs.lemmas.Bool.Decides.{nat_tests}
use Rattle.std.proofs.lemmas.Slice.Eq.{bytes_eq-Decides}
use Rattle.item_tree.specs.declared.functions.Arity.{Arity}
use Rattle.item_tree.specs.declared.functions.Arity.TheVariants.{Exactly, AtLeast}
use Rattle.item_tree.specs.declared.functions.FnId.{FnId}
use Rattle.item_tree.specs.declared.functions.FnId.TheVariants.{Count, Concat}
use Rattle.item_tree.specs.Functions.{signature, functions, name_of, allows, takes_arity, is_called, function_named}
use Rattle.item_tree.specs.Laws.{FunctionsAreFound}
use Rattle.item_tree.proofs.AsciiTexts.{is_ascii, all_below, same_text}
use Rattle.item_tree.proofs.Members.{both}

ascii_name : (id : FnId) → is_ascii (name_of id) ≡ true
ascii_name Count = refl
ascii_name _ = refl

-- a text is the name of a function by its bytes
pub called : (name own : List ℕ) (takes : Arity) (count : ℕ) (id : FnId) → IsUtf8 name → own ≡ (signature id).0 → takes ≡ (signature id).1 → is_called (chars name) count id ≡ (bytes_eq name own && allows takes count)
called name own takes count id text named taken =
    ap (λ b. b && takes_arity id count) (same_text name (name_of id) text (all_below (name_of id) (ascii_name id)))
    ∙ sym (ap (λ w. bytes_eq name w && allows takes count) named ∙ ap (λ a. bytes_eq name (name_of id) && allows a count) taken)

-- what is found passes the test
find-passes : {X : Type 0} (p : X → Bool) (xs : List X) (x : X) → find p xs ≡ Some x → p x ≡ true
find-passes p [] x e = absurd (cc)
find-passes p (y ∷ ys) x e = by (p y) refl (find-passes p ys x) e
  where
    by : (b : Bool) → p y ≡ b → (find p ys ≡ Some x → p x ≡ true) → cond b (Some y) (find p ys) ≡ Some x → p x ≡ true
    by true same later f = let s : y ≡ x = cc in ap p (sym s) ∙ same
    by false same later f = later f

pub named : (name : List ℕ) (count : ℕ) (id : FnId) → function_named name count ≡ Some id → (name_of id ≡ name) × (takes_arity id count ≡ true)
named name count id e =
    let h = both (bytes_eq name (name_of id)) (takes_arity id count) (find-passes (is_called name count) functions id e) in
    (sym ((bytes_eq-Decides name (name_of id)).0 h.0), h.1)

-- found by this name with each number of arguments that is allowed
abbrev IsFound : List ℕ → FnId → Arity → Type 0
IsFound name id (Exactly n) = function_named name n ≡ Some id
IsFound name id (AtLeast n) = (count : ℕ) → nat_le n count ≡ true → function_named name count ≡ Some id

picked : {X : Type 0} (b : Bool) (x : X) (o : Option X) → b ≡ true → cond b (Some x) o ≡ Some x
picked b x o e = ap (λ t. cond t (Some x) o) e

each : (id : FnId) → IsFound (name_of id) id (signature id).1
each Concat = λ count e. picked _ _ _ e
each _ = refl

pub found : (id : FnId) (count : ℕ) → takes_arity id count ≡ true → function_named (name_of id) count ≡ Some id
found id count e = by (signature id).1 (each id) e
  where
    by : (takes : Arity) → IsFound (name_of id) id takes → allows takes count ≡ true → function_named (name_of id) count ≡ Some id
    by (Exactly n) h f = let s : count ≡ n = grind (arith, nat_tests) in ap (λ m. function_named (name_of id) m) s ∙ h
    by (AtLeast n) h f = h count f

some_same : {X : Type 0} (x y : X) → Some x ≡ Some y → x ≡ y
some_same x y e = cc

pub functions_found : FunctionsAreFound
functions_found = record {
  named = named;
  found = found;
  apart = λ id other count e f g. some_same id other (sym (found id count f) ∙ ap (λ w. function_named w count) e ∙ found other count g);
}
