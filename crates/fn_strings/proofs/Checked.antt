-- Items that were checked, and their texts.
use Rattle.std.proofs.Common.{◌≡◌, ◌⊎◌, inl, inr, ℕ, List, [], ◌∷◌, ◌++◌, map, Option, Some, None, Result, Ok, Err, refl, sym, ap, ◌∙◌}
use Rattle.std.specs.List.{concat, flat_map}
use Rattle.std.proofs.lemmas.List.{append-nil}
use Rattle.item_tree.specs.declared.code.Code.{Code}
use Rattle.item_tree.specs.declared.code.Code.TheVariants.{XPTY0004, JNTY0004}
use Rattle.item_tree.specs.Datum.{Datum, null, boolean, integer, decimal, text, date, date_time, array, object, IsAtomic}
use Rattle.item_tree.specs.ItemText.{atom_text}
use Rattle.value_rules.specs.Operands.{and_then, atomic, optional_atomic}
use Rattle.value_rules.specs.Strings.{optional_text, argument_texts, atomic_texts}
use Rattle.fn_strings.specs.inside.Atomics.{AreAtomic, ArgumentsAreAtomic, text_of_all, refusal}

atomic_or : (v : Datum) → ((atomic v ≡ Ok v) × IsAtomic v) ⊎ (atomic v ≡ Err JNTY0004)
atomic_or null = inl (refl, tt)
atomic_or (boolean b) = inl (refl, tt)
atomic_or (integer n) = inl (refl, tt)
atomic_or (decimal m) = inl (refl, tt)
atomic_or (text t) = inl (refl, tt)
atomic_or (date d) = inl (refl, tt)
atomic_or (date_time t) = inl (refl, tt)
atomic_or (array vs) = inr refl
atomic_or (object ms) = inr refl

-- an error stays where a value is only changed
refusal-then : {A B : Type 0} (f : A → B) (r : Result A Code) → refusal (and_then r (λ x. Ok (f x))) ≡ refusal r
refusal-then f (Ok x) = refl
refusal-then f (Err e) = refl

pub refused : {A : Type 0} (r : Result A Code) (e : Code) → refusal r ≡ Some e → r ≡ Err e
refused (Ok x) e h = absurd cc
refused (Err c) e h = cc

-- an atomic is passed over
pub atomic_passed : (v a : Datum) (vs : List Datum) → atomic v ≡ Ok a → refusal (atomic_texts (v ∷ vs)) ≡ refusal (atomic_texts vs)
atomic_passed v a vs e = rw e (refusal-then (λ ts. atom_text a ∷ ts) (atomic_texts vs))

pub atomic_refused : (v : Datum) (vs : List Datum) (e : Code) → atomic v ≡ Err e → refusal (atomic_texts (v ∷ vs)) ≡ Some e
atomic_refused v vs e h = rw h refl

pub argument_passed : (vs : List Datum) (o : Option Datum) (more : List (List Datum)) → optional_atomic vs ≡ Ok o → refusal (argument_texts (vs ∷ more)) ≡ refusal (argument_texts more)
argument_passed vs o more e = rw e (refusal-then (λ ts. optional_text o ∷ ts) (argument_texts more))

pub argument_refused : (vs : List Datum) (more : List (List Datum)) (e : Code) → optional_atomic vs ≡ Err e → refusal (argument_texts (vs ∷ more)) ≡ Some e
argument_refused vs more e h = rw h refl

pub atomics_are : (vs : List Datum) → refusal (atomic_texts vs) ≡ None → AreAtomic vs × (atomic_texts vs ≡ Ok (map atom_text vs))
atomics_are [] h = (tt, refl)
atomics_are (v ∷ vs) h = elim (atomic_or v) [
  | inl p ↦
      let rest = atomics_are vs (sym (atomic_passed v v vs p.0) ∙ h) in
      ((p.1, rest.0), rw (p.0, rest.1) refl)
  | inr e ↦ let some = atomic_refused v vs JNTY0004 e in absurd cc
]

-- an argument of nothing, or of one atomic
argument_or : (vs : List Datum) → ((o : Option Datum) × (optional_atomic vs ≡ Ok o) × (optional_text o ≡ text_of_all vs) × AreAtomic vs) ⊎ ((e : Code) × (optional_atomic vs ≡ Err e))
argument_or [] = inl (None, refl, refl, tt)
argument_or (v ∷ []) = elim (atomic_or v) [
  | inl p ↦ inl (Some v, rw p.0 refl, sym (append-nil (atom_text v)), (p.1, tt))
  | inr e ↦ inr (JNTY0004, rw e refl)
]
argument_or (v ∷ w ∷ vs) = inr (XPTY0004, refl)

pub arguments_are : (args : List (List Datum)) → refusal (argument_texts args) ≡ None → ArgumentsAreAtomic args × (argument_texts args ≡ Ok (map text_of_all args))
arguments_are [] h = (tt, refl)
arguments_are (vs ∷ more) h = elim (argument_or vs) [
  | inl p ↦
      let rest = arguments_are more (sym (argument_passed vs p.0 more p.1) ∙ h) in
      ((p.3, rest.0), rw (p.1, rest.1) (ap (λ t. Ok (t ∷ map text_of_all more)) p.2))
  | inr e ↦ let some = argument_refused vs more e.0 e.1 in absurd cc
]

pub joined_arguments_are : (args : List (List Datum)) → concat (map text_of_all args) ≡ flat_map text_of_all args
joined_arguments_are [] = refl
joined_arguments_are (vs ∷ more) = ap (λ t. text_of_all vs ++ t) (joined_arguments_are more)

-- a separator before each text
pub separated : (s : List ℕ) (vs : List Datum) → flat_map (λ u. s ++ u) (map atom_text vs) ≡ flat_map (λ v. s ++ atom_text v) vs
separated s [] = refl
separated s (v ∷ vs) = ap (λ t. (s ++ atom_text v) ++ t) (separated s vs)

pub not_separated : (s : List ℕ) (vs : List Datum) → s ≡ [] → flat_map (λ v. s ++ atom_text v) vs ≡ text_of_all vs
not_separated s vs e = ap (λ t. flat_map (λ v. t ++ atom_text v) vs) e
