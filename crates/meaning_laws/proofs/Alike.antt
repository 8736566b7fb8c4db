-- Environments in which some sources are the same.
use mathlib.Core.Path.{fun_ext}
use Rattle.std.proofs.Common.{◌≡◌, ℕ, ◌<◌, ◌≤◌, List, [], ◌∷◌, ◌++◌, length, get_or, slice_set, set, Option, Some, None, refl, sym, ap₂, ◌∙◌, subst, ⊎_elim, arith, get_or-set_same, get_or-set_other, length-set}
use Rattle.std.specs.List.{AllByRecursion}
use Rattle.std.proofs.lemmas.Bool.{cases_eq, cases_lt}
use Rattle.std.proofs.lemmas.List.{get_or_past}
use Rattle.std.proofs.lemmas.Option.{unwrap_or-slice_get}
use Rattle.item_tree.specs.Datum.{Datum}
use Rattle.query_tree.specs.declared.bound.Slot.{Slot}
use Rattle.query_tree.specs.declared.bound.Slot.TheVariants.{Local, Global}
use Rattle.query_tree.specs.declared.names.Placed.{Placed}
use Rattle.query_tree.specs.Bound.{BoundTree}
use Rattle.query_tree.specs.Subtrees.{subtrees}
use Rattle.query_meaning.specs.Outcome.{OrFault, ◌>>=◌}
use Rattle.query_meaning.specs.Choices.{binding_any}
use Rattle.query_meaning.specs.Environment.{Tuple, Environment, Inner, value_in, value_of, with_value, binding, with_item, in_tuple}
use Rattle.meaning_laws.specs.Agreement.{IsOfBoth}
use Rattle.query_meaning.specs.Sources.{Source, of_variable, of_context, of_declared}

-- ---- lists and results

pub both_parts : {X : Type 0} (P : X → Type 0) (xs ys : List X) → AllByRecursion P (xs ++ ys) → AllByRecursion P xs × AllByRecursion P ys
both_parts P [] ys h = (tt, h)
both_parts P (x ∷ xs) ys h =
    let rest = both_parts P xs ys h.1 in
    ((h.0, rest.0), rest.1)

pub then_same : {A B : Type 0} (f g : A → OrFault B) (r s : OrFault A) → r ≡ s → ((x : A) → f x ≡ g x) → (r >>= f) ≡ (s >>= g)
then_same f g r s e h = ap₂ (λ q k. q >>= k) e (fun_ext h)

-- ---- tuples and environments

-- each of these slots is in both or in neither, and has the same value
pub record AlikeTuples (R : Source → Type 0) (t u : Tuple) : Type 0 where
  pub there : (n : ℕ) → R (of_variable (Local n)) → IsOfBoth (length t) (length u) n
  pub values : (n : ℕ) → R (of_variable (Local n)) → value_in t n ≡ value_in u n

pub record Alike (R : Source → Type 0) (env other : Environment) : Type 0 where
  pub tuples : AlikeTuples R env.frame other.frame
  pub outer : (n : ℕ) → R (of_variable (Global n)) → value_in env.globals n ≡ value_in other.globals n
  pub declared : R of_declared → env.globals ≡ other.globals
  pub context : R of_context → env.item ≡ other.item

-- each of these trees is so
abbrev pub Within : (BoundTree → Type 0) → List BoundTree → Type 0
Within P ts = AllByRecursion P ts

-- trees one behind the other
pub halves : (P : BoundTree → Type 0) (ts us : List BoundTree) → Within P (ts ++ us) → Within P ts × Within P us
halves P ts us w = both_parts P ts us w

-- a tree all of whose trees are so comes to the same, where these sources are the same
abbrev pub Looks : (Source → Type 0) → (BoundTree → Type 0) → Inner → Inner → Type 0
Looks R P inner inner' = (t : BoundTree) → Within P (subtrees t) → (env other : Environment) → Alike R env other → inner t env ≡ inner' t other

pub value_read : (t : Tuple) (n : ℕ) → value_in t n ≡ get_or t n []
value_read t n = unwrap_or-slice_get t n []

pub both_past : (a b n : ℕ) → IsOfBoth a b n → a ≤ n → b ≤ n
both_past a b n s l = ⊎_elim (λ (h : n < b). let k : n < a = s.1 h in absurd (omega arith)) (λ (h : b ≤ n). h) (cases_lt n b)

pub of_lengths : (a b c d n : ℕ) → c ≡ a → d ≡ b → IsOfBoth a b n → IsOfBoth c d n
of_lengths a b c d n e f s = subst (λ w. IsOfBoth w d n) (sym e) (subst (λ w. IsOfBoth a w n) (sym f) s)

pub set_same : (t u : Tuple) (n : ℕ) (value : List Datum) → IsOfBoth (length t) (length u) n → get_or (set t n value) n [] ≡ get_or (set u n value) n []
set_same t u n value s = ⊎_elim
    (λ (h : n < length t). get_or-set_same t n value [] h ∙ sym (get_or-set_same u n value [] (s.0 h)))
    (λ (h : length t ≤ n).
    let k : length u ≤ n = both_past (length t) (length u) n s h in
    let a : length (set t n value) ≤ n = omega (arith, length-set {A = List Datum}) in
    let b : length (set u n value) ≤ n = omega (arith, length-set {A = List Datum}) in
    get_or_past (set t n value) n [] a ∙ sym (get_or_past (set u n value) n [] b))
    (cases_lt n (length t))

-- the same value in one slot of both
set_read : (t u : Tuple) (n m : ℕ) (value : List Datum) → IsOfBoth (length t) (length u) m → value_in t m ≡ value_in u m → value_in (set t n value) m ≡ value_in (set u n value) m
set_read t u n m value s h = value_read (set t n value) m ∙ ⊎_elim
    (λ (q : m ≡ n). subst (λ k. get_or (set t n value) k [] ≡ get_or (set u n value) k []) (sym q) (set_same t u n value (subst (IsOfBoth (length t) (length u)) q s)))
    (λ (q : m ≡ n → ⊥). get_or-set_other t n m value [] q ∙ sym (value_read t m) ∙ h ∙ value_read u m ∙ sym (get_or-set_other u n m value [] q))
    (cases_eq m n) ∙ sym (value_read (set u n value) m)

module _ (R : Source → Type 0) where
  pub set-alike : (t u : Tuple) (n : ℕ) (value : List Datum) → AlikeTuples R t u → AlikeTuples R (slice_set t n value) (slice_set u n value)
  set-alike t u n value a = record {
    there = λ m r. of_lengths (length t) (length u) (length (slice_set t n value)) (length (slice_set u n value)) m (length-set t n value) (length-set u n value) (a.there m r);
    values = λ m r. set_read t u n m value (a.there m r) (a.values m r);
  }

  pub with_value-alike : (t u : Tuple) (v : Slot) (value : List Datum) → AlikeTuples R t u → AlikeTuples R (with_value t v value) (with_value u v value)
  with_value-alike t u (Local n) value a = set-alike t u n value a
  with_value-alike t u (Global n) value a = a

  pub in_tuple-alike : (env other : Environment) (t u : Tuple) → Alike R env other → AlikeTuples R t u → Alike R (in_tuple env t) (in_tuple other u)
  in_tuple-alike env other t u a b = record { tuples = b; outer = a.outer; declared = a.declared; context = a.context }

  pub binding-alike : (env other : Environment) (v : Slot) (value : List Datum) → Alike R env other → Alike R (binding env v value) (binding other v value)
  binding-alike env other v value a =
      in_tuple-alike env other (with_value env.frame v value) (with_value other.frame v value) a (with_value-alike env.frame other.frame v value a.tuples)

  pub binding_any-alike : (env other : Environment) (v : Option (Placed Slot)) (value : List Datum) → Alike R env other → Alike R (binding_any env v value) (binding_any other v value)
  binding_any-alike env other None value a = a
  binding_any-alike env other (Some v) value a = binding-alike env other v.name value a

  pub with_item-alike : (env other : Environment) (x : Datum) → Alike R env other → Alike R (with_item env x) (with_item other x)
  with_item-alike env other x a = record { tuples = a.tuples; outer = a.outer; declared = a.declared; context = λ r. refl }

  pub value-same : (env other : Environment) (v : Slot) → Alike R env other → R (of_variable v) → value_of env v ≡ value_of other v
  value-same env other (Local n) a r = a.tuples.values n r
  value-same env other (Global n) a r = a.outer n r
