-- What each of some lists gives, where the lists stand one behind another.
use Rattle.std.proofs.Common.{◌≡◌, ℕ, suc, ◌+◌, List, [], ◌∷◌, ◌++◌, length, Ok, Err, IsOk, refl, sym, ap, ◌∙◌, subst, arith}
use Rattle.std.proofs.lemmas.List.{append_assoc}
use Rattle.item_tree.specs.Datum.{Datum}
use Rattle.item_tree.specs.declared.fault.Fault.{Fault}
use Rattle.query_meaning.specs.Environment.{Tuple}
use Rattle.query_meaning.specs.Laws.{FaultsFirst, EachInOrder, ClausesInOrder}
use Rattle.query_meaning.specs.Outcome.{OrFault, with_front, joined, each_from}

nothing_in_front : {B : Type 0} (r : OrFault (List B)) → with_front [] r ≡ r
nothing_in_front (Ok xs) = refl
nothing_in_front (Err fault) = refl

fronts : {B : Type 0} (xs ys : List B) (r : OrFault (List B)) → with_front xs (with_front ys r) ≡ with_front (xs ++ ys) r
fronts xs ys (Ok zs) = ap Ok (sym (append_assoc xs ys zs))
fronts xs ys (Err fault) = refl

front_joined : {B : Type 0} (xs : List B) (r s : OrFault (List B)) → with_front xs (joined r s) ≡ joined (with_front xs r) s
front_joined xs (Ok ys) s = fronts xs ys s
front_joined xs (Err fault) s = refl

joined_joined : {B : Type 0} (q r s : OrFault (List B)) → joined q (joined r s) ≡ joined (joined q r) s
joined_joined (Ok xs) r s = front_joined xs r s
joined_joined (Err fault) r s = refl

each_behind : {A B : Type 0} (f : ℕ → A → OrFault (List B)) (n : ℕ) (xs ys : List A) → each_from f n (xs ++ ys) ≡ joined (each_from f n xs) (each_from f (n + length xs) ys)
each_behind f n [] ys =
    let e : n + 0 ≡ n = omega arith in
    ap (λ k. each_from f k ys) (sym e) ∙ sym (nothing_in_front (each_from f (n + 0) ys))
each_behind f n (x ∷ xs) ys =
    let e : n + 1 + length xs ≡ n + suc (length xs) = omega arith in
    ap (joined (f n x)) (each_behind f (n + 1) xs ys ∙ ap (λ k. joined (each_from f (n + 1) xs) (each_from f k ys)) e)
    ∙ joined_joined (f n x) (each_from f (n + 1) xs) (each_from f (n + suc (length xs)) ys)

-- a list behind another that is there
front_is_ok : {B : Type 0} (xs : List B) (r : OrFault (List B)) → IsOk r → IsOk (with_front xs r)
front_is_ok xs (Ok ys) h = h
front_is_ok xs (Err fault) h = absurd cc

front_fault : {B : Type 0} (xs : List B) (r : OrFault (List B)) (fault : Fault) → with_front xs r ≡ Err fault → r ≡ Err fault
front_fault xs (Ok ys) fault e = absurd cc
front_fault xs (Err other) fault e = e

with_one_more : {A B : Type 0} (f : ℕ → A → OrFault (List B)) (n : ℕ) (x : A) (xs : List A) (fault : Fault) (ys : List B) → f n x ≡ Ok ys → FaultsFirst f (n + 1) xs fault → FaultsFirst f n (x ∷ xs) fault
with_one_more f n x xs fault ys e first =
    let counted : n + 1 + length first.before ≡ n + suc (length first.before) = omega arith in
    record {
      before = x ∷ first.before;
      at = first.at;
      behind = first.behind;
      parted = ap (λ l. x ∷ l) first.parted;
      given = rw e (front_is_ok ys (each_from f (n + 1) first.before) first.given);
      faults = subst (λ k. f k first.at ≡ Err fault) counted first.faults;
    }

first_case : {A B : Type 0} (r : OrFault (List B)) (f : ℕ → A → OrFault (List B)) (n : ℕ) (x : A) (xs : List A) (fault : Fault) → f n x ≡ r → (each_from f (n + 1) xs ≡ Err fault → FaultsFirst f (n + 1) xs fault) → joined r (each_from f (n + 1) xs) ≡ Err fault → FaultsFirst f n (x ∷ xs) fault
first_case (Ok ys) f n x xs fault e more h =
    with_one_more f n x xs fault ys e (more (front_fault ys (each_from f (n + 1) xs) fault h))
first_case (Err other) f n x xs fault e more h =
    let same : n + 0 ≡ n = omega arith in
    record {
      before = [];
      at = x;
      behind = xs;
      parted = refl;
      given = refl;
      faults = ap (λ k. f k x) same ∙ e ∙ h;
    }

first_fault : {A B : Type 0} (f : ℕ → A → OrFault (List B)) (n : ℕ) (xs : List A) (fault : Fault) → each_from f n xs ≡ Err fault → FaultsFirst f n xs fault
first_fault f n [] fault h = absurd cc
first_fault f n (x ∷ xs) fault h = first_case (f n x) f n x xs fault refl (first_fault f (n + 1) xs fault) h

in_order : (A B : Type 0) → EachInOrder A B
in_order A B = record { behind = each_behind; first = first_fault }

pub clauses_in_order : ClausesInOrder
clauses_in_order = (in_order Tuple Tuple, in_order Tuple Datum)
