-- Tuples with the keys of `group by`, one after the other.
use Rattle.std.proofs.Common.{◌≡◌, ℕ, suc, ◌+◌, List, [], ◌∷◌, ◌++◌, length, Option, Result, Ok, Err, refl, sym, ap, ◌∙◌, append_assoc}
use Rattle.item_tree.specs.declared.item.Item.{Item}
use Rattle.tuple_rows.specs.Keys.{key_data}
use Rattle.stage_laws.specs.Runs.{with_front, joined, met_at, each_from}
use Rattle.clause_eval.specs.Frames.{Entry}
use Rattle.clause_eval.specs.Grouping.{HasKeys, AllHaveKeys}

length_keys : (xs : List (Option Item)) → length (key_data xs) ≡ length xs
length_keys [] = refl
length_keys (x ∷ xs) = ap suc (length_keys xs)

pub have_keys_behind : (n : ℕ) (es : List Entry) (e : Entry) → AllHaveKeys n es → HasKeys n e → AllHaveKeys n (es ++ e ∷ [])
have_keys_behind n [] e a (h, l) = ((h, tt), (length_keys e.0.items ∙ l, tt))
have_keys_behind n (d ∷ es) e ((b, a), (k, m)) h =
    let rest = have_keys_behind n es e (a, m) h in ((b, rest.0), (k, rest.1))

-- one list, a step, and what comes after
fronts : {B E : Type 0} (xs ys : List B) (r : Result (List B) E) → with_front xs (with_front ys r) ≡ with_front (xs ++ ys) r
fronts xs ys (Ok zs) = ap Ok (sym (append_assoc xs ys zs))
fronts xs ys (Err fault) = refl

front_joined : {B E : Type 0} (xs : List B) (r s : Result (List B) E) → with_front xs (joined r s) ≡ joined (with_front xs r) s
front_joined xs (Ok ys) s = fronts xs ys s
front_joined xs (Err fault) s = refl

pub front_next : {A B K F : Type 0} (front : List B) (step n : ℕ) (f : A → Result (List B) F) (x : A) (xs : List A)
    → with_front front (each_from {K = K} step f n (x ∷ xs)) ≡ joined (with_front front (met_at step n (f x))) (each_from step f (n + 1) xs)
front_next front step n f x xs = front_joined front (met_at step n (f x)) (each_from step f (n + 1) xs)
