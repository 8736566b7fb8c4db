-- Tuples with their keys, key by key and tuple by tuple.
use Rattle.std.proofs.Common.{◌≡◌, ℕ, zero, suc, ◌+◌, ◌≤◌, List, [], ◌∷◌, ◌++◌, length, Ok, Err, Option, refl, sym, ap, ◌∙◌, arith, append_assoc}
use Rattle.item_tree.specs.Datum.{Datum}
use Rattle.item_tree.specs.declared.item.Item.{Item}
use Rattle.item_tree.specs.Laws.{IsKey}
use Rattle.seq_types.specs.declared.types.SeqType.{SeqType}
use Rattle.tuple_rows.specs.Keys.{KeyList, Keyed, AllKeys, key_datum, key_data}
use Rattle.group_table.specs.Grouping.{AllKeyed, AllBelow}
use Rattle.order_runs.specs.Orders.{key_lists}
use Rattle.order_runs.specs.Seen.{AllCount}
use Rattle.query_tree.specs.declared.bound.Slot.{Slot}
use Rattle.query_tree.specs.declared.bound.Target.{Target}
use Rattle.query_tree.specs.Plain as p
use Rattle.query_tree.specs.Plain.{PlainGroupVar, PlainGroupVars}
use Rattle.query_meaning.specs.Outcome.{OrFault, ◌>>=◌}
use Rattle.query_meaning.specs.Environment.{Tuple, Environment, Inner, with_value, in_tuple}
use Rattle.query_meaning.specs.Keys.{key_of}
use Rattle.query_meaning.specs.Groups.{with_key, group_key, group_key_value, group_keys}
use Rattle.clause_eval.specs.Grouping.{has_keys, one_more_key, more_keys, HasKeys, AllHaveKeys}
use Rattle.clause_eval.specs.Frames.{Entry}
use Rattle.clause_eval.specs.Positions.{numbers_from}

append_nothing : {A : Type 0} (xs : List A) → xs ++ [] ≡ xs
append_nothing [] = refl
append_nothing (x ∷ xs) = ap (λ ys. x ∷ ys) (append_nothing xs)

-- the same, behind other keys
abbrev pub has_more : KeyList → Keyed → OrFault Keyed
has_more front keyed = Ok (front ++ keyed.0, keyed.1)

rest_case : (front : KeyList) (key : Option Datum) (o : OrFault Keyed)
    → ((o >>= λ keyed. Ok (with_key key keyed)) >>= has_more front) ≡ (o >>= has_more (front ++ key ∷ []))
rest_case front key (Ok rest) = λ i. Ok (sym (append_assoc front (key ∷ []) rest.0) i, rest.1)
rest_case front key (Err e) = refl

key_case : (inner : Inner) (ks : PlainGroupVars Slot Target SeqType) (env : Environment) (front : Keyed) (slot : Slot) (value : List Datum) (o : OrFault (Option Datum))
    → ((o >>= λ key. (group_keys inner ks env (with_value front.1 slot value) >>= λ keyed. Ok (with_key key keyed))) >>= has_more front.0)
    ≡ ((o >>= λ key. has_keys (front.0 ++ key ∷ []) (with_value front.1 slot value)) >>= λ keyed. (group_keys inner ks env keyed.1 >>= has_more keyed.0))
key_case inner ks env front slot value (Ok key) = rest_case front.0 key (group_keys inner ks env (with_value front.1 slot value))
key_case inner ks env front slot value (Err e) = refl

value_case : (inner : Inner) (k : PlainGroupVar Slot Target SeqType) (ks : PlainGroupVars Slot Target SeqType) (env : Environment) (front : Keyed) (o : OrFault (List Datum))
    → ((o >>= λ value. (key_of (group_key k).place value >>= λ key. (group_keys inner ks env (with_value front.1 (group_key k).name value) >>= λ keyed. Ok (with_key key keyed)))) >>= has_more front.0)
    ≡ ((o >>= λ value. (key_of (group_key k).place value >>= λ key. has_keys (front.0 ++ key ∷ []) (with_value front.1 (group_key k).name value))) >>= λ keyed. (group_keys inner ks env keyed.1 >>= has_more keyed.0))
value_case inner k ks env front (Ok value) = key_case inner ks env front (group_key k).name value (key_of (group_key k).place value)
value_case inner k ks env front (Err e) = refl

next_is : (inner : Inner) (k : PlainGroupVar Slot Target SeqType) (ks : PlainGroupVars Slot Target SeqType) (env : Environment) (front : Keyed)
    → (group_keys inner (p.more_group_vars k ks) env front.1 >>= has_more front.0) ≡ (one_more_key inner k env front >>= λ next. (group_keys inner ks env next.1 >>= has_more next.0))
unfolding one_more_key
next_is inner k ks env front = value_case inner k ks env front (group_key_value inner k (in_tuple env front.1))

bind_same : {A B : Type 0} (o : OrFault A) (f g : A → OrFault B) → ((x : A) → f x ≡ g x) → (o >>= f) ≡ (o >>= g)
bind_same (Ok x) f g h = h x
bind_same (Err e) f g h = refl

all_more : (inner : Inner) (ks : PlainGroupVars Slot Target SeqType) (env : Environment) (front : Keyed) → more_keys inner ks env front ≡ (group_keys inner ks env front.1 >>= has_more front.0)
all_more inner p.no_group_vars env front = λ i. Ok (sym (append_nothing front.0) i, front.1)
all_more inner (p.more_group_vars k ks) env front =
    bind_same (one_more_key inner k env front) (more_keys inner ks env) (λ next. (group_keys inner ks env next.1 >>= has_more next.0)) (all_more inner ks env)
    ∙ sym (next_is inner k ks env front)

whole_case : (o : OrFault Keyed) → (o >>= has_more []) ≡ o
whole_case (Ok keyed) = refl
whole_case (Err e) = refl

pub keys_whole : (inner : Inner) (ks : PlainGroupVars Slot Target SeqType) (env : Environment) (tuple : Tuple) → more_keys inner ks env ([], tuple) ≡ group_keys inner ks env tuple
keys_whole inner ks env tuple = all_more inner ks env ([], tuple) ∙ whole_case (group_keys inner ks env tuple)

pub keys_behind : (ks : KeyList) (k : Option Datum) → AllKeys ks → IsKey k → AllKeys (ks ++ k ∷ [])
keys_behind [] k a h = (h, tt)
keys_behind (l ∷ ks) k (b, a) h = (b, keys_behind ks k a h)

pub keyed_behind : (X : List Keyed) (p : Keyed) → AllKeyed X → AllKeys p.0 → AllKeyed (X ++ p ∷ [])
keyed_behind [] p a h = (h, tt)
keyed_behind (q ∷ X) p (b, a) h = (b, keyed_behind X p a h)

pub count_behind : (n : ℕ) (X : List Keyed) (p : Keyed) → AllCount n (key_lists X) → length p.0 ≡ n → AllCount n (key_lists (X ++ p ∷ []))
count_behind n [] p a h = (h, tt)
count_behind n (q ∷ X) p (b, a) h = (b, count_behind n X p a h)

pub slots_below : (width n count : ℕ) → n + count ≤ width → AllBelow width (numbers_from n count)
slots_below width n zero h = tt
slots_below width n (suc count) h = (omega (h, arith), slots_below width (n + 1) count (omega (h, arith)))

length_keys : (xs : List (Option Item)) → length (key_data xs) ≡ length xs
length_keys [] = refl
length_keys (x ∷ xs) = ap suc (length_keys xs)

pub have_keys_behind : (n : ℕ) (es : List Entry) (e : Entry) → AllHaveKeys n es → HasKeys n e → AllHaveKeys n (es ++ e ∷ [])
have_keys_behind n [] e a (h, l) = ((h, tt), (length_keys e.0.items ∙ l, tt))
have_keys_behind n (d ∷ es) e ((b, a), (k, m)) h =
    let rest = have_keys_behind n es e (a, m) h in ((b, rest.0), (k, rest.1))

pub keys_pushed : (xs : List (Option Item)) (k : Option Item) → AllKeys (key_data xs) → IsKey (key_datum k) → AllKeys (key_data (xs ++ k ∷ []))
keys_pushed [] k a h = (h, tt)
keys_pushed (x ∷ xs) k (b, a) h = (b, keys_pushed xs k a h)
