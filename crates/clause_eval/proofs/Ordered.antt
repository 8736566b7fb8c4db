-- Keys of tuples one behind the other, and entries in their order.
use Rattle.std.proofs.Common.{◌≡◌, ℕ, ◌+◌, Bool, true, false, if◌then◌else◌, List, [], ◌∷◌, ◌++◌, Ok, Err, Option, Some, None, refl, sym, ap, ◌∙◌}
use Rattle.std.proofs.lemmas.List.{append_assoc}
use Rattle.item_tree.specs.Datum.{Datum}
use Rattle.seq_types.specs.declared.types.SeqType.{SeqType}
use Rattle.tuple_rows.specs.Keys.{KeyList, Keyed}
use Rattle.order_runs.specs.declared.column.Column.{Column}
use Rattle.order_runs.specs.Clashes.{clash_column, clash_or_later, clash_after}
use Rattle.order_runs.specs.Runs.{keyed_below}
use Rattle.order_runs.specs.Orders.{below, placed, ordered, sorted, key_lists}
use Rattle.query_tree.specs.declared.bound.Slot.{Slot}
use Rattle.query_tree.specs.declared.bound.Target.{Target}
use Rattle.query_tree.specs.Plain.{PlainOrderKeys}
use Rattle.query_meaning.specs.Outcome.{OrFault, ◌>>=◌, with_front, at_tuple}
use Rattle.query_meaning.specs.Environment.{Tuple, Environment, Inner, in_tuple}
use Rattle.query_meaning.specs.Orders.{compared_keys, keyed_from}
use Rattle.clause_eval.specs.Frames.{Entry, keyed_of, keyed_list}
use Rattle.clause_eval.specs.Ordering.{keyed_at, clashing_column}

-- one more key in front
pub front_key : (front : KeyList) (k : Option Datum) (o : OrFault KeyList) → with_front front (o >>= λ ks. Ok (k ∷ ks)) ≡ with_front (front ++ k ∷ []) o
front_key front k (Ok ks) = ap (λ xs. Ok xs) (sym (append_assoc front (k ∷ []) ks))
front_key front k (Err e) = refl

lists_behind : (X Y : List Keyed) → key_lists (X ++ Y) ≡ key_lists X ++ key_lists Y
lists_behind [] Y = refl
lists_behind (p ∷ X) Y = ap (λ K. p.0 ∷ K) (lists_behind X Y)

front_keyed : (front : List Keyed) (p : Keyed) (o : OrFault (List Keyed)) → with_front front (o >>= λ X. Ok (p ∷ X)) ≡ with_front (front ++ p ∷ []) o
front_keyed front p (Ok X) = ap (λ xs. Ok xs) (sym (append_assoc front (p ∷ []) X))
front_keyed front p (Err e) = refl

-- one more tuple with its keys
step_by : (inner : Inner) (number : ℕ) (keys : PlainOrderKeys Slot Target SeqType) (env : Environment) (front : List Keyed) (n : ℕ) (t : Tuple) (ts : List Tuple) (o : OrFault KeyList)
    → with_front front (o >>= λ found. (keyed_from inner number keys env (key_lists front ++ found ∷ []) (n + 1) ts >>= λ X. Ok ((found, t) ∷ X)))
    ≡ (with_front front (o >>= λ found. Ok ((found, t) ∷ [])) >>= λ G. with_front G (keyed_from inner number keys env (key_lists G) (n + 1) ts))
step_by inner number keys env front n t ts (Ok found) =
    front_keyed front (found, t) (keyed_from inner number keys env (key_lists front ++ found ∷ []) (n + 1) ts)
    ∙ ap (λ K. with_front (front ++ (found, t) ∷ []) (keyed_from inner number keys env K (n + 1) ts)) (sym (lists_behind front ((found, t) ∷ [])))
step_by inner number keys env front n t ts (Err e) = refl

pub keyed_next : (inner : Inner) (number : ℕ) (keys : PlainOrderKeys Slot Target SeqType) (env : Environment) (front : List Keyed) (n : ℕ) (t : Tuple) (ts : List Tuple)
    → with_front front (keyed_from inner number keys env (key_lists front) n (t ∷ ts))
    ≡ (with_front front (keyed_at inner number keys env (key_lists front) n t) >>= λ G. with_front G (keyed_from inner number keys env (key_lists G) (n + 1) ts))
unfolding keyed_at
keyed_next inner number keys env front n t ts = step_by inner number keys env front n t ts (at_tuple number n (compared_keys inner keys (key_lists front) (in_tuple env t)))

-- a clash of one tuple with those before it
one_case : (o : Option ℕ) → clashing_column (clash_or_later o None) ≡ o
one_case None = refl
one_case (Some c) = refl

pub one_clash : (before : List KeyList) (ks : KeyList) → clashing_column (clash_after before (ks ∷ [])) ≡ clash_column before ks
one_clash before ks = one_case (clash_column before ks)

-- entries are ordered as what they stand for
placed_case : (b : Bool) (cs : List Column) (e f : Entry) (fs : List Entry)
    → keyed_list (placed (keyed_below cs) e fs) ≡ placed (below cs) (keyed_of e) (keyed_list fs)
    → keyed_list (if b then f ∷ placed (keyed_below cs) e fs else (e ∷ f ∷ fs))
    ≡ (if b then keyed_of f ∷ placed (below cs) (keyed_of e) (keyed_list fs) else (keyed_of e ∷ keyed_of f ∷ keyed_list fs))
placed_case true cs e f fs h = ap (λ ps. keyed_of f ∷ ps) h
placed_case false cs e f fs h = refl

entries_placed : (cs : List Column) (e : Entry) (fs : List Entry) → keyed_list (placed (keyed_below cs) e fs) ≡ placed (below cs) (keyed_of e) (keyed_list fs)
entries_placed cs e [] = refl
entries_placed cs e (f ∷ fs) = placed_case (keyed_below cs f e) cs e f fs (entries_placed cs e fs)

pub entries_ordered : (cs : List Column) (es : List Entry) → keyed_list (ordered (keyed_below cs) es) ≡ sorted cs (keyed_list es)
entries_ordered cs [] = refl
entries_ordered cs (e ∷ es) = entries_placed cs e (ordered (keyed_below cs) es) ∙ ap (λ X. placed (below cs) (keyed_of e) X) (entries_ordered cs es)
