-- Positions that stand in lists of the code.
use Rattle.std.proofs.Common.{◌≡◌, ℕ, zero, suc, ◌+◌, ◌<◌, ◌≤◌, Bool, true, false, not, cond, nat_lt, if◌then◌else◌, List, [], ◌∷◌, ◌++◌, length, get_or, take, slice_get, slice_set, Option, Some, None, Result, Ok, Err, is_some, OnOk, Vec, refl, sym, ap, ◌∙◌, subst, arith}
use Rattle.std.specs.List.{position_or_len, position}
use Rattle.std.specs.declared.alloc.Global.{Global}
use Rattle.std.proofs.lemmas.Bool.{ltb-true, ltb-false, le-ltb}
use Rattle.std.proofs.lemmas.List.{map-append, take_more, length-take-le, length-map}
use Rattle.item_tree.specs.declared.item.Item.{Item}
use Rattle.item_tree.specs.declared.key.Key.{Key}
use Rattle.item_tree.specs.declared.class.Class.{Class}
use Rattle.item_tree.specs.Datum.{Datum, null, boolean, integer, decimal, text, date, date_time, array, object}
use Rattle.item_tree.specs.Classes.{class_of}
use Rattle.item_tree.specs.Compare.{Atom, atom, order_if, is_equal}
use Rattle.item_tree.specs.Keys.{atom_of}
use Rattle.tuple_rows.specs.Keys.{key_datum, key_data}
use Rattle.eq_join.specs.inside.Places.{is_of, found, put_position, position_lists}

abbrev Positions : Type 0
Positions = Vec ℕ Global

-- an element that was read stands in its place
pub read_at : {X : Type 0} (xs : List X) (i : ℕ) (v : X) → i < length xs → v ≡ get_or xs i v → slice_get xs i ≡ Some v
read_at [] i v lt e = absurd (omega arith)
read_at (x ∷ xs) zero v lt e = ap (λ y. Some y) (sym e)
read_at (x ∷ xs) (suc i) v lt e = read_at xs i v (omega arith) e

pub nothing_at : {X : Type 0} (xs : List X) (i : ℕ) → length xs ≤ i → slice_get xs i ≡ None
nothing_at [] zero le = refl
nothing_at [] (suc i) le = refl
nothing_at (x ∷ xs) zero le = absurd (omega arith)
nothing_at (x ∷ xs) (suc i) le = nothing_at xs i (omega arith)

-- a position goes behind those of its place
pub put_there : (vs : List Positions) (i at : ℕ) (v w : Positions) → slice_get vs i ≡ Some v → w.items ≡ v.items ++ at ∷ []
    → position_lists (slice_set vs i w) ≡ put_position i at (position_lists vs)
put_there [] i at v w h e = absurd cc
put_there (x ∷ vs) zero at v w h e =
    let same : x ≡ v = cc in
    ap (λ (js : List ℕ). js ∷ position_lists vs) (e ∙ ap (λ (y : Positions). y.items ++ at ∷ []) (sym same))
put_there (x ∷ vs) (suc i) at v w h e = ap (λ (ls : List (List ℕ)). x.items ∷ ls) (put_there vs i at v w h e)

-- or into a list that goes last
pub put_last : (vs : List Positions) (i at : ℕ) (w : Positions) → length vs ≤ i → w.items ≡ at ∷ []
    → position_lists (vs ++ w ∷ []) ≡ put_position i at (position_lists vs)
put_last [] i at w le e = ap (λ (js : List ℕ). js ∷ []) e
put_last (x ∷ vs) zero at w le e = absurd (omega arith)
put_last (x ∷ vs) (suc i) at w le e = ap (λ (ls : List (List ℕ)). x.items ∷ ls) (put_last vs i at w (omega arith) e)

-- where no key passes, nothing is found
absent_case : (b : Bool) (n m : ℕ) (js rest : List ℕ) → suc m ≤ cond (not b) (1 + n) 0 → (m ≤ n → rest ≡ []) → (if b then js else rest) ≡ []
absent_case true n m js rest le more = absurd (omega arith)
absent_case false n m js rest le more = more (omega arith)

absent : (test : Key → Bool) (keys : List Key) (lists : List (List ℕ)) → length keys ≤ position_or_len test keys → found test keys lists ≡ []
absent test [] lists le = refl
absent test (k ∷ keys) [] le = refl
absent test (k ∷ keys) (js ∷ lists) le =
    absent_case (test k) (position_or_len test keys) (length keys) js (found test keys lists) le (absent test keys lists)

none_case : (n m : ℕ) (b : Bool) → nat_lt n m ≡ b → cond b (Some n) None ≡ None → m ≤ n
none_case n m true e h = absurd cc
none_case n m false e h = ltb-false n m e

pub none_found : (test : Key → Bool) (keys : List Key) (lists : List (List ℕ)) → position test keys ≡ None → found test keys lists ≡ []
none_found test keys lists h =
    absent test keys lists (none_case (position_or_len test keys) (length keys) (nat_lt (position_or_len test keys) (length keys)) refl h)

-- where the first one that passes has a list, that one is found
abbrev listed : Option Positions → List ℕ
listed None = []
listed (Some v) = v.items

there_case : (b : Bool) (n m : ℕ) (x : Positions) (vs : List Positions) (rest : List ℕ) → cond (not b) (1 + n) 0 < suc m
    → (n < m → rest ≡ listed (slice_get vs n)) → (if b then x.items else rest) ≡ listed (slice_get (x ∷ vs) (cond (not b) (1 + n) 0))
there_case true n m x vs rest lt more = refl
there_case false n m x vs rest lt more =
    let next : suc n ≡ 1 + n = omega arith in
    more (omega arith) ∙ ap (λ (i : ℕ). listed (slice_get (x ∷ vs) i)) next

no_list : (i : ℕ) → [] ≡ listed (slice_get [] i)
no_list zero = refl
no_list (suc i) = refl

there : (test : Key → Bool) (keys : List Key) (vs : List Positions) → position_or_len test keys < length keys
    → found test keys (position_lists vs) ≡ listed (slice_get vs (position_or_len test keys))
there test [] vs lt = absurd (omega arith)
there test (k ∷ keys) [] lt = no_list (position_or_len test (k ∷ keys))
there test (k ∷ keys) (x ∷ vs) lt =
    there_case (test k) (position_or_len test keys) (length keys) x vs (found test keys (position_lists vs)) lt (there test keys vs)

some_case : (n m i : ℕ) (b : Bool) → nat_lt n m ≡ b → cond b (Some n) None ≡ Some i → (n < m) × (n ≡ i)
some_case n m i true e h = (ltb-true n m e, cc)
some_case n m i false e h = absurd cc

pub some_found : (test : Key → Bool) (keys : List Key) (vs : List Positions) (i : ℕ) (o : Option Positions) → position test keys ≡ Some i
    → slice_get vs i ≡ o → found test keys (position_lists vs) ≡ listed o
some_found test keys vs i o h e =
    let which = some_case (position_or_len test keys) (length keys) i (nat_lt (position_or_len test keys) (length keys)) refl h in
    there test keys vs which.0 ∙ ap (λ (j : ℕ). listed (slice_get vs j)) which.1 ∙ ap listed e

-- no key is what an array or object is
class_none : (v : Datum) → class_of v ≡ None → atom v ≡ None
class_none null h = absurd cc
class_none (boolean b) h = absurd cc
class_none (integer n) h = absurd cc
class_none (decimal n) h = absurd cc
class_none (text t) h = absurd cc
class_none (date d) h = absurd cc
class_none (date_time t) h = absurd cc
class_none (array vs) h = refl
class_none (object ms) h = refl

pub no_class : (v : Datum) (o : Option Class) (none : Bool) → none ≡ true → not none ≡ is_some o → o ≡ class_of v → atom v ≡ None
no_class v None none t h e = class_none v (sym e)
no_class v (Some k) none t h e = let off : not none ≡ false = ap not t in absurd cc

never : (v : Datum) → atom v ≡ None → (keys : List Key) → length keys ≤ position_or_len (is_of v) keys
never v h [] = omega arith
never v h (k ∷ keys) =
    let off : is_of v k ≡ false = ap (λ (a : Option Atom). is_equal (order_if a (Some (atom_of k)))) h in
    let rest : length keys ≤ position_or_len (is_of v) keys = never v h keys in
    subst (λ (b : Bool). suc (length keys) ≤ cond (not b) (1 + position_or_len (is_of v) keys) 0) (sym off) (omega arith)

pub none_is_of : (v : Datum) (keys : List Key) → atom v ≡ None → None ≡ position (is_of v) keys
none_is_of v keys h =
    sym (ap (λ (b : Bool). cond b (Some (position_or_len (is_of v) keys)) None)
    (le-ltb (position_or_len (is_of v) keys) (length keys) (never v h keys)))

-- one element more
pub length_so_far : (keys : List (Option Item)) (i : ℕ) → i < length keys → length (key_data (take i keys)) ≡ i
length_so_far keys i lt = length-map (take i keys) key_datum ∙ length-take-le i keys (omega arith)

pub one_more : (keys : List (Option Item)) (i : ℕ) (k : Option Item) → i < length keys → k ≡ get_or keys i k
    → key_data (take (i + 1) keys) ≡ key_data (take i keys) ++ key_datum k ∷ []
one_more keys i k lt e =
    ap key_data (take_more keys i k lt ∙ ap (λ (j : Option Item). take i keys ++ j ∷ []) (sym e)) ∙ map-append key_datum (take i keys) (k ∷ [])

pub on_ok : {T E : Type 0} {P Q : Type 0} (r : Result T E) → (P → Q) → OnOk r P → OnOk r Q
on_ok (Ok x) f h = f h
on_ok (Err e) f h = h
