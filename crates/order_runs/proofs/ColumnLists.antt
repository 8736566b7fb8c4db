-- What is kept of the columns of tuples.
use Rattle.std.proofs.Common.{◌≡◌, ℕ, zero, suc, ◌+◌, ◌<◌, ◌≤◌, ◌^◌, List, [], ◌∷◌, ◌++◌, length, map, take, drop, get_or, replicate, Option, None, Some, refl, sym, ap, ◌∙◌, subst, append_assoc, arith, length-append}
use Rattle.std.specs.List.{slice_set}
use Rattle.std.proofs.lemmas.List.{map-append, length-map, drop_more, take_more, set_at, get_or_at, length-take, get_or-map, drop_all, take_all, append-nil, get_or_default, take-map}
use Rattle.item_tree.specs.declared.item.Item.{Item}
use Rattle.tuple_rows.specs.Keys.{KeyList, Keyed, key_data, key_datum}
use Rattle.order_runs.specs.declared.column_seen.ColumnSeen.{ColumnSeen}
use Rattle.order_runs.specs.Clashes.{key_class, first_key, other_keys, first_classes, other_columns, clash_after}
use Rattle.order_runs.specs.Orders.{key_lists}
use Rattle.order_runs.specs.Runs.{Entry, entry_of, entries_of}
use Rattle.order_runs.specs.Seen.{column_seen, columns_seen, Seen, AllCount, SeenStandsFor}
use Rattle.order_runs.specs.inside.Follow.{sees, clash_of, followed, IsWithin, AllWithin, followed_columns, clash_list}
use Rattle.order_runs.specs.inside.Columns.{better, in_column, earliest, column_clashes}
use Rattle.order_runs.specs.inside.Notes.{key_columns}
use Rattle.order_runs.specs.inside.Kept.{IsKept}
use Rattle.order_runs.proofs.ColumnClasses.{column_told, column_seen-append, followed_within, placed_more}
use Rattle.order_runs.proofs.RowClashes.{earliest_is}

-- one list behind another
columns-append : (w : ℕ) (K L : List KeyList) → columns_seen w (K ++ L) ≡ followed_columns (length K) (columns_seen w K) (columns_seen w L)
columns-append zero K L = refl
columns-append (suc w) K L =
    (λ i. column_seen (map-append (λ (ks : KeyList). key_class (first_key ks)) K L i) ∷ columns_seen w (map-append other_keys K L i))
    ∙ (λ i. (column_seen-append (first_classes K) (first_classes L) ∙ ap (λ n. followed n (column_seen (first_classes K)) (column_seen (first_classes L))) (length-map K (λ (ks : KeyList). key_class (first_key ks)))) i
    ∷ (columns-append w (other_columns K) (other_columns L) ∙ ap (λ n. followed_columns n (columns_seen w (other_columns K)) (columns_seen w (other_columns L))) (length-map K other_keys)) i)

columns_one : (w : ℕ) (k : KeyList) → length k ≡ w → columns_seen w (k ∷ []) ≡ key_columns k
columns_one zero [] e = refl
columns_one zero (x ∷ xs) e = absurd (omega arith)
columns_one (suc w) [] e = absurd (omega arith)
columns_one (suc w) (x ∷ xs) e = ap (λ cs. column_seen (key_class x ∷ []) ∷ cs) (columns_one w xs (omega arith))

pub length-columns : (w : ℕ) (K : List KeyList) → length (columns_seen w K) ≡ w
length-columns zero K = refl
length-columns (suc w) K = ap suc (length-columns w (other_columns K))

pub length-followed : (n : ℕ) (cs ds : List ColumnSeen) → length (followed_columns n cs ds) ≡ length cs
length-followed n [] ds = refl
length-followed n (c ∷ cs) [] = refl
length-followed n (c ∷ cs) (d ∷ ds) = ap suc (length-followed n cs ds)

count-append : (w : ℕ) (K L : List KeyList) → AllCount w K → AllCount w L → AllCount w (K ++ L)
count-append w [] L a b = b
count-append w (k ∷ K) L a b = (a.0, count-append w K L (a.1) b)

pub stands_behind : (old later new : Seen) (K L : List KeyList) → length later.columns ≡ length old.columns
    → new.tuples ≡ old.tuples + later.tuples → new.columns ≡ followed_columns old.tuples old.columns later.columns
    → SeenStandsFor old K → SeenStandsFor later L → SeenStandsFor new (K ++ L)
stands_behind old later new K L l t e a b =
    let same : length new.columns ≡ length old.columns = ap length e ∙ length-followed old.tuples old.columns later.columns in
    record {
      tuples = t ∙ (λ i. a.tuples i + b.tuples i) ∙ sym (length-append K L);
      columns = e
          ∙ (λ i. followed_columns (a.tuples i) (a.columns i) ((b.columns ∙ ap (λ w. columns_seen w L) l) i))
          ∙ sym (columns-append (length old.columns) K L)
          ∙ ap (λ w. columns_seen w (K ++ L)) (sym same);
      counted = subst (λ w. AllCount w (K ++ L)) (sym same)
          (count-append (length old.columns) K L (a.counted) (subst (λ w. AllCount w L) l (b.counted)));
    }

pub stands_one : (old new : Seen) (K : List KeyList) (k : KeyList) → length k ≡ length old.columns → new.tuples ≡ old.tuples + 1
    → new.columns ≡ followed_columns old.tuples old.columns (key_columns k) → SeenStandsFor old K → SeenStandsFor new (K ++ k ∷ [])
stands_one old new K k l t e a =
    let w : ℕ = length old.columns in
    let one : Seen = record { tuples = 1; columns = columns_seen w (k ∷ []) } in
    stands_behind old one new K (k ∷ []) (length-columns w (k ∷ [])) t
    (e ∙ ap (followed_columns old.tuples old.columns) (sym (columns_one w k l))) a
    (record {
      tuples = refl;
      columns = ap (λ v. columns_seen v (k ∷ [])) (sym (length-columns w (k ∷ [])));
      counted = (l ∙ sym (length-columns w (k ∷ [])), tt);
    })

-- the clashes of columns
clashes_told : (w : ℕ) (B K : List KeyList) → clash_list (columns_seen w K) (columns_seen w B) ≡ column_clashes w B K
clashes_told zero B K = refl
clashes_told (suc w) B K =
    λ i. sym (column_told (first_classes B) (first_classes K)) i ∷ clashes_told w (other_columns B) (other_columns K) i

pub clash_told : (own before : Seen) (B K : List KeyList) → length before.columns ≡ length own.columns → SeenStandsFor before B → SeenStandsFor own K
    → earliest None 0 (clash_list own.columns before.columns) ≡ clash_after B K
clash_told own before B K l a b =
    ap (earliest None 0)
    ((λ i. clash_list (b.columns i) ((a.columns ∙ ap (λ w. columns_seen w B) l) i)) ∙ clashes_told (length own.columns) B K)
    ∙ earliest_is (length own.columns) B K (b.counted)

-- a loop that writes each element anew
pub written_step : {X : Type 0} (T old cur new : List X) (i : ℕ) (x : X) → length T ≡ length old → i < length old
    → cur ≡ take i T ++ drop i old → new ≡ slice_set cur i x → x ≡ get_or T i x → new ≡ take (i + 1) T ++ drop (i + 1) old
written_step {X} T old cur new i x l lt c n e =
    n
    ∙ ap (λ us. slice_set us i x) (c ∙ ap (λ us. take i T ++ us) (drop_more old i x lt))
    ∙ set_at (take i T) (get_or old i x) (drop (i + 1) old) x i (length-take i T ∙ omega arith)
    ∙ sym (append_assoc (take i T) (x ∷ []) (drop (i + 1) old))
    ∙ ap (λ us. us ++ drop (i + 1) old)
    (ap (λ (y : X). take i T ++ y ∷ []) e ∙ sym (take_more T i x (omega arith)))

pub written_read : {X : Type 0} (T old cur : List X) (i : ℕ) (d : X) → length T ≡ length old → i < length old
    → cur ≡ take i T ++ drop i old → get_or cur i d ≡ get_or old i d
written_read T old cur i d l lt c =
    ap (λ us. get_or us i d) (c ∙ ap (λ us. take i T ++ us) (drop_more old i d lt))
    ∙ get_or_at (take i T) (get_or old i d) (drop (i + 1) old) d i (length-take i T ∙ omega arith)

pub followed_at : (n : ℕ) (cs ds : List ColumnSeen) (i : ℕ) (c d : ColumnSeen) → i < length cs → i < length ds
    → get_or (followed_columns n cs ds) i c ≡ followed n (get_or cs i c) (get_or ds i d)
followed_at n [] ds i c d lt m = absurd (omega arith)
followed_at n (x ∷ cs) [] i c d lt m = absurd (omega arith)
followed_at n (x ∷ cs) (y ∷ ds) zero c d lt m = refl
followed_at n (x ∷ cs) (y ∷ ds) (suc i) c d lt m = followed_at n cs ds i c d (omega arith) (omega arith)

pub within_at : (n : ℕ) (cs : List ColumnSeen) (i : ℕ) (d : ColumnSeen) → AllWithin n cs → i < length cs → IsWithin n (get_or cs i d)
within_at n [] i d a lt = absurd (omega arith)
within_at n (c ∷ cs) zero d a lt = a.0
within_at n (c ∷ cs) (suc i) d a lt = within_at n cs i d (a.1) (omega arith)

all_followed : (n m : ℕ) (cs ds : List ColumnSeen) → length ds ≡ length cs → AllWithin n cs → AllWithin m ds → AllWithin (n + m) (followed_columns n cs ds)
all_followed n m [] ds l a b = tt
all_followed n m (c ∷ cs) [] l a b = absurd (omega arith)
all_followed n m (c ∷ cs) (d ∷ ds) l a b = (followed_within n m c d (a.0) (b.0), all_followed n m cs ds (omega arith) (a.1) (b.1))

pub all_more : (m n : ℕ) (cs : List ColumnSeen) → m ≤ n → AllWithin m cs → AllWithin n cs
all_more m n [] le a = tt
all_more m n (c ∷ cs) le a = ((placed_more m n _ le (a.0.0), placed_more m n _ le (a.0.1)), all_more m n cs le (a.1))

key_within : (r : Option _) → IsWithin 1 (column_seen (r ∷ []))
key_within None = (tt, tt)
key_within (Some c) = (omega arith, tt)

keys_within : (ks : KeyList) → AllWithin 1 (key_columns ks)
keys_within [] = tt
keys_within (k ∷ ks) = (key_within (key_class k), keys_within ks)

pub kept_behind : (n m : ℕ) (cs ds es : List ColumnSeen) → n + m < 2 ^ 60 → length ds ≡ length cs → es ≡ followed_columns n cs ds
    → IsKept n cs → AllWithin m ds → IsKept (n + m) es
kept_behind n m cs ds es lt l e a b = record {
  most_tuples = lt;
  most_columns = subst (λ w. w < 2 ^ 32) (sym (ap length e ∙ length-followed n cs ds)) (a.most_columns);
  within = subst (AllWithin (n + m)) (sym e) (all_followed n m cs ds l (a.within) b);
}

pub kept_one : (n : ℕ) (cs es : List ColumnSeen) (ks : KeyList) → n + 1 < 2 ^ 60 → length ks ≡ length cs → es ≡ followed_columns n cs (key_columns ks)
    → IsKept n cs → IsKept (n + 1) es
kept_one n cs es ks lt l e a = kept_behind n 1 cs (key_columns ks) es lt (length-map ks (λ k. column_seen (key_class k ∷ [])) ∙ l) e a (keys_within ks)

-- no tuples
pub columns_empty : (w : ℕ) → columns_seen w [] ≡ replicate w (column_seen [])
columns_empty zero = refl
columns_empty (suc w) = ap (λ cs. column_seen [] ∷ cs) (columns_empty w)

pub within_empty : (n w : ℕ) → AllWithin n (columns_seen w [])
within_empty n zero = tt
within_empty n (suc w) = ((tt, tt), within_empty n w)

-- a loop over columns that looks for the earliest clash
length-clashes : (cs bs : List ColumnSeen) → length bs ≡ length cs → length (clash_list cs bs) ≡ length cs
length-clashes [] bs l = refl
length-clashes (c ∷ cs) [] l = absurd (omega arith)
length-clashes (c ∷ cs) (b ∷ bs) l = ap suc (length-clashes cs bs (omega arith))

clash_at : (cs bs : List ColumnSeen) (i : ℕ) (d : ColumnSeen) (o : Option ℕ) → length bs ≡ length cs → i < length cs
    → get_or (clash_list cs bs) i o ≡ clash_of (sees (get_or bs i d)) (get_or cs i d)
clash_at [] bs i d o l lt = absurd (omega arith)
clash_at (c ∷ cs) [] i d o l lt = absurd (omega arith)
clash_at (c ∷ cs) (b ∷ bs) zero d o l lt = refl
clash_at (c ∷ cs) (b ∷ bs) (suc i) d o l lt = clash_at cs bs i d o (omega arith) (omega arith)

pub earliest_step : (cs bs : List ColumnSeen) (i : ℕ) (d : ColumnSeen) (best next whole : Option (ℕ × ℕ)) (o : Option ℕ)
    → length bs ≡ length cs → i < length cs → o ≡ clash_of (sees (get_or bs i d)) (get_or cs i d) → next ≡ better best (in_column i o)
    → earliest best i (drop i (clash_list cs bs)) ≡ whole → earliest next (i + 1) (drop (i + 1) (clash_list cs bs)) ≡ whole
earliest_step cs bs i d best next whole o l lt e n h =
    let within : i < length (clash_list cs bs) = subst (λ k. i < k) (sym (length-clashes cs bs l)) lt in
    ap (λ b. earliest b (i + 1) (drop (i + 1) (clash_list cs bs))) (n ∙ ap (λ x. better best (in_column i x)) (e ∙ sym (clash_at cs bs i d None l lt)))
    ∙ ap (earliest best i) (sym (drop_more (clash_list cs bs) i None within))
    ∙ h

pub earliest_end : (cs bs : List ColumnSeen) (i : ℕ) (best whole : Option (ℕ × ℕ)) → length bs ≡ length cs → length cs ≤ i
    → earliest best i (drop i (clash_list cs bs)) ≡ whole → best ≡ whole
earliest_end cs bs i best whole l le h =
    ap (earliest best i) (sym (drop_all i (clash_list cs bs) (subst (λ k. k ≤ i) (sym (length-clashes cs bs l)) le))) ∙ h

pub written_end : {X : Type 0} (T old cur : List X) (i : ℕ) → length T ≡ length old → length old ≤ i → cur ≡ take i T ++ drop i old → cur ≡ T
written_end T old cur i l le c =
    c ∙ (λ k. take_all i T (omega arith) k ++ drop_all i old le k) ∙ append-nil T

pub count_at : (w : ℕ) (K : List KeyList) (i : ℕ) (d : KeyList) → AllCount w K → i < length K → length (get_or K i d) ≡ w
count_at w [] i d a lt = absurd (omega arith)
count_at w (k ∷ K) zero d a lt = a.0
count_at w (k ∷ K) (suc i) d a lt = count_at w K i d (a.1) (omega arith)

pub count_take : (w n : ℕ) (K : List KeyList) → AllCount w K → AllCount w (take n K)
count_take w zero K a = tt
count_take w (suc n) [] a = tt
count_take w (suc n) (k ∷ K) a = (a.0, count_take w n K (a.1))

pub written_value : (n : ℕ) (old ds cur : List ColumnSeen) (i : ℕ) (v r d : ColumnSeen) → length ds ≡ length old → i < length ds
    → cur ≡ take i (followed_columns n old ds) ++ drop i old → v ≡ get_or cur i v → r ≡ followed n v (get_or ds i d)
    → r ≡ get_or (followed_columns n old ds) i r
written_value n old ds cur i v r d l lt c e f =
    let within : i < length old = omega arith in
    f
    ∙ ap (λ x. followed n x (get_or ds i d))
    (e ∙ written_read (followed_columns n old ds) old cur i v (length-followed n old ds) within c ∙ get_or_default old i v r within)
    ∙ sym (followed_at n old ds i r d within lt)

pub key_column_at : (keys : List (Option Item)) (i : ℕ) (k : Option Item) (d : ColumnSeen) → i < length keys → k ≡ get_or keys i k
    → get_or (key_columns (key_data keys)) i d ≡ column_seen (key_class (key_datum k) ∷ [])
key_column_at keys i k d lt e =
    get_or-map (λ x. column_seen (key_class x ∷ [])) (key_data keys) i (key_datum k) d (subst (λ n. i < n) (sym (length-map keys key_datum)) lt)
    ∙ ap (λ x. column_seen (key_class x ∷ [])) (get_or-map key_datum keys i k (key_datum k) lt ∙ ap key_datum (sym e))

pub length-key_columns : (keys : List (Option Item)) → length (key_columns (key_data keys)) ≡ length keys
length-key_columns keys = length-map (key_data keys) (λ x. column_seen (key_class x ∷ [])) ∙ length-map keys key_datum

-- the keys of entries of the code
pub entry_count : (w : ℕ) (es : List Entry) (i : ℕ) (e : Entry) → AllCount w (key_lists (entries_of es)) → i < length es → e ≡ get_or es i e
    → length (e.0.items) ≡ w
entry_count w es i e a lt is =
    sym (length-map (e.0.items) key_datum)
    ∙ ap (λ (f : Entry). length (entry_of f).0) is
    ∙ ap length (sym (get_or-map (λ (f : Entry). (entry_of f).0) es i e (entry_of e).0 lt) ∙ ap (λ K. get_or K i (entry_of e).0) (sym (keys_are es)))
    ∙ count_at w (key_lists (entries_of es)) i (entry_of e).0 a (subst (λ n. i < n) (sym (ap length (keys_are es) ∙ length-map es (λ (f : Entry). (entry_of f).0))) lt)
  where
    keys_are : (fs : List Entry) → key_lists (entries_of fs) ≡ map (λ (f : Entry). (entry_of f).0) fs
    keys_are [] = refl
    keys_are (f ∷ fs) = ap (λ K. (entry_of f).0 ∷ K) (keys_are fs)

pub keys_take : (n : ℕ) (es : List Entry) → key_lists (entries_of (take n es)) ≡ take n (key_lists (entries_of es))
keys_take n es = ap key_lists (sym (take-map entry_of n es)) ∙ sym (take-map (λ (p : Keyed). p.0) n (entries_of es))

pub length-keys : (es : List Entry) → length (key_lists (entries_of es)) ≡ length es
length-keys es = length-map (entries_of es) (λ (p : Keyed). p.0) ∙ length-map es entry_of
