-- Runs one behind the other. For other crates too.
use Rattle.std.proofs.Common.{◌≡◌, ℕ, zero, suc, ◌+◌, ◌-◌, ◌<◌, ◌≤◌, nat_le, Bool, true, false, if◌then◌else◌, List, [], ◌∷◌, ◌++◌, length, map, take, drop, get_or, None, Some, refl, sym, ap, ◌∙◌, subst, append_assoc, append-nil, length-append, arith}
use Rattle.std.specs.Cmp.{IsStrictWeakOrder}
use Rattle.std.proofs.lemmas.Bool.Decides.{nat_tests}
use Rattle.std.proofs.lemmas.List.{map-append, drop_more, take_more, take-append-drop}
use Rattle.tuple_rows.specs.Tuples.{Row, AllOfWidth}
use Rattle.tuple_rows.specs.Keys.{KeyList, Keyed}
use Rattle.order_runs.specs.declared.column.Column.{Column}
use Rattle.order_runs.specs.declared.run.Run.{Run}
use Rattle.order_runs.specs.Clashes.{clash_after, first_clash, later}
use Rattle.order_runs.specs.Orders.{IsOrdered, below, placed, sorted, key_lists, rows}
use Rattle.order_runs.specs.Seen.{AllCount, SeenStandsFor}
use Rattle.order_runs.specs.Runs.{Entry, entry_of, entries_of, run_entries, AllRunsStand, concat, next_run, located, located_in, all_key_lists, RunFits, AllFit, AllSeen, AllCounted}
use Rattle.order_runs.specs.Laws.{or_else}
use Rattle.order_runs.proofs.StableOrder.{AllOrdered, ordered_is, merged}
use Rattle.order_runs.proofs.RowClashes.{clash_behind, clash_inside}

pub seen_at : (rs : List Run) (KS : List (List KeyList)) (i : ℕ) (d : Run) → AllSeen rs KS → i < length rs → SeenStandsFor (get_or rs i d).seen (get_or KS i [])
seen_at [] KS i d a lt = absurd (omega arith)
seen_at (r ∷ rs) [] i d a lt = absurd a
seen_at (r ∷ rs) (K ∷ KS) zero d a lt = a.0
seen_at (r ∷ rs) (K ∷ KS) (suc i) d a lt = seen_at rs KS i d (a.1) (omega arith)

pub seen_length : (rs : List Run) (KS : List (List KeyList)) → AllSeen rs KS → length KS ≡ length rs
seen_length [] [] a = refl
seen_length [] (K ∷ KS) a = absurd a
seen_length (r ∷ rs) [] a = absurd a
seen_length (r ∷ rs) (K ∷ KS) a = ap suc (seen_length rs KS (a.1))

pub counted_at : (n : ℕ) (rs : List Run) (i : ℕ) (d : Run) → AllCounted n rs → i < length rs → length (get_or rs i d).seen.columns ≡ n
counted_at n [] i d a lt = absurd (omega arith)
counted_at n (r ∷ rs) zero d a lt = a.0
counted_at n (r ∷ rs) (suc i) d a lt = counted_at n rs i d (a.1) (omega arith)

concat-append : {A : Type 0} (XS YS : List (List A)) → concat (XS ++ YS) ≡ concat XS ++ concat YS
concat-append [] YS = refl
concat-append (X ∷ XS) YS = ap (λ zs. X ++ zs) (concat-append XS YS) ∙ sym (append_assoc X (concat XS) (concat YS))

pub take_next : {A : Type 0} (XS : List (List A)) (i : ℕ) → i < length XS → concat (take (i + 1) XS) ≡ concat (take i XS) ++ get_or XS i []
take_next {A} XS i lt =
    ap concat (take_more XS i [] lt) ∙ concat-append (take i XS) (get_or XS i [] ∷ []) ∙ ap (λ (zs : List A). concat (take i XS) ++ zs) (append-nil (get_or XS i []))

pub no_clash_next : (P K : List KeyList) → first_clash P ≡ None → clash_after P K ≡ None → first_clash (P ++ K) ≡ None
no_clash_next P K h k = clash_behind [] P K ∙ (λ i. or_else (h i) (later (length P) (k i)))

located_case : (b : Bool) (K : List KeyList) (KS : List (List KeyList)) (m n t c : ℕ) → nat_le m (length K) ≡ b → 1 ≤ t → m ≡ length K + n + t
    → (if b then Some (0, (m, c)) else next_run (located KS (m - length K) c)) ≡ next_run (located KS (n + t) c)
located_case true K KS m n t c h low e = absurd (grind (arith, nat_tests))
located_case false K KS m n t c h low e = let k : m - length K ≡ n + t = omega arith in ap (λ x. next_run (located KS x c)) k

located_at : (KS : List (List KeyList)) (i t c : ℕ) → i < length KS → 1 ≤ t → t ≤ length (get_or KS i []) → located KS (length (concat (take i KS)) + t) c ≡ Some (i, (t, c))
located_at [] i t c lt low high = absurd (omega arith)
located_at (K ∷ KS) zero t c lt low high =
    let m : 0 + t ≡ t = omega arith in
    let b : nat_le t (length K) ≡ true = grind (arith, nat_tests) in
    ap (λ x. located (K ∷ KS) x c) m ∙ ap (λ (x : Bool). if x then Some (0, (t, c)) else next_run (located KS (t - length K) c)) b
located_at (K ∷ KS) (suc i) t c lt low high =
    located_case (nat_le (length (K ++ concat (take i KS)) + t) (length K)) K KS (length (K ++ concat (take i KS)) + t) (length (concat (take i KS))) t c refl low
    (ap (λ x. x + t) (length-append K (concat (take i KS))))
    ∙ ap next_run (located_at KS i t c (omega arith) low high)

split_at : (KS : List (List KeyList)) (i : ℕ) → i < length KS
    → concat KS ≡ concat (take i KS) ++ (get_or KS i [] ++ concat (drop (i + 1) KS))
split_at KS i lt =
    ap concat (sym (take-append-drop i KS) ∙ ap (λ (us : List (List KeyList)). take i KS ++ us) (drop_more KS i [] lt))
    ∙ concat-append (take i KS) (get_or KS i [] ∷ drop (i + 1) KS)

pub conflict_found : (KS : List (List KeyList)) (i t c : ℕ) → i < length KS → first_clash (concat (take i KS)) ≡ None
    → clash_after (concat (take i KS)) (get_or KS i []) ≡ Some (t, c) → located_in KS (first_clash (concat KS)) ≡ Some (i, (t, c))
conflict_found KS i t c lt h k =
    let P : List KeyList = concat (take i KS) in
    let K : List KeyList = get_or KS i [] in
    let R : List KeyList = concat (drop (i + 1) KS) in
    let bounds = clash_inside P K t c k in
    ap (λ us. located_in KS (first_clash us)) (split_at KS i lt)
    ∙ ap (located_in KS)
    (clash_behind [] P (K ++ R) ∙ (λ j. or_else (h j) (later (length P) ((clash_behind P K R ∙ ap (λ o. or_else o (later (length K) (clash_after (P ++ K) R))) k) j))))
    ∙ located_at KS i t c lt (bounds.0) (bounds.1)

pub all_seen : (columns : List Column) (rs : List Run) (XS : List (List Keyed)) → AllRunsStand columns rs XS → AllSeen rs (all_key_lists XS)
all_seen columns [] [] a = tt
all_seen columns [] (X ∷ XS) a = absurd a
all_seen columns (r ∷ rs) [] a = absurd a
all_seen columns (r ∷ rs) (X ∷ XS) a = (a.0.seen, all_seen columns rs XS (a.1))

pub all_counted : (width count : ℕ) (rs : List Run) → AllFit width count rs → AllCounted count rs
all_counted width count [] a = tt
all_counted width count (r ∷ rs) a = (a.0.0, all_counted width count rs (a.1))

-- the merge
run_list : Run → List Keyed
run_list r = entries_of (run_entries r)

entries_concat : (rs : List Run) → entries_of (concat (map run_entries rs)) ≡ concat (map run_list rs)
unfolding run_list
entries_concat [] = refl
entries_concat (r ∷ rs) =
    map-append entry_of (run_entries r) (concat (map run_entries rs)) ∙ ap (λ (zs : List Keyed). entries_of (run_entries r) ++ zs) (entries_concat rs)

all_ordered : (columns : List Column) → IsStrictWeakOrder (below columns) → (rs : List Run) (XS : List (List Keyed)) → AllRunsStand columns rs XS
    → AllOrdered (below columns) XS (map run_list rs)
unfolding run_list
all_ordered columns o [] [] a = tt
all_ordered columns o [] (X ∷ XS) a = absurd a
all_ordered columns o (r ∷ rs) [] a = absurd a
all_ordered columns o (r ∷ rs) (X ∷ XS) a =
    (subst (λ (Y : List Keyed). IsOrdered (below columns) X Y) (sym (a.0.entries)) (ordered_is (below columns) o X), all_ordered columns o rs XS (a.1))

pub merged_sorted : (columns : List Column) → IsStrictWeakOrder (below columns) → (rs : List Run) (XS : List (List Keyed)) → AllRunsStand columns rs XS
    → sorted columns (entries_of (concat (map run_entries rs))) ≡ sorted columns (concat XS)
merged_sorted columns o rs XS a =
    ap (sorted columns) (entries_concat rs)
    ∙ merged (below columns) o XS (map run_list rs) (sorted columns (concat (map run_list rs))) (all_ordered columns o rs XS a)
    (ordered_is (below columns) o (concat (map run_list rs)))

-- widths
placed_wide_case : (b : Bool) (width : ℕ) (columns : List Column) (x y : Keyed) (ys : List Keyed) → length x.1 ≡ width → length y.1 ≡ width
    → AllOfWidth width (rows ys) → AllOfWidth width (rows (placed (below columns) x ys))
    → AllOfWidth width (rows (if b then y ∷ placed (below columns) x ys else (x ∷ y ∷ ys)))
placed_wide_case true width columns x y ys e f a rest = (f, rest)
placed_wide_case false width columns x y ys e f a rest = (e, (f, a))

placed_wide : (width : ℕ) (columns : List Column) (x : Keyed) (ys : List Keyed) → length x.1 ≡ width → AllOfWidth width (rows ys)
    → AllOfWidth width (rows (placed (below columns) x ys))
placed_wide width columns x [] e a = (e, tt)
placed_wide width columns x (y ∷ ys) e a =
    placed_wide_case (below columns y x) width columns x y ys e (a.0) (a.1) (placed_wide width columns x ys e (a.1))

pub sorted_wide : (width : ℕ) (columns : List Column) (X : List Keyed) → AllOfWidth width (rows X) → AllOfWidth width (rows (sorted columns X))
sorted_wide width columns [] a = tt
sorted_wide width columns (x ∷ X) a = placed_wide width columns x (sorted columns X) (a.0) (sorted_wide width columns X (a.1))

both_wide : (width : ℕ) (ts us : List Row) → AllOfWidth width ts → AllOfWidth width us → AllOfWidth width (ts ++ us)
both_wide width [] us a b = b
both_wide width (t ∷ ts) us a b = (a.0, both_wide width ts us (a.1) b)

pub runs_wide : (width count : ℕ) (rs : List Run) → AllFit width count rs → AllOfWidth width (rows (entries_of (concat (map run_entries rs))))
runs_wide width count [] a = tt
runs_wide width count (r ∷ rs) a =
    subst (AllOfWidth width)
    (sym (ap rows (map-append entry_of (run_entries r) (concat (map run_entries rs)))
    ∙ map-append (λ (p : Keyed). p.1) (entries_of (run_entries r)) (entries_of (concat (map run_entries rs)))))
    (both_wide width (rows (entries_of (run_entries r))) (rows (entries_of (concat (map run_entries rs)))) (a.0.1) (runs_wide width count rs (a.1)))

pub fit_pushed : (width count : ℕ) (rs : List Run) (r : Run) → AllFit width count rs → RunFits width count r → AllFit width count (rs ++ r ∷ [])
fit_pushed width count [] r a f = (f, tt)
fit_pushed width count (q ∷ rs) r a f = (a.0, fit_pushed width count rs r (a.1) f)

-- one entry more
pub count_pushed : (w : ℕ) (es new : List Entry) (e : Entry) → new ≡ es ++ e ∷ [] → AllCount w (key_lists (entries_of es))
    → length (entry_of e).0 ≡ w → AllCount w (key_lists (entries_of new))
count_pushed w [] new e is a l = subst (λ (fs : List Entry). AllCount w (key_lists (entries_of fs))) (sym is) (l, tt)
count_pushed w (f ∷ es) new e is a l =
    subst (λ (fs : List Entry). AllCount w (key_lists (entries_of fs))) (sym is) (a.0, count_pushed w es (es ++ e ∷ []) e refl (a.1) l)

pub width_pushed : (w : ℕ) (es new : List Entry) (e : Entry) → new ≡ es ++ e ∷ [] → AllOfWidth w (rows (entries_of es))
    → length (entry_of e).1 ≡ w → AllOfWidth w (rows (entries_of new))
width_pushed w [] new e is a l = subst (λ (fs : List Entry). AllOfWidth w (rows (entries_of fs))) (sym is) (l, tt)
width_pushed w (f ∷ es) new e is a l =
    subst (λ (fs : List Entry). AllOfWidth w (rows (entries_of fs))) (sym is) (a.0, width_pushed w es (es ++ e ∷ []) e refl (a.1) l)
