-- The first clash of tuples is the earliest of those of their columns. For other crates too.
use Rattle.std.proofs.Common.{◌≡◌, ℕ, zero, suc, ◌+◌, ◌≤◌, nat_lt, Bool, true, false, if◌then◌else◌, List, [], ◌∷◌, ◌++◌, length, Option, None, Some, refl, sym, ap, ◌∙◌, append-nil, append_assoc, arith}
use Rattle.std.proofs.lemmas.Bool.Decides.{nat_tests}
use Rattle.std.proofs.lemmas.List.{map-append}
use Rattle.tuple_rows.specs.Keys.{KeyList}
use Rattle.order_runs.specs.Clashes.{key_class, clashes, first_key, other_keys, first_classes, other_columns, next_column, clash_column, later, clash_or_later, clash_after}
use Rattle.order_runs.specs.Seen.{further, AllCount}
use Rattle.order_runs.specs.Laws.{or_else, ClashesAreEarliest}
use Rattle.order_runs.specs.inside.Columns.{better, in_column, earliest, column_clash, column_clashes}

-- from the left, column by column
abbrev next_place : Option (ℕ × ℕ) → Option (ℕ × ℕ)
next_place None = None
next_place (Some p) = Some (p.0, suc p.1)

abbrev first_of : List (Option ℕ) → Option (ℕ × ℕ)
first_of [] = None
first_of (o ∷ os) = better (in_column 0 o) (next_place (first_of os))

abbrev moved : ℕ → Option (ℕ × ℕ) → Option (ℕ × ℕ)
moved j None = None
moved j (Some p) = Some (p.0, j + p.1)

better_none : (a : Option (ℕ × ℕ)) → a ≡ better a None
better_none None = refl
better_none (Some a) = refl

better_case : (p q s : Bool) (a b c : ℕ × ℕ) → nat_lt b.0 a.0 ≡ p → nat_lt c.0 b.0 ≡ q → nat_lt c.0 a.0 ≡ s
    → better (if p then Some b else Some a) (Some c) ≡ better (Some a) (if q then Some c else Some b)
better_case true true true a b c h k l =
    ap (λ x. if x then Some c else Some b) k ∙ sym (ap (λ x. if x then Some c else Some a) l)
better_case true true false a b c h k l = absurd (grind (arith, nat_tests))
better_case true false s a b c h k l =
    ap (λ x. if x then Some c else Some b) k ∙ sym (ap (λ x. if x then Some b else Some a) h)
better_case false true s a b c h k l = refl
better_case false false true a b c h k l = absurd (grind (arith, nat_tests))
better_case false false false a b c h k l =
    ap (λ x. if x then Some c else Some a) l ∙ sym (ap (λ x. if x then Some b else Some a) h)

better_assoc : (a b c : Option (ℕ × ℕ)) → better (better a b) c ≡ better a (better b c)
better_assoc None b c = refl
better_assoc (Some a) None c = refl
better_assoc (Some a) (Some b) None = sym (better_none (if nat_lt b.0 a.0 then Some b else Some a))
better_assoc (Some a) (Some b) (Some c) =
    better_case (nat_lt b.0 a.0) (nat_lt c.0 b.0) (nat_lt c.0 a.0) a b c refl refl refl

moved_next : (j : ℕ) (a : Option (ℕ × ℕ)) → moved (j + 1) a ≡ moved j (next_place a)
moved_next j None = refl
moved_next j (Some p) = ap (λ n. Some (p.0, n)) (omega arith)

moved_case : (b : Bool) (j : ℕ) (p q : ℕ × ℕ) → (if b then moved j (Some q) else moved j (Some p)) ≡ moved j (if b then Some q else Some p)
moved_case true j p q = refl
moved_case false j p q = refl

moved_better : (j : ℕ) (a b : Option (ℕ × ℕ)) → better (moved j a) (moved j b) ≡ moved j (better a b)
moved_better j None b = refl
moved_better j (Some a) None = refl
moved_better j (Some a) (Some b) = moved_case (nat_lt b.0 a.0) j a b

moved_in : (j : ℕ) (o : Option ℕ) → in_column j o ≡ moved j (in_column 0 o)
moved_in j None = refl
moved_in j (Some t) = ap (λ n. Some (t + 1, n)) (omega arith)

earliest_first : (best : Option (ℕ × ℕ)) (j : ℕ) (os : List (Option ℕ)) → earliest best j os ≡ better best (moved j (first_of os))
earliest_first best j [] = better_none best
earliest_first best j (o ∷ os) =
    earliest_first (better best (in_column j o)) (j + 1) os
    ∙ better_assoc best (in_column j o) (moved (j + 1) (first_of os))
    ∙ ap (better best) ((λ i. better (moved_in j o i) (moved_next j (first_of os) i)) ∙ moved_better j (in_column 0 o) (next_place (first_of os)))

moved_none : (a : Option (ℕ × ℕ)) → moved 0 a ≡ a
moved_none None = refl
moved_none (Some p) = ap (λ n. Some (p.0, n)) (omega arith)

-- one tuple more in front
next_not_before : (r : Option (ℕ × ℕ)) → better (Some (1, 0)) (next_place (later 1 r)) ≡ Some (1, 0)
next_not_before None = refl
next_not_before (Some p) =
    let b : nat_lt (1 + p.0) 1 ≡ false = grind (arith, nat_tests) in
    ap (λ x. if x then Some (1 + p.0, suc p.1) else Some (1, 0)) b

now_first : (c : Option ℕ) (r : Option (ℕ × ℕ)) → better (Some (1, 0)) (next_place (clash_or_later c r)) ≡ Some (1, 0)
now_first None r = next_not_before r
now_first (Some c) r = refl

later_column : (o : Option ℕ) (c : ℕ) → better (in_column 0 (further o)) (Some (1, suc c)) ≡ Some (1, suc c)
later_column None c = refl
later_column (Some t) c =
    let b : nat_lt 1 (suc t + 1) ≡ true = grind (arith, nat_tests) in
    ap (λ x. if x then Some (1, suc c) else Some (suc t + 1, 0)) b

both_case : (b : Bool) (t : ℕ) (p : ℕ × ℕ) → (if b then Some (1 + p.0, suc p.1) else Some (suc t + 1, 0)) ≡ later 1 (if b then Some (p.0, suc p.1) else Some (t + 1, 0))
both_case true t p = refl
both_case false t p = ap (λ n. Some (n, 0)) (omega arith)

both_later : (o : Option ℕ) (r : Option (ℕ × ℕ)) → better (in_column 0 (further o)) (next_place (later 1 r)) ≡ later 1 (better (in_column 0 o) (next_place r))
both_later None None = refl
both_later None (Some p) = refl
both_later (Some t) None = ap (λ n. Some (n, 0)) (omega arith)
both_later (Some t) (Some p) =
    let b : nat_lt (1 + p.0) (suc t + 1) ≡ nat_lt p.0 (t + 1) = grind (arith, nat_tests) in
    ap (λ x. if x then Some (1 + p.0, suc p.1) else Some (suc t + 1, 0)) b ∙ both_case (nat_lt p.0 (t + 1)) t p

column_case : (b : Bool) (o c : Option ℕ) (r : Option (ℕ × ℕ))
    → better (in_column 0 (if b then Some 0 else further o)) (next_place (clash_or_later c r))
    ≡ clash_or_later (if b then Some 0 else next_column c) (better (in_column 0 o) (next_place r))
column_case true o c r = now_first c r
column_case false o (Some c) r = later_column o c
column_case false o None r = both_later o r

first_front : (w : ℕ) (earlier : List KeyList) (k : KeyList) (K : List KeyList) → length k ≡ w
    → first_of (column_clashes w earlier (k ∷ K)) ≡ clash_or_later (clash_column earlier k) (first_of (column_clashes w (earlier ++ k ∷ []) K))
first_front zero earlier [] K e = refl
first_front zero earlier (x ∷ xs) K e = absurd (omega arith)
first_front (suc w) earlier [] K e = absurd (omega arith)
first_front (suc w) earlier (x ∷ xs) K e =
    let now : Bool = clashes (first_classes earlier) (key_class x) in
    let o : Option ℕ = column_clash (first_classes earlier ++ key_class x ∷ []) (first_classes K) in
    let rest : Option (ℕ × ℕ) = first_of (column_clashes w (other_columns earlier ++ xs ∷ []) (other_columns K)) in
    ap (λ r. better (in_column 0 (if now then Some 0 else further o)) (next_place r)) (first_front w (other_columns earlier) xs (other_columns K) (omega arith))
    ∙ column_case now o (clash_column (other_columns earlier) xs) rest
    ∙ ap (clash_or_later (if now then Some 0 else next_column (clash_column (other_columns earlier) xs)))
    (λ i. better
    (in_column 0 (column_clash (sym (map-append (λ (ks : KeyList). key_class (first_key ks)) earlier ((x ∷ xs) ∷ [])) i) (first_classes K)))
    (next_place (first_of (column_clashes w (sym (map-append other_keys earlier ((x ∷ xs) ∷ [])) i) (other_columns K)))))

first_empty : (w : ℕ) (earlier : List KeyList) → first_of (column_clashes w earlier []) ≡ None
first_empty zero earlier = refl
first_empty (suc w) earlier = ap next_place (first_empty w (other_columns earlier))

first_is : (w : ℕ) (earlier K : List KeyList) → AllCount w K → first_of (column_clashes w earlier K) ≡ clash_after earlier K
first_is w earlier [] a = first_empty w earlier
first_is w earlier (k ∷ K) a =
    first_front w earlier k K (a.0) ∙ ap (clash_or_later (clash_column earlier k)) (first_is w (earlier ++ k ∷ []) K (a.1))

pub earliest_is : (w : ℕ) (earlier K : List KeyList) → AllCount w K → earliest None 0 (column_clashes w earlier K) ≡ clash_after earlier K
earliest_is w earlier K a =
    earliest_first None 0 (column_clashes w earlier K) ∙ moved_none (first_of (column_clashes w earlier K)) ∙ first_is w earlier K a

-- lists one behind the other
later_later : (m n : ℕ) (r : Option (ℕ × ℕ)) → later m (later n r) ≡ later (m + n) r
later_later m n None = refl
later_later m n (Some p) = ap (λ k. Some (k, p.1)) (omega arith)

later_none : (r : Option (ℕ × ℕ)) → r ≡ later 0 r
later_none None = refl
later_none (Some p) = ap (λ k. Some (k, p.1)) (omega arith)

else_later : (n : ℕ) (a b : Option (ℕ × ℕ)) → later 1 (or_else a (later n b)) ≡ or_else (later 1 a) (later (suc n) b)
else_later n None b = later_later 1 n b ∙ ap (λ k. later k b) (omega arith)
else_later n (Some p) b = refl

behind_case : (c : Option ℕ) (n : ℕ) (x y z : Option (ℕ × ℕ)) → x ≡ or_else y (later n z)
    → clash_or_later c x ≡ or_else (clash_or_later c y) (later (suc n) z)
behind_case (Some c) n x y z h = refl
behind_case None n x y z h = ap (later 1) h ∙ else_later n y z

pub clash_behind : (earlier K L : List KeyList) → clash_after earlier (K ++ L) ≡ or_else (clash_after earlier K) (later (length K) (clash_after (earlier ++ K) L))
clash_behind earlier [] L = later_none (clash_after earlier L) ∙ ap (λ E. later 0 (clash_after E L)) (sym (append-nil earlier))
clash_behind earlier (k ∷ K) L =
    behind_case (clash_column earlier k) (length K) (clash_after (earlier ++ k ∷ []) (K ++ L)) (clash_after (earlier ++ k ∷ []) K)
    (clash_after (earlier ++ k ∷ K) L)
    (clash_behind (earlier ++ k ∷ []) K L
    ∙ ap (λ E. or_else (clash_after (earlier ++ k ∷ []) K) (later (length K) (clash_after E L))) (append_assoc earlier (k ∷ []) K))

same_place : (p q : ℕ × ℕ) → Some p ≡ Some q → p.0 ≡ q.0
same_place p q h = let e : p ≡ q = cc in ap (λ (x : ℕ × ℕ). x.0) e

inside_case : (c : Option ℕ) (r : Option (ℕ × ℕ)) (n tuple column : ℕ) → clash_or_later c r ≡ Some (tuple, column)
    → ((t d : ℕ) → r ≡ Some (t, d) → (1 ≤ t) × (t ≤ n)) → (1 ≤ tuple) × (tuple ≤ n + 1)
inside_case (Some c) r n tuple column h rest =
    let e : 1 ≡ tuple = same_place (1, c) (tuple, column) h in (omega arith, omega arith)
inside_case None None n tuple column h rest = absurd cc
inside_case None (Some p) n tuple column h rest =
    let e : 1 + p.0 ≡ tuple = same_place (1 + p.0, p.1) (tuple, column) h in
    let b = rest p.0 p.1 refl in
    let low : 1 ≤ p.0 = b.0 in
    let high : p.0 ≤ n = b.1 in
    (omega arith, omega arith)

pub clash_inside : (earlier K : List KeyList) (tuple column : ℕ) → clash_after earlier K ≡ Some (tuple, column) → (1 ≤ tuple) × (tuple ≤ length K)
clash_inside earlier [] tuple column h = absurd cc
clash_inside earlier (k ∷ K) tuple column h =
    let b = inside_case (clash_column earlier k) (clash_after (earlier ++ k ∷ []) K) (length K) tuple column h (clash_inside (earlier ++ k ∷ []) K) in
    let high : tuple ≤ length K + 1 = b.1 in
    (b.0, omega arith)

pub clashes_earliest : ClashesAreEarliest
clashes_earliest = record { behind = clash_behind; inside = clash_inside }
