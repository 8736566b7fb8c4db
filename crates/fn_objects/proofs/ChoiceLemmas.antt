-- Objects with some of their pairs, and the strings among names.
use Rattle.std.proofs.Common.{◌≡◌, ℕ, ◌+◌, ◌<◌, Bool, true, false, cond, ◌||◌, List, [], ◌∷◌, ◌++◌, length, get_or, take, Ok, Err, refl, sym, ap, subst, ◌∙◌, arith, inl, inr}
use Rattle.std.specs.BTreeMap.{is_at}
use Rattle.std.specs.Cmp.Lexicographic.{slice_cmp}
use Rattle.std.specs.List.{filter}
use Rattle.std.specs.Ordering.{nat_cmp}
use Rattle.std.specs.Str.{bytes_eq}
use Rattle.std.proofs.lemmas.List.Folds.{list_any-append}
use Rattle.item_tree.specs.declared.code.Code.{Code}
use Rattle.item_tree.specs.declared.item.Item.{Item}
use Rattle.item_tree.specs.Datum.{Datum, null, boolean, integer, decimal, text, date, date_time, array, object, pairs_members, object_of_pairs, depth, Sound, NoneHas, KeysDiffer}
use Rattle.item_tree.specs.Item.{datum, datums}
use Rattle.item_tree.specs.Made.{HasDeepPair, IsFirstRepeat}
use Rattle.item_tree.proofs.PairLists.{no_repeat}
use Rattle.value_rules.specs.Operands.{string_of}
use Rattle.value_rules.specs.Sequences.{each}
use Rattle.value_rules.specs.Objects.{is_among}
use Rattle.value_rules.proofs.EachLemmas.{datums_more, datums_apart, each-push, each-stop}
use Rattle.fn_objects.specs.inside.Choices.{string_in, strings_of}
use Rattle.fn_objects.specs.inside.KeySets.{KeySet, has, HasNames}
use Rattle.fn_objects.proofs.KeyLemmas.{put_in}
use Rattle.fn_objects.proofs.ListLemmas.{flat_more}

-- fewer pairs
none_left : (test : List ℕ × Datum → Bool) (k : List ℕ) (ps : List (List ℕ × Datum)) → NoneHas k ps → NoneHas k (filter test ps)
none_left test k [] n = tt
none_left test k (p ∷ ps) n = by (test p) (none_left test k ps n.1)
  where
    by : (b : Bool) → NoneHas k (filter test ps) → NoneHas k (cond b (p ∷ filter test ps) (filter test ps))
    by true h = (n.0, h)
    by false h = h

pub differ_left : (test : List ℕ × Datum → Bool) (ps : List (List ℕ × Datum)) → KeysDiffer ps → KeysDiffer (filter test ps)
differ_left test [] d = tt
differ_left test (p ∷ ps) d = by (test p) (none_left test p.0 ps d.0) (differ_left test ps d.1)
  where
    by : (b : Bool) → NoneHas p.0 (filter test ps) → KeysDiffer (filter test ps) → KeysDiffer (cond b (p ∷ filter test ps) (filter test ps))
    by true n h = (n, h)
    by false n h = h

deep_left : (test : List ℕ × Datum → Bool) (ps : List (List ℕ × Datum)) → HasDeepPair (filter test ps) → HasDeepPair ps
deep_left test [] h = h
deep_left test (p ∷ ps) h = by (test p) (deep_left test ps) h
  where
    by : (b : Bool) → (HasDeepPair (filter test ps) → HasDeepPair ps) → HasDeepPair (cond b (p ∷ filter test ps) (filter test ps)) → HasDeepPair (p ∷ ps)
    by true r h = elim h [ inl e ↦ inl e | inr g ↦ inr (r g) ]
    by false r h = inr (r h)

-- an object with a value of depth 128 is too deep
pub deep_object : (ps : List (List ℕ × Datum)) → HasDeepPair ps → 128 < depth (object_of_pairs ps)
deep_object [] h = absurd h
deep_object (p ∷ ps) h = elim h [ inl e ↦ omega arith | inr g ↦ (let r = deep_object ps g in omega arith) ]

-- an object with fewer pairs can be made
pub no_twice : (test : List ℕ × Datum → Bool) (ps qs : List (List ℕ × Datum)) (i : ℕ) → Sound (object_of_pairs ps) → qs ≡ filter test ps → IsFirstRepeat qs i → ⊥
no_twice test ps qs i s e r = no_repeat qs i (subst KeysDiffer (sym e) (differ_left test ps (subst KeysDiffer (pairs_members ps) s.1))) r

pub not_deep : (test : List ℕ × Datum → Bool) (ps qs : List (List ℕ × Datum)) → Sound (object_of_pairs ps) → qs ≡ filter test ps → HasDeepPair qs → ⊥
not_deep test ps qs s e h =
    let d = deep_object ps (deep_left test ps (subst HasDeepPair e h)) in
    let l = s.2 in
    absurd (omega arith)

-- one more pair, where its key is tested
pub filter_push : {X : Type 0} (test : X → Bool) (xs : List X) (x : X) → filter test (xs ++ x ∷ []) ≡ filter test xs ++ cond (test x) (x ∷ []) []
filter_push test [] x = refl
filter_push test (y ∷ ys) x = by (test y) (filter_push test ys x)
  where
    by : (b : Bool) → filter test (ys ++ x ∷ []) ≡ filter test ys ++ cond (test x) (x ∷ []) [] → cond b (y ∷ filter test (ys ++ x ∷ [])) (filter test (ys ++ x ∷ [])) ≡ cond b (y ∷ filter test ys) (filter test ys) ++ cond (test x) (x ∷ []) []
    by true h = ap (λ zs. y ∷ zs) h
    by false h = h

-- a string is among the strings
string_is : (v : Datum) (t : List ℕ) → string_of v ≡ Ok t → string_in v ≡ t ∷ []
string_is null t e = absurd cc
string_is (boolean b) t e = absurd cc
string_is (integer n) t e = absurd cc
string_is (decimal m) t e = absurd cc
string_is (text u) t e = let s : u ≡ t = cc in ap (λ w. w ∷ []) s
string_is (date d) t e = absurd cc
string_is (date_time x) t e = absurd cc
string_is (array vs) t e = absurd cc
string_is (object ms) t e = absurd cc

pub strings_more : (xs : List Item) (i : ℕ) (x : Item) (t : List ℕ) → i < length xs → x ≡ get_or xs i x → each string_of (datums (take i xs)) ≡ Ok (strings_of (datums (take i xs))) → string_of (datum x) ≡ Ok t
    → each string_of (datums (take (i + 1) xs)) ≡ Ok (strings_of (datums (take (i + 1) xs)))
strings_more xs i x t lt e h a =
    ap (each string_of) (datums_more xs i x lt e) ∙ each-push string_of (datums (take i xs)) (strings_of (datums (take i xs))) (datum x) t h a ∙ ap (λ ts. Ok (strings_of (datums (take i xs)) ++ ts)) (sym (string_is (datum x) t a)) ∙ ap Ok (sym (flat_more string_in xs i x lt e))

pub strings_stop : (xs : List Item) (i : ℕ) (x : Item) (c : Code) → i < length xs → x ≡ get_or xs i x → each string_of (datums (take i xs)) ≡ Ok (strings_of (datums (take i xs))) → string_of (datum x) ≡ Err c → each string_of (datums xs) ≡ Err c
strings_stop xs i x c lt e h a =
    ap (each string_of) (datums_apart xs i x lt e) ∙ each-stop string_of (datums (take i xs)) (strings_of (datums (take i xs))) (datum x) _ c h a

-- a set into which one string was put
pub name_put : (old new : KeySet) (t k : List ℕ) → has new k ≡ cond (is_at (slice_cmp nat_cmp t) k) true (has old k) → has new k ≡ (is_among (t ∷ []) k || has old k)
name_put old new t k u = put_in old new t k u ∙ by (bytes_eq t k)
  where
    by : (b : Bool) → cond b true (has old k) ≡ ((b || false) || has old k)
    by true = refl
    by false = refl

-- a set of names, one name further
pub names_further : (xs : List Item) (i : ℕ) (x : Item) (old new : KeySet) → i < length xs → x ≡ get_or xs i x → HasNames old (strings_of (datums (take i xs))) → ((k : List ℕ) → has new k ≡ (is_among (string_in (datum x)) k || has old k))
    → HasNames new (strings_of (datums (take (i + 1) xs)))
names_further xs i x old new lt e h u k =
    u k ∙ ap (λ b. is_among (string_in (datum x)) k || b) (h k) ∙ by (is_among (string_in (datum x)) k) (is_among (strings_of (datums (take i xs))) k)
    ∙ sym (list_any-append (λ n. bytes_eq n k) (strings_of (datums (take i xs))) (string_in (datum x))) ∙ ap (λ ns. is_among ns k) (sym (flat_more string_in xs i x lt e))
  where
    by : (a b : Bool) → (a || b) ≡ (b || a)
    by true true = refl
    by true false = refl
    by false true = refl
    by false false = refl
