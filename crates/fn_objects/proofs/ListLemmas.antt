-- What one more item or pair adds.
use Rattle.std.proofs.Common.{◌≡◌, ℕ, ◌+◌, ◌<◌, pos, ℤ, List, [], ◌∷◌, ◌++◌, length, map, get_or, take, Ok, sym, ap, ◌∙◌}
use Rattle.std.specs.List.{flat_map}
use Rattle.std.proofs.lemmas.List.{append-nil, append_assoc, map-append, length-map}
use Rattle.std.proofs.lemmas.List.Concat.{flat_map-append}
use Rattle.item_tree.specs.declared.item.Item.{Item}
use Rattle.item_tree.specs.declared.item.Item.TheVariants.{Int}
use Rattle.item_tree.specs.Datum.{Datum, integer, listed_values, array_of_list}
use Rattle.item_tree.specs.Item.{datum, datums, pair_datums}
use Rattle.item_tree.proofs.PairLists.{Pair, step_datums}
use Rattle.value_rules.proofs.EachLemmas.{datums_more}
use Rattle.value_rules.specs.Objects as objects

abbrev pub key : List ℕ × Datum → List ℕ
key p = p.0

abbrev pub worth : List ℕ × Datum → Datum
worth p = p.1

pub flat_more : {Y : Type 0} (f : Datum → List Y) (xs : List Item) (i : ℕ) (x : Item) → i < length xs → x ≡ get_or xs i x → flat_map f (datums (take (i + 1) xs)) ≡ flat_map f (datums (take i xs)) ++ f (datum x)
flat_more f xs i x lt e =
    ap (flat_map f) (datums_more xs i x lt e) ∙ flat_map-append f (datums (take i xs)) (datum x ∷ []) ∙ ap (λ ys. flat_map f (datums (take i xs)) ++ ys) (append-nil (f (datum x)))

pub keys_step : (xs : List Pair) (i : ℕ) (p : Pair) → i < length xs → p ≡ get_or xs i p → map key (pair_datums (take (i + 1) xs)) ≡ map key (pair_datums (take i xs)) ++ p.0 ∷ []
keys_step xs i p lt e = ap (map key) (step_datums xs i p lt e) ∙ map-append key (pair_datums (take i xs)) ((p.0, datum p.1) ∷ [])

-- one more item behind those that were there
pub extended : (base vs : List Datum) (out new : List Item) (y : Item) (v : Datum) → datums out ≡ base ++ vs → new ≡ out ++ y ∷ [] → datum y ≡ v → datums new ≡ base ++ (vs ++ v ∷ [])
extended base vs out new y v h e g = ap datums e ∙ map-append datum out (y ∷ []) ∙ (λ i. h i ++ g i ∷ []) ∙ append_assoc base vs (v ∷ [])

pub values_step : (base : List Datum) (xs : List Pair) (i : ℕ) (p : Pair) (out new : List Item) (y : Item) → i < length xs → p ≡ get_or xs i p → datums out ≡ base ++ map worth (pair_datums (take i xs)) → new ≡ out ++ y ∷ [] → y ≡ p.1
    → datums new ≡ base ++ map worth (pair_datums (take (i + 1) xs))
values_step base xs i p out new y lt e h n g =
    extended base (map worth (pair_datums (take i xs))) out new y (datum p.1) h n (ap datum g)
    ∙ ap (λ vs. base ++ vs) (sym (ap (map worth) (step_datums xs i p lt e) ∙ map-append worth (pair_datums (take i xs)) ((p.0, datum p.1) ∷ [])))

-- the pairs of one more item, seen by their keys or their values
pub pairs_further : {Y : Type 0} (f : List ℕ × Datum → Y) (s : List Item) (i : ℕ) (x : Item) (ps : List Pair) → i < length s → x ≡ get_or s i x → pair_datums ps ≡ objects.pairs_of (datum x)
    → map f (objects.all_pairs (datums (take i s))) ++ map f (pair_datums ps) ≡ map f (objects.all_pairs (datums (take (i + 1) s)))
pairs_further f s i x ps lt e g =
    sym (map-append f (objects.all_pairs (datums (take i s))) (pair_datums ps)) ∙ ap (λ qs. map f (objects.all_pairs (datums (take i s)) ++ qs)) g ∙ ap (map f) (sym (flat_more objects.pairs_of s i x lt e))

pub values_further : (s : List Item) (i : ℕ) (x : Item) (found new : List Item) (ps : List Pair) → i < length s → x ≡ get_or s i x → pair_datums ps ≡ objects.pairs_of (datum x) → datums found ≡ map worth (objects.all_pairs (datums (take i s)))
    → datums new ≡ datums found ++ map worth (pair_datums ps) → datums new ≡ map worth (objects.all_pairs (datums (take (i + 1) s)))
values_further s i x found new ps lt e g h n = n ∙ ap (λ vs. vs ++ map worth (pair_datums ps)) h ∙ pairs_further worth s i x ps lt e g

pub members_further : (s : List Item) (i : ℕ) (x : Item) (found new ms : List Item) → i < length s → x ≡ get_or s i x → datums ms ≡ objects.members_of (datum x) → datums found ≡ flat_map objects.members_of (datums (take i s)) → new ≡ found ++ ms
    → datums new ≡ flat_map objects.members_of (datums (take (i + 1) s))
members_further s i x found new ms lt e g h n =
    ap datums n ∙ map-append datum found ms ∙ (λ j. h j ++ g j) ∙ sym (flat_more objects.members_of s i x lt e)

-- what becomes of one more item
pub mapped_more : (f : Datum → Datum) (s : List Item) (i : ℕ) (x : Item) (out new : List Item) (y : Item) → i < length s → x ≡ get_or s i x → datums out ≡ map f (datums (take i s)) → new ≡ out ++ y ∷ [] → datum y ≡ f (datum x)
    → datums new ≡ map f (datums (take (i + 1) s))
mapped_more f s i x out new y lt e h n g =
    ap datums n ∙ map-append datum out (y ∷ []) ∙ (λ j. h j ++ g j ∷ []) ∙ sym (map-append f (datums (take i s)) (datum x ∷ [])) ∙ ap (map f) (sym (datums_more s i x lt e))

-- the number of an array's members
pub size_is : (vs : List Datum) (xs out : List Item) (n : ℤ) → datums xs ≡ vs → n ≡ pos (length xs) → out ≡ Int n ∷ [] → objects.size (array_of_list vs ∷ []) ≡ Ok (datums out)
size_is vs xs out n d e o =
    ap (λ k. Ok (integer (pos k) ∷ [])) (ap length (listed_values vs) ∙ ap length (sym d) ∙ length-map xs datum) ∙ ap (λ m. Ok (integer m ∷ [])) (sym e) ∙ ap (λ ys. Ok (datums ys)) (sym o)
