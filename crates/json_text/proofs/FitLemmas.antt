-- No value that is built is too deep, and the keys of each object differ. For other crates too.
use Rattle.std.specs.Prelude.{◌≡◌, ℕ, ◌<◌, ◌≤◌, ◌+◌, nat_lt, List, [], ◌∷◌, ◌++◌, length, Some, None, refl}
use Rattle.std.specs.Str.{bytes_eq}
use Rattle.std.proofs.Common.{arith, inl, inr}
use Rattle.std.proofs.lemmas.Bool.{cond_both, ltb-true}
use Rattle.num_fixed.specs.declared.number.Number.{Number}
use Rattle.num_fixed.specs.declared.number.Number.TheVariants.{Int, Dec}
use Rattle.item_tree.specs.Datum.{Datum, null, boolean, text, array_of_list, object_of_pairs, depth, data_depth, members_depth, values, members, KeysDiffer}
use Rattle.item_tree.specs.Made.{HasDeep, HasDeepPair}
use Rattle.item_tree.proofs.Puts.{keys_put}
use Rattle.json_text.specs.Meaning.{put, put_all, number_datum}
use Rattle.json_text.specs.inside.Machine.{Event, opens_array, opens_object, closes, keyed, a_null, a_boolean, a_number, a_string}
use Rattle.json_text.specs.inside.Build.{Frame, open_array, open_object, Build, building, done, troubled, add, settle, close, set_key, push_frame, perform, number_outcome}
use Rattle.num_fixed.specs.Values.{number_in_bounds, said}
use Rattle.json_text.specs.inside.Fits.{AllFit, PairsFit, FrameFits, FramesFit, BuildFits}

pub all_depth : (around : ℕ) (xs : List Datum) → around ≤ 128 → AllFit around xs → data_depth (values xs) + around ≤ 128
all_depth around [] h a = omega arith
all_depth around (x ∷ xs) h a = let r = all_depth around xs h a.1 in let q = a.0 in omega arith

pub pairs_depth : (around : ℕ) (ps : List (List ℕ × Datum)) → around ≤ 128 → PairsFit around ps → members_depth (members ps) + around ≤ 128
pairs_depth around [] h a = omega arith
pairs_depth around (p ∷ ps) h a = let r = pairs_depth around ps h a.1 in let q = a.0 in omega arith

all_push : (around : ℕ) (xs : List Datum) (x : Datum) → depth x + around ≤ 128 → AllFit around xs → AllFit around (xs ++ x ∷ [])
all_push around [] x h a = (h, tt)
all_push around (y ∷ xs) x h a = (a.0, all_push around xs x h a.1)

pub pairs_put : (around : ℕ) (k : List ℕ) (x : Datum) (ps : List (List ℕ × Datum)) → depth x + around ≤ 128 → PairsFit around ps → PairsFit around (put k x ps)
pairs_put around k x [] h a = (h, tt)
pairs_put around k x (p ∷ ps) h a = cond_both (bytes_eq k p.0) _ _ (PairsFit around) (λ _. (h, a.1)) (λ _. (a.0, pairs_put around k x ps h a.1))

pub keys_put_all : (ps more : List (List ℕ × Datum)) → KeysDiffer ps → KeysDiffer (put_all ps more)
keys_put_all ps [] h = h
keys_put_all ps (p ∷ more) h = keys_put_all (put p.0 p.1 ps) more (keys_put p.0 p.1 ps h)

-- ---- building

add_fits : (x : Datum) (fs : List Frame) → depth x + length fs ≤ 128 → FramesFit fs → BuildFits (add x fs)
add_fits x [] h f = omega arith
add_fits x (open_array xs ∷ fs) h f = (f.0, all_push (length fs + 1) xs x (omega arith) f.1, f.2)
add_fits x (open_object ps (Some k) ∷ fs) h f = (f.0, (pairs_put (length fs + 1) k x ps (omega arith) f.1.0, keys_put k x ps f.1.1), f.2)
add_fits x (open_object ps None ∷ fs) h f = f

close_fits : (fs : List Frame) → FramesFit fs → BuildFits (close fs)
close_fits [] f = f
close_fits (open_array xs ∷ fs) f = let d = all_depth (length fs + 1) xs (omega arith) f.1 in add_fits (array_of_list xs) fs (omega arith) f.2
close_fits (open_object ps k ∷ fs) f = let d = pairs_depth (length fs + 1) ps (omega arith) f.1.0 in add_fits (object_of_pairs ps) fs (omega arith) f.2

key_fits : (k : List ℕ) (fs : List Frame) → FramesFit fs → BuildFits (set_key k fs)
key_fits k [] f = f
key_fits k (open_array xs ∷ fs) f = f
key_fits k (open_object ps old ∷ fs) f = f

push_fits : (g : Frame) (fs : List Frame) → FrameFits (length fs) g → FramesFit fs → BuildFits (push_frame g fs)
push_fits g fs h f = cond_both (nat_lt (length fs) 128) _ _ BuildFits (λ e. (ltb-true _ _ e, h, f)) (λ _. tt)

room : (fs : List Frame) → FramesFit fs → length fs ≤ 128
room [] f = omega arith
room (g ∷ fs) f = let h = f.0 in omega arith

atom_fits : (x : Datum) (fs : List Frame) → depth x ≡ 0 → FramesFit fs → BuildFits (add x fs)
atom_fits x fs e f = let h = room fs f in add_fits x fs (omega arith) f

number_flat : (x : Number) → depth (number_datum x) ≡ 0
number_flat (Int n) = refl
number_flat (Dec m) = refl

number_fits : (x : Number) (fs : List Frame) → FramesFit fs → BuildFits (settle (number_outcome x) fs)
number_fits x fs f = cond_both (number_in_bounds x) _ _ (λ o. BuildFits (settle o fs)) (λ _. atom_fits (number_datum x) fs (number_flat x) f) (λ _. tt)

pub perform_fits : (b : Build) (e : Event) → BuildFits b → BuildFits (perform b e)
perform_fits (building fs) opens_array f = push_fits (open_array []) fs tt f
perform_fits (building fs) opens_object f = push_fits (open_object [] None) fs (tt, tt) f
perform_fits (building fs) closes f = close_fits fs f
perform_fits (building fs) (keyed k) f = key_fits k fs f
perform_fits (building fs) a_null f = atom_fits null fs refl f
perform_fits (building fs) (a_boolean b) f = atom_fits (boolean b) fs refl f
perform_fits (building fs) (a_number n) f = number_fits (said n) fs f
perform_fits (building fs) (a_string cs) f = atom_fits (text cs) fs refl f
perform_fits (done x) e f = f
perform_fits (troubled t) e f = tt

-- ---- so no array and no object is refused

pub none_deep : (around : ℕ) (xs : List Datum) → 0 < around → AllFit around xs → ¬ HasDeep xs
none_deep around [] h a d = d
none_deep around (x ∷ xs) h a d = elim d [ inl e ↦ (let q = a.0 in absurd (omega arith)) | inr r ↦ none_deep around xs h a.1 r ]

pub none_deep_pair : (around : ℕ) (ps : List (List ℕ × Datum)) → 0 < around → PairsFit around ps → ¬ HasDeepPair ps
none_deep_pair around [] h a d = d
none_deep_pair around (p ∷ ps) h a d = elim d [ inl e ↦ (let q = a.0 in absurd (omega arith)) | inr r ↦ none_deep_pair around ps h a.1 r ]
