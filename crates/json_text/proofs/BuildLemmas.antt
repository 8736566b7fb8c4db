-- Building from the events of a raw value gives its item, or its first trouble.
use Rattle.std.specs.Prelude.{◌≡◌, ℕ, suc, true, false, cond, nat_lt, List, [], ◌∷◌, ◌++◌, length, Option, Some, None, Ok, Err, refl}
use Rattle.std.specs.Result.{result_map_both}
use Rattle.std.proofs.Common.{sym, ◌∙◌, ap, append_assoc, append-nil}
use Rattle.item_tree.specs.Datum.{Datum, array_of_list, object_of_pairs}
use Rattle.json_text.specs.Raw.{Raw, raw_null, raw_boolean, raw_number, raw_string, raw_array, raw_object, Raws, no_raws, raw_value, Fields, no_fields, field}
use Rattle.json_text.specs.Meaning.{Trouble, too_deep, Outcome, together, put, put_all, object_of_fields}
use Rattle.json_text.specs.inside.Machine.{Event, closes}
use Rattle.json_text.specs.inside.Build.{Frame, open_array, open_object, Build, building, troubled, add, settle, perform_all}
use Rattle.json_text.proofs.Events.{events, all_events, field_events}
use Rattle.json_text.proofs.ItemOf.{item_of, items_of, pairs_of}

pub troubled_stays : (t : Trouble) (es : List Event) → perform_all (troubled t) es ≡ troubled t
troubled_stays t [] = refl
troubled_stays t (e ∷ es) = troubled_stays t es

both_troubled : (t : Trouble) (es fs : List Event) → perform_all (troubled t) es ≡ perform_all (troubled t) fs
both_troubled t es fs = troubled_stays t es ∙ sym (troubled_stays t fs)

-- the array or the object that is open, once its other values are read
abbrev pub close_array_with : List Datum → List Frame → Outcome (List Datum) → Build
close_array_with xs fs (Ok ys) = add (array_of_list (xs ++ ys)) fs
close_array_with xs fs (Err t) = troubled t

abbrev pub close_object_with : List (List ℕ × Datum) → List Frame → Outcome (List (List ℕ × Datum)) → Build
close_object_with ps fs (Ok qs) = add (object_of_pairs (put_all ps qs)) fs
close_object_with ps fs (Err t) = troubled t

array_settles : (fs : List Frame) (r : Outcome (List Datum)) → close_array_with [] fs r ≡ settle (result_map_both array_of_list (λ t. t) r) fs
array_settles fs (Ok ys) = refl
array_settles fs (Err t) = refl

object_settles : (fs : List Frame) (r : Outcome (List (List ℕ × Datum))) → close_object_with [] fs r ≡ settle (result_map_both object_of_fields (λ t. t) r) fs
object_settles fs (Ok ys) = refl
object_settles fs (Err t) = refl

array_goes_on : (xs : List Datum) (x : Datum) (fs : List Frame) (r : Outcome (List Datum)) → close_array_with (xs ++ x ∷ []) fs r ≡ close_array_with xs fs (together (λ y ys. y ∷ ys) (Ok x) r)
array_goes_on xs x fs (Ok ys) = ap (λ zs. add (array_of_list zs) fs) (append_assoc xs (x ∷ []) ys)
array_goes_on xs x fs (Err t) = refl

object_goes_on : (ps : List (List ℕ × Datum)) (k : List ℕ) (x : Datum) (fs : List Frame) (r : Outcome (List (List ℕ × Datum))) → close_object_with (put k x ps) fs r ≡ close_object_with ps fs (together (λ y qs. (k, y) ∷ qs) (Ok x) r)
object_goes_on ps k x fs (Ok ys) = refl
object_goes_on ps k x fs (Err t) = refl

mutual
  pub built : (v : Raw) (fs : List Frame) (es : List Event) → perform_all (building fs) (events v es) ≡ perform_all (settle (item_of (length fs) v) fs) es
  built raw_null fs es = refl
  built (raw_boolean b) fs es = refl
  built (raw_number n) fs es = refl
  built (raw_string cs) fs es = refl
  built (raw_array vs) fs es =
      elim (nat_lt (length fs) 128) as (λ b. perform_all (cond b (building (open_array [] ∷ fs)) (troubled too_deep)) (all_events vs (closes ∷ es)) ≡ perform_all (settle (cond b (result_map_both array_of_list (λ t. t) (items_of (suc (length fs)) vs)) (Err too_deep)) fs) es) [
        | true ↦ built_values vs [] fs es ∙ ap (λ b. perform_all b es) (array_settles fs (items_of (suc (length fs)) vs))
        | false ↦ both_troubled too_deep (all_events vs (closes ∷ es)) es
      ]
  built (raw_object ms) fs es =
      elim (nat_lt (length fs) 128) as (λ b. perform_all (cond b (building (open_object [] None ∷ fs)) (troubled too_deep)) (field_events ms (closes ∷ es)) ≡ perform_all (settle (cond b (result_map_both object_of_fields (λ t. t) (pairs_of (suc (length fs)) ms)) (Err too_deep)) fs) es) [
        | true ↦ built_fields ms [] None fs es ∙ ap (λ b. perform_all b es) (object_settles fs (pairs_of (suc (length fs)) ms))
        | false ↦ both_troubled too_deep (field_events ms (closes ∷ es)) es
      ]

  built_values : (vs : Raws) (xs : List Datum) (fs : List Frame) (es : List Event) → perform_all (building (open_array xs ∷ fs)) (all_events vs (closes ∷ es)) ≡ perform_all (close_array_with xs fs (items_of (suc (length fs)) vs)) es
  built_values no_raws xs fs es = ap (λ zs. perform_all (add (array_of_list zs) fs) es) (sym (append-nil xs))
  built_values (raw_value v vs) xs fs es =
      built v (open_array xs ∷ fs) (all_events vs (closes ∷ es))
      ∙ (elim (item_of (suc (length fs)) v) as (λ r. perform_all (settle r (open_array xs ∷ fs)) (all_events vs (closes ∷ es)) ≡ perform_all (close_array_with xs fs (together (λ y ys. y ∷ ys) r (items_of (suc (length fs)) vs))) es) [
        | Ok x ↦ built_values vs (xs ++ x ∷ []) fs es ∙ ap (λ b. perform_all b es) (array_goes_on xs x fs (items_of (suc (length fs)) vs))
        | Err t ↦ both_troubled t (all_events vs (closes ∷ es)) es
      ])

  built_fields : (ms : Fields) (ps : List (List ℕ × Datum)) (old : Option (List ℕ)) (fs : List Frame) (es : List Event) → perform_all (building (open_object ps old ∷ fs)) (field_events ms (closes ∷ es)) ≡ perform_all (close_object_with ps fs (pairs_of (suc (length fs)) ms)) es
  built_fields no_fields ps old fs es = refl
  built_fields (field k v ms) ps old fs es =
      built v (open_object ps (Some k) ∷ fs) (field_events ms (closes ∷ es))
      ∙ (elim (item_of (suc (length fs)) v) as (λ r. perform_all (settle r (open_object ps (Some k) ∷ fs)) (field_events ms (closes ∷ es)) ≡ perform_all (close_object_with ps fs (together (λ y qs. (k, y) ∷ qs) r (pairs_of (suc (length fs)) ms))) es) [
        | Ok x ↦ built_fields ms (put k x ps) None fs es ∙ ap (λ b. perform_all b es) (object_goes_on ps k x fs (pairs_of (suc (length fs)) ms))
        | Err t ↦ both_troubled t (field_events ms (closes ∷ es)) es
      ])
