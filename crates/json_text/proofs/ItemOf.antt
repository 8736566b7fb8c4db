-- What a raw value gives, computed.
use Rattle.std.specs.Prelude.{◌≡◌, ℕ, suc, List, [], ◌∷◌, Ok, refl}
use Rattle.std.proofs.Common.{◌∙◌, ap}
use Rattle.item_tree.specs.Datum.{Datum, null, boolean, text, array_of_list}
use Rattle.json_text.specs.Raw.{Raw, raw_null, raw_boolean, raw_number, raw_string, raw_array, raw_object, Raws, no_raws, raw_value, Fields, no_fields, field}
use Rattle.json_text.specs.Meaning.{Outcome, together, bracketed, object_of_fields, Gives, AllGive, FieldsGive}
use Rattle.num_fixed.specs.Values.{said}
use Rattle.json_text.specs.inside.Build.{number_outcome}
use Rattle.json_text.proofs.NumberLemmas.{number_gives, number_gives_one}

abbrev mutual
  pub item_of : ℕ → Raw → Outcome Datum
  item_of around raw_null = Ok null
  item_of around (raw_boolean b) = Ok (boolean b)
  item_of around (raw_number n) = number_outcome (said n)
  item_of around (raw_string cs) = Ok (text cs)
  item_of around (raw_array vs) = bracketed around array_of_list (items_of (suc around) vs)
  item_of around (raw_object fs) = bracketed around object_of_fields (pairs_of (suc around) fs)

  pub items_of : ℕ → Raws → Outcome (List Datum)
  items_of around no_raws = Ok []
  items_of around (raw_value v vs) = together (λ y ys. y ∷ ys) (item_of around v) (items_of around vs)

  pub pairs_of : ℕ → Fields → Outcome (List (List ℕ × Datum))
  pairs_of around no_fields = Ok []
  pairs_of around (field k v fs) = together (λ y ps. (k, y) ∷ ps) (item_of around v) (pairs_of around fs)

mutual
  pub gives_item : (around : ℕ) (v : Raw) → Gives around v (item_of around v)
  gives_item around raw_null = refl
  gives_item around (raw_boolean b) = refl
  gives_item around (raw_number n) = number_gives n
  gives_item around (raw_string cs) = refl
  gives_item around (raw_array vs) = (items_of (suc around) vs, give_items (suc around) vs, refl)
  gives_item around (raw_object fs) = (pairs_of (suc around) fs, give_pairs (suc around) fs, refl)

  give_items : (around : ℕ) (vs : Raws) → AllGive around vs (items_of around vs)
  give_items around no_raws = refl
  give_items around (raw_value v vs) = (item_of around v, items_of around vs, gives_item around v, give_items around vs, refl)

  give_pairs : (around : ℕ) (fs : Fields) → FieldsGive around fs (pairs_of around fs)
  give_pairs around no_fields = refl
  give_pairs around (field k v fs) = (item_of around v, pairs_of around fs, gives_item around v, give_pairs around fs, refl)

mutual
  pub gives_one : (around : ℕ) (v : Raw) (r : Outcome Datum) → Gives around v r → r ≡ item_of around v
  gives_one around raw_null r h = h
  gives_one around (raw_boolean b) r h = h
  gives_one around (raw_number n) r h = number_gives_one n r h
  gives_one around (raw_string cs) r h = h
  gives_one around (raw_array vs) r h = h.2 ∙ ap (bracketed around array_of_list) (give_one_list (suc around) vs h.0 h.1)
  gives_one around (raw_object fs) r h = h.2 ∙ ap (bracketed around object_of_fields) (give_one_pairs (suc around) fs h.0 h.1)

  give_one_list : (around : ℕ) (vs : Raws) (r : Outcome (List Datum)) → AllGive around vs r → r ≡ items_of around vs
  give_one_list around no_raws r h = h
  give_one_list around (raw_value v vs) r h =
      h.4 ∙ ap (λ x. together (λ y ys. y ∷ ys) x h.1) (gives_one around v h.0 h.2) ∙ ap (together (λ y ys. y ∷ ys) (item_of around v)) (give_one_list around vs h.1 h.3)

  give_one_pairs : (around : ℕ) (fs : Fields) (r : Outcome (List (List ℕ × Datum))) → FieldsGive around fs r → r ≡ pairs_of around fs
  give_one_pairs around no_fields r h = h
  give_one_pairs around (field k v fs) r h =
      h.4 ∙ ap (λ x. together (λ y ps. (k, y) ∷ ps) x h.1) (gives_one around v h.0 h.2) ∙ ap (together (λ y ps. (k, y) ∷ ps) (item_of around v)) (give_one_pairs around fs h.1 h.3)
