-- A text says one raw value, since the events of a raw value tell it.
use Rattle.std.specs.Prelude.{◌≡◌, List, [], ◌∷◌, Some, refl}
use Rattle.std.proofs.Common.{sym, ◌∙◌, ap}
use Rattle.json_text.specs.Raw.{Raw, raw_null, raw_boolean, raw_number, raw_string, raw_array, raw_object, Raws, no_raws, raw_value, Fields, no_fields, field}
use Rattle.json_text.specs.Laws.{OneRawValue}
use Rattle.json_text.specs.inside.Machine.{Event, closes}
use Rattle.json_text.proofs.Events.{events, all_events, field_events}
use Rattle.json_text.proofs.CompleteLemmas.{text_runs}

-- no value begins with what closes
no_close : (v : Raw) (es fs : List Event) → events v es ≡ closes ∷ fs → ⊥
no_close raw_null es fs h = cc
no_close (raw_boolean b) es fs h = cc
no_close (raw_number n) es fs h = cc
no_close (raw_string cs) es fs h = cc
no_close (raw_array vs) es fs h = cc
no_close (raw_object vs) es fs h = cc

mutual
  told : (v w : Raw) (es fs : List Event) → events v es ≡ events w fs → (v ≡ w) × (es ≡ fs)
  told raw_null raw_null es fs h = let q : es ≡ fs = cc in (refl, q)
  told (raw_boolean b) (raw_boolean c) es fs h = let p : b ≡ c = cc in let q : es ≡ fs = cc in (ap raw_boolean p, q)
  told (raw_number n) (raw_number m) es fs h = let p : n ≡ m = cc in let q : es ≡ fs = cc in (ap raw_number p, q)
  told (raw_string cs) (raw_string ds) es fs h = let p : cs ≡ ds = cc in let q : es ≡ fs = cc in (ap raw_string p, q)
  told (raw_array vs) (raw_array ws) es fs h = let q : all_events vs (closes ∷ es) ≡ all_events ws (closes ∷ fs) = cc in let r = told_all vs ws es fs q in (ap raw_array r.0, r.1)
  told (raw_object vs) (raw_object ws) es fs h = let q : field_events vs (closes ∷ es) ≡ field_events ws (closes ∷ fs) = cc in let r = told_fields vs ws es fs q in (ap raw_object r.0, r.1)
  told v w es fs h = absurd cc

  told_all : (vs ws : Raws) (es fs : List Event) → all_events vs (closes ∷ es) ≡ all_events ws (closes ∷ fs) → (vs ≡ ws) × (es ≡ fs)
  told_all no_raws no_raws es fs h = let q : es ≡ fs = cc in (refl, q)
  told_all no_raws (raw_value w ws) es fs h = absurd (no_close w _ _ (sym h))
  told_all (raw_value v vs) no_raws es fs h = absurd (no_close v _ _ h)
  told_all (raw_value v vs) (raw_value w ws) es fs h =
      let a = told v w (all_events vs (closes ∷ es)) (all_events ws (closes ∷ fs)) h in let r = told_all vs ws es fs a.1 in
      (ap (λ y. raw_value y vs) a.0 ∙ ap (raw_value w) r.0, r.1)

  told_fields : (vs ws : Fields) (es fs : List Event) → field_events vs (closes ∷ es) ≡ field_events ws (closes ∷ fs) → (vs ≡ ws) × (es ≡ fs)
  told_fields no_fields no_fields es fs h = let q : es ≡ fs = cc in (refl, q)
  told_fields no_fields (field k w ws) es fs h = absurd cc
  told_fields (field k v vs) no_fields es fs h = absurd cc
  told_fields (field k v vs) (field j w ws) es fs h =
      let kk : k ≡ j = cc in let q : events v (field_events vs (closes ∷ es)) ≡ events w (field_events ws (closes ∷ fs)) = cc in
      let a = told v w (field_events vs (closes ∷ es)) (field_events ws (closes ∷ fs)) q in let r = told_fields vs ws es fs a.1 in
      (ap (λ y. field y v vs) kk ∙ ap (λ y. field j y vs) a.0 ∙ ap (field j w) r.0, r.1)

same_events : (es fs : List Event) → Some es ≡ Some fs → es ≡ fs
same_events es fs h = cc

pub one_raw_value : OneRawValue
one_raw_value t v w j k = (told v w [] [] (same_events (events v []) (events w []) (sym (text_runs t v j) ∙ text_runs t w k))).0
