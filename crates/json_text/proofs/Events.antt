-- The events of a raw value.
use Rattle.std.specs.Prelude.{List, ◌∷◌}
use Rattle.json_text.specs.Raw.{Raw, raw_null, raw_boolean, raw_number, raw_string, raw_array, raw_object, Raws, no_raws, raw_value, Fields, no_fields, field}
use Rattle.json_text.specs.inside.Machine.{Event, opens_array, opens_object, closes, keyed, a_null, a_boolean, a_number, a_string}

-- and then more events
abbrev mutual
  pub events : Raw → List Event → List Event
  events raw_null es = a_null ∷ es
  events (raw_boolean b) es = a_boolean b ∷ es
  events (raw_number n) es = a_number n ∷ es
  events (raw_string cs) es = a_string cs ∷ es
  events (raw_array vs) es = opens_array ∷ all_events vs (closes ∷ es)
  events (raw_object fs) es = opens_object ∷ field_events fs (closes ∷ es)

  pub all_events : Raws → List Event → List Event
  all_events no_raws es = es
  all_events (raw_value v vs) es = events v (all_events vs es)

  pub field_events : Fields → List Event → List Event
  field_events no_fields es = es
  field_events (field k v fs) es = keyed k ∷ events v (field_events fs es)
