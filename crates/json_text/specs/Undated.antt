-- Items with no date and no date-time in them, at any depth.
use Rattle.item_tree.specs.Datum.{Datum, date, date_time, array, object, Data, no_values, value, Members, no_members, member}

abbrev mutual
  pub Undated : Datum → Type 0
  Undated (date d) = ⊥
  Undated (date_time t) = ⊥
  Undated (array vs) = AllUndated vs
  Undated (object ms) = MembersUndated ms
  Undated _ = Unit {0}

  pub AllUndated : Data → Type 0
  AllUndated no_values = Unit {0}
  AllUndated (value v vs) = Undated v × AllUndated vs

  pub MembersUndated : Members → Type 0
  MembersUndated no_members = Unit {0}
  MembersUndated (member k v ms) = Undated v × MembersUndated ms
