use Rattle.std.proofs.Common.{◌≡◌, ◌∙◌, ◌++◌, ◌∷◌, [], ℕ, List, Option, length, sym, ap, subst}
use Rattle.item_tree.specs.declared.item.Item.{Item}
use Rattle.tuple_rows.specs.Tuples.{sequences}
use Rattle.tuple_rows.specs.Keys.{Keyed, key_data, key_list}
use Rattle.group_table.specs.declared.group.Group.{Group}
use Rattle.group_table.specs.Grouping.{Grouping}
use Rattle.group_table.specs.inside.Joins.{IsGroup, IsKept, put}
use Rattle.group_table.specs.inside.KeyParts.{IsKeyFor}
use Rattle.group_table.specs.inside.Places.{place_among, ArePlaces}
use Rattle.group_table.specs.inside.Views.{entry_of, keyed_list, shapes, joined_at, RowsAreWide}
use Rattle.group_table.proofs.CodeGroups.{on_ok, rows_wide, place_is, place_below, place_behind, put_at, put_new, keyed_pushed, kept_shaped, kept_pushed, places_joined, places_pushed}
use Rattle.group_table.proofs.table.GroupTable.put.Goals as goal

pub join_at-requires-clause-row : goal.join_at-requires-clause-row
join_at-requires-clause-row c =
    let fits = subst (λ (t : Grouping). IsGroup t.width (length t.keys) (entry_of c.args.group)) (sym c.self.view_is) c.requires in
    subst (λ (n : ℕ). RowsAreWide n (keyed_list c.reserve.new.self.items)) (sym (fits.2))
    (subst (λ (rs : List Group). RowsAreWide c.self.inside.width (keyed_list rs)) (sym c.reserve.ensures.items)
    (rows_wide c.self.inside.width (length c.self.inside.keys.items) (keyed_list c.self.inside.groups.items) c.self.invariant.0.groups_fit))

pub invariant_of-self-then-at-len : goal.invariant_of-self-then-at-len
invariant_of-self-then-at-len c =
    let fits = subst (λ (t : Grouping). IsGroup t.width (length t.keys) (entry_of c.args.group)) (sym c.self.view_is) c.requires in
    let is = subst (λ (ks : List (Option Item)). IsKeyFor c.in_ok-key.key (key_data ks)) c.as_slice.ensures.value c.in_ok-key.ensures in
    let here : c.in_ok-at.at ≡ place_among (key_list c.args.group.keys) (keyed_list c.self.inside.groups.items) =
    c.in_ok-at.ensures.place
    ∙ place_is _ c.keys_agree.ensures c.in_ok-key.key (key_list c.args.group.keys) c.self.inside.width (length c.self.inside.keys.items)
    c.self.inside.places.keys (keyed_list c.self.inside.groups.items) is (fits.0) c.self.invariant.0.groups_fit (c.self.invariant.1) in
    let lt = place_below (key_list c.args.group.keys) c.self.inside.groups.items c.reserve.new.self.items c.in_ok-at.at c.len.result
    c.reserve.ensures.items here (c.len.ensures ∙ c.reserve.new.self.ok.0) c.if-at-len.true in
    let shaped = c.join_at.ensures.shapes ∙ ap (λ (rs : List Group). shapes (keyed_list rs)) c.reserve.ensures.items in (
      kept_shaped c.self.inside.width c.self.inside.keys.items c.self.inside.joined.items (keyed_list c.self.inside.groups.items)
          (keyed_list c.join_at.new.groups.items) shaped (c.self.invariant.0),
      places_joined _ c.keys_agree.ensures c.in_ok-key.key (key_list c.args.group.keys) c.self.inside.width (length c.self.inside.keys.items)
          c.self.inside.places.keys c.place_of.new.places.keys (keyed_list c.self.inside.groups.items) (keyed_list c.join_at.new.groups.items)
          is (fits.0) c.self.invariant.0.groups_fit (c.self.invariant.1) lt c.in_ok-at.ensures.keys shaped,
    )

pub invariant_of-self-else-at-len : goal.invariant_of-self-else-at-len
invariant_of-self-else-at-len c =
    let fits = subst (λ (t : Grouping). IsGroup t.width (length t.keys) (entry_of c.args.group)) (sym c.self.view_is) c.requires in
    let is = subst (λ (ks : List (Option Item)). IsKeyFor c.in_ok-key.key (key_data ks)) c.as_slice.ensures.value c.in_ok-key.ensures in
    let here : c.in_ok-at.at ≡ place_among (key_list c.args.group.keys) (keyed_list c.self.inside.groups.items) =
    c.in_ok-at.ensures.place
    ∙ place_is _ c.keys_agree.ensures c.in_ok-key.key (key_list c.args.group.keys) c.self.inside.width (length c.self.inside.keys.items)
    c.self.inside.places.keys (keyed_list c.self.inside.groups.items) is (fits.0) c.self.invariant.0.groups_fit (c.self.invariant.1) in
    let le = place_behind (key_list c.args.group.keys) c.self.inside.groups.items c.reserve.new.self.items c.in_ok-at.at c.len.result
    c.reserve.ensures.items here (c.len.ensures ∙ c.reserve.new.self.ok.0) c.if-at-len.false in
    let pushed : keyed_list c.push_reserved.new.self.items ≡ keyed_list c.self.inside.groups.items ++ entry_of c.args.group ∷ [] =
    ap keyed_list (c.push_reserved.ensures.items ∙ ap (λ (rs : List Group). rs ++ c.args.group ∷ []) c.reserve.ensures.items)
    ∙ keyed_pushed c.self.inside.groups.items c.args.group in
    subst (λ (hs : List Keyed). IsKept c.self.inside.width c.self.inside.keys.items c.self.inside.joined.items hs × ArePlaces c.place_of.new.places.keys hs)
    (sym pushed) (
      kept_pushed c.self.inside.width c.self.inside.keys.items c.self.inside.joined.items (keyed_list c.self.inside.groups.items)
          (entry_of c.args.group) fits (c.self.invariant.0),
      places_pushed _ c.keys_agree.ensures c.in_ok-key.key c.self.inside.width (length c.self.inside.keys.items) c.self.inside.places.keys
          c.place_of.new.places.keys (keyed_list c.self.inside.groups.items) (entry_of c.args.group) is (fits.0) c.self.invariant.0.groups_fit
          (c.self.invariant.1) le c.in_ok-at.ensures.keys,
    )

pub returns-then-at-len-clause-groups : goal.returns-then-at-len-clause-groups
returns-then-at-len-clause-groups c =
    let fits = subst (λ (t : Grouping). IsGroup t.width (length t.keys) (entry_of c.args.group)) (sym c.self.view_is) c.requires in
    let is = subst (λ (ks : List (Option Item)). IsKeyFor c.in_ok-key.key (key_data ks)) c.as_slice.ensures.value c.in_ok-key.ensures in
    let here : c.in_ok-at.at ≡ place_among (key_list c.args.group.keys) (keyed_list c.self.inside.groups.items) =
    c.in_ok-at.ensures.place
    ∙ place_is _ c.keys_agree.ensures c.in_ok-key.key (key_list c.args.group.keys) c.self.inside.width (length c.self.inside.keys.items)
    c.self.inside.places.keys (keyed_list c.self.inside.groups.items) is (fits.0) c.self.invariant.0.groups_fit (c.self.invariant.1) in
    let lt = place_below (key_list c.args.group.keys) c.self.inside.groups.items c.reserve.new.self.items c.in_ok-at.at c.len.result
    c.reserve.ensures.items here (c.len.ensures ∙ c.reserve.new.self.ok.0) c.if-at-len.true in
    on_ok c.join_at.result
    (λ e. e
    ∙ (λ i. joined_at (c.as_slice-then-at-len.ensures.value i) (here i) (sequences c.args.group.row) (keyed_list (c.reserve.ensures.items i)))
    ∙ sym (put_at c.self.inside.joined.items (keyed_list c.self.inside.groups.items) (entry_of c.args.group) lt)
    ∙ ap (λ (t : Grouping). put t.joined t.groups (entry_of c.args.group)) c.self.view_is)
    c.join_at.ensures.ok

pub returns-else-at-len-clause-groups : goal.returns-else-at-len-clause-groups
returns-else-at-len-clause-groups c =
    let fits = subst (λ (t : Grouping). IsGroup t.width (length t.keys) (entry_of c.args.group)) (sym c.self.view_is) c.requires in
    let is = subst (λ (ks : List (Option Item)). IsKeyFor c.in_ok-key.key (key_data ks)) c.as_slice.ensures.value c.in_ok-key.ensures in
    let here : c.in_ok-at.at ≡ place_among (key_list c.args.group.keys) (keyed_list c.self.inside.groups.items) =
    c.in_ok-at.ensures.place
    ∙ place_is _ c.keys_agree.ensures c.in_ok-key.key (key_list c.args.group.keys) c.self.inside.width (length c.self.inside.keys.items)
    c.self.inside.places.keys (keyed_list c.self.inside.groups.items) is (fits.0) c.self.invariant.0.groups_fit (c.self.invariant.1) in
    let le = place_behind (key_list c.args.group.keys) c.self.inside.groups.items c.reserve.new.self.items c.in_ok-at.at c.len.result
    c.reserve.ensures.items here (c.len.ensures ∙ c.reserve.new.self.ok.0) c.if-at-len.false in
    let pushed : keyed_list c.push_reserved.new.self.items ≡ keyed_list c.self.inside.groups.items ++ entry_of c.args.group ∷ [] =
    ap keyed_list (c.push_reserved.ensures.items ∙ ap (λ (rs : List Group). rs ++ c.args.group ∷ []) c.reserve.ensures.items)
    ∙ keyed_pushed c.self.inside.groups.items c.args.group in
    pushed
    ∙ sym (put_new c.self.inside.joined.items (keyed_list c.self.inside.groups.items) (entry_of c.args.group) le)
    ∙ ap (λ (t : Grouping). put t.joined t.groups (entry_of c.args.group)) c.self.view_is
