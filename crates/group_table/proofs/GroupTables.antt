-- Tables of rows are the groups of what was put in.
use Rattle.std.proofs.Common.{◌≡◌, ℕ, Bool, true, false, if◌then◌else◌, List, [], ◌∷◌, ◌++◌, length, map, refl, sym, ap, ◌∙◌}
use Rattle.tuple_rows.specs.Tuples.{Row}
use Rattle.tuple_rows.specs.Keys.{KeyList, Keyed, AllKeys}
use Rattle.group_table.specs.Groups.{same_lists, groups, joined_row, group_row, group_rows, with_keys}
use Rattle.group_table.specs.Grouping.{Grouping, grouped, AllKeyed, StandsFor, finished}
use Rattle.group_table.specs.Laws.{GroupsMerge}
use Rattle.group_table.specs.inside.Puts.{put_in, merged}
use Rattle.group_table.specs.inside.Joins.{join_rows, put, put_all}
use Rattle.group_table.proofs.SameKeys.{lists_symm, lists_congr, lists_self}
use Rattle.group_table.proofs.RowJoins.{row_of_one, row-append}
use Rattle.group_table.proofs.Merges.{Own, HasSome, AllSome, some_put, groups_some, groups_put, merged_groups}

abbrev with_row : ℕ → List ℕ → KeyList × List Row → Keyed
with_row width joined g = (g.0, joined_row width joined g.1)

row_more : (width : ℕ) (joined : List ℕ) (ts us : List Row) → HasSome ts
    → joined_row width joined (ts ++ us) ≡ join_rows joined (joined_row width joined ts) (joined_row width joined us)
row_more width joined [] us s = absurd s
row_more width joined (t ∷ ts) us s = row-append width joined t ts us

put_case : (b : Bool) (width : ℕ) (joined : List ℕ) (e : KeyList × List Row) (es : List (KeyList × List Row)) (k : KeyList) (us : List Row)
    → HasSome e.1
    → map (with_row width joined) (put_in same_lists es k us) ≡ put joined (map (with_row width joined) es) (k, joined_row width joined us)
    → map (with_row width joined) (if b then (e.0, e.1 ++ us) ∷ es else e ∷ put_in same_lists es k us)
    ≡ (if b then (e.0, join_rows joined (joined_row width joined e.1) (joined_row width joined us)) ∷ map (with_row width joined) es
    else with_row width joined e ∷ put joined (map (with_row width joined) es) (k, joined_row width joined us))
put_case true width joined e es k us s rest =
    ap (λ (r : Row). (e.0, r) ∷ map (with_row width joined) es) (row_more width joined e.1 us s)
put_case false width joined e es k us s rest = ap (λ (gs : List Keyed). with_row width joined e ∷ gs) rest

mapped_put : (width : ℕ) (joined : List ℕ) (es : List (KeyList × List Row)) (k : KeyList) (us : List Row) → AllSome es
    → map (with_row width joined) (put_in same_lists es k us) ≡ put joined (map (with_row width joined) es) (k, joined_row width joined us)
mapped_put width joined [] k us a = refl
mapped_put width joined (e ∷ es) k us a =
    put_case (same_lists k e.0) width joined e es k us (a.0) (mapped_put width joined es k us (a.1))

mapped_merge : (width : ℕ) (joined : List ℕ) (es gs : List (KeyList × List Row)) → AllSome es → AllSome gs
    → map (with_row width joined) (merged same_lists es gs)
    ≡ put_all joined (map (with_row width joined) es) (map (with_row width joined) gs)
mapped_merge width joined es [] a b = refl
mapped_merge width joined es (g ∷ gs) a b =
    mapped_merge width joined (put_in same_lists es g.0 g.1) gs (some_put same_lists lists_symm lists_congr es g.0 g.1 (b.0) a) (b.1)
    ∙ ap (λ (us : List Keyed). put_all joined us (map (with_row width joined) gs)) (mapped_put width joined es g.0 g.1 a)

own_keys : (X : List Keyed) → AllKeyed X → Own same_lists X
own_keys [] a = tt
own_keys (p ∷ X) a = (lists_self p.0 (a.0), own_keys X (a.1))

-- one tuple more
pub grouped_more : (width : ℕ) (joined : List ℕ) (X : List Keyed) (k : KeyList) (t : Row) → AllKeyed X → AllKeys k → length t ≡ width
    → put joined (grouped width joined X) (k, t) ≡ grouped width joined (X ++ (k, t) ∷ [])
grouped_more width joined X k t a own e =
    ap (λ (r : Row). put joined (grouped width joined X) (k, r)) (sym (row_of_one width joined t e))
    ∙ sym (mapped_put width joined (groups same_lists X) k (t ∷ []) (groups_some same_lists lists_symm lists_congr X (own_keys X a)))
    ∙ ap (map (with_row width joined)) (sym (groups_put same_lists lists_symm lists_congr X k t (lists_self k own)))

-- one list behind the other
pub groups_merge : GroupsMerge
groups_merge width joined X Y a b =
    sym (mapped_merge width joined (groups same_lists X) (groups same_lists Y)
    (groups_some same_lists lists_symm lists_congr X (own_keys X a)) (groups_some same_lists lists_symm lists_congr Y (own_keys Y b)))
    ∙ ap (map (with_row width joined)) (merged_groups same_lists lists_symm lists_congr X Y (own_keys Y b))

pub keyed-append : (X Y : List Keyed) → AllKeyed X → AllKeyed Y → AllKeyed (X ++ Y)
keyed-append [] Y a b = b
keyed-append (p ∷ X) Y a b = (a.0, keyed-append X Y (a.1) b)

pub stands_more : (old new : Grouping) (k : KeyList) (t : Row) (X : List Keyed) → AllKeys k → length t ≡ old.width
    → new ≡ record old { groups = put old.joined old.groups (k, t) } → StandsFor old X → StandsFor new (X ++ (k, t) ∷ [])
stands_more old new k t X own e is stands = record {
  keyed = keyed-append X ((k, t) ∷ []) (stands.keyed) (own, tt);
  groups = ap (λ (g : Grouping). g.groups) is
      ∙ ap (λ (gs : List Keyed). put old.joined gs (k, t)) (stands.groups)
      ∙ grouped_more old.width old.joined X k t (stands.keyed) own e
      ∙ sym (ap (λ (g : Grouping). grouped g.width g.joined (X ++ (k, t) ∷ [])) is);
}

pub stands_both : (old later new : Grouping) (X Y : List Keyed) → later.width ≡ old.width → later.joined ≡ old.joined
    → new ≡ record old { groups = put_all old.joined old.groups later.groups } → StandsFor old X → StandsFor later Y
    → StandsFor new (X ++ Y)
stands_both old later new X Y w j is a b = record {
  keyed = keyed-append X Y (a.keyed) (b.keyed);
  groups = ap (λ (g : Grouping). g.groups) is
      ∙ ap (λ (gs : List Keyed). put_all old.joined gs later.groups) (a.groups)
      ∙ ap (put_all old.joined (grouped old.width old.joined X)) (b.groups ∙ (λ i. grouped (w i) (j i) Y))
      ∙ groups_merge old.width old.joined X Y (a.keyed) (b.keyed)
      ∙ sym (ap (λ (g : Grouping). grouped g.width g.joined (X ++ Y)) is);
}

finished_rows : (width : ℕ) (keys joined : List ℕ) (gs : List (KeyList × List Row))
    → map (λ (g : Keyed). with_keys keys g.0 g.1) (map (with_row width joined) gs) ≡ map (group_row width keys joined) gs
finished_rows width keys joined [] = refl
finished_rows width keys joined (g ∷ gs) = ap (λ (ts : List Row). group_row width keys joined g ∷ ts) (finished_rows width keys joined gs)

-- the rows of a table are those of the list that it stands for
pub rows_stand : (t : Grouping) (X : List Keyed) → StandsFor t X
    → finished t ≡ record { width = t.width; tuples = group_rows t.width t.keys t.joined X }
rows_stand t X s = ap (λ (ts : List Row). record { width = t.width; tuples = ts })
    (ap (map (λ (g : Keyed). with_keys t.keys g.0 g.1)) (s.groups) ∙ finished_rows t.width t.keys t.joined (groups same_lists X))
