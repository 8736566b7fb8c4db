-- What a line reads as has no date and no date-time in it.
use Rattle.std.specs.Prelude.{◌≡◌, ℕ, suc, List, [], ◌∷◌, Ok}
use Rattle.std.specs.Str.{bytes_eq}
use Rattle.std.proofs.Common.{sym, subst}
use Rattle.std.proofs.lemmas.Bool.{cond_both}
use Rattle.num_fixed.specs.declared.number.Number.{Number}
use Rattle.num_fixed.specs.declared.number.Number.TheVariants.{Int, Dec}
use Rattle.item_tree.specs.Datum.{Datum, array_of_list, values, members}
use Rattle.json_text.specs.Raw.{Raw, raw_null, raw_boolean, raw_number, raw_string, raw_array, raw_object, Raws, no_raws, raw_value, Fields, no_fields, field}
use Rattle.json_text.specs.Meaning.{put, put_all, object_of_fields, number_datum}
use Rattle.num_fixed.specs.Values.{number_in_bounds, said}
use Rattle.json_text.specs.inside.Build.{number_outcome}
use Rattle.json_text.specs.Undated.{Undated, AllUndated, MembersUndated}
use Rattle.json_text.specs.Laws.{ItemsAreUndated}
use Rattle.json_text.proofs.ItemOf.{item_of, items_of, pairs_of, gives_one}
use Rattle.json_text.proofs.SoundItems.{same_ok, bracketed_ok, together_ok}

number_undated : (a : Number) (x : Datum) → number_outcome a ≡ Ok x → Undated x
number_undated a x = cond_both (number_in_bounds a) _ _ (λ r. r ≡ Ok x → Undated x) (λ e q. subst Undated (same_ok _ _ q) (of_number a)) (λ e q. absurd cc)
  where
    of_number : (b : Number) → Undated (number_datum b)
    of_number (Int n) = tt
    of_number (Dec m) = tt

put_undated : (k : List ℕ) (x : Datum) (ps : List (List ℕ × Datum)) → Undated x → MembersUndated (members ps) → MembersUndated (members (put k x ps))
put_undated k x [] h m = (h, tt)
put_undated k x (p ∷ ps) h m = cond_both (bytes_eq k p.0) _ _ (λ qs. MembersUndated (members qs)) (λ _. (h, m.1)) (λ _. (m.0, put_undated k x ps h m.1))

put_all_undated : (ps more : List (List ℕ × Datum)) → MembersUndated (members ps) → MembersUndated (members more) → MembersUndated (members (put_all ps more))
put_all_undated ps [] h m = h
put_all_undated ps (p ∷ more) h m = put_all_undated (put p.0 p.1 ps) more (put_undated p.0 p.1 ps m.0 h) m.1

mutual
  value_undated : (v : Raw) (around : ℕ) (x : Datum) → item_of around v ≡ Ok x → Undated x
  value_undated raw_null around x e = subst Undated (same_ok _ _ e) tt
  value_undated (raw_boolean b) around x e = subst Undated (same_ok _ _ e) tt
  value_undated (raw_number n) around x e = number_undated (said n) x e
  value_undated (raw_string cs) around x e = subst Undated (same_ok _ _ e) tt
  value_undated (raw_array vs) around x e =
      let k = bracketed_ok around array_of_list (items_of (suc around) vs) x e in
      subst Undated k.made (values_undated vs (suc around) k.inside k.was)
  value_undated (raw_object fs) around x e =
      let k = bracketed_ok around object_of_fields (pairs_of (suc around) fs) x e in
      subst Undated k.made (put_all_undated [] k.inside tt (members_undated fs (suc around) k.inside k.was))

  values_undated : (vs : Raws) (around : ℕ) (xs : List Datum) → items_of around vs ≡ Ok xs → AllUndated (values xs)
  values_undated no_raws around xs e = subst (λ ys. AllUndated (values ys)) (same_ok _ _ e) tt
  values_undated (raw_value v vs) around xs e =
      let k = together_ok (λ y ys. y ∷ ys) (item_of around v) (items_of around vs) xs e in
      subst (λ ys. AllUndated (values ys)) k.made (value_undated v around k.first k.one, values_undated vs around k.rest k.other)

  members_undated : (fs : Fields) (around : ℕ) (ps : List (List ℕ × Datum)) → pairs_of around fs ≡ Ok ps → MembersUndated (members ps)
  members_undated no_fields around ps e = subst (λ qs. MembersUndated (members qs)) (same_ok _ _ e) tt
  members_undated (field k v fs) around ps e =
      let t = together_ok (λ y qs. (k, y) ∷ qs) (item_of around v) (pairs_of around fs) ps e in
      subst (λ qs. MembersUndated (members qs)) t.made (value_undated v around t.first t.one, members_undated fs around t.rest t.other)

pub items_undated : ItemsAreUndated
items_undated line x h = value_undated h.raw 0 x (sym (gives_one 0 h.raw (Ok x) h.gives))
