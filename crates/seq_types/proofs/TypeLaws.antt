-- Types are found by their names.
use Rattle.std.proofs.Common.{◌≡◌, ℕ, Bool, true, false, not, cond, ◌&&◌, ◌||◌, List, [], ◌∷◌, Option, Some, None, refl, sym, ap, ◌∙◌, if◌then◌else◌}
use Rattle.std.specs.Str.{bytes_eq}
use Rattle.std.proofs.lemmas.Slice.Eq.{bytes_eq-Decides}
use Rattle.item_tree.proofs.Members.{both}
use Rattle.seq_types.specs.declared.types.ItemType.{ItemType}
use Rattle.seq_types.specs.declared.types.ItemType.TheVariants.{Item}
use Rattle.seq_types.specs.Names.{TypeRow, type_rows, found_in, name_of, type_named}
use Rattle.seq_types.specs.Laws.{takes_parens, TypesAreFound}

found : (t : ItemType) → type_named (name_of t) false ≡ Some t
found Item = refl
found _ = refl

with_parens : (t : ItemType) → type_named (name_of t) true ≡ (if takes_parens t then Some t else None)
with_parens Item = refl
with_parens _ = refl

named : (rows : List TypeRow) (name : List ℕ) (parens : Bool) (t : ItemType) → found_in rows name parens ≡ Some t → name_of t ≡ name
named [] name parens t e = absurd (cc)
named (r ∷ rows) name parens t e =
    by (bytes_eq name (name_of r.meaning) && (not parens || r.parens)) refl (named rows name parens t) e
  where
    by : (b : Bool) → (bytes_eq name (name_of r.meaning) && (not parens || r.parens)) ≡ b
        → (found_in rows name parens ≡ Some t → name_of t ≡ name)
        → cond b (Some r.meaning) (found_in rows name parens) ≡ Some t → name_of t ≡ name
    by true is later f =
        let s : r.meaning ≡ t = cc in
        ap name_of (sym s) ∙ sym ((bytes_eq-Decides name (name_of r.meaning)).0 (both (bytes_eq name (name_of r.meaning)) (not parens || r.parens) is).0)
    by false is later f = later f

some_same : {X : Type 0} (x y : X) → Some x ≡ Some y → x ≡ y
some_same x y e = cc

pub types_found : TypesAreFound
types_found = record {
  found = found;
  with_parens = with_parens;
  named = λ name parens t e. named type_rows name parens t e;
  apart = λ t u e. some_same t u (sym (found t) ∙ ap (λ n. type_named n false) e ∙ found u);
}
