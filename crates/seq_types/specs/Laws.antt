-- Laws of the names of types.
use Rattle.std.specs.Prelude.{◌≡◌, ℕ, Bool, true, false, Some, None, List, if◌then◌else◌}
use Rattle.seq_types.specs.declared.types.ItemType.{ItemType}
use Rattle.seq_types.specs.declared.types.ItemType.TheVariants.{Item, JsonItem, Object, Array}
use Rattle.seq_types.specs.Names.{name_of, type_named}

-- parentheses may follow four names alone
abbrev pub takes_parens : ItemType → Bool
takes_parens Item = true
takes_parens JsonItem = true
takes_parens Object = true
takes_parens Array = true
takes_parens _ = false

-- each type is found by its name, with parentheses where they may follow it alone; what is found
-- bears the name, and no two types are called alike
pub record TypesAreFound : Type 0 where
  pub found : (t : ItemType) → type_named (name_of t) false ≡ Some t
  pub with_parens :
      (t : ItemType) → type_named (name_of t) true ≡ (if takes_parens t then Some t else None)
  pub named :
      (name : List ℕ) (parens : Bool) (t : ItemType) → type_named name parens ≡ Some t
      → name_of t ≡ name
  pub apart : (t u : ItemType) → name_of t ≡ name_of u → t ≡ u
