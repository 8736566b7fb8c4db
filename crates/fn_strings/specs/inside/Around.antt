-- What stands before and after the first place of a text in another.
use Rattle.std.specs.Prelude.{◌≡◌, ℕ, List, true, is_some}
use Rattle.value_rules.specs.Strings.{first_place, text_before, text_after}

pub record IsAround (u t before after : List ℕ) : Type 0 where
  pub found : is_some (first_place u t) ≡ true
  pub before_it : text_before u t ≡ before
  pub after_it : text_after u t ≡ after
