use Rattle.std.proofs.Common.{◌≡◌, Option, None, Some, Bool, refl, sym, ◌∙◌, ap, subst, length, ◌-◌}
use Rattle.std.specs.Prelude.{List, slice_get, false}
use Rattle.item_reader.specs.declared.turn.Mode.TheVariants.{Value, Key}
use Rattle.item_reader.proofs.Turning.{stops_alone, goes_inside}
use Rattle.item_reader.proofs.turn.State.behind_comma.Goals as goal

abbrev IsLast : Option Bool → List Bool → Type 0
IsLast o xs = o ≡ slice_get xs (length xs - 1)

pub returns-in-None : goal.returns-in-None
returns-in-None c = stops_alone c.args.self.now.kinds.items (subst (IsLast None) c.deref.ensures.value c.in-None.ensures.value)

pub returns-in-Some-true : goal.returns-in-Some-true
returns-in-Some-true c =
    goes_inside c.args.self.now.kinds.items _ (Value false) (ap Some (sym c.in-Some-true.field-0-test) ∙ subst (IsLast (Some c.in-Some-true.field-0.now)) c.deref.ensures.value c.in-Some-true.ensures.value) refl

pub returns-in-Some-false : goal.returns-in-Some-false
returns-in-Some-false c =
    goes_inside c.args.self.now.kinds.items _ (Key false) (ap Some (sym c.in-Some-false.field-0-test) ∙ subst (IsLast (Some c.in-Some-false.field-0.now)) c.deref.ensures.value c.in-Some-false.ensures.value) refl
