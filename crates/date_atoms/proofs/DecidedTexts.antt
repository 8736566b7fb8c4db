-- Whether a text says a date or a moment.
use Rattle.std.proofs.Common.{inl, inr, ◌⊎◌}
use Rattle.std.specs.Prelude.{Option, Some, None, MatchOption}
use Rattle.date_atoms.specs.Laws.{TextsAreDecided}
use Rattle.date_atoms.specs.Values.{said_date, said_moment}
use Rattle.date_atoms.proofs.ComputedTexts.{texts_computed}

decided : {X : Type 0} (P : X → Type 0) (o : Option X) → MatchOption o ((x : X) → ¬ P x) P → ((x : X) × P x) ⊎ ((x : X) → ¬ P x)
decided P None h = inr h
decided P (Some x) h = inl (x, h)

pub texts_decided : TextsAreDecided
texts_decided = record {
  date = λ t. decided _ (said_date t) (texts_computed.date t);
  date_time = λ t. decided _ (said_moment t) (texts_computed.date_time t);
}
