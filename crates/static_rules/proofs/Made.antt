-- What holds where a part was made.
use Rattle.std.proofs.Common.{◌≡◌, Result, Ok, OnOk, IfOk, subst}

pub on-made : {A E : Type 0} (r : Result A E) (a : A) (P : Type 0) → r ≡ Ok a → OnOk r P → P
on-made r a P e h = subst (λ x. OnOk x P) e h

pub of-made : {A E : Type 0} (r : Result A E) (a : A) (P : A → Type 0) → r ≡ Ok a → IfOk r P → P a
of-made r a P e h = subst (λ x. IfOk x P) e h
