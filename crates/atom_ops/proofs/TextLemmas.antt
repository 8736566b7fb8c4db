-- Texts put together.
use Rattle.std.proofs.Common.{◌≡◌, ℕ, List, ◌++◌, ap, ◌∙◌}
use Rattle.std.specs.Str.{chars, IsUtf8}
use Rattle.std.proofs.lemmas.Str.{chars-append}

pub joined_chars : (x y s t : List ℕ) → IsUtf8 x → chars x ≡ s → chars y ≡ t → chars (x ++ y) ≡ s ++ t
joined_chars x y s t u e f = chars-append x y u ∙ ap (λ l. l ++ chars y) e ∙ ap (λ l. s ++ l) f
