-- One line more.
use Rattle.std.proofs.Common.{◌≡◌, ◌∙◌, ◌<◌, ◌+◌, ◌-◌, ◌/◌, ℕ, suc, List, ◌++◌, ap, sym, arith}
use Rattle.std.proofs.lemmas.List.{append_assoc}
use Rattle.line_maker.specs.Lines.{drawn, line, lines_from}

pub turn : (out : List ℕ) (i lines state : ℕ) → i < lines
    → (out ++ line (i + 1) (drawn state / 65536)) ++ lines_from (i + 1 + 1) (drawn state) (lines - (i + 1)) ≡ out ++ lines_from (i + 1) state (lines - i)
turn out i lines state below =
    let left : lines - i ≡ suc (lines - (i + 1)) = omega arith in
    let next : i + 1 + 1 ≡ suc (i + 1) = omega arith in
    append_assoc out (line (i + 1) (drawn state / 65536)) _
    ∙ ap (λ k. out ++ (line (i + 1) (drawn state / 65536) ++ lines_from k (drawn state) (lines - (i + 1)))) next
    ∙ ap (λ k. out ++ lines_from (i + 1) state k) (sym left)
