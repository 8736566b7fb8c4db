use Rattle.std.proofs.Common.{[], ◌∷◌, codes, ◌∙◌, ap, arith}
use Rattle.std.specs.Str.{IsAscii}
use Rattle.std.proofs.lemmas.Str.{chars-IsAscii}
use Rattle.std.proofs.lemmas.Str.Ascii.{IsAscii-nil, IsAscii-cons}
use Rattle.query_parser.proofs.values.error_variable.Goals as goal

ascii : IsAscii (codes "err:code")
ascii = IsAscii-cons 101 (114 ∷ 114 ∷ 58 ∷ 99 ∷ 111 ∷ 100 ∷ 101 ∷ []) (omega arith) (IsAscii-cons 114 (114 ∷ 58 ∷ 99 ∷ 111 ∷ 100 ∷ 101 ∷ []) (omega arith) (IsAscii-cons 114 (58 ∷ 99 ∷ 111 ∷ 100 ∷ 101 ∷ []) (omega arith) (IsAscii-cons 58 (99 ∷ 111 ∷ 100 ∷ 101 ∷ []) (omega arith) (IsAscii-cons 99 (111 ∷ 100 ∷ 101 ∷ []) (omega arith) (IsAscii-cons 111 (100 ∷ 101 ∷ []) (omega arith) (IsAscii-cons 100 (101 ∷ []) (omega arith) (IsAscii-cons 101 [] (omega arith) IsAscii-nil)))))))

pub returns-in-Ok : goal.returns-in-Ok
returns-in-Ok c = ap (λ name. record { place = c.args.place; name = name }) (c.in-Ok.ensures ∙ chars-IsAscii (codes "err:code") ascii)
