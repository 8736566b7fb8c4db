-- A list that is made line by line.
use Rattle.std.proofs.Common.{◌≡◌, ◌<◌, ◌+◌, ◌++◌, ℕ, zero, suc, List, [], ◌∷◌, length, take, get_or, ap, sym, ◌∙◌, arith, append_assoc, append-nil}
use Rattle.std.specs.Prelude.{slice_range}
use Rattle.part_writer.specs.Parts.{parts_from}
use Rattle.part_list.specs.Lists.{part_line, list_of}

-- one line more
lines_more : (text : List ℕ) (ranges : List (ℕ × ℕ)) (number k n : ℕ) (d : ℕ × ℕ) → k < length ranges
    → number + k ≡ n
    → list_of (parts_from number text (take (suc k) ranges))
    ≡ list_of (parts_from number text (take k ranges))
    ++ part_line (n, slice_range text (get_or ranges k d).0 (get_or ranges k d).1)
lines_more text [] number k n d h e = absurd (omega arith)
lines_more text (r ∷ rs) number zero n d h e =
    let same : number ≡ n = omega arith in
    append-nil _ ∙ ap (λ (m : ℕ). part_line (m, slice_range text r.0 r.1)) same
lines_more text (r ∷ rs) number (suc k) n d h e =
    let line = part_line (number, slice_range text r.0 r.1) in
    ap (λ (l : List ℕ). line ++ l) (lines_more text rs (number + 1) k n d (omega arith) (omega arith))
    ∙ sym (append_assoc line _ _)

pub more : (text : List ℕ) (ranges : List (ℕ × ℕ)) (k : ℕ) (d : ℕ × ℕ) (before after : List ℕ)
    → k < length ranges → before ≡ list_of (parts_from 0 text (take k ranges))
    → after ≡ before ++ part_line (k, slice_range text (get_or ranges k d).0 (get_or ranges k d).1)
    → after ≡ list_of (parts_from 0 text (take (k + 1) ranges))
more text ranges k d before after h b a =
    let line = part_line (k, slice_range text (get_or ranges k d).0 (get_or ranges k d).1) in
    let next : k + 1 ≡ suc k = omega arith in
    a ∙ ap (λ (l : List ℕ). l ++ line) b
    ∙ sym (lines_more text ranges 0 k k d h (omega arith))
    ∙ ap (λ n. list_of (parts_from 0 text (take n ranges))) (sym next)
