-- Which lines begin in a window of a file.
use Rattle.std.proofs.Common.{◌≡◌, ◌≤◌, ◌<◌, ◌+◌, ◌++◌, ℕ, List, [], ◌∷◌, Bool, true, false, length, refl, sym, ap, ◌∙◌, arith, append_assoc, inl, inr, length-append, ◌⊎◌, append-nil, ap₂, rules, one-add}
use Rattle.std.specs.Prelude.{filter}
use Rattle.std.specs.List.{before_first}
use Rattle.std.proofs.lemmas.List.Elements.{filter-append}
use Rattle.std.proofs.lemmas.Bool.Decides.{nat_tests}
use Rattle.item_reader.specs.Lines.{Line, cut, placed}
use Rattle.line_pieces.specs.Pieces.{begins_within}
use Rattle.line_pieces.specs.inside.Contents.{is_end}
use Rattle.line_pieces.proofs.Placed.{Ascends, Below, NoEnd, placed_cut, placed_ascends, below_cut, below_more}

-- no line begins before the window's end where all do so before its beginning
pub none_before : (lo hi : ℕ) (ls : List Line) → Below lo ls
    → filter (begins_within lo hi) ls ≡ []
none_before lo hi [] p = refl
none_before lo hi (l ∷ ls) p =
    let low : l.at < lo = p.0 in
    let test : begins_within lo hi l ≡ false = grind (arith, nat_tests) in
    rw test (none_before lo hi ls p.1)

pub none_behind : (lo hi o : ℕ) (ls : List Line) → hi ≤ o → Ascends o ls
    → filter (begins_within lo hi) ls ≡ []
none_behind lo hi o [] h p = refl
none_behind lo hi o (l ∷ ls) h p =
    let high : o ≤ l.at = p.0 in
    let test : begins_within lo hi l ≡ false = grind (arith, nat_tests) in
    rw test (none_behind lo hi l.at ls (omega arith) p.1)

pub all_within : (lo hi o : ℕ) (ls : List Line) → lo ≤ o → Ascends o ls → Below hi ls
    → filter (begins_within lo hi) ls ≡ ls
all_within lo hi o [] h p q = refl
all_within lo hi o (l ∷ ls) h p q =
    let low : o ≤ l.at = p.0 in
    let high : l.at < hi = q.0 in
    let test : begins_within lo hi l ≡ true = grind (arith, nat_tests) in
    rw test (ap (λ (r : List Line). l ∷ r) (all_within lo hi l.at ls (omega arith) p.1 q.1))

-- bytes without a line feed, or those before the first one, and those behind it
pub data EndOf (z : List ℕ) : Type 0 where
  no_end : NoEnd z → before_first is_end z ≡ z → EndOf z
  ends : (f r : List ℕ) → z ≡ f ++ 10 ∷ r → NoEnd f → before_first is_end z ≡ f → EndOf z

pub before_step : (c : ℕ) (z : List ℕ) → is_end c ≡ false
    → before_first is_end (c ∷ z) ≡ c ∷ before_first is_end z
before_step c z e = rw (e, one-add) refl

pub end_of : (z : List ℕ) → EndOf z
end_of [] = no_end tt refl
end_of (c ∷ z) = by (is_end c) refl (end_of z)
  where
    by : (t : Bool) → is_end c ≡ t → EndOf z → EndOf (c ∷ z)
    by true e w =
        let feed : c ≡ 10 = grind (arith, nat_tests) in
        ends [] z (ap (λ b. b ∷ z) feed) tt (rw e refl)
    by false e (no_end none same) = no_end (e, none) (before_step c z e ∙ ap (λ (r : List ℕ). c ∷ r) same)
    by false e (ends f r is none same) =
        ends (c ∷ f) r (ap (λ (r : List ℕ). c ∷ r) is) (e, none) (before_step c z e ∙ ap (λ (r : List ℕ). c ∷ r) same)

not_empty : (f r : List ℕ) → f ++ 10 ∷ r ≡ [] → ⊥
not_empty [] r e = search rules
not_empty (c ∷ f) r e = search rules

-- the lines of a part that begin before this offset, where what is behind it counts only as far
-- as its first line feed
pub front_lines : (lo hi o : ℕ) (m z : List ℕ) → lo ≤ o → o + length m + 1 ≤ hi
    → (z ≡ []) ⊎ (hi ≡ o + length m + 1)
    → filter (begins_within lo hi) (placed o (cut (m ++ z)))
    ≡ placed o (cut (m ++ before_first is_end z))
front_lines lo hi o m z low high end = by (end_of z) end
  where
    by : EndOf z → (z ≡ []) ⊎ (hi ≡ o + length m + 1)
        → filter (begins_within lo hi) (placed o (cut (m ++ z)))
        ≡ placed o (cut (m ++ before_first is_end z))
    by (no_end none same) e =
        rw same (all_within lo hi o (placed o (cut (m ++ z))) low (placed_ascends o (cut (m ++ z)))
        (below_more _ hi _ high (below_cut o m z none)))
    by (ends f r is none same) (inl e) = absurd (not_empty f r (sym is ∙ e))
    by (ends f r is none same) (inr e) =
        let parts : m ++ z ≡ (m ++ f) ++ 10 ∷ r = ap (λ (l : List ℕ). m ++ l) is ∙ sym (append_assoc m f (10 ∷ r)) in
        let here : filter (begins_within lo hi) (placed o (cut (m ++ f))) ≡ placed o (cut (m ++ f)) =
        all_within lo hi o (placed o (cut (m ++ f))) low (placed_ascends o (cut (m ++ f)))
        (below_more _ hi _ high (below_cut o m f none)) in
        let behind : filter (begins_within lo hi) (placed (o + (length (m ++ f) + 1)) (cut r)) ≡ [] =
        none_behind lo hi _ (placed (o + (length (m ++ f) + 1)) (cut r)) (grind (arith, length-append)) (placed_ascends _ (cut r)) in
        ap (λ (b : List ℕ). filter (begins_within lo hi) (placed o (cut b))) parts
        ∙ ap (filter (begins_within lo hi)) (placed_cut o (m ++ f) r)
        ∙ filter-append (begins_within lo hi) (placed o (cut (m ++ f))) (placed (o + (length (m ++ f) + 1)) (cut r))
        ∙ ap₂ (λ (ks ls : List Line). ks ++ ls) here behind
        ∙ append-nil (placed o (cut (m ++ f)))
        ∙ ap (λ (l : List ℕ). placed o (cut (m ++ l))) (sym same)

-- where a line begins in a window of a file: x stands before the window's first byte but one, and
-- f up to the line feed before the first line
pub lines_behind : (lo hi : ℕ) (x f m z : List ℕ) → NoEnd f → length x < lo
    → lo ≤ length x + length f + 1
    → length x + length f + 1 + length m + 1 ≤ hi
    → (z ≡ []) ⊎ (hi ≡ length x + length f + 1 + length m + 1)
    → filter (begins_within lo hi) (placed 0 (cut (x ++ (f ++ 10 ∷ (m ++ z)))))
    ≡ placed (length x + length f + 1) (cut (m ++ before_first is_end z))
lines_behind lo hi x f m z none low first high end =
    let parts : x ++ (f ++ 10 ∷ (m ++ z)) ≡ (x ++ f) ++ 10 ∷ (m ++ z) =
    sym (append_assoc x f (10 ∷ (m ++ z))) in
    let before : filter (begins_within lo hi) (placed 0 (cut (x ++ f))) ≡ [] =
    none_before lo hi _ (below_more _ lo _ (omega arith) (below_cut 0 x f none)) in
    let at : 0 + (length (x ++ f) + 1) ≡ length x + length f + 1 = grind (arith, length-append) in
    ap (λ (b : List ℕ). filter (begins_within lo hi) (placed 0 (cut b))) parts
    ∙ ap (filter (begins_within lo hi)) (placed_cut 0 (x ++ f) (m ++ z))
    ∙ filter-append (begins_within lo hi) (placed 0 (cut (x ++ f))) (placed (0 + (length (x ++ f) + 1)) (cut (m ++ z)))
    ∙ ap (λ (ls : List Line). ls ++ filter (begins_within lo hi) (placed (0 + (length (x ++ f) + 1)) (cut (m ++ z)))) before
    ∙ ap (λ n. filter (begins_within lo hi) (placed n (cut (m ++ z)))) at
    ∙ front_lines lo hi (length x + length f + 1) m z first high end

-- where none begins
pub no_lines : (lo hi : ℕ) (x m z : List ℕ) → NoEnd m → length x < lo
    → (z ≡ []) ⊎ (hi ≡ length x + length m + 1)
    → filter (begins_within lo hi) (placed 0 (cut (x ++ (m ++ z)))) ≡ []
no_lines lo hi x m z none low end = by (end_of z) end
  where
    before : (f : List ℕ) → NoEnd f → filter (begins_within lo hi) (placed 0 (cut (x ++ f))) ≡ []
    before f none = none_before lo hi _ (below_more _ lo _ (omega arith) (below_cut 0 x f none))

    both : (f g : List ℕ) → NoEnd f → NoEnd g → NoEnd (f ++ g)
    both [] g p q = q
    both (c ∷ f) g p q = (p.0, both f g p.1 q)

    by : EndOf z → (z ≡ []) ⊎ (hi ≡ length x + length m + 1)
        → filter (begins_within lo hi) (placed 0 (cut (x ++ (m ++ z)))) ≡ []
    by (no_end last same) e = before (m ++ z) (both m z none last)
    by (ends f r is last same) (inl e) = absurd (not_empty f r (sym is ∙ e))
    by (ends f r is last same) (inr e) =
        let parts : x ++ (m ++ z) ≡ (x ++ (m ++ f)) ++ 10 ∷ r =
        ap (λ (l : List ℕ). x ++ (m ++ l)) is ∙ ap (λ (l : List ℕ). x ++ l) (sym (append_assoc m f (10 ∷ r)))
        ∙ sym (append_assoc x (m ++ f) (10 ∷ r)) in
        let behind : filter (begins_within lo hi) (placed (0 + (length (x ++ (m ++ f)) + 1)) (cut r)) ≡ [] =
        none_behind lo hi (0 + (length (x ++ (m ++ f)) + 1)) _ (grind (arith, length-append)) (placed_ascends _ (cut r)) in
        ap (λ (b : List ℕ). filter (begins_within lo hi) (placed 0 (cut b))) parts
        ∙ ap (filter (begins_within lo hi)) (placed_cut 0 (x ++ (m ++ f)) r)
        ∙ filter-append (begins_within lo hi) (placed 0 (cut (x ++ (m ++ f)))) (placed (0 + (length (x ++ (m ++ f)) + 1)) (cut r))
        ∙ ap₂ (λ (ks ls : List Line). ks ++ ls) (before (m ++ f) (both m f none last)) behind
