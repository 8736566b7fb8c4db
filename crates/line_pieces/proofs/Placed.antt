-- Lines with their offsets, where a part of a file is cut.
use Rattle.std.proofs.Common.{◌≡◌, ◌≤◌, ◌<◌, ◌+◌, ◌++◌, ℕ, suc, List, [], ◌∷◌, Bool, true, false, cond, length, refl, sym, ap, ◌∙◌, arith, subst}
use Rattle.std.specs.List.{onto_first}
use Rattle.std.proofs.lemmas.List.Splits.{length-slice_split}
use Rattle.item_reader.specs.Lines.{Line, cut, placed}
use Rattle.line_pieces.specs.inside.Contents.{is_end}

-- there is a line
pub cut_some : (b : List ℕ) → 0 < length (cut b)
cut_some b = grind (arith, length-slice_split)

onto_first-append : (c : ℕ) (ls ms : List (List ℕ)) → 0 < length ls
    → onto_first c (ls ++ ms) ≡ onto_first c ls ++ ms
onto_first-append c [] ms h = absurd (omega arith)
onto_first-append c (l ∷ ls) ms h = refl

-- a line feed parts the lines before it from those behind it
pub cut-append : (x y : List ℕ) → cut (x ++ 10 ∷ y) ≡ cut x ++ cut y
cut-append [] y = refl
cut-append (c ∷ x) y = by (is_end c) (cut-append x y)
  where
    by : (b : Bool) → cut (x ++ 10 ∷ y) ≡ cut x ++ cut y
        → cond b ([] ∷ cut (x ++ 10 ∷ y)) (onto_first c (cut (x ++ 10 ∷ y)))
        ≡ cond b ([] ∷ cut x) (onto_first c (cut x)) ++ cut y
    by true e = ap (λ (ls : List (List ℕ)). [] ∷ ls) e
    by false e = ap (onto_first c) e ∙ onto_first-append c (cut x) (cut y) (cut_some x)

-- how many bytes lines have, with a line feed each
abbrev pub spread : List (List ℕ) → ℕ
spread [] = 0
spread (l ∷ ls) = length l + 1 + spread ls

pub placed-append : (o : ℕ) (xs ys : List (List ℕ))
    → placed o (xs ++ ys) ≡ placed o xs ++ placed (o + spread xs) ys
placed-append o [] ys = ap (λ n. placed n ys) (omega arith)
placed-append o (l ∷ ls) ys =
    ap (λ (r : List Line). record { at = o; bytes = l } ∷ r)
    (placed-append (o + length l + 1) ls ys
    ∙ ap (λ n. placed (o + length l + 1) ls ++ placed n ys) (omega arith))

spread-onto_first : (c : ℕ) (ls : List (List ℕ)) → 0 < length ls
    → spread (onto_first c ls) ≡ suc (spread ls)
spread-onto_first c [] h = absurd (omega arith)
spread-onto_first c (l ∷ ls) h = omega arith

pub spread-cut : (b : List ℕ) → spread (cut b) ≡ length b + 1
spread-cut [] = refl
spread-cut (c ∷ b) = by (is_end c) (spread-cut b) (spread-onto_first c (cut b) (cut_some b))
  where
    by : (t : Bool) → spread (cut b) ≡ length b + 1
        → spread (onto_first c (cut b)) ≡ suc (spread (cut b))
        → spread (cond t ([] ∷ cut b) (onto_first c (cut b))) ≡ length (c ∷ b) + 1
    by true e f = omega arith
    by false e f = omega arith

pub placed_cut : (o : ℕ) (x y : List ℕ)
    → placed o (cut (x ++ 10 ∷ y)) ≡ placed o (cut x) ++ placed (o + (length x + 1)) (cut y)
placed_cut o x y =
    ap (placed o) (cut-append x y) ∙ placed-append o (cut x) (cut y)
    ∙ ap (λ n. placed o (cut x) ++ placed (o + n) (cut y)) (spread-cut x)

-- the offsets do not fall, and are not below this one
abbrev pub Ascends : ℕ → List Line → Type 0
Ascends o [] = Unit {0}
Ascends o (l ∷ ls) = (o ≤ l.at) × Ascends l.at ls

pub ascends_from : (a b : ℕ) (ls : List Line) → a ≤ b → Ascends b ls → Ascends a ls
ascends_from a b [] h p = tt
ascends_from a b (l ∷ ls) h p =
    let low : b ≤ l.at = p.0 in
    (omega arith, p.1)

pub placed_ascends : (o : ℕ) (xs : List (List ℕ)) → Ascends o (placed o xs)
placed_ascends o [] = tt
placed_ascends o (l ∷ ls) =
    (omega arith, ascends_from o (o + length l + 1) _ (omega arith) (placed_ascends (o + length l + 1) ls))

-- all offsets are below this one
abbrev pub Below : ℕ → List Line → Type 0
Below h [] = Unit {0}
Below h (l ∷ ls) = (l.at < h) × Below h ls

pub below_more : (g h : ℕ) (ls : List Line) → g ≤ h → Below g ls → Below h ls
below_more g h [] e p = tt
below_more g h (l ∷ ls) e p =
    let low : l.at < g = p.0 in
    (omega arith, below_more g h ls e p.1)

-- no line feed stands among these bytes
abbrev pub NoEnd : List ℕ → Type 0
NoEnd [] = Unit {0}
NoEnd (b ∷ f) = (is_end b ≡ false) × NoEnd f

-- such bytes are one line
pub cut_whole : (f : List ℕ) → NoEnd f → cut f ≡ f ∷ []
cut_whole [] none = refl
cut_whole (b ∷ f) none = rw none.0 (ap (onto_first b) (cut_whole f none.1))

onto_below : (c o h : ℕ) (ls : List (List ℕ)) → o < h → Below h (placed (o + 1) ls)
    → Below h (placed o (onto_first c ls))
onto_below c o h [] p q = (p, tt)
onto_below c o h (l ∷ ls) p q =
    (p, subst (λ (n : ℕ). Below h (placed n ls)) (omega arith) q.1)

-- a line begins no later than behind the last line feed
pub below_cut : (o : ℕ) (m f : List ℕ) → NoEnd f
    → Below (o + length m + 1) (placed o (cut (m ++ f)))
below_cut o [] f none =
    subst (λ (ls : List (List ℕ)). Below (o + 0 + 1) (placed o ls)) (sym (cut_whole f none))
    (omega arith, tt)
below_cut o (c ∷ m) f none = by (is_end c) (below_cut (o + 1) m f none)
  where
    h : ℕ
    h = o + length (c ∷ m) + 1

    by : (t : Bool) → Below (o + 1 + length m + 1) (placed (o + 1) (cut (m ++ f)))
        → Below h (placed o (cond t ([] ∷ cut (m ++ f)) (onto_first c (cut (m ++ f)))))
    by true p = (omega arith, subst (λ (n : ℕ). Below h (placed n (cut (m ++ f)))) (omega arith) (below_more _ h _ (omega arith) p))
    by false p = onto_below c o h (cut (m ++ f)) (omega arith) (below_more _ h _ (omega arith) p)
