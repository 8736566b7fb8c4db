-- A place, found from a place before it.
use Rattle.std.proofs.Common.{◌≡◌, ℕ, ◌+◌, ◌-◌, ◌≤◌, ◌<◌, ◌⊎◌, inl, inr, ◌==◌, Bool, true, false, cond, not, nat_lt, List, [], ◌∷◌, ◌++◌, length, take, drop, reverse, refl, sym, ap, ◌∙◌, arith}
use Rattle.std.specs.Prelude.{count_by, take_while, min}
use Rattle.std.proofs.lemmas.List.{append-nil, reverse-append, take_all}
use Rattle.std.proofs.lemmas.Bool.{cases_order, lt-ltb}
use Rattle.std.proofs.lemmas.List.Sums.{sum_by-append, take_while-cons}
use Rattle.std.proofs.Math.Seq.{take-add}
use Rattle.text_places.specs.Places.{begins_character, IsPlaceOf}
use Rattle.text_places.specs.inside.Behind.{newlines, last_characters, line_behind, column_behind}
use Rattle.text_places.specs.declared.moving.Known.{Known}

abbrev Text : Type 0
Text = List ℕ

-- the bytes up to the next LF
abbrev plain : Text → Text
plain bytes = take_while (λ b. not (b == 10)) bytes

newlines-append : (xs ys : Text) → newlines (xs ++ ys) ≡ newlines xs + newlines ys
newlines-append xs ys = sum_by-append _ xs ys

newlines-reverse : (xs : Text) → newlines (reverse xs) ≡ newlines xs
newlines-reverse [] = refl
newlines-reverse (x ∷ xs) =
    let turned = ap newlines (reverse-append (x ∷ []) xs) ∙ newlines-append (reverse xs) (x ∷ []) in
    let first = newlines-append (x ∷ []) xs in
    omega (arith, turned, first, newlines-reverse xs)

choice-more : (b : Bool) (x : ℕ) (xs ys : Text) → x ∷ cond b xs ys ≡ cond b (x ∷ xs) (x ∷ ys)
choice-more true x xs ys = refl
choice-more false x xs ys = refl

newlines-more : (x : ℕ) (xs : Text) → newlines (x ∷ xs) ≡ cond (x == 10) 1 0 + newlines xs
newlines-more x xs = let first = newlines-append (x ∷ []) xs in omega (arith, first)

plain-more : (b : Bool) (n x : ℕ) (xs ys : Text) → n ≡ cond b 1 0 + newlines xs → plain (xs ++ ys) ≡ cond (nat_lt 0 (newlines xs)) (plain xs) (xs ++ plain ys)
    → cond (not b) (x ∷ plain (xs ++ ys)) [] ≡ cond (nat_lt 0 n) (cond (not b) (x ∷ plain xs) []) (x ∷ xs ++ plain ys)
plain-more true n x xs ys e h = sym (ap (λ b. cond b [] (x ∷ xs ++ plain ys)) (lt-ltb 0 n (omega (arith, e))))
plain-more false n x xs ys e h =
    let same : newlines xs ≡ n = omega (arith, e) in
    ap (λ zs. x ∷ zs) h ∙ choice-more (nat_lt 0 (newlines xs)) x (plain xs) (xs ++ plain ys) ∙ ap (λ m. cond (nat_lt 0 m) (x ∷ plain xs) (x ∷ xs ++ plain ys)) same

-- where there is a LF in the first bytes, the others do not count
plain-append : (xs ys : Text) → plain (xs ++ ys) ≡ cond (nat_lt 0 (newlines xs)) (plain xs) (xs ++ plain ys)
plain-append [] ys = refl
plain-append (x ∷ xs) ys =
    let p : ℕ → Bool = λ b. not (b == 10) in
    take_while-cons p x (xs ++ ys)
    ∙ plain-more (x == 10) (newlines (x ∷ xs)) x xs ys (newlines-more x xs) (plain-append xs ys)
    ∙ ap (λ zs. cond (nat_lt 0 (newlines (x ∷ xs))) zs (x ∷ xs ++ plain ys)) (sym (take_while-cons p x xs))

abbrev begun : Text → ℕ
begun bytes = count_by begins_character bytes

last-append : (xs ys : Text) → last_characters (xs ++ ys) + 1 ≡ column_behind (last_characters xs + 1) ys
last-append xs ys =
    ap (λ zs. begun (plain zs) + 1) (reverse-append xs ys)
    ∙ ap (λ zs. begun zs + 1) (plain-append (reverse ys) (reverse xs) ∙ ap (λ n. cond (nat_lt 0 n) (plain (reverse ys)) (reverse ys ++ plain (reverse xs))) (newlines-reverse ys))
    ∙ by (nat_lt 0 (newlines ys)) refl
  where
    alone : nat_lt 0 (newlines ys) ≡ false → plain (reverse ys) ≡ reverse ys ++ []
    alone e = ap plain (sym (append-nil (reverse ys))) ∙ plain-append (reverse ys) [] ∙ ap (λ n. cond (nat_lt 0 n) (plain (reverse ys)) (reverse ys ++ [])) (newlines-reverse ys) ∙ ap (λ b. cond b (plain (reverse ys)) (reverse ys ++ [])) e

    by : (b : Bool) → nat_lt 0 (newlines ys) ≡ b
        → begun (cond b (plain (reverse ys)) (reverse ys ++ plain (reverse xs))) + 1 ≡ cond b (last_characters ys + 1) (last_characters xs + 1 + last_characters ys)
    by true e = refl
    by false e =
        let own : last_characters ys ≡ begun (reverse ys) = ap begun (alone e ∙ append-nil (reverse ys)) in
        let both : begun (reverse ys ++ plain (reverse xs)) ≡ begun (reverse ys) + last_characters xs = sum_by-append _ (reverse ys) (plain (reverse xs)) in
        omega (arith, own, both)

-- an offset behind the text is the text's end
take-min : (n m : ℕ) (xs : Text) → m ≡ min n (length xs) → take n xs ≡ take m xs
take-min n m xs e = by (cases_order n (length xs))
  where
    short : length xs ≤ n → take n xs ≡ take m xs
    short l = take_all n xs l ∙ sym (take_all m xs (omega (arith, e, l)))

    by : (n ≡ length xs) ⊎ ((n < length xs) ⊎ (length xs < n)) → take n xs ≡ take m xs
    by (inl is) = short (omega (arith, is))
    by (inr (inl lt)) = let same : n ≡ m = omega (arith, lt, e) in ap (λ k. take k xs) same
    by (inr (inr lt)) = short (omega (arith, lt))

pub moved : (text : Text) (known next : Known) (begin end : ℕ) → IsPlaceOf text known → known.offset ≤ next.offset
    → end ≡ min next.offset (length text) → begin ≡ min known.offset end
    → next.at.line ≡ line_behind known.at.line (take (end - begin) (drop begin text))
    → next.at.column ≡ column_behind known.at.column (take (end - begin) (drop begin text))
    → IsPlaceOf text next
moved text known next begin end h le e b line column =
    let bytes = take (end - begin) (drop begin text) in
    let first : begin ≡ min known.offset (length text) = omega (arith, le, e, b) in
    let whole : end ≡ begin + (end - begin) = omega (arith, b) in
    let parted : take next.offset text ≡ take known.offset text ++ bytes =
    take-min next.offset end text e ∙ ap (λ n. take n text) whole ∙ take-add begin (end - begin) text ∙ ap (λ xs. xs ++ bytes) (sym (take-min known.offset begin text first)) in
    let lines = ap newlines parted ∙ newlines-append (take known.offset text) bytes in
    record {
      line = omega (arith, line, h.line, lines);
      column = column ∙ ap (λ c. column_behind c bytes) h.column ∙ sym (last-append (take known.offset text) bytes) ∙ ap (λ xs. last_characters xs + 1) (sym parted);
    }
