-- The table of what is put for characters, one character longer, and what a look-up in it tells.
use Rattle.std.proofs.Common.{◌≡◌, ℕ, suc, ◌+◌, Bool, true, false, ◌==◌, if◌then◌else◌, List, [], ◌∷◌, ◌++◌, length, take, drop, Option, Some, None, option_map, unwrap_or, refl, sym, ap, subst, ◌∙◌, arith}
use Rattle.std.specs.Char.{IsScalar}
use Rattle.std.specs.List.{slice_get}
use Rattle.std.specs.Prelude.{encode_utf8}
use Rattle.std.specs.Str.{chars, all_scalars, encode_utf8_all, IsUtf8}
use Rattle.std.specs.Str.Iter.{chars_rest, chars_steps}
use Rattle.std.specs.Option.{option_or, option_to_list}
use Rattle.std.proofs.lemmas.List.{append-nil, drop-drop, nil_from_length}
use Rattle.std.proofs.lemmas.Str.{chars-nil, chars-append, chars-encodes, chars_past_char, IsUtf8-past_char}
use Rattle.value_rules.specs.Strings.{replacement, translated}

one_more : (n : ℕ) → 1 + n ≡ suc n
one_more n = omega arith

-- what a new character at the end stands for, where it was not there before
pub replacement_more : (ds images : List ℕ) (d q : ℕ) → replacement (ds ++ d ∷ []) images q ≡ option_or (replacement ds images q) (if q == d then Some (take 1 (drop (length ds) images)) else None)
replacement_more [] images d q = refl
replacement_more (e ∷ ds) images d q = by_first (q == e)
    (replacement_more ds (drop 1 images) d q
    ∙ ap (λ l. option_or (replacement ds (drop 1 images) q) (if q == d then Some (take 1 l) else None)) (drop-drop (length ds) 1 images ∙ ap (λ n. drop n images) (one_more (length ds))))
  where
    by_first : (b : Bool)
        → replacement (ds ++ d ∷ []) (drop 1 images) q ≡ option_or (replacement ds (drop 1 images) q) (if q == d then Some (take 1 (drop (suc (length ds)) images)) else None)
        → (if b then Some (take 1 images) else replacement (ds ++ d ∷ []) (drop 1 images) q)
        ≡ option_or (if b then Some (take 1 images) else replacement ds (drop 1 images) q) (if q == d then Some (take 1 (drop (suc (length ds)) images)) else None)
    by_first true more = refl
    by_first false more = more

pub first_taken : (xs : List ℕ) → option_to_list (slice_get xs 0) ≡ take 1 xs
first_taken [] = refl
first_taken (x ∷ xs) = refl

-- what a table is told when it takes one more character
pub table_more : (was is : Option (Option ℕ)) (image : Option ℕ) (ds images : List ℕ) (d q : ℕ)
    → option_map option_to_list was ≡ replacement ds images q
    → is ≡ option_or was (if q == d then Some image else None)
    → option_to_list image ≡ take 1 (drop (length ds) images)
    → option_map option_to_list is ≡ replacement (ds ++ d ∷ []) images q
table_more was is image ds images d q h e i =
    ap (option_map option_to_list) e
    ∙ split was (q == d)
    ∙ (λ j. option_or (h j) (if q == d then Some (i j) else None))
    ∙ sym (replacement_more ds images d q)
  where
    split : (o : Option (Option ℕ)) (b : Bool) → option_map option_to_list (option_or o (if b then Some image else None)) ≡ option_or (option_map option_to_list o) (if b then Some (option_to_list image) else None)
    split None true = refl
    split None false = refl
    split (Some x) b = refl

-- what a look-up in the table tells
pub looked_up : (o : Option (Option ℕ)) (characters images : List ℕ) (c : ℕ) → option_map option_to_list o ≡ replacement characters images c → option_to_list (unwrap_or o (Some c)) ≡ translated characters images c
looked_up o characters images c h = by_case o ∙ ap (λ r. unwrap_or r (c ∷ [])) h
  where
    by_case : (o : Option (Option ℕ)) → option_to_list (unwrap_or o (Some c)) ≡ unwrap_or (option_map option_to_list o) (c ∷ [])
    by_case None = refl
    by_case (Some x) = refl

-- what a call of `next` takes off the characters that are left
pub next_taken : (s t : _) (r : Option ℕ) → IsUtf8 (chars_rest s) → chars_steps s r t
    → IsUtf8 (chars_rest t) × (chars (chars_rest t) ≡ drop 1 (chars (chars_rest s))) × (option_to_list r ≡ take 1 (chars (chars_rest s)))
next_taken s t None u h =
    let z : chars (chars_rest s) ≡ [] = ap chars (nil_from_length (chars_rest s) h.0.0) ∙ chars-nil in
    (subst (λ x. IsUtf8 (chars_rest x)) (sym h.0.1) u, ap (λ x. chars (chars_rest x)) h.0.1 ∙ z ∙ sym (ap (drop 1) z), sym (ap (take 1) z))
next_taken s t (Some c) u h =
    let p = chars_past_char (chars_rest s) (chars_rest t) c u h.0 in
    (IsUtf8-past_char (chars_rest s) (chars_rest t) c u h.0, sym (ap (drop 1) p), sym (ap (take 1) p))

-- one more character at the end of a text
pub char_pushed : (xs : List ℕ) (c : ℕ) → IsUtf8 xs → IsScalar c → chars (xs ++ encode_utf8 c) ≡ chars xs ++ c ∷ []
char_pushed xs c u h =
    let e : encode_utf8 c ≡ encode_utf8_all (c ∷ []) = sym (append-nil (encode_utf8 c)) in
    let s : all_scalars (c ∷ []) ≡ true = rw h refl in
    chars-append xs (encode_utf8 c) u ∙ ap (λ t. chars xs ++ chars t) e ∙ ap (λ t. chars xs ++ t) (chars-encodes (c ∷ []) s)
