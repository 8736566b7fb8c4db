-- The pieces of a text between blanks.
use Rattle.std.proofs.Common.{◌≡◌, ◌⊎◌, inl, inr, ◌<◌, ◌≤◌, ℕ, suc, Bool, true, false, not, nat_lt, List, [], ◌∷◌, ◌++◌, length, take, drop, get_or, filter, refl, sym, ap, subst, ◌∙◌, arith}
use Rattle.std.specs.Prelude.{encode_utf8}
use Rattle.std.specs.List.{list_all, prefix_len, slice_split}
use Rattle.std.specs.Str.{chars, encode_utf8_all, IsUtf8, IsAscii, IsCharBoundary}
use Rattle.std.proofs.lemmas.Bool.{cases_Bool, and_parts, ltb-true, ltb-false}
use Rattle.std.proofs.lemmas.Bool.Decides.{nat_tests}
use Rattle.std.proofs.lemmas.List.{take-append-drop, length-take-le}
use Rattle.std.proofs.lemmas.List.Sums.{prefix_len-le-length, prefix_len_stops}
use Rattle.std.proofs.lemmas.Str.{chars-append, chars-IsAscii, encode_ascii, encodes-chars, chars_past_char, IsUtf8-from_ascii, IsUtf8-take, IsUtf8-drop, chars-nil, IsCharBoundary-from_drop, IsCharBoundary-end, IsCharBoundary-before_ascii}
use Rattle.std.proofs.lemmas.Str.Ascii.{IsAscii-nil, IsAscii-cons}
use Rattle.value_rules.specs.Strings.{is_blank, is_not_empty, words_of}
use Rattle.fn_strings.proofs.Cuts.{behind_text}

abbrev pub is_solid : ℕ → Bool
is_solid c = not (is_blank c)

-- ---- the pieces of characters

blank_passed : (c : ℕ) (t : List ℕ) → is_blank c ≡ true → words_of (c ∷ t) ≡ words_of t
blank_passed c t h = rw h refl

pub blanks_passed : (p t : List ℕ) → list_all is_blank p ≡ true → words_of (p ++ t) ≡ words_of t
blanks_passed [] t h = refl
blanks_passed (c ∷ p) t h =
    let parts = and_parts (is_blank c) (list_all is_blank p) h in
    blank_passed c (p ++ t) parts.0 ∙ blanks_passed p t parts.1

-- nothing, or a blank first
abbrev pub begins_blank : List ℕ → Bool
begins_blank [] = true
begins_blank (c ∷ t) = is_blank c

-- the first part of a text that begins with no blank
solid_part : (c : ℕ) (t : List ℕ) (part : List ℕ) (parts : List (List ℕ)) → is_blank c ≡ false → slice_split is_blank t ≡ part ∷ parts → slice_split is_blank (c ∷ t) ≡ (c ∷ part) ∷ parts
solid_part c t part parts h e = rw (h, e) refl

split_solid : (w t : List ℕ) → list_all is_solid w ≡ true → begins_blank t ≡ true → (parts : List (List ℕ)) × (slice_split is_blank (w ++ t) ≡ w ∷ parts) × (filter is_not_empty parts ≡ words_of t)
split_solid [] [] h b = ([], refl, refl)
split_solid [] (c ∷ t) h b = (slice_split is_blank t, rw b refl, sym (blank_passed c t b))
split_solid (c ∷ w) t h b =
    let both = and_parts (is_solid c) (list_all is_solid w) h in
    let rest = split_solid w t both.1 b in
    let solid : is_blank c ≡ false = not_true (is_blank c) both.0 in
    (rest.0, solid_part c (w ++ t) w rest.0 solid rest.1, rest.2)
  where
    not_true : (x : Bool) → not x ≡ true → x ≡ false
    not_true true e = absurd cc
    not_true false e = refl

-- a piece that ends where a blank stands, or where nothing does
pub first_word : (c : ℕ) (w t : List ℕ) → list_all is_solid (c ∷ w) ≡ true → begins_blank t ≡ true → words_of ((c ∷ w) ++ t) ≡ (c ∷ w) ∷ words_of t
first_word c w t h b =
    let parts = split_solid (c ∷ w) t h b in
    ap (filter is_not_empty) parts.1 ∙ ap (λ ps. (c ∷ w) ∷ ps) parts.2

-- ---- characters and bytes

prefix_more : (test : ℕ → Bool) (x : ℕ) (xs : List ℕ) → test x ≡ true → prefix_len test (x ∷ xs) ≡ suc (prefix_len test xs)
prefix_more test x xs e = rw e (omega arith)

prefix_none : (test : ℕ → Bool) (x : ℕ) (xs : List ℕ) → test x ≡ false → prefix_len test (x ∷ xs) ≡ 0
prefix_none test x xs e = rw e refl

all_passed : (test : ℕ → Bool) (xs : List ℕ) → list_all test (take (prefix_len test xs) xs) ≡ true
all_passed test [] = refl
all_passed test (x ∷ xs) = elim (cases_Bool (test x)) [
  | inl e ↦ subst (λ k. list_all test (take k (x ∷ xs)) ≡ true) (sym (prefix_more test x xs e)) (rw (e, all_passed test xs) refl)
  | inr e ↦ subst (λ k. list_all test (take k (x ∷ xs)) ≡ true) (sym (prefix_none test x xs e)) refl
]

stops : (test : ℕ → Bool) (xs : List ℕ) (y : ℕ) (ys : List ℕ) → drop (prefix_len test xs) xs ≡ y ∷ ys → test y ≡ false
stops test [] y ys e = absurd cc
stops test (x ∷ xs) y ys e = elim (cases_Bool (test x)) [
  | inl h ↦ stops test xs y ys (sym (ap (λ k. drop k (x ∷ xs)) (prefix_more test x xs h)) ∙ e)
  | inr h ↦ subst (λ z. test z ≡ false) (head_is (sym (ap (λ k. drop k (x ∷ xs)) (prefix_none test x xs h)) ∙ e)) h
]
  where
    head_is : x ∷ xs ≡ y ∷ ys → x ≡ y
    head_is e = cc

small_or : (c : ℕ) → (c < 128) ⊎ (128 ≤ c)
small_or c = elim (cases_Bool (nat_lt c 128)) [ inl e ↦ inl (ltb-true c 128 e) | inr e ↦ inr (ltb-false c 128 e) ]

end_or : (m n : ℕ) → m ≤ n → (m ≡ n) ⊎ (m < n)
end_or m n h = elim (cases_Bool (nat_lt m n)) [
  | inl e ↦ inr (ltb-true m n e)
  | inr e ↦ let le = ltb-false m n e in inl (omega arith)
]

blank_small : (c : ℕ) → is_blank c ≡ true → c < 128
blank_small c h = grind (arith, nat_tests)

pub blanks_ascii : (bs : List ℕ) → list_all is_blank bs ≡ true → IsAscii bs
blanks_ascii [] h = IsAscii-nil
blanks_ascii (b ∷ bs) h =
    let parts = and_parts (is_blank b) (list_all is_blank bs) h in
    IsAscii-cons b bs (blank_small b parts.0) (blanks_ascii bs parts.1)

all_of_both : (test : ℕ → Bool) (xs ys : List ℕ) → list_all test (xs ++ ys) ≡ true → (list_all test xs ≡ true) × (list_all test ys ≡ true)
all_of_both test [] ys h = (refl, h)
all_of_both test (x ∷ xs) ys h =
    let parts = and_parts (test x) (list_all test (xs ++ ys)) h in
    let rest = all_of_both test xs ys parts.1 in
    (rw (parts.0, rest.0) refl, rest.1)

solid_large : (c : ℕ) → 128 ≤ c → is_solid c ≡ true
solid_large c h = grind (arith, nat_tests)

-- bytes among which is no blank are characters among which is none
solid_chars : (cs : List ℕ) → list_all is_solid (encode_utf8_all cs) ≡ true → list_all is_solid cs ≡ true
solid_chars [] h = refl
solid_chars (c ∷ cs) h =
    let parts = all_of_both is_solid (encode_utf8 c) (encode_utf8_all cs) h in
    rw (solid parts.0, solid_chars cs parts.1) refl
  where
    solid : list_all is_solid (encode_utf8 c) ≡ true → is_solid c ≡ true
    solid e = elim (small_or c) [
      | inl l ↦ (and_parts (is_solid c) true (subst (λ bs. list_all is_solid bs ≡ true) (encode_ascii c l) e)).0
      | inr g ↦ solid_large c g
    ]

blank_chars : (bs : List ℕ) → IsUtf8 bs → begins_blank bs ≡ true → begins_blank (chars bs) ≡ true
blank_chars [] u h = ap begins_blank chars-nil
blank_chars (b ∷ bs) u h =
    let e : b ∷ bs ≡ encode_utf8 b ++ bs = ap (λ t. t ++ bs) (sym (encode_ascii b (blank_small b h))) in
    ap begins_blank (chars_past_char (b ∷ bs) bs b u e) ∙ h

-- ---- the first piece

-- behind the first blanks
pub record IsBare (bs : List ℕ) (n : ℕ) : Type 0 where
  pub start : IsCharBoundary bs n
  pub text : IsUtf8 (drop n bs)
  pub words : words_of (chars bs) ≡ words_of (chars (drop n bs))

pub bare_is : (bs : List ℕ) → IsUtf8 bs → IsBare bs (prefix_len is_blank bs)
bare_is bs u =
    let n = prefix_len is_blank bs in
    let front = take n bs in
    let blanks = all_passed is_blank bs in
    let ascii = blanks_ascii front blanks in
    let whole = take-append-drop n bs in
    let rest = behind_text front (drop n bs) (IsUtf8-from_ascii front ascii) (subst IsUtf8 (sym whole) u) in
    let cs : chars bs ≡ front ++ chars (drop n bs) =
    ap chars (sym whole) ∙ chars-append front (drop n bs) (IsUtf8-from_ascii front ascii) ∙ ap (λ t. t ++ chars (drop n bs)) (chars-IsAscii front ascii) in
    record {
      start = IsCharBoundary-from_drop bs n (prefix_len-le-length is_blank bs) rest;
      text = rest;
      words = ap words_of cs ∙ blanks_passed front (chars (drop n bs)) blanks;
    }

solid_stops : (bs : List ℕ) → begins_blank (drop (prefix_len is_solid bs) bs) ≡ true
solid_stops bs = by_rest (drop (prefix_len is_solid bs) bs) refl
  where
    by_rest : (r : List ℕ) → drop (prefix_len is_solid bs) bs ≡ r → begins_blank r ≡ true
    by_rest [] e = refl
    by_rest (y ∷ ys) e = not_false (is_blank y) (stops is_solid bs y ys e)
      where
        not_false : (x : Bool) → not x ≡ false → x ≡ true
        not_false true h = refl
        not_false false h = absurd cc

pub piece_ends : (bs : List ℕ) → IsUtf8 bs → IsCharBoundary bs (prefix_len is_solid bs)
piece_ends bs u = elim (end_or (prefix_len is_solid bs) (length bs) (prefix_len-le-length is_solid bs)) [
  | inl same ↦ subst (IsCharBoundary bs) (sym same) (IsCharBoundary-end bs)
  | inr l ↦ IsCharBoundary-before_ascii bs (prefix_len is_solid bs) l (small (get_or bs (prefix_len is_solid bs) 0) (prefix_len_stops is_solid bs 0 l))
]
  where
    small : (c : ℕ) → is_solid c ≡ false → c < 128
    small c h = grind (arith, nat_tests)

no_front : (b : ℕ) (bs : List ℕ) → is_blank b ≡ false → 0 < prefix_len is_solid (b ∷ bs)
no_front b bs h = rw h (omega arith)

-- nothing stands behind the blanks
pub no_piece : (bs : List ℕ) → IsUtf8 bs → prefix_len is_solid (drop (prefix_len is_blank bs) bs) ≡ 0 → words_of (chars bs) ≡ []
no_piece bs u h =
    let bare = bare_is bs u in
    bare.words ∙ ap (λ t. words_of (chars t)) (empty (drop (prefix_len is_blank bs) bs) refl h) ∙ ap words_of chars-nil
  where
    empty : (r : List ℕ) → drop (prefix_len is_blank bs) bs ≡ r → prefix_len is_solid r ≡ 0 → r ≡ []
    empty [] e k = refl
    empty (y ∷ ys) e k = absurd (omega (arith, no_front y ys (stops is_blank bs y ys e)))

some_chars : (bs : List ℕ) → IsUtf8 bs → 0 < length bs → (c : ℕ) × (cs : List ℕ) × (chars bs ≡ c ∷ cs)
some_chars bs u l = by_chars (chars bs) refl
  where
    by_chars : (cs : List ℕ) → chars bs ≡ cs → (c : ℕ) × (r : List ℕ) × (chars bs ≡ c ∷ r)
    by_chars [] e = absurd (omega (arith, ap length (sym (encodes-chars bs u) ∙ ap encode_utf8_all e)))
    by_chars (c ∷ r) e = (c, r, e)

pub one_piece : (bs : List ℕ) (m : ℕ) → IsUtf8 bs → m ≡ prefix_len is_solid (drop (prefix_len is_blank bs) bs) → 0 < m
    → words_of (chars bs) ≡ chars (take m (drop (prefix_len is_blank bs) bs)) ∷ words_of (chars (drop m (drop (prefix_len is_blank bs) bs)))
one_piece bs m u e l = (bare_is bs u).words ∙ piece (drop (prefix_len is_blank bs) bs) (bare_is bs u).text e
  where
    piece : (r : List ℕ) → IsUtf8 r → m ≡ prefix_len is_solid r → words_of (chars r) ≡ chars (take m r) ∷ words_of (chars (drop m r))
    piece r v e =
        let ends = subst (IsCharBoundary r) (sym e) (piece_ends r v) in
        let front = IsUtf8-take r m v ends in
        let back = IsUtf8-drop r m v ends in
        let some = some_chars (take m r) front (omega (arith, length-take-le m r ends.0)) in
        let whole : chars r ≡ chars (take m r) ++ chars (drop m r) = ap chars (sym (take-append-drop m r)) ∙ chars-append (take m r) (drop m r) front in
        let bytes = subst (λ k. list_all is_solid (take k r) ≡ true) (sym e) (all_passed is_solid r) in
        let solid = solid_chars (chars (take m r)) (subst (λ t. list_all is_solid t ≡ true) (sym (encodes-chars (take m r) front)) bytes) in
        let stop = blank_chars (drop m r) back (subst (λ k. begins_blank (drop k r) ≡ true) (sym e) (solid_stops r)) in
        let first = first_word some.0 some.1 (chars (drop m r)) (subst (λ t. list_all is_solid t ≡ true) some.2 solid) stop in
        ap words_of whole ∙ subst (λ t. words_of (t ++ chars (drop m r)) ≡ t ∷ words_of (chars (drop m r))) (sym some.2) first
