-- The value of a string that is a token of a text. For other crates too.
use Rattle.std.proofs.Common.{◌≡◌, inl, inr, ℕ, zero, suc, ◌+◌, ◌-◌, ◌*◌, ◌<◌, ◌≤◌, List, ◌∷◌, [], ◌++◌, length, length-append, length-drop, take, drop, get_or, true, ◌&&◌, nat_lt, sym, ◌∙◌, ap, subst, refl, arith, Some, append_assoc, append-nil}
use Rattle.std.specs.Prelude.{IfSome, IfOk, Result, Ok, Err}
use Rattle.std.specs.Char.{IsScalar, digit_value, is_digit, encode_utf8}
use Rattle.std.specs.Str.{IsUtf8, chars}
use Rattle.std.proofs.lemmas.Bool.{and_parts, ltb-true, cond_both}
use Rattle.std.proofs.lemmas.Bool.Decides.{nat_tests}
use Rattle.std.proofs.lemmas.List.{take_at, drop_at, get_or_at, take-append-drop, length-take-le}
use Rattle.std.proofs.lemmas.Str.{IsUtf8-append, IsUtf8-take, IsUtf8-drop, IsUtf8-encode, IsCharBoundary-before_ascii, IsCharBoundary-after_ascii, IsUtf8-from_ascii, is_utf8-from_IsUtf8}
use Rattle.item_tree.specs.JsonString.{Piece, byte, unit, short_escape, code_unit, IsPiece, ArePieces, content, is_high_half, is_low_half, lone_character, paired_character, IsString}
use Rattle.json_text.specs.inside.Scan.{spell, string_at}
use Rattle.json_text.proofs.StringLemmas.{pieces_taken, string_is}
use Rattle.query_lexer.specs.Lexes.{IsTokenOf, spelling}
use Rattle.query_lexer.specs.Words.{Fits, IsText}
use Rattle.query_lexer.specs.declared.token.TokenKind.TheVariants as k
use Rattle.query_lexer.specs.declared.token.Token.{Token}
use Rattle.query_lexer.proofs.Cases.{chosen}
use Rattle.query_lexer.proofs.StringLemmas.{pieces_more}
use Rattle.query_lexer.proofs.PlaceLemmas.{token_placed}

-- ---- what pieces of a text spell is UTF-8

-- a text is cut before an ASCII byte and behind one
front_utf8 : (front : List ℕ) (b : ℕ) (r : List ℕ) → b < 128 → IsUtf8 (front ++ b ∷ r) → IsUtf8 front
front_utf8 front b r small u =
    let at = get_or_at front b r 0 (length front) refl in
    let l = length-append front (b ∷ r) in
    subst IsUtf8 (take_at front (b ∷ r) (length front) refl) (IsUtf8-take (front ++ b ∷ r) (length front) u (IsCharBoundary-before_ascii (front ++ b ∷ r) (length front) (omega arith) (omega arith)))

rest_utf8 : (front : List ℕ) (b : ℕ) (r : List ℕ) → b < 128 → IsUtf8 (front ++ b ∷ r) → IsUtf8 r
rest_utf8 front b r small u =
    let at = get_or_at front b r 0 (length front) refl in
    let l = length-append front (b ∷ r) in
    let seam : front ++ b ∷ r ≡ (front ++ b ∷ []) ++ r = sym (append_assoc front (b ∷ []) r) in
    let size : length (front ++ b ∷ []) ≡ length front + 1 = length-append front (b ∷ []) in
    let cut : drop (length front + 1) (front ++ b ∷ r) ≡ r = ap (drop (length front + 1)) seam ∙ drop_at (front ++ b ∷ []) r (length front + 1) size in
    subst IsUtf8 cut (IsUtf8-drop (front ++ b ∷ r) (length front + 1) u (IsCharBoundary-after_ascii (front ++ b ∷ r) (length front) u (omega arith) (omega arith)))

short_small : (x b : ℕ) → short_escape x ≡ Some b → (x < 128) × (b < 128)
short_small x b h = (grind (arith, nat_tests), grind (arith, nat_tests))

only_ascii : (b : ℕ) → b < 128 → (i : ℕ) → get_or (b ∷ []) i 0 < 128
only_ascii b h zero = h
only_ascii b h (suc i) = omega arith

ascii_utf8 : (b : ℕ) → b < 128 → IsUtf8 (b ∷ [])
ascii_utf8 b h = IsUtf8-from_ascii (b ∷ []) (only_ascii b h)

hex_small : (a : ℕ) → is_digit a 16 ≡ true → a < 128
hex_small a h = grind (arith, nat_tests)

unit_small : (a b c d u : ℕ) → code_unit a b c d ≡ Some u → (u < 65536) × (d < 128)
unfolding code_unit
unit_small a b c d u h = elim (chosen (is_digit a 16 && is_digit b 16 && is_digit c 16 && is_digit d 16) _ _ _ h) [
  | inl (e, is) ↦
      let three = and_parts (is_digit a 16 && is_digit b 16 && is_digit c 16) (is_digit d 16) e in
      let two = and_parts (is_digit a 16 && is_digit b 16) (is_digit c 16) three.0 in
      let one = and_parts (is_digit a 16) (is_digit b 16) two.0 in
      let same : digit_value a * 4096 + digit_value b * 256 + digit_value c * 16 + digit_value d ≡ u = cc in
      (below (digit_value a) (digit_value b) (digit_value c) (digit_value d) u (ltb-true _ 16 one.0) (ltb-true _ 16 one.1) (ltb-true _ 16 two.1) (ltb-true _ 16 three.1) same, hex_small d three.1)
  | inr (e, is) ↦ let never : ⊥ = cc in absurd never
]
  where
    below : (p q r s u : ℕ) → p < 16 → q < 16 → r < 16 → s < 16 → p * 4096 + q * 256 + r * 16 + s ≡ u → u < 65536
    below p q r s u hp hq hr hs e = omega arith

lone_scalar : (u : ℕ) → u < 65536 → IsScalar (lone_character u)
lone_scalar u h = grind (arith, nat_tests)

wide_scalar : (c : ℕ) → 57344 ≤ c → c < 1114112 → IsScalar c
wide_scalar c low high = grind (arith, nat_tests)

half_below : (u : ℕ) → is_high_half u ≡ true → u < 56320
half_below u h = ltb-true u 56320 (and_parts _ (nat_lt u 56320) h).1

low_below : (u : ℕ) → is_low_half u ≡ true → u < 57344
low_below u h = ltb-true u 57344 (and_parts _ (nat_lt u 57344) h).1

pair_scalar : (h u : ℕ) → is_high_half h ≡ true → is_low_half u ≡ true → IsScalar (paired_character h u)
pair_scalar h u high low = wide_scalar (paired_character h u) (omega arith) (omega (arith, half_below h high, low_below u low))

unit_rest : (u : ℕ) (l r front : List ℕ) → IsPiece (unit u) l r → IsUtf8 (front ++ l) → (u < 65536) × IsUtf8 front × IsUtf8 r
unit_rest u l r front (a, b, c, d, is, e) h =
    let whole = subst (λ t. IsUtf8 (front ++ t)) e h in
    let w = 92 ∷ 117 ∷ a ∷ b ∷ c ∷ [] in
    let small = unit_small a b c d u is in
    (small.0, front_utf8 front 92 (117 ∷ a ∷ b ∷ c ∷ d ∷ r) (omega arith) whole, rest_utf8 (front ++ w) d r small.1 (subst IsUtf8 (sym (append_assoc front w (d ∷ r))) whole))

lone_utf8 : (u : ℕ) (tail front : List ℕ) → u < 65536 → IsUtf8 front → IsUtf8 tail → IsUtf8 (front ++ (encode_utf8 (lone_character u) ++ tail))
lone_utf8 u tail front small before after = IsUtf8-append front (encode_utf8 (lone_character u) ++ tail) before (IsUtf8-append (encode_utf8 (lone_character u)) tail (IsUtf8-encode (lone_character u) (lone_scalar u small)) after)

pair_utf8 : (u w : ℕ) (tail front : List ℕ) → (is_high_half u && is_low_half w) ≡ true → IsUtf8 front → IsUtf8 tail → IsUtf8 (front ++ (encode_utf8 (paired_character u w) ++ tail))
pair_utf8 u w tail front halves before after =
    let both = and_parts (is_high_half u) (is_low_half w) halves in
    IsUtf8-append front (encode_utf8 (paired_character u w) ++ tail) before (IsUtf8-append (encode_utf8 (paired_character u w)) tail (IsUtf8-encode (paired_character u w) (pair_scalar u w both.0 both.1)) after)

-- front is what was read of the last character
content_utf8 : (ps : List Piece) (l r front : List ℕ) → ArePieces ps l r → IsUtf8 (front ++ l) → IsUtf8 (front ++ content ps)
content_utf8 [] l r front h u = subst IsUtf8 (sym (append-nil front)) (front_utf8 front 34 r (omega arith) (subst (λ t. IsUtf8 (front ++ t)) h u))
content_utf8 (byte b ∷ ps) l r front (between, inl (raw, e), more) u =
    let whole = subst (λ t. IsUtf8 (front ++ t)) e u in
    subst IsUtf8 (append_assoc front (b ∷ []) (content ps)) (content_utf8 ps between r (front ++ b ∷ []) more (subst IsUtf8 (sym (append_assoc front (b ∷ []) between)) whole))
content_utf8 (byte b ∷ ps) l r front (between, inr (x, short, e), more) u =
    let whole = subst (λ t. IsUtf8 (front ++ t)) e u in
    let small = short_small x b short in
    let rest = rest_utf8 (front ++ 92 ∷ []) x between small.0 (subst IsUtf8 (sym (append_assoc front (92 ∷ []) (x ∷ between))) whole) in
    IsUtf8-append front (b ∷ content ps) (front_utf8 front 92 (x ∷ between) (omega arith) whole) (IsUtf8-append (b ∷ []) (content ps) (ascii_utf8 b small.1) (content_utf8 ps between r [] more rest))
content_utf8 (unit c ∷ []) l r front (between, one, more) u =
    let v = unit_rest c l between front one u in
    let tail = content_utf8 [] between r [] more v.2 in
    subst (λ t. IsUtf8 (front ++ t)) (append-nil (encode_utf8 (lone_character c))) (lone_utf8 c [] front v.0 v.1 tail)
content_utf8 (unit c ∷ byte b ∷ ps) l r front (between, one, more) u =
    let v = unit_rest c l between front one u in
    lone_utf8 c (b ∷ content ps) front v.0 v.1 (content_utf8 (byte b ∷ ps) between r [] more v.2)
content_utf8 (unit c ∷ unit d ∷ ps) l r front (between, one, (other, two, more)) u =
    let v = unit_rest c l between front one u in
    let w = unit_rest d between other [] two v.2 in
    cond_both (is_high_half c && is_low_half d) _ _ (λ t. IsUtf8 (front ++ t))
    (λ e. pair_utf8 c d (content ps) front e v.1 (content_utf8 ps other r [] more w.2))
    (λ e. lone_utf8 c (content (unit d ∷ ps)) front v.0 v.1 (content_utf8 (unit d ∷ ps) between r [] (other, two, more) v.2))

-- ---- a string among them

-- what is read behind the opening quote is the value of the string
pub record IsValued (text : List ℕ) (token : Token) : Type 0 where
  pub pieces : List Piece
  pub rest : List ℕ
  pub within : token.from + 1 ≤ length text
  pub found : string_at (drop (token.from + 1) text) ≡ Some (content pieces, rest)
  pub utf8 : IsUtf8 (content pieces)
  pub string : IsString (chars (content pieces)) (spelling text token) []

valued : (text : List ℕ) (token : Token) (n : ℕ) → IsUtf8 text → token.to ≡ token.from + n → 0 < length (drop token.from text) → IsText (take n (drop token.from text)) → IsValued text token
valued text token n u to some (inside, ps, is, good) =
    let from = token.from in
    let tail = drop n (drop from text) in
    let left : 0 < length text - from = omega (arith, some, length-drop from text) in
    let front = take from text in
    let front_size : length front ≡ from = length-take-le from text (omega arith) in
    let seam : text ≡ front ++ (34 ∷ (inside ++ tail)) = sym (take-append-drop from text) ∙ ap (λ t. front ++ t) (sym (take-append-drop n (drop from text)) ∙ ap (λ t. t ++ tail) is) in
    let longer : text ≡ (front ++ 34 ∷ []) ++ (inside ++ tail) = seam ∙ sym (append_assoc front (34 ∷ []) (inside ++ tail)) in
    let size : length (front ++ 34 ∷ []) ≡ from + 1 = omega (arith, length-append front (34 ∷ []), front_size) in
    let cut : drop (from + 1) text ≡ inside ++ tail = ap (drop (from + 1)) longer ∙ drop_at (front ++ 34 ∷ []) (inside ++ tail) (from + 1) size in
    let all = pieces_more ps inside [] tail good in
    let utf8 : IsUtf8 (content ps) = content_utf8 ps (inside ++ tail) tail [] all (rest_utf8 front 34 (inside ++ tail) (omega arith) (subst IsUtf8 seam u)) in
    let spelled : spelling text token ≡ 34 ∷ inside = ap (λ m. take (m - from) (drop from text)) to ∙ ap (λ m. take m (drop from text)) (omega arith) ∙ is in
    record {
      pieces = ps;
      rest = tail;
      within = omega arith;
      found = ap string_at cut ∙ ap spell (pieces_taken ps (inside ++ tail) tail all);
      utf8 = utf8;
      string = subst (λ t. IsString (chars (content ps)) t []) (sym spelled) (string_is inside ps [] good (is_utf8-from_IsUtf8 (content ps) utf8));
    }

pub token_valued : (text : List ℕ) (token : Token) → IsUtf8 text → IsTokenOf text token → token.kind ≡ k.Text → IsValued text token
token_valued text token u of kind =
    let p = token_placed text token of in
    let fits = subst (λ q. Fits q (take p.size (drop token.from text)) (drop p.size (drop token.from text))) kind p.word.longest.fits in
    valued text token p.size u p.to p.word.dark.some fits

pub value_read : (text : List ℕ) (token : Token) (v : IsValued text token) (items : List ℕ) → IfSome (string_at (drop (token.from + 1) text)) (λ p. items ≡ p.0) → items ≡ content v.pieces
value_read text token v items h = subst (λ o. IfSome o (λ p. items ≡ p.0)) v.found h

pub value_ok : {E : Type 0} (text items : List ℕ) (token : Token) (v : IsValued text token) (r : Result (List ℕ) E) → items ≡ content v.pieces → IfOk r (λ s. s ≡ chars items) → IfOk r (λ s. IsString s (spelling text token) [])
value_ok text items token v (Ok s) e h = subst (λ t. IsString t (spelling text token) []) (sym (h ∙ ap chars e)) v.string
value_ok text items token v (Err x) e h = tt
