-- Where a text in UTF-8 may be cut, and what characters stand on both sides.
use Rattle.std.proofs.Common.{◌≡◌, ◌≤◌, ℕ, true, List, [], ◌∷◌, ◌++◌, length, take, drop, refl, sym, ap, subst, ◌∙◌, arith}
use lib.Utf8.{scalar}
use Rattle.std.specs.Str.{chars, all_scalars, encode_utf8_all, IsUtf8, IsCharBoundary}
use Rattle.std.specs.Prelude.{encode_utf8}
use Rattle.std.proofs.lemmas.Bool.{and_parts}
use Rattle.std.proofs.lemmas.List.{append_assoc, take_at, drop_at, length-append}
use Rattle.std.proofs.lemmas.Str.{chars-encodes, encodes-append, encodes-chars, scalars-chars, IsUtf8-past_char, IsCharBoundary-at_seam}

-- the text of these characters
pub text_of_chars : (bs : List ℕ) → IsUtf8 bs → encode_utf8_all (chars bs) ≡ bs
text_of_chars bs u = encodes-chars bs u

pub scalars_parts : (f r : List ℕ) → all_scalars (f ++ r) ≡ true → (all_scalars f ≡ true) × (all_scalars r ≡ true)
scalars_parts [] r h = (refl, h)
scalars_parts (c ∷ f) r h =
    let parts = and_parts (scalar c) (all_scalars (f ++ r)) h in
    let rest = scalars_parts f r parts.1 in
    (rw (parts.0, rest.0) refl, rest.1)

-- a text whose characters are some and then others
pub record IsCut (bs f r : List ℕ) : Type 0 where
  pub bytes : bs ≡ encode_utf8_all f ++ encode_utf8_all r
  pub front : IsUtf8 (encode_utf8_all f)
  pub back : IsUtf8 (encode_utf8_all r)
  pub front_chars : chars (encode_utf8_all f) ≡ f
  pub back_chars : chars (encode_utf8_all r) ≡ r

pub cut_is : (bs f r : List ℕ) → IsUtf8 bs → chars bs ≡ f ++ r → IsCut bs f r
cut_is bs f r u e =
    let s = scalars_parts f r (subst (λ t. all_scalars t ≡ true) e (scalars-chars bs u)) in
    record {
      bytes = sym (encodes-chars bs u) ∙ ap encode_utf8_all e ∙ encodes-append f r;
      front = (f, (s.0, refl));
      back = (r, (s.1, refl));
      front_chars = chars-encodes f s.0;
      back_chars = chars-encodes r s.1;
    }

pub cut_boundary : (bs f r : List ℕ) (n : ℕ) → IsCut bs f r → n ≡ length (encode_utf8_all f) → IsCharBoundary bs n
cut_boundary bs f r n h e = subst (IsCharBoundary bs) (sym e) (IsCharBoundary-at_seam bs (encode_utf8_all f) (encode_utf8_all r) h.bytes h.back)

pub cut_front : (bs f r : List ℕ) (n : ℕ) → IsCut bs f r → n ≡ length (encode_utf8_all f) → chars (take n bs) ≡ f
cut_front bs f r n h e = ap (λ t. chars (take n t)) h.bytes ∙ ap chars (take_at (encode_utf8_all f) (encode_utf8_all r) n (sym e)) ∙ h.front_chars

pub cut_back : (bs f r : List ℕ) (n : ℕ) → IsCut bs f r → n ≡ length (encode_utf8_all f) → chars (drop n bs) ≡ r
cut_back bs f r n h e = ap (λ t. chars (drop n t)) h.bytes ∙ ap chars (drop_at (encode_utf8_all f) (encode_utf8_all r) n (sym e)) ∙ h.back_chars

pub cut_len : (bs f r : List ℕ) → IsCut bs f r → length (encode_utf8_all f) ≤ length bs
cut_len bs f r h = omega (arith, ap length h.bytes, length-append (encode_utf8_all f) (encode_utf8_all r))

-- what stands behind some characters of a text is a text
pub past_text : (cs rest : List ℕ) → IsUtf8 (encode_utf8_all cs ++ rest) → IsUtf8 rest
past_text [] rest u = u
past_text (c ∷ cs) rest u =
    let e : encode_utf8_all (c ∷ cs) ++ rest ≡ encode_utf8 c ++ (encode_utf8_all cs ++ rest) = append_assoc (encode_utf8 c) (encode_utf8_all cs) rest in
    past_text cs rest (IsUtf8-past_char (encode_utf8_all (c ∷ cs) ++ rest) (encode_utf8_all cs ++ rest) c u e)

pub behind_text : (nb rest : List ℕ) → IsUtf8 nb → IsUtf8 (nb ++ rest) → IsUtf8 rest
behind_text nb rest u v = past_text (chars nb) rest (subst (λ t. IsUtf8 (t ++ rest)) (sym (encodes-chars nb u)) v)
