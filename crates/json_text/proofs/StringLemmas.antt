-- Strings, taken from the front of a text. For other crates too.
use Rattle.std.specs.Prelude.{◌≡◌, ℕ, true, false, ◌==◌, ◌&&◌, not, nat_le, List, [], ◌∷◌, Option, Some, None, refl}
use Rattle.std.specs.Str.{chars, is_utf8}
use Rattle.std.proofs.Common.{sym, ◌∙◌, ap, subst, inl, inr, arith}
use Rattle.std.proofs.lemmas.Bool.{and_parts, not-true, cond_both, eqb-true}
use Rattle.std.proofs.lemmas.Bool.Decides.{nat_tests}
use Rattle.std.proofs.lemmas.Str.{chars-encodes, encodes-chars, scalars-chars, IsUtf8-from_is_utf8, is_utf8-from_IsUtf8}
use Rattle.item_tree.specs.JsonString.{Piece, byte, unit, is_raw, short_escape, code_unit, ArePieces, content, IsString}
use Rattle.json_text.specs.inside.Scan.{Part, plain, after_backslash, after_u, put_front, byte_front, unit_front, pieces_at}
use Rattle.json_text.proofs.NumeralLemmas.{PartIs}

-- ---- what is written is taken

pub raw_facts : (c : ℕ) → is_raw c ≡ true → ((c == 34) ≡ false) × ((c == 92) ≡ false)
raw_facts c h =
    let x = and_parts (nat_le 32 c && not (c == 34)) (not (c == 92)) h in
    let y = and_parts (nat_le 32 c) (not (c == 34)) x.0 in
    (not-true _ y.1, not-true _ x.1)

pub short_is_no_u : (x b : ℕ) → short_escape x ≡ Some b → (x == 117) ≡ false
short_is_no_u x b h = grind (arith, nat_tests)

pub pieces_taken : (ps : List Piece) (l r : List ℕ) → ArePieces ps l r → pieces_at plain l ≡ Some (ps, r)
unfolding pieces_at
pieces_taken [] l r h = rw h refl
pieces_taken (byte b ∷ ps) l r h =
    elim h.1 [
      | inl p ↦ let f = raw_facts b p.0 in let e = pieces_taken ps h.0 r h.2 in rw (p.1, p.0, f.0, f.1, e) refl
      | inr q ↦ let e = pieces_taken ps h.0 r h.2 in let u = short_is_no_u q.0 b q.1 in rw (q.2, u, q.1, e) refl
    ]
pieces_taken (unit u ∷ ps) l r h = let q = h.1 in let e = pieces_taken ps h.0 r h.2 in rw (q.5, q.4, e) refl

-- what is taken of a string: the bytes behind its quote, its pieces, and that they are UTF-8 of its characters
pub record IsTaken (cs l r : List ℕ) : Type 0 where
  pub inside : List ℕ
  pub pieces : List Piece
  pub opened : l ≡ 34 ∷ inside
  pub found : pieces_at plain inside ≡ Some (pieces, r)
  pub utf8 : is_utf8 (content pieces) ≡ true
  pub characters : chars (content pieces) ≡ cs

pub string_taken : (cs l r : List ℕ) → IsString cs l r → IsTaken cs l r
string_taken cs l r s = record {
  inside = s.inside;
  pieces = s.pieces;
  opened = s.opened;
  found = pieces_taken s.pieces s.inside r s.closed;
  utf8 = is_utf8-from_IsUtf8 (content s.pieces) (cs, (s.scalars, s.spelled));
  characters = ap chars (sym s.spelled) ∙ chars-encodes cs s.scalars;
}

-- ---- what is taken is written

abbrev pub Written : List ℕ → Part (List Piece) → Type 0
Written l r = PartIs (λ ps rest. ArePieces ps l rest) r

raw_front : (x : ℕ) (l : List ℕ) (r : Part (List Piece)) → is_raw x ≡ true → Written l r → Written (x ∷ l) (put_front (byte x) r)
raw_front x l None e h = tt
raw_front x l (Some p) e h = (l, inl (e, refl), h)

short_front : (x : ℕ) (l : List ℕ) (o : Option ℕ) (r : Part (List Piece)) → short_escape x ≡ o → Written l r → Written (92 ∷ x ∷ l) (byte_front o r)
short_front x l None r e h = tt
short_front x l (Some b) None e h = tt
short_front x l (Some b) (Some p) e h = (l, inr (x, e, refl), h)

unit_there : (a b c d : ℕ) (l : List ℕ) (o : Option ℕ) (r : Part (List Piece)) → code_unit a b c d ≡ o → Written l r → Written (92 ∷ 117 ∷ a ∷ b ∷ c ∷ d ∷ l) (unit_front o r)
unit_there a b c d l None r e h = tt
unit_there a b c d l (Some u) None e h = tt
unit_there a b c d l (Some u) (Some p) e h = (l, (a, b, c, d, e, refl), h)

mutual
  unfolding pieces_at

  pub pieces_are : (l : List ℕ) → Written l (pieces_at plain l)
  pieces_are [] = tt
  pieces_are (x ∷ l) =
      let P = Written (x ∷ l) in
      cond_both (x == 34) _ _ P (λ e. ap (λ y. y ∷ l) (eqb-true x 34 e)) (λ _.
      cond_both (x == 92) _ _ P (λ e. subst (λ y. Written (y ∷ l) (pieces_at after_backslash l)) (sym (eqb-true x 92 e)) (escape_is l)) (λ _.
      cond_both (is_raw x) _ _ P (λ e. raw_front x l _ e (pieces_are l)) (λ _. tt)))

  escape_is : (l : List ℕ) → Written (92 ∷ l) (pieces_at after_backslash l)
  escape_is [] = tt
  escape_is (x ∷ l) =
      cond_both (x == 117) _ _ (Written (92 ∷ x ∷ l)) (λ e. subst (λ y. Written (92 ∷ y ∷ l) (pieces_at after_u l)) (sym (eqb-true x 117 e)) (unit_is l)) (λ _. short_front x l (short_escape x) _ refl (pieces_are l))

  unit_is : (l : List ℕ) → Written (92 ∷ 117 ∷ l) (pieces_at after_u l)
  unit_is [] = tt
  unit_is (a ∷ []) = tt
  unit_is (a ∷ b ∷ []) = tt
  unit_is (a ∷ b ∷ c ∷ []) = tt
  unit_is (a ∷ b ∷ c ∷ d ∷ l) = unit_there a b c d l (code_unit a b c d) _ refl (pieces_are l)

pub string_is : (inside : List ℕ) (ps : List Piece) (r : List ℕ) → ArePieces ps inside r → is_utf8 (content ps) ≡ true → IsString (chars (content ps)) (34 ∷ inside) r
string_is inside ps r h u =
    let w = IsUtf8-from_is_utf8 (content ps) u in
    record { inside = inside; pieces = ps; opened = refl; closed = h; scalars = scalars-chars (content ps) w; spelled = encodes-chars (content ps) w }
