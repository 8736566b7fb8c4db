-- Copying a string by stretches and escapes, with one look ahead at a high half. For other crates too.
use Rattle.std.specs.Prelude.{◌≡◌, ◌⊎◌, ℕ, Bool, true, false, cond, ◌==◌, ◌&&◌, List, [], ◌∷◌, ◌++◌, Option, Some, None, option_map, refl}
use Rattle.std.specs.List.{list_all}
use Rattle.std.proofs.Common.{sym, ◌∙◌, ap, subst, inl, inr, append_assoc, append-nil}
use Rattle.std.specs.Char.{encode_utf8}
use Rattle.std.proofs.lemmas.Bool.{and_parts, cond_both, eqb-true}
use Rattle.item_tree.specs.JsonString.{Piece, byte, unit, is_raw, short_escape, code_unit, is_high_half, is_low_half, lone_character, paired_character, content}
use Rattle.json_text.specs.inside.Scan.{Part, plain, after_backslash, after_u, put_front, byte_front, unit_front, pieces_at, spell, string_at, after_bytes}
use Rattle.json_text.specs.declared.escapes.Spelled.TheVariants.{Byte}
use Rattle.json_text.specs.Escapes.{bytes_of, Unit16, digits_unit, low_half_of, low_half_at, other_half, unit_escape, long_escape, Escape, escape_of}
use Rattle.json_text.proofs.StringLemmas.{raw_facts, short_is_no_u}

-- ---- bytes in front

pub after_none : (r : Part (List ℕ)) → after_bytes [] r ≡ r
after_none None = refl
after_none (Some p) = refl

pub after_after : (a b : List ℕ) (r : Part (List ℕ)) → after_bytes a (after_bytes b r) ≡ after_bytes (a ++ b) r
after_after a b None = refl
after_after a b (Some p) = ap (λ x. Some (x, p.1)) (sym (append_assoc a b p.0))

byte_spelled : (b : ℕ) (r : Part (List Piece)) → spell (put_front (byte b) r) ≡ after_bytes (b ∷ []) (spell r)
byte_spelled b None = refl
byte_spelled b (Some q) = refl

raw_next : (b : ℕ) (l : List ℕ) → is_raw b ≡ true → string_at (b ∷ l) ≡ after_bytes (b ∷ []) (string_at l)
unfolding pieces_at
raw_next b l h = let f = raw_facts b h in rw (h, f.0, f.1) (byte_spelled b (pieces_at plain l))

-- a stretch of bytes that stand for themselves
pub stretch_spelled : (front l : List ℕ) → list_all is_raw front ≡ true → string_at (front ++ l) ≡ after_bytes front (string_at l)
stretch_spelled [] l h = sym (after_none (string_at l))
stretch_spelled (b ∷ front) l h =
    let k = and_parts (is_raw b) (list_all is_raw front) h in
    raw_next b (front ++ l) k.0 ∙ ap (after_bytes (b ∷ [])) (stretch_spelled front l k.1) ∙ after_after (b ∷ []) front (string_at l)

pub quote_spelled : (l : List ℕ) → string_at (34 ∷ l) ≡ Some ([], l)
unfolding pieces_at
quote_spelled l = refl

pub end_spelled : string_at [] ≡ None
unfolding pieces_at
end_spelled = refl

-- a byte that is neither raw nor the quote nor a backslash
pub control_spelled : (b : ℕ) (l : List ℕ) → is_raw b ≡ false → (b == 34) ≡ false → (b == 92) ≡ false → string_at (b ∷ l) ≡ None
unfolding pieces_at
control_spelled b l r q s = rw (r, q, s) refl

escape_spelled : (x : ℕ) (l : List ℕ) (o : Option ℕ) → (x == 117) ≡ false → short_escape x ≡ o → string_at (92 ∷ x ∷ l) ≡ spell (byte_front o (pieces_at plain l))
unfolding pieces_at
escape_spelled x l o h e = rw (h, e) refl

pub short_spelled : (x b : ℕ) (l : List ℕ) → short_escape x ≡ Some b → string_at (92 ∷ x ∷ l) ≡ after_bytes (b ∷ []) (string_at l)
short_spelled x b l e = escape_spelled x l (Some b) (short_is_no_u x b e) e ∙ byte_spelled b (pieces_at plain l)

pub no_escape_spelled : (x : ℕ) (l : List ℕ) → (x == 117) ≡ false → short_escape x ≡ None → string_at (92 ∷ x ∷ l) ≡ None
no_escape_spelled x l h e = escape_spelled x l None h e

pub cut_escape_spelled : string_at (92 ∷ []) ≡ None
unfolding pieces_at
cut_escape_spelled = refl

-- ---- code units

-- the pieces from a code unit on
abbrev pub with_unit : Part ℕ → Part (List Piece)
with_unit None = None
with_unit (Some p) = put_front (unit p.0) (pieces_at plain p.1)

unit_there : (o : Option ℕ) (l : List ℕ) → unit_front o (pieces_at plain l) ≡ with_unit (option_map (λ u. (u, l)) o)
unit_there None l = refl
unit_there (Some u) l = refl

after_u_is : (l : List ℕ) → pieces_at after_u l ≡ with_unit (digits_unit l)
unfolding pieces_at
after_u_is [] = refl
after_u_is (a ∷ []) = refl
after_u_is (a ∷ b ∷ []) = refl
after_u_is (a ∷ b ∷ c ∷ []) = refl
after_u_is (a ∷ b ∷ c ∷ d ∷ l) = unit_there (code_unit a b c d) l

unit_is : (l : List ℕ) → string_at (92 ∷ 117 ∷ l) ≡ spell (with_unit (digits_unit l))
unfolding pieces_at
unit_is l = ap spell (after_u_is l)

pub no_unit_spelled : (l : List ℕ) → digits_unit l ≡ None → string_at (92 ∷ 117 ∷ l) ≡ None
no_unit_spelled l e = unit_is l ∙ ap (λ p. spell (with_unit p)) e

-- whether a low half is the first of the pieces
abbrev pub low_first : List Piece → Bool
low_first [] = false
low_first (byte b ∷ ps) = false
low_first (unit w ∷ ps) = is_low_half w

abbrev pub NoLowFirst : Part (List Piece) → Type 0
NoLowFirst None = Unit {0}
NoLowFirst (Some q) = low_first q.0 ≡ false

-- a unit that is no high half, or has no low half behind it, stands alone
pub content_alone : (u : ℕ) (ps : List Piece) → (is_high_half u && low_first ps) ≡ false → content (unit u ∷ ps) ≡ encode_utf8 (lone_character u) ++ content ps
content_alone u [] h = sym (append-nil (encode_utf8 (lone_character u)))
content_alone u (byte b ∷ ps) h = refl
content_alone u (unit w ∷ ps) h = rw h refl

and_false : (b : Bool) → (b && false) ≡ false
and_false true = refl
and_false false = refl

alone : (u : ℕ) (r : Part (List Piece)) → (is_high_half u ≡ false) ⊎ NoLowFirst r → spell (put_front (unit u) r) ≡ after_bytes (encode_utf8 (lone_character u)) (spell r)
alone u None h = refl
alone u (Some q) h = ap (λ c. Some (c, q.1)) (content_alone u q.0 (elim h [ inl e ↦ rw e refl | inr e ↦ rw e (and_false (is_high_half u)) ]))

paired : (u w : ℕ) (r : Part (List Piece)) → is_high_half u ≡ true → is_low_half w ≡ true → spell (put_front (unit u) (put_front (unit w) r)) ≡ after_bytes (encode_utf8 (paired_character u w)) (spell r)
paired u w None h k = refl
paired u w (Some q) h k = rw (h, k) refl

-- where no low half is at the front of the bytes, none is the first of the pieces

no_low_byte : (b : ℕ) (r : Part (List Piece)) → NoLowFirst (put_front (byte b) r)
no_low_byte b None = tt
no_low_byte b (Some q) = refl

no_low_short : (o : Option ℕ) (r : Part (List Piece)) → NoLowFirst (byte_front o r)
no_low_short None r = tt
no_low_short (Some b) r = no_low_byte b r

no_low_unit : (u : ℕ) (r : Part (List Piece)) → is_low_half u ≡ false → NoLowFirst (put_front (unit u) r)
no_low_unit u None e = tt
no_low_unit u (Some q) e = e

none_low : (b : Bool) (x : ℕ × List ℕ) → cond b (Some x) None ≡ None → b ≡ false
none_low true x e = absurd cc
none_low false x e = refl

no_low_with : (p : Part ℕ) → low_half_of p ≡ None → NoLowFirst (with_unit p)
no_low_with None h = tt
no_low_with (Some p) h = no_low_unit p.0 (pieces_at plain p.1) (none_low (is_low_half p.0) p h)

no_low_escape : (t : ℕ) (r : List ℕ) → low_half_of (cond (t == 117) (digits_unit r) None) ≡ None → NoLowFirst (pieces_at after_backslash (t ∷ r))
unfolding pieces_at
no_low_escape t r = by (t == 117)
  where
    by : (b : Bool) → low_half_of (cond b (digits_unit r) None) ≡ None → NoLowFirst (cond b (pieces_at after_u r) (byte_front (short_escape t) (pieces_at plain r)))
    by true h = subst NoLowFirst (sym (after_u_is r)) (no_low_with (digits_unit r) h)
    by false h = no_low_short (short_escape t) (pieces_at plain r)

no_low_behind : (l : List ℕ) → low_half_at (92 ∷ l) ≡ None → NoLowFirst (pieces_at after_backslash l)
unfolding pieces_at
no_low_behind [] h = tt
no_low_behind (t ∷ r) h = no_low_escape t r h

no_low : (l : List ℕ) → low_half_at l ≡ None → NoLowFirst (pieces_at plain l)
unfolding pieces_at
no_low [] h = tt
no_low (s ∷ l) h =
    cond_both (s == 34) _ _ NoLowFirst (λ _. refl) (λ _.
    cond_both (s == 92) _ _ NoLowFirst (λ e. no_low_behind l (subst (λ y. low_half_at (y ∷ l) ≡ None) (eqb-true s 92 e) h)) (λ _.
    cond_both (is_raw s) _ _ NoLowFirst (λ _. no_low_byte s (pieces_at plain l)) (λ _. tt)))

pub lone_spelled : (l : List ℕ) (u : ℕ) (r : List ℕ) → digits_unit l ≡ Some (u, r) → (is_high_half u ≡ false) ⊎ (low_half_at r ≡ None) → string_at (92 ∷ 117 ∷ l) ≡ after_bytes (encode_utf8 (lone_character u)) (string_at r)
lone_spelled l u r e h =
    unit_is l ∙ ap (λ p. spell (with_unit p)) e ∙ alone u (pieces_at plain r) (elim h [ inl k ↦ inl k | inr k ↦ inr (no_low r k) ])

-- a low half at the front of the bytes is the first of the pieces

abbrev pub IsLow : List ℕ → Part ℕ → Type 0
IsLow l None = Unit {0}
IsLow l (Some p) = (pieces_at plain l ≡ put_front (unit p.0) (pieces_at plain p.1)) × (is_low_half p.0 ≡ true)

low_with : (r : List ℕ) (p : Part ℕ) → pieces_at after_u r ≡ with_unit p → IsLow (92 ∷ 117 ∷ r) (low_half_of p)
unfolding pieces_at
low_with r None e = tt
low_with r (Some p) e = cond_both (is_low_half p.0) _ _ (IsLow (92 ∷ 117 ∷ r)) (λ k. (e, k)) (λ _. tt)

low_is : (l : List ℕ) → IsLow l (low_half_at l)
low_is [] = tt
low_is (s ∷ []) = tt
low_is (s ∷ t ∷ r) =
    cond_both (s == 92 && t == 117) _ _ (λ p. IsLow (s ∷ t ∷ r) (low_half_of p))
    (λ e. let k = and_parts (s == 92) (t == 117) e in
    subst (λ y. IsLow (y ∷ t ∷ r) (low_half_of (digits_unit r))) (sym (eqb-true s 92 k.0)) (subst (λ y. IsLow (92 ∷ y ∷ r) (low_half_of (digits_unit r))) (sym (eqb-true t 117 k.1)) (low_with r (digits_unit r) (after_u_is r)))) (λ _. tt)

pub pair_spelled : (l : List ℕ) (u : ℕ) (r : List ℕ) (w : ℕ) (q : List ℕ) → digits_unit l ≡ Some (u, r) → is_high_half u ≡ true → low_half_at r ≡ Some (w, q) → string_at (92 ∷ 117 ∷ l) ≡ after_bytes (encode_utf8 (paired_character u w)) (string_at q)
pair_spelled l u r w q e h k =
    let low : IsLow r (Some (w, q)) = subst (IsLow r) k (low_is r) in
    unit_is l ∙ ap (λ p. spell (with_unit p)) e ∙ ap (λ x. spell (put_front (unit u) x)) low.0 ∙ paired u w (pieces_at plain q) h low.1

-- ---- what an escape spells, in the midst of a string

abbrev pub Spells : List ℕ → Escape → Type 0
Spells l None = string_at (92 ∷ l) ≡ None
Spells l (Some p) = string_at (92 ∷ l) ≡ after_bytes (bytes_of p.0) (string_at p.1)

no_half : (b : Bool) (o : Unit16) → cond b o None ≡ None → (b ≡ false) ⊎ (o ≡ None)
no_half true o h = inr h
no_half false o h = inl refl

a_half : (b : Bool) (o : Unit16) (p : ℕ × List ℕ) → cond b o None ≡ Some p → (b ≡ true) × (o ≡ Some p)
a_half true o p h = (refl, h)
a_half false o p h = absurd cc

unit_spells : (l : List ℕ) (u : ℕ) (r : List ℕ) (o : Unit16) → digits_unit l ≡ Some (u, r) → other_half u r ≡ o → Spells (117 ∷ l) (unit_escape u r o)
unit_spells l u r None e h = lone_spelled l u r e (no_half (is_high_half u) (low_half_at r) h)
unit_spells l u r (Some p) e h = let k = a_half (is_high_half u) (low_half_at r) p h in pair_spelled l u r p.0 p.1 e k.0 k.1

long_spells : (l : List ℕ) (o : Unit16) → digits_unit l ≡ o → Spells (117 ∷ l) (long_escape o)
long_spells l None e = no_unit_spelled l e
long_spells l (Some p) e = unit_spells l p.0 p.1 (other_half p.0 p.1) e refl

short_spells : (b : ℕ) (l : List ℕ) (o : Option ℕ) → (b == 117) ≡ false → short_escape b ≡ o → Spells (b ∷ l) (option_map (λ c. (Byte c, l)) o)
short_spells b l None n e = no_escape_spelled b l n e
short_spells b l (Some c) n e = short_spelled b c l e

pub escape_spells : (l : List ℕ) → Spells l (escape_of l)
escape_spells [] = cut_escape_spelled
escape_spells (b ∷ l) =
    cond_both (b == 117) _ _ (Spells (b ∷ l))
    (λ e. subst (λ y. Spells (y ∷ l) (long_escape (digits_unit l))) (sym (eqb-true b 117 e)) (long_spells l (digits_unit l) refl))
    (λ n. short_spells b l (short_escape b) n refl)
