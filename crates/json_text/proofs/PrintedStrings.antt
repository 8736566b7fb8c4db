-- The text of a string is a string of the same characters.
use Rattle.std.specs.Prelude.{◌≡◌, ◌<◌, ◌≤◌, ℕ, ◌/◌, ◌%◌, ◌==◌, nat_lt, Bool, true, false, List, [], ◌∷◌, ◌++◌, map, Option, Some, None, refl}
use Rattle.std.specs.Char.{encode_utf8}
use Rattle.std.specs.Fmt.{digit_glyph}
use Rattle.std.specs.List.{list_all}
use Rattle.std.specs.Str.{all_scalars, encode_utf8_all}
use Rattle.std.proofs.Common.{sym, ◌∙◌, ap, subst, inl, inr, arith, append_assoc}
use Rattle.std.proofs.lemmas.Bool.{and_parts, and_from, cond_both, eqb-true, ltb-true, ltb-false, cases_lt, agree_below, agree_below_at}
use Rattle.std.proofs.lemmas.Bool.Decides.{nat_tests}
use Rattle.std.proofs.lemmas.Str.{encode_ascii}
use lib.Utf8.{encode}
use Rattle.item_tree.specs.ItemText.{control_text, character_text, characters_text, string_text}
use Rattle.item_tree.specs.JsonString.{Piece, byte, unit, is_raw, short_escape, code_unit, is_high_half, lone_character, ArePieces, content, IsString}
use Rattle.json_text.proofs.SpellLemmas.{content_alone}

-- the bytes t are pieces that spell the character, in front of any others
pub record FrontPieces (c : ℕ) (t m r : List ℕ) (ps : List Piece) : Type 0 where
  pub pieces : List Piece
  pub written : ArePieces pieces (t ++ m) r
  pub spelled : content pieces ≡ encode_utf8 c ++ content ps

abbrev pub PrintsCharacter : ℕ → List ℕ → Type 0
PrintsCharacter c t = (m r : List ℕ) (ps : List Piece) → ArePieces ps m r → FrontPieces c t m r ps

escape_prints : (x c : ℕ) → short_escape x ≡ Some c → c < 128 → PrintsCharacter c (92 ∷ x ∷ [])
escape_prints x c e small = λ m r ps h. record {
  pieces = byte c ∷ ps;
  written = (m, inr (x, e, refl), h);
  spelled = ap (λ bs. bs ++ content ps) (sym (encode_ascii c small));
}

-- ---- control characters

control_unit : ℕ → Option ℕ
control_unit c = code_unit 48 48 (digit_glyph false (c / 16)) (digit_glyph false (c % 16))

is_unit : Option ℕ → ℕ → Bool
is_unit None c = false
is_unit (Some u) c = u == c

is_unit_true : (o : Option ℕ) (c : ℕ) → is_unit o c ≡ true → o ≡ Some c
unfolding is_unit
is_unit_true None c h = absurd cc
is_unit_true (Some u) c h = ap Some (eqb-true u c h)

all_controls : agree_below (λ c. is_unit (control_unit c) c) (λ _. true) 32 ≡ true
unfolding is_unit control_unit code_unit
all_controls = refl

control_is : (c : ℕ) → c < 32 → control_unit c ≡ Some c
control_is c h = is_unit_true (control_unit c) c (agree_below_at (λ b. is_unit (control_unit b) b) (λ _. true) 32 c all_controls h)

no_half : (c : ℕ) → c < 32 → (is_high_half c ≡ false) × (lone_character c ≡ c)
no_half c h = (grind (arith, nat_tests), grind (arith, nat_tests))

control_prints : (c : ℕ) → c < 32 → PrintsCharacter c (control_text c)
unfolding control_unit
control_prints c h = λ m r ps k.
    let n = no_half c h in
    record {
      pieces = unit c ∷ ps;
      written = (m, (48, 48, digit_glyph false (c / 16), digit_glyph false (c % 16), control_is c h, refl), k);
      spelled = content_alone c ps (rw n.0 refl) ∙ ap (λ x. encode_utf8 x ++ content ps) n.1;
    }

-- ---- characters that stand for themselves

raw_pieces : (bs m r : List ℕ) (ps : List Piece) → list_all is_raw bs ≡ true → ArePieces ps m r → ArePieces (map byte bs ++ ps) (bs ++ m) r
raw_pieces [] m r ps h k = k
raw_pieces (b ∷ bs) m r ps h k = let p = and_parts (is_raw b) (list_all is_raw bs) h in (bs ++ m, inl (p.0, refl), raw_pieces bs m r ps p.1 k)

raw_content : (bs : List ℕ) (ps : List Piece) → content (map byte bs ++ ps) ≡ bs ++ content ps
raw_content [] ps = refl
raw_content (b ∷ bs) ps = ap (λ x. b ∷ x) (raw_content bs ps)

high_raw : (b : ℕ) → 128 ≤ b → is_raw b ≡ true
high_raw b h = grind (arith, nat_tests)

abbrev pub AllHigh : List ℕ → Type 0
AllHigh [] = Unit {0}
AllHigh (b ∷ bs) = (128 ≤ b) × AllHigh bs

all_high : (bs : List ℕ) → AllHigh bs → list_all is_raw bs ≡ true
all_high [] h = refl
all_high (b ∷ bs) h = and_from _ _ (high_raw b h.0) (all_high bs h.1)

plain_raw : (c : ℕ) → 32 ≤ c → (c == 34) ≡ false → (c == 92) ≡ false → is_raw c ≡ true
plain_raw c h q s = rw (q, s) (and_from _ _ (and_from _ _ (grind (arith, nat_tests)) refl) refl)

encode_high : (c : ℕ) → 128 ≤ c → AllHigh (encode c)
unfolding encode
encode_high c h =
    cond_both (nat_lt c 128) _ _ AllHigh (λ e. let k = ltb-true c 128 e in absurd (omega arith)) (λ _.
    cond_both (nat_lt c 2048) _ _ AllHigh (λ _. (omega arith, (omega arith, tt))) (λ _.
    cond_both (nat_lt c 65536) _ _ AllHigh (λ _. (omega arith, (omega arith, (omega arith, tt)))) (λ _. (omega arith, (omega arith, (omega arith, (omega arith, tt)))))))

encode_raw : (c : ℕ) → 32 ≤ c → (c == 34) ≡ false → (c == 92) ≡ false → list_all is_raw (encode_utf8 c) ≡ true
encode_raw c h q s =
    elim (cases_lt c 128) [
      | inl low ↦ ap (list_all is_raw) (encode_ascii c low) ∙ and_from _ _ (plain_raw c h q s) refl
      | inr high ↦ all_high (encode_utf8 c) (encode_high c high)
    ]

plain_prints : (c : ℕ) → 32 ≤ c → (c == 34) ≡ false → (c == 92) ≡ false → PrintsCharacter c (encode_utf8 c)
plain_prints c h q s = λ m r ps k. record {
  pieces = map byte (encode_utf8 c) ++ ps;
  written = raw_pieces (encode_utf8 c) m r ps (encode_raw c h q s) k;
  spelled = raw_content (encode_utf8 c) ps;
}

-- ---- strings

character_prints : (c : ℕ) → PrintsCharacter c (character_text c)
character_prints c =
    let P : List ℕ → Type 0 = PrintsCharacter c in
    let escape : (x b : ℕ) → short_escape x ≡ Some b → b < 128 → (c == b) ≡ true → P (92 ∷ x ∷ []) = λ x b e small t. subst (λ d. PrintsCharacter d (92 ∷ x ∷ [])) (sym (eqb-true c b t)) (escape_prints x b e small) in
    cond_both (c == 34) _ _ P (escape 34 34 refl (omega arith)) (λ q. cond_both (c == 92) _ _ P (escape 92 92 refl (omega arith)) (λ s.
    cond_both (c == 8) _ _ P (escape 98 8 refl (omega arith)) (λ _. cond_both (c == 9) _ _ P (escape 116 9 refl (omega arith)) (λ _.
    cond_both (c == 10) _ _ P (escape 110 10 refl (omega arith)) (λ _. cond_both (c == 12) _ _ P (escape 102 12 refl (omega arith)) (λ _.
    cond_both (c == 13) _ _ P (escape 114 13 refl (omega arith)) (λ _. cond_both (nat_lt c 32) _ _ P (λ e. control_prints c (ltb-true c 32 e)) (λ e. plain_prints c (ltb-false c 32 e) q s))))))))

pub record StringPieces (cs l r : List ℕ) : Type 0 where
  pub pieces : List Piece
  pub written : ArePieces pieces l r
  pub spelled : encode_utf8_all cs ≡ content pieces

characters_print : (cs r : List ℕ) → StringPieces cs (characters_text cs ++ (34 ∷ r)) r
characters_print [] r = record { pieces = []; written = refl; spelled = refl }
characters_print (c ∷ cs) r =
    let rest = characters_print cs r in
    let all = character_prints c (characters_text cs ++ (34 ∷ r)) r rest.pieces rest.written in
    record {
      pieces = all.pieces;
      written = subst (λ l. ArePieces all.pieces l r) (sym (append_assoc (character_text c) (characters_text cs) (34 ∷ r))) all.written;
      spelled = ap (λ bs. encode_utf8 c ++ bs) rest.spelled ∙ sym all.spelled;
    }

pub string_prints : (cs r : List ℕ) → all_scalars cs ≡ true → IsString cs (string_text cs ++ r) r
string_prints cs r h =
    let k = characters_print cs r in
    record {
      inside = (characters_text cs ++ 34 ∷ []) ++ r;
      pieces = k.pieces;
      opened = refl;
      closed = subst (λ l. ArePieces k.pieces l r) (sym (append_assoc (characters_text cs) (34 ∷ []) r)) k.written;
      scalars = h;
      spelled = k.spelled;
    }
