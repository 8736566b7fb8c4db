-- Steps through a string, and what they leave to spell.
use Rattle.std.specs.Prelude.{◌≡◌, ℕ, suc, ◌+◌, Bool, true, false, List, [], ◌∷◌, ◌++◌, take, drop, Some, None, refl}
use Rattle.std.specs.List.{prefix_len, list_all}
use Rattle.std.specs.Str.{chars, IsUtf8, IsAscii, is_utf8}
use Rattle.std.proofs.lemmas.Str.{IsUtf8-from_is_utf8, is_utf8-from_IsUtf8, IsUtf8-append, IsUtf8-from_ascii}
use Rattle.std.proofs.lemmas.List.{take-append-drop}
use Rattle.std.proofs.Common.{sym, ◌∙◌, ap, subst, arith, append-nil}
use Rattle.std.proofs.lemmas.Bool.{cond_both, and_from, ne_eqb}
use Rattle.item_tree.specs.JsonString.{is_raw}
use Rattle.json_text.specs.inside.Scan.{Part, string_at, after_bytes}
use Rattle.json_text.specs.inside.Machine.{characters, bad, string_token}
use Rattle.json_text.proofs.SpellLemmas.{after_none, after_after, stretch_spelled, quote_spelled, end_spelled, control_spelled}
use Rattle.item_reader.specs.Strings.{IsText}
use Rattle.item_reader.specs.Tokens.{uncons, begins}
use Rattle.item_reader.proofs.Uncons.{cons_of, nil_of}

-- ---- a stretch of bytes that stand for themselves

one_more : (n : ℕ) → 1 + n ≡ suc n
one_more n = omega arith

stretch_is_raw : (l : List ℕ) → list_all is_raw (take (prefix_len is_raw l) l) ≡ true
stretch_is_raw [] = refl
stretch_is_raw (x ∷ l) =
    let P : ℕ → Type 0 = λ n. list_all is_raw (take n (x ∷ l)) ≡ true in
    cond_both (is_raw x) (1 + prefix_len is_raw l) 0 P
    (λ e. subst P (sym (one_more (prefix_len is_raw l))) (and_from (is_raw x) (list_all is_raw (take (prefix_len is_raw l) l)) e (stretch_is_raw l)))
    (λ _. refl)

raw_taken : (l : List ℕ) → string_at l ≡ after_bytes (take (prefix_len is_raw l) l) (string_at (drop (prefix_len is_raw l) l))
raw_taken l =
    let n = prefix_len is_raw l in
    ap string_at (sym (take-append-drop n l)) ∙ stretch_spelled (take n l) (drop n l) (stretch_is_raw l)

pub stretch_ends : (l : List ℕ) → begins is_raw (drop (prefix_len is_raw l) l) ≡ false
stretch_ends [] = refl
stretch_ends (x ∷ l) =
    let P : ℕ → Type 0 = λ n. begins is_raw (drop n (x ∷ l)) ≡ false in
    cond_both (is_raw x) (1 + prefix_len is_raw l) 0 P (λ e. subst P (sym (one_more (prefix_len is_raw l))) (stretch_ends l)) (λ e. e)

pub stretch : (bytes left new raw rest : List ℕ) (whole : Part (List ℕ)) → new ≡ bytes ++ raw → raw ≡ take (prefix_len is_raw left) left → rest ≡ drop (prefix_len is_raw left) left → after_bytes bytes (string_at left) ≡ whole → after_bytes new (string_at rest) ≡ whole
stretch bytes left new raw rest whole a b c h =
    let n = prefix_len is_raw left in
    rw (a, b, c) (sym (after_after bytes (take n left) (string_at (drop n left))) ∙ ap (after_bytes bytes) (sym (raw_taken left)) ∙ h)

pub stretch_of : (bytes left new raw rest : List ℕ) (n : ℕ) (whole : Part (List ℕ)) → n ≡ prefix_len is_raw left → new ≡ bytes ++ raw → raw ≡ take n left → rest ≡ drop n left → after_bytes bytes (string_at left) ≡ whole → after_bytes new (string_at rest) ≡ whole
stretch_of bytes left new raw rest n whole e a b c h = stretch bytes left new raw rest whole a (b ∙ ap (λ k. take k left) e) (c ∙ ap (λ k. drop k left) e) h

pub stretch_stops : (left rest : List ℕ) (n : ℕ) → n ≡ prefix_len is_raw left → rest ≡ drop n left → begins is_raw rest ≡ false
stretch_stops left rest n e c = ap (begins is_raw) (c ∙ ap (λ k. drop k left) e) ∙ stretch_ends left

pub text_grows : (bytes left new raw : List ℕ) (n : ℕ) → new ≡ bytes ++ raw → raw ≡ take n left → IsUtf8 bytes × IsAscii (take n left) → IsUtf8 new
text_grows bytes left new raw n a b h = subst IsUtf8 (sym a) (IsUtf8-append bytes raw h.0 (subst IsUtf8 (sym b) (IsUtf8-from_ascii (take n left) h.1)))

-- ---- what ends a stretch

pub cut_off : (new rest : List ℕ) (whole : Part (List ℕ)) → after_bytes new (string_at rest) ≡ whole → uncons rest ≡ None → None ≡ whole
cut_off new rest whole h e = sym (ap (λ l. after_bytes new (string_at l)) (nil_of rest e) ∙ ap (after_bytes new) end_spelled) ∙ h

pub closed : (new rest : List ℕ) (whole : Part (List ℕ)) (b : ℕ) (after : List ℕ) → after_bytes new (string_at rest) ≡ whole → uncons rest ≡ Some (b, after) → b ≡ 34 → Some (new, after) ≡ whole
closed new rest whole b after h e q =
    let c : rest ≡ 34 ∷ after = cons_of rest b after e ∙ ap (λ y. y ∷ after) q in
    ap (λ z. Some (z, after)) (sym (append-nil new)) ∙ sym (ap (λ l. after_bytes new (string_at l)) c ∙ ap (after_bytes new) (quote_spelled after)) ∙ h

pub plain : (l raw rest : List ℕ) (b : ℕ) (after : List ℕ) → raw ≡ take (prefix_len is_raw l) l → rest ≡ drop (prefix_len is_raw l) l → uncons rest ≡ Some (b, after) → b ≡ 34 → string_at l ≡ Some (raw, after)
plain l raw rest b after front back e q = sym (closed raw rest (string_at l) b after (stretch [] l raw raw rest (string_at l) refl front back (after_none (string_at l))) e q)

pub refused : (new rest : List ℕ) (whole : Part (List ℕ)) (b : ℕ) (after : List ℕ) → after_bytes new (string_at rest) ≡ whole → uncons rest ≡ Some (b, after) → (b ≡ 34 → ⊥) → (b ≡ 92 → ⊥) → begins is_raw rest ≡ false → None ≡ whole
refused new rest whole b after h e p q s =
    let c = cons_of rest b after e in
    let raw = sym (ap (begins is_raw) c) ∙ s in
    sym (ap (λ l. after_bytes new (string_at l)) c ∙ ap (after_bytes new) (control_spelled b after raw (ne_eqb b 34 p) (ne_eqb b 92 q))) ∙ h

pub escaped : (new rest : List ℕ) (whole : Part (List ℕ)) (b : ℕ) (after : List ℕ) → after_bytes new (string_at rest) ≡ whole → uncons rest ≡ Some (b, after) → b ≡ 92 → after_bytes new (string_at (92 ∷ after)) ≡ whole
escaped new rest whole b after h e q =
    let c : rest ≡ 92 ∷ after = cons_of rest b after e ∙ ap (λ y. y ∷ after) q in
    ap (λ l. after_bytes new (string_at l)) (sym c) ∙ h

-- ---- a string's token

string_there : (r : Part (List ℕ)) (bs rest : List ℕ) → Some (bs, rest) ≡ r → is_utf8 bs ≡ true → string_token r ≡ (characters (chars bs), rest)
string_there r bs rest h u = ap string_token (sym h) ∙ rw u refl

pub string_refused : (r : Part (List ℕ)) (bs rest : List ℕ) → Some (bs, rest) ≡ r → is_utf8 bs ≡ false → string_token r ≡ (bad, [])
string_refused r bs rest h u = ap string_token (sym h) ∙ rw u refl

-- a string that spells these bytes, whose characters are this text
pub text_there : (line bytes rest s : List ℕ) → Some (bytes, rest) ≡ string_at line → IsUtf8 bytes → s ≡ chars bytes → IsText line s rest
text_there line bytes rest s h u e =
    string_there (string_at line) bytes rest h (is_utf8-from_IsUtf8 bytes u) ∙ ap (λ z. (characters z, rest)) (sym e)

pub no_utf8 : (bs : List ℕ) → (IsUtf8 bs → ⊥) → is_utf8 bs ≡ false
no_utf8 bs n = by (is_utf8 bs) refl
  where
    by : (b : Bool) → is_utf8 bs ≡ b → b ≡ false
    by true e = absurd (n (IsUtf8-from_is_utf8 bs e))
    by false e = refl
