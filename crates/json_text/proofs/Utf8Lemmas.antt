-- A text of JSON is UTF-8.
use Rattle.std.specs.Prelude.{◌≡◌, ◌⊎◌, ◌<◌, ◌≤◌, ℕ, Bool, true, false, cond, ◌&&◌, nat_lt, List, [], ◌∷◌, ◌++◌, length, get_or, Option, Some, None, codes, refl}
use Rattle.std.specs.Char.{is_digit, is_ascii_digit}
use Rattle.std.specs.List.{list_all}
use Rattle.std.specs.Str.{IsUtf8, IsAscii, IsCharBoundary}
use Rattle.std.proofs.Common.{sym, ◌∙◌, ap, subst, inl, inr, arith, append_assoc, append-nil, length-append}
use Rattle.std.proofs.Math.Seq.{take-append_seam, drop-append_seam}
use Rattle.std.proofs.lemmas.Bool.{and_parts, cond_both, ltb-true}
use Rattle.std.proofs.lemmas.Bool.Decides.{nat_tests}
use Rattle.std.proofs.lemmas.Str.{IsUtf8-nil, IsUtf8-append, IsUtf8-take, IsUtf8-drop, IsUtf8-past_char, IsUtf8-from_ascii, encode_ascii}
use Rattle.std.proofs.lemmas.Str.Ascii.{IsAscii-nil, IsAscii-cons}
use lib.Utf8.{encode}
use Rattle.num_fixed.specs.Numeral.{Sign, none, plus, minus, Numeral, AreDigits, IsSign, IsFrac, IsExp}
use Rattle.item_tree.specs.JsonString.{Piece, byte, unit, short_escape, code_unit, IsPiece, ArePieces, is_high_half, is_low_half, lone_character, paired_character, content, IsString}
use Rattle.json_text.specs.Raw.{Raw, raw_null, raw_boolean, raw_number, raw_string, raw_array, raw_object, Raws, no_raws, raw_value, Fields, no_fields, field}
use Rattle.json_text.specs.Json.{is_space, Spaces, Structural, IsJsonNumber, Value, Elements, MoreElements, Members, MoreMembers}
use Rattle.json_text.specs.Laws.{TextsAreUtf8}

-- ---- where UTF-8 may be cut

-- no byte that continues a character is first
abbrev pub Starts : List ℕ → Type 0
Starts [] = Unit {0}
Starts (b ∷ bs) = 128 ≤ b → 192 ≤ b

at_seam : (xs ys : List ℕ) → length xs < length (xs ++ ys) → Starts ys → 128 ≤ get_or (xs ++ ys) (length xs) 0 → 192 ≤ get_or (xs ++ ys) (length xs) 0
at_seam [] [] h s = absurd (omega arith)
at_seam [] (y ∷ ys) h s = s
at_seam (x ∷ xs) ys h s = at_seam xs ys (omega arith) s

pub cut_utf8 : (xs ys : List ℕ) → IsUtf8 (xs ++ ys) → Starts ys → IsUtf8 xs × IsUtf8 ys
cut_utf8 xs ys u s =
    let cut : IsCharBoundary (xs ++ ys) (length xs) = (omega (arith, length-append xs ys), λ h. at_seam xs ys h s) in
    (subst IsUtf8 (take-append_seam xs ys) (IsUtf8-take (xs ++ ys) (length xs) u cut), subst IsUtf8 (drop-append_seam xs ys) (IsUtf8-drop (xs ++ ys) (length xs) u cut))

encode_starts : (c : ℕ) (bs : List ℕ) → Starts (encode c ++ bs)
unfolding encode
encode_starts c bs =
    let P : List ℕ → Type 0 = λ xs. Starts (xs ++ bs) in
    cond_both (nat_lt c 128) _ _ P (λ e h. let k = ltb-true _ _ e in omega arith) (λ _. cond_both (nat_lt c 2048) _ _ P (λ _ h. omega arith) (λ _. cond_both (nat_lt c 65536) _ _ P (λ _ h. omega arith) (λ _ h. omega arith)))

-- ---- a front of the bytes that is UTF-8

pub record Utf8Front (l r : List ℕ) : Type 0 where
  pub front : List ℕ
  pub splits : l ≡ front ++ r
  pub utf8 : IsUtf8 front

nothing : (l r : List ℕ) → l ≡ r → Utf8Front l r
nothing l r e = record { front = []; splits = e; utf8 = IsUtf8-nil }

joined : (l m r : List ℕ) → Utf8Front l m → Utf8Front m r → Utf8Front l r
joined l m r a b = record { front = a.front ++ b.front; splits = a.splits ∙ ap (λ x. a.front ++ x) b.splits ∙ sym (append_assoc a.front b.front r); utf8 = IsUtf8-append a.front b.front a.utf8 b.utf8 }

ascii_front : (bs l r : List ℕ) → IsAscii bs → l ≡ bs ++ r → Utf8Front l r
ascii_front bs l r a e = record { front = bs; splits = e; utf8 = IsUtf8-from_ascii bs a }

abbrev pub AllSmall : List ℕ → Type 0
AllSmall [] = Unit {0}
AllSmall (b ∷ bs) = (b < 128) × AllSmall bs

small_ascii : (bs : List ℕ) → AllSmall bs → IsAscii bs
small_ascii [] h = IsAscii-nil
small_ascii (b ∷ bs) h = IsAscii-cons b bs h.0 (small_ascii bs h.1)

small_front : (bs l r : List ℕ) → AllSmall bs → l ≡ bs ++ r → Utf8Front l r
small_front bs l r a e = ascii_front bs l r (small_ascii bs a) e

byte_front : (b : ℕ) (l r : List ℕ) → b < 128 → l ≡ b ∷ r → Utf8Front l r
byte_front b l r h e = small_front (b ∷ []) l r (h, tt) e

-- ---- strings

short_small : (x b : ℕ) → short_escape x ≡ Some b → (x < 128) × (b < 128)
short_small x b h = (grind (arith, nat_tests), grind (arith, nat_tests))

hex_small : (a : ℕ) → is_digit a 16 ≡ true → a < 128
hex_small a h = grind (arith, nat_tests)

hex_all : (a b c d u : ℕ) → code_unit a b c d ≡ Some u → (a < 128) × (b < 128) × (c < 128) × (d < 128)
unfolding code_unit
hex_all a b c d u = by (is_digit a 16 && is_digit b 16 && is_digit c 16 && is_digit d 16) _ refl
  where
    by : (t : Bool) (v : ℕ) → is_digit a 16 && is_digit b 16 && is_digit c 16 && is_digit d 16 ≡ t → cond t (Some v) None ≡ Some u → (a < 128) × (b < 128) × (c < 128) × (d < 128)
    by false v e h = absurd cc
    by true v e h =
        let three = and_parts (is_digit a 16 && is_digit b 16 && is_digit c 16) (is_digit d 16) e in
        let two = and_parts (is_digit a 16 && is_digit b 16) (is_digit c 16) three.0 in
        let first = and_parts (is_digit a 16) (is_digit b 16) two.0 in
        (hex_small a first.0, hex_small b first.1, hex_small c two.1, hex_small d three.1)

-- the bytes of a code unit
unit_front : (u : ℕ) (l r : List ℕ) → IsPiece (unit u) l r → Utf8Front l r
unit_front u l r h =
    let k = hex_all h.0 h.1 h.2 h.3 u h.4 in
    small_front (92 ∷ 117 ∷ h.0 ∷ h.1 ∷ h.2 ∷ h.3 ∷ []) l r (omega arith, (omega arith, (k.0, (k.1, (k.2, (k.3, tt)))))) h.5

escape_front : (b x : ℕ) (l r : List ℕ) → short_escape x ≡ Some b → l ≡ 92 ∷ x ∷ r → Utf8Front l r
escape_front b x l r e h = small_front (92 ∷ x ∷ []) l r (omega arith, ((short_small x b e).0, tt)) h

-- the bytes up to a rest, behind others that are kept
pub record Utf8Behind (kept l r : List ℕ) : Type 0 where
  pub front : List ℕ
  pub splits : l ≡ front ++ r
  pub utf8 : IsUtf8 (kept ++ front)

behind : (kept l m r : List ℕ) → IsUtf8 kept → Utf8Front l m → Utf8Behind [] m r → Utf8Behind kept l r
behind kept l m r u a b =
    let all = joined l m r a (record { front = b.front; splits = b.splits; utf8 = b.utf8 }) in
    record { front = all.front; splits = all.splits; utf8 = IsUtf8-append kept all.front u all.utf8 }

-- content that begins with a character, behind bytes that are kept
past : (kept rest : List ℕ) (c : ℕ) → IsUtf8 (kept ++ (encode c ++ rest)) → IsUtf8 kept × IsUtf8 rest
past kept rest c u = let k = cut_utf8 kept (encode c ++ rest) u (encode_starts c rest) in (k.0, IsUtf8-past_char (encode c ++ rest) rest c k.1 refl)

pieces_behind : (ps : List Piece) (kept l r : List ℕ) → ArePieces ps l r → IsUtf8 (kept ++ content ps) → Utf8Behind kept l r
pieces_behind [] kept l r h u = behind kept l r r (subst IsUtf8 (append-nil kept) u) (byte_front 34 l r (omega arith) h) (record { front = []; splits = refl; utf8 = IsUtf8-nil })
pieces_behind (byte b ∷ ps) kept l r h u =
    elim h.1 [
      | inl p ↦
          let k = pieces_behind ps (kept ++ b ∷ []) h.0 r h.2 (subst IsUtf8 (sym (append_assoc kept (b ∷ []) (content ps))) u) in
          record { front = b ∷ k.front; splits = p.1 ∙ ap (λ x. b ∷ x) k.splits; utf8 = subst IsUtf8 (append_assoc kept (b ∷ []) k.front) k.utf8 }
      | inr q ↦
          let e : encode b ++ content ps ≡ b ∷ content ps = ap (λ x. x ++ content ps) (encode_ascii b (short_small q.0 b q.1).1) in
          let k = past kept (content ps) b (subst (λ x. IsUtf8 (kept ++ x)) (sym e) u) in
          behind kept l h.0 r k.0 (escape_front b q.0 l h.0 q.1 q.2) (pieces_behind ps [] h.0 r h.2 k.1)
    ]
pieces_behind (unit a ∷ []) kept l r h u =
    let k = past kept [] (lone_character a) (subst (λ x. IsUtf8 (kept ++ x)) (sym (append-nil (encode (lone_character a)))) u) in
    behind kept l h.0 r k.0 (unit_front a l h.0 h.1) (pieces_behind [] [] h.0 r h.2 k.1)
pieces_behind (unit a ∷ byte b ∷ ps) kept l r h u =
    let k = past kept (b ∷ content ps) (lone_character a) u in
    behind kept l h.0 r k.0 (unit_front a l h.0 h.1) (pieces_behind (byte b ∷ ps) [] h.0 r h.2 k.1)
pieces_behind (unit a ∷ unit w ∷ ps) kept l r h u =
    (cond_both (is_high_half a && is_low_half w) _ _ (λ x. IsUtf8 (kept ++ x) → Utf8Behind kept l r)
    (λ _ u. let k = past kept (content ps) (paired_character a w) u in
    behind kept l h.2.0 r k.0 (joined l h.0 h.2.0 (unit_front a l h.0 h.1) (unit_front w h.0 h.2.0 h.2.1)) (pieces_behind ps [] h.2.0 r h.2.2 k.1))
    (λ _ u. let k = past kept (content (unit w ∷ ps)) (lone_character a) u in
    behind kept l h.0 r k.0 (unit_front a l h.0 h.1) (pieces_behind (unit w ∷ ps) [] h.0 r h.2 k.1))) u

string_front : (cs l r : List ℕ) → IsString cs l r → Utf8Front l r
string_front cs l r s =
    let k = pieces_behind s.pieces [] s.inside r s.closed (cs, (s.scalars, s.spelled)) in
    joined l s.inside r (byte_front 34 l s.inside (omega arith) s.opened) (record { front = k.front; splits = k.splits; utf8 = k.utf8 })

-- ---- spaces and numbers

space_small : (b : ℕ) → is_space b ≡ true → b < 128
space_small b h = grind (arith, nat_tests)

spaces_front : (l r : List ℕ) → Spaces l r → Utf8Front l r
spaces_front [] r h = nothing [] r (sym h)
spaces_front (b ∷ l) r h = elim h [ inl e ↦ nothing (b ∷ l) r (sym e) | inr p ↦ joined (b ∷ l) l r (byte_front b (b ∷ l) l (space_small b p.0) refl) (spaces_front l r p.1) ]

mark_front : (c : ℕ) (l r : List ℕ) → c < 128 → Structural c l r → Utf8Front l r
mark_front c l r h s = joined l (c ∷ s.behind) r (spaces_front l (c ∷ s.behind) s.before) (joined (c ∷ s.behind) s.behind r (byte_front c (c ∷ s.behind) s.behind h refl) (spaces_front s.behind r s.after))

digit_small : (b : ℕ) → is_ascii_digit b ≡ true → b < 128
digit_small b h = grind (arith, nat_tests)

digits_ascii : (ds : List ℕ) → AreDigits ds → IsAscii ds
digits_ascii [] h = IsAscii-nil
digits_ascii (d ∷ ds) h = let k = and_parts (is_ascii_digit d) (list_all is_ascii_digit ds) h in IsAscii-cons d ds (digit_small d k.0) (digits_ascii ds k.1)

sign_front : (s : Sign) (l r : List ℕ) → IsSign s l r → Utf8Front l r
sign_front none l r h = nothing l r h
sign_front plus l r h = byte_front 43 l r (omega arith) h
sign_front minus l r h = byte_front 45 l r (omega arith) h

frac_front : (f : Option (List ℕ)) (l r : List ℕ) → IsFrac f l r → Utf8Front l r
frac_front None l r h = nothing l r h
frac_front (Some ds) l r h = ascii_front (46 ∷ ds) l r (IsAscii-cons 46 ds (omega arith) (digits_ascii ds h.0)) h.1

letter_front : (l m : List ℕ) → (l ≡ 101 ∷ m) ⊎ (l ≡ 69 ∷ m) → Utf8Front l m
letter_front l m h = elim h [ inl e ↦ byte_front 101 l m (omega arith) e | inr e ↦ byte_front 69 l m (omega arith) e ]

exp_front : (x : Option (Sign × List ℕ)) (l r : List ℕ) → IsExp x l r → Utf8Front l r
exp_front None l r h = nothing l r h
exp_front (Some x) l r h = joined l h.0 r (letter_front l h.0 h.1) (joined h.0 (x.1 ++ r) r (sign_front x.0 h.0 (x.1 ++ r) h.2) (ascii_front x.1 (x.1 ++ r) r (digits_ascii x.1 h.3) refl))

number_front : (n : Numeral) (l r : List ℕ) → IsJsonNumber n l r → Utf8Front l r
number_front n l r h =
    let k = h.front.numeral in let m = n.int ++ k.behind_int in
    joined l m r (sign_front n.sign l m k.sign) (joined m k.behind_int r (ascii_front n.int m k.behind_int (digits_ascii n.int k.int) refl) (joined k.behind_int k.behind_frac r (frac_front n.frac k.behind_int k.behind_frac k.frac) (exp_front n.exp k.behind_frac r k.exp)))

-- ---- values

null_small : AllSmall (codes "null")
null_small = (omega arith, (omega arith, (omega arith, (omega arith, tt))))

true_small : AllSmall (codes "true")
true_small = (omega arith, (omega arith, (omega arith, (omega arith, tt))))

false_small : AllSmall (codes "false")
false_small = (omega arith, (omega arith, (omega arith, (omega arith, (omega arith, tt)))))

mutual
  value_front : (v : Raw) (l r : List ℕ) → Value v l r → Utf8Front l r
  value_front raw_null l r h = small_front (codes "null") l r null_small h
  value_front (raw_boolean true) l r h = small_front (codes "true") l r true_small h
  value_front (raw_boolean false) l r h = small_front (codes "false") l r false_small h
  value_front (raw_number n) l r h = number_front n l r h
  value_front (raw_string cs) l r h = string_front cs l r h
  value_front (raw_array vs) l r h = joined l h.0 r (mark_front 91 l h.0 (omega arith) h.2) (joined h.0 h.1 r (elements_front vs h.0 h.1 h.3) (mark_front 93 h.1 r (omega arith) h.4))
  value_front (raw_object fs) l r h = joined l h.0 r (mark_front 123 l h.0 (omega arith) h.2) (joined h.0 h.1 r (members_front fs h.0 h.1 h.3) (mark_front 125 h.1 r (omega arith) h.4))

  elements_front : (vs : Raws) (l r : List ℕ) → Elements vs l r → Utf8Front l r
  elements_front no_raws l r h = nothing l r h
  elements_front (raw_value v vs) l r h = joined l h.0 r (value_front v l h.0 h.1) (more_elements_front vs h.0 r h.2)

  more_elements_front : (vs : Raws) (l r : List ℕ) → MoreElements vs l r → Utf8Front l r
  more_elements_front no_raws l r h = nothing l r h
  more_elements_front (raw_value v vs) l r h = joined l h.0 r (mark_front 44 l h.0 (omega arith) h.2) (joined h.0 h.1 r (value_front v h.0 h.1 h.3) (more_elements_front vs h.1 r h.4))

  members_front : (fs : Fields) (l r : List ℕ) → Members fs l r → Utf8Front l r
  members_front no_fields l r h = nothing l r h
  members_front (field k v fs) l r h =
      joined l h.0 r (string_front k l h.0 h.3) (joined h.0 h.1 r (mark_front 58 h.0 h.1 (omega arith) h.4) (joined h.1 h.2 r (value_front v h.1 h.2 h.5) (more_members_front fs h.2 r h.6)))

  more_members_front : (fs : Fields) (l r : List ℕ) → MoreMembers fs l r → Utf8Front l r
  more_members_front no_fields l r h = nothing l r h
  more_members_front (field k v fs) l r h =
      joined l h.0 r (mark_front 44 l h.0 (omega arith) h.4) (joined h.0 h.1 r (string_front k h.0 h.1 h.5) (joined h.1 h.2 r (mark_front 58 h.1 h.2 (omega arith) h.6) (joined h.2 h.3 r (value_front v h.2 h.3 h.7) (more_members_front fs h.3 r h.8))))

pub texts_utf8 : TextsAreUtf8
texts_utf8 t v j =
    let k = joined t j.from [] (spaces_front t j.from j.before) (joined j.from j.to [] (value_front v j.from j.to j.value) (spaces_front j.to [] j.after)) in
    subst IsUtf8 (sym (append-nil k.front) ∙ sym k.splits) k.utf8
