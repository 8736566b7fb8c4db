-- Where the string at the front of a text ends.
use Rattle.std.proofs.Common.{◌≡◌, inl, inr, ℕ, ◌-◌, ◌<◌, ◌≤◌, List, ◌∷◌, [], ◌++◌, length, length-append, take, true, false, ◌==◌, sym, ◌∙◌, ap, subst, refl, arith, Some, None, append_assoc}
use Rattle.std.proofs.lemmas.List.{take_at}
use Rattle.std.proofs.lemmas.Bool.{and_from, cases_Bool, eqb-true, cond-false}
use Rattle.item_tree.specs.JsonString.{Piece, byte, unit, IsPiece, ArePieces, is_raw}
use Rattle.json_text.specs.inside.Scan.{Part, plain, pieces_at, spell, string_at, after_bytes}
use Rattle.json_text.proofs.SpellLemmas.{stretch_spelled, quote_spelled, control_spelled, end_spelled}
use Rattle.json_text.proofs.NumeralLemmas.{PartIs}
use Rattle.json_text.proofs.StringLemmas.{pieces_taken, pieces_are}
use Rattle.query_lexer.specs.Scan.{behind, closed_at, size_before, string_length}

-- ---- pieces, with more bytes behind them and with fewer

piece_more : (p : Piece) (l r s : List ℕ) → IsPiece p l r → IsPiece p (l ++ s) (r ++ s)
piece_more (byte b) l r s (inl (raw, e)) = inl (raw, ap (λ t. t ++ s) e)
piece_more (byte b) l r s (inr (x, short, e)) = inr (x, short, ap (λ t. t ++ s) e)
piece_more (unit u) l r s (a, b, c, d, is, e) = (a, b, c, d, is, ap (λ t. t ++ s) e)

pub pieces_more : (ps : List Piece) (l r s : List ℕ) → ArePieces ps l r → ArePieces ps (l ++ s) (r ++ s)
pieces_more [] l r s h = ap (λ t. t ++ s) h
pieces_more (p ∷ ps) l r s (between, one, more) = (between ++ s, piece_more p l between s one, pieces_more ps between r s more)

-- the bytes of a piece
record IsCut (p : Piece) (l between : List ℕ) : Type 0 where
  front : List ℕ
  seam : l ≡ front ++ between
  cut : (s : List ℕ) → IsPiece p (front ++ s) s

piece_cut : (p : Piece) (l r : List ℕ) → IsPiece p l r → IsCut p l r
piece_cut (byte b) l r (inl (raw, e)) = record { front = b ∷ []; seam = e; cut = λ s. inl (raw, refl) }
piece_cut (byte b) l r (inr (x, short, e)) = record { front = 92 ∷ x ∷ []; seam = e; cut = λ s. inr (x, short, refl) }
piece_cut (unit u) l r (a, b, c, d, is, e) = record { front = 92 ∷ 117 ∷ a ∷ b ∷ c ∷ d ∷ []; seam = e; cut = λ s. (a, b, c, d, is, refl) }

pub pieces_cut : (ps : List Piece) (l r : List ℕ) → ArePieces ps l r → (w : List ℕ) × (l ≡ w ++ r) × ArePieces ps w []
pieces_cut [] l r h = (34 ∷ [], h, refl)
pieces_cut (p ∷ ps) l r (between, one, more) =
    let v = pieces_cut ps between r more in
    let c = piece_cut p l between one in
    (c.front ++ v.0, c.seam ∙ ap (λ t. c.front ++ t) v.1 ∙ sym (append_assoc c.front v.0 r), (v.0, c.cut v.0, v.2))

pub pieces_end : (ps : List Piece) (l : List ℕ) → ArePieces ps l [] → (front : List ℕ) × (l ≡ front ++ 34 ∷ [])
pieces_end [] l h = ([], h)
pieces_end (p ∷ ps) l (between, one, more) =
    let c = piece_cut p l between one in
    let (front, is) = pieces_end ps between more in
    (c.front ++ front, c.seam ∙ ap (λ t. c.front ++ t) is ∙ sym (append_assoc c.front front (34 ∷ [])))

-- ---- the length of a string

string_found : (ps : List Piece) (l r : List ℕ) → ArePieces ps l r → string_length l ≡ Some (length l - length r)
unfolding string_length
string_found ps l r h = ap (λ p. size_before l (spell p)) (pieces_taken ps l r h)

-- each string is read, whatever follows
pub string_read : (ps : List Piece) (w rest : List ℕ) → ArePieces ps w [] → string_length (w ++ rest) ≡ Some (length w)
string_read ps w rest h =
    let size : length (w ++ rest) - length rest ≡ length w = omega (arith, length-append w rest) in
    string_found ps (w ++ rest) rest (pieces_more ps w [] rest h) ∙ ap Some size

-- the first n bytes are the rest of a string
pub record IsRest (r : List ℕ) (n : ℕ) : Type 0 where
  pub pieces : List Piece
  pub within : n ≤ length r
  pub good : ArePieces pieces (take n r) []

rest_from : (l : List ℕ) (n : ℕ) (p : Part (List Piece)) → PartIs (λ ps r. ArePieces ps l r) p → size_before l (spell p) ≡ Some n → IsRest l n
rest_from l n None h e = cc
rest_from l n (Some p) h e =
    let v = pieces_cut p.0 l p.1 h in
    let size : length l - length p.1 ≡ n = cc in
    let whole = ap length v.1 ∙ length-append v.0 p.1 in
    let size_is : length v.0 ≡ n = omega (arith, whole, size) in
    record {
      pieces = p.0;
      within = omega arith;
      good = subst (λ t. ArePieces p.0 t []) (sym (ap (take n) v.1 ∙ take_at v.0 p.1 n size_is)) v.2;
    }

-- what is read is a string
pub string_whole : (r : List ℕ) (n : ℕ) → string_length r ≡ Some n → IsRest r n
unfolding string_length
string_whole r n e = rest_from r n (pieces_at plain r) (pieces_are r) e

-- ---- the loop to the end of a string

pub size_same : (l : List ℕ) (a b : Part (List ℕ)) → behind a ≡ behind b → size_before l a ≡ size_before l b
size_same l None None e = refl
size_same l None (Some q) e = cc
size_same l (Some p) None e = cc
size_same l (Some p) (Some q) e = let rests : p.1 ≡ q.1 = cc in ap (λ r. Some (length l - length r)) rests

pub behind_after : (front : List ℕ) (p : Part (List ℕ)) → behind (after_bytes front p) ≡ behind p
behind_after front None = refl
behind_after front (Some p) = refl

pub size_at_end : (l rest r : List ℕ) → behind (string_at rest) ≡ behind (string_at l) → string_at rest ≡ closed_at rest → closed_at rest ≡ Some ([], r) → string_length l ≡ Some (length l - length r)
unfolding string_length
size_at_end l rest r same none closed = size_same l (string_at l) (Some ([], r)) (sym same ∙ ap behind (none ∙ closed))

pub no_size : (l rest : List ℕ) → behind (string_at rest) ≡ behind (string_at l) → string_at rest ≡ closed_at rest → closed_at rest ≡ None → string_length l ≡ None
unfolding string_length
no_size l rest same none closed = size_same l (string_at l) None (sym same ∙ ap behind (none ∙ closed))

-- ---- what stands at the front of the inside of a string

pub raw_begins : (b : ℕ) (l : List ℕ) → is_raw b ≡ true → string_at (b ∷ l) ≡ after_bytes (b ∷ []) (string_at l)
raw_begins b l h = stretch_spelled (b ∷ []) l (and_from (is_raw b) true h refl)

pub none_begins : (b : ℕ) (l : List ℕ) → (b == 92) ≡ false → is_raw b ≡ false → string_at (b ∷ l) ≡ closed_at (b ∷ l)
none_begins b l slash raw = elim (cases_Bool (b == 34)) [
  | inl e ↦ subst (λ c. string_at (c ∷ l) ≡ closed_at (c ∷ l)) (sym (eqb-true b 34 e)) (quote_spelled l)
  | inr e ↦ control_spelled b l raw e slash ∙ sym (cond-false (b == 34) (Some ([], l)) None e)
]

pub no_character : (l : List ℕ) → length l < 1 → string_at l ≡ closed_at l
no_character [] h = end_spelled
no_character (b ∷ l) h = absurd (omega arith)
