-- A run takes a byte at each turn but the last, so it is a turn and then a run of what is behind the token. For other crates too.
use Rattle.std.specs.Prelude.{◌≡◌, ◌⊎◌, ◌<◌, ◌≤◌, ℕ, zero, suc, Bool, true, false, List, [], ◌∷◌, ◌++◌, length, Option, Some, None, codes, refl}
use Rattle.std.proofs.Common.{sym, ◌∙◌, ap, inl, inr, arith, length-append}
use Rattle.num_fixed.specs.Numeral.{Sign, none, plus, minus, Numeral, IsSign, IsFrac, IsExp}
use Rattle.item_tree.specs.JsonString.{Piece, byte, unit, ArePieces, IsString}
use Rattle.json_text.specs.Raw.{raw_boolean}
use Rattle.json_text.specs.Json.{Spaces, IsJsonNumber, Value}
use Rattle.json_text.specs.inside.Machine.{Token, open_array, close_array, open_object, close_object, comma, colon, null_word, boolean_word, numeral, characters, end, bad, token_at, Mode, value, key, name, after, Kinds, Next, turn, follow, step, run_for, run}
use Rattle.json_text.proofs.NumeralLemmas.{int_some}
use Rattle.json_text.proofs.TokenLemmas.{IsToken, token_sound, token_behind_spaces}

-- ---- what each part takes

at_length : (l m : List ℕ) → l ≡ m → length l ≡ length m
at_length l m e = ap length e

spaces_take : (l r : List ℕ) → Spaces l r → length r ≤ length l
spaces_take [] r h = omega (arith, at_length r [] h)
spaces_take (b ∷ l) r h = elim h [ inl e ↦ omega (arith, at_length r (b ∷ l) e) | inr p ↦ let k = spaces_take l r p.1 in omega arith ]

mark_takes : (c : ℕ) (l r : List ℕ) → Spaces l (c ∷ r) → length r < length l
mark_takes c l r h = let k = spaces_take l (c ∷ r) h in omega arith

pieces_take : (ps : List Piece) (l r : List ℕ) → ArePieces ps l r → length r < length l
pieces_take [] l r h = omega (arith, at_length l (34 ∷ r) h)
pieces_take (byte b ∷ ps) l r h =
    let k = pieces_take ps h.0 r h.2 in
    elim h.1 [ inl p ↦ omega (arith, at_length l (b ∷ h.0) p.1) | inr q ↦ omega (arith, at_length l (92 ∷ q.0 ∷ h.0) q.2) ]
pieces_take (unit u ∷ ps) l r h =
    let k = pieces_take ps h.0 r h.2 in let q = h.1 in
    omega (arith, at_length l (92 ∷ 117 ∷ q.0 ∷ q.1 ∷ q.2 ∷ q.3 ∷ h.0) q.5)

string_takes : (cs l r : List ℕ) → IsString cs l r → length r < length l
string_takes cs l r s = let k = pieces_take s.pieces s.inside r s.closed in omega (arith, at_length l (34 ∷ s.inside) s.opened)

sign_takes : (s : Sign) (l r : List ℕ) → IsSign s l r → length r ≤ length l
sign_takes none l r h = omega (arith, at_length l r h)
sign_takes plus l r h = omega (arith, at_length l (43 ∷ r) h)
sign_takes minus l r h = omega (arith, at_length l (45 ∷ r) h)

frac_takes : (f : Option (List ℕ)) (l r : List ℕ) → IsFrac f l r → length r ≤ length l
frac_takes None l r h = omega (arith, at_length l r h)
frac_takes (Some ds) l r h = omega (arith, at_length l (46 ∷ (ds ++ r)) h.1, length-append ds r)

exp_takes : (x : Option (Sign × List ℕ)) (l r : List ℕ) → IsExp x l r → length r ≤ length l
exp_takes None l r h = omega (arith, at_length l r h)
exp_takes (Some x) l r h =
    let k = sign_takes x.0 h.0 (x.1 ++ r) h.2 in let j = length-append x.1 r in
    elim h.1 [ inl q ↦ omega (arith, at_length l (101 ∷ h.0) q) | inr q ↦ omega (arith, at_length l (69 ∷ h.0) q) ]

number_takes : (n : Numeral) (l r : List ℕ) → IsJsonNumber n l r → length r < length l
number_takes n l r h =
    let k = h.front.numeral in
    let s = sign_takes n.sign l (n.int ++ k.behind_int) k.sign in
    let f = frac_takes n.frac k.behind_int k.behind_frac k.frac in
    let x = exp_takes n.exp k.behind_frac r k.exp in
    let i = int_some n.int [] h.int in
    omega (arith, length-append n.int k.behind_int, length-append n.int [])

-- the token ends the run, or takes a byte
abbrev pub Takes : List ℕ → Token → List ℕ → Type 0
Takes l t r = (t ≡ end) ⊎ ((t ≡ bad) ⊎ (length r < length l))

word_takes : (c : ℕ) (w l r : List ℕ) → l ≡ (c ∷ w) ++ r → length r < length l
word_takes c w l r h = omega (arith, at_length l ((c ∷ w) ++ r) h, length-append (c ∷ w) r)

boolean_takes : (b : Bool) (l r : List ℕ) → Value (raw_boolean b) l r → length r < length l
boolean_takes true l r h = word_takes 116 (codes "rue") l r h
boolean_takes false l r h = word_takes 102 (codes "alse") l r h

behind : (l a r : List ℕ) → Spaces l a → length r < length a → length r < length l
behind l a r s h = let k = spaces_take l a s in omega arith

token_takes : (t : Token) (l r : List ℕ) → IsToken t l r → Takes l t r
token_takes open_array l r h = inr (inr (mark_takes 91 l r h))
token_takes close_array l r h = inr (inr (mark_takes 93 l r h))
token_takes open_object l r h = inr (inr (mark_takes 123 l r h))
token_takes close_object l r h = inr (inr (mark_takes 125 l r h))
token_takes comma l r h = inr (inr (mark_takes 44 l r h))
token_takes colon l r h = inr (inr (mark_takes 58 l r h))
token_takes null_word l r h = inr (inr (behind l h.0 r h.1 (word_takes 110 (codes "ull") h.0 r h.2)))
token_takes (boolean_word b) l r h = inr (inr (behind l h.0 r h.1 (boolean_takes b h.0 r h.2)))
token_takes (numeral n) l r h = inr (inr (behind l h.0 r h.1 (number_takes n h.0 r h.2)))
token_takes (characters cs) l r h = inr (inr (behind l h.0 r h.1 (string_takes cs h.0 r h.2)))
token_takes end l r h = inl refl
token_takes bad l r h = inr (inl refl)

pub takes : (l : List ℕ) → Takes l (token_at l).0 (token_at l).1
takes l = token_takes (token_at l).0 l (token_at l).1 (token_sound l)

-- ---- runs

turn_end : (m : Mode) (ks : Kinds) (k k2 : Next) → follow (turn m ks end) k ≡ follow (turn m ks end) k2
turn_end (value f) ks k k2 = refl
turn_end (key f) ks k k2 = refl
turn_end name ks k k2 = refl
turn_end after [] k k2 = refl
turn_end after (b ∷ ks) k k2 = refl

turn_bad : (m : Mode) (ks : Kinds) (k k2 : Next) → follow (turn m ks bad) k ≡ follow (turn m ks bad) k2
turn_bad (value f) ks k k2 = refl
turn_bad (key f) ks k k2 = refl
turn_bad name ks k k2 = refl
turn_bad after ks k k2 = refl

-- any number of turns that is above the length is as good as another
enough : (n j : ℕ) (m : Mode) (ks : Kinds) (l : List ℕ) → length l < n → length l < j → run_for n m ks l ≡ run_for j m ks l
unfolding run_for
enough zero j m ks l p q = absurd (omega arith)
enough (suc n) zero m ks l p q = absurd (omega arith)
enough (suc n) (suc j) m ks l p q =
    elim (takes l) [
      | inl e ↦ rw e (turn_end m ks _ _)
      | inr o ↦ elim o [
        | inl e ↦ rw e (turn_bad m ks _ _)
        | inr s ↦ ap (step m ks (token_at l).0) (λ i m2 ks2. enough n j m2 ks2 (token_at l).1 (omega arith) (omega arith) i)
      ]
    ]

pub run_turn : (m : Mode) (ks : Kinds) (l : List ℕ) → run m ks l ≡ step m ks (token_at l).0 (λ m2 ks2. run m2 ks2 (token_at l).1)
unfolding run run_for
run_turn m ks l =
    elim (takes l) [
      | inl e ↦ rw e (turn_end m ks _ _)
      | inr o ↦ elim o [
        | inl e ↦ rw e (turn_bad m ks _ _)
        | inr s ↦ ap (step m ks (token_at l).0) (λ i m2 ks2. enough (length l) (suc (length (token_at l).1)) m2 ks2 (token_at l).1 (omega arith) (omega arith) i)
      ]
    ]

pub run_behind : (m : Mode) (ks : Kinds) (l r : List ℕ) → Spaces l r → run m ks l ≡ step m ks (token_at r).0 (λ m2 ks2. run m2 ks2 (token_at r).1)
run_behind m ks l r h = run_turn m ks l ∙ ap (λ p. step m ks p.0 (λ m2 ks2. run m2 ks2 p.1)) (token_behind_spaces l r h)

pub run_spaces : (m : Mode) (ks : Kinds) (l r : List ℕ) → Spaces l r → run m ks l ≡ run m ks r
run_spaces m ks l r h = run_behind m ks l r h ∙ sym (run_turn m ks r)

pub run_token : (m : Mode) (ks : Kinds) (l : List ℕ) (t : Token) (r : List ℕ) → token_at l ≡ (t, r) → run m ks l ≡ step m ks t (λ m2 ks2. run m2 ks2 r)
run_token m ks l t r e = run_turn m ks l ∙ ap (λ p. step m ks p.0 (λ m2 ks2. run m2 ks2 p.1)) e
