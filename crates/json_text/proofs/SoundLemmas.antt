-- What gives events is a text.
use Rattle.std.specs.Prelude.{◌≡◌, ◌⊎◌, ℕ, zero, suc, Bool, true, false, List, [], ◌∷◌, length, Some, None, refl}
use Rattle.std.proofs.Common.{inl, inr}
use Rattle.item_tree.specs.JsonString.{IsString}
use Rattle.json_text.specs.Raw.{Raw, raw_null, raw_boolean, raw_number, raw_string, raw_array, raw_object, Raws, no_raws, raw_value, Fields, no_fields, field}
use Rattle.json_text.specs.Json.{Spaces, Structural, Value, MoreElements, MoreMembers, Json}
use Rattle.json_text.specs.inside.Machine.{Token, open_array, close_array, open_object, close_object, comma, colon, null_word, boolean_word, numeral, characters, end, token_at, Event, opens_array, opens_object, closes, keyed, a_null, a_boolean, a_number, a_string, emit, Mode, value, key, name, after, Kinds, Events, Next, turn, follow, run_for, run}
use Rattle.json_text.proofs.TokenLemmas.{IsToken, spaces_none, token_sound}

-- ---- what is left of a text under the brackets that are open

abbrev pub After : Kinds → List ℕ → Type 0
After [] l = Spaces l []
After (true ∷ ks) l = (vs : Raws) × (m : List ℕ) × (r : List ℕ) × MoreElements vs l m × Structural 93 m r × After ks r
After (false ∷ ks) l = (fs : Fields) × (m : List ℕ) × (r : List ℕ) × MoreMembers fs l m × Structural 125 m r × After ks r

abbrev pub ValueRest : Kinds → List ℕ → Type 0
ValueRest ks l = (a : List ℕ) × (v : Raw) × (m : List ℕ) × Spaces l a × Value v a m × After ks m

abbrev pub ArrayEnd : Kinds → List ℕ → Type 0
ArrayEnd [] l = ⊥
ArrayEnd (true ∷ ks) l = (r : List ℕ) × Structural 93 l r × After ks r
ArrayEnd (false ∷ ks) l = ⊥

abbrev pub ObjectEnd : Kinds → List ℕ → Type 0
ObjectEnd [] l = ⊥
ObjectEnd (true ∷ ks) l = ⊥
ObjectEnd (false ∷ ks) l = (r : List ℕ) × Structural 125 l r × After ks r

abbrev pub NameRest : Kinds → List ℕ → Type 0
NameRest ks l = (r : List ℕ) × (v : Raw) × (m : List ℕ) × Structural 58 l r × Value v r m × After ks m

abbrev pub KeyRest : Kinds → List ℕ → Type 0
KeyRest ks l = (a : List ℕ) × (cs : List ℕ) × (b : List ℕ) × Spaces l a × IsString cs a b × NameRest ks b

abbrev pub Rest : Mode → Kinds → List ℕ → Type 0
Rest (value false) ks l = ValueRest ks l
Rest (value true) ks l = ValueRest ks l ⊎ ArrayEnd ks l
Rest (key false) ks l = KeyRest ks l
Rest (key true) ks l = KeyRest ks l ⊎ ObjectEnd ks l
Rest name ks l = NameRest ks l
Rest after ks l = After ks l

-- each way to go on that gives events is the rest of a text
abbrev pub Goes : Next → List ℕ → Type 0
Goes k r = (m : Mode) (ks : Kinds) (es : List Event) → k m ks ≡ Some es → Rest m ks r

emitted : (e : Event) (x : Events) (es : List Event) → emit e x ≡ Some es → (fs : List Event) × (x ≡ Some fs)
emitted e None es h = absurd cc
emitted e (Some fs) es h = (fs, refl)

marked : (c : ℕ) (l r m : List ℕ) → Spaces l (c ∷ r) → Spaces r m → Structural c l m
marked c l r m h s = record { behind = r; before = h; after = s }

array_rest : (ks : Kinds) (l r : List ℕ) → Spaces l (91 ∷ r) → Rest (value true) (true ∷ ks) r → ValueRest ks l
array_rest ks l r h w =
    elim w [
      | inl v ↦ (l, raw_array (raw_value v.1 v.5.0), v.5.2, spaces_none l, (v.0, v.5.1, marked 91 l r v.0 h v.3, (v.2, v.4, v.5.3), v.5.4), v.5.5)
      | inr c ↦ (l, raw_array no_raws, c.0, spaces_none l, (r, r, marked 91 l r r h (spaces_none r), refl, c.1), c.2)
    ]

object_rest : (ks : Kinds) (l r : List ℕ) → Spaces l (123 ∷ r) → Rest (key true) (false ∷ ks) r → ValueRest ks l
object_rest ks l r h w =
    elim w [
      | inl k ↦ let n = k.5 in let f = n.5 in
          (l, raw_object (field k.1 n.1 f.0), f.2, spaces_none l, (k.0, f.1, marked 123 l r k.0 h k.3, (k.2, n.0, n.2, k.4, n.3, n.4, f.3), f.4), f.5)
      | inr c ↦ (l, raw_object no_fields, c.0, spaces_none l, (r, r, marked 123 l r r h (spaces_none r), refl, c.1), c.2)
    ]

as_value : (f : Bool) (ks : Kinds) (l : List ℕ) → ValueRest ks l → Rest (value f) ks l
as_value true ks l h = inl h
as_value false ks l h = h

as_key : (f : Bool) (ks : Kinds) (l : List ℕ) → KeyRest ks l → Rest (key f) ks l
as_key true ks l h = inl h
as_key false ks l h = h

array_ends : (f : Bool) (ks : Kinds) (l r : List ℕ) (k : Next) → Spaces l (93 ∷ r) → Goes k r → (es : List Event) → follow (turn (value f) ks close_array) k ≡ Some es → Rest (value f) ks l
array_ends false ks l r k h g es e = absurd cc
array_ends true [] l r k h g es e = absurd cc
array_ends true (false ∷ ks) l r k h g es e = absurd cc
array_ends true (true ∷ ks) l r k h g es e = let x = emitted closes (k after ks) es e in inr (r, marked 93 l r r h (spaces_none r), g after ks x.0 x.1)

object_ends : (f : Bool) (ks : Kinds) (l r : List ℕ) (k : Next) → Spaces l (125 ∷ r) → Goes k r → (es : List Event) → follow (turn (key f) ks close_object) k ≡ Some es → Rest (key f) ks l
object_ends false ks l r k h g es e = absurd cc
object_ends true [] l r k h g es e = absurd cc
object_ends true (true ∷ ks) l r k h g es e = absurd cc
object_ends true (false ∷ ks) l r k h g es e = let x = emitted closes (k after ks) es e in inr (r, marked 125 l r r h (spaces_none r), g after ks x.0 x.1)

after_array : (ks : Kinds) (l r : List ℕ) (k : Next) → Spaces l (93 ∷ r) → Goes k r → (es : List Event) → follow (turn after ks close_array) k ≡ Some es → After ks l
after_array [] l r k h g es e = absurd cc
after_array (false ∷ ks) l r k h g es e = absurd cc
after_array (true ∷ ks) l r k h g es e = let x = emitted closes (k after ks) es e in (no_raws, l, r, refl, marked 93 l r r h (spaces_none r), g after ks x.0 x.1)

after_object : (ks : Kinds) (l r : List ℕ) (k : Next) → Spaces l (125 ∷ r) → Goes k r → (es : List Event) → follow (turn after ks close_object) k ≡ Some es → After ks l
after_object [] l r k h g es e = absurd cc
after_object (true ∷ ks) l r k h g es e = absurd cc
after_object (false ∷ ks) l r k h g es e = let x = emitted closes (k after ks) es e in (no_fields, l, r, refl, marked 125 l r r h (spaces_none r), g after ks x.0 x.1)

after_comma : (ks : Kinds) (l r : List ℕ) (k : Next) → Spaces l (44 ∷ r) → Goes k r → (es : List Event) → follow (turn after ks comma) k ≡ Some es → After ks l
after_comma [] l r k h g es e = absurd cc
after_comma (true ∷ ks) l r k h g es e =
    let x = g (value false) (true ∷ ks) es e in let y = x.5 in
    (raw_value x.1 y.0, y.1, y.2, (x.0, x.2, marked 44 l r x.0 h x.3, x.4, y.3), y.4, y.5)
after_comma (false ∷ ks) l r k h g es e =
    let x = g (key false) (false ∷ ks) es e in let n = x.5 in let f = n.5 in
    (field x.1 n.1 f.0, f.1, f.2, (x.0, x.2, n.0, n.2, marked 44 l r x.0 h x.3, x.4, n.3, n.4, f.3), f.4, f.5)

after_end : (ks : Kinds) (l r : List ℕ) (k : Next) → Spaces l [] → (es : List Event) → follow (turn after ks end) k ≡ Some es → After ks l
after_end [] l r k h es e = h
after_end (b ∷ ks) l r k h es e = absurd cc

turn_sound : (m : Mode) (ks : Kinds) (t : Token) (l r : List ℕ) (k : Next) → IsToken t l r → Goes k r → (es : List Event) → follow (turn m ks t) k ≡ Some es → Rest m ks l
turn_sound (value f) ks open_array l r k h g es e =
    let x = emitted opens_array (k (value true) (true ∷ ks)) es e in as_value f ks l (array_rest ks l r h (g (value true) (true ∷ ks) x.0 x.1))
turn_sound (value f) ks open_object l r k h g es e =
    let x = emitted opens_object (k (key true) (false ∷ ks)) es e in as_value f ks l (object_rest ks l r h (g (key true) (false ∷ ks) x.0 x.1))
turn_sound (value f) ks null_word l r k h g es e =
    let x = emitted a_null (k after ks) es e in as_value f ks l (h.0, raw_null, r, h.1, h.2, g after ks x.0 x.1)
turn_sound (value f) ks (boolean_word b) l r k h g es e =
    let x = emitted (a_boolean b) (k after ks) es e in as_value f ks l (h.0, raw_boolean b, r, h.1, h.2, g after ks x.0 x.1)
turn_sound (value f) ks (numeral n) l r k h g es e =
    let x = emitted (a_number n) (k after ks) es e in as_value f ks l (h.0, raw_number n, r, h.1, h.2, g after ks x.0 x.1)
turn_sound (value f) ks (characters cs) l r k h g es e =
    let x = emitted (a_string cs) (k after ks) es e in as_value f ks l (h.0, raw_string cs, r, h.1, h.2, g after ks x.0 x.1)
turn_sound (value f) ks close_array l r k h g es e = array_ends f ks l r k h g es e
turn_sound (value f) ks t l r k h g es e = absurd cc
turn_sound (key f) ks (characters cs) l r k h g es e =
    let x = emitted (keyed cs) (k name ks) es e in as_key f ks l (h.0, cs, r, h.1, h.2, g name ks x.0 x.1)
turn_sound (key f) ks close_object l r k h g es e = object_ends f ks l r k h g es e
turn_sound (key f) ks t l r k h g es e = absurd cc
turn_sound name ks colon l r k h g es e = let x = g (value false) ks es e in (x.0, x.1, x.2, marked 58 l r x.0 h x.3, x.4, x.5)
turn_sound name ks t l r k h g es e = absurd cc
turn_sound after ks comma l r k h g es e = after_comma ks l r k h g es e
turn_sound after ks close_array l r k h g es e = after_array ks l r k h g es e
turn_sound after ks close_object l r k h g es e = after_object ks l r k h g es e
turn_sound after ks end l r k h g es e = after_end ks l r k h es e
turn_sound after ks t l r k h g es e = absurd cc

run_for_sound : (n : ℕ) (m : Mode) (ks : Kinds) (l : List ℕ) (es : List Event) → run_for n m ks l ≡ Some es → Rest m ks l
unfolding run_for
run_for_sound zero m ks l es e = absurd cc
run_for_sound (suc n) m ks l es e = turn_sound m ks (token_at l).0 l (token_at l).1 _ (token_sound l) (λ m2 ks2 fs q. run_for_sound n m2 ks2 (token_at l).1 fs q) es e

pub run_is_text : (t : List ℕ) (es : List Event) → run (value false) [] t ≡ Some es → (v : Raw) × Json t v
unfolding run
run_is_text t es e = let x = run_for_sound (suc (length t)) (value false) [] t es e in (x.1, record { from = x.0; to = x.2; before = x.3; value = x.4; after = x.5 })
