-- The ways to combine parts, over tokens whose classes go by their kinds.
use Rattle.std.specs.Prelude.{ℕ, Bool, List, ◌∷◌, Option}
use Rattle.grammar_parts.specs.Parts as g
use Rattle.query_grammar.specs.declared.word.Word.{Word}
use Rattle.query_grammar.specs.declared.word.Kind.{Kind}
use Rattle.query_grammar.specs.Classes.{is}

abbrev pub Lang : Type 0 → Type 1
Lang A = g.Part Word A

-- the tokens whose kinds are of a class
abbrev pub of_kind : (Kind → Bool) → Word → Bool
of_kind c w = c w.kind

-- one token of a class
abbrev pub one : (Kind → Bool) → Lang Word
one c = g.one (of_kind c)

abbrev pub tok : Kind → Lang Word
tok k = one (is k)

-- a part only where it is allowed
abbrev pub only : {A : Type 0} → Bool → Lang A → Lang A
only allowed part = g.only allowed part

abbrev pub mapped : {A B : Type 0} → (A → B) → Lang A → Lang B
mapped f part = g.mapped f part

abbrev pub seq : {A B : Type 0} → Lang A → Lang B → Lang (A × B)
seq a b = g.seq a b

abbrev pub long : {A B : Type 0} → Lang A → Lang B → Lang (A × B)
long a b = g.long a b

abbrev pub alt : {A : Type 0} → (Kind → Bool) → Lang A → Lang A → Lang A
alt c a b = g.alt (of_kind c) a b

abbrev pub opt : {A : Type 0} → (Kind → Bool) → Lang A → Lang (Option A)
opt c part = g.opt (of_kind c) part

abbrev pub many : {A : Type 0} → (Kind → Bool) → Lang A → Lang (List A)
many c part = g.many (of_kind c) part

abbrev pub many_long : {A : Type 0} → (Kind → Bool) → Lang A → Lang (List A)
many_long c part = g.many_long (of_kind c) part

-- a part that begins with no token of a class
abbrev pub unless : {A : Type 0} → (Kind → Bool) → Lang A → Lang A
unless c part = g.unless (of_kind c) part

-- the first part where a token of the first class and then one of the second are next, and else the
-- second, whose first tokens are the third class
abbrev pub ahead : {A : Type 0} → (Kind → Bool) → (Kind → Bool) → (Kind → Bool) → Lang A → Lang A
    → Lang A
ahead c d first a b = g.ahead (of_kind c) (of_kind d) (of_kind first) a b

-- a token, and then a part
abbrev pub before : {A : Type 0} → Kind → Lang A → Lang A
before k part = mapped (λ z. z.1) (seq (tok k) part)

-- a part, and then a token
abbrev pub behind : {A : Type 0} → Lang A → Kind → Lang A
behind part k = mapped (λ z. z.0) (seq part (tok k))

-- a token, whose place is kept, and then a part
abbrev pub from : {A : Type 0} → Kind → Lang A → Lang (ℕ × A)
from k part = mapped (λ z. (z.0.place, z.1)) (seq (tok k) part)

-- a part, and more of it each behind a token
abbrev pub list_of : {A : Type 0} → Kind → Lang A → Lang (List A)
list_of k part = mapped (λ z. z.0 ∷ z.1) (seq part (many (is k) (before k part)))

-- a part once or more
abbrev pub some_of : {A : Type 0} → (Kind → Bool) → Lang A → Lang (List A)
some_of c part = mapped (λ z. z.0 ∷ z.1) (seq part (many c part))
