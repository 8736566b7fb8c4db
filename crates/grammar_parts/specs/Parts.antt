-- Parts of a grammar, by the ways to combine them: what each derives, what begins it, and how it
-- is read.
use Rattle.std.specs.Prelude.{◌≡◌, ◌⊎◌, Bool, true, false, List, [], ◌∷◌, ◌++◌, Option, Some, None, Ok, Err}
use Rattle.grammar_parts.specs.Tokens.{Class, sees, sees_two}
use Rattle.grammar_parts.specs.Readers.{Reader, take_where, read_mapped, read_only, read_seq, read_alt, read_unless, read_ahead, read_many}

-- `whole l x`: the list derives the part, with the value x. `begun l`: the list is a beginning of
-- the part. `read` takes the longest beginning that a list has; that it does so is a law of each
-- way to combine parts.
pub record Part (T A : Type 0) : Type 1 where
  pub whole : List T → A → Type 0
  pub begun : List T → Type 0
  pub read : Reader T A

-- ---- one token of a class

unfoldable pub OneWhole : {T : Type 0} → Class T → List T → T → Type 0
OneWhole c l x = (l ≡ x ∷ []) × (c x ≡ true)

unfoldable pub OneBegun : {T : Type 0} → Class T → List T → Type 0
OneBegun c l = (l ≡ []) ⊎ ((x : _) × (l ≡ x ∷ []) × (c x ≡ true))

abbrev pub one : {T : Type 0} → Class T → Part T (T)
one c = record { whole = OneWhole c; begun = OneBegun c; read = take_where c }

-- ---- nothing, with a value

unfoldable pub NothingWhole : {T A : Type 0} → A → List T → A → Type 0
NothingWhole v l x = (l ≡ []) × (x ≡ v)

unfoldable pub NothingBegun : {T : Type 0} → List T → Type 0
NothingBegun l = l ≡ []

abbrev pub nothing : {T A : Type 0} → A → Part T A
nothing v = record { whole = NothingWhole v; begun = NothingBegun; read = λ s. Ok (v, s) }

-- ---- a part only where it is allowed: a form that nests where one more may, or one of a wider
-- ---- grammar

unfoldable pub OnlyWhole : {T A : Type 0} → Bool → Part T A → List T → A → Type 0
OnlyWhole allowed g l x = (allowed ≡ true) × g.whole l x

unfoldable pub OnlyBegun : {T A : Type 0} → Bool → Part T A → List T → Type 0
OnlyBegun allowed g l = (l ≡ []) ⊎ ((allowed ≡ true) × g.begun l)

abbrev pub only : {T A : Type 0} → Bool → Part T A → Part T A
only allowed g = record {
  whole = OnlyWhole allowed g;
  begun = OnlyBegun allowed g;
  read = read_only allowed g.read;
}

-- ---- the same tokens with another value

unfoldable pub MappedWhole : {T A B : Type 0} → (A → B) → Part T A → List T → B → Type 0
MappedWhole f g l y = (x : _) × g.whole l x × (y ≡ f x)

unfoldable pub MappedBegun : {T A B : Type 0} → (A → B) → Part T A → List T → Type 0
MappedBegun f g l = g.begun l

abbrev pub mapped : {T A B : Type 0} → (A → B) → Part T A → Part T B
mapped f g =
    record { whole = MappedWhole f g; begun = MappedBegun f g; read = read_mapped f g.read }

-- ---- one part and then another

unfoldable pub SeqWhole : {T A B : Type 0} → Part T A → Part T B → List T → A × B → Type 0
SeqWhole g h l z = (a : List _) × (b : List _) × (l ≡ a ++ b) × g.whole a z.0 × h.whole b z.1

unfoldable pub SeqBegun : {T A B : Type 0} → Part T A → Part T B → List T → Type 0
SeqBegun g h l =
    g.begun l ⊎ ((a : List _) × (b : List _) × (x : _) × (l ≡ a ++ b) × g.whole a x × h.begun b)

abbrev pub seq : {T A B : Type 0} → Part T A → Part T B → Part T (A × B)
seq g h = record { whole = SeqWhole g h; begun = SeqBegun g h; read = read_seq g.read h.read }

-- ---- one part and then another, where a token that can go on with the first part does

-- No first token of the second list goes on with the first list.
abbrev pub Ends : {T A : Type 0} → Part T A → List T → List T → Type 0
Ends g a b = (t : _) (r : List _) → b ≡ t ∷ r → g.begun (a ++ t ∷ []) → ⊥

unfoldable pub LongWhole : {T A B : Type 0} → Part T A → Part T B → List T → A × B → Type 0
LongWhole g h l z =
    (a : List _) × (b : List _) × (l ≡ a ++ b) × g.whole a z.0 × h.whole b z.1 × Ends g a b

unfoldable pub LongBegun : {T A B : Type 0} → Part T A → Part T B → List T → Type 0
LongBegun g h l =
    g.begun l
    ⊎ ((a : List _) × (b : List _) × (x : _) × (l ≡ a ++ b) × g.whole a x × h.begun b × Ends g a b)

abbrev pub long : {T A B : Type 0} → Part T A → Part T B → Part T (A × B)
long g h = record { whole = LongWhole g h; begun = LongBegun g h; read = read_seq g.read h.read }

-- ---- one or the other: the first where a token of the class is next

unfoldable pub AltWhole : {T A : Type 0} → Part T A → Part T A → List T → A → Type 0
AltWhole g h l x = g.whole l x ⊎ h.whole l x

unfoldable pub AltBegun : {T A : Type 0} → Part T A → Part T A → List T → Type 0
AltBegun g h l = g.begun l ⊎ h.begun l

abbrev pub alt : {T A : Type 0} → Class T → Part T A → Part T A → Part T A
alt c g h = record { whole = AltWhole g h; begun = AltBegun g h; read = read_alt c g.read h.read }

abbrev pub opt : {T A : Type 0} → Class T → Part T A → Part T (Option A)
opt c g = alt c (mapped (λ x. Some x) g) (nothing None)

-- ---- a part that begins with no token of the class

unfoldable pub UnlessWhole : {T A : Type 0} → Class T → Part T A → List T → A → Type 0
UnlessWhole c g l x = (sees c l ≡ false) × g.whole l x

unfoldable pub UnlessBegun : {T A : Type 0} → Class T → Part T A → List T → Type 0
UnlessBegun c g l = (sees c l ≡ false) × g.begun l

abbrev pub unless : {T A : Type 0} → Class T → Part T A → Part T A
unless c g =
    record { whole = UnlessWhole c g; begun = UnlessBegun c g; read = read_unless c g.read }

-- ---- The first part begins with a token of the first class and then one of the second, and what
-- ---- begins so is never the second part.
-- `first` has the first tokens of the second part.

unfoldable pub AheadWhole : {T A : Type 0} → Class T → Class T → Part T A → Part T A → List T → A
    → Type 0
AheadWhole c d g h l x = g.whole l x ⊎ ((sees_two c d l ≡ false) × h.whole l x)

unfoldable pub AheadBegun : {T A : Type 0} → Class T → Class T → Part T A → Part T A → List T
    → Type 0
AheadBegun c d g h l = g.begun l ⊎ ((sees_two c d l ≡ false) × h.begun l)

abbrev pub ahead : {T A : Type 0} → Class T → Class T → Class T → Part T A → Part T A → Part T A
ahead c d first g h = record {
  whole = AheadWhole c d g h;
  begun = AheadBegun c d g h;
  read = read_ahead c d first g.read h.read;
}

-- ---- any number of times, as often as a token of the class is next

abbrev pub Repeats : {T A : Type 0} → (List T → A → Type 0) → List T → List A → Type 0
Repeats w l [] = l ≡ []
Repeats w l (x ∷ xs) = (a : List _) × (b : List _) × (l ≡ a ++ b) × w a x × Repeats w b xs

unfoldable pub ManyWhole : {T A : Type 0} → Part T A → List T → List A → Type 0
ManyWhole g l xs = Repeats g.whole l xs

-- none or more whole repeats, and then a beginning of a further one
unfoldable pub ManyBegun : {T A : Type 0} → Part T A → List T → Type 0
ManyBegun g l =
    (a : List _) × (b : List _) × (xs : List _) × (l ≡ a ++ b) × Repeats g.whole a xs × g.begun b

abbrev pub many : {T A : Type 0} → Class T → Part T A → Part T (List A)
many c g = record { whole = ManyWhole g; begun = ManyBegun g; read = read_many c g.read }

-- ---- any number of times, where a token that can go on with a repeat does

abbrev pub RepeatsLong : {T A : Type 0} → Part T A → List T → List A → Type 0
RepeatsLong g l [] = l ≡ []
RepeatsLong g l (x ∷ xs) =
    (a : List _) × (b : List _) × (l ≡ a ++ b) × g.whole a x × RepeatsLong g b xs × Ends g a b

abbrev pub BegunLong : {T A : Type 0} → Part T A → List T → List A → Type 0
BegunLong g l [] = g.begun l
BegunLong g l (x ∷ xs) =
    (a : List _) × (b : List _) × (l ≡ a ++ b) × g.whole a x × BegunLong g b xs × Ends g a b

unfoldable pub ManyLongWhole : {T A : Type 0} → Part T A → List T → List A → Type 0
ManyLongWhole g l xs = RepeatsLong g l xs

unfoldable pub ManyLongBegun : {T A : Type 0} → Part T A → List T → Type 0
ManyLongBegun g l = (xs : List _) × BegunLong g l xs

abbrev pub many_long : {T A : Type 0} → Class T → Part T A → Part T (List A)
many_long c g =
    record { whole = ManyLongWhole g; begun = ManyLongBegun g; read = read_many c g.read }

-- ---- a part that nothing derives: what stands inside a form where none may nest

unfoldable pub NoneWhole : {T A : Type 0} → List T → A → Type 0
NoneWhole l x = ⊥

abbrev pub none : {T A : Type 0} → Part T A
none = record { whole = NoneWhole; begun = NothingBegun; read = λ s. Err s }
