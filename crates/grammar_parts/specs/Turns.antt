-- The turns of a repetition.
use Rattle.std.specs.Prelude.{◌≡◌, ◌⊎◌, ◌<◌, ◌≤◌, Bool, true, false, List, [], ◌∷◌, ◌++◌, length, Result, Ok, Err}
use denote.Ref.{MutBor}
use Rattle.std.specs.declared.alloc.Global.{Global}
use Rattle.std.specs.declared.vec.Vec.{Vec}
use Rattle.grammar_parts.specs.declared.cursor.Cursor.{Cursor}
use Rattle.grammar_parts.specs.declared.cursor.Stop.{Stop}
use Rattle.grammar_parts.specs.declared.cursor.Stop.TheVariants as stop
use Rattle.grammar_parts.specs.Tokens.{Class, sees, rest_of}
use Rattle.grammar_parts.specs.Readers.{Reader}
use Rattle.grammar_parts.specs.Reads.{ReadsAs}

-- a call on a cursor, with the answer and the cursor behind it
abbrev pub Call : Type 0 → Type 0 → Type 1
Call T R = MutBor (Cursor T) → Result R Stop → MutBor (Cursor T) → Type 0

-- A call at the first list answers so, with the second list left.
abbrev pub Turn : {T R : Type 0} → Call T R → List T → Result R Stop → List T → Type 0
Turn post s answer r =
    (old : MutBor (Cursor _)) × (new : MutBor (Cursor _)) × (old.now.rest.now ≡ s)
    × post old answer new × (new.now.rest.now ≡ r)

-- where an item begins: here, or behind a token that separates it from the one before
abbrev pub start : {T : Type 0} → Bool → List T → List T
start false s = s
start true s = rest_of s

-- Calls one after another, each at a token of the class or behind it, give the values and leave
-- the second list.
abbrev pub Turns : {T R : Type 0} → Bool → Class T → Call T R → List T → List R → List T → Type 0
Turns separated c post s [] r = s ≡ r
Turns separated c post s (x ∷ xs) r =
    (mid : List _) × (sees c s ≡ true) × Turn post (start separated s) (Ok x) mid
    × Turns separated c post mid xs r

-- how the turns end that go on behind these values
abbrev pub Ended : {T R : Type 0} → Bool → Class T → Call T R → List R → List T
    → Result (Vec R Global) Stop → List T → Type 0
Ended separated c post before s (Ok v) r =
    (xs : List _) × (v.items ≡ before ++ xs) × Turns separated c post s xs r
    × (length xs ≤ length s) × ((sees c r ≡ false) ⊎ (length xs ≡ length s))
Ended separated c post before s (Err stop.Refused) r =
    (xs : List _) × (mid : List _) × Turns separated c post s xs mid × (length xs < length s)
    × (sees c mid ≡ true) × Turn post (start separated mid) (Err stop.Refused) r
Ended separated c post before s (Err stop.NoMemory) r = Unit {0}

-- Turns are taken until no token of the class is next, or one refuses; there are no more of them
-- than tokens.
pub record Repeated {T R : Type 0} (c : Class T) (post : Call T R) (s : List T)
    (answer : Result (Vec R Global) Stop) (r : List T) : Type 0 where
  pub ended : Ended false c post [] s answer r

-- The first call is made whatever is next, and turns follow it.
abbrev pub Began : {T R : Type 0} → Bool → Class T → Call T R → List T → Result (Vec R Global) Stop
    → List T → Type 0
Began separated c post s (Ok v) r =
    (x : _) × (mid : List _) × Turn post s (Ok x) mid × Ended separated c post (x ∷ []) mid (Ok v) r
Began separated c post s (Err stop.Refused) r =
    Turn post s (Err stop.Refused) r
    ⊎
    ((x : _) × (mid : List _) × Turn post s (Ok x) mid
    × Ended separated c post (x ∷ []) mid (Err stop.Refused) r)
Began separated c post s (Err stop.NoMemory) r = Unit {0}

pub record Listed {T R : Type 0} (separated : Bool) (c : Class T) (post : Call T R) (s : List T)
    (answer : Result (Vec R Global) Stop) (r : List T) : Type 0 where
  pub began : Began separated c post s answer r

-- Each such call reads as the reader does.
abbrev pub Performs : {T A R : Type 0} → (R → A) → Call T R → Reader T A → Type 0
Performs view post p =
    (old new : MutBor (Cursor _)) (answer : Result _ Stop) → post old answer new
    → ReadsAs view (p old.now.rest.now) answer new.now.rest.now
