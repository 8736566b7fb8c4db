-- One turn of the machine, in the code.
use denote.Ref.{Bor}
use Rattle.std.specs.Prelude.{◌≡◌, ℕ, ◌<◌, ◌≤◌, List, ◌∷◌, length, Bool, true, false, Option, Some, None, Result, IfOk}
use Rattle.json_text.specs.inside.Machine as m
use Rattle.json_text.specs.inside.Build as b
use Rattle.num_fixed.specs.Numeral.{Numeral}
use Rattle.item_tree.specs.Datum.{Datum}
use Rattle.item_tree.specs.declared.fault.NoMemory.{NoMemory}
use Rattle.item_reader.specs.Tokens.{StandsFor, IsNumberOut, IsPart}
use Rattle.item_reader.specs.declared.token.Token.{Token}
use Rattle.item_reader.specs.View.{build_of, mode_of, kinds_of, on_frames}
use Rattle.json_text.specs.inside.Fits.{BuildFits}
use Rattle.item_reader.specs.declared.turn.Mode.{Mode}
use Rattle.item_reader.specs.declared.turn.State.{State}
use Rattle.item_reader.specs.declared.turn.Turn.{Turn}
use Rattle.item_reader.specs.declared.turn.Turn.TheVariants.{More, End, NotJson}

-- what comes of the rest of the text, if k gives its events
abbrev pub goes : State → m.Next → Option b.Build
goes s k = b.outcome (build_of s.build) (k (mode_of s.mode) (kinds_of s.kinds.items))

abbrev pub turn_gives : Turn → State → m.Next → Option b.Build
turn_gives More s k = goes s k
turn_gives End s k = Some (build_of s.build)
turn_gives NotJson s k = None

-- what comes of the text from this token on
abbrev pub turn_wants : m.Mode → State → m.Token → m.Next → Option b.Build
turn_wants mode s t k = b.outcome (build_of s.build) (m.step mode (kinds_of s.kinds.items) t k)

-- more comes only behind a token that takes a byte
abbrev pub Takes : m.Token → Turn → Type 0
Takes m.end More = ⊥
Takes m.bad More = ⊥
Takes t r = Unit {0}

abbrev pub TurnFits : Turn → State → Type 0
TurnFits More s = BuildFits (build_of s.build)
TurnFits End s = Unit {0}
TurnFits NotJson s = Unit {0}

-- in this mode the token makes this turn of the one state to the other
pub record IsTurn (mode : m.Mode) (old : State) (t : m.Token) (r : Turn)
    (new : State) : Type 0 where
  pub gives : (k : m.Next) → turn_wants mode old t k ≡ turn_gives r new k
  pub fits : BuildFits (build_of old.build) → TurnFits r new
  pub takes : Takes t r

-- the turn of a part's token, and the bytes behind it
abbrev pub IsTurnAt : State → m.Token × List ℕ → Turn → List ℕ → State → Type 0
IsTurnAt old p r behind new = IsTurn (mode_of old.mode) old p.0 r new × (behind ≡ p.1)

-- the event brings the one state to the other, with this mode and these kinds
pub record Steps (old : State) (e : m.Event) (m2 : m.Mode) (ks2 : m.Kinds)
    (new : State) : Type 0 where
  pub build : build_of new.build ≡ b.perform (build_of old.build) e
  pub kinds : kinds_of new.kinds.items ≡ ks2
  pub mode : mode_of new.mode ≡ m2

-- the value goes to what is built
pub record IsAdded (old : State) (y : Datum) (new : State) : Type 0 where
  pub build : build_of new.build ≡ on_frames (b.add y) (build_of old.build)
  pub kinds : kinds_of new.kinds.items ≡ kinds_of old.kinds.items
  pub mode : mode_of new.mode ≡ m.after

-- the token that closes an array, and the one that closes an object
abbrev pub closing : Bool → m.Token
closing true = m.close_array
closing false = m.close_object

-- an array or an object opens
abbrev pub Opens : Bool → State → State → Type 0
Opens true old new =
    Steps old m.opens_array (m.value true) (true ∷ kinds_of old.kinds.items) new
Opens false old new =
    Steps old m.opens_object (m.key true) (false ∷ kinds_of old.kinds.items) new

-- a number that is out of bounds is passed, whatever it is
abbrev pub PassesNumber : State → State → Type 0
PassesNumber old new =
    (n : Numeral) → IsNumberOut (m.numeral n)
    → Steps old (m.a_number n) m.after (kinds_of old.kinds.items) new

-- the turn of the code's token in this mode
abbrev pub TurnsBy : m.Mode → State → Token → Result Turn NoMemory → State → Type 0
TurnsBy mode old token r new =
    (t : m.Token) → StandsFor token t → IfOk r (λ x. IsTurn mode old t x new)

-- a turn and the bytes behind its token, or no memory
abbrev pub TurnAndRest : Type 0
TurnAndRest = Result (Turn × Bor (List ℕ)) NoMemory

-- the turn of a part, and what is behind it
abbrev pub GivesTurn : State → m.Token × List ℕ → TurnAndRest → State → Type 0
GivesTurn old p r new = IfOk r (λ x. IsTurnAt old p x.0 x.1.now new)

-- the same of a part that the code's token stands for
abbrev pub TurnsPart : State → Token → List ℕ → TurnAndRest → State → Type 0
TurnsPart old token behind r new =
    (p : m.Token × List ℕ) → IsPart token behind p → GivesTurn old p r new

-- what comes of the rest of a text in this state
abbrev pub comes_of : State → List ℕ → Option b.Build
comes_of s l = goes s (λ m2 ks2. m.run m2 ks2 l)

-- what is left comes to the same, and is no longer
pub record Passes (old : State) (line : List ℕ) (new : State) (left : List ℕ) : Type 0 where
  pub same : comes_of new left ≡ comes_of old line
  pub fits : BuildFits (build_of old.build) → BuildFits (build_of new.build)
  pub within : length left ≤ length line

-- an array at the front is passed, or nothing is done
abbrev pub TakesRow : State → List ℕ → Option (Bor (List ℕ)) → State → Type 0
TakesRow old line None new = new ≡ old
TakesRow old line (Some behind) new =
    Passes old line new behind.now × (length behind.now < length line)

-- what the machine does at a comma behind a value: it stops, or goes on in this mode
abbrev pub comma_turn : Option Mode → m.Kinds → m.Turn
comma_turn None ks = m.stops
comma_turn (Some x) ks = m.goes None (mode_of x) ks

abbrev pub GoesOn : Option Mode → m.Kinds → Type 0
GoesOn o ks = comma_turn o ks ≡ m.goes_on ks
