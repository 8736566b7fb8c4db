-- What was read of some bytes is what the functions of `Values` compute of them. For other crates
-- too.
use Rattle.std.proofs.Common.{◌≡◌, ℕ, List, refl, ap}
use Rattle.std.specs.Prelude.{Option, Some, None, MatchOption}
use Rattle.std.specs.Str.{chars, IsUtf8}
use Rattle.item_tree.specs.Dates.{Date, DateTime}
use Rattle.date_atoms.specs.Texts.{IsDateText, IsDateTimeText}
use Rattle.date_atoms.specs.Values.{said_date, said_moment}
use Rattle.date_atoms.proofs.ComputedTexts.{texts_computed}
use Rattle.date_atoms.proofs.PrintedTexts.{texts_say_one}
use Rattle.date_atoms.proofs.SaidTexts.{date_said, date_unsaid, date_utf8, moment_said, moment_unsaid, moment_utf8}

-- two answers that are both right are one
one_answer : {X : Type 0} (P : X → Type 0) → ((x y : X) → P x → P y → x ≡ y) → (r o : Option X) → MatchOption r ((x : X) → ¬ P x) P → MatchOption o ((x : X) → ¬ P x) P → r ≡ o
one_answer P one None None h k = refl
one_answer P one None (Some y) h k = absurd (h y k)
one_answer P one (Some x) None h k = absurd (k x h)
one_answer P one (Some x) (Some y) h k = ap Some (one x y h k)

-- what the characters say the bytes say
of_bytes : {X : Type 0} (P : X → List ℕ → Type 0) (bytes : List ℕ) → ((x : X) → P x bytes → P x (chars bytes)) → ((x : X) → P x (chars bytes) → P x bytes) → (r : Option X) → MatchOption r ((x : X) → ¬ P x (chars bytes)) (λ x. P x (chars bytes)) → MatchOption r ((x : X) → ¬ P x bytes) (λ x. P x bytes)
of_bytes P bytes to from None h = λ x p. h x (to x p)
of_bytes P bytes to from (Some x) h = from x h

none_of : {X : Type 0} (P : X → Type 0) → ((x : X) → ¬ P x) → (o : Option X) → MatchOption o ((x : X) → ¬ P x) P → o ≡ None
none_of P none None h = refl
none_of P none (Some x) h = absurd (none x h)

pub date_found : (r : Option Date) (bytes : List ℕ) → IsUtf8 bytes → MatchOption r ((d : Date) → ¬ IsDateText d (chars bytes)) (λ d. IsDateText d (chars bytes)) → r ≡ said_date bytes
date_found r bytes text h =
    one_answer (λ d. IsDateText d bytes) (λ d e. texts_say_one.date d e bytes) r (said_date bytes)
    (of_bytes IsDateText bytes (date_said bytes) (λ d. date_unsaid bytes d text) r h) (texts_computed.date bytes)

pub no_date : (bytes : List ℕ) → ¬ IsUtf8 bytes → said_date bytes ≡ None
no_date bytes no_text = none_of (λ d. IsDateText d bytes) (λ d h. no_text (date_utf8 bytes d h)) (said_date bytes) (texts_computed.date bytes)

pub moment_found : (r : Option DateTime) (bytes : List ℕ) → IsUtf8 bytes → MatchOption r ((t : DateTime) → ¬ IsDateTimeText t (chars bytes)) (λ t. IsDateTimeText t (chars bytes)) → r ≡ said_moment bytes
moment_found r bytes text h =
    one_answer (λ t. IsDateTimeText t bytes) (λ t u. texts_say_one.date_time t u bytes) r (said_moment bytes)
    (of_bytes IsDateTimeText bytes (moment_said bytes) (λ t. moment_unsaid bytes t text) r h) (texts_computed.date_time bytes)

pub no_moment : (bytes : List ℕ) → ¬ IsUtf8 bytes → said_moment bytes ≡ None
no_moment bytes no_text = none_of (λ t. IsDateTimeText t bytes) (λ t h. no_text (moment_utf8 bytes t h)) (said_moment bytes) (texts_computed.date_time bytes)
