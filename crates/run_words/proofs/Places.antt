-- Where the walk of a parse stands among the arguments.
use Rattle.std.proofs.Common.{◌≡◌, ◌∙◌, ◌||◌, ℕ, Bool, true, false, List, [], ◌∷◌, ◌++◌, refl, sym, ap, ap₂, codes}
use Rattle.std.specs.Prelude.{if◌then◌else◌}
use Rattle.std.specs.Str.{bytes_eq}
use Rattle.std.proofs.lemmas.List.Folds.{list_any-append}
use Rattle.run_words.specs.Table.{Text, id_of, next_of, last_of}
use Rattle.run_words.specs.Given.{Use, has}
use Rattle.run_words.proofs.Rows.{use_of}
use Rattle.run_words.proofs.Steps.{place_of, place_after}
use Rattle.run_words.specs.declared.table.Verb.{Verb}
use Rattle.run_words.specs.declared.table.Verb.TheVariants.{Run, Check, Explain, Trial}
use Rattle.run_words.specs.declared.table.Name.{Name}
use Rattle.run_words.specs.declared.table.Name.TheVariants.{Workers, Partition, Mode, Stats, Query, Number, Lines}

-- by whether the number of a trial and the last argument are given
abbrev pub position_at : Verb → Bool → Bool → ℕ
position_at Run number last = if last then 2 else 1
position_at Check number last = if last then 2 else 1
position_at Explain number last = if last then 2 else 1
position_at Trial true last = if last then 3 else 2
position_at Trial false last = 1

abbrev pub position_of : Verb → List Use → ℕ
position_of v uses = position_at v (has Number uses) (has (last_of v) uses)

-- the lines of a trial are given behind its number
abbrev pub Ordered : List Use → Type 0
Ordered uses = has Number uses ≡ false → has Lines uses ≡ false

abbrev pub is_argument : Name → Bool
is_argument Query = true
is_argument Number = true
is_argument Lines = true
is_argument _ = false

or_false : (b : Bool) → (b || false) ≡ b
or_false true = refl
or_false false = refl

or_true : (b : Bool) → (b || true) ≡ true
or_true true = refl
or_true false = refl

has_more : (m n : Name) (t : Text) (uses : List Use) → has m (uses ++ use_of n t ∷ []) ≡ (has m uses || (bytes_eq (id_of n) (id_of m) || false))
has_more m n t uses = list_any-append (λ u. bytes_eq (id_of u.name) (id_of m)) uses (use_of n t ∷ [])

pub kept_has : (m n : Name) (t : Text) (uses : List Use) → bytes_eq (id_of n) (id_of m) ≡ false → has m (uses ++ use_of n t ∷ []) ≡ has m uses
kept_has m n t uses e = has_more m n t uses ∙ ap (λ b. has m uses || (b || false)) e ∙ or_false (has m uses)

pub got_has : (m n : Name) (t : Text) (uses : List Use) → bytes_eq (id_of n) (id_of m) ≡ true → has m (uses ++ use_of n t ∷ []) ≡ true
got_has m n t uses e = has_more m n t uses ∙ ap (λ b. has m uses || (b || false)) e ∙ or_true (has m uses)

still_has : (m n : Name) (t : Text) (uses : List Use) → has m uses ≡ true → has m (uses ++ use_of n t ∷ []) ≡ true
still_has m n t uses e = has_more m n t uses ∙ ap (λ b. b || (bytes_eq (id_of n) (id_of m) || false)) e

-- ---- an option

apart : (n : Name) → is_argument n ≡ false → (bytes_eq (id_of n) (codes "query") ≡ false) × (bytes_eq (id_of n) (codes "number") ≡ false) × (bytes_eq (id_of n) (codes "lines") ≡ false)
apart Workers a = (refl, refl, refl)
apart Partition a = (refl, refl, refl)
apart Mode a = (refl, refl, refl)
apart Stats a = (refl, refl, refl)
apart Query a = cc
apart Number a = cc
apart Lines a = cc

apart_last : (v : Verb) (n : Name) → is_argument n ≡ false → bytes_eq (id_of n) (id_of (last_of v)) ≡ false
apart_last Run n a = (apart n a).0
apart_last Check n a = (apart n a).0
apart_last Explain n a = (apart n a).0
apart_last Trial n a = (apart n a).2

pub option_place : (v : Verb) (n : Name) (t : Text) (uses : List Use) → is_argument n ≡ false → position_of v (uses ++ use_of n t ∷ []) ≡ position_of v uses
option_place v n t uses a = ap₂ (position_at v) (kept_has Number n t uses (apart n a).1) (kept_has (last_of v) n t uses (apart_last v n a))

pub option_ordered : (n : Name) (t : Text) (uses : List Use) → is_argument n ≡ false → Ordered uses → Ordered (uses ++ use_of n t ∷ [])
option_ordered n t uses a ordered e = kept_has Lines n t uses (apart n a).2 ∙ ordered (sym (kept_has Number n t uses (apart n a).1) ∙ e)

-- ---- an argument

pub place_is : (v : Verb) (uses : List Use) → has (next_of v (has Number uses)) uses ≡ false → position_of v uses ≡ place_of v (has Number uses)
place_is Run uses none = ap (position_at Run (has Number uses)) none
place_is Check uses none = ap (position_at Check (has Number uses)) none
place_is Explain uses none = ap (position_at Explain (has Number uses)) none
place_is Trial uses none = go (has Number uses) none
  where
    go : (b : Bool) → has (next_of Trial b) uses ≡ false → position_at Trial b (has Lines uses) ≡ place_of Trial b
    go true none = ap (position_at Trial true) none
    go false none = refl

pub place_next : (v : Verb) (t : Text) (uses : List Use) → Ordered uses → position_of v (uses ++ use_of (next_of v (has Number uses)) t ∷ []) ≡ place_after v (has Number uses)
place_next Run t uses ordered = ap (position_at Run (has Number (uses ++ use_of Query t ∷ []))) (got_has Query Query t uses refl)
place_next Check t uses ordered = ap (position_at Check (has Number (uses ++ use_of Query t ∷ []))) (got_has Query Query t uses refl)
place_next Explain t uses ordered = ap (position_at Explain (has Number (uses ++ use_of Query t ∷ []))) (got_has Query Query t uses refl)
place_next Trial t uses ordered = go (has Number uses) refl
  where
    go : (b : Bool) → has Number uses ≡ b → position_of Trial (uses ++ use_of (next_of Trial b) t ∷ []) ≡ place_after Trial b
    go true e = ap₂ (position_at Trial) (still_has Number Lines t uses e) (got_has Lines Lines t uses refl)
    go false e = ap₂ (position_at Trial) (got_has Number Number t uses refl) (kept_has Lines Number t uses refl ∙ ordered e)

pub argument_ordered : (v : Verb) (t : Text) (uses : List Use) → Ordered uses → Ordered (uses ++ use_of (next_of v (has Number uses)) t ∷ [])
argument_ordered Run t uses ordered e = kept_has Lines Query t uses refl ∙ ordered (sym (kept_has Number Query t uses refl) ∙ e)
argument_ordered Check t uses ordered e = kept_has Lines Query t uses refl ∙ ordered (sym (kept_has Number Query t uses refl) ∙ e)
argument_ordered Explain t uses ordered e = kept_has Lines Query t uses refl ∙ ordered (sym (kept_has Number Query t uses refl) ∙ e)
argument_ordered Trial t uses ordered e = go (has Number uses) refl e
  where
    go : (b : Bool) → has Number uses ≡ b → has Number (uses ++ use_of (next_of Trial b) t ∷ []) ≡ false → has Lines (uses ++ use_of (next_of Trial b) t ∷ []) ≡ false
    go true h e = let yes : true ≡ false = sym (still_has Number Lines t uses h) ∙ e in cc
    go false h e = let yes : true ≡ false = sym (got_has Number Number t uses refl) ∙ e in cc
