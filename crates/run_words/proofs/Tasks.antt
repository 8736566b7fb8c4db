-- A task is read from values that fit.
use Rattle.std.proofs.Common.{◌≡◌, ◌∙◌, ◌+◌, ◌++◌, map, take, drop, length, get_or, ◌<◌, ◌≤◌, ◌&&◌, ◌-◌, ◌^◌, ℕ, Bool, true, false, List, [], ◌∷◌, Option, Some, None, refl, sym, ap, ap₂, subst, codes, arith, rules, is_some, option_map, unwrap_or}
use Rattle.std.specs.Prelude.{if◌then◌else◌, nat_le, find, option_and_then}
use Rattle.std.specs.List.{list_all}
use Rattle.std.specs.Str.{bytes_eq, chars}
use Rattle.std.specs.Str.Parse.{IsNumeral, digits_value, without_leading_plus}
use Rattle.std.proofs.lemmas.List.{take_more, map-append}
use Rattle.run_words.specs.Table.{Text, verb_of, id_of, fits, number_of, is_number_in}
use Rattle.run_words.specs.Given.{Use, given, has, value_of}
use Rattle.run_words.specs.Asked.{asked, task_of, task_from, number_or, is_text, WorksWithin, IsWithin}
use Rattle.run_words.specs.inside.Asking.{verb_asked}
use Rattle.run_words.specs.inside.Command.{is_flag, flag_text}
use Rattle.run_words.specs.inside.Numbers.{IsNumberText}
use Rattle.run_words.proofs.Fitting.{given_fits, use_fits}
use Rattle.run_words.proofs.Reading.{some_same}
use Rattle.run_words.proofs.Parsing.{number_err}
use Rattle.run_words.specs.declared.table.Verb.{Verb}
use Rattle.run_words.specs.declared.table.Verb.TheVariants.{Run, Check, Explain, Trial}
use Rattle.run_words.specs.declared.table.Name.{Name}
use Rattle.run_words.specs.declared.table.Name.TheVariants.{Workers, Partition, Mode, Stats, Query, Number, Lines}
use Rattle.run_words.specs.declared.task.Task.{Task}
use Rattle.run_words.specs.declared.task.Task.TheVariants as task

both : (a b : Bool) → (a && b) ≡ true → (a ≡ true) × (b ≡ true)
both true b e = (refl, e)
both false b e = cc

true_le : (a b : ℕ) → nat_le a b ≡ true → a ≤ b
true_le a b h = search rules

le_true : (a b : ℕ) → a ≤ b → nat_le a b ≡ true
le_true a b h = search rules

-- a number within bounds is a number of 32 bits
wider : (low high : ℕ) (text : Text) → high < 2 ^ 32 → is_number_in low high text ≡ true → is_number_in 0 (2 ^ 32 - 1) text ≡ true
wider low high text small e =
    let v = digits_value 10 (without_leading_plus text) in
    let p = both _ _ e in
    let q = both _ _ p.1 in
    let r = both _ _ q.1 in
    let most : v ≤ high = true_le _ _ r.1 in
    ap₂ (λ (a b : Bool). a && (b && (nat_le 0 v && nat_le v (2 ^ 32 - 1)))) p.0 q.0
    ∙ ap₂ (λ (a b : Bool). a && b) (le_true 0 v (omega arith)) (le_true v (2 ^ 32 - 1) (omega (arith, most, small)))

-- a text that is a number parses
pub parses : (text : Text) → is_number_in 0 (2 ^ 32 - 1) text ≡ true → (IsNumeral 10 (without_leading_plus text) × (digits_value 10 (without_leading_plus text) < 2 ^ 32) → ⊥) → ⊥
parses text e refuted = let f : false ≡ true = number_err 0 (2 ^ 32 - 1) text refuted (omega arith) ∙ e in cc

-- ---- the value that is found fits

abbrev is_name : Name → Use → Bool
is_name n u = bytes_eq (id_of u.name) (id_of n)

workers_use : (u : Use) → is_name Workers u ≡ true → use_fits u ≡ true → is_number_in 1 64 u.value ≡ true
workers_use u e f = go u.name e f
  where
    go : (n : Name) → bytes_eq (id_of n) (codes "workers") ≡ true → fits n u.value ≡ true → is_number_in 1 64 u.value ≡ true
    go Workers e f = f
    go Partition e f = cc
    go Mode e f = cc
    go Stats e f = cc
    go Query e f = cc
    go Number e f = cc
    go Lines e f = cc

partition_use : (u : Use) → is_name Partition u ≡ true → use_fits u ≡ true → is_number_in 1 (2 ^ 30) u.value ≡ true
partition_use u e f = go u.name e f
  where
    go : (n : Name) → bytes_eq (id_of n) (codes "partition") ≡ true → fits n u.value ≡ true → is_number_in 1 (2 ^ 30) u.value ≡ true
    go Workers e f = cc
    go Partition e f = f
    go Mode e f = cc
    go Stats e f = cc
    go Query e f = cc
    go Number e f = cc
    go Lines e f = cc

number_use : (u : Use) → is_name Number u ≡ true → use_fits u ≡ true → is_number_in 0 (2 ^ 31 - 1) u.value ≡ true
number_use u e f = go u.name e f
  where
    go : (n : Name) → bytes_eq (id_of n) (codes "number") ≡ true → fits n u.value ≡ true → is_number_in 0 (2 ^ 31 - 1) u.value ≡ true
    go Workers e f = cc
    go Partition e f = cc
    go Mode e f = cc
    go Stats e f = cc
    go Query e f = cc
    go Number e f = f
    go Lines e f = cc

lines_use : (u : Use) → is_name Lines u ≡ true → use_fits u ≡ true → is_number_in 0 1000000 u.value ≡ true
lines_use u e f = go u.name e f
  where
    go : (n : Name) → bytes_eq (id_of n) (codes "lines") ≡ true → fits n u.value ≡ true → is_number_in 0 1000000 u.value ≡ true
    go Workers e f = cc
    go Partition e f = cc
    go Mode e f = cc
    go Stats e f = cc
    go Query e f = cc
    go Number e f = cc
    go Lines e f = f

numbers : (n : Name) (low high : ℕ) (uses : List Use) → high < 2 ^ 32 → ((u : Use) → is_name n u ≡ true → use_fits u ≡ true → is_number_in low high u.value ≡ true)
    → list_all use_fits uses ≡ true → IsNumberText (value_of n uses)
numbers n low high [] small here e = tt
numbers n low high (u ∷ rest) small here e = go (is_name n u) refl (numbers n low high rest small here (both _ _ e).1)
  where
    go : (b : Bool) → is_name n u ≡ b → IsNumberText (value_of n rest) → IsNumberText (option_map (λ u. u.value) (if b then Some u else find (is_name n) rest))
    go true h rec = wider low high u.value small (here u h (both _ _ e).0)
    go false h rec = rec

uses_of : (o : Option (List Use)) → is_some o ≡ true → (uses : List Use) × (o ≡ Some uses)
uses_of None e = cc
uses_of (Some uses) e = (uses, refl)

-- what is read for a name is what is given
abbrev pub IsRead : Verb → List Text → (Name → Option Text) → Type 0
IsRead v words value = (uses : List Use) → given v words ≡ Some uses → (n : Name) → is_flag n ≡ false → value n ≡ value_of n uses

pub workers_text : (v : Verb) (words : List Text) (value : Name → Option Text) → is_some (given v words) ≡ true → IsRead v words value → IsNumberText (value Workers)
workers_text v words value e h =
    let u = uses_of (given v words) e in
    subst IsNumberText (sym (h u.0 u.1 Workers refl)) (numbers Workers 1 64 u.0 (omega arith) workers_use (given_fits v words u.0 u.1))

pub partition_text : (v : Verb) (words : List Text) (value : Name → Option Text) → is_some (given v words) ≡ true → IsRead v words value → IsNumberText (value Partition)
partition_text v words value e h =
    let u = uses_of (given v words) e in
    subst IsNumberText (sym (h u.0 u.1 Partition refl)) (numbers Partition 1 (2 ^ 30) u.0 (omega arith) partition_use (given_fits v words u.0 u.1))

pub number_text : (v : Verb) (words : List Text) (value : Name → Option Text) → is_some (given v words) ≡ true → IsRead v words value → IsNumberText (value Number)
number_text v words value e h =
    let u = uses_of (given v words) e in
    subst IsNumberText (sym (h u.0 u.1 Number refl)) (numbers Number 0 (2 ^ 31 - 1) u.0 (omega arith) number_use (given_fits v words u.0 u.1))

pub lines_text : (v : Verb) (words : List Text) (value : Name → Option Text) → is_some (given v words) ≡ true → IsRead v words value → IsNumberText (value Lines)
lines_text v words value e h =
    let u = uses_of (given v words) e in
    subst IsNumberText (sym (h u.0 u.1 Lines refl)) (numbers Lines 0 1000000 u.0 (omega arith) lines_use (given_fits v words u.0 u.1))

-- ---- the task

task_same : (v : Verb) (value other : Name → Option Text) (stats : Bool) → ((n : Name) → is_flag n ≡ false → value n ≡ other n)
    → task_from v value stats ≡ task_from v other stats
task_same Run value other stats w = λ i. task.Run (chars (unwrap_or (w Query refl i) [])) (number_or 4 (w Workers refl i)) (number_or 1048576 (w Partition refl i)) (is_text (codes "local") (w Mode refl i)) stats
task_same Check value other stats w = λ i. task.Check (chars (unwrap_or (w Query refl i) []))
task_same Explain value other stats w = λ i. task.Explain (chars (unwrap_or (w Query refl i) []))
task_same Trial value other stats w = λ i. task.Trial (number_or 0 (w Number refl i)) (number_or 0 (w Lines refl i)) (number_or 4 (w Workers refl i)) (number_or 1048576 (w Partition refl i))

-- the task of the values that were read, where a flag is read as this text
pub task_is : (v : Verb) (words : List Text) (value : Name → Option Text) (flag : Option Text) (t : Task) → is_some (given v words) ≡ true → IsRead v words value
    → (v ≡ Run → (uses : List Use) → given v words ≡ Some uses → flag ≡ flag_text (has Stats uses))
    → ((stats : Bool) → (v ≡ Run → flag ≡ flag_text stats) → t ≡ task_from v value stats) → task_of v words ≡ Some t
task_is v words value flag t e h s is =
    let u = uses_of (given v words) e in
    ap (option_map (λ uses. task_from v (λ n. value_of n uses) (has Stats uses))) u.1
    ∙ ap (λ (x : Task). Some x) (sym (is (has Stats u.0) (λ r. s r u.0 u.1) ∙ task_same v value (λ n. value_of n u.0) (has Stats u.0) (h u.0 u.1)))

-- words that aren't of the table have no task
none_of : (v : Verb) (words : List Text) → is_some (given v words) ≡ false → task_of v words ≡ None
none_of v words e = go (given v words) e
  where
    go : (o : Option (List Use)) → is_some o ≡ false → option_map (λ uses. task_from v (λ n. value_of n uses) (has Stats uses)) o ≡ None
    go None e = refl
    go (Some uses) e = cc

-- where no command is asked for there is no task
pub no_task : (words : List Text) → None ≡ verb_asked words → asked words ≡ None
no_task [] e = refl
no_task (first ∷ rest) e = go (verb_of first) e
  where
    go : (o : Option Verb) → None ≡ option_and_then (λ v. if is_some (given v rest) then Some v else None) o → option_and_then (λ v. task_of v rest) o ≡ None
    go None e = refl
    go (Some v) e = at (is_some (given v rest)) refl e
      where
        at : (b : Bool) → is_some (given v rest) ≡ b → None ≡ (let o : Option Verb = if b then Some v else None in o) → task_of v rest ≡ None
        at true g e = cc
        at false g e = none_of v rest g

-- where a command is asked for, the words behind the first one are of its table
pub asks : (words : List Text) (v : Verb) → Some v ≡ verb_asked words → (is_some (given v (drop 1 words)) ≡ true) × (asked words ≡ task_of v (drop 1 words))
asks [] v e = cc
asks (first ∷ rest) v e = go (verb_of first) e
  where
    go : (o : Option Verb) → Some v ≡ option_and_then (λ v. if is_some (given v rest) then Some v else None) o
        → (is_some (given v rest) ≡ true) × (option_and_then (λ v. task_of v rest) o ≡ task_of v rest)
    go None e = cc
    go (Some w) e = at (is_some (given w rest)) refl e
      where
        at : (b : Bool) → is_some (given w rest) ≡ b → Some v ≡ (let o : Option Verb = if b then Some w else None in o)
            → (is_some (given v rest) ≡ true) × (task_of w rest ≡ task_of v rest)
        at true g e =
            let same : v ≡ w = ap (λ (o : Option Verb). unwrap_or o v) e in
            (ap (λ x. is_some (given x rest)) same ∙ g, ap (λ x. task_of x rest) (sym same))
        at false g e = cc

-- one word more among the texts
pub one_more : {X Y : Type 0} (f : X → Text) (g : Y → Text) (xs : List X) (ys : List Y) (i : ℕ) (x : X) (y : Y) → i < length ys → y ≡ get_or ys i y → f x ≡ g y
    → map f xs ≡ map g (take i ys) → map f (xs ++ x ∷ []) ≡ map g (take (i + 1) ys)
one_more f g xs ys i x y below at same rest =
    map-append f xs (x ∷ []) ∙ ap₂ (λ (front : List Text) (b : Text). front ++ b ∷ []) rest (same ∙ ap g at)
    ∙ sym (map-append g (take i ys) (get_or ys i y ∷ [])) ∙ ap (map g) (sym (take_more ys i y below))

-- ---- bounds

in_bounds : (low high : ℕ) (text : Text) → is_number_in low high text ≡ true → (low ≤ number_of text) × (number_of text ≤ high)
in_bounds low high text e =
    let r = both _ _ (both _ _ (both _ _ e).1).1 in
    (true_le _ _ r.0, true_le _ _ r.1)

bounded : (n : Name) (low high default : ℕ) (uses : List Use) → low ≤ default → default ≤ high → ((u : Use) → is_name n u ≡ true → use_fits u ≡ true → is_number_in low high u.value ≡ true)
    → list_all use_fits uses ≡ true → (low ≤ number_or default (value_of n uses)) × (number_or default (value_of n uses) ≤ high)
bounded n low high default [] least most here e = (least, most)
bounded n low high default (u ∷ rest) least most here e = go (is_name n u) refl (bounded n low high default rest least most here (both _ _ e).1)
  where
    go : (b : Bool) → is_name n u ≡ b → (low ≤ number_or default (value_of n rest)) × (number_or default (value_of n rest) ≤ high)
        → (low ≤ number_or default (option_map (λ u. u.value) (if b then Some u else find (is_name n) rest)))
        × (number_or default (option_map (λ u. u.value) (if b then Some u else find (is_name n) rest)) ≤ high)
    go true h rec = in_bounds low high u.value (here u h (both _ _ e).0)
    go false h rec = rec

works_within : (uses : List Use) → list_all use_fits uses ≡ true → WorksWithin (number_or 4 (value_of Workers uses)) (number_or 1048576 (value_of Partition uses))
works_within uses e =
    let workers = bounded Workers 1 64 4 uses (omega arith) (omega arith) workers_use e in
    let size = bounded Partition 1 (2 ^ 30) 1048576 uses (omega arith) (omega arith) partition_use e in
    record { some = workers.0; most = workers.1; smallest = size.0; largest = size.1 }

within_given : (v : Verb) (uses : List Use) (stats : Bool) → list_all use_fits uses ≡ true → IsWithin (task_from v (λ n. value_of n uses) stats)
within_given Run uses stats e = works_within uses e
within_given Check uses stats e = tt
within_given Explain uses stats e = tt
within_given Trial uses stats e =
    let number = bounded Number 0 (2 ^ 31 - 1) 0 uses (omega arith) (omega arith) number_use e in
    let lines = bounded Lines 0 1000000 0 uses (omega arith) (omega arith) lines_use e in
    (omega (arith, number.1), lines.1, works_within uses e)

-- the numbers of what is asked for keep their bounds
pub within : (words : List Text) (t : Task) → asked words ≡ Some t → IsWithin t
within [] t e = cc
within (first ∷ rest) t e = go (verb_of first) e
  where
    at : (v : Verb) (o : Option (List Use)) → given v rest ≡ o → option_map (λ uses. task_from v (λ n. value_of n uses) (has Stats uses)) o ≡ Some t → IsWithin t
    at v None g e = cc
    at v (Some uses) g e = subst IsWithin (some_same _ _ e) (within_given v uses (has Stats uses) (given_fits v rest uses g))

    go : (o : Option Verb) → option_and_then (λ v. task_of v rest) o ≡ Some t → IsWithin t
    go None e = cc
    go (Some v) e = at v (given v rest) refl e
