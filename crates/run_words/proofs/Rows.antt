-- The rows that a parse holds for what is given.
use Rattle.std.proofs.Common.{◌≡◌, ◌∙◌, ◌&&◌, ◌||◌, Bool, true, false, not, List, [], ◌∷◌, ◌++◌, map, refl, sym, ap, codes}
use Rattle.std.specs.Str.{bytes_eq}
use Rattle.std.proofs.lemmas.List.{append-nil}
use Rattle.clap.specs.Walk.{Row, reading_by, has_row, at_row, with_values, without}
use Rattle.clap.specs.Walk as clap
use Rattle.clap.specs.Takes.{use_passes}
use Rattle.clap.specs.declared.parser.matches.ValueSource.TheVariants.{CommandLine}
use Rattle.clap.proofs.WalkLemmas.{list_any-map}
use Rattle.run_words.specs.Table.{Text, id_of}
use Rattle.run_words.specs.Given.{Use, has}
use Rattle.run_words.specs.inside.Command.{is_flag}
use Rattle.run_words.proofs.Rules.{rule_for, row_for, rows_for}
use Rattle.run_words.specs.declared.table.Name.{Name}
use Rattle.run_words.specs.declared.table.Name.TheVariants.{Workers, Partition, Mode, Stats, Query, Number, Lines}

neither : (a b : Bool) → (a || b) ≡ false → (a ≡ false) × (b ≡ false)
neither true b e = cc
neither false b e = (refl, e)

-- where no row has the id, the new one stands at the end
pub fresh : (id : Text) (change : Row → List Row) (missing : List Row) (xs : List Row) → has_row id xs ≡ false → at_row id change missing xs ≡ xs ++ missing
fresh id change missing [] none = refl
fresh id change missing (r ∷ rs) none =
    let p = neither (bytes_eq r.id id) _ none in
    rw p.0 (ap (λ ys. r ∷ ys) (fresh id change missing rs p.1))

pub has_same : (n : Name) (uses : List Use) → has_row (id_of n) (rows_for uses) ≡ has n uses
has_same n uses = sym (list_any-map (λ (r : Row). bytes_eq r.id (id_of n)) row_for uses)

map_push : (xs : List Use) (u : Use) → map row_for (xs ++ u ∷ []) ≡ map row_for xs ++ row_for u ∷ []
map_push [] u = refl
map_push (x ∷ xs) u = ap (λ ys. row_for x ∷ ys) (map_push xs u)

abbrev pub use_of : Name → Text → Use
use_of n v = record { name = n; value = v }

added : (n : Name) (v : Text) (uses : List Use) → has n uses ≡ false
    → with_values (id_of n) (reading_by (rule_for n)) CommandLine (v ∷ []) (without (id_of n) (rows_for uses)) ≡ rows_for (uses ++ use_of n v ∷ [])
added n v uses none =
    let clear = has_same n uses ∙ none in
    ap (with_values (id_of n) (reading_by (rule_for n)) CommandLine (v ∷ [])) (fresh (id_of n) (λ _. []) [] (rows_for uses) clear ∙ append-nil (rows_for uses))
    ∙ fresh (id_of n) (clap.more_values CommandLine (v ∷ [])) (row_for (use_of n v) ∷ []) (rows_for uses) clear ∙ sym (map_push uses (use_of n v))

pub used_rows : (n : Name) (v : Text) (uses : List Use) → is_flag n ≡ false → has n uses ≡ false → clap.used (rule_for n) (v ∷ []) (rows_for uses) ≡ rows_for (uses ++ use_of n v ∷ [])
used_rows Workers v uses plain none = added Workers v uses none
used_rows Partition v uses plain none = added Partition v uses none
used_rows Mode v uses plain none = added Mode v uses none
used_rows Stats v uses plain none = cc
used_rows Query v uses plain none = added Query v uses none
used_rows Number v uses plain none = added Number v uses none
used_rows Lines v uses plain none = added Lines v uses none

pub flag_rows : (uses : List Use) → has Stats uses ≡ false → clap.used (rule_for Stats) [] (rows_for uses) ≡ rows_for (uses ++ use_of Stats (codes "true") ∷ [])
flag_rows uses none = added Stats (codes "true") uses none

once : (n : Name) (uses : List Use) → has n uses ≡ false → (not (has_row (id_of n) (rows_for uses)) || false) ≡ true
once n uses none = ap (λ b. not b || false) (has_same n uses ∙ none)

pub use_ok : (n : Name) (v : Text) (uses : List Use) → is_flag n ≡ false → has n uses ≡ false → use_passes false (rule_for n) (v ∷ []) (rows_for uses) ≡ true
use_ok Workers v uses plain none = ap (λ b. b && true) (once Workers uses none)
use_ok Partition v uses plain none = ap (λ b. b && true) (once Partition uses none)
use_ok Mode v uses plain none = ap (λ b. b && true) (once Mode uses none)
use_ok Stats v uses plain none = cc
use_ok Query v uses plain none = ap (λ b. b && true) (once Query uses none)
use_ok Number v uses plain none = ap (λ b. b && true) (once Number uses none)
use_ok Lines v uses plain none = ap (λ b. b && true) (once Lines uses none)

pub flag_ok : (uses : List Use) → has Stats uses ≡ false → use_passes false (rule_for Stats) [] (rows_for uses) ≡ true
flag_ok uses none = ap (λ b. b && true) (once Stats uses none)
