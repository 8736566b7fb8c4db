-- A parse takes words that are of the table, and its matches are what they give.
use Rattle.std.proofs.Common.{◌≡◌, ◌∙◌, ◌&&◌, ◌||◌, ℕ, Bool, true, false, List, [], ◌∷◌, ◌++◌, drop, Option, Some, None, refl, sym, ap, ap₂, subst, codes, unwrap_or, is_some, option_map}
use Rattle.std.specs.Prelude.{if◌then◌else◌, option_and_then, fold, find, slice_get}
use Rattle.std.specs.List.{list_all, slice_index_or}
use Rattle.std.specs.Str.{bytes_eq}
use Rattle.std.specs.Option.{option_or}
use Rattle.std.proofs.lemmas.List.Folds.{find-append}
use Rattle.std.proofs.lemmas.Slice.Eq.{bytes_eq-Decides}
use Rattle.clap.specs.Walk.{Row, Rule, Walk, walked, walk_from, nothing_held, finished, with_default, has_row, first_of, one_of, reading_by}
use Rattle.clap.specs.Walk as clap
use Rattle.clap.specs.Simple.{built, matches_of, new_rule}
use Rattle.clap.specs.Takes.{settle_passes, walk_passes, level_passes, takes}
use Rattle.clap.specs.declared.parser.matches.ValueSource.TheVariants.{DefaultValue}
use Rattle.clap.proofs.TakesLemmas.{leaf_takes}
use Rattle.clap.proofs.WalkLemmas.{find-map}
use Rattle.run_words.specs.Table.{Text, id_of, last_of, fits}
use Rattle.run_words.specs.Given.{Use, has, value_of, Read, is_settled, whole, start, given, reads}
use Rattle.run_words.specs.inside.Command.{app_for, is_flag}
use Rattle.run_words.proofs.Rules.{rules_of, shape_of, rule_for, row_for, rows_for}
use Rattle.run_words.proofs.Rows.{fresh, has_same}
use Rattle.run_words.proofs.Steps.{Pending, held_at}
use Rattle.run_words.proofs.Fitting.{given_fits, use_fits}
use Rattle.run_words.proofs.Walks.{Settled, FactsAt, Along, walks}
use Rattle.run_words.specs.declared.given.Phase.{Phase}
use Rattle.run_words.specs.declared.given.Phase.TheVariants.{Free, Waits, Over}
use Rattle.run_words.specs.declared.table.Verb.{Verb}
use Rattle.run_words.specs.declared.table.Verb.TheVariants.{Run, Check, Explain, Trial}
use Rattle.run_words.specs.declared.table.Name.{Name}
use Rattle.run_words.specs.declared.table.Name.TheVariants.{Workers, Partition, Mode, Stats, Query, Number, Lines}

settled_at : (v : Verb) (phase : Phase) (uses : List Use) (rs : List Row) (p : Pending) → is_settled phase ≡ true → FactsAt v phase uses rs p → Settled v uses rs p
settled_at v Free uses rs p e s = s
settled_at v (Waits n) uses rs p e s = cc
settled_at v Over uses rs p e s = s

-- the end of a walk over words of the table
record Ended (v : Verb) (words : List Text) (uses : List Use) : Type 0 where
  rs : List Row
  p : Pending
  held : (fold (walked (rules_of v) []) (walk_from nothing_held) words).held ≡ held_at rs p
  settled : Settled v uses rs p
  passes : walk_passes (shape_of v) [] (walk_from nothing_held) words ≡ true

begun : (v : Verb) → Along v start (walk_from nothing_held)
begun Run = record { rs = []; p = None; is = refl; facts = (refl, refl); ordered = λ e. refl }
begun Check = record { rs = []; p = None; is = refl; facts = (refl, refl); ordered = λ e. refl }
begun Explain = record { rs = []; p = None; is = refl; facts = (refl, refl); ordered = λ e. refl }
begun Trial = record { rs = []; p = None; is = refl; facts = (refl, refl); ordered = λ e. refl }

ended : (v : Verb) (words : List Text) (uses : List Use) → given v words ≡ Some uses → Ended v words uses
ended v words uses e = go (reads v start words) refl e
  where
    at : (r : Read) (b c : Bool) → is_settled r.phase ≡ b → reads v start words ≡ Some r → (if b && c then Some r.uses else None) ≡ Some uses → Ended v words uses
    at r false c h g e = cc
    at r true false h g e = cc
    at r true true h g e =
        let w = walks v words start r (walk_from nothing_held) (begun v) g in
        let same : r.uses ≡ uses = ap (λ o. unwrap_or o r.uses) e in
        record {
          rs = w.1.rs;
          p = w.1.p;
          held = ap (λ (x : Walk). x.held) w.1.is;
          settled = subst (λ (u : List Use). Settled v u w.1.rs w.1.p) same (settled_at v r.phase r.uses w.1.rs w.1.p h w.1.facts);
          passes = w.0;
        }

    go : (o : Option Read) → reads v start words ≡ o → option_and_then (whole v) o ≡ Some uses → Ended v words uses
    go None g e = cc
    go (Some r) g e = at r (is_settled r.phase) (has (last_of v) r.uses) refl g e

level : (v : Verb) (words : List Text) (uses : List Use) → Ended v words uses → level_passes (shape_of v) [] nothing_held words false ≡ true
level Run words uses e = ap₂ (λ (b c : Bool). b && (c && true)) e.passes (ap (settle_passes (rules_of Run) false) e.held ∙ e.settled.1)
level Check words uses e = ap₂ (λ (b c : Bool). b && (c && true)) e.passes (ap (settle_passes (rules_of Check) false) e.held ∙ e.settled.1)
level Explain words uses e = ap₂ (λ (b c : Bool). b && (c && true)) e.passes (ap (settle_passes (rules_of Explain) false) e.held ∙ e.settled.1)
level Trial words uses e = ap₂ (λ (b c : Bool). b && (c && true)) e.passes (ap (settle_passes (rules_of Trial) false) e.held ∙ e.settled.1)

takes_given : (v : Verb) (ws : List Text) (uses : List Use) → given v (drop 1 ws) ≡ Some uses → takes (app_for v) ws ≡ true
takes_given Run ws uses e = leaf_takes (built (app_for Run)) nothing_held (drop 1 ws) refl (level Run (drop 1 ws) uses (ended Run (drop 1 ws) uses e))
takes_given Check ws uses e = leaf_takes (built (app_for Check)) nothing_held (drop 1 ws) refl (level Check (drop 1 ws) uses (ended Check (drop 1 ws) uses e))
takes_given Explain ws uses e = leaf_takes (built (app_for Explain)) nothing_held (drop 1 ws) refl (level Explain (drop 1 ws) uses (ended Explain (drop 1 ws) uses e))
takes_given Trial ws uses e = leaf_takes (built (app_for Trial)) nothing_held (drop 1 ws) refl (level Trial (drop 1 ws) uses (ended Trial (drop 1 ws) uses e))

pub takes_if : (v : Verb) (ws : List Text) → is_some (given v (drop 1 ws)) ≡ true → takes (app_for v) ws ≡ true
takes_if v ws e = go (given v (drop 1 ws)) refl e
  where
    go : (o : Option (List Use)) → given v (drop 1 ws) ≡ o → is_some o ≡ true → takes (app_for v) ws ≡ true
    go None g e = cc
    go (Some uses) g e = takes_given v ws uses g

-- ---- the matches

same_if : {X : Type 0} (b : Bool) (x : X) → (if b then x else x) ≡ x
same_if true x = refl
same_if false x = refl

abbrev stats_rule : Rule
stats_rule = rule_for Stats

abbrev defaulted : Verb → List Row → List Row
defaulted Run R = with_default R stats_rule
defaulted Check R = R
defaulted Explain R = R
defaulted Trial R = R

defaults : (v : Verb) (R : List Row) → fold with_default R (rules_of v) ≡ defaulted v R
defaults Run R =
    let d = λ (x : List Row) (k : ℕ). with_default x (slice_index_or (rules_of Run) k (new_rule [])) in
    let s = with_default R stats_rule in
    ap (λ x. d (d (d (d (d x 1) 2) 3) 4) 5) (same_if (has_row (codes "workers") R) R)
    ∙ ap (λ x. d (d (d (d x 2) 3) 4) 5) (same_if (has_row (codes "partition") R) R)
    ∙ ap (λ x. d (d (d x 3) 4) 5) (same_if (has_row (codes "mode") R) R)
    ∙ ap (λ x. d x 5) (same_if (has_row (codes "query") s) s)
    ∙ same_if (has_row (codes "help") s) s
defaults Check R =
    ap (λ x. with_default x (slice_index_or (rules_of Check) 1 (new_rule []))) (same_if (has_row (codes "query") R) R)
    ∙ same_if (has_row (codes "help") R) R
defaults Explain R =
    ap (λ x. with_default x (slice_index_or (rules_of Explain) 1 (new_rule []))) (same_if (has_row (codes "query") R) R)
    ∙ same_if (has_row (codes "help") R) R
defaults Trial R =
    let d = λ (x : List Row) (k : ℕ). with_default x (slice_index_or (rules_of Trial) k (new_rule [])) in
    ap (λ x. d (d (d (d x 1) 2) 3) 4) (same_if (has_row (codes "workers") R) R)
    ∙ ap (λ x. d (d (d x 2) 3) 4) (same_if (has_row (codes "partition") R) R)
    ∙ ap (λ x. d (d x 3) 4) (same_if (has_row (codes "number") R) R)
    ∙ ap (λ x. d x 4) (same_if (has_row (codes "lines") R) R)
    ∙ same_if (has_row (codes "help") R) R

matches_are : (v : Verb) (ws : List Text) (uses : List Use) → given v (drop 1 ws) ≡ Some uses → matches_of (app_for v) ws ≡ defaulted v (rows_for uses)
matches_are Run ws uses g = let e = ended Run (drop 1 ws) uses g in ap (finished (rules_of Run)) e.held ∙ ap (λ x. fold with_default x (rules_of Run)) e.settled.0 ∙ defaults Run (rows_for uses)
matches_are Check ws uses g = let e = ended Check (drop 1 ws) uses g in ap (finished (rules_of Check)) e.held ∙ ap (λ x. fold with_default x (rules_of Check)) e.settled.0 ∙ defaults Check (rows_for uses)
matches_are Explain ws uses g = let e = ended Explain (drop 1 ws) uses g in ap (finished (rules_of Explain)) e.held ∙ ap (λ x. fold with_default x (rules_of Explain)) e.settled.0 ∙ defaults Explain (rows_for uses)
matches_are Trial ws uses g = let e = ended Trial (drop 1 ws) uses g in ap (finished (rules_of Trial)) e.held ∙ ap (λ x. fold with_default x (rules_of Trial)) e.settled.0 ∙ defaults Trial (rows_for uses)

value_first : (o : Option Use) → option_and_then (λ (r : Row). slice_get r.values 0) (option_map row_for o) ≡ option_map (λ u. u.value) o
value_first None = refl
value_first (Some u) = refl

first_value_of : (n : Name) (uses : List Use) → first_of (id_of n) (rows_for uses) ≡ value_of n uses
first_value_of n uses =
    ap (option_and_then (λ (r : Row). slice_get r.values 0)) (sym (find-map (λ (r : Row). bytes_eq r.id (id_of n)) row_for uses))
    ∙ value_first (find (λ u. bytes_eq (id_of u.name) (id_of n)) uses)

or_none : {X : Type 0} (o : Option X) → option_or o None ≡ o
or_none None = refl
or_none (Some x) = refl

abbrev default_row : Row
default_row = record { id = codes "stats"; values = codes "false" ∷ []; count = None; source = Some DefaultValue; reading = reading_by stats_rule }

past : (n : Name) (R : List Row) → is_flag n ≡ false → first_of (id_of n) (R ++ default_row ∷ []) ≡ first_of (id_of n) R
past Workers R f = ap (option_and_then (λ (r : Row). slice_get r.values 0)) (find-append (λ (r : Row). bytes_eq r.id (codes "workers")) R (default_row ∷ []) ∙ or_none _)
past Partition R f = ap (option_and_then (λ (r : Row). slice_get r.values 0)) (find-append (λ (r : Row). bytes_eq r.id (codes "partition")) R (default_row ∷ []) ∙ or_none _)
past Mode R f = ap (option_and_then (λ (r : Row). slice_get r.values 0)) (find-append (λ (r : Row). bytes_eq r.id (codes "mode")) R (default_row ∷ []) ∙ or_none _)
past Stats R f = cc
past Query R f = ap (option_and_then (λ (r : Row). slice_get r.values 0)) (find-append (λ (r : Row). bytes_eq r.id (codes "query")) R (default_row ∷ []) ∙ or_none _)
past Number R f = ap (option_and_then (λ (r : Row). slice_get r.values 0)) (find-append (λ (r : Row). bytes_eq r.id (codes "number")) R (default_row ∷ []) ∙ or_none _)
past Lines R f = ap (option_and_then (λ (r : Row). slice_get r.values 0)) (find-append (λ (r : Row). bytes_eq r.id (codes "lines")) R (default_row ∷ []) ∙ or_none _)

past_default : (n : Name) (R : List Row) → is_flag n ≡ false → first_of (id_of n) (with_default R stats_rule) ≡ first_of (id_of n) R
past_default n R f = go (has_row (codes "stats") R) refl
  where
    go : (b : Bool) → has_row (codes "stats") R ≡ b → first_of (id_of n) (with_default R stats_rule) ≡ first_of (id_of n) R
    go true h = ap (λ b. first_of (id_of n) (if b then R else clap.default_rows (codes "stats") (reading_by stats_rule) (codes "false" ∷ []) R)) h
    go false h =
        ap (λ b. first_of (id_of n) (if b then R else clap.default_rows (codes "stats") (reading_by stats_rule) (codes "false" ∷ []) R)) h
        ∙ ap (first_of (id_of n)) (fresh (codes "stats") (clap.more_values DefaultValue (codes "false" ∷ [])) (default_row ∷ []) R h)
        ∙ past n R f

past_defaults : (v : Verb) (n : Name) (R : List Row) → is_flag n ≡ false → first_of (id_of n) (defaulted v R) ≡ first_of (id_of n) R
past_defaults Run n R f = past_default n R f
past_defaults Check n R f = refl
past_defaults Explain n R f = refl
past_defaults Trial n R f = refl

pub values_given : (v : Verb) (ws : List Text) (uses : List Use) (n : Name) → given v (drop 1 ws) ≡ Some uses → is_flag n ≡ false → first_of (id_of n) (matches_of (app_for v) ws) ≡ value_of n uses
values_given v ws uses n g f = ap (first_of (id_of n)) (matches_are v ws uses g) ∙ past_defaults v n (rows_for uses) f ∙ first_value_of n uses

-- ---- the flag

both : (a b : Bool) → (a && b) ≡ true → (a ≡ true) × (b ≡ true)
both true b e = (refl, e)
both false b e = cc

abbrev is_stats : Use → Bool
is_stats u = bytes_eq (id_of u.name) (codes "stats")

flag_row : (u : Use) → is_stats u ≡ true → use_fits u ≡ true → clap.row_text (row_for u) ≡ Some (codes "true")
flag_row u s f = go u.name u.value s f
  where
    go : (n : Name) (v : Text) → bytes_eq (id_of n) (codes "stats") ≡ true → fits n v ≡ true → clap.row_text (row_for (record { name = n; value = v })) ≡ Some (codes "true")
    go Stats v s f = ap (λ (t : Text). clap.row_text (row_for (record { name = Stats; value = t }))) ((bytes_eq-Decides v (codes "true")).0 f)
    go Workers v s f = cc
    go Partition v s f = cc
    go Mode v s f = cc
    go Query v s f = cc
    go Number v s f = cc
    go Lines v s f = cc

flag_found : (uses : List Use) → has Stats uses ≡ true → list_all use_fits uses ≡ true → one_of (codes "stats") (rows_for uses) ≡ Some (codes "true")
flag_found [] h f = cc
flag_found (u ∷ rest) h f = go (is_stats u) refl (λ g. flag_found rest g (both _ _ f).1) h
  where
    go : (b : Bool) → is_stats u ≡ b → (has Stats rest ≡ true → one_of (codes "stats") (rows_for rest) ≡ Some (codes "true")) → (b || has Stats rest) ≡ true
        → one_of (codes "stats") (rows_for (u ∷ rest)) ≡ Some (codes "true")
    go true s rec h = ap (λ b. option_and_then clap.row_text (if b then Some (row_for u) else find (λ (r : Row). bytes_eq r.id (codes "stats")) (rows_for rest))) s ∙ flag_row u s (both _ _ f).0
    go false s rec h = ap (λ b. option_and_then clap.row_text (if b then Some (row_for u) else find (λ (r : Row). bytes_eq r.id (codes "stats")) (rows_for rest))) s ∙ rec h

none_found : (R : List Row) → has_row (codes "stats") R ≡ false → find (λ (r : Row). bytes_eq r.id (codes "stats")) R ≡ None
none_found [] h = refl
none_found (r ∷ rest) h = go (bytes_eq r.id (codes "stats")) refl (λ g. none_found rest g) h
  where
    go : (b : Bool) → bytes_eq r.id (codes "stats") ≡ b → (has_row (codes "stats") rest ≡ false → find (λ (r : Row). bytes_eq r.id (codes "stats")) rest ≡ None)
        → (b || has_row (codes "stats") rest) ≡ false → find (λ (r : Row). bytes_eq r.id (codes "stats")) (r ∷ rest) ≡ None
    go true s rec h = cc
    go false s rec h = ap (λ b. if b then Some r else find (λ (r : Row). bytes_eq r.id (codes "stats")) rest) s ∙ rec h

pub stats_given : (ws : List Text) (uses : List Use) → given Run (drop 1 ws) ≡ Some uses → one_of (codes "stats") (matches_of (app_for Run) ws) ≡ Some (if has Stats uses then codes "true" else codes "false")
stats_given ws uses g = ap (one_of (codes "stats")) (matches_are Run ws uses g) ∙ go (has Stats uses) refl
  where
    go : (b : Bool) → has Stats uses ≡ b → one_of (codes "stats") (with_default (rows_for uses) stats_rule) ≡ Some (if has Stats uses then codes "true" else codes "false")
    go true h =
        ap (λ b. one_of (codes "stats") (if b then rows_for uses else clap.default_rows (codes "stats") (reading_by stats_rule) (codes "false" ∷ []) (rows_for uses))) (has_same Stats uses ∙ h)
        ∙ flag_found uses h (given_fits Run (drop 1 ws) uses g) ∙ ap (λ b. Some (if b then codes "true" else codes "false")) (sym h)
    go false h =
        let gone = has_same Stats uses ∙ h in
        ap (λ b. one_of (codes "stats") (if b then rows_for uses else clap.default_rows (codes "stats") (reading_by stats_rule) (codes "false" ∷ []) (rows_for uses))) gone
        ∙ ap (one_of (codes "stats")) (fresh (codes "stats") (clap.more_values DefaultValue (codes "false" ∷ [])) (default_row ∷ []) (rows_for uses) gone)
        ∙ ap (option_and_then clap.row_text) (find-append (λ (r : Row). bytes_eq r.id (codes "stats")) (rows_for uses) (default_row ∷ []) ∙ ap (λ (o : Option Row). option_or o (Some default_row)) (none_found (rows_for uses) gone))
        ∙ ap (λ b. Some (if b then codes "true" else codes "false")) (sym h)
