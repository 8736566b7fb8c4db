-- The keys of `group by`, each absent or one atomic, and as many as it names.
use Rattle.std.proofs.Common.{◌≡◌, ℕ, suc, ◌+◌, List, [], ◌∷◌, length, Option, Result, Ok, Err, refl, ap, subst, sym}
use Rattle.item_tree.specs.Datum.{Datum, null, boolean, integer, decimal, text, date, date_time, array, object}
use Rattle.item_tree.specs.declared.fault.Fault.{Fault}
use Rattle.item_tree.specs.Laws.{IsKey}
use Rattle.seq_types.specs.declared.types.SeqType.{SeqType}
use Rattle.tuple_rows.specs.Keys.{Keyed, AllKeys}
use Rattle.query_tree.specs.declared.bound.Slot.{Slot}
use Rattle.query_tree.specs.declared.bound.Target.{Target}
use Rattle.query_tree.specs.Plain as p
use Rattle.query_tree.specs.Plain.{PlainClauses, PlainGroupVar, PlainGroupVars}
use Rattle.query_meaning.specs.Outcome as m
use Rattle.query_meaning.specs.Outcome.{OrFault}
use Rattle.query_meaning.specs.Environment.{Tuple, Environment, Inner, with_value, in_tuple}
use Rattle.query_meaning.specs.Keys.{key_of}
use Rattle.query_meaning.specs.Groups.{with_key, group_key, group_key_value, group_keys}
use Rattle.stage_laws.specs.Runs.{Met, ◌>>=◌, with_front, joined, met_at, each_from, each_read}
use Rattle.stage_laws.specs.Stages.{driver, viewed}
use Rattle.clause_stages.specs.Steps.{tuples_at, clauses_stage}
use Rattle.clause_stages.specs.Ends.{group_keyed}
use Rattle.piece_outcomes.specs.Came.{Came, Seen, keyed_came}
use Rattle.query_tree.specs.BoundViews.{bound_clauses, bound_group_vars}
use Rattle.query_tree.specs.declared.clause.GroupVar.{GroupVar}
use Rattle.query_meaning.specs.inside.Evaluates.{BoundExpr}
use Rattle.query_meaning.specs.inside.Views.{tuple_of}
use Rattle.item_reader.specs.Lines.{Line}
use Rattle.clause_stages.specs.Steps.{TupleStage}
use Rattle.clause_stages.specs.Drivers.{placed_item, item_tuple}
use Rattle.clause_stages.specs.InputLines.{line_read}
use Rattle.piece_outcomes.specs.Outcomes.{ResultIs}
use Rattle.piece_outcomes.specs.declared.outcome.Gathered.{Gathered}
use Rattle.piece_outcomes.specs.declared.outcome.Gathered.TheVariants as given
use Rattle.piece_run.specs.Driven.{stage_of}
use Rattle.piece_run.specs.Ends.{StageEnd, groups, end_step}
use Rattle.piece_run.specs.Flwors.{EndGathered}
use Rattle.piece_run.specs.HaveKeys.{how_many_keys, AllHave, GroupsHaveKeys}
use Rattle.piece_run.specs.Keying.{GatheredKeyedBy}
use Rattle.piece_run.specs.Outcomes.{CameIs}
use Rattle.piece_run.specs.Staged.{end_of, stage_inner, stage_environment, tuples_stage}
use Rattle.piece_run.specs.declared.came.CameOut.{CameOut}
use Rattle.piece_run.specs.declared.stage.DrivenStage.{DrivenStage}
use Rattle.piece_run.specs.declared.stage.StageEnd as code
use Rattle.piece_run.specs.declared.stage.StageEnd.TheVariants as own

-- ---- one key

abbrev IfKey : OrFault (Option Datum) → Type 0
IfKey (Ok k) = IsKey k
IfKey (Err e) = Unit {0}

key_is : (place : ℕ) (value : List Datum) → IfKey (key_of place value)
key_is place [] = tt
key_is place (null ∷ []) = tt
key_is place (boolean b ∷ []) = tt
key_is place (integer n ∷ []) = tt
key_is place (decimal n ∷ []) = tt
key_is place (text s ∷ []) = tt
key_is place (date d ∷ []) = tt
key_is place (date_time d ∷ []) = tt
key_is place (array vs ∷ []) = tt
key_is place (object ms ∷ []) = tt
key_is place (v ∷ w ∷ vs) = tt

-- ---- the keys of a tuple

abbrev Has : ℕ → Keyed → Type 0
Has count keyed = AllKeys keyed.0 × (length keyed.0 ≡ count)

abbrev IfHas : ℕ → OrFault Keyed → Type 0
IfHas count (Ok keyed) = Has count keyed
IfHas count (Err e) = Unit {0}

rest_case : (count : ℕ) (key : Option Datum) (o : OrFault Keyed) → IsKey key → IfHas count o → IfHas (suc count) (m.◌>>=◌ o (λ keyed. Ok (with_key key keyed)))
rest_case count key (Ok keyed) k (a, n) = ((k, a), ap suc n)
rest_case count key (Err e) k h = tt

key_case : (count : ℕ) (o : OrFault (Option Datum)) (rest : OrFault Keyed) → IfKey o → IfHas count rest → IfHas (suc count) (m.◌>>=◌ o (λ key. m.◌>>=◌ rest (λ keyed. Ok (with_key key keyed))))
key_case count (Ok key) rest k h = rest_case count key rest k h
key_case count (Err e) rest k h = tt

value_case : (count place : ℕ) (o : OrFault (List Datum)) (rest : List Datum → OrFault Keyed) → ((value : List Datum) → IfHas count (rest value))
    → IfHas (suc count) (m.◌>>=◌ o (λ value. m.◌>>=◌ (key_of place value) (λ key. m.◌>>=◌ (rest value) (λ keyed. Ok (with_key key keyed)))))
value_case count place (Ok value) rest h = key_case count (key_of place value) (rest value) (key_is place value) (h value)
value_case count place (Err e) rest h = tt

keys_have : (inner : Inner) (ks : PlainGroupVars Slot Target SeqType) (env : Environment) (tuple : Tuple) → IfHas (how_many_keys ks) (group_keys inner ks env tuple)
keys_have inner p.no_group_vars env tuple = (tt, refl)
keys_have inner (p.more_group_vars k ks) env tuple =
    value_case (how_many_keys ks) (group_key k).place (group_key_value inner k (in_tuple env tuple)) (λ value. group_keys inner ks env (with_value tuple (group_key k).name value))
    (λ value. keys_have inner ks env (with_value tuple (group_key k).name value))

-- ---- all tuples

abbrev IfAllHave : ℕ → Result (List Keyed) (Met Seen Fault) → Type 0
IfAllHave count (Ok keyed) = AllHave count keyed
IfAllHave count (Err e) = Unit {0}

front_has : (count : ℕ) (keyed : Keyed) (q : Result (List Keyed) (Met Seen Fault)) → Has count keyed → IfAllHave count q → IfAllHave count (with_front (keyed ∷ []) q)
front_has count keyed (Ok rest) (a, n) (b, k) = ((a, b), (n, k))
front_has count keyed (Err e) h k = tt

one_has : (count at n : ℕ) (o : OrFault Keyed) (q : Result (List Keyed) (Met Seen Fault)) → IfHas count o → IfAllHave count q → IfAllHave count (joined (met_at at n (m.◌>>=◌ o (λ keyed. Ok (keyed ∷ [])))) q)
one_has count at n (Ok keyed) q h k = front_has count keyed q h k
one_has count at n (Err e) q h k = tt

all_have : (inner : Inner) (ks : PlainGroupVars Slot Target SeqType) (env : Environment) (at n : ℕ) (ts : List Tuple) → IfAllHave (how_many_keys ks) (each_from at (group_keyed inner ks env) n ts)
all_have inner ks env at n [] = (tt, tt)
all_have inner ks env at n (t ∷ ts) =
    one_has (how_many_keys ks) at n (group_keys inner ks env t) (each_from at (group_keyed inner ks env) (n + 1) ts) (keys_have inner ks env t) (all_have inner ks env at (n + 1) ts)

-- ---- behind clauses

abbrev IfCameHas : ℕ → Result Came (Met Seen Fault) → Type 0
IfCameHas count (Ok came) = AllHave count came.keyed
IfCameHas count (Err e) = Unit {0}

kept_case : (count : ℕ) (q : Result (List Keyed) (Met Seen Fault)) → IfAllHave count q → IfCameHas count (viewed keyed_came (q >>= λ zs. Ok zs))
kept_case count (Ok keyed) h = h
kept_case count (Err e) h = tt

then_case : {A : Type 0} (count : ℕ) (q : Result (List A) (Met Seen Fault)) (f : List A → Result Came (Met Seen Fault)) → ((ys : List A) → IfCameHas count (f ys)) → IfCameHas count (q >>= f)
then_case count (Ok ys) f h = h ys
then_case count (Err e) f h = tt

came_has : (inner : Inner) (ks : PlainGroupVars Slot Target SeqType) (env : Environment) (number : ℕ) (cs : PlainClauses Slot Target SeqType) (ts : List Tuple)
    → IfCameHas (how_many_keys ks) ((clauses_stage inner number cs env (end_step inner env (groups ks))).run ts)
came_has inner ks env number p.no_clauses ts = kept_case (how_many_keys ks) (each_from number (group_keyed inner ks env) 1 ts) (all_have inner ks env number 1 ts)
came_has inner ks env number (p.more_clauses c cs) ts =
    then_case (how_many_keys ks) (each_from number (tuples_at inner c env 0) 1 ts) (clauses_stage inner (number + 1) cs env (end_step inner env (groups ks))).run (came_has inner ks env (number + 1) cs)

pub groups_have_keys : GroupsHaveKeys
groups_have_keys inner number cs ks env ts came h = subst (IfCameHas (how_many_keys ks)) h (came_has inner ks env number cs ts)

-- ---- of what is gathered

-- so has all that comes out of the whole stage
stage_has : {F : Type 0} (s : DrivenStage F) (keys : PlainGroupVars Slot Target SeqType) → end_of s.end ≡ groups keys → (xs : List (ℕ × Line)) → IfCameHas (how_many_keys keys) ((stage_of s).run xs)
stage_has s keys same xs =
    let rest : StageEnd → TupleStage Came Seen = λ end. clauses_stage (stage_inner s) (s.reading + 2) (bound_clauses s.clauses.now) (stage_environment s) (end_step (stage_inner s) (stage_environment s) end) in
    then_case (how_many_keys keys) (each_read s.reading (placed_item (line_read s.place)) xs) (driver (s.reading + 1) (item_tuple s.binding.variable.now s.binding.of.now s.binding.at.now (tuple_of s.leading.now)) (tuples_stage s)).run (λ items.
    then_case (how_many_keys keys) (each_read (s.reading + 1) (item_tuple s.binding.variable.now s.binding.of.now s.binding.at.now (tuple_of s.leading.now)) items) (tuples_stage s).run (λ ts.
    subst (λ (end : StageEnd). IfCameHas (how_many_keys keys) ((rest end).run ts)) (sym same) (came_has (stage_inner s) keys (stage_environment s) (s.reading + 2) (bound_clauses s.clauses.now) ts)))

same_many : (keys : List (GroupVar Slot BoundExpr)) → how_many_keys (bound_group_vars keys) ≡ length keys
same_many [] = refl
same_many (k ∷ keys) = ap suc (same_many keys)

has_keyed : {I : Type 0} (stands : I → List Datum → Type 0) (count : ℕ) (g : Gathered (CameOut I)) (r : Result Came (Met Seen Fault)) → ResultIs (CameIs stands) g r → IfCameHas count r → GatheredKeyedBy count g
has_keyed stands count (given.Whole w) (Ok came) is h = subst (AllHave count) (sym is.keyed) h
has_keyed stands count (given.Whole w) (Err e) is h = absurd is
has_keyed stands count (given.Met m) r is h = tt

-- what was gathered of a stage has the keys of its end
pub gathered_has : {F I : Type 0} (stands : I → List Datum → Type 0) (s : DrivenStage F) (g : Gathered (CameOut I)) (xs : List (ℕ × Line)) → ResultIs (CameIs stands) g ((stage_of s).run xs)
    → (end : code.StageEnd) → s.end ≡ end → EndGathered end g
gathered_has stands s g xs is (own.Items body) same = tt
gathered_has stands s g xs is own.Numbers same = tt
gathered_has stands s g xs is (own.Groups keys) same =
    subst (λ (n : ℕ). GatheredKeyedBy n g) (same_many keys.now)
    (has_keyed stands (how_many_keys (bound_group_vars keys.now)) g ((stage_of s).run xs) is (stage_has s (bound_group_vars keys.now) (ap end_of same) xs))
