-- The clauses of a FLWOR in two programs in which the calls of their expressions find the same. For
-- other crates too.
use Rattle.std.proofs.Common.{◌≡◌, ℕ, suc, ◌+◌, ◌<◌, ◌==◌, if◌then◌else◌, List, [], ◌∷◌, ◌++◌, length, Ok, Err, refl, sym, ap, ap₂, subst, arith, ◌⊎◌, inl, inr}
use Rattle.std.proofs.lemmas.List.Elements.{recursion_from_All}
use Rattle.std.specs.List.{AllByRecursion, AllZip}
use Rattle.seq_types.specs.declared.types.SeqType.{SeqType}
use Rattle.query_tree.specs.declared.bound.Slot.{Slot}
use Rattle.query_tree.specs.declared.bound.Slot.TheVariants.{Local, Global}
use Rattle.query_tree.specs.declared.bound.Target.{Target}
use Rattle.query_tree.specs.Bound.{BoundTree}
use Rattle.query_tree.specs.Calls.{calls}
use Rattle.query_tree.specs.Plain as p
use Rattle.query_tree.specs.Plain.{PlainClause, PlainClauses}
use Rattle.query_tree.specs.Subtrees.{subtrees, clause_subtrees, clauses_subtrees}
use Rattle.query_meaning.specs.Outcome.{OrFault}
use Rattle.query_meaning.specs.Environment.{Tuple, Environment, in_tuple}
use Rattle.query_meaning.specs.Calls.{Program}
use Rattle.query_meaning.specs.Clauses.{clause_value}
use Rattle.query_meaning.specs.Flwors.{with_slots, flwor_from}
use Rattle.query_meaning.specs.Meaning.{eval}
use Rattle.query_meaning.specs.Pieces.{taken_in}
use Rattle.query_meaning.specs.Sources.{Source, of_variable, of_context, of_declared, clause_sources, clauses_sources, sources, SameIn}
use Rattle.meaning_laws.specs.Agreement.{IsOfBoth, FitsBoth, ReadsTheSame, SameForCall, CallsTheSame}
use Rattle.meaning_laws.specs.Laws.{FlworsFindCalls}
use Rattle.meaning_laws.proofs.Alike.{AlikeTuples, Alike, Within, Looks, halves, then_same}
use Rattle.meaning_laws.proofs.AlikeRows.{Match, Rows}
use Rattle.meaning_laws.proofs.AlikeClauses.{clause-match, from-same}
use Rattle.meaning_laws.proofs.Calling.{of_any, of_each}
use Rattle.meaning_laws.proofs.Finding.{Finds, Anything, any_alike, with_sources, with_anything, eval-looks}

-- ---- tuples in which all is the same are one

in_rest : (a b n : ℕ) → IsOfBoth (suc a) (suc b) (suc n) → IsOfBoth a b n
in_rest a b n s = (
  λ (l : n < a). let h : suc n < suc a = omega arith in let k : suc n < suc b = s.0 h in omega arith,
  λ (l : n < b). let h : suc n < suc b = omega arith in let k : suc n < suc a = s.1 h in omega arith,
)

one_tuple : (t u : Tuple) → AlikeTuples Anything t u → t ≡ u
one_tuple [] [] a = refl
one_tuple [] (y ∷ u) a =
    let h : 0 < suc (length u) = omega arith in
    let l : 0 < 0 = (a.there 0 tt).1 h in
    absurd (omega arith)
one_tuple (x ∷ t) [] a =
    let h : 0 < suc (length t) = omega arith in
    let l : 0 < 0 = (a.there 0 tt).0 h in
    absurd (omega arith)
one_tuple (x ∷ t) (y ∷ u) a =
    ap₂ (λ z zs. z ∷ zs) (a.values 0 tt) (one_tuple t u (record { there = λ n r. in_rest (length t) (length u) n (a.there (suc n) tt); values = λ n r. a.values (suc n) r }))

one_list : (ts us : List Tuple) → Rows Anything ts us → ts ≡ us
one_list [] [] h = refl
one_list [] (u ∷ us) h = absurd h
one_list (t ∷ ts) [] h = absurd h
one_list (t ∷ ts) (u ∷ us) h = ap₂ (λ x xs. x ∷ xs) (one_tuple t u h.0) (one_list ts us h.1)

one_result : (r s : OrFault (List Tuple)) → Match (Rows Anything) r s → r ≡ s
one_result (Ok ts) (Ok us) h = ap (λ xs. Ok xs) (one_list ts us h)
one_result (Ok ts) (Err fault) h = absurd h
one_result (Err fault) (Ok us) h = absurd h
one_result (Err fault) (Err other) h = ap (λ f. Err f) h

themselves : (ts : List Tuple) → Rows Anything ts ts
themselves [] = tt
themselves (t ∷ ts) = (record { there = λ n r. (λ l. l, λ l. l); values = λ n r. refl }, themselves ts)

-- ---- clauses

module _ (program beside : Program) (depth : ℕ) (env : Environment) where
  abbrev P : BoundTree → Type 0
  P t = Finds Anything program beside t

  looks : Looks Anything P (eval program depth) (eval beside depth)
  looks t w one other alike = eval-looks program beside depth Anything t w one other alike

  clause-same : (number : ℕ) (stream : List Slot) (c : PlainClause Slot Target SeqType) (ts : List Tuple) → Within P (clause_subtrees c) → clause_value (eval program depth) number stream c env ts ≡ clause_value (eval beside depth) number stream c env ts
  clause-same number stream c ts w =
      one_result (clause_value (eval program depth) number stream c env ts) (clause_value (eval beside depth) number stream c env ts)
      (clause-match Anything P (eval program depth) (eval beside depth) looks env env (any_alike env) number stream c (of_any Anything (λ s. tt) (clause_sources c)) w ts ts (themselves ts))

  items-same : (number : ℕ) (stream : List Slot) (cs : PlainClauses Slot Target SeqType) (result : BoundTree) (ts : List Tuple) → Within P (clauses_subtrees cs ++ subtrees result) → flwor_from (eval program depth) number stream cs result env ts ≡ flwor_from (eval beside depth) number stream cs result env ts
  items-same number stream cs result ts w =
      let ws = halves P (clauses_subtrees cs) (subtrees result) w in
      from-same Anything P (eval program depth) (eval beside depth) looks env env (any_alike env) number stream cs result (of_any Anything (λ s. tt) (clauses_sources cs)) ws.0 ws.1 ts ts (themselves ts)

  taken-same : (clause number : ℕ) (stream : List Slot) (cs : PlainClauses Slot Target SeqType) (ts : List Tuple) → Within P (clauses_subtrees cs) → taken_in (eval program depth) number stream cs env clause ts ≡ taken_in (eval beside depth) number stream cs env clause ts
  taken-same clause number stream p.no_clauses ts w = refl
  taken-same clause number stream (p.more_clauses c cs) ts w =
      let ws = halves P (clause_subtrees c) (clauses_subtrees cs) w in
      ap (λ r. if clause == number then Ok ts else r)
      (then_same (λ next. taken_in (eval program depth) (number + 1) (with_slots stream c) cs env clause next) (λ next. taken_in (eval beside depth) (number + 1) (with_slots stream c) cs env clause next)
      (clause_value (eval program depth) number stream c env ts) (clause_value (eval beside depth) number stream c env ts) (clause-same number stream c ts ws.0) (λ next. taken-same clause (number + 1) (with_slots stream c) cs next ws.1))

-- what the trees of a FLWOR find
flwor-finds : (program beside : Program) (place at : ℕ) (cs : PlainClauses Slot Target SeqType) (result : BoundTree) → CallsTheSame (p.tree_node place (p.flwor_form cs at result)) program beside → Within (Finds Anything program beside) (clauses_subtrees cs ++ subtrees result)
flwor-finds program beside place at cs result h =
    with_anything program beside (clauses_subtrees cs ++ subtrees result)
    (recursion_from_All (λ c. SameForCall program beside c.name) (calls (p.tree_node place (p.flwor_form cs at result))) h)

-- ---- where tuples differ in what is not read

-- a source is one of these
abbrev Listed : List Source → Source → Type 0
Listed [] source = ⊥
Listed (x ∷ xs) source = (source ≡ x) ⊎ Listed xs source

all_listed : (xs : List Source) → AllByRecursion (Listed xs) xs
all_listed [] = tt
all_listed (x ∷ xs) = (inl refl, of_each (Listed xs) (Listed (x ∷ xs)) (λ source h. inr h) xs (all_listed xs))

of_listed : (Q : Source → Type 0) (xs : List Source) → AllByRecursion Q xs → (source : Source) → Listed xs source → Q source
of_listed Q [] h source l = absurd l
of_listed Q (x ∷ xs) h source (inl e) = subst Q (sym e) h.0
of_listed Q (x ∷ xs) h source (inr l) = of_listed Q xs h.1 source l

module _ (t : BoundTree) where
  abbrev Read : Source → Type 0
  Read source = Listed (sources t) source

  read_tuples : (env other : Environment) → ReadsTheSame t env other → AlikeTuples Read env.frame other.frame
  read_tuples env other h = record {
    there = λ n r. of_listed (FitsBoth (length env.frame) (length other.frame)) (sources t) (recursion_from_All (FitsBoth (length env.frame) (length other.frame)) (sources t) h.slots) (of_variable (Local n)) r;
    values = λ n r. of_listed (SameIn env other) (sources t) (recursion_from_All (SameIn env other) (sources t) h.found) (of_variable (Local n)) r;
  }

  read_alike : (env other : Environment) → ReadsTheSame t env other → Alike Read env other
  read_alike env other h =
      let found = of_listed (SameIn env other) (sources t) (recursion_from_All (SameIn env other) (sources t) h.found) in
      record {
        tuples = read_tuples env other h;
        outer = λ n r. found (of_variable (Global n)) r;
        declared = λ r. found of_declared r;
        context = λ r. found of_context r;
      }

  read_rows : (env other : Environment) (ts us : List Tuple) → AllZip (λ v u. ReadsTheSame t (in_tuple env v) (in_tuple other u)) ts us → Rows Read ts us
  read_rows env other [] [] h = tt
  read_rows env other [] (u ∷ us) h = absurd h
  read_rows env other (v ∷ ts) [] h = absurd h
  read_rows env other (v ∷ ts) (u ∷ us) h = (read_tuples (in_tuple env v) (in_tuple other u) h.0, read_rows env other ts us h.1)

flwor-reads : (program beside : Program) (depth number place at : ℕ) (stream : List Slot) (cs : PlainClauses Slot Target SeqType) (result : BoundTree) (env other : Environment) (ts us : List Tuple) → CallsTheSame (p.tree_node place (p.flwor_form cs at result)) program beside → ReadsTheSame (p.tree_node place (p.flwor_form cs at result)) env other → AllZip (λ v u. ReadsTheSame (p.tree_node place (p.flwor_form cs at result)) (in_tuple env v) (in_tuple other u)) ts us → flwor_from (eval program depth) number stream cs result env ts ≡ flwor_from (eval beside depth) number stream cs result other us
flwor-reads program beside depth number place at stream cs result env other ts us c h rows =
    let t = p.tree_node place (p.flwor_form cs at result) in
    let R = Read t in
    let w = with_sources program beside R (subtrees t) (all_listed (sources t)) (recursion_from_All (λ d. SameForCall program beside d.name) (calls t) c) in
    let ws = halves (Finds R program beside) (clauses_subtrees cs) (subtrees result) w.1 in
    from-same R (Finds R program beside) (eval program depth) (eval beside depth) (λ v w env' other' alike'. eval-looks program beside depth R v w env' other' alike')
    env other (read_alike t env other h) number stream cs result w.0.0 ws.0 ws.1 ts us (read_rows t env other ts us rows)

pub flwors_find : FlworsFindCalls
flwors_find = record {
  items = λ program beside depth number place at stream cs result env ts h.
      items-same program beside depth env number stream cs result ts (flwor-finds program beside place at cs result h);
  reads = flwor-reads;
  taken = λ program beside depth number place at stream cs result env clause ts h.
      let ws = halves (Finds Anything program beside) (clauses_subtrees cs) (subtrees result) (flwor-finds program beside place at cs result h) in
      taken-same program beside depth env clause number stream cs ts ws.0;
}
