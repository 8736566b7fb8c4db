-- Lists that productions read, and how they are joined.
use Rattle.std.proofs.Common.{◌≡◌, ℕ, zero, suc, Bool, true, false, List, [], ◌∷◌, ◌++◌, length, map, Result, Ok, Err, refl, sym, ap, subst, ◌∙◌, append_assoc, append-nil, arith}
use Rattle.std.specs.declared.alloc.Global.{Global}
use Rattle.std.specs.Prelude.{Vec, Some}
use Rattle.grammar_parts.specs.declared.cursor.Stop.{Stop}
use Rattle.grammar_parts.specs.declared.cursor.Stop.TheVariants as stop
use Rattle.grammar_parts.specs.Tokens.{Class, sees}
use Rattle.grammar_parts.specs.Readers.{Reader, Outcome, and_then, take_where, read_times, read_many, read_mapped, read_seq}
use Rattle.grammar_parts.specs.Reads.{ReadsAs}
use Rattle.grammar_parts.specs.Turns.{Call, Listed, Performs}
use Rattle.grammar_parts.proofs.TurnLemmas.{list_reads_plainly, read_behind}
use Rattle.query_grammar.specs.Nodes as n
use Rattle.query_tree.specs.NamedViews.{named_variable, named_function}
use Rattle.query_parser.specs.declared.modules.Declared.{Declared}
use Rattle.query_parser.specs.declared.modules.Declared.TheVariants as declared
use Rattle.query_parser.specs.Views as view

pub nothing_left : {X : Type 0} (l : List X) → length l ≡ 0 → l ≡ []
nothing_left [] h = refl
nothing_left (x ∷ xs) h = absurd (omega arith)

-- ---- lists that are joined

pub joined_more : {X : Type 0} (found new all : List X) (v : Vec X Global) (before rest : List (Vec X Global)) → new ≡ found ++ v.items → before ≡ v ∷ rest → found ++ n.concat (map (λ w. w.items) before) ≡ all → new ++ n.concat (map (λ w. w.items) rest) ≡ all
joined_more found new all v before rest e b h = rw e (append_assoc found v.items (n.concat (map (λ w. w.items) rest)) ∙ subst (λ (l : List (Vec _ Global)). found ++ n.concat (map (λ w. w.items) l) ≡ all) b h)

pub joined_all : {X : Type 0} (found all : List X) (left : List (Vec X Global)) → left ≡ [] → found ++ n.concat (map (λ w. w.items) left) ≡ all → found ≡ all
joined_all found all left e h = sym (append-nil found) ∙ subst (λ (l : List (Vec _ Global)). found ++ n.concat (map (λ w. w.items) l) ≡ all) e h

-- ---- declarations, by their kinds

module _ {V F : Type 0} where
  variables-cons : (d : Declared V F) (ds : List (Declared V F)) → view.variables_of (d ∷ ds) ≡ view.variables_of (d ∷ []) ++ view.variables_of ds
  variables-cons (declared.Variable x) ds = refl
  variables-cons (declared.Function x) ds = refl

  functions-cons : (d : Declared V F) (ds : List (Declared V F)) → view.functions_of (d ∷ ds) ≡ view.functions_of (d ∷ []) ++ view.functions_of ds
  functions-cons (declared.Variable x) ds = refl
  functions-cons (declared.Function x) ds = refl

  pub variables_more : (old new all : List V) (d : Declared V F) (before rest : List (Declared V F)) → new ≡ old ++ view.variables_of (d ∷ []) → before ≡ d ∷ rest
      → old ++ view.variables_of before ≡ all → new ++ view.variables_of rest ≡ all
  variables_more old new all d before rest e b h =
      rw e (append_assoc old (view.variables_of (d ∷ [])) (view.variables_of rest) ∙ ap (λ l. old ++ l) (sym (variables-cons d rest)) ∙ subst (λ (l : List (Declared V F)). old ++ view.variables_of l ≡ all) b h)

  pub functions_more : (old new all : List F) (d : Declared V F) (before rest : List (Declared V F)) → new ≡ old ++ view.functions_of (d ∷ []) → before ≡ d ∷ rest
      → old ++ view.functions_of before ≡ all → new ++ view.functions_of rest ≡ all
  functions_more old new all d before rest e b h =
      rw e (append_assoc old (view.functions_of (d ∷ [])) (view.functions_of rest) ∙ ap (λ l. old ++ l) (sym (functions-cons d rest)) ∙ subst (λ (l : List (Declared V F)). old ++ view.functions_of l ≡ all) b h)

  pub variables_all : (found all : List V) (left : List (Declared V F)) → left ≡ [] → found ++ view.variables_of left ≡ all → found ≡ all
  variables_all found all left e h = sym (append-nil found) ∙ subst (λ (l : List (Declared V F)). found ++ view.variables_of l ≡ all) e h

  pub functions_all : (found all : List F) (left : List (Declared V F)) → left ≡ [] → found ++ view.functions_of left ≡ all → found ≡ all
  functions_all found all left e h = sym (append-nil found) ∙ subst (λ (l : List (Declared V F)). found ++ view.functions_of l ≡ all) e h

pub variables_seen : (ds : List view.Declaration) → map (named_variable) (view.variables_of ds) ≡ n.variables_in (map view.declaration ds)
variables_seen [] = refl
variables_seen (declared.Variable x ∷ ds) = ap (λ l. named_variable x ∷ l) (variables_seen ds)
variables_seen (declared.Function x ∷ ds) = variables_seen ds

pub functions_seen : (ds : List view.Declaration) → map (named_function) (view.functions_of ds) ≡ n.functions_in (map view.declaration ds)
functions_seen [] = refl
functions_seen (declared.Variable x ∷ ds) = functions_seen ds
functions_seen (declared.Function x ∷ ds) = ap (λ l. named_function x ∷ l) (functions_seen ds)

-- ---- items with another value

abbrev paired : {T A : Type 0} → T → Outcome T A → Outcome T (T × A)
paired t o = and_then o (λ y r. Ok ((t, y), r))

abbrev second : {T A : Type 0} → Outcome T (T × A) → Outcome T A
second o = and_then o (λ z r. Ok (z.1, r))

abbrev consed : {T A : Type 0} → Outcome T (A × List A) → Outcome T (List A)
consed o = and_then o (λ z r. Ok (z.0 ∷ z.1, r))

abbrev listed : {T A : Type 0} → Class T → Reader T A → Reader T (List A)
listed c p = read_mapped (λ z. z.0 ∷ z.1) (read_seq p (read_many c (read_behind c p)))

module _ {T A B : Type 0} (f : A → B) where
  -- an outcome with another value
  abbrev with_f : Outcome T A → Outcome T B
  with_f o = and_then o (λ x r. Ok (f x, r))

  abbrev with_all : Outcome T (List A) → Outcome T (List B)
  with_all o = and_then o (λ xs r. Ok (map f xs, r))

  more_mapped : (x : A) (o : Outcome T (List A)) (m : Outcome T (List B)) → m ≡ with_all o → and_then m (λ xs r. Ok (f x ∷ xs, r)) ≡ with_all (and_then o (λ xs r. Ok (x ∷ xs, r)))
  more_mapped x (Ok z) m e = rw e refl
  more_mapped x (Err r) m e = rw e refl

  turn_mapped : (o : Outcome T A) (rest : Reader T (List A)) (others : Reader T (List B)) → ((r : List T) → others r ≡ with_all (rest r))
      → and_then (with_f o) (λ x r. and_then (others r) (λ xs r2. Ok (x ∷ xs, r2))) ≡ with_all (and_then o (λ x r. and_then (rest r) (λ xs r2. Ok (x ∷ xs, r2))))
  turn_mapped (Ok z) rest others h = more_mapped z.0 (rest z.1) (others z.1) (h z.1)
  turn_mapped (Err r) rest others h = refl

  module _ (c : Class T) (p : Reader T A) (q : Reader T B) (same : (s : List T) → q s ≡ with_f (p s)) where
    turns_mapped : (b : Bool) (k : ℕ) (s : List T) → ((r : List T) → read_times k c q r ≡ with_all (read_times k c p r)) → sees c s ≡ b → read_times (suc k) c q s ≡ with_all (read_times (suc k) c p s)
    unfolding read_times
    turns_mapped true k s h e = rw (e, same s) (turn_mapped (p s) (read_times k c p) (read_times k c q) h)
    turns_mapped false k s h e = rw e refl

    times_mapped : (k : ℕ) (s : List T) → read_times k c q s ≡ with_all (read_times k c p s)
    unfolding read_times
    times_mapped zero s = refl
    times_mapped (suc k) s = turns_mapped (sees c s) k s (times_mapped k) refl

    many_mapped : (s : List T) → read_many c q s ≡ with_all (read_many c p s)
    unfolding read_many
    many_mapped s = times_mapped (length s) s

  second_mapped : (t : T) (o : Outcome T A) → second (paired t (with_f o)) ≡ with_f (second (paired t o))
  second_mapped t (Ok z) = refl
  second_mapped t (Err r) = refl

  behind_taken : (o : Outcome T T) (p : Reader T A) → second (and_then o (λ t r. paired t (with_f (p r)))) ≡ with_f (second (and_then o (λ t r. paired t (p r))))
  behind_taken (Ok z) p = second_mapped z.0 (p z.1)
  behind_taken (Err r) p = refl

  behind_mapped : (c : Class T) (p : Reader T A) (s : List T) → read_behind c (read_mapped f p) s ≡ with_f (read_behind c p s)
  behind_mapped c p s = behind_taken (take_where c s) p

  pair_mapped : (x : A) (o : Outcome T (List A)) (m : Outcome T (List B)) → m ≡ with_all o
      → consed (and_then {B = B × List B} m (λ xs r. Ok ((f x, xs), r))) ≡ with_all (consed (and_then {B = A × List A} o (λ xs r. Ok ((x, xs), r))))
  pair_mapped x (Ok z) m e = rw e refl
  pair_mapped x (Err r) m e = rw e refl

  first_mapped : (o : Outcome T A) (rest : Reader T (List A)) (others : Reader T (List B)) → ((r : List T) → others r ≡ with_all (rest r))
      → consed (and_then {B = B × List B} (with_f o) (λ x r. and_then (others r) (λ xs r2. Ok ((x, xs), r2)))) ≡ with_all (consed (and_then {B = A × List A} o (λ x r. and_then (rest r) (λ xs r2. Ok ((x, xs), r2)))))
  first_mapped (Ok z) rest others h = pair_mapped z.0 (rest z.1) (others z.1) (h z.1)
  first_mapped (Err r) rest others h = refl

  list_mapped : (c : Class T) (p : Reader T A) (s : List T) → listed c (read_mapped f p) s ≡ with_all (listed c p s)
  list_mapped c p s = first_mapped (p s) (read_many c (read_behind c p)) (read_many c (read_behind c (read_mapped f p))) (many_mapped c (read_behind c p) (read_behind c (read_mapped f p)) (behind_mapped c p))

  there : (o : Outcome T (List A)) (answer : Result (Vec B Global) Stop) (r : List T) → ReadsAs (λ v. v.items) (with_all o) answer r → ReadsAs (λ v. Some v.items) (and_then o (λ xs r2. Ok (Some (map f xs), r2))) answer r
  there (Ok z) (Ok v) r h = ap (λ (w : Outcome T (List B)). and_then w (λ xs r2. Ok (Some xs, r2))) h
  there (Ok z) (Err stop.Refused) r h = ap (λ (w : Outcome T (List B)). and_then w (λ xs r2. Ok (Some xs, r2))) h
  there (Ok z) (Err stop.NoMemory) r h = tt
  there (Err q) (Ok v) r h = ap (λ (w : Outcome T (List B)). and_then w (λ xs r2. Ok (Some xs, r2))) h
  there (Err q) (Err stop.Refused) r h = ap (λ (w : Outcome T (List B)). and_then w (λ xs r2. Ok (Some xs, r2))) h
  there (Err q) (Err stop.NoMemory) r h = tt

-- a list of items that each are read with another value
pub list_reads_mapped : {T A B : Type 0} {post : Call T B} {s : List T} {answer : Result (Vec B Global) Stop} {r : List T} (c : Class T) (f : A → B) (p : Reader T A) → Listed true c post s answer r → Performs (λ x. x) post (read_mapped f p)
    → ReadsAs (λ v. Some v.items) (read_mapped (λ xs. Some (map f xs)) (listed c p) s) answer r
list_reads_mapped {s = s} {answer = answer} {r = r} c f p t h =
    let plain : ReadsAs (λ v. v.items) (listed c (read_mapped f p) s) answer r = list_reads_plainly c (read_mapped f p) t h in
    there f (listed c p s) answer r (rw (list_mapped f c p s) at plain)
