-- What is walked of a spine, step by step.
use Rattle.std.proofs.Common.{◌≡◌, ◌+◌, ℕ, suc, Bool, true, false, ◌&&◌, cond, List, [], ◌∷◌, ◌++◌, None, Result, Ok, Err, refl, sym, ap, ap₂, ◌∙◌, subst, arith}
use Rattle.std.specs.List.{AllByRecursion, flat_map, sum_by}
use Rattle.std.proofs.lemmas.Bool.{false≢true}
use Rattle.std.proofs.lemmas.List.{append-nil, append_assoc}
use Rattle.std.proofs.lemmas.List.Concat.{flat_map-append}
use Rattle.std.proofs.lemmas.List.Sums.{sum_by-append}
use Rattle.item_tree.specs.Codes.{code_text}
use Rattle.item_tree.specs.Datum.{Datum, text}
use Rattle.item_tree.specs.declared.fault.Fault.{Fault}
use Rattle.outside.specs.Opens.{InputCounts}
use Rattle.outside.specs.World.{World}
use Rattle.seq_types.specs.declared.types.SeqType.{SeqType}
use Rattle.query_tree.specs.Bound.{BoundTree}
use Rattle.query_tree.specs.Plain as p
use Rattle.query_tree.specs.Plain.{Form, MaybeTree, PlainOperands, PlainCatches}
use Rattle.query_tree.specs.Subtrees.{operands_children, content_children, catches_children}
use Rattle.query_tree.specs.declared.bound.Slot.{Slot}
use Rattle.query_tree.specs.declared.bound.Target.{Target}
use Rattle.mode_planner.specs.Spine.{leaves, handlers, operands_leaves, operands_handlers, content_leaves, content_handlers, is_passed}
use Rattle.query_meaning.specs.Calls.{Program}
use Rattle.query_meaning.specs.Choices.{catches, handled, or_handled, try_value}
use Rattle.query_meaning.specs.Constructors.{content_value}
use Rattle.query_meaning.specs.Environment.{Environment, Inner, binding}
use Rattle.query_meaning.specs.Meaning.{meaning, eval}
use Rattle.query_meaning.specs.Operators.{comma_value, operands_value}
use Rattle.query_meaning.specs.Outcome.{Outcome, joined, each}
use Rattle.meaning_laws.specs.Agreement.{CallsTheSame}
use Rattle.meaning_laws.proofs.Finding.{finds_calls}
use Rattle.meaning_laws.proofs.Naming.{itself}
use Rattle.rumble_run.specs.Ends.{NoCountFalls}
use Rattle.rumble_run.specs.inside.LeafCounts.{Drove}
use Rattle.piece_run.specs.Kept.{LeafFails, KeptIs}
use Rattle.rumble_run.specs.inside.Caught.{CaughtFrom}
use Rattle.rumble_run.specs.inside.Walked.{Setting, LeafFinds, Finds, leaf_driver, files_on, drivers_on, none_handled, Walked}
use Rattle.rumble_run.specs.Opens.{opens_of, one_if_some, leaf_opens, leaf_drivers, is_nothing}
use Rattle.piece_run.specs.declared.leaf_fault.LeafFault.{LeafFault}
use Rattle.piece_run.specs.declared.leaf_fault.LeafFault.TheVariants.{Raised, ReadFault, NoMemory}
use Rattle.rumble_run.proofs.LeafCounting.{most_of, drove_then, drove_stops, drove_none, drove_unsure, drove_failed}

-- ---- lists

both_parts : {X : Type 0} (P : X → Type 0) (xs ys : List X) → AllByRecursion P (xs ++ ys) → AllByRecursion P xs × AllByRecursion P ys
both_parts P [] ys h = (tt, h)
both_parts P (x ∷ xs) ys h =
    let rest = both_parts P xs ys h.1 in
    ((h.0, rest.0), rest.1)

nothing_both : {X : Type 0} (xs ys : List X) → is_nothing (xs ++ ys) ≡ (is_nothing xs && is_nothing ys)
nothing_both [] ys = refl
nothing_both (x ∷ xs) ys = refl

-- ---- outcomes

pub joined_none : (o : Outcome) → joined o (Ok []) ≡ o
joined_none (Ok xs) = ap (λ ys. Ok ys) (append-nil xs)
joined_none (Err e) = refl

joined_assoc : (a b c : Outcome) → joined a (joined b c) ≡ joined (joined a b) c
joined_assoc (Ok xs) (Ok ys) (Ok zs) = ap (λ ws. Ok ws) (sym (append_assoc xs ys zs))
joined_assoc (Ok xs) (Ok ys) (Err e) = refl
joined_assoc (Ok xs) (Err e) c = refl
joined_assoc (Err e) b c = refl

joined_front : (o : Outcome) → o ≡ joined (Ok []) o
joined_front (Ok xs) = refl
joined_front (Err e) = refl

each_both : {A : Type 0} (f : A → Outcome) (xs ys : List A) → each f (xs ++ ys) ≡ joined (each f xs) (each f ys)
each_both f [] ys = joined_front (each f ys)
each_both f (x ∷ xs) ys = ap (joined (f x)) (each_both f xs ys) ∙ joined_assoc (f x) (each f xs) (each f ys)

-- a fault after some items, and a fault before some
fails_behind : (e : LeafFault) (items : List Datum) (o : Outcome) → LeafFails e o → LeafFails e (joined (Ok items) o)
fails_behind (Raised fault) items o h = ap (joined (Ok items)) h
fails_behind ReadFault items o h = tt
fails_behind NoMemory items o h = tt

fails_before : (e : LeafFault) (o rest : Outcome) → LeafFails e o → LeafFails e (joined o rest)
fails_before (Raised fault) o rest h = ap (λ x. joined x rest) h
fails_before ReadFault o rest h = tt
fails_before NoMemory o rest h = tt

-- ---- expressions one after another

module _ {K : Type 0} (stands : K → List Datum → Type 0) (s : Setting) (w : World) (depth : ℕ) where
  finds_both : (full : Program) (ts us : List BoundTree) → Finds s.own full w (ts ++ us) → Finds s.own full w ts × Finds s.own full w us
  finds_both full ts us h =
      let hs = both_parts (λ u. CallsTheSame u full s.own) (flat_map handlers ts) (flat_map handlers us) (subst (AllByRecursion (λ u. CallsTheSame u full s.own)) (flat_map-append handlers ts us) h.handlers) in
      let ls = both_parts (LeafFinds s.own full w) (flat_map leaves ts) (flat_map leaves us) (subst (AllByRecursion (LeafFinds s.own full w)) (flat_map-append leaves ts us) h.leaves) in
      (record { handlers = hs.0; leaves = ls.0 }, record { handlers = hs.1; leaves = ls.1 })

  files_both : (ts us : List BoundTree) → files_on w s.workers s.size (ts ++ us) ≡ files_on w s.workers s.size ts + files_on w s.workers s.size us
  files_both ts us = ap (sum_by (leaf_opens w s.workers s.size)) (flat_map-append leaves ts us) ∙ sum_by-append (leaf_opens w s.workers s.size) (flat_map leaves ts) (flat_map leaves us)

  drivers_both : (ts us : List BoundTree) → drivers_on (ts ++ us) ≡ drivers_on ts + drivers_on us
  drivers_both ts us = ap (sum_by leaf_drivers) (flat_map-append leaves ts us) ∙ sum_by-append leaf_drivers (flat_map leaves ts) (flat_map leaves us)

  handled_both : (ts us : List BoundTree) → none_handled (ts ++ us) ≡ (none_handled ts && none_handled us)
  handled_both ts us = ap is_nothing (flat_map-append handlers ts us) ∙ nothing_both (flat_map handlers ts) (flat_map handlers us)

  drove_both : (ts us : List BoundTree) (r : Result K LeafFault) (before after : InputCounts) → Drove r (none_handled ts && none_handled us) (files_on w s.workers s.size ts + files_on w s.workers s.size us) (drivers_on ts + drivers_on us) before after
      → Drove r (none_handled (ts ++ us)) (files_on w s.workers s.size (ts ++ us)) (drivers_on (ts ++ us)) before after
  drove_both ts us r before after h =
      subst (λ b. Drove r b (files_on w s.workers s.size (ts ++ us)) (drivers_on (ts ++ us)) before after) (sym (handled_both ts us))
      (subst (λ f. Drove r (none_handled ts && none_handled us) f (drivers_on (ts ++ us)) before after) (sym (files_both ts us))
      (subst (λ m. Drove r (none_handled ts && none_handled us) (files_on w s.workers s.size ts + files_on w s.workers s.size us) m before after) (sym (drivers_both ts us)) h))

  abbrev of_all : Program → List BoundTree → Outcome
  of_all full ts = each (λ t. eval full depth t s.env) ts

  all_both : (full : Program) (ts us : List BoundTree) → of_all full (ts ++ us) ≡ joined (of_all full ts) (of_all full us)
  all_both full ts us = each_both (λ t. eval full depth t s.env) ts us

  pub walked_none : (x : K) (counts : InputCounts) → stands x [] → Walked stands s w depth [] (Ok x) counts counts
  walked_none x counts h = record {
    value = λ full finds. ([], refl, h);
    drove = drove_none (Ok x) true counts;
  }

  pub walked_next : (ts us : List BoundTree) (x y z : K) (start now after : InputCounts) → ((a b : List Datum) → stands x a → stands y b → stands z (a ++ b)) → NoCountFalls now after
      → Walked stands s w depth ts (Ok x) start now → Walked stands s w depth us (Ok y) now after → Walked stands s w depth (ts ++ us) (Ok z) start after
  walked_next ts us x y z start now after follow falls h g = record {
    value = λ full finds.
        let both = finds_both full ts us finds in
        let a = h.value full both.0 in
        let b = g.value full both.1 in
        (a.0 ++ b.0, all_both full ts us ∙ ap₂ joined a.1 b.1, follow a.0 b.0 a.2 b.2);
    drove = drove_both ts us (Ok z) start after (drove_then x (Ok z) (none_handled ts) (none_handled us) (files_on w s.workers s.size ts) (files_on w s.workers s.size us) (drivers_on ts) (drivers_on us) start now after falls h.drove (again (none_handled us) g.drove));
  }
    where
      again : (b : Bool) → Drove (Ok y) b (files_on w s.workers s.size us) (drivers_on us) now after → Drove (Ok z) b (files_on w s.workers s.size us) (drivers_on us) now after
      again true d = d
      again false d = d

  pub walked_failed : (ts us : List BoundTree) (x : K) (e : LeafFault) (start now after : InputCounts) → NoCountFalls now after
      → Walked stands s w depth ts (Ok x) start now → Walked stands s w depth us (Err e) now after → Walked stands s w depth (ts ++ us) (Err e) start after
  walked_failed ts us x e start now after falls h g = record {
    value = λ full finds.
        let both = finds_both full ts us finds in
        let a = h.value full both.0 in
        subst (LeafFails e) (sym (all_both full ts us ∙ ap (λ o. joined o (of_all full us)) a.1)) (fails_behind e a.0 (of_all full us) (g.value full both.1));
    drove = drove_both ts us (Err e) start after (drove_then {L = K} x (Err e) (none_handled ts) (none_handled us) (files_on w s.workers s.size ts) (files_on w s.workers s.size us) (drivers_on ts) (drivers_on us) start now after falls h.drove g.drove);
  }

  -- memory ran out when what is kept was put together
  pub walked_short : (ts us : List BoundTree) (x y : K) (start now after : InputCounts) → NoCountFalls now after
      → Walked stands s w depth ts (Ok x) start now → Walked stands s w depth us (Ok y) now after → Walked stands s w depth (ts ++ us) (Err NoMemory) start after
  walked_short ts us x y start now after falls h g = record {
    value = λ full finds. tt;
    drove = drove_both ts us (Err NoMemory) start after
        (drove_failed K K (Ok y) NoMemory (none_handled ts && none_handled us) (none_handled ts && none_handled us) (files_on w s.workers s.size ts + files_on w s.workers s.size us) (drivers_on ts + drivers_on us) start after
        (drove_then x (Ok y) (none_handled ts) (none_handled us) (files_on w s.workers s.size ts) (files_on w s.workers s.size us) (drivers_on ts) (drivers_on us) start now after falls h.drove g.drove));
  }

  -- after a fault nothing more is walked
  pub walked_stops : (ts us : List BoundTree) (e : LeafFault) (before after : InputCounts) → Walked stands s w depth ts (Err e) before after → Walked stands s w depth (ts ++ us) (Err e) before after
  walked_stops ts us e before after h = record {
    value = λ full finds.
        let both = finds_both full ts us finds in
        subst (LeafFails e) (sym (all_both full ts us)) (fails_before e (of_all full ts) (of_all full us) (h.value full both.0));
    drove = drove_both ts us (Err e) before after (drove_stops K e (none_handled ts) (none_handled ts && none_handled us) (files_on w s.workers s.size ts) (files_on w s.workers s.size us) (drivers_on ts) (drivers_on us) before after h.drove);
  }

  -- ---- an expression that holds others on the spine

  pub walked_in : (t : BoundTree) (ts : List BoundTree) (r : Result K LeafFault) (before after : InputCounts) → flat_map handlers (t ∷ []) ≡ flat_map handlers ts → flat_map leaves (t ∷ []) ≡ flat_map leaves ts
      → ((full : Program) → eval full (suc depth) t s.env ≡ of_all full ts) → Walked stands s w depth ts r before after → Walked stands s w (suc depth) (t ∷ []) r before after
  walked_in t ts r before after hs ls same h = record {
    value = λ full finds.
        subst (KeptIs stands r) (sym (joined_none (eval full (suc depth) t s.env) ∙ same full))
        (h.value full (record { handlers = subst (AllByRecursion (λ u. CallsTheSame u full s.own)) hs finds.handlers; leaves = subst (AllByRecursion (LeafFinds s.own full w)) ls finds.leaves }));
    drove =
        subst (λ (us : List BoundTree). Drove r (is_nothing us) (files_on w s.workers s.size (t ∷ [])) (drivers_on (t ∷ [])) before after) (sym hs)
        (subst (λ (us : List BoundTree). Drove r (none_handled ts) (sum_by (leaf_opens w s.workers s.size) us) (sum_by leaf_drivers us) before after) (sym ls) h.drove);
  }

-- the parts of a comma and of parentheses
comma_parts : (os : PlainOperands Slot Target SeqType) → operands_leaves os ≡ flat_map leaves (operands_children os)
comma_parts p.no_operands = refl
comma_parts (p.more_operands (p.operand_node place value) os) = ap (λ ls. leaves value ++ ls) (comma_parts os)

comma_handlers : (os : PlainOperands Slot Target SeqType) → operands_handlers os ≡ flat_map handlers (operands_children os)
comma_handlers p.no_operands = refl
comma_handlers (p.more_operands (p.operand_node place value) os) = ap (λ ls. handlers value ++ ls) (comma_handlers os)

comma_meant : (inner : Inner) (os : PlainOperands Slot Target SeqType) (env : Environment) → operands_value inner os env ≡ each (λ t. inner t env) (operands_children os)
comma_meant inner p.no_operands env = refl
comma_meant inner (p.more_operands (p.operand_node place value) os) env = ap (joined (inner value env)) (comma_meant inner os env)

paren_leaves : (c : MaybeTree Slot Target SeqType) → content_leaves c ≡ flat_map leaves (content_children c)
paren_leaves p.no_tree = refl
paren_leaves (p.one_tree t) = sym (append-nil (leaves t))

paren_handlers : (c : MaybeTree Slot Target SeqType) → content_handlers c ≡ flat_map handlers (content_children c)
paren_handlers p.no_tree = refl
paren_handlers (p.one_tree t) = sym (append-nil (handlers t))

paren_meant : (inner : Inner) (c : MaybeTree Slot Target SeqType) (env : Environment) → content_value inner c env ≡ each (λ t. inner t env) (content_children c)
paren_meant inner p.no_tree env = refl
paren_meant inner (p.one_tree t) env = sym (joined_none (inner t env))

comma_evaluates : (full : Program) (depth place : ℕ) (first : BoundTree) (os : PlainOperands Slot Target SeqType) (env : Environment)
    → eval full (suc depth) (p.tree_node place (p.comma_form first os)) env ≡ each (λ t. eval full depth t env) (first ∷ operands_children os)
unfolding meaning comma_value
comma_evaluates full depth place first os env = ap (joined (eval full depth first env)) (comma_meant (eval full depth) os env)

paren_evaluates : (full : Program) (depth place : ℕ) (c : MaybeTree Slot Target SeqType) (env : Environment)
    → eval full (suc depth) (p.tree_node place (p.paren_form c)) env ≡ each (λ t. eval full depth t env) (content_children c)
unfolding meaning
paren_evaluates full depth place c env = paren_meant (eval full depth) c env

pub walked_comma : {K : Type 0} (stands : K → List Datum → Type 0) (s : Setting) (w : World) (depth place : ℕ) (first : BoundTree) (os : PlainOperands Slot Target SeqType) (r : Result K LeafFault) (before after : InputCounts)
    → Walked stands s w depth (first ∷ operands_children os) r before after → Walked stands s w (suc depth) (p.tree_node place (p.comma_form first os) ∷ []) r before after
walked_comma stands s w depth place first os r before after h =
    walked_in stands s w depth (p.tree_node place (p.comma_form first os)) (first ∷ operands_children os) r before after
    (append-nil (handlers first ++ operands_handlers os) ∙ ap (λ hs. handlers first ++ hs) (comma_handlers os))
    (append-nil (leaves first ++ operands_leaves os) ∙ ap (λ ls. leaves first ++ ls) (comma_parts os))
    (λ full. comma_evaluates full depth place first os s.env) h

pub walked_paren : {K : Type 0} (stands : K → List Datum → Type 0) (s : Setting) (w : World) (depth place : ℕ) (c : MaybeTree Slot Target SeqType) (r : Result K LeafFault) (before after : InputCounts)
    → Walked stands s w depth (content_children c) r before after → Walked stands s w (suc depth) (p.tree_node place (p.paren_form c) ∷ []) r before after
walked_paren stands s w depth place c r before after h =
    walked_in stands s w depth (p.tree_node place (p.paren_form c)) (content_children c) r before after
    (append-nil (content_handlers c) ∙ paren_handlers c) (append-nil (content_leaves c) ∙ paren_leaves c)
    (λ full. paren_evaluates full depth place c s.env) h

-- ---- `try`

handled_same : (own full : Program) (depth : ℕ) (cs : PlainCatches Slot Target SeqType) (env : Environment) (f : Fault) → AllByRecursion (λ u. CallsTheSame u full own) (catches_children cs)
    → handled (eval own depth) cs env f ≡ handled (eval full depth) cs env f
handled_same own full depth p.no_catches env f h = refl
handled_same own full depth (p.more_catches (p.catch_node error names body) cs) env f h =
    let bound = binding env error.name (text (code_text f.code) ∷ []) in
    ap₂ (λ (x y : Outcome). cond (catches names f.code) x y) (sym (finds_calls full own depth body bound bound h.0 (itself body bound))) (handled_same own full depth cs env f h.1)

or_handled_same : (own full : Program) (depth : ℕ) (cs : PlainCatches Slot Target SeqType) (env : Environment) (o : Outcome) → AllByRecursion (λ u. CallsTheSame u full own) (catches_children cs)
    → or_handled (eval own depth) cs env o ≡ or_handled (eval full depth) cs env o
or_handled_same own full depth cs env (Ok xs) h = refl
or_handled_same own full depth cs env (Err f) h = handled_same own full depth cs env f h

try_evaluates : (full : Program) (depth place : ℕ) (body : BoundTree) (cs : PlainCatches Slot Target SeqType) (env : Environment)
    → eval full (suc depth) (p.tree_node place (p.try_form body cs)) env ≡ or_handled (eval full depth) cs env (eval full depth body env)
unfolding meaning try_value
try_evaluates full depth place body cs env = refl

-- where no handler is there, a fault is caught by none
no_handler : {K : Type 0} (stands : K → List Datum → Type 0) (inner : Inner) (cs : PlainCatches Slot Target SeqType) (env : Environment) (k : K) (f : Fault) → is_nothing (catches_children cs) ≡ true
    → KeptIs stands (Ok k) (or_handled inner cs env (Err f)) → ⊥
no_handler stands inner p.no_catches env k f e h = fault_apart h.1
  where
    is_err : Outcome → Type 0
    is_err (Ok xs) = ⊥
    is_err (Err e) = Unit {0}

    fault_apart : {f : Fault} {xs : List Datum} → ◌≡◌ {A = Outcome} (Err f) (Ok xs) → ⊥
    fault_apart e = subst is_err e tt
no_handler stands inner (p.more_catches (p.catch_node error names body) cs) env k f e h = false≢true e

second_true : (a b : Bool) → (a && b) ≡ true → b ≡ true
second_true true b e = e
second_true false b e = absurd (false≢true e)

first_true : (a b : Bool) → (a && b) ≡ true → a ≡ true
first_true true b e = refl
first_true false b e = absurd (false≢true e)

less_sure : {K : Type 0} (k : K) (sure less : Bool) (f m : ℕ) (before after : InputCounts) → (less ≡ true → sure ≡ true) → Drove (Ok k) sure f m before after → Drove (Ok k) less f m before after
less_sure k sure true f m before after e h = subst (λ b. Drove (Ok k) b f m before after) (e refl) h
less_sure k sure false f m before after e h = most_of (Ok k) sure f m before after h

module _ {K : Type 0} (stands : K → List Datum → Type 0) (inner : Inner) (cs : PlainCatches Slot Target SeqType) (env : Environment) where
  abbrev Catching : Result K LeafFault → Result K LeafFault → Type 0
  Catching r q = (meant : Outcome) → KeptIs stands r meant → KeptIs stands q (or_handled inner cs env meant)

  raised_drove : (f : Fault) (q : Result K LeafFault) (sure all : Bool) (n m : ℕ) (before after : InputCounts) → all ≡ (sure && is_nothing (catches_children cs)) → Catching (Err (Raised f)) q
      → Drove {K = K} (Err (Raised f)) sure n m before after → Drove q all n m before after
  raised_drove f (Err e) sure all n m before after a c h = drove_failed K K (Err (Raised f)) e sure all n m before after h
  raised_drove f (Ok k) sure false n m before after a c h = drove_unsure {K = K} (Err (Raised f)) (Ok k) sure n m before after h
  raised_drove f (Ok k) sure true n m before after a c h =
      absurd (no_handler stands inner cs env k f (second_true sure (is_nothing (catches_children cs)) (sym a)) (c (Err f) refl))

  caught_drove : (r q : Result K LeafFault) (sure all : Bool) (n m : ℕ) (before after : InputCounts) → all ≡ (sure && is_nothing (catches_children cs)) → CaughtFrom r q → Catching r q
      → Drove r sure n m before after → Drove q all n m before after
  caught_drove (Ok k) q sure all n m before after a from c h =
      subst (λ (x : Result K LeafFault). Drove x all n m before after) (sym from) (less_sure k sure all n m before after (λ e. first_true sure (is_nothing (catches_children cs)) (sym a ∙ e)) h)
  caught_drove (Err (Raised f)) q sure all n m before after a from c h = raised_drove f q sure all n m before after a c h
  caught_drove (Err ReadFault) q sure all n m before after a from c h =
      subst (λ (x : Result K LeafFault). Drove x all n m before after) (sym from) (drove_failed K K (Err ReadFault) ReadFault sure all n m before after h)
  caught_drove (Err NoMemory) q sure all n m before after a from c h =
      subst (λ (x : Result K LeafFault). Drove x all n m before after) (sym from) (drove_failed K K (Err NoMemory) NoMemory sure all n m before after h)

pub walked_try : {K : Type 0} (stands : K → List Datum → Type 0) (s : Setting) (w : World) (depth place : ℕ) (body : BoundTree) (cs : PlainCatches Slot Target SeqType) (r q : Result K LeafFault) (before after : InputCounts)
    → CaughtFrom r q → ((meant : Outcome) → KeptIs stands r meant → KeptIs stands q (or_handled (eval s.own depth) cs s.env meant))
    → Walked stands s w depth (body ∷ []) r before after → Walked stands s w (suc depth) (p.tree_node place (p.try_form body cs) ∷ []) q before after
walked_try {K} stands s w depth place body cs r q before after from c h = record {
  value = λ full finds.
      let hs = both_parts (λ u. CallsTheSame u full s.own) (handlers body) (catches_children cs) (subst (AllByRecursion (λ u. CallsTheSame u full s.own)) (append-nil (handlers body ++ catches_children cs)) finds.handlers) in
      let inside : Finds s.own full w (body ∷ []) = record { handlers = subst (AllByRecursion (λ u. CallsTheSame u full s.own)) (sym (append-nil (handlers body))) hs.0; leaves = finds.leaves } in
      let tried = subst (KeptIs stands r) (joined_none (eval full depth body s.env)) (h.value full inside) in
      let same = or_handled_same s.own full depth cs s.env (eval full depth body s.env) hs.1 in
      subst (KeptIs stands q) (same ∙ sym (try_evaluates full depth place body cs s.env) ∙ sym (joined_none (eval full (suc depth) (p.tree_node place (p.try_form body cs)) s.env)))
      (c (eval full depth body s.env) tried);
  drove = caught_drove stands (eval s.own depth) cs s.env r q (none_handled (body ∷ [])) (none_handled (p.tree_node place (p.try_form body cs) ∷ [])) (files_on w s.workers s.size (body ∷ [])) (drivers_on (body ∷ [])) before after
      (ap is_nothing (append-nil (handlers body ++ catches_children cs)) ∙ nothing_both (handlers body) (catches_children cs) ∙ ap (λ (hs : List BoundTree). is_nothing hs && is_nothing (catches_children cs)) (sym (append-nil (handlers body))))
      from c h.drove;
}

-- ---- leaves

pub alone : (t : BoundTree) → is_passed t ≡ false → (leaves t ≡ t ∷ []) × (handlers t ≡ [])
alone (p.tree_node place (p.comma_form first rest)) h = absurd (false≢true (sym h))
alone (p.tree_node place (p.paren_form content)) h = absurd (false≢true (sym h))
alone (p.tree_node place (p.try_form body cs)) h = absurd (false≢true (sym h))
alone (p.tree_node place _) h = (refl, refl)

-- a leaf on the spine, by what it is of itself
pub walked_leaf : {K : Type 0} (stands : K → List Datum → Type 0) (s : Setting) (w : World) (depth : ℕ) (t : BoundTree) (r : Result K LeafFault) (before after : InputCounts) → is_passed t ≡ false
    → ((full : Program) → LeafFinds s.own full w t → KeptIs stands r (eval full depth t s.env)) → Drove r true (leaf_opens w s.workers s.size t) (leaf_drivers t) before after
    → Walked stands s w depth (t ∷ []) r before after
walked_leaf stands s w depth t r before after l v d =
    let is = alone t l in
    let ls : flat_map leaves (t ∷ []) ≡ t ∷ [] = append-nil (leaves t) ∙ is.0 in
    let hs : flat_map handlers (t ∷ []) ≡ [] = append-nil (handlers t) ∙ is.1 in
    record {
      value = λ full finds.
          let found = subst (AllByRecursion (LeafFinds s.own full w)) ls finds.leaves in
          subst (KeptIs stands r) (sym (joined_none (eval full depth t s.env))) (v full found.0);
      drove =
          subst (λ (us : List BoundTree). Drove r (is_nothing us) (files_on w s.workers s.size (t ∷ [])) (drivers_on (t ∷ [])) before after) (sym hs)
          (subst (λ (us : List BoundTree). Drove r true (sum_by (leaf_opens w s.workers s.size) us) (sum_by leaf_drivers us) before after) (sym ls)
          (subst (λ n. Drove r true n (sum_by leaf_drivers (t ∷ [])) before after) (omega arith) (subst (λ n. Drove r true (leaf_opens w s.workers s.size t) n before after) (omega arith) d)));
    }

pub walked_whole : {K : Type 0} (stands : K → List Datum → Type 0) (s : Setting) (w : World) (depth : ℕ) (t : BoundTree) (r : Result K LeafFault) (counts : InputCounts) → is_passed t ≡ false → leaf_driver t ≡ None
    → KeptIs stands r (eval s.own depth t s.env) → Walked stands s w depth (t ∷ []) r counts counts
walked_whole stands s w depth t r counts l none h =
    walked_leaf stands s w depth t r counts counts l
    (λ full finds. subst (KeptIs stands r) (sym (finds_calls full s.own depth t s.env s.env (finds.whole none) (itself t s.env))) h)
    (subst (λ o. Drove r true (opens_of w s.workers s.size o) (one_if_some o) counts counts) (sym none) (drove_none r true counts))
