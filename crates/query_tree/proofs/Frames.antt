-- A scope over a frame in which every slot may be read, in place of the local bindings that are seen.
use Rattle.std.proofs.Common.{◌≡◌, ℕ, ◌==◌, true, false, ◌||◌, Option, Some, None, List, [], ◌∷◌, ◌++◌, refl, ap, sym, subst, ◌∙◌}
use Rattle.std.specs.Prelude.{nat_lt}
use Rattle.std.specs.List.{list_all, list_any}
use Rattle.std.specs.Cmp.Derive.{both_true}
use Rattle.std.proofs.lemmas.Bool.{and_parts, eqb-true, false≢true}
use Rattle.std.proofs.lemmas.List.Folds.{list_all-append}
use Rattle.seq_types.specs.declared.types.SeqType.{SeqType}
use Rattle.query_tree.specs.declared.bound.Slot.{Slot}
use Rattle.query_tree.specs.declared.bound.Slot.TheVariants.{Local, Global}
use Rattle.query_tree.specs.declared.bound.Target.{Target}
use Rattle.query_tree.specs.declared.bound.Target.TheVariants.{Built, Own, Lines}
use Rattle.query_tree.specs.declared.module.Param.{Param}
use Rattle.query_tree.specs.declared.names.Placed.{Placed}
use Rattle.query_tree.specs.Plain as p
use Rattle.query_tree.specs.Plain.{PlainBind, PlainBinds, PlainClause, PlainClauses, PlainGroupVar, PlainGroupVars}
use Rattle.query_tree.specs.Scopes.{Locals, these, below, Scope, has_local, may_read, may_bind, may_bind_any, and_local, with_slot, with_any, may_call}
use Rattle.query_tree.specs.Bound.{after_key, after_keys, after_clause, after_clauses, after_bind, after_binds}
use Rattle.query_tree.specs.Binders.{any_name, params_binders, binders, bind_binders, binds_binders, clause_binders, clauses_binders, group_var_binders, group_vars_binders}
use Rattle.query_tree.specs.Bindings.{numbers_of}
use Rattle.query_tree.specs.Compiled.{after_params, params_bound}
use Rattle.query_tree.proofs.SlotNumbers.{numbers-append}

-- each number is that of a slot of the frame
pub record Small (width : ℕ) (ns : List ℕ) : Type 0 where
  pub all : list_all (λ n. nat_lt n width) ns ≡ true

-- and so is the number of each binding
pub record Fits (width : ℕ) (vs : List Slot) : Type 0 where
  pub all : list_all (λ n. nat_lt n width) (numbers_of vs) ≡ true

module _ (width : ℕ) where
  pub small_none : Small width []
  small_none = record { all = refl }

  pub fit_parts : (vs ws : List Slot) → Fits width (vs ++ ws) → Fits width vs × Fits width ws
  fit_parts vs ws s =
      let both = and_parts _ _ (sym (list_all-append (λ n. nat_lt n width) (numbers_of vs) (numbers_of ws)) ∙ ap (list_all (λ n. nat_lt n width)) (sym (numbers-append vs ws)) ∙ s.all) in
      (record { all = both.0 }, record { all = both.1 })

  own_fits : (n : ℕ) → Fits width (Local n ∷ []) → nat_lt n width ≡ true
  own_fits n a = (and_parts (nat_lt n width) true a.all).0

  small_more : (n : ℕ) (ns : List ℕ) → Fits width (Local n ∷ []) → Small width ns → Small width (n ∷ ns)
  small_more n ns a s = record { all = both_true (own_fits n a) s.all }

  small_member : (ns : List ℕ) (n : ℕ) → Small width ns → list_any (λ m. m == n) ns ≡ true → nat_lt n width ≡ true
  small_member [] n s h = absurd (false≢true h)
  small_member (m ∷ ns) n s h =
      let parts = and_parts (nat_lt m width) (list_all (λ k. nat_lt k width) ns) s.all in
      elim (m == n) as (λ b. (m == n) ≡ b → (b || list_any (λ k. k == n) ns) ≡ true → nat_lt n width ≡ true) [
        | true ↦ λ e _. subst (λ k. nat_lt k width ≡ true) (eqb-true m n e) parts.0
        | false ↦ λ e rest. small_member ns n (record { all = parts.1 }) rest
      ] refl h

  -- the local binders that are seen are known, and lie in the frame
  abbrev pub InFrame : Locals → Type 0
  InFrame (these ns) = Small width ns
  InFrame (below n) = ⊥

  abbrev pub framed : Scope → Scope
  framed s = record s { locals = below width }

  local_read : (seen : Locals) (n : ℕ) → InFrame seen → has_local seen n ≡ true → nat_lt n width ≡ true
  local_read (these ns) n f h = small_member ns n f h
  local_read (below m) n f h = absurd f

  pub read-framed : (s : Scope) (v : Slot) → InFrame s.locals → may_read s v ≡ true → may_read (framed s) v ≡ true
  read-framed s (Local n) f h = local_read s.locals n f h
  read-framed s (Global n) f h = h

  pub slot-framed : (s : Scope) (v : Slot) → may_bind s v ≡ true → Fits width (v ∷ []) → may_bind (framed s) v ≡ true
  slot-framed s (Local n) h a = own_fits n a
  slot-framed s (Global n) h a = h

  pub slot_any-framed : (s : Scope) (v : Option (Placed Slot)) → may_bind_any s v ≡ true → Fits width (any_name v) → may_bind_any (framed s) v ≡ true
  slot_any-framed s None h a = refl
  slot_any-framed s (Some v) h a = slot-framed s v.name h a

  pub call-framed : (s : Scope) (f : Target) (count : ℕ) → may_call s f count ≡ true → may_call (framed s) f count ≡ true
  call-framed s (Built id) count h = h
  call-framed s (Own n) count h = h
  call-framed s (Lines name) count h = h

  seen_more : (seen : Locals) (v : Slot) → InFrame seen → Fits width (v ∷ []) → InFrame (and_local seen v)
  seen_more (these ns) (Local n) f a = small_more n ns a f
  seen_more (these ns) (Global n) f a = f
  seen_more (below m) v f a = absurd f

  -- what a scope sees further on lies in the frame too
  pub with_slot-fits : (s : Scope) (v : Slot) → InFrame s.locals → Fits width (v ∷ []) → InFrame (with_slot s v).locals
  with_slot-fits s v f a = seen_more s.locals v f a

  pub with_any-fits : (s : Scope) (v : Option (Placed Slot)) → InFrame s.locals → Fits width (any_name v) → InFrame (with_any s v).locals
  with_any-fits s None f a = f
  with_any-fits s (Some v) f a = with_slot-fits s v.name f a

  pub after_key-fits : (s : Scope) (k : PlainGroupVar Slot Target SeqType) → InFrame s.locals → Fits width (group_var_binders k) → InFrame (after_key s k).locals
  after_key-fits s (p.stream_group_var variable) f a = with_slot-fits s variable.name f a
  after_key-fits s (p.computed_group_var variable value) f a = with_slot-fits s variable.name f (fit_parts (variable.name ∷ []) (binders value) a).0

  after_keys-fits : (s : Scope) (ks : PlainGroupVars Slot Target SeqType) → InFrame s.locals → Fits width (group_vars_binders ks) → InFrame (after_keys s ks).locals
  after_keys-fits s p.no_group_vars f a = f
  after_keys-fits s (p.more_group_vars k ks) f a =
      let parts = fit_parts (group_var_binders k) (group_vars_binders ks) a in
      after_keys-fits (after_key s k) ks (after_key-fits s k f parts.0) parts.1

  pub after_clause-fits : (s : Scope) (c : PlainClause Slot Target SeqType) → InFrame s.locals → Fits width (clause_binders c) → InFrame (after_clause s c).locals
  after_clause-fits s (p.for_clause variable t allowing_empty position source) f a =
      let own = fit_parts (variable.name ∷ []) (any_name position) (fit_parts (variable.name ∷ [] ++ any_name position) (binders source) a).0 in
      with_any-fits (with_slot s variable.name) position (with_slot-fits s variable.name f own.0) own.1
  after_clause-fits s (p.let_clause variable t value) f a = with_slot-fits s variable.name f (fit_parts (variable.name ∷ []) (binders value) a).0
  after_clause-fits s (p.where_clause place test) f a = f
  after_clause-fits s (p.group_clause place keys) f a = after_keys-fits s keys f a
  after_clause-fits s (p.order_clause place stable keys) f a = f
  after_clause-fits s (p.count_clause place variable) f a = with_slot-fits s variable.name f a

  pub after_clauses-fits : (s : Scope) (cs : PlainClauses Slot Target SeqType) → InFrame s.locals → Fits width (clauses_binders cs) → InFrame (after_clauses s cs).locals
  after_clauses-fits s p.no_clauses f a = f
  after_clauses-fits s (p.more_clauses c cs) f a =
      let parts = fit_parts (clause_binders c) (clauses_binders cs) a in
      after_clauses-fits (after_clause s c) cs (after_clause-fits s c f parts.0) parts.1

  pub after_bind-fits : (s : Scope) (b : PlainBind Slot Target SeqType) → InFrame s.locals → Fits width (bind_binders b) → InFrame (after_bind s b).locals
  after_bind-fits s (p.bind_node variable t source) f a = with_slot-fits s variable.name f (fit_parts (variable.name ∷ []) (binders source) a).0

  pub after_binds-fits : (s : Scope) (bs : PlainBinds Slot Target SeqType) → InFrame s.locals → Fits width (binds_binders bs) → InFrame (after_binds s bs).locals
  after_binds-fits s p.no_binds f a = f
  after_binds-fits s (p.more_binds b bs) f a =
      let parts = fit_parts (bind_binders b) (binds_binders bs) a in
      after_binds-fits (after_bind s b) bs (after_bind-fits s b f parts.0) parts.1

  pub after_params-fits : (s : Scope) (qs : List (Param Slot SeqType)) → InFrame s.locals → Fits width (params_binders qs) → InFrame (after_params s qs).locals
  after_params-fits s [] f a = f
  after_params-fits s (q ∷ qs) f a =
      let parts = fit_parts (q.variable.name ∷ []) (params_binders qs) a in
      after_params-fits (with_slot s q.variable.name) qs (with_slot-fits s q.variable.name f parts.0) parts.1

  -- over a frame nothing more is seen further on
  pub with_any-framed : (s : Scope) (v : Option (Placed Slot)) → with_any (framed s) v ≡ framed (with_any s v)
  with_any-framed s None = refl
  with_any-framed s (Some v) = refl

  pub after_key-framed : (s : Scope) (k : PlainGroupVar Slot Target SeqType) → after_key (framed s) k ≡ framed (after_key s k)
  after_key-framed s (p.stream_group_var variable) = refl
  after_key-framed s (p.computed_group_var variable value) = refl

  after_keys-framed : (s : Scope) (ks : PlainGroupVars Slot Target SeqType) → after_keys (framed s) ks ≡ framed (after_keys s ks)
  after_keys-framed s p.no_group_vars = refl
  after_keys-framed s (p.more_group_vars k ks) = ap (λ x. after_keys x ks) (after_key-framed s k) ∙ after_keys-framed (after_key s k) ks

  pub after_clause-framed : (s : Scope) (c : PlainClause Slot Target SeqType) → after_clause (framed s) c ≡ framed (after_clause s c)
  after_clause-framed s (p.for_clause variable t allowing_empty position source) = with_any-framed (with_slot s variable.name) position
  after_clause-framed s (p.let_clause variable t value) = refl
  after_clause-framed s (p.where_clause place test) = refl
  after_clause-framed s (p.group_clause place keys) = after_keys-framed s keys
  after_clause-framed s (p.order_clause place stable keys) = refl
  after_clause-framed s (p.count_clause place variable) = refl

  pub after_clauses-framed : (s : Scope) (cs : PlainClauses Slot Target SeqType) → after_clauses (framed s) cs ≡ framed (after_clauses s cs)
  after_clauses-framed s p.no_clauses = refl
  after_clauses-framed s (p.more_clauses c cs) = ap (λ x. after_clauses x cs) (after_clause-framed s c) ∙ after_clauses-framed (after_clause s c) cs

  pub after_bind-framed : (s : Scope) (b : PlainBind Slot Target SeqType) → after_bind (framed s) b ≡ framed (after_bind s b)
  after_bind-framed s (p.bind_node variable t source) = refl

  pub after_binds-framed : (s : Scope) (bs : PlainBinds Slot Target SeqType) → after_binds (framed s) bs ≡ framed (after_binds s bs)
  after_binds-framed s p.no_binds = refl
  after_binds-framed s (p.more_binds b bs) = ap (λ x. after_binds x bs) (after_bind-framed s b) ∙ after_binds-framed (after_bind s b) bs

  -- nor after parameters
  pub params-framed : (s : Scope) → InFrame s.locals → (qs : List (Param Slot SeqType)) → params_bound s qs ≡ true → Fits width (params_binders qs) → params_bound (framed s) qs ≡ true
  params-framed s f [] h a = refl
  params-framed s f (q ∷ qs) h a =
      let tests = and_parts (may_bind s q.variable.name) (params_bound (with_slot s q.variable.name) qs) h in
      let parts = fit_parts (q.variable.name ∷ []) (params_binders qs) a in
      both_true (slot-framed s q.variable.name tests.0 parts.0) (params-framed (with_slot s q.variable.name) (with_slot-fits s q.variable.name f parts.0) qs tests.1 parts.1)

  pub framed-after_params : (s : Scope) (qs : List (Param Slot SeqType)) → framed (after_params s qs) ≡ framed s
  framed-after_params s [] = refl
  framed-after_params s (q ∷ qs) = framed-after_params (with_slot s q.variable.name) qs
