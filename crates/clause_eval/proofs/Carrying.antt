-- Tuples that go through all clauses one by one.
use Rattle.std.proofs.Common.{◌≡◌, ℕ, ◌+◌, ◌<◌, ◌≤◌, ◌==◌, Bool, true, false, List, [], ◌∷◌, ◌++◌, length, Option, Some, None, Result, Ok, Err, IfOk, OnOk, refl, sym, ap, subst, ◌∙◌, append_assoc, append-nil, arith}
use Rattle.item_tree.specs.Datum.{Datum}
use Rattle.item_tree.specs.declared.fault.Fault.{Fault}
use Rattle.seq_types.specs.declared.types.SeqType.{SeqType}
use Rattle.query_tree.specs.BoundViews.{bound_clause, bound_clauses}
use Rattle.query_tree.specs.Bound.{BoundTree}
use Rattle.query_tree.specs.declared.bound.Slot.{Slot}
use Rattle.query_tree.specs.declared.bound.Target.{Target}
use Rattle.query_tree.specs.declared.clause.Clause.{Clause}
use Rattle.query_meaning.specs.Outcome.{OrFault}
use Rattle.query_meaning.specs.Environment.{Tuple, Environment, Inner}
use Rattle.stage_laws.specs.Runs.{Met}
use Rattle.stage_laws.specs.Stages.{into_next, narrow}
use Rattle.stage_laws.specs.Runs as run
use Rattle.stage_laws.specs.Pieces.{Known, known, clear, SoFar}
use Rattle.stage_laws.specs.Laws.{Falls, IsTrueOf, Tells, reach}
use Rattle.stage_laws.specs.Tuples.{limit_of, one_more, faulted, Began, TakesOne}
use Rattle.stage_laws.proofs.Basics.{le_is, le_not, eq_true, eq_false, picks, passes}
use Rattle.stage_laws.proofs.Steps.{narrow_falls}
use Rattle.stage_laws.proofs.Ends.{merged_follows}
use Rattle.stage_laws.proofs.Tuples.{tuples_tell}
use Rattle.piece_outcomes.specs.Counting.{taken_by}
use Rattle.clause_eval.specs.OneByOne.{tuples_at}
use Rattle.clause_eval.specs.Frames.{frame_tuple, frame_tuples}
use Rattle.clause_eval.specs.declared.tuples.Frame.{Frame}
use Rattle.clause_eval.specs.declared.progress.Given.{Given}
use Rattle.clause_eval.specs.declared.progress.Progress.{Progress}
use Rattle.clause_eval.specs.Carrying.{Came, nothing_came, came_behind, Seen, follow, StageFor, tuples_out, items_out, returned, last_stage, stage_from, steps_of, given_tuples, known_of, counted, so_far, is_held, TakesIn, Fell, GoesOrStops, Stepped, with_items, with_tuple, Returns, Returned, TellsAt, IsLast, Carries, CarriesRest}

abbrev pub Clauses : Type 0
Clauses = List (Clause Slot Target SeqType)

-- ---- stages fall into pieces

tuples_falls : (first last : ℕ) → Falls first last nothing_came follow tuples_out
tuples_falls first last = record {
  none = refl;
  none_in = λ c. refl;
  outside = λ c xs h. refl;
  steps = λ xs e h. absurd cc;
  parts = λ xs ys. refl;
  counts = λ c xs ys h k. refl;
  before = λ x e h. refl;
  follows = merged_follows last came_behind;
}

items_falls : (first last : ℕ) → Falls first last nothing_came follow items_out
items_falls first last = record {
  none = refl;
  none_in = λ c. refl;
  outside = λ c xs h. refl;
  steps = λ xs e h. absurd cc;
  parts = λ xs ys. refl;
  counts = λ c xs ys h k. refl;
  before = λ x e h. refl;
  follows = merged_follows last came_behind;
}

last_falls : (inner : Inner) (number : ℕ) (body : Option BoundTree) (env : Environment) (last : ℕ) → number + steps_of body ≡ last + 1 → Falls number last nothing_came follow (last_stage inner number body env)
last_falls inner number None env last h = tuples_falls number last
last_falls inner number (Some body) env last h = narrow_falls number (number + 1) last nothing_came follow (returned inner body env) items_out (items_falls (number + 1) last) (omega arith) (omega arith)

pub falls : (inner : Inner) (number : ℕ) (cs : Clauses) (body : Option BoundTree) (env : Environment) (last : ℕ) → IsLast number cs body last → Falls number last nothing_came follow (stage_from inner number (bound_clauses cs) body env)
falls inner number [] body env last h = last_falls inner number body env last (omega arith)
falls inner number (c ∷ cs) body env last h =
    narrow_falls number (number + 1) last nothing_came follow (tuples_at inner (bound_clause c) env 0) (stage_from inner (number + 1) (bound_clauses cs) body env)
    (falls inner (number + 1) cs body env last (omega arith)) (omega arith) (omega arith)

-- ---- the same in other words

tells_same : {A : Type 0} (first last : ℕ) (s : StageFor A) (xs : List A) (g h : SoFar Came Seen Fault) → g.what ≡ h.what → ((c : ℕ) → h.into c ≡ g.into c) → Tells first last s xs g → Tells first last s xs h
tells_same first last s xs g h w i tg = record {
  is = subst (λ (k : Known Came Seen Fault). IsTrueOf last k (s.run xs)) w tg.is;
  counts = λ c from k. i c ∙ tg.counts c from (subst (λ (w : Known Came Seen Fault). c ≤ reach last w) (sym w) k);
}

held_limit : (last number : ℕ) (k : Known Came Seen Fault) → is_held number k ≡ true → limit_of last k ≤ number
held_limit last number (known (Ok w)) h = absurd cc
held_limit last number (known (Err e)) h = le_is e.step number h
held_limit last number (clear l) h = le_is l number h

run_limit : (last number : ℕ) (k : Known Came Seen Fault) → number ≤ last → is_held number k ≡ false → number < limit_of last k
run_limit last number (known (Ok w)) le h = omega arith
run_limit last number (known (Err e)) le h = le_not e.step number h
run_limit last number (clear l) le h = le_not l number h

reach_at : (last number : ℕ) (k : Known Came Seen Fault) → number ≤ last → number < limit_of last k → number ≤ reach last k
reach_at last number (known (Ok ys)) le lt = le
reach_at last number (known (Err e)) le lt = let a : number < e.step = lt in omega arith
reach_at last number (clear l) le lt = let a : number < l = lt in omega arith

began_less : (last limit number : ℕ) (k : Known Came Seen Fault) → number ≤ last → Began last limit k → number < limit_of last k → number < limit
began_less last limit number (known (Ok ys)) le b lt = let e : limit ≡ last + 1 = b in omega arith
began_less last limit number (known (Err e)) le b lt = let m : e.step < limit = b in let n : number < e.step = lt in omega arith
began_less last limit number (clear l) le (b, m) lt = let n : number < l = lt in omega arith

-- ---- one tuple at a step

abbrev pub fell_known : ℕ → Fault → ℕ → Known Came Seen Fault
fell_known number fault n = known (Err (record { step = number; tuple = n; fault = fault; seen = [] }))

module _ {M : Type 0} (number last : ℕ) (f : Tuple → OrFault (List M)) (rest : StageFor M) (falls_rest : Falls (number + 1) last nothing_came follow rest) (up_to : number ≤ last) where
  abbrev here : List Tuple → SoFar Came Seen Fault → Type 0
  here xs g = Tells number last (narrow number f rest) xs g

  takes : TakesOne number last f rest
  takes = (tuples_tell Tuple M Came Seen Fault).takes number last nothing_came follow f rest falls_rest up_to

  pub held_at : (x : Tuple) (p q : Progress) → is_held number (known_of p.what) ≡ true → known_of q.what ≡ known_of p.what → TakesIn number p q → (xs : List Tuple) → here xs (so_far p) → here (xs ++ x ∷ []) (so_far q)
  held_at x p q held same counts xs tg =
      tells_same number last (narrow number f rest) (xs ++ x ∷ []) (one_more number (so_far p)) (so_far q) (sym same) counts
      (takes.held xs x (so_far p) tg (held_limit last number (known_of p.what) held))

  pub fell_at : (x : Tuple) (fault : Fault) (p q : Progress) → is_held number (known_of p.what) ≡ false → f x ≡ Err fault → Fell number fault q → TakesIn number p q → (xs : List Tuple) → here xs (so_far p) → here (xs ++ x ∷ []) (so_far q)
  fell_at x fault p q held h fell counts xs tg =
      tells_same number last (narrow number f rest) (xs ++ x ∷ []) (faulted number fault (one_more number (so_far p))) (so_far q)
      (sym (fell ∙ ap (fell_known number fault) (counts number))) counts
      (takes.faults xs x fault (so_far p) tg (run_limit last number (known_of p.what) up_to held) h)

  own_count : (xs : List Tuple) → (narrow number f rest).into number xs ≡ length xs
  own_count xs = picks (number == number) (length xs) (into_next rest number (run.each_from number f 1 xs)) (eq_true number number refl)

  pub goes_at : (x : Tuple) (zs : List M) (p m q : Progress) → is_held number (known_of p.what) ≡ false → f x ≡ Ok zs → known_of m.what ≡ known_of p.what → TakesIn number p m
      → ((ys : List M) → Tells (number + 1) last rest ys (so_far m) → Tells (number + 1) last rest (ys ++ zs) (so_far q)) → counted q number ≡ counted m number
      → (xs : List Tuple) → here xs (so_far p) → here (xs ++ x ∷ []) (so_far q)
  goes_at x zs p m q held h same counts goes before xs tg =
      let lt : number < limit_of last (known_of p.what) = run_limit last number (known_of p.what) up_to held in
      let d = takes.down xs (so_far p) tg lt in
      let tm : Tells (number + 1) last rest d.0 (so_far m) =
      tells_same (number + 1) last rest d.0 (one_more number (so_far p)) (so_far m) (sym same) counts d.2 in
      let le : number ≤ number = omega arith in
      let n : counted q number ≡ length xs + 1 =
      before ∙ counts number ∙ picks (number == number) (counted p number + 1) (counted p number) (eq_true number number refl)
      ∙ ap (λ (n : ℕ). n + 1) (tg.counts number le (reach_at last number (known_of p.what) up_to lt) ∙ own_count xs) in
      takes.up xs x d.0 zs (so_far q) d.1 h n (goes d.0 tm)

-- ---- at a clause

stopped_case : (number last : ℕ) (f : Tuple → OrFault (List Tuple)) (rest : StageFor Tuple) → Falls (number + 1) last nothing_came follow rest → number ≤ last
    → (x : Tuple) (p q : Progress) (b : Bool) → is_held number (known_of p.what) ≡ b → (o : OrFault (List Tuple)) → f x ≡ o → GoesOrStops b number o p q None → TakesIn number p q
    → (xs : List Tuple) → Tells number last (narrow number f rest) xs (so_far p) → Tells number last (narrow number f rest) (xs ++ x ∷ []) (so_far q)
stopped_case number last f rest fs up x p q true held o h goes counts = held_at number last f rest fs up x p q held goes counts
stopped_case number last f rest fs up x p q false held (Err fault) h goes counts = fell_at number last f rest fs up x fault p q held h goes counts
stopped_case number last f rest fs up x p q false held (Ok ts) h goes counts = absurd goes

stopped_began : (number last limit : ℕ) → number ≤ last → (p q : Progress) (b : Bool) → is_held number (known_of p.what) ≡ b → (o : OrFault (List Tuple)) → GoesOrStops b number o p q None → Began last limit (known_of p.what) → Began last limit (known_of q.what)
stopped_began number last limit up p q true held o goes b = subst (Began last limit) (sym goes) b
stopped_began number last limit up p q false held (Err fault) goes b =
    let lt : number < limit = began_less last limit number (known_of p.what) up b (run_limit last number (known_of p.what) up held) in
    subst (Began last limit) (sym goes) lt
stopped_began number last limit up p q false held (Ok ts) goes b = absurd goes

earlier_same : (number c : ℕ) (p q : Progress) → TakesIn number p q → c < number → counted q c ≡ counted p c
earlier_same number c p q counts lt =
    let ne : c ≡ number → ⊥ = λ (e : c ≡ number). omega arith in
    counts c ∙ passes (c == number) (counted p c + 1) (counted p c) (eq_false c number ne)

module _ (inner : Inner) (env : Environment) (number : ℕ) (cs rest : Clauses) (c : Clause Slot Target SeqType) (body : Option BoundTree) (parted : cs ≡ c ∷ rest) where
  abbrev gives : Tuple → OrFault (List Tuple)
  gives = tuples_at inner (bound_clause c) env 0

  behind : (last : ℕ) → IsLast number (c ∷ rest) body last → Falls (number + 1) last nothing_came follow (stage_from inner (number + 1) (bound_clauses rest) body env)
  behind last h = falls inner (number + 1) rest body env last (omega arith)

  stopped_here : (t : Tuple) (p q : Progress) → Stepped number (gives t) p q None → Carries inner env number (c ∷ rest) body (t ∷ []) p q
  stopped_here t p q s = record {
    first = s.first;
    fits = s.fits;
    before = λ n lt. earlier_same number n p q s.takes lt;
    tells = λ last h xs tg. stopped_case number last gives (stage_from inner (number + 1) (bound_clauses rest) body env) (behind last h) (omega arith) t p q (is_held number (known_of p.what)) refl (gives t) refl s.goes s.takes xs tg;
    began = λ last h limit b. stopped_began number last limit (omega arith) p q (is_held number (known_of p.what)) refl (gives t) s.goes b;
  }

  pub stopped_carries : (t : Tuple) (p q : Progress) → Stepped number (gives t) p q None → Carries inner env number cs body (t ∷ []) p q
  stopped_carries t p q s = subst (λ (l : Clauses). Carries inner env number l body (t ∷ []) p q) (sym parted) (stopped_here t p q s)

  down_case : (t : Tuple) (g : Given) (p m q : Progress) (b : Bool) → is_held number (known_of p.what) ≡ b → (o : OrFault (List Tuple)) → gives t ≡ o → GoesOrStops b number o p m (Some g)
      → (is_held number (known_of p.what) ≡ false) × (gives t ≡ Ok (given_tuples g)) × (known_of m.what ≡ known_of p.what)
  down_case t g p m q true held o h goes = absurd goes
  down_case t g p m q false held (Err fault) h goes = absurd goes
  down_case t g p m q false held (Ok ts) h goes = (held, h ∙ ap Ok goes.0, goes.1)

  pub gives_these : (t : Tuple) (g : Given) (p m : Progress) → Stepped number (gives t) p m (Some g) → gives t ≡ Ok (given_tuples g)
  gives_these t g p m s = (down_case t g p m m (is_held number (known_of p.what)) refl (gives t) refl s.goes).1

  down_here : (t : Tuple) (g : Given) (p m q : Progress) → Stepped number (gives t) p m (Some g) → Carries inner env (number + 1) rest body (given_tuples g) m q → Carries inner env number (c ∷ rest) body (t ∷ []) p q
  down_here t g p m q s d =
      let w = down_case t g p m q (is_held number (known_of p.what)) refl (gives t) refl s.goes in
      record {
        first = d.first ∙ s.first;
        fits = d.fits ∙ s.fits;
        before = λ n lt. d.before n (omega arith) ∙ earlier_same number n p m s.takes lt;
        tells = λ last h xs tg. goes_at number last gives (stage_from inner (number + 1) (bound_clauses rest) body env) (behind last h) (omega arith) t (given_tuples g) p m q w.0 w.1 w.2 s.takes
            (λ ys. d.tells last (omega arith) ys) (d.before number (omega arith)) xs tg;
        began = λ last h limit b. d.began last (omega arith) limit (subst (Began last limit) (sym w.2) b);
      }

  pub down_carries : (t : Tuple) (g : Given) (p m q : Progress) → Stepped number (gives t) p m (Some g) → Carries inner env (number + 1) rest body (given_tuples g) m q → Carries inner env number cs body (t ∷ []) p q
  down_carries t g p m q s d = subst (λ (l : Clauses). Carries inner env number l body (t ∷ []) p q) (sym parted) (down_here t g p m q s d)

-- ---- behind the last clause

out_known : (first last : ℕ) → last < first → (xs : List Tuple) (t : Tuple) (k : Known Came Seen Fault) (f : ℕ → ℕ) → Tells first last tuples_out xs (record { what = k; into = f }) → Tells first last tuples_out (xs ++ t ∷ []) (record { what = with_tuple t k; into = f })
out_known first last lt xs t (known (Ok w)) f tg =
    let e : record { tuples = xs; items = [] } ≡ w = cc in
    record { is = ap (λ (w : Came). Ok (record { tuples = w.tuples ++ t ∷ []; items = w.items })) e; counts = λ c from h. tg.counts c from h }
out_known first last lt xs t (known (Err e)) f tg = absurd cc
out_known first last lt xs t (clear l) f tg = record {
  is = (tg.is.0, tt);
  counts = λ c from h. let a : l ≤ last = tg.is.0 in let b : c ≤ l = h in absurd (omega arith);
}

out_began : (last limit : ℕ) (t : Tuple) (k : Known Came Seen Fault) → Began last limit k → Began last limit (with_tuple t k)
out_began last limit t (known (Ok w)) b = b
out_began last limit t (known (Err e)) b = b
out_began last limit t (clear l) b = b

pub out_carries : (inner : Inner) (env : Environment) (number : ℕ) (t : Tuple) (p q : Progress) → q.into ≡ p.into → known_of q.what ≡ with_tuple t (known_of p.what) → Carries inner env number [] None (t ∷ []) p q
out_carries inner env number t p q i w = record {
  first = ap (λ v. v.first) i;
  fits = ap (λ v. length v.taken.items) i;
  before = λ c lt. ap (λ v. taken_by v c) i;
  tells = λ last h xs tg. tells_same number last tuples_out (xs ++ t ∷ []) (record { what = with_tuple t (known_of p.what); into = counted p }) (so_far q) (sym w) (λ c. ap (λ v. taken_by v c) i)
      (out_known number last (omega arith) xs t (known_of p.what) (counted p) tg);
  began = λ last h limit b. subst (Began last limit) (sym w) (out_began last limit t (known_of p.what) b);
}

-- ---- `return`

items_known : (first last : ℕ) → last < first → (xs ds : List Datum) (k : Known Came Seen Fault) (f : ℕ → ℕ) → Tells first last items_out xs (record { what = k; into = f }) → Tells first last items_out (xs ++ ds) (record { what = with_items ds k; into = f })
items_known first last lt xs ds (known (Ok w)) f tg =
    let e : record { tuples = []; items = xs } ≡ w = cc in
    record { is = ap (λ (w : Came). Ok (record { tuples = w.tuples; items = w.items ++ ds })) e; counts = λ c from h. tg.counts c from h }
items_known first last lt xs ds (known (Err e)) f tg = absurd cc
items_known first last lt xs ds (clear l) f tg = record {
  is = (tg.is.0, tt);
  counts = λ c from h. let a : l ≤ last = tg.is.0 in let b : c ≤ l = h in absurd (omega arith);
}

items_began : (last limit : ℕ) (ds : List Datum) (k : Known Came Seen Fault) → Began last limit k → Began last limit (with_items ds k)
items_began last limit ds (known (Ok w)) b = b
items_began last limit ds (known (Err e)) b = b
items_began last limit ds (clear l) b = b

module _ (inner : Inner) (env : Environment) (number : ℕ) (body : BoundTree) (last : ℕ) (is_last : number ≡ last) where
  abbrev item_step : Tuple → OrFault (List Datum)
  item_step = returned inner body env

  returned_case : (t : Tuple) (p q : Progress) (b : Bool) → is_held number (known_of p.what) ≡ b → (o : OrFault (List Datum)) → item_step t ≡ o → Returns b number o p q → TakesIn number p q
      → (xs : List Tuple) → Tells number last (narrow number item_step items_out) xs (so_far p) → Tells number last (narrow number item_step items_out) (xs ++ t ∷ []) (so_far q)
  returned_case t p q true held o h goes counts = held_at number last item_step items_out (items_falls (number + 1) last) (omega arith) t p q held goes counts
  returned_case t p q false held (Err fault) h goes counts = fell_at number last item_step items_out (items_falls (number + 1) last) (omega arith) t fault p q held h goes counts
  returned_case t p q false held (Ok ds) h goes counts =
      let m : Progress = record { what = p.what; into = q.into } in
      goes_at number last item_step items_out (items_falls (number + 1) last) (omega arith) t ds p m q held h refl counts
      (λ ys tg. tells_same (number + 1) last items_out (ys ++ ds) (record { what = with_items ds (known_of p.what); into = counted q }) (so_far q) (sym goes) (λ c. refl)
      (items_known (number + 1) last (omega arith) ys ds (known_of p.what) (counted q) tg)) refl

  returned_began : (t : Tuple) (limit : ℕ) (p q : Progress) (b : Bool) → is_held number (known_of p.what) ≡ b → (o : OrFault (List Datum)) → Returns b number o p q → Began last limit (known_of p.what) → Began last limit (known_of q.what)
  returned_began t limit p q true held o goes b = subst (Began last limit) (sym goes) b
  returned_began t limit p q false held (Err fault) goes b =
      let lt : number < limit = began_less last limit number (known_of p.what) (omega arith) b (run_limit last number (known_of p.what) (omega arith) held) in
      subst (Began last limit) (sym goes) lt
  returned_began t limit p q false held (Ok ds) goes b = subst (Began last limit) (sym goes) (items_began last limit ds (known_of p.what) b)

pub return_carries : (inner : Inner) (env : Environment) (number : ℕ) (body : BoundTree) (t : Tuple) (p q : Progress) → Returned number (returned inner body env t) p q → Carries inner env number [] (Some body) (t ∷ []) p q
return_carries inner env number body t p q s = record {
  first = s.first;
  fits = s.fits;
  before = λ n lt. earlier_same number n p q s.takes lt;
  tells = λ last h xs tg. returned_case inner env number body last (omega arith) t p q (is_held number (known_of p.what)) refl (returned inner body env t) refl s.goes s.takes xs tg;
  began = λ last h limit b. returned_began inner env number body last (omega arith) t limit p q (is_held number (known_of p.what)) refl (returned inner body env t) s.goes b;
}

-- ---- several tuples

module _ (inner : Inner) (env : Environment) (number : ℕ) (cs : Clauses) (body : Option BoundTree) where
  pub none_carries : (p : Progress) → Carries inner env number cs body [] p p
  none_carries p = record {
    first = refl;
    fits = refl;
    before = λ c lt. refl;
    tells = λ last h xs tg. subst (λ (l : List Tuple). TellsAt inner env number cs body last l p) (sym (append-nil xs)) tg;
    began = λ last h limit b. b;
  }

  pub more_carries : (ts us : List Tuple) (p q r : Progress) → Carries inner env number cs body ts p q → Carries inner env number cs body us q r → Carries inner env number cs body (ts ++ us) p r
  more_carries ts us p q r a b = record {
    first = b.first ∙ a.first;
    fits = b.fits ∙ a.fits;
    before = λ c lt. b.before c lt ∙ a.before c lt;
    tells = λ last h xs tg. subst (λ (l : List Tuple). TellsAt inner env number cs body last l r) (append_assoc xs ts us) (b.tells last h (xs ++ ts) (a.tells last h xs tg));
    began = λ last h limit w. b.began last h limit (a.began last h limit w);
  }

  pub rest_begins : (all : List Tuple) (p : Progress) → CarriesRest inner env number cs body all all p p
  rest_begins all p = record { first = refl; fits = refl; goes = λ q d. d }

  pub rest_next : (all left : List Tuple) (t : Tuple) (p now next : Progress) → CarriesRest inner env number cs body all (t ∷ left) p now → Carries inner env number cs body (t ∷ []) now next → CarriesRest inner env number cs body all left p next
  rest_next all left t p now next r d = record {
    first = d.first ∙ r.first;
    fits = d.fits ∙ r.fits;
    goes = λ q e. r.goes q (more_carries (t ∷ []) left now next q d e);
  }

  pub rest_ends : (all : List Tuple) (p now : Progress) → CarriesRest inner env number cs body all [] p now → Carries inner env number cs body all p now
  rest_ends all p now r = r.goes now (none_carries now)

  -- ---- of the tuples of a list that is gone through

  pub rest_turn : (all : List Tuple) (its left : List Frame) (x : Frame) (p now next : Progress) → its ≡ x ∷ left → CarriesRest inner env number cs body all (frame_tuples its) p now → Carries inner env number cs body (frame_tuple x ∷ []) now next
      → CarriesRest inner env number cs body all (frame_tuples left) p next
  rest_turn all its left x p now next e r d = rest_next all (frame_tuples left) (frame_tuple x) p now next (subst (λ (l : List Frame). CarriesRest inner env number cs body all (frame_tuples l) p now) e r) d

  done_case : (all : List Tuple) (its : List Frame) (p now : Progress) → length its ≡ 0 → CarriesRest inner env number cs body all (frame_tuples its) p now → Carries inner env number cs body all p now
  done_case all [] p now h r = rest_ends all p now r
  done_case all (x ∷ its) p now h r = absurd (omega arith)

  pub rest_done : (fs its0 its : List Frame) (p now : Progress) (n : ℕ) → its0 ≡ fs → n ≡ length its → n ≡ 0 → CarriesRest inner env number cs body (frame_tuples its0) (frame_tuples its) p now → Carries inner env number cs body (frame_tuples fs) p now
  rest_done fs its0 its p now n e c z r = subst (λ (l : List Frame). Carries inner env number cs body (frame_tuples l) p now) e (done_case (frame_tuples its0) its p now (sym c ∙ z) r)

pub on_ok : {X E : Type 0} (r : Result X E) (P Q : Type 0) → (P → Q) → OnOk r P → OnOk r Q
on_ok (Ok x) P Q f h = f h
on_ok (Err e) P Q f h = h

pub if_ok : {X E : Type 0} (r : Result X E) (P Q : X → Type 0) → ((x : X) → P x → Q x) → IfOk r P → IfOk r Q
if_ok (Ok x) P Q f h = f x h
if_ok (Err e) P Q f h = h

pub if_ok_both : {X E : Type 0} (r : Result X E) (P Q R : X → Type 0) → ((x : X) → P x → Q x → R x) → IfOk r P → IfOk r Q → IfOk r R
if_ok_both (Ok x) P Q R f h k = f x h k
if_ok_both (Err e) P Q R f h k = h

pub left_counted : (its left : List Frame) (x : Frame) (m n : ℕ) → its ≡ x ∷ left → n + 1 ≡ m → m ≡ length its → n ≡ length left
left_counted its left x m n e h i = let l : length its ≡ length (x ∷ left) = ap length e in omega arith
