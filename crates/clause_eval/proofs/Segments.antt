-- Clauses in segments: narrow ones, and behind them one that is not.
use Rattle.std.proofs.Common.{◌≡◌, ℕ, zero, suc, ◌+◌, ◌-◌, ◌<◌, ◌≤◌, Bool, true, false, ◌&&◌, List, [], ◌∷◌, ◌++◌, length, take, drop, get_or, Ok, Err, refl, sym, ap, subst, ◌∙◌, arith}
use Rattle.std.proofs.Math.Seq.{take-length}
use Rattle.std.proofs.lemmas.List.{take_more, drop_more, length-drop}
use Rattle.clause_eval.proofs.Stages.{flwor_next}
use Rattle.seq_types.specs.declared.types.SeqType.{SeqType}
use Rattle.query_tree.specs.BoundViews.{bound_clause, bound_clauses}
use Rattle.query_tree.specs.Bound.{BoundTree}
use Rattle.query_tree.specs.declared.bound.Slot.{Slot}
use Rattle.query_tree.specs.declared.bound.Target.{Target}
use Rattle.query_tree.specs.declared.clause.Clause.{Clause}
use Rattle.query_tree.specs.Scoped.{and_slots, clause_slots}
use Rattle.query_meaning.specs.Outcome.{OrFault, Outcome, ◌>>=◌}
use Rattle.query_meaning.specs.Environment.{Tuple, Environment, Inner}
use Rattle.query_meaning.specs.Clauses.{clause_value}
use Rattle.query_meaning.specs.Flwors.{with_slots, flwor_from}
use Rattle.query_meaning.specs.Pieces.{is_narrow, are_narrow}
use Rattle.query_meaning.specs.inside.Gives.{FailsAs}
use Rattle.query_meaning.specs.declared.fault.EvalFault.{EvalFault}
use Rattle.query_meaning.specs.declared.fault.EvalFault.TheVariants as eval
use Rattle.clause_eval.specs.NarrowRuns.{clauses_value}

abbrev pub Clauses : Type 0
Clauses = List (Clause Slot Target SeqType)

both : (a b : Bool) → (a && b) ≡ true → (a ≡ true) × (b ≡ true)
both true b h = (refl, h)
both false b h = absurd cc

narrow_last : (cs : Clauses) (c : Clause Slot Target SeqType) → are_narrow (bound_clauses cs) ≡ true → is_narrow (bound_clause c) ≡ true → are_narrow (bound_clauses (cs ++ c ∷ [])) ≡ true
narrow_last [] c h k = ap (λ (b : Bool). b && true) k
narrow_last (d ∷ cs) c h k =
    let w = both (is_narrow (bound_clause d)) (are_narrow (bound_clauses cs)) h in
    ap (λ (b : Bool). b && are_narrow (bound_clauses (cs ++ c ∷ []))) w.0 ∙ narrow_last cs c w.1 k

pub narrow_more : (cs : Clauses) (i : ℕ) (c : Clause Slot Target SeqType) → i < length cs → c ≡ get_or cs i c → are_narrow (bound_clauses (take i cs)) ≡ true → is_narrow (bound_clause c) ≡ true → are_narrow (bound_clauses (take (i + 1) cs)) ≡ true
narrow_more cs i c lt is h k =
    ap (λ (l : Clauses). are_narrow (bound_clauses l)) (take_more cs i c lt ∙ ap (λ d. take i cs ++ d ∷ []) (sym is))
    ∙ narrow_last (take i cs) c h k

-- ---- lists in parts

drop_drop : (i n : ℕ) (cs : Clauses) → drop n (drop i cs) ≡ drop (i + n) cs
drop_drop zero n cs = ap (λ (k : ℕ). drop k cs) (omega arith)
drop_drop (suc i) zero [] = let e : suc i + 0 ≡ suc (i + 0) = omega arith in ap (λ (k : ℕ). drop k []) (sym e)
drop_drop (suc i) (suc n) [] = let e : suc i + suc n ≡ suc (i + suc n) = omega arith in ap (λ (k : ℕ). drop k []) (sym e)
drop_drop (suc i) n (c ∷ cs) = let e : suc i + n ≡ suc (i + n) = omega arith in drop_drop i n cs ∙ ap (λ (k : ℕ). drop k (c ∷ cs)) (sym e)

take_drop : (n : ℕ) (cs : Clauses) → cs ≡ take n cs ++ drop n cs
take_drop zero cs = refl
take_drop (suc n) [] = refl
take_drop (suc n) (c ∷ cs) = ap (λ l. c ∷ l) (take_drop n cs)

take_take : (i n : ℕ) (cs : Clauses) → take (i + n) cs ≡ take i cs ++ take n (drop i cs)
take_take zero n cs = ap (λ (k : ℕ). take k cs) (omega arith)
take_take (suc i) zero [] = let e : suc i + 0 ≡ suc (i + 0) = omega arith in ap (λ (k : ℕ). take k []) e
take_take (suc i) (suc n) [] = let e : suc i + suc n ≡ suc (i + suc n) = omega arith in ap (λ (k : ℕ). take k []) e
take_take (suc i) n (c ∷ cs) = let e : suc i + n ≡ suc (i + n) = omega arith in ap (λ (k : ℕ). take k (c ∷ cs)) e ∙ ap (λ l. c ∷ l) (take_take i n cs)

length_take : (n : ℕ) (cs : Clauses) → n ≤ length cs → length (take n cs) ≡ n
length_take zero cs h = refl
length_take (suc n) [] h = absurd (omega arith)
length_take (suc n) (c ∷ cs) h = ap suc (length_take n cs (omega arith))

slots_behind : (vs : List Slot) (a b : Clauses) → and_slots vs (bound_clauses (a ++ b)) ≡ and_slots (and_slots vs (bound_clauses a)) (bound_clauses b)
slots_behind vs [] b = refl
slots_behind vs (c ∷ a) b = slots_behind (with_slots vs (bound_clause c)) a b

-- ---- a segment of clauses

then_then : {A B C : Type 0} (q : OrFault A) (f : A → OrFault B) (g : B → OrFault C) → ((q >>= f) >>= g) ≡ (q >>= λ a. f a >>= g)
then_then (Ok a) f g = refl
then_then (Err e) f g = refl

same_after : {A B : Type 0} (q : OrFault A) (f g : A → OrFault B) → ((a : A) → f a ≡ g a) → (q >>= f) ≡ (q >>= g)
same_after (Ok a) f g h = h a
same_after (Err fault) f g h = refl

split : (inner : Inner) (number : ℕ) (stream : List Slot) (a b : Clauses) (body : BoundTree) (env : Environment) (ts : List Tuple)
    → flwor_from inner number stream (bound_clauses (a ++ b)) body env ts ≡ (clauses_value inner number stream (bound_clauses a) env ts >>= flwor_from inner (number + length a) (and_slots stream (bound_clauses a)) (bound_clauses b) body env)
split inner number stream [] b body env ts = let e : number ≡ number + 0 = omega arith in ap (λ (n : ℕ). flwor_from inner n stream (bound_clauses b) body env ts) e
split inner number stream (c ∷ a) b body env ts =
    let e : number + 1 + length a ≡ number + suc (length a) = omega arith in
    let rest : ℕ → List Tuple → Outcome = λ n. flwor_from inner n (and_slots (with_slots stream (bound_clause c)) (bound_clauses a)) (bound_clauses b) body env in
    same_after (clause_value inner number stream (bound_clause c) env ts) (flwor_from inner (number + 1) (with_slots stream (bound_clause c)) (bound_clauses (a ++ b)) body env)
    (λ next. clauses_value inner (number + 1) (with_slots stream (bound_clause c)) (bound_clauses a) env next >>= rest (number + suc (length a)))
    (λ next. split inner (number + 1) (with_slots stream (bound_clause c)) a b body env next ∙ ap (λ (n : ℕ). clauses_value inner (number + 1) (with_slots stream (bound_clause c)) (bound_clauses a) env next >>= rest n) e)
    ∙ sym (then_then (clause_value inner number stream (bound_clause c) env ts) (clauses_value inner (number + 1) (with_slots stream (bound_clause c)) (bound_clauses a) env) (rest (number + suc (length a))))

module _ (inner : Inner) (i n : ℕ) (cs : Clauses) (body : BoundTree) (env : Environment) where
  abbrev from : ℕ → List Tuple → Outcome
  from k = flwor_from inner (k + 1) (clause_slots (bound_clauses (take k cs))) (bound_clauses (drop k cs)) body env

  abbrev segment : List Tuple → OrFault (List Tuple)
  segment = clauses_value inner (i + 1) (clause_slots (bound_clauses (take i cs))) (bound_clauses (take n (drop i cs))) env

  pub segment_is : (ts : List Tuple) → n ≤ length (drop i cs) → from i ts ≡ (segment ts >>= from (i + n))
  segment_is ts le =
      let stream = clause_slots (bound_clauses (take i cs)) in let a = take n (drop i cs) in
      let parts : drop i cs ≡ a ++ drop (i + n) cs = take_drop n (drop i cs) ∙ ap (λ l. a ++ l) (drop_drop i n cs) in
      let slots : and_slots stream (bound_clauses a) ≡ clause_slots (bound_clauses (take (i + n) cs)) =
      sym (ap (λ l. clause_slots (bound_clauses l)) (take_take i n cs) ∙ slots_behind [] (take i cs) a) in
      let counts : i + 1 + length a ≡ i + n + 1 = let l : length a ≡ n = length_take n (drop i cs) le in omega arith in
      ap (λ (l : Clauses). flwor_from inner (i + 1) stream (bound_clauses l) body env ts) parts
      ∙ split inner (i + 1) stream a (drop (i + n) cs) body env ts
      ∙ (λ j. segment ts >>= flwor_from inner (counts j) (slots j) (bound_clauses (drop (i + n) cs)) body env)

pub fails_then : {A B : Type 0} (fault : EvalFault) (o : OrFault A) (f : A → OrFault B) (all : OrFault B) → FailsAs fault o → (o >>= f) ≡ all → FailsAs fault all
fails_then {A} {B} (eval.Raised e) o f all h k = sym k ∙ ap (λ (q : OrFault A). q >>= f) h
fails_then eval.NoMemory o f all h k = tt

pub goes_then : {A B : Type 0} (x : A) (o : OrFault A) (f : A → OrFault B) (all : OrFault B) → o ≡ Ok x → (o >>= f) ≡ all → f x ≡ all
goes_then {A} x o f all h k = sym (ap (λ (q : OrFault A). q >>= f) h) ∙ k

-- ---- as the code has them

pub rest_is : (i : ℕ) (cs : Clauses) → take (length cs - i) (drop i cs) ≡ drop i cs
rest_is i cs = ap (λ (n : ℕ). take n (drop i cs)) (sym (length-drop i cs)) ∙ take-length (drop i cs)

pub end_less : (i n : ℕ) (cs : Clauses) → i ≤ length cs → n ≤ length (take (length cs - i) (drop i cs)) → (n ≡ length (take (length cs - i) (drop i cs)) → ⊥) → i + n < length cs
end_less i n cs le up ne =
    let l : length (take (length cs - i) (drop i cs)) ≡ length cs - i = ap length (rest_is i cs) ∙ length-drop i cs in omega arith

module _ (inner : Inner) (i n : ℕ) (cs : Clauses) (body : BoundTree) (env : Environment) (ts : List Tuple) (all : Outcome)
    (le : n ≤ length (take (length cs - i) (drop i cs))) (now : from inner i n cs body env i ts ≡ all) where
  abbrev part : OrFault (List Tuple)
  part = clauses_value inner (i + 1) (clause_slots (bound_clauses (take i cs))) (bound_clauses (take n (take (length cs - i) (drop i cs)))) env ts

  same_part : part ≡ segment inner i n cs body env ts
  same_part = ap (λ (l : Clauses). clauses_value inner (i + 1) (clause_slots (bound_clauses (take i cs))) (bound_clauses (take n l)) env ts) (rest_is i cs)

  within : n ≤ length (drop i cs)
  within = subst (λ (l : Clauses). n ≤ length l) (rest_is i cs) le

  pub segment_fails : (fault : EvalFault) → FailsAs fault part → FailsAs fault all
  segment_fails fault h =
      fails_then fault (segment inner i n cs body env ts) (from inner i n cs body env (i + n)) all (subst (FailsAs fault) same_part h) (sym (segment_is inner i n cs body env ts within) ∙ now)

  pub segment_goes : (next : List Tuple) → part ≡ Ok next → from inner i n cs body env (i + n) next ≡ all
  segment_goes next h =
      goes_then next (segment inner i n cs body env ts) (from inner i n cs body env (i + n)) all (sym same_part ∙ h) (sym (segment_is inner i n cs body env ts within) ∙ now)

pub clause_fails : (inner : Inner) (k : ℕ) (cs : Clauses) (c : Clause Slot Target SeqType) (body : BoundTree) (env : Environment) (ts : List Tuple) (all : Outcome) → k < length cs → c ≡ get_or cs k c
    → flwor_from inner (k + 1) (clause_slots (bound_clauses (take k cs))) (bound_clauses (drop k cs)) body env ts ≡ all
    → (fault : EvalFault) → FailsAs fault (clause_value inner (k + 1) (clause_slots (bound_clauses (take k cs))) (bound_clause c) env ts) → FailsAs fault all
clause_fails inner k cs c body env ts all lt is now fault h =
    let left : drop k cs ≡ c ∷ drop (k + 1) cs = drop_more cs k c lt ∙ ap (λ d. d ∷ drop (k + 1) cs) (sym is) in
    fails_then fault (clause_value inner (k + 1) (clause_slots (bound_clauses (take k cs))) (bound_clause c) env ts)
    (λ next. flwor_from inner (k + 1 + 1) (clause_slots (bound_clauses (take (k + 1) cs))) (bound_clauses (drop (k + 1) cs)) body env next) all h
    (sym (flwor_next inner (k + 1) cs k c (drop (k + 1) cs) body env ts left) ∙ now)
