-- The parts of a FLWOR: its leading clauses, its `for`, narrow clauses, one that is not narrow, and
-- the rest.
use Rattle.std.proofs.Common.{◌≡◌, ℕ, zero, suc, ◌+◌, ◌-◌, ◌<◌, ◌≤◌, Bool, true, false, ◌&&◌, get_or, List, [], ◌∷◌, ◌++◌, length, take, drop, length-append, append-nil, Option, Some, None, refl, sym, ap, ◌∙◌, arith}
use Rattle.std.proofs.Math.Seq.{take-length}
use Rattle.std.proofs.lemmas.List.{take_at, drop_at, take_more, take-append-drop, length-drop, append_assoc}
use Rattle.seq_types.specs.declared.types.SeqType.{SeqType}
use Rattle.query_tree.specs.BoundViews.{bound_tree, bound_clause, bound_clauses}
use Rattle.query_tree.specs.declared.bound.Slot.{Slot}
use Rattle.query_tree.specs.declared.bound.Target.{Target}
use Rattle.query_tree.specs.declared.clause.Clause.{Clause}
use Rattle.query_tree.specs.Plain as p
use Rattle.query_tree.specs.Plain.{PlainClause, PlainClauses}
use Rattle.query_tree.specs.Scoped.{and_slots, clause_slots}
use Rattle.query_meaning.specs.Outcome.{◌>>=◌}
use Rattle.query_meaning.specs.Environment.{Inner}
use Rattle.query_meaning.specs.Flwors.{with_slots, flwor_from}
use Rattle.query_meaning.specs.Pieces.{is_narrow, are_narrow}
use Rattle.clause_stages.specs.Values.{how_many, and_clauses}
use Rattle.piece_run.specs.Flwors.{ForOver, GoesOn, after_for, leading_slots, flwor_lines, flwor_meant, rest_meant}
use Rattle.piece_run.specs.Meanings.{bound_after, end_number, from_for, clauses_to}
use Rattle.piece_run.specs.declared.driven_flwor.DrivenFlwor.{DrivenFlwor}
use Rattle.piece_run.proofs.LinesMeant.{driven_stages_give_values}

abbrev pub Clauses : Type 0
Clauses = List (Clause Slot Target SeqType)

-- ---- lists in parts

module _ {A : Type 0} where
  pub two_parts : (n : ℕ) (xs : List A) → xs ≡ take n xs ++ drop n xs
  two_parts n xs = sym (take-append-drop n xs)

  pub take_many : (n : ℕ) (xs : List A) → n ≤ length xs → length (take n xs) ≡ n
  take_many zero xs h = refl
  take_many (suc n) [] h = absurd (omega arith)
  take_many (suc n) (x ∷ xs) h = ap suc (take_many n xs (omega arith))

  -- what stands first in the rest, and what stands after that
  pub drop_next : (n : ℕ) (xs : List A) (x : A) (rest : List A) → drop n xs ≡ x ∷ rest → drop (n + 1) xs ≡ rest
  drop_next zero [] x rest h = absurd cc
  drop_next zero (y ∷ ys) x rest h = let e : ys ≡ rest = cc in e
  drop_next (suc n) [] x rest h = absurd cc
  drop_next (suc n) (y ∷ ys) x rest h = let e : suc n + 1 ≡ suc (n + 1) = omega arith in ap (λ (k : ℕ). drop k (y ∷ ys)) e ∙ drop_next n ys x rest h

  pub drop_less : (n : ℕ) (xs : List A) (x : A) (rest : List A) → drop n xs ≡ x ∷ rest → n < length xs
  drop_less zero [] x rest h = absurd cc
  drop_less zero (y ∷ ys) x rest h = omega arith
  drop_less (suc n) [] x rest h = absurd cc
  drop_less (suc n) (y ∷ ys) x rest h = let k = drop_less n ys x rest h in omega (arith, k)

  pub drop_get : (n : ℕ) (xs : List A) (x d : A) (rest : List A) → drop n xs ≡ x ∷ rest → get_or xs n d ≡ x
  drop_get zero [] x d rest h = absurd cc
  drop_get zero (y ∷ ys) x d rest h = let e : y ≡ x = cc in e
  drop_get (suc n) [] x d rest h = absurd cc
  drop_get (suc n) (y ∷ ys) x d rest h = drop_get n ys x d rest h

pub rest_is : {A : Type 0} (i : ℕ) (xs : List A) → take (length xs - i) (drop i xs) ≡ drop i xs
rest_is i xs = ap (λ (n : ℕ). take n (drop i xs)) (sym (length-drop i xs)) ∙ take-length (drop i xs)

-- ---- narrow clauses

both : (a b : Bool) → (a && b) ≡ true → (a ≡ true) × (b ≡ true)
both true b h = (refl, h)
both false b h = absurd cc

narrow_last : (cs : Clauses) (c : Clause Slot Target SeqType) → are_narrow (bound_clauses cs) ≡ true → is_narrow (bound_clause c) ≡ true → are_narrow (bound_clauses (cs ++ c ∷ [])) ≡ true
narrow_last [] c h k = ap (λ (b : Bool). b && true) k
narrow_last (d ∷ cs) c h k =
    let w = both (is_narrow (bound_clause d)) (are_narrow (bound_clauses cs)) h in
    ap (λ (b : Bool). b && are_narrow (bound_clauses (cs ++ c ∷ []))) w.0 ∙ narrow_last cs c w.1 k

pub narrow_more : (cs : Clauses) (i : ℕ) (c : Clause Slot Target SeqType) → i < length cs → c ≡ get_or cs i c → are_narrow (bound_clauses (take i cs)) ≡ true → is_narrow (bound_clause c) ≡ true → are_narrow (bound_clauses (take (i + 1) cs)) ≡ true
narrow_more cs i c lt is h k =
    ap (λ (l : Clauses). are_narrow (bound_clauses l)) (take_more cs i c lt ∙ ap (λ d. take i cs ++ d ∷ []) (sym is))
    ∙ narrow_last (take i cs) c h k

slots_behind : (vs : List Slot) (a b : Clauses) → and_slots vs (bound_clauses (a ++ b)) ≡ and_slots (and_slots vs (bound_clauses a)) (bound_clauses b)
slots_behind vs [] b = refl
slots_behind vs (c ∷ a) b = slots_behind (with_slots vs (bound_clause c)) a b

both_bound : (a b : Clauses) → bound_clauses (a ++ b) ≡ and_clauses (bound_clauses a) (bound_clauses b)
both_bound [] b = refl
both_bound (c ∷ a) b = ap (λ (cs : PlainClauses Slot Target SeqType). p.more_clauses (bound_clause c) cs) (both_bound a b)

many_bound : (cs : Clauses) → how_many (bound_clauses cs) ≡ length cs
many_bound [] = refl
many_bound (c ∷ cs) = ap suc (many_bound cs)

-- ---- the `for`

abbrev first_for : PlainClauses Slot Target SeqType → Option ForOver
first_for (p.more_clauses (p.for_clause variable t allowing_empty at source) rest) = Some (record { variable = variable; of = t; at = at; source = source; rest = rest })
first_for _ = None

-- there is one `for` with which a FLWOR goes on
pub same_over : {F : Type 0} (f : DrivenFlwor F) (w v : ForOver) → GoesOn f w → GoesOn f v → w ≡ v
same_over f w v h k = let e : Some w ≡ Some v = ap first_for (sym h ∙ k) in cc

abbrev for_is : ForOver → PlainClause Slot Target SeqType
for_is w = p.for_clause w.variable w.of false w.at w.source

abbrev first_of : PlainClauses Slot Target SeqType → Option (PlainClause Slot Target SeqType)
first_of p.no_clauses = None
first_of (p.more_clauses c cs) = Some c

abbrev rest_of : PlainClauses Slot Target SeqType → PlainClauses Slot Target SeqType
rest_of p.no_clauses = p.no_clauses
rest_of (p.more_clauses c cs) = cs

pub record Parts {F : Type 0} (f : DrivenFlwor F) (w : ForOver) : Type 0 where
  pub clause : Clause Slot Target SeqType
  pub is : bound_clause clause ≡ for_is w
  pub left : drop f.lets f.clauses.now ≡ clause ∷ after_for f
  pub rest : bound_clauses (after_for f) ≡ w.rest

parts_case : {F : Type 0} (f : DrivenFlwor F) (w : ForOver) (left : Clauses) → drop f.lets f.clauses.now ≡ left → bound_clauses left ≡ p.more_clauses (for_is w) w.rest → Parts f w
parts_case f w [] same h = absurd cc
parts_case f w (c ∷ cs) same h =
    let after : after_for f ≡ cs = drop_next f.lets f.clauses.now c cs same in
    let first : Some (bound_clause c) ≡ Some (for_is w) = ap first_of h in
    let rest : bound_clauses cs ≡ w.rest = ap rest_of h in
    record {
      clause = c;
      is = cc;
      left = same ∙ ap (λ (l : Clauses). c ∷ l) (sym after);
      rest = ap bound_clauses after ∙ rest;
    }

pub parts : {F : Type 0} (f : DrivenFlwor F) (w : ForOver) → GoesOn f w → Parts f w
parts f w goes = parts_case f w (drop f.lets f.clauses.now) refl goes

-- ---- clauses up to the first that is not narrow

module _ {F : Type 0} (f : DrivenFlwor F) (w : ForOver) (goes : GoesOn f w) (count : ℕ) (within : f.lets + 1 + count ≤ length f.clauses.now) where
  abbrev all : Clauses
  all = f.clauses.now

  abbrev narrow : Clauses
  narrow = take count (after_for f)

  abbrev own : Parts f w
  own = parts f w goes

  -- the leading clauses, the `for` and the narrow ones
  abbrev front : Clauses
  front = take f.lets all ++ own.clause ∷ narrow

  narrow_many : length narrow ≡ count
  narrow_many =
      let left : length (after_for f) ≡ length all - (f.lets + 1) = length-drop (f.lets + 1) all in
      take_many count (after_for f) (omega (arith, left, within))

  front_and_rest : all ≡ front ++ drop count (after_for f)
  front_and_rest =
      two_parts f.lets all
      ∙ ap (λ (l : Clauses). take f.lets all ++ l) (own.left ∙ ap (λ (l : Clauses). own.clause ∷ l) (two_parts count (after_for f)))
      ∙ sym (append_assoc (take f.lets all) (own.clause ∷ narrow) (drop count (after_for f)))

  front_many : length front ≡ f.lets + 1 + count
  front_many =
      let first : length (take f.lets all) ≡ f.lets = take_many f.lets all (omega (arith, within)) in
      let both : length front ≡ length (take f.lets all) + suc (length narrow) = length-append (take f.lets all) (own.clause ∷ narrow) in
      let many : length narrow ≡ count = narrow_many in
      omega (arith, first, both, many)

  front_slots : clause_slots (bound_clauses front) ≡ bound_after (flwor_lines f w count) (leading_slots f)
  front_slots =
      slots_behind [] (take f.lets all) (own.clause ∷ narrow)
      ∙ ap (λ (c : PlainClause Slot Target SeqType). and_slots (leading_slots f) (p.more_clauses c (bound_clauses narrow))) own.is

  pub slots_before : clause_slots (bound_clauses (take (f.lets + 1 + count) all)) ≡ bound_after (flwor_lines f w count) (leading_slots f)
  slots_before =
      let taken : take (f.lets + 1 + count) all ≡ front =
      ap (λ (l : Clauses). take (f.lets + 1 + count) l) front_and_rest ∙ take_at front (drop count (after_for f)) (f.lets + 1 + count) front_many in
      ap (λ (l : Clauses). clause_slots (bound_clauses l)) taken ∙ front_slots

  -- `return` comes after them
  pub meant_whole : (outer : Inner) → drop count (after_for f) ≡ []
      → flwor_meant f w outer ≡ from_for outer (flwor_lines f w count) (leading_slots f) (flwor_lines f w count).clauses (bound_tree f.body.now)
  meant_whole outer none =
      let rest : w.rest ≡ bound_clauses narrow =
      sym own.rest ∙ ap (λ (l : Clauses). bound_clauses l) (two_parts count (after_for f) ∙ ap (λ (l : Clauses). narrow ++ l) none ∙ append-nil narrow) in
      ap (λ (cs : PlainClauses Slot Target SeqType). from_for outer (flwor_lines f w count) (leading_slots f) cs (bound_tree f.body.now)) rest

  -- this clause comes after them
  pub meant_to : (outer : Inner) (c : Clause Slot Target SeqType) (cs : Clauses) → drop count (after_for f) ≡ c ∷ cs
      → flwor_meant f w outer ≡ (clauses_to outer (flwor_lines f w count) (leading_slots f) (bound_clause c) >>= rest_meant f (f.lets + 1 + count + 1))
  meant_to outer c cs left =
      let d = flwor_lines f w count in
      let stream = leading_slots f in
      let body = bound_tree f.body.now in
      let past = f.lets + 1 + count + 1 in
      let rest : w.rest ≡ and_clauses (bound_clauses narrow) (p.more_clauses (bound_clause c) (bound_clauses cs)) =
      sym own.rest ∙ ap (λ (l : Clauses). bound_clauses l) (two_parts count (after_for f) ∙ ap (λ (l : Clauses). narrow ++ l) left) ∙ both_bound narrow (c ∷ cs) in
      let whole : all ≡ front ++ c ∷ [] ++ cs = front_and_rest ∙ ap (λ (l : Clauses). front ++ l) left ∙ sym (append_assoc front (c ∷ []) cs) in
      let many : length (front ++ c ∷ []) ≡ past = let k = front_many in length-append front (c ∷ []) ∙ omega (arith, k) in
      let number : end_number d + 1 ≡ past + 1 = let k : how_many (bound_clauses narrow) ≡ count = many_bound narrow ∙ narrow_many in omega (arith, k) in
      let slots : with_slots (bound_after d stream) (bound_clause c) ≡ clause_slots (bound_clauses (take past all)) =
      sym (ap (λ (l : Clauses). clause_slots (bound_clauses l)) (ap (λ (l : Clauses). take past l) whole ∙ take_at (front ++ c ∷ []) cs past many)
      ∙ slots_behind [] front (c ∷ []) ∙ ap (λ (vs : List Slot). with_slots vs (bound_clause c)) front_slots) in
      let clauses : bound_clauses cs ≡ bound_clauses (drop past all) =
      sym (ap (λ (l : Clauses). bound_clauses l) (ap (λ (l : Clauses). drop past l) whole ∙ drop_at (front ++ c ∷ []) cs past many)) in
      ap (λ (rs : PlainClauses Slot Target SeqType). from_for outer d stream rs body) rest
      ∙ driven_stages_give_values.goes_on outer d stream (bound_clause c) (bound_clauses cs) body
      ∙ (λ j. clauses_to outer d stream (bound_clause c) >>= flwor_from d.inner (number j) (slots j) (clauses j) body d.env)
