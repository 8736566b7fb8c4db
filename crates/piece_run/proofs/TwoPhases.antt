-- What is told of a stage in two phases.
use Rattle.std.proofs.Common.{◌≡◌, ℕ, ◌+◌, ◌<◌, ◌≤◌, ◌==◌, Bool, true, false, nat_lt, nat_le, if◌then◌else◌, List, length, Result, Ok, Err, refl, sym, ap, ◌∙◌, subst, arith}
use Rattle.stage_laws.specs.Runs.{Met, ◌>>=◌, each_from}
use Rattle.stage_laws.specs.Stages.{Stage, into_next, narrow, ended}
use Rattle.stage_laws.specs.Pieces.{Outcome, whole, met, clean, Counted, told_below, by_outcome}
use Rattle.stage_laws.specs.Laws.{reach, IsCarry}
use Rattle.stage_laws.proofs.Basics.{lt_true, lt_false, eq_true, eq_false, eq_not, le_true, lt_is, lt_not, le_is, le_not, picks, passes}
use Rattle.piece_run.specs.Phases.{lower, IsThen, LeavesAt, next_outcome}

-- ---- how a stage falls into two phases

pub ended_then : {M B K F : Type 0} (at : ℕ) (last_step : Stage M B K F) → IsThen at at ended last_step last_step
ended_then at last_step = record {
  run = λ xs. refl;
  below = λ c xs from less. absurd (omega arith);
  here = λ xs. refl;
}

module _ {A M N B K F : Type 0} (number at : ℕ) (f : A → Result (List N) F) (first : Stage N (List M) K F) (last_step : Stage M B K F) (s : Stage N B K F) (h : IsThen (number + 1) at first last_step s) (less : number < at) where
  run_case : (q : Result (List N) (Met K F)) → (q >>= s.run) ≡ ((q >>= first.run) >>= last_step.run)
  run_case (Ok ys) = h.run ys
  run_case (Err e) = refl

  below_case : (c : ℕ) (q : Result (List N) (Met K F)) → number + 1 ≤ c → c < at → into_next s c q ≡ into_next first c q
  below_case c (Ok ys) from k = h.below c ys from k
  below_case c (Err e) from k = refl

  here_case : (q : Result (List N) (Met K F)) → into_next s at q ≡ into_next last_step at (q >>= first.run)
  here_case (Ok ys) = h.here ys
  here_case (Err e) = refl

  counted : (c : ℕ) (xs : List A) (b : Bool) → (c == number) ≡ b → number ≤ c → c < at
      → (if b then length xs else into_next s c (each_from number f 1 xs)) ≡ (if b then length xs else into_next first c (each_from number f 1 xs))
  counted c xs true e from k = refl
  counted c xs false e from k =
      let ne : c ≡ number → ⊥ = eq_not c number e in
      below_case c (each_from number f 1 xs) (omega arith) k

  pub narrow_then : IsThen number at (narrow number f first) last_step (narrow number f s)
  narrow_then =
      let ne : at ≡ number → ⊥ = λ (e : at ≡ number). omega arith in
      record {
        run = λ xs. run_case (each_from number f 1 xs);
        below = λ c xs from k. counted c xs (c == number) refl from k;
        here = λ xs. passes (at == number) (length xs) (into_next s at (each_from number f 1 xs)) (eq_false at number ne) ∙ here_case (each_from number f 1 xs);
      }

-- ---- limits

lower_here : (limit at : ℕ) → at ≤ limit → lower limit at ≡ at
lower_here limit at le = here (nat_le limit at) refl
  where
    here : (b : Bool) → nat_le limit at ≡ b → (if b then limit else at) ≡ at
    here true e = let w : limit ≤ at = le_is limit at e in omega arith
    here false e = refl

lower_below : (limit at : ℕ) → limit ≤ at → lower limit at ≡ limit
lower_below limit at less = picks (nat_le limit at) limit at (le_true limit at less)

-- ---- outcomes

-- a limit that the last step is not below tells nothing of it
pub clean_below : {B K F : Type 0} (at limit : ℕ) (r : Result B (Met K F)) → ((e : Met K F) → r ≡ Err e → e.step ≡ at) → limit ≤ at → told_below (at + 1) limit r ≡ clean
clean_below at limit (Ok x) l le =
    let ne : limit ≡ at + 1 → ⊥ = λ (e : limit ≡ at + 1). omega arith in
    passes (limit == at + 1) (whole x) clean (eq_false limit (at + 1) ne)
clean_below at limit (Err e) l le = let w : e.step ≡ at = l e refl in passes (nat_lt e.step limit) (met e) clean (lt_false e.step limit (omega arith))

module _ {A M B K F : Type 0} (number at last limit : ℕ) (first : Stage A (List M) K F) (last_step : Stage M B K F) (s : Stage A B K F) (h : IsThen number at first last_step s) (leaves : LeavesAt at last_step)
    (before : (xs : List A) (e : Met K F) → first.run xs ≡ Err e → e.step < at) (is_last : last + 1 ≡ at) (within : limit ≤ at + 1) where
  told_clean : (r : Result B (Met K F)) → ((e : Met K F) → r ≡ Err e → e.step ≡ at) → limit ≤ at → told_below (at + 1) limit r ≡ clean
  told_clean r l le = clean_below at limit r l le

  -- how far the counts of the last step's outcome reach
  reach_last : (c : ℕ) (r : Result B (Met K F)) → ((e : Met K F) → r ≡ Err e → e.step ≡ at) → c ≤ reach at (by_outcome limit (told_below (at + 1) limit r)) → c ≤ at
  reach_last c r l k = by_limit (nat_le limit at) refl
    where
      full : (q : Result B (Met K F)) → ((e : Met K F) → q ≡ Err e → e.step ≡ at) → limit ≡ at + 1 → c ≤ reach at (by_outcome limit (told_below (at + 1) limit q)) → c ≤ at
      full (Ok x) l e k = subst (λ (o : Outcome B K F). c ≤ reach at (by_outcome limit o)) (picks (limit == at + 1) (whole x) clean (eq_true limit (at + 1) e)) k
      full (Err d) l e k =
          let w : d.step ≡ at = l d refl in
          let v : c ≤ d.step = subst (λ (o : Outcome B K F). c ≤ reach at (by_outcome limit o)) (picks (nat_lt d.step limit) (met d) clean (lt_true d.step limit (omega arith))) k in
          omega arith

      by_limit : (b : Bool) → nat_le limit at ≡ b → c ≤ at
      by_limit true e =
          let w : limit ≤ at = le_is limit at e in
          let v : c ≤ limit = subst (λ (o : Outcome B K F). c ≤ reach at (by_outcome limit o)) (told_clean r l w) k in
          omega arith
      by_limit false e = let w : at < limit = le_not limit at e in full r l (omega arith) k

  module _ (xs : List A) (o : Counted (List M) K F) (out : Counted B K F) (c : IsCarry number last first xs (lower limit at) o) (outcome : out.outcome ≡ next_outcome at limit last_step o.outcome)
      (same : (n : ℕ) → number ≤ n → n < at → out.into n ≡ o.into n) (here : (ys : List M) → o.outcome ≡ whole ys → out.into at ≡ last_step.into at ys) where
    -- by what the first steps give
    told_first : (q : Result (List M) (Met K F)) → first.run xs ≡ q → o.outcome ≡ told_below at (lower limit at) q
    told_first q e = c.outcome ∙ ap (λ (n : ℕ). told_below n (lower limit at) (first.run xs)) is_last ∙ ap (told_below at (lower limit at)) e

    all_first : (ys : List M) → first.run xs ≡ Ok ys → at ≤ limit → o.outcome ≡ whole ys
    all_first ys e le = told_first (Ok ys) e ∙ picks (lower limit at == at) (whole ys) clean (eq_true (lower limit at) at (lower_here limit at le))

    none_first : (ys : List M) → first.run xs ≡ Ok ys → limit < at → o.outcome ≡ clean
    none_first ys e less =
        let same : lower limit at ≡ limit = lower_below limit at (omega arith) in
        let ne : lower limit at ≡ at → ⊥ = λ (e : lower limit at ≡ at). omega arith in
        told_first (Ok ys) e ∙ passes (lower limit at == at) (whole ys) clean (eq_false (lower limit at) at ne)

    met_first : (e : Met K F) → first.run xs ≡ Err e → e.step < limit → o.outcome ≡ met e
    met_first e h less =
        let b : e.step < at = before xs e h in
        told_first (Err e) h ∙ picks (nat_lt e.step (lower limit at)) (met e) clean (lt_true e.step (lower limit at) (under (nat_le limit at) refl))
      where
        under : (b : Bool) → nat_le limit at ≡ b → e.step < (if b then limit else at)
        under true k = less
        under false k = before xs e h

    held_first : (e : Met K F) → first.run xs ≡ Err e → limit ≤ e.step → (o.outcome ≡ clean) × (lower limit at ≡ limit)
    held_first e h le =
        let b : e.step < at = before xs e h in
        let same : lower limit at ≡ limit = lower_below limit at (omega arith) in
        (told_first (Err e) h ∙ passes (nat_lt e.step (lower limit at)) (met e) clean (lt_false e.step (lower limit at) (omega arith)), same)

    left : (ys : List M) (e : Met K F) → last_step.run ys ≡ Err e → e.step ≡ at
    left ys e h = leaves ys e h

    outcome_ok : (ys : List M) → first.run xs ≡ Ok ys → (b : Bool) → nat_le at limit ≡ b → out.outcome ≡ told_below (at + 1) limit (last_step.run ys)
    outcome_ok ys e true k = outcome ∙ ap (next_outcome at limit last_step) (all_first ys e (le_is at limit k))
    outcome_ok ys e false k =
        let less : limit < at = le_not at limit k in
        outcome ∙ ap (next_outcome at limit last_step) (none_first ys e less) ∙ sym (told_clean (last_step.run ys) (left ys) (omega arith))

    outcome_err : (e : Met K F) → first.run xs ≡ Err e → (b : Bool) → nat_lt e.step limit ≡ b → out.outcome ≡ told_below (at + 1) limit (Err e)
    outcome_err e h true k =
        outcome ∙ ap (next_outcome at limit last_step) (met_first e h (lt_is e.step limit k)) ∙ sym (picks (nat_lt e.step limit) (met e) clean k)
    outcome_err e h false k =
        outcome ∙ ap (next_outcome at limit last_step) (held_first e h (lt_not e.step limit k)).0 ∙ sym (passes (nat_lt e.step limit) (met e) clean k)

    outcome_is : (q : Result (List M) (Met K F)) → first.run xs ≡ q → out.outcome ≡ told_below (at + 1) limit (q >>= last_step.run)
    outcome_is (Ok ys) e = outcome_ok ys e (nat_le at limit) refl
    outcome_is (Err d) e = outcome_err d e (nat_lt d.step limit) refl

    -- the counts
    counts_as : (n : ℕ) → number ≤ n → n < at → n ≤ reach last (by_outcome (lower limit at) o.outcome) → out.into n ≡ s.into n xs
    counts_as n from less k = same n from less ∙ c.into n from k ∙ sym (h.below n xs from less)

    reached : (n : ℕ) (w : Outcome (List M) K F) → o.outcome ≡ w → n ≤ reach last (by_outcome (lower limit at) w) → n ≤ reach last (by_outcome (lower limit at) o.outcome)
    reached n w e k = subst (λ (w : Outcome (List M) K F). n ≤ reach last (by_outcome (lower limit at) w)) (sym e) k

    at_last : (ys : List M) → first.run xs ≡ Ok ys → at ≤ limit → out.into at ≡ s.into at xs
    at_last ys e le = here ys (all_first ys e le) ∙ sym (h.here xs ∙ ap (into_next last_step at) e)

    counts_ok : (ys : List M) → first.run xs ≡ Ok ys → (n : ℕ) → number ≤ n → n ≤ reach at (by_outcome limit (told_below (at + 1) limit (last_step.run ys)))
        → (b d : Bool) → nat_le at limit ≡ b → nat_lt n at ≡ d → out.into n ≡ s.into n xs
    counts_ok ys e n from k true true i j =
        let less : n < at = lt_is n at j in
        let up : n ≤ last = omega arith in
        counts_as n from less (reached n (whole ys) (all_first ys e (le_is at limit i)) up)
    counts_ok ys e n from k true false i j =
        let up : n ≤ at = reach_last n (last_step.run ys) (left ys) k in
        let more : at ≤ n = lt_not n at j in
        let is : at ≡ n = omega arith in
        subst (λ (m : ℕ). out.into m ≡ s.into m xs) is (at_last ys e (le_is at limit i))
    counts_ok ys e n from k false d i j =
        let less : limit < at = le_not at limit i in
        let up : n ≤ limit = subst (λ (w : Outcome B K F). n ≤ reach at (by_outcome limit w)) (told_clean (last_step.run ys) (left ys) (omega arith)) k in
        let same : lower limit at ≡ limit = lower_below limit at (omega arith) in
        counts_as n from (omega arith) (reached n clean (none_first ys e less) (subst (λ (m : ℕ). n ≤ m) (sym same) up))

    counts_err : (e : Met K F) → first.run xs ≡ Err e → (n : ℕ) → number ≤ n → n ≤ reach at (by_outcome limit (told_below {B = B} (at + 1) limit (Err e))) → (b : Bool) → nat_lt e.step limit ≡ b → out.into n ≡ s.into n xs
    counts_err e h n from k true i =
        let b : e.step < at = before xs e h in
        let up : n ≤ e.step = subst (λ (w : Outcome B K F). n ≤ reach at (by_outcome limit w)) (picks (nat_lt e.step limit) (met e) clean i) k in
        counts_as n from (omega arith) (reached n (met e) (met_first e h (lt_is e.step limit i)) up)
    counts_err e h n from k false i =
        let b : e.step < at = before xs e h in
        let le : limit ≤ e.step = lt_not e.step limit i in
        let w = held_first e h le in
        let up : n ≤ limit = subst (λ (w : Outcome B K F). n ≤ reach at (by_outcome limit w)) (passes (nat_lt e.step limit) (met e) clean i) k in
        counts_as n from (omega arith) (reached n clean w.0 (subst (λ (m : ℕ). n ≤ m) (sym w.1) up))

    counts_are : (q : Result (List M) (Met K F)) → first.run xs ≡ q → (n : ℕ) → number ≤ n → n ≤ reach at (by_outcome limit (told_below (at + 1) limit (q >>= last_step.run))) → out.into n ≡ s.into n xs
    counts_are (Ok ys) e n from k = counts_ok ys e n from k (nat_le at limit) (nat_lt n at) refl refl
    counts_are (Err d) e n from k = counts_err d e n from k (nat_lt d.step limit) refl

    told : out.outcome ≡ told_below (at + 1) limit (s.run xs)
    told = outcome_is (first.run xs) refl ∙ ap (told_below (at + 1) limit) (sym (h.run xs))

    pub carry_then : IsCarry number at s xs limit out
    carry_then = record {
      outcome = told;
      into = λ n from k. counts_are (first.run xs) refl n from (subst (λ (w : Outcome B K F). n ≤ reach at (by_outcome limit w)) (outcome_is (first.run xs) refl) k);
    }
