-- What is kept of lists, results, numbers, and `carry` step by step.
use Rattle.std.proofs.Common.{◌≡◌, ℕ, suc, ◌+◌, ◌<◌, ◌≤◌, ◌==◌, Bool, true, false, nat_lt, if◌then◌else◌, List, [], ◌∷◌, ◌++◌, length, Result, Ok, Err, refl, sym, ap, ◌∙◌, arith}
use Rattle.std.proofs.lemmas.Bool.Decides.{nat_tests}
use Rattle.stage_laws.specs.Runs.{Met, ◌>>=◌, each_from, each_read}
use Rattle.stage_laws.specs.Stages.{Stage, viewed, kept_as}
use Rattle.stage_laws.specs.Pieces.{whole, met, clean, told_below, step_below, moved, Follow, behind}
use Rattle.stage_laws.specs.Ends.{appended, merged, Merges, result_of, numbered_from}
use Rattle.stage_laws.specs.Laws.{ClearBelow, Follows, Falls, TellsStepByStep, StagesFallIntoPieces, OutcomesTell, ResultsAreOne, StepsBelowTell, NumbersGoOn}
use Rattle.stage_laws.proofs.Basics.{lt_false, eq_false, passes}
use Rattle.stage_laws.proofs.Steps.{Splits, LeftAt, each_splits, read_splits, ended_falls, narrow_falls, driver_falls}
use Rattle.stage_laws.proofs.Orders.{ordered_falls}
use Rattle.stage_laws.proofs.Enough.{gathers}

-- ---- what is kept

pub merged_follows : {W K F : Type 0} (last : ℕ) (merge : W → W → W) → Follows {K = K} {F = F} last (merged merge)
merged_follows last merge = record {
  leaves = λ x e h. refl;
  faults = λ x e. (e, refl, refl);
  clash = λ x y e h. absurd cc;
}

module _ {A B W K F : Type 0} (first last : ℕ) (view : List B → W) (merge : W → W → W) (s : Stage A (List B) K F) (merges : Merges view merge) (falls : Falls first last [] appended s) where
  viewed_fault : (q : Result (List B) (Met K F)) (e : Met K F) → viewed view q ≡ Err e → q ≡ Err e
  viewed_fault (Ok xs) e h = absurd cc
  viewed_fault (Err d) e h = cc

  viewed_clear : (c : ℕ) (q : Result (List B) (Met K F)) → ClearBelow c (viewed view q) → ClearBelow c q
  viewed_clear c (Ok xs) h = tt
  viewed_clear c (Err d) h = h

  viewed_behind : (f : ℕ → ℕ) (q r : Result (List B) (Met K F)) → viewed view (behind appended q (moved f r)) ≡ behind (merged merge) (viewed view q) (moved f (viewed view r))
  viewed_behind f (Ok xs) (Ok ys) = ap Ok (sym (merges xs ys))
  viewed_behind f (Ok xs) (Err e) = refl
  viewed_behind f (Err d) (Ok ys) = refl
  viewed_behind f (Err d) (Err e) = refl

  pub kept_falls : Falls first last (view []) (merged merge) (kept_as view s)
  kept_falls = record {
    none = ap (viewed view) falls.none;
    none_in = falls.none_in;
    outside = falls.outside;
    steps = λ xs e h. falls.steps xs e (viewed_fault (s.run xs) e h);
    parts = λ xs ys. ap (viewed view) (falls.parts xs ys) ∙ viewed_behind (λ c. s.into c xs) (s.run xs) (s.run ys);
    counts = λ c xs ys h k. falls.counts c xs ys (viewed_clear c (s.run xs) h) (viewed_clear c (s.run ys) k);
    before = λ x e h. refl;
    follows = merged_follows last merge;
  }

-- ---- `carry` step by step

module _ {A M B K F : Type 0} (number first last : ℕ) (empty : B) (follow : Follow B K F) (step : List A → Result (List M) (Met K F)) (takes : List A → ℕ) (rest : Stage M B K F) (splits : Splits number step takes) (falls : Falls first last empty follow rest) (less : number < first) (up : number ≤ last) where
  none_told : (limit : ℕ) (q : Result B (Met K F)) → limit ≤ number → ((e : Met K F) → q ≡ Err e → first ≤ e.step) → told_below (last + 1) limit q ≡ clean
  none_told limit (Ok ys) h k =
      let ne : limit ≡ last + 1 → ⊥ = λ (e : limit ≡ last + 1). omega arith in
      passes (limit == last + 1) (whole ys) clean (eq_false limit (last + 1) ne)
  none_told limit (Err e) h k =
      let le : first ≤ e.step = k e refl in
      passes (nat_lt e.step limit) (met e) clean (lt_false e.step limit (omega arith))

  goes_ok : (limit : ℕ) (ys : List M) (b : Bool) → nat_lt number limit ≡ b → told_below (last + 1) limit (rest.run ys) ≡ (if b then told_below (last + 1) limit (rest.run ys) else clean)
  goes_ok limit ys true h = refl
  goes_ok limit ys false h = none_told limit (rest.run ys) (grind (arith, nat_tests)) (λ e k. (falls.steps ys e k).0)

  goes_on : (limit : ℕ) (q : Result (List M) (Met K F)) → LeftAt number q → told_below (last + 1) limit (q >>= rest.run) ≡ step_below limit number q (λ ys. told_below (last + 1) limit (rest.run ys))
  goes_on limit (Ok ys) l = goes_ok limit ys (nat_lt number limit) refl
  goes_on limit (Err e) l = ap (λ (n : ℕ). if nat_lt n limit then met e else clean) l

  carry_goes_on : TellsStepByStep number last step takes rest
  carry_goes_on limit xs = goes_on limit (step xs) (splits.left xs)

pub steps_below_tell : (A M W K F : Type 0) → StepsBelowTell A M W K F
steps_below_tell A M W K F number first last empty follow f rest falls less up = (
  carry_goes_on number first last empty follow (each_from number f 1) length rest (each_splits K number f) falls less up,
  carry_goes_on number first last empty follow (each_read number f) (λ xs. 0) rest (read_splits K number f) falls less up,
)

-- ---- the laws

pub stages_fall_into_pieces : (A M B W K F : Type 0) → StagesFallIntoPieces A M B W K F
stages_fall_into_pieces A M B W K F = record {
  ended = ended_falls;
  ordered = λ number keys clash stay. ordered_falls number keys clash stay;
  narrow = narrow_falls;
  driver = driver_falls;
  kept = λ first last view merge s merges falls. kept_falls first last view merge s merges falls;
}

pub outcomes_tell : (A W K F : Type 0) → OutcomesTell A W K F
outcomes_tell A W K F first last empty follow s falls = gathers first last empty follow s falls

pub results_are_one : (A W C K F : Type 0) → ResultsAreOne A W C K F
results_are_one A W C K F first last empty follow s mark finish pieces ds falls within are en =
    ap (result_of mark finish) ((gathers first last empty follow s falls).whole pieces ds within are en)

pub numbers_go_on : (A B : Type 0) → NumbersGoOn A B
numbers_go_on A B bind n [] ys = ap (λ (k : ℕ). numbered_from bind k ys) (omega arith)
numbers_go_on A B bind n (x ∷ xs) ys =
    let e : n + 1 + length xs ≡ n + suc (length xs) = omega arith in
    ap (λ (l : List B). bind n x ∷ l) (numbers_go_on A B bind (n + 1) xs ys ∙ ap (λ (k : ℕ). numbered_from bind (n + 1) xs ++ numbered_from bind k ys) e)
