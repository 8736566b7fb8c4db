-- What a driver tells at a limit: its own step, and what those after it tell.
use Rattle.std.proofs.Common.{◌≡◌, ℕ, ◌+◌, ◌<◌, ◌≤◌, ◌==◌, Bool, true, false, nat_lt, if◌then◌else◌, List, Result, Ok, Err, refl, sym, ap, ◌∙◌, subst, arith}
use Rattle.stage_laws.specs.Runs.{Met, ◌>>=◌, each_read}
use Rattle.stage_laws.specs.Stages.{Stage, into_next, driver}
use Rattle.stage_laws.specs.Pieces.{Follow, whole, met, clean, Counted, told_below, by_outcome}
use Rattle.stage_laws.specs.Laws.{Falls, IsCarry, reach}
use Rattle.stage_laws.proofs.Basics.{lt_true, lt_false, eq_true, eq_false, eq_is, eq_not, picks, passes}
use Rattle.stage_laws.proofs.Steps.{LeftAt, read_splits, driver_falls}

-- no fault of a list leaves a step before this one
abbrev pub FaultsFrom : {B K F : Type 0} → ℕ → Result B (Met K F) → Type 0
FaultsFrom c (Ok ys) = Unit {0}
FaultsFrom c (Err e) = c ≤ e.step

-- at a limit that is not past these faults, nothing is told
pub told_clean : {B K F : Type 0} (last limit c : ℕ) (q : Result B (Met K F)) → limit ≤ c → limit ≤ last → FaultsFrom c q → told_below (last + 1) limit q ≡ clean
told_clean last limit c (Ok ys) l u h =
    let ne : limit ≡ last + 1 → ⊥ = λ (e : limit ≡ last + 1). omega arith in
    passes (limit == last + 1) (whole ys) clean (eq_false limit (last + 1) ne)
told_clean last limit c (Err e) l u h =
    passes (nat_lt e.step limit) (met e) clean (lt_false e.step limit (omega arith))

module _ {A M B K F : Type 0} (n last : ℕ) (f : A → Result (List M) F) (rest : Stage M B K F) (xs : List A) where
  -- the driver itself takes in no tuple
  own_into : (driver n f rest).into n xs ≡ 0
  own_into = picks (n == n) 0 (into_next rest n (each_read n f xs)) (eq_true n n refl)

  -- its own step is not below the limit
  pub held : (limit : ℕ) (into : ℕ → ℕ) → limit ≤ n → n ≤ last → FaultsFrom n ((driver n f rest).run xs) → into n ≡ 0
      → IsCarry n last (driver n f rest) xs limit (record { outcome = clean; into = into })
  held limit into l u h z = record {
    outcome = sym (told_clean last limit n ((driver n f rest).run xs) l (omega arith) h);
    into = λ c a b.
        let e : c ≡ n = omega arith in
        ap into e ∙ z ∙ sym own_into ∙ ap (λ (c : ℕ). (driver n f rest).into c xs) (sym e);
  }

  abbrev pub step_run : Result (List M) (Met K F)
  step_run = each_read n f xs

  -- its own step faults, below the limit
  pub faulted : (limit : ℕ) (e : Met K F) (into : ℕ → ℕ) → step_run ≡ Err e → n < limit → into n ≡ 0
      → IsCarry n last (driver n f rest) xs limit (record { outcome = met e; into = into })
  faulted limit e into is l z =
      let at : e.step ≡ n = subst (LeftAt n) is ((read_splits K n f).left xs) in
      record {
        outcome = sym (ap (λ (q : Result (List M) (Met K F)). told_below (last + 1) limit (q >>= rest.run)) is
            ∙ picks (nat_lt e.step limit) (met e) clean (lt_true e.step limit (omega arith)));
        into = λ c a b.
            let s : c ≡ n = omega arith in
            ap into s ∙ z ∙ sym own_into ∙ ap (λ (c : ℕ). (driver n f rest).into c xs) (sym s);
      }

  -- its own step gives a list, and the rest goes on with that
  pub goes_on : (limit : ℕ) (ys : List M) (out : Counted B K F) → step_run ≡ Ok ys → IsCarry (n + 1) last rest ys limit out → out.into n ≡ 0
      → IsCarry n last (driver n f rest) xs limit out
  goes_on limit ys out is h z = record {
    outcome = h.outcome ∙ sym (ap (λ (q : Result (List M) (Met K F)). told_below (last + 1) limit (q >>= rest.run)) is);
    into = λ c a b. into_case c a b (c == n) refl;
  } where
    into_case : (c : ℕ) → n ≤ c → c ≤ reach last (by_outcome limit out.outcome) → (b : Bool) → (c == n) ≡ b → out.into c ≡ (if b then 0 else into_next rest c step_run)
    into_case c a b true e = ap out.into (eq_is c n e) ∙ z
    into_case c a b false e =
        let ne = eq_not c n e in
        h.into c (omega arith) b ∙ ap (into_next rest c) (sym is)

  -- where the rest falls into pieces, no fault is in an earlier step
  faults_from : (empty : B) (follow : Follow B K F) → Falls n last empty follow (driver n f rest) → (q : Result B (Met K F)) → (driver n f rest).run xs ≡ q → FaultsFrom n q
  faults_from empty follow falls (Ok ys) h = tt
  faults_from empty follow falls (Err e) h = (falls.steps xs e h).0

  pub held_by : (empty : B) (follow : Follow B K F) → Falls (n + 1) last empty follow rest → (limit : ℕ) (into : ℕ → ℕ) → limit ≤ n → n ≤ last → into n ≡ 0
      → IsCarry n last (driver n f rest) xs limit (record { outcome = clean; into = into })
  held_by empty follow falls limit into l u z =
      held limit into l u (faults_from empty follow (driver_falls n (n + 1) last empty follow f rest falls (omega arith) u) ((driver n f rest).run xs) refl) z
