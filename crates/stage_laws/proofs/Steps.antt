-- Steps that look at one tuple at a time, and stages of them.
use Rattle.std.proofs.Common.{◌≡◌, ℕ, suc, ◌+◌, ◌<◌, ◌≤◌, ◌==◌, Bool, true, false, nat_lt, if◌then◌else◌, List, [], ◌∷◌, ◌++◌, length, length-append, Result, Ok, Err, refl, sym, ap, ap₂, ◌∙◌, arith}
use Rattle.stage_laws.specs.Runs.{Met, ◌>>=◌, joined, met_at, each_from, each_read}
use Rattle.stage_laws.specs.Stages.{Stage, into_next, followed, ended, narrow, driver}
use Rattle.stage_laws.specs.Pieces.{further, moved, first_fault, Follow, behind}
use Rattle.stage_laws.specs.Ends.{appended}
use Rattle.stage_laws.specs.Laws.{ClearBelow, Follows, Falls}
use Rattle.stage_laws.proofs.Basics.{lt_true, lt_false, eq_true, eq_false, eq_not, picks, passes, nothing_in_front, joined_joined, moved_same}

-- its faults are met in this step
abbrev pub LeftAt : {B K F : Type 0} → ℕ → Result B (Met K F) → Type 0
LeftAt number (Ok ys) = Unit {0}
LeftAt number (Err e) = e.step ≡ number

-- what one step makes of a list behind another
pub record Splits {A M K F : Type 0} (number : ℕ) (step : List A → Result (List M) (Met K F)) (takes : List A → ℕ) : Type 0 where
  pub none : step [] ≡ Ok []
  pub none_in : takes [] ≡ 0
  pub left : (xs : List A) → LeftAt number (step xs)
  pub parts : (xs ys : List A) → step (xs ++ ys) ≡ joined (step xs) (moved (λ c. takes xs) (step ys))
  pub counts : (xs ys : List A) → takes (xs ++ ys) ≡ takes xs + takes ys

joined_left : {B K F : Type 0} (number : ℕ) (r s : Result (List B) (Met K F)) → LeftAt number r → LeftAt number s → LeftAt number (joined r s)
joined_left number (Ok xs) (Ok ys) h k = tt
joined_left number (Ok xs) (Err e) h k = k
joined_left number (Err e) s h k = h

met_left : (K : Type 0) {B F : Type 0} (number n : ℕ) (r : Result (List B) F) → LeftAt {K = K} number (met_at number n r)
met_left K number n (Ok ys) = tt
met_left K number n (Err fault) = refl

joined_moved : {B K F : Type 0} (f : ℕ → ℕ) (r s : Result (List B) (Met K F)) → joined (moved f r) (moved f s) ≡ moved f (joined r s)
joined_moved f (Ok xs) (Ok ys) = refl
joined_moved f (Ok xs) (Err e) = refl
joined_moved f (Err e) s = refl

module _ {A B F : Type 0} (K : Type 0) (number : ℕ) (f : A → Result (List B) F) where
  -- ---- each tuple at its place

  each_behind : (n : ℕ) (xs ys : List A) → each_from {K = K} number f n (xs ++ ys) ≡ joined (each_from number f n xs) (each_from number f (n + length xs) ys)
  each_behind n [] ys =
      let e : n + 0 ≡ n = omega arith in
      ap (λ (k : ℕ). each_from number f k ys) (sym e) ∙ sym (nothing_in_front (each_from number f (n + 0) ys))
  each_behind n (x ∷ xs) ys =
      let e : n + 1 + length xs ≡ n + suc (length xs) = omega arith in
      ap (joined (met_at number n (f x))) (each_behind (n + 1) xs ys ∙ ap (λ (k : ℕ). joined (each_from number f (n + 1) xs) (each_from number f k ys)) e)
      ∙ joined_joined (met_at number n (f x)) (each_from number f (n + 1) xs) (each_from number f (n + suc (length xs)) ys)

  met_moved : (n count : ℕ) (r : Result (List B) F) → met_at {K = K} number (n + count) r ≡ moved (λ c. count) (met_at number n r)
  met_moved n count (Ok ys) = refl
  met_moved n count (Err fault) = ap (λ (k : ℕ). Err (record { step = number; tuple = k; fault = fault; seen = [] })) (omega arith)

  each_moved : (n count : ℕ) (ys : List A) → each_from {K = K} number f (n + count) ys ≡ moved (λ c. count) (each_from number f n ys)
  each_moved n count [] = refl
  each_moved n count (y ∷ ys) =
      let e : n + count + 1 ≡ n + 1 + count = omega arith in
      ap₂ joined (met_moved n count (f y)) (ap (λ (m : ℕ). each_from number f m ys) e ∙ each_moved (n + 1) count ys)
      ∙ joined_moved (λ c. count) (met_at number n (f y)) (each_from number f (n + 1) ys)

  each_left : (n : ℕ) (ys : List A) → LeftAt {K = K} number (each_from number f n ys)
  each_left n [] = tt
  each_left n (y ∷ ys) = joined_left number (met_at number n (f y)) (each_from number f (n + 1) ys) (met_left K number n (f y)) (each_left (n + 1) ys)

  pub each_splits : Splits {K = K} number (each_from number f 1) length
  each_splits = record {
    none = refl;
    none_in = refl;
    left = each_left 1;
    parts = λ xs ys. each_behind 1 xs ys ∙ ap (joined (each_from number f 1 xs)) (each_moved 1 (length xs) ys);
    counts = λ xs ys. length-append xs ys;
  }

  -- ---- each line of a driver

  zero_moved : (r : Result (List B) (Met K F)) → moved (λ c. 0) r ≡ r
  zero_moved (Ok ys) = refl
  zero_moved (Err e) = ap (λ (k : ℕ). Err (record e { tuple = k })) (omega arith)

  pub read_behind : (xs ys : List A) → each_read {K = K} number f (xs ++ ys) ≡ joined (each_read number f xs) (each_read number f ys)
  read_behind [] ys = sym (nothing_in_front (each_read number f ys))
  read_behind (x ∷ xs) ys =
      ap (joined (met_at number 1 (f x))) (read_behind xs ys)
      ∙ joined_joined (met_at number 1 (f x)) (each_read number f xs) (each_read number f ys)

  read_left : (ys : List A) → LeftAt {K = K} number (each_read number f ys)
  read_left [] = tt
  read_left (y ∷ ys) = joined_left number (met_at number 1 (f y)) (each_read number f ys) (met_left K number 1 (f y)) (read_left ys)

  pub read_splits : Splits {K = K} number (each_read number f) (λ xs. 0)
  read_splits = record {
    none = refl;
    none_in = refl;
    left = read_left;
    parts = λ xs ys. read_behind xs ys ∙ ap (joined (each_read number f xs)) (sym (zero_moved (each_read number f ys)));
    counts = λ xs ys. refl;
  }

-- ---- no step is left

pub appended_follows : {B K F : Type 0} (last : ℕ) → Follows {B = List B} {K = K} {F = F} last appended
appended_follows last = record {
  leaves = λ xs e h. refl;
  faults = λ xs e. (e, refl, refl);
  clash = λ xs ys e h. absurd cc;
}

pub ended_falls : {B K F : Type 0} (first last : ℕ) → Falls {A = B} {B = List B} {K = K} {F = F} first last [] appended ended
ended_falls first last = record {
  none = refl;
  none_in = λ c. refl;
  outside = λ c xs h. refl;
  steps = λ xs e h. absurd cc;
  parts = λ xs ys. refl;
  counts = λ c xs ys h k. refl;
  before = λ xs e h. refl;
  follows = appended_follows last;
}

-- ---- a step, and those behind it

module _ {A M B K F : Type 0} (number first last : ℕ) (empty : B) (follow : Follow B K F) (step : List A → Result (List M) (Met K F)) (takes : List A → ℕ) (rest : Stage M B K F) (splits : Splits number step takes) (falls : Falls first last empty follow rest) (less : number < first) (up : number ≤ last) where
  rest_steps : (q : Result (List M) (Met K F)) (e : Met K F) → LeftAt number q → (q >>= rest.run) ≡ Err e → (number ≤ e.step) × (e.step ≤ last)
  rest_steps (Ok xs) e l h =
      let w = falls.steps xs e h in
      let a : first ≤ e.step = w.0 in
      (omega arith, w.1)
  rest_steps (Err d) e l h =
      let same : d ≡ e = cc in
      let a : e.step ≡ number = ap (λ (m : Met K F). m.step) (sym same) ∙ l in
      (omega arith, omega arith)

  abbrev counted : ℕ → Result (List M) (Met K F) → ℕ → ℕ
  counted t q c = if c == number then t else into_next rest c q

  two_faults : (d e : Met K F) → e.step < d.step → first_fault {B = B} d (Err e) ≡ e
  two_faults d e h = picks (nat_lt e.step d.step) e d (lt_true e.step d.step h)

  first_stays : (d : Met K F) (r : Result B (Met K F)) (f : ℕ → ℕ) → ((e : Met K F) → r ≡ Err e → d.step ≤ e.step) → first_fault d (moved f r) ≡ d
  first_stays d (Ok ys) f h = refl
  first_stays d (Err e) f h = passes (nat_lt e.step d.step) (further f e) d (lt_false e.step d.step (h e refl))

  -- a fault of this step behind what went on
  stops : (q : Result B (Met K F)) (e : Met K F) → e.step ≡ number → ((d : Met K F) → q ≡ Err d → first ≤ d.step) → behind follow q (Err e) ≡ Err e
  stops (Ok a) e h k = falls.before a e (omega arith)
  stops (Err d) e h k = let w : first ≤ d.step = k d refl in ap Err (two_faults d e (omega arith))

  parts_case : (t : ℕ) (q r : Result (List M) (Met K F)) → LeftAt number q → LeftAt number r
      → (joined q (moved (λ c. t) r) >>= rest.run) ≡ behind follow (q >>= rest.run) (moved (counted t q) (r >>= rest.run))
  parts_case t (Ok xs) (Ok ys) l m =
      falls.parts xs ys
      ∙ ap (behind follow (rest.run xs)) (moved_same (λ c. rest.into c xs) (counted t (Ok xs)) (rest.run ys) (λ e h.
      let w = falls.steps ys e h in
      let a : first ≤ e.step = w.0 in
      let b : e.step ≡ number → ⊥ = λ (b : e.step ≡ number). omega arith in
      sym (passes (e.step == number) t (rest.into e.step xs) (eq_false e.step number b))))
  parts_case t (Ok xs) (Err e) l m =
      let same : counted t (Ok xs) e.step ≡ t = picks (e.step == number) t (rest.into e.step xs) (eq_true e.step number m) in
      sym (ap (λ (k : ℕ). behind follow (rest.run xs) (Err (record e { tuple = k + e.tuple }))) same
      ∙ stops (rest.run xs) (record e { tuple = t + e.tuple }) m (λ d h. (falls.steps xs d h).0))
  parts_case t (Err d) r l m =
      sym (ap Err (first_stays d (r >>= rest.run) (counted t (Err d)) (λ e h.
      let w = rest_steps r e m h in
      let a : number ≤ e.step = w.0 in
      let b : d.step ≡ number = l in omega arith)))

  next_counts : (c : ℕ) (q r : Result (List M) (Met K F)) (f : ℕ → ℕ) → (c ≡ number → ⊥) → LeftAt number q → LeftAt number r → ClearBelow c (q >>= rest.run) → ClearBelow c (r >>= rest.run)
      → into_next rest c (joined q (moved f r)) ≡ into_next rest c q + into_next rest c r
  next_counts c (Ok xs) (Ok ys) f ne l m h k = falls.counts c xs ys h k
  next_counts c (Ok xs) (Err e) f ne l m h k =
      let a : e.step ≡ number = m in
      let b : c ≤ e.step = k in
      let z : rest.into c xs ≡ 0 = falls.outside c xs (omega arith) in
      omega arith
  next_counts c (Err d) (Ok ys) f ne l m h k =
      let a : d.step ≡ number = l in
      let b : c ≤ d.step = h in
      let z : rest.into c ys ≡ 0 = falls.outside c ys (omega arith) in
      omega arith
  next_counts c (Err d) (Err e) f ne l m h k = refl

  counts_case : (c : ℕ) (xs ys : List A) (b : Bool) → (c == number) ≡ b → ClearBelow c (step xs >>= rest.run) → ClearBelow c (step ys >>= rest.run)
      → (if b then takes (xs ++ ys) else into_next rest c (step (xs ++ ys))) ≡ (if b then takes xs else into_next rest c (step xs)) + (if b then takes ys else into_next rest c (step ys))
  counts_case c xs ys true is h k = splits.counts xs ys
  counts_case c xs ys false is h k =
      ap (into_next rest c) (splits.parts xs ys)
      ∙ next_counts c (step xs) (step ys) (λ i. takes xs) (eq_not c number is) (splits.left xs) (splits.left ys) h k

  none_case : (c : ℕ) (b : Bool) → (if b then takes [] else into_next rest c (step [])) ≡ 0
  none_case c true = splits.none_in
  none_case c false = ap (into_next rest c) splits.none ∙ falls.none_in c

  outside_next : (c : ℕ) (q : Result (List M) (Met K F)) → c < number → into_next rest c q ≡ 0
  outside_next c (Ok xs) h = falls.outside c xs (omega arith)
  outside_next c (Err e) h = refl

  pub followed_falls : Falls number last empty follow (followed number step takes rest)
  followed_falls = record {
    none = ap (λ (r : Result (List M) (Met K F)). r >>= rest.run) splits.none ∙ falls.none;
    none_in = λ c. none_case c (c == number);
    outside = λ c xs h.
        let ne : c ≡ number → ⊥ = λ (e : c ≡ number). omega arith in
        passes (c == number) (takes xs) (into_next rest c (step xs)) (eq_false c number ne) ∙ outside_next c (step xs) h;
    steps = λ xs e h. rest_steps (step xs) e (splits.left xs) h;
    parts = λ xs ys. ap (λ (r : Result (List M) (Met K F)). r >>= rest.run) (splits.parts xs ys) ∙ parts_case (takes xs) (step xs) (step ys) (splits.left xs) (splits.left ys);
    counts = λ c xs ys h k. counts_case c xs ys (c == number) refl h k;
    before = λ xs e h. falls.before xs e (omega arith);
    follows = falls.follows;
  }

pub narrow_falls : {A M B K F : Type 0} (number first last : ℕ) (empty : B) (follow : Follow B K F) (f : A → Result (List M) F) (rest : Stage M B K F) → Falls first last empty follow rest → number < first → number ≤ last → Falls number last empty follow (narrow number f rest)
narrow_falls {A} {M} {B} {K} {F} number first last empty follow f rest falls less up = followed_falls number first last empty follow (each_from number f 1) length rest (each_splits K number f) falls less up

pub driver_falls : {A M B K F : Type 0} (number first last : ℕ) (empty : B) (follow : Follow B K F) (f : A → Result (List M) F) (rest : Stage M B K F) → Falls first last empty follow rest → number < first → number ≤ last → Falls number last empty follow (driver number f rest)
driver_falls {A} {M} {B} {K} {F} number first last empty follow f rest falls less up = followed_falls number first last empty follow (each_read number f) (λ xs. 0) rest (read_splits K number f) falls less up
