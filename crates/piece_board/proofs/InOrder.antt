-- One thread that runs all pieces in order.
use Rattle.std.proofs.Common.{◌≡◌, ◌<◌, ◌≤◌, ◌+◌, ◌==◌, ◌⊎◌, nat_lt, ℕ, zero, suc, Bool, true, false, if◌then◌else◌, List, [], ◌∷◌, ◌++◌, length, slice_get, Option, None, Some, refl, ap, ◌∙◌, sym, subst, inl, inr, arith, length-append, IfSome}
use Rattle.std.proofs.lemmas.Grind.{common_steps}
use Rattle.std.proofs.lemmas.Bool.Decides.{nat_tests}
use Rattle.std.proofs.lemmas.List.Sums.{sum_by-append}
use Rattle.std.proofs.lemmas.List.{append-nil}
use Rattle.std.specs.Option.{option_to_list}
use Rattle.fault_merge.specs.declared.at.At.{At}
use Rattle.board_core.specs.declared.state.CoreState.{CoreState}
use Rattle.board_core.specs.declared.event.CoreEvent.{CoreEvent}
use Rattle.board_core.specs.declared.event.CoreEvent.TheVariants.{Took, Told, Stopped}
use Rattle.fault_merge.specs.Places.{least_of, is_before}
use Rattle.board_core.specs.Core.{stepped, limit_of}
use Rattle.board_core.proofs.Replays.{step_took}
use Rattle.fault_merge.specs.declared.done.Done.{Done}
use Rattle.piece_board.specs.Boards.{Logged, Replays, told_count, after_tell, reported}
use Rattle.piece_board.specs.Whole.{IsAt, IsWhole}
use Rattle.board_core.specs.Schedules.{limits_of, tells_of, is_told}

pub limits_of-append : (p : ℕ) (es fs : List CoreEvent) → limits_of p (es ++ fs) ≡ limits_of p es ++ limits_of p fs
limits_of-append p [] fs = refl
limits_of-append p (Took q l ∷ es) fs =
    elim (q == p) as (λ b. (if b then l ∷ limits_of p (es ++ fs) else limits_of p (es ++ fs)) ≡ (if b then l ∷ limits_of p es else limits_of p es) ++ limits_of p fs)
    [ true ↦ ap (λ (w : List ℕ). l ∷ w) (limits_of-append p es fs) | false ↦ limits_of-append p es fs ]
limits_of-append p (Told c q ∷ es) fs = limits_of-append p es fs
limits_of-append p (Stopped ∷ es) fs = limits_of-append p es fs

pub tells_of-append : (p : ℕ) (es fs : List CoreEvent) → tells_of p (es ++ fs) ≡ tells_of p es ++ tells_of p fs
tells_of-append p [] fs = refl
tells_of-append p (Told c q ∷ es) fs =
    elim (q == p) as (λ b. (if b then c ∷ tells_of p (es ++ fs) else tells_of p (es ++ fs)) ≡ (if b then c ∷ tells_of p es else tells_of p es) ++ tells_of p fs)
    [ true ↦ ap (λ (w : List ℕ). c ∷ w) (tells_of-append p es fs) | false ↦ tells_of-append p es fs ]
tells_of-append p (Took q l ∷ es) fs = tells_of-append p es fs
tells_of-append p (Stopped ∷ es) fs = tells_of-append p es fs

-- what stands at a place of a list with one more element
pub slice_get-push : {X : Type 0} (xs : List X) (y : X) (p : ℕ) (d : X) → slice_get (xs ++ y ∷ []) p ≡ Some d
    → (slice_get xs p ≡ Some d) × (p < length xs) ⊎ (p ≡ length xs) × (d ≡ y)
slice_get-push [] y zero d e = inr (refl, cc)
slice_get-push [] y (suc p) d e = absurd cc
slice_get-push (x ∷ xs) y zero d e = inl (e, omega arith)
slice_get-push (x ∷ xs) y (suc p) d e =
    elim (slice_get-push xs y p d e) as (λ _. (slice_get xs p ≡ Some d) × (suc p < length (x ∷ xs)) ⊎ (suc p ≡ length (x ∷ xs)) × (d ≡ y))
    [ inl h ↦ inl (h.0, omega (arith, h.1)) | inr h ↦ inr (omega (arith, h.0), h.1) ]

-- after i pieces
pub record InOrder {O : Type 0} (tells : O → Option ℕ) (good : ℕ → ℕ → O → Type 0) (total full : ℕ) (done : List (Done O)) (b : Logged) (i : ℕ) : Type 0 where
  pub of_total : b.state.total ≡ total
  pub of_full : b.state.full ≡ full
  pub next : b.state.next ≡ i
  pub going : b.state.stopped ≡ false
  pub few : told_count b.log ≤ i
  pub count : length done ≡ i
  pub limit : limit_of b.state.full b.state.least ≤ full
  pub each : (p : ℕ) (d : Done O) → slice_get done p ≡ Some d → IsAt tells good b.log p d
  pub later : (p : ℕ) → i ≤ p → (limits_of p b.log ≡ []) × (tells_of p b.log ≡ [])

-- a tell that finds room and is allowed
pub tell_is : (b : Logged) (k i : ℕ) → told_count b.log < b.state.total → i < b.state.next → k < b.state.full
    → after_tell b (Told k i) ≡ record { state = record b.state { least = Some (least_of b.state.least (record { clause = k; piece = i })) }; log = b.log ++ Told k i ∷ [] }
tell_is b k i room taken below =
    let e1 : nat_lt (told_count b.log) b.state.total ≡ true = grind (arith, nat_tests) in
    let e2 : nat_lt i b.state.next ≡ true = grind (arith, nat_tests) in
    let e3 : nat_lt k b.state.full ≡ true = grind (arith, nat_tests) in
    rw (e1, e2, e3) refl

limit_chosen : (c : Bool) (a b : At) (full : ℕ) → a.clause ≤ full → b.clause ≤ full → limit_of full (Some (if c then b else a)) ≤ full
limit_chosen true a b full h k = k
limit_chosen false a b full h k = h

pub limit_least : (o : Option At) (b : At) (full : ℕ) → limit_of full o ≤ full → b.clause < full → limit_of full (Some (least_of o b)) ≤ full
limit_least None b full h k = omega arith
limit_least (Some a) b full h k = limit_chosen (is_before b a) a b full h (omega arith)

-- the lists of a piece after one more event
pub limits_same : (p : ℕ) (es : List CoreEvent) (q l : ℕ) → (p ≡ q → ⊥) → limits_of p (es ++ Took q l ∷ []) ≡ limits_of p es
limits_same p es q l ne =
    let e : (q == p) ≡ false = grind (arith, nat_tests) in
    limits_of-append p es (Took q l ∷ []) ∙ rw e (grind (arith, common_steps))

pub tells_same : (p : ℕ) (es : List CoreEvent) (k q : ℕ) → (p ≡ q → ⊥) → tells_of p (es ++ Told k q ∷ []) ≡ tells_of p es
tells_same p es k q ne =
    let e : (q == p) ≡ false = grind (arith, nat_tests) in
    tells_of-append p es (Told k q ∷ []) ∙ rw e (grind (arith, common_steps))

-- the log after a piece was taken and reported
abbrev log_after : List CoreEvent → ℕ → ℕ → Option ℕ → List CoreEvent
log_after es i l None = es ++ Took i l ∷ []
log_after es i l (Some k) = (es ++ Took i l ∷ []) ++ Told k i ∷ []

limits_after : (p : ℕ) (es : List CoreEvent) (i l : ℕ) (o : Option ℕ) → limits_of p (log_after es i l o) ≡ limits_of p es ++ limits_of p (Took i l ∷ [])
limits_after p es i l None = limits_of-append p es (Took i l ∷ [])
limits_after p es i l (Some k) =
    limits_of-append p (es ++ Took i l ∷ []) (Told k i ∷ []) ∙ (grind (arith, common_steps)) ∙ limits_of-append p es (Took i l ∷ [])

tells_after : (p : ℕ) (es : List CoreEvent) (i l : ℕ) (o : Option ℕ) → tells_of p (log_after es i l o) ≡ tells_of p es ++ (if i == p then option_to_list o else [])
tells_after p es i l None =
    elim (i == p) as (λ b. tells_of p (es ++ Took i l ∷ []) ≡ tells_of p es ++ (if b then [] else []))
    [ true ↦ tells_of-append p es (Took i l ∷ []) | false ↦ tells_of-append p es (Took i l ∷ []) ]
tells_after p es i l (Some k) =
    tells_of-append p (es ++ Took i l ∷ []) (Told k i ∷ []) ∙ ap (λ (w : List ℕ). w ++ (if i == p then k ∷ [] else [])) (tells_of-append p es (Took i l ∷ []) ∙ grind (arith, common_steps))

told_count-push : (es : List CoreEvent) (e : CoreEvent) → told_count (es ++ e ∷ []) ≡ told_count es + (if is_told e then 1 else 0)
told_count-push es e = omega (arith, sum_by-append (λ (x : CoreEvent). if is_told x then 1 else 0) es (e ∷ []))

-- what a piece that was taken and reported leaves
pub record Reported (s : CoreState) (log : List CoreEvent) (i l : ℕ) (o : Option ℕ) (b : Logged) : Type 0 where
  pub log_is : b.log ≡ log_after log i l o
  pub of_total : b.state.total ≡ s.total
  pub of_full : b.state.full ≡ s.full
  pub next : b.state.next ≡ i + 1
  pub going : b.state.stopped ≡ false
  pub limit : limit_of b.state.full b.state.least ≤ s.full
  pub few : told_count b.log ≤ told_count log + 1

pub report_is : (b b1 : Logged) (i l : ℕ) (o : Option ℕ) → told_count b.log < b.state.total → limit_of b.state.full b.state.least ≤ b.state.full
    → IfSome o (λ k. k < l) → stepped b.state (Took i l) ≡ Some b1.state → b1.log ≡ b.log ++ Took i l ∷ [] → Reported b.state b.log i l o (reported b1 o i)
report_is b b1 i l None room low below e el =
    let h = step_took b.state b1.state i l e in
    record {
      log_is = el;
      of_total = ap (λ s. s.total) h.left;
      of_full = ap (λ s. s.full) h.left;
      next = ap (λ s. s.next) h.left;
      going = ap (λ s. s.stopped) h.left ∙ h.going;
      limit = let P : CoreState → Type 0 = λ s. limit_of s.full s.least ≤ b.state.full in subst P (sym h.left) low;
      few = omega (arith, ap told_count el, told_count-push b.log (Took i l));
    }
report_is b b1 i l (Some k) room low below e el =
    let h = step_took b.state b1.state i l e in
    let t : b1.state.total ≡ b.state.total = ap (λ s. s.total) h.left in
    let f : b1.state.full ≡ b.state.full = ap (λ s. s.full) h.left in
    let n : b1.state.next ≡ i + 1 = ap (λ s. s.next) h.left in
    let m : b1.state.least ≡ b.state.least = ap (λ s. s.least) h.left in
    let at : l ≡ limit_of b.state.full b.state.least = h.at in
    let c : told_count b1.log ≡ told_count b.log = omega (arith, ap told_count el, told_count-push b.log (Took i l)) in
    let is = tell_is b1 k i (omega arith) (omega arith) (omega arith) in
    rw is (record {
      log_is = ap (λ (w : List CoreEvent). w ++ Told k i ∷ []) el;
      of_total = t;
      of_full = f;
      next = n;
      going = ap (λ s. s.stopped) h.left ∙ h.going;
      limit = rw (f, m) (limit_least b.state.least (record { clause = k; piece = i }) b.state.full low (omega arith));
      few = omega (arith, told_count-push b1.log (Told k i));
    })

none_of : (p i l : ℕ) → (p ≡ i → ⊥) → limits_of p (Took i l ∷ []) ≡ []
none_of p i l ne = let e : (i == p) ≡ false = grind (arith, nat_tests) in rw e refl

one_of : (i l : ℕ) → limits_of i (Took i l ∷ []) ≡ l ∷ []
one_of i l = let e : (i == i) ≡ true = grind (arith, nat_tests) in rw e refl

pub in_order_next : {O : Type 0} (tells : O → Option ℕ) (good : ℕ → ℕ → O → Type 0) (total full : ℕ) (done : List (Done O)) (b b1 : Logged) (i l : ℕ) (out : O)
    → InOrder tells good total full done b i → i < total → good i l out → IfSome (tells out) (λ k. k < l)
    → stepped b.state (Took i l) ≡ Some b1.state → b1.log ≡ b.log ++ Took i l ∷ []
    → InOrder tells good total full (done ++ record { piece = i; limit = l; out = out } ∷ []) (reported b1 (tells out) i) (i + 1)
in_order_next {O = O} tells good total full done b b1 i l out k more is_good below e el =
    let o = tells out in
    let r = report_is b b1 i l o (omega (arith, k.few, k.of_total)) (omega (arith, k.limit, k.of_full)) below e el in
    let lims : (p : ℕ) → limits_of p (reported b1 o i).log ≡ limits_of p b.log ++ limits_of p (Took i l ∷ []) =
    λ p. ap (limits_of p) r.log_is ∙ limits_after p b.log i l o in
    let tels : (p : ℕ) → tells_of p (reported b1 o i).log ≡ tells_of p b.log ++ (if i == p then option_to_list o else []) =
    λ p. ap (tells_of p) r.log_is ∙ tells_after p b.log i l o in
    let log2 = (reported b1 o i).log in
    let new : Done O = record { piece = i; limit = l; out = out } in
    let here : (i == i) ≡ true = grind (arith, nat_tests) in
    let old = k.later i (omega arith) in
    let at_i : IsAt tells good log2 i new = record {
      here = refl;
      is_good = is_good;
      taken = lims i ∙ rw (old.0) (one_of i l);
      told = tels i ∙ rw (old.1, here) refl;
    } in
    record {
      of_total = r.of_total ∙ k.of_total;
      of_full = r.of_full ∙ k.of_full;
      next = r.next;
      going = r.going;
      few = omega (arith, r.few, k.few);
      count = omega (arith, length-append done (record { piece = i; limit = l; out = out } ∷ []), k.count);
      limit = omega (arith, r.limit, k.of_full);
      each = λ p d at. elim (slice_get-push done (record { piece = i; limit = l; out = out }) p d at) as (λ _. IsAt tells good (reported b1 o i).log p d) [
        | inl h ↦
            let was = k.each p d h.0 in
            let ne : (i == p) ≡ false = grind (arith, nat_tests, k.count, h.1) in
            record {
              here = was.here;
              is_good = was.is_good;
              taken = lims p ∙ rw (none_of p i l (λ q. omega (arith, q, k.count, h.1))) (append-nil (limits_of p b.log) ∙ was.taken);
              told = tels p ∙ rw ne (append-nil (tells_of p b.log) ∙ was.told);
            }
        | inr h ↦ subst (λ (q : ℕ). IsAt tells good log2 q d) (sym (h.0 ∙ k.count)) (subst (λ (x : Done O). IsAt tells good log2 i x) (sym h.1) at_i)
      ];
      later = λ p le.
          let ne : (i == p) ≡ false = grind (arith, nat_tests) in
          let old = k.later p (omega arith) in
          (lims p ∙ rw (old.0) (none_of p i l (λ q. omega (arith, q))), tels p ∙ rw (old.1, ne) refl);
    }

-- the same, where the code gives each part by an equation
pub in_order_turn : {O : Type 0} (tells : O → Option ℕ) (good : ℕ → ℕ → O → Type 0) (total full : ℕ) (done done2 : List (Done O)) (b b1 b2 : Logged) (i q l : ℕ) (out : O) (o : Option ℕ)
    → InOrder tells good total full done b i → i < total → good i l out → IfSome (tells out) (λ k. k < l)
    → q ≡ b.state.next → stepped b.state (Took q l) ≡ Some b1.state → b1.log ≡ b.log ++ Took q l ∷ []
    → o ≡ tells out → b2 ≡ reported b1 o i → done2 ≡ done ++ record { piece = i; limit = l; out = out } ∷ []
    → InOrder tells good total full done2 b2 (i + 1)
in_order_turn {O = O} tells good total full done done2 b b1 b2 i q l out o k more is_good below eq e el eo eb ed =
    let here : q ≡ i = eq ∙ k.next in
    let P : ℕ → Type 0 = λ n. (stepped b.state (Took n l) ≡ Some b1.state) × (b1.log ≡ b.log ++ Took n l ∷ []) in
    let took : P i = subst P here (e, el) in
    rw (ed, eb, eo) (in_order_next tells good total full done b b1 i l out k more is_good below took.0 took.1)

pub in_order_whole : {O : Type 0} (tells : O → Option ℕ) (good : ℕ → ℕ → O → Type 0) (total full : ℕ) (done : List (Done O)) (b : Logged) (i : ℕ) (es : List CoreEvent)
    → InOrder tells good total full done b i → total ≤ i → i ≤ total → Replays b → es ≡ b.log → IsWhole tells good total full done es
in_order_whole tells good total full done b i es k le ge r e =
    let all : i ≡ total = omega arith in
    rw e (record {
      count = k.count ∙ all;
      each = k.each;
      ends = record { state = b.state; replays = rw (← k.of_total, ← k.of_full) r; takes_all = k.next ∙ all; going = k.going };
    })
