-- The limits of a whole run are enough.
use Rattle.std.proofs.Common.{◌≡◌, ◌<◌, ◌≤◌, ◌==◌, ◌⊎◌, ℕ, Bool, true, false, List, [], ◌∷◌, length, slice_get, slice_index_or, Option, None, Some, Result, Ok, Err, IfOk, IfSome, if◌then◌else◌, refl, ap, sym, ◌∙◌, subst, inl, inr, arith}
use Rattle.std.proofs.lemmas.Bool.Decides.{nat_tests}
use Rattle.std.proofs.lemmas.Option.{slice_get-get_or}
use Rattle.std.specs.Option.{option_to_list, option_and_then}
use Rattle.fault_merge.specs.declared.at.At.{At}
use Rattle.board_core.specs.declared.state.CoreState.{CoreState}
use Rattle.board_core.specs.declared.event.CoreEvent.{CoreEvent}
use Rattle.board_core.specs.declared.event.CoreEvent.TheVariants.{Took, Told, Stopped}
use Rattle.board_core.specs.Core.{stepped, replay, opening}
use Rattle.fault_merge.specs.Enough.{enough_of, AllEnough}
use Rattle.fault_merge.specs.Faults.{fault_at, IsLeastFault, least_fault}
use Rattle.fault_merge.proofs.Finding.{least_fault_stands_lem}
use Rattle.board_core.proofs.Replays.{alive, step_took, step_told}
use Rattle.board_core.proofs.Suffice.{limits_suffice_lem}
use Rattle.fault_merge.specs.declared.done.Done.{Done}
use Rattle.piece_board.specs.Whole.{IsWhole}
use Rattle.board_core.specs.Schedules.{limits_of, tells_of, IsFaults, Truthful, TakesEnough}

-- x stands in the list
abbrev Mem : ℕ → List ℕ → Type 0
Mem x [] = ⊥
Mem x (y ∷ ys) = (x ≡ y) ⊎ Mem x ys

mem_if : (b : Bool) (x y : ℕ) (ys : List ℕ) → Mem x ys → Mem x (if b then y ∷ ys else ys)
mem_if true x y ys h = inr h
mem_if false x y ys h = h

mem_same : (p x : ℕ) (ys : List ℕ) → Mem x (if p == p then x ∷ ys else ys)
mem_same p x ys = let e : (p == p) ≡ true = grind (arith, nat_tests) in rw e (inl refl)

-- each tell is true of f where those of each piece are
truthful_from : (f : ℕ → Option ℕ) (es : List CoreEvent) → ((p c : ℕ) → Mem c (tells_of p es) → f p ≡ Some c) → Truthful f es
truthful_from f [] h = tt
truthful_from f (Took p l ∷ es) h = truthful_from f es h
truthful_from f (Stopped ∷ es) h = truthful_from f es h
truthful_from f (Told c p ∷ es) h =
    (h p c (mem_same p c (tells_of p es)), truthful_from f es (λ q k m. h q k (mem_if (p == q) k c (tells_of q es) m)))

abbrev Grows : CoreState → CoreState → Type 0
Grows t s = (s.next ≤ t.next) × (t.full ≡ s.full)

-- the next piece never falls
grows : (es : List CoreEvent) (s t : CoreState) → replay (Some s) es ≡ Some t → Grows t s
grows [] s t r = let e : s ≡ t = cc in subst (λ (u : CoreState). Grows u s) e (omega arith, refl)
grows (Took p l ∷ es) s t r =
    let u = alive (stepped s (Took p l)) es t r in
    let k = step_took s u.0 p l u.1 in
    let ih : Grows t u.0 = grows es u.0 t (subst (λ (o : Option CoreState). replay o es ≡ Some t) u.1 r) in
    (omega (arith, ap (λ v. v.next) k.left, k.here, ih.0), ih.1 ∙ ap (λ v. v.full) k.left)
grows (Told c p ∷ es) s t r =
    let u = alive (stepped s (Told c p)) es t r in
    let k = step_told s u.0 c p u.1 in
    let ih : Grows t u.0 = grows es u.0 t (subst (λ (o : Option CoreState). replay o es ≡ Some t) u.1 r) in
    (omega (arith, ap (λ v. v.next) k.left, ih.0), ih.1 ∙ ap (λ v. v.full) k.left)
grows (Stopped ∷ es) s t r = grows es (record s { stopped = true }) t r

mem_cases : (b : Bool) (x y : ℕ) (ys : List ℕ) → Mem x (if b then y ∷ ys else ys) → ((b ≡ true) × (x ≡ y)) ⊎ Mem x ys
mem_cases true x y ys (inl h) = inl (refl, h)
mem_cases true x y ys (inr h) = inr h
mem_cases false x y ys h = inr h

-- only pieces before the next one are told, at steps below full
tells_bound : (es : List CoreEvent) (s t : CoreState) → replay (Some s) es ≡ Some t → (p c : ℕ) → Mem c (tells_of p es) → (p < t.next) × (c < t.full)
tells_bound [] s t r p c m = absurd m
tells_bound (Took q l ∷ es) s t r p c m =
    let u = alive (stepped s (Took q l)) es t r in
    tells_bound es u.0 t (subst (λ (o : Option CoreState). replay o es ≡ Some t) u.1 r) p c m
tells_bound (Stopped ∷ es) s t r p c m = tells_bound es (record s { stopped = true }) t r p c m
tells_bound (Told k q ∷ es) s t r p c m =
    let u = alive (stepped s (Told k q)) es t r in
    let h = step_told s u.0 k q u.1 in
    let r2 = subst (λ (o : Option CoreState). replay o es ≡ Some t) u.1 r in
    let g = grows (Told k q ∷ es) s t r in
    elim (mem_cases (q == p) c k (tells_of p es) m) as (λ _. (p < t.next) × (c < t.full)) [
      | inl e ↦
          let same : q ≡ p = (let b = e.0 in grind (arith, nat_tests)) in
          (omega (arith, same, h.taken, g.0), omega (arith, e.1, h.below, g.1))
      | inr n ↦ tells_bound es u.0 t r2 p c n
    ]

-- the one limit of a piece is enough
enough_at : (a : Option At) (full : ℕ) (es : List CoreEvent) (p l : ℕ) → TakesEnough a full es → Mem l (limits_of p es) → enough_of l p a full ≡ true
enough_at a full [] p l all m = absurd m
enough_at a full (Told c q ∷ es) p l all m = enough_at a full es p l all m
enough_at a full (Stopped ∷ es) p l all m = enough_at a full es p l all m
enough_at a full (Took q k ∷ es) p l all m =
    elim (mem_cases (q == p) l k (limits_of p es) m) as (λ _. enough_of l p a full ≡ true) [
      | inl e ↦
          let same : q ≡ p = (let b = e.0 in grind (arith, nat_tests)) in
          subst (λ (n : ℕ). enough_of l n a full ≡ true) same (subst (λ (n : ℕ). enough_of n q a full ≡ true) (sym e.1) all.0)
      | inr n ↦ enough_at a full es p l all.1 n
    ]

mem_one : (c : ℕ) (o : Option ℕ) → Mem c (option_to_list o) → o ≡ Some c
mem_one c None m = absurd m
mem_one c (Some x) (inl h) = ap (λ (n : ℕ). Some n) (sym h)
mem_one c (Some x) (inr h) = absurd h

mem_of : (c : ℕ) (o : Option ℕ) → o ≡ Some c → Mem c (option_to_list o)
mem_of c None e = absurd cc
mem_of c (Some x) e = inl cc

found : {X : Type 0} (xs : List X) (p : ℕ) → p < length xs → (d : X) × (slice_get xs p ≡ Some d)
found [] p lt = absurd (omega (arith, lt))
found (x ∷ xs) p lt = (slice_index_or (x ∷ xs) p x, slice_get-get_or (x ∷ xs) p x lt)

-- a fault is that of an output
fault_of : {O : Type 0} (tells : O → Option ℕ) (done : List (Done O)) (p c : ℕ) (o : Option (Done O)) → o ≡ slice_get done p → option_and_then (λ d. tells d.out) o ≡ Some c
    → (d : Done O) × (slice_get done p ≡ Some d) × (tells d.out ≡ Some c)
fault_of tells done p c None e h = absurd cc
fault_of tells done p c (Some d) e h = (d, sym e, h)

pub limits_enough : {O : Type 0} (tells : O → Option ℕ) (good : ℕ → ℕ → O → Type 0) (total full : ℕ) (done : List (Done O)) (es : List CoreEvent)
    → IsWhole tells good total full done es → AllEnough tells full done
limits_enough {O = O} tells good total full done es w p d at =
    let f = fault_at tells done in
    let a = least_fault tells None 0 done in
    let least : IsLeastFault f a = least_fault_stands_lem O tells done in
    let t = w.ends.state in
    let r = w.ends.replays in
    let of_full : t.full ≡ full = (grows es (opening total full) t r).1 in
    let bound = tells_bound es (opening total full) t r in
    let true_es : Truthful f es = truthful_from f es (λ q c m.
    let b = bound q c m in
    let x = found done q (omega (arith, b.0, w.ends.takes_all, w.count)) in
    let told : tells x.0.out ≡ Some c = mem_one c (tells x.0.out) (subst (Mem c) (w.each q x.0 x.1).told m) in
    rw (x.1) told) in
    let faults : IsFaults f total full = λ q c e.
    let x = fault_of tells done q c (slice_get done q) refl e in
    let told = (w.each q x.0 x.1).told in
    let m : Mem c (tells_of q es) = subst (Mem c) (sym told) (mem_of c (tells x.0.out) x.2) in
    let b = bound q c m in
    (omega (arith, b.0, w.ends.takes_all), omega (arith, b.1, of_full)) in
    let all = limits_suffice_lem f a total full es t faults least true_es r in
    enough_at a full es p d.limit all (subst (Mem d.limit) (sym (w.each p d at).taken) (inl refl))

pub whole_enough : {O P E : Type 0} (tells : O → Option ℕ) (good : ℕ → ℕ → O → Type 0) (total full : ℕ) (done : P → List (Done O)) (events : P → List CoreEvent) (r : Result P E)
    → IfOk r (λ p. IsWhole tells good total full (done p) (events p)) → IfOk r (λ p. AllEnough tells full (done p))
whole_enough tells good total full done events (Ok p) h = limits_enough tells good total full (done p) (events p) h
whole_enough tells good total full done events (Err e) h = tt

pub some_enough : {O P : Type 0} (tells : O → Option ℕ) (good : ℕ → ℕ → O → Type 0) (total full : ℕ) (done : P → List (Done O)) (events : P → List CoreEvent) (o : Option P) (p : P)
    → o ≡ Some p → IfSome o (λ p. IsWhole tells good total full (done p) (events p)) → AllEnough tells full (done p)
some_enough {O = O} {P = P} tells good total full done events o p is h =
    let Q : Option P → Type 0 = λ w. IfSome w (λ p. IsWhole tells good total full (done p) (events p)) in
    limits_enough tells good total full (done p) (events p) (subst Q is h)
