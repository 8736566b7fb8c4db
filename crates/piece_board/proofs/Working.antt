-- What all workers leave.
use Rattle.std.proofs.Common.{◌≡◌, ◌<◌, ◌≤◌, ◌+◌, ◌⊎◌, ℕ, zero, suc, List, [], ◌∷◌, ◌++◌, length, slice_index_or, slice_set, take, drop, Option, Some, Result, Ok, Err, IsErrAnd, refl, ap, ◌∙◌, sym, subst, inl, inr, arith, All, map, IfSome}
use Rattle.std.proofs.lemmas.List.{take_at}
use Rattle.outside.specs.Counted.{Rose}
use Rattle.piece_board.specs.declared.job.JobFault.{JobFault}
use Rattle.piece_board.specs.declared.worker.Slot.{Slot}
use Rattle.piece_board.specs.Faults.{IsJobFault, IsJob}
use Rattle.piece_board.specs.inside.Slots.{IsGood, AllGood, IsFresh, IsReady, IsWorked, NoFaults, SomeFault, seats_of, WorkedAll}
use Rattle.piece_board.specs.Trouble.{AllRise, SomeRose}
use Rattle.piece_board.proofs.Backward.{all_head, all_tail}

pub all_more : {X : Type 0} (P : X → Type 0) (x : X) (xs : List X) → P x → All P xs → All P (x ∷ xs)
all_more P x xs p h zero d lt = p
all_more P x xs p h (suc k) d lt = h k d (omega (arith, lt))

pub all_none : {X : Type 0} (P : X → Type 0) → All P []
all_none P k d lt = absurd (omega (arith, lt))

pub worked_all : {S O F : Type 0} (fits : S → Type 0) (trouble : S → ℕ) (good : ℕ → ℕ → O → Type 0) (xs ys : List (Slot S O F)) → length xs ≡ length ys
    → ((i : ℕ) (d : Slot S O F) → i < length xs → IsWorked fits trouble good (slice_index_or xs i d) (slice_index_or ys i d)) → WorkedAll fits trouble good xs ys
worked_all fits trouble good [] [] e h = tt
worked_all fits trouble good [] (y ∷ ys) e h = absurd (omega (arith, e))
worked_all fits trouble good (x ∷ xs) [] e h = absurd (omega (arith, e))
worked_all fits trouble good (x ∷ xs) (y ∷ ys) e h = (h 0 x (omega arith), worked_all fits trouble good xs ys (omega (arith, e)) (λ i d lt. h (suc i) d (omega (arith, lt))))

pub worked_good : {S O F : Type 0} (fits : S → Type 0) (trouble : S → ℕ) (good : ℕ → ℕ → O → Type 0) (xs ys : List (Slot S O F)) → WorkedAll fits trouble good xs ys → AllGood good ys
worked_good {S = S} {O = O} {F = F} fits trouble good [] [] w = all_none (λ (t : Slot S O F). All (IsGood good) t.done.items)
worked_good fits trouble good [] (y ∷ ys) w = absurd w
worked_good fits trouble good (x ∷ xs) [] w = absurd w
worked_good {S = S} {O = O} {F = F} fits trouble good (x ∷ xs) (y ∷ ys) w = all_more (λ (t : Slot S O F). All (IsGood good) t.done.items) y ys w.0.all_good (worked_good fits trouble good xs ys w.1)

pub worked_fits : {S O F : Type 0} (fits : S → Type 0) (trouble : S → ℕ) (good : ℕ → ℕ → O → Type 0) (xs ys : List (Slot S O F)) → WorkedAll fits trouble good xs ys → All fits (seats_of ys)
worked_fits fits trouble good [] [] w = all_none fits
worked_fits fits trouble good [] (y ∷ ys) w = absurd w
worked_fits fits trouble good (x ∷ xs) [] w = absurd w
worked_fits fits trouble good (x ∷ xs) (y ∷ ys) w = all_more fits y.seat (seats_of ys) w.0.seat_fits (worked_fits fits trouble good xs ys w.1)

pub worked_calm : {S O F : Type 0} (fits : S → Type 0) (trouble : S → ℕ) (good : ℕ → ℕ → O → Type 0) (xs ys : List (Slot S O F)) → WorkedAll fits trouble good xs ys → NoFaults ys
    → map trouble (seats_of ys) ≡ map trouble (seats_of xs)
worked_calm fits trouble good [] [] w n = refl
worked_calm fits trouble good [] (y ∷ ys) w n = absurd w
worked_calm fits trouble good (x ∷ xs) [] w n = absurd w
worked_calm fits trouble good (x ∷ xs) (y ∷ ys) w n = let a = w.0.calm n.0 in let b = worked_calm fits trouble good xs ys w.1 n.1 in cc (a, b)

pub worked_rises : {S O F : Type 0} (fits : S → Type 0) (trouble : S → ℕ) (good : ℕ → ℕ → O → Type 0) (xs ys : List (Slot S O F)) → WorkedAll fits trouble good xs ys
    → AllRise (map trouble (seats_of xs)) (map trouble (seats_of ys))
worked_rises fits trouble good [] [] w = tt
worked_rises fits trouble good [] (y ∷ ys) w = absurd w
worked_rises fits trouble good (x ∷ xs) [] w = absurd w
worked_rises fits trouble good (x ∷ xs) (y ∷ ys) w = (w.0.rises, worked_rises fits trouble good xs ys w.1)

cause_at : {F : Type 0} (o : Option (JobFault F)) (e : JobFault F) (P : Type 0) → IfSome o (λ f. IsJobFault f → P) → o ≡ Some e → IsJobFault e → P
cause_at {F = F} o e P h is j = (let Q : Option (JobFault F) → Type 0 = λ w. IfSome w (λ f. IsJobFault f → P) in subst Q is h) j

pub worked_cause : {S O F : Type 0} (fits : S → Type 0) (trouble : S → ℕ) (good : ℕ → ℕ → O → Type 0) (xs ys : List (Slot S O F)) (e : JobFault F) → WorkedAll fits trouble good xs ys → SomeFault e ys → IsJobFault e
    → SomeRose (map trouble (seats_of xs)) (map trouble (seats_of ys))
worked_cause fits trouble good [] [] e w s j = absurd s
worked_cause fits trouble good [] (y ∷ ys) e w s j = absurd w
worked_cause fits trouble good (x ∷ xs) [] e w s j = absurd w
worked_cause fits trouble good (x ∷ xs) (y ∷ ys) e w s j =
    elim s as (λ _. Rose (trouble x.seat) (trouble y.seat) ⊎ SomeRose (map trouble (seats_of xs)) (map trouble (seats_of ys)))
    [ inl h ↦ inl (cause_at y.fault e (Rose (trouble x.seat) (trouble y.seat)) w.0.cause h j) | inr h ↦ inr (worked_cause fits trouble good xs ys e w.1 h j) ]

-- fresh slots on seats that fit are ready
pub ready_all : {S O F : Type 0} (fits : S → Type 0) (xs : List (Slot S O F)) → All IsFresh xs → All fits (seats_of xs) → All (IsReady fits) xs
ready_all fits [] h k = all_none (IsReady fits)
ready_all {S = S} {O = O} {F = F} fits (x ∷ xs) h k =
    let f = all_head IsFresh x xs h in
    all_more (IsReady fits) x xs (record { seat_fits = all_head fits x.seat (seats_of xs) k; fresh = f.nothing; no_fault = f.no_fault }) (ready_all fits xs (all_tail IsFresh x xs h) (all_tail fits x.seat (seats_of xs) k))

pub rise_refl : (xs : List ℕ) → AllRise xs xs
rise_refl [] = tt
rise_refl (x ∷ xs) = (omega arith, rise_refl xs)

pub rise_first : {S : Type 0} (trouble : S → ℕ) (xs : List S) (s t : S) → s ≡ slice_index_or xs 0 s → trouble s ≤ trouble t → AllRise (map trouble xs) (map trouble (slice_set xs 0 t))
rise_first trouble [] s t e le = tt
rise_first trouble (x ∷ xs) s t e le = (omega (arith, ap trouble e), rise_refl (map trouble xs))

-- what is known of a list after its slice was worked on
pub worked_back : {S O F : Type 0} (fits : S → Type 0) (trouble : S → ℕ) (good : ℕ → ℕ → O → Type 0) (xs lent ys : List (Slot S O F)) (n : ℕ) → lent ≡ xs → n ≡ length xs → length ys ≡ length lent
    → ((i : ℕ) (d : Slot S O F) → i < length lent → IsWorked fits trouble good (slice_index_or lent i d) (slice_index_or ys i d))
    → WorkedAll fits trouble good xs (take n (ys ++ drop (length ys) xs))
worked_back {S = S} {O = O} {F = F} fits trouble good xs lent ys n is len same h =
    let P : List (Slot S O F) → Type 0 = λ w. (i : ℕ) (d : Slot S O F) → i < length w → IsWorked fits trouble good (slice_index_or w i d) (slice_index_or ys i d) in
    let all : P xs = subst P is h in
    let e : length ys ≡ length xs = same ∙ ap length is in
    rw (take_at ys (drop (length ys) xs) n (e ∙ sym len)) (worked_all fits trouble good xs ys (sym e) all)

pub worked_length : {S O F : Type 0} (fits : S → Type 0) (trouble : S → ℕ) (good : ℕ → ℕ → O → Type 0) (xs ys : List (Slot S O F)) → WorkedAll fits trouble good xs ys → length ys ≡ length xs
worked_length fits trouble good [] [] w = refl
worked_length fits trouble good [] (y ∷ ys) w = absurd w
worked_length fits trouble good (x ∷ xs) [] w = absurd w
worked_length fits trouble good (x ∷ xs) (y ∷ ys) w = ap suc (worked_length fits trouble good xs ys w.1)

pub seats_length : {S O F : Type 0} (xs : List (Slot S O F)) → length (seats_of xs) ≡ length xs
seats_length [] = refl
seats_length (x ∷ xs) = ap suc (seats_length xs)

-- what is known of all seats once they are back
pub record Served {S O F : Type 0} (fits : S → Type 0) (trouble : S → ℕ) (olds news : List S) (ys : List (Slot S O F)) : Type 0 where
  pub all_fit : All fits news
  pub rises : AllRise (map trouble olds) (map trouble news)
  pub calm : NoFaults ys → map trouble news ≡ map trouble olds
  pub cause : (e : JobFault F) → SomeFault e ys → IsJobFault e → SomeRose (map trouble olds) (map trouble news)

pub served : {S O F : Type 0} (fits : S → Type 0) (trouble : S → ℕ) (good : ℕ → ℕ → O → Type 0) (xs ys : List (Slot S O F)) (olds gone news : List S)
    → seats_of xs ≡ olds → gone ≡ [] → news ≡ gone ++ seats_of ys → WorkedAll fits trouble good xs ys → Served fits trouble olds news ys
served {S = S} {O = O} {F = F} fits trouble good xs ys olds gone news moved out back w =
    let is : news ≡ seats_of ys = back ∙ ap (λ (v : List S). v ++ seats_of ys) out in
    rw (is, ← moved) (record {
      all_fit = worked_fits fits trouble good xs ys w;
      rises = worked_rises fits trouble good xs ys w;
      calm = worked_calm fits trouble good xs ys w;
      cause = λ e s j. worked_cause fits trouble good xs ys e w s j;
    })

pub room_back : {S O F : Type 0} (fits : S → Type 0) (trouble : S → ℕ) (good : ℕ → ℕ → O → Type 0) (xs ys : List (Slot S O F)) (olds gone : List S) (cap : ℕ)
    → seats_of xs ≡ olds → gone ≡ [] → length olds ≤ cap → WorkedAll fits trouble good xs ys → length gone + length ys ≤ cap
room_back fits trouble good xs ys olds gone cap moved out le w =
    omega (arith, ap length out, ap length moved, seats_length xs, worked_length fits trouble good xs ys w)

-- a fault that was passed on
pub job_of : {A T : Type 0} (r : Result A (JobFault T)) (f : JobFault T) → IsErrAnd r (λ e. e ≡ f) → IsJob r → IsJobFault f
job_of (Ok a) f h j = absurd j
job_of (Err e) f h j = subst IsJobFault h j
