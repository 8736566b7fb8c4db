-- Seats that go into slots and come back.
use Rattle.std.proofs.Common.{◌≡◌, ◌<◌, ◌≤◌, ◌+◌, ℕ, zero, suc, true, false, List, [], ◌∷◌, ◌++◌, length, slice_index_or, None, Some, Result, Ok, Err, is_ok, refl, ap, ◌∙◌, sym, inl, inr, arith, All, OnOk, OnErr, IfErr, remove, length-append, append_assoc}
use Rattle.std.proofs.lemmas.List.Elements.{All-append}
use Rattle.fault_merge.specs.declared.done.Done.{Done}
use Rattle.piece_board.specs.declared.job.JobFault.{JobFault}
use Rattle.piece_board.specs.declared.worker.Slot.{Slot}
use Rattle.piece_board.specs.Faults.{IsJobFault}
use Rattle.piece_board.specs.inside.Slots.{IsGood, AllGood, IsFresh, NoFaults, SomeFault, seats_of}

-- a list is its first element and what is left when that is removed
pub head_tail : {X : Type 0} (xs ys : List X) (s : X) → 0 < length xs → s ≡ slice_index_or xs 0 s → ys ≡ remove xs 0 → xs ≡ s ∷ ys
head_tail [] ys s lt e r = absurd (omega arith)
head_tail (x ∷ xs) ys s lt e r = cc (e, r)

pub all_head : {X : Type 0} (P : X → Type 0) (x : X) (xs : List X) → All P (x ∷ xs) → P x
all_head P x xs h = h 0 x (omega arith)

pub all_tail : {X : Type 0} (P : X → Type 0) (x : X) (xs : List X) → All P (x ∷ xs) → All P xs
all_tail P x xs h = λ k d lt. h (suc k) d (omega (arith, lt))

pub record Back {S O F : Type 0} (good : ℕ → ℕ → O → Type 0) (seats0 : List S) (slots0 : List (Slot S O F)) (cap : ℕ) (seats : List S) (slots : List (Slot S O F)) (all : List (Done O)) (ended : Result (Unit {0}) (JobFault F)) : Type 0 where
  pub same : seats ++ seats_of slots ≡ seats0 ++ seats_of slots0
  pub room : length seats + length slots ≤ cap
  pub good_left : AllGood good slots
  pub good_all : All (IsGood good) all
  pub if_ok : OnOk ended (NoFaults slots → NoFaults slots0)
  pub if_err : IfErr ended (λ e. IsJobFault e → SomeFault e slots0)
  pub later : (e : JobFault F) → SomeFault e slots → SomeFault e slots0

seats_next : {S O F : Type 0} (seats seats' seats0 : List S) (s : Slot S O F) (ys : List (Slot S O F)) → seats' ≡ seats ++ s.seat ∷ [] → seats ++ seats_of (s ∷ ys) ≡ seats0 → seats' ++ seats_of ys ≡ seats0
seats_next seats seats' seats0 s ys e h = ap (λ w. w ++ seats_of ys) e ∙ (append_assoc seats (s.seat ∷ []) (seats_of ys) ∙ h)

room_next : {S O F : Type 0} (seats seats' : List S) (s : Slot S O F) (ys : List (Slot S O F)) (cap cap' : ℕ) → seats' ≡ seats ++ s.seat ∷ [] → length seats + length (s ∷ ys) ≤ cap → cap ≤ cap' → length seats' + length ys ≤ cap'
room_next seats seats' s ys cap cap' e h le = omega (arith, ap length e, length-append seats (s.seat ∷ []))

pub back_err : {S O F : Type 0} (good : ℕ → ℕ → O → Type 0) (seats0 : List S) (slots0 : List (Slot S O F)) (cap cap' : ℕ) (seats seats' : List S) (s : Slot S O F) (ys : List (Slot S O F)) (all : List (Done O)) (ended : Result (Unit {0}) (JobFault F))
    → Back good seats0 slots0 cap seats (s ∷ ys) all ended → is_ok ended ≡ false → seats' ≡ seats ++ s.seat ∷ [] → cap ≤ cap'
    → Back good seats0 slots0 cap' seats' ys all ended
back_err good seats0 slots0 cap cap' seats seats' s ys all (Ok u) k e eq le = absurd cc
back_err {S = S} {O = O} {F = F} good seats0 slots0 cap cap' seats seats' s ys all (Err f) k e eq le =
    record {
      same = seats_next seats seats' _ s ys eq k.same;
      room = room_next seats seats' s ys cap cap' eq k.room le;
      good_left = all_tail (λ (t : Slot S O F). All (IsGood good) t.done.items) s ys k.good_left;
      good_all = k.good_all;
      if_ok = tt;
      if_err = k.if_err;
      later = λ e h. k.later e (inr h);
    }

pub back_ok : {S O F : Type 0} (good : ℕ → ℕ → O → Type 0) (seats0 : List S) (slots0 : List (Slot S O F)) (cap cap' : ℕ) (seats seats' : List S) (s : Slot S O F) (ys : List (Slot S O F)) (all all' : List (Done O)) (ended r : Result (Unit {0}) (JobFault F))
    → Back good seats0 slots0 cap seats (s ∷ ys) all ended → is_ok ended ≡ true → seats' ≡ seats ++ s.seat ∷ [] → cap ≤ cap'
    → OnOk r (all' ≡ all ++ s.done.items) → OnOk r (s.fault ≡ None) → IfErr r (λ e. IsJobFault e → s.fault ≡ Some e) → OnErr r (all' ≡ all)
    → Back good seats0 slots0 cap' seats' ys all' r
back_ok good seats0 slots0 cap cap' seats seats' s ys all all' (Err f) r k e eq le added none err keep = absurd cc
back_ok {S = S} {O = O} {F = F} good seats0 slots0 cap cap' seats seats' s ys all all' (Ok u) (Ok v) k e eq le added none err keep =
    record {
      same = seats_next seats seats' _ s ys eq k.same;
      room = room_next seats seats' s ys cap cap' eq k.room le;
      good_left = all_tail (λ (t : Slot S O F). All (IsGood good) t.done.items) s ys k.good_left;
      good_all = rw added (All-append (IsGood good) all s.done.items k.good_all (all_head (λ (t : Slot S O F). All (IsGood good) t.done.items) s ys k.good_left));
      if_ok = λ rest. k.if_ok (none, rest);
      if_err = tt;
      later = λ e h. k.later e (inr h);
    }
back_ok {S = S} {O = O} {F = F} good seats0 slots0 cap cap' seats seats' s ys all all' (Ok u) (Err f) k e eq le added none err keep =
    record {
      same = seats_next seats seats' _ s ys eq k.same;
      room = room_next seats seats' s ys cap cap' eq k.room le;
      good_left = all_tail (λ (t : Slot S O F). All (IsGood good) t.done.items) s ys k.good_left;
      good_all = rw keep k.good_all;
      if_ok = tt;
      if_err = λ j. k.later f (inl (err j));
      later = λ e h. k.later e (inr h);
    }

seats_of-append : {S O F : Type 0} (xs ys : List (Slot S O F)) → seats_of (xs ++ ys) ≡ seats_of xs ++ seats_of ys
seats_of-append [] ys = refl
seats_of-append (x ∷ xs) ys = ap (λ w. x.seat ∷ w) (seats_of-append xs ys)

pub record Forth {S O F : Type 0} (seats0 : List S) (cap : ℕ) (seats : List S) (slots : List (Slot S O F)) : Type 0 where
  pub same : seats_of slots ++ seats ≡ seats0
  pub fresh : All IsFresh slots
  pub room : length slots + length seats ≤ cap

all_one : {X : Type 0} (P : X → Type 0) (x : X) → P x → All P (x ∷ [])
all_one P x p zero d lt = p
all_one P x p (suc k) d lt = absurd (omega (arith, lt))

pub forth_next : {S O F : Type 0} (seats0 : List S) (cap cap' : ℕ) (seats rest : List S) (slots slots' : List (Slot S O F)) (s : Slot S O F)
    → Forth seats0 cap seats slots → cap ≤ cap' → 0 < length seats → s.seat ≡ slice_index_or seats 0 s.seat → rest ≡ remove seats 0 → IsFresh s → slots' ≡ slots ++ s ∷ []
    → Forth seats0 cap' rest slots' × (length rest < length seats)
forth_next {S = S} {O = O} {F = F} seats0 cap cap' seats rest slots slots' s k le some at out fresh eq =
    let is : seats ≡ s.seat ∷ rest = head_tail seats rest s.seat some at out in (
      record {
        same = rw eq (ap (λ w. w ++ rest) (seats_of-append slots (s ∷ [])) ∙ (append_assoc (seats_of slots) (s.seat ∷ []) rest ∙ (ap (λ w. seats_of slots ++ w) (sym is) ∙ k.same)));
        fresh = rw eq (All-append IsFresh slots (s ∷ []) k.fresh (all_one IsFresh s fresh));
        room = omega (arith, ap length eq, length-append slots (s ∷ []), ap length is, k.room);
      },
      omega (arith, ap length is),
    )
