-- Limits that are enough: all is known of the pieces.
use Rattle.std.proofs.Common.{◌≡◌, ◌⊎◌, ℕ, ◌+◌, ◌<◌, ◌≤◌, ◌==◌, Bool, true, false, nat_lt, nat_le, slice_get, suc, if◌then◌else◌, List, [], ◌∷◌, Option, Some, None, Result, Ok, Err, refl, sym, ap, subst, inl, inr, arith}
use Rattle.fault_merge.specs.declared.at.At.{At}
use Rattle.fault_merge.specs.Places.{is_before}
use Rattle.fault_merge.specs.Faults.{least_with, least_fault}
use Rattle.fault_merge.specs.Enough.{enough_of, AllEnough}
use Rattle.stage_laws.specs.Runs.{Met}
use Rattle.stage_laws.specs.Stages.{Stage}
use Rattle.stage_laws.specs.Pieces.{Outcome, whole, met, clean, told_below, PieceDone, fault_step, step_told, concat, further, moved, first_fault, Follow, Known, known, clear, SoFar, by_outcome, of_piece, nothing_yet, known_behind, moved_known, with_next, gathered}
use Rattle.stage_laws.specs.Laws.{Follows, Falls, IsTrueOf, Tells, AllCarry, AllWithin, Gathers}
use Rattle.stage_laws.proofs.Basics.{lt_true, le_true, lt_is, lt_not, le_is, eq_true, eq_is, picks}
use Rattle.stage_laws.proofs.Knowing.{inside, carries, none_tells, piece_tells, next_tells, all_tell}

-- ---- the least fault is there

abbrev IsAt : {B K F : Type 0} → At → ℕ → Outcome B K F → Type 0
IsAt {B} {K} {F} a p o = (e : Met K F) × (o ≡ met e) × (e.step ≡ a.clause) × (a.piece ≡ p)

abbrev HasAt : {B K F : Type 0} → At → ℕ → List (PieceDone B K F) → Type 0
HasAt a p [] = ⊥
HasAt a p (o ∷ os) = IsAt a p o.out.outcome ⊎ HasAt a (p + 1) os

module _ {B K F : Type 0} where
  met_at_here : (e : Met K F) (p : ℕ) (a : At) → record { clause = e.step; piece = p } ≡ a → IsAt {B = B} a p (met e)
  met_at_here e p a h = (e, refl, ap (λ (b : At). b.clause) h, sym (ap (λ (b : At). b.piece) h))

  here_two : (e : Met K F) (p : ℕ) (a c : At) (b : Bool) → Some (if b then record { clause = e.step; piece = p } else c) ≡ Some a → (Some c ≡ Some a) ⊎ IsAt {B = B} a p (met e)
  here_two e p a c true h = let same : record { clause = e.step; piece = p } ≡ a = cc in inr (met_at_here e p a same)
  here_two e p a c false h = inl h

  here : (found : Option At) (p : ℕ) (a : At) (o : Outcome B K F) → least_with found (fault_step o) p ≡ Some a → (found ≡ Some a) ⊎ IsAt a p o
  here found p a (whole ys) h = inl h
  here found p a clean h = inl h
  here None p a (met e) h = let same : record { clause = e.step; piece = p } ≡ a = cc in inr (met_at_here e p a same)
  here (Some c) p a (met e) h = here_two e p a c (is_before (record { clause = e.step; piece = p }) c) h

  first_or : (found : Option At) (p : ℕ) (a : At) (o : PieceDone B K F) (os : List (PieceDone B K F)) → (found ≡ Some a) ⊎ IsAt a p o.out.outcome → (found ≡ Some a) ⊎ HasAt a p (o ∷ os)
  first_or found p a o os (inl h) = inl h
  first_or found p a o os (inr h) = inr (inl h)

  here_or_behind : (found : Option At) (p : ℕ) (a : At) (o : PieceDone B K F) (os : List (PieceDone B K F)) → (least_with found (step_told o.out) p ≡ Some a) ⊎ HasAt a (p + 1) os → (found ≡ Some a) ⊎ HasAt a p (o ∷ os)
  here_or_behind found p a o os (inl h) = first_or found p a o os (here found p a o.out.outcome h)
  here_or_behind found p a o os (inr h) = inr (inr h)

  least_is : (found : Option At) (p : ℕ) (a : At) (os : List (PieceDone B K F)) → least_fault step_told found p os ≡ Some a → (found ≡ Some a) ⊎ HasAt a p os
  least_is found p a [] h = inl h
  least_is found p a (o ∷ os) h = here_or_behind found p a o os (least_is (least_with found (step_told o.out) p) (p + 1) a os h)

  from_here : (p : ℕ) (a : At) (os : List (PieceDone B K F)) → HasAt a p os → p ≤ a.piece
  from_here p a [] h = absurd h
  from_here p a (o ∷ os) (inl h) = let e : a.piece ≡ p = h.3 in omega arith
  from_here p a (o ∷ os) (inr h) = let le : p + 1 ≤ a.piece = from_here (p + 1) a os h in omega arith

-- ---- limits

-- the limits are enough, where the first piece has this number
abbrev EnoughFrom : {B K F : Type 0} → Option At → (full p : ℕ) → List (PieceDone B K F) → Type 0
EnoughFrom a full p [] = Unit {0}
EnoughFrom a full p (d ∷ ds) = (enough_of d.limit p a full ≡ true) × EnoughFrom a full (p + 1) ds

enough_from : {B K F : Type 0} (a : Option At) (full p : ℕ) (ds : List (PieceDone B K F)) → ((k : ℕ) (d : PieceDone B K F) → slice_get ds k ≡ Some d → enough_of d.limit (p + k) a full ≡ true) → EnoughFrom a full p ds
enough_from a full p [] h = tt
enough_from a full p (d ∷ ds) h =
    let e : p + 0 ≡ p = omega arith in (
      subst (λ (n : ℕ). enough_of d.limit n a full ≡ true) e (h 0 d refl),
      enough_from a full (p + 1) ds (λ k x is. let e : p + suc k ≡ p + 1 + k = omega arith in subst (λ (n : ℕ). enough_of x.limit n a full ≡ true) e (h (suc k) x is)),
    )

enough_either : (t : Bool) (limit : ℕ) (a : At) → (if t then nat_lt a.clause limit else nat_le a.clause limit) ≡ true → a.clause ≤ limit
enough_either true limit a h = let m : a.clause < limit = lt_is a.clause limit h in omega arith
enough_either false limit a h = le_is a.clause limit h

enough_first : (t : Bool) (limit : ℕ) (a : At) → t ≡ true → (if t then nat_lt a.clause limit else nat_le a.clause limit) ≡ true → a.clause < limit
enough_first true limit a is h = lt_is a.clause limit h
enough_first false limit a is h = absurd cc

all_enough : {B K F : Type 0} (full : ℕ) (ds : List (PieceDone B K F)) → AllEnough step_told full ds → EnoughFrom (least_fault step_told None 0 ds) full 0 ds
all_enough full ds en =
    enough_from (least_fault step_told None 0 ds) full 0 ds
    (λ k d is. let e : k ≡ 0 + k = omega arith in subst (λ (n : ℕ). enough_of d.limit n (least_fault step_told None 0 ds) full ≡ true) e (en k d is))

module _ {B K F : Type 0} where
  -- ---- what is known at such limits

  -- all, or that no step up to this one faults
  abbrev Past : ℕ → Known B K F → Type 0
  Past c (known r) = Unit {0}
  Past c (clear l) = c < l

  -- all, or that no step below this one faults
  abbrev Upto : ℕ → Known B K F → Type 0
  Upto c (known r) = Unit {0}
  Upto c (clear l) = c ≤ l

  -- a fault up to this step
  abbrev Stopped : ℕ → Known B K F → Type 0
  Stopped c (known (Ok ys)) = ⊥
  Stopped c (known (Err e)) = e.step ≤ c
  Stopped c (clear l) = ⊥

  abbrev IsKnown : Known B K F → Type 0
  IsKnown (known r) = Unit {0}
  IsKnown (clear l) = ⊥

  stopped_known : (c : ℕ) (g : Known B K F) → Stopped c g → IsKnown g
  stopped_known c (known r) h = tt
  stopped_known c (clear l) h = h

  piece_past : (c limit : ℕ) (o : Outcome B K F) → c < limit → Past c (by_outcome limit o)
  piece_past c limit (whole ys) h = tt
  piece_past c limit (met e) h = tt
  piece_past c limit clean h = h

  piece_upto : (c limit : ℕ) (o : Outcome B K F) → c ≤ limit → Upto c (by_outcome limit o)
  piece_upto c limit (whole ys) h = tt
  piece_upto c limit (met e) h = tt
  piece_upto c limit clean h = h

  module _ (last : ℕ) (follow : Follow B K F) (follows : Follows last follow) where
    past_two : (c : ℕ) (x y : Known B K F) (b : Bool) → Past c x → Past c y → Past c (if b then x else y)
    past_two c x y true h k = h
    past_two c x y false h k = k

    less_two : (c l m : ℕ) (b : Bool) → c < l → c < m → c < (if b then l else m)
    less_two c l m true h k = h
    less_two c l m false h k = k

    past_next : (c : ℕ) (f : ℕ → ℕ) (g h : Known B K F) → Past c g → Past c h → Past c (known_behind follow g (moved_known f h))
    past_next c f (known q) (known r) i j = tt
    past_next c f (known (Ok xs)) (clear m) i j = j
    past_next c f (known (Err d)) (clear m) i j = past_two c (known (Err d)) (clear m) (nat_le d.step m) tt j
    past_next c f (clear l) (known (Ok ys)) i j = i
    past_next c f (clear l) (known (Err e)) i j = past_two c (known (Err (further f e))) (clear l) (nat_lt e.step l) tt i
    past_next c f (clear l) (clear m) i j = less_two c l m (nat_le l m) i j

    earlier_two : (c : ℕ) (d e : Met K F) (b : Bool) → nat_lt e.step d.step ≡ b → e.step ≤ c → (if b then e else d).step ≤ c
    earlier_two c d e true h k = k
    earlier_two c d e false h k = let le : d.step ≤ e.step = lt_not e.step d.step h in omega arith

    stop_next : (c : ℕ) (f : ℕ → ℕ) (g : Known B K F) (e : Met K F) → Past c g → e.step ≡ c → Stopped c (known_behind follow g (known (Err (further f e))))
    stop_next c f (known (Ok xs)) e i j =
        let w = follows.faults xs (further f e) in
        let a : w.0.step ≡ e.step = w.2 in
        let b : w.0.step ≤ c = omega arith in
        subst (λ (r : Result B (Met K F)). Stopped c (known r)) (sym w.1) b
    stop_next c f (known (Err d)) e i j = earlier_two c d (further f e) (nat_lt e.step d.step) refl (omega arith)
    stop_next c f (clear l) e i j =
        let lt : c < l = i in
        let b : e.step ≤ c = omega arith in
        subst (Stopped c) (sym (picks (nat_lt e.step l) (known (Err (further f e))) (clear l) (lt_true e.step l (omega arith)))) b

    first_two : (c : ℕ) (d e : Met K F) (b : Bool) → nat_lt e.step d.step ≡ b → d.step ≤ c → (if b then e else d).step ≤ c
    first_two c d e true h k = let lt : e.step < d.step = lt_is e.step d.step h in omega arith
    first_two c d e false h k = k

    first_upto : (c : ℕ) (d : Met K F) (r : Result B (Met K F)) → d.step ≤ c → (first_fault d r).step ≤ c
    first_upto c d (Ok ys) h = h
    first_upto c d (Err e) h = first_two c d e (nat_lt e.step d.step) refl h

    stay_next : (c : ℕ) (f : ℕ → ℕ) (g h : Known B K F) → Stopped c g → Upto c h → Stopped c (known_behind follow g (moved_known f h))
    stay_next c f (known (Ok xs)) h i j = absurd i
    stay_next c f (clear l) h i j = absurd i
    stay_next c f (known (Err d)) (known r) i j = first_upto c d (moved f r) i
    stay_next c f (known (Err d)) (clear m) i j =
        let a : d.step ≤ c = i in
        let b : c ≤ m = j in
        subst (Stopped c) (sym (picks (nat_le d.step m) (known (Err d)) (clear m) (le_true d.step m (omega arith)))) a

    -- ---- the pieces behind those that are known

    all_stay : (a : At) (full p : ℕ) (g : SoFar B K F) (ds : List (PieceDone B K F)) → EnoughFrom (Some a) full p ds → Stopped a.clause g.what → Stopped a.clause (gathered follow g ds).what
    all_stay a full p g [] en h = h
    all_stay a full p g (d ∷ ds) (en, ens) h =
        all_stay a full (p + 1) (with_next follow g (of_piece d)) ds ens
        (stay_next a.clause g.into g.what (by_outcome d.limit d.out.outcome) h (piece_upto a.clause d.limit d.out.outcome (enough_either (nat_le p a.piece) d.limit a en)))

    stop_here : (a : At) (g : SoFar B K F) (p limit : ℕ) (o : Outcome B K F) → Past a.clause g.what → IsAt a p o → Stopped a.clause (known_behind follow g.what (moved_known g.into (by_outcome limit o)))
    stop_here a g p limit o past (e, is, step, piece) =
        subst (λ (o : Outcome B K F). Stopped a.clause (known_behind follow g.what (moved_known g.into (by_outcome limit o)))) (sym is) (stop_next a.clause g.into g.what e past step)

    all_stop : (a : At) (full p : ℕ) (g : SoFar B K F) (ds : List (PieceDone B K F)) → EnoughFrom (Some a) full p ds → HasAt a p ds → Past a.clause g.what → Stopped a.clause (gathered follow g ds).what
    all_stop a full p g [] en has past = absurd has
    all_stop a full p g (d ∷ ds) (en, ens) (inl at) past =
        all_stay a full (p + 1) (with_next follow g (of_piece d)) ds ens (stop_here a g p d.limit d.out.outcome past at)
    all_stop a full p g (d ∷ ds) (en, ens) (inr has) past =
        let from : p + 1 ≤ a.piece = from_here (p + 1) a ds has in
        all_stop a full (p + 1) (with_next follow g (of_piece d)) ds ens has
        (past_next a.clause g.into g.what (by_outcome d.limit d.out.outcome) past
        (piece_past a.clause d.limit d.out.outcome (enough_first (nat_le p a.piece) d.limit a (le_true p a.piece (omega arith)) en)))

    -- ---- no fault

    known_next : (f : ℕ → ℕ) (g h : Known B K F) → IsKnown g → IsKnown h → IsKnown (known_behind follow g (moved_known f h))
    known_next f (known q) (known r) i j = tt
    known_next f (known q) (clear m) i j = absurd j
    known_next f (clear l) h i j = absurd i

    full_known : (full limit : ℕ) (q : Result B (Met K F)) → limit ≡ full → ((e : Met K F) → q ≡ Err e → e.step < full) → IsKnown (by_outcome limit (told_below full limit q))
    full_known full limit (Ok ys) is inside =
        subst (λ (o : Outcome B K F). IsKnown (by_outcome limit o)) (sym (picks (limit == full) (whole ys) clean (eq_true limit full is))) tt
    full_known full limit (Err e) is inside =
        let lt : e.step < full = inside e refl in
        subst (λ (o : Outcome B K F). IsKnown (by_outcome limit o)) (sym (picks (nat_lt e.step limit) (met e) clean (lt_true e.step limit (omega arith)))) tt

module _ {A B K F : Type 0} (first last : ℕ) (empty : B) (follow : Follow B K F) (s : Stage A B K F) (falls : Falls first last empty follow s) where
  all_known : (p : ℕ) (g : SoFar B K F) (pieces : List (List A)) (ds : List (PieceDone B K F)) → AllCarry first last s pieces ds → EnoughFrom None (last + 1) p ds → IsKnown g.what → IsKnown (gathered follow g ds).what
  all_known p g [] [] are en h = h
  all_known p g [] (d ∷ ds) are en h = absurd are
  all_known p g (xs ∷ pieces) [] are en h = absurd are
  all_known p g (xs ∷ pieces) (d ∷ ds) (is, are) (en, ens) h =
      all_known (p + 1) (with_next follow g (of_piece d)) pieces ds are ens
      (known_next last follow falls.follows g.into g.what (by_outcome d.limit d.out.outcome) h
      (subst (λ (x : Outcome B K F). IsKnown (by_outcome d.limit x)) (sym is.outcome)
      (full_known last follow falls.follows (last + 1) d.limit (s.run xs) (eq_is d.limit (last + 1) en)
      (λ e k. let le : e.step ≤ last = inside first last empty follow s falls xs e k in omega arith))))

  absent : (a : At) → None ≡ Some a → ⊥
  absent a h = cc

  found_known : (a : At) (ds : List (PieceDone B K F)) → (None ≡ Some a) ⊎ HasAt a 0 ds → EnoughFrom (Some a) (last + 1) 0 ds → IsKnown (gathered follow (nothing_yet empty) ds).what
  found_known a ds (inl h) en = absurd (absent a h)
  found_known a ds (inr has) en =
      stopped_known a.clause (gathered follow (nothing_yet empty) ds).what
      (all_stop last follow falls.follows a (last + 1) 0 (nothing_yet empty) ds en has tt)

  enough_known : (found : Option At) (pieces : List (List A)) (ds : List (PieceDone B K F)) → AllCarry first last s pieces ds → least_fault step_told None 0 ds ≡ found → EnoughFrom found (last + 1) 0 ds → IsKnown (gathered follow (nothing_yet empty) ds).what
  enough_known None pieces ds are is en = all_known 0 (nothing_yet empty) pieces ds are en tt
  enough_known (Some a) pieces ds are is en = found_known a ds (least_is None 0 a ds is) en

  is_known : (g : Known B K F) (q : Result B (Met K F)) → IsKnown g → IsTrueOf last g q → g ≡ known q
  is_known (known r) q h i = ap known (sym i)
  is_known (clear l) q h i = absurd h

  all : (pieces : List (List A)) (ds : List (PieceDone B K F)) → AllWithin (last + 1) ds → AllCarry first last s pieces ds → Tells first last s (concat pieces) (gathered follow (nothing_yet empty) ds)
  all pieces ds within are = all_tell first last empty follow s falls [] (nothing_yet empty) pieces ds within are (none_tells first last empty follow s falls)

  -- at such limits what tells of all pieces is known
  pub gathers : Gathers first last empty follow s
  gathers = record {
    none = none_tells first last empty follow s falls;
    carries = carries first last empty follow s falls;
    piece = piece_tells first last empty follow s falls;
    next = next_tells first last empty follow s falls;
    all = all;
    whole = λ pieces ds within are en.
        is_known (gathered follow (nothing_yet empty) ds).what (s.run (concat pieces))
        (enough_known (least_fault step_told None 0 ds) pieces ds are refl (all_enough (last + 1) ds en)) (all pieces ds within are).is;
  }
