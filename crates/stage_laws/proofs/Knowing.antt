-- What outcomes tell of pieces, and what is known of pieces one behind the other.
use Rattle.std.proofs.Common.{◌≡◌, ℕ, ◌+◌, ◌<◌, ◌≤◌, ◌==◌, Bool, true, false, nat_lt, nat_le, if◌then◌else◌, List, [], ◌∷◌, ◌++◌, Result, Ok, Err, refl, sym, ap, ap₂, ◌∙◌, subst, append_assoc, append-nil, arith}
use Rattle.stage_laws.specs.Runs.{Met}
use Rattle.stage_laws.specs.Stages.{Stage}
use Rattle.stage_laws.specs.Pieces.{Outcome, whole, met, clean, told_below, carry, PieceDone, concat, further, moved, first_fault, Follow, behind, Known, known, clear, SoFar, by_outcome, of_piece, nothing_yet, known_behind, moved_known, with_next, gathered}
use Rattle.stage_laws.specs.Laws.{ClearBelow, Follows, Falls, IsTrueOf, reach, Tells, IsCarry, AllCarry, AllWithin}
use Rattle.stage_laws.proofs.Basics.{lt_true, lt_false, le_true, lt_is, lt_not, le_is, le_not, eq_is, eq_not, picks, passes, moved_same}

module _ (B K F : Type 0) (last : ℕ) where
  whole_is : (limit : ℕ) (ys : B) (b : Bool) → (limit == last + 1) ≡ b → limit ≤ last + 1 → IsTrueOf last (by_outcome {K = K} {F = F} limit (if b then whole ys else clean)) (Ok ys)
  whole_is limit ys true h k = refl
  whole_is limit ys false h k = let ne : limit ≡ last + 1 → ⊥ = eq_not limit (last + 1) h in (omega arith, tt)

  met_is : (limit : ℕ) (e : Met K F) (b : Bool) → nat_lt e.step limit ≡ b → e.step ≤ last → IsTrueOf {B = B} last (by_outcome limit (if b then met e else clean)) (Err e)
  met_is limit e true h k = refl
  met_is limit e false h k = let le : limit ≤ e.step = lt_not e.step limit h in (omega arith, le)

  whole_reach : (limit c : ℕ) (ys : B) (b : Bool) → (limit == last + 1) ≡ b → c ≤ reach last (by_outcome {K = K} {F = F} limit (if b then whole ys else clean)) → c ≤ limit
  whole_reach limit c ys true h k = let e : limit ≡ last + 1 = eq_is limit (last + 1) h in let le : c ≤ last = k in omega arith
  whole_reach limit c ys false h k = k

  met_reach : (limit c : ℕ) (e : Met K F) (b : Bool) → nat_lt e.step limit ≡ b → c ≤ reach {B = B} last (by_outcome limit (if b then met e else clean)) → c ≤ limit
  met_reach limit c e true h k = let lt : e.step < limit = lt_is e.step limit h in let le : c ≤ e.step = k in omega arith
  met_reach limit c e false h k = k

module _ {B K F : Type 0} (last : ℕ) where
  -- no fault of it is past the last step
  abbrev pub Inside : Result B (Met K F) → Type 0
  Inside q = (e : Met K F) → q ≡ Err e → e.step ≤ last

  -- ---- a piece

  piece_is : (limit : ℕ) (q : Result B (Met K F)) → limit ≤ last + 1 → Inside q → IsTrueOf last (by_outcome limit (told_below (last + 1) limit q)) q
  piece_is limit (Ok ys) h k = whole_is B K F last limit ys (limit == last + 1) refl h
  piece_is limit (Err e) h k = met_is B K F last limit e (nat_lt e.step limit) refl (k e refl)

  piece_reach : (limit c : ℕ) (q : Result B (Met K F)) → c ≤ reach last (by_outcome limit (told_below (last + 1) limit q)) → c ≤ limit
  piece_reach limit c (Ok ys) h = whole_reach B K F last limit c ys (limit == last + 1) refl h
  piece_reach limit c (Err e) h = met_reach B K F last limit c e (nat_lt e.step limit) refl h

  -- no fault of it is before the first step
  abbrev pub From : ℕ → Result B (Met K F) → Type 0
  From first q = (e : Met K F) → q ≡ Err e → first ≤ e.step

  module _ (follow : Follow B K F) (follows : Follows last follow) where
    -- ---- nothing below a step faults

    clear_err : (k : ℕ) (q : Result B (Met K F)) → ((e : Met K F) → q ≡ Err e → k ≤ e.step) → ClearBelow k q
    clear_err k (Ok ys) h = tt
    clear_err k (Err e) h = h e refl

    clear_two : (k : ℕ) (d e : Met K F) (b : Bool) → k ≤ d.step → k ≤ e.step → k ≤ (if b then e else d).step
    clear_two k d e true h i = i
    clear_two k d e false h i = h

    clear_behind : (k : ℕ) (q r : Result B (Met K F)) (f : ℕ → ℕ) → k ≤ last → ClearBelow k q → ClearBelow k r → ClearBelow k (behind follow q (moved f r))
    clear_behind k (Ok xs) (Ok ys) f le h i =
        clear_err k (follow xs (Ok ys)) (λ e j. let w : e.step ≡ last = follows.clash xs ys e j in omega arith)
    clear_behind k (Ok xs) (Err e) f le h i =
        let w = follows.faults xs (further f e) in
        let a : k ≤ e.step = i in
        let b : w.0.step ≡ e.step = w.2 in
        let c : k ≤ w.0.step = omega arith in
        subst (ClearBelow k) (sym w.1) c
    clear_behind k (Err d) (Ok ys) f le h i = h
    clear_behind k (Err d) (Err e) f le h i = clear_two k d (further f e) (nat_lt e.step d.step) h i

    -- ---- what is known

    two_same : (first : ℕ) (d e : Met K F) (f g : ℕ → ℕ) (b : Bool) → nat_lt e.step d.step ≡ b → first ≤ e.step → ((c : ℕ) → first ≤ c → c ≤ d.step → f c ≡ g c) → (if b then further f e else d) ≡ (if b then further g e else d)
    two_same first d e f g true h from k = let lt : e.step < d.step = lt_is e.step d.step h in ap (λ (n : ℕ). record e { tuple = n + e.tuple }) (k e.step from (omega arith))
    two_same first d e f g false h from k = refl

    first_same : (first : ℕ) (d : Met K F) (r : Result B (Met K F)) (f g : ℕ → ℕ) → From first r → ((c : ℕ) → first ≤ c → c ≤ d.step → f c ≡ g c) → first_fault d (moved f r) ≡ first_fault d (moved g r)
    first_same first d (Ok ys) f g from h = refl
    first_same first d (Err e) f g from h = two_same first d e f g (nat_lt e.step d.step) refl (from e refl) h

    behind_same : (first : ℕ) (q r : Result B (Met K F)) (f g : ℕ → ℕ) → Inside r → From first r → ((c : ℕ) → first ≤ c → c ≤ reach last (known q) → f c ≡ g c) → behind follow q (moved f r) ≡ behind follow q (moved g r)
    behind_same first (Ok xs) r f g inside from h = ap (follow xs) (moved_same f g r (λ e i. h e.step (from e i) (inside e i)))
    behind_same first (Err d) r f g inside from h = ap Err (first_same first d r f g from h)

    fault_stays : (d : Met K F) (r : Result B (Met K F)) (f : ℕ → ℕ) → ClearBelow d.step r → first_fault d (moved f r) ≡ d
    fault_stays d (Ok ys) f h = refl
    fault_stays d (Err e) f h = passes (nat_lt e.step d.step) (further f e) d (lt_false e.step d.step h)

    clear_less : (k l : ℕ) (q : Result B (Met K F)) → k ≤ l → ClearBelow l q → ClearBelow k q
    clear_less k l (Ok ys) h i = tt
    clear_less k l (Err e) h i = let a : l ≤ e.step = i in omega arith

    fault_or_clear : (d : Met K F) (m : ℕ) (r : Result B (Met K F)) (f : ℕ → ℕ) (b : Bool) → nat_le d.step m ≡ b → m ≤ last → ClearBelow m r
        → IsTrueOf {B = B} last (if b then known (Err d) else clear m) (Err (first_fault d (moved f r)))
    fault_or_clear d m r f true h le i = ap Err (fault_stays d r f (clear_less d.step m r (le_is d.step m h) i))
    fault_or_clear d m r f false h le i =
        let lt : m < d.step = le_not d.step m h in
        let a : m ≤ d.step = omega arith in
        (le, clear_behind m (Err d) r f le a i)

    below_is : (l : ℕ) (e : Met K F) (q : Result B (Met K F)) (f g : ℕ → ℕ) → l ≤ last → ClearBelow l q → e.step < l → f e.step ≡ g e.step → behind follow q (Err (further f e)) ≡ Err (further g e)
    below_is l e (Ok xs) f g le h lt same = follows.leaves xs (further f e) (omega arith) ∙ ap (λ (n : ℕ). Err (record e { tuple = n + e.tuple })) same
    below_is l e (Err d) f g le h lt same =
        let a : l ≤ d.step = h in
        ap Err (picks (nat_lt e.step d.step) (further f e) d (lt_true e.step d.step (omega arith))) ∙ ap (λ (n : ℕ). Err (record e { tuple = n + e.tuple })) same

    clear_or_fault : (first : ℕ) (l : ℕ) (e : Met K F) (q : Result B (Met K F)) (f g : ℕ → ℕ) (b : Bool) → nat_lt e.step l ≡ b → l ≤ last → ClearBelow l q → first ≤ e.step → ((c : ℕ) → first ≤ c → c ≤ l → f c ≡ g c)
        → IsTrueOf {B = B} last (if b then known (Err (further g e)) else clear l) (behind follow q (Err (further f e)))
    clear_or_fault first l e q f g true h le i from same =
        let lt : e.step < l = lt_is e.step l h in
        below_is l e q f g le i lt (same e.step from (omega arith))
    clear_or_fault first l e q f g false h le i from same = (le, clear_behind l q (Err e) f le i (lt_not e.step l h))

    least_clear : (l m : ℕ) (q r : Result B (Met K F)) (f : ℕ → ℕ) (b : Bool) → nat_le l m ≡ b → l ≤ last → m ≤ last → ClearBelow l q → ClearBelow m r
        → IsTrueOf {B = B} last (clear (if b then l else m)) (behind follow q (moved f r))
    least_clear l m q r f true h le me i j = (le, clear_behind l q r f le i (clear_less l m r (le_is l m h) j))
    least_clear l m q r f false h le me i j =
        let lt : m < l = le_not l m h in
        (me, clear_behind m q r f me (clear_less m l q (omega arith) i) j)

    -- the words `f` counts the tuples that are known to be taken in, and `g` those that are
    next_is : (first : ℕ) (gw hw : Known B K F) (q r : Result B (Met K F)) (f g : ℕ → ℕ) → IsTrueOf last gw q → IsTrueOf last hw r → Inside r → From first r → ((c : ℕ) → first ≤ c → c ≤ reach last gw → f c ≡ g c)
        → IsTrueOf last (known_behind follow gw (moved_known f hw)) (behind follow q (moved g r))
    next_is first (known q') (known r') q r f g h i inside from same =
        ap₂ (λ (a b : Result B (Met K F)). behind follow a (moved g b)) h i
        ∙ sym (behind_same first q' r' f g (λ e j. inside e (i ∙ j)) (λ e j. from e (i ∙ j)) same)
    next_is first (known (Ok xs)) (clear m) q r f g h (le, i) inside from same =
        (le, subst (λ (a : Result B (Met K F)). ClearBelow m (behind follow a (moved g r))) (sym h) (clear_behind m (Ok xs) r g le tt i))
    next_is first (known (Err d)) (clear m) q r f g h (le, i) inside from same =
        subst (λ (a : Result B (Met K F)). IsTrueOf last (if nat_le d.step m then known (Err d) else clear m) (behind follow a (moved g r))) (sym h)
        (fault_or_clear d m r g (nat_le d.step m) refl le i)
    next_is first (clear l) (known (Ok ys)) q r f g (le, h) i inside from same =
        (le, subst (λ (a : Result B (Met K F)). ClearBelow l (behind follow q (moved g a))) (sym i) (clear_behind l q (Ok ys) g le h tt))
    next_is first (clear l) (known (Err e)) q r f g (le, h) i inside from same =
        subst (λ (a : Result B (Met K F)). IsTrueOf last (if nat_lt e.step l then known (Err (further f e)) else clear l) (behind follow q (moved g a))) (sym i)
        (clear_or_fault first l e q g f (nat_lt e.step l) refl le h (from e i) (λ c k m. sym (same c k m)))
    next_is first (clear l) (clear m) q r f g (le, h) (me, i) inside from same = least_clear l m q r g (nat_le l m) refl le me h i

    -- ---- how far the counts go

    reach_clear : (gw : Known B K F) (q : Result B (Met K F)) (c : ℕ) → IsTrueOf last gw q → c ≤ reach last gw → ClearBelow c q
    reach_clear (known (Ok ys)) q c h i = subst (ClearBelow c) (sym h) tt
    reach_clear (known (Err e)) q c h i = subst (ClearBelow c) (sym h) i
    reach_clear (clear l) q c (le, h) i = clear_less c l q i h

    follow_reach : (q : Result B (Met K F)) (c : ℕ) → c ≤ reach last (known q) → Inside q → c ≤ last
    follow_reach (Ok ys) c h i = h
    follow_reach (Err e) c h i = let a : e.step ≤ last = i e refl in let b : c ≤ e.step = h in omega arith

    two_reach : (d e : Met K F) (c : ℕ) (b : Bool) → nat_lt e.step d.step ≡ b → c ≤ (if b then e else d).step → (c ≤ d.step) × (c ≤ e.step)
    two_reach d e c true h i = let lt : e.step < d.step = lt_is e.step d.step h in (omega arith, i)
    two_reach d e c false h i = let le : d.step ≤ e.step = lt_not e.step d.step h in (i, omega arith)

    known_reach : (q r : Result B (Met K F)) (f : ℕ → ℕ) (c : ℕ) → Inside q → Inside r → c ≤ reach last (known (behind follow q (moved f r))) → (c ≤ reach last (known q)) × (c ≤ reach last (known r))
    known_reach (Ok xs) (Ok ys) f c iq ir h =
        let w : c ≤ last = follow_reach (follow xs (Ok ys)) c h (λ e j. let x : e.step ≡ last = follows.clash xs ys e j in omega arith) in (w, w)
    known_reach (Ok xs) (Err e) f c iq ir h =
        let w = follows.faults xs (further f e) in
        let a : w.0.step ≡ e.step = w.2 in
        let b : c ≤ w.0.step = subst (λ (a : Result B (Met K F)). c ≤ reach last (known a)) w.1 h in
        let d : e.step ≤ last = ir e refl in
        (omega arith, omega arith)
    known_reach (Err d) (Ok ys) f c iq ir h = let a : d.step ≤ last = iq d refl in let b : c ≤ d.step = h in (b, omega arith)
    known_reach (Err d) (Err e) f c iq ir h = two_reach d (further f e) c (nat_lt e.step d.step) refl h

    fault_reach : (d : Met K F) (m c : ℕ) (b : Bool) → nat_le d.step m ≡ b → c ≤ reach {B = B} last (if b then known (Err d) else clear m) → (c ≤ d.step) × (c ≤ m)
    fault_reach d m c true h i = let le : d.step ≤ m = le_is d.step m h in let b : c ≤ d.step = i in (b, omega arith)
    fault_reach d m c false h i = let lt : m < d.step = le_not d.step m h in let b : c ≤ m = i in (omega arith, b)

    below_reach : (l : ℕ) (e : Met K F) (c : ℕ) (b : Bool) → nat_lt e.step l ≡ b → c ≤ reach {B = B} last (if b then known (Err e) else clear l) → (c ≤ l) × (c ≤ e.step)
    below_reach l e c true h i = let lt : e.step < l = lt_is e.step l h in let b : c ≤ e.step = i in (omega arith, b)
    below_reach l e c false h i = let le : l ≤ e.step = lt_not e.step l h in let b : c ≤ l = i in (b, omega arith)

    clear_reach : (l m c : ℕ) (b : Bool) → nat_le l m ≡ b → c ≤ (if b then l else m) → (c ≤ l) × (c ≤ m)
    clear_reach l m c true h i = let le : l ≤ m = le_is l m h in (i, omega arith)
    clear_reach l m c false h i = let lt : m < l = le_not l m h in (omega arith, i)

    reach_both : (gw hw : Known B K F) (q r : Result B (Met K F)) (f : ℕ → ℕ) (c : ℕ) → IsTrueOf last gw q → IsTrueOf last hw r → Inside q → Inside r → c ≤ reach last (known_behind follow gw (moved_known f hw))
        → (c ≤ reach last gw) × (c ≤ reach last hw)
    reach_both (known q') (known r') q r f c h i iq ir k = known_reach q' r' f c (λ e j. iq e (h ∙ j)) (λ e j. ir e (i ∙ j)) k
    reach_both (known (Ok xs)) (clear m) q r f c h (le, i) iq ir k = let b : c ≤ m = k in (omega arith, b)
    reach_both (known (Err d)) (clear m) q r f c h (le, i) iq ir k = fault_reach d m c (nat_le d.step m) refl k
    reach_both (clear l) (known (Ok ys)) q r f c (le, h) i iq ir k = let b : c ≤ l = k in (b, omega arith)
    reach_both (clear l) (known (Err e)) q r f c (le, h) i iq ir k = below_reach l (further f e) c (nat_lt e.step l) refl k
    reach_both (clear l) (clear m) q r f c h i iq ir k = clear_reach l m c (nat_le l m) refl k

-- ---- a stage that falls into pieces

module _ {A B K F : Type 0} (first last : ℕ) (empty : B) (follow : Follow B K F) (s : Stage A B K F) (falls : Falls first last empty follow s) where
  pub inside : (xs : List A) → Inside last (s.run xs)
  inside xs e h = (falls.steps xs e h).1

  pub none_tells : Tells first last s [] (nothing_yet empty)
  none_tells = record { is = falls.none; counts = λ c f h. sym (falls.none_in c) }

  pub carries : (limit : ℕ) (xs : List A) → IsCarry first last s xs limit (carry (last + 1) limit s xs)
  carries limit xs = record {
    outcome = refl;
    into = λ c f h. picks (nat_le c limit) (s.into c xs) 0 (le_true c limit (piece_reach last limit c (s.run xs) h));
  }

  pub piece_tells : (xs : List A) (d : PieceDone B K F) → d.limit ≤ last + 1 → IsCarry first last s xs d.limit d.out → Tells first last s xs (of_piece d)
  piece_tells xs d h is = record {
    is = subst (λ (p : Outcome B K F). IsTrueOf last (by_outcome d.limit p) (s.run xs)) (sym is.outcome) (piece_is last d.limit (s.run xs) h (inside xs));
    counts = is.into;
  }

  pub next_tells : (xs ys : List A) (g h : SoFar B K F) → Tells first last s xs g → Tells first last s ys h → Tells first last s (xs ++ ys) (with_next follow g h)
  next_tells xs ys g h tg th = record {
    is = subst (IsTrueOf last (known_behind follow g.what (moved_known g.into h.what))) (sym (falls.parts xs ys))
        (next_is last follow falls.follows first g.what h.what (s.run xs) (s.run ys) g.into (λ c. s.into c xs) tg.is th.is (inside ys) (λ e h. (falls.steps ys e h).0) tg.counts);
    counts = λ c f k.
        let w = reach_both last follow falls.follows g.what h.what (s.run xs) (s.run ys) g.into c tg.is th.is (inside xs) (inside ys) k in
        ap₂ (λ (a b : ℕ). a + b) (tg.counts c f w.0) (th.counts c f w.1)
        ∙ sym (falls.counts c xs ys (reach_clear last follow falls.follows g.what (s.run xs) c tg.is w.0) (reach_clear last follow falls.follows h.what (s.run ys) c th.is w.1));
  }

  pub all_tell : (xs : List A) (g : SoFar B K F) (pieces : List (List A)) (ds : List (PieceDone B K F)) → AllWithin (last + 1) ds → AllCarry first last s pieces ds → Tells first last s xs g → Tells first last s (xs ++ concat pieces) (gathered follow g ds)
  all_tell xs g [] [] within are tg = subst (λ (ys : List A). Tells first last s ys g) (sym (append-nil xs)) tg
  all_tell xs g [] (d ∷ ds) within are tg = absurd are
  all_tell xs g (ys ∷ pieces) [] within are tg = absurd are
  all_tell xs g (ys ∷ pieces) (d ∷ ds) (le, within) (is, are) tg =
      subst (λ (zs : List A). Tells first last s zs (gathered follow (with_next follow g (of_piece d)) ds)) (append_assoc xs ys (concat pieces))
      (all_tell (xs ++ ys) (with_next follow g (of_piece d)) pieces ds within are (next_tells xs ys g (of_piece d) tg (piece_tells ys d le is)))
