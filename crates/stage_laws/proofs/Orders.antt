-- An order step over one list behind another.
use Rattle.std.proofs.Common.{◌≡◌, ℕ, suc, ◌+◌, ◌<◌, ◌==◌, Bool, true, false, nat_lt, if◌then◌else◌, List, [], ◌∷◌, ◌++◌, length, length-append, Option, Some, None, IsSome, Result, Ok, Err, refl, sym, ap, ap₂, ◌∙◌, subst, append_assoc, append-nil, arith}
use Rattle.stage_laws.specs.Runs.{Met, with_first, unless_clash, with_keys, keyed_from}
use Rattle.stage_laws.specs.Stages.{ordered}
use Rattle.stage_laws.specs.Pieces.{further, moved, first_fault, behind}
use Rattle.stage_laws.specs.Ends.{keys_of, seen_by, having_seen, clash_or, clash_after, unless, seen_behind, in_front, compared, in_order, ClashesStay}
use Rattle.stage_laws.specs.Laws.{Follows, Falls}
use Rattle.stage_laws.proofs.Basics.{lt_false, eq_true, eq_false, eq_is, picks, passes, moved_same}

first_in_front : {A K F : Type 0} (p : K × A) (ps : List (K × A)) (r : Result (List (K × A)) (Met K F)) → with_first p (in_front ps r) ≡ in_front (p ∷ ps) r
first_in_front p ps (Ok qs) = refl
first_in_front p ps (Err e) = refl

none_in_front : {A K F : Type 0} (r : Result (List (K × A)) (Met K F)) → in_front [] r ≡ r
none_in_front (Ok qs) = refl
none_in_front (Err e) = refl

seen_first : {A K F : Type 0} (p : K × A) (r : Result (List (K × A)) (Met K F)) → seen_by (with_first p r) ≡ p.0 ∷ seen_by r
seen_first p (Ok qs) = refl
seen_first p (Err e) = refl

first_moved : {A K F : Type 0} (f : ℕ → ℕ) (p : K × A) (r : Result (List (K × A)) (Met K F)) → with_first p (moved f r) ≡ moved f (with_first p r)
first_moved f p (Ok qs) = refl
first_moved f p (Err e) = refl

first_unless : {A K F : Type 0} (p : K × A) (c : Option (Met K F)) (r : Result (List (K × A)) (Met K F)) → with_first p (unless c r) ≡ unless (having_seen p.0 c) (with_first p r)
first_unless p None r = refl
first_unless p (Some e) r = refl

none_is_none : (T : Type 0) → IsSome {T = T} None → ⊥
none_is_none T h = cc

-- what comes behind the keys of these
abbrev then_keys : {A K F : Type 0} → Result (List (K × A)) (Met K F) → (List (K × A) → Result (List (K × A)) (Met K F)) → Result (List (K × A)) (Met K F)
then_keys (Ok ps) rest = in_front ps (rest ps)
then_keys (Err e) rest = Err e

module _ {A K F : Type 0} (number : ℕ) (keys : A → Result K F) (clash : List K → K → Option F) where
  abbrev from : List K → ℕ → List A → Result (List (K × A)) (Met K F)
  from before n xs = keyed_from number keys clash before n xs

  -- ---- one list behind another

  first_then : (p : K × A) (before : List K) (n : ℕ) (ys : List A) (q : Result (List (K × A)) (Met K F))
      → with_first p (then_keys q (λ ps. from ((before ++ p.0 ∷ []) ++ keys_of ps) (n + 1 + length ps) ys)) ≡ then_keys (with_first p q) (λ ps. from (before ++ keys_of ps) (n + length ps) ys)
  first_then p before n ys (Ok ps) =
      let e : n + 1 + length ps ≡ n + suc (length ps) = omega arith in
      first_in_front p ps (from ((before ++ p.0 ∷ []) ++ keys_of ps) (n + 1 + length ps) ys)
      ∙ ap₂ (λ (b : List K) (k : ℕ). in_front (p ∷ ps) (from b k ys)) (append_assoc before (p.0 ∷ []) (keys_of ps)) e
  first_then p before n ys (Err e) = refl

  clash_then : (before : List K) (n : ℕ) (x : A) (r : K) (xs ys : List A) (c : Option F)
      → from (before ++ r ∷ []) (n + 1) (xs ++ ys) ≡ then_keys (from (before ++ r ∷ []) (n + 1) xs) (λ ps. from ((before ++ r ∷ []) ++ keys_of ps) (n + 1 + length ps) ys)
      → unless_clash number n x r c (from (before ++ r ∷ []) (n + 1) (xs ++ ys)) ≡ then_keys (unless_clash number n x r c (from (before ++ r ∷ []) (n + 1) xs)) (λ ps. from (before ++ keys_of ps) (n + length ps) ys)
  clash_then before n x r xs ys None h = ap (with_first (r, x)) h ∙ first_then (r, x) before n ys (from (before ++ r ∷ []) (n + 1) xs)
  clash_then before n x r xs ys (Some fault) h = refl

  keys_then : (before : List K) (n : ℕ) (x : A) (xs ys : List A) (o : Result K F)
      → ((r : K) → from (before ++ r ∷ []) (n + 1) (xs ++ ys) ≡ then_keys (from (before ++ r ∷ []) (n + 1) xs) (λ ps. from ((before ++ r ∷ []) ++ keys_of ps) (n + 1 + length ps) ys))
      → with_keys number n o (λ r. unless_clash number n x r (clash before r) (from (before ++ r ∷ []) (n + 1) (xs ++ ys)))
      ≡ then_keys (with_keys number n o (λ r. unless_clash number n x r (clash before r) (from (before ++ r ∷ []) (n + 1) xs))) (λ ps. from (before ++ keys_of ps) (n + length ps) ys)
  keys_then before n x xs ys (Err fault) h = refl
  keys_then before n x xs ys (Ok r) h = clash_then before n x r xs ys (clash before r) (h r)

  keyed_behind : (before : List K) (n : ℕ) (xs ys : List A) → from before n (xs ++ ys) ≡ then_keys (from before n xs) (λ ps. from (before ++ keys_of ps) (n + length ps) ys)
  keyed_behind before n [] ys =
      let e : n + 0 ≡ n = omega arith in
      sym (none_in_front (from (before ++ []) (n + 0) ys) ∙ ap₂ (λ (b : List K) (k : ℕ). from b k ys) (append-nil before) e)
  keyed_behind before n (x ∷ xs) ys = keys_then before n x xs ys (keys x) (λ r. keyed_behind (before ++ r ∷ []) (n + 1) xs ys)

  -- ---- behind other keys

  module _ (stay : ClashesStay clash) (front : List K) (m : ℕ) where
    abbrev again : List K → ℕ → Result (List (K × A)) (Met K F) → Result (List (K × A)) (Met K F)
    again before n q = unless (clash_after number clash (front ++ before) (m + n) (seen_by q)) (moved (λ c. m) q)

    more : (before : List K) (n : ℕ) (y : A) (r : K) (q : Result (List (K × A)) (Met K F)) → clash (front ++ before) r ≡ None
        → with_first (r, y) (again (before ++ r ∷ []) (n + 1) q) ≡ again before n (with_first (r, y) q)
    more before n y r q h =
        let e : m + (n + 1) ≡ m + n + 1 = omega arith in
        first_unless (r, y) (clash_after number clash (front ++ (before ++ r ∷ [])) (m + (n + 1)) (seen_by q)) (moved (λ c. m) q)
        ∙ ap₂ (λ (b : List K) (k : ℕ). unless (having_seen r (clash_after number clash b k (seen_by q))) (with_first (r, y) (moved (λ c. m) q))) (sym (append_assoc front before (r ∷ []))) e
        ∙ ap (λ (s : Result (List (K × A)) (Met K F)). unless (having_seen r (clash_after number clash ((front ++ before) ++ r ∷ []) (m + n + 1) (seen_by q))) s) (first_moved (λ c. m) (r, y) q)
        ∙ ap (λ (o : Option F). unless (clash_or number (m + n) r o (clash_after number clash ((front ++ before) ++ r ∷ []) (m + n + 1) (seen_by q))) (moved (λ c. m) (with_first (r, y) q))) (sym h)
        ∙ ap (λ (s : List K). unless (clash_after number clash (front ++ before) (m + n) s) (moved (λ c. m) (with_first (r, y) q))) (sym (seen_first (r, y) q))

    clashed : (before : List K) (n : ℕ) (y : A) (r : K) (fault : F) (q : Result (List (K × A)) (Met K F)) → clash (front ++ before) r ≡ Some fault
        → Err (record { step = number; tuple = m + n; fault = fault; seen = r ∷ [] }) ≡ again before n (with_first (r, y) q)
    clashed before n y r fault q h =
        ap (λ (o : Option F). unless (clash_or number (m + n) r o (clash_after number clash ((front ++ before) ++ r ∷ []) (m + n + 1) (seen_by q))) (moved (λ c. m) (with_first (r, y) q))) (sym h)
        ∙ ap (λ (s : List K). unless (clash_after number clash (front ++ before) (m + n) s) (moved (λ c. m) (with_first (r, y) q))) (sym (seen_first (r, y) q))

    both_clash : (before : List K) (n : ℕ) (y : A) (r : K) (own all : Option F) (q s : Result (List (K × A)) (Met K F)) → clash before r ≡ own → clash (front ++ before) r ≡ all
        → s ≡ again (before ++ r ∷ []) (n + 1) q
        → unless_clash number (m + n) y r all s ≡ again before n (unless_clash number n y r own q)
    both_clash before n y r None None q s h k is = ap (with_first (r, y)) is ∙ more before n y r q k
    both_clash before n y r None (Some fault) q s h k is = clashed before n y r fault q k
    both_clash before n y r (Some own) None q s h k is =
        absurd (none_is_none F (subst IsSome k (stay front before r (subst IsSome (sym h) refl))))
    both_clash before n y r (Some own) (Some fault) q s h k is =
        ap (λ (o : Option F). unless (clash_or number (m + n) r o None) (moved (λ c. m) (Err (record { step = number; tuple = n; fault = own; seen = r ∷ [] })))) (sym k)

    keys_again : (before : List K) (n : ℕ) (y : A) (ys : List A) (o : Result K F)
        → ((r : K) → from (front ++ (before ++ r ∷ [])) (m + (n + 1)) ys ≡ again (before ++ r ∷ []) (n + 1) (from (before ++ r ∷ []) (n + 1) ys))
        → with_keys number (m + n) o (λ r. unless_clash number (m + n) y r (clash (front ++ before) r) (from ((front ++ before) ++ r ∷ []) (m + n + 1) ys))
        ≡ again before n (with_keys number n o (λ r. unless_clash number n y r (clash before r) (from (before ++ r ∷ []) (n + 1) ys)))
    keys_again before n y ys (Err fault) h = refl
    keys_again before n y ys (Ok r) h =
        let e : m + n + 1 ≡ m + (n + 1) = omega arith in
        both_clash before n y r (clash before r) (clash (front ++ before) r) (from (before ++ r ∷ []) (n + 1) ys) (from ((front ++ before) ++ r ∷ []) (m + n + 1) ys) refl refl
        (ap₂ (λ (b : List K) (k : ℕ). from b k ys) (append_assoc front before (r ∷ [])) e ∙ h r)

    keyed_again : (before : List K) (n : ℕ) (ys : List A) → from (front ++ before) (m + n) ys ≡ again before n (from before n ys)
    keyed_again before n [] = refl
    keyed_again before n (y ∷ ys) = keys_again before n y ys (keys y) (λ r. keyed_again (before ++ r ∷ []) (n + 1) ys)

  -- ---- what is kept

  abbrev Kept : ℕ → Result (List (K × A)) (Met K F) → Type 0
  Kept n (Ok ps) = length ps ≡ n
  Kept n (Err e) = e.step ≡ number

  first_kept : (p : K × A) (n : ℕ) (q : Result (List (K × A)) (Met K F)) → Kept n q → Kept (suc n) (with_first p q)
  first_kept p n (Ok ps) h = ap suc h
  first_kept p n (Err e) h = h

  clash_kept : (at n : ℕ) (x : A) (r : K) (c : Option F) (q : Result (List (K × A)) (Met K F)) → Kept n q → Kept (suc n) (unless_clash number at x r c q)
  clash_kept at n x r None q h = first_kept (r, x) n q h
  clash_kept at n x r (Some fault) q h = refl

  keys_kept : (before : List K) (at : ℕ) (x : A) (xs : List A) (o : Result K F) → ((r : K) → Kept (length xs) (from (before ++ r ∷ []) (at + 1) xs))
      → Kept (suc (length xs)) (with_keys number at o (λ r. unless_clash number at x r (clash before r) (from (before ++ r ∷ []) (at + 1) xs)))
  keys_kept before at x xs (Err fault) h = refl
  keys_kept before at x xs (Ok r) h = clash_kept at (length xs) x r (clash before r) (from (before ++ r ∷ []) (at + 1) xs) (h r)

  kept : (before : List K) (at : ℕ) (xs : List A) → Kept (length xs) (from before at xs)
  kept before at [] = refl
  kept before at (x ∷ xs) = keys_kept before at x xs (keys x) (λ r. kept (before ++ r ∷ []) (at + 1) xs)

  -- ---- the step

  abbrev takes : List A → ℕ → ℕ
  takes xs c = if c == number then length xs else 0

  abbrev own : ℕ → Result (List (K × A)) (Met K F) → Result (List (K × A)) (Met K F)
  own n r = moved (λ c. n) r

  -- all faults are of this step, so they move by the tuples that it takes in
  moved_own : (xs : List A) (n : ℕ) (r : Result (List (K × A)) (Met K F)) → Kept n r → moved (takes xs) r ≡ moved (λ c. length xs) r
  moved_own xs n r k = moved_same (takes xs) (λ c. length xs) r (λ e h. picks (e.step == number) (length xs) 0 (eq_true e.step number (subst (Kept n) h k)))

  compare_own : (ps : List (K × A)) (n : ℕ) (r : Result (List (K × A)) (Met K F)) → Kept n r → in_order number clash ps (moved (λ c. length ps) r) ≡ in_front ps (unless (clash_after number clash (keys_of ps) (length ps + 1) (seen_by r)) (moved (λ c. length ps) r))
  compare_own ps n (Ok qs) k = refl
  compare_own ps n (Err e) k = picks (e.step == number) (compared number clash ps (Err (further (λ c. length ps) e))) (Err (further (λ c. length ps) e)) (eq_true e.step number k)

  first_is : (d : Met K F) (n : ℕ) (f : ℕ → ℕ) (r : Result (List (K × A)) (Met K F)) → d.step ≡ number → Kept n r → first_fault d (moved f r) ≡ d
  first_is d n f (Ok qs) h k = refl
  first_is d n f (Err e) h k =
      let b : e.step ≡ number = k in
      passes (nat_lt e.step d.step) (further f e) d (lt_false e.step d.step (omega arith))

  parts_case : ClashesStay clash → (xs ys : List A) (q : Result (List (K × A)) (Met K F)) → Kept (length xs) q
      → then_keys q (λ ps. from ([] ++ keys_of ps) (1 + length ps) ys) ≡ behind (in_order number clash) q (moved (takes xs) (from [] 1 ys))
  parts_case stay xs ys (Ok ps) k =
      let e : 1 + length ps ≡ length ps + 1 = omega arith in
      ap₂ (λ (b : List K) (i : ℕ). in_front ps (from b i ys)) (sym (append-nil (keys_of ps))) e
      ∙ ap (in_front ps) (keyed_again stay (keys_of ps) (length ps) [] 1 ys)
      ∙ ap (λ (b : List K). in_front ps (unless (clash_after number clash b (length ps + 1) (seen_by (from [] 1 ys))) (moved (λ c. length ps) (from [] 1 ys)))) (append-nil (keys_of ps))
      ∙ sym (compare_own ps (length ys) (from [] 1 ys) (kept [] 1 ys))
      ∙ ap (λ (i : ℕ). in_order number clash ps (moved (λ c. i) (from [] 1 ys))) k
      ∙ ap (in_order number clash ps) (sym (moved_own xs (length ys) (from [] 1 ys) (kept [] 1 ys)))
  parts_case stay xs ys (Err d) k = sym (ap Err (first_is d (length ys) (takes xs) (from [] 1 ys) k (kept [] 1 ys)))

  compared_step : (ps : List (K × A)) (e : Met K F) (c : Option (Met K F)) → e.step ≡ number → ((d : Met K F) → c ≡ Some d → d.step ≡ number)
      → (d : Met K F) × (in_front ps (unless c (Err e)) ≡ Err d) × (d.step ≡ e.step)
  compared_step ps e None h k = (seen_behind (keys_of ps) e, refl, refl)
  compared_step ps e (Some d) h k = (seen_behind (keys_of ps) d, refl, k d refl ∙ sym h)

  having_step : (r : K) (c : Option (Met K F)) (d : Met K F) → ((d : Met K F) → c ≡ Some d → d.step ≡ number) → having_seen r c ≡ Some d → d.step ≡ number
  having_step r None d h k = absurd cc
  having_step r (Some e) d h k =
      let same : record e { seen = r ∷ e.seen } ≡ d = cc in
      ap (λ (m : Met K F). m.step) (sym same) ∙ h e refl

  clash_step : (n : ℕ) (r : K) (o : Option F) (c : Option (Met K F)) (d : Met K F) → ((d : Met K F) → c ≡ Some d → d.step ≡ number) → clash_or number n r o c ≡ Some d → d.step ≡ number
  clash_step n r None c d h k = having_step r c d h k
  clash_step n r (Some fault) c d h k =
      let same : record { step = number; tuple = n; fault = fault; seen = r ∷ [] } ≡ d = cc in
      ap (λ (m : Met K F). m.step) (sym same)

  after_step : (before : List K) (n : ℕ) (rs : List K) (d : Met K F) → clash_after number clash before n rs ≡ Some d → d.step ≡ number
  after_step before n [] d h = absurd cc
  after_step before n (r ∷ rs) d h = clash_step n r (clash before r) (clash_after number clash (before ++ r ∷ []) (n + 1) rs) d (after_step (before ++ r ∷ []) (n + 1) rs) h

  faults_case : (ps : List (K × A)) (e : Met K F) (b : Bool) → (e.step == number) ≡ b → (d : Met K F) × ((if b then compared number clash ps (Err e) else Err e) ≡ Err d) × (d.step ≡ e.step)
  faults_case ps e true h = compared_step ps e (clash_after number clash (keys_of ps) (length ps + 1) e.seen) (eq_is e.step number h) (after_step (keys_of ps) (length ps + 1) e.seen)
  faults_case ps e false h = (e, refl, refl)

  compared_clash : (ps qs : List (K × A)) (e : Met K F) (c : Option (Met K F)) → ((d : Met K F) → c ≡ Some d → d.step ≡ number) → in_front ps (unless c (Ok qs)) ≡ Err e → e.step ≡ number
  compared_clash ps qs e None k h = absurd cc
  compared_clash ps qs e (Some d) k h =
      let same : seen_behind (keys_of ps) d ≡ e = cc in
      ap (λ (m : Met K F). m.step) (sym same) ∙ k d refl

  leaves : (ps : List (K × A)) (e : Met K F) → e.step < number → in_order number clash ps (Err e) ≡ Err e
  leaves ps e h =
      let ne : e.step ≡ number → ⊥ = λ (k : e.step ≡ number). omega arith in
      passes (e.step == number) (compared number clash ps (Err e)) (Err e) (eq_false e.step number ne)

  order_follows : Follows number (in_order {A = A} number clash)
  order_follows = record {
    leaves = leaves;
    faults = λ ps e. faults_case ps e (e.step == number) refl;
    clash = λ ps qs e h. compared_clash ps qs e (clash_after number clash (keys_of ps) (length ps + 1) (keys_of qs)) (after_step (keys_of ps) (length ps + 1) (keys_of qs)) h;
  }

  counts_case : (xs ys : List A) (b : Bool) → (if b then length (xs ++ ys) else 0) ≡ (if b then length xs else 0) + (if b then length ys else 0)
  counts_case xs ys true = length-append xs ys
  counts_case xs ys false = refl

  none_case : (b : Bool) → (if b then length {A = A} [] else 0) ≡ 0
  none_case true = refl
  none_case false = refl

  pub ordered_falls : ClashesStay clash → Falls number number [] (in_order number clash) (ordered number keys clash)
  ordered_falls stay = record {
    none = refl;
    none_in = λ c. none_case (c == number);
    outside = λ c xs h.
        let ne : c ≡ number → ⊥ = λ (e : c ≡ number). omega arith in
        passes (c == number) (length xs) 0 (eq_false c number ne);
    steps = λ xs e h.
        let k : e.step ≡ number = subst (Kept (length xs)) h (kept [] 1 xs) in
        (omega arith, omega arith);
    parts = λ xs ys. keyed_behind [] 1 xs ys ∙ parts_case stay xs ys (from [] 1 xs) (kept [] 1 xs);
    counts = λ c xs ys h k. counts_case xs ys (c == number);
    before = leaves;
    follows = order_follows;
  }
