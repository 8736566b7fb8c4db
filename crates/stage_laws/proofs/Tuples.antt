-- One tuple at a time.
use Rattle.std.proofs.Common.{◌≡◌, ℕ, ◌+◌, ◌<◌, ◌≤◌, ◌==◌, Bool, true, false, nat_lt, if◌then◌else◌, List, [], ◌∷◌, ◌++◌, length, length-append, append-nil, Result, Ok, Err, refl, sym, ap, ap₂, ◌∙◌, subst, arith}
use Rattle.stage_laws.specs.Runs.{Met, ◌>>=◌, joined, met_at, each_from, each_read}
use Rattle.stage_laws.specs.Stages.{Stage, into_next, narrow, driver}
use Rattle.stage_laws.specs.Pieces.{whole, met, clean, told_below, further, moved, first_fault, Follow, behind, Known, known, clear, SoFar, by_outcome}
use Rattle.stage_laws.specs.Laws.{ClearBelow, Falls, IsTrueOf, reach, Tells}
use Rattle.stage_laws.specs.Tuples.{limit_of, one_more, faulted, opening_known, opening, Began, outcome_of, TakesOne, TakesLines, RunsThrough, ComesOut, TuplesTell}
use Rattle.stage_laws.proofs.Basics.{lt_true, lt_false, eq_true, eq_false, eq_is, eq_not, picks, passes}
use Rattle.stage_laws.proofs.Steps.{LeftAt, each_splits, read_splits, read_behind, narrow_falls}

module _ {A M B K F : Type 0} (number last : ℕ) (empty : B) (follow : Follow B K F) (f : A → Result (List M) F) (rest : Stage M B K F) (falls : Falls (number + 1) last empty follow rest) (up_to : number ≤ last) where
  abbrev all : Falls number last empty follow (narrow number f rest)
  all = narrow_falls number (number + 1) last empty follow f rest falls (omega arith) up_to

  abbrev own : List A → Result (List M) (Met K F)
  own xs = each_from number f 1 xs

  abbrev s : Stage A B K F
  s = narrow number f rest

  length_more : (xs : List A) (x : A) → length (xs ++ x ∷ []) ≡ length xs + 1
  length_more xs x = length-append xs (x ∷ [])

  own_in : (xs : List A) → s.into number xs ≡ length xs
  own_in xs = picks (number == number) (length xs) (into_next rest number (own xs)) (eq_true number number refl)

  -- ---- a step that is not run any more

  run_from : (xs : List A) (e : Met K F) → s.run xs ≡ Err e → number ≤ e.step
  run_from xs e h = (all.steps xs e h).0

  stays : (xs : List A) (x : A) (e : Met K F) → s.run xs ≡ Err e → e.step ≤ number → s.run (xs ++ x ∷ []) ≡ Err e
  stays xs x e h le =
      all.parts xs (x ∷ []) ∙ ap (λ (q : Result B (Met K F)). behind follow q (moved (λ c. s.into c xs) (s.run (x ∷ [])))) h
      ∙ ap Err (no_less (s.run (x ∷ [])) (run_from (x ∷ [])))
    where
      no_less : (r : Result B (Met K F)) → ((d : Met K F) → r ≡ Err d → number ≤ d.step) → first_fault e (moved (λ c. s.into c xs) r) ≡ e
      no_less (Ok ys) i = refl
      no_less (Err d) i = let m : number ≤ d.step = i d refl in passes (nat_lt d.step e.step) (further (λ c. s.into c xs) d) e (lt_false d.step e.step (omega arith))

  clear_from : (l : ℕ) (q : Result B (Met K F)) → l ≤ number → ((e : Met K F) → q ≡ Err e → number ≤ e.step) → ClearBelow l q
  clear_from l (Ok ys) h i = tt
  clear_from l (Err e) h i = let m : number ≤ e.step = i e refl in omega arith

  held_is : (xs : List A) (x : A) (k : Known B K F) → IsTrueOf last k (s.run xs) → limit_of last k ≤ number → IsTrueOf last k (s.run (xs ++ x ∷ []))
  held_is xs x (known (Ok ys)) h le = absurd (omega arith)
  held_is xs x (known (Err e)) h le = stays xs x e h le
  held_is xs x (clear l) (i, h) le = (i, clear_from l (s.run (xs ++ x ∷ [])) le (run_from (xs ++ x ∷ [])))

  held_reach : (k : Known B K F) (c : ℕ) → limit_of last k ≤ number → c ≤ reach last k → c ≤ number
  held_reach (known (Ok ys)) c le h = absurd (omega arith)
  held_reach (known (Err e)) c le h = let a : e.step ≤ number = le in let b : c ≤ e.step = h in omega arith
  held_reach (clear l) c le h = let a : l ≤ number = le in let b : c ≤ l = h in omega arith

  one_in : (xs : List A) (x : A) (into : ℕ → ℕ) → into number ≡ s.into number xs → (if number == number then into number + 1 else into number) ≡ s.into number (xs ++ x ∷ [])
  one_in xs x into h =
      picks (number == number) (into number + 1) (into number) (eq_true number number refl)
      ∙ ap (λ (n : ℕ). n + 1) (h ∙ own_in xs)
      ∙ sym (own_in (xs ++ x ∷ []) ∙ length_more xs x)

  one_in_at : (xs : List A) (x : A) (into : ℕ → ℕ) (c : ℕ) → number ≡ c → into c ≡ s.into c xs → (if c == number then into c + 1 else into c) ≡ s.into c (xs ++ x ∷ [])
  one_in_at xs x into c e h =
      subst (λ (c : ℕ). (if c == number then into c + 1 else into c) ≡ s.into c (xs ++ x ∷ [])) e
      (one_in xs x into (subst (λ (c : ℕ). into c ≡ s.into c xs) (sym e) h))

  held : (xs : List A) (x : A) (g : SoFar B K F) → Tells number last s xs g → limit_of last g.what ≤ number → Tells number last s (xs ++ x ∷ []) (one_more number g)
  held xs x g tg le = record {
    is = held_is xs x g.what tg.is le;
    counts = λ c from h.
        let up : c ≤ number = held_reach g.what c le h in
        let e : number ≡ c = omega arith in
        one_in_at xs x g.into c e (tg.counts c from h);
  }

  -- ---- a step that is run

  ok_case : (k : Known B K F) (q : Result (List M) (Met K F)) → LeftAt number q → IsTrueOf last k (q >>= rest.run) → number < limit_of last k → (ys : List M) × (q ≡ Ok ys)
  ok_case k (Ok ys) l h lt = (ys, refl)
  ok_case (known (Ok ys)) (Err e) l h lt = absurd cc
  ok_case (known (Err d)) (Err e) l h lt =
      let same : e ≡ d = cc in
      let a : d.step ≡ number = ap (λ (m : Met K F). m.step) (sym same) ∙ l in
      let b : number < d.step = lt in
      absurd (omega arith)
  ok_case (clear n) (Err e) l (i, h) lt =
      let a : e.step ≡ number = l in
      let b : n ≤ e.step = h in
      let c : number < n = lt in
      absurd (omega arith)

  own_ok : (xs : List A) (g : SoFar B K F) → Tells number last s xs g → number < limit_of last g.what → (ys : List M) × (own xs ≡ Ok ys)
  own_ok xs g tg lt = ok_case g.what (own xs) ((each_splits K number f).left xs) tg.is lt

  run_reach : (k : Known B K F) → number < limit_of last k → number ≤ reach last k
  run_reach (known (Ok ys)) lt = up_to
  run_reach (known (Err e)) lt = let a : number < e.step = lt in omega arith
  run_reach (clear l) lt = let a : number < l = lt in omega arith

  in_next : (xs : List A) (ys : List M) (c : ℕ) → own xs ≡ Ok ys → number + 1 ≤ c → s.into c xs ≡ rest.into c ys
  in_next xs ys c h le =
      let ne : c ≡ number → ⊥ = λ (e : c ≡ number). omega arith in
      passes (c == number) (length xs) (into_next rest c (own xs)) (eq_false c number ne) ∙ ap (into_next rest c) h

  down : (xs : List A) (g : SoFar B K F) → Tells number last s xs g → number < limit_of last g.what → (ys : List M) × (own xs ≡ Ok ys) × Tells (number + 1) last rest ys (one_more number g)
  down xs g tg lt =
      let w = own_ok xs g tg lt in (
        w.0,
        w.1,
        record {
          is = subst (λ (q : Result (List M) (Met K F)). IsTrueOf last g.what (q >>= rest.run)) w.1 tg.is;
          counts = λ c from h.
              let ne : c ≡ number → ⊥ = λ (e : c ≡ number). omega arith in
              passes (c == number) (g.into c + 1) (g.into c) (eq_false c number ne) ∙ tg.counts c (omega arith) h ∙ in_next xs w.0 c w.1 from;
        },
      )

  own_more : (xs : List A) (x : A) (ys : List M) (r : Result (List M) F) → own xs ≡ Ok ys → f x ≡ r → own (xs ++ x ∷ []) ≡ joined (Ok ys) (moved (λ c. length xs) (joined (met_at number 1 r) (Ok [])))
  own_more xs x ys r h i = (each_splits K number f).parts xs (x ∷ []) ∙ ap₂ (λ (q : Result (List M) (Met K F)) (r : Result (List M) F). joined q (moved (λ c. length xs) (joined (met_at number 1 r) (Ok [])))) h i

  own_goes : (xs : List A) (x : A) (ys zs : List M) → own xs ≡ Ok ys → f x ≡ Ok zs → own (xs ++ x ∷ []) ≡ Ok (ys ++ zs)
  own_goes xs x ys zs h i = own_more xs x ys (Ok zs) h i ∙ ap (λ (l : List M). Ok (ys ++ l)) (append-nil zs)

  own_faults : (xs : List A) (x : A) (ys : List M) (fault : F) → own xs ≡ Ok ys → f x ≡ Err fault → own (xs ++ x ∷ []) ≡ Err (record { step = number; tuple = length xs + 1; fault = fault; seen = [] })
  own_faults xs x ys fault h i = own_more xs x ys (Err fault) h i

  up_case : (xs : List A) (x : A) (ys : List M) (g : SoFar B K F) (c : ℕ) (b : Bool) → (c == number) ≡ b → own (xs ++ x ∷ []) ≡ Ok ys → g.into number ≡ length xs + 1 → (number + 1 ≤ c → g.into c ≡ rest.into c ys) → number ≤ c → g.into c ≡ s.into c (xs ++ x ∷ [])
  up_case xs x ys g c true is h n m le =
      let e : number ≡ c = sym (eq_is c number is) in
      subst (λ (c : ℕ). g.into c ≡ s.into c (xs ++ x ∷ [])) e (n ∙ sym (own_in (xs ++ x ∷ []) ∙ length_more xs x))
  up_case xs x ys g c false is h n m le =
      let ne : c ≡ number → ⊥ = eq_not c number is in
      let lt : number + 1 ≤ c = omega arith in
      m lt ∙ sym (in_next (xs ++ x ∷ []) ys c h lt)

  up : (xs : List A) (x : A) (ys zs : List M) (g : SoFar B K F) → own xs ≡ Ok ys → f x ≡ Ok zs → g.into number ≡ length xs + 1 → Tells (number + 1) last rest (ys ++ zs) g → Tells number last s (xs ++ x ∷ []) g
  up xs x ys zs g h i n tg =
      let goes : own (xs ++ x ∷ []) ≡ Ok (ys ++ zs) = own_goes xs x ys zs h i in
      record {
        is = subst (λ (q : Result (List M) (Met K F)). IsTrueOf last g.what (q >>= rest.run)) (sym goes) tg.is;
        counts = λ c from k. up_case xs x (ys ++ zs) g c (c == number) refl goes n (λ lt. tg.counts c lt k) from;
      }

  faults : (xs : List A) (x : A) (fault : F) (g : SoFar B K F) → Tells number last s xs g → number < limit_of last g.what → f x ≡ Err fault → Tells number last s (xs ++ x ∷ []) (faulted number fault (one_more number g))
  faults xs x fault g tg lt h =
      let w = own_ok xs g tg lt in
      let n : g.into number ≡ s.into number xs = tg.counts number (omega arith) (run_reach g.what lt) in
      let place : (one_more number g).into number ≡ length xs + 1 = one_in xs x g.into n ∙ own_in (xs ++ x ∷ []) ∙ length_more xs x in
      record {
        is = ap (λ (q : Result (List M) (Met K F)). q >>= rest.run) (own_faults xs x w.0 fault w.1 h)
            ∙ ap (λ (n : ℕ). Err (record { step = number; tuple = n; fault = fault; seen = [] })) (sym place);
        counts = λ c from k.
            let le : c ≤ number = k in
            let e : number ≡ c = omega arith in
            subst (λ (c : ℕ). (one_more number g).into c ≡ s.into c (xs ++ x ∷ [])) e (one_in xs x g.into n);
      }

  pub takes_one : TakesOne number last f rest
  takes_one = record { held = held; faults = faults; down = down; up = up }

-- ---- lines of a driver

module _ {A M B K F : Type 0} (number last : ℕ) (f : A → Result (List M) F) (rest : Stage M B K F) where
  abbrev lines_of : Stage A B K F
  lines_of = driver number f rest

  no_lines : (xs : List A) → lines_of.into number xs ≡ 0
  no_lines xs = picks (number == number) 0 (into_next rest number (each_read {K = K} number f xs)) (eq_true number number refl)

  behind_in : (xs : List A) (ys : List M) (c : ℕ) → each_read {K = K} number f xs ≡ Ok ys → number + 1 ≤ c → lines_of.into c xs ≡ rest.into c ys
  behind_in xs ys c h le =
      let ne : c ≡ number → ⊥ = λ (e : c ≡ number). omega arith in
      passes (c == number) 0 (into_next rest c (each_read {K = K} number f xs)) (eq_false c number ne) ∙ ap (into_next rest c) h

  at_number : (xs : List A) (into : ℕ → ℕ) (c : ℕ) → into number ≡ 0 → number ≡ c → into c ≡ lines_of.into c xs
  at_number xs into c none e = subst (λ (c : ℕ). into c ≡ lines_of.into c xs) e (none ∙ sym (no_lines xs))

  counted_lines : (xs : List A) (ys : List M) (g : SoFar B K F) (c : ℕ) (b : Bool) → (c == number) ≡ b → each_read {K = K} number f xs ≡ Ok ys → g.into number ≡ 0 → (number + 1 ≤ c → g.into c ≡ rest.into c ys) → number ≤ c → g.into c ≡ lines_of.into c xs
  counted_lines xs ys g c true is h none m le = at_number xs g.into c none (sym (eq_is c number is))
  counted_lines xs ys g c false is h none m le =
      let ne : c ≡ number → ⊥ = eq_not c number is in
      let lt : number + 1 ≤ c = omega arith in
      m lt ∙ sym (behind_in xs ys c h lt)

  pub takes_lines : TakesLines number last f rest
  takes_lines = record {
    reads = λ xs ys g h none tg. record {
      is = subst (λ (q : Result (List M) (Met K F)). IsTrueOf last g.what (q >>= rest.run)) (sym h) tg.is;
      counts = λ c from k. counted_lines xs ys g c (c == number) refl h none (λ lt. tg.counts c lt k) from;
    };
    faults = λ xs e into h none. record {
      is = ap (λ (q : Result (List M) (Met K F)). q >>= rest.run) h;
      counts = λ c from k.
          let at : e.step ≡ number = subst (LeftAt number) h ((read_splits K number f).left xs) in
          let le : c ≤ e.step = k in
          let e : number ≡ c = omega arith in
          at_number xs into c none e;
    };
    down = λ xs ys g h tg. record {
      is = subst (λ (q : Result (List M) (Met K F)). IsTrueOf last g.what (q >>= rest.run)) h tg.is;
      counts = λ c from k. tg.counts c (omega arith) k ∙ behind_in xs ys c h from;
    };
    goes_on = read_behind K number f;
  }

-- ---- behind the last step

pub comes_out : (A K F : Type 0) → ComesOut A K F
comes_out A K F first last xs ys x g tg h =
    let told : Ok xs ≡ Ok ys = subst (λ (k : Known (List A) K F). IsTrueOf last k (Ok xs)) h tg.is in
    record {
      is = ap (λ (q : Result (List A) (Met K F)). and_one q) told;
      counts = λ c from k. tg.counts c from (subst (λ (w : Known (List A) K F). c ≤ reach last w) (sym h) k);
    }
  where
    and_one : Result (List A) (Met K F) → Result (List A) (Met K F)
    and_one (Ok l) = Ok (l ++ x ∷ [])
    and_one (Err e) = Err e

-- ---- a run

module _ {A B K F : Type 0} (first last : ℕ) (empty : B) (follow : Follow B K F) (s : Stage A B K F) (falls : Falls first last empty follow s) where
  opened : (limit : ℕ) (b : Bool) → (limit == last + 1) ≡ b → limit ≤ last + 1 → IsTrueOf last (opening_known b limit empty) (s.run [])
  opened limit true h le = falls.none
  opened limit false h le =
      let ne : limit ≡ last + 1 → ⊥ = eq_not limit (last + 1) h in
      (omega arith, subst (ClearBelow limit) (sym falls.none) tt)

  begins : (limit : ℕ) → limit ≤ last + 1 → Tells first last s [] (opening last limit empty)
  begins limit le = record { is = opened limit (limit == last + 1) refl le; counts = λ c from h. sym (falls.none_in c) }

  told_clear : (limit : ℕ) (q : Result B (Met K F)) → limit ≤ last → ClearBelow limit q → clean ≡ told_below (last + 1) limit q
  told_clear limit (Ok ys) le h =
      let ne : limit ≡ last + 1 → ⊥ = λ (e : limit ≡ last + 1). omega arith in
      sym (passes (limit == last + 1) (whole ys) clean (eq_false limit (last + 1) ne))
  told_clear limit (Err e) le h = sym (passes (nat_lt e.step limit) (met e) clean (lt_false e.step limit h))

  told : (limit : ℕ) (k : Known B K F) (q : Result B (Met K F)) → Began last limit k → IsTrueOf last k q → outcome_of k ≡ told_below (last + 1) limit q
  told limit (known (Ok ys)) q b h = sym (ap (told_below (last + 1) limit) h ∙ picks (limit == last + 1) (whole ys) clean (eq_true limit (last + 1) b))
  told limit (known (Err e)) q b h = sym (ap (told_below (last + 1) limit) h ∙ picks (nat_lt e.step limit) (met e) clean (lt_true e.step limit b))
  told limit (clear l) q (b, le) (i, h) = told_clear limit q le (subst (λ (n : ℕ). ClearBelow n q) b h)

  same_reach : (limit c : ℕ) (k : Known B K F) → Began last limit k → c ≤ reach last (by_outcome limit (outcome_of k)) → c ≤ reach last k
  same_reach limit c (known (Ok ys)) b h = h
  same_reach limit c (known (Err e)) b h = h
  same_reach limit c (clear l) (b, le) h = let m : c ≤ limit = h in omega arith

  pub runs_through : RunsThrough first last empty s
  runs_through = record {
    begins = begins;
    ends = λ limit xs g b tg. record {
      outcome = told limit g.what (s.run xs) b tg.is;
      into = λ c from h. tg.counts c from (same_reach limit c g.what b h);
    };
  }

pub tuples_tell : (A M W K F : Type 0) → TuplesTell A M W K F
tuples_tell A M W K F = record {
  takes = takes_one;
  lines = λ number last empty follow f rest falls up. takes_lines number last f rest;
  comes_out = comes_out A K F;
  through = runs_through;
}
