-- Turns one after another, and what they read.
use Rattle.std.proofs.Common.{◌≡◌, ◌⊎◌, inl, inr, ℕ, zero, suc, ◌≤◌, ◌<◌, Bool, true, false, List, [], ◌∷◌, ◌++◌, length, map, Result, Ok, Err, refl, ap, ◌∙◌, arith}
use Rattle.std.proofs.lemmas.List.{map-id}
use denote.Ref.{MutBor}
use Rattle.std.specs.declared.alloc.Global.{Global}
use Rattle.std.specs.declared.vec.Vec.{Vec}
use Rattle.grammar_parts.specs.declared.cursor.Cursor.{Cursor}
use Rattle.grammar_parts.specs.declared.cursor.Stop.{Stop}
use Rattle.grammar_parts.specs.declared.cursor.Stop.TheVariants as stop
use Rattle.grammar_parts.specs.Tokens.{Class, sees, rest_of}
use Rattle.grammar_parts.specs.Readers.{Reader, Outcome, and_then, take_where, read_times, read_many, read_mapped, read_seq}
use Rattle.grammar_parts.specs.Reads.{ReadsAs}
use Rattle.grammar_parts.specs.Turns.{Call, Turn, Turns, start, Ended, Began, Repeated, Listed, Performs}

pub turn_at : {T R : Type 0} (post : Call T R) (old new : MutBor (Cursor T)) (answer : Result R Stop) → post old answer new → Turn post old.now.rest.now answer new.now.rest.now
turn_at post old new answer h = (old, new, refl, h, refl)

pub turn_from : {T R : Type 0} (post : Call T R) (s : List T) (old new : MutBor (Cursor T)) (answer : Result R Stop) → old.now.rest.now ≡ s → post old answer new → Turn post s answer new.now.rest.now
turn_from post s old new answer e h = (old, new, e, h, refl)

-- one turn more
pub turns_more : {T R : Type 0} (separated : Bool) (c : Class T) (post : Call T R) (s : List T) (xs : List R) (mid r : List T) (x : R) → Turns separated c post s xs mid → sees c mid ≡ true → Turn post (start separated mid) (Ok x) r → Turns separated c post s (xs ++ x ∷ []) r
turns_more separated c post s [] mid r x e v t = (r, rw e v, rw e t, refl)
turns_more separated c post s (y ∷ xs) mid r x (m, v0, t0, rest) v t = (m, v0, t0, turns_more separated c post m xs mid r x rest v t)

-- the last turn stops
pub turns_stop : {T R : Type 0} (separated : Bool) (c : Class T) (post : Call T R) (before : List R) (s : List T) (xs : List R) (mid r : List T) (e : Stop) → Turns separated c post s xs mid → length xs < length s → sees c mid ≡ true → Turn post (start separated mid) (Err e) r → Ended separated c post before s (Err e) r
turns_stop separated c post before s xs mid r stop.Refused ts lt v t = (xs, mid, ts, lt, v, t)
turns_stop separated c post before s xs mid r stop.NoMemory ts lt v t = tt

-- the first call refuses
pub began_refused : {T R : Type 0} (separated : Bool) (c : Class T) (post : Call T R) (s r : List T) (e : Stop) → Turn post s (Err e) r → Began separated c post s (Err e) r
began_refused separated c post s r stop.Refused t = inl t
began_refused separated c post s r stop.NoMemory t = tt

-- turns follow the first call
pub began_more : {T R : Type 0} (separated : Bool) (c : Class T) (post : Call T R) (s mid r : List T) (x : R) (answer : Result (Vec R Global) Stop) → Turn post s (Ok x) mid → Ended separated c post (x ∷ []) mid answer r → Began separated c post s answer r
began_more separated c post s mid r x (Ok v) t h = (x, mid, t, h)
began_more separated c post s mid r x (Err stop.Refused) t h = inr (x, mid, t, h)
began_more separated c post s mid r x (Err stop.NoMemory) t h = tt

-- `p` reads an item, and `q` a further one, with what separates it
module _ {T A R : Type 0} (separated : Bool) (c : Class T) (view : R → A) (post : Call T R) (p q : Reader T A) (performs : Performs view post p) (further : (s : List T) → sees c s ≡ true → q s ≡ p (start separated s)) where
  turn_read : (s r : List T) (x : R) → Turn post s (Ok x) r → p s ≡ Ok (view x, r)
  turn_read s r x (old, new, es, h, er) = rw (← es) (rw (← er) (performs old new (Ok x) h))

  turn_refused : (s r : List T) → Turn post s (Err stop.Refused) r → p s ≡ Err r
  turn_refused s r (old, new, es, h, er) = rw (← es) (rw (← er) (performs old new (Err stop.Refused) h))

  stopped : (n : ℕ) (s : List T) → (sees c s ≡ false) ⊎ (0 ≡ n) → read_times n c q s ≡ Ok ([], s)
  unfolding read_times
  stopped zero s h = refl
  stopped (suc n) s (inl e) = rw e refl
  stopped (suc n) s (inr e) = absurd (omega arith)

  turns_read : (xs : List R) (n : ℕ) (s r : List T) → Turns separated c post s xs r → length xs ≤ n → (sees c r ≡ false) ⊎ (length xs ≡ n) → read_times n c q s ≡ Ok (map view xs, r)
  unfolding read_times
  turns_read [] n s r e le h = rw e (stopped n r h)
  turns_read (x ∷ xs) zero s r t le h = absurd (omega arith)
  turns_read (x ∷ xs) (suc n) s r (mid, v, t, rest) le h =
      let one : q s ≡ Ok (view x, mid) = further s v ∙ turn_read (start separated s) mid x t in
      let others : read_times n c q mid ≡ Ok (map view xs, r) = turns_read xs n mid r rest (omega arith) (elim h [ inl e ↦ inl e | inr e ↦ inr (omega arith) ]) in
      rw (v, one, others) refl

  turns_refused : (xs : List R) (n : ℕ) (s mid r : List T) → Turns separated c post s xs mid → length xs < n → sees c mid ≡ true → Turn post (start separated mid) (Err stop.Refused) r → read_times n c q s ≡ Err r
  unfolding read_times
  turns_refused xs zero s mid r ts lt v t = absurd (omega arith)
  turns_refused [] (suc n) s mid r e lt v t =
      let one : q mid ≡ Err r = further mid v ∙ turn_refused (start separated mid) r t in
      rw (e, v, one) refl
  turns_refused (x ∷ xs) (suc n) s mid r (m, v0, t0, rest) lt v t =
      let one : q s ≡ Ok (view x, m) = further s v0 ∙ turn_read (start separated s) m x t0 in
      let others : read_times n c q m ≡ Err r = turns_refused xs n m mid r rest (omega arith) v t in
      rw (v0, one, others) refl

  repeated_by : (s : List T) (answer : Result (Vec R Global) Stop) (r : List T) → Ended separated c post [] s answer r → ReadsAs (λ v. map view v.items) (read_many c q s) answer r
  unfolding read_many
  repeated_by s (Ok v) r (xs, e, ts, le, h) = rw e (turns_read xs (length s) s r ts le h)
  repeated_by s (Err stop.Refused) r (xs, mid, ts, lt, v, t) = turns_refused xs (length s) s mid r ts lt v t
  repeated_by s (Err stop.NoMemory) r h = tt

  abbrev all : Reader T (List A)
  all = read_mapped (λ z. z.0 ∷ z.1) (read_seq p (read_many c q))

  began_by : (s : List T) (answer : Result (Vec R Global) Stop) (r : List T) → Began separated c post s answer r → ReadsAs (λ v. map view v.items) (all s) answer r
  unfolding read_many
  began_by s (Ok v) r (x, mid, t, (xs, e, ts, le, h)) =
      let one : p s ≡ Ok (view x, mid) = turn_read s mid x t in
      let others : read_times (length mid) c q mid ≡ Ok (map view xs, r) = turns_read xs (length mid) mid r ts le h in
      rw (e, one, others) refl
  began_by s (Err stop.Refused) r (inl t) =
      let one : p s ≡ Err r = turn_refused s r t in
      rw one refl
  began_by s (Err stop.Refused) r (inr (x, mid, t, (xs, mid2, ts, lt, v, t2))) =
      let one : p s ≡ Ok (view x, mid) = turn_read s mid x t in
      let others : read_times (length mid) c q mid ≡ Err r = turns_refused xs (length mid) mid mid2 r ts lt v t2 in
      rw (one, others) refl
  began_by s (Err stop.NoMemory) r h = tt

-- A repetition by calls reads as the reader of a repetition does, if each call reads as the reader of the item.
pub repeated_reads : {T A R : Type 0} {post : Call T R} {s : List T} {answer : Result (Vec R Global) Stop} {r : List T} (c : Class T) (view : R → A) (p : Reader T A) → Repeated c post s answer r → Performs view post p → ReadsAs (λ v. map view v.items) (read_many c p s) answer r
repeated_reads {post = post} {s = s} {answer = answer} {r = r} c view p t h = repeated_by false c view post p p h (λ l e. refl) s answer r t.ended

-- an item once or more
pub some_reads : {T A R : Type 0} {post : Call T R} {s : List T} {answer : Result (Vec R Global) Stop} {r : List T} (c : Class T) (view : R → A) (p : Reader T A) → Listed false c post s answer r → Performs view post p → ReadsAs (λ v. map view v.items) (read_mapped (λ z. z.0 ∷ z.1) (read_seq p (read_many c p)) s) answer r
some_reads {post = post} {s = s} {answer = answer} {r = r} c view p t h = began_by false c view post p p h (λ l e. refl) s answer r t.began

-- behind a token of the class
abbrev pub read_behind : {T A : Type 0} → Class T → Reader T A → Reader T A
read_behind c p = read_mapped (λ z. z.1) (read_seq (take_where c) p)

module _ {T A : Type 0} (t : T) where
  abbrev paired : A → List T → Outcome T (T × A)
  paired y r = Ok ((t, y), r)

  abbrev second : T × A → List T → Outcome T A
  second x r = Ok (x.1, r)

  passed : (o : Outcome T A) → and_then (and_then o paired) second ≡ o
  passed (Ok x) = refl
  passed (Err r) = refl

behind_one : {T A : Type 0} (c : Class T) (p : Reader T A) (s : List T) → sees c s ≡ true → read_behind c p s ≡ p (rest_of s)
behind_one c p [] e = absurd cc
behind_one c p (t ∷ r) e = rw e (passed t (p r))

-- items with a token between each two
pub list_reads : {T A R : Type 0} {post : Call T R} {s : List T} {answer : Result (Vec R Global) Stop} {r : List T} (c : Class T) (view : R → A) (p : Reader T A) → Listed true c post s answer r → Performs view post p → ReadsAs (λ v. map view v.items) (read_mapped (λ z. z.0 ∷ z.1) (read_seq p (read_many c (read_behind c p))) s) answer r
list_reads {post = post} {s = s} {answer = answer} {r = r} c view p t h = began_by true c view post p (read_behind c p) h (behind_one c p) s answer r t.began

plainly : {T R : Type 0} (o : Outcome T (List R)) (answer : Result (Vec R Global) Stop) (r : List T) → ReadsAs (λ v. map (λ x. x) v.items) o answer r → ReadsAs (λ v. v.items) o answer r
plainly o (Ok v) r h = h ∙ ap (λ (l : List _). Ok (l, r)) (map-id v.items)
plainly o (Err stop.Refused) r h = h
plainly o (Err stop.NoMemory) r h = tt

-- the same where the values are seen as they are
pub repeated_reads_plainly : {T R : Type 0} {post : Call T R} {s : List T} {answer : Result (Vec R Global) Stop} {r : List T} (c : Class T) (p : Reader T R) → Repeated c post s answer r → Performs (λ x. x) post p → ReadsAs (λ v. v.items) (read_many c p s) answer r
repeated_reads_plainly {s = s} {answer = answer} {r = r} c p t h = plainly (read_many c p s) answer r (repeated_reads c (λ x. x) p t h)

pub list_reads_plainly : {T R : Type 0} {post : Call T R} {s : List T} {answer : Result (Vec R Global) Stop} {r : List T} (c : Class T) (p : Reader T R) → Listed true c post s answer r → Performs (λ x. x) post p → ReadsAs (λ v. v.items) (read_mapped (λ z. z.0 ∷ z.1) (read_seq p (read_many c (read_behind c p))) s) answer r
list_reads_plainly {s = s} {answer = answer} {r = r} c p t h = plainly (read_mapped (λ z. z.0 ∷ z.1) (read_seq p (read_many c (read_behind c p))) s) answer r (list_reads c (λ x. x) p t h)
