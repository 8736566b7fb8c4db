-- The laws of a repetition: where each repeat is as long as it can be; and with it that of a repetition where no token can go on with a repeat and begin one.
use Rattle.std.proofs.Common.{◌≡◌, ◌<◌, ◌≤◌, inl, inr, ℕ, zero, suc, Bool, true, false, cond, List, [], ◌∷◌, ◌++◌, length, Ok, Err, refl, sym, ap, ◌∙◌, append_assoc, arith}
use Rattle.std.specs.Prelude.{◌||◌}
use Rattle.std.proofs.lemmas.Bool.{or_left, false_from_ne_true}
use Rattle.std.proofs.lemmas.List.{length-append}
use Rattle.grammar_parts.specs.Tokens.{Class, either, given, sees}
use Rattle.grammar_parts.specs.Readers.{Outcome, Reader, and_then, read_times, read_many}
use Rattle.grammar_parts.specs.Parts.{Part, Ends, long, LongWhole, LongBegun, Repeats, many, ManyWhole, ManyBegun, RepeatsLong, BegunLong, many_long, ManyLongWhole, ManyLongBegun}
use Rattle.grammar_parts.specs.Good.{Good, Judge, Stuck, Apart}
use Rattle.grammar_parts.proofs.Cuts.{head_same, split_append, shorter, no_length}
use Rattle.grammar_parts.proofs.Alike.{Alike, alike-good}
use Rattle.grammar_parts.proofs.Longest.{long-extends, long-judge, long-complete_first, ends_front, ends_push}

three : (a b : Bool) → ((a || b) || b) ≡ true → (a || b) ≡ true
three true b e = refl
three false true e = refl
three false false e = absurd cc

many_ext_same : {T : Type 0} (first ext : Class T) (t : T) → either (either first ext) (given true ext) t ≡ true → either first ext t ≡ true
many_ext_same first ext t e = three (first t) (ext t) e

abbrev pairs : {T A : Type 0} → Outcome T A → Reader T (List A) → Outcome T (A × List A)
pairs o q = and_then o (λ x r. and_then (q r) (λ y r2. Ok ((x, y), r2)))

abbrev conses : {T A : Type 0} → Outcome T A → Reader T (List A) → Outcome T (List A)
conses o q = and_then o (λ x r. and_then (q r) (λ y r2. Ok (x ∷ y, r2)))

module _ {T A : Type 0} (g : Part T A) (first ext : Class T) (left : Good g first ext false) where
  ml-is_begun : (xs : List A) (u : List T) → RepeatsLong g u xs → (many_long first g).begun u
  unfolding ManyLongWhole ManyLongBegun
  ml-is_begun [] u w = ([], rw w left.none)
  ml-is_begun (x ∷ xs) u (a, b, e, w, rep, en) = (let z = ml-is_begun xs b rep in (x ∷ z.0, (a, b, e, w, z.1, en)))

  ml-starts_by : (xs : List A) (t : T) (u : List T) → BegunLong g (t ∷ u) xs → first t ≡ true
  ml-starts_by [] t u b = left.starts t u b
  ml-starts_by (x ∷ xs) t u ([], b, e, w, bg, en) = (let z = left.is_empty x w in absurd cc)
  ml-starts_by (x ∷ xs) t u (t2 ∷ a, b, e, w, bg, en) = (let i : t ≡ t2 = head_same t t2 u (a ++ b) e in let z = left.starts t2 a (left.is_begun (t2 ∷ a) x w) in rw i z)

  ml-starts : (t : T) (u : List T) → (many_long first g).begun (t ∷ u) → first t ≡ true
  unfolding ManyLongWhole ManyLongBegun
  ml-starts t u (xs, b) = ml-starts_by xs t u b

  ml-unfold : (l : List T) → (many_long first g).begun l → (long g (many_long first g)).begun l
  unfolding LongWhole LongBegun ManyLongWhole ManyLongBegun
  ml-unfold l ([], b) = inl b
  ml-unfold l (x ∷ xs, (a, b, e, w, bg, en)) = inr (a, b, x, e, w, (xs, bg), en)

  ml-fold : (l : List T) → (long g (many_long first g)).begun l → (many_long first g).begun l
  unfolding LongWhole LongBegun ManyLongWhole ManyLongBegun
  ml-fold l (inl b) = ([], b)
  ml-fold l (inr (a, b, x, e, w, (xs, bg), en)) = (x ∷ xs, (a, b, e, w, bg, en))

  ml-closed_by : (xs : List A) (u v : List T) → BegunLong g (u ++ v) xs → (many_long first g).begun u
  unfolding ManyLongWhole ManyLongBegun
  ml-closed_by [] u v b = ([], left.closed u v b)
  ml-closed_by (x ∷ xs) u v (a, b, e, w, bg, en) =
      elim (split_append u v a b e) [
        | inl (c, f) ↦ ([], left.closed u c (rw f at (left.is_begun a x w)))
        | inr (c, f, i) ↦ (let z = ml-closed_by xs c v (rw i at bg) in (x ∷ z.0, (a, c, f, w, z.1, ends_front g (many_long first g) first ext false left a c v (rw i at en))))
      ]

  ml-closed : (u v : List T) → (many_long first g).begun (u ++ v) → (many_long first g).begun u
  unfolding ManyLongWhole ManyLongBegun
  ml-closed u v (xs, b) = ml-closed_by xs u v b

  ml-whole : (xs : List A) (x : A) (u : List T) → RepeatsLong g u (x ∷ xs) → (long g (many_long first g)).whole u (x, xs)
  unfolding LongWhole LongBegun ManyLongWhole ManyLongBegun
  ml-whole xs x u (a, b, e, w, rep, en) = (a, b, e, w, rep, en)

  ml-extends : (u : List T) (xs : List A) (t : T) → RepeatsLong g u xs → (many_long first g).begun (u ++ t ∷ []) → either first ext t ≡ true
  unfolding ManyLongWhole ManyLongBegun
  ml-extends u [] t w b = or_left (first t) (ext t) (ml-starts t [] (rw w at b))
  ml-extends u (x ∷ xs) t w b =
      many_ext_same first ext t (long-extends g (many_long first g) first ext (either first ext) false true left (λ y v. refl) u (x, xs) t (λ c v d. ml-extends c xs t v d) (ml-whole xs x u w) (ml-unfold (u ++ t ∷ []) b))

  ml-turn_stuck : (u r : List T) → Stuck (long g (many_long first g)) u r → Stuck (many_long first g) u r
  ml-turn_stuck u r st t r2 e b = st t r2 e (ml-unfold (u ++ t ∷ []) b)

  ml-turn_second : (s : List T) (x : A) (o : Outcome T (List A)) → Judge (long g (many_long first g)) s (and_then o (λ y r2. Ok ((x, y), r2))) → Judge (many_long first g) s (and_then o (λ y r2. Ok (x ∷ y, r2)))
  unfolding LongWhole LongBegun ManyLongWhole ManyLongBegun
  ml-turn_second s x (Ok y) (u, e, (a, b, e2, w, v, en), st) = (u, e, (a, b, e2, w, v, en), ml-turn_stuck u y.1 st)
  ml-turn_second s x (Err r) (u, e, b, st) = (u, e, ml-fold u b, ml-turn_stuck u r st)

  ml-turn : (s : List T) (o : Outcome T A) (q : Reader T (List A)) → Judge (long g (many_long first g)) s (pairs o q) → Judge (many_long first g) s (conses o q)
  ml-turn s (Ok x) q j = ml-turn_second s x.0 (q x.1) j
  ml-turn s (Err r) q (u, e, b, st) = (u, e, ml-fold u b, ml-turn_stuck u r st)

  ml-ended : (s : List T) → sees first s ≡ false → Judge (many_long first g) s (Ok ([], s))
  unfolding ManyLongWhole ManyLongBegun
  ml-ended s e = ([], refl, refl, λ t r2 es b. (let z = ml-starts t [] b in let y : sees first s ≡ true = rw (es, z) refl in cc))

  ml-takes : (s r : List T) (x : A) → Judge g s (Ok (x, r)) → length r < length s
  ml-takes s r x (u, e, w, st) = shorter u s r e (λ n. (let z = left.is_empty x (rw n at w) in cc))

  ml-judge_by : (n : ℕ) (s : List T) → length s ≤ suc n → (m : Bool) → sees first s ≡ m → ((r : List T) → length r ≤ n → Judge (many_long first g) r (read_times n first g.read r)) → Judge (many_long first g) s (cond m (conses (g.read s) (read_times n first g.read)) (Ok ([], s)))
  ml-judge_by n s h false em j = ml-ended s em
  ml-judge_by n s h true em j =
      let js : Judge g s (g.read s) = left.judge s in
      let inner : Judge (long g (many_long first g)) s (pairs (g.read s) (read_times n first g.read)) = long-judge g (many_long first g) first ext false left (read_times n first g.read) s (g.read s) refl js
      (λ x r e. j r (let lt : length r < length s = ml-takes s r x (rw e at js) in omega arith)) in
      ml-turn s (g.read s) (read_times n first g.read) inner

  ml-judge : (n : ℕ) (s : List T) → length s ≤ n → Judge (many_long first g) s (read_times n first g.read s)
  unfolding read_times
  ml-judge zero s h = ml-ended s (rw (no_length s h) refl)
  ml-judge (suc n) s h = ml-judge_by n s h (sees first s) refl (λ r lt. ml-judge n r lt)

  ml-complete_none : (n : ℕ) (r : List T) → Stuck (many_long first g) [] r → read_times n first g.read r ≡ Ok ([], r)
  unfolding read_times ManyLongWhole ManyLongBegun
  ml-complete_none zero r st = refl
  ml-complete_none (suc n) [] st = refl
  ml-complete_none (suc n) (t ∷ r) st =
      let e : first t ≡ false = false_from_ne_true (first t) (λ f. st t r refl ([], left.exact t f)) in
      rw e refl

  ml-in_second : (a b : List T) (t : T) (x : A) → g.whole a x → Ends g a (b ++ t ∷ []) → (many_long first g).begun (b ++ t ∷ []) → (long g (many_long first g)).begun ((a ++ b) ++ t ∷ [])
  unfolding LongWhole LongBegun
  ml-in_second a b t x w en c = inr (a, b ++ t ∷ [], x, append_assoc a b (t ∷ []), w, c, en)

  ml-complete_by : (xs : List A) (n : ℕ) (u r : List T) → length (u ++ r) ≤ n → RepeatsLong g u xs → Stuck (many_long first g) u r → read_times n first g.read (u ++ r) ≡ Ok (xs, r)
  unfolding read_times ManyLongWhole ManyLongBegun
  ml-complete_by [] n u r h w st = rw w (ml-complete_none n r (rw w at st))
  ml-complete_by (x ∷ xs) n u r h ([], b, e, w, rep, en) st = (let z = left.is_empty x w in absurd cc)
  ml-complete_by (x ∷ xs) zero u r h (t2 ∷ a, b, e, w, rep, en) st = (let z : length u ≡ suc (length (a ++ b)) = ap length e in absurd (omega (arith, length-append u r)))
  ml-complete_by (x ∷ xs) (suc n) u r h (t2 ∷ a, b, e, w, rep, en) st =
      let s1 : Stuck g (t2 ∷ a) (b ++ r) = long-complete_first g (many_long first g) first ext false left (t2 ∷ a) b r en (λ t r2 er c. st t r2 er ([], rw e c)) in
      let eu : u ++ r ≡ (t2 ∷ a) ++ (b ++ r) = ap (λ (l : List T). l ++ r) e ∙ append_assoc (t2 ∷ a) b r in
      let e1 : g.read ((t2 ∷ a) ++ (b ++ r)) ≡ Ok (x, b ++ r) = left.complete (t2 ∷ a) (b ++ r) x w s1 in
      let e0 : first t2 ≡ true = left.starts t2 a (left.is_begun (t2 ∷ a) x w) in
      let shorter_b : length (b ++ r) ≤ n = omega (arith, ap length eu, length-append (t2 ∷ a) (b ++ r)) in
      let s2 : Stuck (many_long first g) b r = λ t r2 er c. st t r2 er (rw e (ml-fold (((t2 ∷ a) ++ b) ++ t ∷ []) (ml-in_second (t2 ∷ a) b t x w (ends_push g (many_long first g) first ext false left (t2 ∷ a) b t r r2 s1 er) c))) in
      let e2 : read_times n first g.read (b ++ r) ≡ Ok (xs, r) = ml-complete_by xs n b r shorter_b rep s2 in
      rw (eu, e0, e1, e2) refl

  pub many_long-good : Good (many_long first g) first (either first ext) true
  unfolding ManyLongWhole ManyLongBegun read_many
  many_long-good = record {
    none = ([], left.none);
    closed = ml-closed;
    is_begun = λ u xs w. ml-is_begun xs u w;
    starts = ml-starts;
    exact = λ t e. ([], left.exact t e);
    is_empty = λ x w. refl;
    empties = λ e. ([], refl);
    extends = ml-extends;
    judge = λ s. ml-judge (length s) s (omega arith);
    complete = λ u r xs w st. ml-complete_by xs (length (u ++ r)) u r (omega arith) w st;
  }

-- ---- any number, where no token can go on with a repeat and begin one

module _ {T A : Type 0} (g : Part T A) (first ext : Class T) (left : Good g first ext false) (off : Apart ext first) where
  longs : Good (many_long first g) first (either first ext) true
  longs = many_long-good g first ext left

  ends_by : (a b : List T) (x : A) → g.whole a x → (many_long first g).begun b → Ends g a b
  ends_by a b x w bg t r e c = off t (left.extends a x t w c) (longs.starts t r (rw e at bg))

  repeats_long : (xs : List A) (l : List T) → Repeats g.whole l xs → RepeatsLong g l xs
  unfolding ManyLongWhole
  repeats_long [] l w = w
  repeats_long (x ∷ xs) l (a, b, e, w, v) = (let z = repeats_long xs b v in (a, b, e, w, z, ends_by a b x w (longs.is_begun b xs z)))

  repeats_back : (xs : List A) (l : List T) → RepeatsLong g l xs → Repeats g.whole l xs
  repeats_back [] l w = w
  repeats_back (x ∷ xs) l (a, b, e, w, v, en) = (a, b, e, w, repeats_back xs b v)

  begun_long : (xs : List A) (l a b : List T) → l ≡ a ++ b → Repeats g.whole a xs → g.begun b → BegunLong g l xs
  unfolding ManyLongBegun
  begun_long [] l a b e w bg = rw e (rw w bg)
  begun_long (x ∷ xs) l a b e (a1, a2, e2, w, v) bg =
      let z = begun_long xs (a2 ++ b) a2 b refl v bg in
      (a1, a2 ++ b, e ∙ ap (λ (m : List T). m ++ b) e2 ∙ append_assoc a1 a2 b, w, z, ends_by a1 (a2 ++ b) x w (xs, z))

  begun_back : (xs : List A) (l : List T) → BegunLong g l xs → (many first g).begun l
  unfolding ManyBegun
  begun_back [] l b = ([], l, [], refl, refl, b)
  begun_back (x ∷ xs) l (a, b, e, w, bg, en) =
      let z = begun_back xs b bg in
      (a ++ z.0, z.1, x ∷ z.2, e ∙ ap (λ (m : List T). a ++ m) z.3 ∙ sym (append_assoc a z.0 z.1), (a, z.0, refl, w, z.4), z.5)

  many-alike : Alike (many_long first g) (many first g)
  unfolding ManyWhole ManyBegun ManyLongWhole ManyLongBegun
  many-alike = record {
    begun = λ l b. begun_back b.0 l b.1;
    begun_back = λ l b. (b.2, begun_long b.2 l b.0 b.1 b.3 b.4 b.5);
    whole = λ l xs w. repeats_back xs l w;
    whole_back = λ l xs w. repeats_long xs l w;
    read = λ s. refl;
  }

  pub many-good : Good (many first g) first (either first ext) true
  many-good = alike-good (many_long first g) (many first g) many-alike _ _ _ longs
