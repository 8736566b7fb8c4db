-- Tuples that wait to go on, step by step.
use Rattle.std.proofs.Common.{◌≡◌, ℕ, suc, ◌+◌, ◌<◌, ◌≤◌, List, [], ◌∷◌, ◌++◌, length, drop, get_or, Option, Some, None, Ok, refl, sym, ap, subst, ◌∙◌, append_assoc, append-nil, arith, reverse, length-append}
use Rattle.std.proofs.lemmas.List.{drop_more, drop_all, reverse-append, reverse-reverse}
use Rattle.seq_types.specs.declared.types.SeqType.{SeqType}
use Rattle.query_tree.specs.Bound.{BoundTree}
use Rattle.query_tree.specs.BoundViews.{bound_clause, bound_clauses}
use Rattle.query_tree.specs.declared.bound.Slot.{Slot}
use Rattle.query_tree.specs.declared.bound.Target.{Target}
use Rattle.query_tree.specs.declared.clause.Clause.{Clause}
use Rattle.query_tree.specs.Plain as p
use Rattle.query_tree.specs.Plain.{PlainClauses}
use Rattle.query_meaning.specs.Outcome.{OrFault}
use Rattle.query_meaning.specs.Environment.{Tuple, Environment, Inner}
use Rattle.clause_eval.specs.OneByOne.{tuples_at}
use Rattle.clause_eval.specs.Frames.{frame_tuple, frame_tuples}
use Rattle.clause_eval.specs.Carrying.{given_tuples, Stepped, Carries}
use Rattle.clause_eval.specs.Waits.{Wait, left_tuples, wait_of, waits_of, waits_at, AllWithin, sum_of, given_steps, steps_through, steps_left, size_left, Goes, Advanced, Turned, Left}
use Rattle.std.specs.Prelude.{Vec}
use Rattle.std.specs.declared.alloc.Global.{Global}
use Rattle.clause_eval.specs.declared.progress.Given.{Given}
use Rattle.clause_eval.specs.declared.progress.Given.TheVariants as given
use Rattle.clause_eval.specs.declared.progress.Progress.{Progress}
use Rattle.clause_eval.specs.declared.tuples.Frame.{Frame}
use Rattle.clause_eval.specs.declared.waiting.Waiting.{Waiting}
use Rattle.clause_eval.proofs.Carrying.{Clauses, stopped_carries, down_carries, gives_these, none_carries, more_carries}

-- ---- the list

pub last_waits : (ws : List Waiting) (w : Waiting) → waits_of (ws ++ w ∷ []) ≡ wait_of w ++ waits_of ws
unfolding waits_of
last_waits [] w = sym (append-nil (wait_of w))
last_waits (x ∷ ws) w = ap (λ l. l ++ wait_of x) (last_waits ws w) ∙ append_assoc (wait_of w) (waits_of ws) (wait_of x)

none_waits : (ws : List Waiting) → length ws ≡ 0 → waits_of ws ≡ []
unfolding waits_of
none_waits [] h = refl
none_waits (x ∷ ws) h = absurd (omega arith)

-- one more list
pub pushed_waits : (new ws : List Waiting) (w : Waiting) (ts : List Tuple) → new ≡ ws ++ w ∷ [] → left_tuples w.given ≡ ts → waits_of new ≡ waits_at w.passed ts ++ waits_of ws
pushed_waits new ws w ts is h = ap waits_of is ∙ last_waits ws w ∙ ap (λ l. waits_at w.passed l ++ waits_of ws) h

pub turned_twice : (fs gs : List Frame) → gs ≡ reverse fs → frame_tuples (reverse gs) ≡ frame_tuples fs
turned_twice fs gs h = ap (λ l. frame_tuples (reverse l)) h ∙ ap frame_tuples (reverse-reverse fs)

-- the last one goes on first
pub last_first : (k : ℕ) (fs left : List Frame) (f : Frame) (ws : List Wait) → fs ≡ left ++ f ∷ [] → waits_at k (frame_tuples (reverse fs)) ++ ws ≡ (k, frame_tuple f) ∷ (waits_at k (frame_tuples (reverse left)) ++ ws)
last_first k fs left f ws is =
    ap (λ l. waits_at k (frame_tuples (reverse l)) ++ ws) is
    ∙ ap (λ l. waits_at k (frame_tuples l) ++ ws) (reverse-append left (f ∷ []))

pub none_left : (k : ℕ) (fs : List Frame) (ws : List Wait) → length fs ≡ 0 → waits_at k (frame_tuples (reverse fs)) ++ ws ≡ ws
none_left k [] ws h = refl
none_left k (f ∷ fs) ws h = absurd (omega arith)

-- ---- steps that are left

positive : (inner : Inner) (cs : PlainClauses Slot Target SeqType) (env : Environment) (t : Tuple) → 0 < steps_through inner cs env t
positive inner p.no_clauses env t = omega arith
positive inner (p.more_clauses c cs) env t = omega arith

more_left : (a b : ℕ) → 0 < a → b < a + b
more_left a b h = omega arith

plus_plus : (a b c : ℕ) → a + (b + c) ≡ a + b + c
plus_plus a b c = omega arith

none_plus : (n : ℕ) → n ≡ 0 + n
none_plus n = omega arith

plus_one : (n k : ℕ) → n + (k + 1) ≡ n + k + 1
plus_one n k = omega arith

plus_none : (n : ℕ) → n + 0 ≡ n
plus_none n = omega arith

pub up_one : (n : ℕ) → n ≤ n + 1
up_one n = omega arith

pub is_up : (n m : ℕ) → n ≡ m → n ≤ m
is_up n m h = omega arith

one_up : (m n : ℕ) → m ≤ n + 1 → m ≤ n + 1 + 1
one_up m n h = omega arith

pub first_within : (n k : ℕ) (fs left : List Frame) (f : Frame) → fs ≡ left ++ f ∷ [] → AllWithin n (waits_at k (frame_tuples (reverse fs))) → k ≤ n
first_within n k fs left f is h =
    (subst (λ (l : List Frame). AllWithin n (waits_at k (frame_tuples l))) (ap reverse is ∙ reverse-append left (f ∷ [])) h).0

pub one_within : (n k : ℕ) (g : Given) (f : Frame) → g ≡ given.One f → AllWithin n (waits_at k (left_tuples g)) → k ≤ n
one_within n k g f is h = (subst (λ (x : Given). AllWithin n (waits_at k (left_tuples x))) is h).0

pub many_within : (n k : ℕ) (g : Given) (fs : Vec Frame Global) → g ≡ given.Many fs → AllWithin n (waits_at k (left_tuples g)) → AllWithin n (waits_at k (frame_tuples (reverse fs.items)))
many_within n k g fs is h = subst (λ (x : Given). AllWithin n (waits_at k (left_tuples x))) is h

one_list_less : (a n : ℕ) → a + a + n < a + a + (n + 1)
one_list_less a n = omega arith

one_step_less : (a b n m : ℕ) → a < b → m ≤ n + 1 → a + a + m < b + b + n
one_step_less a b n m h k = omega arith

less_one : (a b n m : ℕ) → a ≡ suc b → n ≡ b + m → n < a + m
less_one a b n m e h = omega arith

module _ (inner : Inner) (env : Environment) (number : ℕ) (cs : Clauses) (body : Option BoundTree) where
  abbrev through : ℕ → Tuple → ℕ
  through k = steps_through inner (bound_clauses (drop k cs)) env

  steps_parts : (k : ℕ) (ts : List Tuple) (ws : List Wait) → steps_left inner cs env (waits_at k ts ++ ws) ≡ sum_of (through k) ts + steps_left inner cs env ws
  steps_parts k [] ws = none_plus (steps_left inner cs env ws)
  steps_parts k (t ∷ ts) ws = ap (λ (n : ℕ). through k t + n) (steps_parts k ts ws) ∙ plus_plus (through k t) (sum_of (through k) ts) (steps_left inner cs env ws)

  one_fewer : (k : ℕ) (t : Tuple) (ws : List Wait) → steps_left inner cs env ws < steps_left inner cs env ((k, t) ∷ ws)
  one_fewer k t ws = more_left (through k t) (steps_left inner cs env ws) (positive inner (bound_clauses (drop k cs)) env t)

  within_parts : (k : ℕ) (ts : List Tuple) (ws : List Wait) → k ≤ length cs → AllWithin (length cs) ws → AllWithin (length cs) (waits_at k ts ++ ws)
  within_parts k [] ws le a = a
  within_parts k (t ∷ ts) ws le a = (le, within_parts k ts ws le a)

  goes_parts : (k : ℕ) (ts : List Tuple) (ws : List Wait) (p q : Progress) → Goes inner env number cs body (waits_at k ts ++ ws) p q
      → (m : Progress) × Carries inner env (number + k) (drop k cs) body ts p m × Goes inner env number cs body ws m q
  goes_parts k [] ws p q g = (p, none_carries inner env (number + k) (drop k cs) body p, g)
  goes_parts k (t ∷ ts) ws p q (m, d, g) =
      let s = goes_parts k ts ws m q g in (s.0, more_carries inner env (number + k) (drop k cs) body (t ∷ []) ts p m s.0 d s.1, s.2)

  parted : (k : ℕ) (c : Clause Slot Target SeqType) → k < length cs → c ≡ get_or cs k c → drop k cs ≡ c ∷ drop (k + 1) cs
  parted k c lt is = drop_more cs k c lt ∙ ap (λ d. d ∷ drop (k + 1) cs) (sym is)

  -- ---- one step

  pub out_advanced : (k : ℕ) (t : Tuple) (ws : List Wait) (p q : Progress) → k ≡ length cs → Carries inner env (number + k) [] body (t ∷ []) p q → Advanced inner env number cs body (k, t) ws ws p q
  out_advanced k t ws p q h d = record {
    first = d.first;
    fits = d.fits;
    within = λ le a. a;
    fewer = one_fewer k t ws;
    goes = λ r g. (q, subst (λ (l : Clauses). Carries inner env (number + k) l body (t ∷ []) p q) (sym (drop_all k cs (omega arith))) d, g);
  }

  pub stop_advanced : (k : ℕ) (t : Tuple) (c : Clause Slot Target SeqType) (ws : List Wait) (p q : Progress) → k < length cs → c ≡ get_or cs k c → Stepped (number + k) (tuples_at inner (bound_clause c) env 0 t) p q None
      → Advanced inner env number cs body (k, t) ws ws p q
  stop_advanced k t c ws p q lt is s = record {
    first = s.first;
    fits = s.fits;
    within = λ le a. a;
    fewer = one_fewer k t ws;
    goes = λ r g. (q, stopped_carries inner env (number + k) (drop k cs) (drop (k + 1) cs) c body (parted k c lt is) t p q s, g);
  }

  steps_given : (k : ℕ) (t : Tuple) (c : Clause Slot Target SeqType) (ts : List Tuple) → drop k cs ≡ c ∷ drop (k + 1) cs → tuples_at inner (bound_clause c) env 0 t ≡ Ok ts → through k t ≡ suc (sum_of (through (k + 1)) ts)
  steps_given k t c ts is h =
      ap (λ (l : Clauses). steps_through inner (bound_clauses l) env t) is
      ∙ ap (λ (o : OrFault (List Tuple)). suc (given_steps (through (k + 1)) o)) h

  pub go_advanced : (k : ℕ) (t : Tuple) (c : Clause Slot Target SeqType) (g : Given) (ws new : List Wait) (p m : Progress) → k < length cs → c ≡ get_or cs k c → Stepped (number + k) (tuples_at inner (bound_clause c) env 0 t) p m (Some g)
      → new ≡ waits_at (k + 1) (given_tuples g) ++ ws → Advanced inner env number cs body (k, t) ws new p m
  go_advanced k t c g ws new p m lt is s to = record {
    first = s.first;
    fits = s.fits;
    within = λ le a. subst (AllWithin (length cs)) (sym to) (within_parts (k + 1) (given_tuples g) ws (omega arith) a);
    fewer = less_one (through k t) (sum_of (through (k + 1)) (given_tuples g)) (steps_left inner cs env new) (steps_left inner cs env ws)
        (steps_given k t c (given_tuples g) (parted k c lt is) (gives_these inner env (number + k) (drop k cs) (drop (k + 1) cs) c body (parted k c lt is) t g p m s))
        (ap (steps_left inner cs env) to ∙ steps_parts (k + 1) (given_tuples g) ws);
    goes = λ r w.
        let d = goes_parts (k + 1) (given_tuples g) ws m r (subst (λ (l : List Wait). Goes inner env number cs body l m r) to w) in (
          d.0,
          down_carries inner env (number + k) (drop k cs) (drop (k + 1) cs) c body (parted k c lt is) t g p m d.0 s
              (subst (λ (n : ℕ). Carries inner env n (drop (k + 1) cs) body (given_tuples g) m d.0) (plus_one number k) d.1),
          d.2,
        );
  }

  -- ---- step by step

  pub left_begins : (t : Tuple) (before ws : List Waiting) (p : Progress) → length before ≡ 0 → waits_of ws ≡ (0, t) ∷ waits_of before → Left inner env number cs body t (waits_of ws) p p
  left_begins t before ws p none h =
      let one : waits_of ws ≡ (0, t) ∷ [] = h ∙ ap (λ l. (0, t) ∷ l) (none_waits before none) in
      record {
        first = refl;
        fits = refl;
        within = subst (AllWithin (length cs)) (sym one) (omega arith, tt);
        goes = λ q g.
            let d = subst (λ (l : List Wait). Goes inner env number cs body l p q) one g in
            subst (λ (n : ℕ). Carries inner env n cs body (t ∷ []) p q) (plus_none number) (subst (λ (m : Progress). Carries inner env (number + 0) (drop 0 cs) body (t ∷ []) p m) d.2 d.1);
      }

  -- ---- one turn

  same_turned : (ws : List Wait) (lists : ℕ) (p : Progress) → Turned inner env number cs body ws (lists + 1) ws lists p p
  same_turned ws lists p = record {
    first = refl;
    fits = refl;
    within = λ a. a;
    fewer = one_list_less (steps_left inner cs env ws) lists;
    goes = λ r g. g;
  }

  pub none_turned : (stack ws : List Wait) (lists : ℕ) (p : Progress) → stack ≡ ws → Turned inner env number cs body stack (lists + 1) ws lists p p
  none_turned stack ws lists p is = subst (λ (l : List Wait). Turned inner env number cs body l (lists + 1) ws lists p p) (sym is) (same_turned ws lists p)

  step_turned : (next : Wait) (ws new : List Wait) (lists more : ℕ) (p q : Progress) → more ≤ lists + 1 → next.0 ≤ length cs → Advanced inner env number cs body next ws new p q → Turned inner env number cs body (next ∷ ws) lists new more p q
  step_turned next ws new lists more p q le h a = record {
    first = a.first;
    fits = a.fits;
    within = λ w. a.within w.0 w.1;
    fewer = one_step_less (steps_left inner cs env new) (steps_left inner cs env (next ∷ ws)) lists more a.fewer le;
    goes = a.goes;
  }

  pub next_turned : (k : ℕ) (t : Tuple) (stack ws new : List Wait) (lists more : ℕ) (p q : Progress) → stack ≡ (k, t) ∷ ws → more ≤ lists + 1 → k ≤ length cs → Advanced inner env number cs body (k, t) ws new p q
      → Turned inner env number cs body stack lists new more p q
  next_turned k t stack ws new lists more p q is le h a =
      subst (λ (l : List Wait). Turned inner env number cs body l lists new more p q) (sym is) (step_turned (k, t) ws new lists more p q le h a)

  pub one_turned : (k : ℕ) (g : Given) (f : Frame) (ws new : List Wait) (lists more : ℕ) (p q : Progress) → g ≡ given.One f → more ≤ lists + 1 → k ≤ length cs → Advanced inner env number cs body (k, frame_tuple f) ws new p q
      → Turned inner env number cs body (waits_at k (left_tuples g) ++ ws) (lists + 1) new more p q
  one_turned k g f ws new lists more p q is le h a =
      next_turned k (frame_tuple f) (waits_at k (left_tuples g) ++ ws) ws new (lists + 1) more p q (ap (λ (x : Given). waits_at k (left_tuples x) ++ ws) is) (one_up more lists le) h a

  pub many_turned : (k : ℕ) (fs left : List Frame) (f : Frame) (ws behind new : List Wait) (lists longer more : ℕ) (p q : Progress) → fs ≡ left ++ f ∷ [] → behind ≡ waits_at k (frame_tuples (reverse left)) ++ ws → longer ≡ lists + 1 → more ≤ longer + 1 → k ≤ length cs
      → Advanced inner env number cs body (k, frame_tuple f) behind new p q → Turned inner env number cs body (waits_at k (frame_tuples (reverse fs)) ++ ws) (lists + 1) new more p q
  many_turned k fs left f ws behind new lists longer more p q is to long le h a =
      next_turned k (frame_tuple f) (waits_at k (frame_tuples (reverse fs)) ++ ws) behind new (lists + 1) more p q (last_first k fs left f ws is ∙ ap (λ l. (k, frame_tuple f) ∷ l) (sym to)) (subst (λ (n : ℕ). more ≤ n + 1) long le) h a

  next_left : (t : Tuple) (stack others : List Waiting) (w : Waiting) (p now : Progress) → stack ≡ others ++ w ∷ [] → Left inner env number cs body t (waits_of stack) p now → Left inner env number cs body t (wait_of w ++ waits_of others) p now
  next_left t stack others w p now is v = subst (λ (l : List Wait). Left inner env number cs body t l p now) (ap waits_of is ∙ last_waits others w) v

  front_within : (a b : List Wait) → AllWithin (length cs) (a ++ b) → AllWithin (length cs) a
  front_within [] b h = tt
  front_within (w ∷ a) b (le, h) = (le, front_within a b h)

  pub next_within : (t : Tuple) (stack others : List Waiting) (w : Waiting) (p now : Progress) → stack ≡ others ++ w ∷ [] → Left inner env number cs body t (waits_of stack) p now → AllWithin (length cs) (wait_of w)
  next_within t stack others w p now is v = front_within (wait_of w) (waits_of others) (next_left t stack others w p now is v).within

  pub left_turn : (t : Tuple) (stack others new : List Waiting) (w : Waiting) (lists more : ℕ) (p now next : Progress) → stack ≡ others ++ w ∷ [] → Left inner env number cs body t (waits_of stack) p now
      → Turned inner env number cs body (wait_of w ++ waits_of others) lists (waits_of new) more now next → Left inner env number cs body t (waits_of new) p next
  left_turn t stack others new w lists more p now next is v a =
      let h = next_left t stack others w p now is v in
      record {
        first = a.first ∙ h.first;
        fits = a.fits ∙ h.fits;
        within = a.within h.within;
        goes = λ q g. h.goes q (a.goes q g);
      }

  pub left_fewer : (stack others new : List Waiting) (w : Waiting) (now next : Progress) → stack ≡ others ++ w ∷ [] → Turned inner env number cs body (wait_of w ++ waits_of others) (length others + 1) (waits_of new) (length new) now next
      → size_left inner cs env (waits_of new) (length new) < size_left inner cs env (waits_of stack) (length stack)
  left_fewer stack others new w now next is a =
      let long : length stack ≡ length others + 1 = ap length is ∙ length-append others (w ∷ []) in
      subst (λ (n : ℕ). size_left inner cs env (waits_of new) (length new) < size_left inner cs env (waits_of stack) n) (sym long)
      (subst (λ (l : List Wait). size_left inner cs env (waits_of new) (length new) < size_left inner cs env l (length others + 1)) (sym (ap waits_of is ∙ last_waits others w)) a.fewer)

  pub left_ends : (t : Tuple) (ws : List Waiting) (p now : Progress) → length ws ≡ 0 → Left inner env number cs body t (waits_of ws) p now → Carries inner env number cs body (t ∷ []) p now
  left_ends t ws p now none v =
      let h = subst (λ (l : List Wait). Left inner env number cs body t l p now) (none_waits ws none) v in h.goes now refl
