-- What is left of the counts after several leaves.
use Rattle.std.proofs.Common.{◌≡◌, ◌+◌, ℕ, Bool, true, false, ◌&&◌, Result, Ok, Err, subst, arith}
use Rattle.outside.specs.Opens.{InputCounts}
use Rattle.rumble_run.specs.Ends.{NoCountFalls, IsBalanced, OpenedAtMost, OpenedJust, MissedAtMost, MissedJust}
use Rattle.rumble_run.specs.inside.LeafCounts.{CausedByLeaf, LeavesOfLeaf, Drove}
use Rattle.piece_run.specs.declared.leaf_fault.LeafFault.{LeafFault}

-- ---- the counts, one after another

cause_then : {K : Type 0} (r : Result K LeafFault) (start now after : ℕ) → now ≡ start → CausedByLeaf r now after → CausedByLeaf r start after
cause_then r start now after e h = subst (λ n. CausedByLeaf r n after) e h

falls_then : (start now after : InputCounts) → NoCountFalls start now → NoCountFalls now after → NoCountFalls start after
falls_then start now after h g = record {
  faults = omega (arith, g.faults, h.faults);
  misses = omega (arith, g.misses, h.misses);
  opened = omega (arith, g.opened, h.opened);
  closed = omega (arith, g.closed, h.closed);
}

balanced_then : (start now after : InputCounts) → NoCountFalls now after → IsBalanced start now → IsBalanced now after → IsBalanced start after
balanced_then start now after falls h g = record {
  same = λ o c.
      let late = g.same o c in
      let early = h.same (omega (arith, falls.opened, o)) (omega (arith, falls.closed, c)) in
      omega (arith, early, late);
}

pub leaves_then : {K L : Type 0} (x : K) (r : Result L LeafFault) (start now after : InputCounts) → LeavesOfLeaf (Ok x) start now → LeavesOfLeaf r now after → LeavesOfLeaf r start after
leaves_then x r start now after h g = record {
  cause = cause_then r start.faults now.faults after.faults h.cause g.cause;
  rises = falls_then start now after h.rises g.rises;
  balanced = balanced_then start now after g.rises h.balanced g.balanced;
}

-- the same counts with another answer
pub answered : {K L : Type 0} (r : Result K LeafFault) (q : Result L LeafFault) (before after : InputCounts) → CausedByLeaf q before.faults after.faults → LeavesOfLeaf r before after → LeavesOfLeaf q before after
answered r q before after c h = record { cause = c; rises = h.rises; balanced = h.balanced }

-- ---- files and missing names

-- no more than these, whatever the answer
pub most_of : {K : Type 0} (r : Result K LeafFault) (sure : Bool) (f m : ℕ) (before after : InputCounts) → Drove r sure f m before after → OpenedAtMost f before after × MissedAtMost m before after
most_of (Ok k) true f m before after h = (h.0.0, omega (arith, h.1.0))
most_of (Ok k) false f m before after h = h
most_of (Err e) sure f m before after h = h

opened_then : (m n : ℕ) (start now after : InputCounts) → NoCountFalls now after → OpenedJust m start now → OpenedJust n now after → OpenedJust (m + n) start after
opened_then m n start now after falls h g = (
  omega (arith, h.0, g.0),
  λ small.
      let last = g.1 small in
      let mid = h.1 (omega (arith, falls.opened, small)) in
      omega (arith, last, mid),
)

none_then : (start now after : InputCounts) → NoCountFalls now after → MissedJust 0 start now → MissedJust 0 now after → MissedJust 0 start after
none_then start now after falls h g = (
  omega (arith, h.0, g.0),
  λ small.
      let last = g.1 small in
      let mid = h.1 (omega (arith, falls.misses, small)) in
      omega (arith, last, mid),
)

most_then : (f g m n : ℕ) (start now after : InputCounts) → OpenedAtMost f start now × MissedAtMost m start now → OpenedAtMost g now after × MissedAtMost n now after
    → OpenedAtMost (f + g) start after × MissedAtMost (m + n) start after
most_then f g m n start now after h k = (omega (arith, h.0, k.0), omega (arith, h.1, k.1))

pub drove_then : {K L : Type 0} (x : K) (r : Result L LeafFault) (s t : Bool) (f g m n : ℕ) (start now after : InputCounts) → NoCountFalls now after
    → Drove (Ok x) s f m start now → Drove r t g n now after → Drove r (s && t) (f + g) (m + n) start after
drove_then x (Ok y) true true f g m n start now after falls h k = (opened_then f g start now after falls h.0 k.0, none_then start now after falls h.1 k.1)
drove_then x (Ok y) true false f g m n start now after falls h k = most_then f g m n start now after (most_of (Ok x) true f m start now h) k
drove_then x (Ok y) false t f g m n start now after falls h k = most_then f g m n start now after h (most_of (Ok y) t g n now after k)
drove_then x (Err e) s t f g m n start now after falls h k = most_then f g m n start now after (most_of (Ok x) s f m start now h) k

-- a fault, after which nothing more runs
pub drove_stops : (K : Type 0) (e : LeafFault) (s t : Bool) (f g m n : ℕ) (before after : InputCounts) → Drove {K = K} (Err e) s f m before after → Drove {K = K} (Err e) t (f + g) (m + n) before after
drove_stops K e s t f g m n before after h = (omega (arith, h.0), omega (arith, h.1))

-- nothing was looked for
pub drove_none : {K : Type 0} (r : Result K LeafFault) (s : Bool) (counts : InputCounts) → Drove r s 0 0 counts counts
drove_none (Ok k) true counts = ((omega arith, λ h. omega arith), (omega arith, λ h. omega arith))
drove_none (Ok k) false counts = (omega arith, omega arith)
drove_none (Err e) s counts = (omega arith, omega arith)

-- another answer, which says less
pub drove_unsure : {K L : Type 0} (r : Result K LeafFault) (q : Result L LeafFault) (s : Bool) (f m : ℕ) (before after : InputCounts) → Drove r s f m before after → Drove q false f m before after
drove_unsure r (Ok k) s f m before after h = most_of r s f m before after h
drove_unsure r (Err e) s f m before after h = most_of r s f m before after h

pub drove_failed : (K L : Type 0) (r : Result K LeafFault) (e : LeafFault) (s t : Bool) (f m : ℕ) (before after : InputCounts) → Drove r s f m before after → Drove {K = L} (Err e) t f m before after
drove_failed K L r e s t f m before after h = most_of r s f m before after h
