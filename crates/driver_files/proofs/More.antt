-- What opening more sets leaves of the counts, set after set.
use Rattle.std.proofs.Common.{◌≡◌, ◌<◌, ◌≤◌, ◌+◌, ◌*◌, inl, inr, ℕ, List, [], ◌∷◌, length, Option, None, Some, Bool, true, false, Ok, Err, refl, sym, ap, ◌∙◌, subst, arith, le_refl}
use Rattle.std.specs.Prelude.{IfSome, is_some, All, Vec, vec_len}
use Rattle.std.specs.declared.alloc.Global.{Global}
use Rattle.std.proofs.lemmas.Nat.{mul-le}
use Rattle.std.proofs.lemmas.List.{length-map}
use Rattle.std.proofs.lemmas.List.Elements.{All-head, All-tail}
use Rattle.std.proofs.lemmas.List.Sums.{sum_by-cons}
use Rattle.outside.specs.Counted.{RoseByOne}
use Rattle.outside.specs.Opens.{InputCounts}
use Rattle.outside.specs.World.{World}
use Rattle.outside.specs.declared.input.OpenFault.TheVariants as open_fault
use Rattle.line_pieces.specs.declared.fault.PieceFault.TheVariants.{ReadFault, NoMemory}
use Rattle.driver_files.specs.Counts.{RoseBy}
use Rattle.driver_files.specs.Driver.{IsSet, failures, failures_in, files_in, told_file, told_files}
use Rattle.driver_files.specs.Seats.{found_before}
use Rattle.driver_files.specs.inside.Sets.{CountsMore, LeavesSet, MissesMore, MoreBy}
use Rattle.driver_files.proofs.Closing.{rose_then, rose_none, counted_none, no_failures}
use Rattle.driver_files.proofs.Told.{mul_next}

-- ---- sets of as many files each

set_long : {S : Type 0} (held : S → Option (List ℕ)) (faults : S → ℕ) (told : List (Option (List ℕ))) (set : Vec S Global) → IsSet held faults told set.items → vec_len set ≡ length told
set_long held faults told set h = set.ok.0 ∙ sym (length-map set.items held) ∙ ap length h.tells

pub set_long_as : {S : Type 0} (held : S → Option (List ℕ)) (faults : S → ℕ) (world : Option World) (names : List (List ℕ)) (set : Vec S Global)
    → IsSet held faults (told_files world names) set.items → vec_len set ≡ length names
set_long_as held faults world names set h = set_long held faults (told_files world names) set h ∙ length-map names (told_file world)

pub sets_long : {S : Type 0} (held : S → Option (List ℕ)) (faults : S → ℕ) (told : List (Option (List ℕ))) (sets : List (Vec S Global))
    → All (λ s. IsSet held faults told s.items) sets → files_in sets ≡ length told * length sets
sets_long held faults told [] h = omega arith
sets_long {S = S} held faults told (set ∷ sets) h =
    let P : Vec S Global → Type 0 = λ s. IsSet held faults told s.items in
    let first = set_long held faults told set (All-head P set sets h) in
    let rest = sets_long held faults told sets (All-tail P set sets h) in
    let all = sum_by-cons vec_len set sets in
    let next = mul_next (length told) (length sets) in
    let one : length (set ∷ sets) ≡ 1 + length sets = omega arith in
    let whole : length told * length (set ∷ sets) ≡ length told + length told * length sets = ap (λ n. length told * n) one ∙ next in
    omega arith

pub sets_calm : {S : Type 0} (held : S → Option (List ℕ)) (faults : S → ℕ) (told : List (Option (List ℕ))) (sets : List (Vec S Global))
    → All (λ s. IsSet held faults told s.items) sets → failures_in faults sets ≡ 0
sets_calm held faults told [] h = refl
sets_calm {S = S} held faults told (set ∷ sets) h =
    let P : Vec S Global → Type 0 = λ s. IsSet held faults told s.items in
    let first = no_failures faults set.items (All-head P set sets h).calm in
    let rest = sets_calm held faults told sets (All-tail P set sets h) in
    let all = sum_by-cons (λ (s : Vec S Global). failures faults s.items) set sets in
    omega arith

-- ---- set after set

-- i sets of k files were opened
pub record SetsSoFar (k i : ℕ) (start now : InputCounts) : Type 0 where
  pub opened : RoseBy (k * i) start.opened now.opened
  pub closed : now.closed ≡ start.closed
  pub misses : now.misses ≡ start.misses
  pub faults : now.faults ≡ start.faults

pub sets_begin : (k : ℕ) (a : InputCounts) → SetsSoFar k 0 a a
sets_begin k a = record {
  opened = let none : 0 ≡ k * 0 = omega arith in subst (λ n. RoseBy n a.opened a.opened) none (rose_none a.opened a.opened refl);
  closed = refl;
  misses = refl;
  faults = refl;
}

mul_more : (k i : ℕ) → k * i + k ≡ k * (i + 1)
mul_more k i =
    let next = mul_next k i in
    let one : 1 + i ≡ i + 1 = omega arith in
    let same : k * (1 + i) ≡ k * (i + 1) = ap (λ j. k * j) one in
    omega arith

pub sets_next : {V : Type 0} (world : Option World) (names : List (List ℕ)) (i : ℕ) (v : V) (a b c : InputCounts) → SetsSoFar (length names) i a b
    → LeavesSet world names (Ok v) b c → SetsSoFar (length names) (i + 1) a c
sets_next world names i v a b c s (n, g) = record {
  opened =
      let whole : length names * i + n ≡ length names * (i + 1) = ap (λ m. length names * i + m) g.most ∙ mul_more (length names) i in
      subst (λ m. RoseBy m a.opened c.opened) whole (rose_then (length names * i) n a.opened b.opened c.opened s.opened g.opened);
  closed = g.closed ∙ counted_none b.closed ∙ s.closed;
  misses = g.misses ∙ s.misses;
  faults = g.faults ∙ s.faults;
}

-- a part of one more set stands within all sets
within_more : (k i more n : ℕ) → i < more → n ≤ k → k * i + n ≤ k * more
within_more k i more n lt le =
    let whole = mul_more k i in
    let all : k * (i + 1) ≤ k * more = mul-le k (i + 1) k more (le_refl k) (omega arith) in
    omega arith

all_more : {T : Type 0} (told : Bool) (more : ℕ) (x : T) → MoreBy told more (Ok x) more 0
all_more true more x = (refl, refl)
all_more false more x = tt

none_missed : {T : Type 0} (told : Bool) (x : T) (a b : ℕ) → b ≡ a → MissesMore told (Ok x) a b
none_missed true x a b e = e
none_missed false x a b e = inl e

pub more_ends : {T : Type 0} (told : Bool) (k i more : ℕ) (x : T) (a b : InputCounts) → i ≡ more → SetsSoFar k i a b → CountsMore told k more i (Ok x) a b
more_ends told k i more x a b e s =
    let same : k * i ≡ k * more = ap (λ n. k * n) e in
    record {
      again = 0;
      few = omega arith;
      within = omega arith;
      all = subst (λ n. MoreBy told more (Ok x) n 0) (sym e) (all_more told more x);
      opened = let none : k * i ≡ k * i + 0 = omega arith in subst (λ n. RoseBy n a.opened b.opened) none s.opened;
      closed = rose_none a.closed b.closed s.closed;
      misses = none_missed told x a.misses b.misses s.misses;
      faults = s.faults;
    }

-- a name is missing that had been there
pub more_gone : {T V : Type 0} (world : Option World) (names : List (List ℕ)) (i more : ℕ) (x : T) (a b c : InputCounts) → i < more
    → IfSome world (λ w. found_before w names ≡ length names) → SetsSoFar (length names) i a b → LeavesSet {V = V} world names (Err open_fault.Missing) b c
    → CountsMore (is_some world) (length names) more i (Ok x) a c
more_gone (Some w) names i more x a b c lt there s (n, g) =
    let told : n ≡ found_before w names = g.told in
    let most : n < length names = g.most in
    absurd (omega arith)
more_gone None names i more x a b c lt there s (n, g) =
    let most : n < length names = g.most in
    record {
      again = n;
      few = omega arith;
      within = within_more (length names) i more n lt (omega arith);
      all = tt;
      opened = rose_then (length names * i) n a.opened b.opened c.opened s.opened g.opened;
      closed = subst (λ m. RoseBy n m c.closed) s.closed g.closed;
      misses = inr (subst (λ m. RoseByOne m c.misses) s.misses g.misses);
      faults = g.faults ∙ s.faults;
    }

any_more : (T : Type 0) (told : Bool) (more added again : ℕ) → MoreBy {T = T} told more (Err ReadFault) added again
any_more T true more added again = tt
any_more T false more added again = tt

any_short : (T : Type 0) (told : Bool) (more added again : ℕ) → MoreBy {T = T} told more (Err NoMemory) added again
any_short T true more added again = tt
any_short T false more added again = tt

unread_missed : (T : Type 0) (told : Bool) (a b : ℕ) → b ≡ a → MissesMore {T = T} told (Err ReadFault) a b
unread_missed T true a b e = e
unread_missed T false a b e = e

short_missed : (T : Type 0) (told : Bool) (a b : ℕ) → b ≡ a → MissesMore {T = T} told (Err NoMemory) a b
short_missed T true a b e = e
short_missed T false a b e = e

-- an open failed
pub more_unread : {T V : Type 0} (told : Bool) (world : Option World) (names : List (List ℕ)) (i more : ℕ) (a b c : InputCounts) → i < more
    → SetsSoFar (length names) i a b → LeavesSet {V = V} world names (Err open_fault.Failed) b c → CountsMore {T = T} told (length names) more i (Err ReadFault) a c
more_unread told world names i more a b c lt s (n, g) = record {
  again = n;
  few = omega arith;
  within = within_more (length names) i more n lt g.most;
  all = any_more _ told more i n;
  opened = rose_then (length names * i) n a.opened b.opened c.opened s.opened g.opened;
  closed = subst (λ m. RoseBy n m c.closed) s.closed g.closed;
  misses = unread_missed _ told a.misses c.misses (g.misses ∙ s.misses);
  faults = rw (sym s.faults) g.faults;
}

-- memory ran out
pub more_short : {T V : Type 0} (told : Bool) (world : Option World) (names : List (List ℕ)) (i more : ℕ) (a b c : InputCounts) → i < more
    → SetsSoFar (length names) i a b → LeavesSet {V = V} world names (Err open_fault.NoMemory) b c → CountsMore {T = T} told (length names) more i (Err NoMemory) a c
more_short told world names i more a b c lt s (n, g) = record {
  again = n;
  few = omega arith;
  within = within_more (length names) i more n lt g.most;
  all = any_short _ told more i n;
  opened = rose_then (length names * i) n a.opened b.opened c.opened s.opened g.opened;
  closed = subst (λ m. RoseBy n m c.closed) s.closed g.closed;
  misses = short_missed _ told a.misses c.misses (g.misses ∙ s.misses);
  faults = g.faults ∙ s.faults;
}
