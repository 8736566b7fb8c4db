-- What opening a driver leaves of the counts, by how the first set and the others end.
use Rattle.std.proofs.Common.{◌≡◌, ◌<◌, ◌≤◌, ◌+◌, ◌*◌, inl, inr, ℕ, List, length, Option, None, Some, Ok, Err, refl, sym, ◌∙◌, subst, arith}
use Rattle.std.specs.Prelude.{IfSome, is_some}
use Rattle.std.proofs.Math.Nat.{le-mul_of_pos_right}
use Rattle.outside.specs.Counted.{Rises, RoseByOne}
use Rattle.outside.specs.Opens.{InputCounts}
use Rattle.outside.specs.World.{World}
use Rattle.outside.specs.declared.input.OpenFault.TheVariants as open_fault
use Rattle.line_pieces.specs.declared.fault.PieceFault.{PieceFault}
use Rattle.line_pieces.specs.declared.fault.PieceFault.TheVariants.{ReadFault, NoMemory}
use Rattle.driver_files.specs.Counts.{RoseBy}
use Rattle.driver_files.specs.Driver.{CountsDriver, FaultsBy, MissesBy}
use Rattle.driver_files.specs.Seats.{driver_opens, files_of, found_before}
use Rattle.driver_files.specs.declared.driver.DriverFiles.{DriverFiles}
use Rattle.driver_files.specs.declared.driver.Opening.{Opening}
use Rattle.driver_files.specs.declared.driver.Opening.TheVariants.{Open, Missing}
use Rattle.driver_files.specs.inside.Sets.{CountsRest, LeavesSet, MissesMore}
use Rattle.driver_files.proofs.Closing.{rose_then, rose_none, rose_late}
use Rattle.driver_files.proofs.Opened.{told_one, told_all}
use Rattle.driver_files.proofs.Rest.{There}
use Rattle.driver_files.proofs.Told.{some_gone, gone_opens, found_opens}

-- where a set is given, each name is there
pub there_of : {V : Type 0} (world : Option World) (names : List (List ℕ)) (v : V) (a b : InputCounts) → LeavesSet world names (Ok v) a b → There world names
there_of None names v a b h = tt
there_of (Some w) names v a b (n, g) = sym g.told ∙ g.most

-- where a name is missing, not all are there
pub gone_of : {V : Type 0} (world : Option World) (names : List (List ℕ)) (a b : InputCounts) → LeavesSet {V = V} world names (Err open_fault.Missing) a b
    → IfSome world (λ w. files_of w names ≡ None)
gone_of None names a b h = tt
gone_of (Some w) names a b (n, g) =
    let told : n ≡ found_before w names = g.told in
    let most : n < length names = g.most in
    some_gone w names (omega arith)

given_missed : {S : Type 0} (world : Option World) (d : DriverFiles S) (a b c : ℕ) → b ≡ a → MissesMore (is_some world) (Ok d) b c → MissesBy (is_some world) (Ok (Open d)) a c
given_missed None d a b c e (inl same) = inl (same ∙ e)
given_missed None d a b c e (inr rose) = inr (subst (λ n. RoseByOne n c) e rose)
given_missed (Some w) d a b c e h = h ∙ e

pub driver_given : {S V : Type 0} (world : Option World) (names : List (List ℕ)) (workers wanted : ℕ) (v : V) (d : DriverFiles S) (a b c : InputCounts)
    → LeavesSet world names (Ok v) a b → CountsRest world names workers wanted (Ok d) b c → CountsDriver world names workers wanted (Ok (Open d)) a c
driver_given world names workers wanted v d a b c (n, g) r =
    let all : n ≡ length names = g.most in
    let whole = r.whole in
    let within = r.within in
    record {
      again = r.again;
      opened = subst (λ m. RoseBy m a.opened c.opened) (omega arith) (rose_then n r.more a.opened b.opened c.opened g.opened r.opened);
      closed = rose_late r.again a.closed b.closed c.closed g.closed r.closed;
      within = omega arith;
      told = told_one world (λ w h. h) r.told;
      misses = given_missed world d a.misses b.misses c.misses g.misses r.misses;
      faults = r.faults ∙ g.faults;
    }

fault_missed : (S : Type 0) (world : Option World) (fault : PieceFault) (a b c : ℕ) → b ≡ a → MissesMore {T = DriverFiles S} (is_some world) (Err fault) b c
    → MissesBy {S = S} (is_some world) (Err fault) a c
fault_missed S None fault a b c e h = h ∙ e
fault_missed S (Some w) fault a b c e h = h ∙ e

fault_rises : (S : Type 0) (fault : PieceFault) (a b c : ℕ) → b ≡ a → FaultsBy {T = DriverFiles S} (Err fault) b c → FaultsBy {T = Opening S} (Err fault) a c
fault_rises S ReadFault a b c e h = subst (λ n. Rises n c) e h
fault_rises S NoMemory a b c e h = h ∙ e

pub driver_failed : {S V : Type 0} (world : Option World) (names : List (List ℕ)) (workers wanted : ℕ) (v : V) (fault : PieceFault) (a b c : InputCounts)
    → LeavesSet world names (Ok v) a b → CountsRest {S = S} world names workers wanted (Err fault) b c → CountsDriver {S = S} world names workers wanted (Err fault) a c
driver_failed {S = S} world names workers wanted v fault a b c (n, g) r =
    let all : n ≡ length names = g.most in
    let whole = r.whole in
    let within = r.within in
    record {
      again = r.again;
      opened = subst (λ m. RoseBy m a.opened c.opened) (omega arith) (rose_then n r.more a.opened b.opened c.opened g.opened r.opened);
      closed = rose_late r.again a.closed b.closed c.closed g.closed r.closed;
      within = omega arith;
      told = told_one world (λ w h. h) r.told;
      misses = fault_missed S world fault a.misses b.misses c.misses g.misses r.misses;
      faults = fault_rises S fault a.faults b.faults c.faults g.faults r.faults;
    }

missing_opens : (w : World) (names : List (List ℕ)) (workers wanted n : ℕ) → n ≡ found_before w names → n < length names → n ≡ driver_opens w workers wanted names
missing_opens w names workers wanted n e less =
    let found : found_before w names < length names = omega arith in
    e ∙ sym (gone_opens w names workers wanted found)

nothing_more : (n a b : ℕ) → RoseBy n a b → RoseBy (0 + n) a b
nothing_more n a b h = subst (λ m. RoseBy m a b) (omega arith) h

pub driver_missing : {S V : Type 0} (world : Option World) (names : List (List ℕ)) (workers wanted : ℕ) (a b : InputCounts)
    → LeavesSet {V = V} world names (Err open_fault.Missing) a b → CountsDriver {S = S} world names workers wanted (Ok Missing) a b
driver_missing world names workers wanted a b (n, g) =
    let most : n < length names = g.most in
    record {
      again = n;
      opened = nothing_more n a.opened b.opened g.opened;
      closed = g.closed;
      within = omega arith;
      told = told_one world (λ w (h : n ≡ found_before w names). missing_opens w names workers wanted n h most) g.told;
      misses = g.misses;
      faults = g.faults;
    }

within_all : (k workers n : ℕ) → 0 < workers → n ≤ k → 0 + n ≤ k * workers
within_all k workers n some le =
    let more = le-mul_of_pos_right k some in
    omega arith

within_opens : (w : World) (names : List (List ℕ)) (workers wanted n : ℕ) → n ≤ found_before w names → n ≤ driver_opens w workers wanted names
within_opens w names workers wanted n h = let least = found_opens w names workers wanted in omega arith

none_told : (S : Type 0) (world : Option World) (fault : PieceFault) (a b : ℕ) → b ≡ a → MissesBy {S = S} (is_some world) (Err fault) a b
none_told S None fault a b e = e
none_told S (Some w) fault a b e = e

pub driver_unread : {S V : Type 0} (world : Option World) (names : List (List ℕ)) (workers wanted : ℕ) (a b : InputCounts) → 0 < workers
    → LeavesSet {V = V} world names (Err open_fault.Failed) a b → CountsDriver {S = S} world names workers wanted (Err ReadFault) a b
driver_unread {S = S} world names workers wanted a b some (n, g) = record {
  again = n;
  opened = nothing_more n a.opened b.opened g.opened;
  closed = g.closed;
  within = within_all (length names) workers n some g.most;
  told = told_one world (λ w (h : n ≤ found_before w names). within_opens w names workers wanted n h) g.told;
  misses = none_told S world ReadFault a.misses b.misses g.misses;
  faults = g.faults;
}

pub driver_short : {S V : Type 0} (world : Option World) (names : List (List ℕ)) (workers wanted : ℕ) (a b : InputCounts) → 0 < workers
    → LeavesSet {V = V} world names (Err open_fault.NoMemory) a b → CountsDriver {S = S} world names workers wanted (Err NoMemory) a b
driver_short {S = S} world names workers wanted a b some (n, g) = record {
  again = n;
  opened = nothing_more n a.opened b.opened g.opened;
  closed = g.closed;
  within = within_all (length names) workers n some g.most;
  told = told_one world (λ w (h : n ≤ found_before w names). within_opens w names workers wanted n h) g.told;
  misses = none_told S world NoMemory a.misses b.misses g.misses;
  faults = g.faults;
}

-- nothing was opened
pub driver_unopened : {S : Type 0} (world : Option World) (names : List (List ℕ)) (workers wanted : ℕ) (a : InputCounts) → CountsDriver {S = S} world names workers wanted (Err NoMemory) a a
driver_unopened {S = S} world names workers wanted a = record {
  again = 0;
  opened = nothing_more 0 a.opened a.opened (rose_none a.opened a.opened refl);
  closed = rose_none a.closed a.closed refl;
  within = omega arith;
  told = told_all world (λ w. omega arith);
  misses = none_told S world NoMemory a.misses a.misses refl;
  faults = refl;
}
