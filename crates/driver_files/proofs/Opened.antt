-- What opening files leaves of the counts, file after file.
use Rattle.std.proofs.Common.{◌≡◌, ◌<◌, ◌≤◌, ◌+◌, ◌++◌, ℕ, List, [], ◌∷◌, length, take, drop, map, Option, None, Some, true, Ok, Err, refl, sym, ap, ◌∙◌, subst, arith}
use Rattle.std.specs.Prelude.{IfSome, is_some}
use Rattle.std.proofs.lemmas.List.{map-append, take_all, drop_all}
use Rattle.outside.specs.Counted.{RoseByOne}
use Rattle.outside.specs.Opens.{InputCounts, CountsOpen}
use Rattle.outside.specs.World.{World, file_of, LacksName, HoldsOf}
use Rattle.outside.specs.declared.input.OpenFault.{OpenFault}
use Rattle.outside.specs.declared.input.OpenFault.TheVariants.{Missing, Failed, NoMemory}
use Rattle.driver_files.specs.Counts.{RoseBy, ClosesFiles}
use Rattle.driver_files.specs.Driver.{told_file, told_files}
use Rattle.driver_files.specs.Seats.{found_before, one_more}
use Rattle.driver_files.specs.inside.Sets.{CountsSet, LeavesSet}
use Rattle.driver_files.proofs.Closing.{rose_then, rose_none, rose_late, rose_once}

-- what holds of a told world, from what holds of it
pub told_one : {P Q : World → Type 0} (world : Option World) → ((w : World) → P w → Q w) → IfSome world P → IfSome world Q
told_one None f g = tt
told_one (Some w) f g = f w g

pub told_two : {P Q R : World → Type 0} (world : Option World) → ((w : World) → P w → Q w → R w) → IfSome world P → IfSome world Q → IfSome world R
told_two None f g h = tt
told_two (Some w) f g h = f w g h

pub told_all : {P : World → Type 0} (world : Option World) → ((w : World) → P w) → IfSome world P
told_all None f = tt
told_all (Some w) f = f w

-- the first i of these names were found and opened
pub record SoFar (world : Option World) (names : List (List ℕ)) (i : ℕ) (start now : InputCounts) : Type 0 where
  pub opened : RoseBy i start.opened now.opened
  pub closed : now.closed ≡ start.closed
  pub misses : now.misses ≡ start.misses
  pub faults : now.faults ≡ start.faults
  pub found : IfSome world (λ w. found_before w names ≡ i + found_before w (drop i names))

pub opening_begins : (world : Option World) (names : List (List ℕ)) (a : InputCounts) → SoFar world names 0 a a
opening_begins world names a = record {
  opened = rose_none a.opened a.opened refl;
  closed = refl;
  misses = refl;
  faults = refl;
  found = told_all world (λ w. let same : found_before w (drop 0 names) ≡ found_before w names = refl in omega arith);
}

one_more_there : {A : Type 0} (file : Option A) (n : ℕ) → is_some file ≡ true → one_more file n ≡ 1 + n
one_more_there None n h = absurd cc
one_more_there (Some x) n h = refl

one_more_gone : {A : Type 0} (file : Option A) (n : ℕ) → file ≡ None → one_more file n ≡ 0
one_more_gone None n h = refl
one_more_gone (Some x) n h = absurd cc

found_next : (world : Option World) (names : List (List ℕ)) (i : ℕ) (name : List ℕ) (held : Option (List ℕ)) → drop i names ≡ name ∷ drop (i + 1) names
    → HoldsOf world name held → IfSome world (λ w. found_before w names ≡ i + found_before w (drop i names))
    → IfSome world (λ w. found_before w names ≡ (i + 1) + found_before w (drop (i + 1) names))
found_next None names i name held e h found = tt
found_next (Some w) names i name held e h found =
    let here : found_before w (drop i names) ≡ 1 + found_before w (drop (i + 1) names) =
    ap (found_before w) e ∙ one_more_there (file_of w name) (found_before w (drop (i + 1) names)) h.1 in
    omega arith

pub opening_next : {F : Type 0} (world : Option World) (names : List (List ℕ)) (i : ℕ) (name : List ℕ) (held : Option (List ℕ)) (file : F) (a b c : InputCounts)
    → drop i names ≡ name ∷ drop (i + 1) names → HoldsOf world name held → SoFar world names i a b → CountsOpen (Ok file) b c → SoFar world names (i + 1) a c
opening_next world names i name held file a b c e h s g = record {
  opened = rose_then i 1 a.opened b.opened c.opened s.opened (rose_once b.opened c.opened g.opened);
  closed = g.closed ∙ s.closed;
  misses = g.misses ∙ s.misses;
  faults = g.faults ∙ s.faults;
  found = found_next world names i name held e h s.found;
}

told_next : (world : Option World) (name : List ℕ) (held : Option (List ℕ)) → HoldsOf world name held → held ≡ told_file world name
told_next None name held h = h
told_next (Some w) name held h = h.0

-- the files that are open tell what the names so far say
pub held_next : {S : Type 0} (held : S → Option (List ℕ)) (world : Option World) (before after : List (List ℕ)) (name : List ℕ) (files : List S) (file : S)
    → after ≡ before ++ name ∷ [] → map held files ≡ told_files world before → HoldsOf world name (held file)
    → map held (files ++ file ∷ []) ≡ told_files world after
held_next held world before after name files file e m h =
    let one = told_next world name (held file) h in
    map-append held files (file ∷ []) ∙ (λ i. m i ++ one i ∷ []) ∙ sym (map-append (told_file world) before (name ∷ [])) ∙ ap (told_files world) (sym e)

pub all_held : {S : Type 0} (held : S → Option (List ℕ)) (world : Option World) (names : List (List ℕ)) (i : ℕ) (files : List S) → length names ≤ i
    → map held files ≡ told_files world (take i names) → map held files ≡ told_files world names
all_held held world names i files h m = m ∙ ap (told_files world) (take_all i names h)

found_all : (world : Option World) (names : List (List ℕ)) (i : ℕ) → i ≡ length names → IfSome world (λ w. found_before w names ≡ i + found_before w (drop i names))
    → IfSome world (λ w. i ≡ found_before w names)
found_all None names i e h = tt
found_all (Some w) names i e h =
    let none : found_before w (drop i names) ≡ 0 = ap (found_before w) (drop_whole names i e) in
    omega arith
  where
    drop_whole : (names : List (List ℕ)) (i : ℕ) → i ≡ length names → drop i names ≡ []
    drop_whole names i e = grind (arith, drop_all)

pub opening_ends : {V : Type 0} (world : Option World) (names : List (List ℕ)) (i : ℕ) (v : V) (a b : InputCounts) → i ≡ length names → SoFar world names i a b
    → CountsSet world names (Ok v) i 0 a b
opening_ends world names i v a b e s = record {
  most = e;
  told = found_all world names i e s.found;
  opened = s.opened;
  closed = rose_none a.closed b.closed s.closed;
  misses = s.misses;
  faults = s.faults;
}

-- the name at hand is missing
found_gone : (world : Option World) (names : List (List ℕ)) (i : ℕ) (name : List ℕ) → drop i names ≡ name ∷ drop (i + 1) names
    → IfSome world (λ w. LacksName w name) → IfSome world (λ w. found_before w names ≡ i + found_before w (drop i names)) → IfSome world (λ w. i ≡ found_before w names)
found_gone None names i name e h found = tt
found_gone (Some w) names i name e h found =
    let here : found_before w (drop i names) ≡ 0 =
    ap (found_before w) e ∙ one_more_gone (file_of w name) (found_before w (drop (i + 1) names)) h in
    omega arith

found_within : (world : Option World) (names : List (List ℕ)) (i : ℕ) → IfSome world (λ w. found_before w names ≡ i + found_before w (drop i names)) → IfSome world (λ w. i ≤ found_before w names)
found_within None names i found = tt
found_within (Some w) names i found = omega arith

pub opening_stops : {V F : Type 0} (world : Option World) (names : List (List ℕ)) (i : ℕ) (name : List ℕ) (fault : OpenFault) (a b c : InputCounts) → i < length names
    → drop i names ≡ name ∷ drop (i + 1) names → (fault ≡ Missing → IfSome world (λ w. LacksName w name)) → SoFar world names i a b
    → CountsOpen {F = F} (Err fault) b c → CountsSet {V = V} world names (Err fault) i 0 a c
opening_stops world names i name Missing a b c lt e gone s g = record {
  most = lt;
  told = found_gone world names i name e (gone refl) s.found;
  opened = g.opened ∙ s.opened;
  closed = rose_none a.closed c.closed (g.closed ∙ s.closed);
  misses = subst (λ n. RoseByOne n c.misses) s.misses g.misses;
  faults = g.faults ∙ s.faults;
}
opening_stops world names i name Failed a b c lt e gone s g = record {
  most = omega arith;
  told = found_within world names i s.found;
  opened = g.opened ∙ s.opened;
  closed = rose_none a.closed c.closed (g.closed ∙ s.closed);
  misses = g.misses ∙ s.misses;
  faults = rw (sym s.faults) g.faults;
}
opening_stops world names i name NoMemory a b c lt e gone s g = record {
  most = omega arith;
  told = found_within world names i s.found;
  opened = g.opened ∙ s.opened;
  closed = rose_none a.closed c.closed (g.closed ∙ s.closed);
  misses = g.misses ∙ s.misses;
  faults = g.faults ∙ s.faults;
}

-- ---- a whole set

pub set_given : {U V : Type 0} (world : Option World) (names : List (List ℕ)) (u : U) (v : V) (n : ℕ) (a b : InputCounts) → CountsSet world names (Ok u) n 0 a b → LeavesSet world names (Ok v) a b
set_given world names u v n a b h = (
  n,
  record {
    most = h.most;
    told = told_one world (λ w p. p) h.told;
    opened = h.opened;
    closed = h.closed;
    misses = h.misses;
    faults = h.faults;
  },
)

-- the files before the one that is not there are closed, and have no faults
closed_after : {U V : Type 0} (world : Option World) (names : List (List ℕ)) (fault : OpenFault) (n : ℕ) (a b c : InputCounts) → CountsSet {V = U} world names (Err fault) n 0 a b
    → ClosesFiles n 0 b c → CountsSet {V = V} world names (Err fault) n n a c
closed_after world names Missing n a b c h g = record {
  most = h.most;
  told = told_one world (λ w p. p) h.told;
  opened = g.opened ∙ h.opened;
  closed = rose_late n a.closed b.closed c.closed h.closed g.closed;
  misses = rw g.misses h.misses;
  faults = g.clean refl ∙ h.faults;
}
closed_after world names Failed n a b c h g = record {
  most = h.most;
  told = told_one world (λ w p. p) h.told;
  opened = g.opened ∙ h.opened;
  closed = rose_late n a.closed b.closed c.closed h.closed g.closed;
  misses = g.misses ∙ h.misses;
  faults = rw (g.clean refl) h.faults;
}
closed_after world names NoMemory n a b c h g = record {
  most = h.most;
  told = told_one world (λ w p. p) h.told;
  opened = g.opened ∙ h.opened;
  closed = rose_late n a.closed b.closed c.closed h.closed g.closed;
  misses = g.misses ∙ h.misses;
  faults = g.clean refl ∙ h.faults;
}

pub set_closed : {U V : Type 0} (world : Option World) (names : List (List ℕ)) (fault : OpenFault) (n failed : ℕ) (a b c : InputCounts) → CountsSet {V = U} world names (Err fault) n 0 a b
    → failed ≡ 0 → ClosesFiles n failed b c → LeavesSet {V = V} world names (Err fault) a c
set_closed world names fault n failed a b c h none g = (n, closed_after world names fault n a b c h (subst (λ f. ClosesFiles n f b c) none g))

-- nothing was opened for want of memory
pub set_short : {V : Type 0} (world : Option World) (names : List (List ℕ)) (a : InputCounts) → LeavesSet {V = V} world names (Err NoMemory) a a
set_short world names a = (
  0,
  record {
    most = omega arith;
    told = told_all world (λ w. omega arith);
    opened = rose_none a.opened a.opened refl;
    closed = rose_none a.closed a.closed refl;
    misses = refl;
    faults = refl;
  },
)
