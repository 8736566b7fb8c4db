-- What the run of a leaf leaves of the counts, once all files are closed.
use Rattle.std.proofs.Common.{◌≡◌, ℕ, Bool, true, false, suc, ◌+◌, ◌<◌, ◌≤◌, inl, inr, List, [], ◌∷◌, Vec, length, map, sum, sum_by, vec_len, Option, None, Some, Result, Ok, Err, IfSome, All, refl, sym, ap, ap₂, ◌∙◌, subst, arith}
use Rattle.std.specs.Prelude.{is_some}
use Rattle.std.specs.List.{AllByRecursion}
use Rattle.std.specs.declared.alloc.Global.{Global}
use Rattle.std.proofs.lemmas.List.{length-map}
use Rattle.std.proofs.lemmas.List.Sums.{sum-map, sum_by-cons}
use Rattle.std.proofs.lemmas.List.Elements.{recursion_from_All, All-from_recursion}
use Rattle.item_tree.specs.declared.fault.Fault.{Fault}
use Rattle.outside.specs.Counted.{RoseByOne}
use Rattle.outside.specs.Opens.{InputCounts}
use Rattle.outside.specs.World.{World}
use Rattle.line_pieces.specs.Cuts.{Cutting, HaveLengths}
use Rattle.line_pieces.specs.declared.fault.PieceFault.{PieceFault}
use Rattle.driver_files.specs.Counts.{RoseBy, ClosesFiles}
use Rattle.line_pieces.specs.declared.fault.PieceFault.TheVariants as pieces
use Rattle.driver_files.specs.Driver as driver
use Rattle.driver_files.specs.Driver.{IsSet, files_in, OpensJust, CountsDriver}
use Rattle.driver_files.specs.Seats.{driver_opens}
use Rattle.driver_files.specs.declared.driver.DriverFiles.{DriverFiles}
use Rattle.driver_files.specs.declared.driver.Opening.{Opening}
use Rattle.driver_files.specs.declared.driver.Opening.TheVariants.{Open, Missing}
use Rattle.piece_board.specs.Trouble.{AllRise, SomeRose}
use Rattle.piece_seats.specs.Seats.{HoldsFiles}
use Rattle.piece_run.specs.Kept.{IsAnswer, IsUnread, of_opening}
use Rattle.piece_run.proofs.Closing.{up_then, up_most, up_least, up_just}
use Rattle.piece_run.specs.Leaf.{seat_files, files_of_seats, faults_of_seats, FaultsBy, ClosesDriver, OpensBy, MissesBy, LeafCounts}
use Rattle.piece_seats.specs.declared.seat.Seat.{Seat}
use Rattle.piece_run.specs.declared.leaf_fault.LeafFault.{LeafFault}
use Rattle.piece_run.specs.declared.leaf_fault.LeafFault.TheVariants as leaf

-- ---- how many files there are

same_count : (ns : List ℕ) (fs : List (Option (List ℕ))) → HaveLengths ns fs → length fs ≡ length ns
same_count [] [] h = refl
same_count [] (f ∷ fs) h = absurd h
same_count (n ∷ ns) [] h = absurd h
same_count (n ∷ ns) (f ∷ fs) h = ap suc (same_count ns fs h.1)

-- sums over lists of the same length, in which all are the same
same_sum : {X Y : Type 0} (f : X → ℕ) (g : Y → ℕ) (k : ℕ) (xs : List X) (ys : List Y) → AllByRecursion (λ x. f x ≡ k) xs → AllByRecursion (λ y. g y ≡ k) ys → length xs ≡ length ys → sum_by f xs ≡ sum_by g ys
same_sum f g k [] [] h j e = refl
same_sum f g k [] (y ∷ ys) h j e = absurd (omega (arith, e))
same_sum f g k (x ∷ xs) [] h j e = absurd (omega (arith, e))
same_sum f g k (x ∷ xs) (y ∷ ys) h j e =
    let less : length xs ≡ length ys = omega (arith, e) in
    sum_by-cons f x xs ∙ ap₂ (λ (a b : ℕ). a + b) (h.0 ∙ sym j.0) (same_sum f g k xs ys h.1 j.1 less) ∙ sym (sum_by-cons g y ys)

by_all : {X : Type 0} (P Q : X → Type 0) → ((x : X) → P x → Q x) → (xs : List X) → AllByRecursion P xs → AllByRecursion Q xs
by_all P Q f [] h = tt
by_all P Q f (x ∷ xs) h = (f x h.0, by_all P Q f xs h.1)

len_of : {X : Type 0} (v : Vec X Global) → vec_len v ≡ length v.items
len_of v = v.ok.0

-- the files of workers are as many as the sets had
pub as_many : {S : Type 0} (held : S → Option (List ℕ)) (faults : S → ℕ) (cut : Cutting) (told : List (Option (List ℕ))) (sets : List (Vec S Global)) (seats : List (Seat S))
    → HaveLengths cut.lengths told → All (λ s. IsSet held faults told s.items) sets → All (HoldsFiles held cut told) seats → length seats ≡ length sets → files_of_seats seats ≡ files_in sets
as_many held faults cut told sets seats lengths are holds e =
    let k = length told in
    let of_seats = by_all (HoldsFiles held cut told) (λ s. vec_len s.files ≡ k) (λ s h. len_of s.files ∙ sym (length-map s.files.items held) ∙ ap length h.1) seats (recursion_from_All (HoldsFiles held cut told) seats holds) in
    let of_sets = by_all (λ v. IsSet held faults told v.items) (λ v. vec_len v ≡ k) (λ v h. len_of v ∙ sym (length-map v.items held) ∙ ap length h.tells) sets (recursion_from_All (λ v. IsSet held faults told v.items) sets are) in
    same_sum (λ s. vec_len s.files) vec_len k seats sets of_seats of_sets e

-- ---- faults

no_sum : {X : Type 0} (f : X → ℕ) (xs : List X) → AllByRecursion (λ x. f x ≡ 0) xs → sum_by f xs ≡ 0
no_sum f [] h = refl
no_sum f (x ∷ xs) h = sum_by-cons f x xs ∙ ap₂ (λ (a b : ℕ). a + b) h.0 (no_sum f xs h.1)

-- no call has failed on these
calm_seats : {S : Type 0} (held : S → Option (List ℕ)) (faults : S → ℕ) (told : List (Option (List ℕ))) (seats : List (Seat S)) → AllByRecursion (λ v. IsSet held faults told v.items) (map seat_files seats)
    → AllByRecursion (λ s. sum_by faults s.files.items ≡ 0) seats
calm_seats held faults told [] h = tt
calm_seats held faults told (s ∷ seats) h =
    (no_sum faults s.files.items (recursion_from_All (λ f. faults f ≡ 0) s.files.items h.0.calm), calm_seats held faults told seats h.1)

-- the sums are the same where all numbers are
pub same_faults : {S : Type 0} (faults : S → ℕ) (last first : List (Seat S)) → map (λ s. sum_by faults s.files.items) last ≡ map (λ s. sum_by faults s.files.items) first → faults_of_seats faults last ≡ faults_of_seats faults first
same_faults faults last first e =
    sym (sum-map (λ s. sum_by faults s.files.items) last) ∙ ap sum e ∙ sum-map (λ s. sum_by faults s.files.items) first

-- some number rose from none
some_rose : {S : Type 0} (faults : S → ℕ) (first last : List (Seat S)) → AllByRecursion (λ s. sum_by faults s.files.items ≡ 0) first → SomeRose (map (λ s. sum_by faults s.files.items) first) (map (λ s. sum_by faults s.files.items) last)
    → 0 < faults_of_seats faults last
some_rose faults [] [] z h = absurd h
some_rose faults [] (y ∷ ys) z h = absurd h
some_rose faults (x ∷ xs) [] z h = absurd h
some_rose faults (x ∷ xs) (y ∷ ys) z (inl (inl h)) =
    let parts = sum_by-cons (λ s. sum_by faults s.files.items) y ys in omega (arith, h, parts)
some_rose faults (x ∷ xs) (y ∷ ys) z (inl (inr h)) =
    let parts = sum_by-cons (λ s. sum_by faults s.files.items) y ys in omega (arith, h, parts)
some_rose faults (x ∷ xs) (y ∷ ys) z (inr h) =
    let rest = some_rose faults xs ys z.1 h in
    let parts = sum_by-cons (λ s. sum_by faults s.files.items) y ys in
    omega (arith, rest, parts)

-- ---- what is left once all are closed

leaves : {K : Type 0} (n failed : ℕ) (result : Result K LeafFault) (before after : InputCounts) → ClosesFiles n failed before after → (IsAnswer result → failed ≡ 0) → (IsUnread result → 0 < failed)
    → FaultsBy result before.faults after.faults
leaves n failed (Ok kept) before after c calm cause = c.clean (calm tt)
leaves n failed (Err (leaf.Raised fault)) before after c calm cause = c.clean (calm tt)
leaves n failed (Err leaf.ReadFault) before after c calm cause = c.carried (cause tt)
leaves n failed (Err leaf.NoMemory) before after c calm cause = tt

pub closed : {S K : Type 0} (held : S → Option (List ℕ)) (faults : S → ℕ) (cut : Cutting) (told : List (Option (List ℕ))) (sets : List (Vec S Global)) (first last : List (Seat S)) (result : Result K LeafFault) (before after : InputCounts)
    → HaveLengths cut.lengths told → All (λ s. IsSet held faults told s.items) sets → map seat_files first ≡ sets
    → All (HoldsFiles held cut told) last → length last ≡ length first
    → (IsAnswer result → map (λ s. sum_by faults s.files.items) last ≡ map (λ s. sum_by faults s.files.items) first)
    → (IsUnread result → SomeRose (map (λ s. sum_by faults s.files.items) first) (map (λ s. sum_by faults s.files.items) last))
    → ClosesFiles (files_of_seats last) (faults_of_seats faults last) before after
    → ClosesDriver (files_in sets) result before after
closed held faults cut told sets first last result before after lengths are is holds many calm cause c =
    let zero_first = calm_seats held faults told first (subst (AllByRecursion (λ v. IsSet held faults told v.items)) (sym is) (recursion_from_All (λ v. IsSet held faults told v.items) sets are)) in
    let count : files_of_seats last ≡ files_in sets = as_many held faults cut told sets last lengths are holds (many ∙ sym (length-map first seat_files) ∙ ap length is) in
    record {
      closed = subst (λ (n : ℕ). RoseBy n before.closed after.closed) count c.closed;
      opened = c.opened;
      misses = c.misses;
      rises = c.rises;
      faults = leaves (files_of_seats last) (faults_of_seats faults last) result before after c
          (λ a. same_faults faults last first (calm a) ∙ no_sum (λ s. sum_by faults s.files.items) first zero_first)
          (λ u. some_rose faults first last zero_first (cause u));
    }

-- the sets are closed where there is no memory for seats
pub closed_sets : {K : Type 0} (n failed : ℕ) (before after : InputCounts) → ClosesFiles n failed before after → ClosesDriver {K = K} n (Err leaf.NoMemory) before after
closed_sets n failed before after c = record { closed = c.closed; opened = c.opened; misses = c.misses; rises = c.rises; faults = tt }

-- the workers' files are those that are cut
hold_all : {S : Type 0} (held : S → Option (List ℕ)) (faults : S → ℕ) (cut : Cutting) (told : List (Option (List ℕ))) (seats : List (Seat S)) → HaveLengths cut.lengths told
    → AllByRecursion (λ v. IsSet held faults told v.items) (map seat_files seats) → AllByRecursion (HoldsFiles held cut told) seats
hold_all held faults cut told [] lengths h = tt
hold_all held faults cut told (s ∷ seats) lengths h = ((subst (HaveLengths cut.lengths) (sym h.0.tells) lengths, h.0.tells), hold_all held faults cut told seats lengths h.1)

pub held_by_seats : {S : Type 0} (held : S → Option (List ℕ)) (faults : S → ℕ) (cut : Cutting) (told : List (Option (List ℕ))) (sets : List (Vec S Global)) (seats : List (Seat S))
    → HaveLengths cut.lengths told → All (λ s. IsSet held faults told s.items) sets → map seat_files seats ≡ sets → All (HoldsFiles held cut told) seats
held_by_seats held faults cut told sets seats lengths are is =
    All-from_recursion (HoldsFiles held cut told) seats
    (hold_all held faults cut told seats lengths (subst (AllByRecursion (λ v. IsSet held faults told v.items)) (sym is) (recursion_from_All (λ v. IsSet held faults told v.items) sets are)))

-- ---- open, use and close

-- what a run leaves where all files stand open
pub counts_open : {S K : Type 0} (world : Option World) (names : List (List ℕ)) (workers wanted : ℕ) (d : DriverFiles S) (result : Result K LeafFault) (before mid after : InputCounts)
    → CountsDriver world names workers wanted (Ok (Open d)) before mid → ClosesDriver (files_in d.sets.items) result mid after → LeafCounts world names workers wanted result before after
counts_open {K = K} world names workers wanted d result before mid after c k =
    let n = files_in d.sets.items in
    let up = up_then c.again n before.closed mid.closed after.closed c.closed k.closed in
    record {
      balanced = record {
        same = λ small least.
            let a = up_just (n + c.again) before.opened mid.opened c.opened (omega (arith, k.opened, small)) in
            let b = up_just (c.again + n) before.closed after.closed up least in
            omega (arith, a, b, k.opened);
      };
      falls = record {
        faults = omega (arith, c.faults, k.rises);
        misses = subst (λ (m : ℕ). before.misses ≤ m) (sym k.misses) (misses_rise (is_some world) before.misses mid.misses c.misses);
        opened = let l = up_least (n + c.again) before.opened mid.opened c.opened in omega (arith, l, k.opened);
        closed = up_least (c.again + n) before.closed after.closed up;
      };
      faults = same_start result mid.faults before.faults after.faults c.faults k.faults;
      opened = told_open world c.told;
      misses = told_found world c.misses;
    }
  where
    misses_rise : (told : Bool) (a b : ℕ) → driver.MissesBy told (Ok (Open d)) a b → a ≤ b
    misses_rise true a b h = omega (arith, h)
    misses_rise false a b (inl h) = omega (arith, h)
    misses_rise false a b (inr (inl h)) = let e = h.1 in omega (arith, e)
    misses_rise false a b (inr (inr h)) = let e = h.1 in omega (arith, e)

    same_start : (r : Result K LeafFault) (m a b : ℕ) → m ≡ a → FaultsBy r m b → FaultsBy r a b
    same_start r m a b e h = subst (λ (n : ℕ). FaultsBy r n b) e h

    told_open : (o : Option World) → IfSome o (λ w. OpensJust (driver_opens w workers wanted names) (Ok (Open d)) c.again)
        → IfSome o (λ w. OpensBy (driver_opens w workers wanted names) result before.opened after.opened)
    told_open None h = tt
    told_open (Some w) h =
        let total : files_in d.sets.items + c.again ≡ driver_opens w workers wanted names = just_all (driver_opens w workers wanted names) h in
        of_result result (subst (λ (n : ℕ). RoseBy n before.opened after.opened) total (subst (λ (m : ℕ). RoseBy (files_in d.sets.items + c.again) before.opened m) (sym k.opened) c.opened))
      where
        just_all : (n : ℕ) → (files_in d.sets.items ≡ n) × (c.again ≡ 0) → files_in d.sets.items + c.again ≡ n
        just_all n h = let a = h.0 in let b = h.1 in omega (arith, a, b)

        of_result : (r : Result K LeafFault) → RoseBy (driver_opens w workers wanted names) before.opened after.opened → OpensBy (driver_opens w workers wanted names) r before.opened after.opened
        of_result (Ok kept) h = h
        of_result (Err fault) h = up_most (driver_opens w workers wanted names) before.opened after.opened h

    told_found : (o : Option World) → driver.MissesBy (is_some o) (Ok (Open d)) before.misses mid.misses → IfSome o (λ w. MissesBy result before.misses after.misses)
    told_found None h = tt
    told_found (Some w) h = of_result result
      where
        of_result : (r : Result K LeafFault) → MissesBy r before.misses after.misses
        of_result (Ok kept) = k.misses ∙ h
        of_result (Err fault) = omega (arith, h, k.misses)

-- where a name is missing
pub counts_missing : {S K : Type 0} (world : Option World) (names : List (List ℕ)) (workers wanted : ℕ) (fault : Fault) (before after : InputCounts)
    → CountsDriver {S = S} world names workers wanted (Ok Missing) before after → LeafCounts {K = K} world names workers wanted (Err (leaf.Raised fault)) before after
counts_missing world names workers wanted fault before after c = record {
  balanced = record {
    same = λ small least.
        let a = up_just (0 + c.again) before.opened after.opened c.opened small in
        let b = up_just c.again before.closed after.closed c.closed least in
        omega (arith, a, b);
  };
  falls = record {
    faults = omega (arith, c.faults);
    misses = one_up before.misses after.misses c.misses;
    opened = up_least (0 + c.again) before.opened after.opened c.opened;
    closed = up_least c.again before.closed after.closed c.closed;
  };
  faults = c.faults;
  opened = at_most world c.told;
  misses = missed world;
} where
  one_up : (a b : ℕ) → RoseByOne a b → a ≤ b
  one_up a b (inl h) = let e = h.1 in omega (arith, e)
  one_up a b (inr h) = let e = h.1 in omega (arith, e)

  one_most : (a b : ℕ) → RoseByOne a b → b ≤ a + 1
  one_most a b (inl h) = let e = h.1 in omega (arith, e)
  one_most a b (inr h) = let e = h.1 in omega (arith, e)

  at_most : (o : Option World) → IfSome o (λ w. c.again ≡ driver_opens w workers wanted names) → IfSome o (λ w. after.opened ≤ before.opened + driver_opens w workers wanted names)
  at_most None h = tt
  at_most (Some w) h = let m = up_most (0 + c.again) before.opened after.opened c.opened in omega (arith, h, m)

  missed : (o : Option World) → IfSome o (λ w. after.misses ≤ before.misses + 1)
  missed None = tt
  missed (Some w) = one_most before.misses after.misses c.misses

-- where opening failed
pub counts_failed : {S K : Type 0} (world : Option World) (names : List (List ℕ)) (workers wanted : ℕ) (fault : PieceFault) (before after : InputCounts)
    → CountsDriver {S = S} world names workers wanted (Err fault) before after → LeafCounts {K = K} world names workers wanted (Err (of_opening fault)) before after
counts_failed {S = S} {K = K} world names workers wanted fault before after c = record {
  balanced = record {
    same = λ small least.
        let a = up_just (0 + c.again) before.opened after.opened c.opened small in
        let b = up_just c.again before.closed after.closed c.closed least in
        omega (arith, a, b);
  };
  falls = record {
    faults = faults_rise fault before.faults after.faults c.faults;
    misses = omega (arith, misses_same fault (is_some world) c.misses);
    opened = up_least (0 + c.again) before.opened after.opened c.opened;
    closed = up_least c.again before.closed after.closed c.closed;
  };
  faults = faults_by fault before.faults after.faults c.faults;
  opened = at_most world c.told;
  misses = missed world;
} where
  misses_same : (f : PieceFault) (told : Bool) → driver.MissesBy {S = S} told (Err f) before.misses after.misses → after.misses ≡ before.misses
  misses_same f true h = h
  misses_same f false h = h

  faults_rise : (f : PieceFault) (a b : ℕ) → driver.FaultsBy {T = Opening S} (Err f) a b → a ≤ b
  faults_rise pieces.ReadFault a b h = h.0
  faults_rise pieces.NoMemory a b h = omega (arith, h)

  faults_by : (f : PieceFault) (a b : ℕ) → driver.FaultsBy {T = Opening S} (Err f) a b → FaultsBy {K = K} (Err (of_opening f)) a b
  faults_by pieces.ReadFault a b h = h.1
  faults_by pieces.NoMemory a b h = tt

  at_most : (o : Option World) → IfSome o (λ w. c.again ≤ driver_opens w workers wanted names) → IfSome o (λ w. after.opened ≤ before.opened + driver_opens w workers wanted names)
  at_most None h = tt
  at_most (Some w) h = let m = up_most (0 + c.again) before.opened after.opened c.opened in omega (arith, h, m)

  missed : (o : Option World) → IfSome o (λ w. after.misses ≤ before.misses + 1)
  missed None = tt
  missed (Some w) = let e = misses_same fault (is_some world) c.misses in omega (arith, e)

-- ---- what workers hold

pub held_told : {S : Type 0} (held : S → Option (List ℕ)) (cut : Cutting) (told : List (Option (List ℕ))) (seats : List (Seat S)) → 0 < length seats → All (HoldsFiles held cut told) seats → HaveLengths cut.lengths told
held_told held cut told [] some h = absurd (omega (arith, some))
held_told held cut told (s ∷ seats) some h =
    let one = (recursion_from_All (HoldsFiles held cut told) (s ∷ seats) h).0 in
    subst (HaveLengths cut.lengths) one.1 one.0

rise_count : (xs ys : List ℕ) → AllRise xs ys → length ys ≡ length xs
rise_count [] [] h = refl
rise_count [] (y ∷ ys) h = absurd h
rise_count (x ∷ xs) [] h = absurd h
rise_count (x ∷ xs) (y ∷ ys) h = ap suc (rise_count xs ys h.1)

pub as_many_seats : {X : Type 0} (f : X → ℕ) (first last : List X) → AllRise (map f first) (map f last) → length last ≡ length first
as_many_seats f first last h = sym (length-map last f) ∙ rise_count (map f first) (map f last) h ∙ length-map first f
