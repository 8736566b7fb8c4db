-- Opening, using and closing the files of a driver, put together.
use Rattle.std.proofs.Common.{◌≡◌, ◌≤◌, ◌+◌, inl, inr, ℕ, List, Option, None, Some, Ok, Err, ◌∙◌, subst, arith}
use Rattle.std.specs.Prelude.{IfSome, is_some, Bool, true, false}
use Rattle.outside.specs.Counted.{Rose, RoseByOne}
use Rattle.outside.specs.Opens.{InputCounts}
use Rattle.outside.specs.World.{World}
use Rattle.line_pieces.specs.declared.fault.PieceFault.{PieceFault}
use Rattle.line_pieces.specs.declared.fault.PieceFault.TheVariants.{ReadFault, NoMemory}
use Rattle.driver_files.specs.Counts.{IsBalanced, NoCountFalls, RoseBy}
use Rattle.driver_files.specs.Driver.{CountsDriver, FaultsBy, MissesBy, OpensJust, files_in}
use Rattle.driver_files.specs.Seats.{driver_opens}
use Rattle.driver_files.specs.Together.{OpenedTold}
use Rattle.driver_files.specs.declared.driver.DriverFiles.{DriverFiles}
use Rattle.driver_files.specs.declared.driver.Opening.{Opening}
use Rattle.driver_files.specs.declared.driver.Opening.TheVariants.{Open, Missing}
use Rattle.driver_files.specs.Laws.{FilesAreClosed, NoneIsLeftOpen}
use Rattle.driver_files.proofs.Closing.{rose_then}

rose_rises : (n a b : ℕ) → RoseBy n a b → a ≤ b
rose_rises n a b e = omega arith

balanced_by : (n : ℕ) (a b : InputCounts) → RoseBy n a.opened b.opened → RoseBy n a.closed b.closed → IsBalanced a b
balanced_by n a b o c = record { same = λ h k. omega arith }

once_rises : (a b : ℕ) → RoseByOne a b → a ≤ b
once_rises a b (inl h) = let one = h.1 in omega arith
once_rises a b (inr h) = let same = h.1 in omega arith

given_misses : {S : Type 0} (told : Bool) (d : DriverFiles S) (a b : ℕ) → MissesBy told (Ok (Open d)) a b → a ≤ b
given_misses true d a b h = omega arith
given_misses false d a b (inl h) = omega arith
given_misses false d a b (inr h) = once_rises a b h

opened_told : {S : Type 0} (world : Option World) (names : List (List ℕ)) (workers wanted : ℕ) (d : DriverFiles S) (again : ℕ) (a b c : InputCounts)
    → IfSome world (λ w. OpensJust (driver_opens w workers wanted names) (Ok (Open d)) again) → MissesBy (is_some world) (Ok (Open d)) a.misses b.misses
    → RoseBy (files_in d.sets.items + again) a.opened b.opened → c.opened ≡ b.opened → c.misses ≡ b.misses
    → IfSome world (λ w. OpenedTold (driver_opens w workers wanted names) a c)
opened_told None names workers wanted d again a b c told misses o same kept = tt
opened_told (Some w) names workers wanted d again a b c told misses o same kept =
    let files = told.0 in
    let none = told.1 in
    record {
      opened = same ∙ subst (λ n. RoseBy n a.opened b.opened) (omega arith) o;
      misses = kept ∙ misses;
    }

pub closed_files : (S : Type 0) → FilesAreClosed S
closed_files S world names workers wanted failed d a b c h g =
    let files = files_in d.sets.items in
    let opened = g.opened ∙ h.opened in
    let closed = rose_then h.again files a.closed b.closed c.closed h.closed g.closed in
    let all : RoseBy (files + h.again) a.closed c.closed = subst (λ n. RoseBy n a.closed c.closed) (omega arith) closed in
    let missed = given_misses (is_some world) d a.misses b.misses h.misses in
    let kept = g.misses in
    let same = h.faults in
    let rises = g.rises in
    record {
      falls = record {
        faults = omega arith;
        misses = omega arith;
        opened = rose_rises (files + h.again) a.opened c.opened opened;
        closed = rose_rises (files + h.again) a.closed c.closed all;
      };
      balanced = balanced_by (files + h.again) a c opened all;
      told = opened_told world names workers wanted d h.again a b c h.told h.misses h.opened g.opened g.misses;
      clean = λ none. g.clean none ∙ h.faults;
      carried = λ some. subst (λ n. Rose n c.faults) h.faults (g.carried some);
    }

faults_rise : (T : Type 0) (fault : PieceFault) (a b : ℕ) → FaultsBy {T = T} (Err fault) a b → a ≤ b
faults_rise T ReadFault a b h = h.0
faults_rise T NoMemory a b h = omega arith

fault_misses : (S : Type 0) (told : Bool) (fault : PieceFault) (a b : ℕ) → MissesBy {S = S} told (Err fault) a b → a ≤ b
fault_misses S true fault a b h = omega arith
fault_misses S false fault a b h = omega arith

missing_misses : (S : Type 0) (told : Bool) (a b : ℕ) → MissesBy {S = S} told (Ok Missing) a b → a ≤ b
missing_misses S true a b h = once_rises a b h
missing_misses S false a b h = once_rises a b h

none_given : (n a b : ℕ) → RoseBy (0 + n) a b → RoseBy n a b
none_given n a b h = subst (λ m. RoseBy m a b) (omega arith) h

pub none_left : (S : Type 0) → NoneIsLeftOpen S
none_left S world names workers wanted a b = (missing, failed)
  where
    missing : CountsDriver {S = S} world names workers wanted (Ok Missing) a b → NoCountFalls a b × IsBalanced a b
    missing h =
        let opened = none_given h.again a.opened b.opened h.opened in
        let same = h.faults in (
          record {
            faults = omega arith;
            misses = missing_misses S (is_some world) a.misses b.misses h.misses;
            opened = rose_rises h.again a.opened b.opened opened;
            closed = rose_rises h.again a.closed b.closed h.closed;
          },
          balanced_by h.again a b opened h.closed,
        )

    failed : (fault : PieceFault) → CountsDriver {S = S} world names workers wanted (Err fault) a b → NoCountFalls a b × IsBalanced a b
    failed fault h =
        let opened = none_given h.again a.opened b.opened h.opened in (
          record {
            faults = faults_rise (Opening S) fault a.faults b.faults h.faults;
            misses = fault_misses S (is_some world) fault a.misses b.misses h.misses;
            opened = rose_rises h.again a.opened b.opened opened;
            closed = rose_rises h.again a.closed b.closed h.closed;
          },
          balanced_by h.again a b opened h.closed,
        )
