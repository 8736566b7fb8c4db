-- What opening the sets behind the first leaves, and what it gives.
use Rattle.std.proofs.Common.{◌≡◌, ◌<◌, ◌≤◌, ◌+◌, ◌-◌, ◌*◌, inl, inr, ℕ, List, [], ◌∷◌, ◌++◌, length, take, drop, map, Option, None, Some, Ok, Err, refl, sym, ap, ◌∙◌, subst, arith, le_refl}
use Rattle.std.specs.Prelude.{IfSome, is_some, All, Vec, vec_len}
use Rattle.std.specs.declared.alloc.Global.{Global}
use Rattle.std.proofs.lemmas.Grind.{common_steps}
use Rattle.std.proofs.lemmas.Nat.{mul-le}
use Rattle.std.proofs.lemmas.List.{length-map}
use Rattle.outside.specs.Counted.{Rose}
use Rattle.outside.specs.Opens.{InputCounts}
use Rattle.outside.specs.World.{World}
use Rattle.line_pieces.specs.Cuts.{Cutting, HaveLengths, size_used, pieces_of}
use Rattle.line_pieces.specs.declared.fault.PieceFault.{PieceFault}
use Rattle.line_pieces.specs.declared.fault.PieceFault.TheVariants.{ReadFault, NoMemory}
use Rattle.driver_files.specs.Counts.{RoseBy, ClosesFiles}
use Rattle.driver_files.specs.Driver.{FaultsBy, IsDriver, IsSet, IsToldDriver, failures, files_in, told_file, told_files}
use Rattle.driver_files.specs.Seats.{driver_opens, found_before, most_files, pieces_in_all, seats_of}
use Rattle.driver_files.specs.declared.driver.DriverFiles.{DriverFiles}
use Rattle.driver_files.specs.inside.Sets.{CountsMore, CountsRest, LengthsFaults, MissesMore, MoreBy, RestJust}
use Rattle.driver_files.proofs.Closing.{no_failures, rose_then, rose_none}
use Rattle.driver_files.proofs.Lengths.{all_calm, as_long}
use Rattle.driver_files.proofs.More.{sets_long}
use Rattle.driver_files.proofs.Told.{all_there, count_opens, found_opens, mul_next}

-- so many sets are opened for files of these lengths
abbrev pub count_for : (k workers wanted : ℕ) → List ℕ → ℕ
count_for k workers wanted lengths = seats_of workers (pieces_of (size_used lengths wanted) lengths) k

-- each name that is told is there
abbrev pub There : Option World → List (List ℕ) → Type 0
There world names = IfSome world (λ w. found_before w names ≡ length names)

count_within : (k workers wanted : ℕ) (lengths : List ℕ) → 0 < workers → k * count_for k workers wanted lengths ≤ k * workers
count_within k workers wanted lengths some = mul-le k (count_for k workers wanted lengths) k workers (le_refl k) (omega arith)

mul_count : (k count : ℕ) → 0 < count → k + k * (count - 1) ≡ k * count
mul_count k count some =
    let next = mul_next k (count - 1) in
    let one : 1 + (count - 1) ≡ count = omega arith in
    let same : k * (1 + (count - 1)) ≡ k * count = ap (λ j. k * j) one in
    omega arith

-- ---- the first set is given up

first_within : (world : Option World) (names : List (List ℕ)) (workers wanted : ℕ) → There world names → IfSome world (λ w. length names ≤ driver_opens w workers wanted names)
first_within None names workers wanted there = tt
first_within (Some w) names workers wanted there = let least = found_opens w names workers wanted in omega arith

one_set : (k workers : ℕ) → 0 < workers → k ≤ k * workers
one_set k workers some =
    let all : k * 1 ≤ k * workers = mul-le k 1 k workers (le_refl k) some in
    omega arith

short_kept : (T : Type 0) (world : Option World) (a b : ℕ) → b ≡ a → MissesMore {T = T} (is_some world) (Err NoMemory) a b
short_kept T None a b e = e
short_kept T (Some w) a b e = e

pub rest_short : {S : Type 0} (world : Option World) (names : List (List ℕ)) (workers wanted n failed : ℕ) (a b : InputCounts) → 0 < workers → There world names
    → n ≡ length names → failed ≡ 0 → ClosesFiles n failed a b → CountsRest {S = S} world names workers wanted (Err NoMemory) a b
rest_short world names workers wanted n failed a b some there e none g = record {
  more = 0;
  again = length names;
  whole = omega arith;
  within = let all = one_set (length names) workers some in omega arith;
  told = first_within world names workers wanted there;
  opened = rose_none a.opened b.opened g.opened;
  closed = subst (λ m. RoseBy m a.closed b.closed) e g.closed;
  misses = short_kept _ world a.misses b.misses g.misses;
  faults = g.clean none;
}

unread_kept : (T : Type 0) (world : Option World) (a b : ℕ) → b ≡ a → MissesMore {T = T} (is_some world) (Err ReadFault) a b
unread_kept T None a b e = e
unread_kept T (Some w) a b e = e

has_risen : (start failed : ℕ) → start ≡ 0 → Rose start failed → 0 < failed
has_risen start failed e (inl less) = omega arith
has_risen start failed e (inr full) = omega arith

pub rest_unread : {S : Type 0} (world : Option World) (names : List (List ℕ)) (workers wanted n failed : ℕ) (a b : InputCounts) → 0 < workers → There world names
    → n ≡ length names → 0 < failed → ClosesFiles n failed a b → CountsRest {S = S} world names workers wanted (Err ReadFault) a b
rest_unread world names workers wanted n failed a b some there e lost g = record {
  more = 0;
  again = length names;
  whole = omega arith;
  within = let all = one_set (length names) workers some in omega arith;
  told = first_within world names workers wanted there;
  opened = rose_none a.opened b.opened g.opened;
  closed = subst (λ m. RoseBy m a.closed b.closed) e g.closed;
  misses = unread_kept _ world a.misses b.misses g.misses;
  faults = (g.rises, g.carried lost, g.full);
}

-- lengths were not told for this fault
pub rest_closed : {S : Type 0} (T : Type 0) (world : Option World) (names : List (List ℕ)) (workers wanted n start failed : ℕ) (fault : PieceFault) (a b : InputCounts) → 0 < workers
    → There world names → n ≡ length names → start ≡ 0 → LengthsFaults {T = T} (Err fault) start failed → ClosesFiles n failed a b
    → CountsRest {S = S} world names workers wanted (Err fault) a b
rest_closed T world names workers wanted n start failed ReadFault a b some there e none rose g =
    rest_unread world names workers wanted n failed a b some there e (has_risen start failed none rose) g
rest_closed T world names workers wanted n start failed NoMemory a b some there e none same g =
    rest_short world names workers wanted n failed a b some there e (same ∙ none) g

-- ---- more sets are opened

-- what is known where more sets are opened
pub record Opens {S : Type 0} (world : Option World) (names : List (List ℕ)) (workers wanted : ℕ) (lengths : List ℕ) (count added : ℕ) (sets : List (Vec S Global)) : Type 0 where
  pub some : 0 < workers
  pub there : There world names
  pub have : HaveLengths lengths (told_files world names)
  pub is : count ≡ count_for (length names) workers wanted lengths
  pub long : length sets ≡ 1 + added
  pub files : files_in sets ≡ length names * length sets

files_added : (k files long added : ℕ) → files ≡ k * long → long ≡ 1 + added → files ≡ k + k * added
files_added k files long added f e = f ∙ ap (λ n. k * n) e ∙ mul_next k added

opens_count : (w : World) (names : List (List ℕ)) (workers wanted : ℕ) (lengths : List ℕ) (count : ℕ) → found_before w names ≡ length names
    → HaveLengths lengths (told_files (Some w) names) → count ≡ count_for (length names) workers wanted lengths
    → driver_opens w workers wanted names ≡ length names * count
opens_count w names workers wanted lengths count there have e =
    count_opens w names workers wanted lengths (all_there w names lengths there have) ∙ ap (λ n. length names * n) (sym e)

whole_within : (k count n workers wanted : ℕ) (lengths : List ℕ) → 0 < workers → count ≡ count_for k workers wanted lengths → n ≤ k * (count - 1) → k + n ≤ k * workers
whole_within k count n workers wanted lengths some e le =
    let all = count_within k workers wanted lengths some in
    let same : k * count ≡ k * count_for k workers wanted lengths = ap (λ m. k * m) e in
    let one = mul_count k count (omega arith) in
    omega arith

pub rest_given : {S : Type 0} (world : Option World) (names : List (List ℕ)) (workers wanted : ℕ) (lengths : List ℕ) (count added : ℕ) (d : DriverFiles S) (x : Unit {0}) (a b : InputCounts)
    → Opens world names workers wanted lengths count added d.sets.items → CountsMore (is_some world) (length names) (count - 1) added (Ok x) a b
    → CountsRest world names workers wanted (Ok d) a b
rest_given world names workers wanted lengths count added d x a b o g =
    let files = files_added (length names) (files_in d.sets.items) (length d.sets.items) added o.files o.long in
    let more = length names * added + g.again in
    let within = whole_within (length names) count more workers wanted lengths o.some o.is g.within in
    record {
      more = more;
      again = g.again;
      whole = omega arith;
      within = within;
      told = told world o.there o.have g.all;
      opened = g.opened;
      closed = g.closed;
      misses = missed world g.misses;
      faults = g.faults;
    }
  where
    told : (v : Option World) → There v names → HaveLengths lengths (told_files v names) → MoreBy (is_some v) (count - 1) (Ok x) added g.again
        → IfSome v (λ w. RestJust (driver_opens w workers wanted names) (Ok d) g.again)
    told None there have all = tt
    told (Some w) there have all =
        let files = files_added (length names) (files_in d.sets.items) (length d.sets.items) added o.files o.long in
        let opens = opens_count w names workers wanted lengths count there have o.is in
        let is = o.is in
        let one = mul_count (length names) count (omega arith) in
        let same : length names * added ≡ length names * (count - 1) = ap (λ n. length names * n) all.0 in
        (omega arith, all.1)

    missed : (v : Option World) → MissesMore (is_some v) (Ok x) a.misses b.misses → MissesMore (is_some v) (Ok d) a.misses b.misses
    missed None h = h
    missed (Some w) h = h

-- a fault is the same fault of another answer
other_misses : (S : Type 0) (world : Option World) (fault : PieceFault) (a b c : ℕ) → MissesMore {T = Unit {0}} (is_some world) (Err fault) a b → c ≡ b
    → MissesMore {T = DriverFiles S} (is_some world) (Err fault) a c
other_misses S None ReadFault a b c h e = e ∙ h
other_misses S None NoMemory a b c h e = e ∙ h
other_misses S (Some w) ReadFault a b c h e = e ∙ h
other_misses S (Some w) NoMemory a b c h e = e ∙ h

other_faults : (S : Type 0) (fault : PieceFault) (a b c : ℕ) → FaultsBy {T = Unit {0}} (Err fault) a b → c ≡ b → FaultsBy {T = DriverFiles S} (Err fault) a c
other_faults S ReadFault a b c h e = rw e h
other_faults S NoMemory a b c h e = e ∙ h

pub rest_stopped : {S : Type 0} (world : Option World) (names : List (List ℕ)) (workers wanted : ℕ) (lengths : List ℕ) (count added : ℕ) (sets : List (Vec S Global)) (fault : PieceFault) (failed : ℕ)
    (a b c : InputCounts) → Opens world names workers wanted lengths count added sets → CountsMore {T = Unit {0}} (is_some world) (length names) (count - 1) added (Err fault) a b
    → failed ≡ 0 → ClosesFiles (files_in sets) failed b c → CountsRest {S = S} world names workers wanted (Err fault) a c
rest_stopped {S = S} world names workers wanted lengths count added sets fault failed a b c o g none h =
    let files = files_added (length names) (files_in sets) (length sets) added o.files o.long in
    let more = length names * added + g.again in
    let within = whole_within (length names) count more workers wanted lengths o.some o.is g.within in
    record {
      more = more;
      again = g.again + files_in sets;
      whole = omega arith;
      within = within;
      told = told world o.there o.have;
      opened = h.opened ∙ g.opened;
      closed = rose_then g.again (files_in sets) a.closed b.closed c.closed g.closed h.closed;
      misses = other_misses S world fault a.misses b.misses c.misses g.misses h.misses;
      faults = other_faults S fault a.faults b.faults c.faults g.faults (h.clean none);
    }
  where
    told : (v : Option World) → There v names → HaveLengths lengths (told_files v names) → IfSome v (λ w. g.again + files_in sets ≤ driver_opens w workers wanted names)
    told None there have = tt
    told (Some w) there have =
        let files = files_added (length names) (files_in sets) (length sets) added o.files o.long in
        let opens = opens_count w names workers wanted lengths count there have o.is in
        let is = o.is in
        let one = mul_count (length names) count (omega arith) in
        let within = g.within in
        omega arith

-- ---- what is given

pub driver_is : {S : Type 0} (held : S → Option (List ℕ)) (faults : S → ℕ) (world : Option World) (names : List (List ℕ)) (workers wanted : ℕ) (count added : ℕ) (d : DriverFiles S)
    → HaveLengths d.cut.lengths (told_files world names) → d.cut.size ≡ size_used d.cut.lengths wanted
    → All (λ s. IsSet held faults (told_files world names) s.items) d.sets.items → vec_len d.sets ≡ 1 + added → added ≤ count - 1
    → count ≡ count_for (length names) workers wanted d.cut.lengths → length names * count ≤ most_files → IsDriver held faults world names workers wanted d
driver_is held faults world names workers wanted count added d have size sets long added_few is few =
    let k = length names in
    let told : length (told_files world names) ≡ k = length-map names (told_file world) in
    let files : files_in d.sets.items ≡ k * length d.sets.items = sets_long held faults (told_files world names) d.sets.items sets ∙ ap (λ n. n * length d.sets.items) told in
    let long_is : length d.sets.items ≡ 1 + added = sym d.sets.ok.0 ∙ long in
    let within : k * length d.sets.items ≤ k * count = mul-le k (length d.sets.items) k count (le_refl k) (omega arith) in
    let most : vec_len d.sets ≤ count = omega arith in
    record {
      lengths = have;
      size = size;
      sets = sets;
      some = omega arith;
      most = rw size (subst (λ n. vec_len d.sets ≤ n) is most);
      few = omega arith;
    }

pub told_driver_is : {S : Type 0} (w : World) (names : List (List ℕ)) (workers wanted : ℕ) (count added : ℕ) (d : DriverFiles S) → found_before w names ≡ length names
    → HaveLengths d.cut.lengths (told_files (Some w) names) → d.cut ≡ record { lengths = d.cut.lengths; size = size_used d.cut.lengths wanted } → vec_len d.sets ≡ 1 + added → added ≡ count - 1
    → count ≡ count_for (length names) workers wanted d.cut.lengths → IsToldDriver w names workers wanted d
told_driver_is w names workers wanted count added d there have cut long all is =
    let t = all_there w names d.cut.lengths there have in
    let whole : vec_len d.sets ≡ count = omega arith in
    record {
      files = t.files;
      there = t.there;
      cut = cut ∙ ap (λ ls. record { lengths = ls; size = size_used ls wanted }) t.are;
      sets = whole ∙ is ∙ ap (λ c. seats_of workers (pieces_in_all c) (length names)) (sym cut);
    }

-- ---- as the code has it

lengths_long : (ns : List ℕ) (fs : List (Option (List ℕ))) → HaveLengths ns fs → length ns ≡ length fs
lengths_long [] [] h = refl
lengths_long [] (f ∷ fs) h = absurd h
lengths_long (n ∷ ns) [] h = absurd h
lengths_long (n ∷ ns) (f ∷ fs) h = let rest = lengths_long ns fs h.1 in omega arith

pub few_lengths : (world : Option World) (names : List (List ℕ)) (v : Vec ℕ Global) → HaveLengths v.items (told_files world names) → length names ≤ 64 → vec_len v ≤ 64
few_lengths world names v have few =
    let long = lengths_long v.items (told_files world names) have in
    let told : length (told_files world names) ≡ length names = length-map names (told_file world) in
    let len = v.ok.0 in
    omega arith

pub count_is : (k workers wanted : ℕ) (lengths : List ℕ) (cut : Cutting) (pieces count : ℕ) → cut ≡ record { lengths = lengths; size = size_used lengths wanted }
    → pieces ≡ pieces_of cut.size cut.lengths → count ≡ seats_of workers pieces k → count ≡ count_for k workers wanted lengths
count_is k workers wanted lengths cut pieces count e p c = c ∙ ap (λ n. seats_of workers n k) (p ∙ ap pieces_in_all e)

pub opens_known : {S : Type 0} (held : S → Option (List ℕ)) (faults : S → ℕ) (world : Option World) (names : List (List ℕ)) (workers wanted : ℕ) (lengths : List ℕ) (count added : ℕ)
    (sets : Vec (Vec S Global) Global) → 0 < workers → There world names → HaveLengths lengths (told_files world names) → count ≡ count_for (length names) workers wanted lengths
    → vec_len sets ≡ 1 + added → All (λ s. IsSet held faults (told_files world names) s.items) sets.items → Opens world names workers wanted lengths count added sets.items
opens_known held faults world names workers wanted lengths count added sets some there have is long all =
    let told : length (told_files world names) ≡ length names = length-map names (told_file world) in
    record {
      some = some;
      there = there;
      have = have;
      is = is;
      long = sym sets.ok.0 ∙ long;
      files = sets_long held faults (told_files world names) sets.items all ∙ ap (λ n. n * length sets.items) told;
    }

pub begun_long : {X : Type 0} (v : Vec X Global) (first : X) (n added : ℕ) → v.items ≡ first ∷ [] → n ≡ vec_len v + added → n ≡ 1 + added
begun_long v first n added e h =
    let one : vec_len v ≡ length (first ∷ []) = v.ok.0 ∙ ap length e in
    omega arith

-- how an input is cut whose files have these lengths
abbrev pub cut_as : List ℕ → ℕ → Cutting
cut_as lengths wanted = record { lengths = lengths; size = size_used lengths wanted }

count_cut : (k workers wanted : ℕ) (cut : Cutting) (pieces count : ℕ) → cut ≡ cut_as cut.lengths wanted → pieces ≡ pieces_of cut.size cut.lengths → count ≡ seats_of workers pieces k
    → count ≡ count_for k workers wanted cut.lengths
count_cut k workers wanted cut pieces count e p c = count_is k workers wanted cut.lengths cut pieces count e p c

cut_own : (lengths : List ℕ) (wanted : ℕ) (cut : Cutting) → cut ≡ cut_as lengths wanted → cut ≡ cut_as cut.lengths wanted
cut_own lengths wanted cut e = subst (λ (k : Cutting). k ≡ cut_as k.lengths wanted) (sym e) refl

pub driver_from : {S : Type 0} (held : S → Option (List ℕ)) (faults : S → ℕ) (world : Option World) (names : List (List ℕ)) (workers wanted : ℕ) (lengths : List ℕ) (cut : Cutting)
    (pieces count added : ℕ) (sets : Vec (Vec S Global) Global) → cut ≡ cut_as lengths wanted → pieces ≡ pieces_of cut.size cut.lengths
    → count ≡ seats_of workers pieces (length names) → length names * count ≤ most_files → HaveLengths lengths (told_files world names)
    → All (λ s. IsSet held faults (told_files world names) s.items) sets.items → vec_len sets ≡ 1 + added → added ≤ count - 1
    → IsDriver held faults world names workers wanted (record { cut = cut; sets = sets })
driver_from held faults world names workers wanted lengths cut pieces count added sets e p c most have all long few =
    driver_is held faults world names workers wanted count added (record { cut = cut; sets = sets })
    (subst (λ (k : Cutting). HaveLengths k.lengths (told_files world names)) (sym e) have)
    (subst (λ (k : Cutting). k.size ≡ size_used k.lengths wanted) (sym e) refl)
    all long few (count_cut (length names) workers wanted cut pieces count (cut_own lengths wanted cut e) p c) most

pub told_from_cut : {S : Type 0} (world : Option World) (names : List (List ℕ)) (workers wanted : ℕ) (lengths : List ℕ) (cut : Cutting)
    (pieces count added : ℕ) (sets : Vec (Vec S Global) Global) (x : Unit {0}) (a b : InputCounts) → There world names → cut ≡ cut_as lengths wanted → pieces ≡ pieces_of cut.size cut.lengths
    → count ≡ seats_of workers pieces (length names) → HaveLengths lengths (told_files world names) → vec_len sets ≡ 1 + added
    → CountsMore (is_some world) (length names) (count - 1) added (Ok x) a b
    → IfSome world (λ w. IsToldDriver w names workers wanted (record { cut = cut; sets = sets }))
told_from_cut None names workers wanted lengths cut pieces count added sets x a b there e p c have long g = tt
told_from_cut (Some w) names workers wanted lengths cut pieces count added sets x a b there e p c have long g =
    let own = cut_own lengths wanted cut e in
    let all = g.all in
    told_driver_is w names workers wanted count added (record { cut = cut; sets = sets }) there
    (subst (λ (k : Cutting). HaveLengths k.lengths (told_files (Some w) names)) (sym e) have)
    own long all.0 (count_cut (length names) workers wanted cut pieces count own p c)

-- a list that is written over whole
pub refilled : {S : Type 0} (n : ℕ) (xs ws : List S) → length ws ≡ n → take n (ws ++ drop (length ws) xs) ≡ ws
refilled n xs ws e = subst (λ m. take m (ws ++ drop (length ws) xs) ≡ ws) e (front ws (drop (length ws) xs))
  where
    front : {S : Type 0} (ws rest : List S) → take (length ws) (ws ++ rest) ≡ ws
    front ws rest = grind (arith, common_steps)

-- a set whose files were asked for their lengths is the same set
pub set_again : {S : Type 0} (held : S → Option (List ℕ)) (faults : S → ℕ) (told : List (Option (List ℕ))) (first : Vec S Global) (files : List S) → IsSet held faults told first.items
    → map held files ≡ map held first.items → failures faults files ≡ failures faults first.items
    → IsSet held faults told (take (vec_len first) (files ++ drop (length files) first.items))
set_again held faults told first files h same calm =
    let long : length files ≡ vec_len first = as_long held files first.items same ∙ sym first.ok.0 in
    rw (refilled (vec_len first) first.items files long) (record {
      tells = same ∙ h.tells;
      calm = all_calm faults files (calm ∙ no_failures faults first.items h.calm);
    })
