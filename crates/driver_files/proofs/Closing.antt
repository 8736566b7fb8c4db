-- What closing files leaves of the counts, file after file.
use Rattle.std.proofs.Common.{◌≡◌, ◌<◌, ◌≤◌, ◌+◌, ◌-◌, ◌^◌, inl, inr, ℕ, zero, suc, List, [], ◌∷◌, length, refl, sym, ap, ◌∙◌, subst, arith}
use Rattle.std.specs.Prelude.{Vec, vec_len, All}
use Rattle.std.specs.declared.alloc.Global.{Global}
use Rattle.std.proofs.lemmas.List.Elements.{All-head, All-tail}
use Rattle.std.proofs.lemmas.List.Sums.{sum_by-cons}
use Rattle.outside.specs.Counted.{Rose, RoseByOne}
use Rattle.outside.specs.Opens.{InputCounts, CountsClose}
use Rattle.driver_files.specs.Counts.{counted_up, RoseBy, ClosesFiles}
use Rattle.driver_files.specs.Driver.{failures, failures_in, files_in}

-- counting up twice is counting up by the sum
pub counted_more : (m n c : ℕ) → counted_up n (counted_up m c) ≡ counted_up (m + n) c
counted_more m n c = omega arith

pub counted_none : (c : ℕ) → counted_up 0 c ≡ c
counted_none c = omega arith

pub rose_then : (m n a b c : ℕ) → RoseBy m a b → RoseBy n b c → RoseBy (m + n) a c
rose_then m n a b c p q = q ∙ ap (counted_up n) p ∙ counted_more m n a

pub rose_none : (a b : ℕ) → b ≡ a → RoseBy 0 a b
rose_none a b e = e ∙ sym (counted_none a)

pub rose_late : (n a b c : ℕ) → RoseBy 0 a b → RoseBy n b c → RoseBy n a c
rose_late n a b c p q = q ∙ ap (counted_up n) (p ∙ counted_none a)

pub rose_once : (a b : ℕ) → RoseByOne a b → RoseBy 1 a b
rose_once a b (inl h) = let low = h.0 in let one = h.1 in omega arith
rose_once a b (inr h) = let high = h.0 in let same = h.1 in omega arith

-- a count that rose has risen later on too
pub rose_on : (a b c : ℕ) → Rose a b → b ≤ c → Rose a c
rose_on a b c (inl h) le = inl (omega arith)
rose_on a b c (inr h) le = inr (omega arith)

pub closes_one : (failed : ℕ) (a b : InputCounts) → CountsClose failed a b → ClosesFiles 1 failed a b
closes_one failed a b h = record {
  carried = h.carried;
  clean = h.clean;
  rises = h.rises;
  full = h.full;
  closed = rose_once a.closed b.closed h.closed;
  opened = h.opened;
  misses = h.misses;
}

pub closes_none : (a : InputCounts) → ClosesFiles 0 0 a a
closes_none a = record {
  carried = λ h. absurd (omega arith);
  clean = λ h. refl;
  rises = omega arith;
  full = λ h. refl;
  closed = rose_none a.closed a.closed refl;
  opened = refl;
  misses = refl;
}

carried_then : (f g a b c : ℕ) → (0 < f → Rose a b) → (f ≡ 0 → b ≡ a) → b ≤ c → (0 < g → Rose b c) → 0 < f + g → Rose a c
carried_then zero g a b c p e le q h = rw (sym (e refl)) (q (omega arith))
carried_then (suc f) g a b c p e le q h = rose_on a b c (p (omega arith)) le

pub closes_then : (m n f g : ℕ) (a b c : InputCounts) → ClosesFiles m f a b → ClosesFiles n g b c → ClosesFiles (m + n) (f + g) a c
closes_then m n f g a b c p q = record {
  carried = carried_then f g a.faults b.faults c.faults p.carried p.clean q.rises q.carried;
  clean = λ h. let none : f ≡ 0 = omega arith in let never : g ≡ 0 = omega arith in q.clean never ∙ p.clean none;
  rises = let first = p.rises in let second = q.rises in omega arith;
  full = λ h. let first = p.full h in let high : 2 ^ 64 - 1 ≤ b.faults = omega arith in q.full high ∙ first;
  closed = rose_then m n a.closed b.closed c.closed p.closed q.closed;
  opened = q.opened ∙ p.opened;
  misses = q.misses ∙ p.misses;
}

-- of so many files with so many faults, some are closed, and so many are left with their faults
pub record Closing (count failed left owed : ℕ) (before after : InputCounts) : Type 0 where
  pub done : ℕ
  pub lost : ℕ
  pub all : done + left ≡ count
  pub faults : lost + owed ≡ failed
  pub closes : ClosesFiles done lost before after

pub closing_begins : (count failed : ℕ) (a : InputCounts) → Closing count failed count failed a a
closing_begins count failed a = record {
  done = 0;
  lost = 0;
  all = omega arith;
  faults = omega arith;
  closes = closes_none a;
}

pub closing_next : (count failed left owed n f more rest : ℕ) (a b c : InputCounts) → Closing count failed left owed a b → ClosesFiles n f b c
    → n + more ≡ left → f + rest ≡ owed → Closing count failed more rest a c
closing_next count failed left owed n f more rest a b c h g e d = record {
  done = h.done + n;
  lost = h.lost + f;
  all = let all = h.all in omega arith;
  faults = let faults = h.faults in omega arith;
  closes = closes_then h.done n h.lost f a b c h.closes g;
}

pub closing_ends : (count failed : ℕ) (a b : InputCounts) → Closing count failed 0 0 a b → ClosesFiles count failed a b
closing_ends count failed a b h =
    let all : h.done ≡ count = let all = h.all in omega arith in
    let faults : h.lost ≡ failed = let faults = h.faults in omega arith in
    subst (λ n. ClosesFiles n failed a b) all (subst (λ f. ClosesFiles h.done f a b) faults h.closes)

-- ---- over the files of a set, and over sets

pub files_begin : {S : Type 0} (faults : S → ℕ) (files : Vec S Global) (rest : List S) (a : InputCounts) → rest ≡ files.items
    → Closing (vec_len files) (failures faults files.items) (length rest) (failures faults rest) a a
files_begin faults files rest a e =
    rw e (subst (λ n. Closing (vec_len files) (failures faults files.items) n (failures faults files.items) a a) files.ok.0
    (closing_begins (vec_len files) (failures faults files.items) a))

pub file_next : {S : Type 0} (faults : S → ℕ) (count failed : ℕ) (file : S) (now later : List S) (a b c : InputCounts) → now ≡ file ∷ later
    → Closing count failed (length now) (failures faults now) a b → CountsClose (faults file) b c → Closing count failed (length later) (failures faults later) a c
file_next faults count failed file now later a b c e h g =
    let k : length now ≡ length (file ∷ later) = ap length e in
    closing_next count failed (length now) (failures faults now) 1 (faults file) (length later) (failures faults later) a b c h
    (closes_one (faults file) b c g) (omega arith) (sym (ap (failures faults) e ∙ sum_by-cons faults file later))

pub set_next : {S : Type 0} (faults : S → ℕ) (count failed : ℕ) (files : Vec S Global) (now later : List (Vec S Global)) (a b c : InputCounts) → now ≡ files ∷ later
    → Closing count failed (files_in now) (failures_in faults now) a b → ClosesFiles (vec_len files) (failures faults files.items) b c
    → Closing count failed (files_in later) (failures_in faults later) a c
set_next {S = S} faults count failed files now later a b c e h g =
    closing_next count failed (files_in now) (failures_in faults now) (vec_len files) (failures faults files.items) (files_in later) (failures_in faults later) a b c h g
    (sym (ap files_in e ∙ sum_by-cons vec_len files later))
    (sym (ap (failures_in faults) e ∙ sum_by-cons (λ (s : Vec S Global). failures faults s.items) files later))

-- files on which no call has failed have no faults
pub no_failures : {S : Type 0} (faults : S → ℕ) (files : List S) → All (λ f. faults f ≡ 0) files → failures faults files ≡ 0
no_failures faults [] h = refl
no_failures faults (f ∷ files) h =
    let first : faults f ≡ 0 = All-head (λ x. faults x ≡ 0) f files h in
    let rest : failures faults files ≡ 0 = no_failures faults files (All-tail (λ x. faults x ≡ 0) f files h) in
    let all = sum_by-cons faults f files in
    omega arith
