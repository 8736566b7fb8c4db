-- One file among others.
use Rattle.std.proofs.Common.{◌≡◌, ◌≤◌, ◌<◌, ℕ, zero, suc, List, [], ◌∷◌, length, map, get_or, set, Option, None, IfSome, refl, sym, ap, subst₂, arith, le_refl, Ok, Err, Result}
use Rattle.outside.specs.Counted.{Rose}
use Rattle.line_pieces.specs.declared.fault.PieceFault.{PieceFault}
use Rattle.line_pieces.specs.declared.fault.PieceFault.TheVariants.{ReadFault, NoMemory}
use Rattle.line_pieces.specs.Cuts.{HaveLengths}
use Rattle.line_pieces.specs.Faults.{CausedBy, CausedByFile, NoneFalls}
use Rattle.line_pieces.proofs.Places.{length_at}

-- what is told of each file stays where that of the one file stays
pub same_of : {A B : Type 0} (f : A → B) (files : List A) (i : ℕ) (d after : A) → i < length files
    → f after ≡ f (get_or files i d) → map f (set files i after) ≡ map f files
same_of f [] i d after h e = absurd (omega arith)
same_of {B = B} f (x ∷ files) zero d after h e = ap (λ (y : B). y ∷ map f files) e
same_of {B = B} f (x ∷ files) (suc i) d after h e =
    ap (λ (ys : List B). f x ∷ ys) (same_of f files i d after (omega arith) e)

-- no count falls where that of the one file does not
pub none_falls : {A : Type 0} (f : A → ℕ) (files : List A) (i : ℕ) (d after : A) → i < length files
    → f (get_or files i d) ≤ f after → NoneFalls (map f files) (map f (set files i after))
none_falls f [] i d after h e = absurd (omega arith)
none_falls f (x ∷ files) zero d after h e = λ k. by k
  where
    by : (k : ℕ) → get_or (f x ∷ map f files) k 0 ≤ get_or (f after ∷ map f files) k 0
    by zero = e
    by (suc k) = le_refl _
none_falls f (x ∷ files) (suc i) d after h e = λ k. by k (none_falls f files i d after (omega arith) e)
  where
    by : (k : ℕ) → NoneFalls (map f files) (map f (set files i after))
        → get_or (f x ∷ map f files) k 0 ≤ get_or (f x ∷ map f (set files i after)) k 0
    by zero rest = le_refl _
    by (suc k) rest = rest k

told_of : {A B : Type 0} (f : A → B) (files : List A) (i : ℕ) (d : A) (e : B) → i < length files
    → get_or (map f files) i e ≡ f (get_or files i d)
told_of f [] i d e h = absurd (omega arith)
told_of f (x ∷ files) zero d e h = refl
told_of f (x ∷ files) (suc i) d e h = told_of f files i d e (omega arith)

told_after : {A B : Type 0} (f : A → B) (files : List A) (i : ℕ) (after : A) (e : B) → i < length files
    → get_or (map f (set files i after)) i e ≡ f after
told_after f [] i after e h = absurd (omega arith)
told_after f (x ∷ files) zero after e h = refl
told_after f (x ∷ files) (suc i) after e h = told_after f files i after e (omega arith)

-- the cause of a fault among all files is that of the one file
caused_among : {A T : Type 0} (f : A → ℕ) (files : List A) (i : ℕ) (d after : A)
    (r : Result T PieceFault) → i < length files
    → CausedBy r (f (get_or files i d)) (f after) → CausedByFile r i (map f files) (map f (set files i after))
caused_among f files i d after (Ok x) h e = same_of f files i d after h e
caused_among f files i d after (Err ReadFault) h e =
    subst₂ Rose (sym (told_of f files i d 0 h)) (sym (told_after f files i after 0 h)) e
caused_among f files i d after (Err NoMemory) h e = tt

-- the same, where the file's position is known by another name
pub caused_at : {A T : Type 0} (f : A → ℕ) (files : List A) (i k : ℕ) (d after : A)
    (r : Result T PieceFault) → i ≡ k → i < length files
    → CausedBy r (f (get_or files i d)) (f after) → CausedByFile r k (map f files) (map f (set files i after))
caused_at f files i k d after r same h e = rw (sym same) (caused_among f files i d after r h e)

-- a file has the length that is known of it
pub length_of : {A : Type 0} (f : A → Option (List ℕ)) (ns : List ℕ) (files : List A) (i k : ℕ) (d : A)
    → i ≡ k → i < length files → HaveLengths ns (map f files)
    → IfSome (f (get_or files i d)) (λ b. get_or ns k 0 ≡ length b)
length_of f ns files i k d same h has =
    rw (sym (told_of f files i d None h), sym same) (length_at ns (map f files) i has)
