-- Which file a piece is of.
use Rattle.std.proofs.Common.{◌≡◌, ◌≤◌, ◌<◌, ◌+◌, ◌-◌, ℕ, suc, List, [], ◌∷◌, Bool, true, false, Option, None, length, get_or, IfSome, refl, ap, arith, nat_lt, add-one, zero, drop, drop-cons}
use Rattle.std.proofs.lemmas.Bool.Decides.{nat_tests}
use Rattle.std.proofs.lemmas.List.Sums.{sum_by-cons}
use Rattle.line_pieces.specs.Cuts.{pieces_in, pieces_of, place_of, HaveLengths}

-- a piece of the first file
pub place_first : (size n : ℕ) (ns : List ℕ) (p : ℕ) → p < pieces_in size n
    → place_of size (n ∷ ns) p ≡ (0, p)
place_first size n ns p h =
    let test : nat_lt p (pieces_in size n) ≡ true = grind (arith, nat_tests) in
    rw test refl

-- a piece of another file
pub place_later : (size n : ℕ) (ns : List ℕ) (p : ℕ) → pieces_in size n ≤ p
    → place_of size (n ∷ ns) p
    ≡ ((place_of size ns (p - pieces_in size n)).0 + 1, (place_of size ns (p - pieces_in size n)).1)
place_later size n ns p h =
    let test : nat_lt p (pieces_in size n) ≡ false = grind (arith, nat_tests) in
    rw test refl

-- the place is one of a file's pieces
pub record IsPlace (size : ℕ) (ns : List ℕ) (at which : ℕ) : Type 0 where
  pub file : at < length ns
  pub number : which < pieces_in size (get_or ns at 0)

pub place_is : (size : ℕ) (ns : List ℕ) (p : ℕ) → p < pieces_of size ns
    → IsPlace size ns (place_of size ns p).0 (place_of size ns p).1
place_is size [] p h = absurd (omega (arith, h))
place_is size (n ∷ ns) p h = by (nat_lt p (pieces_in size n)) refl (place_is size ns (p - pieces_in size n))
  where
    by : (t : Bool) → nat_lt p (pieces_in size n) ≡ t
        → (p - pieces_in size n < pieces_of size ns → IsPlace size ns (place_of size ns (p - pieces_in size n)).0 (place_of size ns (p - pieces_in size n)).1)
        → IsPlace size (n ∷ ns) (place_of size (n ∷ ns) p).0 (place_of size (n ∷ ns) p).1
    by true e later = rw e (record { file = omega arith; number = grind (arith, nat_tests) })
    by false e later =
        let high : pieces_in size n ≤ p = grind (arith, nat_tests) in
        let whole : pieces_of size (n ∷ ns) ≡ pieces_in size n + pieces_of size ns = sum_by-cons (pieces_in size) n ns in
        let rest = later (omega (arith, h, whole, high)) in
        let first = rest.file in
        rw (e, add-one) (record { file = omega arith; number = rest.number })

-- the file of a place that tells its bytes has the length that is known of it
pub length_at : (ns : List ℕ) (files : List (Option (List ℕ))) (i : ℕ) → HaveLengths ns files
    → IfSome (get_or files i None) (λ b. get_or ns i 0 ≡ length b)
length_at [] [] i h = tt
length_at [] (f ∷ fs) i h = absurd h
length_at (n ∷ ns) [] i h = absurd h
length_at (n ∷ ns) (f ∷ fs) zero h = h.0
length_at (n ∷ ns) (f ∷ fs) (suc i) h = length_at ns fs i h.1

pub same_number : (ns : List ℕ) (files : List (Option (List ℕ))) → HaveLengths ns files
    → length files ≡ length ns
same_number [] [] h = refl
same_number [] (f ∷ fs) h = absurd h
same_number (n ∷ ns) [] h = absurd h
same_number (n ∷ ns) (f ∷ fs) h = ap suc (same_number ns fs h.1)

-- the place of a piece that is this many behind the first one of the file at this position
abbrev pub place_from : ℕ → List ℕ → ℕ → ℕ → ℕ × ℕ
place_from size ns i left =
    (i + (place_of size (drop i ns) left).0, (place_of size (drop i ns) left).1)

pub place_here : (size : ℕ) (ns : List ℕ) (i left : ℕ) → i < length ns
    → left < pieces_in size (get_or ns i 0) → place_from size ns i left ≡ (i, left)
place_here size ns i left h low =
    rw (drop-cons ns i 0, place_first size (get_or ns i 0) (drop (suc i) ns) left low) (ap (λ (k : ℕ). (k, left)) (omega arith))

abbrev place_at : ℕ → ℕ × ℕ → ℕ × ℕ
place_at i p = (i + p.0, p.1)

further : (i : ℕ) (p : ℕ × ℕ) → place_at i (place_at 1 p) ≡ place_at (i + 1) p
further i p =
    let same : i + (1 + p.0) ≡ (i + 1) + p.0 = omega arith in
    rw same refl

pub place_further : (size : ℕ) (ns : List ℕ) (i left : ℕ) → i < length ns
    → pieces_in size (get_or ns i 0) ≤ left
    → place_from size ns i left ≡ place_from size ns (i + 1) (left - pieces_in size (get_or ns i 0))
place_further size ns i left h high =
    let next : suc i ≡ i + 1 = omega arith in
    let swap : (place_of size (drop (i + 1) ns) (left - pieces_in size (get_or ns i 0))).0 + 1
    ≡ 1 + (place_of size (drop (i + 1) ns) (left - pieces_in size (get_or ns i 0))).0 = omega arith in
    rw (drop-cons ns i 0, place_later size (get_or ns i 0) (drop (suc i) ns) left high, next, swap)
    (further i (place_of size (drop (i + 1) ns) (left - pieces_in size (get_or ns i 0))))
