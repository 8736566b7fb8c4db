-- The lengths of files, file after file.
use Rattle.std.proofs.Common.{◌≡◌, ◌<◌, ◌+◌, ◌++◌, inl, inr, ℕ, suc, List, [], ◌∷◌, length, take, map, get_or, set, Option, sym, ap, ◌∙◌, subst, arith}
use Rattle.std.specs.Prelude.{All, IfSome}
use Rattle.std.proofs.Math.Seq.{take-suc, map-set_same}
use Rattle.std.proofs.lemmas.List.{get_or-map, length-map}
use Rattle.std.proofs.lemmas.List.Sums.{sum_by-set, get_or-le-sum_by}
use Rattle.outside.specs.Counted.{Rose}
use Rattle.line_pieces.specs.Cuts.{HaveLengths}
use Rattle.driver_files.specs.Driver.{failures}

-- one file takes the place of another that tells the same
pub same_told : {S : Type 0} (held : S → Option (List ℕ)) (files start : List S) (i : ℕ) (d new : S) → held new ≡ held (get_or files i d)
    → map held files ≡ map held start → map held (set files i new) ≡ map held start
same_told held files start i d new same all = map-set_same held files i new d same ∙ all

pub same_failures : {S : Type 0} (faults : S → ℕ) (files start : List S) (i : ℕ) (d new : S) → i < length files → faults new ≡ faults (get_or files i d)
    → failures faults files ≡ failures faults start → failures faults (set files i new) ≡ failures faults start
same_failures faults files start i d new lt same all = let moved = sum_by-set faults files i new d lt in omega arith

pub failures_rose : {S : Type 0} (faults : S → ℕ) (files start : List S) (i : ℕ) (d new : S) → i < length files → Rose (faults (get_or files i d)) (faults new)
    → failures faults files ≡ failures faults start → Rose (failures faults start) (failures faults (set files i new))
failures_rose faults files start i d new lt (inl rose) all = let moved = sum_by-set faults files i new d lt in inl (omega arith)
failures_rose faults files start i d new lt (inr full) all =
    let moved = sum_by-set faults files i new d lt in
    let part = get_or-le-sum_by faults files i d lt in
    inr (omega arith)

lengths_push : (ns : List ℕ) (fs : List (Option (List ℕ))) (n : ℕ) (f : Option (List ℕ)) → HaveLengths ns fs → IfSome f (λ b. n ≡ length b) → HaveLengths (ns ++ n ∷ []) (fs ++ f ∷ [])
lengths_push [] [] n f h e = (e, tt)
lengths_push [] (g ∷ fs) n f h e = absurd h
lengths_push (m ∷ ns) [] n f h e = absurd h
lengths_push (m ∷ ns) (g ∷ fs) n f h e = (h.0, lengths_push ns fs n f h.1 e)

next_told : {S : Type 0} (held : S → Option (List ℕ)) (now : List S) (i : ℕ) (d : S) → i < length now
    → take (i + 1) (map held now) ≡ take i (map held now) ++ held (get_or now i d) ∷ []
next_told held now i d lt =
    let one : i + 1 ≡ suc i = omega arith in
    let long : i < length (map held now) = omega (arith, length-map now held) in
    ap (λ k. take k (map held now)) one ∙ take-suc (map held now) i (held d) long
    ∙ ap (λ h. take i (map held now) ++ h ∷ []) (get_or-map held now i d (held d) lt)

pub lengths_next : {S : Type 0} (held : S → Option (List ℕ)) (start now : List S) (i : ℕ) (d : S) (ns after : List ℕ) (n : ℕ) → i < length now
    → map held now ≡ map held start → after ≡ ns ++ n ∷ [] → HaveLengths ns (take i (map held start)) → IfSome (held (get_or now i d)) (λ b. n ≡ length b)
    → HaveLengths after (take (i + 1) (map held start))
lengths_next held start now i d ns after n lt same pushed h e =
    rw pushed (subst (λ fs. HaveLengths (ns ++ n ∷ []) (take (i + 1) fs)) same
    (rw (next_told held now i d lt) (lengths_push ns (take i (map held now)) n (held (get_or now i d)) (rw same h) e)))

-- lists that tell the same are of one length
pub as_long : {A B : Type 0} (f : A → B) (xs ys : List A) → map f xs ≡ map f ys → length xs ≡ length ys
as_long f xs ys e = sym (length-map xs f) ∙ ap length e ∙ length-map ys f

-- files have no faults where their sum is none
pub all_calm : {S : Type 0} (faults : S → ℕ) (files : List S) → failures faults files ≡ 0 → All (λ f. faults f ≡ 0) files
all_calm faults files none k d lt = let part = get_or-le-sum_by faults files k d lt in omega arith
