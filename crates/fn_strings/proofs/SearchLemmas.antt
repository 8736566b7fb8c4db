-- The first place of a text in another, in characters and in bytes.
use Rattle.std.proofs.Common.{◌≡◌, ◌⊎◌, inl, inr, ◌<◌, ◌≤◌, ℕ, zero, suc, ◌+◌, ◌-◌, nat_eq, true, false, List, [], ◌∷◌, ◌++◌, length, take, drop, get_or, Some, None, option_map, refl, sym, ap, subst, ◌∙◌, arith}
use Rattle.std.specs.Str.{chars, encode_utf8_all, IsUtf8, IsCharBoundary}
use Rattle.std.specs.List.{starts_with, ends_with}
use Rattle.std.proofs.lemmas.Bool.{cases_Bool}
use Rattle.std.proofs.lemmas.Bool.Decides.{Decides-eqb, same_from_decides}
use Rattle.std.proofs.lemmas.List.{append_assoc, take_at, drop_at, take-append-le, take-append-drop, length-append, length-take-le, length-drop, get_or_append_left}
use Rattle.std.proofs.lemmas.List.Prefix.{at_from_reads, at_reads}
use Rattle.std.proofs.lemmas.Slice.Eq.{starts_is, ends_is}
use Rattle.std.proofs.lemmas.Str.{encodes-chars, encodes-append, chars-append, length-le-encodes, IsUtf8-take, IsUtf8-drop, IsCharBoundary-start, IsCharBoundary-at_seam}
use Rattle.memchr.specs.Find.{OccursAt, FindsNeedle}
use Rattle.value_rules.specs.Strings.{first_place}
use Rattle.fn_strings.specs.inside.Around.{IsAround}
use Rattle.fn_strings.proofs.Cuts.{cut_is, behind_text}

-- ---- beginnings and ends

begins_is : (s p : List ℕ) → (starts_with nat_eq s p ≡ true → s ≡ p ++ drop (length p) s) × ((rest : List ℕ) → s ≡ p ++ rest → starts_with nat_eq s p ≡ true)
begins_is s p = starts_is Decides-eqb s p (starts_with nat_eq s p) refl

ends_so : (s p : List ℕ) → (ends_with nat_eq s p ≡ true → s ≡ take (length s - length p) s ++ p) × ((front : List ℕ) → s ≡ front ++ p → ends_with nat_eq s p ≡ true)
ends_so s p = ends_is Decides-eqb s p (ends_with nat_eq s p) refl

abbrev Begins : List ℕ → List ℕ → Type 0
Begins s p = (rest : List ℕ) × (s ≡ p ++ rest)

abbrev Ends : List ℕ → List ℕ → Type 0
Ends s p = (front : List ℕ) × (s ≡ front ++ p)

-- a text begins with another in bytes where it does in characters
pub same_begin : (bs nb : List ℕ) → IsUtf8 bs → IsUtf8 nb → starts_with nat_eq bs nb ≡ starts_with nat_eq (chars bs) (chars nb)
same_begin bs nb u v = same_from_decides (starts_with nat_eq bs nb) (starts_with nat_eq (chars bs) (chars nb)) (there, back) (here, again)
  where
    there : starts_with nat_eq bs nb ≡ true → Begins (chars bs) (chars nb)
    there h =
        let rest = drop (length nb) bs in
        let e = (begins_is bs nb).0 h in
        (chars rest, ap chars e ∙ chars-append nb rest v)

    back : Begins (chars bs) (chars nb) → starts_with nat_eq bs nb ≡ true
    back h =
        (begins_is bs nb).1 (encode_utf8_all h.0)
        ((cut_is bs (chars nb) h.0 u h.1).bytes ∙ ap (λ t. t ++ encode_utf8_all h.0) (encodes-chars nb v))

    here : starts_with nat_eq (chars bs) (chars nb) ≡ true → Begins (chars bs) (chars nb)
    here h = (drop (length (chars nb)) (chars bs), (begins_is (chars bs) (chars nb)).0 h)

    again : Begins (chars bs) (chars nb) → starts_with nat_eq (chars bs) (chars nb) ≡ true
    again h = (begins_is (chars bs) (chars nb)).1 h.0 h.1

pub same_end : (bs nb : List ℕ) → IsUtf8 bs → IsUtf8 nb → ends_with nat_eq bs nb ≡ ends_with nat_eq (chars bs) (chars nb)
same_end bs nb u v = same_from_decides (ends_with nat_eq bs nb) (ends_with nat_eq (chars bs) (chars nb)) (there, back) (here, again)
  where
    there : ends_with nat_eq bs nb ≡ true → Ends (chars bs) (chars nb)
    there h =
        let n = length bs - length nb in
        let e = (ends_so bs nb).0 h in
        let b = IsCharBoundary-at_seam bs (take n bs) nb e v in
        let front = IsUtf8-take bs (length (take n bs)) u b in
        let same = take_at (take n bs) nb (length (take n bs)) refl in
        let w = subst IsUtf8 (ap (take (length (take n bs))) e ∙ same) front in
        (chars (take n bs), ap chars e ∙ chars-append (take n bs) nb w)

    back : Ends (chars bs) (chars nb) → ends_with nat_eq bs nb ≡ true
    back h =
        (ends_so bs nb).1 (encode_utf8_all h.0)
        ((cut_is bs h.0 (chars nb) u h.1).bytes ∙ ap (λ t. encode_utf8_all h.0 ++ t) (encodes-chars nb v))

    here : ends_with nat_eq (chars bs) (chars nb) ≡ true → Ends (chars bs) (chars nb)
    here h = (take (length (chars bs) - length (chars nb)) (chars bs), (ends_so (chars bs) (chars nb)).0 h)

    again : Ends (chars bs) (chars nb) → ends_with nat_eq (chars bs) (chars nb) ≡ true
    again h = (ends_so (chars bs) (chars nb)).1 h.0 h.1

-- ---- the first place in characters

first_here : (u t : List ℕ) → starts_with nat_eq t u ≡ true → first_place u t ≡ Some 0
first_here u [] h = rw h refl
first_here u (c ∷ t) h = rw h refl

pub first_at : (p u q : List ℕ) → ((k : ℕ) → k < length p → starts_with nat_eq (drop k (p ++ (u ++ q))) u ≡ false) → first_place u (p ++ (u ++ q)) ≡ Some (length p)
first_at [] u q h = first_here u (u ++ q) ((begins_is (u ++ q) u).1 q refl)
first_at (c ∷ p) u q h =
    rw (h 0 (omega arith)) (ap (option_map suc) (first_at p u q (λ k l. h (suc k) (omega arith))))

pub first_none : (u t : List ℕ) → ((k : ℕ) → k ≤ length t → starts_with nat_eq (drop k t) u ≡ false) → first_place u t ≡ None
first_none u [] h = rw (h 0 (omega arith)) refl
first_none u (c ∷ t) h = rw (h 0 (omega arith)) (ap (option_map suc) (first_none u t (λ k l. h (suc k) (omega arith))))

-- ---- places in bytes

-- a place in characters is one in bytes
occurs : (bs nb : List ℕ) (k : ℕ) → IsUtf8 bs → IsUtf8 nb → k ≤ length (chars bs) → starts_with nat_eq (drop k (chars bs)) (chars nb) ≡ true → OccursAt bs nb (length (encode_utf8_all (take k (chars bs))))
occurs bs nb k u v l h =
    let cs = chars bs in
    let rest = drop (length (chars nb)) (drop k cs) in
    let e = (begins_is (drop k cs) (chars nb)).0 h in
    let f = encode_utf8_all (take k cs) in
    let n = length f in
    let cut = cut_is bs (take k cs) (drop k cs) u (sym (take-append-drop k cs)) in
    let back : encode_utf8_all (drop k cs) ≡ nb ++ encode_utf8_all rest =
    ap encode_utf8_all e ∙ encodes-append (chars nb) rest ∙ ap (λ t. t ++ encode_utf8_all rest) (encodes-chars nb v) in
    let at : drop n bs ≡ nb ++ encode_utf8_all rest = ap (drop n) cut.bytes ∙ drop_at f (encode_utf8_all (drop k cs)) n refl ∙ back in
    record {
      fits = omega (arith, ap length cut.bytes, length-append f (encode_utf8_all (drop k cs)), ap length back, length-append nb (encode_utf8_all rest));
      reads = λ j m. at_reads 0 bs nb n (encode_utf8_all rest) at j m;
    }

-- fewer characters take fewer bytes
shorter : (p r : List ℕ) (k : ℕ) → k < length p → length (encode_utf8_all (take k (p ++ r))) < length (encode_utf8_all p)
shorter p r k l =
    let some = length-le-encodes (drop k p) in
    let e : length (encode_utf8_all p) ≡ length (encode_utf8_all (take k p)) + length (encode_utf8_all (drop k p)) =
    ap (λ t. length (encode_utf8_all t)) (sym (take-append-drop k p)) ∙ ap length (encodes-append (take k p) (drop k p)) ∙ length-append (encode_utf8_all (take k p)) (encode_utf8_all (drop k p)) in
    let same = ap (λ t. length (encode_utf8_all t)) (take-append-le k p r (omega arith)) in
    omega (arith, length-drop k p)

at_most : (cs : List ℕ) (k : ℕ) → length (encode_utf8_all (take k cs)) ≤ length (encode_utf8_all cs)
at_most cs k =
    let e = ap (λ t. length (encode_utf8_all t)) (sym (take-append-drop k cs)) ∙ ap length (encodes-append (take k cs) (drop k cs)) ∙ length-append (encode_utf8_all (take k cs)) (encode_utf8_all (drop k cs)) in
    omega arith

pub none_found : (bs nb : List ℕ) → IsUtf8 bs → IsUtf8 nb → FindsNeedle bs nb 0 None → first_place (chars nb) (chars bs) ≡ None
none_found bs nb u v h = first_none (chars nb) (chars bs) (λ k l. elim (cases_Bool (starts_with nat_eq (drop k (chars bs)) (chars nb))) [
  | inl e ↦ absurd (h (length (encode_utf8_all (take k (chars bs)))) (omega arith) (omega (arith, at_most (chars bs) k, ap length (encodes-chars bs u))) (occurs bs nb k u v l e))
  | inr e ↦ e
])

-- a first place in bytes stands between characters
pub record IsPlace (bs nb : List ℕ) (k : ℕ) : Type 0 where
  pub start : IsCharBoundary bs k
  pub end : IsCharBoundary (drop k bs) (length nb)
  pub around : IsAround (chars nb) (chars bs) (chars (take k bs)) (chars (drop (length nb) (drop k bs)))

-- the first byte of a text that is there is the first of a character
starts_char : (bs nb : List ℕ) (k : ℕ) → IsUtf8 nb → k + length nb ≤ length bs → drop k bs ≡ nb ++ drop (k + length nb) bs → 0 < length nb → IsCharBoundary bs k
starts_char bs nb k v fits e some =
    let front = take k bs in
    let len : length front ≡ k = length-take-le k bs (omega arith) in
    let b = IsCharBoundary-at_seam (front ++ nb) front nb refl v in
    let whole : bs ≡ (front ++ nb) ++ drop (k + length nb) bs = sym (take-append-drop k bs) ∙ ap (λ t. front ++ t) e ∙ sym (append_assoc front nb (drop (k + length nb) bs)) in
    let byte : get_or bs k 0 ≡ get_or (front ++ nb) k 0 = ap (λ t. get_or t k 0) whole ∙ get_or_left (front ++ nb) (drop (k + length nb) bs) k (omega (arith, length-append front nb)) in
    let c = subst (IsCharBoundary (front ++ nb)) len b in
    (omega arith, λ l high. subst (λ x. 192 ≤ x) (sym byte) (c.1 (omega (arith, length-append front nb)) (subst (λ x. 128 ≤ x) byte high)))
  where
    get_or_left : (xs ys : List ℕ) (i : ℕ) → i < length xs → get_or (xs ++ ys) i 0 ≡ get_or xs i 0
    get_or_left xs ys i l = grind (arith, get_or_append_left)

zero_or : (k : ℕ) → (k ≡ 0) ⊎ (0 < k)
zero_or zero = inl refl
zero_or (suc k) = inr (omega arith)

-- the empty text stands at the beginning
empty_first : (bs : List ℕ) (k : ℕ) → FindsNeedle bs [] 0 (Some k) → k ≡ 0
empty_first bs k h = elim (zero_or k) [
  | inl z ↦ z
  | inr l ↦ absurd (h.0.before 0 (omega arith) l (record { fits = omega arith; reads = λ j m. absurd (omega arith) }))
]

place_starts : (bs nb : List ℕ) (k : ℕ) → IsUtf8 bs → IsUtf8 nb → FindsNeedle bs nb 0 (Some k) → IsCharBoundary bs k
place_starts bs [] k u v h = subst (IsCharBoundary bs) (sym (empty_first bs k h)) (IsCharBoundary-start bs u)
place_starts bs (x ∷ xs) k u v h = starts_char bs (x ∷ xs) k v h.1.fits (at_from_reads 0 bs (x ∷ xs) k h.1.fits h.1.reads) (omega arith)

pub place_found : (bs nb : List ℕ) (k : ℕ) → IsUtf8 bs → IsUtf8 nb → FindsNeedle bs nb 0 (Some k) → IsPlace bs nb k
place_found bs nb k u v h =
    let rest = drop (k + length nb) bs in
    let fits : k + length nb ≤ length bs = h.1.fits in
    let at : drop k bs ≡ nb ++ rest = at_from_reads 0 bs nb k h.1.fits h.1.reads in
    let start = place_starts bs nb k u v h in
    let front = IsUtf8-take bs k u start in
    let text = behind_text nb rest v (subst IsUtf8 at (IsUtf8-drop bs k u start)) in
    let p = chars (take k bs) in
    let r = chars nb ++ chars rest in
    let whole : bs ≡ take k bs ++ (nb ++ rest) = sym (take-append-drop k bs) ∙ ap (λ t. take k bs ++ t) at in
    let cs : chars bs ≡ p ++ r = ap chars whole ∙ chars-append (take k bs) (nb ++ rest) front ∙ ap (λ t. p ++ t) (chars-append nb rest v) in
    let len : length (encode_utf8_all p) ≡ k = ap length (encodes-chars (take k bs) front) ∙ length-take-le k bs (omega arith) in
    let none : (j : ℕ) → j < length p → starts_with nat_eq (drop j (p ++ r)) (chars nb) ≡ false =
    λ j l. elim (cases_Bool (starts_with nat_eq (drop j (p ++ r)) (chars nb))) [
      | inl e ↦
          let many : j ≤ length (chars bs) = omega (arith, ap length cs, length-append p r) in
          let place = occurs bs nb j u v many (subst (λ t. starts_with nat_eq (drop j t) (chars nb) ≡ true) (sym cs) e) in
          let less : length (encode_utf8_all (take j (chars bs))) < k = omega (arith, shorter p r j l, ap (λ t. length (encode_utf8_all (take j t))) cs) in
          absurd (h.0.before (length (encode_utf8_all (take j (chars bs)))) (omega arith) less place)
      | inr e ↦ e
    ] in
    let found : first_place (chars nb) (chars bs) ≡ Some (length p) = ap (first_place (chars nb)) cs ∙ first_at p (chars nb) (chars rest) none in
    let before : take (length p) (chars bs) ≡ p = ap (take (length p)) cs ∙ take_at p r (length p) refl in
    let long : length (p ++ chars nb) ≡ length p + length (chars nb) = length-append p (chars nb) in
    let after : drop (length p + length (chars nb)) (chars bs) ≡ chars rest =
    ap (drop (length p + length (chars nb))) (cs ∙ sym (append_assoc p (chars nb) (chars rest))) ∙ drop_at (p ++ chars nb) (chars rest) (length p + length (chars nb)) long in
    let behind : drop (length nb) (drop k bs) ≡ rest = ap (drop (length nb)) at ∙ drop_at nb rest (length nb) refl in
    record {
      start = start;
      end = IsCharBoundary-at_seam (drop k bs) nb rest at text;
      around = record {
        found = rw found refl;
        before_it = rw found before;
        after_it = rw found (after ∙ ap chars (sym behind));
      };
    }
