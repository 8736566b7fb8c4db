-- A numeral and the bytes behind it; a text is one numeral at most. For other crates too.
use Rattle.std.proofs.Common.{◌≡◌, inl, inr, ℕ, ◌==◌, if◌then◌else◌, List, [], ◌∷◌, ◌++◌, Option, Some, None, append_assoc, sym, ◌∙◌, ap, subst, refl, arith, ◌≢◌, ◌⊎◌, ◌+◌, ◌*◌, ◌^◌, pos, ◌*ℤ◌, length, IsSome, unsigned_abs}
use Rattle.std.specs.Char.{is_ascii_digit}
use Rattle.std.specs.List.{list_all}
use Rattle.std.proofs.lemmas.Bool.{and_parts}
use Rattle.std.proofs.lemmas.List.{append-nil}
use Rattle.num_fixed.specs.Numeral.{Sign, none, plus, minus, Numeral, AreDigits, IsSign, IsFrac, IsExp, IsNumeral, Says, is_minus, number_of, raised, lowered, frac_digits}
use Rattle.num_fixed.specs.Signs.{with_sign}
use Rattle.num_fixed.specs.declared.number.Number.{Number}
use Rattle.num_fixed.specs.declared.number.Number.TheVariants.{Int, Dec}
use Rattle.num_fixed.proofs.DigitLemmas.{power_some}
use Rattle.num_fixed.proofs.NearestLemmas.{some_nearest, one_nearest}
use Rattle.num_fixed.specs.Scan.{behind_sign}
use Rattle.num_fixed.proofs.Reading.{Stops, pieces, digits_taken, sign_taken, exp_stops, frac_stops, first, tail, two_first, no_exp_at, stop_no_sign, digit_no_sign}

-- ---- bytes behind a numeral

sign_before : (s : Sign) (l r t : List ℕ) → IsSign s l r → IsSign s (l ++ t) (r ++ t)
sign_before none l r t h = ap (λ k. k ++ t) h
sign_before plus l r t h = ap (λ k. k ++ t) h
sign_before minus l r t h = ap (λ k. k ++ t) h

frac_before : (f : Option (List ℕ)) (l r t : List ℕ) → IsFrac f l r → IsFrac f (l ++ t) (r ++ t)
frac_before None l r t h = ap (λ k. k ++ t) h
frac_before (Some ds) l r t h = (h.0, ap (λ k. k ++ t) h.1 ∙ ap (λ k. 46 ∷ k) (append_assoc ds r t))

exp_before : (x : Option (Sign × List ℕ)) (l r t : List ℕ) → IsExp x l r → IsExp x (l ++ t) (r ++ t)
exp_before None l r t h = ap (λ k. k ++ t) h
exp_before (Some e) l r t h = (
  h.0 ++ t,
  elim h.1 [ inl q ↦ inl (ap (λ k. k ++ t) q) | inr q ↦ inr (ap (λ k. k ++ t) q) ],
  subst (IsSign e.0 (h.0 ++ t)) (append_assoc e.1 r t) (sign_before e.0 h.0 (e.1 ++ r) t h.2),
  h.3,
  h.4,
)

pub numeral_before : (n : Numeral) (w t : List ℕ) → IsNumeral n w [] → IsNumeral n (w ++ t) t
numeral_before n w t h = record {
  behind_int = h.behind_int ++ t;
  behind_frac = h.behind_frac ++ t;
  sign = subst (IsSign n.sign (w ++ t)) (append_assoc n.int h.behind_int t) (sign_before n.sign w (n.int ++ h.behind_int) t h.sign);
  int = h.int;
  frac = frac_before n.frac h.behind_int h.behind_frac t h.frac;
  exp = exp_before n.exp h.behind_frac [] t h.exp;
  some = h.some;
}

-- what a part takes of the bytes before its rest
sign_cut : (s : Sign) (l r : List ℕ) → IsSign s l r → (w : List ℕ) × (l ≡ w ++ r) × ((v : List ℕ) → IsSign s (w ++ v) v)
sign_cut none l r h = ([], h, λ v. refl)
sign_cut plus l r h = (43 ∷ [], h, λ v. refl)
sign_cut minus l r h = (45 ∷ [], h, λ v. refl)

frac_cut : (f : Option (List ℕ)) (l r : List ℕ) → IsFrac f l r → (w : List ℕ) × (l ≡ w ++ r) × ((v : List ℕ) → IsFrac f (w ++ v) v)
frac_cut None l r h = ([], h, λ v. refl)
frac_cut (Some ds) l r h = (46 ∷ ds, h.1, λ v. (h.0, refl))

exp_cut : (x : Option (Sign × List ℕ)) (l r : List ℕ) → IsExp x l r → (w : List ℕ) × (l ≡ w ++ r) × IsExp x w []
exp_cut None l r h = ([], h, refl)
exp_cut (Some e) l r h =
    let s = sign_cut e.0 h.0 (e.1 ++ r) h.2 in
    let m = s.0 ++ e.1 in
    let whole : h.0 ≡ m ++ r = s.1 ∙ sym (append_assoc s.0 e.1 r) in
    let inside : IsSign e.0 m (e.1 ++ []) = subst (IsSign e.0 m) (sym (append-nil e.1)) (s.2 e.1) in
    elim h.1 [
      | inl q ↦ (101 ∷ m, q ∙ ap (λ k. 101 ∷ k) whole, (m, inl refl, inside, h.3, h.4))
      | inr q ↦ (69 ∷ m, q ∙ ap (λ k. 69 ∷ k) whole, (m, inr refl, inside, h.3, h.4))
    ]

pub numeral_cut : (n : Numeral) (l r : List ℕ) → IsNumeral n l r → (w : List ℕ) × (l ≡ w ++ r) × IsNumeral n w []
numeral_cut n l r h =
    let x = exp_cut n.exp h.behind_frac r h.exp in
    let f = frac_cut n.frac h.behind_int h.behind_frac h.frac in
    let s = sign_cut n.sign l (n.int ++ h.behind_int) h.sign in
    let a = f.0 ++ x.0 in
    let behind : h.behind_int ≡ a ++ r = f.1 ∙ ap (λ k. f.0 ++ k) x.1 ∙ sym (append_assoc f.0 x.0 r) in
    let whole : l ≡ (s.0 ++ (n.int ++ a)) ++ r = s.1 ∙ ap (λ k. s.0 ++ (n.int ++ k)) behind ∙ ap (λ k. s.0 ++ k) (sym (append_assoc n.int a r)) ∙ sym (append_assoc s.0 (n.int ++ a) r) in (
      s.0 ++ (n.int ++ a),
      whole,
      record {
        behind_int = a;
        behind_frac = x.0;
        sign = s.2 (n.int ++ a);
        int = h.int;
        frac = f.2 x.0;
        exp = x.2;
        some = h.some;
      },
    )

-- ---- one numeral

abbrev sign_of : ℕ → Sign
sign_of b = if b == 45 then minus else (if b == 43 then plus else none)

no_sign_first : (ds r : List ℕ) → AreDigits ds → Stops r → sign_of (first (ds ++ r)) ≡ none
no_sign_first [] [] h s = refl
no_sign_first [] (b ∷ r) h s = let n = stop_no_sign b s in rw (n.0, n.1) refl
no_sign_first (d ∷ ds) r h s = let n = digit_no_sign d (and_parts (is_ascii_digit d) (list_all is_ascii_digit ds) h).0 in rw (n.0, n.1) refl

same_sign : (s : Sign) (l ds r : List ℕ) → IsSign s l (ds ++ r) → AreDigits ds → Stops r → s ≡ sign_of (first l)
same_sign none l ds r e h s = sym (ap (λ k. sign_of (first k)) e ∙ no_sign_first ds r h s)
same_sign plus l ds r e h s = rw e refl
same_sign minus l ds r e h s = rw e refl

no_exp_first : (x : Option (Sign × List ℕ)) (l : List ℕ) → IsExp x l [] → first l ≡ 46 → ⊥
no_exp_first None l h e = two_first l 46 0 e (ap first h) (omega arith)
no_exp_first (Some x) l h e = no_exp_at x l 46 e (omega arith) (omega arith) h

behind_letter : (e : Sign × List ℕ) (l : List ℕ) (h : IsExp (Some e) l []) → tail l ≡ h.0
behind_letter e l h = elim h.1 [ inl q ↦ ap tail q | inr q ↦ ap tail q ]

same_exp : (x y : Option (Sign × List ℕ)) (l : List ℕ) → IsExp x l [] → IsExp y l [] → x ≡ y
same_exp None None l h k = refl
same_exp None (Some y) l h k = absurd (no_exp_at y l 0 (ap first h) (omega arith) (omega arith) k)
same_exp (Some x) None l h k = absurd (no_exp_at x l 0 (ap first k) (omega arith) (omega arith) h)
same_exp (Some x) (Some y) l h k =
    let m : h.0 ≡ k.0 = sym (behind_letter x l h) ∙ behind_letter y l k in
    let s : x.0 ≡ y.0 = same_sign x.0 h.0 x.1 [] h.2 h.3 tt ∙ ap (λ t. sign_of (first t)) m ∙ sym (same_sign y.0 k.0 y.1 [] k.2 k.3 tt) in
    let d : x.1 ≡ y.1 = sym (append-nil x.1) ∙ sym (sign_taken x.0 h.0 x.1 [] h.2 h.3 tt).1 ∙ ap behind_sign m ∙ (sign_taken y.0 k.0 y.1 [] k.2 k.3 tt).1 ∙ append-nil y.1 in
    λ i. Some (s i, d i)

same_frac : (f g : Option (List ℕ)) (x y : Option (Sign × List ℕ)) (l b c : List ℕ) → IsFrac f l b → IsFrac g l c → IsExp x b [] → IsExp y c [] → (f ≡ g) × (b ≡ c)
same_frac None None x y l b c h k p q = (refl, sym h ∙ k)
same_frac None (Some es) x y l b c h k p q = absurd (no_exp_first x b p (ap first (sym h ∙ k.1)))
same_frac (Some ds) None x y l b c h k p q = absurd (no_exp_first y c q (ap first (sym k ∙ h.1)))
same_frac (Some ds) (Some es) x y l b c h k p q =
    let u = digits_taken (tail l) ds b (ap tail h.1) h.0 (exp_stops x b p) in
    let v = digits_taken (tail l) es c (ap tail k.1) k.0 (exp_stops y c q) in
    (ap Some (sym u.0 ∙ v.0), sym u.1 ∙ v.1)

pub one_numeral : (m n : Numeral) (l : List ℕ) → IsNumeral m l [] → IsNumeral n l [] → m ≡ n
one_numeral m n l g h =
    let p = pieces m l g in
    let q = pieces n l h in
    let gs = frac_stops m.frac g.behind_int g.behind_frac g.frac (exp_stops m.exp g.behind_frac g.exp) in
    let hs = frac_stops n.frac h.behind_int h.behind_frac h.frac (exp_stops n.exp h.behind_frac h.exp) in
    let s : m.sign ≡ n.sign = same_sign m.sign l m.int g.behind_int g.sign g.int gs ∙ sym (same_sign n.sign l n.int h.behind_int h.sign h.int hs) in
    let d : m.int ≡ n.int = sym p.1 ∙ q.1 in
    let a : g.behind_int ≡ h.behind_int = sym p.2 ∙ q.2 in
    let f = same_frac m.frac n.frac m.exp n.exp h.behind_int g.behind_frac h.behind_frac (subst (λ k. IsFrac m.frac k g.behind_frac) a g.frac) h.frac g.exp h.exp in
    let x : m.exp ≡ n.exp = same_exp m.exp n.exp h.behind_frac (subst (λ k. IsExp m.exp k []) f.1 g.exp) h.exp in
    λ i. record { sign = s i; int = d i; frac = f.0 i; exp = x i }

-- ---- one number

pub ratio_some : (k : ℕ) → pos (10 ^ k) ≢ pos 0
ratio_some k e = let some = power_some k in let none : 10 ^ k ≡ 0 = ap unsigned_abs e in omega arith

decimal_said_by : (n : Numeral) → IsSome n.frac ⊎ IsSome n.exp → (x : Number) × Says n x
decimal_said_by n some =
    let m = some_nearest (with_sign (is_minus n.sign) (number_of 0 (n.int ++ frac_digits n.frac) * 10 ^ raised n.exp) *ℤ pos 1000000) (pos (10 ^ (length (frac_digits n.frac) + lowered n.exp))) (ratio_some (length (frac_digits n.frac) + lowered n.exp)) in
    (Dec m.0, (some, m.1))

pub number_said : (n : Numeral) → (x : Number) × Says n x
number_said n = by n.frac n.exp refl refl
  where
    by : (f : Option (List ℕ)) (x : Option (Sign × List ℕ)) → n.frac ≡ f → n.exp ≡ x → (v : Number) × Says n v
    by None None f x = (Int (with_sign (is_minus n.sign) (number_of 0 n.int)), (f, x, refl))
    by (Some ds) x f e = decimal_said_by n (inl (rw f refl))
    by None (Some v) f x = decimal_said_by n (inr (rw x refl))

pub one_number_said : (n : Numeral) (x y : Number) → Says n x → Says n y → x ≡ y
one_number_said n (Int a) (Int b) g h = ap Int (g.2 ∙ sym h.2)
one_number_said n (Int a) (Dec b) g h = elim h.0 [ inl some ↦ absurd cc | inr some ↦ absurd cc ]
one_number_said n (Dec a) (Int b) g h = elim g.0 [ inl some ↦ absurd cc | inr some ↦ absurd cc ]
one_number_said n (Dec a) (Dec b) g h = ap Dec (one_nearest _ _ a b (ratio_some (length (frac_digits n.frac) + lowered n.exp)) g.1 h.1)
