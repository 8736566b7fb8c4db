-- What token_at finds is a token of its kind.
use Rattle.std.proofs.Common.{◌≡◌, inl, inr, ℕ, ◌+◌, ◌<◌, ◌≤◌, List, ◌∷◌, [], length, take, drop, true, not, cond, ◌&&◌, ◌==◌, nat_lt, sym, ap, subst, refl, arith, suc, Option, Some, None, codes}
use Rattle.std.proofs.lemmas.Bool.{cond-true, cond-false, and_parts, ltb-true, eqb-true, cases_Bool, not-true}
use Rattle.std.proofs.lemmas.List.Sums.{prefix_len-le-length}
use Rattle.std.specs.List.{prefix_len}
use Rattle.query_lexer.specs.Bytes.{next_passes, is_letter, is_name_byte, is_mark, is_double_mark}
use Rattle.query_lexer.specs.Scan.{name_length, number_at, mark_at, var_at, token_at, first_some, starts_with, text_of_length, string_length}
use Rattle.query_lexer.specs.Words.{IsName, IsVar}
use Rattle.query_lexer.specs.declared.token.TokenKind.{TokenKind}
use Rattle.query_lexer.specs.declared.token.TokenKind.TheVariants as k
use Rattle.query_lexer.proofs.Runs.{run_passes}
use Rattle.query_lexer.proofs.Cases.{chosen, some_pair}
use Rattle.query_lexer.proofs.SoundNumbers.{Sound, number_sound, take_one}
use Rattle.query_lexer.proofs.LongestTokens.{starts}
use Rattle.query_lexer.proofs.StringLemmas.{string_whole}

sound_from : (text : List ℕ) (a b : TokenKind × ℕ) → Some a ≡ Some b → Sound text a.0 a.1 → Sound text b.0 b.1
sound_from text a b e v = let p = some_pair a b e in subst (λ q. Sound text q b.1) p.0 (subst (Sound text a.0) p.1 v)

drop_one : {A : Type 0} (n : ℕ) (x : A) (xs : List A) → drop (1 + n) (x ∷ xs) ≡ drop n xs
drop_one n x xs = let e : 1 + n ≡ suc n = omega arith in ap (λ k. drop k (x ∷ xs)) e

name_fits : (r : List ℕ) → 0 < name_length r → (name_length r ≤ length r) × IsName (take (name_length r) r)
unfolding name_length
name_fits [] h = absurd (omega (arith, h))
name_fits (b ∷ r) h = elim (cases_Bool (is_letter b)) [
  | inl e ↦
      let v = cond-true (is_letter b) (1 + prefix_len is_name_byte r) 0 e in
      let l = prefix_len-le-length is_name_byte r in
      subst (λ n. (n ≤ length (b ∷ r)) × IsName (take n (b ∷ r))) (sym v) (omega arith, subst IsName (sym (take_one (prefix_len is_name_byte r) b r)) (e, run_passes is_name_byte r))
  | inr e ↦ absurd (omega (arith, h, cond-false (is_letter b) (1 + prefix_len is_name_byte r) 0 e))
]

name_some : (b : ℕ) (r : List ℕ) → is_letter b ≡ true → 0 < name_length (b ∷ r)
unfolding name_length
name_some b r h = let v = cond-true (is_letter b) (1 + prefix_len is_name_byte r) 0 h in omega arith

context_sound : (r : List ℕ) (x : TokenKind × ℕ) → cond (next_passes (λ b. b == 36) r) (Some (k.Context, 2)) None ≡ Some x → Sound (36 ∷ r) x.0 x.1
context_sound [] x h = cc
context_sound (b ∷ r) x h = elim (chosen (b == 36) _ _ _ h) [
  | inl (e, is) ↦ sound_from (36 ∷ b ∷ r) (k.Context, 2) x is (record { some = omega arith; within = omega arith; fits = ap (λ c. 36 ∷ c ∷ []) (eqb-true b 36 e) })
  | inr (e, is) ↦ let never : ⊥ = cc in absurd never
]

var_sound : (r : List ℕ) (x : TokenKind × ℕ) → var_at r ≡ Some x → Sound (36 ∷ r) x.0 x.1
unfolding var_at
var_sound r x h = elim (chosen (starts_with (codes "err:code") r && not (next_passes is_name_byte (drop 8 r))) _ _ _ h) [
  | inl (e, is) ↦
      let both = and_parts (starts_with (codes "err:code") r) (not (next_passes is_name_byte (drop 8 r))) e in
      let at = starts (codes "err:code") r both.0 in
      let size = ap length at in
      sound_from (36 ∷ r) (k.Var, 9) x is (record { some = omega arith; within = omega (arith, size); fits = (refl, inr (ap (take 8) at, not-true (next_passes is_name_byte (drop 8 r)) both.1)) })
  | inr (e, is) ↦ elim (chosen (nat_lt 0 (name_length r)) _ _ _ is) [
    | inl (some, found) ↦
        let fit = name_fits r (ltb-true 0 (name_length r) some) in
        let most = fit.0 in
        sound_from (36 ∷ r) (k.Var, 1 + name_length r) x found (record { some = omega arith; within = omega arith; fits = subst (λ t. IsVar t (drop (1 + name_length r) (36 ∷ r))) (sym (take_one (name_length r) 36 r)) (refl, inl fit.1) })
    | inr (none, found) ↦ context_sound r x found
  ]
]

double_sound : (b : ℕ) (r : List ℕ) (x : TokenKind × ℕ) → next_passes (is_double_mark b) r ≡ true → Some (k.Mark, 2) ≡ Some x → Sound (b ∷ r) x.0 x.1
double_sound b [] x e is = cc
double_sound b (c ∷ r) x e is = sound_from (b ∷ c ∷ r) (k.Mark, 2) x is (record { some = omega arith; within = omega arith; fits = e })

mark_sound : (text : List ℕ) (x : TokenKind × ℕ) → mark_at text ≡ Some x → Sound text x.0 x.1
unfolding mark_at
mark_sound [] x h = cc
mark_sound (b ∷ r) x h = elim (chosen (next_passes (is_double_mark b) r) _ _ _ h) [
  | inl (e, is) ↦ double_sound b r x e is
  | inr (e, is) ↦ elim (chosen (is_mark b) _ _ _ is) [
    | inl (one, found) ↦ sound_from (b ∷ r) (k.Mark, 1) x found (record { some = omega arith; within = omega arith; fits = one })
    | inr (none, found) ↦ let never : ⊥ = cc in absurd never
  ]
]

text_sound : (r : List ℕ) (o : Option ℕ) (x : TokenKind × ℕ) → string_length r ≡ o → text_of_length o ≡ Some x → Sound (34 ∷ r) x.0 x.1
text_sound r None x e h = cc
text_sound r (Some n) x e h =
    let v = string_whole r n e in
    let most = v.within in
    sound_from (34 ∷ r) (k.Text, 1 + n) x h (record { some = omega arith; within = omega arith; fits = (take n r, v.pieces, take_one n 34 r, v.good) })

other_sound : (text : List ℕ) (o : Option (TokenKind × ℕ)) (x : TokenKind × ℕ) → number_at text ≡ o → first_some o (mark_at text) ≡ Some x → Sound text x.0 x.1
other_sound text None x e h = mark_sound text x h
other_sound text (Some y) x e h = sound_from text y x h (number_sound text y.0 y.1 e)

pub token_sound : (text : List ℕ) (x : TokenKind × ℕ) → token_at text ≡ Some x → Sound text x.0 x.1
unfolding token_at
token_sound [] x h = cc
token_sound (b ∷ r) x h = elim (chosen (is_letter b) _ _ _ h) [
  | inl (e, is) ↦
      let some = name_some b r e in
      let fit = name_fits (b ∷ r) some in
      sound_from (b ∷ r) (k.Name, name_length (b ∷ r)) x is (record { some = some; within = fit.0; fits = fit.1 })
  | inr (e, is) ↦ elim (chosen (b == 36) _ _ _ is) [
    | inl (dollar, found) ↦ subst (λ c. Sound (c ∷ r) x.0 x.1) (sym (eqb-true b 36 dollar)) (var_sound r x found)
    | inr (f, found) ↦ elim (chosen (b == 34) _ _ _ found) [
      | inl (quote, at) ↦ subst (λ c. Sound (c ∷ r) x.0 x.1) (sym (eqb-true b 34 quote)) (text_sound r (string_length r) x refl at)
      | inr (g, at) ↦ other_sound (b ∷ r) (number_at (b ∷ r)) x refl at
    ]
  ]
]
