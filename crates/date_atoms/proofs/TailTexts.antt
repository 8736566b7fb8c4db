-- The fraction and the offset at the end of a text.
use Rattle.std.proofs.Common.{◌≡◌, ℕ, zero, suc, ◌+◌, ◌-◌, ◌*◌, ◌^◌, ◌<◌, ◌≤◌, true, false, cond, List, [], ◌∷◌, ◌++◌, length, take, drop, refl, sym, ap, subst, ◌∙◌, arith, ℤ, pos, ◌-ℤ◌}
use Rattle.std.specs.List.{list_all, prefix_len}
use Rattle.std.specs.Char.{is_ascii_digit}
use Rattle.std.proofs.Math.Seq.{take-append_seam}
use Rattle.std.proofs.lemmas.Bool.{and_parts}
use Rattle.std.proofs.lemmas.Bool.Decides.{nat_tests}
use Rattle.item_tree.specs.Digits.{last_digits}
use Rattle.date_atoms.specs.Texts.{Fraction, no_fraction, fraction, fraction_text, fraction_nanos, Offset, no_offset, utc, ahead, behind, offset_text, offset_minutes, minutes_text}
use Rattle.date_atoms.specs.inside.Fronts.{IsNumber, IsFractionText, IsOffsetText, IsTail, is_fraction_byte}
use Rattle.date_atoms.proofs.DigitTexts.{length_digits, all_digits}

-- digits behind a point are one to nine, and those of a number
pub record IsCounted (digits : List ℕ) : Type 0 where
  pub n : ℕ
  pub low : 1 ≤ length digits
  pub high : length digits ≤ 9
  pub spelled : IsNumber (length digits) digits n

pub counted : (digits : List ℕ) (f : Fraction) → IsFractionText f (46 ∷ digits) → IsCounted digits
counted digits no_fraction h = absurd (omega (arith, ap length h.1))
counted digits (fraction count n) h =
    let same : digits ≡ last_digits count n = ap (λ l. drop 1 l) h.1 in
    let size : count ≡ length digits = sym (ap length same ∙ length_digits count n) in
    record {
      n = n;
      low = omega (arith, size, h.0.0.0);
      high = omega (arith, size, h.0.0.1);
      spelled = subst (λ k. IsNumber k digits n) size (h.0.1, same);
    }

pub fraction_made : (digits : List ℕ) (n z : ℕ) → 1 ≤ length digits → length digits ≤ 9 → IsNumber (length digits) digits n → z ≡ n * 10 ^ (9 - length digits)
    → (f : Fraction) × IsFractionText f (46 ∷ digits) × (z ≡ fraction_nanos f)
fraction_made digits n z low high h e =
    (fraction (length digits) n, (((low, high), h.0), ap (λ l. 46 ∷ l) h.1), e)

pub scaled : (k n : ℕ) → k ≤ 9 → n < 10 ^ k → n * 10 ^ (9 - k) < 10 ^ 9
scaled zero n h l = omega (arith, l)
scaled (suc zero) n h l = omega (arith, l)
scaled (suc (suc zero)) n h l = omega (arith, l)
scaled (suc (suc (suc zero))) n h l = omega (arith, l)
scaled (suc (suc (suc (suc zero)))) n h l = omega (arith, l)
scaled (suc (suc (suc (suc (suc zero))))) n h l = omega (arith, l)
scaled (suc (suc (suc (suc (suc (suc zero)))))) n h l = omega (arith, l)
scaled (suc (suc (suc (suc (suc (suc (suc zero))))))) n h l = omega (arith, l)
scaled (suc (suc (suc (suc (suc (suc (suc (suc zero)))))))) n h l = omega (arith, l)
scaled (suc (suc (suc (suc (suc (suc (suc (suc (suc zero))))))))) n h l = omega (arith, l)
scaled (suc (suc (suc (suc (suc (suc (suc (suc (suc (suc k)))))))))) n h l = absurd (omega arith)

pub ahead_made : (bytes : List ℕ) (m : ℕ) (z : ℤ) → m < 1440 → bytes ≡ minutes_text m → z ≡ pos m
    → (o : Offset) × IsOffsetText o (43 ∷ bytes) × (z ≡ offset_minutes o)
ahead_made bytes m z l e f = (ahead m, (l, ap (λ b. 43 ∷ b) e), f)

pub behind_made : (bytes : List ℕ) (m : ℕ) (z : ℤ) → m < 1440 → bytes ≡ minutes_text m → z ≡ pos 0 -ℤ pos m
    → (o : Offset) × IsOffsetText o (45 ∷ bytes) × (z ≡ offset_minutes o)
behind_made bytes m z l e f = (behind m, (l, ap (λ b. 45 ∷ b) e), f)

-- ---- where the fraction ends

fraction_byte : (b : ℕ) → is_ascii_digit b ≡ true → is_fraction_byte b ≡ true
fraction_byte b h = grind (arith, nat_tests)

-- at the end, or before what is in no fraction
abbrev IsEnd : List ℕ → Type 0
IsEnd [] = Unit {0}
IsEnd (b ∷ l) = is_fraction_byte b ≡ false

stops : (l : List ℕ) → IsEnd l → prefix_len is_fraction_byte l ≡ 0
stops [] h = refl
stops (b ∷ l) h = ap (λ t. cond t (1 + prefix_len is_fraction_byte l) 0) h

passes : (a b : List ℕ) → list_all is_ascii_digit a ≡ true → IsEnd b → prefix_len is_fraction_byte (a ++ b) ≡ length a
passes [] b h e = stops b e
passes (x ∷ a) b h e =
    let both = and_parts (is_ascii_digit x) (list_all is_ascii_digit a) h in
    ap (λ t. cond t (1 + prefix_len is_fraction_byte (a ++ b)) 0) (fraction_byte x both.0) ∙ omega (arith, passes a b both.1 e)

offset_ends : (o : Offset) → IsEnd (offset_text o)
offset_ends no_offset = tt
offset_ends utc = refl
offset_ends (ahead m) = refl
offset_ends (behind m) = refl

fraction_ends : (f : Fraction) (b : List ℕ) → IsEnd b → prefix_len is_fraction_byte (fraction_text f ++ b) ≡ length (fraction_text f)
fraction_ends no_fraction b e = stops b e
fraction_ends (fraction count n) b e = omega (arith, passes (last_digits count n) b (all_digits count n) e)

drop_front : (a b : List ℕ) → drop (length a) (a ++ b) ≡ b
drop_front [] b = refl
drop_front (x ∷ a) b = drop_front a b

-- what stands before that place is the fraction, and what stands behind it the offset
pub tail_split : (bytes front back : List ℕ) (len : ℕ) (f : Fraction) (o : Offset) → IsTail f o bytes → len ≡ prefix_len is_fraction_byte bytes → front ≡ take len bytes → back ≡ drop len bytes → IsFractionText f front × IsOffsetText o back
tail_split bytes front back len f o h e s t =
    let size : len ≡ length (fraction_text f) = e ∙ ap (prefix_len is_fraction_byte) h.2 ∙ fraction_ends f (offset_text o) (offset_ends o) in
    ((h.0, s ∙ (λ i. take (size i) (h.2 i)) ∙ take-append_seam (fraction_text f) (offset_text o)), (h.1, t ∙ (λ i. drop (size i) (h.2 i)) ∙ drop_front (fraction_text f) (offset_text o)))
