-- The text of a decimal, as it is written into a buffer from its end on.
use Rattle.std.proofs.Common.{◌≡◌, ◌≢◌, ℕ, suc, ◌+◌, ◌-◌, ◌/◌, ◌%◌, ◌<◌, ◌≤◌, ◌==◌, ◌^◌, Bool, false, List, ◌∷◌, ◌++◌, length, take, drop, set, ℤ, sym, ap, ◌∙◌, arith, length-append, length-drop, length-set}
use Rattle.std.specs.Fmt.{decimal}
use Rattle.std.specs.List.{slice_range}
use Rattle.std.proofs.Math.Seq.{take-append-add}
use Rattle.std.proofs.lemmas.Bool.Decides.{nat_tests}
use Rattle.std.proofs.lemmas.Fmt.{decimal_step_wide, length-decimal-le_wide}
use Rattle.std.proofs.lemmas.List.{drop-set, drop-set-lt, drop_more}
use Rattle.item_tree.specs.Digits.{without_last_zeros}
use Rattle.item_tree.specs.ItemText.{fraction_text, units_text, decimal_text}
use Rattle.item_tree.specs.inside.Written.{Stands, sign_text}

-- the places stand behind the point, which stands where the first of the seven digits did
pub fraction_stands : (units : ℕ) (bytes places : List ℕ) (point kept : ℕ) → units ≢ 0 → point < length bytes → drop point bytes ≡ decimal (1000000 + units)
    → places ≡ drop (point + 1) (set bytes point 46) → kept ≤ length places → take kept places ≡ without_last_zeros places
    → Stands (fraction_text units) (set bytes point 46) point (point + 1 + kept)
fraction_stands units bytes places point kept some inside digits are few trimmed =
    let none : (units == 0) ≡ false = grind (arith, nat_tests) in
    let behind : places ≡ drop (point + 1) bytes = are ∙ drop-set-lt (point + 1) bytes point 46 (omega arith) in
    let last : drop (point + 1) bytes ≡ drop 1 (decimal (1000000 + units)) = sym (ap (λ ds. drop 1 ds) (drop_more bytes point 0 inside)) ∙ ap (λ ds. drop 1 ds) digits in
    let size : point + 1 + kept - point ≡ suc kept = omega arith in
    let text : 46 ∷ take kept (drop (point + 1) bytes) ≡ 46 ∷ without_last_zeros (drop 1 (decimal (1000000 + units))) =
    ap (λ ds. 46 ∷ ds) (ap (λ ds. take kept ds) (sym behind) ∙ trimmed ∙ ap (λ ds. without_last_zeros ds) (behind ∙ last)) in
    record {
      ordered = omega arith;
      inside = omega (arith, length-drop (point + 1) bytes, length-set bytes point 46, ap length behind);
      spelled = rw (size, drop-set bytes point 46 inside, none) text;
    }

-- a sign, the digits and what stands behind them
pub number_spelled : (s d t b1 b2 b3 : List ℕ) (start first point end : ℕ) → Stands t b1 point end → first + length d ≡ point → drop first b2 ≡ d ++ drop point b1
    → start + length s ≡ first → drop start b3 ≡ s ++ drop first b2 → slice_range b3 start end ≡ s ++ (d ++ t)
number_spelled s d t b1 b2 b3 start first point end stands long digits short sign =
    let ordered = stands.ordered in
    let size : end - start ≡ length s + (length d + (end - point)) = omega arith in
    (λ i. take (size i) ((sign ∙ ap (λ ds. s ++ ds) digits) i))
    ∙ take-append-add s (d ++ drop point b1) (length d + (end - point))
    ∙ ap (λ ds. s ++ ds) (take-append-add d (drop point b1) (end - point) ∙ ap (λ ds. d ++ ds) stands.spelled)

-- a number of 20 digits at most, and its last digit
pub length_whole : (n : ℕ) → n < 10 ^ 20 → length (decimal n) ≤ 20
length_whole n l = length-decimal-le_wide 20 n (omega arith) l (omega arith)

pub length_front : (n : ℕ) → n < 10 ^ 20 → length (decimal (n / 10)) ≤ 19
length_front n l = length-decimal-le_wide 19 (n / 10) (omega arith) (omega arith) (omega arith)

pub length_step : (n : ℕ) → 10 ≤ n → n < 10 ^ 20 → length (decimal n) ≡ length (decimal (n / 10)) + 1
length_step n b l = ap length (decimal_step_wide n b (omega arith)) ∙ length-append _ _

-- the sign, the digits and the places, where they were written one before the other
pub decimal_spelled : (m : ℤ) (negative : Bool) (units whole rest : ℕ) (b1 b2 b3 : List ℕ) (start first point end : ℕ)
    → sign_text negative ++ units_text units ≡ decimal_text m → whole ≡ units / 1000000 → rest ≡ units % 1000000
    → Stands (fraction_text rest) b1 point end → first + length (decimal whole) ≡ point → drop first b2 ≡ decimal whole ++ drop point b1
    → start + length (sign_text negative) ≡ first → drop start b3 ≡ sign_text negative ++ drop first b2
    → slice_range b3 start end ≡ decimal_text m
decimal_spelled m negative units whole rest b1 b2 b3 start first point end text w r stands long digits short sign =
    number_spelled (sign_text negative) (decimal whole) (fraction_text rest) b1 b2 b3 start first point end stands long digits short sign
    ∙ (λ i. sign_text negative ++ (decimal (w i) ++ fraction_text (r i)))
    ∙ text
