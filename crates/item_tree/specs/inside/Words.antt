-- A number of 128 bits in two words, which it gives back.
use Rattle.std.specs.Prelude.{◌≡◌, ℕ, ℤ, ◌+◌, ◌*◌, ◌/◌, ◌%◌, ◌<◌, ◌^◌}
use Rattle.std.specs.Int.{w128, cast_signed, cast_unsigned}
use Rattle.std.proofs.Common.{◌∙◌, ap, arith}
use Rattle.std.proofs.lemmas.Int.{of_z-to_z}
use Rattle.std.proofs.lemmas.Nat.{div-mul-add, mod-mul-add}
use Rattle.item_tree.specs.declared.wide.Wide.TheInside.{Inside}

-- the number whose bits are these words
unfoldable pub joined : ℕ → ℕ → ℤ
joined high low = cast_signed w128 (high * 2 ^ 64 + low)

abbrev pub high_word : ℤ → ℕ
high_word z = cast_unsigned w128 z / 2 ^ 64

abbrev pub low_word : ℤ → ℕ
low_word z = cast_unsigned w128 z % 2 ^ 64

abbrev pub AreWords : Inside → Type 0
AreWords a = (a.high < 2 ^ 64) × (a.low < 2 ^ 64)

bits_back : (h l : ℕ) → h < 2 ^ 64 → l < 2 ^ 64
    → cast_unsigned w128 (joined h l) ≡ h * 2 ^ 64 + l
unfolding joined
bits_back h l p q = of_z-to_z w128 (h * 2 ^ 64 + l) (omega (arith, p, q))

high_back : (h l : ℕ) → h < 2 ^ 64 → l < 2 ^ 64 → high_word (joined h l) ≡ h
high_back h l p q = ap (λ n. n / 2 ^ 64) (bits_back h l p q) ∙ div-mul-add h (2 ^ 64) l q

low_back : (h l : ℕ) → h < 2 ^ 64 → l < 2 ^ 64 → low_word (joined h l) ≡ l
low_back h l p q = ap (λ n. n % 2 ^ 64) (bits_back h l p q) ∙ mod-mul-add h (2 ^ 64) l q

abbrev pub words_of : ℤ → Inside
words_of z = record { high = high_word z; low = low_word z }

pub words_back : (a : Inside) → AreWords a → words_of (joined a.high a.low) ≡ a
words_back a h =
    ap (λ x. record { high = x; low = low_word (joined a.high a.low) })
    (high_back a.high a.low h.0 h.1)
    ∙ ap (λ x. record { high = a.high; low = x }) (low_back a.high a.low h.0 h.1)
