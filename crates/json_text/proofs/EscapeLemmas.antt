-- An escape at the front of a text. For other crates too.
use Rattle.std.proofs.Common.{◌≡◌, ◌-◌, ◌<◌, ◌≤◌, ℕ, List, ◌∷◌, [], length, take, drop, slice_index_or, Option, Some, None, IfSome, IfNone, option_map, ap, sym, subst, ◌∙◌, arith}
use Rattle.std.proofs.Math.Seq.{take-length}
use Rattle.json_text.specs.inside.Scan.{string_at}
use Rattle.json_text.specs.declared.escapes.Spelled.{Spelled}
use Rattle.json_text.specs.Escapes.{IsSound, Begins, escape_of}
use Rattle.json_text.proofs.SpellLemmas.{Spells, escape_spells}

pub front_is : (l : List ℕ) → 0 < length l → l ≡ slice_index_or l 0 0 ∷ take (length l - 1) (drop 1 l)
front_is [] h = absurd (omega arith)
front_is (b ∷ l) h = let n : length (b ∷ l) - 1 ≡ length l = omega arith in ap (λ t. b ∷ t) (sym (ap (λ k. take k l) n ∙ take-length l))

pub nothing_escaped : (l : List ℕ) → length l < 1 → string_at (92 ∷ l) ≡ None
nothing_escaped [] h = escape_spells []
nothing_escaped (b ∷ l) h = absurd (omega arith)

-- what a call answers that tells an escape by its value begins a string as the escape does
pub escape_begins : {A : Type 0} (f : A → Spelled × List ℕ) (l : List ℕ) (o : Option A) → option_map f o ≡ escape_of l → IfSome o (λ x. length (f x).1 ≤ length l)
    → IfSome o (λ x. IsSound (f x).0) → IfSome o (λ x. Begins (92 ∷ l) (f x).0 (f x).1)
escape_begins f l None e n s = tt
escape_begins f l (Some x) e n s = record { same = subst (Spells l) (sym e) (escape_spells l); shorter = omega arith; sound = s }

pub no_escape : {A : Type 0} (f : A → Spelled × List ℕ) (l : List ℕ) (o : Option A) → option_map f o ≡ escape_of l → IfNone o (string_at (92 ∷ l) ≡ None)
no_escape f l None e = subst (Spells l) (sym e) (escape_spells l)
no_escape f l (Some x) e = tt
