-- What an escape spells is UTF-8.
use Rattle.std.specs.Prelude.{◌≡◌, ◌<◌, ℕ, ◌==◌, Bool, if◌then◌else◌, List, [], ◌∷◌, Option, Some, None, option_map}
use Rattle.std.proofs.Common.{sym, subst, arith}
use Rattle.std.proofs.lemmas.Bool.{cond_both}
use Rattle.std.specs.Str.{IsUtf8}
use Rattle.std.proofs.lemmas.Str.{IsUtf8-from_ascii, IsUtf8-encode}
use Rattle.std.proofs.lemmas.Str.Ascii.{IsAscii-nil, IsAscii-cons}
use Rattle.item_tree.specs.JsonString.{short_escape}
use Rattle.json_text.specs.Escapes.{bytes_of, IsSound, Escape, Unit16, digits_unit, other_half, unit_escape, long_escape, escape_of}
use Rattle.json_text.specs.declared.escapes.Spelled.{Spelled}
use Rattle.json_text.specs.declared.escapes.Spelled.TheVariants.{Byte, Char}

-- ---- a short escape is one byte of ASCII

abbrev IsSmall : Option ℕ → Type 0
IsSmall None = Unit {0}
IsSmall (Some b) = b < 128

either : (c : Bool) (k : ℕ) (o : Option ℕ) → k < 128 → IsSmall o → IsSmall (if c then Some k else o)
either c k o h s = cond_both c (Some k) o IsSmall (λ e. h) (λ e. s)

short_is_small : (x : ℕ) → IsSmall (short_escape x)
short_is_small x =
    either (x == 34) 34 _ (omega arith) (
    either (x == 92) 92 _ (omega arith) (
    either (x == 47) 47 _ (omega arith) (
    either (x == 98) 8 _ (omega arith) (
    either (x == 102) 12 _ (omega arith) (
    either (x == 110) 10 _ (omega arith) (
    either (x == 114) 13 _ (omega arith) (
    either (x == 116) 9 None (omega arith) tt)))))))

-- ---- and no other escape is a byte

abbrev SpellsSmall : Spelled → Type 0
SpellsSmall (Byte b) = b < 128
SpellsSmall (Char c) = Unit {0}

abbrev HasSmall : Escape → Type 0
HasSmall None = Unit {0}
HasSmall (Some p) = SpellsSmall p.0

short_small : (l : List ℕ) (o : Option ℕ) → IsSmall o → HasSmall (option_map (λ c. (Byte c, l)) o)
short_small l None s = tt
short_small l (Some c) s = s

unit_small : (u : ℕ) (l : List ℕ) (h : Unit16) → HasSmall (unit_escape u l h)
unit_small u l None = tt
unit_small u l (Some p) = tt

long_small : (u : Unit16) → HasSmall (long_escape u)
long_small None = tt
long_small (Some p) = unit_small p.0 p.1 (other_half p.0 p.1)

escape_small : (t : List ℕ) → HasSmall (escape_of t)
escape_small [] = tt
escape_small (x ∷ l) =
    cond_both (x == 117) (long_escape (digits_unit l)) (option_map (λ c. (Byte c, l)) (short_escape x)) HasSmall
    (λ e. long_small (digits_unit l)) (λ e. short_small l (short_escape x) (short_is_small x))

pub spelled_is_text : (t : List ℕ) (s : Spelled) (r : List ℕ) → Some (s, r) ≡ escape_of t → IsSound s → IsUtf8 (bytes_of s)
spelled_is_text t (Char c) r e h = IsUtf8-encode c h
spelled_is_text t (Byte b) r e h =
    let small : b < 128 = subst HasSmall (sym e) (escape_small t) in
    IsUtf8-from_ascii (b ∷ []) (IsAscii-cons b [] small IsAscii-nil)
