-- Texts of ASCII, whose characters are their bytes. For other crates too.
use Rattle.std.proofs.Common.{◌≡◌, ◌<◌, ℕ, Bool, true, nat_lt, List, [], ◌∷◌, sym, ap, ◌∙◌, arith}
use Rattle.std.specs.Str.{chars, bytes_eq, IsUtf8, IsAscii}
use Rattle.std.specs.List.{list_all}
use Rattle.std.proofs.Math.Utf8.{encodes}
use Rattle.std.proofs.lemmas.Bool.Decides.{nat_tests, same_from_decides}
use Rattle.std.proofs.lemmas.Slice.Eq.{bytes_eq-Decides}
use Rattle.std.proofs.lemmas.Str.{chars-IsAscii, encodes-chars, encodes-IsAscii}
use Rattle.std.proofs.lemmas.Str.Ascii.{IsAscii-nil, IsAscii-cons}
use Rattle.item_tree.proofs.Members.{both}

abbrev pub is_ascii : List ℕ → Bool
is_ascii w = list_all (λ b. nat_lt b 128) w

below : (b : ℕ) → nat_lt b 128 ≡ true → b < 128
below b e = grind (arith, nat_tests)

pub all_below : (w : List ℕ) → is_ascii w ≡ true → IsAscii w
all_below [] e = IsAscii-nil
all_below (b ∷ w) e = let h = both _ _ e in IsAscii-cons b w (below b h.0) (all_below w h.1)

-- a text has these characters where it has these bytes
pub same_text : (t w : List ℕ) → IsUtf8 t → IsAscii w → bytes_eq (chars t) w ≡ bytes_eq t w
same_text t w text ascii =
    let d = bytes_eq-Decides (chars t) w in
    same_from_decides (bytes_eq (chars t) w) (bytes_eq t w)
    (λ e. sym (encodes-chars t text) ∙ ap encodes (d.0 e) ∙ encodes-IsAscii w ascii, λ e. d.1 (ap chars e ∙ chars-IsAscii w ascii))
    (bytes_eq-Decides t w)
