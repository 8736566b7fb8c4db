-- Names as texts and as characters.
use Rattle.std.proofs.Common.{◌≡◌, ◌&&◌, ℕ, Bool, true, false, not, List, [], ◌∷◌, map, refl, ap, sym, ◌∙◌}
use Rattle.std.specs.Bool.{Decides}
use Rattle.std.specs.List.{list_all, AllByRecursion, IsDistinct}
use Rattle.outside.specs.World.{World, NamesDiffer}
use Rattle.std.specs.Str.{chars, bytes_eq, IsUtf8, encode_utf8_all}
use Rattle.std.proofs.lemmas.Str.{encodes-chars}
use Rattle.std.proofs.lemmas.Slice.Eq.{bytes_eq-Decides}
use Rattle.std.proofs.lemmas.Bool.Decides.{same_from_decides, Decides-like, Decides-and}
use Rattle.std.proofs.lemmas.Bool.{not-true}

-- two texts are the same exactly where their characters are
pub bytes_eq-chars : (s t : List ℕ) → IsUtf8 s → IsUtf8 t
    → bytes_eq s t ≡ bytes_eq (chars s) (chars t)
bytes_eq-chars s t u v =
    same_from_decides _ _
    (Decides-like _ (ap chars)
    (λ e. sym (encodes-chars s u) ∙ ap encode_utf8_all e ∙ encodes-chars t v)
    (bytes_eq-Decides s t))
    (bytes_eq-Decides (chars s) (chars t))

-- a test of files for names that differ
abbrev pub differ : World → Bool
differ [] = true
differ (f ∷ fs) = list_all (λ g. not (bytes_eq f.0 g.0)) fs && differ fs

none_named : (name : List ℕ) (fs : World)
    → Decides (list_all (λ g. not (bytes_eq name g.0)) fs)
    (AllByRecursion (λ n. bytes_eq name n ≡ false) (map (λ f. f.0) fs))
none_named name [] = (λ _. tt, λ _. refl)
none_named name (f ∷ fs) =
    Decides-and _ _ (not-true (bytes_eq name f.0), ap not) (none_named name fs)

pub differ-tells : (fs : World) → Decides (differ fs) (NamesDiffer fs)
unfolding IsDistinct
differ-tells [] = (λ _. tt, λ _. refl)
differ-tells (f ∷ fs) = Decides-and _ _ (none_named f.0 fs) (differ-tells fs)
