-- Lines, and what they read as.
use Rattle.std.specs.Prelude.{◌≡◌, ℕ, zero, suc, List, [], ◌∷◌, ◌++◌, codes, map, pos, negsuc, replicate, true, false, refl}
use Rattle.std.proofs.Common.{subst}
use lib.Utf8.{encode}
use Rattle.std.specs.Str.{chars, is_utf8}
use Rattle.item_tree.specs.Datum.{Datum, null, boolean, integer, decimal, text, array_of_list, object_of_pairs}
use Rattle.item_tree.specs.JsonString.{code_unit}
use Rattle.item_tree.specs.declared.code.Code.TheVariants.{JNDY0021, PJDY0002, PJDY0004}
use Rattle.json_text.specs.Line.{Reading, blank, item, fault, ReadsAs}
use Rattle.json_text.specs.inside.Scan.{numeral_at, pieces_at}
use Rattle.json_text.specs.inside.Machine.{token_from, token_at, run_for, run}
use Rattle.num_fixed.specs.Fronts.{fraction_len, exponent_len, whole_end, fraction_end, number_end, numeral_front}
use Rattle.num_fixed.specs.Values.{near_natural, near, units_said}
use Rattle.json_text.specs.inside.Build.{reading}
use Rattle.json_text.proofs.ReadingLemmas.{reads}

abbrev pub Row : Type 0
Row = List ℕ × Reading

abbrev pub AllRead : List Row → Type 0
AllRead [] = Unit {0}
AllRead (p ∷ ps) = ReadsAs p.0 p.1 × AllRead ps

all_read : (rows : List Row) → map (λ p. reading p.0) rows ≡ map (λ p. p.1) rows → AllRead rows
all_read [] e = tt
all_read (p ∷ ps) e =
    let first : reading p.0 ≡ p.1 = cc in let rest : map (λ q. reading q.0) ps ≡ map (λ q. q.1) ps = cc in
    (subst (ReadsAs p.0) first (reads p.0), all_read ps rest)

no_json : List ℕ → Row
no_json line = (line, fault JNDY0021)

number_rows : List Row
number_rows =
    (codes "0", item (integer (pos 0)))
    ∷ (codes "-0", item (integer (pos 0)))
    ∷ (codes "-7", item (integer (negsuc 6)))
    ∷ (codes "1e-6", item (decimal (pos 1)))
    ∷ (codes "1.50", item (decimal (pos 1500000)))
    ∷ (codes "1E2", item (decimal (pos 100000000)))
    ∷ (codes "1e+2", item (decimal (pos 100000000)))
    ∷ (codes "-0.0", item (decimal (pos 0)))
    ∷ (codes "-0.0000005", item (decimal (pos 0)))
    ∷ (codes "-0.0000015", item (decimal (negsuc 1)))
    ∷ (codes "1e-400", item (decimal (pos 0)))
    ∷ (codes "99999999999999999999", item (integer (pos 99999999999999999999)))
    ∷ (codes "100000000000000000000", fault PJDY0004)
    ∷ (codes "1e20", fault PJDY0004)
    ∷ (codes "-1e400", fault PJDY0004)
    ∷ no_json (codes "01")
    ∷ no_json (codes "-")
    ∷ no_json (codes "+1")
    ∷ no_json (codes ".5")
    ∷ no_json (codes "1.")
    ∷ no_json (codes "1e")
    ∷ no_json (codes "1 2")
    ∷ []

numbers_read : AllRead number_rows
unfolding number_rows no_json reading run run_for token_at token_from numeral_at numeral_front fraction_len exponent_len whole_end fraction_end number_end near_natural near units_said
numbers_read = all_read number_rows refl

string_rows : List Row
string_rows =
    (codes "\"\"", item (text []))
    ∷ (codes "\"\\ud800\"", item (text (0xfffd ∷ [])))
    ∷ (codes "\"\\ud83d\\ude00\"", item (text (0x1f600 ∷ [])))
    ∷ (codes "\"\\ud83d\\u0041\"", item (text (0xfffd ∷ 65 ∷ [])))
    ∷ (codes "\"\\ude00\\ud83d\"", item (text (0xfffd ∷ 0xfffd ∷ [])))
    ∷ (codes "\"\\u00e9\\u0000\"", item (text (233 ∷ 0 ∷ [])))
    ∷ (codes "\"\\\"\\\\\\/\\b\\f\\n\\r\\t\"", item (text (34 ∷ 92 ∷ 47 ∷ 8 ∷ 12 ∷ 10 ∷ 13 ∷ 9 ∷ [])))
    ∷ (34 ∷ 195 ∷ 169 ∷ 127 ∷ 34 ∷ [], item (text (233 ∷ 127 ∷ [])))
    ∷ no_json (34 ∷ 195 ∷ 34 ∷ [])
    ∷ no_json (34 ∷ 192 ∷ 128 ∷ 34 ∷ [])
    ∷ no_json (34 ∷ 237 ∷ 160 ∷ 128 ∷ 34 ∷ [])
    ∷ no_json (34 ∷ 9 ∷ 34 ∷ [])
    ∷ no_json (codes "\"\\x\"")
    ∷ no_json (codes "\"\\u12g4\"")
    ∷ no_json (codes "\"a")
    ∷ []

strings_read : AllRead string_rows
unfolding string_rows no_json reading run run_for token_at token_from pieces_at code_unit chars is_utf8 encode numeral_at numeral_front fraction_len exponent_len whole_end fraction_end number_end
strings_read = all_read string_rows refl

text_rows : List Row
text_rows =
    ([], blank)
    ∷ (32 ∷ 9 ∷ 13 ∷ [], blank)
    ∷ no_json (32 ∷ 10 ∷ [])
    ∷ (codes " null ", item null)
    ∷ (codes "true\r", item (boolean true))
    ∷ (codes "[ ]", item (array_of_list []))
    ∷ (codes "[false, {}]", item (array_of_list (boolean false ∷ object_of_pairs [] ∷ [])))
    ∷ (codes "{\"k\":1,\"m\":2,\"k\":3}", item (object_of_pairs ((codes "k", integer (pos 3)) ∷ (codes "m", integer (pos 2)) ∷ [])))
    ∷ no_json (codes "[1e20,")
    ∷ no_json (codes "[1,]")
    ∷ no_json (codes "[1}")
    ∷ no_json (codes "{\"a\"}")
    ∷ no_json (codes "{\"a\":1,}")
    ∷ no_json (codes "{a:1}")
    ∷ no_json (codes "nul")
    ∷ no_json (codes "nullx")
    ∷ no_json (codes "True")
    ∷ no_json (239 ∷ 187 ∷ 191 ∷ 49 ∷ [])
    ∷ []

texts_read : AllRead text_rows
unfolding text_rows no_json reading run run_for token_at token_from pieces_at chars is_utf8 encode numeral_at numeral_front fraction_len exponent_len whole_end fraction_end number_end near_natural near units_said
texts_read = all_read text_rows refl

nested : ℕ → Datum
nested zero = array_of_list []
nested (suc n) = array_of_list (nested n ∷ [])

deep_rows : List Row
deep_rows =
    (replicate 128 91 ++ replicate 128 93, item (nested 127))
    ∷ (replicate 129 91 ++ replicate 129 93, fault PJDY0002)
    ∷ (codes "[1e20," ++ replicate 128 91 ++ replicate 129 93, fault PJDY0004)
    ∷ (replicate 129 91 ++ codes "1e20" ++ replicate 129 93, fault PJDY0002)
    ∷ no_json (replicate 129 91 ++ replicate 128 93)
    ∷ []

deep_read : AllRead deep_rows
unfolding deep_rows nested no_json reading run run_for token_at token_from numeral_at numeral_front fraction_len exponent_len whole_end fraction_end number_end near_natural near units_said
deep_read = all_read deep_rows refl
