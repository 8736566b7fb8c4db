-- Texts that are put together to a query.
use Rattle.std.specs.Prelude.{◌≡◌, ◌⊎◌, ◌+◌, ◌-◌, ℕ, nat_lt, List, [], ◌∷◌, ◌++◌, Option, Some, None, length, codes, if◌then◌else◌}
use Rattle.std.specs.Str.{encode_utf8_all}
use Rattle.item_tree.specs.declared.code.Code.{Code}
use Rattle.query_grammar.specs.Nodes.{Module}
use Rattle.module_names.specs.Loading.{merged}
use Rattle.text_places.specs.Places.{place_text}
use Rattle.query_files.specs.Files.{IsModuleAt, IsRefusedFrom}

-- ---- texts

-- the texts of a query and of its libraries with the names of these files, in the order in which
-- they are put together: the query's is the last
abbrev pub Texts : Type 0
Texts = List (List ℕ × List ℕ)

-- how long they are
abbrev pub total : Texts → ℕ
total [] = 0
total (t ∷ ts) = length t.1 + total ts

-- the query's text, and the place of its first byte
abbrev pub query_text : Texts → List ℕ
query_text [] = []
query_text (t ∷ []) = t.1
query_text (t ∷ u ∷ ts) = query_text (u ∷ ts)

abbrev pub query_start : Texts → ℕ
query_start [] = 0
query_start (t ∷ []) = 0
query_start (t ∷ u ∷ ts) = length t.1 + query_start (u ∷ ts)

-- a place in a file with this text: a library's, or the query's
pub record Place : Type 0 where
  pub library : Option (List ℕ)
  pub text : List ℕ
  pub at : ℕ

-- where a place of all texts stands
abbrev pub place_in : Texts → ℕ → Place
place_in [] place = record { library = None; text = []; at = place }
place_in (t ∷ []) place = record { library = None; text = t.1; at = place }
place_in (t ∷ u ∷ ts) place =
    if nat_lt place (length t.1)
    then record { library = Some t.0; text = t.1; at = place }
    else place_in (u ∷ ts) (place - length t.1)

-- ` in NAME` for a library
abbrev pub library_text : Option (List ℕ) → List ℕ
library_text None = []
library_text (Some name) = codes " in " ++ encode_utf8_all name

-- `LINE:COLUMN`, with the name of a library behind it
abbrev pub where_text : Place → List ℕ
where_text p = place_text p.text p.at ++ library_text p.library

-- ---- modules that are put together

-- the modules of these texts, of which the first begins at this place
abbrev pub AreModulesAt : ℕ → Texts → List Module → Type 0
AreModulesAt start [] ms = ms ≡ []
AreModulesAt start (t ∷ ts) [] = ⊥
AreModulesAt start (t ∷ ts) (m ∷ ms) =
    IsModuleAt start t.1 m × AreModulesAt (start + length t.1) ts ms

-- the declarations of all texts in their order, and the query's body
pub record IsMerged (texts : Texts) (whole : Module) : Type 0 where
  pub libraries : List Module
  pub query : Module
  pub modules : AreModulesAt 0 texts (libraries ++ query ∷ [])
  pub is : whole ≡ merged libraries query

-- the first of these texts that is refused where it stands, and how. The grammar would have to look
-- at places for that: each of the texts was read alone and not refused
abbrev pub AreRefusedFrom : ℕ → Texts → Code → ℕ → Type 0
AreRefusedFrom start [] code place = ⊥
AreRefusedFrom start (t ∷ ts) code place =
    IsRefusedFrom start t.1 code place
    ⊎ (((tree : Module) × IsModuleAt start t.1 tree)
    × AreRefusedFrom (start + length t.1) ts code place)
