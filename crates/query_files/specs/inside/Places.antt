-- How contracts see a place in a file.
use Rattle.std.specs.Prelude.{ℕ, zero, suc, List, [], ◌∷◌, length, get_or, Option, None, Some, option_map}
use Rattle.item_reader.specs.Lines.{without_mark}
use Rattle.module_names.specs.declared.file_bytes.Kept.{Kept}
use Rattle.module_names.specs.declared.order.File.{File}
use Rattle.query_files.specs.Merged.{Place}
use Rattle.query_files.specs.declared.texts.Located.{Located}

-- how long the text of a file is
abbrev pub text_length : File (Kept (Unit {0})) → ℕ
text_length f = length (without_mark f.source.rest.contents)

-- the name of the file at this position, which is a library unless it is the last one
abbrev pub library_at : List (File (Kept (Unit {0}))) → ℕ → Option (List ℕ)
library_at [] position = None
library_at (f ∷ []) position = None
library_at (f ∷ g ∷ fs) zero = Some f.name
library_at (f ∷ g ∷ fs) (suc position) = library_at (g ∷ fs) position

-- a place in the text of the file at this position
abbrev pub place_at : List (File (Kept (Unit {0}))) → ℕ → ℕ → File (Kept (Unit {0})) → Place
place_at files position place d = record {
  library = library_at files position;
  text = without_mark (get_or files position d).source.rest.contents;
  at = place;
}

abbrev pub place_of : Located → Place
place_of l = record {
  library = option_map (λ n. n.now) l.library;
  text = l.text.now;
  at = l.place;
}
