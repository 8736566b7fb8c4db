-- How many files a driver opens.
use Rattle.std.specs.Prelude.{ℕ, ◌+◌, ◌*◌, ◌/◌, max, min, List, [], ◌∷◌, length, map, Option, None, Some}
use Rattle.outside.specs.World.{World, file_of}
use Rattle.line_pieces.specs.Cuts.{Cutting, size_used, pieces_of}

-- how many files stand open at most, all in all
abbrev pub most_files : ℕ
most_files = 512

-- how many sets of k files are opened: one for each worker, but no more than there are pieces, and
-- no more than all files may be; one at least
abbrev pub seats_of : (workers pieces k : ℕ) → ℕ
seats_of workers pieces k = max 1 (min workers (min pieces (most_files / max k 1)))

-- this file and these, where all of them are there
abbrev pub and_files : {A : Type 0} → Option A → Option (List A) → Option (List A)
and_files (Some file) (Some files) = Some (file ∷ files)
and_files (Some file) None = None
and_files None files = None

-- the bytes of the files of these names in order, where each of them is there
abbrev pub files_of : World → List (List ℕ) → Option (List (List ℕ))
files_of world [] = Some []
files_of world (name ∷ names) = and_files (file_of world name) (files_of world names)

-- one more than this, where the file is there
abbrev pub one_more : {A : Type 0} → Option A → ℕ → ℕ
one_more (Some file) n = 1 + n
one_more None n = 0

-- how many of these names come before the first that is missing
abbrev pub found_before : World → List (List ℕ) → ℕ
found_before world [] = 0
found_before world (name ∷ names) = one_more (file_of world name) (found_before world names)

-- how files are cut, of which the wanted size of pieces is this
abbrev pub cutting_of : List (List ℕ) → ℕ → Cutting
cutting_of files wanted = record {
  lengths = map length files;
  size = size_used (map length files) wanted;
}

-- how many pieces a cut has
abbrev pub pieces_in_all : Cutting → ℕ
pieces_in_all cut = pieces_of cut.size cut.lengths

-- how many files are opened where all are there: a file of each name for each set
abbrev pub opens_of : (workers wanted : ℕ) → List (List ℕ) → ℕ
opens_of workers wanted files =
    length files * seats_of workers (pieces_in_all (cutting_of files wanted)) (length files)

abbrev pub opens_or : (workers wanted found : ℕ) → Option (List (List ℕ)) → ℕ
opens_or workers wanted found (Some files) = opens_of workers wanted files
opens_or workers wanted found None = found

-- How many files a driver of these names opens: where each name is there, a file of each for each
-- set. Else the files of the names before the first that is missing, which are closed at once.
unfoldable pub driver_opens : World → (workers wanted : ℕ) → List (List ℕ) → ℕ
driver_opens world workers wanted names =
    opens_or workers wanted (found_before world names) (files_of world names)
