-- What a plan says of a query, as text.
use Rattle.std.specs.Prelude.{ℕ, List, [], ◌∷◌, ◌++◌}
use Rattle.std.specs.List.{flat_map}
use Rattle.std.specs.Fmt.{decimal}
use Rattle.mode_planner.specs.declared.plan.Line.{Line}
use Rattle.mode_planner.specs.Plans.{LeafPlan}
use Rattle.mode_planner.specs.Words.{label_word, mode_word}
use Rattle.text_places.specs.Places.{line_of, column_of}

-- `LINE:COLUMN`
abbrev pub place_at : ℕ → ℕ → List ℕ
place_at row column = decimal row ++ 58 ∷ decimal column

-- `LINE:COLUMN WORD MODE`, and a LF
abbrev pub line_at : ℕ → ℕ → Line → List ℕ
line_at row column l =
    place_at row column ++ (32 ∷ label_word l.label) ++ (32 ∷ mode_word l.mode) ++ 10 ∷ []

-- with the place in the query
abbrev pub line_text : List ℕ → Line → List ℕ
line_text query l = line_at (line_of query l.place) (column_of query l.place) l

-- the lines of all leaves, one leaf after the other
abbrev pub explain_text : List ℕ → List LeafPlan → List ℕ
explain_text query leaves = flat_map (line_text query) (flat_map (λ l. l.lines) leaves)
