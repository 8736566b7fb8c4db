-- The query of a trial, and the inputs over which it is run.
use Rattle.std.specs.Prelude.{ℕ, List, [], ◌∷◌, ◌++◌, codes}
use Rattle.line_maker.specs.Lines.{made_lines}
use Rattle.outside.specs.World.{World}

abbrev pub trial_query : List ℕ
trial_query =
    codes "for $x in json-lines(\"trial\") where $x instance of object "
    ++ codes "group by $k := $x.k order by $k return {\"k\":$k,\"n\":count($x),\"sum\":sum($x.v)}"

-- one input, with lines that are made from a number
abbrev pub trial_world : ℕ → ℕ → World
trial_world number lines = (codes "trial", made_lines number lines) ∷ []
