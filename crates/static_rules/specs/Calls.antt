-- What is called.
use Rattle.std.specs.Prelude.{ℕ, Option, Some, None, List, [], ◌∷◌}
use Rattle.query_tree.specs.declared.names.TypeName.{TypeName}
use Rattle.query_tree.specs.Plain as p
use Rattle.query_tree.specs.Plain.{Form}
use Rattle.query_tree.specs.NamedViews.{NamedTree}
use Rattle.static_rules.specs.Views.{NamedTrees}

-- the string that an expression is, where it is spelled out
abbrev pub text_in : Form (List ℕ) (List ℕ) TypeName → Option (List ℕ)
text_in (p.text_form value) = Some value
text_in _ = None

abbrev pub text_of : NamedTree → Option (List ℕ)
text_of (p.tree_node place kind) = text_in kind

-- the strings among the arguments that are spelled out, in order
abbrev pub and_text : Option (List ℕ) → List (List ℕ) → List (List ℕ)
and_text None texts = texts
and_text (Some text) texts = text ∷ texts

abbrev pub texts_of : NamedTrees → List (List ℕ)
texts_of p.no_trees = []
texts_of (p.more_trees t ts) = and_text (text_of t) (texts_of ts)
