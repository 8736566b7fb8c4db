-- How contracts see a query that some texts were put together to.
use Rattle.std.specs.Prelude.{◌≡◌, ◌+◌, ℕ, List, length}
use Rattle.query_tree.specs.NamedViews.{named_query}
use Rattle.query_files.specs.Files.{IsModuleAt}
use Rattle.query_files.specs.Merged.{Texts, IsMerged, total, query_start}
use Rattle.query_files.specs.declared.merging.Growing.{Growing}

-- it is this text alone, from this place on
pub record IsGrownFrom (start : ℕ) (text : List ℕ) (g : Growing) : Type 0 where
  pub module_ : IsModuleAt start text (named_query g.whole)
  pub start_ : g.start ≡ start
  pub end_ : g.end ≡ start + length text

-- these are the texts, and here the last begins and ends
pub record Grows (texts : Texts) (g : Growing) : Type 0 where
  pub merged_ : IsMerged texts (named_query g.whole)
  pub start_ : g.start ≡ query_start texts
  pub end_ : g.end ≡ total texts
