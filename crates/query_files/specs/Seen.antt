-- How contracts see what was read and put together.
use Rattle.std.specs.Prelude.{ℕ, List, Option, None, Some, Result, Ok, Err}
use Rattle.query_tree.specs.NamedViews.{named_query}
use Rattle.module_names.specs.Remaining.{source_view, refusal_of}
use Rattle.module_names.specs.declared.alone.Unread.{Unread}
use Rattle.module_names.specs.declared.alone.Unread.TheVariants as alone
use Rattle.module_names.specs.declared.order.Source.{Source}
use Rattle.query_files.specs.Files.{Reading, unread}
use Rattle.query_files.specs.Found.{Found, no_query, unloaded, together, refusal_place}
use Rattle.query_files.specs.Merged.{where_text}
use Rattle.query_files.specs.declared.finding.Together.{Together}
use Rattle.query_files.specs.declared.finding.Unfound.{Unfound}
use Rattle.query_files.specs.declared.finding.Unfound.TheVariants as fault

-- a reading that was made, where memory was there
abbrev pub reading_of : Result (Source (Unit {0})) Unread → Option Reading
reading_of (Ok source) = Some (Ok (source_view source))
reading_of (Err (alone.Refused code place)) = Some (unread code place)
reading_of (Err alone.NoMemory) = None

-- what was found, unless reading failed or memory ran out
abbrev pub found_of : List ℕ → Result Together Unfound → Option Found
found_of name (Ok t) = Some (together t.texts (named_query t.query))
found_of name (Err (fault.Refused r contents)) =
    Some (unloaded r.code (where_text (refusal_place name (refusal_of r) contents)) r.opened)
found_of name (Err fault.NoQuery) = Some no_query
found_of name (Err fault.ReadFault) = None
found_of name (Err fault.NoMemory) = None
