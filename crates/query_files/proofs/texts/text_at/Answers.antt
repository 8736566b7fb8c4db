use Rattle.std.proofs.Common.{ap, ◌∙◌}
use Rattle.std.proofs.lemmas.List.{get_or_default}
use Rattle.item_reader.specs.Lines.{without_mark}
use Rattle.module_names.specs.declared.file_bytes.Kept.{Kept}
use Rattle.module_names.specs.declared.order.File.{File}
use Rattle.query_files.proofs.texts.text_at.Goals as goal

pub returns : goal.returns
returns c = λ d.
    c.text.ensures
    ∙ ap (λ (f : File (Kept (Unit {0}))). without_mark f.source.rest.contents)
    (c.index-files-position.is ∙ get_or_default c.args.files.now c.args.position c.index-files-position.result d c.requires)
