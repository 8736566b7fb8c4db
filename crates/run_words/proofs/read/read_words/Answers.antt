use Rattle.std.proofs.Common.{◌≡◌, ◌∙◌, ap, sym, map, drop}
use Rattle.std.specs.Str.{encode_utf8_all}
use Rattle.run_words.specs.Asked.{task_of}
use Rattle.run_words.proofs.Tasks.{asks, within}
use Rattle.run_words.proofs.read.read_words.Goals as goal

pub returns-clause-within : goal.returns-clause-within
returns-clause-within c =
    let ws = map encode_utf8_all c.args.words.now in
    let texts : map (λ t. t.now) c.deref.result.now ≡ ws = ap (map (λ t. t.now)) c.deref.ensures.value ∙ c.in_ok-texts.ensures in
    within ws c.in_ok-task.task ((asks ws c.in-Some.verb c.in-Some.ensures).1 ∙ ap (λ xs. task_of c.in-Some.verb (drop 1 xs)) (sym texts) ∙ c.in_ok-task.ensures)
