use Rattle.std.proofs.Common.{map, drop, codes}
use Rattle.std.proofs.lemmas.Result.{IfOk-weaker}
use Rattle.clap.specs.Words.{first_value, found_of, one_text}
use Rattle.run_words.specs.Table.{id_of}
use Rattle.run_words.proofs.Tasks.{task_is, workers_text, partition_text, number_text, lines_text}
use Rattle.run_words.proofs.read.task_of.Goals as goal

pub task_from-requires-clause-workers : goal.task_from-requires-clause-workers
task_from-requires-clause-workers c = workers_text c.args.verb (drop 1 (map (λ t. t.now) c.args.texts.now)) (λ n. first_value (found_of c.in-Ok.matches) (id_of n)) c.requires c.in-Ok.ensures.values

pub task_from-requires-clause-partition : goal.task_from-requires-clause-partition
task_from-requires-clause-partition c = partition_text c.args.verb (drop 1 (map (λ t. t.now) c.args.texts.now)) (λ n. first_value (found_of c.in-Ok.matches) (id_of n)) c.requires c.in-Ok.ensures.values

pub task_from-requires-clause-number : goal.task_from-requires-clause-number
task_from-requires-clause-number c = number_text c.args.verb (drop 1 (map (λ t. t.now) c.args.texts.now)) (λ n. first_value (found_of c.in-Ok.matches) (id_of n)) c.requires c.in-Ok.ensures.values

pub task_from-requires-clause-lines : goal.task_from-requires-clause-lines
task_from-requires-clause-lines c = lines_text c.args.verb (drop 1 (map (λ t. t.now) c.args.texts.now)) (λ n. first_value (found_of c.in-Ok.matches) (id_of n)) c.requires c.in-Ok.ensures.values

pub returns : goal.returns
returns c =
    IfOk-weaker c.task_from.result _ _
    (λ t h. task_is c.args.verb (drop 1 (map (λ t. t.now) c.args.texts.now)) (λ n. first_value (found_of c.in-Ok.matches) (id_of n)) (one_text (found_of c.in-Ok.matches) (codes "stats")) t c.requires c.in-Ok.ensures.values c.in-Ok.ensures.stats h)
    c.task_from.ensures
