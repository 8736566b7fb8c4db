use Rattle.std.proofs.Common.{ap, codes, ◌≡◌, ◌∙◌, map, drop, Some, subst}
use Rattle.std.proofs.lemmas.Result.{IfErr-weaker, IfOk-weaker}
use Rattle.clap.specs.Words.{App, is_simple, matches_of, takes, first_of, one_of, found_of}
use Rattle.clap.proofs.WalkLemmas.{first_value-rows, one_text-rows}
use Rattle.run_words.specs.Table.{id_of}
use Rattle.run_words.specs.Given.{given}
use Rattle.run_words.specs.inside.Command.{app_for}
use Rattle.run_words.specs.declared.table.Verb.{Verb}
use Rattle.run_words.proofs.Rules.{simple}
use Rattle.run_words.proofs.Taken.{takes_if, values_given, stats_given}
use Rattle.run_words.proofs.command.matches_of.Goals as goal

pub returns-clause-memory : goal.returns-clause-memory
returns-clause-memory g c =
    let ws = map g.S.AsStr.text c.args.words.now in
    IfErr-weaker c.try_get_matches_from.result _ _ (λ e h. h (ap (λ (a : App). takes a ws) c.in_ok-command.ensures ∙ takes_if c.args.verb ws c.requires)) c.try_get_matches_from.ensures.passes

pub returns-clause-values : goal.returns-clause-values
returns-clause-values g c =
    let ws = map g.S.AsStr.text c.args.words.now in
    IfOk-weaker c.try_get_matches_from.result _ _
    (λ m h uses g n f. first_value-rows (found_of m) (id_of n) ∙ ap (first_of (id_of n)) (h (ap is_simple c.in_ok-command.ensures ∙ simple c.args.verb)).0
    ∙ ap (λ (a : App). first_of (id_of n) (matches_of a ws)) c.in_ok-command.ensures ∙ values_given c.args.verb ws uses n g f)
    c.try_get_matches_from.ensures.matches

pub returns-clause-stats : goal.returns-clause-stats
returns-clause-stats g c =
    let ws = map g.S.AsStr.text c.args.words.now in
    IfOk-weaker c.try_get_matches_from.result _ _
    (λ m h is uses e. one_text-rows (found_of m) (codes "stats") ∙ ap (one_of (codes "stats")) (h (ap is_simple c.in_ok-command.ensures ∙ simple c.args.verb)).0
    ∙ ap (λ (a : App). one_of (codes "stats") (matches_of a ws)) (c.in_ok-command.ensures ∙ ap app_for is) ∙ stats_given ws uses (subst (λ (v : Verb). given v (drop 1 ws) ≡ Some uses) is e))
    c.try_get_matches_from.ensures.matches
