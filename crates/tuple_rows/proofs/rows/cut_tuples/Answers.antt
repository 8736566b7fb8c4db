use Rattle.std.proofs.Common.{sym, ◌∙◌, ap, subst, List, [], ◌∷◌, ◌++◌, Vec}
use Rattle.std.specs.declared.alloc.Global.{Global}
use Rattle.std.proofs.lemmas.List.{nil_from_length}
use Rattle.tuple_rows.specs.declared.tuple.Tuple.{Tuple}
use Rattle.tuple_rows.specs.Tuples.{AllOfWidth, Table, row_list}
use Rattle.tuple_rows.proofs.Cutting.{put_width, cut_stays, cut_fills, cut_result}
use Rattle.tuple_rows.proofs.rows.cut_tuples.Goals as goal

pub of-requires : goal.of-requires
of-requires c =
    subst (λ (us : List Tuple). AllOfWidth c.args.width (row_list us)) (ap (λ v. v.items) (sym c.replace-full.ensures.value))
    (put_width _ _ _ _ _ c.push.new.self.items _ _ c.in-Some.tuple c.loop-tuple.invariant c.in-Some.ensures.steps.0 c.in_ok-push.ensures.items)

pub loop-tuple-preserved-in-Continue-branch-2 : goal.loop-tuple-preserved-in-Continue-branch-2
loop-tuple-preserved-in-Continue-branch-2 c =
    cut_fills _ _ _ _ c.push-then-len-size.new.self.items _ c.push.new.self.items c.replace-full.new.dest.items _ _ c.in-Some.tuple
    c.requires.size c.loop-tuple.invariant c.in-Some.ensures.steps.0 c.in_ok-push.ensures.items
    (sym (c.push.new.self.ok.0) ∙ sym c.len.ensures ∙ c.if-len-size.true)
    (c.in_ok-push-2.ensures.items
    ∙ ap (λ (t : Table). c.loop-tuple.whole.items ++ t ∷ [])
    (c.of.ensures ∙ ap (λ (v : Vec Tuple Global). record { width = c.args.width; tuples = row_list v.items }) c.replace-full.ensures.value))
    (ap (λ v. v.items) c.replace-full.ensures.after ∙ c.new.ensures.items)

pub loop-tuple-preserved : goal.loop-tuple-preserved
loop-tuple-preserved c =
    cut_stays _ _ _ _ _ c.push.new.self.items _ _ c.in-Some.tuple c.loop-tuple.invariant c.in-Some.ensures.steps.0 c.in_ok-push.ensures.items
    (λ e. c.if-len-size.false (c.len.ensures ∙ c.push.new.self.ok.0 ∙ e))

pub returns : goal.returns
returns c = cut_result _ _ _ _ _ _ c.with_last.result c.loop-tuple.invariant (nil_from_length _ (sym (c.loop-tuple.tuple-iterator.rest.ok.0) ∙ c.in-None.ensures.steps.0)) c.with_last.ensures
