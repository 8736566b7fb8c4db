use Rattle.std.proofs.Common.{◌≡◌, ◌∙◌, [], List, refl, sym, ap, subst, length, arith}
use Rattle.order_runs.specs.declared.column_seen.ColumnSeen.{ColumnSeen}
use Rattle.order_runs.specs.Seen.{columns_seen}
use Rattle.order_runs.specs.inside.Follow.{AllWithin}
use Rattle.order_runs.proofs.ColumnLists.{columns_empty, within_empty, length-columns}
use Rattle.order_runs.proofs.class_seen.ClassSeen.new.Goals as goal

pub invariant_of-result : goal.invariant_of-result
invariant_of-result c =
    let e : c.in_ok-columns.columns.items ≡ columns_seen c.args.columns [] =
    c.in_ok-columns.ensures.items_if_clones_equal (λ y h. h) ∙ sym (columns_empty c.args.columns) in
    let l : length c.in_ok-columns.columns.items ≡ c.args.columns = ap length e ∙ length-columns c.args.columns [] in
    record {
      most_tuples = omega arith;
      most_columns = omega arith;
      within = subst (λ (cs : List ColumnSeen). AllWithin 0 cs) (sym e) (within_empty 0 c.args.columns);
    }

pub returns-clause-stands : goal.returns-clause-stands
returns-clause-stands c =
    let e : c.in_ok-columns.columns.items ≡ columns_seen c.args.columns [] =
    c.in_ok-columns.ensures.items_if_clones_equal (λ y h. h) ∙ sym (columns_empty c.args.columns) in
    let l : length c.in_ok-columns.columns.items ≡ c.args.columns = ap length e ∙ length-columns c.args.columns [] in
    record { tuples = refl; columns = e ∙ ap (λ n. columns_seen n []) (sym l); counted = tt }
