use Rattle.std.proofs.Common.{◌++◌, [], sym, ap}
use Rattle.query_tree.specs.inside.Waiting.{waiting}
use Rattle.mode_planner.proofs.NotTold.{not_passed, nothing_onward}
use Rattle.mode_planner.proofs.Walking.{leaf-found, stands-onward}
use Rattle.mode_planner.proofs.spine.visit.Goals as goal

pub returns-in_ok-push-in_default : goal.returns-in_ok-push-in_default
returns-in_ok-push-in_default c =
    let e = c.args.tree.now in
    record {
      stack = ap (λ ts. ts ++ waiting c.args.stack.now.items) (sym (stands-onward e [] (nothing_onward e.kind c.in_default.not-Comma c.in_default.not-Paren c.in_default.not-Try)));
      found = leaf-found c.args.found.now.items c.push-in_default.new.self.items c.args.tree c.in_ok-push-in_default.ensures.items (not_passed e.kind c.in_default.not-Comma c.in_default.not-Paren c.in_default.not-Try);
    }
