use Rattle.std.proofs.Common.{◌≡◌, ◌+◌, ◌∙◌, length, arith}
use Rattle.module_names.proofs.Steps.{count_code}
use Rattle.module_names.proofs.order.count_files.Goals as goal

pub returns : goal.returns
returns g c =
    let deep = c.len.ensures ∙ c.args.loading.now.path.ok.0 in
    let wide = c.len-2.ensures ∙ c.args.loading.now.done.ok.0 in
    let many : c.len.result + c.len-2.result ≡ length c.args.loading.now.path.items + length c.args.loading.now.done.items = omega (arith, deep, wide) in
    count_code c.args.loading.now.path.items c.args.loading.now.done.items (c.len.result + c.len-2.result) many
