use Rattle.std.proofs.Common.{◌≡◌, ◌+◌, sym, ◌∙◌, ap, subst, arith, IfSome, IfOk, drop, length}
use Rattle.std.proofs.lemmas.List.{take_rest}
use Rattle.std.specs.Str.{IsUtf8, chars}
use Rattle.std.specs.String.{string_vec}
use Rattle.json_text.specs.inside.Scan.{string_at}
use Rattle.query_lexer.proofs.ValueLemmas.{token_valued, value_read, value_ok}
use Rattle.query_lexer.proofs.value.text_value.Goals as goal

pub slice_bounds-spelled_bytes-count : goal.slice_bounds-spelled_bytes-count
slice_bounds-spelled_bytes-count c =
    let v = token_valued c.args.text.now c.args.token.now c.utf8.text c.requires.listed c.requires.kind in
    omega (arith, v.within, ap length c.as_bytes-bytes.ensures.value)

pub slice_bounds-spelled_bytes-start : goal.slice_bounds-spelled_bytes-start
slice_bounds-spelled_bytes-start c =
    let v = token_valued c.args.text.now c.args.token.now c.utf8.text c.requires.listed c.requires.kind in
    omega (arith, v.within, ap length c.as_bytes-bytes.ensures.value)

pub unwrap-requires : goal.unwrap-requires
unwrap-requires c =
    let v = token_valued c.args.text.now c.args.token.now c.utf8.text c.requires.listed c.requires.kind in
    let k = c.args.token.now.from + 1 in
    let seam = take_rest c.as_bytes-bytes.result.now k ∙ ap (drop k) c.as_bytes-bytes.ensures.value in
    let items = value_read c.args.text.now c.args.token.now v c.in_ok-value.value.items (subst (λ t. IfSome (string_at t) (λ p. c.in_ok-value.value.items ≡ p.0)) seam c.in_ok-value.ensures) in
    c.from_utf8.ensures.succeeds (subst IsUtf8 (sym items) v.utf8)

pub returns : goal.returns
returns c =
    let v = token_valued c.args.text.now c.args.token.now c.utf8.text c.requires.listed c.requires.kind in
    let k = c.args.token.now.from + 1 in
    let seam = take_rest c.as_bytes-bytes.result.now k ∙ ap (drop k) c.as_bytes-bytes.ensures.value in
    let items = value_read c.args.text.now c.args.token.now v c.in_ok-value.value.items (subst (λ t. IfSome (string_at t) (λ p. c.in_ok-value.value.items ≡ p.0)) seam c.in_ok-value.ensures) in
    let whole = subst (λ r. IfOk r (λ t. string_vec t ≡ c.in_ok-value.value)) c.unwrap.ensures c.from_utf8.ensures.ok in
    value_ok c.args.text.now c.in_ok-value.value.items c.args.token.now v c.from_string.result items (subst (λ b. IfOk c.from_string.result (λ s. s ≡ chars b)) (ap (λ w. w.items) whole) c.from_string.ensures)
