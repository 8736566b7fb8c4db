use Rattle.std.proofs.Common.{◌&&◌, nat_eq, sym, ap, ◌∙◌, arith}
use Rattle.item_tree.proofs.ShortTexts.{number_same, words_decide}
use Rattle.item_tree.proofs.str_bytes.have_same_words.Goals as goal

pub returns-then-first_word : goal.returns-then-first_word
returns-then-first_word c =
    let x = c.first_word.result in
    let y = c.first_word-2.result in
    let z = c.last_word.result in
    let w = c.last_word-then-first_word.result in
    let same = words_decide c.args.a.now c.args.b.now x y z w (omega arith) (omega arith) (λ i. omega (arith, c.fits-a)) (λ i. omega (arith, c.fits-b))
    c.first_word.ensures c.first_word-2.ensures c.last_word.ensures c.last_word-then-first_word.ensures in
    ap (λ v. v && nat_eq z w) (sym (number_same x y c.if-first_word.true)) ∙ same
