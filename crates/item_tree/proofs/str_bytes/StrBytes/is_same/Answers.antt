use Rattle.std.proofs.Common.{◌&&◌, sym, ap, subst, ◌∙◌}
use Rattle.std.specs.Str.{bytes_eq}
use Rattle.item_tree.specs.inside.StrBytes.{IsHeld, IsShort}
use Rattle.item_tree.proofs.ShortTexts.{number_same, short_same}
use Rattle.item_tree.proofs.str_bytes.StrBytes.is_same.Goals as goal

pub returns-then-n-m : goal.returns-then-n-m
returns-then-n-m c =
    let n = c.in-Short.n in
    let m = c.in-Short-other.m in
    let a = c.in-Short.bytes in
    let b = c.in-Short-other.others in
    let own : IsShort n a = subst IsHeld c.in-Short.is c.requires.own in
    let other : IsShort m b = subst IsHeld c.in-Short-other.is c.requires.other in
    rw (c.in-Short.is, c.in-Short-other.is) (c.have_same_words.ensures ∙ ap (λ v. v && bytes_eq a b) (sym (number_same n m c.if-n-m.true)) ∙ short_same n m a b own other)
