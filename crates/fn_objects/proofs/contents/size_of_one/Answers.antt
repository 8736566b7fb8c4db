use Rattle.std.proofs.Common.{◌≡◌, pos, length, arith}
use Rattle.std.proofs.lemmas.Int.{ints}
use Rattle.fn_objects.proofs.ListLemmas.{size_is}
use Rattle.fn_objects.proofs.contents.size_of_one.Goals as goal

pub returns-in_ok-alone-in-Array-clause-value : goal.returns-in_ok-alone-in-Array-clause-value
returns-in_ok-alone-in-Array-clause-value c =
    let e : c.new.result ≡ pos (length c.as_slice-size.result.now) = omega (arith, ints) in
    rw c.in-Array.is (size_is _ c.as_slice-size.result.now c.in_ok-alone-in-Array.field-0.items c.new.result c.as_slice-size.ensures.value e c.in_ok-alone-in-Array.ensures)
