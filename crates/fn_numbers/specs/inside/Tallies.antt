-- What is kept of a list that is summed.
use Rattle.std.specs.Prelude.{ℕ, List, Result, Ok, Err}
use Rattle.item_tree.specs.declared.code.Code.{Code}
use Rattle.item_tree.specs.declared.code.Code.TheVariants.{FORG0006}
use Rattle.item_tree.specs.Datum.{Datum}
use Rattle.num_fixed.specs.Totals.{Tally, one, joined, tally_of}
use Rattle.value_rules.specs.Numbers.{addend, addends}
use Rattle.value_rules.specs.Operands.{and_then}
use Rattle.fn_numbers.specs.declared.tallies.Tallied.{Tallied}
use Rattle.fn_numbers.specs.declared.tallies.Tallied.TheVariants.{Numbers, NoNumber}

abbrev pub tally_kept : Tallied → Result Tally Code
tally_kept (Numbers t) = Ok t
tally_kept NoNumber = Err FORG0006

-- the exact total of a list, or the error of an item that is no number
abbrev pub tally : List Datum → Result Tally Code
tally vs = and_then (addends vs) (λ xs. Ok (tally_of xs))

abbrev pub one_more : Result Tally Code → Datum → Result Tally Code
one_more r v = and_then r (λ t. and_then (addend v) (λ x. Ok (joined t (one x))))

abbrev pub both : Result Tally Code → Result Tally Code → Result Tally Code
both r s = and_then r (λ t. and_then s (λ u. Ok (joined t u)))

-- how many numbers are counted
abbrev pub numbers_kept : Tallied → ℕ
numbers_kept (Numbers t) = t.count
numbers_kept NoNumber = 0
