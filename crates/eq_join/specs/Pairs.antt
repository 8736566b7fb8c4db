-- Pairs of a key with the keys of a list that are equal to it.
use Rattle.std.specs.Prelude.{ℕ, suc, Bool, true, false, List, [], ◌∷◌, Option, Some, None, Result, Ok, Err}
use Rattle.item_tree.specs.declared.code.Code.{Code}
use Rattle.item_tree.specs.Datum.{Datum}
use Rattle.tuple_rows.specs.Keys.{KeyList}
use Rattle.atom_ops.specs.declared.comparison.Cmp.TheVariants.{Eq}
use Rattle.atom_ops.specs.Comparison.{value_comparison}
use Rattle.eq_join.specs.declared.pair_fault.PairFault.{PairFault}

-- the sequence that a key is: empty, or one item
abbrev pub operand : Option Datum → List Datum
operand None = []
operand (Some v) = v ∷ []

-- whether two keys are equal by value; nothing where one is empty
abbrev pub key_comparison : Option Datum → Option Datum → Result (Option Bool) Code
key_comparison k l = value_comparison Eq (operand k) (operand l)

-- a position whose comparison holds goes before the later ones; a comparison that is an error is
-- all there is
abbrev pub with_pair : Result (Option Bool) Code → ℕ → Result (List ℕ) PairFault
    → Result (List ℕ) PairFault
with_pair (Ok None) at later = later
with_pair (Ok (Some false)) at later = later
with_pair (Ok (Some true)) at (Ok js) = Ok (at ∷ js)
with_pair (Ok (Some true)) at (Err f) = Err f
with_pair (Err e) at later = Err (record { code = e; at = at })

-- the same of a list whose first key has this position
abbrev pub pairs_from : Option Datum → ℕ → KeyList → Result (List ℕ) PairFault
pairs_from k at [] = Ok []
pairs_from k at (l ∷ ls) = with_pair (key_comparison k l) at (pairs_from k (suc at) ls)

-- the positions, from 0, of the keys that are equal to this one, or the first of the keys that
-- cannot be compared with it
abbrev pub pairs : Option Datum → KeyList → Result (List ℕ) PairFault
pairs k ls = pairs_from k 0 ls
