-- What the first stage of a FLWOR ends in.
use Rattle.std.proofs.Common.{◌≡◌, ℕ, List, [], ◌∷◌, refl, arith}
use Rattle.seq_types.specs.declared.types.SeqType.{SeqType}
use Rattle.query_tree.specs.BoundViews.{bound_clause}
use Rattle.query_tree.specs.declared.bound.Slot.{Slot}
use Rattle.query_tree.specs.declared.bound.Target.{Target}
use Rattle.query_tree.specs.declared.clause.Clause.{Clause}
use Rattle.piece_board.specs.Trouble.{AllRise}
use Rattle.piece_run.specs.Flwors.{EndIs, EndsIn}
use Rattle.piece_run.specs.declared.first_end.FirstEnd.{FirstEnd}
use Rattle.piece_run.specs.declared.first_end.FirstEnd.TheVariants as first
use Rattle.piece_run.proofs.FlworParts.{Clauses}

-- what stays as it was does not fall
pub none_falls : (xs : List ℕ) → AllRise xs xs
none_falls [] = tt
none_falls (x ∷ xs) = (omega arith, none_falls xs)

-- this end, and the clauses after it
pub record NextIs (end : FirstEnd) (left : Clauses) : Type 0 where
  pub clause : Clause Slot Target SeqType
  pub rest : Clauses
  pub left_is : left ≡ clause ∷ rest
  pub is : EndIs end (bound_clause clause)

pub ends_return : (left : Clauses) → EndsIn first.Return left → left ≡ []
ends_return [] h = refl
ends_return (c ∷ cs) h = absurd h

pub ends_count : (variable : _) (left : Clauses) → EndsIn (first.Count variable) left → NextIs (first.Count variable) left
ends_count variable [] h = absurd cc
ends_count variable (c ∷ cs) h = record { clause = c; rest = cs; left_is = refl; is = h }

pub ends_group : (keys : _) (left : Clauses) → EndsIn (first.Group keys) left → NextIs (first.Group keys) left
ends_group keys [] h = absurd cc
ends_group keys (c ∷ cs) h = record { clause = c; rest = cs; left_is = refl; is = h }

pub ends_order : (keys : _) (left : Clauses) → EndsIn (first.Order keys) left → NextIs (first.Order keys) left
ends_order keys [] h = absurd cc
ends_order keys (c ∷ cs) h = record { clause = c; rest = cs; left_is = refl; is = h }
