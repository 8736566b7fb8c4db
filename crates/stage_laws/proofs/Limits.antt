-- Outcomes whose limits are enough where those of the outputs are that stand for them.
use Rattle.std.proofs.Common.{◌≡◌, ℕ, zero, suc, ◌+◌, List, [], ◌∷◌, Option, Some, None, slice_get, refl, sym, ap, ap₂, ◌∙◌}
use Rattle.fault_merge.specs.declared.at.At.{At}
use Rattle.fault_merge.specs.declared.done.Done.{Done}
use Rattle.fault_merge.specs.Faults.{least_with, least_fault}
use Rattle.fault_merge.specs.Enough.{enough_of}
use Rattle.stage_laws.specs.Pieces.{PieceDone, step_told}
use Rattle.stage_laws.specs.Limits.{TellTheSame, LimitsAreEnough}

module _ {O B K F : Type 0} (tells : O → Option ℕ) where
  same_least : (found : Option At) (p : ℕ) (os : List (Done O)) (ds : List (PieceDone B K F)) → TellTheSame tells os ds → least_fault tells found p os ≡ least_fault step_told found p ds
  same_least found p [] [] h = refl
  same_least found p [] (d ∷ ds) h = absurd h
  same_least found p (o ∷ os) [] h = absurd h
  same_least found p (o ∷ os) (d ∷ ds) (l, t, h) =
      ap (λ (c : Option ℕ). least_fault tells (least_with found c p) (p + 1) os) t
      ∙ same_least (least_with found (step_told d.out) p) (p + 1) os ds h

  -- the output that stands at the place of an outcome
  stands_at : (k : ℕ) (os : List (Done O)) (ds : List (PieceDone B K F)) (d : PieceDone B K F) → TellTheSame tells os ds → slice_get ds k ≡ Some d → (o : Done O) × (slice_get os k ≡ Some o) × (o.limit ≡ d.limit)
  stands_at k [] [] d h is = absurd cc
  stands_at k [] (e ∷ ds) d h is = absurd h
  stands_at k (o ∷ os) [] d h is = absurd h
  stands_at zero (o ∷ os) (e ∷ ds) d (l, t, h) is =
      let same : e ≡ d = cc in (o, refl, l ∙ ap (λ (x : PieceDone B K F). x.limit) same)
  stands_at (suc k) (o ∷ os) (e ∷ ds) d (l, t, h) is = stands_at k os ds d h is

pub limits_are_enough : (O B K F : Type 0) → LimitsAreEnough O B K F
limits_are_enough O B K F tells full os ds same en k d is =
    let w = stands_at tells k os ds d same is in
    ap₂ (λ (l : ℕ) (a : Option At). enough_of l k a full) (sym w.2) (sym (same_least tells None 0 os ds same))
    ∙ en k w.0 w.1
