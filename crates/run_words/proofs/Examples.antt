-- What known words ask for, computed by the definitions.
use Rattle.std.proofs.Common.{◌≡◌, true, false, [], ◌∷◌, Some, None, refl, codes}
use Rattle.std.specs.Str.{chars}
use Rattle.run_words.specs.Asked.{asked}
use Rattle.run_words.specs.declared.task.Task.TheVariants.{Run, Check, Explain, Trial}

defaults : asked (codes "run" ∷ codes "q" ∷ []) ≡ Some (Run (codes "q") 4 1048576 false false)
unfolding chars
defaults = refl

zeros_in_front : asked (codes "run" ∷ codes "--workers=064" ∷ codes "q" ∷ []) ≡ Some (Run (codes "q") 64 1048576 false false)
unfolding chars
zeros_in_front = refl

any_order : asked (codes "run" ∷ codes "--stats" ∷ codes "--mode" ∷ codes "local" ∷ codes "q" ∷ codes "--partition" ∷ codes "+4" ∷ []) ≡ Some (Run (codes "q") 4 4 true true)
unfolding chars
any_order = refl

dashed_query : asked (codes "run" ∷ codes "--" ∷ codes "-q" ∷ []) ≡ Some (Run (codes "-q") 4 1048576 false false)
unfolding chars
dashed_query = refl

checks : asked (codes "check" ∷ codes "q" ∷ []) ≡ Some (Check (codes "q"))
unfolding chars
checks = refl

explains : asked (codes "explain" ∷ codes "q" ∷ codes "--" ∷ []) ≡ Some (Explain (codes "q"))
unfolding chars
explains = refl

trial : asked (codes "trial" ∷ codes "1" ∷ codes "--workers" ∷ codes "2" ∷ codes "4" ∷ []) ≡ Some (Trial 1 4 2 1048576)
trial = refl

no_words : asked [] ≡ None
no_words = refl

no_query : asked (codes "run" ∷ []) ≡ None
no_query = refl

two_queries : asked (codes "run" ∷ codes "q" ∷ codes "r" ∷ []) ≡ None
two_queries = refl

too_many_workers : asked (codes "run" ∷ codes "q" ∷ codes "--workers" ∷ codes "65" ∷ []) ≡ None
too_many_workers = refl

option_twice : asked (codes "run" ∷ codes "q" ∷ codes "--workers" ∷ codes "2" ∷ codes "--workers" ∷ codes "2" ∷ []) ≡ None
option_twice = refl

dash : asked (codes "run" ∷ codes "q" ∷ codes "-" ∷ []) ≡ None
dash = refl

flag_with_value : asked (codes "run" ∷ codes "q" ∷ codes "--stats=1" ∷ []) ≡ None
flag_with_value = refl

no_value : asked (codes "run" ∷ codes "q" ∷ codes "--workers=" ∷ []) ≡ None
no_value = refl

dashed_value : asked (codes "run" ∷ codes "q" ∷ codes "--partition" ∷ codes "-1" ∷ []) ≡ None
dashed_value = refl

option_of_another : asked (codes "check" ∷ codes "q" ∷ codes "--stats" ∷ []) ≡ None
option_of_another = refl

option_behind_end : asked (codes "run" ∷ codes "--" ∷ codes "q" ∷ codes "--stats" ∷ []) ≡ None
option_behind_end = refl

too_many_lines : asked (codes "trial" ∷ codes "1" ∷ codes "1000001" ∷ []) ≡ None
too_many_lines = refl
