-- Files of the code.
use Rattle.std.specs.Prelude.{◌≡◌, ℕ, List, map}
use Rattle.item_tree.specs.declared.code.Code.{Code}
use Rattle.module_names.specs.declared.order.File.{File}
use Rattle.module_names.specs.declared.order.Refused.{Refused}
use Rattle.module_names.specs.Loading.{Name}

abbrev pub file_names : {T : Type 0} → List (File T) → List Name
file_names fs = map (λ f. f.name) fs

abbrev pub IsRefused : Name → Code → ℕ → ℕ → Refused → Type 0
IsRefused file code place opened r =
    r ≡ record { file = file; code = code; place = place; opened = opened }
