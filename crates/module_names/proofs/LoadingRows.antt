-- Loading, computed: small files by their imports.
use Rattle.std.proofs.Common.{◌≡◌, ℕ, List, [], ◌∷◌, map, Option, Some, None, option_map, Result, Ok, Err, refl}
use Rattle.std.specs.List.{range_with_len}
use Rattle.item_tree.specs.declared.code.Code.{Code}
use Rattle.item_tree.specs.declared.code.Code.TheVariants.{XPST0003, PJST0006, PJST0007, PJST0008, PJST0009}
use Rattle.module_names.specs.declared.head.Import.{Import}
use Rattle.module_names.specs.Loading.{Name, Refusal, Source, Unread, Sources, Files, names_of, refused, loaded}

-- a file has the name of one number; its imports stand at the places of their names
abbrev named : ℕ → Name
named n = n ∷ []

abbrev import_of : ℕ → Import
import_of n = record { name = named n; place = n }

abbrev file : ℕ → List ℕ → Name × Result (Source (Unit {0})) Unread
file n is = (named n, Ok (record { imports = map import_of is; body = None; rest = tt }))

-- its body, at this place, is not `()`
abbrev query : ℕ → List ℕ → ℕ → Name × Result (Source (Unit {0})) Unread
query n is place = (named n, Ok (record { imports = map import_of is; body = Some place; rest = tt }))

abbrev faulty : ℕ → ℕ → Name × Result (Source (Unit {0})) Unread
faulty n place = (named n, Err (record { code = XPST0003; place = place }))

abbrev done : Result (Files (Unit {0})) Refusal → Result (List Name) Refusal
done (Ok fs) = Ok (names_of fs)
done (Err r) = Err r

abbrev order : Sources (Unit {0}) → Option (Result (List Name) Refusal)
order ss = option_map done (loaded ss (named 0))

abbrev in_order : List ℕ → Option (Result (List Name) Refusal)
in_order ns = Some (Ok (map named ns))

abbrev stops : ℕ → Code → ℕ → ℕ → Option (Result (List Name) Refusal)
stops n code place opened = Some (refused (named n) code place opened)

-- a query alone, and none
alone : order (query 0 [] 5 ∷ []) ≡ in_order (0 ∷ [])
alone = refl

no_query : order (file 1 [] ∷ []) ≡ None
no_query = refl

-- a library that two files import is loaded once, and stands before both
shared : order (query 0 (1 ∷ 2 ∷ []) 5 ∷ file 1 (3 ∷ []) ∷ file 2 (3 ∷ []) ∷ file 3 [] ∷ []) ≡ in_order (3 ∷ 1 ∷ 2 ∷ 0 ∷ [])
shared = refl

imported_twice : order (query 0 (1 ∷ 1 ∷ []) 5 ∷ file 1 [] ∷ []) ≡ in_order (1 ∷ 0 ∷ [])
imported_twice = refl

-- a circle is told where it closes
circle_of_three : order (query 0 (1 ∷ []) 5 ∷ file 1 (2 ∷ []) ∷ file 2 (3 ∷ []) ∷ file 3 (1 ∷ []) ∷ []) ≡ stops 3 PJST0006 1 4
circle_of_three = refl

itself : order (query 0 (1 ∷ []) 5 ∷ file 1 (1 ∷ []) ∷ []) ≡ stops 1 PJST0006 1 2
itself = refl

query_imported : order (query 0 (1 ∷ []) 5 ∷ file 1 (2 ∷ 0 ∷ []) ∷ file 2 [] ∷ []) ≡ stops 1 PJST0006 0 3
query_imported = refl

-- the first of two refusals on the way is told
missing_behind_a_faulty_one : order (query 0 (1 ∷ 2 ∷ []) 5 ∷ faulty 1 7 ∷ []) ≡ stops 1 XPST0003 7 2
missing_behind_a_faulty_one = refl

faulty_behind_a_missing_one : order (query 0 (2 ∷ 1 ∷ []) 5 ∷ faulty 1 7 ∷ []) ≡ stops 0 PJST0007 2 1
faulty_behind_a_missing_one = refl

-- the body of a library is tested before its imports
other_body : order (query 0 (1 ∷ []) 5 ∷ query 1 (9 ∷ []) 8 ∷ []) ≡ stops 1 PJST0009 8 2
other_body = refl

-- 64 files are loaded, and no more
abbrev wide : ℕ → Sources (Unit {0})
wide count = query 0 (range_with_len 1 count) 5 ∷ map (λ n. file n []) (range_with_len 1 count)

one_too_many : order (wide 64) ≡ stops 0 PJST0008 64 64
one_too_many = refl

abbrev is_loaded : Option (Result (List Name) Refusal) → Type 0
is_loaded (Some (Ok ns)) = Unit {0}
is_loaded _ = ⊥

just_enough : is_loaded (order (wide 63))
just_enough = tt
