-- The definitions at fixed values.
use Rattle.std.proofs.Common.{◌≡◌, ◌-◌, ◌^◌, [], ◌∷◌, None, Some, codes, refl}
use Rattle.outside.specs.Counted.{count_up, appended}
use Rattle.outside.specs.World.{World, file_of}

two_files : World
two_files = (codes "a", codes "1") ∷ (codes "b", codes "23") ∷ []

second_file : file_of two_files (codes "b") ≡ Some (codes "23")
unfolding two_files
second_file = refl

other_length : file_of two_files (codes "ab") ≡ None
unfolding two_files
other_length = refl

first_of_one_name : file_of ((codes "a", codes "0") ∷ two_files) (codes "a") ≡ Some (codes "0")
unfolding two_files
first_of_one_name = refl

counts : count_up 0 ≡ 1
counts = refl

last_but_one : count_up (2 ^ 64 - 2) ≡ 2 ^ 64 - 1
last_but_one = refl

last : count_up (2 ^ 64 - 1) ≡ 2 ^ 64 - 1
last = refl

added : appended (Some (codes "a")) (codes "bc") ≡ Some (codes "abc")
added = refl

untold : appended None (codes "bc") ≡ None
untold = refl
