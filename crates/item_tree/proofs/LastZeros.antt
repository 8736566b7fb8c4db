-- The zeros at the end of a list of digits.
use Rattle.std.proofs.Common.{◌≡◌, ◌≢◌, ℕ, ◌+◌, ◌-◌, ◌<◌, ◌≤◌, Bool, true, false, ◌&&◌, ◌==◌, if◌then◌else◌, List, [], ◌∷◌, ◌++◌, length, get_or, take, refl, sym, ap, subst, ◌∙◌, arith}
use Rattle.std.specs.List.{list_all}
use Rattle.std.proofs.lemmas.List.{take_more}
use Rattle.std.proofs.lemmas.List.Folds.{list_all-append}
use Rattle.std.proofs.lemmas.Bool.Decides.{nat_tests}
use Rattle.item_tree.specs.ItemText.{without_last_zeros}

abbrev zeros : List ℕ → Bool
zeros ds = list_all (λ e. e == 48) ds

and_true : (b : Bool) → (b && true) ≡ b
and_true true = refl
and_true false = refl

and_false : (b : Bool) → (b && false) ≡ false
and_false true = refl
and_false false = refl

zeros-zero : (ds : List ℕ) → zeros (ds ++ 48 ∷ []) ≡ zeros ds
zeros-zero ds = list_all-append (λ e. e == 48) ds (48 ∷ []) ∙ and_true (zeros ds)

zeros-other : (ds : List ℕ) (d : ℕ) → d ≢ 48 → zeros (ds ++ d ∷ []) ≡ false
zeros-other ds d n =
    let f : (d == 48) ≡ false = grind (arith, nat_tests) in
    list_all-append (λ e. e == 48) ds (d ∷ []) ∙ ap (λ b. zeros ds && (b && true)) f ∙ and_false (zeros ds)

dropped : (ds : List ℕ) → without_last_zeros (ds ++ 48 ∷ []) ≡ without_last_zeros ds
dropped [] = refl
dropped (d ∷ ds) = λ i. if zeros-zero (d ∷ ds) i then [] else d ∷ dropped ds i

kept : (ds : List ℕ) (d : ℕ) → d ≢ 48 → without_last_zeros (ds ++ d ∷ []) ≡ ds ++ d ∷ []
kept [] d n = ap (λ b. if b then [] else d ∷ []) (zeros-other [] d n)
kept (e ∷ ds) d n = λ i. if zeros-other (e ∷ ds) d n i then [] else e ∷ kept ds d n i

split_last : (ds : List ℕ) (n : ℕ) → 0 < n → n ≤ length ds → take n ds ≡ take (n - 1) ds ++ get_or ds (n - 1) 0 ∷ []
split_last ds n p l = let e : n - 1 + 1 ≡ n = omega arith in subst (λ m. take m ds ≡ take (n - 1) ds ++ get_or ds (n - 1) 0 ∷ []) e (take_more ds (n - 1) 0 (omega arith))

pub zero_last : (ds : List ℕ) (n : ℕ) → 0 < n → n ≤ length ds → get_or ds (n - 1) 0 ≡ 48 → without_last_zeros (take (n - 1) ds) ≡ without_last_zeros (take n ds)
zero_last ds n p l e = sym (ap (λ x. without_last_zeros x) (split_last ds n p l) ∙ ap (λ x. without_last_zeros (take (n - 1) ds ++ x ∷ [])) e ∙ dropped (take (n - 1) ds))

pub digit_last : (ds : List ℕ) (n : ℕ) → 0 < n → n ≤ length ds → get_or ds (n - 1) 0 ≢ 48 → without_last_zeros (take n ds) ≡ take n ds
digit_last ds n p l e = ap (λ x. without_last_zeros x) (split_last ds n p l) ∙ kept (take (n - 1) ds) (get_or ds (n - 1) 0) e ∙ sym (split_last ds n p l)
