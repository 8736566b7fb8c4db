-- Totals of lists that are put together.
use Rattle.std.proofs.Common.{◌≡◌, ◌≢◌, ℕ, zero, suc, ◌&&◌, Bool, true, false, if◌then◌else◌, ℤ, pos, List, [], ◌∷◌, ◌++◌, Result, Ok, Err, IfErr, IfOk, refl, sym, ap, subst, ◌∙◌, arith, add_assoc, zero-add}
use Rattle.std.proofs.lemmas.Int.{ints}
use Rattle.std.proofs.Math.IntN.{+ℤ_assoc, +ℤ_idl}
use Rattle.item_tree.specs.declared.code.Code.{Code}
use Rattle.item_tree.specs.declared.code.Code.TheVariants.{FORG0006}
use Rattle.item_tree.specs.Datum.{Datum, decimal}
use Rattle.num_fixed.specs.Bounds.{InBounds, IsOver}
use Rattle.num_fixed.specs.Laws.{IsMet}
use Rattle.num_fixed.specs.Totals.{Tally, nothing, one, joined, tally_of, IsSum, IsMean}
use Rattle.num_fixed.specs.Values.{sum_of, mean_of}
use Rattle.num_fixed.specs.declared.number.Kind.{Kind}
use Rattle.num_fixed.specs.declared.number.Kind.TheVariants.{Whole, Units}
use Rattle.num_fixed.specs.declared.number.NumFault.{NumFault}
use Rattle.num_fixed.specs.declared.number.NumFault.TheVariants.{Overflow}
use Rattle.num_fixed.specs.declared.number.Number.{Number}
use Rattle.num_fixed.proofs.TotalLemmas.{tally_of-append, sum_of_integers}
use Rattle.num_fixed.proofs.ValueLemmas.{sum_is, one_sum, near_is, one_near}
use Rattle.value_rules.specs.Numbers.{addend, addends, mean, total, avg_values}
use Rattle.value_rules.specs.Operands.{and_then}
use Rattle.value_rules.specs.Results.{bounded, told}
use Rattle.value_rules.proofs.ToldLemmas.{told_one}
use Rattle.fn_numbers.specs.declared.tallies.Tallied.{Tallied}
use Rattle.fn_numbers.specs.inside.Tallies.{tally_kept, tally, one_more, both}

-- ---- lists put together

addends_case : (r : Result (List Number) Code) (x : Number) (s : Result (List Number) Code)
    → and_then (and_then r (λ xs. and_then s (λ ys. Ok (xs ++ ys)))) (λ zs. Ok (x ∷ zs)) ≡ and_then (and_then r (λ xs. Ok (x ∷ xs))) (λ xs. and_then s (λ ys. Ok (xs ++ ys)))
addends_case (Err e) x s = refl
addends_case (Ok xs) x (Err e) = refl
addends_case (Ok xs) x (Ok ys) = refl

no_addends : (s : Result (List Number) Code) → s ≡ and_then s (λ ys. Ok ys)
no_addends (Ok ys) = refl
no_addends (Err e) = refl

first_addend : (a : Result Number Code) (r s : Result (List Number) Code)
    → and_then a (λ x. and_then (and_then r (λ xs. and_then s (λ ys. Ok (xs ++ ys)))) (λ zs. Ok (x ∷ zs))) ≡ and_then (and_then a (λ x. and_then r (λ xs. Ok (x ∷ xs)))) (λ xs. and_then s (λ ys. Ok (xs ++ ys)))
first_addend (Err e) r s = refl
first_addend (Ok x) r s = addends_case r x s

addends-append : (vs ws : List Datum) → addends (vs ++ ws) ≡ and_then (addends vs) (λ xs. and_then (addends ws) (λ ys. Ok (xs ++ ys)))
addends-append [] ws = no_addends (addends ws)
addends-append (v ∷ vs) ws =
    ap (λ r. and_then (addend v) (λ x. and_then r (λ zs. Ok (x ∷ zs)))) (addends-append vs ws) ∙ first_addend (addend v) (addends vs) (addends ws)

tally_case : (r s : Result (List Number) Code)
    → and_then (and_then r (λ xs. and_then s (λ ys. Ok (xs ++ ys)))) (λ zs. Ok (tally_of zs)) ≡ both (and_then r (λ xs. Ok (tally_of xs))) (and_then s (λ ys. Ok (tally_of ys)))
tally_case (Err e) s = refl
tally_case (Ok xs) (Err e) = refl
tally_case (Ok xs) (Ok ys) = ap Ok (tally_of-append xs ys)

pub tally-append : (vs ws : List Datum) → tally (vs ++ ws) ≡ both (tally vs) (tally ws)
tally-append vs ws = ap (λ r. and_then r (λ zs. Ok (tally_of zs))) (addends-append vs ws) ∙ tally_case (addends vs) (addends ws)

same_tally : (s t : Tally) → s.units ≡ t.units → s.count ≡ t.count → s.whole ≡ t.whole → s ≡ t
same_tally s t u c w = λ i. record { units = u i; count = c i; whole = w i }

all_true : (b : Bool) → (b && true) ≡ b
all_true true = refl
all_true false = refl

nothing_more : (t : Tally) → joined t nothing ≡ t
nothing_more t = same_tally (joined t nothing) t (omega (arith, ints)) (omega arith) (all_true t.whole)

and_assoc : (a b c : Bool) → (a && b && c) ≡ (a && (b && c))
and_assoc true b c = refl
and_assoc false b c = refl

joined_assoc : (r s t : Tally) → joined (joined r s) t ≡ joined r (joined s t)
joined_assoc r s t = same_tally _ _ (+ℤ_assoc r.units s.units t.units) (add_assoc r.count s.count t.count) (and_assoc r.whole s.whole t.whole)

one_alone : (a : Result Number Code) (r : Result Tally Code)
    → both r (and_then (and_then a (λ x. Ok (x ∷ []))) (λ xs. Ok (tally_of xs))) ≡ and_then r (λ t. and_then a (λ x. Ok (joined t (one x))))
one_alone a (Err e) = refl
one_alone (Err e) (Ok t) = refl
one_alone (Ok x) (Ok t) = ap (λ u. Ok (joined t u)) (nothing_more (one x))

pub tally_more : (vs : List Datum) (v : Datum) → tally (vs ++ v ∷ []) ≡ one_more (tally vs) v
tally_more vs v = tally-append vs (v ∷ []) ∙ one_alone (addend v) (tally vs)

-- a part with one item more, and two parts put together
pub kept_more : (old new : Tallied) (vs : List Datum) (v : Datum) → tally_kept new ≡ one_more (tally_kept old) v → tally_kept old ≡ tally vs → tally_kept new ≡ tally (vs ++ v ∷ [])
kept_more old new vs v e h = e ∙ ap (λ r. one_more r v) h ∙ sym (tally_more vs v)

pub kept_joined : (old later new : Tallied) (vs ws : List Datum) → tally_kept new ≡ both (tally_kept old) (tally_kept later) → tally_kept old ≡ tally vs → tally_kept later ≡ tally ws → tally_kept new ≡ tally (vs ++ ws)
kept_joined old later new vs ws e h k = e ∙ (λ i. both (h i) (k i)) ∙ sym (tally-append vs ws)

-- ---- the value of what is kept

met : (xs : List Number) (b : Bool) → (tally_of xs).whole ≡ b → IsMet (IsSum (if b then Whole else Units) (tally_of xs))
met xs true e = sum_of_integers xs e
met xs false e = ((tally_of xs).units, refl)

-- the sum of some numbers as the code tells it
pub told_total : (xs : List Number) (t : Tally) (kind : Kind) (r : Result ℤ NumFault) → t ≡ tally_of xs → kind ≡ (if t.whole then Whole else Units)
    → IfOk r (λ m. IsSum kind t m × InBounds kind m) → IfErr r (λ e. (e ≡ Overflow) × IsOver kind (IsSum kind t)) → told kind r ≡ total t
told_total xs t kind r e k h g =
    let some : IsMet (IsSum kind t) = subst (λ j. IsMet (IsSum j t)) (sym k) (subst (λ u. IsMet (IsSum (if u.whole then Whole else Units) u)) (sym e) (met xs (tally_of xs).whole refl)) in
    told_one kind (IsSum kind t) (sum_of kind t) (sum_is kind t some) (one_sum kind t) r h g ∙ ap (λ j. bounded j (sum_of j t)) k

-- what is kept is the total of the addends, if they are numbers
sum_case : (r : Result (List Number) Code) (t : Tally) (s : Result Number Code) → Ok t ≡ and_then r (λ xs. Ok (tally_of xs)) → ((xs : List Number) → t ≡ tally_of xs → s ≡ total t) → (xs : List Number) × (r ≡ Ok xs) × (s ≡ total (tally_of xs))
sum_case (Err e) t s h k = absurd cc
sum_case (Ok xs) t s h k = let e : t ≡ tally_of xs = cc in (xs, refl, k xs e ∙ ap total e)

pub kept_addends : (vs : List Datum) (t : Tally) (s : Result Number Code) → Ok t ≡ tally vs → ((xs : List Number) → t ≡ tally_of xs → s ≡ total t) → (xs : List Number) × (addends vs ≡ Ok xs) × (s ≡ total (tally_of xs))
kept_addends vs t s h k = sum_case (addends vs) t s h k

no_case : (r : Result (List Number) Code) → Err FORG0006 ≡ and_then r (λ xs. Ok (tally_of xs)) → r ≡ Err FORG0006
no_case (Err e) h = cc
no_case (Ok xs) h = absurd cc

pub no_addends_kept : (vs : List Datum) → Err FORG0006 ≡ tally vs → addends vs ≡ Err FORG0006
no_addends_kept vs h = no_case (addends vs) h

positive : (n : ℕ) → n ≢ 0 → pos n ≢ pos 0
positive zero h e = h refl
positive (suc n) h e = absurd cc

mean_case : (r : Result (List Number) Code) (t : Tally) (m : ℤ) → Ok t ≡ and_then r (λ xs. Ok (tally_of xs)) → IsMean t m → and_then r (λ xs. Ok (mean xs)) ≡ Ok (decimal m ∷ [])
mean_case (Err e) t m h k = absurd cc
mean_case (Ok []) t m h k = let e : t ≡ nothing = cc in absurd (k.0 (ap (λ u. u.count) e))
mean_case (Ok (x ∷ xs)) t m h k =
    let e : t ≡ tally_of (x ∷ xs) = cc in
    let some = positive t.count k.0 in
    let same : m ≡ mean_of t = one_near t.units (pos t.count) some m (mean_of t) k.1 (near_is t.units (pos t.count) some) in
    ap (λ n. Ok (decimal n ∷ [])) (sym (same ∙ ap mean_of e))

pub mean_kept : (vs : List Datum) (t : Tally) (m : ℤ) → Ok t ≡ tally vs → IsMean t m → avg_values vs ≡ Ok (decimal m ∷ [])
mean_kept vs t m h k = mean_case (addends vs) t m h k

nothing_case : (r : Result (List Number) Code) (t : Tally) → Ok t ≡ and_then r (λ xs. Ok (tally_of xs)) → t.count ≡ 0 → and_then r (λ xs. Ok (mean xs)) ≡ Ok []
nothing_case (Err e) t h k = absurd cc
nothing_case (Ok []) t h k = refl
nothing_case (Ok (x ∷ xs)) t h k = let e : t ≡ tally_of (x ∷ xs) = cc in absurd (omega (arith, k, ap (λ u. u.count) e))

pub nothing_kept : (vs : List Datum) (t : Tally) → Ok t ≡ tally vs → t.count ≡ 0 → avg_values vs ≡ Ok []
nothing_kept vs t h k = nothing_case (addends vs) t h k

-- ---- a total that is made item by item

abbrev pub tally_from : Tally → List Datum → Result Tally Code
tally_from t [] = Ok t
tally_from t (v ∷ vs) = and_then (addend v) (λ x. tally_from (joined t (one x)) vs)

from_case : (a : Result Number Code) (t : Tally) (f : Tally → Result Tally Code) (r : Result (List Number) Code) → ((u : Tally) → f u ≡ both (Ok u) (and_then r (λ xs. Ok (tally_of xs))))
    → and_then a (λ x. f (joined t (one x))) ≡ both (Ok t) (and_then (and_then a (λ x. and_then r (λ xs. Ok (x ∷ xs)))) (λ xs. Ok (tally_of xs)))
from_case (Err e) t f r h = refl
from_case (Ok x) t f (Err e) h = h (joined t (one x))
from_case (Ok x) t f (Ok xs) h = h (joined t (one x)) ∙ ap Ok (joined_assoc t (one x) (tally_of xs))

tally_from_is : (vs : List Datum) (t : Tally) → tally_from t vs ≡ both (Ok t) (tally vs)
tally_from_is [] t = ap Ok (sym (nothing_more t))
tally_from_is (v ∷ vs) t = from_case (addend v) t (λ u. tally_from u vs) (addends vs) (λ u. tally_from_is vs u)

nothing_first : (r : Result Tally Code) → both (Ok nothing) r ≡ r
nothing_first (Err e) = refl
nothing_first (Ok t) = ap Ok (same_tally (joined nothing t) t (+ℤ_idl t.units) (zero-add t.count) refl)

pub from_nothing : (vs : List Datum) → tally_from nothing vs ≡ tally vs
from_nothing vs = tally_from_is vs nothing ∙ nothing_first (tally vs)
