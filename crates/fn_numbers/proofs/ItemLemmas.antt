-- Lists of items, one item longer.
use Rattle.std.proofs.Common.{◌≡◌, ℕ, ◌+◌, ◌<◌, ◌≤◌, false, List, [], ◌∷◌, ◌++◌, Option, Some, length, get_or, take, drop, sym, ap, ◌∙◌, arith}
use Rattle.std.proofs.lemmas.List.{take_more, take-append-drop, map-append, length-map, length-take}
use Rattle.item_tree.specs.declared.item.Item.{Item}
use Rattle.item_tree.specs.Datum.{Datum}
use Rattle.item_tree.specs.Item.{datum, datums}
use Rattle.value_rules.specs.Numbers.{kin, joined_kin, better, best}
use Rattle.fn_numbers.specs.declared.candidates.Extreme.{Extreme}
use Rattle.fn_numbers.specs.declared.candidates.Extreme.TheVariants.{Least, Greatest}
use Rattle.fn_numbers.specs.declared.tallies.Tallied.{Tallied}
use Rattle.fn_numbers.specs.inside.Candidates.{is_mixed, goes_before}
use Rattle.fn_numbers.specs.inside.Counted.{numbers_counted}
use Rattle.fn_numbers.specs.inside.Tallies.{tally_kept, tally, numbers_kept}
use Rattle.fn_numbers.proofs.BestLemmas.{IsOrderTest, less_test, greater_test, kin-append, front_not_mixed, best-append}

pub datums_more : (s : List Item) (i : ℕ) (x : Item) → i < length s → x ≡ get_or s i x → datums (take (i + 1) s) ≡ datums (take i s) ++ datum x ∷ []
datums_more s i x h e =
    ap datums (take_more s i x h) ∙ map-append datum (take i s) (get_or s i x ∷ []) ∙ ap (λ y. datums (take i s) ++ datum y ∷ []) (sym e)

pub kept_before : (p : Tallied) (s : List Item) (i : ℕ) → tally_kept p ≡ tally (datums (take i s)) → numbers_kept p ≤ i
kept_before p s i h = omega (arith, numbers_counted p (datums (take i s)) h, length-map (take i s) datum, length-take i s)

extreme_test : (e : Extreme) → IsOrderTest (goes_before e)
extreme_test Least = less_test
extreme_test Greatest = greater_test

pub best_next : (e : Extreme) (s : List Item) (i : ℕ) (x : Item) (f : Option Datum) → i < length s → x ≡ get_or s i x → is_mixed (kin (datums s)) ≡ false → f ≡ best (goes_before e) (datums (take i s)) → better (goes_before e) f (Some (datum x)) ≡ best (goes_before e) (datums (take (i + 1) s))
best_next e s i x f h k n p =
    let more = datums_more s i x h k in
    let whole : datums s ≡ datums (take (i + 1) s) ++ datums (drop (i + 1) s) =
    ap datums (sym (take-append-drop (i + 1) s)) ∙ map-append datum (take (i + 1) s) (drop (i + 1) s)
    in
    let parts : is_mixed (joined_kin (kin (datums (take (i + 1) s))) (kin (datums (drop (i + 1) s)))) ≡ false =
    sym (ap (λ l. is_mixed (kin l)) whole ∙ ap is_mixed (kin-append (datums (take (i + 1) s)) (datums (drop (i + 1) s)))) ∙ n
    in
    let front = front_not_mixed (kin (datums (take (i + 1) s))) (kin (datums (drop (i + 1) s))) parts in
    let now : is_mixed (kin (datums (take i s) ++ datum x ∷ [])) ≡ false = sym (ap (λ l. is_mixed (kin l)) more) ∙ front in
    ap (λ o. better (goes_before e) o (Some (datum x))) p
    ∙ sym (best-append (goes_before e) (extreme_test e) (datums (take i s)) (datum x ∷ []) now)
    ∙ ap (best (goes_before e)) (sym more)
