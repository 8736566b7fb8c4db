-- A loop over types.
use Rattle.std.proofs.Common.{◌≡◌, ℕ, ◌+◌, ◌<◌, ◌≤◌, List, [], ◌∷◌, ◌++◌, length, map, take, drop, get_or, sym, ap, ◌∙◌}
use Rattle.std.proofs.lemmas.List.{drop_more, drop_all, take_more, map-append}
use Rattle.query_tree.specs.declared.names.Placed.{Placed}
use Rattle.query_tree.specs.declared.names.TypeName.{TypeName}
use Rattle.static_rules.specs.Mentions.{mention_at, has_type, types_mentions}
use Rattle.static_rules.specs.Walks.{State, passed}
use Rattle.static_rules.proofs.Passing.{passed-none, passed-passed}

pub types-more : (now next start : State) (all : List (Placed TypeName)) (i : ℕ) (x : Placed TypeName)
    → passed now (types_mentions (drop i all)) [] ≡ passed start (types_mentions all) [] → i < length all → x ≡ get_or all i x → next ≡ passed now (mention_at x.place (has_type x.name) ∷ []) []
    → passed next (types_mentions (drop (i + 1) all)) [] ≡ passed start (types_mentions all) []
types-more now next start all i x h l here walked =
    let at : drop i all ≡ x ∷ drop (i + 1) all = drop_more all i x l ∙ ap (λ z. z ∷ drop (i + 1) all) (sym here) in
    ap (λ s. passed s (types_mentions (drop (i + 1) all)) []) walked
    ∙ passed-passed now (mention_at x.place (has_type x.name) ∷ []) (types_mentions (drop (i + 1) all)) [] []
    ∙ ap (λ ys. passed now (types_mentions ys) []) (sym at)
    ∙ h

pub items-more : {X Y : Type 0} (f : X → Y) (all : List X) (i : ℕ) (x : X) (y : Y) (out longer : List Y) → out ≡ map f (take i all) → longer ≡ out ++ y ∷ [] → y ≡ f x → i < length all → x ≡ get_or all i x → longer ≡ map f (take (i + 1) all)
items-more f all i x y out longer h pushed made l here =
    pushed
    ∙ ap (λ ys. ys ++ y ∷ []) h
    ∙ ap (λ z. map f (take i all) ++ z ∷ []) (made ∙ ap f here)
    ∙ sym (map-append f (take i all) (get_or all i x ∷ []))
    ∙ ap (map f) (sym (take_more all i x l))

pub types-done : (now start : State) (all : List (Placed TypeName)) (i : ℕ) → passed now (types_mentions (drop i all)) [] ≡ passed start (types_mentions all) [] → length all ≤ i → now ≡ passed start (types_mentions all) []
types-done now start all i h l = sym (passed-none now) ∙ ap (λ ys. passed now (types_mentions ys) []) (sym (drop_all i all l)) ∙ h
