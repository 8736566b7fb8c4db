-- How the states behind declarations join.
use Rattle.std.proofs.Common.{◌≡◌, ℕ, suc, ◌+◌, ◌<◌, ◌≤◌, List, [], ◌∷◌, ◌++◌, length, map, take, take_all, get_or, refl, sym, ap, ◌∙◌, arith, zero-add}
use Rattle.std.proofs.lemmas.List.{map-append}
use Rattle.std.proofs.Math.Seq.{take-suc}
use Rattle.static_rules.specs.Stacks.{callee_of as named_callee}
use Rattle.std.specs.Prelude.{max}
use Rattle.query_tree.specs.declared.bound.Slot.TheVariants.{Global}
use Rattle.static_rules.specs.Views.{Callee}
use Rattle.static_rules.specs.Mentions.{MentionAt}
use Rattle.static_rules.specs.Compiling.{Names, with_slot}
use Rattle.static_rules.specs.Walks.{State, passed, sooner, first_of}
use Rattle.static_rules.specs.Declarations.{begun, declared, bound_global, with_functions, seeing_functions}
use Rattle.static_rules.proofs.Passing.{passed-none, passed-passed}

pub begun-names : (s : State) → (begun s).names ≡ s.names
unfolding begun
begun-names s = refl

pub begun-number : (s : State) → (begun s).number ≡ 0
unfolding begun
begun-number s = refl

pub declared-names : (s : State) (ms : List MentionAt) (n : ℕ) (names : Names) → (declared s ms n names).names ≡ names
unfolding declared
declared-names s ms n names = refl

pub declared-number : (s : State) (ms : List MentionAt) (n : ℕ) (names : Names) → (declared s ms n names).number ≡ n
unfolding declared
declared-number s ms n names = refl

placed : State → ℕ → Names → State
placed s n names = record s { number = n; names = names }

pub declared-declared : (s : State) (ms ns : List MentionAt) (n m : ℕ) (names inner : Names) → declared (declared s ms n names) ns m inner ≡ declared s (ms ++ ns) m inner
unfolding declared passed placed
declared-declared s ms ns n m names inner = ap (λ t. placed t m inner) (passed-passed s ms ns [] [])

pub declared-none : (s : State) → declared s [] 0 s.names ≡ begun s
unfolding declared passed placed begun
declared-none s = ap (λ t. placed t 0 s.names) (passed-none s)

-- a declaration that only passes, and one that binds its variable in the end
pub passed-begun : (s : State) (ms : List MentionAt) (bs : List (List ℕ)) → passed (begun s) ms bs ≡ declared s ms (length bs) s.names
unfolding declared passed begun
passed-begun s ms bs = ap (λ n. let t : State = record { names = s.names; number = n; first = sooner s.first (first_of ms) } in t) (zero-add (length bs))

pub bound-declared : (s : State) (ms : List MentionAt) (n : ℕ) (names : Names) (name : List ℕ) (number : ℕ) → bound_global (declared s ms n names) name number ≡ declared s ms n (with_slot names name (Global number))
unfolding declared bound_global
bound-declared s ms n names name number = refl

pub seeing-names : (s : State) (functions : List Callee) → (seeing_functions s functions).names ≡ with_functions s.names functions
unfolding seeing_functions
seeing-names s functions = refl

pub more_functions : (fs : List (List ℕ × ℕ)) (f : List ℕ × ℕ) → map named_callee (fs ++ f ∷ []) ≡ map named_callee fs ++ named_callee f ∷ []
more_functions fs f = map-append named_callee fs (f ∷ [])

-- one more of the functions that are seen, of which so many were
pub seen-more : {X Y : Type 0} (s now next : State) (f : X → Y) (g : Y → Callee) (xs : List X) (i : ℕ) (x : X) (c : Callee)
    → now ≡ seeing_functions s (map g (map f (take i xs))) → i < length xs → x ≡ get_or xs i x → g (f x) ≡ c
    → next ≡ seeing_functions now (now.names.functions ++ c ∷ []) → next ≡ seeing_functions s (map g (map f (take (i + 1) xs)))
unfolding seeing_functions
seen-more s now next f g xs i x c h l at called n =
    let front : map g (map f (take i xs)) ++ c ∷ [] ≡ map g (map f (take (i + 1) xs)) =
    ap (λ k. map g (map f (take i xs)) ++ k ∷ []) (sym called ∙ ap (λ y. g (f y)) at)
    ∙ sym (map-append g (map f (take i xs)) (f (get_or xs i x) ∷ []))
    ∙ ap (map g) (sym (map-append f (take i xs) (get_or xs i x ∷ [])))
    ∙ ap (λ k. map g (map f k)) (sym (take-suc xs i x l) ∙ ap (λ k. take k xs) (let e : suc i ≡ i + 1 = omega arith in e)) in
    n ∙ ap (λ t. seeing_functions t (t.names.functions ++ c ∷ [])) h ∙ ap (seeing_functions s) front

pub seen-all : {X Y : Type 0} (s now : State) (f : X → Y) (g : Y → Callee) (xs : List X) (i : ℕ)
    → now ≡ seeing_functions s (map g (map f (take i xs))) → length xs ≤ i → now ≡ seeing_functions s (map g (map f xs))
seen-all s now f g xs i h l = h ∙ ap (λ k. seeing_functions s (map g (map f k))) (take_all i xs l)

pub declared-seeing : (s : State) (functions : List Callee) (ms : List MentionAt) (n : ℕ) (names : Names) → declared (seeing_functions s functions) ms n names ≡ declared s ms n names
unfolding declared seeing_functions
declared-seeing s functions ms n names = refl

-- the greatest width so far
pub greatest-more : (a b c : ℕ) → max (max a b) c ≡ max a (max b c)
greatest-more a b c = omega arith

pub greatest-none : (a : ℕ) → max a 0 ≡ a
greatest-none a = omega arith
