-- The first function of each name and number of arguments.
use Rattle.std.proofs.Common.{◌≡◌, ℕ, suc, ◌+◌, ◌-◌, ◌<◌, ◌≤◌, Bool, true, false, cond, not, zero, drop, nat_lt, ◌==◌, ◌&&◌, ◌||◌, List, [], ◌∷◌, ◌++◌, length, take, map, All, Option, Some, None, is_some, is_none, position, Vec, Global, Bor, BTreeMap, refl, sym, ap, ◌∙◌, subst, arith, eqb-true}
use Rattle.std.proofs.lemmas.List.{map-append, at_drop_more}
use Rattle.std.proofs.lemmas.List.Elements.{All-nil, All-head, All-tail, All-push, All-weaker}
use Rattle.std.proofs.lemmas.Grind.{common_steps}
use Rattle.std.proofs.lemmas.Bool.Decides.{nat_tests}
use Rattle.std.proofs.lemmas.Slice.Eq.{bytes_eq-Decides}
use Rattle.std.proofs.Math.Seq.{take-nil}
use Rattle.std.specs.List.{list_any, position_or_len}
use Rattle.std.specs.Str.{bytes_eq, chars, encode_utf8_all}
use Rattle.name_scopes.specs.declared.stacks.Place.{Place}
use Rattle.name_scopes.specs.declared.functions.Function.{Function}
use Rattle.name_scopes.specs.Functions.{function_position}
use Rattle.name_scopes.specs.inside.Stacks.{stack_at}
use Rattle.name_scopes.specs.inside.Places.{placed}
use Rattle.name_scopes.specs.inside.Firsts.{function_of, place_with, AreFirsts}
use Rattle.name_scopes.proofs.Bound.{IsSound, same-name}

-- the first of two, if there is one
abbrev pub or_later : Option ℕ → Option ℕ → Option ℕ
or_later None y = y
or_later (Some x) y = Some x

or-none : (x : Option ℕ) → or_later x None ≡ x
or-none None = refl
or-none (Some x) = refl

with-push : (ps : List (Place ℕ)) (x : Place ℕ) (arity : ℕ) → place_with (ps ++ x ∷ []) arity ≡ or_later (place_with ps arity) (cond (x.value == arity) (Some x.at) None)
with-push [] x arity = refl
with-push (p ∷ ps) x arity = by (p.value == arity) (with-push ps x arity)
  where
    by : (t : Bool) → place_with (ps ++ x ∷ []) arity ≡ or_later (place_with ps arity) (cond (x.value == arity) (Some x.at) None) → cond t (Some p.at) (place_with (ps ++ x ∷ []) arity) ≡ or_later (cond t (Some p.at) (place_with ps arity)) (cond (x.value == arity) (Some x.at) None)
    by true h = refl
    by false h = h

-- whether it is below so many
abbrev pub is_before : ℕ → Option ℕ → Bool
is_before count None = false
is_before count (Some n) = nat_lt n count

-- the position in a list from its front on
abbrev found_from : {X : Type 0} → (X → Bool) → ℕ → List X → Option ℕ
found_from p n [] = None
found_from p n (x ∷ xs) = cond (p x) (Some n) (found_from p (suc n) xs)

module _ {X : Type 0} (p : X → Bool) where
  as-found : (n : ℕ) (xs : List X) → cond (nat_lt (position_or_len p xs) (length xs)) (Some (n + position_or_len p xs)) None ≡ found_from p n xs
  as-found n [] = refl
  as-found n (x ∷ xs) = by (p x) (as-found (suc n) xs)
    where
      by : (t : Bool) → cond (nat_lt (position_or_len p xs) (length xs)) (Some (suc n + position_or_len p xs)) None ≡ found_from p (suc n) xs
          → cond (nat_lt (cond (not t) (1 + position_or_len p xs) 0) (length (x ∷ xs))) (Some (n + cond (not t) (1 + position_or_len p xs) 0)) None ≡ cond t (Some n) (found_from p (suc n) xs)
      by true h = grind (arith, nat_tests)
      by false h = grind (arith, nat_tests)

  found-is : (xs : List X) → position p xs ≡ found_from p 0 xs
  found-is xs = ap (λ n. cond (nat_lt (position_or_len p xs) (length xs)) (Some n) None) (let e : position_or_len p xs ≡ 0 + position_or_len p xs = omega arith in e) ∙ as-found 0 xs

  found-push : (n : ℕ) (xs : List X) (x : X) → found_from p n (xs ++ x ∷ []) ≡ or_later (found_from p n xs) (cond (p x) (Some (n + length xs)) None)
  found-push n [] x = ap (λ m. cond (p x) (Some m) None) (let e : n ≡ n + 0 = omega arith in e)
  found-push n (y ∷ xs) x = by (p y) (found-push (suc n) xs x)
    where
      by : (t : Bool) → found_from p (suc n) (xs ++ x ∷ []) ≡ or_later (found_from p (suc n) xs) (cond (p x) (Some (suc n + length xs)) None)
          → cond t (Some n) (found_from p (suc n) (xs ++ x ∷ [])) ≡ or_later (cond t (Some n) (found_from p (suc n) xs)) (cond (p x) (Some (n + length (y ∷ xs))) None)
      by true h = refl
      by false h = h ∙ ap (λ m. or_later (found_from p (suc n) xs) (cond (p x) (Some m) None)) (let e : suc n + length xs ≡ n + length (y ∷ xs) = omega arith in e)

  position-push : (xs : List X) (x : X) → position p (xs ++ x ∷ []) ≡ or_later (position p xs) (cond (p x) (Some (length xs)) None)
  position-push xs x =
      found-is (xs ++ x ∷ []) ∙ found-push 0 xs x
      ∙ ap (λ m. or_later (found_from p 0 xs) (cond (p x) (Some m) None)) (let e : 0 + length xs ≡ length xs = omega arith in e)
      ∙ ap (λ o. or_later o (cond (p x) (Some (length xs)) None)) (sym (found-is xs))

  found-before : (n count : ℕ) (xs : List X) → is_some (found_from p n (take count xs)) ≡ is_before (n + count) (found_from p n xs)
  found-before n count [] = ap (λ ys. is_some (found_from p n ys)) (take-nil count)
  found-before n zero (x ∷ xs) = late n (n + 0) (x ∷ xs) (omega arith)
    where
      late : (m bound : ℕ) (ys : List X) → bound ≤ m → false ≡ is_before bound (found_from p m ys)
      late m bound [] l = refl
      late m bound (y ∷ ys) l = by (p y) (late (suc m) bound ys (omega arith))
        where
          by : (t : Bool) → false ≡ is_before bound (found_from p (suc m) ys) → false ≡ is_before bound (cond t (Some m) (found_from p (suc m) ys))
          by true h = grind (arith, nat_tests)
          by false h = h
  found-before n (suc count) (x ∷ xs) = by (p x) (found-before (suc n) count xs)
    where
      by : (t : Bool) → is_some (found_from p (suc n) (take count xs)) ≡ is_before (suc n + count) (found_from p (suc n) xs) → is_some (cond t (Some n) (found_from p (suc n) (take count xs))) ≡ is_before (n + suc count) (cond t (Some n) (found_from p (suc n) xs))
      by true h = grind (arith, nat_tests)
      by false h = h ∙ ap (λ m. is_before m (found_from p (suc n) xs)) (let e : suc n + count ≡ n + suc count = omega arith in e)

  pub position-before : (count : ℕ) (xs : List X) → is_some (position p (take count xs)) ≡ is_before count (position p xs)
  position-before count xs =
      ap is_some (found-is (take count xs)) ∙ found-before 0 count xs
      ∙ ap (λ m. is_before m (found_from p 0 xs)) (let e : 0 + count ≡ count = omega arith in e)
      ∙ ap (is_before count) (sym (found-is xs))

position-same : {X : Type 0} (p q : X → Bool) (xs : List X) → All (λ x. p x ≡ q x) xs → position p xs ≡ position q xs
position-same {X} p q xs h = found-is p xs ∙ by 0 xs h ∙ sym (found-is q xs)
  where
    by : (n : ℕ) (ys : List X) → All (λ x. p x ≡ q x) ys → found_from p n ys ≡ found_from q n ys
    by n [] l = refl
    by n (y ∷ ys) l =
        let e = All-head (λ x. p x ≡ q x) y ys l in
        let r = by (suc n) ys (All-tail (λ x. p x ≡ q x) y ys l) in
        λ i. cond (e i) (Some n) (r i)

pub firsts-new : (m : BTreeMap (Bor (List ℕ)) (Vec (Place ℕ) Global)) → ((q : List ℕ) → stack_at m q ≡ []) → AreFirsts m []
firsts-new m h = record {
  sound = All-nil (λ (f : List ℕ × ℕ). IsSound f.0);
  found = λ q arity. ap (λ ps. place_with ps arity) (h q);
}

pub functions-push : (fs : List Function) (f : Function) → map function_of (fs ++ f ∷ []) ≡ map function_of fs ++ function_of f ∷ []
functions-push fs f = map-append function_of fs (f ∷ [])

-- a function more, which is noted
pub firsts-push : (m n : BTreeMap (Bor (List ℕ)) (Vec (Place ℕ) Global)) (fs : List (List ℕ × ℕ)) (name key : List ℕ) (arity : ℕ) (x : Place ℕ)
    → AreFirsts m fs → IsSound name → key ≡ encode_utf8_all name → x ≡ placed (length fs) arity
    → ((q : List ℕ) → stack_at n q ≡ cond (bytes_eq key q) (stack_at m q ++ x ∷ []) (stack_at m q))
    → AreFirsts n (fs ++ (name, arity) ∷ [])
firsts-push m n fs name key arity x a s k e u = record {
  sound = All-push (λ (f : List ℕ × ℕ). IsSound f.0) fs (name, arity) a.sound s;
  found = λ q c.
      ap (λ ps. place_with ps c) (u q) ∙ by q c (bytes_eq key q)
      ∙ ap (λ t. or_later (position (λ f. bytes_eq (encode_utf8_all f.0) q && f.1 == c) fs) (cond (bytes_eq t q && arity == c) (Some (length fs)) None)) k
      ∙ sym (position-push (λ f. bytes_eq (encode_utf8_all f.0) q && f.1 == c) fs (name, arity));
}
  where
    by : (q : List ℕ) (c : ℕ) (t : Bool) → place_with (cond t (stack_at m q ++ x ∷ []) (stack_at m q)) c ≡ or_later (position (λ f. bytes_eq (encode_utf8_all f.0) q && f.1 == c) fs) (cond (t && arity == c) (Some (length fs)) None)
    by q c true =
        with-push (stack_at m q) x c
        ∙ (λ i. or_later (a.found q c i) (cond ((e i).value == c) (Some (e i).at) None))
    by q c false = a.found q c ∙ sym (or-none (position (λ f. bytes_eq (encode_utf8_all f.0) q && f.1 == c) fs))

module _ (m : BTreeMap (Bor (List ℕ)) (Vec (Place ℕ) Global)) (fs : List (List ℕ × ℕ)) (a : AreFirsts m fs) (name key : List ℕ) (s : IsSound name) (k : key ≡ encode_utf8_all name) (arity : ℕ) where
  -- what a search in the map finds
  pub first-found : place_with (stack_at m key) arity ≡ function_position fs name arity
  first-found =
      a.found key arity
      ∙ position-same (λ f. bytes_eq (encode_utf8_all f.0) key && f.1 == arity) (λ f. bytes_eq f.0 name && f.1 == arity) fs
      (All-weaker (λ (f : List ℕ × ℕ). IsSound f.0) (λ (f : List ℕ × ℕ). (bytes_eq (encode_utf8_all f.0) key && f.1 == arity) ≡ (bytes_eq f.0 name && f.1 == arity))
      (λ f h. ap (λ t. t && f.1 == arity) (ap (bytes_eq (encode_utf8_all f.0)) k ∙ same-name f.0 name h s)) fs a.sound)

-- a function more, of a name and number that the map has
both : (a b : Bool) → (a && b) ≡ true → (a ≡ true) × (b ≡ true)
both true b h = (refl, h)
both false b h = absurd cc

pub firsts-kept : (m : BTreeMap (Bor (List ℕ)) (Vec (Place ℕ) Global)) (fs : List (List ℕ × ℕ)) (name : List ℕ) (arity i : ℕ)
    → AreFirsts m fs → IsSound name → function_position fs name arity ≡ Some i → AreFirsts m (fs ++ (name, arity) ∷ [])
firsts-kept m fs name arity i a s there = record {
  sound = All-push (λ (f : List ℕ × ℕ). IsSound f.0) fs (name, arity) a.sound s;
  found = λ q c.
      by q c (bytes_eq (encode_utf8_all name) q && arity == c) refl
      ∙ ap (λ o. or_later o (cond (bytes_eq (encode_utf8_all name) q && arity == c) (Some (length fs)) None)) (a.found q c)
      ∙ sym (position-push (λ f. bytes_eq (encode_utf8_all f.0) q && f.1 == c) fs (name, arity));
}
  where
    absorbed : (o : Option ℕ) (y : Option ℕ) → o ≡ Some i → o ≡ or_later o y
    absorbed None y h = absurd cc
    absorbed (Some x) y h = refl

    here : (q : List ℕ) (c : ℕ) → encode_utf8_all name ≡ q → arity ≡ c → place_with (stack_at m q) c ≡ Some i
    here q c e d =
        (λ j. place_with (stack_at m (sym e j)) (sym d j))
        ∙ first-found m fs a name (encode_utf8_all name) s refl arity ∙ there

    by : (q : List ℕ) (c : ℕ) (t : Bool) → (bytes_eq (encode_utf8_all name) q && arity == c) ≡ t → place_with (stack_at m q) c ≡ or_later (place_with (stack_at m q) c) (cond t (Some (length fs)) None)
    by q c true e =
        let parts = both (bytes_eq (encode_utf8_all name) q) (arity == c) e in
        absorbed (place_with (stack_at m q) c) (Some (length fs)) (here q c ((bytes_eq-Decides (encode_utf8_all name) q).0 parts.0) (eqb-true arity c parts.1))
    by q c false e = sym (or-none (place_with (stack_at m q) c))

-- a function more, which is noted where it is the first of its name and number
pub firsts-noted : (known : Bool) (m n : BTreeMap (Bor (List ℕ)) (Vec (Place ℕ) Global)) (fs : List (List ℕ × ℕ)) (name key : List ℕ) (arity : ℕ) (x : Place ℕ)
    → AreFirsts m fs → IsSound name → key ≡ encode_utf8_all name → x ≡ placed (length fs) arity
    → known ≡ is_some (function_position fs name arity)
    → ((q : List ℕ) → stack_at n q ≡ cond (not known && bytes_eq key q) (stack_at m q ++ x ∷ []) (stack_at m q))
    → AreFirsts n (fs ++ (name, arity) ∷ [])
firsts-noted false m n fs name key arity x a s k e there u = firsts-push m n fs name key arity x a s k e u
firsts-noted true m n fs name key arity x a s k e there u = by (function_position fs name arity) refl there
  where
    same : AreFirsts n fs
    same = record { sound = a.sound; found = λ q c. ap (λ ps. place_with ps c) (u q) ∙ a.found q c }

    by : (o : Option ℕ) → function_position fs name arity ≡ o → true ≡ is_some o → AreFirsts n (fs ++ (name, arity) ∷ [])
    by None h t = absurd cc
    by (Some i) h t = firsts-kept n fs name arity i same s h

-- whether a function is among the first so many
pub among-first : (count : ℕ) (fs : List (List ℕ × ℕ)) (name : List ℕ) (arity : ℕ) → is_some (function_position (take count fs) name arity) ≡ is_before count (function_position fs name arity)
among-first count fs name arity = position-before (λ f. bytes_eq f.0 name && f.1 == arity) count fs
