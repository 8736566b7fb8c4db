-- Where names are bound.
use Rattle.std.proofs.Common.{◌≡◌, ℕ, suc, ◌+◌, ◌-◌, ◌<◌, ◌≤◌, Bool, true, false, cond, leb, leb-true, leb-false, le-leb, ◌||◌, List, [], ◌∷◌, ◌++◌, length, take, drop, map, reverse, get_or, slice_get, All, Option, Some, None, option_map, Vec, Global, Bor, BTreeMap, refl, sym, ap, ◌∙◌, subst, arith, take-append-drop, get_or-take, length-append, length-drop, length-take}
use Rattle.std.proofs.lemmas.List.{reverse-append, reverse-reverse, get_or-drop}
use Rattle.std.proofs.lemmas.List.Elements.{All-nil, All-cons, All-head, All-tail, All-same, All-push, All-weaker, All-get_or}
use Rattle.std.proofs.lemmas.List.Sorted.{IsNonDecreasingBy-short, IsNonDecreasingBy-push}
use Rattle.std.proofs.lemmas.Option.{slice_get-get_or}
use Rattle.std.proofs.lemmas.Slice.Eq.{bytes_eq-Decides}
use Rattle.std.proofs.Math.Seq.{take-nil, drop-nil, get_or-append_seam}
use Rattle.std.specs.List.Sorted.{IsNonDecreasingBy, IsPartitionPoint}
use Rattle.std.specs.Str.{bytes_eq, chars, encode_utf8_all}
use Rattle.name_scopes.specs.declared.stacks.Place.{Place}
use Rattle.name_scopes.specs.declared.scope.Entry.{Entry}
use Rattle.name_scopes.specs.Scopes.{value_found, first_bound, bound_after, is_bound, is_between}
use Rattle.name_scopes.specs.inside.Stacks.{stack_at, without_last}
use Rattle.name_scopes.specs.inside.Places.{binding_of, bindings, placed, places, first_place, last_place, AreStacks}

lt-leb : (m n : ℕ) → n < m → leb m n ≡ false
lt-leb m n h = by (leb m n) refl
  where
    by : (t : Bool) → leb m n ≡ t → leb m n ≡ false
    by true e = let le = leb-true m n e in absurd (omega arith)
    by false e = e

-- a name that is spelled out again from its bytes
abbrev pub IsSound : List ℕ → Type 0
IsSound n = chars (encode_utf8_all n) ≡ n

same-truth : (a b : Bool) → (a ≡ true → b ≡ true) → (b ≡ true → a ≡ true) → a ≡ b
same-truth true true f g = refl
same-truth true false f g = sym (f refl)
same-truth false true f g = g refl
same-truth false false f g = refl

pub same-name : (a n : List ℕ) → IsSound a → IsSound n → bytes_eq (encode_utf8_all a) (encode_utf8_all n) ≡ bytes_eq a n
same-name a n h k =
    same-truth (bytes_eq (encode_utf8_all a) (encode_utf8_all n)) (bytes_eq a n)
    (λ e. (bytes_eq-Decides a n).1 (sym h ∙ ap chars ((bytes_eq-Decides (encode_utf8_all a) (encode_utf8_all n)).0 e) ∙ k))
    (λ e. (bytes_eq-Decides (encode_utf8_all a) (encode_utf8_all n)).1 (ap encode_utf8_all ((bytes_eq-Decides a n).0 e)))

-- what changes at a name changes at each that has the same bytes
pub at-bytes : {X : Type 0} (f : List ℕ → X) (g : X → X) (a q : List ℕ) → cond (bytes_eq a q) (g (f a)) (f q) ≡ cond (bytes_eq a q) (g (f q)) (f q)
at-bytes {X} f g a q = by (bytes_eq a q) refl
  where
    by : (b : Bool) → bytes_eq a q ≡ b → cond b (g (f a)) (f q) ≡ cond b (g (f q)) (f q)
    by true e = ap (λ n. g (f n)) ((bytes_eq-Decides a q).0 e)
    by false e = refl

module _ {X : Type 0} where
  pub all-reverse : (P : X → Type 0) (xs : List X) → All P xs → All P (reverse xs)
  all-reverse P [] h = h
  all-reverse P (x ∷ xs) h =
      subst (All P) (sym (reverse-append (x ∷ []) xs)) (All-push P (reverse xs) x (all-reverse P xs (All-tail P x xs h)) (All-head P x xs h))

  seam : (xs : List X) (x : X) → slice_get (xs ++ x ∷ []) (length (xs ++ x ∷ []) - 1) ≡ Some x
  seam xs x =
      let long = length-append xs (x ∷ []) in
      let within : length (xs ++ x ∷ []) - 1 < length (xs ++ x ∷ []) = omega arith in
      let last : length (xs ++ x ∷ []) - 1 ≡ length xs = omega arith in
      slice_get-get_or (xs ++ x ∷ []) (length (xs ++ x ∷ []) - 1) x within
      ∙ ap Some (ap (λ n. get_or (xs ++ x ∷ []) n x) last ∙ get_or-append_seam xs x [] x)

  -- what is left without the last
  pub without : (xs ys : List X) (y : X) → reverse xs ≡ y ∷ ys → reverse (take (length xs - 1) xs) ≡ ys
  without xs ys y h =
      let whole : xs ≡ reverse ys ++ y ∷ [] = sym (reverse-reverse xs) ∙ ap reverse h ∙ reverse-append (y ∷ []) ys in
      let long = length-append (reverse ys) (y ∷ []) in
      let size : length (reverse ys ++ y ∷ []) - 1 ≡ length (reverse ys) = omega arith in
      ap (λ zs. reverse (take (length zs - 1) zs)) whole
      ∙ ap (λ n. reverse (take n (reverse ys ++ y ∷ []))) size
      ∙ ap reverse (front (reverse ys) (y ∷ []))
      ∙ reverse-reverse ys
    where
      front : (us vs : List X) → take (length us) (us ++ vs) ≡ us
      front [] vs = refl
      front (u ∷ us) vs = ap (λ ws. u ∷ ws) (front us vs)

module _ {V : Type 0} where
  pub last-first : (xs : List (Place V)) → slice_get xs (length xs - 1) ≡ first_place (reverse xs)
  last-first xs = ap (λ ys. slice_get ys (length ys - 1)) (sym (reverse-reverse xs)) ∙ by (reverse xs)
    where
      by : (ys : List (Place V)) → slice_get (reverse ys) (length (reverse ys) - 1) ≡ first_place ys
      by [] = refl
      by (y ∷ ys) = ap (λ zs. slice_get zs (length zs - 1)) (reverse-append (y ∷ []) ys) ∙ seam (reverse ys) y

  pub places-same : (p q : List ℕ → Bool) (bs : List (List ℕ × V)) → All (λ (b : List ℕ × V). p b.0 ≡ q b.0) bs → places p bs ≡ places q bs
  places-same p q [] h = refl
  places-same p q (b ∷ bs) h =
      let e = All-head (λ (c : List ℕ × V). p c.0 ≡ q c.0) b bs h in
      let r = places-same p q bs (All-tail (λ (c : List ℕ × V). p c.0 ≡ q c.0) b bs h) in
      λ i. cond (e i) (placed (length bs) b.1 ∷ r i) (r i)

  pub below : (p : List ℕ → Bool) (bs : List (List ℕ × V)) → All (λ (x : Place V). x.at < length bs) (places p bs)
  below p [] = All-nil (λ (x : Place V). x.at < 0)
  below p (b ∷ bs) =
      by (p b.0) (All-weaker (λ (x : Place V). x.at < length bs) (λ (x : Place V). x.at < length (b ∷ bs)) (λ x h. omega arith) (places p bs) (below p bs))
    where
      by : (t : Bool) → All (λ (x : Place V). x.at < length (b ∷ bs)) (places p bs) → All (λ (x : Place V). x.at < length (b ∷ bs)) (cond t (placed (length bs) b.1 ∷ places p bs) (places p bs))
      by true rest = All-cons (λ (x : Place V). x.at < length (b ∷ bs)) (placed (length bs) b.1) (places p bs) (omega arith) rest
      by false rest = rest

  pub rising : (p : List ℕ → Bool) (bs : List (List ℕ × V)) → IsNonDecreasingBy (λ (x : Place V). x.at) (reverse (places p bs))
  rising p [] = IsNonDecreasingBy-short (λ (x : Place V). x.at) [] (omega arith)
  rising p (b ∷ bs) = by (p b.0) (rising p bs)
    where
      last : (d : Place V) → 0 < length (reverse (places p bs)) → (get_or (reverse (places p bs)) (length (reverse (places p bs)) - 1) d).at ≤ length bs
      last d h =
          let within : length (reverse (places p bs)) - 1 < length (reverse (places p bs)) = omega arith in
          let l = All-get_or (λ (x : Place V). x.at < length bs) (reverse (places p bs)) (length (reverse (places p bs)) - 1) d within (all-reverse (λ (x : Place V). x.at < length bs) (places p bs) (below p bs)) in
          omega arith

      by : (t : Bool) → IsNonDecreasingBy (λ (x : Place V). x.at) (reverse (places p bs)) → IsNonDecreasingBy (λ (x : Place V). x.at) (reverse (cond t (placed (length bs) b.1 ∷ places p bs) (places p bs)))
      by true rest =
          subst (IsNonDecreasingBy (λ (x : Place V). x.at)) (sym (reverse-append (placed (length bs) b.1 ∷ []) (places p bs)))
          (IsNonDecreasingBy-push (λ (x : Place V). x.at) (reverse (places p bs)) (placed (length bs) b.1) rest last)
      by false rest = rest

  -- the places among the first so many names are those that are low enough
  module _ (p : List ℕ → Bool) (mark : ℕ) where
    tail-same : (x y : Place V) (xs ys : List (Place V)) → x ∷ xs ≡ y ∷ ys → xs ≡ ys
    tail-same x y xs ys e = ap (drop 1) e

    all-low : (bs : List (List ℕ × V)) (xs ys : List (Place V)) → length bs ≤ mark → places p bs ≡ xs ++ ys → All (λ (x : Place V). mark ≤ x.at) xs → ys ≡ places p bs
    all-low bs [] ys l e h = sym e
    all-low bs (x ∷ xs) ys l e h =
        let high = All-head (λ (y : Place V). mark ≤ y.at) x xs h in
        let low = All-head (λ (y : Place V). y.at < length bs) x (xs ++ ys) (All-same (λ (y : Place V). y.at < length bs) (x ∷ (xs ++ ys)) (places p bs) (sym e) (below p bs)) in
        absurd (omega arith)

    pub split : (bs : List (List ℕ × V)) (xs ys : List (Place V)) → places p bs ≡ xs ++ ys → All (λ (x : Place V). mark ≤ x.at) xs → All (λ (x : Place V). x.at < mark) ys → ys ≡ places p (first_bound mark bs)
    split [] xs ys e high low =
        all-low [] xs ys (omega arith) e high ∙ ap (places p) (sym (drop-nil (0 - mark)))
    split (b ∷ bs) xs ys e high low = by (leb mark (length bs)) refl (λ us f h. split bs us ys f h low)
      where
        turn : ((us : List (Place V)) → places p bs ≡ us ++ ys → All (λ (x : Place V). mark ≤ x.at) us → ys ≡ places p (first_bound mark bs)) → (t : Bool) (us : List (Place V)) → cond t (placed (length bs) b.1 ∷ places p bs) (places p bs) ≡ us ++ ys → All (λ (x : Place V). mark ≤ x.at) us → mark ≤ length bs → ys ≡ places p (first_bound mark bs)
        turn rest false us f h l = rest us f h
        turn rest true [] f h l =
            let lowest = All-head (λ (y : Place V). y.at < mark) (placed (length bs) b.1) (places p bs) (All-same (λ (y : Place V). y.at < mark) (placed (length bs) b.1 ∷ places p bs) ys f low) in
            absurd (omega arith)
        turn rest true (u ∷ us) f h l =
            rest us (tail-same (placed (length bs) b.1) u (places p bs) (us ++ ys) f) (All-tail (λ (y : Place V). mark ≤ y.at) u us h)

        by : (t : Bool) → leb mark (length bs) ≡ t → ((us : List (Place V)) → places p bs ≡ us ++ ys → All (λ (x : Place V). mark ≤ x.at) us → ys ≡ places p (first_bound mark bs)) → ys ≡ places p (first_bound mark (b ∷ bs))
        by true l rest =
            let le : mark ≤ length bs = leb-true mark (length bs) l in
            let more : length (b ∷ bs) - mark ≡ suc (length bs - mark) = omega arith in
            turn rest (p b.0) xs e high le ∙ ap (λ n. places p (drop n (b ∷ bs))) (sym more)
        by false l rest =
            let lt : length bs < mark = leb-false mark (length bs) l in
            let none : length (b ∷ bs) - mark ≡ 0 = omega arith in
            let all : length (b ∷ bs) ≤ mark = omega arith in
            all-low (b ∷ bs) xs ys all e high ∙ ap (λ n. places p (drop n (b ∷ bs))) (sym none)

  -- a search among places finds what a search among bindings finds
  pub value-place : (bs : List (List ℕ × V)) (name : List ℕ) → value_found bs name ≡ option_map (λ (x : Place V). x.value) (last_place bs name)
  value-place [] name = refl
  value-place (b ∷ bs) name = by (bytes_eq b.0 name) (value-place bs name)
    where
      by : (t : Bool) → value_found bs name ≡ option_map (λ (x : Place V). x.value) (last_place bs name) → cond t (Some b.1) (value_found bs name) ≡ option_map (λ (x : Place V). x.value) (first_place (cond t (placed (length bs) b.1 ∷ places (λ x. bytes_eq x name) bs) (places (λ x. bytes_eq x name) bs)))
      by true h = refl
      by false h = h

  -- whether a place comes after so many names
  abbrev pub is_after : ℕ → Option (Place V) → Bool
  is_after base None = false
  is_after base (Some x) = leb base x.at

  none-after : (base : ℕ) (xs : List (Place V)) → All (λ (x : Place V). x.at < base) xs → is_after base (first_place xs) ≡ false
  none-after base [] h = refl
  none-after base (x ∷ xs) h =
      let lt = All-head (λ (y : Place V). y.at < base) x xs h in
      lt-leb base x.at lt

  pub between-place : (base : ℕ) (bs : List (List ℕ × V)) (name : List ℕ) → is_bound (bound_after base bs) name ≡ is_after base (last_place bs name)
  between-place base [] name = ap (λ (us : List (List ℕ × V)). is_bound us name) (take-nil (0 - base))
  between-place base (b ∷ bs) name = by (leb base (length bs)) refl (between-place base bs name)
    where
      turn : is_bound (bound_after base bs) name ≡ is_after base (last_place bs name) → (t : Bool) → base ≤ length bs → (t || is_bound (bound_after base bs) name) ≡ is_after base (first_place (cond t (placed (length bs) b.1 ∷ places (λ x. bytes_eq x name) bs) (places (λ x. bytes_eq x name) bs)))
      turn rest true l = sym (le-leb base (length bs) l)
      turn rest false l = rest

      by : (t : Bool) → leb base (length bs) ≡ t → is_bound (bound_after base bs) name ≡ is_after base (last_place bs name) → is_bound (bound_after base (b ∷ bs)) name ≡ is_after base (last_place (b ∷ bs) name)
      by true l rest =
          let le : base ≤ length bs = leb-true base (length bs) l in
          let more : length (b ∷ bs) - base ≡ suc (length bs - base) = omega arith in
          ap (λ n. is_bound (take n (b ∷ bs)) name) more ∙ turn rest (bytes_eq b.0 name) le
      by false l rest =
          let lt : length bs < base = leb-false base (length bs) l in
          let none : length (b ∷ bs) - base ≡ 0 = omega arith in
          ap (λ n. is_bound (take n (b ∷ bs)) name) none
          ∙ sym (none-after base (places (λ x. bytes_eq x name) (b ∷ bs)) (All-weaker (λ (x : Place V). x.at < length (b ∷ bs)) (λ (x : Place V). x.at < base) (λ x h. omega arith) (places (λ x. bytes_eq x name) (b ∷ bs)) (below (λ x. bytes_eq x name) (b ∷ bs))))

-- the map of the names that are bound
module _ {V : Type 0} where
  pub bindings-push : (es : List (Entry V)) (e : Entry V) → bindings (es ++ e ∷ []) ≡ binding_of e ∷ bindings es
  bindings-push es e = ap (map binding_of) (reverse-append es (e ∷ []))

  pub first-popped : (n : ℕ) (bs : List (List ℕ × V)) → n < length bs → first_bound n (drop 1 bs) ≡ first_bound n bs
  first-popped n [] l = absurd (omega arith)
  first-popped n (b ∷ bs) l =
      let more : length (b ∷ bs) - n ≡ suc (length bs - n) = omega arith in
      ap (λ k. drop k (b ∷ bs)) (sym more)

  pub first-all : (n : ℕ) (bs : List (List ℕ × V)) → length bs ≤ n → bs ≡ first_bound n bs
  first-all n bs l =
      let none : 0 ≡ length bs - n = omega arith in
      ap (λ k. drop k bs) none

  pub stacks-new : (m : BTreeMap (Bor (List ℕ)) (Vec (Place V) Global)) → ((q : List ℕ) → stack_at m q ≡ []) → AreStacks m []
  stacks-new m h = record {
    sound = All-nil (λ (b : List ℕ × V). IsSound b.0);
    found = λ q. ap reverse (h q);
  }

  pub stacks-push : (m n : BTreeMap (Bor (List ℕ)) (Vec (Place V) Global)) (bs : List (List ℕ × V)) (name key : List ℕ) (v : V) (x : Place V)
      → AreStacks m bs → IsSound name → key ≡ encode_utf8_all name → x ≡ placed (length bs) v
      → ((q : List ℕ) → stack_at n q ≡ cond (bytes_eq key q) (stack_at m q ++ x ∷ []) (stack_at m q))
      → AreStacks n ((name, v) ∷ bs)
  stacks-push m n bs name key v x a s k e u = record {
    sound = All-cons (λ (b : List ℕ × V). IsSound b.0) (name, v) bs s a.sound;
    found = λ q. ap reverse (u q) ∙ by q (bytes_eq key q) ∙ ap (λ t. cond (bytes_eq t q) (placed (length bs) v ∷ places (λ x. bytes_eq (encode_utf8_all x) q) bs) (places (λ x. bytes_eq (encode_utf8_all x) q) bs)) k;
  }
    where
      by : (q : List ℕ) (t : Bool) → reverse (cond t (stack_at m q ++ x ∷ []) (stack_at m q)) ≡ cond t (placed (length bs) v ∷ places (λ x. bytes_eq (encode_utf8_all x) q) bs) (places (λ x. bytes_eq (encode_utf8_all x) q) bs)
      by q true = reverse-append (stack_at m q) (x ∷ []) ∙ (λ i. e i ∷ a.found q i)
      by q false = a.found q

  pub stacks-pop : (m n : BTreeMap (Bor (List ℕ)) (Vec (Place V) Global)) (bs : List (List ℕ × V)) (b : List ℕ × V) (key : List ℕ)
      → AreStacks m (b ∷ bs) → key ≡ encode_utf8_all b.0
      → ((q : List ℕ) → stack_at n q ≡ cond (bytes_eq key q) (without_last (stack_at m q)) (stack_at m q))
      → AreStacks n bs
  stacks-pop m n bs b key a k u = record {
    sound = All-tail (λ (c : List ℕ × V). IsSound c.0) b bs a.sound;
    found = λ q. ap reverse (u q) ∙ by q (bytes_eq key q) (a.found q ∙ ap (λ t. cond (bytes_eq t q) (placed (length bs) b.1 ∷ places (λ x. bytes_eq (encode_utf8_all x) q) bs) (places (λ x. bytes_eq (encode_utf8_all x) q) bs)) (sym k));
  }
    where
      by : (q : List ℕ) (t : Bool) → reverse (stack_at m q) ≡ cond t (placed (length bs) b.1 ∷ places (λ x. bytes_eq (encode_utf8_all x) q) bs) (places (λ x. bytes_eq (encode_utf8_all x) q) bs)
          → reverse (cond t (without_last (stack_at m q)) (stack_at m q)) ≡ places (λ x. bytes_eq (encode_utf8_all x) q) bs
      by q true h = without (stack_at m q) (places (λ x. bytes_eq (encode_utf8_all x) q) bs) (placed (length bs) b.1) h
      by q false h = h

  -- what a search in the map finds
  module _ (m : BTreeMap (Bor (List ℕ)) (Vec (Place V) Global)) (bs : List (List ℕ × V)) (a : AreStacks m bs) (name key : List ℕ) (s : IsSound name) (k : key ≡ encode_utf8_all name) where
    named : reverse (stack_at m key) ≡ places (λ x. bytes_eq x name) bs
    named =
        a.found key
        ∙ places-same (λ x. bytes_eq (encode_utf8_all x) key) (λ x. bytes_eq x name) bs
        (All-weaker (λ (b : List ℕ × V). IsSound b.0) (λ (b : List ℕ × V). bytes_eq (encode_utf8_all b.0) key ≡ bytes_eq b.0 name)
        (λ b h. ap (bytes_eq (encode_utf8_all b.0)) k ∙ same-name b.0 name h s) bs a.sound)

    pub stack-rises : IsNonDecreasingBy (λ (x : Place V). x.at) (stack_at m key)
    stack-rises =
        subst (IsNonDecreasingBy (λ (x : Place V). x.at)) (ap reverse (sym named) ∙ reverse-reverse (stack_at m key)) (rising (λ x. bytes_eq x name) bs)

    pub last-found : (mark count : ℕ) → IsPartitionPoint (λ (x : Place V). x.at < mark) (λ (x : Place V). mark ≤ x.at) (stack_at m key) count
        → slice_get (take count (stack_at m key)) (length (take count (stack_at m key)) - 1) ≡ last_place (first_bound mark bs) name
    last-found mark count point =
        let ps = stack_at m key in
        last-first (take count ps)
        ∙ ap first_place (split (λ x. bytes_eq x name) mark bs (reverse (drop count ps)) (reverse (take count ps))
        (sym named ∙ ap reverse (sym (take-append-drop count ps)) ∙ reverse-append (take count ps) (drop count ps))
        (all-reverse (λ (x : Place V). mark ≤ x.at) (drop count ps) high)
        (all-reverse (λ (x : Place V). x.at < mark) (take count ps) low))
      where
        high : All (λ (x : Place V). mark ≤ x.at) (drop count (stack_at m key))
        high j d h =
            let long = length-drop count (stack_at m key) in
            let within : count + j < length (stack_at m key) = omega arith in
            subst (λ (x : Place V). mark ≤ x.at) (sym (get_or-drop count (stack_at m key) j d)) (point.1 (count + j) d (omega arith) within)

        low : All (λ (x : Place V). x.at < mark) (take count (stack_at m key))
        low j d h =
            let long = length-take count (stack_at m key) in
            let within : j < count = omega arith in
            subst (λ (x : Place V). x.at < mark) (sym (get_or-take count (stack_at m key) j d within)) (point.0 j d (omega arith) within)
