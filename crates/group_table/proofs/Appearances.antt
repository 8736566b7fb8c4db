-- Groups by first appearance: one tuple more.
use Rattle.std.proofs.Common.{◌≡◌, Bool, true, false, not, cond, if◌then◌else◌, List, [], ◌∷◌, ◌++◌, refl, sym, ap, ◌∙◌, append-nil}
use Rattle.std.specs.List.{filter}
use Rattle.group_table.specs.Groups.{firsts, having, groups}
use Rattle.group_table.specs.inside.Puts.{keys_in, parted, added}

module _ {K : Type 0} (eq : K → K → Bool) (symm : (x y : K) → eq x y ≡ eq y x)
    (congr : (x y z : K) → eq x y ≡ true → eq x z ≡ eq y z) where
  abbrev Apart : K → List K → Type 0
  Apart k [] = Unit {0}
  Apart k (j ∷ js) = (eq k j ≡ false) × Apart k js

  abbrev Distinct : List K → Type 0
  Distinct [] = Unit {0}
  Distinct (k ∷ ks) = Apart k ks × Distinct ks

  abbrev has : K → List K → Bool
  has j [] = false
  has j (k ∷ ks) = if eq j k then true else has j ks

  apart_filter_case : (b : Bool) (k j : K) (js : List K) → eq k j ≡ false → Apart k js → Apart k (cond b (j ∷ js) js)
  apart_filter_case true k j js e a = (e, a)
  apart_filter_case false k j js e a = a

  apart_self_case : (b : Bool) (k j : K) (js : List K) → eq k j ≡ b → Apart k js → Apart k (cond (not b) (j ∷ js) js)
  apart_self_case true k j js e a = a
  apart_self_case false k j js e a = (e, a)

  distinct_case : (b : Bool) (j : K) (js : List K) → Apart j js → Distinct js → Distinct (cond b (j ∷ js) js)
  distinct_case true j js a d = (a, d)
  distinct_case false j js a d = d

  apart_filter : (k : K) (p : K → Bool) (js : List K) → Apart k js → Apart k (filter p js)
  apart_filter k p [] a = tt
  apart_filter k p (j ∷ js) (e, a) = apart_filter_case (p j) k j (filter p js) e (apart_filter k p js a)

  apart_self : (k : K) (js : List K) → Apart k (filter (λ j. not (eq k j)) js)
  apart_self k [] = tt
  apart_self k (j ∷ js) = apart_self_case (eq k j) k j (filter (λ j. not (eq k j)) js) refl (apart_self k js)

  distinct_filter : (p : K → Bool) (js : List K) → Distinct js → Distinct (filter p js)
  distinct_filter p [] d = tt
  distinct_filter p (j ∷ js) (a, d) = distinct_case (p j) j (filter p js) (apart_filter j p js a) (distinct_filter p js d)

  firsts_distinct : (ks : List K) → Distinct (firsts eq ks)
  firsts_distinct [] = tt
  firsts_distinct (k ∷ ks) = (apart_self k (firsts eq ks), distinct_filter (λ j. not (eq k j)) (firsts eq ks) (firsts_distinct ks))

  has_apart_case : (b : Bool) (j k : K) (ks : List K) → eq j k ≡ b → (if b then true else has j ks) ≡ false → (has j ks ≡ false → Apart j ks) → Apart j (k ∷ ks)
  has_apart_case true j k ks e h rest = absurd cc
  has_apart_case false j k ks e h rest = (e, rest h)

  has_apart : (j : K) (ks : List K) → has j ks ≡ false → Apart j ks
  has_apart j [] h = tt
  has_apart j (k ∷ ks) h = has_apart_case (eq j k) j k ks refl h (has_apart j ks)

  -- a filter of what is not like k keeps what is like j, where j is not like k
  has_filter_case : (a b : Bool) (j k i : K) (ks : List K) → eq k i ≡ a → eq j i ≡ b → eq j k ≡ false → has j (filter (λ i. not (eq k i)) ks) ≡ has j ks
      → has j (cond (not a) (i ∷ filter (λ i. not (eq k i)) ks) (filter (λ i. not (eq k i)) ks)) ≡ (if b then true else has j ks)
  has_filter_case true true j k i ks e f h rest = let m : eq j k ≡ true = symm j k ∙ congr k i j e ∙ symm i j ∙ f in absurd cc
  has_filter_case true false j k i ks e f h rest = rest
  has_filter_case false true j k i ks e f h rest = ap (λ (b : Bool). if b then true else has j (filter (λ i. not (eq k i)) ks)) f
  has_filter_case false false j k i ks e f h rest = ap (λ (b : Bool). if b then true else has j (filter (λ i. not (eq k i)) ks)) f ∙ rest

  has_filter : (j k : K) (ks : List K) → eq j k ≡ false → has j (filter (λ i. not (eq k i)) ks) ≡ has j ks
  has_filter j k [] h = refl
  has_filter j k (i ∷ ks) h = has_filter_case (eq k i) (eq j i) j k i ks refl refl h (has_filter j k ks h)

  has_firsts_case : (b : Bool) (j k : K) (ks : List K) → eq j k ≡ b → has j (firsts eq ks) ≡ has j ks → (if b then true else has j (filter (λ i. not (eq k i)) (firsts eq ks))) ≡ (if b then true else has j ks)
  has_firsts_case true j k ks e h = refl
  has_firsts_case false j k ks e h = has_filter j k (firsts eq ks) e ∙ h

  has_firsts : (j : K) (ks : List K) → has j (firsts eq ks) ≡ has j ks
  has_firsts j [] = refl
  has_firsts j (k ∷ ks) = has_firsts_case (eq j k) j k ks refl (has_firsts j ks)

  filter_end_case : (b : Bool) (k : K) (ks js end_ : List K) → js ≡ ks ++ end_ → cond b (k ∷ js) js ≡ cond b (k ∷ ks) ks ++ end_
  filter_end_case true k ks js end_ h = ap (λ (is : List K). k ∷ is) h
  filter_end_case false k ks js end_ h = h

  filter_end : (p : K → Bool) (ks : List K) (j : K) → filter p (ks ++ j ∷ []) ≡ filter p ks ++ cond (p j) (j ∷ []) []
  filter_end p [] j = refl
  filter_end p (k ∷ ks) j = filter_end_case (p k) k (filter p ks) (filter p (ks ++ j ∷ [])) (cond (p j) (j ∷ []) []) (filter_end p ks j)

  firsts_more_case : (b h : Bool) (k j : K) (ks : List K) → eq k j ≡ b → k ∷ filter (λ i. not (eq k i)) (if h then ks else ks ++ j ∷ []) ≡ (if (if b then true else h) then k ∷ filter (λ i. not (eq k i)) ks else (k ∷ filter (λ i. not (eq k i)) ks) ++ j ∷ [])
  firsts_more_case true true k j ks e = refl
  firsts_more_case true false k j ks e = ap (λ (is : List K). k ∷ is) (filter_end (λ i. not (eq k i)) ks j ∙ ap (λ (b : Bool). filter (λ i. not (eq k i)) ks ++ cond (not b) (j ∷ []) []) e ∙ append-nil (filter (λ i. not (eq k i)) ks))
  firsts_more_case false true k j ks e = refl
  firsts_more_case false false k j ks e = ap (λ (is : List K). k ∷ is) (filter_end (λ i. not (eq k i)) ks j ∙ ap (λ (b : Bool). filter (λ i. not (eq k i)) ks ++ cond (not b) (j ∷ []) []) e)

  firsts_more : (ks : List K) (j : K) → firsts eq (ks ++ j ∷ []) ≡ (if has j ks then firsts eq ks else firsts eq ks ++ j ∷ [])
  firsts_more [] j = refl
  firsts_more (k ∷ ks) j =
      ap (λ (js : List K). k ∷ filter (λ i. not (eq k i)) js) (firsts_more ks j) ∙ firsts_more_case (eq j k) (has j ks) k j (firsts eq ks) (symm k j)

  apart_like : (j k : K) (ks : List K) → eq j k ≡ true → Apart k ks → Apart j ks
  apart_like j k [] h a = tt
  apart_like j k (i ∷ ks) h (e, a) = (congr j k i h ∙ e, apart_like j k ks h a)

  module _ {T : Type 0} where
    -- what a key gains
    abbrev gain : K → K → T → List T
    gain j k t = if eq k j then t ∷ [] else []

    having_case : (b : Bool) (t : T) (ts us end_ : List T) → us ≡ ts ++ end_ → (if b then t ∷ us else us) ≡ (if b then t ∷ ts else ts) ++ end_
    having_case true t ts us end_ h = ap (λ (is : List T). t ∷ is) h
    having_case false t ts us end_ h = h

    having_more : (k : K) (X : List (K × T)) (j : K) (t : T) → having eq k (X ++ (j, t) ∷ []) ≡ having eq k X ++ gain j k t
    having_more k [] j t = refl
    having_more k (p ∷ X) j t = having_case (eq k p.0) (p.1) (having eq k X) (having eq k (X ++ (j, t) ∷ [])) (gain j k t) (having_more k X j t)

    keys_more : (X : List (K × T)) (p : K × T) → keys_in (X ++ p ∷ []) ≡ keys_in X ++ p.0 ∷ []
    keys_more [] p = refl
    keys_more (q ∷ X) p = ap (λ (ks : List K). q.0 ∷ ks) (keys_more X p)

    having_none_case : (b : Bool) (j : K) (p : K × T) (X : List (K × T)) → (if b then true else has j (keys_in X)) ≡ false → (has j (keys_in X) ≡ false → having eq j X ≡ []) → (if b then p.1 ∷ having eq j X else having eq j X) ≡ []
    having_none_case true j p X h rest = absurd cc
    having_none_case false j p X h rest = rest h

    having_none : (j : K) (X : List (K × T)) → has j (keys_in X) ≡ false → having eq j X ≡ []
    having_none j [] h = refl
    having_none j (p ∷ X) h = having_none_case (eq j p.0) j p X h (having_none j X)

    parted_apart : (j : K) (t : T) (ks : List K) (f : K → List T) → Apart j ks → parted ks (λ k. f k ++ gain j k t) ≡ parted ks f
    parted_apart j t [] f a = refl
    parted_apart j t (k ∷ ks) f (e, a) =
        ap (λ (b : Bool). (k, f k ++ (if b then t ∷ [] else [])) ∷ parted ks (λ k. f k ++ gain j k t)) (symm k j ∙ e)
        ∙ ap (λ (ts : List T). (k, ts) ∷ parted ks (λ k. f k ++ gain j k t)) (append-nil (f k))
        ∙ ap (λ (us : List (K × List T)). (k, f k) ∷ us) (parted_apart j t ks f a)

    added_there_case : (b : Bool) (j : K) (t : T) (k : K) (ks : List K) (f : K → List T) → eq j k ≡ b → (if b then true else has j ks) ≡ true → Apart k ks
        → (has j ks ≡ true → added eq (parted ks f) j t ≡ parted ks (λ k. f k ++ gain j k t))
        → (if b then (k, f k ++ t ∷ []) ∷ parted ks f else (k, f k) ∷ added eq (parted ks f) j t) ≡ (k, f k ++ gain j k t) ∷ parted ks (λ k. f k ++ gain j k t)
    added_there_case true j t k ks f e h a rest =
        ap (λ (us : List (K × List T)). (k, f k ++ t ∷ []) ∷ us) (sym (parted_apart j t ks f (apart_like j k ks e a)))
        ∙ sym (ap (λ (b : Bool). (k, f k ++ (if b then t ∷ [] else [])) ∷ parted ks (λ k. f k ++ gain j k t)) (symm k j ∙ e))
    added_there_case false j t k ks f e h a rest =
        ap (λ (us : List (K × List T)). (k, f k) ∷ us) (rest h)
        ∙ ap (λ (ts : List T). (k, ts) ∷ parted ks (λ k. f k ++ gain j k t)) (sym (append-nil (f k)))
        ∙ sym (ap (λ (b : Bool). (k, f k ++ (if b then t ∷ [] else [])) ∷ parted ks (λ k. f k ++ gain j k t)) (symm k j ∙ e))

    added_there : (j : K) (t : T) (ks : List K) (f : K → List T) → has j ks ≡ true → Distinct ks → added eq (parted ks f) j t ≡ parted ks (λ k. f k ++ gain j k t)
    added_there j t [] f h d = absurd cc
    added_there j t (k ∷ ks) f h (a, d) = added_there_case (eq j k) j t k ks f refl h a (λ m. added_there j t ks f m d)

    added_new : (j : K) (t : T) (ks : List K) (f : K → List T) → Apart j ks → added eq (parted ks f) j t ≡ parted ks f ++ (j, t ∷ []) ∷ []
    added_new j t [] f a = refl
    added_new j t (k ∷ ks) f (e, a) =
        ap (λ (b : Bool). if b then (k, f k ++ t ∷ []) ∷ parted ks f else (k, f k) ∷ added eq (parted ks f) j t) e ∙ ap (λ (us : List (K × List T)). (k, f k) ∷ us) (added_new j t ks f a)

    parted_end : (ks : List K) (j : K) (f : K → List T) → parted (ks ++ j ∷ []) f ≡ parted ks f ++ (j, f j) ∷ []
    parted_end [] j f = refl
    parted_end (k ∷ ks) j f = ap (λ (us : List (K × List T)). (k, f k) ∷ us) (parted_end ks j f)

    more_case : (b : Bool) (X : List (K × T)) (j : K) (t : T) → eq j j ≡ true → has j (keys_in X) ≡ b
        → parted (if b then firsts eq (keys_in X) else firsts eq (keys_in X) ++ j ∷ []) (λ k. having eq k X ++ gain j k t) ≡ added eq (groups eq X) j t
    more_case true X j t own h = sym (added_there j t (firsts eq (keys_in X)) (λ k. having eq k X) (has_firsts j (keys_in X) ∙ h) (firsts_distinct (keys_in X)))
    more_case false X j t own h =
        let far : Apart j (firsts eq (keys_in X)) = has_apart j (firsts eq (keys_in X)) (has_firsts j (keys_in X) ∙ h) in
        parted_end (firsts eq (keys_in X)) j (λ k. having eq k X ++ gain j k t)
        ∙ ap (λ (us : List (K × List T)). us ++ (j, having eq j X ++ gain j j t) ∷ []) (parted_apart j t (firsts eq (keys_in X)) (λ k. having eq k X) far)
        ∙ ap (λ (ts : List T). groups eq X ++ (j, ts ++ gain j j t) ∷ []) (having_none j X h)
        ∙ ap (λ (b : Bool). groups eq X ++ (j, if b then t ∷ [] else []) ∷ []) own
        ∙ sym (added_new j t (firsts eq (keys_in X)) (λ k. having eq k X) far)

    pub groups_more : (X : List (K × T)) (j : K) (t : T) → eq j j ≡ true → groups eq (X ++ (j, t) ∷ []) ≡ added eq (groups eq X) j t
    groups_more X j t own =
        ap (λ (ks : List K). parted (firsts eq ks) (λ k. having eq k (X ++ (j, t) ∷ []))) (keys_more X (j, t))
        ∙ ap (λ (ks : List K). parted ks (λ k. having eq k (X ++ (j, t) ∷ []))) (firsts_more (keys_in X) j)
        ∙ ap (parted (if has j (keys_in X) then firsts eq (keys_in X) else firsts eq (keys_in X) ++ j ∷ [])) (λ i k. having_more k X j t i)
        ∙ more_case (has j (keys_in X)) X j t own refl
