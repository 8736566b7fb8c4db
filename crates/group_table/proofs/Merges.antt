-- Groups of two lists, one behind the other.
use Rattle.std.proofs.Common.{◌≡◌, Bool, true, false, if◌then◌else◌, List, [], ◌∷◌, ◌++◌, refl, sym, ap, ◌∙◌, append-nil, append_assoc, subst}
use Rattle.group_table.specs.Groups.{groups}
use Rattle.group_table.specs.inside.Puts.{added, put_in, merged}
use Rattle.group_table.proofs.Appearances.{groups_more}

module _ {K T : Type 0} (eq : K → K → Bool) where
  -- each key is like itself
  abbrev pub Own : List (K × T) → Type 0
  Own [] = Unit {0}
  Own (p ∷ X) = (eq p.0 p.0 ≡ true) × Own X

-- each group has a tuple
abbrev pub HasSome : {T : Type 0} → List T → Type 0
HasSome [] = ⊥
HasSome (t ∷ ts) = Unit {0}

abbrev pub AllSome : {K T : Type 0} → List (K × List T) → Type 0
AllSome [] = Unit {0}
AllSome (e ∷ es) = HasSome e.1 × AllSome es

module _ {K : Type 0} (eq : K → K → Bool) (symm : (x y : K) → eq x y ≡ eq y x)
    (congr : (x y z : K) → eq x y ≡ true → eq x z ≡ eq y z) where
  like_key : (j k i : K) (b : Bool) → eq j k ≡ true → eq k i ≡ b → eq j i ≡ b
  like_key j k i b h e = congr j k i h ∙ e

  -- what another key is like is like itself
  own_key : (j k : K) → eq j k ≡ true → eq k k ≡ true
  own_key j k h = congr k j k (symm k j ∙ h) ∙ h

module _ {K : Type 0} (eq : K → K → Bool) (symm : (x y : K) → eq x y ≡ eq y x)
    (congr : (x y z : K) → eq x y ≡ true → eq x z ≡ eq y z) {T : Type 0} where
  -- a put of one tuple is an add
  put_one : (es : List (K × List T)) (k : K) (t : T) → put_in eq es k (t ∷ []) ≡ added eq es k t
  put_one [] k t = refl
  put_one (e ∷ es) k t = ap (λ (us : List (K × List T)). if eq k e.0 then (e.0, e.1 ++ t ∷ []) ∷ es else e ∷ us) (put_one es k t)

  -- two puts at like keys are one
  put_at : (b : Bool) (e : K × List T) (es : List (K × List T)) (k : K) (ts : List T) → eq k e.0 ≡ b → put_in eq (e ∷ es) k ts ≡ (if b then (e.0, e.1 ++ ts) ∷ es else e ∷ put_in eq es k ts)
  put_at b e es k ts h = ap (λ (b : Bool). if b then (e.0, e.1 ++ ts) ∷ es else e ∷ put_in eq es k ts) h

  twice_case : (b : Bool) (e : K × List T) (es : List (K × List T)) (k : K) (ts us : List T) → eq k e.0 ≡ b → put_in eq (put_in eq es k ts) k us ≡ put_in eq es k (ts ++ us)
      → put_in eq (if b then (e.0, e.1 ++ ts) ∷ es else e ∷ put_in eq es k ts) k us ≡ (if b then (e.0, e.1 ++ (ts ++ us)) ∷ es else e ∷ put_in eq es k (ts ++ us))
  twice_case true e es k ts us h rest = put_at true (e.0, e.1 ++ ts) es k us h ∙ ap (λ (vs : List T). (e.0, vs) ∷ es) (append_assoc e.1 ts us)
  twice_case false e es k ts us h rest = put_at false e (put_in eq es k ts) k us h ∙ ap (λ (vs : List (K × List T)). e ∷ vs) rest

  put_twice : (es : List (K × List T)) (k : K) (ts us : List T) → eq k k ≡ true → put_in eq (put_in eq es k ts) k us ≡ put_in eq es k (ts ++ us)
  put_twice [] k ts us own = ap (λ (b : Bool). if b then (k, ts ++ us) ∷ [] else (k, ts) ∷ (k, us) ∷ []) own
  put_twice (e ∷ es) k ts us own = twice_case (eq k e.0) e es k ts us refl (put_twice es k ts us own)

  -- a put at a like key
  like_case : (b : Bool) (e : K × List T) (es : List (K × List T)) (j k : K) (ts us : List T) → eq j k ≡ true → eq k e.0 ≡ b → put_in eq (put_in eq es k ts) j us ≡ put_in eq (put_in eq es k ts) k us
      → put_in eq (if b then (e.0, e.1 ++ ts) ∷ es else e ∷ put_in eq es k ts) j us ≡ put_in eq (if b then (e.0, e.1 ++ ts) ∷ es else e ∷ put_in eq es k ts) k us
  like_case true e es j k ts us h f rest = put_at true (e.0, e.1 ++ ts) es j us (like_key eq symm congr j k e.0 true h f) ∙ sym (put_at true (e.0, e.1 ++ ts) es k us f)
  like_case false e es j k ts us h f rest = put_at false e (put_in eq es k ts) j us (like_key eq symm congr j k e.0 false h f) ∙ ap (λ (vs : List (K × List T)). e ∷ vs) rest ∙ sym (put_at false e (put_in eq es k ts) k us f)

  put_like : (es : List (K × List T)) (j k : K) (ts us : List T) → eq j k ≡ true → put_in eq (put_in eq es k ts) j us ≡ put_in eq (put_in eq es k ts) k us
  put_like [] j k ts us h = ap (λ (b : Bool). if b then (k, ts ++ us) ∷ [] else (k, ts) ∷ (j, us) ∷ []) h ∙ sym (ap (λ (b : Bool). if b then (k, ts ++ us) ∷ [] else (k, ts) ∷ (k, us) ∷ []) (own_key eq symm congr j k h))
  put_like (e ∷ es) j k ts us h = like_case (eq k e.0) e es j k ts us h refl (put_like es j k ts us h)

  -- a put of a key that is there, and one of another key, in either order
  abbrev Here : K → List (K × List T) → Bool
  Here j [] = false
  Here j (e ∷ es) = if eq j e.0 then true else Here j es

  swap_case : (a b : Bool) (e : K × List T) (es : List (K × List T)) (j k : K) (ts us : List T) → eq j k ≡ false → eq k e.0 ≡ a → eq j e.0 ≡ b → (if b then true else Here j es) ≡ true
      → (Here j es ≡ true → put_in eq (put_in eq es k us) j ts ≡ put_in eq (put_in eq es j ts) k us)
      → put_in eq (if a then (e.0, e.1 ++ us) ∷ es else e ∷ put_in eq es k us) j ts ≡ put_in eq (if b then (e.0, e.1 ++ ts) ∷ es else e ∷ put_in eq es j ts) k us
  swap_case true true e es j k ts us h f g there rest = let m : eq j k ≡ true = symm j k ∙ congr k e.0 j f ∙ symm e.0 j ∙ g in absurd cc
  swap_case true false e es j k ts us h f g there rest = put_at false (e.0, e.1 ++ us) es j ts g ∙ sym (put_at true e (put_in eq es j ts) k us f)
  swap_case false true e es j k ts us h f g there rest = put_at true e (put_in eq es k us) j ts g ∙ sym (put_at false (e.0, e.1 ++ ts) es k us f)
  swap_case false false e es j k ts us h f g there rest = put_at false e (put_in eq es k us) j ts g ∙ ap (λ (vs : List (K × List T)). e ∷ vs) (rest there) ∙ sym (put_at false e (put_in eq es j ts) k us f)

  swap : (es : List (K × List T)) (j k : K) (ts us : List T) → eq j k ≡ false → Here j es ≡ true → put_in eq (put_in eq es k us) j ts ≡ put_in eq (put_in eq es j ts) k us
  swap [] j k ts us h there = absurd cc
  swap (e ∷ es) j k ts us h there = swap_case (eq k e.0) (eq j e.0) e es j k ts us h refl refl there (swap es j k ts us h)

  here_at : (b : Bool) (e : K × List T) (es : List (K × List T)) (j : K) → eq j e.0 ≡ b → Here j (e ∷ es) ≡ (if b then true else Here j es)
  here_at b e es j h = ap (λ (b : Bool). if b then true else Here j es) h

  here_case : (a b : Bool) (e : K × List T) (es : List (K × List T)) (j k : K) (us : List T) → eq j e.0 ≡ b → (if b then true else Here j es) ≡ true → (Here j es ≡ true → Here j (put_in eq es k us) ≡ true)
      → Here j (if a then (e.0, e.1 ++ us) ∷ es else e ∷ put_in eq es k us) ≡ true
  here_case true b e es j k us g h rest = here_at b (e.0, e.1 ++ us) es j g ∙ h
  here_case false true e es j k us g h rest = here_at true e (put_in eq es k us) j g
  here_case false false e es j k us g h rest = here_at false e (put_in eq es k us) j g ∙ rest h

  here_put : (es : List (K × List T)) (j k : K) (us : List T) → Here j es ≡ true → Here j (put_in eq es k us) ≡ true
  here_put [] j k us h = absurd cc
  here_put (e ∷ es) j k us h = here_case (eq k e.0) (eq j e.0) e es j k us refl h (here_put es j k us)

  self_like : (a : Bool) (e : K × List T) (es : List (K × List T)) (j k : K) (us : List T) → eq j k ≡ true → eq k e.0 ≡ a → Here j (put_in eq es k us) ≡ true
      → Here j (if a then (e.0, e.1 ++ us) ∷ es else e ∷ put_in eq es k us) ≡ true
  self_like true e es j k us h f rest = here_at true (e.0, e.1 ++ us) es j (like_key eq symm congr j k e.0 true h f)
  self_like false e es j k us h f rest = here_at false e (put_in eq es k us) j (like_key eq symm congr j k e.0 false h f) ∙ rest

  here_like : (es : List (K × List T)) (j k : K) (us : List T) → eq j k ≡ true → Here j (put_in eq es k us) ≡ true
  here_like [] j k us h = ap (λ (b : Bool). if b then true else false) h
  here_like (e ∷ es) j k us h = self_like (eq k e.0) e es j k us h refl (here_like es j k us h)

  -- tuples of a key that is there may be put before or after a whole table without that key
  abbrev Away : K → List (K × List T) → Type 0
  Away j [] = Unit {0}
  Away j (g ∷ gs) = (eq j g.0 ≡ false) × Away j gs

  merged_past : (es gs : List (K × List T)) (j : K) (ts : List T) → Here j es ≡ true → Away j gs → put_in eq (merged eq es gs) j ts ≡ merged eq (put_in eq es j ts) gs
  merged_past es [] j ts there a = refl
  merged_past es (g ∷ gs) j ts there (h, a) =
      merged_past (put_in eq es g.0 g.1) gs j ts (here_put es j g.0 g.1 there) a ∙ ap (λ (us : List (K × List T)). merged eq us gs) (swap es j g.0 ts g.1 h there)

  abbrev Distinct : List (K × List T) → Type 0
  Distinct [] = Unit {0}
  Distinct (g ∷ gs) = Away g.0 gs × Distinct gs

  away_like : (j k : K) (gs : List (K × List T)) → eq j k ≡ true → Away k gs → Away j gs
  away_like j k [] h a = tt
  away_like j k (g ∷ gs) h (e, a) = (like_key eq symm congr j k g.0 false h e, away_like j k gs h a)

  merged_case : (b : Bool) (es : List (K × List T)) (g : K × List T) (gs : List (K × List T)) (j : K) (t : T) → eq j g.0 ≡ b → Away g.0 gs
      → merged eq (put_in eq es g.0 g.1) (added eq gs j t) ≡ added eq (merged eq (put_in eq es g.0 g.1) gs) j t
      → merged eq es (if b then (g.0, g.1 ++ t ∷ []) ∷ gs else g ∷ added eq gs j t) ≡ added eq (merged eq (put_in eq es g.0 g.1) gs) j t
  merged_case false es g gs j t h a rest = rest
  merged_case true es g gs j t h a rest =
      ap (λ (us : List (K × List T)). merged eq us gs) (sym (put_twice es g.0 g.1 (t ∷ []) (own_key eq symm congr j g.0 h)) ∙ sym (put_like es j g.0 g.1 (t ∷ []) h))
      ∙ sym (merged_past (put_in eq es g.0 g.1) gs j (t ∷ []) (here_like es j g.0 g.1 h) (away_like j g.0 gs h a))
      ∙ put_one (merged eq (put_in eq es g.0 g.1) gs) j t

  merged_added : (es gs : List (K × List T)) (j : K) (t : T) → Distinct gs → merged eq es (added eq gs j t) ≡ added eq (merged eq es gs) j t
  merged_added es [] j t d = put_one es j t
  merged_added es (g ∷ gs) j t (a, d) = merged_case (eq j g.0) es g gs j t refl a (merged_added (put_in eq es g.0 g.1) gs j t d)

  -- groups have different keys
  away_case : (b : Bool) (k j : K) (t : T) (g : K × List T) (gs : List (K × List T)) → eq k g.0 ≡ false → Away k gs → Away k (added eq gs j t) → Away k (if b then (g.0, g.1 ++ t ∷ []) ∷ gs else g ∷ added eq gs j t)
  away_case true k j t g gs e a rest = (e, a)
  away_case false k j t g gs e a rest = (e, rest)

  away_added : (k j : K) (t : T) (gs : List (K × List T)) → eq k j ≡ false → Away k gs → Away k (added eq gs j t)
  away_added k j t [] h a = (h, tt)
  away_added k j t (g ∷ gs) h (e, a) = away_case (eq j g.0) k j t g gs e a (away_added k j t gs h a)

  distinct_step : (b : Bool) (g : K × List T) (gs : List (K × List T)) (j : K) (t : T) → eq j g.0 ≡ b → Away g.0 gs → Distinct gs → Distinct (added eq gs j t) → Distinct (if b then (g.0, g.1 ++ t ∷ []) ∷ gs else g ∷ added eq gs j t)
  distinct_step true g gs j t h a d rest = (a, d)
  distinct_step false g gs j t h a d rest = (away_added g.0 j t gs (symm g.0 j ∙ h) a, rest)

  distinct_added : (gs : List (K × List T)) (j : K) (t : T) → Distinct gs → Distinct (added eq gs j t)
  distinct_added [] j t d = (tt, tt)
  distinct_added (g ∷ gs) j t (a, d) = distinct_step (eq j g.0) g gs j t refl a d (distinct_added gs j t d)

  -- from the end
  abbrev turned : List (K × T) → List (K × T)
  turned [] = []
  turned (p ∷ X) = turned X ++ p ∷ []

  turned_end : (X : List (K × T)) (p : K × T) → turned (X ++ p ∷ []) ≡ p ∷ turned X
  turned_end [] p = refl
  turned_end (q ∷ X) p = ap (λ (Z : List (K × T)). Z ++ q ∷ []) (turned_end X p)

  reverse_twice : (X : List (K × T)) → turned (turned X) ≡ X
  reverse_twice [] = refl
  reverse_twice (p ∷ X) = turned_end (turned X) p ∙ ap (λ (Z : List (K × T)). p ∷ Z) (reverse_twice X)

  own_end : (X : List (K × T)) (p : K × T) → Own eq X → eq p.0 p.0 ≡ true → Own eq (X ++ p ∷ [])
  own_end [] p o h = (h, tt)
  own_end (q ∷ X) p o h = (o.0, own_end X p (o.1) h)

  own_turned : (X : List (K × T)) → Own eq X → Own eq (turned X)
  own_turned [] o = tt
  own_turned (p ∷ X) o = own_end (turned X) p (own_turned X (o.1)) (o.0)

  distinct_turned : (Y : List (K × T)) → Own eq Y → Distinct (groups eq (turned Y))
  distinct_turned [] o = tt
  distinct_turned (p ∷ Y) o =
      subst Distinct (sym (groups_more eq symm congr (turned Y) p.0 p.1 (o.0)))
      (distinct_added (groups eq (turned Y)) p.0 p.1 (distinct_turned Y (o.1)))

  back : (X Y : List (K × T)) → Own eq Y → merged eq (groups eq X) (groups eq (turned Y)) ≡ groups eq (X ++ turned Y)
  back X [] o = ap (groups eq) (sym (append-nil X))
  back X (p ∷ Y) o =
      ap (merged eq (groups eq X)) (groups_more eq symm congr (turned Y) p.0 p.1 (o.0))
      ∙ merged_added (groups eq X) (groups eq (turned Y)) p.0 p.1 (distinct_turned Y (o.1))
      ∙ ap (λ (us : List (K × List T)). added eq us p.0 p.1) (back X Y (o.1))
      ∙ sym (groups_more eq symm congr (X ++ turned Y) p.0 p.1 (o.0))
      ∙ ap (groups eq) (append_assoc X (turned Y) (p ∷ []))

  -- the groups of a list behind those of another are the groups of both
  pub merged_groups : (X Y : List (K × T)) → Own eq Y → merged eq (groups eq X) (groups eq Y) ≡ groups eq (X ++ Y)
  merged_groups X Y o =
      ap (λ (Z : List (K × T)). merged eq (groups eq X) (groups eq Z)) (sym (reverse_twice Y))
      ∙ back X (turned Y) (own_turned Y o)
      ∙ ap (λ (Z : List (K × T)). groups eq (X ++ Z)) (reverse_twice Y)

  some_more : (ts us : List T) → HasSome ts → HasSome (ts ++ us)
  some_more [] us s = absurd s
  some_more (t ∷ ts) us s = tt

  some_case : (b : Bool) (e : K × List T) (es : List (K × List T)) (k : K) (us : List T) → AllSome (e ∷ es)
      → AllSome (put_in eq es k us) → AllSome (if b then (e.0, e.1 ++ us) ∷ es else e ∷ put_in eq es k us)
  some_case true e es k us a rest = (some_more e.1 us (a.0), a.1)
  some_case false e es k us a rest = (a.0, rest)

  pub some_put : (es : List (K × List T)) (k : K) (us : List T) → HasSome us → AllSome es → AllSome (put_in eq es k us)
  some_put [] k us s a = (s, tt)
  some_put (e ∷ es) k us s a = some_case (eq k e.0) e es k us a (some_put es k us s (a.1))

  some_turned : (Y : List (K × T)) → Own eq Y → AllSome (groups eq (turned Y))
  some_turned [] o = tt
  some_turned (p ∷ Y) o =
      subst AllSome (sym (groups_more eq symm congr (turned Y) p.0 p.1 (o.0) ∙ sym (put_one (groups eq (turned Y)) p.0 p.1)))
      (some_put (groups eq (turned Y)) p.0 (p.1 ∷ []) tt (some_turned Y (o.1)))

  pub groups_some : (X : List (K × T)) → Own eq X → AllSome (groups eq X)
  groups_some X o = subst (λ (Z : List (K × T)). AllSome (groups eq Z)) (reverse_twice X) (some_turned (turned X) (own_turned X o))

  -- one tuple more is put into its group
  pub groups_put : (X : List (K × T)) (k : K) (t : T) → eq k k ≡ true → groups eq (X ++ (k, t) ∷ []) ≡ put_in eq (groups eq X) k (t ∷ [])
  groups_put X k t o = groups_more eq symm congr X k t o ∙ sym (put_one (groups eq X) k t)
