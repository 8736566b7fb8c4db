-- What a line reads as is a sound item.
use Rattle.std.specs.Prelude.{◌≡◌, ℕ, suc, ◌<◌, ◌≤◌, ◌+◌, Bool, true, false, cond, nat_lt, List, [], ◌∷◌, Ok, Err, refl}
use Rattle.std.specs.Str.{bytes_eq, all_scalars}
use Rattle.std.proofs.Common.{sym, subst, arith}
use Rattle.std.proofs.lemmas.Bool.{cond_both, ltb-true}
use Rattle.num_fixed.specs.Bounds.{NumberInBounds}
use Rattle.num_fixed.specs.declared.number.Number.{Number}
use Rattle.num_fixed.specs.declared.number.Number.TheVariants.{Int, Dec}
use Rattle.item_tree.specs.Datum.{Datum, array_of_list, values, members, depth, Sound, AllSound, MembersSound, KeysDiffer, pairs_members}
use Rattle.json_text.specs.Raw.{Raw, raw_null, raw_boolean, raw_number, raw_string, raw_array, raw_object, Raws, no_raws, raw_value, Fields, no_fields, field}
use Rattle.json_text.specs.Json.{Value, Elements, MoreElements, Members, MoreMembers}
use Rattle.json_text.specs.Meaning.{too_deep, Outcome, together, bracketed, put, put_all, object_of_fields, number_datum}
use Rattle.num_fixed.specs.Values.{number_in_bounds, said}
use Rattle.json_text.specs.inside.Build.{number_outcome}
use Rattle.json_text.specs.inside.Fits.{AllFit, PairsFit}
use Rattle.json_text.specs.Laws.{ItemsAreSound}
use Rattle.num_fixed.proofs.ValueLemmas.{number_inside}
use Rattle.json_text.proofs.ItemOf.{item_of, items_of, pairs_of, gives_one}
use Rattle.json_text.proofs.FitLemmas.{all_depth, pairs_depth, pairs_put, keys_put_all}

-- ---- outcomes that are Ok

pub same_ok : {A : Type 0} (x y : A) → ◌≡◌ {A = Outcome A} (Ok x) (Ok y) → x ≡ y
same_ok x y h = cc

pub record IsBracketed {A : Type 0} (around : ℕ) (f : A → Datum) (r : Outcome A) (x : Datum) : Type 0 where
  pub inside : A
  pub room : around < 128
  pub was : r ≡ Ok inside
  pub made : f inside ≡ x

pub bracketed_ok : {A : Type 0} (around : ℕ) (f : A → Datum) (r : Outcome A) (x : Datum) → bracketed around f r ≡ Ok x → IsBracketed around f r x
bracketed_ok around f (Ok y) x = by (nat_lt around 128) refl
  where
    by : (b : Bool) → nat_lt around 128 ≡ b → cond b (Ok (f y)) (Err too_deep) ≡ Ok x → IsBracketed around f (Ok y) x
    by true e h = record { inside = y; room = ltb-true _ _ e; was = refl; made = same_ok _ _ h }
    by false e h = absurd cc
bracketed_ok around f (Err t) x = by (nat_lt around 128)
  where
    by : (b : Bool) → cond b (Err t) (Err too_deep) ≡ Ok x → IsBracketed around f (Err t) x
    by true h = absurd cc
    by false h = absurd cc

pub record AreTogether {A B C : Type 0} (f : A → B → C) (r : Outcome A) (s : Outcome B) (z : C) : Type 0 where
  pub first : A
  pub rest : B
  pub one : r ≡ Ok first
  pub other : s ≡ Ok rest
  pub made : f first rest ≡ z

pub together_ok : {A B C : Type 0} (f : A → B → C) (r : Outcome A) (s : Outcome B) (z : C) → together f r s ≡ Ok z → AreTogether f r s z
together_ok f (Ok x) (Ok y) z h = record { first = x; rest = y; one = refl; other = refl; made = same_ok _ _ h }
together_ok f (Ok x) (Err t) z h = absurd cc
together_ok f (Err t) s z h = absurd cc

-- ---- sound parts

-- sound, and within 128 brackets with those around it
abbrev pub SoundIn : ℕ → Datum → Type 0
SoundIn around x = Sound x × (depth x + around ≤ 128)

flat : (around : ℕ) → around ≤ 128 → 0 + around ≤ 128
flat around h = omega arith

number_sound : (around : ℕ) (a : Number) (x : Datum) → around ≤ 128 → number_outcome a ≡ Ok x → SoundIn around x
number_sound around a x h = cond_both (number_in_bounds a) _ _ (λ r. r ≡ Ok x → SoundIn around x) (λ e q. subst (SoundIn around) (same_ok _ _ q) (at_bounds a (number_inside a e))) (λ e q. absurd cc)
  where
    at_bounds : (b : Number) → NumberInBounds b → SoundIn around (number_datum b)
    at_bounds (Int n) k = (k, flat around h)
    at_bounds (Dec m) k = (k, flat around h)

put_sound : (k : List ℕ) (x : Datum) (ps : List (List ℕ × Datum)) → all_scalars k ≡ true → Sound x → MembersSound (members ps) → MembersSound (members (put k x ps))
put_sound k x [] h s m = (h, s, tt)
put_sound k x (p ∷ ps) h s m = cond_both (bytes_eq k p.0) _ _ (λ qs. MembersSound (members qs)) (λ _. (m.0, s, m.2)) (λ _. (m.0, m.1, put_sound k x ps h s m.2))

-- ---- sound pairs inside so many brackets
abbrev pub PairsSound : ℕ → List (List ℕ × Datum) → Type 0
PairsSound around ps = MembersSound (members ps) × PairsFit around ps

put_all_sound : (around : ℕ) (ps more : List (List ℕ × Datum)) → PairsSound around ps → PairsSound around more → PairsSound around (put_all ps more)
put_all_sound around ps [] h m = h
put_all_sound around ps (p ∷ more) h m = put_all_sound around (put p.0 p.1 ps) more (put_sound p.0 p.1 ps m.0.0 m.0.1 h.0, pairs_put around p.0 p.1 ps m.1.0 h.1) (m.0.2, m.1.1)

array_sound : (around : ℕ) (xs : List Datum) → around < 128 → AllSound (values xs) × AllFit (suc around) xs → SoundIn around (array_of_list xs)
array_sound around xs h s = let d = all_depth (suc around) xs (omega arith) s.1 in ((s.0, omega arith), omega arith)

object_sound : (around : ℕ) (ps : List (List ℕ × Datum)) → around < 128 → PairsSound (suc around) ps → SoundIn around (object_of_fields ps)
object_sound around ps h s =
    let all = put_all_sound (suc around) [] ps (tt, tt) s in
    let d = pairs_depth (suc around) (put_all [] ps) (omega arith) all.1 in
    ((all.0, subst KeysDiffer (sym (pairs_members (put_all [] ps))) (keys_put_all [] ps tt), omega arith), omega arith)

-- ---- the values of a text

mutual
  pub value_sound : (v : Raw) (around : ℕ) (l r : List ℕ) (x : Datum) → around ≤ 128 → Value v l r → item_of around v ≡ Ok x → SoundIn around x
  value_sound raw_null around l r x h w e = subst (SoundIn around) (same_ok _ _ e) (tt, flat around h)
  value_sound (raw_boolean b) around l r x h w e = subst (SoundIn around) (same_ok _ _ e) (tt, flat around h)
  value_sound (raw_number n) around l r x h w e = number_sound around (said n) x h e
  value_sound (raw_string cs) around l r x h w e = subst (SoundIn around) (same_ok _ _ e) (w.scalars, flat around h)
  value_sound (raw_array vs) around l r x h w e =
      let k = bracketed_ok around array_of_list (items_of (suc around) vs) x e in
      subst (SoundIn around) k.made (array_sound around k.inside k.room (elements_sound vs (suc around) w.0 w.1 k.inside k.room w.3 k.was))
  value_sound (raw_object fs) around l r x h w e =
      let k = bracketed_ok around object_of_fields (pairs_of (suc around) fs) x e in
      subst (SoundIn around) k.made (object_sound around k.inside k.room (members_sound fs (suc around) w.0 w.1 k.inside k.room w.3 k.was))

  elements_sound : (vs : Raws) (around : ℕ) (l r : List ℕ) (xs : List Datum) → around ≤ 128 → Elements vs l r → items_of around vs ≡ Ok xs → AllSound (values xs) × AllFit around xs
  elements_sound no_raws around l r xs h w e = subst (λ ys. AllSound (values ys) × AllFit around ys) (same_ok _ _ e) (tt, tt)
  elements_sound (raw_value v vs) around l r xs h w e =
      let k = together_ok (λ y ys. y ∷ ys) (item_of around v) (items_of around vs) xs e in
      let one = value_sound v around l w.0 k.first h w.1 k.one in let all = more_elements_sound vs around w.0 r k.rest h w.2 k.other in
      subst (λ ys. AllSound (values ys) × AllFit around ys) k.made ((one.0, all.0), (one.1, all.1))

  more_elements_sound : (vs : Raws) (around : ℕ) (l r : List ℕ) (xs : List Datum) → around ≤ 128 → MoreElements vs l r → items_of around vs ≡ Ok xs → AllSound (values xs) × AllFit around xs
  more_elements_sound no_raws around l r xs h w e = subst (λ ys. AllSound (values ys) × AllFit around ys) (same_ok _ _ e) (tt, tt)
  more_elements_sound (raw_value v vs) around l r xs h w e =
      let k = together_ok (λ y ys. y ∷ ys) (item_of around v) (items_of around vs) xs e in
      let one = value_sound v around w.0 w.1 k.first h w.3 k.one in let all = more_elements_sound vs around w.1 r k.rest h w.4 k.other in
      subst (λ ys. AllSound (values ys) × AllFit around ys) k.made ((one.0, all.0), (one.1, all.1))

  members_sound : (fs : Fields) (around : ℕ) (l r : List ℕ) (ps : List (List ℕ × Datum)) → around ≤ 128 → Members fs l r → pairs_of around fs ≡ Ok ps → PairsSound around ps
  members_sound no_fields around l r ps h w e = subst (PairsSound around) (same_ok _ _ e) (tt, tt)
  members_sound (field k v fs) around l r ps h w e =
      let t = together_ok (λ y qs. (k, y) ∷ qs) (item_of around v) (pairs_of around fs) ps e in
      let one = value_sound v around w.1 w.2 t.first h w.5 t.one in let all = more_members_sound fs around w.2 r t.rest h w.6 t.other in
      subst (PairsSound around) t.made ((w.3.scalars, one.0, all.0), (one.1, all.1))

  more_members_sound : (fs : Fields) (around : ℕ) (l r : List ℕ) (ps : List (List ℕ × Datum)) → around ≤ 128 → MoreMembers fs l r → pairs_of around fs ≡ Ok ps → PairsSound around ps
  more_members_sound no_fields around l r ps h w e = subst (PairsSound around) (same_ok _ _ e) (tt, tt)
  more_members_sound (field k v fs) around l r ps h w e =
      let t = together_ok (λ y qs. (k, y) ∷ qs) (item_of around v) (pairs_of around fs) ps e in
      let one = value_sound v around w.2 w.3 t.first h w.7 t.one in let all = more_members_sound fs around w.3 r t.rest h w.8 t.other in
      subst (PairsSound around) t.made ((w.5.scalars, one.0, all.0), (one.1, all.1))

pub items_sound : ItemsAreSound
items_sound line x h = (value_sound h.raw 0 h.text.from h.text.to x (omega arith) h.text.value (sym (gives_one 0 h.raw (Ok x) h.gives))).0
