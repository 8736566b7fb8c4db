-- What makes a turn.
use mathlib.Core.Bool.{beq}
use Rattle.std.specs.Prelude.{◌≡◌, ◌⊎◌, ◌<◌, ◌≤◌, ℕ, zero, suc, ◌+◌, ◌-◌, Bool, true, false, not, List, [], ◌∷◌, ◌++◌, length, slice_get, Option, Some, None, Ok, refl}
use Rattle.std.proofs.Common.{sym, ◌∙◌, ap, subst, arith, inl, inr}
use Rattle.std.proofs.lemmas.List.{reverse-append, length-reverse}
use Rattle.num_fixed.specs.Numeral.{Numeral}
use Rattle.num_fixed.specs.Values.{said}
use Rattle.item_tree.specs.Datum.{Datum, text}
use Rattle.json_text.specs.inside.Machine as m
use Rattle.json_text.specs.Meaning.{number_out}
use Rattle.json_text.specs.inside.Build as b
use Rattle.json_text.specs.inside.Fits.{BuildFits}
use Rattle.json_text.proofs.FitLemmas.{perform_fits}
use Rattle.json_text.proofs.RunLemmas.{run_turn, takes}
use Rattle.item_reader.proofs.Frames.{by_frames}
use Rattle.item_reader.specs.Tokens.{IsAtom, IsNumberOut}
use Rattle.item_reader.specs.View.{build_of, mode_of, kinds_of, on_frames}
use Rattle.item_reader.specs.declared.turn.State.{State}
use Rattle.item_reader.specs.declared.turn.Turn.{Turn}
use Rattle.item_reader.specs.declared.turn.Turn.TheVariants.{More, End, NotJson}
use Rattle.item_reader.specs.declared.turn.Mode.{Mode}
use Rattle.item_reader.specs.declared.turn.Mode.TheVariants.{Value}
use Rattle.item_reader.specs.Turns.{Steps, IsAdded, turn_gives, Takes, IsTurn, closing, comes_of, Passes, GoesOn}

-- ---- kinds

pub kind_pushed : (xs : List Bool) (f : Bool) → kinds_of (xs ++ f ∷ []) ≡ f ∷ kinds_of xs
unfolding kinds_of
kind_pushed xs f = reverse-append xs (f ∷ [])

pub no_kinds : (zs : List Bool) → zs ≡ [] → kinds_of zs ≡ []
unfolding kinds_of
no_kinds zs e = rw e refl

-- ---- steps

pub emits : (x : b.Build) (e : m.Event) (r : m.Events) → b.outcome x (m.emit e r) ≡ b.outcome (b.perform x e) r
emits x e None = refl
emits x e (Some es) = refl

pub turn_steps : (mode : m.Mode) (old : State) (t : m.Token) (new : State) (e : m.Event) (m2 : m.Mode) (ks2 : m.Kinds) → ((k : m.Next) → m.step mode (kinds_of old.kinds.items) t k ≡ m.emit e (k m2 ks2)) → Steps old e m2 ks2 new → Takes t More → IsTurn mode old t More new
turn_steps mode old t new e m2 ks2 step s takes = record {
  gives = λ k. ap (b.outcome (build_of old.build)) (step k) ∙ emits (build_of old.build) e (k m2 ks2) ∙ ap (λ y. b.outcome y (k m2 ks2)) (sym s.build) ∙ ap (λ y. b.outcome (build_of new.build) (k y ks2)) (sym s.mode) ∙ ap (λ y. b.outcome (build_of new.build) (k (mode_of new.mode) y)) (sym s.kinds);
  fits = λ f. subst BuildFits (sym s.build) (perform_fits (build_of old.build) e f);
  takes = takes;
}

-- a turn without an event
pub turn_quiet : (mode : m.Mode) (old : State) (t : m.Token) (new : State) (m2 : m.Mode) → ((k : m.Next) → m.step mode (kinds_of old.kinds.items) t k ≡ k m2 (kinds_of old.kinds.items)) → mode_of new.mode ≡ m2 → new.kinds ≡ old.kinds → new.build ≡ old.build → Takes t More → IsTurn mode old t More new
turn_quiet mode old t new m2 step md kinds build takes = record {
  gives = λ k. ap (b.outcome (build_of old.build)) (step k) ∙ ap (λ y. b.outcome (build_of y) (k m2 (kinds_of old.kinds.items))) (sym build) ∙ ap (λ y. b.outcome (build_of new.build) (k y (kinds_of old.kinds.items))) (sym md) ∙ ap (λ y. b.outcome (build_of new.build) (k (mode_of new.mode) (kinds_of y.items))) (sym kinds);
  fits = λ f. subst (λ y. BuildFits (build_of y)) (sym build) f;
  takes = takes;
}

no_takes : (t : m.Token) → Takes t NotJson
no_takes m.end = tt
no_takes m.bad = tt
no_takes m.open_array = tt
no_takes m.close_array = tt
no_takes m.open_object = tt
no_takes m.close_object = tt
no_takes m.comma = tt
no_takes m.colon = tt
no_takes m.null_word = tt
no_takes (m.boolean_word v) = tt
no_takes (m.numeral n) = tt
no_takes (m.characters s) = tt

pub turn_none : (mode : m.Mode) (old : State) (t : m.Token) (new : State) → ((k : m.Next) → m.step mode (kinds_of old.kinds.items) t k ≡ None) → IsTurn mode old t NotJson new
turn_none mode old t new step = record { gives = λ k. ap (b.outcome (build_of old.build)) (step k); fits = λ f. tt; takes = no_takes t }

bad_step : (mode : m.Mode) (ks : m.Kinds) (k : m.Next) → m.step mode ks m.bad k ≡ None
bad_step (m.value f) ks k = refl
bad_step (m.key f) ks k = refl
bad_step m.name ks k = refl
bad_step m.after ks k = refl

pub turn_bad : (mode : m.Mode) (old new : State) → IsTurn mode old m.bad NotJson new
turn_bad mode old new = turn_none mode old m.bad new (λ k. bad_step mode (kinds_of old.kinds.items) k)

-- ---- values

same_added : (x : b.Build) (y : Datum) (e : m.Event) → ((fs : List b.Frame) → b.act e fs ≡ b.add y fs) → on_frames (b.add y) x ≡ b.perform x e
same_added (b.building fs) y e h = sym (h fs)
same_added (b.done z) y e h = refl
same_added (b.troubled t) y e h = refl

added_steps : (old : State) (y : Datum) (new : State) (e : m.Event) → ((fs : List b.Frame) → b.act e fs ≡ b.add y fs) → IsAdded old y new → Steps old e m.after (kinds_of old.kinds.items) new
added_steps old y new e h s = record { build = s.build ∙ same_added (build_of old.build) y e h; kinds = s.kinds; mode = s.mode }

pub turn_text : (f : Bool) (old : State) (cs : List ℕ) (new : State) (t : m.Token) → t ≡ m.characters cs → IsAdded old (text cs) new → IsTurn (m.value f) old t More new
turn_text f old cs new t e s =
    subst (λ y. IsTurn (m.value f) old y More new) (sym e) (turn_steps (m.value f) old (m.characters cs) new (m.a_string cs) m.after (kinds_of old.kinds.items) (λ k. refl) (added_steps old (text cs) new (m.a_string cs) (λ fs. refl) s) tt)

pub settled : (n : Numeral) (y : Datum) → b.number_outcome (said n) ≡ Ok y → (fs : List b.Frame) → b.act (m.a_number n) fs ≡ b.add y fs
settled n y e fs = ap (λ o. b.settle o fs) e

pub turn_atom : (f : Bool) (old : State) (y : Datum) (new : State) (t : m.Token) → IsAtom y t → IsAdded old y new → IsTurn (m.value f) old t More new
turn_atom f old y new m.null_word a s = turn_steps (m.value f) old m.null_word new m.a_null m.after (kinds_of old.kinds.items) (λ k. refl) (added_steps old y new m.a_null (λ fs. ap (λ z. b.add z fs) (sym a)) s) tt
turn_atom f old y new (m.boolean_word v) a s = turn_steps (m.value f) old (m.boolean_word v) new (m.a_boolean v) m.after (kinds_of old.kinds.items) (λ k. refl) (added_steps old y new (m.a_boolean v) (λ fs. ap (λ z. b.add z fs) (sym a)) s) tt
turn_atom f old y new (m.numeral n) a s = turn_steps (m.value f) old (m.numeral n) new (m.a_number n) m.after (kinds_of old.kinds.items) (λ k. refl) (added_steps old y new (m.a_number n) (settled n y a) s) tt
turn_atom f old y new m.open_array a s = absurd a
turn_atom f old y new m.close_array a s = absurd a
turn_atom f old y new m.open_object a s = absurd a
turn_atom f old y new m.close_object a s = absurd a
turn_atom f old y new m.comma a s = absurd a
turn_atom f old y new m.colon a s = absurd a
turn_atom f old y new (m.characters cs) a s = absurd a
turn_atom f old y new m.end a s = absurd a
turn_atom f old y new m.bad a s = absurd a

turn_out : (n : Numeral) → IsNumberOut (m.numeral n) → (fs : List b.Frame) → b.act (m.a_number n) fs ≡ b.troubled number_out
turn_out n h fs = ap (λ o. b.settle o fs) h

out_performed : (x : b.Build) (n : Numeral) → IsNumberOut (m.numeral n) → on_frames (λ fs. b.troubled number_out) x ≡ b.perform x (m.a_number n)
out_performed (b.building fs) n h = sym (turn_out n h fs)
out_performed (b.done y) n h = refl
out_performed (b.troubled t) n h = refl

pub number_out_steps : (old new : State) → build_of new.build ≡ on_frames (λ fs. b.troubled number_out) (build_of old.build) → kinds_of new.kinds.items ≡ kinds_of old.kinds.items → mode_of new.mode ≡ m.after → (n : Numeral) → IsNumberOut (m.numeral n) → Steps old (m.a_number n) m.after (kinds_of old.kinds.items) new
number_out_steps old new x y z n h = record { build = x ∙ out_performed (build_of old.build) n h; kinds = y; mode = z }

-- ---- brackets that close, commas and the end

wrong_step : (kind a : Bool) (rest : m.Kinds) (k : m.Next) → not (beq kind a) ≡ true → m.step m.after (kind ∷ rest) (closing a) k ≡ None
wrong_step true true rest k n = absurd cc
wrong_step true false rest k n = refl
wrong_step false true rest k n = refl
wrong_step false false rest k n = absurd cc

same_kind : (kind a : Bool) → not (beq kind a) ≡ false → kind ≡ a
same_kind true true n = refl
same_kind true false n = absurd cc
same_kind false true n = absurd cc
same_kind false false n = refl

right_step : (a : Bool) (rest : m.Kinds) (k : m.Next) → m.step m.after (a ∷ rest) (closing a) k ≡ m.emit m.closes (k m.after rest)
right_step true rest k = refl
right_step false rest k = refl

no_step : (a : Bool) (k : m.Next) → m.step m.after [] (closing a) k ≡ None
no_step true k = refl
no_step false k = refl

closing_takes : (a : Bool) → Takes (closing a) More
closing_takes true = tt
closing_takes false = tt

popped_kind : (xs ys : List Bool) (f : Bool) → xs ≡ ys ++ f ∷ [] → kinds_of xs ≡ f ∷ kinds_of ys
popped_kind xs ys f e = ap kinds_of e ∙ kind_pushed ys f

pub closes_wrong : (old new : State) (kind a : Bool) (rest : List Bool) → old.kinds.items ≡ rest ++ kind ∷ [] → not (beq kind a) ≡ true → IsTurn m.after old (closing a) NotJson new
closes_wrong old new kind a rest e n =
    turn_none m.after old (closing a) new (λ k. ap (λ ks. m.step m.after ks (closing a) k) (popped_kind old.kinds.items rest kind e) ∙ wrong_step kind a (kinds_of rest) k n)

pub closes_right : (old new : State) (kind a : Bool) → old.kinds.items ≡ new.kinds.items ++ kind ∷ [] → not (beq kind a) ≡ false → build_of new.build ≡ on_frames b.close (build_of old.build) → mode_of new.mode ≡ m.after → IsTurn m.after old (closing a) More new
closes_right old new kind a e q x y =
    let p : kinds_of old.kinds.items ≡ a ∷ kinds_of new.kinds.items = popped_kind old.kinds.items new.kinds.items kind e ∙ ap (λ f. f ∷ kinds_of new.kinds.items) (same_kind kind a q) in
    turn_steps m.after old (closing a) new m.closes m.after (kinds_of new.kinds.items) (λ k. ap (λ ks. m.step m.after ks (closing a) k) p ∙ right_step a (kinds_of new.kinds.items) k) (record { build = x ∙ by_frames (build_of old.build) m.closes; kinds = refl; mode = y }) (closing_takes a)

pub closes_none : (old new : State) (a : Bool) → old.kinds.items ≡ [] → IsTurn m.after old (closing a) NotJson new
closes_none old new a e =
    turn_none m.after old (closing a) new (λ k. ap (λ ks. m.step m.after ks (closing a) k) (no_kinds old.kinds.items e) ∙ no_step a k)

pub ends_here : (old new : State) → old.kinds.items ≡ [] → new.build ≡ old.build → IsTurn m.after old m.end End new
ends_here old new e q = record {
  gives = λ k. ap (λ ks. b.outcome (build_of old.build) (m.step m.after ks m.end k)) (no_kinds old.kinds.items e) ∙ ap (λ x. Some (build_of x)) (sym q);
  fits = λ f. tt;
  takes = tt;
}

open_end : (ks : m.Kinds) (k : m.Next) → 0 < length ks → m.step m.after ks m.end k ≡ None
open_end [] k h = absurd (omega arith)
open_end (f ∷ ks) k h = refl

kinds_length : (xs : List Bool) → length (kinds_of xs) ≡ length xs
unfolding kinds_of
kinds_length xs = length-reverse xs

pub not_ended : (old new : State) → 0 < length old.kinds.items → IsTurn m.after old m.end NotJson new
not_ended old new h = turn_none m.after old m.end new (λ k. let j = kinds_length old.kinds.items in open_end (kinds_of old.kinds.items) k (omega arith))

last_list : (xs : List Bool) (n : ℕ) (v : Bool) → n + 1 ≡ length xs → Some v ≡ slice_get xs n → (front : List Bool) × (xs ≡ front ++ v ∷ [])
last_list [] n v e h = absurd (omega arith)
last_list (x ∷ []) zero v e h = let s : x ≡ v = cc in ([], ap (λ y. y ∷ []) s)
last_list (x ∷ y ∷ xs) zero v e h = absurd (omega arith)
last_list (x ∷ xs) (suc n) v e h = let r = last_list xs n v (omega arith) h in (x ∷ r.0, ap (λ ys. x ∷ ys) r.1)

some_last : (xs : List Bool) (v : Bool) → Some v ≡ slice_get xs (length xs - 1) → (front : List Bool) × (xs ≡ front ++ v ∷ [])
some_last [] v h = absurd cc
some_last (x ∷ xs) v h = last_list (x ∷ xs) (length (x ∷ xs) - 1) v (omega arith) h

get_there : (xs : List Bool) (n : ℕ) → n < length xs → None ≡ slice_get xs n → ⊥
get_there [] n h e = omega arith
get_there (x ∷ xs) zero h e = cc
get_there (x ∷ xs) (suc n) h e = get_there xs n (omega arith) e

no_last : (xs : List Bool) → None ≡ slice_get xs (length xs - 1) → xs ≡ []
no_last [] h = refl
no_last (x ∷ xs) h = absurd (get_there (x ∷ xs) (length (x ∷ xs) - 1) (omega arith) h)

abbrev next_mode : Bool → m.Mode
next_mode true = m.value false
next_mode false = m.key false

comma_goes : (f : Bool) (rest : m.Kinds) → m.goes None (next_mode f) (f ∷ rest) ≡ m.goes_on (f ∷ rest)
comma_goes true rest = refl
comma_goes false rest = refl

pub stops_alone : (xs : List Bool) → None ≡ slice_get xs (length xs - 1) → GoesOn None (kinds_of xs)
stops_alone xs h = sym (ap m.goes_on (no_kinds xs (no_last xs h)))

pub goes_inside : (xs : List Bool) (f : Bool) (x : Mode) → Some f ≡ slice_get xs (length xs - 1) → mode_of x ≡ next_mode f → GoesOn (Some x) (kinds_of xs)
goes_inside xs f x h e =
    let l = some_last xs f h in
    let p = popped_kind xs l.0 f l.1 in
    ap (λ y. m.goes None y (kinds_of xs)) e ∙ ap (m.goes None (next_mode f)) p ∙ comma_goes f (kinds_of l.0) ∙ sym (ap m.goes_on p)

pub comma_refused : (old new : State) → GoesOn None (kinds_of old.kinds.items) → IsTurn m.after old m.comma NotJson new
comma_refused old new h = turn_none m.after old m.comma new (λ k. ap (λ t. m.follow t k) (sym h))

pub comma_taken : (old new : State) (x : Mode) → GoesOn (Some x) (kinds_of old.kinds.items) → new.mode ≡ x → new.kinds ≡ old.kinds → new.build ≡ old.build → IsTurn m.after old m.comma More new
comma_taken old new x h md kinds build =
    turn_quiet m.after old m.comma new (mode_of x) (λ k. ap (λ t. m.follow t k) (sym h)) (ap mode_of md) kinds build tt

colon_taken : (old new : State) → mode_of new.mode ≡ m.value false → new.kinds ≡ old.kinds → new.build ≡ old.build → IsTurn m.name old m.colon More new
colon_taken old new md kinds build = turn_quiet m.name old m.colon new (m.value false) (λ k. refl) md kinds build tt

-- ---- the loop

pub turned : (old new : State) (r : Turn) (rest : List ℕ) (whole : Option b.Build) → IsTurn (mode_of old.mode) old (m.token_at rest).0 r new → b.outcome (build_of old.build) (m.run (mode_of old.mode) (kinds_of old.kinds.items) rest) ≡ whole → turn_gives r new (λ m2 ks2. m.run m2 ks2 (m.token_at rest).1) ≡ whole
turned old new r rest whole t h =
    sym (t.gives (λ m2 ks2. m.run m2 ks2 (m.token_at rest).1)) ∙ sym (ap (b.outcome (build_of old.build)) (run_turn (mode_of old.mode) (kinds_of old.kinds.items) rest)) ∙ h

pub shorter : (t : m.Token) (l r : List ℕ) → Takes t More → (t ≡ m.end) ⊎ ((t ≡ m.bad) ⊎ (length r < length l)) → length r < length l
shorter t l r h (inl e) = absurd (subst (λ y. Takes y More) e h)
shorter t l r h (inr (inl e)) = absurd (subst (λ y. Takes y More) e h)
shorter t l r h (inr (inr s)) = s

pub behind_shorter : (old new : State) (rest : List ℕ) → IsTurn (mode_of old.mode) old (m.token_at rest).0 More new → length (m.token_at rest).1 < length rest
behind_shorter old new rest t = shorter (m.token_at rest).0 rest (m.token_at rest).1 t.takes (takes rest)

-- ---- marks that are passed

pub comma_there : (rest : List ℕ) → m.token_at (44 ∷ rest) ≡ (m.comma, rest)
unfolding m.token_at m.token_from
comma_there rest = refl

colon_there : (rest : List ℕ) → m.token_at (58 ∷ rest) ≡ (m.colon, rest)
unfolding m.token_at m.token_from
colon_there rest = refl

passed : (old new : State) (line rest : List ℕ) (t : m.Token) → m.token_at line ≡ (t, rest) → IsTurn (mode_of old.mode) old t More new → length rest ≤ length line → Passes old line new rest
passed old new line rest t e turn h = record {
  same = ap (λ p. comes_of new p.1) (sym e) ∙ turned old new More line (comes_of old line) (subst (λ p. IsTurn (mode_of old.mode) old p.0 More new) (sym e) turn) refl;
  fits = turn.fits;
  within = h;
}

pub kept : (old : State) (line : List ℕ) → Passes old line old line
kept old line = record { same = refl; fits = λ f. f; within = omega arith }

pub colon_passed : (old : State) (line rest : List ℕ) → mode_of old.mode ≡ m.name → line ≡ 58 ∷ rest → Passes old line (record old { mode = Value false }) rest
colon_passed old line rest md e =
    let new = record old { mode = Value false } in
    passed old new line rest m.colon (ap m.token_at e ∙ colon_there rest)
    (subst (λ x. IsTurn x old m.colon More new) (sym md) (colon_taken old new refl refl refl))
    (let l = ap length e in omega (arith, l))

pub comma_passed : (old : State) (line rest : List ℕ) (x : Mode) → mode_of old.mode ≡ m.after → line ≡ 44 ∷ rest → GoesOn (Some x) (kinds_of old.kinds.items) → Passes old line (record old { mode = x }) rest
comma_passed old line rest x md e goes =
    let new = record old { mode = x } in
    passed old new line rest m.comma (ap m.token_at e ∙ comma_there rest)
    (subst (λ y. IsTurn y old m.comma More new) (sym md) (comma_taken old new x goes refl refl refl))
    (let l = ap length e in omega (arith, l))
