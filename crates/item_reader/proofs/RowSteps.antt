-- Arrays of a few numbers, whose turns are taken together.
use Rattle.std.specs.Prelude.{◌≡◌, ◌<◌, ℕ, Bool, true, false, nat_lt, List, [], ◌∷◌, ◌++◌, length, refl}
use Rattle.std.proofs.Common.{sym, ◌∙◌, ap, subst, append_assoc, arith}
use Rattle.item_tree.specs.Datum.{Datum, array_of_list}
use Rattle.json_text.specs.inside.Machine as m
use Rattle.json_text.specs.inside.Build as b
use Rattle.json_text.specs.inside.Fits.{BuildFits}
use Rattle.json_text.proofs.FitLemmas.{perform_fits}
use Rattle.json_text.proofs.RunLemmas.{run_token, takes}
use Rattle.json_text.proofs.RunLemmas as R
use Rattle.item_reader.specs.Rows.{IsElement, IsRow}
use Rattle.item_reader.specs.View.{build_of, mode_of, kinds_of, on_frames, may_open}
use Rattle.item_reader.specs.Turns.{IsAdded, Takes, Passes, comes_of}
use Rattle.item_reader.specs.declared.turn.State.{State}
use Rattle.item_reader.specs.declared.turn.Turn.TheVariants.{More}
use Rattle.item_reader.proofs.Turning.{emits, settled, shorter, comma_there}

-- ---- the same comes of the one text, behind what is built of it, as of the other

record Leads (x : b.Build) (mode : m.Mode) (ks : m.Kinds) (l : List ℕ) (y : b.Build) (mode2 : m.Mode) (ks2 : m.Kinds) (r : List ℕ) : Type 0 where
  same : b.outcome x (m.run mode ks l) ≡ b.outcome y (m.run mode2 ks2 r)
  fits : BuildFits x → BuildFits y
  shorter : length r < length l

further : {x y z : b.Build} {m1 m2 m3 : m.Mode} {k1 k2 k3 : m.Kinds} {l1 l2 l3 : List ℕ} → Leads x m1 k1 l1 y m2 k2 l2 → Leads y m2 k2 l2 z m3 k3 l3 → Leads x m1 k1 l1 z m3 k3 l3
further p q = record { same = p.same ∙ q.same; fits = λ f. q.fits (p.fits f); shorter = omega (arith, p.shorter, q.shorter) }

event_leads : (x y : b.Build) (mode mode2 : m.Mode) (ks ks2 : m.Kinds) (l r : List ℕ) (t : m.Token) (e : m.Event) → m.token_at l ≡ (t, r) → Takes t More → ((k : m.Next) → m.step mode ks t k ≡ m.emit e (k mode2 ks2)) → b.perform x e ≡ y → Leads x mode ks l y mode2 ks2 r
event_leads x y mode mode2 ks ks2 l r t e there some step done = record {
  same = ap (b.outcome x) (run_token mode ks l t r there ∙ step (λ m2 k2. m.run m2 k2 r)) ∙ emits x e (m.run mode2 ks2 r) ∙ ap (λ z. b.outcome z (m.run mode2 ks2 r)) done;
  fits = λ f. subst BuildFits done (perform_fits x e f);
  shorter = shorter t l r some (subst (λ (p : m.Token × List ℕ). R.Takes l p.0 p.1) there (takes l));
}

number_leads : (f : Bool) (ks : m.Kinds) (gs : List b.Frame) (y : Datum) (mark : ℕ) (l r : List ℕ) → IsElement y mark l r → Leads (b.building gs) (m.value f) ks l (b.add y gs) m.after ks (mark ∷ r)
number_leads f ks gs y mark l r h =
    event_leads (b.building gs) (b.add y gs) (m.value f) m.after ks ks l (mark ∷ r) (m.numeral h.0) (m.a_number h.0) h.1 tt (λ k. refl) (settled h.0 y h.2 gs)

close_there : (r : List ℕ) → m.token_at (93 ∷ r) ≡ (m.close_array, r)
unfolding m.token_at m.token_from
close_there r = refl

close_leads : (ks : m.Kinds) (xs : List Datum) (fs : List b.Frame) (r : List ℕ) → Leads (b.building (b.open_array xs ∷ fs)) m.after (true ∷ ks) (93 ∷ r) (b.add (array_of_list xs) fs) m.after ks r
close_leads ks xs fs r =
    event_leads (b.building (b.open_array xs ∷ fs)) (b.add (array_of_list xs) fs) m.after m.after (true ∷ ks) ks (93 ∷ r) r m.close_array m.closes (close_there r) tt (λ k. refl) refl

comma_leads : (x : b.Build) (ks : m.Kinds) (r : List ℕ) → Leads x m.after (true ∷ ks) (44 ∷ r) x (m.value false) (true ∷ ks) r
comma_leads x ks r = record {
  same = ap (b.outcome x) (run_token m.after (true ∷ ks) (44 ∷ r) m.comma r (comma_there r));
  fits = λ f. f;
  shorter = omega arith;
}

-- ---- the numbers of an array that is open, and its bracket

row_leads : (ys : List Datum) (f : Bool) (ks : m.Kinds) (xs : List Datum) (fs : List b.Frame) (l r : List ℕ) → IsRow ys l r → Leads (b.building (b.open_array xs ∷ fs)) (m.value f) (true ∷ ks) l (b.add (array_of_list (xs ++ ys)) fs) m.after ks r
row_leads [] f ks xs fs l r h = absurd h
row_leads (y ∷ []) f ks xs fs l r h =
    further (number_leads f (true ∷ ks) (b.open_array xs ∷ fs) y 93 l r h) (close_leads ks (xs ++ y ∷ []) fs r)
row_leads (y ∷ z ∷ ys) f ks xs fs l r h =
    let more = row_leads (z ∷ ys) false ks (xs ++ y ∷ []) fs h.0 r h.2 in
    let all = subst (λ zs. Leads (b.building (b.open_array (xs ++ y ∷ []) ∷ fs)) (m.value false) (true ∷ ks) h.0 (b.add (array_of_list zs) fs) m.after ks r) (append_assoc xs (y ∷ []) (z ∷ ys)) more in
    further (number_leads f (true ∷ ks) (b.open_array xs ∷ fs) y 44 l h.0 h.1) (further (comma_leads (b.building (b.open_array (xs ++ y ∷ []) ∷ fs)) ks h.0) all)

-- ---- an array that may open

array_there : (l : List ℕ) → m.token_at (91 ∷ l) ≡ (m.open_array, l)
unfolding m.token_at m.token_from
array_there l = refl

array_opens : (fs : List b.Frame) → nat_lt (length fs) 128 ≡ true → b.perform (b.building fs) m.opens_array ≡ b.building (b.open_array [] ∷ fs)
array_opens fs h = rw h refl

array_leads : (x : b.Build) (f : Bool) (ks : m.Kinds) (ys : List Datum) (l r : List ℕ) → may_open x ≡ true → IsRow ys l r → Leads x (m.value f) ks (91 ∷ l) (on_frames (b.add (array_of_list ys)) x) m.after ks r
array_leads (b.building fs) f ks ys l r h row =
    further (event_leads (b.building fs) (b.building (b.open_array [] ∷ fs)) (m.value f) (m.value true) ks (true ∷ ks) (91 ∷ l) l m.open_array m.opens_array (array_there l) tt (λ k. refl) (array_opens fs h)) (row_leads ys true ks [] fs l r row)
array_leads (b.done y) f ks ys l r h row = absurd cc
array_leads (b.troubled t) f ks ys l r h row = absurd cc

pub row_taken : (old new : State) (f : Bool) (ys : List Datum) (line inside behind : List ℕ) → line ≡ 91 ∷ inside → mode_of old.mode ≡ m.value f → may_open (build_of old.build) ≡ true → IsRow ys inside behind → IsAdded old (array_of_list ys) new → Passes old line new behind × (length behind < length line)
row_taken old new f ys line inside behind first mode may row added =
    let x = build_of old.build in let y = on_frames (b.add (array_of_list ys)) x in let ks = kinds_of old.kinds.items in
    let leads = array_leads x f ks ys inside behind may row in
    let same = ap (λ z. b.outcome z (m.run (mode_of new.mode) (kinds_of new.kinds.items) behind)) added.build
    ∙ ap (λ z. b.outcome y (m.run z (kinds_of new.kinds.items) behind)) added.mode
    ∙ ap (λ z. b.outcome y (m.run m.after z behind)) added.kinds
    ∙ sym leads.same
    ∙ ap (λ z. b.outcome x (m.run z ks (91 ∷ inside))) (sym mode)
    ∙ ap (comes_of old) (sym first) in
    let size = ap length first in
    (record { same = same; fits = λ g. subst BuildFits (sym added.build) (leads.fits g); within = omega (arith, size, leads.shorter) }, omega (arith, size, leads.shorter))
