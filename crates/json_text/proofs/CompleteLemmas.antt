-- A text's run gives the events of its raw value.
use Rattle.std.specs.Prelude.{◌≡◌, ℕ, Bool, true, false, List, [], ◌∷◌, Some, None, option_map, refl}
use Rattle.std.proofs.Common.{sym, ◌∙◌, ap, subst, inl, inr, arith}
use Rattle.std.proofs.lemmas.Bool.Decides.{nat_tests}
use Rattle.json_text.specs.Raw.{Raw, raw_null, raw_boolean, raw_number, raw_string, raw_array, raw_object, Raws, no_raws, raw_value, Fields, no_fields, field}
use Rattle.json_text.specs.Json.{is_space, Spaces, Structural, Value, Elements, MoreElements, Members, MoreMembers, Json}
use Rattle.json_text.specs.inside.Machine.{null_word, boolean_word, numeral, characters, token_at, token_from, Event, opens_array, opens_object, closes, keyed, emit, value, key, name, after, Kinds, Events, run}
use Rattle.json_text.proofs.NumeralLemmas.{is_of_number, Stops}
use Rattle.json_text.proofs.TokenLemmas.{null_token, boolean_token, number_token, string_token_at}
use Rattle.json_text.proofs.RunLemmas.{run_behind, run_spaces, run_token}
use Rattle.json_text.proofs.Events.{events, all_events, field_events}

-- ---- numbers stop at what may follow a value

space_stops : (b : ℕ) → is_space b ≡ true → is_of_number b ≡ false
space_stops b h = grind (arith, nat_tests)

spaces_stop : (c : ℕ) (m l : List ℕ) → Spaces l (c ∷ m) → is_of_number c ≡ false → Stops l
spaces_stop c m [] h e = tt
spaces_stop c m (b ∷ l) h e = elim h [ inl q ↦ let k : b ≡ c = cc in rw k e | inr p ↦ space_stops b p.0 ]

end_stops : (l : List ℕ) → Spaces l [] → Stops l
end_stops [] h = tt
end_stops (b ∷ l) h = elim h [ inl q ↦ absurd cc | inr p ↦ space_stops b p.0 ]

mark_stops : (c : ℕ) (l r : List ℕ) → Structural c l r → is_of_number c ≡ false → Stops l
mark_stops c l r s e = spaces_stop c s.behind l s.before e

elements_stop : (vs : Raws) (l r : List ℕ) → MoreElements vs l r → Stops r → Stops l
elements_stop no_raws l r h e = subst Stops (sym h) e
elements_stop (raw_value v vs) l r h e = mark_stops 44 l h.0 h.2 refl

members_stop : (fs : Fields) (l r : List ℕ) → MoreMembers fs l r → Stops r → Stops l
members_stop no_fields l r h e = subst Stops (sym h) e
members_stop (field k v fs) l r h e = mark_stops 44 l h.0 h.4 refl

-- ---- events in front of others

fused : (e : Event) (f : List Event → List Event) (x : Events) → emit e (option_map f x) ≡ option_map (λ es. e ∷ f es) x
fused e f None = refl
fused e f (Some es) = refl

joined : (f g : List Event → List Event) (x : Events) → option_map f (option_map g x) ≡ option_map (λ es. f (g es)) x
joined f g None = refl
joined f g (Some es) = refl

mutual
  unfolding token_at token_from

  pub value_runs : (v : Raw) (f : Bool) (ks : Kinds) (l r : List ℕ) → Value v l r → Stops r → run (value f) ks l ≡ option_map (events v) (run after ks r)
  value_runs raw_null f ks l r h e = run_token (value f) ks l null_word r (null_token l r h)
  value_runs (raw_boolean b) f ks l r h e = run_token (value f) ks l (boolean_word b) r (boolean_token b l r h)
  value_runs (raw_number n) f ks l r h e = run_token (value f) ks l (numeral n) r (number_token n l r h e)
  value_runs (raw_string cs) f ks l r h e = run_token (value f) ks l (characters cs) r (string_token_at cs l r h)
  value_runs (raw_array vs) f ks l r h e =
      run_behind (value f) ks l (91 ∷ h.2.behind) h.2.before ∙ ap (emit opens_array) (run_spaces (value true) (true ∷ ks) h.2.behind h.0 h.2.after ∙ elements_run vs ks h.0 h.1 r h.3 h.4) ∙ fused opens_array _ _
  value_runs (raw_object fs) f ks l r h e =
      run_behind (value f) ks l (123 ∷ h.2.behind) h.2.before ∙ ap (emit opens_object) (run_spaces (key true) (false ∷ ks) h.2.behind h.0 h.2.after ∙ members_run fs ks h.0 h.1 r h.3 h.4) ∙ fused opens_object _ _

  elements_run : (vs : Raws) (ks : Kinds) (l m r : List ℕ) → Elements vs l m → Structural 93 m r → run (value true) (true ∷ ks) l ≡ option_map (λ es. all_events vs (closes ∷ es)) (run after ks r)
  elements_run no_raws ks l m r h s = rw h (run_behind (value true) (true ∷ ks) m (93 ∷ s.behind) s.before ∙ ap (emit closes) (run_spaces after ks s.behind r s.after))
  elements_run (raw_value v vs) ks l m r h s =
      value_runs v true (true ∷ ks) l h.0 h.1 (elements_stop vs h.0 m h.2 (mark_stops 93 m r s refl)) ∙ ap (option_map (events v)) (more_elements_run vs ks h.0 m r h.2 s) ∙ joined (events v) _ _

  more_elements_run : (vs : Raws) (ks : Kinds) (l m r : List ℕ) → MoreElements vs l m → Structural 93 m r → run after (true ∷ ks) l ≡ option_map (λ es. all_events vs (closes ∷ es)) (run after ks r)
  more_elements_run no_raws ks l m r h s = rw h (run_behind after (true ∷ ks) m (93 ∷ s.behind) s.before ∙ ap (emit closes) (run_spaces after ks s.behind r s.after))
  more_elements_run (raw_value v vs) ks l m r h s =
      run_behind after (true ∷ ks) l (44 ∷ h.2.behind) h.2.before ∙ run_spaces (value false) (true ∷ ks) h.2.behind h.0 h.2.after
      ∙ value_runs v false (true ∷ ks) h.0 h.1 h.3 (elements_stop vs h.1 m h.4 (mark_stops 93 m r s refl)) ∙ ap (option_map (events v)) (more_elements_run vs ks h.1 m r h.4 s) ∙ joined (events v) _ _

  members_run : (fs : Fields) (ks : Kinds) (l m r : List ℕ) → Members fs l m → Structural 125 m r → run (key true) (false ∷ ks) l ≡ option_map (λ es. field_events fs (closes ∷ es)) (run after ks r)
  members_run no_fields ks l m r h s = rw h (run_behind (key true) (false ∷ ks) m (125 ∷ s.behind) s.before ∙ ap (emit closes) (run_spaces after ks s.behind r s.after))
  members_run (field k v fs) ks l m r h s =
      run_token (key true) (false ∷ ks) l (characters k) h.0 (string_token_at k l h.0 h.3)
      ∙ ap (emit (keyed k)) (run_behind name (false ∷ ks) h.0 (58 ∷ h.4.behind) h.4.before ∙ run_spaces (value false) (false ∷ ks) h.4.behind h.1 h.4.after
      ∙ value_runs v false (false ∷ ks) h.1 h.2 h.5 (members_stop fs h.2 m h.6 (mark_stops 125 m r s refl)) ∙ ap (option_map (events v)) (more_members_run fs ks h.2 m r h.6 s) ∙ joined (events v) _ _)
      ∙ fused (keyed k) _ _

  more_members_run : (fs : Fields) (ks : Kinds) (l m r : List ℕ) → MoreMembers fs l m → Structural 125 m r → run after (false ∷ ks) l ≡ option_map (λ es. field_events fs (closes ∷ es)) (run after ks r)
  more_members_run no_fields ks l m r h s = rw h (run_behind after (false ∷ ks) m (125 ∷ s.behind) s.before ∙ ap (emit closes) (run_spaces after ks s.behind r s.after))
  more_members_run (field k v fs) ks l m r h s =
      run_behind after (false ∷ ks) l (44 ∷ h.4.behind) h.4.before ∙ run_spaces (key false) (false ∷ ks) h.4.behind h.0 h.4.after
      ∙ run_token (key false) (false ∷ ks) h.0 (characters k) h.1 (string_token_at k h.0 h.1 h.5)
      ∙ ap (emit (keyed k)) (run_behind name (false ∷ ks) h.1 (58 ∷ h.6.behind) h.6.before ∙ run_spaces (value false) (false ∷ ks) h.6.behind h.2 h.6.after
      ∙ value_runs v false (false ∷ ks) h.2 h.3 h.7 (members_stop fs h.3 m h.8 (mark_stops 125 m r s refl)) ∙ ap (option_map (events v)) (more_members_run fs ks h.3 m r h.8 s) ∙ joined (events v) _ _)
      ∙ fused (keyed k) _ _

pub text_runs : (t : List ℕ) (v : Raw) → Json t v → run (value false) [] t ≡ Some (events v [])
unfolding token_at token_from
text_runs t v j =
    run_spaces (value false) [] t j.from j.before ∙ value_runs v false [] j.from j.to j.value (end_stops j.to j.after) ∙ ap (option_map (events v)) (run_behind after [] j.to [] j.after)
