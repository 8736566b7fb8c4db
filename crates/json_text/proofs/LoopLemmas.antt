-- What a loop over the tokens of a text keeps: what the rest of the text makes of what is built is what the whole text makes of the start.
use Rattle.std.specs.Prelude.{◌≡◌, ◌<◌, ℕ, List, [], ◌∷◌, length, Option, Some, None, refl}
use Rattle.std.proofs.Common.{sym, ◌∙◌, ap, subst, inl, inr}
use Rattle.json_text.specs.inside.Machine.{Token, end, bad, token_at, Event, emit, Mode, value, key, name, after, Kinds, Events, Turn, stops, ends, goes, turn, follow, run}
use Rattle.json_text.specs.inside.Build.{Build, perform, outcome}
use Rattle.json_text.proofs.RunLemmas.{run_token, takes, Takes}

outcome_emit : (b : Build) (e : Event) (r : Events) → outcome b (emit e r) ≡ outcome (perform b e) r
outcome_emit b e None = refl
outcome_emit b e (Some es) = refl

turned : (b : Build) (m : Mode) (ks : Kinds) (l : List ℕ) (t : Token) (r : List ℕ) (u : Turn) → token_at l ≡ (t, r) → turn m ks t ≡ u → outcome b (run m ks l) ≡ outcome b (follow u (λ m2 ks2. run m2 ks2 r))
turned b m ks l t r u e h = ap (outcome b) (run_token m ks l t r e ∙ ap (λ v. follow v (λ m2 ks2. run m2 ks2 r)) h)

pub loop_event : (b : Build) (m : Mode) (ks : Kinds) (l : List ℕ) (t : Token) (r : List ℕ) (e : Event) (m2 : Mode) (ks2 : Kinds) → token_at l ≡ (t, r) → turn m ks t ≡ goes (Some e) m2 ks2 → outcome (perform b e) (run m2 ks2 r) ≡ outcome b (run m ks l)
loop_event b m ks l t r e m2 ks2 h g = sym (turned b m ks l t r (goes (Some e) m2 ks2) h g ∙ outcome_emit b e (run m2 ks2 r))

pub loop_quiet : (b : Build) (m : Mode) (ks : Kinds) (l : List ℕ) (t : Token) (r : List ℕ) (m2 : Mode) (ks2 : Kinds) → token_at l ≡ (t, r) → turn m ks t ≡ goes None m2 ks2 → outcome b (run m2 ks2 r) ≡ outcome b (run m ks l)
loop_quiet b m ks l t r m2 ks2 h g = sym (turned b m ks l t r (goes None m2 ks2) h g)

pub loop_ends : (b : Build) (m : Mode) (ks : Kinds) (l : List ℕ) (t : Token) (r : List ℕ) → token_at l ≡ (t, r) → turn m ks t ≡ ends → outcome b (run m ks l) ≡ Some b
loop_ends b m ks l t r h g = turned b m ks l t r ends h g

pub loop_stops : (b : Build) (m : Mode) (ks : Kinds) (l : List ℕ) (t : Token) (r : List ℕ) → token_at l ≡ (t, r) → turn m ks t ≡ stops → outcome b (run m ks l) ≡ None
loop_stops b m ks l t r h g = turned b m ks l t r stops h g

-- a loop that goes on has taken a byte

end_never_goes : (m : Mode) (ks : Kinds) (o : Option Event) (m2 : Mode) (ks2 : Kinds) → turn m ks end ≡ goes o m2 ks2 → ⊥
end_never_goes (value f) ks o m2 ks2 h = cc
end_never_goes (key f) ks o m2 ks2 h = cc
end_never_goes name ks o m2 ks2 h = cc
end_never_goes after [] o m2 ks2 h = cc
end_never_goes after (k ∷ ks) o m2 ks2 h = cc

bad_never_goes : (m : Mode) (ks : Kinds) (o : Option Event) (m2 : Mode) (ks2 : Kinds) → turn m ks bad ≡ goes o m2 ks2 → ⊥
bad_never_goes (value f) ks o m2 ks2 h = cc
bad_never_goes (key f) ks o m2 ks2 h = cc
bad_never_goes name ks o m2 ks2 h = cc
bad_never_goes after ks o m2 ks2 h = cc

pub loop_smaller : (m : Mode) (ks : Kinds) (l : List ℕ) (t : Token) (r : List ℕ) (o : Option Event) (m2 : Mode) (ks2 : Kinds) → token_at l ≡ (t, r) → turn m ks t ≡ goes o m2 ks2 → length r < length l
loop_smaller m ks l t r o m2 ks2 h g =
    let there : Takes l t r = subst (λ (p : Token × List ℕ). Takes l p.0 p.1) h (takes l) in
    elim there [
      | inl e ↦ absurd (end_never_goes m ks o m2 ks2 (subst (λ s. turn m ks s ≡ goes o m2 ks2) e g))
      | inr w ↦ elim w [
        | inl e ↦ absurd (bad_never_goes m ks o m2 ks2 (subst (λ s. turn m ks s ≡ goes o m2 ks2) e g))
        | inr s ↦ s
      ]
    ]
