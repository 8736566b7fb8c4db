-- Clashes of keys between pieces.
use Rattle.std.proofs.Common.{◌≡◌, ℕ, ◌+◌, ◌==◌, List, [], ◌∷◌, ◌++◌, length, Option, Some, None, Result, Ok, Err, refl, sym, ap, subst, ◌∙◌, arith}
use Rattle.std.proofs.lemmas.List.{map-append, length-map}
use Rattle.item_tree.specs.declared.fault.Fault.{Fault}
use Rattle.tuple_rows.specs.Keys.{KeyList, Keyed}
use Rattle.order_runs.specs.Clashes as class
use Rattle.order_runs.specs.Seen.{Seen, SeenStandsFor}
use Rattle.stage_laws.specs.Runs.{Met}
use Rattle.stage_laws.specs.Pieces as plain
use Rattle.stage_laws.specs.Ends.{keys_of, having_seen, clash_or, clash_after, seen_behind, unless, in_front, compared, in_order}
use Rattle.stage_laws.proofs.Basics.{eq_true, picks}
use Rattle.piece_outcomes.specs.declared.met.MetFault.{MetFault}
use Rattle.piece_outcomes.specs.declared.outcome.OrderOutcome.{OrderOutcome}
use Rattle.piece_outcomes.specs.declared.outcome.OrderOutcome.TheVariants as own
use Rattle.piece_outcomes.specs.declared.orders.Known.{Known}
use Rattle.piece_outcomes.specs.declared.orders.Known.TheVariants as what
use Rattle.piece_outcomes.specs.Came.{Came, keyed_came}
use Rattle.piece_outcomes.specs.Counting.{clash_met, moved_on}
use Rattle.piece_outcomes.specs.Orders.{column_fault, clash_at, MetIs, WholeIs, OutcomeIs, KnownIs}

-- ---- the first clash, behind so many tuples

abbrev Clashed : ℕ → List ℕ → ℕ → ℕ × ℕ → Option (Met KeyList Fault) → Type 0
Clashed step places n p None = ⊥
Clashed step places n p (Some e) = MetIs (clash_met step places (n + p.0) p.1) e

abbrev IsPlace : ℕ → List ℕ → ℕ → Option (ℕ × ℕ) → Option (Met KeyList Fault) → Type 0
IsPlace step places n None o = o ≡ None
IsPlace step places n (Some p) o = Clashed step places n p o

further_on : (n t u : ℕ) → t ≡ n + 1 + u → t ≡ n + (1 + u)
further_on n t u h = omega arith

later_clash : (step : ℕ) (places : List ℕ) (n : ℕ) (k : KeyList) (p : ℕ × ℕ)
    (o : Option (Met KeyList Fault)) → Clashed step places (n + 1) p o
    → Clashed step places n (1 + p.0, p.1) (having_seen k o)
later_clash step places n k p None h = h
later_clash step places n k p (Some e) h =
    record { step = h.step; tuple = further_on n e.tuple p.0 h.tuple; fault = h.fault }

later_place : (step : ℕ) (places : List ℕ) (n : ℕ) (k : KeyList) (p : Option (ℕ × ℕ))
    (o : Option (Met KeyList Fault)) → IsPlace step places (n + 1) p o
    → IsPlace step places n (class.later 1 p) (having_seen k o)
later_place step places n k None o h = ap (having_seen k) h
later_place step places n k (Some p) o h = later_clash step places n k p o h

place_case : (step : ℕ) (places : List ℕ) (n : ℕ) (k : KeyList) (c : Option ℕ) (p : Option (ℕ × ℕ))
    (o : Option (Met KeyList Fault)) → IsPlace step places (n + 1) p o
    → IsPlace step places n (class.clash_or_later c p)
    (clash_or step (n + 1) k (column_fault places c) o)
place_case step places n k (Some column) p o h = record { step = refl; tuple = refl; fault = refl }
place_case step places n k None p o h = later_place step places n k p o h

is_place : (step : ℕ) (places : List ℕ) (n : ℕ) (B L : List KeyList)
    → IsPlace step places n (class.clash_after B L)
    (clash_after step (clash_at places) B (n + 1) L)
is_place step places n B [] = refl
is_place step places n B (k ∷ L) =
    place_case step places n k (class.clash_column B k) (class.clash_after (B ++ k ∷ []) L)
    (clash_after step (clash_at places) (B ++ k ∷ []) (n + 1 + 1) L)
    (is_place step places (n + 1) (B ++ k ∷ []) L)

-- ---- behind other tuples

-- a clash is found
found_met : (step : ℕ) (places : List ℕ) (n : ℕ) (p : ℕ × ℕ) (o : Option (Met KeyList Fault))
    (r : Result (List Keyed) (Met KeyList Fault)) (ks : List Keyed) → Clashed step places n p o
    → (e : Met KeyList Fault) × (in_front ks (unless o r) ≡ Err e)
    × MetIs (clash_met step places (n + p.0) p.1) e
found_met step places n p None r ks h = absurd h
found_met step places n p (Some e) r ks h =
    (seen_behind (keys_of ks) e, refl, record { step = h.step; tuple = h.tuple; fault = h.fault })

pub met_moved : (counts : ℕ → ℕ) (m n : MetFault) (e : Met KeyList Fault) → MetIs m e
    → n ≡ moved_on counts m → MetIs n (plain.further counts e)
met_moved counts m n e is h =
    subst (λ (x : MetFault). MetIs x (plain.further counts e)) (sym h)
    (record { step = is.step; tuple = ap (λ (s : ℕ). counts s + e.tuple) is.step ∙ ap (λ (t : ℕ). counts m.step + t) is.tuple; fault = is.fault })

module _ {W : Type 0} (stands : W → Came → Type 0) (step : ℕ) (places : List ℕ) (seen : Seen)
    (ks : List Keyed) (before : SeenStandsFor seen (keys_of ks)) where
  abbrev found : List KeyList → Option (Met KeyList Fault)
  found L = clash_after step (clash_at places) (keys_of ks) (length ks + 1) L

  placed : (L : List KeyList) (p : Option (ℕ × ℕ)) → class.clash_after (keys_of ks) L ≡ p
      → IsPlace step places (length ks) p (found L)
  placed L p h =
      subst (λ (q : Option (ℕ × ℕ)). IsPlace step places (length ks) q (found L)) h
      (is_place step places (length ks) (keys_of ks) L)

  so_many : seen.tuples ≡ length ks
  so_many = before.tuples ∙ length-map ks (λ (p : Keyed). p.0)

  its_fault : (m : MetFault) (t column : ℕ) (r q : Result (List Keyed) (Met KeyList Fault))
      → m ≡ clash_met step places (seen.tuples + t) column → q ≡ r
      → (e : Met KeyList Fault) × (r ≡ Err e)
      × MetIs (clash_met step places (length ks + t) column) e
      → KnownIs stands (what.Met m) (plain.known q)
  its_fault m t column r q is same w =
      subst (λ (x : Result (List Keyed) (Met KeyList Fault)). KnownIs stands (what.Met m) (plain.known x)) (sym (same ∙ w.1))
      (subst (λ (x : MetFault). MetIs x (w.0)) (sym (is ∙ ap (λ (n : ℕ). clash_met step places (n + t) column) so_many)) (w.2))

  pub whole_clashes : (os : List Keyed) (m : MetFault) (t column : ℕ)
      → class.clash_after (keys_of ks) (keys_of os) ≡ Some (t, column)
      → m ≡ clash_met step places (seen.tuples + t) column
      → KnownIs stands (what.Met m) (plain.known (in_order step (clash_at places) ks (Ok os)))
  whole_clashes os m t column h is =
      its_fault m t column (in_front ks (unless (found (keys_of os)) (Ok os))) (in_order step (clash_at places) ks (Ok os)) is refl
      (found_met step places (length ks) (t, column) (found (keys_of os)) (Ok os) ks (placed (keys_of os) (Some (t, column)) h))

  pub whole_goes_on : (os : List Keyed) (w : W) (both : Seen)
      → class.clash_after (keys_of ks) (keys_of os) ≡ None
      → stands w (keyed_came (ks ++ os)) → SeenStandsFor both (keys_of ks ++ keys_of os)
      → KnownIs stands (what.Whole w both) (plain.known (in_order step (clash_at places) ks (Ok os)))
  whole_goes_on os w both h kept keys =
      subst (λ (c : Option (Met KeyList Fault)). KnownIs stands (what.Whole w both) (plain.known (in_front ks (unless c (Ok os)))))
      (sym (placed (keys_of os) None h))
      (record { kept = kept; keys = subst (λ (K : List KeyList). SeenStandsFor both K) (sym (map-append (λ (p : Keyed). p.0) ks os)) keys })

  compares : (e : Met KeyList Fault) → e.step ≡ step
      → in_order step (clash_at places) ks (Err e) ≡ compared step (clash_at places) ks (Err e)
  compares e s =
      picks (e.step == step) (compared step (clash_at places) ks (Err e)) (Err e) (eq_true e.step step s)

  pub met_clashes : (e : Met KeyList Fault) (m : MetFault) (t column : ℕ) → e.step ≡ step
      → class.clash_after (keys_of ks) e.seen ≡ Some (t, column)
      → m ≡ clash_met step places (seen.tuples + t) column
      → KnownIs stands (what.Met m) (plain.known (in_order step (clash_at places) ks (Err e)))
  met_clashes e m t column s h is =
      its_fault m t column (in_front ks (unless (found e.seen) (Err e))) (in_order step (clash_at places) ks (Err e)) is (compares e s)
      (found_met step places (length ks) (t, column) (found e.seen) (Err e) ks (placed e.seen (Some (t, column)) h))

  pub met_stays : (e : Met KeyList Fault) (m : MetFault) → e.step ≡ step
      → class.clash_after (keys_of ks) e.seen ≡ None → MetIs m e
      → KnownIs stands (what.Met m) (plain.known (in_order step (clash_at places) ks (Err e)))
  met_stays e m s h is =
      subst (λ (x : Result (List Keyed) (Met KeyList Fault)). KnownIs stands (what.Met m) (plain.known x))
      (sym (compares e s ∙ ap (λ (c : Option (Met KeyList Fault)). in_front ks (unless c (Err e))) (placed e.seen None h)))
      (record { step = is.step; tuple = is.tuple; fault = is.fault })

-- a fault behind all that is known
pub then_met : {W : Type 0} (stands : W → Came → Type 0) (step : ℕ) (places : List ℕ)
    (counts : ℕ → ℕ) (limit : ℕ) (ks : List Keyed) (m n : MetFault) (seen : Seen)
    (o : plain.Outcome (List Keyed) KeyList Fault) (r : Known W)
    → OutcomeIs stands (own.Met m seen) o → n ≡ moved_on counts m
    → ((e : Met KeyList Fault) → MetIs n e → SeenStandsFor seen e.seen
    → KnownIs stands r (plain.known (in_order step (clash_at places) ks (Err e))))
    → KnownIs stands r (plain.known_behind (in_order step (clash_at places)) (plain.known (Ok ks))
    (plain.moved_known counts (plain.by_outcome limit o)))
then_met stands step places counts limit ks m n seen (plain.whole os) r h is goes = absurd h
then_met stands step places counts limit ks m n seen (plain.met e) r h is goes =
    goes (plain.further counts e) (met_moved counts m n e h.0 is) h.1
then_met stands step places counts limit ks m n seen plain.clean r h is goes = absurd h
