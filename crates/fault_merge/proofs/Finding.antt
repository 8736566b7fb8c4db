-- The least fault of a list of outputs is found from its front.
use Rattle.std.proofs.Common.{◌≡◌, ◌+◌, ◌⊎◌, ℕ, zero, suc, true, false, List, [], ◌∷◌, Option, None, Some, IfSome, if◌then◌else◌, refl, ap, sym, ◌∙◌, subst, inl, inr, arith}
use Rattle.fault_merge.specs.declared.at.At.{At}
use Rattle.fault_merge.specs.declared.done.Done.{Done}
use Rattle.fault_merge.specs.Places.{NotAfter, is_before, least_of}
use Rattle.fault_merge.specs.Faults.{fault_at, IsLeastFault, least_with, least_fault}
use Rattle.fault_merge.specs.Laws.{LeastFaultStands}
use Rattle.fault_merge.proofs.Lesser.{not_after_self, not_after_trans, least_first}

-- the least place found does not come after what was found before, and after no fault of a piece
-- from this one on; and it is what was found before, or such a fault
pub record Finds (found : Option At) (first : ℕ) (f : ℕ → Option ℕ) (a : At) : Type 0 where
  pub before : IfSome found (NotAfter a)
  pub after : (k c : ℕ) → f k ≡ Some c → NotAfter a (record { clause = c; piece = first + k })
  pub is : (found ≡ Some a) ⊎ ((k : ℕ) × (first + k ≡ a.piece) × (f k ≡ Some a.clause))

abbrev pub FindsNone : Option At → (ℕ → Option ℕ) → Type 0
FindsNone found f = (found ≡ None) × ((k : ℕ) → f k ≡ None)

abbrev pub Found : Option At → ℕ → (ℕ → Option ℕ) → Option At → Type 0
Found found first f None = FindsNone found f
Found found first f (Some a) = Finds found first f a

some_none : {X : Type 0} (o : Option X) (x : X) → o ≡ Some x → o ≡ None → ⊥
some_none o x e n = cc

least_is : (found : Option At) (b : At) → (least_of found b ≡ b) ⊎ (found ≡ Some (least_of found b))
least_is None b = inl refl
least_is (Some a) b =
    elim (is_before b a) as (λ t. ((if t then b else a) ≡ b) ⊎ (Some a ≡ Some (if t then b else a)))
    [ true ↦ inl refl | false ↦ inr refl ]

-- a place that comes after neither of two
before_both : (a : At) (found : Option At) (b : At) → NotAfter a (least_of found b) → NotAfter a b × IfSome found (NotAfter a)
before_both a None b h = (h, tt)
before_both a (Some x) b h =
    let l = least_first (Some x) b in
    (not_after_trans a (least_of (Some x) b) b h l.0, not_after_trans a (least_of (Some x) b) x h l.1)

-- faults of the pieces behind the first
shift_piece : (a : At) (first k c : ℕ) → NotAfter a (record { clause = c; piece = first + 1 + k }) → NotAfter a (record { clause = c; piece = first + suc k })
shift_piece a first k c h =
    let e : first + 1 + k ≡ first + suc k = omega arith in
    subst (λ (q : ℕ). NotAfter a (record { clause = c; piece = q })) e h

module _ {O : Type 0} (tells : O → Option ℕ) where
  rest_is : (d : Done O) (ds : List (Done O)) (found : Option At) (first : ℕ) (a : At)
      → ((k : ℕ) × (first + 1 + k ≡ a.piece) × (fault_at tells ds k ≡ Some a.clause))
      → (found ≡ Some a) ⊎ ((k : ℕ) × (first + k ≡ a.piece) × (fault_at tells (d ∷ ds) k ≡ Some a.clause))
  rest_is d ds found first a (k, e, h) = inr (suc k, omega (arith, e), h)

  after_all : (d : Done O) (ds : List (Done O)) (first : ℕ) (a : At)
      → ((c : ℕ) → tells d.out ≡ Some c → NotAfter a (record { clause = c; piece = first }))
      → ((k c : ℕ) → fault_at tells ds k ≡ Some c → NotAfter a (record { clause = c; piece = first + 1 + k }))
      → (k c : ℕ) → fault_at tells (d ∷ ds) k ≡ Some c → NotAfter a (record { clause = c; piece = first + k })
  after_all d ds first a here rest zero c h =
      let e : first ≡ first + 0 = omega arith in subst (λ (q : ℕ). NotAfter a (record { clause = c; piece = q })) e (here c h)
  after_all d ds first a here rest (suc k) c h = shift_piece a first k c (rest k c h)

  -- the first output told nothing
  finds_past : (d : Done O) (ds : List (Done O)) (found : Option At) (first : ℕ) (a : At) → tells d.out ≡ None
      → Finds found (first + 1) (fault_at tells ds) a → Finds found first (fault_at tells (d ∷ ds)) a
  finds_past d ds found first a none h =
      record {
        before = h.before;
        after = after_all d ds first a (λ c e. absurd (some_none (tells d.out) c e none)) h.after;
        is = elim h.is as (λ _. (found ≡ Some a) ⊎ ((k : ℕ) × (first + k ≡ a.piece) × (fault_at tells (d ∷ ds) k ≡ Some a.clause)))
            [ inl e ↦ inl e | inr r ↦ rest_is d ds found first a r ];
      }

  -- the first output told a fault
  first_is : (d : Done O) (ds : List (Done O)) (found : Option At) (first c : ℕ) (a : At) → tells d.out ≡ Some c
      → Some (least_of found (record { clause = c; piece = first })) ≡ Some a
      → (found ≡ Some a) ⊎ ((k : ℕ) × (first + k ≡ a.piece) × (fault_at tells (d ∷ ds) k ≡ Some a.clause))
  first_is d ds found first c a e is =
      let b : At = record { clause = c; piece = first } in
      let same : least_of found b ≡ a = cc in
      elim (least_is found b) as (λ _. (found ≡ Some a) ⊎ ((k : ℕ) × (first + k ≡ a.piece) × (fault_at tells (d ∷ ds) k ≡ Some a.clause))) [
        | inl h ↦
            let at : b ≡ a = sym h ∙ same in
            let piece : first ≡ a.piece = ap (λ (w : At). w.piece) at in
            let clause : c ≡ a.clause = ap (λ (w : At). w.clause) at in
            inr (0, omega (arith, piece), e ∙ ap (λ (n : ℕ). Some n) clause)
        | inr h ↦ inl (h ∙ is)
      ]

  finds_first : (d : Done O) (ds : List (Done O)) (found : Option At) (first c : ℕ) (a : At) → tells d.out ≡ Some c
      → Finds (Some (least_of found (record { clause = c; piece = first }))) (first + 1) (fault_at tells ds) a → Finds found first (fault_at tells (d ∷ ds)) a
  finds_first d ds found first c a e h =
      let b : At = record { clause = c; piece = first } in
      let both = before_both a found b h.before in
      record {
        before = both.1;
        after = after_all d ds first a (λ k i. let same : c ≡ k = cc in subst (λ (n : ℕ). NotAfter a (record { clause = n; piece = first })) same both.0) h.after;
        is = elim h.is as (λ _. (found ≡ Some a) ⊎ ((k : ℕ) × (first + k ≡ a.piece) × (fault_at tells (d ∷ ds) k ≡ Some a.clause)))
            [ inl is ↦ first_is d ds found first c a e is | inr r ↦ rest_is d ds found first a r ];
      }

  none_all : (d : Done O) (ds : List (Done O)) → tells d.out ≡ None → ((k : ℕ) → fault_at tells ds k ≡ None) → (k : ℕ) → fault_at tells (d ∷ ds) k ≡ None
  none_all d ds here rest zero = here
  none_all d ds here rest (suc k) = rest k

  found_past : (d : Done O) (ds : List (Done O)) (found r : Option At) (first : ℕ) → tells d.out ≡ None
      → Found found (first + 1) (fault_at tells ds) r → Found found first (fault_at tells (d ∷ ds)) r
  found_past d ds found None first none h = (h.0, none_all d ds none h.1)
  found_past d ds found (Some a) first none h = finds_past d ds found first a none h

  found_first : (d : Done O) (ds : List (Done O)) (found r : Option At) (first c : ℕ) → tells d.out ≡ Some c
      → Found (Some (least_of found (record { clause = c; piece = first }))) (first + 1) (fault_at tells ds) r → Found found first (fault_at tells (d ∷ ds)) r
  found_first d ds found None first c e h = absurd (let n = h.0 in cc)
  found_first d ds found (Some a) first c e h = finds_first d ds found first c a e h

  found_with : (d : Done O) (ds : List (Done O)) (found r : Option At) (first : ℕ) (o : Option ℕ) → tells d.out ≡ o
      → Found (least_with found o first) (first + 1) (fault_at tells ds) r → Found found first (fault_at tells (d ∷ ds)) r
  found_with d ds found r first None e h = found_past d ds found r first e h
  found_with d ds found r first (Some c) e h = found_first d ds found r first c e h

  nothing_found : (found : Option At) (first : ℕ) → Found found first (fault_at tells []) found
  nothing_found None first = (refl, λ k. refl)
  nothing_found (Some a) first = record { before = not_after_self a; after = λ k c e. absurd cc; is = inl refl }

  pub found_in : (found : Option At) (first : ℕ) (ds : List (Done O)) → Found found first (fault_at tells ds) (least_fault tells found first ds)
  found_in found first [] = nothing_found found first
  found_in found first (d ∷ ds) =
      found_with d ds found (least_fault tells found first (d ∷ ds)) first (tells d.out) refl (found_in (least_with found (tells d.out) first) (first + 1) ds)

  found_is_least : (ds : List (Done O)) (r : Option At) → Found None 0 (fault_at tells ds) r → IsLeastFault (fault_at tells ds) r
  found_is_least ds None h = h.1
  found_is_least ds (Some a) h = (
    elim h.is as (λ _. fault_at tells ds a.piece ≡ Some a.clause) [
      | inl e ↦ absurd cc
      | inr (k, e, i) ↦ let same : k ≡ a.piece = omega (arith, e) in subst (λ (p : ℕ). fault_at tells ds p ≡ Some a.clause) same i
    ],
    λ p c e. let same : 0 + p ≡ p = omega arith in subst (λ (q : ℕ). NotAfter a (record { clause = c; piece = q })) same (h.after p c e),
  )

pub least_fault_stands_lem : (O : Type 0) → LeastFaultStands O
least_fault_stands_lem O tells done = found_is_least tells done (least_fault tells None 0 done) (found_in tells None 0 done)
