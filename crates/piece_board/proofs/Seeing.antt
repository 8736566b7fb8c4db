-- What a pass over the log finds of each piece.
use Rattle.std.proofs.Common.{◌≡◌, ◌<◌, ◌+◌, ◌==◌, ◌⊎◌, ℕ, zero, suc, Bool, true, false, if◌then◌else◌, List, [], ◌∷◌, ◌++◌, length, slice_get, slice_set, slice_index_or, Option, None, Some, refl, ap, ◌∙◌, sym, subst, inl, inr, arith, All}
use Rattle.std.proofs.lemmas.Bool.Decides.{nat_tests}
use Rattle.std.proofs.lemmas.List.{append-nil}
use Rattle.std.proofs.lemmas.Option.{slice_get-get_or, slice_get_within, get_or_from_slice_get, slice_get_read}
use Rattle.std.proofs.lemmas.List.Sorted.{All-permutation}
use Rattle.std.specs.List.Sorted.{IsPermutation}
use borrow.Author.Count.{below_more}
use Rattle.std.specs.Option.{option_to_list, is_some}
use Rattle.piece_board.specs.Boards.{Logged, Replays}
use Rattle.board_core.specs.declared.state.CoreState.{CoreState}
use Rattle.board_core.specs.declared.event.CoreEvent.{CoreEvent}
use Rattle.board_core.specs.declared.event.CoreEvent.TheVariants.{Took, Told}
use Rattle.board_core.specs.Core.{replay, opening}
use Rattle.fault_merge.specs.declared.done.Done.{Done}
use Rattle.piece_board.specs.declared.settle.Seen.{Seen}
use Rattle.piece_board.specs.Whole.{IsWhole}
use Rattle.board_core.specs.Schedules.{limits_of, tells_of}
use Rattle.piece_board.specs.inside.Slots.{IsGood}
use Rattle.piece_board.specs.inside.Seen.{IsSeen, AllSeen, Agrees, AllAgree}
use Rattle.piece_board.proofs.InOrder.{limits_of-append, tells_of-append}

-- what stands at a place of a list after a write
pub slice_get-set : {X : Type 0} (xs : List X) (i : ℕ) (v : X) (p : ℕ) (x : X) → slice_get (slice_set xs i v) p ≡ Some x
    → ((p ≡ i) × (x ≡ v)) ⊎ ((p ≡ i → ⊥) × (slice_get xs p ≡ Some x))
slice_get-set [] i v p x e = absurd cc
slice_get-set (y ∷ ys) zero v zero x e = inl (refl, cc)
slice_get-set (y ∷ ys) zero v (suc p) x e = inr (λ q. omega (arith, q), e)
slice_get-set (y ∷ ys) (suc i) v zero x e = inr (λ q. omega (arith, q), e)
slice_get-set (y ∷ ys) (suc i) v (suc p) x e =
    elim (slice_get-set ys i v p x e) as (λ _. ((suc p ≡ suc i) × (x ≡ v)) ⊎ ((suc p ≡ suc i → ⊥) × (slice_get ys p ≡ Some x)))
    [ inl h ↦ inl (ap suc h.0, h.1) | inr h ↦ inr (λ q. h.0 (omega (arith, q)), h.1) ]

-- the lists of a piece after one more event
limits_took : (p : ℕ) (es : List CoreEvent) (i l : ℕ) → limits_of p (es ++ Took i l ∷ []) ≡ limits_of p es ++ (if i == p then l ∷ [] else [])
limits_took p es i l = limits_of-append p es (Took i l ∷ [])

tells_told : (p : ℕ) (es : List CoreEvent) (k i : ℕ) → tells_of p (es ++ Told k i ∷ []) ≡ tells_of p es ++ (if i == p then k ∷ [] else [])
tells_told p es k i = tells_of-append p es (Told k i ∷ [])

here : (i : ℕ) → (i == i) ≡ true
here i = grind (arith, nat_tests)

elsewhere : (i p : ℕ) → (p ≡ i → ⊥) → (i == p) ≡ false
elsewhere i p ne = grind (arith, nat_tests)

pub see_took : (xs : List Seen) (es : List CoreEvent) (i l : ℕ) (old : Seen) → AllSeen xs es → slice_get xs i ≡ Some old → old.limit ≡ None
    → AllSeen (slice_set xs i (record { limit = Some l; clause = old.clause })) (es ++ Took i l ∷ [])
see_took xs es i l old all at none p x e =
    let new : Seen = record { limit = Some l; clause = old.clause } in
    let es2 = es ++ Took i l ∷ [] in
    let was = all i old at in
    let mine : IsSeen i es2 new = record {
      taken = limits_took i es i l ∙ rw (was.taken, none, here i) refl;
      told = tells_of-append i es (Took i l ∷ []) ∙ append-nil (tells_of i es) ∙ was.told;
    } in
    elim (slice_get-set xs i new p x e) as (λ _. IsSeen p es2 x) [
      | inl h ↦ subst (λ (q : ℕ). IsSeen q es2 x) (sym h.0) (subst (λ (y : Seen). IsSeen i es2 y) (sym h.1) mine)
      | inr h ↦
          let it = all p x h.1 in
          record {
            taken = limits_took p es i l ∙ rw (elsewhere i p h.0) (append-nil (limits_of p es) ∙ it.taken);
            told = tells_of-append p es (Took i l ∷ []) ∙ append-nil (tells_of p es) ∙ it.told;
          }
    ]

pub see_told : (xs : List Seen) (es : List CoreEvent) (i k : ℕ) (old : Seen) → AllSeen xs es → slice_get xs i ≡ Some old → old.clause ≡ None
    → AllSeen (slice_set xs i (record { limit = old.limit; clause = Some k })) (es ++ Told k i ∷ [])
see_told xs es i k old all at none p x e =
    let new : Seen = record { limit = old.limit; clause = Some k } in
    let es2 = es ++ Told k i ∷ [] in
    let was = all i old at in
    let mine : IsSeen i es2 new = record {
      taken = limits_of-append i es (Told k i ∷ []) ∙ append-nil (limits_of i es) ∙ was.taken;
      told = tells_told i es k i ∙ rw (was.told, none, here i) refl;
    } in
    elim (slice_get-set xs i new p x e) as (λ _. IsSeen p es2 x) [
      | inl h ↦ subst (λ (q : ℕ). IsSeen q es2 x) (sym h.0) (subst (λ (y : Seen). IsSeen i es2 y) (sym h.1) mine)
      | inr h ↦
          let it = all p x h.1 in
          record {
            taken = limits_of-append p es (Told k i ∷ []) ∙ append-nil (limits_of p es) ∙ it.taken;
            told = tells_told p es k i ∙ rw (elsewhere i p h.0) (append-nil (tells_of p es) ∙ it.told);
          }
    ]

-- a list of blanks has seen nothing
pub see_nothing : (xs : List Seen) → All (λ x. (x.limit ≡ None) × (x.clause ≡ None)) xs → AllSeen xs []
see_nothing xs all p x e =
    let at : slice_index_or xs p x ≡ x = get_or_from_slice_get xs p x x e in
    let h : (x.limit ≡ None) × (x.clause ≡ None) = let P : Seen → Type 0 = λ y. (y.limit ≡ None) × (y.clause ≡ None) in subst P at (all p x (slice_get_within xs p x e)) in
    record { taken = rw (h.0) refl; told = rw (h.1) refl }

pub settled : {O : Type 0} (tells : O → Option ℕ) (good : ℕ → ℕ → O → Type 0) (total full : ℕ) (ds : List (Done O)) (xs : List Seen) (es : List CoreEvent) (s : CoreState)
    → All (IsGood good) ds → length ds ≡ total → length xs ≡ total → AllSeen xs es → AllAgree tells xs ds (length xs)
    → replay (Some (opening total full)) es ≡ Some s → s.next ≡ total → s.stopped ≡ false → IsWhole tells good total full ds es
settled {O = O} tells good total full ds xs es s all_good nd nx seen agree r takes going =
    record {
      count = nd;
      each = λ p d e.
          let within : p < length ds = slice_get_within ds p d e in
          let blank : Seen = record { limit = None; clause = None } in
          let x : Seen = slice_index_or xs p blank in
          let at : slice_get xs p ≡ Some x = slice_get-get_or xs p blank (omega arith) in
          let a = agree p (omega arith) x d at e in
          let v = seen p x at in
          let good_d : IsGood good d = subst (IsGood good) (get_or_from_slice_get ds p d d e) (all_good p d within) in
          record {
            here = a.here;
            is_good = subst (λ (q : ℕ). good q d.limit d.out) a.here good_d;
            taken = v.taken ∙ ap option_to_list a.limit;
            told = v.told ∙ ap option_to_list a.clause;
          };
      ends = record { state = s; replays = r; takes_all = takes; going = going };
    }

none_is : {X : Type 0} (o : Option X) → is_some o ≡ false → o ≡ None
none_is None e = refl
none_is (Some x) e = absurd cc

-- the same two, as the code gives their parts
pub see_took_at : (xs : List Seen) (n i l : ℕ) (old : Seen) (t : Bool) → n ≡ length xs → i < n → old ≡ slice_index_or xs i old → t ≡ is_some old.limit → t ≡ false
    → (es : List CoreEvent) → AllSeen xs es → AllSeen (slice_set xs i (record { limit = Some l; clause = old.clause })) (es ++ Took i l ∷ [])
see_took_at xs n i l old t len lt at test absent es all =
    see_took xs es i l old all (slice_get_read xs n i old len lt at) (none_is old.limit (sym test ∙ absent))

pub see_told_at : (xs : List Seen) (n i k : ℕ) (old : Seen) (t : Bool) → n ≡ length xs → i < n → old ≡ slice_index_or xs i old → t ≡ is_some old.clause → t ≡ false
    → (es : List CoreEvent) → AllSeen xs es → AllSeen (slice_set xs i (record { limit = old.limit; clause = Some k })) (es ++ Told k i ∷ [])
see_told_at xs n i k old t len lt at test absent es all =
    see_told xs es i k old all (slice_get_read xs n i old len lt at) (none_is old.clause (sym test ∙ absent))

pub agree_more : {O : Type 0} (tells : O → Option ℕ) (xs : List Seen) (ds : List (Done O)) (at : ℕ) (blank : Seen) (r : Done O)
    → AllAgree tells xs ds at → Agrees tells at (slice_index_or xs at blank) r → r ≡ slice_index_or ds at r → AllAgree tells xs ds (at + 1)
agree_more {O = O} tells xs ds at blank r below a is =
    below_more (λ p. (x : Seen) (d : Done O) → slice_get xs p ≡ Some x → slice_get ds p ≡ Some d → Agrees tells p x d) at below
    (λ x d ex ed.
    let same_x : slice_index_or xs at blank ≡ x = get_or_from_slice_get xs at x blank ex in
    let same_d : r ≡ d = is ∙ get_or_from_slice_get ds at d r ed in
    subst (λ (y : Seen). Agrees tells at y d) same_x (subst (λ (e : Done O). Agrees tells at (slice_index_or xs at blank) e) same_d a))

pub settled_board : {O : Type 0} (tells : O → Option ℕ) (good : ℕ → ℕ → O → Type 0) (total full : ℕ) (ds0 ds : List (Done O)) (xs : List Seen) (es : List CoreEvent) (b : Logged) (s : CoreState)
    → Replays b → s ≡ b.state → es ≡ b.log → s.total ≡ total → s.full ≡ full → s.next ≡ total → s.stopped ≡ false
    → All (IsGood good) ds0 → IsPermutation ds0 ds → length ds ≡ total → length xs ≡ total → AllSeen xs es → AllAgree tells xs ds (length xs)
    → IsWhole tells good total full ds es
settled_board tells good total full ds0 ds xs es b s replays is_s is_es st sf sn ss all_good perm nd nx seen agree =
    let r : replay (Some (opening b.state.total b.state.full)) es ≡ Some b.state = rw is_es replays in
    let P : CoreState → Type 0 = λ u. replay (Some (opening u.total u.full)) es ≡ Some u in
    let r2 : P s = subst P (sym is_s) r in
    let r3 : replay (Some (opening total full)) es ≡ Some s = rw (← st, ← sf) r2 in
    settled tells good total full ds xs es s (All-permutation (IsGood good) ds0 ds perm all_good) nd nx seen agree r3 sn ss
