-- A limit that is enough lies above the clauses whose faults it must tell.
use Rattle.std.proofs.Common.{◌≡◌, ◌<◌, ◌≤◌, ℕ, zero, suc, Bool, true, false, nat_lt, nat_le, if◌then◌else◌, refl, inl, inr, arith}
use Rattle.std.proofs.lemmas.Bool.Decides.{nat_tests}
use Rattle.fault_merge.specs.declared.at.At.{At}
use Rattle.fault_merge.specs.Places.{NotAfter}
use Rattle.fault_merge.specs.Laws.{EnoughReaches}

reached : (limit piece : ℕ) (a : At) (t : Bool) → nat_le piece a.piece ≡ t → (if t then nat_lt a.clause limit else nat_le a.clause limit) ≡ true
    → (clause : ℕ) → NotAfter (record { clause = clause; piece = piece }) a → clause < limit
reached limit piece a true e h clause (inl lt) = let below : a.clause < limit = grind (arith, nat_tests) in omega arith
reached limit piece a true e h clause (inr k) = let below : a.clause < limit = grind (arith, nat_tests) in omega (arith, k.0)
reached limit piece a false e h clause (inl lt) = let below : a.clause ≤ limit = grind (arith, nat_tests) in omega arith
reached limit piece a false e h clause (inr k) = absurd (let le = k.1 in grind (arith, nat_tests))

below_reach : (limit clause : ℕ) → ((c : ℕ) → c < clause → c < limit) → clause ≤ limit
below_reach limit zero h = omega arith
below_reach limit (suc c) h = let lt = h c (omega arith) in omega (arith, lt)

reaching : (limit piece : ℕ) (a : At) (t : Bool) → nat_le piece a.piece ≡ t → ((clause : ℕ) → NotAfter (record { clause = clause; piece = piece }) a → clause < limit)
    → (if t then nat_lt a.clause limit else nat_le a.clause limit) ≡ true
reaching limit piece a true e h =
    let le : piece ≤ a.piece = grind (arith, nat_tests) in
    let lt = h a.clause (inr (refl, le)) in
    grind (arith, nat_tests)
reaching limit piece a false e h =
    let le = below_reach limit a.clause (λ c lt. h c (inl lt)) in
    grind (arith, nat_tests)

pub enough_reaches_lem : EnoughReaches
enough_reaches_lem limit piece full a =
    (reached limit piece a (nat_le piece a.piece) refl, reaching limit piece a (nat_le piece a.piece) refl)
