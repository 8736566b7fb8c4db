-- The lesser of two places comes after neither.
use Rattle.std.proofs.Common.{◌≡◌, ◌<◌, ◌≤◌, ◌==◌, ℕ, Bool, true, false, Option, None, Some, nat_lt, if◌then◌else◌, IfSome, refl, ap, ◌∙◌, inl, inr, arith}
use Rattle.std.proofs.lemmas.Bool.Decides.{nat_tests}
use Rattle.fault_merge.specs.declared.at.At.{At}
use Rattle.fault_merge.specs.Places.{NotAfter, is_before, least_of}
use Rattle.fault_merge.specs.Laws.{LeastFaultIsOne}

pub not_after_self : (a : At) → NotAfter a a
not_after_self a = inr (refl, omega arith)

pub not_after_trans : (a b c : At) → NotAfter a b → NotAfter b c → NotAfter a c
not_after_trans a b c (inl h) (inl k) = inl (omega arith)
not_after_trans a b c (inl h) (inr k) = inl (omega (arith, k.0))
not_after_trans a b c (inr h) (inl k) = inl (omega (arith, h.0))
not_after_trans a b c (inr h) (inr k) = inr (h.0 ∙ k.0, omega (arith, h.1, k.1))

not_before : (a b : At) (t : Bool) → (b.clause == a.clause) ≡ t → (if t then nat_lt b.piece a.piece else nat_lt b.clause a.clause) ≡ false → NotAfter a b
not_before a b true e h =
    let same : a.clause ≡ b.clause = grind (arith, nat_tests) in
    let le : a.piece ≤ b.piece = grind (arith, nat_tests) in
    inr (same, le)
not_before a b false e h =
    let lt : a.clause < b.clause = grind (arith, nat_tests) in inl lt

is_not_after : (a b : At) (t : Bool) → (b.clause == a.clause) ≡ t → (if t then nat_lt b.piece a.piece else nat_lt b.clause a.clause) ≡ true → NotAfter b a
is_not_after a b true e h =
    let same : b.clause ≡ a.clause = grind (arith, nat_tests) in
    let le : b.piece ≤ a.piece = grind (arith, nat_tests) in
    inr (same, le)
is_not_after a b false e h =
    let lt : b.clause < a.clause = grind (arith, nat_tests) in inl lt

chosen : (a b : At) (t : Bool) → is_before b a ≡ t → NotAfter (if t then b else a) b × NotAfter (if t then b else a) a
chosen a b true e = (not_after_self b, is_not_after a b (b.clause == a.clause) refl e)
chosen a b false e = (not_before a b (b.clause == a.clause) refl e, not_after_self a)

pub least_first : (a : Option At) (b : At) → NotAfter (least_of a b) b × IfSome a (NotAfter (least_of a b))
least_first None b = (not_after_self b, tt)
least_first (Some a) b = chosen a b (is_before b a) refl

same_at : (c d p q : ℕ) → c ≡ d → p ≡ q → (let a : At = record { clause = c; piece = p } in let b : At = record { clause = d; piece = q } in a ≡ b)
same_at c d p q e f = rw (e, f) refl

-- two places of which neither comes after the other are one
same_place : (a b : At) → NotAfter a b → NotAfter b a → a ≡ b
same_place a b (inl h) (inl k) = absurd (omega arith)
same_place a b (inl h) (inr k) = absurd (omega (arith, k.0))
same_place a b (inr h) (inl k) = absurd (omega (arith, h.0))
same_place a b (inr h) (inr k) = same_at a.clause b.clause a.piece b.piece h.0 (omega (arith, h.1, k.1))

pub least_fault_is_one_lem : LeastFaultIsOne
least_fault_is_one_lem f None None h k = refl
least_fault_is_one_lem f None (Some b) h k = absurd (let e = h b.piece in let i = k.0 in cc)
least_fault_is_one_lem f (Some a) None h k = absurd (let e = k a.piece in let i = h.0 in cc)
least_fault_is_one_lem f (Some a) (Some b) h k =
    ap (λ (w : At). Some w) (same_place a b (h.1 b.piece b.clause k.0) (k.1 a.piece a.clause h.0))
