-- Whole queries: what is read of their words, and where they are refused. For other crates too.
use Rattle.std.proofs.Common.{◌≡◌, ◌⊎◌, inl, inr, ◌≤◌, ◌==◌, ◌-◌, ◌+◌, ℕ, zero, suc, Bool, true, false, List, [], ◌∷◌, ◌++◌, length, take, slice_index_or, Option, Some, None, refl, sym, ap, subst, ◌∙◌, append_assoc, MatchBool, arith}
use Rattle.std.specs.Prelude.{Ok, Err}
use Rattle.std.proofs.lemmas.Bool.{eqb-true}
use Rattle.item_tree.specs.declared.code.Code.{Code}
use Rattle.item_tree.specs.declared.code.Code.TheVariants as c
use Rattle.grammar_parts.specs.Tokens.{Class}
use Rattle.grammar_parts.specs.Parts.{Part}
use Rattle.grammar_parts.specs.Readers.{Outcome}
use Rattle.grammar_parts.specs.Good.{Good}
use Rattle.grammar_parts.specs.Refusals.{Reached, outcome_of}
use Rattle.grammar_parts.proofs.Depth.{Same}
use Rattle.grammar_parts.specs.Levels.{mode_at, has_room, level}
use Rattle.grammar_parts.proofs.Levels.{Ground, levels-good, levels-same}
use Rattle.grammar_parts.proofs.WholeTexts as whole
use Rattle.query_grammar.specs.declared.word.Word.{Word}
use Rattle.query_grammar.specs.declared.word.Kind.{Kind}
use Rattle.query_grammar.specs.declared.part.Part.{Part as Name}
use Rattle.query_grammar.specs.Nodes.{Tree, Module}
use Rattle.query_grammar.specs.Grammar.{forms}
use Rattle.query_grammar.specs.Texts.{part_of, query, max_nesting, Derives, BeginsWithoutBound, IsCodeOf, IsRefusedAt, IsRefusedAtEnd, IsRefused}
use Rattle.query_grammar.specs.Laws.{HasOneTree, IsDecided, HasOneRefusal}
use Rattle.query_grammar.proofs.Productions.{language, sets, forms-law, module_part-inside}

-- where a module stands: over two levels of parts that so many forms may nest in, which are the same on at most k words
abbrev pub module_ground : Bool → (k n n2 : ℕ) → k ≤ n → k ≤ n2 → Ground Word Kind Name Tree language sets
module_ground wide k n n2 h h2 = record {
  mode = mode_at wide (suc n);
  room_in2 = has_room n2;
  outer = k;
  within = k;
  one_less = omega arith;
  parts = level forms wide n;
  parts2 = level forms wide n2;
  laws = λ room i. record { good = levels-good language sets forms forms-law wide n i; same = levels-same language sets forms forms-law wide k n n2 h h2 i };
}

-- a part with the laws of its reader, whatever its sets are
pub record IsLawful (g : Part Word Module) : Type 0 where
  pub first : Class Word
  pub ext : Class Word
  pub good : Good g first ext false

pub module-lawful : (wide : Bool) (n : ℕ) → IsLawful (part_of wide n)
module-lawful wide n = record {
  first = _;
  ext = _;
  good = (module_part-inside (module_ground wide zero n n (omega arith) (omega arith)) refl).good;
}

-- on at most k words all levels from k on are the same
pub module-same : (wide : Bool) (k n n2 : ℕ) → k ≤ n → k ≤ n2 → Same k (part_of wide n) (part_of wide n2)
module-same wide k n n2 h h2 = (module_part-inside (module_ground wide k n n2 h h2) refl).same

abbrev sets_of : IsLawful query
sets_of = module-lawful false max_nesting

pub one_tree : (s : List Word) → HasOneTree s
one_tree s x y v w = whole.one_value query sets_of.first sets_of.ext false sets_of.good s x y v w

-- ---- what one reading tells

nil_by : (r : List Word) → (length r == 0) ≡ true → r ≡ []
nil_by [] e = refl
nil_by (t ∷ r) e = (let n = eqb-true (suc (length r)) 0 e in absurd (omega arith))

module _ {R : Type 0} (view : R → Module) (s r : List Word) (o : Option R) (e : query.read s ≡ outcome_of view o r) where
  -- it stops behind the longest beginning
  pub reached : Reached query s r
  reached = whole.reached query sets_of.first sets_of.ext false sets_of.good view s o r e

  read_whole : (x : R) → o ≡ Some x → (length r == 0) ≡ true → query.read s ≡ Ok (view x, [])
  read_whole x q z = let n = nil_by r z in e ∙ rw (q, n) refl

  -- a tree with nothing left is derived, and it alone
  pub found : (x : R) → o ≡ Some x → (length r == 0) ≡ true → Derives s (view x)
  found x q z = whole.is_whole query sets_of.first sets_of.ext false sets_of.good s (view x) (read_whole x q z)

  pub found_only : (x : R) (y : Module) → o ≡ Some x → (length r == 0) ≡ true → Derives s y → view x ≡ y
  found_only x y q z w = one_tree s (view x) y (found x q z) w

  -- without a tree nothing is derived
  pub stopped : o ≡ None → (y : Module) → Derives s y → ⊥
  stopped q y w = whole.not_whole_err query sets_of.first sets_of.ext false sets_of.good s r (e ∙ rw q refl) y w

-- nor with a tree that leaves something
pub left_over : {R : Type 0} (view : R → Module) (s r : List Word) (o : Option R) → query.read s ≡ outcome_of view o r → (x : R) → o ≡ Some x → (length r == 0) ≡ false → (y : Module) → Derives s y → ⊥
left_over view s [] o e x q z y w = cc
left_over view s (t ∷ r) o e x q z y w = whole.not_whole_rest query sets_of.first sets_of.ext false sets_of.good s (view x) t r (e ∙ rw q refl) y w

-- With as many forms as there are words, nothing is left exactly where they begin a module without a bound.
pub begins_test : {R : Type 0} (view : R → Module) (wide : Bool) (s r : List Word) (o : Option R) → (part_of wide (length s)).read s ≡ outcome_of view o r → MatchBool (length r == 0) (BeginsWithoutBound wide s) (BeginsWithoutBound wide s → ⊥)
begins_test view wide s r o e =
    whole.unbounded_test (part_of wide) (λ n. (module-lawful wide n).first) (λ n. (module-lawful wide n).ext) false (λ n. (module-lawful wide n).good) (module-same wide) s view o r e

-- ---- where the words are refused

refused_there : (s : List Word) (t : Word) (r : List Word) (end : ℕ) (code : Code) → ((y : Module) → Derives s y → ⊥) → (k : Reached query s (t ∷ r)) → IsCodeOf code (k.front ++ t ∷ []) → IsRefused s end code t.place
refused_there s t r end code none k h = record {
  derives_none = none;
  place_is = inl (record {
    front = k.front;
    word = t;
    rest = r;
    refused = whole.refused_at query sets_of.first sets_of.ext false sets_of.good s t r k;
    at = refl;
    is_code = h;
  });
}

pub refused_at : (s r : List Word) (end : ℕ) (code : Code) (d : Word) → ((y : Module) → Derives s y → ⊥) → Reached query s r → 1 ≤ length r → IsCodeOf code (take (length s - length r + 1) s) → IsRefused s end code (slice_index_or r 0 d).place
refused_at s [] end code d none k n h = absurd (omega arith)
refused_at s (t ∷ r) end code d none k n h = refused_there s t r end code none k (subst (IsCodeOf code) (whole.up_to s k.front t r k.parts) h)

pub refused_at_end : (s : List Word) (end : ℕ) → ((y : Module) → Derives s y → ⊥) → Reached query s [] → IsRefused s end c.XPST0003 end
refused_at_end s end none k = record {
  derives_none = none;
  place_is = inr (record { begins = whole.begins_all query sets_of.first sets_of.ext false sets_of.good s k; at = refl; is_code = refl });
}

-- ---- there is a tree or a refusal

by_test : {A : Type 0} (b : Bool) → MatchBool b A (A → ⊥) → A ⊎ (A → ⊥)
by_test true h = inl h
by_test false h = inr h

outcome : (out : Outcome Word Module) → (o : Option Module) × (r : List Word) × (out ≡ outcome_of (λ t. t) o r)
outcome (Ok x) = (Some x.0, x.1, refl)
outcome (Err r) = (None, r, refl)

begins_or_not : (wide : Bool) (s : List Word) → BeginsWithoutBound wide s ⊎ (BeginsWithoutBound wide s → ⊥)
begins_or_not wide s = let (o, r, e) = outcome ((part_of wide (length s)).read s) in by_test (length r == 0) (begins_test (λ t. t) wide s r o e)

code_for : (s : List Word) → (code : Code) × IsCodeOf code s
code_for s = elim (begins_or_not false s) [
  | inl h ↦ (c.PJST0003, inl (refl, h))
  | inr h ↦ elim (begins_or_not true s) [
    | inl k ↦ (c.PJST0001, inr (inl (refl, h, k)))
    | inr k ↦ (c.XPST0003, inr (inr (refl, h, k)))
  ]
]

refused : (s r : List Word) (end : ℕ) → ((y : Module) → Derives s y → ⊥) → Reached query s r → (code : Code) × (place : ℕ) × IsRefused s end code place
refused s [] end none k = (c.XPST0003, end, refused_at_end s end none k)
refused s (t ∷ r) end none k = let (code, h) = code_for (k.front ++ t ∷ []) in (code, t.place, refused_there s t r end code none k h)

decided_by : (s : List Word) (end : ℕ) (o : Option Module) (r : List Word) → query.read s ≡ outcome_of (λ t. t) o r → ((tree : Module) × Derives s tree) ⊎ ((code : Code) × (place : ℕ) × IsRefused s end code place)
decided_by s end (Some x) [] e = inl (x, found (λ t. t) s [] (Some x) e x refl refl)
decided_by s end (Some x) (t ∷ r) e = inr (refused s (t ∷ r) end (whole.not_whole_rest query sets_of.first sets_of.ext false sets_of.good s x t r e) (reached (λ t. t) s (t ∷ r) (Some x) e))
decided_by s end None r e = inr (refused s r end (stopped (λ t. t) s r None e refl) (reached (λ t. t) s r None e))

pub decided : (s : List Word) (end : ℕ) → IsDecided s end
decided s end = let (o, r, e) = outcome (query.read s) in decided_by s end o r e

-- ---- a refusal is one

pub one_code : (s : List Word) (code other : Code) → IsCodeOf code s → IsCodeOf other s → code ≡ other
one_code s code other (inl h) (inl k) = h.0 ∙ sym k.0
one_code s code other (inl h) (inr (inl k)) = absurd (k.1 h.1)
one_code s code other (inl h) (inr (inr k)) = absurd (k.1 h.1)
one_code s code other (inr (inl h)) (inl k) = absurd (h.1 k.1)
one_code s code other (inr (inl h)) (inr (inl k)) = h.0 ∙ sym k.0
one_code s code other (inr (inl h)) (inr (inr k)) = absurd (k.2 h.2)
one_code s code other (inr (inr h)) (inl k) = absurd (h.1 k.1)
one_code s code other (inr (inr h)) (inr (inl k)) = absurd (h.2 k.2)
one_code s code other (inr (inr h)) (inr (inr k)) = h.0 ∙ sym k.0

-- Of what is closed under beginnings, a list has one first element that ends it.
one_cut : {T : Type 0} (P : List T → Type 0) → ((u v : List T) → P (u ++ v) → P u) → (f g : List T) (t s : T) (q r : List T) → f ++ t ∷ q ≡ g ++ s ∷ r → P f → (P (f ++ t ∷ []) → ⊥) → P g → (P (g ++ s ∷ []) → ⊥) → (f ≡ g) × (t ≡ s)
one_cut P closed [] [] t s q r e a b c d = (refl, cc)
one_cut P closed [] (y ∷ g) t s q r e a b c d = let same : y ≡ t = cc in absurd (b (closed (t ∷ []) g (subst (λ x. P (x ∷ g)) same c)))
one_cut P closed (x ∷ f) [] t s q r e a b c d = let same : x ≡ s = cc in absurd (d (closed (s ∷ []) f (subst (λ y. P (y ∷ f)) same a)))
one_cut P closed (x ∷ f) (y ∷ g) t s q r e a b c d =
    let same : y ≡ x = cc in
    let rest : f ++ t ∷ q ≡ g ++ s ∷ r = cc in
    let one = one_cut (λ l. P (x ∷ l)) (λ u v. closed (x ∷ u) v) f g t s q r rest a b (subst (λ z. P (z ∷ g)) same c) (λ p. d (subst (λ z. P (z ∷ (g ++ s ∷ []))) (sym same) p)) in
    (rw (same, one.0) refl, one.1)

one_place : (s : List Word) (code other : Code) (place elsewhere : ℕ) → IsRefusedAt s code place → IsRefusedAt s other elsewhere → (code ≡ other) × (place ≡ elsewhere)
one_place s code other place elsewhere h k =
    let one = one_cut query.begun sets_of.good.closed h.front k.front h.word k.word h.rest k.rest (sym h.refused.parts ∙ k.refused.parts) h.refused.begins h.refused.first k.refused.begins k.refused.first in
    let same : h.front ++ h.word ∷ [] ≡ k.front ++ k.word ∷ [] = ap (λ f. f ++ h.word ∷ []) one.0 ∙ ap (λ w. k.front ++ w ∷ []) one.1 in
    (one_code (k.front ++ k.word ∷ []) code other (subst (IsCodeOf code) same h.is_code) k.is_code, h.at ∙ ap (λ w. w.place) one.1 ∙ sym k.at)

not_all : (s : List Word) (code : Code) (place : ℕ) → IsRefusedAt s code place → query.begun s → ⊥
not_all s code place h b =
    let seam : s ≡ (h.front ++ h.word ∷ []) ++ h.rest = h.refused.parts ∙ sym (append_assoc h.front (h.word ∷ []) h.rest) in
    h.refused.first (sets_of.good.closed (h.front ++ h.word ∷ []) h.rest (subst query.begun seam b))

one_by : (s : List Word) (end : ℕ) (code other : Code) (place elsewhere : ℕ) → IsRefusedAt s code place ⊎ IsRefusedAtEnd s end code place → IsRefusedAt s other elsewhere ⊎ IsRefusedAtEnd s end other elsewhere → (code ≡ other) × (place ≡ elsewhere)
one_by s end code other place elsewhere (inl h) (inl k) = one_place s code other place elsewhere h k
one_by s end code other place elsewhere (inl h) (inr k) = absurd (not_all s code place h k.begins)
one_by s end code other place elsewhere (inr h) (inl k) = absurd (not_all s other elsewhere k h.begins)
one_by s end code other place elsewhere (inr h) (inr k) = (h.is_code ∙ sym k.is_code, h.at ∙ sym k.at)

pub one_refusal : (s : List Word) (end : ℕ) → HasOneRefusal s end
one_refusal s end code other place elsewhere h k = one_by s end code other place elsewhere h.place_is k.place_is
