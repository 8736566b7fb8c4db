-- What all values of a part have, by the ways to combine parts.
use Rattle.std.proofs.Common.{inl, inr, Bool, List, [], ◌∷◌, Option, Some, None, sym, subst}
use Rattle.grammar_parts.specs.Parts.{NothingWhole, OnlyWhole, MappedWhole, SeqWhole, LongWhole, AltWhole, ManyWhole, Repeats, NoneWhole, none}
use Rattle.query_grammar.specs.declared.word.Word.{Word}
use Rattle.query_grammar.specs.declared.word.Kind.{Kind}
use Rattle.query_grammar.specs.Languages.{Lang, tok, only, mapped, seq, long, alt, opt, many, before, behind, from}
use Rattle.query_grammar.specs.Laws.{Each}

-- each value that a list of words derives has the property
pub record Keeps {A : Type 0} (P : A → Type 0) (part : Lang A) : Type 0 where
  pub of : (l : List Word) (x : A) → part.whole l x → P x

abbrev pub Anything : {A : Type 0} → A → Type 0
Anything x = Unit {0}

pub any : {A : Type 0} {part : Lang A} → Keeps Anything part
any = record { of = λ l x w. tt }

abbrev pub IfAny : {A : Type 0} → (A → Type 0) → Option A → Type 0
IfAny P None = Unit {0}
IfAny P (Some x) = P x

module _ {A : Type 0} {P : A → Type 0} where
  pub none_keeps : Keeps P none
  unfolding NoneWhole
  none_keeps = record { of = λ l x w. absurd w }

  pub only_keeps : {part : Lang A} (allowed : Bool) → Keeps P part → Keeps P (only allowed part)
  unfolding OnlyWhole
  only_keeps allowed k = record { of = λ l x w. k.of l x w.1 }

  pub alt_keeps : {a b : Lang A} (c : Kind → Bool) → Keeps P a → Keeps P b → Keeps P (alt c a b)
  unfolding AltWhole
  alt_keeps c k k2 = record { of = λ l x w. elim w [ inl h ↦ k.of l x h | inr h ↦ k2.of l x h ] }

  repeats_keep : {part : Lang A} → Keeps P part → (l : List Word) (xs : List A) → Repeats part.whole l xs → Each P xs
  repeats_keep k l [] w = tt
  repeats_keep k l (x ∷ xs) w = (k.of w.0 x w.3, repeats_keep k w.1 xs w.4)

  pub many_keeps : {part : Lang A} (c : Kind → Bool) → Keeps P part → Keeps (Each P) (many c part)
  unfolding ManyWhole
  many_keeps c k = record { of = λ l xs w. repeats_keep k l xs w }

module _ {A B : Type 0} {P : A → Type 0} {Q : B → Type 0} where
  pub mapped_keeps : {part : Lang A} (f : A → B) → ((x : A) → P x → Q (f x)) → Keeps P part → Keeps Q (mapped f part)
  unfolding MappedWhole
  mapped_keeps f h k = record { of = λ l y w. subst Q (sym w.2) (h w.0 (k.of l w.0 w.1)) }

  pub seq_keeps : {a : Lang A} {b : Lang B} → Keeps P a → Keeps Q b → Keeps (λ z. P z.0 × Q z.1) (seq a b)
  unfolding SeqWhole
  seq_keeps k k2 = record { of = λ l z w. (k.of w.0 z.0 w.3, k2.of w.1 z.1 w.4) }

module _ {A B : Type 0} {P : A → Type 0} where
  pub first_keeps : {a : Lang A} (b : Lang B) → Keeps P a → Keeps (λ z. P z.0) (seq a b)
  unfolding SeqWhole
  first_keeps b k = record { of = λ l z w. k.of w.0 z.0 w.3 }

  pub long_keeps : {a : Lang A} (b : Lang B) → Keeps P a → Keeps (λ z. P z.0) (long a b)
  unfolding LongWhole
  long_keeps b k = record { of = λ l z w. k.of w.0 z.0 w.3 }

  pub second_keeps : (a : Lang B) {b : Lang A} → Keeps P b → Keeps (λ z. P z.1) (seq a b)
  unfolding SeqWhole
  second_keeps a k = record { of = λ l z w. k.of w.1 z.1 w.4 }

module _ {A : Type 0} {P : A → Type 0} {part : Lang A} where
  pub opt_keeps : (c : Kind → Bool) → Keeps P part → Keeps (IfAny P) (opt c part)
  unfolding NothingWhole
  opt_keeps c k = alt_keeps c (mapped_keeps (λ x. Some x) (λ x h. h) k) (record { of = λ l x w. subst (IfAny P) (sym w.1) tt })

  pub before_keeps : (kind : Kind) → Keeps P part → Keeps P (before kind part)
  before_keeps kind k = mapped_keeps (λ z. z.1) (λ z h. h) (second_keeps (tok kind) k)

  pub behind_keeps : (kind : Kind) → Keeps P part → Keeps P (behind part kind)
  behind_keeps kind k = mapped_keeps (λ z. z.0) (λ z h. h) (first_keeps (tok kind) k)

  pub from_keeps : (kind : Kind) → Keeps P part → Keeps (λ z. P z.1) (from kind part)
  from_keeps kind k = mapped_keeps (λ z. (z.0.place, z.1)) (λ z h. h) (second_keeps (tok kind) k)
