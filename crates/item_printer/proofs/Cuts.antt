-- A text that is cut off in one of its parts is cut off.
use Rattle.std.proofs.Common.{◌≡◌, ℕ, ◌+◌, List, [], ◌∷◌, ◌++◌, length, take, drop, refl, sym, ap, ◌∙◌, append_assoc, append-nil}
use Rattle.std.proofs.Math.Seq.{take-append-add, take-append_seam}
use Rattle.std.proofs.lemmas.List.{take-append-drop}
use Rattle.item_printer.specs.Cut.{IsCut}

front : (k : ℕ) (a b : List ℕ) → take (length (take k a)) (a ++ b) ≡ take k a
front k a b =
    ap (λ l. take (length (take k a)) l) (ap (λ l. l ++ b) (sym (take-append-drop k a)) ∙ append_assoc (take k a) (drop k a) b)
    ∙ take-append_seam (take k a) (drop k a ++ b)

pub cut_first : (a b old new : List ℕ) → IsCut a old new → IsCut (a ++ b) old new
cut_first a b old new c = record {
  kept = length (take c.kept a);
  is = c.is ∙ ap (λ l. old ++ l) (sym (front c.kept a b));
}

pub cut_behind : (a b old mid new : List ℕ) → mid ≡ old ++ a → IsCut b mid new → IsCut (a ++ b) old new
cut_behind a b old mid new e c = record {
  kept = length a + c.kept;
  is = c.is ∙ ap (λ l. l ++ take c.kept b) e ∙ append_assoc old a (take c.kept b) ∙ ap (λ l. old ++ l) (sym (take-append-add a b c.kept));
}

-- the same of a byte and the text behind it
pub cut_head : (x : ℕ) (b old new : List ℕ) → IsCut (x ∷ []) old new → IsCut (x ∷ b) old new
cut_head x b old new c = cut_first (x ∷ []) b old new c

pub cut_tail : (x : ℕ) (b old mid new : List ℕ) → mid ≡ old ++ x ∷ [] → IsCut b mid new → IsCut (x ∷ b) old new
cut_tail x b old mid new e c = cut_behind (x ∷ []) b old mid new e c

pub ruleset cuts = (cut_first, cut_behind, cut_head, cut_tail)

-- so far the new bytes are the old ones and the text without what is left of it
pub record Partway (text left old new : List ℕ) : Type 0 where
  pub done : List ℕ
  pub are : new ≡ old ++ done
  pub whole : text ≡ done ++ left

pub starts : (text old : List ℕ) → Partway text text old old
starts text old = record { done = []; are = sym (append-nil old); whole = refl }

pub goes_on : (text part left old mid new : List ℕ) → Partway text (part ++ left) old mid → new ≡ mid ++ part → Partway text left old new
goes_on text part left old mid new p e = record {
  done = p.done ++ part;
  are = e ∙ ap (λ l. l ++ part) p.are ∙ append_assoc old p.done part;
  whole = p.whole ∙ sym (append_assoc p.done part left);
}

pub ends : (text left old mid new : List ℕ) → Partway text left old mid → new ≡ mid ++ left → new ≡ old ++ text
ends text left old mid new p e = e ∙ ap (λ l. l ++ left) p.are ∙ append_assoc old p.done left ∙ ap (λ l. old ++ l) (sym p.whole)

pub stops : (text left old mid new : List ℕ) → Partway text left old mid → IsCut left mid new → IsCut text old new
stops text left old mid new p c = rw p.whole (cut_behind p.done left old mid new p.are c)

pub stops_in : (text part left old mid new : List ℕ) → Partway text (part ++ left) old mid → IsCut part mid new → IsCut text old new
stops_in text part left old mid new p c = stops text (part ++ left) old mid new p (cut_first part left mid new c)
