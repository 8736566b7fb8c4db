-- What a module derives where so many forms may nest.
use Rattle.std.proofs.Common.{◌≡◌, ◌≤◌, ◌⊎◌, inl, inr, ℕ, zero, suc, Bool, true, false, List, [], Ok, refl, arith}
use Rattle.grammar_parts.specs.Tokens.{never}
use Rattle.grammar_parts.specs.Levels.{has_room, level}
use Rattle.grammar_parts.proofs.Levels.{Ground}
use Rattle.grammar_parts.proofs.WholeTexts as whole
use Rattle.grammar_parts.proofs.Counts.{Counts}
use Rattle.grammar_parts.proofs.Nested.{Higher, not_shut, room_grows, levels-counts}
use Rattle.query_tree.specs.Nesting.{module_nesting}
use Rattle.query_grammar.specs.declared.word.Word.{Word}
use Rattle.query_grammar.specs.declared.word.Kind.{Kind}
use Rattle.query_grammar.specs.declared.part.Part.{Part}
use Rattle.query_grammar.specs.Nodes.{Tree, Module}
use Rattle.query_grammar.specs.Grammar.{forms}
use Rattle.query_grammar.specs.Texts.{part_of, max_nesting, DerivesWithin}
use Rattle.query_grammar.specs.Laws.{IsBoundedByNesting, HasTreesInBounds}
use Rattle.query_grammar.proofs.Depths.{tree_depth, module_depth}
use Rattle.query_grammar.proofs.Productions.{language, sets, forms-law}
use Rattle.query_grammar.proofs.Nested.{forms-counting, module_part-within}
use Rattle.query_grammar.proofs.Texts.{module_ground, module-lawful}

none_below : (n : ℕ) → zero ≤ n
none_below n = omega arith

-- where a module stands
abbrev base : Bool → ℕ → Ground Word Kind Part Tree language sets
base wide n = module_ground wide zero n n (none_below n) (none_below n)

-- a module over a level below a higher one
module_higher : (wide : Bool) (n k : ℕ) → n ≤ k → Higher tree_depth (base wide n)
module_higher wide n k h = record {
  bound = suc n;
  within = n;
  wider = record { room = true; room_in = has_room k; grows = λ e. refl; grows_in = room_grows n k h };
  parts = level forms wide k;
  bare = λ e. absurd (not_shut e);
  one_more = λ e. refl;
  counts = λ r i. levels-counts language sets forms forms-law tree_depth forms-counting wide n k h i;
}

module_counts : (wide : Bool) (n k : ℕ) → n ≤ k → Counts n module_depth (part_of wide n).read (part_of wide k).read never
unfolding module_higher
module_counts wide n k h = module_part-within (base wide n) (module_higher wide n k h) refl

read_of : (n : ℕ) (s : List Word) (t : Module) → DerivesWithin n s t → (part_of false n).read s ≡ Ok (t, [])
read_of n s t w = let l = module-lawful false n in whole.is_read (part_of false n) l.first l.ext false l.good s t w

whole_of : (n : ℕ) (s : List Word) (t : Module) → (part_of false n).read s ≡ Ok (t, []) → DerivesWithin n s t
whole_of n s t e = let l = module-lawful false n in whole.is_whole (part_of false n) l.first l.ext false l.good s t e

ordered : (n k : ℕ) → (n ≤ k) ⊎ (k ≤ n)
ordered zero k = inl (omega arith)
ordered (suc n) zero = inr (omega arith)
ordered (suc n) (suc k) = elim (ordered n k) [ inl h ↦ inl (omega arith) | inr h ↦ inr (omega arith) ]

within : (n : ℕ) (s : List Word) (t : Module) → DerivesWithin n s t → module_nesting t ≤ n
within n s t w = (module_counts false n n (omega arith)).within s t [] (read_of n s t w)

bounded : (n k : ℕ) (s : List Word) (t : Module) → DerivesWithin k s t → module_nesting t ≤ n → DerivesWithin n s t
bounded n k s t w h = elim (ordered n k) [
  | inl o ↦ whole_of n s t ((module_counts false n k o).narrows s t [] (read_of k s t w) h)
  | inr o ↦ whole_of n s t ((module_counts false k n o).widens s t [] (read_of k s t w) refl)
]

pub bounded_by_nesting : (n : ℕ) (s : List Word) (t : Module) → IsBoundedByNesting n s t
bounded_by_nesting n s t = (λ w. ((n, w), within n s t w), λ z. bounded n z.0.0 s t z.0.1 z.1)

pub query_within : (s : List Word) → HasTreesInBounds s
query_within s t w = within max_nesting s t w
