-- Where the expressions of a body stand.
use Rattle.std.proofs.Common.{◌≡◌, List, [], ◌∷◌, ◌++◌, sym, ap, subst, ◌∙◌}
use Rattle.std.specs.List.{flat_map}
use Rattle.std.specs.List.Sorted.{IsPermutation}
use Rattle.std.proofs.lemmas.List.{append-nil, append_assoc}
use Rattle.std.proofs.lemmas.List.Concat.{flat_map-append}
use Rattle.std.proofs.lemmas.List.Sorted.{IsPermutation-refl, IsPermutation-trans, IsPermutation-append, IsPermutation-append_left, IsPermutation-append_right, IsPermutation-append_comm}
use Rattle.seq_types.specs.declared.types.SeqType.{SeqType}
use Rattle.query_tree.specs.declared.bound.Slot.{Slot}
use Rattle.query_tree.specs.declared.bound.Target.{Target}
use Rattle.query_tree.specs.Plain as p
use Rattle.query_tree.specs.Plain.{Form, MaybeTree, PlainOperands, PlainCatches}
use Rattle.query_tree.specs.Bound.{BoundTree}
use Rattle.query_tree.specs.Subtrees.{subtrees, operands_subtrees, content_subtrees, catches_subtrees, catches_children}
use Rattle.query_tree.proofs.Held.{catches-held}
use Rattle.mode_planner.specs.Spine.{passed, content_passed, operands_passed, leaves, content_leaves, operands_leaves, handlers, content_handlers, operands_handlers}
use Rattle.mode_planner.specs.Laws.{ExpressionsStandOnce}

abbrev Expressions : Type 0
Expressions = List BoundTree

-- ---- lists in another order

-- the two in the middle change places
module _ {X : Type 0} where
  crossed : (a b c d : List X) → IsPermutation ((a ++ b) ++ (c ++ d)) ((a ++ c) ++ (b ++ d))
  crossed a b c d =
      let there : (a ++ b) ++ (c ++ d) ≡ a ++ (b ++ c) ++ d = sym (append_assoc (a ++ b) c d) ∙ ap (λ xs. xs ++ d) (append_assoc a b c) in
      let back : a ++ (c ++ b) ++ d ≡ (a ++ c) ++ (b ++ d) = ap (λ xs. xs ++ d) (sym (append_assoc a c b)) ∙ append_assoc (a ++ c) b d in
      subst (λ xs. IsPermutation xs ((a ++ c) ++ (b ++ d))) (sym there) (
      subst (IsPermutation (a ++ (b ++ c) ++ d)) back (
      IsPermutation-append_left d (a ++ (b ++ c)) (a ++ (c ++ b)) (IsPermutation-append_right a (b ++ c) (c ++ b) (IsPermutation-append_comm b c))))

  three-crossed : (a b c d e f : List X) → IsPermutation ((a ++ b ++ c) ++ (d ++ e ++ f)) ((a ++ d) ++ (b ++ e) ++ (c ++ f))
  three-crossed a b c d e f =
      IsPermutation-trans _ _ _ (crossed (a ++ b) c (d ++ e) f)
      (IsPermutation-append_left (c ++ f) ((a ++ b) ++ (d ++ e)) ((a ++ d) ++ (b ++ e)) (crossed a b d e))

-- ---- expressions that are passed through, and those in leaves and in handlers

record Stands (all through ends aside : Expressions) : Type 0 where
  same : IsPermutation all (through ++ flat_map subtrees ends ++ flat_map subtrees aside)

none : Stands [] [] [] []
none = record { same = IsPermutation-refl [] }

-- an expression that is passed through, with what stands in it
through : (t : BoundTree) {us ps ls hs : Expressions} → Stands us ps ls hs → Stands (t ∷ us) (t ∷ ps) ls hs
through t {us} {ps} {ls} {hs} s = record { same = IsPermutation-append_right (t ∷ []) us (ps ++ flat_map subtrees ls ++ flat_map subtrees hs) s.same }

-- a leaf
leaf : (t : BoundTree) → Stands (subtrees t) [] (t ∷ []) []
leaf t = record { same = subst (IsPermutation (subtrees t)) (sym (append-nil (subtrees t)) ∙ sym (append-nil (subtrees t ++ []))) (IsPermutation-refl (subtrees t)) }

both : {us ps ls hs vs qs ms is : Expressions} → Stands us ps ls hs → Stands vs qs ms is → Stands (us ++ vs) (ps ++ qs) (ls ++ ms) (hs ++ is)
both {us} {ps} {ls} {hs} {vs} {qs} {ms} {is} s t =
    record {
      same =
          subst (λ xs. IsPermutation (us ++ vs) ((ps ++ qs) ++ xs ++ flat_map subtrees (hs ++ is))) (sym (flat_map-append subtrees ls ms)) (
          subst (λ xs. IsPermutation (us ++ vs) ((ps ++ qs) ++ (flat_map subtrees ls ++ flat_map subtrees ms) ++ xs)) (sym (flat_map-append subtrees hs is)) (
          IsPermutation-trans _ _ _ (IsPermutation-append _ _ _ _ s.same t.same)
          (three-crossed ps (flat_map subtrees ls) (flat_map subtrees hs) qs (flat_map subtrees ms) (flat_map subtrees is))));
    }

-- handlers stand aside
handled : {us ps ls hs : Expressions} (vs is : Expressions) → vs ≡ flat_map subtrees is → Stands us ps ls hs → Stands (us ++ vs) ps ls (hs ++ is)
handled {us} {ps} {ls} {hs} vs is h s =
    let before = ps ++ flat_map subtrees ls in
    record {
      same = subst (IsPermutation (us ++ vs)) (
          append_assoc before (flat_map subtrees hs) vs
          ∙ ap (λ xs. before ++ xs) (ap (λ xs. flat_map subtrees hs ++ xs) h ∙ sym (flat_map-append subtrees hs is)))
          (IsPermutation-append_left vs us (before ++ flat_map subtrees hs) s.same);
    }

-- ---- trees

mutual
  tree-stands : (t : BoundTree) → Stands (subtrees t) (passed t) (leaves t) (handlers t)
  tree-stands (p.tree_node place (p.comma_form first rest)) = through (p.tree_node place (p.comma_form first rest)) (both (tree-stands first) (operands-stand rest))
  tree-stands (p.tree_node place (p.paren_form content)) = through (p.tree_node place (p.paren_form content)) (content-stands content)
  tree-stands (p.tree_node place (p.try_form body catches)) = through (p.tree_node place (p.try_form body catches)) (handled (catches_subtrees catches) (catches_children catches) (catches-held catches).same (tree-stands body))
  tree-stands (p.tree_node place k) = leaf (p.tree_node place k)

  content-stands : (c : MaybeTree Slot Target SeqType) → Stands (content_subtrees c) (content_passed c) (content_leaves c) (content_handlers c)
  content-stands p.no_tree = none
  content-stands (p.one_tree t) = tree-stands t

  operands-stand : (os : PlainOperands Slot Target SeqType) → Stands (operands_subtrees os) (operands_passed os) (operands_leaves os) (operands_handlers os)
  operands-stand p.no_operands = none
  operands-stand (p.more_operands (p.operand_node place value) os) = both (tree-stands value) (operands-stand os)

pub stand_once : ExpressionsStandOnce
stand_once body = (tree-stands body).same
