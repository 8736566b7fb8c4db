-- The walk over the parts of a comma, of parentheses and of a `try`, as the code goes.
use Rattle.std.proofs.Common.{◌≡◌, ◌+◌, ◌-◌, ◌≤◌, ◌<◌, ℕ, zero, suc, max, List, [], ◌∷◌, ◌++◌, map, take, drop, length, get_or, Option, None, Some, Result, Ok, Err, refl, sym, ap, ◌∙◌, subst, arith}
use Rattle.std.specs.Prelude.{Vec, IfSome}
use Rattle.std.specs.declared.alloc.Global.{Global}
use Rattle.std.specs.declared.boxed.Box.{Box}
use Rattle.std.proofs.Math.Seq.{take-suc}
use Rattle.std.proofs.lemmas.List.{take-append-drop, take_all, map-append}
use Rattle.item_tree.specs.Datum.{Datum}
use Rattle.outside.specs.Opens.{InputCounts}
use Rattle.outside.specs.World.{World}
use Rattle.seq_types.specs.declared.types.SeqType.{SeqType}
use Rattle.query_tree.specs.declared.bound.Slot.{Slot}
use Rattle.query_tree.specs.declared.bound.Target.{Target}
use Rattle.query_tree.specs.declared.expr.Expr.{Expr}
use Rattle.query_tree.specs.declared.expr.Kind.TheVariants as kind
use Rattle.query_tree.specs.declared.part.Operand.{Operand}
use Rattle.query_tree.specs.declared.part.Catch.{Catch}
use Rattle.query_tree.specs.Bound.{BoundTree}
use Rattle.query_tree.specs.BoundViews.{bound_tree, bound_form, bound_operands, bound_catches}
use Rattle.query_tree.specs.Plain as p
use Rattle.query_tree.specs.Plain.{maybe_tree_of}
use Rattle.query_tree.specs.Spines.{spine, operands_spine}
use Rattle.query_tree.specs.Subtrees.{operands_children}
use Rattle.query_tree.proofs.Layers.{tree_of-out, form_of-Comma, form_of-Paren, form_of-Try}
use Rattle.query_meaning.specs.Choices.{or_handled}
use Rattle.query_meaning.specs.Meaning.{eval}
use Rattle.query_meaning.specs.Outcome.{Outcome}
use Rattle.piece_seats.specs.declared.text.Text.{Text}
use Rattle.rumble_run.specs.inside.LeafCounts.{LeavesOfLeaf}
use Rattle.piece_run.specs.Kept.{KeptIs}
use Rattle.rumble_run.specs.inside.Caught.{CaughtFrom}
use Rattle.rumble_run.specs.inside.Walked.{Prints, Setting, Walked}
use Rattle.piece_run.specs.declared.leaf_fault.LeafFault.{LeafFault}
use Rattle.piece_run.specs.declared.leaf_fault.LeafFault.TheVariants.{NoMemory}
use Rattle.rumble_run.proofs.LeafCounting.{answered, leaves_then}
use Rattle.rumble_run.proofs.SpineSteps.{walked_none, walked_next, walked_failed, walked_short, walked_stops, walked_comma, walked_paren, walked_try}

abbrev BoundExpr : Type 0
BoundExpr = Expr Slot Target SeqType

abbrev BoundOperand : Type 0
BoundOperand = Operand BoundExpr

abbrev Printed : Type 0
Printed = Result Text LeafFault

abbrev operand_tree : BoundOperand → BoundTree
operand_tree o = bound_tree o.value

-- the parts of a comma
abbrev pub parts_of : BoundExpr → List BoundOperand → List BoundTree
parts_of first rest = bound_tree first ∷ map operand_tree rest

operands_all : (xs : List BoundOperand) → operands_children (bound_operands xs) ≡ map operand_tree xs
operands_all [] = refl
operands_all (x ∷ xs) = ap (λ ts. operand_tree x ∷ ts) (operands_all xs)

-- ---- in a told world

pub in_world : (o : Option World) (P Q : World → Type 0) → ((w : World) → P w → Q w) → IfSome o P → IfSome o Q
in_world None P Q f h = tt
in_world (Some w) P Q f h = f w h

in_worlds : (o : Option World) (P Q R : World → Type 0) → ((w : World) → P w → Q w → R w) → IfSome o P → IfSome o Q → IfSome o R
in_worlds None P Q R f h g = tt
in_worlds (Some w) P Q R f h g = f w h g

always : (o : Option World) (P : World → Type 0) → ((w : World) → P w) → IfSome o P
always None P f = tt
always (Some w) P f = f w

-- ---- kinds

comma_is : (e : BoundExpr) (first : Box BoundExpr Global) (rest : Vec BoundOperand Global) → e.kind ≡ kind.Comma first rest → bound_tree e ≡ p.tree_node e.place (p.comma_form (bound_tree first.value) (bound_operands rest.items))
comma_is e first rest h = tree_of-out Slot Target SeqType e ∙ ap (λ k. p.tree_node e.place (bound_form k)) h ∙ ap (p.tree_node e.place) (form_of-Comma Slot Target SeqType first rest)

paren_is : (e : BoundExpr) (content : Option (Box BoundExpr Global)) → e.kind ≡ kind.Paren content → bound_tree e ≡ p.tree_node e.place (p.paren_form (maybe_tree_of Slot Target SeqType content))
paren_is e content h = tree_of-out Slot Target SeqType e ∙ ap (λ k. p.tree_node e.place (bound_form k)) h ∙ ap (p.tree_node e.place) (form_of-Paren Slot Target SeqType content)

try_is : (e : BoundExpr) (body : Box BoundExpr Global) (catches : Vec (Catch Slot BoundExpr) Global) → e.kind ≡ kind.Try body catches → bound_tree e ≡ p.tree_node e.place (p.try_form (bound_tree body.value) (bound_catches catches.items))
try_is e body catches h = tree_of-out Slot Target SeqType e ∙ ap (λ k. p.tree_node e.place (bound_form k)) h ∙ ap (p.tree_node e.place) (form_of-Try Slot Target SeqType body catches)

-- ---- depth

pub first_room : (e : BoundExpr) (first : Box BoundExpr Global) (rest : Vec BoundOperand Global) (depth : ℕ) → e.kind ≡ kind.Comma first rest → spine (bound_tree e) + 5 ≤ depth → spine (bound_tree first.value) + 5 ≤ depth - 1
first_room e first rest depth h room =
    let same : spine (bound_tree e) ≡ max (spine (bound_tree first.value)) (operands_spine (bound_operands rest.items)) + 1 = ap spine (comma_is e first rest h) in
    omega (arith, same, room)

operand_within : (xs : List BoundOperand) (i : ℕ) (x : BoundOperand) → i < length xs → x ≡ get_or xs i x → spine (operand_tree x) ≤ operands_spine (bound_operands xs)
operand_within [] i x l e = absurd (omega arith)
operand_within (y ∷ ys) zero x l e = let same : spine (operand_tree x) ≡ spine (operand_tree y) = ap (λ o. spine (operand_tree o)) e in omega (arith, same)
operand_within (y ∷ ys) (suc i) x l e = let h = operand_within ys i x (omega arith) e in omega (arith, h)

pub operand_room : (e : BoundExpr) (first : Box BoundExpr Global) (rest : Vec BoundOperand Global) (depth i : ℕ) (x : BoundOperand) → e.kind ≡ kind.Comma first rest → spine (bound_tree e) + 5 ≤ depth → i < length rest.items → x ≡ get_or rest.items i x
    → spine (bound_tree x.value) + 5 ≤ depth - 1
operand_room e first rest depth i x h room l is =
    let same : spine (bound_tree e) ≡ max (spine (bound_tree first.value)) (operands_spine (bound_operands rest.items)) + 1 = ap spine (comma_is e first rest h) in
    let within = operand_within rest.items i x l is in
    omega (arith, same, room, within)

pub content_room : (e : BoundExpr) (content : Box BoundExpr Global) (depth : ℕ) → e.kind ≡ kind.Paren (Some content) → spine (bound_tree e) + 5 ≤ depth → spine (bound_tree content.value) + 5 ≤ depth - 1
content_room e content depth h room =
    let same : spine (bound_tree e) ≡ spine (bound_tree content.value) + 1 = ap spine (paren_is e (Some content) h) in
    omega (arith, same, room)

pub body_room : (e : BoundExpr) (body : Box BoundExpr Global) (catches : Vec (Catch Slot BoundExpr) Global) (depth : ℕ) → e.kind ≡ kind.Try body catches → spine (bound_tree e) + 5 ≤ depth → spine (bound_tree body.value) + 5 ≤ depth - 1
body_room e body catches depth h room =
    let same : spine (bound_tree e) ≡ spine (bound_tree body.value) + 1 = ap spine (try_is e body catches h) in
    omega (arith, same, room)

pub some_depth : (n depth : ℕ) → n + 5 ≤ depth → suc (depth - 1) ≡ depth
some_depth n depth h = omega (arith, h)

-- ---- the walk

-- What is printed of expressions one after another, and what that leaves of the counts.
pub record SoFar (s : Setting) (world : Option World) (depth : ℕ) (ts : List BoundTree) (r : Printed) (start now : InputCounts) : Type 0 where
  pub counts : LeavesOfLeaf r start now
  pub walked : IfSome world (λ w. Walked Prints s w depth ts r start now)

module _ (s : Setting) (world : Option World) (depth : ℕ) where
  pub next_so_far : (ts us : List BoundTree) (x y z : Text) (start now after : InputCounts) → ((a b : List Datum) → Prints x a → Prints y b → Prints z (a ++ b)) → SoFar s world depth ts (Ok x) start now
      → SoFar s world depth us (Ok y) now after → SoFar s world depth (ts ++ us) (Ok z) start after
  next_so_far ts us x y z start now after follow h g = record {
    counts = leaves_then x (Ok z) start now after h.counts (answered (Ok y) (Ok z) now after g.counts.cause g.counts);
    walked = in_worlds world (λ w. Walked Prints s w depth ts (Ok x) start now) (λ w. Walked Prints s w depth us (Ok y) now after) (λ w. Walked Prints s w depth (ts ++ us) (Ok z) start after)
        (λ w a b. walked_next Prints s w depth ts us x y z start now after follow g.counts.rises a b) h.walked g.walked;
  }

  pub failed_so_far : (ts us : List BoundTree) (x : Text) (e : LeafFault) (start now after : InputCounts) → SoFar s world depth ts (Ok x) start now → SoFar s world depth us (Err e) now after → SoFar s world depth (ts ++ us) (Err e) start after
  failed_so_far ts us x e start now after h g = record {
    counts = leaves_then x (Err e) start now after h.counts g.counts;
    walked = in_worlds world (λ w. Walked Prints s w depth ts (Ok x) start now) (λ w. Walked Prints s w depth us (Err e) now after) (λ w. Walked Prints s w depth (ts ++ us) (Err e) start after)
        (λ w a b. walked_failed Prints s w depth ts us x e start now after g.counts.rises a b) h.walked g.walked;
  }

  pub short_so_far : (ts us : List BoundTree) (x y : Text) (start now after : InputCounts) → SoFar s world depth ts (Ok x) start now → SoFar s world depth us (Ok y) now after → SoFar s world depth (ts ++ us) (Err NoMemory) start after
  short_so_far ts us x y start now after h g = record {
    counts = leaves_then x (Err NoMemory) start now after h.counts (answered {L = Text} (Ok y) (Err NoMemory) now after tt g.counts);
    walked = in_worlds world (λ w. Walked Prints s w depth ts (Ok x) start now) (λ w. Walked Prints s w depth us (Ok y) now after) (λ w. Walked Prints s w depth (ts ++ us) (Err NoMemory) start after)
        (λ w a b. walked_short Prints s w depth ts us x y start now after g.counts.rises a b) h.walked g.walked;
  }

  pub stops_so_far : (ts us : List BoundTree) (e : LeafFault) (start after : InputCounts) → SoFar s world depth ts (Err e) start after → SoFar s world depth (ts ++ us) (Err e) start after
  stops_so_far ts us e start after h = record {
    counts = h.counts;
    walked = in_world world (λ w. Walked Prints s w depth ts (Err e) start after) (λ w. Walked Prints s w depth (ts ++ us) (Err e) start after) (λ w a. walked_stops Prints s w depth ts us e start after a) h.walked;
  }

-- ---- the parts of a comma

-- the first parts, and one more
one_more : (first : BoundExpr) (rest : List BoundOperand) (i : ℕ) (x : BoundOperand) → i < length rest → x ≡ get_or rest i x → parts_of first (take i rest) ++ operand_tree x ∷ [] ≡ parts_of first (take (i + 1) rest)
one_more first rest i x l is =
    let up : i + 1 ≡ suc i = omega arith in
    let longer : take (i + 1) rest ≡ take i rest ++ x ∷ [] = ap (λ n. take n rest) up ∙ take-suc rest i x l ∙ ap (λ y. take i rest ++ y ∷ []) (sym is) in
    ap (λ ts. bound_tree first ∷ ts) (sym (ap (map operand_tree) longer ∙ map-append operand_tree (take i rest) (x ∷ [])))

-- and all others
all_parts : (first : BoundExpr) (rest : List BoundOperand) (i : ℕ) → parts_of first (take i rest) ++ map operand_tree (drop i rest) ≡ parts_of first rest
all_parts first rest i = ap (λ ts. bound_tree first ∷ ts) (sym (map-append operand_tree (take i rest) (drop i rest)) ∙ ap (map operand_tree) (take-append-drop i rest))

module _ (s : Setting) (world : Option World) (depth : ℕ) (first : BoundExpr) (rest : List BoundOperand) where
  -- what is printed of so many operands
  abbrev pub Operands : ℕ → Printed → InputCounts → InputCounts → Type 0
  Operands i r start now = SoFar s world depth (parts_of first (take i rest)) r start now

  pub operands_begun : (r : Printed) (start now : InputCounts) → LeavesOfLeaf r start now → IfSome world (λ w. Walked Prints s w depth (bound_tree first ∷ []) r start now) → Operands 0 r start now
  operands_begun r start now c h = record { counts = c; walked = h }

  module _ (i : ℕ) (x : BoundOperand) (l : i < length rest) (is : x ≡ get_or rest i x) where
    pub operands_more : (a b z : Text) (start now after : InputCounts) → ((xs ys : List Datum) → Prints a xs → Prints b ys → Prints z (xs ++ ys)) → Operands i (Ok a) start now → LeavesOfLeaf {K = Text} (Ok b) now after
        → IfSome world (λ w. Walked Prints s w depth (bound_tree x.value ∷ []) (Ok b) now after) → Operands (i + 1) (Ok z) start after
    operands_more a b z start now after follow h c g =
        subst (λ ts. SoFar s world depth ts (Ok z) start after) (one_more first rest i x l is)
        (next_so_far s world depth (parts_of first (take i rest)) (operand_tree x ∷ []) a b z start now after follow h (record { counts = c; walked = g }))

    others : (e : LeafFault) (start after : InputCounts) → Operands (i + 1) (Err e) start after → SoFar s world depth (parts_of first rest) (Err e) start after
    others e start after h =
        subst (λ ts. SoFar s world depth ts (Err e) start after) (all_parts first rest (i + 1)) (stops_so_far s world depth (parts_of first (take (i + 1) rest)) (map operand_tree (drop (i + 1) rest)) e start after h)

    pub operands_failed : (a : Text) (e : LeafFault) (start now after : InputCounts) → Operands i (Ok a) start now → LeavesOfLeaf {K = Text} (Err e) now after → IfSome world (λ w. Walked Prints s w depth (bound_tree x.value ∷ []) (Err e) now after)
        → SoFar s world depth (parts_of first rest) (Err e) start after
    operands_failed a e start now after h c g =
        others e start after (subst (λ ts. SoFar s world depth ts (Err e) start after) (one_more first rest i x l is)
        (failed_so_far s world depth (parts_of first (take i rest)) (operand_tree x ∷ []) a e start now after h (record { counts = c; walked = g })))

    pub operands_short : (a b : Text) (start now after : InputCounts) → Operands i (Ok a) start now → LeavesOfLeaf {K = Text} (Ok b) now after → IfSome world (λ w. Walked Prints s w depth (bound_tree x.value ∷ []) (Ok b) now after)
        → SoFar s world depth (parts_of first rest) (Err NoMemory) start after
    operands_short a b start now after h c g =
        others NoMemory start after (subst (λ ts. SoFar s world depth ts (Err NoMemory) start after) (one_more first rest i x l is)
        (short_so_far s world depth (parts_of first (take i rest)) (operand_tree x ∷ []) a b start now after h (record { counts = c; walked = g })))

  pub first_failed : (e : LeafFault) (start after : InputCounts) → Operands 0 (Err e) start after → SoFar s world depth (parts_of first rest) (Err e) start after
  first_failed e start after h = stops_so_far s world depth (bound_tree first ∷ []) (map operand_tree rest) e start after h

  pub operands_done : (i : ℕ) (r : Printed) (start after : InputCounts) → length rest ≤ i → Operands i r start after → SoFar s world depth (parts_of first rest) r start after
  operands_done i r start after l h = subst (λ xs. SoFar s world depth (parts_of first xs) r start after) (take_all i rest l) h

-- What is printed of the first part of a comma and so many operands, in the world as it was.
pub record PrintedSoFar (s : Setting) (world later : Option World) (depth : ℕ) (e : BoundExpr) (operands : List BoundOperand) (i : ℕ) (r : Printed) (start now : InputCounts) : Type 0 where
  pub first : Box BoundExpr Global
  pub rest : Vec BoundOperand Global
  pub kind_is : e.kind ≡ kind.Comma first rest
  pub operands_are : operands ≡ rest.items
  pub same : later ≡ world
  pub so_far : Operands s world depth first.value rest.items i r start now

-- ---- an expression on the spine, by its parts

comma_walked : (s : Setting) (w : World) (depth : ℕ) (e : BoundExpr) (first : Box BoundExpr Global) (rest : Vec BoundOperand Global) (r : Printed) (start after : InputCounts) → e.kind ≡ kind.Comma first rest
    → Walked Prints s w depth (parts_of first.value rest.items) r start after → Walked Prints s w (suc depth) (bound_tree e ∷ []) r start after
comma_walked s w depth e first rest r start after is h =
    subst (λ t. Walked Prints s w (suc depth) (t ∷ []) r start after) (sym (comma_is e first rest is))
    (walked_comma Prints s w depth e.place (bound_tree first.value) (bound_operands rest.items) r start after
    (subst (λ ts. Walked Prints s w depth (bound_tree first.value ∷ ts) r start after) (sym (operands_all rest.items)) h))

pub comma_printed : (s : Setting) (world : Option World) (depth n : ℕ) (e : BoundExpr) (first : Box BoundExpr Global) (rest : Vec BoundOperand Global) (r : Printed) (start after : InputCounts) → e.kind ≡ kind.Comma first rest → n + 5 ≤ depth
    → SoFar s world (depth - 1) (parts_of first.value rest.items) r start after → IfSome world (λ w. Walked Prints s w depth (bound_tree e ∷ []) r start after)
comma_printed s world depth n e first rest r start after is room h =
    in_world world (λ w. Walked Prints s w (depth - 1) (parts_of first.value rest.items) r start after) (λ w. Walked Prints s w depth (bound_tree e ∷ []) r start after)
    (λ w g. subst (λ d. Walked Prints s w d (bound_tree e ∷ []) r start after) (some_depth n depth room) (comma_walked s w (depth - 1) e first rest r start after is g)) h.walked

pub content_printed : (s : Setting) (world : Option World) (depth n : ℕ) (e : BoundExpr) (content : Box BoundExpr Global) (r : Printed) (start after : InputCounts) → e.kind ≡ kind.Paren (Some content) → n + 5 ≤ depth
    → IfSome world (λ w. Walked Prints s w (depth - 1) (bound_tree content.value ∷ []) r start after) → IfSome world (λ w. Walked Prints s w depth (bound_tree e ∷ []) r start after)
content_printed s world depth n e content r start after is room h =
    in_world world (λ w. Walked Prints s w (depth - 1) (bound_tree content.value ∷ []) r start after) (λ w. Walked Prints s w depth (bound_tree e ∷ []) r start after)
    (λ w g. subst (λ d. Walked Prints s w d (bound_tree e ∷ []) r start after) (some_depth n depth room)
    (subst (λ t. Walked Prints s w (suc (depth - 1)) (t ∷ []) r start after) (sym (paren_is e (Some content) is))
    (walked_paren Prints s w (depth - 1) e.place (p.one_tree (bound_tree content.value)) r start after g))) h

pub nothing_printed : (s : Setting) (world : Option World) (depth n : ℕ) (e : BoundExpr) (text : Text) (counts : InputCounts) → e.kind ≡ kind.Paren None → n + 5 ≤ depth → Prints text [] → IfSome world (λ w. Walked Prints s w depth (bound_tree e ∷ []) (Ok text) counts counts)
nothing_printed s world depth n e text counts is room h =
    always world (λ w. Walked Prints s w depth (bound_tree e ∷ []) (Ok text) counts counts)
    (λ w. subst (λ d. Walked Prints s w d (bound_tree e ∷ []) (Ok text) counts counts) (some_depth n depth room)
    (subst (λ t. Walked Prints s w (suc (depth - 1)) (t ∷ []) (Ok text) counts counts) (sym (paren_is e None is))
    (walked_paren Prints s w (depth - 1) e.place p.no_tree (Ok text) counts counts (walked_none Prints s w (depth - 1) text counts h))))

pub try_printed : (s : Setting) (world : Option World) (depth n : ℕ) (e : BoundExpr) (body : Box BoundExpr Global) (catches : Vec (Catch Slot BoundExpr) Global) (r q : Printed) (start after : InputCounts) → e.kind ≡ kind.Try body catches → n + 5 ≤ depth
    → CaughtFrom r q → ((meant : Outcome) → KeptIs Prints r meant → KeptIs Prints q (or_handled (eval s.own (depth - 1)) (bound_catches catches.items) s.env meant))
    → IfSome world (λ w. Walked Prints s w (depth - 1) (bound_tree body.value ∷ []) r start after) → IfSome world (λ w. Walked Prints s w depth (bound_tree e ∷ []) q start after)
try_printed s world depth n e body catches r q start after is room from caught h =
    in_world world (λ w. Walked Prints s w (depth - 1) (bound_tree body.value ∷ []) r start after) (λ w. Walked Prints s w depth (bound_tree e ∷ []) q start after)
    (λ w g. subst (λ d. Walked Prints s w d (bound_tree e ∷ []) q start after) (some_depth n depth room)
    (subst (λ t. Walked Prints s w (suc (depth - 1)) (t ∷ []) q start after) (sym (try_is e body catches is))
    (walked_try Prints s w (depth - 1) e.place (bound_tree body.value) (bound_catches catches.items) r q start after from caught g))) h

-- ---- the walk, as the code goes: one expression is what the other is said to be

module _ (e u : BoundExpr) (depth : ℕ) (room : spine (bound_tree e) + 5 ≤ depth) where
  pub room_at_first : (first : Box BoundExpr Global) (rest : Vec BoundOperand Global) → e.kind ≡ kind.Comma first rest → u ≡ first.value → spine (bound_tree u) + 5 ≤ depth - 1
  room_at_first first rest is same = subst (λ x. spine (bound_tree x) + 5 ≤ depth - 1) (sym same) (first_room e first rest depth is room)

  pub room_at_content : (content : Box BoundExpr Global) → e.kind ≡ kind.Paren (Some content) → u ≡ content.value → spine (bound_tree u) + 5 ≤ depth - 1
  room_at_content content is same = subst (λ x. spine (bound_tree x) + 5 ≤ depth - 1) (sym same) (content_room e content depth is room)

  pub room_at_body : (body : Box BoundExpr Global) (catches : Vec (Catch Slot BoundExpr) Global) → e.kind ≡ kind.Try body catches → u ≡ body.value → spine (bound_tree u) + 5 ≤ depth - 1
  room_at_body body catches is same = subst (λ x. spine (bound_tree x) + 5 ≤ depth - 1) (sym same) (body_room e body catches depth is room)

module _ (s : Setting) (world : Option World) (depth : ℕ) (e : BoundExpr) (room : spine (bound_tree e) + 5 ≤ depth) where
  -- what is printed of the whole expression
  abbrev pub Whole : Printed → InputCounts → InputCounts → Type 0
  Whole r start after = SoFar s world depth (bound_tree e ∷ []) r start after

  comma_ends : (first : Box BoundExpr Global) (rest : Vec BoundOperand Global) (r : Printed) (start after : InputCounts) → e.kind ≡ kind.Comma first rest → SoFar s world (depth - 1) (parts_of first.value rest.items) r start after → Whole r start after
  comma_ends first rest r start after is h = record { counts = h.counts; walked = comma_printed s world depth (spine (bound_tree e)) e first rest r start after is room h }

  module _ (u : BoundExpr) (r : Printed) (start after : InputCounts) (walked : IfSome world (λ w. Walked Prints s w (depth - 1) (bound_tree u ∷ []) r start after)) where
    of_other : (v : BoundExpr) → u ≡ v → IfSome world (λ w. Walked Prints s w (depth - 1) (bound_tree v ∷ []) r start after)
    of_other v same = subst (λ x. IfSome world (λ w. Walked Prints s w (depth - 1) (bound_tree x ∷ []) r start after)) same walked

    pub comma_begun : (first : Box BoundExpr Global) (rest : Vec BoundOperand Global) (operands : List BoundOperand) (later : Option World) → e.kind ≡ kind.Comma first rest → u ≡ first.value → operands ≡ rest.items → later ≡ world → LeavesOfLeaf r start after
        → PrintedSoFar s world later (depth - 1) e operands 0 r start after
    comma_begun first rest operands later is same os w c = record {
      first = first;
      rest = rest;
      kind_is = is;
      operands_are = os;
      same = w;
      so_far = operands_begun s world (depth - 1) first.value rest.items r start after c (of_other first.value same);
    }

    pub in_parens : (content : Box BoundExpr Global) → e.kind ≡ kind.Paren (Some content) → u ≡ content.value → IfSome world (λ w. Walked Prints s w depth (bound_tree e ∷ []) r start after)
    in_parens content is same = content_printed s world depth (spine (bound_tree e)) e content r start after is room (of_other content.value same)

    pub tried : (body : Box BoundExpr Global) (catches : Vec (Catch Slot BoundExpr) Global) (cs : List (Catch Slot BoundExpr)) (q : Printed) → e.kind ≡ kind.Try body catches → u ≡ body.value → cs ≡ catches.items → CaughtFrom r q
        → ((meant : Outcome) → KeptIs Prints r meant → KeptIs Prints q (or_handled (eval s.own (depth - 1)) (bound_catches cs) s.env meant)) → IfSome world (λ w. Walked Prints s w depth (bound_tree e ∷ []) q start after)
    tried body catches cs q is same others from caught =
        try_printed s world depth (spine (bound_tree e)) e body catches r q start after is room from
        (subst (λ xs. (meant : Outcome) → KeptIs Prints r meant → KeptIs Prints q (or_handled (eval s.own (depth - 1)) (bound_catches xs) s.env meant)) others caught) (of_other body.value same)

  pub comma_failed : (u : BoundExpr) (f : LeafFault) (start after : InputCounts) (first : Box BoundExpr Global) (rest : Vec BoundOperand Global) → IfSome world (λ w. Walked Prints s w (depth - 1) (bound_tree u ∷ []) (Err f) start after) → e.kind ≡ kind.Comma first rest → u ≡ first.value
      → LeavesOfLeaf {K = Text} (Err f) start after → Whole (Err f) start after
  comma_failed u f start after first rest h is same c =
      comma_ends first rest (Err f) start after is (first_failed s world (depth - 1) first.value rest.items f start after
      (operands_begun s world (depth - 1) first.value rest.items (Err f) start after c (of_other u (Err f) start after h first.value same)))

  pub comma_done : (later : Option World) (operands : List BoundOperand) (i : ℕ) (a : Text) (start now : InputCounts) → PrintedSoFar s world later (depth - 1) e operands i (Ok a) start now → length operands ≤ i → Whole (Ok a) start now
  comma_done later operands i a start now h l =
      comma_ends h.first h.rest (Ok a) start now h.kind_is
      (operands_done s world (depth - 1) h.first.value h.rest.items i (Ok a) start now (subst (λ xs. length xs ≤ i) h.operands_are l) h.so_far)

  module _ (later : Option World) (operands : List BoundOperand) (i : ℕ) (x : BoundOperand) (a : Text) (start now after : InputCounts) (h : PrintedSoFar s world later (depth - 1) e operands i (Ok a) start now) (l : i < length operands) (is : x ≡ get_or operands i x) where
    pub room_at_operand : spine (bound_tree x.value) + 5 ≤ depth - 1
    room_at_operand = operand_room e h.first h.rest depth i x h.kind_is room (subst (λ xs. i < length xs) h.operands_are l) (subst (λ xs. x ≡ get_or xs i x) h.operands_are is)

    abbrev pub One : Printed → Type 0
    One r = IfSome later (λ w. Walked Prints s w (depth - 1) (bound_tree x.value ∷ []) r now after)

    before : (r : Printed) → One r → IfSome world (λ w. Walked Prints s w (depth - 1) (bound_tree x.value ∷ []) r now after)
    before r g = subst (λ o. IfSome o (λ w. Walked Prints s w (depth - 1) (bound_tree x.value ∷ []) r now after)) h.same g

    pub comma_more : (next : Option World) (b z : Text) → next ≡ later → ((xs ys : List Datum) → Prints a xs → Prints b ys → Prints z (xs ++ ys)) → LeavesOfLeaf {K = Text} (Ok b) now after → One (Ok b)
        → PrintedSoFar s world next (depth - 1) e operands (i + 1) (Ok z) start after
    comma_more next b z w follow c g = record {
      first = h.first;
      rest = h.rest;
      kind_is = h.kind_is;
      operands_are = h.operands_are;
      same = w ∙ h.same;
      so_far = operands_more s world (depth - 1) h.first.value h.rest.items i x (subst (λ xs. i < length xs) h.operands_are l) (subst (λ xs. x ≡ get_or xs i x) h.operands_are is) a b z start now after follow h.so_far c (before (Ok b) g);
    }

    pub operand_failed : (f : LeafFault) → LeavesOfLeaf {K = Text} (Err f) now after → One (Err f) → Whole (Err f) start after
    operand_failed f c g =
        comma_ends h.first h.rest (Err f) start after h.kind_is
        (operands_failed s world (depth - 1) h.first.value h.rest.items i x (subst (λ xs. i < length xs) h.operands_are l) (subst (λ xs. x ≡ get_or xs i x) h.operands_are is) a f start now after h.so_far c (before (Err f) g))

    pub operand_short : (b : Text) → LeavesOfLeaf {K = Text} (Ok b) now after → One (Ok b) → Whole (Err NoMemory) start after
    operand_short b c g =
        comma_ends h.first h.rest (Err NoMemory) start after h.kind_is
        (operands_short s world (depth - 1) h.first.value h.rest.items i x (subst (λ xs. i < length xs) h.operands_are l) (subst (λ xs. x ≡ get_or xs i x) h.operands_are is) a b start now after h.so_far c (before (Ok b) g))
