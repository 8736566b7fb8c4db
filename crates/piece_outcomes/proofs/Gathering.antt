-- What is known of pieces stands for what their outcomes tell together, one after the other.
use Rattle.std.proofs.Common.{◌≡◌, List, [], ◌∷◌, refl, subst, ◌∙◌}
use Rattle.item_tree.specs.declared.fault.Fault.{Fault}
use Rattle.stage_laws.specs.Pieces.{Follow, PieceDone, SoFar, of_piece, with_next, gathered}
use Rattle.piece_outcomes.specs.Outcomes.{AllStand}

module _ {A G B K : Type 0} (follow : Follow B K Fault) (nothing : SoFar B K Fault)
    (Is : G → SoFar B K Fault → Type 0) (Gives : A → PieceDone B K Fault → Type 0) where
  -- Whatever the outcomes stand for, what is known stands for what those before have told, and
  -- these are left.
  abbrev pub Left : List A → List A → G → Type 0
  Left done left g =
      (ds : List (PieceDone B K Fault)) → AllStand Gives done ds
      → (h : SoFar B K Fault) × (rest : List (PieceDone B K Fault)) × Is g h
      × AllStand Gives left rest × (gathered follow h rest ≡ gathered follow nothing ds)

  abbrev Next : G → A → G → Type 0
  Next g d n = (h : SoFar B K Fault) (p : PieceDone B K Fault) → Is g h → Gives d p
      → Is n (with_next follow h (of_piece p))

  one_less : (d : A) (more : List A) (g n : G) (h : SoFar B K Fault)
      (rest : List (PieceDone B K Fault)) → AllStand Gives (d ∷ more) rest → Is g h → Next g d n
      → (i : SoFar B K Fault) × (left : List (PieceDone B K Fault)) × Is n i
      × AllStand Gives more left × (gathered follow i left ≡ gathered follow h rest)
  one_less d more g n h [] a is next = absurd a
  one_less d more g n h (p ∷ ps) a is next =
      (with_next follow h (of_piece p), ps, next h p is a.0, a.1, refl)

  pub left_next : (done left more : List A) (d : A) (g n : G) → left ≡ d ∷ more
      → Left done left g → Next g d n → Left done more n
  left_next done left more d g n e before next = λ ds a.
      let t = before ds a in
      let w = one_less d more g n t.0 t.1 (subst (λ (l : List A). AllStand Gives l t.1) e t.3) t.2 next in
      (w.0, w.1, w.2, w.3, w.4 ∙ t.4)

  nothing_left : (g : G) (h i : SoFar B K Fault) (rest : List (PieceDone B K Fault))
      → AllStand Gives [] rest → Is g h → gathered follow h rest ≡ i → Is g i
  nothing_left g h i [] a is e = subst (λ (j : SoFar B K Fault). Is g j) e is
  nothing_left g h i (p ∷ ps) a is e = absurd a

  pub left_none : (done left : List A) (g : G) → left ≡ [] → Left done left g
      → (ds : List (PieceDone B K Fault)) → AllStand Gives done ds
      → Is g (gathered follow nothing ds)
  left_none done left g e before = λ ds a.
      let t = before ds a in
      nothing_left g t.0 (gathered follow nothing ds) t.1 (subst (λ (l : List A). AllStand Gives l t.1) e t.3) t.2 t.4
