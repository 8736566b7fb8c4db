-- What is gathered of the first stage of a FLWOR is what the stage makes of the lines of its files.
use Rattle.std.proofs.Common.{All, map, ◌≡◌, ℕ, ◌+◌, ◌-◌, ◌<◌, ◌≤◌, List, [], ◌∷◌, length, flat_map, Option, Some, Result, Ok, Err, IfOk, refl, sym, ap, ◌∙◌, subst, arith}
use Rattle.std.proofs.lemmas.List.{length-drop}
use Rattle.std.specs.List.{range_with_len}
use Rattle.item_tree.specs.Datum.{Datum}
use Rattle.item_tree.specs.declared.fault.Fault.{Fault}
use Rattle.item_reader.specs.Lines.{Line}
use Rattle.tuple_rows.specs.Keys.{KeyList, Keyed}
use Rattle.seq_types.specs.declared.types.SeqType.{SeqType}
use Rattle.line_pieces.specs.Cuts.{Cutting, pieces_of, HaveLengths}
use Rattle.line_pieces.specs.Laws.{PiecesAreWhole, PiecesAreTold}
use Rattle.line_pieces.specs.Pieces.{told_piece, piece_of, lines_of}
use Rattle.query_tree.specs.declared.bound.Slot.{Slot}
use Rattle.query_tree.specs.declared.bound.Target.{Target}
use Rattle.query_tree.specs.Bound.{BoundTree}
use Rattle.query_tree.specs.BoundViews.{bound_clauses}
use Rattle.query_tree.specs.Plain as p
use Rattle.query_tree.specs.Plain.{PlainOrderKeys}
use Rattle.query_meaning.specs.inside.Views.{tuple_of}
use Rattle.query_meaning.specs.Orders.{column_places}
use Rattle.stage_laws.specs.Stages.{Stage}
use Rattle.clause_stages.specs.Drivers.{numbered_lines}
use Rattle.clause_stages.specs.Ends.{orders_step}
use Rattle.piece_board.specs.Whole.{IsWhole}
use Rattle.piece_board.specs.declared.job.Pieces.{Pieces}
use Rattle.piece_outcomes.specs.Came.{Came, Seen}
use Rattle.piece_outcomes.specs.Counting.{told_step, order_told_step}
use Rattle.piece_outcomes.specs.Outcomes.{ResultIs}
use Rattle.piece_outcomes.specs.Orders as order
use Rattle.piece_outcomes.specs.declared.outcome.Counted.{Counted}
use Rattle.piece_outcomes.specs.declared.outcome.OrderCounted.{OrderCounted}
use Rattle.piece_outcomes.specs.declared.outcome.Gathered.{Gathered}
use Rattle.piece_seats.specs.Seats.{HoldsFiles}
use Rattle.piece_seats.specs.declared.seat.Seat.{Seat}
use Rattle.piece_run.specs.Driven.{stage_of, order_stage_of}
use Rattle.clause_eval.specs.declared.bindings.Binding.{Binding}
use Rattle.piece_run.specs.Ends.{StageEnd, end_step}
use Rattle.piece_run.specs.Flwors.{flwor_inner, flwor_environment, for_over, flwor_lines, after_for, IsFirstStage, AreNumbered, GatheredLines, GatheredOrder, EndGathered}
use Rattle.piece_run.specs.Gathering.{OnPieces, IsWholeRun, IsWholeOrder, numbered_piece, all_lists, whole_run}
use Rattle.piece_run.specs.Inputs.{lines_for, on_lists, on_pieces, orders_on_pieces, AreLines}
use Rattle.piece_run.specs.Meanings.{lines_run}
use Rattle.piece_run.specs.Outcomes.{CameIs}
use Rattle.piece_run.specs.Seats.{IsKeyedPiece, IsWidePiece}
use Rattle.piece_run.specs.Staged.{end_of, stage_inner, stage_environment, last_step}
use Rattle.piece_run.specs.declared.came.CameOut.{CameOut}
use Rattle.piece_run.specs.declared.driven_flwor.DrivenFlwor.{DrivenFlwor}
use Rattle.piece_run.specs.declared.stage.DrivenStage.{DrivenStage}
use Rattle.piece_run.proofs.FlworParts.{take_many}
use Rattle.piece_run.proofs.GroupKeys.{gathered_has}
use Rattle.piece_run.proofs.InputRuns.{runs_are_whole, orders_are_whole}
use Rattle.piece_run.proofs.Numbering.{pieces_are_numbered}

-- ---- the lines of files

lengths_are : (ns : List ℕ) (files : List (List ℕ)) → HaveLengths ns (map Some files) → ns ≡ map length files
lengths_are [] [] h = refl
lengths_are [] (f ∷ files) h = absurd h
lengths_are (n ∷ ns) [] h = absurd h
lengths_are (n ∷ ns) (f ∷ files) h = ap (λ (k : ℕ). k ∷ ns) h.0 ∙ ap (λ (ks : List ℕ). length f ∷ ks) (lengths_are ns files h.1)

module _ {F : Type 0} (whole : PiecesAreWhole) (pieces_told : PiecesAreTold) (s : DrivenStage F) (files : List (List ℕ)) (lengths : HaveLengths s.cut.now.lengths (map Some files)) where
  same_lengths : s.cut.now.lengths ≡ map length files
  same_lengths = lengths_are s.cut.now.lengths files lengths

  are_lines : AreNumbered s.binding.at.now s.cut.now.size s.before.now files
      → AreLines s (map Some files) (pieces_of s.cut.now.size s.cut.now.lengths) (piece_of s.cut.now.size files)
  are_lines numbers = record {
    pieces = λ p low.
        let below : p < pieces_of s.cut.now.size (map length files) = subst (λ (ns : List ℕ). p < pieces_of s.cut.now.size ns) same_lengths low in
        subst (λ (ns : List ℕ). told_piece (record { lengths = ns; size = s.cut.now.size }) (map Some files) p ≡ Some (piece_of s.cut.now.size files p)) (sym same_lengths)
        (pieces_told s.cut.now.size files p below);
    numbers = λ p low. numbers p (subst (λ (ns : List ℕ). p < pieces_of s.cut.now.size ns) same_lengths low);
  }

  all_lines_are : 0 < s.cut.now.size → flat_map (piece_of s.cut.now.size files) (range_with_len 0 (pieces_of s.cut.now.size s.cut.now.lengths)) ≡ lines_of files
  all_lines_are some =
      ap (λ (ns : List ℕ). flat_map (piece_of s.cut.now.size files) (range_with_len 0 (pieces_of s.cut.now.size ns))) same_lengths
      ∙ whole s.cut.now.size files some

run_of_lines : {B K : Type 0} (stage : Stage (ℕ × Line) B K Fault) (total : ℕ) (lines : ℕ → List Line) (all : List Line) → flat_map lines (range_with_len 0 total) ≡ all
    → stage.run (flat_map (numbered_piece lines) (range_with_len 0 total)) ≡ stage.run (numbered_lines 1 all)
run_of_lines stage total lines all h = ap stage.run (pieces_are_numbered lines total) ∙ ap (λ (ls : List Line). stage.run (numbered_lines 1 ls)) h

-- ---- what is gathered of all pieces

of_first : {S : Type 0} (held : S → Option (List ℕ)) (cut : Cutting) (told : List (Option (List ℕ))) (s : Seat S) → HoldsFiles held cut told s → HaveLengths cut.lengths told
of_first held cut told s h = subst (HaveLengths cut.lengths) h.1 h.0

pub first_has : {S : Type 0} (held : S → Option (List ℕ)) (cut : Cutting) (told : List (Option (List ℕ))) (seats : List (Seat S)) → 0 < length seats → All (HoldsFiles held cut told) seats → HaveLengths cut.lengths told
first_has held cut told [] some h = absurd (omega (arith, some))
first_has held cut told (s ∷ seats) some h = of_first held cut told s (h 0 s some)

by_case : {X E : Type 0} (r : Result X E) (P : X → Type 0) → ((x : X) → r ≡ Ok x → P x) → IfOk r P
by_case (Ok x) P f = f x refl
by_case (Err e) P f = tt

if_ok : {X E : Type 0} (r : Result X E) (P Q : X → Type 0) → ((x : X) → P x → Q x) → IfOk r P → IfOk r Q
if_ok (Ok x) P Q f h = f x h
if_ok (Err e) P Q f h = tt

module _ {F I : Type 0} (stands : I → List Datum → Type 0) (s : DrivenStage F) (told : List (Option (List ℕ))) where
  abbrev total : ℕ
  total = pieces_of s.cut.now.size s.cut.now.lengths

  -- the lists of pieces, and what the stage makes of them
  abbrev on_all : (ℕ → List (ℕ × Line)) → OnPieces Came Seen
  on_all lists = on_lists s total lists

  abbrev Ran : Pieces (Counted (CameOut I)) → Type 0
  Ran p = IsWhole told_step (IsKeyedPiece stands s told) total (last_step s + 1) p.done.items p.events.items

  pub some_run : {E : Type 0} (ran : Result (Pieces (Counted (CameOut I))) E) → IfOk ran Ran → IfOk ran (λ p. (o : OnPieces Came Seen) × IsWholeRun (CameIs stands) o p)
  some_run ran w = if_ok ran Ran (λ p. (o : OnPieces Came Seen) × IsWholeRun (CameIs stands) o p) (λ p h. let k = (runs_are_whole F stands).some s told total p h in (on_all k.0, k.1)) w

  -- what is gathered of what ran
  abbrev Given : {E E' : Type 0} → Result (Pieces (Counted (CameOut I))) E → Result (Gathered (CameOut I)) E' → Type 0
  Given ran g = (o : OnPieces Came Seen) → IfOk ran (IsWholeRun (CameIs stands) o) → IfOk g (λ r. ResultIs (CameIs stands) r (whole_run o))

  module _ {E E' : Type 0} (ran : Result (Pieces (Counted (CameOut I))) E) (g : Result (Gathered (CameOut I)) E') (given : Given ran g) (w : IfOk ran Ran) where
    has_keys : (o : OnPieces Came Seen) → o.stage ≡ stage_of s → IfOk ran (IsWholeRun (CameIs stands) o) → IfOk g (EndGathered s.end)
    has_keys o same h =
        if_ok g (λ r. ResultIs (CameIs stands) r (whole_run o)) (EndGathered s.end)
        (λ r is. gathered_has stands s r (all_lists o) (subst (λ (t : Stage (ℕ × Line) Came Seen Fault). ResultIs (CameIs stands) r (t.run (all_lists o))) same is) s.end refl) (given o h)

    pub lines_gathered : PiecesAreWhole → PiecesAreTold → HaveLengths s.cut.now.lengths told → 0 < s.cut.now.size
        → IfOk g (λ r. (source : BoundTree) (files : List (List ℕ)) → told ≡ map Some files → AreNumbered s.binding.at.now s.cut.now.size s.before.now files
        → ResultIs (CameIs stands) r (lines_run (lines_for s source) (end_step (stage_inner s) (stage_environment s) (end_of s.end)) (lines_of files)))
    lines_gathered whole pieces_told lengths some =
        by_case g (λ r. (source : BoundTree) (files : List (List ℕ)) → told ≡ map Some files → AreNumbered s.binding.at.now s.cut.now.size s.before.now files
        → ResultIs (CameIs stands) r (lines_run (lines_for s source) (end_step (stage_inner s) (stage_environment s) (end_of s.end)) (lines_of files)))
        (λ r same source files told_is numbers.
        let have : HaveLengths s.cut.now.lengths (map Some files) = subst (HaveLengths s.cut.now.lengths) told_is lengths in
        let lists = piece_of s.cut.now.size files in
        let are : AreLines s told total lists = subst (λ (ts : List (Option (List ℕ))). AreLines s ts total lists) (sym told_is) (are_lines whole pieces_told s files have numbers) in
        let o = on_pieces s total lists in
        let ran_so : IfOk ran (IsWholeRun (CameIs stands) o) = if_ok ran Ran (IsWholeRun (CameIs stands) o) (λ p h. (runs_are_whole F stands).told s told total lists p are h) w in
        let is : ResultIs (CameIs stands) r (whole_run o) = subst (λ (q : Result (Gathered (CameOut I)) E'). IfOk q (λ r. ResultIs (CameIs stands) r (whole_run o))) same (given o ran_so) in
        subst (ResultIs (CameIs stands) r) (run_of_lines (stage_of s) total lists (lines_of files) (all_lines_are whole pieces_told s files have some)) is)

  pub keys_gathered : {E E' : Type 0} (ran : Result (Pieces (Counted (CameOut I))) E) (g : Result (Gathered (CameOut I)) E') → Given ran g → IfOk ran Ran → IfOk g (EndGathered s.end)
  keys_gathered {E = E} {E' = E'} (Ok p) g given w = let k = (runs_are_whole F stands).some s told total p w in has_keys {E = E} {E' = E'} (Ok p) g given w (on_all k.0) refl k.1
  keys_gathered {E = E} {E' = E'} (Err e) g given w = has_keys {E = E} {E' = E'} (Err e) g given w (on_all (λ p. [])) refl tt

-- ---- the same where the stage ends in an order, whose step has this number

module _ {F I : Type 0} (stands : I → List Datum → Type 0) (s : DrivenStage F) (keys : PlainOrderKeys Slot Target SeqType) (told : List (Option (List ℕ))) (step : ℕ) (last : last_step s ≡ step) where
  abbrev all : ℕ
  all = pieces_of s.cut.now.size s.cut.now.lengths

  abbrev IsOrder : OnPieces (List Keyed) KeyList → Pieces (OrderCounted (CameOut I)) → Type 0
  IsOrder o p = IsWholeOrder (CameIs stands) (column_places keys) o p

  abbrev RanOrders : Pieces (OrderCounted (CameOut I)) → Type 0
  RanOrders p = IsWhole order_told_step (IsWidePiece stands s keys told) all (last_step s + 1) p.done.items p.events.items

  pub some_orders : {E : Type 0} (ran : Result (Pieces (OrderCounted (CameOut I))) E) → IfOk ran RanOrders → IfOk ran (λ p. (o : OnPieces (List Keyed) KeyList) × (o.last ≡ step) × IsOrder o p)
  some_orders ran w =
      if_ok ran RanOrders (λ p. (o : OnPieces (List Keyed) KeyList) × (o.last ≡ step) × IsOrder o p)
      (λ p h. let k = (orders_are_whole F stands).some s keys told all p h in (k.0, k.1 ∙ last, k.2)) w

  abbrev OrdersGiven : {E E' : Type 0} → Result (Pieces (OrderCounted (CameOut I))) E → Result (Gathered (CameOut I)) E' → Type 0
  OrdersGiven ran g = (o : OnPieces (List Keyed) KeyList) → o.last ≡ step → IfOk ran (IsOrder o) → IfOk g (λ r. order.ResultIs (CameIs stands) r (whole_run o))

  pub orders_gathered : {E E' : Type 0} (ran : Result (Pieces (OrderCounted (CameOut I))) E) (g : Result (Gathered (CameOut I)) E') → OrdersGiven ran g → IfOk ran RanOrders
      → PiecesAreWhole → PiecesAreTold → HaveLengths s.cut.now.lengths told → 0 < s.cut.now.size
      → IfOk g (λ r. (source : BoundTree) (files : List (List ℕ)) → told ≡ map Some files → AreNumbered s.binding.at.now s.cut.now.size s.before.now files
      → order.ResultIs (CameIs stands) r (lines_run (lines_for s source) (orders_step (stage_inner s) keys (stage_environment s)) (lines_of files)))
  orders_gathered {E' = E'} ran g given w whole pieces_told lengths some =
      by_case g (λ r. (source : BoundTree) (files : List (List ℕ)) → told ≡ map Some files → AreNumbered s.binding.at.now s.cut.now.size s.before.now files
      → order.ResultIs (CameIs stands) r (lines_run (lines_for s source) (orders_step (stage_inner s) keys (stage_environment s)) (lines_of files)))
      (λ r same source files told_is numbers.
      let have : HaveLengths s.cut.now.lengths (map Some files) = subst (HaveLengths s.cut.now.lengths) told_is lengths in
      let lists = piece_of s.cut.now.size files in
      let are : AreLines s told all lists = subst (λ (ts : List (Option (List ℕ))). AreLines s ts all lists) (sym told_is) (are_lines whole pieces_told s files have numbers) in
      let o = orders_on_pieces s keys all lists in
      let ran_so : IfOk ran (IsOrder o) = if_ok ran RanOrders (IsOrder o) (λ p h. (orders_are_whole F stands).told s keys told all lists p are h) w in
      let is : order.ResultIs (CameIs stands) r (whole_run o) = subst (λ (q : Result (Gathered (CameOut I)) E'). IfOk q (λ r. order.ResultIs (CameIs stands) r (whole_run o))) same (given o last ran_so) in
      subst (order.ResultIs (CameIs stands) r) (run_of_lines (order_stage_of s keys) all lists (lines_of files) (all_lines_are whole pieces_told s files have some)) is)

-- ---- in the words of the FLWOR

module _ {F I E : Type 0} (stands : I → List Datum → Type 0) (f : DrivenFlwor F) (b : Binding) (count : ℕ) (told : List (Option (List ℕ))) (s : DrivenStage F)
    (h : IsFirstStage f b count s) (cut : s.cut.now ≡ f.cut.now) (g : Result (Gathered (CameOut I)) E) where
  lines_are : (source : BoundTree) → lines_for s source ≡ flwor_lines f (for_over b source p.no_clauses) count
  lines_are source = λ j. record {
    inner = h.inner j;
    env = h.environment j;
    reading = h.reading j;
    place = h.place j;
    variable = (h.binding j).variable.now;
    of = (h.binding j).of.now;
    at = (h.binding j).at.now;
    source = source;
    tuple = tuple_of (h.leading j);
    clauses = bound_clauses (h.clauses j);
  }

  numbers_are : (files : List (List ℕ)) → AreNumbered b.at.now f.cut.now.size f.before.now files → AreNumbered s.binding.at.now s.cut.now.size s.before.now files
  numbers_are files n = subst (λ (x : Type 0). x) (sym (λ j. AreNumbered (h.binding j).at.now (cut j).size (h.before j) files)) n

  pub as_flwor : (end : StageEnd) → end_of s.end ≡ end
      → IfOk g (λ r. (source : BoundTree) (files : List (List ℕ)) → told ≡ map Some files → AreNumbered s.binding.at.now s.cut.now.size s.before.now files
      → ResultIs (CameIs stands) r (lines_run (lines_for s source) (end_step (stage_inner s) (stage_environment s) (end_of s.end)) (lines_of files)))
      → IfOk g (GatheredLines stands f b count end told)
  as_flwor end same k =
      if_ok g (λ r. (source : BoundTree) (files : List (List ℕ)) → told ≡ map Some files → AreNumbered s.binding.at.now s.cut.now.size s.before.now files
      → ResultIs (CameIs stands) r (lines_run (lines_for s source) (end_step (stage_inner s) (stage_environment s) (end_of s.end)) (lines_of files)))
      (GatheredLines stands f b count end told)
      (λ r is source files told_is n.
      let moved : lines_run (lines_for s source) (end_step (stage_inner s) (stage_environment s) (end_of s.end)) (lines_of files)
      ≡ lines_run (flwor_lines f (for_over b source p.no_clauses) count) (end_step (flwor_inner f) (flwor_environment f) end) (lines_of files) =
      λ j. lines_run (lines_are source j) (end_step (h.inner j) (h.environment j) (same j)) (lines_of files) in
      subst (ResultIs (CameIs stands) r) moved (is source files told_is (numbers_are files n))) k

  pub orders_as_flwor : (keys : PlainOrderKeys Slot Target SeqType)
      → IfOk g (λ r. (source : BoundTree) (files : List (List ℕ)) → told ≡ map Some files → AreNumbered s.binding.at.now s.cut.now.size s.before.now files
      → order.ResultIs (CameIs stands) r (lines_run (lines_for s source) (orders_step (stage_inner s) keys (stage_environment s)) (lines_of files)))
      → IfOk g (GatheredOrder stands f b count keys told)
  orders_as_flwor keys k =
      if_ok g (λ r. (source : BoundTree) (files : List (List ℕ)) → told ≡ map Some files → AreNumbered s.binding.at.now s.cut.now.size s.before.now files
      → order.ResultIs (CameIs stands) r (lines_run (lines_for s source) (orders_step (stage_inner s) keys (stage_environment s)) (lines_of files)))
      (GatheredOrder stands f b count keys told)
      (λ r is source files told_is n.
      let moved : lines_run (lines_for s source) (orders_step (stage_inner s) keys (stage_environment s)) (lines_of files)
      ≡ lines_run (flwor_lines f (for_over b source p.no_clauses) count) (orders_step (flwor_inner f) keys (flwor_environment f)) (lines_of files) =
      λ j. lines_run (lines_are source j) (orders_step (h.inner j) keys (h.environment j)) (lines_of files) in
      subst (order.ResultIs (CameIs stands) r) moved (is source files told_is (numbers_are files n))) k

pub last_is : {F : Type 0} (f : DrivenFlwor F) (b : Binding) (count : ℕ) (s : DrivenStage F) → IsFirstStage f b count s → f.lets + 1 + count ≤ length f.clauses.now → last_step s ≡ f.lets + 2 + count
last_is f b count s h within =
    let left : length (after_for f) ≡ length f.clauses.now - (f.lets + 1) = length-drop (f.lets + 1) f.clauses.now in
    let many : length s.clauses.now ≡ count = ap length h.clauses ∙ take_many count (after_for f) (omega (arith, left, within)) in
    let first = h.reading in
    omega (arith, many, first)
