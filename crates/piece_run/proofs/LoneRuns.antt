-- What a lone call of `json-lines` gives over the pieces of its input.
use Rattle.std.proofs.Common.{◌≡◌, ℕ, ◌+◌, ◌<◌, ◌≤◌, List, [], ◌∷◌, length, map, flat_map, Option, Some, Result, Ok, Err, refl, sym, ap, ap₂, ◌∙◌, subst, arith}
use Rattle.std.specs.List.{range_with_len}
use Rattle.item_tree.specs.Datum.{Datum}
use Rattle.item_tree.specs.declared.fault.Fault.{Fault}
use Rattle.item_reader.specs.Lines.{Line, lines}
use Rattle.line_pieces.specs.Cuts.{Cutting, pieces_of, HaveLengths}
use Rattle.line_pieces.specs.Pieces.{piece_of, told_piece}
use Rattle.line_pieces.specs.Laws.{PiecesAreWhole, PiecesAreTold}
use Rattle.query_meaning.specs.Outcome as m
use Rattle.query_meaning.specs.Outcome.{OrFault, Outcome}
use Rattle.stage_laws.specs.Runs as run
use Rattle.stage_laws.specs.Runs.{Met}
use Rattle.stage_laws.specs.Stages.{Stage, ended, kept_as}
use Rattle.stage_laws.specs.Pieces as plain
use Rattle.stage_laws.specs.Laws.{Falls}
use Rattle.stage_laws.specs.Ends.{ended_by}
use Rattle.stage_laws.proofs.Ends.{kept_falls}
use Rattle.stage_laws.proofs.Steps.{ended_falls, driver_falls}
use Rattle.clause_stages.specs.Drivers.{numbered_lines, line_item, unmarked}
use Rattle.clause_stages.specs.InputLines.{line_read}
use Rattle.piece_board.specs.declared.job.Pieces.{Pieces}
use Rattle.piece_board.specs.Whole.{IsWhole}
use Rattle.piece_outcomes.specs.Came.{Came, Seen, nothing_came, came_behind, follow}
use Rattle.piece_outcomes.specs.Counting.{taken_by, told_step}
use Rattle.piece_outcomes.specs.Outcomes.{OutcomeIs}
use Rattle.piece_outcomes.specs.declared.outcome.Counted.{Counted}
use Rattle.piece_outcomes.specs.declared.outcome.Outcome.TheVariants as own
use Rattle.piece_run.specs.Ends.{items_came}
use Rattle.piece_run.specs.Outcomes.{IsOutcomeOf}
use Rattle.piece_run.specs.Gathering.{OnPieces, IsWholeRun, lines_before, whole_run}
use Rattle.piece_run.specs.Kept.{KeptIs}
use Rattle.piece_run.specs.LoneLines.{ItemsAre, numbered_item, lone_stage, IsOfLone, IsLonePiece, lone_pieces}
use Rattle.piece_run.specs.declared.leaf_fault.LeafFault.{LeafFault}
use Rattle.piece_run.specs.declared.lone_lines.ItemsCame.{ItemsCame}
use Rattle.piece_run.proofs.Driving.{held_by, faulted, goes_on}
use Rattle.piece_run.proofs.InputRuns.{good_as, of_told}
use Rattle.piece_run.proofs.Numbering.{pieces_are_numbered}
use Rattle.piece_run.proofs.WholeRuns.{lists_chosen}

-- ---- lines that are read

met_joined : (q r : Outcome) → run.joined (run.met_at {K = Seen} 0 1 q) (run.met_at 0 1 r) ≡ run.met_at 0 1 (m.joined q r)
met_joined (Ok xs) (Ok ys) = refl
met_joined (Ok xs) (Err fault) = refl
met_joined (Err fault) r = refl

module _ {L : Type 0} (read : L → OrFault Datum) where
  lone_as : (n : ℕ) (ls : List L) → run.each_read {K = Seen} 0 (numbered_item read) (numbered_lines n ls) ≡ run.met_at 0 1 (m.each (line_item read) ls)
  lone_as n [] = refl
  lone_as n (l ∷ ls) = ap (run.joined (run.met_at 0 1 (line_item read l))) (lone_as (n + 1) ls) ∙ met_joined (line_item read l) (m.each (line_item read) ls)

  lone_read : (n : ℕ) (ls : List L) (xs : List Datum) → m.each (line_item read) ls ≡ Ok xs → run.each_read {K = Seen} 0 (numbered_item read) (numbered_lines n ls) ≡ Ok xs
  lone_read n ls xs h = lone_as n ls ∙ ap (run.met_at 0 1) h

  lone_faults : (n : ℕ) (ls : List L) (fault : Fault) → m.each (line_item read) ls ≡ Err fault
      → run.each_read {K = Seen} 0 (numbered_item read) (numbered_lines n ls) ≡ Err (record { step = 0; tuple = 1; fault = fault; seen = [] })
  lone_faults n ls fault h = lone_as n ls ∙ ap (run.met_at 0 1) h

-- ---- the stage

ended_came_falls : Falls 1 0 nothing_came follow (kept_as items_came (ended {K = Seen} {F = Fault}))
ended_came_falls = kept_falls 1 0 items_came came_behind ended (λ xs ys. refl) (ended_falls 1 0)

lone_falls : (place : ℕ) → Falls 0 0 nothing_came follow (lone_stage place)
lone_falls place =
    driver_falls 0 1 0 nothing_came follow (numbered_item (line_read place)) (kept_as items_came ended) ended_came_falls (omega arith) (omega arith)

back : (o : Outcome) → ended_by unmarked (λ (came : Came). Ok came.items) (run.◌>>=◌ (run.met_at {K = Seen} 0 1 o) (kept_as items_came ended).run) ≡ o
back (Ok xs) = refl
back (Err fault) = refl

lone_value : (place n : ℕ) (ls : List Line) → ended_by unmarked (λ (came : Came). Ok came.items) ((lone_stage place).run (numbered_lines n ls)) ≡ m.each (line_item (line_read place)) ls
lone_value place n ls =
    ap (λ (q : Result (List Datum) (Met Seen Fault)). ended_by unmarked (λ (came : Came). Ok came.items) (run.◌>>=◌ q (kept_as items_came ended).run)) (lone_as (line_read place) n ls)
    ∙ back (m.each (line_item (line_read place)) ls)

-- ---- a piece

abbrev ends : Stage Datum Came Seen Fault
ends = kept_as items_came ended

module _ {K : Type 0} (stands : K → List Datum → Type 0) (place : ℕ) (ls : List Line) (limit : ℕ) (out : Counted (ItemsCame K)) (none : (n : ℕ) → taken_by out.into n ≡ 0) where
  -- nothing is told at the limit 0
  pub lone_clean : limit ≤ 0 → out.outcome ≡ own.Clean → IsOfLone stands place ls limit out
  lone_clean low is n =
      let up : 0 ≤ 0 = omega arith in
      record {
        plain = plain.clean;
        is = subst (λ o. OutcomeIs (ItemsAre stands) o plain.clean) (sym is) tt;
        carry = held_by 0 0 (numbered_item (line_read place)) ends (numbered_lines n ls) nothing_came follow ended_came_falls limit (taken_by out.into) low up (none 0);
      }

  pub lone_met : (fault : Fault) → 0 < limit → out.outcome ≡ own.Met (record { step = 0; tuple = 1; fault = fault }) → m.each (line_item (line_read place)) ls ≡ Err fault
      → IsOfLone stands place ls limit out
  lone_met fault low is faults n =
      let e : Met Seen Fault = record { step = 0; tuple = 1; fault = fault; seen = [] } in
      record {
        plain = plain.met e;
        is = subst (λ o. OutcomeIs (ItemsAre stands) o (plain.met e)) (sym is) refl;
        carry = faulted 0 0 (numbered_item (line_read place)) ends (numbered_lines n ls) limit e (taken_by out.into) (lone_faults (line_read place) n ls fault faults) low (none 0);
      }

  pub lone_whole : (xs : List Datum) (w : ItemsCame K) → 0 < limit → limit ≤ 1 → out.outcome ≡ own.Whole w → ItemsAre stands w (items_came xs) → m.each (line_item (line_read place)) ls ≡ Ok xs
      → IsOfLone stands place ls limit out
  lone_whole xs w low high is kept reads n =
      let full : limit ≡ 1 = omega (arith, low, high) in
      record {
        plain = plain.whole (items_came xs);
        is = subst (λ o. OutcomeIs (ItemsAre stands) o (plain.whole (items_came xs))) (sym is) kept;
        carry = goes_on 0 0 (numbered_item (line_read place)) ends (numbered_lines n ls) limit xs (record { outcome = plain.whole (items_came xs); into = taken_by out.into }) (lone_read (line_read place) n ls xs reads)
            (record {
              outcome = subst (λ (l : ℕ). ◌≡◌ {A = plain.Outcome Came Seen Fault} (plain.whole (items_came xs)) (plain.told_below 1 l (Ok (items_came xs)))) (sym full) refl;
              into = λ c first last. absurd (none_between c first last);
            })
            (none 0);
      }
    where
      none_between : (c : ℕ) → 1 ≤ c → c ≤ 0 → ⊥
      none_between c first last = omega (arith, first, last)

-- ---- all pieces

module _ {K : Type 0} (stands : K → List Datum → Type 0) (place total : ℕ) (pieces : Pieces (Counted (ItemsCame K))) where
  lone_run : (lists : ℕ → List Line) → IsWhole told_step (λ p limit out. IsOfLone stands place (lists p) limit out) total 1 pieces.done.items pieces.events.items
      → IsWholeRun (ItemsAre stands) (lone_pieces place total lists) pieces
  lone_run lists w = record {
    falls = lone_falls place;
    outputs = good_as told_step (λ p limit out. IsOfLone stands place (lists p) limit out)
        (λ p limit out. IsOutcomeOf (ItemsAre stands) 0 0 (lone_stage place) (numbered_lines (lines_before lists p + 1) (lists p)) limit out) total 1 pieces.done.items pieces.events.items
        (λ p limit out low k. k (lines_before lists p + 1)) w;
  }

  module _ (cut : Cutting) (told : List (Option (List ℕ))) (w : IsWhole told_step (IsLonePiece stands place cut told) total 1 pieces.done.items pieces.events.items) where
    -- what workers give is a whole run on some lines
    pub lone_some : (o : OnPieces Came Seen) × IsWholeRun (ItemsAre stands) o pieces
    lone_some =
        let of : List Line → ℕ → ℕ → Counted (ItemsCame K) → Type 0 = λ ls p limit out. IsOfLone stands place ls limit out in
        let kept = good_as told_step (IsLonePiece stands place cut told) (λ p limit out. (ls : List Line) × of ls p limit out) total 1 pieces.done.items pieces.events.items (λ p limit out low k. (k.lines, k.outcome)) w in
        let chosen = lists_chosen [] told_step of total 1 pieces.done.items pieces.events.items kept in
        (lone_pieces place total chosen.0, lone_run chosen.0 chosen.1)

    -- and on those of the pieces, where these are told
    lone_told : (lists : ℕ → List Line) → ((p : ℕ) → p < total → told_piece cut told p ≡ Some (lists p)) → IsWholeRun (ItemsAre stands) (lone_pieces place total lists) pieces
    lone_told lists are =
        lone_run lists
        (good_as told_step (IsLonePiece stands place cut told) (λ p limit out. IsOfLone stands place (lists p) limit out) total 1 pieces.done.items pieces.events.items
        (λ p limit out low k.
        let same = of_told (told_piece cut told p) k.lines (lists p) (are p low) k.are in
        subst (λ (ls : List Line). IsOfLone stands place ls limit out) same k.outcome) w)

-- ---- all files

-- files that tell their bytes have these lengths
pub lengths_told : (ns : List ℕ) (files : List (List ℕ)) → HaveLengths ns (map Some files) → ns ≡ map length files
lengths_told [] [] h = refl
lengths_told [] (f ∷ fs) h = absurd h
lengths_told (n ∷ ns) [] h = absurd h
lengths_told (n ∷ ns) (f ∷ fs) h = ap₂ (λ (k : ℕ) (ks : List ℕ). k ∷ ks) h.0 (lengths_told ns fs h.1)

module _ (whole : PiecesAreWhole) (piece_told : PiecesAreTold) (cut : Cutting) (some : 0 < cut.size) (told : List (Option (List ℕ))) (held : HaveLengths cut.lengths told) (files : List (List ℕ)) (is : told ≡ map Some files) where
  pub lengths_are : cut.lengths ≡ map length files
  lengths_are = lengths_told cut.lengths files (subst (HaveLengths cut.lengths) is held)

  cut_is : cut ≡ record { lengths = map length files; size = cut.size }
  cut_is = ap (λ (ns : List ℕ). record { lengths = ns; size = cut.size }) lengths_are

  -- each piece is told
  pub pieces_told : (p : ℕ) → p < pieces_of cut.size cut.lengths → told_piece cut told p ≡ Some (piece_of cut.size files p)
  pieces_told p low =
      ap₂ (λ (c : Cutting) (t : List (Option (List ℕ))). told_piece c t p) cut_is is
      ∙ piece_told cut.size files p (subst (λ (ns : List ℕ). p < pieces_of cut.size ns) lengths_are low)

  -- and all pieces are the lines of the files
  pub pieces_whole : flat_map (piece_of cut.size files) (range_with_len 0 (pieces_of cut.size cut.lengths)) ≡ flat_map lines files
  pieces_whole =
      ap (λ (ns : List ℕ). flat_map (piece_of cut.size files) (range_with_len 0 (pieces_of cut.size ns))) lengths_are
      ∙ whole cut.size files some

  pub lines_kept : {K : Type 0} (stands : K → List Datum → Type 0) (place : ℕ) (pieces : Pieces (Counted (ItemsCame K))) (result : Result K LeafFault)
      → IsWhole told_step (IsLonePiece stands place cut told) (pieces_of cut.size cut.lengths) 1 pieces.done.items pieces.events.items
      → ((o : OnPieces Came Seen) → IsWholeRun (ItemsAre stands) o pieces → KeptIs stands result (ended_by unmarked (λ (came : Came). Ok came.items) (whole_run o)))
      → KeptIs stands result (m.each (line_item (line_read place)) (flat_map lines files))
  lines_kept {K = K} stands place pieces result w gathered =
      let total = pieces_of cut.size cut.lengths in
      let lists = piece_of cut.size files in
      let value : ended_by unmarked (λ (came : Came). Ok came.items) (whole_run (lone_pieces place total lists)) ≡ m.each (line_item (line_read place)) (flat_map lines files) =
      ap (λ ls. ended_by unmarked (λ (came : Came). Ok came.items) ((lone_stage place).run ls)) (pieces_are_numbered lists total)
      ∙ lone_value place 1 (flat_map lists (range_with_len 0 total))
      ∙ ap (m.each (line_item (line_read place))) pieces_whole in
      subst (KeptIs stands result) value (gathered (lone_pieces place total lists) (lone_told stands place total pieces cut told w lists pieces_told))
