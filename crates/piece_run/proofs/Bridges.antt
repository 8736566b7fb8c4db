-- What the steps of a `for` over lines give, in the words of the meaning: lines are read, and items
-- are bound.
use Rattle.std.proofs.Common.{◌≡◌, ℕ, ◌+◌, List, [], ◌∷◌, Option, Some, None, Result, Ok, Err, refl, ap, ◌∙◌}
use Rattle.item_tree.specs.Datum.{Datum}
use Rattle.item_tree.specs.declared.fault.Fault.{Fault}
use Rattle.seq_types.specs.declared.types.SeqType.{SeqType}
use Rattle.query_tree.specs.declared.bound.Slot.{Slot}
use Rattle.query_tree.specs.declared.names.Placed.{Placed}
use Rattle.query_meaning.specs.Outcome as m
use Rattle.query_meaning.specs.Outcome.{OrFault, Outcome}
use Rattle.query_meaning.specs.Environment.{Tuple}
use Rattle.query_meaning.specs.Clauses.{bound_tuple}
use Rattle.stage_laws.specs.Runs as run
use Rattle.stage_laws.specs.Runs.{Met}
use Rattle.clause_stages.specs.Drivers.{numbered_lines, line_item, placed_item, item_tuple}
use Rattle.clause_eval.specs.OneByOne.{bound_item}
use Rattle.piece_run.specs.Driven.{MayBegin}

-- ---- lines

module _ (K : Type 0) (number : ℕ) where
  -- the items with their numbers, or the fault of a line
  abbrev read_as : ℕ → Outcome → Result (List (ℕ × Datum)) (Met K Fault)
  read_as n (Ok xs) = Ok (numbered_lines n xs)
  read_as n (Err fault) = Err (record { step = number; tuple = 1; fault = fault; seen = [] })

  item_before : (n : ℕ) (x : Datum) (r : Outcome) → run.joined (Ok ((n, x) ∷ [])) (read_as (n + 1) r) ≡ read_as n (m.joined (Ok (x ∷ [])) r)
  item_before n x (Ok xs) = refl
  item_before n x (Err fault) = refl

  line_before : (n : ℕ) (o : OrFault Datum) (r : Outcome) → run.joined (run.met_at number 1 (m.◌>>=◌ o (λ x. Ok ((n, x) ∷ [])))) (read_as (n + 1) r) ≡ read_as n (m.joined (m.◌>>=◌ o (λ x. Ok (x ∷ []))) r)
  line_before n (Ok x) r = item_before n x r
  line_before n (Err fault) r = refl

  module _ {L : Type 0} (read : L → OrFault Datum) where
    lines_as : (n : ℕ) (ls : List L) → run.each_read {K = K} number (placed_item read) (numbered_lines n ls) ≡ read_as n (m.each (line_item read) ls)
    lines_as n [] = refl
    lines_as n (l ∷ ls) =
        ap (run.joined (run.met_at number 1 (placed_item read (n, l)))) (lines_as (n + 1) ls)
        ∙ line_before n (read l) (m.each (line_item read) ls)

    pub lines_read : (n : ℕ) (ls : List L) (xs : List Datum) → m.each (line_item read) ls ≡ Ok xs
        → run.each_read {K = K} number (placed_item read) (numbered_lines n ls) ≡ Ok (numbered_lines n xs)
    lines_read n ls xs h = lines_as n ls ∙ ap (read_as n) h

    pub line_faults : (n : ℕ) (ls : List L) (fault : Fault) → m.each (line_item read) ls ≡ Err fault
        → run.each_read {K = K} number (placed_item read) (numbered_lines n ls) ≡ Err (record { step = number; tuple = 1; fault = fault; seen = [] })
    line_faults n ls fault h = lines_as n ls ∙ ap (read_as n) h

-- ---- items

module _ {B : Type 0} (K : Type 0) (number : ℕ) (f : ℕ × Datum → OrFault (List B)) where
  met_joined : (q r : OrFault (List B)) → run.joined (run.met_at {K = K} number 1 q) (run.met_at number 1 r) ≡ run.met_at number 1 (m.joined q r)
  met_joined (Ok xs) (Ok ys) = refl
  met_joined (Ok xs) (Err fault) = refl
  met_joined (Err fault) r = refl

  items_as : (n : ℕ) (xs : List Datum) → run.each_read {K = K} number f (numbered_lines n xs) ≡ run.met_at number 1 (m.each_from (λ n x. f (n, x)) n xs)
  items_as n [] = refl
  items_as n (x ∷ xs) =
      ap (run.joined (run.met_at number 1 (f (n, x)))) (items_as (n + 1) xs)
      ∙ met_joined (f (n, x)) (m.each_from (λ n x. f (n, x)) (n + 1) xs)

module _ (K : Type 0) (number : ℕ) (variable : Placed Slot) (t : Option (Placed SeqType)) (tuple : Tuple) where
  abbrev bound : Option (Placed Slot) → ℕ → List Datum → OrFault (List Tuple)
  bound at n xs = m.each_from (bound_item variable t at tuple) n xs

  -- where no variable has the number, it may begin anywhere
  begins_anywhere : (first n : ℕ) (xs : List Datum) → bound None n xs ≡ bound None first xs
  unfolding bound_item bound_tuple
  begins_anywhere first n [] = refl
  begins_anywhere first n (x ∷ xs) = ap (m.joined (bound_item variable t None tuple n x)) (begins_anywhere (first + 1) (n + 1) xs)

  may_begin : (at : Option (Placed Slot)) (first n : ℕ) (xs : List Datum) → MayBegin at first n → bound at n xs ≡ bound at first xs
  may_begin None first n xs h = begins_anywhere first n xs
  may_begin (Some at) first n xs h = ap (λ (k : ℕ). bound (Some at) k xs) h

  bound_as : (at : Option (Placed Slot)) (first n : ℕ) (xs : List Datum) → MayBegin at first n
      → run.each_read {K = K} number (item_tuple variable t at tuple) (numbered_lines n xs) ≡ run.met_at number 1 (bound at first xs)
  unfolding bound_item
  bound_as at first n xs h = items_as K number (item_tuple variable t at tuple) n xs ∙ ap (run.met_at number 1) (may_begin at first n xs h)

  pub items_bound : (at : Option (Placed Slot)) (first n : ℕ) (xs : List Datum) (ts : List Tuple) → MayBegin at first n → bound at first xs ≡ Ok ts
      → run.each_read {K = K} number (item_tuple variable t at tuple) (numbered_lines n xs) ≡ Ok ts
  items_bound at first n xs ts h is = bound_as at first n xs h ∙ ap (run.met_at number 1) is

  pub item_faults : (at : Option (Placed Slot)) (first n : ℕ) (xs : List Datum) (fault : Fault) → MayBegin at first n → bound at first xs ≡ Err fault
      → run.each_read {K = K} number (item_tuple variable t at tuple) (numbered_lines n xs) ≡ Err (record { step = number; tuple = 1; fault = fault; seen = [] })
  item_faults at first n xs fault h is = bound_as at first n xs h ∙ ap (run.met_at number 1) is
