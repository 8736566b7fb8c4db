-- What there is of a name, by what was read.
use Rattle.std.proofs.Common.{◌≡◌, inl, inr, ◌<◌, ◌≤◌, ◌+◌, ◌++◌, ℕ, Bool, true, false, nat_lt, List, length, take, drop, Option, None, Some, option_map, Ok, Err, refl, sym, ap, ◌∙◌, subst, arith, rules, take-append-drop, length-take-le}
use Rattle.std.proofs.lemmas.Bool.Decides.{nat_tests}
use Rattle.std.proofs.lemmas.List.{length-append, take_all}
use Rattle.item_tree.specs.declared.code.Code.{Code}
use Rattle.item_tree.specs.declared.code.Code.TheVariants.{XPST0003, PJST0005}
use Rattle.outside.specs.Opens.{InputCounts}
use Rattle.outside.specs.World.{World, file_of}
use Rattle.module_names.specs.declared.alone.Unread.TheVariants as unread
use Rattle.module_names.specs.declared.file_bytes.Kept.{Kept}
use Rattle.module_names.specs.declared.order.Source as code
use Rattle.module_names.specs.declared.wanted.Found.TheVariants as found
use Rattle.module_names.specs.Alone.{Answer, Reader, max_length, most_read, IsRead, AreKept, with_contents}
use Rattle.module_names.specs.Counts.{LeavesRead, OtherCause, long, bytes, reader}
use Rattle.module_names.specs.Loading.{Name, Source}
use Rattle.module_names.specs.Remaining.{source_view}
use Rattle.module_names.specs.inside.Wanted.{IsFound, LeavesFound}

none_is_some : {A : Type 0} (x : A) → None ≡ Some x → ⊥
none_is_some x e = search rules

some_is : {A : Type 0} (x y : A) → Some x ≡ Some y → x ≡ y
some_is x y e = cc

ok_is_err : {A E : Type 0} (x : A) (e : E) → Ok x ≡ Err e → ⊥
ok_is_err x e is = search rules

-- ---- the bytes that are read of a file

-- where there are few, they are all
all_read : (max most : ℕ) (all : List ℕ) → most ≡ max + 1 → length (take most all) ≤ max → take most all ≡ all
all_read max most all one few = by (nat_lt max (length all)) refl
  where
    by : (b : Bool) → nat_lt max (length all) ≡ b → take most all ≡ all
    by true e =
        let more : max < length all = grind (arith, nat_tests, e) in
        let count : length (take most all) ≡ most = length-take-le most all (omega (arith, more, one)) in
        absurd (omega (arith, few, count, one))
    by false e =
        let less : length all ≤ max = grind (arith, nat_tests, e) in
        take_all most all (omega (arith, less, one))

-- where there are many, the file has many
more_held : (max most : ℕ) (all : List ℕ) → max < length (take most all) → max < length all
more_held max most all more =
    let parts : take most all ++ drop most all ≡ all = take-append-drop most all in
    let sum : length (take most all) + length (drop most all) ≡ length all
    = sym (length-append (take most all) (drop most all)) ∙ ap length parts in
    omega (arith, more, sum)

pub most_is : most_read ≡ max_length + 1
unfolding most_read
most_is = refl

-- the file is there, and these are the first of its bytes
pub record IsStart (held : Option (List ℕ)) (contents : List ℕ) : Type 0 where
  pub all : List ℕ
  pub there : held ≡ Some all
  pub start : contents ≡ take most_read all

no_start : (held : Option (List ℕ)) → None ≡ option_map (take most_read) held → held ≡ None
no_start None e = refl
no_start (Some all) e = absurd (none_is_some (take most_read all) e)

pub start_is : (held : Option (List ℕ)) (contents : List ℕ) → Some contents ≡ option_map (take most_read) held → IsStart held contents
start_is None contents e = absurd (none_is_some contents (sym e))
start_is (Some all) contents e = record { all = all; there = refl; start = some_is contents (take most_read all) e }

abbrev code_of : {T : Type 0} → Answer T → Code
code_of (Err (unread.Refused c place)) = c
code_of _ = XPST0003

abbrev place_of : {T : Type 0} → Answer T → ℕ
place_of (Err (unread.Refused c place)) = place
place_of _ = 0

module _ {T : Type 0} (reads : Reader T) where
  -- the reader's answer to the all that are read is its answer to the file
  pub kept_of : (all contents : List ℕ) (c : Code) (place : ℕ) → contents ≡ take most_read all
      → IsRead reads contents (Err (unread.Refused c place))
      → AreKept c place all contents × IsRead reads all (Err (unread.Refused c place))
  kept_of all contents c place start (inl (large, is)) =
      let more = more_held max_length most_read all (subst (λ (b : List ℕ). max_length < length b) start large) in
      (inr (more, ap code_of is, ap place_of is, start), inl (more, is))
  kept_of all contents c place start (inr (short, read)) =
      let whole : contents ≡ all = start ∙ all_read max_length most_read all most_is (subst (λ (b : List ℕ). length b ≤ max_length) start short) in
      (inl whole, subst (λ (b : List ℕ). IsRead reads b (Err (unread.Refused c place))) whole (inr (short, read)))

  pub whole_of : (all contents : List ℕ) (source : code.Source T) → contents ≡ take most_read all
      → IsRead reads contents (Ok source) → contents ≡ all
  whole_of all contents source start (inl (large, is)) = absurd (ok_is_err source (unread.Refused PJST0005 0) is)
  whole_of all contents source start (inr (short, read)) =
      start ∙ all_read max_length most_read all most_is (subst (λ (b : List ℕ). length b ≤ max_length) start short)

  pub read_found : (w : World) (name asked : Name) (held contents : List ℕ) (source : code.Source T) (kept : code.Source (Kept T))
      → Some held ≡ option_map (take most_read) (file_of w asked) → asked ≡ name → contents ≡ held → IsRead reads contents (Ok source)
      → source_view kept ≡ with_contents contents (source_view source) → IsFound reads w name (found.Read kept)
  read_found w name asked held contents source kept there same is read view =
      let own : kept.rest.contents ≡ contents = ap (λ (s : Source (Kept T)). s.rest.contents) view in
      let start = start_is (file_of w asked) held there in
      let all : contents ≡ start.all = whole_of start.all contents source (is ∙ start.start) read in (
        ap (file_of w) (sym same) ∙ start.there ∙ ap Some (sym all) ∙ ap Some (sym own),
        (
          source,
          subst (λ (b : List ℕ). IsRead reads b (Ok source)) (sym own) read,
          view ∙ ap (λ (b : List ℕ). with_contents b (source_view source)) (sym own),
        ),
      )

  -- a file that is refused alone is too long, no text, or refused by its reader
  pub refused_alone : (contents : List ℕ) (c : Code) (place : ℕ) → IsRead reads contents (Err (unread.Refused c place)) → OtherCause reads c
  refused_alone contents c place (inl (large, is)) = subst (λ (d : Code). OtherCause reads d) (sym (ap code_of is)) long
  refused_alone contents c place (inr (short, inl (at, valid, is))) = subst (λ (d : Code). OtherCause reads d) (sym (ap code_of is)) bytes
  refused_alone contents c place (inr (short, inr (valid, told))) = reader _ c place told

  pub missing_there : (w : World) (name asked : Name) → None ≡ option_map (take most_read) (file_of w asked) → asked ≡ name → IsFound reads w name found.Missing
  missing_there w name asked none same = ap (file_of w) (sym same) ∙ no_start (file_of w asked) none

  pub refused_there : (w : World) (name asked : Name) (held contents : List ℕ) (c : Code) (place : ℕ)
      → Some held ≡ option_map (take most_read) (file_of w asked) → asked ≡ name → contents ≡ held
      → IsRead reads contents (Err (unread.Refused c place)) → IsFound reads w name (found.Refused c place contents)
  refused_there w name asked held contents c place there same is read =
      let start = start_is (file_of w asked) held there in
      let kept = kept_of start.all contents c place (is ∙ start.start) read in
      (start.all, ap (file_of w) (sym same) ∙ start.there, kept.0, kept.1)

  pub refused_found : {A : Type 0} (x : A) (contents : List ℕ) (c : Code) (place : ℕ) (before after : InputCounts) → LeavesRead (Ok (Some x)) before after
      → IsRead reads contents (Err (unread.Refused c place)) → LeavesFound reads (Ok (found.Refused c place contents)) before after
  refused_found x contents c place before after h read = record {
    faults = h.cause;
    misses = (refused_alone contents c place read, h.missed);
    falls = h.falls;
    balanced = h.balanced;
    opened = h.opened;
  }
