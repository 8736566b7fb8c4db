-- How many files are opened, name by name.
use Rattle.std.proofs.Common.{◌≡◌, ◌<◌, ◌≤◌, ◌+◌, ◌-◌, ◌^◌, ◌⊎◌, inl, inr, ℕ, suc, List, [], ◌∷◌, ◌++◌, length, take, drop, Option, None, Some, Bool, true, false, not, cond, Ok, map, get_or, refl, sym, ap, ◌∙◌, subst, arith}
use Rattle.std.specs.Prelude.{IfSome, is_some}
use Rattle.std.proofs.lemmas.List.{map-append, drop_more}
use Rattle.std.proofs.Math.Seq.{take-suc}
use Rattle.outside.specs.Opens.{InputCounts}
use Rattle.outside.specs.World.{World, file_of}
use Rattle.query_meaning.specs.inside.Computed.{inputs_of}
use Rattle.query_meaning.specs.declared.library.Held.{Held}
use Rattle.rumble_run.specs.Ends.{OpenedJust, MissedJust, NoCountFalls}
use Rattle.rumble_run.specs.Opens.{Search, files_among, missing_among, search_among}
use Rattle.rumble_run.specs.inside.Held.{entry, read_entry}
use Rattle.rumble_run.specs.inside.Reads.{Leaves, SearchedAll, SearchedSome, search_of_name}

-- what holds of a told world, from what holds of it
pub told_from_two : {P Q R : World → Type 0} (world : Option World) → ((w : World) → P w → Q w → R w) → IfSome world P → IfSome world Q → IfSome world R
told_from_two None f g h = tt
told_from_two (Some w) f g h = f w g h

pub told_all : {P : World → Type 0} (world : Option World) → ((w : World) → P w) → IfSome world P
told_all None f = tt
told_all (Some w) f = f w

-- how many files these names still open, and how many of them are missing
abbrev pub left : World → List (List ℕ) → ℕ
left world names = length (files_among world names)

abbrev pub lacking : World → List (List ℕ) → ℕ
lacking world names = length (missing_among world names)

left_next : (world : World) (name : List ℕ) (names : List (List ℕ)) → left world (name ∷ names) ≡ left world (name ∷ []) + left world names
left_next world name names = by (is_some (file_of world name))
  where
    more : List (List ℕ)
    more = files_among world names

    by : (b : Bool) → length (cond b (name ∷ more) more) ≡ length (cond b (name ∷ []) []) + length more
    by true = omega arith
    by false = omega arith

lacking_next : (world : World) (name : List ℕ) (names : List (List ℕ)) → lacking world (name ∷ names) ≡ lacking world (name ∷ []) + lacking world names
lacking_next world name names = by (is_some (file_of world name))
  where
    more : List (List ℕ)
    more = missing_among world names

    by : (b : Bool) → length (cond (not b) (name ∷ more) more) ≡ length (cond (not b) (name ∷ []) []) + length more
    by true = omega arith
    by false = omega arith

pub opened_then : (m n : ℕ) (start now after : InputCounts) → NoCountFalls now after → OpenedJust m start now → OpenedJust n now after → OpenedJust (m + n) start after
opened_then m n start now after falls h g = (
  omega (arith, h.0, g.0),
  λ small.
      let last = g.1 small in
      let mid = h.1 (omega (arith, falls.opened, small)) in
      omega (arith, last, mid),
)

pub missed_then : (m n : ℕ) (start now after : InputCounts) → NoCountFalls now after → MissedJust m start now → MissedJust n now after → MissedJust (m + n) start after
missed_then m n start now after falls h g = (
  omega (arith, h.0, g.0),
  λ small.
      let last = g.1 small in
      let mid = h.1 (omega (arith, falls.misses, small)) in
      omega (arith, last, mid),
)

pub none_missed : (counts : InputCounts) → MissedJust 0 counts counts
none_missed counts = (omega arith, λ h. omega arith)

-- so many were opened and missing, and those behind are still to be looked for, of all
pub record Opening (world : World) (names all : List (List ℕ)) (start now : InputCounts) : Type 0 where
  pub so_far : ℕ
  pub total : so_far + left world names ≡ left world all
  pub opened : OpenedJust so_far start now
  pub gone : ℕ
  pub whole : gone + lacking world names ≡ lacking world all
  pub missed : MissedJust gone start now

pub opening : (world : World) (names : List (List ℕ)) (counts : InputCounts) → Opening world names names counts counts
opening world names counts = record {
  so_far = 0;
  total = omega arith;
  opened = (omega arith, λ h. omega arith);
  gone = 0;
  whole = omega arith;
  missed = none_missed counts;
}

pub opened_next : (world : World) (name : List ℕ) (names all : List (List ℕ)) (start now after : InputCounts) → NoCountFalls now after
    → Opening world (name ∷ names) all start now → SearchedAll (search_of_name world name) now after → Opening world names all start after
opened_next world name names all start now after falls h g = record {
  so_far = h.so_far + left world (name ∷ []);
  total = omega (arith, h.total, left_next world name names);
  opened = opened_then h.so_far (left world (name ∷ [])) start now after falls h.opened g.0;
  gone = h.gone + lacking world (name ∷ []);
  whole = omega (arith, h.whole, lacking_next world name names);
  missed = missed_then h.gone (lacking world (name ∷ [])) start now after falls h.missed g.1;
}

-- a call that stops looks for no more than all of them
pub stopped_within : (world : World) (names all : List (List ℕ)) (start now : InputCounts) → Opening world names all start now
    → SearchedSome (search_among world all) start now
stopped_within world names all start now h =
    (omega (arith, h.total, h.opened.0), omega (arith, h.whole, h.missed.0))

pub stopped_next : (world : World) (name : List ℕ) (names all : List (List ℕ)) (start now after : InputCounts)
    → Opening world (name ∷ names) all start now → SearchedSome (search_of_name world name) now after
    → SearchedSome (search_among world all) start after
stopped_next world name names all start now after h g = (
  omega (arith, h.total, left_next world name names, h.opened.0, g.0),
  omega (arith, h.whole, lacking_next world name names, h.missed.0, g.1),
)

pub all_opened : (world : World) (all : List (List ℕ)) (start now : InputCounts) → Opening world [] all start now → SearchedAll (search_among world all) start now
all_opened world all start now h =
    let same : h.so_far ≡ left world all = omega (arith, h.total) in
    let gone : h.gone ≡ lacking world all = omega (arith, h.whole) in
    (subst (λ n. OpenedJust n start now) same h.opened, subst (λ n. MissedJust n start now) gone h.missed)

-- ---- what is left of the counts behind two calls

pub leaves_then : {S T U : Type 0} (x : S) (y : T) (z : U) (start now after : InputCounts) → Leaves (Ok x) start now → Leaves (Ok y) now after → Leaves (Ok z) start after
leaves_then x y z start now after g h = record {
  cause = h.cause ∙ g.cause;
  rises = record {
    faults = omega (arith, g.rises.faults, h.rises.faults);
    misses = omega (arith, g.rises.misses, h.rises.misses);
    opened = omega (arith, g.rises.opened, h.rises.opened);
    closed = omega (arith, g.rises.closed, h.rises.closed);
  };
  balanced = record {
    same = λ o c.
        let late = h.balanced.same o c in
        let early = g.balanced.same (omega (arith, h.rises.opened, o)) (omega (arith, h.rises.closed, c)) in
        omega (arith, early, late);
  };
}

-- ---- one step through a list

pub next_taken : (names : List (List ℕ)) (i : ℕ) (name : List ℕ) → i < length names → name ≡ get_or names i name → take (i + 1) names ≡ take i names ++ name ∷ []
next_taken names i name lt is =
    let one : i + 1 ≡ suc i = omega arith in
    ap (λ k. take k names) one ∙ take-suc names i name lt ∙ ap (λ n. take i names ++ n ∷ []) (sym is)

pub next_dropped : (names : List (List ℕ)) (i : ℕ) (name : List ℕ) → i < length names → name ≡ get_or names i name → drop i names ≡ name ∷ drop (i + 1) names
next_dropped names i name lt is = drop_more names i name lt ∙ ap (λ n. n ∷ drop (i + 1) names) (sym is)

pub pushed_read : (world : World) (held : List (List ℕ × Held)) (one : List ℕ × Held) (before after : List (List ℕ)) (name : List ℕ) → after ≡ before ++ name ∷ []
    → map entry held ≡ inputs_of world before → entry one ≡ read_entry world name → map entry (held ++ one ∷ []) ≡ inputs_of world after
pushed_read world held one before after name e m is =
    map-append entry held (one ∷ []) ∙ (λ i. m i ++ is i ∷ []) ∙ sym (map-append (read_entry world) before (name ∷ [])) ∙ ap (inputs_of world) (sym e)

pub opening_at : (world : World) (names all rest : List (List ℕ)) (name : List ℕ) (start now next : InputCounts) → names ≡ name ∷ rest → NoCountFalls now next
    → Opening world names all start now → SearchedAll (search_of_name world name) now next → Opening world rest all start next
opening_at world names all rest name start now next n falls h g =
    opened_next world name rest all start now next falls (subst (λ ns. Opening world ns all start now) n h) g

-- ---- a name that is looked for, in a told world

pub nothing_some : (search : Search) (counts : InputCounts) → SearchedSome search counts counts
nothing_some search counts = (omega arith, omega arith)
