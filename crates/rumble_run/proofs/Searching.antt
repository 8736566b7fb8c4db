-- What is left of the counts where a search was gone through, by the status.
use Rattle.std.proofs.Common.{◌≡◌, ◌≤◌, ◌+◌, ℕ, suc, Bool, true, false, List, [], ◌∷◌, length, Option, None, Some, refl, sym, ap, ◌∙◌, subst, arith}
use Rattle.std.specs.Prelude.{IfSome}
use Rattle.outside.specs.Opens.{InputCounts}
use Rattle.outside.specs.World.{World}
use Rattle.rumble_run.specs.Ends.{NoCountFalls, OpenedJust, OpenedAtMost, OpenedBetween, OpenedWhere, OpenedBy, MissedJust, MissedAtMost, MissedBetween, MissedWhere, MissedBy}
use Rattle.rumble_run.specs.Opens.{Search, search_of, search_among, files_among, missing_among, no_search, all_opens, all_misses, after_file}
use Rattle.rumble_run.specs.inside.Decided.{SearchedBy}
use Rattle.rumble_run.specs.inside.Reads.{SearchedAll, SearchedSome}
use Rattle.rumble_run.specs.inside.Seen.{status_of_stop}
use Rattle.rumble_run.specs.declared.status.Status.{Status}
use Rattle.rumble_run.specs.declared.status.Status.TheVariants.{Done, Raised, Refused, Usage, ReadFault, WriteFault, NoMemory, NoQuery}
use Rattle.rumble_run.specs.declared.status.Stop.{Stop}
use Rattle.rumble_run.specs.declared.status.Stop.TheVariants as stop
use Rattle.rumble_run.proofs.Opened.{opened_then}

-- ---- a search without drivers

none_more : (n : ℕ) → n + 0 ≡ n
none_more n = omega arith

just_between : (n : ℕ) (before after : InputCounts) → OpenedJust n before after → OpenedBetween n (n + 0) before after
just_between n before after h = (omega (arith, h.0), λ small. let e = h.1 small in omega (arith, e))

missed_all : (n : ℕ) (before after : InputCounts) → MissedJust n before after → MissedBetween n (n + 0) before after
missed_all n before after h = (omega (arith, h.0), λ small. let e = h.1 small in omega (arith, e))

just_all : (n : ℕ) (before after : InputCounts) → OpenedJust n before after → OpenedJust (n + 0) before after
just_all n before after h = subst (λ k. OpenedJust k before after) (sym (none_more n)) h

-- all of it was gone through, whatever the status
pub plain_searched : (files missing : List (List ℕ)) (s : Status) (before after : InputCounts) → SearchedAll (search_of files missing) before after → SearchedBy (search_of files missing) s before after
plain_searched files missing Done before after h = (just_all (length files) before after h.0, h.1)
plain_searched files missing WriteFault before after h = (just_all (length files) before after h.0, h.1)
plain_searched files missing ReadFault before after h = (omega (arith, h.0.0), omega (arith, h.1.0))
plain_searched files missing NoMemory before after h = (omega (arith, h.0.0), omega (arith, h.1.0))
plain_searched files missing Raised before after h = (just_between (length files) before after h.0, missed_all (length missing) before after h.1)
plain_searched files missing Refused before after h = (just_between (length files) before after h.0, missed_all (length missing) before after h.1)
plain_searched files missing Usage before after h = (just_between (length files) before after h.0, missed_all (length missing) before after h.1)
plain_searched files missing NoQuery before after h = (just_between (length files) before after h.0, missed_all (length missing) before after h.1)

pub nothing_by : (s : Status) (counts : InputCounts) → SearchedBy no_search s counts counts
nothing_by s counts = plain_searched [] [] s counts counts ((omega arith, λ h. omega arith), (omega arith, λ h. omega arith))

-- some of it was, where the call stopped; the drivers may not have been come to
pub some_searched : (search : Search) (x : Stop) (before after : InputCounts) → SearchedSome search before after → SearchedBy search (status_of_stop x) before after
some_searched search stop.ReadFault before after h = (omega (arith, h.0), omega (arith, h.1))
some_searched search stop.NoMemory before after h = (omega (arith, h.0), omega (arith, h.1))

-- the same over the world that is told
pub all_told : (s : Status) (names : List (List ℕ)) (world : Option World) (before after : InputCounts) → IfSome world (λ w. SearchedAll (search_among w names) before after)
    → IfSome world (λ w. SearchedBy (search_among w names) s before after)
all_told s names None before after h = tt
all_told s names (Some w) before after h = plain_searched (files_among w names) (missing_among w names) s before after h

pub some_told : (x : Stop) (names : List (List ℕ)) (world : Option World) (before after : InputCounts) → IfSome world (λ w. SearchedSome (search_among w names) before after)
    → IfSome world (λ w. SearchedBy (search_among w names) (status_of_stop x) before after)
some_told x names None before after h = tt
some_told x names (Some w) before after h = some_searched (search_among w names) x before after h

-- ---- one file before it

module _ (search : Search) (name : List ℕ) (before mid after : InputCounts) (falls : NoCountFalls mid after) (opened : OpenedJust 1 before mid) (missed : MissedJust 0 before mid) where
  abbrev later : Search
  later = after_file name search

  at_most : OpenedAtMost (all_opens search) mid after → OpenedAtMost (all_opens later) before after
  at_most h = omega (arith, h, opened.0)

  between : OpenedBetween (length search.files) (all_opens search) mid after → OpenedBetween (length later.files) (all_opens later) before after
  between h = (omega (arith, h.0, opened.0), λ small. let first = opened.1 (omega (arith, falls.opened, small)) in let last = h.1 small in omega (arith, first, last))

  opened_where : (certain : Bool) → OpenedWhere certain search mid after → OpenedWhere certain later before after
  opened_where true h =
      let more : 1 + (length search.files + search.driven.opens) ≡ length later.files + search.driven.opens = omega arith in
      subst (λ n. OpenedJust n before after) more (opened_then 1 (length search.files + search.driven.opens) before mid after falls opened h)
  opened_where false h = between h

  missed_at_most : MissedAtMost (all_misses search) mid after → MissedAtMost (all_misses later) before after
  missed_at_most h = omega (arith, h, missed.0)

  missed_between : MissedBetween (length search.missing) (all_misses search) mid after → MissedBetween (length later.missing) (all_misses later) before after
  missed_between h = (omega (arith, h.0, missed.0), λ small. let first = missed.1 (omega (arith, falls.misses, small)) in let last = h.1 small in omega (arith, first, last))

  missed_where : (certain : Bool) → MissedWhere certain search mid after → MissedWhere certain later before after
  missed_where true h = (omega (arith, h.0, missed.0), λ small. let last = h.1 small in let first = missed.1 (omega (arith, falls.misses, small)) in omega (arith, first, last))
  missed_where false h = missed_between h

  pub behind_file : (s : Status) → SearchedBy search s mid after → SearchedBy later s before after
  behind_file Done h = (opened_where search.driven.certain h.0, missed_where search.driven.certain h.1)
  behind_file WriteFault h = (opened_where search.driven.certain h.0, missed_where search.driven.certain h.1)
  behind_file ReadFault h = (at_most h.0, missed_at_most h.1)
  behind_file NoMemory h = (at_most h.0, missed_at_most h.1)
  behind_file Raised h = (between h.0, missed_between h.1)
  behind_file Refused h = (between h.0, missed_between h.1)
  behind_file Usage h = (between h.0, missed_between h.1)
  behind_file NoQuery h = (between h.0, missed_between h.1)
