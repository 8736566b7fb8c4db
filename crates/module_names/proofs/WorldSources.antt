-- Each world has its sources.
use Rattle.std.proofs.Common.{◌≡◌, ◌⊎◌, inl, inr, ◌<◌, ◌≤◌, ℕ, zero, suc, List, [], ◌∷◌, length, take, map, Bool, true, false, cond, None, Some, Result, Ok, Err, refl, sym, ap, ◌∙◌, subst, arith}
use Rattle.std.specs.Str.{IsUtf8, IsValidUpTo, is_utf8, bytes_eq}
use Rattle.std.proofs.Math.Nat.{eq-or-lt_of_le}
use Rattle.std.proofs.lemmas.Bool.{cases_lt, cases_order}
use Rattle.std.proofs.lemmas.List.{take_all}
use Rattle.std.proofs.lemmas.Str.{IsUtf8-nil, IsUtf8-from_is_utf8, is_utf8-from_IsUtf8}
use Rattle.item_tree.specs.declared.code.Code.{Code}
use Rattle.item_tree.specs.declared.code.Code.TheVariants.{XPST0003, PJST0005}
use Rattle.item_reader.specs.Lines.{without_mark}
use Rattle.outside.specs.World.{World, file_of}
use Rattle.module_names.specs.declared.alone.Unread.TheVariants as fault
use Rattle.module_names.specs.declared.file_bytes.Kept.{Kept}
use Rattle.module_names.specs.Alone.{Answer, Reader, IsRead, ComesTo, max_length, with_contents}
use Rattle.module_names.specs.Loading.{Name, Source, Unread, Sources, source_of}
use Rattle.module_names.specs.Worlds.{Says, Gives, HasSources}

-- ---- where bytes stop being UTF-8

-- the longest beginning of at most n bytes that is UTF-8, where no longer one is
record IsLongest (bytes : List ℕ) (n : ℕ) : Type 0 where
  place : ℕ
  within : place ≤ n
  before : IsUtf8 (take place bytes)
  longest : (more : ℕ) → place < more → IsUtf8 (take more bytes) → ⊥

-- a longer beginning than of n bytes is of n + 1, or longer
longer : (bytes : List ℕ) (n : ℕ) → is_utf8 (take (suc n) bytes) ≡ false → ((more : ℕ) → suc n < more → IsUtf8 (take more bytes) → ⊥) → (more : ℕ) → n < more
    → IsUtf8 (take more bytes) → ⊥
longer bytes n e never more lt u = sorted (eq-or-lt_of_le lt)
  where
    sorted : (suc n ≡ more) ⊎ (suc n < more) → ⊥
    sorted (inl is) = let t : is_utf8 (take (suc n) bytes) ≡ true = is_utf8-from_IsUtf8 _ (subst (λ m. IsUtf8 (take m bytes)) (sym is) u) in cc
    sorted (inr beyond) = never more beyond u

longest_by : (bytes : List ℕ) (n : ℕ) → ((more : ℕ) → suc n < more → IsUtf8 (take more bytes) → ⊥)
    → (((more : ℕ) → n < more → IsUtf8 (take more bytes) → ⊥) → IsLongest bytes n) → (b : Bool) → is_utf8 (take (suc n) bytes) ≡ b → IsLongest bytes (suc n)
longest_by bytes n never below true e = record { place = suc n; within = omega arith; before = IsUtf8-from_is_utf8 _ e; longest = never }
longest_by bytes n never below false e =
    let l : IsLongest bytes n = below (longer bytes n e never) in
    record { place = l.place; within = omega (arith, l.within); before = l.before; longest = l.longest }

longest_up_to : (bytes : List ℕ) (n : ℕ) → ((more : ℕ) → n < more → IsUtf8 (take more bytes) → ⊥) → IsLongest bytes n
longest_up_to bytes zero never = record { place = zero; within = omega arith; before = IsUtf8-nil; longest = never }
longest_up_to bytes (suc n) never = longest_by bytes n never (λ h. longest_up_to bytes n h) (is_utf8 (take (suc n) bytes)) refl

pub breaks : (bytes : List ℕ) → is_utf8 bytes ≡ false → (place : ℕ) × IsValidUpTo bytes place
breaks bytes e = (l.place, record { short = short (eq-or-lt_of_le l.within); front = l.before; longest = l.longest })
  where
    whole : IsUtf8 bytes → ⊥
    whole u = let t : is_utf8 bytes ≡ true = is_utf8-from_IsUtf8 bytes u in cc

    l : IsLongest bytes (length bytes)
    l = longest_up_to bytes (length bytes) (λ more lt u. whole (subst IsUtf8 (take_all more bytes (omega (arith, lt))) u))

    short : (l.place ≡ length bytes) ⊎ (l.place < length bytes) → l.place < length bytes
    short (inl is) = absurd (whole (subst IsUtf8 (take_all l.place bytes (omega (arith, is))) l.before))
    short (inr lt) = lt

pub not_utf8 : (bytes : List ℕ) (place : ℕ) → IsValidUpTo bytes place → IsUtf8 bytes → ⊥
not_utf8 bytes place b u = b.longest (length bytes) b.short (subst IsUtf8 (sym (take_all (length bytes) bytes (omega arith))) u)

pub one_place : (bytes : List ℕ) (p q : ℕ) → IsValidUpTo bytes p → IsValidUpTo bytes q → p ≡ q
one_place bytes p q b c = by (cases_order p q)
  where
    by : (p ≡ q) ⊎ ((p < q) ⊎ (q < p)) → p ≡ q
    by (inl is) = is
    by (inr (inl lt)) = absurd (b.longest q lt c.front)
    by (inr (inr lt)) = absurd (c.longest p lt b.front)

-- ---- what a file comes to

module _ {T : Type 0} (reads : Reader T) where
  abbrev Only : List ℕ → Result (Source (Kept T)) Unread → Type 0
  Only bytes end_ = (answer : Answer T) (other : Result (Source (Kept T)) Unread) → IsRead reads bytes answer → ComesTo bytes answer other → end_ ≡ other

  -- a file that is refused
  abbrev refuses : Code → ℕ → Result (Source (Kept T)) Unread
  refuses c place = Err (record { code = c; place = place })

  comes_refused : (bytes : List ℕ) (c : Code) (place : ℕ) (answer : Answer T) (other : Result (Source (Kept T)) Unread) → answer ≡ Err (fault.Refused c place)
      → ComesTo bytes answer other → refuses c place ≡ other
  comes_refused bytes c place answer other is h = sym (subst (λ (a : Answer T). ComesTo bytes a other) is h)

  too_long : (bytes : List ℕ) → max_length < length bytes → Only bytes (refuses PJST0005 0)
  too_long bytes lt answer other (inl (l, is)) h = comes_refused bytes PJST0005 0 answer other is h
  too_long bytes lt answer other (inr (le, r)) h = absurd (omega (arith, lt, le))

  no_text : (bytes : List ℕ) (place : ℕ) → length bytes ≤ max_length → IsValidUpTo (without_mark bytes) place → Only bytes (refuses XPST0003 place)
  no_text bytes place short v answer other (inl (l, is)) h = absurd (omega (arith, short, l))
  no_text bytes place short v answer other (inr (le, inl (at, w, is))) h =
      ap (refuses XPST0003) (one_place (without_mark bytes) place at v w) ∙ comes_refused bytes XPST0003 at answer other is h
  no_text bytes place short v answer other (inr (le, inr (u, r))) h = absurd (not_utf8 (without_mark bytes) place v u)

  kept_end : List ℕ → Result (Source T) Unread → Result (Source (Kept T)) Unread
  kept_end bytes (Ok source) = Ok (with_contents bytes source)
  kept_end bytes (Err u) = Err u

  answered_end : (bytes : List ℕ) (own : Result (Source T) Unread) (answer : Answer T) (other : Result (Source (Kept T)) Unread) → Says answer own
      → ComesTo bytes answer other → kept_end bytes own ≡ other
  unfolding kept_end
  answered_end bytes own (Ok source) other says h = ap (kept_end bytes) says ∙ sym h
  answered_end bytes own (Err (fault.Refused c place)) other says h = ap (kept_end bytes) says ∙ sym h
  answered_end bytes own (Err fault.NoMemory) other says h = absurd h

  module _ (given : List ℕ → Result (Source T) Unread) (gives : Gives reads given) where
    is_text : (bytes : List ℕ) → length bytes ≤ max_length → IsUtf8 (without_mark bytes) → Only bytes (kept_end bytes (given (without_mark bytes)))
    is_text bytes short u answer other (inl (l, is)) h = absurd (omega (arith, short, l))
    is_text bytes short u answer other (inr (le, inl (at, v, is))) h = absurd (not_utf8 (without_mark bytes) at v u)
    is_text bytes short u answer other (inr (le, inr (v, r))) h =
        answered_end bytes (given (without_mark bytes)) answer other (gives (without_mark bytes) answer r) h

    short_end : (bytes : List ℕ) → length bytes ≤ max_length → (b : Bool) → is_utf8 (without_mark bytes) ≡ b
        → (end_ : Result (Source (Kept T)) Unread) × Only bytes end_
    short_end bytes short true e = (kept_end bytes (given (without_mark bytes)), is_text bytes short (IsUtf8-from_is_utf8 (without_mark bytes) e))
    short_end bytes short false e =
        let p : (place : ℕ) × IsValidUpTo (without_mark bytes) place = breaks (without_mark bytes) e in
        (refuses XPST0003 p.0, no_text bytes p.0 short p.1)

    end_by : (bytes : List ℕ) → (max_length < length bytes) ⊎ (length bytes ≤ max_length) → (end_ : Result (Source (Kept T)) Unread) × Only bytes end_
    end_by bytes (inl lt) = (refuses PJST0005 0, too_long bytes lt)
    end_by bytes (inr le) = short_end bytes le (is_utf8 (without_mark bytes)) refl

    end_of : (bytes : List ℕ) → (end_ : Result (Source (Kept T)) Unread) × Only bytes end_
    end_of bytes = end_by bytes (cases_lt max_length (length bytes))

    abbrev all : World → Sources (Kept T)
    all w = map (λ f. (f.0, (end_of f.1).0)) w

    missing_of : (w : World) (name : Name) → file_of w name ≡ None → source_of (all w) name ≡ None
    missing_of [] name none = refl
    missing_of (f ∷ w) name none = by (bytes_eq f.0 name) (λ e. missing_of w name e) none
      where
        by : (b : Bool) → (file_of w name ≡ None → source_of (all w) name ≡ None) → cond b (Some f.1) (file_of w name) ≡ None → cond b (Some (end_of f.1).0) (source_of (all w) name) ≡ None
        by true more e = absurd cc
        by false more e = more e

    read_of : (w : World) (name : Name) (bytes : List ℕ) → file_of w name ≡ Some bytes → source_of (all w) name ≡ Some (end_of bytes).0
    read_of [] name bytes is = absurd cc
    read_of (f ∷ w) name bytes is = by (bytes_eq f.0 name) (λ e. read_of w name bytes e) is
      where
        by : (b : Bool) → (file_of w name ≡ Some bytes → source_of (all w) name ≡ Some (end_of bytes).0) → cond b (Some f.1) (file_of w name) ≡ Some bytes → cond b (Some (end_of f.1).0) (source_of (all w) name) ≡ Some (end_of bytes).0
        by true more e = let same : f.1 ≡ bytes = cc in ap (λ (bs : List ℕ). Some (end_of bs).0) same
        by false more e = more e

    pub has_sources : (w : World) → HasSources reads w
    has_sources w = (
      all w,
      record {
        missing = missing_of w;
        read = λ name bytes answer other is read comes. read_of w name bytes is ∙ ap Some ((end_of bytes).1 answer other read comes);
      },
    )
