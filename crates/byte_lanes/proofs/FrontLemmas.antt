-- The front of a string, block by block and byte by byte.
use Rattle.std.proofs.Common.{◌≡◌, ℕ, ◌≢◌, ◌+◌, ◌-◌, ◌≤◌, ◌<◌, Bool, true, false, ◌&&◌, List, length, take, drop, get_or, leb, eqb, refl, sym, ap, ap₂, ◌∙◌, subst, arith, inl, inr}
use Rattle.std.proofs.Math.Seq.{take-add}
use Rattle.std.proofs.lemmas.Bool.{cases_lt, cases_Bool, both_ways, cond-true, cond-false, cases_eq, eq-eqb, ne_eqb, ltb-true, le-leb, lt-leb}
use Rattle.std.proofs.lemmas.List.{take-take, length-take, get_or-take}
use Rattle.std.proofs.lemmas.List.Folds.{list_all-append, list_all_more, list_all_at}
use Rattle.std.proofs.lemmas.List.Sums.{prefix_len_is, prefix_len_passes, prefix_len_stops, prefix_len-le-length}
use Rattle.std.proofs.lemmas.Simd.{length-chunk, get_or-chunk}
use Rattle.std.specs.Char.{is_ascii}
use Rattle.std.specs.Int.{w64, trailing_zeros}
use Rattle.std.specs.List.{list_all, prefix_len}
use Rattle.byte_lanes.specs.Bytes.{is_raw}
use Rattle.byte_lanes.specs.inside.Fronts.{IsSeen, IsFront}
use Rattle.byte_lanes.specs.inside.Marks.{before_mark, AreMarks}
use Rattle.byte_lanes.proofs.LaneLemmas.{all_before}

module _ (b : List ℕ) (at n : ℕ) (room : at + n ≤ length b) where
  abbrev block : List ℕ
  block = take n (drop at b)

  long : length block ≡ n
  long = length-chunk at n b room

  raw_in : (ascii : Bool) → IsSeen b at ascii → (k : ℕ) → k < at + prefix_len is_raw block
      → is_raw (get_or b k 0) ≡ true
  raw_in ascii seen k below = elim (cases_lt k at) [
    | inl early ↦ seen.raw k early
    | inr late ↦
        let back : at + (k - at) ≡ k = omega arith in
        let bound = prefix_len-le-length is_raw block in
        let same = get_or-chunk at n b (k - at) 0 (omega (arith, long)) ∙ ap (λ j. get_or b j 0) back in
        subst (λ x. is_raw x ≡ true) same (prefix_len_passes is_raw block (k - at) 0 (omega arith))
  ]

  -- the first r bytes of the block, beside those that are seen
  plain_in : (ascii : Bool) → IsSeen b at ascii → (r : ℕ) → r ≤ n
      → (ascii && leb r (prefix_len is_ascii block)) ≡ list_all is_ascii (take (at + r) b)
  plain_in ascii seen r within =
      ap₂ (λ s t. s && t) seen.plain
      (sym (all_before is_ascii block r (omega (arith, long))) ∙ ap (list_all is_ascii) (take-take r n (drop at b) within))
      ∙ sym (list_all-append is_ascii (take at b) (take r (drop at b))) ∙ ap (list_all is_ascii) (sym (take-add at r b))

  -- a block with no stop
  pub whole_block : (ascii : Bool) → IsSeen b at ascii → prefix_len is_raw block ≡ n
      → IsSeen b (at + n) (ascii && leb n (prefix_len is_ascii block))
  whole_block ascii seen none = record {
    within = room;
    raw = λ k below. raw_in ascii seen k (omega (arith, none));
    plain = plain_in ascii seen n (omega arith);
  }

  -- a block with a stop
  pub stopped : (ascii : Bool) → IsSeen b at ascii → prefix_len is_raw block < n
      → IsFront b (at + prefix_len is_raw block)
      (ascii && leb (prefix_len is_raw block) (prefix_len is_ascii block))
  stopped ascii seen some =
      let r = prefix_len is_raw block in
      let stops = subst (λ x. is_raw x ≡ false) (get_or-chunk at n b r 0 some) (prefix_len_stops is_raw block 0 (omega (arith, long))) in
      record {
        value = sym (prefix_len_is is_raw b (at + r) 0 (omega arith) (raw_in ascii seen) (λ _. stops));
        plain = plain_in ascii seen r (omega arith);
      }

-- no mark stands where all of a block pass, and else there is one
none_marked : (p : ℕ → Bool) (lanes : List ℕ) (n marks : ℕ) → AreMarks p lanes n marks
    → eqb marks 0 ≡ leb n (prefix_len p lanes)
none_marked p lanes n marks are = elim (cases_eq marks 0) [
  | inl none ↦
      let zero = eq-eqb marks 0 none in
      let all = sym are.lowest ∙ cond-true _ _ _ zero in
      zero ∙ sym (le-leb n (prefix_len p lanes) (omega (arith, all)))
  | inr some ↦
      ne_eqb marks 0 some ∙ sym (lt-leb n (prefix_len p lanes) (are.some (omega (arith, some))))
]

-- the same, of a block that was loaded and marked
module _ (b : List ℕ) (at n : ℕ) (room : at + n ≤ length b) (ascii : Bool) (seen : IsSeen b at ascii)
    (lanes : List ℕ) (loaded : lanes ≡ take n (drop at b)) (stops wide : ℕ)
    (stopping : AreMarks is_raw lanes n stops) (widening : AreMarks is_ascii lanes n wide) where
  pub no_mark : stops ≡ 0 → IsSeen b (at + n) (ascii && eqb wide 0)
  no_mark none =
      let all = sym stopping.lowest ∙ cond-true _ _ _ (eq-eqb stops 0 none) in
      let plain = none_marked is_ascii lanes n wide widening ∙ ap (λ v. leb n (prefix_len is_ascii v)) loaded in
      subst (λ t. IsSeen b (at + n) (ascii && t)) (sym plain)
      (whole_block b at n room ascii seen (ap (prefix_len is_raw) (sym loaded) ∙ all))

  pub at_mark : (plain : ℕ) → plain ≡ before_mark wide n → stops ≢ 0
      → IsFront b (at + trailing_zeros w64 stops) (ascii && leb (trailing_zeros w64 stops) plain)
  at_mark plain before some =
      let r = trailing_zeros w64 stops in
      let first : r ≡ prefix_len is_raw (take n (drop at b)) =
      sym (cond-false _ _ _ (ne_eqb stops 0 some)) ∙ stopping.lowest ∙ ap (prefix_len is_raw) loaded in
      let plain_is = before ∙ widening.lowest ∙ ap (prefix_len is_ascii) loaded in
      let inside = subst (λ v. prefix_len is_raw v < n) loaded (stopping.some (omega (arith, some))) in
      subst (λ m. IsFront b (at + r) (ascii && leb r m)) (sym plain_is)
      (subst (λ k. IsFront b (at + k) (ascii && leb k (prefix_len is_ascii (take n (drop at b))))) (sym first)
      (stopped b at n room ascii seen inside))

-- one byte more
pub one_more : (b : List ℕ) (at : ℕ) (ascii : Bool) → IsSeen b at ascii → at < length b
    → is_raw (get_or b at 0) ≡ true → IsSeen b (at + 1) (ascii && is_ascii (get_or b at 0))
one_more b at ascii seen inside passes = record {
  within = omega arith;
  raw = λ k below. elim (cases_lt k at) [
    | inl early ↦ seen.raw k early
    | inr late ↦ let here : at ≡ k = omega arith in subst (λ j. is_raw (get_or b j 0) ≡ true) here passes
  ];
  plain = ap (λ t. t && is_ascii (get_or b at 0)) seen.plain ∙ sym (list_all_more is_ascii b at 0 inside);
}

-- what is seen is all, where the next byte is a stop or there is none
pub ended : (b : List ℕ) (at : ℕ) (ascii : Bool) → IsSeen b at ascii
    → (at < length b → is_raw (get_or b at 0) ≡ false) → IsFront b at ascii
ended b at ascii seen stops = record {
  value = sym (prefix_len_is is_raw b at 0 seen.within seen.raw stops);
  plain = seen.plain;
}

-- where all of a front are ASCII, each is
pub each_below : (b : List ℕ) (end : ℕ) → end ≤ length b → list_all is_ascii (take end b) ≡ true
    → (k : ℕ) → k < end → get_or b k 0 < 128
each_below b end within all k below = elim (cases_Bool (is_ascii (get_or b k 0))) [
  | inl passes ↦ ltb-true (get_or b k 0) 128 passes
  | inr fails ↦
      let at = get_or-take end b k 0 below in
      absurd (both_ways _ (list_all_at is_ascii (take end b) k 0 (omega (arith, length-take end b)) (ap is_ascii at ∙ fails)) all)
]

-- a walk that has seen nothing
pub none_seen : (b : List ℕ) → IsSeen b 0 true
none_seen b = record { within = omega arith; raw = λ k below. absurd (omega arith); plain = refl }

-- what a walk from the start on found
pub from_start : (b : List ℕ) (end : ℕ) (ascii : Bool) → IsFront b (0 + end) (true && ascii)
    → IsFront b end ascii
from_start b end ascii front =
    let none : 0 + end ≡ end = omega arith in subst (λ k. IsFront b k ascii) none front

-- a front ends where the slice does, or before
pub front_within : (b : List ℕ) (end : ℕ) (ascii : Bool) → IsFront b end ascii → end ≤ length b
front_within b end ascii front = omega (arith, front.value, prefix_len-le-length is_raw b)
