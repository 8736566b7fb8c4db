-- What words give fits the names that it is given for.
use Rattle.std.proofs.Common.{◌≡◌, ◌∙◌, ◌&&◌, inl, inr, Bool, true, false, List, [], ◌∷◌, Option, Some, None, refl, ap₂, subst, codes}
use Rattle.std.specs.Prelude.{if◌then◌else◌, option_and_then}
use Rattle.std.specs.List.{list_all}
use Rattle.std.proofs.lemmas.List.Folds.{list_all-append}
use Rattle.run_words.specs.Table.{Text, fits, next_of, last_of}
use Rattle.run_words.specs.Given.{Use, has, Read, is_dashed, alone, joined, used, exactly, after, offered, valued, option_met, argument_met, met, met_at, reads, start, given, whole, is_settled}
use Rattle.run_words.proofs.Rows.{use_of}
use Rattle.run_words.proofs.Reading.{some_same, used_gives, or_cases, exactly_gives, offered_gives, joined_gives}
use Rattle.run_words.specs.declared.given.Phase.{Phase}
use Rattle.run_words.specs.declared.given.Phase.TheVariants.{Free, Waits, Over}
use Rattle.run_words.specs.declared.table.Verb.{Verb}
use Rattle.run_words.specs.declared.table.Name.{Name}
use Rattle.run_words.specs.declared.table.Name.TheVariants.{Workers, Partition, Mode, Stats, Number}

abbrev pub use_fits : Use → Bool
use_fits u = fits u.name u.value

abbrev all_fit : List Use → Bool
all_fit = list_all use_fits

-- what a word adds fits
abbrev Keeps : List Use → Read → Type 0
Keeps uses r = all_fit uses ≡ true → all_fit r.uses ≡ true

used_keeps : (phase : Phase) (n : Name) (t : Text) (uses : List Use) (r : Read) → used phase n t uses ≡ Some r → Keeps uses r
used_keeps phase n t uses r e =
    let u = used_gives phase n t uses r e in
    subst (Keeps uses) u.1 (λ h. list_all-append use_fits uses (use_of n t ∷ []) ∙ ap₂ (λ (b c : Bool). b && (c && true)) h u.2)

same_keeps : (phase : Phase) (uses : List Use) (r : Read) → Some (record { phase = phase; uses = uses }) ≡ Some r → Keeps uses r
same_keeps phase uses r e = subst (Keeps uses) (some_same _ _ e) (λ h. h)

valued_keeps : (v : Verb) (n : Name) (word : Text) (uses : List Use) (r : Read) → offered v n (valued n word uses) ≡ Some r → Keeps uses r
valued_keeps v n word uses r o = let e = (offered_gives v n (valued n word uses) r o).1 in elim (or_cases _ (option_and_then (λ t. used Free n t uses) (after (joined n) word)) r e) [
  | inl h ↦ same_keeps (Waits n) uses r (exactly_gives (alone n) word _ r h).1
  | inr h ↦ let g = joined_gives n word uses r (after (joined n) word) refl h in used_keeps Free n g.0 uses r g.2
]

stats_keeps : (v : Verb) (word : Text) (uses : List Use) (r : Read) → offered v Stats (exactly (alone Stats) word (used Free Stats (codes "true") uses)) ≡ Some r → Keeps uses r
stats_keeps v word uses r o =
    let e = (offered_gives v Stats (exactly (alone Stats) word (used Free Stats (codes "true") uses)) r o).1 in
    used_keeps Free Stats (codes "true") uses r (exactly_gives (alone Stats) word _ r e).1

option_keeps : (v : Verb) (word : Text) (uses : List Use) (r : Read) → option_met v word uses ≡ Some r → Keeps uses r
option_keeps v word uses r e = elim (or_cases (exactly (45 ∷ 45 ∷ []) word (Some (record { phase = Over; uses = uses }))) _ r e) [
  | inl h ↦ same_keeps Over uses r (exactly_gives (45 ∷ 45 ∷ []) word _ r h).1
  | inr e1 ↦ elim (or_cases (offered v Stats (exactly (alone Stats) word (used Free Stats (codes "true") uses))) _ r e1) [
    | inl h ↦ stats_keeps v word uses r h
    | inr e2 ↦ elim (or_cases (offered v Workers (valued Workers word uses)) _ r e2) [
      | inl h ↦ valued_keeps v Workers word uses r h
      | inr e3 ↦ elim (or_cases (offered v Partition (valued Partition word uses)) _ r e3) [
        | inl h ↦ valued_keeps v Partition word uses r h
        | inr h ↦ valued_keeps v Mode word uses r h
      ]
    ]
  ]
]

met_keeps : (v : Verb) (phase : Phase) (uses : List Use) (word : Text) (r : Read) → met_at v phase uses word ≡ Some r → Keeps uses r
met_keeps v Over uses word r e = used_keeps Over (next_of v (has Number uses)) word uses r e
met_keeps v Free uses word r e = go (is_dashed word) e
  where
    go : (b : Bool) → (if b then option_met v word uses else argument_met v Free word uses) ≡ Some r → Keeps uses r
    go true e = option_keeps v word uses r e
    go false e = used_keeps Free (next_of v (has Number uses)) word uses r e
met_keeps v (Waits n) uses word r e = go (is_dashed word) e
  where
    go : (b : Bool) → (if b then None else used Free n word uses) ≡ Some r → Keeps uses r
    go true e = cc
    go false e = used_keeps Free n word uses r e

reads_keep : (v : Verb) (words : List Text) (r end : Read) → reads v r words ≡ Some end → Keeps r.uses end
reads_keep v [] r end e = same_keeps r.phase r.uses end e
reads_keep v (word ∷ rest) r end e = go (met v r word) refl (λ n h. reads_keep v rest n end h) e
  where
    go : (o : Option Read) → met v r word ≡ o → ((n : Read) → reads v n rest ≡ Some end → Keeps n.uses end) → option_and_then (λ n. reads v n rest) o ≡ Some end → Keeps r.uses end
    go None h rec e = cc
    go (Some n) h rec e = λ f. rec n e (met_keeps v r.phase r.uses word n h f)

pub given_fits : (v : Verb) (words : List Text) (uses : List Use) → given v words ≡ Some uses → list_all use_fits uses ≡ true
given_fits v words uses e = go (reads v start words) refl e
  where
    at : (r : Read) (b : Bool) → reads v start words ≡ Some r → (if b then Some r.uses else None) ≡ Some uses → list_all use_fits uses ≡ true
    at r false g e = cc
    at r true g e = subst (λ (u : List Use). list_all use_fits u ≡ true) (some_same _ _ e) (reads_keep v words start r g refl)

    go : (o : Option Read) → reads v start words ≡ o → option_and_then (whole v) o ≡ Some uses → list_all use_fits uses ≡ true
    go None g e = cc
    go (Some r) g e = at r (is_settled r.phase && has (last_of v) r.uses) g e
