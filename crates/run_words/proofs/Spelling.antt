-- What is read of words is what they are spelled to give.
use Rattle.std.proofs.Common.{◌≡◌, ◌∙◌, ◌&&◌, ◌⊎◌, inl, inr, Bool, true, false, List, [], ◌∷◌, ◌++◌, Option, Some, None, refl, sym, ap, ap₂, subst, codes}
use Rattle.std.specs.Prelude.{if◌then◌else◌, option_and_then}
use Rattle.std.specs.Option.{option_or}
use Rattle.std.proofs.lemmas.List.{append_assoc, append-nil}
use Rattle.run_words.specs.Table.{Text, has_option, next_of, last_of, fits}
use Rattle.run_words.specs.Given.{Use, has, Read, is_dashed, alone, joined, used, exactly, after, offered, valued, option_met, argument_met, met, met_at, reads, start, given, whole, is_settled}
use Rattle.run_words.specs.Spelled.{takes_value, IsNew, SpellsOption, SpellsArgument, Follow, Spell, AreGiven}
use Rattle.run_words.proofs.Rows.{use_of}
use Rattle.run_words.proofs.Reading.{more, some_same, used_gives, or_cases, exactly_gives, offered_gives, joined_gives}
use Rattle.run_words.specs.declared.given.Phase.{Phase}
use Rattle.run_words.specs.declared.given.Phase.TheVariants.{Free, Waits, Over}
use Rattle.run_words.specs.declared.table.Verb.{Verb}
use Rattle.run_words.specs.declared.table.Verb.TheVariants.{Run, Check, Explain, Trial}
use Rattle.run_words.specs.declared.table.Name.{Name}
use Rattle.run_words.specs.declared.table.Name.TheVariants.{Workers, Partition, Mode, Stats, Query, Number, Lines}

abbrev at : Phase → List Use → Read
at phase uses = record { phase = phase; uses = uses }

-- ---- words that are spelled are read

used_new : (phase : Phase) (n : Name) (t : Text) (before : List Use) → has n before ≡ false → fits n t ≡ true → used phase n t before ≡ Some (more phase n t before)
used_new phase n t before none fit = ap₂ (λ (b c : Bool). if b then None else (if c then Some (more phase n t before) else None)) none fit

or_first : {X : Type 0} (o y : Option X) (x : X) → o ≡ Some x → option_or o y ≡ Some x
or_first o y x e = ap (λ q. option_or q y) e

joined_met : (v : Verb) (n : Name) (t : Text) (before : List Use) (r : Read) → has_option v n ≡ true → takes_value n ≡ true → used Free n t before ≡ Some r
    → option_met v (joined n ++ t) before ≡ Some r
joined_met Run Workers t before r o takes e = or_first _ _ _ e
joined_met Run Partition t before r o takes e = or_first _ _ _ e
joined_met Run Mode t before r o takes e = e
joined_met Run Stats t before r o takes e = cc
joined_met Run Query t before r o takes e = cc
joined_met Run Number t before r o takes e = cc
joined_met Run Lines t before r o takes e = cc
joined_met Check n t before r o takes e = cc
joined_met Explain n t before r o takes e = cc
joined_met Trial Workers t before r o takes e = or_first _ _ _ e
joined_met Trial Partition t before r o takes e = or_first _ _ _ e
joined_met Trial Mode t before r o takes e = cc
joined_met Trial Stats t before r o takes e = cc
joined_met Trial Query t before r o takes e = cc
joined_met Trial Number t before r o takes e = cc
joined_met Trial Lines t before r o takes e = cc

alone_met : (v : Verb) (n : Name) (before : List Use) → has_option v n ≡ true → takes_value n ≡ true → option_met v (alone n) before ≡ Some (at (Waits n) before)
alone_met Run Workers before o takes = refl
alone_met Run Partition before o takes = refl
alone_met Run Mode before o takes = refl
alone_met Run Stats before o takes = cc
alone_met Run Query before o takes = cc
alone_met Run Number before o takes = cc
alone_met Run Lines before o takes = cc
alone_met Check n before o takes = cc
alone_met Explain n before o takes = cc
alone_met Trial Workers before o takes = refl
alone_met Trial Partition before o takes = refl
alone_met Trial Mode before o takes = cc
alone_met Trial Stats before o takes = cc
alone_met Trial Query before o takes = cc
alone_met Trial Number before o takes = cc
alone_met Trial Lines before o takes = cc

flag_met : (v : Verb) (before : List Use) (r : Read) → has_option v Stats ≡ true → used Free Stats (codes "true") before ≡ Some r → option_met v (alone Stats) before ≡ Some r
flag_met Run before r o e = or_first _ _ _ e
flag_met Check before r o e = cc
flag_met Explain before r o e = cc
flag_met Trial before r o e = cc

-- one word, and then the rest
one_more : (v : Verb) (r n : Read) (word : Text) (rest : List Text) (end : Option Read) → met v r word ≡ Some n → reads v n rest ≡ end → reads v r (word ∷ rest) ≡ end
one_more v r n word rest end e more = ap (option_and_then (λ n. reads v n rest)) e ∙ more

regroup : (phase : Phase) (before : List Use) (u : Use) (us : List Use) → Some (at phase ((before ++ u ∷ []) ++ us)) ≡ Some (at phase (before ++ u ∷ us))
regroup phase before u us = ap (λ (l : List Use). Some (at phase l)) (append_assoc before (u ∷ []) us)

follow_reads : (v : Verb) (us before : List Use) (words : List Text) → Follow v before us words → reads v (at Over before) words ≡ Some (at Over (before ++ us))
follow_reads v [] before words e = ap (reads v (at Over before)) e ∙ ap (λ (l : List Use). Some (at Over l)) (sym (append-nil before))
follow_reads v (u ∷ us) before words (rest, new, next, e, behind) =
    let taken : met v (at Over before) u.value ≡ Some (at Over (before ++ u ∷ [])) =
    ap (λ n. used Over n u.value before) (sym next) ∙ used_new Over u.name u.value before new.0 new.1 in
    ap (reads v (at Over before)) e ∙ one_more v (at Over before) (at Over (before ++ u ∷ [])) u.value rest _ taken (follow_reads v us (before ++ u ∷ []) rest behind)
    ∙ regroup Over before u us

-- the reading ends, with what these words give behind what was given before
record Ends (v : Verb) (before us : List Use) (words : List Text) : Type 0 where
  phase : Phase
  settled : is_settled phase ≡ true
  reads : reads v (at Free before) words ≡ Some (at phase (before ++ us))

free_word : (v : Verb) (before : List Use) (word : Text) → is_dashed word ≡ false → met v (at Free before) word ≡ argument_met v Free word before
free_word v before word e = ap (λ b. if b then option_met v word before else argument_met v Free word before) e

waiting_word : (v : Verb) (n : Name) (before : List Use) (word : Text) → is_dashed word ≡ false → met v (at (Waits n) before) word ≡ used Free n word before
waiting_word v n before word e = ap (λ b. if b then None else used Free n word before) e

option_reads : (v : Verb) (u : Use) (before : List Use) (words rest : List Text) (end : Option Read) → IsNew before u → SpellsOption v u words rest
    → reads v (at Free (before ++ u ∷ [])) rest ≡ end → reads v (at Free before) words ≡ end
option_reads v u before words rest end new (offers, how) onward =
    let taken = used_new Free u.name u.value before new.0 new.1 in
    elim how [
      | inl h ↦
          let flag : used Free Stats (codes "true") before ≡ Some (at Free (before ++ u ∷ [])) = ap₂ (λ (n : Name) (t : Text). used Free n t before) (sym h.0) (sym h.1) ∙ taken in
          ap (reads v (at Free before)) h.2
          ∙ one_more v (at Free before) (at Free (before ++ u ∷ [])) (alone Stats) rest end (flag_met v before _ (subst (λ n. has_option v n ≡ true) h.0 offers) flag) onward
      | inr more ↦ elim more [
        | inl h ↦
            ap (reads v (at Free before)) h.1
            ∙ one_more v (at Free before) (at Free (before ++ u ∷ [])) (joined u.name ++ u.value) rest end (joined_met v u.name u.value before _ offers h.0 taken) onward
        | inr h ↦
            ap (reads v (at Free before)) h.2
            ∙ one_more v (at Free before) (at (Waits u.name) before) (alone u.name) (u.value ∷ rest) end (alone_met v u.name before offers h.0)
            (one_more v (at (Waits u.name) before) (at Free (before ++ u ∷ [])) u.value rest end (waiting_word v u.name before u.value h.1 ∙ taken) onward)
      ]
    ]

argument_reads : (v : Verb) (u : Use) (before : List Use) (words rest : List Text) (end : Option Read) → IsNew before u → SpellsArgument v before u words rest
    → reads v (at Free (before ++ u ∷ [])) rest ≡ end → reads v (at Free before) words ≡ end
argument_reads v u before words rest end new (next, plain, e) onward =
    let taken : argument_met v Free u.value before ≡ Some (at Free (before ++ u ∷ [])) =
    ap (λ n. used Free n u.value before) (sym next) ∙ used_new Free u.name u.value before new.0 new.1 in
    ap (reads v (at Free before)) e ∙ one_more v (at Free before) (at Free (before ++ u ∷ [])) u.value rest end (free_word v before u.value plain ∙ taken) onward

spell_reads : (v : Verb) (us before : List Use) (words : List Text) → Spell v before us words → Ends v before us words
spell_reads v [] before words s = elim s [
  | inl e ↦ record { phase = Free; settled = refl; reads = ap (reads v (at Free before)) e ∙ ap (λ (l : List Use). Some (at Free l)) (sym (append-nil before)) }
  | inr e ↦ record { phase = Over; settled = refl; reads = ap (reads v (at Free before)) e ∙ ap (λ (l : List Use). Some (at Over l)) (sym (append-nil before)) }
]
spell_reads v (u ∷ us) before words s = elim s [
  | inl h ↦
      let tail = spell_reads v us (before ++ u ∷ []) h.0 h.3 in
      record {
        phase = tail.phase;
        settled = tail.settled;
        reads = elim h.2 [
          | inl o ↦ option_reads v u before words h.0 _ h.1 o (tail.reads ∙ regroup tail.phase before u us)
          | inr a ↦ argument_reads v u before words h.0 _ h.1 a (tail.reads ∙ regroup tail.phase before u us)
        ];
      }
  | inr h ↦ record {
    phase = Over;
    settled = refl;
    reads = ap (reads v (at Free before)) h.1 ∙ follow_reads v (u ∷ us) before h.0 h.2;
  }
]

pub spelled_given : (v : Verb) (words : List Text) (uses : List Use) → AreGiven v words uses → given v words ≡ Some uses
spelled_given v words uses (s, last) =
    let ends = spell_reads v uses [] words s in
    ap (option_and_then (whole v)) ends.reads
    ∙ ap₂ (λ (b c : Bool). if b && c then Some uses else None) ends.settled last

-- ---- words that are read are spelled so

-- what the words still give, by where the reading stands
abbrev Left : Verb → Phase → List Use → List Use → List Text → Type 0
Left v Free before us words = Spell v before us words
Left v Over before us words = Follow v before us words
Left v (Waits n) before us words =
    (value : Text) × (rest : List Text) × (later : List Use) × (words ≡ value ∷ rest) × (us ≡ use_of n value ∷ later) × IsNew before (use_of n value)
    × (is_dashed value ≡ false) × Spell v (before ++ use_of n value ∷ []) later rest

record Rest (v : Verb) (phase : Phase) (before : List Use) (end : Read) (words : List Text) : Type 0 where
  us : List Use
  all : before ++ us ≡ end.uses
  left : Left v phase before us words

joined_uses : (before us : List Use) (u : Use) (end : Read) → (before ++ u ∷ []) ++ us ≡ end.uses → before ++ (u ∷ us) ≡ end.uses
joined_uses before us u end e = sym (append_assoc before (u ∷ []) us) ∙ e

over_spell : (v : Verb) (before us : List Use) (rest : List Text) → Follow v before us rest → Spell v before us ((45 ∷ 45 ∷ []) ∷ rest)
over_spell v before [] rest e = inr (ap (λ (ws : List Text). (45 ∷ 45 ∷ []) ∷ ws) e)
over_spell v before (u ∷ us) rest f = inr (rest, refl, f)

-- one option more
spelled_more : (v : Verb) (u : Use) (before : List Use) (words rest : List Text) (end : Read) → IsNew before u → SpellsOption v u words rest ⊎ SpellsArgument v before u words rest
    → Rest v Free (before ++ u ∷ []) end rest → Rest v Free before end words
spelled_more v u before words rest end new how l = record { us = u ∷ l.us; all = joined_uses before l.us u end l.all; left = inl (rest, new, how, l.left) }

end_step : (v : Verb) (before : List Use) (word : Text) (n : Read) (rest : List Text) (end : Read) → exactly (45 ∷ 45 ∷ []) word (Some (at Over before)) ≡ Some n
    → Rest v n.phase n.uses end rest → Rest v Free before end (word ∷ rest)
end_step v before word n rest end e l =
    let g = exactly_gives (45 ∷ 45 ∷ []) word _ n e in
    let m = subst (λ (q : Read). Rest v q.phase q.uses end rest) (sym (some_same _ _ g.1)) l in
    subst (λ (t : Text). Rest v Free before end (t ∷ rest)) g.0 (record { us = m.us; all = m.all; left = over_spell v before m.us rest m.left })

stats_step : (v : Verb) (before : List Use) (word : Text) (n : Read) (rest : List Text) (end : Read)
    → offered v Stats (exactly (alone Stats) word (used Free Stats (codes "true") before)) ≡ Some n → Rest v n.phase n.uses end rest → Rest v Free before end (word ∷ rest)
stats_step v before word n rest end e l =
    let o = offered_gives v Stats (exactly (alone Stats) word (used Free Stats (codes "true") before)) n e in
    let g = exactly_gives (alone Stats) word _ n o.1 in
    let u = used_gives Free Stats (codes "true") before n g.1 in
    let m = subst (λ (q : Read). Rest v q.phase q.uses end rest) (sym u.1) l in
    subst (λ (t : Text). Rest v Free before end (t ∷ rest)) g.0
    (spelled_more v (use_of Stats (codes "true")) before (alone Stats ∷ rest) rest end (u.0, u.2) (inl (o.0, inl (refl, refl, refl))) m)

waited : (v : Verb) (n : Name) (before : List Use) (rest : List Text) (end : Read) → has_option v n ≡ true → takes_value n ≡ true → Rest v (Waits n) before end rest
    → Rest v Free before end (alone n ∷ rest)
waited v n before rest end o takes l = go l.left
  where
    go : Left v (Waits n) before l.us rest → Rest v Free before end (alone n ∷ rest)
    go (value, behind, later, words, same, new, plain, spell) = record {
      us = use_of n value ∷ later;
      all = ap (λ (us : List Use). before ++ us) (sym same) ∙ l.all;
      left = inl (behind, new, inl (o, inr (inr (takes, plain, ap (λ (ws : List Text). alone n ∷ ws) words))), spell);
    }

valued_step : (v : Verb) (name : Name) (before : List Use) (word : Text) (n : Read) (rest : List Text) (end : Read) → takes_value name ≡ true
    → offered v name (valued name word before) ≡ Some n → Rest v n.phase n.uses end rest → Rest v Free before end (word ∷ rest)
valued_step v name before word n rest end takes e l =
    let o = offered_gives v name (valued name word before) n e in
    elim (or_cases _ (option_and_then (λ t. used Free name t before) (after (joined name) word)) n o.1) [
      | inl h ↦
          let g = exactly_gives (alone name) word _ n h in
          let m = subst (λ (q : Read). Rest v q.phase q.uses end rest) (sym (some_same _ _ g.1)) l in
          subst (λ (t : Text). Rest v Free before end (t ∷ rest)) g.0 (waited v name before rest end o.0 takes m)
      | inr h ↦
          let g = joined_gives name word before n (after (joined name) word) refl h in
          let u = used_gives Free name g.0 before n g.2 in
          let m = subst (λ (q : Read). Rest v q.phase q.uses end rest) (sym u.1) l in
          subst (λ (t : Text). Rest v Free before end (t ∷ rest)) g.1
          (spelled_more v (use_of name g.0) before ((joined name ++ g.0) ∷ rest) rest end (u.0, u.2) (inl (o.0, inr (inl (takes, refl)))) m)
    ]

option_step : (v : Verb) (before : List Use) (word : Text) (n : Read) (rest : List Text) (end : Read) → option_met v word before ≡ Some n
    → Rest v n.phase n.uses end rest → Rest v Free before end (word ∷ rest)
option_step v before word n rest end e l = elim (or_cases (exactly (45 ∷ 45 ∷ []) word (Some (at Over before))) _ n e) [
  | inl h ↦ end_step v before word n rest end h l
  | inr e1 ↦ elim (or_cases (offered v Stats (exactly (alone Stats) word (used Free Stats (codes "true") before))) _ n e1) [
    | inl h ↦ stats_step v before word n rest end h l
    | inr e2 ↦ elim (or_cases (offered v Workers (valued Workers word before)) _ n e2) [
      | inl h ↦ valued_step v Workers before word n rest end refl h l
      | inr e3 ↦ elim (or_cases (offered v Partition (valued Partition word before)) _ n e3) [
        | inl h ↦ valued_step v Partition before word n rest end refl h l
        | inr h ↦ valued_step v Mode before word n rest end refl h l
      ]
    ]
  ]
]

word_step : (v : Verb) (phase : Phase) (before : List Use) (word : Text) (n : Read) (rest : List Text) (end : Read) → met_at v phase before word ≡ Some n
    → Rest v n.phase n.uses end rest → Rest v phase before end (word ∷ rest)
word_step v Over before word n rest end e l =
    let name = next_of v (has Number before) in
    let u = used_gives Over name word before n e in
    let m = subst (λ (q : Read). Rest v q.phase q.uses end rest) (sym u.1) l in
    record { us = use_of name word ∷ m.us; all = joined_uses before m.us (use_of name word) end m.all; left = (rest, (u.0, u.2), refl, refl, m.left) }
word_step v (Waits name) before word n rest end e l = go (is_dashed word) refl e
  where
    go : (b : Bool) → is_dashed word ≡ b → (if b then None else used Free name word before) ≡ Some n → Rest v (Waits name) before end (word ∷ rest)
    go true h e = cc
    go false h e =
        let u = used_gives Free name word before n e in
        let m = subst (λ (q : Read). Rest v q.phase q.uses end rest) (sym u.1) l in
        record { us = use_of name word ∷ m.us; all = joined_uses before m.us (use_of name word) end m.all; left = (word, rest, m.us, refl, refl, (u.0, u.2), h, m.left) }
word_step v Free before word n rest end e l = go (is_dashed word) refl e
  where
    go : (b : Bool) → is_dashed word ≡ b → (if b then option_met v word before else argument_met v Free word before) ≡ Some n → Rest v Free before end (word ∷ rest)
    go true h e = option_step v before word n rest end e l
    go false h e =
        let name = next_of v (has Number before) in
        let u = used_gives Free name word before n e in
        let m = subst (λ (q : Read). Rest v q.phase q.uses end rest) (sym u.1) l in
        spelled_more v (use_of name word) before (word ∷ rest) rest end (u.0, u.2) (inr (refl, h, refl)) m

ended : (v : Verb) (phase : Phase) (before : List Use) (end : Read) → Some (at phase before) ≡ Some end → is_settled end.phase ≡ true → Rest v phase before end []
ended v Free before end e settled = record { us = []; all = append-nil before ∙ ap (λ (q : Read). q.uses) (some_same _ _ e); left = inl refl }
ended v Over before end e settled = record { us = []; all = append-nil before ∙ ap (λ (q : Read). q.uses) (some_same _ _ e); left = refl }
ended v (Waits name) before end e settled = let bad : false ≡ true = ap (λ (q : Read). is_settled q.phase) (some_same _ _ e) ∙ settled in cc

reads_spell : (v : Verb) (words : List Text) (r end : Read) → reads v r words ≡ Some end → is_settled end.phase ≡ true → Rest v r.phase r.uses end words
reads_spell v [] r end e settled = ended v r.phase r.uses end e settled
reads_spell v (word ∷ rest) r end e settled = go (met v r word) refl (λ n h. reads_spell v rest n end h settled) e
  where
    go : (o : Option Read) → met v r word ≡ o → ((n : Read) → reads v n rest ≡ Some end → Rest v n.phase n.uses end rest)
        → option_and_then (λ n. reads v n rest) o ≡ Some end → Rest v r.phase r.uses end (word ∷ rest)
    go None h rec e = cc
    go (Some n) h rec e = word_step v r.phase r.uses word n rest end h (rec n e)

pub given_spelled : (v : Verb) (words : List Text) (uses : List Use) → given v words ≡ Some uses → AreGiven v words uses
given_spelled v words uses e = go (reads v start words) refl e
  where
    by : (r : Read) (b c : Bool) → is_settled r.phase ≡ b → has (last_of v) r.uses ≡ c → reads v start words ≡ Some r → (if b && c then Some r.uses else None) ≡ Some uses → AreGiven v words uses
    by r false c h k g e = cc
    by r true false h k g e = cc
    by r true true h k g e =
        let l = reads_spell v words start r g h in
        let same : l.us ≡ uses = l.all ∙ some_same _ _ e in
        (subst (λ (us : List Use). Spell v [] us words) same l.left, ap (has (last_of v)) (sym (some_same _ _ e)) ∙ k)

    go : (o : Option Read) → reads v start words ≡ o → option_and_then (whole v) o ≡ Some uses → AreGiven v words uses
    go None g e = cc
    go (Some r) g e = by r (is_settled r.phase) (has (last_of v) r.uses) refl refl g e
