-- The walk of a parse goes along with the reading of the words.
use Rattle.std.proofs.Common.{◌≡◌, ◌∙◌, ◌&&◌, inl, inr, ℕ, Bool, true, false, List, [], ◌∷◌, ◌++◌, Option, Some, None, refl, sym, ap, ap₂, subst, codes}
use Rattle.std.specs.Prelude.{if◌then◌else◌, option_and_then, fold}
use Rattle.clap.specs.Walk.{Row, Rule, Walk, settled_rows, walked}
use Rattle.clap.specs.Walk as clap
use Rattle.clap.specs.Takes.{settle_passes, react_passes, turn_passes, walk_passes, use_passes}
use Rattle.run_words.specs.Table.{Text, id_of, has_option, next_of}
use Rattle.run_words.specs.Given.{Use, has, Read, is_dashed, alone, joined, used, exactly, after, offered, valued, option_met, argument_met, met, met_at, reads}
use Rattle.run_words.proofs.Rules.{rules_of, shape_of, rule_for, rows_for}
use Rattle.run_words.specs.inside.Command.{is_flag}
use Rattle.run_words.proofs.Rows.{use_of, used_rows, flag_rows, use_ok, flag_ok}
use Rattle.run_words.proofs.Reading.{more, some_same, used_gives, or_cases, exactly_gives, offered_gives, joined_gives}
use Rattle.run_words.proofs.Places.{position_of, Ordered, is_argument, option_place, option_ordered, place_is, place_next, argument_ordered}
use Rattle.run_words.proofs.Steps.{Pending, held_at, walk_at, flag_walked, flag_turn, joined_walked, joined_turn, alone_walked, alone_turn, end_walked, end_turn, value_walked, value_turn, plain_walked, plain_turn, over_walked, over_turn}
use Rattle.run_words.specs.declared.given.Phase.{Phase}
use Rattle.run_words.specs.declared.given.Phase.TheVariants.{Free, Waits, Over}
use Rattle.run_words.specs.declared.table.Verb.{Verb}
use Rattle.run_words.specs.declared.table.Verb.TheVariants.{Run, Check, Explain, Trial}
use Rattle.run_words.specs.declared.table.Name.{Name}
use Rattle.run_words.specs.declared.table.Name.TheVariants.{Workers, Partition, Mode, Stats, Query, Number, Lines}

-- what is held, once what is pending is used
abbrev pub Settled : Verb → List Use → List Row → Pending → Type 0
Settled v uses rs p = (settled_rows (rules_of v) p rs ≡ rows_for uses) × (settle_passes (rules_of v) false (held_at rs p) ≡ true)

-- an option of the command that takes a value
pub record Valued (v : Verb) (n : Name) : Type 0 where
  pub offered : has_option v n ≡ true
  pub plain : is_flag n ≡ false
  pub option : is_argument n ≡ false

abbrev pub FactsAt : Verb → Phase → List Use → List Row → Pending → Type 0
FactsAt v Free uses rs p = Settled v uses rs p
FactsAt v (Waits n) uses rs p = (rs ≡ rows_for uses) × (p ≡ Some (id_of n, [])) × Valued v n
FactsAt v Over uses rs p = Settled v uses rs p

-- the walk stands where the reading stands
pub record Along (v : Verb) (r : Read) (w : Walk) : Type 0 where
  pub rs : List Row
  pub p : Pending
  pub is : w ≡ walk_at r.phase (position_of v r.uses) rs p
  pub facts : FactsAt v r.phase r.uses rs p
  pub ordered : Ordered r.uses

abbrev pub Next : Verb → Read → Walk → Text → Type 0
Next v r w word = (turn_passes (shape_of v) [] w word ≡ true) × Along v r (walked (rules_of v) [] w word)

react_ok : (rules : List Rule) (a : Rule) (vs : List Text) (rs : List Row) (p : Pending) (uses : List Use) → settled_rows rules p rs ≡ rows_for uses
    → settle_passes rules false (held_at rs p) ≡ true → use_passes false a vs (rows_for uses) ≡ true → react_passes rules false a vs (held_at rs p) ≡ true
react_ok rules a vs rs p uses same settles ok = ap₂ (λ (b c : Bool). b && c) settles (ap (use_passes false a vs) same ∙ ok)

-- ---- the last use is still pending

pend_by : (n : Name) (t : Text) (uses : List Use) (rs : List Row) → is_flag n ≡ false → rs ≡ rows_for uses → has n uses ≡ false
    → (clap.used (rule_for n) (t ∷ []) rs ≡ rows_for (uses ++ use_of n t ∷ [])) × (use_passes false (rule_for n) (t ∷ []) rs ≡ true)
pend_by n t uses rs f same none = (ap (clap.used (rule_for n) (t ∷ [])) same ∙ used_rows n t uses f none, ap (use_passes false (rule_for n) (t ∷ [])) same ∙ use_ok n t uses f none)

pend_option : (v : Verb) (n : Name) (t : Text) (uses : List Use) (rs : List Row) → has_option v n ≡ true → is_flag n ≡ false → rs ≡ rows_for uses → has n uses ≡ false
    → Settled v (uses ++ use_of n t ∷ []) rs (Some (id_of n, t ∷ []))
pend_option Run Workers t uses rs o f same none = pend_by Workers t uses rs f same none
pend_option Run Partition t uses rs o f same none = pend_by Partition t uses rs f same none
pend_option Run Mode t uses rs o f same none = pend_by Mode t uses rs f same none
pend_option Run Stats t uses rs o f same none = cc
pend_option Run Query t uses rs o f same none = cc
pend_option Run Number t uses rs o f same none = cc
pend_option Run Lines t uses rs o f same none = cc
pend_option Check n t uses rs o f same none = cc
pend_option Explain n t uses rs o f same none = cc
pend_option Trial Workers t uses rs o f same none = pend_by Workers t uses rs f same none
pend_option Trial Partition t uses rs o f same none = pend_by Partition t uses rs f same none
pend_option Trial Mode t uses rs o f same none = cc
pend_option Trial Stats t uses rs o f same none = cc
pend_option Trial Query t uses rs o f same none = cc
pend_option Trial Number t uses rs o f same none = cc
pend_option Trial Lines t uses rs o f same none = cc

pend_argument : (v : Verb) (b : Bool) (t : Text) (uses : List Use) (rs : List Row) → rs ≡ rows_for uses → has (next_of v b) uses ≡ false
    → Settled v (uses ++ use_of (next_of v b) t ∷ []) rs (Some (id_of (next_of v b), t ∷ []))
pend_argument Run b t uses rs same none = pend_by Query t uses rs refl same none
pend_argument Check b t uses rs same none = pend_by Query t uses rs refl same none
pend_argument Explain b t uses rs same none = pend_by Query t uses rs refl same none
pend_argument Trial true t uses rs same none = pend_by Lines t uses rs refl same none
pend_argument Trial false t uses rs same none = pend_by Number t uses rs refl same none

-- ---- one word, by what it is

abbrev at_free : Verb → List Use → List Row → Pending → Walk
at_free v uses rs p = walk_at Free (position_of v uses) rs p

joined_next : (v : Verb) (n : Name) (t : Text) (uses : List Use) (rs : List Row) (p : Pending) → Valued v n → has n uses ≡ false → Settled v uses rs p → Ordered uses
    → Next v (more Free n t uses) (at_free v uses rs p) (joined n ++ t)
joined_next v n t uses rs p o none s ord = (
  joined_turn v n t (position_of v uses) rs p o.offered o.plain (react_ok (rules_of v) (rule_for n) (t ∷ []) rs p uses s.0 s.1 (use_ok n t uses o.plain none)),
  record {
    rs = clap.used (rule_for n) (t ∷ []) (settled_rows (rules_of v) p rs);
    p = None;
    is = joined_walked v n t (position_of v uses) rs p o.offered o.plain
        ∙ ap (λ k. walk_at Free k (clap.used (rule_for n) (t ∷ []) (settled_rows (rules_of v) p rs)) None) (sym (option_place v n t uses o.option));
    facts = (ap (clap.used (rule_for n) (t ∷ [])) s.0 ∙ used_rows n t uses o.plain none, refl);
    ordered = option_ordered n t uses o.option ord;
  },
)

flag_next : (v : Verb) (uses : List Use) (rs : List Row) (p : Pending) → has_option v Stats ≡ true → has Stats uses ≡ false → Settled v uses rs p → Ordered uses
    → Next v (more Free Stats (codes "true") uses) (at_free v uses rs p) (alone Stats)
flag_next v uses rs p o none s ord = (
  flag_turn v (position_of v uses) rs p o (react_ok (rules_of v) (rule_for Stats) [] rs p uses s.0 s.1 (flag_ok uses none)),
  record {
    rs = clap.used (rule_for Stats) [] (settled_rows (rules_of v) p rs);
    p = None;
    is = flag_walked v (position_of v uses) rs p o
        ∙ ap (λ k. walk_at Free k (clap.used (rule_for Stats) [] (settled_rows (rules_of v) p rs)) None) (sym (option_place v Stats (codes "true") uses refl));
    facts = (ap (clap.used (rule_for Stats) []) s.0 ∙ flag_rows uses none, refl);
    ordered = option_ordered Stats (codes "true") uses refl ord;
  },
)

alone_next : (v : Verb) (n : Name) (uses : List Use) (rs : List Row) (p : Pending) → Valued v n → Settled v uses rs p → Ordered uses
    → Next v (record { phase = Waits n; uses = uses }) (at_free v uses rs p) (alone n)
alone_next v n uses rs p o s ord = (
  alone_turn v n (position_of v uses) rs p o.offered o.plain s.1,
  record { rs = settled_rows (rules_of v) p rs; p = Some (id_of n, []); is = alone_walked v n (position_of v uses) rs p o.offered o.plain; facts = (s.0, refl, o); ordered = ord },
)

end_next : (v : Verb) (uses : List Use) (rs : List Row) (p : Pending) → Settled v uses rs p → Ordered uses
    → Next v (record { phase = Over; uses = uses }) (at_free v uses rs p) (45 ∷ 45 ∷ [])
end_next v uses rs p s ord = (end_turn v (position_of v uses) rs p, record { rs = rs; p = p; is = end_walked v (position_of v uses) rs p; facts = s; ordered = ord })

valued_next : (v : Verb) (n : Name) (word : Text) (uses : List Use) (rs : List Row) (p : Pending) (r : Read) → Valued v n → Settled v uses rs p → Ordered uses
    → valued n word uses ≡ Some r → Next v r (at_free v uses rs p) word
valued_next v n word uses rs p r o s ord e = elim (or_cases _ (option_and_then (λ t. used Free n t uses) (after (joined n) word)) r e) [
  | inl h ↦ let g = exactly_gives (alone n) word _ r h in
      subst (λ (t : Text). Next v r (at_free v uses rs p) t) g.0 (subst (λ (q : Read). Next v q (at_free v uses rs p) (alone n)) (some_same _ _ g.1) (alone_next v n uses rs p o s ord))
  | inr h ↦ let g = joined_gives n word uses r (after (joined n) word) refl h in
      let u = used_gives Free n g.0 uses r g.2 in
      subst (λ (t : Text). Next v r (at_free v uses rs p) t) g.1 (subst (λ (q : Read). Next v q (at_free v uses rs p) (joined n ++ g.0)) u.1 (joined_next v n g.0 uses rs p o u.0 s ord))
]

offered_next : (v : Verb) (n : Name) (word : Text) (uses : List Use) (rs : List Row) (p : Pending) (r : Read) → is_flag n ≡ false → is_argument n ≡ false
    → Settled v uses rs p → Ordered uses → offered v n (valued n word uses) ≡ Some r → Next v r (at_free v uses rs p) word
offered_next v n word uses rs p r f a s ord e =
    let g = offered_gives v n (valued n word uses) r e in
    valued_next v n word uses rs p r (record { offered = g.0; plain = f; option = a }) s ord g.1

stats_next : (v : Verb) (word : Text) (uses : List Use) (rs : List Row) (p : Pending) (r : Read) → Settled v uses rs p → Ordered uses
    → offered v Stats (exactly (alone Stats) word (used Free Stats (codes "true") uses)) ≡ Some r → Next v r (at_free v uses rs p) word
stats_next v word uses rs p r s ord e =
    let o = offered_gives v Stats (exactly (alone Stats) word (used Free Stats (codes "true") uses)) r e in
    let g = exactly_gives (alone Stats) word _ r o.1 in
    let u = used_gives Free Stats (codes "true") uses r g.1 in
    subst (λ (t : Text). Next v r (at_free v uses rs p) t) g.0 (subst (λ (q : Read). Next v q (at_free v uses rs p) (alone Stats)) u.1 (flag_next v uses rs p o.0 u.0 s ord))

option_next : (v : Verb) (word : Text) (uses : List Use) (rs : List Row) (p : Pending) (r : Read) → Settled v uses rs p → Ordered uses → option_met v word uses ≡ Some r
    → Next v r (at_free v uses rs p) word
option_next v word uses rs p r s ord e = elim (or_cases (exactly (45 ∷ 45 ∷ []) word (Some (record { phase = Over; uses = uses }))) _ r e) [
  | inl h ↦ let g = exactly_gives (45 ∷ 45 ∷ []) word _ r h in
      subst (λ (t : Text). Next v r (at_free v uses rs p) t) g.0 (subst (λ (q : Read). Next v q (at_free v uses rs p) (45 ∷ 45 ∷ [])) (some_same _ _ g.1) (end_next v uses rs p s ord))
  | inr e1 ↦ elim (or_cases (offered v Stats (exactly (alone Stats) word (used Free Stats (codes "true") uses))) _ r e1) [
    | inl h ↦ stats_next v word uses rs p r s ord h
    | inr e2 ↦ elim (or_cases (offered v Workers (valued Workers word uses)) _ r e2) [
      | inl h ↦ offered_next v Workers word uses rs p r refl refl s ord h
      | inr e3 ↦ elim (or_cases (offered v Partition (valued Partition word uses)) _ r e3) [
        | inl h ↦ offered_next v Partition word uses rs p r refl refl s ord h
        | inr h ↦ offered_next v Mode word uses rs p r refl refl s ord h
      ]
    ]
  ]
]

value_next : (v : Verb) (n : Name) (word : Text) (uses : List Use) (rs : List Row) → Valued v n → is_dashed word ≡ false → rs ≡ rows_for uses → has n uses ≡ false → Ordered uses
    → Next v (more Free n word uses) (walk_at (Waits n) (position_of v uses) rs (Some (id_of n, []))) word
value_next v n word uses rs o e same none ord = (
  value_turn v n word (position_of v uses) rs o.offered o.plain e,
  record {
    rs = rs;
    p = Some (id_of n, word ∷ []);
    is = value_walked v n word (position_of v uses) rs o.offered o.plain e ∙ ap (λ k. walk_at Free k rs (Some (id_of n, word ∷ []))) (sym (option_place v n word uses o.option));
    facts = pend_option v n word uses rs o.offered o.plain same none;
    ordered = option_ordered n word uses o.option ord;
  },
)

plain_next : (v : Verb) (word : Text) (uses : List Use) (rs : List Row) (p : Pending) → is_dashed word ≡ false → Settled v uses rs p → Ordered uses
    → has (next_of v (has Number uses)) uses ≡ false → Next v (more Free (next_of v (has Number uses)) word uses) (at_free v uses rs p) word
plain_next v word uses rs p e s ord none =
    let b = has Number uses in
    subst (λ (k : ℕ). Next v (more Free (next_of v b) word uses) (walk_at Free k rs p) word) (sym (place_is v uses none)) (
      plain_turn v b word rs p e s.1,
      record {
        rs = settled_rows (rules_of v) p rs;
        p = Some (id_of (next_of v b), word ∷ []);
        is = plain_walked v b word rs p e ∙ ap (λ k. walk_at Free k (settled_rows (rules_of v) p rs) (Some (id_of (next_of v b), word ∷ []))) (sym (place_next v word uses ord));
        facts = pend_argument v b word uses (settled_rows (rules_of v) p rs) s.0 none;
        ordered = argument_ordered v word uses ord;
      },
    )

over_next : (v : Verb) (word : Text) (uses : List Use) (rs : List Row) (p : Pending) → Settled v uses rs p → Ordered uses
    → has (next_of v (has Number uses)) uses ≡ false → Next v (more Over (next_of v (has Number uses)) word uses) (walk_at Over (position_of v uses) rs p) word
over_next v word uses rs p s ord none =
    let b = has Number uses in
    subst (λ (k : ℕ). Next v (more Over (next_of v b) word uses) (walk_at Over k rs p) word) (sym (place_is v uses none)) (
      over_turn v b word rs p s.1,
      record {
        rs = settled_rows (rules_of v) p rs;
        p = Some (id_of (next_of v b), word ∷ []);
        is = over_walked v b word rs p ∙ ap (λ k. walk_at Over k (settled_rows (rules_of v) p rs) (Some (id_of (next_of v b), word ∷ []))) (sym (place_next v word uses ord));
        facts = pend_argument v b word uses (settled_rows (rules_of v) p rs) s.0 none;
        ordered = argument_ordered v word uses ord;
      },
    )

-- ---- one word

met_next : (v : Verb) (phase : Phase) (uses : List Use) (word : Text) (r : Read) (rs : List Row) (p : Pending) → FactsAt v phase uses rs p → Ordered uses
    → met_at v phase uses word ≡ Some r → Next v r (walk_at phase (position_of v uses) rs p) word
met_next v Over uses word r rs p s ord e =
    let u = used_gives Over (next_of v (has Number uses)) word uses r e in
    subst (λ (q : Read). Next v q (walk_at Over (position_of v uses) rs p) word) u.1 (over_next v word uses rs p s ord u.0)
met_next v Free uses word r rs p s ord e = go (is_dashed word) refl e
  where
    go : (b : Bool) → is_dashed word ≡ b → (if b then option_met v word uses else argument_met v Free word uses) ≡ Some r → Next v r (at_free v uses rs p) word
    go true h e = option_next v word uses rs p r s ord e
    go false h e =
        let u = used_gives Free (next_of v (has Number uses)) word uses r e in
        subst (λ (q : Read). Next v q (at_free v uses rs p) word) u.1 (plain_next v word uses rs p h s ord u.0)
met_next v (Waits n) uses word r rs p s ord e = go (is_dashed word) refl e
  where
    go : (b : Bool) → is_dashed word ≡ b → (if b then None else used Free n word uses) ≡ Some r → Next v r (walk_at (Waits n) (position_of v uses) rs p) word
    go true h e = cc
    go false h e =
        let u = used_gives Free n word uses r e in
        subst (λ (q : Read). Next v q (walk_at (Waits n) (position_of v uses) rs p) word) u.1
        (subst (λ (x : Pending). Next v (more Free n word uses) (walk_at (Waits n) (position_of v uses) rs x) word) (sym s.1) (value_next v n word uses rs s.2 h s.0 u.0 ord))

-- ---- all words

pub walks : (v : Verb) (words : List Text) (r end : Read) (w : Walk) → Along v r w → reads v r words ≡ Some end
    → (walk_passes (shape_of v) [] w words ≡ true) × Along v end (fold (walked (rules_of v) []) w words)
unfolding walk_passes
walks v [] r end w a e = (refl, subst (λ (q : Read). Along v q w) (some_same _ _ e) a)
walks v (word ∷ rest) r end w a e = go (met v r word) refl (λ n one h. walks v rest n end (walked (rules_of v) [] w word) one h) e
  where
    go : (o : Option Read) → met v r word ≡ o
        → ((n : Read) → Along v n (walked (rules_of v) [] w word) → reads v n rest ≡ Some end
        → (walk_passes (shape_of v) [] (walked (rules_of v) [] w word) rest ≡ true) × Along v end (fold (walked (rules_of v) []) (walked (rules_of v) [] w word) rest))
        → option_and_then (λ n. reads v n rest) o ≡ Some end
        → (walk_passes (shape_of v) [] w (word ∷ rest) ≡ true) × Along v end (fold (walked (rules_of v) []) w (word ∷ rest))
    go None h rec e = cc
    go (Some n) h rec e =
        let one = subst (λ (x : Walk). Next v n x word) (sym a.is) (met_next v r.phase r.uses word n a.rs a.p a.facts a.ordered h) in
        let more = rec n one.1 e in
        (ap₂ (λ (b c : Bool). b && c) one.0 more.0, more.1)
