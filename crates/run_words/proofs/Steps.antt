-- One word of the walk of a parse, by what the word is.
use Rattle.std.proofs.Common.{◌≡◌, ◌∙◌, ◌&&◌, ◌||◌, ℕ, Bool, true, false, List, [], ◌∷◌, ◌++◌, Option, Some, None, refl, ap, ap₂, codes}
use Rattle.std.specs.Prelude.{if◌then◌else◌, option_and_then}
use Rattle.std.specs.Str.{bytes_eq}
use Rattle.std.specs.Option.{option_map_or}
use Rattle.clap.specs.Walk.{Row, Rule, Held, Walk, Waiting, idle, option, settled_rows, settled, walked}
use Rattle.clap.specs.Walk as clap
use Rattle.clap.specs.Takes.{settle_passes, react_passes, turn_passes, other_passes, flag_word_passes, bundle_passes, step_passes}
use Rattle.clap.specs.Lexer.{long_of, short_of, long_of_rest, short_of_rest, strip_byte}
use Rattle.clap.proofs.OnLiterals.{clap_on_literals}
use Rattle.run_words.specs.Table.{Text, id_of, has_option, next_of}
use Rattle.run_words.specs.Given.{is_dashed, alone, joined}
use Rattle.run_words.proofs.Rules.{rules_of, shape_of, rule_for}
use Rattle.run_words.specs.inside.Command.{is_flag}
use Rattle.run_words.specs.declared.given.Phase.{Phase}
use Rattle.run_words.specs.declared.given.Phase.TheVariants.{Free, Waits, Over}
use Rattle.run_words.specs.declared.table.Verb.{Verb}
use Rattle.run_words.specs.declared.table.Verb.TheVariants.{Run, Check, Explain, Trial}
use Rattle.run_words.specs.declared.table.Name.{Name}
use Rattle.run_words.specs.declared.table.Name.TheVariants.{Workers, Partition, Mode, Stats, Query, Number, Lines}

-- where the walk stands
abbrev pub waiting_at : Phase → Waiting
waiting_at (Waits n) = option (id_of n)
waiting_at _ = idle

abbrev pub is_over : Phase → Bool
is_over Over = true
is_over _ = false

abbrev pub Pending : Type 0
Pending = Option (Text × List Text)

abbrev pub held_at : List Row → Pending → Held
held_at rs p = record { rows = rs; pending = p; skip = 0 }

abbrev pub walk_at : Phase → ℕ → List Row → Pending → Walk
walk_at phase k rs p = record { held = held_at rs p; waiting = waiting_at phase; position = k; is_trailing = is_over phase; stopped = None }

-- the place of the argument that comes next, by whether the number of a trial is given
abbrev pub place_of : Verb → Bool → ℕ
place_of Trial true = 2
place_of Trial false = 1
place_of Run has_number = 1
place_of Check has_number = 1
place_of Explain has_number = 1

abbrev pub place_after : Verb → Bool → ℕ
place_after Trial true = 3
place_after Trial false = 2
place_after Run has_number = 2
place_after Check has_number = 2
place_after Explain has_number = 2

-- `--stats`
pub flag_walked : (v : Verb) (k : ℕ) (rs : List Row) (p : Pending) → has_option v Stats ≡ true
    → walked (rules_of v) [] (walk_at Free k rs p) (alone Stats) ≡ walk_at Free k (clap.used (rule_for Stats) [] (settled_rows (rules_of v) p rs)) None
unfolding clap_on_literals
flag_walked Run k rs p o = refl
flag_walked Check k rs p o = cc
flag_walked Explain k rs p o = cc
flag_walked Trial k rs p o = cc

pub flag_turn : (v : Verb) (k : ℕ) (rs : List Row) (p : Pending) → has_option v Stats ≡ true → react_passes (rules_of v) false (rule_for Stats) [] (held_at rs p) ≡ true
    → turn_passes (shape_of v) [] (walk_at Free k rs p) (alone Stats) ≡ true
unfolding clap_on_literals
flag_turn Run k rs p o ok = ap (λ b. b && true) ok
flag_turn Check k rs p o ok = cc
flag_turn Explain k rs p o ok = cc
flag_turn Trial k rs p o ok = cc

-- `--name=t`
pub joined_walked : (v : Verb) (n : Name) (t : Text) (k : ℕ) (rs : List Row) (p : Pending) → has_option v n ≡ true → is_flag n ≡ false
    → walked (rules_of v) [] (walk_at Free k rs p) (joined n ++ t) ≡ walk_at Free k (clap.used (rule_for n) (t ∷ []) (settled_rows (rules_of v) p rs)) None
unfolding clap_on_literals
joined_walked Run Workers t k rs p o f = refl
joined_walked Run Partition t k rs p o f = refl
joined_walked Run Mode t k rs p o f = refl
joined_walked Run Stats t k rs p o f = cc
joined_walked Run Query t k rs p o f = cc
joined_walked Run Number t k rs p o f = cc
joined_walked Run Lines t k rs p o f = cc
joined_walked Check n t k rs p o f = cc
joined_walked Explain n t k rs p o f = cc
joined_walked Trial Workers t k rs p o f = refl
joined_walked Trial Partition t k rs p o f = refl
joined_walked Trial Mode t k rs p o f = cc
joined_walked Trial Stats t k rs p o f = cc
joined_walked Trial Query t k rs p o f = cc
joined_walked Trial Number t k rs p o f = cc
joined_walked Trial Lines t k rs p o f = cc

pub joined_turn : (v : Verb) (n : Name) (t : Text) (k : ℕ) (rs : List Row) (p : Pending) → has_option v n ≡ true → is_flag n ≡ false
    → react_passes (rules_of v) false (rule_for n) (t ∷ []) (held_at rs p) ≡ true → turn_passes (shape_of v) [] (walk_at Free k rs p) (joined n ++ t) ≡ true
unfolding clap_on_literals
joined_turn Run Workers t k rs p o f ok = ap (λ b. b && true) ok
joined_turn Run Partition t k rs p o f ok = ap (λ b. b && true) ok
joined_turn Run Mode t k rs p o f ok = ap (λ b. b && true) ok
joined_turn Run Stats t k rs p o f ok = cc
joined_turn Run Query t k rs p o f ok = cc
joined_turn Run Number t k rs p o f ok = cc
joined_turn Run Lines t k rs p o f ok = cc
joined_turn Check n t k rs p o f ok = cc
joined_turn Explain n t k rs p o f ok = cc
joined_turn Trial Workers t k rs p o f ok = ap (λ b. b && true) ok
joined_turn Trial Partition t k rs p o f ok = ap (λ b. b && true) ok
joined_turn Trial Mode t k rs p o f ok = cc
joined_turn Trial Stats t k rs p o f ok = cc
joined_turn Trial Query t k rs p o f ok = cc
joined_turn Trial Number t k rs p o f ok = cc
joined_turn Trial Lines t k rs p o f ok = cc

-- `--name`
pub alone_walked : (v : Verb) (n : Name) (k : ℕ) (rs : List Row) (p : Pending) → has_option v n ≡ true → is_flag n ≡ false
    → walked (rules_of v) [] (walk_at Free k rs p) (alone n) ≡ walk_at (Waits n) k (settled_rows (rules_of v) p rs) (Some (id_of n, []))
unfolding clap_on_literals
alone_walked Run Workers k rs p o f = refl
alone_walked Run Partition k rs p o f = refl
alone_walked Run Mode k rs p o f = refl
alone_walked Run Stats k rs p o f = cc
alone_walked Run Query k rs p o f = cc
alone_walked Run Number k rs p o f = cc
alone_walked Run Lines k rs p o f = cc
alone_walked Check n k rs p o f = cc
alone_walked Explain n k rs p o f = cc
alone_walked Trial Workers k rs p o f = refl
alone_walked Trial Partition k rs p o f = refl
alone_walked Trial Mode k rs p o f = cc
alone_walked Trial Stats k rs p o f = cc
alone_walked Trial Query k rs p o f = cc
alone_walked Trial Number k rs p o f = cc
alone_walked Trial Lines k rs p o f = cc

pub alone_turn : (v : Verb) (n : Name) (k : ℕ) (rs : List Row) (p : Pending) → has_option v n ≡ true → is_flag n ≡ false → settle_passes (rules_of v) false (held_at rs p) ≡ true
    → turn_passes (shape_of v) [] (walk_at Free k rs p) (alone n) ≡ true
unfolding clap_on_literals
alone_turn Run Workers k rs p o f ok = ap (λ b. b && true) ok
alone_turn Run Partition k rs p o f ok = ap (λ b. b && true) ok
alone_turn Run Mode k rs p o f ok = ap (λ b. b && true) ok
alone_turn Run Stats k rs p o f ok = cc
alone_turn Run Query k rs p o f ok = cc
alone_turn Run Number k rs p o f ok = cc
alone_turn Run Lines k rs p o f ok = cc
alone_turn Check n k rs p o f ok = cc
alone_turn Explain n k rs p o f ok = cc
alone_turn Trial Workers k rs p o f ok = ap (λ b. b && true) ok
alone_turn Trial Partition k rs p o f ok = ap (λ b. b && true) ok
alone_turn Trial Mode k rs p o f ok = cc
alone_turn Trial Stats k rs p o f ok = cc
alone_turn Trial Query k rs p o f ok = cc
alone_turn Trial Number k rs p o f ok = cc
alone_turn Trial Lines k rs p o f ok = cc

-- `--`
pub end_walked : (v : Verb) (k : ℕ) (rs : List Row) (p : Pending) → walked (rules_of v) [] (walk_at Free k rs p) (45 ∷ 45 ∷ []) ≡ walk_at Over k rs p
unfolding clap_on_literals
end_walked Run k rs p = refl
end_walked Check k rs p = refl
end_walked Explain k rs p = refl
end_walked Trial k rs p = refl

pub end_turn : (v : Verb) (k : ℕ) (rs : List Row) (p : Pending) → turn_passes (shape_of v) [] (walk_at Free k rs p) (45 ∷ 45 ∷ []) ≡ true
unfolding clap_on_literals
end_turn Run k rs p = refl
end_turn Check k rs p = refl
end_turn Explain k rs p = refl
end_turn Trial k rs p = refl

-- ---- a word that doesn't begin with `-`

not_end : (word : Text) → is_dashed word ≡ false → bytes_eq word (45 ∷ 45 ∷ []) ≡ false
not_end [] e = refl
not_end (x ∷ xs) e = ap (λ b. b && bytes_eq xs (45 ∷ [])) e

not_long : (word : Text) → is_dashed word ≡ false → long_of word ≡ None
not_long [] e = refl
not_long (x ∷ xs) e = ap (λ b. option_and_then long_of_rest (option_and_then (strip_byte 45) (if b then Some xs else None))) e

not_short : (word : Text) → is_dashed word ≡ false → short_of word ≡ None
not_short [] e = refl
not_short (x ∷ xs) e = ap (λ b. option_and_then short_of_rest (if b then Some xs else None)) e

plain_met : (rules : List Rule) (waiting : Waiting) (position : ℕ) (word : Text) (h : Held) → is_dashed word ≡ false
    → clap.subcommand_or_other rules None waiting position word h ≡ clap.plain_word rules waiting word h
plain_met rules waiting position word h e =
    ap (λ b. if b then (h, clap.trailing position) else clap.long_or_other rules waiting word (long_of word) h) (not_end word e)
    ∙ ap (λ o. clap.long_or_other rules waiting word o h) (not_long word e)
    ∙ ap (λ o. clap.short_or_plain rules waiting word o h) (not_short word e)

passes_by : (rules : List Rule) (word : Text) (h : Held) → is_dashed word ≡ false
    → (bytes_eq word (45 ∷ 45 ∷ []) || flag_word_passes rules false (long_of word) word h) ≡ true
passes_by rules word h e =
    ap (λ b. b || flag_word_passes rules false (long_of word) word h) (not_end word e)
    ∙ ap (λ o. flag_word_passes rules false o word h) (not_long word e)
    ∙ ap (λ o. option_map_or (λ flags. bundle_passes rules false flags h) o true) (not_short word e)

plain_passes : (v : Verb) (word : Text) (h : Held) → is_dashed word ≡ false → other_passes (shape_of v) None word h ≡ true
plain_passes Run word h e = passes_by (rules_of Run) word h e
plain_passes Check word h e = passes_by (rules_of Check) word h e
plain_passes Explain word h e = passes_by (rules_of Explain) word h e
plain_passes Trial word h e = passes_by (rules_of Trial) word h e

-- as the value of an option
value_met : (v : Verb) (n : Name) (word : Text) (rs : List Row) → has_option v n ≡ true → is_flag n ≡ false
    → clap.plain_word (rules_of v) (option (id_of n)) word (held_at rs (Some (id_of n, []))) ≡ (held_at rs (Some (id_of n, word ∷ [])), clap.next idle)
value_met Run Workers word rs o f = refl
value_met Run Partition word rs o f = refl
value_met Run Mode word rs o f = refl
value_met Run Stats word rs o f = cc
value_met Run Query word rs o f = cc
value_met Run Number word rs o f = cc
value_met Run Lines word rs o f = cc
value_met Check n word rs o f = cc
value_met Explain n word rs o f = cc
value_met Trial Workers word rs o f = refl
value_met Trial Partition word rs o f = refl
value_met Trial Mode word rs o f = cc
value_met Trial Stats word rs o f = cc
value_met Trial Query word rs o f = cc
value_met Trial Number word rs o f = cc
value_met Trial Lines word rs o f = cc

pub value_walked : (v : Verb) (n : Name) (word : Text) (k : ℕ) (rs : List Row) → has_option v n ≡ true → is_flag n ≡ false → is_dashed word ≡ false
    → walked (rules_of v) [] (walk_at (Waits n) k rs (Some (id_of n, []))) word ≡ walk_at Free k rs (Some (id_of n, word ∷ []))
unfolding clap_on_literals
value_walked v n word k rs o f e =
    let w = walk_at (Waits n) k rs (Some (id_of n, [])) in
    ap (λ (m : Held × clap.Step). clap.after_step (rules_of v) word w m.0 m.1) (plain_met (rules_of v) (option (id_of n)) k word w.held e ∙ value_met v n word rs o f)

pub value_turn : (v : Verb) (n : Name) (word : Text) (k : ℕ) (rs : List Row) → has_option v n ≡ true → is_flag n ≡ false → is_dashed word ≡ false
    → turn_passes (shape_of v) [] (walk_at (Waits n) k rs (Some (id_of n, []))) word ≡ true
unfolding clap_on_literals
value_turn v n word k rs o f e =
    let w = walk_at (Waits n) k rs (Some (id_of n, [])) in
    ap₂ (λ (b : Bool) (m : Held × clap.Step). b && step_passes (shape_of v) k m.0 m.1) (plain_passes v word w.held e)
    (plain_met (rules_of v) (option (id_of n)) k word w.held e ∙ value_met v n word rs o f)

-- ---- as an argument

never : {X : Type 0} (b : Bool) (x y : X) → (if b && false then x else y) ≡ y
never true x y = refl
never false x y = refl

never_or : (b c : Bool) → ((b && false) || c) ≡ c
never_or true c = refl
never_or false c = refl

taken : (v : Verb) (b : Bool) (word : Text) (rs : List Row) (p : Pending)
    → clap.positional_held (rules_of v) (rule_for (next_of v b)) word (held_at rs p) ≡ held_at (settled_rows (rules_of v) p rs) (Some (id_of (next_of v b), word ∷ []))
taken Run b word rs p = ap (λ h. clap.pushed (codes "query") word h) (never (clap.is_pending (rule_for Query) p) (held_at rs p) (settled (rules_of Run) (held_at rs p)))
taken Check b word rs p = ap (λ h. clap.pushed (codes "query") word h) (never (clap.is_pending (rule_for Query) p) (held_at rs p) (settled (rules_of Check) (held_at rs p)))
taken Explain b word rs p = ap (λ h. clap.pushed (codes "query") word h) (never (clap.is_pending (rule_for Query) p) (held_at rs p) (settled (rules_of Explain) (held_at rs p)))
taken Trial true word rs p = ap (λ h. clap.pushed (codes "lines") word h) (never (clap.is_pending (rule_for Lines) p) (held_at rs p) (settled (rules_of Trial) (held_at rs p)))
taken Trial false word rs p = ap (λ h. clap.pushed (codes "number") word h) (never (clap.is_pending (rule_for Number) p) (held_at rs p) (settled (rules_of Trial) (held_at rs p)))

pub plain_walked : (v : Verb) (b : Bool) (word : Text) (rs : List Row) (p : Pending) → is_dashed word ≡ false
    → walked (rules_of v) [] (walk_at Free (place_of v b) rs p) word ≡ walk_at Free (place_after v b) (settled_rows (rules_of v) p rs) (Some (id_of (next_of v b), word ∷ []))
unfolding clap_on_literals
plain_walked Run b word rs p e = ap (λ (m : Held × clap.Step). clap.after_step (rules_of Run) word (walk_at Free 1 rs p) m.0 m.1) (plain_met (rules_of Run) idle 1 word (held_at rs p) e)
    ∙ ap (λ h. record { held = h; waiting = idle; position = 2; is_trailing = false; stopped = None }) (taken Run b word rs p)
plain_walked Check b word rs p e = ap (λ (m : Held × clap.Step). clap.after_step (rules_of Check) word (walk_at Free 1 rs p) m.0 m.1) (plain_met (rules_of Check) idle 1 word (held_at rs p) e)
    ∙ ap (λ h. record { held = h; waiting = idle; position = 2; is_trailing = false; stopped = None }) (taken Check b word rs p)
plain_walked Explain b word rs p e = ap (λ (m : Held × clap.Step). clap.after_step (rules_of Explain) word (walk_at Free 1 rs p) m.0 m.1) (plain_met (rules_of Explain) idle 1 word (held_at rs p) e)
    ∙ ap (λ h. record { held = h; waiting = idle; position = 2; is_trailing = false; stopped = None }) (taken Explain b word rs p)
plain_walked Trial true word rs p e = ap (λ (m : Held × clap.Step). clap.after_step (rules_of Trial) word (walk_at Free 2 rs p) m.0 m.1) (plain_met (rules_of Trial) idle 2 word (held_at rs p) e)
    ∙ ap (λ h. record { held = h; waiting = idle; position = 3; is_trailing = false; stopped = None }) (taken Trial true word rs p)
plain_walked Trial false word rs p e = ap (λ (m : Held × clap.Step). clap.after_step (rules_of Trial) word (walk_at Free 1 rs p) m.0 m.1) (plain_met (rules_of Trial) idle 1 word (held_at rs p) e)
    ∙ ap (λ h. record { held = h; waiting = idle; position = 2; is_trailing = false; stopped = None }) (taken Trial false word rs p)

pub plain_turn : (v : Verb) (b : Bool) (word : Text) (rs : List Row) (p : Pending) → is_dashed word ≡ false → settle_passes (rules_of v) false (held_at rs p) ≡ true
    → turn_passes (shape_of v) [] (walk_at Free (place_of v b) rs p) word ≡ true
unfolding clap_on_literals
plain_turn Run b word rs p e settles = ap₂ (λ (c : Bool) (m : Held × clap.Step). c && step_passes (shape_of Run) 1 m.0 m.1) (plain_passes Run word (held_at rs p) e) (plain_met (rules_of Run) idle 1 word (held_at rs p) e)
    ∙ never_or (clap.is_pending (rule_for Query) p) _ ∙ settles
plain_turn Check b word rs p e settles = ap₂ (λ (c : Bool) (m : Held × clap.Step). c && step_passes (shape_of Check) 1 m.0 m.1) (plain_passes Check word (held_at rs p) e) (plain_met (rules_of Check) idle 1 word (held_at rs p) e)
    ∙ never_or (clap.is_pending (rule_for Query) p) _ ∙ settles
plain_turn Explain b word rs p e settles = ap₂ (λ (c : Bool) (m : Held × clap.Step). c && step_passes (shape_of Explain) 1 m.0 m.1) (plain_passes Explain word (held_at rs p) e) (plain_met (rules_of Explain) idle 1 word (held_at rs p) e)
    ∙ never_or (clap.is_pending (rule_for Query) p) _ ∙ settles
plain_turn Trial true word rs p e settles = ap₂ (λ (c : Bool) (m : Held × clap.Step). c && step_passes (shape_of Trial) 2 m.0 m.1) (plain_passes Trial word (held_at rs p) e) (plain_met (rules_of Trial) idle 2 word (held_at rs p) e)
    ∙ never_or (clap.is_pending (rule_for Lines) p) _ ∙ settles
plain_turn Trial false word rs p e settles = ap₂ (λ (c : Bool) (m : Held × clap.Step). c && step_passes (shape_of Trial) 1 m.0 m.1) (plain_passes Trial word (held_at rs p) e) (plain_met (rules_of Trial) idle 1 word (held_at rs p) e)
    ∙ never_or (clap.is_pending (rule_for Number) p) _ ∙ settles

pub over_walked : (v : Verb) (b : Bool) (word : Text) (rs : List Row) (p : Pending)
    → walked (rules_of v) [] (walk_at Over (place_of v b) rs p) word ≡ walk_at Over (place_after v b) (settled_rows (rules_of v) p rs) (Some (id_of (next_of v b), word ∷ []))
unfolding clap_on_literals
over_walked Run b word rs p = ap (λ h. record { held = h; waiting = idle; position = 2; is_trailing = true; stopped = None }) (taken Run b word rs p)
over_walked Check b word rs p = ap (λ h. record { held = h; waiting = idle; position = 2; is_trailing = true; stopped = None }) (taken Check b word rs p)
over_walked Explain b word rs p = ap (λ h. record { held = h; waiting = idle; position = 2; is_trailing = true; stopped = None }) (taken Explain b word rs p)
over_walked Trial true word rs p = ap (λ h. record { held = h; waiting = idle; position = 3; is_trailing = true; stopped = None }) (taken Trial true word rs p)
over_walked Trial false word rs p = ap (λ h. record { held = h; waiting = idle; position = 2; is_trailing = true; stopped = None }) (taken Trial false word rs p)

pub over_turn : (v : Verb) (b : Bool) (word : Text) (rs : List Row) (p : Pending) → settle_passes (rules_of v) false (held_at rs p) ≡ true
    → turn_passes (shape_of v) [] (walk_at Over (place_of v b) rs p) word ≡ true
unfolding clap_on_literals
over_turn Run b word rs p settles = never_or (clap.is_pending (rule_for Query) p) _ ∙ settles
over_turn Check b word rs p settles = never_or (clap.is_pending (rule_for Query) p) _ ∙ settles
over_turn Explain b word rs p settles = never_or (clap.is_pending (rule_for Query) p) _ ∙ settles
over_turn Trial true word rs p settles = never_or (clap.is_pending (rule_for Lines) p) _ ∙ settles
over_turn Trial false word rs p settles = never_or (clap.is_pending (rule_for Number) p) _ ∙ settles
