-- A line reads as what a reader makes of it. For other crates too.
use Rattle.std.specs.Prelude.{◌≡◌, ℕ, true, false, List, [], ◌∷◌, Option, Some, None, Ok, Err, refl}
use Rattle.std.specs.List.{list_all}
use Rattle.std.proofs.Common.{sym, ◌∙◌, ap, subst, inl, inr, arith}
use Rattle.std.proofs.lemmas.Bool.{and_parts, cond_both, false_from_ne_true}
use Rattle.std.proofs.lemmas.Bool.Decides.{nat_tests}
use Rattle.item_tree.specs.Datum.{Datum}
use Rattle.item_tree.specs.declared.code.Code.TheVariants.{JNDY0021}
use Rattle.json_text.specs.Raw.{Raw}
use Rattle.json_text.specs.Json.{is_space, Json}
use Rattle.json_text.specs.Meaning.{Trouble, Outcome, Gives}
use Rattle.json_text.specs.Line.{is_blank, is_line_space, Reading, blank, item, fault, code_of, ReadsAs}
use Rattle.json_text.specs.inside.Machine.{Events, Event, end, token_at, value, run}
use Rattle.json_text.specs.inside.Build.{Frame, Build, building, done, troubled, settle, outcome, start, made, reading_of, reading}
use Rattle.json_text.specs.Laws.{ReadingIsExact}
use Rattle.json_text.proofs.CompleteLemmas.{text_runs}
use Rattle.json_text.proofs.SoundLemmas.{run_is_text}
use Rattle.json_text.proofs.RunLemmas.{run_token}
use Rattle.json_text.proofs.ItemOf.{item_of, gives_item, gives_one}
use Rattle.json_text.proofs.BuildLemmas.{built}

-- ---- of a text

pub text_made : (line : List ℕ) (v : Raw) → Json line v → made line ≡ Some (settle (item_of 0 v) [])
text_made line v j = ap (outcome start) (text_runs line v j) ∙ ap Some (built v [] [])

events_of : (x : Build) (r : Events) (b : Build) → outcome x r ≡ Some b → (es : List Event) × (r ≡ Some es)
events_of x None b h = absurd cc
events_of x (Some es) b h = (es, refl)

same_build : (a b : Build) → Some a ≡ Some b → a ≡ b
same_build a b h = cc

-- what is built of a line is of its raw value
pub record IsBuilt (line : List ℕ) (b : Build) : Type 0 where
  pub raw : Raw
  pub text : Json line raw
  pub settled : b ≡ settle (item_of 0 raw) []

pub made_is_text : (line : List ℕ) (b : Build) → made line ≡ Some b → IsBuilt line b
made_is_text line b h =
    let e = events_of start (run (value false) [] line) b h in
    let s = run_is_text line e.0 e.1 in
    record { raw = s.0; text = s.1; settled = same_build _ _ (sym h ∙ text_made line s.0 s.1) }

done_item : (r : Outcome Datum) (x : Datum) → done x ≡ settle r [] → r ≡ Ok x
done_item (Ok y) x h = cc
done_item (Err t) x h = absurd cc

first_trouble : (r : Outcome Datum) (t : Trouble) → troubled t ≡ settle r [] → r ≡ Err t
first_trouble (Ok y) t h = absurd cc
first_trouble (Err s) t h = cc

all_settled : (r : Outcome Datum) (fs : List Frame) → building fs ≡ settle r [] → ⊥
all_settled (Ok y) fs h = cc
all_settled (Err s) fs h = cc

-- ---- what a loop over the tokens of a line comes to

pub never_building : (line : List ℕ) (fs : List Frame) → made line ≡ Some (building fs) → ⊥
never_building line fs h = let b = made_is_text line (building fs) h in all_settled (item_of 0 b.raw) fs b.settled

pub reads_item : (line : List ℕ) (x : Datum) → made line ≡ Some (done x) → ReadsAs line (item x)
reads_item line x h =
    let b = made_is_text line (done x) h in
    record { raw = b.raw; text = b.text; gives = subst (Gives 0 b.raw) (done_item (item_of 0 b.raw) x b.settled) (gives_item 0 b.raw) }

pub reads_trouble : (line : List ℕ) (t : Trouble) → made line ≡ Some (troubled t) → ReadsAs line (fault (code_of t))
reads_trouble line t h =
    let b = made_is_text line (troubled t) h in
    inr (record { raw = b.raw; first = t; text = b.text; gives = subst (Gives 0 b.raw) (first_trouble (item_of 0 b.raw) t b.settled) (gives_item 0 b.raw); code = refl })

none_some : (b : Build) → Some b ≡ None → ⊥
none_some b h = cc

pub no_text : (line : List ℕ) → made line ≡ None → (v : Raw) → ¬ Json line v
no_text line h v j = none_some _ (sym (text_made line v j) ∙ h)

pub reads_nothing : (line : List ℕ) → is_blank line ≡ false → made line ≡ None → ReadsAs line (fault JNDY0021)
reads_nothing line some h = inl (refl, record { some = some; none = no_text line h })

-- ---- a blank line is no text

line_space_is_space : (b : ℕ) → is_line_space b ≡ true → is_space b ≡ true
line_space_is_space b h = grind (arith, nat_tests)

blank_token : (line : List ℕ) → is_blank line ≡ true → token_at line ≡ (end, [])
unfolding token_at
blank_token [] h = refl
blank_token (b ∷ line) h = let p = and_parts (is_line_space b) (list_all is_line_space line) h in rw (line_space_is_space b p.0) (blank_token line p.1)

pub blank_made : (line : List ℕ) → is_blank line ≡ true → made line ≡ None
blank_made line h = ap (outcome start) (run_token (value false) [] line end [] (blank_token line h))

pub text_is_some : (line : List ℕ) (v : Raw) → Json line v → is_blank line ≡ false
text_is_some line v j = false_from_ne_true (is_blank line) (λ h. no_text line (blank_made line h) v j)

-- ---- a line reads as one thing

reads_made : (line : List ℕ) (o : Option Build) → is_blank line ≡ false → made line ≡ o → ReadsAs line (reading_of o)
reads_made line None some h = reads_nothing line some h
reads_made line (Some (building fs)) some h = absurd (never_building line fs h)
reads_made line (Some (done x)) some h = reads_item line x h
reads_made line (Some (troubled t)) some h = reads_trouble line t h

pub reads : (line : List ℕ) → ReadsAs line (reading line)
unfolding reading
reads line = cond_both (is_blank line) _ _ (ReadsAs line) (λ h. h) (λ some. reads_made line (made line) some refl)

reading_some : (line : List ℕ) → is_blank line ≡ false → reading line ≡ reading_of (made line)
unfolding reading
reading_some line some = rw some refl

reading_text : (line : List ℕ) (v : Raw) (r : Outcome Datum) → Json line v → Gives 0 v r → reading line ≡ reading_of (Some (settle r []))
reading_text line v r j g = reading_some line (text_is_some line v j) ∙ ap reading_of (text_made line v j) ∙ ap (λ o. reading_of (Some (settle o []))) (sym (gives_one 0 v r g))

nothing_made : (line : List ℕ) (o : Option Build) → ((v : Raw) → ¬ Json line v) → made line ≡ o → o ≡ None
nothing_made line None none h = refl
nothing_made line (Some b) none h = let k = made_is_text line b h in absurd (none k.raw k.text)

pub reads_one : (line : List ℕ) (r : Reading) → ReadsAs line r → r ≡ reading line
unfolding reading
reads_one line blank h = rw h refl
reads_one line (item x) h = sym (reading_text line h.raw (Ok x) h.text h.gives)
reads_one line (fault c) h =
    elim h [
      | inl n ↦ ap fault n.0 ∙ sym (reading_some line n.1.some ∙ ap reading_of (nothing_made line (made line) n.1.none refl))
      | inr t ↦ ap fault t.code ∙ sym (reading_text line t.raw (Err t.first) t.text t.gives)
    ]

pub reading_exact : ReadingIsExact
reading_exact = record { read = reads; one = reads_one }
