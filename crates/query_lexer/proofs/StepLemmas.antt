-- What step_at says is what stands there, and nothing else does.
use Rattle.std.proofs.Common.{◌≡◌, inl, inr, ℕ, ◌<◌, List, ◌∷◌, [], ◌++◌, length, take, drop, true, false, sym, ◌∙◌, ap, subst, refl, arith, Option, Some, None}
use Rattle.std.proofs.lemmas.Bool.{cond-true, cond-false, cases_Bool, eqb-true, and_parts}
use Rattle.std.proofs.Common.{◌==◌}
use Rattle.std.proofs.lemmas.List.{length-take-le, take-append-drop}
use Rattle.query_lexer.specs.Bytes.{is_blank, next_passes}
use Rattle.query_lexer.specs.Comments.{opens, begins_comment, comment_rest}
use Rattle.query_lexer.specs.Scan.{is_out, token_at, step_at, comment_step, word_step}
use Rattle.query_lexer.specs.Words.{Fits}
use Rattle.query_lexer.specs.Lexes.{IsLongest, NoToken, IsDark, IsWord, runs_on, Stands}
use Rattle.query_lexer.specs.declared.token.TokenKind.{TokenKind}
use Rattle.query_lexer.specs.declared.steps.Step.{Step}
use Rattle.query_lexer.specs.declared.steps.Step.TheVariants as step
use Rattle.item_tree.specs.declared.code.Code.TheVariants.{XPST0003, PJST0004}
use Rattle.query_lexer.proofs.Cases.{some_pair}
use Rattle.query_lexer.proofs.Reaching.{Reaches}
use Rattle.query_lexer.proofs.LongestTokens.{reaches, option_cases}
use Rattle.query_lexer.proofs.SoundTokens.{token_sound}
use Rattle.query_lexer.proofs.RangeLemmas.{out_is, in_is, is_out_from, is_in_from}

reached : (text : List ℕ) (kind : TokenKind) (v rest : List ℕ) → text ≡ v ++ rest → Fits kind v rest → Reaches (token_at text) kind (length v)
reached text kind v rest seam fits = subst (λ t. Reaches (token_at t) kind (length v)) (sym seam) (reaches kind v rest fits)

-- what is found is the longest
found_longest : (text : List ℕ) (x : TokenKind × ℕ) → token_at text ≡ Some x → IsLongest text x.0 x.1
found_longest text x h =
    let s = token_sound text x h in
    record {
      within = s.within;
      fits = s.fits;
      longest = λ other v rest seam fits.
          let r = reached text other v rest seam fits in
          let e = some_pair (r.other, r.long) x (sym r.is ∙ h) in
          omega (arith, e.1, r.above);
    }

none_found : (text : List ℕ) → token_at text ≡ None → NoToken text
none_found text h kind v rest seam fits = let r = reached text kind v rest seam fits in let e = r.is in cc

-- the longest is found
pub longest_found : (text : List ℕ) (kind : TokenKind) (n : ℕ) → IsLongest text kind n → token_at text ≡ Some (kind, n)
longest_found text kind n l =
    let size = length-take-le n text l.within in
    let r = reached text kind (take n text) (drop n text) (sym (take-append-drop n text)) l.fits in
    let s = token_sound text (r.other, r.long) r.is in
    let other_size = length-take-le r.long text s.within in
    let most = l.longest r.other (take r.long text) (drop r.long text) (sym (take-append-drop r.long text)) s.fits in
    let same : n ≡ r.long = omega (arith, r.above) in
    let kinds = r.same (size ∙ same) in
    let found = subst (λ q. token_at text ≡ Some (q, r.long)) (sym kinds) r.is in
    subst (λ m. token_at text ≡ Some (kind, m)) (sym same) found

no_token_found : (text : List ℕ) → NoToken text → token_at text ≡ None
no_token_found text h = elim (option_cases (token_at text)) [
  | inl e ↦ e
  | inr (x, e) ↦ let s = token_sound text x e in absurd (h x.0 (take x.1 text) (drop x.1 text) (sym (take-append-drop x.1 text)) s.fits)
]

comment_no_blank : (text : List ℕ) → begins_comment text ≡ true → next_passes is_blank text ≡ false
unfolding opens is_blank
comment_no_blank [] h = refl
comment_no_blank (b ∷ []) h = cc
comment_no_blank (b ∷ c ∷ r) h = ap is_blank (eqb-true b 40 (and_parts (b == 40) (c == 58) h).0)

at_blank : (text : List ℕ) → next_passes is_blank text ≡ true → step_at text ≡ step.Skip 1
unfolding step_at
at_blank text h = cond-true _ _ _ h

at_comment : (text : List ℕ) → begins_comment text ≡ true → step_at text ≡ comment_step (comment_rest 0 (drop 2 text))
unfolding step_at
at_comment text h = cond-false _ _ _ (comment_no_blank text h) ∙ cond-true _ _ _ h

at_dark : (text : List ℕ) → IsDark text → step_at text ≡ word_step text (token_at text)
unfolding step_at
at_dark text d = cond-false _ _ _ d.blank ∙ cond-false _ _ _ d.comment

at_word : (text : List ℕ) (kind : TokenKind) (n : ℕ) → IsWord text kind n → step_at text ≡ word_step text (Some (kind, n))
at_word text kind n v = at_dark text v.dark ∙ ap (word_step text) (longest_found text kind n v.longest)

-- what stands there is what step_at says
pub stands_step : (text : List ℕ) (s : Step) → Stands text s → step_at text ≡ s
stands_step text (step.Skip n) (inl (blank, one)) = at_blank text blank ∙ ap step.Skip (sym one)
stands_step text (step.Skip n) (inr (begins, m, closed, size)) = at_comment text begins ∙ ap comment_step closed ∙ ap step.Skip (sym size)
stands_step text (step.Take kind n) (word, apart, inside) = at_word text kind n word ∙ cond-false _ _ _ apart ∙ cond-false _ _ _ (is_in_from kind (take n text) (drop n text) word.longest.fits inside)
stands_step text (step.Refuse c) (inl (is, inl (begins, open_end))) = at_comment text begins ∙ ap comment_step open_end ∙ ap step.Refuse (sym is)
stands_step text (step.Refuse c) (inl (is, inr (inl (dark, none)))) = at_dark text dark ∙ ap (word_step text) (no_token_found text none) ∙ ap step.Refuse (sym is)
stands_step text (step.Refuse c) (inl (is, inr (inr (kind, n, word, on)))) = at_word text kind n word ∙ cond-true _ _ _ on ∙ ap step.Refuse (sym is)
stands_step text (step.Refuse c) (inr (is, (kind, n, word, apart, outside))) = at_word text kind n word ∙ cond-false _ _ _ apart ∙ cond-true _ _ _ (is_out_from kind (take n text) (drop n text) word.longest.fits outside) ∙ ap step.Refuse (sym is)

word_stands : (text : List ℕ) (o : Option (TokenKind × ℕ)) → IsDark text → token_at text ≡ o → Stands text (word_step text o)
word_stands text None dark h = inl (refl, inr (inl (dark, none_found text h)))
word_stands text (Some x) dark h =
    let word : IsWord text x.0 x.1 = record { dark = dark; longest = found_longest text x h } in
    elim (cases_Bool (runs_on x.0 (drop x.1 text))) [
      | inl on ↦ subst (Stands text) (sym (cond-true (runs_on x.0 (drop x.1 text)) (step.Refuse XPST0003) _ on)) (inl (refl, inr (inr (x.0, x.1, word, on))))
      | inr apart ↦ subst (Stands text) (sym (cond-false (runs_on x.0 (drop x.1 text)) (step.Refuse XPST0003) _ apart)) (elim (cases_Bool (is_out x.0 (take x.1 text))) [
        | inl outside ↦ subst (Stands text) (sym (cond-true (is_out x.0 (take x.1 text)) (step.Refuse PJST0004) (step.Take x.0 x.1) outside)) (inr (refl, (x.0, x.1, word, apart, out_is x.0 (take x.1 text) (drop x.1 text) word.longest.fits outside)))
        | inr inside ↦ subst (Stands text) (sym (cond-false (is_out x.0 (take x.1 text)) (step.Refuse PJST0004) (step.Take x.0 x.1) inside)) (word, apart, in_is x.0 (take x.1 text) (drop x.1 text) word.longest.fits inside)
      ])
    ]

comment_stands : (text : List ℕ) (o : Option ℕ) → begins_comment text ≡ true → comment_rest 0 (drop 2 text) ≡ o → Stands text (comment_step o)
comment_stands text None begins h = inl (refl, inl (begins, h))
comment_stands text (Some m) begins h = inr (begins, m, h, refl)

-- what step_at says stands there
pub step_stands : (text : List ℕ) → 0 < length text → Stands text (step_at text)
step_stands text some = elim (cases_Bool (next_passes is_blank text)) [
  | inl blank ↦ subst (Stands text) (sym (at_blank text blank)) (inl (blank, refl))
  | inr lit ↦ elim (cases_Bool (begins_comment text)) [
    | inl begins ↦ subst (Stands text) (sym (at_comment text begins)) (comment_stands text (comment_rest 0 (drop 2 text)) begins refl)
    | inr other ↦
        let dark : IsDark text = record { some = some; blank = lit; comment = other } in
        subst (Stands text) (sym (at_dark text dark)) (word_stands text (token_at text) dark refl)
  ]
]
