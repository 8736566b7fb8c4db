-- Steps one after another through a text.
use Rattle.std.proofs.Common.{◌≡◌, ◌⊎◌, inl, inr, ℕ, ◌+◌, ◌-◌, ◌<◌, ◌≤◌, List, ◌∷◌, [], ◌++◌, length, length-drop, drop, true, sym, ◌∙◌, ap, subst, refl, arith, suc, zero, Some, None, append_assoc}
use Rattle.std.specs.Prelude.{IfSome, IfOk, IfErr, MatchResult, Result, Ok, Err}
use Rattle.query_lexer.specs.declared.token.LexFault.{LexFault}
use Rattle.query_lexer.specs.declared.token.LexFault.TheVariants as fault
use Rattle.std.proofs.lemmas.List.{drop-drop, drop_all, append-nil}
use Rattle.query_lexer.specs.Bytes.{is_blank, next_passes}
use Rattle.query_lexer.specs.Comments.{begins_comment}
use Rattle.query_lexer.specs.Scan.{step_at}
use Rattle.query_lexer.specs.Lexes.{IsWord, Refuses, Stands, goes, Leads, tokens_of, Tokens, Refused, IsFault, IsTold}
use Rattle.query_lexer.specs.declared.token.TokenKind.{TokenKind}
use Rattle.query_lexer.specs.declared.token.Token.{Token}
use Rattle.query_lexer.specs.declared.steps.Step.{Step}
use Rattle.query_lexer.specs.declared.steps.Step.TheVariants as step
use Rattle.item_tree.specs.declared.code.Code.{Code}
use Rattle.query_lexer.proofs.CommentLemmas.{comment_within}
use Rattle.query_lexer.proofs.SoundTokens.{token_sound}
use Rattle.query_lexer.proofs.StepLemmas.{stands_step, step_stands, longest_found}

-- a path from a place to rest, made longer by what was read before: its tokens are those read and then the others
pub record Whole (text : List ℕ) (items : List Token) (at : ℕ) (ss : List Step) (rest : List ℕ) : Type 0 where
  pub steps : List Step
  pub leads : Leads text steps rest
  pub tokens : tokens_of 0 steps ≡ items ++ tokens_of at ss

-- the items read up to a place, and the tokens of what is left, are the tokens of the whole
pub record Done (text : List ℕ) (at : ℕ) (items : List Token) : Type 0 where
  pub on : (ss : List Step) (rest : List ℕ) → Leads (drop at text) ss rest → Whole text items at ss rest

pub start_done : (text : List ℕ) → Done text 0 []
start_done text = record { on = λ ss rest h. record { steps = ss; leads = h; tokens = refl } }

pub skip_done : (text : List ℕ) (at n : ℕ) (items : List Token) → Done text at items → Stands (drop at text) (step.Skip n) → Done text (at + n) items
skip_done text at n items d s = record {
  on = λ ss rest h.
      let v = d.on (step.Skip n ∷ ss) rest (s, n, refl, subst (λ t. Leads t ss rest) (sym (drop-drop n at text)) h) in
      record { steps = v.steps; leads = v.leads; tokens = v.tokens };
}

pub take_done : (text : List ℕ) (at n : ℕ) (kind : TokenKind) (items : List Token) → Done text at items → Stands (drop at text) (step.Take kind n) → Done text (at + n) (items ++ record { kind = kind; from = at; to = at + n } ∷ [])
take_done text at n kind items d s = record {
  on = λ ss rest h.
      let v = d.on (step.Take kind n ∷ ss) rest (s, n, refl, subst (λ t. Leads t ss rest) (sym (drop-drop n at text)) h) in
      record { steps = v.steps; leads = v.leads; tokens = v.tokens ∙ sym (append_assoc items (record { kind = kind; from = at; to = at + n } ∷ []) (tokens_of (at + n) ss)) };
}

pub end_done : (text : List ℕ) (at : ℕ) (items : List Token) → Done text at items → length text ≤ at → Tokens text items
end_done text at items d h =
    let v = d.on [] [] (drop_all at text h) in
    (v.steps, v.leads, v.tokens ∙ append-nil items)

pub refuse_done : (text : List ℕ) (at : ℕ) (c : Code) (items : List Token) → Done text at items → at ≤ length text → Refuses (drop at text) c → Refused text c at
refuse_done text at c items d h r =
    let v = d.on [] (drop at text) refl in
    (v.steps, drop at text, v.leads, r, omega (arith, length-drop at text))

-- a step goes forward, and not past the end
pub record Forward (text : List ℕ) (n : ℕ) : Type 0 where
  pub some : 0 < n
  pub within : n ≤ length text

comment_some : (text : List ℕ) → begins_comment text ≡ true → 2 ≤ length text
comment_some [] h = cc
comment_some (b ∷ []) h = cc
comment_some (b ∷ c ∷ r) h = omega arith

blank_some : (text : List ℕ) → next_passes is_blank text ≡ true → 0 < length text
blank_some [] h = cc
blank_some (b ∷ r) h = omega arith

pub word_forward : (text : List ℕ) (kind : TokenKind) (n : ℕ) → IsWord text kind n → Forward text n
word_forward text kind n v =
    let s = token_sound text (kind, n) (longest_found text kind n v.longest) in
    record { some = s.some; within = s.within }

-- nothing stands at the end
pub some_left : (text : List ℕ) (s : Step) → Stands text s → 0 < length text
some_left text (step.Skip n) (inl (blank, one)) = blank_some text blank
some_left text (step.Skip n) (inr (begins, m, closed, size)) = omega (arith, comment_some text begins)
some_left text (step.Take kind n) (word, apart, inside) = word.dark.some
some_left text (step.Refuse c) (inl (is, inl (begins, open_end))) = omega (arith, comment_some text begins)
some_left text (step.Refuse c) (inl (is, inr (inl (dark, none)))) = dark.some
some_left text (step.Refuse c) (inl (is, inr (inr (kind, n, word, on)))) = word.dark.some
some_left text (step.Refuse c) (inr (is, (kind, n, word, apart, outside))) = word.dark.some

-- one step or refusal at a place
pub one_step : (text : List ℕ) (s t : Step) → Stands text s → Stands text t → s ≡ t
one_step text s t a b = sym (stands_step text s a) ∙ stands_step text t b

-- where a path can't go on
abbrev pub Ended : List ℕ → Type 0
Ended rest = (rest ≡ []) ⊎ ((c : Code) × Refuses rest c)

no_step : (text : List ℕ) (s : Step) (n : ℕ) → Ended text → Stands text s → goes s ≡ Some n → ⊥
no_step text s n (inl e) h g = let some = some_left text s h in omega (arith, some, ap length e)
no_step text s n (inr (c, r)) h g = let e = one_step text s (step.Refuse c) h r in let v : goes s ≡ None = ap goes e in cc

-- one path to where it can't go on
pub one_path : (text : List ℕ) (ss tt : List Step) (rest other : List ℕ) → Leads text ss rest → Leads text tt other → Ended rest → Ended other → (ss ≡ tt) × (rest ≡ other)
one_path text [] [] rest other a b e f = (refl, sym a ∙ b)
one_path text [] (t ∷ ts) rest other a (h, n, g, b) e f = absurd (no_step text t n (subst Ended (sym a) e) h g)
one_path text (s ∷ ss) [] rest other (h, n, g, a) b e f = absurd (no_step text s n (subst Ended (sym b) f) h g)
one_path text (s ∷ ss) (t ∷ ts) rest other (h, n, g, a) (i, m, q, b) e f =
    let same = one_step text s t h i in
    let sizes : n ≡ m = cc in
    let more = one_path (drop n text) ss ts rest other a (subst (λ k. Leads (drop k text) ts other) (sym sizes) b) e f in
    (cc, more.1)

pub one_tokens : (text : List ℕ) (xs ys : List Token) → Tokens text xs → Tokens text ys → xs ≡ ys
one_tokens text xs ys (ss, a, is) (ts, b, be) = sym is ∙ ap (tokens_of 0) (one_path text ss ts [] [] a b (inl refl) (inl refl)).0 ∙ be

refused_some : (rest : List ℕ) (c : Code) → Refuses rest c → rest ≡ [] → ⊥
refused_some rest c r e = let some = some_left rest (step.Refuse c) r in omega (arith, some, ap length e)

pub not_both : (text : List ℕ) (xs : List Token) (c : Code) (place : ℕ) → Tokens text xs → Refused text c place → ⊥
not_both text xs c place (ss, a, is) (ts, rest, b, r, size) = refused_some rest c r (sym (one_path text ss ts [] rest a b (inl refl) (inr (c, r))).1)

pub one_refusal : (text : List ℕ) (c d : Code) (p q : ℕ) → Refused text c p → Refused text d q → (c ≡ d) × (p ≡ q)
one_refusal text c d p q (ss, rest, a, r, size) (ts, other, b, u, of_other) =
    let same = (one_path text ss ts rest other a b (inr (c, r)) (inr (d, u))).1 in
    let steps = one_step rest (step.Refuse c) (step.Refuse d) r (subst (λ t. Refuses t d) (sym same) u) in
    let lengths = ap length same in
    (cc, omega arith)

pub forward : (text : List ℕ) (s : Step) (n : ℕ) → Stands text s → goes s ≡ Some n → Forward text n
forward text (step.Skip m) n (inl (blank, one)) g = let e : m ≡ n = cc in record { some = omega arith; within = omega (arith, blank_some text blank) }
forward text (step.Skip m) n (inr (begins, k, closed, size)) g =
    let e : m ≡ n = cc in
    let w = comment_within 0 (drop 2 text) k closed in
    record { some = omega arith; within = omega (arith, w, length-drop 2 text, comment_some text begins) }
forward text (step.Take kind m) n (word, apart, inside) g = let e : m ≡ n = cc in subst (Forward text) e (word_forward text kind m word)
forward text (step.Refuse c) n h g = cc

-- a path to where it can't go on
pub record Reading (text : List ℕ) : Type 0 where
  pub steps : List Step
  pub rest : List ℕ
  pub leads : Leads text steps rest
  pub ended : Ended rest
  pub short : length rest ≤ length text

read_from : (text : List ℕ) (s : Step) → Stands text s → ((n : ℕ) → goes s ≡ Some n → Reading (drop n text)) → Reading text
read_from text (step.Skip n) h more =
    let v = more n refl in
    record { steps = step.Skip n ∷ v.steps; rest = v.rest; leads = (h, n, refl, v.leads); ended = v.ended; short = omega (arith, v.short, length-drop n text) }
read_from text (step.Take kind n) h more =
    let v = more n refl in
    record { steps = step.Take kind n ∷ v.steps; rest = v.rest; leads = (h, n, refl, v.leads); ended = v.ended; short = omega (arith, v.short, length-drop n text) }
read_from text (step.Refuse c) h more = record { steps = []; rest = text; leads = refl; ended = inr (c, h); short = omega arith }

reading : (fuel : ℕ) (text : List ℕ) → length text ≤ fuel → Reading text
reading fuel [] h = record { steps = []; rest = []; leads = refl; ended = inl refl; short = omega arith }
reading zero (b ∷ r) h = absurd (omega arith)
reading (suc fuel) (b ∷ r) h =
    let text = b ∷ r in
    let stands = step_stands text (omega arith) in
    read_from text (step_at text) stands (λ n g.
    let f = forward text (step_at text) n stands g in
    reading fuel (drop n text) (omega (arith, f.some, length-drop n text)))

-- always one of the two
pub either : (text : List ℕ) → ((ts : List Token) × Tokens text ts) ⊎ ((c : Code) × (place : ℕ) × Refused text c place)
either text =
    let v = reading (length text) text (omega arith) in
    elim v.ended [
      | inl e ↦ inl (tokens_of 0 v.steps, (v.steps, subst (Leads text v.steps) e v.leads, refl))
      | inr (c, r) ↦ inr (c, length text - length v.rest, (v.steps, v.rest, v.leads, r, omega (arith, v.short)))
    ]

pub step_forward : (text : List ℕ) (s : Step) → Stands text s → IfSome (goes s) (λ n. (0 < n) × (n ≤ length text))
step_forward text (step.Skip n) h = let f = forward text (step.Skip n) n h refl in (f.some, f.within)
step_forward text (step.Take kind n) h = let f = forward text (step.Take kind n) n h refl in (f.some, f.within)
step_forward text (step.Refuse c) h = tt

-- a result that is the reading of a text is the only one
pub only_tokens : {Z : Type 0} (view : Z → List Token) (text : List ℕ) (r : Result Z LexFault) → IfOk r (λ v. Tokens text (view v)) → IfErr r (λ e. IsFault text e) → (ts : List Token) → Tokens text ts → MatchResult r (λ v. view v ≡ ts) (λ e. e ≡ fault.NoMemory)
only_tokens view text (Ok v) a b ts h = one_tokens text (view v) ts a h
only_tokens view text (Err (fault.Refused c p)) a b ts h = absurd (not_both text ts c p h b)
only_tokens view text (Err fault.NoMemory) a b ts h = refl

pub only_refused : {Z : Type 0} (view : Z → List Token) (text : List ℕ) (r : Result Z LexFault) → IfOk r (λ v. Tokens text (view v)) → IfErr r (λ e. IsFault text e) → (c : Code) (p : ℕ) → Refused text c p → MatchResult r (λ v. ⊥) (λ e. IsTold c p e)
only_refused view text (Ok v) a b c p h = not_both text (view v) c p a h
only_refused view text (Err (fault.Refused d q)) a b c p h = one_refusal text c d p q h b
only_refused view text (Err fault.NoMemory) a b c p h = tt
