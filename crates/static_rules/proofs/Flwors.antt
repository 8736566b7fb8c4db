-- The scope of a FLWOR, and what its clauses enter.
use Rattle.std.proofs.Common.{◌≡◌, ℕ, ◌+◌, ◌-◌, ◌≤◌, Bool, List, [], ◌∷◌, ◌++◌, length, take, refl, sym, ap, ◌∙◌, arith}
use Rattle.query_tree.specs.declared.bound.Slot.TheVariants.{Local}
use Rattle.query_tree.specs.declared.names.TypeName.{TypeName}
use Rattle.query_tree.specs.Plain.{PlainClauses}
use Rattle.static_rules.specs.Views as views
use Rattle.query_tree.specs.NamedViews.{NamedTree}
use Rattle.static_rules.specs.Views.{seeing}
use Rattle.static_rules.specs.Mentions.{MentionAt, mentions, clauses_mentions}
use Rattle.query_tree.specs.Binders.{binders, clauses_binders}
use Rattle.static_rules.specs.Compiling.{Names, with_slot, after_clauses}
use Rattle.static_rules.specs.Walks.{State, view_of, bound_names, passed, sooner, first_of}
use Rattle.static_rules.specs.Openings.{opened, closed, entered}
use Rattle.static_rules.specs.Behind.{stream_of, below, behind_clauses}
use Rattle.static_rules.specs.Sources.{behind_tree}
use Rattle.static_rules.proofs.Passing.{passed-passed, sooner-none}
use Rattle.static_rules.proofs.Scoping.{extends-clauses, closed-entered, entered-names, entered-number}
use Rattle.static_rules.proofs.Streams.{view-clauses, below-none}

-- before its first clause a stream has no variables
stream-none : (s : Names) → stream_of (length s.variables) s ≡ []
stream-none s =
    let e : length s.variables - length s.variables ≡ 0 = omega arith in
    ap (λ k. bound_names (take k s.variables)) e

pub closed-clauses : (s : State) (item : Bool) (cs : PlainClauses (List ℕ) (List ℕ) TypeName) (ms : List MentionAt) (bs : List (List ℕ))
    → closed (passed (behind_clauses s item (length s.names.variables) cs) ms bs) (length s.names.variables) ≡ passed s (clauses_mentions (view_of item s.names) [] cs ++ ms) (clauses_binders cs ++ bs)
closed-clauses s item cs ms bs =
    let here = clauses_mentions (view_of item s.names) (stream_of (length s.names.variables) s.names) cs in
    closed-entered s here ms (clauses_binders cs) bs (after_clauses s.names s.number cs) (extends-clauses s.names s.number cs)
    ∙ passed-passed s here ms (clauses_binders cs) bs
    ∙ ap (λ q. passed s (clauses_mentions (view_of item s.names) q cs ++ ms) (clauses_binders cs ++ bs)) (stream-none s.names)

-- the state behind a FLWOR
pub flwor-walk : (s b e : State) (depth : ℕ) (item : Bool) (cs : PlainClauses (List ℕ) (List ℕ) TypeName) (last : NamedTree) → depth ≡ length s.names.variables → b ≡ behind_clauses s item (length s.names.variables) cs → e ≡ behind_tree b item last
    → closed e depth ≡ passed s (clauses_mentions (view_of item s.names) [] cs ++ mentions (seeing (view_of item s.names) (views.after_clauses (bound_names s.names.variables) cs)) last) (clauses_binders cs ++ binders last)
flwor-walk s b e depth item cs last d walked returned =
    let n = length s.names.variables in
    ap (closed e) d
    ∙ ap (λ t. closed t n) (returned ∙ ap (λ t. behind_tree t item last) walked)
    ∙ closed-clauses s item cs (mentions (view_of item (behind_clauses s item n cs).names) last) (binders last)
    ∙ ap (λ v. passed s (clauses_mentions (view_of item s.names) [] cs ++ mentions v last) (clauses_binders cs ++ binders last))
    (ap (view_of item) (entered-names s (clauses_mentions (view_of item s.names) (stream_of n s.names) cs) (clauses_binders cs) (after_clauses s.names s.number cs)) ∙ view-clauses item s.names s.number cs)

pub ruleset scope = (closed-clauses, view-clauses, entered-names, entered-number)

-- a clause that binds nothing
pub entered-same : (s : State) (ms : List MentionAt) (bs : List (List ℕ)) → entered s ms bs s.names ≡ passed s ms bs
unfolding entered passed
entered-same s ms bs = refl

-- a clause that binds one variable, with the next number
pub opened-entered : (s : State) (name : List ℕ) → opened s name ≡ entered s [] (name ∷ []) (with_slot s.names name (Local s.number))
unfolding opened entered
opened-entered s name = ap (λ f. let x : State = record { names = with_slot s.names name (Local s.number); number = s.number + 1; first = f } in x) (sym (sooner-none s.first))

pub opened-passed : (s : State) (ms : List MentionAt) (name : List ℕ) → opened (passed s ms []) name ≡ entered s ms (name ∷ []) (with_slot s.names name (Local s.number))
unfolding opened passed entered
opened-passed s ms name = let e : s.number + 0 ≡ s.number = omega arith in ap (λ n. let x : State = record { names = with_slot s.names name (Local n); number = n + 1; first = sooner s.first (first_of ms) } in x) e

pub ruleset entering = (entered-same, opened-entered, opened-passed)

-- a mark that is the depth
pub no-more : {a b : ℕ} → a ≡ b → a ≤ b
no-more h = omega (arith, h)

pub below-here : (s : Names) (mark : ℕ) → mark ≡ length s.variables → below mark s ≡ s
below-here s mark h = ap (λ m. below m s) h ∙ below-none s
