-- How deep the values of the grammar's parts are nested, what a node adds to its parts, and the counting of the ways to combine parts over words.
use Rattle.std.proofs.Common.{◌≡◌, ◌+◌, ℕ, max, Bool, true, false, List, [], ◌∷◌, ◌++◌, Option, Some, None, Ok, Err, ◌≤◌, refl, sym, ap, ◌∙◌, arith}
use Rattle.query_tree.specs.declared.names.Placed.{Placed}
use Rattle.query_tree.specs.declared.operator.CompareOp.{CompareOp}
use Rattle.query_tree.specs.declared.operator.SumOp.{SumOp}
use Rattle.query_tree.specs.Nesting.{nesting, form_nesting, operands_nesting, content_nesting, greatest, operand_nesting, term_nesting, factor_nesting, step_nesting, lookup_nesting, pair_nesting, clause_nesting, group_var_nesting, order_key_nesting, bind_nesting, case_nesting, type_case_nesting, catch_nesting, variable_nesting, function_nesting, module_nesting}
use Rattle.query_tree.proofs.NestingLists.{greatest-append, clauses-nesting, trees-nesting, group_vars-nesting, order_keys-nesting, operands-nesting, terms-nesting, factors-nesting, binds-nesting, cases-nesting, type_cases-nesting, catches-nesting, pairs-nesting, steps-nesting}
use Rattle.grammar_parts.specs.Tokens.{Class, never, over, sees}
use Rattle.grammar_parts.specs.Readers.{Reader, Outcome, and_then, taken, take_where, read_mapped, read_seq, read_many}
use Rattle.grammar_parts.specs.Levels.{Mode}
use Rattle.grammar_parts.proofs.Modes.{Set, are_apart}
use Rattle.grammar_parts.proofs.Counts.{Counts, of_any, plain_counts, mapped_counts, seq_counts, many_counts}
use Rattle.grammar_parts.proofs.Nested.{Wider, above, closed_nested}
use Rattle.query_grammar.specs.declared.word.Word.{Word}
use Rattle.query_grammar.specs.declared.word.Kind.{Kind}
use Rattle.query_grammar.specs.declared.word.Kind.TheVariants as k
use Rattle.query_grammar.specs.declared.word.Value.{Value}
use Rattle.query_grammar.specs.Nodes as n
use Rattle.query_grammar.specs.Nodes.{Name, Tree, Form, Type', Operand, Operands, Term, Factor, Step, Lookup, Pair, PairKey, Clause, GroupVar, OrderKey, Bind, Case, TypeCase, Catch, Declaration, Module}
use Rattle.query_grammar.specs.Classes.{is}
use Rattle.query_grammar.specs.Languages.{Lang, of_kind}
use Rattle.query_grammar.proofs.Productions.{language}

-- ---- how deep values are nested

abbrev pub tree_depth : Tree → ℕ
tree_depth t = nesting t

abbrev pub placed_depth : ℕ × Tree → ℕ
placed_depth z = nesting z.1

abbrev pub operand_depth : Operand → ℕ
operand_depth x = operand_nesting x

abbrev pub term_depth : Term → ℕ
term_depth x = term_nesting x

abbrev pub factor_depth : Factor → ℕ
factor_depth x = factor_nesting x

abbrev pub compared_depth : CompareOp × ℕ × Tree → ℕ
compared_depth z = nesting z.2

abbrev pub step_depth : Step → ℕ
step_depth x = step_nesting x

-- of a step that waits for its place
abbrev pub step_at_depth : ℕ → (ℕ → Step) → ℕ
step_at_depth place f = step_nesting (f place)

abbrev pub lookup_depth : Lookup → ℕ
lookup_depth x = lookup_nesting x

abbrev pub pair_depth : Pair → ℕ
pair_depth x = pair_nesting x

abbrev pub pair_key_depth : PairKey → ℕ
pair_key_depth (n.by_name name) = 0
pair_key_depth (n.by_value t) = nesting t

abbrev pub key_depth : PairKey × ℕ → ℕ
key_depth z = pair_key_depth z.0

abbrev pub clause_depth : Clause → ℕ
clause_depth x = clause_nesting x

abbrev pub clauses_depth : ℕ × List Clause → ℕ
clauses_depth z = greatest clause_depth z.1

abbrev pub group_var_depth : GroupVar → ℕ
group_var_depth x = group_var_nesting x

abbrev pub order_key_depth : OrderKey → ℕ
order_key_depth x = order_key_nesting x

abbrev pub bind_depth : Bind → ℕ
bind_depth x = bind_nesting x

abbrev pub case_depth : Case → ℕ
case_depth x = case_nesting x

abbrev pub type_case_depth : TypeCase → ℕ
type_case_depth x = type_case_nesting x

abbrev pub default_depth : Option (Placed Name) × Tree → ℕ
default_depth z = max 0 (nesting z.1)

abbrev pub catch_depth : Catch → ℕ
catch_depth x = catch_nesting x

abbrev pub declaration_depth : Declaration → ℕ
declaration_depth (n.of_variable x) = nesting x.value
declaration_depth (n.of_function x) = nesting x.body

abbrev pub module_depth : Module → ℕ
module_depth m = module_nesting m

-- ---- what a node adds to its parts

literal_form-depth : (kind : Kind) (v : Value) → form_nesting (n.literal_form kind v) ≡ 0
literal_form-depth k.Int v = refl
literal_form-depth k.Dec v = refl
literal_form-depth k.Text v = refl
literal_form-depth k.True v = refl
literal_form-depth k.False v = refl
literal_form-depth k.Var v = refl
literal_form-depth k.Context v = refl
literal_form-depth _ v = refl

pub literal-depth : (w : Word) → tree_depth (n.literal w) ≡ 0
literal-depth w = literal_form-depth w.kind w.value

maybe-depth : (o : Option Tree) → content_nesting (n.maybe o) ≡ of_any tree_depth o
maybe-depth None = refl
maybe-depth (Some t) = refl

pub paren-depth : (z : ℕ × Option Tree) → tree_depth (n.paren z) ≡ of_any tree_depth z.1 + 1
paren-depth z = ap (λ d. d + 1) (maybe-depth z.1)

pub merge-depth : (z : ℕ × Option Tree) → tree_depth (n.merge z) ≡ of_any tree_depth z.1 + 1
merge-depth z = ap (λ d. d + 1) (maybe-depth z.1)

pub array-depth : (z : ℕ × Option Tree) → tree_depth (n.array z) ≡ of_any tree_depth z.1 + 1
array-depth z = ap (λ d. d + 1) (maybe-depth z.1)

pub pair-depth : (z : (PairKey × ℕ) × Tree) → pair_depth (n.pair z) ≡ max (key_depth z.0) (tree_depth z.1)
pair-depth ((n.by_name name, place), value) = omega arith
pair-depth ((n.by_value key, place), value) = refl

pub listed-depth : {A : Type 0} (depth : A → ℕ) (o : Option (List A)) → greatest depth (n.listed o) ≡ of_any (greatest depth) o
listed-depth depth None = refl
listed-depth depth (Some xs) = refl

pub object-depth : (z : ℕ × List Pair) → tree_depth (n.object z) ≡ greatest pair_depth z.1 + 1
object-depth z = ap (λ d. d + 1) (pairs-nesting z.1)

pub call-depth : (z : Word × List Tree) → tree_depth (n.call z) ≡ max 0 (greatest tree_depth z.1) + 1
call-depth z = let e : tree_depth (n.call z) ≡ greatest tree_depth z.1 + 1 = ap (λ d. d + 1) (trees-nesting z.1) in omega arith

key_by-depth : (kind : Kind) (w : Word) → lookup_nesting (n.key_by kind w) ≡ 0
key_by-depth k.Text w = refl
key_by-depth k.Var w = refl
key_by-depth k.Context w = refl
key_by-depth _ w = refl

pub plain_key-depth : (w : Word) → lookup_depth (n.plain_key w) ≡ 0
plain_key-depth w = key_by-depth w.kind w

pub postfix-depth : (z : Tree × List Step) → tree_depth (n.postfix z) ≡ max (tree_depth z.0) (greatest step_depth z.1)
postfix-depth (t, []) = omega arith
postfix-depth (t, x ∷ xs) = ap (max (nesting t)) (steps-nesting (x ∷ xs))

pub chain-depth : (form : Tree → Operands → Form) → ((t : Tree) (os : Operands) → form_nesting (form t os) ≡ max (nesting t) (operands_nesting os))
    → (z : Tree × List Operand) → tree_depth (n.chain form z) ≡ max (tree_depth z.0) (greatest operand_depth z.1)
chain-depth form e (t, []) = omega arith
chain-depth form e (t, x ∷ xs) = e t _ ∙ ap (max (nesting t)) (operands-nesting (x ∷ xs))

pub sign-depth : (z : List (SumOp × ℕ) × Tree) → tree_depth (n.sign z) ≡ max 0 (tree_depth z.1)
sign-depth ([], t) = omega arith
sign-depth (x ∷ xs, t) = omega arith

pub typed-depth : (form : Tree → ℕ → Type' → Form) → ((t : Tree) (place : ℕ) (of : Type') → form_nesting (form t place of) ≡ nesting t)
    → (z : Tree × Option (ℕ × Type')) → tree_depth (n.typed form z) ≡ max (tree_depth z.0) 0
typed-depth form e (t, None) = omega arith
typed-depth form e (t, Some z) = let f = e t z.0 z.1 in omega arith

pub product-depth : (z : Tree × List Factor) → tree_depth (n.product z) ≡ max (tree_depth z.0) (greatest factor_depth z.1)
product-depth (t, []) = omega arith
product-depth (t, x ∷ xs) = ap (max (nesting t)) (factors-nesting (x ∷ xs))

pub sum-depth : (z : Tree × List Term) → tree_depth (n.sum z) ≡ max (tree_depth z.0) (greatest term_depth z.1)
sum-depth (t, []) = omega arith
sum-depth (t, x ∷ xs) = ap (max (nesting t)) (terms-nesting (x ∷ xs))

pub range-depth : (z : Tree × Option (ℕ × Tree)) → tree_depth (n.range z) ≡ max (tree_depth z.0) (of_any placed_depth z.1)
range-depth (t, None) = omega arith
range-depth (t, Some z) = refl

pub compare-depth : (z : Tree × Option (CompareOp × ℕ × Tree)) → tree_depth (n.compare z) ≡ max (tree_depth z.0) (of_any compared_depth z.1)
compare-depth (t, None) = omega arith
compare-depth (t, Some z) = refl

pub group_var-depth : (z : Placed Name × Option Tree) → group_var_depth (n.group_var z) ≡ max 0 (of_any tree_depth z.1)
group_var-depth (v, None) = omega arith
group_var-depth (v, Some t) = omega arith

pub group_clause-depth : (z : ℕ × List GroupVar) → clause_depth (n.group_clause z) ≡ greatest group_var_depth z.1
group_clause-depth z = group_vars-nesting z.1

pub order_clause-depth : (stable : Bool) (z : ℕ × List OrderKey) → clause_depth (n.order_clause stable z) ≡ greatest order_key_depth z.1
order_clause-depth stable z = order_keys-nesting z.1

concat-depth : (xs : List (List Clause)) → greatest clause_depth (n.concat xs) ≡ greatest (greatest clause_depth) xs
concat-depth [] = refl
concat-depth (x ∷ xs) = greatest-append clause_depth x (n.concat xs) ∙ ap (max (greatest clause_depth x)) (concat-depth xs)

all_clauses-depth : (z : (ℕ × List Clause) × (List (List Clause) × (ℕ × Tree))) → greatest clause_depth (z.0.1 ++ n.concat z.1.0) ≡ max (clauses_depth z.0) (greatest (greatest clause_depth) z.1.0)
all_clauses-depth z = greatest-append clause_depth z.0.1 (n.concat z.1.0) ∙ ap (max (clauses_depth z.0)) (concat-depth z.1.0)

pub flwor-depth : (z : (ℕ × List Clause) × (List (List Clause) × (ℕ × Tree))) → tree_depth (n.flwor z) ≡ max (clauses_depth z.0) (max (greatest (greatest clause_depth) z.1.0) (tree_depth z.1.1.1)) + 1
flwor-depth z =
    let e : tree_depth (n.flwor z) ≡ max (greatest clause_depth (z.0.1 ++ n.concat z.1.0)) (tree_depth z.1.1.1) + 1 = ap (λ d. max d (tree_depth z.1.1.1) + 1) (clauses-nesting (z.0.1 ++ n.concat z.1.0)) in
    let f = all_clauses-depth z in
    omega arith

pub quant-depth : (z : Word × (List Bind × Tree)) → tree_depth (n.quant z) ≡ max 0 (max (greatest bind_depth z.1.0) (tree_depth z.1.1)) + 1
quant-depth z = let e : tree_depth (n.quant z) ≡ max (greatest bind_depth z.1.0) (tree_depth z.1.1) + 1 = ap (λ d. max d (tree_depth z.1.1) + 1) (binds-nesting z.1.0) in omega arith

pub case-depth : (z : List Tree × Tree) → case_depth (n.case z) ≡ max (greatest tree_depth z.0) (tree_depth z.1)
case-depth z = ap (λ d. max d (tree_depth z.1)) (trees-nesting z.0)

pub switch-depth : (z : ℕ × (Tree × (List Case × Tree))) → tree_depth (n.switch z) ≡ max (tree_depth z.1.0) (max (greatest case_depth z.1.1.0) (tree_depth z.1.1.1)) + 1
switch-depth z = ap (λ d. max (tree_depth z.1.0) (max d (tree_depth z.1.1.1)) + 1) (cases-nesting z.1.1.0)

pub typeswitch-depth : (z : ℕ × (Tree × (List TypeCase × (Option (Placed Name) × Tree)))) → tree_depth (n.typeswitch z) ≡ max (tree_depth z.1.0) (max (greatest type_case_depth z.1.1.0) (default_depth z.1.1.1)) + 1
typeswitch-depth z =
    let e : tree_depth (n.typeswitch z) ≡ max (tree_depth z.1.0) (max (greatest type_case_depth z.1.1.0) (tree_depth z.1.1.1.1)) + 1 = ap (λ d. max (tree_depth z.1.0) (max d (tree_depth z.1.1.1.1)) + 1) (type_cases-nesting z.1.1.0) in
    omega arith

pub try-depth : (z : ℕ × (Tree × List Catch)) → tree_depth (n.try z) ≡ max (tree_depth z.1.0) (greatest catch_depth z.1.1) + 1
try-depth z = ap (λ d. max (tree_depth z.1.0) d + 1) (catches-nesting z.1.1)

declarations-depth : (ds : List Declaration) → greatest declaration_depth ds ≡ max (greatest variable_nesting (n.variables_in ds)) (greatest function_nesting (n.functions_in ds))
declarations-depth [] = omega arith
declarations-depth (n.of_variable x ∷ ds) = let e = declarations-depth ds in omega arith
declarations-depth (n.of_function x ∷ ds) = let e = declarations-depth ds in omega arith

pub module_with-depth : (z : List Declaration × Tree) → module_depth (n.module_with z) ≡ max (greatest declaration_depth z.0) (tree_depth z.1)
module_with-depth z = let e = declarations-depth z.0 in omega arith

-- ---- the ways to combine parts over words

pub plain : {A : Type 0} {bound : ℕ} (part : Lang A) → Counts bound (λ x. 0) part.read part.read never
plain part = plain_counts part.read

zero_first : (d : ℕ) → d ≡ max 0 d
zero_first d = omega arith

zero_last : (d : ℕ) → d ≡ max d 0
zero_last d = omega arith

module _ {A : Type 0} {bound : ℕ} {depth : A → ℕ} {p q : Reader Word A} where
  pub before_counts : {stop : Class Word} (kind : Kind) → Counts bound depth p q stop
      → Counts bound depth (read_mapped (λ z. z.1) (read_seq (take_where (of_kind (is kind))) p)) (read_mapped (λ z. z.1) (read_seq (take_where (of_kind (is kind))) q)) stop
  before_counts kind c = mapped_counts depth (λ z. z.1) (λ z. zero_first (depth z.1)) (seq_counts (plain_counts (take_where (of_kind (is kind)))) c)

  pub from_counts : {stop : Class Word} (kind : Kind) → Counts bound depth p q stop
      → Counts bound (λ (z : ℕ × A). depth z.1) (read_mapped (λ z. (z.0.place, z.1)) (read_seq (take_where (of_kind (is kind))) p)) (read_mapped (λ z. (z.0.place, z.1)) (read_seq (take_where (of_kind (is kind))) q)) stop
  from_counts kind c = mapped_counts (λ (z : ℕ × A). depth z.1) (λ z. (z.0.place, z.1)) (λ z. zero_first (depth z.1)) (seq_counts (plain_counts (take_where (of_kind (is kind)))) c)

  pub behind_counts : (kind : Kind) → Counts bound depth p q never
      → Counts bound depth (read_mapped (λ z. z.0) (read_seq p (take_where (of_kind (is kind))))) (read_mapped (λ z. z.0) (read_seq q (take_where (of_kind (is kind))))) never
  behind_counts kind c = mapped_counts depth (λ z. z.0) (λ z. zero_last (depth z.0)) (seq_counts c (plain_counts (take_where (of_kind (is kind)))))

  -- where the part is stopped by tokens of a class, and the token is none of it
  pub shut_counts : {m : Mode} (u : Wider m) (kind : Kind) (f : Set Kind) → are_apart language (λ m. is kind) f ≡ true → Counts bound depth p q (over language.kind (f (above u)))
      → Counts bound depth (read_mapped (λ z. z.0) (read_seq p (take_where (of_kind (is kind))))) (read_mapped (λ z. z.0) (read_seq q (take_where (of_kind (is kind))))) never
  shut_counts u kind f apart c = mapped_counts depth (λ z. z.0) (λ z. zero_last (depth z.0)) (closed_nested language u (λ m. is kind) f apart c)

  -- the same part again and again
  pub repeated_counts : (c : Class Word) → Counts bound depth p q never → Counts bound (greatest depth) (read_many c p) (read_many c q) never
  repeated_counts c a = many_counts c (greatest depth) refl (λ x xs. refl) a

module _ {A : Type 0} {bound : ℕ} {depth : A → ℕ} {p q p2 q2 : Reader Word A} where
  -- a part, and then more of it
  pub more_counts : (c : Class Word) → Counts bound depth p q never → Counts bound depth p2 q2 never
      → Counts bound (greatest depth) (read_mapped (λ z. z.0 ∷ z.1) (read_seq p (read_many c p2))) (read_mapped (λ z. z.0 ∷ z.1) (read_seq q (read_many c q2))) never
  more_counts c a b = mapped_counts (greatest depth) (λ z. z.0 ∷ z.1) (λ z. refl) (seq_counts a (repeated_counts c b))

-- ---- a step that waits for its place

waiting : (p : Reader Word (ℕ → Step)) (kind : Kind) → Reader Word Step
waiting p kind = read_mapped n.step_at (read_mapped (λ z. (z.0.place, z.1)) (read_seq (take_where (of_kind (is kind))) p))

-- the same, where the place is known
placed : (place : ℕ) (p : Reader Word (ℕ → Step)) (kind : Kind) → Reader Word Step
placed place p kind = read_mapped (λ z. z.1 place) (read_seq (take_where (of_kind (is kind))) p)

abbrev beside : Word → Outcome Word (ℕ → Step) → Outcome Word (Word × (ℕ → Step))
beside t o = and_then o (λ y r. Ok ((t, y), r))

abbrev with_place : Outcome Word (Word × (ℕ → Step)) → Outcome Word (ℕ × (ℕ → Step))
with_place o = and_then o (λ z r. Ok ((z.0.place, z.1), r))

abbrev at_place : Outcome Word (ℕ × (ℕ → Step)) → Outcome Word Step
at_place o = and_then o (λ z r. Ok (n.step_at z, r))

abbrev at_known : ℕ → Outcome Word (Word × (ℕ → Step)) → Outcome Word Step
at_known place o = and_then o (λ z r. Ok (z.1 place, r))

joined : (t : Word) (o : Outcome Word (ℕ → Step)) → at_place (with_place (beside t o)) ≡ at_known t.place (beside t o)
joined t (Ok x) = refl
joined t (Err r) = refl

abbrev behind_token : Reader Word (ℕ → Step) → Outcome Word Word → Outcome Word (Word × (ℕ → Step))
behind_token p o = and_then o (λ x r. beside x (p r))

taken_same : (p : Reader Word (ℕ → Step)) (t : Word) (u : List Word) (b : Bool)
    → at_place (with_place (behind_token p (taken b (t ∷ u)))) ≡ at_known t.place (behind_token p (taken b (t ∷ u)))
taken_same p t u true = joined t (p u)
taken_same p t u false = refl

waiting_same : (p : Reader Word (ℕ → Step)) (kind : Kind) (t : Word) (u : List Word) → waiting p kind (t ∷ u) ≡ placed t.place p kind (t ∷ u)
unfolding waiting placed
waiting_same p kind t u = taken_same p t u (is kind t.kind)

waiting_none : (p : Reader Word (ℕ → Step)) (kind : Kind) (x : Step) (r : List Word) → waiting p kind [] ≡ Ok (x, r) → ⊥
unfolding waiting
waiting_none p kind x r e = cc

module _ {bound : ℕ} {p q : Reader Word (ℕ → Step)} (kind : Kind) (c : (place : ℕ) → Counts bound (step_at_depth place) p q never) where
  placed_counts : (place : ℕ) → Counts bound step_depth (placed place p kind) (placed place q kind) never
  unfolding placed
  placed_counts place = mapped_counts step_depth (λ z. z.1 place) (λ z. zero_first (step_depth (z.1 place))) (seq_counts (plain_counts (take_where (of_kind (is kind)))) (c place))

  waiting_within : (s : List Word) (x : Step) (r : List Word) → waiting p kind s ≡ Ok (x, r) → step_depth x ≤ bound
  waiting_within [] x r e = absurd (waiting_none p kind x r e)
  waiting_within (t ∷ u) x r e = (placed_counts t.place).within (t ∷ u) x r (sym (waiting_same p kind t u) ∙ e)

  waiting_narrows : (s : List Word) (x : Step) (r : List Word) → waiting q kind s ≡ Ok (x, r) → step_depth x ≤ bound → waiting p kind s ≡ Ok (x, r)
  waiting_narrows [] x r e h = absurd (waiting_none q kind x r e)
  waiting_narrows (t ∷ u) x r e h = waiting_same p kind t u ∙ (placed_counts t.place).narrows (t ∷ u) x r (sym (waiting_same q kind t u) ∙ e) h

  waiting_widens : (s : List Word) (x : Step) (r : List Word) → waiting p kind s ≡ Ok (x, r) → sees never r ≡ false → waiting q kind s ≡ Ok (x, r)
  waiting_widens [] x r e h = absurd (waiting_none p kind x r e)
  waiting_widens (t ∷ u) x r e h = waiting_same q kind t u ∙ (placed_counts t.place).widens (t ∷ u) x r (sym (waiting_same p kind t u) ∙ e) h

  -- it gets the place of the token before it
  pub step_counts : Counts bound step_depth (read_mapped n.step_at (read_mapped (λ z. (z.0.place, z.1)) (read_seq (take_where (of_kind (is kind))) p)))
      (read_mapped n.step_at (read_mapped (λ z. (z.0.place, z.1)) (read_seq (take_where (of_kind (is kind))) q))) never
  unfolding waiting
  step_counts = record { within = waiting_within; narrows = waiting_narrows; widens = waiting_widens }
