-- Keys and the atomics that they stand for.
use Rattle.std.proofs.Common.{◌≡◌, Bool, Some, unwrap_or, refl, sym, ap, ◌∙◌}
use Rattle.std.specs.Cmp.Lexicographic.{slice_cmp}
use Rattle.std.specs.Ordering.{nat_cmp, int_cmp, bool_cmp, is_eq}
use Rattle.std.specs.declared.cmp.Ordering.{Ordering}
use Rattle.std.specs.declared.cmp.Ordering.TheVariants.{Less, Equal, Greater}
use Rattle.item_tree.specs.declared.key.Key.{Key}
use Rattle.item_tree.specs.declared.key.Key.TheVariants.{Null, Boolean, Number, Text, Date, DateTime}
use Rattle.item_tree.specs.contracts.key.KeyPartialEq.TheImpl as key_eq
use Rattle.item_tree.specs.contracts.key.KeyOrd.TheImpl as key_ord
use Rattle.item_tree.specs.contracts.key.KeyOrd.TheImpl.Laws.{matches_eq-law}
use Rattle.item_tree.specs.Compare.{Atom, nothing, truth, number, string, day, moment, order, order_if, is_equal}
use Rattle.item_tree.specs.Dates.{date_cmp, date_time_cmp}
use Rattle.item_tree.specs.Keys.{atom_of, total_order, rank, KeysAgree}

abbrev pub eq_of : Key → Key → Bool
eq_of = (key_eq.ghosts).eq

abbrev pub cmp_of : Key → Key → Ordering
cmp_of = (key_ord.ghosts).cmp

-- keys stand in the order of their atomics
ordered : (k l : Key) → cmp_of k l ≡ total_order (atom_of k) (atom_of l)
ordered Null Null = refl
ordered Null (Boolean c) = refl
ordered Null (Number n) = refl
ordered Null (Text u) = refl
ordered Null (Date e) = refl
ordered Null (DateTime y) = refl
ordered (Boolean b) Null = refl
ordered (Boolean b) (Boolean c) = refl
ordered (Boolean b) (Number n) = refl
ordered (Boolean b) (Text u) = refl
ordered (Boolean b) (Date e) = refl
ordered (Boolean b) (DateTime y) = refl
ordered (Number m) Null = refl
ordered (Number m) (Boolean c) = refl
ordered (Number m) (Number n) = refl
ordered (Number m) (Text u) = refl
ordered (Number m) (Date e) = refl
ordered (Number m) (DateTime y) = refl
ordered (Text t) Null = refl
ordered (Text t) (Boolean c) = refl
ordered (Text t) (Number n) = refl
ordered (Text t) (Text u) = refl
ordered (Text t) (Date e) = refl
ordered (Text t) (DateTime y) = refl
ordered (Date d) Null = refl
ordered (Date d) (Boolean c) = refl
ordered (Date d) (Number n) = refl
ordered (Date d) (Text u) = refl
ordered (Date d) (Date e) = refl
ordered (Date d) (DateTime y) = refl
ordered (DateTime x) Null = refl
ordered (DateTime x) (Boolean c) = refl
ordered (DateTime x) (Number n) = refl
ordered (DateTime x) (Text u) = refl
ordered (DateTime x) (Date e) = refl
ordered (DateTime x) (DateTime y) = refl

equal_answer : (o : Ordering) → is_eq o ≡ is_equal (Some o)
equal_answer Less = refl
equal_answer Equal = refl
equal_answer Greater = refl

-- two atomics of one place in the order compare as equal
one_place : (a b : Atom) → is_eq (total_order a b) ≡ is_equal (order a b)
one_place nothing nothing = refl
one_place nothing (truth c) = refl
one_place nothing (number n) = refl
one_place nothing (string u) = refl
one_place nothing (day e) = refl
one_place nothing (moment y) = refl
one_place (truth b) nothing = refl
one_place (truth b) (truth c) = equal_answer (bool_cmp b c)
one_place (truth b) (number n) = refl
one_place (truth b) (string u) = refl
one_place (truth b) (day e) = refl
one_place (truth b) (moment y) = refl
one_place (number m) nothing = refl
one_place (number m) (truth c) = refl
one_place (number m) (number n) = equal_answer (int_cmp m n)
one_place (number m) (string u) = refl
one_place (number m) (day e) = refl
one_place (number m) (moment y) = refl
one_place (string t) nothing = refl
one_place (string t) (truth c) = refl
one_place (string t) (number n) = refl
one_place (string t) (string u) = equal_answer (slice_cmp nat_cmp t u)
one_place (string t) (day e) = refl
one_place (string t) (moment y) = refl
one_place (day d) nothing = refl
one_place (day d) (truth c) = refl
one_place (day d) (number n) = refl
one_place (day d) (string u) = refl
one_place (day d) (day e) = equal_answer (date_cmp d e)
one_place (day d) (moment y) = refl
one_place (moment x) nothing = refl
one_place (moment x) (truth c) = refl
one_place (moment x) (number n) = refl
one_place (moment x) (string u) = refl
one_place (moment x) (day e) = refl
one_place (moment x) (moment y) = equal_answer (date_time_cmp x y)

same : (k l : Key) → eq_of k l ≡ is_equal (order (atom_of k) (atom_of l))
same k l = matches_eq-law k l ∙ ap is_eq (ordered k l) ∙ one_place (atom_of k) (atom_of l)

-- the key of an atomic
key_for : Atom → Key
key_for nothing = Null
key_for (truth b) = Boolean b
key_for (number m) = Number m
key_for (string t) = Text t
key_for (day d) = Date d
key_for (moment t) = DateTime t

back : (k : Key) → key_for (atom_of k) ≡ k
unfolding key_for
back Null = refl
back (Boolean b) = refl
back (Number m) = refl
back (Text t) = refl
back (Date d) = refl
back (DateTime t) = refl

exact : (k l : Key) → atom_of k ≡ atom_of l → k ≡ l
exact k l e = sym (back k) ∙ ap key_for e ∙ back l

pub agree : KeysAgree eq_of cmp_of
agree = record {
  exact = exact;
  same = λ v w k l p q. same k l ∙ sym (λ i. is_equal (order_if (p i) (q i)));
  ordered = λ v w k l o p q e. ordered k l ∙ ap (λ a. unwrap_or a (nat_cmp (rank (atom_of k)) (rank (atom_of l)))) (sym (λ i. order_if (p i) (q i)) ∙ e);
  total = ordered;
}
