-- Values are the same exactly where they are equal as data.
use Rattle.std.proofs.Common.{◌≡◌, ◌&&◌, Bool, true, false, refl, ap, subst}
use Rattle.std.specs.Cmp.{IsEquivalence, decided, signed_Decides}
use Rattle.std.specs.Bool.{Decides}
use Rattle.std.specs.Ordering.{is_eq}
use Rattle.std.specs.declared.cmp.Ordering.{Ordering}
use Rattle.std.specs.declared.cmp.Ordering.TheVariants.{Less, Equal, Greater}
use Rattle.std.proofs.lemmas.Cmp.{on_equiv, tied_itself}
use Rattle.std.specs.Str.{bytes_eq}
use Rattle.std.proofs.lemmas.Slice.Eq.{bytes_eq-Decides}
use Rattle.item_tree.specs.Dates.{date_cmp, date_time_cmp}
use Rattle.item_tree.specs.declared.item.Item.{Item}
use Rattle.item_tree.specs.Item.{datum}
use Rattle.item_tree.specs.inside.DateOrder.{date_exact, date_time_exact, date_cmp_total, date_time_cmp_total}
use Rattle.item_tree.specs.Datum.{Datum, null, boolean, integer, decimal, text, date, date_time, array, object, Data, no_values, value, Members, no_members, member}
use Rattle.item_tree.specs.Sameness.{bool_same, same, same_data, same_members}

both : (a b : Bool) → (a && b) ≡ true → (a ≡ true) × (b ≡ true)
both true b e = (refl, e)
both false b e = absurd (cc)

join : (a b : Bool) → a ≡ true → b ≡ true → (a && b) ≡ true
join a b p q = λ i. p i && q i

bool_there : (b c : Bool) → bool_same b c ≡ true → b ≡ c
bool_there true true h = refl
bool_there true false h = absurd (cc)
bool_there false true h = absurd (cc)
bool_there false false h = refl

bool_own : (b : Bool) → bool_same b b ≡ true
bool_own true = refl
bool_own false = refl

is_equal_order : (o : Ordering) → is_eq o ≡ true → o ≡ Equal
is_equal_order Less e = absurd (cc)
is_equal_order Equal e = refl
is_equal_order Greater e = absurd (cc)

mutual
  there : (v w : Datum) → same v w ≡ true → v ≡ w
  there null null h = refl
  there null (boolean c) h = absurd (cc)
  there null (integer n) h = absurd (cc)
  there null (decimal n) h = absurd (cc)
  there null (text u) h = absurd (cc)
  there null (date e) h = absurd (cc)
  there null (date_time y) h = absurd (cc)
  there null (array ws) h = absurd (cc)
  there null (object ns) h = absurd (cc)
  there (boolean b) null h = absurd (cc)
  there (boolean b) (boolean c) h = ap boolean (bool_there b c h)
  there (boolean b) (integer n) h = absurd (cc)
  there (boolean b) (decimal n) h = absurd (cc)
  there (boolean b) (text u) h = absurd (cc)
  there (boolean b) (date e) h = absurd (cc)
  there (boolean b) (date_time y) h = absurd (cc)
  there (boolean b) (array ws) h = absurd (cc)
  there (boolean b) (object ns) h = absurd (cc)
  there (integer m) null h = absurd (cc)
  there (integer m) (boolean c) h = absurd (cc)
  there (integer m) (integer n) h = ap integer ((signed_Decides m n).0 h)
  there (integer m) (decimal n) h = absurd (cc)
  there (integer m) (text u) h = absurd (cc)
  there (integer m) (date e) h = absurd (cc)
  there (integer m) (date_time y) h = absurd (cc)
  there (integer m) (array ws) h = absurd (cc)
  there (integer m) (object ns) h = absurd (cc)
  there (decimal m) null h = absurd (cc)
  there (decimal m) (boolean c) h = absurd (cc)
  there (decimal m) (integer n) h = absurd (cc)
  there (decimal m) (decimal n) h = ap decimal ((signed_Decides m n).0 h)
  there (decimal m) (text u) h = absurd (cc)
  there (decimal m) (date e) h = absurd (cc)
  there (decimal m) (date_time y) h = absurd (cc)
  there (decimal m) (array ws) h = absurd (cc)
  there (decimal m) (object ns) h = absurd (cc)
  there (text t) null h = absurd (cc)
  there (text t) (boolean c) h = absurd (cc)
  there (text t) (integer n) h = absurd (cc)
  there (text t) (decimal n) h = absurd (cc)
  there (text t) (text u) h = ap text ((bytes_eq-Decides t u).0 h)
  there (text t) (date e) h = absurd (cc)
  there (text t) (date_time y) h = absurd (cc)
  there (text t) (array ws) h = absurd (cc)
  there (text t) (object ns) h = absurd (cc)
  there (date d) null h = absurd (cc)
  there (date d) (boolean c) h = absurd (cc)
  there (date d) (integer n) h = absurd (cc)
  there (date d) (decimal n) h = absurd (cc)
  there (date d) (text u) h = absurd (cc)
  there (date d) (date e) h = ap date (date_exact d e (is_equal_order (date_cmp d e) h))
  there (date d) (date_time y) h = absurd (cc)
  there (date d) (array ws) h = absurd (cc)
  there (date d) (object ns) h = absurd (cc)
  there (date_time x) null h = absurd (cc)
  there (date_time x) (boolean c) h = absurd (cc)
  there (date_time x) (integer n) h = absurd (cc)
  there (date_time x) (decimal n) h = absurd (cc)
  there (date_time x) (text u) h = absurd (cc)
  there (date_time x) (date e) h = absurd (cc)
  there (date_time x) (date_time y) h =
      ap date_time (date_time_exact x y (is_equal_order (date_time_cmp x y) h))
  there (date_time x) (array ws) h = absurd (cc)
  there (date_time x) (object ns) h = absurd (cc)
  there (array vs) null h = absurd (cc)
  there (array vs) (boolean c) h = absurd (cc)
  there (array vs) (integer n) h = absurd (cc)
  there (array vs) (decimal n) h = absurd (cc)
  there (array vs) (text u) h = absurd (cc)
  there (array vs) (date e) h = absurd (cc)
  there (array vs) (date_time y) h = absurd (cc)
  there (array vs) (array ws) h = ap array (data_there vs ws h)
  there (array vs) (object ns) h = absurd (cc)
  there (object ms) null h = absurd (cc)
  there (object ms) (boolean c) h = absurd (cc)
  there (object ms) (integer n) h = absurd (cc)
  there (object ms) (decimal n) h = absurd (cc)
  there (object ms) (text u) h = absurd (cc)
  there (object ms) (date e) h = absurd (cc)
  there (object ms) (date_time y) h = absurd (cc)
  there (object ms) (array ws) h = absurd (cc)
  there (object ms) (object ns) h = ap object (members_there ms ns h)

  data_there : (vs ws : Data) → same_data vs ws ≡ true → vs ≡ ws
  data_there no_values no_values h = refl
  data_there no_values (value w ws) h = absurd (cc)
  data_there (value v vs) no_values h = absurd (cc)
  data_there (value v vs) (value w ws) h =
      let p = both (same v w) (same_data vs ws) h in
      let x = there v w p.0 in
      let xs = data_there vs ws p.1 in
      λ i. value (x i) (xs i)

  members_there : (ms ns : Members) → same_members ms ns ≡ true → ms ≡ ns
  members_there no_members no_members h = refl
  members_there no_members (member l w ns) h = absurd (cc)
  members_there (member k v ms) no_members h = absurd (cc)
  members_there (member k v ms) (member l w ns) h =
      let p = both (bytes_eq k l) (same v w && same_members ms ns) h in
      let q = both (same v w) (same_members ms ns) p.1 in
      let y = (bytes_eq-Decides k l).0 p.0 in
      let x = there v w q.0 in
      let xs = members_there ms ns q.1 in
      λ i. member (y i) (x i) (xs i)

mutual
  own : (v : Datum) → same v v ≡ true
  own null = refl
  own (boolean b) = bool_own b
  own (integer m) = (signed_Decides m m).1 refl
  own (decimal m) = (signed_Decides m m).1 refl
  own (text t) = (bytes_eq-Decides t t).1 refl
  own (date d) = ap is_eq (tied_itself date_cmp_total d)
  own (date_time x) = ap is_eq (tied_itself date_time_cmp_total x)
  own (array vs) = data_own vs
  own (object ms) = members_own ms

  data_own : (vs : Data) → same_data vs vs ≡ true
  data_own no_values = refl
  data_own (value v vs) = join (same v v) (same_data vs vs) (own v) (data_own vs)

  members_own : (ms : Members) → same_members ms ms ≡ true
  members_own no_members = refl
  members_own (member k v ms) =
      join (bytes_eq k k) (same v v && same_members ms ms) ((bytes_eq-Decides k k).1 refl)
      (join (same v v) (same_members ms ms) (own v) (members_own ms))

pub same_decides : (v w : Datum) → Decides (same v w) (v ≡ w)
same_decides v w = (there v w, λ e. subst (λ u. same v u ≡ true) e (own v))

pub items_same : IsEquivalence (λ (a b : Item). same (datum a) (datum b))
items_same = on_equiv datum (decided same same_decides)
