-- The text of an item reads as the item, with an equal integer in place of each decimal whose value is whole,
-- and a string in place of each date and date-time.
use Rattle.std.specs.Prelude.{◌≡◌, ◌≢◌, ◌<◌, ◌≤◌, ℕ, suc, ◌+◌, Bool, true, false, List, [], ◌∷◌, ◌++◌, Ok, refl}
use Rattle.std.specs.Str.{bytes_eq}
use Rattle.std.proofs.Common.{sym, ◌∙◌, ap, subst, inl, arith, append_assoc, append-nil}
use Rattle.std.proofs.lemmas.Bool.{lt-ltb, false_from_ne_true}
use Rattle.std.proofs.lemmas.Slice.Eq.{bytes_eq-Decides}
use Rattle.item_tree.specs.Datum.{Datum, null, boolean, integer, decimal, text, date, date_time, array, object, Data, no_values, value, Members, no_members, member, listed, pairs, values_listed, members_pairs, array_of_list, object_of_pairs, depth, data_depth, members_depth, Sound, AllSound, MembersSound, NoneHas, KeysDiffer}
use Rattle.item_tree.specs.Dates.{date_text, date_time_text}
use Rattle.item_tree.proofs.DateTexts.{date_scalars, date_time_scalars}
use Rattle.item_tree.specs.ItemText.{item_text, values_text, more_values_text, members_text, more_members_text, string_text}
use Rattle.item_tree.specs.JsonString.{IsString}
use Rattle.json_text.specs.Raw.{Raw, raw_null, raw_boolean, raw_number, raw_string, raw_array, raw_object, Raws, no_raws, raw_value, Fields, no_fields, field}
use Rattle.json_text.specs.Json as j
use Rattle.json_text.specs.Json.{Spaces, Structural, Value, Elements, MoreElements, MoreMembers}
use Rattle.json_text.specs.Meaning.{Outcome, bracketed, put, put_all, object_of_fields, Gives, AllGive, FieldsGive}
use Rattle.json_text.specs.Laws.{PrintedReadsBack}
use Rattle.json_text.specs.Plain.{plain, plain_values, plain_members}
use Rattle.json_text.proofs.TokenLemmas.{spaces_none}
use Rattle.json_text.proofs.PrintedNumbers.{integer_prints, decimal_prints}
use Rattle.json_text.proofs.PrintedStrings.{string_prints}

-- ---- objects whose keys differ

none_at : (k j : List ℕ) (v : Datum) (front ps : List (List ℕ × Datum)) → NoneHas k (front ++ ((j, v) ∷ ps)) → k ≢ j
none_at k j v [] ps h = h.0
none_at k j v (q ∷ front) ps h = none_at k j v front ps h.1

put_new : (j : List ℕ) (v : Datum) (front ps : List (List ℕ × Datum)) → KeysDiffer (front ++ ((j, v) ∷ ps)) → put j v front ≡ front ++ ((j, v) ∷ [])
put_new j v [] ps h = refl
put_new j v (q ∷ front) ps h =
    let other : bytes_eq j q.0 ≡ false = false_from_ne_true (bytes_eq j q.0) (λ e. none_at q.0 j v front ps h.0 (sym ((bytes_eq-Decides j q.0).0 e))) in
    rw other (ap (λ x. q ∷ x) (put_new j v front ps h.1))

put_all_new : (front ps : List (List ℕ × Datum)) → KeysDiffer (front ++ ps) → put_all front ps ≡ front ++ ps
put_all_new front [] h = sym (append-nil front)
put_all_new front (p ∷ ps) h =
    let all = append_assoc front (p ∷ []) ps in
    ap (λ x. put_all x ps) (put_new p.0 p.1 front ps h) ∙ put_all_new (front ++ (p ∷ [])) ps (subst KeysDiffer (sym all) h) ∙ all

none_plain : (k : List ℕ) (ms : Members) → NoneHas k (pairs ms) → NoneHas k (pairs (plain_members ms))
none_plain k no_members h = tt
none_plain k (member j v ms) h = (h.0, none_plain k ms h.1)

keys_plain : (ms : Members) → KeysDiffer (pairs ms) → KeysDiffer (pairs (plain_members ms))
keys_plain no_members h = tt
keys_plain (member k v ms) h = (none_plain k ms h.0, keys_plain ms h.1)

within : {A : Type 0} (around : ℕ) (f : A → Datum) (x : A) (y : Datum) → around < 128 → f x ≡ y → ◌≡◌ {A = Outcome Datum} (Ok y) (bracketed around f (Ok x))
within around f x y h e = rw (lt-ltb around 128 h) (ap Ok (sym e))

array_back : (vs : Data) → array_of_list (listed (plain_values vs)) ≡ array (plain_values vs)
array_back vs = ap array (values_listed (plain_values vs))

object_back : (ms : Members) → KeysDiffer (pairs ms) → object_of_fields (pairs (plain_members ms)) ≡ object (plain_members ms)
object_back ms h = ap object_of_pairs (put_all_new [] (pairs (plain_members ms)) (keys_plain ms h)) ∙ ap object (members_pairs (plain_members ms))

-- ---- items

mark : (c : ℕ) (l : List ℕ) → Structural c (c ∷ l) l
mark c l = record { behind = l; before = inl refl; after = spaces_none l }

pub record PrintsItem (around : ℕ) (x : Datum) (l r : List ℕ) : Type 0 where
  pub raw : Raw
  pub written : Value raw l r
  pub gives : Gives around raw (Ok (plain x))

pub record PrintsValues (around : ℕ) (vs : Data) (l r : List ℕ) : Type 0 where
  pub raws : Raws
  pub end : List ℕ
  pub written : Elements raws l end
  pub closed : Structural 93 end r
  pub gives : AllGive around raws (Ok (listed (plain_values vs)))

pub record PrintsMoreValues (around : ℕ) (vs : Data) (l r : List ℕ) : Type 0 where
  pub raws : Raws
  pub end : List ℕ
  pub written : MoreElements raws l end
  pub closed : Structural 93 end r
  pub gives : AllGive around raws (Ok (listed (plain_values vs)))

pub record PrintsMembers (around : ℕ) (ms : Members) (l r : List ℕ) : Type 0 where
  pub fields : Fields
  pub end : List ℕ
  pub written : j.Members fields l end
  pub closed : Structural 125 end r
  pub gives : FieldsGive around fields (Ok (pairs (plain_members ms)))

pub record PrintsMoreMembers (around : ℕ) (ms : Members) (l r : List ℕ) : Type 0 where
  pub fields : Fields
  pub end : List ℕ
  pub written : MoreMembers fields l end
  pub closed : Structural 125 end r
  pub gives : FieldsGive around fields (Ok (pairs (plain_members ms)))

member_split : (key held more r : List ℕ) → ((key ++ (58 ∷ held)) ++ more) ++ r ≡ key ++ (58 ∷ (held ++ (more ++ r)))
member_split key held more r = append_assoc (key ++ (58 ∷ held)) more r ∙ append_assoc key (58 ∷ held) (more ++ r)

boolean_prints : (b : Bool) (around : ℕ) (r : List ℕ) → PrintsItem around (boolean b) (item_text (boolean b) ++ r) r
boolean_prints true around r = record { raw = raw_boolean true; written = refl; gives = refl }
boolean_prints false around r = record { raw = raw_boolean false; written = refl; gives = refl }

mutual
  pub item_prints : (x : Datum) (around : ℕ) (r : List ℕ) → Sound x → depth x + around ≤ 128 → PrintsItem around x (item_text x ++ r) r
  item_prints null around r s h = record { raw = raw_null; written = refl; gives = refl }
  item_prints (boolean b) around r s h = boolean_prints b around r
  item_prints (integer n) around r s h = let k = integer_prints n s in record { raw = raw_number k.numeral; written = k.written r; gives = k.gives }
  item_prints (decimal m) around r s h = let k = decimal_prints m s in record { raw = raw_number k.numeral; written = k.written r; gives = k.gives }
  item_prints (text cs) around r s h = record { raw = raw_string cs; written = string_prints cs r s; gives = refl }
  item_prints (date d) around r s h =
      record { raw = raw_string (date_text d); written = string_prints (date_text d) r (date_scalars d); gives = refl }
  item_prints (date_time t) around r s h =
      record { raw = raw_string (date_time_text t); written = string_prints (date_time_text t) r (date_time_scalars t); gives = refl }
  item_prints (array vs) around r s h =
      let k = values_print vs (suc around) r s.0 (omega arith) in
      record {
        raw = raw_array k.raws;
        written = (values_text vs ++ r, k.end, mark 91 (values_text vs ++ r), k.written, k.closed);
        gives = (Ok (listed (plain_values vs)), k.gives, within around array_of_list (listed (plain_values vs)) (array (plain_values vs)) (omega arith) (array_back vs));
      }
  item_prints (object ms) around r s h =
      let k = members_print ms (suc around) r s.0 (omega arith) in
      record {
        raw = raw_object k.fields;
        written = (members_text ms ++ r, k.end, mark 123 (members_text ms ++ r), k.written, k.closed);
        gives = (Ok (pairs (plain_members ms)), k.gives, within around object_of_fields (pairs (plain_members ms)) (object (plain_members ms)) (omega arith) (object_back ms s.1));
      }

  values_print : (vs : Data) (around : ℕ) (r : List ℕ) → AllSound vs → data_depth vs + around ≤ 128 → PrintsValues around vs (values_text vs ++ r) r
  values_print no_values around r s h = record { raws = no_raws; end = 93 ∷ r; written = refl; closed = mark 93 r; gives = refl }
  values_print (value v vs) around r s h =
      let rest = more_values_text vs ++ r in
      let k = item_prints v around rest s.0 (omega arith) in let more = more_values_print vs around r s.1 (omega arith) in
      record {
        raws = raw_value k.raw more.raws;
        end = more.end;
        written = (rest, subst (λ l. Value k.raw l rest) (sym (append_assoc (item_text v) (more_values_text vs) r)) k.written, more.written);
        closed = more.closed;
        gives = (Ok (plain v), Ok (listed (plain_values vs)), k.gives, more.gives, refl);
      }

  more_values_print : (vs : Data) (around : ℕ) (r : List ℕ) → AllSound vs → data_depth vs + around ≤ 128 → PrintsMoreValues around vs (more_values_text vs ++ r) r
  more_values_print no_values around r s h = record { raws = no_raws; end = 93 ∷ r; written = refl; closed = mark 93 r; gives = refl }
  more_values_print (value v vs) around r s h =
      let rest = more_values_text vs ++ r in
      let here = (item_text v ++ more_values_text vs) ++ r in
      let k = item_prints v around rest s.0 (omega arith) in let more = more_values_print vs around r s.1 (omega arith) in
      record {
        raws = raw_value k.raw more.raws;
        end = more.end;
        written = (here, rest, mark 44 here, subst (λ l. Value k.raw l rest) (sym (append_assoc (item_text v) (more_values_text vs) r)) k.written, more.written);
        closed = more.closed;
        gives = (Ok (plain v), Ok (listed (plain_values vs)), k.gives, more.gives, refl);
      }

  members_print : (ms : Members) (around : ℕ) (r : List ℕ) → MembersSound ms → members_depth ms + around ≤ 128 → PrintsMembers around ms (members_text ms ++ r) r
  members_print no_members around r s h = record { fields = no_fields; end = 125 ∷ r; written = refl; closed = mark 125 r; gives = refl }
  members_print (member key v ms) around r s h =
      let rest = more_members_text ms ++ r in
      let here = item_text v ++ rest in
      let k = item_prints v around rest s.1 (omega arith) in let more = more_members_print ms around r s.2 (omega arith) in
      record {
        fields = field key k.raw more.fields;
        end = more.end;
        written = (58 ∷ here, here, rest, subst (λ l. IsString key l (58 ∷ here)) (sym (member_split (string_text key) (item_text v) (more_members_text ms) r)) (string_prints key (58 ∷ here) s.0), mark 58 here, k.written, more.written);
        closed = more.closed;
        gives = (Ok (plain v), Ok (pairs (plain_members ms)), k.gives, more.gives, refl);
      }

  more_members_print : (ms : Members) (around : ℕ) (r : List ℕ) → MembersSound ms → members_depth ms + around ≤ 128 → PrintsMoreMembers around ms (more_members_text ms ++ r) r
  more_members_print no_members around r s h = record { fields = no_fields; end = 125 ∷ r; written = refl; closed = mark 125 r; gives = refl }
  more_members_print (member key v ms) around r s h =
      let rest = more_members_text ms ++ r in
      let here = item_text v ++ rest in
      let start = ((string_text key ++ (58 ∷ item_text v)) ++ more_members_text ms) ++ r in
      let k = item_prints v around rest s.1 (omega arith) in let more = more_members_print ms around r s.2 (omega arith) in
      record {
        fields = field key k.raw more.fields;
        end = more.end;
        written = (start, 58 ∷ here, here, rest, mark 44 start, subst (λ l. IsString key l (58 ∷ here)) (sym (member_split (string_text key) (item_text v) (more_members_text ms) r)) (string_prints key (58 ∷ here) s.0), mark 58 here, k.written, more.written);
        closed = more.closed;
        gives = (Ok (plain v), Ok (pairs (plain_members ms)), k.gives, more.gives, refl);
      }

sound_depth : (x : Datum) → Sound x → depth x + 0 ≤ 128
sound_depth null s = omega arith
sound_depth (boolean b) s = omega arith
sound_depth (integer n) s = omega arith
sound_depth (decimal m) s = omega arith
sound_depth (text cs) s = omega arith
sound_depth (date d) s = omega arith
sound_depth (date_time t) s = omega arith
sound_depth (array vs) s = let d = s.1 in omega arith
sound_depth (object ms) s = let d = s.2 in omega arith

pub printed_reads_back : PrintedReadsBack
printed_reads_back x s =
    let k = item_prints x 0 [] s (sound_depth x s) in
    let t = item_text x in
    record {
      raw = k.raw;
      text = record { from = t; to = []; before = spaces_none t; value = subst (λ l. Value k.raw l []) (append-nil t) k.written; after = refl };
      gives = k.gives;
    }
