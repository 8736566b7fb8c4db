-- What the reading of one word says.
use Rattle.std.proofs.Common.{◌≡◌, ◌⊎◌, inl, inr, ℕ, Bool, true, false, List, [], ◌∷◌, ◌++◌, Option, Some, None, refl, sym, ap, ap₂, arith, unwrap_or}
use Rattle.std.specs.Prelude.{if◌then◌else◌, ◌==◌, option_and_then}
use Rattle.std.specs.Option.{option_or}
use Rattle.std.specs.Str.{bytes_eq}
use Rattle.std.proofs.lemmas.Slice.Eq.{bytes_eq-Decides}
use Rattle.run_words.specs.Table.{Text, has_option, fits}
use Rattle.run_words.specs.Given.{Use, has, Read, joined, used, exactly, after, offered}
use Rattle.run_words.proofs.Rows.{use_of}
use Rattle.run_words.specs.declared.given.Phase.{Phase}
use Rattle.run_words.specs.declared.given.Phase.TheVariants.{Free}
use Rattle.run_words.specs.declared.table.Verb.{Verb}
use Rattle.run_words.specs.declared.table.Name.{Name}

pub some_same : {X : Type 0} (x y : X) → Some x ≡ Some y → x ≡ y
some_same x y e = ap (λ o. unwrap_or o x) e

abbrev pub more : Phase → Name → Text → List Use → Read
more phase n v uses = record { phase = phase; uses = uses ++ use_of n v ∷ [] }

pub used_gives : (phase : Phase) (n : Name) (v : Text) (uses : List Use) (r : Read) → used phase n v uses ≡ Some r → (has n uses ≡ false) × (more phase n v uses ≡ r) × (fits n v ≡ true)
used_gives phase n v uses r e = go (has n uses) (fits n v) refl refl e
  where
    go : (b c : Bool) → has n uses ≡ b → fits n v ≡ c → (if b then None else (if c then Some (more phase n v uses) else None)) ≡ Some r → (has n uses ≡ false) × (more phase n v uses ≡ r) × (fits n v ≡ true)
    go true c h f e = cc
    go false false h f e = cc
    go false true h f e = (h, some_same _ _ e, f)

pub or_cases : {X : Type 0} (o y : Option X) (x : X) → option_or o y ≡ Some x → (o ≡ Some x) ⊎ (y ≡ Some x)
or_cases None y x e = inr e
or_cases (Some z) y x e = inl e

pub exactly_gives : {X : Type 0} (text word : Text) (o : Option X) (x : X) → exactly text word o ≡ Some x → (text ≡ word) × (o ≡ Some x)
exactly_gives text word o x e = go (bytes_eq word text) refl e
  where
    go : (b : Bool) → bytes_eq word text ≡ b → (if b then o else None) ≡ Some x → (text ≡ word) × (o ≡ Some x)
    go true h e = (sym ((bytes_eq-Decides word text).0 h), e)
    go false h e = cc

pub offered_gives : {X : Type 0} (v : Verb) (n : Name) (o : Option X) (x : X) → offered v n o ≡ Some x → (has_option v n ≡ true) × (o ≡ Some x)
offered_gives v n o x e = go (has_option v n) refl e
  where
    go : (b : Bool) → has_option v n ≡ b → (if b then o else None) ≡ Some x → (has_option v n ≡ true) × (o ≡ Some x)
    go true h e = (h, e)
    go false h e = cc

pub after_gives : (text word v : Text) → after text word ≡ Some v → text ++ v ≡ word
after_gives [] word v e = sym (some_same _ _ e)
after_gives (t ∷ ts) [] v e = cc
after_gives (t ∷ ts) (x ∷ xs) v e = go (x == t) refl (λ h. after_gives ts xs v h) e
  where
    go : (b : Bool) → (x == t) ≡ b → (after ts xs ≡ Some v → ts ++ v ≡ xs) → (if b then after ts xs else None) ≡ Some v → t ∷ (ts ++ v) ≡ x ∷ xs
    go true h rec e = let same : t ≡ x = grind (arith, h) in ap₂ (λ (y : ℕ) (ys : Text). y ∷ ys) same (rec e)
    go false h rec e = cc

pub joined_gives : (n : Name) (word : Text) (uses : List Use) (r : Read) (o : Option Text) → after (joined n) word ≡ o → option_and_then (λ v. used Free n v uses) o ≡ Some r
    → (v : Text) × (joined n ++ v ≡ word) × (used Free n v uses ≡ Some r)
joined_gives n word uses r None a e = cc
joined_gives n word uses r (Some v) a e = (v, after_gives (joined n) word v a, e)
