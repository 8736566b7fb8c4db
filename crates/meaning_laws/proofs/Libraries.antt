-- What libraries hold from which names are missing, or that are read for some names.
use Rattle.std.proofs.Common.{◌≡◌, ℕ, ◌||◌, Bool, true, false, cond, if◌then◌else◌, List, [], ◌∷◌, Option, None, refl, sym, ap, ◌∙◌, subst}
use Rattle.std.specs.List.{AllByRecursion}
use Rattle.std.specs.Str.{bytes_eq}
use Rattle.std.proofs.lemmas.List.Elements.{All-from_recursion}
use Rattle.std.proofs.lemmas.Slice.Eq.{bytes_eq-Decides}
use Rattle.item_reader.specs.Reading.{Read}
use Rattle.outside.specs.World.{World}
use Rattle.query_meaning.specs.Library.{Library, held}
use Rattle.query_meaning.specs.inside.Computed.{read_of, inputs_of}
use Rattle.mode_planner.specs.Laws.{is_among}
use Rattle.meaning_laws.specs.Agreement.{AgreeOn, only}
use Rattle.meaning_laws.proofs.Calling.{of_each, Agree}

entry_found : (name : List ℕ) (entry : List ℕ × Option Read) (names : List (List ℕ)) (all kept : Library) → is_among names name ≡ true → held all name ≡ held kept name
    → (b : Bool) → bytes_eq name entry.0 ≡ b → (c : Bool) → is_among names entry.0 ≡ c
    → (if b then entry.1 else held all name) ≡ held (cond c (entry ∷ kept) kept) name
entry_found name entry names all kept among h true e true f = ap (λ b. if b then entry.1 else held kept name) (sym e)
entry_found name entry names all kept among h true e false f =
    let same : name ≡ entry.0 = (bytes_eq-Decides name entry.0).0 e in
    let there : is_among names entry.0 ≡ true = subst (λ n. is_among names n ≡ true) same among in
    absurd cc
entry_found name entry names all kept among h false e true f = h ∙ ap (λ b. if b then entry.1 else held kept name) (sym e)
entry_found name entry names all kept among h false e false f = h

pub held_only : (names : List (List ℕ)) (name : List ℕ) → is_among names name ≡ true → (library : Library) → held library name ≡ held (only names library) name
held_only names name among [] = refl
held_only names name among (entry ∷ library) =
    entry_found name entry names library (only names library) among (held_only names name among library) (bytes_eq name entry.0) refl (is_among names entry.0) refl

or_true : (b : Bool) → (b || true) ≡ true
or_true true = refl
or_true false = refl

pub all_among : (names : List (List ℕ)) → AllByRecursion (λ name. is_among names name ≡ true) names
all_among [] = tt
all_among (n ∷ ns) = (
  ap (λ b. b || is_among ns n) ((bytes_eq-Decides n n).1 refl),
  of_each (λ name. is_among ns name ≡ true) (λ name. is_among (n ∷ ns) name ≡ true) (λ name e. ap (λ b. bytes_eq n name || b) e ∙ or_true (bytes_eq n name)) ns (all_among ns),
)

pub agree_only : (names : List (List ℕ)) (library : Library) → AgreeOn names library (only names library)
agree_only names library =
    All-from_recursion (Agree library (only names library)) names
    (of_each (λ name. is_among names name ≡ true) (Agree library (only names library)) (λ name among. held_only names name among library) names (all_among names))

-- what is read for some names
read_one : (world : World) (name n : List ℕ) (ns : List (List ℕ)) (b : Bool) → bytes_eq name n ≡ b → (c : Bool) → bytes_eq n name ≡ c → (c || is_among ns name) ≡ true → (is_among ns name ≡ true → held (inputs_of world ns) name ≡ read_of world name) → (if b then read_of world n else held (inputs_of world ns) name) ≡ read_of world name
read_one world name n ns true e c f h more = ap (read_of world) (sym ((bytes_eq-Decides name n).0 e))
read_one world name n ns false e true f h more =
    let there : bytes_eq name n ≡ true = (bytes_eq-Decides name n).1 (sym ((bytes_eq-Decides n name).0 f)) in
    absurd cc
read_one world name n ns false e false f h more = more h

pub held_read : (world : World) (names : List (List ℕ)) (name : List ℕ) → is_among names name ≡ true → held (inputs_of world names) name ≡ read_of world name
held_read world [] name h = absurd cc
held_read world (n ∷ ns) name h = read_one world name n ns (bytes_eq name n) refl (bytes_eq n name) refl h (held_read world ns name)

-- what is held of a name is missing, where another stands before
missing_one : (name n : List ℕ) (read : Option Read) (ns : List (List ℕ)) (rest : Library) (b : Bool) → bytes_eq name n ≡ b → (c : Bool) → bytes_eq n name ≡ c → (c || is_among ns name) ≡ false → (is_among ns name ≡ false → held rest name ≡ None) → (if b then read else held rest name) ≡ None
missing_one name n read ns rest b e true f h more = absurd cc
missing_one name n read ns rest true e false f h more =
    let there : bytes_eq n name ≡ true = (bytes_eq-Decides n name).1 (sym ((bytes_eq-Decides name n).0 e)) in
    absurd cc
missing_one name n read ns rest false e false f h more = more h

pub unread : (world : World) (names : List (List ℕ)) (name : List ℕ) → is_among names name ≡ false → held (inputs_of world names) name ≡ None
unread world [] name h = refl
unread world (n ∷ ns) name h = missing_one name n (read_of world n) ns (inputs_of world ns) (bytes_eq name n) refl (bytes_eq n name) refl h (unread world ns name)

dropped : (names : List (List ℕ)) (name : List ℕ) → is_among names name ≡ false → (entry : List ℕ × Option Read) (kept : Library) → held kept name ≡ None → (c : Bool) → is_among names entry.0 ≡ c → (b : Bool) → bytes_eq name entry.0 ≡ b → held (cond c (entry ∷ kept) kept) name ≡ None
dropped names name out entry kept h false f b e = h
dropped names name out entry kept h true f true e =
    let there : is_among names name ≡ true = subst (λ n. is_among names n ≡ true) (sym ((bytes_eq-Decides name entry.0).0 e)) f in
    absurd cc
dropped names name out entry kept h true f false e = ap (λ b. if b then entry.1 else held kept name) e ∙ h

pub missing : (names : List (List ℕ)) (library : Library) (name : List ℕ) → is_among names name ≡ false → held (only names library) name ≡ None
missing names [] name out = refl
missing names (entry ∷ library) name out =
    dropped names name out entry (only names library) (missing names library name out) (is_among names entry.0) refl (bytes_eq name entry.0) refl
