-- What is built of open frames.
use Rattle.std.specs.Prelude.{◌≡◌, ◌<◌, ◌≤◌, ℕ, true, false, nat_lt, List, [], ◌∷◌, length, Some, None, refl}
use Rattle.std.proofs.Common.{sym, ◌∙◌, ap, arith}
use Rattle.std.proofs.lemmas.Bool.Decides.{nat_tests}
use Rattle.item_tree.specs.Datum.{Datum}
use Rattle.json_text.specs.Meaning.{too_deep}
use Rattle.json_text.specs.inside.Machine as m
use Rattle.json_text.specs.inside.Build as b
use Rattle.json_text.specs.inside.Fits.{FramesFit, BuildFits}
use Rattle.item_reader.specs.declared.build.Progress.{Progress}
use Rattle.item_reader.specs.declared.build.Progress.TheVariants.{Open, Done, Troubled}
use Rattle.item_reader.specs.Levels.{value_of, add_inside, key_inside, with_first, ClosesTo}
use Rattle.item_reader.specs.View.{is_open, progress_of, on_frames}

pub nothing_long : {A : Type 0} (xs : List A) → length xs ≡ 0 → xs ≡ []
nothing_long [] k = refl
nothing_long (x ∷ xs) k = absurd (omega arith)

-- ---- what an event makes of the frames

pub frame_pushed : (fs gs : List b.Frame) (f : b.Frame) → gs ≡ f ∷ fs → length fs < 128 → b.building gs ≡ b.push_frame f fs
frame_pushed fs gs f e h = let t : nat_lt (length fs) 128 ≡ true = grind (arith, nat_tests) in rw (t, e) refl

pub frame_refused : (fs : List b.Frame) (f : b.Frame) → 128 ≤ length fs → b.troubled too_deep ≡ b.push_frame f fs
frame_refused fs f h = let t : nat_lt (length fs) 128 ≡ false = grind (arith, nat_tests) in rw t refl

pub added : (x : Datum) (fs : List b.Frame) → 0 < length fs → b.building (with_first (add_inside x) fs) ≡ b.add x fs
added x [] h = absurd (omega arith)
added x (b.open_array xs ∷ fs) h = refl
added x (b.open_object ps (Some k) ∷ fs) h = refl
added x (b.open_object ps None ∷ fs) h = refl

pub key_set : (k : List ℕ) (fs : List b.Frame) → 0 < length fs → b.building (with_first (key_inside k) fs) ≡ b.set_key k fs
key_set k [] h = absurd (omega arith)
key_set k (b.open_array xs ∷ fs) h = refl
key_set k (b.open_object ps old ∷ fs) h = refl

pub frame_closed : (f : b.Frame) (fs : List b.Frame) → b.close (f ∷ fs) ≡ b.add (value_of f) fs
frame_closed (b.open_array xs) fs = refl
frame_closed (b.open_object ps k) fs = refl

-- ---- progress

pub still_open : (p : Progress) (fs : List b.Frame) → is_open p ≡ true → progress_of p fs ≡ b.building fs
still_open Open fs e = refl
still_open (Done x) fs e = absurd cc
still_open (Troubled t) fs e = absurd cc

-- what is not open stays
pub stays : (p : Progress) (fs : List b.Frame) (f : List b.Frame → b.Build) → is_open p ≡ false → progress_of p fs ≡ on_frames f (progress_of p fs)
stays Open fs f e = absurd cc
stays (Done x) fs f e = refl
stays (Troubled t) fs f e = refl

pub by_frames : (x : b.Build) (e : m.Event) → on_frames (b.act e) x ≡ b.perform x e
by_frames (b.building fs) e = refl
by_frames (b.done x) e = refl
by_frames (b.troubled t) e = refl

pub open_fits : (p : Progress) (fs : List b.Frame) → is_open p ≡ true → BuildFits (progress_of p fs) → FramesFit fs
open_fits Open fs e f = f
open_fits (Done x) fs e f = absurd cc
open_fits (Troubled t) fs e f = absurd cc

-- ---- the innermost frame taken out

pub none_there : (f : List b.Frame → b.Build) (p : Progress) (fs : List b.Frame) → f [] ≡ b.building [] → is_open p ≡ true → length fs ≡ 0 → progress_of p fs ≡ on_frames f (progress_of p fs)
none_there f p [] h o e = still_open p [] o ∙ sym h ∙ sym (ap (on_frames f) (still_open p [] o))
none_there f p (x ∷ fs) h o e = absurd (omega arith)

pub first_done : (x : Datum) (fs : List b.Frame) → length fs ≡ 0 → b.done x ≡ b.add x fs
first_done x [] e = refl
first_done x (f ∷ fs) e = absurd (omega arith)

pub one_closed : (p : Progress) (fs gs : List b.Frame) (x : Datum) (new : b.Build) → is_open p ≡ true → ClosesTo x fs gs → new ≡ b.add x gs → new ≡ on_frames b.close (progress_of p fs)
one_closed p fs gs x new o c n =
    n ∙ ap (λ z. b.add z gs) c.2 ∙ sym (frame_closed c.0 gs) ∙ sym (ap (on_frames b.close) (still_open p fs o ∙ ap b.building c.1))

-- what an event makes of what is open
pub opened : (p : Progress) (fs : List b.Frame) (f : List b.Frame → b.Build) (new : b.Build) → is_open p ≡ true → new ≡ f fs → new ≡ on_frames f (progress_of p fs)
opened p fs f new o e = e ∙ sym (ap (on_frames f) (still_open p fs o))
