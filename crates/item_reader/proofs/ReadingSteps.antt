-- What a line reads as, by what is built of it.
use Rattle.std.specs.Prelude.{◌≡◌, ℕ, true, false, List, Option, Some, refl}
use Rattle.std.proofs.Common.{sym, ◌∙◌, ap, subst}
use Rattle.json_text.specs.Line.{Reading, blank, is_blank, ReadsAs}
use Rattle.json_text.specs.inside.Build as b
use Rattle.json_text.proofs.ReadingLemmas.{never_building, reading_exact}
use Rattle.item_reader.specs.declared.build.Build.{Build}
use Rattle.item_reader.specs.declared.build.Progress.{Progress}
use Rattle.item_reader.specs.declared.build.Progress.TheVariants.{Open}
use Rattle.item_reader.specs.View.{build_of, progress_of}

pub reads_as : (line : List ℕ) (r : Reading) → b.reading line ≡ r → ReadsAs line r
reads_as line r e = subst (ReadsAs line) e (reading_exact.read line)

pub reads_blank : (line : List ℕ) → is_blank line ≡ true → b.reading line ≡ blank
unfolding b.reading
reads_blank line e = rw e refl

pub reads_made : (line : List ℕ) (o : Option b.Build) → is_blank line ≡ false → b.made line ≡ o → b.reading line ≡ b.reading_of o
unfolding b.reading
reads_made line o e h = rw (e, h) refl

pub reads_build : (line : List ℕ) (x : Build) (p : Progress) → is_blank line ≡ false → b.made line ≡ Some (build_of x) → p ≡ x.progress → b.reading line ≡ b.reading_of (Some (progress_of p x.levels))
reads_build line x p e h q = reads_made line _ e h ∙ ap (λ y. b.reading_of (Some (progress_of y x.levels))) (sym q)

pub never_open : (line : List ℕ) (x : Build) → b.made line ≡ Some (build_of x) → Open ≡ x.progress → ⊥
never_open line x h q = never_building line x.levels (h ∙ ap (λ y. Some (progress_of y x.levels)) (sym q))
