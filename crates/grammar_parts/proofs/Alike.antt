-- The laws of a part hold of one that derives and begins the same and is read in the same way, and with its sets by other names.
use Rattle.std.proofs.Common.{◌≡◌, List, [], ◌∷◌, ◌++◌, Bool, true, Ok, Err, sym, subst, ◌∙◌}
use Rattle.grammar_parts.specs.Tokens.{Class}
use Rattle.grammar_parts.specs.Readers.{Outcome}
use Rattle.grammar_parts.specs.Parts.{Part}
use Rattle.grammar_parts.specs.Good.{Good, Judge}

pub record Alike {T A : Type 0} (g h : Part T A) : Type 0 where
  pub begun : (l : List T) → g.begun l → h.begun l
  pub begun_back : (l : List T) → h.begun l → g.begun l
  pub whole : (l : List T) (x : A) → g.whole l x → h.whole l x
  pub whole_back : (l : List T) (x : A) → h.whole l x → g.whole l x
  pub read : (s : List T) → g.read s ≡ h.read s

module _ {T A : Type 0} (g h : Part T A) (a : Alike g h) where
  judge_moved : (s : List T) (o : Outcome T A) → Judge g s o → Judge h s o
  judge_moved s (Ok x) (u, e, w, st) = (u, e, a.whole u x.0 w, λ t r er b. st t r er (a.begun_back (u ++ t ∷ []) b))
  judge_moved s (Err r) (u, e, w, st) = (u, e, a.begun u w, λ t r er b. st t r er (a.begun_back (u ++ t ∷ []) b))

  pub alike-good : (first ext : Class T) (empty : Bool) → Good g first ext empty → Good h first ext empty
  alike-good first ext empty good = record {
    none = a.begun [] good.none;
    closed = λ u v b. a.begun u (good.closed u v (a.begun_back (u ++ v) b));
    is_begun = λ u x w. a.begun u (good.is_begun u x (a.whole_back u x w));
    starts = λ t u b. good.starts t u (a.begun_back (t ∷ u) b);
    exact = λ t e. a.begun (t ∷ []) (good.exact t e);
    is_empty = λ x w. good.is_empty x (a.whole_back [] x w);
    empties = λ e. (let f = good.empties e in (f.0, a.whole [] f.0 f.1));
    extends = λ u x t w b. good.extends u x t (a.whole_back u x w) (a.begun_back (u ++ t ∷ []) b);
    judge = λ s. subst (λ (o : Outcome T A). Judge h s o) (a.read s) (judge_moved s (g.read s) (good.judge s));
    complete = λ u r x w st. sym (a.read (u ++ r)) ∙ good.complete u r x (a.whole_back u x w) (λ t r2 er b. st t r2 er (a.begun (u ++ t ∷ []) b));
  }

pub renamed-good : {T A : Type 0} (g : Part T A) (first ext first2 ext2 : Class T) (empty : Bool) → ((t : T) → (first t ≡ first2 t) × (ext t ≡ true → ext2 t ≡ true)) → Good g first ext empty → Good g first2 ext2 empty
renamed-good g first ext first2 ext2 empty e good = record {
  none = good.none;
  closed = good.closed;
  is_begun = good.is_begun;
  starts = λ t u b. sym (e t).0 ∙ good.starts t u b;
  exact = λ t q. good.exact t ((e t).0 ∙ q);
  is_empty = good.is_empty;
  empties = good.empties;
  extends = λ u x t w b. (e t).1 (good.extends u x t w b);
  judge = good.judge;
  complete = good.complete;
}
