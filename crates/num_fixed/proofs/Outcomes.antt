-- From one number that has a property to all that have it.
use Rattle.std.proofs.Common.{◌≡◌, ◌≢◌, ℤ, pos, ◌*ℤ◌, Result, Ok, Err, IfOk, IfErr, sym, ◌∙◌, subst, arith}
use Rattle.std.proofs.lemmas.Int.{ints}
use Rattle.num_fixed.specs.Bounds.{InBounds, IsOver}
use Rattle.num_fixed.specs.Nearest.{IsNearest}
use Rattle.num_fixed.specs.Quotients.{IsDivided, IsTruncated, IsFault, IsProduct}
use Rattle.num_fixed.proofs.DivisionLemmas.{one_size}
use Rattle.num_fixed.proofs.NearestLemmas.{one_nearest}
use Rattle.num_fixed.specs.declared.number.Kind.{Kind}
use Rattle.num_fixed.specs.declared.number.Kind.TheVariants.{Whole, Units}
use Rattle.num_fixed.specs.declared.number.NumFault.{NumFault}
use Rattle.num_fixed.specs.declared.number.NumFault.TheVariants.{Overflow}

-- where numbers with the property are in bounds together, one of them out of bounds is enough
over_all : (kind : Kind) (P : ℤ → Type 0) (k n : ℤ) → k ≡ n → ((m : ℤ) → P m → InBounds kind m → InBounds kind n) → (r : Result ℤ NumFault) → IfErr r (λ e. (e ≡ Overflow) × (¬ InBounds kind k)) → IfErr r (λ e. (e ≡ Overflow) × IsOver kind P)
over_all kind P k n same all (Ok x) h = tt
over_all kind P k n same all (Err e) h = (h.0, λ m p b. h.1 (subst (InBounds kind) (sym same) (all m p b)))

pub over_nearest : (kind : Kind) (n d m k : ℤ) → d ≢ pos 0 → IsNearest n d m → k ≡ m → (r : Result ℤ NumFault) → IfErr r (λ e. (e ≡ Overflow) × (¬ InBounds kind k)) → IfErr r (λ e. (e ≡ Overflow) × IsOver kind (IsNearest n d))
over_nearest kind n d m k some near same = over_all kind (IsNearest n d) k m same (λ l h b. subst (InBounds kind) (one_nearest n d l m some h near) b)

pub over_product : (kind : Kind) (a b m k : ℤ) → kind ≡ Units → IsNearest (a *ℤ b) (pos 1000000) m → k ≡ m → (r : Result ℤ NumFault) → IfErr r (λ e. (e ≡ Overflow) × (¬ InBounds kind k)) → IfErr r (λ e. (e ≡ Overflow) × IsOver kind (IsProduct kind a b))
over_product Whole a b m k units near same = absurd cc
over_product Units a b m k units near same = over_nearest Units (a *ℤ b) (pos 1000000) m k (λ e. absurd cc) near same

pub over_truncated : (a b q r k : ℤ) → IsDivided a b q r → k ≡ q → (f : Result ℤ NumFault) → IfErr f (λ e. (e ≡ Overflow) × (¬ InBounds Whole k)) → IfErr f (λ e. (e ≡ Overflow) × IsOver Whole (IsTruncated a b))
over_truncated a b q r k h same = over_all Whole (IsTruncated a b) k q same (λ p t within. let size = one_size a b p t.0 q r t.1 h in (omega (arith, ints, within.0, within.1), omega (arith, ints, within.0, within.1)))

pub truncated_at : (a b q r k : ℤ) → b ≢ pos 0 → IsDivided a b q r → k ≡ q → (f : Result ℤ NumFault) → IfOk f (λ m. (m ≡ k) × InBounds Whole m) → IfOk f (λ m. (b ≢ pos 0) × IsTruncated a b m × InBounds Whole m)
truncated_at a b q r k some h same (Ok m) v = (some, (r, subst (λ z. IsDivided a b z r) (sym (v.0 ∙ same)) h), v.1)
truncated_at a b q r k some h same (Err e) v = tt

pub fault_where_some : (b : ℤ) (Over : Type 0) → b ≢ pos 0 → (r : Result ℤ NumFault) → IfErr r (λ e. (e ≡ Overflow) × Over) → IfErr r (IsFault b Over)
fault_where_some b Over some (Ok x) h = tt
fault_where_some b Over some (Err e) h = subst (IsFault b Over) (sym h.0) (some, h.1)
