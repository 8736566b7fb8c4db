-- What a step gives with the faults that it meets marked, in the words of the meaning.
use Rattle.std.proofs.Common.{◌≡◌, ℕ, ◌+◌, List, [], ◌∷◌, Result, Ok, Err, refl, ap₂, ◌∙◌}
use Rattle.item_tree.specs.declared.fault.Fault.{Fault}
use Rattle.query_meaning.specs.Outcome as m
use Rattle.query_meaning.specs.Outcome.{OrFault}
use Rattle.query_meaning.specs.Environment.{Tuple}
use Rattle.query_meaning.specs.Clauses.{each_tuple}
use Rattle.stage_laws.specs.Runs as run
use Rattle.stage_laws.specs.Runs.{Met}
use Rattle.stage_laws.specs.Ends.{ended_by}
use Rattle.clause_stages.specs.Steps.{marked}

-- what steps leave, as the meaning has it
abbrev pub meant : {B K : Type 0} → Result B (Met K Fault) → OrFault B
meant r = ended_by marked (λ x. Ok x) r

pub meant_joined : {B K : Type 0} (q r : Result (List B) (Met K Fault)) → m.joined (meant q) (meant r) ≡ meant (run.joined q r)
meant_joined (Ok xs) (Ok ys) = refl
meant_joined (Ok xs) (Err e) = refl
meant_joined (Err e) r = refl

pub meant_met : {B : Type 0} (K : Type 0) (number n : ℕ) (r : OrFault (List B)) → m.at_tuple number n r ≡ meant (run.met_at {K = K} number n r)
meant_met K number n (Ok ys) = refl
meant_met K number n (Err fault) = refl

pub meant_each : {A B : Type 0} (K : Type 0) (number : ℕ) (f : A → OrFault (List B)) (n : ℕ) (xs : List A)
    → m.each_from (λ n x. m.at_tuple number n (f x)) n xs ≡ meant (run.each_from {K = K} number f n xs)
meant_each K number f n [] = refl
meant_each K number f n (x ∷ xs) =
    ap₂ m.joined (meant_met K number n (f x)) (meant_each K number f (n + 1) xs)
    ∙ meant_joined (run.met_at number n (f x)) (run.each_from number f (n + 1) xs)

pub meant_tuples : (K : Type 0) (number : ℕ) (f : Tuple → OrFault (List Tuple)) (xs : List Tuple)
    → each_tuple number (λ n. f) xs ≡ meant (run.each_from {K = K} number f 1 xs)
unfolding each_tuple
meant_tuples K number f xs = meant_each K number f 1 xs

-- a step and what comes of what it gives
pub then_ended : {A B C K : Type 0} (q : Result A (Met K Fault)) (f : A → Result B (Met K Fault)) (finish : B → OrFault C) (g : A → OrFault C) → ((x : A) → g x ≡ ended_by marked finish (f x))
    → m.◌>>=◌ (meant q) g ≡ ended_by marked finish (run.◌>>=◌ q f)
then_ended (Ok x) f finish g h = h x
then_ended (Err e) f finish g h = refl

-- where no step is left, what is finished
pub then_finished : {B C K : Type 0} (q : Result (List B) (Met K Fault)) (finish : List B → OrFault C)
    → m.◌>>=◌ (meant q) finish ≡ ended_by marked finish (run.◌>>=◌ q (λ xs. Ok xs))
then_finished (Ok xs) finish = refl
then_finished (Err e) finish = refl

pub then_itself : {A : Type 0} (q : OrFault A) → q ≡ m.◌>>=◌ q (λ x. Ok x)
then_itself (Ok x) = refl
then_itself (Err e) = refl

pub then_then : {A B C : Type 0} (q : OrFault A) (f : A → OrFault B) (g : B → OrFault C) → m.◌>>=◌ (m.◌>>=◌ q f) g ≡ m.◌>>=◌ q (λ a. m.◌>>=◌ (f a) g)
then_then (Ok a) f g = refl
then_then (Err e) f g = refl

pub same_after : {A B : Type 0} (q : OrFault A) (f g : A → OrFault B) → ((a : A) → f a ≡ g a) → m.◌>>=◌ q f ≡ m.◌>>=◌ q g
same_after (Ok a) f g h = h a
same_after (Err fault) f g h = refl
