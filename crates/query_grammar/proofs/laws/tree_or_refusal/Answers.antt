use Rattle.query_grammar.proofs.Texts.{decided, one_refusal}
use Rattle.query_grammar.proofs.laws.tree_or_refusal.Goals as goal

pub returns : goal.returns
returns c = record { either = decided; not_both = λ s end tree code place d r. r.derives_none tree d; one = one_refusal }
