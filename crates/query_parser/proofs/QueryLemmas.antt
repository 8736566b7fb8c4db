-- Whole queries: what reading their words tells of their tokens.
use Rattle.std.proofs.Common.{◌≡◌, ℕ, ◌+◌, List, length, Result, Ok, Err, subst}
use Rattle.std.specs.Prelude.{IfOk, IfErr, MatchResult}
use Rattle.query_tree.specs.declared.module.Module.{Module}
use Rattle.query_tree.specs.declared.names.TypeName.{TypeName}
use Rattle.query_tree.specs.NamedViews.{named_query}
use Rattle.query_lexer.specs.declared.token.Token.{Token}
use Rattle.query_grammar.specs.declared.word.Word.{Word}
use Rattle.query_grammar.specs.Nodes as n
use Rattle.query_grammar.specs.Words.{AreWordsAt}
use Rattle.query_grammar.specs.Texts.{Derives, IsRefused}
use Rattle.query_grammar.proofs.OneReading.{one_reading}
use Rattle.query_parser.specs.Queries.{IsQueryAt, AreRefused, IsFaultAt}
use Rattle.query_parser.specs.declared.reading.ParseFault.{ParseFault}
use Rattle.query_parser.specs.declared.reading.ParseFault.TheVariants as fault

abbrev Answer : Type 0
Answer = Result (Module n.Name n.Name TypeName) ParseFault

module _ (start : ℕ) (text : List ℕ) (tokens : List Token) (words : List Word) (are : AreWordsAt start text tokens words) where
  pub query_found : (answer : Answer) → IfOk answer (λ q. Derives words (named_query q)) → IfOk answer (λ q. IsQueryAt start text tokens (named_query q))
  query_found (Ok q) h = (words, are, h)
  query_found (Err f) h = tt

  pub query_only : (answer : Answer) → ((tree : n.Module) → Derives words tree → MatchResult answer (λ q. named_query q ≡ tree) (λ f. f ≡ fault.NoMemory)) → (tree : n.Module) → IsQueryAt start text tokens tree → MatchResult answer (λ q. named_query q ≡ tree) (λ f. f ≡ fault.NoMemory)
  query_only answer h tree (others, others_are, derived) = h tree (subst (λ (w : List Word). Derives w tree) (one_reading start text tokens others words others_are are) derived)

  pub query_refused : (end : ℕ) (answer : Answer) → end ≡ start + length text → IfErr answer (λ f. AreRefused words end f) → IfErr answer (λ f. IsFaultAt start text tokens f)
  query_refused end (Ok q) e h = tt
  query_refused end (Err fault.NoMemory) e h = tt
  query_refused end (Err (fault.Refused code place)) e h = (words, are, subst (λ (m : ℕ). IsRefused words m code place) e h)
