use Rattle.std.proofs.Common.{◌≡◌, ◌⊎◌, List, ℕ, MatchResult, Result, Ok, Err, sym, ◌∙◌, inl, inr}
use Rattle.lv_base.specs.declared.fail.SourceFail.{SourceFail}
use Rattle.lv_base.specs.declared.fail.SourceFail.TheVariants.{Memory}
use Rattle.c_lexer.specs.Lexed.{lexed}
use Rattle.c_lexer.specs.declared.token.Token.{Token}
use Rattle.c_tokens.proofs.Whole.{is_lexed_of}
use Rattle.c_tokens.specs.Divisions.{Fits}
use Rattle.c_tokens.proofs.reader.tokens_of.Goals as goal

fits : {V : Type 0} (items : V → List Token) (source : List ℕ) (r : Result V SourceFail) → MatchResult r (λ tokens. lexed source ≡ Ok (items tokens)) (λ fail. (fail ≡ Memory) ⊎ (lexed source ≡ Err fail))
    → MatchResult r (λ tokens. Fits source (Ok (items tokens))) (λ fail. (fail ≡ Memory) ⊎ Fits source (Err fail))
fits items source (Ok tokens) is = (is_lexed_of source (Ok (items tokens))).0 is
fits items source (Err fail) (inl memory) = inl memory
fits items source (Err fail) (inr is) = inr ((is_lexed_of source (Err fail)).0 is)

alone : {V : Type 0} (items : V → List Token) (source : List ℕ) (r : Result V SourceFail) → MatchResult r (λ tokens. lexed source ≡ Ok (items tokens)) (λ fail. (fail ≡ Memory) ⊎ (lexed source ≡ Err fail))
    → (answer : Result (List Token) SourceFail) → Fits source answer → MatchResult r (λ tokens. answer ≡ Ok (items tokens)) (λ fail. (fail ≡ Memory) ⊎ (answer ≡ Err fail))
alone items source (Ok tokens) is answer one = sym ((is_lexed_of source answer).1 one) ∙ is
alone items source (Err fail) (inl memory) answer one = inl memory
alone items source (Err fail) (inr is) answer one = inr (sym ((is_lexed_of source answer).1 one) ∙ is)

pub returns-clause-fits : goal.returns-clause-fits
returns-clause-fits c = fits (λ tokens. tokens.items) c.args.source.now c.lex.result c.lex.ensures

pub returns-clause-alone : goal.returns-clause-alone
returns-clause-alone c = alone (λ tokens. tokens.items) c.args.source.now c.lex.result c.lex.ensures
