-- What was read of a certificate so far.
use Rattle.std.specs.Prelude.{ℕ, List, [], ◌∷◌, ◌++◌, Bool, slice_set, nat_lt, if◌then◌else◌}
use Rattle.lv_base.specs.declared.kind.Model.{Model}
use Rattle.lv_base.specs.declared.kind.Model.TheVariants.{Ilp32}
use Rattle.bv_term.specs.declared.term.Term.{Term}
use Rattle.resolution_log.specs.declared.Chain.{Chain}
use Rattle.cert_text.specs.declared.draft.Draft.{Draft}
use Rattle.cert_text.specs.declared.steps.Act.{Act}
use Rattle.cert_text.specs.declared.steps.Act.TheVariants.{Nothing, Byte, Said as ASaid, Numbered, Adds, Maps, Begins, Pairs}
use Rattle.cert_text.specs.declared.steps.Move.{Move}
use Rattle.cert_text.specs.Content.{Content}

-- the parts of a certificate as far as they were read, the chains of a log that is not whole, and the last chain
pub record Said : Type 0 where
  pub hash : List ℕ
  pub model : Model
  pub layout : ℕ
  pub terms : List Term
  pub formulas : List ℕ
  pub logs : List (List Chain)
  pub log : List Chain
  pub chain : Chain

abbrev pub said_of : Draft → Said
said_of d = record {
  hash = d.hash;
  model = d.model;
  layout = d.layout;
  terms = d.terms.items;
  formulas = d.formulas.items;
  logs = d.logs.items;
  log = d.log;
  chain = d.chain;
}

abbrev pub content_said : Said → Content
content_said s = record { hash = s.hash; model = s.model; layout = s.layout; terms = s.terms; formulas = s.formulas; logs = s.logs }

abbrev pub chain_of : ℕ → List (ℕ × ℕ) → Chain
chain_of first pairs = record { first = first; pairs = pairs }

abbrev pub zeros : List ℕ
zeros = 0 ∷ 0 ∷ 0 ∷ 0 ∷ 0 ∷ 0 ∷ 0 ∷ 0 ∷ 0 ∷ 0 ∷ 0 ∷ 0 ∷ 0 ∷ 0 ∷ 0 ∷ 0 ∷ 0 ∷ 0 ∷ 0 ∷ 0 ∷ 0 ∷ 0 ∷ 0 ∷ 0 ∷ 0 ∷ 0 ∷ 0 ∷ 0 ∷ 0 ∷ 0 ∷ 0 ∷ 0 ∷ []

abbrev pub nothing : Said
nothing = record { hash = zeros; model = Ilp32; layout = 0; terms = []; formulas = []; logs = []; log = []; chain = chain_of 0 [] }

-- a field more
abbrev pub acted : Act → Said → Said
acted Nothing s = s
acted (Byte at value) s = record s { hash = if nat_lt at 32 then slice_set s.hash at value else s.hash }
acted (ASaid model) s = record s { model = model }
acted (Numbered layout) s = record s { layout = layout }
acted (Adds term) s = record s { terms = s.terms ++ term ∷ [] }
acted (Maps formula) s = record s { formulas = s.formulas ++ formula ∷ [] }
acted (Begins first) s = record s { chain = chain_of first [] }
acted (Pairs pivot clause) s = record s { chain = chain_of s.chain.first (s.chain.pairs ++ (pivot, clause) ∷ []) }

-- the last chain is whole, and the log
abbrev pub chain_closed : Bool → Said → Said
chain_closed ends s = if ends then record s { log = s.log ++ s.chain ∷ []; chain = chain_of 0 [] } else s

abbrev pub log_closed : Bool → Said → Said
log_closed ends s = if ends then record s { logs = s.logs ++ s.log ∷ []; log = [] } else s

abbrev pub applied : Move → Said → Said
applied m s = log_closed m.log_ends (chain_closed m.chain_ends (acted m.act s))
