-- What a certificate says.
use Rattle.std.specs.Prelude.{ℕ, List}
use Rattle.lv_base.specs.declared.kind.Model.{Model}
use Rattle.bv_term.specs.declared.term.Term.{Term}
use Rattle.resolution_log.specs.declared.Chain.{Chain}
use Rattle.cert_text.specs.declared.Cert.{Cert}

pub record Content : Type 0 where
  pub hash : List ℕ
  pub model : Model
  pub layout : ℕ
  pub terms : List Term
  pub formulas : List ℕ
  pub logs : List (List Chain)

abbrev pub content_of : Cert → Content
content_of c = record { hash = c.hash; model = c.model; layout = c.layout; terms = c.terms.items; formulas = c.formulas.items; logs = c.logs.items }
