-- The certificate of a map with refutations of its obligations is accepted.
use Rattle.std.proofs.Common.{◌≡◌, ℕ, sym}
use Rattle.bv_term.specs.WellFormed.{IsTable}
use Rattle.c_graph.specs.Shape.{Flow}
use Rattle.c_graph.specs.Runs.{Formulas, IsMapOf}
use Rattle.obligations.specs.Stated.{obligation_says}
use Rattle.resolution_log.proofs.Refuting.{lean_refutes}
use Rattle.cert_text.specs.declared.Cert.{Cert}
use Rattle.cert_check.specs.Answers.{IsAccepted, numbered}
use Rattle.cert_build.specs.Proofs.{AreProofs}

pub accepted : (g : Flow) (m : Formulas) (learn : ℕ) (c : Cert) → IsMapOf g m → IsTable m.terms → AreProofs g m learn c.logs.items
    → c.layout ≡ 2 → c.terms.items ≡ m.terms.terms → numbered c.formulas.items ≡ m.at → IsAccepted g c
accepted g m learn c is table proofs layout terms formulas = record {
  formulas = m;
  stored = record { layout = layout; cells = is.cells; terms = sym terms; fits = table; at = sym formulas };
  is_map = is;
  count = proofs.count;
  logs = λ n log at. let proof = proofs.each n log at in record { within = proof.0; refuted = lean_refutes (obligation_says g m n) log proof.1.0 };
}
