use Rattle.std.proofs.Common.{List, ℕ, [], ◌∷◌, ◌++◌, ◌∙◌, ap}
use Rattle.std.specs.Prelude.{codes}
use Rattle.bv_term.specs.declared.term.Term.{Term}
use Rattle.resolution_log.specs.declared.Chain.{Chain}
use Rattle.cert_text.specs.Content.{content_of}
use Rattle.cert_text.specs.CertText.{head_text, terms_part, nodes_part, logs_part, cert_text}
use Rattle.cert_text.proofs.Pieces.{five_pieces, stops_told}
use Rattle.cert_text.proofs.writing.push_cert.Goals as goal

pub returns-clause-text : goal.returns-clause-text
returns-clause-text c =
    let said = content_of c.args.cert.now in
    let file : List ℕ = c.args.file.now.items in
    let close : List ℕ = codes "end" ++ 10 ∷ [] in
    stops_told c.push_bytes.result c.push_bytes.new.file.items (c.push_proofs.new.file.items ++ close) (file ++ cert_text said)
    (five_pieces file c.push_head.new.file.items c.push_table.new.file.items c.push_nodes.new.file.items c.push_proofs.new.file.items (head_text said) (terms_part said.terms) (nodes_part said.formulas) (logs_part said.logs) close
    c.in_ok-push_head.ensures.text
    (c.in_ok-push_table.ensures.text ∙ ap (λ (ts : List Term). c.push_head.new.file.items ++ terms_part ts) c.as_slice.ensures.value)
    (c.in_ok-push_nodes.ensures.text ∙ ap (λ (fs : List ℕ). c.push_table.new.file.items ++ nodes_part fs) c.as_slice-2.ensures.value)
    (c.in_ok-push_proofs.ensures.text ∙ ap (λ (ls : List (List Chain)). c.push_nodes.new.file.items ++ logs_part ls) c.as_slice-3.ensures.value))
    c.push_bytes.ensures
