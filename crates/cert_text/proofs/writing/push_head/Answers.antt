use Rattle.std.proofs.Common.{List, ℕ, ◌∷◌, ◌++◌, ◌≡◌, ◌∙◌, ap, subst, append_assoc}
use Rattle.std.specs.Prelude.{MatchResult, codes}
use Rattle.stored_text.specs.declared.StoredFail.TheVariants.{Memory}
use Rattle.cert_text.specs.Content.{content_of}
use Rattle.cert_text.specs.CertText.{hex_text, model_text, number_line, head_text}
use Rattle.cert_text.proofs.Pieces.{five_pieces}
use Rattle.cert_text.proofs.writing.push_head.Goals as goal

pub returns-clause-text : goal.returns-clause-text
returns-clause-text c =
    let cert = c.args.cert.now in
    let file : List ℕ = c.args.file.now.items in
    let first : List ℕ = codes "lac 1" ++ 10 ∷ codes "source " in
    let model : List ℕ = 10 ∷ codes "model " in
    let layout : List ℕ = 10 ∷ codes "layout " in
    let told = c.in_ok-push_bytes-3.ensures ∙ ap (λ (l : List ℕ). c.push_bytes-2.new.file.items ++ l) c.model_bytes.ensures in
    let whole : (c.push_bytes-3.new.file.items ++ layout) ++ number_line cert.layout ≡ file ++ head_text (content_of cert) =
    append_assoc c.push_bytes-3.new.file.items layout (number_line cert.layout)
    ∙ five_pieces file c.push_bytes.new.file.items c.push_hex.new.file.items c.push_bytes-2.new.file.items c.push_bytes-3.new.file.items first (hex_text cert.hash) model (model_text cert.model) (layout ++ number_line cert.layout)
    c.in_ok-push_bytes.ensures c.in_ok-push_hex.ensures.text c.in_ok-push_bytes-2.ensures told in
    subst (λ (l : List ℕ). MatchResult c.push_count.result (λ x. c.push_count.new.file.items ≡ l) (λ e. e ≡ Memory)) whole c.push_count.ensures
