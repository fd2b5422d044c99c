use Rattle.std.proofs.Common.{◌∙◌, sym, ap, ℕ, List}
use Rattle.std.specs.Prelude.{Ok}
use Rattle.cert_text.specs.Content.{content_of}
use Rattle.cert_verdicts.specs.Judged.{IsCertificate}
use Rattle.source_verdicts.specs.Verified.{IsProved}
use Rattle.source_verdicts.proofs.Holding.{no_text_map}
use Rattle.source_verdicts.proofs.Writing.{cert_unwritten}
use Rattle.source_verdicts.proofs.certifying.written.Goals as goal

pub returns-in-Ok : goal.returns-in-Ok
returns-in-Ok c =
    let proof : IsProved c.args.graph.now c.args._source.now c.args._model c.new.result = record {
      cert = c.args.cert.now;
      written = c.in-Ok.ensures.text ∙ ap (λ (x : List ℕ). Ok x) (sym c.new.ensures);
      read = c.written_is_read.ensures (content_of c.args.cert.now) c.new.result c.in-Ok.ensures.numbers (c.in-Ok.ensures.text ∙ ap (λ (x : List ℕ). Ok x) (sym c.new.ensures));
      is = record {
        hash = c.requires.hash;
        under = c.requires.model;
        accepted = c.requires.accepted;
        safe = λ draws v kind at after runs is. c.accepted_is_safe.ensures c.args.graph.now c.args.cert.now draws v kind at after c.entry-entry.ensures.flow c.requires.accepted runs is;
      };
    } in
    (λ p units extracted. record { proved = proof; map = c.args._map.now; extracted = extracted; of_map = c.requires.of_map }, record { proved = proof; terms = c.requires.of_map.terms; formulas = c.requires.of_map.formulas })

pub returns-in-Err : goal.returns-in-Err
returns-in-Err c =
    let is : IsCertificate c.args.graph.now c.args._source.now c.args._model c.args.cert.now = record {
      hash = c.requires.hash;
      under = c.requires.model;
      accepted = c.requires.accepted;
      safe = λ draws v kind at after runs is. c.accepted_is_safe.ensures c.args.graph.now c.args.cert.now draws v kind at after c.entry-entry.ensures.flow c.requires.accepted runs is;
    } in (
      λ p units extracted. cert_unwritten p c.args.graph.now c.args._source.now c.args._model units c.args._learn c.args.cert.now c.args._map.now extracted c.requires.of_map is c.in-Err.fail c.unwritten.result c.unwritten.ensures c.in-Err.ensures.text,
      no_text_map c.args.graph.now c.args._source.now c.args._model c.args._map.now c.in-Err.fail c.unwritten.result c.unwritten.ensures,
    )
