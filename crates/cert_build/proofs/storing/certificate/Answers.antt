use Rattle.std.proofs.Common.{◌∙◌, ap, subst, refl, rules}
use Rattle.bv_term.specs.WellFormed.{Table, IsTable}
use Rattle.cert_build.proofs.Accepting.{accepted}
use Rattle.cert_build.proofs.storing.certificate.Goals as goal

pub returns : goal.returns
returns c = record {
  named = (refl, refl);
  of_map = (c.in_ok-terms_of.ensures.terms ∙ ap (λ (t : Table). t.terms) c.terms-2.ensures, c.in_ok-numbers_of.ensures.numbers ∙ c.at.ensures);
  logs = refl;
  accepted = λ g learn is proofs.
      accepted g c.args.map.now learn _ is (subst IsTable c.terms.ensures (search rules)) proofs refl
      (c.in_ok-terms_of.ensures.terms ∙ ap (λ (t : Table). t.terms) c.terms-2.ensures) (c.in_ok-numbers_of.ensures.numbers ∙ c.at.ensures);
}
