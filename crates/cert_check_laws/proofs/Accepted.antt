-- A certificate that is accepted has an inductive map.
use Rattle.std.proofs.Common.{ℕ, ◌<◌, List, [], length, sym, subst, get_or}
use Rattle.std.proofs.lemmas.Option.{slice_get-get_or}
use Rattle.resolution_log.specs.declared.Chain.{Chain}
use Rattle.resolution_log.proofs.Results.{refutation_sound}
use Rattle.c_graph.specs.Shape.{Flow}
use Rattle.c_graph.proofs.Keeping.{inductive_means_safe}
use Rattle.cert_text.specs.declared.Cert.{Cert}
use Rattle.obligations.specs.Stated.{obligation_says}
use Rattle.obligation_laws.specs.Laws.{AllRefuted}
use Rattle.obligation_laws.proofs.Inductive.{inductive_exact}
use Rattle.cert_check.specs.Answers.{IsAccepted}
use Rattle.cert_check_laws.specs.Laws.{AcceptedIsInductive, AcceptedIsSafe}

-- each obligation has a log, which refutes it
all_refuted : (g : Flow) (c : Cert) (a : IsAccepted g c) → AllRefuted g a.formulas
all_refuted g c a n lt =
    let there : n < length c.logs.items = subst (λ (k : ℕ). n < k) (sym a.count) lt in
    let log : List Chain = get_or c.logs.items n [] in
    refutation_sound (obligation_says g a.formulas n) log (a.logs n log (slice_get-get_or c.logs.items n [] there)).refuted

pub accepted_is_inductive : AcceptedIsInductive
accepted_is_inductive g c flow a = (inductive_exact g a.formulas flow a.stored.fits a.is_map).0 (all_refuted g c a)

pub accepted_is_safe : AcceptedIsSafe
accepted_is_safe g c draws v kind at after flow a runs is =
    inductive_means_safe g a.formulas draws v kind at after flow (accepted_is_inductive g c flow a) runs is
