-- A log more among those at their places.
use Rattle.std.proofs.Common.{ℕ, ◌≡◌, List, [], ◌∷◌, ◌++◌, Option, All, sym, subst}
use Rattle.std.proofs.lemmas.List.Elements.{All-nil, All-cons, All-append}
use Rattle.std.specs.Prelude.{Some, slice_set}
use Rattle.c_graph.specs.Shape.{Flow}
use Rattle.c_graph.specs.Runs.{Formulas}
use Rattle.resolution_log.specs.declared.Chain.{Chain}
use Rattle.cert_build.specs.Answered.{AreLogs}
use Rattle.cert_build.proofs.Finding.{log_placed}
use Rattle.prove_workers.specs.declared.worker.Refuted.{Refuted}
use Rattle.prove_workers.specs.Working.{Proves}

pub placed : (g : Flow) (m : Formulas) (learn : ℕ) (logs : List (Option (List Chain))) (r : Refuted) → AreLogs g m learn logs → Proves g m learn r
    → AreLogs g m learn (slice_set logs r.number (Some r.log))
placed g m learn logs r h is = log_placed g m learn logs r.number r.log h is.proof

-- one refutation more
pub proves_more : (g : Flow) (m : Formulas) (learn : ℕ) (old new : List Refuted) (r : Refuted) → All (Proves g m learn) old → Proves g m learn r → new ≡ old ++ r ∷ [] → All (Proves g m learn) new
proves_more g m learn old new r h one is =
    subst (λ (xs : List Refuted). All (Proves g m learn) xs) (sym is) (All-append (Proves g m learn) old (r ∷ []) h (All-cons (Proves g m learn) r [] one (All-nil (Proves g m learn))))
