-- Fresh claimers are ready.
use Rattle.std.proofs.Common.{◌≡◌, ◌<◌, ℕ, List, [], ◌∷◌, All, ap}
use Rattle.std.proofs.lemmas.List.Elements.{All-nil, All-cons, All-head, All-tail}
use Rattle.c_graph.specs.Shape.{Flow}
use Rattle.c_graph.specs.Runs.{Formulas, IsMapOf}
use Rattle.obligations.specs.Questions.{count_of}
use Rattle.work_claims.specs.declared.words.Claimer.{Claimer}
use Rattle.work_claims.specs.declared.words.Claims.{Claims}
use Rattle.work_claims.specs.Hands.{fresh}
use Rattle.work_claims.specs.Seats.{hand, terms, IsOf}
use Rattle.prove_workers.specs.Working.{CanWork}

pub all_ready : (g : Flow) (m : Formulas) (learn : ℕ) (s : Claims) (cs : List Claimer) → IsMapOf g m → 0 < learn → (terms s).total ≡ count_of g
    → All (IsOf s) cs → All (λ c. hand c ≡ fresh (terms s).total 1) cs → All (CanWork g m learn s) cs
all_ready g m learn s [] map some total of begun = All-nil (CanWork g m learn s)
all_ready g m learn s (c ∷ cs) map some total of begun =
    All-cons (CanWork g m learn s) c cs
    (record {
      map = map;
      some = some;
      total = total;
      of = All-head (IsOf s) c cs of;
      unfinished = ap (λ h. h.finishes) (All-head (λ c. hand c ≡ fresh (terms s).total 1) c cs begun);
    })
    (all_ready g m learn s cs map some total (All-tail (IsOf s) c cs of) (All-tail (λ c. hand c ≡ fresh (terms s).total 1) c cs begun))
