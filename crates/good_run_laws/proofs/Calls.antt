-- Calls of functions of a source that breaks no rule.
use Rattle.std.proofs.Common.{◌≡◌, ℕ, zero, suc, true, false, not, List, [], Option, ℤ, refl, ap, subst}
use Rattle.c_run.specs.Run.{State, Got, Value, Stop, Run, after}
use Rattle.c_run.specs.Loops.{toLabel, From, Start, Seek, Exit, Normal, Broke, Continued, Returned, Jumped, Absent, left_by, enter}
use Rattle.c_meaning.specs.Execution.{exec_all}
use Rattle.c_meaning.specs.Jumps.{Jump, labels_of_all, has_name}
use Rattle.c_meaning.specs.Program.{functions_of, env_of, context}
use Rattle.good_run_laws.specs.Laws.{may_lack, IsLeft, BodiesLeft, left_or, enter_or, LabelsFound}

left_same : (labels : List Jump) (stray : Run (Option ℤ)) (a b : List ℕ → Run (Option ℤ)) → ((l : List ℕ) (st : State) → has_name l labels ≡ true → a l st ≡ b l st) →
    (g : Got Exit) → IsLeft labels false g → after g (λ x. left_or stray x a) ≡ after g (λ x. left_by x b)
left_same labels stray a b f (Value Normal st) h = refl
left_same labels stray a b f (Value Broke st) h = refl
left_same labels stray a b f (Value Continued st) h = refl
left_same labels stray a b f (Value (Returned v) st) h = refl
left_same labels stray a b f (Value (Jumped l) st) h = f l st h
left_same labels stray a b f (Value Absent st) h = cc
left_same labels stray a b f (Stop e) h = refl

entered : (labels : List Jump) (stray : Run (Option ℤ)) (body : From → Run Exit) → ((from : From) (st : State) → IsLeft labels (may_lack from labels) (body from st)) →
    (n : ℕ) (from : From) (st : State) → may_lack from labels ≡ false → enter_or stray n body from st ≡ enter n body from st
entered labels stray body h zero from st k = refl
entered labels stray body h (suc n) from st k =
    left_same labels stray (λ l. enter_or stray n body (Seek (toLabel l))) (λ l. enter n body (Seek (toLabel l)))
    (λ l st1 there. entered labels stray body h n (Seek (toLabel l)) st1 (ap not there)) (body from st) (subst (λ b. IsLeft labels b (body from st)) k (h from st))

pub labels_found_is : BodiesLeft → LabelsFound
labels_found_is left items model good number f there compute inputs call turns entries stray st =
    let env = env_of items model in
    entered (labels_of_all env [] f.body) stray (exec_all (context env model compute inputs (functions_of env items) call) f.result turns f.body)
    (λ from st1. left items model good number f there compute inputs call turns from st1) entries Start st refl
