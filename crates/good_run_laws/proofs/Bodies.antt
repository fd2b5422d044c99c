-- The bodies of a source that breaks no rule.
use Rattle.std.proofs.Common.{◌≡◌, ℕ, zero, suc, Bool, true, false, not, List, [], ◌∷◌, ◌++◌, None, Some, refl, subst}
use Rattle.std.specs.Prelude.{slice_get}
use Rattle.lv_base.specs.declared.fault.SourceFault.{SourceFault}
use Rattle.c_run.specs.Breaking.{Broken, line}
use Rattle.c_meaning.specs.Bindings.{Env}
use Rattle.c_meaning.specs.Good.{or_control}
use Rattle.c_meaning.specs.Jumps.{Jump, has_name, labels_of_all, gotos_of_all, repeated_labels, lost_gotos, entering_gotos, misplaced_all, function_faults, functions_faults}
use Rattle.c_meaning.specs.Program.{Function, functions_of, env_of, context}
use Rattle.good_run_laws.specs.Laws.{BodiesLeft}
use Rattle.good_run_laws.proofs.Leaving.{AllThere, statements_left}

nil_left : (xs ys : List Broken) → xs ++ ys ≡ [] → xs ≡ []
nil_left [] ys h = refl
nil_left (x ∷ xs) ys h = cc

nil_right : (xs ys : List Broken) → xs ++ ys ≡ [] → ys ≡ []
nil_right [] ys h = h
nil_right (x ∷ xs) ys h = cc

or_right : (xs ys : List Broken) → or_control xs ys ≡ [] → ys ≡ []
or_right [] ys h = h
or_right (x ∷ xs) ys h = cc

line_there : (b : Bool) (f : SourceFault) (at : ℕ) → line (not b) f at ≡ [] → b ≡ true
line_there true f at h = refl
line_there false f at h = cc

all_there : (labels gs : List Jump) → lost_gotos labels gs ≡ [] → AllThere labels gs
all_there labels [] h = tt
all_there labels (g ∷ gs) h = (line_there (has_name g.name labels) _ _ (nil_left _ _ h), all_there labels gs (nil_right (line (not (has_name g.name labels)) _ _) _ h))

function_right : (env : Env) (fs : List Function) (i : ℕ) (f : Function) → slice_get fs i ≡ Some f → functions_faults env fs ≡ [] → function_faults env f ≡ []
function_right env [] i f e h = cc
function_right env (g ∷ fs) zero f e h = let same : g ≡ f = cc in subst (λ x. function_faults env x ≡ []) same (nil_left _ _ h)
function_right env (g ∷ fs) (suc i) f e h = function_right env fs i f e (nil_right (function_faults env g) _ h)

pub bodies_left_is : BodiesLeft
bodies_left_is items model good number f there compute inputs call turns from st =
    let env = env_of items model in
    let fs = functions_of env items in
    let control = nil_left (functions_faults env fs) _ (or_right _ _ good) in
    let own = function_right env fs number f there control in
    let labels = labels_of_all env [] f.body in
    let gotos = gotos_of_all env [] f.body in
    let fore = nil_left (repeated_labels [] labels ++ lost_gotos labels gotos ++ entering_gotos labels gotos ++ misplaced_all env f.result false None [] f.body) _ own in
    let front = nil_left (repeated_labels [] labels ++ lost_gotos labels gotos ++ entering_gotos labels gotos) _ fore in
    let lost = nil_right (repeated_labels [] labels) _ (nil_left (repeated_labels [] labels ++ lost_gotos labels gotos) _ front) in
    statements_left labels (context env model compute inputs fs call) env f.result turns f.body [] from st (all_there labels gotos lost)
