-- A typed tree breaks the rules of jumps, effects and calls exactly where its source does.
use Rattle.std.proofs.Common.{◌≡◌, ℕ, zero, suc, nat_eq, Bool, ◌||◌, List, [], ◌∷◌, length, map, refl, ap, ◌∙◌}
use Rattle.std.specs.Prelude.{slice_index_or}
use Rattle.std.specs.List.{list_any}
use Rattle.lv_base.specs.declared.kind.Model.{Model}
use Rattle.lv_base.specs.declared.fault.SourceFault.TheVariants as fault
use Rattle.c_run.specs.Breaking.{line}
use Rattle.c_meaning.specs.Bindings.{Env}
use Rattle.c_meaning.specs.Jumps as source
use Rattle.c_meaning.specs.Program.{Function, functions_of, env_of}
use Rattle.c_typed.specs.Rules as typed
use Rattle.c_types.specs.Elaborated as elab
use Rattle.c_types.specs.Fit.{StatementsFit, BodiesFit}
use Rattle.control_laws.specs.Aims.{StatementsAim, BodiesAim, KnownHaveNone}
use Rattle.control_laws.specs.Laws.{SameControl}
use Rattle.control_laws.proofs.Effects.{same_call, both}
use Rattle.control_laws.proofs.Bodies.{steps_alike, unsequenced_alike, calls_alike}
use Rattle.control_laws.proofs.Jumping.{function_same}

module _ (env : Env) (model : Model) (bodies : List (List ℕ)) (known : KnownHaveNone bodies) where
  body_unsequenced : (f : Function) → StatementsFit env bodies f.body → StatementsAim env f.body →
      typed.unsequenced_of (typed.all_of_all (elab.steps env model bodies f.result f.body)) ≡ source.unsequenced_of env (source.all_of_all f.body)
  body_unsequenced f h a = unsequenced_alike env model bodies known _ _ (steps_alike env model bodies known f.result f.body h a)

  body_calls : (f : Function) → StatementsFit env bodies f.body → StatementsAim env f.body →
      typed.calls_of (typed.all_of_all (elab.steps env model bodies f.result f.body)) ≡ map same_call (source.calls_of env bodies (source.all_of_all f.body))
  body_calls f h a = calls_alike env model bodies known _ _ (steps_alike env model bodies known f.result f.body h a)

  faults_same : (f : Function) → StatementsFit env bodies f.body → StatementsAim env f.body → typed.function_faults (elab.function_of env model bodies f) ≡ source.function_faults env f
  faults_same f h a = both (function_same env model bodies f) (body_unsequenced f h a)

  all_faults_same : (fs : List Function) → BodiesFit env bodies fs → BodiesAim env fs → typed.functions_faults (map (elab.function_of env model bodies) fs) ≡ source.functions_faults env fs
  all_faults_same [] h a = refl
  all_faults_same (f ∷ fs) h a = both (faults_same f h.0 a.0) (all_faults_same fs h.1 a.1)

  -- ---- Cycles of calls

  abbrev called : List Function → List (List source.Call)
  called fs = map (λ f. source.calls_of env bodies (source.all_of_all f.body)) fs

  called_same : (fs : List Function) → BodiesFit env bodies fs → BodiesAim env fs → typed.calls_of_functions (map (elab.function_of env model bodies) fs) ≡ map (map same_call) (called fs)
  called_same [] h a = refl
  called_same (f ∷ fs) h a =
      ap (λ x. x ∷ typed.calls_of_functions (map (elab.function_of env model bodies) fs)) (body_calls f h.0 a.0)
      ∙ ap (λ x. map same_call (source.calls_of env bodies (source.all_of_all f.body)) ∷ x) (called_same fs h.1 a.1)

any_same : {A : Type 0} (f g : A → Bool) → ((x : A) → f x ≡ g x) → (xs : List A) → list_any f xs ≡ list_any g xs
any_same f g h [] = refl
any_same f g h (x ∷ xs) = ap (λ b. b || list_any f xs) (h x) ∙ ap (λ b. g x || b) (any_same f g h xs)

leads_same : (graph : List (List ℕ)) (n start goal : ℕ) → typed.leads graph n start goal ≡ source.leads graph n start goal
leads_same graph zero start goal = refl
leads_same graph (suc n) start goal =
    ap (λ b. nat_eq start goal || b) (any_same (λ f. typed.leads graph n f goal) (λ f. source.leads graph n f goal) (λ f. leads_same graph n f goal) (slice_index_or graph start []))

goals_same : (cs : List source.Call) → map (λ c. c.to) (map same_call cs) ≡ map (λ c. c.to) cs
goals_same [] = refl
goals_same (c ∷ cs) = ap (λ x. c.to ∷ x) (goals_same cs)

graph_same : (css : List (List source.Call)) → map (λ cs. map (λ c. c.to) cs) (map (map same_call) css) ≡ map (λ cs. map (λ c. c.to) cs) css
graph_same [] = refl
graph_same (cs ∷ css) = ap (λ x. x ∷ map (λ ds. map (λ c. c.to) ds) (map (map same_call) css)) (goals_same cs) ∙ ap (λ x. map (λ c. c.to) cs ∷ x) (graph_same css)

recursion_in_same : (graph : List (List ℕ)) (caller : ℕ) (cs : List source.Call) → typed.recursion_in graph caller (map same_call cs) ≡ source.recursion_in graph caller cs
recursion_in_same graph caller [] = refl
recursion_in_same graph caller (c ∷ cs) = both (ap (λ b. line b fault.Recursion c.at) (leads_same graph (length graph) c.to caller)) (recursion_in_same graph caller cs)

recursion_same : (graph : List (List ℕ)) (caller : ℕ) (css : List (List source.Call)) → typed.recursion graph caller (map (map same_call) css) ≡ source.recursion graph caller css
recursion_same graph caller [] = refl
recursion_same graph caller (cs ∷ css) = both (recursion_in_same graph caller cs) (recursion_same graph (suc caller) css)

all_recursion_same : (css : List (List source.Call)) →
    typed.recursion (map (λ cs. map (λ c. c.to) cs) (map (map same_call) css)) 0 (map (map same_call) css) ≡ source.recursion (map (λ cs. map (λ c. c.to) cs) css) 0 css
all_recursion_same css = ap (λ graph. typed.recursion graph 0 (map (map same_call) css)) (graph_same css) ∙ recursion_same (map (λ cs. map (λ c. c.to) cs) css) 0 css

pub same_control_is : SameControl
same_control_is items model h =
    let env = env_of items model in
    let fs = functions_of env items in
    let bodies = map (λ f. f.name) fs in
    both (all_faults_same env model bodies h.known fs h.fits h.aims)
    (ap (λ css. typed.recursion (map (λ cs. map (λ c. c.to) cs) css) 0 css) (called_same env model bodies h.known fs h.fits h.aims) ∙ all_recursion_same (called env model bodies h.known fs))
