-- Whole runs of a source (C11 5.1.2.2.3, 6.5.2.2, 6.7.9 p10, 6.9.1).
use Rattle.std.specs.Prelude.{◌≡◌, ℕ, zero, suc, Bool, false, List, [], ◌∷◌, ◌++◌, length, map, replicate, Option, Some, None, slice_get, position, bytes_eq, codes, ℤ, pos, nat_eq, if◌then◌else◌}
use Rattle.lv_base.specs.declared.kind.Kind.{Kind}
use Rattle.lv_base.specs.declared.kind.Model.{Model}
use Rattle.lv_base.specs.declared.fault.ErrorKind.{ErrorKind}
use Rattle.lv_base.specs.Integers.{arith_of, converted}
use Rattle.c_tree.specs.Tree.{Parts, no_parts, parts_and, named, Params, no_params, params_and, Parameters, pSome, Initial, iNothing, iValue, iList, Sts, bBlock, tFunction, Items, no_items, items_and}
use Rattle.c_run.specs.Run.{End, Error, Ended, Got, Value, Stop, Run, give, ◌>>◌, spent, turn, padded, Compute}
use Rattle.c_run.specs.Loops.{Start, Calls, enter, bind_parameters}
use Rattle.c_meaning.specs.Tokens.{first_of_words}
use Rattle.c_meaning.specs.Scope.{What, anObject, in_items}
use Rattle.c_meaning.specs.Bindings.{Object, Entity, anObjectOf, Entry, Env, object_number, declared_at, size_of_object, words_type, kind_in}
use Rattle.c_meaning.specs.Constants.{constant_of, or_zero, bind_all}
use Rattle.c_meaning.specs.Value.{Context}
use Rattle.c_meaning.specs.Execution.{exec_all}

-- ---- Functions

-- a function with a body; its parameters are objects
pub record Function : Type 0 where
  pub name : List ℕ
  pub at : ℕ
  pub result : Option Kind
  pub parameters : List ℕ
  pub body : Sts

abbrev pub number_at : Env → ℕ → List ℕ
number_at env at = elim (object_number (declared_at env at)) [ None ↦ [] | Some number ↦ number ∷ [] ]

abbrev pub params_numbers : Env → Params → List ℕ
params_numbers env no_params = []
params_numbers env (params_and ps c ws None) = params_numbers env ps ++ number_at env (first_of_words ws)
params_numbers env (params_and ps c ws (Some (named n at))) = params_numbers env ps ++ number_at env at

abbrev pub parameter_numbers : Env → Parameters → List ℕ
parameter_numbers env (pSome a ps b) = params_numbers env ps
parameter_numbers env _ = []

abbrev pub functions_of : Env → Items → List Function
functions_of env no_items = []
functions_of env (items_and is (tFunction ws (named n at) ps ats (bBlock a ss b))) =
    functions_of env is ++ (record { name = n; at = at; result = kind_in (words_type env ws); parameters = parameter_numbers env ps; body = ss }) ∷ []
functions_of env (items_and is i) = functions_of env is

abbrev pub env_of : Items → Model → Env
env_of items model = bind_all model (in_items items)

-- ---- The store at the start (C11 6.7.9 p4, p10)

abbrev pub constants : Env → Model → Kind → Parts → List ℤ
constants env model k no_parts = []
constants env model k (parts_and es c e) = constants env model k es ++ converted k model (or_zero (constant_of env model e)) ∷ []

abbrev pub initial_values : Env → Model → Kind → ℕ → Initial → List ℤ
initial_values env model k count iNothing = replicate count (pos 0)
initial_values env model k count (iValue at e) = converted k model (or_zero (constant_of env model e)) ∷ []
initial_values env model k count (iList at a es c b) = padded count (constants env model k es)

-- the initial value in a declaration of this object
abbrev pub initial_in : What → Initial
initial_in (anObject ws f i) = i
initial_in _ = iNothing

abbrev pub is_number : ℕ → Entity → Bool
is_number number (anObjectOf m) = nat_eq m number
is_number number _ = false

abbrev pub or_initial : Initial → Initial → Initial
or_initial iNothing other = other
or_initial i other = i

-- the one initial value among the declarations of an object
abbrev pub initial_of : ℕ → List Entry → Initial
initial_of number [] = iNothing
initial_of number (e ∷ es) = if is_number number e.entity then or_initial (initial_in e.declared.what) (initial_of number es) else initial_of number es

-- an object in the file takes its constant values, or 0; one in a function holds 0 until its declaration
abbrev pub start_values : Env → Model → ℕ → Object → List ℤ
start_values env model number o =
    elim (o.owner) [ None ↦ initial_values env model o.kind (size_of_object (Some o)) (initial_of number env.entries) | Some f ↦ replicate (size_of_object (Some o)) (pos 0) ]

abbrev pub start_store : Env → Model → ℕ → List Object → List (List ℤ)
start_store env model number [] = []
start_store env model number (o ∷ os) = start_values env model number o ∷ start_store env model (suc number) os

-- ---- Calls

module _ (env : Env) (model : Model) (compute : Compute) (inputs : List ℤ) (functions : List Function) where
  -- what the statements of a body are executed in
  abbrev pub context : Calls → Context
  context call = record { env = env; model = model; compute = compute; inputs = inputs; call = call; bodies = map (λ f. f.name) functions }

  -- A call takes a turn before its body. With `n` turns no more than `n` calls are open at once, nor `n` jumps or turns of
  -- one loop done.
  abbrev pub body_of : Calls → ℕ → Option Function → List ℤ → Run (Option ℤ)
  body_of call n None vs = give None
  body_of call n (Some f) vs = do
    bind_parameters f.parameters vs
    enter (suc n) (exec_all (context call) f.result n f.body) Start

  abbrev pub call_at : ℕ → Calls
  call_at zero f at vs = spent at
  call_at (suc n) f at vs = do
    turn at
    body_of (call_at n) n (slice_get functions f) vs

  -- the start of `main` takes no turn
  abbrev pub run_main : ℕ → Option ℕ → Run (Option ℤ)
  run_main n None = give None
  run_main n (Some main) = body_of (call_at n) n (slice_get functions main) []

-- ---- Runs

abbrev pub end_of_run : Got (Option ℤ) → End
end_of_run (Value v st) = Ended
end_of_run (Stop e) = e

abbrev pub main_number : List Function → Option ℕ
main_number functions = position (λ f. bytes_eq f.name (codes "main")) functions

-- with so many turns, on these inputs, under this arithmetic
abbrev pub run_with : Compute → ℕ → Items → Model → List ℤ → End
run_with compute turns items model inputs =
    let env = env_of items model in
    let functions = functions_of env items in
    end_of_run (run_main env model compute inputs functions turns (main_number functions) (record { store = start_store env model 0 env.objects; taken = 0; turns = turns }))

-- signed arithmetic that leaves its range is an error
abbrev pub trapping : Model → Compute
trapping model op kind x y = arith_of op kind model x y

abbrev pub run : ℕ → Items → Model → List ℤ → End
run turns items model inputs = run_with (trapping model) turns items model inputs

-- the run on these inputs ends in this error, with all of them drawn
pub record Reaches (items : Items) (model : Model) (inputs : List ℤ) (kind : ErrorKind) (at : ℕ) : Type 0 where
  pub turns : ℕ
  pub ends : run turns items model inputs ≡ Error kind at (length inputs)

-- no inputs reach an error
abbrev pub Secure : Items → Model → Type 0
Secure items model = (inputs : List ℤ) → (kind : ErrorKind) → (at : ℕ) → Reaches items model inputs kind at → ⊥
