-- Whole runs.
use Rattle.std.proofs.Common.{◌≡◌, ℕ, zero, suc, ◌+◌, Bool, false, cond, not, nat_eq, nat_lt, length, List, [], ◌∷◌, map, replicate, Option, Some, None, ℤ, pos, slice_get, bytes_eq, codes, refl, ap, ◌∙◌, arith}
use Rattle.std.specs.Prelude.{if◌then◌else◌}
use Rattle.std.specs.List.{position_or_len}
use mathlib.Core.Path.{fun_ext}
use Rattle.lv_base.specs.declared.kind.Kind.{Kind}
use Rattle.lv_base.specs.declared.kind.Model.{Model}
use Rattle.lv_base.specs.Integers.{arith_of}
use Rattle.c_run.specs.Run.{◌>>◌, Compute, turn}
use Rattle.c_run.specs.Loops.{Start, Calls, enter, bind_parameters}
use Rattle.c_meaning.specs.Bindings.{Env, Object, size_of_object, kind_of_object}
use Rattle.c_meaning.specs.Program.{Function, functions_of, env_of, start_values, start_store, body_of, call_at, run_main, end_of_run, main_number}
use Rattle.c_typed.specs.Tree as t
use Rattle.c_typed.specs.Run as typed
use Rattle.c_types.specs.Elaborated as elab
use Rattle.c_types.specs.Fit.{LengthFits, ObjectsFit, StatementsFit, BodiesFit}
use Rattle.c_types.specs.Laws.{SameRun}
use Rattle.c_types.proofs.Steps.{steps_same}

-- ---- Objects

length_same : (l : Option ℕ) → LengthFits l → (if nat_eq (elab.length_of l) 0 then 1 else elab.length_of l) ≡ elim l [ None ↦ 1 | Some n ↦ n ]
length_same None h = refl
length_same (Some zero) h = absurd (omega (arith, h))
length_same (Some (suc n)) h = let e : nat_eq (suc n) 0 ≡ false = grind arith in ap (λ b. if b then 1 else suc n) e

count_same : (env : Env) (model : Model) (k : ℕ) (os : List Object) (n : ℕ) → ObjectsFit os → typed.size_of (slice_get (elab.objects_from env model k os) n) ≡ size_of_object (slice_get os n)
count_same env model k [] n h = refl
count_same env model k (o ∷ os) zero h = length_same o.length h.0
count_same env model k (o ∷ os) (suc n) h = count_same env model (suc k) os n h.1

kind_same : (env : Env) (model : Model) (k : ℕ) (os : List Object) (n : ℕ) → typed.kind_of (slice_get (elab.objects_from env model k os) n) ≡ kind_of_object (slice_get os n)
kind_same env model k [] n = refl
kind_same env model k (o ∷ os) zero = refl
kind_same env model k (o ∷ os) (suc n) = kind_same env model (suc k) os n

values_same : (env : Env) (model : Model) (k : ℕ) (name : List ℕ) (at : ℕ) (kind : Kind) (l : Option ℕ) (is_const : Bool) (owner : Option ℕ) → LengthFits l →
    let o : Object = record { name = name; at = at; kind = kind; length = l; is_const = is_const; owner = owner } in
    let p : t.Object = record { name = name; at = at; kind = kind; length = elab.length_of l; owner = elab.owner_of owner; first = elab.first_of owner (start_values env model k o) } in
    typed.start_values p ≡ start_values env model k o
values_same env model k name at kind l is_const None h = refl
values_same env model k name at kind l is_const (Some f) h = ap (λ n. replicate n (pos 0)) (length_same l h)

store_same : (env : Env) (model : Model) (k : ℕ) (os : List Object) → ObjectsFit os → typed.start_store (elab.objects_from env model k os) ≡ start_store env model k os
store_same env model k [] h = refl
store_same env model k (o ∷ os) h =
    ap (λ v. v ∷ typed.start_store (elab.objects_from env model (suc k) os)) (values_same env model k o.name o.at o.kind o.length o.is_const o.owner h.0)
    ∙ ap (λ vs. start_values env model k o ∷ vs) (store_same env model (suc k) os h.1)

-- ---- Functions

module _ (env : Env) (model : Model) (bodies : List (List ℕ)) where
  abbrev F : Function → t.Function
  F f = elab.function_of env model bodies f

  place_same : (fs : List Function) → position_or_len (λ f. bytes_eq f.name (codes "main")) (map F fs) ≡ position_or_len (λ f. bytes_eq f.name (codes "main")) fs
  place_same [] = refl
  place_same (f ∷ fs) = ap (λ n. cond (not (bytes_eq f.name (codes "main"))) (1 + n) 0) (place_same fs)

  count_functions : (fs : List Function) → length (map F fs) ≡ length fs
  count_functions [] = refl
  count_functions (f ∷ fs) = ap (λ n. suc n) (count_functions fs)

  main_place : (fs : List Function) → typed.main_number (map F fs) ≡ main_number fs
  main_place fs =
      ap (λ n. cond (nat_lt n (length (map F fs))) (Some n) None) (place_same fs)
      ∙ ap (λ m. cond (nat_lt (position_or_len (λ f. bytes_eq f.name (codes "main")) fs) m) (Some (position_or_len (λ f. bytes_eq f.name (codes "main")) fs)) None) (count_functions fs)

  mapped : Option Function → Option t.Function
  mapped None = None
  mapped (Some f) = Some (F f)

  get_same : (fs : List Function) (i : ℕ) → slice_get (map F fs) i ≡ mapped (slice_get fs i)
  unfolding mapped
  get_same [] i = refl
  get_same (f ∷ fs) zero = refl
  get_same (f ∷ fs) (suc i) = get_same fs i

  abbrev InFound : Option Function → Type 0
  InFound None = Unit {0}
  InFound (Some f) = StatementsFit env bodies f.body

  in_found : (fs : List Function) (i : ℕ) → BodiesFit env bodies fs → InFound (slice_get fs i)
  in_found [] i h = tt
  in_found (f ∷ fs) zero h = h.0
  in_found (f ∷ fs) (suc i) h = in_found fs i h.1

module _ (env : Env) (model : Model) (compute : Compute) (inputs : List ℤ) (functions : List Function)
    (objects : ObjectsFit env.objects) (fit : BodiesFit env (map (λ f. f.name) functions) functions) where
  abbrev bodies : List (List ℕ)
  bodies = map (λ f. f.name) functions

  abbrev P : t.Program
  P = elab.program_of env model functions

  body_same : (call : Calls) (n : ℕ) (f : Option Function) (vs : List ℤ) → InFound env model bodies f →
      typed.body_of P compute inputs call n (mapped env model bodies f) vs ≡ body_of env model compute inputs functions call n f vs
  unfolding mapped
  body_same call n None vs h = refl
  body_same call n (Some f) vs h =
      ap (λ g. bind_parameters f.parameters vs >> enter (suc n) g Start)
      (fun_ext (λ from. steps_same env model bodies P.objects compute inputs call (λ m. count_same env model 0 env.objects m objects) (λ m. kind_same env model 0 env.objects m) f.result n f.body from h))

  found_same : (call : Calls) (n i : ℕ) (vs : List ℤ) → typed.body_of P compute inputs call n (slice_get P.functions i) vs ≡ body_of env model compute inputs functions call n (slice_get functions i) vs
  found_same call n i vs =
      ap (λ f. typed.body_of P compute inputs call n f vs) (get_same env model bodies functions i) ∙ body_same call n (slice_get functions i) vs (in_found env model bodies functions i fit)

  calls_same : (n : ℕ) → typed.call_at P compute inputs n ≡ call_at env model compute inputs functions n
  calls_same zero = refl
  calls_same (suc n) = fun_ext (λ f. fun_ext (λ at. fun_ext (λ vs.
      ap (λ m. turn at >> m) (ap (λ call. typed.body_of P compute inputs call n (slice_get P.functions f) vs) (calls_same n) ∙ found_same (call_at env model compute inputs functions n) n f vs))))

  main_same : (n : ℕ) (main : Option ℕ) → typed.run_main P compute inputs n main ≡ run_main env model compute inputs functions n main
  main_same n None = refl
  main_same n (Some main) = ap (λ call. typed.body_of P compute inputs call n (slice_get P.functions main) []) (calls_same n) ∙ found_same (call_at env model compute inputs functions n) n main []

pub same_run : SameRun
same_run items model fits turns inputs =
    let env = env_of items model in
    let functions = functions_of env items in
    let compute : Compute = λ op kind x y. arith_of op kind model x y in
    let P = elab.program_of env model functions in
    ap (λ m. typed.end_of_run (typed.run_main P compute inputs turns m (record { store = typed.start_store P.objects; taken = 0; turns = turns }))) (main_place env model (map (λ f. f.name) functions) functions)
    ∙ ap (λ r. typed.end_of_run (r (record { store = typed.start_store P.objects; taken = 0; turns = turns }))) (main_same env model compute inputs functions fits.objects fits.bodies turns (main_number functions))
    ∙ ap (λ s. end_of_run (run_main env model compute inputs functions turns (main_number functions) (record { store = s; taken = 0; turns = turns }))) (store_same env model 0 env.objects fits.objects)
