-- The parameters of the typed tree's functions are scalars of them.
use Rattle.std.proofs.Common.{◌≡◌, ℕ, zero, suc, ◌+◌, true, List, [], ◌∷◌, ◌++◌, length, map, append-nil, append_assoc, None, Some, refl, sym, ap, ◌∙◌, subst, arith}
use Rattle.std.specs.Prelude.{slice_get, All}
use Rattle.std.proofs.lemmas.List.Elements.{All-nil, All-cons, All-append}
use Rattle.lv_base.specs.declared.kind.Model.{Model}
use Rattle.c_tree.specs.declared.symbol.Symbol.TheVariants as sy
use Rattle.c_tree.specs.Symbols.{sign}
use Rattle.c_tree.specs.Denotes.{spelling}
use Rattle.c_tree.specs.Tree as t
use Rattle.c_meaning.specs.Tokens.{open_of, close_of, first_of_words}
use Rattle.c_meaning.specs.Scope as s
use Rattle.c_meaning.specs.Bindings.{Env, Object, object_number}
use Rattle.c_meaning.specs.Constants as c
use Rattle.c_meaning.specs.Program.{Function, functions_of, env_of, number_at, params_numbers, parameter_numbers, start_values}
use Rattle.c_meaning.specs.Rules as rules
use Rattle.c_typed.specs.Tree as typed
use Rattle.c_typed.specs.Facts.{IsParameter}
use Rattle.c_types.specs.Elaborated.{length_of, owner_of, first_of, objects_from, function_of}
use Rattle.elaboration_offset_laws.specs.Rising.{Rises}
use Rattle.elaboration_offset_laws.specs.Laws.{ParametersFit, ParametersTyped}
use Rattle.elaboration_offset_laws.proofs.Logic.{nil_left}
use Rattle.elaboration_offset_laws.proofs.Statements.{read_items}
use Rattle.elaboration_offset_laws.proofs.Lying.{Known}
use Rattle.elaboration_offset_laws.proofs.Files.{placed_items}
use Rattle.elaboration_offset_laws.proofs.Finding.{FoundAt, AllFound, found_left, found_right, all_found}
use Rattle.elaboration_offset_laws.proofs.Whole.{up_to}
use Rattle.elaboration_offset_laws.proofs.Owning.{bodies_counted}

module _ (env : Env) (model : Model) (functions : List typed.Function) where
  abbrev pub all : List typed.Object
  all = objects_from env model 0 env.objects

  abbrev pub typed_of : ℕ → Object → typed.Object
  typed_of number o = record { name = o.name; at = o.at; kind = o.kind; length = length_of o.length; owner = owner_of o.owner; first = first_of o.owner (start_values env model number o) }

  pub typed_there : (number : ℕ) (os : List Object) (n : ℕ) (o : Object) → slice_get os n ≡ Some o → slice_get (objects_from env model number os) n ≡ Some (typed_of (number + n) o)
  typed_there number [] zero o h = cc
  typed_there number [] (suc n) o h = cc
  typed_there number (x ∷ os) zero o h =
      let same : x ≡ o = cc in
      let e : number ≡ number + 0 = omega arith in
      ap (λ y. Some (typed_of number y)) same ∙ ap (λ m. Some (typed_of m o)) e
  typed_there number (x ∷ os) (suc n) o h =
      let e : suc number + n ≡ number + suc n = omega arith in
      typed_there (suc number) os n o h ∙ ap (λ m. Some (typed_of m o)) e

  is_parameter : (at number : ℕ) (r : FoundAt env at (Some number)) → r.told.length ≡ None → IsParameter model all functions number r.number
  is_parameter at number r h =
      record {
        told = typed_of (0 + r.number) r.told;
        there = typed_there 0 env.objects r.number r.told r.there;
        owned = ap owner_of r.owned;
        scalar = ap length_of h;
      }

  number_fits : (at number : ℕ) (r : FoundAt env at (Some number)) → r.told.length ≡ None → All (IsParameter model all functions number) (number_at env at)
  number_fits at number r h =
      let e : number_at env at ≡ r.number ∷ [] = ap (λ x. elim (object_number x) [ None ↦ [] | Some m ↦ m ∷ [] ]) r.declared in
      subst (All (IsParameter model all functions number)) (sym e)
      (All-cons (IsParameter model all functions number) r.number [] (is_parameter at number r h) (All-nil (IsParameter model all functions number)))

  params_fit : (scope : s.Scope) (number : ℕ) (ps : t.Params) → AllFound env (s.in_params scope (Some number) ps) → All (IsParameter model all functions number) (params_numbers env ps)
  params_fit scope number t.no_params h = All-nil (IsParameter model all functions number)
  params_fit scope number (t.params_and ps x ws None) h =
      let front = s.in_params scope (Some number) ps ++ s.in_words scope (Some number) ws in
      let d = s.declared scope (Some number) [] (first_of_words ws) (first_of_words ws) (s.aParameter ws) in
      let own = found_right env front (d ∷ []) h in
      let fore = found_left env front (d ∷ []) h in
      All-append (IsParameter model all functions number) (params_numbers env ps) (number_at env (first_of_words ws))
      (params_fit scope number ps (found_left env (s.in_params scope (Some number) ps) (s.in_words scope (Some number) ws) fore)) (number_fits (first_of_words ws) number own.0.0 own.0.1)
  params_fit scope number (t.params_and ps x ws (Some (t.named n at))) h =
      let front = s.in_params scope (Some number) ps ++ s.in_words scope (Some number) ws in
      let d = s.declared scope (Some number) n at at (s.aParameter ws) in
      let own = found_right env front (d ∷ []) h in
      let fore = found_left env front (d ∷ []) h in
      All-append (IsParameter model all functions number) (params_numbers env ps) (number_at env at)
      (params_fit scope number ps (found_left env (s.in_params scope (Some number) ps) (s.in_words scope (Some number) ws) fore)) (number_fits at number own.0.0 own.0.1)

  parameters_fit : (scope : s.Scope) (number : ℕ) (ps : t.Parameters) → AllFound env (s.in_parameters scope (Some number) ps) → All (IsParameter model all functions number) (parameter_numbers env ps)
  parameters_fit scope number (t.pUnknown a b) h = All-nil (IsParameter model all functions number)
  parameters_fit scope number (t.pVoid a at b) h = All-nil (IsParameter model all functions number)
  parameters_fit scope number (t.pSome a ps b) h = params_fit scope number ps h

  -- those of the source's functions, the first of which has this number
  abbrev Fit : ℕ → List Function → Type 0
  Fit number [] = Unit {0}
  Fit number (g ∷ gs) = All (IsParameter model all functions number) g.parameters × Fit (number + 1) gs

  fit_more : (number last : ℕ) (gs : List Function) (g : Function) → number + length gs ≡ last → Fit number gs → All (IsParameter model all functions last) g.parameters → Fit number (gs ++ g ∷ [])
  fit_more number last [] g e h k =
      let same : last ≡ number = omega (arith, e) in
      (subst (λ m. All (IsParameter model all functions m) g.parameters) same k, tt)
  fit_more number last (x ∷ gs) g e h k = (h.0, fit_more (number + 1) last gs g (omega (arith, e)) h.1 k)

  functions_fit : (whole : List s.Declared) → AllFound env whole → (is : t.Items) (after : List s.Declared) → whole ≡ s.in_items is ++ after → Fit 0 (functions_of env is)
  functions_fit whole found t.no_items after e = tt
  functions_fit whole found (t.items_and is (t.tSkipped x at r b)) after e = functions_fit whole found is after e
  functions_fit whole found (t.items_and is (t.tEmpty at)) after e = functions_fit whole found is after e
  functions_fit whole found (t.items_and is (t.tDeclaration d)) after e =
      functions_fit whole found is (s.in_declaration s.file None d ++ after) (e ∙ append_assoc (s.in_items is) (s.in_declaration s.file None d) after)
  functions_fit whole found (t.items_and is (t.tFunction ws (t.named n at) ps ats (t.bSkipped x r z))) after e =
      let mine = s.in_function (s.count_bodies is) ws n at ps (t.bSkipped x r z) in
      functions_fit whole found is (mine ++ after) (e ∙ append_assoc (s.in_items is) mine after)
  functions_fit whole found (t.items_and is (t.tFunction ws (t.named n at) ps ats (t.bBlock x ss z))) after e =
      let number = s.count_bodies is in
      let scope = s.block (open_of ps) z in
      let mine = s.in_function number ws n at ps (t.bBlock x ss z) in
      let same = e ∙ append_assoc (s.in_items is) mine after in
      let words = s.in_words s.file None ws in
      let own = s.in_parameters scope (Some number) ps in
      let d = s.declared s.file None n at (close_of ps) (s.aFunction ws ps true) in
      let there = found_left env mine after (found_right env (s.in_items is) (mine ++ after) (subst (AllFound env) same found)) in
      let head = found_left env (words ++ own) (d ∷ []) (found_left env (words ++ own ++ d ∷ []) (s.in_statements (Some number) scope ss) there) in
      fit_more 0 number (functions_of env is) _ (let l = bodies_counted env is in omega (arith, l))
      (functions_fit whole found is (mine ++ after) same) (parameters_fit scope number ps (found_right env words own head))

  typed_fit : (names : List (List ℕ)) (number : ℕ) (gs : List Function) → Fit number gs → ParametersFit model all functions number (map (function_of env model names) gs)
  typed_fit names number [] h = tt
  typed_fit names number (g ∷ gs) h = (h.0, typed_fit names (number + 1) gs h.1)

pub parameters_typed_are : ParametersTyped
parameters_typed_are tokens items model spelled rises h =
    let env = env_of items model in
    let fs = functions_of env items in
    let names = map (λ g. g.name) fs in
    let f : Known = record { env = env; model = model; bodies = names } in
    let end = spelled.end in
    let up = up_to (spelling items end) 0 (subst (Rises 0) (sym spelled.spelled) rises) in
    let read = read_items up.0 items (sign sy.End end ∷ []) 0 up.1 in
    let front = nil_left (rules.faults_of_items env model names items ++ rules.redeclared env model names [] env.entries) _ h in
    let p = placed_items f items 0 end spelled.shaped read.0 (nil_left (rules.faults_of_items env model names items) _ front) in
    let ds = s.in_items items in
    typed_fit env model (map (function_of env model names) fs) names 0 fs
    (functions_fit env model (map (function_of env model names) fs) ds (all_found model c.no_names env ds refl tt tt p.apart) items [] (sym (append-nil ds)))
