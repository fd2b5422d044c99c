-- The typed tree of a source that breaks no rule, and whose tokens rise, keeps its facts.
use Rattle.std.proofs.Common.{◌≡◌, ℕ, zero, suc, ◌≤◌, ◌+◌, Bool, true, false, if◌then◌else◌, List, [], ◌∷◌, ◌++◌, length, map, append-nil, append_assoc, Option, None, Some, refl, ap, sym, ◌∙◌, subst, arith}
use Rattle.std.specs.Prelude.{slice_get}
use Rattle.std.proofs.lemmas.Bool.{eqb-true}
use Rattle.lv_base.specs.declared.kind.Model.{Model}
use Rattle.c_run.specs.Breaking.{Broken}
use Rattle.c_tree.specs.declared.symbol.SymbolAt.{SymbolAt}
use Rattle.c_tree.specs.declared.symbol.Symbol.{Symbol}
use Rattle.c_tree.specs.declared.symbol.Symbol.TheVariants as sy
use Rattle.c_tree.specs.Symbols.{sign, signs_of}
use Rattle.c_tree.specs.Denotes.{spelling, tree_of}
use Rattle.c_tree.specs.Tree as t
use Rattle.c_tree.specs.Shape as sh
use Rattle.c_tree.specs.Shape.{ShapedItems}
use Rattle.c_meaning.specs.Tokens.{open_of, close_of}
use Rattle.c_meaning.specs.Scope as s
use Rattle.c_meaning.specs.Bindings.{Env, Object, kind_in, words_type}
use Rattle.c_meaning.specs.Constants as c
use Rattle.c_meaning.specs.Good.{or_control}
use Rattle.c_meaning.specs.Jumps.{all_of_all}
use Rattle.c_meaning.specs.Program.{Function, functions_of, env_of}
use Rattle.c_meaning.specs.Rules as rules
use Rattle.c_typed.specs.Tree as v
use Rattle.c_typed.specs.Facts as facts
use Rattle.c_types.specs.Elaborated as el
use Rattle.elaboration_fit_laws.specs.Holds.{StatementsHold, BodiesHold}
use Rattle.elaboration_fit_laws.proofs.Fitting.{nil_left, nil_right}
use Rattle.elaboration_fit_laws.proofs.Knowing.{right_of}
use Rattle.elaboration_main_laws.specs.Laws.{MainFound}
use Rattle.elaboration_offset_laws.specs.Laws.{HasLetter, HaveLetters, SourcesHold, ObjectsTyped, ParametersTyped, ParametersFit}
use Rattle.elaboration_offset_laws.specs.Rising.{Rises}
use Rattle.elaboration_offset_laws.proofs.Files.{body_shaped, placed_items}
use Rattle.elaboration_offset_laws.proofs.Finding.{AllFound, all_found}
use Rattle.elaboration_offset_laws.proofs.Growing.{AllNumbered, step_of, next_numbered, grown}
use Rattle.elaboration_offset_laws.proofs.Keeping.{all_kept}
use Rattle.elaboration_offset_laws.proofs.Lying.{Known, Distinct, within}
use Rattle.elaboration_offset_laws.proofs.Naming.{named_items}
use Rattle.elaboration_offset_laws.proofs.Owning.{bodies_counted}
use Rattle.elaboration_offset_laws.proofs.Statements.{read_items}
use Rattle.elaboration_offset_laws.proofs.Whole.{up_to}
use Rattle.elaboration_source_laws.specs.Laws.{TokensRise}
use Rattle.elaboration_body_laws.specs.Held.{HeldIn, BodiesHeld, HeldSymbol, HeldSigns}
use Rattle.elaboration_body_laws.specs.Laws.{SourcesTyped, ProgramsTyped}
use Rattle.elaboration_body_laws.specs.Short.{AreShort}
use Rattle.elaboration_body_laws.specs.Told.{IsShort, Told}
use Rattle.elaboration_body_laws.proofs.Bodies.{AllStand, stand_left, stand_right, statements_fit}
use Rattle.elaboration_body_laws.proofs.Entries.{all_at, all_for, all_stand}
use Rattle.elaboration_body_laws.proofs.Numbers.{held_items}
use Rattle.elaboration_body_laws.proofs.Owned.{Facts, functions_own, constants_fit, known_right, calls_told, objects_there, lengths_fit}
use Rattle.elaboration_body_laws.proofs.Rights.{AllRightly, all_right}
use Rattle.elaboration_body_laws.proofs.Spans.{spread_items}
use Rattle.elaboration_body_laws.proofs.Tokens.{tokens_held}

-- ---- Short objects

length_short : (l : Option ℕ) → el.length_of l ≤ 1024 → IsShort l
length_short None h = tt
length_short (Some n) h = h

one_of : (x y : Object) → Some x ≡ Some y → x ≡ y
one_of x y e = cc

short_at : (env : Env) (model : Model) (number : ℕ) (os : List Object) → AreShort (el.objects_from env model number os) → (n : ℕ) (o : Object) → slice_get os n ≡ Some o → IsShort o.length
short_at env model number [] h zero o e = cc
short_at env model number [] h (suc n) o e = cc
short_at env model number (x ∷ os) h zero o e = subst (λ p. IsShort p.length) (one_of x o e) (length_short x.length h.0)
short_at env model number (x ∷ os) h (suc n) o e = short_at env model (suc number) os h.1 n o e

-- ---- Names with letters

letter_of : (model : Model) (x : Symbol) → HeldSymbol model x → HasLetter x
letter_of model (sy.Name n) h = h
letter_of model x h = tt

letters_of : (model : Model) (tokens : List SymbolAt) → HeldSigns model tokens → HaveLetters tokens
letters_of model [] h = tt
letters_of model (x ∷ tokens) h = (letter_of model x.symbol h.0, letters_of model tokens h.1)

-- ---- Numbers of objects

all_numbered : (model : Model) (env : Env) (ds : List s.Declared) → AllNumbered (length env.objects) env.entries → AllNumbered (length (c.bind_from model env ds).objects) (c.bind_from model env ds).entries
all_numbered model env [] k = k
all_numbered model env (d ∷ ds) k = all_numbered model (c.declare model env d d.what) ds (next_numbered model env d d.what _ (step_of model env d d.what k) k)

-- ---- Bodies

hold_front : (env : Env) (fs : List Function) (g : Function) → BodiesHold env (fs ++ g ∷ []) → BodiesHold env fs
hold_front env [] g h = tt
hold_front env (x ∷ fs) g h = (h.0, hold_front env fs g h.1)

hold_last : (env : Env) (fs : List Function) (g : Function) → BodiesHold env (fs ++ g ∷ []) → StatementsHold env g.body
hold_last env [] g h = h.0
hold_last env (x ∷ fs) g h = hold_last env fs g h.1

held_front : (model : Model) (fs : List Function) (g : Function) → BodiesHeld model (fs ++ g ∷ []) → BodiesHeld model fs
held_front model [] g h = tt
held_front model (x ∷ fs) g h = (h.0, held_front model fs g h.1)

held_last : (model : Model) (fs : List Function) (g : Function) → BodiesHeld model (fs ++ g ∷ []) → HeldIn model (all_of_all g.body)
held_last model [] g h = h.0
held_last model (x ∷ fs) g h = held_last model fs g h.1

module _ (env : Env) (model : Model) (names : List (List ℕ)) (functions : List v.Function) (told : Told env model names functions) where
  abbrev objects : List v.Object
  objects = el.objects_from env model 0 env.objects

  abbrev BodyFits : ℕ → Function → Type 0
  BodyFits number g = facts.StepsFit model objects functions number g.result (el.steps env model names g.result g.body)

  -- those of the source's functions, the first of which has this number
  abbrev Fit : ℕ → List Function → Type 0
  Fit number [] = Unit {0}
  Fit number (g ∷ gs) = BodyFits number g × Fit (number + 1) gs

  fit_more : (number last : ℕ) (gs : List Function) (g : Function) → number + length gs ≡ last → Fit number gs → BodyFits last g → Fit number (gs ++ g ∷ [])
  fit_more number last [] g e h k =
      let same : last ≡ number = omega (arith, e) in
      (subst (λ m. BodyFits m g) same k, tt)
  fit_more number last (x ∷ gs) g e h k = (h.0, fit_more (number + 1) last gs g (omega (arith, e)) h.1 k)

  bodies_fit : (whole : List s.Declared) → AllStand env whole → (is : t.Items) (after : List s.Declared) → whole ≡ s.in_items is ++ after → ShapedItems is → BodiesHold env (functions_of env is) → BodiesHeld model (functions_of env is) →
      rules.faults_of_items env model names is ≡ [] → Fit 0 (functions_of env is)
  bodies_fit whole stand t.no_items after e w u g l = tt
  bodies_fit whole stand (t.items_and is (t.tSkipped x at r b)) after e w u g l = bodies_fit whole stand is after e w.0 u g (nil_left _ _ l)
  bodies_fit whole stand (t.items_and is (t.tEmpty at)) after e w u g l = bodies_fit whole stand is after e w.0 u g (nil_left _ _ l)
  bodies_fit whole stand (t.items_and is (t.tDeclaration d)) after e w u g l =
      bodies_fit whole stand is (s.in_declaration s.file None d ++ after) (e ∙ append_assoc (s.in_items is) (s.in_declaration s.file None d) after) w.0 u g (nil_left _ _ l)
  bodies_fit whole stand (t.items_and is (t.tFunction ws (t.named n at) ps ats (t.bSkipped x r z))) after e w u g l =
      let mine = s.in_function (s.count_bodies is) ws n at ps (t.bSkipped x r z) in
      bodies_fit whole stand is (mine ++ after) (e ∙ append_assoc (s.in_items is) mine after) w.0 u g (nil_left _ _ l)
  bodies_fit whole stand (t.items_and is (t.tFunction ws (t.named n at) ps ats (t.bBlock x ss z))) after e w u g l =
      let number = s.count_bodies is in
      let scope = s.block (open_of ps) z in
      let mine = s.in_function number ws n at ps (t.bBlock x ss z) in
      let same = e ∙ append_assoc (s.in_items is) mine after in
      let words = s.in_words s.file None ws in
      let own = s.in_parameters scope (Some number) ps in
      let body = s.in_statements (Some number) scope ss in
      let d = s.declared s.file None n at (close_of ps) (s.aFunction ws ps true) in
      let there = stand_left env mine after (stand_right env (s.in_items is) (mine ++ after) (subst (AllStand env) same stand)) in
      let lines = nil_right (rules.faults_of_words env model names ws ++ rules.faults_of_parameters env model names ps) _ (nil_right (rules.faults_of_items env model names is) _ l) in
      fit_more 0 number (functions_of env is) _ (let q = bodies_counted env is in omega (arith, q))
      (bodies_fit whole stand is (mine ++ after) same w.0 (hold_front env (functions_of env is) _ u) (held_front model (functions_of env is) _ g) (nil_left _ _ l))
      (statements_fit env model names functions told number (kind_in (words_type env ws)) scope refl ss (sh.file_names is) (body_shaped _ (sh.file_names is) x z ss w.1.0.body)
      (hold_last env (functions_of env is) _ u) (held_last model (functions_of env is) _ g) lines (stand_right env (words ++ own ++ d ∷ []) body there))

  functions_fit : (number : ℕ) (gs : List Function) → ParametersFit model objects functions number (map (el.function_of env model names) gs) → Fit number gs → facts.FunctionsFit model objects functions number (map (el.function_of env model names) gs)
  functions_fit number [] h k = tt
  functions_fit number (g ∷ gs) h k = (record { parameters = h.0; body = k.0 }, functions_fit (number + 1) gs h.1 k.1)

pub sources_typed_are : SourcesHold → ObjectsTyped → ParametersTyped → MainFound → SourcesTyped
sources_typed_are holds typed parameters main tokens items model spelled rises held right short =
    let env = env_of items model in
    let fs = functions_of env items in
    let names = map (λ g. g.name) fs in
    let functions = map (el.function_of env model names) fs in
    let f : Known = record { env = env; model = model; bodies = names } in
    let end = spelled.end in
    let last = sign sy.End end ∷ [] in
    let up = up_to (spelling items end) 0 (subst (Rises 0) (sym spelled.spelled) rises) in
    let read = read_items up.0 items last 0 up.1 in
    let letters = letters_of model tokens held in
    let numbers = held_items model env items last (subst (HeldSigns model) (sym spelled.spelled) held) in
    let named = named_items items last (subst HaveLetters (sym spelled.spelled) letters) in
    let front = nil_left (rules.faults_of_items env model names items ++ rules.redeclared env model names [] env.entries) _ right in
    let items_right = nil_left (rules.faults_of_items env model names items) _ front in
    let declared_right = nil_right (rules.faults_of_items env model names items) _ front in
    let p = placed_items f items 0 end spelled.shaped read.0 items_right in
    let ds = s.in_items items in
    let g = grown model c.no_names ds tt in
    let declares : map (λ e. e.declared) env.entries ≡ ds = ap (map (λ e. e.declared)) g.entries ∙ g.declares in
    let at = all_at env [] env.entries refl tt (subst Distinct (sym declares) p.apart) in
    let for_all = all_for model c.no_names ds tt in
    let rightly = all_right f c.no_names ds refl tt tt p.apart (spread_items f items 0 end [] spelled.shaped read.0 numbers.1 items_right tt) in
    let known : Facts f = record { right = declared_right; at = at; for = for_all; rightly = subst (AllRightly f) (sym declares) rightly } in
    let hold = holds tokens items model spelled rises right in
    let own = functions_own f functions ds declares rightly items [] (sym (append-nil ds)) numbers.1 in
    let told : Told env model names functions = record {
      takes = hold.takes;
      known = known_right f known (right_of env model names [] env.entries declared_right);
      there = objects_there env (all_numbered model c.no_names ds tt);
      arrays = (λ number o e. (lengths_fit env.objects number o hold.objects e, short_at env model 0 env.objects short number o e));
      constants = constants_fit f known;
      called = calls_told f known names fs own;
    } in
    let kept = all_kept f declared_right (within 0 end) true 0 end c.no_names ds refl tt tt named.0 p.lie p.apart in
    let found = all_found model c.no_names env ds refl tt tt p.apart in
    let stand = subst (AllStand env) declares (all_stand f env.entries at kept for_all (subst (AllFound env) (sym declares) found)) in
    record {
      objects = typed tokens items model spelled rises letters right;
      functions = functions_fit env model names functions told 0 fs (parameters tokens items model spelled rises right)
          (bodies_fit env model names functions told ds stand items [] (sym (append-nil ds)) spelled.shaped hold.bodies numbers.0 items_right);
      main = main items model right;
    }

-- ---- From the bytes on

or_left : (xs ys : List Broken) → or_control xs ys ≡ [] → xs ≡ []
or_left [] ys h = refl
or_left (x ∷ xs) ys h = cc

pub programs_typed_are : TokensRise → SourcesTyped → ProgramsTyped
programs_typed_are rise typed source list tree model tokens denotes good short =
    typed (signs_of list) (tree_of tree) model denotes (rise source list tokens) (tokens_held model source list tokens) (or_left _ _ good) short
