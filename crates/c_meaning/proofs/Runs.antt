-- The laws of whole runs.
use Rattle.std.proofs.Common.{◌≡◌, ◌⊎◌, ℕ, zero, suc, ◌≤◌, true, List, [], ◌∷◌, ◌++◌, map, Option, Some, None, ℤ, slice_get, inl, inr, ⊎_elim, refl, ap, ◌∙◌, subst, arith}
use Rattle.lv_base.specs.declared.kind.Kind.{Kind}
use Rattle.lv_base.specs.declared.kind.Model.{Model}
use Rattle.lv_base.specs.declared.fault.ErrorKind.{ErrorKind}
use Rattle.c_tree.specs.Tree.{Ex, eName, eNumber, eLetter, eParen, eCall, eIndex, ePostfix, ePrefix, eSizeof, eCast, eBinary, eCond, eAssign, eComma, Parts, no_parts, parts_and, named, Initial, iNothing, iValue, iList, Decs, no_declarators, declarators_and, Declaration, declares, Head, head, ForStart, forDeclares, forExpr, ForHead, for_head, St, sDeclaration, sBlock, sEmpty, sExpr, sIf, sIfElse, sWhile, sSwitch, sDo, sFor, sCase, sDefault, sLabel, sGoto, sBreak, sContinue, sReturn, Sts, no_statements, statements_and, bBlock, bSkipped, tSkipped, tFunction, tDeclaration, tEmpty, Items, no_items, items_and}
use Rattle.c_run.specs.Run.{End, Error, Ended, NoInput, BadInput, Spent, Got, Value, Stop, Run, draw, Compute}
use Rattle.c_run.specs.Loops.{Start, Calls, bind_parameters}
use Rattle.c_run.proofs.Related.{Kept, then_next, enter_kept}
use Rattle.c_run.proofs.Relations.{More, IsSpentEnd, IsSpentGot, Follows, more_kept, more_draw, Alike, Beyond, alike_kept, alike_draw, Placed, AtPlace, placed_kept, placed_draw}
use Rattle.c_meaning.specs.Bindings.{Env}
use Rattle.c_meaning.specs.Program.{Function, functions_of, env_of, main_number, body_of, call_at, run_main, end_of_run}
use Rattle.c_meaning.specs.Places.{AtName, AtEach, AtEachPart, InOption, InInitial, InDeclarators, InDeclaration, InHead, InStart, InFor, InStatement, InStatements, InItems}
use Rattle.c_meaning.specs.Laws.{IsSpent, MoreTurns, DrawnInputs, ErrorPlaces}
use Rattle.c_meaning.proofs.Induction.{all_kept}

-- ---- What holds everywhere holds in each part

module _ (P : ℕ → Type 0) (all : (at : ℕ) → P at) where
  at_name : (e : Ex) → AtName P e
  at_name (eName n at) = all at
  at_name e = tt

  mutual
    at_each : (e : Ex) → AtEach P e
    at_each (eName n at) = tt
    at_each (eNumber v f at) = tt
    at_each (eLetter v at) = tt
    at_each (eParen a e b) = at_each e
    at_each (eCall f a es b) = (at_name f, at_parts es)
    at_each (eIndex a x i y) = (all x, at_each i)
    at_each (ePostfix e c at) = (all at, at_each e)
    at_each (ePrefix o at e) = (all at, at_each e)
    at_each (eSizeof at a ws b) = tt
    at_each (eCast a ws b e) = at_each e
    at_each (eBinary a o at b) = (all at, at_each a, at_each b)
    at_each (eCond c x a y b) = (at_each c, at_each a, at_each b)
    at_each (eAssign a o at b) = (all at, at_each a, at_each b)
    at_each (eComma es) = at_parts es

    at_parts : (es : Parts) → AtEachPart P es
    at_parts no_parts = tt
    at_parts (parts_and es c e) = (at_parts es, at_each e)

  in_option : (e : Option Ex) → InOption P e
  in_option None = tt
  in_option (Some e) = at_each e

  in_initial : (i : Initial) → InInitial P i
  in_initial iNothing = tt
  in_initial (iValue at e) = at_each e
  in_initial (iList at a es c b) = at_parts es

  in_declarators : (ds : Decs) → InDeclarators P ds
  in_declarators no_declarators = tt
  in_declarators (declarators_and ds c n f ats i) = (in_declarators ds, in_initial i)

  in_declaration : (d : Declaration) → InDeclaration P d
  in_declaration (declares ws ds b) = in_declarators ds

  in_head : (h : Head) → InHead P h
  in_head (head at a e b) = at_each e

  in_start : (s : ForStart) → InStart P s
  in_start (forDeclares d) = in_declaration d
  in_start (forExpr e at) = in_option e

  in_for : (h : ForHead) → InFor P h
  in_for (for_head at a start test x step b) = (in_start start, in_option test, in_option step)

  mutual
    in_statement : (s : St) → InStatement P s
    in_statement (sDeclaration d) = in_declaration d
    in_statement (sBlock a ss b) = in_statements ss
    in_statement (sEmpty at) = tt
    in_statement (sExpr e at) = at_each e
    in_statement (sIf h s) = (in_head h, in_statement s)
    in_statement (sIfElse h s at t) = (in_head h, in_statement s, in_statement t)
    in_statement (sWhile h s) = (in_head h, in_statement s)
    in_statement (sSwitch h s) = (in_head h, in_statement s)
    in_statement (sDo at s h b) = (in_head h, in_statement s)
    in_statement (sFor h s) = (in_for h, in_statement s)
    in_statement (sCase at e b s) = in_statement s
    in_statement (sDefault at b s) = in_statement s
    in_statement (sLabel n at b ats s) = in_statement s
    in_statement (sGoto at n x b) = tt
    in_statement (sBreak at b) = tt
    in_statement (sContinue at b) = tt
    in_statement (sReturn at e b) = in_option e

    in_statements : (ss : Sts) → InStatements P ss
    in_statements no_statements = tt
    in_statements (statements_and ss s) = (in_statements ss, in_statement s)

-- ---- Calls and runs

-- each body of a list of functions
abbrev InFunctions : (ℕ → Type 0) → List Function → Type 0
InFunctions P [] = Unit {0}
InFunctions P (f ∷ fs) = InStatements P f.body × InFunctions P fs

abbrev InFound : (ℕ → Type 0) → Option Function → Type 0
InFound P None = Unit {0}
InFound P (Some f) = InStatements P f.body

in_found : (P : ℕ → Type 0) (fs : List Function) (i : ℕ) → InFunctions P fs → InFound P (slice_get fs i)
in_found P [] i h = tt
in_found P (f ∷ fs) zero h = h.0
in_found P (f ∷ fs) (suc i) h = in_found P fs i h.1

in_more : (P : ℕ → Type 0) (fs : List Function) (f : Function) → InFunctions P fs → InStatements P f.body → InFunctions P (fs ++ f ∷ [])
in_more P [] f h x = (x, tt)
in_more P (g ∷ fs) f h x = (h.0, in_more P fs f h.1 x)

in_functions : (P : ℕ → Type 0) (env : Env) (items : Items) → InItems P items → InFunctions P (functions_of env items)
in_functions P env no_items h = tt
in_functions P env (items_and is (tFunction ws (named n at) ps ats (bBlock a ss b))) h = in_more P (functions_of env is) _ (in_functions P env is h.0) h.1
in_functions P env (items_and is (tFunction ws (named n at) ps ats (bSkipped a r b))) h = in_functions P env is h
in_functions P env (items_and is (tSkipped x at r b)) h = in_functions P env is h
in_functions P env (items_and is (tDeclaration d)) h = in_functions P env is h
in_functions P env (items_and is (tEmpty at)) h = in_functions P env is h

pub all_functions : (fs : List Function) → InFunctions (λ at. Unit {0}) fs
all_functions [] = tt
all_functions (f ∷ fs) = (in_statements (λ at. Unit {0}) (λ at. tt) f.body, all_functions fs)

module _ (R : (A : Type 0) → Run A → Run A → Type 0) (P : ℕ → Type 0) (k : Kept R P)
    (env : Env) (model : Model) (compute : Compute) (inputs inputs' : List ℤ) (functions : List Function) (placed : InFunctions P functions)
    (hd : (kind : Kind) → R ℤ (draw inputs model kind) (draw inputs' model kind)) where
  bound_kept : (objects : List ℕ) (vs : List ℤ) → R (Unit {0}) (bind_parameters objects vs) (bind_parameters objects vs)
  bound_kept [] vs = k.gives (Unit {0}) tt
  bound_kept (o ∷ os) [] = k.gives (Unit {0}) tt
  bound_kept (o ∷ os) (v ∷ vs) = then_next R P k (Unit {0}) _ _ _ _ (k.stores o (v ∷ [])) (bound_kept os vs)

  body_kept : (call call' : Calls) (n n' : ℕ) → n ≤ n' → ((f at : ℕ) (vs : List ℤ) → R (Option ℤ) (call f at vs) (call' f at vs)) → (f : Option Function) → InFound P f → (vs : List ℤ) →
      R (Option ℤ) (body_of env model compute inputs functions call n f vs) (body_of env model compute inputs' functions call' n' f vs)
  body_kept call call' n n' le hc None p vs = k.gives (Option ℤ) None
  body_kept call call' n n' le hc (Some f) p vs =
      then_next R P k (Option ℤ) _ _ _ _ (bound_kept f.parameters vs)
      (enter_kept R P k (suc n) (suc n') _ _ Start (omega (arith, le)) (λ from. all_kept R P k env model compute (map (λ g. g.name) functions) inputs inputs' call call' hd hc f.result n n' le f.body from p))

  calls_kept : (n n' : ℕ) → n ≤ n' → (f at : ℕ) (vs : List ℤ) → R (Option ℤ) (call_at env model compute inputs functions n f at vs) (call_at env model compute inputs' functions n' f at vs)
  calls_kept zero n' le f at vs = k.spends (Option ℤ) at _
  calls_kept (suc n) zero le f at vs = absurd (omega arith)
  calls_kept (suc n) (suc n') le f at vs =
      then_next R P k (Option ℤ) _ _ _ _ (k.turns at) (body_kept _ _ n n' (omega arith) (calls_kept n n' (omega arith)) (slice_get functions f) (in_found P functions f placed) vs)

  pub main_kept : (n n' : ℕ) → n ≤ n' → (main : Option ℕ) → R (Option ℤ) (run_main env model compute inputs functions n main) (run_main env model compute inputs' functions n' main)
  main_kept n n' le None = k.gives (Option ℤ) None
  main_kept n n' le (Some main) = body_kept _ _ n n' le (calls_kept n n' le) (slice_get functions main) (in_found P functions main placed) []

-- ---- The laws

ends_more : (g g' : Got (Option ℤ)) → IsSpentGot g ⊎ Follows g g' → IsSpent (end_of_run g) ⊎ (end_of_run g ≡ end_of_run g')
ends_more (Value v st) (Value w st') x = inr refl
ends_more (Value v st) (Stop e) x = ⊎_elim (λ h. absurd h) (λ h. absurd h) x
ends_more (Stop e) (Value w st') x = ⊎_elim (λ h. inl (spent_end e h)) (λ h. absurd h) x
  where
    spent_end : (e : End) → IsSpentEnd e → IsSpent e
    spent_end (Spent at store n) h = tt
    spent_end (Error kind at taken) h = absurd h
    spent_end Ended h = absurd h
    spent_end NoInput h = absurd h
    spent_end (BadInput n) h = absurd h
ends_more (Stop e) (Stop e') x = ⊎_elim (λ h. inl (spent_end e h)) (λ h. inr h) x
  where
    spent_end : (e : End) → IsSpentEnd e → IsSpent e
    spent_end (Spent at store n) h = tt
    spent_end (Error kind at taken) h = absurd h
    spent_end Ended h = absurd h
    spent_end NoInput h = absurd h
    spent_end (BadInput n) h = absurd h

pub more_turns : MoreTurns
more_turns compute items model inputs turns more le =
    let env = env_of items model in
    let functions = functions_of env items in
    ends_more _ _ (main_kept More (λ at. Unit {0}) more_kept env model compute inputs inputs functions (all_functions functions) (λ kind. more_draw inputs model kind) turns more le (main_number functions) _ _
    (record { store = refl; taken = refl; turns = le }))

not_beyond : (t : ℕ) (g g' : Got (Option ℤ)) (kind : ErrorKind) (at : ℕ) → Beyond t g ⊎ (g' ≡ g) → end_of_run g ≡ Error kind at t → end_of_run g' ≡ Error kind at t
not_beyond t (Value v st) g' kind at x h = cc
not_beyond t (Stop (Error l b u)) g' kind at x h =
    ⊎_elim (λ lt. absurd (omega (arith, lt, ap taken_of h))) (λ e. ap end_of_run e ∙ h) x
  where
    taken_of : End → ℕ
    taken_of (Error l b u) = u
    taken_of _ = 0
not_beyond t (Stop Ended) g' kind at x h = cc
not_beyond t (Stop NoInput) g' kind at x h = cc
not_beyond t (Stop (BadInput n)) g' kind at x h = cc
not_beyond t (Stop (Spent b s n)) g' kind at x h = cc

pub reflexive : (n : ℕ) → n ≤ n
reflexive n = omega arith

pub drawn_inputs : DrawnInputs
drawn_inputs compute items model turns inputs others kind at taken h same =
    let env = env_of items model in
    let functions = functions_of env items in
    not_beyond taken _ _ kind at
    ((main_kept (Alike taken) (λ at. Unit {0}) (alike_kept taken) env model compute inputs others functions (all_functions functions) (λ kind. alike_draw taken inputs others model kind same) turns turns (reflexive turns) (main_number functions)).same _)
    h

placed_end : (P : ℕ → Type 0) (g : Got (Option ℤ)) (kind : ErrorKind) (at taken : ℕ) → AtPlace P g → end_of_run g ≡ Error kind at taken → P at
placed_end P (Value v st) kind at taken p h = cc
placed_end P (Stop (Error l b u)) kind at taken p h = subst P (ap at_of h) p
  where
    at_of : End → ℕ
    at_of (Error l b u) = b
    at_of _ = 0
placed_end P (Stop Ended) kind at taken p h = cc
placed_end P (Stop NoInput) kind at taken p h = cc
placed_end P (Stop (BadInput n)) kind at taken p h = cc
placed_end P (Stop (Spent b s n)) kind at taken p h = cc

pub error_places : ErrorPlaces
error_places compute items model turns inputs kind at taken h test inside =
    let P : ℕ → Type 0 = λ place. test place ≡ true in
    let env = env_of items model in
    let functions = functions_of env items in
    placed_end P _ kind at taken
    (main_kept (Placed P) P (placed_kept P) env model compute inputs inputs functions (in_functions P env items inside) (λ kind. placed_draw P inputs model kind) turns turns (reflexive turns) (main_number functions) _)
    h
