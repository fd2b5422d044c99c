-- Each step of a typed body that breaks no rule keeps its facts.
use Rattle.std.proofs.Common.{◌≡◌, ℕ, zero, suc, ◌<◌, ◌≤◌, ◌+◌, Bool, true, false, if◌then◌else◌, List, [], ◌∷◌, ◌++◌, Option, None, Some, refl, ap, sym, subst, arith}
use Rattle.std.specs.Prelude.{slice_get, nat_eq}
use Rattle.std.proofs.lemmas.Bool.{ne_eqb}
use Rattle.lv_base.specs.declared.kind.Kind.{Kind}
use Rattle.lv_base.specs.declared.kind.Model.{Model}
use Rattle.c_tree.specs.Tree as t
use Rattle.c_tree.specs.declared.known.Site.{Site}
use Rattle.c_tree.specs.declared.known.Site.TheVariants as site
use Rattle.c_tree.specs.declared.known.Known.{Known as Words}
use Rattle.c_tree.specs.Shape as sh
use Rattle.c_tree.specs.Shape.{ShapedInitial, ShapedDeclarators, ShapedDeclaration, ShapedForStart, ShapedStatement, ShapedStatements, are_no_parts}
use Rattle.c_meaning.specs.Jumps.{all_parts, all_option, all_initial, all_declarators, all_declaration, all_start, all_expressions, all_of_all}
use Rattle.c_meaning.specs.Kinds.{kind_of}
use Rattle.c_meaning.specs.Tokens.{count_parts, end_of}
use Rattle.c_meaning.specs.Types.{type_of}
use Rattle.c_meaning.specs.Scope as s
use Rattle.c_meaning.specs.Bindings.{Env, Object, anObjectOf, object_number, declared_at, kind_of_object}
use Rattle.c_meaning.specs.Rules as rules
use Rattle.c_typed.specs.Tree as v
use Rattle.c_typed.specs.Facts as facts
use Rattle.c_types.specs.Elaborated as el
use Rattle.elaboration_fit_laws.specs.Laws.{Unnamed, AllUnnamed}
use Rattle.elaboration_fit_laws.specs.Holds.{OptionHolds, InitialHolds, DeclaratorsHold, DeclarationHolds, StartHolds, StatementHolds, StatementsHold}
use Rattle.elaboration_fit_laws.proofs.Fitting.{nil_left, nil_right, unless_parts, unless_lines}
use Rattle.elaboration_offset_laws.proofs.Growing.{if_false}
use Rattle.elaboration_offset_laws.proofs.Objects.{Fitting}
use Rattle.elaboration_offset_laws.proofs.Parameters.{typed_of, typed_there}
use Rattle.elaboration_body_laws.specs.Held.{Held, AllHeld, HeldIn}
use Rattle.elaboration_body_laws.specs.Told.{Told}
use Rattle.elaboration_body_laws.proofs.Agreeing.{promoted_right}
use Rattle.elaboration_body_laws.proofs.Values.{value_fits, has_kind}

-- ---- Declarations that stand where they are looked for

-- what is declared in a function is an object of it with room for its initial value; a typedef or a function is none
abbrev pub StandsAs : Env → ℕ → Option ℕ → s.What → Bool → Type 0
StandsAs env at owner (s.anObject ws f i) false = (n : ℕ) × (o : Object) × (declared_at env at ≡ anObjectOf n) × (slice_get env.objects n ≡ Some o) × (o.owner ≡ owner) × Fitting o.length i
StandsAs env at owner (s.aTypedef ws) b = object_number (declared_at env at) ≡ None
StandsAs env at owner (s.aFunction ws ps y) b = object_number (declared_at env at) ≡ None
StandsAs env at owner w b = Unit {0}

abbrev pub AllStand : Env → List s.Declared → Type 0
AllStand env [] = Unit {0}
AllStand env (d ∷ ds) = StandsAs env d.at d.owner d.what (s.is_file d.scope) × AllStand env ds

pub stand_left : (env : Env) (xs ys : List s.Declared) → AllStand env (xs ++ ys) → AllStand env xs
stand_left env [] ys h = tt
stand_left env (x ∷ xs) ys h = (h.0, stand_left env xs ys h.1)

pub stand_right : (env : Env) (xs ys : List s.Declared) → AllStand env (xs ++ ys) → AllStand env ys
stand_right env [] ys h = h
stand_right env (x ∷ xs) ys h = stand_right env xs ys h.1

last_stands : (env : Env) (xs : List s.Declared) (d : s.Declared) → AllStand env (xs ++ d ∷ []) → StandsAs env d.at d.owner d.what (s.is_file d.scope)
last_stands env xs d r = let q = stand_right env xs (d ∷ []) r in q.0

-- ---- Lists of expressions

held_left : (model : Model) (xs ys : List t.Ex) → HeldIn model (xs ++ ys) → HeldIn model xs
held_left model [] ys h = tt
held_left model (x ∷ xs) ys h = (h.0, held_left model xs ys h.1)

held_right : (model : Model) (xs ys : List t.Ex) → HeldIn model (xs ++ ys) → HeldIn model ys
held_right model [] ys h = h
held_right model (x ∷ xs) ys h = held_right model xs ys h.1

parts_held : (model : Model) (es : t.Parts) → HeldIn model (all_parts es) → AllHeld model es
parts_held model t.no_parts h = tt
parts_held model (t.parts_and es c e) h = let q = held_right model (all_parts es) (e ∷ []) h in (parts_held model es (held_left model (all_parts es) (e ∷ []) h), q.0)

-- ---- Sizes

some_size : (l : ℕ) → 1 ≤ (if nat_eq l 0 then 1 else l)
some_size zero = omega arith
some_size (suc l) = subst (λ x. 1 ≤ x) (sym (if_false (nat_eq (suc l) 0) 1 (suc l) (ne_eqb (suc l) 0 (λ e. omega (arith, e))))) (omega arith)

as_size : (l : ℕ) (n : ℕ) → n ≤ l → 0 < n → n ≤ (if nat_eq l 0 then 1 else l)
as_size zero n h k = omega (arith, h)
as_size (suc l) n h k = subst (λ x. n ≤ x) (sym (if_false (nat_eq (suc l) 0) 1 (suc l) (ne_eqb (suc l) 0 (λ e. omega (arith, e))))) h

some_parts : (es : t.Parts) → are_no_parts es ≡ false → 0 < count_parts es
some_parts t.no_parts h = cc
some_parts (t.parts_and es c e) h = omega arith

module _ (env : Env) (model : Model) (bodies : List (List ℕ)) (functions : List v.Function) (told : Told env model bodies functions) where
  abbrev objects : List v.Object
  objects = el.objects_from env model 0 env.objects

  abbrev W : t.Ex → v.Val
  W e = el.value env model bodies e

  abbrev FitsHere : v.Val → Type 0
  FitsHere w = facts.Fits model objects functions w

  valued : (e : t.Ex) → Unnamed env e → Held model e → rules.faults_of_value env model bodies e ≡ [] → facts.HasKind (W e) × FitsHere (W e)
  valued e u g h =
      let p = unless_parts (rules.faults env model bodies e) _ h in
      (has_kind env model bodies functions told e u p (unless_lines (rules.faults env model bodies e) _ h), value_fits env model bodies functions told e u g p)

  -- ---- Initial values

  values_as_of : (k : Kind) (es : t.Parts) → AllUnnamed env es → AllHeld model es → rules.faults_of_firsts env model bodies false es ≡ [] → facts.AllOf model objects functions k (el.values_as env model bodies k es)
  values_as_of k t.no_parts u g h = tt
  values_as_of k (t.parts_and es c e) u g h = (values_as_of k es u.0 g.0 (nil_left _ _ h), refl, valued e u.1 g.1 (nil_right (rules.faults_of_firsts env model bodies false es) _ h))

  values_counted : (k : Kind) (es : t.Parts) → facts.count model objects functions (el.values_as env model bodies k es) ≡ count_parts es
  values_counted k t.no_parts = refl
  values_counted k (t.parts_and es c e) = let q = values_counted k es in omega (arith, q)

  module _ (number : ℕ) (result : Option Kind) where
    abbrev StepsFitHere : v.Steps → Type 0
    StepsFitHere ss = facts.StepsFit model objects functions number result ss

    list_fits : (ss : v.Steps) (z a : ℕ) (es : t.Parts) (c : Option ℕ) (b : ℕ) (n : ℕ) (o : Object) (l : Option ℕ) → o.length ≡ l → slice_get env.objects n ≡ Some o → o.owner ≡ Some number → Fitting l (t.iList z a es c b) →
        0 < count_parts es → AllUnnamed env es → AllHeld model es → rules.faults_of_firsts env model bodies false es ≡ [] → StepsFitHere ss → StepsFitHere (el.beginning env model bodies ss (t.iList z a es c b) (Some n))
    list_fits ss z a es c b n o None e h w q some u g l r = absurd q
    list_fits ss z a es c b n o (Some m) e h w q some u g l r =
        let k = el.object_kind env model bodies n in
        let counted = values_counted k es in
        let same : k ≡ o.kind = ap kind_of_object h in (
          r,
          record {
            told = typed_of env model functions (0 + n) o;
            there = typed_there env model functions 0 env.objects n o h;
            owned = ap el.owner_of w;
            enough = subst (λ x. facts.count model objects functions (el.values_as env model bodies k es) ≤ (if nat_eq (el.length_of x) 0 then 1 else el.length_of x)) (sym e)
                (subst (λ x. x ≤ (if nat_eq m 0 then 1 else m)) (sym counted) (as_size m (count_parts es) q some));
            some = subst (λ x. 0 < x) (sym counted) some;
            values = subst (λ x. facts.AllOf model objects functions x (el.values_as env model bodies k es)) same (values_as_of k es u g l);
          },
        )

    value_begins : (ss : v.Steps) (z : ℕ) (e : t.Ex) (n : ℕ) (o : Object) → slice_get env.objects n ≡ Some o → o.owner ≡ Some number → Unnamed env e → Held model e → rules.faults_of_value env model bodies e ≡ [] →
        StepsFitHere ss → StepsFitHere (el.beginning env model bodies ss (t.iValue z e) (Some n))
    value_begins ss z e n o h w u g l r =
        let k = el.object_kind env model bodies n in
        let same : k ≡ o.kind = ap kind_of_object h in (
          r,
          record {
            told = typed_of env model functions (0 + n) o;
            there = typed_there env model functions 0 env.objects n o h;
            owned = ap el.owner_of w;
            enough = some_size (el.length_of o.length);
            some = omega arith;
            values = subst (λ x. facts.AllOf model objects functions x (v.values_and v.no_values (v.vConvert k (W e)))) same (tt, refl, valued e u g l);
          },
        )

    begins : (names : List (List ℕ)) (ws : t.Words) (f : t.Form) (i : t.Initial) (ss : v.Steps) (n : ℕ) (o : Object) → slice_get env.objects n ≡ Some o → o.owner ≡ Some number → Fitting o.length i →
        ShapedInitial names i → (x : Option ℕ) → InitialHolds env i x → HeldIn model (all_initial i) → rules.faults_of_initial env model bodies false f i ≡ [] → StepsFitHere ss → StepsFitHere (el.beginning env model bodies ss i (Some n))
    begins names ws f t.iNothing ss n o h w q d x u g l r =
        (r, record { told = typed_of env model functions (0 + n) o; there = typed_there env model functions 0 env.objects n o h; owned = ap el.owner_of w })
    begins names ws f (t.iValue z e) ss n o h w q d x u g l r = value_begins ss z e n o h w u.1 g.0 l r
    begins names ws f (t.iList z a es c b) ss n o h w q d x u g l r =
        list_fits ss z a es c b n o o.length refl h w q (some_parts es d.0) u.1 (parts_held model es g) (nil_right _ _ l) r

    none_begins : (ss : v.Steps) (i : t.Initial) (x : Option ℕ) → x ≡ None → StepsFitHere ss → StepsFitHere (el.beginning env model bodies ss i x)
    none_begins ss i x e r = subst (λ y. StepsFitHere (el.beginning env model bodies ss i y)) (sym e) r

    module _ (scope : s.Scope) (local : s.is_file scope ≡ false) where
      object_begins : (names : List (List ℕ)) (ws : t.Words) (at : ℕ) (f : t.Form) (i : t.Initial) (ss : v.Steps) → StandsAs env at (Some number) (s.anObject ws f i) false →
          ShapedInitial names i → InitialHolds env i (object_number (declared_at env at)) → HeldIn model (all_initial i) → rules.faults_of_initial env model bodies false f i ≡ [] → StepsFitHere ss →
          StepsFitHere (el.beginning env model bodies ss i (object_number (declared_at env at)))
      object_begins names ws at f i ss q d u g l r =
          let e : object_number (declared_at env at) ≡ Some q.0 = ap object_number q.2 in
          subst (λ y. StepsFitHere (el.beginning env model bodies ss i y)) (sym e) (begins names ws f i ss q.0 q.1 q.3 q.4 q.5 d (object_number (declared_at env at)) u g l r)

      declared_begins : (b : Bool) (names : List (List ℕ)) (ws : t.Words) (at : ℕ) (f : t.Form) (i : t.Initial) (ss : v.Steps) → StandsAs env at (Some number) (s.declared_as scope (Some number) b ws f i) false →
          ShapedInitial names i → InitialHolds env i (object_number (declared_at env at)) → HeldIn model (all_initial i) → rules.faults_of_initial env model bodies false f i ≡ [] → StepsFitHere ss →
          StepsFitHere (el.beginning env model bodies ss i (object_number (declared_at env at)))
      declared_begins true names ws at f i ss q d u g l r = none_begins ss i _ q r
      declared_begins false names ws at (t.fFunction ps) i ss q d u g l r = none_begins ss i _ q r
      declared_begins false names ws at t.fPlain i ss q d u g l r = object_begins names ws at t.fPlain i ss q d u g l r
      declared_begins false names ws at (t.fArray x e y) i ss q d u g l r = object_begins names ws at (t.fArray x e y) i ss q d u g l r

      placed : (ws : t.Words) (f : t.Form) (i : t.Initial) (at : ℕ) → StandsAs env at (Some number) (s.declared_as scope (Some number) (s.has_typedef ws) ws f i) (s.is_file scope) →
          StandsAs env at (Some number) (s.declared_as scope (Some number) (s.has_typedef ws) ws f i) false
      placed ws f i at q = subst (λ b. StandsAs env at (Some number) (s.declared_as scope (Some number) (s.has_typedef ws) ws f i) b) local q

      own_stands : (ws : t.Words) (n : List ℕ) (at : ℕ) (f : t.Form) (i : t.Initial) → AllStand env (s.in_declarator scope (Some number) ws n at f i) → StandsAs env at (Some number) (s.declared_as scope (Some number) (s.has_typedef ws) ws f i) false
      own_stands ws n at t.fPlain i r = placed ws t.fPlain i at r.0
      own_stands ws n at (t.fArray a e b) i r = placed ws (t.fArray a e b) i at (last_stands env (s.in_option scope (Some number) e) _ r)
      own_stands ws n at (t.fFunction ps) i r = placed ws (t.fFunction ps) i at (last_stands env (s.in_prototype ps) _ r)

      declarators_fit : (names : List (List ℕ)) (place : Site) (k : Words) (ws : t.Words) (ds : t.Decs) (ss : v.Steps) → ShapedDeclarators place k names ds → DeclaratorsHold env ds → HeldIn model (all_declarators ds) →
          rules.faults_of_declarators env model bodies false ds ≡ [] → AllStand env (s.in_declarators scope (Some number) ws ds) → StepsFitHere ss → StepsFitHere (el.declaring env model bodies ss ds)
      declarators_fit names place k ws t.no_declarators ss w u g l r q = q
      declarators_fit names place k ws (t.declarators_and ds c (t.named n at) f ats i) ss w u g l r q =
          let front = stand_left env (s.in_declarators scope (Some number) ws ds ++ s.in_declarator scope (Some number) ws n at f i) (s.in_initial scope (Some number) i) r in
          let lines = nil_left (rules.faults_of_declarators env model bodies false ds ++ rules.faults_of_form env model bodies f) _ l in
          declared_begins (s.has_typedef ws) (sh.declared k ds names) ws at f i (el.declaring env model bodies ss ds)
          (own_stands ws n at f i (stand_right env (s.in_declarators scope (Some number) ws ds) _ front)) w.6 u.1 (held_right model (all_declarators ds) _ g)
          (nil_right (rules.faults_of_declarators env model bodies false ds ++ rules.faults_of_form env model bodies f) _ l)
          (declarators_fit names place k ws ds ss w.0 u.0 (held_left model (all_declarators ds) _ g) (nil_left (rules.faults_of_declarators env model bodies false ds) _ lines)
          (stand_left env (s.in_declarators scope (Some number) ws ds) _ front) q)

      declaration_fits : (names : List (List ℕ)) (place : Site) (d : t.Declaration) (ss : v.Steps) → ShapedDeclaration place names d → DeclarationHolds env d → HeldIn model (all_declaration d) →
          rules.faults_of_declaration env model bodies false d ≡ [] → AllStand env (s.in_declaration scope (Some number) d) → StepsFitHere ss → StepsFitHere (el.declared env model bodies ss d)
      declaration_fits names place (t.declares ws ds b) ss w u g l r q =
          declarators_fit names place w.specs.told ws ds ss w.declarators u g (nil_right (rules.faults_of_words env model bodies ws) _ l) (stand_right env (s.in_words scope (Some number) ws) _ r) q

    -- ---- Statements

    option_fits : (e : Option t.Ex) → OptionHolds env e → HeldIn model (all_option e) → rules.faults_of_option env model bodies e ≡ [] → facts.OptionFits model objects functions (el.option_value env model bodies e)
    option_fits None u g l = tt
    option_fits (Some e) u g l = value_fits env model bodies functions told e u g.0 l

    test_fits : (e : Option t.Ex) → OptionHolds env e → HeldIn model (all_option e) → rules.faults_of_test env model bodies e ≡ [] → facts.TestFits model objects functions (el.option_value env model bodies e)
    test_fits None u g l = tt
    test_fits (Some e) u g l = valued e u g.0 l

    effect_fits : (e : Option t.Ex) → OptionHolds env e → HeldIn model (all_option e) → rules.faults_of_option env model bodies e ≡ [] → StepsFitHere (el.effect env model bodies e)
    effect_fits None u g l = tt
    effect_fits (Some e) u g l = (tt, value_fits env model bodies functions told e u g.0 l)

    start_fits : (scope : s.Scope) → s.is_file scope ≡ false → (names : List (List ℕ)) (f : t.ForStart) → ShapedForStart names f → StartHolds env f → HeldIn model (all_start f) → rules.faults_of_start env model bodies f ≡ [] →
        AllStand env (s.in_start scope (Some number) f) → StepsFitHere (el.for_start env model bodies f)
    start_fits scope local names (t.forDeclares d) w u g l r = declaration_fits scope local names site.Block d v.no_steps w u g l r tt
    start_fits scope local names (t.forExpr e at) w u g l r = effect_fits e u g l

    return_fits : (k : Option Kind) (e : Option t.Ex) → OptionHolds env e → HeldIn model (all_option e) → rules.faults_of_return env model bodies k e ≡ [] → facts.ReturnFits model objects functions k (el.returned env model bodies k e)
    return_fits None None u g l = tt
    return_fits (Some k) None u g l = tt
    return_fits None (Some e) u g l = value_fits env model bodies functions told e u g.0 l
    return_fits (Some k) (Some e) u g l = (refl, valued e u g.0 l)

    abbrev StepFitsHere : v.Step → Type 0
    StepFitsHere x = facts.StepFits model objects functions number result x

    mutual
      statement_fits : (scope : s.Scope) → s.is_file scope ≡ false → (x : t.St) (names : List (List ℕ)) → ShapedStatement x names → StatementHolds env x → HeldIn model (all_expressions x) →
          rules.faults_of_statement env model bodies result x ≡ [] → AllStand env (s.in_statement (Some number) scope x) → StepFitsHere (el.step env model bodies result x)
      statement_fits scope local (t.sDeclaration d) names w u g l r = declaration_fits scope local names site.Block d v.no_steps w u g l r tt
      statement_fits scope local (t.sBlock a ss b) names w u g l r = statements_fit (s.block a b) refl ss names w u g l r
      statement_fits scope local (t.sEmpty at) names w u g l r = tt
      statement_fits scope local (t.sExpr e at) names w u g l r = value_fits env model bodies functions told e u g.0 l
      statement_fits scope local (t.sIf (t.head at a e b) x) names w u g l r =
          let q = valued e u.0 g.0 (nil_left _ _ l) in
          (q.0, q.1, statement_fits (s.block b (end_of x)) refl x names w.2 u.1 g.1 (nil_right (rules.faults_of_value env model bodies e) _ l) (stand_right env (s.in_expression (s.block at (end_of x)) (Some number) e) _ r))
      statement_fits scope local (t.sIfElse (t.head at a e b) x z y) names w u g l r =
          let front = nil_left (rules.faults_of_value env model bodies e ++ rules.faults_of_statement env model bodies result x) _ l in
          let fore = stand_left env (s.in_expression (s.block at (end_of y)) (Some number) e ++ s.in_statement (Some number) (s.block b (end_of x)) x) _ r in
          let q = valued e u.0 g.0 (nil_left _ _ front) in (
            q.0,
            q.1,
            statement_fits (s.block b (end_of x)) refl x names w.4 u.1 (held_left model (all_expressions x) _ g.1) (nil_right (rules.faults_of_value env model bodies e) _ front)
                (stand_right env (s.in_expression (s.block at (end_of y)) (Some number) e) _ fore),
            statement_fits (s.block z (end_of y)) refl y names w.5 u.2 (held_right model (all_expressions x) _ g.1) (nil_right (rules.faults_of_value env model bodies e ++ rules.faults_of_statement env model bodies result x) _ l)
                (stand_right env (s.in_expression (s.block at (end_of y)) (Some number) e ++ s.in_statement (Some number) (s.block b (end_of x)) x) _ r),
          )
      statement_fits scope local (t.sWhile (t.head at a e b) x) names w u g l r =
          let q = valued e u.0 g.0 (nil_left _ _ l) in
          (q.0, q.1, statement_fits (s.block b (end_of x)) refl x names w.2 u.1 g.1 (nil_right (rules.faults_of_value env model bodies e) _ l) (stand_right env (s.in_expression (s.block at (end_of x)) (Some number) e) _ r))
      statement_fits scope local (t.sSwitch (t.head at a e b) x) names w u g l r =
          let front = nil_left (rules.faults_of_value env model bodies e ++ rules.faults_of_statement env model bodies result x) _ l in
          let q = valued e u.0 g.0 (nil_left _ _ front) in (
            promoted_right (kind_of (type_of env model e)),
            refl,
            q,
            statement_fits (s.block b (end_of x)) refl x names w.2 u.1 g.1 (nil_right (rules.faults_of_value env model bodies e) _ front) (stand_right env (s.in_expression (s.block at (end_of x)) (Some number) e) _ r),
          )
      statement_fits scope local (t.sDo at x (t.head c a e b) y) names w u g l r =
          let last = held_right model (all_expressions x) (e ∷ []) g in
          let q = valued e u.0 last.0 (nil_right (rules.faults_of_statement env model bodies result x) _ l) in
          (statement_fits (s.block (suc at) (end_of x)) refl x names w.2 u.1 (held_left model (all_expressions x) _ g) (nil_left _ _ l) (stand_left env (s.in_statement (Some number) (s.block (suc at) (end_of x)) x) _ r), q.0, q.1)
      statement_fits scope local (t.sFor (t.for_head at a start test z step b) x) names w u g l r =
          let m = s.block at (end_of x) in
          let head = nil_left (rules.faults_of_start env model bodies start ++ rules.faults_of_test env model bodies test ++ rules.faults_of_option env model bodies step) _ l in
          let front = nil_left (rules.faults_of_start env model bodies start ++ rules.faults_of_test env model bodies test) _ head in
          let heads = held_left model (all_start start ++ all_option test ++ all_option step) _ g in
          let fronts = held_left model (all_start start ++ all_option test) _ heads in
          let ahead = stand_left env (s.in_start m (Some number) start ++ s.in_option m (Some number) test ++ s.in_option m (Some number) step) _ r in
          let fore = stand_left env (s.in_start m (Some number) start ++ s.in_option m (Some number) test) _ ahead in (
            start_fits m refl names start w.0.0 u.0.0 (held_left model (all_start start) _ fronts) (nil_left _ _ front) (stand_left env (s.in_start m (Some number) start) _ fore),
            test_fits test u.0.1 (held_right model (all_start start) _ fronts) (nil_right (rules.faults_of_start env model bodies start) _ front),
            option_fits step u.0.2 (held_right model (all_start start ++ all_option test) _ heads) (nil_right (rules.faults_of_start env model bodies start ++ rules.faults_of_test env model bodies test) _ head),
            statement_fits (s.block b (end_of x)) refl x (sh.start_names start names) w.2 u.1 (held_right model (all_start start ++ all_option test ++ all_option step) _ g)
                (nil_right (rules.faults_of_start env model bodies start ++ rules.faults_of_test env model bodies test ++ rules.faults_of_option env model bodies step) _ l)
                (stand_right env (s.in_start m (Some number) start ++ s.in_option m (Some number) test ++ s.in_option m (Some number) step) _ r),
          )
      statement_fits scope local (t.sCase at e b x) names w u g l r =
          statement_fits scope local x names w.3 u g (nil_right (rules.faults_of_constant env model bodies e) _ l) (stand_right env (s.in_expression scope (Some number) e) _ r)
      statement_fits scope local (t.sDefault at b x) names w u g l r = statement_fits scope local x names w.1 u g l r
      statement_fits scope local (t.sLabel n at b ats x) names w u g l r = statement_fits scope local x names w.3 u g l r
      statement_fits scope local (t.sGoto at n x b) names w u g l r = tt
      statement_fits scope local (t.sBreak at b) names w u g l r = tt
      statement_fits scope local (t.sContinue at b) names w u g l r = tt
      statement_fits scope local (t.sReturn at e b) names w u g l r = return_fits result e u g l

      pub statements_fit : (scope : s.Scope) → s.is_file scope ≡ false → (ss : t.Sts) (names : List (List ℕ)) → ShapedStatements ss names → StatementsHold env ss → HeldIn model (all_of_all ss) →
          rules.faults_of_statements env model bodies result ss ≡ [] → AllStand env (s.in_statements (Some number) scope ss) → StepsFitHere (el.steps env model bodies result ss)
      statements_fit scope local t.no_statements names w u g l r = tt
      statements_fit scope local (t.statements_and ss (t.sDeclaration d)) names w u g l r =
          declaration_fits scope local (sh.block_names ss names) site.Block d (el.steps env model bodies result ss) w.1 u.1 (held_right model (all_of_all ss) _ g) (nil_right (rules.faults_of_statements env model bodies result ss) _ l)
          (stand_right env (s.in_statements (Some number) scope ss) _ r)
          (statements_fit scope local ss names w.0 u.0 (held_left model (all_of_all ss) _ g) (nil_left _ _ l) (stand_left env (s.in_statements (Some number) scope ss) _ r))
      statements_fit scope local (t.statements_and ss x) names w u g l r = (
        statements_fit scope local ss names w.0 u.0 (held_left model (all_of_all ss) _ g) (nil_left _ _ l) (stand_left env (s.in_statements (Some number) scope ss) _ r),
        statement_fits scope local x (sh.block_names ss names) w.1 u.1 (held_right model (all_of_all ss) _ g) (nil_right (rules.faults_of_statements env model bodies result ss) _ l) (stand_right env (s.in_statements (Some number) scope ss) _ r),
      )
