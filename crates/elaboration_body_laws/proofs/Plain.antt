-- Declarations of expressions and statements: no function and no parameter is among them, and each constant of an enumeration
-- is a value of `int`.
use Rattle.std.proofs.Common.{◌≡◌, ℕ, suc, Bool, true, false, List, [], ◌∷◌, ◌++◌, Option, None, Some, ℤ}
use Rattle.lv_base.specs.declared.kind.Kind.{Kind}
use Rattle.lv_base.specs.declared.kind.Kind.TheVariants as kind
use Rattle.lv_base.specs.Integers.{InRange, least_of, greatest_of}
use Rattle.c_run.specs.Breaking.{Broken}
use Rattle.c_tree.specs.Tree as t
use Rattle.c_tree.specs.declared.known.Site.TheVariants as site
use Rattle.c_tree.specs.declared.known.Known.{Known as Words}
use Rattle.c_tree.specs.Shape.{ShapedDeclarators, ShapedDeclaration, ShapedForStart, ShapedStatement, ShapedStatements, may_declare, declared}
use Rattle.c_tree.specs.Shape as sh
use Rattle.c_meaning.specs.Tokens.{open_of, close_of, end_of}
use Rattle.c_meaning.specs.Scope as s
use Rattle.c_meaning.specs.Bindings.{declared_at, constant_value}
use Rattle.c_meaning.specs.Rules as rules
use Rattle.elaboration_fit_laws.proofs.Fitting.{nil_left, nil_right, line_holds, not_false, unless_parts, unless_lines}
use Rattle.elaboration_offset_laws.proofs.Lying.{Known}
use Rattle.elaboration_body_laws.proofs.Tokens.{in_range}

module _ (f : Known) where
  abbrev pub IsPlain : s.Declared → s.What → Type 0
  IsPlain d (s.aFunction ws ps b) = ⊥
  IsPlain d (s.aParameter ws) = ⊥
  IsPlain d (s.anEnumerator es) = InRange kind.Int f.model (constant_value (declared_at f.env d.at))
  IsPlain d w = Unit {0}

  abbrev pub AllPlain : List s.Declared → Type 0
  AllPlain [] = Unit {0}
  AllPlain (d ∷ ds) = IsPlain d d.what × AllPlain ds

  plain_both : (xs ys : List s.Declared) → AllPlain xs → AllPlain ys → AllPlain (xs ++ ys)
  plain_both [] ys h k = k
  plain_both (x ∷ xs) ys h k = (h.0, plain_both xs ys h.1 k)

  abbrev F : t.Ex → List Broken
  F e = rules.faults f.env f.model f.bodies e

  abbrev FP : t.Parts → List Broken
  FP es = rules.faults_of_parts f.env f.model f.bodies es

  abbrev FW : t.Words → List Broken
  FW ws = rules.faults_of_words f.env f.model f.bodies ws

  constant_in : (v : ℤ) (at : ℕ) → rules.range_line f.env f.model f.bodies v at ≡ [] → InRange kind.Int f.model v
  constant_in v at h = in_range (least_of kind.Int f.model) (greatest_of kind.Int f.model) v (not_false _ (line_holds _ _ _ h))

  module _ (scope : s.Scope) (owner : Option ℕ) where
    mutual
      pub plain : (e : t.Ex) → F e ≡ [] → AllPlain (s.in_expression scope owner e)
      plain (t.eName n at) h = tt
      plain (t.eNumber v g at) h = tt
      plain (t.eLetter v at) h = tt
      plain (t.eParen a e b) h = plain e h
      plain (t.eCall g a es b) h = let p = unless_parts (F g ++ FP es) _ h in plain_both _ _ (plain g (nil_left _ _ p)) (plain_parts es (nil_right (F g) _ p))
      plain (t.eIndex a x i y) h = let p = unless_parts (F a ++ F i) _ h in plain_both _ _ (plain a (nil_left _ _ p)) (plain i (nil_right (F a) _ p))
      plain (t.ePostfix e x at) h = plain e (unless_parts (F e) _ h)
      plain (t.ePrefix o at e) h = plain e (unless_parts (F e) _ h)
      plain (t.eSizeof at a ws b) h = plain_words ws h
      plain (t.eCast a ws b e) h = let p = unless_parts (FW ws ++ F e) _ h in plain_both _ _ (plain_words ws (nil_left _ _ p)) (plain e (nil_right (FW ws) _ p))
      plain (t.eBinary a o at b) h = let p = unless_parts (F a ++ F b) _ h in plain_both _ _ (plain a (nil_left _ _ p)) (plain b (nil_right (F a) _ p))
      plain (t.eCond g x a y b) h =
          let p = unless_parts (F g ++ F a ++ F b) _ h in
          let q = nil_left (F g ++ F a) _ p in
          plain_both _ _ (plain_both _ _ (plain g (nil_left _ _ q)) (plain a (nil_right (F g) _ q))) (plain b (nil_right (F g ++ F a) _ p))
      plain (t.eAssign a o at b) h = let p = unless_parts (F a ++ F b) _ h in plain_both _ _ (plain a (nil_left _ _ p)) (plain b (nil_right (F a) _ p))
      plain (t.eComma es) h = plain_parts es (unless_parts (FP es) _ h)

      plain_parts : (es : t.Parts) → FP es ≡ [] → AllPlain (s.in_parts scope owner es)
      plain_parts t.no_parts h = tt
      plain_parts (t.parts_and es x e) h = plain_both _ _ (plain_parts es (nil_left _ _ h)) (plain e (nil_right (FP es) _ h))

      pub plain_words : (ws : t.Words) → FW ws ≡ [] → AllPlain (s.in_words scope owner ws)
      plain_words t.no_words h = tt
      plain_words (t.words_and ws w) h = plain_both _ _ (plain_words ws (nil_left _ _ h)) (plain_word w (nil_right (FW ws) _ h))

      plain_word : (w : t.Word) → rules.faults_of_word f.env f.model f.bodies w ≡ [] → AllPlain (s.in_word scope owner w)
      plain_word (t.wType v at) h = tt
      plain_word (t.wStorage v at) h = tt
      plain_word (t.wConst v at) h = tt
      plain_word (t.wExtension at) h = tt
      plain_word (t.wAttribute a) h = tt
      plain_word (t.wTypedef n at) h = tt
      plain_word (t.wTag at n b) h = tt
      plain_word (t.wEnum at a es x b) h = plain_enumerators es h
      plain_word (t.wTagEnum at n y a es x b) h = plain_both _ _ (plain_enumerators es (nil_right _ _ h)) (tt, tt)

      plain_enumerators : (es : t.Ens) → rules.faults_of_enumerators f.env f.model f.bodies es ≡ [] → AllPlain (s.in_enumerators scope owner es)
      plain_enumerators t.no_enumerators h = tt
      plain_enumerators (t.plain_and es x n at) h =
          plain_both _ _ (plain_enumerators es (nil_left _ _ (nil_left _ _ h))) (constant_in (constant_value (declared_at f.env at)) at (nil_right _ _ h), tt)
      plain_enumerators (t.valued_and es x n at a e) h =
          let u = nil_right _ _ h in
          let l = unless_lines (F e) _ u in
          plain_both _ _ (plain_both _ _ (plain_enumerators es (nil_left _ _ (nil_left _ _ h))) (plain e (unless_parts (F e) _ u)))
          (constant_in (constant_value (declared_at f.env at)) _ (nil_right (rules.constant_lines f.env f.model f.bodies e) _ l), tt)

    pub plain_option : (e : Option t.Ex) → rules.faults_of_option f.env f.model f.bodies e ≡ [] → AllPlain (s.in_option scope owner e)
    plain_option None h = tt
    plain_option (Some e) h = plain e h

    plain_test : (e : Option t.Ex) → rules.faults_of_test f.env f.model f.bodies e ≡ [] → AllPlain (s.in_option scope owner e)
    plain_test None h = tt
    plain_test (Some e) h = plain e (unless_parts (F e) _ h)

    plain_return : (k : Option Kind) (e : Option t.Ex) → rules.faults_of_return f.env f.model f.bodies k e ≡ [] → AllPlain (s.in_option scope owner e)
    plain_return None e h = plain_option e h
    plain_return (Some k) e h = plain_test e h

    plain_named : (ps : t.Params) → rules.faults_of_params f.env f.model f.bodies ps ≡ [] → AllPlain (s.in_named scope owner ps)
    plain_named t.no_params h = tt
    plain_named (t.params_and ps x ws None) h = plain_both _ _ (plain_named ps (nil_left _ _ h)) (plain_words ws (nil_right (rules.faults_of_params f.env f.model f.bodies ps) _ h))
    plain_named (t.params_and ps x ws (Some (t.named n at))) h =
        plain_both _ _ (plain_both _ _ (plain_named ps (nil_left _ _ h)) (plain_words ws (nil_right (rules.faults_of_params f.env f.model f.bodies ps) _ h))) (tt, tt)

    plain_names : (ps : t.Parameters) → rules.faults_of_parameters f.env f.model f.bodies ps ≡ [] → AllPlain (s.in_names scope owner ps)
    plain_names (t.pUnknown a b) h = tt
    plain_names (t.pVoid a at b) h = tt
    plain_names (t.pSome a ps b) h = plain_named ps h

  pub plain_prototype : (ps : t.Parameters) → rules.faults_of_parameters f.env f.model f.bodies ps ≡ [] → AllPlain (s.in_prototype ps)
  plain_prototype ps h = plain_names (s.block (open_of ps) (close_of ps)) None ps h

  -- ---- Declarators

  plain_first : (scope : s.Scope) (owner : Option ℕ) (static : Bool) (e : t.Ex) → rules.faults_of_first f.env f.model f.bodies static e ≡ [] → AllPlain (s.in_expression scope owner e)
  plain_first scope owner true e h = plain scope owner e (unless_parts (F e) _ h)
  plain_first scope owner false e h = plain scope owner e (unless_parts (F e) _ h)

  plain_firsts : (scope : s.Scope) (owner : Option ℕ) (static : Bool) (es : t.Parts) → rules.faults_of_firsts f.env f.model f.bodies static es ≡ [] → AllPlain (s.in_parts scope owner es)
  plain_firsts scope owner static t.no_parts h = tt
  plain_firsts scope owner static (t.parts_and es x e) h =
      plain_both _ _ (plain_firsts scope owner static es (nil_left _ _ h)) (plain_first scope owner static e (nil_right (rules.faults_of_firsts f.env f.model f.bodies static es) _ h))

  pub plain_initial : (scope : s.Scope) (owner : Option ℕ) (static : Bool) (g : t.Form) (i : t.Initial) → rules.faults_of_initial f.env f.model f.bodies static g i ≡ [] → AllPlain (s.in_initial scope owner i)
  plain_initial scope owner static g t.iNothing h = tt
  plain_initial scope owner static g (t.iValue at e) h = plain_first scope owner static e h
  plain_initial scope owner static g (t.iList at a es x b) h = plain_firsts scope owner static es (nil_right _ _ h)

  pub plain_length : (scope : s.Scope) (owner : Option ℕ) (a : ℕ) (e : Option t.Ex) (b : ℕ) → rules.faults_of_form f.env f.model f.bodies (t.fArray a e b) ≡ [] → AllPlain (s.in_option scope owner e)
  plain_length scope owner a None b h = tt
  plain_length scope owner a (Some e) b h = plain scope owner e (unless_parts (F e) _ h)

  -- an object, or a typedef
  plain_as : (scope : s.Scope) (owner : Option ℕ) (k : Words) (b : Bool) (ws : t.Words) (g : t.Form) (i : t.Initial) (d : s.Declared) → may_declare site.Block k g i ≡ true → IsPlain d (s.declared_as scope owner b ws g i)
  plain_as scope owner k true ws g i d h = tt
  plain_as scope owner k false ws t.fPlain i d h = tt
  plain_as scope owner k false ws (t.fArray a e b) i d h = tt
  plain_as scope owner k false ws (t.fFunction ps) t.iNothing d h = cc
  plain_as scope owner k false ws (t.fFunction ps) (t.iValue at e) d h = cc
  plain_as scope owner k false ws (t.fFunction ps) (t.iList at a es x b) d h = cc

  plain_declarator : (scope : s.Scope) (owner : Option ℕ) (k : Words) (ws : t.Words) (n : List ℕ) (at : ℕ) (g : t.Form) (i : t.Initial) → may_declare site.Block k g i ≡ true → rules.faults_of_form f.env f.model f.bodies g ≡ [] →
      AllPlain (s.in_declarator scope owner ws n at g i)
  plain_declarator scope owner k ws n at t.fPlain i m h = (plain_as scope owner k (s.has_typedef ws) ws t.fPlain i (s.declared scope owner n at at (s.declared_as scope owner (s.has_typedef ws) ws t.fPlain i)) m, tt)
  plain_declarator scope owner k ws n at (t.fArray a e b) i m h = plain_both _ _ (plain_length scope owner a e b h) (plain_as scope owner k (s.has_typedef ws) ws (t.fArray a e b) i (s.declared scope owner n at b (s.declared_as scope owner (s.has_typedef ws) ws (t.fArray a e b) i)) m, tt)
  plain_declarator scope owner k ws n at (t.fFunction ps) i m h = plain_both _ _ (plain_prototype ps h) (plain_as scope owner k (s.has_typedef ws) ws (t.fFunction ps) i (s.declared scope owner n at (close_of ps) (s.declared_as scope owner (s.has_typedef ws) ws (t.fFunction ps) i)) m, tt)

  plain_declarators : (scope : s.Scope) (owner : Option ℕ) (names : List (List ℕ)) (k : Words) (ws : t.Words) (ds : t.Decs) → ShapedDeclarators site.Block k names ds → rules.faults_of_declarators f.env f.model f.bodies false ds ≡ [] →
      AllPlain (s.in_declarators scope owner ws ds)
  plain_declarators scope owner names k ws t.no_declarators w h = tt
  plain_declarators scope owner names k ws (t.declarators_and ds x (t.named n at) g ats i) w h =
      let front = nil_left (rules.faults_of_declarators f.env f.model f.bodies false ds ++ rules.faults_of_form f.env f.model f.bodies g) _ h in
      plain_both _ _ (plain_both _ _ (plain_declarators scope owner names k ws ds w.0 (nil_left _ _ front))
      (plain_declarator scope owner k ws n at g i w.2 (nil_right (rules.faults_of_declarators f.env f.model f.bodies false ds) _ front)))
      (plain_initial scope owner false g i (nil_right (rules.faults_of_declarators f.env f.model f.bodies false ds ++ rules.faults_of_form f.env f.model f.bodies g) _ h))

  plain_declaration : (scope : s.Scope) (owner : Option ℕ) (names : List (List ℕ)) (d : t.Declaration) → ShapedDeclaration site.Block names d → rules.faults_of_declaration f.env f.model f.bodies false d ≡ [] → AllPlain (s.in_declaration scope owner d)
  plain_declaration scope owner names (t.declares ws ds b) w h =
      plain_both _ _ (plain_words scope owner ws (nil_left _ _ h)) (plain_declarators scope owner names w.specs.told ws ds w.declarators (nil_right (FW ws) _ h))

  plain_start : (scope : s.Scope) (owner : Option ℕ) (names : List (List ℕ)) (g : t.ForStart) → ShapedForStart names g → rules.faults_of_start f.env f.model f.bodies g ≡ [] → AllPlain (s.in_start scope owner g)
  plain_start scope owner names (t.forDeclares d) w h = plain_declaration scope owner names d w h
  plain_start scope owner names (t.forExpr e at) w h = plain_option scope owner e h

  -- ---- Statements

  module _ (owner : Option ℕ) (result : Option Kind) where
    abbrev FS : t.St → List Broken
    FS x = rules.faults_of_statement f.env f.model f.bodies result x

    abbrev FV : t.Ex → List Broken
    FV e = rules.faults_of_value f.env f.model f.bodies e

    mutual
      plain_statement : (scope : s.Scope) (x : t.St) (names : List (List ℕ)) → ShapedStatement x names → FS x ≡ [] → AllPlain (s.in_statement owner scope x)
      plain_statement scope (t.sDeclaration d) names w h = plain_declaration scope owner names d w h
      plain_statement scope (t.sBlock a ss b) names w h = plain_statements (s.block a b) ss names w h
      plain_statement scope (t.sEmpty at) names w h = tt
      plain_statement scope (t.sExpr e at) names w h = plain scope owner e h
      plain_statement scope (t.sIf (t.head at a e b) x) names w h =
          plain_both _ _ (plain (s.block at (end_of x)) owner e (unless_parts (F e) _ (nil_left (FV e) _ h))) (plain_statement (s.block b (end_of x)) x names w.2 (nil_right (FV e) _ h))
      plain_statement scope (t.sIfElse (t.head at a e b) x z y) names w h =
          let p = nil_left (FV e ++ FS x) _ h in
          plain_both _ _ (plain_both _ _ (plain (s.block at (end_of y)) owner e (unless_parts (F e) _ (nil_left (FV e) _ p))) (plain_statement (s.block b (end_of x)) x names w.4 (nil_right (FV e) _ p)))
          (plain_statement (s.block z (end_of y)) y names w.5 (nil_right (FV e ++ FS x) _ h))
      plain_statement scope (t.sWhile (t.head at a e b) x) names w h =
          plain_both _ _ (plain (s.block at (end_of x)) owner e (unless_parts (F e) _ (nil_left (FV e) _ h))) (plain_statement (s.block b (end_of x)) x names w.2 (nil_right (FV e) _ h))
      plain_statement scope (t.sSwitch (t.head at a e b) x) names w h =
          let p = nil_left (FV e ++ FS x) _ h in
          plain_both _ _ (plain (s.block at (end_of x)) owner e (unless_parts (F e) _ (nil_left (FV e) _ p))) (plain_statement (s.block b (end_of x)) x names w.2 (nil_right (FV e) _ p))
      plain_statement scope (t.sDo at x (t.head c a e b) y) names w h =
          plain_both _ _ (plain_statement (s.block (suc at) (end_of x)) x names w.2 (nil_left _ _ h)) (plain (s.block at y) owner e (unless_parts (F e) _ (nil_right (FS x) _ h)))
      plain_statement scope (t.sFor (t.for_head at a g test z step b) x) names w h =
          let m = s.block at (end_of x) in
          let start = rules.faults_of_start f.env f.model f.bodies g in
          let tested = rules.faults_of_test f.env f.model f.bodies test in
          let stepped = rules.faults_of_option f.env f.model f.bodies step in
          let p = nil_left (start ++ tested ++ stepped) _ h in
          let q = nil_left (start ++ tested) _ p in
          plain_both _ _ (plain_both _ _ (plain_both _ _ (plain_start m owner names g w.0.0 (nil_left _ _ q)) (plain_test m owner test (nil_right start _ q))) (plain_option m owner step (nil_right (start ++ tested) _ p)))
          (plain_statement (s.block b (end_of x)) x (sh.start_names g names) w.2 (nil_right (start ++ tested ++ stepped) _ h))
      plain_statement scope (t.sCase at e b x) names w h =
          let constant = rules.faults_of_constant f.env f.model f.bodies e in
          plain_both _ _ (plain scope owner e (unless_parts (F e) _ (nil_left constant _ h))) (plain_statement scope x names w.3 (nil_right constant _ h))
      plain_statement scope (t.sDefault at b x) names w h = plain_statement scope x names w.1 h
      plain_statement scope (t.sLabel n at b ats x) names w h = plain_statement scope x names w.3 h
      plain_statement scope (t.sGoto at n x b) names w h = tt
      plain_statement scope (t.sBreak at b) names w h = tt
      plain_statement scope (t.sContinue at b) names w h = tt
      plain_statement scope (t.sReturn at e b) names w h = plain_return scope owner result e h

      pub plain_statements : (scope : s.Scope) (ss : t.Sts) (names : List (List ℕ)) → ShapedStatements ss names → rules.faults_of_statements f.env f.model f.bodies result ss ≡ [] → AllPlain (s.in_statements owner scope ss)
      plain_statements scope t.no_statements names w h = tt
      plain_statements scope (t.statements_and ss x) names w h =
          plain_both _ _ (plain_statements scope ss names w.0 (nil_left _ _ h)) (plain_statement scope x (sh.block_names ss names) w.1 (nil_right (rules.faults_of_statements f.env f.model f.bodies result ss) _ h))
