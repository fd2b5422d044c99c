-- What the bodies of a source hold that breaks no rule.
use Rattle.std.proofs.Common.{◌≡◌, ℕ, suc, ◌≤◌, Bool, true, false, ◌&&◌, not, List, [], ◌∷◌, ◌++◌, Option, None, Some, refl, sym, ap, ◌∙◌, subst, arith}
use Rattle.c_tree.specs.Tree as t
use Rattle.c_tree.specs.declared.known.Site.{Site}
use Rattle.c_tree.specs.declared.known.Site.TheVariants as site
use Rattle.c_tree.specs.declared.known.Known.{Known as Told}
use Rattle.c_tree.specs.Words.{known, is_typedef}
use Rattle.c_tree.specs.Shape as sh
use Rattle.c_tree.specs.Shape.{ShapedDeclarators, ShapedDeclaration, ShapedForStart, ShapedStatement, ShapedStatements, may_declare}
use Rattle.c_meaning.specs.Tokens.{end_of}
use Rattle.c_meaning.specs.Scope as s
use Rattle.c_meaning.specs.Bindings.{Env, Object, entity_of, object_number, size_of_object, declared_at}
use Rattle.c_types.specs.Fit.{IsThere}
use Rattle.elaboration_fit_laws.specs.Laws.{IsNoName, Unnamed, AllUnnamed}
use Rattle.elaboration_fit_laws.specs.Holds.{IsOne, OptionHolds, InitialHolds, DeclaratorsHold, DeclarationHolds, StartHolds, StatementHolds, StatementsHold}
use Rattle.elaboration_offset_laws.proofs.Logic.{and_right, not_true}
use Rattle.elaboration_offset_laws.proofs.Standing.{In, InParts, InOption, ordered, ordered_parts, ordered_words, ordered_option}
use Rattle.elaboration_offset_laws.proofs.Statements.{InInitial, InDeclarators, InDeclaration, InStart, InStatement, InStatements, ordered_form, ordered_initial, ordered_declarators, ordered_head, ordered_start, ordered_for, ordered_statement, ordered_statements}
use Rattle.elaboration_offset_laws.proofs.Finding.{FoundAt, FoundAs, AllFound, found_left, found_right}
use Rattle.elaboration_offset_laws.proofs.Typedefs.{typedef_known}

abbrev one_or : Option ℕ → ℕ
one_or None = 1
one_or (Some n) = n

size_of_one : (o : Object) → o.length ≡ None → size_of_object (Some o) ≡ 1
size_of_one o h = ap one_or h

module _ (env : Env) (low high : ℕ) (clear : (n : List ℕ) (at : ℕ) → low ≤ at → suc at ≤ high → IsNoName (entity_of env n at)) where
  mutual
    unnamed : (e : t.Ex) (lo hi : ℕ) → low ≤ lo → hi ≤ high → In lo e hi → Unnamed env e
    unnamed (t.eName n at) lo hi x y h = clear n at (omega (arith, x, h.0)) (omega (arith, h.1, y))
    unnamed (t.eNumber v f at) lo hi x y h = tt
    unnamed (t.eLetter v at) lo hi x y h = tt
    unnamed (t.eParen a e b) lo hi x y h = unnamed e (suc a) b (omega (arith, x, h.0)) (omega (arith, h.2, y)) h.1
    unnamed (t.eCall f a es b) lo hi x y h =
        let p = ordered f lo a h.0 in
        let q = ordered_parts es (suc a) b h.1 in
        (unnamed f lo a x (omega (arith, q, h.2, y)) h.0, all_unnamed es (suc a) b (omega (arith, x, p)) (omega (arith, h.2, y)) h.1)
    unnamed (t.eIndex a z i w) lo hi x y h =
        let p = ordered a lo z h.0 in
        let q = ordered i (suc z) w h.1 in
        (unnamed a lo z x (omega (arith, q, h.2, y)) h.0, unnamed i (suc z) w (omega (arith, x, p)) (omega (arith, h.2, y)) h.1)
    unnamed (t.ePostfix e c at) lo hi x y h = unnamed e lo at x (omega (arith, h.1, y)) h.0
    unnamed (t.ePrefix o at e) lo hi x y h = unnamed e (suc at) hi (omega (arith, x, h.0)) y h.1
    unnamed (t.eSizeof at a ws b) lo hi x y h = tt
    unnamed (t.eCast a ws b e) lo hi x y h = let p = ordered_words ws (suc a) b h.1 in unnamed e (suc b) hi (omega (arith, x, h.0, p)) y h.2
    unnamed (t.eBinary a o at b) lo hi x y h =
        let p = ordered a lo at h.0 in
        let q = ordered b (suc at) hi h.1 in
        (unnamed a lo at x (omega (arith, q, y)) h.0, unnamed b (suc at) hi (omega (arith, x, p)) y h.1)
    unnamed (t.eCond c z a w b) lo hi x y h =
        let p = ordered c lo z h.0 in
        let q = ordered a (suc z) w h.1 in
        let r = ordered b (suc w) hi h.2 in
        (unnamed c lo z x (omega (arith, q, r, y)) h.0, unnamed a (suc z) w (omega (arith, x, p)) (omega (arith, r, y)) h.1, unnamed b (suc w) hi (omega (arith, x, p, q)) y h.2)
    unnamed (t.eAssign a o at b) lo hi x y h =
        let p = ordered a lo at h.0 in
        let q = ordered b (suc at) hi h.1 in
        (unnamed a lo at x (omega (arith, q, y)) h.0, unnamed b (suc at) hi (omega (arith, x, p)) y h.1)
    unnamed (t.eComma es) lo hi x y h = all_unnamed es lo hi x y h

    all_unnamed : (es : t.Parts) (lo hi : ℕ) → low ≤ lo → hi ≤ high → InParts lo es hi → AllUnnamed env es
    all_unnamed t.no_parts lo hi x y h = tt
    all_unnamed (t.parts_and es c e) lo hi x y h =
        let p = ordered_parts es lo h.0 h.2 in
        let q = ordered e h.1 hi h.4 in
        (all_unnamed es lo h.0 x (omega (arith, h.3, q, y)) h.2, unnamed e h.1 hi (omega (arith, x, p, h.3)) y h.4)

  option_holds : (e : Option t.Ex) (lo hi : ℕ) → low ≤ lo → hi ≤ high → InOption lo e hi → OptionHolds env e
  option_holds None lo hi x y h = tt
  option_holds (Some e) lo hi x y h = unnamed e lo hi x y h

  -- ---- Declarators

  there_by : (at : ℕ) (owner : Option ℕ) → FoundAt env at owner → IsThere (object_number (declared_at env at))
  there_by at owner r = subst (λ x. IsThere (object_number x)) (sym r.declared) tt

  one_by : (at : ℕ) (owner : Option ℕ) (r : FoundAt env at owner) → r.told.length ≡ None → IsOne env (object_number (declared_at env at))
  one_by at owner r h = subst (λ x. IsOne env (object_number x)) (sym r.declared) (ap size_of_object r.there ∙ size_of_one r.told h)

  module _ (scope : s.Scope) (owner : Option ℕ) (local : s.is_file scope ≡ false) where
    plain_found : (ws : t.Words) (f : t.Form) (i : t.Initial) (at : ℕ) → s.has_typedef ws ≡ false → FoundAs env at owner (s.declared_as scope owner (s.has_typedef ws) ws f i) (s.is_file scope) → FoundAs env at owner (s.declared_as scope owner false ws f i) false
    plain_found ws f i at h r = subst (λ b. FoundAs env at owner (s.declared_as scope owner false ws f i) b) local (subst (λ b. FoundAs env at owner (s.declared_as scope owner b ws f i) (s.is_file scope)) h r)

    no_typedef : (place : Site) (k : Told) (ws : t.Words) (b : Bool) → known place ws ≡ Some k → b && not (is_typedef k.storage) ≡ true → s.has_typedef ws ≡ false
    no_typedef place k ws b e h = typedef_known place ws k e ∙ not_true (is_typedef k.storage) (and_right b _ h)

    last_found : (xs : List s.Declared) (d : s.Declared) → AllFound env (xs ++ d ∷ []) → FoundAs env d.at d.owner d.what (s.is_file d.scope)
    last_found xs d r = let q = found_right env xs (d ∷ []) r in q.0

    initial_holds : (place : Site) (k : Told) (ws : t.Words) (n : List ℕ) (at : ℕ) (f : t.Form) (i : t.Initial) (lo hi : ℕ) → known place ws ≡ Some k → may_declare place k f i ≡ true → low ≤ lo → hi ≤ high → InInitial lo i hi →
        AllFound env (s.in_declarator scope owner ws n at f i) → InitialHolds env i (object_number (declared_at env at))
    initial_holds place k ws n at f t.iNothing lo hi e m x y h r = tt
    initial_holds place k ws n at t.fPlain (t.iValue z v) lo hi e m x y h r =
        let q = plain_found ws t.fPlain (t.iValue z v) at (no_typedef place k ws _ e m) r.0 in
        (one_by at owner q.0 q.1, unnamed v (suc z) hi (omega (arith, x, h.0)) y h.1)
    initial_holds place k ws n at (t.fArray a None b) (t.iValue z v) lo hi e m x y h r = cc
    initial_holds place k ws n at (t.fArray a (Some l) b) (t.iValue z v) lo hi e m x y h r = cc
    initial_holds place k ws n at (t.fFunction ps) (t.iValue z v) lo hi e m x y h r = cc
    initial_holds place k ws n at t.fPlain (t.iList z a es c b) lo hi e m x y h r = cc
    initial_holds place k ws n at (t.fFunction ps) (t.iList z a es c b) lo hi e m x y h r = cc
    initial_holds place k ws n at (t.fArray g None d) (t.iList z a es c b) lo hi e m x y h r =
        let q = plain_found ws (t.fArray g None d) (t.iList z a es c b) at (no_typedef place k ws _ e m) r.0 in
        (there_by at owner q.0, all_unnamed es (suc a) h.0 (omega (arith, x, h.1, h.2)) (omega (arith, h.4, h.5, y)) h.3)
    initial_holds place k ws n at (t.fArray g (Some v) d) (t.iList z a es c b) lo hi e m x y h r =
        let q = plain_found ws (t.fArray g (Some v) d) (t.iList z a es c b) at (no_typedef place k ws _ e m) (last_found (s.in_expression scope owner v) _ r) in
        (there_by at owner q.0, all_unnamed es (suc a) h.0 (omega (arith, x, h.1, h.2)) (omega (arith, h.4, h.5, y)) h.3)

    declarators_hold : (names : List (List ℕ)) (place : Site) (k : Told) (ws : t.Words) (ds : t.Decs) (lo hi : ℕ) → known place ws ≡ Some k → ShapedDeclarators place k names ds → low ≤ lo → hi ≤ high → InDeclarators lo ds hi →
        AllFound env (s.in_declarators scope owner ws ds) → DeclaratorsHold env ds
    declarators_hold names place k ws t.no_declarators lo hi e w x y h r = tt
    declarators_hold names place k ws (t.declarators_and ds c (t.named n at) f ats i) lo hi e w x y h r =
        let front = found_left env (s.in_declarators scope owner ws ds ++ s.in_declarator scope owner ws n at f i) (s.in_initial scope owner i) r in
        let p = ordered_declarators ds lo h.0 h.3 in
        let q = ordered_form f (suc at) h.1 h.5 in
        let o = ordered_initial i h.2 hi h.7 in (
          declarators_hold names place k ws ds lo h.0 e w.0 x (omega (arith, h.4, q, h.6, o, y)) h.3 (found_left env (s.in_declarators scope owner ws ds) _ front),
          initial_holds place k ws n at f i h.2 hi e w.2 (omega (arith, x, p, h.4, q, h.6)) y h.7 (found_right env (s.in_declarators scope owner ws ds) _ front),
        )

    declaration_holds : (names : List (List ℕ)) (place : Site) (d : t.Declaration) (lo hi : ℕ) → ShapedDeclaration place names d → low ≤ lo → hi ≤ high → InDeclaration lo d hi → AllFound env (s.in_declaration scope owner d) → DeclarationHolds env d
    declaration_holds names place (t.declares ws ds b) lo hi w x y h r =
        let p = ordered_words ws lo h.0 h.1 in
        declarators_hold names place w.specs.told ws ds h.0 b w.specs.together w.declarators (omega (arith, x, p)) (omega (arith, h.3, y)) h.2 (found_right env (s.in_words scope owner ws) _ r)

    start_holds : (names : List (List ℕ)) (g : t.ForStart) (lo hi : ℕ) → ShapedForStart names g → low ≤ lo → hi ≤ high → InStart lo g hi → AllFound env (s.in_start scope owner g) → StartHolds env g
    start_holds names (t.forDeclares d) lo hi w x y h r = declaration_holds names site.Block d lo hi w x y h r
    start_holds names (t.forExpr e at) lo hi w x y h r = option_holds e lo at x (omega (arith, h.1, y)) h.0

  module _ (owner : Option ℕ) where
    mutual
      statement_holds : (scope : s.Scope) (st : t.St) (names : List (List ℕ)) (lo hi : ℕ) → s.is_file scope ≡ false → ShapedStatement st names → low ≤ lo → hi ≤ high → InStatement lo st hi → AllFound env (s.in_statement owner scope st) → StatementHolds env st
      statement_holds scope (t.sDeclaration d) names lo hi l w x y h r = declaration_holds scope owner l names site.Block d lo hi w x y h r
      statement_holds scope (t.sBlock a ss b) names lo hi l w x y h r = statements_hold (s.block a b) ss names (suc a) b refl w (omega (arith, x, h.0)) (omega (arith, h.2, y)) h.1 r
      statement_holds scope (t.sEmpty at) names lo hi l w x y h r = tt
      statement_holds scope (t.sExpr e at) names lo hi l w x y h r = unnamed e lo at x (omega (arith, h.1, y)) h.0
      statement_holds scope (t.sIf (t.head at a e b) z) names lo hi l w x y h r =
          let p = ordered_head (t.head at a e b) lo h.0 h.1 in
          let q = ordered_statement z h.0 hi h.2 in
          let g = h.1 in (
            unnamed e (suc a) b (omega (arith, x, g.0, g.1)) (omega (arith, g.3, q, y)) g.2,
            statement_holds (s.block b (end_of z)) z names h.0 hi refl w.2 (omega (arith, x, p)) y h.2 (found_right env (s.in_expression (s.block at (end_of z)) owner e) _ r),
          )
      statement_holds scope (t.sIfElse (t.head at a e b) z u v) names lo hi l w x y h r =
          let p = ordered_head (t.head at a e b) lo h.0 h.1 in
          let q = ordered_statement z h.0 u h.2 in
          let o = ordered_statement v (suc u) hi h.3 in
          let g = h.1 in
          let front = found_left env (s.in_expression (s.block at (end_of v)) owner e ++ s.in_statement owner (s.block b (end_of z)) z) _ r in (
            unnamed e (suc a) b (omega (arith, x, g.0, g.1)) (omega (arith, g.3, q, o, y)) g.2,
            statement_holds (s.block b (end_of z)) z names h.0 u refl w.4 (omega (arith, x, p)) (omega (arith, o, y)) h.2 (found_right env (s.in_expression (s.block at (end_of v)) owner e) _ front),
            statement_holds (s.block u (end_of v)) v names (suc u) hi refl w.5 (omega (arith, x, p, q)) y h.3 (found_right env (s.in_expression (s.block at (end_of v)) owner e ++ s.in_statement owner (s.block b (end_of z)) z) _ r),
          )
      statement_holds scope (t.sWhile (t.head at a e b) z) names lo hi l w x y h r =
          let p = ordered_head (t.head at a e b) lo h.0 h.1 in
          let q = ordered_statement z h.0 hi h.2 in
          let g = h.1 in (
            unnamed e (suc a) b (omega (arith, x, g.0, g.1)) (omega (arith, g.3, q, y)) g.2,
            statement_holds (s.block b (end_of z)) z names h.0 hi refl w.2 (omega (arith, x, p)) y h.2 (found_right env (s.in_expression (s.block at (end_of z)) owner e) _ r),
          )
      statement_holds scope (t.sSwitch (t.head at a e b) z) names lo hi l w x y h r =
          let p = ordered_head (t.head at a e b) lo h.0 h.1 in
          let q = ordered_statement z h.0 hi h.2 in
          let g = h.1 in (
            unnamed e (suc a) b (omega (arith, x, g.0, g.1)) (omega (arith, g.3, q, y)) g.2,
            statement_holds (s.block b (end_of z)) z names h.0 hi refl w.2 (omega (arith, x, p)) y h.2 (found_right env (s.in_expression (s.block at (end_of z)) owner e) _ r),
          )
      statement_holds scope (t.sDo at z (t.head v a e b) u) names lo hi l w x y h r =
          let p = ordered_statement z (suc at) h.0 h.2 in
          let q = ordered_head (t.head v a e b) h.0 u h.3 in
          let g = h.3 in (
            unnamed e (suc a) b (omega (arith, x, h.1, p, g.0, g.1)) (omega (arith, g.3, h.4, y)) g.2,
            statement_holds (s.block (suc at) (end_of z)) z names (suc at) h.0 refl w.2 (omega (arith, x, h.1)) (omega (arith, q, h.4, y)) h.2 (found_left env (s.in_statement owner (s.block (suc at) (end_of z)) z) _ r),
          )
      statement_holds scope (t.sFor (t.for_head at a g test k step b) z) names lo hi l w x y h r =
          let f = h.1 in
          let m = s.block at (end_of z) in
          let p = ordered_for (t.for_head at a g test k step b) lo h.0 f in
          let q = ordered_statement z h.0 hi h.2 in
          let o1 = ordered_start g (suc a) f.0 f.3 in
          let o2 = ordered_option test f.0 k f.4 in
          let o3 = ordered_option step (suc k) b f.5 in
          let front = found_left env (s.in_start m owner g ++ s.in_option m owner test ++ s.in_option m owner step) _ r in
          let fore = found_left env (s.in_start m owner g ++ s.in_option m owner test) _ front in (
            (
              start_holds m owner refl names g (suc a) f.0 w.0.0 (omega (arith, x, f.1, f.2)) (omega (arith, o2, o3, f.6, q, y)) f.3 (found_left env (s.in_start m owner g) _ fore),
              option_holds test f.0 k (omega (arith, x, f.1, f.2, o1)) (omega (arith, o3, f.6, q, y)) f.4,
              option_holds step (suc k) b (omega (arith, x, f.1, f.2, o1, o2)) (omega (arith, f.6, q, y)) f.5,
            ),
            statement_holds (s.block b (end_of z)) z (sh.start_names g names) h.0 hi refl w.2 (omega (arith, x, p)) y h.2 (found_right env (s.in_start m owner g ++ s.in_option m owner test ++ s.in_option m owner step) _ r),
          )
      statement_holds scope (t.sCase at e b z) names lo hi l w x y h r =
          let p = ordered e (suc at) b h.1 in
          statement_holds scope z names (suc b) hi l w.3 (omega (arith, x, h.0, p)) y h.2 (found_right env (s.in_expression scope owner e) _ r)
      statement_holds scope (t.sDefault at b z) names lo hi l w x y h r = statement_holds scope z names (suc b) hi l w.1 (omega (arith, x, h.0, h.1)) y h.2 r
      statement_holds scope (t.sLabel n at b ats z) names lo hi l w x y h r = statement_holds scope z names h.0 hi l w.3 (omega (arith, x, h.1)) y h.2 r
      statement_holds scope (t.sGoto at n z b) names lo hi l w x y h r = tt
      statement_holds scope (t.sBreak at b) names lo hi l w x y h r = tt
      statement_holds scope (t.sContinue at b) names lo hi l w x y h r = tt
      statement_holds scope (t.sReturn at e b) names lo hi l w x y h r = option_holds e (suc at) b (omega (arith, x, h.0)) (omega (arith, h.2, y)) h.1

      pub statements_hold : (scope : s.Scope) (ss : t.Sts) (names : List (List ℕ)) (lo hi : ℕ) → s.is_file scope ≡ false → ShapedStatements ss names → low ≤ lo → hi ≤ high → InStatements lo ss hi → AllFound env (s.in_statements owner scope ss) → StatementsHold env ss
      statements_hold scope t.no_statements names lo hi l w x y h r = tt
      statements_hold scope (t.statements_and ss z) names lo hi l w x y h r =
          let p = ordered_statements ss lo h.0 h.1 in
          let q = ordered_statement z h.0 hi h.2 in (
            statements_hold scope ss names lo h.0 l w.0 x (omega (arith, q, y)) h.1 (found_left env (s.in_statements owner scope ss) _ r),
            statement_holds scope z (sh.block_names ss names) h.0 hi l w.1 (omega (arith, x, p)) y h.2 (found_right env (s.in_statements owner scope ss) _ r),
          )
