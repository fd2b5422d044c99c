-- The declarations of declarators, statements and items lie where these stand.
use Rattle.std.proofs.Common.{◌≡◌, ℕ, suc, ◌≤◌, Bool, true, false, List, [], ◌++◌, Option, None, Some, refl, arith}
use Rattle.lv_base.specs.declared.kind.Kind.{Kind}
use Rattle.c_tree.specs.Tree as t
use Rattle.c_tree.specs.declared.known.Site.{Site}
use Rattle.c_tree.specs.declared.known.Site.TheVariants as site
use Rattle.c_tree.specs.declared.known.Known.{Known as Told}
use Rattle.c_tree.specs.Shape as sh
use Rattle.c_tree.specs.Shape.{ShapedOption, ShapedInitial, ShapedForm, ShapedDeclarators, ShapedDeclaration, ShapedForStart, ShapedStatement, ShapedStatements, may_declare, declared, are_no_parts}
use Rattle.c_meaning.specs.Tokens.{count_parts, close_of, end_of}
use Rattle.c_meaning.specs.Scope as s
use Rattle.c_meaning.specs.Rules as rules
use Rattle.elaboration_offset_laws.proofs.Logic.{nil_left, nil_right, line_holds, and_left}
use Rattle.elaboration_offset_laws.proofs.Standing.{In, InOption, itself}
use Rattle.elaboration_offset_laws.proofs.Statements.{InForm, InInitial, InDeclarators, InDeclaration, InStart, InStatement, InStatements, ordered_declarators}
use Rattle.elaboration_offset_laws.proofs.Lying.{Known, Room, nowhere, within, Allows, Sized, Begun, NameLies, ObjectLies, Placed, wider, stretch, join, empty, one, late, lift, alike, inner_room}
use Rattle.elaboration_offset_laws.proofs.Placing.{placed, placed_parts, placed_words, placed_option, placed_prototype, close_in}

-- ---- What a declarator declares

module _ (scope : s.Scope) (owner : Option ℕ) where
  as_named : (b : Bool) (p : Room) (ws : t.Words) (f : t.Form) (i : t.Initial) → NameLies p (s.declared_as scope owner b ws f i) scope
  as_named true p ws f i = tt
  as_named false p ws t.fPlain i = tt
  as_named false p ws (t.fArray a e b) i = tt
  as_named false p ws (t.fFunction ps) i = tt

  as_object : (b : Bool) (ws : t.Words) (f : t.Form) (i : t.Initial) → ObjectLies true (s.declared_as scope owner b ws f i)
  as_object true ws f i = tt
  as_object false ws t.fPlain i = refl
  as_object false ws (t.fArray a e b) i = refl
  as_object false ws (t.fFunction ps) i = tt

  as_sized : (c : Known) (b : Bool) (at from : ℕ) (ws : t.Words) (f : t.Form) (i : t.Initial) → Sized c at from (s.anObject ws f i) → Sized c at from (s.declared_as scope owner b ws f i)
  as_sized c true at from ws f i h = tt
  as_sized c false at from ws t.fPlain i h = tt
  as_sized c false at from ws (t.fArray a e b) i h = h
  as_sized c false at from ws (t.fFunction ps) i h = tt

  as_begun : (c : Known) (b : Bool) (ws : t.Words) (f : t.Form) (i : t.Initial) → Begun c (s.anObject ws f i) → Begun c (s.declared_as scope owner b ws f i)
  as_begun c true ws f i h = tt
  as_begun c false ws t.fPlain i h = h
  as_begun c false ws (t.fArray a e b) i h = h
  as_begun c false ws (t.fFunction ps) i h = tt

  function_begun : (c : Known) (b : Bool) (ws : t.Words) (ps : t.Parameters) (i : t.Initial) → Begun c (s.declared_as scope owner b ws (t.fFunction ps) i)
  function_begun c true ws ps i = tt
  function_begun c false ws ps i = tt

plain_begun : (c : Known) (place : Site) (k : Told) (ws : t.Words) (i : t.Initial) → may_declare place k t.fPlain i ≡ true → Begun c (s.anObject ws t.fPlain i)
plain_begun c place k ws t.iNothing m = tt
plain_begun c place k ws (t.iValue at e) m = tt
plain_begun c place k ws (t.iList at a es x b) m = cc

array_begun : (c : Known) (static : Bool) (place : Site) (k : Told) (a b : ℕ) (e : Option t.Ex) (ws : t.Words) (i : t.Initial) → may_declare place k (t.fArray a e b) i ≡ true →
    rules.faults_of_initial c.env c.model c.bodies static (t.fArray a e b) i ≡ [] → Begun c (s.anObject ws (t.fArray a e b) i)
array_begun c static place k a b e ws t.iNothing m l = tt
array_begun c static place k a b None ws (t.iValue at v) m l = cc
array_begun c static place k a b (Some e) ws (t.iValue at v) m l = cc
array_begun c static place k a b e ws (t.iList at q es x y) m l = line_holds _ _ _ (nil_left _ _ l)

some_parts : (es : t.Parts) → are_no_parts es ≡ false → suc 0 ≤ count_parts es
some_parts t.no_parts h = cc
some_parts (t.parts_and es c e) h = omega arith

array_sized : (c : Known) (names : List (List ℕ)) (place : Site) (k : Told) (at a b : ℕ) (e : Option t.Ex) (ws : t.Words) (i : t.Initial) → may_declare place k (t.fArray a e b) i ≡ true → ShapedInitial names i →
    suc at ≤ a → InOption (suc a) e b → rules.faults_of_form c.env c.model c.bodies (t.fArray a e b) ≡ [] → Sized c at (suc b) (s.anObject ws (t.fArray a e b) i)
array_sized c names place k at a b (Some e) ws i m w l o h = (h, o, l, itself (suc b))
array_sized c names place k at a b None ws t.iNothing m w l o h = cc
array_sized c names place k at a b None ws (t.iValue x e) m w l o h = cc
array_sized c names place k at a b None ws (t.iList x y es z v) m w l o h = some_parts es w.0

function_in_file : (place : Site) (k : Told) (ps : t.Parameters) (i : t.Initial) → may_declare place k (t.fFunction ps) i ≡ true → sh.is_file place ≡ true
function_in_file place k ps t.iNothing h = and_left (sh.is_file place) _ h
function_in_file place k ps (t.iValue x e) h = cc
function_in_file place k ps (t.iList x y es z v) h = cc

module _ (c : Known) (scope : s.Scope) (owner : Option ℕ) where
  pub placed_declarator : (names : List (List ℕ)) (place : Site) (k : Told) (static : Bool) (p : Room) (ws : t.Words) (n : List ℕ) (at : ℕ) (f : t.Form) (i : t.Initial) (hi : ℕ) →
      may_declare place k f i ≡ true → ShapedForm names f → ShapedInitial names i → InForm (suc at) f hi → rules.faults_of_form c.env c.model c.bodies f ≡ [] →
      rules.faults_of_initial c.env c.model c.bodies static f i ≡ [] → (sh.is_file place ≡ true → Allows (within (suc at) hi) p) → Placed c p true at hi (s.in_declarator scope owner ws n at f i)
  placed_declarator names place k static p ws n at t.fPlain i hi m v w h l z r =
      one (record {
        low = itself at;
        high = h;
        own = itself (suc at);
        stop = h;
        name = as_named scope owner (s.has_typedef ws) p ws t.fPlain i;
        object = as_object scope owner (s.has_typedef ws) ws t.fPlain i;
        sized = as_sized scope owner c (s.has_typedef ws) at (suc at) ws t.fPlain i tt;
        begun = as_begun scope owner c (s.has_typedef ws) ws t.fPlain i (plain_begun c place k ws i m);
      })
  placed_declarator names place k static p ws n at (t.fArray a e b) i hi m v w h l z r =
      let o = placed_option c scope owner names 2 e (suc a) b v h.1 in
      let q = o.ordered in
      late (lift o) (omega (arith, h.0)) (omega (arith, h.2))
      (record {
        low = itself at;
        high = omega (arith, h.0, q, h.2);
        own = omega (arith, h.0, q);
        stop = h.2;
        name = as_named scope owner (s.has_typedef ws) p ws (t.fArray a e b) i;
        object = as_object scope owner (s.has_typedef ws) ws (t.fArray a e b) i;
        sized = as_sized scope owner c (s.has_typedef ws) at (suc b) ws (t.fArray a e b) i (array_sized c names place k at a b e ws i m w h.0 h.1 l);
        begun = as_begun scope owner c (s.has_typedef ws) ws (t.fArray a e b) i (array_begun c static place k a b e ws i m z);
      })
      (omega (arith, h.0))
  placed_declarator names place k static p ws n at (t.fFunction ps) i hi m v w h l z r =
      let o = placed_prototype c names ps (suc at) hi v h in
      let q = close_in ps (suc at) hi h in
      late (wider o (r (function_in_file place k ps i m)) (alike false) (itself (suc at)) (itself hi)) (omega arith) (itself hi)
      (record {
        low = itself at;
        high = omega (arith, q.0, q.1);
        own = omega (arith, q.0);
        stop = q.1;
        name = as_named scope owner (s.has_typedef ws) p ws (t.fFunction ps) i;
        object = as_object scope owner (s.has_typedef ws) ws (t.fFunction ps) i;
        sized = as_sized scope owner c (s.has_typedef ws) at (suc (close_of ps)) ws (t.fFunction ps) i tt;
        begun = function_begun scope owner c (s.has_typedef ws) ws ps i;
      })
      (itself (suc at))

  pub placed_initial : (names : List (List ℕ)) (i : t.Initial) (lo hi : ℕ) → ShapedInitial names i → InInitial lo i hi → Placed c nowhere false lo hi (s.in_initial scope owner i)
  placed_initial names t.iNothing lo hi w h = empty h
  placed_initial names (t.iValue at e) lo hi w h = stretch lo hi (placed c scope owner names e (suc at) hi w.1 h.1) (omega (arith, h.0)) (itself hi)
  placed_initial names (t.iList at a es x b) lo hi w h = stretch lo hi (placed_parts c scope owner names es (suc a) h.0 w.1 h.3) (omega (arith, h.1, h.2)) (omega (arith, h.4, h.5))

  pub placed_declarators : (names : List (List ℕ)) (place : Site) (k : Told) (static : Bool) (p : Room) (ws : t.Words) (ds : t.Decs) (lo hi : ℕ) →
      ShapedDeclarators place k names ds → InDeclarators lo ds hi → rules.faults_of_declarators c.env c.model c.bodies static ds ≡ [] →
      (sh.is_file place ≡ true → Allows (within lo hi) p) → Placed c p true lo hi (s.in_declarators scope owner ws ds)
  placed_declarators names place k static p ws t.no_declarators lo hi w h l r = empty h
  placed_declarators names place k static p ws (t.declarators_and ds x (t.named n at) f ats i) lo hi w h l r =
      let front = nil_left (rules.faults_of_declarators c.env c.model c.bodies static ds ++ rules.faults_of_form c.env c.model c.bodies f) _ l in
      let last = placed_initial (declared k ds names) i h.2 hi w.6 h.7 in
      let ll = last.ordered in
      let lm = ordered_declarators ds lo h.0 h.3 in
      let own = placed_declarator (declared k ds names) place k static p ws n at f i h.1 w.2 w.4 w.6 h.5 (nil_right (rules.faults_of_declarators c.env c.model c.bodies static ds) _ front)
      (nil_right (rules.faults_of_declarators c.env c.model c.bodies static ds ++ rules.faults_of_form c.env c.model c.bodies f) _ l)
      (λ q. inner_room p lo hi (suc at) h.1 (omega (arith, lm, h.4)) (omega (arith, h.6, ll)) (r q)) in
      let lk = own.ordered in
      join (join (placed_declarators names place k static p ws ds lo h.0 w.0 h.3 (nil_left (rules.faults_of_declarators c.env c.model c.bodies static ds) _ front)
      (λ q. inner_room p lo hi lo h.0 (itself lo) (omega (arith, h.4, lk, h.6, ll)) (r q))) own h.4) (lift last) h.6

module _ (c : Known) where
  pub placed_declaration : (scope : s.Scope) (owner : Option ℕ) (names : List (List ℕ)) (place : Site) (static : Bool) (p : Room) (d : t.Declaration) (lo hi : ℕ) →
      ShapedDeclaration place names d → InDeclaration lo d hi → rules.faults_of_declaration c.env c.model c.bodies static d ≡ [] →
      (sh.is_file place ≡ true → Allows (within lo hi) p) → Placed c p true lo hi (s.in_declaration scope owner d)
  placed_declaration scope owner names place static p (t.declares ws ds b) lo hi w h l r =
      let front = placed_words c scope owner names ws lo h.0 w.words h.1 in
      let o = front.ordered in
      join (lift front)
      (stretch h.0 hi (placed_declarators c scope owner names place w.specs.told static p ws ds h.0 b w.declarators h.2 (nil_right (rules.faults_of_words c.env c.model c.bodies ws) _ l)
      (λ q. inner_room p lo hi h.0 b o (omega (arith, h.3)) (r q))) (itself h.0) (omega (arith, h.3))) (itself h.0)

  block_no_file : (p : Room) (a b : ℕ) → sh.is_file site.Block ≡ true → Allows (within a b) p
  block_no_file p a b h = cc

  placed_start : (scope : s.Scope) (owner : Option ℕ) (names : List (List ℕ)) (g : t.ForStart) (lo hi : ℕ) → ShapedForStart names g → InStart lo g hi → rules.faults_of_start c.env c.model c.bodies g ≡ [] →
      Placed c nowhere true lo hi (s.in_start scope owner g)
  placed_start scope owner names (t.forDeclares d) lo hi w h l = placed_declaration scope owner names site.Block false nowhere d lo hi w h l (block_no_file nowhere lo hi)
  placed_start scope owner names (t.forExpr e at) lo hi w h l = stretch lo hi (lift (placed_option c scope owner names 0 e lo at w h.0)) (itself lo) (omega (arith, h.1))

  module _ (owner : Option ℕ) (result : Option Kind) where
    -- the condition of a statement, and the statement behind it
    placed_after : (scope : s.Scope) (names : List (List ℕ)) (g : t.Head) (at : ℕ) (e : t.Ex) (lo m : ℕ) → sh.Shaped names e → (a b : ℕ) → (lo ≤ at) × (suc at ≤ a) × In (suc a) e b × (suc b ≤ m) → Placed c nowhere true lo m (s.in_expression scope owner e)
    placed_after scope names g at e lo m w a b h = stretch lo m (lift (placed c scope owner names e (suc a) b w h.2)) (omega (arith, h.0, h.1)) (omega (arith, h.3))

    mutual
      placed_statement : (scope : s.Scope) (st : t.St) (names : List (List ℕ)) (lo hi : ℕ) → ShapedStatement st names → InStatement lo st hi → rules.faults_of_statement c.env c.model c.bodies result st ≡ [] →
          Placed c nowhere true lo hi (s.in_statement owner scope st)
      placed_statement scope (t.sDeclaration d) names lo hi w h l = placed_declaration scope owner names site.Block false nowhere d lo hi w h l (block_no_file nowhere lo hi)
      placed_statement scope (t.sBlock a ss b) names lo hi w h l = stretch lo hi (placed_statements (s.block a b) ss names (suc a) b w h.1 l) (omega (arith, h.0)) (omega (arith, h.2))
      placed_statement scope (t.sEmpty at) names lo hi w h l = empty h
      placed_statement scope (t.sExpr e at) names lo hi w h l = stretch lo hi (lift (placed c scope owner names e lo at w h.0)) (itself lo) (omega (arith, h.1))
      placed_statement scope (t.sIf (t.head at a e b) x) names lo hi w h l =
          join (placed_after (s.block at (end_of x)) names (t.head at a e b) at e lo h.0 w.0 a b h.1)
          (placed_statement (s.block b (end_of x)) x names h.0 hi w.2 h.2 (nil_right (rules.faults_of_value c.env c.model c.bodies e) _ l)) (itself h.0)
      placed_statement scope (t.sIfElse (t.head at a e b) x y z) names lo hi w h l =
          let front = nil_left (rules.faults_of_value c.env c.model c.bodies e ++ rules.faults_of_statement c.env c.model c.bodies result x) _ l in
          join (join (placed_after (s.block at (end_of z)) names (t.head at a e b) at e lo h.0 w.0 a b h.1)
          (placed_statement (s.block b (end_of x)) x names h.0 y w.4 h.2 (nil_right (rules.faults_of_value c.env c.model c.bodies e) _ front)) (itself h.0))
          (placed_statement (s.block y (end_of z)) z names (suc y) hi w.5 h.3 (nil_right (rules.faults_of_value c.env c.model c.bodies e ++ rules.faults_of_statement c.env c.model c.bodies result x) _ l)) (omega arith)
      placed_statement scope (t.sWhile (t.head at a e b) x) names lo hi w h l =
          join (placed_after (s.block at (end_of x)) names (t.head at a e b) at e lo h.0 w.0 a b h.1)
          (placed_statement (s.block b (end_of x)) x names h.0 hi w.2 h.2 (nil_right (rules.faults_of_value c.env c.model c.bodies e) _ l)) (itself h.0)
      placed_statement scope (t.sSwitch (t.head at a e b) x) names lo hi w h l =
          let front = nil_left (rules.faults_of_value c.env c.model c.bodies e ++ rules.faults_of_statement c.env c.model c.bodies result x) _ l in
          join (placed_after (s.block at (end_of x)) names (t.head at a e b) at e lo h.0 w.0 a b h.1)
          (placed_statement (s.block b (end_of x)) x names h.0 hi w.2 h.2 (nil_right (rules.faults_of_value c.env c.model c.bodies e) _ front)) (itself h.0)
      placed_statement scope (t.sDo at x (t.head v a e b) y) names lo hi w h l =
          join (stretch lo h.0 (placed_statement (s.block (suc at) (end_of x)) x names (suc at) h.0 w.2 h.2 (nil_left _ _ l)) (omega (arith, h.1)) (itself h.0))
          (stretch h.0 hi (placed_after (s.block at y) names (t.head v a e b) v e h.0 y w.0 a b h.3) (itself h.0) (omega (arith, h.4))) (itself h.0)
      placed_statement scope (t.sFor (t.for_head at a g test x step b) y) names lo hi w h l =
          let front = nil_left (rules.faults_of_start c.env c.model c.bodies g ++ rules.faults_of_test c.env c.model c.bodies test ++ rules.faults_of_option c.env c.model c.bodies step) _ l in
          let fore = nil_left (rules.faults_of_start c.env c.model c.bodies g ++ rules.faults_of_test c.env c.model c.bodies test) _ front in
          let p = h.1 in
          join (join (join (stretch lo p.0 (placed_start (s.block at (end_of y)) owner names g (suc a) p.0 w.0.0 p.3 (nil_left _ _ fore)) (omega (arith, p.1, p.2)) (itself p.0))
          (lift (placed_option c (s.block at (end_of y)) owner (sh.start_names g names) 0 test p.0 x w.0.1 p.4)) (itself p.0))
          (stretch (suc x) h.0 (lift (placed_option c (s.block at (end_of y)) owner (sh.start_names g names) 0 step (suc x) b w.0.2 p.5)) (itself (suc x)) (omega (arith, p.6))) (omega arith))
          (placed_statement (s.block b (end_of y)) y (sh.start_names g names) h.0 hi w.2 h.2
          (nil_right (rules.faults_of_start c.env c.model c.bodies g ++ rules.faults_of_test c.env c.model c.bodies test ++ rules.faults_of_option c.env c.model c.bodies step) _ l)) (itself h.0)
      placed_statement scope (t.sCase at e b x) names lo hi w h l =
          join (stretch lo b (lift (placed c scope owner names e (suc at) b w.1 h.1)) (omega (arith, h.0)) (itself b))
          (placed_statement scope x names (suc b) hi w.3 h.2 (nil_right (rules.faults_of_constant c.env c.model c.bodies e) _ l)) (omega arith)
      placed_statement scope (t.sDefault at b x) names lo hi w h l = stretch lo hi (placed_statement scope x names (suc b) hi w.1 h.2 l) (omega (arith, h.0, h.1)) (itself hi)
      placed_statement scope (t.sLabel n at b ats x) names lo hi w h l = stretch lo hi (placed_statement scope x names h.0 hi w.3 h.2 l) h.1 (itself hi)
      placed_statement scope (t.sGoto at n x b) names lo hi w h l = empty h
      placed_statement scope (t.sBreak at b) names lo hi w h l = empty h
      placed_statement scope (t.sContinue at b) names lo hi w h l = empty h
      placed_statement scope (t.sReturn at e b) names lo hi w h l = stretch lo hi (lift (placed_option c scope owner names 0 e (suc at) b w h.1)) (omega (arith, h.0)) (omega (arith, h.2))

      pub placed_statements : (scope : s.Scope) (ss : t.Sts) (names : List (List ℕ)) (lo hi : ℕ) → ShapedStatements ss names → InStatements lo ss hi → rules.faults_of_statements c.env c.model c.bodies result ss ≡ [] →
          Placed c nowhere true lo hi (s.in_statements owner scope ss)
      placed_statements scope t.no_statements names lo hi w h l = empty h
      placed_statements scope (t.statements_and ss x) names lo hi w h l =
          join (placed_statements scope ss names lo h.0 w.0 h.1 (nil_left _ _ l))
          (placed_statement scope x (sh.block_names ss names) h.0 hi w.1 h.2 (nil_right (rules.faults_of_statements c.env c.model c.bodies result ss) _ l)) (itself h.0)
