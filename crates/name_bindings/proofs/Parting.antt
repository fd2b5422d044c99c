-- What a part of a source adds is what its list of declarations adds.
use Rattle.std.proofs.Common.{◌≡◌, ℕ, suc, true, List, [], ◌∷◌, ◌++◌, Option, None, Some, refl, ap, ◌∙◌, sym}
use Rattle.lv_base.specs.declared.kind.Model.{Model}
use Rattle.c_tree.specs.Tree as t
use Rattle.c_meaning.specs.Tokens.{first_of_words, last_of, open_of, close_of, end_of}
use Rattle.c_meaning.specs.Scope as s
use Rattle.c_meaning.specs.Bindings.{Env}
use Rattle.c_meaning.specs.Constants as c
use Rattle.c_meaning.specs.Constants.{no_names, bind_from}
use Rattle.c_meaning.specs.Program.{env_of}
use Rattle.name_bindings.specs.Bound as bd
use Rattle.name_bindings.specs.Laws.{PartByPart}

bind_append : (model : Model) (env : Env) (xs ys : List s.Declared) → bind_from model env (xs ++ ys) ≡ bind_from model (bind_from model env xs) ys
bind_append model env [] ys = refl
bind_append model env (x ∷ xs) ys = bind_append model (c.declare model env x x.what) xs ys

module _ (model : Model) where
  -- one part behind another
  join : (env : Env) (xs ys : List s.Declared) (e f : Env) → e ≡ bind_from model env xs → f ≡ bind_from model e ys → f ≡ bind_from model env (xs ++ ys)
  join env xs ys e f p q = q ∙ ap (λ g. bind_from model g ys) p ∙ sym (bind_append model env xs ys)

  join_nil : (env : Env) (xs : List s.Declared) (e : Env) → e ≡ bind_from model env xs → e ≡ bind_from model env (xs ++ [])
  join_nil env xs e p = join env xs [] e e p refl

  module _ (scope : s.Scope) (owner : Option ℕ) where
    mutual
      expression_is : (env : Env) (e : t.Ex) → bd.expression model scope owner env e ≡ bind_from model env (s.in_expression scope owner e)
      expression_is env (t.eName n at) = refl
      expression_is env (t.eNumber v f at) = refl
      expression_is env (t.eLetter v at) = refl
      expression_is env (t.eParen a e b) = expression_is env e
      expression_is env (t.eCall f a es b) = join env (s.in_expression scope owner f) (s.in_parts scope owner es) (bd.expression model scope owner env f) _ (expression_is env f) (parts_is (bd.expression model scope owner env f) es)
      expression_is env (t.eIndex a x i y) = join env (s.in_expression scope owner a) (s.in_expression scope owner i) (bd.expression model scope owner env a) _ (expression_is env a) (expression_is (bd.expression model scope owner env a) i)
      expression_is env (t.ePostfix e c at) = expression_is env e
      expression_is env (t.ePrefix o at e) = expression_is env e
      expression_is env (t.eSizeof at a ws b) = words_is env ws
      expression_is env (t.eCast a ws b e) = join env (s.in_words scope owner ws) (s.in_expression scope owner e) (bd.words model scope owner env ws) _ (words_is env ws) (expression_is (bd.words model scope owner env ws) e)
      expression_is env (t.eBinary a o at b) = join env (s.in_expression scope owner a) (s.in_expression scope owner b) (bd.expression model scope owner env a) _ (expression_is env a) (expression_is (bd.expression model scope owner env a) b)
      expression_is env (t.eCond c x a y b) =
          join env (s.in_expression scope owner c ++ s.in_expression scope owner a) (s.in_expression scope owner b) (bd.expression model scope owner (bd.expression model scope owner env c) a) _
          (join env (s.in_expression scope owner c) (s.in_expression scope owner a) (bd.expression model scope owner env c) _ (expression_is env c) (expression_is (bd.expression model scope owner env c) a))
          (expression_is (bd.expression model scope owner (bd.expression model scope owner env c) a) b)
      expression_is env (t.eAssign a o at b) = join env (s.in_expression scope owner a) (s.in_expression scope owner b) (bd.expression model scope owner env a) _ (expression_is env a) (expression_is (bd.expression model scope owner env a) b)
      expression_is env (t.eComma es) = parts_is env es

      parts_is : (env : Env) (es : t.Parts) → bd.parts model scope owner env es ≡ bind_from model env (s.in_parts scope owner es)
      parts_is env t.no_parts = refl
      parts_is env (t.parts_and es c e) = join env (s.in_parts scope owner es) (s.in_expression scope owner e) (bd.parts model scope owner env es) _ (parts_is env es) (expression_is (bd.parts model scope owner env es) e)

      words_is : (env : Env) (ws : t.Words) → bd.words model scope owner env ws ≡ bind_from model env (s.in_words scope owner ws)
      words_is env t.no_words = refl
      words_is env (t.words_and ws w) = join env (s.in_words scope owner ws) (s.in_word scope owner w) (bd.words model scope owner env ws) _ (words_is env ws) (word_is (bd.words model scope owner env ws) w)

      word_is : (env : Env) (w : t.Word) → bd.word model scope owner env w ≡ bind_from model env (s.in_word scope owner w)
      word_is env (t.wType w at) = refl
      word_is env (t.wStorage w at) = refl
      word_is env (t.wConst w at) = refl
      word_is env (t.wExtension at) = refl
      word_is env (t.wAttribute a) = refl
      word_is env (t.wTypedef n at) = refl
      word_is env (t.wTag at n b) = refl
      word_is env (t.wEnum at a es c b) = enumerators_is env es
      word_is env (t.wTagEnum at n x a es c b) = join env (s.in_enumerators scope owner es) (s.declared scope owner n x b (s.aTag es) ∷ []) (bd.enumerators model scope owner env es) _ (enumerators_is env es) refl

      enumerators_is : (env : Env) (es : t.Ens) → bd.enumerators model scope owner env es ≡ bind_from model env (s.in_enumerators scope owner es)
      enumerators_is env t.no_enumerators = refl
      enumerators_is env (t.plain_and es c n at) = join env (s.in_enumerators scope owner es) (s.declared scope owner n at at (s.anEnumerator (t.plain_and es c n at)) ∷ []) (bd.enumerators model scope owner env es) _ (enumerators_is env es) refl
      enumerators_is env (t.valued_and es c n at a e) =
          join env (s.in_enumerators scope owner es ++ s.in_expression scope owner e) (s.declared scope owner n at (last_of e) (s.anEnumerator (t.valued_and es c n at a e)) ∷ []) (bd.expression model scope owner (bd.enumerators model scope owner env es) e) _
          (join env (s.in_enumerators scope owner es) (s.in_expression scope owner e) (bd.enumerators model scope owner env es) _ (enumerators_is env es) (expression_is (bd.enumerators model scope owner env es) e)) refl

    option_is : (env : Env) (e : Option t.Ex) → bd.option model scope owner env e ≡ bind_from model env (s.in_option scope owner e)
    option_is env None = refl
    option_is env (Some e) = expression_is env e

    params_is : (env : Env) (ps : t.Params) → bd.params model scope owner env ps ≡ bind_from model env (s.in_params scope owner ps)
    params_is env t.no_params = refl
    params_is env (t.params_and ps c ws None) =
        join env (s.in_params scope owner ps ++ s.in_words scope owner ws) (s.declared scope owner [] (first_of_words ws) (first_of_words ws) (s.aParameter ws) ∷ []) (bd.words model scope owner (bd.params model scope owner env ps) ws) _
        (join env (s.in_params scope owner ps) (s.in_words scope owner ws) (bd.params model scope owner env ps) _ (params_is env ps) (words_is (bd.params model scope owner env ps) ws)) refl
    params_is env (t.params_and ps c ws (Some (t.named n at))) =
        join env (s.in_params scope owner ps ++ s.in_words scope owner ws) (s.declared scope owner n at at (s.aParameter ws) ∷ []) (bd.words model scope owner (bd.params model scope owner env ps) ws) _
        (join env (s.in_params scope owner ps) (s.in_words scope owner ws) (bd.params model scope owner env ps) _ (params_is env ps) (words_is (bd.params model scope owner env ps) ws)) refl

    parameters_is : (env : Env) (ps : t.Parameters) → bd.parameters model scope owner env ps ≡ bind_from model env (s.in_parameters scope owner ps)
    parameters_is env (t.pSome a ps b) = params_is env ps
    parameters_is env (t.pUnknown a b) = refl
    parameters_is env (t.pVoid a at b) = refl

    names_is : (env : Env) (ps : t.Params) → bd.names model scope owner env ps ≡ bind_from model env (s.in_named scope owner ps)
    names_is env t.no_params = refl
    names_is env (t.params_and ps c ws None) = join env (s.in_named scope owner ps) (s.in_words scope owner ws) (bd.names model scope owner env ps) _ (names_is env ps) (words_is (bd.names model scope owner env ps) ws)
    names_is env (t.params_and ps c ws (Some (t.named n at))) =
        join env (s.in_named scope owner ps ++ s.in_words scope owner ws) (s.declared scope owner n at at (s.aName ws) ∷ []) (bd.words model scope owner (bd.names model scope owner env ps) ws) _
        (join env (s.in_named scope owner ps) (s.in_words scope owner ws) (bd.names model scope owner env ps) _ (names_is env ps) (words_is (bd.names model scope owner env ps) ws)) refl

    names_in_is : (env : Env) (ps : t.Parameters) → bd.names_in model scope owner env ps ≡ bind_from model env (s.in_names scope owner ps)
    names_in_is env (t.pSome a ps b) = names_is env ps
    names_in_is env (t.pUnknown a b) = refl
    names_in_is env (t.pVoid a at b) = refl

  prototype_is : (env : Env) (ps : t.Parameters) → bd.prototype model env ps ≡ bind_from model env (s.in_prototype ps)
  prototype_is env ps = names_in_is (s.block (open_of ps) (close_of ps)) None env ps

  module _ (scope : s.Scope) (owner : Option ℕ) where
    declarator_is : (env : Env) (ws : t.Words) (n : List ℕ) (at : ℕ) (f : t.Form) (i : t.Initial) → bd.declarator model scope owner env ws n at f i ≡ bind_from model env (s.in_declarator scope owner ws n at f i)
    declarator_is env ws n at t.fPlain i = refl
    declarator_is env ws n at (t.fArray a e b) i =
        join env (s.in_option scope owner e) (s.declared scope owner n at b (s.declared_as scope owner (s.has_typedef ws) ws (t.fArray a e b) i) ∷ []) (bd.option model scope owner env e) _ (option_is scope owner env e) refl
    declarator_is env ws n at (t.fFunction ps) i =
        join env (s.in_prototype ps) (s.declared scope owner n at (close_of ps) (s.declared_as scope owner (s.has_typedef ws) ws (t.fFunction ps) i) ∷ []) (bd.prototype model env ps) _ (prototype_is env ps) refl

    initial_is : (env : Env) (i : t.Initial) → bd.initial model scope owner env i ≡ bind_from model env (s.in_initial scope owner i)
    initial_is env t.iNothing = refl
    initial_is env (t.iValue at e) = expression_is scope owner env e
    initial_is env (t.iList at a es c b) = parts_is scope owner env es

    declarators_is : (env : Env) (ws : t.Words) (ds : t.Decs) → bd.declarators model scope owner env ws ds ≡ bind_from model env (s.in_declarators scope owner ws ds)
    declarators_is env ws t.no_declarators = refl
    declarators_is env ws (t.declarators_and ds c (t.named n at) f ats i) =
        join env (s.in_declarators scope owner ws ds ++ s.in_declarator scope owner ws n at f i) (s.in_initial scope owner i) (bd.declarator model scope owner (bd.declarators model scope owner env ws ds) ws n at f i) _
        (join env (s.in_declarators scope owner ws ds) (s.in_declarator scope owner ws n at f i) (bd.declarators model scope owner env ws ds) _ (declarators_is env ws ds) (declarator_is (bd.declarators model scope owner env ws ds) ws n at f i))
        (initial_is (bd.declarator model scope owner (bd.declarators model scope owner env ws ds) ws n at f i) i)

    declaration_is : (env : Env) (d : t.Declaration) → bd.declaration model scope owner env d ≡ bind_from model env (s.in_declaration scope owner d)
    declaration_is env (t.declares ws ds b) = join env (s.in_words scope owner ws) (s.in_declarators scope owner ws ds) (bd.words model scope owner env ws) _ (words_is scope owner env ws) (declarators_is (bd.words model scope owner env ws) ws ds)

    start_is : (env : Env) (i : t.ForStart) → bd.start model scope owner env i ≡ bind_from model env (s.in_start scope owner i)
    start_is env (t.forDeclares d) = declaration_is env d
    start_is env (t.forExpr e at) = option_is scope owner env e

  module _ (owner : Option ℕ) where
    mutual
      statement_is : (scope : s.Scope) (env : Env) (u : t.St) → bd.statement model owner scope env u ≡ bind_from model env (s.in_statement owner scope u)
      statement_is scope env (t.sDeclaration d) = declaration_is scope owner env d
      statement_is scope env (t.sBlock a ss b) = statements_is (s.block a b) env ss
      statement_is scope env (t.sEmpty at) = refl
      statement_is scope env (t.sExpr e at) = expression_is scope owner env e
      statement_is scope env (t.sIf (t.head at a e b) u) = join env (s.in_expression (s.block at (end_of u)) owner e) (s.in_statement owner (s.block b (end_of u)) u) (bd.expression model (s.block at (end_of u)) owner env e) _ (expression_is (s.block at (end_of u)) owner env e) (statement_is (s.block b (end_of u)) (bd.expression model (s.block at (end_of u)) owner env e) u)
      statement_is scope env (t.sIfElse (t.head at a e b) u x v) =
          let last = end_of v in
          join env (s.in_expression (s.block at last) owner e ++ s.in_statement owner (s.block b (end_of u)) u) (s.in_statement owner (s.block x last) v) (bd.statement model owner (s.block b (end_of u)) (bd.expression model (s.block at last) owner env e) u) _
          (join env (s.in_expression (s.block at last) owner e) (s.in_statement owner (s.block b (end_of u)) u) (bd.expression model (s.block at last) owner env e) _ (expression_is (s.block at last) owner env e) (statement_is (s.block b (end_of u)) (bd.expression model (s.block at last) owner env e) u))
          (statement_is (s.block x last) (bd.statement model owner (s.block b (end_of u)) (bd.expression model (s.block at last) owner env e) u) v)
      statement_is scope env (t.sWhile (t.head at a e b) u) = join env (s.in_expression (s.block at (end_of u)) owner e) (s.in_statement owner (s.block b (end_of u)) u) (bd.expression model (s.block at (end_of u)) owner env e) _ (expression_is (s.block at (end_of u)) owner env e) (statement_is (s.block b (end_of u)) (bd.expression model (s.block at (end_of u)) owner env e) u)
      statement_is scope env (t.sSwitch (t.head at a e b) u) = join env (s.in_expression (s.block at (end_of u)) owner e) (s.in_statement owner (s.block b (end_of u)) u) (bd.expression model (s.block at (end_of u)) owner env e) _ (expression_is (s.block at (end_of u)) owner env e) (statement_is (s.block b (end_of u)) (bd.expression model (s.block at (end_of u)) owner env e) u)
      statement_is scope env (t.sDo at u (t.head w a e b) x) =
          join env (s.in_statement owner (s.block (suc at) (end_of u)) u) (s.in_expression (s.block at x) owner e) (bd.statement model owner (s.block (suc at) (end_of u)) env u) _ (statement_is (s.block (suc at) (end_of u)) env u)
          (expression_is (s.block at x) owner (bd.statement model owner (s.block (suc at) (end_of u)) env u) e)
      statement_is scope env (t.sFor (t.for_head at a begin test x step b) u) =
          let whole = s.block at (end_of u) in
          join env (s.in_start whole owner begin ++ s.in_option whole owner test ++ s.in_option whole owner step) (s.in_statement owner (s.block b (end_of u)) u) (bd.option model whole owner (bd.option model whole owner (bd.start model whole owner env begin) test) step) _
          (join env (s.in_start whole owner begin ++ s.in_option whole owner test) (s.in_option whole owner step) (bd.option model whole owner (bd.start model whole owner env begin) test) _
          (join env (s.in_start whole owner begin) (s.in_option whole owner test) (bd.start model whole owner env begin) _ (start_is whole owner env begin) (option_is whole owner (bd.start model whole owner env begin) test))
          (option_is whole owner (bd.option model whole owner (bd.start model whole owner env begin) test) step))
          (statement_is (s.block b (end_of u)) (bd.option model whole owner (bd.option model whole owner (bd.start model whole owner env begin) test) step) u)
      statement_is scope env (t.sCase at e b u) = join env (s.in_expression scope owner e) (s.in_statement owner scope u) (bd.expression model scope owner env e) _ (expression_is scope owner env e) (statement_is scope (bd.expression model scope owner env e) u)
      statement_is scope env (t.sDefault at b u) = statement_is scope env u
      statement_is scope env (t.sLabel n at b ats u) = statement_is scope env u
      statement_is scope env (t.sGoto at n x b) = refl
      statement_is scope env (t.sBreak at b) = refl
      statement_is scope env (t.sContinue at b) = refl
      statement_is scope env (t.sReturn at e b) = option_is scope owner env e

      statements_is : (scope : s.Scope) (env : Env) (ss : t.Sts) → bd.statements model owner scope env ss ≡ bind_from model env (s.in_statements owner scope ss)
      statements_is scope env t.no_statements = refl
      statements_is scope env (t.statements_and ss u) = join env (s.in_statements owner scope ss) (s.in_statement owner scope u) (bd.statements model owner scope env ss) _ (statements_is scope env ss) (statement_is scope (bd.statements model owner scope env ss) u)

  function_is : (number : ℕ) (env : Env) (ws : t.Words) (n : List ℕ) (at : ℕ) (ps : t.Parameters) (body : t.Body) → bd.function model number env ws n at ps body ≡ bind_from model env (s.in_function number ws n at ps body)
  function_is number env ws n at ps (t.bSkipped a r b) =
      join env (s.in_words s.file None ws ++ s.in_prototype ps) (s.declared s.file None n at (close_of ps) (s.aFunction ws ps true) ∷ []) (bd.prototype model (bd.words model s.file None env ws) ps) _
      (join env (s.in_words s.file None ws) (s.in_prototype ps) (bd.words model s.file None env ws) _ (words_is s.file None env ws) (prototype_is (bd.words model s.file None env ws) ps)) refl
  function_is number env ws n at ps (t.bBlock a ss b) =
      let scope = s.block (open_of ps) b in
      let bound = bd.parameters model scope (Some number) (bd.words model s.file None env ws) ps in
      join env (s.in_words s.file None ws ++ s.in_parameters scope (Some number) ps ++ (s.declared s.file None n at (close_of ps) (s.aFunction ws ps true) ∷ [])) (s.in_statements (Some number) scope ss) (bd.whole_function model bound ws n at ps) _
      (join env (s.in_words s.file None ws ++ s.in_parameters scope (Some number) ps) (s.declared s.file None n at (close_of ps) (s.aFunction ws ps true) ∷ []) bound _
      (join env (s.in_words s.file None ws) (s.in_parameters scope (Some number) ps) (bd.words model s.file None env ws) _ (words_is s.file None env ws) (parameters_is scope (Some number) (bd.words model s.file None env ws) ps)) refl)
      (statements_is (Some number) scope (bd.whole_function model bound ws n at ps) ss)

  items_is : (env : Env) (is : t.Items) → bd.items model env is ≡ bind_from model env (s.in_items is)
  items_is env t.no_items = refl
  items_is env (t.items_and is (t.tSkipped x at r b)) = items_is env is
  items_is env (t.items_and is (t.tFunction ws (t.named n at) ps ats body)) =
      join env (s.in_items is) (s.in_function (s.count_bodies is) ws n at ps body) (bd.items model env is) _ (items_is env is) (function_is (s.count_bodies is) (bd.items model env is) ws n at ps body)
  items_is env (t.items_and is (t.tDeclaration d)) = join env (s.in_items is) (s.in_declaration s.file None d) (bd.items model env is) _ (items_is env is) (declaration_is s.file None (bd.items model env is) d)
  items_is env (t.items_and is (t.tEmpty at)) = items_is env is

  bound_is : (items : t.Items) → bd.of_items model items ≡ env_of items model
  bound_is items = items_is no_names items

pub part_by_part_is : PartByPart
part_by_part_is items model = bound_is model items
