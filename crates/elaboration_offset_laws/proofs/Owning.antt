-- What is declared in a function has the number of one of the functions with a body.
use Rattle.std.proofs.Common.{◌≡◌, ℕ, suc, ◌≤◌, ◌<◌, List, [], ◌∷◌, ◌++◌, length, Option, None, Some, refl, sym, subst, arith}
use Rattle.std.proofs.lemmas.List.{length-append}
use Rattle.lv_base.specs.declared.kind.Model.{Model}
use Rattle.c_tree.specs.Tree as t
use Rattle.c_meaning.specs.Tokens.{open_of, close_of, end_of}
use Rattle.c_meaning.specs.Scope as s
use Rattle.c_meaning.specs.Bindings.{Env, Object}
use Rattle.c_meaning.specs.Constants as c
use Rattle.c_meaning.specs.Program.{Function, functions_of}
use Rattle.elaboration_offset_laws.proofs.Growing.{AllNumbered, AllOf, length_as, step_of, next_numbered}

-- one of so many functions, or none
abbrev pub Below : ℕ → Option ℕ → Type 0
Below count None = Unit {0}
Below count (Some f) = f < count

abbrev pub AllBelow : ℕ → List s.Declared → Type 0
AllBelow count [] = Unit {0}
AllBelow count (d ∷ ds) = Below count d.owner × AllBelow count ds

below_both : (count : ℕ) (xs ys : List s.Declared) → AllBelow count xs → AllBelow count ys → AllBelow count (xs ++ ys)
below_both count [] ys h k = k
below_both count (x ∷ xs) ys h k = (h.0, below_both count xs ys h.1 k)

below_wider : (count more : ℕ) (o : Option ℕ) → count ≤ more → Below count o → Below more o
below_wider count more None l h = tt
below_wider count more (Some f) l h = omega (arith, l, h)

all_wider : (count more : ℕ) (ds : List s.Declared) → count ≤ more → AllBelow count ds → AllBelow more ds
all_wider count more [] l h = tt
all_wider count more (d ∷ ds) l h = (below_wider count more d.owner l h.0, all_wider count more ds l h.1)

module _ (count : ℕ) (scope : s.Scope) (owner : Option ℕ) (k : Below count owner) where
  mutual
    below_expression : (e : t.Ex) → AllBelow count (s.in_expression scope owner e)
    below_expression (t.eName n at) = tt
    below_expression (t.eNumber v f at) = tt
    below_expression (t.eLetter v at) = tt
    below_expression (t.eParen a e b) = below_expression e
    below_expression (t.eCall f a es b) = below_both count _ _ (below_expression f) (below_parts es)
    below_expression (t.eIndex a x i y) = below_both count _ _ (below_expression a) (below_expression i)
    below_expression (t.ePostfix e x at) = below_expression e
    below_expression (t.ePrefix o at e) = below_expression e
    below_expression (t.eSizeof at a ws b) = below_words ws
    below_expression (t.eCast a ws b e) = below_both count _ _ (below_words ws) (below_expression e)
    below_expression (t.eBinary a o at b) = below_both count _ _ (below_expression a) (below_expression b)
    below_expression (t.eCond g x a y b) = below_both count _ _ (below_both count _ _ (below_expression g) (below_expression a)) (below_expression b)
    below_expression (t.eAssign a o at b) = below_both count _ _ (below_expression a) (below_expression b)
    below_expression (t.eComma es) = below_parts es

    below_parts : (es : t.Parts) → AllBelow count (s.in_parts scope owner es)
    below_parts t.no_parts = tt
    below_parts (t.parts_and es x e) = below_both count _ _ (below_parts es) (below_expression e)

    below_words : (ws : t.Words) → AllBelow count (s.in_words scope owner ws)
    below_words t.no_words = tt
    below_words (t.words_and ws w) = below_both count _ _ (below_words ws) (below_word w)

    below_word : (w : t.Word) → AllBelow count (s.in_word scope owner w)
    below_word (t.wType v at) = tt
    below_word (t.wStorage v at) = tt
    below_word (t.wConst v at) = tt
    below_word (t.wExtension at) = tt
    below_word (t.wAttribute a) = tt
    below_word (t.wTypedef n at) = tt
    below_word (t.wTag at n b) = tt
    below_word (t.wEnum at a es x b) = below_enumerators es
    below_word (t.wTagEnum at n y a es x b) = below_both count _ _ (below_enumerators es) (k, tt)

    below_enumerators : (es : t.Ens) → AllBelow count (s.in_enumerators scope owner es)
    below_enumerators t.no_enumerators = tt
    below_enumerators (t.plain_and es x n at) = below_both count _ _ (below_enumerators es) (k, tt)
    below_enumerators (t.valued_and es x n at a e) = below_both count _ _ (below_both count _ _ (below_enumerators es) (below_expression e)) (k, tt)

  below_option : (e : Option t.Ex) → AllBelow count (s.in_option scope owner e)
  below_option None = tt
  below_option (Some e) = below_expression e

  below_params : (ps : t.Params) → AllBelow count (s.in_params scope owner ps)
  below_params t.no_params = tt
  below_params (t.params_and ps x ws None) = below_both count _ _ (below_both count _ _ (below_params ps) (below_words ws)) (k, tt)
  below_params (t.params_and ps x ws (Some (t.named n at))) = below_both count _ _ (below_both count _ _ (below_params ps) (below_words ws)) (k, tt)

  below_parameters : (ps : t.Parameters) → AllBelow count (s.in_parameters scope owner ps)
  below_parameters (t.pUnknown a b) = tt
  below_parameters (t.pVoid a at b) = tt
  below_parameters (t.pSome a ps b) = below_params ps

  below_named : (ps : t.Params) → AllBelow count (s.in_named scope owner ps)
  below_named t.no_params = tt
  below_named (t.params_and ps x ws None) = below_both count _ _ (below_named ps) (below_words ws)
  below_named (t.params_and ps x ws (Some (t.named n at))) = below_both count _ _ (below_both count _ _ (below_named ps) (below_words ws)) (k, tt)

  below_names : (ps : t.Parameters) → AllBelow count (s.in_names scope owner ps)
  below_names (t.pUnknown a b) = tt
  below_names (t.pVoid a at b) = tt
  below_names (t.pSome a ps b) = below_named ps

below_prototype : (count : ℕ) (ps : t.Parameters) → AllBelow count (s.in_prototype ps)
below_prototype count ps = below_names count (s.block (open_of ps) (close_of ps)) None tt ps

module _ (count : ℕ) (scope : s.Scope) (owner : Option ℕ) (k : Below count owner) where
  below_declarator : (ws : t.Words) (n : List ℕ) (at : ℕ) (f : t.Form) (i : t.Initial) → AllBelow count (s.in_declarator scope owner ws n at f i)
  below_declarator ws n at t.fPlain i = (k, tt)
  below_declarator ws n at (t.fArray a e b) i = below_both count _ _ (below_option count scope owner k e) (k, tt)
  below_declarator ws n at (t.fFunction ps) i = below_both count _ _ (below_prototype count ps) (k, tt)

  below_initial : (i : t.Initial) → AllBelow count (s.in_initial scope owner i)
  below_initial t.iNothing = tt
  below_initial (t.iValue at e) = below_expression count scope owner k e
  below_initial (t.iList at a es x b) = below_parts count scope owner k es

  below_declarators : (ws : t.Words) (ds : t.Decs) → AllBelow count (s.in_declarators scope owner ws ds)
  below_declarators ws t.no_declarators = tt
  below_declarators ws (t.declarators_and ds x (t.named n at) f ats i) = below_both count _ _ (below_both count _ _ (below_declarators ws ds) (below_declarator ws n at f i)) (below_initial i)

  below_declaration : (d : t.Declaration) → AllBelow count (s.in_declaration scope owner d)
  below_declaration (t.declares ws ds b) = below_both count _ _ (below_words count scope owner k ws) (below_declarators ws ds)

  below_start : (g : t.ForStart) → AllBelow count (s.in_start scope owner g)
  below_start (t.forDeclares d) = below_declaration d
  below_start (t.forExpr e at) = below_option count scope owner k e

module _ (count : ℕ) (owner : Option ℕ) (k : Below count owner) where
  mutual
    below_statement : (scope : s.Scope) (x : t.St) → AllBelow count (s.in_statement owner scope x)
    below_statement scope (t.sDeclaration d) = below_declaration count scope owner k d
    below_statement scope (t.sBlock a ss b) = below_statements (s.block a b) ss
    below_statement scope (t.sEmpty at) = tt
    below_statement scope (t.sExpr e at) = below_expression count scope owner k e
    below_statement scope (t.sIf (t.head at a e b) x) = below_both count _ _ (below_expression count (s.block at (end_of x)) owner k e) (below_statement (s.block b (end_of x)) x)
    below_statement scope (t.sIfElse (t.head at a e b) x y z) =
        below_both count _ _ (below_both count _ _ (below_expression count (s.block at (end_of z)) owner k e) (below_statement (s.block b (end_of x)) x)) (below_statement (s.block y (end_of z)) z)
    below_statement scope (t.sWhile (t.head at a e b) x) = below_both count _ _ (below_expression count (s.block at (end_of x)) owner k e) (below_statement (s.block b (end_of x)) x)
    below_statement scope (t.sSwitch (t.head at a e b) x) = below_both count _ _ (below_expression count (s.block at (end_of x)) owner k e) (below_statement (s.block b (end_of x)) x)
    below_statement scope (t.sDo at x (t.head v a e b) y) = below_both count _ _ (below_statement (s.block (suc at) (end_of x)) x) (below_expression count (s.block at y) owner k e)
    below_statement scope (t.sFor (t.for_head at a g test x step b) y) =
        below_both count _ _ (below_both count _ _ (below_both count _ _ (below_start count (s.block at (end_of y)) owner k g) (below_option count (s.block at (end_of y)) owner k test))
        (below_option count (s.block at (end_of y)) owner k step)) (below_statement (s.block b (end_of y)) y)
    below_statement scope (t.sCase at e b x) = below_both count _ _ (below_expression count scope owner k e) (below_statement scope x)
    below_statement scope (t.sDefault at b x) = below_statement scope x
    below_statement scope (t.sLabel n at b ats x) = below_statement scope x
    below_statement scope (t.sGoto at n x b) = tt
    below_statement scope (t.sBreak at b) = tt
    below_statement scope (t.sContinue at b) = tt
    below_statement scope (t.sReturn at e b) = below_option count scope owner k e

    below_statements : (scope : s.Scope) (ss : t.Sts) → AllBelow count (s.in_statements owner scope ss)
    below_statements scope t.no_statements = tt
    below_statements scope (t.statements_and ss x) = below_both count _ _ (below_statements scope ss) (below_statement scope x)

below_function : (count number : ℕ) (ws : t.Words) (n : List ℕ) (at : ℕ) (ps : t.Parameters) (a z : ℕ) (ss : t.Sts) → number < count → AllBelow count (s.in_function number ws n at ps (t.bBlock a ss z))
below_function count number ws n at ps a z ss l =
    let scope = s.block (open_of ps) z in
    below_both count _ _ (below_both count _ _ (below_both count _ _ (below_words count s.file None tt ws) (below_parameters count scope (Some number) l ps)) (tt, tt)) (below_statements count (Some number) l scope ss)

below_skipped : (count number : ℕ) (ws : t.Words) (n : List ℕ) (at : ℕ) (ps : t.Parameters) (a z : ℕ) (r : t.Raw) → AllBelow count (s.in_function number ws n at ps (t.bSkipped a r z))
below_skipped count number ws n at ps a z r = below_both count _ _ (below_both count _ _ (below_words count s.file None tt ws) (below_prototype count ps)) (tt, tt)

pub below_items : (is : t.Items) → AllBelow (s.count_bodies is) (s.in_items is)
below_items t.no_items = tt
below_items (t.items_and is (t.tSkipped x at r b)) = below_items is
below_items (t.items_and is (t.tEmpty at)) = below_items is
below_items (t.items_and is (t.tDeclaration d)) = below_both (s.count_bodies is) _ _ (below_items is) (below_declaration (s.count_bodies is) s.file None tt d)
below_items (t.items_and is (t.tFunction ws (t.named n at) ps ats (t.bSkipped a r z))) = below_both (s.count_bodies is) _ _ (below_items is) (below_skipped (s.count_bodies is) (s.count_bodies is) ws n at ps a z r)
below_items (t.items_and is (t.tFunction ws (t.named n at) ps ats (t.bBlock a ss z))) =
    let count = s.count_bodies is in
    below_both (suc count) _ _ (all_wider count (suc count) (s.in_items is) (omega arith) (below_items is)) (below_function (suc count) count ws n at ps a z ss (omega arith))

counted_more : (fs : List Function) (g : Function) (n : ℕ) → length fs ≡ n → length (fs ++ g ∷ []) ≡ suc n
counted_more fs g n h = let e = length-append fs (g ∷ []) in omega (arith, e, h)

pub bodies_counted : (env : Env) (is : t.Items) → length (functions_of env is) ≡ s.count_bodies is
bodies_counted env t.no_items = refl
bodies_counted env (t.items_and is (t.tSkipped x at r b)) = bodies_counted env is
bodies_counted env (t.items_and is (t.tEmpty at)) = bodies_counted env is
bodies_counted env (t.items_and is (t.tDeclaration d)) = bodies_counted env is
bodies_counted env (t.items_and is (t.tFunction ws (t.named n at) ps ats (t.bSkipped a r z))) = bodies_counted env is
bodies_counted env (t.items_and is (t.tFunction ws (t.named n at) ps ats (t.bBlock a ss z))) =
    counted_more (functions_of env is) _ (s.count_bodies is) (bodies_counted env is)

-- ---- The objects

abbrev pub AllOwned : ℕ → List Object → Type 0
AllOwned count [] = Unit {0}
AllOwned count (o ∷ os) = Below count o.owner × AllOwned count os

owned_more : (count : ℕ) (length owner : Option ℕ) (os more : List Object) → AllOwned count os → AllOf length owner more → Below count owner → AllOwned count (os ++ more)
owned_more count length owner [] [] h a k = tt
owned_more count length owner [] (o ∷ more) h a k = (subst (Below count) (sym a.1) k, owned_more count length owner [] more h a.2 k)
owned_more count length owner (o ∷ os) more h a k = (h.0, owned_more count length owner os more h.1 a k)

pub all_owned : (count : ℕ) (model : Model) (env : Env) (ds : List s.Declared) → AllNumbered (length env.objects) env.entries → AllOwned count env.objects → AllBelow count ds → AllOwned count (c.bind_from model env ds).objects
all_owned count model env [] k h b = h
all_owned count model env (d ∷ ds) k h b =
    let step = step_of model env d d.what k in
    all_owned count model (c.declare model env d d.what) ds (next_numbered model env d d.what _ step k)
    (subst (AllOwned count) (sym step.objects) (owned_more count (length_as model env d.what) d.owner env.objects step.more h step.all b.0)) b.1
