-- What a source declares, in its order, and how far each declaration reaches (C11 6.2.1).
use Rattle.std.specs.Prelude.{ℕ, suc, nat_eq, nat_le, Bool, true, false, ◌&&◌, List, [], ◌∷◌, ◌++◌, Option, Some, None}
use Rattle.c_tree.specs.declared.symbol.StorageWord.TheVariants as storage
use Rattle.c_tree.specs.Tree.{Ex, eName, eNumber, eLetter, eParen, eCall, eIndex, ePostfix, ePrefix, eSizeof, eCast, eBinary, eCond, eAssign, eComma, Parts, no_parts, parts_and, Words, no_words, words_and, Word, wStorage, wEnum, wTagEnum, Ens, no_enumerators, plain_and, valued_and, named, Params, no_params, params_and, Parameters, pSome, Form, fPlain, fArray, fFunction, Initial, iNothing, iValue, iList, Decs, no_declarators, declarators_and, Declaration, declares, head, ForStart, forDeclares, forExpr, for_head, St, sDeclaration, sBlock, sEmpty, sExpr, sIf, sIfElse, sWhile, sSwitch, sDo, sFor, sCase, sDefault, sLabel, sGoto, sBreak, sContinue, sReturn, Sts, no_statements, statements_and, Body, bBlock, bSkipped, tSkipped, tFunction, tDeclaration, tEmpty, Items, no_items, items_and}
use Rattle.c_meaning.specs.Tokens.{last_of, first_of_words, open_of, close_of, end_of}

-- The whole file, or what stands from one token to another: a block, a statement that is a block of its own as C11 6.8.4
-- and 6.8.5 say, or the parameters of a prototype.
pub data Scope : Type 0 where
  file : Scope
  block : (first last : ℕ) → Scope

abbrev pub holds : Scope → ℕ → Bool
holds file at = true
holds (block first last) at = nat_le first at && nat_le at last

-- where it begins: of two scopes that hold one token the inner one begins later, or they are one
abbrev pub begin_of : Scope → ℕ
begin_of file = 0
begin_of (block first last) = suc first

abbrev pub is_same : Scope → Scope → Bool
is_same file file = true
is_same (block a b) (block c d) = nat_eq a c && nat_eq b d
is_same _ _ = false

abbrev pub is_file : Scope → Bool
is_file file = true
is_file _ = false

-- what a name is declared as; `aName` is the name of a prototype's parameter
pub data What : Type 0 where
  anObject : (words : Words) (form : Form) (initial : Initial) → What
  aParameter : (words : Words) → What
  aFunction : (words : Words) (parameters : Parameters) (has_body : Bool) → What
  aTypedef : (words : Words) → What
  anEnumerator : (up_to_it : Ens) → What
  aTag : (enumerators : Ens) → What
  aName : (words : Words) → What

-- A name, its offset, the offset from which on it is declared, and the scope in which it is. An object in a function has
-- the function's number, which counts the functions with a body in their order.
pub record Declared : Type 0 where
  pub name : List ℕ
  pub at : ℕ
  pub from : ℕ
  pub scope : Scope
  pub owner : Option ℕ
  pub what : What

-- tags have a name space of their own (C11 6.2.3)
abbrev pub is_tag : What → Bool
is_tag (aTag es) = true
is_tag _ = false

-- a name that holds from behind this token on
abbrev pub declared : Scope → Option ℕ → List ℕ → ℕ → ℕ → What → Declared
declared scope owner name at behind what = record { name = name; at = at; from = suc behind; scope = scope; owner = owner; what = what }

abbrev pub has_typedef : Words → Bool
has_typedef no_words = false
has_typedef (words_and ws (wStorage storage.Typedef at)) = true
has_typedef (words_and ws w) = has_typedef ws

-- In a scope of a function, or of none.
module _ (scope : Scope) (owner : Option ℕ) where
  -- An enumeration's constants, each behind its enumerator, and its tag behind the list (C11 6.2.1 p7). An expression can
  -- declare them too, in a cast or in `sizeof`.
  abbrev mutual
    pub in_expression : Ex → List Declared
    in_expression (eName n at) = []
    in_expression (eNumber v f at) = []
    in_expression (eLetter v at) = []
    in_expression (eParen a e b) = in_expression e
    in_expression (eCall f a es b) = in_expression f ++ in_parts es
    in_expression (eIndex a x i y) = in_expression a ++ in_expression i
    in_expression (ePostfix e c at) = in_expression e
    in_expression (ePrefix o at e) = in_expression e
    in_expression (eSizeof at a ws b) = in_words ws
    in_expression (eCast a ws b e) = in_words ws ++ in_expression e
    in_expression (eBinary a o at b) = in_expression a ++ in_expression b
    in_expression (eCond c x a y b) = in_expression c ++ in_expression a ++ in_expression b
    in_expression (eAssign a o at b) = in_expression a ++ in_expression b
    in_expression (eComma es) = in_parts es

    pub in_parts : Parts → List Declared
    in_parts no_parts = []
    in_parts (parts_and es c e) = in_parts es ++ in_expression e

    pub in_words : Words → List Declared
    in_words no_words = []
    in_words (words_and ws w) = in_words ws ++ in_word w

    pub in_word : Word → List Declared
    in_word (wEnum at a es c b) = in_enumerators es
    in_word (wTagEnum at n x a es c b) = in_enumerators es ++ declared scope owner n x b (aTag es) ∷ []
    in_word _ = []

    pub in_enumerators : Ens → List Declared
    in_enumerators no_enumerators = []
    in_enumerators (plain_and es c n at) = in_enumerators es ++ declared scope owner n at at (anEnumerator (plain_and es c n at)) ∷ []
    in_enumerators (valued_and es c n at a e) = in_enumerators es ++ in_expression e ++ declared scope owner n at (last_of e) (anEnumerator (valued_and es c n at a e)) ∷ []

  abbrev pub in_option : Option Ex → List Declared
  in_option None = []
  in_option (Some e) = in_expression e

  -- The parameters of a function with a body are its objects; one without a name has the offset of its first token.
  abbrev pub in_params : Params → List Declared
  in_params no_params = []
  in_params (params_and ps c ws None) = in_params ps ++ in_words ws ++ declared scope owner [] (first_of_words ws) (first_of_words ws) (aParameter ws) ∷ []
  in_params (params_and ps c ws (Some (named n at))) = in_params ps ++ in_words ws ++ declared scope owner n at at (aParameter ws) ∷ []

  abbrev pub in_parameters : Parameters → List Declared
  in_parameters (pSome a ps b) = in_params ps
  in_parameters _ = []

  -- those of a prototype are names alone
  abbrev pub in_named : Params → List Declared
  in_named no_params = []
  in_named (params_and ps c ws None) = in_named ps ++ in_words ws
  in_named (params_and ps c ws (Some (named n at))) = in_named ps ++ in_words ws ++ declared scope owner n at at (aName ws) ∷ []

  abbrev pub in_names : Parameters → List Declared
  in_names (pSome a ps b) = in_named ps
  in_names _ = []

-- they have a scope of their own, up to the `)` (C11 6.2.1 p4)
abbrev pub in_prototype : Parameters → List Declared
in_prototype ps = in_names (block (open_of ps) (close_of ps)) None ps

module _ (scope : Scope) (owner : Option ℕ) where
  abbrev pub declared_as : Bool → Words → Form → Initial → What
  declared_as true ws f i = aTypedef ws
  declared_as false ws (fFunction ps) i = aFunction ws ps false
  declared_as false ws f i = anObject ws f i

  -- A name is declared behind its declarator (C11 6.2.1 p7), so it stands in its own initial value.
  abbrev pub in_declarator : Words → List ℕ → ℕ → Form → Initial → List Declared
  in_declarator ws n at fPlain i = declared scope owner n at at (declared_as (has_typedef ws) ws fPlain i) ∷ []
  in_declarator ws n at (fArray a e b) i = in_option scope owner e ++ declared scope owner n at b (declared_as (has_typedef ws) ws (fArray a e b) i) ∷ []
  in_declarator ws n at (fFunction ps) i = in_prototype ps ++ declared scope owner n at (close_of ps) (declared_as (has_typedef ws) ws (fFunction ps) i) ∷ []

  abbrev pub in_initial : Initial → List Declared
  in_initial iNothing = []
  in_initial (iValue at e) = in_expression scope owner e
  in_initial (iList at a es c b) = in_parts scope owner es

  abbrev pub in_declarators : Words → Decs → List Declared
  in_declarators ws no_declarators = []
  in_declarators ws (declarators_and ds c (named n at) f ats i) = in_declarators ws ds ++ in_declarator ws n at f i ++ in_initial i

  abbrev pub in_declaration : Declaration → List Declared
  in_declaration (declares ws ds b) = in_words scope owner ws ++ in_declarators ws ds

  abbrev pub in_start : ForStart → List Declared
  in_start (forDeclares d) = in_declaration d
  in_start (forExpr e at) = in_option scope owner e

-- Statements: blocks, `if`, `switch` and loops are blocks, and so are the parts of the last four (C11 6.8.2, 6.8.4, 6.8.5).
module _ (owner : Option ℕ) where
  abbrev mutual
    pub in_statement : Scope → St → List Declared
    in_statement scope (sDeclaration d) = in_declaration scope owner d
    in_statement scope (sBlock a ss b) = in_statements (block a b) ss
    in_statement scope (sEmpty at) = []
    in_statement scope (sExpr e at) = in_expression scope owner e
    in_statement scope (sIf (head at a e b) s) = in_expression (block at (end_of s)) owner e ++ in_statement (block b (end_of s)) s
    in_statement scope (sIfElse (head at a e b) s x t) = in_expression (block at (end_of t)) owner e ++ in_statement (block b (end_of s)) s ++ in_statement (block x (end_of t)) t
    in_statement scope (sWhile (head at a e b) s) = in_expression (block at (end_of s)) owner e ++ in_statement (block b (end_of s)) s
    in_statement scope (sSwitch (head at a e b) s) = in_expression (block at (end_of s)) owner e ++ in_statement (block b (end_of s)) s
    in_statement scope (sDo at s (head w a e b) x) = in_statement (block (suc at) (end_of s)) s ++ in_expression (block at x) owner e
    in_statement scope (sFor (for_head at a start test x step b) s) =
        in_start (block at (end_of s)) owner start ++ in_option (block at (end_of s)) owner test ++ in_option (block at (end_of s)) owner step ++ in_statement (block b (end_of s)) s
    in_statement scope (sCase at e b s) = in_expression scope owner e ++ in_statement scope s
    in_statement scope (sDefault at b s) = in_statement scope s
    in_statement scope (sLabel n at b ats s) = in_statement scope s
    in_statement scope (sGoto at n x b) = []
    in_statement scope (sBreak at b) = []
    in_statement scope (sContinue at b) = []
    in_statement scope (sReturn at e b) = in_option scope owner e

    pub in_statements : Scope → Sts → List Declared
    in_statements scope no_statements = []
    in_statements scope (statements_and ss s) = in_statements scope ss ++ in_statement scope s

-- the functions with a body so far, but for `reach_error`, whose body is left out
abbrev pub count_bodies : Items → ℕ
count_bodies no_items = 0
count_bodies (items_and is (tFunction ws n ps ats (bBlock a ss b))) = suc (count_bodies is)
count_bodies (items_and is i) = count_bodies is

-- A function's name is declared in the file, behind its parameters. These share the scope of the body (C11 6.2.1 p4).
abbrev pub in_function : ℕ → Words → List ℕ → ℕ → Parameters → Body → List Declared
in_function number ws n at ps (bSkipped a r b) = in_words file None ws ++ in_prototype ps ++ declared file None n at (close_of ps) (aFunction ws ps true) ∷ []
in_function number ws n at ps (bBlock a ss b) =
    in_words file None ws
    ++ in_parameters (block (open_of ps) b) (Some number) ps
    ++ (declared file None n at (close_of ps) (aFunction ws ps true) ∷ [])
    ++ in_statements (Some number) (block (open_of ps) b) ss

-- all that a source declares
abbrev pub in_items : Items → List Declared
in_items no_items = []
in_items (items_and is (tFunction ws (named n at) ps ats body)) = in_items is ++ in_function (count_bodies is) ws n at ps body
in_items (items_and is (tDeclaration d)) = in_items is ++ in_declaration file None d
in_items (items_and is (tSkipped x at r b)) = in_items is
in_items (items_and is (tEmpty at)) = in_items is
