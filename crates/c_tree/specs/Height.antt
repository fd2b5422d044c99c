-- The height of a tree in nodes.
use Rattle.std.specs.Prelude.{ℕ, suc, max, Option, None, Some}
use Rattle.c_tree.specs.Tree.{Ats, no_attributes, attributes_and, Ex, eName, eNumber, eLetter, eParen, eCall, eIndex, ePostfix, ePrefix, eSizeof, eCast, eBinary, eCond, eAssign, eComma, Parts, no_parts, parts_and, Words, no_words, words_and, Word, wType, wStorage, wConst, wExtension, wAttribute, wTypedef, wTag, wEnum, wTagEnum, Ens, no_enumerators, plain_and, valued_and, Params, no_params, params_and, Parameters, pUnknown, pVoid, pSome, Form, fPlain, fArray, fFunction, Initial, iNothing, iValue, iList, Decs, no_declarators, declarators_and, Declaration, declares, Head, head, ForStart, forDeclares, forExpr, ForHead, for_head, St, sDeclaration, sBlock, sEmpty, sExpr, sIf, sIfElse, sWhile, sSwitch, sDo, sFor, sCase, sDefault, sLabel, sGoto, sBreak, sContinue, sReturn, Sts, no_statements, statements_and, Body, bBlock, bSkipped, Item, tSkipped, tFunction, tDeclaration, tEmpty, Items, no_items, items_and}

abbrev mutual
  pub height : Ex → ℕ
  height (eName n at) = 1
  height (eNumber v f at) = 1
  height (eLetter v at) = 1
  height (eParen a e b) = suc (height e)
  height (eCall f a es b) = suc (max (height f) (height_parts es))
  height (eIndex a x i y) = suc (max (height a) (height i))
  height (ePostfix e c at) = suc (height e)
  height (ePrefix o at e) = suc (height e)
  height (eSizeof at a ws b) = suc (suc (height_words ws))
  height (eCast a ws b e) = suc (max (suc (height_words ws)) (height e))
  height (eBinary a o at b) = suc (max (height a) (height b))
  height (eCond c x a y b) = suc (max (max (height c) (height a)) (height b))
  height (eAssign a o at b) = suc (max (height a) (height b))
  height (eComma es) = suc (height_parts es)

  -- the greatest height of the parts
  pub height_parts : Parts → ℕ
  height_parts no_parts = 0
  height_parts (parts_and es c e) = max (height_parts es) (height e)

  pub height_words : Words → ℕ
  height_words no_words = 0
  height_words (words_and ws w) = max (height_words ws) (height_word w)

  -- an attribute, an enumeration and each of its constants are nodes
  pub height_word : Word → ℕ
  height_word (wType w at) = 0
  height_word (wStorage w at) = 0
  height_word (wConst w at) = 0
  height_word (wExtension at) = 0
  height_word (wAttribute a) = 1
  height_word (wTypedef n at) = 0
  height_word (wTag at n b) = 1
  height_word (wEnum at a es c b) = suc (height_enumerators es)
  height_word (wTagEnum at n x a es c b) = suc (height_enumerators es)

  pub height_enumerators : Ens → ℕ
  height_enumerators no_enumerators = 0
  height_enumerators (plain_and es c n at) = max (height_enumerators es) 1
  height_enumerators (valued_and es c n at a e) = max (height_enumerators es) (suc (height e))

-- the words together are one node
abbrev pub height_specs : Words → ℕ
height_specs ws = suc (height_words ws)

abbrev pub height_option : Option Ex → ℕ
height_option None = 0
height_option (Some e) = height e

abbrev pub height_attributes : Ats → ℕ
height_attributes no_attributes = 0
height_attributes (attributes_and ats a) = 1

abbrev pub height_params : Params → ℕ
height_params no_params = 0
height_params (params_and ps c ws n) = max (height_params ps) (height_specs ws)

abbrev pub height_parameters : Parameters → ℕ
height_parameters (pUnknown a b) = 1
height_parameters (pVoid a at b) = 1
height_parameters (pSome a ps b) = suc (height_params ps)

abbrev pub height_form : Form → ℕ
height_form fPlain = 0
height_form (fArray a e b) = height_option e
height_form (fFunction ps) = height_parameters ps

abbrev pub height_initial : Initial → ℕ
height_initial iNothing = 0
height_initial (iValue at e) = height e
height_initial (iList at a es c b) = suc (height_parts es)

abbrev pub height_declarator : Form → Ats → Initial → ℕ
height_declarator f ats i = suc (max (max (height_form f) (height_attributes ats)) (height_initial i))

abbrev pub height_declarators : Decs → ℕ
height_declarators no_declarators = 0
height_declarators (declarators_and ds c n f ats i) = max (height_declarators ds) (height_declarator f ats i)

abbrev pub height_declaration : Declaration → ℕ
height_declaration (declares ws ds b) = suc (max (height_specs ws) (height_declarators ds))

abbrev pub height_head : Head → ℕ
height_head (head at a e b) = height e

abbrev pub height_for_start : ForStart → ℕ
height_for_start (forDeclares d) = height_declaration d
height_for_start (forExpr e at) = height_option e

abbrev pub height_for_head : ForHead → ℕ
height_for_head (for_head at a s e x i b) = max (max (height_for_start s) (height_option e)) (height_option i)

abbrev mutual
  pub height_statement : St → ℕ
  height_statement (sDeclaration d) = height_declaration d
  height_statement (sBlock a ss b) = suc (height_statements ss)
  height_statement (sEmpty at) = 1
  height_statement (sExpr e at) = suc (height e)
  height_statement (sIf h s) = suc (max (height_head h) (height_statement s))
  height_statement (sIfElse h a at b) = suc (max (max (height_head h) (height_statement a)) (height_statement b))
  height_statement (sWhile h s) = suc (max (height_head h) (height_statement s))
  height_statement (sSwitch h s) = suc (max (height_head h) (height_statement s))
  height_statement (sDo at s h b) = suc (max (height_statement s) (height_head h))
  height_statement (sFor h s) = suc (max (height_for_head h) (height_statement s))
  height_statement (sCase at e b s) = suc (max (height e) (height_statement s))
  height_statement (sDefault at b s) = suc (height_statement s)
  height_statement (sLabel n at b ats s) = suc (max (height_attributes ats) (height_statement s))
  height_statement (sGoto at n x b) = 1
  height_statement (sBreak at b) = 1
  height_statement (sContinue at b) = 1
  height_statement (sReturn at e b) = suc (height_option e)

  pub height_statements : Sts → ℕ
  height_statements no_statements = 0
  height_statements (statements_and ss s) = max (height_statements ss) (height_statement s)

abbrev pub height_body : Body → ℕ
height_body (bBlock a ss b) = suc (height_statements ss)
height_body (bSkipped a r b) = 1

abbrev pub height_item : Item → ℕ
height_item (tSkipped x at r b) = 1
height_item (tFunction ws n ps ats b) = suc (max (max (max (height_specs ws) (height_parameters ps)) (height_attributes ats)) (height_body b))
height_item (tDeclaration d) = height_declaration d
height_item (tEmpty at) = 1

abbrev pub height_items : Items → ℕ
height_items no_items = 0
height_items (items_and is i) = max (height_items is) (height_item i)
