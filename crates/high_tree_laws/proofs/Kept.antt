-- What the machine keeps of a tree, whatever its height: in place of each expression that it counts as higher than 200 it
-- keeps a letter; and the height of the tree as it counts it, where 201 stands for all that is higher than 200.
use Rattle.std.proofs.Common.{ℕ, suc, max, Option, None, Some, if◌then◌else◌, leb, pos}
use Rattle.c_tree.specs.Spelling.{level_of}
use Rattle.c_tree.specs.Height.{height_attributes}
use Rattle.c_tree.specs.Tree.{Ex, eName, eNumber, eLetter, eParen, eCall, eIndex, ePostfix, ePrefix, eSizeof, eCast, eBinary, eCond, eAssign, eComma, Parts, no_parts, parts_and, Words, no_words, words_and, Word, wType, wStorage, wConst, wExtension, wAttribute, wTypedef, wTag, wEnum, wTagEnum, Ens, no_enumerators, plain_and, valued_and, Params, no_params, params_and, Parameters, pUnknown, pVoid, pSome, Form, fPlain, fArray, fFunction, Initial, iNothing, iValue, iList, Decs, no_declarators, declarators_and, Declaration, declares, Head, head, ForStart, forDeclares, forExpr, ForHead, for_head, St, sDeclaration, sBlock, sEmpty, sExpr, sIf, sIfElse, sWhile, sSwitch, sDo, sFor, sCase, sDefault, sLabel, sGoto, sBreak, sContinue, sReturn, Sts, no_statements, statements_and, Body, bBlock, bSkipped, Item, tSkipped, tFunction, tDeclaration, tEmpty}
use Rattle.parse_machine.specs.Contexts.{Tall, Part}
use Rattle.parse_machine.specs.Making.{above, tall}

-- Heights as they are counted.

abbrev mutual
  pub counted : Ex → ℕ
  counted (eName n at) = 1
  counted (eNumber v f at) = 1
  counted (eLetter v at) = 1
  counted (eParen a e c) = above (counted e)
  counted (eCall f a es c) = above (max (counted f) (counted_parts es))
  counted (eIndex f x i y) = above (max (counted f) (counted i))
  counted (ePostfix e c at) = above (counted e)
  counted (ePrefix o at e) = above (counted e)
  counted (eSizeof at a ws c) = above (above (counted_words ws))
  counted (eCast a ws c e) = above (max (above (counted_words ws)) (counted e))
  counted (eBinary a o at c) = above (max (counted a) (counted c))
  counted (eCond c x a y d) = above (max (max (counted c) (counted a)) (counted d))
  counted (eAssign a o at c) = above (max (counted a) (counted c))
  counted (eComma es) = above (counted_parts es)

  pub counted_parts : Parts → ℕ
  counted_parts no_parts = 0
  counted_parts (parts_and es c e) = max (counted_parts es) (counted e)

  pub counted_words : Words → ℕ
  counted_words no_words = 0
  counted_words (words_and ws x) = max (counted_words ws) (counted_word x)

  pub counted_word : Word → ℕ
  counted_word (wType w at) = 0
  counted_word (wStorage w at) = 0
  counted_word (wConst w at) = 0
  counted_word (wExtension at) = 0
  counted_word (wAttribute a) = 1
  counted_word (wTypedef n at) = 0
  counted_word (wTag at n c) = 1
  counted_word (wEnum at a es c y) = above (counted_constants es)
  counted_word (wTagEnum at n x a es c y) = above (counted_constants es)

  pub counted_constants : Ens → ℕ
  counted_constants no_enumerators = 0
  counted_constants (plain_and es c n at) = max (counted_constants es) 1
  counted_constants (valued_and es c n at a e) = max (counted_constants es) (above (counted e))

abbrev pub counted_option : Option Ex → ℕ
counted_option None = 0
counted_option (Some e) = counted e

abbrev pub counted_params : Params → ℕ
counted_params no_params = 0
counted_params (params_and ps c ws n) = max (counted_params ps) (above (counted_words ws))

abbrev pub counted_parameters : Parameters → ℕ
counted_parameters (pUnknown a c) = 1
counted_parameters (pVoid a at c) = 1
counted_parameters (pSome a ps c) = above (counted_params ps)

abbrev pub counted_form : Form → ℕ
counted_form fPlain = 0
counted_form (fArray a e c) = counted_option e
counted_form (fFunction ps) = counted_parameters ps

abbrev pub counted_initial : Initial → ℕ
counted_initial iNothing = 0
counted_initial (iValue at e) = counted e
counted_initial (iList at a es c y) = above (counted_parts es)

abbrev pub counted_declarators : Decs → ℕ
counted_declarators no_declarators = 0
counted_declarators (declarators_and ds c n f ats i) = max (counted_declarators ds) (above (max (max (counted_form f) (height_attributes ats)) (counted_initial i)))

-- the declared names and the words of a declaration, which stand in a block
abbrev pub counted_declares : Declaration → ℕ
counted_declares (declares ws ds x) = suc (max (above (counted_words ws)) (counted_declarators ds))

abbrev pub counted_head : Head → ℕ
counted_head (head at a e c) = counted e

abbrev pub counted_for_start : ForStart → ℕ
counted_for_start (forDeclares d) = counted_declares d
counted_for_start (forExpr e at) = counted_option e

abbrev pub counted_for_head : ForHead → ℕ
counted_for_head (for_head at a s e x i c) = max (max (counted_for_start s) (counted_option e)) (counted_option i)

abbrev mutual
  pub counted_statement : St → ℕ
  counted_statement (sDeclaration d) = counted_declares d
  counted_statement (sBlock a ss c) = suc (counted_statements ss)
  counted_statement (sEmpty at) = 1
  counted_statement (sExpr e at) = suc (counted e)
  counted_statement (sIf h s) = suc (max (counted_head h) (counted_statement s))
  counted_statement (sIfElse h a at s) = suc (max (max (counted_head h) (counted_statement a)) (counted_statement s))
  counted_statement (sWhile h s) = suc (max (counted_head h) (counted_statement s))
  counted_statement (sSwitch h s) = suc (max (counted_head h) (counted_statement s))
  counted_statement (sDo at s h c) = suc (max (counted_statement s) (counted_head h))
  counted_statement (sFor h s) = suc (max (counted_for_head h) (counted_statement s))
  counted_statement (sCase at e c s) = suc (max (counted e) (counted_statement s))
  counted_statement (sDefault at c s) = suc (counted_statement s)
  counted_statement (sLabel n at c ats s) = suc (counted_statement s)
  counted_statement (sGoto at n x c) = 1
  counted_statement (sBreak at c) = 1
  counted_statement (sContinue at c) = 1
  counted_statement (sReturn at e c) = suc (counted_option e)

  pub counted_statements : Sts → ℕ
  counted_statements no_statements = 0
  counted_statements (statements_and ss s) = max (counted_statements ss) (counted_statement s)

abbrev pub counted_body : Body → ℕ
counted_body (bBlock a ss c) = suc (counted_statements ss)
counted_body (bSkipped a r c) = 0

abbrev pub counted_item : Item → ℕ
counted_item (tSkipped x at r c) = 0
counted_item (tFunction ws n ps ats x) = suc (max (max (above (counted_words ws)) (counted_parameters ps)) (counted_body x))
counted_item (tDeclaration (declares ws ds x)) = above (max (above (counted_words ws)) (counted_declarators ds))
counted_item (tEmpty at) = 0

-- What is kept.

-- an expression of this height
abbrev pub fits : ℕ → Ex → Ex
fits h e = if leb h 200 then e else eLetter (pos 0) 0

abbrev mutual
  pub kept_ex : Ex → Ex
  kept_ex (eName n at) = eName n at
  kept_ex (eNumber v f at) = eNumber v f at
  kept_ex (eLetter v at) = eLetter v at
  kept_ex (eParen a e c) = fits (above (counted e)) (eParen a (kept_ex e) c)
  kept_ex (eCall f a es c) = fits (above (max (counted f) (counted_parts es))) (eCall (kept_ex f) a (kept_parts es) c)
  kept_ex (eIndex f x i y) = fits (above (max (counted f) (counted i))) (eIndex (kept_ex f) x (kept_ex i) y)
  kept_ex (ePostfix e c at) = fits (above (counted e)) (ePostfix (kept_ex e) c at)
  kept_ex (ePrefix o at e) = fits (above (counted e)) (ePrefix o at (kept_ex e))
  kept_ex (eSizeof at a ws c) = fits (above (above (counted_words ws))) (eSizeof at a (kept_words ws) c)
  kept_ex (eCast a ws c e) = fits (above (max (above (counted_words ws)) (counted e))) (eCast a (kept_words ws) c (kept_ex e))
  kept_ex (eBinary a o at c) = fits (above (max (counted a) (counted c))) (eBinary (kept_ex a) o at (kept_ex c))
  kept_ex (eCond c x a y d) = fits (above (max (max (counted c) (counted a)) (counted d))) (eCond (kept_ex c) x (kept_ex a) y (kept_ex d))
  kept_ex (eAssign a o at c) = fits (above (max (counted a) (counted c))) (eAssign (kept_ex a) o at (kept_ex c))
  kept_ex (eComma es) = fits (above (counted_parts es)) (eComma (kept_parts es))

  pub kept_parts : Parts → Parts
  kept_parts no_parts = no_parts
  kept_parts (parts_and es c e) = parts_and (kept_parts es) c (kept_ex e)

  pub kept_words : Words → Words
  kept_words no_words = no_words
  kept_words (words_and ws x) = words_and (kept_words ws) (kept_word x)

  pub kept_word : Word → Word
  kept_word (wType w at) = wType w at
  kept_word (wStorage w at) = wStorage w at
  kept_word (wConst w at) = wConst w at
  kept_word (wExtension at) = wExtension at
  kept_word (wAttribute a) = wAttribute a
  kept_word (wTypedef n at) = wTypedef n at
  kept_word (wTag at n c) = wTag at n c
  kept_word (wEnum at a es c y) = wEnum at a (kept_constants es) c y
  kept_word (wTagEnum at n x a es c y) = wTagEnum at n x a (kept_constants es) c y

  pub kept_constants : Ens → Ens
  kept_constants no_enumerators = no_enumerators
  kept_constants (plain_and es c n at) = plain_and (kept_constants es) c n at
  kept_constants (valued_and es c n at a e) = valued_and (kept_constants es) c n at a (kept_ex e)

abbrev pub kept_option : Option Ex → Option Ex
kept_option None = None
kept_option (Some e) = Some (kept_ex e)

abbrev pub kept_params : Params → Params
kept_params no_params = no_params
kept_params (params_and ps c ws n) = params_and (kept_params ps) c (kept_words ws) n

abbrev pub kept_parameters : Parameters → Parameters
kept_parameters (pUnknown a c) = pUnknown a c
kept_parameters (pVoid a at c) = pVoid a at c
kept_parameters (pSome a ps c) = pSome a (kept_params ps) c

abbrev pub kept_form : Form → Form
kept_form fPlain = fPlain
kept_form (fArray a e c) = fArray a (kept_option e) c
kept_form (fFunction ps) = fFunction (kept_parameters ps)

abbrev pub kept_initial : Initial → Initial
kept_initial iNothing = iNothing
kept_initial (iValue at e) = iValue at (kept_ex e)
kept_initial (iList at a es c y) = iList at a (kept_parts es) c y

abbrev pub kept_declarators : Decs → Decs
kept_declarators no_declarators = no_declarators
kept_declarators (declarators_and ds c n f ats i) = declarators_and (kept_declarators ds) c n (kept_form f) ats (kept_initial i)

abbrev pub kept_declaration : Declaration → Declaration
kept_declaration (declares ws ds x) = declares (kept_words ws) (kept_declarators ds) x

abbrev pub kept_head : Head → Head
kept_head (head at a e c) = head at a (kept_ex e) c

abbrev pub kept_for_start : ForStart → ForStart
kept_for_start (forDeclares d) = forDeclares (kept_declaration d)
kept_for_start (forExpr e at) = forExpr (kept_option e) at

abbrev pub kept_for_head : ForHead → ForHead
kept_for_head (for_head at a s e x i c) = for_head at a (kept_for_start s) (kept_option e) x (kept_option i) c

abbrev mutual
  pub kept_statement : St → St
  kept_statement (sDeclaration d) = sDeclaration (kept_declaration d)
  kept_statement (sBlock a ss c) = sBlock a (kept_statements ss) c
  kept_statement (sEmpty at) = sEmpty at
  kept_statement (sExpr e at) = sExpr (kept_ex e) at
  kept_statement (sIf h s) = sIf (kept_head h) (kept_statement s)
  kept_statement (sIfElse h a at s) = sIfElse (kept_head h) (kept_statement a) at (kept_statement s)
  kept_statement (sWhile h s) = sWhile (kept_head h) (kept_statement s)
  kept_statement (sSwitch h s) = sSwitch (kept_head h) (kept_statement s)
  kept_statement (sDo at s h c) = sDo at (kept_statement s) (kept_head h) c
  kept_statement (sFor h s) = sFor (kept_for_head h) (kept_statement s)
  kept_statement (sCase at e c s) = sCase at (kept_ex e) c (kept_statement s)
  kept_statement (sDefault at c s) = sDefault at c (kept_statement s)
  kept_statement (sLabel n at c ats s) = sLabel n at c ats (kept_statement s)
  kept_statement (sGoto at n x c) = sGoto at n x c
  kept_statement (sBreak at c) = sBreak at c
  kept_statement (sContinue at c) = sContinue at c
  kept_statement (sReturn at e c) = sReturn at (kept_option e) c

  pub kept_statements : Sts → Sts
  kept_statements no_statements = no_statements
  kept_statements (statements_and ss s) = statements_and (kept_statements ss) (kept_statement s)

abbrev pub kept_body : Body → Body
kept_body (bBlock a ss c) = bBlock a (kept_statements ss) c
kept_body (bSkipped a r c) = bSkipped a r c

abbrev pub kept_item : Item → Item
kept_item (tSkipped x at r c) = tSkipped x at r c
kept_item (tFunction ws n ps ats x) = tFunction (kept_words ws) n (kept_parameters ps) ats (kept_body x)
kept_item (tDeclaration d) = tDeclaration (kept_declaration d)
kept_item (tEmpty at) = tEmpty at

-- Both together, as the machine holds them.

abbrev pub whole : Ex → Part
whole e = record { value = kept_ex e; level = level_of e; height = counted e }

abbrev pub whole_parts : Parts → Tall Parts
whole_parts es = tall (kept_parts es) (counted_parts es)

abbrev pub whole_constants : Ens → Tall Ens
whole_constants es = tall (kept_constants es) (counted_constants es)

abbrev pub whole_params : Params → Tall Params
whole_params ps = tall (kept_params ps) (counted_params ps)

abbrev pub whole_form : Form → Tall Form
whole_form f = tall (kept_form f) (counted_form f)

abbrev pub whole_declarators : Decs → Tall Decs
whole_declarators ds = tall (kept_declarators ds) (counted_declarators ds)
