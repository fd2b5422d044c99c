-- The tokens of a tree, each function with the rest that follows them, and how tight an expression binds.
use Rattle.std.specs.Prelude.{ℕ, List, ◌∷◌, Option, None, Some}
use Rattle.c_tree.specs.declared.symbol.BinaryOp.{BinaryOp}
use Rattle.c_tree.specs.declared.symbol.BinaryOp.TheVariants as op
use Rattle.c_tree.specs.declared.symbol.AssignOp.TheVariants as to
use Rattle.c_tree.specs.declared.symbol.Crement.TheVariants as cr
use Rattle.c_tree.specs.declared.symbol.Bracket.{Bracket}
use Rattle.c_tree.specs.declared.symbol.Bracket.TheVariants as br
use Rattle.c_tree.specs.declared.symbol.StatementWord.{StatementWord}
use Rattle.c_tree.specs.declared.symbol.StatementWord.TheVariants as key
use Rattle.c_tree.specs.declared.symbol.StorageWord.TheVariants as storage
use Rattle.c_tree.specs.declared.symbol.TypeWord.TheVariants as type
use Rattle.c_tree.specs.declared.symbol.Symbol.{Symbol}
use Rattle.c_tree.specs.declared.symbol.Symbol.TheVariants as sy
use Rattle.c_tree.specs.declared.symbol.SymbolAt.{SymbolAt}
use Rattle.c_tree.specs.declared.tree.PrefixOp.{PrefixOp}
use Rattle.c_tree.specs.declared.tree.PrefixOp.TheVariants as pre
use Rattle.c_tree.specs.Symbols.{sign}
use Rattle.c_tree.specs.Tree.{Raw, no_raw, raw_and, At, attribute, Ats, no_attributes, attributes_and, Ex, eName, eNumber, eLetter, eParen, eCall, eIndex, ePostfix, ePrefix, eSizeof, eCast, eBinary, eCond, eAssign, eComma, Parts, no_parts, parts_and, Words, no_words, words_and, Word, wType, wStorage, wConst, wExtension, wAttribute, wTypedef, wTag, wEnum, wTagEnum, Ens, no_enumerators, plain_and, valued_and, Name, named, Params, no_params, params_and, Parameters, pUnknown, pVoid, pSome, Form, fPlain, fArray, fFunction, Initial, iNothing, iValue, iList, Decs, no_declarators, declarators_and, Declaration, declares, Head, head, ForStart, forDeclares, forExpr, ForHead, for_head, St, sDeclaration, sBlock, sEmpty, sExpr, sIf, sIfElse, sWhile, sSwitch, sDo, sFor, sCase, sDefault, sLabel, sGoto, sBreak, sContinue, sReturn, Sts, no_statements, statements_and, Body, bBlock, bSkipped, Item, tSkipped, tFunction, tDeclaration, tEmpty, Items, no_items, items_and}

abbrev pub opening : Bracket → ℕ → SymbolAt
opening b at = sign (sy.Open b) at

abbrev pub closing : Bracket → ℕ → SymbolAt
closing b at = sign (sy.Close b) at

abbrev pub word : StatementWord → ℕ → SymbolAt
word w at = sign (sy.Statement w) at

-- a comma, where there is one
abbrev pub comma : Option ℕ → List SymbolAt → List SymbolAt
comma None rest = rest
comma (Some at) rest = sign sy.Comma at ∷ rest

-- the token of an operator before its operand
abbrev pub prefix_symbol : PrefixOp → Symbol
prefix_symbol pre.Increment = sy.Crement cr.Increment
prefix_symbol pre.Decrement = sy.Crement cr.Decrement
prefix_symbol pre.Plus = sy.Binary op.Add
prefix_symbol pre.Minus = sy.Binary op.Subtract
prefix_symbol pre.Complement = sy.Tilde
prefix_symbol pre.Not = sy.Bang
prefix_symbol pre.Extension = sy.Extension
prefix_symbol pre.Sizeof = sy.Sizeof

abbrev pub spell_raw : Raw → List SymbolAt → List SymbolAt
spell_raw no_raw rest = rest
spell_raw (raw_and r s) rest = spell_raw r (s ∷ rest)

-- attr = "__attribute__" "(" balanced tokens ")"
abbrev pub spell_attribute : At → List SymbolAt → List SymbolAt
spell_attribute (attribute w at a r b) rest = sign (sy.Attribute w) at ∷ opening br.Round a ∷ spell_raw r (closing br.Round b ∷ rest)

abbrev pub spell_attributes : Ats → List SymbolAt → List SymbolAt
spell_attributes no_attributes rest = rest
spell_attributes (attributes_and ats a) rest = spell_attributes ats (spell_attribute a rest)

abbrev mutual
  -- expressions, C11 6.5
  pub spell : Ex → List SymbolAt → List SymbolAt
  spell (eName n at) rest = sign (sy.Name n) at ∷ rest
  spell (eNumber v f at) rest = sign (sy.Number v f) at ∷ rest
  spell (eLetter v at) rest = sign (sy.Letter v) at ∷ rest
  spell (eParen a e b) rest = opening br.Round a ∷ spell e (closing br.Round b ∷ rest)
  spell (eCall f a es b) rest = spell f (opening br.Round a ∷ spell_parts es (closing br.Round b ∷ rest))
  spell (eIndex a x i y) rest = spell a (opening br.Square x ∷ spell i (closing br.Square y ∷ rest))
  spell (ePostfix e c at) rest = spell e (sign (sy.Crement c) at ∷ rest)
  spell (ePrefix o at e) rest = sign (prefix_symbol o) at ∷ spell e rest
  spell (eSizeof at a ws b) rest = sign sy.Sizeof at ∷ opening br.Round a ∷ spell_words ws (closing br.Round b ∷ rest)
  spell (eCast a ws b e) rest = opening br.Round a ∷ spell_words ws (closing br.Round b ∷ spell e rest)
  spell (eBinary a o at b) rest = spell a (sign (sy.Binary o) at ∷ spell b rest)
  spell (eCond c x a y b) rest = spell c (sign sy.Question x ∷ spell a (sign sy.Colon y ∷ spell b rest))
  spell (eAssign a o at b) rest = spell a (sign (sy.Assign o) at ∷ spell b rest)
  spell (eComma es) rest = spell_parts es rest

  -- assignment {"," assignment}
  pub spell_parts : Parts → List SymbolAt → List SymbolAt
  spell_parts no_parts rest = rest
  spell_parts (parts_and es c e) rest = spell_parts es (comma c (spell e rest))

  -- specs, C11 6.7
  pub spell_words : Words → List SymbolAt → List SymbolAt
  spell_words no_words rest = rest
  spell_words (words_and ws w) rest = spell_words ws (spell_word w rest)

  pub spell_word : Word → List SymbolAt → List SymbolAt
  spell_word (wType w at) rest = sign (sy.Type w) at ∷ rest
  spell_word (wStorage w at) rest = sign (sy.Storage w) at ∷ rest
  spell_word (wConst w at) rest = sign (sy.Const w) at ∷ rest
  spell_word (wExtension at) rest = sign sy.Extension at ∷ rest
  spell_word (wAttribute a) rest = spell_attribute a rest
  spell_word (wTypedef n at) rest = sign (sy.Name n) at ∷ rest
  spell_word (wTag at n b) rest = sign sy.Enum at ∷ sign (sy.Name n) b ∷ rest
  spell_word (wEnum at a es c b) rest = sign sy.Enum at ∷ opening br.Curly a ∷ spell_enumerators es (comma c (closing br.Curly b ∷ rest))
  spell_word (wTagEnum at n x a es c b) rest = sign sy.Enum at ∷ sign (sy.Name n) x ∷ opening br.Curly a ∷ spell_enumerators es (comma c (closing br.Curly b ∷ rest))

  -- enumerator {"," enumerator}
  pub spell_enumerators : Ens → List SymbolAt → List SymbolAt
  spell_enumerators no_enumerators rest = rest
  spell_enumerators (plain_and es c n at) rest = spell_enumerators es (comma c (sign (sy.Name n) at ∷ rest))
  spell_enumerators (valued_and es c n at a e) rest = spell_enumerators es (comma c (sign (sy.Name n) at ∷ sign (sy.Assign to.Plain) a ∷ spell e rest))

-- [expr]
abbrev pub spell_option : Option Ex → List SymbolAt → List SymbolAt
spell_option None rest = rest
spell_option (Some e) rest = spell e rest

abbrev pub spell_name : Name → List SymbolAt → List SymbolAt
spell_name (named n at) rest = sign (sy.Name n) at ∷ rest

abbrev pub spell_option_name : Option Name → List SymbolAt → List SymbolAt
spell_option_name None rest = rest
spell_option_name (Some n) rest = spell_name n rest

-- specs [name] {"," specs [name]}
abbrev pub spell_params : Params → List SymbolAt → List SymbolAt
spell_params no_params rest = rest
spell_params (params_and ps c ws n) rest = spell_params ps (comma c (spell_words ws (spell_option_name n rest)))

-- "(" params ")"
abbrev pub spell_parameters : Parameters → List SymbolAt → List SymbolAt
spell_parameters (pUnknown a b) rest = opening br.Round a ∷ closing br.Round b ∷ rest
spell_parameters (pVoid a at b) rest = opening br.Round a ∷ sign (sy.Type type.Void) at ∷ closing br.Round b ∷ rest
spell_parameters (pSome a ps b) rest = opening br.Round a ∷ spell_params ps (closing br.Round b ∷ rest)

-- declarator, C11 6.7.6
abbrev pub spell_form : Form → List SymbolAt → List SymbolAt
spell_form fPlain rest = rest
spell_form (fArray a e b) rest = opening br.Square a ∷ spell_option e (closing br.Square b ∷ rest)
spell_form (fFunction ps) rest = spell_parameters ps rest

-- ["=" assignment], or ["=" list]
abbrev pub spell_initial : Initial → List SymbolAt → List SymbolAt
spell_initial iNothing rest = rest
spell_initial (iValue at e) rest = sign (sy.Assign to.Plain) at ∷ spell e rest
spell_initial (iList at a es c b) rest = sign (sy.Assign to.Plain) at ∷ opening br.Curly a ∷ spell_parts es (comma c (closing br.Curly b ∷ rest))

abbrev pub spell_declarators : Decs → List SymbolAt → List SymbolAt
spell_declarators no_declarators rest = rest
spell_declarators (declarators_and ds c n f ats i) rest = spell_declarators ds (comma c (spell_name n (spell_form f (spell_attributes ats (spell_initial i rest)))))

-- declaration = specs [declarator {"," declarator}] ";"
abbrev pub spell_declaration : Declaration → List SymbolAt → List SymbolAt
spell_declaration (declares ws ds b) rest = spell_words ws (spell_declarators ds (sign sy.Semicolon b ∷ rest))

-- a keyword, "(" expr ")"
abbrev pub spell_head : StatementWord → Head → List SymbolAt → List SymbolAt
spell_head w (head at a e b) rest = word w at ∷ opening br.Round a ∷ spell e (closing br.Round b ∷ rest)

abbrev pub spell_for_start : ForStart → List SymbolAt → List SymbolAt
spell_for_start (forDeclares d) rest = spell_declaration d rest
spell_for_start (forExpr e at) rest = spell_option e (sign sy.Semicolon at ∷ rest)

-- "for" "(" (declaration | [expr] ";") [expr] ";" [expr] ")"
abbrev pub spell_for_head : ForHead → List SymbolAt → List SymbolAt
spell_for_head (for_head at a s e x i b) rest = word key.For at ∷ opening br.Round a ∷ spell_for_start s (spell_option e (sign sy.Semicolon x ∷ spell_option i (closing br.Round b ∷ rest)))

abbrev mutual
  -- statements, C11 6.8
  pub spell_statement : St → List SymbolAt → List SymbolAt
  spell_statement (sDeclaration d) rest = spell_declaration d rest
  spell_statement (sBlock a ss b) rest = opening br.Curly a ∷ spell_statements ss (closing br.Curly b ∷ rest)
  spell_statement (sEmpty at) rest = sign sy.Semicolon at ∷ rest
  spell_statement (sExpr e at) rest = spell e (sign sy.Semicolon at ∷ rest)
  spell_statement (sIf h s) rest = spell_head key.If h (spell_statement s rest)
  spell_statement (sIfElse h a at b) rest = spell_head key.If h (spell_statement a (word key.Else at ∷ spell_statement b rest))
  spell_statement (sWhile h s) rest = spell_head key.While h (spell_statement s rest)
  spell_statement (sSwitch h s) rest = spell_head key.Switch h (spell_statement s rest)
  spell_statement (sDo at s h b) rest = word key.Do at ∷ spell_statement s (spell_head key.While h (sign sy.Semicolon b ∷ rest))
  spell_statement (sFor h s) rest = spell_for_head h (spell_statement s rest)
  spell_statement (sCase at e b s) rest = word key.Case at ∷ spell e (sign sy.Colon b ∷ spell_statement s rest)
  spell_statement (sDefault at b s) rest = word key.Default at ∷ sign sy.Colon b ∷ spell_statement s rest
  spell_statement (sLabel n at b ats s) rest = sign (sy.Name n) at ∷ sign sy.Colon b ∷ spell_attributes ats (spell_statement s rest)
  spell_statement (sGoto at n x b) rest = word key.Goto at ∷ sign (sy.Name n) x ∷ sign sy.Semicolon b ∷ rest
  spell_statement (sBreak at b) rest = word key.Break at ∷ sign sy.Semicolon b ∷ rest
  spell_statement (sContinue at b) rest = word key.Continue at ∷ sign sy.Semicolon b ∷ rest
  spell_statement (sReturn at e b) rest = word key.Return at ∷ spell_option e (sign sy.Semicolon b ∷ rest)

  -- {declaration | statement}
  pub spell_statements : Sts → List SymbolAt → List SymbolAt
  spell_statements no_statements rest = rest
  spell_statements (statements_and ss s) rest = spell_statements ss (spell_statement s rest)

-- block
abbrev pub spell_body : Body → List SymbolAt → List SymbolAt
spell_body (bBlock a ss b) rest = opening br.Curly a ∷ spell_statements ss (closing br.Curly b ∷ rest)
spell_body (bSkipped a r b) rest = opening br.Curly a ∷ spell_raw r (closing br.Curly b ∷ rest)

-- "__extension__", where it stands
abbrev pub extension : Option ℕ → List SymbolAt → List SymbolAt
extension None rest = rest
extension (Some at) rest = sign sy.Extension at ∷ rest

-- item, C11 6.9
abbrev pub spell_item : Item → List SymbolAt → List SymbolAt
spell_item (tSkipped x at r b) rest = extension x (sign (sy.Storage storage.Extern) at ∷ spell_raw r (sign sy.Semicolon b ∷ rest))
spell_item (tFunction ws n ps ats b) rest = spell_words ws (spell_name n (spell_parameters ps (spell_attributes ats (spell_body b rest))))
spell_item (tDeclaration d) rest = spell_declaration d rest
spell_item (tEmpty at) rest = sign sy.Semicolon at ∷ rest

abbrev pub spell_items : Items → List SymbolAt → List SymbolAt
spell_items no_items rest = rest
spell_items (items_and is i) rest = spell_items is (spell_item i rest)

-- how tight an operator binds: 0 is a comma, 1 an assignment, 2 a conditional, 13 a cast, 14 a prefix, 15 a postfix
abbrev pub level : BinaryOp → ℕ
level op.OrElse = 3
level op.AndAlso = 4
level op.BitOr = 5
level op.BitXor = 6
level op.BitAnd = 7
level op.Equal = 8
level op.NotEqual = 8
level op.Less = 9
level op.Greater = 9
level op.LessEqual = 9
level op.GreaterEqual = 9
level op.ShiftLeft = 10
level op.ShiftRight = 10
level op.Add = 11
level op.Subtract = 11
level op.Multiply = 12
level op.Divide = 12
level op.Remainder = 12

-- what may follow an operator: a unary expression, or a cast too
abbrev pub operand_level : PrefixOp → ℕ
operand_level pre.Increment = 14
operand_level pre.Decrement = 14
operand_level pre.Sizeof = 14
operand_level pre.Plus = 13
operand_level pre.Minus = 13
operand_level pre.Complement = 13
operand_level pre.Not = 13
operand_level pre.Extension = 13

abbrev pub level_of : Ex → ℕ
level_of (eName n at) = 15
level_of (eNumber v f at) = 15
level_of (eLetter v at) = 15
level_of (eParen a e b) = 15
level_of (eCall f a es b) = 15
level_of (eIndex a x i y) = 15
level_of (ePostfix e c at) = 15
level_of (ePrefix o at e) = 14
level_of (eSizeof at a ws b) = 14
level_of (eCast a ws b e) = 13
level_of (eBinary a o at b) = level o
level_of (eCond c x a y b) = 2
level_of (eAssign a o at b) = 1
level_of (eComma es) = 0
