-- What stands behind a tree's tokens changes none of them.
use Rattle.std.proofs.Common.{◌≡◌, ℕ, List, ◌∷◌, ◌++◌, Option, None, Some, refl, ap, ◌∙◌}
use Rattle.c_tree.specs.declared.symbol.Bracket.TheVariants as br
use Rattle.c_tree.specs.declared.symbol.StatementWord.{StatementWord}
use Rattle.c_tree.specs.declared.symbol.StatementWord.TheVariants as key
use Rattle.c_tree.specs.declared.symbol.Symbol.TheVariants as sy
use Rattle.c_tree.specs.declared.symbol.StorageWord.TheVariants as storage
use Rattle.c_tree.specs.declared.symbol.AssignOp.TheVariants as to
use Rattle.c_tree.specs.declared.symbol.SymbolAt.{SymbolAt}
use Rattle.c_tree.specs.Symbols.{sign}
use Rattle.c_tree.specs.Spelling.{opening, closing, word, prefix_symbol, comma, extension, spell, spell_parts, spell_words, spell_word, spell_enumerators, spell_raw, spell_attribute, spell_attributes, spell_option, spell_name, spell_option_name, spell_params, spell_parameters, spell_form, spell_initial, spell_declarators, spell_declaration, spell_head, spell_for_start, spell_for_head, spell_statement, spell_statements, spell_body, spell_item}
use Rattle.c_tree.specs.Tree.{Raw, no_raw, raw_and, At, attribute, Ats, no_attributes, attributes_and, Ex, eName, eNumber, eLetter, eParen, eCall, eIndex, ePostfix, ePrefix, eSizeof, eCast, eBinary, eCond, eAssign, eComma, Parts, no_parts, parts_and, Words, no_words, words_and, Word, wType, wStorage, wConst, wExtension, wAttribute, wTypedef, wTag, wEnum, wTagEnum, Ens, no_enumerators, plain_and, valued_and, Name, named, Params, no_params, params_and, Parameters, pUnknown, pVoid, pSome, Form, fPlain, fArray, fFunction, Initial, iNothing, iValue, iList, Decs, no_declarators, declarators_and, Declaration, declares, Head, head, ForStart, forDeclares, forExpr, ForHead, for_head, St, sDeclaration, sBlock, sEmpty, sExpr, sIf, sIfElse, sWhile, sSwitch, sDo, sFor, sCase, sDefault, sLabel, sGoto, sBreak, sContinue, sReturn, Sts, no_statements, statements_and, Body, bBlock, bSkipped, Item, tSkipped, tFunction, tDeclaration, tEmpty}

comma_on : (c : Option ℕ) (p r : List SymbolAt) → comma c (p ++ r) ≡ comma c p ++ r
comma_on None p r = refl
comma_on (Some at) p r = refl

raw_on : (x : Raw) (p r : List SymbolAt) → spell_raw x (p ++ r) ≡ spell_raw x p ++ r
raw_on no_raw p r = refl
raw_on (raw_and x t) p r = raw_on x (t ∷ p) r

attribute_on : (x : At) (p r : List SymbolAt) → spell_attribute x (p ++ r) ≡ spell_attribute x p ++ r
attribute_on (attribute w at a x c) p r = ap (λ z. sign (sy.Attribute w) at ∷ opening br.Round a ∷ z) (raw_on x (closing br.Round c ∷ p) r)

attributes_on : (x : Ats) (p r : List SymbolAt) → spell_attributes x (p ++ r) ≡ spell_attributes x p ++ r
attributes_on no_attributes p r = refl
attributes_on (attributes_and ats x) p r = ap (spell_attributes ats) (attribute_on x p r) ∙ attributes_on ats (spell_attribute x p) r

mutual
  ex_on : (e : Ex) (p r : List SymbolAt) → spell e (p ++ r) ≡ spell e p ++ r
  ex_on (eName n at) p r = refl
  ex_on (eNumber v f at) p r = refl
  ex_on (eLetter v at) p r = refl
  ex_on (eParen a e c) p r = ap (λ z. opening br.Round a ∷ z) (ex_on e (closing br.Round c ∷ p) r)
  ex_on (eCall f a es c) p r = ap (λ z. spell f (opening br.Round a ∷ z)) (parts_on es (closing br.Round c ∷ p) r) ∙ ex_on f _ r
  ex_on (eIndex f x i y) p r = ap (λ z. spell f (opening br.Square x ∷ z)) (ex_on i (closing br.Square y ∷ p) r) ∙ ex_on f _ r
  ex_on (ePostfix e c at) p r = ex_on e (sign (sy.Crement c) at ∷ p) r
  ex_on (ePrefix o at e) p r = ap (λ z. sign (prefix_symbol o) at ∷ z) (ex_on e p r)
  ex_on (eSizeof at a ws c) p r = ap (λ z. sign sy.Sizeof at ∷ opening br.Round a ∷ z) (words_on ws (closing br.Round c ∷ p) r)
  ex_on (eCast a ws c e) p r = ap (λ z. opening br.Round a ∷ spell_words ws (closing br.Round c ∷ z)) (ex_on e p r) ∙ ap (λ z. opening br.Round a ∷ z) (words_on ws _ r)
  ex_on (eBinary a o at c) p r = ap (λ z. spell a (sign (sy.Binary o) at ∷ z)) (ex_on c p r) ∙ ex_on a _ r
  ex_on (eCond c x a y d) p r = ap (λ z. spell c (sign sy.Question x ∷ spell a (sign sy.Colon y ∷ z))) (ex_on d p r) ∙ ap (λ z. spell c (sign sy.Question x ∷ z)) (ex_on a _ r) ∙ ex_on c _ r
  ex_on (eAssign a o at c) p r = ap (λ z. spell a (sign (sy.Assign o) at ∷ z)) (ex_on c p r) ∙ ex_on a _ r
  ex_on (eComma es) p r = parts_on es p r

  parts_on : (es : Parts) (p r : List SymbolAt) → spell_parts es (p ++ r) ≡ spell_parts es p ++ r
  parts_on no_parts p r = refl
  parts_on (parts_and es c e) p r = ap (λ z. spell_parts es (comma c z)) (ex_on e p r) ∙ ap (spell_parts es) (comma_on c _ r) ∙ parts_on es _ r

  words_on : (ws : Words) (p r : List SymbolAt) → spell_words ws (p ++ r) ≡ spell_words ws p ++ r
  words_on no_words p r = refl
  words_on (words_and ws x) p r = ap (spell_words ws) (word_on x p r) ∙ words_on ws _ r

  word_on : (x : Word) (p r : List SymbolAt) → spell_word x (p ++ r) ≡ spell_word x p ++ r
  word_on (wType w at) p r = refl
  word_on (wStorage w at) p r = refl
  word_on (wConst w at) p r = refl
  word_on (wExtension at) p r = refl
  word_on (wAttribute x) p r = attribute_on x p r
  word_on (wTypedef n at) p r = refl
  word_on (wTag at n c) p r = refl
  word_on (wEnum at a es c y) p r = ap (λ z. sign sy.Enum at ∷ opening br.Curly a ∷ spell_enumerators es z) (comma_on c (closing br.Curly y ∷ p) r) ∙ ap (λ z. sign sy.Enum at ∷ opening br.Curly a ∷ z) (constants_on es _ r)
  word_on (wTagEnum at n x a es c y) p r = ap (λ z. sign sy.Enum at ∷ sign (sy.Name n) x ∷ opening br.Curly a ∷ spell_enumerators es z) (comma_on c (closing br.Curly y ∷ p) r) ∙ ap (λ z. sign sy.Enum at ∷ sign (sy.Name n) x ∷ opening br.Curly a ∷ z) (constants_on es _ r)

  constants_on : (es : Ens) (p r : List SymbolAt) → spell_enumerators es (p ++ r) ≡ spell_enumerators es p ++ r
  constants_on no_enumerators p r = refl
  constants_on (plain_and es c n at) p r = ap (spell_enumerators es) (comma_on c (sign (sy.Name n) at ∷ p) r) ∙ constants_on es _ r
  constants_on (valued_and es c n at a e) p r = ap (λ z. spell_enumerators es (comma c (sign (sy.Name n) at ∷ sign (sy.Assign to.Plain) a ∷ z))) (ex_on e p r) ∙ ap (spell_enumerators es) (comma_on c _ r) ∙ constants_on es _ r

option_on : (e : Option Ex) (p r : List SymbolAt) → spell_option e (p ++ r) ≡ spell_option e p ++ r
option_on None p r = refl
option_on (Some e) p r = ex_on e p r

name_on : (n : Name) (p r : List SymbolAt) → spell_name n (p ++ r) ≡ spell_name n p ++ r
name_on (named n at) p r = refl

option_name_on : (n : Option Name) (p r : List SymbolAt) → spell_option_name n (p ++ r) ≡ spell_option_name n p ++ r
option_name_on None p r = refl
option_name_on (Some n) p r = name_on n p r

params_on : (ps : Params) (p r : List SymbolAt) → spell_params ps (p ++ r) ≡ spell_params ps p ++ r
params_on no_params p r = refl
params_on (params_and ps c ws n) p r =
    ap (λ z. spell_params ps (comma c (spell_words ws z))) (option_name_on n p r) ∙ ap (λ z. spell_params ps (comma c z)) (words_on ws _ r) ∙ ap (spell_params ps) (comma_on c _ r) ∙ params_on ps _ r

parameters_on : (ps : Parameters) (p r : List SymbolAt) → spell_parameters ps (p ++ r) ≡ spell_parameters ps p ++ r
parameters_on (pUnknown a c) p r = refl
parameters_on (pVoid a at c) p r = refl
parameters_on (pSome a ps c) p r = ap (λ z. opening br.Round a ∷ z) (params_on ps (closing br.Round c ∷ p) r)

form_on : (f : Form) (p r : List SymbolAt) → spell_form f (p ++ r) ≡ spell_form f p ++ r
form_on fPlain p r = refl
form_on (fArray a e c) p r = ap (λ z. opening br.Square a ∷ z) (option_on e (closing br.Square c ∷ p) r)
form_on (fFunction ps) p r = parameters_on ps p r

initial_on : (i : Initial) (p r : List SymbolAt) → spell_initial i (p ++ r) ≡ spell_initial i p ++ r
initial_on iNothing p r = refl
initial_on (iValue at e) p r = ap (λ z. sign (sy.Assign to.Plain) at ∷ z) (ex_on e p r)
initial_on (iList at a es c y) p r = ap (λ z. sign (sy.Assign to.Plain) at ∷ opening br.Curly a ∷ spell_parts es z) (comma_on c (closing br.Curly y ∷ p) r) ∙ ap (λ z. sign (sy.Assign to.Plain) at ∷ opening br.Curly a ∷ z) (parts_on es _ r)

declarators_on : (ds : Decs) (p r : List SymbolAt) → spell_declarators ds (p ++ r) ≡ spell_declarators ds p ++ r
declarators_on no_declarators p r = refl
declarators_on (declarators_and ds c n f ats i) p r =
    ap (λ z. spell_declarators ds (comma c (spell_name n (spell_form f (spell_attributes ats z))))) (initial_on i p r)
    ∙ ap (λ z. spell_declarators ds (comma c (spell_name n (spell_form f z)))) (attributes_on ats _ r)
    ∙ ap (λ z. spell_declarators ds (comma c (spell_name n z))) (form_on f _ r)
    ∙ ap (λ z. spell_declarators ds (comma c z)) (name_on n _ r)
    ∙ ap (spell_declarators ds) (comma_on c _ r)
    ∙ declarators_on ds _ r

declaration_on : (d : Declaration) (p r : List SymbolAt) → spell_declaration d (p ++ r) ≡ spell_declaration d p ++ r
declaration_on (declares ws ds x) p r = ap (spell_words ws) (declarators_on ds (sign sy.Semicolon x ∷ p) r) ∙ words_on ws _ r

head_on : (w : StatementWord) (h : Head) (p r : List SymbolAt) → spell_head w h (p ++ r) ≡ spell_head w h p ++ r
head_on w (head at a e c) p r = ap (λ z. word w at ∷ opening br.Round a ∷ z) (ex_on e (closing br.Round c ∷ p) r)

for_start_on : (s : ForStart) (p r : List SymbolAt) → spell_for_start s (p ++ r) ≡ spell_for_start s p ++ r
for_start_on (forDeclares d) p r = declaration_on d p r
for_start_on (forExpr e at) p r = option_on e (sign sy.Semicolon at ∷ p) r

for_head_on : (h : ForHead) (p r : List SymbolAt) → spell_for_head h (p ++ r) ≡ spell_for_head h p ++ r
for_head_on (for_head at a s e x i c) p r =
    ap (λ z. word key.For at ∷ opening br.Round a ∷ spell_for_start s (spell_option e (sign sy.Semicolon x ∷ z))) (option_on i (closing br.Round c ∷ p) r)
    ∙ ap (λ z. word key.For at ∷ opening br.Round a ∷ spell_for_start s z) (option_on e _ r)
    ∙ ap (λ z. word key.For at ∷ opening br.Round a ∷ z) (for_start_on s _ r)

mutual
  statement_on : (s : St) (p r : List SymbolAt) → spell_statement s (p ++ r) ≡ spell_statement s p ++ r
  statement_on (sDeclaration d) p r = declaration_on d p r
  statement_on (sBlock a ss c) p r = ap (λ z. opening br.Curly a ∷ z) (statements_on ss (closing br.Curly c ∷ p) r)
  statement_on (sEmpty at) p r = refl
  statement_on (sExpr e at) p r = ex_on e (sign sy.Semicolon at ∷ p) r
  statement_on (sIf h s) p r = ap (spell_head key.If h) (statement_on s p r) ∙ head_on key.If h _ r
  statement_on (sIfElse h a at s) p r =
      ap (λ z. spell_head key.If h (spell_statement a (word key.Else at ∷ z))) (statement_on s p r) ∙ ap (spell_head key.If h) (statement_on a _ r) ∙ head_on key.If h _ r
  statement_on (sWhile h s) p r = ap (spell_head key.While h) (statement_on s p r) ∙ head_on key.While h _ r
  statement_on (sSwitch h s) p r = ap (spell_head key.Switch h) (statement_on s p r) ∙ head_on key.Switch h _ r
  statement_on (sDo at s h c) p r = ap (λ z. word key.Do at ∷ spell_statement s z) (head_on key.While h (sign sy.Semicolon c ∷ p) r) ∙ ap (λ z. word key.Do at ∷ z) (statement_on s _ r)
  statement_on (sFor h s) p r = ap (spell_for_head h) (statement_on s p r) ∙ for_head_on h _ r
  statement_on (sCase at e c s) p r = ap (λ z. word key.Case at ∷ spell e (sign sy.Colon c ∷ z)) (statement_on s p r) ∙ ap (λ z. word key.Case at ∷ z) (ex_on e _ r)
  statement_on (sDefault at c s) p r = ap (λ z. word key.Default at ∷ sign sy.Colon c ∷ z) (statement_on s p r)
  statement_on (sLabel n at c ats s) p r = ap (λ z. sign (sy.Name n) at ∷ sign sy.Colon c ∷ spell_attributes ats z) (statement_on s p r) ∙ ap (λ z. sign (sy.Name n) at ∷ sign sy.Colon c ∷ z) (attributes_on ats _ r)
  statement_on (sGoto at n x c) p r = refl
  statement_on (sBreak at c) p r = refl
  statement_on (sContinue at c) p r = refl
  statement_on (sReturn at e c) p r = ap (λ z. word key.Return at ∷ z) (option_on e (sign sy.Semicolon c ∷ p) r)

  statements_on : (ss : Sts) (p r : List SymbolAt) → spell_statements ss (p ++ r) ≡ spell_statements ss p ++ r
  statements_on no_statements p r = refl
  statements_on (statements_and ss s) p r = ap (spell_statements ss) (statement_on s p r) ∙ statements_on ss _ r

body_on : (x : Body) (p r : List SymbolAt) → spell_body x (p ++ r) ≡ spell_body x p ++ r
body_on (bBlock a ss c) p r = ap (λ z. opening br.Curly a ∷ z) (statements_on ss (closing br.Curly c ∷ p) r)
body_on (bSkipped a x c) p r = ap (λ z. opening br.Curly a ∷ z) (raw_on x (closing br.Curly c ∷ p) r)

extension_on : (x : Option ℕ) (p r : List SymbolAt) → extension x (p ++ r) ≡ extension x p ++ r
extension_on None p r = refl
extension_on (Some at) p r = refl

pub item_on : (i : Item) (p r : List SymbolAt) → spell_item i (p ++ r) ≡ spell_item i p ++ r
item_on (tSkipped e at x c) p r = ap (λ z. extension e (sign (sy.Storage storage.Extern) at ∷ z)) (raw_on x (sign sy.Semicolon c ∷ p) r) ∙ extension_on e _ r
item_on (tFunction ws n ps ats x) p r =
    ap (λ z. spell_words ws (spell_name n (spell_parameters ps (spell_attributes ats z)))) (body_on x p r)
    ∙ ap (λ z. spell_words ws (spell_name n (spell_parameters ps z))) (attributes_on ats _ r)
    ∙ ap (λ z. spell_words ws (spell_name n z)) (parameters_on ps _ r)
    ∙ ap (spell_words ws) (name_on n _ r)
    ∙ words_on ws _ r
item_on (tDeclaration d) p r = declaration_on d p r
item_on (tEmpty at) p r = refl
