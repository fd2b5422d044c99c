-- The tokens that a state has read, and then the rest.
use Rattle.std.proofs.Common.{ℕ, List, [], ◌∷◌}
use Rattle.c_tree.specs.declared.symbol.AssignOp.TheVariants as to
use Rattle.c_tree.specs.declared.symbol.Bracket.TheVariants as br
use Rattle.c_tree.specs.declared.symbol.StatementWord.{StatementWord}
use Rattle.c_tree.specs.declared.symbol.StatementWord.TheVariants as key
use Rattle.c_tree.specs.declared.symbol.TypeWord.TheVariants as type
use Rattle.c_tree.specs.declared.symbol.Symbol.TheVariants as sy
use Rattle.c_tree.specs.declared.symbol.SymbolAt.{SymbolAt}
use Rattle.c_tree.specs.Symbols.{sign}
use Rattle.c_tree.specs.Spelling.{opening, closing, word, comma, prefix_symbol, spell, spell_parts, spell_words, spell_enumerators, spell_raw, spell_attributes, spell_option, spell_name, spell_params, spell_parameters, spell_form, spell_declarators, spell_head, spell_for_start, spell_for_head, spell_statement, spell_statements, spell_item}
use Rattle.parse_machine.specs.Contexts.{Spoken, Bind, bBinary, bPrefix, bCast, bAssign, bElse, bComma, Opened, oParen, oIndex, oArgument, oThen, Test, testIf, testWhile, testSwitch, Wrap, wThen, wElse, wWhile, wSwitch, wFor, wCase, wDefault, wLabel, Header, Outer, outBody, outBlock, outDo, outWrap, Place, placeFile, placeBlock, placeFor, Declaring, Declared, EnumHead, headBare, headTagged, Base, baseStatement, baseTest, baseDo, baseReturn, baseCase, baseStart, baseMore, baseStep, baseLength, baseInitial, basePart, Inner, inBase, inBind, inOpen, inConstant, Around, aroundCast, aroundSizeof, aroundParameter, aroundPlace, Listing, Attributed, onWords, onDeclared, onLabel, Fork, forkCast, forkSizeof, forkBlock, forkFor, Waiting, waitTest, waitWhile, waitDo, waitDone, waitFor, waitDefault, waitGoto, waitBreak, waitContinue, waitVoid, waitList, waitAttribute, Mode, File, Ended, Specifiers, Enumeration, Tagged, Constant, Named, Attribute, Next, Behind, Listed, Parameters', Parameter, Skipped, Begin, Wait, Either, Goto, Operand, Maybe, Sizeof, Value, Label, Whole, Finished}

abbrev pub test_word : Test → StatementWord
test_word testIf = key.If
test_word testWhile = key.While
test_word testSwitch = key.Switch

abbrev pub name_sign : List ℕ → ℕ → SymbolAt
name_sign n at = sign (sy.Name n) at

abbrev pub header : Header → List SymbolAt → List SymbolAt
header h r = spell_words h.words (spell_name h.name (spell_parameters h.parameters (spell_attributes h.attributes r)))

abbrev pub wrap : Wrap → List SymbolAt → List SymbolAt
wrap (wThen h) r = spell_head key.If h r
wrap (wElse h a at) r = spell_head key.If h (spell_statement a (word key.Else at ∷ r))
wrap (wWhile h) r = spell_head key.While h r
wrap (wSwitch h) r = spell_head key.Switch h r
wrap (wFor m h) r = spell_for_head h r
wrap (wCase at e b) r = word key.Case at ∷ spell e (sign sy.Colon b ∷ r)
wrap (wDefault at b) r = word key.Default at ∷ sign sy.Colon b ∷ r
wrap (wLabel n at b ats) r = name_sign n at ∷ sign sy.Colon b ∷ spell_attributes ats r

abbrev pub outer : Outer → List SymbolAt → List SymbolAt
outer (outBody m h a ss) r = header h (opening br.Curly a ∷ spell_statements ss r)
outer (outBlock m a ss o) r = outer o (opening br.Curly a ∷ spell_statements ss r)
outer (outDo at o) r = outer o (word key.Do at ∷ r)
outer (outWrap w o) r = outer o (wrap w r)

abbrev pub for_open : ℕ → ℕ → Outer → List SymbolAt → List SymbolAt
for_open at a o r = outer o (word key.For at ∷ opening br.Round a ∷ r)

abbrev pub place : Place → List SymbolAt → List SymbolAt
place placeFile r = r
place (placeBlock o) r = outer o r
place (placeFor m at a o) r = for_open at a o r

abbrev pub declaring : Declaring → List SymbolAt → List SymbolAt
declaring d r = place d.place (spell_words d.spoken.words (spell_declarators d.before.value r))

abbrev pub declared : Declared → List SymbolAt → List SymbolAt
declared d r = declaring d.around (comma d.comma (name_sign d.name d.at ∷ spell_form d.form.value (spell_attributes d.attributes r)))

abbrev pub enum_head : EnumHead → List SymbolAt → List SymbolAt
enum_head (headBare at a) r = sign sy.Enum at ∷ opening br.Curly a ∷ r
enum_head (headTagged at n x a) r = sign sy.Enum at ∷ name_sign n x ∷ opening br.Curly a ∷ r

abbrev pub base : Base → List SymbolAt → List SymbolAt
base (baseStatement o) r = outer o r
base (baseTest t at a o) r = outer o (word (test_word t) at ∷ opening br.Round a ∷ r)
base (baseDo at s x a o) r = outer o (word key.Do at ∷ spell_statement s (word key.While x ∷ opening br.Round a ∷ r))
base (baseReturn at o) r = outer o (word key.Return at ∷ r)
base (baseCase at o) r = outer o (word key.Case at ∷ r)
base (baseStart m at a o) r = for_open at a o r
base (baseMore m at a s o) r = for_open at a o (spell_for_start s r)
base (baseStep m at a s e x o) r = for_open at a o (spell_for_start s (spell_option e (sign sy.Semicolon x ∷ r)))
base (baseLength d a) r = declared d (opening br.Square a ∷ r)
base (baseInitial d at) r = declared d (sign (sy.Assign to.Plain) at ∷ r)
base (basePart d at a es c) r = declared d (sign (sy.Assign to.Plain) at ∷ opening br.Curly a ∷ spell_parts es.value (comma c r))

abbrev pub bind : Bind → List SymbolAt → List SymbolAt
bind (bBinary a o at) r = spell a.value (sign (sy.Binary o) at ∷ r)
bind (bPrefix o at) r = sign (prefix_symbol o) at ∷ r
bind (bCast a ws b) r = opening br.Round a ∷ spell_words ws.value (closing br.Round b ∷ r)
bind (bAssign a o at) r = spell a.value (sign (sy.Assign o) at ∷ r)
bind (bElse c x a y) r = spell c.value (sign sy.Question x ∷ spell a.value (sign sy.Colon y ∷ r))
bind (bComma es at) r = spell_parts es.value (sign sy.Comma at ∷ r)

abbrev pub opened : Opened → List SymbolAt → List SymbolAt
opened (oParen a) r = opening br.Round a ∷ r
opened (oIndex f x) r = spell f.value (opening br.Square x ∷ r)
opened (oArgument f a es c) r = spell f.value (opening br.Round a ∷ spell_parts es.value (comma c r))
opened (oThen c x) r = spell c.value (sign sy.Question x ∷ r)

abbrev mutual
  pub inner : Inner → List SymbolAt → List SymbolAt
  inner (inBase b) r = base b r
  inner (inBind b k) r = inner k (bind b r)
  inner (inOpen o k) r = inner k (opened o r)
  inner (inConstant w s h es c n at a) r = around w (spell_words s.words (enum_head h (spell_enumerators es.value (comma c (name_sign n at ∷ sign (sy.Assign to.Plain) a ∷ r)))))

  pub around : Around → List SymbolAt → List SymbolAt
  around (aroundCast a k) r = inner k (opening br.Round a ∷ r)
  around (aroundSizeof at a k) r = inner k (sign sy.Sizeof at ∷ opening br.Round a ∷ r)
  around (aroundParameter d a ps c) r = declared d (opening br.Round a ∷ spell_params ps.value (comma c r))
  around (aroundPlace p) r = place p r

abbrev pub said : Spoken → Around → List SymbolAt → List SymbolAt
said s w r = around w (spell_words s.words r)

abbrev pub listing : Listing → List SymbolAt → List SymbolAt
listing l r = said l.spoken l.around (enum_head l.head (spell_enumerators l.before.value (comma l.comma r)))

abbrev pub attributed : Attributed → List SymbolAt → List SymbolAt
attributed (onWords s w) r = said s w r
attributed (onDeclared d) r = declared d r
attributed (onLabel n at b ats o) r = outer o (name_sign n at ∷ sign sy.Colon b ∷ spell_attributes ats r)

abbrev pub fork : Fork → List SymbolAt → List SymbolAt
fork (forkCast a k) r = inner k (opening br.Round a ∷ r)
fork (forkSizeof at a k) r = inner k (sign sy.Sizeof at ∷ opening br.Round a ∷ r)
fork (forkBlock o) r = outer o r
fork (forkFor m at a o) r = for_open at a o r

-- so many times `__extension__`
abbrev pub extensions : List ℕ → List SymbolAt → List SymbolAt
extensions [] r = r
extensions (at ∷ ats) r = sign sy.Extension at ∷ extensions ats r

abbrev pub waiting : Waiting → List SymbolAt → List SymbolAt
waiting (waitTest t at o) r = outer o (word (test_word t) at ∷ r)
waiting (waitWhile at s o) r = outer o (word key.Do at ∷ spell_statement s r)
waiting (waitDo at s x o) r = outer o (word key.Do at ∷ spell_statement s (word key.While x ∷ r))
waiting (waitDone at s h o) r = outer o (word key.Do at ∷ spell_statement s (spell_head key.While h r))
waiting (waitFor at o) r = outer o (word key.For at ∷ r)
waiting (waitDefault at o) r = outer o (word key.Default at ∷ r)
waiting (waitGoto at n x o) r = outer o (word key.Goto at ∷ name_sign n x ∷ r)
waiting (waitBreak at o) r = outer o (word key.Break at ∷ r)
waiting (waitContinue at o) r = outer o (word key.Continue at ∷ r)
waiting (waitVoid d a at) r = declared d (opening br.Round a ∷ sign (sy.Type type.Void) at ∷ r)
waiting (waitList d at) r = declared d (sign (sy.Assign to.Plain) at ∷ r)
waiting (waitAttribute w at x) r = attributed x (sign (sy.Attribute w) at ∷ r)

-- from the beginning of the item
abbrev pub mode : Mode → List SymbolAt → List SymbolAt
mode File r = r
mode (Ended i h) r = spell_item i r
mode (Specifiers s w) r = said s w r
mode (Enumeration at s w) r = said s w (sign sy.Enum at ∷ r)
mode (Tagged at n x s w) r = said s w (sign sy.Enum at ∷ name_sign n x ∷ r)
mode (Constant l) r = listing l r
mode (Named l n at) r = listing l (name_sign n at ∷ r)
mode (Attribute w at a t n x) r = attributed x (sign (sy.Attribute w) at ∷ opening br.Round a ∷ spell_raw t r)
mode (Next d at) r = declaring d (sign sy.Comma at ∷ r)
mode (Behind d) r = declared d r
mode (Listed d) r = declaring d r
mode (Parameters' d a) r = declared d (opening br.Round a ∷ r)
mode (Parameter d a ps c s n at) r = declared d (opening br.Round a ∷ spell_params ps.value (comma c (spell_words s.words (name_sign n at ∷ r))))
mode (Skipped h a t n) r = header h (opening br.Curly a ∷ spell_raw t r)
mode (Begin o) r = outer o r
mode (Wait x) r = waiting x r
mode (Either f ats) r = fork f (extensions ats r)
mode (Goto at o) r = outer o (word key.Goto at ∷ r)
mode (Operand k) r = inner k r
mode (Maybe k) r = inner k r
mode (Sizeof at k) r = inner k (sign sy.Sizeof at ∷ r)
mode (Value e k) r = inner k (spell e.value r)
mode (Label n at b ats o) r = outer o (name_sign n at ∷ sign sy.Colon b ∷ spell_attributes ats r)
mode (Whole s o) r = outer o (spell_statement s r)
mode Finished r = r
