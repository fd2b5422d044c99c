-- One token, in each mode.
use Rattle.std.specs.Prelude.{ℕ, List, Option, None, Some}
use Rattle.c_tree.specs.declared.symbol.Bracket.TheVariants as br
use Rattle.c_tree.specs.declared.symbol.AttributeWord.{AttributeWord}
use Rattle.c_tree.specs.declared.symbol.Symbol.{Symbol}
use Rattle.c_tree.specs.declared.symbol.Symbol.TheVariants as sy
use Rattle.c_tree.specs.declared.symbol.SymbolAt.{SymbolAt}
use Rattle.c_tree.specs.Tree.{Raw, raw_and, At, attribute, attributes_and, wAttribute, bSkipped, tEmpty}
use Rattle.parse_machine.specs.Tokens.{prefix_of, suffix_of, Skip, skipOn, skipClose, skipEnd, skip_of}
use Rattle.parse_machine.specs.Contexts.{Header, placeFile, aroundPlace, Attributed, onWords, onDeclared, onLabel, Mode, File, Ended, Specifiers, Enumeration, Tagged, Constant, Named, Attribute, Next, Behind, Listed, Parameters', Parameter, Skipped, Begin, Wait, Either, Goto, Operand, Maybe, Sizeof, Value, Label, Whole, Finished}
use Rattle.parse_machine.specs.Making.{unspoken, said, with_attributes}
use Rattle.parse_machine.specs.Expressions.{step_operand, step_sizeof, step_value, step_maybe}
use Rattle.parse_machine.specs.Specifiers.{step_specs, step_enumeration, step_tagged, step_constant, step_named}
use Rattle.parse_machine.specs.Declarations.{Turn, kept, step_behind, step_next, step_listed, step_parameters, step_parameter}
use Rattle.parse_machine.specs.Statements.{step_either, step_begin, step_goto, step_label, step_wait, step_whole, function_item}

-- an attribute is whole
abbrev pub with_attribute : Attributed → At → Mode
with_attribute (onWords s w) x = Specifiers (said s s.told (wAttribute x) 1) w
with_attribute (onDeclared d) x = Behind (with_attributes d (attributes_and d.attributes x))
with_attribute (onLabel n x b ats o) y = Label n x b (attributes_and ats y) o

abbrev pub attribute_skip : Skip → SymbolAt → AttributeWord → ℕ → ℕ → Raw → Attributed → Option Mode
attribute_skip (skipOn n) t w x a r y = Some (Attribute w x a (raw_and r t) n y)
attribute_skip skipClose t w x a r y = Some (with_attribute y (attribute w x a r t.at))
attribute_skip skipEnd t w x a r y = None

abbrev pub body_skip : Skip → SymbolAt → Header → ℕ → Raw → Option Mode
body_skip (skipOn n) t h a r = Some (Skipped h a (raw_and r t) n)
body_skip skipClose t h a r = Some (Ended (function_item h (bSkipped a r t.at)) 0)
body_skip skipEnd t h a r = None

-- where an item is to come
abbrev pub step_file : List (List ℕ) → Symbol → ℕ → Option Mode
step_file names sy.Semicolon at = Some (Ended (tEmpty at) 0)
step_file names sy.End at = Some Finished
step_file names t at = step_specs names t at unspoken (aroundPlace placeFile)

abbrev pub next : List (List ℕ) → SymbolAt → Mode → Option Turn
next names t File = kept names (step_file names t.symbol t.at)
next names t (Ended i h) = None
next names t (Specifiers s w) = kept names (step_specs names t.symbol t.at s w)
next names t (Enumeration x s w) = kept names (step_enumeration names t.symbol t.at x s w)
next names t (Tagged x n y s w) = kept names (step_tagged names t.symbol t.at x n y s w)
next names t (Constant l) = kept names (step_constant names t.symbol t.at l)
next names t (Named l n x) = kept names (step_named t.symbol t.at l n x)
next names t (Attribute w x a r n y) = kept names (attribute_skip (skip_of br.Round t.symbol n) t w x a r y)
next names t (Next d c) = kept names (step_next names t.symbol t.at d c)
next names t (Behind d) = step_behind names t.symbol t.at d
next names t (Listed d) = kept names (step_listed t.symbol t.at d)
next names t (Parameters' d a) = kept names (step_parameters names t.symbol t.at d a)
next names t (Parameter d a ps c s n x) = kept names (step_parameter t.symbol t.at d a ps c s n x)
next names t (Skipped h a r n) = kept names (body_skip (skip_of br.Curly t.symbol n) t h a r)
next names t (Begin o) = step_begin names t.symbol t.at o
next names t (Wait x) = kept names (step_wait names t.symbol t.at x)
next names t (Either f ats) = kept names (step_either names t.symbol t.at f ats)
next names t (Goto x o) = kept names (step_goto names t.symbol t.at x o)
next names t (Operand k) = kept names (step_operand names (prefix_of t.symbol) t.at k)
next names t (Maybe k) = kept names (step_maybe names t.symbol t.at k)
next names t (Sizeof x k) = kept names (step_sizeof names (prefix_of t.symbol) t.at x k)
next names t (Value e k) = kept names (step_value (suffix_of t.symbol) t.at e k)
next names t (Label n x b ats o) = step_label names t.symbol t.at n x b ats o
next names t (Whole s o) = step_whole names t.symbol t.at s o
next names t Finished = None
