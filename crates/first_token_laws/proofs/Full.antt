-- The machine that keeps each tree, however high: what of the machine's steps makes an expression, or makes use of it.
use Rattle.std.specs.Prelude.{List, None, Option, Some, [], if◌then◌else◌, leb, length, max, not, ℕ, ◌++◌, ◌∷◌}
use Rattle.c_tree.specs.Words.{is_typed, with_named, with_storage, with_type}
use Rattle.c_tree.specs.Spelling.{level}
use Rattle.c_tree.specs.Tree.{Ats, Ex, Parts, St, eAssign, eBinary, eCall, eCast, eComma, eCond, eIndex, eLetter, eName, eNumber, eParen, ePostfix, ePrefix, eSizeof, fFunction, for_head, no_params, no_parts, no_statements, pUnknown, parts_and, sEmpty, tEmpty, wConst, wExtension, wStorage, wTag, wType, wTypedef}
use Rattle.parse_machine.specs.Contexts.{Around, Attribute, Begin, Behind, Bind, Constant, Declared, Either, Ended, Enumeration, File, Finished, Fork, Goto, Inner, Label, Listed, Maybe, Mode, Named, Next, Opened, Operand, Outer, Parameter, Parameters', Part, Sizeof, Skipped, Specifiers, Spoken, Tagged, Tall, Value, Wait, Whole, aroundCast, aroundParameter, aroundPlace, aroundSizeof, bAssign, bBinary, bCast, bComma, bElse, bPrefix, baseStatement, baseStep, forkBlock, forkSizeof, headTagged, inBase, inBind, inConstant, inOpen, oArgument, oIndex, oParen, onLabel, onWords, outBlock, outWrap, placeFile, wFor, wLabel, waitAttribute, waitVoid, waitWhile}
use Rattle.parse_machine.specs.Making.{above, bind_level, extension_words, one_more, said, tall, unspoken, with_form}
use Rattle.c_tree.specs.declared.symbol.Bracket.{Bracket}
use Rattle.c_tree.specs.declared.symbol.Bracket.TheVariants as br
use Rattle.c_tree.specs.declared.symbol.Symbol.{Symbol}
use Rattle.c_tree.specs.declared.symbol.Symbol.TheVariants as sy
use Rattle.c_tree.specs.declared.tree.PrefixOp.TheVariants as pre
use Rattle.c_tree.specs.Shape.{has}
use Rattle.parse_machine.specs.Tokens.{Prefix, SpecKind, Start, Suffix, is_else, preLetter, preName, preNumber, preOpen, preOperator, preOther, preSizeof, prefix_of, skip_of, spAttribute, spConst, spEnum, spExtension, spOther, spStorage, spType, spTypedef, spec_of, startClose, startEmpty, startOpen, startOther, startWord, start_of, sufAssign, sufBinary, sufClose, sufColon, sufComma, sufCrement, sufOpenRound, sufOpenSquare, sufQuestion, sufSemicolon, suffix_of}
use Rattle.parse_machine.specs.Heights.{is_list}
use Rattle.parse_machine.specs.Expressions.{Held, assign, binary, close_curly, close_round_base, close_square_base, colon, comma, fold_level, held, is_open_round, is_postfix, nothing_curly, nothing_semicolon, nothing_square, open_round, question, semicolon, when}
use Rattle.parse_machine.specs.Specifiers.{behind_cast, behind_parameter, behind_place, enum_word, list_start, site_of, step_constant, step_enumeration, step_named, with_word_said}
use Rattle.c_tree.specs.declared.symbol.TypeWord.TheVariants as type
use Rattle.parse_machine.specs.Declarations.{Turn, kept, step_behind, step_listed, step_next, step_parameter, turn}
use Rattle.parse_machine.specs.Statements.{Settled, begin_word, close_block, extension_binds, fork_around, fork_inner, inBlock, inDo, otherwise, settle, step_goto, step_wait}
use Rattle.c_tree.specs.declared.symbol.SymbolAt.{SymbolAt}
use Rattle.parse_machine.specs.Steps.{attribute_skip, body_skip}

-- Nodes.

-- an expression of this level and height
abbrev pub part : ℕ → ℕ → Ex → Part
part l h e = record { value = e; level = l; height = h }

-- an operator with its last operand
abbrev pub bound : Bind → Part → Part
bound (bBinary a o at) e = part (level o) (above (max a.height e.height)) (eBinary a.value o at e.value)
bound (bPrefix o at) e = part 14 (above e.height) (ePrefix o at e.value)
bound (bCast a ws b) e = part 13 (above (max (above ws.height) e.height)) (eCast a ws.value b e.value)
bound (bAssign a o at) e = part 1 (above (max a.height e.height)) (eAssign a.value o at e.value)
bound (bElse c x a y) e = part 2 (above (max (max c.height a.height) e.height)) (eCond c.value x a.value y e.value)
bound (bComma es at) e = part 0 (above (max es.height e.height)) (eComma (parts_and es.value (Some at) e.value))

-- Expressions.

abbrev pub operand : Ex → Inner → Mode
operand e k = Value (part 15 1 e) k

abbrev pub step_operand : List (List ℕ) → Prefix → ℕ → Inner → Option Mode
step_operand names (preName n) at k = when (not (has names n)) (operand (eName n at) k)
step_operand names (preNumber v f) at k = Some (operand (eNumber v f at) k)
step_operand names (preLetter v) at k = Some (operand (eLetter v at) k)
step_operand names preOpen at k = Some (open_round at k)
step_operand names preSizeof at k = Some (Sizeof at k)
step_operand names (preOperator o) at k = Some (Operand (inBind (bPrefix o at) k))
step_operand names preOther at k = None

abbrev pub step_sizeof : List (List ℕ) → Prefix → ℕ → ℕ → Inner → Option Mode
step_sizeof names p at x k = if is_open_round p then Some (Either (forkSizeof x at k) []) else step_operand names p at (inBind (bPrefix pre.Sizeof x) k)

-- makes whole what binds tighter than the level
abbrev pub fold : Inner → ℕ → Part → Held
fold (inBind b k) n e = if leb n (bind_level b) then fold k n (bound b e) else held e (inBind b k)
fold (inBase b) n e = held e (inBase b)
fold (inOpen o k) n e = held e (inOpen o k)
fold (inConstant w s h es c n x a) m e = held e (inConstant w s h es c n x a)

abbrev pub called : Part → ℕ → Tall Parts → ℕ → Inner → Mode
called f a es at k = Value (part 15 (above (max f.height es.height)) (eCall f.value a es.value at)) k

abbrev pub close_round_open : ℕ → Part → Opened → Inner → Option Mode
close_round_open at e (oParen a) k = Some (Value (part 15 (above e.height) (eParen a e.value at)) k)
close_round_open at e (oArgument f a es c) k = when (leb 1 e.level) (called f a (one_more es c e) at k)
close_round_open at e _ k = None

abbrev pub close_round : ℕ → Part → Inner → Option Mode
close_round at e (inOpen o k) = close_round_open at e o k
close_round at e (inBase b) = close_round_base at e b
close_round at e _ = None

abbrev pub close_square_open : ℕ → Part → Opened → Inner → Option Mode
close_square_open at e (oIndex f x) k = Some (Value (part 15 (above (max f.height e.height)) (eIndex f.value x e.value at)) k)
close_square_open at e _ k = None

abbrev pub close_square : ℕ → Part → Inner → Option Mode
close_square at e (inOpen o k) = close_square_open at e o k
close_square at e (inBase b) = close_square_base at e b
close_square at e _ = None

abbrev pub close : Bracket → ℕ → Part → Inner → Option Mode
close br.Round at e k = close_round at e k
close br.Square at e k = close_square at e k
close br.Curly at e k = close_curly at e k

-- behind an operand, where all that binds tighter is whole
abbrev pub step_folded : Suffix → ℕ → Part → Inner → Option Mode
step_folded (sufBinary o) at e k = binary o at e k
step_folded (sufAssign o) at e k = assign o at e k
step_folded sufQuestion at e k = question at e k
step_folded sufComma at e k = comma at e k
step_folded sufColon at e k = colon at e k
step_folded sufSemicolon at e k = semicolon at e k
step_folded (sufClose b) at e k = close b at e k
step_folded _ at e k = None

abbrev pub postfix : Suffix → ℕ → Part → Inner → Option Mode
postfix sufOpenRound at e k = Some (Maybe (inOpen (oArgument e at (tall no_parts 0) None) k))
postfix sufOpenSquare at e k = Some (Operand (inOpen (oIndex e at) k))
postfix (sufCrement c) at e k = Some (Value (part 15 (above e.height) (ePostfix e.value c at)) k)
postfix _ at e k = None

abbrev pub step_postfix : Suffix → ℕ → Part → Inner → Option Mode
step_postfix s at e k = if leb 15 e.level then postfix s at e k else None

abbrev pub step_held : Suffix → ℕ → Held → Option Mode
step_held s at h = step_folded s at h.value h.around

abbrev pub step_value : Suffix → ℕ → Part → Inner → Option Mode
step_value s at e k = if is_postfix s then step_postfix s at e k else step_held s at (fold k (fold_level s) e)

abbrev pub nothing_round : ℕ → Inner → Option Mode
nothing_round at (inOpen (oArgument f a es None) k) = Some (called f a es at k)
nothing_round at (inBase (baseStep m x a st p y o)) = Some (Begin (outWrap (wFor m (for_head x a st p y None at)) o))
nothing_round at _ = None

abbrev pub step_maybe : List (List ℕ) → Symbol → ℕ → Inner → Option Mode
step_maybe names (sy.Close br.Round) at k = nothing_round at k
step_maybe names (sy.Close br.Square) at k = nothing_square at k
step_maybe names (sy.Close br.Curly) at k = nothing_curly at k
step_maybe names sy.Semicolon at k = nothing_semicolon at k
step_maybe names s at k = step_operand names (prefix_of s) at k

-- Words.

abbrev pub behind_sizeof : Symbol → ℕ → Spoken → ℕ → ℕ → Inner → Option Mode
behind_sizeof (sy.Close br.Round) at s x a k = Some (Value (part 14 (above (above s.height)) (eSizeof x a s.words at)) k)
behind_sizeof _ at s x a k = None

-- behind words that are whole
abbrev pub behind_words : Symbol → ℕ → Spoken → Around → Option Mode
behind_words t at s (aroundCast a k) = behind_cast t at s a k
behind_words t at s (aroundSizeof x a k) = behind_sizeof t at s x a k
behind_words t at s (aroundParameter d a ps c) = behind_parameter t at s d a ps c
behind_words t at s (aroundPlace p) = behind_place t at s p

abbrev pub step_kind : SpecKind → Symbol → ℕ → Spoken → Around → Option Mode
step_kind (spType x) t at s w = with_word_said s w (wType x at) (with_type (site_of w) x s.told)
step_kind (spStorage x) t at s w = with_word_said s w (wStorage x at) (with_storage (site_of w) x s.told)
step_kind (spConst x) t at s w = with_word_said s w (wConst x at) (Some s.told)
step_kind spExtension t at s w = with_word_said s w (wExtension at) (Some s.told)
step_kind (spAttribute x) t at s w = Some (Wait (waitAttribute x at (onWords s w)))
step_kind spEnum t at s w = enum_word at s w (with_named s.told)
step_kind (spTypedef n) t at s w = with_word_said s w (wTypedef n at) (with_named s.told)
step_kind spOther t at s w = if is_typed s.told.typing then behind_words t at s w else None

abbrev pub step_specs : List (List ℕ) → Symbol → ℕ → Spoken → Around → Option Mode
step_specs names t at s w = step_kind (spec_of names t) t at s w

abbrev pub step_tagged : List (List ℕ) → Symbol → ℕ → ℕ → List ℕ → ℕ → Spoken → Around → Option Mode
step_tagged names (sy.Open br.Curly) at x n y s w = Some (list_start s w (headTagged x n y at))
step_tagged names t at x n y s w = step_specs names t at (said s s.told (wTag x n y) 1) w

-- Parameters.

abbrev pub step_parameters : List (List ℕ) → Symbol → ℕ → Declared → ℕ → Option Mode
step_parameters names (sy.Close br.Round) at d a = Some (Behind (with_form d (tall (fFunction (pUnknown a at)) 1)))
step_parameters names (sy.Type type.Void) at d a = Some (Wait (waitVoid d a at))
step_parameters names t at d a = step_specs names t at unspoken (aroundParameter d a (tall no_params 0) None)

-- Statements.

abbrev pub fork_kind : List (List ℕ) → SpecKind → Symbol → ℕ → Fork → List ℕ → Option Mode
fork_kind names spExtension t at f ats = Some (Either f (ats ++ at ∷ []))
fork_kind names spOther t at f ats = step_maybe names t at (extension_binds ats (fork_inner f))
fork_kind names _ t at f ats = step_specs names t at (extension_words ats unspoken) (fork_around f)

abbrev pub step_either : List (List ℕ) → Symbol → ℕ → Fork → List ℕ → Option Mode
step_either names t at f ats = fork_kind names (spec_of names t) t at f ats

-- a declaration stands directly in a block
abbrev pub begin_other : List (List ℕ) → Symbol → ℕ → Outer → Option Mode
begin_other names t at o = if is_list o then step_either names t at (forkBlock o) [] else step_operand names (prefix_of t) at (inBase (baseStatement o))

abbrev pub step_start : List (List ℕ) → Start → Symbol → ℕ → Outer → Option Turn
step_start names startEmpty t at o = Some (turn (Whole (sEmpty at) o) names)
step_start names startOpen t at o = Some (turn (Begin (outBlock (length names) at no_statements o)) names)
step_start names startClose t at o = close_block names at o
step_start names (startWord w) t at o = kept names (begin_word w at o)
step_start names startOther t at o = kept names (begin_other names t at o)

abbrev pub step_begin : List (List ℕ) → Symbol → ℕ → Outer → Option Turn
step_begin names t at o = step_start names (start_of t) t at o

abbrev pub step_label : List (List ℕ) → Symbol → ℕ → List ℕ → ℕ → ℕ → Ats → Outer → Option Turn
step_label names (sy.Attribute w) at n x b ats o = Some (turn (Wait (waitAttribute w at (onLabel n x b ats o))) names)
step_label names t at n x b ats o = step_begin names t at (outWrap (wLabel n x b ats) o)

abbrev pub step_settled : Symbol → ℕ → Settled → Option Turn
step_settled t at (inBlock o names) = step_begin names t at o
step_settled t at (inDo x s o names) = kept names (step_wait names t at (waitWhile x s o))

abbrev pub step_whole : List (List ℕ) → Symbol → ℕ → St → Outer → Option Turn
step_whole names t at s o = if is_else t then otherwise names at o s else step_settled t at (settle names o s)

-- One token, in each mode.

-- where an item is to come
abbrev pub step_file : List (List ℕ) → Symbol → ℕ → Option Mode
step_file names sy.Semicolon at = Some (Ended (tEmpty at) 0)
step_file names sy.End at = Some Finished
step_file names t at = step_specs names t at unspoken (aroundPlace placeFile)

abbrev pub next : List (List ℕ) → SymbolAt → Mode → Option Turn
next names t File = kept names (step_file names t.symbol t.at)
next names t (Ended i h) = None
next names t (Specifiers s w) = kept names (step_specs names t.symbol t.at s w)
next names t (Enumeration x s w) = kept names (step_enumeration names t.symbol t.at x s w)
next names t (Tagged x n y s w) = kept names (step_tagged names t.symbol t.at x n y s w)
next names t (Constant l) = kept names (step_constant names t.symbol t.at l)
next names t (Named l n x) = kept names (step_named t.symbol t.at l n x)
next names t (Attribute w x a r n y) = kept names (attribute_skip (skip_of br.Round t.symbol n) t w x a r y)
next names t (Next d c) = kept names (step_next names t.symbol t.at d c)
next names t (Behind d) = step_behind names t.symbol t.at d
next names t (Listed d) = kept names (step_listed t.symbol t.at d)
next names t (Parameters' d a) = kept names (step_parameters names t.symbol t.at d a)
next names t (Parameter d a ps c s n x) = kept names (step_parameter t.symbol t.at d a ps c s n x)
next names t (Skipped h a r n) = kept names (body_skip (skip_of br.Curly t.symbol n) t h a r)
next names t (Begin o) = step_begin names t.symbol t.at o
next names t (Wait x) = kept names (step_wait names t.symbol t.at x)
next names t (Either f ats) = kept names (step_either names t.symbol t.at f ats)
next names t (Goto x o) = kept names (step_goto names t.symbol t.at x o)
next names t (Operand k) = kept names (step_operand names (prefix_of t.symbol) t.at k)
next names t (Maybe k) = kept names (step_maybe names t.symbol t.at k)
next names t (Sizeof x k) = kept names (step_sizeof names (prefix_of t.symbol) t.at x k)
next names t (Value e k) = kept names (step_value (suffix_of t.symbol) t.at e k)
next names t (Label n x b ats o) = step_label names t.symbol t.at n x b ats o
next names t (Whole s o) = step_whole names t.symbol t.at s o
next names t Finished = None
