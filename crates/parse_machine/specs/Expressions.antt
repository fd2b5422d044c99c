-- Expressions, and what ends them.
use Rattle.std.specs.Prelude.{ℕ, max, leb, List, [], Option, None, Some, Bool, true, false, ◌&&◌, not, if◌then◌else◌}
use Rattle.c_tree.specs.declared.symbol.BinaryOp.{BinaryOp}
use Rattle.c_tree.specs.declared.symbol.AssignOp.{AssignOp}
use Rattle.c_tree.specs.declared.symbol.Bracket.{Bracket}
use Rattle.c_tree.specs.declared.symbol.Bracket.TheVariants as br
use Rattle.c_tree.specs.declared.symbol.Symbol.{Symbol}
use Rattle.c_tree.specs.declared.symbol.Symbol.TheVariants as sy
use Rattle.c_tree.specs.declared.tree.PrefixOp.TheVariants as pre
use Rattle.c_tree.specs.Spelling.{level}
use Rattle.c_tree.specs.Shape.{has}
use Rattle.c_tree.specs.Tree.{no_attributes, Ex, eName, eNumber, eLetter, eParen, eCall, eIndex, ePostfix, Parts, no_parts, Ens, fArray, iValue, iList, Declaration, head, forDeclares, forExpr, for_head, sDeclaration, sExpr, sReturn, tDeclaration}
use Rattle.parse_machine.specs.Tokens.{Prefix, preName, preNumber, preLetter, preOpen, preSizeof, preOperator, preOther, prefix_of, Suffix, sufBinary, sufAssign, sufQuestion, sufComma, sufColon, sufSemicolon, sufClose, sufOpenRound, sufOpenSquare, sufCrement}
use Rattle.parse_machine.specs.Contexts.{Tall, Part, Bind, bBinary, bPrefix, bAssign, bElse, bComma, Opened, oParen, oIndex, oArgument, oThen, wFor, wCase, Outer, outWrap, Place, placeFile, placeBlock, placeFor, Declaring, Declared, Base, baseStatement, baseTest, baseDo, baseReturn, baseCase, baseStart, baseMore, baseStep, baseLength, baseInitial, basePart, Inner, inBase, inBind, inOpen, inConstant, Listing, forkCast, forkSizeof, waitDone, Mode, Ended, Specifiers, Constant, Next, Behind, Listed, Begin, Wait, Either, Operand, Maybe, Sizeof, Value, Label, Whole}
use Rattle.parse_machine.specs.Making.{above, tall, part, said, one_more, bound, bind_level, tested, valued_more, listing, enumeration, with_form, with_initial, whole_declaration, declaration_height}
use Rattle.parse_machine.specs.Heights.{least}

abbrev pub when : {A : Type 0} → Bool → A → Option A
when true x = Some x
when false x = None

-- Where an operand is to come.

-- behind `(`: words of a cast may come too, where a cast fits the place
abbrev pub open_round : ℕ → Inner → Mode
open_round at k = if leb (least k) 13 then Either (forkCast at k) [] else Operand (inOpen (oParen at) k)

abbrev pub operand : Ex → Inner → Mode
operand e k = Value (part 15 1 e) k

abbrev pub step_operand : List (List ℕ) → Prefix → ℕ → Inner → Option Mode
step_operand names (preName n) at k = when (not (has names n)) (operand (eName n at) k)
step_operand names (preNumber v f) at k = Some (operand (eNumber v f at) k)
step_operand names (preLetter v) at k = Some (operand (eLetter v at) k)
step_operand names preOpen at k = Some (open_round at k)
step_operand names preSizeof at k = Some (Sizeof at k)
step_operand names (preOperator o) at k = Some (Operand (inBind (bPrefix o at) k))
step_operand names preOther at k = None

-- behind `sizeof`
abbrev pub is_open_round : Prefix → Bool
is_open_round preOpen = true
is_open_round _ = false

abbrev pub step_sizeof : List (List ℕ) → Prefix → ℕ → ℕ → Inner → Option Mode
step_sizeof names p at x k = if is_open_round p then Some (Either (forkSizeof x at k) []) else step_operand names p at (inBind (bPrefix pre.Sizeof x) k)

-- Behind an operand.

-- an expression and what is open around it
pub record Held : Type 0 where
  pub value : Part
  pub around : Inner

abbrev pub held : Part → Inner → Held
held e k = record { value = e; around = k }

-- makes whole what binds tighter than the level
abbrev pub fold : Inner → ℕ → Part → Held
fold (inBind b k) n e = if leb n (bind_level b) then fold k n (bound b e) else held e (inBind b k)
fold (inBase b) n e = held e (inBase b)
fold (inOpen o k) n e = held e (inOpen o k)
fold (inConstant w s h es c n x a) m e = held e (inConstant w s h es c n x a)

abbrev pub binary : BinaryOp → ℕ → Part → Inner → Option Mode
binary o at e k = when (leb (least k) (level o) && leb (level o) e.level) (Operand (inBind (bBinary e o at) k))

abbrev pub question : ℕ → Part → Inner → Option Mode
question at e k = when (leb (least k) 2 && leb 3 e.level) (Operand (inOpen (oThen e at) k))

abbrev pub assign : AssignOp → ℕ → Part → Inner → Option Mode
assign o at e k = when (leb (least k) 1 && leb 14 e.level) (Operand (inBind (bAssign e o at) k))

-- the first part of a comma expression
abbrev pub sequence : ℕ → Part → Inner → Option Mode
sequence at e k = when (leb (least k) 0 && leb 1 e.level) (Operand (inBind (bComma (one_more (tall no_parts 0) None e) at) k))

abbrev pub comma_base : ℕ → Part → Base → Option Mode
comma_base at e (baseInitial d x) = when (leb 1 e.level) (Next (with_initial d (iValue x e.value) e.height) at)
comma_base at e (basePart d x a es c) = when (leb 1 e.level) (Maybe (inBase (basePart d x a (one_more es c e) (Some at))))
comma_base at e b = sequence at e (inBase b)

abbrev pub comma_open : ℕ → Part → Opened → Inner → Option Mode
comma_open at e (oArgument f a es c) k = when (leb 1 e.level) (Operand (inOpen (oArgument f a (one_more es c e) (Some at)) k))
comma_open at e o k = sequence at e (inOpen o k)

abbrev pub comma_bind : ℕ → Part → Bind → Inner → Option Mode
comma_bind at e (bComma es c) k = when (leb 1 e.level) (Operand (inBind (bComma (one_more es (Some c) e) at) k))
comma_bind at e b k = None

abbrev pub comma : ℕ → Part → Inner → Option Mode
comma at e (inBase b) = comma_base at e b
comma at e (inBind b k) = comma_bind at e b k
comma at e (inOpen o k) = comma_open at e o k
comma at e (inConstant w s h es c n x a) = when (leb 2 e.level) (Constant (listing w s h (valued_more (listing w s h es c) n x a e) (Some at)))

-- a name that is a whole expression is a label
abbrev pub label : ℕ → Ex → Outer → Option Mode
label at (eName n x) o = Some (Label n x at no_attributes o)
label at _ o = None

abbrev pub colon_base : ℕ → Part → Base → Option Mode
colon_base at e (baseCase x o) = when (leb 2 e.level) (Begin (outWrap (wCase x e.value at) o))
colon_base at e (baseStatement o) = label at e.value o
colon_base at e _ = None

abbrev pub colon_open : ℕ → Part → Opened → Inner → Option Mode
colon_open at e (oThen c x) k = Some (Operand (inBind (bElse c x e at) k))
colon_open at e _ k = None

abbrev pub colon : ℕ → Part → Inner → Option Mode
colon at e (inBase b) = colon_base at e b
colon at e (inOpen o k) = colon_open at e o k
colon at e _ = None

abbrev pub called : Part → ℕ → Tall Parts → ℕ → Inner → Mode
called f a es at k = Value (part 15 (above (max f.height es.height)) (eCall f.value a es.value at)) k

abbrev pub close_round_open : ℕ → Part → Opened → Inner → Option Mode
close_round_open at e (oParen a) k = Some (Value (part 15 (above e.height) (eParen a e.value at)) k)
close_round_open at e (oArgument f a es c) k = when (leb 1 e.level) (called f a (one_more es c e) at k)
close_round_open at e _ k = None

abbrev pub close_round_base : ℕ → Part → Base → Option Mode
close_round_base at e (baseTest t x a o) = Some (Begin (outWrap (tested t (head x a e.value at)) o))
close_round_base at e (baseDo x s y a o) = Some (Wait (waitDone x s (head y a e.value at) o))
close_round_base at e (baseStep m x a st p y o) = Some (Begin (outWrap (wFor m (for_head x a st p y (Some e.value) at)) o))
close_round_base at e _ = None

abbrev pub close_round : ℕ → Part → Inner → Option Mode
close_round at e (inOpen o k) = close_round_open at e o k
close_round at e (inBase b) = close_round_base at e b
close_round at e _ = None

abbrev pub close_square_open : ℕ → Part → Opened → Inner → Option Mode
close_square_open at e (oIndex f x) k = Some (Value (part 15 (above (max f.height e.height)) (eIndex f.value x e.value at)) k)
close_square_open at e _ k = None

abbrev pub close_square_base : ℕ → Part → Base → Option Mode
close_square_base at e (baseLength d a) = when (leb 2 e.level) (Behind (with_form d (tall (fArray a (Some e.value) at) e.height)))
close_square_base at e _ = None

abbrev pub close_square : ℕ → Part → Inner → Option Mode
close_square at e (inOpen o k) = close_square_open at e o k
close_square at e (inBase b) = close_square_base at e b
close_square at e _ = None

-- an enumeration is whole
abbrev pub enumerated : Listing → Tall Ens → Option ℕ → ℕ → Mode
enumerated l es c at = Specifiers (said l.spoken l.spoken.told (enumeration l.head es.value c at) (above es.height)) l.around

-- a list of initial values is whole
abbrev pub listed : Declared → ℕ → ℕ → Tall Parts → Option ℕ → ℕ → Mode
listed d x a es c at = Listed (with_initial d (iList x a es.value c at) (above es.height))

abbrev pub close_curly_base : ℕ → Part → Base → Option Mode
close_curly_base at e (basePart d x a es c) = when (leb 1 e.level) (listed d x a (one_more es c e) None at)
close_curly_base at e _ = None

abbrev pub close_curly : ℕ → Part → Inner → Option Mode
close_curly at e (inConstant w s h es c n x a) = when (leb 2 e.level) (enumerated (listing w s h es c) (valued_more (listing w s h es c) n x a e) None at)
close_curly at e (inBase b) = close_curly_base at e b
close_curly at e _ = None

abbrev pub close : Bracket → ℕ → Part → Inner → Option Mode
close br.Round at e k = close_round at e k
close br.Square at e k = close_square at e k
close br.Curly at e k = close_curly at e k

-- a declaration is whole
abbrev pub ended_at : Place → Declaration → ℕ → Mode
ended_at placeFile d h = Ended (tDeclaration d) h
ended_at (placeBlock o) d h = Whole (sDeclaration d) o
ended_at (placeFor m x a o) d h = Maybe (inBase (baseMore m x a (forDeclares d) o))

abbrev pub ended : Declaring → ℕ → Mode
ended d at = ended_at d.place (whole_declaration d at) (declaration_height d)

abbrev pub semicolon_base : ℕ → Part → Base → Option Mode
semicolon_base at e (baseStatement o) = Some (Whole (sExpr e.value at) o)
semicolon_base at e (baseReturn x o) = Some (Whole (sReturn x (Some e.value) at) o)
semicolon_base at e (baseStart m x a o) = Some (Maybe (inBase (baseMore m x a (forExpr (Some e.value) at) o)))
semicolon_base at e (baseMore m x a st o) = Some (Maybe (inBase (baseStep m x a st (Some e.value) at o)))
semicolon_base at e (baseInitial d x) = when (leb 1 e.level) (ended (with_initial d (iValue x e.value) e.height) at)
semicolon_base at e _ = None

abbrev pub semicolon : ℕ → Part → Inner → Option Mode
semicolon at e (inBase b) = semicolon_base at e b
semicolon at e _ = None

-- behind an operand, where all that binds tighter is whole
abbrev pub step_folded : Suffix → ℕ → Part → Inner → Option Mode
step_folded (sufBinary o) at e k = binary o at e k
step_folded (sufAssign o) at e k = assign o at e k
step_folded sufQuestion at e k = question at e k
step_folded sufComma at e k = comma at e k
step_folded sufColon at e k = colon at e k
step_folded sufSemicolon at e k = semicolon at e k
step_folded (sufClose b) at e k = close b at e k
step_folded _ at e k = None

-- the level down to which all is made whole
abbrev pub fold_level : Suffix → ℕ
fold_level (sufBinary o) = level o
fold_level (sufAssign o) = 2
fold_level sufQuestion = 2
fold_level sufComma = 1
fold_level _ = 0

-- an operator directly behind its operand
abbrev pub is_postfix : Suffix → Bool
is_postfix sufOpenRound = true
is_postfix sufOpenSquare = true
is_postfix (sufCrement c) = true
is_postfix _ = false

abbrev pub postfix : Suffix → ℕ → Part → Inner → Option Mode
postfix sufOpenRound at e k = Some (Maybe (inOpen (oArgument e at (tall no_parts 0) None) k))
postfix sufOpenSquare at e k = Some (Operand (inOpen (oIndex e at) k))
postfix (sufCrement c) at e k = Some (Value (part 15 (above e.height) (ePostfix e.value c at)) k)
postfix _ at e k = None

abbrev pub step_postfix : Suffix → ℕ → Part → Inner → Option Mode
step_postfix s at e k = if leb 15 e.level then postfix s at e k else None

abbrev pub step_held : Suffix → ℕ → Held → Option Mode
step_held s at h = step_folded s at h.value h.around

abbrev pub step_value : Suffix → ℕ → Part → Inner → Option Mode
step_value s at e k = if is_postfix s then step_postfix s at e k else step_held s at (fold k (fold_level s) e)

-- Where an expression may be left out.

abbrev pub nothing_round : ℕ → Inner → Option Mode
nothing_round at (inOpen (oArgument f a es None) k) = Some (called f a es at k)
nothing_round at (inBase (baseStep m x a st p y o)) = Some (Begin (outWrap (wFor m (for_head x a st p y None at)) o))
nothing_round at _ = None

abbrev pub nothing_square : ℕ → Inner → Option Mode
nothing_square at (inBase (baseLength d a)) = Some (Behind (with_form d (tall (fArray a None at) 0)))
nothing_square at _ = None

abbrev pub nothing_curly : ℕ → Inner → Option Mode
nothing_curly at (inBase (basePart d x a es (Some c))) = Some (listed d x a es (Some c) at)
nothing_curly at _ = None

abbrev pub nothing_semicolon : ℕ → Inner → Option Mode
nothing_semicolon at (inBase (baseReturn x o)) = Some (Whole (sReturn x None at) o)
nothing_semicolon at (inBase (baseStart m x a o)) = Some (Maybe (inBase (baseMore m x a (forExpr None at) o)))
nothing_semicolon at (inBase (baseMore m x a st o)) = Some (Maybe (inBase (baseStep m x a st None at o)))
nothing_semicolon at _ = None

abbrev pub step_maybe : List (List ℕ) → Symbol → ℕ → Inner → Option Mode
step_maybe names (sy.Close br.Round) at k = nothing_round at k
step_maybe names (sy.Close br.Square) at k = nothing_square at k
step_maybe names (sy.Close br.Curly) at k = nothing_curly at k
step_maybe names sy.Semicolon at k = nothing_semicolon at k
step_maybe names s at k = step_operand names (prefix_of s) at k
