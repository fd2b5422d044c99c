-- A declared name of the type `void` without parameters gets no attribute: behind an operand, and where one is to come.
use Rattle.first_token_laws.proofs.Full as full
use Rattle.std.proofs.Common.{◌≡◌, ℕ, List, Option, None, Some, Bool, true, false, ◌&&◌, not, if◌then◌else◌, leb}
use Rattle.c_tree.specs.declared.symbol.Bracket.{Bracket}
use Rattle.c_tree.specs.declared.symbol.Bracket.TheVariants as br
use Rattle.c_tree.specs.declared.symbol.Symbol.{Symbol}
use Rattle.c_tree.specs.declared.symbol.Symbol.TheVariants as sy
use Rattle.c_tree.specs.Shape as sh
use Rattle.c_tree.specs.Tree.{iValue, Ex, eName, Form, fArray, Declaration}
use Rattle.parse_machine.specs.Tokens.{Prefix, preName, preNumber, preLetter, preOpen, preSizeof, preOperator, preOther, prefix_of, Suffix, sufBinary, sufAssign, sufQuestion, sufComma, sufColon, sufSemicolon, sufClose, sufOpenRound, sufOpenSquare, sufCrement, sufOther}
use Rattle.parse_machine.specs.Contexts.{Tall, Part, Bind, bComma, Opened, oParen, oIndex, oArgument, oThen, Outer, Place, placeFile, placeBlock, placeFor, Declaring, Declared, Base, baseStatement, baseTest, baseDo, baseReturn, baseCase, baseStart, baseMore, baseStep, baseLength, baseInitial, basePart, Inner, inBase, inBind, inOpen, inConstant, Mode}
use Rattle.parse_machine.specs.Making as mk
use Rattle.parse_machine.specs.Making.{bind_level}
use Rattle.parse_machine.specs.Heights.{least}
use Rattle.parse_machine.specs.Expressions as ex
use Rattle.parse_machine.specs.Declarations as decl
use Rattle.parse_laws.proofs.Fits.{FitInner, FitBase}
use Rattle.parse_laws.proofs.Good.{both_right}
use Rattle.first_token_laws.proofs.EndDecl.{IsSure}
use Rattle.first_token_laws.proofs.EndMode.{Sure}

abbrev pub SureMode : Option Mode → Type 0
SureMode None = Unit {0}
SureMode (Some m) = Sure m

pub when_sure : (c : Bool) (m : Mode) → Sure m → SureMode (ex.when c m)
when_sure true m g = g
when_sure false m g = tt

pub if_sure : (c : Bool) (o : Option Mode) → SureMode o → SureMode (if c then o else None)
if_sure true o g = g
if_sure false o g = tt

-- Where an operand is to come.

open_sure : (c : Bool) (m n : Mode) → Sure m → Sure n → Sure (if c then m else n)
open_sure true m n g h = g
open_sure false m n g h = h

pub operand_sure : (names : List (List ℕ)) (p : Prefix) (at : ℕ) (k : Inner) → SureMode (full.step_operand names p at k)
operand_sure names (preName n) at k = when_sure (not (sh.has names n)) _ tt
operand_sure names (preNumber v f) at k = tt
operand_sure names (preLetter v) at k = tt
operand_sure names preOpen at k = open_sure (leb (least k) 13) _ _ tt tt
operand_sure names preSizeof at k = tt
operand_sure names (preOperator o) at k = tt
operand_sure names preOther at k = tt

pub sizeof_sure : (names : List (List ℕ)) (p : Prefix) (at x : ℕ) (k : Inner) → SureMode (full.step_sizeof names p at x k)
sizeof_sure names preOpen at x k = tt
sizeof_sure names (preName n) at x k = operand_sure names (preName n) at _
sizeof_sure names (preNumber v f) at x k = tt
sizeof_sure names (preLetter v) at x k = tt
sizeof_sure names preSizeof at x k = tt
sizeof_sure names (preOperator o) at x k = tt
sizeof_sure names preOther at x k = tt

-- Behind an operand.

bare_sure : (d : Declared) (f : Tall Form) → decl.is_bare d ≡ true → IsSure (mk.with_form d f)
bare_sure d f h = λ n. both_right (decl.is_plain d.form.value) (decl.are_no_attributes d.attributes) h

sequence_sure : (at : ℕ) (e : Part) (k : Inner) → SureMode (ex.sequence at e k)
sequence_sure at e k = when_sure (leb (least k) 0 && leb 1 e.level) _ tt

comma_base_sure : (at : ℕ) (e : Part) (x : Base) → SureMode (ex.comma_base at e x)
comma_base_sure at e (baseInitial d y) = when_sure (leb 1 e.level) _ tt
comma_base_sure at e (basePart d y a es c) = when_sure (leb 1 e.level) _ tt
comma_base_sure at e (baseStatement o) = sequence_sure at e (inBase (baseStatement o))
comma_base_sure at e (baseTest t y a o) = sequence_sure at e (inBase (baseTest t y a o))
comma_base_sure at e (baseDo y s z a o) = sequence_sure at e (inBase (baseDo y s z a o))
comma_base_sure at e (baseReturn y o) = sequence_sure at e (inBase (baseReturn y o))
comma_base_sure at e (baseCase y o) = sequence_sure at e (inBase (baseCase y o))
comma_base_sure at e (baseStart m y a o) = sequence_sure at e (inBase (baseStart m y a o))
comma_base_sure at e (baseMore m y a s o) = sequence_sure at e (inBase (baseMore m y a s o))
comma_base_sure at e (baseStep m y a s z w o) = sequence_sure at e (inBase (baseStep m y a s z w o))
comma_base_sure at e (baseLength d a) = sequence_sure at e (inBase (baseLength d a))

comma_open_sure : (at : ℕ) (e : Part) (o : Opened) (k : Inner) → SureMode (ex.comma_open at e o k)
comma_open_sure at e (oArgument f a es c) k = when_sure (leb 1 e.level) _ tt
comma_open_sure at e (oParen a) k = sequence_sure at e (inOpen (oParen a) k)
comma_open_sure at e (oIndex f x) k = sequence_sure at e (inOpen (oIndex f x) k)
comma_open_sure at e (oThen c x) k = sequence_sure at e (inOpen (oThen c x) k)

comma_bind_sure : (at : ℕ) (e : Part) (x : Bind) (k : Inner) → SureMode (ex.comma_bind at e x k)
comma_bind_sure at e (bComma es c) k = when_sure (leb 1 e.level) _ tt
comma_bind_sure at e _ k = tt

comma_sure : (at : ℕ) (e : Part) (k : Inner) → SureMode (ex.comma at e k)
comma_sure at e (inBase x) = comma_base_sure at e x
comma_sure at e (inBind x k) = comma_bind_sure at e x k
comma_sure at e (inOpen o k) = comma_open_sure at e o k
comma_sure at e (inConstant w s h es c n x a) = when_sure (leb 2 e.level) _ tt

label_sure : (at : ℕ) (e : Ex) (o : Outer) → SureMode (ex.label at e o)
label_sure at (eName n x) o = tt
label_sure at _ o = tt

colon_base_sure : (at : ℕ) (e : Part) (x : Base) → SureMode (ex.colon_base at e x)
colon_base_sure at e (baseCase x o) = when_sure (leb 2 e.level) _ tt
colon_base_sure at e (baseStatement o) = label_sure at e.value o
colon_base_sure at e _ = tt

colon_open_sure : (at : ℕ) (e : Part) (o : Opened) (k : Inner) → SureMode (ex.colon_open at e o k)
colon_open_sure at e (oThen c x) k = tt
colon_open_sure at e _ k = tt

colon_sure : (at : ℕ) (e : Part) (k : Inner) → SureMode (ex.colon at e k)
colon_sure at e (inBase x) = colon_base_sure at e x
colon_sure at e (inOpen o k) = colon_open_sure at e o k
colon_sure at e _ = tt

round_open_sure : (at : ℕ) (e : Part) (o : Opened) (k : Inner) → SureMode (full.close_round_open at e o k)
round_open_sure at e (oParen a) k = tt
round_open_sure at e (oArgument f a es c) k = when_sure (leb 1 e.level) _ tt
round_open_sure at e _ k = tt

round_base_sure : (at : ℕ) (e : Part) (x : Base) → SureMode (ex.close_round_base at e x)
round_base_sure at e (baseTest t x a o) = tt
round_base_sure at e (baseDo x s y a o) = tt
round_base_sure at e (baseStep m x a st p y o) = tt
round_base_sure at e _ = tt

round_sure : (at : ℕ) (e : Part) (k : Inner) → SureMode (full.close_round at e k)
round_sure at e (inOpen o k) = round_open_sure at e o k
round_sure at e (inBase x) = round_base_sure at e x
round_sure at e _ = tt

square_open_sure : (at : ℕ) (e : Part) (o : Opened) (k : Inner) → SureMode (full.close_square_open at e o k)
square_open_sure at e (oIndex f x) k = tt
square_open_sure at e _ k = tt

square_base_sure : (file : List (List ℕ)) (at : ℕ) (e : Part) (x : Base) → FitBase file x → SureMode (ex.close_square_base at e x)
square_base_sure file at e (baseLength d a) f = when_sure (leb 2 e.level) _ (bare_sure d (mk.tall (fArray a (Some e.value) at) e.height) f.1)
square_base_sure file at e _ f = tt

square_sure : (file : List (List ℕ)) (at : ℕ) (e : Part) (k : Inner) → FitInner file k → SureMode (full.close_square at e k)
square_sure file at e (inOpen o k) f = square_open_sure at e o k
square_sure file at e (inBase x) f = square_base_sure file at e x f
square_sure file at e _ f = tt

curly_base_sure : (at : ℕ) (e : Part) (x : Base) → SureMode (ex.close_curly_base at e x)
curly_base_sure at e (basePart d x a es c) = when_sure (leb 1 e.level) _ tt
curly_base_sure at e _ = tt

curly_sure : (at : ℕ) (e : Part) (k : Inner) → SureMode (ex.close_curly at e k)
curly_sure at e (inConstant w s h es c n x a) = when_sure (leb 2 e.level) _ tt
curly_sure at e (inBase x) = curly_base_sure at e x
curly_sure at e _ = tt

close_sure : (file : List (List ℕ)) (c : Bracket) (at : ℕ) (e : Part) (k : Inner) → FitInner file k → SureMode (full.close c at e k)
close_sure file br.Round at e k f = round_sure at e k
close_sure file br.Square at e k f = square_sure file at e k f
close_sure file br.Curly at e k f = curly_sure at e k

ended_at_sure : (p : Place) (d : Declaration) (h : ℕ) → Sure (ex.ended_at p d h)
ended_at_sure placeFile d h = tt
ended_at_sure (placeBlock o) d h = tt
ended_at_sure (placeFor m x a o) d h = tt

pub ended_sure : (d : Declaring) (at : ℕ) → Sure (ex.ended d at)
ended_sure d at = ended_at_sure d.place (mk.whole_declaration d at) (mk.declaration_height d)

semicolon_base_sure : (at : ℕ) (e : Part) (x : Base) → SureMode (ex.semicolon_base at e x)
semicolon_base_sure at e (baseStatement o) = tt
semicolon_base_sure at e (baseReturn x o) = tt
semicolon_base_sure at e (baseStart m x a o) = tt
semicolon_base_sure at e (baseMore m x a st o) = tt
semicolon_base_sure at e (baseInitial d x) = when_sure (leb 1 e.level) _ (ended_sure (mk.with_initial d (iValue x e.value) e.height) at)
semicolon_base_sure at e _ = tt

semicolon_sure : (at : ℕ) (e : Part) (k : Inner) → SureMode (ex.semicolon at e k)
semicolon_sure at e (inBase x) = semicolon_base_sure at e x
semicolon_sure at e _ = tt

folded_sure : (file : List (List ℕ)) (s : Suffix) (at : ℕ) (e : Part) (k : Inner) → FitInner file k → SureMode (full.step_folded s at e k)
folded_sure file (sufBinary o) at e k f = when_sure _ _ tt
folded_sure file (sufAssign o) at e k f = when_sure _ _ tt
folded_sure file sufQuestion at e k f = when_sure _ _ tt
folded_sure file sufComma at e k f = comma_sure at e k
folded_sure file sufColon at e k f = colon_sure at e k
folded_sure file sufSemicolon at e k f = semicolon_sure at e k
folded_sure file (sufClose c) at e k f = close_sure file c at e k f
folded_sure file sufOpenRound at e k f = tt
folded_sure file sufOpenSquare at e k f = tt
folded_sure file (sufCrement c) at e k f = tt
folded_sure file sufOther at e k f = tt

-- what is open around what is made whole
pick_around : (file : List (List ℕ)) (c : Bool) (x y : ex.Held) → FitInner file x.around → FitInner file y.around → FitInner file (if c then x else y).around
pick_around file true x y f g = f
pick_around file false x y f g = g

fold_around : (file : List (List ℕ)) (k : Inner) (n : ℕ) (e : Part) → FitInner file k → FitInner file (full.fold k n e).around
fold_around file (inBind x k) n e f = pick_around file (leb n (bind_level x)) _ _ (fold_around file k n (full.bound x e) f.1) f
fold_around file (inBase x) n e f = f
fold_around file (inOpen o k) n e f = f
fold_around file (inConstant w s h es c n x a) m e f = f

postfix_sure : (s : Suffix) (at : ℕ) (e : Part) (k : Inner) → SureMode (full.postfix s at e k)
postfix_sure sufOpenRound at e k = tt
postfix_sure sufOpenSquare at e k = tt
postfix_sure (sufCrement c) at e k = tt
postfix_sure _ at e k = tt

value_pick : (c : Bool) (x y : Option Mode) → SureMode x → SureMode y → SureMode (if c then x else y)
value_pick true x y g h = g
value_pick false x y g h = h

pub value_sure : (file : List (List ℕ)) (s : Suffix) (at : ℕ) (e : Part) (k : Inner) → FitInner file k → SureMode (full.step_value s at e k)
value_sure file s at e k f =
    value_pick (ex.is_postfix s) _ _ (if_sure (leb 15 e.level) _ (postfix_sure s at e k))
    (let h = full.fold k (ex.fold_level s) e in folded_sure file s at h.value h.around (fold_around file k (ex.fold_level s) e f))

-- Where an expression may be left out.

nothing_round_sure : (at : ℕ) (k : Inner) → SureMode (full.nothing_round at k)
nothing_round_sure at (inOpen (oArgument f a es None) k) = tt
nothing_round_sure at (inBase (baseStep m x a st p y o)) = tt
nothing_round_sure at _ = tt

nothing_square_sure : (file : List (List ℕ)) (at : ℕ) (k : Inner) → FitInner file k → SureMode (ex.nothing_square at k)
nothing_square_sure file at (inBase (baseLength d a)) f = bare_sure d (mk.tall (fArray a None at) 0) f.1
nothing_square_sure file at _ f = tt

nothing_curly_sure : (at : ℕ) (k : Inner) → SureMode (ex.nothing_curly at k)
nothing_curly_sure at (inBase (basePart d x a es (Some c))) = tt
nothing_curly_sure at _ = tt

nothing_semicolon_sure : (at : ℕ) (k : Inner) → SureMode (ex.nothing_semicolon at k)
nothing_semicolon_sure at (inBase (baseReturn x o)) = tt
nothing_semicolon_sure at (inBase (baseStart m x a o)) = tt
nothing_semicolon_sure at (inBase (baseMore m x a st o)) = tt
nothing_semicolon_sure at _ = tt

pub maybe_sure : (file names : List (List ℕ)) (t : Symbol) (at : ℕ) (k : Inner) → FitInner file k → SureMode (full.step_maybe names t at k)
maybe_sure file names (sy.Close br.Round) at k f = nothing_round_sure at k
maybe_sure file names (sy.Close br.Square) at k f = nothing_square_sure file at k f
maybe_sure file names (sy.Close br.Curly) at k f = nothing_curly_sure at k
maybe_sure file names sy.Semicolon at k f = nothing_semicolon_sure at k
maybe_sure file names t at k f = operand_sure names (prefix_of t) at k
