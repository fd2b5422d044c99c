-- A token leaves room, where the limit is not passed: behind an operand, and where one is to come.
use Rattle.std.proofs.Common.{◌≡◌, ℕ, suc, ◌+◌, ◌≤◌, max, List, [], Option, None, Some, Bool, true, false, ◌&&◌, not, if◌then◌else◌, leb, refl, arith, subst, sym}
use Rattle.c_tree.specs.declared.symbol.Bracket.{Bracket}
use Rattle.c_tree.specs.declared.symbol.Bracket.TheVariants as br
use Rattle.c_tree.specs.declared.symbol.Symbol.{Symbol}
use Rattle.c_tree.specs.declared.symbol.Symbol.TheVariants as sy
use Rattle.c_tree.specs.declared.tree.PrefixOp.TheVariants as pre
use Rattle.c_tree.specs.Shape as sh
use Rattle.c_tree.specs.Tree.{iValue, iList, Ex, eName, Declaration, Initial, Parts}
use Rattle.parse_machine.specs.Tokens.{Prefix, preName, preNumber, preLetter, preOpen, preSizeof, preOperator, preOther, prefix_of, Suffix, sufBinary, sufAssign, sufQuestion, sufComma, sufColon, sufSemicolon, sufClose, sufOpenRound, sufOpenSquare, sufCrement, sufOther}
use Rattle.parse_machine.specs.Contexts.{Tall, Part, Bind, bBinary, bPrefix, bCast, bAssign, bElse, bComma, Opened, oParen, oIndex, oArgument, oThen, Outer, Place, placeFile, placeBlock, placeFor, Declaring, Declared, Base, baseStatement, baseTest, baseDo, baseReturn, baseCase, baseStart, baseMore, baseStep, baseLength, baseInitial, basePart, Inner, inBase, inBind, inOpen, inConstant, forkCast, Mode, Next, Either, Operand}
use Rattle.parse_machine.specs.Making as mk
use Rattle.parse_machine.specs.Making.{bind_level}
use Rattle.parse_machine.specs.Heights as ht
use Rattle.parse_machine.specs.Heights.{least, high, low}
use Rattle.parse_machine.specs.Expressions as ex
use Rattle.low_beginning_laws.proofs.Room.{RoomDeclaring, RoomBase, RoomInner, Room}
use Rattle.low_beginning_laws.proofs.Above.{above_some, part_high}

abbrev pub RoomMode : Option Mode → Type 0
RoomMode None = Unit {0}
RoomMode (Some m) = low m ≤ 200 → Room m

pub when_room : (c : Bool) (m : Mode) → (low m ≤ 200 → Room m) → RoomMode (ex.when c m)
when_room true m g = g
when_room false m g = tt

pub if_room : (c : Bool) (o : Option Mode) → RoomMode o → RoomMode (if c then o else None)
if_room true o g = g
if_room false o g = tt

pub either_room : (c : Bool) (m n : Mode) → Room m → Room n → Room (if c then m else n)
either_room true m n g h = g
either_room false m n g h = h

-- Where an operand is to come.

pub operand_room : (names : List (List ℕ)) (p : Prefix) (at : ℕ) (k : Inner) → RoomInner k → RoomMode (ex.step_operand names p at k)
operand_room names (preName n) at k g = when_room (not (sh.has names n)) _ (λ l. (omega arith, g))
operand_room names (preNumber v f) at k g = λ l. (omega arith, g)
operand_room names (preLetter v) at k g = λ l. (omega arith, g)
operand_room names preOpen at k g = λ l. either_room (leb (least k) 13) (Either (forkCast at k) []) (Operand (inOpen (oParen at) k)) g g
operand_room names preSizeof at k g = λ l. g
operand_room names (preOperator o) at k g = λ l. g
operand_room names preOther at k g = tt

pub sizeof_room : (names : List (List ℕ)) (p : Prefix) (at x : ℕ) (k : Inner) → RoomInner k → RoomMode (ex.step_sizeof names p at x k)
sizeof_room names preOpen at x k g = λ l. g
sizeof_room names (preName n) at x k g = operand_room names (preName n) at (inBind (bPrefix pre.Sizeof x) k) g
sizeof_room names (preNumber v f) at x k g = λ l. (omega arith, g)
sizeof_room names (preLetter v) at x k g = λ l. (omega arith, g)
sizeof_room names preSizeof at x k g = λ l. g
sizeof_room names (preOperator o) at x k g = λ l. g
sizeof_room names preOther at x k g = tt

-- Declared names.

-- one declared name more, which a comma or `;` may follow
pub initial_room : (d : Declared) (i : Initial) (h : ℕ) → RoomDeclaring d.around → suc (ht.place_depth d.around.place) + (mk.with_initial d i h).before.height ≤ 200 → RoomDeclaring (mk.with_initial d i h)
initial_room d i h g l = (g.0, l)

pub next_room : (d : Declared) (i : Initial) (h at : ℕ) → RoomDeclaring d.around → low (Next (mk.with_initial d i h) at) ≤ 200 → RoomDeclaring (mk.with_initial d i h)
next_room d i h at g l = initial_room d i h g (omega (arith, l))

ended_at_room : (p : Place) (d : Declaration) (h : ℕ) → Room (ex.ended_at p d h)
ended_at_room placeFile d h = tt
ended_at_room (placeBlock o) d h = tt
ended_at_room (placeFor m x a o) d h = (tt, tt)

pub ended_room : (d : Declaring) (at : ℕ) → Room (ex.ended d at)
ended_room d at = ended_at_room d.place (mk.whole_declaration d at) (mk.declaration_height d)

-- Behind an operand.

sequence_room : (at : ℕ) (e : Part) (k : Inner) → RoomInner k → RoomMode (ex.sequence at e k)
sequence_room at e k g = when_room (leb (least k) 0 && leb 1 e.level) _ (λ l. g)

comma_base_room : (at : ℕ) (e : Part) (x : Base) → RoomBase x → ht.base_high x e.height ≤ 200 → RoomMode (ex.comma_base at e x)
comma_base_room at e (baseInitial d y) g h = when_room (leb 1 e.level) _ (next_room d (iValue y e.value) e.height at g)
comma_base_room at e (basePart d y a es c) g h = when_room (leb 1 e.level) _ (λ l. ((g.0, part_high d es.height e.height g.1 h), tt))
comma_base_room at e (baseStatement o) g h = sequence_room at e (inBase (baseStatement o)) g
comma_base_room at e (baseTest t y a o) g h = sequence_room at e (inBase (baseTest t y a o)) g
comma_base_room at e (baseDo y s z a o) g h = sequence_room at e (inBase (baseDo y s z a o)) g
comma_base_room at e (baseReturn y o) g h = sequence_room at e (inBase (baseReturn y o)) g
comma_base_room at e (baseCase y o) g h = sequence_room at e (inBase (baseCase y o)) g
comma_base_room at e (baseStart m y a o) g h = sequence_room at e (inBase (baseStart m y a o)) g
comma_base_room at e (baseMore m y a s o) g h = sequence_room at e (inBase (baseMore m y a s o)) g
comma_base_room at e (baseStep m y a s z w o) g h = sequence_room at e (inBase (baseStep m y a s z w o)) g
comma_base_room at e (baseLength d a) g h = sequence_room at e (inBase (baseLength d a)) g

comma_open_room : (at : ℕ) (e : Part) (o : Opened) (k : Inner) → RoomInner k → RoomMode (ex.comma_open at e o k)
comma_open_room at e (oArgument f a es c) k g = when_room (leb 1 e.level) _ (λ l. g)
comma_open_room at e (oParen a) k g = sequence_room at e (inOpen (oParen a) k) g
comma_open_room at e (oIndex f x) k g = sequence_room at e (inOpen (oIndex f x) k) g
comma_open_room at e (oThen c x) k g = sequence_room at e (inOpen (oThen c x) k) g

comma_bind_room : (at : ℕ) (e : Part) (x : Bind) (k : Inner) → RoomInner k → RoomMode (ex.comma_bind at e x k)
comma_bind_room at e (bComma es c) k g = when_room (leb 1 e.level) _ (λ l. g)
comma_bind_room at e _ k g = tt

comma_room : (at : ℕ) (e : Part) (k : Inner) → RoomInner k → high k e.height ≤ 200 → RoomMode (ex.comma at e k)
comma_room at e (inBase x) g h = comma_base_room at e x g h
comma_room at e (inBind x k) g h = comma_bind_room at e x k g
comma_room at e (inOpen o k) g h = comma_open_room at e o k g
comma_room at e (inConstant w s z es c n x a) g h = when_room (leb 2 e.level) _ (λ l. g)

label_room : (at : ℕ) (e : Ex) (o : Outer) → RoomMode (ex.label at e o)
label_room at (eName n x) o = λ l. tt
label_room at _ o = tt

colon_base_room : (at : ℕ) (e : Part) (x : Base) → RoomMode (ex.colon_base at e x)
colon_base_room at e (baseCase x o) = when_room (leb 2 e.level) _ (λ l. tt)
colon_base_room at e (baseStatement o) = label_room at e.value o
colon_base_room at e _ = tt

colon_open_room : (at : ℕ) (e : Part) (o : Opened) (k : Inner) → RoomInner k → RoomMode (ex.colon_open at e o k)
colon_open_room at e (oThen c x) k g = λ l. g
colon_open_room at e _ k g = tt

colon_room : (at : ℕ) (e : Part) (k : Inner) → RoomInner k → RoomMode (ex.colon at e k)
colon_room at e (inBase x) g = colon_base_room at e x
colon_room at e (inOpen o k) g = colon_open_room at e o k g
colon_room at e _ g = tt

round_open_room : (at : ℕ) (e : Part) (o : Opened) (k : Inner) → RoomInner k → RoomMode (ex.close_round_open at e o k)
round_open_room at e (oParen a) k g = λ l. (above_some e.height, g)
round_open_room at e (oArgument f a es c) k g = when_room (leb 1 e.level) _ (λ l. (above_some (max f.height (max es.height e.height)), g))
round_open_room at e _ k g = tt

round_base_room : (at : ℕ) (e : Part) (x : Base) → RoomMode (ex.close_round_base at e x)
round_base_room at e (baseTest t x a o) = λ l. tt
round_base_room at e (baseDo x s y a o) = λ l. tt
round_base_room at e (baseStep m x a st p y o) = λ l. tt
round_base_room at e _ = tt

round_room : (at : ℕ) (e : Part) (k : Inner) → RoomInner k → RoomMode (ex.close_round at e k)
round_room at e (inOpen o k) g = round_open_room at e o k g
round_room at e (inBase x) g = round_base_room at e x
round_room at e _ g = tt

square_open_room : (at : ℕ) (e : Part) (o : Opened) (k : Inner) → RoomInner k → RoomMode (ex.close_square_open at e o k)
square_open_room at e (oIndex f x) k g = λ l. (above_some (max f.height e.height), g)
square_open_room at e _ k g = tt

square_base_room : (at : ℕ) (e : Part) (x : Base) → RoomBase x → RoomMode (ex.close_square_base at e x)
square_base_room at e (baseLength d a) g = when_room (leb 2 e.level) _ (λ l. g)
square_base_room at e _ g = tt

square_room : (at : ℕ) (e : Part) (k : Inner) → RoomInner k → RoomMode (ex.close_square at e k)
square_room at e (inOpen o k) g = square_open_room at e o k g
square_room at e (inBase x) g = square_base_room at e x g
square_room at e _ g = tt

list_room : (d : Declared) (x a : ℕ) (es : Tall Parts) (c : Option ℕ) (at : ℕ) → RoomDeclaring d.around → low (ex.listed d x a es c at) ≤ 200 → RoomDeclaring (mk.with_initial d (iList x a es.value c at) (mk.above es.height))
list_room d x a es c at g l = initial_room d (iList x a es.value c at) (mk.above es.height) g l

curly_base_room : (at : ℕ) (e : Part) (x : Base) → RoomBase x → RoomMode (ex.close_curly_base at e x)
curly_base_room at e (basePart d x a es c) g = when_room (leb 1 e.level) _ (list_room d x a (mk.one_more es c e) None at g.0)
curly_base_room at e _ g = tt

curly_room : (at : ℕ) (e : Part) (k : Inner) → RoomInner k → RoomMode (ex.close_curly at e k)
curly_room at e (inConstant w s h es c n x a) g = when_room (leb 2 e.level) _ (λ l. g)
curly_room at e (inBase x) g = curly_base_room at e x g
curly_room at e _ g = tt

close_room : (c : Bracket) (at : ℕ) (e : Part) (k : Inner) → RoomInner k → RoomMode (ex.close c at e k)
close_room br.Round at e k g = round_room at e k g
close_room br.Square at e k g = square_room at e k g
close_room br.Curly at e k g = curly_room at e k g

semicolon_base_room : (at : ℕ) (e : Part) (x : Base) → RoomMode (ex.semicolon_base at e x)
semicolon_base_room at e (baseStatement o) = λ l. tt
semicolon_base_room at e (baseReturn x o) = λ l. tt
semicolon_base_room at e (baseStart m x a o) = λ l. (tt, tt)
semicolon_base_room at e (baseMore m x a st o) = λ l. (tt, tt)
semicolon_base_room at e (baseInitial d x) = when_room (leb 1 e.level) _ (λ l. ended_room (mk.with_initial d (iValue x e.value) e.height) at)
semicolon_base_room at e _ = tt

semicolon_room : (at : ℕ) (e : Part) (k : Inner) → RoomMode (ex.semicolon at e k)
semicolon_room at e (inBase x) = semicolon_base_room at e x
semicolon_room at e _ = tt

folded_room : (s : Suffix) (at : ℕ) (e : Part) (k : Inner) → RoomInner k → high k e.height ≤ 200 → RoomMode (ex.step_folded s at e k)
folded_room (sufBinary o) at e k g h = when_room _ _ (λ l. g)
folded_room (sufAssign o) at e k g h = when_room _ _ (λ l. g)
folded_room sufQuestion at e k g h = when_room _ _ (λ l. g)
folded_room sufComma at e k g h = comma_room at e k g h
folded_room sufColon at e k g h = colon_room at e k g
folded_room sufSemicolon at e k g h = semicolon_room at e k
folded_room (sufClose c) at e k g h = close_room c at e k g
folded_room sufOpenRound at e k g h = tt
folded_room sufOpenSquare at e k g h = tt
folded_room (sufCrement c) at e k g h = tt
folded_room sufOther at e k g h = tt

-- What is made whole has the height that its place counted.

pub bound_high : (x : Bind) (e : Part) → (mk.bound x e).height ≡ ht.bind_high x e.height
bound_high (bBinary a o at) e = refl
bound_high (bPrefix o at) e = refl
bound_high (bCast a ws c) e = refl
bound_high (bAssign a o at) e = refl
bound_high (bElse c x a y) e = refl
bound_high (bComma es at) e = refl

abbrev RoomHeld : ex.Held → Type 0
RoomHeld x = RoomInner x.around × (high x.around x.value.height ≤ 200)

held_room : (c : Bool) (x y : ex.Held) → RoomHeld x → RoomHeld y → RoomHeld (if c then x else y)
held_room true x y g h = g
held_room false x y g h = h

fold_room : (k : Inner) (n : ℕ) (e : Part) → RoomInner k → high k e.height ≤ 200 → RoomHeld (ex.fold k n e)
fold_room (inBind x k) n e g h =
    held_room (leb n (bind_level x)) (ex.fold k n (mk.bound x e)) (ex.held e (inBind x k)) (fold_room k n (mk.bound x e) g (subst (λ z. high k z ≤ 200) (sym (bound_high x e)) h)) (g, h)
fold_room (inBase x) n e g h = (g, h)
fold_room (inOpen o k) n e g h = (g, h)
fold_room (inConstant w s z es c x y a) n e g h = (g, h)

postfix_room : (s : Suffix) (at : ℕ) (e : Part) (k : Inner) → RoomInner k → RoomMode (ex.postfix s at e k)
postfix_room sufOpenRound at e k g = λ l. (g, tt)
postfix_room sufOpenSquare at e k g = λ l. g
postfix_room (sufCrement c) at e k g = λ l. (above_some e.height, g)
postfix_room _ at e k g = tt

value_pick : (c : Bool) (x y : Option Mode) → RoomMode x → RoomMode y → RoomMode (if c then x else y)
value_pick true x y g h = g
value_pick false x y g h = h

pub value_room : (s : Suffix) (at : ℕ) (e : Part) (k : Inner) → RoomInner k → high k e.height ≤ 200 → RoomMode (ex.step_value s at e k)
value_room s at e k g h =
    value_pick (ex.is_postfix s) _ _ (if_room (leb 15 e.level) _ (postfix_room s at e k g))
    (let z = ex.fold k (ex.fold_level s) e in let r = fold_room k (ex.fold_level s) e g h in folded_room s at z.value z.around r.0 r.1)

-- Where an expression may be left out.

nothing_round_room : (at : ℕ) (k : Inner) → RoomInner k → RoomMode (ex.nothing_round at k)
nothing_round_room at (inOpen (oArgument f a es None) k) g = λ l. (above_some (max f.height es.height), g)
nothing_round_room at (inBase (baseStep m x a st p y o)) g = λ l. tt
nothing_round_room at _ g = tt

nothing_square_room : (at : ℕ) (k : Inner) → RoomInner k → RoomMode (ex.nothing_square at k)
nothing_square_room at (inBase (baseLength d a)) g = λ l. g
nothing_square_room at _ g = tt

nothing_curly_room : (at : ℕ) (k : Inner) → RoomInner k → RoomMode (ex.nothing_curly at k)
nothing_curly_room at (inBase (basePart d x a es (Some c))) g = list_room d x a es (Some c) at g.0
nothing_curly_room at _ g = tt

nothing_semicolon_room : (at : ℕ) (k : Inner) → RoomMode (ex.nothing_semicolon at k)
nothing_semicolon_room at (inBase (baseReturn x o)) = λ l. tt
nothing_semicolon_room at (inBase (baseStart m x a o)) = λ l. (tt, tt)
nothing_semicolon_room at (inBase (baseMore m x a st o)) = λ l. (tt, tt)
nothing_semicolon_room at _ = tt

pub maybe_room : (names : List (List ℕ)) (t : Symbol) (at : ℕ) (k : Inner) → RoomInner k → RoomMode (ex.step_maybe names t at k)
maybe_room names (sy.Close br.Round) at k g = nothing_round_room at k g
maybe_room names (sy.Close br.Square) at k g = nothing_square_room at k g
maybe_room names (sy.Close br.Curly) at k g = nothing_curly_room at k g
maybe_room names sy.Semicolon at k g = nothing_semicolon_room at k
maybe_room names t at k g = operand_room names (prefix_of t) at k g
