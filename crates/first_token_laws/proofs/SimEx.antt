-- Modes that differ in their trees alone do the same at an operand and behind one, where one machine drops what is too high
-- and the other keeps it.
use Rattle.std.proofs.Common.{◌≡◌, ℕ, suc, List, [], Option, None, Some, Bool, true, false, ◌&&◌, not, if◌then◌else◌, leb, max, refl, subst, sym, ap, ◌∙◌, pos}
use Rattle.c_tree.specs.declared.symbol.Bracket.{Bracket}
use Rattle.c_tree.specs.declared.symbol.Bracket.TheVariants as br
use Rattle.c_tree.specs.declared.symbol.Symbol.{Symbol}
use Rattle.c_tree.specs.declared.symbol.Symbol.TheVariants as sy
use Rattle.c_tree.specs.Spelling.{level, operand_level}
use Rattle.c_tree.specs.declared.tree.PrefixOp.TheVariants as pre
use Rattle.c_tree.specs.Shape as sh
use Rattle.c_tree.specs.Tree.{Head, head, iValue, parts_and, Ex, eName, eNumber, eLetter, eParen, eCall, eIndex, ePostfix, ePrefix, eSizeof, eCast, eBinary, eCond, eAssign, eComma, Declaration}
use Rattle.parse_machine.specs.Tokens.{Prefix, preName, preNumber, preLetter, preOpen, preSizeof, preOperator, preOther, prefix_of, Suffix, sufBinary, sufAssign, sufQuestion, sufComma, sufColon, sufSemicolon, sufClose, sufOpenRound, sufOpenSquare, sufCrement, sufOther}
use Rattle.parse_machine.specs.Contexts.{Part, Bind, bBinary, bPrefix, bCast, bAssign, bElse, bComma, Opened, oParen, oIndex, oArgument, oThen, Outer, Place, placeFile, placeBlock, placeFor, Declaring, Base, baseStatement, baseTest, baseDo, baseReturn, baseCase, baseStart, baseMore, baseStep, baseLength, baseInitial, basePart, Inner, inBase, inBind, inOpen, inConstant, forkCast, Mode, Either, Operand, testIf, testWhile, testSwitch, Test}
use Rattle.parse_machine.specs.Making as mk
use Rattle.parse_machine.specs.Making.{bind_level}
use Rattle.parse_machine.specs.Heights as ht
use Rattle.parse_machine.specs.Heights.{least}
use Rattle.parse_machine.specs.Expressions as ex
use Rattle.first_token_laws.proofs.Full as full
use Rattle.first_token_laws.proofs.Sim.{name_of, SimPart, SimBind, SimOpened, SimWrap, SimOuter, SimPlace, SimDeclaring, SimBase, SimInner, SimMode, SimModes}

pub when_sim : (c d : Bool) (m n : Mode) → c ≡ d → SimMode m n → SimModes (ex.when c m) (ex.when d n)
when_sim true true m n e s = s
when_sim true false m n e s = cc
when_sim false true m n e s = cc
when_sim false false m n e s = tt

pub if_sim : (c d : Bool) (o q : Option Mode) → c ≡ d → SimModes o q → SimModes (if c then o else None) (if d then q else None)
if_sim true true o q e s = s
if_sim true false o q e s = cc
if_sim false true o q e s = cc
if_sim false false o q e s = tt

-- Levels.

bind_least : (x y : Bind) → SimBind x y → ht.least_bind x ≡ ht.least_bind y
bind_least (bBinary a o at) (bBinary c q x) s = ap (λ z. suc (level z)) s
bind_least (bPrefix o at) (bPrefix q x) s = ap operand_level s
bind_least (bCast a ws c) (bCast x vs y) s = refl
bind_least (bAssign a o at) (bAssign c q x) s = refl
bind_least (bElse c x a y) (bElse d z v w) s = refl
bind_least (bComma es at) (bComma fs x) s = refl
bind_least _ _ s = absurd s

bind_levels : (x y : Bind) → SimBind x y → bind_level x ≡ bind_level y
bind_levels (bBinary a o at) (bBinary c q x) s = ap level s
bind_levels (bPrefix o at) (bPrefix q x) s = refl
bind_levels (bCast a ws c) (bCast x vs y) s = refl
bind_levels (bAssign a o at) (bAssign c q x) s = refl
bind_levels (bElse c x a y) (bElse d z v w) s = refl
bind_levels (bComma es at) (bComma fs x) s = refl
bind_levels _ _ s = absurd s

open_least : (x y : Opened) → SimOpened x y → ht.least_open x ≡ ht.least_open y
open_least (oParen a) (oParen c) s = refl
open_least (oIndex f x) (oIndex g y) s = refl
open_least (oArgument f a es c) (oArgument g x fs y) s = refl
open_least (oThen c x) (oThen d y) s = refl
open_least _ _ s = absurd s

base_least : (x y : Base) → SimBase x y → ht.least_base x ≡ ht.least_base y
base_least (baseStatement o) (baseStatement p) s = refl
base_least (baseTest t at a o) (baseTest u x c p) s = refl
base_least (baseDo at v x a o) (baseDo y w z c p) s = refl
base_least (baseReturn at o) (baseReturn x p) s = refl
base_least (baseCase at o) (baseCase x p) s = refl
base_least (baseStart m at a o) (baseStart n x c p) s = refl
base_least (baseMore m at a v o) (baseMore n x c w p) s = refl
base_least (baseStep m at a v i x o) (baseStep n y c w j z p) s = refl
base_least (baseLength d a) (baseLength g c) s = refl
base_least (baseInitial d at) (baseInitial g x) s = refl
base_least (basePart d at a es c) (basePart g x y fs z) s = refl
base_least _ _ s = absurd s

least_sim : (k l : Inner) → SimInner k l → least k ≡ least l
least_sim (inBase x) (inBase y) s = base_least x y s
least_sim (inBind x k) (inBind y l) s = bind_least x y s.0
least_sim (inOpen x k) (inOpen y l) s = open_least x y s.0
least_sim (inConstant w v h es c n at a) (inConstant z u g fs d m x y) s = refl
least_sim _ _ s = absurd s

both_same : (a c d f : Bool) → a ≡ c → d ≡ f → (a && d) ≡ (c && f)
both_same a c d f g h = ap (λ z. z && d) g ∙ ap (λ z. c && z) h

levels_same : (i j m n : ℕ) (k l : Inner) (e f : Part) → SimInner k l → SimPart e f → (leb (least k) i && leb j e.level) ≡ (leb (least l) i && leb j f.level)
levels_same i j m n k l e f s t = both_same _ _ _ _ (ap (λ z. leb z i) (least_sim k l s)) (ap (leb j) t.0)

-- Where an operand is to come.

open_sim : (at : ℕ) (k l : Inner) (c d : Bool) → c ≡ d → SimInner k l → SimMode (if c then Either (forkCast at k) [] else Operand (inOpen (oParen at) k)) (if d then Either (forkCast at l) [] else Operand (inOpen (oParen at) l))
open_sim at k l true true e s = (s, refl)
open_sim at k l true false e s = cc
open_sim at k l false true e s = cc
open_sim at k l false false e s = (tt, s)

pub operand_sim : (names : List (List ℕ)) (p : Prefix) (at : ℕ) (k l : Inner) → SimInner k l → SimModes (ex.step_operand names p at k) (full.step_operand names p at l)
operand_sim names (preName n) at k l s = when_sim (not (sh.has names n)) (not (sh.has names n)) (ex.operand (eName n at) k) (full.operand (eName n at) l) refl ((refl, refl), s)
operand_sim names (preNumber v f) at k l s = ((refl, refl), s)
operand_sim names (preLetter v) at k l s = ((refl, refl), s)
operand_sim names preOpen at k l s = open_sim at k l (leb (least k) 13) (leb (least l) 13) (ap (λ z. leb z 13) (least_sim k l s)) s
operand_sim names preSizeof at k l s = s
operand_sim names (preOperator o) at k l s = (refl, s)
operand_sim names preOther at k l s = tt

pub sizeof_sim : (names : List (List ℕ)) (p : Prefix) (at x y : ℕ) (k l : Inner) → SimInner k l → SimModes (ex.step_sizeof names p at x k) (full.step_sizeof names p at y l)
sizeof_sim names preOpen at x y k l s = (s, refl)
sizeof_sim names (preName n) at x y k l s = operand_sim names (preName n) at (inBind (bPrefix pre.Sizeof x) k) (inBind (bPrefix pre.Sizeof y) l) (refl, s)
sizeof_sim names (preNumber v f) at x y k l s = ((refl, refl), (refl, s))
sizeof_sim names (preLetter v) at x y k l s = ((refl, refl), (refl, s))
sizeof_sim names preSizeof at x y k l s = (refl, s)
sizeof_sim names (preOperator o) at x y k l s = (refl, (refl, s))
sizeof_sim names preOther at x y k l s = tt

-- Behind an operand, where all that binds tighter is whole.

sequence_sim : (at : ℕ) (e f : Part) (k l : Inner) → SimPart e f → SimInner k l → SimModes (ex.sequence at e k) (ex.sequence at f l)
sequence_sim at e f k l t s = when_sim _ _ _ _ (levels_same 0 1 0 0 k l e f s t) (tt, s)

comma_base_sim : (at : ℕ) (e f : Part) (x y : Base) → SimPart e f → SimBase x y → SimModes (ex.comma_base at e x) (ex.comma_base at f y)
comma_base_sim at e f (baseStatement o) (baseStatement p) t s = sequence_sim at e f (inBase (baseStatement o)) (inBase (baseStatement p)) t s
comma_base_sim at e f (baseTest i at0 a o) (baseTest j x c p) t s = sequence_sim at e f (inBase (baseTest i at0 a o)) (inBase (baseTest j x c p)) t s
comma_base_sim at e f (baseDo at0 v x a o) (baseDo y w z c p) t s = sequence_sim at e f (inBase (baseDo at0 v x a o)) (inBase (baseDo y w z c p)) t s
comma_base_sim at e f (baseReturn at0 o) (baseReturn x p) t s = sequence_sim at e f (inBase (baseReturn at0 o)) (inBase (baseReturn x p)) t s
comma_base_sim at e f (baseCase at0 o) (baseCase x p) t s = sequence_sim at e f (inBase (baseCase at0 o)) (inBase (baseCase x p)) t s
comma_base_sim at e f (baseStart m at0 a o) (baseStart n x c p) t s = sequence_sim at e f (inBase (baseStart m at0 a o)) (inBase (baseStart n x c p)) t s
comma_base_sim at e f (baseMore m at0 a v o) (baseMore n x c w p) t s = sequence_sim at e f (inBase (baseMore m at0 a v o)) (inBase (baseMore n x c w p)) t s
comma_base_sim at e f (baseStep m at0 a v i x o) (baseStep n y c w j z p) t s = sequence_sim at e f (inBase (baseStep m at0 a v i x o)) (inBase (baseStep n y c w j z p)) t s
comma_base_sim at e f (baseLength d a) (baseLength g c) t s = sequence_sim at e f (inBase (baseLength d a)) (inBase (baseLength g c)) t s
comma_base_sim at e f (baseInitial d at0) (baseInitial g x) t s = when_sim _ _ _ _ (ap (leb 1) t.0) (s.0.0, s.0.1, refl)
comma_base_sim at e f (basePart d at0 a es c) (basePart g x y fs z) t s = when_sim _ _ _ _ (ap (leb 1) t.0) (s.0, refl)
comma_base_sim at e f _ _ t s = absurd s

comma_open_sim : (at : ℕ) (e f : Part) (x y : Opened) (k l : Inner) → SimPart e f → SimOpened x y → SimInner k l → SimModes (ex.comma_open at e x k) (ex.comma_open at f y l)
comma_open_sim at e f (oArgument v a es c) (oArgument g x fs y) k l t r s = when_sim _ _ _ _ (ap (leb 1) t.0) (refl, s)
comma_open_sim at e f (oParen a) (oParen c) k l t r s = sequence_sim at e f (inOpen (oParen a) k) (inOpen (oParen c) l) t (tt, s)
comma_open_sim at e f (oIndex v x) (oIndex g y) k l t r s = sequence_sim at e f (inOpen (oIndex v x) k) (inOpen (oIndex g y) l) t (tt, s)
comma_open_sim at e f (oThen c x) (oThen d y) k l t r s = sequence_sim at e f (inOpen (oThen c x) k) (inOpen (oThen d y) l) t (tt, s)
comma_open_sim at e f _ _ k l t r s = absurd r

comma_bind_sim : (at : ℕ) (e f : Part) (x y : Bind) (k l : Inner) → SimPart e f → SimBind x y → SimInner k l → SimModes (ex.comma_bind at e x k) (ex.comma_bind at f y l)
comma_bind_sim at e f (bComma es c) (bComma fs x) k l t r s = when_sim _ _ _ _ (ap (leb 1) t.0) (tt, s)
comma_bind_sim at e f (bBinary a o x) (bBinary c q y) k l t r s = tt
comma_bind_sim at e f (bPrefix o x) (bPrefix q y) k l t r s = tt
comma_bind_sim at e f (bCast a ws c) (bCast x vs y) k l t r s = tt
comma_bind_sim at e f (bAssign a o x) (bAssign c q y) k l t r s = tt
comma_bind_sim at e f (bElse c x a y) (bElse d z v w) k l t r s = tt
comma_bind_sim at e f _ _ k l t r s = absurd r

comma_sim : (at : ℕ) (e f : Part) (k l : Inner) → SimPart e f → SimInner k l → SimModes (ex.comma at e k) (ex.comma at f l)
comma_sim at e f (inBase x) (inBase y) t s = comma_base_sim at e f x y t s
comma_sim at e f (inBind x k) (inBind y l) t s = comma_bind_sim at e f x y k l t s.0 s.1
comma_sim at e f (inOpen x k) (inOpen y l) t s = comma_open_sim at e f x y k l t s.0 s.1
comma_sim at e f (inConstant w v h es c n x a) (inConstant z u g fs d m y q) t s = when_sim _ _ _ _ (ap (leb 2) t.0) (s.0, s.1, refl)
comma_sim at e f _ _ t s = absurd s

label_sim : (at : ℕ) (e f : Ex) (o p : Outer) → name_of e ≡ name_of f → SimOuter o p → SimModes (ex.label at e o) (ex.label at f p)
label_sim at (eName n x) (eName m y) o p e s = s
label_sim at (eName n w) (eNumber v f x) o p e s = let k : Some n ≡ None = e in cc
label_sim at (eNumber v f x) (eName n w) o p e s = let k : None ≡ Some n = e in cc
label_sim at (eName n w) (eLetter v x) o p e s = let k : Some n ≡ None = e in cc
label_sim at (eLetter v x) (eName n w) o p e s = let k : None ≡ Some n = e in cc
label_sim at (eName n w) (eParen a z c) o p e s = let k : Some n ≡ None = e in cc
label_sim at (eParen a z c) (eName n w) o p e s = let k : None ≡ Some n = e in cc
label_sim at (eName n w) (eCall f a es c) o p e s = let k : Some n ≡ None = e in cc
label_sim at (eCall f a es c) (eName n w) o p e s = let k : None ≡ Some n = e in cc
label_sim at (eName n w) (eIndex f x i y) o p e s = let k : Some n ≡ None = e in cc
label_sim at (eIndex f x i y) (eName n w) o p e s = let k : None ≡ Some n = e in cc
label_sim at (eName n w) (ePostfix z c x) o p e s = let k : Some n ≡ None = e in cc
label_sim at (ePostfix z c x) (eName n w) o p e s = let k : None ≡ Some n = e in cc
label_sim at (eName n w) (ePrefix q x z) o p e s = let k : Some n ≡ None = e in cc
label_sim at (ePrefix q x z) (eName n w) o p e s = let k : None ≡ Some n = e in cc
label_sim at (eName n w) (eSizeof x a ws c) o p e s = let k : Some n ≡ None = e in cc
label_sim at (eSizeof x a ws c) (eName n w) o p e s = let k : None ≡ Some n = e in cc
label_sim at (eName n w) (eCast a ws c z) o p e s = let k : Some n ≡ None = e in cc
label_sim at (eCast a ws c z) (eName n w) o p e s = let k : None ≡ Some n = e in cc
label_sim at (eName n w) (eBinary a q x c) o p e s = let k : Some n ≡ None = e in cc
label_sim at (eBinary a q x c) (eName n w) o p e s = let k : None ≡ Some n = e in cc
label_sim at (eName n w) (eCond c x a y d) o p e s = let k : Some n ≡ None = e in cc
label_sim at (eCond c x a y d) (eName n w) o p e s = let k : None ≡ Some n = e in cc
label_sim at (eName n w) (eAssign a q x c) o p e s = let k : Some n ≡ None = e in cc
label_sim at (eAssign a q x c) (eName n w) o p e s = let k : None ≡ Some n = e in cc
label_sim at (eName n w) (eComma es) o p e s = let k : Some n ≡ None = e in cc
label_sim at (eComma es) (eName n w) o p e s = let k : None ≡ Some n = e in cc
label_sim at _ _ o p e s = tt

colon_base_sim : (at : ℕ) (e f : Part) (x y : Base) → SimPart e f → SimBase x y → SimModes (ex.colon_base at e x) (ex.colon_base at f y)
colon_base_sim at e f (baseStatement o) (baseStatement p) t s = label_sim at e.value f.value o p t.1 s
colon_base_sim at e f (baseTest i at0 a o) (baseTest j x c p) t s = tt
colon_base_sim at e f (baseDo at0 v x a o) (baseDo y w z c p) t s = tt
colon_base_sim at e f (baseReturn at0 o) (baseReturn x p) t s = tt
colon_base_sim at e f (baseCase at0 o) (baseCase x p) t s = when_sim _ _ _ _ (ap (leb 2) t.0) (tt, s)
colon_base_sim at e f (baseStart m at0 a o) (baseStart n x c p) t s = tt
colon_base_sim at e f (baseMore m at0 a v o) (baseMore n x c w p) t s = tt
colon_base_sim at e f (baseStep m at0 a v i x o) (baseStep n y c w j z p) t s = tt
colon_base_sim at e f (baseLength d a) (baseLength g c) t s = tt
colon_base_sim at e f (baseInitial d at0) (baseInitial g x) t s = tt
colon_base_sim at e f (basePart d at0 a es c) (basePart g x y fs z) t s = tt
colon_base_sim at e f _ _ t s = absurd s

colon_open_sim : (at : ℕ) (e f : Part) (x y : Opened) (k l : Inner) → SimOpened x y → SimInner k l → SimModes (ex.colon_open at e x k) (ex.colon_open at f y l)
colon_open_sim at e f (oThen c x) (oThen d y) k l r s = (tt, s)
colon_open_sim at e f (oParen a) (oParen c) k l r s = tt
colon_open_sim at e f (oIndex v x) (oIndex g y) k l r s = tt
colon_open_sim at e f (oArgument v a es c) (oArgument g x fs y) k l r s = tt
colon_open_sim at e f _ _ k l r s = absurd r

colon_sim : (at : ℕ) (e f : Part) (k l : Inner) → SimPart e f → SimInner k l → SimModes (ex.colon at e k) (ex.colon at f l)
colon_sim at e f (inBase x) (inBase y) t s = colon_base_sim at e f x y t s
colon_sim at e f (inBind x k) (inBind y l) t s = tt
colon_sim at e f (inOpen x k) (inOpen y l) t s = colon_open_sim at e f x y k l s.0 s.1
colon_sim at e f (inConstant w v h es c n x a) (inConstant z u g fs d m y q) t s = tt
colon_sim at e f _ _ t s = absurd s

-- a part that one machine drops where it is too high
pick_name : (c : Bool) (e : Ex) → name_of e ≡ None → name_of (if c then e else eLetter (pos 0) 0) ≡ None
pick_name true e h = h
pick_name false e h = refl

pub part_sim : (n h g : ℕ) (e f : Ex) → name_of e ≡ None → name_of f ≡ None → SimPart (mk.part n h e) (full.part n g f)
part_sim n h g e f p q = (refl, pick_name (leb h 200) e p ∙ sym q)

round_open_sim : (at : ℕ) (e f : Part) (x y : Opened) (k l : Inner) → SimPart e f → SimOpened x y → SimInner k l → SimModes (ex.close_round_open at e x k) (full.close_round_open at f y l)
round_open_sim at e f (oParen a) (oParen c) k l t r s = (part_sim 15 _ (mk.above f.height) (eParen a e.value at) (eParen c f.value at) refl refl, s)
round_open_sim at e f (oArgument v a es c) (oArgument g x fs y) k l t r s = when_sim _ _ (ex.called v a (mk.one_more es c e) at k) (full.called g x (mk.one_more fs y f) at l) (ap (leb 1) t.0) (part_sim 15 _ (mk.above (max g.height (mk.one_more fs y f).height)) (eCall v.value a (mk.one_more es c e).value at) (eCall g.value x (mk.one_more fs y f).value at) refl refl, s)
round_open_sim at e f (oIndex v x) (oIndex g y) k l t r s = tt
round_open_sim at e f (oThen c x) (oThen d y) k l t r s = tt
round_open_sim at e f _ _ k l t r s = absurd r

tested_like : (t : Test) (h g : Head) → SimWrap (mk.tested t h) (mk.tested t g)
tested_like testIf h g = tt
tested_like testWhile h g = tt
tested_like testSwitch h g = tt

tested_sim : (t u : Test) (h g : Head) → t ≡ u → SimWrap (mk.tested t h) (mk.tested u g)
tested_sim t u h g e = subst (λ z. SimWrap (mk.tested t h) (mk.tested z g)) e (tested_like t h g)

round_base_sim : (at : ℕ) (e f : Part) (x y : Base) → SimBase x y → SimModes (ex.close_round_base at e x) (ex.close_round_base at f y)
round_base_sim at e f (baseStatement o) (baseStatement p) s = tt
round_base_sim at e f (baseTest i at0 a o) (baseTest j x c p) s = (tested_sim i j (head at0 a e.value at) (head x c f.value at) s.0, s.1)
round_base_sim at e f (baseDo at0 v x a o) (baseDo y w z c p) s = s
round_base_sim at e f (baseReturn at0 o) (baseReturn x p) s = tt
round_base_sim at e f (baseCase at0 o) (baseCase x p) s = tt
round_base_sim at e f (baseStart m at0 a o) (baseStart n x c p) s = tt
round_base_sim at e f (baseMore m at0 a v o) (baseMore n x c w p) s = tt
round_base_sim at e f (baseStep m at0 a v i x o) (baseStep n y c w j z p) s = (s.0, s.1)
round_base_sim at e f (baseLength d a) (baseLength g c) s = tt
round_base_sim at e f (baseInitial d at0) (baseInitial g x) s = tt
round_base_sim at e f (basePart d at0 a es c) (basePart g x y fs z) s = tt
round_base_sim at e f _ _ s = absurd s

round_sim : (at : ℕ) (e f : Part) (k l : Inner) → SimPart e f → SimInner k l → SimModes (ex.close_round at e k) (full.close_round at f l)
round_sim at e f (inBase x) (inBase y) t s = round_base_sim at e f x y s
round_sim at e f (inBind x k) (inBind y l) t s = tt
round_sim at e f (inOpen x k) (inOpen y l) t s = round_open_sim at e f x y k l t s.0 s.1
round_sim at e f (inConstant w v h es c n x a) (inConstant z u g fs d m y q) t s = tt
round_sim at e f _ _ t s = absurd s

square_open_sim : (at : ℕ) (e f : Part) (x y : Opened) (k l : Inner) → SimOpened x y → SimInner k l → SimModes (ex.close_square_open at e x k) (full.close_square_open at f y l)
square_open_sim at e f (oIndex v x) (oIndex g y) k l r s = (part_sim 15 _ (mk.above (max g.height f.height)) (eIndex v.value x e.value at) (eIndex g.value y f.value at) refl refl, s)
square_open_sim at e f (oParen a) (oParen c) k l r s = tt
square_open_sim at e f (oArgument v a es c) (oArgument g x fs y) k l r s = tt
square_open_sim at e f (oThen c x) (oThen d y) k l r s = tt
square_open_sim at e f _ _ k l r s = absurd r

square_base_sim : (at : ℕ) (e f : Part) (x y : Base) → SimPart e f → SimBase x y → SimModes (ex.close_square_base at e x) (ex.close_square_base at f y)
square_base_sim at e f (baseStatement o) (baseStatement p) t s = tt
square_base_sim at e f (baseTest i at0 a o) (baseTest j x c p) t s = tt
square_base_sim at e f (baseDo at0 v x a o) (baseDo y w z c p) t s = tt
square_base_sim at e f (baseReturn at0 o) (baseReturn x p) t s = tt
square_base_sim at e f (baseCase at0 o) (baseCase x p) t s = tt
square_base_sim at e f (baseStart m at0 a o) (baseStart n x c p) t s = tt
square_base_sim at e f (baseMore m at0 a v o) (baseMore n x c w p) t s = tt
square_base_sim at e f (baseStep m at0 a v i x o) (baseStep n y c w j z p) t s = tt
square_base_sim at e f (baseLength d a) (baseLength g c) t s = when_sim _ _ _ _ (ap (leb 2) t.0) (s.0, s.1, tt, s.3)
square_base_sim at e f (baseInitial d at0) (baseInitial g x) t s = tt
square_base_sim at e f (basePart d at0 a es c) (basePart g x y fs z) t s = tt
square_base_sim at e f _ _ t s = absurd s

square_sim : (at : ℕ) (e f : Part) (k l : Inner) → SimPart e f → SimInner k l → SimModes (ex.close_square at e k) (full.close_square at f l)
square_sim at e f (inBase x) (inBase y) t s = square_base_sim at e f x y t s
square_sim at e f (inBind x k) (inBind y l) t s = tt
square_sim at e f (inOpen x k) (inOpen y l) t s = square_open_sim at e f x y k l s.0 s.1
square_sim at e f (inConstant w v h es c n x a) (inConstant z u g fs d m y q) t s = tt
square_sim at e f _ _ t s = absurd s

curly_base_sim : (at : ℕ) (e f : Part) (x y : Base) → SimPart e f → SimBase x y → SimModes (ex.close_curly_base at e x) (ex.close_curly_base at f y)
curly_base_sim at e f (baseStatement o) (baseStatement p) t s = tt
curly_base_sim at e f (baseTest i at0 a o) (baseTest j x c p) t s = tt
curly_base_sim at e f (baseDo at0 v x a o) (baseDo y w z c p) t s = tt
curly_base_sim at e f (baseReturn at0 o) (baseReturn x p) t s = tt
curly_base_sim at e f (baseCase at0 o) (baseCase x p) t s = tt
curly_base_sim at e f (baseStart m at0 a o) (baseStart n x c p) t s = tt
curly_base_sim at e f (baseMore m at0 a v o) (baseMore n x c w p) t s = tt
curly_base_sim at e f (baseStep m at0 a v i x o) (baseStep n y c w j z p) t s = tt
curly_base_sim at e f (baseLength d a) (baseLength g c) t s = tt
curly_base_sim at e f (baseInitial d at0) (baseInitial g x) t s = tt
curly_base_sim at e f (basePart d at0 a es c) (basePart g x y fs z) t s = when_sim _ _ _ _ (ap (leb 1) t.0) (s.0.0.0, s.0.0.1, refl)
curly_base_sim at e f _ _ t s = absurd s

curly_sim : (at : ℕ) (e f : Part) (k l : Inner) → SimPart e f → SimInner k l → SimModes (ex.close_curly at e k) (ex.close_curly at f l)
curly_sim at e f (inBase x) (inBase y) t s = curly_base_sim at e f x y t s
curly_sim at e f (inBind x k) (inBind y l) t s = tt
curly_sim at e f (inOpen x k) (inOpen y l) t s = tt
curly_sim at e f (inConstant w v h es c n x a) (inConstant z u g fs d m y q) t s = when_sim _ _ _ _ (ap (leb 2) t.0) (s.1, s.0)
curly_sim at e f _ _ t s = absurd s

close_sim : (b : Bracket) (at : ℕ) (e f : Part) (k l : Inner) → SimPart e f → SimInner k l → SimModes (ex.close b at e k) (full.close b at f l)
close_sim br.Round at e f k l t s = round_sim at e f k l t s
close_sim br.Square at e f k l t s = square_sim at e f k l t s
close_sim br.Curly at e f k l t s = curly_sim at e f k l t s

ended_at_sim : (p q : Place) (d e : Declaration) (h g : ℕ) → SimPlace p q → SimMode (ex.ended_at p d h) (ex.ended_at q e g)
ended_at_sim placeFile placeFile d e h g s = tt
ended_at_sim (placeBlock o) (placeBlock p) d e h g s = s
ended_at_sim (placeFor m x a o) (placeFor n y c p) d e h g s = s
ended_at_sim _ _ d e h g s = absurd s

pub ended_sim : (d e : Declaring) (at : ℕ) → SimDeclaring d e → SimMode (ex.ended d at) (ex.ended e at)
ended_sim d e at s = ended_at_sim d.place e.place (mk.whole_declaration d at) (mk.whole_declaration e at) (mk.declaration_height d) (mk.declaration_height e) s.0

semicolon_base_sim : (at : ℕ) (e f : Part) (x y : Base) → SimPart e f → SimBase x y → SimModes (ex.semicolon_base at e x) (ex.semicolon_base at f y)
semicolon_base_sim at e f (baseStatement o) (baseStatement p) t s = s
semicolon_base_sim at e f (baseTest i at0 a o) (baseTest j x c p) t s = tt
semicolon_base_sim at e f (baseDo at0 v x a o) (baseDo y w z c p) t s = tt
semicolon_base_sim at e f (baseReturn at0 o) (baseReturn x p) t s = s
semicolon_base_sim at e f (baseCase at0 o) (baseCase x p) t s = tt
semicolon_base_sim at e f (baseStart m at0 a o) (baseStart n x c p) t s = s
semicolon_base_sim at e f (baseMore m at0 a v o) (baseMore n x c w p) t s = s
semicolon_base_sim at e f (baseStep m at0 a v i x o) (baseStep n y c w j z p) t s = tt
semicolon_base_sim at e f (baseLength d a) (baseLength g c) t s = tt
semicolon_base_sim at e f (baseInitial d at0) (baseInitial g x) t s = when_sim _ _ _ _ (ap (leb 1) t.0) (ended_sim (mk.with_initial d (iValue at0 e.value) e.height) (mk.with_initial g (iValue x f.value) f.height) at (s.0.0, s.0.1, refl))
semicolon_base_sim at e f (basePart d at0 a es c) (basePart g x y fs z) t s = tt
semicolon_base_sim at e f _ _ t s = absurd s

semicolon_sim : (at : ℕ) (e f : Part) (k l : Inner) → SimPart e f → SimInner k l → SimModes (ex.semicolon at e k) (ex.semicolon at f l)
semicolon_sim at e f (inBase x) (inBase y) t s = semicolon_base_sim at e f x y t s
semicolon_sim at e f (inBind x k) (inBind y l) t s = tt
semicolon_sim at e f (inOpen x k) (inOpen y l) t s = tt
semicolon_sim at e f (inConstant w v h es c n x a) (inConstant z u g fs d m y q) t s = tt
semicolon_sim at e f _ _ t s = absurd s

folded_sim : (x : Suffix) (at : ℕ) (e f : Part) (k l : Inner) → SimPart e f → SimInner k l → SimModes (ex.step_folded x at e k) (full.step_folded x at f l)
folded_sim (sufBinary o) at e f k l t s = when_sim _ _ _ _ (both_same _ _ _ _ (ap (λ z. leb z (level o)) (least_sim k l s)) (ap (leb (level o)) t.0)) (refl, s)
folded_sim (sufAssign o) at e f k l t s = when_sim _ _ _ _ (levels_same 1 14 0 0 k l e f s t) (tt, s)
folded_sim sufQuestion at e f k l t s = when_sim _ _ _ _ (levels_same 2 3 0 0 k l e f s t) (tt, s)
folded_sim sufComma at e f k l t s = comma_sim at e f k l t s
folded_sim sufColon at e f k l t s = colon_sim at e f k l t s
folded_sim sufSemicolon at e f k l t s = semicolon_sim at e f k l t s
folded_sim (sufClose b) at e f k l t s = close_sim b at e f k l t s
folded_sim sufOpenRound at e f k l t s = tt
folded_sim sufOpenSquare at e f k l t s = tt
folded_sim (sufCrement c) at e f k l t s = tt
folded_sim sufOther at e f k l t s = tt

-- What is made whole.

bound_sim : (x y : Bind) (e f : Part) → SimBind x y → SimPart (mk.bound x e) (full.bound y f)
bound_sim (bBinary a o at) (bBinary c q x) e f s = (ap level s, pick_name (leb (mk.above (max a.height e.height)) 200) (eBinary a.value o at e.value) refl)
bound_sim (bPrefix o at) (bPrefix q x) e f s = part_sim 14 _ (mk.above f.height) (ePrefix o at e.value) (ePrefix q x f.value) refl refl
bound_sim (bCast a ws c) (bCast x vs y) e f s = part_sim 13 _ (mk.above (max (mk.above vs.height) f.height)) (eCast a ws.value c e.value) (eCast x vs.value y f.value) refl refl
bound_sim (bAssign a o at) (bAssign c q x) e f s = part_sim 1 _ (mk.above (max c.height f.height)) (eAssign a.value o at e.value) (eAssign c.value q x f.value) refl refl
bound_sim (bElse c x a y) (bElse d z v w) e f s = part_sim 2 _ (mk.above (max (max d.height v.height) f.height)) (eCond c.value x a.value y e.value) (eCond d.value z v.value w f.value) refl refl
bound_sim (bComma es at) (bComma fs x) e f s = part_sim 0 _ (mk.above (max fs.height f.height)) (eComma (parts_and es.value (Some at) e.value)) (eComma (parts_and fs.value (Some x) f.value)) refl refl
bound_sim _ _ e f s = absurd s

abbrev SimHeld : ex.Held → ex.Held → Type 0
SimHeld h g = SimPart h.value g.value × SimInner h.around g.around

pick_held : (c d : Bool) (h g x y : ex.Held) → c ≡ d → SimHeld h x → SimHeld g y → SimHeld (if c then h else g) (if d then x else y)
pick_held true true h g x y e s t = s
pick_held true false h g x y e s t = cc
pick_held false true h g x y e s t = cc
pick_held false false h g x y e s t = t

fold_sim : (k l : Inner) (n : ℕ) (e f : Part) → SimPart e f → SimInner k l → SimHeld (ex.fold k n e) (full.fold l n f)
fold_sim (inBind x k) (inBind y l) n e f t s =
    pick_held (leb n (bind_level x)) (leb n (bind_level y)) (ex.fold k n (mk.bound x e)) (ex.held e (inBind x k)) (full.fold l n (full.bound y f)) (ex.held f (inBind y l)) (ap (leb n) (bind_levels x y s.0)) (fold_sim k l n (mk.bound x e) (full.bound y f) (bound_sim x y e f s.0) s.1) (t, s)
fold_sim (inBase x) (inBase y) n e f t s = (t, s)
fold_sim (inOpen x k) (inOpen y l) n e f t s = (t, s)
fold_sim (inConstant w v h es c m x a) (inConstant z u g fs d i y q) n e f t s = (t, s)
fold_sim _ _ n e f t s = absurd s

postfix_sim : (x : Suffix) (at : ℕ) (e f : Part) (k l : Inner) → SimInner k l → SimModes (ex.postfix x at e k) (full.postfix x at f l)
postfix_sim sufOpenRound at e f k l s = (refl, s)
postfix_sim sufOpenSquare at e f k l s = (tt, s)
postfix_sim (sufCrement c) at e f k l s = (part_sim 15 _ (mk.above f.height) (ePostfix e.value c at) (ePostfix f.value c at) refl refl, s)
postfix_sim (sufBinary o) at e f k l s = tt
postfix_sim (sufAssign o) at e f k l s = tt
postfix_sim sufQuestion at e f k l s = tt
postfix_sim sufComma at e f k l s = tt
postfix_sim sufColon at e f k l s = tt
postfix_sim sufSemicolon at e f k l s = tt
postfix_sim (sufClose b) at e f k l s = tt
postfix_sim sufOther at e f k l s = tt

value_pick : (c : Bool) (o q x y : Option Mode) → SimModes o x → SimModes q y → SimModes (if c then o else q) (if c then x else y)
value_pick true o q x y s t = s
value_pick false o q x y s t = t

held_sim : (x : Suffix) (at : ℕ) (h g : ex.Held) → SimHeld h g → SimModes (ex.step_held x at h) (full.step_held x at g)
held_sim x at h g s = folded_sim x at h.value g.value h.around g.around s.0 s.1

pub value_sim : (x : Suffix) (at : ℕ) (e f : Part) (k l : Inner) → SimPart e f → SimInner k l → SimModes (ex.step_value x at e k) (full.step_value x at f l)
value_sim x at e f k l t s =
    value_pick (ex.is_postfix x) _ _ _ _ (if_sim (leb 15 e.level) (leb 15 f.level) _ _ (ap (leb 15) t.0) (postfix_sim x at e f k l s))
    (held_sim x at (ex.fold k (ex.fold_level x) e) (full.fold l (ex.fold_level x) f) (fold_sim k l (ex.fold_level x) e f t s))

-- Where an expression may be left out.

nothing_open_sim : (at : ℕ) (x y : Opened) (k l : Inner) → SimOpened x y → SimInner k l → SimModes (ex.nothing_round at (inOpen x k)) (full.nothing_round at (inOpen y l))
nothing_open_sim at (oArgument v a es None) (oArgument g x fs None) k l r s = (part_sim 15 _ (mk.above (max g.height fs.height)) (eCall v.value a es.value at) (eCall g.value x fs.value at) refl refl, s)
nothing_open_sim at (oArgument v a es (Some c)) (oArgument g x fs (Some d)) k l r s = tt
nothing_open_sim at (oArgument v a es None) (oArgument g x fs (Some d)) k l r s = cc
nothing_open_sim at (oArgument v a es (Some c)) (oArgument g x fs None) k l r s = cc
nothing_open_sim at (oParen a) (oParen c) k l r s = tt
nothing_open_sim at (oIndex v x) (oIndex g y) k l r s = tt
nothing_open_sim at (oThen c x) (oThen d y) k l r s = tt
nothing_open_sim at _ _ k l r s = absurd r

nothing_round_base_sim : (at : ℕ) (x y : Base) → SimBase x y → SimModes (ex.nothing_round at (inBase x)) (full.nothing_round at (inBase y))
nothing_round_base_sim at (baseStatement o) (baseStatement p) s = tt
nothing_round_base_sim at (baseTest i at0 a o) (baseTest j x c p) s = tt
nothing_round_base_sim at (baseDo at0 v x a o) (baseDo y w z c p) s = tt
nothing_round_base_sim at (baseReturn at0 o) (baseReturn x p) s = tt
nothing_round_base_sim at (baseCase at0 o) (baseCase x p) s = tt
nothing_round_base_sim at (baseStart m at0 a o) (baseStart n x c p) s = tt
nothing_round_base_sim at (baseMore m at0 a v o) (baseMore n x c w p) s = tt
nothing_round_base_sim at (baseStep m at0 a v i x o) (baseStep n y c w j z p) s = (s.0, s.1)
nothing_round_base_sim at (baseLength d a) (baseLength g c) s = tt
nothing_round_base_sim at (baseInitial d at0) (baseInitial g x) s = tt
nothing_round_base_sim at (basePart d at0 a es c) (basePart g x y fs z) s = tt
nothing_round_base_sim at _ _ s = absurd s

nothing_round_sim : (at : ℕ) (k l : Inner) → SimInner k l → SimModes (ex.nothing_round at k) (full.nothing_round at l)
nothing_round_sim at (inBase x) (inBase y) s = nothing_round_base_sim at x y s
nothing_round_sim at (inBind x k) (inBind y l) s = tt
nothing_round_sim at (inOpen x k) (inOpen y l) s = nothing_open_sim at x y k l s.0 s.1
nothing_round_sim at (inConstant w v h es c n x a) (inConstant z u g fs d m y q) s = tt
nothing_round_sim at _ _ s = absurd s

nothing_square_base_sim : (at : ℕ) (x y : Base) → SimBase x y → SimModes (ex.nothing_square at (inBase x)) (ex.nothing_square at (inBase y))
nothing_square_base_sim at (baseStatement o) (baseStatement p) s = tt
nothing_square_base_sim at (baseTest i at0 a o) (baseTest j x c p) s = tt
nothing_square_base_sim at (baseDo at0 v x a o) (baseDo y w z c p) s = tt
nothing_square_base_sim at (baseReturn at0 o) (baseReturn x p) s = tt
nothing_square_base_sim at (baseCase at0 o) (baseCase x p) s = tt
nothing_square_base_sim at (baseStart m at0 a o) (baseStart n x c p) s = tt
nothing_square_base_sim at (baseMore m at0 a v o) (baseMore n x c w p) s = tt
nothing_square_base_sim at (baseStep m at0 a v i x o) (baseStep n y c w j z p) s = tt
nothing_square_base_sim at (baseLength d a) (baseLength g c) s = (s.0, s.1, tt, s.3)
nothing_square_base_sim at (baseInitial d at0) (baseInitial g x) s = tt
nothing_square_base_sim at (basePart d at0 a es c) (basePart g x y fs z) s = tt
nothing_square_base_sim at _ _ s = absurd s

nothing_square_sim : (at : ℕ) (k l : Inner) → SimInner k l → SimModes (ex.nothing_square at k) (ex.nothing_square at l)
nothing_square_sim at (inBase x) (inBase y) s = nothing_square_base_sim at x y s
nothing_square_sim at (inBind x k) (inBind y l) s = tt
nothing_square_sim at (inOpen x k) (inOpen y l) s = tt
nothing_square_sim at (inConstant w v h es c n x a) (inConstant z u g fs d m y q) s = tt
nothing_square_sim at _ _ s = absurd s

nothing_curly_base_sim : (at : ℕ) (x y : Base) → SimBase x y → SimModes (ex.nothing_curly at (inBase x)) (ex.nothing_curly at (inBase y))
nothing_curly_base_sim at (basePart d y a es (Some c)) (basePart e x z fs (Some w)) s = (s.0.0.0, s.0.0.1, refl)
nothing_curly_base_sim at (basePart d y a es None) (basePart e x z fs None) s = tt
nothing_curly_base_sim at (basePart d y a es (Some c)) (basePart e x z fs None) s = let q : true ≡ false = s.1 in cc
nothing_curly_base_sim at (basePart d y a es None) (basePart e x z fs (Some w)) s = let q : false ≡ true = s.1 in cc
nothing_curly_base_sim at (baseStatement o) (baseStatement p) s = tt
nothing_curly_base_sim at (baseTest i at0 a o) (baseTest j x c p) s = tt
nothing_curly_base_sim at (baseDo at0 v x a o) (baseDo y w z c p) s = tt
nothing_curly_base_sim at (baseReturn at0 o) (baseReturn x p) s = tt
nothing_curly_base_sim at (baseCase at0 o) (baseCase x p) s = tt
nothing_curly_base_sim at (baseStart m at0 a o) (baseStart n x c p) s = tt
nothing_curly_base_sim at (baseMore m at0 a v o) (baseMore n x c w p) s = tt
nothing_curly_base_sim at (baseStep m at0 a v i x o) (baseStep n y c w j z p) s = tt
nothing_curly_base_sim at (baseLength d a) (baseLength g c) s = tt
nothing_curly_base_sim at (baseInitial d at0) (baseInitial g x) s = tt
nothing_curly_base_sim at _ _ s = absurd s

nothing_curly_sim : (at : ℕ) (k l : Inner) → SimInner k l → SimModes (ex.nothing_curly at k) (ex.nothing_curly at l)
nothing_curly_sim at (inBase x) (inBase y) s = nothing_curly_base_sim at x y s
nothing_curly_sim at (inBind x k) (inBind y l) s = tt
nothing_curly_sim at (inOpen x k) (inOpen y l) s = tt
nothing_curly_sim at (inConstant w v h es c n x a) (inConstant z u g fs d m y q) s = tt
nothing_curly_sim at _ _ s = absurd s

nothing_semicolon_base_sim : (at : ℕ) (x y : Base) → SimBase x y → SimModes (ex.nothing_semicolon at (inBase x)) (ex.nothing_semicolon at (inBase y))
nothing_semicolon_base_sim at (baseStatement o) (baseStatement p) s = tt
nothing_semicolon_base_sim at (baseTest i at0 a o) (baseTest j x c p) s = tt
nothing_semicolon_base_sim at (baseDo at0 v x a o) (baseDo y w z c p) s = tt
nothing_semicolon_base_sim at (baseReturn at0 o) (baseReturn x p) s = s
nothing_semicolon_base_sim at (baseCase at0 o) (baseCase x p) s = tt
nothing_semicolon_base_sim at (baseStart m at0 a o) (baseStart n x c p) s = s
nothing_semicolon_base_sim at (baseMore m at0 a v o) (baseMore n x c w p) s = s
nothing_semicolon_base_sim at (baseStep m at0 a v i x o) (baseStep n y c w j z p) s = tt
nothing_semicolon_base_sim at (baseLength d a) (baseLength g c) s = tt
nothing_semicolon_base_sim at (baseInitial d at0) (baseInitial g x) s = tt
nothing_semicolon_base_sim at (basePart d at0 a es c) (basePart g x y fs z) s = tt
nothing_semicolon_base_sim at _ _ s = absurd s

nothing_semicolon_sim : (at : ℕ) (k l : Inner) → SimInner k l → SimModes (ex.nothing_semicolon at k) (ex.nothing_semicolon at l)
nothing_semicolon_sim at (inBase x) (inBase y) s = nothing_semicolon_base_sim at x y s
nothing_semicolon_sim at (inBind x k) (inBind y l) s = tt
nothing_semicolon_sim at (inOpen x k) (inOpen y l) s = tt
nothing_semicolon_sim at (inConstant w v h es c n x a) (inConstant z u g fs d m y q) s = tt
nothing_semicolon_sim at _ _ s = absurd s

pub maybe_sim : (names : List (List ℕ)) (t : Symbol) (at : ℕ) (k l : Inner) → SimInner k l → SimModes (ex.step_maybe names t at k) (full.step_maybe names t at l)
maybe_sim names (sy.Close br.Round) at k l s = nothing_round_sim at k l s
maybe_sim names (sy.Close br.Square) at k l s = nothing_square_sim at k l s
maybe_sim names (sy.Close br.Curly) at k l s = nothing_curly_sim at k l s
maybe_sim names sy.Semicolon at k l s = nothing_semicolon_sim at k l s
maybe_sim names t at k l s = operand_sim names (prefix_of t) at k l s
