-- Two modes that differ in the trees and heights which they hold alone.
use Rattle.std.proofs.Common.{◌≡◌, ℕ, List, Option, None, Some, Bool, true, false, refl}
use Rattle.c_tree.specs.Tree.{Ex, eName, Form, fPlain, fArray, fFunction}
use Rattle.c_tree.specs.Shape.{are_no_declarators}
use Rattle.parse_machine.specs.Contexts.{Part, Spoken, Bind, bBinary, bPrefix, bCast, bAssign, bElse, bComma, Opened, oParen, oIndex, oArgument, oThen, Wrap, wThen, wElse, wWhile, wSwitch, wFor, wCase, wDefault, wLabel, Outer, outBody, outBlock, outDo, outWrap, Place, placeFile, placeBlock, placeFor, Declaring, Declared, Base, baseStatement, baseTest, baseDo, baseReturn, baseCase, baseStart, baseMore, baseStep, baseLength, baseInitial, basePart, Inner, inBase, inBind, inOpen, inConstant, Around, aroundCast, aroundSizeof, aroundParameter, aroundPlace, Listing, Attributed, onWords, onDeclared, onLabel, Fork, forkCast, forkSizeof, forkBlock, forkFor, Waiting, waitTest, waitWhile, waitDo, waitDone, waitFor, waitDefault, waitGoto, waitBreak, waitContinue, waitVoid, waitList, waitAttribute, Mode, File, Ended, Specifiers, Enumeration, Tagged, Constant, Named, Attribute, Next, Behind, Listed, Parameters', Parameter, Skipped, Begin, Wait, Either, Goto, Operand, Maybe, Sizeof, Value, Label, Whole, Finished}
use Rattle.parse_machine.specs.Declarations.{Turn, are_no_attributes}

-- a name that is a whole expression
abbrev pub name_of : Ex → Option (List ℕ)
name_of (eName n at) = Some n
name_of _ = None

abbrev pub is_there : Option ℕ → Bool
is_there None = false
is_there (Some at) = true

abbrev pub SimPart : Part → Part → Type 0
SimPart a c = (a.level ≡ c.level) × (name_of a.value ≡ name_of c.value)

abbrev pub SimSpoken : Spoken → Spoken → Type 0
SimSpoken s v = s.told ≡ v.told

abbrev pub SimForm : Form → Form → Type 0
SimForm fPlain fPlain = Unit {0}
SimForm (fArray a None c) (fArray x None y) = Unit {0}
SimForm (fArray a (Some e) c) (fArray x (Some f) y) = Unit {0}
SimForm (fFunction ps) (fFunction qs) = Unit {0}
SimForm _ _ = ⊥

abbrev pub SimBind : Bind → Bind → Type 0
SimBind (bBinary a o at) (bBinary c q x) = o ≡ q
SimBind (bPrefix o at) (bPrefix q x) = o ≡ q
SimBind (bCast a ws c) (bCast x vs y) = Unit {0}
SimBind (bAssign a o at) (bAssign c q x) = Unit {0}
SimBind (bElse c x a y) (bElse d z v w) = Unit {0}
SimBind (bComma es at) (bComma fs x) = Unit {0}
SimBind _ _ = ⊥

abbrev pub SimOpened : Opened → Opened → Type 0
SimOpened (oParen a) (oParen c) = Unit {0}
SimOpened (oIndex f x) (oIndex g y) = Unit {0}
SimOpened (oArgument f a es c) (oArgument g x fs y) = is_there c ≡ is_there y
SimOpened (oThen c x) (oThen d y) = Unit {0}
SimOpened _ _ = ⊥

abbrev pub SimWrap : Wrap → Wrap → Type 0
SimWrap (wThen h) (wThen g) = Unit {0}
SimWrap (wElse h s at) (wElse g v x) = Unit {0}
SimWrap (wWhile h) (wWhile g) = Unit {0}
SimWrap (wSwitch h) (wSwitch g) = Unit {0}
SimWrap (wFor m h) (wFor n g) = m ≡ n
SimWrap (wCase at e c) (wCase x f y) = Unit {0}
SimWrap (wDefault at c) (wDefault x y) = Unit {0}
SimWrap (wLabel n at c ats) (wLabel m x y zs) = Unit {0}
SimWrap _ _ = ⊥

abbrev pub SimOuter : Outer → Outer → Type 0
SimOuter (outBody m h a ss) (outBody n g c ts) = m ≡ n
SimOuter (outBlock m a ss o) (outBlock n c ts p) = (m ≡ n) × SimOuter o p
SimOuter (outDo at o) (outDo x p) = SimOuter o p
SimOuter (outWrap w o) (outWrap v p) = SimWrap w v × SimOuter o p
SimOuter _ _ = ⊥

abbrev pub SimPlace : Place → Place → Type 0
SimPlace placeFile placeFile = Unit {0}
SimPlace (placeBlock o) (placeBlock p) = SimOuter o p
SimPlace (placeFor m at a o) (placeFor n x c p) = (m ≡ n) × SimOuter o p
SimPlace _ _ = ⊥

abbrev pub SimDeclaring : Declaring → Declaring → Type 0
SimDeclaring d e = SimPlace d.place e.place × SimSpoken d.spoken e.spoken × (are_no_declarators d.before.value ≡ are_no_declarators e.before.value)

abbrev pub SimDeclared : Declared → Declared → Type 0
SimDeclared d e = SimDeclaring d.around e.around × (d.name ≡ e.name) × SimForm d.form.value e.form.value × (are_no_attributes d.attributes ≡ are_no_attributes e.attributes)

abbrev pub SimBase : Base → Base → Type 0
SimBase (baseStatement o) (baseStatement p) = SimOuter o p
SimBase (baseTest t at a o) (baseTest u x c p) = (t ≡ u) × SimOuter o p
SimBase (baseDo at s x a o) (baseDo y v z c p) = SimOuter o p
SimBase (baseReturn at o) (baseReturn x p) = SimOuter o p
SimBase (baseCase at o) (baseCase x p) = SimOuter o p
SimBase (baseStart m at a o) (baseStart n x c p) = (m ≡ n) × SimOuter o p
SimBase (baseMore m at a s o) (baseMore n x c v p) = (m ≡ n) × SimOuter o p
SimBase (baseStep m at a s e x o) (baseStep n y c v f z p) = (m ≡ n) × SimOuter o p
SimBase (baseLength d a) (baseLength e c) = SimDeclared d e
SimBase (baseInitial d at) (baseInitial e x) = SimDeclared d e
SimBase (basePart d at a es c) (basePart e x y fs z) = SimDeclared d e × (is_there c ≡ is_there z)
SimBase _ _ = ⊥

abbrev mutual
  pub SimInner : Inner → Inner → Type 0
  SimInner (inBase x) (inBase y) = SimBase x y
  SimInner (inBind x k) (inBind y l) = SimBind x y × SimInner k l
  SimInner (inOpen x k) (inOpen y l) = SimOpened x y × SimInner k l
  SimInner (inConstant w s h es c n at a) (inConstant v t g fs d m x y) = SimAround w v × SimSpoken s t
  SimInner _ _ = ⊥

  pub SimAround : Around → Around → Type 0
  SimAround (aroundCast a k) (aroundCast c l) = SimInner k l
  SimAround (aroundSizeof at a k) (aroundSizeof x c l) = SimInner k l
  SimAround (aroundParameter d a ps c) (aroundParameter e x qs y) = SimDeclared d e
  SimAround (aroundPlace p) (aroundPlace q) = SimPlace p q
  SimAround _ _ = ⊥

abbrev pub SimListing : Listing → Listing → Type 0
SimListing l m = SimAround l.around m.around × SimSpoken l.spoken m.spoken × (is_there l.comma ≡ is_there m.comma)

abbrev pub SimAttributed : Attributed → Attributed → Type 0
SimAttributed (onWords s w) (onWords t v) = SimSpoken s t × SimAround w v
SimAttributed (onDeclared d) (onDeclared e) = SimDeclared d e
SimAttributed (onLabel n at c ats o) (onLabel m x y zs p) = SimOuter o p
SimAttributed _ _ = ⊥

abbrev pub SimFork : Fork → Fork → Type 0
SimFork (forkCast a k) (forkCast c l) = SimInner k l
SimFork (forkSizeof at a k) (forkSizeof x c l) = SimInner k l
SimFork (forkBlock o) (forkBlock p) = SimOuter o p
SimFork (forkFor m at a o) (forkFor n x c p) = (m ≡ n) × SimOuter o p
SimFork _ _ = ⊥

abbrev pub SimWaiting : Waiting → Waiting → Type 0
SimWaiting (waitTest t at o) (waitTest u x p) = (t ≡ u) × SimOuter o p
SimWaiting (waitWhile at s o) (waitWhile x v p) = SimOuter o p
SimWaiting (waitDo at s x o) (waitDo y v z p) = SimOuter o p
SimWaiting (waitDone at s h o) (waitDone x v g p) = SimOuter o p
SimWaiting (waitFor at o) (waitFor x p) = SimOuter o p
SimWaiting (waitDefault at o) (waitDefault x p) = SimOuter o p
SimWaiting (waitGoto at n x o) (waitGoto y m z p) = SimOuter o p
SimWaiting (waitBreak at o) (waitBreak x p) = SimOuter o p
SimWaiting (waitContinue at o) (waitContinue x p) = SimOuter o p
SimWaiting (waitVoid d a at) (waitVoid e c x) = SimDeclared d e
SimWaiting (waitList d at) (waitList e x) = SimDeclared d e
SimWaiting (waitAttribute w at x) (waitAttribute v y z) = SimAttributed x z
SimWaiting _ _ = ⊥

abbrev pub SimMode : Mode → Mode → Type 0
SimMode File File = Unit {0}
SimMode (Ended i h) (Ended j g) = Unit {0}
SimMode (Specifiers s w) (Specifiers t v) = SimSpoken s t × SimAround w v
SimMode (Enumeration at s w) (Enumeration x t v) = SimSpoken s t × SimAround w v
SimMode (Tagged at n x s w) (Tagged y m z t v) = SimSpoken s t × SimAround w v
SimMode (Constant l) (Constant m) = SimListing l m
SimMode (Named l n at) (Named m o x) = SimListing l m
SimMode (Attribute w at a r n x) (Attribute v y c q m z) = (n ≡ m) × SimAttributed x z
SimMode (Next d at) (Next e x) = SimDeclaring d e
SimMode (Behind d) (Behind e) = SimDeclared d e
SimMode (Listed d) (Listed e) = SimDeclaring d e
SimMode (Parameters' d a) (Parameters' e c) = SimDeclared d e
SimMode (Parameter d a ps c s n at) (Parameter e x qs y t m z) = SimDeclared d e
SimMode (Skipped h a r n) (Skipped g c q m) = n ≡ m
SimMode (Begin o) (Begin p) = SimOuter o p
SimMode (Wait x) (Wait y) = SimWaiting x y
SimMode (Either f ats) (Either g zs) = SimFork f g × (ats ≡ zs)
SimMode (Goto at o) (Goto x p) = SimOuter o p
SimMode (Operand k) (Operand l) = SimInner k l
SimMode (Maybe k) (Maybe l) = SimInner k l
SimMode (Sizeof at k) (Sizeof x l) = SimInner k l
SimMode (Value e k) (Value f l) = SimPart e f × SimInner k l
SimMode (Label n at c ats o) (Label m x y zs p) = SimOuter o p
SimMode (Whole s o) (Whole t p) = SimOuter o p
SimMode Finished Finished = Unit {0}
SimMode _ _ = ⊥

abbrev pub SimModes : Option Mode → Option Mode → Type 0
SimModes None None = Unit {0}
SimModes (Some m) (Some n) = SimMode m n
SimModes _ _ = ⊥

-- the names are the same
abbrev pub SimTurns : Option Turn → Option Turn → Type 0
SimTurns None None = Unit {0}
SimTurns (Some u) (Some v) = (u.names ≡ v.names) × SimMode u.mode v.mode
SimTurns _ _ = ⊥

-- Each is like itself.

form_like : (f : Form) → SimForm f f
form_like fPlain = tt
form_like (fArray a None c) = tt
form_like (fArray a (Some e) c) = tt
form_like (fFunction ps) = tt

bind_like : (x : Bind) → SimBind x x
bind_like (bBinary a o at) = refl
bind_like (bPrefix o at) = refl
bind_like (bCast a ws c) = tt
bind_like (bAssign a o at) = tt
bind_like (bElse c x a y) = tt
bind_like (bComma es at) = tt

opened_like : (x : Opened) → SimOpened x x
opened_like (oParen a) = tt
opened_like (oIndex f x) = tt
opened_like (oArgument f a es c) = refl
opened_like (oThen c x) = tt

wrap_like : (w : Wrap) → SimWrap w w
wrap_like (wThen h) = tt
wrap_like (wElse h s at) = tt
wrap_like (wWhile h) = tt
wrap_like (wSwitch h) = tt
wrap_like (wFor m h) = refl
wrap_like (wCase at e c) = tt
wrap_like (wDefault at c) = tt
wrap_like (wLabel n at c ats) = tt

outer_like : (o : Outer) → SimOuter o o
outer_like (outBody m h a ss) = refl
outer_like (outBlock m a ss o) = (refl, outer_like o)
outer_like (outDo at o) = outer_like o
outer_like (outWrap w o) = (wrap_like w, outer_like o)

place_like : (p : Place) → SimPlace p p
place_like placeFile = tt
place_like (placeBlock o) = outer_like o
place_like (placeFor m at a o) = (refl, outer_like o)

declaring_like : (d : Declaring) → SimDeclaring d d
declaring_like d = (place_like d.place, refl, refl)

declared_like : (d : Declared) → SimDeclared d d
declared_like d = (declaring_like d.around, refl, form_like d.form.value, refl)

base_like : (x : Base) → SimBase x x
base_like (baseStatement o) = outer_like o
base_like (baseTest t at a o) = (refl, outer_like o)
base_like (baseDo at s x a o) = outer_like o
base_like (baseReturn at o) = outer_like o
base_like (baseCase at o) = outer_like o
base_like (baseStart m at a o) = (refl, outer_like o)
base_like (baseMore m at a s o) = (refl, outer_like o)
base_like (baseStep m at a s e x o) = (refl, outer_like o)
base_like (baseLength d a) = declared_like d
base_like (baseInitial d at) = declared_like d
base_like (basePart d at a es c) = (declared_like d, refl)

mutual
  inner_like : (k : Inner) → SimInner k k
  inner_like (inBase x) = base_like x
  inner_like (inBind x k) = (bind_like x, inner_like k)
  inner_like (inOpen x k) = (opened_like x, inner_like k)
  inner_like (inConstant w s h es c n at a) = (around_like w, refl)

  around_like : (w : Around) → SimAround w w
  around_like (aroundCast a k) = inner_like k
  around_like (aroundSizeof at a k) = inner_like k
  around_like (aroundParameter d a ps c) = declared_like d
  around_like (aroundPlace p) = place_like p

listing_like : (l : Listing) → SimListing l l
listing_like l = (around_like l.around, refl, refl)

attributed_like : (x : Attributed) → SimAttributed x x
attributed_like (onWords s w) = (refl, around_like w)
attributed_like (onDeclared d) = declared_like d
attributed_like (onLabel n at c ats o) = outer_like o

fork_like : (f : Fork) → SimFork f f
fork_like (forkCast a k) = inner_like k
fork_like (forkSizeof at a k) = inner_like k
fork_like (forkBlock o) = outer_like o
fork_like (forkFor m at a o) = (refl, outer_like o)

waiting_like : (x : Waiting) → SimWaiting x x
waiting_like (waitTest t at o) = (refl, outer_like o)
waiting_like (waitWhile at s o) = outer_like o
waiting_like (waitDo at s x o) = outer_like o
waiting_like (waitDone at s h o) = outer_like o
waiting_like (waitFor at o) = outer_like o
waiting_like (waitDefault at o) = outer_like o
waiting_like (waitGoto at n x o) = outer_like o
waiting_like (waitBreak at o) = outer_like o
waiting_like (waitContinue at o) = outer_like o
waiting_like (waitVoid d a at) = declared_like d
waiting_like (waitList d at) = declared_like d
waiting_like (waitAttribute w at x) = attributed_like x

pub mode_like : (m : Mode) → SimMode m m
mode_like File = tt
mode_like (Ended i h) = tt
mode_like (Specifiers s w) = (refl, around_like w)
mode_like (Enumeration at s w) = (refl, around_like w)
mode_like (Tagged at n x s w) = (refl, around_like w)
mode_like (Constant l) = listing_like l
mode_like (Named l n at) = listing_like l
mode_like (Attribute w at a r n x) = (refl, attributed_like x)
mode_like (Next d at) = declaring_like d
mode_like (Behind d) = declared_like d
mode_like (Listed d) = declaring_like d
mode_like (Parameters' d a) = declared_like d
mode_like (Parameter d a ps c s n at) = declared_like d
mode_like (Skipped h a r n) = refl
mode_like (Begin o) = outer_like o
mode_like (Wait x) = waiting_like x
mode_like (Either f ats) = (fork_like f, refl)
mode_like (Goto at o) = outer_like o
mode_like (Operand k) = inner_like k
mode_like (Maybe k) = inner_like k
mode_like (Sizeof at k) = inner_like k
mode_like (Value e k) = ((refl, refl), inner_like k)
mode_like (Label n at c ats o) = outer_like o
mode_like (Whole s o) = outer_like o
mode_like Finished = tt
