-- How tight an expression must bind at a place, and how high the tree is at least.
use Rattle.std.specs.Prelude.{ℕ, suc, ◌+◌, max, List, [], ◌∷◌, None, Bool, true, false, ◌&&◌, if◌then◌else◌}
use Rattle.c_tree.specs.declared.known.Site.{Site}
use Rattle.c_tree.specs.declared.known.Site.TheVariants as site
use Rattle.c_tree.specs.Spelling.{level, operand_level}
use Rattle.c_tree.specs.Height.{height_attributes}
use Rattle.c_tree.specs.Tree.{Form, fArray, fFunction}
use Rattle.c_tree.specs.Shape.{are_no_declarators}
use Rattle.parse_machine.specs.Contexts.{Bind, bBinary, bPrefix, bCast, bAssign, bElse, bComma, Opened, oParen, oIndex, oArgument, oThen, Outer, outBody, outBlock, outDo, outWrap, Place, placeFile, placeBlock, placeFor, Declaring, Declared, Base, baseStatement, baseTest, baseDo, baseReturn, baseCase, baseStart, baseMore, baseStep, baseLength, baseInitial, basePart, Inner, inBase, inBind, inOpen, inConstant, Around, aroundCast, aroundSizeof, aroundParameter, aroundPlace, Listing, Attributed, onWords, onDeclared, onLabel, Fork, forkCast, forkSizeof, forkBlock, forkFor, Waiting, waitTest, waitWhile, waitDo, waitDone, waitFor, waitDefault, waitGoto, waitBreak, waitContinue, waitVoid, waitList, waitAttribute, Mode, File, Ended, Specifiers, Enumeration, Tagged, Constant, Named, Attribute, Next, Behind, Listed, Parameters', Parameter, Skipped, Begin, Wait, Either, Goto, Operand, Maybe, Sizeof, Value, Label, Whole, Finished}
use Rattle.parse_machine.specs.Making.{above}

-- Levels.

abbrev pub least_bind : Bind → ℕ
least_bind (bBinary a o at) = suc (level o)
least_bind (bPrefix o at) = operand_level o
least_bind (bCast a ws b) = 13
least_bind (bAssign a o at) = 1
least_bind (bElse c x a y) = 2
least_bind (bComma es at) = 1

abbrev pub least_open : Opened → ℕ
least_open (oArgument f a es c) = 1
least_open _ = 0

abbrev pub least_base : Base → ℕ
least_base (baseCase at o) = 2
least_base (baseLength d a) = 2
least_base (baseInitial d at) = 1
least_base (basePart d at a es c) = 1
least_base _ = 0

-- the least level that fits the place
abbrev pub least : Inner → ℕ
least (inBase b) = least_base b
least (inBind b k) = least_bind b
least (inOpen o k) = least_open o
least (inConstant w s h es c n at a) = 2

-- Heights.

-- how many nodes are around a statement
abbrev pub depth : Outer → ℕ
depth (outBody m h a ss) = 2
depth (outBlock m a ss o) = suc (depth o)
depth (outDo at o) = suc (depth o)
depth (outWrap w o) = suc (depth o)

abbrev pub place_depth : Place → ℕ
place_depth placeFile = 0
place_depth (placeBlock o) = depth o
place_depth (placeFor m at a o) = suc (depth o)

abbrev pub site_of_place : Place → Site
site_of_place placeFile = site.File
site_of_place _ = site.Block

abbrev pub is_placed_in_file : Place → Bool
is_placed_in_file placeFile = true
is_placed_in_file _ = false

-- a block of a function may follow the parameters of this name
abbrev pub is_first : Declaring → Bool
is_first d = is_placed_in_file d.place && are_no_declarators d.before.value

-- inside a declarator
abbrev pub declarator_high : Declaring → ℕ → ℕ
declarator_high d h = suc (place_depth d.place) + above h

-- with parameters of this height, which stand in a function or in a declarator
abbrev pub parameters_high : Declaring → ℕ → ℕ
parameters_high d h = if is_first d then suc h else declarator_high d h

-- what must follow is of this height
abbrev pub form_needs : Form → ℕ
form_needs (fArray a None b) = 2
form_needs _ = 0

abbrev pub is_function : Form → Bool
is_function (fFunction ps) = true
is_function _ = false

-- a declared name with a part of this height
abbrev pub declared_high : Declared → ℕ → ℕ
declared_high d h =
    if is_function d.form.value then parameters_high d.around (max d.form.height h) else declarator_high d.around (max (max d.form.height (form_needs d.form.value)) h)

abbrev pub base_high : Base → ℕ → ℕ
base_high (baseStatement o) h = suc (depth o) + h
base_high (baseTest t at a o) h = suc (depth o) + h
base_high (baseDo at s x a o) h = suc (depth o) + h
base_high (baseReturn at o) h = suc (depth o) + h
base_high (baseCase at o) h = suc (depth o) + h
base_high (baseStart m at a o) h = suc (depth o) + max h 1
base_high (baseMore m at a s o) h = suc (depth o) + max h 1
base_high (baseStep m at a s e x o) h = suc (depth o) + max h 1
base_high (baseLength d a) h = declarator_high d.around (max h 1)
base_high (baseInitial d at) h = declared_high d h
base_high (basePart d at a es c) h = declared_high d (above (max h 1))

abbrev pub bind_high : Bind → ℕ → ℕ
bind_high (bBinary a o at) h = above (max a.height h)
bind_high (bPrefix o at) h = above h
bind_high (bCast a ws b) h = above (max (above ws.height) h)
bind_high (bAssign a o at) h = above (max a.height h)
bind_high (bElse c x a y) h = above (max (max c.height a.height) h)
bind_high (bComma es at) h = above (max es.height h)

abbrev pub open_high : Opened → ℕ → ℕ
open_high (oParen a) h = above h
open_high (oIndex f x) h = above (max f.height h)
open_high (oArgument f a es c) h = above (max (max f.height es.height) h)
open_high (oThen c x) h = above (max c.height h)

abbrev mutual
  -- the tree with an expression of this height
  pub high : Inner → ℕ → ℕ
  high (inBase b) h = base_high b h
  high (inBind b k) h = high k (bind_high b h)
  high (inOpen o k) h = high k (open_high o h)
  high (inConstant w s e es c n at a) h = around_high w (max s.height (above (max es.height (above h))))

  -- the tree with words of this height
  pub around_high : Around → ℕ → ℕ
  around_high (aroundCast a k) h = high k (above (above h))
  around_high (aroundSizeof at a k) h = high k (above (above h))
  around_high (aroundParameter d a ps c) h = parameters_high d.around (above (max ps.height (above h)))
  around_high (aroundPlace p) h = suc (place_depth p) + above h

-- a list of statements need not go on
abbrev pub is_list : Outer → Bool
is_list (outBody m h a ss) = true
is_list (outBlock m a ss o) = true
is_list _ = false

abbrev pub begin_high : Outer → ℕ
begin_high o = if is_list o then depth o else suc (depth o)

abbrev pub attributed_high : Attributed → ℕ
attributed_high (onWords s w) = around_high w (max s.height 1)
attributed_high (onDeclared d) = declared_high d 1
attributed_high (onLabel n at b ats o) = 2 + depth o

abbrev pub listing_high : Listing → ℕ
listing_high l = around_high l.around (max l.spoken.height (above (max l.before.height 1)))

-- with words, or, where nothing or only `__extension__` came, with the least of both
abbrev pub fork_high : Fork → List ℕ → ℕ
fork_high (forkCast a k) ats = high k 2
fork_high (forkSizeof at a k) ats = high k 2
fork_high (forkBlock o) ats = 2 + depth o
fork_high (forkFor m at a o) [] = 2 + depth o
fork_high (forkFor m at a o) (x ∷ ats) = 3 + depth o

abbrev pub waiting_high : Waiting → ℕ
waiting_high (waitTest t at o) = 2 + depth o
waiting_high (waitWhile at s o) = 2 + depth o
waiting_high (waitDo at s x o) = 2 + depth o
waiting_high (waitDone at s h o) = 1 + depth o
waiting_high (waitFor at o) = 2 + depth o
waiting_high (waitDefault at o) = 2 + depth o
waiting_high (waitGoto at n x o) = 1 + depth o
waiting_high (waitBreak at o) = 1 + depth o
waiting_high (waitContinue at o) = 1 + depth o
waiting_high (waitVoid d a at) = parameters_high d.around 1
waiting_high (waitList d at) = declared_high d 2
waiting_high (waitAttribute w at x) = attributed_high x

-- the height that every tree with these tokens has, where it is more than that of the parts behind
abbrev pub low : Mode → ℕ
low File = 0
low (Ended i h) = h
low (Specifiers s w) = around_high w s.height
low (Enumeration at s w) = around_high w (max s.height 1)
low (Tagged at n x s w) = around_high w (max s.height 1)
low (Constant l) = listing_high l
low (Named l n at) = listing_high l
low (Attribute w at a r n x) = attributed_high x
low (Next d at) = suc (place_depth d.place) + max d.before.height 1
low (Behind d) = declared_high d (height_attributes d.attributes)
low (Listed d) = suc (place_depth d.place) + d.before.height
low (Parameters' d a) = parameters_high d.around 1
low (Parameter d a ps c s n at) = parameters_high d.around (above (max ps.height (above s.height)))
low (Skipped h a r n) = 2
low (Begin o) = begin_high o
low (Wait x) = waiting_high x
low (Either f ats) = fork_high f ats
low (Goto at o) = 1 + depth o
low (Operand k) = high k 1
low (Maybe k) = high k 0
low (Sizeof at k) = high k 2
low (Value e k) = high k e.height
low (Label n at b ats o) = 2 + depth o
low (Whole s o) = 1 + depth o
low Finished = 0
