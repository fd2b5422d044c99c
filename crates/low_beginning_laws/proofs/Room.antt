-- What is read in part leaves room for what it still needs: the words and the names before a declared name, a list of values so far, and each
-- expression, which is a node at least.
use Rattle.std.proofs.Common.{suc, ◌+◌, ◌≤◌, None, Some}
use Rattle.parse_machine.specs.Contexts.{oArgument, Declaring, Base, baseReturn, baseMore, baseStep, baseLength, baseInitial, basePart, Inner, inBase, inBind, inOpen, inConstant, Around, aroundCast, aroundSizeof, aroundParameter, aroundPlace, Attributed, onWords, onDeclared, onLabel, Fork, forkCast, forkSizeof, forkBlock, forkFor, Waiting, waitVoid, waitList, waitAttribute, Mode, Specifiers, Enumeration, Tagged, Constant, Named, Attribute, Next, Behind, Listed, Parameters', Parameter, Wait, Either, Operand, Maybe, Sizeof, Value}
use Rattle.parse_machine.specs.Making.{above}
use Rattle.parse_machine.specs.Heights.{place_depth, declared_high}

abbrev pub RoomDeclaring : Declaring → Type 0
RoomDeclaring d = (suc (place_depth d.place) + above d.spoken.height ≤ 200) × (suc (place_depth d.place) + d.before.height ≤ 200)

abbrev pub RoomBase : Base → Type 0
RoomBase (baseLength d a) = RoomDeclaring d.around
RoomBase (baseInitial d at) = RoomDeclaring d.around
RoomBase (basePart d at a es c) = RoomDeclaring d.around × (declared_high d (above es.height) ≤ 200)
RoomBase _ = Unit {0}

abbrev mutual
  pub RoomInner : Inner → Type 0
  RoomInner (inBase b) = RoomBase b
  RoomInner (inBind b k) = RoomInner k
  RoomInner (inOpen o k) = RoomInner k
  RoomInner (inConstant w s h es c n at a) = RoomAround w

  pub RoomAround : Around → Type 0
  RoomAround (aroundCast a k) = RoomInner k
  RoomAround (aroundSizeof at a k) = RoomInner k
  RoomAround (aroundParameter d a ps c) = RoomDeclaring d.around
  RoomAround (aroundPlace p) = Unit {0}

abbrev pub RoomAttributed : Attributed → Type 0
RoomAttributed (onWords s w) = RoomAround w
RoomAttributed (onDeclared d) = RoomDeclaring d.around
RoomAttributed (onLabel n at b ats o) = Unit {0}

abbrev pub RoomFork : Fork → Type 0
RoomFork (forkCast a k) = RoomInner k
RoomFork (forkSizeof at a k) = RoomInner k
RoomFork (forkBlock o) = Unit {0}
RoomFork (forkFor m at a o) = Unit {0}

abbrev pub RoomWaiting : Waiting → Type 0
RoomWaiting (waitVoid d a at) = RoomDeclaring d.around
RoomWaiting (waitList d at) = RoomDeclaring d.around
RoomWaiting (waitAttribute w at x) = RoomAttributed x
RoomWaiting _ = Unit {0}

-- where an expression may be left out
abbrev pub MayLack : Inner → Type 0
MayLack (inOpen (oArgument f a es None) k) = Unit {0}
MayLack (inBase (baseReturn at o)) = Unit {0}
MayLack (inBase (baseMore m at a s o)) = Unit {0}
MayLack (inBase (baseStep m at a s e x o)) = Unit {0}
MayLack (inBase (baseLength d a)) = Unit {0}
MayLack (inBase (basePart d at a es (Some c))) = Unit {0}
MayLack _ = ⊥

abbrev pub Room : Mode → Type 0
Room (Specifiers s w) = RoomAround w
Room (Enumeration at s w) = RoomAround w
Room (Tagged at n x s w) = RoomAround w
Room (Constant l) = RoomAround l.around
Room (Named l n at) = RoomAround l.around
Room (Attribute w at a r n x) = RoomAttributed x
Room (Next d at) = RoomDeclaring d
Room (Behind d) = RoomDeclaring d.around
Room (Listed d) = RoomDeclaring d
Room (Parameters' d a) = RoomDeclaring d.around
Room (Parameter d a ps c s n at) = RoomDeclaring d.around
Room (Wait x) = RoomWaiting x
Room (Either f ats) = RoomFork f
Room (Operand k) = RoomInner k
Room (Maybe k) = RoomInner k × MayLack k
Room (Sizeof at k) = RoomInner k
Room (Value e k) = (1 ≤ e.height) × RoomInner k
Room _ = Unit {0}
