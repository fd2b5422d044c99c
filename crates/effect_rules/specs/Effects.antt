-- What an expression writes and reads, and the rules of unsequenced effects that it breaks, summed up in one walk.
use Rattle.std.specs.Prelude.{◌≡◌, ℕ, Bool, true, false, ◌||◌, if◌then◌else◌, List, [], ◌∷◌, ◌++◌}
use Rattle.lv_base.specs.declared.fault.SourceFault.TheVariants as fault
use Rattle.c_run.specs.Breaking.{line}
use Rattle.first_broken.specs.Found.{Summary, summary, both}
use Rattle.c_typed.specs.Tree.{Val, vConstant, vRead, vElement, vWhole, vNothing, vConvert, vDiscard, vNegate, vComplement, vNot, vBinary, vBoth, vEither, vCond, vAssign, vUpdate, vChange, vCall, vReach, vAbort, vDraw, vComma, Goal, gObject, gElement, Vals, no_values, values_and}
use Rattle.c_typed.specs.Rules as r

pub record Effects : Type 0 where
  pub writes : List ℕ
  pub reads : List ℕ
  pub found : Summary

abbrev pub nothing : Effects
nothing = record { writes = []; reads = []; found = summary [] }

abbrev pub reading : ℕ → Effects
reading object = record { writes = []; reads = object ∷ []; found = summary [] }

-- one part behind another
abbrev pub joined : Effects → Effects → Effects
joined x y = record { writes = x.writes ++ y.writes; reads = x.reads ++ y.reads; found = both x.found y.found }

-- with one more line
abbrev pub lined : Effects → Bool → ℕ → Effects
lined x test at = record { writes = x.writes; reads = x.reads; found = both x.found (summary (line test fault.Unsequenced at)) }

abbrev pub parts_clash : Effects → Effects → Bool
parts_clash x y = r.clash x.writes x.reads y.writes y.reads

abbrev pub operands : ℕ → Effects → Effects → Effects
operands at x y = lined (joined x y) (parts_clash x y) at

-- an element that is read
abbrev pub element : ℕ → ℕ → Effects → Effects
element at object i = lined (joined (reading object) i) (r.has i.writes object) at

-- an object that is written, and read before it where the operator says so
abbrev pub written : Bool → ℕ → Effects
written reads object = record { writes = object ∷ []; reads = if reads then object ∷ [] else []; found = summary [] }

-- a target, by its index, and what is assigned
abbrev pub assigned : Bool → ℕ → ℕ → Effects → Effects → Effects
assigned reads at object g e = lined (joined (joined (written reads object) g) e) (parts_clash g e || (r.has e.writes object || r.has g.writes object)) at

abbrev pub changed : ℕ → ℕ → Effects → Effects
changed at object g = lined (joined (written true object) g) (r.has g.writes object) at

abbrev mutual
  pub effects : Val → Effects
  effects (vConstant k v) = nothing
  effects (vRead k object) = reading object
  effects (vElement k at object i) = element at object (effects i)
  effects (vWhole object) = reading object
  effects vNothing = nothing
  effects (vConvert k e) = effects e
  effects (vDiscard e) = effects e
  effects (vNegate k at e) = effects e
  effects (vComplement k at e) = effects e
  effects (vNot e) = effects e
  effects (vBinary o k at a b) = operands at (effects a) (effects b)
  effects (vBoth a b) = joined (effects a) (effects b)
  effects (vEither a b) = joined (effects a) (effects b)
  effects (vCond k t a b) = joined (joined (effects t) (effects a)) (effects b)
  effects (vAssign k at g e) = assigned false at (r.object_in g) (goal_effects g) (effects e)
  effects (vUpdate o k l at g e) = assigned true at (r.object_in g) (goal_effects g) (effects e)
  effects (vChange before by k at g) = changed at (r.object_in g) (goal_effects g)
  effects (vCall result at x f es) = lined (list_effects es) (arguments_clash es) x
  effects (vReach at) = nothing
  effects vAbort = nothing
  effects (vDraw k) = nothing
  effects (vComma es e) = joined (list_effects es) (effects e)

  -- of a target's index
  pub goal_effects : Goal → Effects
  goal_effects (gObject object) = nothing
  goal_effects (gElement at object i) = effects i

  pub list_effects : Vals → Effects
  list_effects no_values = nothing
  list_effects (values_and es e) = joined (list_effects es) (effects e)

  -- an argument and those before it
  pub arguments_clash : Vals → Bool
  arguments_clash no_values = false
  arguments_clash (values_and es e) = parts_clash (list_effects es) (effects e) || arguments_clash es

-- the sums are those of the rules
abbrev pub EffectsSummed : Type 0
EffectsSummed = (e : Val) → effects e ≡ record { writes = r.writes e; reads = r.reads e; found = summary (r.unsequenced e) }
