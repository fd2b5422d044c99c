-- The places at which `reach_error` is called: the offsets of the called names, in the order of the text. Operands of `sizeof` and
-- constants are left aside, as no run evaluates them.
use Rattle.std.specs.Prelude.{ℕ, List, [], ◌∷◌, ◌++◌, Option, Some}
use Rattle.c_tree.specs.declared.tree.PrefixOp.TheVariants as pre
use Rattle.c_tree.specs.Tree.{Ex, eName, eNumber, eLetter, eParen, eCall, eIndex, ePostfix, ePrefix, eSizeof, eCast, eBinary, eCond, eAssign, eComma, Parts, no_parts, parts_and}
use Rattle.c_meaning.specs.Bindings.{Env, Entity, aFunctionOf, entity_of}
use Rattle.c_meaning.specs.Jumps as source
use Rattle.c_meaning.specs.Known.{Known, reaches, known_of}
use Rattle.c_meaning.specs.Program.{Function}
use Rattle.c_typed.specs.Rules as typed
use Rattle.c_typed.specs.Tree as t
use Rattle.c_typed.specs.Tree.{Val, vElement, vConvert, vDiscard, vNegate, vComplement, vNot, vBinary, vBoth, vEither, vCond, vAssign, vUpdate, vChange, vCall, vReach, vComma, Goal, gObject, gElement, Vals, no_values, values_and}

-- a function's name, and the places in it
pub record Reached : Type 0 where
  pub name : List ℕ
  pub places : List ℕ

-- ---- Of a source

abbrev pub place_of : Option Known → ℕ → List ℕ
place_of (Some reaches) at = at ∷ []
place_of _ at = []

abbrev pub place_in : Entity → List ℕ → ℕ → List ℕ
place_in (aFunctionOf result parameters) n at = place_of (known_of n) at
place_in _ n at = []

module _ (env : Env) where
  abbrev mutual
    pub places : Ex → List ℕ
    places (eName n at) = []
    places (eNumber v f at) = []
    places (eLetter v at) = []
    places (eParen a e b) = places e
    places (eCall f a es b) = place_by f ++ places_in es
    places (eIndex a x i y) = places i
    places (ePostfix e c at) = places e
    places (ePrefix pre.Sizeof at e) = []
    places (ePrefix o at e) = places e
    places (eSizeof at a ws b) = []
    places (eCast a ws b e) = places e
    places (eBinary a o at b) = places a ++ places b
    places (eCond c x a y b) = places c ++ places a ++ places b
    places (eAssign a o at b) = places a ++ places b
    places (eComma es) = places_in es

    pub places_in : Parts → List ℕ
    places_in no_parts = []
    places_in (parts_and es c e) = places_in es ++ places e

    pub place_by : Ex → List ℕ
    place_by (eName n at) = place_in (entity_of env n at) n at
    place_by _ = []

  abbrev pub places_of : List Ex → List ℕ
  places_of [] = []
  places_of (e ∷ es) = places e ++ places_of es

  abbrev pub reached_in : Function → Reached
  reached_in f = record { name = f.name; places = places_of (source.all_of_all f.body) }

-- ---- Of a typed tree

abbrev mutual
  pub value_places : Val → List ℕ
  value_places (vElement k at object i) = value_places i
  value_places (vConvert k e) = value_places e
  value_places (vDiscard e) = value_places e
  value_places (vNegate k at e) = value_places e
  value_places (vComplement k at e) = value_places e
  value_places (vNot e) = value_places e
  value_places (vBinary o k at a b) = value_places a ++ value_places b
  value_places (vBoth a b) = value_places a ++ value_places b
  value_places (vEither a b) = value_places a ++ value_places b
  value_places (vCond k c a b) = value_places c ++ value_places a ++ value_places b
  value_places (vAssign k at g e) = goal_places g ++ value_places e
  value_places (vUpdate o k l at g e) = goal_places g ++ value_places e
  value_places (vChange before by k at g) = goal_places g
  value_places (vCall result at x f es) = list_places es
  value_places (vReach at) = at ∷ []
  value_places (vComma es e) = list_places es ++ value_places e
  value_places _ = []

  pub list_places : Vals → List ℕ
  list_places no_values = []
  list_places (values_and es e) = list_places es ++ value_places e

  pub goal_places : Goal → List ℕ
  goal_places (gObject object) = []
  goal_places (gElement at object i) = value_places i

abbrev pub values_places : List Val → List ℕ
values_places [] = []
values_places (e ∷ es) = value_places e ++ values_places es

abbrev pub typed_reached : t.Function → Reached
typed_reached f = record { name = f.name; places = values_places (typed.all_of_all f.body) }
