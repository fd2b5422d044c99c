-- What expressions that break no rule of names, types and calls fit.
use Rattle.std.specs.Prelude.{◌≡◌, ℕ, List, [], ◌∷◌, length, Option, Some, None}
use Rattle.lv_base.specs.declared.kind.Kind.{Kind}
use Rattle.lv_base.specs.declared.kind.Model.{Model}
use Rattle.c_tree.specs.Tree.{Ex, eName, eNumber, eLetter, eParen, eCall, eIndex, ePostfix, ePrefix, eSizeof, eCast, eBinary, eCond, eAssign, eComma, Parts, no_parts, parts_and}
use Rattle.c_meaning.specs.Bindings.{Env, Entity, aFunctionOf, aNameOf, entity_of}
use Rattle.c_meaning.specs.Known.{Known, known_of}
use Rattle.c_meaning.specs.Rules.{faults}
use Rattle.c_types.specs.Fit.{Fits}
use Rattle.control_laws.specs.Aims.{Aims}

-- no parameter of a prototype
abbrev pub IsNoName : Entity → Type 0
IsNoName (aNameOf k c) = ⊥
IsNoName _ = Unit {0}

module _ (env : Env) where
  -- no name in an expression stands for a parameter of a prototype
  abbrev mutual
    pub Unnamed : Ex → Type 0
    Unnamed (eName n at) = IsNoName (entity_of env n at)
    Unnamed (eNumber v f at) = Unit {0}
    Unnamed (eLetter v at) = Unit {0}
    Unnamed (eParen a e b) = Unnamed e
    Unnamed (eCall f a es b) = Unnamed f × AllUnnamed es
    Unnamed (eIndex a x i y) = Unnamed a × Unnamed i
    Unnamed (ePostfix e c at) = Unnamed e
    Unnamed (ePrefix o at e) = Unnamed e
    Unnamed (eSizeof at a ws b) = Unit {0}
    Unnamed (eCast a ws b e) = Unnamed e
    Unnamed (eBinary a o at b) = Unnamed a × Unnamed b
    Unnamed (eCond c x a y b) = Unnamed c × Unnamed a × Unnamed b
    Unnamed (eAssign a o at b) = Unnamed a × Unnamed b
    Unnamed (eComma es) = AllUnnamed es

    pub AllUnnamed : Parts → Type 0
    AllUnnamed no_parts = Unit {0}
    AllUnnamed (parts_and es c e) = AllUnnamed es × Unnamed e

  -- what means something without a body takes no arguments
  abbrev pub KnownTakeNone : Type 0
  KnownTakeNone = (n : List ℕ) → (at : ℕ) → (k : Known) → (result : Option Kind) → (parameters : List Kind) → known_of n ≡ Some k → entity_of env n at ≡ aFunctionOf result parameters → length parameters ≡ 0

abbrev pub ExpressionsFit : Type 0
ExpressionsFit = (env : Env) → (model : Model) → (bodies : List (List ℕ)) → KnownTakeNone env → (e : Ex) → Unnamed env e → faults env model bodies e ≡ [] → Fits env bodies e × Aims env e
