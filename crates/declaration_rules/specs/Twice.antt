-- Names that are declared twice (C11 6.2.2, 6.7 p3, p4, 6.9 p3), and `main` (C11 5.1.2.2.1), in the order in which a program
-- goes over them.
use Rattle.std.specs.Prelude.{ℕ, nat_eq, nat_lt, Bool, true, false, ◌&&◌, ◌||◌, not, if◌then◌else◌, List, [], ◌∷◌, ◌++◌, length, Option, None, Some, bytes_eq}
use Rattle.std.specs.List.{list_any}
use Rattle.lv_base.specs.declared.kind.Kind.{Kind}
use Rattle.lv_base.specs.declared.kind.Model.{Model}
use Rattle.lv_base.specs.declared.fault.SourceFault.TheVariants as fault
use Rattle.c_tree.specs.Tree.{Words, Form, Parameters, Initial, iNothing}
use Rattle.c_run.specs.Breaking.{Broken, line}
use Rattle.c_meaning.specs.Scope.{Declared, What, anObject, aFunction, is_tag, is_file, is_same}
use Rattle.c_meaning.specs.Bindings.{Entry, Env, words_type, has_const, kind_in, kind_or_int, parameter_kinds}
use Rattle.c_meaning.specs.Known.{Known, reaches, aborts, draws, known_of}
use Rattle.c_meaning.specs.Constants.{object_length}
use Rattle.c_meaning.specs.Rules.{is_same_kind, is_none}

-- ---- Two declarations that agree

abbrev pub same_kinds : List Kind → List Kind → Bool
same_kinds [] [] = true
same_kinds (k ∷ ks) (l ∷ ls) = is_same_kind k l && same_kinds ks ls
same_kinds _ _ = false

-- a broken length is 0, and agrees with each
abbrev pub same_length : Option ℕ → Option ℕ → Bool
same_length None None = true
same_length (Some n) (Some m) = nat_eq n m || (nat_eq n 0 || nat_eq m 0)
same_length _ _ = false

abbrev pub same_const : Bool → Bool → Bool
same_const true true = true
same_const false false = true
same_const _ _ = false

abbrev pub same_result : Option Kind → Option Kind → Bool
same_result None None = true
same_result (Some k) (Some l) = is_same_kind k l
same_result _ _ = false

abbrev pub begins : Initial → Bool
begins iNothing = false
begins _ = true

module _ (env : Env) where
  -- in kind, length and `const`, and at most one initializes
  abbrev pub objects_agree : Model → Words → Form → Initial → Words → Form → Initial → Bool
  objects_agree model ws f i vs g j =
      is_same_kind (kind_or_int (words_type env ws)) (kind_or_int (words_type env vs))
      && (same_length (object_length env model f i) (object_length env model g j)
      && (same_const (has_const env ws) (has_const env vs)
      && not (begins i && begins j)))

  -- in the kinds of result and parameters, and at most one has a body
  abbrev pub functions_agree : Words → Parameters → Bool → Words → Parameters → Bool → Bool
  functions_agree ws ps b vs qs c =
      same_result (kind_in (words_type env ws)) (kind_in (words_type env vs))
      && (same_kinds (parameter_kinds env ps) (parameter_kinds env qs)
      && not (b && c))

  abbrev pub agrees : Model → What → What → Bool
  agrees model (anObject ws f i) (anObject vs g j) = objects_agree model ws f i vs g j
  agrees model (aFunction ws ps b) (aFunction vs qs c) = functions_agree ws ps b vs qs c
  agrees model _ _ = false

-- ---- Two declarations of one name

-- tags have a name space of their own
abbrev pub same_space : What → What → Bool
same_space w v = if is_tag w then is_tag v else not (is_tag v)

-- in one name space and one scope, with one name that is not empty
abbrev pub meets : Declared → Declared → Bool
meets d e = same_space d.what e.what && (is_same d.scope e.scope && (bytes_eq d.name e.name && nat_lt 0 (length d.name)))

-- ---- Functions that mean something without a body

abbrev pub is_known_right : Known → Option Kind → Bool
is_known_right reaches result = is_none result
is_known_right aborts result = is_none result
is_known_right (draws k) result = not (is_none result)

abbrev pub may_have_body : Known → Bool
may_have_body reaches = true
may_have_body _ = false

-- with so many parameters
abbrev pub is_known_wrong : Option Known → Option Kind → ℕ → Bool → Bool
is_known_wrong None result count has_body = false
is_known_wrong (Some k) result count has_body = not (is_known_right k result && (nat_eq count 0 && (may_have_body k || not has_body)))

abbrev pub is_named_wrong : Env → List ℕ → What → Bool
is_named_wrong env name (aFunction ws ps b) = is_known_wrong (known_of name) (kind_in (words_type env ws)) (length (parameter_kinds env ps)) b
is_named_wrong env name _ = false

-- ---- All of them

abbrev pub again : Bool → ℕ → List Broken
again test at = line test fault.Redeclared at

module _ (env : Env) (model : Model) where
  abbrev pub clashes : Declared → Entry → Bool
  clashes d e = meets d e.declared && not (is_file d.scope && agrees env model e.declared.what d.what)

  -- a declaration behind those before it
  abbrev pub lines_of : List Entry → Entry → List Broken
  lines_of before e = again (list_any (clashes e.declared) before) e.declared.at ++ again (is_named_wrong env e.declared.name e.declared.what) e.declared.at

  abbrev pub lines_at : List Entry → Option Entry → List Broken
  lines_at before None = []
  lines_at before (Some e) = lines_of before e

  abbrev pub twice : List Entry → List Entry → List Broken
  twice before [] = []
  twice before (e ∷ es) = lines_of before e ++ twice (before ++ e ∷ []) es
