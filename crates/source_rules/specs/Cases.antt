-- The cases of a switch (C11 6.8.4.2 p3), in their order.
use Rattle.std.specs.Prelude.{◌≡◌, ℕ, Bool, true, false, ◌||◌, List, [], ◌∷◌, ◌++◌, map, Option, None, Some, ℤ}
use Rattle.std.specs.Ordering.{int_eq}
use Rattle.std.specs.List.{list_any}
use Rattle.std.specs.Option.{option_map}
use Rattle.lv_base.specs.declared.kind.Kind.{Kind}
use Rattle.lv_base.specs.declared.kind.Model.{Model}
use Rattle.lv_base.specs.declared.fault.SourceFault.TheVariants as fault
use Rattle.lv_base.specs.Integers.{converted}
use Rattle.c_tree.specs.Tree.{Ex, St, sBlock, sIf, sIfElse, sWhile, sDo, sFor, sCase, sDefault, sLabel, Sts, no_statements, statements_and}
use Rattle.c_run.specs.Breaking.{Broken, line}
use Rattle.c_meaning.specs.Bindings.{Env}
use Rattle.c_meaning.specs.Constants.{constant_of}
use Rattle.c_meaning.specs.Rules.{is_same_case, case_at}
use Rattle.c_meaning.specs.Rules as r
use Rattle.source_rules.specs.declared.cases.Case.{Case}
use Rattle.source_rules.specs.declared.cases.Case.TheVariants as cs

abbrev pub case_of : Case → r.Case
case_of (cs.Value v at) = r.aCase v at
case_of (cs.Default at) = r.aDefault at

abbrev pub cases : List Case → List r.Case
cases xs = map case_of xs

module _ (env : Env) (model : Model) where
  abbrev pub case_value : Kind → Ex → Option ℤ
  case_value k e = option_map (λ v. converted k model v) (constant_of env model e)

  -- those of a switch's body, not those of a switch in it
  abbrev mutual
    pub cases_in : Kind → St → List r.Case
    cases_in k (sBlock a ss b) = cases_in_all k ss
    cases_in k (sIf h s) = cases_in k s
    cases_in k (sIfElse h s at t) = cases_in k s ++ cases_in k t
    cases_in k (sWhile h s) = cases_in k s
    cases_in k (sDo at s h b) = cases_in k s
    cases_in k (sFor h s) = cases_in k s
    cases_in k (sCase at e b s) = r.aCase (case_value k e) at ∷ cases_in k s
    cases_in k (sDefault at b s) = r.aDefault at ∷ cases_in k s
    cases_in k (sLabel n at b ats s) = cases_in k s
    cases_in k _ = []

    pub cases_in_all : Kind → Sts → List r.Case
    cases_in_all k no_statements = []
    cases_in_all k (statements_and ss s) = cases_in_all k ss ++ cases_in k s

-- those that stand a second time behind these
abbrev pub repeated : List r.Case → List r.Case → List Broken
repeated before [] = []
repeated before (x ∷ xs) = line (list_any (is_same_case x) before) fault.DuplicateCase (case_at x) ++ repeated (before ++ x ∷ []) xs

-- ---- The cases so far, by their values and whether a `default` is among them

abbrev pub values_of : r.Case → List ℤ
values_of (r.aCase None at) = []
values_of (r.aCase (Some v) at) = v ∷ []
values_of (r.aDefault at) = []

abbrev pub has_value : List ℤ → ℤ → Bool
has_value vs v = list_any (int_eq v) vs

abbrev pub has_default : Bool → r.Case → Bool
has_default before (r.aCase v at) = before
has_default before (r.aDefault at) = true

-- the same case is among them
abbrev pub stands : List ℤ → Bool → r.Case → Bool
stands vs default (r.aCase None at) = false
stands vs default (r.aCase (Some v) at) = has_value vs v
stands vs default (r.aDefault at) = default

-- the values before and these, in whatever order
abbrev pub Gains : (before added after : List ℤ) → Type 0
Gains before added after = (v : ℤ) → has_value after v ≡ (has_value before v || has_value added v)

-- these values and this `default` show which cases are among these
abbrev pub Shows : List ℤ → Bool → List r.Case → Type 0
Shows vs default before = (x : r.Case) → stands vs default x ≡ list_any (is_same_case x) before
