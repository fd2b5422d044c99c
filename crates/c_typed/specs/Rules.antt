-- The rules of jumps, of unsequenced effects and of recursion on typed trees (C11 6.5 p2, 6.8.1, 6.8.6).
use Rattle.std.specs.Prelude.{ℕ, zero, suc, nat_eq, Bool, true, false, ◌&&◌, ◌||◌, not, List, [], ◌∷◌, ◌++◌, length, map, Option, Some, None, slice_index_or, bytes_eq}
use Rattle.std.specs.List.{list_any}
use Rattle.lv_base.specs.declared.kind.Kind.{Kind}
use Rattle.lv_base.specs.declared.fault.SourceFault.TheVariants as fault
use Rattle.c_run.specs.Breaking.{Broken, line}
use Rattle.c_typed.specs.Tree.{Val, vRead, vElement, vWhole, vConvert, vDiscard, vNegate, vComplement, vNot, vBinary, vBoth, vEither, vCond, vAssign, vUpdate, vChange, vCall, vComma, Goal, gObject, gElement, Vals, no_values, values_and, Step, pDraw, pBegin, pBlock, pEffect, pIf, pIfElse, pWhile, pSwitch, pDo, pFor, pCase, pDefault, pLabel, pGoto, pBreak, pContinue, pReturn, Steps, no_steps, steps_and, Function, Program}

abbrev pub has : List ℕ → ℕ → Bool
has xs y = list_any (nat_eq y) xs

abbrev pub meets : List ℕ → List ℕ → Bool
meets xs ys = list_any (has ys) xs

-- ---- Labels, and the objects in whose scope they stand (C11 6.2.1 p7, 6.8.1 p3, 6.8.6.1 p1)

-- a label or a goto: its name with the offset, the offset of its first token, and the objects declared around it
pub record Jump : Type 0 where
  pub name : List ℕ
  pub named_at : ℕ
  pub at : ℕ
  pub scope : List ℕ

abbrev pub jump : List ℕ → ℕ → ℕ → List ℕ → Jump
jump name named_at at scope = record { name = name; named_at = named_at; at = at; scope = scope }

abbrev pub declared_by : Step → List ℕ
declared_by (pDraw object) = object ∷ []
declared_by (pBegin object vs) = object ∷ []
declared_by _ = []

-- the objects that statements in a row declare
abbrev pub declared_in : Steps → List ℕ
declared_in no_steps = []
declared_in (steps_and ss s) = declared_in ss ++ declared_by s

abbrev mutual
  pub labels_of : List ℕ → Step → List Jump
  labels_of scope (pBlock ss) = labels_of_all scope ss
  labels_of scope (pIf v s) = labels_of scope s
  labels_of scope (pIfElse v s t) = labels_of scope s ++ labels_of scope t
  labels_of scope (pWhile at v s) = labels_of scope s
  labels_of scope (pSwitch at k v s) = labels_of scope s
  labels_of scope (pDo at s v) = labels_of scope s
  labels_of scope (pFor at start v w s) = labels_of (scope ++ declared_in start) s
  labels_of scope (pCase at v s) = labels_of scope s
  labels_of scope (pDefault at s) = labels_of scope s
  labels_of scope (pLabel n at s) = jump n at at scope ∷ labels_of scope s
  labels_of scope _ = []

  pub labels_of_all : List ℕ → Steps → List Jump
  labels_of_all scope no_steps = []
  labels_of_all scope (steps_and ss s) = labels_of_all scope ss ++ labels_of (scope ++ declared_in ss) s

abbrev mutual
  pub gotos_of : List ℕ → Step → List Jump
  gotos_of scope (pBlock ss) = gotos_of_all scope ss
  gotos_of scope (pIf v s) = gotos_of scope s
  gotos_of scope (pIfElse v s t) = gotos_of scope s ++ gotos_of scope t
  gotos_of scope (pWhile at v s) = gotos_of scope s
  gotos_of scope (pSwitch at k v s) = gotos_of scope s
  gotos_of scope (pDo at s v) = gotos_of scope s
  gotos_of scope (pFor at start v w s) = gotos_of (scope ++ declared_in start) s
  gotos_of scope (pCase at v s) = gotos_of scope s
  gotos_of scope (pDefault at s) = gotos_of scope s
  gotos_of scope (pLabel n at s) = gotos_of scope s
  gotos_of scope (pGoto at n x) = jump n x at scope ∷ []
  gotos_of scope _ = []

  pub gotos_of_all : List ℕ → Steps → List Jump
  gotos_of_all scope no_steps = []
  gotos_of_all scope (steps_and ss s) = gotos_of_all scope ss ++ gotos_of (scope ++ declared_in ss) s

abbrev pub has_name : List ℕ → List Jump → Bool
has_name name labels = list_any (λ l. bytes_eq l.name name) labels

abbrev pub repeated_labels : List Jump → List Jump → List Broken
repeated_labels before [] = []
repeated_labels before (l ∷ ls) = line (has_name l.name before) fault.Label l.named_at ++ repeated_labels (l ∷ before) ls

abbrev pub lost_gotos : List Jump → List Jump → List Broken
lost_gotos labels [] = []
lost_gotos labels (g ∷ gs) = line (not (has_name g.name labels)) fault.Label g.named_at ++ lost_gotos labels gs

-- a jump enters the scope of an object's declaration
abbrev pub enters : (start goal : List ℕ) → Bool
enters start goal = list_any (λ object. not (has start object)) goal

abbrev pub entering_gotos : List Jump → List Jump → List Broken
entering_gotos labels [] = []
entering_gotos labels (g ∷ gs) =
    line (list_any (λ l. bytes_eq l.name g.name && enters g.scope l.scope) labels) fault.JumpIntoScope g.at ++ entering_gotos labels gs

-- ---- `break`, `continue`, `case`, `default` and `return` in their places

abbrev pub is_some : {A : Type 0} → Option A → Bool
is_some None = false
is_some (Some v) = true

-- a case jumps from the innermost switch, which stands in the scope of these objects
abbrev pub case_lines : Option (List ℕ) → List ℕ → ℕ → List Broken
case_lines None scope at = line true fault.BadJump at
case_lines (Some start) scope at = line (enters start scope) fault.JumpIntoScope at

abbrev pub return_line : Option Kind → Option Val → ℕ → List Broken
return_line (Some k) (Some e) at = []
return_line None None at = []
return_line _ _ at = line true fault.BadJump at

module _ (result : Option Kind) where
  -- in a loop, and in a switch with these objects around it
  abbrev mutual
    pub misplaced : Bool → Option (List ℕ) → List ℕ → Step → List Broken
    misplaced l w scope (pBlock ss) = misplaced_all l w scope ss
    misplaced l w scope (pIf v s) = misplaced l w scope s
    misplaced l w scope (pIfElse v s t) = misplaced l w scope s ++ misplaced l w scope t
    misplaced l w scope (pWhile at v s) = misplaced true w scope s
    misplaced l w scope (pSwitch at k v s) = misplaced l (Some scope) scope s
    misplaced l w scope (pDo at s v) = misplaced true w scope s
    misplaced l w scope (pFor at start v x s) = misplaced true w (scope ++ declared_in start) s
    misplaced l w scope (pCase at v s) = case_lines w scope at ++ misplaced l w scope s
    misplaced l w scope (pDefault at s) = case_lines w scope at ++ misplaced l w scope s
    misplaced l w scope (pLabel n at s) = misplaced l w scope s
    misplaced l w scope (pBreak at) = line (not (l || is_some w)) fault.BadJump at
    misplaced l w scope (pContinue at) = line (not l) fault.BadJump at
    misplaced l w scope (pReturn at e) = return_line result e at
    misplaced l w scope _ = []

    pub misplaced_all : Bool → Option (List ℕ) → List ℕ → Steps → List Broken
    misplaced_all l w scope no_steps = []
    misplaced_all l w scope (steps_and ss s) = misplaced_all l w scope ss ++ misplaced l w (scope ++ declared_in ss) s

-- ---- Effects that are not sequenced (C11 6.5 p2), by a rule on objects

abbrev pub object_in : Goal → ℕ
object_in (gObject object) = object
object_in (gElement at object i) = object

-- the objects that a value writes, an array as a whole
abbrev mutual
  pub writes : Val → List ℕ
  writes (vElement k at object i) = writes i
  writes (vConvert k e) = writes e
  writes (vDiscard e) = writes e
  writes (vNegate k at e) = writes e
  writes (vComplement k at e) = writes e
  writes (vNot e) = writes e
  writes (vBinary o k at a b) = writes a ++ writes b
  writes (vBoth a b) = writes a ++ writes b
  writes (vEither a b) = writes a ++ writes b
  writes (vCond k t a b) = writes t ++ writes a ++ writes b
  writes (vAssign k at g e) = object_in g ∷ writes_of_goal g ++ writes e
  writes (vUpdate o k l at g e) = object_in g ∷ writes_of_goal g ++ writes e
  writes (vChange before by k at g) = object_in g ∷ writes_of_goal g
  writes (vCall result at x f es) = writes_of_all es
  writes (vComma es e) = writes_of_all es ++ writes e
  writes _ = []

  pub writes_of_all : Vals → List ℕ
  writes_of_all no_values = []
  writes_of_all (values_and es e) = writes_of_all es ++ writes e

  -- by its index
  pub writes_of_goal : Goal → List ℕ
  writes_of_goal (gObject object) = []
  writes_of_goal (gElement at object i) = writes i

-- the objects that it reads
abbrev mutual
  pub reads : Val → List ℕ
  reads (vRead k object) = object ∷ []
  reads (vWhole object) = object ∷ []
  reads (vElement k at object i) = object ∷ reads i
  reads (vConvert k e) = reads e
  reads (vDiscard e) = reads e
  reads (vNegate k at e) = reads e
  reads (vComplement k at e) = reads e
  reads (vNot e) = reads e
  reads (vBinary o k at a b) = reads a ++ reads b
  reads (vBoth a b) = reads a ++ reads b
  reads (vEither a b) = reads a ++ reads b
  reads (vCond k t a b) = reads t ++ reads a ++ reads b
  reads (vAssign k at g e) = reads_of_goal g ++ reads e
  reads (vUpdate o k l at g e) = object_in g ∷ reads_of_goal g ++ reads e
  reads (vChange before by k at g) = object_in g ∷ reads_of_goal g
  reads (vCall result at x f es) = reads_of_all es
  reads (vComma es e) = reads_of_all es ++ reads e
  reads _ = []

  pub reads_of_all : Vals → List ℕ
  reads_of_all no_values = []
  reads_of_all (values_and es e) = reads_of_all es ++ reads e

  pub reads_of_goal : Goal → List ℕ
  reads_of_goal (gObject object) = []
  reads_of_goal (gElement at object i) = reads i

-- one writes what the other reads or writes
abbrev pub clash : (writes_a reads_a writes_b reads_b : List ℕ) → Bool
clash wa ra wb rb = meets wa (wb ++ rb) || meets wb ra

abbrev pub values_clash : Val → Val → Bool
values_clash a b = clash (writes a) (reads a) (writes b) (reads b)

abbrev pub any_clash : Val → Vals → Bool
any_clash e no_values = false
any_clash e (values_and es x) = values_clash x e || any_clash e es

abbrev pub arguments_clash : Vals → Bool
arguments_clash no_values = false
arguments_clash (values_and es e) = any_clash e es || arguments_clash es

abbrev pub assignment_clash : Goal → Val → Bool
assignment_clash g e =
    clash (writes_of_goal g) (reads_of_goal g) (writes e) (reads e) || (has (writes e) (object_in g) || has (writes_of_goal g) (object_in g))

abbrev mutual
  pub unsequenced : Val → List Broken
  unsequenced (vElement k at object i) = unsequenced i ++ line (has (writes i) object) fault.Unsequenced at
  unsequenced (vConvert k e) = unsequenced e
  unsequenced (vDiscard e) = unsequenced e
  unsequenced (vNegate k at e) = unsequenced e
  unsequenced (vComplement k at e) = unsequenced e
  unsequenced (vNot e) = unsequenced e
  unsequenced (vBinary o k at a b) = unsequenced a ++ unsequenced b ++ line (values_clash a b) fault.Unsequenced at
  unsequenced (vBoth a b) = unsequenced a ++ unsequenced b
  unsequenced (vEither a b) = unsequenced a ++ unsequenced b
  unsequenced (vCond k t a b) = unsequenced t ++ unsequenced a ++ unsequenced b
  unsequenced (vAssign k at g e) = unsequenced_goal g ++ unsequenced e ++ line (assignment_clash g e) fault.Unsequenced at
  unsequenced (vUpdate o k l at g e) = unsequenced_goal g ++ unsequenced e ++ line (assignment_clash g e) fault.Unsequenced at
  unsequenced (vChange before by k at g) = unsequenced_goal g ++ line (has (writes_of_goal g) (object_in g)) fault.Unsequenced at
  unsequenced (vCall result at x f es) = unsequenced_in es ++ line (arguments_clash es) fault.Unsequenced x
  unsequenced (vComma es e) = unsequenced_in es ++ unsequenced e
  unsequenced _ = []

  pub unsequenced_in : Vals → List Broken
  unsequenced_in no_values = []
  unsequenced_in (values_and es e) = unsequenced_in es ++ unsequenced e

  pub unsequenced_goal : Goal → List Broken
  unsequenced_goal (gObject object) = []
  unsequenced_goal (gElement at object i) = unsequenced i

-- ---- Calls

pub record Call : Type 0 where
  pub at : ℕ
  pub to : ℕ

abbrev mutual
  pub calls : Val → List Call
  calls (vElement k at object i) = calls i
  calls (vConvert k e) = calls e
  calls (vDiscard e) = calls e
  calls (vNegate k at e) = calls e
  calls (vComplement k at e) = calls e
  calls (vNot e) = calls e
  calls (vBinary o k at a b) = calls a ++ calls b
  calls (vBoth a b) = calls a ++ calls b
  calls (vEither a b) = calls a ++ calls b
  calls (vCond k t a b) = calls t ++ calls a ++ calls b
  calls (vAssign k at g e) = calls_of_goal g ++ calls e
  calls (vUpdate o k l at g e) = calls_of_goal g ++ calls e
  calls (vChange before by k at g) = calls_of_goal g
  calls (vCall result at x f es) = (record { at = at; to = f }) ∷ calls_in es
  calls (vComma es e) = calls_in es ++ calls e
  calls _ = []

  pub calls_in : Vals → List Call
  calls_in no_values = []
  calls_in (values_and es e) = calls_in es ++ calls e

  pub calls_of_goal : Goal → List Call
  calls_of_goal (gObject object) = []
  calls_of_goal (gElement at object i) = calls i

-- ---- All values of a body, in their order

abbrev pub all_option : Option Val → List Val
all_option None = []
all_option (Some e) = e ∷ []

abbrev pub all_parts : Vals → List Val
all_parts no_values = []
all_parts (values_and es e) = all_parts es ++ e ∷ []

abbrev mutual
  pub all_values : Step → List Val
  all_values (pBegin object es) = all_parts es
  all_values (pBlock ss) = all_of_all ss
  all_values (pEffect e) = e ∷ []
  all_values (pIf e s) = e ∷ all_values s
  all_values (pIfElse e s t) = e ∷ all_values s ++ all_values t
  all_values (pWhile at e s) = e ∷ all_values s
  all_values (pSwitch at k e s) = e ∷ all_values s
  all_values (pDo at s e) = all_values s ++ e ∷ []
  all_values (pFor at start e step s) = all_of_all start ++ all_option e ++ all_option step ++ all_values s
  all_values (pCase at v s) = all_values s
  all_values (pDefault at s) = all_values s
  all_values (pLabel n at s) = all_values s
  all_values (pReturn at e) = all_option e
  all_values _ = []

  pub all_of_all : Steps → List Val
  all_of_all no_steps = []
  all_of_all (steps_and ss s) = all_of_all ss ++ all_values s

abbrev pub unsequenced_of : List Val → List Broken
unsequenced_of [] = []
unsequenced_of (e ∷ es) = unsequenced e ++ unsequenced_of es

abbrev pub calls_of : List Val → List Call
calls_of [] = []
calls_of (e ∷ es) = calls e ++ calls_of es

-- from one function to another by at most so many calls; `graph` has the functions that each calls
abbrev pub leads : List (List ℕ) → ℕ → (start goal : ℕ) → Bool
leads graph zero start goal = nat_eq start goal
leads graph (suc n) start goal = nat_eq start goal || list_any (λ f. leads graph n f goal) (slice_index_or graph start [])

abbrev pub recursion_in : List (List ℕ) → ℕ → List Call → List Broken
recursion_in graph caller [] = []
recursion_in graph caller (c ∷ cs) = line (leads graph (length graph) c.to caller) fault.Recursion c.at ++ recursion_in graph caller cs

abbrev pub recursion : List (List ℕ) → ℕ → List (List Call) → List Broken
recursion graph caller [] = []
recursion graph caller (cs ∷ rest) = recursion_in graph caller cs ++ recursion graph (suc caller) rest

-- ---- Programs

abbrev pub function_faults : Function → List Broken
function_faults f =
    repeated_labels [] (labels_of_all [] f.body)
    ++ lost_gotos (labels_of_all [] f.body) (gotos_of_all [] f.body)
    ++ entering_gotos (labels_of_all [] f.body) (gotos_of_all [] f.body)
    ++ misplaced_all f.result false None [] f.body
    ++ unsequenced_of (all_of_all f.body)

abbrev pub functions_faults : List Function → List Broken
functions_faults [] = []
functions_faults (f ∷ fs) = function_faults f ++ functions_faults fs

abbrev pub calls_of_functions : List Function → List (List Call)
calls_of_functions functions = map (λ f. calls_of (all_of_all f.body)) functions

abbrev pub recursion_faults : List Function → List Broken
recursion_faults functions = recursion (map (λ cs. map (λ c. c.to) cs) (calls_of_functions functions)) 0 (calls_of_functions functions)

-- all rules of these that a typed tree breaks
abbrev pub broken : Program → List Broken
broken program = functions_faults program.functions ++ recursion_faults program.functions
