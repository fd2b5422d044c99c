-- The rules of jumps, of unsequenced effects and of recursion, which are tried on sources that break no other (C11 6.5 p2,
-- 6.8.1, 6.8.6).
use Rattle.std.specs.Prelude.{ℕ, zero, suc, nat_eq, Bool, true, false, ◌&&◌, ◌||◌, not, if◌then◌else◌, List, [], ◌∷◌, ◌++◌, length, map, Option, Some, None, slice_index_or, position, bytes_eq}
use Rattle.std.specs.List.{list_any}
use Rattle.lv_base.specs.declared.kind.Kind.{Kind}
use Rattle.lv_base.specs.declared.fault.SourceFault.TheVariants as fault
use Rattle.c_tree.specs.declared.tree.PrefixOp.TheVariants as pre
use Rattle.c_tree.specs.Tree.{Ex, eName, eNumber, eLetter, eParen, eCall, eIndex, ePostfix, ePrefix, eSizeof, eCast, eBinary, eCond, eAssign, eComma, Parts, no_parts, parts_and, named, Initial, iNothing, iValue, iList, Decs, no_declarators, declarators_and, Declaration, declares, Head, head, ForStart, forDeclares, forExpr, ForHead, for_head, St, sDeclaration, sBlock, sExpr, sIf, sIfElse, sWhile, sSwitch, sDo, sFor, sCase, sDefault, sLabel, sGoto, sBreak, sContinue, sReturn, Sts, no_statements, statements_and}
use Rattle.c_meaning.specs.Bindings.{Env, Entity, aFunctionOf, object_number, declared_at, object_of, entity_of}
use Rattle.c_run.specs.Operators.{is_logical, is_plain}
use Rattle.c_meaning.specs.Value.{base_of}
use Rattle.c_run.specs.Breaking.{Broken, line}
use Rattle.c_meaning.specs.Program.{Function}

-- ---- Labels, and the objects in whose scope they stand (C11 6.2.1 p7, 6.8.1 p3, 6.8.6.1 p1)

-- a label, or a goto: its name with the offset, the offset of its first token, and the objects declared before it in the
-- blocks around it
pub record Jump : Type 0 where
  pub name : List ℕ
  pub named_at : ℕ
  pub at : ℕ
  pub scope : List ℕ

abbrev pub jump : List ℕ → ℕ → ℕ → List ℕ → Jump
jump name named_at at scope = record { name = name; named_at = named_at; at = at; scope = scope }

abbrev pub one : Option ℕ → List ℕ
one None = []
one (Some object) = object ∷ []

abbrev pub has : List ℕ → ℕ → Bool
has xs y = list_any (nat_eq y) xs

abbrev pub keyword : Head → ℕ
keyword (head at a e b) = at

abbrev pub is_some : {A : Type 0} → Option A → Bool
is_some None = false
is_some (Some v) = true

-- a jump enters the scope of an object's declaration; C11 6.8.6.1 p1 forbids it for arrays of variable length, and this
-- profile for each object
abbrev pub enters : (start goal : List ℕ) → Bool
enters start goal = list_any (λ object. not (has start object)) goal

-- a case jumps from the innermost switch, which stands in the scope of these objects
abbrev pub case_lines : Option (List ℕ) → List ℕ → ℕ → List Broken
case_lines None scope at = line true fault.BadJump at
case_lines (Some start) scope at = line (enters start scope) fault.JumpIntoScope at

abbrev pub return_line : Option Kind → Option Ex → ℕ → List Broken
return_line (Some k) (Some e) at = []
return_line None None at = []
return_line _ _ at = line true fault.BadJump at

module _ (env : Env) where
  -- the objects that a declaration in a block declares
  abbrev pub objects_of : Decs → List ℕ
  objects_of no_declarators = []
  objects_of (declarators_and ds c (named n at) f ats i) = objects_of ds ++ one (object_number (declared_at env at))

  abbrev pub objects_in : Declaration → List ℕ
  objects_in (declares ws ds b) = objects_of ds

  abbrev pub declared_by : St → List ℕ
  declared_by (sDeclaration d) = objects_in d
  declared_by _ = []

  -- those that statements in a row declare
  abbrev pub declared_in : Sts → List ℕ
  declared_in no_statements = []
  declared_in (statements_and ss s) = declared_in ss ++ declared_by s

  abbrev pub declared_start : ForStart → List ℕ
  declared_start (forDeclares d) = objects_in d
  declared_start (forExpr e at) = []

  abbrev pub declared_for : ForHead → List ℕ
  declared_for (for_head at a start test x step b) = declared_start start

  abbrev mutual
    pub labels_of : List ℕ → St → List Jump
    labels_of scope (sBlock a ss b) = labels_of_all scope ss
    labels_of scope (sIf h s) = labels_of scope s
    labels_of scope (sIfElse h s at t) = labels_of scope s ++ labels_of scope t
    labels_of scope (sWhile h s) = labels_of scope s
    labels_of scope (sSwitch h s) = labels_of scope s
    labels_of scope (sDo at s h b) = labels_of scope s
    labels_of scope (sFor h s) = labels_of (scope ++ declared_for h) s
    labels_of scope (sCase at e b s) = labels_of scope s
    labels_of scope (sDefault at b s) = labels_of scope s
    labels_of scope (sLabel n at b ats s) = jump n at at scope ∷ labels_of scope s
    labels_of scope _ = []

    pub labels_of_all : List ℕ → Sts → List Jump
    labels_of_all scope no_statements = []
    labels_of_all scope (statements_and ss s) = labels_of_all scope ss ++ labels_of (scope ++ declared_in ss) s

  abbrev mutual
    pub gotos_of : List ℕ → St → List Jump
    gotos_of scope (sBlock a ss b) = gotos_of_all scope ss
    gotos_of scope (sIf h s) = gotos_of scope s
    gotos_of scope (sIfElse h s at t) = gotos_of scope s ++ gotos_of scope t
    gotos_of scope (sWhile h s) = gotos_of scope s
    gotos_of scope (sSwitch h s) = gotos_of scope s
    gotos_of scope (sDo at s h b) = gotos_of scope s
    gotos_of scope (sFor h s) = gotos_of (scope ++ declared_for h) s
    gotos_of scope (sCase at e b s) = gotos_of scope s
    gotos_of scope (sDefault at b s) = gotos_of scope s
    gotos_of scope (sLabel n at b ats s) = gotos_of scope s
    gotos_of scope (sGoto at n x b) = jump n x at scope ∷ []
    gotos_of scope _ = []

    pub gotos_of_all : List ℕ → Sts → List Jump
    gotos_of_all scope no_statements = []
    gotos_of_all scope (statements_and ss s) = gotos_of_all scope ss ++ gotos_of (scope ++ declared_in ss) s

  -- ---- `break`, `continue`, `case`, `default` and `return` in their places (C11 6.8.1 p2, 6.8.6.2 p1, 6.8.6.3 p1, 6.8.6.4 p1)

  module _ (result : Option Kind) where
    -- in a loop, and in a switch with these objects around it
    abbrev mutual
      pub misplaced : Bool → Option (List ℕ) → List ℕ → St → List Broken
      misplaced l w scope (sBlock a ss b) = misplaced_all l w scope ss
      misplaced l w scope (sIf h s) = misplaced l w scope s
      misplaced l w scope (sIfElse h s at t) = misplaced l w scope s ++ misplaced l w scope t
      misplaced l w scope (sWhile h s) = misplaced true w scope s
      misplaced l w scope (sSwitch h s) = misplaced l (Some scope) scope s
      misplaced l w scope (sDo at s h b) = misplaced true w scope s
      misplaced l w scope (sFor h s) = misplaced true w (scope ++ declared_for h) s
      misplaced l w scope (sCase at e b s) = case_lines w scope at ++ misplaced l w scope s
      misplaced l w scope (sDefault at b s) = case_lines w scope at ++ misplaced l w scope s
      misplaced l w scope (sLabel n at b ats s) = misplaced l w scope s
      misplaced l w scope (sBreak at b) = line (not (l || is_some w)) fault.BadJump at
      misplaced l w scope (sContinue at b) = line (not l) fault.BadJump at
      misplaced l w scope (sReturn at e b) = return_line result e at
      misplaced l w scope _ = []

      pub misplaced_all : Bool → Option (List ℕ) → List ℕ → Sts → List Broken
      misplaced_all l w scope no_statements = []
      misplaced_all l w scope (statements_and ss s) = misplaced_all l w scope ss ++ misplaced l w (scope ++ declared_in ss) s

abbrev pub has_name : List ℕ → List Jump → Bool
has_name name labels = list_any (λ l. bytes_eq l.name name) labels

abbrev pub repeated_labels : List Jump → List Jump → List Broken
repeated_labels before [] = []
repeated_labels before (l ∷ ls) = line (has_name l.name before) fault.Label l.named_at ++ repeated_labels (l ∷ before) ls

abbrev pub lost_gotos : List Jump → List Jump → List Broken
lost_gotos labels [] = []
lost_gotos labels (g ∷ gs) = line (not (has_name g.name labels)) fault.Label g.named_at ++ lost_gotos labels gs

abbrev pub entering_gotos : List Jump → List Jump → List Broken
entering_gotos labels [] = []
entering_gotos labels (g ∷ gs) =
    line (list_any (λ l. bytes_eq l.name g.name && enters g.scope l.scope) labels) fault.JumpIntoScope g.at ++ entering_gotos labels gs

-- ---- Effects that are not sequenced (C11 6.5 p2), by a rule on names

abbrev pub meets : List ℕ → List ℕ → Bool
meets xs ys = list_any (λ x. list_any (nat_eq x) ys) xs

module _ (env : Env) where
  -- The objects that an expression writes, an array as a whole. Operands of `sizeof` and the bodies of called functions are
  -- left aside.
  abbrev mutual
    pub writes : Ex → List ℕ
    writes (eName n at) = []
    writes (eNumber v f at) = []
    writes (eLetter v at) = []
    writes (eParen a e b) = writes e
    writes (eCall f a es b) = writes_of_parts es
    writes (eIndex a x i y) = writes i
    writes (ePostfix e c at) = one (object_in e) ++ writes e
    writes (ePrefix pre.Increment at e) = one (object_in e) ++ writes e
    writes (ePrefix pre.Decrement at e) = one (object_in e) ++ writes e
    writes (ePrefix pre.Sizeof at e) = []
    writes (ePrefix o at e) = writes e
    writes (eSizeof at a ws b) = []
    writes (eCast a ws b e) = writes e
    writes (eBinary a o at b) = writes a ++ writes b
    writes (eCond c x a y b) = writes c ++ writes a ++ writes b
    writes (eAssign a o at b) = one (object_in a) ++ writes a ++ writes b
    writes (eComma es) = writes_of_parts es

    pub writes_of_parts : Parts → List ℕ
    writes_of_parts no_parts = []
    writes_of_parts (parts_and es c e) = writes_of_parts es ++ writes e

    -- the object of a target: a scalar, or an element's array
    pub object_in : Ex → Option ℕ
    object_in (eName n at) = object_of env n at
    object_in (eIndex a x i y) = base_of env a
    object_in (eParen a e b) = object_in e
    object_in (ePrefix pre.Extension at e) = object_in e
    object_in _ = None

  -- the objects that it reads; `=` doesn't read its target, and an array that stands by itself counts as read
  abbrev mutual
    pub reads : Ex → List ℕ
    reads (eName n at) = one (object_of env n at)
    reads (eNumber v f at) = []
    reads (eLetter v at) = []
    reads (eParen a e b) = reads e
    reads (eCall f a es b) = reads_of_parts es
    reads (eIndex a x i y) = one (base_of env a) ++ reads i
    reads (ePostfix e c at) = reads e
    reads (ePrefix pre.Sizeof at e) = []
    reads (ePrefix o at e) = reads e
    reads (eSizeof at a ws b) = []
    reads (eCast a ws b e) = reads e
    reads (eBinary a o at b) = reads a ++ reads b
    reads (eCond c x a y b) = reads c ++ reads a ++ reads b
    reads (eAssign a o at b) = (if is_plain o then reads_of_target a else reads a) ++ reads b
    reads (eComma es) = reads_of_parts es

    pub reads_of_parts : Parts → List ℕ
    reads_of_parts no_parts = []
    reads_of_parts (parts_and es c e) = reads_of_parts es ++ reads e

    -- what finding a target reads
    pub reads_of_target : Ex → List ℕ
    reads_of_target (eIndex a x i y) = reads i
    reads_of_target (eParen a e b) = reads_of_target e
    reads_of_target (ePrefix pre.Extension at e) = reads_of_target e
    reads_of_target _ = []

  -- one writes what the other reads or writes
  abbrev pub clash : (writes_a reads_a writes_b reads_b : List ℕ) → Bool
  clash wa ra wb rb = meets wa (wb ++ rb) || meets wb ra

  abbrev pub parts_clash : Ex → Ex → Bool
  parts_clash a b = clash (writes a) (reads a) (writes b) (reads b)

  abbrev pub any_clash : Ex → Parts → Bool
  any_clash e no_parts = false
  any_clash e (parts_and es c x) = parts_clash x e || any_clash e es

  abbrev pub arguments_clash : Parts → Bool
  arguments_clash no_parts = false
  arguments_clash (parts_and es c e) = any_clash e es || arguments_clash es

  -- a target writes by its index alone, and it is not read by `=`
  abbrev pub assignment_clash : Ex → Ex → Bool
  assignment_clash a b =
      clash (writes a) (reads_of_target a) (writes b) (reads b) || (meets (one (object_in a)) (writes b) || meets (one (object_in a)) (writes a))

  abbrev mutual
    pub unsequenced : Ex → List Broken
    unsequenced (eName n at) = []
    unsequenced (eNumber v f at) = []
    unsequenced (eLetter v at) = []
    unsequenced (eParen a e b) = unsequenced e
    unsequenced (eCall f a es b) = unsequenced_in es ++ line (arguments_clash es) fault.Unsequenced a
    unsequenced (eIndex a x i y) = unsequenced i ++ line (meets (one (base_of env a)) (writes i)) fault.Unsequenced x
    unsequenced (ePostfix e c at) = unsequenced_target e ++ line (meets (one (object_in e)) (writes e)) fault.Unsequenced at
    unsequenced (ePrefix pre.Increment at e) = unsequenced_target e ++ line (meets (one (object_in e)) (writes e)) fault.Unsequenced at
    unsequenced (ePrefix pre.Decrement at e) = unsequenced_target e ++ line (meets (one (object_in e)) (writes e)) fault.Unsequenced at
    unsequenced (ePrefix pre.Sizeof at e) = []
    unsequenced (ePrefix o at e) = unsequenced e
    unsequenced (eSizeof at a ws b) = []
    unsequenced (eCast a ws b e) = unsequenced e
    unsequenced (eBinary a o at b) = unsequenced a ++ unsequenced b ++ line (not (is_logical o) && parts_clash a b) fault.Unsequenced at
    unsequenced (eCond c x a y b) = unsequenced c ++ unsequenced a ++ unsequenced b
    unsequenced (eAssign a o at b) = unsequenced_target a ++ unsequenced b ++ line (assignment_clash a b) fault.Unsequenced at
    unsequenced (eComma es) = unsequenced_in es

    pub unsequenced_in : Parts → List Broken
    unsequenced_in no_parts = []
    unsequenced_in (parts_and es c e) = unsequenced_in es ++ unsequenced e

    -- an element that is written is no element that is only read
    pub unsequenced_target : Ex → List Broken
    unsequenced_target (eIndex a x i y) = unsequenced i
    unsequenced_target (eParen a e b) = unsequenced_target e
    unsequenced_target (ePrefix pre.Extension at e) = unsequenced_target e
    unsequenced_target _ = []

-- ---- Calls (the profile has no recursion)

-- a call: the offset of the called name, and the function's number
pub record Call : Type 0 where
  pub at : ℕ
  pub to : ℕ

abbrev pub calls_to : ℕ → Option ℕ → List Call
calls_to at None = []
calls_to at (Some number) = (record { at = at; to = number }) ∷ []

module _ (env : Env) (bodies : List (List ℕ)) where
  abbrev pub called : Entity → List ℕ → ℕ → List Call
  called (aFunctionOf result parameters) n at = calls_to at (position (λ m. bytes_eq m n) bodies)
  called _ n at = []

  abbrev mutual
    pub calls : Ex → List Call
    calls (eName n at) = []
    calls (eNumber v f at) = []
    calls (eLetter v at) = []
    calls (eParen a e b) = calls e
    calls (eCall f a es b) = called_by f ++ calls_in es
    calls (eIndex a x i y) = calls i
    calls (ePostfix e c at) = calls e
    calls (ePrefix pre.Sizeof at e) = []
    calls (ePrefix o at e) = calls e
    calls (eSizeof at a ws b) = []
    calls (eCast a ws b e) = calls e
    calls (eBinary a o at b) = calls a ++ calls b
    calls (eCond c x a y b) = calls c ++ calls a ++ calls b
    calls (eAssign a o at b) = calls a ++ calls b
    calls (eComma es) = calls_in es

    pub calls_in : Parts → List Call
    calls_in no_parts = []
    calls_in (parts_and es c e) = calls_in es ++ calls e

    pub called_by : Ex → List Call
    called_by (eName n at) = called (entity_of env n at) n at
    called_by _ = []

-- ---- All expressions of a body, in their order

abbrev pub all_parts : Parts → List Ex
all_parts no_parts = []
all_parts (parts_and es c e) = all_parts es ++ e ∷ []

abbrev pub all_option : Option Ex → List Ex
all_option None = []
all_option (Some e) = e ∷ []

abbrev pub all_initial : Initial → List Ex
all_initial iNothing = []
all_initial (iValue at e) = e ∷ []
all_initial (iList at a es c b) = all_parts es

abbrev pub all_declarators : Decs → List Ex
all_declarators no_declarators = []
all_declarators (declarators_and ds c n f ats i) = all_declarators ds ++ all_initial i

abbrev pub all_declaration : Declaration → List Ex
all_declaration (declares ws ds b) = all_declarators ds

abbrev pub all_head : Head → List Ex
all_head (head at a e b) = e ∷ []

abbrev pub all_start : ForStart → List Ex
all_start (forDeclares d) = all_declaration d
all_start (forExpr e at) = all_option e

abbrev pub all_for : ForHead → List Ex
all_for (for_head at a start test x step b) = all_start start ++ all_option test ++ all_option step

-- constants have no effects and no calls, and are left out
abbrev mutual
  pub all_expressions : St → List Ex
  all_expressions (sDeclaration d) = all_declaration d
  all_expressions (sBlock a ss b) = all_of_all ss
  all_expressions (sExpr e at) = e ∷ []
  all_expressions (sIf h s) = all_head h ++ all_expressions s
  all_expressions (sIfElse h s at t) = all_head h ++ all_expressions s ++ all_expressions t
  all_expressions (sWhile h s) = all_head h ++ all_expressions s
  all_expressions (sSwitch h s) = all_head h ++ all_expressions s
  all_expressions (sDo at s h b) = all_expressions s ++ all_head h
  all_expressions (sFor h s) = all_for h ++ all_expressions s
  all_expressions (sCase at e b s) = all_expressions s
  all_expressions (sDefault at b s) = all_expressions s
  all_expressions (sLabel n at b ats s) = all_expressions s
  all_expressions (sReturn at e b) = all_option e
  all_expressions _ = []

  pub all_of_all : Sts → List Ex
  all_of_all no_statements = []
  all_of_all (statements_and ss s) = all_of_all ss ++ all_expressions s

abbrev pub unsequenced_of : Env → List Ex → List Broken
unsequenced_of env [] = []
unsequenced_of env (e ∷ es) = unsequenced env e ++ unsequenced_of env es

abbrev pub calls_of : Env → List (List ℕ) → List Ex → List Call
calls_of env bodies [] = []
calls_of env bodies (e ∷ es) = calls env bodies e ++ calls_of env bodies es

-- ---- Cycles of calls

-- from one function to another by at most so many calls; `graph` has the functions that each calls
abbrev pub leads : List (List ℕ) → ℕ → (start goal : ℕ) → Bool
leads graph zero start goal = nat_eq start goal
leads graph (suc n) start goal = nat_eq start goal || list_any (λ f. leads graph n f goal) (slice_index_or graph start [])

-- a call lies on a cycle where what it calls leads back to the caller
abbrev pub recursion_in : List (List ℕ) → ℕ → List Call → List Broken
recursion_in graph caller [] = []
recursion_in graph caller (c ∷ cs) = line (leads graph (length graph) c.to caller) fault.Recursion c.at ++ recursion_in graph caller cs

abbrev pub recursion : List (List ℕ) → ℕ → List (List Call) → List Broken
recursion graph caller [] = []
recursion graph caller (cs ∷ rest) = recursion_in graph caller cs ++ recursion graph (suc caller) rest

-- ---- Functions

abbrev pub function_faults : Env → Function → List Broken
function_faults env f =
    repeated_labels [] (labels_of_all env [] f.body)
    ++ lost_gotos (labels_of_all env [] f.body) (gotos_of_all env [] f.body)
    ++ entering_gotos (labels_of_all env [] f.body) (gotos_of_all env [] f.body)
    ++ misplaced_all env f.result false None [] f.body
    ++ unsequenced_of env (all_of_all f.body)

abbrev pub functions_faults : Env → List Function → List Broken
functions_faults env [] = []
functions_faults env (f ∷ fs) = function_faults env f ++ functions_faults env fs

abbrev pub recursion_faults : Env → List Function → List Broken
recursion_faults env functions =
    let calls = map (λ f. calls_of env (map (λ g. g.name) functions) (all_of_all f.body)) functions in
    recursion (map (λ cs. map (λ c. c.to) cs) calls) 0 calls

abbrev pub control_faults : Env → List Function → List Broken
control_faults env functions = functions_faults env functions ++ recursion_faults env functions
