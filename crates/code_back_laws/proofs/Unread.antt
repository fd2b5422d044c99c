-- No instruction reads the slot by which a function returns: values lie in the slots behind it, and what a call gives lies in two others.
use Rattle.std.proofs.Common.{◌≡◌, ◌⊎◌, inl, inr, ℕ, zero, suc, ◌+◌, ◌<◌, ◌≤◌, max, Bool, true, false, if◌then◌else◌, List, [], ◌∷◌, ◌++◌, length, replicate, Option, Some, None, pos, slice_get, slice_index_or, refl, sym, ap, ◌∙◌, subst, arith}
use Rattle.std.specs.Prelude.{nat_eq}
use Rattle.std.proofs.lemmas.List.{get_or-set_other}
use Rattle.std.proofs.lemmas.Option.{same_Some}
use Rattle.lv_base.specs.declared.kind.Kind.{Kind}
use Rattle.lv_base.specs.declared.kind.Model.{Model}
use Rattle.lv_base.specs.Integers.{converted}
use Rattle.c_run.specs.Operators.{Use, used, dropped}
use Rattle.c_typed.specs.declared.tree.Object as told
use Rattle.c_typed.specs.Tree.{Val, vConstant, vRead, vElement, vWhole, vNothing, vConvert, vDiscard, vNegate, vComplement, vNot, vBinary, vBoth, vEither, vCond, vAssign, vUpdate, vChange, vCall, vReach, vAbort, vDraw, vComma, Goal, gObject, gElement, Vals, no_values, values_and, Step, pDraw, pBegin, pBlock, pEmpty, pEffect, pIf, pIfElse, pWhile, pSwitch, pDo, pFor, pCase, pDefault, pLabel, pGoto, pBreak, pContinue, pReturn, Steps, no_steps, steps_and, Object, Function, Program}
use Rattle.c_typed.specs.Parts.{tree_of}
use Rattle.slot_code.specs.declared.flat.Instruction.{Instruction}
use Rattle.slot_code.specs.declared.flat.Instruction.TheVariants as i
use Rattle.slot_code.specs.Slots.{slots_of, slots_in}
use Rattle.slot_code.specs.Values.{Link, link_of, number_of, parameters_of, bind_code, call_code, is_needed, kept_code, value_code, values_code, drops_code, goal_code, effect_code, test_code}
use Rattle.slot_code.specs.Statements.{Mark, Name, aLabel, aCase, aDefault, cases_code, loop_code, return_code, return_value, marks_of, step_code, steps_code}
use Rattle.slot_code.specs.Programs.{Code, body_end, label_place, with_function, code_behind}
use Rattle.slot_laws.proofs.Ordering.{slots_both}
use Rattle.code_layout.specs.Reading.{reads, span, is_array, on_element, marked, marks_behind}
use Rattle.code_layout.specs.Layout.{slots_from}
use Rattle.cfg_build.specs.Graphs.{program_code}
use Rattle.code_start_laws.proofs.Zeros.{zero-at}
use Rattle.code_flow_laws.specs.Followed.{links_in}
use Rattle.code_back_laws.specs.Back.{ReturnsAreUnread}

-- ---- One slot

module _ (told_objects : List told.Object) (r : ℕ) where
  -- it is none of so many from one on
  abbrev Off : ℕ → ℕ → Type 0
  Off first count = (k : ℕ) → k < count → first + k ≡ r → ⊥

  abbrev pub Unread : Instruction → Type 0
  Unread x = Off (reads told_objects x).first (reads told_objects x).count

  abbrev pub AllUnread : List Instruction → Type 0
  AllUnread [] = Unit {0}
  AllUnread (x ∷ xs) = Unread x × AllUnread xs

  nil : Off 0 0
  nil k lt e = omega (arith, lt)

  far : (first count : ℕ) → r < first → Off first count
  far first count lt k less e = omega (arith, lt, e)

  two : (from : ℕ) → (from + 1 ≡ r → ⊥) → (from + 2 ≡ r → ⊥) → Off (from + 1) 2
  two from a b zero lt e = a (omega (arith, e))
  two from a b (suc zero) lt e = b (omega (arith, e))
  two from a b (suc (suc k)) lt e = omega (arith, lt)

  element-by : (b : Bool) (slot count : ℕ) → r < slot → Off (if b then span slot (count + 1) else span (slot + 1) count).first (if b then span slot (count + 1) else span (slot + 1) count).count
  element-by true slot count lt = far slot (count + 1) lt
  element-by false slot count lt = far (slot + 1) count (omega (arith, lt))

  element : (object slot count : ℕ) → r < slot → Off (on_element told_objects object slot count).first (on_element told_objects object slot count).count
  element object slot count lt = element-by (is_array told_objects object) slot count lt

  abbrev S : List Instruction → Type 0
  S xs = AllUnread xs

  both : (xs ys : List Instruction) → S xs → S ys → S (xs ++ ys)
  both [] ys a b = b
  both (x ∷ xs) ys a b = (a.0, both xs ys a.1 b)

  three : (xs ys zs : List Instruction) → S xs → S ys → S zs → S ((xs ++ ys) ++ zs)
  three xs ys zs a b d = both (xs ++ ys) zs (both xs ys a b) d

  -- what calls give lies elsewhere
  abbrev pub Misses : Option Link → Type 0
  Misses None = Unit {0}
  Misses (Some l) = (l.slot + 1 ≡ r → ⊥) × (l.slot + 2 ≡ r → ⊥)

  bind_unread : (os : List ℕ) (d n : ℕ) → r < d → S (bind_code d os n)
  bind_unread [] d n lt = tt
  bind_unread (o ∷ os) d zero lt = tt
  bind_unread (o ∷ os) d (suc n) lt = (far d 1 lt, bind_unread os (suc d) n (omega (arith, lt)))

  call_unread : (d at n : ℕ) (needed : Bool) (os : List ℕ) (l : Option Link) → r < d → Misses l → S (call_code d at needed os n l)
  call_unread d at n needed os None lt m = (nil, tt)
  call_unread d at n needed os (Some l) lt m = both (bind_code d os n) (i.Call at l.entry l.slot ∷ i.Take d at l.slot needed ∷ []) (bind_unread os d n lt) (nil, (two l.slot m.0 m.1, tt))

  module _ (objects : List Object) (functions : List Function) (links : List Link) (misses : (f : ℕ) → Misses (link_of f links)) where
    abbrev code : Use → ℕ → Val → List Instruction
    code u d e = value_code objects functions links u d e

    kept_unread : (d : ℕ) (k : Option Kind) → S (kept_code d k)
    kept_unread d None = (nil, tt)
    kept_unread d (Some k) = tt

    mutual
      value_unread : (u : Use) (d : ℕ) (e : Val) → r < d → S (code u d e)
      value_unread u d (vConstant k v) lt = (nil, tt)
      value_unread u d (vRead k o) lt = (nil, tt)
      value_unread u d (vElement k at o e) lt = both (code used d e) _ (value_unread used d e lt) (far d 1 lt, tt)
      value_unread u d (vWhole o) lt = (nil, tt)
      value_unread u d vNothing lt = (nil, tt)
      value_unread u d (vConvert k e) lt = both (code used d e) _ (value_unread used d e lt) (far d 1 lt, tt)
      value_unread u d (vDiscard e) lt = both (code dropped d e) _ (value_unread dropped d e lt) (nil, tt)
      value_unread u d (vNegate k at e) lt = both (code used d e) _ (value_unread used d e lt) (far d 1 lt, tt)
      value_unread u d (vComplement k at e) lt = both (code used d e) _ (value_unread used d e lt) (far d 1 lt, tt)
      value_unread u d (vNot e) lt = both (code used d e) _ (value_unread used d e lt) (far d 1 lt, tt)
      value_unread u d (vBinary o k at a b) lt = three (code used d a) (code used (suc d) b) (i.Binary d o k at ∷ []) (value_unread used d a lt) (value_unread used (suc d) b (omega (arith, lt))) (far d 2 lt, tt)
      value_unread u d (vBoth a b) lt =
          three (code used d a) (i.SkipZero d (length (code used d b) + 2) ∷ code used d b) (i.Truth d ∷ i.Jump 1 ∷ i.Constant d (pos 0) ∷ []) (value_unread used d a lt) (far d 1 lt, value_unread used d b lt) (far d 1 lt, (nil, (nil, tt)))
      value_unread u d (vEither a b) lt =
          three (code used d a) (i.SkipZero d 2 ∷ i.Constant d (pos 1) ∷ i.Jump (length (code used d b) + 1) ∷ code used d b) (i.Truth d ∷ []) (value_unread used d a lt) (far d 1 lt, (nil, (nil, value_unread used d b lt))) (far d 1 lt, tt)
      value_unread u d (vCond k e a b) lt =
          let xs : List Instruction = i.SkipZero d (length (code used d a) + 1) ∷ code used d a in
          let ys : List Instruction = i.Jump (length (code used d b)) ∷ code used d b in
          both ((code used d e ++ xs) ++ ys) (kept_code d k) (three (code used d e) xs ys (value_unread used d e lt) (far d 1 lt, value_unread used d a lt) (nil, value_unread used d b lt)) (kept_unread d k)
      value_unread u d (vAssign k at g e) lt = three (goal_code objects functions links d g) (code used (suc d) e) _ (goal_unread d g lt) (value_unread used (suc d) e (omega (arith, lt))) (element _ d 1 lt, tt)
      value_unread u d (vUpdate o k l at g e) lt =
          three (goal_code objects functions links d g) (_ ∷ code used (suc (suc d)) e) _ (goal_unread d g lt) (element _ d 0 lt, value_unread used (suc (suc d)) e (omega (arith, lt))) (element _ d 2 lt, tt)
      value_unread u d (vChange before by k at g) lt = both (goal_code objects functions links d g) _ (goal_unread d g lt) (element _ d 0 lt, tt)
      value_unread u d (vCall result at x f es) lt =
          both (values_code objects functions links d es) _ (values_unread d es lt) (call_unread d at (number_of es) (is_needed u result) (parameters_of (slice_get functions f)) (link_of f links) lt (misses f))
      value_unread u d (vReach at) lt = (nil, tt)
      value_unread u d vAbort lt = (nil, tt)
      value_unread u d (vDraw k) lt = (nil, tt)
      value_unread u d (vComma es e) lt = both (drops_code objects functions links d es) (code used d e) (drops_unread d es lt) (value_unread used d e lt)

      values_unread : (d : ℕ) (es : Vals) → r < d → S (values_code objects functions links d es)
      values_unread d no_values lt = tt
      values_unread d (values_and es e) lt = both (values_code objects functions links d es) (code used (d + number_of es) e) (values_unread d es lt) (value_unread used (d + number_of es) e (omega (arith, lt)))

      drops_unread : (d : ℕ) (es : Vals) → r < d → S (drops_code objects functions links d es)
      drops_unread d no_values lt = tt
      drops_unread d (values_and es e) lt = both (drops_code objects functions links d es) (code dropped d e) (drops_unread d es lt) (value_unread dropped d e lt)

      goal_unread : (d : ℕ) (g : Goal) → r < d → S (goal_code objects functions links d g)
      goal_unread d (gObject o) lt = (nil, tt)
      goal_unread d (gElement at o e) lt = both (code used d e) _ (value_unread used d e lt) (far d 1 lt, tt)

    effect_unread : (d : ℕ) (e : Option Val) → r < d → S (effect_code objects functions links d e)
    effect_unread d None lt = tt
    effect_unread d (Some e) lt = value_unread dropped d e lt

    test_unread : (d : ℕ) (e : Option Val) → r < d → S (test_code objects functions links d e)
    test_unread d None lt = (nil, tt)
    test_unread d (Some e) lt = value_unread used d e lt

    module _ (model : Model) where
      tried_unread : (d place : ℕ) (k : Kind) (x : Name) (cs : List Instruction) → r < d → S cs → S (elim x [ aLabel l ↦ cs | aCase v ↦ i.SkipEqual d (converted k model v) (length cs + 1 + place) ∷ cs | aDefault ↦ cs ])
      tried_unread d place k (aLabel l) cs lt s = s
      tried_unread d place k (aCase v) cs lt s = (far d 1 lt, s)
      tried_unread d place k aDefault cs lt s = s

      cases_unread : (d : ℕ) (k : Kind) (ms : List Mark) → r < d → S (cases_code model d k ms)
      cases_unread d k [] lt = tt
      cases_unread d k (m ∷ ms) lt = tried_unread d m.place k m.name (cases_code model d k ms) lt (cases_unread d k ms lt)

      loop_unread : (at place d : ℕ) (xs ys zs : List Instruction) → r < d → S xs → S ys → S zs → S (loop_code at place d xs ys zs)
      loop_unread at place d xs ys zs lt a b e =
          both ((xs ++ (i.SkipZero d (length ys + length zs + 1) ∷ ys)) ++ zs) (i.Turn at place ∷ []) (three xs (i.SkipZero d (length ys + length zs + 1) ∷ ys) zs a (far d 1 lt, b) e) (nil, tt)

      return_unread : (d place end : ℕ) (o : Option Kind) (e : Option Val) → r < d → S (return_code d place end o (return_value model objects functions links o d e) e)
      return_unread d place end o None lt = (nil, tt)
      return_unread d place end None (Some e) lt = both (code dropped d e) _ (value_unread dropped d e lt) (nil, tt)
      return_unread d place end (Some k) (Some e) lt = both (code used d e) _ (value_unread used d e lt) (nil, (nil, tt))

      module _ (result : Option Kind) (d end : ℕ) (labels : List ℕ → ℕ) (lt : r < d) where
        abbrev coded : ℕ → ℕ → ℕ → Step → List Instruction
        coded b e p s = step_code model objects functions links result d end labels b e p s

        abbrev coded_all : ℕ → ℕ → ℕ → Steps → List Instruction
        coded_all b e p ss = steps_code model objects functions links result d end labels b e p ss

        mutual
          step_unread : (s : Step) (b e p : ℕ) → S (coded b e p s)
          step_unread (pDraw o) b e p = (nil, tt)
          step_unread (pBegin o es) b e p = both (values_code objects functions links d es) _ (values_unread d es lt) (far d (number_of es) lt, tt)
          step_unread (pBlock ss) b e p = steps_unread ss b e p
          step_unread pEmpty b e p = tt
          step_unread (pEffect v) b e p = value_unread dropped d v lt
          step_unread (pIf v s) b e p = both (code used d v) _ (value_unread used d v lt) (far d 1 lt, step_unread s b e _)
          step_unread (pIfElse v s q) b e p = three (code used d v) _ _ (value_unread used d v lt) (far d 1 lt, step_unread s b e _) (nil, step_unread q b e _)
          step_unread (pWhile at v s) b e p = (nil, loop_unread at (suc p) d (code used d v) _ [] lt (value_unread used d v lt) (step_unread s _ _ _) tt)
          step_unread (pDo at s v) b e p = (nil, loop_unread at (suc p) d (code used d v) _ [] lt (value_unread used d v lt) (step_unread s _ _ _) tt)
          step_unread (pFor at start v step s) b e p =
              both (coded_all b e p start) _ (steps_unread start b e p) (nil, loop_unread at _ d (test_code objects functions links d v) _ (effect_code objects functions links d step) lt (test_unread d v lt) (step_unread s _ _ _) (effect_unread d step lt))
          step_unread (pSwitch at k v s) b e p =
              three (code used d v) (cases_code model d k (marks_of model objects functions links result d s)) _ (value_unread used d v lt) (cases_unread d k (marks_of model objects functions links result d s) lt) (nil, step_unread s _ _ _)
          step_unread (pCase at v s) b e p = step_unread s b e p
          step_unread (pDefault at s) b e p = step_unread s b e p
          step_unread (pLabel l at s) b e p = step_unread s b e p
          step_unread (pGoto at l x) b e p = (nil, tt)
          step_unread (pBreak at) b e p = (nil, tt)
          step_unread (pContinue at) b e p = (nil, tt)
          step_unread (pReturn at v) b e p = return_unread d p end result v lt

          steps_unread : (ss : Steps) (b e p : ℕ) → S (coded_all b e p ss)
          steps_unread no_steps b e p = tt
          steps_unread (steps_and ss s) b e p = both (coded_all b e p ss) _ (steps_unread ss b e p) (step_unread s b e _)

  -- ---- Code whose slots are all below

  ends-by : (b : Bool) (slot count most : ℕ) → slot + 1 + count ≤ most → (if b then span slot (count + 1) else span (slot + 1) count).first + (if b then span slot (count + 1) else span (slot + 1) count).count ≤ most
  ends-by true slot count most le = omega (arith, le)
  ends-by false slot count most le = omega (arith, le)

  reads-end : (x : Instruction) → (reads told_objects x).first + (reads told_objects x).count ≤ slots_of x
  reads-end (i.Constant slot v) = omega arith
  reads-end (i.Read slot object) = omega arith
  reads-end (i.Element slot at object count) = omega arith
  reads-end (i.Locate slot at object count) = omega arith
  reads-end (i.Load slot object) = ends-by (is_array told_objects object) slot 0 (suc (suc slot)) (omega arith)
  reads-end (i.Store slot object) = ends-by (is_array told_objects object) slot 1 (suc (suc slot)) (omega arith)
  reads-end (i.Convert slot k) = omega arith
  reads-end (i.Negate slot k at) = omega arith
  reads-end (i.Complement slot k at) = omega arith
  reads-end (i.Not slot) = omega arith
  reads-end (i.Truth slot) = omega arith
  reads-end (i.Binary slot o k at) = omega arith
  reads-end (i.Update slot o k l at object) = ends-by (is_array told_objects object) slot 2 (suc (suc (suc slot))) (omega arith)
  reads-end (i.Change slot before by k at object) = ends-by (is_array told_objects object) slot 0 (suc slot) (omega arith)
  reads-end (i.Draw slot k) = omega arith
  reads-end (i.Fill object k count) = omega arith
  reads-end (i.Begin slot object count values) = omega arith
  reads-end (i.Bind slot object) = omega arith
  reads-end (i.Jump skip) = omega arith
  reads-end (i.Turn at goal) = omega arith
  reads-end (i.SkipZero slot skip) = omega arith
  reads-end (i.SkipEqual slot v skip) = omega arith
  reads-end (i.Call at goal slot) = omega arith
  reads-end (i.Return slot) = omega arith
  reads-end (i.Take slot at from needed) = omega arith
  reads-end (i.Fail kind at) = omega arith
  reads-end i.Stop = omega arith

  before-unread : (xs : List Instruction) → slots_in xs ≤ r → S xs
  before-unread [] le = tt
  before-unread (x ∷ xs) le = (λ k lt e. let h = reads-end x in omega (arith, h, lt, e, le), before-unread xs (omega (arith, le)))

  -- ---- Marks

  marked-off : (read : List Bool) (first n : ℕ) → Off first n → slice_index_or read r false ≡ false → slice_index_or (marked read first n) r false ≡ false
  marked-off read first zero off h = h
  marked-off read first (suc n) off h = get_or-set_other (marked read first n) (first + n) r true false (λ e. off n (omega arith) (sym e)) ∙ marked-off read first n (λ k lt. off k (omega (arith, lt))) h

  behind-off : (xs : List Instruction) (read : List Bool) → S xs → slice_index_or read r false ≡ false → slice_index_or (marks_behind told_objects read xs) r false ≡ false
  behind-off [] read u h = h
  behind-off (x ∷ xs) read u h = behind-off xs (marked read (reads told_objects x).first (reads told_objects x).count) u.1 (marked-off read (reads told_objects x).first (reads told_objects x).count u.0 h)

no-cell : (read : List Bool) (base s : ℕ) → slice_index_or read s false ≡ false → slice_index_or (slots_from base read) s None ≡ None
no-cell [] base s h = refl
no-cell (true ∷ read) base zero h = absurd cc
no-cell (true ∷ read) base (suc s) h = no-cell read (suc base) s h
no-cell (false ∷ read) base zero h = refl
no-cell (false ∷ read) base (suc s) h = no-cell read base s h

-- ---- Functions

abbrev Linked : Link → List Link → Type 0
Linked l [] = ⊥
Linked l (x ∷ xs) = (x ≡ l) ⊎ Linked l xs

linked-by : (k : ℕ) (x : Link) (xs : List Link) (l : Link) → (link_of k xs ≡ Some l → Linked l xs) → (b : Bool) → (if b then Some x else link_of k xs) ≡ Some l → Linked l (x ∷ xs)
linked-by k x xs l later true q = inl (same_Some x l q)
linked-by k x xs l later false q = inr (later q)

linked : (k : ℕ) (ls : List Link) (l : Link) → link_of k ls ≡ Some l → Linked l ls
linked k [] l e = absurd cc
linked k (x ∷ xs) l e = linked-by k x xs l (λ q. linked k xs l q) (nat_eq x.function k) e

misses-by : (told_objects : List told.Object) (r k : ℕ) (x : Link) (xs : List Link) → (x.slot + 1 ≡ r → ⊥) × (x.slot + 2 ≡ r → ⊥) → Misses told_objects r (link_of k xs) → (b : Bool) → Misses told_objects r (if b then Some x else link_of k xs)
misses-by told_objects r k x xs a c true = a
misses-by told_objects r k x xs a c false = c

misses-all : (told_objects : List told.Object) (r k : ℕ) (ls : List Link) → ((q : Link) → Linked q ls → (q.slot + 1 ≡ r → ⊥) × (q.slot + 2 ≡ r → ⊥)) → Misses told_objects r (link_of k ls)
misses-all told_objects r k [] h = tt
misses-all told_objects r k (x ∷ xs) h = misses-by told_objects r k x xs (h x (inl refl)) (misses-all told_objects r k xs (λ q l. h q (inr l))) (nat_eq x.function k)

module _ (told_objects : List told.Object) (program : Program) where
  -- the slots by which functions return are unread, and lie apart from one another
  record Kept (c : Code) : Type 0 where
    pub unread : (l : Link) → Linked l c.links → AllUnread told_objects l.slot c.instructions
    pub below : (l : Link) → Linked l c.links → l.slot + 3 ≤ slots_in c.instructions
    pub apart : (l q : Link) → Linked l c.links → Linked q c.links → (q.slot + 1 ≡ l.slot → ⊥) × (q.slot + 2 ≡ l.slot → ⊥)

  module _ (c : Code) (number : ℕ) (f : Function) (h : Kept c) where
    abbrev slot : ℕ
    slot = slots_in c.instructions

    abbrev place : ℕ
    place = length c.instructions

    abbrev end : ℕ
    end = body_end program c.links slot place f

    abbrev labels : List ℕ → ℕ
    labels = label_place program c.links slot place f

    abbrev body : List Instruction
    body = steps_code program.model program.objects program.functions c.links f.result (suc slot) end labels end end place f.body

    abbrev last : List Instruction
    last = i.Constant (suc (suc slot)) (pos 0) ∷ i.Return slot ∷ []

    abbrev new : Code
    new = with_function program c number (Some f)

    added-unread : (r : ℕ) → r < suc slot → ((q : Link) → Linked q c.links → (q.slot + 1 ≡ r → ⊥) × (q.slot + 2 ≡ r → ⊥)) → AllUnread told_objects r (body ++ last)
    added-unread r lt misses =
        both told_objects r body last
        (steps_unread told_objects r program.objects program.functions c.links (λ k. misses-all told_objects r k c.links misses) program.model f.result (suc slot) end labels lt f.body end end place)
        (nil told_objects r, (nil told_objects r, tt))

    unread-now : (l : Link) → Linked l new.links → AllUnread told_objects l.slot new.instructions
    unread-now l (inl e) =
        subst (λ (z : Link). AllUnread told_objects z.slot new.instructions) e
        (both told_objects slot c.instructions (body ++ last) (before-unread told_objects slot c.instructions (omega arith))
        (added-unread slot (omega arith) (λ q k. let b = h.below q k in (λ e. omega (arith, b, e), λ e. omega (arith, b, e)))))
    unread-now l (inr k) =
        let b = h.below l k in
        both told_objects l.slot c.instructions (body ++ last) (h.unread l k) (added-unread l.slot (omega (arith, b)) (λ q m. h.apart l q k m))

    sizes : (slot ≤ slots_in new.instructions) × (slot + 3 ≤ slots_in new.instructions)
    sizes =
        let m1 : slots_in (body ++ last) ≡ max (slots_in body) (slots_in last) = slots_both body last in
        let m2 : slots_in (c.instructions ++ (body ++ last)) ≡ max (slots_in c.instructions) (slots_in (body ++ last)) = slots_both c.instructions (body ++ last) in
        (omega (arith, m2), omega (arith, m1, m2))

    below-now : (l : Link) → Linked l new.links → l.slot + 3 ≤ slots_in new.instructions
    below-now l (inl e) = subst (λ (z : Link). z.slot + 3 ≤ slots_in new.instructions) e sizes.1
    below-now l (inr k) = let b = h.below l k in let s = sizes.0 in omega (arith, b, s)

    apart-now : (l q : Link) → Linked l new.links → Linked q new.links → (q.slot + 1 ≡ l.slot → ⊥) × (q.slot + 2 ≡ l.slot → ⊥)
    apart-now l q (inl e) (inl d) =
        let a : slot ≡ l.slot = ap (λ (z : Link). z.slot) e in
        let b : slot ≡ q.slot = ap (λ (z : Link). z.slot) d in
        (λ x. omega (arith, a, b, x), λ x. omega (arith, a, b, x))
    apart-now l q (inl e) (inr k) =
        let a : slot ≡ l.slot = ap (λ (z : Link). z.slot) e in
        let b = h.below q k in
        (λ x. omega (arith, a, b, x), λ x. omega (arith, a, b, x))
    apart-now l q (inr k) (inl d) =
        let a : slot ≡ q.slot = ap (λ (z : Link). z.slot) d in
        let b = h.below l k in
        (λ x. omega (arith, a, b, x), λ x. omega (arith, a, b, x))
    apart-now l q (inr k) (inr m) = h.apart l q k m

    added : Kept new
    added = record { unread = unread-now; below = below-now; apart = apart-now }

  with-more : (c : Code) (number : ℕ) (o : Option Function) → Kept c → Kept (with_function program c number o)
  with-more c number None h = h
  with-more c number (Some f) h = added c number f h

  all-kept : (numbers : List ℕ) (c : Code) → Kept c → Kept (code_behind program c numbers)
  all-kept [] c h = h
  all-kept (n ∷ ns) c h = all-kept ns (with_function program c n (slice_get program.functions n)) (with-more c n (slice_get program.functions n) h)

  none-kept : Kept (record { instructions = []; links = [] })
  none-kept = record { unread = λ l k. absurd k; below = λ l k. absurd k; apart = λ l q k m. absurd k }

pub returns-are-unread : ReturnsAreUnread
returns-are-unread t order k l e =
    let kept = all-kept t.objects (tree_of t) order (record { instructions = []; links = [] }) (none-kept t.objects (tree_of t)) in
    let unread = kept.unread l (linked k (links_in t order) l e) in
    no-cell (marks_behind t.objects (replicate (slots_in (program_code t order)) false) (program_code t order)) _ l.slot
    (behind-off t.objects l.slot (program_code t order) (replicate (slots_in (program_code t order)) false) unread (zero-at false (slots_in (program_code t order)) l.slot))
