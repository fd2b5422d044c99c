-- The code of a statement does what the typed run says, from its start and from each place in it.
use Rattle.std.proofs.Common.{◌≡◌, ℕ, suc, ◌+◌, ◌≤◌, List, [], ◌∷◌, ◌++◌, length, Option, Some, None, ℤ, pos, slice_get, refl, sym, ap, ◌∙◌, subst, arith}
use Rattle.std.specs.Prelude.{map}
use Rattle.lv_base.specs.declared.kind.Kind.{Kind}
use Rattle.c_run.specs.Run.{State, Got, Value, Run, give, after, store_all, padded, draw_all}
use Rattle.c_run.specs.Operators.{Use, used, dropped}
use Rattle.c_run.specs.Loops.{Place, toLabel, toCase, toDefault, From, Start, Seek, Exit, Normal, Absent, loop}
use Rattle.c_typed.specs.Tree.{Val, Step, pDraw, pBegin, pBlock, pEmpty, pEffect, pIf, pIfElse, pWhile, pSwitch, pDo, pFor, pCase, pDefault, pLabel, pGoto, pBreak, pContinue, pReturn, Steps, no_steps, steps_and}
use Rattle.c_typed.specs.Run as typed
use Rattle.c_typed.specs.Rules.{all_values, all_of_all, all_option}
use Rattle.typed_range_laws.specs.Keeping as keeping
use Rattle.slot_code.specs.declared.flat.Instruction.{Instruction}
use Rattle.slot_code.specs.declared.flat.Instruction.TheVariants as i
use Rattle.slot_code.specs.Slots.{slots_through}
use Rattle.slot_code.specs.Values.{number_of, count_of, value_code, values_code, effect_code, test_code}
use Rattle.slot_code.specs.Statements.{Mark, moved, cases_code, loop_code, loop_size, return_code, return_size, return_value, marks_of, marks_in, size_of, size_in, step_code, steps_code, aCase, aLabel, aDefault}
use Rattle.slot_code.specs.Machine.{filled}
use Rattle.slot_turn_laws.proofs.Running.{still_here, still_filled, still_store}
use Rattle.slot_turn_laws.proofs.Lying.{Met, ends, ends_value, seq, Frame, At, at_moved, split, from, there_from, leads, Keeps, keeps_on, Does, plain}
use Rattle.slot_turn_laws.proofs.Pieces.{single}
use Rattle.slot_laws.proofs.Calling.{HoldsAll, held_through}
use Rattle.slot_turn_laws.proofs.Calling.{Called}
use Rattle.slot_laws.proofs.Valuing.{after_both}
use Rattle.slot_turn_laws.proofs.Valuing.{drop, no_drops_do, value_does, values_do}
use Rattle.slot_laws.proofs.Sizes.{step_length, steps_length}
use Rattle.slot_laws.proofs.Seeking.{sought, is_mark}
use Rattle.slot_turn_laws.proofs.Leaving.{Behind, Leaves, Sought, Starts, Seeks, Gives, Leads, Round, round, again, if_starts, else_starts}
use Rattle.slot_laws.proofs.Linking.{ValuesLinked, values_first, values_last, parts_linked}
use Rattle.slot_turn_laws.proofs.Entering as enter

module _ (c : Frame) (s0 : List ℤ) (end : ℕ) (labels : List ℕ → ℕ) (n : ℕ) where
  abbrev d : ℕ
  d = suc c.low

  fill_starts : (b e p object count : ℕ) (kind : Kind) →
      Starts c s0 end labels n b e p (i.Fill object kind count ∷ []) 1 (λ st. after (draw_all c.inputs c.model kind count st) (λ vs st1. after (store_all object vs st1) (λ v. give Normal)))
  fill_starts b e p object count kind t q s st k tn eq l ro tu ke nb lv =
      let g : Got (Unit {0}) = filled c.model c.compute c.inputs object kind count st in
      seq c.asker (Unit {0}) Exit g (λ v. give Normal) k (from c p s st)
      (plain c t p q d s st (i.Fill object kind count) g (λ v st1. ends c.asker (Value Normal st1) k) (omega (arith, eq)) l.0 refl (still_filled c.model c.compute c.inputs object kind count st) tu
      (λ v s1 st1 tu1 k1 is1. nb s1 st1 tu1 (keeps_on c d s0 s s1 ke k1) ∙ sym (ends_value c.asker Normal st1 k)))
      ∙ ap (λ x. ends c.asker x k) (after_both (List ℤ) (Unit {0}) Exit (draw_all c.inputs c.model kind count st) (λ vs. store_all object vs) (λ v. give Normal))

  begin_starts : (b e p object count m : ℕ) (xs : List Instruction) (g : Run (List ℤ)) → ((t : ℕ) → t ≤ n → Does c t (List ℤ) (HoldsAll m d) d xs g) →
      Starts c s0 end labels n b e p (xs ++ i.Begin d object count m ∷ []) (length xs + 1) (λ st. after (g st) (λ vs st1. after (store_all object (padded count (map (c.way.keep object) vs)) st1) (λ v. give Normal)))
  begin_starts b e p object count m xs g runs t q s st k tn eq l ro tu ke nb lv =
      let r = split c p xs (i.Begin d object count m ∷ []) l in
      let f : List ℤ → Run Exit = λ vs st1. after (store_all object (padded count (map (c.way.keep object) vs)) st1) (λ v. give Normal) in
      seq c.asker (List ℤ) Exit (g st) f k (from c p s st) (runs t tn p (p + length xs) s st (λ vs st1. ends c.asker (f vs st1) k) refl r.0 tu
      (λ vs s1 st1 tu1 k1 is1.
      let done : List ℤ → Got (Unit {0}) = λ ws. store_all object (padded count ws) st1 in
      seq c.asker (Unit {0}) Exit (done (map (c.way.keep object) vs)) (λ v. give Normal) k (from c (p + length xs) s1 st1)
      (plain c t (p + length xs) q d s1 st1 (i.Begin d object count m) (done (slots_through (c.way.keep object) s1 d m)) (λ v st2. ends c.asker (Value Normal st2) k) (omega (arith, eq)) r.1.0 refl (still_store st1 object (padded count (slots_through (c.way.keep object) s1 d m))) tu1
      (λ v s2 st2 tu2 k2 is2. nb s2 st2 tu2 (keeps_on c d s0 s1 s2 (keeps_on c d s0 s s1 ke k1) k2) ∙ sym (ends_value c.asker Normal st2 k))
      ∙ ap (λ ws. ends c.asker (done ws) (λ v st2. ends c.asker (Value Normal st2) k)) (held_through (c.way.keep object) d m s1 vs is1.0 is1.1))))

  -- nothing is sought in a statement without parts
  absent : (b e p m : ℕ) (xs : List Instruction) → Seeks c s0 end labels n b e p xs m [] (λ pl. give Absent)
  absent b e p m xs pl t q s st k tn eq l ro tu ke nb lv = refl

  resized : (b e p m m' : ℕ) (xs : List Instruction) (f : Run Exit) → m ≡ m' → Starts c s0 end labels n b e p xs m f → Starts c s0 end labels n b e p xs m' f
  resized b e p m m' xs f eq h = subst (λ x. Starts c s0 end labels n b e p xs x f) eq h

  resized_seeks : (b e p m m' : ℕ) (xs : List Instruction) (ms : List Mark) (f : Place → Run Exit) → m ≡ m' → Seeks c s0 end labels n b e p xs m ms f → Seeks c s0 end labels n b e p xs m' ms f
  resized_seeks b e p m m' xs ms f eq h = subst (λ x. Seeks c s0 end labels n b e p xs x ms f) eq h

  -- ---- Loops

  module _ (b e w m at E C B : ℕ) (xs ys zs : List Instruction) (g : Run ℤ) (f : Run Exit) (h : Run (Unit {0})) (len : length ys ≡ m) (eb : B ≡ suc w + length xs + 1) (ec : C ≡ B + m) (ee : E ≡ suc (C + length zs))
      (gives : Gives c s0 end labels n xs g) (body : Starts c s0 end labels n E C B ys m f) (runs : Leads c s0 end labels n zs h) where
    sized_body : Starts c s0 end labels n E C B ys (length ys) f
    sized_body = resized E C B m (length ys) ys f (sym len) body

    rounds : At c (suc w) (loop_code at (suc w) d xs ys zs) → Round c s0 end labels n at (suc w) E C B (C + length zs) xs ys zs
    rounds l = round c s0 end labels n at (suc w) E C B xs ys zs l eb (omega (arith, ec, len)) ee

    loop_starts : Starts c s0 end labels n b e w (i.Turn at (suc w) ∷ loop_code at (suc w) d xs ys zs) (1 + loop_size (length xs) m (length zs)) (loop at n g f h)
    loop_starts t q s st k tn eq l ro tu ke nb lv =
        enter.turn_starts c s0 end labels n at (suc w) E C B (C + length zs) b e xs ys zs g f h (rounds l.1) gives sized_body runs (omega (arith, eq, eb, ec, ee, ro.before_end)) w t s st k tn l.0 tu ke
        (subst (λ x. Behind c s0 end labels t k x Normal) (omega (arith, eq, eb, ec, ee)) nb) lv

    -- from the body on
    round_starts : (t q : ℕ) (s : List ℤ) (st : State) (k : Exit → State → Met) → t ≤ n → q ≡ E → At c (suc w) (loop_code at (suc w) d xs ys zs) → q ≤ end → st.turns ≤ t → Keeps c d s0 s → Behind c s0 end labels t k q Normal → Leaves c s0 end labels t k b e →
        from c B s st ≡ ends c.asker (after (f st) (again c s0 end labels n h (loop at n g f h))) k
    round_starts t q s st k tn eq l ro tu ke nb lv =
        enter.body_starts c s0 end labels n at (suc w) E C B (C + length zs) b e xs ys zs g f h (rounds l) gives sized_body runs (omega (arith, eq, ro)) t s st k tn tu ke
        (subst (λ x. Behind c s0 end labels t k x Normal) eq nb) lv

    round_seeks : (ms : List Mark) (fs : Place → Run Exit) → Seeks c s0 end labels n E C B ys m ms fs → (pl : Place) (t q : ℕ) (s : List ℤ) (st : State) (k : Exit → State → Met) → t ≤ n → q ≡ E → At c (suc w) (loop_code at (suc w) d xs ys zs) → q ≤ end → st.turns ≤ t → Keeps c d s0 s →
        Behind c s0 end labels t k q Normal → Leaves c s0 end labels t k b e → Sought c s0 end labels k B (sought c.model c.way pl ms) (after (fs pl st) (again c s0 end labels n h (loop at n g f h))) s st
    round_seeks ms fs seeks pl t q s st k tn eq l ro tu ke nb lv =
        enter.body_seeks c s0 end labels n at (suc w) E C B (C + length zs) b e xs ys zs g f h (rounds l) gives sized_body runs (omega (arith, eq, ro)) ms fs (resized_seeks E C B m (length ys) ys ms fs (sym len) seeks) pl t s st k tn tu ke
        (subst (λ x. Behind c s0 end labels t k x Normal) eq nb) lv

-- ---- All statements

module _ (c : Frame) (s0 : List ℤ) (end : ℕ) (labels : List ℕ → ℕ) (n : ℕ) (hc : (t : ℕ) → t ≤ n → Called c t) (result : Option Kind) where
  abbrev slot : ℕ
  slot = suc c.low

  abbrev code : Use → Val → List Instruction
  code u e = value_code c.objects c.functions c.links u slot e

  abbrev value : Use → Val → Run ℤ
  value u e = keeping.value c.model c.objects c.compute c.way c.inputs c.call u e

  abbrev run : Step → From → Run Exit
  run s from = keeping.exec c.model c.objects c.compute c.way c.inputs c.call result n s from

  abbrev run_all : Steps → From → Run Exit
  run_all ss from = keeping.exec_all c.model c.objects c.compute c.way c.inputs c.call result n ss from

  abbrev size : Step → ℕ
  size s = size_of c.model c.objects c.functions c.links result slot s

  abbrev sizes : Steps → ℕ
  sizes ss = size_in c.model c.objects c.functions c.links result slot ss

  abbrev marks : Step → List Mark
  marks s = marks_of c.model c.objects c.functions c.links result slot s

  abbrev coded : ℕ → ℕ → ℕ → Step → List Instruction
  coded b e p s = step_code c.model c.objects c.functions c.links result slot end labels b e p s

  abbrev coded_all : ℕ → ℕ → ℕ → Steps → List Instruction
  coded_all b e p ss = steps_code c.model c.objects c.functions c.links result slot end labels b e p ss

  abbrev enter_cases : Kind → Step → List Instruction
  enter_cases kind s = cases_code c.model slot kind (marks s)

  length_of : (s : Step) (b e p : ℕ) → length (coded b e p s) ≡ size s
  length_of s b e p = step_length c.model c.objects c.functions c.links result slot end labels s b e p

  length_all : (ss : Steps) (b e p : ℕ) → length (coded_all b e p ss) ≡ sizes ss
  length_all ss b e p = steps_length c.model c.objects c.functions c.links result slot end labels ss b e p

  gives : (u : Use) (e : Val) → ValuesLinked c.links (e ∷ []) → Gives c s0 end labels n (code u e) (value u e)
  gives u e li t tn = value_does c t (hc t tn) u slot e (omega arith) li.0

  alone : (e : Val) (es : List Val) → ValuesLinked c.links (e ∷ es) → ValuesLinked c.links (e ∷ [])
  alone e es li = (li.0, tt)

  test_gives : (e : Option Val) → ValuesLinked c.links (all_option e) → Gives c s0 end labels n (test_code c.objects c.functions c.links slot e) (keeping.test_of c.model c.objects c.compute c.way c.inputs c.call e)
  test_gives None li t tn = single c t slot (i.Constant slot (pos 1)) (give (pos 1)) (λ p s st. refl) (omega arith) (λ st. still_here st (pos 1))
  test_gives (Some e) li t tn = gives used e li t tn

  step_leads : (e : Option Val) → ValuesLinked c.links (all_option e) → Leads c s0 end labels n (effect_code c.objects c.functions c.links slot e) (keeping.effect_of c.model c.objects c.compute c.way c.inputs c.call e)
  step_leads None li t tn = no_drops_do c t (hc t tn) slot
  step_leads (Some e) li t tn = drop c t slot (code dropped e) (value dropped e) (gives dropped e li t tn)

  nothing_leads : Leads c s0 end labels n [] (give tt)
  nothing_leads t tn = no_drops_do c t (hc t tn) slot

  return_starts : (b e p : ℕ) (r : Option Kind) (v : Option Val) → ValuesLinked c.links (all_option v) →
      let xs : List Instruction = return_value c.model c.objects c.functions c.links r slot v in
      Starts c s0 end labels n b e p (return_code slot p end r xs v) (return_size r (length xs) v) (keeping.returned c.model c.objects c.compute c.way c.inputs c.call r v)
  return_starts b e p r None li = enter.return_void c s0 end labels n b e p
  return_starts b e p None (Some v) li = enter.return_dropped c s0 end labels n b e p (code dropped v) (value dropped v) (gives dropped v li)
  return_starts b e p (Some kind) (Some v) li = enter.return_value c s0 end labels n b e p (code used v) (value used v) (gives used v li)

  switch_sought : (at : ℕ) (kind : Kind) (v : Val) (s : Step) (b e p : ℕ) →
      Seeks c s0 end labels n (p + size (pSwitch at kind v s)) e (p + (length (code used v) + length (enter_cases kind s) + 1)) (coded (p + size (pSwitch at kind v s)) e (p + (length (code used v) + length (enter_cases kind s) + 1)) s) (size s) (marks s) (λ pl. run s (Seek pl)) →
      Seeks c s0 end labels n b e p (coded b e p (pSwitch at kind v s)) (size (pSwitch at kind v s)) (marks (pSwitch at kind v s)) (λ pl. run (pSwitch at kind v s) (Seek pl))
  switch_sought at kind v s b e p body (toLabel l) t q s1 st k tn eq lies ro tu ke nb lv =
      enter.switch_seeks c s0 end labels n l b e p (size s) (code used v) (coded (p + size (pSwitch at kind v s)) e (p + (length (code used v) + length (enter_cases kind s) + 1)) s) (marks s) kind (run s) body t q s1 st k tn eq lies ro tu ke nb lv
  switch_sought at kind v s b e p body (toCase kind' w) t q s1 st k tn eq lies ro tu ke nb lv = enter.none_sought c s0 end labels n (toCase kind' w) k p (moved (length (code used v) + length (enter_cases kind s) + 1) (marks s)) s1 st (λ x. refl)
  switch_sought at kind v s b e p body toDefault t q s1 st k tn eq lies ro tu ke nb lv = enter.none_sought c s0 end labels n toDefault k p (moved (length (code used v) + length (enter_cases kind s) + 1) (marks s)) s1 st (λ x. refl)

  mutual
    pub start_does : (s : Step) (b e p : ℕ) → ValuesLinked c.links (all_values s) → Starts c s0 end labels n b e p (coded b e p s) (size s) (run s Start)
    start_does (pDraw object) b e p li = fill_starts c s0 end labels n b e p object (count_of c.objects c.functions c.links object) (typed.kind_of (slice_get c.objects object))
    start_does (pBegin object es) b e p li =
        begin_starts c s0 end labels n b e p object (count_of c.objects c.functions c.links object) (number_of es) (values_code c.objects c.functions c.links slot es) (keeping.values c.model c.objects c.compute c.way c.inputs c.call es)
        (λ t tn. values_do c t (hc t tn) slot es (omega arith) (parts_linked c.links es li))
    start_does (pBlock ss) b e p li = start_all ss b e p li
    start_does pEmpty b e p li = enter.empty_starts c s0 end labels n b e p
    start_does (pEffect v) b e p li = enter.effect_starts c s0 end labels n b e p (code dropped v) (value dropped v) (gives dropped v li)
    start_does (pIf v s) b e p li =
        if_starts c s0 end labels n b e p (size s) (code used v) (coded b e (p + (length (code used v) + 1)) s) (value used v) (run s Start) (gives used v (alone v (all_values s) li)) (start_does s b e (p + (length (code used v) + 1)) li.1)
    start_does (pIfElse v s r) b e p li =
        let p1 : ℕ = p + (length (code used v) + 1) in
        let p2 : ℕ = p + (length (code used v) + 1 + size s + 1) in
        else_starts c s0 end labels n b e p (size s) (size r) (code used v) (coded b e p1 s) (coded b e p2 r) (value used v) (run s Start) (run r Start) (length_of s b e p1) (gives used v (alone v (all_values s ++ all_values r) li))
        (start_does s b e p1 (values_first c.links (all_values s) (all_values r) li.1)) (start_does r b e p2 (values_last c.links (all_values s) (all_values r) li.1))
    start_does (pWhile at v s) b e p li =
        let E : ℕ = p + size (pWhile at v s) in
        let C : ℕ = p + (1 + length (code used v) + 1 + size s) in
        let B : ℕ = p + (1 + length (code used v) + 1) in
        loop_starts c s0 end labels n b e p (size s) at E C B (code used v) (coded E C B s) [] (value used v) (run s Start) (give tt) (length_of s E C B) (omega arith) (omega arith) (omega arith) (gives used v (alone v (all_values s) li))
        (start_does s E C B li.1) nothing_leads
    start_does (pDo at s v) b e p li = λ t q s1 st k tn eq l ro tu ke nb lv.
        let E : ℕ = p + size (pDo at s v) in
        let C : ℕ = p + (1 + length (code used v) + 1 + size s) in
        let B : ℕ = p + (1 + length (code used v) + 1) in
        leads c p (suc p + (length (code used v) + 1)) s1 s1 st st (i.Jump (length (code used v) + 1)) l.0 refl
        ∙ there_from c B (suc p + (length (code used v) + 1)) s1 st _ (omega arith)
        (round_starts c s0 end labels n b e p (size s) at E C B (code used v) (coded E C B s) [] (value used v) (run s Start) (give tt) (length_of s E C B) (omega arith) (omega arith) (omega arith)
        (gives used v (values_last c.links (all_values s) (v ∷ []) li)) (start_does s E C B (values_first c.links (all_values s) (v ∷ []) li)) nothing_leads t q s1 st k tn eq l.1 ro.before_end tu ke nb lv)
    start_does (pFor at start v step s) b e p li =
        let first : ℕ = sizes start in
        let xs : List Instruction = test_code c.objects c.functions c.links slot v in
        let zs : List Instruction = effect_code c.objects c.functions c.links slot step in
        let E : ℕ = p + size (pFor at start v step s) in
        let C : ℕ = p + (first + 1 + length xs + 1 + size s) in
        let B : ℕ = p + (first + 1 + length xs + 1) in
        let l3 = values_first c.links (all_of_all start ++ all_option v ++ all_option step) (all_values s) li in
        let l2 = values_first c.links (all_of_all start ++ all_option v) (all_option step) l3 in
        let next : Run Exit = loop at n (keeping.test_of c.model c.objects c.compute c.way c.inputs c.call v) (run s Start) (keeping.effect_of c.model c.objects c.compute c.way c.inputs c.call step) in
        let loop_instructions : List Instruction = i.Turn at (suc (p + first)) ∷ loop_code at (suc (p + first)) slot xs (coded E C B s) zs in
        resized c s0 end labels n b e p (first + (1 + loop_size (length xs) (size s) (length zs))) (size (pFor at start v step s)) (coded b e p (pFor at start v step s)) (run (pFor at start v step s) Start) (omega arith)
        (enter.row_starts c s0 end labels n b e p first (1 + loop_size (length xs) (size s) (length zs)) (coded_all b e p start) loop_instructions (run_all start Start) next (length_all start b e p)
        (start_all start b e p (values_first c.links (all_of_all start) (all_option v) l2))
        (loop_starts c s0 end labels n b e (p + first) (size s) at E C B xs (coded E C B s) zs (keeping.test_of c.model c.objects c.compute c.way c.inputs c.call v) (run s Start) (keeping.effect_of c.model c.objects c.compute c.way c.inputs c.call step) (length_of s E C B) (omega arith) (omega arith) (omega arith)
        (test_gives v (values_last c.links (all_of_all start) (all_option v) l2)) (start_does s E C B (values_last c.links (all_of_all start ++ all_option v ++ all_option step) (all_values s) li))
        (step_leads step (values_last c.links (all_of_all start ++ all_option v) (all_option step) l3))))
    start_does (pSwitch at kind v s) b e p li =
        let E : ℕ = p + size (pSwitch at kind v s) in
        let P : ℕ = p + (length (code used v) + length (enter_cases kind s) + 1) in
        enter.switch_starts c s0 end labels n b e p (size s) (code used v) (coded E e P s) (marks s) kind (value used v) (run s) (gives used v (alone v (all_values s) li)) (seek_does s E e P li.1)
    start_does (pCase at v s) b e p li = start_does s b e p li
    start_does (pDefault at s) b e p li = start_does s b e p li
    start_does (pLabel l at s) b e p li = start_does s b e p li
    start_does (pGoto at l x) b e p li = enter.goto_starts c s0 end labels n b e p at l
    start_does (pBreak at) b e p li = enter.break_starts c s0 end labels n b e p
    start_does (pContinue at) b e p li = enter.continue_starts c s0 end labels n b e p
    start_does (pReturn at v) b e p li = return_starts b e p result v li

    pub start_all : (ss : Steps) (b e p : ℕ) → ValuesLinked c.links (all_of_all ss) → Starts c s0 end labels n b e p (coded_all b e p ss) (sizes ss) (run_all ss Start)
    start_all no_steps b e p li = enter.empty_starts c s0 end labels n b e p
    start_all (steps_and ss s) b e p li =
        enter.row_starts c s0 end labels n b e p (sizes ss) (size s) (coded_all b e p ss) (coded b e (p + sizes ss) s) (run_all ss Start) (run s Start) (length_all ss b e p) (start_all ss b e p (values_first c.links (all_of_all ss) (all_values s) li))
        (start_does s b e (p + sizes ss) (values_last c.links (all_of_all ss) (all_values s) li))

    pub seek_does : (s : Step) (b e p : ℕ) → ValuesLinked c.links (all_values s) → Seeks c s0 end labels n b e p (coded b e p s) (size s) (marks s) (λ pl. run s (Seek pl))
    seek_does (pDraw object) b e p li = absent c s0 end labels n b e p (size (pDraw object)) (coded b e p (pDraw object))
    seek_does (pBegin object es) b e p li = absent c s0 end labels n b e p (size (pBegin object es)) (coded b e p (pBegin object es))
    seek_does (pBlock ss) b e p li = seek_all ss b e p li
    seek_does pEmpty b e p li = absent c s0 end labels n b e p 0 []
    seek_does (pEffect v) b e p li = absent c s0 end labels n b e p (size (pEffect v)) (coded b e p (pEffect v))
    seek_does (pIf v s) b e p li =
        enter.if_seeks c s0 end labels n b e p (size s) (code used v) (coded b e (p + (length (code used v) + 1)) s) (marks s) (λ pl. run s (Seek pl)) (seek_does s b e (p + (length (code used v) + 1)) li.1)
    seek_does (pIfElse v s r) b e p li =
        let p1 : ℕ = p + (length (code used v) + 1) in
        let p2 : ℕ = p + (length (code used v) + 1 + size s + 1) in
        enter.else_seeks c s0 end labels n b e p (size s) (size r) (code used v) (coded b e p1 s) (coded b e p2 r) (marks s) (marks r) (λ pl. run s (Seek pl)) (λ pl. run r (Seek pl)) (length_of s b e p1)
        (seek_does s b e p1 (values_first c.links (all_values s) (all_values r) li.1)) (seek_does r b e p2 (values_last c.links (all_values s) (all_values r) li.1))
    seek_does (pWhile at v s) b e p li = λ pl t q s1 st k tn eq l ro tu ke nb lv.
        let E : ℕ = p + size (pWhile at v s) in
        let C : ℕ = p + (1 + length (code used v) + 1 + size s) in
        let B : ℕ = p + (1 + length (code used v) + 1) in
        enter.moved_at c s0 end labels k pl p B (1 + length (code used v) + 1) (marks s) (run (pWhile at v s) (Seek pl) st) s1 st refl
        (round_seeks c s0 end labels n b e p (size s) at E C B (code used v) (coded E C B s) [] (value used v) (run s Start) (give tt) (length_of s E C B) (omega arith) (omega arith) (omega arith) (gives used v (alone v (all_values s) li))
        (start_does s E C B li.1) nothing_leads (marks s) (λ x. run s (Seek x)) (seek_does s E C B li.1) pl t q s1 st k tn eq l.1 ro.before_end tu ke nb lv)
    seek_does (pDo at s v) b e p li = λ pl t q s1 st k tn eq l ro tu ke nb lv.
        let E : ℕ = p + size (pDo at s v) in
        let C : ℕ = p + (1 + length (code used v) + 1 + size s) in
        let B : ℕ = p + (1 + length (code used v) + 1) in
        let l1 = values_first c.links (all_values s) (v ∷ []) li in
        enter.moved_at c s0 end labels k pl p B (1 + length (code used v) + 1) (marks s) (run (pDo at s v) (Seek pl) st) s1 st refl
        (round_seeks c s0 end labels n b e p (size s) at E C B (code used v) (coded E C B s) [] (value used v) (run s Start) (give tt) (length_of s E C B) (omega arith) (omega arith) (omega arith) (gives used v (values_last c.links (all_values s) (v ∷ []) li))
        (start_does s E C B l1) nothing_leads (marks s) (λ x. run s (Seek x)) (seek_does s E C B l1) pl t q s1 st k tn eq l.1 ro.before_end tu ke nb lv)
    seek_does (pFor at start v step s) b e p li = λ pl t q s1 st k tn eq l ro tu ke nb lv.
        let first : ℕ = sizes start in
        let xs : List Instruction = test_code c.objects c.functions c.links slot v in
        let zs : List Instruction = effect_code c.objects c.functions c.links slot step in
        let E : ℕ = p + size (pFor at start v step s) in
        let C : ℕ = p + (first + 1 + length xs + 1 + size s) in
        let B : ℕ = p + (first + 1 + length xs + 1) in
        let l3 = values_first c.links (all_of_all start ++ all_option v ++ all_option step) (all_values s) li in
        let l2 = values_first c.links (all_of_all start ++ all_option v) (all_option step) l3 in
        let l4 = values_last c.links (all_of_all start ++ all_option v ++ all_option step) (all_values s) li in
        let loop_instructions : List Instruction = i.Turn at (suc (p + first)) ∷ loop_code at (suc (p + first)) slot xs (coded E C B s) zs in
        let r = split c p (coded_all b e p start) loop_instructions l in
        let w = at_moved c (p + length (coded_all b e p start)) (p + first) loop_instructions (omega (arith, length_all start b e p)) r.1 in
        enter.moved_at c s0 end labels k pl p B (first + 1 + length xs + 1) (marks s) (run (pFor at start v step s) (Seek pl) st) s1 st refl
        (round_seeks c s0 end labels n b e (p + first) (size s) at E C B xs (coded E C B s) zs (keeping.test_of c.model c.objects c.compute c.way c.inputs c.call v) (run s Start) (keeping.effect_of c.model c.objects c.compute c.way c.inputs c.call step) (length_of s E C B) (omega arith) (omega arith) (omega arith)
        (test_gives v (values_last c.links (all_of_all start) (all_option v) l2)) (start_does s E C B l4) (step_leads step (values_last c.links (all_of_all start ++ all_option v) (all_option step) l3)) (marks s) (λ x. run s (Seek x)) (seek_does s E C B l4)
        pl t q s1 st k tn eq w.1 ro.before_end tu ke nb lv)
    seek_does (pSwitch at kind v s) b e p li =
        switch_sought at kind v s b e p (seek_does s (p + size (pSwitch at kind v s)) e (p + (length (code used v) + length (enter_cases kind s) + 1)) li.1)
    seek_does (pCase at v s) b e p li = λ pl t q s1 st k tn eq l ro tu ke nb lv.
        enter.mark_at c s0 end labels (is_mark c.model c.way pl (aCase v)) k p (sought c.model c.way pl (marks s)) (run s Start) (run s (Seek pl)) s1 st (start_does s b e p li t q s1 st k tn eq l ro tu ke nb lv) (seek_does s b e p li pl t q s1 st k tn eq l ro tu ke nb lv)
    seek_does (pDefault at s) b e p li = λ pl t q s1 st k tn eq l ro tu ke nb lv.
        enter.mark_at c s0 end labels (is_mark c.model c.way pl aDefault) k p (sought c.model c.way pl (marks s)) (run s Start) (run s (Seek pl)) s1 st (start_does s b e p li t q s1 st k tn eq l ro tu ke nb lv) (seek_does s b e p li pl t q s1 st k tn eq l ro tu ke nb lv)
    seek_does (pLabel name at s) b e p li = λ pl t q s1 st k tn eq l ro tu ke nb lv.
        enter.mark_at c s0 end labels (is_mark c.model c.way pl (aLabel name)) k p (sought c.model c.way pl (marks s)) (run s Start) (run s (Seek pl)) s1 st (start_does s b e p li t q s1 st k tn eq l ro tu ke nb lv) (seek_does s b e p li pl t q s1 st k tn eq l ro tu ke nb lv)
    seek_does (pGoto at l x) b e p li = absent c s0 end labels n b e p 1 (coded b e p (pGoto at l x))
    seek_does (pBreak at) b e p li = absent c s0 end labels n b e p 1 (coded b e p (pBreak at))
    seek_does (pContinue at) b e p li = absent c s0 end labels n b e p 1 (coded b e p (pContinue at))
    seek_does (pReturn at v) b e p li = absent c s0 end labels n b e p (size (pReturn at v)) (coded b e p (pReturn at v))

    pub seek_all : (ss : Steps) (b e p : ℕ) → ValuesLinked c.links (all_of_all ss) → Seeks c s0 end labels n b e p (coded_all b e p ss) (sizes ss) (marks_in c.model c.objects c.functions c.links result slot ss) (λ pl. run_all ss (Seek pl))
    seek_all no_steps b e p li = absent c s0 end labels n b e p 0 []
    seek_all (steps_and ss s) b e p li =
        let l1 = values_first c.links (all_of_all ss) (all_values s) li in
        let l2 = values_last c.links (all_of_all ss) (all_values s) li in
        enter.row_seeks c s0 end labels n b e p (sizes ss) (size s) (coded_all b e p ss) (coded b e (p + sizes ss) s) (marks_in c.model c.objects c.functions c.links result slot ss) (marks s) (λ pl. run_all ss (Seek pl)) (λ pl. run s (Seek pl)) (run s Start) (length_all ss b e p) (seek_all ss b e p l1)
        (start_does s b e (p + sizes ss) l2) (seek_does s b e (p + sizes ss) l2)
