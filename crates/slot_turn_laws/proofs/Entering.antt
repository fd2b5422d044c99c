-- Pieces of code that are entered where a place is sought; switches, rows of statements, and statements without parts.
use Rattle.std.proofs.Common.{◌≡◌, ℕ, zero, suc, ◌+◌, ◌-◌, ◌≤◌, Bool, true, false, List, [], ◌∷◌, ◌++◌, length, Option, Some, None, ℤ, pos, refl, sym, ap, ◌∙◌, subst, arith}
use Rattle.lv_base.specs.declared.kind.Kind.{Kind}
use Rattle.lv_base.specs.Integers.{converted}
use Rattle.c_run.specs.Run.{State, Got, Value, Run, give, after, choose, turn, is_true}
use Rattle.c_run.specs.Loops.{Place, toLabel, toCase, toDefault, From, Seek, Exit, Normal, Broke, Continued, Returned, Jumped, Absent, then_do, or_else, found, loop, leave_cases, leave_switch, switch_on}
use Rattle.slot_code.specs.declared.flat.Instruction.{Instruction}
use Rattle.slot_code.specs.declared.flat.Instruction.TheVariants as i
use Rattle.slot_code.specs.Slots.{get, put}
use Rattle.slot_code.specs.Statements.{Name, aLabel, aCase, aDefault, Mark, moved, labels_alone, jump_from, cases_code, or_place, default_in}
use Rattle.slot_code.specs.Machine.{returned_in}
use Rattle.slot_laws.proofs.Lying.{put_same, put_other}
use Rattle.slot_turn_laws.proofs.Lying.{Met, ends, ends_value, seq, Frame, Lies, At, at_moved, split, parts, from, there_from, leads, Keeps, keeps_on, keeps_put}
use Rattle.slot_laws.proofs.Seeking.{is_mark, sought, first_of, plus, sought_both, sought_moved, labels_sought, no_label, default_sought}
use Rattle.slot_turn_laws.proofs.Leaving.{Behind, Leaves, Room, room_less, through, pass, leaves_inner, leaves_pass, Sought, Starts, Seeks, Gives, cond_runs, Leads, Round, Around, around, again, loop_turns, spent_turn, taken_turn}

module _ (c : Frame) (s0 : List ℤ) (end : ℕ) (labels : List ℕ → ℕ) where
  abbrev d : ℕ
  d = suc c.low

  -- ---- Places that are sought

  moved_o : (k : Exit → State → Met) (p p' n : ℕ) (o : Option ℕ) (g : Got Exit) (s : List ℤ) (st : State) → p' ≡ p + n → Sought c s0 end labels k p' o g s st → Sought c s0 end labels k p (plus c.model c.way n o) g s st
  moved_o k p p' n None g s st e h = h
  moved_o k p p' n (Some m) g s st e h = there_from c (p' + m) (p + (n + m)) s st (ends c.asker g k) (omega (arith, e)) h

  pub moved_at : (k : Exit → State → Met) (pl : Place) (p p' n : ℕ) (ms : List Mark) (g : Got Exit) (s : List ℤ) (st : State) → p' ≡ p + n → Sought c s0 end labels k p' (sought c.model c.way pl ms) g s st →
      Sought c s0 end labels k p (sought c.model c.way pl (moved n ms)) g s st
  moved_at k pl p p' n ms g s st e h = subst (λ o. Sought c s0 end labels k p o g s st) (sym (sought_moved c.model c.way pl n ms)) (moved_o k p p' n (sought c.model c.way pl ms) g s st e h)

  -- what is made of the exit
  pub sought_pass : (k : Exit → State → Met) (p : ℕ) (o : Option ℕ) (g : Got Exit) (f : Exit → Run Exit) (s : List ℤ) (st : State) → f Absent st ≡ Value Absent st → Sought c s0 end labels (through c s0 end labels f k) p o g s st → Sought c s0 end labels k p o (after g f) s st
  sought_pass k p None g f s st e h = ap (λ x. after x f) h ∙ e
  sought_pass k p (Some m) g f s st e h = seq c.asker Exit Exit g f k (from c (p + m) s st) h

  -- one part, and where it isn't there another
  pub sought_then : (k : Exit → State → Met) (p : ℕ) (o o' : Option ℕ) (g g' : Got Exit) (f : Exit → Run Exit) (s : List ℤ) (st : State) → f Absent st ≡ g' → Sought c s0 end labels (through c s0 end labels f k) p o g s st → Sought c s0 end labels k p o' g' s st →
      Sought c s0 end labels k p (first_of c.model c.way o o') (after g f) s st
  sought_then k p None o' g g' f s st e h h' = subst (λ x. Sought c s0 end labels k p o' x s st) (sym (ap (λ x. after x f) h ∙ e)) h'
  sought_then k p (Some m) o' g g' f s st e h h' = seq c.asker Exit Exit g f k (from c (p + m) s st) h

  pub both_at : (k : Exit → State → Met) (pl : Place) (p : ℕ) (ms ms' : List Mark) (g : Got Exit) (s : List ℤ) (st : State) → Sought c s0 end labels k p (first_of c.model c.way (sought c.model c.way pl ms) (sought c.model c.way pl ms')) g s st →
      Sought c s0 end labels k p (sought c.model c.way pl (ms ++ ms')) g s st
  both_at k pl p ms ms' g s st h = subst (λ o. Sought c s0 end labels k p o g s st) (sym (sought_both c.model c.way pl ms ms')) h

  pub mark_at : (x : Bool) (k : Exit → State → Met) (p : ℕ) (o : Option ℕ) (f g : Run Exit) (s : List ℤ) (st : State) → from c p s st ≡ ends c.asker (f st) k → Sought c s0 end labels k p o (g st) s st → Sought c s0 end labels k p (choose x (Some 0) o) (choose x f g st) s st
  mark_at true k p o f g s st h h' = there_from c p (p + 0) s st (ends c.asker (f st) k) (omega arith) h
  mark_at false k p o f g s st h h' = h'

  -- ---- Tries of cases

  abbrev goal_of : ℕ → ℕ → Option ℕ → ℕ
  goal_of m len None = m + len
  goal_of m len (Some n) = m + len + 1 + n

  goal_next : (m len : ℕ) (o : Option ℕ) → goal_of (suc m) len o ≡ goal_of m (suc len) o
  goal_next m len None = omega arith
  goal_next m len (Some n) = omega arith

  case_does : (b : Bool) (m place : ℕ) (s : List ℤ) (st : State) (cs : List Instruction) (o : Option ℕ) → from c (suc m) s st ≡ from c (goal_of (suc m) (length cs) o) s st →
      from c (choose b (suc m + (length cs + 1 + place)) (suc m)) s st ≡ from c (goal_of m (suc (length cs)) (choose b (Some place) o)) s st
  case_does true m place s st cs o h = ap (λ x. from c x s st) (omega arith)
  case_does false m place s st cs o h = h ∙ ap (λ x. from c x s st) (goal_next m (length cs) o)

  tried : (kind : Kind) (v : ℤ) (x : Name) (place m : ℕ) (s : List ℤ) (st : State) (cs : List Instruction) (o : Option ℕ) → get s d ≡ v → ((m' : ℕ) → At c m' cs → from c m' s st ≡ from c (goal_of m' (length cs) o) s st) →
      let code : List Instruction = elim x [ aLabel l ↦ cs | aCase w ↦ i.SkipEqual d (converted kind c.model w) (length cs + 1 + place) ∷ cs | aDefault ↦ cs ] in
      At c m code → from c m s st ≡ from c (goal_of m (length code) (choose (is_mark c.model c.way (toCase kind v) x) (Some place) o)) s st
  tried kind v (aLabel l) place m s st cs o e h lies = h m lies
  tried kind v aDefault place m s st cs o e h lies = h m lies
  tried kind v (aCase w) place m s st cs o e h lies =
      let u : ℤ = converted kind c.model w in
      let skip : ℕ = length cs + 1 + place in
      leads c m (choose (c.way.same (get s d) u) (suc m + skip) (suc m)) s s st st (i.SkipEqual d u skip) lies.0 refl
      ∙ ap (λ z. from c (choose (c.way.same z u) (suc m + skip) (suc m)) s st) e
      ∙ case_does (c.way.same v u) m place s st cs o (h (suc m) lies.1)

  pub cases_do : (kind : Kind) (v : ℤ) (ms : List Mark) (m : ℕ) (s : List ℤ) (st : State) → get s d ≡ v → At c m (cases_code c.model d kind ms) →
      from c m s st ≡ from c (goal_of m (length (cases_code c.model d kind ms)) (sought c.model c.way (toCase kind v) ms)) s st
  cases_do kind v [] m s st e l = ap (λ x. from c x s st) (omega arith)
  cases_do kind v (x ∷ ms) m s st e l = tried kind v x.name x.place m s st (cases_code c.model d kind ms) (sought c.model c.way (toCase kind v) ms) e (λ m' l'. cases_do kind v ms m' s st e l') l

  module _ (n : ℕ) where
    -- ---- Switches

    -- `default`, or the end
    default_does : (t P m q : ℕ) (o : Option ℕ) (g : Got Exit) (s : List ℤ) (st : State) (k : Exit → State → Met) → q ≡ P + m → st.turns ≤ t → Keeps c d s0 s → Behind c s0 end labels t k q Normal →
        Sought c s0 end labels (through c s0 end labels (λ x. give (leave_cases x)) k) P o g s st → from c (P + or_place m o) s st ≡ ends c.asker (after g (λ x. give (leave_cases x))) k
    default_does t P m q None g s st k e tu ke nb h =
        there_from c q (P + m) s st _ (omega (arith, e)) (nb s st tu ke ∙ sym (ap (λ x. ends c.asker (after x (λ y. give (leave_cases y))) k) h ∙ ends_value c.asker Normal st k))
    default_does t P m q (Some x) g s st k e tu ke nb h = seq c.asker Exit Exit g (λ y. give (leave_cases y)) k (from c (P + x) s st) h

    -- what is made of the try of a case
    abbrev behind_case : (From → Run Exit) → Exit → Run Exit
    behind_case f x st = after (or_else x (f (Seek toDefault)) st) (λ y. give (leave_cases y))

    case_or_default : (t m len size q : ℕ) (f : From → Run Exit) (kind : Kind) (v : ℤ) (o o' : Option ℕ) (s : List ℤ) (st : State) (k : Exit → State → Met) → q ≡ suc (m + len) + size → st.turns ≤ t → Keeps c d s0 s → Behind c s0 end labels t k q Normal →
        Lies c (m + len) (i.Jump (or_place size o')) → Sought c s0 end labels (through c s0 end labels (behind_case f) k) (suc (m + len)) o (f (Seek (toCase kind v)) st) s st →
        Sought c s0 end labels (through c s0 end labels (λ x. give (leave_cases x)) k) (suc (m + len)) o' (f (Seek toDefault) st) s st →
        from c (goal_of m len o) s st ≡ ends c.asker (switch_on f kind v st) k
    case_or_default t m len size q f kind v None o' s st k e tu ke nb l h h' =
        leads c (m + len) (suc (m + len) + or_place size o') s s st st (i.Jump (or_place size o')) l refl
        ∙ default_does t (suc (m + len)) size q o' (f (Seek toDefault) st) s st k e tu ke nb h'
        ∙ sym (ap (λ x. ends c.asker (after x (behind_case f)) k) h)
    case_or_default t m len size q f kind v (Some x) o' s st k e tu ke nb l h h' =
        there_from c (suc (m + len) + x) (m + len + 1 + x) s st _ (omega arith) (seq c.asker Exit Exit (f (Seek (toCase kind v)) st) (behind_case f) k (from c (suc (m + len) + x) s st) h)

    pub switch_starts : (b e p size : ℕ) (xs ys : List Instruction) (ms : List Mark) (kind : Kind) (g : Run ℤ) (f : From → Run Exit) → Gives c s0 end labels n xs g →
        Seeks c s0 end labels n (p + (length xs + length (cases_code c.model d kind ms) + 1 + size)) e (p + (length xs + length (cases_code c.model d kind ms) + 1)) ys size ms (λ pl. f (Seek pl)) →
        Starts c s0 end labels n b e p (xs ++ cases_code c.model d kind ms ++ i.Jump (or_place size (default_in ms)) ∷ ys) (length xs + length (cases_code c.model d kind ms) + 1 + size) (λ st. after (g st) (switch_on f kind))
    switch_starts b e p size xs ys ms kind g f runs body t q s st k tn eq l ro tu ke nb lv =
        let cs : List Instruction = cases_code c.model d kind ms in
        let r = parts c p xs cs (i.Jump (or_place size (default_in ms)) ∷ ys) l in
        let P : ℕ = p + (length xs + length cs + 1) in
        let E : ℕ = p + (length xs + length cs + 1 + size) in
        let P' : ℕ = suc (p + length xs + length cs) in
        let same : P ≡ P' = omega arith in
        cond_runs c s0 end labels n t p xs g (switch_on f kind) s st k tn runs r.first tu ke
        (λ v s1 st1 tu1 ke1 is1.
        let f1 : Exit → Run Exit = behind_case f in
        let f2 : Exit → Run Exit = λ x. give (leave_cases x) in
        let nb' : Behind c s0 end labels t k E Normal = subst (λ x. Behind c s0 end labels t k x Normal) eq nb in
        let room : Room c s0 end labels E E e = record { before_broke = omega arith; before_continued = omega (arith, ro.before_continued, eq); before_end = omega (arith, ro.before_end, eq) } in
        let ly : At c P ys = at_moved c P' P ys (sym same) r.third.1 in
        let l1 = leaves_inner c s0 end labels t k f1 b e E e (λ x y. refl) (λ x y. refl) (pass c s0 end labels t k f1 E Broke Normal (λ y. refl) nb') (pass c s0 end labels t k f1 e Continued Continued (λ y. refl) lv.goes) lv in
        let l2 = leaves_inner c s0 end labels t k f2 b e E e (λ x y. refl) (λ x y. refl) (pass c s0 end labels t k f2 E Broke Normal (λ y. refl) nb') (pass c s0 end labels t k f2 e Continued Continued (λ y. refl) lv.goes) lv in
        let h1 : Sought c s0 end labels (through c s0 end labels f1 k) P (sought c.model c.way (toCase kind v) ms) (f (Seek (toCase kind v)) st1) s1 st1 =
        body (toCase kind v) t E s1 st1 (through c s0 end labels f1 k) tn (omega arith) ly room tu1 ke1 (pass c s0 end labels t k f1 E Normal Normal (λ y. refl) nb') l1 in
        let h2 : Sought c s0 end labels (through c s0 end labels f2 k) P (sought c.model c.way toDefault ms) (f (Seek toDefault) st1) s1 st1 =
        body toDefault t E s1 st1 (through c s0 end labels f2 k) tn (omega arith) ly room tu1 ke1 (pass c s0 end labels t k f2 E Normal Normal (λ y. refl) nb') l2 in
        cases_do kind v ms (p + length xs) s1 st1 is1 r.second
        ∙ case_or_default t (p + length xs) (length cs) size q f kind v (sought c.model c.way (toCase kind v) ms) (default_in ms) s1 st1 k (omega (arith, eq)) tu1 ke1 nb r.third.0
        (subst (λ x. Sought c s0 end labels (through c s0 end labels f1 k) x (sought c.model c.way (toCase kind v) ms) (f (Seek (toCase kind v)) st1) s1 st1) same h1)
        (subst (λ o. Sought c s0 end labels (through c s0 end labels f2 k) P' o (f (Seek toDefault) st1) s1 st1) (sym (default_sought c.model c.way ms))
        (subst (λ x. Sought c s0 end labels (through c s0 end labels f2 k) x (sought c.model c.way toDefault ms) (f (Seek toDefault) st1) s1 st1) same h2)))

    -- a label in a switch
    pub switch_seeks : (l : List ℕ) (b e p size : ℕ) (xs ys : List Instruction) (ms : List Mark) (kind : Kind) (f : From → Run Exit) →
        Seeks c s0 end labels n (p + (length xs + length (cases_code c.model d kind ms) + 1 + size)) e (p + (length xs + length (cases_code c.model d kind ms) + 1)) ys size ms (λ pl. f (Seek pl)) →
        (t q : ℕ) (s : List ℤ) (st : State) (k : Exit → State → Met) → t ≤ n → q ≡ p + (length xs + length (cases_code c.model d kind ms) + 1 + size) → At c p (xs ++ cases_code c.model d kind ms ++ i.Jump (or_place size (default_in ms)) ∷ ys) → Room c s0 end labels q b e → st.turns ≤ t → Keeps c d s0 s →
        Behind c s0 end labels t k q Normal → Leaves c s0 end labels t k b e →
        Sought c s0 end labels k p (sought c.model c.way (toLabel l) (labels_alone (moved (length xs + length (cases_code c.model d kind ms) + 1) ms))) (after (f (Seek (toLabel l)) st) (λ x. give (leave_switch x))) s st
    switch_seeks l b e p size xs ys ms kind f body t q s st k tn eq lies ro tu ke nb lv =
        let cs : List Instruction = cases_code c.model d kind ms in
        let r = parts c p xs cs (i.Jump (or_place size (default_in ms)) ∷ ys) lies in
        let P : ℕ = p + (length xs + length cs + 1) in
        let E : ℕ = p + (length xs + length cs + 1 + size) in
        let P' : ℕ = suc (p + length xs + length cs) in
        let same : P ≡ P' = omega arith in
        let f1 : Exit → Run Exit = λ x. give (leave_switch x) in
        let nb' : Behind c s0 end labels t k E Normal = subst (λ x. Behind c s0 end labels t k x Normal) eq nb in
        let room : Room c s0 end labels E E e = record { before_broke = omega arith; before_continued = omega (arith, ro.before_continued, eq); before_end = omega (arith, ro.before_end, eq) } in
        let ly : At c P ys = at_moved c P' P ys (sym same) r.third.1 in
        let l1 = leaves_inner c s0 end labels t k f1 b e E e (λ x y. refl) (λ x y. refl) (pass c s0 end labels t k f1 E Broke Normal (λ y. refl) nb') (pass c s0 end labels t k f1 e Continued Continued (λ y. refl) lv.goes) lv in
        let h1 : Sought c s0 end labels (through c s0 end labels f1 k) P (sought c.model c.way (toLabel l) ms) (f (Seek (toLabel l)) st) s st =
        body (toLabel l) t E s st (through c s0 end labels f1 k) tn (omega arith) ly room tu ke (pass c s0 end labels t k f1 E Normal Normal (λ y. refl) nb') l1 in
        subst (λ o. Sought c s0 end labels k p o (after (f (Seek (toLabel l)) st) f1) s st) (sym (labels_sought c.model c.way l (moved (length xs + length cs + 1) ms)))
        (moved_at k (toLabel l) p P (length xs + length cs + 1) ms (after (f (Seek (toLabel l)) st) f1) s st refl (sought_pass k P (sought c.model c.way (toLabel l) ms) (f (Seek (toLabel l)) st) f1 s st refl h1))

    -- nothing else is sought in it
    pub none_sought : (pl : Place) (k : Exit → State → Met) (p : ℕ) (ms : List Mark) (s : List ℤ) (st : State) → ((x : List ℕ) → is_mark c.model c.way pl (aLabel x) ≡ false) → Sought c s0 end labels k p (sought c.model c.way pl (labels_alone ms)) (Value Absent st) s st
    none_sought pl k p ms s st h = subst (λ o. Sought c s0 end labels k p o (Value Absent st) s st) (sym (no_label c.model c.way pl ms h)) refl

    -- ---- Statements in a row

    pub row_starts : (b e p m m' : ℕ) (xs ys : List Instruction) (f f' : Run Exit) → length xs ≡ m → Starts c s0 end labels n b e p xs m f → Starts c s0 end labels n b e (p + m) ys m' f' →
        Starts c s0 end labels n b e p (xs ++ ys) (m + m') (λ st. after (f st) (λ x. then_do x f'))
    row_starts b e p m m' xs ys f f' len first second t q s st k tn eq l ro tu ke nb lv =
        let r = split c p xs ys l in
        let g : Exit → Run Exit = λ x. then_do x f' in
        seq c.asker Exit Exit (f st) g k (from c p s st)
        (first t (p + m) s st (through c s0 end labels g k) tn refl r.0 (room_less c s0 end labels q (p + m) b e (omega (arith, eq)) ro) tu ke
        (λ s1 st1 tu1 ke1. second t q s1 st1 k tn (omega (arith, eq)) (at_moved c (p + length xs) (p + m) ys (omega (arith, len)) r.1) ro tu1 ke1 nb lv)
        (leaves_pass c s0 end labels t k g b e (λ x. refl) (λ x. refl) (λ x y. refl) (λ x y. refl) lv))

    pub row_seeks : (b e p m m' : ℕ) (xs ys : List Instruction) (ms ms' : List Mark) (fs fs' : Place → Run Exit) (f' : Run Exit) → length xs ≡ m → Seeks c s0 end labels n b e p xs m ms fs → Starts c s0 end labels n b e (p + m) ys m' f' → Seeks c s0 end labels n b e (p + m) ys m' ms' fs' →
        Seeks c s0 end labels n b e p (xs ++ ys) (m + m') (ms ++ moved m ms') (λ pl st. after (fs pl st) (λ x. found x f' (fs' pl)))
    row_seeks b e p m m' xs ys ms ms' fs fs' f' len first second other pl t q s st k tn eq l ro tu ke nb lv =
        let r = split c p xs ys l in
        let g : Exit → Run Exit = λ x. found x f' (fs' pl) in
        let ly : At c (p + m) ys = at_moved c (p + length xs) (p + m) ys (omega (arith, len)) r.1 in
        both_at k pl p ms (moved m ms') (after (fs pl st) g) s st
        (sought_then k p (sought c.model c.way pl ms) (sought c.model c.way pl (moved m ms')) (fs pl st) (fs' pl st) g s st refl
        (first pl t (p + m) s st (through c s0 end labels g k) tn refl r.0 (room_less c s0 end labels q (p + m) b e (omega (arith, eq)) ro) tu ke
        (λ s1 st1 tu1 ke1. second t q s1 st1 k tn (omega (arith, eq)) ly ro tu1 ke1 nb lv) (leaves_pass c s0 end labels t k g b e (λ x. refl) (λ x. refl) (λ x y. refl) (λ x y. refl) lv))
        (moved_at k pl p (p + m) m ms' (fs' pl st) s st refl (other pl t q s st k tn (omega (arith, eq)) ly ro tu ke nb lv)))

    -- ---- Branches

    pub if_seeks : (b e p m : ℕ) (xs ys : List Instruction) (ms : List Mark) (fs : Place → Run Exit) → Seeks c s0 end labels n b e (p + (length xs + 1)) ys m ms fs →
        Seeks c s0 end labels n b e p (xs ++ i.SkipZero d m ∷ ys) (length xs + 1 + m) (moved (length xs + 1) ms) fs
    if_seeks b e p m xs ys ms fs body pl t q s st k tn eq l ro tu ke nb lv =
        let r = split c p xs (i.SkipZero d m ∷ ys) l in
        moved_at k pl p (p + (length xs + 1)) (length xs + 1) ms (fs pl st) s st refl
        (body pl t q s st k tn (omega (arith, eq)) (at_moved c (suc (p + length xs)) (p + (length xs + 1)) ys (omega arith) r.1.1) ro tu ke nb lv)

    pub else_seeks : (b e p m m' : ℕ) (xs ys zs : List Instruction) (ms ms' : List Mark) (fs fs' : Place → Run Exit) → length ys ≡ m → Seeks c s0 end labels n b e (p + (length xs + 1)) ys m ms fs → Seeks c s0 end labels n b e (p + (length xs + 1 + m + 1)) zs m' ms' fs' →
        Seeks c s0 end labels n b e p (xs ++ i.SkipZero d (m + 1) ∷ ys ++ i.Jump m' ∷ zs) (length xs + 1 + m + 1 + m') (moved (length xs + 1) ms ++ moved (length xs + 1 + m + 1) ms') (λ pl st. after (fs pl st) (λ x. or_else x (fs' pl)))
    else_seeks b e p m m' xs ys zs ms ms' fs fs' len body body' pl t q s st k tn eq l ro tu ke nb lv =
        let r = parts c p xs (i.SkipZero d (m + 1) ∷ ys) (i.Jump m' ∷ zs) l in
        let g : Exit → Run Exit = λ x. or_else x (fs' pl) in
        let w : ℕ = p + length xs + suc (length ys) in
        both_at k pl p (moved (length xs + 1) ms) (moved (length xs + 1 + m + 1) ms') (after (fs pl st) g) s st
        (sought_then k p (sought c.model c.way pl (moved (length xs + 1) ms)) (sought c.model c.way pl (moved (length xs + 1 + m + 1) ms')) (fs pl st) (fs' pl st) g s st refl
        (moved_at (through c s0 end labels g k) pl p (p + (length xs + 1)) (length xs + 1) ms (fs pl st) s st refl
        (body pl t w s st (through c s0 end labels g k) tn (omega (arith, len)) (at_moved c (suc (p + length xs)) (p + (length xs + 1)) ys (omega arith) r.second.1) (room_less c s0 end labels q w b e (omega (arith, eq, len)) ro) tu ke
        (λ s1 st1 tu1 ke1. leads c w (suc w + m') s1 s1 st1 st1 (i.Jump m') r.third.0 refl ∙ there_from c q (suc w + m') s1 st1 _ (omega (arith, eq, len)) (nb s1 st1 tu1 ke1 ∙ sym (ends_value c.asker Normal st1 k)))
        (leaves_pass c s0 end labels t k g b e (λ x. refl) (λ x. refl) (λ x y. refl) (λ x y. refl) lv)))
        (moved_at k pl p (p + (length xs + 1 + m + 1)) (length xs + 1 + m + 1) ms' (fs' pl st) s st refl
        (body' pl t q s st k tn (omega (arith, eq)) (at_moved c (suc w) (p + (length xs + 1 + m + 1)) zs (omega (arith, len)) r.third.1) ro tu ke nb lv)))

    -- ---- Loops that are entered in their bodies

    module _ (at T E C B W b e : ℕ) (xs ys zs : List Instruction) (g : Run ℤ) (f : Run Exit) (h : Run (Unit {0})) (r : Round c s0 end labels n at T E C B W xs ys zs) (gives : Gives c s0 end labels n xs g) (body : Starts c s0 end labels n E C B ys (length ys) f) (runs : Leads c s0 end labels n zs h) (room : E ≤ end) where
      goes_round : (t : ℕ) (k : Exit → State → Met) → t ≤ n → Behind c s0 end labels t k E Normal → Leaves c s0 end labels t k b e → Around c s0 end labels n t k h (loop at n g f h) E C
      goes_round t k tn nb lv =
          around c s0 end labels n t at T E C B W b e xs ys zs k h (loop at n g f h) tn r runs
          (λ s st tu ke. loop_turns c s0 end labels n at T E C B W b e xs ys zs g f h r gives body runs room n W t s st.store st.taken st.turns k tn r.back (omega (arith, tu, tn)) tu ke nb lv) nb lv

      inner_room : Room c s0 end labels C E C
      inner_room = record { before_broke = omega (arith, r.end_at, r.back_at); before_continued = omega arith; before_end = omega (arith, r.end_at, r.back_at, room) }

      -- `do`
      pub body_starts : (t : ℕ) (s : List ℤ) (st : State) (k : Exit → State → Met) → t ≤ n → st.turns ≤ t → Keeps c d s0 s → Behind c s0 end labels t k E Normal → Leaves c s0 end labels t k b e → from c B s st ≡ ends c.asker (after (f st) (again c s0 end labels n h (loop at n g f h))) k
      body_starts t s st k tn tu ke nb lv =
          let ar = goes_round t k tn nb lv in
          let o : Exit → Run Exit = again c s0 end labels n h (loop at n g f h) in
          seq c.asker Exit Exit (f st) o k (from c B s st) (body t C s st (through c s0 end labels o k) tn r.step_at r.body inner_room tu ke ar.normal ar.leaves)

      pub body_seeks : (ms : List Mark) (fs : Place → Run Exit) → Seeks c s0 end labels n E C B ys (length ys) ms fs → (pl : Place) (t : ℕ) (s : List ℤ) (st : State) (k : Exit → State → Met) → t ≤ n → st.turns ≤ t → Keeps c d s0 s → Behind c s0 end labels t k E Normal → Leaves c s0 end labels t k b e →
          Sought c s0 end labels k B (sought c.model c.way pl ms) (after (fs pl st) (again c s0 end labels n h (loop at n g f h))) s st
      body_seeks ms fs seeks pl t s st k tn tu ke nb lv =
          let ar = goes_round t k tn nb lv in
          let o : Exit → Run Exit = again c s0 end labels n h (loop at n g f h) in
          sought_pass k B (sought c.model c.way pl ms) (fs pl st) o s st refl (seeks pl t C s st (through c s0 end labels o k) tn r.step_at r.body inner_room tu ke ar.normal ar.leaves)

      -- from a turn before
      pub turn_starts : (w t : ℕ) (s : List ℤ) (st : State) (k : Exit → State → Met) → t ≤ n → Lies c w (i.Turn at T) → st.turns ≤ t → Keeps c d s0 s → Behind c s0 end labels t k E Normal → Leaves c s0 end labels t k b e → from c w s st ≡ ends c.asker (loop at n g f h st) k
      turn_starts w t s st k tn l tu ke nb lv = loop_turns c s0 end labels n at T E C B W b e xs ys zs g f h r gives body runs room n w t s st.store st.taken st.turns k tn l (omega (arith, tu, tn)) tu ke nb lv

    -- ---- Statements without parts

    -- a jump forward
    jumps : (p goal : ℕ) (s : List ℤ) (st : State) (x : Met) → suc p ≤ goal → Lies c p (jump_from p goal) → from c goal s st ≡ x → from c p s st ≡ x
    jumps p goal s st x le l h = leads c p (suc p + (goal - suc p)) s s st st (jump_from p goal) l refl ∙ there_from c goal (suc p + (goal - suc p)) s st x (omega (arith, le)) h

    pub break_starts : (b e p : ℕ) → Starts c s0 end labels n b e p (jump_from p b ∷ []) 1 (give Broke)
    break_starts b e p t q s st k tn eq l ro tu ke nb lv = jumps p b s st _ (omega (arith, eq, ro.before_broke)) l.0 (lv.broken s st tu ke ∙ sym (ends_value c.asker Broke st k))

    pub continue_starts : (b e p : ℕ) → Starts c s0 end labels n b e p (jump_from p e ∷ []) 1 (give Continued)
    continue_starts b e p t q s st k tn eq l ro tu ke nb lv = jumps p e s st _ (omega (arith, eq, ro.before_continued)) l.0 (lv.goes s st tu ke ∙ sym (ends_value c.asker Continued st k))

    goto_turn : (at p t : ℕ) (name : List ℕ) (s : List ℤ) (store : List (List ℤ)) (taken turns : ℕ) (k : Exit → State → Met) (b e : ℕ) → Lies c p (i.Turn at (labels name)) → turns ≤ t → Keeps c d s0 s → Leaves c s0 end labels t k b e →
        let st : State = record { store = store; taken = taken; turns = turns } in from c p s st ≡ ends c.asker (after (turn at st) (λ x. give (Jumped name))) k
    unfolding ends
    goto_turn at p t name s store taken zero k b e l tu ke lv = spent_turn c s0 end labels n p (labels name) at s store taken l
    goto_turn at p t name s store taken (suc left) k b e l tu ke lv = taken_turn c s0 end labels n p (labels name) at s store taken left l ∙ lv.jumped name s (record { store = store; taken = taken; turns = left }) (omega (arith, tu)) ke

    pub goto_starts : (b e p at : ℕ) (name : List ℕ) → Starts c s0 end labels n b e p (i.Turn at (labels name) ∷ []) 1 (λ st. after (turn at st) (λ x. give (Jumped name)))
    goto_starts b e p at name t q s st k tn eq l ro tu ke nb lv = goto_turn at p t name s st.store st.taken st.turns k b e l.0 tu ke lv

    pub return_void : (b e p : ℕ) → Starts c s0 end labels n b e p (jump_from p end ∷ []) 1 (give (Returned None))
    return_void b e p t q s st k tn eq l ro tu ke nb lv = jumps p end s st _ (omega (arith, eq, ro.before_end)) l.0 (lv.void s st tu ke ∙ sym (ends_value c.asker (Returned None) st k))

    pub return_dropped : (b e p : ℕ) (xs : List Instruction) (g : Run ℤ) → Gives c s0 end labels n xs g → Starts c s0 end labels n b e p (xs ++ jump_from (p + length xs) end ∷ []) (length xs + 1) (λ st. after (g st) (λ v. give (Returned None)))
    return_dropped b e p xs g runs t q s st k tn eq l ro tu ke nb lv =
        let r = split c p xs (jump_from (p + length xs) end ∷ []) l in
        cond_runs c s0 end labels n t p xs g (λ v. give (Returned None)) s st k tn runs r.0 tu ke
        (λ v s1 st1 tu1 ke1 is1. jumps (p + length xs) end s1 st1 _ (omega (arith, eq, ro.before_end)) r.1.0 (lv.void s1 st1 tu1 ke1 ∙ sym (ends_value c.asker (Returned None) st1 k)))

    value_returned : (s : List ℤ) (v : ℤ) → get s d ≡ v → returned_in (put s (suc d) (pos 1)) c.low ≡ Some v
    value_returned s v e =
        ap (λ x. choose (is_true x) (Some (get (put s (suc d) (pos 1)) d)) None) (put_same s (suc d) (pos 1)) ∙ ap (λ x. Some x) (put_other s (suc d) (pos 1) d (λ x. absurd (omega (arith, x))) ∙ e)

    pub return_value : (b e p : ℕ) (xs : List Instruction) (g : Run ℤ) → Gives c s0 end labels n xs g →
        Starts c s0 end labels n b e p (xs ++ i.Constant (suc d) (pos 1) ∷ jump_from (suc (p + length xs)) (suc end) ∷ []) (length xs + 2) (λ st. after (g st) (λ v. give (Returned (Some v))))
    return_value b e p xs g runs t q s st k tn eq l ro tu ke nb lv =
        let m : ℕ = p + length xs in
        let r = split c p xs (i.Constant (suc d) (pos 1) ∷ jump_from (suc m) (suc end) ∷ []) l in
        cond_runs c s0 end labels n t p xs g (λ v. give (Returned (Some v))) s st k tn runs r.0 tu ke
        (λ v s1 st1 tu1 ke1 is1.
        let s2 : List ℤ = put s1 (suc d) (pos 1) in
        leads c m (suc m) s1 s2 st1 st1 (i.Constant (suc d) (pos 1)) r.1.0 refl
        ∙ jumps (suc m) (suc end) s2 st1 _ (omega (arith, eq, ro.before_end)) r.1.1.0
        (lv.returned (Some v) s2 st1 tu1 (keeps_on c d s0 s1 s2 ke1 (keeps_put c d s1 (suc d) (pos 1) (omega arith) (omega (arith, r.1.0.below)))) (value_returned s1 v is1) ∙ sym (ends_value c.asker (Returned (Some v)) st1 k)))

    pub empty_starts : (b e p : ℕ) → Starts c s0 end labels n b e p [] 0 (give Normal)
    empty_starts b e p t q s st k tn eq l ro tu ke nb lv = there_from c q p s st _ (omega (arith, eq)) (nb s st tu ke ∙ sym (ends_value c.asker Normal st k))

    pub effect_starts : (b e p : ℕ) (xs : List Instruction) (g : Run ℤ) → Gives c s0 end labels n xs g → Starts c s0 end labels n b e p xs (length xs) (λ st. after (g st) (λ v. give Normal))
    effect_starts b e p xs g runs t q s st k tn eq l ro tu ke nb lv =
        cond_runs c s0 end labels n t p xs g (λ v. give Normal) s st k tn runs l tu ke (λ v s1 st1 tu1 ke1 is1. there_from c q (p + length xs) s1 st1 _ (omega (arith, eq)) (nb s1 st1 tu1 ke1 ∙ sym (ends_value c.asker Normal st1 k)))
