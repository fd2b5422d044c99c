-- Pieces of code that do what statements do: how they are left, and where they are entered.
use Rattle.std.proofs.Common.{◌≡◌, ℕ, zero, suc, ◌+◌, ◌<◌, ◌≤◌, Bool, true, false, List, [], ◌∷◌, ◌++◌, length, Option, Some, None, ℤ, refl, sym, ap, ◌∙◌, arith}
use Rattle.c_run.specs.Run.{State, Spent, Got, Value, Run, give, after, choose, is_true}
use Rattle.c_run.specs.Loops.{Place, Exit, Normal, Broke, Continued, Returned, Jumped, Absent, next_turn, loop}
use Rattle.slot_code.specs.declared.flat.Instruction.{Instruction}
use Rattle.slot_code.specs.declared.flat.Instruction.TheVariants as i
use Rattle.slot_code.specs.declared.reply.Ending.TheVariants as ending
use Rattle.slot_code.specs.Slots.{get}
use Rattle.slot_code.specs.Statements.{Mark, loop_code}
use Rattle.slot_code.specs.Machine.{returned_in}
use Rattle.slot_turn_laws.specs.Turns.{spent_at}
use Rattle.slot_turn_laws.proofs.Lying.{Met, ends, ends_value, seq, Frame, Lies, At, at_moved, split, parts, from, there_from, leads, stops, Keeps, keeps_on, Does, In, Nothing}
use Rattle.slot_laws.proofs.Seeking.{sought}

module _ (c : Frame) (s0 : List ℤ) (end : ℕ) (labels : List ℕ → ℕ) where
  -- the first slot of a statement's values
  abbrev pub d : ℕ
  d = suc c.low

  -- what goes on at a place behind a statement that is left so
  abbrev pub Behind : ℕ → (Exit → State → Met) → ℕ → Exit → Type 0
  Behind t k q exit = (s : List ℤ) (st : State) → st.turns ≤ t → Keeps c d s0 s → from c q s st ≡ k exit st

  -- where a statement is left to
  pub record Leaves (t : ℕ) (k : Exit → State → Met) (broke continued : ℕ) : Type 0 where
    pub broken : Behind t k broke Broke
    pub goes : Behind t k continued Continued
    pub void : Behind t k end (Returned None)
    pub returned : (r : Option ℤ) (s : List ℤ) (st : State) → st.turns ≤ t → Keeps c d s0 s → returned_in s c.low ≡ r → from c (suc end) s st ≡ k (Returned r) st
    pub jumped : (l : List ℕ) (s : List ℤ) (st : State) → st.turns < t → Keeps c d s0 s → from c (labels l) s st ≡ k (Jumped l) st

  pub behind_less : (t t' : ℕ) (k : Exit → State → Met) (q : ℕ) (x : Exit) → t' ≤ t → Behind t k q x → Behind t' k q x
  behind_less t t' k q x le h s st tu ke = h s st (omega (arith, tu, le)) ke

  pub leaves_less : (t t' : ℕ) (k : Exit → State → Met) (b e : ℕ) → t' ≤ t → Leaves t k b e → Leaves t' k b e
  leaves_less t t' k b e le lv = record {
    broken = behind_less t t' k b Broke le lv.broken;
    goes = behind_less t t' k e Continued le lv.goes;
    void = behind_less t t' k end (Returned None) le lv.void;
    returned = λ r s st tu ke is. lv.returned r s st (omega (arith, tu, le)) ke is;
    jumped = λ l s st tu ke. lv.jumped l s st (omega (arith, tu, le)) ke;
  }

  -- what goes on behind what is made of an exit
  abbrev pub through : (Exit → Run Exit) → (Exit → State → Met) → Exit → State → Met
  through f k x st = ends c.asker (f x st) k

  pub pass : (t : ℕ) (k : Exit → State → Met) (f : Exit → Run Exit) (q : ℕ) (x y : Exit) → ((st : State) → f x st ≡ Value y st) → Behind t k q y → Behind t (through f k) q x
  pass t k f q x y e h s st tu ke = h s st tu ke ∙ sym (ap (λ g. ends c.asker g k) (e st) ∙ ends_value c.asker y st k)

  pub leaves_inner : (t : ℕ) (k : Exit → State → Met) (f : Exit → Run Exit) (b e b' e' : ℕ) → ((r : Option ℤ) (st : State) → f (Returned r) st ≡ Value (Returned r) st) → ((l : List ℕ) (st : State) → f (Jumped l) st ≡ Value (Jumped l) st) →
      Behind t (through f k) b' Broke → Behind t (through f k) e' Continued → Leaves t k b e → Leaves t (through f k) b' e'
  leaves_inner t k f b e b' e' fr fj hb hc lv = record {
    broken = hb;
    goes = hc;
    void = pass t k f end (Returned None) (Returned None) (fr None) lv.void;
    returned = λ r s st tu ke is. lv.returned r s st tu ke is ∙ sym (ap (λ g. ends c.asker g k) (fr r st) ∙ ends_value c.asker (Returned r) st k);
    jumped = λ l s st tu ke. lv.jumped l s st tu ke ∙ sym (ap (λ g. ends c.asker g k) (fj l st) ∙ ends_value c.asker (Jumped l) st k);
  }

  -- a statement behind which another one may follow
  pub leaves_pass : (t : ℕ) (k : Exit → State → Met) (f : Exit → Run Exit) (b e : ℕ) → ((st : State) → f Broke st ≡ Value Broke st) → ((st : State) → f Continued st ≡ Value Continued st) →
      ((r : Option ℤ) (st : State) → f (Returned r) st ≡ Value (Returned r) st) → ((l : List ℕ) (st : State) → f (Jumped l) st ≡ Value (Jumped l) st) → Leaves t k b e → Leaves t (through f k) b e
  leaves_pass t k f b e fb fc fr fj lv = leaves_inner t k f b e b e fr fj (pass t k f b Broke Broke fb lv.broken) (pass t k f e Continued Continued fc lv.goes) lv

  -- the places that a statement is left to lie behind it
  pub record Room (q broke continued : ℕ) : Type 0 where
    pub before_broke : q ≤ broke
    pub before_continued : q ≤ continued
    pub before_end : q ≤ end

  pub room_less : (q q' b e : ℕ) → q' ≤ q → Room q b e → Room q' b e
  room_less q q' b e le r = record { before_broke = omega (arith, le, r.before_broke); before_continued = omega (arith, le, r.before_continued); before_end = omega (arith, le, r.before_end) }

  -- what is sought is not there and nothing is done, or the run goes on from there
  abbrev pub Sought : (Exit → State → Met) → ℕ → Option ℕ → Got Exit → List ℤ → State → Type 0
  Sought k p None g s st = g ≡ Value Absent st
  Sought k p (Some m) g s st = from c (p + m) s st ≡ ends c.asker g k

  -- at most so many turns are let to loops
  module _ (n : ℕ) where
    -- from its start a piece of code does what a run says
    abbrev pub Starts : (broke continued place : ℕ) → List Instruction → ℕ → Run Exit → Type 0
    Starts b e p xs m g =
        (t q : ℕ) (s : List ℤ) (st : State) (k : Exit → State → Met) → t ≤ n → q ≡ p + m → At c p xs → Room q b e → st.turns ≤ t → Keeps c d s0 s → Behind t k q Normal → Leaves t k b e → from c p s st ≡ ends c.asker (g st) k

    -- and so from each of these marks
    abbrev pub Seeks : (broke continued place : ℕ) → List Instruction → ℕ → List Mark → (Place → Run Exit) → Type 0
    Seeks b e p xs m ms g =
        (pl : Place) (t q : ℕ) (s : List ℤ) (st : State) (k : Exit → State → Met) → t ≤ n → q ≡ p + m → At c p xs → Room q b e → st.turns ≤ t → Keeps c d s0 s → Behind t k q Normal → Leaves t k b e →
        Sought k p (sought c.model c.way pl ms) (g pl st) s st

    -- a value
    abbrev pub Gives : List Instruction → Run ℤ → Type 0
    Gives xs g = (t : ℕ) → t ≤ n → Does c t ℤ (In c t d) d xs g

    -- what a value leads to
    pub cond_runs : (t p : ℕ) (xs : List Instruction) (g : Run ℤ) (f : ℤ → Run Exit) (s : List ℤ) (st : State) (k : Exit → State → Met) → t ≤ n → Gives xs g → At c p xs → st.turns ≤ t → Keeps c d s0 s →
        ((v : ℤ) (s1 : List ℤ) (st1 : State) → st1.turns ≤ t → Keeps c d s0 s1 → get s1 d ≡ v → from c (p + length xs) s1 st1 ≡ ends c.asker (f v st1) k) → from c p s st ≡ ends c.asker (after (g st) f) k
    cond_runs t p xs g f s st k tn runs l tu ke h =
        seq c.asker ℤ Exit (g st) f k (from c p s st) (runs t tn p (p + length xs) s st (λ v st1. ends c.asker (f v st1) k) refl l tu (λ v s1 st1 tu1 k1 is1. h v s1 st1 tu1 (keeps_on c d s0 s s1 ke k1) is1))

    -- a skip
    pub branch : (m skip : ℕ) (v : ℤ) (s : List ℤ) (st : State) → Lies c m (i.SkipZero d skip) → get s d ≡ v → from c m s st ≡ from c (choose (is_true v) (suc m) (suc m + skip)) s st
    branch m skip v s st l e = leads c m (choose (is_true (get s d)) (suc m) (suc m + skip)) s s st st (i.SkipZero d skip) l refl ∙ ap (λ x. from c (choose (is_true x) (suc m) (suc m + skip)) s st) e

    pub if_starts : (b e p m : ℕ) (xs ys : List Instruction) (g : Run ℤ) (f : Run Exit) → Gives xs g → Starts b e (p + (length xs + 1)) ys m f →
        Starts b e p (xs ++ i.SkipZero d m ∷ ys) (length xs + 1 + m) (λ st. after (g st) (λ v. choose (is_true v) f (give Normal)))
    if_starts b e p m xs ys g f runs body t q s st k tn eq l ro tu ke nb lv =
        let r = split c p xs (i.SkipZero d m ∷ ys) l in
        cond_runs t p xs g (λ v. choose (is_true v) f (give Normal)) s st k tn runs r.0 tu ke (λ v s1 st1 tu1 ke1 is1. branch (p + length xs) m v s1 st1 r.1.0 is1 ∙ go (is_true v) s1 st1 r.1.1 tu1 ke1)
      where
        go : (b : Bool) (s1 : List ℤ) (st1 : State) → At c (suc (p + length xs)) ys → st1.turns ≤ t → Keeps c d s0 s1 → from c (choose b (suc (p + length xs)) (suc (p + length xs) + m)) s1 st1 ≡ ends c.asker (choose b f (give Normal) st1) k
        go true s1 st1 ly tu1 ke1 =
            there_from c (p + (length xs + 1)) (suc (p + length xs)) s1 st1 (ends c.asker (f st1) k) (omega arith) (body t q s1 st1 k tn (omega (arith, eq)) (at_moved c (suc (p + length xs)) (p + (length xs + 1)) ys (omega arith) ly) ro tu1 ke1 nb lv)
        go false s1 st1 ly tu1 ke1 = there_from c q (suc (p + length xs) + m) s1 st1 (ends c.asker (Value Normal st1) k) (omega (arith, eq)) (nb s1 st1 tu1 ke1 ∙ sym (ends_value c.asker Normal st1 k))

    pub else_starts : (b e p m m' : ℕ) (xs ys zs : List Instruction) (g : Run ℤ) (f f' : Run Exit) → length ys ≡ m → Gives xs g → Starts b e (p + (length xs + 1)) ys m f → Starts b e (p + (length xs + 1 + m + 1)) zs m' f' →
        Starts b e p (xs ++ i.SkipZero d (m + 1) ∷ ys ++ i.Jump m' ∷ zs) (length xs + 1 + m + 1 + m') (λ st. after (g st) (λ v. choose (is_true v) f f'))
    else_starts b e p m m' xs ys zs g f f' len runs body body' t q s st k tn eq l ro tu ke nb lv =
        let r = parts c p xs (i.SkipZero d (m + 1) ∷ ys) (i.Jump m' ∷ zs) l in
        cond_runs t p xs g (λ v. choose (is_true v) f f') s st k tn runs r.first tu ke (λ v s1 st1 tu1 ke1 is1. branch (p + length xs) (m + 1) v s1 st1 r.second.0 is1 ∙ go (is_true v) (p + length xs + suc (length ys)) s1 st1 refl r.second.1 r.third tu1 ke1)
      where
        go : (b : Bool) (w : ℕ) (s1 : List ℤ) (st1 : State) → w ≡ p + length xs + suc (length ys) → At c (suc (p + length xs)) ys → At c w (i.Jump m' ∷ zs) → st1.turns ≤ t → Keeps c d s0 s1 →
            from c (choose b (suc (p + length xs)) (suc (p + length xs) + (m + 1))) s1 st1 ≡ ends c.asker (choose b f f' st1) k
        go true w s1 st1 ew ly lz tu1 ke1 =
            there_from c (p + (length xs + 1)) (suc (p + length xs)) s1 st1 (ends c.asker (f st1) k) (omega arith)
            (body t w s1 st1 k tn (omega (arith, ew, len)) (at_moved c (suc (p + length xs)) (p + (length xs + 1)) ys (omega arith) ly) (room_less q w _ _ (omega (arith, eq, ew, len)) ro) tu1 ke1
            (λ s2 st2 tu2 ke2. leads c w (suc w + m') s2 s2 st2 st2 (i.Jump m') lz.0 refl ∙ there_from c q (suc w + m') s2 st2 (k Normal st2) (omega (arith, eq, ew, len)) (nb s2 st2 tu2 ke2)) lv)
        go false w s1 st1 ew ly lz tu1 ke1 =
            there_from c (p + (length xs + 1 + m + 1)) (suc (p + length xs) + (m + 1)) s1 st1 (ends c.asker (f' st1) k) (omega arith)
            (body' t q s1 st1 k tn (omega (arith, eq)) (at_moved c (suc w) (p + (length xs + 1 + m + 1)) zs (omega (arith, ew, len)) lz.1) ro tu1 ke1 nb lv)

    -- ---- Loops

    pub record Round (at T E C B W : ℕ) (xs ys zs : List Instruction) : Type 0 where
      pub test : At c T xs
      pub skip : Lies c (T + length xs) (i.SkipZero d (length ys + length zs + 1))
      pub body : At c B ys
      pub step : At c C zs
      pub back : Lies c W (i.Turn at T)
      pub body_at : B ≡ T + length xs + 1
      pub step_at : C ≡ B + length ys
      pub back_at : W ≡ C + length zs
      pub end_at : E ≡ suc W

    pub round : (at T E C B : ℕ) (xs ys zs : List Instruction) → At c T (loop_code at T d xs ys zs) → B ≡ T + length xs + 1 → C ≡ B + length ys → E ≡ suc (C + length zs) → Round at T E C B (C + length zs) xs ys zs
    round at T E C B xs ys zs l eb ec ee =
        let skip : Instruction = i.SkipZero d (length ys + length zs + 1) in
        let a = split c T ((xs ++ (skip ∷ ys)) ++ zs) (i.Turn at T ∷ []) l in
        let r = parts c T xs (skip ∷ ys) zs a.0 in
        record {
          test = r.first;
          skip = r.second.0;
          body = at_moved c (suc (T + length xs)) B ys (omega (arith, eb)) r.second.1;
          step = at_moved c (T + length xs + suc (length ys)) C zs (omega (arith, eb, ec)) r.third;
          back = (at_moved c (T + length ((xs ++ (skip ∷ ys)) ++ zs)) (C + length zs) (i.Turn at T ∷ []) (omega (arith, eb, ec, r.whole)) a.1).0;
          body_at = eb;
          step_at = ec;
          back_at = refl;
          end_at = ee;
        }

    -- what goes on behind a loop's body
    abbrev pub again : Run (Unit {0}) → Run Exit → Exit → Run Exit
    again h next x = next_turn x (λ st. after (h st) (λ v. next))

    pub record Around (t : ℕ) (k : Exit → State → Met) (h : Run (Unit {0})) (next : Run Exit) (E C : ℕ) : Type 0 where
      pub normal : Behind t (through (again h next) k) C Normal
      pub leaves : Leaves t (through (again h next) k) E C

    -- a third part
    abbrev pub Leads : List Instruction → Run (Unit {0}) → Type 0
    Leads zs h = (t : ℕ) → t ≤ n → Does c t (Unit {0}) (Nothing c t) d zs h

    pub around : (t at T E C B W b e : ℕ) (xs ys zs : List Instruction) (k : Exit → State → Met) (h : Run (Unit {0})) (next : Run Exit) → t ≤ n → Round at T E C B W xs ys zs → Leads zs h →
        ((s : List ℤ) (st : State) → st.turns ≤ t → Keeps c d s0 s → from c W s st ≡ ends c.asker (next st) k) → Behind t k E Normal → Leaves t k b e → Around t k h next E C
    around t at T E C B W b e xs ys zs k h next tn r runs next_runs nb lv =
        let on : (s : List ℤ) (st : State) → st.turns ≤ t → Keeps c d s0 s → from c C s st ≡ ends c.asker (after (h st) (λ v. next)) k =
        λ s st tu ke. seq c.asker (Unit {0}) Exit (h st) (λ v. next) k (from c C s st) (runs t tn C W s st (λ v st1. ends c.asker (next st1) k) r.back_at r.step tu (λ v s1 st1 tu1 k1 is1. next_runs s1 st1 tu1 (keeps_on c d s0 s s1 ke k1))) in
        record { normal = on; leaves = leaves_inner t k (again h next) b e E C (λ x st. refl) (λ l st. refl) (pass t k (again h next) E Broke Normal (λ st. refl) nb) on lv }

    pub spent_turn : (w goal at : ℕ) (s : List ℤ) (store : List (List ℤ)) (taken : ℕ) → Lies c w (i.Turn at goal) → from c w s (record { store = store; taken = taken; turns = zero }) ≡ spent_at c.asker (Spent at store taken)
    spent_turn w goal at s store taken l = stops c w s (record { store = store; taken = taken; turns = zero }) (i.Turn at goal) ending.Spent l refl

    pub taken_turn : (w goal at : ℕ) (s : List ℤ) (store : List (List ℤ)) (taken left : ℕ) → Lies c w (i.Turn at goal) →
        from c w s (record { store = store; taken = taken; turns = suc left }) ≡ from c goal s (record { store = store; taken = taken; turns = left })
    taken_turn w goal at s store taken left l = leads c w goal s s (record { store = store; taken = taken; turns = suc left }) (record { store = store; taken = taken; turns = left }) (i.Turn at goal) l refl

    -- a place at which a turn is taken and the condition of a loop is next
    pub loop_turns : (at T E C B W b e : ℕ) (xs ys zs : List Instruction) (g : Run ℤ) (f : Run Exit) (h : Run (Unit {0})) → Round at T E C B W xs ys zs → Gives xs g → Starts E C B ys (length ys) f → Leads zs h → E ≤ end →
        (m w t : ℕ) (s : List ℤ) (store : List (List ℤ)) (taken turns : ℕ) (k : Exit → State → Met) → t ≤ n → Lies c w (i.Turn at T) → turns ≤ m → turns ≤ t → Keeps c d s0 s → Behind t k E Normal → Leaves t k b e →
        from c w s (record { store = store; taken = taken; turns = turns }) ≡ ends c.asker (loop at m g f h (record { store = store; taken = taken; turns = turns })) k
    unfolding ends
    loop_turns at T E C B W b e xs ys zs g f h r gives body runs room zero w t s store taken zero k tn l tm tu ke nb lv = spent_turn w T at s store taken l
    loop_turns at T E C B W b e xs ys zs g f h r gives body runs room zero w t s store taken (suc left) k tn l tm tu ke nb lv = absurd (omega (arith, tm))
    loop_turns at T E C B W b e xs ys zs g f h r gives body runs room (suc m) w t s store taken zero k tn l tm tu ke nb lv = spent_turn w T at s store taken l
    loop_turns at T E C B W b e xs ys zs g f h r gives body runs room (suc m) w t s store taken (suc left) k tn l tm tu ke nb lv =
        let next : Run Exit = loop at m g f h in
        let st : State = record { store = store; taken = taken; turns = left } in
        let ar : Around left k h next E C = around left at T E C B W b e xs ys zs k h next (omega (arith, tn, tu)) r runs
        (λ s2 st2 tu2 ke2. loop_turns at T E C B W b e xs ys zs g f h r gives body runs room m W left s2 st2.store st2.taken st2.turns k (omega (arith, tn, tu)) r.back (omega (arith, tu2, tm)) tu2 ke2
        (behind_less t left k E Normal (omega (arith, tu)) nb) (leaves_less t left k b e (omega (arith, tu)) lv))
        (behind_less t left k E Normal (omega (arith, tu)) nb) (leaves_less t left k b e (omega (arith, tu)) lv) in
        taken_turn w T at s store taken left l
        ∙ cond_runs left T xs g (λ v. choose (is_true v) (λ st1. after (f st1) (again h next)) (give Normal)) s st k (omega (arith, tn, tu)) gives r.test (omega arith) ke
        (λ v s1 st1 tu1 ke1 is1. branch (T + length xs) (length ys + length zs + 1) v s1 st1 r.skip is1 ∙ go (is_true v) next left s1 st1 (omega (arith, tn, tu)) tu1 ke1 ar (behind_less t left k E Normal (omega (arith, tu)) nb))
      where
        go : (x : Bool) (next : Run Exit) (left : ℕ) (s1 : List ℤ) (st1 : State) → left ≤ n → st1.turns ≤ left → Keeps c d s0 s1 → Around left k h next E C → Behind left k E Normal →
            from c (choose x (suc (T + length xs)) (suc (T + length xs) + (length ys + length zs + 1))) s1 st1 ≡ ends c.asker (choose x (λ st2. after (f st2) (again h next)) (give Normal) st1) k
        go true next left s1 st1 ln tu1 ke1 ar nb =
            there_from c B (suc (T + length xs)) s1 st1 _ (omega (arith, r.body_at))
            (seq c.asker Exit Exit (f st1) (again h next) k (from c B s1 st1) (body left C s1 st1 (through (again h next) k) ln r.step_at r.body (record { before_broke = omega (arith, r.end_at, r.back_at); before_continued = omega arith; before_end = omega (arith, r.end_at, r.back_at, room) }) tu1 ke1 ar.normal ar.leaves))
        go false next left s1 st1 ln tu1 ke1 ar nb = there_from c E (suc (T + length xs) + (length ys + length zs + 1)) s1 st1 _ (omega (arith, r.end_at, r.back_at, r.step_at, r.body_at)) (nb s1 st1 tu1 ke1)
