-- The code of a function's body does what a call says, with its jumps to labels, and comes back.
use Rattle.std.proofs.Common.{◌≡◌, ℕ, zero, suc, ◌+◌, ◌<◌, ◌≤◌, List, [], ◌∷◌, Option, Some, None, ℤ, pos, slice_get, refl, sym, ap, ◌∙◌, arith}
use Rattle.lv_base.specs.declared.kind.Kind.{Kind}
use Rattle.c_run.specs.Run.{State, Got, Value, Run, after, choose, is_true, Compute}
use Rattle.c_run.specs.Loops.{toLabel, From, Start, Seek, Exit, Normal, Broke, Continued, Returned, Calls, left_by, enter}
use Rattle.c_typed.specs.Tree.{Steps, Function, Program}
use Rattle.c_typed.specs.Rules.{all_of_all, calls_of}
use Rattle.typed_range_laws.specs.Keeping as keeping
use Rattle.typed_range_laws.specs.Ways.{Way}
use Rattle.slot_code.specs.declared.flat.Instruction.{Instruction}
use Rattle.slot_code.specs.declared.flat.Instruction.TheVariants as i
use Rattle.slot_code.specs.Slots.{get, put}
use Rattle.slot_code.specs.Values.{Link}
use Rattle.slot_code.specs.Statements.{Mark, label_in, marks_in, size_in, steps_code, or_place}
use Rattle.slot_code.specs.Programs.{body_end, function_code}
use Rattle.slot_code.specs.Machine.{returned_in}
use Rattle.slot_laws.proofs.Lying.{put_same}
use Rattle.slot_turn_laws.specs.Turns.{NoCallAt}
use Rattle.slot_laws.proofs.Lying as below
use Rattle.slot_laws.proofs.Functioning as standing
use Rattle.slot_turn_laws.proofs.Lying.{Met, ends, ends_value, seq, Frame, Lies, At, from, leads, Keeps, keeps_on, keeps_put}
use Rattle.slot_laws.proofs.Calling.{Linked}
use Rattle.slot_turn_laws.proofs.Calling.{Called}
use Rattle.slot_laws.proofs.Seeking.{sought, label_sought}
use Rattle.slot_turn_laws.proofs.Leaving.{Behind, Leaves, Room, Sought}
use Rattle.slot_laws.proofs.Linking.{ValuesLinked}
use Rattle.slot_turn_laws.proofs.Stating.{start_all, seek_all}

-- ---- Bodies

module _ (c : Frame) (s0 : List ℤ) (n : ℕ) (hc : (t : ℕ) → t ≤ n → Called c t) (result : Option Kind) (body : Steps) (place : ℕ) (li : ValuesLinked c.links (all_of_all body)) where
  abbrev marks : List Mark
  marks = marks_in c.model c.objects c.functions c.links result (suc c.low) body

  -- behind the body
  abbrev end : ℕ
  end = place + size_in c.model c.objects c.functions c.links result (suc c.low) body

  abbrev moved_place : Option ℕ → Option ℕ
  moved_place o = elim o [ None ↦ None | Some m ↦ Some (place + m) ]

  abbrev labels : List ℕ → ℕ
  labels name = or_place end (moved_place (label_in name marks))

  abbrev code : List Instruction
  code = steps_code c.model c.objects c.functions c.links result (suc c.low) end labels end end place body

  abbrev run : From → Run Exit
  run from' = keeping.exec_all c.model c.objects c.compute c.way c.inputs c.call result n body from'

  -- where the call goes on, at so many turns
  abbrev pub Back : ℕ → (Option ℤ → State → Met) → Type 0
  Back t k = (r : Option ℤ) (s : List ℤ) (st : State) → st.turns ≤ t → Keeps c (suc c.low) s0 s → returned_in s c.low ≡ r → from c (suc end) s st ≡ k r st

  back_less : (t t' : ℕ) (k : Option ℤ → State → Met) → t' ≤ t → Back t k → Back t' k
  back_less t t' k le h r s st tu ke is = h r s st (omega (arith, tu, le)) ke is

  module _ (lies : At c place code) (last : Lies c end (i.Constant (suc (suc c.low)) (pos 0))) where
    -- without a value
    void : (t : ℕ) (k : Option ℤ → State → Met) → Back t k → (s : List ℤ) (st : State) → st.turns ≤ t → Keeps c (suc c.low) s0 s → from c end s st ≡ k None st
    void t k h s st tu ke =
        let slot : ℕ = suc (suc c.low) in
        let s1 : List ℤ = put s slot (pos 0) in
        leads c end (suc end) s s1 st st (i.Constant slot (pos 0)) last refl
        ∙ h None s1 st tu (keeps_on c (suc c.low) s0 s s1 ke (keeps_put c (suc c.low) s slot (pos 0) (omega arith) (omega (arith, last.below)))) (ap (λ x. choose (is_true x) (Some (get s1 (suc c.low))) None) (put_same s slot (pos 0)))

    abbrev behind : (List ℕ → Run (Option ℤ)) → (Option ℤ → State → Met) → Exit → State → Met
    behind f k x st = ends c.asker (left_by x f st) k

    ended : (t : ℕ) (k : Option ℤ → State → Met) (f : List ℕ → Run (Option ℤ)) (x : Exit) → ((st : State) → left_by x f st ≡ Value None st) → Back t k → Behind c s0 end labels t (behind f k) end x
    ended t k f x e h s st tu ke = void t k h s st tu ke ∙ sym (ap (λ g. ends c.asker g k) (e st) ∙ ends_value c.asker None st k)

    leaves : (t : ℕ) (k : Option ℤ → State → Met) (f : List ℕ → Run (Option ℤ)) → Back t k → ((l : List ℕ) (s : List ℤ) (st : State) → st.turns < t → Keeps c (suc c.low) s0 s → from c (labels l) s st ≡ ends c.asker (f l st) k) →
        Leaves c s0 end labels t (behind f k) end end
    leaves t k f h jumps = record {
      broken = ended t k f Broke (λ st. refl) h;
      goes = ended t k f Continued (λ st. refl) h;
      void = ended t k f (Returned None) (λ st. refl) h;
      returned = λ r s st tu ke is. h r s st tu ke is ∙ sym (ends_value c.asker r st k);
      jumped = jumps;
    }

    room : Room c s0 end labels end end end
    room = record { before_broke = omega arith; before_continued = omega arith; before_end = omega arith }

    sought_left : (t : ℕ) (k : Option ℤ → State → Met) (f : List ℕ → Run (Option ℤ)) (o : Option ℕ) (g : Got Exit) (s : List ℤ) (st : State) → Back t k → st.turns ≤ t → Keeps c (suc c.low) s0 s → Sought c s0 end labels (behind f k) place o g s st →
        from c (or_place end (moved_place o)) s st ≡ ends c.asker (after g (λ x. left_by x f)) k
    sought_left t k f None g s st h tu ke e = void t k h s st tu ke ∙ sym (ap (λ x. ends c.asker (after x (λ y. left_by y f)) k) e ∙ ends_value c.asker None st k)
    sought_left t k f (Some m) g s st h tu ke e = seq c.asker Exit (Option ℤ) g (λ x. left_by x f) k (from c (place + m) s st) e

    -- behind a jump
    jump_runs : (m : ℕ) (l : List ℕ) (s : List ℤ) (st : State) (k : Option ℤ → State → Met) → st.turns < m → st.turns ≤ n → Keeps c (suc c.low) s0 s → Back st.turns k → from c (labels l) s st ≡ ends c.asker (enter m run (Seek (toLabel l)) st) k
    jump_runs zero l s st k lt tn ke h = absurd (omega (arith, lt))
    jump_runs (suc m) l s st k lt tn ke h =
        let f : List ℕ → Run (Option ℤ) = λ x. enter m run (Seek (toLabel x)) in
        let lv = leaves st.turns k f h (λ x s1 st1 lt1 ke1. jump_runs m x s1 st1 k (omega (arith, lt, lt1)) (omega (arith, tn, lt1)) ke1 (back_less st.turns st1.turns k (omega (arith, lt1)) h)) in
        let e : Sought c s0 end labels (behind f k) place (sought c.model c.way (toLabel l) marks) (run (Seek (toLabel l)) st) s st =
        seek_all c s0 end labels n hc result body end end place li (toLabel l) st.turns end s st (behind f k) tn refl lies room (omega arith) ke (ended st.turns k f Normal (λ x. refl) h) lv in
        ap (λ o. from c (or_place end (moved_place o)) s st) (label_sought c.model c.way l marks) ∙ sought_left st.turns k f (sought c.model c.way (toLabel l) marks) (run (Seek (toLabel l)) st) s st h (omega arith) ke e

    pub enter_runs : (m : ℕ) (s : List ℤ) (st : State) (k : Option ℤ → State → Met) → st.turns ≤ m → st.turns ≤ n → Keeps c (suc c.low) s0 s → Back st.turns k → from c place s st ≡ ends c.asker (enter (suc m) run Start st) k
    enter_runs m s st k le tn ke h =
        let f : List ℕ → Run (Option ℤ) = λ x. enter m run (Seek (toLabel x)) in
        let lv = leaves st.turns k f h (λ x s1 st1 lt1 ke1. jump_runs m x s1 st1 k (omega (arith, le, lt1)) (omega (arith, tn, lt1)) ke1 (back_less st.turns st1.turns k (omega (arith, lt1)) h)) in
        seq c.asker Exit (Option ℤ) (run Start st) (λ x. left_by x f) k (from c place s st)
        (start_all c s0 end labels n hc result body end end place li st.turns end s st (behind f k) tn refl lies room (omega arith) ke (ended st.turns k f Normal (λ x. refl) h) lv)

-- ---- Functions that stand before others

module _ (program : Program) (compute : Compute) (way : Way) (inputs : List ℤ) (code : List Instruction) (asker : ℕ) (uncalled : NoCallAt code asker) where
  abbrev pub frame : List Link → Calls → (low top start : ℕ) → Frame
  frame links call low top start = record {
    model = program.model;
    objects = program.objects;
    functions = program.functions;
    compute = compute;
    way = way;
    inputs = inputs;
    links = links;
    code = code;
    call = call;
    low = low;
    top = top;
    start = start;
    asker = asker;
    uncalled = uncalled;
  }

  -- a function's code lies there, before this place, its slots are below this number, and those that it calls stand before it
  pub record StandsFor (number : ℕ) (l : Link) (links : List Link) (place slots : ℕ) : Type 0 where
    pub f : Function
    pub there : slice_get program.functions number ≡ Some f
    pub top : ℕ
    pub top_in : top ≤ slots
    pub slot_in : l.slot < slots
    pub entry_in : l.entry ≤ place
    pub before : suc (body_end program links l.slot l.entry f) < place
    pub lies : (call : Calls) → At (frame links call l.slot top l.entry) l.entry (function_code program links l.slot l.entry f)
    pub linked : Linked links (calls_of (all_of_all f.body))

  abbrev pub Stands : List Link → ℕ → ℕ → Type 0
  Stands [] place slots = Unit {0}
  Stands (l ∷ ls) place slots = StandsFor l.function l ls place slots × Stands ls l.entry l.slot

  -- one of them
  pub record One (number : ℕ) (l : Link) (place slots : ℕ) : Type 0 where
    pub links : List Link
    pub this : StandsFor number l links place slots
    pub others : Stands links l.entry l.slot

  pub one_less : (number : ℕ) (l : Link) (place place' slots slots' : ℕ) → place ≤ place' → slots ≤ slots' → One number l place slots → One number l place' slots'
  one_less number l place place' slots slots' a b o =
      record {
        links = o.links;
        this = record {
          f = o.this.f;
          there = o.this.there;
          top = o.this.top;
          top_in = omega (arith, b, o.this.top_in);
          slot_in = omega (arith, b, o.this.slot_in);
          entry_in = omega (arith, a, o.this.entry_in);
          before = omega (arith, a, o.this.before);
          lies = o.this.lies;
          linked = o.this.linked;
        };
        others = o.others;
      }

  -- so it lies where it does by the laws of how code ends
  lies-here : (links : List Link) (call : Calls) (low top start place : ℕ) (xs : List Instruction) → below.At (standing.frame program compute way inputs code links call low top start) place xs → At (frame links call low top start) place xs
  lies-here links call low top start place [] h = tt
  lies-here links call low top start place (x ∷ xs) h = (record { there = h.0.there; below = h.0.below; behind = h.0.behind }, lies-here links call low top start (suc place) xs h.1)

  pub stands-here : (links : List Link) (place slots : ℕ) → standing.Stands program compute way inputs code links place slots → Stands links place slots
  stands-here [] place slots h = tt
  stands-here (l ∷ links) place slots h = (
    record {
      f = h.0.f;
      there = h.0.there;
      top = h.0.top;
      top_in = h.0.top_in;
      slot_in = h.0.slot_in;
      entry_in = h.0.entry_in;
      before = h.0.before;
      lies = λ call. lies-here links call l.slot h.0.top l.entry l.entry (function_code program links l.slot l.entry h.0.f) (h.0.lies call);
      linked = h.0.linked;
    },
    stands-here links l.entry l.slot h.1,
  )
