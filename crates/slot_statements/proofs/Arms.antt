-- What arms and loops of statements give, by the answers of the calls in them.
use Rattle.std.proofs.Common.{◌≡◌, ℕ, ◌<◌, ◌+◌, List, ◌++◌, length, take, get_or, Option, Result, Ok, Err, ap, ◌∙◌, sym, Vec, Global}
use Rattle.std.specs.Prelude.{IfOk, Box}
use Rattle.c_typed.specs.declared.tree.Value.{Value}
use Rattle.c_typed.specs.declared.tree.Step.{Step}
use Rattle.c_typed.specs.declared.tree.Step.TheVariants as st
use Rattle.c_typed.specs.View.{step, steps_of, option_value}
use Rattle.step_values.proofs.Views.{step_Block, step_For}
use Rattle.step_values.proofs.Rows.{steps_taken}
use Rattle.slot_code.specs.declared.flat.Instruction.{Instruction}
use Rattle.slot_code.specs.Statements as c
use Rattle.slot_statements.specs.declared.frames.Frame.{Frame}
use Rattle.slot_statements.specs.declared.frames.Exits.{Exits}
use Rattle.slot_statements.specs.declared.frames.Aims.{Aims}
use Rattle.slot_statements.specs.declared.measures.Measure.{Measure}
use Rattle.slot_statements.specs.Aiming.{beyond, loop_aims}
use Rattle.slot_statements.specs.Joints.{for_step}
use Rattle.slot_statements.specs.Measures as me
use Rattle.slot_statements.specs.Seen.{measure_of, measured, measured_all, test_size, effect_size, step_code, steps_code}

module _ (f : Frame) where
  -- ---- Sizes

  pub size_step : (xs : List Step) (i : ℕ) (x : Step) (old own new : ℕ) → i < length xs → x ≡ get_or xs i x → old ≡ (measured_all f (steps_of (take i xs))).size → own ≡ (measured f (step x)).size → new ≡ old + own →
      new ≡ (measured_all f (steps_of (take (i + 1) xs))).size
  size_step xs i x old own new h k m o n =
      n ∙ ap (λ z. z + own) m ∙ ap (λ z. (measured_all f (steps_of (take i xs))).size + z) o
      ∙ ap (λ y. (measured_all f (steps_of (take i xs))).size + (measured f (step y)).size) k
      ∙ ap (λ z. (measured_all f z).size) (sym (steps_taken xs i x h))

  pub marks_step : (xs : List Step) (i : ℕ) (x : Step) (size : ℕ) (own : me.Measure) (old new : List c.Mark) → i < length xs → x ≡ get_or xs i x → size ≡ (measured_all f (steps_of (take i xs))).size →
      old ≡ (measured_all f (steps_of (take i xs))).marks → own ≡ measured f (step x) → new ≡ old ++ c.moved size own.marks → new ≡ (measured_all f (steps_of (take (i + 1) xs))).marks
  marks_step xs i x size own old new h k s m o n =
      n ∙ ap (λ z. z ++ c.moved size own.marks) m
      ∙ ap (λ z. (measured_all f (steps_of (take i xs))).marks ++ c.moved z own.marks) s
      ∙ ap (λ (z : me.Measure). (measured_all f (steps_of (take i xs))).marks ++ c.moved (measured_all f (steps_of (take i xs))).size z.marks) o
      ∙ ap (λ y. (measured_all f (steps_of (take i xs))).marks ++ c.moved (measured_all f (steps_of (take i xs))).size (measured f (step y)).marks) k
      ∙ ap (λ z. (measured_all f z).marks) (sym (steps_taken xs i x h))

  pub block_measured : {B : Type 0} (x : Step) (ss : Vec Step Global) (list : List Step) (o : Result Measure B) → x ≡ st.Block ss → list ≡ ss.items →
      IfOk o (λ m. measure_of m ≡ measured_all f (steps_of list)) → IfOk o (λ m. measure_of m ≡ measured f (step x))
  block_measured x ss list (Ok m) p q h =
      h ∙ ap (λ z. measured_all f (steps_of z)) q ∙ sym (ap (λ z. measured f (step z)) p ∙ ap (measured f) (step_Block ss))
  block_measured x ss list (Err e) p q h = h

  pub for_measured : {B : Type 0} (x : Step) (at : ℕ) (ss : Vec Step Global) (v w : Option (Box Value Global)) (b : Box Step Global) (list : List Step) (inner : Step) (before : ℕ) (body : me.Measure) (o : Result Measure B) →
      x ≡ st.For at ss v w b → list ≡ ss.items → inner ≡ b.value → before ≡ (measured_all f (steps_of list)).size → body ≡ measured f (step inner) →
      IfOk o (λ m. measure_of m ≡ me.looped before (test_size f (option_value v)) (effect_size f (option_value w)) body) → IfOk o (λ m. measure_of m ≡ measured f (step x))
  for_measured x at ss v w b list inner before body (Ok m) p q i s d n =
      n ∙ ap (λ z. me.looped z (test_size f (option_value v)) (effect_size f (option_value w)) body) (s ∙ ap (λ z. (measured_all f (steps_of z)).size) q)
      ∙ ap (me.looped (measured_all f (steps_of ss.items)).size (test_size f (option_value v)) (effect_size f (option_value w))) (d ∙ ap (λ z. measured f (step z)) i)
      ∙ sym (ap (λ z. measured f (step z)) p ∙ ap (measured f) (step_For at ss v w b))
  for_measured x at ss v w b list inner before body (Err k) p q i s d n = n

  -- ---- Code

  module _ (e : Exits) (a : Aims) where
    pub code_step : (xs : List Step) (i : ℕ) (x : Step) (size : ℕ) (aims : Aims) (old own new : List Instruction) → i < length xs → x ≡ get_or xs i x → size ≡ (measured_all f (steps_of (take i xs))).size →
        old ≡ steps_code f e a (steps_of (take i xs)) → aims ≡ beyond a size → own ≡ step_code f e aims (step x) → new ≡ old ++ own → new ≡ steps_code f e a (steps_of (take (i + 1) xs))
    code_step xs i x size aims old own new h k s m g o n =
        n ∙ ap (λ z. z ++ own) m ∙ ap (λ z. steps_code f e a (steps_of (take i xs)) ++ z) (o ∙ ap (λ z. step_code f e z (step x)) (g ∙ ap (beyond a) s))
        ∙ ap (λ y. steps_code f e a (steps_of (take i xs)) ++ step_code f e (beyond a (measured_all f (steps_of (take i xs))).size) (step y)) k
        ∙ ap (steps_code f e a) (sym (steps_taken xs i x h))

    pub block_code : {B : Type 0} (x : Step) (ss : Vec Step Global) (list : List Step) (o : Result (Vec Instruction Global) B) → x ≡ st.Block ss → list ≡ ss.items →
        IfOk o (λ r. r.items ≡ steps_code f e a (steps_of list)) → IfOk o (λ r. r.items ≡ step_code f e a (step x))
    block_code x ss list (Ok r) p q h =
        h ∙ ap (λ z. steps_code f e a (steps_of z)) q ∙ sym (ap (λ z. step_code f e a (step z)) p ∙ ap (step_code f e a) (step_Block ss))
    block_code x ss list (Err k) p q h = h

    pub for_code : {B : Type 0} (x : Step) (at : ℕ) (ss : Vec Step Global) (v w : Option (Box Value Global)) (b : Box Step Global) (list list2 list3 : List Step) (inner inner2 : Step) (inside : Aims) (place : ℕ) (begins body : List Instruction) (o : Result (Vec Instruction Global) B) →
        x ≡ st.For at ss v w b → list ≡ ss.items → list2 ≡ ss.items → list3 ≡ ss.items → inner ≡ b.value → inner2 ≡ b.value →
        inside ≡ loop_aims a.place (measured_all f (steps_of list)).size (test_size f (option_value v)) (measured f (step inner)).size (effect_size f (option_value w)) → place ≡ a.place + (measured_all f (steps_of list2)).size →
        begins ≡ steps_code f e a (steps_of list3) → body ≡ step_code f e inside (step inner2) →
        IfOk o (λ r. r.items ≡ for_step f at place begins (option_value v) (option_value w) body) → IfOk o (λ r. r.items ≡ step_code f e a (step x))
    for_code x at ss v w b list list2 list3 inner inner2 inside place begins body (Ok r) p q q2 q3 i i2 m l g d n =
        n ∙ ap (λ z. for_step f at z begins (option_value v) (option_value w) body) (l ∙ ap (λ z. a.place + (measured_all f (steps_of z)).size) q2)
        ∙ ap (λ z. for_step f at (a.place + (measured_all f (steps_of ss.items)).size) z (option_value v) (option_value w) body) (g ∙ ap (λ z. steps_code f e a (steps_of z)) q3)
        ∙ ap (for_step f at (a.place + (measured_all f (steps_of ss.items)).size) (steps_code f e a (steps_of ss.items)) (option_value v) (option_value w))
        (d ∙ ap (λ z. step_code f e inside (step z)) i2
        ∙ ap (λ z. step_code f e z (step b.value))
        (m ∙ ap (λ z. loop_aims a.place (measured_all f (steps_of z)).size (test_size f (option_value v)) (measured f (step inner)).size (effect_size f (option_value w))) q
        ∙ ap (λ z. loop_aims a.place (measured_all f (steps_of ss.items)).size (test_size f (option_value v)) (measured f (step z)).size (effect_size f (option_value w))) i))
        ∙ sym (ap (λ z. step_code f e a (step z)) p ∙ ap (step_code f e a) (step_For at ss v w b))
    for_code x at ss v w b list list2 list3 inner inner2 inside place begins body (Err r) p q q2 q3 i i2 m l g d n = n
