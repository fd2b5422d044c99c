-- What loops and functions of the compiler give, by the answers of the calls in them.
use Rattle.std.proofs.Common.{◌≡◌, ℕ, zero, suc, map, ◌<◌, ◌+◌, List, [], ◌∷◌, ◌++◌, length, take, drop, get_or, Option, Some, Result, Ok, Err, refl, ap, ◌∙◌, sym, Vec, Global, arith}
use Rattle.std.specs.Prelude.{IfOk, max, slice_get}
use Rattle.std.proofs.lemmas.List.{drop_more}
use Rattle.step_values.proofs.Rows.{take_more}
use Rattle.lv_base.specs.declared.kind.Kind.{Kind}
use Rattle.lv_base.specs.declared.kind.Model.{Model}
use Rattle.c_typed.specs.declared.tree.Function.{Function}
use Rattle.c_typed.specs.Tree as t
use Rattle.c_typed.specs.View.{function_of}
use Rattle.slot_code.specs.declared.flat.Instruction.{Instruction}
use Rattle.slot_code.specs.Slots.{slots_of, slots_in}
use Rattle.slot_code.specs.Values as c
use Rattle.slot_code.specs.Statements as s
use Rattle.slot_code.specs.Programs as p
use Rattle.slot_values.specs.declared.scene.Scene.{Scene}
use Rattle.slot_values.specs.Seen.{objects_of, functions_of}
use Rattle.slot_statements.specs.declared.frames.Frame.{Frame}
use Rattle.slot_statements.specs.Measures as me
use Rattle.slot_statements.specs.Seen as seen
use Rattle.slot_compiler.specs.Bodies.{label_place, code_of, body_steps}

-- ---- Slots

slots_behind : (xs : List Instruction) (x : Instruction) → slots_in (xs ++ x ∷ []) ≡ max (slots_in xs) (slots_of x)
slots_behind [] x = let e : max (slots_of x) 0 ≡ max 0 (slots_of x) = omega arith in e
slots_behind (y ∷ xs) x =
    ap (max (slots_of y)) (slots_behind xs x) ∙ (let e : max (slots_of y) (max (slots_in xs) (slots_of x)) ≡ max (max (slots_of y) (slots_in xs)) (slots_of x) = omega arith in e)

pub slots_joined : (xs ys : List Instruction) → slots_in (xs ++ ys) ≡ max (slots_in xs) (slots_in ys)
slots_joined [] ys = let e : slots_in ys ≡ max 0 (slots_in ys) = omega arith in e
slots_joined (x ∷ xs) ys =
    ap (max (slots_of x)) (slots_joined xs ys) ∙ (let e : max (slots_of x) (max (slots_in xs) (slots_in ys)) ≡ max (max (slots_of x) (slots_in xs)) (slots_in ys) = omega arith in e)

pub slots_step : (xs : List Instruction) (i : ℕ) (d : Instruction) (old own new : ℕ) → i < length xs → old ≡ slots_in (take i xs) → own ≡ slots_of (get_or xs i d) → new ≡ max old own → new ≡ slots_in (take (i + 1) xs)
slots_step xs i d old own new h m o n =
    n ∙ ap (λ z. max z own) m ∙ ap (max (slots_in (take i xs))) o ∙ sym (slots_behind (take i xs) (get_or xs i d)) ∙ ap slots_in (sym (take_more xs i d h))

pub slots_more : (xs ys all : List Instruction) (old own new : ℕ) → old ≡ slots_in xs → own ≡ slots_in ys → new ≡ max old own → all ≡ xs ++ ys → new ≡ slots_in all
slots_more xs ys all old own new m o n a = n ∙ ap (λ z. max z own) m ∙ ap (max (slots_in xs)) o ∙ sym (slots_joined xs ys) ∙ ap slots_in (sym a)

-- ---- Bodies

abbrev framed : Scene → Model → Option Kind → ℕ → Frame
framed scene model kind slot = record { scene = scene; model = model; result = kind; slot = slot }

-- statements over a frame, with the places of the labels
abbrev laid : Frame → (end place : ℕ) → (List ℕ → ℕ) → t.Steps → List Instruction
laid f end place labels ss = s.steps_code f.model (objects_of f.scene) (functions_of f.scene) f.scene.links.now f.result f.slot end labels end end place ss

pub body_is : (scene : Scene) (model : Model) (kind : Option Kind) (slot next place end : ℕ) (ss : t.Steps) (labels : List s.Mark) (m : me.Measure) (code : List Instruction) → next ≡ suc slot → m ≡ seen.measured_all (framed scene model kind next) ss → end ≡ place + m.size →
    labels ≡ m.marks → code ≡ laid (framed scene model kind next) end place (label_place end place labels) ss → code ≡ body_steps scene model kind slot place ss
body_is scene model kind slot next place end ss labels m code x g e k n =
    n ∙ ap (λ z. laid (framed scene model kind next) end place (label_place end place z) ss) k
    ∙ ap (λ z. laid (framed scene model kind next) z place (label_place z place m.marks) ss) e
    ∙ ap (λ (z : me.Measure). laid (framed scene model kind next) (place + z.size) place (label_place (place + z.size) place z.marks) ss) g
    ∙ ap (λ z. laid (framed scene model kind z) (place + (seen.measured_all (framed scene model kind z) ss).size) place (label_place (place + (seen.measured_all (framed scene model kind z) ss).size) place (seen.measured_all (framed scene model kind z) ss).marks) ss) x

pub body_gives : {B : Type 0} (scene : Scene) (model : Model) (kind : Option Kind) (slot next place end : ℕ) (ss : t.Steps) (labels : List s.Mark) (m : me.Measure) (o : Result (Vec Instruction Global) B) → next ≡ suc slot → m ≡ seen.measured_all (framed scene model kind next) ss → end ≡ place + m.size →
    labels ≡ m.marks → IfOk o (λ r. r.items ≡ laid (framed scene model kind next) end place (label_place end place labels) ss) → IfOk o (λ r. r.items ≡ body_steps scene model kind slot place ss)
body_gives scene model kind slot next place end ss labels m (Ok r) x g e k n = body_is scene model kind slot next place end ss labels m r.items x g e k n
body_gives scene model kind slot next place end ss labels m (Err r) x g e k n = n

-- ---- Programs

abbrev link_at : (number entry slot : ℕ) → c.Link
link_at number entry slot = record { function = number; entry = entry; slot = slot }

abbrev both : List Instruction → List c.Link → p.Code
both xs ls = record { instructions = xs; links = ls }

pub function_more : (program : t.Program) (old : p.Code) (number : ℕ) (f : t.Function) (model : Model) (objects : List t.Object) (functions : List t.Function) (slot entry : ℕ) (own new : List Instruction) (links : List c.Link) →
    model ≡ program.model → objects ≡ program.objects → functions ≡ program.functions → slot ≡ slots_in old.instructions → entry ≡ length old.instructions →
    own ≡ code_of model objects functions old.links f.result slot entry f.body → new ≡ old.instructions ++ own → links ≡ link_at number entry slot ∷ old.links →
    both new links ≡ p.with_function program old number (Some f)
function_more program old number f model objects functions slot entry own new links m o g k e c' n l =
    ap (λ z. both z links) n ∙ ap (both (old.instructions ++ own)) l
    ∙ ap (λ z. both (old.instructions ++ z) (link_at number entry slot ∷ old.links)) c'
    ∙ ap (λ z. both (old.instructions ++ code_of model objects functions old.links f.result z entry f.body) (link_at number entry z ∷ old.links)) k
    ∙ ap (λ z. both (old.instructions ++ code_of model objects functions old.links f.result (slots_in old.instructions) z f.body) (link_at number z (slots_in old.instructions) ∷ old.links)) e
    ∙ ap (λ z. both (old.instructions ++ code_of z objects functions old.links f.result (slots_in old.instructions) (length old.instructions) f.body) (link_at number (length old.instructions) (slots_in old.instructions) ∷ old.links)) m
    ∙ ap (λ z. both (old.instructions ++ code_of program.model z functions old.links f.result (slots_in old.instructions) (length old.instructions) f.body) (link_at number (length old.instructions) (slots_in old.instructions) ∷ old.links)) o
    ∙ ap (λ z. both (old.instructions ++ code_of program.model program.objects z old.links f.result (slots_in old.instructions) (length old.instructions) f.body) (link_at number (length old.instructions) (slots_in old.instructions) ∷ old.links)) g

found_in : (fs : List Function) (number : ℕ) (f : Function) → slice_get fs number ≡ Some f → slice_get (map function_of fs) number ≡ Some (function_of f)
found_in [] zero f h = cc
found_in [] (suc n) f h = cc
found_in (x ∷ fs) zero f h = let e : x ≡ f = cc in ap (λ y. Some (function_of y)) e
found_in (x ∷ fs) (suc n) f h = found_in fs n f h

pub fetched : (fs : List Function) (n : ℕ) (d : Function) → n < length fs → slice_get fs n ≡ Some (get_or fs n d)
fetched [] n d h = absurd (omega (arith, h))
fetched (x ∷ fs) zero d h = refl
fetched (x ∷ fs) (suc n) d h = fetched fs n d (omega (arith, h))

-- a function that is there
pub function_found : {A B : Type 0} (code : A → p.Code) (program : t.Program) (old : p.Code) (number : ℕ) (fs : List Function) (f : Function) (o : Result A B) → program.functions ≡ map function_of fs → slice_get fs number ≡ Some f →
    IfOk o (λ b. code b ≡ p.with_function program old number (Some (function_of f))) → IfOk o (λ b. code b ≡ p.with_function program old number (slice_get program.functions number))
function_found code program old number fs f (Ok b) g h k = k ∙ ap (p.with_function program old number) (sym (found_in fs number f h)) ∙ ap (λ z. p.with_function program old number (slice_get z number)) (sym g)
function_found code program old number fs f (Err b) g h k = k

pub order_step : (program : t.Program) (xs : List ℕ) (i d : ℕ) (old new all : p.Code) → i < length xs → p.code_behind program old (drop i xs) ≡ all →
    new ≡ p.with_function program old (get_or xs i d) (slice_get program.functions (get_or xs i d)) → p.code_behind program new (drop (i + 1) xs) ≡ all
order_step program xs i d old new all h m n = ap (λ z. p.code_behind program z (drop (i + 1) xs)) n ∙ ap (p.code_behind program old) (sym (drop_more xs i d h)) ∙ m
