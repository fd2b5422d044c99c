-- The run of a typed tree's code from where `main` stands, which ends as the tree's.
use Rattle.std.proofs.Common.{◌≡◌, ℕ, List, length, Option, Some, None, Result, Ok, Err, refl, sym, ap, ◌∙◌, subst, ℤ, pos, replicate}
use Rattle.std.specs.Prelude.{map, IfOk, option_map}
use Rattle.lv_base.specs.declared.kind.Model.{Model}
use Rattle.c_run.specs.Run.{State}
use Rattle.c_typed.specs.Tree.{Program}
use Rattle.c_typed.specs.Run as typed
use Rattle.c_typed.specs.declared.tree.Function.{Function}
use Rattle.c_typed.specs.View.{function_of}
use Rattle.c_typed.specs.Facts.{IsTyped}
use Rattle.c_typed.specs.Parts.{Parts, tree_of}
use Rattle.call_order.specs.Order as calls
use Rattle.slot_code.specs.declared.flat.Instruction.{Instruction}
use Rattle.slot_code.specs.declared.reply.Ending.{Ending}
use Rattle.slot_code.specs.Slots.{put}
use Rattle.slot_code.specs.Programs.{Code, code_of}
use Rattle.slot_code.specs.Values.{Link}
use Rattle.slot_code.specs.Machine.{machine, ending_of, main_link, run_code}
use Rattle.slot_laws.specs.Laws.{IsOrder}
use Rattle.slot_laws.proofs.Whole.{runs_as_tree}
use Rattle.slot_values.specs.declared.scene.Link as rust
use Rattle.slot_values.specs.Seen.{link_of}
use Rattle.slot_board.specs.Seen.{state}
use Rattle.run_replay.specs.Replays.{OrdersAgree}
use Rattle.run_events.specs.declared.trail.Trail.{Trail}
use Rattle.run_events.specs.Told.{start}
use Rattle.run_trace.specs.Runs.{Followed, followed, steps_of, follow_from, slots_for, follow_main, follow_code, follow}
use Rattle.run_trace.proofs.Following.{walk_ends}

-- ---- The ending

code_ends : (program : Program) (code : Code) (link : Option Link) (inputs : List ℤ) (turns most : ℕ) →
    (follow_code program code link inputs turns most).ending ≡ run_code program code (replicate (slots_for code.instructions link) (pos 0)) link inputs turns
code_ends program code None inputs turns most = refl
code_ends program code (Some l) inputs turns most =
    let slots : List ℤ = replicate (slots_for code.instructions (Some l)) (pos 0) in
    let m = machine l.entry (put slots l.slot (pos (length code.instructions))) (state (typed.start_store program.objects) 0 turns) in
    walk_ends program.model inputs code.instructions (steps_of program.model inputs code.instructions m) m (start most)

follow_ends : (program : Program) (order : List ℕ) (inputs : List ℤ) (turns most : ℕ) → IsTyped program → IsOrder program order → (follow program order inputs turns most).ending ≡ ending_of (typed.run turns program inputs)
follow_ends program order inputs turns most fits ordered =
    let link : Option Link = main_link (typed.main_number program.functions) (code_of program order) in
    code_ends program (code_of program order) link inputs turns most
    ∙ runs_as_tree program order fits ordered (replicate (slots_for (code_of program order).instructions link) (pos 0)) inputs turns

-- ---- The run of an examined tree

pub traced_code : (told given : Parts) (order order2 : List ℕ) (code : Code) → told ≡ given → order ≡ order2 → code ≡ code_of (tree_of told) order → code ≡ code_of (tree_of given) order2
traced_code told given order order2 code t o c = c ∙ ap (λ (p : Parts). code_of (tree_of p) order) t ∙ ap (code_of (tree_of given)) o

pub traced_run : (told given : Parts) (order order2 : List ℕ) (functions : List Function) (model : Model) (code : Code) (link : Option Link) (xs : List Instruction) (n : ℕ) (slots inputs : List ℤ) (turns most : ℕ) (st : State) (t : Trail) (f : Followed) →
    told ≡ given → order ≡ order2 → functions ≡ told.functions → model ≡ told.model → code ≡ code_of (tree_of told) order → link ≡ main_link (typed.main_number (map function_of functions)) code → xs ≡ code.instructions →
    n ≡ slots_for xs link → slots ≡ replicate n (pos 0) → st ≡ state (typed.start_store (tree_of told).objects) 0 turns → t ≡ start most → f ≡ follow_main model inputs code.instructions link slots st t → f ≡ follow (tree_of given) order2 inputs turns most
traced_run told given order order2 functions model code link xs n slots inputs turns most st t f p o fs m c l x ns s sts ts h =
    h ∙ ap (λ (u : Trail). follow_main model inputs code.instructions link slots st u) ts
    ∙ ap (λ (y : State). follow_main model inputs code.instructions link slots y (start most)) sts
    ∙ ap (λ zs. follow_main model inputs code.instructions link zs (state (typed.start_store (tree_of told).objects) 0 turns) (start most))
    (s ∙ ap (λ k. replicate k (pos 0)) (ns ∙ ap (λ ys. slots_for ys link) x))
    ∙ ap (λ z. follow_main z inputs code.instructions link (replicate (slots_for code.instructions link) (pos 0)) (state (typed.start_store (tree_of told).objects) 0 turns) (start most)) m
    ∙ ap (λ k. follow_code (tree_of told) code k inputs turns most) (l ∙ ap (λ ys. main_link (typed.main_number (map function_of ys)) code) fs)
    ∙ ap (λ (z : Code). follow_code (tree_of told) z (main_link (typed.main_number (tree_of told).functions) z) inputs turns most) c
    ∙ ap (λ ys. follow (tree_of told) ys inputs turns most) o
    ∙ ap (λ (z : Parts). follow (tree_of z) order2 inputs turns most) p

pub traced_ends : (told given : Parts) (order order2 : List ℕ) (inputs : List ℤ) (turns most : ℕ) (e : Ending) (t : Trail) → told ≡ given → order ≡ order2 → IsTyped (tree_of told) → calls.IsOrder (calls.callees (tree_of given)) order2 → OrdersAgree →
    followed e t ≡ follow (tree_of given) order2 inputs turns most → e ≡ ending_of (typed.run turns (tree_of given) inputs)
traced_ends told given order order2 inputs turns most e t p o fits ordered agree h =
    ap (λ (f : Followed). f.ending) h ∙ follow_ends (tree_of given) order2 inputs turns most (subst (λ (z : Parts). IsTyped (tree_of z)) p fits) (agree (tree_of given) order2 ordered)

-- ---- From the place where `main` stands, with its place to return to

pub main_followed : {E : Type 0} (o : Result Ending E) (model : Model) (code : List Instruction) (link : Option rust.Link) (l : rust.Link) (inputs slots slots1 : List ℤ) (st st1 : State) (t t1 : Trail) → link ≡ Some l →
    IfOk o (λ e. followed e t1 ≡ follow_from model inputs code (machine l.entry slots1 st1) t) → slots1 ≡ put slots l.slot (pos (length code)) → st1 ≡ st →
    IfOk o (λ e. followed e t1 ≡ follow_main model inputs code (option_map link_of link) slots st t)
main_followed (Ok e) model code link l inputs slots slots1 st st1 t t1 is h p q =
    h ∙ ap (λ xs. follow_from model inputs code (machine l.entry xs st1) t) p
    ∙ ap (λ (s : State). follow_from model inputs code (machine l.entry (put slots l.slot (pos (length code))) s) t) q
    ∙ sym (ap (λ x. follow_main model inputs code (option_map link_of x) slots st t) is)
main_followed (Err e) model code link l inputs slots slots1 st st1 t t1 is h p q = h
