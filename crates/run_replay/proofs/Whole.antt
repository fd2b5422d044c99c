-- A machine of a typed tree runs as the tree.
use Rattle.std.proofs.Common.{◌≡◌, ℕ, List, [], Option, sym, ap, ◌∙◌, subst, ℤ}
use Rattle.std.specs.Prelude.{map}
use Rattle.c_typed.specs.Tree.{Program}
use Rattle.c_typed.specs.Run as typed
use Rattle.c_typed.specs.declared.tree.Function.{Function}
use Rattle.c_typed.specs.View.{function_of}
use Rattle.c_typed.specs.Facts.{IsTyped}
use Rattle.c_typed.specs.Parts.{Parts, tree_of}
use Rattle.call_order.specs.Order as calls
use Rattle.slot_code.specs.declared.reply.Ending.{Ending}
use Rattle.slot_code.specs.Programs.{Code, code_of}
use Rattle.slot_code.specs.Values.{Link}
use Rattle.slot_code.specs.Machine.{ending_of, main_link, run_code}
use Rattle.slot_laws.proofs.Whole.{runs_as_tree}
use Rattle.slot_machine.specs.declared.machine.Entry.{Entry}
use Rattle.slot_machine.specs.Loaded.{Loaded, loaded, entry_of}
use Rattle.run_replay.specs.Replays.{forgetful, Replays}
use Rattle.run_replay.proofs.Orders.{orders_agree}

-- what the slots hold is put back
filled : List ℤ → Loaded → Loaded
filled slots m = record { model = m.model; code = m.code; store = m.store; entry = m.entry; slots = slots }

-- a machine that replays a program has its code
pub has_code : (program : Program) (m seen : Loaded) → forgetful m ≡ seen → (r : Replays program seen) →
    m ≡ loaded program (code_of program r.order) (main_link (typed.main_number program.functions) (code_of program r.order)) m.slots
unfolding filled
has_code program m seen v r = ap (filled m.slots) (v ∙ r.holds)

-- and runs as the program
pub replays_run : (program : Program) (m seen : Loaded) (inputs : List ℤ) (turns : ℕ) (end : Ending) → forgetful m ≡ seen → Replays program seen →
    ((program : Program) (code : Code) (link : Option Link) → m ≡ loaded program code link m.slots → end ≡ run_code program code m.slots link inputs turns) →
    end ≡ ending_of (typed.run turns program inputs)
replays_run program m seen inputs turns end v r h =
    h program (code_of program r.order) (main_link (typed.main_number program.functions) (code_of program r.order)) (has_code program m seen v r)
    ∙ runs_as_tree program r.order r.typed r.ordered m.slots inputs turns

-- ---- The machine of an examined tree

abbrev made : Program → Code → Option Entry → Loaded
made program code entry = record { model = program.model; code = code.instructions; store = typed.start_store program.objects; entry = entry; slots = [] }

abbrev main_of : Program → Code → Option Link
main_of program code = main_link (typed.main_number program.functions) code

replays_made : (program : Program) (order : List ℕ) (code : Code) (entry : Option Entry) (m : Loaded) → IsTyped program → calls.IsOrder (calls.callees program) order → code ≡ code_of program order →
    entry ≡ entry_of (main_of program code) → forgetful m ≡ made program code entry → Replays program (forgetful m)
replays_made program order code entry m fits ordered c e h = record {
  order = order;
  typed = fits;
  ordered = orders_agree program order ordered;
  holds = h ∙ ap (made program code) e ∙ ap (λ (z : Code). loaded program z (main_of program z) []) c;
}

pub replays_new : (told given : Parts) (order order2 : List ℕ) (functions : List Function) (code : Code) (entry : Option Entry) (m : Loaded) → told ≡ given → order ≡ order2 → functions ≡ told.functions →
    IsTyped (tree_of told) → calls.IsOrder (calls.callees (tree_of given)) order2 → code ≡ code_of (tree_of told) order → entry ≡ entry_of (main_link (typed.main_number (map function_of functions)) code) →
    forgetful m ≡ made (tree_of told) code entry → Replays (tree_of given) (forgetful m)
replays_new told given order order2 functions code entry m t o f fits ordered c e h =
    subst (λ x. Replays (tree_of x) (forgetful m)) t
    (replays_made (tree_of told) order code entry m fits
    (subst (λ x. calls.IsOrder (calls.callees (tree_of told)) x) (sym o) (subst (λ x. calls.IsOrder (calls.callees (tree_of x)) order2) (sym t) ordered)) c
    (e ∙ ap (λ x. entry_of (main_link (typed.main_number (map function_of x)) code)) f) h)
