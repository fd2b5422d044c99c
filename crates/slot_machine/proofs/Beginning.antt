-- What a machine keeps, when it is made and through its runs.
use Rattle.std.proofs.Common.{◌≡◌, ℕ, suc, ◌+◌, ◌++◌, ◌<◌, ◌≤◌, List, [], ◌∷◌, length, get_or, map, take, Option, Some, None, refl, sym, ap, subst, ◌∙◌, arith, ℤ, pos}
use Rattle.std.proofs.lemmas.List.{length-set, map-append}
use Rattle.std.proofs.Math.Seq.{take-suc}
use Rattle.c_typed.specs.declared.tree.Object.{Object}
use Rattle.c_typed.specs.Tree.{Program}
use Rattle.c_typed.specs.View.{object_of}
use Rattle.c_typed.specs.Run.{start_values, start_store}
use Rattle.c_typed.specs.Facts.{IsTyped}
use Rattle.c_run.specs.Run.{State}
use Rattle.typed_range_laws.specs.Guards.{guarded}
use Rattle.slot_code.specs.declared.flat.Instruction.{Instruction}
use Rattle.slot_code.specs.declared.reply.Ending.{Ending}
use Rattle.slot_code.specs.Slots.{put, slots_in}
use Rattle.slot_code.specs.Values.{Link}
use Rattle.slot_code.specs.Programs.{Code}
use Rattle.slot_code.specs.Machine.{machine, run_from, run_code}
use Rattle.slot_laws.specs.Laws.{AreShaped}
use Rattle.slot_board.specs.Seen.{state}
use Rattle.slot_board.proofs.Answering.{set_put}
use Rattle.slot_machine.specs.declared.machine.Entry.{Entry}
use Rattle.slot_machine.specs.Shapes.{all_fit}
use Rattle.slot_machine.specs.Loaded.{Loaded, loaded, entered, run_of, EntryFits, IsSound}
use Rattle.slot_machine.proofs.Fitting.{started_more, typed_fit, same_slots, same_rows}

-- ---- The objects at the start

-- one object more
pub started_next : (objects : List Object) (n : ℕ) (o : Object) (rows : List (List ℤ)) (row : List ℤ) → n < length objects → o ≡ get_or objects n o →
    rows ≡ start_store (map object_of (take n objects)) → row ≡ start_values (object_of o) → rows ++ row ∷ [] ≡ start_store (map object_of (take (n + 1) objects))
started_next objects n o rows row b found h e =
    let next : n + 1 ≡ suc n = omega arith in
    let more : take (suc n) objects ≡ take n objects ++ o ∷ [] = take-suc objects n o b ∙ ap (λ x. take n objects ++ x ∷ []) (sym found) in
    started_more (map object_of (take n objects)) (object_of o) rows row h e
    ∙ ap start_store (sym (map-append object_of (take n objects) (o ∷ [])) ∙ ap (map object_of) (sym more ∙ ap (λ k. take k objects) (sym next)))

-- ---- What a new machine keeps

pub sound_new : (program : Program) (code : List Instruction) (entry : Option Entry) (first store : List (List ℤ)) (slots : List ℤ) (wanted : ℕ) → IsTyped program → AreShaped program.objects code →
    slots_in code ≤ wanted → EntryFits entry wanted → length slots ≡ wanted → first ≡ start_store program.objects → store ≡ start_store program.objects → IsSound code entry first slots store
sound_new program code entry first store slots wanted typed shaped fit enters long f s = record {
  slots_fit = omega (arith, fit, long);
  entry_fits = subst (EntryFits entry) (sym long) enters;
  same_sizes = ap (map length) (s ∙ sym f);
  stores_fit = ap (λ rows. all_fit rows code) f ∙ typed_fit program code typed shaped;
}

-- ---- What a run keeps

pub put_long : (slots : List ℤ) (slot : ℕ) (v : ℤ) → slot < length slots → length (put slots slot v) ≡ length slots
put_long slots slot v b = ap length (sym (set_put slots slot v b)) ∙ length-set slots slot v

pub sound_again : (code : List Instruction) (entry : Option Entry) (first : List (List ℤ)) (slots slots1 slots2 : List ℤ) (store store1 store2 : List (List ℤ)) (slot taken turns : ℕ) (v : ℤ) (taken1 turns1 : ℕ) →
    IsSound code entry first slots store → slot < length slots → slots1 ≡ put slots slot v → state store1 taken1 turns1 ≡ state first taken turns →
    length slots2 ∷ map length store2 ≡ length slots1 ∷ map length store1 → IsSound code entry first slots2 store2
sound_again code entry first slots slots1 slots2 store store1 store2 slot taken turns v taken1 turns1 sound b h st kept =
    let long : length slots2 ≡ length slots = same_slots (length slots2) (length slots1) (map length store2) (map length store1) kept ∙ ap length h ∙ put_long slots slot v b in
    let same : store1 ≡ first = ap (λ (s : State). s.store) st in
    record {
      slots_fit = omega (arith, sound.slots_fit, long);
      entry_fits = subst (EntryFits entry) (sym long) sound.entry_fits;
      same_sizes = same_rows (length slots2) (length slots1) (map length store2) (map length store1) kept ∙ ap (map length) same;
      stores_fit = sound.stores_fit;
    }

-- ---- What a run gives

pub run_is : (m : Loaded) (inputs : List ℤ) (turns : ℕ) (e : Entry) (slots : List ℤ) (st : State) (end : Ending) → m.entry ≡ Some e → slots ≡ put m.slots e.slot (pos (length m.code)) →
    st ≡ state m.store 0 turns → end ≡ run_from m.model (λ op kind x y. guarded m.model op kind x y) inputs m.code (machine e.place slots st) → end ≡ run_of m inputs turns
run_is m inputs turns e slots st end is h s g =
    g ∙ ap (λ xs. run_from m.model (λ op kind x y. guarded m.model op kind x y) inputs m.code (machine e.place xs st)) h
    ∙ ap (λ t. run_from m.model (λ op kind x y. guarded m.model op kind x y) inputs m.code (machine e.place (put m.slots e.slot (pos (length m.code))) t)) s
    ∙ sym (ap (entered m inputs turns) is)

-- the run of a machine with the code of a program
loaded_run : (program : Program) (code : Code) (link : Option Link) (slots inputs : List ℤ) (turns : ℕ) → run_of (loaded program code link slots) inputs turns ≡ run_code program code slots link inputs turns
loaded_run program code None slots inputs turns = refl
loaded_run program code (Some l) slots inputs turns = refl

pub run_of_code : (m : Loaded) (program : Program) (code : Code) (link : Option Link) (slots inputs : List ℤ) (turns : ℕ) (end : Ending) → end ≡ run_of m inputs turns → m ≡ loaded program code link slots →
    end ≡ run_code program code slots link inputs turns
run_of_code m program code link slots inputs turns end g h = g ∙ ap (λ (l : Loaded). run_of l inputs turns) h ∙ loaded_run program code link slots inputs turns
