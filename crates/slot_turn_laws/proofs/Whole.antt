-- The code of a program is out of turns where its tree is.
use Rattle.std.proofs.Common.{◌≡◌, ℕ, suc, ◌≤◌, true, List, [], ◌∷◌, length, Option, Some, None, ℤ, pos, slice_get, inl, refl, sym, ap, ◌∙◌, subst, arith}
use Rattle.typed_range_laws.specs.Ways.{Way}
use Rattle.typed_range_laws.proofs.Running.{runs_each_way as trees_each_way}
use Rattle.c_run.specs.Run.{State, Got, Value, Stop, Run, after, Compute}
use Rattle.c_run.specs.Loops.{Start, enter}
use Rattle.c_typed.specs.Tree.{Function, Program}
use Rattle.c_typed.specs.Run as typed
use Rattle.c_typed.specs.Rules.{has}
use Rattle.typed_range_laws.specs.Keeping as keeping
use Rattle.slot_code.specs.declared.flat.Instruction.{Instruction}
use Rattle.slot_code.specs.Slots.{put, slots_in}
use Rattle.slot_code.specs.Values.{Link, link_of}
use Rattle.slot_code.specs.Programs.{Code, code_of}
use Rattle.slot_code.specs.Machine.{machine, act_at_with, main_link}
use Rattle.slot_laws.specs.Laws.{IsOrder, MainStands}
use Rattle.slot_turn_laws.specs.Turns.{NoCallAt, CodeTurnsAsTree, spent_at, onward_turned, turned_from, turned_code}
use Rattle.slot_turn_laws.proofs.Running.{goes_on}
use Rattle.slot_laws.proofs.Lying.{put_same}
use Rattle.slot_turn_laws.proofs.Lying.{ends}
use Rattle.slot_laws.proofs.Calling.{bound_store, bound}
use Rattle.slot_turn_laws.proofs.Functioning.{One, stands-here}
use Rattle.slot_turn_laws.proofs.Returning.{stands_one, run_at, function_runs, calls_run}
use Rattle.slot_laws.proofs.Ordering.{linked_one, onto, has_onto, Grown, all_stand}

no_more : (xs : List Instruction) → slice_get xs (length xs) ≡ None
no_more [] = refl
no_more (x ∷ xs) = no_more xs

none_bound : (way : Way) (os : List ℕ) (store : List (List ℤ)) → bound_store way os [] store ≡ store
none_bound way [] store = refl
none_bound way (o ∷ os) store = refl

-- where `main` has returned the run has ended
ended : (at : ℕ) (g : Got (Option ℤ)) → ends at g (λ r st. None) ≡ spent_at at (typed.end_of_run g)
unfolding ends
ended at (Value v st) = refl
ended at (Stop e) = refl

module _ (program : Program) (compute : Compute) (way : Way) (inputs : List ℤ) (code : List Instruction) (asker : ℕ) (uncalled : NoCallAt code asker) where
  over : (s : List ℤ) (st : State) → run_at program compute way inputs code asker uncalled (length code) s st ≡ None
  unfolding run_at
  over s st =
      goes_on program.model compute inputs way code asker (machine (length code) s st)
      ∙ ap (λ o. onward_turned program.model compute inputs way code asker o st (act_at_with program.model compute inputs way o (machine (length code) s st)) (turned_from program.model compute inputs way code asker)) (no_more code)

  main_is : (n main : ℕ) (f : Function) (st : State) → slice_get program.functions main ≡ Some f →
      enter (suc n) (keeping.exec_all program.model program.objects compute way inputs (keeping.call_at program compute way inputs n) f.result n f.body) Start st ≡ keeping.run_main program compute way inputs n (Some main) st
  main_is n main f st e =
      let body : Run (Option ℤ) = enter (suc n) (keeping.exec_all program.model program.objects compute way inputs (keeping.call_at program compute way inputs n) f.result n f.body) Start in
      let stored : List (List ℤ) → State = λ x. record { store = x; taken = st.taken; turns = st.turns } in
      sym (ap (λ o. keeping.body_of program compute way inputs (keeping.call_at program compute way inputs n) n o [] st) e ∙ ap (λ g. after g (λ v. body)) (bound way f.parameters [] st) ∙ ap (λ x. body (stored x)) (none_bound way f.parameters st.store))

  main_runs : (main : ℕ) (l : Link) (place slots : ℕ) (s : List ℤ) (st : State) → One program compute way inputs code asker uncalled main l place slots → place ≤ length code →
      run_at program compute way inputs code asker uncalled l.entry (put s l.slot (pos (length code))) st ≡ spent_at asker (typed.end_of_run (keeping.run_main program compute way inputs st.turns (Some main) st))
  main_runs main l place slots s st one le =
      function_runs program compute way inputs code asker uncalled st.turns (keeping.call_at program compute way inputs st.turns) main l one.links place slots one.this
      (calls_run program compute way inputs code asker uncalled st.turns one.links l.entry l.slot l.slot one.this.top l.entry one.others (omega arith) (omega arith)) (put s l.slot (pos (length code))) st (λ r st1. None) (length code) (omega arith)
      (put_same s l.slot (pos (length code))) le (λ r s1 st1 tu1 ab is. over s1 st1)
      ∙ ap (λ g. ends asker g (λ r st1. None)) (main_is st.turns main one.this.f st one.this.there)
      ∙ ended asker (keeping.run_main program compute way inputs st.turns (Some main) st)

  main_code : (c : Code) (main : ℕ) (l : Link) (before : List ℕ) (s : List ℤ) (st : State) → code ≡ c.instructions → Grown program compute way inputs code c before → link_of main c.links ≡ Some l →
      run_at program compute way inputs code asker uncalled l.entry (put s l.slot (pos (length code))) st ≡ spent_at asker (typed.end_of_run (keeping.run_main program compute way inputs st.turns (Some main) st))
  main_code c main l before s st e g link =
      main_runs main l (length c.instructions) (slots_in c.instructions) s st (stands_one program compute way inputs code asker uncalled main l c.links (length c.instructions) (slots_in c.instructions) (stands-here program compute way inputs code asker uncalled c.links (length c.instructions) (slots_in c.instructions) g.stands) link) (omega (arith, ap (λ xs. length xs) e))

module _ (program : Program) (order : List ℕ) (io : IsOrder program order) (compute : Compute) (way : Way) (asker : ℕ) (uncalled : NoCallAt (code_of program order).instructions asker) (slots inputs : List ℤ) (turns : ℕ) where
  abbrev start : State
  start = record { store = typed.start_store program.objects; taken = 0; turns = turns }

  abbrev code : Code
  code = code_of program order

  grown : Grown program compute way inputs code.instructions code (onto order [])
  grown = all_stand program compute way inputs code.instructions order (record { instructions = []; links = [] }) [] (record { stands = tt; numbers = refl }) io.callees refl

  main_found : (main : ℕ) → has order main ≡ true → (l : Link) × (link_of main code.links ≡ Some l)
  main_found main h = linked_one main code.links (subst (λ x. has x main ≡ true) (sym grown.numbers) (has_onto order [] main (inl h)))

  run_is : (main : Option ℕ) → MainStands main order → turned_code compute way program code slots (main_link main code) inputs turns asker ≡ spent_at asker (typed.end_of_run (keeping.run_main program compute way inputs turns main start))
  unfolding run_at
  run_is None h = refl
  run_is (Some main) h =
      let found = main_found main h in
      ap (λ o. turned_code compute way program code slots o inputs turns asker) found.1 ∙ main_code program compute way inputs code.instructions asker uncalled code main found.0 (onto order []) slots start refl grown found.1

pub turns-as-tree : CodeTurnsAsTree
turns-as-tree program order fits io compute agrees way suits at uncalled slots inputs turns =
    run_is program order io compute way at uncalled slots inputs turns (typed.main_number program.functions) io.main ∙ ap (spent_at at) (trees_each_way program fits compute agrees way suits turns inputs)
