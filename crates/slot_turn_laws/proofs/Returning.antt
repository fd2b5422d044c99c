-- Calls: into a function that stands before, and back.
use Rattle.std.proofs.Common.{◌≡◌, ℕ, zero, suc, ◌+◌, ◌≤◌, max, Bool, true, false, List, [], ◌∷◌, length, Option, Some, None, ℤ, pos, slice_get, inl, inr, refl, sym, ap, ◌∙◌, subst, arith}
use Rattle.std.specs.Prelude.{unsigned_abs, nat_eq, if◌then◌else◌}
use Rattle.c_run.specs.Run.{State, Run, after, choose, Compute}
use Rattle.c_run.specs.Loops.{Start, Calls, enter}
use Rattle.c_typed.specs.Tree.{Function, Program}
use Rattle.c_typed.specs.Rules.{all_of_all}
use Rattle.typed_range_laws.specs.Keeping as keeping
use Rattle.typed_range_laws.specs.Ways.{Way}
use Rattle.slot_code.specs.declared.flat.Instruction.{Instruction}
use Rattle.slot_code.specs.declared.flat.Instruction.TheVariants as i
use Rattle.slot_code.specs.declared.reply.Ending.TheVariants as ending
use Rattle.slot_code.specs.Slots.{get, put}
use Rattle.slot_code.specs.Values.{Link, link_of, parameters_of}
use Rattle.slot_code.specs.Statements.{steps_code}
use Rattle.slot_code.specs.Programs.{body_end, label_place}
use Rattle.slot_code.specs.Machine.{returned_in, machine}
use Rattle.slot_turn_laws.specs.Turns.{NoCallAt, turned_from}
use Rattle.slot_laws.proofs.Lying.{put_same, put_other}
use Rattle.slot_turn_laws.proofs.Lying.{Met, ends, Frame, Lies, At, at_moved, split, from, leads, stops, keeps_same}
use Rattle.slot_laws.proofs.Calling.{bound_store, bound}
use Rattle.slot_turn_laws.proofs.Calling.{Called}
use Rattle.slot_laws.proofs.Sizes.{steps_length}
use Rattle.slot_laws.proofs.Linking.{values_linked}
use Rattle.slot_laws.proofs.Functioning.{same_number}
use Rattle.slot_turn_laws.proofs.Functioning.{enter_runs, frame, StandsFor, Stands, One, one_less}

module _ (program : Program) (compute : Compute) (way : Way) (inputs : List ℤ) (code : List Instruction) (asker : ℕ) (uncalled : NoCallAt code asker) where
  looked_up : (number : ℕ) (l x : Link) (xs : List Link) (place slots : ℕ) (b : Bool) → nat_eq x.function number ≡ b → Stands program compute way inputs code asker uncalled (x ∷ xs) place slots →
      (link_of number xs ≡ Some l → One program compute way inputs code asker uncalled number l x.entry x.slot) → (if b then Some x else link_of number xs) ≡ Some l → One program compute way inputs code asker uncalled number l place slots
  looked_up number l x xs place slots true b h later e =
      let same : x ≡ l = cc in
      subst (λ y. One program compute way inputs code asker uncalled number y place slots) same
      (record { links = xs; this = subst (λ m. StandsFor program compute way inputs code asker uncalled m x xs place slots) (same_number x.function number b) h.0; others = h.1 })
  looked_up number l x xs place slots false b h later e = one_less program compute way inputs code asker uncalled number l x.entry place x.slot slots h.0.entry_in (omega (arith, h.0.slot_in)) (later e)

  -- the function that is looked up stands there
  pub stands_one : (number : ℕ) (l : Link) (links : List Link) (place slots : ℕ) → Stands program compute way inputs code asker uncalled links place slots → link_of number links ≡ Some l → One program compute way inputs code asker uncalled number l place slots
  stands_one number l [] place slots h e = absurd cc
  stands_one number l (x ∷ xs) place slots h e = looked_up number l x xs place slots (nat_eq x.function number) refl h (λ e'. stands_one number l xs x.entry x.slot h.1 e') e

  -- the run from a place, whatever function it is in
  unfoldable pub run_at : ℕ → List ℤ → State → Met
  run_at place slots st = turned_from program.model compute inputs way code asker (machine place slots st)

  pub run_is : (links : List Link) (call : Calls) (low top start p : ℕ) (s : List ℤ) (st : State) → from (frame program compute way inputs code asker uncalled links call low top start) p s st ≡ run_at p s st
  unfolding from run_at
  run_is links call low top start p s st = refl

  -- a function from its first place on, until it returns
  pub function_runs : (n : ℕ) (call : Calls) (number : ℕ) (l : Link) (links : List Link) (place slots : ℕ) (this : StandsFor program compute way inputs code asker uncalled number l links place slots) →
      ((t : ℕ) → t ≤ n → Called (frame program compute way inputs code asker uncalled links call l.slot this.top l.entry) t) → (s : List ℤ) (st : State) (k : Option ℤ → State → Met) (goal : ℕ) → st.turns ≤ n → get s l.slot ≡ pos goal → place ≤ goal →
      ((r : Option ℤ) (s' : List ℤ) (st' : State) → st'.turns ≤ st.turns → ((x : ℕ) → slots ≤ x → get s' x ≡ get s x) → returned_in s' l.slot ≡ r → run_at goal s' st' ≡ k r st') →
      run_at l.entry s st ≡ ends asker (enter (suc n) (keeping.exec_all program.model program.objects compute way inputs call this.f.result n this.f.body) Start st) k
  function_runs n call number l links place slots this hc s st k goal le is past h =
      let c : Frame = frame program compute way inputs code asker uncalled links call l.slot this.top l.entry in
      let f : Function = this.f in
      let end : ℕ = body_end program links l.slot l.entry f in
      let labels : List ℕ → ℕ = label_place program links l.slot l.entry f in
      let xs : List Instruction = steps_code program.model program.objects program.functions links f.result (suc l.slot) end labels end end l.entry f.body in
      let r = split c l.entry xs (i.Constant (suc (suc l.slot)) (pos 0) ∷ i.Return l.slot ∷ []) (this.lies call) in
      let len = steps_length program.model program.objects program.functions links f.result (suc l.slot) end labels f.body end end l.entry in
      let last : At c end (i.Constant (suc (suc l.slot)) (pos 0) ∷ i.Return l.slot ∷ []) = at_moved c (l.entry + length xs) end (i.Constant (suc (suc l.slot)) (pos 0) ∷ i.Return l.slot ∷ []) (omega (arith, len)) r.1 in
      sym (run_is links call l.slot this.top l.entry l.entry s st)
      ∙ enter_runs c s n hc f.result f.body l.entry (values_linked links (all_of_all f.body) this.linked) r.0 last.0 n s st k le le (keeps_same c (suc l.slot) s)
      (λ v s1 st1 tu1 ke1 is1.
      let back : get s1 l.slot ≡ pos goal = ke1 l.slot (omega arith) (inl (omega arith)) ∙ is in
      let target : max (suc (suc end)) (unsigned_abs (get s1 l.slot)) ≡ goal = ap (λ x. max (suc (suc end)) (unsigned_abs x)) back ∙ omega (arith, past, this.before) in
      leads c (suc end) (max (suc (suc end)) (unsigned_abs (get s1 l.slot))) s1 s1 st1 st1 (i.Return l.slot) last.1.0 refl
      ∙ ap (λ x. from c x s1 st1) target
      ∙ run_is links call l.slot this.top l.entry goal s1 st1
      ∙ h v s1 st1 tu1 (λ x lo. ke1 x (omega (arith, lo, this.slot_in)) (inr (omega (arith, lo, this.top_in)))) is1)

  -- ---- Calls, with so many turns

  abbrev calls : ℕ → Calls
  calls n = keeping.call_at program compute way inputs n

  bound_in : (number : ℕ) (f : Function) (vs : List ℤ) (store : List (List ℤ)) → slice_get program.functions number ≡ Some f → bound_store way (parameters_of (slice_get program.functions number)) vs store ≡ bound_store way f.parameters vs store
  bound_in number f vs store e = ap (λ o. bound_store way (parameters_of o) vs store) e

  -- a call without a turn does not stand at the offset
  not-asked : (at p goal slot : ℕ) (store : List (List ℤ)) (b : Bool) → nat_eq at asker ≡ b → slice_get code p ≡ Some (i.Call at goal slot) → choose b (Some store) None ≡ None
  not-asked at p goal slot store true e there = absurd (uncalled p goal slot (subst (λ x. slice_get code p ≡ Some (i.Call x goal slot)) (same_number at asker e) there))
  not-asked at p goal slot store false e there = refl

  call_spent : (n number at place slots : ℕ) (l : Link) (links : List Link) (low top start p : ℕ) (vs s : List ℤ) (store : List (List ℤ)) (taken : ℕ) (k : Option ℤ → State → Met) → Lies (frame program compute way inputs code asker uncalled links (calls n) low top start) p (i.Call at l.entry l.slot) →
      from (frame program compute way inputs code asker uncalled links (calls n) low top start) p s (record { store = bound_store way (parameters_of (slice_get program.functions number)) vs store; taken = taken; turns = zero })
      ≡ ends asker (calls n number at vs (record { store = store; taken = taken; turns = zero })) k
  unfolding ends
  call_spent zero number at place slots l links low top start p vs s store taken k lies =
      stops (frame program compute way inputs code asker uncalled links (calls zero) low top start) p s (record { store = bound_store way (parameters_of (slice_get program.functions number)) vs store; taken = taken; turns = zero }) (i.Call at l.entry l.slot) ending.Spent lies refl
      ∙ sym (not-asked at p l.entry l.slot store (nat_eq at asker) refl lies.there)
  call_spent (suc n) number at place slots l links low top start p vs s store taken k lies =
      stops (frame program compute way inputs code asker uncalled links (calls (suc n)) low top start) p s (record { store = bound_store way (parameters_of (slice_get program.functions number)) vs store; taken = taken; turns = zero }) (i.Call at l.entry l.slot) ending.Spent lies refl
      ∙ sym (not-asked at p l.entry l.slot store (nat_eq at asker) refl lies.there)

  call_more : (n number at : ℕ) (l : Link) (place slots : ℕ) (one : One program compute way inputs code asker uncalled number l place slots) → ((t : ℕ) → t ≤ n → Called (frame program compute way inputs code asker uncalled one.links (calls n) l.slot one.this.top l.entry) t) →
      (links : List Link) (low top start : ℕ) → place ≤ start → slots ≤ low → (p : ℕ) (vs s : List ℤ) (store : List (List ℤ)) (taken left : ℕ) (k : Option ℤ → State → Met) →
      Lies (frame program compute way inputs code asker uncalled links (calls (suc n)) low top start) p (i.Call at l.entry l.slot) → left ≤ n →
      ((r : Option ℤ) (s' : List ℤ) (st' : State) → st'.turns ≤ suc left → ((x : ℕ) → low ≤ x → get s' x ≡ get s x) → returned_in s' l.slot ≡ r → from (frame program compute way inputs code asker uncalled links (calls (suc n)) low top start) (suc p) s' st' ≡ k r st') →
      from (frame program compute way inputs code asker uncalled links (calls (suc n)) low top start) p s (record { store = bound_store way (parameters_of (slice_get program.functions number)) vs store; taken = taken; turns = suc left })
      ≡ ends asker (calls (suc n) number at vs (record { store = store; taken = taken; turns = suc left })) k
  call_more n number at l place slots one hc links low top start a b p vs s store taken left k lies le h =
      let c : Frame = frame program compute way inputs code asker uncalled links (calls (suc n)) low top start in
      let f : Function = one.this.f in
      let s1 : List ℤ = put s l.slot (pos (suc p)) in
      let st : State = record { store = store; taken = taken; turns = left } in
      let st1 : State = record { store = bound_store way f.parameters vs store; taken = taken; turns = left } in
      let body : Run (Option ℤ) = enter (suc n) (keeping.exec_all program.model program.objects compute way inputs (calls n) f.result n f.body) Start in
      ap (λ x. from c p s (record { store = x; taken = taken; turns = suc left })) (bound_in number f vs store one.this.there)
      ∙ leads c p l.entry s s1 (record { store = bound_store way f.parameters vs store; taken = taken; turns = suc left }) st1 (i.Call at l.entry l.slot) lies refl
      ∙ run_is links (calls (suc n)) low top start l.entry s1 st1
      ∙ function_runs n (calls n) number l one.links place slots one.this hc s1 st1 k (suc p) le (put_same s l.slot (pos (suc p))) (omega (arith, a, lies.behind))
      (λ r s2 st2 tu2 ab is2.
      sym (run_is links (calls (suc n)) low top start (suc p) s2 st2)
      ∙ h r s2 st2 (omega (arith, tu2)) (λ x lo. ab x (omega (arith, b, lo)) ∙ put_other s l.slot (pos (suc p)) x (λ e. absurd (omega (arith, e, lo, b, one.this.slot_in)))) is2)
      ∙ sym (ap (λ g. ends asker (after g (λ v. body)) k) (bound way f.parameters vs st))
      ∙ sym (ap (λ o. ends asker (keeping.body_of program compute way inputs (calls n) n o vs st) k) one.this.there)

  -- with turns that are counted
  call_turns : (n number at : ℕ) (l : Link) (place slots : ℕ) (one : One program compute way inputs code asker uncalled number l place slots) → ((m : ℕ) → n ≡ suc m → (t : ℕ) → t ≤ m → Called (frame program compute way inputs code asker uncalled one.links (calls m) l.slot one.this.top l.entry) t) →
      (links : List Link) (low top start : ℕ) → place ≤ start → slots ≤ low → (p : ℕ) (vs s : List ℤ) (store : List (List ℤ)) (taken turns : ℕ) (k : Option ℤ → State → Met) →
      Lies (frame program compute way inputs code asker uncalled links (calls n) low top start) p (i.Call at l.entry l.slot) → turns ≤ n →
      ((r : Option ℤ) (s' : List ℤ) (st' : State) → st'.turns ≤ turns → ((x : ℕ) → low ≤ x → get s' x ≡ get s x) → returned_in s' l.slot ≡ r → from (frame program compute way inputs code asker uncalled links (calls n) low top start) (suc p) s' st' ≡ k r st') →
      from (frame program compute way inputs code asker uncalled links (calls n) low top start) p s (record { store = bound_store way (parameters_of (slice_get program.functions number)) vs store; taken = taken; turns = turns })
      ≡ ends asker (calls n number at vs (record { store = store; taken = taken; turns = turns })) k
  call_turns n number at l place slots one hc links low top start a b p vs s store taken zero k lies le h = call_spent n number at place slots l links low top start p vs s store taken k lies
  call_turns zero number at l place slots one hc links low top start a b p vs s store taken (suc left) k lies le h = absurd (omega (arith, le))
  call_turns (suc n) number at l place slots one hc links low top start a b p vs s store taken (suc left) k lies le h =
      call_more n number at l place slots one (hc n refl) links low top start a b p vs s store taken left k lies (omega (arith, le)) h

  -- each call of a function that stands there does what the typed run says
  pub calls_run : (n : ℕ) (links : List Link) (place slots low top start : ℕ) → Stands program compute way inputs code asker uncalled links place slots → place ≤ start → slots ≤ low → (t : ℕ) → t ≤ n → Called (frame program compute way inputs code asker uncalled links (calls n) low top start) t
  unfolding Called
  calls_run zero links place slots low top start stands a b t tn f at l vs e p s st k lies tu h =
      call_turns zero f at l place slots (stands_one f l links place slots stands e) (λ m em. absurd cc) links low top start a b p vs s st.store st.taken st.turns k lies (omega (arith, tu, tn))
      (λ r s1 st1 tu1 ab is1. h r s1 st1 (omega (arith, tu1, tu)) ab is1)
  calls_run (suc n) links place slots low top start stands a b t tn f at l vs e p s st k lies tu h =
      let one : One program compute way inputs code asker uncalled f l place slots = stands_one f l links place slots stands e in
      call_turns (suc n) f at l place slots one
      (λ m em. subst (λ x. (t' : ℕ) → t' ≤ x → Called (frame program compute way inputs code asker uncalled one.links (calls x) l.slot one.this.top l.entry) t') (omega (arith, em))
      (calls_run n one.links l.entry l.slot l.slot one.this.top l.entry one.others (omega arith) (omega arith)))
      links low top start a b p vs s st.store st.taken st.turns k lies (omega (arith, tu, tn)) (λ r s1 st1 tu1 ab is1. h r s1 st1 (omega (arith, tu1, tu)) ab is1)
