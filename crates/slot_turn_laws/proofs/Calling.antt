-- Values in a row, the parameters that get them, and calls.
use Rattle.std.proofs.Common.{◌≡◌, ℕ, zero, suc, ◌+◌, ◌≤◌, Bool, List, [], ◌∷◌, ◌++◌, length, Option, Some, ℤ, slice_get, slice_set, inl, refl, ap, ◌∙◌, subst, arith, length-append}
use Rattle.lv_base.specs.declared.kind.Kind.{Kind}
use Rattle.c_run.specs.Run.{State, after, with_store}
use Rattle.c_run.specs.Operators.{Use, called_value}
use Rattle.c_typed.specs.Rules.{Call}
use Rattle.slot_code.specs.declared.flat.Instruction.{Instruction}
use Rattle.slot_code.specs.declared.flat.Instruction.TheVariants as i
use Rattle.slot_code.specs.Slots.{get}
use Rattle.slot_code.specs.Values.{Link, link_of, parameters_of, is_needed, bind_code, call_code}
use Rattle.slot_code.specs.Machine.{taken_of, returned_in}
use Rattle.slot_laws.proofs.Calling.{Holds, HoldsAll, bound_store, call_taken}
use Rattle.slot_turn_laws.proofs.Running.{still_taken}
use Rattle.slot_turn_laws.proofs.Lying.{Met, ends, seq, Frame, Lies, At, split, from, leads, Keeps, Then, then_on, In, one}

-- ---- Values in slots that stand in a row

pub holds_kept : (c : Frame) (d n top : ℕ) (s s' : List ℤ) (vs : List ℤ) → c.low ≤ d → length vs ≡ n → d + n ≤ top → Keeps c top s s' → Holds d s vs → Holds d s' vs
holds_kept c d n top s s' [] lo e le k h = tt
holds_kept c d zero top s s' (v ∷ vs) lo e le k h = absurd (omega (arith, e))
holds_kept c d (suc n) top s s' (v ∷ vs) lo e le k h = (k d lo (inl (omega (arith, le))) ∙ h.0, holds_kept c (suc d) n top s s' vs (omega (arith, lo)) (omega (arith, e)) (omega (arith, le)) k h.1)

-- ---- Parameters

module _ (c : Frame) where
  pub binds : (os : List ℕ) (vs : List ℤ) (n d m : ℕ) (s : List ℤ) (st : State) → At c m (bind_code d os n) → length vs ≡ n → Holds d s vs →
      from c m s st ≡ from c (m + length (bind_code d os n)) s (with_store st (bound_store c.way os vs st.store))
  binds [] vs n d m s st l e h = ap (λ x. from c x s st) (omega arith)
  binds (o ∷ os) [] zero d m s st l e h = ap (λ x. from c x s st) (omega arith)
  binds (o ∷ os) [] (suc n) d m s st l e h = absurd (omega (arith, e))
  binds (o ∷ os) (v ∷ vs) zero d m s st l e h = absurd (omega (arith, e))
  binds (o ∷ os) (v ∷ vs) (suc n) d m s st l e h =
      leads c m (suc m) s s st (with_store st (slice_set st.store o (c.way.keep o (get s d) ∷ []))) (i.Bind d o) l.0 refl
      ∙ ap (λ x. from c (suc m) s (with_store st (slice_set st.store o (c.way.keep o x ∷ [])))) h.0
      ∙ binds os vs n (suc d) (suc m) s (with_store st (slice_set st.store o (c.way.keep o v ∷ []))) l.1 (omega (arith, e)) h.1
      ∙ ap (λ x. from c x s (with_store st (bound_store c.way os vs (slice_set st.store o (c.way.keep o v ∷ []))))) (omega arith)

-- ---- Calls

-- all slots of a function are as before
abbrev pub Above : Frame → List ℤ → List ℤ → Type 0
Above c s s' = (n : ℕ) → c.low ≤ n → get s' n ≡ get s n

-- what a call does behind the stores of its arguments
unfoldable pub Called : Frame → ℕ → Type 0
Called c t =
    (f at : ℕ) (l : Link) (vs : List ℤ) → link_of f c.links ≡ Some l → (p : ℕ) (s : List ℤ) (st : State) (k : Option ℤ → State → Met) → Lies c p (i.Call at l.entry l.slot) → st.turns ≤ t →
    ((r : Option ℤ) (s' : List ℤ) (st' : State) → st'.turns ≤ t → Above c s s' → returned_in s' l.slot ≡ r → from c (suc p) s' st' ≡ k r st') →
    from c p s (with_store st (bound_store c.way (parameters_of (slice_get c.functions f)) vs st.store)) ≡ ends c.asker (c.call f at vs st) k

module _ (c : Frame) (t : ℕ) (hc : Called c t) where
  calls_do : (u : Use) (result : Option Kind) (f at d n m q : ℕ) (l : Link) (s : List ℤ) (st : State) (vs : List ℤ) (k : ℤ → State → Met) → link_of f c.links ≡ Some l →
      let xs : List Instruction = call_code d at (is_needed u result) (parameters_of (slice_get c.functions f)) n (Some l) in
      q ≡ m + length xs → At c m xs → st.turns ≤ t → HoldsAll n d vs s → Then c t ℤ (In c t d) d q s k → from c m s st ≡ ends c.asker (after (c.call f at vs st) (called_value u result at)) k
  unfolding Called
  calls_do u result f at d n m q l s st vs k link e code tu hv h =
      let os : List ℕ = parameters_of (slice_get c.functions f) in
      let xs : List Instruction = bind_code d os n in
      let needed : Bool = is_needed u result in
      let r = split c m xs (i.Call at l.entry l.slot ∷ i.Take d at l.slot needed ∷ []) code in
      let len : length (xs ++ i.Call at l.entry l.slot ∷ i.Take d at l.slot needed ∷ []) ≡ length xs + 2 = length-append xs (i.Call at l.entry l.slot ∷ i.Take d at l.slot needed ∷ []) in
      let p : ℕ = m + length xs in
      seq c.asker (Option ℤ) ℤ (c.call f at vs st) (called_value u result at) k (from c m s st)
      (binds c os vs n d m s st r.0 hv.0 hv.1 ∙ hc f at l vs link p s st (λ o st1. ends c.asker (called_value u result at o st1) k) r.1.0 tu
      (λ o s1 st1 tu1 ab is1.
      one c t (suc p) q d d s1 st1 (i.Take d at l.slot needed) (taken_of needed at (returned_in s1 l.slot) st1) k (omega (arith, e, len)) r.1.1.0 refl (omega arith) (omega (arith, r.1.1.0.below)) (still_taken needed at (returned_in s1 l.slot) st1) tu1
      (then_on c t ℤ (In c t d) d q s s1 k (λ x lo b. ab x lo) h)
      ∙ ap (λ x. ends c.asker (taken_of needed at x st1) k) is1
      ∙ ap (λ x. ends c.asker x k) (call_taken u result at o st1)))

  -- the same where the function is looked up
  pub call_does : (u : Use) (result : Option Kind) (f at d n m q : ℕ) (l : Link) (s : List ℤ) (st : State) (vs : List ℤ) (k : ℤ → State → Met) → link_of f c.links ≡ Some l →
      let xs : List Instruction = call_code d at (is_needed u result) (parameters_of (slice_get c.functions f)) n (link_of f c.links) in
      q ≡ m + length xs → At c m xs → st.turns ≤ t → HoldsAll n d vs s → Then c t ℤ (In c t d) d q s k → from c m s st ≡ ends c.asker (after (c.call f at vs st) (called_value u result at)) k
  call_does u result f at d n m q l s st vs k link e code tu hv h =
      let xs : Option Link → List Instruction = λ o. call_code d at (is_needed u result) (parameters_of (slice_get c.functions f)) n o in
      calls_do u result f at d n m q l s st vs k link (subst (λ o. q ≡ m + length (xs o)) link e) (subst (λ o. At c m (xs o)) link code) tu hv h
