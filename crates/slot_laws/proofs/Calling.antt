-- Values in a row, the parameters that get them, and calls.
use Rattle.std.proofs.Common.{◌≡◌, ℕ, zero, suc, ◌+◌, ◌≤◌, Bool, List, [], ◌∷◌, ◌++◌, length, Option, Some, None, ℤ, slice_get, slice_set, inl, refl, ap, ◌∙◌, subst, arith, length-append}
use Rattle.std.specs.Prelude.{map}
use Rattle.lv_base.specs.declared.kind.Kind.{Kind}
use Rattle.c_run.specs.Run.{State, Value, after, with_store}
use Rattle.c_run.specs.Operators.{Use, used, dropped, called_value}
use Rattle.typed_range_laws.specs.Ways.{Way}
use Rattle.typed_range_laws.specs.Keeping.{bind_kept}
use Rattle.c_typed.specs.Rules.{Call}
use Rattle.slot_code.specs.declared.flat.Instruction.{Instruction}
use Rattle.slot_code.specs.declared.flat.Instruction.TheVariants as i
use Rattle.slot_code.specs.declared.reply.Ending.{Ending}
use Rattle.slot_code.specs.Slots.{get, slots_through}
use Rattle.slot_code.specs.Values.{Link, link_of, parameters_of, is_needed, bind_code, call_code}
use Rattle.slot_code.specs.Machine.{taken_of, returned_in}
use Rattle.slot_laws.proofs.Running.{still_taken}
use Rattle.slot_laws.proofs.Lying.{ends, seq, Frame, Lies, At, split, from, leads, Keeps, Then, then_on, In, one}

-- ---- Values in slots that stand in a row

abbrev pub Holds : ℕ → List ℤ → List ℤ → Type 0
Holds d s [] = Unit {0}
Holds d s (v ∷ vs) = (get s d ≡ v) × Holds (suc d) s vs

abbrev pub HoldsAll : ℕ → ℕ → List ℤ → List ℤ → Type 0
HoldsAll n d vs s = (length vs ≡ n) × Holds d s vs

pub holds_more : (d : ℕ) (s : List ℤ) (vs : List ℤ) (v : ℤ) → Holds d s vs → get s (d + length vs) ≡ v → Holds d s (vs ++ v ∷ [])
holds_more d s [] v h e = (subst (λ n. get s n ≡ v) (omega arith) e, tt)
holds_more d s (w ∷ vs) v h e = (h.0, holds_more (suc d) s vs v h.1 (subst (λ n. get s n ≡ v) (omega arith) e))

pub holds_kept : (c : Frame) (d n top : ℕ) (s s' : List ℤ) (vs : List ℤ) → c.low ≤ d → length vs ≡ n → d + n ≤ top → Keeps c top s s' → Holds d s vs → Holds d s' vs
holds_kept c d n top s s' [] lo e le k h = tt
holds_kept c d zero top s s' (v ∷ vs) lo e le k h = absurd (omega (arith, e))
holds_kept c d (suc n) top s s' (v ∷ vs) lo e le k h = (k d lo (inl (omega (arith, le))) ∙ h.0, holds_kept c (suc d) n top s s' vs (omega (arith, lo)) (omega (arith, e)) (omega (arith, le)) k h.1)

-- what becomes of such values
pub held_through : (f : ℤ → ℤ) (d n : ℕ) (s vs : List ℤ) → length vs ≡ n → Holds d s vs → slots_through f s d n ≡ map f vs
held_through f d zero s [] e h = refl
held_through f d zero s (v ∷ vs) e h = absurd (omega (arith, e))
held_through f d (suc n) s [] e h = absurd (omega (arith, e))
held_through f d (suc n) s (v ∷ vs) e h = ap (λ x. f x ∷ slots_through f s (suc d) n) h.0 ∙ ap (λ xs. f v ∷ xs) (held_through f (suc d) n s vs (omega (arith, e)) h.1)

-- ---- Parameters

-- the store in which these objects have what is kept of these values
abbrev pub bound_store : Way → List ℕ → List ℤ → List (List ℤ) → List (List ℤ)
bound_store way (o ∷ os) (v ∷ vs) store = bound_store way os vs (slice_set store o (way.keep o v ∷ []))
bound_store way _ _ store = store

pub bound : (way : Way) (os : List ℕ) (vs : List ℤ) (st : State) → bind_kept way os vs st ≡ Value tt (with_store st (bound_store way os vs st.store))
bound way [] vs st = refl
bound way (o ∷ os) [] st = refl
bound way (o ∷ os) (v ∷ vs) st = bound way os vs (with_store st (slice_set st.store o (way.keep o v ∷ [])))

module _ (c : Frame) where
  pub binds : (os : List ℕ) (vs : List ℤ) (n d m : ℕ) (s : List ℤ) (st : State) → At c m (bind_code d os n) → length vs ≡ n → Holds d s vs →
      from c m s st ≡ from c (m + length (bind_code d os n)) s (with_store st (bound_store c.way os vs st.store))
  binds [] vs n d m s st l e h = ap (λ x. from c x s st) (omega arith)
  binds (o ∷ os) [] zero d m s st l e h = ap (λ x. from c x s st) (omega arith)
  binds (o ∷ os) [] (suc n) d m s st l e h = absurd (omega (arith, e))
  binds (o ∷ os) (v ∷ vs) zero d m s st l e h = absurd (omega (arith, e))
  binds (o ∷ os) (v ∷ vs) (suc n) d m s st l e h =
      leads c m (suc m) s s st (with_store st (slice_set st.store o (c.way.keep o (get s d) ∷ []))) (i.Bind d o) l.0 refl
      ∙ ap (λ x. from c (suc m) s (with_store st (slice_set st.store o (c.way.keep o x ∷ [])))) h.0
      ∙ binds os vs n (suc d) (suc m) s (with_store st (slice_set st.store o (c.way.keep o v ∷ []))) l.1 (omega (arith, e)) h.1
      ∙ ap (λ x. from c x s (with_store st (bound_store c.way os vs (slice_set st.store o (c.way.keep o v ∷ []))))) (omega arith)

-- ---- Calls

-- all slots of a function are as before
abbrev pub Above : Frame → List ℤ → List ℤ → Type 0
Above c s s' = (n : ℕ) → c.low ≤ n → get s' n ≡ get s n

-- what a call does behind the stores of its arguments
unfoldable pub Called : Frame → ℕ → Type 0
Called c t =
    (f at : ℕ) (l : Link) (vs : List ℤ) → link_of f c.links ≡ Some l → (p : ℕ) (s : List ℤ) (st : State) (k : Option ℤ → State → Ending) → Lies c p (i.Call at l.entry l.slot) → st.turns ≤ t →
    ((r : Option ℤ) (s' : List ℤ) (st' : State) → st'.turns ≤ t → Above c s s' → returned_in s' l.slot ≡ r → from c (suc p) s' st' ≡ k r st') →
    from c p s (with_store st (bound_store c.way (parameters_of (slice_get c.functions f)) vs st.store)) ≡ ends (c.call f at vs st) k

-- the functions that are called stand there
abbrev pub Linked : List Link → List Call → Type 0
Linked links [] = Unit {0}
Linked links (x ∷ xs) = ((l : Link) × (link_of x.to links ≡ Some l)) × Linked links xs

pub linked_first : (links : List Link) (xs ys : List Call) → Linked links (xs ++ ys) → Linked links xs
linked_first links [] ys h = tt
linked_first links (x ∷ xs) ys h = (h.0, linked_first links xs ys h.1)

pub linked_last : (links : List Link) (xs ys : List Call) → Linked links (xs ++ ys) → Linked links ys
linked_last links [] ys h = h
linked_last links (x ∷ xs) ys h = linked_last links xs ys h.1

pub call_taken : (u : Use) (result : Option Kind) (at : ℕ) (r : Option ℤ) (st : State) → taken_of (is_needed u result) at r st ≡ called_value u result at r st
call_taken used None at None st = refl
call_taken used (Some k) at None st = refl
call_taken dropped result at None st = refl
call_taken used None at (Some v) st = refl
call_taken used (Some k) at (Some v) st = refl
call_taken dropped result at (Some v) st = refl

module _ (c : Frame) (t : ℕ) (hc : Called c t) where
  calls_do : (u : Use) (result : Option Kind) (f at d n m q : ℕ) (l : Link) (s : List ℤ) (st : State) (vs : List ℤ) (k : ℤ → State → Ending) → link_of f c.links ≡ Some l →
      let xs : List Instruction = call_code d at (is_needed u result) (parameters_of (slice_get c.functions f)) n (Some l) in
      q ≡ m + length xs → At c m xs → st.turns ≤ t → HoldsAll n d vs s → Then c t ℤ (In c t d) d q s k → from c m s st ≡ ends (after (c.call f at vs st) (called_value u result at)) k
  unfolding Called
  calls_do u result f at d n m q l s st vs k link e code tu hv h =
      let os : List ℕ = parameters_of (slice_get c.functions f) in
      let xs : List Instruction = bind_code d os n in
      let needed : Bool = is_needed u result in
      let r = split c m xs (i.Call at l.entry l.slot ∷ i.Take d at l.slot needed ∷ []) code in
      let len : length (xs ++ i.Call at l.entry l.slot ∷ i.Take d at l.slot needed ∷ []) ≡ length xs + 2 = length-append xs (i.Call at l.entry l.slot ∷ i.Take d at l.slot needed ∷ []) in
      let p : ℕ = m + length xs in
      seq (Option ℤ) ℤ (c.call f at vs st) (called_value u result at) k (from c m s st)
      (binds c os vs n d m s st r.0 hv.0 hv.1 ∙ hc f at l vs link p s st (λ o st1. ends (called_value u result at o st1) k) r.1.0 tu
      (λ o s1 st1 tu1 ab is1.
      one c t (suc p) q d d s1 st1 (i.Take d at l.slot needed) (taken_of needed at (returned_in s1 l.slot) st1) k (omega (arith, e, len)) r.1.1.0 refl (omega arith) (omega (arith, r.1.1.0.below)) (still_taken needed at (returned_in s1 l.slot) st1) tu1
      (then_on c t ℤ (In c t d) d q s s1 k (λ x lo b. ab x lo) h)
      ∙ ap (λ x. ends (taken_of needed at x st1) k) is1
      ∙ ap (λ x. ends x k) (call_taken u result at o st1)))

  -- the same where the function is looked up
  pub call_does : (u : Use) (result : Option Kind) (f at d n m q : ℕ) (l : Link) (s : List ℤ) (st : State) (vs : List ℤ) (k : ℤ → State → Ending) → link_of f c.links ≡ Some l →
      let xs : List Instruction = call_code d at (is_needed u result) (parameters_of (slice_get c.functions f)) n (link_of f c.links) in
      q ≡ m + length xs → At c m xs → st.turns ≤ t → HoldsAll n d vs s → Then c t ℤ (In c t d) d q s k → from c m s st ≡ ends (after (c.call f at vs st) (called_value u result at)) k
  call_does u result f at d n m q l s st vs k link e code tu hv h =
      let xs : Option Link → List Instruction = λ o. call_code d at (is_needed u result) (parameters_of (slice_get c.functions f)) n o in
      calls_do u result f at d n m q l s st vs k link (subst (λ o. q ≡ m + length (xs o)) link e) (subst (λ o. At c m (xs o)) link code) tu hv h
