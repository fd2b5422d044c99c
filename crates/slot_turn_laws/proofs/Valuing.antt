-- The code of a value does what the typed run says.
use Rattle.std.proofs.Common.{◌≡◌, ℕ, suc, ◌+◌, ◌≤◌, Bool, true, false, List, [], ◌∷◌, ◌++◌, length, Option, Some, ℤ, pos, negsuc, slice_get, inl, refl, sym, ap, ◌∙◌, subst, arith, length-append}
use Rattle.std.specs.Prelude.{unsigned_abs, int_le, int_lt, ◌&&◌}
use Rattle.lv_base.specs.declared.kind.Kind.{Kind}
use Rattle.lv_base.specs.declared.kind.Op.TheVariants as arith'
use Rattle.lv_base.specs.declared.fault.ErrorKind.TheVariants as error
use Rattle.lv_base.specs.Integers.{truth, is_zero, converted}
use Rattle.c_tree.specs.declared.symbol.BinaryOp.{BinaryOp}
use Rattle.c_run.specs.Run.{State, Got, Value, Stop, Error, Ended, Run, give, after, choose, read, Element, element, scalar, located, draw, computed}
use Rattle.c_run.specs.Operators.{Use, used, dropped, called_value}
use Rattle.c_typed.specs.Tree.{Val, vConstant, vRead, vElement, vWhole, vNothing, vConvert, vDiscard, vNegate, vComplement, vNot, vBinary, vBoth, vEither, vCond, vAssign, vUpdate, vChange, vCall, vReach, vAbort, vDraw, vComma, Goal, gObject, gElement, Vals, no_values, values_and}
use Rattle.c_typed.specs.Rules.{object_in, calls, calls_in, calls_of_goal}
use Rattle.typed_range_laws.specs.Ways.{picked, write_kept}
use Rattle.typed_range_laws.specs.Keeping as keeping
use Rattle.slot_code.specs.declared.flat.Instruction.{Instruction}
use Rattle.slot_code.specs.declared.flat.Instruction.TheVariants as i
use Rattle.slot_code.specs.declared.reply.Ending.TheVariants as ending
use Rattle.slot_code.specs.Slots.{get}
use Rattle.slot_code.specs.Values.{Link, link_of, number_of, count_of, value_code, values_code, drops_code, goal_code, call_code, is_needed, parameters_of}
use Rattle.slot_code.specs.Machine.{applied, updated, changed, element_read, index_found}
use Rattle.slot_laws.proofs.Running.{value_in}
use Rattle.slot_turn_laws.proofs.Running.{still_here, still_write_kept, still_computed, still_drawn, still_element, still_index, still_applied, still_updated, still_changed}
use Rattle.slot_turn_laws.proofs.Lying.{ends, ends_value, seq, Frame, split, parts, from, there_from, stops, keeps_same, keeps_on, keeps_less, Does, then_on, In, Nothing, one}
use Rattle.slot_turn_laws.proofs.Pieces.{single, unary, binary, both, either, choice}
use Rattle.slot_laws.proofs.Calling.{HoldsAll, holds_more, Linked, linked_first, linked_last}
use Rattle.slot_turn_laws.proofs.Calling.{holds_kept, Called, call_does}

module _ (c : Frame) (t : ℕ) where
  -- a value that is not used
  pub drop : (d : ℕ) (xs : List Instruction) (g : Run ℤ) → Does c t ℤ (In c t d) d xs g → Does c t (Unit {0}) (Nothing c t) d xs (λ st. after (g st) (λ v. give tt))
  drop d xs g runs p q s st k e l tu h =
      seq c.asker ℤ (Unit {0}) (g st) (λ v. give tt) k (from c p s st) (runs p q s st (λ v st1. ends c.asker (Value tt st1) k) e l tu (λ v s1 st1 tu1 k1 is1. h tt s1 st1 tu1 k1 tt ∙ sym (ends_value c.asker tt st1 k)))

  -- one piece and then another
  pub then_do : (A : Type 0) (Is : A → List ℤ → Type 0) (d : ℕ) (xs ys : List Instruction) (g : Run (Unit {0})) (f : Run A) → Does c t (Unit {0}) (Nothing c t) d xs g → Does c t A Is d ys f → Does c t A Is d (xs ++ ys) (λ st. after (g st) (λ v. f))
  then_do A Is d xs ys g f runs runs' p q s st k e l tu h =
      let r = split c p xs ys l in
      let n : length (xs ++ ys) ≡ length xs + length ys = length-append xs ys in
      seq c.asker (Unit {0}) A (g st) (λ v. f) k (from c p s st) (runs p (p + length xs) s st (λ v st1. ends c.asker (f st1) k) refl r.0 tu
      (λ v s1 st1 tu1 k1 is1. runs' (p + length xs) q s1 st1 k (omega (arith, e, n)) r.1 tu1 (then_on c t A Is d q s s1 k k1 h)))

  -- `op=`: the index, the old value, the right side
  pub update : (d : ℕ) (xs ys : List Instruction) (g g' : Run ℤ) (o : BinaryOp) (kind kind' : Kind) (at object : ℕ) → c.low ≤ d → Does c t ℤ (In c t d) d xs g → Does c t ℤ (In c t (suc (suc d))) (suc (suc d)) ys g' →
      Does c t ℤ (In c t d) d ((xs ++ (i.Load d object ∷ ys)) ++ i.Update d o kind kind' at object ∷ [])
      (λ st. after (g st) (λ v st1. after (g' st1) (updated c.model c.compute c.inputs at o kind kind' (c.way.pick object v) (value_in st1 (c.way.pick object v)))))
  update d xs ys g g' o kind kind' at object lo runs runs' p q s st k e l tu h =
      let r = parts c p xs (i.Load d object ∷ ys) (i.Update d o kind kind' at object ∷ []) l in
      let el : ℤ → Element = λ v. c.way.pick object v in
      let up : Element → ℤ → ℤ → Run ℤ = λ a x y. updated c.model c.compute c.inputs at o kind kind' a x y in
      let m : ℕ = p + length xs in
      let m2 : ℕ = p + length xs + suc (length ys) in
      seq c.asker ℤ ℤ (g st) (λ v st1. after (g' st1) (up (el v) (value_in st1 (el v)))) k (from c p s st) (runs p m s st (λ v st1. ends c.asker (after (g' st1) (up (el v) (value_in st1 (el v)))) k) refl r.first tu
      (λ v s1 st1 tu1 k1 is1.
      one c t m (suc m) (suc d) (suc d) s1 st1 (i.Load d object) (Value (value_in st1 (el (get s1 d))) st1) (λ x st2. ends c.asker (after (g' st2) (up (el v) x)) k) refl r.second.0 refl (omega arith) (omega (arith, r.second.0.below)) (still_here st1 (value_in st1 (el (get s1 d)))) tu1
      (λ x s2 st2 tu2 k2 is2. seq c.asker ℤ ℤ (g' st2) (up (el v) x) k (from c (suc m) s2 st2) (runs' (suc m) m2 s2 st2 (λ y st3. ends c.asker (up (el v) x y st3) k) (omega arith) r.second.1 tu2
      (λ y s3 st3 tu3 k3 is3.
      one c t m2 q d d s3 st3 (i.Update d o kind kind' at object) (up (el (get s3 d)) (get s3 (suc d)) (get s3 (suc (suc d))) st3) k (omega (arith, e, r.whole)) r.third.0 refl (omega arith) (omega (arith, r.third.0.below))
      (still_updated c.model c.compute c.inputs at o kind kind' (el (get s3 d)) (get s3 (suc d)) (get s3 (suc (suc d))) st3) tu3
      (then_on c t ℤ (In c t d) d q s s3 k (keeps_on c d s s1 s3 k1 (keeps_on c d s1 s2 s3 (keeps_less c d (suc d) s1 s2 (omega arith) k2) (keeps_less c d (suc (suc d)) s2 s3 (omega arith) k3))) h)
      ∙ ap (λ z. ends c.asker (up (el z) (get s3 (suc d)) (get s3 (suc (suc d))) st3) k) (k3 d lo (inl (omega arith)) ∙ k2 d lo (inl (omega arith)) ∙ is1)
      ∙ ap (λ z. ends c.asker (up (el v) z (get s3 (suc (suc d))) st3) k) (k3 (suc d) (omega (arith, lo)) (inl (omega arith)) ∙ is2)
      ∙ ap (λ z. ends c.asker (up (el v) x z st3) k) is3)))
      ∙ ends_value c.asker (value_in st1 (el (get s1 d))) st1 (λ x st2. ends c.asker (after (g' st2) (up (el v) x)) k)
      ∙ ap (λ z. ends c.asker (after (g' st1) (up (el v) (value_in st1 (el z)))) k) is1))

-- ---- All values

module _ (c : Frame) (t : ℕ) (hc : Called c t) where
  abbrev value : Use → Val → Run ℤ
  value u e = keeping.value c.model c.objects c.compute c.way c.inputs c.call u e

  abbrev code : Use → ℕ → Val → List Instruction
  code u d e = value_code c.objects c.functions c.links u d e

  abbrev count : ℕ → ℕ
  count object = count_of c.objects c.functions c.links object

  -- the index of what is assigned to
  abbrev index_of : Goal → Run ℤ
  index_of (gObject object) = give (pos 0)
  index_of (gElement at object e) = λ st. after (value used e st) (index_found c.model c.compute c.inputs at object (count object))

  found_after : (object : ℕ) (v : ℤ) (b : Bool) (at : ℕ) (st : State) (f : Element → Run ℤ) (f' : ℤ → Run ℤ) → ((n : ℕ) (st1 : State) → f (element object n) st1 ≡ f' (pos n) st1) →
      after (choose b (give (element object (unsigned_abs v))) (λ (s : State). Stop (Error error.Index at s.taken)) st) f
      ≡ after (after (choose b (give (element object (unsigned_abs v))) (λ (s : State). Stop (Error error.Index at s.taken)) st) (λ a. give (pos a.index))) f'
  found_after object v true at st f f' h = h (unsigned_abs v) st
  found_after object v false at st f f' h = refl

  element_after : (at object : ℕ) (g : Got ℤ) (f : Element → Run ℤ) (f' : ℤ → Run ℤ) → ((n : ℕ) (st1 : State) → f (element object n) st1 ≡ f' (pos n) st1) →
      after (after g (λ v. located at object (count object) v)) f ≡ after (after g (index_found c.model c.compute c.inputs at object (count object))) f'
  element_after at object (Value v st) f f' h = found_after object v (int_le (pos 0) v && int_lt v (pos (count object))) at st f f' h
  element_after at object (Stop e) f f' h = refl

  -- what is done with an element is done with its index
  goal_after : (g : Goal) (st : State) (f : Element → Run ℤ) (f' : ℤ → Run ℤ) → ((n : ℕ) (st1 : State) → f (element (object_in g) n) st1 ≡ f' (pos n) st1) →
      after (keeping.target_of c.model c.objects c.compute c.way c.inputs c.call g st) f ≡ after (index_of g st) f'
  goal_after (gObject object) st f f' h = h 0 st
  goal_after (gElement at object e) st f f' h = element_after at object (value used e st) f f' h

  reach_does : (d at : ℕ) → Does c t ℤ (In c t d) d (i.Fail error.Reach at ∷ []) (λ (st : State). Stop (Error error.Reach at st.taken))
  unfolding ends
  reach_does d at p q s st k e l tu h = stops c p s st (i.Fail error.Reach at) (ending.Error error.Reach at st.taken) l.0 refl

  abort_does : (d : ℕ) → Does c t ℤ (In c t d) d (i.Stop ∷ []) (λ (st : State). Stop Ended)
  unfolding ends
  abort_does d p q s st k e l tu h = stops c p s st i.Stop ending.Ended l.0 refl

  no_values_do : (d : ℕ) → Does c t (List ℤ) (HoldsAll 0 d) d [] (give [])
  no_values_do d p q s st k e l tu h = there_from c q p s st _ (omega (arith, e)) (h [] s st tu (keeps_same c d s) (refl, tt) ∙ sym (ends_value c.asker [] st k))

  pub no_drops_do : (d : ℕ) → Does c t (Unit {0}) (Nothing c t) d [] (give tt)
  no_drops_do d p q s st k e l tu h = there_from c q p s st _ (omega (arith, e)) (h tt s st tu (keeps_same c d s) tt ∙ sym (ends_value c.asker tt st k))

  more_values_do : (d n : ℕ) (xs ys : List Instruction) (g : Run (List ℤ)) (g' : Run ℤ) → c.low ≤ d → Does c t (List ℤ) (HoldsAll n d) d xs g → Does c t ℤ (In c t (d + n)) (d + n) ys g' →
      Does c t (List ℤ) (HoldsAll (suc n) d) d (xs ++ ys) (λ st. after (g st) (λ vs st1. after (g' st1) (λ v. give (vs ++ v ∷ []))))
  more_values_do d n xs ys g g' lo runs runs' p q s st k e l tu h =
      let r = split c p xs ys l in
      let len : length (xs ++ ys) ≡ length xs + length ys = length-append xs ys in
      let m : ℕ = p + length xs in
      seq c.asker (List ℤ) (List ℤ) (g st) (λ vs st1. after (g' st1) (λ v. give (vs ++ v ∷ []))) k (from c p s st) (runs p m s st (λ vs st1. ends c.asker (after (g' st1) (λ v. give (vs ++ v ∷ []))) k) refl r.0 tu
      (λ vs s1 st1 tu1 k1 is1. seq c.asker ℤ (List ℤ) (g' st1) (λ v. give (vs ++ v ∷ [])) k (from c m s1 st1) (runs' m q s1 st1 (λ v st2. ends c.asker (Value (vs ++ v ∷ []) st2) k) (omega (arith, e, len)) r.1 tu1
      (λ v s2 st2 tu2 k2 is2.
      let long : length (vs ++ v ∷ []) ≡ length vs + 1 = length-append vs (v ∷ []) in
      h (vs ++ v ∷ []) s2 st2 tu2 (keeps_on c d s s1 s2 k1 (keeps_less c d (d + n) s1 s2 (omega arith) k2))
      (omega (arith, long, is1.0), holds_more d s2 vs v (holds_kept c d n (d + n) s1 s2 vs lo is1.0 (omega arith) k2 is1.1) (subst (λ x. get s2 (d + x) ≡ v) (sym is1.0) is2))
      ∙ sym (ends_value c.asker (vs ++ v ∷ []) st2 k)))))

  called_does : (u : Use) (result : Option Kind) (f at d n : ℕ) (l : Link) (xs : List Instruction) (g : Run (List ℤ)) → link_of f c.links ≡ Some l → Does c t (List ℤ) (HoldsAll n d) d xs g →
      Does c t ℤ (In c t d) d (xs ++ call_code d at (is_needed u result) (parameters_of (slice_get c.functions f)) n (link_of f c.links)) (λ st. after (g st) (λ vs st1. after (c.call f at vs st1) (called_value u result at)))
  called_does u result f at d n l xs g link runs p q s st k e code tu h =
      let ys : List Instruction = call_code d at (is_needed u result) (parameters_of (slice_get c.functions f)) n (link_of f c.links) in
      let r = split c p xs ys code in
      let len : length (xs ++ ys) ≡ length xs + length ys = length-append xs ys in
      let m : ℕ = p + length xs in
      seq c.asker (List ℤ) ℤ (g st) (λ vs st1. after (c.call f at vs st1) (called_value u result at)) k (from c p s st) (runs p m s st (λ vs st1. ends c.asker (after (c.call f at vs st1) (called_value u result at)) k) refl r.0 tu
      (λ vs s1 st1 tu1 k1 is1. call_does c t hc u result f at d n m q l s1 st1 vs k link (omega (arith, e, len)) r.1 tu1 is1 (then_on c t ℤ (In c t d) d q s s1 k k1 h)))

  mutual
    pub value_does : (u : Use) (d : ℕ) (e : Val) → c.low ≤ d → Linked c.links (calls e) → Does c t ℤ (In c t d) d (code u d e) (value u e)
    value_does u d (vConstant kind v) lo li = single c t d (i.Constant d v) (give v) (λ p s st. refl) (omega arith) (λ st. still_here st v)
    value_does u d (vRead kind object) lo li = single c t d (i.Read d object) (read (scalar object)) (λ p s st. refl) (omega arith) (λ st. still_here st (value_in st (scalar object)))
    value_does u d (vElement kind at object e) lo li =
        unary c t d (code used d e) (value used e) (i.Element d at object (count object)) (element_read c.model c.compute c.inputs at object (count object)) (value_does used d e lo li) (λ p s st. refl) (omega arith) (still_element c.model c.compute c.inputs at object (count object))
    value_does u d (vWhole object) lo li = single c t d (i.Read d object) (read (scalar object)) (λ p s st. refl) (omega arith) (λ st. still_here st (value_in st (scalar object)))
    value_does u d vNothing lo li = single c t d (i.Constant d (pos 0)) (give (pos 0)) (λ p s st. refl) (omega arith) (λ st. still_here st (pos 0))
    value_does u d (vConvert kind e) lo li =
        unary c t d (code used d e) (value used e) (i.Convert d kind) (λ v. give (converted kind c.model v)) (value_does used d e lo li) (λ p s st. refl) (omega arith) (λ v st. still_here st (converted kind c.model v))
    value_does u d (vDiscard e) lo li =
        unary c t d (code dropped d e) (value dropped e) (i.Constant d (pos 0)) (λ v. give (pos 0)) (value_does dropped d e lo li) (λ p s st. refl) (omega arith) (λ v st. still_here st (pos 0))
    value_does u d (vNegate kind at e) lo li =
        unary c t d (code used d e) (value used e) (i.Negate d kind at) (λ v. computed at (c.compute arith'.Sub kind (pos 0) v)) (value_does used d e lo li) (λ p s st. refl) (omega arith) (λ v st. still_computed at (c.compute arith'.Sub kind (pos 0) v) st)
    value_does u d (vComplement kind at e) lo li =
        unary c t d (code used d e) (value used e) (i.Complement d kind at) (λ v. computed at (c.compute arith'.Xor kind v (converted kind c.model (negsuc 0)))) (value_does used d e lo li) (λ p s st. refl) (omega arith)
        (λ v st. still_computed at (c.compute arith'.Xor kind v (converted kind c.model (negsuc 0))) st)
    value_does u d (vNot e) lo li =
        unary c t d (code used d e) (value used e) (i.Not d) (λ v. give (truth (is_zero v))) (value_does used d e lo li) (λ p s st. refl) (omega arith) (λ v st. still_here st (truth (is_zero v)))
    value_does u d (vBinary o kind at a b) lo li =
        binary c t d (code used d a) (code used (suc d) b) (value used a) (value used b) (i.Binary d o kind at) (applied c.model c.compute c.inputs at o kind) lo
        (value_does used d a lo (linked_first c.links (calls a) (calls b) li)) (value_does used (suc d) b (omega (arith, lo)) (linked_last c.links (calls a) (calls b) li)) (λ p s st. refl) (omega arith) (still_applied c.model c.compute c.inputs at o kind)
    value_does u d (vBoth a b) lo li =
        both c t d (code used d a) (code used d b) (value used a) (value used b) (value_does used d a lo (linked_first c.links (calls a) (calls b) li)) (value_does used d b lo (linked_last c.links (calls a) (calls b) li))
    value_does u d (vEither a b) lo li =
        either c t d (code used d a) (code used d b) (value used a) (value used b) (value_does used d a lo (linked_first c.links (calls a) (calls b) li)) (value_does used d b lo (linked_last c.links (calls a) (calls b) li))
    value_does u d (vCond kind e a b) lo li =
        choice c t d kind (code used d e) (code used d a) (code used d b) (value used e) (value used a) (value used b)
        (value_does used d e lo (linked_first c.links (calls e) (calls a) (linked_first c.links (calls e ++ calls a) (calls b) li)))
        (value_does used d a lo (linked_last c.links (calls e) (calls a) (linked_first c.links (calls e ++ calls a) (calls b) li))) (value_does used d b lo (linked_last c.links (calls e ++ calls a) (calls b) li))
    value_does u d (vAssign kind at g e) lo li = λ p q s st k eq l tu h.
        binary c t d (goal_code c.objects c.functions c.links d g) (code used (suc d) e) (index_of g) (value used e) (i.Store d (object_in g)) (λ n v. write_kept c.way (object_in g) n v) lo
        (goal_does d g lo (linked_first c.links (calls_of_goal g) (calls e) li)) (value_does used (suc d) e (omega (arith, lo)) (linked_last c.links (calls_of_goal g) (calls e) li)) (λ p s st. refl) (omega arith)
        (λ n v st. still_write_kept st c.way (object_in g) n v) p q s st k eq l tu h
        ∙ sym (ap (λ x. ends c.asker x k) (goal_after g st (λ a st1. after (value used e st1) (λ v. write_kept c.way a.object (pos a.index) v)) (λ n st1. after (value used e st1) (λ v. write_kept c.way (object_in g) n v)) (λ n st1. refl)))
    value_does u d (vUpdate o kind kind' at g e) lo li = λ p q s st k eq l tu h.
        update c t d (goal_code c.objects c.functions c.links d g) (code used (suc (suc d)) e) (index_of g) (value used e) o kind kind' at (object_in g) lo
        (goal_does d g lo (linked_first c.links (calls_of_goal g) (calls e) li)) (value_does used (suc (suc d)) e (omega (arith, lo)) (linked_last c.links (calls_of_goal g) (calls e) li)) p q s st k eq l tu h
        ∙ sym (ap (λ x. ends c.asker x k) (goal_after g st (λ a st1. after (value used e st1) (updated c.model c.compute c.inputs at o kind kind' (picked c.way a) (value_in st1 (picked c.way a))))
        (λ n st1. after (value used e st1) (updated c.model c.compute c.inputs at o kind kind' (c.way.pick (object_in g) n) (value_in st1 (c.way.pick (object_in g) n)))) (λ n st1. refl)))
    value_does u d (vChange before by kind at g) lo li = λ p q s st k eq l tu h.
        unary c t d (goal_code c.objects c.functions c.links d g) (index_of g) (i.Change d before by kind at (object_in g)) (λ n. changed c.model c.compute c.inputs at before by kind (c.way.pick (object_in g) n) (c.way.back (object_in g) n))
        (goal_does d g lo li) (λ p s st. refl) (omega arith) (λ n st. still_changed c.model c.compute c.inputs at before by kind (c.way.pick (object_in g) n) (c.way.back (object_in g) n) st) p q s st k eq l tu h
        ∙ sym (ap (λ x. ends c.asker x k) (goal_after g st (λ a. changed c.model c.compute c.inputs at before by kind (picked c.way a) (c.way.back a.object (pos a.index))) (λ n. changed c.model c.compute c.inputs at before by kind (c.way.pick (object_in g) n) (c.way.back (object_in g) n)) (λ n st1. refl)))
    value_does u d (vCall result at x f es) lo li = called_does u result f at d (number_of es) li.0.0 (values_code c.objects c.functions c.links d es) (keeping.values c.model c.objects c.compute c.way c.inputs c.call es) li.0.1 (values_do d es lo li.1)
    value_does u d (vReach at) lo li = reach_does d at
    value_does u d vAbort lo li = abort_does d
    value_does u d (vDraw kind) lo li = single c t d (i.Draw d kind) (draw c.inputs c.model kind) (λ p s st. refl) (omega arith) (λ st. still_drawn kind c.model (slice_get c.inputs st.taken) st)
    value_does u d (vComma es e) lo li =
        then_do c t ℤ (In c t d) d (drops_code c.objects c.functions c.links d es) (code used d e) (keeping.drop_values c.model c.objects c.compute c.way c.inputs c.call es) (value used e)
        (drops_do d es lo (linked_first c.links (calls_in es) (calls e) li)) (value_does used d e lo (linked_last c.links (calls_in es) (calls e) li))

    pub values_do : (d : ℕ) (es : Vals) → c.low ≤ d → Linked c.links (calls_in es) →
        Does c t (List ℤ) (HoldsAll (number_of es) d) d (values_code c.objects c.functions c.links d es) (keeping.values c.model c.objects c.compute c.way c.inputs c.call es)
    values_do d no_values lo li = no_values_do d
    values_do d (values_and es e) lo li =
        more_values_do d (number_of es) (values_code c.objects c.functions c.links d es) (code used (d + number_of es) e) (keeping.values c.model c.objects c.compute c.way c.inputs c.call es) (value used e) lo
        (values_do d es lo (linked_first c.links (calls_in es) (calls e) li)) (value_does used (d + number_of es) e (omega (arith, lo)) (linked_last c.links (calls_in es) (calls e) li))

    pub drops_do : (d : ℕ) (es : Vals) → c.low ≤ d → Linked c.links (calls_in es) → Does c t (Unit {0}) (Nothing c t) d (drops_code c.objects c.functions c.links d es) (keeping.drop_values c.model c.objects c.compute c.way c.inputs c.call es)
    drops_do d no_values lo li = no_drops_do d
    drops_do d (values_and es e) lo li =
        then_do c t (Unit {0}) (Nothing c t) d (drops_code c.objects c.functions c.links d es) (code dropped d e) (keeping.drop_values c.model c.objects c.compute c.way c.inputs c.call es) (λ st. after (value dropped e st) (λ v. give tt))
        (drops_do d es lo (linked_first c.links (calls_in es) (calls e) li)) (drop c t d (code dropped d e) (value dropped e) (value_does dropped d e lo (linked_last c.links (calls_in es) (calls e) li)))

    goal_does : (d : ℕ) (g : Goal) → c.low ≤ d → Linked c.links (calls_of_goal g) → Does c t ℤ (In c t d) d (goal_code c.objects c.functions c.links d g) (index_of g)
    goal_does d (gObject object) lo li = single c t d (i.Constant d (pos 0)) (give (pos 0)) (λ p s st. refl) (omega arith) (λ st. still_here st (pos 0))
    goal_does d (gElement at object e) lo li =
        unary c t d (code used d e) (value used e) (i.Locate d at object (count object)) (index_found c.model c.compute c.inputs at object (count object)) (value_does used d e lo li) (λ p s st. refl) (omega arith)
        (still_index c.model c.compute c.inputs at object (count object))
