-- Two runs that agree as long as each object holds values of its kind: both compute as C does on operands of the kinds,
-- and one goes in a way that suits the objects.
use Rattle.std.proofs.Common.{◌≡◌, ℕ, zero, suc, Bool, true, false, List, [], ◌∷◌, ◌++◌, replicate, Option, Some, None, Result, Ok, Err, ℤ, pos, negsuc, ◌<◌, slice_get, slice_set, slice_index_or, refl, sym, ap, ◌∙◌, subst, if◌then◌else◌, arith, lit<}
use Rattle.std.specs.Prelude.{IfOk, int_le, int_lt, nat_eq, ◌&&◌, unsigned_abs, map}
use Rattle.std.proofs.lemmas.Int.{ints}
use Rattle.std.proofs.lemmas.Bool.Decides.{nat_tests}
use Rattle.lv_base.specs.declared.kind.Kind.{Kind}
use Rattle.lv_base.specs.declared.kind.Kind.TheVariants as kind
use Rattle.lv_base.specs.declared.kind.Model.{Model}
use Rattle.lv_base.specs.declared.kind.Op.{Op}
use Rattle.lv_base.specs.declared.kind.Op.TheVariants as arith'
use Rattle.lv_base.specs.declared.fault.ErrorKind.{ErrorKind}
use Rattle.lv_base.specs.declared.fault.ErrorKind.TheVariants as error
use Rattle.lv_base.specs.Integers.{InRange, InAny, IsRight, is_in_range, is_promoted, converted, truth, is_zero, arith_of}
use Rattle.c_tree.specs.declared.symbol.BinaryOp.{BinaryOp}
use Rattle.c_tree.specs.declared.symbol.BinaryOp.TheVariants as op
use Rattle.c_tree.specs.declared.symbol.Crement.{Crement}
use Rattle.c_tree.specs.declared.symbol.Crement.TheVariants as by
use Rattle.c_run.specs.Run.{State, End, Got, Value, Stop, Error, BadInput, Run, give, fail, after, choose, turn, spent, read, write, Element, element, located, values_of, with_taken, drawn, draw, draw_all, store_all, padded, computed, Compute}
use Rattle.c_run.specs.Operators.{is_logical, op_of, is_turned, is_negated, negated, crement_op}
use Rattle.c_run.specs.Loops.{Exit, Normal, Broke, Continued, Returned, Jumped, Absent, From, Seek, toLabel, toCase, toDefault, then_do, or_else, found, next_turn, loop, leave_cases, switch_on, left_by, enter}
use Rattle.c_typed.specs.Tree.{Object}
use Rattle.c_typed.specs.Facts.{is_comparison, when}
use Rattle.c_typed.specs.Facts as facts
use Rattle.c_typed.specs.Run.{promoted, size_of}
use Rattle.typed_range_laws.specs.Ways.{Agrees, Way, Suits, picked, write_kept}
use Rattle.typed_range_laws.proofs.Bounds.{truth_in_range}
use Rattle.typed_range_laws.proofs.Ranging.{converted_in_range, arith_fine, tested_in_range}

-- an element behind a write
pub set_at : {X : Type 0} (P : X → Type 0) (xs : List X) (i : ℕ) (v : X) (j : ℕ) (d : X) → (j ≡ i → P v) → P (slice_index_or xs j d) → P (slice_index_or (slice_set xs i v) j d)
set_at P [] i v j d h k = k
set_at P (x ∷ xs) zero v zero d h k = h refl
set_at P (x ∷ xs) zero v (suc j) d h k = k
set_at P (x ∷ xs) (suc i) v zero d h k = k
set_at P (x ∷ xs) (suc i) v (suc j) d h k = set_at P xs i v j d (λ e. h (ap suc e)) k

module _ (model : Model) (objects : List Object) where
  -- each element of each object is of its kind
  abbrev pub Good : List (List ℤ) → Type 0
  Good store = (o : ℕ) (told : Object) → slice_get objects o ≡ Some told → (i : ℕ) → InRange told.kind model (slice_index_or (slice_index_or store o []) i (pos 0))

  -- so is a value; what has no value may be any
  abbrev pub Of : Option Kind → ℤ → Type 0
  Of None v = Unit {0}
  Of (Some k) v = InRange k model v

  unfoldable pub Ranged : (A : Type 0) → (A → Type 0) → Got A → Type 0
  Ranged A P (Value v st) = P v × Good st.store
  Ranged A P (Stop e) = Unit {0}

  abbrev pub Alike : (A : Type 0) → (A → Type 0) → Run A → Run A → Type 0
  Alike A P m m' = (st : State) → Good st.store → (m st ≡ m' st) × Ranged A P (m' st)

  after_alike : (A B : Type 0) (P : A → Type 0) (Q : B → Type 0) (g : Got A) (f f' : A → Run B) → Ranged A P g → ((v : A) → P v → Alike B Q (f v) (f' v)) → (after g f ≡ after g f') × Ranged B Q (after g f')
  unfolding Ranged
  after_alike A B P Q (Value v st) f f' r h = h v r.0 st r.1
  after_alike A B P Q (Stop e) f f' r h = (refl, tt)

  pub binds : (A B : Type 0) (P : A → Type 0) (Q : B → Type 0) (m m' : Run A) (f f' : A → Run B) → Alike A P m m' → ((v : A) → P v → Alike B Q (f v) (f' v)) → Alike B Q (λ st. after (m st) f) (λ st. after (m' st) f')
  binds A B P Q m m' f f' h k st g = let r = h st g in let s = after_alike A B P Q (m' st) f f' r.1 k in (ap (λ x. after x f) r.0 ∙ s.0, s.1)

  pub gives : (A : Type 0) (P : A → Type 0) (v : A) → P v → Alike A P (give v) (give v)
  unfolding Ranged
  gives A P v h st g = (refl, (h, g))

  pub stops : (A : Type 0) (P : A → Type 0) (f : State → End) → Alike A P (λ st. Stop (f st)) (λ st. Stop (f st))
  unfolding Ranged
  stops A P f st g = (refl, tt)

  pub weaker : (A : Type 0) (P Q : A → Type 0) (m m' : Run A) → ((v : A) → P v → Q v) → Alike A P m m' → Alike A Q m m'
  unfolding Ranged
  weaker A P Q m m' w h st g = let r = h st g in (r.0, go (m' st) r.1)
    where
      go : (x : Got A) → Ranged A P x → Ranged A Q x
      go (Value v s) y = (w v y.0, y.1)
      go (Stop e) y = tt

  pub chosen : (A : Type 0) (P : A → Type 0) (b : Bool) (m m' n n' : Run A) → Alike A P m m' → Alike A P n n' → Alike A P (choose b m n) (choose b m' n')
  chosen A P true m m' n n' x y = x
  chosen A P false m m' n n' x y = y

  -- ---- Turns

  turn_alike : (at : ℕ) (store : List (List ℤ)) (taken turns : ℕ) → Good store → let st : State = record { store = store; taken = taken; turns = turns } in (turn at st ≡ turn at st) × Ranged (Unit {0}) (λ v. Unit {0}) (turn at st)
  unfolding Ranged
  turn_alike at store taken zero g = (refl, tt)
  turn_alike at store taken (suc left) g = (refl, (tt, g))

  pub turns : (at : ℕ) → Alike (Unit {0}) (λ v. Unit {0}) (turn at) (turn at)
  turns at st g = turn_alike at st.store st.taken st.turns g

  -- ---- Objects

  -- an element of an object of a kind
  abbrev pub Within : Kind → Element → Type 0
  Within k e = (told : Object) × (slice_get objects e.object ≡ Some told) × (told.kind ≡ k) × (e.index < size_of (Some told))

  pub reads : (k : Kind) (e : Element) → Within k e → Alike ℤ (InRange k model) (read e) (read e)
  unfolding Ranged
  reads k e w st g = (refl, (subst (λ x. InRange x model (slice_index_or (values_of st e.object) e.index (pos 0))) w.2 (g e.object w.0 w.1 e.index), g))

  same_object : (o o' : ℕ) (told told' : Object) → o' ≡ o → slice_get objects o ≡ Some told → slice_get objects o' ≡ Some told' → told ≡ told'
  same_object o o' told told' e a b = let c : slice_get objects o ≡ Some told' = ap (λ x. slice_get objects x) (sym e) ∙ b in cc

  stored_good : (store : List (List ℤ)) (o : ℕ) (vs : List ℤ) → Good store → ((told : Object) → slice_get objects o ≡ Some told → (i : ℕ) → InRange told.kind model (slice_index_or vs i (pos 0))) → Good (slice_set store o vs)
  stored_good store o vs g h o' told' there i =
      set_at (λ ws. InRange told'.kind model (slice_index_or ws i (pos 0))) store o vs o' [] (λ e. h told' (ap (λ x. slice_get objects x) (sym e) ∙ there) i) (g o' told' there i)

  pub writes : (k : Kind) (e : Element) (v : ℤ) → Within k e → InRange k model v → Alike ℤ (InRange k model) (write e v) (write e v)
  unfolding Ranged
  writes k e v w h st g = (
    refl,
    (
      h,
      stored_good st.store e.object (slice_set (values_of st e.object) e.index v) g
          (λ told there i. set_at (λ x. InRange told.kind model x) (values_of st e.object) e.index v i (pos 0)
          (λ same. subst (λ x. InRange x model v) (sym w.2 ∙ ap (λ t. t.kind) (same_object e.object e.object w.0 told refl w.1 there)) h) (g e.object told there i)),
    ),
  )

  -- all values of an object
  pub stores : (o : ℕ) (vs : List ℤ) → ((told : Object) → slice_get objects o ≡ Some told → (i : ℕ) → InRange told.kind model (slice_index_or vs i (pos 0))) → Alike (Unit {0}) (λ v. Unit {0}) (store_all o vs) (store_all o vs)
  unfolding Ranged
  stores o vs h st g = (refl, (tt, stored_good st.store o vs g h))

  zero_in : (k : Kind) → InRange k model (pos 0)
  zero_in k = truth_in_range k model false

  located_alike : (b : Bool) (P : Element → Type 0) (e : Element) (at : ℕ) → (b ≡ true → P e) → Alike Element P (choose b (give e) (fail error.Index at)) (choose b (give e) (fail error.Index at))
  located_alike true P e at h = gives Element P e (h refl)
  located_alike false P e at h = stops Element P (λ st. Error error.Index at st.taken)

  -- an index that was tested
  index_below : (count : ℕ) (v : ℤ) → (int_le (pos 0) v && int_lt v (pos count)) ≡ true → unsigned_abs v < count
  index_below count (pos n) h = grind (arith, ints, nat_tests)
  index_below count (negsuc n) h = absurd cc

  pub locates : (k : Kind) (at object : ℕ) (v : ℤ) (told : Object) → slice_get objects object ≡ Some told → told.kind ≡ k → Alike Element (Within k) (located at object (size_of (slice_get objects object)) v) (located at object (size_of (slice_get objects object)) v)
  locates k at object v told there same =
      located_alike (int_le (pos 0) v && int_lt v (pos (size_of (slice_get objects object)))) (Within k) (element object (unsigned_abs v)) at
      (λ h. (told, there, same, subst (λ o. unsigned_abs v < size_of o) there (index_below (size_of (slice_get objects object)) v h)))

  -- a scalar has its element 0
  pub scalar_has : (told : Object) → told.length ≡ 0 → 0 < size_of (Some told)
  scalar_has told h = subst (λ n. 0 < (if nat_eq n 0 then 1 else n)) (sym h) (lit< tt)

  pub array_has : (told : Object) → 0 < told.length → 0 < size_of (Some told)
  array_has told h = go (nat_eq told.length 0)
    where
      go : (b : Bool) → 0 < (if b then 1 else told.length)
      go true = lit< tt
      go false = h

  -- ---- Inputs

  drawn_ranged : (k : Kind) (v : ℤ) (st : State) (b : Bool) → is_in_range k model v ≡ b → Good st.store → Ranged ℤ (InRange k model) (choose b (Value v (with_taken st (suc (st.taken)))) (Stop (BadInput st.taken)))
  unfolding Ranged
  drawn_ranged k v st true e g = (tested_in_range k model v e, g)
  drawn_ranged k v st false e g = tt

  drawn_option : (k : Kind) (o : Option ℤ) (st : State) → Good st.store → Ranged ℤ (InRange k model) (drawn k model o st)
  unfolding Ranged
  drawn_option k None st g = tt
  drawn_option k (Some v) st g = drawn_ranged k v st (is_in_range k model v) refl g

  pub draws : (inputs : List ℤ) (k : Kind) → Alike ℤ (InRange k model) (draw inputs model k) (draw inputs model k)
  draws inputs k st g = (refl, drawn_option k (slice_get inputs st.taken) st g)

  -- each value of a list, and 0 behind it
  abbrev pub Each : Kind → List ℤ → Type 0
  Each k vs = (i : ℕ) → InRange k model (slice_index_or vs i (pos 0))

  pub each_more : (k : Kind) (v : ℤ) (vs : List ℤ) → InRange k model v → Each k vs → Each k (v ∷ vs)
  each_more k v vs h e zero = h
  each_more k v vs h e (suc i) = e i

  pub each_none : (k : Kind) → Each k []
  each_none k i = zero_in k

  pub each_both : (k : Kind) (vs ws : List ℤ) → Each k vs → Each k ws → Each k (vs ++ ws)
  each_both k [] ws a b i = b i
  each_both k (v ∷ vs) ws a b zero = a zero
  each_both k (v ∷ vs) ws a b (suc i) = each_both k vs ws (λ j. a (suc j)) b i

  pub each_zero : (k : Kind) (n : ℕ) → Each k (replicate n (pos 0))
  each_zero k zero i = zero_in k
  each_zero k (suc n) zero = zero_in k
  each_zero k (suc n) (suc i) = each_zero k n i

  pub all_draws : (inputs : List ℤ) (k : Kind) (count : ℕ) → Alike (List ℤ) (Each k) (draw_all inputs model k count) (draw_all inputs model k count)
  all_draws inputs k zero = gives (List ℤ) (Each k) [] (each_none k)
  all_draws inputs k (suc count) =
      binds ℤ (List ℤ) (InRange k model) (Each k) (draw inputs model k) (draw inputs model k) _ _ (draws inputs k)
      (λ v h. binds (List ℤ) (List ℤ) (Each k) (Each k) (draw_all inputs model k count) (draw_all inputs model k count) _ _ (all_draws inputs k count) (λ vs e. gives (List ℤ) (Each k) (v ∷ vs) (each_more k v vs h e)))

  -- the same in a way that suits the objects
  module _ (way : Way) (suits : Suits model objects way) where
    picks_it : (k : Kind) (e : Element) → Within k e → picked way e ≡ element e.object e.index
    picks_it k e w = suits.picks e.object e.index (subst (λ o. e.index < size_of o) (sym w.1) w.3)

    -- and what was written into it is given back
    pub backs_it : (k : Kind) (e : Element) (v : ℤ) → Within k e → way.back e.object (pos e.index) v ≡ v
    backs_it k e v w = suits.backs e.object e.index v (subst (λ o. e.index < size_of o) (sym w.1) w.3)

    pub reads_picked : (k : Kind) (e : Element) → Within k e → Alike ℤ (InRange k model) (read (picked way e)) (read e)
    reads_picked k e w = subst (λ x. Alike ℤ (InRange k model) (read x) (read e)) (sym (picks_it k e w)) (reads k e w)

    pub writes_picked : (k : Kind) (e : Element) (v : ℤ) → Within k e → InRange k model v → Alike ℤ (InRange k model) (write (picked way e) v) (write e v)
    writes_picked k e v w h = subst (λ x. Alike ℤ (InRange k model) (write x v) (write e v)) (sym (picks_it k e w)) (writes k e v w h)

    pub writes_kept : (k : Kind) (e : Element) (v : ℤ) → Within k e → InRange k model v → Alike ℤ (InRange k model) (write_kept way e.object (pos e.index) v) (write e v)
    writes_kept k e v w h =
        subst (λ x. Alike ℤ (InRange k model) (λ st. after (write (picked way e) x st) (λ z. give v)) (write e v)) (sym (suits.keeps e.object w.0 v w.1 (subst (λ z. InRange z model v) (sym w.2) h)))
        (writes_picked k e v w h)

    pub all_kept : (o : ℕ) (told : Object) (vs : List ℤ) → slice_get objects o ≡ Some told → Each told.kind vs → map (way.keep o) vs ≡ vs
    all_kept o told [] there h = refl
    all_kept o told (v ∷ vs) there h = ap (λ x. x ∷ map (way.keep o) vs) (suits.keeps o told v there (h zero)) ∙ ap (λ xs. v ∷ xs) (all_kept o told vs there (λ i. h (suc i)))

  -- ---- Operations

  computed_ranged : (P : ℤ → Type 0) (at : ℕ) (r : Result ℤ ErrorKind) (st : State) → Good st.store → IfOk r P → Ranged ℤ P (computed at r st)
  unfolding Ranged
  computed_ranged P at (Ok v) st g h = (h, g)
  computed_ranged P at (Err e) st g h = tt

  negated_in : (n : Bool) (v : ℤ) → InRange kind.Int model v → InRange kind.Int model (negated n v)
  negated_in true v h = truth_in_range kind.Int model (is_zero v)
  negated_in false v h = h

  -- an operator on its operands
  abbrev pub applied_by : Compute → ℕ → BinaryOp → Kind → ℤ → ℤ → Run ℤ
  applied_by c at o k x y st = after (computed at (if is_turned o then c (op_of o) k y x else c (op_of o) k x y) st) (λ v. give (negated (is_negated o) v))

  -- the right operand of a shift is of some kind, and that of another operator of the same
  pub record RightIs (o : BinaryOp) (k : Kind) (y : ℤ) : Type 0 where
    pub shifting : facts.is_shift o ≡ true → InAny y
    pub other : facts.is_shift o ≡ false → InRange k model y

  promoted_is : (k : Kind) → is_promoted (promoted k) ≡ true
  promoted_is k = go (is_promoted k) refl
    where
      go : (b : Bool) → is_promoted k ≡ b → is_promoted (if b then k else kind.Int) ≡ true
      go true e = e
      go false e = refl

  abbrev pub stepped_by : Compute → ℕ → Crement → Kind → Element → ℤ → Run ℤ
  stepped_by c at b k e v st = after (computed at (c (crement_op b) (promoted k) (converted (promoted k) model v) (pos 1)) st) (λ new. write e (converted k model new))

  -- the same by each two that agree with C's
  module _ (compute compute' : Compute) (agrees : Agrees model compute) (agrees' : Agrees model compute') where
    -- in range of its kind, or of another where the result is
    computes_in : (P : ℤ → Type 0) (o : Op) (k : Kind) (at : ℕ) (x y : ℤ) → is_promoted k ≡ true → InRange k model x → IsRight o k model y → IfOk (arith_of o k model x y) P → Alike ℤ P (computed at (compute o k x y)) (computed at (compute' o k x y))
    computes_in P o k at x y p h r f st g =
        let e : compute' o k x y ≡ arith_of o k model x y = agrees'.same o k x y p h r in
        (ap (λ z. computed at z st) (agrees.same o k x y p h r ∙ sym e), computed_ranged P at (compute' o k x y) st g (subst (λ z. IfOk z P) (sym e) f))

    pub computes : (o : Op) (k : Kind) (at : ℕ) (x y : ℤ) → is_promoted k ≡ true → InRange k model x → IsRight o k model y → Alike ℤ (InRange k model) (computed at (compute o k x y)) (computed at (compute' o k x y))
    computes o k at x y p h r = computes_in (InRange k model) o k at x y p h r (arith_fine k model o x y h)

    compares : (o : Op) (n : Bool) (k : Kind) (at : ℕ) (x y : ℤ) (b : Bool) → is_promoted k ≡ true → InRange k model x → IsRight o k model y → arith_of o k model x y ≡ Ok (truth b) →
        Alike ℤ (InRange kind.Int model) (λ st. after (computed at (compute o k x y) st) (λ v. give (negated n v))) (λ st. after (computed at (compute' o k x y) st) (λ v. give (negated n v)))
    compares o n k at x y b p h r e =
        binds ℤ ℤ (InRange kind.Int model) (InRange kind.Int model) (computed at (compute o k x y)) (computed at (compute' o k x y)) _ _
        (computes_in (InRange kind.Int model) o k at x y p h r (subst (λ z. IfOk z (InRange kind.Int model)) (sym e) (truth_in_range kind.Int model b))) (λ v hv. gives ℤ (InRange kind.Int model) (negated n v) (negated_in n v hv))

    operates : (o : Op) (k : Kind) (at : ℕ) (x y : ℤ) → is_promoted k ≡ true → InRange k model x → IsRight o k model y →
        Alike ℤ (InRange k model) (λ st. after (computed at (compute o k x y) st) (λ v. give v)) (λ st. after (computed at (compute' o k x y) st) (λ v. give v))
    operates o k at x y p h r = binds ℤ ℤ (InRange k model) (InRange k model) (computed at (compute o k x y)) (computed at (compute' o k x y)) _ _ (computes o k at x y p h r) (λ v hv. gives ℤ (InRange k model) v hv)

    pub applies : (o : BinaryOp) (k : Kind) (at : ℕ) (x y : ℤ) → is_promoted k ≡ true → is_logical o ≡ false → InRange k model x → RightIs o k y → Alike ℤ (InRange (when (is_comparison o) kind.Int k) model) (applied_by compute at o k x y) (applied_by compute' at o k x y)
    applies op.OrElse k at x y p l h r = absurd cc
    applies op.AndAlso k at x y p l h r = absurd cc
    applies op.BitOr k at x y p l h r = operates arith'.Or k at x y p h (r.other refl)
    applies op.BitXor k at x y p l h r = operates arith'.Xor k at x y p h (r.other refl)
    applies op.BitAnd k at x y p l h r = operates arith'.And k at x y p h (r.other refl)
    applies op.Equal k at x y p l h r = compares arith'.Equal false k at x y (int_le x y && int_le y x) p h (r.other refl) refl
    applies op.NotEqual k at x y p l h r = compares arith'.Equal true k at x y (int_le x y && int_le y x) p h (r.other refl) refl
    applies op.Less k at x y p l h r = compares arith'.Less false k at x y (int_lt x y) p h (r.other refl) refl
    applies op.Greater k at x y p l h r = compares arith'.Less false k at y x (int_lt y x) p (r.other refl) h refl
    applies op.LessEqual k at x y p l h r = compares arith'.LessEqual false k at x y (int_le x y) p h (r.other refl) refl
    applies op.GreaterEqual k at x y p l h r = compares arith'.LessEqual false k at y x (int_le y x) p (r.other refl) h refl
    applies op.ShiftLeft k at x y p l h r = operates arith'.Shl k at x y p h (r.shifting refl)
    applies op.ShiftRight k at x y p l h r = operates arith'.Shr k at x y p h (r.shifting refl)
    applies op.Add k at x y p l h r = operates arith'.Add k at x y p h (r.other refl)
    applies op.Subtract k at x y p l h r = operates arith'.Sub k at x y p h (r.other refl)
    applies op.Multiply k at x y p l h r = operates arith'.Mul k at x y p h (r.other refl)
    applies op.Divide k at x y p l h r = operates arith'.Div k at x y p h (r.other refl)
    applies op.Remainder k at x y p l h r = operates arith'.Rem k at x y p h (r.other refl)

    pub steps : (way : Way) → Suits model objects way → (b : Crement) (k : Kind) (at : ℕ) (e : Element) (v : ℤ) → Within k e → Alike ℤ (InRange k model) (stepped_by compute at b k (picked way e) v) (stepped_by compute' at b k e v)
    steps way suits b k at e v w =
        binds ℤ ℤ (InRange (promoted k) model) (InRange k model) (computed at (compute (crement_op b) (promoted k) (converted (promoted k) model v) (pos 1))) (computed at (compute' (crement_op b) (promoted k) (converted (promoted k) model v) (pos 1))) _ _
        (computes (crement_op b) (promoted k) at (converted (promoted k) model v) (pos 1) (promoted_is k) (converted_in_range (promoted k) model v) (one_right b))
        (λ new h. writes_picked way suits k e (converted k model new) w (converted_in_range k model new))
      where
        one_right : (b : Crement) → IsRight (crement_op b) (promoted k) model (pos 1)
        one_right by.Increment = truth_in_range (promoted k) model true
        one_right by.Decrement = truth_in_range (promoted k) model true

  -- ---- Statements

  -- how a statement of a function with this result is left
  abbrev pub Left : Option Kind → Exit → Type 0
  Left result (Returned None) = Unit {0}
  Left result (Returned (Some v)) = Of result v
  Left result _ = Unit {0}

  -- what a call of it gives
  abbrev pub Gave : Option Kind → Option ℤ → Type 0
  Gave result None = Unit {0}
  Gave result (Some v) = Of result v

  -- a statement is entered at the case of a value of the switch's kind
  abbrev pub Entered : From → Type 0
  Entered (Seek (toCase k v)) = InRange k model v
  Entered _ = Unit {0}

  module _ (result : Option Kind) where
    then_alike : (x : Exit) (m m' : Run Exit) → Left result x → Alike Exit (Left result) m m' → Alike Exit (Left result) (then_do x m) (then_do x m')
    then_alike Normal m m' l h = h
    then_alike Broke m m' l h = gives Exit (Left result) Broke tt
    then_alike Continued m m' l h = gives Exit (Left result) Continued tt
    then_alike (Returned r) m m' l h = gives Exit (Left result) (Returned r) l
    then_alike (Jumped n) m m' l h = gives Exit (Left result) (Jumped n) tt
    then_alike Absent m m' l h = gives Exit (Left result) Absent tt

    pub else_alike : (x : Exit) (m m' : Run Exit) → Left result x → Alike Exit (Left result) m m' → Alike Exit (Left result) (or_else x m) (or_else x m')
    else_alike Normal m m' l h = gives Exit (Left result) Normal tt
    else_alike Broke m m' l h = gives Exit (Left result) Broke tt
    else_alike Continued m m' l h = gives Exit (Left result) Continued tt
    else_alike (Returned r) m m' l h = gives Exit (Left result) (Returned r) l
    else_alike (Jumped n) m m' l h = gives Exit (Left result) (Jumped n) tt
    else_alike Absent m m' l h = h

    found_alike : (x : Exit) (m m' n n' : Run Exit) → Left result x → Alike Exit (Left result) m m' → Alike Exit (Left result) n n' → Alike Exit (Left result) (found x m n) (found x m' n')
    found_alike Normal m m' n n' l h k = h
    found_alike Broke m m' n n' l h k = gives Exit (Left result) Broke tt
    found_alike Continued m m' n n' l h k = gives Exit (Left result) Continued tt
    found_alike (Returned r) m m' n n' l h k = gives Exit (Left result) (Returned r) l
    found_alike (Jumped x) m m' n n' l h k = gives Exit (Left result) (Jumped x) tt
    found_alike Absent m m' n n' l h k = k

    next_alike : (x : Exit) (m m' : Run Exit) → Left result x → Alike Exit (Left result) m m' → Alike Exit (Left result) (next_turn x m) (next_turn x m')
    next_alike Normal m m' l h = h
    next_alike Continued m m' l h = h
    next_alike Broke m m' l h = gives Exit (Left result) Normal tt
    next_alike (Returned r) m m' l h = gives Exit (Left result) (Returned r) l
    next_alike (Jumped n) m m' l h = gives Exit (Left result) (Jumped n) tt
    next_alike Absent m m' l h = gives Exit (Left result) Absent tt

    pub rows : (m m' : Run Exit) (n n' : Run Exit) → Alike Exit (Left result) m m' → Alike Exit (Left result) n n' → Alike Exit (Left result) (λ st. after (m st) (λ x. then_do x n)) (λ st. after (m' st) (λ x. then_do x n'))
    rows m m' n n' h k = binds Exit Exit (Left result) (Left result) m m' _ _ h (λ x l. then_alike x n n' l k)

    pub elses : (m m' : Run Exit) (n n' : Run Exit) → Alike Exit (Left result) m m' → Alike Exit (Left result) n n' → Alike Exit (Left result) (λ st. after (m st) (λ x. or_else x n)) (λ st. after (m' st) (λ x. or_else x n'))
    elses m m' n n' h k = binds Exit Exit (Left result) (Left result) m m' _ _ h (λ x l. else_alike x n n' l k)

    pub founds : (m m' n n' o o' : Run Exit) → Alike Exit (Left result) m m' → Alike Exit (Left result) n n' → Alike Exit (Left result) o o' → Alike Exit (Left result) (λ st. after (m st) (λ x. found x n o)) (λ st. after (m' st) (λ x. found x n' o'))
    founds m m' n n' o o' h k j = binds Exit Exit (Left result) (Left result) m m' _ _ h (λ x l. found_alike x n n' o o' l k j)

    pub nexts : (m m' n n' : Run Exit) → Alike Exit (Left result) m m' → Alike Exit (Left result) n n' → Alike Exit (Left result) (λ st. after (m st) (λ x. next_turn x n)) (λ st. after (m' st) (λ x. next_turn x n'))
    nexts m m' n n' h k = binds Exit Exit (Left result) (Left result) m m' _ _ h (λ x l. next_alike x n n' l k)

    abbrev Any : {A : Type 0} → A → Type 0
    Any v = Unit {0}

    pub loops : (n at : ℕ) (test test' : Run ℤ) (body body' : Run Exit) (step step' : Run (Unit {0})) (P : ℤ → Type 0) → Alike ℤ P test test' → Alike Exit (Left result) body body' → Alike (Unit {0}) (λ v. Unit {0}) step step' →
        Alike Exit (Left result) (loop at n test body step) (loop at n test' body' step')
    loops zero at test test' body body' step step' P a b s = stops Exit (Left result) (λ st. Rattle.c_run.specs.Run.Spent at st.store st.taken)
    loops (suc n) at test test' body body' step step' P a b s =
        binds (Unit {0}) Exit (λ v. Unit {0}) (Left result) (turn at) (turn at) _ _ (turns at)
        (λ u hu. binds ℤ Exit P (Left result) test test' _ _ a
        (λ v hv. chosen Exit (Left result) _ _ _ _ _
        (nexts body body' (λ st. after (step st) (λ x. loop at n test body step)) (λ st. after (step' st) (λ x. loop at n test' body' step')) b
        (binds (Unit {0}) Exit (λ x. Unit {0}) (Left result) step step' _ _ s (λ x hx. loops n at test test' body body' step step' P a b s))) (gives Exit (Left result) Normal tt)))

    left_cases : (x : Exit) → Left result x → Left result (leave_cases x)
    left_cases Normal l = tt
    left_cases Broke l = tt
    left_cases Continued l = tt
    left_cases (Returned r) l = l
    left_cases (Jumped n) l = tt
    left_cases Absent l = tt

    pub switches : (f f' : From → Run Exit) (k : Kind) (v : ℤ) → InRange k model v → ((from : From) → Entered from → Alike Exit (Left result) (f from) (f' from)) → Alike Exit (Left result) (switch_on f k v) (switch_on f' k v)
    switches f f' k v r h =
        binds Exit Exit (Left result) (Left result) (f (Seek (toCase k v))) (f' (Seek (toCase k v))) _ _ (h (Seek (toCase k v)) r)
        (λ x l. binds Exit Exit (Left result) (Left result) (or_else x (f (Seek toDefault))) (or_else x (f' (Seek toDefault))) _ _ (else_alike x (f (Seek toDefault)) (f' (Seek toDefault)) l (h (Seek toDefault) tt))
        (λ y ly. gives Exit (Left result) (leave_cases y) (left_cases y ly)))

    left_alike : (x : Exit) (go go' : List ℕ → Run (Option ℤ)) → Left result x → ((l : List ℕ) → Alike (Option ℤ) (Gave result) (go l) (go' l)) → Alike (Option ℤ) (Gave result) (left_by x go) (left_by x go')
    left_alike Normal go go' l h = gives (Option ℤ) (Gave result) None tt
    left_alike Broke go go' l h = gives (Option ℤ) (Gave result) None tt
    left_alike Continued go go' l h = gives (Option ℤ) (Gave result) None tt
    left_alike (Returned None) go go' l h = gives (Option ℤ) (Gave result) None tt
    left_alike (Returned (Some v)) go go' l h = gives (Option ℤ) (Gave result) (Some v) l
    left_alike (Jumped n) go go' l h = h n
    left_alike Absent go go' l h = gives (Option ℤ) (Gave result) None tt

    pub enters : (n : ℕ) (f f' : From → Run Exit) (from : From) → Entered from → ((x : From) → Entered x → Alike Exit (Left result) (f x) (f' x)) → Alike (Option ℤ) (Gave result) (enter n f from) (enter n f' from)
    enters zero f f' from e h = stops (Option ℤ) (Gave result) (λ st. Rattle.c_run.specs.Run.Spent 0 st.store st.taken)
    enters (suc n) f f' from e h = binds Exit (Option ℤ) (Left result) (Gave result) (f from) (f' from) _ _ (h from e) (λ x l. left_alike x _ _ l (λ name. enters n f f' (Seek (toLabel name)) tt h))
