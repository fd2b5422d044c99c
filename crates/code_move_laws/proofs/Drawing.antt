-- Inputs that are drawn into slots and into objects.
use Rattle.std.proofs.Common.{◌≡◌, ℕ, zero, suc, ◌+◌, ◌<◌, ◌≤◌, ◌^◌, refl, sym, ap, ◌∙◌, subst, arith, min, nat_lt, Bool, true, false, if◌then◌else◌, List, [], ◌∷◌, ◌++◌, length, take, drop, Option, None, Some, slice_get, slice_set, slice_index, slice_index_or, ℤ, pos}
use Rattle.std.proofs.lemmas.List.{append-nil, append_assoc, get_or-set_same, drop_all, set_past, nil_from_length}
use Rattle.std.proofs.lemmas.Option.{same_Some, none-some}
use Rattle.lv_base.specs.declared.kind.Kind.{Kind}
use Rattle.lv_base.specs.declared.kind.Model.{Model}
use Rattle.lv_base.specs.Integers.{InRange, residue, width_of, is_signed, is_in_range}
use Rattle.c_typed.specs.declared.tree.Object.{Object}
use Rattle.c_typed.specs.Run.{size_of, kind_of}
use Rattle.c_run.specs.Run.{State, Got, Value, Stop, NoInput, BadInput, after, give, choose, drawn, draw_all, with_taken, store_all}
use Rattle.slot_code.specs.declared.flat.Instruction.TheVariants as i
use Rattle.slot_code.specs.Slots.{put}
use Rattle.slot_code.specs.Machine.{Machine, machine}
use Rattle.slot_code.specs.Machine as flat
use Rattle.typed_range_laws.proofs.Bounds.{in_any}
use Rattle.typed_range_laws.proofs.Ranging.{tested_in_range}
use Rattle.word_laws.proofs.Residues.{residue_below}
use Rattle.c_terms.specs.Numbers.{widened}
use Rattle.c_graph.specs.Shape.{widths_of}
use Rattle.c_graph.specs.Steps.{moment, in_range_of, modulo}
use Rattle.code_layout.specs.Layout.{elements_of, drawn_cell}
use Rattle.code_moves.specs.Setting.{Setting, room_at, room_of}
use Rattle.code_moves.specs.Deeds.{Draws}
use Rattle.code_moves.specs.Moves.{fills, draws_to, draws_in, draws_first}
use Rattle.layout_laws.specs.Differ.{OfElement, OfSlot, OfDraws}
use Rattle.layout_laws.specs.Serve.{Serves}
use Rattle.code_move_laws.specs.Ways.{objects_of}
use Rattle.code_move_laws.specs.Mirrors.{IsLaid, Mirrors}
use Rattle.code_move_laws.specs.Doing.{did, did_all, Reaches}
use Rattle.code_move_laws.specs.Steps.{Agrees, acted}
use Rattle.code_move_laws.proofs.Numbers.{in_draw, modulo_is}
use Rattle.code_move_laws.proofs.Stores.{W, free-set, element-wide, not-part}
use Rattle.code_move_laws.proofs.Reaching.{Comes, behind-at, fill, nothing}
use Rattle.code_move_laws.proofs.Elements.{none-past, no-room, begins, held-slot, room-is, told-size, told-none, told-kind}
use Rattle.code_move_laws.proofs.Rows.{drop-next, stored-rows}

-- ---- One input

take-drawn : (inputs : List ℤ) (t : ℕ) (v : ℤ) → slice_get inputs t ≡ Some v → take (suc t) inputs ≡ take t inputs ++ v ∷ []
take-drawn [] t v e = absurd (none-some v e)
take-drawn (x ∷ xs) zero v e = ap (λ (z : ℤ). z ∷ []) (same_Some x v e)
take-drawn (x ∷ xs) (suc t) v e = ap (λ (r : List ℤ). x ∷ r) (take-drawn xs t v e)

-- a cell of a kind's width gets the low bits of a value of the kind
pub draws-cell : (W store : List ℕ) (cell : ℕ) (k : Kind) (model : Model) (v : ℤ) (rest : List ℤ) → slice_index W cell ≡ width_of k model → InRange k model v
    → did W (Draws cell (is_signed k)) (moment store (v ∷ rest)) ≡ Some (moment (slice_set store cell (residue (width_of k model) v)) rest)
draws-cell W store cell k model v rest e range =
    ap (λ (w : ℕ). if in_range_of w (is_signed k) v then Some (moment (slice_set store cell (modulo w v)) rest) else None) e
    ∙ ap (λ (b : Bool). if b then Some (moment (slice_set store cell (modulo (width_of k model) v)) rest) else None) (in_draw k model v range)
    ∙ ap (λ (x : ℕ). Some (moment (slice_set store cell x) rest)) (modulo_is (width_of k model) v)

-- ---- All inputs of an object

-- each is of the kind
abbrev AllIn : Kind → Model → List ℤ → Type 0
AllIn k model [] = Unit {0}
AllIn k model (v ∷ vs) = InRange k model v × AllIn k model vs

all-at : (k : Kind) (model : Model) (vs : List ℤ) (n : ℕ) → AllIn k model vs → n < length vs → InRange k model (slice_index_or vs n (pos 0))
all-at k model [] n h lt = absurd (omega (arith, lt))
all-at k model (v ∷ vs) zero h lt = h.0
all-at k model (v ∷ vs) (suc n) h lt = all-at k model vs n h.1 (omega (arith, lt))

-- so many values are drawn, or the run ends for want of one
data Drew (k : Kind) (model : Model) (inputs : List ℤ) (count : ℕ) (st : State) (got : Got (List ℤ)) : Type 0 where
  drew : (vs : List ℤ) (st' : State) → got ≡ Value vs st' → length vs ≡ count → st'.store ≡ st.store → take st'.taken inputs ≡ take st.taken inputs ++ vs → AllIn k model vs → Drew k model inputs count st got
  none : got ≡ Stop NoInput → Drew k model inputs count st got
  bad : (number : ℕ) → got ≡ Stop (BadInput number) → Drew k model inputs count st got

drew-more : (k : Kind) (model : Model) (inputs : List ℤ) (count : ℕ) (st st1 : State) (v : ℤ) (got : Got (List ℤ)) → InRange k model v → st1.store ≡ st.store → take st1.taken inputs ≡ take st.taken inputs ++ v ∷ []
    → Drew k model inputs count st1 got → Drew k model inputs (suc count) st (after got (λ vs. give (v ∷ vs)))
drew-more k model inputs count st st1 v got range same takes (drew vs st' e l s t all) =
    drew (v ∷ vs) st' (ap (λ (x : Got (List ℤ)). after x (λ ws. give (v ∷ ws))) e) (ap suc l) (s ∙ same)
    (t ∙ ap (λ (xs : List ℤ). xs ++ vs) takes ∙ append_assoc (take st.taken inputs) (v ∷ []) vs) (range, all)
drew-more k model inputs count st st1 v got range same takes (none e) = none (ap (λ (x : Got (List ℤ)). after x (λ ws. give (v ∷ ws))) e)
drew-more k model inputs count st st1 v got range same takes (bad number e) = bad number (ap (λ (x : Got (List ℤ)). after x (λ ws. give (v ∷ ws))) e)

abbrev rest_of : List ℤ → Model → Kind → ℕ → Got ℤ → Got (List ℤ)
rest_of inputs model k count got = after got (λ v st1. after (draw_all inputs model k count st1) (λ vs. give (v ∷ vs)))

drew-tested : (k : Kind) (model : Model) (inputs : List ℤ) (count : ℕ) (st : State) (v : ℤ) (b : Bool) → is_in_range k model v ≡ b → slice_get inputs st.taken ≡ Some v
    → Drew k model inputs count (with_taken st (suc st.taken)) (draw_all inputs model k count (with_taken st (suc st.taken)))
    → Drew k model inputs (suc count) st (rest_of inputs model k count (choose b (Value v (with_taken st (suc st.taken))) (Stop (BadInput st.taken))))
drew-tested k model inputs count st v true test e next =
    drew-more k model inputs count st (with_taken st (suc st.taken)) v (draw_all inputs model k count (with_taken st (suc st.taken))) (tested_in_range k model v test) refl (take-drawn inputs st.taken v e) next
drew-tested k model inputs count st v false test e next = bad st.taken refl

drew-one : (k : Kind) (model : Model) (inputs : List ℤ) (count : ℕ) (st : State) (o : Option ℤ) → slice_get inputs st.taken ≡ o
    → Drew k model inputs count (with_taken st (suc st.taken)) (draw_all inputs model k count (with_taken st (suc st.taken)))
    → Drew k model inputs (suc count) st (rest_of inputs model k count (drawn k model o st))
drew-one k model inputs count st None e next = none refl
drew-one k model inputs count st (Some v) e next = drew-tested k model inputs count st v (is_in_range k model v) refl e next

all-drawn : (k : Kind) (model : Model) (inputs : List ℤ) (count : ℕ) (st : State) → Drew k model inputs count st (draw_all inputs model k count st)
all-drawn k model inputs zero st = drew [] st refl refl refl (sym (append-nil (take st.taken inputs))) tt
all-drawn k model inputs (suc count) st = drew-one k model inputs count st (slice_get inputs st.taken) refl (all-drawn k model inputs count (with_taken st (suc st.taken)))

module _ (g : Setting) (inputs : List ℤ) (m : Machine) (store : List ℕ) (laid : IsLaid g) (h : Mirrors g m.slots (m.st).store store) where
  -- ---- An input gets into a slot

  draw-comes : (s cell : ℕ) (k : Kind) (v : ℤ) → drawn_cell g.lay (width_of k g.model) ≡ Some cell → InRange k g.model v → Comes g (draws_to g s k (Some cell)) store (v ∷ []) [] (put m.slots s v) (m.st).store
  draw-comes s cell k v there range =
      let wide = laid.lies.draws (width_of k g.model) cell there in
      let x : ℕ = residue (width_of k g.model) v in
      let one : List ℕ = slice_set store cell (residue (width_of k g.model) v) in
      let fits : residue (width_of k g.model) v < 2 ^ slice_index (W g laid) cell = subst (λ (w : ℕ). residue (width_of k g.model) v < 2 ^ w) (sym wide.1) (residue_below (width_of k g.model) v) in
      let mir : Mirrors g m.slots (m.st).store one =
      free-set g laid m.slots (m.st).store store h (OfDraws (width_of k g.model)) cell (residue (width_of k g.model) v) there (λ t. not-part (OfDraws (width_of k g.model)) (OfSlot t) 2 1 refl refl (λ q. omega (arith, q)))
      (λ o j. not-part (OfDraws (width_of k g.model)) (OfElement o j) 2 0 refl refl (λ q. omega (arith, q))) fits in
      let says : slice_index one cell ≡ residue (width_of k g.model) v = get_or-set_same store cell (residue (width_of k g.model) v) 0 (omega (arith, wide.0, h.whole.length)) in
      behind-at g (Draws cell (is_signed k) ∷ []) (fills g s (λ c. widened k g.model (slice_index c cell))) store one (v ∷ []) [] [] (put m.slots s v) (m.st).store
      (draws-one one wide.1)
      (fill g m.slots (m.st).store one [] s v (λ c. widened k g.model (slice_index c cell)) laid mir (in_any k g.model v range) (held-slot k g.model (slice_index one cell) v (says, range)))
    where
      draws-one : (one : List ℕ) → slice_index (W g laid) cell ≡ width_of k g.model → Reaches (widths_of g.lay.cells) (Draws cell (is_signed k) ∷ []) store (v ∷ []) (slice_set store cell (residue (width_of k g.model) v)) []
      draws-one one e = ap (did_all (widths_of g.lay.cells) []) (draws-cell (widths_of g.lay.cells) store cell k g.model v [] e range)

  drawn-step : (s : ℕ) (k : Kind) (o : Option ℤ) → slice_get inputs (m.st).taken ≡ o → Serves g.model g.objects g.lay (i.Draw s k) → Agrees g inputs (i.Draw s k) m store (flat.fills m.place m.slots s (drawn k g.model o m.st))
  drawn-step s k None e serves = tt
  drawn-step s k (Some v) e serves = by_test (is_in_range k g.model v) refl
    where
      by_test : (b : Bool) → is_in_range k g.model v ≡ b
          → Agrees g inputs (i.Draw s k) m store (flat.fills m.place m.slots s (choose b (Value v (with_taken m.st (suc (m.st).taken))) (Stop (BadInput (m.st).taken))))
      by_test false test = tt
      by_test true test =
          let c : Comes g (draws_to g s k (drawn_cell g.lay (width_of k g.model))) store (v ∷ []) [] (put m.slots s v) (m.st).store =
          subst (λ (o : Option ℕ). Comes g (draws_to g s k o) store (v ∷ []) [] (put m.slots s v) (m.st).store) (sym (serves.draw).1) (draw-comes s (serves.draw).0 k v (serves.draw).1 (tested_in_range k g.model v test)) in
          (v ∷ [], c.after, refl, refl, take-drawn inputs (m.st).taken v e, c.reaches, c.mirrors)

  pub draw-step : (s : ℕ) (k : Kind) → Serves g.model g.objects g.lay (i.Draw s k) → Agrees g inputs (i.Draw s k) m store (acted g inputs (i.Draw s k) m)
  draw-step s k serves = drawn-step s k (slice_get inputs (m.st).taken) refl serves

  -- ---- Inputs get into all elements of an object

  fill-rows : (object first : ℕ) (o : Object) (vs : List ℤ) → slice_get g.objects object ≡ Some o → slice_get g.lay.firsts object ≡ Some first → length vs ≡ elements_of o → AllIn o.kind g.model vs
      → Comes g (draws_first (record { first = first; length = elements_of o; kind = o.kind; is_array = nat_lt 0 o.length }) o.kind (elements_of o)) store vs [] m.slots (slice_set (m.st).store object vs)
  fill-rows object first o vs there base len all =
      let range : (n : ℕ) → n < elements_of o → InRange o.kind g.model (slice_index_or vs n (pos 0)) = λ n lt. all-at o.kind g.model vs n all (omega (arith, len, lt)) in
      let ends : drop (elements_of o) vs ≡ [] = drop_all (elements_of o) vs (omega (arith, len)) in
      subst (λ (rest : List ℤ). Comes g (draws_first (record { first = first; length = elements_of o; kind = o.kind; is_array = nat_lt 0 o.length }) o.kind (elements_of o)) store vs rest m.slots (slice_set (m.st).store object vs)) ends
      (stored-rows g laid m.slots (m.st).store store h object first o there base vs len range
      (λ n. draws_first (record { first = first; length = elements_of o; kind = o.kind; is_array = nat_lt 0 o.length }) o.kind n) (λ n. Draws (first + n) (is_signed o.kind)) (λ n. drop n vs) refl (λ n. refl)
      (λ n lt vals c mir. ap (λ (ins : List ℤ). did (widths_of g.lay.cells) (Draws (first + n) (is_signed o.kind)) (moment c ins)) (drop-next vs n (omega (arith, len, lt)))
      ∙ draws-cell (widths_of g.lay.cells) c (first + n) o.kind g.model (slice_index_or vs n (pos 0)) (drop (suc n) vs) (element-wide g laid object first n o there base lt) (range n lt)))

  fill-comes : (object count : ℕ) (k : Kind) (vs : List ℤ) → count ≡ size_of (slice_get (objects_of g) object) → k ≡ kind_of (slice_get (objects_of g) object) → length vs ≡ count → AllIn k g.model vs
      → Comes g (draws_in (room_of g object) k count) store vs [] m.slots (slice_set (m.st).store object vs)
  fill-comes object count k vs size kind len all = by_object (slice_get g.objects object) refl
    where
      by_object : (p : Option Object) → slice_get g.objects object ≡ p → Comes g (draws_in (room_of g object) k count) store vs [] m.slots (slice_set (m.st).store object vs)
      by_object None e =
          let empty : vs ≡ [] = nil_from_length vs (omega (arith, len, size, told-none g object e)) in
          let past : length (m.st).store ≤ object = omega (arith, none-past g.objects object e, h.objects) in
          let stays : slice_set (m.st).store object vs ≡ (m.st).store = set_past (m.st).store object vs past in
          subst (λ r. Comes g (draws_in r k count) store vs [] m.slots (slice_set (m.st).store object vs)) (sym (no-room g object e))
          (subst (λ (ins : List ℤ). Comes g [] store ins [] m.slots (slice_set (m.st).store object vs)) (sym empty)
          (nothing g store [] m.slots (slice_set (m.st).store object vs) (subst (λ (v : List (List ℤ)). Mirrors g m.slots v store) (sym stays) h)))
      by_object (Some o) e =
          let b = begins g object o laid e in
          let is : k ≡ o.kind = kind ∙ told-kind g object o e in
          let most : elements_of o ≡ min count (elements_of o) = let q : count ≡ elements_of o = size ∙ told-size g object o e in omega (arith, q) in
          subst (λ r. Comes g (draws_in r k count) store vs [] m.slots (slice_set (m.st).store object vs)) (sym (room-is g object b.0 o e b.1))
          (subst (λ (j : Kind). Comes g (draws_in (room_at (Some o) (Some b.0)) j count) store vs [] m.slots (slice_set (m.st).store object vs)) (sym is)
          (subst (λ (n : ℕ). Comes g (draws_first (record { first = b.0; length = elements_of o; kind = o.kind; is_array = nat_lt 0 o.length }) o.kind n) store vs [] m.slots (slice_set (m.st).store object vs)) most
          (fill-rows object b.0 o vs e b.1 (len ∙ size ∙ told-size g object o e) (subst (λ (j : Kind). AllIn j g.model vs) is all))))

  fill-drawn : (object count : ℕ) (k : Kind) (got : Got (List ℤ)) → count ≡ size_of (slice_get (objects_of g) object) → k ≡ kind_of (slice_get (objects_of g) object) → Drew k g.model inputs count m.st got
      → Agrees g inputs (i.Fill object k count) m store (flat.goes (suc m.place) m.slots (after got (λ vs. store_all object vs)))
  fill-drawn object count k got size kind (none e) = subst (λ (x : Got (List ℤ)). Agrees g inputs (i.Fill object k count) m store (flat.goes (suc m.place) m.slots (after x (λ vs. store_all object vs)))) (sym e) tt
  fill-drawn object count k got size kind (bad number e) = subst (λ (x : Got (List ℤ)). Agrees g inputs (i.Fill object k count) m store (flat.goes (suc m.place) m.slots (after x (λ vs. store_all object vs)))) (sym e) tt
  fill-drawn object count k got size kind (drew vs st' e len same takes all) =
      let c : Comes g (draws_in (room_of g object) k count) store vs [] m.slots (slice_set (m.st).store object vs) = fill-comes object count k vs size kind len all in
      let mir : Mirrors g m.slots (slice_set st'.store object vs) c.after = subst (λ (x : List (List ℤ)). Mirrors g m.slots (slice_set x object vs) c.after) (sym same) c.mirrors in
      subst (λ (x : Got (List ℤ)). Agrees g inputs (i.Fill object k count) m store (flat.goes (suc m.place) m.slots (after x (λ ws. store_all object ws)))) (sym e)
      (vs, c.after, refl, refl, takes, c.reaches, mir)

  pub fill-step : (object count : ℕ) (k : Kind) → count ≡ size_of (slice_get (objects_of g) object) → k ≡ kind_of (slice_get (objects_of g) object) → Agrees g inputs (i.Fill object k count) m store (acted g inputs (i.Fill object k count) m)
  fill-step object count k size kind = fill-drawn object count k (draw_all inputs g.model k count m.st) size kind (all-drawn k g.model inputs count m.st)
