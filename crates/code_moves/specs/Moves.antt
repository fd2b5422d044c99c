-- What instructions whose checks passed do to cells.
use Rattle.std.specs.Prelude.{ℕ, zero, suc, ◌+◌, min, Bool, true, false, if◌then◌else◌, nat_lt, List, [], ◌∷◌, ◌++◌, Option, None, Some, slice_index}
use Rattle.lv_base.specs.declared.kind.Kind.{Kind}
use Rattle.lv_base.specs.declared.kind.Kind.TheVariants.{Bool as ABool}
use Rattle.lv_base.specs.declared.kind.Model.{Model}
use Rattle.lv_base.specs.Integers.{residue, is_signed, width_of}
use Rattle.c_tree.specs.declared.symbol.BinaryOp.{BinaryOp}
use Rattle.c_tree.specs.declared.symbol.Crement.{Crement}
use Rattle.slot_code.specs.declared.flat.Instruction.{Instruction}
use Rattle.slot_code.specs.declared.flat.Instruction.TheVariants as i
use Rattle.c_terms.specs.Numbers.{narrowed, widened, zero_test, converted}
use Rattle.c_terms.specs.Operations.{negation, complement}
use Rattle.code_layout.specs.Layout.{slot_cell, drawn_cell}
use Rattle.code_moves.specs.declared.ground.Room.{Room}
use Rattle.code_moves.specs.Setting.{Setting, room_of}
use Rattle.code_moves.specs.Values.{slot_value, element_value, scalar_value, applied, stepped, taken}
use Rattle.code_moves.specs.Deeds.{Deed, Sets, SetsAt, Draws}

-- ---- One slot or element

abbrev pub fills_cell : Option ℕ → (List ℕ → ℕ) → List Deed
fills_cell None f = []
fills_cell (Some cell) f = Sets cell f ∷ []

-- a value gets into a slot, where some instruction reads it
abbrev pub fills : Setting → ℕ → (List ℕ → ℕ) → List Deed
fills g slot f = fills_cell (slot_cell g.lay slot) f

-- as many low bits as the kind has
abbrev pub lows : Model → Room → (List ℕ → ℕ) → List ℕ → ℕ
lows model r f store = narrowed r.kind model (f store)

abbrev pub writes_in : Model → Option Room → (index value : List ℕ → ℕ) → List Deed
writes_in model None index value = []
writes_in model (Some r) index value = (if r.is_array then SetsAt r.first r.length index (lows model r value) else Sets r.first (lows model r value)) ∷ []

-- a slot's value is written into an object's element
abbrev pub writes : Setting → ℕ → (index value : List ℕ → ℕ) → List Deed
writes g object index value = writes_in g.model (room_of g object) index value

-- the element of this number gets a slot's value
abbrev pub writes_at : Model → Room → ℕ → (List ℕ → ℕ) → List Deed
writes_at model r element value = Sets (r.first + element) (lows model r value) ∷ []

abbrev pub index_value : Setting → ℕ → List ℕ → ℕ
index_value g slot store = slot_value g store slot

-- a value is written into the element whose index is in a slot, and gets into that slot
abbrev pub stores : Setting → (slot object : ℕ) → (List ℕ → ℕ) → List Deed
stores g slot object value = writes g object (index_value g slot) value ++ fills g slot value

-- ---- All elements of an object

-- the value for an element, 0 behind the values
abbrev pub begun : Setting → (slot values element : ℕ) → List ℕ → ℕ
begun g slot values element store = if nat_lt element values then slot_value g store (slot + element) else 0

-- the first so many elements
abbrev pub begins_first : Setting → Room → (slot values count : ℕ) → List Deed
begins_first g r slot values zero = []
begins_first g r slot values (suc n) = begins_first g r slot values n ++ writes_at g.model r n (begun g slot values n)

abbrev pub begins_in : Setting → Option Room → (slot count values : ℕ) → List Deed
begins_in g None slot count values = []
begins_in g (Some r) slot count values = begins_first g r slot values (min count r.length)

abbrev pub draws_first : Room → Kind → ℕ → List Deed
draws_first r k zero = []
draws_first r k (suc n) = draws_first r k n ++ Draws (r.first + n) (is_signed k) ∷ []

abbrev pub draws_in : Option Room → Kind → ℕ → List Deed
draws_in None k count = []
draws_in (Some r) k count = draws_first r k (min count r.length)

abbrev pub binds_in : Setting → Option Room → ℕ → List Deed
binds_in g None slot = []
binds_in g (Some r) slot = writes_at g.model r 0 (λ store. slot_value g store slot)

-- ---- `++` and `--`

abbrev pub old_value : Setting → (slot object : ℕ) → List ℕ → ℕ
old_value g slot object store = element_value g store object (slot_value g store slot)

abbrev pub new_value : Setting → (slot object : ℕ) → Crement → Kind → List ℕ → ℕ
new_value g slot object x k store = stepped x k g.model (old_value g slot object store)

abbrev pub step_of : Setting → (slot object : ℕ) → Crement → Kind → List Deed
step_of g slot object x k = writes g object (index_value g slot) (new_value g slot object x k)

-- the index stays in a cell of its own while the slot gets a value; a scalar has none
abbrev pub kept_in : Option Room → Option ℕ → Option ℕ
kept_in None index = None
kept_in (Some r) index = if r.is_array then index else None

abbrev pub kept_cell : Setting → ℕ → Option ℕ
kept_cell g object = kept_in (room_of g object) g.lay.index

abbrev pub kept_deeds : Option ℕ → (List ℕ → ℕ) → List Deed
kept_deeds None index = []
kept_deeds (Some cell) index = Sets cell index ∷ []

abbrev pub kept_value : Option ℕ → (List ℕ → ℕ) → List ℕ → ℕ
kept_value None index store = index store
kept_value (Some cell) index store = slice_index store cell

-- the old value gets into the slot's cell, out of which the new one is made
abbrev pub step_behind : Setting → (slot object : ℕ) → Crement → Kind → Option ℕ → List Deed
step_behind g slot object x k None = step_of g slot object x k
step_behind g slot object x k (Some cell) =
    kept_deeds (kept_cell g object) (index_value g slot) ++ Sets cell (old_value g slot object) ∷ []
    ++ writes g object (kept_value (kept_cell g object) (index_value g slot)) (λ store. stepped x k g.model (slice_index store cell))

abbrev pub changes : Setting → ℕ → Bool → Crement → Kind → ℕ → List Deed
changes g slot true x k object = step_of g slot object x k ++ fills g slot (old_value g slot object)
changes g slot false x k object = step_behind g slot object x k (slot_cell g.lay slot)

-- ---- Draws

abbrev pub draws_to : Setting → ℕ → Kind → Option ℕ → List Deed
draws_to g slot k None = []
draws_to g slot k (Some cell) = Draws cell (is_signed k) ∷ [] ++ fills g slot (λ store. widened k g.model (slice_index store cell))

-- ---- Instructions

abbrev pub takes : Setting → (slot from : ℕ) → Bool → List Deed
takes g slot from needed = fills g slot (λ store. taken needed (slot_value g store (from + 1)) (slot_value g store (from + 2)))

abbrev pub updated_value : Setting → ℕ → (o : BinaryOp) → (k l : Kind) → List ℕ → ℕ
updated_value g slot o k l store = converted l g.model (applied o k g.model (converted k g.model (slot_value g store (slot + 1))) (slot_value g store (slot + 2)))

module _ (g : Setting) where
  abbrev pub moves_of : Instruction → List Deed
  moves_of (i.Constant slot v) = fills g slot (λ store. residue 64 v)
  moves_of (i.Read slot object) = fills g slot (λ store. scalar_value g store object)
  moves_of (i.Element slot at object count) = fills g slot (old_value g slot object)
  moves_of (i.Locate slot at object count) = []
  moves_of (i.Load slot object) = fills g (slot + 1) (old_value g slot object)
  moves_of (i.Store slot object) = stores g slot object (index_value g (slot + 1))
  moves_of (i.Convert slot k) = fills g slot (λ store. converted k g.model (slot_value g store slot))
  moves_of (i.Negate slot k at) = fills g slot (λ store. negation k g.model (slot_value g store slot))
  moves_of (i.Complement slot k at) = fills g slot (λ store. complement k g.model (slot_value g store slot))
  moves_of (i.Not slot) = fills g slot (λ store. zero_test (slot_value g store slot))
  moves_of (i.Truth slot) = fills g slot (λ store. converted ABool g.model (slot_value g store slot))
  moves_of (i.Binary slot o k at) = fills g slot (λ store. applied o k g.model (slot_value g store slot) (slot_value g store (slot + 1)))
  moves_of (i.Update slot o k l at object) = stores g slot object (updated_value g slot o k l)
  moves_of (i.Change slot before x k at object) = changes g slot before x k object
  moves_of (i.Draw slot k) = draws_to g slot k (drawn_cell g.lay (width_of k g.model))
  moves_of (i.Fill object k count) = draws_in (room_of g object) k count
  moves_of (i.Begin slot object count values) = begins_in g (room_of g object) slot count values
  moves_of (i.Bind slot object) = binds_in g (room_of g object) slot
  moves_of (i.Jump skip) = []
  moves_of (i.Turn at goal) = []
  moves_of (i.SkipZero slot skip) = []
  moves_of (i.SkipEqual slot v skip) = []
  moves_of (i.Call at goal slot) = []
  moves_of (i.Return slot) = []
  moves_of (i.Take slot at from needed) = takes g slot from needed
  moves_of (i.Fail kind at) = []
  moves_of i.Stop = []
