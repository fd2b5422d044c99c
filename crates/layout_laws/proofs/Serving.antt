-- Marks stay, and an instruction marks what it reads.
use Rattle.std.proofs.Common.{◌≡◌, ℕ, zero, suc, ◌+◌, ◌<◌, ◌≤◌, ◌⊎◌, inl, inr, Bool, true, false, ◌||◌, List, [], ◌∷◌, ◌++◌, length, refl, sym, ap, ◌∙◌, subst, arith, Some, None, slice_get, replicate}
use Rattle.std.specs.Prelude.{slice_index_or, slice_set, nat_eq, if◌then◌else◌}
use Rattle.std.proofs.lemmas.Bool.{eq-eqb, cases_eq, or_cases, or_left, or_right}
use Rattle.std.proofs.lemmas.List.{get_or-set_same, length-set, length-replicate}
use Rattle.std.proofs.lemmas.Option.{same_Some, none-some}
use Rattle.lv_base.specs.declared.kind.Model.{Model}
use Rattle.lv_base.specs.Integers.{width_of}
use Rattle.c_typed.specs.declared.tree.Object.{Object}
use Rattle.slot_code.specs.declared.flat.Instruction.{Instruction}
use Rattle.slot_code.specs.declared.flat.Instruction.TheVariants as i
use Rattle.slot_code.specs.Slots.{slots_of, slots_in}
use Rattle.code_layout.specs.Reading.{reads, span, is_array, marked, marks_behind}
use Rattle.code_layout.specs.Layout.{Lay, elements_of, firsts_from, slots_from, drawn_from, drawn_in, index_at, has_width, with_draw, widths_behind, keeps, keeps_some, layout_of}
use Rattle.layout_laws.specs.Serve.{HasDraw, Serves, CellsServe}

abbrev Marked : List Bool → ℕ → Type 0
Marked read s = slice_index_or read s false ≡ true

-- ---- Marks of one span

set-keeps : (read : List Bool) (k s : ℕ) → Marked read s → Marked (slice_set read k true) s
set-keeps [] k s h = h
set-keeps (x ∷ xs) zero zero h = refl
set-keeps (x ∷ xs) zero (suc s) h = h
set-keeps (x ∷ xs) (suc k) zero h = h
set-keeps (x ∷ xs) (suc k) (suc s) h = set-keeps xs k s h

length-marked : (read : List Bool) (first n : ℕ) → length (marked read first n) ≡ length read
length-marked read first zero = refl
length-marked read first (suc n) = length-set (marked read first n) (first + n) true ∙ length-marked read first n

marked-keeps : (read : List Bool) (first n s : ℕ) → Marked read s → Marked (marked read first n) s
marked-keeps read first zero s h = h
marked-keeps read first (suc n) s h = set-keeps (marked read first n) (first + n) s (marked-keeps read first n s h)

mark-more : (read : List Bool) (first n k : ℕ) → k < suc n → first + suc n ≤ length read → (k < n → Marked (marked read first n) (first + k)) → (k ≡ n) ⊎ (k ≡ n → ⊥) → Marked (marked read first (suc n)) (first + k)
mark-more read first n k lt le before (inl e) =
    let within : first + n < length (marked read first n) = omega (arith, le, length-marked read first n) in
    ap (λ (j : ℕ). slice_index_or (slice_set (marked read first n) (first + n) true) (first + j) false) e ∙ get_or-set_same (marked read first n) (first + n) true false within
mark-more read first n k lt le before (inr d) = set-keeps (marked read first n) (first + n) (first + k) (before (omega (arith, lt, d)))

marked-sets : (read : List Bool) (first n k : ℕ) → k < n → first + n ≤ length read → Marked (marked read first n) (first + k)
marked-sets read first zero k lt le = absurd (omega (arith, lt))
marked-sets read first (suc n) k lt le = mark-more read first n k lt le (λ below. marked-sets read first n k below (omega (arith, le))) (cases_eq k n)

-- ---- Marks of code

behind-keeps : (objects : List Object) (code : List Instruction) (read : List Bool) (s : ℕ) → Marked read s → Marked (marks_behind objects read code) s
behind-keeps objects [] read s h = h
behind-keeps objects (x ∷ xs) read s h = behind-keeps objects xs (marked read (reads objects x).first (reads objects x).count) s (marked-keeps read (reads objects x).first (reads objects x).count s h)

-- ---- What an instruction reads it may write

element-ends : (b : Bool) (slot count most : ℕ) → slot + 1 + count ≤ most → (if b then span slot (count + 1) else span (slot + 1) count).first + (if b then span slot (count + 1) else span (slot + 1) count).count ≤ most
element-ends true slot count most le = omega (arith, le)
element-ends false slot count most le = omega (arith, le)

reads-within : (objects : List Object) (x : Instruction) → (reads objects x).first + (reads objects x).count ≤ slots_of x
reads-within objects (i.Constant slot v) = omega arith
reads-within objects (i.Read slot object) = omega arith
reads-within objects (i.Element slot at object count) = omega arith
reads-within objects (i.Locate slot at object count) = omega arith
reads-within objects (i.Load slot object) = element-ends (is_array objects object) slot 0 (suc (suc slot)) (omega arith)
reads-within objects (i.Store slot object) = element-ends (is_array objects object) slot 1 (suc (suc slot)) (omega arith)
reads-within objects (i.Convert slot k) = omega arith
reads-within objects (i.Negate slot k at) = omega arith
reads-within objects (i.Complement slot k at) = omega arith
reads-within objects (i.Not slot) = omega arith
reads-within objects (i.Truth slot) = omega arith
reads-within objects (i.Binary slot o k at) = omega arith
reads-within objects (i.Update slot o k l at object) = element-ends (is_array objects object) slot 2 (suc (suc (suc slot))) (omega arith)
reads-within objects (i.Change slot before by k at object) = element-ends (is_array objects object) slot 0 (suc slot) (omega arith)
reads-within objects (i.Draw slot k) = omega arith
reads-within objects (i.Fill object k count) = omega arith
reads-within objects (i.Begin slot object count values) = omega arith
reads-within objects (i.Bind slot object) = omega arith
reads-within objects (i.Jump skip) = omega arith
reads-within objects (i.Turn at goal) = omega arith
reads-within objects (i.SkipZero slot skip) = omega arith
reads-within objects (i.SkipEqual slot v skip) = omega arith
reads-within objects (i.Call at goal slot) = omega arith
reads-within objects (i.Return slot) = omega arith
reads-within objects (i.Take slot at from needed) = omega arith
reads-within objects (i.Fail kind at) = omega arith
reads-within objects i.Stop = omega arith

behind-sets : (objects : List Object) (code : List Instruction) (read : List Bool) (place k : ℕ) (x : Instruction) → slice_get code place ≡ Some x → slots_in code ≤ length read
    → k < (reads objects x).count → Marked (marks_behind objects read code) ((reads objects x).first + k)
behind-sets objects [] read place k x e le lt = absurd (none-some x e)
behind-sets objects (y ∷ ys) read zero k x e le lt =
    let same : y ≡ x = same_Some y x e in
    let fits : (reads objects y).first + (reads objects y).count ≤ length read = omega (arith, le, reads-within objects y) in
    behind-keeps objects ys (marked read (reads objects y).first (reads objects y).count) ((reads objects x).first + k)
    (subst (λ (z : Instruction). Marked (marked read (reads objects y).first (reads objects y).count) ((reads objects z).first + k)) same
    (marked-sets read (reads objects y).first (reads objects y).count k (subst (λ (z : Instruction). k < (reads objects z).count) (sym same) lt) fits))
behind-sets objects (y ∷ ys) read (suc place) k x e le lt =
    let n = length-marked read (reads objects y).first (reads objects y).count in
    behind-sets objects ys (marked read (reads objects y).first (reads objects y).count) place k x e (omega (arith, le, n)) lt

-- ---- Cells

slot-there : (read : List Bool) (base s : ℕ) → Marked read s → (c : ℕ) × (slice_index_or (slots_from base read) s None ≡ Some c)
slot-there [] base s h = absurd (cc)
slot-there (true ∷ read) base zero h = (base, refl)
slot-there (true ∷ read) base (suc s) h = slot-there read (suc base) s h
slot-there (false ∷ read) base zero h = absurd (cc)
slot-there (false ∷ read) base (suc s) h = slot-there read base s h

-- ---- Draws

has-more : (ws vs : List ℕ) (w : ℕ) → has_width ws w ≡ true → has_width (ws ++ vs) w ≡ true
has-more [] vs w h = absurd cc
has-more (x ∷ xs) vs w h = go (or_cases (nat_eq x w) (has_width xs w) h) (λ e. has-more xs vs w e)
  where
    go : (nat_eq x w ≡ true) ⊎ (has_width xs w ≡ true) → ((has_width xs w ≡ true) → has_width (xs ++ vs) w ≡ true) → has_width (x ∷ xs ++ vs) w ≡ true
    go (inl e) rest = or_left (nat_eq x w) (has_width (xs ++ vs) w) e
    go (inr e) rest = or_right (nat_eq x w) (has_width (xs ++ vs) w) (rest e)

has-last : (ws : List ℕ) (w : ℕ) → has_width (ws ++ w ∷ []) w ≡ true
has-last [] w = or_left (nat_eq w w) false (eq-eqb w w refl)
has-last (x ∷ xs) w = or_right (nat_eq x w) (has_width (xs ++ w ∷ []) w) (has-last xs w)

drawn-keeps : (b : Bool) (ws : List ℕ) (v w : ℕ) → has_width ws w ≡ true → has_width (if b then ws else ws ++ v ∷ []) w ≡ true
drawn-keeps true ws v w h = h
drawn-keeps false ws v w h = has-more ws (v ∷ []) w h

drawn-has : (b : Bool) (ws : List ℕ) (w : ℕ) → has_width ws w ≡ b → has_width (if b then ws else ws ++ w ∷ []) w ≡ true
drawn-has true ws w h = h
drawn-has false ws w h = has-last ws w

draw-keeps : (model : Model) (ws : List ℕ) (w : ℕ) (x : Instruction) → has_width ws w ≡ true → has_width (with_draw model ws x) w ≡ true
draw-keeps model ws w (i.Draw slot k) h = drawn-keeps (has_width ws (width_of k model)) ws (width_of k model) w h
draw-keeps model ws w _ h = h

widths-keep : (model : Model) (code : List Instruction) (ws : List ℕ) (w : ℕ) → has_width ws w ≡ true → has_width (widths_behind model ws code) w ≡ true
widths-keep model [] ws w h = h
widths-keep model (x ∷ xs) ws w h = widths-keep model xs (with_draw model ws x) w (draw-keeps model ws w x h)

widths-have : (model : Model) (code : List Instruction) (ws : List ℕ) (place slot : ℕ) (k : _) → slice_get code place ≡ Some (i.Draw slot k) → has_width (widths_behind model ws code) (width_of k model) ≡ true
widths-have model [] ws place slot k e = absurd (none-some (i.Draw slot k) e)
widths-have model (x ∷ xs) ws zero slot k e =
    let same : i.Draw slot k ≡ x = sym (same_Some x (i.Draw slot k) e) in
    widths-keep model xs (with_draw model ws x) (width_of k model)
    (subst (λ (z : Instruction). has_width (with_draw model ws z) (width_of k model) ≡ true) same (drawn-has (has_width ws (width_of k model)) ws (width_of k model) refl))
widths-have model (x ∷ xs) ws (suc place) slot k e = widths-have model xs (with_draw model ws x) place slot k e

draw-there : (ws : List ℕ) (base w : ℕ) → has_width ws w ≡ true → (c : ℕ) × (drawn_in (drawn_from base ws) w ≡ Some c)
draw-there [] base w h = absurd cc
draw-there (x ∷ xs) base w h = go (nat_eq x w) refl (λ rest. draw-there xs (suc base) w rest)
  where
    go : (b : Bool) → nat_eq x w ≡ b → (has_width xs w ≡ true → (c : ℕ) × (drawn_in (drawn_from (suc base) xs) w ≡ Some c)) → (c : ℕ) × (drawn_in (drawn_from base (x ∷ xs)) w ≡ Some c)
    go true e behind = (base, ap (λ (b : Bool). if b then Some base else drawn_in (drawn_from (suc base) xs) w) e)
    go false e behind =
        let rest : has_width xs w ≡ true = ap (λ (b : Bool). b || has_width xs w) (sym e) ∙ h in
        let r = behind rest in
        (r.0, ap (λ (b : Bool). if b then Some base else drawn_in (drawn_from (suc base) xs) w) e ∙ r.1)

-- ---- The index

kept-some : (objects : List Object) (code : List Instruction) (place : ℕ) (x : Instruction) → slice_get code place ≡ Some x → keeps objects x ≡ true → keeps_some objects code ≡ true
kept-some objects [] place x e h = absurd (none-some x e)
kept-some objects (y ∷ ys) zero x e h = or_left (keeps objects y) (keeps_some objects ys) (ap (keeps objects) (same_Some y x e) ∙ h)
kept-some objects (y ∷ ys) (suc place) x e h = or_right (keeps objects y) (keeps_some objects ys) (kept-some objects ys place x e h)

index-there : (kept : Bool) (base : ℕ) → kept ≡ true → (c : ℕ) × (index_at base kept ≡ Some c)
index-there true base e = (base, refl)
index-there false base e = absurd cc

-- ---- Objects

length-firsts : (os : List Object) (base : ℕ) → length (firsts_from base os) ≡ length os
length-firsts [] base = refl
length-firsts (o ∷ os) base = ap suc (length-firsts os (base + elements_of o))

-- ---- All of them

module _ (objects : List Object) (model : Model) (code : List Instruction) (slots : ℕ) (few : slots_in code ≤ slots) where
  abbrev l : Lay
  l = layout_of objects model code slots

  has-draw : (place : ℕ) (x : Instruction) → slice_get code place ≡ Some x → HasDraw model l x
  has-draw place (i.Draw slot k) e = draw-there (widths_behind model [] code) _ (width_of k model) (widths-have model code [] place slot k e)
  has-draw place _ e = tt

  serves : (place : ℕ) (x : Instruction) → slice_get code place ≡ Some x → Serves model objects l x
  serves place x e = record {
    slots = λ k lt.
        slot-there (marks_behind objects (replicate slots false) code) _ ((reads objects x).first + k)
        (behind-sets objects code (replicate slots false) place k x e (omega (arith, few, length-replicate slots false)) lt);
    draw = has-draw place x e;
    index = λ h. index-there (keeps_some objects code) _ (kept-some objects code place x e h);
  }

pub cells_serve : CellsServe
cells_serve objects model code slots few = (serves objects model code slots few, length-firsts objects 0)
