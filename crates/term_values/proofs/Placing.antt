-- A term put into a cone behind its operands.
use Rattle.std.proofs.Common.{◌≡◌, ℕ, ◌+◌, ◌<◌, List, [], ◌∷◌, ◌++◌, length, refl, sym, ap, ◌∙◌, subst, arith, true, false, Option, None, Some, slice_get, slice_index, length-append, nat_eq, if◌then◌else◌}
use Rattle.std.specs.HashMap.{get}
use Rattle.std.proofs.lemmas.Nat.{pow_pos}
use Rattle.std.proofs.lemmas.Bool.{eqb-true}
use Rattle.bv_term.specs.declared.term.TermId.{TermId}
use Rattle.bv_term.specs.declared.term.Term.{Term}
use Rattle.bv_term.specs.declared.term.Term.TheVariants.{Cell, Element}
use Rattle.bv_term.specs.WellFormed.{Table, IsTable, IsWidth, Fits, FitsTable, width_in, widths, with_term}
use Rattle.bv_term.specs.Values.{values}
use Rattle.bv_term.specs.Laws.{Extends}
use Rattle.bv_term.proofs.Staying.{values_stay, widths_stay}
use Rattle.bv_term.proofs.Growing.{length-widths, widths-append, IsTable-snoc}
use Rattle.term_laws.specs.Operands.{Follows, OnOperands, renamed}
use Rattle.term_laws.specs.Laws.{IsMade}
use Rattle.term_laws.proofs.Renaming as renaming
use Rattle.term_laws.proofs.Made.{made, onto}
use Rattle.term_values.specs.declared.step.Source.{Source}
use Rattle.term_values.specs.declared.part.Part.{Part}
use Rattle.term_values.specs.Cones.{over}
use Rattle.term_values.specs.Steps.{IsPlaced, IsPlacing, lacking, number_in, or_zero, shape_of, source_of, step_of, steps_of}
use Rattle.term_values.specs.Parts.{IsPart, Stands, cone_of}
use Rattle.term_values.proofs.Lacking.{all-placed}

pub length-steps : (ss : List Source) (ts : List Term) → length ss ≡ length ts → length (steps_of ss ts) ≡ length ts
length-steps [] [] e = refl
length-steps [] (t ∷ ts) e = absurd (omega (arith, e))
length-steps (s ∷ ss) [] e = absurd (omega (arith, e))
length-steps (s ∷ ss) (t ∷ ts) e = let h = length-steps ss ts (omega (arith, e)) in omega (arith, h)

steps-more : (ss : List Source) (ts : List Term) (s : Source) (t : Term) → length ss ≡ length ts
    → steps_of (ss ++ s ∷ []) (ts ++ t ∷ []) ≡ steps_of ss ts ++ step_of s t ∷ []
steps-more [] [] s t e = refl
steps-more [] (y ∷ ts) s t e = absurd (omega (arith, e))
steps-more (x ∷ ss) [] s t e = absurd (omega (arith, e))
steps-more (x ∷ ss) (y ∷ ts) s t e = ap (λ (zs : List Term). step_of x y ∷ zs) (steps-more ss ts s t (omega (arith, e)))

-- a term is had back from where it has its value from and what stands for it
step-back : (w : ℕ) (t : Term) → step_of (source_of t) (shape_of (source_of t) w t) ≡ t
step-back w (Cell c) = refl
step-back w (Element first n i) = refl
step-back w t = refl

-- what stands for a term is well formed over any cells, and as wide
pub shape-fits : (cells others ws : List ℕ) (w : ℕ) (t : Term) → IsWidth w → Fits cells ws t → Fits others ws (shape_of (source_of t) w t)
shape-fits cells others ws w (Cell c) h f = (h, pow_pos w)
shape-fits cells others ws w (Element first n i) h f = (h, pow_pos w)
shape-fits cells others ws w t h f = f

shape-width : (cells others ws : List ℕ) (w : ℕ) (t : Term) → w ≡ width_in cells ws t → width_in others ws (shape_of (source_of t) w t) ≡ width_in cells ws t
shape-width cells others ws w (Cell c) e = e
shape-width cells others ws w (Element first n i) e = e
shape-width cells others ws w t e = refl

many : (a : Table) → length (widths a) ≡ length a.terms
many a = omega (arith, length-widths a.cells [] a.terms)

abbrev AllStand : Table → Table → (ℕ → Option ℕ) → Type 0
AllStand table cone find = (term at : ℕ) → find term ≡ Some at → Stands table cone term at

-- the numbers in the cone follow the terms
follows : (table cone : Table) (find : ℕ → Option ℕ) (u : Term) → AllStand table cone find → OnOperands (IsPlaced find) u
    → OnOperands (Follows (number_in find) (widths table) (widths cone)) u
follows table cone find u all h =
    onto (IsPlaced find) (Follows (number_in find) (widths table) (widths cone)) u (λ i p.
    let s = all i.0 p.0 p.1 in
    let e : or_zero (find i.0) ≡ p.0 = ap or_zero p.1 in
    record { there = omega (arith, e, s.there, many cone); same = ap (slice_index (widths cone)) e ∙ s.width }) h

seen : (table cone : Table) (find : ℕ → Option ℕ) (store : List ℕ) (u : Term) → AllStand table cone find → OnOperands (IsPlaced find) u
    → OnOperands (λ i. slice_index (values cone store) (number_in find i).0 ≡ slice_index (values table store) i.0) u
seen table cone find store u all h =
    onto (IsPlaced find) (λ i. slice_index (values cone store) (number_in find i).0 ≡ slice_index (values table store) i.0) u (λ i p.
    let e : or_zero (find i.0) ≡ p.0 = ap or_zero p.1 in
    ap (slice_index (values cone store)) e ∙ (all i.0 p.0 p.1).value store) h

-- what stands in a cone stands there as it grows
stands-on : (table cone new : Table) (term at : ℕ) → Extends cone new → length cone.terms < length new.terms + 1 → Stands table cone term at → Stands table new term at
stands-on table cone new term at g le s =
    let t : TermId = record { 0 = at } in record {
      there = omega (arith, s.there, le);
      width = widths_stay cone new t g s.there ∙ s.width;
      value = λ store. values_stay cone new store t g s.there ∙ s.value store;
    }

get-last : (xs : List Term) (t : Term) → slice_get (xs ++ t ∷ []) (length xs) ≡ Some t
get-last [] t = refl
get-last (x ∷ xs) t = get-last xs t

-- the term of a number, in the cone
abbrev Renumbered : (ℕ → Option ℕ) → Term → Term
Renumbered find u = renamed (number_in find) u

pub fits-cone : (table cone : Table) (find : ℕ → Option ℕ) (k : ℕ) (u : Term) → IsTable table → slice_get table.terms k ≡ Some u
    → AllStand table cone find → OnOperands (IsPlaced find) u → Fits table.cells (widths cone) (Renumbered find u)
fits-cone table cone find k u h s all ops =
    renaming.fits (number_in find) table.cells (widths table) (widths cone) u (follows table cone find u all ops) (made table [] (record { 0 = k }) u h s).fits

-- the last term stands for the one that was put
stands-last : (table cone : Table) (find : ℕ → Option ℕ) (k : ℕ) (u : Term) → IsTable table → slice_get table.terms k ≡ Some u → cone.cells ≡ table.cells
    → AllStand table cone find → OnOperands (IsPlaced find) u → IsTable cone → (at : ℕ) → slice_get cone.terms at ≡ Some (Renumbered find u)
    → Stands table cone k at
stands-last table cone find k u h s e all ops is at last =
    let f = number_in find in
    let term : TermId = record { 0 = k } in
    let id : TermId = record { 0 = at } in
    let m : (store : List ℕ) → IsMade table store term u = λ store. made table store term u h s in
    let n : (store : List ℕ) → IsMade cone store id (Renumbered find u) = λ store. made cone store id (Renumbered find u) is last in
    let fl = follows table cone find u all ops in record {
      there = (n []).there;
      width =
          (n []).width ∙ renaming.width f cone.cells (widths table) (widths cone) u fl ∙ ap (λ (cs : List ℕ). width_in cs (widths table) u) e ∙ sym (m []).width;
      value = λ store.
          (n store).value ∙ renaming.value f store (widths table) (widths cone) (values table store) (values cone store) u fl (seen table cone find store u all ops)
          ∙ sym (m store).value;
    }

-- the terms stand under the new numbers
all-stand : (table cone : Table) (old new : ℕ → Option ℕ) (k at : ℕ) → IsPlacing old new k at → AllStand table cone old → Stands table cone k at
    → AllStand table cone new
all-stand table cone old new k at p all s term i e =
    elim (nat_eq k term) as (λ b. nat_eq k term ≡ b → (if b then Some at else old term) ≡ Some i → Stands table cone term i) [
      | true ↦ (λ same f.
          let q : at ≡ i = cc in
          subst (λ (x : ℕ). Stands table cone term x) q (subst (λ (x : ℕ). Stands table cone x at) (eqb-true k term same) s))
      | false ↦ (λ apart f. all term i f)
    ] refl (sym (p term) ∙ e)

-- widths of a table with one more term
widths-more : (table : Table) (t : Term) → widths (with_term table t) ≡ widths table ++ width_in table.cells (widths table) t ∷ []
widths-more table t = widths-append table.cells [] table.terms (t ∷ [])

pub part-more : (table : Table) (p q : Part) (k at : ℕ) (u : Term) → IsTable table → IsPart table p → slice_get table.terms k ≡ Some u
    → lacking (get nat_eq p.places) u ≡ None
    → q.shapes ≡ with_term p.shapes (shape_of (source_of (Renumbered (get nat_eq p.places) u)) (slice_index (widths table) k) (Renumbered (get nat_eq p.places) u))
    → q.sources.items ≡ p.sources.items ++ source_of (Renumbered (get nat_eq p.places) u) ∷ [] → at ≡ length p.shapes.terms
    → IsPlacing (get nat_eq p.places) (get nat_eq q.places) k at → IsPart table q
part-more table p q k at u h part s none shapes sources number places =
    let find = get nat_eq p.places in
    let step = Renumbered find u in
    let w = slice_index (widths table) k in
    let shape = shape_of (source_of step) w step in
    let cone = cone_of table p in
    let new = with_term cone step in
    let ops = all-placed find u none in
    let g : Extends cone new = (refl, (step ∷ [], refl)) in
    let more : length new.terms ≡ length cone.terms + 1 = length-append cone.terms (step ∷ []) in
    let is : IsTable new = IsTable-snoc cone step part.made (fits-cone table cone find k u h s part.placed ops) in
    let all : AllStand table new find = λ term i e. stands-on table cone new term i g (omega (arith, more)) (part.placed term i e) in
    let last : at ≡ length cone.terms = number ∙ sym (length-steps p.sources.items p.shapes.terms part.paired) in
    let there : slice_get new.terms at ≡ Some step = ap (slice_get new.terms) last ∙ get-last cone.terms step in
    let placed : AllStand table new (get nat_eq q.places) =
    all-stand table new find (get nat_eq q.places) k at places all (stands-last table new find k u h s refl all ops is at there) in
    let whole : cone_of table q ≡ new =
    ap (over table)
    (ap (λ (ss : List Source). steps_of ss q.shapes.terms) sources ∙ ap (λ (t : Table). steps_of (p.sources.items ++ source_of step ∷ []) t.terms) shapes
    ∙ steps-more p.sources.items p.shapes.terms (source_of step) shape part.paired ∙ ap (λ (t : Term). cone.terms ++ t ∷ []) (step-back w step)) in
    let wide : w ≡ width_in table.cells (widths cone) step =
    (made table [] (record { 0 = k }) u h s).width ∙ sym (renaming.width (number_in find) table.cells (widths table) (widths cone) u (follows table cone find u part.placed ops)) in
    let ws : widths q.shapes ≡ widths new =
    ap widths shapes ∙ widths-more p.shapes shape ∙ ap (λ (xs : List ℕ). xs ++ width_in p.shapes.cells xs shape ∷ []) part.widths
    ∙ ap (λ (x : ℕ). widths cone ++ x ∷ []) (shape-width table.cells p.shapes.cells (widths cone) w step wide) ∙ sym (widths-more cone step) in record {
      paired = ap length sources ∙ length-append p.sources.items (source_of step ∷ []) ∙ ap (λ (x : ℕ). x + 1) part.paired
          ∙ sym (length-append p.shapes.terms (shape ∷ [])) ∙ sym (ap (λ (t : Table). length t.terms) shapes);
      made = subst IsTable (sym whole) is;
      widths = ws ∙ sym (ap widths whole);
      placed = subst (λ (c : Table). AllStand table c (get nat_eq q.places)) (sym whole) placed;
    }

-- what stands for the term fits the table of what stands for the others
pub next-fits : (table : Table) (p : Part) (k : ℕ) (u : Term) → IsTable table → IsPart table p → slice_get table.terms k ≡ Some u
    → lacking (get nat_eq p.places) u ≡ None → IsWidth (slice_index (widths table) k)
    → FitsTable p.shapes (shape_of (source_of (Renumbered (get nat_eq p.places) u)) (slice_index (widths table) k) (Renumbered (get nat_eq p.places) u))
next-fits table p k u h part s none w =
    let find = get nat_eq p.places in
    let step = Renumbered find u in
    subst (λ (ws : List ℕ). Fits p.shapes.cells ws (shape_of (source_of step) (slice_index (widths table) k) step)) (sym part.widths)
    (shape-fits table.cells p.shapes.cells (widths (cone_of table p)) (slice_index (widths table) k) step w
    (fits-cone table (cone_of table p) find k u h s part.placed (all-placed find u none)))
