-- The graphs of a program's functions are a function of its typed tree: what they depend on is the same for two programs of one tree.
use Rattle.std.proofs.Common.{◌≡◌, ◌∙◌, ℕ, zero, suc, ◌+◌, ◌==◌, ℤ, max, Bool, true, false, not, ◌&&◌, ◌||◌, if◌then◌else◌, nat_lt, List, [], ◌∷◌, ◌++◌, length, map, replicate, Option, None, Some, refl, sym, ap, slice_get}
use Rattle.lv_base.specs.declared.kind.Model.{Model}
use Rattle.lv_base.specs.Integers.{width_of}
use Rattle.c_typed.specs.Tree as t
use Rattle.c_typed.specs.declared.tree.Object.{Object}
use Rattle.c_typed.specs.declared.tree.Owner.{Owner}
use Rattle.c_typed.specs.declared.tree.Owner.TheVariants as ow
use Rattle.c_typed.specs.Parts.{Parts, tree_of}
use Rattle.c_typed.specs.Run.{main_number}
use Rattle.c_typed.specs.View.{object_of, owner_of}
use Rattle.slot_code.specs.declared.flat.Instruction.{Instruction}
use Rattle.slot_code.specs.declared.flat.Instruction.TheVariants as i
use Rattle.slot_code.specs.Programs.{code_of}
use Rattle.slot_code.specs.Slots.{slots_in}
use Rattle.c_graph.specs.declared.graph.Cell.{Cell}
use Rattle.c_graph.specs.declared.graph.Operation.{Operation}
use Rattle.c_graph.specs.declared.graph.Operation.TheVariants.{Set}
use Rattle.c_graph.specs.declared.graph.Node.TheVariants.{Plain}
use Rattle.c_graph.specs.Functions.{Flows}
use Rattle.c_graph.specs.Parts.{flows_of}
use Rattle.c_terms.specs.declared.words.Words.{Words}
use Rattle.c_terms.specs.Made as term
use Rattle.c_terms.specs.Made.{words_of}
use Rattle.c_graph.specs.Shape.{widths_of}
use Rattle.code_layout.specs.declared.layout.DrawnAt.{DrawnAt}
use Rattle.code_layout.specs.Layout.{Lay, drawn_cells, drawn_from, element_cells, firsts_from, index_at, index_cells, keeps, keeps_some, layout_of, object_cells, slot_cells, slots_from, widths_behind}
use Rattle.code_layout.specs.Reading.{is_array, is_array_at, marked, marks_behind, reads, span}
use Rattle.code_moves.specs.Setting.{Setting, Site, room_at, room_of, site_of}
use Rattle.cfg_build.specs.declared.placing.Range.{Range}
use Rattle.cfg_build.specs.Graphs.{first_in, first_value, program_code, program_setting, value_in}
use Rattle.cfg_build.specs.Openings.{open_first, open_from, open_in, open_object, open_objects, opening}
use Rattle.cfg_build.specs.Made.{Drawn, drawn, graph_of, opened}
use Rattle.cfg_build.specs.Steps.{edge, node_id}
use Rattle.cfg_build.specs.Numbers.{numbers_to, owners_to}
use Rattle.cfg_build.specs.Ranges.{main_or, no_ranges, ranges_to}
use Rattle.cfg_build.specs.Built.{Graphed, built, first_graphs, first_words, graphed, plan_in, with_graph}

-- ---- Objects of a list, by what the tree tells of them

abbrev view : Option Object → Option t.Object
view None = None
view (Some o) = Some (object_of o)

got-view : (os : List Object) (k : ℕ) → view (slice_get os k) ≡ slice_get (map object_of os) k
got-view [] k = refl
got-view (o ∷ os) zero = refl
got-view (o ∷ os) (suc k) = got-view os k

same-view : (os ps : List Object) → map object_of os ≡ map object_of ps → (k : ℕ) → view (slice_get os k) ≡ view (slice_get ps k)
same-view os ps e k = got-view os k ∙ (ap (λ (l : List t.Object). slice_get l k) e ∙ sym (got-view ps k))

-- ---- The layout

abbrev array-in : Option t.Object → Bool
array-in None = false
array-in (Some o) = nat_lt 0 o.length

is-array-in : (o : Option Object) → is_array_at o ≡ array-in (view o)
is-array-in None = refl
is-array-in (Some o) = refl

arrays-alike : (os ps : List Object) → map object_of os ≡ map object_of ps → (k : ℕ) → is_array os k ≡ is_array ps k
arrays-alike os ps e k = is-array-in (slice_get os k) ∙ (ap array-in (same-view os ps e k) ∙ sym (is-array-in (slice_get ps k)))

abbrev cells-of : Model → ℕ → List t.Object → List Cell
cells-of model number [] = []
cells-of model number (o ∷ os) = element_cells (width_of o.kind model) number (max o.length 1) ++ cells-of model (suc number) os

cells-are : (model : Model) (number : ℕ) (os : List Object) → object_cells model number os ≡ cells-of model number (map object_of os)
cells-are model number [] = refl
cells-are model number (o ∷ os) = ap (λ (l : List Cell). element_cells (width_of o.kind model) number (max o.length 1) ++ l) (cells-are model (suc number) os)

abbrev firsts-of : ℕ → List t.Object → List ℕ
firsts-of first [] = []
firsts-of first (o ∷ os) = first ∷ firsts-of (first + max o.length 1) os

firsts-are : (first : ℕ) (os : List Object) → firsts_from first os ≡ firsts-of first (map object_of os)
firsts-are first [] = refl
firsts-are first (o ∷ os) = ap (λ (l : List ℕ). first ∷ l) (firsts-are (first + max o.length 1) os)

read-alike : (os ps : List Object) → ((k : ℕ) → is_array os k ≡ is_array ps k) → (x : Instruction) → reads os x ≡ reads ps x
read-alike os ps h (i.Constant slot v) = refl
read-alike os ps h (i.Read slot object) = refl
read-alike os ps h (i.Element slot at object count) = refl
read-alike os ps h (i.Locate slot at object count) = refl
read-alike os ps h (i.Load slot object) = ap (λ (b : Bool). if b then span slot (0 + 1) else span (slot + 1) 0) (h object)
read-alike os ps h (i.Store slot object) = ap (λ (b : Bool). if b then span slot (1 + 1) else span (slot + 1) 1) (h object)
read-alike os ps h (i.Convert slot k) = refl
read-alike os ps h (i.Negate slot k at) = refl
read-alike os ps h (i.Complement slot k at) = refl
read-alike os ps h (i.Not slot) = refl
read-alike os ps h (i.Truth slot) = refl
read-alike os ps h (i.Binary slot o k at) = refl
read-alike os ps h (i.Update slot o k l at object) = ap (λ (b : Bool). if b then span slot (2 + 1) else span (slot + 1) 2) (h object)
read-alike os ps h (i.Change slot before by k at object) = ap (λ (b : Bool). if b then span slot (0 + 1) else span (slot + 1) 0) (h object)
read-alike os ps h (i.Draw slot k) = refl
read-alike os ps h (i.Fill object k count) = refl
read-alike os ps h (i.Begin slot object count values) = refl
read-alike os ps h (i.Bind slot object) = refl
read-alike os ps h (i.Jump skip) = refl
read-alike os ps h (i.Turn at goal) = refl
read-alike os ps h (i.SkipZero slot skip) = refl
read-alike os ps h (i.SkipEqual slot v skip) = refl
read-alike os ps h (i.Call at goal slot) = refl
read-alike os ps h (i.Return slot) = refl
read-alike os ps h (i.Take slot at from needed) = refl
read-alike os ps h (i.Fail kind at) = refl
read-alike os ps h i.Stop = refl

marks-alike : (os ps : List Object) → ((k : ℕ) → is_array os k ≡ is_array ps k) → (read : List Bool) (code : List Instruction) → marks_behind os read code ≡ marks_behind ps read code
marks-alike os ps h read [] = refl
marks-alike os ps h read (x ∷ xs) =
    ap (λ s. marks_behind os (marked read s.first s.count) xs) (read-alike os ps h x) ∙ marks-alike os ps h (marked read (reads ps x).first (reads ps x).count) xs

kept-alike : (os ps : List Object) → ((k : ℕ) → is_array os k ≡ is_array ps k) → (x : Instruction) → keeps os x ≡ keeps ps x
kept-alike os ps h (i.Constant slot v) = refl
kept-alike os ps h (i.Read slot object) = refl
kept-alike os ps h (i.Element slot at object count) = refl
kept-alike os ps h (i.Locate slot at object count) = refl
kept-alike os ps h (i.Load slot object) = refl
kept-alike os ps h (i.Store slot object) = refl
kept-alike os ps h (i.Convert slot k) = refl
kept-alike os ps h (i.Negate slot k at) = refl
kept-alike os ps h (i.Complement slot k at) = refl
kept-alike os ps h (i.Not slot) = refl
kept-alike os ps h (i.Truth slot) = refl
kept-alike os ps h (i.Binary slot o k at) = refl
kept-alike os ps h (i.Update slot o k l at object) = refl
kept-alike os ps h (i.Change slot before by k at object) = ap (λ (b : Bool). not before && b) (h object)
kept-alike os ps h (i.Draw slot k) = refl
kept-alike os ps h (i.Fill object k count) = refl
kept-alike os ps h (i.Begin slot object count values) = refl
kept-alike os ps h (i.Bind slot object) = refl
kept-alike os ps h (i.Jump skip) = refl
kept-alike os ps h (i.Turn at goal) = refl
kept-alike os ps h (i.SkipZero slot skip) = refl
kept-alike os ps h (i.SkipEqual slot v skip) = refl
kept-alike os ps h (i.Call at goal slot) = refl
kept-alike os ps h (i.Return slot) = refl
kept-alike os ps h (i.Take slot at from needed) = refl
kept-alike os ps h (i.Fail kind at) = refl
kept-alike os ps h i.Stop = refl

some-kept-alike : (os ps : List Object) → ((k : ℕ) → is_array os k ≡ is_array ps k) → (code : List Instruction) → keeps_some os code ≡ keeps_some ps code
some-kept-alike os ps h [] = refl
some-kept-alike os ps h (x ∷ xs) = (λ i. kept-alike os ps h x i || some-kept-alike os ps h xs i)

abbrev lay-from : (firsts : List ℕ) (elements : List Cell) (read : List Bool) (widths : List ℕ) (kept : Bool) → Lay
lay-from firsts elements read widths kept =
    let slots = elements ++ slot_cells read in
    let drawn = slots ++ drawn_cells widths in
    record {
      firsts = firsts;
      slots = slots_from (length elements) read;
      drawn = drawn_from (length slots) widths;
      index = index_at (length drawn) kept;
      cells = drawn ++ index_cells kept;
    }

lay-alike : (os ps : List Object) (model : Model) (code : List Instruction) (slots : ℕ) → map object_of os ≡ map object_of ps → layout_of os model code slots ≡ layout_of ps model code slots
lay-alike os ps model code slots e =
    let h : (k : ℕ) → is_array os k ≡ is_array ps k = arrays-alike os ps e in
    let firsts : firsts_from 0 os ≡ firsts_from 0 ps = firsts-are 0 os ∙ (ap (firsts-of 0) e ∙ sym (firsts-are 0 ps)) in
    let cells : object_cells model 0 os ≡ object_cells model 0 ps = cells-are model 0 os ∙ (ap (cells-of model 0) e ∙ sym (cells-are model 0 ps)) in
    let read : marks_behind os (replicate slots false) code ≡ marks_behind ps (replicate slots false) code = marks-alike os ps h (replicate slots false) code in
    let kept : keeps_some os code ≡ keeps_some ps code = some-kept-alike os ps h code in
    (λ i. lay-from (firsts i) (cells i) (read i) (widths_behind model [] code) (kept i))

-- ---- Where objects lie

abbrev seen : t.Object → Option t.Object → t.Object
seen d None = d
seen d (Some o) = o

room-alike : (o p : Option Object) (first : Option ℕ) → view o ≡ view p → room_at o first ≡ room_at p first
room-alike None None first e = refl
room-alike None (Some p) first e = absurd (cc)
room-alike (Some o) None first e = absurd (cc)
room-alike (Some o) (Some p) None e = refl
room-alike (Some o) (Some p) (Some first) e =
    let same : object_of o ≡ object_of p = ap (seen (object_of o)) e in
    let long : o.length ≡ p.length = ap (λ (x : t.Object). x.length) same in
    let kind : o.kind ≡ p.kind = ap (λ (x : t.Object). x.kind) same in
    (λ i. Some (record { first = first; length = max (long i) 1; kind = kind i; is_array = nat_lt 0 (long i) }))

-- two settings over one tree
record Alike (g h : Setting) : Type 0 where
  objects : map object_of g.objects ≡ map object_of h.objects
  count : length g.objects ≡ length h.objects
  model : g.model ≡ h.model
  lay : g.lay ≡ h.lay

rooms-alike : (g h : Setting) → Alike g h → (k : ℕ) → room_of g k ≡ room_of h k
rooms-alike g h a k =
    room-alike (slice_get g.objects k) (slice_get h.objects k) (slice_get g.lay.firsts k) (same-view g.objects h.objects a.objects k)
    ∙ ap (λ (l : Lay). room_at (slice_get h.objects k) (slice_get l.firsts k)) a.lay

sites-alike : (g h : Setting) → Alike g h → site_of g ≡ site_of h
sites-alike g h a = (λ i. record { rooms = λ k. rooms-alike g h a k i; model = a.model i; lay = a.lay i })

-- ---- First values

abbrev first-in : t.Owner → List ℤ → ℕ → ℤ
first-in t.static values element = value_in (slice_get values element)
first-in (t.local f) values element = value_in None

first-is : (w : Owner) (values : List ℤ) (element : ℕ) → first_in w values element ≡ first-in (owner_of w) values element
first-is ow.Static values element = refl
first-is (ow.Local f) values element = refl

abbrev Opens : Type 0
Opens = Words × List Operation

abbrev open-with : (ops : Opens) (first width n : ℕ) → ℤ → Opens
open-with p first width n v = let q = term.constant_of p.0 width v in (q.0, p.1 ++ Set (first + n) q.1 ∷ [])

abbrev open-first : Words → List Operation → (first width : ℕ) → t.Object → ℕ → Opens
open-first w ops first width o zero = (w, ops)
open-first w ops first width o (suc n) = open-with (open-first w ops first width o n) first width n (first-in o.owner o.first n)

open-first-is : (w : Words) (ops : List Operation) (first width : ℕ) (o : Object) (n : ℕ) → ◌≡◌ {A = Opens} (open_first w ops first width o n) (open-first w ops first width (object_of o) n)
open-first-is w ops first width o zero = refl
open-first-is w ops first width o (suc n) = (λ i. open-with (open-first-is w ops first width o n i) first width n (first-is o.owner o.first.items n i))

abbrev open-in : Model → Words → List Operation → ℕ → Option t.Object → Opens
open-in model w ops first None = (w, ops)
open-in model w ops first (Some o) = open-first w ops first (width_of o.kind model) o (max o.length 1)

open-in-is : (g : Setting) (w : Words) (ops : List Operation) (first : ℕ) (o : Option Object) → ◌≡◌ {A = Opens} (open_in g w ops first o) (open-in g.model w ops first (view o))
open-in-is g w ops first None = refl
open-in-is g w ops first (Some o) = open-first-is w ops first (width_of o.kind g.model) o (max o.length 1)

abbrev open-from : Model → Words → List Operation → Option ℕ → Option t.Object → Opens
open-from model w ops None o = (w, ops)
open-from model w ops (Some first) o = open-in model w ops first o

open-from-is : (g : Setting) (w : Words) (ops : List Operation) (first : Option ℕ) (number : ℕ) → ◌≡◌ {A = Opens} (open_from g w ops first number) (open-from g.model w ops first (view (slice_get g.objects number)))
open-from-is g w ops None number = refl
open-from-is g w ops (Some first) number = open-in-is g w ops first (slice_get g.objects number)

objects-alike : (g h : Setting) → Alike g h → (w : Words) (n : ℕ) → ◌≡◌ {A = Opens} (open_objects g w n) (open_objects h w n)
objects-alike g h a w zero = refl
objects-alike g h a w (suc n) =
    let first = slice_get g.lay.firsts n in
    let p : ◌≡◌ {A = Opens} (open_objects g w n) (open_objects h w n) = objects-alike g h a w n in
    ap (λ (q : Opens). open_object g q.0 q.1 n) p
    ∙ (open-from-is g (open_objects h w n).0 (open_objects h w n).1 (slice_get g.lay.firsts n) n
    ∙ ((λ i. open-from (a.model i) (open_objects h w n).0 (open_objects h w n).1 (slice_get (a.lay i).firsts n) (same-view g.objects h.objects a.objects n i))
    ∙ sym (open-from-is h (open_objects h w n).0 (open_objects h w n).1 (slice_get h.lay.firsts n) n)))

opening-alike : (g h : Setting) → Alike g h → (w : Words) → ◌≡◌ {A = Opens} (opening g w) (opening h w)
opening-alike g h a w = ap (open_objects g w) a.count ∙ objects-alike g h a w (length h.objects)

abbrev opened-with : Opens → Drawn
opened-with p = drawn p.0 (Plain ∷ []) (edge (node_id 0) (node_id 1) p.1 ∷ [])

opened-alike : (g h : Setting) → Alike g h → opened g ≡ opened h
opened-alike g h a = (λ i w. opened-with (opening-alike g h a w i))

-- ---- Graphs

abbrev with-graph : (code : List Instruction) (numbers owners : List ℕ) (ranges : List Range) (functions : List t.Function) (main : ℕ) → Site → (Words → Drawn) → Graphed → Option Range → Graphed
with-graph code numbers owners ranges functions main s before r None = r
with-graph code numbers owners ranges functions main s before r (Some range) =
    let p = plan_in code numbers ranges main range in
    let made = graph_of p owners s before functions main r.words in
    graphed made.0 (r.graphs ++ made.1 ∷ []) (r.exits ++ p.exit ∷ [])

with-graph-is : (code : List Instruction) (numbers owners : List ℕ) (ranges : List Range) (functions : List t.Function) (main : ℕ) (g : Setting) (r : Graphed) (o : Option Range)
    → with_graph code numbers owners ranges functions main g r o ≡ with-graph code numbers owners ranges functions main (site_of g) (opened g) r o
with-graph-is code numbers owners ranges functions main g r None = refl
with-graph-is code numbers owners ranges functions main g r (Some range) = refl

abbrev graphs-over : (code : List Instruction) (numbers owners : List ℕ) (ranges : List Range) (functions : List t.Function) (main : ℕ) → Site → (Words → Drawn) → Words → ℕ → Graphed
graphs-over code numbers owners ranges functions main s before w zero = graphed w [] []
graphs-over code numbers owners ranges functions main s before w (suc k) =
    with-graph code numbers owners ranges functions main s before (graphs-over code numbers owners ranges functions main s before w k) (slice_get ranges k)

graphs-over-are : (code : List Instruction) (numbers owners : List ℕ) (ranges : List Range) (functions : List t.Function) (main : ℕ) (g : Setting) (w : Words) (k : ℕ)
    → first_graphs code numbers owners ranges functions main g w k ≡ graphs-over code numbers owners ranges functions main (site_of g) (opened g) w k
graphs-over-are code numbers owners ranges functions main g w zero = refl
graphs-over-are code numbers owners ranges functions main g w (suc k) =
    with-graph-is code numbers owners ranges functions main g (first_graphs code numbers owners ranges functions main g w k) (slice_get ranges k)
    ∙ ap (λ (r : Graphed). with-graph code numbers owners ranges functions main (site_of g) (opened g) r (slice_get ranges k)) (graphs-over-are code numbers owners ranges functions main g w k)

-- the graphs of code over a setting
abbrev flows-over : (code : List Instruction) (numbers owners : List ℕ) (ranges : List Range) (functions : List t.Function) (main : ℕ) → List Cell → Site → (Words → Drawn) → Words → Flows
flows-over code numbers owners ranges functions main cells s before w =
    let r = graphs-over code numbers owners ranges functions main s before w (length ranges) in
    flows_of r.graphs cells r.words.terms r.exits main

-- of a program, over its tree's code
abbrev flows-of : t.Program → List ℕ → List Cell → Site → (Words → Drawn) → Words → Flows
flows-of tree order cells s before w =
    let code = (code_of tree order).instructions in
    let links = (code_of tree order).links in
    let main = main_or (main_number tree.functions) in
    let ranges = ranges_to (length code) (slots_in code) links (no_ranges (length tree.functions)) in
    flows-over code (numbers_to code main (length code) links) (owners_to (length code) links) ranges tree.functions main cells s before w

built-is : (x : Parts) (order : List ℕ)
    → built x order ≡ flows-of (tree_of x) order (program_setting x order).lay.cells (site_of (program_setting x order)) (opened (program_setting x order)) (first_words (program_setting x order))
built-is x order =
    let g = program_setting x order in
    let code = program_code x order in
    let links = (code_of (tree_of x) order).links in
    let main = main_or (main_number (tree_of x).functions) in
    let ranges = ranges_to (length code) (slots_in code) links (no_ranges (length (tree_of x).functions)) in
    ap (λ (r : Graphed). flows_of r.graphs g.lay.cells r.words.terms r.exits main)
    (graphs-over-are code (numbers_to code main (length code) links) (owners_to (length code) links) ranges (tree_of x).functions main g (first_words g) (length ranges))

length-viewed : (os : List Object) → length (map object_of os) ≡ length os
length-viewed [] = refl
length-viewed (o ∷ os) = ap suc (length-viewed os)

settings-alike : (x y : Parts) (order : List ℕ) → tree_of x ≡ tree_of y → Alike (program_setting x order) (program_setting y order)
settings-alike x y order e =
    let objects : map object_of x.objects ≡ map object_of y.objects = ap (λ (p : t.Program). p.objects) e in
    let model : x.model ≡ y.model = ap (λ (p : t.Program). p.model) e in
    let code : program_code x order ≡ program_code y order = ap (λ (p : t.Program). (code_of p order).instructions) e in
    record {
      objects = objects;
      count = sym (length-viewed x.objects) ∙ (ap length objects ∙ length-viewed y.objects);
      model = model;
      lay =
          lay-alike x.objects y.objects x.model (program_code x order) (slots_in (program_code x order)) objects
          ∙ (λ i. layout_of y.objects (model i) (code i) (slots_in (code i)));
    }

-- two programs of one tree have the same graphs
pub graphs_are_of_trees : (x y : Parts) (order : List ℕ) → tree_of x ≡ tree_of y → built x order ≡ built y order
graphs_are_of_trees x y order e =
    let g = program_setting x order in
    let h = program_setting y order in
    let a : Alike g h = settings-alike x y order e in
    let sites : site_of g ≡ site_of h = sites-alike g h a in
    let before : opened g ≡ opened h = opened-alike g h a in
    let cells : g.lay.cells ≡ h.lay.cells = ap (λ (l : Lay). l.cells) a.lay in
    let words : first_words g ≡ first_words h = ap (λ (l : Lay). words_of (record { cells = widths_of l.cells; terms = [] }) true) a.lay in
    built-is x order ∙ ((λ i. flows-of (e i) order (cells i) (sites i) (before i) (words i)) ∙ sym (built-is y order))
