-- Where a program's code passes, each place of each function gets its node.
use Rattle.std.proofs.Common.{◌≡◌, ◌⊎◌, inl, inr, ℕ, zero, suc, Bool, ◌+◌, ◌<◌, List, [], ◌∷◌, length, refl, sym, ap, ◌∙◌, subst, arith, Some, slice_get, take, drop}
use Rattle.std.specs.Prelude.{position}
use Rattle.std.proofs.lemmas.List.Quantifiers.{position-Some}
use Rattle.std.proofs.lemmas.Option.{none-some, slice_get_within}
use Rattle.bv_term.specs.WellFormed.{Table, IsTable}
use Rattle.c_graph.specs.declared.graph.NodeId.{NodeId}
use Rattle.c_graph.specs.declared.graph.Cell.{Cell}
use Rattle.c_graph.specs.Shape.{widths_of}
use Rattle.c_graph.specs.Functions.{FnFlow, AreFlows}
use Rattle.c_graph.specs.Parts.{flows_of}
use Rattle.c_typed.specs.Tree.{Function}
use Rattle.c_typed.specs.Parts.{Parts, tree_of}
use Rattle.slot_code.specs.declared.flat.Instruction.{Instruction}
use Rattle.slot_code.specs.declared.flat.Instruction.TheVariants as i
use Rattle.slot_code.specs.Programs.{Code, code_of}
use Rattle.slot_code.specs.Slots.{slots_in}
use Rattle.cfg_build.specs.Ranges.{AreRanges, ProgramRanges}
use Rattle.code_layout.specs.Layout.{Lay}
use Rattle.cfg_build.specs.declared.placing.Range.{Range}
use Rattle.cfg_build.specs.declared.placing.Whole.{Whole}
use Rattle.cfg_build.specs.Sizes.{nodes_of}
use Rattle.cfg_build.specs.Numbers.{first_number, numbers_to, owners_to, HasLink}
use Rattle.cfg_build.specs.Placed.{CanCall, AllCanFollow}
use Rattle.code_moves.specs.Setting.{Setting}
use Rattle.cfg_build.specs.Passing.{IsCall, IsPassing, FollowingMakesFlows}
use Rattle.cfg_build.specs.Sizes.{IsWithin}
use Rattle.cfg_build.specs.Graphs.{program_code, program_setting, FirstGraphs, ProgramFollows}
use Rattle.cfg_build.proofs.Graphing.{Tested, program-made}
use Rattle.cfg_build.proofs.Numbers.{stands-within, numbers-there, owners-there}

-- what is laid out for code that passes
pub record LaidOut (t : Parts) (order : List ℕ) (h : IsPassing t order) (w : Whole) (main : ℕ) : Type 0 where
  pub code : w.code.now ≡ program_code t order
  pub numbers : w.numbers.now ≡ numbers_to (program_code t order) main (length (program_code t order)) (code_of (tree_of t) order).links
  pub owners : w.owners.now ≡ owners_to (length (program_code t order)) (code_of (tree_of t) order).links
  pub ranges : w.ranges.now ≡ h.ranges

calls : (w : Whole) (lay : Lay) (range : Range) (x : Instruction) → ((function : ℕ) (r : Range) → slice_get w.ranges.now function ≡ Some r → slice_get w.owners.now r.entry ≡ Some function)
    → ((at goal slot : ℕ) → x ≡ i.Call at goal slot → IsCall w.ranges.now lay range goal slot) → CanCall w lay range x
calls w lay range (i.Call at goal slot) f g =
    let h = g at goal slot refl in
    record { function = h.0; begins = h.1; owner = ap (slice_get w.owners.now) (sym h.1.entry) ∙ f h.0 h.1.range h.1.there; unread = h.2 }
calls w lay range (i.Constant slot v) f h = tt
calls w lay range (i.Read slot object) f h = tt
calls w lay range (i.Element slot at object count) f h = tt
calls w lay range (i.Locate slot at object count) f h = tt
calls w lay range (i.Load slot object) f h = tt
calls w lay range (i.Store slot object) f h = tt
calls w lay range (i.Convert slot k) f h = tt
calls w lay range (i.Negate slot k at) f h = tt
calls w lay range (i.Complement slot k at) f h = tt
calls w lay range (i.Not slot) f h = tt
calls w lay range (i.Truth slot) f h = tt
calls w lay range (i.Binary slot o k at) f h = tt
calls w lay range (i.Update slot o k l at object) f h = tt
calls w lay range (i.Change slot before y k at object) f h = tt
calls w lay range (i.Draw slot k) f h = tt
calls w lay range (i.Fill object k count) f h = tt
calls w lay range (i.Begin slot object count values) f h = tt
calls w lay range (i.Bind slot object) f h = tt
calls w lay range (i.Jump skip) f h = tt
calls w lay range (i.Turn at goal) f h = tt
calls w lay range (i.SkipZero slot skip) f h = tt
calls w lay range (i.SkipEqual slot v skip) f h = tt
calls w lay range (i.Return slot) f h = tt
calls w lay range (i.Take slot at from needed) f h = tt
calls w lay range (i.Fail kind at) f h = tt
calls w lay range i.Stop f h = tt

-- the instruction at a place of the code
pub instruction-there : (code : List Instruction) (place : ℕ) → place < length code → (x : Instruction) × (slice_get code place ≡ Some x)
instruction-there [] place lt = absurd (omega (arith, lt))
instruction-there (x ∷ xs) zero lt = (x, refl)
instruction-there (x ∷ xs) (suc place) lt = instruction-there xs place (omega (arith, lt))

pub all-can-follow : (t : Parts) (order : List ℕ) (h : IsPassing t order) (w : Whole) (main : ℕ) → LaidOut t order h w main → AllCanFollow w (program_setting t order).lay main
all-can-follow t order h w main l k range there =
    let code : List Instruction = program_code t order in
    let links = (code_of (tree_of t) order).links in
    let stood : slice_get h.ranges k ≡ Some range = ap (λ rs. slice_get rs k) (sym l.ranges) ∙ there in
    let below : k < length (tree_of t).functions = omega (arith, slice_get_within h.ranges k range stood, h.many) in
    let has : HasLink links k = h.linked k below in
    let end : ℕ = length code in
    let within = stands-within end _ links h.ranges k range h.stand has stood in
    record {
      each = λ j lt.
          let place : ℕ = range.entry + j in
          let inside : place < range.end = omega (arith, lt) in
          let x = instruction-there code place (omega (arith, inside, within.within)) in
          let called : (at goal slot : ℕ) → x.0 ≡ i.Call at goal slot → IsCall w.ranges.now (program_setting t order).lay range goal slot =
          λ at goal slot q. subst (λ rs. IsCall rs (program_setting t order).lay range goal slot) (sym l.ranges) (h.call k place at goal slot range stood (omega arith) inside (x.1 ∙ ap Some q)) in
          let owns : (function : ℕ) (r : Range) → slice_get w.ranges.now function ≡ Some r → slice_get w.owners.now r.entry ≡ Some function =
          λ function r e.
          let e2 : slice_get h.ranges function ≡ Some r = ap (λ rs. slice_get rs function) (sym l.ranges) ∙ e in
          let lt2 : function < length (tree_of t).functions = omega (arith, slice_get_within h.ranges function r e2, h.many) in
          ap (λ os. slice_get os r.entry) l.owners ∙ owners-there end _ links h.ranges function r h.stand (h.linked function lt2) e2 in (
            x.0,
            record {
              there = ap (λ xs. slice_get xs place) l.code ∙ x.1;
              number = subst (λ (xs : List Instruction). slice_get w.numbers.now place ≡ Some (first_number main range.function + nodes_of (take j (drop range.entry xs)))) (sym l.code)
                  (ap (λ ns. slice_get ns place) l.numbers ∙ numbers-there code main end _ links h.ranges k range j h.stand (omega arith) has stood lt);
              kept = h.keep k place range x.0 stood (omega arith) inside x.1;
              calls = calls w (program_setting t order).lay range x.0 owns called;
            },
          );
      last = refl;
    }

-- ---- The graphs of a program that passes

pub position-below : (p : Function → Bool) (xs : List Function) (n : ℕ) → position p xs ≡ Some n → n < length xs
position-below p [] n e = absurd (none-some n e)
position-below p (x ∷ xs) n e = (position-Some p (x ∷ xs) n x e).0

-- graphs that are there follow
pub must-follow : (gs : List FnFlow) (A : Type 0) → (gs ≡ []) ⊎ A → 0 < length gs → A
must-follow gs A (inl none) lt = absurd (omega (arith, ap length none, lt))
must-follow gs A (inr made) lt = made

pub some-function : (t : Parts) (order : List ℕ) (h : IsPassing t order) → h.main < length h.ranges
some-function t order h = let lt = position-below _ (tree_of t).functions h.main h.is_main in omega (arith, lt, h.many)

-- the number of main is one of 32 bits
pub few-functions : (t : Parts) (order : List ℕ) (h : IsPassing t order) → IsWithin t order → h.main < 4294967296
few-functions t order h within = omega (arith, some-function t order h, h.many, within.nodes)

pub program-whole : (t : Parts) (order : List ℕ) (law : FollowingMakesFlows) (h : IsPassing t order) (within : IsWithin t order) (numbers : List ℕ) (s : Setting) (gs : List FnFlow) (xs : List NodeId) (cells : List Cell) (T : Table)
    → length gs ≡ length h.ranges → FirstGraphs (program_code t order) numbers h.ranges h.main s T (length h.ranges) gs xs → s ≡ program_setting t order → cells ≡ s.lay.cells
    → length (program_code t order) < 18446744073709551616 → IsTable T → T.cells ≡ widths_of cells
    → ProgramFollows t order (flows_of gs cells T xs h.main) × AreFlows (flows_of gs cells T xs h.main)
program-whole t order law h within numbers s gs xs cells T n k q f short table wide =
    let tested : Tested t order h.ranges h.main = record { number = h.is_main; stand = h.stand; fit = h.fit; enters = h.enters; short = short } in
    let follows = program-made t order (program_code t order) numbers h.ranges s gs xs cells T h.main tested k q refl f in
    (follows, law t order (flows_of gs cells T xs h.main) within follows (n ∙ h.many) table wide)

-- ranges of the program's code are those of code that is the program's
pub ranges-back : (t : Parts) (order : List ℕ) (code : Code) (slots : ℕ) (ranges : List Range) → code ≡ code_of (tree_of t) order → slots ≡ slots_in (program_code t order)
    → ProgramRanges t order ranges → AreRanges (length code.instructions) slots code.links ranges
ranges-back t order code slots ranges e f h =
    subst (λ n. AreRanges (length code.instructions) n code.links ranges) (sym f)
    (subst (λ (c : Code). AreRanges (length c.instructions) (slots_in (program_code t order)) c.links ranges) (sym e) h)
