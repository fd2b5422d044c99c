-- A loop of main, of whose turns one stands in main.
use Rattle.std.proofs.Common.{◌≡◌, ℕ, nat_le, nat_lt, true, ap, ◌∙◌, sym, subst, List, Some, slice_get}
use Rattle.std.proofs.lemmas.Bool.{and_from, and_parts, le-leb, lt-ltb}
use Rattle.std.proofs.lemmas.Option.{same_Some}
use Rattle.slot_code.specs.declared.flat.Instruction.{Instruction}
use Rattle.slot_code.specs.declared.flat.Instruction.TheVariants as i
use Rattle.cfg_build.specs.Keeping.{is_inside, stays, is_own, filled_by, keeps}
use Rattle.cfg_build.specs.Graphs.{program_code, program_setting}
use Rattle.code_flow_laws.proofs.Graphs.{function-of, place-of, is-node, node-of}
use Rattle.cfg_build.specs.Steps.{node_id}
use Rattle.cfg_build.specs.Follows.{node_of}
use Rattle.loop_turns.specs.Turning.{OnlyTurn}
use Rattle.loop_visit_laws.specs.Loops.{LoopsTurn}

pub loops-turn : LoopsTurn
loops-turn t order p f q l m h =
    let code = program_code t order in
    let within : is_inside q.range h.place ≡ true =
    and_from (nat_le q.range.entry h.place) (nat_lt h.place q.range.end) (le-leb q.range.entry h.place h.not_before) (lt-ltb h.place q.range.end h.not_behind) in
    let main = function-of code f.numbers f.ranges p.main (program_setting t order) p.terms p.graphs p.exits p.main q.range f.follow m.range in
    let place = place-of code f.numbers f.ranges p.main (program_setting t order) p.terms p.graphs p.exits p.main q.range main h.place within in
    let turns : slice_get code h.place ≡ Some (i.Turn l.at h.goal) = subst (λ (xs : List Instruction). slice_get xs h.place ≡ Some (i.Turn l.at h.goal)) m.code h.turns in
    let same : place.stands.instruction ≡ i.Turn l.at h.goal = same_Some place.stands.instruction (i.Turn l.at h.goal) (sym place.stands.there ∙ turns) in
    let kept : keeps q.range h.place (i.Turn l.at h.goal) ≡ true = subst (λ (x : Instruction). keeps q.range h.place x ≡ true) same place.stands.kept in
    let inside : is_inside q.range h.goal ≡ true = (and_parts (stays q.range h.place (i.Turn l.at h.goal)) (is_own q.range (filled_by (i.Turn l.at h.goal))) kept).0 in
    let (number, numbered, node) = is-node code f.numbers f.ranges p.main (program_setting t order) p.terms p.graphs p.exits p.main q.range main h.goal inside in
    let named : node_of q h.goal ≡ node_id number = node-of q.code q.numbers q.ranges p.main (program_setting t order) p.terms q.range q.exit h.goal number inside (ap (λ (ns : List ℕ). slice_get ns h.goal) m.numbers ∙ numbered) in
    record {
      plan = q;
      main = m;
      goal = h.goal;
      inside = inside;
      only = subst (λ (xs : List Instruction). OnlyTurn xs l.at h.goal) m.code h.only;
      number = number;
      numbered = numbered;
      node = h.node ∙ named;
    }
