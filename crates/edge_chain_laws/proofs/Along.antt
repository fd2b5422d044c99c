-- A run, and what is left of the joined edge on which it stands.
use Rattle.std.proofs.Common.{◌≡◌, ℕ, ℤ, true, false, List, [], ◌∷◌, ◌++◌, Option, Some, None, refl, sym, ap, ◌∙◌, subst, suc, zero, append_assoc}
use Rattle.bv_term.specs.WellFormed.{Table}
use Rattle.c_graph.specs.declared.graph.NodeId.{NodeId}
use Rattle.c_graph.specs.declared.graph.EdgeId.{EdgeId}
use Rattle.c_graph.specs.declared.graph.Edge.{Edge}
use Rattle.c_graph.specs.declared.graph.Operation.{Operation}
use Rattle.c_graph.specs.Shape.{Flow, widths_of}
use Rattle.c_graph.specs.Steps.{IsWhole, Moment, moment, operated, operated_all}
use Rattle.c_graph.specs.Runs.{RunsAlong, RunsTo}
use Rattle.graph_walk_laws.proofs.Consuming.{more_left}
use Rattle.edge_chains.specs.Joining.{Follows, IsJoined}
use Rattle.edge_chain_laws.specs.Keeping.{ChainsKeepErrors, ChainsKeepVisits, with_edges}

none_stays : (table : Table) (ops : List Operation) → operated_all table ops None ≡ None
none_stays table [] = refl
none_stays table (op ∷ ops) = refl

-- operations after operations
operated-append : (table : Table) (xs ys : List Operation) (r : Option Moment) → operated_all table (xs ++ ys) r ≡ operated_all table ys (operated_all table xs r)
operated-append table xs ys None = none_stays table (xs ++ ys) ∙ sym (none_stays table ys) ∙ ap (operated_all table ys) (sym (none_stays table xs))
operated-append table [] ys (Some m) = refl
operated-append table (op ∷ xs) ys (Some m) = operated-append table xs ys (operated table op m)

-- two lists of operations, each with what it draws
both : (table : Table) (xs ys : List Operation) (s mid after : List ℕ) (first more : List ℤ)
    → operated_all table xs (Some (moment s first)) ≡ Some (moment mid []) → operated_all table ys (Some (moment mid more)) ≡ Some (moment after [])
    → operated_all table (xs ++ ys) (Some (moment s (first ++ more))) ≡ Some (moment after [])
both table xs ys s mid after first more h k =
    operated-append table xs ys (Some (moment s (first ++ more)))
    ∙ ap (operated_all table ys) (more_left table xs (moment s first) (moment mid []) more h) ∙ k

-- what is left of a joined edge is done, and the run goes on along joined edges
abbrev pub Rests : Flow → List Edge → List Operation → NodeId → List ℕ → List ℤ → NodeId → List ℕ → Type 0
Rests g new rest to s draws w after =
    (first : List ℤ) × (later : List ℤ) × (mid : List ℕ) × (draws ≡ first ++ later)
    × (operated_all g.terms rest (Some (moment s first)) ≡ Some (moment mid []))
    × ((path : List EdgeId) × RunsAlong (with_edges g new) path to mid later w after)

rests : (g : Flow) (new : List Edge) (i : IsJoined g.nodes g.loops g.entry g.edges new) (path : List EdgeId) (n : ℕ) (rest : List Operation) (v to : NodeId)
    (s : List ℕ) (draws : List ℤ) (w : NodeId) (after : List ℕ)
    → i.inner w.0 ≡ false → Follows i.inner g.edges n v rest to → RunsAlong g path v s draws w after → Rests g new rest to s draws w after
rests g new i [] zero rest v to s draws w after last (kept, nothing, goal) (same, stays, none) = (
  [],
  [],
  s,
  none,
  ap (λ o. operated_all g.terms o (Some (moment s []))) nothing,
  ([], (sym goal ∙ same, stays, refl)),
)
rests g new i [] (suc n) rest v to s draws w after last (gives, more) (same, stays, none) =
    absurd (let z : true ≡ false = sym gives ∙ ap (λ (x : NodeId). i.inner x.0) same ∙ last in cc)
rests g new i (e ∷ path) zero rest v to s draws w after last (kept, nothing, goal) (edge, is, from, (mid, first, later, split, leads, run)) =
    let kept2 : i.inner edge.from.0 ≡ false = ap (λ (x : NodeId). i.inner x.0) from ∙ kept in
    let (f, there, (n, more, f_from, f_ops, follows)) = i.kept edge (e.0, is) kept2 in
    let (d, last_draws, end, d_split, done, (onwards, tail)) = rests g new i path n more edge.to f.to mid later w after last follows run in
    let id : EdgeId = record { 0 = there.0 } in
    let all : operated_all g.terms f.ops (Some (moment s (first ++ d))) ≡ Some (moment end []) =
    ap (λ o. operated_all g.terms o (Some (moment s (first ++ d)))) f_ops ∙ both g.terms edge.ops more s mid end first d leads done in
    let whole : draws ≡ (first ++ d) ++ last_draws = split ∙ ap (λ z. first ++ z) d_split ∙ sym (append_assoc first d last_draws) in (
      [],
      draws,
      s,
      refl,
      ap (λ o. operated_all g.terms o (Some (moment s []))) nothing,
      (id ∷ onwards, (f, there.1, f_from ∙ from ∙ goal, (end, first ++ d, last_draws, whole, all, tail))),
    )
rests g new i (e ∷ path) (suc n) rest v to s draws w after last (gives, (x, more, only, parts, follows)) (edge, is, from, (mid, first, later, split, leads, run)) =
    let one : edge ≡ x = only.2 edge (e.0, is) from in
    let follows2 : Follows i.inner g.edges n edge.to more to = subst (λ (z : Edge). Follows i.inner g.edges n z.to more to) (sym one) follows in
    let (d, last_draws, end, d_split, done, onwards) = rests g new i path n more edge.to to mid later w after last follows2 run in
    let ops : rest ≡ edge.ops ++ more = parts ∙ ap (λ (z : Edge). z.ops ++ more) (sym one) in (
      first ++ d,
      last_draws,
      end,
      split ∙ ap (λ z. first ++ z) d_split ∙ sym (append_assoc first d last_draws),
      ap (λ o. operated_all g.terms o (Some (moment s (first ++ d)))) ops ∙ both g.terms edge.ops more s mid end first d leads done,
      onwards,
    )

-- a run to a node that is kept
runs-on : (g : Flow) (new : List Edge) (i : IsJoined g.nodes g.loops g.entry g.edges new) (draws : List ℤ) (v : NodeId) (after : List ℕ)
    → i.inner v.0 ≡ false → RunsTo g draws v after → RunsTo (with_edges g new) draws v after
runs-on g new i draws v after kept (path, store, whole, run) =
    let begins : Follows i.inner g.edges zero g.entry [] g.entry = (i.entry, refl, refl) in
    let (first, later, mid, split, done, (onwards, tail)) = rests g new i path zero [] g.entry g.entry store draws v after kept begins run in
    let same : moment store first ≡ moment mid [] = cc in
    let stays : store ≡ mid = ap (λ (m : Moment). m.store) same in
    let none : first ≡ [] = ap (λ (m : Moment). m.inputs) same in
    let all : later ≡ draws = sym (split ∙ ap (λ z. z ++ later) none) in (
      onwards,
      mid,
      subst (λ z. IsWhole (widths_of g.cells) z) stays whole,
      subst (λ zs. RunsAlong (with_edges g new) onwards g.entry mid zs v after) all tail,
    )

pub chains_keep_errors : ChainsKeepErrors
chains_keep_errors g new draws v after kind at i run error = runs-on g new i draws v after (i.errors v kind at error) run

pub chains_keep_visits : ChainsKeepVisits
chains_keep_visits g new draws k l after i there run = runs-on g new i draws l.node after (i.loops k l there) run
