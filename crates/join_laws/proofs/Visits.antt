-- Cells that are needed at a node are read from there on by the plan, and visits that stay.
use Rattle.std.proofs.Common.{◌≡◌, ℕ, ℤ, ◌<◌, ◌==◌, ◌&&◌, ◌||◌, inl, inr, Bool, true, false, not, List, [], ◌∷◌, ◌++◌, refl, sym, ap, ◌∙◌, subst, length, slice_get, slice_set}
use Rattle.std.proofs.lemmas.Bool.{cases_Bool, ne_eqb}
use Rattle.bv_term.specs.declared.term.TermId.{TermId}
use Rattle.bv_term.specs.WellFormed.{Table}
use Rattle.c_graph.specs.declared.graph.NodeId.{NodeId}
use Rattle.c_graph.specs.declared.graph.EdgeId.{EdgeId}
use Rattle.c_graph.specs.declared.graph.Operation.{Operation}
use Rattle.c_graph.specs.declared.graph.Operation.TheVariants.{Assume, Set, SetAt, Draw}
use Rattle.c_graph.specs.Shape.{Flow, IsFlow}
use Rattle.c_graph.specs.Runs.{RunsAlong}
use Rattle.c_graph.proofs.Keeping.{edge-fits}
use Rattle.block_rule.specs.Plans.{Plan, IsError}
use Rattle.block_rule.specs.Blocked.{Agree, ReadsAll, read_before, read_before_all, IsPlan}
use Rattle.block_laws.proofs.Lists.{false-true, set-other}
use Rattle.block_laws.proofs.Blocks.{both-true, plain-error}
use Rattle.block_laws.proofs.Runs.{follows-to}
use Rattle.edge_chain_laws.proofs.Along.{chains_keep_visits}
use Rattle.join_laws.specs.Visits.{BlocksKeepLive, BlocksKeepLoops, ChainsKeepLoops, PlansMarkNeeded, Depends, IsGoal, IsNeeded, IsPath, ReadsCell, ReadsFirst, SetsCell}

or-one : (a b : Bool) → a ≡ true → (a || b) ≡ true
or-one true b e = refl
or-one false b e = absurd (false-true e)

or-other : (a b : Bool) → b ≡ true → (a || b) ≡ true
or-other true b e = refl
or-other false b e = e

-- a term is said to read each cell on which it depends
module _ (table : Table) (plan : Plan) (n : ℕ) (reads : ReadsAll table n plan) (c : ℕ) (lt : c < n) where
  depends-reads : (t : TermId) → Depends table t c → plan.reads t.0 c ≡ true
  depends-reads t (s, (x, differ)) = elim (cases_Bool (plan.reads t.0 c)) [
    | inl y ↦ y
    | inr y ↦
        let agree : Agree n (plan.reads t.0) s (slice_set s c x) = λ d less marked. set-other s c x d (λ e. false-true (sym y ∙ ap (plan.reads t.0) (sym e) ∙ marked)) in
        absurd (differ (reads t s (slice_set s c x) agree))
  ]

  kept-read : (later : ℕ → Bool) (d : ℕ) → (d ≡ c → ⊥) → later c ≡ true → (later c && not (c == d)) ≡ true
  kept-read later d ne y = both-true (later c) (not (c == d)) y (ap not (ne_eqb c d (λ e. ne (sym e))))

  -- what an operation reads, or leaves and something behind it reads
  one-reads : (later : ℕ → Bool) (op : Operation) → ReadsCell table op c → read_before plan later op c ≡ true
  one-reads later (Assume t) r = or-one (plan.reads t.0 c) (later c) (depends-reads t r)
  one-reads later (Set d t) r = or-one (plan.reads t.0 c) (later c && not (c == d)) (depends-reads t r)
  one-reads later (SetAt first m i t) (inl r) = or-one (plan.reads i.0 c) (plan.reads t.0 c || later c) (depends-reads i r)
  one-reads later (SetAt first m i t) (inr r) =
      or-other (plan.reads i.0 c) (plan.reads t.0 c || later c) (or-one (plan.reads t.0 c) (later c) (depends-reads t r))
  one-reads later (Draw d signed) r = absurd r

  one-leaves : (later : ℕ → Bool) (op : Operation) → (SetsCell op c → ⊥) → later c ≡ true → read_before plan later op c ≡ true
  one-leaves later (Assume t) keeps y = or-other (plan.reads t.0 c) (later c) y
  one-leaves later (Set d t) keeps y = or-other (plan.reads t.0 c) (later c && not (c == d)) (kept-read later d keeps y)
  one-leaves later (SetAt first m i t) keeps y = or-other (plan.reads i.0 c) (plan.reads t.0 c || later c) (or-other (plan.reads t.0 c) (later c) y)
  one-leaves later (Draw d signed) keeps y = kept-read later d keeps y

  all-read : (later : ℕ → Bool) (xs ys : List Operation) → (ReadsFirst table ys c → later c ≡ true) → ReadsFirst table (xs ++ ys) c
      → read_before_all plan later xs c ≡ true
  all-read later [] ys behind r = behind r
  all-read later (op ∷ xs) ys behind (inl r) = one-reads (read_before_all plan later xs) op r
  all-read later (op ∷ xs) ys behind (inr (keeps, r)) = one-leaves (read_before_all plan later xs) op keeps (all-read later xs ys behind r)

module _ (g : Flow) (plan : Plan) (is : IsPlan g plan) where
  goal-alive : (w : ℕ) → IsGoal g w → plan.alive w ≡ true
  goal-alive w (inl (kind, (at, error))) = is.errors w kind at error
  goal-alive w (inr (k, (l, there, same))) = ap plan.alive (sym same) ∙ (is.loops k l there).1

  path-alive : (path : List EdgeId) (v w : ℕ) (ops : List Operation) → IsGoal g w → IsPath g path v w ops → plan.alive v ≡ true
  path-alive [] v w ops end (same, none) = ap plan.alive same ∙ goal-alive w end
  path-alive (k ∷ path) v w ops end (e, there, from, (rest, split, more)) =
      ap plan.alive (sym from) ∙ is.lives k.0 e there (path-alive path e.to.0 w rest end more)

  -- a cell that is needed at a node that is reached is read from there on
  needed-live : (c : ℕ) → c < length g.cells → (path : List EdgeId) (v w : ℕ) (ops : List Operation) → plan.reached v ≡ true → IsGoal g w → IsPath g path v w ops
      → ReadsFirst g.terms ops c → plan.live v c ≡ true
  needed-live c lt [] v w ops reached end (same, none) r = absurd (subst (λ (xs : List Operation). ReadsFirst g.terms xs c) none r)
  needed-live c lt (k ∷ path) v w ops reached end (e, there, from, (rest, split, more)) r =
      let reached2 : plan.reached e.to.0 ≡ true = is.reaches k.0 e there (ap plan.reached from ∙ reached) in
      let alive : plan.alive e.to.0 ≡ true = path-alive path e.to.0 w rest end more in
      let first : ReadsFirst g.terms (e.ops ++ rest) c = subst (λ (xs : List Operation). ReadsFirst g.terms xs c) split r in
      let read : read_before_all plan (plan.live e.to.0) e.ops c ≡ true =
      all-read g.terms plan (length g.cells) is.terms c lt (plan.live e.to.0) e.ops rest (λ q. needed-live c lt path e.to.0 w rest reached2 end more q) first in
      ap (λ (x : ℕ). plan.live x c) (sym from) ∙ is.flows k.0 e there (both-true (plan.reached e.to.0) (plan.alive e.to.0) reached2 alive) c read

  reached-along : (path : List EdgeId) (v : NodeId) (s : List ℕ) (draws : List ℤ) (w : NodeId) (after : List ℕ) → plan.reached v.0 ≡ true
      → RunsAlong g path v s draws w after → plan.reached w.0 ≡ true
  reached-along [] v s draws w after reached (same, stays, none) = ap (λ (x : NodeId). plan.reached x.0) (sym same) ∙ reached
  reached-along (k ∷ path) v s draws w after reached (e, there, from, (mid, first, rest, split, leads, run)) =
      reached-along path e.to mid rest w after (is.reaches k.0 e there (ap (λ (x : NodeId). plan.reached x.0) from ∙ reached)) run

-- nothing is needed at an error
error-needs : (g : Flow) → IsFlow g → (v c : ℕ) → IsError g v → IsNeeded g v c → ⊥
error-needs g flow v c error ([], (w, (ops, (same, none), end, r))) = subst (λ (xs : List Operation). ReadsFirst g.terms xs c) none r
error-needs g flow v c error (k ∷ path, (w, (ops, (e, there, from, more), end, r))) =
    plain-error g v (ap (slice_get g.nodes) (sym from) ∙ (edge-fits g k.0 e flow there).from) error

pub blocks_keep_loops : BlocksKeepLoops
blocks_keep_loops g h plan flow wide is draws k l after there run =
    let (cut, alive) = is.planned.loops k l there in
    let (end, runs, arrived) = follows-to g h plan draws l.node after flow wide is run alive (inr cut) in
    let (path, store, whole, along) = run in
    let reached : plan.reached l.node.0 ≡ true = reached-along g plan is.planned path g.entry store draws l.node after is.planned.entry along in (
      end,
      (
        runs,
        λ c lt needed. elim arrived [
          | inl error ↦ absurd (error-needs g flow l.node.0 c error needed)
          | inr agree ↦
              let (way, (w, (ops, leads, goal, r))) = needed in
              agree c lt (needed-live g plan is.planned c lt way l.node.0 w ops reached goal leads r)
        ],
      ),
    )

pub blocks_keep_live : BlocksKeepLive
blocks_keep_live g h plan flow wide is draws k l after there run =
    let (cut, alive) = is.planned.loops k l there in
    let (end, runs, arrived) = follows-to g h plan draws l.node after flow wide is run alive (inr cut) in
    (end, (runs, arrived))

pub plans_mark_needed : PlansMarkNeeded
plans_mark_needed g h plan is draws k l after there run c lt needed =
    let (path, store, whole, along) = run in
    let reached : plan.reached l.node.0 ≡ true = reached-along g plan is.planned path g.entry store draws l.node after is.planned.entry along in
    let (way, (w, (ops, leads, goal, r))) = needed in
    needed-live g plan is.planned c lt way l.node.0 w ops reached goal leads r

pub chains_keep_loops : ChainsKeepLoops
chains_keep_loops g edges is draws k l after there run = chains_keep_visits g edges draws k l after is there run
