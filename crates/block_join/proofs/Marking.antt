-- Cells that hold the same at the nodes of loops.
use Rattle.std.proofs.Common.{Bool, true, false, ℕ, ◌<◌, ◌≡◌, inl, inr, List, length, refl, ap, ◌∙◌, sym, subst, slice_get}
use Rattle.std.specs.Prelude.{nat_lt, ◌&&◌}
use Rattle.std.proofs.lemmas.Bool.{lt-ltb, ltb-true}
use Rattle.c_graph.specs.declared.graph.Cell.{Cell}
use Rattle.c_graph.specs.declared.graph.LoopAt.{LoopAt}
use Rattle.c_graph.specs.Shape.{Flow}
use Rattle.join_laws.specs.Visits.{KeepsMarked, KeepsStores, MarksNeeded}
use Rattle.block_join.specs.declared.live.LiveCells.{LiveCells}
use Rattle.block_join.specs.Living.{live_at, live_by, MarksWithin}

pub stores-marked : (marks : ℕ → ℕ → Bool) (g h : Flow) → KeepsStores g h → KeepsMarked marks g h
stores-marked marks g h stores draws k l after there run = (after, (stores draws k l after there run, inr (λ c lt marked. refl)))

pub marked-on : (marks : ℕ → ℕ → Bool) (g b h : Flow) → b.loops ≡ g.loops → KeepsMarked marks g b → KeepsStores b h → KeepsMarked marks g h
marked-on marks g b h loops first second draws k l after there run =
    let (end, (mid, agree)) = first draws k l after there run in
    (end, (second draws k l end (ap (λ (x : List LoopAt). slice_get x k) loops ∙ there) mid, agree))

-- where fewer cells are marked
pub fewer-marked : (marks fewer : ℕ → ℕ → Bool) (g h : Flow) → ((node c : ℕ) → fewer node c ≡ true → marks node c ≡ true) → KeepsMarked marks g h → KeepsMarked fewer g h
fewer-marked marks fewer g h less keeps draws k l after there run =
    let (end, (to, arrived)) = keeps draws k l after there run in
    (end, (to, elim arrived [ inl error ↦ inl error | inr agree ↦ inr (λ c lt marked. agree c lt (less l.node.0 c marked)) ]))

both-true : (a b : Bool) → (a && b) ≡ true → (a ≡ true) × (b ≡ true)
both-true true true e = (refl, refl)
both-true true false e = absurd cc
both-true false b e = absurd cc

-- a live cell is one of the first graph, and one that the plan says to be read
pub live-read : (l : LiveCells) (g h : Flow) → KeepsMarked (live_by l.known) g h → KeepsMarked (live_at l) g h
live-read l g h = fewer-marked (live_by l.known) (live_at l) g h (λ node c live. (both-true (nat_lt c l.count) (live_by l.known node c) live).1)

pub live-within : (l : LiveCells) (cells : List Cell) → l.count ≡ length cells → MarksWithin (live_at l) cells
live-within l cells all node c live =
    subst (λ (n : ℕ). c < n) all (ltb-true c l.count (both-true (nat_lt c l.count) (live_by l.known node c) live).0)

true-both : (a b : Bool) → a ≡ true → b ≡ true → (a && b) ≡ true
true-both a b first second = ap (λ (x : Bool). x && b) first ∙ second

-- what the plan says of needed cells holds of live ones, since those are cells of the graph
pub live-needed : (l : LiveCells) (g : Flow) → l.count ≡ length g.cells → MarksNeeded (live_by l.known) g → MarksNeeded (live_at l) g
live-needed l g all marks draws k at after there run c lt needed =
    let few : c < l.count = subst (λ (n : ℕ). c < n) (sym all) lt in
    true-both (nat_lt c l.count) (live_by l.known at.node.0 c) (lt-ltb c l.count few) (marks draws k at after there run c lt needed)
