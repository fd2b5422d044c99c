use Rattle.std.proofs.Common.{◌≡◌, ◌<◌, ◌∙◌, ◌++◌, ◌∷◌, [], ap, sym, subst, length, List, refl, arith, false, true, ℕ, ◌≤◌}
use Rattle.reach_tree.specs.declared.vertex.Vertex.{Vertex}
use Rattle.cover_engine.specs.declared.unit.UnitDone.TheVariants.{CoverYes}
use Rattle.cover_engine.specs.Unwindings.{Pair, Unwound, has, path_of}
use Rattle.cover_engine.specs.Units.{pairs_but_under}
use Rattle.cover_engine.specs.Caches.{AreInside, IsFamily, below, below_lefts, pairs_under, times}
use Rattle.std.proofs.lemmas.List.Elements.{All-push}
use Rattle.cover_engine.proofs.Kept.{cover_enough, cover_lowers, cover_raises, cover_room, kept_covered, noted_covered}
use Rattle.cover_engine.specs.Openings.{AreWaiting, waits}
use Rattle.cover_engine.proofs.Waits.{waiting_falls, waiting_rises}
use Rattle.reach_tree.specs.Trees.{vertex_at}
use Rattle.cover_engine.proofs.Onto.{but_under_push, under_push}
use Rattle.cover_engine.proofs.UnitLemmas.{legal-after, made_cover, pair-apart}
use Rattle.cover_engine.proofs.unwinding.Unwinding.cover_yes.Goals as goal

pub fallen_under-requires-clause-inside : goal.fallen_under-requires-clause-inside
fallen_under-requires-clause-inside c = subst (λ (vs : List Vertex). AreInside vs c.self.inside.pairs) (sym c.vertices-vertices.ensures.value) c.self.invariant.0.inside

pub lower-requires-clause-inside : goal.lower-requires-clause-inside
lower-requires-clause-inside c =
    let low : c.deref-in-Ok.result.now ≡ below_lefts c.self.inside.tree.vertices (pairs_under c.self.inside.tree.vertices c.args.v c.self.inside.pairs) =
    c.deref-in-Ok.ensures.value ∙ c.in_ok-lowered.ensures ∙ ap (λ (vs : List Vertex). below_lefts vs c.deref-2.result.now) c.vertices-vertices.ensures.value
    ∙ ap (below_lefts c.self.inside.tree.vertices) (c.deref-2.ensures.value ∙ c.in_ok-fallen.ensures ∙ ap (λ (vs : List Vertex). pairs_under vs c.args.v c.self.inside.pairs) c.vertices-vertices.ensures.value) in
    cover_lowers c.self.inside.tree.vertices c.self.inside.pairs c.self.inside.journal.items c.self.inside.apart.items c.self.inside.covers.items c.self.inside.refines c.self.inside.settled c.self.invariant.0 c.args.v c.deref-in-Ok.result.now low

pub lower-requires-clause-enough : goal.lower-requires-clause-enough
lower-requires-clause-enough c =
    let low : c.deref-in-Ok.result.now ≡ below_lefts c.self.inside.tree.vertices (pairs_under c.self.inside.tree.vertices c.args.v c.self.inside.pairs) =
    c.deref-in-Ok.ensures.value ∙ c.in_ok-lowered.ensures ∙ ap (λ (vs : List Vertex). below_lefts vs c.deref-2.result.now) c.vertices-vertices.ensures.value
    ∙ ap (below_lefts c.self.inside.tree.vertices) (c.deref-2.ensures.value ∙ c.in_ok-fallen.ensures ∙ ap (λ (vs : List Vertex). pairs_under vs c.args.v c.self.inside.pairs) c.vertices-vertices.ensures.value) in
    cover_enough c.self.inside.tree.vertices c.self.inside.pairs c.self.inside.journal.items c.self.inside.apart.items c.self.inside.covers.items c.self.inside.refines c.self.inside.settled c.self.invariant.0 c.args.v c.deref-in-Ok.result.now low

pub raise-requires-clause-inside : goal.raise-requires-clause-inside
raise-requires-clause-inside c =
    let lv : c.args.v.0 < length c.self.inside.tree.vertices = subst (λ (u : Unwound). c.args.v.0 < length u.vertices) (sym c.self.view_is) c.requires.left in
    let high : c.deref-in-Ok-2.result.now ≡ below c.self.inside.tree.vertices c.args.v.0 = c.deref-in-Ok-2.ensures.value ∙ c.in_ok-raised.ensures ∙ ap (λ (vs : List Vertex). below vs c.args.v.0) c.vertices-vertices.ensures.value in
    cover_raises c.self.inside.tree.vertices c.self.inside.pairs c.self.inside.journal.items c.self.inside.apart.items c.self.inside.covers.items c.self.inside.refines c.self.inside.settled c.self.invariant.0 c.args.v.0 c.deref-in-Ok-2.result.now c.lower.new.counts.items lv high c.lower.ensures.sized

pub raise-requires-clause-room : goal.raise-requires-clause-room
raise-requires-clause-room c =
    let lv : c.args.v.0 < length c.self.inside.tree.vertices = subst (λ (u : Unwound). c.args.v.0 < length u.vertices) (sym c.self.view_is) c.requires.left in
    let low : c.deref-in-Ok.result.now ≡ below_lefts c.self.inside.tree.vertices (pairs_under c.self.inside.tree.vertices c.args.v c.self.inside.pairs) =
    c.deref-in-Ok.ensures.value ∙ c.in_ok-lowered.ensures ∙ ap (λ (vs : List Vertex). below_lefts vs c.deref-2.result.now) c.vertices-vertices.ensures.value
    ∙ ap (below_lefts c.self.inside.tree.vertices) (c.deref-2.ensures.value ∙ c.in_ok-fallen.ensures ∙ ap (λ (vs : List Vertex). pairs_under vs c.args.v c.self.inside.pairs) c.vertices-vertices.ensures.value) in
    let high : c.deref-in-Ok-2.result.now ≡ below c.self.inside.tree.vertices c.args.v.0 = c.deref-in-Ok-2.ensures.value ∙ c.in_ok-raised.ensures ∙ ap (λ (vs : List Vertex). below vs c.args.v.0) c.vertices-vertices.ensures.value in
    cover_room c.self.inside.tree.vertices c.self.inside.pairs c.self.inside.journal.items c.self.inside.apart.items c.self.inside.covers.items c.self.inside.refines c.self.inside.settled c.self.invariant.0 c.args.v c.deref-in-Ok.result.now c.deref-in-Ok-2.result.now c.lower.new.counts.items lv (omega arith) low high c.lower.ensures.sized c.lower.ensures.lowered

pub drop_under-requires-clause-inside : goal.drop_under-requires-clause-inside
drop_under-requires-clause-inside c =
    let lv : c.args.v.0 < length c.self.inside.tree.vertices = subst (λ (u : Unwound). c.args.v.0 < length u.vertices) (sym c.self.view_is) c.requires.left in
    let lw : c.args.w.0 < length c.self.inside.tree.vertices = subst (λ (u : Unwound). c.args.w.0 < length u.vertices) (sym c.self.view_is) c.requires.right in
    subst (λ (vs : List Vertex). AreInside vs c.push.new.self) (sym c.vertices.ensures.value) (subst (AreInside c.self.inside.tree.vertices) (sym c.in_ok-push.ensures.pushed)
    (All-push (λ (p : Pair). (p.0.0 < length c.self.inside.tree.vertices) × (p.1.0 < length c.self.inside.tree.vertices)) c.self.inside.pairs (c.args.v, c.args.w) c.self.invariant.0.inside (lv, lw)))

pub drop_under-requires-clause-fallen : goal.drop_under-requires-clause-fallen
drop_under-requires-clause-fallen c =
    let apart : has c.args.v.0 (path_of c.self.inside.tree.vertices c.args.w) ≡ false = subst (λ (u : Unwound). has c.args.v.0 (path_of u.vertices c.args.w) ≡ false) (sym c.self.view_is) (pair-apart c.args.self.now c.args.v c.args.w c.requires.pair) in
    c.deref-in-Ok-3.ensures.value ∙ c.in_ok-fallen.ensures ∙ ap (λ (vs : List Vertex). pairs_under vs c.args.v c.self.inside.pairs) c.vertices-vertices.ensures.value
    ∙ sym (ap (λ (vs : List Vertex). pairs_under vs c.args.v c.push.new.self) c.vertices.ensures.value ∙ ap (pairs_under c.self.inside.tree.vertices c.args.v) c.in_ok-push.ensures.pushed ∙ under_push c.self.inside.tree.vertices c.args.v c.self.inside.pairs (c.args.v, c.args.w) apart)

pub invariant_of-self-in-Ok : goal.invariant_of-self-in-Ok
invariant_of-self-in-Ok c =
    let lv : c.args.v.0 < length c.self.inside.tree.vertices = subst (λ (u : Unwound). c.args.v.0 < length u.vertices) (sym c.self.view_is) c.requires.left in
    let lw : c.args.w.0 < length c.self.inside.tree.vertices = subst (λ (u : Unwound). c.args.w.0 < length u.vertices) (sym c.self.view_is) c.requires.right in
    let low : c.deref-in-Ok.result.now ≡ below_lefts c.self.inside.tree.vertices (pairs_under c.self.inside.tree.vertices c.args.v c.self.inside.pairs) =
    c.deref-in-Ok.ensures.value ∙ c.in_ok-lowered.ensures ∙ ap (λ (vs : List Vertex). below_lefts vs c.deref-2.result.now) c.vertices-vertices.ensures.value
    ∙ ap (below_lefts c.self.inside.tree.vertices) (c.deref-2.ensures.value ∙ c.in_ok-fallen.ensures ∙ ap (λ (vs : List Vertex). pairs_under vs c.args.v c.self.inside.pairs) c.vertices-vertices.ensures.value) in
    let high : c.deref-in-Ok-2.result.now ≡ below c.self.inside.tree.vertices c.args.v.0 = c.deref-in-Ok-2.ensures.value ∙ c.in_ok-raised.ensures ∙ ap (λ (vs : List Vertex). below vs c.args.v.0) c.vertices-vertices.ensures.value in
    let apart : has c.args.v.0 (path_of c.self.inside.tree.vertices c.args.w) ≡ false = subst (λ (u : Unwound). has c.args.v.0 (path_of u.vertices c.args.w) ≡ false) (sym c.self.view_is) (pair-apart c.args.self.now c.args.v c.args.w c.requires.pair) in
    let kept : c.drop_under.new.self ≡ pairs_but_under c.self.inside.tree.vertices c.args.v c.self.inside.pairs ++ (c.args.v, c.args.w) ∷ [] =
    c.drop_under.ensures ∙ ap (λ (vs : List Vertex). pairs_but_under vs c.args.v c.push.new.self) c.vertices.ensures.value ∙ ap (pairs_but_under c.self.inside.tree.vertices c.args.v) c.in_ok-push.ensures.pushed
    ∙ but_under_push c.self.inside.tree.vertices c.args.v c.self.inside.pairs (c.args.v, c.args.w) apart in
    let mid : AreWaiting c.self.inside.tree.vertices c.self.inside.tree.terms c.lower.new.counts.items c.self.inside.ends.items c.wait_for_leaves.new.waiting =
    waiting_falls c.self.inside.tree.terms c.self.inside.tree.vertices c.self.inside.tree.vertices c.self.inside.covers.items c.lower.new.counts.items c.deref-in-Ok.result.now c.self.inside.ends.items c.self.inside.waiting c.wait_for_leaves.new.waiting
    refl c.self.invariant.0.counts_are.sized (λ k. refl) (λ k. refl) (λ k e. e) c.lower.ensures.lowered c.self.invariant.1 c.wait_for_leaves.ensures.kept
    (subst (λ (xs : List ℕ). (k : ℕ) → 1 ≤ times k xs → (vertex_at c.self.inside.tree.vertices k).children ≡ [] → waits c.wait_for_leaves.new.waiting k ≡ true) (c.deref-3.ensures.value ∙ sym c.deref-in-Ok.ensures.value)
    (subst (λ (vs : List Vertex). (k : ℕ) → 1 ≤ times k c.deref-3.result.now → (vertex_at vs k).children ≡ [] → waits c.wait_for_leaves.new.waiting k ≡ true) c.vertices-vertices.ensures.value c.in_ok-wait_for_leaves.ensures.there)) in (
      kept_covered c.self.inside.tree.vertices c.self.inside.pairs c.drop_under.new.self (pairs_under c.self.inside.tree.vertices c.args.v c.self.inside.pairs) c.self.inside.journal.items c.note.new.journal.items c.self.inside.apart.items
          c.self.inside.covers.items c.lower.new.counts.items c.raise.new.counts.items c.deref-in-Ok.result.now c.deref-in-Ok-2.result.now c.self.inside.refines c.self.inside.settled c.note.new.settled c.args.v c.args.w
          c.self.invariant.0 lv lw (omega arith) c.in-Ok.ensures.journal kept refl low c.lower.ensures.sized c.lower.ensures.lowered high c.raise.ensures.sized c.raise.ensures.raised
          (noted_covered c.self.inside.settled c.note.new.settled c.args.v c.args.w c.of-sides.result c.covered_now-settling.result c.copied.result c.self.inside.refines c.of-sides.ensures (c.copied.ensures ∙ c.get.ensures.value) c.covered_now-settling.ensures c.in-Ok.ensures.settled),
      waiting_rises c.self.inside.tree.terms c.self.inside.tree.vertices c.lower.new.counts.items c.raise.new.counts.items c.deref-in-Ok-2.result.now c.self.inside.ends.items c.wait_for_leaves.new.waiting (c.lower.ensures.sized ∙ c.self.invariant.0.counts_are.sized) c.raise.ensures.raised mid,
    )

pub returns-in-Ok-clause-done : goal.returns-in-Ok-clause-done
returns-in-Ok-clause-done c =
    let apart : has c.args.v.0 (path_of c.self.inside.tree.vertices c.args.w) ≡ false = subst (λ (u : Unwound). has c.args.v.0 (path_of u.vertices c.args.w) ≡ false) (sym c.self.view_is) (pair-apart c.args.self.now c.args.v c.args.w c.requires.pair) in
    let kept : c.drop_under.new.self ≡ pairs_but_under c.self.inside.tree.vertices c.args.v c.self.inside.pairs ++ (c.args.v, c.args.w) ∷ [] =
    c.drop_under.ensures ∙ ap (λ (vs : List Vertex). pairs_but_under vs c.args.v c.push.new.self) c.vertices.ensures.value ∙ ap (pairs_but_under c.self.inside.tree.vertices c.args.v) c.in_ok-push.ensures.pushed
    ∙ but_under_push c.self.inside.tree.vertices c.args.v c.self.inside.pairs (c.args.v, c.args.w) apart in
    made_cover c.self.inside.tree.vertices c.self.inside.tree.terms c.self.inside.pairs c.drop_under.new.self c.self.inside.journal.items c.note.new.journal.items c.self.inside.apart.items c.args.v c.args.w c.args.self.now c.self.view_is kept c.in-Ok.ensures.journal

pub returns-in-Ok-clause-legal : goal.returns-in-Ok-clause-legal
returns-in-Ok-clause-legal c =
    let apart : has c.args.v.0 (path_of c.self.inside.tree.vertices c.args.w) ≡ false = subst (λ (u : Unwound). has c.args.v.0 (path_of u.vertices c.args.w) ≡ false) (sym c.self.view_is) (pair-apart c.args.self.now c.args.v c.args.w c.requires.pair) in
    let kept : c.drop_under.new.self ≡ pairs_but_under c.self.inside.tree.vertices c.args.v c.self.inside.pairs ++ (c.args.v, c.args.w) ∷ [] =
    c.drop_under.ensures ∙ ap (λ (vs : List Vertex). pairs_but_under vs c.args.v c.push.new.self) c.vertices.ensures.value ∙ ap (pairs_but_under c.self.inside.tree.vertices c.args.v) c.in_ok-push.ensures.pushed
    ∙ but_under_push c.self.inside.tree.vertices c.args.v c.self.inside.pairs (c.args.v, c.args.w) apart in
    λ h can. legal-after c.args.graph.now c.args.self.now _ (CoverYes c.args.v c.args.w) h can
    (made_cover c.self.inside.tree.vertices c.self.inside.tree.terms c.self.inside.pairs c.drop_under.new.self c.self.inside.journal.items c.note.new.journal.items c.self.inside.apart.items c.args.v c.args.w c.args.self.now c.self.view_is kept c.in-Ok.ensures.journal)
