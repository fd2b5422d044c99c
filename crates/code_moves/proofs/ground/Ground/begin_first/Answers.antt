use Rattle.std.proofs.Common.{◌≡◌, suc, ◌+◌, [], ◌++◌, refl, ap, ◌∙◌, arith, ℕ, List, Ok}
use Rattle.bv_term.specs.declared.term.TermId.{TermId}
use Rattle.c_graph.specs.declared.graph.Operation.{Operation}
use Rattle.c_terms.specs.declared.words.Words.{Words}
use Rattle.c_terms.proofs.Choosing.{two}
use Rattle.c_terms.proofs.Putting.{grows-twice}
use Rattle.code_moves.specs.Setting.{setting_of, site_of}
use Rattle.code_moves.specs.Deeds.{Deed}
use Rattle.code_moves.specs.Made as made
use Rattle.code_moves.specs.Moves.{begins_first, writes_at, begun}
use Rattle.code_moves.proofs.Standing.{stand-later, room-later}
use Rattle.code_moves.proofs.Doing.{deeds-later, does-none, does-equal, then-does, regrouped}
use Rattle.code_moves.proofs.ground.Ground.begin_first.Goals as goal

pub loop-element-init : goal.loop-element-init
loop-element-init c = (λ ds h room le d. does-none _ _ ds d, refl)

pub loop-element-preserved : goal.loop-element-preserved
loop-element-preserved c =
    let g = setting_of c.args.self.now in
    let n = c.loop-element.element in
    let e : suc n ≡ n + 1 = omega arith in
    let so-far = c.loop-element.invariant.1 in
    let value = c.in_ok-value.ensures.made ∙ ap (λ (p : Words × List Operation). made.begun (site_of g) p.0 c.args.slot c.args.values n) so-far in
    let written = c.in_ok-write_at.ensures.made ∙ two (λ (p : Words × List Operation) (q : Words × TermId). made.write_at (site_of g) q.0 p.1 c.args.room n q.1) so-far value in
    let more = ap (λ (k : ℕ). made.begin_first (site_of g) c.args.words.now c.args.ops.now.items c.args.slot c.args.room k c.args.values) e in (
      λ ds h room le d. (
          let b = c.loop-element.invariant.0 ds h room le d in
          let z = λ (s : List ℕ). c.in_ok-value.ensures.shows s (stand-later _ _ _ b.grows h) in
          let before : List Deed = begins_first g c.args.room c.args.slot c.args.values n in
          let at : List Deed = writes_at g.model c.args.room n (begun g c.args.slot c.args.values n) in
          let done = c.in_ok-write_at.ensures.does (ds ++ before) _ (room-later _ _ _ c.args.room (grows-twice _ _ _ b.grows (z []).grows) room) (omega (arith, le)) (deeds-later _ _ _ (ds ++ before) (z []).grows b.does) (λ s. (z s).shows) in
          does-equal (Ok tt) _ _ _ _ _ (ap (λ (k : ℕ). ds ++ begins_first g c.args.room c.args.slot c.args.values k) e)
          (regrouped (Ok tt) _ _ _ ds before at (then-does (Ok tt) _ _ _ _ _ (grows-twice _ _ _ b.grows (z []).grows) done))
          ),
      written ∙ more,
    )

pub returns-clause-does : goal.returns-clause-does
returns-clause-does c = λ ds h room le d.
    let e : c.loop-element.element ≡ c.args.count = omega arith in
    does-equal (Ok tt) _ _ _ _ _ (ap (λ (k : ℕ). ds ++ begins_first (setting_of c.args.self.now) c.args.room c.args.slot c.args.values k) e) (c.loop-element.invariant.0 ds h room le d)

pub returns-clause-made : goal.returns-clause-made
returns-clause-made c =
    let e : c.loop-element.element ≡ c.args.count = omega arith in
    c.loop-element.invariant.1 ∙ ap (λ (n : ℕ). made.begin_first (site_of (setting_of c.args.self.now)) c.args.words.now c.args.ops.now.items c.args.slot c.args.room n c.args.values) e
