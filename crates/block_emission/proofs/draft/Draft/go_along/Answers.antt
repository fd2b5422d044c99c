use Rattle.std.proofs.Common.{◌≡◌, ◌∙◌, ap, Bool, Option, ℕ}
use Rattle.std.specs.Prelude.{is_none}
use Rattle.block_plan.specs.Made.{draws}
use Rattle.block_emission.specs.declared.terms.Test.TheVariants.{On}
use Rattle.block_emission.specs.Putting.{Sketch, sketch_of}
use Rattle.block_emission.specs.Emitting.{before_draw, go_along, lead, operations, scheme_of}
use Rattle.block_emission.proofs.Putting.{none-is, to, two}
use Rattle.block_emission.proofs.draft.Draft.go_along.Goals as goal

pub returns : goal.returns
returns c =
    let p = scheme_of c.args.plan in
    let d = sketch_of c.args.self.now in
    let on = c.in_ok-on.on in
    let way = c.args.way in
    let e = c.args.edge.now in
    let s = sketch_of c.before_draw.new.self in
    let F : Sketch × Option ℕ → Sketch = λ q. lead p (operations p q.0 q.1 way.test 0 e.ops) way.to (is_none q.1) (On q.1) in
    let began : (s, on) ≡ before_draw d c.args.guard (draws e) = c.in_ok-on.ensures.made ∙ ap (before_draw d c.args.guard) c.draws.ensures.made in
    let went : sketch_of c.operations.new.self ≡ operations p s on way.test 0 e.ops =
    c.in_ok-operations.ensures.made ∙ ap (operations p s on way.test 0) c.as_slice.ensures in
    let sure : c.is_none.result ≡ is_none on = none-is on c.is_none.result c.is_none.ensures in
    let all : lead p (sketch_of c.operations.new.self) way.to c.is_none.result (On on) ≡ go_along p d c.args.guard way e =
    two (λ (x : Sketch) (b : Bool). lead p x way.to b (On on)) went sure ∙ ap F began in
    record { made = to c.lead.result (sketch_of c.lead.new.self) _ _ all c.lead.ensures.made }
