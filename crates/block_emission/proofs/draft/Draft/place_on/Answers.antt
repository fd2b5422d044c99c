use Rattle.std.proofs.Common.{rules, ◌≡◌, ◌∙◌, ap, Option, ℕ}
use Rattle.block_plan.specs.declared.regular.Ways.{Ways}
use Rattle.block_emission.specs.Putting.{Sketch, arrive, leave_out, sketch_of}
use Rattle.block_emission.specs.Emitting.{place_on, scheme_of, ways_from, ways_out}
use Rattle.block_emission.proofs.Putting.{to, two}
use Rattle.block_emission.proofs.draft.Draft.place_on.Goals as goal

pub returns : goal.returns
returns c =
    let p = scheme_of c.args.plan in
    let d = sketch_of c.args.self.now in
    let v = c.args.place in
    let on = c.in_ok-on.on in
    let came : (sketch_of c.arrive.new.self, on) ≡ arrive (leave_out d v) c.args.guard =
    c.in_ok-on.ensures.made ∙ ap (λ (x : Sketch). arrive x c.args.guard) c.leave_out.ensures.made in
    let ways : c.ways_at-ways.result ≡ ways_from p v = search rules in
    let all : ways_out p (sketch_of c.arrive.new.self) on c.ways_at-ways.result ≡ place_on p d v c.args.guard =
    two (λ (q : Sketch × Option ℕ) (w : Ways). ways_out p q.0 q.1 w) came ways in
    record { made = to c.ways_out.result (sketch_of c.ways_out.new.self) _ _ all c.ways_out.ensures.made }
