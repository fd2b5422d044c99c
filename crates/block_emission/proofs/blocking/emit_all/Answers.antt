use Rattle.std.proofs.Common.{◌≡◌, ◌∙◌, ◌+◌, ap, drop, sym}
use Rattle.block_emission.specs.Putting.{Sketch, sketch_of}
use Rattle.block_emission.specs.Emitting.{scheme_of}
use Rattle.block_emission.specs.Blocking.{emit, emit_all, places_of}
use Rattle.block_emission.proofs.Listing.{places-done, places-next}
use Rattle.block_emission.proofs.blocking.emit_all.Goals as goal

pub loop-number-preserved : goal.loop-number-preserved
loop-number-preserved c =
    let ms = c.args.members.now in
    let k = c.loop-number.number in
    let p = scheme_of c.args.plan in
    let d = sketch_of c.loop-number.draft in
    let x = c.index-members-number.result in
    let made : sketch_of c.emit.new.draft ≡ emit p d k x.items = c.in_ok-emit.ensures.made ∙ ap (emit p d k) c.deref.ensures.value in
    ap (λ (s : Sketch). emit_all p s (k + 1) (drop (k + 1) (places_of ms))) made
    ∙ sym (ap (emit_all p d k) (places-next ms k x c.loop-number-test.true c.index-members-number.is)) ∙ c.loop-number.invariant

pub returns : goal.returns
returns c =
    let k = c.loop-number.number in
    let d = sketch_of c.loop-number.draft in
    record { made = sym (ap (emit_all (scheme_of c.args.plan) d k) (places-done c.args.members.now k c.loop-number-test.false)) ∙ c.loop-number.invariant }
