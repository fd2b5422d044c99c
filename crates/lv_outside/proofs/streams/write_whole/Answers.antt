use Rattle.std.proofs.Common.{◌≡◌, ◌≤◌, ◌-◌, length, take, drop, subst, arith, ap}
use Rattle.std.specs.Io.KnownBytes.{Appends}
use Rattle.std.proofs.lemmas.List.{take_all, length-drop}
use Rattle.lv_outside.proofs.StreamLemmas.{unwritten, further}
use Rattle.lv_outside.proofs.streams.write_whole.Goals as goal

pub parts-init : goal.parts-init
parts-init g c = (omega arith, unwritten (g.W.Write.contents c.args.to.now))

pub parts-preserved : goal.parts-preserved
parts-preserved g c =
    let bytes = c.args.bytes.now in
    let long = length-drop c.parts.done bytes in
    let rest : take (length bytes - c.parts.done) (drop c.parts.done bytes) ≡ drop c.parts.done bytes = take_all (length bytes - c.parts.done) (drop c.parts.done bytes) (omega (arith, long)) in
    let within = ap length rest in (
      omega (arith, c.in-Ok.ensures.bound, within, long, c.parts.invariant.0),
      further (g.W.Write.contents c.args.to.now) (g.W.Write.contents c.parts.to) (g.W.Write.contents c.write.new.self) c.parts.done c.in-Ok.n bytes c.parts.invariant.1
          (subst (λ xs. Appends (g.W.Write.contents c.parts.to) (g.W.Write.contents c.write.new.self) (take c.in-Ok.n xs)) rest c.in-Ok.ensures.bytes),
    )

pub returns : goal.returns
returns g c =
    subst (λ xs. Appends (g.W.Write.contents c.args.to.now) (g.W.Write.contents c.parts.to) xs) (take_all c.parts.done c.args.bytes.now c.parts-test.false) c.parts.invariant.1
