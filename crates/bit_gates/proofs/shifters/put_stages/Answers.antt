use Rattle.std.proofs.Common.{rules, ◌≡◌, ◌+◌, ◌*◌, ◌<◌, drop, length, ◌∷◌, arith, get_or, false}
use Rattle.prop.specs.declared.Lit.{Lit}
use Rattle.std.proofs.lemmas.List.{drop_more}
use Rattle.bit_gates.specs.Cut.{Grew}
use Rattle.bit_gates.specs.Shifts.{stage, stages}
use Rattle.bit_gates.proofs.Puts.{stages_put}
use Rattle.bit_gates.proofs.shifters.put_stages.Goals as goal

pub loop-i-preserved : goal.loop-i-preserved
loop-i-preserved c =
    let i = c.loop-i.i in
    let k = c.loop-i.places in
    let d : Lit = record { var = 0; positive = false } in
    let b = get_or c.args.bs.now i d in
    let n = c.loop-i.net.next in
    let os = c.loop-i.outs.items in
    let e : drop i c.args.bs.now ≡ b ∷ drop (i + 1) c.args.bs.now = drop_more c.args.bs.now i d c.loop-i-test.true in
    let lt : k < length os = search rules in
    let g : Grew n c.loop-i.net.defs.items c.put_stage.new.net.next c.put_stage.new.net.defs.items (stage n c.args.how c.args.z k b os).defs = search rules in
    let o : c.in_ok-outs.outs.items ≡ (stage n c.args.how c.args.z k b os).outs = search rules in
    record {
      start = search rules;
      left = stages_put c.args.net.now.next n c.put_stage.new.net.next c.args.net.now.defs.items c.loop-i.net.defs.items c.put_stage.new.net.defs.items
          (stages c.args.net.now.next c.args.how c.args.z 1 c.args.xs.now c.args.bs.now) c.args.how c.args.z k (k * 2) os c.in_ok-outs.outs.items
          (drop i c.args.bs.now) b (drop (i + 1) c.args.bs.now) e lt (omega arith) c.loop-i.invariant.left g o;
    }
