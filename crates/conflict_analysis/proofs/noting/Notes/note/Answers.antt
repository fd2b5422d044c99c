use Rattle.std.proofs.Common.{rules, arith, ◌≡◌, ◌/◌, length, get_or, ap, sym, ◌∙◌, false, length-set}
use Rattle.conflict_analysis.specs.Notes.{is_noted}
use Rattle.resolution_log.proofs.MarkLaws.{most_set}
use Rattle.conflict_analysis.proofs.RowLaws.{code_fits, stamps_next, learnt_here, here_here, learnt_low, here_low}
use Rattle.conflict_analysis.proofs.noting.Notes.note.Goals as goal

pub stays_out-requires : goal.stays_out-requires
stays_out-requires c =
    let a = code_fits (length c.args.trail.now.levels.items) c.args.row.now c.loop-code.code-index c.requires.below c.loop-code-test.true in
    let e : length c.as_slice.result.now ≡ length c.loop-code.self.stamps.items = search rules in
    omega (arith, a, c.loop-code.invariant.long, e)

pub index_mut-requires : goal.index_mut-requires
index_mut-requires c =
    let a = code_fits (length c.args.trail.now.levels.items) c.args.row.now c.loop-code.code-index c.requires.below c.loop-code-test.true in
    omega (arith, a, c.loop-code.invariant.long, c.loop-code.self.stamps.ok.0)

pub index-requires : goal.index-requires
index-requires c =
    let a = code_fits (length c.args.trail.now.levels.items) c.args.row.now c.loop-code.code-index c.requires.below c.loop-code-test.true in
    omega (arith, a, c.args.trail.now.levels.ok.0)

pub invariant_of-self-in-loop-code : goal.invariant_of-self-in-loop-code
invariant_of-self-in-loop-code c =
    let a = code_fits (length c.args.trail.now.levels.items) c.args.row.now c.loop-code.code-index c.requires.below c.loop-code-test.true in
    record { most = most_set c.loop-code.self.epoch c.loop-code.self.epoch c.loop-code.self.stamps.items (get_or c.args.row.now c.loop-code.code-index 0 / 2) (omega (arith, a, c.loop-code.invariant.long)) (omega arith) c.loop-code.self.most }

pub loop-code-preserved-then-index-level : goal.loop-code-preserved-then-index-level
loop-code-preserved-then-index-level c =
    let q = get_or c.args.row.now c.loop-code.code-index 0 in
    let i = c.loop-code.code-index in
    let a = code_fits (length c.args.trail.now.levels.items) c.args.row.now i c.requires.below c.loop-code-test.true in
    let e : c.as_slice.result.now ≡ c.loop-code.self.stamps.items = c.as_slice.ensures.value in
    let j : is_noted c.loop-code.self.epoch c.loop-code.self.stamps.items c.args.but q ≡ false = ap (λ w. is_noted c.loop-code.self.epoch w c.args.but q) (sym e) ∙ sym c.stays_out.ensures ∙ c.if-stays_out.false in
    record {
      stamps = stamps_next c.loop-code.self.epoch c.args.but c.loop-code.self.stamps.items c.args.row.now i c.loop-code-test.true j _ c.loop-code.invariant.stamps;
      learnt = learnt_here c.loop-code.self.epoch c.args.but c.loop-code.self.stamps.items c.args.row.now i c.loop-code-test.true j c.args.level c.args.trail.now.levels.items c.loop-code.self.learnt.items c.loop-code.self.here c.index.result.now a c.index.ensures c.if-index-level.true _ c.loop-code.invariant.learnt;
      here' = here_here c.loop-code.self.epoch c.args.but c.loop-code.self.stamps.items c.args.row.now i c.loop-code-test.true j c.args.level c.args.trail.now.levels.items c.loop-code.self.learnt.items c.loop-code.self.here c.index.result.now a c.index.ensures c.if-index-level.true _ c.loop-code.invariant.here';
      epoch = c.loop-code.invariant.epoch;
      long = length-set c.loop-code.self.stamps.items (q / 2) c.loop-code.self.epoch ∙ c.loop-code.invariant.long;
      few = omega (arith, c.loop-code.invariant.few);
    }

pub loop-code-preserved : goal.loop-code-preserved
loop-code-preserved c =
    let q = get_or c.args.row.now c.loop-code.code-index 0 in
    let i = c.loop-code.code-index in
    let a = code_fits (length c.args.trail.now.levels.items) c.args.row.now i c.requires.below c.loop-code-test.true in
    let e : c.as_slice.result.now ≡ c.loop-code.self.stamps.items = c.as_slice.ensures.value in
    let j : is_noted c.loop-code.self.epoch c.loop-code.self.stamps.items c.args.but q ≡ false = ap (λ w. is_noted c.loop-code.self.epoch w c.args.but q) (sym e) ∙ sym c.stays_out.ensures ∙ c.if-stays_out.false in
    record {
      stamps = stamps_next c.loop-code.self.epoch c.args.but c.loop-code.self.stamps.items c.args.row.now i c.loop-code-test.true j _ c.loop-code.invariant.stamps;
      learnt = learnt_low c.loop-code.self.epoch c.args.but c.loop-code.self.stamps.items c.args.row.now i c.loop-code-test.true j c.args.level c.args.trail.now.levels.items c.loop-code.self.learnt.items c.loop-code.self.here c.index.result.now a c.index.ensures c.if-index-level.false c.push.new.self.items _ c.in_ok-push.ensures.items c.loop-code.invariant.learnt;
      here' = here_low c.loop-code.self.epoch c.args.but c.loop-code.self.stamps.items c.args.row.now i c.loop-code-test.true j c.args.level c.args.trail.now.levels.items c.loop-code.self.learnt.items c.loop-code.self.here c.index.result.now a c.index.ensures c.if-index-level.false _ c.loop-code.invariant.here';
      epoch = c.loop-code.invariant.epoch;
      long = length-set c.loop-code.self.stamps.items (q / 2) c.loop-code.self.epoch ∙ c.loop-code.invariant.long;
      few = omega (arith, c.loop-code.invariant.few);
    }
