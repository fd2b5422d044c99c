use Rattle.std.proofs.Common.{◌≡◌, ℕ, ◌+◌, ◌-◌, ◌<◌, ◌≤◌, Bool, List, length, get_or, drop, suc, sym, subst, arith, slice_index_or}
use Rattle.resolution_log.specs.declared.Chain.{Chain}
use Rattle.clause_learning.specs.Cuts.{need_in, mark_chain, NamesBelow, Closes}
use Rattle.clause_learning.proofs.ConeLaws.{ranged_at, names_wider, chain_length, chain_keeps, given_grown, grown_chain, closes_step, closes_pass}
use Rattle.clause_learning.proofs.cone.mark_back.Goals as goal

pub mark-requires : goal.mark-requires
mark-requires c =
    let lt : c.loop-k.k - 1 < length c.args.chains.now = omega (arith, c.loop-k.invariant.within, c.loop-k-test.true) in
    names_wider c.index-chains-k.result (c.args.base + (c.loop-k.k - 1)) (length c.loop-k.marks) (omega (arith, c.loop-k.invariant.all, lt)) (ranged_at c.args.chains.now c.args.base (c.loop-k.k - 1) c.index-chains-k.result c.requires.ranged lt c.index-chains-k.is)

pub loop-k-preserved-then-marks-base : goal.loop-k-preserved-then-marks-base
loop-k-preserved-then-marks-base c =
    let k : ℕ = c.loop-k.k - 1 in
    let ch : Chain = c.index-chains-k.result in
    let m : List Bool = c.loop-k.marks in
    let up : suc k ≡ c.loop-k.k = omega (arith, c.loop-k-test.true) in
    let lt : k < length c.args.chains.now = omega (arith, c.loop-k.invariant.within, c.loop-k-test.true) in
    let low : NamesBelow (c.args.base + k) ch = ranged_at c.args.chains.now c.args.base k ch c.requires.ranged lt c.index-chains-k.is in
    let below : NamesBelow (length m) ch = names_wider ch (c.args.base + k) (length m) (omega (arith, c.loop-k.invariant.all, lt)) low in
    let was : Closes (need_in m) (c.args.base + suc k) (drop (suc k) c.args.chains.now) = subst (λ j. Closes (need_in m) (c.args.base + j) (drop j c.args.chains.now)) (sym up) c.loop-k.invariant.closed in
    rw c.mark.ensures (record {
      within = omega (arith, lt);
      all = omega (arith, chain_length ch m, c.loop-k.invariant.all);
      given = given_grown c.args.base m (mark_chain ch m) (chain_keeps ch m) c.loop-k.invariant.given;
      closed = closes_step m c.args.base k c.args.chains.now ch lt c.index-chains-k.is low below was;
      grown = grown_chain c.args.marks.now m ch c.loop-k.invariant.grown;
    })

pub loop-k-preserved : goal.loop-k-preserved
loop-k-preserved c =
    let k : ℕ = c.loop-k.k - 1 in
    let m : List Bool = c.loop-k.marks in
    let up : suc k ≡ c.loop-k.k = omega (arith, c.loop-k-test.true) in
    let lt : k < length c.args.chains.now = omega (arith, c.loop-k.invariant.within, c.loop-k-test.true) in
    let was : Closes (need_in m) (c.args.base + suc k) (drop (suc k) c.args.chains.now) = subst (λ j. Closes (need_in m) (c.args.base + j) (drop j c.args.chains.now)) (sym up) c.loop-k.invariant.closed in
    record {
      within = omega (arith, lt);
      all = c.loop-k.invariant.all;
      given = c.loop-k.invariant.given;
      closed = closes_pass m c.args.base k c.args.chains.now lt c.if-marks-base.false was;
      grown = c.loop-k.invariant.grown;
    }
