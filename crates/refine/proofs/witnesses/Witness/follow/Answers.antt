use Rattle.std.proofs.Common.{◌≡◌, List, [], ◌∷◌, length, arith, ap, ◌∙◌, length-append, Some, slice_get}
use Rattle.term_laws.proofs.Made.{made}
use Rattle.refine.specs.declared.witnesses.Truth.{Truth}
use Rattle.refine.specs.Witnesses.{Known, truth_known}
use Rattle.refine.proofs.Knowing.{known_more}
use Rattle.refine.proofs.witnesses.Witness.follow.Goals as goal

pub known_truth-truth-requires-clause-fits : goal.known_truth-truth-requires-clause-fits
known_truth-truth-requires-clause-fits c =
    (made c.args.terms.now [] (record { 0 = c.loop-number.number }) c.get-term.result c.count-number-end.ensures.table c.get-term.ensures).fits

pub loop-number-preserved : goal.loop-number-preserved
loop-number-preserved c =
    let t = c.args.terms.now in
    let ts : List Truth = c.loop-number.self-inside.truths.items in
    let k : Known = record { store = c.loop-number.self-inside.store; truths = ts } in
    let n : length ts ≡ c.loop-number.number = c.loop-number.invariant.1 in
    let x : Truth = c.known_truth-truth.result in
    let e : slice_get t.terms (length ts) ≡ Some c.get-term.result = ap (slice_get t.terms) n ∙ c.get-term.ensures in
    let q : x ≡ truth_known k.store t.terms ts c.get-term.result =
    c.known_truth-truth.ensures ∙ ap (λ (us : List Truth). truth_known k.store t.terms us c.get-term.result) c.deref.ensures.value in
    let i = c.in_ok-push.ensures.items in
    let l = length-append ts (x ∷ []) in (
      known_more t k c.push.new.self.items c.get-term.result x c.count-number-end.ensures.table c.loop-number.invariant.0 e q i
          (omega (arith, c.loop-number-test.true, n, c.count-number-end.ensures.value)),
      omega (arith, ap length i, l, n),
      c.loop-number.invariant.2,
    )
