use Rattle.std.proofs.Common.{[], List, ℕ, ◌∙◌}
use Rattle.c_terms.specs.declared.failing.Tests.TheVariants.{None, One, Two}
use Rattle.code_moves.specs.Setting.{setting_of, site_of}
use Rattle.code_moves.specs.Values.{failures_of}
use Rattle.code_moves.proofs.Standing.{stand-later}
use Rattle.cfg_build.proofs.Checking.{first_when, second_when, one-tells, two-tells, tests-are, checked-behind, unchecked}
use Rattle.code_moves.proofs.Making.{so}
use Rattle.cfg_build.proofs.Drawing.{unchecked-drawn, tested-drawn}
use Rattle.cfg_build.proofs.steps.add_moves.Goals as goal

pub returns-in_ok-from-in-None-clause-built : goal.returns-in_ok-from-in-None-clause-built
returns-in_ok-from-in-None-clause-built c = λ h.
    let z = λ (s : List ℕ). c.in_ok-tests.ensures.shows s h in
    let g = (z []).grows in
    checked-behind _ _ _ _ _ _ _ _ _ _ g (λ s. tests-are _ s _ _ _ c.in-None.is (z s).fails)
    (unchecked _ _ _ _ _ _ _ _ _ _ (record { 0 = 0 }) _ c.in_ok-from-in-None.ensures.number c.new-ops.ensures.items c.in_ok-from-in-None.ensures.adds (c.add_last.ensures.goes (stand-later _ _ _ g h)))

pub returns-in-One-clause-built : goal.returns-in-One-clause-built
returns-in-One-clause-built c = λ h.
    let z = λ (s : List ℕ). c.in_ok-tests.ensures.shows s h in
    let g = (z []).grows in
    let fs = λ (s : List ℕ). failures_of (setting_of c.args.ground.now) s c.args.instruction in
    let t = λ (s : List ℕ). tests-are _ s _ _ (fs s) c.in-One.is (z s).fails in
    checked-behind _ _ _ _ _ _ _ _ _ _ g t (c.checked_once.ensures.built (λ s. first_when (fs s)) (stand-later _ _ _ g h) (λ s. one-tells _ s _ (fs s) (t s)))

pub returns-in-Two-clause-built : goal.returns-in-Two-clause-built
returns-in-Two-clause-built c = λ h.
    let z = λ (s : List ℕ). c.in_ok-tests.ensures.shows s h in
    let g = (z []).grows in
    let fs = λ (s : List ℕ). failures_of (setting_of c.args.ground.now) s c.args.instruction in
    let t = λ (s : List ℕ). tests-are _ s _ _ (fs s) c.in-Two.is (z s).fails in
    checked-behind _ _ _ _ _ _ _ _ _ _ g t
    (c.checked_twice.ensures.built (λ s. first_when (fs s)) (λ s. second_when (fs s)) (stand-later _ _ _ g h) (λ s. (two-tells _ s _ _ (fs s) (t s)).0) (λ s. (two-tells _ s _ _ (fs s) (t s)).1))

pub returns-in_ok-from-in-None-clause-made : goal.returns-in_ok-from-in-None-clause-made
returns-in_ok-from-in-None-clause-made c =
    so _ _ _ _ c.add_last.ensures.made (
    unchecked-drawn (site_of (setting_of c.args.ground.now)) c.checks.new.words c.args.draft.now c.node.new.self c.args.instruction _ c.args.next _ c.in_ok-from-in-None.ensures.number c.new-ops.ensures.items c.in_ok-from-in-None.ensures.adds
    ∙ tested-drawn (site_of (setting_of c.args.ground.now)) c.args.words.now c.checks.new.words c.args.draft.now c.args.instruction c.args.next c.in_ok-tests.tests None c.in-None.is c.in_ok-tests.ensures.made
    )

pub returns-in-One-clause-made : goal.returns-in-One-clause-made
returns-in-One-clause-made c = so _ _ _ _ c.checked_once.ensures.made (tested-drawn (site_of (setting_of c.args.ground.now)) c.args.words.now c.checks.new.words c.args.draft.now c.args.instruction c.args.next c.in_ok-tests.tests (One c.in-One.fails) c.in-One.is c.in_ok-tests.ensures.made)

pub returns-in-Two-clause-made : goal.returns-in-Two-clause-made
returns-in-Two-clause-made c = so _ _ _ _ c.checked_twice.ensures.made (tested-drawn (site_of (setting_of c.args.ground.now)) c.args.words.now c.checks.new.words c.args.draft.now c.args.instruction c.args.next c.in_ok-tests.tests (Two c.in-Two.first c.in-Two.second) c.in-Two.is c.in_ok-tests.ensures.made)
