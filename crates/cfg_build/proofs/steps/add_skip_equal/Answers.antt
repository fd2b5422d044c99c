use Rattle.std.proofs.Common.{[], ◌==◌, subst, List, ℕ, ℤ, ap, ◌∙◌}
use Rattle.std.specs.Int.{w128}
use Rattle.std.proofs.lemmas.Int.{to_z-of_z}
use Rattle.lv_base.specs.Integers.{residue}
use Rattle.bv_term.specs.Numbers.{truth}
use Rattle.c_terms.specs.Shown.{Shows}
use Rattle.c_terms.proofs.Putting.{grows-twice, later}
use Rattle.code_moves.specs.Setting.{setting_of}
use Rattle.code_moves.specs.Values.{slot_value}
use Rattle.cfg_build.proofs.Checking.{built-after}
use Rattle.bv_term.specs.declared.term.TermId.{TermId}
use Rattle.c_terms.specs.declared.words.Words.{Words}
use Rattle.c_terms.specs.Made as term
use Rattle.code_moves.proofs.Making.{so}
use Rattle.cfg_build.specs.Made as made
use Rattle.cfg_build.specs.Made.{drawn_of}
use Rattle.c_terms.proofs.Choosing.{two}
use Rattle.cfg_build.proofs.steps.add_skip_equal.Goals as goal

pub returns-clause-built : goal.returns-clause-built
returns-clause-built c = λ h.
    let x = λ (s : List ℕ). c.in_ok-held.ensures.shows s h in
    let y = λ (s : List ℕ). c.in_ok-wanted.ensures.shows s in
    let e = λ (s : List ℕ). subst (λ (v : ℤ). Shows c.constant.new.self.terms s c.in_ok-wanted.wanted 64 (residue 64 v)) (to_z-of_z w128 c.args.value c.ranges.value) (y s).shows in
    let z = λ (s : List ℕ). c.in_ok-is_equal.ensures.shows s 64 _ _ (later _ _ s _ _ _ (y []).grows (x s).shows) (e s) in
    built-after _ _ _ _ _ _ _ (grows-twice _ _ _ (grows-twice _ _ _ (x []).grows (y []).grows) (z []).grows) (c.add_branch.ensures.built (λ s. truth (slot_value (setting_of c.args.ground.now) s c.args.slot == residue 64 c.args.value)) (λ s. (z s).shows))

pub returns-clause-made : goal.returns-clause-made
returns-clause-made c =
    let held = c.in_ok-held.ensures.made in
    let wanted = c.in_ok-wanted.ensures.made ∙ ap (λ (v : ℤ). term.constant c.slot.new.words v) (to_z-of_z w128 c.args.value c.ranges.value)
    ∙ ap (λ (p : Words × TermId). term.constant p.0 c.args.value) held in
    let is_equal = c.in_ok-is_equal.ensures.made ∙ two (λ (q p : Words × TermId). term.word_equal q.0 p.1 q.1) wanted held in
    so _ _ _ _ c.add_branch.ensures.made (ap (λ (p : Words × TermId). made.add_branch (drawn_of p.0 c.args.draft.now) p.1 c.args.to c.args.next) is_equal)
