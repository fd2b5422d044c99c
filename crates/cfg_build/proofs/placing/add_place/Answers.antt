use Rattle.std.proofs.Common.{refl, ap, ◌∙◌, ◌+◌, ◌==◌, subst, ℕ, ℤ, rules}
use Rattle.std.specs.Int.{w128}
use Rattle.std.proofs.lemmas.Int.{to_z-of_z}
use mir.Val.{SFits}
use Rattle.lv_base.specs.Integers.{residue}
use Rattle.bv_term.specs.Numbers.{truth}
use Rattle.code_moves.specs.Setting.{setting_of, site_of}
use Rattle.code_moves.specs.Values.{slot_value}
use Rattle.cfg_build.specs.Steps.{Built, Fork}
use Rattle.cfg_build.specs.Follows.{plan_of, node_of}
use Rattle.cfg_build.proofs.Following.{fork-to}
use Rattle.c_terms.proofs.Choosing.{two, three}
use Rattle.cfg_build.specs.Made as made
use Rattle.cfg_build.specs.Made.{drawn_of}
use Rattle.cfg_build.proofs.Drawing.{still, ever}
use Rattle.cfg_build.proofs.Others.{IsOther, is-other, other-drawn, place-checked}
use Rattle.cfg_build.proofs.placing.add_place.Goals as goal

pub returns-in_ok-add_skip_zero-in-SkipZero-clause-built : goal.returns-in_ok-add_skip_zero-in-SkipZero-clause-built
returns-in_ok-add_skip_zero-in-SkipZero-clause-built c = λ h t.
    let k = c.in_ok-add_skip_zero-in-SkipZero.ensures.built h in
    let p = plan_of c.args.places.now in
    rw c.in-SkipZero.is (
      k.0,
      fork-to _ _ _ _ _ _ _ _ (c.node_of-next.ensures ∙ ap (node_of p) c.in_ok-following.ensures)
          (c.node_of-to.ensures ∙ ap (node_of p) (c.in_ok-behind-in-SkipZero.ensures ∙ ap (λ (n : ℕ). n + c.in-SkipZero.skip) c.in_ok-following.ensures)) k.1,
    )

pub returns-in_ok-add_skip_equal-in-SkipEqual-clause-built : goal.returns-in_ok-add_skip_equal-in-SkipEqual-clause-built
returns-in_ok-add_skip_equal-in-SkipEqual-clause-built c = λ h t.
    let k = c.in_ok-add_skip_equal-in-SkipEqual.ensures.built h in
    let p = plan_of c.args.places.now in
    let f : SFits w128 c.in-SkipEqual.value = search rules in
    rw c.in-SkipEqual.is (
      k.0,
      fork-to _ _ _ _ _ _ _ _ (c.node_of-to-in-SkipEqual.ensures ∙ ap (node_of p) (c.in_ok-behind-in-SkipEqual.ensures ∙ ap (λ (n : ℕ). n + c.in-SkipEqual.skip) c.in_ok-following.ensures))
          (c.node_of-next.ensures ∙ ap (node_of p) c.in_ok-following.ensures)
          (subst (λ (v : ℤ). Built c.args.draft.now c.add_skip_equal.new.draft (Fork c.add_skip_equal.new.words.terms (λ store. truth (slot_value (setting_of c.args.ground.now) store c.in-SkipEqual.slot == residue 64 v)) c.node_of-to-in-SkipEqual.result c.node_of-next.result)) (to_z-of_z w128 c.in-SkipEqual.value f) k.1),
    )

pub returns-in-Fail-clause-made : goal.returns-in-Fail-clause-made
returns-in-Fail-clause-made c = rw c.in-Fail.is (ever _ _ _ (c.add_last.ensures.made c.args.words.now))

pub returns-in-Stop-clause-made : goal.returns-in-Stop-clause-made
returns-in-Stop-clause-made c = rw c.in-Stop.is (ever _ _ _ (c.add_last-in-Stop.ensures.made c.args.words.now))

pub returns-in-Call-clause-made : goal.returns-in-Call-clause-made
returns-in-Call-clause-made c =
    let p = c.args.places.now in
    let next = c.node_of-next.ensures ∙ ap (node_of (plan_of p)) c.in_ok-following.ensures in
    rw c.in-Call.is (still _ _ _ _ (c.add_call.ensures.made c.args.words.now) (ap (made.add_call p.whole.owners.now (drawn_of c.args.words.now c.args.draft.now) c.in-Call.goal) next))

pub returns-in_ok-add_way-in-Return-clause-made : goal.returns-in_ok-add_way-in-Return-clause-made
returns-in_ok-add_way-in-Return-clause-made c = λ t. rw c.in-Return.is (c.in_ok-add_way-in-Return.ensures.made c.args.words.now)

pub returns-in_ok-add_way-in-Jump-clause-made : goal.returns-in_ok-add_way-in-Jump-clause-made
returns-in_ok-add_way-in-Jump-clause-made c = λ t.
    let p = plan_of c.args.places.now in
    let to = c.node_of.ensures ∙ ap (node_of p) (c.in_ok-behind-in-Jump.ensures ∙ ap (λ (n : ℕ). n + c.in-Jump.skip) c.in_ok-following.ensures) in
    rw c.in-Jump.is (c.in_ok-add_way-in-Jump.ensures.made c.args.words.now ∙ ap (made.add_way (drawn_of c.args.words.now c.args.draft.now)) to)

pub returns-in_ok-add_way-in-Turn-clause-made : goal.returns-in_ok-add_way-in-Turn-clause-made
returns-in_ok-add_way-in-Turn-clause-made c = λ t.
    rw c.in-Turn.is (c.in_ok-add_way-in-Turn.ensures.made c.args.words.now ∙ ap (made.add_way (drawn_of c.args.words.now c.args.draft.now)) c.node_of-in-Turn.ensures)

pub returns-in_ok-add_skip_zero-in-SkipZero-clause-made : goal.returns-in_ok-add_skip_zero-in-SkipZero-clause-made
returns-in_ok-add_skip_zero-in-SkipZero-clause-made c = λ t.
    let p = plan_of c.args.places.now in
    let next = c.node_of-next.ensures ∙ ap (node_of p) c.in_ok-following.ensures in
    let to = c.node_of-to.ensures ∙ ap (node_of p) (c.in_ok-behind-in-SkipZero.ensures ∙ ap (λ (n : ℕ). n + c.in-SkipZero.skip) c.in_ok-following.ensures) in
    rw c.in-SkipZero.is
    (c.in_ok-add_skip_zero-in-SkipZero.ensures.made ∙ two (made.add_skip_zero (site_of (setting_of c.args.ground.now)) (drawn_of c.args.words.now c.args.draft.now) c.in-SkipZero.slot) next to)

pub returns-in_ok-add_skip_equal-in-SkipEqual-clause-made : goal.returns-in_ok-add_skip_equal-in-SkipEqual-clause-made
returns-in_ok-add_skip_equal-in-SkipEqual-clause-made c = λ t.
    let p = plan_of c.args.places.now in
    let f : SFits w128 c.in-SkipEqual.value = search rules in
    let next = c.node_of-next.ensures ∙ ap (node_of p) c.in_ok-following.ensures in
    let to = c.node_of-to-in-SkipEqual.ensures ∙ ap (node_of p) (c.in_ok-behind-in-SkipEqual.ensures ∙ ap (λ (n : ℕ). n + c.in-SkipEqual.skip) c.in_ok-following.ensures) in
    rw c.in-SkipEqual.is
    (c.in_ok-add_skip_equal-in-SkipEqual.ensures.made
    ∙ three (made.add_skip_equal (site_of (setting_of c.args.ground.now)) (drawn_of c.args.words.now c.args.draft.now) c.in-SkipEqual.slot) (to_z-of_z w128 c.in-SkipEqual.value f) next to)

pub returns-in_ok-add_moves-in_default : goal.returns-in_ok-add_moves-in_default
returns-in_ok-add_moves-in_default c =
    let p = plan_of c.args.places.now in
    let g = setting_of c.args.ground.now in
    let x = c.args.instruction in
    let d = drawn_of c.args.words.now c.args.draft.now in
    let q = c.in_default in
    let other : IsOther x = is-other x q.not-Jump q.not-SkipZero q.not-SkipEqual q.not-Turn q.not-Call q.not-Return q.not-Fail q.not-Stop in
    let next = c.node_of-next.ensures ∙ ap (node_of p) c.in_ok-following.ensures in
    record {
      built = λ h t. (
          let k = c.in_ok-add_moves-in_default.ensures.built h in
          (k.0, place-checked _ _ p g _ c.args.place x c.node_of-next.result other next k.1)
          );
      whole = λ k. refl;
      made = λ t. c.in_ok-add_moves-in_default.ensures.made ∙ ap (made.add_moves (site_of g) d x) next ∙ other-drawn p c.args.places.now.whole.owners.now (site_of g) d c.args.place x other;
    }
