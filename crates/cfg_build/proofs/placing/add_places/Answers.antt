use Rattle.std.proofs.Common.{◌≡◌, suc, ◌+◌, ◌-◌, ◌<◌, ◌∙◌, false, refl, sym, ap, arith, rules}
use Rattle.std.specs.Prelude.{IsTrue}
use Rattle.c_terms.proofs.Putting.{grows-none}
use Rattle.c_terms.proofs.Choosing.{two}
use Rattle.code_moves.specs.Setting.{setting_of, site_of}
use Rattle.code_moves.proofs.Standing.{stand-later}
use Rattle.cfg_build.specs.Follows.{plan_of, FirstFollow}
use Rattle.cfg_build.specs.Steps.{next_of}
use Rattle.cfg_build.specs.Made as made
use Rattle.cfg_build.specs.Made.{drawn_of}
use Rattle.cfg_build.proofs.Graphing.{next-follows, can-stand, exit-stands}
use Rattle.cfg_build.proofs.Following.{built-none, place-more, places-end}
use Rattle.cfg_build.proofs.Drawing.{still}
use Rattle.cfg_build.proofs.placing.add_places.Goals as goal

pub loop-number-init : goal.loop-number-init
loop-number-init c = (
  λ h. (grows-none c.args.words.now, built-none c.args.draft.now (FirstFollow (plan_of c.args.places.now) (setting_of c.args.ground.now) c.args.words.now.terms 0) (refl, refl)),
  refl,
)

pub loop-number-preserved : goal.loop-number-preserved
loop-number-preserved c =
    let p = plan_of c.args.places.now in
    let owners = c.args.places.now.whole.owners.now in
    let g = setting_of c.args.ground.now in
    let n = c.loop-number.number in
    let t : IsTrue c.in_ok-add_next.field-0 = search rules in
    let f : suc n ≡ n + 1 = omega arith in (
      λ h. (
          let b = c.loop-number.invariant.0 h in
          place-more _ _ _ _ _ _ p g n _ _ b (c.in_ok-add_next.ensures.built (stand-later _ _ _ b.0 h) t) c.in_ok-place.ensures f
          ),
      c.in_ok-add_next.ensures.made t ∙ two (made.add_next p owners (site_of g)) c.loop-number.invariant.1 c.in_ok-place.ensures
          ∙ ap (made.add_first p owners (site_of g) (drawn_of c.args.words.now c.args.draft.now)) f,
    )

pub returns-clause-built : goal.returns-clause-built
returns-clause-built c = λ h.
    let e : c.loop-number.number ≡ c.args.places.now.range.end - c.args.places.now.range.entry = omega (arith, c.saturating_sub-count.ensures) in
    places-end _ _ _ _ _ _ (plan_of c.args.places.now) (setting_of c.args.ground.now) _ (c.loop-number.invariant.0 h) e c.add_exit.ensures.built

pub returns-clause-made : goal.returns-clause-made
returns-clause-made c =
    let p = plan_of c.args.places.now in
    let owners = c.args.places.now.whole.owners.now in
    let g = site_of (setting_of c.args.ground.now) in
    let e : c.loop-number.number ≡ c.args.places.now.range.end - c.args.places.now.range.entry = omega (arith, c.saturating_sub-count.ensures) in
    still _ _ _ _ (c.add_exit.ensures.made c.loop-number.words)
    (ap made.add_exit (c.loop-number.invariant.1 ∙ ap (made.add_first p owners g (drawn_of c.args.words.now c.args.draft.now)) e))

pub returns-then-not-branch-clause-whole : goal.returns-then-not-branch-clause-whole
returns-then-not-branch-clause-whole c = λ h f.
    let p = c.args.places.now in
    let n = c.loop-number.number in
    let b = c.loop-number.invariant.0 h in
    let lt : n < p.range.end - p.range.entry = omega (arith, c.loop-number-test.true, c.saturating_sub-count.ensures) in
    let count = next-follows c.args.draft.now c.loop-number.draft (plan_of p) (setting_of c.args.ground.now) c.loop-number.words.terms n b.1 in
    let x = can-stand p c.args.ground.now.layout.now (next_of c.args.draft.now) n c.in_ok-place.place (next_of c.loop-number.draft) f lt c.in_ok-place.ensures count in
    let stands : IsTrue c.in_ok-add_next.field-0 = c.in_ok-add_next.ensures.whole x.0 x.1 in
    let fails : c.in_ok-add_next.field-0 ≡ false = search rules in
    sym fails ∙ stands

pub returns-clause-whole : goal.returns-clause-whole
returns-clause-whole c = λ h f.
    let p = c.args.places.now in
    let e : c.loop-number.number ≡ p.range.end - p.range.entry = omega (arith, c.saturating_sub-count.ensures) in
    let b = c.loop-number.invariant.0 h in
    let count = next-follows c.args.draft.now c.loop-number.draft (plan_of p) (setting_of c.args.ground.now) c.loop-number.words.terms c.loop-number.number b.1 in
    c.add_exit.ensures.whole (exit-stands p c.args.ground.now.layout.now (next_of c.args.draft.now) c.loop-number.number (next_of c.loop-number.draft) f e count)
