use Rattle.std.proofs.Common.{ap, ◌∙◌, ◌<◌, ◌≡◌, ℕ, Option, Some, sym, subst, arith, length}
use Rattle.c_typed.specs.Rules as r
use Rattle.jump_rules.specs.declared.jumps.Jump.{Jump}
use Rattle.jump_rules.proofs.Naming.{Looks, left, looks_first, looks_more, looks_found, looks_none}
use Rattle.jump_rules.proofs.labels.is_entering.Goals as goal

pub loop-at-init : goal.loop-at-init
loop-at-init c = looks_first c.args.named.now.labels.now c.args.goto.now c.as_bytes.result.now c.args.named.now.last c.last_of-at.result c.requires.last c.as_bytes.ensures c.last_of-at.ensures

pub bounds-named-place : goal.bounds-named-place
bounds-named-place c =
    let at : Looks c.args.named.now.labels.now c.args.goto.now (Some c.in-Some.place) = subst (λ (z : Option ℕ). Looks c.args.named.now.labels.now c.args.goto.now z) c.in-Some.is c.loop-at.invariant in
    omega (arith, at.fits)

pub returns-then-enters : goal.returns-then-enters
returns-then-enters c =
    looks_found c.args.named.now.labels.now c.args.goto.now c.in-Some.place c.index-named-place.result c.enters.result
    (subst (λ (z : Option ℕ). Looks c.args.named.now.labels.now c.args.goto.now z) c.in-Some.is c.loop-at.invariant) c.index-named-place.is
    (c.enters.ensures ∙ ap (λ z. r.enters z c.deref-in-Some.result.now) c.deref.ensures.value ∙ ap (r.enters c.args.goto.now.scope.items) c.deref-in-Some.ensures.value ∙ ap (λ (z : Jump). r.enters c.args.goto.now.scope.items z.scope.items) (sym c.index-named-place.is)) c.if-enters.true

pub loop-at-smaller : goal.loop-at-smaller
loop-at-smaller c =
    subst (λ (z : Option ℕ). left c.before_of-at.result < left z) (sym c.in-Some.is)
    (looks_more c.args.named.now.labels.now c.args.goto.now c.in-Some.place c.index-named-place.result c.enters.result c.args.named.now.before.items c.before_of-at.result
    (subst (λ (z : Option ℕ). Looks c.args.named.now.labels.now c.args.goto.now z) c.in-Some.is c.loop-at.invariant) c.index-named-place.is
    (c.enters.ensures ∙ ap (λ z. r.enters z c.deref-in-Some.result.now) c.deref.ensures.value ∙ ap (r.enters c.args.goto.now.scope.items) c.deref-in-Some.ensures.value ∙ ap (λ (z : Jump). r.enters c.args.goto.now.scope.items z.scope.items) (sym c.index-named-place.is)) c.if-enters.false
    c.requires.before c.before_of-at.ensures).1

pub loop-at-preserved : goal.loop-at-preserved
loop-at-preserved c =
    (looks_more c.args.named.now.labels.now c.args.goto.now c.in-Some.place c.index-named-place.result c.enters.result c.args.named.now.before.items c.before_of-at.result
    (subst (λ (z : Option ℕ). Looks c.args.named.now.labels.now c.args.goto.now z) c.in-Some.is c.loop-at.invariant) c.index-named-place.is
    (c.enters.ensures ∙ ap (λ z. r.enters z c.deref-in-Some.result.now) c.deref.ensures.value ∙ ap (r.enters c.args.goto.now.scope.items) c.deref-in-Some.ensures.value ∙ ap (λ (z : Jump). r.enters c.args.goto.now.scope.items z.scope.items) (sym c.index-named-place.is)) c.if-enters.false
    c.requires.before c.before_of-at.ensures).0

pub returns : goal.returns
returns c = looks_none c.args.named.now.labels.now c.args.goto.now c.loop-at.at c.loop-at.invariant c.in_default.not-Some
