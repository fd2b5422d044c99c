use Rattle.std.proofs.Common.{◌≡◌, ℕ, Some, length, cond, nat_eq, ap, ◌∙◌, refl, rules}
use Rattle.std.specs.HashMap.{get}
use Rattle.interpolants.proofs.Agreeing.{placing-more}
use Rattle.interpolants.proofs.placing.CutBits.add.Goals as goal

pub returns-clause-placing : goal.returns-clause-placing
returns-clause-placing c =
    let q : c.len.result ≡ length c.pair_up.new.self.bits.items = search rules in
    λ h. placing-more _ c.pair_up.new.self _ c.args.placed h (c.in_ok-pair_up.ensures.paired h)
    (λ x. c.in_ok-insert.ensures.updates.0 x ∙ ap (λ (n : ℕ). cond (nat_eq c.args.placed.lit.var x) (Some n) (get nat_eq c.pair_up.new.self.places x)) q)
    c.in_ok-push.ensures.items refl
