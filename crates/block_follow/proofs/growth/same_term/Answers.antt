use Rattle.std.proofs.Common.{rules, ◌≡◌, sym, ◌∙◌, true}
use Rattle.block_follow.proofs.growth.same_term.Goals as goal
use Rattle.bv_term.specs.contracts.term.TermPartialEq.TheImpl.{ghosts}
use Rattle.block_follow.proofs.Same.{same}

pub returns-clause-tells : goal.returns-clause-tells
returns-clause-tells c = λ t.
    let h : c.eq.result ≡ ghosts.eq c.args.old c.args.new = c.eq.ensures in
    let holds : c.eq.result ≡ true = search rules in
    same c.args.old c.args.new (sym h ∙ holds)
