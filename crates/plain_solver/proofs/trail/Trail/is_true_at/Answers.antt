use Rattle.std.proofs.Common.{rules, ◌≡◌, ◌∙◌, sym, ap, arith, ℕ, ◌+◌, ◌*◌, ◌&&◌, Bool, true, false, get_or, cond, nat_le, rules}
use Rattle.prop.specs.Trues.{listed}
use Rattle.resolution_log.specs.Codes.{code_of, place}
use Rattle.clause_learning.specs.Trail.{set_at}
use Rattle.clause_learning.proofs.StoreLaws.{level_read, level_absent, level_else}
use Rattle.plain_solver.proofs.trail.Trail.is_true_at.Goals as goal

pub returns-else-index : goal.returns-else-index
returns-else-index c =
    let e : c.code_at.result ≡ code_of c.args.self.now.vars.items c.args.l = search rules in
    let t : get_or c.args.self.now.truth.items (code_of c.args.self.now.vars.items c.args.l) c.index.result.now ≡ false = ap (λ w. get_or c.args.self.now.truth.items w c.index.result.now) (sym e) ∙ sym c.index.ensures ∙ c.if-index.false in
    c.if-index.false ∙ sym (level_else c.args.self.now.vars.items c.args.self.now.levels.items c.args.self.now.truth.items c.args.self.now.entries.items c.args.l c.args.level c.index.result.now c.if-index.false t c.args.self.now.valued)

pub returns-in-None : goal.returns-in-None
returns-in-None c =
    let h : listed c.args.self.now.vars.items c.args.l.var ≡ false = search rules in
    sym (level_absent c.args.self.now.vars.items c.args.self.now.truth.items c.args.self.now.entries.items c.args.l c.args.level c.args.self.now.wide h c.args.self.now.valued)
