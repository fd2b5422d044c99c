use Rattle.std.proofs.Common.{rules, ◌≡◌, ◌++◌, [], ◌∷◌}
use Rattle.std.proofs.lemmas.Result.{MatchResult-weaker}
use Rattle.bit_gates.specs.Cut.{Cut}
use Rattle.bit_gates.specs.Net.{net_clauses}
use Rattle.bit_blast.specs.Held.{blast_of}
use Rattle.obligations.specs.Stated.{formula_at, signed}
use Rattle.obligations.proofs.CutOff.{denied_is, said_is, stated_first, stated_last}
use Rattle.obligations.proofs.clauses.state.Goals.{then-holds, else-holds}
use Rattle.obligations.proofs.clauses.state.Goals as goal

pub returns-in-Err-clause-cut : goal.returns-in-Err-clause-cut
returns-in-Err-clause-cut c =
    let m = c.args.map.now in
    let t = formula_at m c.args.node in
    let h = c.args.bits.now in
    let cut : Cut c.in-Err.end c.args.clauses.now (net_clauses h.next (blast_of m.terms t h).defs) c.blast.new.clauses = search rules in
    stated_first c.args.holds m.terms t h c.args.clauses.now c.blast.new.clauses c.in-Err.end cut

pub returns-after-holds-clause-cut : goal.returns-after-holds-clause-cut
returns-after-holds-clause-cut c =
    let m = c.args.map.now in
    let t = formula_at m c.args.node in
    let h = c.args.bits.now in
    let whole : c.blast.new.clauses ≡ c.args.clauses.now ++ net_clauses h.next (blast_of m.terms t h).defs = search rules in
    let outs : c.in-Ok.lit ∷ [] ≡ (blast_of m.terms t h).outs = search rules in
    let is : c.if-holds.said ∷ [] ≡ signed c.args.holds (blast_of m.terms t h).outs = elim c.if-holds.branch [
      | then-holds w ↦ said_is c.args.holds c.in-Ok.lit c.if-holds.said (blast_of m.terms t h).outs outs (search rules) (search rules)
      | else-holds w ↦ denied_is c.args.holds c.in-Ok.lit c.if-holds.said (blast_of m.terms t h).outs outs (search rules) (search rules)
    ] in
    MatchResult-weaker c.push.result c.push.ensures (λ _ _. tt)
    (λ e f. stated_last c.args.holds m.terms t h c.args.clauses.now c.blast.new.clauses c.push.new.self (c.if-holds.said ∷ []) e whole is f.0 f.1)
