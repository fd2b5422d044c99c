use Rattle.std.proofs.Common.{◌∙◌, ◌++◌, [], map, take, ap, sym, append-nil}
use Rattle.std.proofs.lemmas.Result.{IfOk-equal}
use Rattle.first_broken.specs.Seen.{broken_of}
use Rattle.type_scopes.specs.Seen as seen
use Rattle.declaration_rules.specs.Twice as t
use Rattle.declaration_rules.proofs.Twins.{no_lines, lines_here}
use Rattle.declaration_rules.proofs.doubles.add_lines_at.Goals as goal

pub returns-in-None : goal.returns-in-None
returns-in-None c =
    let old = map broken_of c.args.lines.now.items in
    sym (append-nil old) ∙ ap (λ ls. old ++ ls) (sym (no_lines (seen.env_of c.args.env.now) c.args.model c.args.env.now.entries c.args.place c.in-None.ensures))

pub returns-in-Some : goal.returns-in-Some
returns-in-Some c =
    let old = map broken_of c.args.lines.now.items in
    let env = seen.env_of c.args.env.now in
    IfOk-equal c.add_lines.result (map broken_of c.add_lines.new.lines.items) (old ++ t.lines_of env c.args.model (take c.args.place env.entries) (seen.entry_of c.in-Some.entry.now))
    (old ++ t.lines_at env c.args.model (take c.args.place env.entries) _)
    c.add_lines.ensures (ap (λ ls. old ++ ls) (sym (lines_here env c.args.model c.args.env.now.entries c.args.place c.in-Some.entry.now (sym c.in-Some.ensures))))
