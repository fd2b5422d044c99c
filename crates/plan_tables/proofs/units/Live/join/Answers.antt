use Rattle.std.proofs.Common.{rules, ◌≡◌, ◌<◌, length, refl, slice_index_or, ◌∙◌, ap, Some, slice_get}
use Rattle.std.proofs.lemmas.Option.{slice_get_read}
use Rattle.plan_tables.specs.Tables.{LiveRows}
use Rattle.plan_tables.specs.Made.{live_grows, live_join}
use Rattle.plan_tables.proofs.Rowing.{grows, joined}
use Rattle.plan_tables.proofs.units.Live.join.Goals as goal

pub returns-clause-made : goal.returns-clause-made
returns-clause-made c =
    let lt : c.args.node < length c.self.inside.rows.items = search rules in
    let is : c.index_mut.result.now ≡ slice_index_or c.self.inside.rows.items c.args.node c.index_mut.result.now = search rules in
    let there : slice_get c.self.inside.rows.items c.args.node ≡ Some c.index_mut.result.now = slice_get_read c.self.inside.rows.items _ c.args.node c.index_mut.result.now refl lt is in
    joined c.self.inside.rows.items c.self.inside.is_whole c.args.node c.index_mut.result.now c.add_words.new.row c.args.scratch.now there c.add_words.ensures.made
    ∙ ap (λ (live : LiveRows). live_join live c.args.node c.args.scratch.now) c.self.view_is

pub returns-clause-grows : goal.returns-clause-grows
returns-clause-grows c =
    let lt : c.args.node < length c.self.inside.rows.items = search rules in
    let is : c.index_mut.result.now ≡ slice_index_or c.self.inside.rows.items c.args.node c.index_mut.result.now = search rules in
    let there : slice_get c.self.inside.rows.items c.args.node ≡ Some c.index_mut.result.now = slice_get_read c.self.inside.rows.items _ c.args.node c.index_mut.result.now refl lt is in
    c.add_words.ensures.grows ∙ grows c.self.inside.rows.items c.self.inside.is_whole c.args.node c.index_mut.result.now c.args.scratch.now there
    ∙ ap (λ (live : LiveRows). live_grows live c.args.node c.args.scratch.now) c.self.view_is
