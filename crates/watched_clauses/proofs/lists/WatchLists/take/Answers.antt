use Rattle.std.proofs.Common.{arith, ◌≡◌, ◌∙◌, ap, sym, length, set, ℕ, List, ◌<◌, get_or, []}
use Rattle.std.specs.Global.{Vec}
use Rattle.watched_clauses.proofs.ContentLaws.{contents_length, contents_set, items_at}
use Rattle.watched_clauses.proofs.lists.WatchLists.take.Goals as goal

pub index_mut-requires : goal.index_mut-requires
index_mut-requires c =
    let e = ap length c.self.view_is in
    omega (arith, c.requires, e, contents_length c.self.inside.lists.items, c.self.inside.lists.ok.0)

pub returns-clause-list : goal.returns-clause-list
returns-clause-list c =
    let lt : c.args.code < length c.self.inside.lists.items = omega (arith, c.requires, ap length c.self.view_is, contents_length c.self.inside.lists.items) in
    ap (λ (w : Vec ℕ). w.items) c.replace.ensures.value ∙ items_at c.self.inside.lists.items c.args.code c.index_mut.result.now c.args.self.now lt c.index_mut.ensures.value c.self.view_is

pub returns-clause-left : goal.returns-clause-left
returns-clause-left c = contents_set c.self.inside.lists.items c.args.code c.replace.new.dest ∙ ap (λ w. set w c.args.code c.replace.new.dest.items) c.self.view_is ∙ ap (λ (w : Vec ℕ). set c.args.self.now c.args.code w.items) c.replace.ensures.after ∙ ap (set c.args.self.now c.args.code) c.new.ensures.items
