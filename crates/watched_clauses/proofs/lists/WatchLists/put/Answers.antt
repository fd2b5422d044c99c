use Rattle.std.proofs.Common.{rules, arith, ◌≡◌, ◌∙◌, ap, sym, length, set, ℕ, List, ◌<◌}
use Rattle.watched_clauses.proofs.ContentLaws.{contents_length, contents_set}
use Rattle.watched_clauses.proofs.lists.WatchLists.put.Goals as goal

pub index_mut-requires : goal.index_mut-requires
index_mut-requires c =
    let e = ap length c.self.view_is in
    omega (arith, c.requires, e, contents_length c.self.inside.lists.items, c.self.inside.lists.ok.0)

pub returns : goal.returns
returns c = contents_set c.self.inside.lists.items c.args.code c.args.list ∙ ap (λ (w : List (List ℕ)). set w c.args.code c.args.list.items) c.self.view_is
