use Rattle.std.proofs.Common.{sym, ap, ◌∙◌, ◌++◌, Option, Ok, ℕ}
use Rattle.code_layout.specs.Layout.{drawn_cell}
use Rattle.code_moves.specs.Setting.{setting_of, site_of}
use Rattle.code_moves.specs.Moves.{draws_to}
use Rattle.code_moves.proofs.Doing.{does-none, does-equal}
use Rattle.code_moves.proofs.Making.{so}
use Rattle.code_moves.specs.Made as made
use Rattle.code_moves.proofs.ground.Ground.draw.Goals as goal

pub returns-in-None-clause-does : goal.returns-in-None-clause-does
returns-in-None-clause-does c = λ ds h d.
    let w = setting_of c.args.self.now in
    let is = c.in-None.ensures ∙ ap (drawn_cell w.lay) c.width.ensures.width in
    does-equal (Ok tt) _ _ _ _ _ (ap (λ (o : Option ℕ). ds ++ draws_to w c.args.slot c.args.kind o) is) (does-none _ _ ds d)

pub returns-in-Some-clause-does : goal.returns-in-Some-clause-does
returns-in-Some-clause-does c = λ ds h d.
    let w = setting_of c.args.self.now in
    let is = c.in-Some.ensures ∙ ap (drawn_cell w.lay) c.width.ensures.width in
    does-equal _ _ _ _ _ _ (ap (λ (o : Option ℕ). ds ++ draws_to w c.args.slot c.args.kind o) is) (c.draw_in.ensures.does ds h (h.lies.draws _ _ (sym is)) d)

pub returns-in-None-clause-made : goal.returns-in-None-clause-made
returns-in-None-clause-made c =
    let g = site_of (setting_of c.args.self.now) in
    ap (made.draw_to g c.args.words.now c.args.ops.now.items c.args.slot c.args.kind) (c.in-None.ensures ∙ ap (drawn_cell g.lay) c.width.ensures.width)

pub returns-in-Some-clause-made : goal.returns-in-Some-clause-made
returns-in-Some-clause-made c =
    let g = site_of (setting_of c.args.self.now) in
    so _ _ _ _ c.draw_in.ensures.made (ap (made.draw_to g c.args.words.now c.args.ops.now.items c.args.slot c.args.kind) (c.in-Some.ensures ∙ ap (drawn_cell g.lay) c.width.ensures.width))
