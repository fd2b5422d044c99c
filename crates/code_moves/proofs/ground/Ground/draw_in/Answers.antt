use Rattle.std.proofs.Common.{refl, ◌++◌, ◌∷◌, [], ℕ, List, slice_index, Bool, ap, ◌∙◌}
use Rattle.c_terms.specs.Numbers.{widened}
use Rattle.c_terms.proofs.Putting.{grows-twice}
use Rattle.code_moves.specs.Setting.{setting_of, site_of}
use Rattle.lv_base.specs.Integers.{is_signed}
use Rattle.code_moves.specs.Deeds.{Deed, Draws}
use Rattle.code_moves.specs.Moves.{fills}
use Rattle.code_moves.proofs.Standing.{stand-later, as-wide}
use Rattle.code_moves.proofs.Doing.{deeds-later, pushed, filled, regrouped, draw-fits}
use Rattle.c_terms.specs.declared.words.Words.{Words}
use Rattle.bv_term.specs.declared.term.TermId.{TermId}
use Rattle.c_graph.specs.declared.graph.Operation.TheVariants.{Draw}
use Rattle.code_moves.proofs.Making.{so, then-filled}
use Rattle.c_graph.specs.declared.graph.Operation.{Operation}
use Rattle.code_moves.specs.Made as made
use Rattle.c_terms.specs.Made as term
use Rattle.code_moves.proofs.ground.Ground.draw_in.Goals as goal

pub returns-clause-does : goal.returns-clause-does
returns-clause-does c = λ ds h wide d.
    let w = setting_of c.args.self.now in
    let first : List Deed = Draws c.args.cell (is_signed c.args.kind) ∷ [] in
    let p = pushed _ _ _ ds _ (Draws c.args.cell (is_signed c.args.kind)) c.in_ok-push.ensures.items d (refl, c.is_signed.ensures, draw-fits c.args.words.now.terms c.args.cell c.is_signed.result c.args.kind c.args.self.now.model wide) in
    let z = λ (s : List ℕ). c.in_ok-bits.ensures.shows s wide.0 in
    let n = λ (s : List ℕ). c.in_ok-value.ensures.shows s _ (as-wide _ s _ _ _ _ wide.1 (z s).shows) in
    let g = grows-twice _ _ _ (z []).grows (n []).grows in
    regrouped _ _ _ _ ds first (fills w c.args.slot (λ store. widened c.args.kind c.args.self.now.model (slice_index store c.args.cell)))
    (filled _ _ _ _ _ g (c.fill.ensures.does _ (ds ++ first) _ (stand-later _ _ _ g h) (deeds-later _ _ _ (ds ++ first) g p) (λ s. (n s).shows)))

pub returns-clause-made : goal.returns-clause-made
returns-clause-made c =
    let g = site_of (setting_of c.args.self.now) in
    let before = c.args.ops.now.items in
    let e = c.in_ok-value.ensures.made ∙ ap (λ (p : Words × TermId). term.widen p.0 c.args.kind g.model p.1) c.in_ok-bits.ensures.made in
    let o = c.in_ok-push.ensures.items ∙ ap (λ (b : Bool). before ++ Draw c.args.cell b ∷ []) c.is_signed.ensures in
    so _ _ _ _ (then-filled _ g _ _ _ c.push.new.self.items c.args.slot _ c.fill.ensures.made e) (ap (λ (xs : List Operation). made.filled g (term.widen (term.cell c.args.words.now c.args.cell).0 c.args.kind g.model (term.cell c.args.words.now c.args.cell).1) xs c.args.slot) o)
