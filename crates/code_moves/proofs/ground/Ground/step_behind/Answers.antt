use Rattle.std.proofs.Common.{refl, sym, append_assoc, ◌∙◌, ap, ◌++◌, ◌∷◌, [], ℕ, List, slice_index}
use Rattle.c_terms.proofs.Putting.{grows-twice, later}
use Rattle.code_moves.specs.Setting.{setting_of, site_of}
use Rattle.code_moves.specs.Values.{stepped}
use Rattle.code_moves.specs.Deeds.{Deed, Sets}
use Rattle.code_moves.specs.Moves.{writes, index_value, old_value, kept_cell, kept_deeds, kept_value}
use Rattle.code_moves.proofs.Standing.{stand-later, wide-later, as-wide}
use Rattle.code_moves.proofs.Doing.{deeds-later, pushed, set-fits, then-does, does-equal}
use Rattle.c_terms.proofs.Choosing.{three, two}
use Rattle.c_terms.specs.declared.words.Words.{Words}
use Rattle.bv_term.specs.declared.term.TermId.{TermId}
use Rattle.c_graph.specs.declared.graph.Operation.{Operation}
use Rattle.code_moves.proofs.Making.{so}
use Rattle.c_graph.specs.declared.graph.Operation.TheVariants.{Set}
use Rattle.code_moves.specs.Made as made
use Rattle.c_terms.specs.Made as term
use Rattle.code_moves.proofs.ground.Ground.step_behind.Goals as goal

pub returns-clause-does : goal.returns-clause-does
returns-clause-does c = λ ds h wide d.
    let w = setting_of c.args.self.now in
    let slot = c.args.slot in
    let object = c.args.object in
    let cell = c.args.cell in
    let z = λ (s : List ℕ). c.in_ok-index.ensures.shows s h in
    let n = λ (s : List ℕ). c.in_ok-old.ensures.shows s _ (stand-later _ _ _ (z []).grows h) (z s).shows in
    let g = grows-twice _ _ _ (z []).grows (n []).grows in
    let index = λ (s : List ℕ). later _ _ s _ _ _ (n []).grows (z s).shows in
    let k = c.in_ok-kept.ensures.ops ds (index_value w slot) (stand-later _ _ _ g h) (deeds-later _ _ _ ds g d) index in
    let kept = λ (s : List ℕ). c.in_ok-kept.ensures.kept (index_value w slot) s (stand-later _ _ _ g h) index in
    let ks : List Deed = kept_deeds (kept_cell w object) (index_value w slot) in
    let middle : List Deed = Sets cell (old_value w slot object) ∷ [] in
    let up = wide-later _ _ _ _ (grows-twice _ _ _ g k.grows) wide in
    let there = λ (s : List ℕ). later _ _ s _ _ _ k.grows (n s).shows in
    let p = pushed _ _ _ (ds ++ ks) _ (Sets cell (old_value w slot object)) c.in_ok-push.ensures.items k.does (refl, (64, there), set-fits _ _ _ _ _ up there) in
    let was = λ (s : List ℕ). c.in_ok-was.ensures.shows s up.0 in
    let new = λ (s : List ℕ). c.in_ok-new.ensures.shows s _ (as-wide _ s _ _ _ _ up.1 (was s).shows) in
    let more = grows-twice _ _ _ (was []).grows (new []).grows in
    let last : List Deed = writes w object (kept_value (kept_cell w object) (index_value w slot)) (λ store. stepped c.args.by c.args.kind c.args.self.now.model (slice_index store cell)) in
    does-equal _ _ _ _ _ _ (append_assoc (ds ++ ks) middle last ∙ append_assoc ds ks (middle ++ last) ∙ ap (λ (xs : List Deed). ds ++ xs) (sym (append_assoc ks middle last)))
    (then-does _ _ _ _ _ _ (grows-twice _ _ _ (grows-twice _ _ _ g k.grows) more)
    (c.write.ensures.does ((ds ++ ks) ++ middle) _ _ (stand-later _ _ _ (grows-twice _ _ _ (grows-twice _ _ _ g k.grows) more) h) (deeds-later _ _ _ _ more p) (λ s. later _ _ s _ _ _ more (kept s)) (λ s. (new s).shows)))

pub returns-clause-made : goal.returns-clause-made
returns-clause-made c =
    let g = site_of (setting_of c.args.self.now) in
    let e = c.in_ok-index.ensures.made in
    let f = c.in_ok-old.ensures.made ∙ ap (λ (p : Words × TermId). made.element g p.0 c.args.object p.1) e in
    let k = c.in_ok-kept.ensures.made ∙ two (λ (p q : Words × TermId). made.keep g q.0 c.args.ops.now.items c.args.object p.1) e f in
    let o = c.in_ok-push.ensures.items ∙ two (λ (q : Words × TermId) (z : Words × List Operation × TermId). z.1 ++ Set c.args.cell q.1 ∷ []) f k in
    let h = c.in_ok-was.ensures.made ∙ ap (λ (z : Words × List Operation × TermId). term.cell z.0 c.args.cell) k in
    let i = c.in_ok-new.ensures.made ∙ ap (λ (p : Words × TermId). made.stepped g p.0 c.args.by c.args.kind p.1) h in
    so _ _ _ _ c.write.ensures.made (three (λ (xs : List Operation) (z : Words × List Operation × TermId) (p : Words × TermId). made.write g p.0 xs c.args.object z.2 p.1) o k i)
