use Rattle.std.proofs.Common.{refl, sym, subst, ◌∷◌, [], ◌++◌, ℕ, List, Bool, if◌then◌else◌, ap, ◌∙◌}
use Rattle.code_moves.specs.Deeds.{Sets, SetsAt, AreDeeds}
use Rattle.code_moves.specs.Moves.{lows}
use Rattle.code_moves.proofs.Doing.{deeds-later, tells-later, pushed, set-fits, set-at-fits}
use Rattle.code_moves.proofs.Standing.{room-later, room-first}
use Rattle.c_graph.specs.declared.graph.Operation.TheVariants.{Set, SetAt}
use Rattle.c_terms.specs.declared.words.Words.{Words}
use Rattle.bv_term.specs.declared.term.TermId.{TermId}
use Rattle.c_terms.proofs.Choosing.{fails, holds}
use Rattle.c_graph.specs.declared.graph.Operation.{Operation}
use Rattle.code_moves.specs.Made as made
use Rattle.code_moves.proofs.moves.write_in.Goals as goal

pub returns-then-room-clause-does : goal.returns-then-room-clause-does
returns-then-room-clause-does c = λ ds h f room d ti tv.
    let r = c.args.room in
    let z = λ (s : List ℕ). c.in_ok-bits.ensures.shows s (f s) (tv s) in
    let g = (z []).grows in
    record {
      grows = g;
      does = subst (λ (b : Bool). AreDeeds c.narrow.new.words.terms c.push.new.self.items (ds ++ (if b then SetsAt r.first r.length h (lows c.args.ground.now.model r f) else Sets r.first (lows c.args.ground.now.model r f)) ∷ [])) (sym c.if-room.true)
          (pushed _ _ _ ds _ (SetsAt r.first r.length h (lows c.args.ground.now.model r f)) c.in_ok-push.ensures.items (deeds-later _ _ _ ds g d)
          (refl, refl, (64, tells-later _ _ _ 64 h g ti), (_, λ s. (z s).shows), set-at-fits _ r.first r.length _ 64 _ _ h _ (room-later _ _ _ r g room).elements (room-later _ _ _ r g room).wide (tells-later _ _ _ 64 h g ti) (λ s. (z s).shows)));
    }

pub returns-clause-does : goal.returns-clause-does
returns-clause-does c = λ ds h f room d ti tv.
    let r = c.args.room in
    let z = λ (s : List ℕ). c.in_ok-bits.ensures.shows s (f s) (tv s) in
    let g = (z []).grows in
    record {
      grows = g;
      does = subst (λ (b : Bool). AreDeeds c.narrow.new.words.terms c.push-2.new.self.items (ds ++ (if b then SetsAt r.first r.length h (lows c.args.ground.now.model r f) else Sets r.first (lows c.args.ground.now.model r f)) ∷ [])) (sym c.if-room.false)
          (pushed _ _ _ ds _ (Sets r.first (lows c.args.ground.now.model r f)) c.in_ok-push-2.ensures.items (deeds-later _ _ _ ds g d)
          (refl, (_, λ s. (z s).shows), set-fits _ _ _ _ _ (room-first _ _ r (room-later _ _ _ r g room)) (λ s. (z s).shows)));
    }

pub returns-then-room-clause-made : goal.returns-then-room-clause-made
returns-then-room-clause-made c =
    let r = c.args.room in
    let w = c.narrow.new.words in
    let ops = c.args.ops.now.items in
    ap (λ (xs : List Operation). (w, xs)) c.in_ok-push.ensures.items
    ∙ ap (λ (o : Operation). (w, ops ++ o ∷ [])) (holds r.is_array (SetAt r.first r.length c.args.index c.in_ok-bits.bits) (Set r.first c.in_ok-bits.bits) c.if-room.true)
    ∙ ap (λ (p : Words × TermId). (p.0, ops ++ made.set_in r c.args.index p.1 ∷ [])) c.in_ok-bits.ensures.made

pub returns-clause-made : goal.returns-clause-made
returns-clause-made c =
    let r = c.args.room in
    let w = c.narrow.new.words in
    let ops = c.args.ops.now.items in
    ap (λ (xs : List Operation). (w, xs)) c.in_ok-push-2.ensures.items
    ∙ ap (λ (o : Operation). (w, ops ++ o ∷ [])) (fails r.is_array (SetAt r.first r.length c.args.index c.in_ok-bits.bits) (Set r.first c.in_ok-bits.bits) c.if-room.false)
    ∙ ap (λ (p : Words × TermId). (p.0, ops ++ made.set_in r c.args.index p.1 ∷ [])) c.in_ok-bits.ensures.made
