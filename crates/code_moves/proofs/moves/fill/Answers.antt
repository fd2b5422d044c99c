use Rattle.std.proofs.Common.{refl, sym, subst, ◌++◌, Option, ℕ, ap, ◌∙◌}
use Rattle.code_moves.specs.Deeds.{Sets, AreDeeds}
use Rattle.code_moves.specs.Moves.{fills_cell}
use Rattle.code_moves.proofs.Doing.{kept, pushed, set-fits}
use Rattle.code_moves.specs.Made as made
use Rattle.code_moves.proofs.moves.fill.Goals as goal

pub returns-in-None-clause-does : goal.returns-in-None-clause-does
returns-in-None-clause-does c = λ w ds f st h k. subst (λ (o : Option ℕ). AreDeeds w.terms c.args.ops.now.items (ds ++ fills_cell o f)) c.in-None.ensures (kept w.terms _ ds h)

pub returns-in_ok-push-in-Some-clause-does : goal.returns-in_ok-push-in-Some-clause-does
returns-in_ok-push-in-Some-clause-does c = λ w ds f st h k.
    subst (λ (o : Option ℕ). AreDeeds w.terms c.push.new.self.items (ds ++ fills_cell o f)) c.in-Some.ensures (pushed w.terms _ _ ds _ (Sets c.in-Some.cell f) c.in_ok-push-in-Some.ensures.items h (refl, (64, k), set-fits w.terms _ 64 _ f (st.lies.slots _ _ (sym c.in-Some.ensures)) k))

pub returns-in-None-clause-made : goal.returns-in-None-clause-made
returns-in-None-clause-made c = ap (λ (o : Option ℕ). made.fill_at c.args.ops.now.items o c.args.value) c.in-None.ensures

pub returns-in_ok-push-in-Some-clause-made : goal.returns-in_ok-push-in-Some-clause-made
returns-in_ok-push-in-Some-clause-made c = c.in_ok-push-in-Some.ensures.items ∙ ap (λ (o : Option ℕ). made.fill_at c.args.ops.now.items o c.args.value) c.in-Some.ensures
