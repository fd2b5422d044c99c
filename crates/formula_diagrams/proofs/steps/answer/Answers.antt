use Rattle.std.proofs.Common.{◌≡◌, ◌≢◌, ℕ, ◌+◌, ◌-◌, ◌<◌, ◌≤◌, ◌&&◌, ◌||◌, ◌==◌, Bool, true, false, not, List, [], ◌∷◌, ◌++◌, length, refl, sym, ap, ◌∙◌, subst, arith, rules, Some, Result, Ok, Err, slice_get, zero, suc}
use Rattle.std.specs.Prelude.{Option}
use Rattle.std.specs.Option.{option_to_list}
use Rattle.formula_diagrams.specs.declared.steps.Frame.{Frame}
use Rattle.formula_diagrams.specs.declared.steps.Frame.TheVariants.{Low, High}
use Rattle.formula_diagrams.proofs.Turning.{answered-top, answered-low, answered-high}
use Rattle.formula_diagrams.proofs.steps.answer.Goals as goal

pub close-requires-clause-split : goal.close-requires-clause-split
close-requires-clause-split c =
    let e : c.args.frames.now.items ≡ c.pop.new.self.items ++ High c.in-High.halves c.in-High.low ∷ [] =
    c.pop.ensures.items ∙ ap (λ (o : Option Frame). c.pop.new.self.items ++ option_to_list o) (c.in-Some.is ∙ ap (λ (f : Frame). Some f) c.in-High.is) in
    (answered-top _ _ _ _ _ _ _ e c.requires.turn).0

pub close-requires-clause-low : goal.close-requires-clause-low
close-requires-clause-low c =
    let e : c.args.frames.now.items ≡ c.pop.new.self.items ++ High c.in-High.halves c.in-High.low ∷ [] =
    c.pop.ensures.items ∙ ap (λ (o : Option Frame). c.pop.new.self.items ++ option_to_list o) (c.in-Some.is ∙ ap (λ (f : Frame). Some f) c.in-High.is) in
    (answered-top _ _ _ _ _ _ _ e c.requires.turn).1

pub close-requires-clause-high : goal.close-requires-clause-high
close-requires-clause-high c =
    let e : c.args.frames.now.items ≡ c.pop.new.self.items ++ High c.in-High.halves c.in-High.low ∷ [] =
    c.pop.ensures.items ∙ ap (λ (o : Option Frame). c.pop.new.self.items ++ option_to_list o) (c.in-Some.is ∙ ap (λ (f : Frame). Some f) c.in-High.is) in
    (answered-top _ _ _ _ _ _ _ e c.requires.turn).2

pub returns-in_ok-push-in-Low-clause-step : goal.returns-in_ok-push-in-Low-clause-step
returns-in_ok-push-in-Low-clause-step c =
    let e : c.args.frames.now.items ≡ c.pop.new.self.items ++ Low c.in-Low.halves ∷ [] =
    c.pop.ensures.items ∙ ap (λ (o : Option Frame). c.pop.new.self.items ++ option_to_list o) (c.in-Some.is ∙ ap (λ (f : Frame). Some f) c.in-Low.is) in
    λ p t. answered-low _ _ p _ _ _ _ _ e c.in_ok-push-in-Low.ensures.items t

pub returns-in_ok-made-in-High-clause-step : goal.returns-in_ok-made-in-High-clause-step
returns-in_ok-made-in-High-clause-step c =
    let e : c.args.frames.now.items ≡ c.pop.new.self.items ++ High c.in-High.halves c.in-High.low ∷ [] =
    c.pop.ensures.items ∙ ap (λ (o : Option Frame). c.pop.new.self.items ++ option_to_list o) (c.in-Some.is ∙ ap (λ (f : Frame). Some f) c.in-High.is) in
    λ p t. answered-high _ _ _ p _ _ _ _ _ _ _ e refl c.close.ensures.grown c.in_ok-made-in-High.ensures.means t
