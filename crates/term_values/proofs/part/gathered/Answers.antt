use Rattle.std.proofs.Common.{rules, ◌≡◌, length, ◌++◌, ◌∷◌, [], ℕ, List, ap, sym, refl, ◌∙◌}
use Rattle.term_values.proofs.Waiting.{waits-first, waits-less, waits-more, waits-none, waits-there}
use Rattle.term_values.proofs.part.gathered.Goals as goal

pub loop-k-init : goal.loop-k-init
loop-k-init c =
    waits-first c.args.terms.now c.nothing-part.result c.args.term c.push.new.self.items c.count-count.ensures.table c.nothing-part.ensures.sources
    c.nothing-part.ensures.terms c.nothing-part.ensures.places c.requires
    (c.in_ok-push.ensures.items ∙ ap (λ (xs : List ℕ). xs ++ c.args.term.0 ∷ []) c.new-waiting.ensures.items)

pub get-requires : goal.get-requires
get-requires c =
    waits-there c.args.terms.now c.loop-k.part c.args.term c.loop-k.waiting.items c.pop.new.self.items c.in-Some.k c.loop-k.invariant c.in-Some.ensures.items

pub loop-k-smaller-in-Continue-branch-3 : goal.loop-k-smaller-in-Continue-branch-3
loop-k-smaller-in-Continue-branch-3 c =
    (waits-more c.args.terms.now c.loop-k.part c.args.term c.loop-k.waiting.items c.pop.new.self.items c.push-in-Some-lacking-2.new.self.items c.in-Some.k c.get.result
    c.in-Some-lacking.operand c.count-count.ensures.table c.loop-k.invariant c.in-Some.ensures.items c.get.ensures (sym c.lacking.ensures ∙ c.in-Some-lacking.is)
    (c.in_ok-push-in-Some-lacking-2.ensures.items ∙ ap (λ (xs : List ℕ). xs ++ c.in-Some-lacking.operand.0 ∷ []) c.in_ok-push-in-Some-lacking.ensures.items)).1

pub loop-k-preserved-in-Continue-branch-3 : goal.loop-k-preserved-in-Continue-branch-3
loop-k-preserved-in-Continue-branch-3 c =
    (waits-more c.args.terms.now c.loop-k.part c.args.term c.loop-k.waiting.items c.pop.new.self.items c.push-in-Some-lacking-2.new.self.items c.in-Some.k c.get.result
    c.in-Some-lacking.operand c.count-count.ensures.table c.loop-k.invariant c.in-Some.ensures.items c.get.ensures (sym c.lacking.ensures ∙ c.in-Some-lacking.is)
    (c.in_ok-push-in-Some-lacking-2.ensures.items ∙ ap (λ (xs : List ℕ). xs ++ c.in-Some-lacking.operand.0 ∷ []) c.in_ok-push-in-Some-lacking.ensures.items)).0

pub place-requires-clause-there : goal.place-requires-clause-there
place-requires-clause-there c =
    waits-there c.args.terms.now c.loop-k.part c.args.term c.loop-k.waiting.items c.pop.new.self.items c.in-Some.k c.loop-k.invariant c.in-Some.ensures.items

pub loop-k-smaller : goal.loop-k-smaller
loop-k-smaller c =
    (waits-less c.args.terms.now c.loop-k.part c.place.new.part c.args.term c.loop-k.waiting.items c.pop.new.self.items c.pop.new.self.items c.in-Some.k c.loop-k.invariant
    c.in-Some.ensures.items c.in_ok-place-in-None.ensures.part c.in_ok-place-in-None.ensures.placed refl).1

pub loop-k-preserved : goal.loop-k-preserved
loop-k-preserved c =
    (waits-less c.args.terms.now c.loop-k.part c.place.new.part c.args.term c.loop-k.waiting.items c.pop.new.self.items c.pop.new.self.items c.in-Some.k c.loop-k.invariant
    c.in-Some.ensures.items c.in_ok-place-in-None.ensures.part c.in_ok-place-in-None.ensures.placed refl).0

pub returns-clause-placed : goal.returns-clause-placed
returns-clause-placed c =
    let none : length c.loop-k.waiting.items ≡ 0 = search rules in
    waits-none c.args.terms.now c.loop-k.part c.args.term c.loop-k.waiting.items c.loop-k.invariant none
