use Rattle.std.proofs.Common.{rules, ◌≡◌, ◌+◌, ◌<◌, ◌++◌, List, [], ◌∷◌, length, drop, ap, ◌∙◌, refl, arith}
use Rattle.std.proofs.lemmas.Iterator.Adapters.{YieldsList-from_vec}
use Rattle.std.proofs.lemmas.Iterator.Consumers.{YieldsList-turn}
use Rattle.std.proofs.lemmas.List.{length_push}
use Rattle.resolution_log.specs.declared.Chain.{Chain}
use Rattle.clause_learning.specs.Cuts.{need_in, cut_from}
use Rattle.clause_learning.proofs.ConeLaws.{ranged_at, names_wider, mark_read, cut_kept, cut_left_out}
use Rattle.clause_learning.proofs.cone.cut.Goals as goal
use Rattle.clause_learning.proofs.cone.cut.Goals.{then-index+in_ok-rename+in_ok-push, else-index}

pub rename-requires : goal.rename-requires
rename-requires c =
    let t = YieldsList-turn (YieldsList-from_vec c.args.chains.items (search rules) (search rules)) c.loop-chain.yielded c.loop-chain.chain-iterator c.loop-chain.yielded_by c.next.result c.next.new.self c.in-Some.chain c.in-Some.is c.next.ensures.steps in
    names_wider c.in-Some.chain (c.args.base + length c.loop-chain.yielded) (length c.args.cone.now.marks.items) (omega (arith, c.requires.all, t.0)) (ranged_at c.args.chains.items c.args.base (length c.loop-chain.yielded) c.in-Some.chain c.requires.ranged t.0 t.1)

pub loop-chain-preserved : goal.loop-chain-preserved
loop-chain-preserved c =
    let t = YieldsList-turn (YieldsList-from_vec c.args.chains.items (search rules) (search rules)) c.loop-chain.yielded c.loop-chain.chain-iterator c.loop-chain.yielded_by c.next.result c.next.new.self c.in-Some.chain c.in-Some.is c.next.ensures.steps in
    let place : c.loop-chain.at ≡ c.args.base + length c.loop-chain.yielded = c.loop-chain.invariant.place in
    let more : length (c.loop-chain.yielded ++ (c.in-Some.chain ∷ [])) ≡ length c.loop-chain.yielded + 1 = length_push c.loop-chain.yielded c.in-Some.chain in
    let within : c.loop-chain.at < length c.args.cone.now.marks.items = omega (arith, place, t.0, c.requires.all) in
    let mark = mark_read c.args.cone.now.marks.items c.loop-chain.at c.index.result.now within c.index.ensures in
    record {
      rest = elim c.if-index.branch [
        | then-index+in_ok-rename+in_ok-push w ↦ ap (λ (x : List Chain). x ++ cut_from (need_in c.args.cone.now.marks.items) (c.loop-chain.at + 1) (drop (length (c.loop-chain.yielded ++ (c.in-Some.chain ∷ []))) c.args.chains.items)) (w.log-is ∙ w.in_ok-push.ensures.pushed) ∙ cut_kept (need_in c.args.cone.now.marks.items) c.loop-chain.log c.args.base c.loop-chain.at (length c.loop-chain.yielded) (c.loop-chain.at + 1) (length (c.loop-chain.yielded ++ (c.in-Some.chain ∷ []))) c.args.chains.items c.in-Some.chain t.0 t.1 refl more c.loop-chain.invariant.rest w.in_ok-rename.field-0 (mark ∙ w.if-index.true) w.in_ok-rename.ensures
        | else-index w ↦ ap (λ (x : List Chain). x ++ cut_from (need_in c.args.cone.now.marks.items) (c.loop-chain.at + 1) (drop (length (c.loop-chain.yielded ++ (c.in-Some.chain ∷ []))) c.args.chains.items)) w.log-is ∙ cut_left_out (need_in c.args.cone.now.marks.items) c.loop-chain.log c.args.base c.loop-chain.at (length c.loop-chain.yielded) (c.loop-chain.at + 1) (length (c.loop-chain.yielded ++ (c.in-Some.chain ∷ []))) c.args.chains.items c.in-Some.chain t.0 t.1 refl more c.loop-chain.invariant.rest (mark ∙ w.if-index.false)
      ];
      place = omega (arith, place, more);
    }
