use Rattle.std.proofs.Common.{arith, ◌≡◌, ◌∙◌, ap, sym, length, ℕ, List, ◌<◌, get_or, [], ◌∷◌, ◌++◌, ◌+◌, length-append, subst}
use Rattle.watched_clauses.specs.Contents.{contents}
use Rattle.watched_clauses.proofs.ContentLaws.{contents_length, contents_push, empty_push}
use Rattle.watched_clauses.proofs.lists.WatchLists.new.Goals as goal

pub loop-code-preserved : goal.loop-code-preserved
loop-code-preserved c =
    let more : contents c.push.new.self.items ≡ contents c.loop-code.lists.items ++ ([] ∷ []) = ap contents c.in_ok-push.ensures.items ∙ contents_push c.loop-code.lists.items c.new.result ∙ ap (λ w. contents c.loop-code.lists.items ++ (w ∷ [])) c.new.ensures.items in (
      omega (arith, ap length c.in_ok-push.ensures.items, length-append c.loop-code.lists.items (c.new.result ∷ []), c.loop-code.invariant.0),
      subst (λ w. (code : ℕ) → get_or w code [] ≡ []) (sym more) (empty_push (contents c.loop-code.lists.items) c.loop-code.invariant.1),
    )

pub returns-clause-len : goal.returns-clause-len
returns-clause-len c = omega (arith, contents_length c.loop-code.lists.items, c.loop-code.invariant.0, c.loop-code-test.false)
