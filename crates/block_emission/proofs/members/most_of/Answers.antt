use Rattle.std.proofs.Common.{◌≡◌, ◌∙◌, ◌+◌, ap, drop, length, sym, ℕ}
use Rattle.std.specs.Prelude.{max}
use Rattle.block_emission.specs.Blocking.{most_from, places_of}
use Rattle.block_emission.proofs.Listing.{places-done, places-next}
use Rattle.block_emission.proofs.members.most_of.Goals as goal

pub loop-number-preserved : goal.loop-number-preserved
loop-number-preserved c =
    let ms = c.args.members.now in
    let k = c.loop-number.number in
    let x = c.index-members-number.result in
    let larger : c.larger-most.result ≡ max c.loop-number.most (length x.items) = c.larger-most.ensures.made ∙ ap (λ xs. max c.loop-number.most (length xs)) c.deref.ensures.value in
    ap (λ (m : ℕ). most_from m (drop (k + 1) (places_of ms))) larger
    ∙ sym (ap (most_from c.loop-number.most) (places-next ms k x c.loop-number-test.true c.index-members-number.is)) ∙ c.loop-number.invariant

pub returns : goal.returns
returns c =
    record { made = sym (ap (most_from c.loop-number.most) (places-done c.args.members.now c.loop-number.number c.loop-number-test.false)) ∙ c.loop-number.invariant }
