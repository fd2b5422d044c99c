use Rattle.std.proofs.Common.{◌≡◌, ℕ, true, List, slice_index, subst}
use Rattle.prop.specs.Trues.{listed}
use Rattle.resolution_log.specs.Codes.{place}
use Rattle.interpolants.specs.Sources.{last_end}
use Rattle.interpolants.proofs.Ending.{ends-exact}
use Rattle.interpolants.proofs.occurrences.Ends.new.Goals as goal

pub returns-clause-ends : goal.returns-clause-ends
returns-clause-ends c =
    let D : List ℕ → Type 0 = λ vs.
    (x : ℕ) → listed vs x ≡ true → slice_index c.in_ok-ends.ends.items (place vs x) ≡ last_end 0 0 c.args.clauses.now x in
    ends-exact _ _ _ c.in_ok-vars.ensures.covers (subst D c.deref.ensures.value c.in_ok-ends.ensures.ends)
