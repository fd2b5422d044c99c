use Rattle.std.proofs.Common.{◌∙◌, ◌++◌, ◌∷◌, [], arith, ap, subst}
use Rattle.typedef_names.specs.Chains.{IsKept}
use Rattle.typedef_names.specs.Buckets.{bucket}
use Rattle.typedef_names.proofs.ChainLemmas.{has_table, forgotten}
use Rattle.typedef_names.proofs.names.Names.forget.Goals as goal

pub index_mut-requires : goal.index_mut-requires
index_mut-requires c =
    let kept : IsKept (c.pop.new.self.items ++ c.in-Some.entry ∷ []) c.self.inside.newest.items = subst (λ es. IsKept es c.self.inside.newest.items) (c.in-Some.ensures.items) c.self.invariant in
    let size = has_table c.pop.new.self.items c.self.inside.newest.items c.in-Some.entry c.bucket_of-bucket.result kept (c.bucket_of-bucket.ensures.value ∙ ap bucket c.as_bytes.ensures) c.bucket_of-bucket.ensures.below in
    omega (arith, size, c.bucket_of-bucket.ensures.below)

pub invariant_of-self : goal.invariant_of-self
invariant_of-self c =
    let kept : IsKept (c.pop.new.self.items ++ c.in-Some.entry ∷ []) c.self.inside.newest.items = subst (λ es. IsKept es c.self.inside.newest.items) (c.in-Some.ensures.items) c.self.invariant in
    forgotten c.pop.new.self.items c.self.inside.newest.items c.in-Some.entry c.bucket_of-bucket.result kept (c.bucket_of-bucket.ensures.value ∙ ap bucket c.as_bytes.ensures) c.bucket_of-bucket.ensures.below
