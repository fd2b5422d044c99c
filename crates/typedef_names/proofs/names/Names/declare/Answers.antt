use Rattle.std.proofs.Common.{◌≡◌, ◌∙◌, ◌++◌, ◌∷◌, [], length, arith, ap, sym, subst, set, get_or}
use Rattle.std.proofs.lemmas.Grind.{get_or_default_zero}
use Rattle.typedef_names.specs.Chains.{IsKept}
use Rattle.typedef_names.specs.Buckets.{bucket}
use Rattle.typedef_names.specs.declared.names.Entry.{Entry}
use Rattle.typedef_names.proofs.ChainLemmas.{opened, declared}
use Rattle.typedef_names.proofs.names.Names.declare.Goals as goal

pub invariant_of-self-2 : goal.invariant_of-self-2
invariant_of-self-2 c =
    let entry : Entry = record { name = c.args.name; older = c.index-older.result.now } in
    let kept : IsKept c.self.inside.entries.items c.open.new.newest.items = opened c.self.inside.entries.items c.self.inside.newest.items c.open.new.newest.items c.self.invariant c.in_ok-open.ensures.taken c.in_ok-open.ensures.same in
    let older : c.index-older.result.now ≡ get_or c.open.new.newest.items c.bucket_of-bucket.result 0 =
    c.index-older.ensures ∙ get_or_default_zero c.open.new.newest.items c.bucket_of-bucket.result c.index-older.result.now (omega (arith, c.in_ok-open.ensures.taken, c.bucket_of-bucket.ensures.below)) in
    let items : c.push.new.self.items ≡ c.self.inside.entries.items ++ entry ∷ [] = c.in_ok-push.ensures.items in
    let more : IsKept (c.self.inside.entries.items ++ entry ∷ []) (set c.open.new.newest.items c.bucket_of-bucket.result c.len.result) =
    declared c.self.inside.entries.items c.open.new.newest.items entry c.bucket_of-bucket.result c.len.result kept c.in_ok-open.ensures.taken
    (c.bucket_of-bucket.ensures.value ∙ ap bucket c.as_bytes.ensures) c.bucket_of-bucket.ensures.below older (c.len.ensures ∙ c.push.new.self.ok.0 ∙ ap length items) in
    subst (λ es. IsKept es (set c.open.new.newest.items c.bucket_of-bucket.result c.len.result)) (sym items) more
