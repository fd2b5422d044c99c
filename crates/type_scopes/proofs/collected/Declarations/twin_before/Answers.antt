use Rattle.std.proofs.Common.{◌≡◌, ◌∙◌, ◌-◌, length, arith, ap, sym, refl}
use Rattle.std.specs.Prelude.{map}
use Rattle.std.proofs.lemmas.Option.{slice_get_within, slice_get_read}
use Rattle.type_scopes.specs.Buckets.{bucket}
use Rattle.type_scopes.specs.declared.entries.Entry.{Entry}
use Rattle.c_meaning.specs.Scope.{is_tag}
use Rattle.type_scopes.specs.Seen.{entry_of, declared_of, what_of}
use Rattle.type_scopes.specs.Chains.{by_name}
use Rattle.type_scopes.specs.Walking.{last_where, is_twin}
use Rattle.type_scopes.proofs.Joining.{seeking_starts, seeking_jumps, seeking_goes, seeking_meets, seeking_ends}
use Rattle.type_scopes.proofs.Walks.{no_twin, other_twin, name_few, viewed_entry, read, older_less, jump_less}
use Rattle.type_scopes.proofs.collected.Declarations.twin_before.Goals as goal

pub bucket-init : goal.bucket-init
bucket-init c =
    let xs = c.self.inside.rows.items in
    let x = c.index-this.result.now in
    let at = slice_get_read xs (length xs) c.args.place x refl (omega (arith, c.if-place-len.false, c.len.ensures, c.self.inside.rows.ok.0)) c.index-this.ensures in
    let is = c.self.invariant.names c.args.place x at in
    let within = slice_get_within xs c.args.place x at in
    seeking_starts by_name (bucket (is_tag (what_of x.entry.what)) x.entry.name.now) (is_twin (declared_of x.entry)) xs (other_twin (declared_of x.entry)) x.name.older c.args.place is.few (omega (arith, within)) is.older is.free

pub index-row-requires : goal.index-row-requires
index-row-requires c =
    let few = name_few (bucket (is_tag (what_of c.index-this.result.now.entry.what)) c.index-this.result.now.entry.name.now) c.self.inside.rows.items c.bucket.left c.bucket.invariant.leads in
    omega (arith, few, c.bucket-test.true)

pub bucket-smaller-then-is_apart : goal.bucket-smaller-then-is_apart
bucket-smaller-then-is_apart c =
    let few = name_few (bucket (is_tag (what_of c.index-this.result.now.entry.what)) c.index-this.result.now.entry.name.now) c.self.inside.rows.items c.bucket.left c.bucket.invariant.leads in
    let at = read c.self.inside.rows.items c.bucket.left c.index-row.result.now c.bucket-test.true few c.index-row.ensures in
    jump_less by_name c.self.inside.rows.items c.bucket.left c.index-row.result.now c.self.invariant.names c.bucket-test.true at

pub bucket-preserved-then-is_apart : goal.bucket-preserved-then-is_apart
bucket-preserved-then-is_apart c =
    let xs = c.self.inside.rows.items in
    let x = c.index-row.result.now in
    let d = declared_of c.index-this.result.now.entry in
    let n = bucket (is_tag (what_of c.index-this.result.now.entry.what)) c.index-this.result.now.entry.name.now in
    let k = c.bucket.left - 1 in
    let few = name_few n xs c.bucket.left c.bucket.invariant.leads in
    let at = read xs c.bucket.left x c.bucket-test.true few c.index-row.ensures in
    seeking_jumps by_name n (is_twin d) xs (other_twin d) c.args.place c.bucket.left k x (omega (arith, c.bucket-test.true)) at (c.self.invariant.names k x at) c.bucket.invariant
    (λ z w. no_twin d x.name.span z (sym c.is_apart.ensures ∙ c.if-is_apart.true) w)

pub returns-then-is_twin : goal.returns-then-is_twin
returns-then-is_twin c e h =
    let xs = c.self.inside.rows.items in
    let x = c.index-row.result.now in
    let y = c.index-this.result.now in
    let d = declared_of y.entry in
    let n = bucket (is_tag (what_of y.entry.what)) y.entry.name.now in
    let k = c.bucket.left - 1 in
    let few = name_few n xs c.bucket.left c.bucket.invariant.leads in
    let at = read xs c.bucket.left x c.bucket-test.true few c.index-row.ensures in
    let there = slice_get_read xs (length xs) c.args.place y refl (omega (arith, c.if-place-len.false, c.len.ensures, c.self.inside.rows.ok.0)) c.index-this.ensures in
    let same : y.entry ≡ e = viewed_entry xs c.args.self.now c.args.place y e c.self.view_is there h in
    seeking_meets by_name n (is_twin d) xs (other_twin d) c.args.place c.bucket.left k x (omega (arith, c.bucket-test.true)) at c.bucket.invariant (sym c.is_twin.ensures ∙ c.if-is_twin.true)
    ∙ ap (λ es. last_where (is_twin d) (map entry_of es) c.args.place) c.self.view_is
    ∙ ap (λ (f : Entry). last_where (is_twin (declared_of f)) (map entry_of c.args.self.now) c.args.place) same

pub bucket-smaller : goal.bucket-smaller
bucket-smaller c =
    let few = name_few (bucket (is_tag (what_of c.index-this.result.now.entry.what)) c.index-this.result.now.entry.name.now) c.self.inside.rows.items c.bucket.left c.bucket.invariant.leads in
    let at = read c.self.inside.rows.items c.bucket.left c.index-row.result.now c.bucket-test.true few c.index-row.ensures in
    older_less by_name c.self.inside.rows.items c.bucket.left c.index-row.result.now c.self.invariant.names c.bucket-test.true at

pub bucket-preserved : goal.bucket-preserved
bucket-preserved c =
    let xs = c.self.inside.rows.items in
    let x = c.index-row.result.now in
    let d = declared_of c.index-this.result.now.entry in
    let n = bucket (is_tag (what_of c.index-this.result.now.entry.what)) c.index-this.result.now.entry.name.now in
    let k = c.bucket.left - 1 in
    let few = name_few n xs c.bucket.left c.bucket.invariant.leads in
    let at = read xs c.bucket.left x c.bucket-test.true few c.index-row.ensures in
    seeking_goes by_name n (is_twin d) xs (other_twin d) c.args.place c.bucket.left k x (omega (arith, c.bucket-test.true)) at (c.self.invariant.names k x at) c.bucket.invariant (sym c.is_twin.ensures ∙ c.if-is_twin.false)

pub returns : goal.returns
returns c e h =
    let xs = c.self.inside.rows.items in
    let y = c.index-this.result.now in
    let d = declared_of y.entry in
    let n = bucket (is_tag (what_of y.entry.what)) y.entry.name.now in
    let there = slice_get_read xs (length xs) c.args.place y refl (omega (arith, c.if-place-len.false, c.len.ensures, c.self.inside.rows.ok.0)) c.index-this.ensures in
    let same : y.entry ≡ e = viewed_entry xs c.args.self.now c.args.place y e c.self.view_is there h in
    seeking_ends by_name n (is_twin d) xs (other_twin d) c.args.place c.bucket.left (omega (arith, c.bucket-test.false)) c.bucket.invariant
    ∙ ap (λ es. last_where (is_twin d) (map entry_of es) c.args.place) c.self.view_is
    ∙ ap (λ (f : Entry). last_where (is_twin (declared_of f)) (map entry_of c.args.self.now) c.args.place) same
