use Rattle.std.proofs.Common.{◌≡◌, ◌∙◌, ◌≤◌, ◌++◌, ◌∷◌, [], ℕ, suc, Bool, true, List, length, map, find, slice_get, arith, ap, sym, subst, set, get_or}
use Rattle.std.proofs.lemmas.Grind.{get_or_default_zero}
use Rattle.std.proofs.lemmas.List.{length-append}
use Rattle.type_scopes.specs.declared.entries.Entry.{Entry}
use Rattle.type_scopes.specs.declared.linked.Row.{Row}
use Rattle.c_meaning.specs.Scope.{is_tag}
use Rattle.type_scopes.specs.Seen.{entry_of, what_of}
use Rattle.type_scopes.specs.Found.{some_entry}
use Rattle.type_scopes.specs.Walking.{is_in_file}
use Rattle.type_scopes.specs.Buckets.{bucket}
use Rattle.type_scopes.specs.Chains.{IsKept, IsFirst, LinksTo, by_name, by_order, name_span, order_span, entries_of}
use Rattle.type_scopes.proofs.Chaining.{opened, added}
use Rattle.type_scopes.proofs.collected.Declarations.push.Goals as goal

-- the place of the first of a declaration's name in the file, where it is there
abbrev FirstFor : List Row → Entry → ℕ → Type 0
FirstFor xs e first =
    is_in_file e.name.now (entry_of e) ≡ true → some_entry (slice_get (entries_of xs) first) ≡ find (is_in_file e.name.now) (map entry_of (entries_of xs))

pub invariant_of-self-in_err-push : goal.invariant_of-self-in_err-push
invariant_of-self-in_err-push c =
    subst (λ xs. IsKept xs c.open.new.newest.items) (sym c.in_err-push.ensures.items)
    (opened c.self.inside.rows.items c.self.inside.newest.items c.open.new.newest.items c.self.invariant c.in_ok-open.ensures.taken c.in_ok-open.ensures.same)

pub invariant_of-self-2 : goal.invariant_of-self-2
invariant_of-self-2 c =
    let xs = c.self.inside.rows.items in
    let table = c.open.new.newest.items in
    let b = c.bucket_of-bucket.result in
    let row : Row = c.row_behind-row.result in
    let kept : IsKept xs table = opened xs c.self.inside.newest.items table c.self.invariant c.in_ok-open.ensures.taken c.in_ok-open.ensures.same in
    let older : c.index.result.now ≡ get_or table b 0 =
    c.index.ensures ∙ get_or_default_zero table b c.index.result.now (omega (arith, c.in_ok-open.ensures.taken, c.bucket_of-bucket.ensures.below)) in
    let same : row.entry ≡ c.args.entry = c.row_behind-row.ensures.entry in
    let name : LinksTo by_name xs (get_or table b 0) (name_span row.entry) row.name =
    subst (λ (e : Entry). LinksTo by_name xs (get_or table b 0) (name_span e) row.name) (sym same)
    (subst (λ n. LinksTo by_name xs n (name_span c.args.entry) row.name) older
    (subst (λ ys. LinksTo by_name ys c.index.result.now (name_span c.args.entry) row.name) c.deref.ensures.value c.row_behind-row.ensures.name)) in
    let order : LinksTo by_order xs (length xs) (order_span row.entry) row.order =
    subst (λ (e : Entry). LinksTo by_order xs (length xs) (order_span e) row.order) (sym same)
    (subst (λ ys. LinksTo by_order ys (length ys) (order_span c.args.entry) row.order) c.deref.ensures.value c.row_behind-row.ensures.order) in
    let view : entries_of xs ≡ c.args.self.now = c.self.view_is in
    let place : row.first ≡ c.first_with-first.result = c.row_behind-row.ensures.first in
    let few : row.first ≤ length (entries_of xs) = (let long = ap length view in omega (arith, place, long, c.first_with-first.ensures.few)) in
    let for_this : FirstFor xs c.args.entry c.first_with-first.result =
    (λ t. ap (λ es. some_entry (slice_get es c.first_with-first.result)) view ∙ c.first_with-first.ensures.found t ∙ sym (ap (λ es. find (is_in_file c.args.entry.name.now) (map entry_of es)) view)) in
    let first : IsFirst xs row = subst (λ n. FirstFor xs row.entry n) (sym place) (subst (λ (e : Entry). FirstFor xs e c.first_with-first.result) (sym same) for_this) in
    let items : c.push.new.self.items ≡ xs ++ row ∷ [] = c.in_ok-push.ensures.items in
    let longer = length-append xs (row ∷ []) in
    let counted : c.len.result ≡ suc (length xs) = c.len.ensures ∙ c.push.new.self.ok.0 ∙ ap length items ∙ omega (arith, longer) in
    let is : b ≡ by_name.bucket row = c.bucket_of-bucket.ensures.value ∙ ap (λ (t : Bool). bucket t c.args.entry.name.now) c.is_tag.ensures ∙ ap (λ (e : Entry). bucket (is_tag (what_of e.what)) e.name.now) (sym same) in
    subst (λ ys. IsKept ys (set table b c.len.result)) (sym items) (added xs table row b c.len.result kept c.in_ok-open.ensures.taken is c.bucket_of-bucket.ensures.below counted name order few first)
