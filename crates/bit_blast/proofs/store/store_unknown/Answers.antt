use Rattle.std.proofs.Common.{◌≡◌, ◌≤◌, length, map, take, drop, List, arith, sym, ap, ◌∙◌, subst, ℕ}
use Rattle.prop.specs.declared.Lit.{Lit}
use Rattle.bit_gates.specs.Cut.{Grew}
use Rattle.bit_words.specs.Elements.{AllLong}
use Rattle.bit_words.proofs.WordPuts.{map-length}
use Rattle.bit_blast.specs.Held.{store_open, replaced}
use Rattle.bit_blast.proofs.Flat.{range-many, long-head, long-less}
use Rattle.bit_blast.proofs.Over.{store-open-long}
use Rattle.bit_blast.proofs.store.store_unknown.Goals as goal

pub put_store_open-requires-clause-some : goal.put_store_open-requires-clause-some
put_store_open-requires-clause-some c =
    let e = ap (map (λ c. c.items)) c.deref.ensures.value ∙ c.in_ok-olds.ensures in
    let m : length (map (λ c. c.items) c.deref.result.now) ≡ c.args.count = ap length e ∙ range-many c.args.first c.args.count c.args.cells.now c.requires.there in
    omega (arith, m, map-length (λ c. c.items) c.deref.result.now, c.requires.some)

pub put_store_open-requires-clause-widths : goal.put_store_open-requires-clause-widths
put_store_open-requires-clause-widths c =
    let e = ap (map (λ c. c.items)) c.deref.ensures.value ∙ c.in_ok-olds.ensures in
    subst (λ (t : List (List Lit)). AllLong (length c.args.value.now) t) (sym e) c.requires.widths

pub replace-requires-clause-there : goal.replace-requires-clause-there
replace-requires-clause-there c =
    let e = ap (map (λ c. c.items)) c.deref.ensures.value ∙ c.in_ok-olds.ensures in
    let m : length (map (λ c. c.items) c.deref.result.now) ≡ c.args.count = ap length e ∙ range-many c.args.first c.args.count c.args.cells.now c.requires.there in
    omega (arith, m, map-length (λ c. c.items) c.deref.result.now, c.in_ok-news.ensures.many, c.requires.there)

pub replace-requires-clause-widths : goal.replace-requires-clause-widths
replace-requires-clause-widths c =
    let e = ap (map (λ c. c.items)) c.deref.ensures.value ∙ c.in_ok-olds.ensures in
    let m : length (map (λ c. c.items) c.deref.result.now) ≡ c.args.count = ap length e ∙ range-many c.args.first c.args.count c.args.cells.now c.requires.there in
    let n : length c.in_ok-news.news.items ≤ c.args.count = omega (arith, m, map-length (λ c. c.items) c.deref.result.now, c.in_ok-news.ensures.many) in
    let w = long-head (length c.args.value.now) c.args.cells.now c.args.first c.args.count c.requires.some c.requires.there c.requires.widths in
    subst (λ (k : ℕ). AllLong k (take (length c.in_ok-news.news.items) (drop c.args.first c.args.cells.now))) (sym w)
    (long-less (length c.args.value.now) (length c.in_ok-news.news.items) c.args.count (drop c.args.first c.args.cells.now) n c.requires.widths)

pub replace-requires-clause-news : goal.replace-requires-clause-news
replace-requires-clause-news c =
    let e = ap (map (λ c. c.items)) c.deref.ensures.value ∙ c.in_ok-olds.ensures in
    let w = long-head (length c.args.value.now) c.args.cells.now c.args.first c.args.count c.requires.some c.requires.there c.requires.widths in
    let h : AllLong (length c.args.value.now) (map (λ c. c.items) c.deref.result.now)
    = subst (λ (t : List (List Lit)). AllLong (length c.args.value.now) t) (sym e) c.requires.widths in
    subst (λ (k : ℕ). AllLong k (map (λ c. c.items) c.in_ok-news.news.items)) (sym w)
    (subst (λ (t : List (List Lit)). AllLong (length c.args.value.now) t) (sym c.in_ok-news.ensures.grew.1)
    (store-open-long c.args.one c.args.net.now.next (map (λ c. c.items) c.deref.result.now) c.args.index.now c.args.value.now h))

pub returns-clause-grew : goal.returns-clause-grew
returns-clause-grew c =
    let e = ap (map (λ c. c.items)) c.deref.ensures.value ∙ c.in_ok-olds.ensures in
    let g = c.in_ok-news.ensures.grew in (
      subst (λ (t : List (List Lit)). Grew c.args.net.now.next c.args.net.now.defs.items c.put_store_open.new.net.next c.put_store_open.new.net.defs.items
          (store_open c.args.one c.args.net.now.next t c.args.index.now c.args.value.now).defs) e g.0,
      c.replace.ensures ∙ ap (λ (t : List (List Lit)). replaced c.args.cells.now c.args.first t)
          (g.1 ∙ ap (λ (t : List (List Lit)). (store_open c.args.one c.args.net.now.next t c.args.index.now c.args.value.now).cells) e),
    )
