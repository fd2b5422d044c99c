-- Instructions get their sites one after the other, and functions those of their code.
use Rattle.std.proofs.Common.{◌≡◌, ℕ, zero, suc, ◌+◌, ◌-◌, ◌<◌, ◌≤◌, List, [], ◌∷◌, ◌++◌, length, take, drop, get_or, Option, Some, None, refl, sym, ap, ◌∙◌, arith}
use Rattle.std.specs.Prelude.{slice_get}
use Rattle.std.proofs.lemmas.List.{append_assoc, drop-drop, drop_all, length-drop, take_all}
use Rattle.c_typed.specs.Tree.{Function}
use Rattle.c_tree.specs.Tree.{Body, Items, items_and}
use Rattle.c_tree.specs.View as v
use Rattle.c_tree.specs.declared.tree.Item as tree
use Rattle.slot_code.specs.declared.flat.Instruction.{Instruction}
use Rattle.slot_code.specs.Values as c
use Rattle.slot_values.specs.declared.scene.Link.{Link}
use Rattle.slot_values.specs.Seen.{link_of, links_behind, links_of}
use Rattle.trace_sites.specs.declared.site.Site.{Site}
use Rattle.trace_sites.specs.declared.site.Part.{Part}
use Rattle.trace_lines.specs.Pairing.{Sites, with_site, part_of, fit_of, fit_next, fitted, body_in, or_body, body_at, sites_up_to, function_sites, entry_at}
use Rattle.trace_lines.specs.declared.pairing.Fit.TheVariants.{Without, With, Nothing}
use Rattle.trace_lines.proofs.Lists.{take_more, get_first}

-- sites that were got, in front of others
abbrev pub got_and : Sites → Option Sites → Option Sites
got_and got None = None
got_and got (Some sites) = Some (got ++ sites)

with_more : (got : Sites) (site : Option Site) (rest : Option Sites) → got_and (got ++ site ∷ []) rest ≡ got_and got (with_site site rest)
with_more got site None = refl
with_more got site (Some sites) = ap (λ x. Some x) (append_assoc got (site ∷ []) sites)

drop_one : (found : List Site) (used : ℕ) → drop 1 (drop used found) ≡ drop (used + 1) found
drop_one found used = drop-drop 1 used found

module _ (code : List Instruction) (found : List Site) (place used : ℕ) (x : Instruction) (got : Sites) (there : drop place code ≡ x ∷ drop (place + 1) code) (is : got_and got (fitted (drop place code) (drop used found)) ≡ fitted code found) where
  abbrev rest : List Site → Option Sites
  rest sites = fitted (drop (place + 1) code) sites

  opened : got_and got (fit_next (fit_of (part_of x) (slice_get found used)) (drop used found) rest) ≡ fitted code found
  opened =
      ap (λ o. got_and got (fit_next (fit_of (part_of x) o) (drop used found) rest)) (sym (get_first found used))
      ∙ sym (ap (λ xs. got_and got (fitted xs (drop used found))) there) ∙ is

  pub gets_none : Without ≡ fit_of (part_of x) (slice_get found used) → got_and (got ++ None ∷ []) (rest (drop used found)) ≡ fitted code found
  gets_none e = with_more got None (rest (drop used found)) ∙ ap (λ f. got_and got (fit_next f (drop used found) rest)) e ∙ opened

  pub gets_site : (site : Site) → With site ≡ fit_of (part_of x) (slice_get found used) → got_and (got ++ Some site ∷ []) (rest (drop (used + 1) found)) ≡ fitted code found
  gets_site site e =
      with_more got (Some site) (rest (drop (used + 1) found))
      ∙ ap (λ sites. got_and got (with_site (Some site) (rest sites))) (sym (drop_one found used))
      ∙ ap (λ f. got_and got (fit_next f (drop used found) rest)) e ∙ opened

  pub gets_nothing : Nothing ≡ fit_of (part_of x) (slice_get found used) → None ≡ fitted code found
  gets_nothing e = ap (λ f. got_and got (fit_next f (drop used found) rest)) e ∙ opened

-- a site that is got is one of those that were found
pub site_there : (p : Option Part) (found : List Site) (used : ℕ) (site : Site) → With site ≡ fit_of p (slice_get found used) → used + 1 ≤ length found
site_there None [] used site e = absurd cc
site_there (Some p) [] zero site e = absurd cc
site_there (Some p) [] (suc n) site e = absurd cc
site_there p (y ∷ ys) zero site e = omega arith
site_there p (y ∷ ys) (suc n) site e = omega (arith, site_there p ys n site e)

-- sites that are left fit no code
none_fit : (found : List Site) → 0 < length found → None ≡ fitted [] found
none_fit [] b = absurd (omega (arith, b))
none_fit (y ∷ ys) b = refl

pub left_over : (code : List Instruction) (found : List Site) (place used : ℕ) (got : Sites) → length code ≤ place → used < length found → got_and got (fitted (drop place code) (drop used found)) ≡ fitted code found → None ≡ fitted code found
left_over code found place used got past low is =
    ap (got_and got) (none_fit (drop used found) (omega (arith, length-drop used found, low)) ∙ ap (λ xs. fitted xs (drop used found)) (sym (drop_all place code past))) ∙ is

-- ---- Links, the newest one last

links_more : (ls : List c.Link) (xs : List Link) (x : Link) → links_behind ls (xs ++ x ∷ []) ≡ link_of x ∷ links_behind ls xs
links_more ls [] x = refl
links_more ls (y ∷ ys) x = links_more (link_of y ∷ ls) ys x

pub links_next : (xs : List Link) (i : ℕ) (d : Link) → i < length xs → links_of (take (i + 1) xs) ≡ link_of (get_or xs i d) ∷ links_of (take i xs)
links_next xs i d b = ap links_of (take_more xs i d b) ∙ links_more [] (take i xs) (get_or xs i d)

pub links_last : (xs : List Link) (n : ℕ) (d : Link) → 0 < n → n ≤ length xs → links_of (take n xs) ≡ link_of (get_or xs (n - 1) d) ∷ links_of (take (n - 1) xs)
links_last xs n d a b = let e : n - 1 + 1 ≡ n = omega (arith, a) in ap (λ k. links_of (take k xs)) (sym e) ∙ links_next xs (n - 1) d (omega (arith, a, b))

-- ---- Items, the last one outermost

items_more : (is : Items) (xs : List tree.Item) (x : tree.Item) → v.items_behind is (xs ++ x ∷ []) ≡ items_and (v.items_behind is xs) (v.item_of x)
items_more is [] x = refl
items_more is (y ∷ ys) x = items_more (items_and is (v.item_of y)) ys x

pub body_next : (xs : List tree.Item) (i : ℕ) (d : tree.Item) (at : ℕ) → i < length xs → body_at (v.items_of (take (i + 1) xs)) at ≡ or_body (body_in (v.item_of (get_or xs i d)) at) (body_at (v.items_of (take i xs)) at)
body_next xs i d at b = ap (λ ys. body_at (v.items_of ys) at) (take_more xs i d b) ∙ ap (λ (k : Items). body_at k at) (items_more _ (take i xs) (get_or xs i d))

pub body_last : (xs : List tree.Item) (n : ℕ) (d : tree.Item) (at : ℕ) → 0 < n → n ≤ length xs → body_at (v.items_of (take n xs)) at ≡ or_body (body_in (v.item_of (get_or xs (n - 1) d)) at) (body_at (v.items_of (take (n - 1) xs)) at)
body_last xs n d at a b = let e : n - 1 + 1 ≡ n = omega (arith, a) in ap (λ k. body_at (v.items_of (take k xs)) at) (sym e) ∙ body_next xs (n - 1) d at (omega (arith, a, b))

pub body_left : (xs : List tree.Item) (n : ℕ) (x : tree.Item) (at : ℕ) (body whole : Option Body) → 0 < n → n ≤ length xs → x ≡ get_or xs (n - 1) x → body ≡ body_in (v.item_of x) at →
    body_at (v.items_of (take n xs)) at ≡ whole → or_body body (body_at (v.items_of (take (n - 1) xs)) at) ≡ whole
body_left xs n x at body whole a b found own is =
    ap (λ o. or_body o (body_at (v.items_of (take (n - 1) xs)) at)) (own ∙ ap (λ y. body_in (v.item_of y) at) found) ∙ sym (body_last xs n x at a b) ∙ is

-- ---- Functions, one behind the other

entry_there : (ls : List Link) (i end : ℕ) (d : Link) → i < length ls → entry_at ls i end ≡ (get_or ls i d).entry
entry_there [] i end d b = absurd (omega (arith, b))
entry_there (l ∷ ls) zero end d b = refl
entry_there (l ∷ ls) (suc i) end d b = entry_there ls i end d (omega (arith, b))

entry_past : (ls : List Link) (i end : ℕ) → length ls ≤ i → entry_at ls i end ≡ end
entry_past [] zero end b = refl
entry_past [] (suc i) end b = refl
entry_past (l ∷ ls) zero end b = absurd (omega (arith, b))
entry_past (l ∷ ls) (suc i) end b = entry_past ls i end (omega (arith, b))

module _ (items : Items) (functions : List Function) (code : List Instruction) (ls : List Link) (end : ℕ) where
  abbrev before : ℕ → ℕ → Sites
  before i stop = sites_up_to items functions code (links_of (take i ls)) stop

  pub paired_more : (i : ℕ) (x : Link) (sites own : Sites) (stop : ℕ) → i < length ls → x ≡ get_or ls i x → sites ≡ before i (entry_at ls i end) → stop ≡ entry_at ls (i + 1) end →
      own ≡ function_sites items functions code (link_of x) stop → sites ++ own ≡ before (i + 1) (entry_at ls (i + 1) end)
  paired_more i x sites own stop b found s e o =
      let entry : entry_at ls i end ≡ x.entry = entry_there ls i end x b ∙ ap (λ (l : Link). l.entry) (sym found) in
      let links : links_of (take (i + 1) ls) ≡ link_of x ∷ links_of (take i ls) = links_next ls i x b ∙ ap (λ (l : Link). link_of l ∷ links_of (take i ls)) (sym found) in
      ap (λ k. k ++ own) (s ∙ ap (before i) entry)
      ∙ ap (λ k. before i x.entry ++ k) (o ∙ ap (function_sites items functions code (link_of x)) e)
      ∙ sym (ap (λ k. sites_up_to items functions code k (entry_at ls (i + 1) end)) links)

  pub paired_next : (i : ℕ) (x : Link) (sites own sites1 own1 : Sites) (ls1 : List Link) (code1 : List Instruction) (end1 stop : ℕ) → i < length ls → x ≡ get_or ls i x → sites ≡ before i (entry_at ls i end) →
      ls1 ≡ ls → end1 ≡ end → stop ≡ entry_at ls1 (i + 1) end1 → code1 ≡ code → own ≡ function_sites items functions code1 (link_of x) stop → own1 ≡ own → sites1 ≡ sites ++ own1 → sites1 ≡ before (i + 1) (entry_at ls (i + 1) end)
  paired_next i x sites own sites1 own1 ls1 code1 end1 stop b found s l n e c o same more =
      more ∙ ap (λ k. sites ++ k) same
      ∙ paired_more i x sites own stop b found s (e ∙ ap (λ k. entry_at k (i + 1) end1) l ∙ ap (entry_at ls (i + 1)) n) (o ∙ ap (λ k. function_sites items functions k (link_of x) stop) c)

  pub paired_all : (i : ℕ) → length ls ≤ i → before i (entry_at ls i end) ≡ sites_up_to items functions code (links_of ls) end
  paired_all i b = ap (before i) (entry_past ls i end b) ∙ ap (λ k. sites_up_to items functions code (links_of k) end) (take_all i ls b)
