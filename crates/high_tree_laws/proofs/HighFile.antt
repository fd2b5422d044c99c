-- The whole machine stops at the limit on the height in each file that is too high.
use Rattle.std.proofs.Common.{◌≡◌, ◌≢◌, ℕ, ◌≤◌, ◌<◌, List, [], ◌∷◌, Bool, true, false, leb, refl, sym, ap, ◌∙◌, arith, leb-true, leb-false}
use Rattle.c_tree.specs.declared.symbol.Symbol.TheVariants as sy
use Rattle.c_tree.specs.declared.symbol.SymbolAt.{SymbolAt}
use Rattle.c_tree.specs.Symbols.{sign}
use Rattle.c_tree.specs.Spelling.{spell_item, spell_items}
use Rattle.c_tree.specs.Shape as sh
use Rattle.c_tree.specs.Height.{height_item, height_items}
use Rattle.c_tree.specs.Denotes.{IsSpelled, Begins, spelling}
use Rattle.c_tree.specs.Tree.{Item, tSkipped, tFunction, tDeclaration, tEmpty, Items, no_items, items_and}
use Rattle.parse_machine.specs.Contexts.{File, Ended}
use Rattle.parse_machine.specs.Declarations.{turn}
use Rattle.parse_machine.specs.Machine as ma
use Rattle.parse_machine.specs.Machine.{Plain, TooHigh, Going, Over}
use Rattle.parse_laws.proofs.CompleteRun.{run_append}
use Rattle.parse_laws.proofs.ReadItem.{IsRead}
use Rattle.parse_laws.proofs.SoundRun.{sound}
use Rattle.parse_laws.proofs.CompleteFile.{unique, refused}
use Rattle.high_tree_laws.proofs.Appended.{item_on}
use Rattle.high_tree_laws.proofs.Kept.{kept_item, counted_item}
use Rattle.high_tree_laws.proofs.Heights.{item_height}
use Rattle.high_tree_laws.proofs.ReadItem.{item_read}
use Rattle.high_tree_laws.proofs.FileRun.{file_run, refile, item_some}
use Rattle.high_tree_laws.proofs.HighRun.{item_high, over_stays}

counted_high : (i : Item) → 200 < height_item i → (c : Bool) → leb (counted_item i) 200 ≡ c → 200 < counted_item i
counted_high i l true q = absurd (omega (arith, l, item_height i (leb-true _ _ q)))
counted_high i l false q = leb-false _ _ q

item_unlisted : (i : Item) (ns : List (List ℕ)) → IsRead i → sh.ShapedItem i ns → sh.is_unlisted (spell_item i []) ≡ true
item_unlisted (tSkipped x a r c) ns n t = absurd n
item_unlisted (tFunction ws m ps ats x) ns n t = t.1
item_unlisted (tDeclaration d) ns n t = t.1
item_unlisted (tEmpty at) ns n t = refl

read_high : (i : Item) (is : Items) (ns : List (List ℕ)) → IsRead i → sh.ShapedItem i ns → 200 < height_item i → (rest : List SymbolAt) → ma.run (spell_item i rest) (Going (ma.state is ns (Plain File))) ≡ Over TooHigh
read_high i is ns n t l rest =
    let z = item_read i ns n t [] in
    ap (λ q. ma.run q (Going (ma.state is ns (Plain File)))) (item_on i [] rest)
    ∙ run_append (spell_item i []) rest (Going (ma.state is ns (Plain File)))
    ∙ ap (ma.run rest) (item_high (spell_item i []) is ns (item_unlisted i ns n t) (record { turn = turn (Ended (kept_item i) z.height) (sh.item_names i ns); walks = z.reads.goes; ended = tt }) (omega (arith, z.reads.high, counted_high i l (leb (counted_item i) 200) refl)))
    ∙ over_stays rest TooHigh

any_high : (i : Item) (is : Items) (ns : List (List ℕ)) → sh.ShapedItem i ns → 200 < height_item i → (rest : List SymbolAt) → ma.run (spell_item i rest) (Going (ma.state is ns (Plain File))) ≡ Over TooHigh
any_high (tSkipped x a r c) is ns t l rest = absurd (omega (arith, l))
any_high (tFunction ws m ps ats x) is ns t l rest = read_high (tFunction ws m ps ats x) is ns tt t l rest
any_high (tDeclaration d) is ns t l rest = read_high (tDeclaration d) is ns tt t l rest
any_high (tEmpty at) is ns t l rest = absurd (omega (arith, l))

last_high : (is : Items) (i : Item) → sh.ShapedItems (items_and is i) → 200 < height_items (items_and is i) → (rest : List SymbolAt) → (200 < height_items is → ma.run (spell_items is (spell_item i rest)) (Going ma.start) ≡ Over TooHigh) → (c : Bool) → leb (height_items is) 200 ≡ c → ma.run (spell_items (items_and is i) rest) (Going ma.start) ≡ Over TooHigh
last_high is i t l rest ih true q =
    let k : height_items is ≤ 200 = leb-true _ _ q in
    let w = file_run is t.0 k in
    w.runs (spell_item i rest) ∙ refile is w.height (spell_item i rest) (item_some i (sh.file_names is) t.1 rest) ∙ any_high i is (sh.file_names is) t.1 (omega (arith, l, k)) rest
last_high is i t l rest ih false q = ih (leb-false _ _ q)

file_high : (is : Items) → sh.ShapedItems is → 200 < height_items is → (rest : List SymbolAt) → ma.run (spell_items is rest) (Going ma.start) ≡ Over TooHigh
file_high no_items t l rest = absurd (omega (arith, l))
file_high (items_and is i) t l rest = last_high is i t l rest (λ k. file_high is t.0 k (spell_item i rest)) (leb (height_items is) 200) refl

-- A shaped tree that is higher than 200 is answered by the limit on the height.
pub too_high : (is : Items) → sh.ShapedItems is → 200 < height_items is → (at : ℕ) → ma.parse_of (spelling is at) ≡ TooHigh
too_high is t l at = ap ma.outcome (file_high is t l (sign sy.End at ∷ []))

-- What a fault says.

over_same : (r q : ma.Result) → Over r ≡ Over q → r ≡ q
over_same r q h = cc

low_or_high : (tokens : List SymbolAt) (answer : ma.Result) → ma.run tokens (Going ma.start) ≡ Over answer → answer ≢ TooHigh → (w : Begins tokens) → (c : Bool) → leb (height_items w.tree) 200 ≡ c → ⊥
low_or_high tokens answer h n w true q = refused tokens answer h (record { begins = w; low = leb-true _ _ q })
low_or_high tokens answer h n w false q =
    n (over_same answer TooHigh (sym (ap (λ z. ma.run z (Going ma.start)) w.spelled ∙ run_append tokens w.more (Going ma.start) ∙ ap (ma.run w.more) h ∙ over_stays w.more answer) ∙ file_high w.tree w.shaped (leb-false _ _ q) (sign sy.End w.end ∷ [])))

-- A fault comes only where no shaped tree begins with the tokens up to it.
pub faults : (tokens : List SymbolAt) (answer : ma.Result) → ma.run tokens (Going ma.start) ≡ Over answer → answer ≢ TooHigh → Begins tokens → ⊥
faults tokens answer h n w = low_or_high tokens answer h n w (leb (height_items w.tree) 200) refl

-- What a tree says.

no_tree : (tree : Items) → ma.Tree tree ≡ TooHigh → ⊥
no_tree tree h = cc

spelled_low : (tokens : List SymbolAt) (tree other : Items) → ma.parse_of tokens ≡ ma.Tree tree → IsSpelled tokens other → (c : Bool) → leb (height_items other) 200 ≡ c → height_items other ≤ 200
spelled_low tokens tree other h w true q = leb-true _ _ q
spelled_low tokens tree other h w false q = absurd (no_tree tree (sym h ∙ sym (ap ma.parse_of w.spelled) ∙ too_high other w.shaped (leb-false _ _ q) w.end))

-- A tree that is answered is at most 200 high, and the only one.
pub the_only : (tokens : List SymbolAt) (tree : Items) → ma.parse_of tokens ≡ ma.Tree tree → (height_items tree ≤ 200) × ((other : Items) → IsSpelled tokens other → other ≡ tree)
the_only tokens tree h =
    let w = sound tokens tree h in
    let l = spelled_low tokens tree tree h w (leb (height_items tree) 200) refl in
    (l, λ other z. unique tokens other tree z w (spelled_low tokens tree other h z (leb (height_items other) 200) refl) l)
