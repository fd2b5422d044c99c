-- Items that are skipped, and files of items that are not too high.
use Rattle.std.proofs.Common.{◌≡◌, ℕ, ◌≤◌, List, [], ◌∷◌, Option, None, Some, Bool, true, false, ◌||◌, not, if◌then◌else◌, leb, refl, subst, ap, ◌∙◌, arith}
use Rattle.c_tree.specs.declared.symbol.StorageWord.TheVariants as storage
use Rattle.c_tree.specs.declared.symbol.Symbol.{Symbol}
use Rattle.c_tree.specs.declared.symbol.Symbol.TheVariants as sy
use Rattle.c_tree.specs.declared.symbol.SymbolAt.{SymbolAt}
use Rattle.c_tree.specs.declared.known.Site.TheVariants as site
use Rattle.c_tree.specs.Symbols.{sign}
use Rattle.c_tree.specs.Spelling.{spell_raw, spell_item, spell_items}
use Rattle.c_tree.specs.Shape as sh
use Rattle.c_tree.specs.Words.{nothing_known}
use Rattle.c_tree.specs.Tree.{Raw, no_raw, raw_and, wExtension, declares, Item, tSkipped, tFunction, tDeclaration, tEmpty, Items, no_items, items_and}
use Rattle.parse_machine.specs.Contexts.{placeFile, aroundPlace, Mode, File, Ended, Specifiers}
use Rattle.parse_machine.specs.Making as mk
use Rattle.parse_machine.specs.Heights.{high, low}
use Rattle.c_tree.specs.Height as hg
use Rattle.parse_machine.specs.Declarations.{Turn}
use Rattle.parse_machine.specs.Steps as steps
use Rattle.parse_machine.specs.Machine as ma
use Rattle.parse_machine.specs.Machine.{Phase, Plain, Both, Skipping, Above, State, Extern, Answer, Goes, Refused, High, Result, Tree, Syntax, Unsupported, TooHigh, Course, Going, Over, Role, listedRole, semicolonRole, stopRole, otherRole}
use Rattle.parse_laws.proofs.ReadSt.{NoElse, typed_no_else}
use Rattle.parse_laws.proofs.Externs.{Out, OutTurn, extern_out, next_out}
use Rattle.parse_laws.proofs.Walk.{above_is}
use Rattle.parse_laws.proofs.ReadItem.{item_read}
use Rattle.parse_laws.proofs.CompleteRun.{goes, item_run}

-- Items that are skipped.

abbrev OutOption : Option Mode → Type 0
OutOption None = Unit {0}
OutOption (Some m) = Out m

pub record IsBoth (is : Items) (ns : List (List ℕ)) (x : Extern) (s : State) : Type 0 where
  pub mode : Option Mode
  pub high : Bool
  pub same : s ≡ ma.state is ns (Both x mode high)
  pub out : OutOption mode

both_is : (is : Items) (ns : List (List ℕ)) (x : Extern) (high : Bool) (o : Option Turn) → OutTurn ns o → IsBoth is ns x (ma.both is ns x high o)
both_is is ns x high None w = record { mode = None; high = high; same = refl; out = tt }
both_is is ns x high (Some u) w = record { mode = Some u.mode; high = high || not (leb (low u.mode) 200); same = ap (λ z. ma.state is z (Both x (Some u.mode) (high || not (leb (low u.mode) 200)))) w.0; out = w.1 }

role_is : (t : Symbol) (d : Bool) → sh.is_stop t ≡ false → sh.is_listed t ≡ d → ma.role t ≡ (if d then listedRole else otherRole)
role_is sy.Semicolon d h g = cc
role_is t d h g = ap (λ c. if c then stopRole else (if sh.is_listed t then listedRole else otherRole)) h ∙ ap (λ c. if c then listedRole else otherRole) g

-- the state behind these tokens, of which one is listed, or none
abbrev AtRaw : Items → List (List ℕ) → Option ℕ → ℕ → Bool → Raw → State → Type 0
AtRaw is ns e at true r s = s ≡ ma.state is ns (Skipping (ma.extern e at r))
AtRaw is ns e at false r s = IsBoth is ns (ma.extern e at r) s

pub record RawStep (is : Items) (ns : List (List ℕ)) (e : Option ℕ) (at : ℕ) (c : Bool) (r : Raw) (t : SymbolAt) (s : State) : Type 0 where
  pub after : State
  pub goes_to : ma.advance t (Going s) ≡ Going after
  pub is_at : AtRaw is ns e at c r after

go_out : (ns : List (List ℕ)) (t : SymbolAt) (o : Option Mode) → OutOption o → sh.is_stop t.symbol ≡ false → OutTurn ns (ma.go ns t o)
go_out ns t None g h = tt
go_out ns t (Some m) g h = next_out ns t m g h

raw_step : (is : Items) (ns : List (List ℕ)) (e : Option ℕ) (at : ℕ) (c d : Bool) (r : Raw) (t : SymbolAt) (s : State) → sh.is_stop t.symbol ≡ false → sh.is_listed t.symbol ≡ d → AtRaw is ns e at c r s → RawStep is ns e at (d || c) (raw_and r t) t s
raw_step is ns e at true true r t s h g a = record { after = ma.state is ns (Skipping (ma.extern e at (raw_and r t))); goes_to = ap (λ z. ma.advance t (Going z)) a ∙ goes t _ _ (ap (λ k. ma.step_skipping k is ns t (ma.extern e at r)) (role_is t.symbol true h g)) (omega arith); is_at = refl }
raw_step is ns e at true false r t s h g a = record { after = ma.state is ns (Skipping (ma.extern e at (raw_and r t))); goes_to = ap (λ z. ma.advance t (Going z)) a ∙ goes t _ _ (ap (λ k. ma.step_skipping k is ns t (ma.extern e at r)) (role_is t.symbol false h g)) (omega arith); is_at = refl }
raw_step is ns e at false true r t s h g a = record { after = ma.state is ns (Skipping (ma.extern e at (raw_and r t))); goes_to = ap (λ z. ma.advance t (Going z)) a.same ∙ goes t _ _ (ap (λ k. ma.step_both k is ns t (ma.extern e at r) a.mode a.high) (role_is t.symbol true h g)) (omega arith); is_at = refl }
raw_step is ns e at false false r t s h g a =
    let w = both_is is ns (ma.extern e at (raw_and r t)) a.high (ma.go ns t a.mode) (go_out ns t a.mode a.out h) in
    record { after = ma.state is ns (Both (ma.extern e at (raw_and r t)) w.mode w.high); goes_to = ap (λ z. ma.advance t (Going z)) a.same ∙ goes t _ _ (ap (λ k. ma.step_both k is ns t (ma.extern e at r) a.mode a.high) (role_is t.symbol false h g) ∙ ap Some w.same) (omega arith); is_at = record { mode = w.mode; high = w.high; same = refl; out = w.out } }

pub record RawRun (is : Items) (ns : List (List ℕ)) (e : Option ℕ) (at : ℕ) (r : Raw) (s : State) : Type 0 where
  pub after : State
  pub runs : (rest : List SymbolAt) → ma.run (spell_raw r rest) (Going s) ≡ ma.run rest (Going after)
  pub is_at : AtRaw is ns e at (sh.has_listed r) r after

or_false : (c d : Bool) → (c || d) ≡ false → (c ≡ false) × (d ≡ false)
or_false true d h = cc
or_false false true h = cc
or_false false false h = (refl, refl)

raw_run : (is : Items) (ns : List (List ℕ)) (e : Option ℕ) (at : ℕ) (r : Raw) (s : State) → sh.has_stop r ≡ false → IsBoth is ns (ma.extern e at no_raw) s → RawRun is ns e at r s
raw_run is ns e at no_raw s h a = record { after = s; runs = λ rest. refl; is_at = a }
raw_run is ns e at (raw_and r t) s h a =
    let q = or_false (sh.is_stop t.symbol) (sh.has_stop r) h in
    let w = raw_run is ns e at r s q.1 a in
    let z = raw_step is ns e at (sh.has_listed r) (sh.is_listed t.symbol) r t w.after q.0 refl w.is_at in
    record { after = z.after; runs = λ rest. w.runs (t ∷ rest) ∙ ap (ma.run rest) z.goes_to; is_at = z.is_at }

-- behind `extern`
skip_rest : (is : Items) (ns : List (List ℕ)) (e : Option ℕ) (at : ℕ) (r : Raw) (c : ℕ) (s : State) → sh.has_listed r ≡ true → sh.has_stop r ≡ false → IsBoth is ns (ma.extern e at no_raw) s → (rest : List SymbolAt) → ma.run (spell_raw r (sign sy.Semicolon c ∷ rest)) (Going s) ≡ ma.run rest (Going (ma.state is ns (Plain (Ended (tSkipped e at r c) 0))))
skip_rest is ns e at r c s h g a rest =
    let w = raw_run is ns e at r s g a in
    let z : w.after ≡ ma.state is ns (Skipping (ma.extern e at r)) = subst (λ q. AtRaw is ns e at q r w.after) h w.is_at in
    w.runs (sign sy.Semicolon c ∷ rest) ∙ ap (λ q. ma.run rest (ma.advance (sign sy.Semicolon c) (Going q))) z

opening_is : (is : Items) (ns : List (List ℕ)) (m : Mode) (at : ℕ) (x : Extern) → ma.filed is ns (Plain m) ≡ ma.state is ns (Plain m) → ma.opens_mode m at ≡ Some x → OutTurn ns (steps.next ns (sign (sy.Storage storage.Extern) at) m) → (w : IsBoth is ns x (ma.both is ns x false (steps.next ns (sign (sy.Storage storage.Extern) at) m))) → ma.advance (sign (sy.Storage storage.Extern) at) (Going (ma.state is ns (Plain m))) ≡ Going (ma.state is ns (Both x w.mode w.high))
opening_is is ns m at x f e o w = goes (sign (sy.Storage storage.Extern) at) _ _ (ap (ma.step_state (sign (sy.Storage storage.Extern) at)) f ∙ ap (λ k. ma.step_plain k is ns (sign (sy.Storage storage.Extern) at) m) e ∙ ap Some w.same) (omega arith)

skipped_run : (is : Items) (ns : List (List ℕ)) (e : Option ℕ) (at : ℕ) (r : Raw) (c : ℕ) → sh.has_listed r ≡ true → sh.has_stop r ≡ false → (rest : List SymbolAt) → ma.run (spell_item (tSkipped e at r c) rest) (Going (ma.state is ns (Plain File))) ≡ ma.run rest (Going (ma.state is ns (Plain (Ended (tSkipped e at r c) 0))))
skipped_run is ns None at r c h g rest =
    let o = extern_out ns at mk.unspoken refl in
    let w = both_is is ns (ma.extern None at no_raw) false (steps.next ns (sign (sy.Storage storage.Extern) at) File) o in
    ap (ma.run (spell_raw r (sign sy.Semicolon c ∷ rest))) (opening_is is ns File at (ma.extern None at no_raw) refl refl o w)
    ∙ skip_rest is ns None at r c (ma.state is ns (Both (ma.extern None at no_raw) w.mode w.high)) h g (record { mode = w.mode; high = w.high; same = refl; out = w.out }) rest
skipped_run is ns (Some x) at r c h g rest =
    let m = Specifiers (mk.said mk.unspoken nothing_known (wExtension x) 0) (aroundPlace placeFile) in
    let o = extern_out ns at (mk.said mk.unspoken nothing_known (wExtension x) 0) refl in
    let w = both_is is ns (ma.extern (Some x) at no_raw) false (steps.next ns (sign (sy.Storage storage.Extern) at) m) o in
    ap (ma.run (sign (sy.Storage storage.Extern) at ∷ spell_raw r (sign sy.Semicolon c ∷ rest))) (goes (sign sy.Extension x) (ma.state is ns (Plain m)) (ma.step (sign sy.Extension x) (ma.state is ns (Plain File))) refl (omega (arith, above_is 0 (omega arith))))
    ∙ ap (ma.run (spell_raw r (sign sy.Semicolon c ∷ rest))) (opening_is is ns m at (ma.extern (Some x) at no_raw) refl refl o w)
    ∙ skip_rest is ns (Some x) at r c (ma.state is ns (Both (ma.extern (Some x) at no_raw) w.mode w.high)) h g (record { mode = w.mode; high = w.high; same = refl; out = w.out }) rest

-- Files.

pub record AnyRun (i : Item) (is : Items) (ns : List (List ℕ)) : Type 0 where
  pub height : ℕ
  pub runs : (rest : List SymbolAt) → ma.run (spell_item i rest) (Going (ma.state is ns (Plain File))) ≡ ma.run rest (Going (ma.state is (sh.item_names i ns) (Plain (Ended i height))))

any_run : (i : Item) (is : Items) (ns : List (List ℕ)) → sh.ShapedItem i ns → hg.height_item i ≤ 200 → AnyRun i is ns
any_run (tSkipped e at r c) is ns t l = record { height = 0; runs = λ rest. skipped_run is ns e at r c t.0 t.1 rest }
any_run (tFunction ws n ps ats x) is ns t l = record { height = (item_read (tFunction ws n ps ats x) ns tt t l []).height; runs = λ rest. item_run (tFunction ws n ps ats x) is ns tt t l rest }
any_run (tDeclaration d) is ns t l = record { height = (item_read (tDeclaration d) ns tt t l []).height; runs = λ rest. item_run (tDeclaration d) is ns tt t l rest }
any_run (tEmpty at) is ns t l = record { height = (item_read (tEmpty at) ns tt t l []).height; runs = λ rest. item_run (tEmpty at) is ns tt t l rest }

pub item_some : (i : Item) (ns : List (List ℕ)) → sh.ShapedItem i ns → (rest : List SymbolAt) → NoElse (spell_item i rest)
item_some (tSkipped None at r c) ns t rest = refl
item_some (tSkipped (Some x) at r c) ns t rest = refl
item_some (tFunction ws n ps ats x) ns t rest = typed_no_else site.File ws t.0.specs _
item_some (tDeclaration (declares ws ds x)) ns t rest = typed_no_else site.File ws t.0.specs _
item_some (tEmpty at) ns t rest = refl

abbrev pub state_behind : Items → ℕ → State
state_behind no_items h = ma.start
state_behind (items_and is i) h = ma.state is (sh.item_names i (sh.file_names is)) (Plain (Ended i h))

pub refile : (is : Items) (h : ℕ) (ts : List SymbolAt) → NoElse ts → ma.run ts (Going (state_behind is h)) ≡ ma.run ts (Going (ma.state is (sh.file_names is) (Plain File)))
refile is h [] n = absurd n
refile no_items h (t ∷ ts) n = refl
refile (items_and is i) h (t ∷ ts) n = refl

pub record FileRun (is : Items) : Type 0 where
  pub height : ℕ
  pub runs : (rest : List SymbolAt) → ma.run (spell_items is rest) (Going ma.start) ≡ ma.run rest (Going (state_behind is height))

pub file_run : (is : Items) → sh.ShapedItems is → hg.height_items is ≤ 200 → FileRun is
file_run no_items t l = record { height = 0; runs = λ rest. refl }
file_run (items_and is i) t l =
    let w = file_run is t.0 (omega (arith, l)) in
    let z = any_run i is (sh.file_names is) t.1 (omega (arith, l)) in
    record { height = z.height; runs = λ rest. w.runs (spell_item i rest) ∙ refile is w.height (spell_item i rest) (item_some i (sh.file_names is) t.1 rest) ∙ z.runs rest }
