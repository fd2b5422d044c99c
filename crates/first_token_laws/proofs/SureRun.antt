-- The whole machine: what it knows of each state that it comes to.
use Rattle.std.proofs.Common.{◌≡◌, ℕ, ◌≤◌, List, [], ◌∷◌, ◌++◌, Option, None, Some, Bool, true, false, ◌&&◌, ◌||◌, not, if◌then◌else◌, leb, refl, subst, sym, ap, ◌∙◌, arith, leb-true}
use Rattle.c_tree.specs.declared.symbol.StorageWord.TheVariants as storage
use Rattle.c_tree.specs.declared.symbol.Symbol.{Symbol}
use Rattle.c_tree.specs.declared.symbol.Symbol.TheVariants as sy
use Rattle.c_tree.specs.declared.symbol.SymbolAt.{SymbolAt}
use Rattle.c_tree.specs.declared.known.Site.TheVariants as site
use Rattle.c_tree.specs.declared.known.Known.{Known}
use Rattle.c_tree.specs.Symbols.{sign}
use Rattle.c_tree.specs.Spelling.{spell_words, spell_raw, spell_item, spell_items}
use Rattle.c_tree.specs.Shape as sh
use Rattle.c_tree.specs.Words.{known, nothing_known}
use Rattle.c_tree.specs.Tree.{Raw, no_raw, raw_and, Words, no_words, words_and, wExtension, Item, tSkipped, tFunction, tDeclaration, tEmpty, Items}
use Rattle.parse_machine.specs.Contexts.{Spoken, placeFile, aroundPlace, Mode, File, Ended, Specifiers}
use Rattle.parse_machine.specs.Making as mk
use Rattle.parse_machine.specs.Making.{above, tall, part, bound, bind_level}
use Rattle.parse_machine.specs.Heights.{high, low}
use Rattle.parse_laws.proofs.Fits.{names_of, FitItem, Fit}
use Rattle.parse_laws.proofs.Good.{Reads, GoodTurn}
use Rattle.parse_machine.specs.Specifiers as sp
use Rattle.parse_machine.specs.Declarations.{Turn, kept}
use Rattle.parse_machine.specs.Steps as steps
use Rattle.parse_machine.specs.Machine as ma
use Rattle.parse_machine.specs.Machine.{Phase, Plain, Both, Skipping, Above, State, Extern, Answer, Goes, Refused, High, Result, Tree, Syntax, Unsupported, TooHigh, Course, Going, Over, Role, listedRole, semicolonRole, stopRole, otherRole}
use Rattle.std.proofs.Common.{◌⊎◌, inl, inr}
use Rattle.c_tree.specs.Spelling.{extension}
use Rattle.parse_laws.proofs.SoundRun.{next_reads}
use Rattle.first_token_laws.proofs.EndMode.{Sure}
use Rattle.first_token_laws.proofs.SureSteps.{SureTurn}
use Rattle.first_token_laws.proofs.Shadow.{Shadow, shadow_next, own_shadow, next_sure}
use Rattle.parse_laws.proofs.Externs.{Out, OutTurn, extern_out, next_out}
use Rattle.c_tree.specs.declared.known.Storage.TheVariants as sto

abbrev Reader : Type 0
Reader = List SymbolAt → List SymbolAt

-- What stands before the first `;`, `=` or `{`.

-- the tokens of an item, of which nothing, only `__extension__`, or so much has come that it is no item to be skipped
abbrev pub Begun : Mode → Reader → Type 0
Begun m here = ((m ≡ File) × ((r : List SymbolAt) → here r ≡ r)) ⊎ (((x : ℕ) × (m ≡ Specifiers (mk.said mk.unspoken nothing_known (wExtension x) 0) (aroundPlace placeFile)) × ((r : List SymbolAt) → here r ≡ sign sy.Extension x ∷ r)) ⊎ ((r : List SymbolAt) → sh.is_unlisted (here r) ≡ true))

-- an item that is skipped is no such item
abbrev pub Started : Mode → Reader → Type 0
Started (Ended (tSkipped x a r c) h) here = Unit {0}
Started m here = Begun m here

or_true : (c d : Bool) → d ≡ true → (c || d) ≡ true
or_true true d h = refl
or_true false d h = h

started : (m : Mode) (here : Reader) → Begun m here → Started m here
started (Ended (tSkipped x a r c) h) here g = tt
started m here g = g

-- the first token
first_unlisted : (t : Symbol) (at : ℕ) (r : List SymbolAt) → ma.opens t at File ≡ None → (t ≡ sy.Extension → ⊥) → sh.is_unlisted (sign t at ∷ r) ≡ true
first_unlisted (sy.Storage storage.Extern) at r e n = cc
first_unlisted sy.Extension at r e n = absurd (n refl)
first_unlisted _ at r e n = refl

-- a token behind `__extension__`
second_unlisted : (x : ℕ) (t : Symbol) (at : ℕ) (r : List SymbolAt) → ma.opens t at (Specifiers (mk.said mk.unspoken nothing_known (wExtension x) 0) (aroundPlace placeFile)) ≡ None → sh.is_unlisted (sign sy.Extension x ∷ sign t at ∷ r) ≡ true
second_unlisted x (sy.Storage storage.Extern) at r e = cc
second_unlisted x _ at r e = refl

-- behind the first token
fresh_next : (names : List (List ℕ)) (here : Reader) (t : Symbol) (at : ℕ) (u : Turn) → ((r : List SymbolAt) → here r ≡ r) → ma.opens t at File ≡ None → steps.next names (sign t at) File ≡ Some u → Begun u.mode (λ r. here (sign t at ∷ r))
fresh_next names here (sy.Storage storage.Extern) at u h e n = cc
fresh_next names here sy.Extension at u h e n = inr (inl (at, sym (ap (λ o. mode_of o) n), λ r. h (sign sy.Extension at ∷ r)))
  where
    mode_of : Option Turn → Mode
    mode_of None = File
    mode_of (Some u) = u.mode
fresh_next names here t at u h e n = inr (inr (λ r. ap sh.is_unlisted (h (sign t at ∷ r)) ∙ first_unlisted t at r e (λ x. cc)))

pub begun_next : (names : List (List ℕ)) (here : Reader) (t : SymbolAt) (m : Mode) (u : Turn) → Begun m here → ma.opens t.symbol t.at m ≡ None → steps.next names t m ≡ Some u → Begun u.mode (λ r. here (t ∷ r))
begun_next names here t m u (inl g) e n = fresh_next names here t.symbol t.at u g.1 (subst (λ z. ma.opens t.symbol t.at z ≡ None) g.0 e) (subst (λ z. steps.next names t z ≡ Some u) g.0 n)
begun_next names here t m u (inr (inl g)) e n = inr (inr (λ r. ap sh.is_unlisted (g.2 (t ∷ r)) ∙ second_unlisted g.0 t.symbol t.at r (subst (λ z. ma.opens t.symbol t.at z ≡ None) g.1 e)))
begun_next names here t m u (inr (inr g)) e n = inr (inr (λ r. g (t ∷ r)))

-- Items that may be skipped.

abbrev pub extern_tokens : Extern → Reader
extern_tokens x r = extension x.extension (sign (sy.Storage storage.Extern) x.at ∷ spell_raw x.raw r)

either_false : (c d : Bool) → (c || d) ≡ false → (c ≡ false) × (d ≡ false)
either_false true d h = cc
either_false false true h = cc
either_false false false h = (refl, refl)

stop_false : (c : Bool) (x : Bool) (y : Bool) → c ≡ false → (if c then x else y) ≡ y
stop_false c x y h = rw h refl

pub raw_unlisted : (r : Raw) (ts : List SymbolAt) → sh.has_listed r ≡ false → sh.has_stop r ≡ false → sh.has_no_listed ts ≡ true → sh.has_no_listed (spell_raw r ts) ≡ true
raw_unlisted no_raw ts a c h = h
raw_unlisted (raw_and r s) ts a c h =
    let x = either_false (sh.is_listed s.symbol) (sh.has_listed r) a in
    let y = either_false (sh.is_stop s.symbol) (sh.has_stop r) c in
    let z : sh.has_no_listed (s ∷ ts) ≡ true = stop_false (sh.is_stop s.symbol) true (not (sh.is_listed s.symbol) && sh.has_no_listed ts) y.0 ∙ ap (λ q. not q && sh.has_no_listed ts) x.0 ∙ h in
    raw_unlisted r (s ∷ ts) x.1 y.1 z

pub extern_unlisted : (o : Option ℕ) (at : ℕ) (ts : List SymbolAt) → sh.has_no_listed ts ≡ true → sh.is_unlisted (extension o (sign (sy.Storage storage.Extern) at ∷ ts)) ≡ true
extern_unlisted None at ts h = h
extern_unlisted (Some x) at ts h = h

pub stop_ends : (t : SymbolAt) (r : List SymbolAt) → sh.is_stop t.symbol ≡ true → sh.has_no_listed (t ∷ r) ≡ true
stop_ends t r h = rw h refl

-- the state of a machine that reads the item beside, where its trees are not too high
pub record Beside (file names : List (List ℕ)) (here : Reader) (m : Mode) : Type 0 where
  pub low : low m ≤ 200
  pub names_are : names ≡ names_of file m
  pub fits : Fit file m
  pub reads : Reads m here
  pub sure : Sure m

abbrev pub GoodBoth : List (List ℕ) → List (List ℕ) → Reader → Bool → Option Mode → Type 0
GoodBoth file names here high None = Unit {0}
GoodBoth file names here high (Some m) = Out m × (high ≡ false → Beside file names here m) × Shadow file names here m

low_not_high : (n : ℕ) → not (leb n 200) ≡ false → n ≤ 200
low_not_high n h = leb-true n 200 (not_not (leb n 200) h)
  where
    not_not : (c : Bool) → not c ≡ false → c ≡ true
    not_not true h = refl
    not_not false h = cc

-- The states.

abbrev pub GoodPlain : List (List ℕ) → List (List ℕ) → Reader → Mode → Type 0
GoodPlain file names here m = (low m ≤ 200) × (names ≡ names_of file m) × Fit file m × Reads m here × Started m here × Sure m

pub record GoodExtern (file names : List (List ℕ)) (here : Reader) (x : Extern) : Type 0 where
  pub tokens : (r : List SymbolAt) → extern_tokens x r ≡ here r
  pub outside : names ≡ file
  pub no_stop : sh.has_stop x.raw ≡ false

abbrev pub GoodPhase : List (List ℕ) → List (List ℕ) → Reader → Phase → Type 0
GoodPhase file names here (Plain m) = GoodPlain file names here m
GoodPhase file names here (Both x m high) = GoodExtern file names here x × (sh.has_listed x.raw ≡ false) × GoodBoth file names here high m
GoodPhase file names here (Skipping x) = GoodExtern file names here x × (sh.has_listed x.raw ≡ true)
GoodPhase file names here Above = ⊥

pub record GoodState (p : Reader) (s : State) : Type 0 where
  pub shaped : sh.ShapedItems s.items
  pub here : Reader
  pub split : (r : List SymbolAt) → spell_items s.items (here r) ≡ p r
  pub phase : GoodPhase (sh.file_names s.items) s.names here s.phase

-- unless its trees are too high
abbrev GoodNext : Reader → Option State → Type 0
GoodNext p None = Unit {0}
GoodNext p (Some s) = ma.phase_low s.phase ≤ 200 → GoodState p s

-- An item is whole.

pub item_shaped : (file : List (List ℕ)) (here : Reader) (i : Item) (h : ℕ) → FitItem file i → ((r : List SymbolAt) → spell_item i r ≡ here r) → Started (Ended i h) here → sh.ShapedItem i file
item_shaped file here (tSkipped x a r c) h f e g = f
item_shaped file here (tEmpty at) h f e g = tt
item_shaped file here (tFunction ws n ps ats y) h f e (inl g) = cc
item_shaped file here (tFunction ws n ps ats y) h f e (inr (inl g)) = let z = g.1 in cc
item_shaped file here (tFunction ws n ps ats y) h f e (inr (inr g)) = (f, ap sh.is_unlisted (e []) ∙ g [])
item_shaped file here (tDeclaration d) h f e (inl g) = cc
item_shaped file here (tDeclaration d) h f e (inr (inl g)) = let z = g.1 in cc
item_shaped file here (tDeclaration d) h f e (inr (inr g)) = (f, ap sh.is_unlisted (e []) ∙ g [])

pub filed_good : (p : Reader) (is : Items) (names : List (List ℕ)) (x : Phase) (here : Reader) → sh.ShapedItems is → ((r : List SymbolAt) → spell_items is (here r) ≡ p r) → GoodPhase (sh.file_names is) names here x → GoodState p (ma.filed is names x)
filed_good p is names (Plain (Ended i h)) here s e g = record {
  shaped = (s, item_shaped (sh.file_names is) here i h g.2 g.3 g.4);
  here = λ r. r;
  split = λ r. ap (spell_items is) (g.3 r) ∙ e r;
  phase = (omega arith, g.1, tt, (λ r. refl), inl (refl, λ r. refl), tt);
}
filed_good p is names x here s e g = record { shaped = s; here = here; split = e; phase = g }

-- Steps.

started_next : (names : List (List ℕ)) (here : Reader) (t : SymbolAt) (m : Mode) (u : Turn) → Started m here → ma.opens t.symbol t.at m ≡ None → steps.next names t m ≡ Some u → Started u.mode (λ r. here (t ∷ r))
started_next names here t (Ended i h) u g e n = cc
started_next names here t m u g e n = started u.mode (λ r. here (t ∷ r)) (begun_next names here t m u g e n)

plain_good : (p : Reader) (is : Items) (here : Reader) (o : Option Turn) → sh.ShapedItems is → ((r : List SymbolAt) → spell_items is (here r) ≡ p r) → GoodTurn (sh.file_names is) here o → ((u : Turn) → o ≡ Some u → Started u.mode here) → SureTurn o → GoodNext p (ma.plain is o)
plain_good p is here None s e g n k = tt
plain_good p is here (Some u) s e g n k = λ l. let x = g l in record { shaped = s; here = here; split = e; phase = (l, x.0, x.1, x.2, n u refl, k) }

some_same : {A : Type 0} (a c : A) → Some a ≡ Some c → a ≡ c
some_same a c h = cc

-- what `extern` opens
pub record Opens (file : List (List ℕ)) (at : ℕ) (m : Mode) (here : Reader) (x : Extern) : Type 0 where
  pub tokens : (r : List SymbolAt) → extern_tokens x r ≡ here (sign (sy.Storage storage.Extern) at ∷ r)
  pub raw : x.raw ≡ no_raw
  pub outside : names_of file m ≡ file

opened_words : (file : List (List ℕ)) (at : ℕ) (s : Spoken) (ws : Words) (here : Reader) (x : Extern) → ((r : List SymbolAt) → spell_words ws r ≡ here r) → ma.opens_words ws at ≡ Some x → Opens file at (Specifiers s (aroundPlace placeFile)) here x
opened_words file at s (words_and no_words (wExtension y)) here x g e =
    subst (Opens file at (Specifiers s (aroundPlace placeFile)) here) (some_same _ _ e) (record { tokens = λ r. g (sign (sy.Storage storage.Extern) at ∷ r); raw = refl; outside = refl })
opened_words file at s _ here x g e = cc

opened_mode : (file : List (List ℕ)) (at : ℕ) (m : Mode) (here : Reader) (x : Extern) → Reads m here → ma.opens_mode m at ≡ Some x → Opens file at m here x
opened_mode file at File here x g e =
    subst (Opens file at File here) (some_same _ _ e) (record { tokens = λ r. g (sign (sy.Storage storage.Extern) at ∷ r); raw = refl; outside = refl })
opened_mode file at (Specifiers s (aroundPlace placeFile)) here x g e = opened_words file at s s.words here x g e
opened_mode file at _ here x g e = cc

opened_at : (file : List (List ℕ)) (t : Symbol) (at : ℕ) (m : Mode) (here : Reader) (x : Extern) → Reads m here → ma.opens t at m ≡ Some x → Opens file at m here x × (t ≡ sy.Storage storage.Extern)
opened_at file (sy.Storage storage.Extern) at m here x g e = (opened_mode file at m here x g e, refl)
opened_at file _ at m here x g e = cc

-- what fits, and what is known beside it
abbrev GoodSure : List (List ℕ) → Reader → Option Turn → Type 0
GoodSure file p o = GoodTurn file p o × SureTurn o

go_reads : (file names : List (List ℕ)) (t : SymbolAt) (o : Option Mode) (high : Bool) (here : Reader) → GoodBoth file names here high o → high ≡ false → GoodSure file (λ r. here (t ∷ r)) (ma.go names t o)
go_reads file names t None high here g h = (tt, tt)
go_reads file names t (Some m) high here g h = let x = g.1 h in (next_reads file names t m here x.names_are x.fits x.low x.reads, next_sure file names t m here x.names_are x.fits x.reads x.sure)

pub go_shadow : (file names : List (List ℕ)) (t : SymbolAt) (o : Option Mode) (high : Bool) (here : Reader) (u : Turn) → GoodBoth file names here high o → ma.go names t o ≡ Some u → Shadow file u.names (λ r. here (t ∷ r)) u.mode
go_shadow file names t None high here u g h = cc
go_shadow file names t (Some m) high here u g h = shadow_next file names here t m u g.2 h

go_out : (file names : List (List ℕ)) (t : SymbolAt) (o : Option Mode) (high : Bool) (here : Reader) → GoodBoth file names here high o → sh.is_stop t.symbol ≡ false → OutTurn names (ma.go names t o)
go_out file names t None high here g h = tt
go_out file names t (Some m) high here g h = next_out names t m g.0 h

extern_more : (file names : List (List ℕ)) (here : Reader) (x : Extern) (t : SymbolAt) → GoodExtern file names here x → sh.is_stop t.symbol ≡ false → GoodExtern file names (λ r. here (t ∷ r)) (ma.more x t)
extern_more file names here x t g e = record { tokens = λ r. g.tokens (t ∷ r); outside = g.outside; no_stop = ap (λ q. q || sh.has_stop x.raw) e ∙ g.no_stop }

-- the item can't be skipped any more
settled_at : (p : Reader) (is : Items) (here : Reader) (o : Option Turn) (high : Bool) → sh.ShapedItems is → ((r : List SymbolAt) → spell_items is (here r) ≡ p r) → ((r : List SymbolAt) → sh.is_unlisted (here r) ≡ true) → (high ≡ false → GoodSure (sh.file_names is) here o) → GoodNext p (ma.settled high is o)
settled_at p is here None high s e u h = tt
settled_at p is here (Some w) true s e u h = λ l. absurd (omega (arith, l))
settled_at p is here (Some w) false s e u h = λ l. let y = (h refl).0 l in record { shaped = s; here = here; split = e; phase = (l, y.0, y.1, y.2, started w.mode here (inr (inr u)), (h refl).1) }

-- an item that may be skipped, at its first `;`, `=` or `{`
pub stop_unlisted : (file names : List (List ℕ)) (here : Reader) (x : Extern) (m : Option Mode) (high : Bool) (t : SymbolAt) → GoodPhase file names here (Both x m high) → sh.is_stop t.symbol ≡ true → (r : List SymbolAt) → sh.is_unlisted (here (t ∷ r)) ≡ true
stop_unlisted file names here x m high t g k r = ap sh.is_unlisted (sym (g.0.tokens (t ∷ r))) ∙ extern_unlisted x.extension x.at _ (raw_unlisted x.raw (t ∷ r) g.1 g.0.no_stop (stop_ends t r k))

settled_good : (p : Reader) (is : Items) (names : List (List ℕ)) (here : Reader) (x : Extern) (m : Option Mode) (high : Bool) (t : SymbolAt) → sh.ShapedItems is → ((r : List SymbolAt) → spell_items is (here r) ≡ p r) → GoodPhase (sh.file_names is) names here (Both x m high) → sh.is_stop t.symbol ≡ true → GoodNext (λ r. p (t ∷ r)) (ma.settled high is (ma.go names t m))
settled_good p is names here x m high t s e g k =
    settled_at (λ r. p (t ∷ r)) is (λ r. here (t ∷ r)) (ma.go names t m) high s (λ r. e (t ∷ r))
    (stop_unlisted (sh.file_names is) names here x m high t g k)
    (λ h. go_reads (sh.file_names is) names t m high here g.2 h)

-- one token more beside
both_state : (p : Reader) (is : Items) (names : List (List ℕ)) (here : Reader) (x : Extern) (high : Bool) (o : Option Turn) → sh.ShapedItems is → ((r : List SymbolAt) → spell_items is (here r) ≡ p r) → GoodExtern (sh.file_names is) names here x → sh.has_listed x.raw ≡ false → OutTurn names o → (high ≡ false → GoodSure (sh.file_names is) here o) → ((u : Turn) → o ≡ Some u → Shadow (sh.file_names is) u.names here u.mode) → GoodNext p (Some (ma.both is names x high o))
both_state p is names here x high None s e g n w h k = λ l. record { shaped = s; here = here; split = e; phase = (g, n, tt) }
both_state p is names here x high (Some u) s e g n w h q0 = λ l. record {
  shaped = s;
  here = here;
  split = e;
  phase = (
    record { tokens = g.tokens; outside = w.0 ∙ g.outside; no_stop = g.no_stop },
    n,
    (
      w.1,
      λ k.
          let z = either_false high (not (leb (low u.mode) 200)) k in
          let q = low_not_high (low u.mode) z.1 in
          let v = h z.0 in
          let y = v.0 q in
          record { low = q; names_are = y.0; fits = y.1; reads = y.2; sure = v.1 },
      q0 u refl,
    ),
  );
}

both_pick : (p : Reader) (is : Items) (names : List (List ℕ)) (here : Reader) (x : Extern) (m : Option Mode) (high : Bool) (t : SymbolAt) (c d : Bool) → sh.is_stop t.symbol ≡ c → sh.is_listed t.symbol ≡ d → sh.ShapedItems is → ((r : List SymbolAt) → spell_items is (here r) ≡ p r) → GoodPhase (sh.file_names is) names here (Both x m high) → GoodNext (λ r. p (t ∷ r)) (ma.step_both (if c then stopRole else (if d then listedRole else otherRole)) is names t x m high)
both_pick p is names here x m high t true d k n s e g = settled_good p is names here x m high t s e g k
both_pick p is names here x m high t false true k n s e g = λ l.
    record { shaped = s; here = λ r. here (t ∷ r); split = λ r. e (t ∷ r); phase = (extern_more (sh.file_names is) names here x t g.0 k, ap (λ q. q || sh.has_listed x.raw) n) }
both_pick p is names here x m high t false false k n s e g =
    both_state (λ r. p (t ∷ r)) is names (λ r. here (t ∷ r)) (ma.more x t) high (ma.go names t m) s (λ r. e (t ∷ r)) (extern_more (sh.file_names is) names here x t g.0 k) (ap (λ q. q || sh.has_listed x.raw) n ∙ g.1)
    (go_out (sh.file_names is) names t m high here g.2 k) (λ h. go_reads (sh.file_names is) names t m high here g.2 h) (λ u h. go_shadow (sh.file_names is) names t m high here u g.2 h)

both_good : (p : Reader) (is : Items) (names : List (List ℕ)) (here : Reader) (x : Extern) (m : Option Mode) (high : Bool) (t : Symbol) (at : ℕ) → sh.ShapedItems is → ((r : List SymbolAt) → spell_items is (here r) ≡ p r) → GoodPhase (sh.file_names is) names here (Both x m high) → GoodNext (λ r. p (sign t at ∷ r)) (ma.step_both (ma.role t) is names (sign t at) x m high)
both_good p is names here x m high sy.Semicolon at s e g = settled_good p is names here x m high (sign sy.Semicolon at) s e g refl
both_good p is names here x m high t at s e g = both_pick p is names here x m high (sign t at) (sh.is_stop t) (sh.is_listed t) refl refl s e g

skip_pick : (p : Reader) (is : Items) (names : List (List ℕ)) (here : Reader) (x : Extern) (t : SymbolAt) (c d : Bool) → sh.is_stop t.symbol ≡ c → sh.ShapedItems is → ((r : List SymbolAt) → spell_items is (here r) ≡ p r) → GoodPhase (sh.file_names is) names here (Skipping x) → GoodNext (λ r. p (t ∷ r)) (ma.step_skipping (if c then stopRole else (if d then listedRole else otherRole)) is names t x)
skip_pick p is names here x t true d k s e g = tt
skip_pick p is names here x t false true k s e g = λ l.
    record { shaped = s; here = λ r. here (t ∷ r); split = λ r. e (t ∷ r); phase = (extern_more (sh.file_names is) names here x t g.0 k, or_true (sh.is_listed t.symbol) (sh.has_listed x.raw) g.1) }
skip_pick p is names here x t false false k s e g = λ l.
    record { shaped = s; here = λ r. here (t ∷ r); split = λ r. e (t ∷ r); phase = (extern_more (sh.file_names is) names here x t g.0 k, or_true (sh.is_listed t.symbol) (sh.has_listed x.raw) g.1) }

skip_good : (p : Reader) (is : Items) (names : List (List ℕ)) (here : Reader) (x : Extern) (t : Symbol) (at : ℕ) → sh.ShapedItems is → ((r : List SymbolAt) → spell_items is (here r) ≡ p r) → GoodPhase (sh.file_names is) names here (Skipping x) → GoodNext (λ r. p (sign t at ∷ r)) (ma.step_skipping (ma.role t) is names (sign t at) x)
skip_good p is names here x sy.Semicolon at s e g = λ l. record {
  shaped = s;
  here = λ r. here (sign sy.Semicolon at ∷ r);
  split = λ r. e (sign sy.Semicolon at ∷ r);
  phase = (l, g.0.outside, (g.1, g.0.no_stop), (λ r. g.0.tokens (sign sy.Semicolon at ∷ r)), tt, tt);
}
skip_good p is names here x t at s e g = skip_pick p is names here x (sign t at) (sh.is_stop t) (sh.is_listed t) refl s e g

-- the words before `extern`
extension_told : (x : ℕ) (k : Known) → known site.File (words_and no_words (wExtension x)) ≡ Some k → k.storage ≡ sto.Unstated
extension_told x k h = ap (λ z. z.storage) (sym (some_same nothing_known k h))

opened_words_out : (names : List (List ℕ)) (at : ℕ) (s : Spoken) (ws : Words) (x : Extern) → known site.File ws ≡ Some s.told → ma.opens_words ws at ≡ Some x → OutTurn names (kept names (sp.step_specs names (sy.Storage storage.Extern) at s (aroundPlace placeFile)))
opened_words_out names at s (words_and no_words (wExtension y)) x f e = extern_out names at s (extension_told y s.told f)
opened_words_out names at s _ x f e = cc

opened_mode_out : (file names : List (List ℕ)) (at : ℕ) (m : Mode) (x : Extern) → Fit file m → ma.opens_mode m at ≡ Some x → OutTurn names (steps.next names (sign (sy.Storage storage.Extern) at) m)
opened_mode_out file names at File x f e = extern_out names at mk.unspoken refl
opened_mode_out file names at (Specifiers s (aroundPlace placeFile)) x f e = opened_words_out names at s s.words x f.0.told e
opened_mode_out file names at _ x f e = cc

opened_out : (file names : List (List ℕ)) (t : Symbol) (at : ℕ) (m : Mode) (x : Extern) → Fit file m → ma.opens t at m ≡ Some x → OutTurn names (steps.next names (sign t at) m)
opened_out file names (sy.Storage storage.Extern) at m x f e = opened_mode_out file names at m x f e
opened_out file names _ at m x f e = cc

plain_step : (p : Reader) (is : Items) (names : List (List ℕ)) (here : Reader) (t : SymbolAt) (m : Mode) (o : Option Extern) → ma.opens t.symbol t.at m ≡ o → sh.ShapedItems is → ((r : List SymbolAt) → spell_items is (here r) ≡ p r) → GoodPlain (sh.file_names is) names here m → GoodNext (λ r. p (t ∷ r)) (ma.step_plain o is names t m)
plain_step p is names here t m None k s e g =
    plain_good (λ r. p (t ∷ r)) is (λ r. here (t ∷ r)) (steps.next names t m) s (λ r. e (t ∷ r)) (next_reads (sh.file_names is) names t m here g.1 g.2 g.0 g.3) (λ u n. started_next names here t m u g.4 k n) (next_sure (sh.file_names is) names t m here g.1 g.2 g.3 g.5)
plain_step p is names here t m (Some x) k s e g =
    let q = opened_at (sh.file_names is) t.symbol t.at m here x g.3 k in
    both_state (λ r. p (t ∷ r)) is names (λ r. here (t ∷ r)) x false (steps.next names t m) s (λ r. e (t ∷ r))
    (record { tokens = λ r. q.0.tokens r ∙ ap (λ z. here (sign z t.at ∷ r)) (sym q.1); outside = g.1 ∙ q.0.outside; no_stop = ap sh.has_stop q.0.raw }) (ap sh.has_listed q.0.raw)
    (opened_out (sh.file_names is) names t.symbol t.at m x g.2 k) (λ h. (next_reads (sh.file_names is) names t m here g.1 g.2 g.0 g.3, next_sure (sh.file_names is) names t m here g.1 g.2 g.3 g.5))
    (λ u h. shadow_next (sh.file_names is) names here t m u (own_shadow (sh.file_names is) names here m g.1 g.2 g.3 g.5) h)

phase_good : (p : Reader) (is : Items) (names : List (List ℕ)) (here : Reader) (t : SymbolAt) (x : Phase) → sh.ShapedItems is → ((r : List SymbolAt) → spell_items is (here r) ≡ p r) → GoodPhase (sh.file_names is) names here x → GoodNext (λ r. p (t ∷ r)) (ma.step_phase is names t x)
phase_good p is names here t (Plain m) s e g = plain_step p is names here t m (ma.opens t.symbol t.at m) refl s e g
phase_good p is names here t (Both x u high) s e g = both_good p is names here x u high t.symbol t.at s e g
phase_good p is names here t (Skipping x) s e g = skip_good p is names here x t.symbol t.at s e g
phase_good p is names here t Above s e g = tt

step_good : (p : Reader) (t : SymbolAt) (s : State) → GoodState p s → GoodNext (λ r. p (t ∷ r)) (ma.step t s)
step_good p t s g =
    let f = filed_good p s.items s.names s.phase g.here g.shaped g.split g.phase in
    let z = ma.filed s.items s.names s.phase in
    phase_good p z.items z.names f.here t z.phase f.shaped f.split f.phase

-- Runs.

abbrev GoodCourse : Reader → Course → Type 0
GoodCourse p (Going s) = GoodState p s
GoodCourse p (Over r) = Unit {0}

limited_good : (p : Reader) (t : SymbolAt) (o : Option State) → GoodNext p o → GoodCourse p (ma.course t (ma.limited o))
limited_good p t None g = tt
limited_good p t (Some s) g = pick_good (leb (ma.phase_low s.phase) 200) (λ h. g (leb-true _ _ h))
  where
    pick_good : (c : Bool) → (c ≡ true → GoodState p s) → GoodCourse p (ma.course t (if c then Goes s else High))
    pick_good true h = h refl
    pick_good false h = tt

advance_good : (p : Reader) (t : SymbolAt) (c : Course) → GoodCourse p c → GoodCourse (λ r. p (t ∷ r)) (ma.advance t c)
advance_good p t (Going s) g = limited_good (λ r. p (t ∷ r)) t (ma.step t s) (step_good p t s g)
advance_good p t (Over r) g = tt

run_good : (ts : List SymbolAt) (p : Reader) (c : Course) → GoodCourse p c → GoodCourse (λ r. p (ts ++ r)) (ma.run ts c)
run_good [] p c g = g
run_good (t ∷ ts) p c g = run_good ts (λ r. p (t ∷ r)) (ma.advance t c) (advance_good p t c g)

start_good : GoodState (λ r. r) ma.start
start_good = record { shaped = tt; here = λ r. r; split = λ r. refl; phase = (omega arith, refl, tt, (λ r. refl), inl (refl, λ r. refl), tt) }

pub going_good : (ts : List SymbolAt) (s : State) → ma.run ts (Going ma.start) ≡ Going s → GoodState (λ r. ts ++ r) s
going_good ts s h = subst (GoodCourse (λ r. ts ++ r)) h (run_good ts (λ r. r) (Going ma.start) start_good)
