-- The limit on the height is passed only where some shaped tree begins with the tokens up to there.
use Rattle.std.proofs.Common.{◌≡◌, ℕ, ◌<◌, List, [], ◌∷◌, ◌++◌, Option, None, Some, Bool, true, false, if◌then◌else◌, leb, refl, sym, ap, ◌∙◌, inl, inr, leb-true, leb-false}
use Rattle.std.proofs.lemmas.List.{append_assoc}
use Rattle.c_tree.specs.declared.symbol.Symbol.{Symbol}
use Rattle.c_tree.specs.declared.symbol.Symbol.TheVariants as sy
use Rattle.c_tree.specs.declared.symbol.SymbolAt.{SymbolAt}
use Rattle.c_tree.specs.Symbols.{sign}
use Rattle.c_tree.specs.Spelling.{spell_items}
use Rattle.c_tree.specs.Shape as sh
use Rattle.c_tree.specs.Denotes.{Begins, BeginsWithin}
use Rattle.c_tree.specs.Height.{height_items}
use Rattle.c_tree.specs.Tree.{tSkipped, Items}
use Rattle.parse_machine.specs.Contexts.{Mode, Ended}
use Rattle.parse_machine.specs.Tokens.{is_unsupported}
use Rattle.parse_machine.specs.Heights.{low}
use Rattle.parse_machine.specs.Declarations.{Turn}
use Rattle.parse_machine.specs.Steps as steps
use Rattle.parse_machine.specs.Machine as ma
use Rattle.parse_machine.specs.Machine.{Phase, Plain, Both, Skipping, Above, State, Extern, Goes, High, Result, Syntax, Unsupported, TooHigh, Going, Over, listedRole, stopRole, otherRole}
use Rattle.parse_laws.proofs.CompleteFile.{refused}
use Rattle.first_token_laws.specs.Laws.{IsTooHighAt}
use Rattle.first_token_laws.proofs.Fillers.{Reader}
use Rattle.first_token_laws.proofs.Shadow.{shadow_next, own_shadow}
use Rattle.first_token_laws.proofs.SureRun.{Begun, Started, GoodPhase, GoodPlain, GoodState, begun_next, filed_good, going_good, go_shadow, stop_unlisted}
use Rattle.first_token_laws.proofs.Viable.{shadow_viable}
use Rattle.first_token_laws.proofs.FirstRefused.{stop_of, run_to_stop}

abbrev IsHigh : State → Type 0
IsHigh s = leb (ma.phase_low s.phase) 200 ≡ false

state_same : (s z : State) → Some s ≡ Some z → s ≡ z
state_same s z h = cc

-- a state that is not too high
not_high : (z s : State) → leb (ma.phase_low z.phase) 200 ≡ true → Some z ≡ Some s → IsHigh s → ⊥
not_high z s l e h = let q : true ≡ false = sym l ∙ ap (λ x. leb (ma.phase_low x.phase) 200) (state_same z s e) ∙ h in cc

begun_behind : (names : List (List ℕ)) (here : Reader) (t : SymbolAt) (m : Mode) (u : Turn) → Started m here → ma.opens t.symbol t.at m ≡ None → steps.next names t m ≡ Some u → Begun u.mode (λ r. here (t ∷ r))
begun_behind names here t (Ended i h) u g e n = cc
begun_behind names here t m u g e n = begun_next names here t m u g e n

-- so few tokens are not too high
high_unlisted : (m : Mode) (here : Reader) → Begun m here → leb (low m) 200 ≡ false → (r : List SymbolAt) → sh.is_unlisted (here r) ≡ true
high_unlisted m here (inl k) h r = let q : true ≡ false = sym (ap (λ z. leb (low z) 200) k.0) ∙ h in cc
high_unlisted m here (inr (inl k)) h r = let q : true ≡ false = sym (ap (λ z. leb (low z) 200) k.1) ∙ h in cc
high_unlisted m here (inr (inr k)) h r = k r

-- one token outside of items that may be skipped
turn_high : (tokens : List SymbolAt) (is : Items) (names : List (List ℕ)) (here : Reader) (t : SymbolAt) (m : Mode) (o : Option Turn) (s : State) → sh.ShapedItems is → ((r : List SymbolAt) → spell_items is (here (t ∷ r)) ≡ tokens ++ r) → GoodPlain (sh.file_names is) names here m → ma.opens t.symbol t.at m ≡ None → steps.next names t m ≡ o → ma.plain is o ≡ Some s → IsHigh s → Begins tokens
turn_high tokens is names here t m None s w e g k n h l = cc
turn_high tokens is names here t m (Some u) s w e g k n h l =
    let z = shadow_next (sh.file_names is) names here t m u (own_shadow (sh.file_names is) names here m g.1 g.2 g.3 g.5) n in
    let q : leb (low u.mode) 200 ≡ false = ap (λ x. leb (ma.phase_low x.phase) 200) (state_same (ma.state is u.names (Plain u.mode)) s h) ∙ l in
    shadow_viable tokens is (λ r. here (t ∷ r)) z.mode w e z.fits z.sure z.reads (high_unlisted u.mode (λ r. here (t ∷ r)) (begun_behind names here t m u g.4 k n) q)

-- an item that may be skipped has no height
both_low : (is : Items) (names : List (List ℕ)) (x : Extern) (high : Bool) (o : Option Turn) → leb (ma.phase_low (ma.both is names x high o).phase) 200 ≡ true
both_low is names x high None = refl
both_low is names x high (Some u) = refl

plain_high : (tokens : List SymbolAt) (is : Items) (names : List (List ℕ)) (here : Reader) (t : SymbolAt) (m : Mode) (o : Option Extern) (s : State) → sh.ShapedItems is → ((r : List SymbolAt) → spell_items is (here (t ∷ r)) ≡ tokens ++ r) → GoodPlain (sh.file_names is) names here m → ma.opens t.symbol t.at m ≡ o → ma.step_plain o is names t m ≡ Some s → IsHigh s → Begins tokens
plain_high tokens is names here t m None s w e g k h l = turn_high tokens is names here t m (steps.next names t m) s w e g k refl h l
plain_high tokens is names here t m (Some x) s w e g k h l = absurd (not_high (ma.both is names x false (steps.next names t m)) s (both_low is names x false (steps.next names t m)) h l)

-- the item can't be skipped any more
settled_high : (tokens : List SymbolAt) (is : Items) (names : List (List ℕ)) (here : Reader) (x : Extern) (m : Option Mode) (high : Bool) (t : SymbolAt) (o : Option Turn) (s : State) → sh.ShapedItems is → ((r : List SymbolAt) → spell_items is (here (t ∷ r)) ≡ tokens ++ r) → GoodPhase (sh.file_names is) names here (Both x m high) → sh.is_stop t.symbol ≡ true → ma.go names t m ≡ o → ma.settled high is o ≡ Some s → Begins tokens
settled_high tokens is names here x m high t None s w e g k n h = cc
settled_high tokens is names here x m high t (Some u) s w e g k n h =
    let z = go_shadow (sh.file_names is) names t m high here u g.2 n in
    shadow_viable tokens is (λ r. here (t ∷ r)) z.mode w e z.fits z.sure z.reads (stop_unlisted (sh.file_names is) names here x m high t g k)

both_pick : (tokens : List SymbolAt) (is : Items) (names : List (List ℕ)) (here : Reader) (x : Extern) (m : Option Mode) (high : Bool) (t : SymbolAt) (s : State) (c d : Bool) → sh.is_stop t.symbol ≡ c → sh.ShapedItems is → ((r : List SymbolAt) → spell_items is (here (t ∷ r)) ≡ tokens ++ r) → GoodPhase (sh.file_names is) names here (Both x m high) → ma.step_both (if c then stopRole else (if d then listedRole else otherRole)) is names t x m high ≡ Some s → IsHigh s → Begins tokens
both_pick tokens is names here x m high t s true d k w e g h l = settled_high tokens is names here x m high t (ma.go names t m) s w e g k refl h
both_pick tokens is names here x m high t s false true k w e g h l = absurd (not_high (ma.state is names (Skipping (ma.more x t))) s refl h l)
both_pick tokens is names here x m high t s false false k w e g h l = absurd (not_high (ma.both is names (ma.more x t) high (ma.go names t m)) s (both_low is names (ma.more x t) high (ma.go names t m)) h l)

both_high : (tokens : List SymbolAt) (is : Items) (names : List (List ℕ)) (here : Reader) (x : Extern) (m : Option Mode) (high : Bool) (t : Symbol) (at : ℕ) (s : State) → sh.ShapedItems is → ((r : List SymbolAt) → spell_items is (here (sign t at ∷ r)) ≡ tokens ++ r) → GoodPhase (sh.file_names is) names here (Both x m high) → ma.step_both (ma.role t) is names (sign t at) x m high ≡ Some s → IsHigh s → Begins tokens
both_high tokens is names here x m high sy.Semicolon at s w e g h l = settled_high tokens is names here x m high (sign sy.Semicolon at) (ma.go names (sign sy.Semicolon at) m) s w e g refl refl h
both_high tokens is names here x m high t at s w e g h l = both_pick tokens is names here x m high (sign t at) s (sh.is_stop t) (sh.is_listed t) refl w e g h l

skip_pick : (is : Items) (names : List (List ℕ)) (x : Extern) (t : SymbolAt) (s : State) (c d : Bool) → ma.step_skipping (if c then stopRole else (if d then listedRole else otherRole)) is names t x ≡ Some s → IsHigh s → ⊥
skip_pick is names x t s true d h l = cc
skip_pick is names x t s false true h l = not_high (ma.state is names (Skipping (ma.more x t))) s refl h l
skip_pick is names x t s false false h l = not_high (ma.state is names (Skipping (ma.more x t))) s refl h l

skip_high : (is : Items) (names : List (List ℕ)) (x : Extern) (t : Symbol) (at : ℕ) (s : State) → ma.step_skipping (ma.role t) is names (sign t at) x ≡ Some s → IsHigh s → ⊥
skip_high is names x sy.Semicolon at s h l = not_high (ma.state is names (Plain (Ended (tSkipped x.extension x.at x.raw at) 0))) s refl h l
skip_high is names x t at s h l = skip_pick is names x (sign t at) s (sh.is_stop t) (sh.is_listed t) h l

phase_high : (tokens : List SymbolAt) (is : Items) (names : List (List ℕ)) (here : Reader) (t : SymbolAt) (x : Phase) (s : State) → sh.ShapedItems is → ((r : List SymbolAt) → spell_items is (here (t ∷ r)) ≡ tokens ++ r) → GoodPhase (sh.file_names is) names here x → ma.step_phase is names t x ≡ Some s → IsHigh s → Begins tokens
phase_high tokens is names here t (Plain m) s w e g h l = plain_high tokens is names here t m (ma.opens t.symbol t.at m) s w e g refl h l
phase_high tokens is names here t (Both x m high) s w e g h l = both_high tokens is names here x m high t.symbol t.at s w e g h l
phase_high tokens is names here t (Skipping x) s w e g h l = absurd (skip_high is names x t.symbol t.at s h l)
phase_high tokens is names here t Above s w e g h l = absurd g

step_high : (tokens : List SymbolAt) (t : SymbolAt) (s z : State) → GoodState (λ r. tokens ++ r) s → ma.step t s ≡ Some z → IsHigh z → Begins (tokens ++ t ∷ [])
step_high tokens t s z g h l =
    let f = filed_good (λ r. tokens ++ r) s.items s.names s.phase g.here g.shaped g.split g.phase in
    let x = ma.filed s.items s.names s.phase in
    phase_high (tokens ++ t ∷ []) x.items x.names f.here t x.phase z f.shaped (λ r. f.split (t ∷ r) ∙ sym (append_assoc tokens (t ∷ []) r)) f.phase h l

-- Runs.

refusal_not_high : (t : SymbolAt) → ma.refusal t ≡ TooHigh → ⊥
refusal_not_high t h = pick (is_unsupported t.symbol) h
  where
    pick : (c : Bool) → (if c then Unsupported t.at else Syntax t.at) ≡ TooHigh → ⊥
    pick true h = cc
    pick false h = cc

over_same : (r q : Result) → Over r ≡ Over q → r ≡ q
over_same r q h = cc

pub halted : (tokens : List SymbolAt) (t : SymbolAt) (s : State) (o : Option State) → GoodState (λ r. tokens ++ r) s → ma.step t s ≡ o → ma.course t (ma.limited o) ≡ Over TooHigh → Begins (tokens ++ t ∷ [])
halted tokens t s None g e h = absurd (refusal_not_high t (over_same (ma.refusal t) TooHigh h))
halted tokens t s (Some z) g e h = pick (leb (ma.phase_low z.phase) 200) refl h
  where
    pick : (c : Bool) → leb (ma.phase_low z.phase) 200 ≡ c → ma.course t (if c then Goes z else High) ≡ Over TooHigh → Begins (tokens ++ t ∷ [])
    pick true q h = cc
    pick false q h = step_high tokens t s z g e q

high_or_low : (tokens : List SymbolAt) (w : Begins tokens) → (BeginsWithin 200 tokens → ⊥) → (c : Bool) → leb (height_items w.tree) 200 ≡ c → 200 < height_items w.tree
high_or_low tokens w n true q = absurd (n (record { begins = w; low = leb-true _ _ q }))
high_or_low tokens w n false q = leb-false _ _ q

-- The limit is passed where some shaped tree begins with the tokens up to there, and each such is higher.
pub high_first : (tokens : List SymbolAt) → ma.run tokens (Going ma.start) ≡ Over TooHigh → (token : SymbolAt) × IsTooHighAt tokens token
high_first tokens h =
    let w = stop_of tokens ma.start TooHigh h in
    let ts = w.before ++ w.token ∷ [] in (
      w.token,
      record {
        before = w.before;
        behind = w.behind;
        are = w.are;
        begins = halted w.before w.token w.state (ma.step w.token w.state) (going_good w.before w.state w.goes) refl w.stops;
        high = λ x. high_or_low ts x (refused ts TooHigh (run_to_stop tokens TooHigh w)) (leb (height_items x.tree) 200) refl;
      },
    )
