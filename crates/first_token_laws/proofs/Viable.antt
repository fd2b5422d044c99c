-- Some shaped tree begins with the tokens that the machine reads without stopping.
use Rattle.std.proofs.Common.{◌≡◌, ℕ, List, [], ◌∷◌, ◌++◌, true, false, refl, subst, sym, ap, ◌∙◌, inl, inr}
use Rattle.c_tree.specs.declared.symbol.StorageWord.TheVariants as storage
use Rattle.c_tree.specs.declared.symbol.BinaryOp.TheVariants as op
use Rattle.c_tree.specs.declared.symbol.TypeWord.TheVariants as type
use Rattle.c_tree.specs.declared.symbol.Symbol.TheVariants as sy
use Rattle.c_tree.specs.declared.symbol.SymbolAt.{SymbolAt}
use Rattle.c_tree.specs.Symbols.{sign}
use Rattle.c_tree.specs.Spelling.{extension, spell_raw, spell_item, spell_items}
use Rattle.c_tree.specs.Shape as sh
use Rattle.c_tree.specs.Denotes.{Begins}
use Rattle.c_tree.specs.Tree.{Raw, raw_and, no_words, words_and, wType, wExtension, no_declarators, declares, Item, tSkipped, tFunction, tDeclaration, tEmpty, Items, items_and}
use Rattle.parse_machine.specs.Contexts.{Mode, File, Ended, Finished}
use Rattle.parse_machine.specs.Machine as ma
use Rattle.parse_machine.specs.Machine.{Phase, Plain, Both, Skipping, Above, State, Going, Over}
use Rattle.parse_laws.proofs.Before as b
use Rattle.parse_laws.proofs.Fits.{FitItem, Fit}
use Rattle.parse_laws.proofs.Good.{Reads}
use Rattle.first_token_laws.proofs.Fillers.{Reader}
use Rattle.first_token_laws.proofs.EndMode.{HasBegun, Sure, mode_ends}
use Rattle.first_token_laws.proofs.SureRun.{Begun, GoodExtern, GoodPhase, GoodPlain, item_shaped, going_good}

-- one item more
item_begins : (tokens : List SymbolAt) (is : Items) (i : Item) (more : Reader) → sh.ShapedItems is → sh.ShapedItem i (sh.file_names is) → ((r : List SymbolAt) → spell_items is (spell_item i r) ≡ tokens ++ more r) → Begins tokens
item_begins tokens is i more s g e = record { tree = items_and is i; shaped = (s, g); end = 0; more = more (sign sy.End 0 ∷ []); spelled = e (sign sy.End 0 ∷ []) }

unlisted_shaped : (file : List (List ℕ)) (i : Item) → FitItem file i → sh.is_unlisted (spell_item i []) ≡ true → sh.ShapedItem i file
unlisted_shaped file (tSkipped x at r c) f u = f
unlisted_shaped file (tFunction ws n ps ats y) f u = (f, u)
unlisted_shaped file (tDeclaration d) f u = (f, u)
unlisted_shaped file (tEmpty at) f u = tt

reads_of : (m : Mode) (here : Reader) → HasBegun m → Reads m here → (r : List SymbolAt) → b.mode m r ≡ here r
reads_of Finished here h g r = absurd h
reads_of _ here h g r = g r

-- behind the first token of an item
begun_viable : (tokens : List SymbolAt) (is : Items) (here : Reader) (m : Mode) → sh.ShapedItems is → ((r : List SymbolAt) → spell_items is (here r) ≡ tokens ++ r) → HasBegun m → Fit (sh.file_names is) m → Sure m → Reads m here → Begun m here → Begins tokens
begun_viable tokens is here m s e h f z g (inl k) = absurd (subst HasBegun k.0 h)
begun_viable tokens is here m s e h f z g (inr (inl k)) =
    item_begins tokens is (tDeclaration (declares (words_and (words_and no_words (wExtension k.0)) (wType type.Int 0)) no_declarators 0)) (λ r. sign (sy.Type type.Int) 0 ∷ sign sy.Semicolon 0 ∷ r) s
    (record { specs = record { told = _; together = refl; typed = refl }; words = ((tt, tt), tt); ends = refl; declarators = tt }, refl)
    (λ r. ap (spell_items is) (sym (k.2 (sign (sy.Type type.Int) 0 ∷ sign sy.Semicolon 0 ∷ r))) ∙ e (sign (sy.Type type.Int) 0 ∷ sign sy.Semicolon 0 ∷ r))
begun_viable tokens is here m s e h f z g (inr (inr k)) =
    let w = mode_ends (sh.file_names is) m h f z in
    let q : (r : List SymbolAt) → spell_item w.item r ≡ here (w.more r) = λ r. w.spelled r ∙ reads_of m here h g (w.more r) in
    item_begins tokens is w.item w.more s (unlisted_shaped (sh.file_names is) w.item w.fits (ap sh.is_unlisted (q []) ∙ k (w.more []))) (λ r. ap (spell_items is) (q r) ∙ e (w.more r))

-- a mode that keeps its trees, behind so much of an item that it is not skipped
pub shadow_viable : (tokens : List SymbolAt) (is : Items) (here : Reader) (m : Mode) → sh.ShapedItems is → ((r : List SymbolAt) → spell_items is (here r) ≡ tokens ++ r) → Fit (sh.file_names is) m → Sure m → Reads m here → ((r : List SymbolAt) → sh.is_unlisted (here r) ≡ true) → Begins tokens
shadow_viable tokens is here File s e f z g u = record { tree = is; shaped = s; end = 0; more = sign sy.End 0 ∷ []; spelled = ap (spell_items is) (g (sign sy.End 0 ∷ [])) ∙ e (sign sy.End 0 ∷ []) }
shadow_viable tokens is here Finished s e f z g u = record { tree = is; shaped = s; end = g.0; more = []; spelled = ap (spell_items is) (g.1 []) ∙ e [] }
shadow_viable tokens is here m s e f z g u = begun_viable tokens is here m s e tt f z g (inr (inr u))

-- outside of items that may be skipped
plain_viable : (tokens : List SymbolAt) (is : Items) (names : List (List ℕ)) (here : Reader) (m : Mode) → sh.ShapedItems is → ((r : List SymbolAt) → spell_items is (here r) ≡ tokens ++ r) → GoodPlain (sh.file_names is) names here m → Begins tokens
plain_viable tokens is names here File s e g = record { tree = is; shaped = s; end = 0; more = sign sy.End 0 ∷ []; spelled = ap (spell_items is) (g.3 (sign sy.End 0 ∷ [])) ∙ e (sign sy.End 0 ∷ []) }
plain_viable tokens is names here Finished s e g = record { tree = is; shaped = s; end = g.3.0; more = []; spelled = ap (spell_items is) (g.3.1 []) ∙ e [] }
plain_viable tokens is names here (Ended i h) s e g = item_begins tokens is i (λ r. r) s (item_shaped (sh.file_names is) here i h g.2 g.3 g.4) (λ r. ap (spell_items is) (g.3 r) ∙ e r)
plain_viable tokens is names here m s e g = begun_viable tokens is here m s e tt g.2 g.5 g.3 g.4

-- an item that may be skipped
skipped_viable : (tokens : List SymbolAt) (is : Items) (names : List (List ℕ)) (here : Reader) (x : ma.Extern) (q : Raw) (more : Reader) → sh.ShapedItems is → ((r : List SymbolAt) → spell_items is (here r) ≡ tokens ++ r) → GoodExtern (sh.file_names is) names here x → sh.has_listed q ≡ true → sh.has_stop q ≡ false → ((r : List SymbolAt) → spell_raw q r ≡ spell_raw x.raw (more r)) → Begins tokens
skipped_viable tokens is names here x q more s e g l k h =
    item_begins tokens is (tSkipped x.extension x.at q 0) (λ r. more (sign sy.Semicolon 0 ∷ r)) s (l, k)
    (λ r. ap (spell_items is) (ap (λ y. extension x.extension (sign (sy.Storage storage.Extern) x.at ∷ y)) (h (sign sy.Semicolon 0 ∷ r)) ∙ g.tokens (more (sign sy.Semicolon 0 ∷ r))) ∙ e (more (sign sy.Semicolon 0 ∷ r)))

phase_viable : (tokens : List SymbolAt) (is : Items) (names : List (List ℕ)) (here : Reader) (x : Phase) → sh.ShapedItems is → ((r : List SymbolAt) → spell_items is (here r) ≡ tokens ++ r) → GoodPhase (sh.file_names is) names here x → Begins tokens
phase_viable tokens is names here (Plain m) s e g = plain_viable tokens is names here m s e g
phase_viable tokens is names here (Both x m high) s e g = skipped_viable tokens is names here x (raw_and x.raw (sign (sy.Binary op.Multiply) 0)) (λ r. sign (sy.Binary op.Multiply) 0 ∷ r) s e g.0 refl g.0.no_stop (λ r. refl)
phase_viable tokens is names here (Skipping x) s e g = skipped_viable tokens is names here x x.raw (λ r. r) s e g.0 g.1 g.0.no_stop (λ r. refl)
phase_viable tokens is names here Above s e g = absurd g

-- Some shaped tree begins with the tokens that the machine reads without stopping.
pub viable : (tokens : List SymbolAt) (s : State) → ma.run tokens (Going ma.start) ≡ Going s → Begins tokens
viable tokens s h = let g = going_good tokens s h in phase_viable tokens s.items s.names g.here s.phase g.shaped g.split g.phase
