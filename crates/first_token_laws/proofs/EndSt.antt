-- How an item ends that is read up to a statement or into one.
use Rattle.std.proofs.Common.{◌≡◌, ℕ, List, ◌∷◌, false, refl, subst, sym, ap, ◌∙◌}
use Rattle.c_tree.specs.declared.symbol.Bracket.TheVariants as br
use Rattle.c_tree.specs.declared.symbol.StatementWord.TheVariants as key
use Rattle.c_tree.specs.declared.symbol.Symbol.TheVariants as sy
use Rattle.c_tree.specs.declared.symbol.SymbolAt.{SymbolAt}
use Rattle.c_tree.specs.Symbols.{sign}
use Rattle.c_tree.specs.Spelling.{opening, closing, word, spell, spell_statement, spell_item}
use Rattle.c_tree.specs.Shape as sh
use Rattle.c_tree.specs.Tree.{head, St, sDeclaration, sBlock, sEmpty, sDo, statements_and, bBlock, Item}
use Rattle.parse_machine.specs.Contexts.{Wrap, wThen, wElse, wWhile, wSwitch, wFor, wCase, wDefault, wLabel, Outer, outBody, outBlock, outDo, outWrap}
use Rattle.parse_machine.specs.Making.{wrapped}
use Rattle.parse_machine.specs.Heights.{is_list}
use Rattle.parse_machine.specs.Statements as stt
use Rattle.parse_laws.proofs.Before as b
use Rattle.parse_laws.proofs.Fits.{wrap_names, scope, FitWrap, FitOuter, Stands, FitItem}
use Rattle.parse_laws.proofs.SoundSt.{function_fits}
use Rattle.first_token_laws.proofs.Fillers.{Reader, one}

-- an item that begins with what is read
pub record Ends (file : List (List ℕ)) (p : Reader) : Type 0 where
  pub item : Item
  pub fits : FitItem file item
  pub more : Reader
  pub spelled : (r : List SymbolAt) → spell_item item r ≡ p (more r)

-- behind more tokens
pub ends_on : (file : List (List ℕ)) (p q f : Reader) → ((r : List SymbolAt) → p r ≡ q (f r)) → Ends file p → Ends file q
ends_on file p q f h e = record { item = e.item; fits = e.fits; more = λ r. f (e.more r); spelled = λ r. e.spelled r ∙ h (e.more r) }

pub is_statement : (s : St) (o : Outer) → is_list o ≡ false → Stands s o → sh.IsStatement s
is_statement (sDeclaration d) o h w = cc
is_statement _ o h w = tt

pub wrap_shaped : (ns : List (List ℕ)) (w : Wrap) (s : St) → FitWrap ns w → sh.IsStatement s → sh.ShapedStatement s (wrap_names w ns) → sh.ShapedStatement (wrapped w s) ns
wrap_shaped ns (wThen h) s f i g = (f, i, g)
wrap_shaped ns (wElse h a at) s f i g = (f.0, f.1, f.2, i, f.3, g)
wrap_shaped ns (wWhile h) s f i g = (f, i, g)
wrap_shaped ns (wSwitch h) s f i g = (f, i, g)
wrap_shaped ns (wFor m h) s f i g = (f.1, i, g)
wrap_shaped ns (wCase at e c) s f i g = (f.0, f.1, i, g)
wrap_shaped ns (wDefault at c) s f i g = (i, g)
wrap_shaped ns (wLabel n at c ats) s f i g = (f.0, f.1, i, g)

pub wrap_spells : (w : Wrap) (s : St) (r : List SymbolAt) → spell_statement (wrapped w s) r ≡ b.wrap w (spell_statement s r)
wrap_spells (wThen h) s r = refl
wrap_spells (wElse h a at) s r = refl
wrap_spells (wWhile h) s r = refl
wrap_spells (wSwitch h) s r = refl
wrap_spells (wFor m h) s r = refl
wrap_spells (wCase at e c) s r = refl
wrap_spells (wDefault at c) s r = refl
wrap_spells (wLabel n at c ats) s r = refl

pub wrap_stands : (w : Wrap) (s : St) (o : Outer) → Stands (wrapped w s) o
wrap_stands (wThen h) s o = tt
wrap_stands (wElse h a at) s o = tt
wrap_stands (wWhile h) s o = tt
wrap_stands (wSwitch h) s o = tt
wrap_stands (wFor m h) s o = tt
wrap_stands (wCase at e c) s o = tt
wrap_stands (wDefault at c) s o = tt
wrap_stands (wLabel n at c ats) s o = tt

-- Behind a statement: all that is open around it ends.
pub outer_ends : (file : List (List ℕ)) (o : Outer) (s : St) → FitOuter file o → Stands s o → sh.ShapedStatement s (scope file o) → Ends file (λ r. b.outer o (spell_statement s r))
outer_ends file (outBody m h a ss) s f d g = record {
  item = stt.function_item h (bBlock a (statements_and ss s) 0);
  fits = function_fits file h (bBlock a (statements_and ss s) 0) f.1 (subst (λ c. sh.ShapedBody c file (bBlock a (statements_and ss s) 0)) (sym f.2) (f.3, g));
  more = λ r. closing br.Curly 0 ∷ r;
  spelled = λ r. refl;
}
outer_ends file (outBlock m a ss o) s f d g = ends_on file _ _ (λ r. closing br.Curly 0 ∷ r) (λ r. refl) (outer_ends file o (sBlock a (statements_and ss s) 0) f.2 tt (f.1, g))
outer_ends file (outDo at o) s f d g =
    ends_on file _ _ (λ r. word key.While 0 ∷ opening br.Round 0 ∷ spell one (closing br.Round 0 ∷ sign sy.Semicolon 0 ∷ r)) (λ r. refl)
    (outer_ends file o (sDo at s (head 0 0 one 0) 0) f tt (tt, is_statement s (outDo at o) refl d, g))
outer_ends file (outWrap w o) s f d g =
    ends_on file _ _ (λ r. r) (λ r. ap (b.outer o) (wrap_spells w s r))
    (outer_ends file o (wrapped w s) f.1 (wrap_stands w s o) (wrap_shaped (scope file o) w s f.0 (is_statement s (outWrap w o) refl d) g))

-- where a statement is to come
pub begin_ends : (file : List (List ℕ)) (o : Outer) → FitOuter file o → Ends file (b.outer o)
begin_ends file o f = ends_on file _ _ (λ r. sign sy.Semicolon 0 ∷ r) (λ r. refl) (outer_ends file o (sEmpty 0) f tt tt)
