-- Tokens that have no clause of their own.
use Rattle.std.proofs.Common.{◌≡◌, ℕ, List, refl}
use Rattle.c_tree.specs.declared.symbol.AttributeWord.{AttributeWord}
use Rattle.c_tree.specs.declared.symbol.ConstWord.{ConstWord}
use Rattle.c_tree.specs.declared.symbol.StorageWord.{StorageWord}
use Rattle.c_tree.specs.declared.symbol.TypeWord.{TypeWord}
use Rattle.c_tree.specs.declared.symbol.Symbol.{Symbol}
use Rattle.c_tree.specs.declared.symbol.Symbol.TheVariants as sy
use Rattle.c_tree.specs.Tree as tr
use Rattle.parse_machine.specs.Contexts as m
use Rattle.parse_machine.specs.Making as mk
use Rattle.parse_machine.specs.Expressions as ex
use Rattle.parse_machine.specs.Specifiers as sf
use Rattle.parse_machine.specs.Statements as sm
use Rattle.parse_machine.specs.Steps as st

pub file_else : (names : List (List ℕ)) (t : Symbol) (at : ℕ) → (t ≡ sy.Semicolon → ⊥) → (t ≡ sy.End → ⊥) → st.step_file names t at ≡ sf.step_specs names t at mk.unspoken (m.aroundPlace m.placeFile)
file_else names sy.Semicolon at h k = absurd (h refl)
file_else names sy.End at h k = absurd (k refl)
file_else names t at h k = refl

pub label_else : (names : List (List ℕ)) (t : Symbol) (at : ℕ) (n : List ℕ) (x b : ℕ) (ats : tr.Ats) (o : m.Outer) → ((w : AttributeWord) → t ≡ sy.Attribute w → ⊥) → sm.step_label names t at n x b ats o ≡ sm.step_begin names t at (m.outWrap (m.wLabel n x b ats) o)
label_else names (sy.Attribute w) at n x b ats o h = absurd (h w refl)
label_else names t at n x b ats o h = refl

pub either_else : (names : List (List ℕ)) (t : Symbol) (at : ℕ) (f : m.Fork) (ats : List ℕ) → ((n : List ℕ) → t ≡ sy.Name n → ⊥) → ((w : TypeWord) → t ≡ sy.Type w → ⊥) → ((w : StorageWord) → t ≡ sy.Storage w → ⊥) → ((w : ConstWord) → t ≡ sy.Const w → ⊥) → ((w : AttributeWord) → t ≡ sy.Attribute w → ⊥) → (t ≡ sy.Enum → ⊥) → (t ≡ sy.Extension → ⊥) → sm.step_either names t at f ats ≡ ex.step_maybe names t at (sm.extension_binds ats (sm.fork_inner f))
either_else names (sy.Name n) at f ats a b c d e g h = absurd (a n refl)
either_else names (sy.Type w) at f ats a b c d e g h = absurd (b w refl)
either_else names (sy.Storage w) at f ats a b c d e g h = absurd (c w refl)
either_else names (sy.Const w) at f ats a b c d e g h = absurd (d w refl)
either_else names (sy.Attribute w) at f ats a b c d e g h = absurd (e w refl)
either_else names sy.Enum at f ats a b c d e g h = absurd (g refl)
either_else names sy.Extension at f ats a b c d e g h = absurd (h refl)
either_else names t at f ats a b c d e g h = refl
