-- Words that stand together have `typedef` among them where their storage says so.
use Rattle.std.proofs.Common.{◌≡◌, ℕ, Bool, true, false, Option, None, Some, if◌then◌else◌, refl, ap, ◌∙◌}
use Rattle.std.specs.Option.{option_map, option_and_then}
use Rattle.c_tree.specs.declared.symbol.StorageWord.{StorageWord}
use Rattle.c_tree.specs.declared.symbol.StorageWord.TheVariants as word
use Rattle.c_tree.specs.declared.known.Typing.{Typing}
use Rattle.c_tree.specs.declared.known.Typing.TheVariants as ty
use Rattle.c_tree.specs.declared.known.Storage.{Storage}
use Rattle.c_tree.specs.declared.known.Storage.TheVariants as storage
use Rattle.c_tree.specs.declared.known.Site.{Site}
use Rattle.c_tree.specs.declared.known.Site.TheVariants as site
use Rattle.c_tree.specs.declared.known.Known.{Known}
use Rattle.c_tree.specs.Tree as t
use Rattle.c_tree.specs.Words.{known, only, storage_with, is_typedef, is_lawful, lawful, known_type, known_storage, type_with, with_word, alone}
use Rattle.c_meaning.specs.Scope as s

abbrev or_this : {A : Type 0} → A → Option A → A
or_this a None = a
or_this a (Some b) = b

some_is : {A : Type 0} (a b : A) → Some a ≡ Some b → a ≡ b
some_is a b h = ap (or_this a) h

lawful_is : (p : Site) (k l : Known) → lawful p k ≡ Some l → k ≡ l
lawful_is p k l h = by_test (is_lawful p k) h
  where
    by_test : (b : Bool) → (if b then Some k else None) ≡ Some l → k ≡ l
    by_test true e = some_is k l e
    by_test false e = cc

type_by : (p : Site) (k l : Known) (o : Option Typing) → option_and_then (λ y. lawful p (known_type k y)) o ≡ Some l → k.storage ≡ l.storage
type_by p k l None h = cc
type_by p k l (Some y) h = ap (λ x. x.storage) (lawful_is p (known_type k y) l h)

named_by : (k l : Known) (o : Option Typing) → option_map (known_type k) o ≡ Some l → k.storage ≡ l.storage
named_by k l None h = cc
named_by k l (Some y) h = ap (λ x. x.storage) (some_is (known_type k y) l h)

only_told : (class x y : Storage) → only class x ≡ Some y → (class ≡ y) × (is_typedef x ≡ false)
only_told class storage.Unstated y h = (some_is class y h, refl)
only_told class storage.Typedef y h = cc
only_told class storage.Other y h = cc

-- whether it is `typedef` behind one more word
abbrev pub typedef_or : StorageWord → Bool → Bool
typedef_or word.Typedef b = true
typedef_or w b = b

storage_told : (p : Site) (w : StorageWord) (x y : Storage) → storage_with p w x ≡ Some y → typedef_or w (is_typedef x) ≡ is_typedef y
storage_told site.File word.Extern x y h = let r = only_told storage.Other x y h in r.1 ∙ ap is_typedef r.0
storage_told site.File word.Static x y h = let r = only_told storage.Other x y h in r.1 ∙ ap is_typedef r.0
storage_told site.File word.Typedef x y h = let r = only_told storage.Typedef x y h in ap is_typedef r.0
storage_told site.File word.Inline x y h = ap is_typedef (some_is x y h)
storage_told site.File word.InlineShort x y h = ap is_typedef (some_is x y h)
storage_told site.File word.InlineLong x y h = ap is_typedef (some_is x y h)
storage_told site.File word.Noreturn x y h = ap is_typedef (some_is x y h)
storage_told site.File word.Auto x y h = cc
storage_told site.File word.Register x y h = cc
storage_told site.Block word.Typedef x y h = let r = only_told storage.Typedef x y h in ap is_typedef r.0
storage_told site.Block word.Auto x y h = let r = only_told storage.Other x y h in r.1 ∙ ap is_typedef r.0
storage_told site.Block word.Register x y h = let r = only_told storage.Other x y h in r.1 ∙ ap is_typedef r.0
storage_told site.Block word.Extern x y h = cc
storage_told site.Block word.Static x y h = cc
storage_told site.Block word.Inline x y h = cc
storage_told site.Block word.InlineShort x y h = cc
storage_told site.Block word.InlineLong x y h = cc
storage_told site.Block word.Noreturn x y h = cc
storage_told site.Cast w x y h = cc
storage_told site.Bare w x y h = cc

storage_by : (p : Site) (w : StorageWord) (k l : Known) (o : Option Storage) → storage_with p w k.storage ≡ o → option_and_then (λ c. lawful p (known_storage k c)) o ≡ Some l → typedef_or w (is_typedef k.storage) ≡ is_typedef l.storage
storage_by p w k l None e h = cc
storage_by p w k l (Some c) e h = storage_told p w k.storage c e ∙ ap (λ x. is_typedef x.storage) (lawful_is p (known_storage k c) l h)

has_or : (ws : t.Words) (w : StorageWord) (at : ℕ) → s.has_typedef (t.words_and ws (t.wStorage w at)) ≡ typedef_or w (s.has_typedef ws)
has_or ws word.Typedef at = refl
has_or ws word.Extern at = refl
has_or ws word.Static at = refl
has_or ws word.Inline at = refl
has_or ws word.InlineShort at = refl
has_or ws word.InlineLong at = refl
has_or ws word.Noreturn at = refl
has_or ws word.Auto at = refl
has_or ws word.Register at = refl

word_told : (p : Site) (ws : t.Words) (w : t.Word) (k l : Known) → s.has_typedef ws ≡ is_typedef k.storage → with_word p w k ≡ Some l → s.has_typedef (t.words_and ws w) ≡ is_typedef l.storage
word_told p ws (t.wType w at) k l h e = h ∙ ap is_typedef (type_by p k l (type_with w k.typing) e)
word_told p ws (t.wStorage w at) k l h e = has_or ws w at ∙ ap (typedef_or w) h ∙ storage_by p w k l (storage_with p w k.storage) refl e
word_told p ws (t.wConst w at) k l h e = h ∙ ap (λ x. is_typedef x.storage) (some_is k l e)
word_told p ws (t.wExtension at) k l h e = h ∙ ap (λ x. is_typedef x.storage) (some_is k l e)
word_told p ws (t.wAttribute a) k l h e = h ∙ ap (λ x. is_typedef x.storage) (some_is k l e)
word_told p ws (t.wTypedef n at) k l h e = h ∙ ap is_typedef (named_by k l (alone ty.Named k.typing) e)
word_told p ws (t.wTag at n b) k l h e = h ∙ ap is_typedef (named_by k l (alone ty.Named k.typing) e)
word_told p ws (t.wEnum at a es c b) k l h e = h ∙ ap is_typedef (named_by k l (alone ty.Named k.typing) e)
word_told p ws (t.wTagEnum at n x a es c b) k l h e = h ∙ ap is_typedef (named_by k l (alone ty.Named k.typing) e)

words_by : (p : Site) (ws : t.Words) (w : t.Word) (l : Known) (o : Option Known) → ((k : Known) → o ≡ Some k → s.has_typedef ws ≡ is_typedef k.storage) → option_and_then (with_word p w) o ≡ Some l → s.has_typedef (t.words_and ws w) ≡ is_typedef l.storage
words_by p ws w l None f h = cc
words_by p ws w l (Some k) f h = word_told p ws w k l (f k refl) h

pub typedef_known : (p : Site) (ws : t.Words) (k : Known) → known p ws ≡ Some k → s.has_typedef ws ≡ is_typedef k.storage
typedef_known p t.no_words k h = ap (λ x. is_typedef x.storage) (some_is _ k h)
typedef_known p (t.words_and ws w) k h = words_by p ws w k (known p ws) (λ l e. typedef_known p ws l e) h
