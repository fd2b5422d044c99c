-- What ends an item that is read in part: a name that is free, a number, and the words and brackets that are owed.
use Rattle.std.proofs.Common.{◌≡◌, ◌≢◌, ℕ, zero, suc, ◌+◌, ◌<◌, List, [], ◌∷◌, length, Option, None, Some, Bool, true, false, ◌&&◌, ◌||◌, not, if◌then◌else◌, refl, subst, sym, ap, ◌∙◌, arith}
use Rattle.std.specs.Str.{bytes_eq}
use Rattle.std.specs.Option.{option_map, option_and_then}
use Rattle.std.proofs.lemmas.Slice.Eq.{bytes_eq-Decides}
use Rattle.c_tree.specs.declared.symbol.Bracket.{Bracket}
use Rattle.c_tree.specs.declared.symbol.Bracket.TheVariants as br
use Rattle.c_tree.specs.declared.symbol.TypeWord.TheVariants as type
use Rattle.c_tree.specs.declared.symbol.SymbolAt.{SymbolAt}
use Rattle.c_tree.specs.declared.known.Site.{Site}
use Rattle.c_tree.specs.declared.known.Typing.{Typing}
use Rattle.c_tree.specs.declared.known.Typing.TheVariants as ty
use Rattle.c_tree.specs.declared.known.Storage.{Storage}
use Rattle.c_tree.specs.declared.known.Known.{Known}
use Rattle.c_tree.specs.Spelling.{closing, spell_raw}
use Rattle.c_tree.specs.Shape as sh
use Rattle.c_tree.specs.Words as wd
use Rattle.c_tree.specs.Words.{known, with_word, with_named, is_typed, is_void, is_typedef}
use Rattle.c_tree.specs.Tree.{Raw, raw_and, Ex, eNumber, Parts, no_parts, parts_and, Words, no_words, words_and, Word, wType, wStorage, wConst, wExtension, wAttribute, wTypedef, wTag, wEnum, wTagEnum}

abbrev pub Reader : Type 0
Reader = List SymbolAt → List SymbolAt

-- the number 1
abbrev pub one : Ex
one = eNumber 1 (record { decimal = true; unsigned_suffix = false; longs = 0 }) 0

abbrev pub one_part : Parts
one_part = parts_and no_parts None one

-- A name that is no typedef name: so many underscores that it is longer than each of them.

abbrev underscores : ℕ → List ℕ
underscores zero = []
underscores (suc n) = 95 ∷ underscores n

abbrev total : List (List ℕ) → ℕ
total [] = 0
total (n ∷ ns) = length n + total ns

abbrev pub free_name : List (List ℕ) → List ℕ
free_name ns = underscores (suc (total ns))

length_of_underscores : (n : ℕ) → length (underscores n) ≡ n
length_of_underscores zero = refl
length_of_underscores (suc n) = ap suc (length_of_underscores n)

differs : (x y : List ℕ) → x ≢ y → bytes_eq x y ≡ false
differs x y h = cases (bytes_eq x y) (bytes_eq-Decides x y).0
  where
    cases : (c : Bool) → (c ≡ true → x ≡ y) → c ≡ false
    cases true e = absurd (h (e refl))
    cases false e = refl

neither : (c d : Bool) → c ≡ false → d ≡ false → (c || d) ≡ false
neither true d h g = cc
neither false d h g = g

has_no_long : (ns : List (List ℕ)) (k : ℕ) → total ns < k → sh.has ns (underscores k) ≡ false
has_no_long [] k h = refl
has_no_long (n ∷ ns) k h =
    neither _ _ (differs n (underscores k) (λ e. let l : length n ≡ k = ap length e ∙ length_of_underscores k in absurd (omega (arith, l, h)))) (has_no_long ns k (omega (arith, h)))

pub free_name_is_free : (ns : List (List ℕ)) → sh.has ns (free_name ns) ≡ false
free_name_is_free ns = has_no_long ns (suc (total ns)) (omega arith)

-- Brackets that are open among tokens that are kept as they stand.

pub record Balanced (c : Bracket) (r : Raw) : Type 0 where
  pub raw : Raw
  pub balanced : sh.IsBalanced c raw
  pub more : Reader
  pub spells : (q : List SymbolAt) → spell_raw raw q ≡ spell_raw r (more q)

closes : (c : Bracket) (n : ℕ) → sh.depth_behind c (closing c 0).symbol (suc n) ≡ Some n
closes br.Round n = refl
closes br.Square n = refl
closes br.Curly n = refl

pub balance : (c : Bracket) (n : ℕ) (r : Raw) → sh.depth_of c r ≡ Some n → Balanced c r
balance c zero r h = record { raw = r; balanced = h; more = λ q. q; spells = λ q. refl }
balance c (suc n) r h =
    let z = balance c n (raw_and r (closing c 0)) (ap (sh.depth_on c (closing c 0).symbol) h ∙ closes c n) in
    record { raw = z.raw; balanced = z.balanced; more = λ q. closing c 0 ∷ z.more q; spells = z.spells }

-- Words.

some_same : {A : Type 0} (a c : A) → Some a ≡ Some c → a ≡ c
some_same a c h = cc

untyped : (y : Typing) → is_typed y ≡ false → y ≡ ty.Untyped
untyped ty.Untyped h = refl
untyped _ h = cc

-- `int` may follow words without a type
pub record WithInt (s : Site) (ws : Words) : Type 0 where
  pub told : Known
  pub together : known s (words_and ws (wType type.Int 0)) ≡ Some told
  pub typed : is_typed told.typing ≡ true

int_told : (s : Site) (k : Known) (y : Typing) → y ≡ ty.Untyped → (n : Known) × (option_and_then (λ z. wd.lawful s (wd.known_type k z)) (wd.with_int y) ≡ Some n) × (is_typed n.typing ≡ true)
int_told s k y e = subst (λ z. (n : Known) × (option_and_then (λ x. wd.lawful s (wd.known_type k x)) (wd.with_int z) ≡ Some n) × (is_typed n.typing ≡ true)) (sym e) (_, refl, refl)

pub with_int : (s : Site) (ws : Words) (k : Known) → known s ws ≡ Some k → is_typed k.typing ≡ false → WithInt s ws
with_int s ws k e h = let z = int_told s k k.typing (untyped k.typing h) in record { told = z.0; together = ap (option_and_then (with_word s (wType type.Int 0))) e ∙ z.1; typed = z.2 }

-- an enumeration is a type
named_typed : (k n : Known) (y : Typing) → option_map (wd.known_type k) (wd.alone ty.Named y) ≡ Some n → is_typed n.typing ≡ true
named_typed k n ty.Untyped h = ap (λ z. is_typed z.typing) (sym (some_same (wd.known_type k ty.Named) n h))
named_typed k n _ h = cc

pub named_is_typed : (k n : Known) → with_named k ≡ Some n → is_typed n.typing ≡ true
named_is_typed k n h = named_typed k n k.typing h

-- Words that stand together are no typedef of `void`, and `void` alone stands at file scope or in a cast.

pick_lawful : (s : Site) (k n : Known) (c : Bool) → wd.is_lawful s k ≡ c → (if c then Some k else None) ≡ Some n → wd.is_lawful s n ≡ true
pick_lawful s k n true e h = ap (wd.is_lawful s) (sym (some_same k n h)) ∙ e
pick_lawful s k n false e h = cc

lawful_is : (s : Site) (k n : Known) → wd.lawful s k ≡ Some n → wd.is_lawful s n ≡ true
lawful_is s k n h = pick_lawful s k n (wd.is_lawful s k) refl h

type_lawful : (s : Site) (j k : Known) (o : Option Typing) → option_and_then (λ y. wd.lawful s (wd.known_type j y)) o ≡ Some k → wd.is_lawful s k ≡ true
type_lawful s j k None h = cc
type_lawful s j k (Some y) h = lawful_is s (wd.known_type j y) k h

storage_lawful : (s : Site) (j k : Known) (o : Option Storage) → option_and_then (λ c. wd.lawful s (wd.known_storage j c)) o ≡ Some k → wd.is_lawful s k ≡ true
storage_lawful s j k None h = cc
storage_lawful s j k (Some c) h = lawful_is s (wd.known_storage j c) k h

named_lawful : (s : Site) (j k : Known) (y : Typing) → option_map (wd.known_type j) (wd.alone ty.Named y) ≡ Some k → wd.is_lawful s k ≡ true
named_lawful s j k ty.Untyped h = ap (wd.is_lawful s) (sym (some_same (wd.known_type j ty.Named) k h))
named_lawful s j k _ h = cc

word_lawful : (s : Site) (x : Word) (j k : Known) → wd.is_lawful s j ≡ true → with_word s x j ≡ Some k → wd.is_lawful s k ≡ true
word_lawful s (wType w at) j k l h = type_lawful s j k (wd.type_with w j.typing) h
word_lawful s (wStorage w at) j k l h = storage_lawful s j k (wd.storage_with s w j.storage) h
word_lawful s (wConst w at) j k l h = ap (wd.is_lawful s) (sym (some_same j k h)) ∙ l
word_lawful s (wExtension at) j k l h = ap (wd.is_lawful s) (sym (some_same j k h)) ∙ l
word_lawful s (wAttribute a) j k l h = ap (wd.is_lawful s) (sym (some_same j k h)) ∙ l
word_lawful s (wTypedef n at) j k l h = named_lawful s j k j.typing h
word_lawful s (wTag at n c) j k l h = named_lawful s j k j.typing h
word_lawful s (wEnum at a es c y) j k l h = named_lawful s j k j.typing h
word_lawful s (wTagEnum at n x a es c y) j k l h = named_lawful s j k j.typing h

known_lawful : (s : Site) (ws : Words) (k : Known) → known s ws ≡ Some k → wd.is_lawful s k ≡ true
known_lawful s no_words k h = ap (wd.is_lawful s) (sym (some_same wd.nothing_known k h))
known_lawful s (words_and ws x) k h = behind (λ j e. known_lawful s ws j e) (known s ws) refl h
  where
    behind : ((j : Known) → known s ws ≡ Some j → wd.is_lawful s j ≡ true) → (o : Option Known) → known s ws ≡ o → option_and_then (with_word s x) o ≡ Some k → wd.is_lawful s k ≡ true
    behind ih None e g = cc
    behind ih (Some j) e g = word_lawful s x j k (ih j e) g

lawful_void : (v t m : Bool) → not (v && (t || not m)) ≡ true → v ≡ true → (m ≡ true) × (t ≡ false)
lawful_void true true m h g = cc
lawful_void true false true h g = (refl, refl)
lawful_void true false false h g = cc
lawful_void false t m h g = cc

pub void_stands : (s : Site) (ws : Words) (k : Known) → known s ws ≡ Some k → is_void k.typing ≡ true → (wd.may_be_void s ≡ true) × (is_typedef k.storage ≡ false)
void_stands s ws k h v = lawful_void (is_void k.typing) (is_typedef k.storage) (wd.may_be_void s) (known_lawful s ws k h) v
