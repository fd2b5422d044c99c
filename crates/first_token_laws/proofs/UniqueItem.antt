-- Two shaped items with which the same tokens begin are equal, of whatever height.
use Rattle.std.proofs.Common.{◌≡◌, ℕ, List, [], ◌∷◌, ◌++◌, Option, None, Some, Bool, true, false, ◌&&◌, ◌||◌, not, if◌then◌else◌, refl, subst, sym, ap, ◌∙◌, ◌⊎◌, inl, inr}
use Rattle.c_tree.specs.declared.symbol.StorageWord.TheVariants as storage
use Rattle.c_tree.specs.declared.symbol.Symbol.TheVariants as sy
use Rattle.c_tree.specs.declared.symbol.SymbolAt.{SymbolAt}
use Rattle.c_tree.specs.Symbols.{sign}
use Rattle.c_tree.specs.Spelling.{spell_raw, spell_item}
use Rattle.c_tree.specs.Shape as sh
use Rattle.c_tree.specs.Words.{nothing_known}
use Rattle.c_tree.specs.Tree.{Raw, no_raw, raw_and, wExtension, Item, tSkipped, tFunction, tDeclaration, tEmpty}
use Rattle.parse_machine.specs.Contexts.{placeFile, aroundPlace, Specifiers, Mode, File, Ended, Finished}
use Rattle.parse_machine.specs.Making as mk
use Rattle.parse_machine.specs.Declarations.{Turn}
use Rattle.parse_laws.proofs.Externs.{OutTurn, extern_out, next_out}
use Rattle.parse_laws.proofs.ReadItem.{IsRead}
use Rattle.std.proofs.lemmas.List.{append-nil}
use Rattle.high_tree_laws.proofs.Kept.{kept_item}
use Rattle.high_tree_laws.proofs.Appended.{item_on}
use Rattle.high_tree_laws.proofs.Leads as real
use Rattle.high_tree_laws.proofs.ReadItem as high
use Rattle.first_token_laws.proofs.FullLeads.{walk, stand}
use Rattle.first_token_laws.proofs.FullReadItem.{item_read}

-- Lists.

abbrev pub OneIsFirst : List SymbolAt → List SymbolAt → List SymbolAt → List SymbolAt → Type 0
OneIsFirst a c p q = ((x : List SymbolAt) × (a ≡ c ++ x) × (q ≡ x ++ p)) ⊎ ((x : List SymbolAt) × (c ≡ a ++ x) × (p ≡ x ++ q))

pub head_same : (x y : SymbolAt) (p q : List SymbolAt) → x ∷ p ≡ y ∷ q → x ≡ y
head_same x y p q h = cc

tail_same : (x y : SymbolAt) (p q : List SymbolAt) → x ∷ p ≡ y ∷ q → p ≡ q
tail_same x y p q h = cc

pub one_is_first : (a c p q : List SymbolAt) → a ++ p ≡ c ++ q → OneIsFirst a c p q
one_is_first [] c p q h = inr (c, refl, h)
one_is_first (x ∷ a) [] p q h = inl (x ∷ a, refl, sym h)
one_is_first (x ∷ a) (y ∷ c) p q h = both (head_same x y (a ++ p) (c ++ q) h) (one_is_first a c p q (tail_same x y (a ++ p) (c ++ q) h))
  where
    both : x ≡ y → OneIsFirst a c p q → OneIsFirst (x ∷ a) (y ∷ c) p q
    both e (inl w) = inl (w.0, ap (λ z. x ∷ z) w.1 ∙ ap (λ z. z ∷ (c ++ w.0)) e, w.2)
    both e (inr w) = inr (w.0, ap (λ z. y ∷ z) w.1 ∙ ap (λ z. z ∷ (a ++ w.0)) (sym e), w.2)

-- Items that are not skipped.

walk_none : (ts : List SymbolAt) → walk ts None ≡ None
walk_none [] = refl
walk_none (t ∷ ts) = walk_none ts

walk_append : (a c : List SymbolAt) (o : Option Turn) → walk (a ++ c) o ≡ walk c (walk a o)
walk_append [] c o = refl
walk_append (t ∷ a) c o = walk_append a c _

abbrev mode_of : Option Turn → Mode
mode_of None = File
mode_of (Some u) = u.mode

ended_same : (i j : Item) (h g : ℕ) → Ended i h ≡ Ended j g → i ≡ j
ended_same i j h g e = cc

not_ended : (m : Mode) (i : Item) (h : ℕ) → Ended i h ≡ m → (m ≡ File) ⊎ (m ≡ Finished) → ⊥
not_ended m i h e (inl f) = let z : Ended i h ≡ File = e ∙ f in cc
not_ended m i h e (inr f) = let z : Ended i h ≡ Finished = e ∙ f in cc

-- where one of two items that are read is the first part of the other
same_read : (ns ms ks : List (List ℕ)) (a c x p q : List SymbolAt) (i j : Item) (h g : ℕ) → walk a (stand File ns) ≡ stand (Ended i h) ms → walk c (stand File ns) ≡ stand (Ended j g) ks → a ≡ c ++ x → q ≡ x ++ p → (i ≡ j) × (p ≡ q)
same_read ns ms ks a c [] p q i j h g e f y z =
    (ended_same i j h g (ap mode_of (sym e ∙ ap (λ w. walk w (stand File ns)) (y ∙ append-nil c) ∙ f)), sym z)
same_read ns ms ks a c (t ∷ x) p q i j h g e f y z =
    absurd (not_ended File i h (ap mode_of (sym e ∙ ap (λ w. walk w (stand File ns)) y ∙ walk_append c (t ∷ x) (stand File ns) ∙ ap (walk (t ∷ x)) f ∙ walk_none x)) (inl refl))

reads : (i : Item) (ns : List (List ℕ)) (n : IsRead i) (t : sh.ShapedItem i ns) → walk (spell_item i []) (stand File ns) ≡ stand (Ended i (item_read i ns n t []).height) (sh.item_names i ns)
reads i ns n t = let w = item_read i ns n t [] in w.reads.goes

read_twice : (i j : Item) (ns : List (List ℕ)) (p q : List SymbolAt) → IsRead i → IsRead j → sh.ShapedItem i ns → sh.ShapedItem j ns → OneIsFirst (spell_item i []) (spell_item j []) p q → (i ≡ j) × (p ≡ q)
read_twice i j ns p q n m t s (inl w) = same_read ns _ _ (spell_item i []) (spell_item j []) w.0 p q i j _ _ (reads i ns n t) (reads j ns m s) w.1 w.2
read_twice i j ns p q n m t s (inr w) =
    let z = same_read ns _ _ (spell_item j []) (spell_item i []) w.0 q p j i _ _ (reads j ns m s) (reads i ns n t) w.1 w.2 in (sym z.0, sym z.1)

-- Tokens that are kept as they stand.

raw_on : (r : Raw) (p q : List SymbolAt) → spell_raw r (p ++ q) ≡ spell_raw r p ++ q
raw_on no_raw p q = refl
raw_on (raw_and r s) p q = raw_on r (s ∷ p) q

abbrev raw_of : List SymbolAt → Raw → Raw
raw_of [] r = r
raw_of (t ∷ ts) r = raw_of ts (raw_and r t)

raw_again : (r : Raw) (q : List SymbolAt) → raw_of (spell_raw r q) no_raw ≡ raw_of q r
raw_again no_raw q = refl
raw_again (raw_and r s) q = raw_again r (s ∷ q)

abbrev NoStop : List SymbolAt → Type 0
NoStop [] = Unit {0}
NoStop (t ∷ ts) = (sh.is_stop t.symbol ≡ false) × NoStop ts

either_false : (c d : Bool) → (c || d) ≡ false → (c ≡ false) × (d ≡ false)
either_false true d h = cc
either_false false true h = cc
either_false false false h = (refl, refl)

raw_no_stop : (r : Raw) (q : List SymbolAt) → sh.has_stop r ≡ false → NoStop q → NoStop (spell_raw r q)
raw_no_stop no_raw q h n = n
raw_no_stop (raw_and r s) q h n = let z = either_false (sh.is_stop s.symbol) (sh.has_stop r) h in raw_no_stop r (s ∷ q) z.1 (z.0, n)

-- up to the first `;`
before_stop : (a c : List SymbolAt) (x y : ℕ) (p q : List SymbolAt) → NoStop a → NoStop c → a ++ sign sy.Semicolon x ∷ p ≡ c ++ sign sy.Semicolon y ∷ q → (a ≡ c) × (x ≡ y) × (p ≡ q)
before_stop [] [] x y p q n m h = (refl, at_same (head_same _ _ p q h), tail_same _ _ p q h)
  where
    at_same : sign sy.Semicolon x ≡ sign sy.Semicolon y → x ≡ y
    at_same e = ap (λ t. t.at) e
before_stop [] (t ∷ c) x y p q n m h =
    let e : true ≡ false = ap (λ s. sh.is_stop s.symbol) (head_same _ _ p (c ++ sign sy.Semicolon y ∷ q) h) ∙ m.0 in cc
before_stop (t ∷ a) [] x y p q n m h =
    let e : true ≡ false = ap (λ s. sh.is_stop s.symbol) (sym (head_same _ _ (a ++ sign sy.Semicolon x ∷ p) q h)) ∙ n.0 in cc
before_stop (t ∷ a) (u ∷ c) x y p q n m h =
    let z = before_stop a c x y p q n.1 m.1 (tail_same t u _ _ h) in
    (ap (λ w. t ∷ w) z.0 ∙ ap (λ w. w ∷ c) (head_same t u _ _ h), z.1, z.2)

raw_same : (r s : Raw) (x y : ℕ) (p q : List SymbolAt) → sh.has_stop r ≡ false → sh.has_stop s ≡ false → spell_raw r (sign sy.Semicolon x ∷ p) ≡ spell_raw s (sign sy.Semicolon y ∷ q) → (r ≡ s) × (x ≡ y) × (p ≡ q)
raw_same r s x y p q n m h =
    let z = before_stop (spell_raw r []) (spell_raw s []) x y p q (raw_no_stop r [] n tt) (raw_no_stop s [] m tt) (sym (raw_on r [] (sign sy.Semicolon x ∷ p)) ∙ h ∙ raw_on s [] (sign sy.Semicolon y ∷ q)) in
    (sym (raw_again r []) ∙ ap (λ w. raw_of w no_raw) z.0 ∙ raw_again s [], z.1, z.2)

-- Items that are skipped.

skipped_same : (x y : Option ℕ) (a c : ℕ) (r s : Raw) (v w : ℕ) (p q : List SymbolAt) → sh.has_stop r ≡ false → sh.has_stop s ≡ false → spell_item (tSkipped x a r v) p ≡ spell_item (tSkipped y c s w) q → (tSkipped x a r v ≡ tSkipped y c s w) × (p ≡ q)
skipped_same None None a c r s v w p q n m h =
    let e : a ≡ c = ap (λ t. t.at) (head_same _ _ _ _ h) in
    let z = raw_same r s v w p q n m (tail_same _ _ _ _ h) in
    (ap (λ k. tSkipped None k r v) e ∙ ap (λ k. tSkipped None c k v) z.0 ∙ ap (tSkipped None c s) z.1, z.2)
skipped_same None (Some y) a c r s v w p q n m h = absurd (apart (ap (λ t. t.symbol) (head_same _ _ _ _ h)))
  where
    apart : sy.Storage storage.Extern ≡ sy.Extension → ⊥
    apart e = cc
skipped_same (Some x) None a c r s v w p q n m h = absurd (apart (ap (λ t. t.symbol) (head_same _ _ _ _ h)))
  where
    apart : sy.Extension ≡ sy.Storage storage.Extern → ⊥
    apart e = cc
skipped_same (Some x) (Some y) a c r s v w p q n m h =
    let f : x ≡ y = ap (λ t. t.at) (head_same _ _ _ _ h) in
    let g = tail_same _ _ _ _ h in
    let e : a ≡ c = ap (λ t. t.at) (head_same _ _ _ _ g) in
    let z = raw_same r s v w p q n m (tail_same _ _ _ _ g) in
    (ap (λ k. tSkipped (Some k) a r v) f ∙ ap (λ k. tSkipped (Some y) k r v) e ∙ ap (λ k. tSkipped (Some y) c k v) z.0 ∙ ap (tSkipped (Some y) c s) z.1, z.2)

-- a token that is listed stands before the first stop
not_listed : (c d e : Bool) → c ≡ false → e ≡ false → (if c then true else (d && e)) ≡ false
not_listed true d e h g = cc
not_listed false true e h g = g
not_listed false false e h g = refl

is_listed_first : (c d e : Bool) → c ≡ false → d ≡ true → (if c then true else (not d && e)) ≡ false
is_listed_first true d e h g = cc
is_listed_first false true e h g = refl
is_listed_first false false e h g = cc

listed_behind : (r : Raw) (q : List SymbolAt) → sh.has_stop r ≡ false → sh.has_no_listed q ≡ false → sh.has_no_listed (spell_raw r q) ≡ false
listed_behind no_raw q h g = g
listed_behind (raw_and r s) q h g =
    let z = either_false (sh.is_stop s.symbol) (sh.has_stop r) h in listed_behind r (s ∷ q) z.1 (not_listed (sh.is_stop s.symbol) (not (sh.is_listed s.symbol)) (sh.has_no_listed q) z.0 g)

listed_in : (r : Raw) (q : List SymbolAt) → sh.has_stop r ≡ false → sh.has_listed r ≡ true → sh.has_no_listed (spell_raw r q) ≡ false
listed_in no_raw q h g = cc
listed_in (raw_and r s) q h g = here (sh.is_listed s.symbol) refl g (λ k. listed_in r (s ∷ q) (either_false (sh.is_stop s.symbol) (sh.has_stop r) h).1 k)
  where
    here : (c : Bool) → sh.is_listed s.symbol ≡ c → (c || sh.has_listed r) ≡ true → (sh.has_listed r ≡ true → sh.has_no_listed (spell_raw r (s ∷ q)) ≡ false) → sh.has_no_listed (spell_raw r (s ∷ q)) ≡ false
    here true e k ih =
        let z = either_false (sh.is_stop s.symbol) (sh.has_stop r) h in
        listed_behind r (s ∷ q) z.1 (is_listed_first (sh.is_stop s.symbol) (sh.is_listed s.symbol) (sh.has_no_listed q) z.0 e)
    here false e k ih = ih k

skipped_is_listed : (x : Option ℕ) (a : ℕ) (r : Raw) (v : ℕ) (p : List SymbolAt) → sh.has_listed r ≡ true → sh.has_stop r ≡ false → sh.is_unlisted (spell_item (tSkipped x a r v) p) ≡ false
skipped_is_listed None a r v p l n = listed_in r (sign sy.Semicolon v ∷ p) n l
skipped_is_listed (Some x) a r v p l n = listed_in r (sign sy.Semicolon v ∷ p) n l

item_unlisted : (i : Item) (ns : List (List ℕ)) → IsRead i → sh.ShapedItem i ns → sh.is_unlisted (spell_item i []) ≡ true
item_unlisted (tSkipped x a r c) ns n t = absurd n
item_unlisted (tFunction ws m ps ats x) ns n t = t.1
item_unlisted (tDeclaration d) ns n t = t.1
item_unlisted (tEmpty at) ns n t = refl

-- An item that begins with `extern` is not whole before a stop.

out_walk : (ts : List SymbolAt) (ns : List (List ℕ)) (o : Option Turn) → NoStop ts → OutTurn ns o → OutTurn ns (real.walk ts o)
out_walk [] ns o n g = g
out_walk (t ∷ ts) ns None n g = out_walk ts ns None n.1 tt
out_walk (t ∷ ts) ns (Some u) n g = out_walk ts ns (real.move t (Some u)) n.1 (subst (λ z. OutTurn z (real.move t (Some u))) g.0 (next_out u.names t u.mode g.1 n.0))

not_whole : (ns ms : List (List ℕ)) (o : Option Turn) (i : Item) (h : ℕ) → OutTurn ns o → o ≡ real.stand (Ended i h) ms → ⊥
not_whole ns ms o i h g e = let z = subst (OutTurn ns) e g in z.1

-- the tokens before the last
before_last : (c r : List SymbolAt) (t s : SymbolAt) (q : List SymbolAt) → NoStop r → c ++ t ∷ q ≡ r ++ s ∷ [] → NoStop c
before_last [] r t s q n h = tt
before_last (x ∷ c) (y ∷ r) t s q n h = (subst (λ z. sh.is_stop z.symbol ≡ false) (sym (head_same x y _ _ h)) n.0, before_last c r t s q n.1 (tail_same x y _ _ h))
before_last (x ∷ c) [] t s q n h = absurd (some_left c (tail_same x s _ _ h))
  where
    some_left : (c : List SymbolAt) → c ++ t ∷ q ≡ [] → ⊥
    some_left [] h = cc
    some_left (x ∷ c) h = cc

-- behind `extern`
extern_not_whole : (ns ms : List (List ℕ)) (c : List SymbolAt) (r : Raw) (v : ℕ) (t : SymbolAt) (q : List SymbolAt) (o : Option Turn) (i : Item) (h : ℕ) → sh.has_stop r ≡ false → OutTurn ns o → c ++ t ∷ q ≡ spell_raw r (sign sy.Semicolon v ∷ []) → real.walk c o ≡ real.stand (Ended i h) ms → ⊥
extern_not_whole ns ms c r v t q o i h n g e w =
    not_whole ns ms (real.walk c o) i h (out_walk c ns o (before_last c (spell_raw r []) t (sign sy.Semicolon v) q (raw_no_stop r [] n tt) (e ∙ raw_on r [] (sign sy.Semicolon v ∷ []))) g) w

-- the first token and the others
walk_first : (ns ms : List (List ℕ)) (x y : SymbolAt) (c : List SymbolAt) (m : Mode) (i : Item) (h : ℕ) → x ≡ y → real.walk (x ∷ c) (real.stand m ns) ≡ real.stand (Ended i h) ms → real.walk c (real.move y (real.stand m ns)) ≡ real.stand (Ended i h) ms
walk_first ns ms x y c m i h e w = ap (λ z. real.walk c (real.move z (real.stand m ns))) (sym e) ∙ w

plain_not_whole : (ns ms : List (List ℕ)) (a : ℕ) (r : Raw) (v : ℕ) (c : List SymbolAt) (t : SymbolAt) (q : List SymbolAt) (i : Item) (h : ℕ) → sh.has_stop r ≡ false → c ++ t ∷ q ≡ spell_item (tSkipped None a r v) [] → real.walk c (real.stand File ns) ≡ real.stand (Ended i h) ms → ⊥
plain_not_whole ns ms a r v [] t q i h n e w = not_ended File i h (ap mode_of (sym w)) (inl refl)
plain_not_whole ns ms a r v (x ∷ c) t q i h n e w =
    extern_not_whole ns ms c r v t q (real.move (sign (sy.Storage storage.Extern) a) (real.stand File ns)) i h n (extern_out ns a mk.unspoken refl) (tail_same _ _ _ _ e) (walk_first ns ms x _ c File i h (head_same _ _ _ _ e) w)

extended_not_whole : (ns ms : List (List ℕ)) (k a : ℕ) (r : Raw) (v : ℕ) (c : List SymbolAt) (t : SymbolAt) (q : List SymbolAt) (i : Item) (h : ℕ) → sh.has_stop r ≡ false → c ++ t ∷ q ≡ spell_item (tSkipped (Some k) a r v) [] → real.walk c (real.stand File ns) ≡ real.stand (Ended i h) ms → ⊥
extended_not_whole ns ms k a r v [] t q i h n e w = not_ended File i h (ap mode_of (sym w)) (inl refl)
extended_not_whole ns ms k a r v (x ∷ []) t q i h n e w = specifiers_not_ended (ap mode_of (walk_first ns ms x (sign sy.Extension k) [] File i h (head_same _ _ _ _ e) w))
  where
    specifiers_not_ended : Specifiers (mk.said mk.unspoken nothing_known (wExtension k) 0) (aroundPlace placeFile) ≡ Ended i h → ⊥
    specifiers_not_ended z = cc
extended_not_whole ns ms k a r v (x ∷ y ∷ c) t q i h n e w =
    let s = mk.said mk.unspoken nothing_known (wExtension k) 0 in
    let f = tail_same _ _ _ _ e in
    let z = walk_first ns ms x (sign sy.Extension k) (y ∷ c) File i h (head_same _ _ _ _ e) w in
    extern_not_whole ns ms c r v t q (real.move (sign (sy.Storage storage.Extern) a) (real.stand (Specifiers s (aroundPlace placeFile)) ns)) i h n (extern_out ns a s refl) (tail_same _ _ _ _ f)
    (walk_first ns ms y _ c (Specifiers s (aroundPlace placeFile)) i h (head_same _ _ _ _ f) z)

skipped_not_whole : (ns ms : List (List ℕ)) (x : Option ℕ) (a : ℕ) (r : Raw) (v : ℕ) (c : List SymbolAt) (t : SymbolAt) (q : List SymbolAt) (i : Item) (h : ℕ) → sh.has_stop r ≡ false → c ++ t ∷ q ≡ spell_item (tSkipped x a r v) [] → real.walk c (real.stand File ns) ≡ real.stand (Ended i h) ms → ⊥
skipped_not_whole ns ms None a r v c t q i h n e w = plain_not_whole ns ms a r v c t q i h n e w
skipped_not_whole ns ms (Some k) a r v c t q i h n e w = extended_not_whole ns ms k a r v c t q i h n e w

-- no item is skipped and read
true_false : true ≡ false → ⊥
true_false h = cc

either_way : (ns : List (List ℕ)) (x : Option ℕ) (a : ℕ) (r : Raw) (v : ℕ) (j : Item) (p q : List SymbolAt) → sh.has_listed r ≡ true → sh.has_stop r ≡ false → IsRead j → sh.ShapedItem j ns → OneIsFirst (spell_item (tSkipped x a r v) []) (spell_item j []) p q → ⊥
either_way ns x a r v j p q l n m t (inr w) =
    true_false (sym (item_unlisted j ns m t) ∙ ap sh.is_unlisted (w.1 ∙ sym (item_on (tSkipped x a r v) [] w.0)) ∙ skipped_is_listed x a r v w.0 l n)
either_way ns x a r v j p q l n m t (inl w) = shorter w.0 w.1
  where
    shorter : (z : List SymbolAt) → spell_item (tSkipped x a r v) [] ≡ spell_item j [] ++ z → ⊥
    shorter [] e = true_false (sym (item_unlisted j ns m t) ∙ ap sh.is_unlisted (sym (e ∙ append-nil (spell_item j []))) ∙ skipped_is_listed x a r v [] l n)
    shorter (u ∷ z) e = let k = high.item_read j ns m t [] in skipped_not_whole ns (sh.item_names j ns) x a r v (spell_item j []) u z (kept_item j) k.height n (sym e) k.reads.goes

-- Any two items.

prefixed : (i j : Item) (p q : List SymbolAt) → spell_item i p ≡ spell_item j q → OneIsFirst (spell_item i []) (spell_item j []) p q
prefixed i j p q h = one_is_first (spell_item i []) (spell_item j []) p q (sym (item_on i [] p) ∙ h ∙ item_on j [] q)

swapped : (a c p q : List SymbolAt) → OneIsFirst a c p q → OneIsFirst c a q p
swapped a c p q (inl w) = inr w
swapped a c p q (inr w) = inl w

read_item_same : (i j : Item) (ns : List (List ℕ)) (p q : List SymbolAt) → IsRead i → sh.ShapedItem i ns → sh.ShapedItem j ns → OneIsFirst (spell_item i []) (spell_item j []) p q → (i ≡ j) × (p ≡ q)
read_item_same i (tSkipped y c s w) ns p q n t u f = absurd (either_way ns y c s w i q p u.0 u.1 n t (swapped _ _ p q f))
read_item_same i (tFunction ws m ps ats x) ns p q n t u f = read_twice i (tFunction ws m ps ats x) ns p q n tt t u f
read_item_same i (tDeclaration d) ns p q n t u f = read_twice i (tDeclaration d) ns p q n tt t u f
read_item_same i (tEmpty at) ns p q n t u f = read_twice i (tEmpty at) ns p q n tt t u f

skipped_item_same : (x : Option ℕ) (a : ℕ) (r : Raw) (v : ℕ) (j : Item) (ns : List (List ℕ)) (p q : List SymbolAt) → sh.ShapedItem (tSkipped x a r v) ns → sh.ShapedItem j ns → spell_item (tSkipped x a r v) p ≡ spell_item j q → (tSkipped x a r v ≡ j) × (p ≡ q)
skipped_item_same x a r v (tSkipped y c s w) ns p q t u h = skipped_same x y a c r s v w p q t.1 u.1 h
skipped_item_same x a r v (tFunction ws m ps ats z) ns p q t u h = absurd (either_way ns x a r v (tFunction ws m ps ats z) p q t.0 t.1 tt u (prefixed (tSkipped x a r v) (tFunction ws m ps ats z) p q h))
skipped_item_same x a r v (tDeclaration d) ns p q t u h = absurd (either_way ns x a r v (tDeclaration d) p q t.0 t.1 tt u (prefixed (tSkipped x a r v) (tDeclaration d) p q h))
skipped_item_same x a r v (tEmpty at) ns p q t u h = absurd (either_way ns x a r v (tEmpty at) p q t.0 t.1 tt u (prefixed (tSkipped x a r v) (tEmpty at) p q h))

-- Two shaped items that begin the same tokens are equal, and what follows is too.
pub item_same : (i j : Item) (ns : List (List ℕ)) (p q : List SymbolAt) → sh.ShapedItem i ns → sh.ShapedItem j ns → spell_item i p ≡ spell_item j q → (i ≡ j) × (p ≡ q)
item_same (tSkipped x a r v) j ns p q t u h = skipped_item_same x a r v j ns p q t u h
item_same (tFunction ws m ps ats z) j ns p q t u h = read_item_same (tFunction ws m ps ats z) j ns p q tt t u (prefixed (tFunction ws m ps ats z) j p q h)
item_same (tDeclaration d) j ns p q t u h = read_item_same (tDeclaration d) j ns p q tt t u (prefixed (tDeclaration d) j p q h)
item_same (tEmpty at) j ns p q t u h = read_item_same (tEmpty at) j ns p q tt t u (prefixed (tEmpty at) j p q h)

-- the end of a source begins no item
no_end_first : (ns ms : List (List ℕ)) (a : ℕ) (c p : List SymbolAt) (i : Item) (h : ℕ) → walk c (stand File ns) ≡ stand (Ended i h) ms → c ++ p ≡ sign sy.End a ∷ [] → ⊥
no_end_first ns ms a [] p i h w e = not_ended File i h (ap mode_of (sym w)) (inl refl)
no_end_first ns ms a (t ∷ []) p i h w e = not_ended Finished i h (ap mode_of (sym (ap (λ y. walk (y ∷ []) (stand File ns)) (sym (head_same t (sign sy.End a) p [] e)) ∙ w))) (inr refl)
no_end_first ns ms a (t ∷ u ∷ c) p i h w e = cc

pub not_end : (i : Item) (ns : List (List ℕ)) (p : List SymbolAt) (a : ℕ) → sh.ShapedItem i ns → spell_item i p ≡ sign sy.End a ∷ [] → ⊥
not_end (tSkipped None c r v) ns p a t h = let e : sy.Storage storage.Extern ≡ sy.End = ap (λ s. s.symbol) (head_same _ _ _ _ h) in cc
not_end (tSkipped (Some x) c r v) ns p a t h = let e : sy.Extension ≡ sy.End = ap (λ s. s.symbol) (head_same _ _ _ _ h) in cc
not_end (tFunction ws m ps ats z) ns p a t h = no_end_first ns _ a _ p (tFunction ws m ps ats z) _ (reads (tFunction ws m ps ats z) ns tt t) (sym (item_on (tFunction ws m ps ats z) [] p) ∙ h)
not_end (tDeclaration d) ns p a t h = no_end_first ns _ a _ p (tDeclaration d) _ (reads (tDeclaration d) ns tt t) (sym (item_on (tDeclaration d) [] p) ∙ h)
not_end (tEmpty at) ns p a t h = no_end_first ns _ a (spell_item (tEmpty at) []) p (tEmpty at) _ (reads (tEmpty at) ns tt t) (sym (item_on (tEmpty at) [] p) ∙ h)
