-- The whole machine goes through each shaped file that is not too high.
use Rattle.std.proofs.Common.{◌≡◌, ℕ, ◌≤◌, List, [], ◌∷◌, ◌++◌, Option, None, Some, Bool, true, false, ◌&&◌, not, if◌then◌else◌, leb, refl, subst, sym, ap, ◌∙◌, arith, le-leb, leb-true}
use Rattle.c_tree.specs.declared.symbol.StorageWord.TheVariants as storage
use Rattle.c_tree.specs.declared.symbol.Symbol.{Symbol}
use Rattle.c_tree.specs.declared.symbol.Symbol.TheVariants as sy
use Rattle.c_tree.specs.declared.symbol.SymbolAt.{SymbolAt}
use Rattle.c_tree.specs.Symbols.{sign}
use Rattle.c_tree.specs.Spelling.{spell_words, spell_item}
use Rattle.c_tree.specs.Shape as sh
use Rattle.c_tree.specs.Words.{nothing_known}
use Rattle.c_tree.specs.Tree.{no_raw, Words, no_words, words_and, wType, wStorage, wConst, wExtension, wAttribute, wTypedef, wTag, wEnum, wTagEnum, Item, tSkipped, tFunction, tDeclaration, tEmpty, Items}
use Rattle.parse_machine.specs.Contexts.{placeFile, aroundPlace, Mode, File, Ended, Specifiers}
use Rattle.parse_machine.specs.Making as mk
use Rattle.parse_machine.specs.Making.{above, tall, part, bound, bind_level}
use Rattle.parse_machine.specs.Heights.{low}
use Rattle.parse_laws.proofs.Fits.{names_of, Fit}
use Rattle.c_tree.specs.Height as hg
use Rattle.c_tree.specs.Height.{height, height_parts, height_words}
use Rattle.parse_machine.specs.Declarations.{Turn, turn}
use Rattle.parse_machine.specs.Steps as steps
use Rattle.parse_laws.proofs.Walk.{limit, move, walk, stand, if_true, if_false, go, above_is}
use Rattle.parse_machine.specs.Machine as ma
use Rattle.parse_machine.specs.Machine.{Phase, Plain, Both, Skipping, Above, State, Extern, Answer, Goes, Refused, High, Result, Tree, Syntax, Unsupported, TooHigh, Course, Going, Over, Role, listedRole, semicolonRole, stopRole, otherRole}
use Rattle.std.proofs.lemmas.List.{append_assoc, append-nil}
use Rattle.parse_laws.proofs.Good.{Reads, reads_on, GoodTurn}
use Rattle.parse_laws.proofs.SoundRun.{next_reads}
use Rattle.parse_laws.proofs.ReadItem.{IsRead, item_read}
use Rattle.parse_laws.proofs.Externs.{Out, OutTurn, extern_out, next_out}

walk_none : (ts : List SymbolAt) → walk ts None ≡ None
walk_none [] = refl
walk_none (t ∷ ts) = walk_none ts

walk_append : (a c : List SymbolAt) (o : Option Turn) → walk (a ++ c) o ≡ walk c (walk a o)
walk_append [] c o = refl
walk_append (t ∷ a) c o = walk_append a c (move t o)

-- what is known of a mode behind these tokens
pub record Behind' (file ns : List (List ℕ)) (pre : List SymbolAt) (m : Mode) : Type 0 where
  pub low : low m ≤ 200
  pub names_are : ns ≡ names_of file m
  pub fits : Fit file m
  pub reads : Reads m (λ r. pre ++ r)

behind_next : (file ns : List (List ℕ)) (pre : List SymbolAt) (m : Mode) (t : SymbolAt) (u : Turn) → Behind' file ns pre m → steps.next ns t m ≡ Some u → low u.mode ≤ 200 → Behind' file u.names (pre ++ t ∷ []) u.mode
behind_next file ns pre m t u g e l =
    let x = subst (λ o. GoodTurn file (λ r. pre ++ t ∷ r) o) e (next_reads file ns t m (λ r. pre ++ r) g.names_are g.fits g.low g.reads) l in
    record { low = l; names_are = x.0; fits = x.1; reads = reads_on u.mode _ _ (λ r. sym (append_assoc pre (t ∷ []) r)) x.2 }

-- behind two tokens `extern` opens nothing
words_closed : (ws : Words) (at : ℕ) (a c : SymbolAt) (p : List SymbolAt) → ((r : List SymbolAt) → spell_words ws r ≡ a ∷ c ∷ (p ++ r)) → ma.opens_words ws at ≡ None
words_closed no_words at a c p h = refl
words_closed (words_and no_words (wExtension x)) at a c p h = let z = h [] in cc
words_closed (words_and no_words (wType w x)) at a c p h = refl
words_closed (words_and no_words (wStorage w x)) at a c p h = refl
words_closed (words_and no_words (wConst w x)) at a c p h = refl
words_closed (words_and no_words (wAttribute w)) at a c p h = refl
words_closed (words_and no_words (wTypedef n x)) at a c p h = refl
words_closed (words_and no_words (wTag n x y)) at a c p h = refl
words_closed (words_and no_words (wEnum n x y z w)) at a c p h = refl
words_closed (words_and no_words (wTagEnum n x y z w v u)) at a c p h = refl
words_closed (words_and (words_and ws y) x) at a c p h = refl

mode_closed : (m : Mode) (at : ℕ) (a c : SymbolAt) (p : List SymbolAt) → Reads m (λ r. a ∷ c ∷ (p ++ r)) → ma.opens_mode m at ≡ None
mode_closed File at a c p h = let z = h [] in cc
mode_closed (Specifiers s (aroundPlace placeFile)) at a c p h = words_closed s.words at a c p h
mode_closed _ at a c p h = refl

closed : (t : Symbol) (m : Mode) (at : ℕ) (a c : SymbolAt) (p : List SymbolAt) → Reads m (λ r. a ∷ c ∷ (p ++ r)) → ma.opens t at m ≡ None
closed (sy.Storage storage.Extern) m at a c p h = mode_closed m at a c p h
closed _ m at a c p h = refl

filed_same : (is : Items) (ns : List (List ℕ)) (t : SymbolAt) (m : Mode) (u : Turn) → steps.next ns t m ≡ Some u → ma.filed is ns (Plain m) ≡ ma.state is ns (Plain m)
filed_same is ns t (Ended i h) u e = cc
filed_same is ns t m u e = refl

pub goes : (t : SymbolAt) (s : State) (o : Option State) → o ≡ Some s → ma.phase_low s.phase ≤ 200 → ma.course t (ma.limited o) ≡ Going s
goes t s o e l = ap (λ z. ma.course t (ma.limited z)) e ∙ ap (ma.course t) (if_true (leb (ma.phase_low s.phase) 200) (Goes s) High (le-leb _ _ l))

plain_advance : (is : Items) (ns : List (List ℕ)) (t : SymbolAt) (m : Mode) (u : Turn) → ma.opens t.symbol t.at m ≡ None → steps.next ns t m ≡ Some u → low u.mode ≤ 200 → ma.advance t (Going (ma.state is ns (Plain m))) ≡ Going (ma.state is u.names (Plain u.mode))
plain_advance is ns t m u e h l =
    goes t (ma.state is u.names (Plain u.mode)) (ma.step t (ma.state is ns (Plain m)))
    (ap (ma.step_state t) (filed_same is ns t m u h) ∙ ap (λ o. ma.step_plain o is ns t m) e ∙ ap (ma.plain is) h) l

-- the first of some steps
pub record Goes' (ts : List SymbolAt) (t : SymbolAt) (m : Mode) (ns : List (List ℕ)) (o : Option Turn) : Type 0 where
  pub turn : Turn
  pub next : steps.next ns t m ≡ Some turn
  pub low : low turn.mode ≤ 200
  pub rest : walk ts (Some turn) ≡ o

goes_at : (ts : List SymbolAt) (t : SymbolAt) (m : Mode) (ns : List (List ℕ)) (n : Turn) (o : Option Turn) → steps.next ns t m ≡ o → walk ts (limit o) ≡ Some n → Goes' ts t m ns (Some n)
goes_at ts t m ns n None e h = let z = walk_none ts in cc
goes_at ts t m ns n (Some u) e h = low_at (leb (low u.mode) 200) refl h
  where
    low_at : (c : Bool) → leb (low u.mode) 200 ≡ c → walk ts (if c then Some u else None) ≡ Some n → Goes' ts t m ns (Some n)
    low_at true q h = record { turn = u; next = e; low = leb-true _ _ q; rest = h }
    low_at false q h = let z = walk_none ts in cc

goes_first : (ts : List SymbolAt) (t : SymbolAt) (m : Mode) (ns : List (List ℕ)) (n : Turn) → walk (t ∷ ts) (stand m ns) ≡ Some n → Goes' ts t m ns (Some n)
goes_first ts t m ns n h = goes_at ts t m ns n (steps.next ns t m) refl h

-- behind two tokens
decided_run : (ts : List SymbolAt) (is : Items) (file ns : List (List ℕ)) (m : Mode) (n : Turn) (a c : SymbolAt) (p : List SymbolAt) → Behind' file ns (a ∷ c ∷ p) m → walk ts (stand m ns) ≡ Some n → ma.run ts (Going (ma.state is ns (Plain m))) ≡ Going (ma.state is n.names (Plain n.mode))
decided_run [] is file ns m n a c p g h = ap (λ o. going_of is o) h
  where
    going_of : Items → Option Turn → Course
    going_of is None = Over TooHigh
    going_of is (Some u) = Going (ma.state is u.names (Plain u.mode))
decided_run (t ∷ ts) is file ns m n a c p g h =
    let z = goes_first ts t m ns n h in
    ap (ma.run ts) (plain_advance is ns t m z.turn (closed t.symbol m t.at a c p g.reads) z.next z.low)
    ∙ decided_run ts is file z.turn.names z.turn.mode n a c (p ++ t ∷ []) (behind_next file ns (a ∷ c ∷ p) m t z.turn g z.next z.low) z.rest

-- behind one token
one_closed : (t : Symbol) (m : Mode) (at : ℕ) (a : SymbolAt) → (a.symbol ≡ sy.Extension → ⊥) → Reads m (λ r. a ∷ r) → ma.opens t at m ≡ None
one_closed (sy.Storage storage.Extern) m at a n h = mode_one m at a n h
  where
    words_one : (ws : Words) (at : ℕ) (a : SymbolAt) → (a.symbol ≡ sy.Extension → ⊥) → ((r : List SymbolAt) → spell_words ws r ≡ a ∷ r) → ma.opens_words ws at ≡ None
    words_one no_words at a n h = refl
    words_one (words_and no_words (wExtension x)) at a n h = absurd (n (first_same (sign sy.Extension x) a [] [] (h [])))
      where
        first_same : (a c : SymbolAt) (p q : List SymbolAt) → a ∷ p ≡ c ∷ q → c.symbol ≡ a.symbol
        first_same a c p q h = let z : a ≡ c = cc in ap (λ s. s.symbol) (sym z)
    words_one (words_and no_words (wType w x)) at a n h = refl
    words_one (words_and no_words (wStorage w x)) at a n h = refl
    words_one (words_and no_words (wConst w x)) at a n h = refl
    words_one (words_and no_words (wAttribute w)) at a n h = refl
    words_one (words_and no_words (wTypedef n0 x)) at a n h = refl
    words_one (words_and no_words (wTag n0 x y)) at a n h = refl
    words_one (words_and no_words (wEnum n0 x y z w)) at a n h = refl
    words_one (words_and no_words (wTagEnum n0 x y z w v u)) at a n h = refl
    words_one (words_and (words_and ws y) x) at a n h = refl

    mode_one : (m : Mode) (at : ℕ) (a : SymbolAt) → (a.symbol ≡ sy.Extension → ⊥) → Reads m (λ r. a ∷ r) → ma.opens_mode m at ≡ None
    mode_one File at a n h = let z = h [] in cc
    mode_one (Specifiers s (aroundPlace placeFile)) at a n h = words_one s.words at a n h
    mode_one _ at a n h = refl
one_closed _ m at a n h = refl

abbrev IsEnded : Mode → Type 0
IsEnded (Ended i h) = Unit {0}
IsEnded _ = ⊥

out_not_ended : (m : Mode) → Out m → IsEnded m → ⊥
out_not_ended (Ended i h) o e = o
out_not_ended File o e = e
out_not_ended _ o e = e

-- an item that might be skipped
both_advance : (is : Items) (ns : List (List ℕ)) (x : Extern) (m : Mode) (t : SymbolAt) (o : Option State) (s : State) → ma.step_both (ma.role t.symbol) is ns t x (Some m) false ≡ o → o ≡ Some s → ma.phase_low s.phase ≤ 200 → ma.advance t (Going (ma.state is ns (Both x (Some m) false))) ≡ Going s
both_advance is ns x m t o s e f l = goes t s (ma.step t (ma.state is ns (Both x (Some m) false))) (e ∙ f) l

stop_role : (t : Symbol) (is : Items) (ns : List (List ℕ)) (at : ℕ) (x : Extern) (m : Mode) → sh.is_stop t ≡ true → ma.step_both (ma.role t) is ns (sign t at) x (Some m) false ≡ ma.settled false is (steps.next ns (sign t at) m)
stop_role sy.Semicolon is ns at x m h = refl
stop_role t is ns at x m h = ap (λ c. ma.step_both (if c then stopRole else (if sh.is_listed t then listedRole else otherRole)) is ns (sign t at) x (Some m) false) h

other_role : (t : Symbol) (is : Items) (ns : List (List ℕ)) (at : ℕ) (x : Extern) (m : Mode) → sh.is_stop t ≡ false → sh.is_listed t ≡ false → ma.step_both (ma.role t) is ns (sign t at) x (Some m) false ≡ Some (ma.both is ns (ma.more x (sign t at)) false (steps.next ns (sign t at) m))
other_role sy.Semicolon is ns at x m h g = cc
other_role t is ns at x m h g =
    ap (λ c. ma.step_both (if c then stopRole else (if sh.is_listed t then listedRole else otherRole)) is ns (sign t at) x (Some m) false) h
    ∙ ap (λ c. ma.step_both (if c then listedRole else otherRole) is ns (sign t at) x (Some m) false) g

not_high : (n : ℕ) → n ≤ 200 → not (leb n 200) ≡ false
not_high n h = ap not (le-leb _ _ h)

some_mode : (a c : Turn) → Some a ≡ Some c → a ≡ c
some_mode a c h = cc

both_false : (c d : Bool) → (not c && d) ≡ true → (c ≡ false) × (d ≡ true)
both_false true d h = cc
both_false false d h = (refl, h)

both_run : (ts : List SymbolAt) (is : Items) (file ns : List (List ℕ)) (x : Extern) (m : Mode) (n : Turn) (a : SymbolAt) (p : List SymbolAt) → Behind' file ns (a ∷ p) m → Out m → IsEnded n.mode → sh.has_no_listed ts ≡ true → walk ts (stand m ns) ≡ Some n → ma.run ts (Going (ma.state is ns (Both x (Some m) false))) ≡ Going (ma.state is n.names (Plain n.mode))
both_run [] is file ns x m n a p g o e u h = absurd (out_not_ended m o (subst (λ z. IsEnded z.mode) (sym (some_mode (turn m ns) n h)) e))
both_run (t ∷ ts) is file ns x m n a p g o e u h = both_at (λ ms y k q v w r i. both_run ts is file ms y k n a q v w e r i) (sh.is_stop t.symbol) refl (goes_first ts t m ns n h)
  where
    stop_run : (q : List SymbolAt) (u : Turn) → Behind' file u.names (a ∷ (q ++ t ∷ [])) u.mode → walk ts (Some u) ≡ Some n → ma.run ts (Going (ma.state is u.names (Plain u.mode))) ≡ Going (ma.state is n.names (Plain n.mode))
    stop_run [] u g h = decided_run ts is file u.names u.mode n a t [] g h
    stop_run (c ∷ q) u g h = decided_run ts is file u.names u.mode n a c (q ++ t ∷ []) g h

    both_at : ((ms : List (List ℕ)) (y : Extern) (k : Mode) (q : List SymbolAt) → Behind' file ms (a ∷ q) k → Out k → sh.has_no_listed ts ≡ true → walk ts (stand k ms) ≡ Some n → ma.run ts (Going (ma.state is ms (Both y (Some k) false))) ≡ Going (ma.state is n.names (Plain n.mode))) → (c : Bool) → sh.is_stop t.symbol ≡ c → Goes' ts t m ns (Some n) → ma.run (t ∷ ts) (Going (ma.state is ns (Both x (Some m) false))) ≡ Going (ma.state is n.names (Plain n.mode))
    both_at ih true q z =
        ap (ma.run ts) (both_advance is ns x m t _ (ma.state is z.turn.names (Plain z.turn.mode)) (stop_role t.symbol is ns t.at x m q) (ap (ma.settled false is) z.next) z.low)
        ∙ stop_run p z.turn (behind_next file ns (a ∷ p) m t z.turn g z.next z.low) z.rest
    both_at ih false q z =
        let w = both_false (sh.is_listed t.symbol) (sh.has_no_listed ts) (sym (if_false (sh.is_stop t.symbol) true (not (sh.is_listed t.symbol) && sh.has_no_listed ts) q) ∙ u) in
        let v = subst (OutTurn ns) z.next (next_out ns t m o q) in
        ap (ma.run ts) (both_advance is ns x m t _ (ma.state is z.turn.names (Both (ma.more x t) (Some z.turn.mode) false)) (other_role t.symbol is ns t.at x m q w.0)
        (ap (λ k. Some (ma.both is ns (ma.more x t) false k)) z.next ∙ ap (λ k. Some (ma.state is z.turn.names (Both (ma.more x t) (Some z.turn.mode) k))) (not_high (low z.turn.mode) z.low)) (omega arith))
        ∙ ih z.turn.names (ma.more x t) z.turn.mode (p ++ t ∷ []) (behind_next file ns (a ∷ p) m t z.turn g z.next z.low) v.1 w.1 z.rest

-- behind the first token of an item
one_run : (ts : List SymbolAt) (is : Items) (file ns : List (List ℕ)) (m : Mode) (n : Turn) (a : SymbolAt) → (a.symbol ≡ sy.Extension → ⊥) → Behind' file ns (a ∷ []) m → walk ts (stand m ns) ≡ Some n → ma.run ts (Going (ma.state is ns (Plain m))) ≡ Going (ma.state is n.names (Plain n.mode))
one_run [] is file ns m n a e g h = ap (λ u. Going (ma.state is u.names (Plain u.mode))) (some_mode (turn m ns) n h)
one_run (t ∷ ts) is file ns m n a e g h =
    let z = goes_first ts t m ns n h in
    ap (ma.run ts) (plain_advance is ns t m z.turn (one_closed t.symbol m t.at a e g.reads) z.next z.low)
    ∙ decided_run ts is file z.turn.names z.turn.mode n a t [] (behind_next file ns (a ∷ []) m t z.turn g z.next z.low) z.rest

-- An item from its first token.

both_opens : (is : Items) (ns : List (List ℕ)) (m : Mode) (t : SymbolAt) (x : Extern) (u : Turn) → ma.opens t.symbol t.at m ≡ Some x → steps.next ns t m ≡ Some u → low u.mode ≤ 200 → ma.advance t (Going (ma.state is ns (Plain m))) ≡ Going (ma.state is u.names (Both x (Some u.mode) false))
both_opens is ns m t x u e h l =
    goes t (ma.state is u.names (Both x (Some u.mode) false)) (ma.step t (ma.state is ns (Plain m)))
    (ap (ma.step_state t) (filed_same is ns t m u h) ∙ ap (λ o. ma.step_plain o is ns t m) e ∙ ap (λ k. Some (ma.both is ns x false k)) h ∙ ap (λ k. Some (ma.state is u.names (Both x (Some u.mode) k))) (not_high (low u.mode) l)) (omega arith)

abbrev extended : ℕ → Mode
extended x = Specifiers (mk.said mk.unspoken nothing_known (wExtension x) 0) (aroundPlace placeFile)

file_behind : (ns : List (List ℕ)) → Behind' ns ns [] File
file_behind ns = record { low = omega arith; names_are = refl; fits = tt; reads = λ r. refl }

extended_low : (x : ℕ) → low (extended x) ≤ 200
extended_low x = omega (arith, above_is 0 (omega arith))

second_run : (t : Symbol) (at : ℕ) (ts : List SymbolAt) (is : Items) (ns : List (List ℕ)) (x : ℕ) (n : Turn) → Behind' ns ns (sign sy.Extension x ∷ []) (extended x) → sh.is_unlisted (sign sy.Extension x ∷ sign t at ∷ ts) ≡ true → IsEnded n.mode → walk (sign t at ∷ ts) (stand (extended x) ns) ≡ Some n → ma.run (sign t at ∷ ts) (Going (ma.state is ns (Plain (extended x)))) ≡ Going (ma.state is n.names (Plain n.mode))
second_run (sy.Storage storage.Extern) at ts is ns x n g u e h =
    let t = sign (sy.Storage storage.Extern) at in
    let z = goes_first ts t (extended x) ns n h in
    let v = subst (OutTurn ns) z.next (extern_out ns at (mk.said mk.unspoken nothing_known (wExtension x) 0) refl) in
    ap (ma.run ts) (both_opens is ns (extended x) t (ma.extern (Some x) at no_raw) z.turn refl z.next z.low)
    ∙ both_run ts is ns z.turn.names (ma.extern (Some x) at no_raw) z.turn.mode n (sign sy.Extension x) (t ∷ []) (behind_next ns ns (sign sy.Extension x ∷ []) (extended x) t z.turn g z.next z.low) v.1 e u z.rest
second_run t at ts is ns x n g u e h =
    let z = goes_first ts (sign t at) (extended x) ns n h in
    ap (ma.run ts) (plain_advance is ns (sign t at) (extended x) z.turn refl z.next z.low)
    ∙ decided_run ts is ns z.turn.names z.turn.mode n (sign sy.Extension x) (sign t at) [] (behind_next ns ns (sign sy.Extension x ∷ []) (extended x) (sign t at) z.turn g z.next z.low) z.rest

behind_extension : (ts : List SymbolAt) (is : Items) (ns : List (List ℕ)) (x : ℕ) (n : Turn) → Behind' ns ns (sign sy.Extension x ∷ []) (extended x) → sh.is_unlisted (sign sy.Extension x ∷ ts) ≡ true → IsEnded n.mode → walk ts (stand (extended x) ns) ≡ Some n → ma.run ts (Going (ma.state is ns (Plain (extended x)))) ≡ Going (ma.state is n.names (Plain n.mode))
behind_extension [] is ns x n g u e h = absurd (subst (λ z. IsEnded z.mode) (sym (some_mode (turn (extended x) ns) n h)) e)
behind_extension (t ∷ ts) is ns x n g u e h = second_run t.symbol t.at ts is ns x n g u e h

start_run : (t : Symbol) (at : ℕ) (ts : List SymbolAt) (is : Items) (ns : List (List ℕ)) (n : Turn) → sh.is_unlisted (sign t at ∷ ts) ≡ true → IsEnded n.mode → walk (sign t at ∷ ts) (stand File ns) ≡ Some n → ma.run (sign t at ∷ ts) (Going (ma.state is ns (Plain File))) ≡ Going (ma.state is n.names (Plain n.mode))
start_run (sy.Storage storage.Extern) at ts is ns n u e h =
    let t = sign (sy.Storage storage.Extern) at in
    let z = goes_first ts t File ns n h in
    let v = subst (OutTurn ns) z.next (extern_out ns at mk.unspoken refl) in
    ap (ma.run ts) (both_opens is ns File t (ma.extern None at no_raw) z.turn refl z.next z.low)
    ∙ both_run ts is ns z.turn.names (ma.extern None at no_raw) z.turn.mode n t [] (behind_next ns ns [] File t z.turn (file_behind ns) z.next z.low) v.1 e u z.rest
start_run sy.Extension at ts is ns n u e h =
    let t = sign sy.Extension at in
    ap (ma.run ts) (plain_advance is ns t File (turn (extended at) ns) refl refl (extended_low at))
    ∙ behind_extension ts is ns at n (behind_next ns ns [] File t (turn (extended at) ns) (file_behind ns) refl (extended_low at)) u e (sym (go t ts File (extended at) ns ns refl (extended_low at)) ∙ h)
start_run t at ts is ns n u e h =
    let z = goes_first ts (sign t at) File ns n h in
    ap (ma.run ts) (plain_advance is ns (sign t at) File z.turn refl z.next z.low)
    ∙ one_run ts is ns z.turn.names z.turn.mode n (sign t at) (λ q. cc) (behind_next ns ns [] File (sign t at) z.turn (file_behind ns) z.next z.low) z.rest

item_start : (ts : List SymbolAt) (is : Items) (ns : List (List ℕ)) (n : Turn) → sh.is_unlisted ts ≡ true → IsEnded n.mode → walk ts (stand File ns) ≡ Some n → ma.run ts (Going (ma.state is ns (Plain File))) ≡ Going (ma.state is n.names (Plain n.mode))
item_start [] is ns n u e h = absurd (subst (λ z. IsEnded z.mode) (sym (some_mode (turn File ns) n h)) e)
item_start (t ∷ ts) is ns n u e h = start_run t.symbol t.at ts is ns n u e h

pub run_append : (a c : List SymbolAt) (o : Course) → ma.run (a ++ c) o ≡ ma.run c (ma.run a o)
run_append [] c o = refl
run_append (t ∷ a) c o = run_append a c (ma.advance t o)

walk_behind : (ts : List SymbolAt) (file ns : List (List ℕ)) (pre : List SymbolAt) (m : Mode) (n : Turn) → Behind' file ns pre m → walk ts (stand m ns) ≡ Some n → Behind' file n.names (pre ++ ts) n.mode
walk_behind [] file ns pre m n g h = subst (λ z. Behind' file z.names (pre ++ []) z.mode) (some_mode (turn m ns) n h) (subst (λ q. Behind' file ns q m) (sym (append-nil pre)) g)
walk_behind (t ∷ ts) file ns pre m n g h =
    let z = goes_first ts t m ns n h in
    subst (λ q. Behind' file n.names q n.mode) (append_assoc pre (t ∷ []) ts) (walk_behind ts file z.turn.names (pre ++ t ∷ []) z.turn.mode n (behind_next file ns pre m t z.turn g z.next z.low) z.rest)

item_unlisted : (i : Item) (ns : List (List ℕ)) → IsRead i → sh.ShapedItem i ns → sh.is_unlisted (spell_item i []) ≡ true
item_unlisted (tSkipped x a r c) ns n t = absurd n
item_unlisted (tFunction ws m ps ats x) ns n t = t.1
item_unlisted (tDeclaration d) ns n t = t.1
item_unlisted (tEmpty at) ns n t = refl

-- an item that is not skipped
pub item_run : (i : Item) (is : Items) (ns : List (List ℕ)) → (r0 : IsRead i) → (t : sh.ShapedItem i ns) → (l : hg.height_item i ≤ 200) → (rest : List SymbolAt) → ma.run (spell_item i rest) (Going (ma.state is ns (Plain File))) ≡ ma.run rest (Going (ma.state is (sh.item_names i ns) (Plain (Ended i (item_read i ns r0 t l []).height))))
item_run i is ns n t l rest =
    let z = item_read i ns n t l [] in
    let w = walk_behind (spell_item i []) ns ns [] File (turn (Ended i z.height) (sh.item_names i ns)) (file_behind ns) z.reads in
    ap (λ q. ma.run q (Going (ma.state is ns (Plain File)))) (w.reads rest)
    ∙ run_append (spell_item i []) rest (Going (ma.state is ns (Plain File)))
    ∙ ap (ma.run rest) (item_start (spell_item i []) is ns (turn (Ended i z.height) (sh.item_names i ns)) (item_unlisted i ns n t) tt z.reads)
