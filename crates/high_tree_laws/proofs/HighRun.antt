-- The whole machine stops at the limit on the height where an item is too high.
use Rattle.std.proofs.Common.{◌≡◌, ℕ, ◌≤◌, ◌<◌, max, List, [], ◌∷◌, ◌++◌, Option, None, Some, Bool, true, false, ◌&&◌, not, if◌then◌else◌, leb, refl, subst, sym, ap, ◌∙◌, arith, le-leb, leb-true}
use Rattle.c_tree.specs.declared.symbol.StorageWord.TheVariants as storage
use Rattle.c_tree.specs.declared.symbol.Symbol.{Symbol}
use Rattle.c_tree.specs.declared.symbol.Symbol.TheVariants as sy
use Rattle.c_tree.specs.declared.symbol.SymbolAt.{SymbolAt}
use Rattle.c_tree.specs.Symbols.{sign}
use Rattle.c_tree.specs.Spelling.{spell_words}
use Rattle.c_tree.specs.Shape as sh
use Rattle.c_tree.specs.Words.{nothing_known}
use Rattle.c_tree.specs.Tree.{no_raw, Words, no_words, words_and, wType, wStorage, wConst, wExtension, wAttribute, wTypedef, wTag, wEnum, wTagEnum, Items}
use Rattle.parse_machine.specs.Contexts.{placeFile, aroundPlace, Mode, File, Ended, Specifiers}
use Rattle.parse_machine.specs.Making as mk
use Rattle.parse_machine.specs.Heights.{low}
use Rattle.parse_machine.specs.Declarations.{Turn, turn}
use Rattle.parse_machine.specs.Steps as steps
use Rattle.parse_machine.specs.Machine as ma
use Rattle.parse_machine.specs.Machine.{Plain, Both, Above, State, Extern, Goes, High, Result, TooHigh, Going, Over, listedRole, stopRole, otherRole}
use Rattle.std.proofs.lemmas.List.{append_assoc}
use Rattle.parse_laws.proofs.Walk.{if_true, if_false, above_is}
use Rattle.parse_laws.proofs.Good.{Reads, reads_on, GoodTurn}
use Rattle.parse_laws.proofs.SoundRun.{next_reads}
use Rattle.parse_laws.proofs.Externs.{Out, OutTurn, extern_out, next_out}
use Rattle.parse_laws.proofs.CompleteRun.{Behind'}
use Rattle.high_tree_laws.proofs.Leads.{walk, low_of, peak, stand}

-- Behind the first tokens of an item.

-- tokens behind which `extern` opens nothing
abbrev Started : List SymbolAt → Type 0
Started [] = ⊥
Started (a ∷ []) = a.symbol ≡ sy.Extension → ⊥
Started (a ∷ c ∷ p) = Unit {0}

started_on : (p : List SymbolAt) (t : SymbolAt) → Started p → Started (p ++ t ∷ [])
started_on [] t s = absurd s
started_on (a ∷ []) t s = tt
started_on (a ∷ c ∷ p) t s = tt

two_started : (a : SymbolAt) (p : List SymbolAt) (t : SymbolAt) → Started (a ∷ p ++ t ∷ [])
two_started a [] t = tt
two_started a (c ∷ p) t = tt

first_same : (a c : SymbolAt) (p q : List SymbolAt) → a ∷ p ≡ c ∷ q → c.symbol ≡ a.symbol
first_same a c p q h = let z : a ≡ c = cc in ap (λ s. s.symbol) (sym z)

not_extension : (p : List SymbolAt) (x : ℕ) → Started p → sign sy.Extension x ∷ [] ≡ p ++ [] → ⊥
not_extension [] x s h = s
not_extension (a ∷ []) x s h = s (first_same (sign sy.Extension x) a [] [] h)
not_extension (a ∷ c ∷ p) x s h = cc

not_nothing : (p : List SymbolAt) → Started p → [] ≡ p ++ [] → ⊥
not_nothing [] s h = s
not_nothing (a ∷ p) s h = cc

words_closed : (ws : Words) (at : ℕ) (p : List SymbolAt) → Started p → ((r : List SymbolAt) → spell_words ws r ≡ p ++ r) → ma.opens_words ws at ≡ None
words_closed no_words at p s h = refl
words_closed (words_and no_words (wExtension x)) at p s h = absurd (not_extension p x s (h []))
words_closed (words_and no_words (wType w x)) at p s h = refl
words_closed (words_and no_words (wStorage w x)) at p s h = refl
words_closed (words_and no_words (wConst w x)) at p s h = refl
words_closed (words_and no_words (wAttribute w)) at p s h = refl
words_closed (words_and no_words (wTypedef n x)) at p s h = refl
words_closed (words_and no_words (wTag n x y)) at p s h = refl
words_closed (words_and no_words (wEnum n x y z w)) at p s h = refl
words_closed (words_and no_words (wTagEnum n x y z w v u)) at p s h = refl
words_closed (words_and (words_and ws y) x) at p s h = refl

mode_closed : (m : Mode) (at : ℕ) (p : List SymbolAt) → Started p → Reads m (λ r. p ++ r) → ma.opens_mode m at ≡ None
mode_closed File at p s h = absurd (not_nothing p s (h []))
mode_closed (Specifiers w (aroundPlace placeFile)) at p s h = words_closed w.words at p s h
mode_closed _ at p s h = refl

closed : (t : Symbol) (m : Mode) (at : ℕ) (p : List SymbolAt) → Started p → Reads m (λ r. p ++ r) → ma.opens t at m ≡ None
closed (sy.Storage storage.Extern) m at p s h = mode_closed m at p s h
closed _ m at p s h = refl

behind_next : (file ns : List (List ℕ)) (p : List SymbolAt) (m : Mode) (t : SymbolAt) (u : Turn) → Behind' file ns p m → steps.next ns t m ≡ Some u → low u.mode ≤ 200 → Behind' file u.names (p ++ t ∷ []) u.mode
behind_next file ns p m t u g e l =
    let x = subst (λ o. GoodTurn file (λ r. p ++ t ∷ r) o) e (next_reads file ns t m (λ r. p ++ r) g.names_are g.fits g.low g.reads) l in
    record { low = l; names_are = x.0; fits = x.1; reads = reads_on u.mode _ _ (λ r. sym (append_assoc p (t ∷ []) r)) x.2 }

-- One token.

limited_low : (t : SymbolAt) (s : State) → ma.phase_low s.phase ≤ 200 → ma.course t (ma.limited (Some s)) ≡ Going s
limited_low t s l = ap (ma.course t) (if_true (leb (ma.phase_low s.phase) 200) (Goes s) High (le-leb _ _ l))

limited_high : (t : SymbolAt) (s : State) → leb (ma.phase_low s.phase) 200 ≡ false → ma.course t (ma.limited (Some s)) ≡ Over TooHigh
limited_high t s l = ap (ma.course t) (if_false (leb (ma.phase_low s.phase) 200) (Goes s) High l)

pub over_stays : (ts : List SymbolAt) (r : Result) → ma.run ts (Over r) ≡ Over r
over_stays [] r = refl
over_stays (t ∷ ts) r = over_stays ts r

filed_same : (is : Items) (ns : List (List ℕ)) (t : SymbolAt) (m : Mode) (u : Turn) → steps.next ns t m ≡ Some u → ma.filed is ns (Plain m) ≡ ma.state is ns (Plain m)
filed_same is ns t (Ended i h) u e = cc
filed_same is ns t m u e = refl

plain_step : (is : Items) (ns : List (List ℕ)) (t : SymbolAt) (m : Mode) (u : Turn) → ma.opens t.symbol t.at m ≡ None → steps.next ns t m ≡ Some u → ma.advance t (Going (ma.state is ns (Plain m))) ≡ ma.course t (ma.limited (Some (ma.state is u.names (Plain u.mode))))
plain_step is ns t m u e h = ap (λ z. ma.course t (ma.limited z)) (ap (ma.step_state t) (filed_same is ns t m u h) ∙ ap (λ o. ma.step_plain o is ns t m) e ∙ ap (ma.plain is) h)

opening_step : (is : Items) (ns : List (List ℕ)) (t : SymbolAt) (m : Mode) (x : Extern) (u : Turn) → ma.opens t.symbol t.at m ≡ Some x → steps.next ns t m ≡ Some u → ma.advance t (Going (ma.state is ns (Plain m))) ≡ Going (ma.both is ns x false (Some u))
opening_step is ns t m x u e h =
    ap (λ z. ma.course t (ma.limited z)) (ap (ma.step_state t) (filed_same is ns t m u h) ∙ ap (λ o. ma.step_plain o is ns t m) e ∙ ap (λ k. Some (ma.both is ns x false k)) h) ∙ limited_low t (ma.both is ns x false (Some u)) (omega arith)

stop_step : (t : SymbolAt) (is : Items) (ns : List (List ℕ)) (x : Extern) (m : Mode) (high : Bool) (u : Turn) → sh.is_stop t.symbol ≡ true → steps.next ns t m ≡ Some u → ma.advance t (Going (ma.state is ns (Both x (Some m) high))) ≡ ma.course t (ma.limited (ma.settled high is (Some u)))
stop_step t is ns x m high u h e = ap (λ z. ma.course t (ma.limited z)) (stop_role t.symbol h ∙ ap (ma.settled high is) e)
  where
    stop_role : (s : Symbol) → sh.is_stop s ≡ true → ma.step_both (ma.role s) is ns t x (Some m) high ≡ ma.settled high is (steps.next ns t m)
    stop_role sy.Semicolon h = refl
    stop_role s h = ap (λ c. ma.step_both (if c then stopRole else (if sh.is_listed s then listedRole else otherRole)) is ns t x (Some m) high) h

other_step : (t : SymbolAt) (is : Items) (ns : List (List ℕ)) (x : Extern) (m : Mode) (high : Bool) (u : Turn) → sh.is_stop t.symbol ≡ false → sh.is_listed t.symbol ≡ false → steps.next ns t m ≡ Some u → ma.advance t (Going (ma.state is ns (Both x (Some m) high))) ≡ Going (ma.both is ns (ma.more x t) high (Some u))
other_step t is ns x m high u h g e = ap (λ z. ma.course t (ma.limited z)) (other_role t.symbol h g ∙ ap (λ k. Some (ma.both is ns (ma.more x t) high k)) e) ∙ limited_low t (ma.both is ns (ma.more x t) high (Some u)) (omega arith)
  where
    other_role : (s : Symbol) → sh.is_stop s ≡ false → sh.is_listed s ≡ false → ma.step_both (ma.role s) is ns t x (Some m) high ≡ Some (ma.both is ns (ma.more x t) high (steps.next ns t m))
    other_role sy.Semicolon h g = cc
    other_role s h g =
        ap (λ c. ma.step_both (if c then stopRole else (if sh.is_listed s then listedRole else otherRole)) is ns t x (Some m) high) h
        ∙ ap (λ c. ma.step_both (if c then listedRole else otherRole) is ns t x (Some m) high) g

-- An item that can't be skipped.

peak_none : (ts : List SymbolAt) → peak ts None ≡ 0
peak_none [] = refl
peak_none (t ∷ ts) = ap (max 0) (peak_none ts)

walk_none : (ts : List SymbolAt) → walk ts None ≡ None
walk_none [] = refl
walk_none (t ∷ ts) = walk_none ts

abbrev Stops : List SymbolAt → State → Type 0
Stops ts s = ma.run ts (Going s) ≡ Over TooHigh

-- behind a token that is read, with what follows
plain_settles : (t : SymbolAt) (ts : List SymbolAt) (is : Items) (u : Turn) (c : Bool) → leb (low u.mode) 200 ≡ c → (low u.mode ≤ 200 → Stops ts (ma.state is u.names (Plain u.mode))) → ma.run ts (ma.course t (ma.limited (Some (ma.state is u.names (Plain u.mode))))) ≡ Over TooHigh
plain_settles t ts is u true q f = ap (ma.run ts) (limited_low t (ma.state is u.names (Plain u.mode)) (leb-true _ _ q)) ∙ f (leb-true _ _ q)
plain_settles t ts is u false q f = ap (ma.run ts) (limited_high t (ma.state is u.names (Plain u.mode)) q) ∙ over_stays ts TooHigh

plain_at : (t : SymbolAt) (ts : List SymbolAt) (is : Items) (file ns : List (List ℕ)) (m : Mode) (p : List SymbolAt) → Behind' file ns p m → ma.opens t.symbol t.at m ≡ None → ((u : Turn) → Behind' file u.names (p ++ t ∷ []) u.mode → 200 < peak ts (Some u) → Stops ts (ma.state is u.names (Plain u.mode))) → (o : Option Turn) → steps.next ns t m ≡ o → 200 < max (low_of o) (peak ts o) → Stops (t ∷ ts) (ma.state is ns (Plain m))
plain_at t ts is file ns m p g e ih None q l = absurd (omega (arith, l, peak_none ts))
plain_at t ts is file ns m p g e ih (Some u) q l =
    ap (ma.run ts) (plain_step is ns t m u e q) ∙ plain_settles t ts is u (leb (low u.mode) 200) refl (λ i. ih u (behind_next file ns p m t u g q i) (omega (arith, l, i)))

plain_high : (ts : List SymbolAt) (is : Items) (file ns : List (List ℕ)) (m : Mode) (p : List SymbolAt) → Behind' file ns p m → Started p → 200 < peak ts (stand m ns) → Stops ts (ma.state is ns (Plain m))
plain_high [] is file ns m p g s l = absurd (omega (arith, l))
plain_high (t ∷ ts) is file ns m p g s l =
    plain_at t ts is file ns m p g (closed t.symbol m t.at p s g.reads) (λ u h k. plain_high ts is file u.names u.mode (p ++ t ∷ []) h (started_on p t s) k) (steps.next ns t m) refl l

-- An item that may be skipped, and then can't be.

abbrev IsEnded : Mode → Type 0
IsEnded (Ended i h) = Unit {0}
IsEnded _ = ⊥

-- where the item ends
pub record Ends (ts : List SymbolAt) (o : Option Turn) : Type 0 where
  pub turn : Turn
  pub walks : walk ts o ≡ Some turn
  pub ended : IsEnded turn.mode

out_not_ended : (m : Mode) → Out m → IsEnded m → ⊥
out_not_ended (Ended i h) o e = o
out_not_ended File o e = e
out_not_ended _ o e = e

some_turn : (a c : Turn) → Some a ≡ Some c → a ≡ c
some_turn a c h = cc

not_over : (m : Mode) (ns : List (List ℕ)) → Out m → Ends [] (stand m ns) → ⊥
not_over m ns o e = out_not_ended m o (subst (λ z. IsEnded z.mode) (sym (some_turn (turn m ns) e.turn e.walks)) e.ended)

-- the first of some tokens is read
pub record Read (ts : List SymbolAt) (t : SymbolAt) (m : Mode) (ns : List (List ℕ)) : Type 0 where
  pub turn : Turn
  pub next : steps.next ns t m ≡ Some turn
  pub ends : Ends ts (Some turn)

read_at : (ts : List SymbolAt) (t : SymbolAt) (m : Mode) (ns : List (List ℕ)) (o : Option Turn) → steps.next ns t m ≡ o → Ends ts o → Read ts t m ns
read_at ts t m ns None q e = let z = walk_none ts in let w = e.walks in cc
read_at ts t m ns (Some u) q e = record { turn = u; next = q; ends = e }

read_first : (ts : List SymbolAt) (t : SymbolAt) (m : Mode) (ns : List (List ℕ)) → Ends (t ∷ ts) (stand m ns) → Read ts t m ns
read_first ts t m ns e = read_at ts t m ns (steps.next ns t m) refl (record { turn = e.turn; walks = e.walks; ended = e.ended })

both_false : (c d : Bool) → (not c && d) ≡ true → (c ≡ false) × (d ≡ true)
both_false true d h = cc
both_false false d h = (refl, h)

-- the limit was passed while it might still be skipped
above_at : (t : SymbolAt) (ts : List SymbolAt) (is : Items) (ns : List (List ℕ)) (x : Extern) (m : Mode) → Out m → sh.has_no_listed (t ∷ ts) ≡ true → Read ts t m ns → ((ms : List (List ℕ)) (y : Extern) (k : Mode) → Out k → sh.has_no_listed ts ≡ true → Ends ts (stand k ms) → Stops ts (ma.state is ms (Both y (Some k) true))) → (c : Bool) → sh.is_stop t.symbol ≡ c → Stops (t ∷ ts) (ma.state is ns (Both x (Some m) true))
above_at t ts is ns x m o u z ih true q = ap (ma.run ts) (stop_step t is ns x m true z.turn q z.next ∙ limited_high t (ma.state is z.turn.names Above) refl) ∙ over_stays ts TooHigh
above_at t ts is ns x m o u z ih false q =
    let w = both_false (sh.is_listed t.symbol) (sh.has_no_listed ts) (sym (if_false (sh.is_stop t.symbol) true (not (sh.is_listed t.symbol) && sh.has_no_listed ts) q) ∙ u) in
    let v = subst (OutTurn ns) z.next (next_out ns t m o q) in
    ap (ma.run ts) (other_step t is ns x m true z.turn q w.0 z.next) ∙ ih z.turn.names (ma.more x t) z.turn.mode v.1 w.1 z.ends

above_run : (ts : List SymbolAt) (is : Items) (ns : List (List ℕ)) (x : Extern) (m : Mode) → Out m → sh.has_no_listed ts ≡ true → Ends ts (stand m ns) → Stops ts (ma.state is ns (Both x (Some m) true))
above_run [] is ns x m o u e = absurd (not_over m ns o e)
above_run (t ∷ ts) is ns x m o u e = above_at t ts is ns x m o u (read_first ts t m ns e) (λ ms y k h g i. above_run ts is ms y k h g i) (sh.is_stop t.symbol) refl

-- an item that is both, behind a token
both_settles : (ts : List SymbolAt) (is : Items) (ns : List (List ℕ)) (x : Extern) (u : Turn) → Out u.mode → sh.has_no_listed ts ≡ true → Ends ts (Some u) → (c : Bool) → leb (low u.mode) 200 ≡ c → (low u.mode ≤ 200 → Stops ts (ma.state is u.names (Both x (Some u.mode) false))) → Stops ts (ma.both is ns x false (Some u))
both_settles ts is ns x u o h e true q f = ap (λ k. ma.run ts (Going (ma.state is u.names (Both x (Some u.mode) (not k))))) q ∙ f (leb-true _ _ q)
both_settles ts is ns x u o h e false q f = ap (λ k. ma.run ts (Going (ma.state is u.names (Both x (Some u.mode) (not k))))) q ∙ above_run ts is u.names x u.mode o h e

both_at : (t : SymbolAt) (ts : List SymbolAt) (is : Items) (file ns : List (List ℕ)) (x : Extern) (m : Mode) (a : SymbolAt) (p : List SymbolAt) → Behind' file ns (a ∷ p) m → Out m → sh.has_no_listed (t ∷ ts) ≡ true → (z : Read ts t m ns) → 200 < max (low z.turn.mode) (peak ts (Some z.turn)) → ((ms : List (List ℕ)) (y : Extern) (k : Mode) (q : List SymbolAt) → Behind' file ms (a ∷ q) k → Out k → sh.has_no_listed ts ≡ true → Ends ts (stand k ms) → 200 < peak ts (stand k ms) → Stops ts (ma.state is ms (Both y (Some k) false))) → (c : Bool) → sh.is_stop t.symbol ≡ c → Stops (t ∷ ts) (ma.state is ns (Both x (Some m) false))
both_at t ts is file ns x m a p g o u z l ih true q =
    ap (ma.run ts) (stop_step t is ns x m false z.turn q z.next)
    ∙ plain_settles t ts is z.turn (leb (low z.turn.mode) 200) refl (λ i. plain_high ts is file z.turn.names z.turn.mode (a ∷ p ++ t ∷ []) (behind_next file ns (a ∷ p) m t z.turn g z.next i) (two_started a p t) (omega (arith, l, i)))
both_at t ts is file ns x m a p g o u z l ih false q =
    let w = both_false (sh.is_listed t.symbol) (sh.has_no_listed ts) (sym (if_false (sh.is_stop t.symbol) true (not (sh.is_listed t.symbol) && sh.has_no_listed ts) q) ∙ u) in
    let v = subst (OutTurn ns) z.next (next_out ns t m o q) in
    ap (ma.run ts) (other_step t is ns x m false z.turn q w.0 z.next)
    ∙ both_settles ts is ns (ma.more x t) z.turn v.1 w.1 z.ends (leb (low z.turn.mode) 200) refl (λ i. ih z.turn.names (ma.more x t) z.turn.mode (p ++ t ∷ []) (behind_next file ns (a ∷ p) m t z.turn g z.next i) v.1 w.1 z.ends (omega (arith, l, i)))

peak_read : (ts : List SymbolAt) (t : SymbolAt) (m : Mode) (ns : List (List ℕ)) (z : Read ts t m ns) → 200 < peak (t ∷ ts) (stand m ns) → 200 < max (low z.turn.mode) (peak ts (Some z.turn))
peak_read ts t m ns z l = subst (λ o. 200 < max (low_of o) (peak ts o)) z.next l

both_high : (ts : List SymbolAt) (is : Items) (file ns : List (List ℕ)) (x : Extern) (m : Mode) (a : SymbolAt) (p : List SymbolAt) → Behind' file ns (a ∷ p) m → Out m → sh.has_no_listed ts ≡ true → Ends ts (stand m ns) → 200 < peak ts (stand m ns) → Stops ts (ma.state is ns (Both x (Some m) false))
both_high [] is file ns x m a p g o u e l = absurd (omega (arith, l))
both_high (t ∷ ts) is file ns x m a p g o u e l =
    let z = read_first ts t m ns e in
    both_at t ts is file ns x m a p g o u z (peak_read ts t m ns z l) (λ ms y k q h i j v w. both_high ts is file ms y k a q h i j v w) (sh.is_stop t.symbol) refl

-- An item from its first token.

abbrev extended : ℕ → Mode
extended x = Specifiers (mk.said mk.unspoken nothing_known (wExtension x) 0) (aroundPlace placeFile)

extended_low : (x : ℕ) → low (extended x) ≤ 200
extended_low x = omega (arith, above_is 0 (omega arith))

file_behind : (ns : List (List ℕ)) → Behind' ns ns [] File
file_behind ns = record { low = omega arith; names_are = refl; fits = tt; reads = λ r. refl }

-- `extern` opens an item
opened_high : (at : ℕ) (ts : List SymbolAt) (is : Items) (file ns : List (List ℕ)) (m : Mode) (x : Extern) (p : List SymbolAt) → Behind' file ns p m → ma.opens (sy.Storage storage.Extern) at m ≡ Some x → OutTurn ns (steps.next ns (sign (sy.Storage storage.Extern) at) m) → sh.has_no_listed ts ≡ true → ((u : Turn) → low u.mode ≤ 200 → Behind' file u.names (p ++ sign (sy.Storage storage.Extern) at ∷ []) u.mode → Out u.mode → Ends ts (Some u) → 200 < peak ts (Some u) → Stops ts (ma.state is u.names (Both x (Some u.mode) false))) → Ends (sign (sy.Storage storage.Extern) at ∷ ts) (stand m ns) → 200 < peak (sign (sy.Storage storage.Extern) at ∷ ts) (stand m ns) → Stops (sign (sy.Storage storage.Extern) at ∷ ts) (ma.state is ns (Plain m))
opened_high at ts is file ns m x p g e o h f n l =
    let t = sign (sy.Storage storage.Extern) at in
    let z = read_first ts t m ns n in
    let v = subst (OutTurn ns) z.next o in
    let w = peak_read ts t m ns z l in
    ap (ma.run ts) (opening_step is ns t m x z.turn e z.next)
    ∙ both_settles ts is ns x z.turn v.1 h z.ends (leb (low z.turn.mode) 200) refl (λ i. f z.turn i (behind_next file ns p m t z.turn g z.next i) v.1 z.ends (omega (arith, w, i)))

-- behind `__extension__`
second_high : (t : Symbol) (at : ℕ) (ts : List SymbolAt) (is : Items) (ns : List (List ℕ)) (x : ℕ) → Behind' ns ns (sign sy.Extension x ∷ []) (extended x) → sh.is_unlisted (sign sy.Extension x ∷ sign t at ∷ ts) ≡ true → Ends (sign t at ∷ ts) (stand (extended x) ns) → 200 < peak (sign t at ∷ ts) (stand (extended x) ns) → Stops (sign t at ∷ ts) (ma.state is ns (Plain (extended x)))
second_high (sy.Storage storage.Extern) at ts is ns x g u e l =
    let t = sign (sy.Storage storage.Extern) at in
    opened_high at ts is ns ns (extended x) (ma.extern (Some x) at no_raw) (sign sy.Extension x ∷ []) g refl (extern_out ns at (mk.said mk.unspoken nothing_known (wExtension x) 0) refl) u
    (λ k i h o n w. both_high ts is ns k.names (ma.extern (Some x) at no_raw) k.mode (sign sy.Extension x) (t ∷ []) h o u n w) e l
second_high t at ts is ns x g u e l =
    plain_at (sign t at) ts is ns ns (extended x) (sign sy.Extension x ∷ []) g refl (λ k h w. plain_high ts is ns k.names k.mode (sign sy.Extension x ∷ sign t at ∷ []) h tt w) (steps.next ns (sign t at) (extended x)) refl l

behind_extension : (ts : List SymbolAt) (is : Items) (ns : List (List ℕ)) (x : ℕ) → Behind' ns ns (sign sy.Extension x ∷ []) (extended x) → sh.is_unlisted (sign sy.Extension x ∷ ts) ≡ true → Ends ts (stand (extended x) ns) → 200 < peak ts (stand (extended x) ns) → Stops ts (ma.state is ns (Plain (extended x)))
behind_extension [] is ns x g u e l = absurd (omega (arith, l))
behind_extension (t ∷ ts) is ns x g u e l = second_high t.symbol t.at ts is ns x g u e l

start_high : (t : Symbol) (at : ℕ) (ts : List SymbolAt) (is : Items) (ns : List (List ℕ)) → sh.is_unlisted (sign t at ∷ ts) ≡ true → Ends (sign t at ∷ ts) (stand File ns) → 200 < peak (sign t at ∷ ts) (stand File ns) → Stops (sign t at ∷ ts) (ma.state is ns (Plain File))
start_high (sy.Storage storage.Extern) at ts is ns u e l =
    opened_high at ts is ns ns File (ma.extern None at no_raw) [] (file_behind ns) refl (extern_out ns at mk.unspoken refl) u
    (λ k i h o n w. both_high ts is ns k.names (ma.extern None at no_raw) k.mode (sign (sy.Storage storage.Extern) at) [] h o u n w) e l
start_high sy.Extension at ts is ns u e l =
    let t = sign sy.Extension at in
    ap (ma.run ts) (plain_step is ns t File (turn (extended at) ns) refl refl ∙ limited_low t (ma.state is ns (Plain (extended at))) (extended_low at))
    ∙ behind_extension ts is ns at (behind_next ns ns [] File t (turn (extended at) ns) (file_behind ns) refl (extended_low at)) u (record { turn = e.turn; walks = e.walks; ended = e.ended }) (omega (arith, l, extended_low at))
start_high t at ts is ns u e l =
    plain_at (sign t at) ts is ns ns File [] (file_behind ns) refl (λ k h w. plain_high ts is ns k.names k.mode (sign t at ∷ []) h (λ q. cc) w) (steps.next ns (sign t at) File) refl l

pub item_high : (ts : List SymbolAt) (is : Items) (ns : List (List ℕ)) → sh.is_unlisted ts ≡ true → Ends ts (stand File ns) → 200 < peak ts (stand File ns) → Stops ts (ma.state is ns (Plain File))
item_high [] is ns u e l = absurd (omega (arith, l))
item_high (t ∷ ts) is ns u e l = start_high t.symbol t.at ts is ns u e l
