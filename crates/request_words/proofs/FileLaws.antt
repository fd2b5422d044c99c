-- The names of the files that words ask to be written.
use Rattle.std.proofs.Common.{◌≡◌, ℕ, List, [], ◌∷◌, Bool, true, false, refl, subst}
use Rattle.std.specs.Prelude.{Option, Some, None, ◌||◌, if◌then◌else◌, codes}
use Rattle.std.specs.Str.{bytes_eq}
use Rattle.request_words.specs.declared.options.Choice.{Choice}
use Rattle.request_words.specs.declared.commands.Command.TheVariants as command
use Rattle.request_words.specs.Words.{Given, nothing_given, with_words}
use Rattle.request_words.specs.Asked.{Asked, is_named, is_named_in, check_at, check_by, verify_with, verify_at, verify_by, generate_at, generate_by, asked_of, IsApart, NamesAreApart}

neither : (a b : Bool) → a || b ≡ false → (a ≡ false) × (b ≡ false)
neither true b h = absurd (cc)
neither false b h = (refl, h)

-- what is asked for, where it is, is apart
abbrev AreApart : Option Asked → Type 0
AreApart o = (asked : Asked) → o ≡ Some asked → IsApart asked

same_some : (x y : Asked) → Some x ≡ Some y → x ≡ y
same_some x y h = cc

none_apart : (o : Option Asked) → o ≡ None → AreApart o
none_apart o e asked h = absurd (cc)

one_apart : (o : Option Asked) (x : Asked) → o ≡ Some x → IsApart x → AreApart o
one_apart o x e apart asked h = let is : x ≡ asked = cc in subst IsApart is apart

module _ (given : Given) where
  check_apart : (first second : Option (List ℕ)) (awaited : Option Choice) → AreApart (check_at given first second awaited)
  check_apart None second awaited = none_apart _ refl
  check_apart (Some first) None awaited = none_apart _ refl
  check_apart (Some first) (Some second) None = one_apart _ _ refl tt
  check_apart (Some first) (Some second) (Some choice) = none_apart _ refl

  by_names : (source : List ℕ) (b : Bool) →
      (is_named source given.cert || (is_named source given.run || (is_named source given.witness || (is_named_in given.cert given.run || (is_named_in given.cert given.witness || is_named_in given.run given.witness))))) ≡ b
      → AreApart (if b then None else verify_with given source)
  by_names source true e = none_apart _ refl
  by_names source false e =
      let a = neither (is_named source given.cert) _ e in
      let b = neither (is_named source given.run) _ a.1 in
      let c = neither (is_named source given.witness) _ b.1 in
      let d = neither (is_named_in given.cert given.run) _ c.1 in
      one_apart _ _ refl (neither (is_named_in given.cert given.witness) (is_named_in given.run given.witness) d.1)

  verify_apart : (first second : Option (List ℕ)) (awaited : Option Choice) → AreApart (verify_at given first second awaited)
  verify_apart None second awaited = none_apart _ refl
  verify_apart (Some source) (Some second) awaited = none_apart _ refl
  verify_apart (Some source) None (Some choice) = none_apart _ refl
  verify_apart (Some source) None None = by_names source _ refl

checks_apart : (o : Option Given) → AreApart (check_by o)
checks_apart None = none_apart _ refl
checks_apart (Some given) = check_apart given given.first given.second given.awaited

verifications_apart : (o : Option Given) → AreApart (verify_by o)
verifications_apart None = none_apart _ refl
verifications_apart (Some given) = verify_apart given given.first given.second given.awaited

seed_apart : (seed : Option ℕ) → AreApart (generate_at seed)
seed_apart None = none_apart _ refl
seed_apart (Some seed) = one_apart _ _ refl tt

seeds_apart : (words : List (List ℕ)) → AreApart (generate_by words)
seeds_apart [] = none_apart _ refl
seeds_apart (seed ∷ []) = seed_apart _
seeds_apart (seed ∷ (word ∷ words)) = none_apart _ refl

by_test : (b : Bool) (x y : Option Asked) → AreApart x → AreApart y → AreApart (if b then x else y)
by_test true x y hx hy = hx
by_test false x y hx hy = hy

words_apart : (words : List (List ℕ)) → AreApart (asked_of words)
words_apart [] = none_apart _ refl
words_apart (word ∷ words) =
    by_test (bytes_eq word (codes "check")) _ _ (checks_apart (with_words command.Check (Some nothing_given) words))
    (by_test (bytes_eq word (codes "verify")) _ _ (verifications_apart (with_words command.Verify (Some nothing_given) words))
    (by_test (bytes_eq word (codes "generate")) _ _ (seeds_apart words) (none_apart _ refl)))

pub names_apart : NamesAreApart
names_apart words asked h = words_apart words asked h
