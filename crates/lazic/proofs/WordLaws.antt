-- What the words of other requests are.
use Rattle.std.proofs.Common.{◌≡◌, ℕ, Bool, true, false, List, [], ◌∷◌, None, Some, bytes_eq, codes, refl, ap}
use Rattle.std.specs.Prelude.{if◌then◌else◌}
use Rattle.std.proofs.lemmas.Slice.Eq.{bytes_eq-Decides}
use Rattle.request_words.specs.declared.commands.Command.TheVariants as command
use Rattle.request_words.specs.Asked.{asked_of}
use Rattle.request_words.specs.Replays.{replay_by}
use Rattle.request_words.specs.Words.{nothing_given, with_words}
use Rattle.lazic.specs.Told.{RequestsDiffer}
use Rattle.lazic.specs.Words.{Wanted}

by_command : (word : List ℕ) (words : List (List ℕ)) (wanted : Wanted) (b : Bool) → bytes_eq word (codes "replay") ≡ b → (if b then replay_by (with_words command.Replay (Some nothing_given) words) else None) ≡ Some wanted → asked_of (word ∷ words) ≡ None
by_command word words wanted true e h = ap (λ (w : List ℕ). asked_of (w ∷ words)) ((bytes_eq-Decides word (codes "replay")).0 e)
by_command word words wanted false e h = absurd (cc)

pub requests_differ : RequestsDiffer
requests_differ [] wanted h = absurd (cc)
requests_differ (word ∷ words) wanted h = by_command word words wanted (bytes_eq word (codes "replay")) refl h
