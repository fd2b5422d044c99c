use Rattle.std.proofs.Common.{◌≡◌, ◌++◌, drop, map}
use Rattle.type_scopes.specs.Seen as seen
use Rattle.loop_names.specs.Spellings.{spellings_from, spellings_of}
use Rattle.loop_names.proofs.spellings.Given as goal

abbrev pub invariant-loop-number : goal.invariant-loop-number
invariant-loop-number l =
    l.spellings.items ++ spellings_from (seen.env_of l.env) l.keyword l.condition l.number (map seen.object_of (drop l.number l.env.objects.items)) ≡ spellings_of (seen.env_of l.env) l.keyword l.condition
