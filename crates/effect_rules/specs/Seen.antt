-- Effects of the program.
use Rattle.effect_rules.specs.declared.effects.Effects.{Effects}
use Rattle.first_broken.specs.Seen.{found_of}
use Rattle.effect_rules.specs.Effects as e

abbrev pub effects_of : Effects → e.Effects
effects_of x = record { writes = x.writes.items; reads = x.reads.items; found = found_of x.found }
