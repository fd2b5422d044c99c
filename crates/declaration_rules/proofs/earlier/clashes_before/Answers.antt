use Rattle.std.proofs.Common.{◌∙◌, length, ap, refl, arith}
use Rattle.std.specs.Option.{option_map}
use Rattle.std.proofs.lemmas.Option.{slice_get_within, slice_get_read, slice_get-map}
use Rattle.type_scopes.specs.Seen as seen
use Rattle.declaration_rules.proofs.Pasts.{room_at}
use Rattle.declaration_rules.proofs.earlier.clashes_before.Goals as goal

pub returns-in-None : goal.returns-in-None
returns-in-None c =
    let within = slice_get_within c.args.env.now.entries c.args.place c.args.entry.now c.requires.at in
    let long = c.requires.known.0 in
    let past = c.in-None.ensures.lookup.3 in
    absurd (omega (arith, within, long, past))

pub returns-in-Some : goal.returns-in-Some
returns-in-Some c =
    let xs = c.args.env.now.entries in
    let pasts = c.args.pasts.now in
    let found = c.in-Some.ensures.lookup in
    c.leave_no_room.ensures
    ∙ room_at (seen.env_of c.args.env.now) c.args.model (length xs) c.args.place (seen.entry_of c.args.entry.now) pasts c.in-Some.past.now c.requires.known
    (slice_get-map seen.entry_of xs c.args.place ∙ ap (option_map seen.entry_of) c.requires.at) (slice_get_read pasts (length pasts) c.args.place c.in-Some.past.now refl found.3.0 found.1)
