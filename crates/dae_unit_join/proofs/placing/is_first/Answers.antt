use Rattle.std.proofs.Common.{◌≡◌, true, false, rules}
use Rattle.dae_unit.specs.Placing.{gives_room}
use Rattle.dae_unit.proofs.LawsOfRows.{fresh_is_first, room_noted, no_room, no_room_noted}
use Rattle.dae_unit_join.proofs.placing.is_first.Goals as goal

pub returns-then-not-gives_room-clause-first : goal.returns-then-not-gives_room-clause-first
returns-then-not-gives_room-clause-first c done all =
    let fails : gives_room c.args.row ≡ false = search rules in
    no_room c.args.files.now c.args.row fails done

pub returns-then-not-gives_room-clause-seen : goal.returns-then-not-gives_room-clause-seen
returns-then-not-gives_room-clause-seen c done all =
    let fails : gives_room c.args.row ≡ false = search rules in
    no_room_noted c.args.files.now c.args.row c.args.seen.now.keys fails done all

pub returns-clause-first : goal.returns-clause-first
returns-clause-first c done all =
    let holds : gives_room c.args.row ≡ true = search rules in
    let noted = c.in_ok-first.ensures in
    fresh_is_first c.args.files.now c.args.row noted.0 c.args.seen.now.keys c.add_identity.new.seen.keys c.in_ok-first.first holds noted.1 noted.2 done all

pub returns-clause-seen : goal.returns-clause-seen
returns-clause-seen c done all =
    let holds : gives_room c.args.row ≡ true = search rules in
    let noted = c.in_ok-first.ensures in
    room_noted c.args.files.now c.args.row noted.0 c.args.seen.now.keys c.add_identity.new.seen.keys c.in_ok-first.first holds noted.1 noted.2 done all
