-- In files that join each function has the parameters of its type.
use Rattle.std.proofs.Common.{◌^◌, ◌≤◌}
use Rattle.std.specs.Prelude.{slice_get}
use Rattle.dae_base.proofs.Laws.{all_by_place}
use Rattle.dae_program.specs.Resolved.{address_in}
use Rattle.dae_types_typed.specs.Sound.{IsSound}
use Rattle.dae_unit.specs.Meanings.{bodies_of, links_of}
use Rattle.dae_unit_join.specs.Joined.{placed_in, places_in}
use Rattle.dae_unit_join.specs.Promise.{HaveParameters, JoinedHaveParameters}
use Rattle.dae_unit_join.proofs.Causes.{no_cause}
use Rattle.dae_unit_join.proofs.Room.{have_room}
use Rattle.dae_unit_join.proofs.Rows.{file_sound}
use Rattle.dae_unit_join.proofs.Sound.{sound_have_parameters}

pub joined_have_parameters : JoinedHaveParameters
joined_have_parameters files memory p sounds small joins =
    all_by_place HaveParameters files
    (λ k f h. sound_have_parameters f memory (address_in (slice_get (links_of files (placed_in files) (bodies_of files) (places_in files)) k)) (file_sound files k f sounds h) small
    (have_room files memory sounds (no_cause files memory joins.fits) small k f h))
