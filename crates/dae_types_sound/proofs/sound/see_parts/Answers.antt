use Rattle.std.proofs.Common.{◌∙◌, sym}
use Rattle.dae_types_sound.proofs.Whole.{sound_parts}
use Rattle.dae_types_sound.proofs.sound.see_parts.Goals as goal

pub returns : goal.returns
returns c =
    sound_parts c.args.parts.now
    (sym (rw (c.in_ok-names.ensures) at (c.are_fit_functions.ensures)) ∙ c.in_ok-see.ensures)
    (rw (c.as_slice.ensures) at (c.in_ok-see_ready.ensures))
    (sym c.are_laid_out.ensures ∙ c.in_ok-see-2.ensures)
    (sym c.are_sound_shapes.ensures ∙ c.in_ok-see-3.ensures)
    (sym c.are_complete_members.ensures ∙ c.in_ok-see-4.ensures)
    (sym c.are_sound_declarations.ensures ∙ c.in_ok-see-5.ensures)
    (sym (rw (c.as_slice-2.ensures, c.as_slice-3.ensures) at (c.are_bodies_of.ensures)) ∙ c.in_ok-see-6.ensures)
    (sym c.are_sound_uses.ensures ∙ c.in_ok-see-7.ensures)
    c.in_ok-see_names.ensures
