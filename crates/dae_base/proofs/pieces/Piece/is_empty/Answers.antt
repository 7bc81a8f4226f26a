-- The text is empty exactly where nothing is spelled.
use Rattle.std.proofs.Common.{ap, sym, ◌∙◌, List, ℕ, length}
use Rattle.std.specs.Prelude.{nat_eq}
use Rattle.dae_base.proofs.Spellings.{none_of_nothing}
use Rattle.dae_base.proofs.pieces.Piece.is_empty.Goals as goal

pub returns : goal.returns
returns c =
    c.is_nothing.ensures
    ∙ sym (none_of_nothing c.self.inside.spelling c.self.inside.word)
    ∙ ap (λ (text : List ℕ). nat_eq (length text) 0) c.self.view_is
