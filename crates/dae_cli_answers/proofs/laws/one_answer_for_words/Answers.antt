use Rattle.dae_cli_answers.proofs.OneDue.{never, one_of_words}
use Rattle.dae_cli_answers.proofs.laws.one_answer_for_words.Goals as goal

pub returns : goal.returns
returns c = λ words s status a b whole d e m n.
    let none = c.accepted_have_no_fault.ensures in
    one_of_words c.one_cause_is_told.ensures (never none.tokens none.trees none.rules none.joining) words s status whole a b d e m n
