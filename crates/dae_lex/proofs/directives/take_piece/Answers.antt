use Rattle.std.proofs.Common.{ap, sym, subst, ◌∙◌, refl}
use Rattle.dae_lex_scan.specs.Cuts.{cut_of}
use Rattle.dae_lex.specs.Numbers.{definitions_of}
use Rattle.dae_lex.specs.Settling.{Settles, state_of, settle}
use Rattle.dae_lex.proofs.Kept.{keeps_same}
use Rattle.dae_lex.proofs.Turns.{always}
use Rattle.dae_lex.proofs.Unreplaced.{blank_gives, fixed_gives}
use Rattle.dae_lex.proofs.directives.take_piece.Goals as goal

pub returns-then-blank_kind-clause-settles : goal.returns-then-blank_kind-clause-settles
returns-then-blank_kind-clause-settles c = λ n h.
    let p = cut_of c.args.piece.now in
    ap (settle (state_of c.args.out.now)) (blank_gives n (definitions_of c.args.macros.now) p p.kind refl (sym c.blank_kind.ensures ∙ c.if-blank_kind.true))

pub returns-then-blank_kind-clause-keeps : goal.returns-then-blank_kind-clause-keeps
returns-then-blank_kind-clause-keeps c = keeps_same c.args.numbers.now

pub put-requires-clause-numbered : goal.put-requires-clause-numbered
put-requires-clause-numbered c = c.in-Some.ensures.meant c.args.numbers.now

pub returns-in-Some-clause-settles : goal.returns-in-Some-clause-settles
returns-in-Some-clause-settles c = λ n h.
    let p = cut_of c.args.piece.now in
    subst (λ xs. Settles (state_of c.put.new.self) c.put.result (settle (state_of c.args.out.now) xs))
    (sym (fixed_gives n (definitions_of c.args.macros.now) p p.kind c.in-Some.meaning refl c.in-Some.ensures.meaning)) c.put.ensures.settles

pub returns-in-Some-clause-keeps : goal.returns-in-Some-clause-keeps
returns-in-Some-clause-keeps c = always c.put.result (keeps_same c.args.numbers.now)
