use Rattle.std.proofs.Common.{rules, [], ◌∷◌, List, ℕ, refl}
use Rattle.dae_io.specs.Sinks.{SinkState, IsPut, IsPutFailed}
use Rattle.dae_cli_drive.specs.Notes.{outcome_line, shown_line, show_puts, steps_line}
use Rattle.dae_cli_drive.specs.Puts.{Put, Note, sinks, AreCut}
use Rattle.dae_cli_drive.proofs.Puts.{cut_here, cut_next, on_err}
use Rattle.dae_cli_drive.proofs.ending.note_end.Goals as goal

pub returns-in_err-put-clause-cut : goal.returns-in_err-put-clause-cut
returns-in_err-put-clause-cut g c =
    let outcome : List ℕ = outcome_line c.args.driven c.args.machine.now.setup c.args.machine.now.state in
    let more : List Put = Note (steps_line c.args.machine.now.state.steps) ∷ show_puts c.args.show c.args.machine.now.state.memory in
    let part : IsPutFailed outcome (g.N.Sink.seen c.args.note.now) (g.N.Sink.seen c.put.new.self) = search rules in
    on_err c.from_residual.result ((out : SinkState) → AreCut (Note outcome ∷ more) (sinks out (g.N.Sink.seen c.args.note.now)) (sinks out (g.N.Sink.seen c.put.new.self)))
    (λ out. cut_here (Note outcome) more (sinks out (g.N.Sink.seen c.args.note.now)) (sinks out (g.N.Sink.seen c.put.new.self)) (part, refl))

pub returns-in_err-put-2-clause-cut : goal.returns-in_err-put-2-clause-cut
returns-in_err-put-2-clause-cut g c =
    let outcome : List ℕ = outcome_line c.args.driven c.args.machine.now.setup c.args.machine.now.state in
    let steps : List ℕ = steps_line c.args.machine.now.state.steps in
    let more : List Put = show_puts c.args.show c.args.machine.now.state.memory in
    let before : SinkState = g.N.Sink.seen c.args.note.now in
    let between : SinkState = g.N.Sink.seen c.put.new.self in
    let after : SinkState = g.N.Sink.seen c.put-2.new.self in
    let first : IsPut outcome before between = search rules in
    let part : IsPutFailed steps between after = search rules in
    on_err c.from_residual-in_err-put-2.result ((out : SinkState) → AreCut (Note outcome ∷ (Note steps ∷ more)) (sinks out before) (sinks out after))
    (λ out. cut_next (Note outcome) (Note steps ∷ more) (sinks out before) (sinks out between) (sinks out after) (first, refl)
    (cut_here (Note steps) more (sinks out between) (sinks out after) (part, refl)))

pub returns-in_err-put-3-clause-cut : goal.returns-in_err-put-3-clause-cut
returns-in_err-put-3-clause-cut g c =
    let outcome : List ℕ = outcome_line c.args.driven c.args.machine.now.setup c.args.machine.now.state in
    let steps : List ℕ = steps_line c.args.machine.now.state.steps in
    let shown : List ℕ = shown_line c.in-Some.shown c.args.machine.now.state.memory in
    let before : SinkState = g.N.Sink.seen c.args.note.now in
    let between : SinkState = g.N.Sink.seen c.put.new.self in
    let later : SinkState = g.N.Sink.seen c.put-2.new.self in
    let after : SinkState = g.N.Sink.seen c.put-in-Some.new.self in
    let first : IsPut outcome before between = search rules in
    let second : IsPut steps between later = search rules in
    let part : IsPutFailed shown later after = search rules in
    rw c.in-Some.is (on_err c.from_residual-in_err-put-3.result ((out : SinkState) → AreCut (Note outcome ∷ (Note steps ∷ (Note shown ∷ []))) (sinks out before) (sinks out after))
    (λ out. cut_next (Note outcome) (Note steps ∷ (Note shown ∷ [])) (sinks out before) (sinks out between) (sinks out after) (first, refl)
    (cut_next (Note steps) (Note shown ∷ []) (sinks out between) (sinks out later) (sinks out after) (second, refl)
    (cut_here (Note shown) [] (sinks out later) (sinks out after) (part, refl)))))

pub returns-in_ok-put-3-clause-made : goal.returns-in_ok-put-3-clause-made
returns-in_ok-put-3-clause-made g c =
    let before : SinkState = g.N.Sink.seen c.args.note.now in
    let between : SinkState = g.N.Sink.seen c.put.new.self in
    let later : SinkState = g.N.Sink.seen c.put-2.new.self in
    let after : SinkState = g.N.Sink.seen c.put-in-Some.new.self in
    let first : IsPut (outcome_line c.args.driven c.args.machine.now.setup c.args.machine.now.state) before between = search rules in
    let second : IsPut (steps_line c.args.machine.now.state.steps) between later = search rules in
    let third : IsPut (shown_line c.in-Some.shown c.args.machine.now.state.memory) later after = search rules in
    rw c.in-Some.is (λ out. (sinks out between, (first, refl), (sinks out later, (second, refl), (sinks out after, (third, refl), refl))))

pub returns-in_default-clause-made : goal.returns-in_default-clause-made
returns-in_default-clause-made g c =
    let before : SinkState = g.N.Sink.seen c.args.note.now in
    let between : SinkState = g.N.Sink.seen c.put.new.self in
    let later : SinkState = g.N.Sink.seen c.put-2.new.self in
    let first : IsPut (outcome_line c.args.driven c.args.machine.now.setup c.args.machine.now.state) before between = search rules in
    let second : IsPut (steps_line c.args.machine.now.state.steps) between later = search rules in
    rw c.in_default.is (λ out. (sinks out between, (first, refl), (sinks out later, (second, refl), refl)))
