use Rattle.std.proofs.Common.{inl, inr, refl}
use Rattle.dae_cli_command.specs.Answers.{due_job, due_words, due_memory_for_words}
use Rattle.dae_cli_command.proofs.Calm.{leaves}
use Rattle.dae_cli_command.proofs.Found.{none_spelled, ranges_by, spelled_as}
use Rattle.dae_cli_command.proofs.top.dae_main.Goals as goal

-- ---- run

pub run-requires : goal.run-requires
run-requires g c = ranges_by _ _ _ c.in-Some.is c.in-Run.is c.in-Ok.ensures.ranges

pub returns-in-Run-clause-gives : goal.returns-in-Run-clause-gives
returns-in-Run-clause-gives g c =
    let r = c.run.ensures.gives in
    (r.0, due_job _ (spelled_as _ _ _ _ c.in-Some.is c.in-Run.is c.in-Ok.ensures.job) r.1, r.2)

pub returns-in-Run-clause-held : goal.returns-in-Run-clause-held
returns-in-Run-clause-held g c = inl c.run.ensures.kept.told

pub returns-in-Run-clause-kept : goal.returns-in-Run-clause-kept
returns-in-Run-clause-kept g c = inl c.run.ensures.kept

pub returns-in-Run-clause-unkept : goal.returns-in-Run-clause-unkept
returns-in-Run-clause-unkept g c = λ zero six. c.run.ensures.kept.told

-- ---- exec

pub returns-in-Exec-clause-gives : goal.returns-in-Exec-clause-gives
returns-in-Exec-clause-gives g c =
    let r = c.exec.ensures.gives in
    (r.0, due_job _ (spelled_as _ _ _ _ c.in-Some.is c.in-Exec.is c.in-Ok.ensures.job) r.1, r.2)

pub returns-in-Exec-clause-held : goal.returns-in-Exec-clause-held
returns-in-Exec-clause-held g c = inl c.exec.ensures.kept.told

pub returns-in-Exec-clause-kept : goal.returns-in-Exec-clause-kept
returns-in-Exec-clause-kept g c = inl c.exec.ensures.kept

pub returns-in-Exec-clause-unkept : goal.returns-in-Exec-clause-unkept
returns-in-Exec-clause-unkept g c = λ zero six. c.exec.ensures.kept.told

-- ---- trace

pub returns-in-Trace-clause-gives : goal.returns-in-Trace-clause-gives
returns-in-Trace-clause-gives g c =
    let r = c.trace.ensures.gives in
    (r.0, due_job _ (spelled_as _ _ _ _ c.in-Some.is c.in-Trace.is c.in-Ok.ensures.job) r.1, r.2)

pub returns-in-Trace-clause-held : goal.returns-in-Trace-clause-held
returns-in-Trace-clause-held g c = inl c.trace.ensures.kept.told

pub returns-in-Trace-clause-kept : goal.returns-in-Trace-clause-kept
returns-in-Trace-clause-kept g c = inl c.trace.ensures.kept

pub returns-in-Trace-clause-unkept : goal.returns-in-Trace-clause-unkept
returns-in-Trace-clause-unkept g c = λ zero six. c.trace.ensures.kept.told

-- ---- time

pub returns-in-Time-clause-gives : goal.returns-in-Time-clause-gives
returns-in-Time-clause-gives g c =
    let r = c.time.ensures.gives in
    (r.0, due_job _ (spelled_as _ _ _ _ c.in-Some.is c.in-Time.is c.in-Ok.ensures.job) r.1, r.2)

pub returns-in-Time-clause-held : goal.returns-in-Time-clause-held
returns-in-Time-clause-held g c = inl c.time.ensures.kept.told

pub returns-in-Time-clause-kept : goal.returns-in-Time-clause-kept
returns-in-Time-clause-kept g c = inl c.time.ensures.kept

pub returns-in-Time-clause-unkept : goal.returns-in-Time-clause-unkept
returns-in-Time-clause-unkept g c = λ zero six. c.time.ensures.kept.told

-- ---- dis

pub returns-in-Dis-clause-gives : goal.returns-in-Dis-clause-gives
returns-in-Dis-clause-gives g c =
    let r = c.dis.ensures.gives in
    (r.0, due_job _ (spelled_as _ _ _ _ c.in-Some.is c.in-Dis.is c.in-Ok.ensures.job) r.1, r.2)

pub returns-in-Dis-clause-held : goal.returns-in-Dis-clause-held
returns-in-Dis-clause-held g c = inl c.dis.ensures.kept.told

pub returns-in-Dis-clause-kept : goal.returns-in-Dis-clause-kept
returns-in-Dis-clause-kept g c = inl c.dis.ensures.kept

pub returns-in-Dis-clause-unkept : goal.returns-in-Dis-clause-unkept
returns-in-Dis-clause-unkept g c = λ zero six. c.dis.ensures.kept.told

-- ---- check

pub returns-in-Check-clause-gives : goal.returns-in-Check-clause-gives
returns-in-Check-clause-gives g c =
    let r = c.check.ensures.gives (g.O.Sink.seen c.args.out.now) in
    (r.0, due_job _ (spelled_as _ _ _ _ c.in-Some.is c.in-Check.is c.in-Ok.ensures.job) r.1, r.2)

pub returns-in-Check-clause-held : goal.returns-in-Check-clause-held
returns-in-Check-clause-held g c = inl c.check.ensures.kept.told

pub returns-in-Check-clause-kept : goal.returns-in-Check-clause-kept
returns-in-Check-clause-kept g c = inl c.check.ensures.kept

pub returns-in-Check-clause-unkept : goal.returns-in-Check-clause-unkept
returns-in-Check-clause-unkept g c = λ zero six. c.check.ensures.kept.told

-- ---- debug

pub returns-in-Debug-clause-gives : goal.returns-in-Debug-clause-gives
returns-in-Debug-clause-gives g c =
    let r = c.debug.ensures.gives in
    (r.0, due_job _ (spelled_as _ _ _ _ c.in-Some.is c.in-Debug.is c.in-Ok.ensures.job) r.1, r.2)

pub returns-in-Debug-clause-held : goal.returns-in-Debug-clause-held
returns-in-Debug-clause-held g c = inl c.debug.ensures.kept.told

pub returns-in-Debug-clause-kept : goal.returns-in-Debug-clause-kept
returns-in-Debug-clause-kept g c = inl c.debug.ensures.kept

pub returns-in-Debug-clause-unkept : goal.returns-in-Debug-clause-unkept
returns-in-Debug-clause-unkept g c = λ zero six. c.debug.ensures.kept.told

-- ---- report

pub report-requires : goal.report-requires
report-requires g c = ranges_by _ _ _ c.in-Some.is c.in-Report.is c.in-Ok.ensures.ranges

pub returns-in-Report-clause-gives : goal.returns-in-Report-clause-gives
returns-in-Report-clause-gives g c =
    let r = c.report.ensures.gives in
    (r.0, due_job _ (spelled_as _ _ _ _ c.in-Some.is c.in-Report.is c.in-Ok.ensures.job) r.1, r.2)

pub returns-in-Report-clause-held : goal.returns-in-Report-clause-held
returns-in-Report-clause-held g c = inl c.report.ensures.kept.told

pub returns-in-Report-clause-kept : goal.returns-in-Report-clause-kept
returns-in-Report-clause-kept g c = inl c.report.ensures.kept

pub returns-in-Report-clause-unkept : goal.returns-in-Report-clause-unkept
returns-in-Report-clause-unkept g c = λ zero six. c.report.ensures.kept.told

-- ---- guard

pub returns-in-Guard-clause-gives : goal.returns-in-Guard-clause-gives
returns-in-Guard-clause-gives g c =
    let r = c.guard.ensures.gives (g.O.Sink.seen c.args.out.now) in
    (r.0, due_job _ (spelled_as _ _ _ _ c.in-Some.is c.in-Guard.is c.in-Ok.ensures.job) r.1, r.2)

pub returns-in-Guard-clause-held : goal.returns-in-Guard-clause-held
returns-in-Guard-clause-held g c = inl c.guard.ensures.kept.told

pub returns-in-Guard-clause-kept : goal.returns-in-Guard-clause-kept
returns-in-Guard-clause-kept g c = inl c.guard.ensures.kept

pub returns-in-Guard-clause-unkept : goal.returns-in-Guard-clause-unkept
returns-in-Guard-clause-unkept g c = λ zero six. c.guard.ensures.kept.told

-- ---- big

pub big-requires : goal.big-requires
big-requires g c = let r = ranges_by _ _ _ c.in-Some.is c.in-Big.is c.in-Ok.ensures.ranges in r.most_is

pub returns-in-Big-clause-gives : goal.returns-in-Big-clause-gives
returns-in-Big-clause-gives g c =
    let r = c.big.ensures.gives in
    (r.0, due_job _ (spelled_as _ _ _ _ c.in-Some.is c.in-Big.is c.in-Ok.ensures.job) r.1, r.2)

pub returns-in-Big-clause-held : goal.returns-in-Big-clause-held
returns-in-Big-clause-held g c = inl (λ name. refl)

pub returns-in-Big-clause-kept : goal.returns-in-Big-clause-kept
returns-in-Big-clause-kept g c = inl (record { given = refl; told = λ name. refl })

pub returns-in-Big-clause-unkept : goal.returns-in-Big-clause-unkept
returns-in-Big-clause-unkept g c = λ zero six name. refl

-- ---- compile

pub compile_files-requires : goal.compile_files-requires
compile_files-requires g c = ranges_by _ _ _ c.in-Some.is c.in-Compile.is c.in-Ok.ensures.ranges

pub returns-in-Compile-clause-gives : goal.returns-in-Compile-clause-gives
returns-in-Compile-clause-gives g c =
    let r = c.compile_files.ensures.gives (g.O.Sink.seen c.args.out.now) in
    (r.0, due_job _ (spelled_as _ _ _ _ c.in-Some.is c.in-Compile.is c.in-Ok.ensures.job) r.1, r.2)

pub returns-in-Compile-clause-held : goal.returns-in-Compile-clause-held
returns-in-Compile-clause-held g c =
    leaves _ _ _ _ _ (spelled_as _ _ _ _ c.in-Some.is c.in-Compile.is c.in-Ok.ensures.job) refl c.compile_files.ensures.held

pub returns-in-Compile-clause-kept : goal.returns-in-Compile-clause-kept
returns-in-Compile-clause-kept g c = inr (_, spelled_as _ _ _ _ c.in-Some.is c.in-Compile.is c.in-Ok.ensures.job, c.compile_files.ensures.kept)

-- ---- asm

pub returns-in-Asm-clause-gives : goal.returns-in-Asm-clause-gives
returns-in-Asm-clause-gives g c =
    let r = c.asm.ensures.gives (g.O.Sink.seen c.args.out.now) in
    (r.0, due_job _ (spelled_as _ _ _ _ c.in-Some.is c.in-Asm.is c.in-Ok.ensures.job) r.1, r.2)

pub returns-in-Asm-clause-held : goal.returns-in-Asm-clause-held
returns-in-Asm-clause-held g c =
    leaves _ _ _ _ _ (spelled_as _ _ _ _ c.in-Some.is c.in-Asm.is c.in-Ok.ensures.job) refl c.asm.ensures.held

pub returns-in-Asm-clause-kept : goal.returns-in-Asm-clause-kept
returns-in-Asm-clause-kept g c = inr (_, spelled_as _ _ _ _ c.in-Some.is c.in-Asm.is c.in-Ok.ensures.job, c.asm.ensures.kept)

-- ---- no job, and no memory to read the words

pub returns-in_default-clause-gives : goal.returns-in_default-clause-gives
returns-in_default-clause-gives g c = (_, due_memory_for_words, c.tell.ensures (g.O.Sink.seen c.args.out.now))

pub returns-in_default-found-clause-gives : goal.returns-in_default-found-clause-gives
returns-in_default-found-clause-gives g c = (_, due_words (none_spelled _ _ c.in_default-found.not-Some c.in-Ok.ensures.job), c.noted.ensures (g.O.Sink.seen c.args.out.now))
