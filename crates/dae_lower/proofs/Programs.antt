-- What is proved of trees, of programs in memory.
use Rattle.std.proofs.Common.{ℕ, suc, refl, sym, subst}
use Rattle.std.specs.Prelude.{slice_get}
use Rattle.dae_base.specs.declared.Place.{Place}
use Rattle.dae_program.specs.Placed.{KeepsFrames}
use Rattle.dae_program.specs.Programs.{program_of, variables_of, start}
use Rattle.dae_program.specs.Promise.{LawfulKeepRules}
use Rattle.dae_lower.specs.Keeping.{FormsNeverStray, MeaningKept, ProgramsKept, place_in}

pub programs_kept : LawfulKeepRules → MeaningKept → FormsNeverStray → ProgramsKept
programs_kept rules kept stays p depth h =
    let r = rules p (suc depth) h in
    let place : ℕ → Place = λ f. place_in (slice_get p.functions f) in
    let w = start p.memory p.frames p.content in
    record {
      meaning = kept (program_of p (suc depth)) place (variables_of p) p.main r.scope depth refl w r.begins refl;
      stays = stays (program_of p (suc depth)) place (variables_of p) p.main r.scope depth refl w r.begins refl
          (subst (λ (m : ℕ). KeepsFrames m (program_of p (suc depth))) (sym r.memory) r.frames);
    }
