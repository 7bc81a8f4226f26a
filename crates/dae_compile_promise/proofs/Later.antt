-- A later form of a program does what the program does.
use Rattle.std.proofs.Common.{◌≡◌, ◌≢◌, ℕ, suc, ◌+◌, ◌*◌, ◌^◌, ◌%◌, ◌≤◌, ◌&&◌, List, length, refl, sym, ap, ◌∙◌, subst, arith}
use Rattle.dae_meaning.specs.Alike.{Alike, BothAt, BothOver, FirstStrays, IsFront}
use Rattle.dae_meaning.specs.Results.{Result, Halted, Astray, world_of}
use Rattle.dae_meaning.specs.Variables.{Env}
use Rattle.dae_ir.specs.Programs.{outcome, end_of}
use Rattle.dae_program.specs.Outcomes.{Outcome, last_world}
use Rattle.dae_program.specs.Programs.{meaning_of, start}
use Rattle.dae_program.specs.Promise.{LawfulKeepRules}
use Rattle.dae_lower.specs.Keeping.{IsKept, IsOver}
use Rattle.dae_lower_formed.specs.Order.{DoesTheSame, IsKeptByFewer, LoweredDoPrograms}
use Rattle.dae_lower_formed.proofs.Laws.{memory_most}
use Rattle.dae_alias.specs.Laws.{Cheaper, Costs, SameResult}
use Rattle.dae_compile_promise.specs.Promises.{LaterFormsDoPrograms}

-- ---- two results that are alike, of which the first isn't astray

same_end : (r q : Result Env) → Alike SameResult Cheaper r q → end_of r ≢ Astray → end_of q ≡ end_of r
same_end r q (BothAt way e f w u is c) stays = ap Halted (sym is)
same_end r q (BothOver end w u c) stays = refl
same_end r q (FirstStrays w s) stays = absurd (stays refl)

same_printed : (r q : Result Env) → Alike SameResult Cheaper r q → end_of r ≢ Astray → (world_of q).printed ≡ (world_of r).printed
same_printed r q (BothAt way e f w u is (Costs x i l j k most fewer items)) stays = refl
same_printed r q (BothOver end w u (Costs x i l j k most fewer items)) stays = refl
same_printed r q (FirstStrays w s) stays = absurd (stays refl)

by_fewer : (p : Outcome ℕ) (r q : Result Env) → Alike SameResult Cheaper r q → end_of r ≢ Astray → IsKept p r → IsKeptByFewer p q
by_fewer p r q (BothAt way e f w u is (Costs x i l j k most fewer items)) stays kept =
    let loads = kept.loads in
    let all = kept.items in
    record {
      end = ap Halted (sym is) ∙ kept.end;
      memory = kept.memory;
      printed = kept.printed;
      loads = omega (arith, fewer, loads);
      stores = kept.stores;
      items = omega (arith, items, all);
    }
by_fewer p r q (BothOver end w u (Costs x i l j k most fewer items)) stays kept =
    let loads = kept.loads in
    let all = kept.items in
    record {
      end = kept.end;
      memory = kept.memory;
      printed = kept.printed;
      loads = omega (arith, fewer, loads);
      stores = kept.stores;
      items = omega (arith, items, all);
    }
by_fewer p r q (FirstStrays w s) stays kept = absurd (stays refl)

-- ---- all bounds on turns

module _ (program : ℕ → Outcome ℕ) (old new : ℕ → Result Env) (same : DoesTheSame IsKept program old) (alike : (n : ℕ) → Alike SameResult Cheaper (old n) (new n)) where
  ends : (n : ℕ) → end_of (new n) ≡ end_of (old n)
  ends n = same_end (old n) (new n) (alike n) (same.stays n)

  prints : (n : ℕ) → (world_of (new n)).printed ≡ (world_of (old n)).printed
  prints n = same_printed (old n) (new n) (alike n) (same.stays n)

  does_by_fewer : DoesTheSame IsKeptByFewer program new
  does_by_fewer = record {
    ends = λ n o. (let k = same.ends n o in (k.0, by_fewer (program n) (old k.0) (new k.0) (alike k.0) (same.stays k.0) k.1));
    ends_only = λ m o. (let k = same.ends_only m (subst IsOver (ends m) o) in (k.0, by_fewer (program k.0) (old m) (new m) (alike m) (same.stays m) k.1));
    goes_on = ((λ g m. ends m ∙ (same.goes_on).0 g m), (λ g. (same.goes_on).1 (λ m. sym (ends m) ∙ g m)));
    prints = λ n. (let k = same.prints n in (k.0, subst (λ (xs : List ℕ). IsFront (last_world (program n)).printed xs) (sym (prints k.0)) k.1));
    prints_only = λ m. (let k = same.prints_only m in (k.0, subst (λ (xs : List ℕ). IsFront xs (last_world (program k.0)).printed) (sym (prints m)) k.1));
    stays = λ m e. same.stays m (sym (ends m) ∙ e);
  }

pub later_forms_do_programs : LawfulKeepRules → LoweredDoPrograms → LaterFormsDoPrograms
later_forms_do_programs rules same p old new lowered later depth calls =
    let memory : List ℕ = (let w = start p.memory p.frames p.content in w.memory) in
    let size : length memory ≡ p.memory = (let r = rules p (suc depth) lowered.lawful in r.memory) in
    let most = memory_most p lowered.lawful in
    let few : length memory ≤ 2 ^ 32 = omega (arith, size, most) in
    let f = lowered.form in
    let k = later.keeps in
    does_by_fewer (meaning_of p (suc depth)) (λ n. outcome old n memory) (λ n. outcome new n memory)
    (same p old lowered depth (sym later.calls ∙ calls)) (λ n. k.meaning n memory (size ∙ sym f.memory) few)
