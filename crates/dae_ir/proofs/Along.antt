-- What each step of a form keeps is kept by its calls.
use Rattle.std.proofs.Common.{ℕ, zero, suc, Bool, List, if◌then◌else◌, length, refl}
use Rattle.dae_base.specs.Words.{width_of}
use Rattle.dae_base.specs.declared.Width.{Width}
use Rattle.dae_base.proofs.Laws.{stored_bytes, stored_length}
use Rattle.dae_meaning.specs.declared.Spelling.{Spelling}
use Rattle.dae_meaning.specs.Worlds.{World, KeepsMemory, ticked, fetched, back}
use Rattle.dae_meaning.specs.Results.{Result, At, Over, turns, world_of}
use Rattle.dae_meaning.specs.Operations.{misplaced, spelled}
use Rattle.dae_meaning.specs.Variables.{Env}
use Rattle.dae_meaning.proofs.Laws.{IsCourse, Along, bind_along, turns_along, choice_along, within_along, checked_along, Prints, prints, keeps_memory}
use Rattle.dae_ir.specs.Code.{Code, Done, Do, If, Loop, CodeMeaning, exec}
use Rattle.dae_ir.specs.Form.{Program, Calls, value, values, fault, called, deeper, ended, with_stored, with_printed, does, meaning, calls_of}
use Rattle.dae_ir.specs.Laws.{Counting, MemoryKept}
use Rattle.dae_ir.specs.declared.form.Operand.{Operand}
use Rattle.dae_ir.specs.declared.form.Check.TheVariants.{Room}
use Rattle.dae_ir.specs.declared.form.Item.{Item}
use Rattle.dae_ir.specs.declared.form.Item.TheVariants.{Assign, Load, Store, Print, Expect, Break, Continue, Call, Return, Halt}

module _ {M L T E : Type 0} (P : World → World → Type 0) (c : IsCourse P) (m : CodeMeaning L T E) (does : (item : L) → Along P (m.does item)) where
  pub code_along : (n : ℕ) (code : Code M L T) → Along P (exec m n code)
  code_along n Done e w = c.same w
  code_along n (Do mark item k) e w = bind_along P c w (m.does item e w) _ (does item e w) (code_along n k)
  code_along n (If mark t p q k) e w =
      bind_along P c w (if m.holds t e then exec m n p e (ticked w) else exec m n q e (ticked w)) _
      (c.on w (ticked w) _ (c.tick w) (choice_along P c (m.holds t e) (ticked w) _ _ (code_along n p e (ticked w)) (code_along n q e (ticked w)))) (code_along n k)
  code_along n (Loop mark b s k) e w =
      bind_along P c w (turns (exec m n b) (exec m n s) n e w) _ (turns_along P c (exec m n b) (exec m n s) (code_along n b) (code_along n s) n e w) (code_along n k)

-- what the single steps of a form keep
pub record IsFormCourse (P : World → World → Type 0) : Type 0 where
  pub course : IsCourse P
  pub fetch : (b : Bool) (w : World) → P w (fetched b w)
  pub store : (width : Width) (address x : ℕ) (w : World) → P w (with_stored width address x w)
  pub print : (spelling : Spelling) (x : ℕ) (w : World) → P w (with_printed spelling x w)
  pub call : (xs : List Operand) (w : World) → P w (called xs w)
  pub enter : (p : Program) (f : ℕ) (w : World) → P w (deeper p f w)
  pub leave : (w u v : World) → P w u → P w (back v u)

module _ (P : World → World → Type 0) (c : IsFormCourse P) (p : Program) where
  ended_along : (got : Env → Env) (w v : World) (r : Result Env) → P w (world_of r) → P w (world_of (ended {E = Env} got v r))
  ended_along got w v (At way e u) h = c.leave w u v h
  ended_along got w v (Over end u) h = h

  module _ (counted : ℕ → Bool) (calls : Calls) (enters : (f : ℕ) (xs : List ℕ) (w : World) → P w (world_of (calls f xs w))) where
    pub does_along : (item : Item) → Along P (does p counted calls item)
    does_along (Assign v x) e w = c.course.tick w
    does_along (Load v kind x) e w = within_along P c.course (misplaced (width_of kind) (value x e) (length w.memory)) w _ (c.fetch (counted v) w)
    does_along (Store width x y) e w = within_along P c.course (misplaced width (value x e) (length w.memory)) w _ (c.store width (value x e) (value y e) w)
    does_along (Print spelling x) e w = c.print spelling (value x e) w
    does_along (Expect check) e w = c.course.on w (ticked w) _ (c.course.tick w) (checked_along P c.course (fault p check w e) e (ticked w))
    does_along Break e w = c.course.tick w
    does_along Continue e w = c.course.tick w
    does_along (Call v f xs) e w =
        within_along P c.course (fault p (Room f) w e) w _
        (ended_along _ w w (calls f (values xs e) (called xs w)) (c.course.on w (called xs w) _ (c.call xs w) (enters f (values xs e) (called xs w))))
    does_along (Return x) e w = c.course.tick w
    does_along (Halt x) e w = c.course.tick w

  pub calls_along : (counted : Counting) (n limit f : ℕ) (xs : List ℕ) (w : World) → P w (world_of (calls_of p counted n limit f xs w))
  calls_along counted n zero f xs w = c.course.same w
  calls_along counted n (suc limit) f xs w =
      c.course.on w (deeper p f w) _ (c.enter p f w)
      (code_along P c.course (meaning p (counted f) (calls_of p counted n limit)) (does_along (counted f) (calls_of p counted n limit) (calls_along counted n limit)) n (p.body f) _ (deeper p f w))

-- ---- output, and memory

pub form_prints : IsFormCourse Prints
form_prints = record {
  course = prints;
  fetch = λ b w. prints.same w;
  store = λ width address x w. prints.same w;
  print = λ spelling x w. (spelled spelling x, refl);
  call = λ xs w. prints.same w;
  enter = λ p f w. prints.same w;
  leave = λ w u v h. h;
}

form_keeps_memory : IsFormCourse KeepsMemory
form_keeps_memory = record {
  course = keeps_memory;
  fetch = λ b w. record { size = refl; bytes = λ h. h };
  store = λ width address x w. record { size = stored_length width address x w.memory; bytes = stored_bytes width address x w.memory };
  print = λ spelling x w. record { size = refl; bytes = λ h. h };
  call = λ xs w. record { size = refl; bytes = λ h. h };
  enter = λ p f w. record { size = refl; bytes = λ h. h };
  leave = λ w u v h. record { size = h.size; bytes = h.bytes };
}

pub memory_kept : (p : Program) (counted : Counting) → MemoryKept p counted
memory_kept p counted n limit f xs w = calls_along KeepsMemory form_keeps_memory p counted n limit f xs w
