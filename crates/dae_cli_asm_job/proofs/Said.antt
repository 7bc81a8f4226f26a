-- What is due for an assembly text without an image, by what is due for one.
use Rattle.std.proofs.Common.{◌≡◌, ◌⊎◌, inl, inr, ℕ, List, refl, ap, subst, sym}
use Rattle.dae_asm.specs.declared.errors.AsmError.{AsmError}
use Rattle.dae_asm_laws.proofs.Laws.{one_image, one_cause, no_cause}
use Rattle.dae_image.specs.declared.Image.{Image}
use Rattle.dae_cli_drive.specs.Images.{IsSingle}
use Rattle.dae_cli_drive.specs.Lines.{memory_line}
use Rattle.dae_cli_drive.specs.Puts.{Answer, told}
use Rattle.dae_cli_drive.specs.ImageFiles.{NoneOf}
use Rattle.dae_cli_drive.specs.Shelves.{ShelfSeen}
use Rattle.dae_cli_drive.specs.TextFiles.{DueOfTextFile, due_text, due_not_got, due_long, due_memory_for_text}
use Rattle.dae_cli_asm_job.specs.Assembling.{DueOfAssembly, due_said, due_fault, due_memory_to_assemble, DueOfAssemblyFile, IsAssembledOf, error_line}

text_without : {text : List ℕ} {DueOf : Image → Answer → Type 0} {a : Answer} → DueOfAssembly text NoneOf a → DueOfAssembly text DueOf a
text_without (due_said image says d) = absurd d
text_without (due_fault e other fault) = due_fault e other fault
text_without due_memory_to_assemble = due_memory_to_assemble

by_text : {name long : List ℕ} {most : ℕ} {s : ShelfSeen} {Of For : List ℕ → Answer → Type 0} {a : Answer} → ((text : List ℕ) → Of text a → For text a) → DueOfTextFile name most long s Of a → DueOfTextFile name most long s For a
by_text f (due_text text is d) = due_text text is (f text d)
by_text f (due_not_got failed) = due_not_got failed
by_text f (due_long text told more) = due_long text told more
by_text f due_memory_for_text = due_memory_for_text

pub file_without : {name : List ℕ} {s : ShelfSeen} {DueOf : Image → Answer → Type 0} {a : Answer} → DueOfAssemblyFile name s NoneOf a → DueOfAssemblyFile name s DueOf a
file_without d = by_text (λ text due. text_without due) d

pub file_with : {name : List ℕ} {s : ShelfSeen} {DueOf : Image → Answer → Type 0} {a : Answer} {image : Image} → IsAssembledOf s.told name image → DueOf image a → DueOfAssemblyFile name s DueOf a
file_with {image = image} h d = due_text h.text h.is (due_said image h.says d)

pub text_stop : {text : List ℕ} {x y : Answer} → (x ≡ y) ⊎ (x ≡ told 7 memory_line) → DueOfAssembly text NoneOf y → DueOfAssembly text NoneOf x
text_stop {text} (inl e) d = subst (λ (a : Answer). DueOfAssembly text NoneOf a) (sym e) d
text_stop {text} (inr e) d = subst (λ (a : Answer). DueOfAssembly text NoneOf a) (sym e) due_memory_to_assemble

-- ---- one answer

-- a text says one image, or has one fault
pub single_assembly : {text : List ℕ} {DueOf : Image → Answer → Type 0} → ((image : Image) → IsSingle (DueOf image)) → IsSingle (DueOfAssembly text DueOf)
single_assembly {text} {DueOf} single a b (due_said i says d) (due_said j says' d') m n =
    let same : i ≡ j = one_image text i j says says' in
    single j a b (subst (λ (x : Image). DueOf x a) same d) d' m n
single_assembly {text} single a b (due_said i says d) (due_fault e other fault) m n = absurd (other (no_cause text i e says fault))
single_assembly single a b (due_said i says d) due_memory_to_assemble m n = absurd (n refl)
single_assembly {text} single a b (due_fault e other fault) (due_said i says d) m n = absurd (other (no_cause text i e says fault))
single_assembly {text} single a b (due_fault e other fault) (due_fault f other' fault') m n = ap (λ (x : AsmError). told 2 (error_line x)) (one_cause text e f fault fault' other other')
single_assembly single a b (due_fault e other fault) due_memory_to_assemble m n = absurd (n refl)
single_assembly single a b due_memory_to_assemble d m n = absurd (m refl)
