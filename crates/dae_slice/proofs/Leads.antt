-- What the links of operands add.
use Rattle.std.proofs.Common.{◌≡◌, ℕ, Bool, true, false, ◌&&◌}
use Rattle.std.specs.Prelude.{Result, Ok, Err, OnOk}
use Rattle.std.proofs.lemmas.Bool.{and_from}
use Rattle.dae_base.proofs.Laws.{and_first, and_second}
use Rattle.dae_ir.specs.Classes.{has, has_test}
use Rattle.dae_ir.specs.declared.form.Operand.{Operand}
use Rattle.dae_ir.specs.declared.form.Test.{Test}
use Rattle.dae_slice.specs.Graphs.{Family, Adds}
use Rattle.dae_slice.specs.declared.graph.SliceNode.{SliceNode}
use Rattle.dae_slice.specs.declared.graph.Graph.{Graph}
use Rattle.dae_slice.proofs.Adds.{adds_none, adds_both, adds_as}

pub on_ok_more : {A B P Q : Type 0} (r : Result A B) → OnOk r P → (P → Q) → OnOk r Q
on_ok_more (Ok x) h f = f h
on_ok_more (Err e) h f = tt

-- where n is in the family, so are the operand's variables
abbrev pub Leads : ℕ → Operand → SliceNode → Family → Type 0
Leads f x n c = c n.function n.variable ≡ true → has (c f) x ≡ true

pub test_seeded : (f : ℕ) (t : Test) (a b c : Graph) → Adds (λ s. has (s f) t.left ≡ true) a b → Adds (λ s. has (s f) t.right ≡ true) b c → Adds (λ s. has_test (s f) t ≡ true) a c
test_seeded f t a b c h k =
    adds_as _ _ a c
    (λ s. (λ (p : (has (s f) t.left ≡ true) × (has (s f) t.right ≡ true)). and_from _ _ p.0 p.1, λ e. (and_first _ _ e, and_second _ _ e)))
    (adds_both (λ s. has (s f) t.left ≡ true) (λ s. has (s f) t.right ≡ true) a b c h k)

pub two_linked : (f : ℕ) (x y : Operand) (n : SliceNode) (a b c : Graph) → Adds (Leads f x n) a b → Adds (Leads f y n) b c → Adds (λ s. Leads f x n s × Leads f y n s) a c
two_linked f x y n a b c h k = adds_both (Leads f x n) (Leads f y n) a b c h k

pub pair_linked : (f : ℕ) (x y : Operand) (n : SliceNode) (a b : Graph) → Adds (λ s. Leads f x n s × Leads f y n s) a b → Adds (λ s. s n.function n.variable ≡ true → has (s f) x && has (s f) y ≡ true) a b
pair_linked f x y n a b h =
    adds_as (λ s. Leads f x n s × Leads f y n s) _ a b
    (λ s. (λ p i. and_from _ _ (p.0 i) (p.1 i), λ g. (λ i. and_first _ _ (g i), λ i. and_second _ _ (g i))))
    h

-- a demand that is met already, or one that must be made
pub already : (P : Family → Type 0) (b : Bool) (g : Graph) → b ≡ true → Adds (λ s. b ≡ false → P s) g g
already P b g e = adds_none (λ s. b ≡ false → P s) g (λ s f. cc)

pub demanded : (P : Family → Type 0) (b : Bool) (old new : Graph) → b ≡ false → Adds P old new → Adds (λ s. b ≡ false → P s) old new
demanded P b old new e h = adds_as P (λ s. b ≡ false → P s) old new (λ s. (λ p f. p, λ g. g e)) h
