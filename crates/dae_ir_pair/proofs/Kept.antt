-- What closed classes keep at each item, in one.
use Rattle.std.proofs.Common.{ℕ}
use Rattle.dae_ir.specs.Code.{Code, Done, Do, If, Loop, Each}
use Rattle.dae_ir.specs.Form.{Form, Program}
use Rattle.dae_ir.specs.Classes.{Classes, AddressesKept, NeedsKept, TestKept, AreClosed}
use Rattle.dae_ir.specs.declared.form.Item.{Item}
use Rattle.dae_ir.specs.declared.form.Test.{Test}

abbrev pub ItemKept : (ℕ → Classes) → Classes → Item → Type 0
ItemKept of c item = AddressesKept (λ f. (of f).s) c.s item × NeedsKept (λ f. (of f).needs) c.s c.needs item

abbrev pub ConditionKept : Classes → Test → Type 0
ConditionKept c t = TestKept c.s c.needs t

abbrev pub IsClosed : (ℕ → Classes) → Classes → Form → Type 0
IsClosed of c code = Each (ItemKept of c) (ConditionKept c) code

each_both : {M L T : Type 0} (I I' : L → Type 0) (J J' : T → Type 0) (code : Code M L T) → Each I J code → Each I' J' code → Each (λ item. I item × I' item) J' code
each_both I I' J J' Done a b = tt
each_both I I' J J' (Do mark item k) a b = ((a.0, b.0), each_both I I' J J' k a.1 b.1)
each_both I I' J J' (If mark t p q k) a b = (b.0, each_both I I' J J' p a.1 b.1, each_both I I' J J' q a.2 b.2, each_both I I' J J' k a.3 b.3)
each_both I I' J J' (Loop mark p q k) a b = (each_both I I' J J' p a.0 b.0, each_both I I' J J' q a.1 b.1, each_both I I' J J' k a.2 b.2)

pub is_closed : (p : Program) (of : ℕ → Classes) → AreClosed p of → (f : ℕ) → IsClosed of (of f) (p.body f)
is_closed p of closed f = each_both _ _ _ _ (p.body f) (closed.addresses f) (closed.needs f)
