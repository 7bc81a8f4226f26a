-- The forms of reads, conversions, operators, comparisons, `!` and `,` follow their evaluation.
use Rattle.std.proofs.Common.{◌≡◌, ℕ, ◌≤◌, Bool, true, false, not, nat_eq, if◌then◌else◌, refl, ap, ◌∙◌, arith}
use Rattle.dae_base.specs.Words.{extended}
use Rattle.dae_base.specs.declared.Place.{Place}
use Rattle.dae_base.specs.declared.LoadKind.{LoadKind}
use Rattle.dae_meaning.specs.Worlds.{World, ticked}
use Rattle.dae_meaning.specs.Operations.{compared}
use Rattle.dae_meaning.specs.Variables.{Env}
use Rattle.dae_ir.specs.Form.{value as held, holds, Calls, Program}
use Rattle.dae_ir.specs.Classes.{VariableSet}
use Rattle.dae_meaning.specs.declared.Operator.{Operator}
use Rattle.dae_meaning.specs.declared.Comparison.{Comparison}
use Rattle.dae_meaning.specs.declared.Comparison.TheVariants.{Equal}
use Rattle.dae_ir.specs.declared.form.Value.TheVariants.{Holds}
use Rattle.dae_ir.specs.declared.form.Operand.{Operand}
use Rattle.dae_ir.specs.declared.form.Operand.TheVariants.{Number}
use Rattle.dae_program.specs.Trees as tree
use Rattle.dae_program.specs.Trees.{Expression, Target, Expressions}
use Rattle.dae_program.specs.Outcomes.{Outcome, Gives, ◌⟫◌, read, Placed as AtPlace}
use Rattle.dae_program.specs.Expressions.{ProgramSetup, evaluate as value, operate as operates, bit}
use Rattle.dae_lower.specs.Lowering.{Made, nothing, set, ◌≫◌, or, nowhere, assigned, fetched, operated, narrowed, test_of, related, turn, Links, ways}
use Rattle.dae_lower.proofs.Relation.{lasts_wider}
use Rattle.dae_lower.proofs.Chains.{Follows, paid, spared, weaker, lasting, knowing, chain}
use Rattle.dae_lower.proofs.Leaves.{nothing_follows, set_follows, narrowed_follows, fetched_follows, operated_follows}
use Rattle.dae_lower.proofs.Branches.{Always}
use Rattle.dae_lower.proofs.Valued.{AsValue, AsCondition, Faithful, as_condition, or_nowhere, unary, binary, Start, cheap, cheaper, mapped, dearer, Anything, Nothing}

module _ (m n : ℕ) (s : ProgramSetup) (l : Links) (p : Program) (calls : Calls) where
  module _ (places : (k : ℕ) → s.address k ≡ l.address k) where
    pub read_value : (place : Place) (kind : LoadKind) (b : Bool) (a : Expression) → (Faithful m n s l p calls) (assigned a) (ways l a) (value s a) → (AsValue m n s l p calls) (assigned a) (λ later q. (ways l a).value later q ≫ fetched place kind b) (value s (tree.Read place kind b a))
    read_value place kind b a h later k low =
        (unary m n s l p calls) (assigned a) _ (value s a) (fetched place kind b) (λ x. read kind (AtPlace b x)) later k low h.value
        (λ o y i z. (cheap m n s l p calls) 3 o (omega arith) (fetched_follows m n p calls later o k place kind b y (λ x. x.1) (omega (arith, low, i)) i (λ x o u. u.1)))

    pub convert_value : (place : Place) (kind : LoadKind) (a : Expression) → (Faithful m n s l p calls) (assigned a) (ways l a) (value s a) → (AsValue m n s l p calls) (assigned a) (λ later q. (ways l a).value later q ≫ narrowed place kind) (value s (tree.Convert place kind a))
    convert_value place kind a h later k low =
        (unary m n s l p calls) (assigned a) _ (value s a) (narrowed place kind) (λ x. Gives (extended kind x)) later k low h.value
        (λ o y i z. (cheap m n s l p calls) 1 o (omega arith) (narrowed_follows m n p calls later o k k place kind y (λ x. x.1) (omega (arith, low, i)) i (omega arith) z (λ x o u. u.1)))

    pub convert_faithful : (place : Place) (kind : LoadKind) (a : Expression) → (Faithful m n s l p calls) (assigned a) (ways l a) (value s a) → (Faithful m n s l p calls) (assigned a) (ways l (tree.Convert place kind a)) (value s (tree.Convert place kind a))
    convert_faithful place kind a h = record {
      value = convert_value place kind a h;
      effect = λ later k low. (mapped m n s l p calls) k k (λ x env w. value s a env (ticked w)) (λ x. extended kind) ((dearer m n s l p calls) (h.effect later k low));
      condition = (as_condition m n s l p calls) (assigned a) _ _ (convert_value place kind a h);
    }

    pub binary_value : (place : Place) (operator : Operator) (a b : Expression) → (Faithful m n s l p calls) (assigned a) (ways l a) (value s a) → (Faithful m n s l p calls) (assigned b) (ways l b) (value s b) → (AsValue m n s l p calls) (or (assigned a) (assigned b)) (ways l (tree.Binary place operator a b)).value (value s (tree.Binary place operator a b))
    binary_value place operator a b h i later k low =
        (binary m n s l p calls) (assigned a) (assigned b) _ _ (value s a) (value s b) (operated place operator) (operates operator) later k low h.value i.value
        (λ o y z r u v. (cheaper m n s l p calls) 2 6 o (omega arith) (operated_follows m n p calls later o k place operator y z (λ x. x.0.1) (λ x. x.1) (omega (arith, low, r)) r (λ x o t. t.0.1) (λ x o t. t.1)))

    pub not_value : (place : Place) (a : Expression) → (Faithful m n s l p calls) (assigned a) (ways l a) (value s a) → (AsValue m n s l p calls) (assigned a) (ways l (tree.Not place a)).value (value s (tree.Not place a))
    unfolding compared
    not_value place a h later k low =
        (unary m n s l p calls) (assigned a) _ (value s a) (λ x. set place (Holds (test_of Equal x (Number 0)))) (λ x. Gives (bit (nat_eq x 0))) later k low h.value
        (λ o y i z. (cheap m n s l p calls) 1 o (omega arith) (set_follows m n p calls later o k place (Holds (test_of Equal y (Number 0))) (λ x env w. bit (nat_eq x.1 0)) (omega (arith, low, i)) i (λ x env o w a u. ap (λ t. if nat_eq t 0 then 1 else 0) u.1)))

    pub turned_decides : (t h b : Bool) → h ≡ (if t then b else not b) → h ≡ (if not t then nat_eq (bit b) 0 else not (nat_eq (bit b) 0))
    turned_decides true h true e = e
    turned_decides true h false e = e
    turned_decides false h true e = e
    turned_decides false h false e = e

    pub not_condition : (place : Place) (a : Expression) → (Faithful m n s l p calls) (assigned a) (ways l a) (value s a) → (AsCondition m n s l p calls) (assigned a) (ways l (tree.Not place a)).condition (value s (tree.Not place a))
    not_condition place a h later k j =
        weaker m n p calls 0 2 k 0 2 k (assigned a) (omega arith) (omega arith) (omega arith) (λ v z. or_nowhere (assigned a v) z)
        (chain m n p calls (λ c. nothing (turn c)) (λ x. Gives (bit (nat_eq x.1 0))) 0 2 2 k k k (assigned a) nowhere (omega arith) ((dearer m n s l p calls) (h.condition later k j)) (λ x e o u t. tt)
        (λ o i z. spared m n p calls 2 0 0 o (nothing_follows m n p calls later o k nowhere (turn ((ways l a).condition later k).given) (λ x env. bit (nat_eq x.1 0)) tt (λ x env o d u. turned_decides ((ways l a).condition later k).given.turned _ (nat_eq x.1 0) u.1))))

    pub not_faithful : (place : Place) (a : Expression) → (Faithful m n s l p calls) (assigned a) (ways l a) (value s a) → (Faithful m n s l p calls) (assigned a) (ways l (tree.Not place a)) (value s (tree.Not place a))
    not_faithful place a h = record {
      value = not_value place a h;
      effect = λ later k low. (mapped m n s l p calls) k k (λ x env w. value s a env (ticked w)) (λ x y. bit (nat_eq y 0)) ((dearer m n s l p calls) (h.effect later k low));
      condition = not_condition place a h;
    }

    -- one for its effects, and then another
    pub then_effect : {Y Z : Type 0} {Lasting : ℕ → Z → Type 0} {Is : Z → Y → Env → Type 0} (c d : VariableSet) (f : Made (Unit {0})) (g : ℕ → Made Z) (u : Env → World → Outcome ℕ) (v : ℕ → Env → World → Outcome Y) (k : ℕ) → Follows m n p calls 0 2 k k c Always (Anything {X = (Start m n s l p calls)}) Nothing f (λ x. u) → ((o : ℕ) → k ≤ o → Follows m n p calls 0 2 o k d Lasting (Anything {X = (Start m n s l p calls) × ℕ}) Is (g o) (λ x. v x.1)) → Follows m n p calls 0 2 k k (or c d) Lasting (Anything {X = (Start m n s l p calls)}) Is (f ≫ λ x. g) (λ x env w. u env (ticked w) ⟫ v)
    then_effect c d f g u v k h i =
        weaker m n p calls 0 13 k 0 2 k (or c d) (omega arith) (omega arith) (omega arith) (λ v z. z)
        (chain m n p calls (λ x. g) (λ x. v x.1) 0 11 13 k k k c d (omega arith) (paid m n p calls 0 2 k h) (λ x e o u t. tt)
        (λ o r z. knowing m n p calls 11 13 o (λ x. x) (λ x o u. tt) (spared m n p calls 11 0 2 o (i o r))))

    pub forget : {Y Z : Type 0} {Lasting : ℕ → Z → Type 0} {Is : Z → Y → Env → Type 0} {c : VariableSet} {made : Made Z} {g : Env → World → Outcome Y} (k o : ℕ) → Follows m n p calls 0 2 o k c Lasting (Anything {X = (Start m n s l p calls)}) Is made (λ x. g) → Follows m n p calls 0 2 o k c Lasting (Anything {X = (Start m n s l p calls) × ℕ}) Is made (λ x. g)
    forget k o h = knowing m n p calls 0 2 o (λ x. tt) (λ x o u. tt) h

    pub lower_base : {Y Z : Type 0} {Lasting : ℕ → Z → Type 0} {Is : Z → Y → Env → Type 0} {c : VariableSet} {made : Made Z} {f : (Start m n s l p calls) → Env → World → Outcome Y} (k o : ℕ) → k ≤ o → Follows m n p calls 0 2 o o c Lasting (Anything {X = (Start m n s l p calls)}) Is made f → Follows m n p calls 0 2 o k c Lasting (Anything {X = (Start m n s l p calls)}) Is made f
    lower_base {Y} {Z} {Lasting} {Is} {c} k o low h = weaker m n p calls 0 2 o 0 2 k c (omega arith) (omega arith) low (λ v z. z) h

    pub comma_faithful : (a b : Expression) → (Faithful m n s l p calls) (assigned a) (ways l a) (value s a) → (Faithful m n s l p calls) (assigned b) (ways l b) (value s b) → (Faithful m n s l p calls) (or (assigned a) (assigned b)) (ways l (tree.Comma a b)) (value s (tree.Comma a b))
    comma_faithful a b h i = record {
      value = λ later k low. then_effect (assigned a) (assigned b) _ _ (value s a) (λ x. value s b) k (h.effect (or later (assigned b)) k low)
          (λ o r. forget k o (lower_base k o r (lasting m n p calls 0 2 o (λ t z y. lasts_wider m later o t k t z r (omega arith) y) (i.value later o (omega (arith, low, r))))));
      effect = λ later k low. then_effect (assigned a) (assigned b) _ _ (value s a) (λ x. value s b) k (h.effect (or later (assigned b)) k low)
          (λ o r. forget k o (lower_base k o r (i.effect later o (omega (arith, low, r)))));
      condition = λ later k low. then_effect (assigned a) (assigned b) _ _ (value s a) (λ x. value s b) k (h.effect (or later (assigned b)) k low)
          (λ o r. forget k o (lower_base k o r (i.condition later o (omega (arith, low, r)))));
    }

    -- ---- comparisons

    pub related_holds : (comparison : Comparison) (turned : Bool) (y z : Operand) (o : Env) (a b : ℕ) → held y o ≡ a → held z o ≡ b → holds (related comparison turned y z) o ≡ (if turned then compared comparison b a else compared comparison a b)
    related_holds comparison true y z o a b h i = ap (λ t. compared comparison t (held y o)) i ∙ ap (λ t. compared comparison b t) h
    related_holds comparison false y z o a b h i = ap (λ t. compared comparison t (held z o)) h ∙ ap (λ t. compared comparison a t) i

    pub compare_faithful : (place : Place) (comparison : Comparison) (turned : Bool) (a b : Expression) → (Faithful m n s l p calls) (assigned a) (ways l a) (value s a) → (Faithful m n s l p calls) (assigned b) (ways l b) (value s b) → (Faithful m n s l p calls) (or (assigned a) (assigned b)) (ways l (tree.Compare place comparison turned a b)) (value s (tree.Compare place comparison turned a b))
    compare_faithful place comparison turned a b h i = record {
      value = λ later k low.
          (binary m n s l p calls) (assigned a) (assigned b) _ _ (value s a) (value s b) (λ y z. set place (Holds (related comparison turned y z))) (λ x y. Gives (bit (if turned then compared comparison y x else compared comparison x y))) later k low h.value i.value
          (λ o y z r u v. (cheaper m n s l p calls) 1 6 o (omega arith) (set_follows m n p calls later o k place (Holds (related comparison turned y z)) (λ x env w. bit (if turned then compared comparison x.1 x.0.1 else compared comparison x.0.1 x.1)) (omega (arith, low, r)) r (λ x env o w a t. ap bit (related_holds comparison turned y z o x.0.1 x.1 t.0.1 t.1))));
      effect = λ later k low.
          then_effect (assigned a) (assigned b) _ _ (value s a) (λ x env w. value s b env w ⟫ λ y. Gives (bit (if turned then compared comparison y x else compared comparison x y))) k (h.effect (or later (assigned b)) k low)
          (λ o r. (mapped m n s l p calls) o k (λ x. value s b) (λ x y. bit (if turned then compared comparison y x.1 else compared comparison x.1 y)) (forget k o (lower_base k o r (i.effect later o (omega (arith, low, r))))));
      condition = λ later k low.
          (binary m n s l p calls) (assigned a) (assigned b) _ _ (value s a) (value s b) (λ y z. nothing (record { test = related comparison turned y z; turned = false })) (λ x y. Gives (bit (if turned then compared comparison y x else compared comparison x y))) later k low h.value i.value
          (λ o y z r u v. (cheaper m n s l p calls) 0 6 o (omega arith) (nothing_follows m n p calls later o k nowhere (record { test = related comparison turned y z; turned = false }) (λ x env. bit (if turned then compared comparison x.1 x.0.1 else compared comparison x.0.1 x.1)) tt (λ x env o a t. related_holds comparison turned y z o x.0.1 x.1 t.0.1 t.1 ∙ bit_is _)));
    } where
      bit_is : (b : Bool) → b ≡ not (nat_eq (bit b) 0)
      bit_is true = refl
      bit_is false = refl
      -- ---- and, or, conditional
